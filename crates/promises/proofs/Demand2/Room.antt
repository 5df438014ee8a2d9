-- There is always a place: of bytes, and of the program after any calls; and so 23 is never answered. Assumes nothing.
use Prim.Native.Nat.{ℕ, ◌<◌}
use mathlib.Core.Path.{◌≡◌}
use mathlib.Core.Bool.{false≢true}
use mathlib.Core.List.{List}
use lib.ListN.{length}
use Rattle.wire.specs.Fields.{Bytes}
use Rattle.blocks.specs.Types.{among}
use Rattle.stations.specs.declared.station.Report.{Report}
use Rattle.stations.specs.Stations.{capacity, displaced}
use Rattle.stations.proofs.Keeping.{place}
use Rattle.controller.specs.State.{State}
use Rattle.controller.specs.Node.{Node, Answer, Started, state_of}
use Rattle.controller.specs.Kept.{StateKept}
use Rattle.controller.specs.Promise.{Begun, Recorded}
use Rattle.controller.proofs.ReadKept.{reading_kept}
use Rattle.promises.specs.History.{Made, node_after, Met}
use Rattle.promises.specs.Room.{Newcomer}
use Rattle.promises.proofs.Demand1.Demand1.{results-listed}
use Rattle.promises.proofs.Demand2.Coming.{ruled}

-- Of a table that is kept, and any bytes that are a report: after (e) there is a place.
pub place_in : (s : State) → StateKept s → (b : List ℕ) (room : ℕ) → Bytes b → (n : ℕ) (p : Report) → Newcomer s b room n p
    → length (displaced p s.stations) < capacity
place_in s k b room bytes n p new =
    let (span, heard) = rw new.reads at (reading_kept s.choice.address b room bytes) in
    place s.choice.address s.choice.ticks.forget s.choice.known p heard s.stations k.stations new.unknown

-- Of the program, after any calls.
pub always_a_place : (b : List ℕ) (st : Started) → Begun b st → (h : List Made) → Met st h → (c : List ℕ) (room : ℕ) → Bytes c → (n : ℕ) (p : Report)
    → Newcomer (state_of (node_after st h)) c room n p → length (displaced p (state_of (node_after st h)).stations) < capacity
always_a_place b st begun h met c = place_in (state_of (node_after st h)) (ruled b st begun h met).kept.state c

-- "take result 23 out": no call answers it.
pub never_23 : (n : Node) (b old new : List ℕ) (r : Answer) → Recorded n b old new r → r.result ≡ 23 → ⊥
unfolding among
never_23 n b old new r h is = false≢true (rw is at (results-listed n b old new r h))
