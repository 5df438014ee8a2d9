-- What the theorems on forgetting suppose is met, by computation from bytes; and who has which forget time. Assumes nothing.
use Prim.Native.Nat.{◌<◌}
use mathlib.Core.Path.{◌≡◌, refl, ap}
use mathlib.Core.Bool.{true, false}
use mathlib.Core.List.{List, [], ◌∷◌}
use native.Mathlib.Omega.{arith}
use Rattle.wire.specs.Fields.{address_at}
use Rattle.wire.specs.Head.{broken, head_of}
use Rattle.settings.specs.Kept.{TicksKept}
use Rattle.settings.specs.Ticks.{ticks_of}
use Rattle.settings.specs.Ranges.{in_range, defaults}
use Rattle.settings.specs.Reading.{fields_of, full_in, short_in, settings_in}
use Rattle.stations.specs.Stations.{present}
use Rattle.stations.specs.Table.{Each}
use Rattle.controller.specs.State.{Choice, State, started}
use Rattle.promises.specs.History.{Call, after, Always, AllBytes}
use Rattle.promises.specs.Room.{holds_hop}
use Rattle.promises.specs.Spans.{ticks_from, some_taken}
use Rattle.promises.specs.Drilled.{calls_for}
use Rattle.promises.specs.Possible.{all_bytes}
use Rattle.promises.specs.Examples.{station, tick, keepalive, report, short, full_with, ticks}
use Rattle.promises.specs.Forgetting.{moves, ticks_unheard, Aged, TenSeconds}
use Rattle.promises.proofs.Demand2.Possible.{all_bytes_lem}
use Rattle.promises.proofs.Forgetting.Forgetting.{forgotten, slow_stays}
use Rattle.promises.proofs.Forgetting.Unheard.{one, heard}

-- In ticks: short settings, full settings that name 300, and a start that was refused (no bytes: 2).
pub forget_times : ((ticks_from short).forget ≡ 1000) × ((ticks_from (full_with 300)).forget ≡ 30000) × ((settings_in []).result ≡ 2) × ((ticks_from []).forget ≡ 1000)
unfolding settings_in head_of broken short_in full_in fields_of in_range defaults address_at ticks_of
forget_times = (refl, refl, refl, refl)

-- Full settings that name 10 are the short ones.
pub named_10 : settings_in (full_with 10) ≡ settings_in short
unfolding settings_in head_of broken short_in full_in fields_of in_range defaults address_at
named_10 = refl

-- The shortest forget time, 200 ticks: station 2 is heard, and then not.
ranges : TicksKept (one 200).ticks
ranges = record {
  wtr = omega arith;
  holdoff = omega arith;
  keepalive_low = omega arith;
  keepalive = omega arith;
  fast_low = omega arith;
  fast = omega arith;
  slow_low = omega arith;
  slow = omega arith;
  forget_low = omega arith;
  forget = omega arith;
}

abbrev silence : List Call
silence = calls_for (heard ∷ ticks 200)

silent_bytes : AllBytes silence
unfolding all_bytes ticks
silent_bytes = all_bytes_lem silence refl

silent_for : ticks_unheard (station 2) (started (one 200)) 0 silence ≡ 200
unfolding ticks_unheard started after ticks address_at
silent_for = refl

pub forgotten_met : present (station 2) (after (started (one 200)) silence).stations ≡ false
forgotten_met = forgotten (one 200) ranges silence silent_bytes (station 2) (omega (arith, silent_for))

-- A node with a forget time of 30 seconds: station 2 is at hop 1 of ringlet 0; two ticks, a report that is newer, one that is old, a tick.
abbrev joined : State
joined = after (started (one 30000)) (calls_for (heard ∷ []))

abbrev since : List Call
since = calls_for (tick ∷ keepalive 0 ∷ tick ∷ report 0 255 2 2 0 0 ∷ report 0 255 2 1 0 0 ∷ tick ∷ [])

since_bytes : AllBytes since
unfolding all_bytes
since_bytes = all_bytes_lem since refl

joined_is : (joined.choice ≡ one 30000) × (holds_hop (station 2) 0 1 joined.stations ≡ true) × Aged (station 2) 0 joined.stations
unfolding started after holds_hop Each address_at
joined_is = (refl, refl, ((λ own. refl), tt))

longer : 10000 < (joined.choice.ticks).forget
longer = let is : joined.choice.ticks.forget ≡ 30000 = ap (λ (c : Choice). c.ticks.forget) joined_is.0 in omega (arith, is)

unmoved : some_taken joined.choice.address (moves (station 2) 0 1) since ≡ false
unfolding some_taken started after address_at
unmoved = refl

-- The old report does not make it younger: 1, 0, 0, 2, 1, 1, 0 ticks, the latest first.
often : Always (TenSeconds (station 2) 0 joined 0) since
unfolding Always ticks_unheard started after address_at
often = (
  record { heard = omega arith; up = refl },
  (
    record { heard = omega arith; up = refl },
    (
      record { heard = omega arith; up = refl },
      (
        record { heard = omega arith; up = refl },
        (record { heard = omega arith; up = refl }, (record { heard = omega arith; up = refl }, record { heard = omega arith; up = refl })),
      ),
    ),
  ),
)

pub slow_met : holds_hop (station 2) 0 1 (after joined since).stations ≡ true
slow_met =
    slow_stays joined longer (station 2) 0 1 0 (omega arith) (omega arith) joined_is.2 joined_is.1 since since_bytes unmoved often
