-- What ManyTicks supposes is met, by computation: node 1 that has started takes thirty ticks in one record and in thirty, and writes its first three fast reports. Assumes nothing.
use mathlib.Core.Path.{◌≡◌, refl}
use mathlib.Core.Bool.{true}
use mathlib.Core.List.{List, [], ◌∷◌}
use Prim.Native.Nat.{ℕ, zero, suc}
use lib.ListN.{replicate}
use Rattle.wire.specs.Head.{broken}
use Rattle.wire.specs.Report.{report_bytes, over}
use Rattle.settings.specs.Ticks.{ticks_of}
use Rattle.controller.specs.Reading.{many_ticks}
use Rattle.controller.specs.Record.{outcomes}
use Rattle.controller.specs.Node.{state_of, answer_of}
use Rattle.controller.specs.Promise.{Recorded}
use Rattle.promises.specs.History.{tick_with, Made, made_of, Met}
use Rattle.promises.specs.Possible.{Handed, AllHanded, made, are_bytes}
use Rattle.promises.specs.Examples.{tick, many}
use Rattle.promises.specs.Cases.{fresh}
use Rattle.promises.specs.ManyTicks.{from, SameAs}
use Rattle.promises.proofs.Demand1.Meets1.{fresh_kept}
use Rattle.promises.proofs.Demand2.Possible.{made_met, are_bytes_lem}
use Rattle.promises.proofs.Demand2.ManyTicks.{many_as_single}

-- A buffer with room for thirty reports.
abbrev room : List ℕ
room = replicate 210 0

abbrev one : Handed
one = record { bytes = tick; old = room }

-- Thirty records of one tick ..
pub thirty_met : Met (from fresh) (made (from fresh) (replicate 30 one))
unfolding AllHanded are_bytes
thirty_met = made_met (from fresh) (replicate 30 one) (each 30)
  where
    each : (n : ℕ) → AllHanded (replicate n one)
    each zero = tt
    each (suc n) = (are_bytes_lem tick refl, each n)

pub thirty_calls : made_of (made (from fresh) (replicate 30 one)) ≡ replicate 30 (tick_with 210)
unfolding made made_of
thirty_calls = refl

-- .. and one of thirty.
abbrev all : Made
all = record {
  bytes = many 30;
  old = room;
  new = over (outcomes (state_of fresh) (many 30) 210).report room;
  answer = answer_of fresh (outcomes (state_of fresh) (many 30) 210);
}

pub all_met : Recorded fresh (many 30) room all.new all.answer
unfolding Met made AllHanded are_bytes
all_met = (made_met (from fresh) (record { bytes = many 30; old = room } ∷ []) (are_bytes_lem (many 30) refl, tt)).0 fresh_kept

pub all-taken : many_ticks (many 30) 210 ≡ true
unfolding many_ticks broken
all-taken = refl

pub all_same : SameAs fresh all (made (from fresh) (replicate 30 one))
all_same = many_as_single fresh fresh_kept all all_met all-taken (made (from fresh) (replicate 30 one)) thirty_met thirty_calls

-- Three reports, of one and the same sequence: nothing has changed.
pub all_three : (all.answer.reports ≡ 3) × (all.answer.result ≡ 0)
unfolding fresh outcomes report_bytes ticks_of
all_three = (refl, refl)
