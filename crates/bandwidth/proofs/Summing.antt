-- The pass over the table, station by station. Assumes nothing.
use Rattle.std.proofs.Common.{◌≡◌, ℕ, ◌+◌, ◌*◌, ◌≤◌, Bool, true, false, cond, List, [], ◌∷◌, length, Result, Ok, Err, arith, refl, ap, eqb}
use Rattle.std.proofs.lemmas.Grind.{common_steps}
use Rattle.std.proofs.Math.Option.{Option, none, some}
use Rattle.blocks.specs.declared.attributes.Attributes.{Attributes}
use Rattle.stations.specs.declared.station.Station.{Station}
use Rattle.stations.specs.Table.{Each}
use Rattle.stations.specs.Kept.{StationKept}
use Rattle.bandwidth.specs.Free.{Unanswered, Behind, reservation, reservations, first_behind}
use Rattle.bandwidth.specs.Steps.{Sums, sums_of, sums_from}

-- The sums of a list behind one that gave x and y.
abbrev plus_with : ℕ → ℕ → Option ℕ → List Station → Result Sums Unanswered
plus_with x y none l = Ok (record { ringlet0 = x + reservations 0 l; ringlet1 = y + reservations 1 l })
plus_with x y (some address) l = Err (Behind address)

from_any : (x y : ℕ) (l : List Station) → sums_from x y l ≡ plus_with x y (first_behind l) l
unfolding sums_from first_behind reservations
from_any x y [] = grind (arith, common_steps)
from_any x y (s ∷ l) = grind (arith, common_steps, from_any (x + s.reserved0) (y + s.reserved1) l)

pub from_none : (l : List Station) → sums_from 0 0 l ≡ sums_of l
from_none l = grind (arith, common_steps, from_any 0 0 l)

-- No station reserves more than a word of two bytes says.
module _ (own forget : ℕ) (K : List ℕ) (ringlet : ℕ) where
  reservation-low : (s : Station) → StationKept own forget K s → reservation ringlet s ≤ 65535
  reservation-low s k = go (eqb ringlet 0) s.behind refl
    where
      go : (t b : Bool) → s.behind ≡ b → cond t s.reserved0 s.reserved1 ≤ 65535
      go true true e = let h = ap (λ (x : Attributes). x.reserved0) (k.attributes.late e).2 in omega arith
      go false true e = let h = ap (λ (x : Attributes). x.reserved1) (k.attributes.late e).2 in omega arith
      go true false e = let h = k.attributes.values e in omega arith
      go false false e = let h = k.attributes.values e in omega arith

  pub reservations-low : (l : List Station) → Each (StationKept own forget K) l → reservations ringlet l ≤ 65535 * length l
  unfolding reservations Each
  reservations-low [] e = omega arith
  reservations-low (s ∷ l) e = omega (arith, reservation-low s e.0, reservations-low l e.1)
