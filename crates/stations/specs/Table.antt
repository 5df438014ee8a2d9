-- The table: stations in ascending order of their addresses.
use Rattle.std.specs.Prelude.{◌≡◌, ℕ, suc, ◌<◌, ◌≤◌, true, false, cond, Option, Some, None, List, [], ◌∷◌, length, ◌==◌}
use Rattle.stations.specs.Station.{Station, farthest, hop, placed_somewhere}
use Rattle.stations.specs.Stations.{capacity}

-- What stands in a place that is not in use.
unfoldable pub blank : Station
blank = record {
  address = 0;
  hop0 = 0;
  hop1 = 0;
  sequence = 0;
  west = 0;
  east = 0;
  age = 0;
  kind = 0;
  reserved0 = 0;
  reserved1 = 0;
  weight0 = 0;
  weight1 = 0;
  behind = false;
}

unfoldable pub Each : (Station → Type 0) → List Station → Type 0
Each P [] = Unit {0}
Each P (s ∷ l) = P s × Each P l

-- "in ascending address order".
unfoldable pub Ascending : List Station → Type 0
unfolding Each
Ascending [] = Unit {0}
Ascending (s ∷ l) = Each (λ (x : Station). s.address < x.address) l × Ascending l

-- "No two stations share a hop on a ringlet".
unfoldable pub Apart : ℕ → List Station → Type 0
unfolding Each
Apart ringlet [] = Unit {0}
Apart ringlet (s ∷ l) = Each (λ (x : Station). hop ringlet x ≡ hop ringlet s → hop ringlet s ≡ 0) l × Apart ringlet l

-- Neither hop is beyond the farthest.
abbrev pub Near : Station → Type 0
Near s = (s.hop0 ≤ farthest) × (s.hop1 ≤ farthest)

-- What holds of every table: its stations fit and stand "in ascending address order", no two share a hop, each has one, and none is beyond the farthest.
pub record TableKept (l : List Station) : Type 0 where
  pub few : length l ≤ capacity
  pub ascending : Ascending l
  pub apart : (ringlet : ℕ) → Apart ringlet l
  pub heard : Each (λ (s : Station). placed_somewhere s ≡ true) l
  pub near : Each Near l

-- The place of the first station with an address, counted from i.
unfoldable pub found_from : ℕ → ℕ → List Station → Option ℕ
found_from i a [] = None
found_from i a (s ∷ l) = cond (s.address == a) (Some i) (found_from (suc i) a l)

unfoldable pub found : ℕ → List Station → Option ℕ
unfolding found_from
found a l = found_from 0 a l

-- 01: "Whenever an answer is an enum, a definition gives this paper's number and values for each of the enum's cases."
-- 3 "not in the table"; else 0, and the place.
abbrev pub found_number : Option ℕ → ℕ
found_number None = 3
found_number (Some i) = 0

abbrev pub found_values : Option ℕ → List ℕ
found_values None = []
found_values (Some i) = i ∷ []
