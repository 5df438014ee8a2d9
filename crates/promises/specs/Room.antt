-- 02, Item 6: "Room for every station a ring can show."
use Rattle.std.specs.Prelude.{ℕ, zero, suc, ◌+◌, ◌-◌, ◌≡◌, Bool, false, ◌&&◌, ◌||◌, List, [], ◌∷◌, ◌++◌, eqb}
use Rattle.std.proofs.Math.Option.{none}
use Rattle.stations.specs.declared.station.Station.{Station}
use Rattle.stations.specs.declared.station.Report.{Report}
use Rattle.stations.specs.Station.{farthest, hop}
use Rattle.stations.specs.Stations.{sequence_of}
use Rattle.controller.specs.Reading.{Heard}
use Rattle.controller.specs.Reading.{reading}
use Rattle.controller.specs.State.{State}
use Rattle.promises.specs.History.{Call}
use Rattle.promises.specs.Examples.{report}
use Rattle.promises.specs.LevelDrills.{call}

-- The bytes b are a report p, heard on span n, of a station that is not in the table.
pub record Newcomer (s : State) (b : List ℕ) (room n : ℕ) (p : Report) : Type 0 where
  pub reads : reading s.choice.address b room ≡ Heard n p
  pub unknown : sequence_of p.address s.stations ≡ none

-- The station of the address a holds the hop h of a ringlet.
unfoldable pub holds_hop : ℕ → ℕ → ℕ → List Station → Bool
holds_hop a ringlet h [] = false
holds_hop a ringlet h (s ∷ l) = (eqb s.address a && eqb (hop ringlet s) h) || holds_hop a ringlet h l

-- "both ringlets full of different stations while two rings were being joined": k stations at the hops 1 to k of a ringlet, the latest first.
unfoldable pub crowd : ℕ → ℕ → ℕ → List Call
crowd ringlet first zero = []
crowd ringlet first (suc k) = call (report ringlet (255 - k) (first + k) 1 0 0) ∷ crowd ringlet first k

-- Stations 2 to 64 on ringlet 0 alone, and 65 to 127 on ringlet 1 alone.
abbrev pub two_rings : List Call
two_rings = crowd 1 65 farthest ++ crowd 0 2 farthest
