-- What a copy teaches. 01, Stations: "Distance 0 is a copy: only hop and age change."
use Rattle.std.specs.Prelude.{◌≡◌, ℕ, cond, List, [], ◌∷◌, ◌==◌}
use Rattle.std.proofs.Math.Option.{Option, none, some}
use Rattle.stations.specs.Station.{Station, Report, hop, Same, attributes_in}

-- The station of an address.
unfoldable pub station_at : ℕ → List Station → Option Station
station_at a [] = none
station_at a (s ∷ l) = cond (s.address == a) (some s) (station_at a l)

-- What a copy teaches of a station s, that is u after it.
pub record Taught (p : Report) (s u : Station) : Type 0 where
  pub learned : hop p.ringlet u ≡ p.hop
  pub other : (ringlet : ℕ) → (Same p.ringlet ringlet → ⊥) → hop ringlet u ≡ hop ringlet s
  pub age : u.age ≡ 0
  pub address : u.address ≡ s.address
  pub sequence : u.sequence ≡ s.sequence
  pub west : u.west ≡ s.west
  pub east : u.east ≡ s.east
  pub attributes : attributes_in u ≡ attributes_in s
