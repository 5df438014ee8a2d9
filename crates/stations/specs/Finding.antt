-- What it says of a list of stations that an address was found in it, or not.
use Rattle.std.specs.Prelude.{◌≡◌, ℕ, ◌<◌, true, false, List, length, get_or, slice_index_or}
use Rattle.std.proofs.Math.Option.{none, some}
use Rattle.stations.specs.Station.{Station, attributes_in}
use Rattle.stations.specs.Stations.{present, sequence_of, attributes_of}
use Rattle.stations.specs.Table.{blank}

-- The station of the address a stands at place i of l.
pub record Stands (a : ℕ) (l : List Station) (i : ℕ) : Type 0 where
  pub inside : i < length l
  pub address : (get_or l i blank).address ≡ a
  pub sequence : sequence_of a l ≡ some (get_or l i blank).sequence
  pub attributes : attributes_of a l ≡ some (attributes_in (slice_index_or l i blank))
  pub there : present a l ≡ true

-- No station has the address.
pub record Missing (a : ℕ) (l : List Station) : Type 0 where
  pub sequence : sequence_of a l ≡ none
  pub attributes : attributes_of a l ≡ none
  pub there : present a l ≡ false
