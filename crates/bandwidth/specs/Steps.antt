-- What the pass over the table gives. No rule stands here.
use Rattle.std.specs.Prelude.{ℕ, ◌+◌, cond, List, [], ◌∷◌, Result, Ok, Err}
use Rattle.std.proofs.Math.Option.{Option, none, some}
use Rattle.stations.specs.declared.station.Station.{Station}
use Rattle.bandwidth.specs.Free.{Unanswered, Behind, reservations, first_behind}
pub use Rattle.bandwidth.specs.declared.sums.Sums.{Sums}

abbrev pub sums_with : Option ℕ → List Station → Result Sums Unanswered
sums_with none l = Ok (record { ringlet0 = reservations 0 l; ringlet1 = reservations 1 l })
sums_with (some address) l = Err (Behind address)

abbrev pub sums_of : List Station → Result Sums Unanswered
sums_of l = sums_with (first_behind l) l

-- The rest of the pass, where the stations before gave x and y.
unfoldable pub sums_from : ℕ → ℕ → List Station → Result Sums Unanswered
sums_from x y [] = Ok (record { ringlet0 = x; ringlet1 = y })
sums_from x y (s ∷ l) = cond s.behind (Err (Behind s.address)) (sums_from (x + s.reserved0) (y + s.reserved1) l)
