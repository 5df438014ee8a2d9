-- The stations passed are summed; the first that is behind ends the pass. Assumes nothing.
use Rattle.std.proofs.Common.{◌≡◌, ℕ, ◌*◌, ◌≤◌, List, drop}
use Rattle.stations.specs.declared.station.Station.{Station}
use Rattle.bandwidth.specs.Steps.{sums_of, sums_from}
use Rattle.bandwidth.proofs.sums.add_up.Given as goal

pub record Summed (l : List Station) (i x y : ℕ) : Type 0 where
  pub rest : sums_from x y (drop i l) ≡ sums_of l
  pub low0 : x ≤ 65535 * i
  pub low1 : y ≤ 65535 * i

abbrev pub invariant-loop-s : goal.invariant-loop-s
invariant-loop-s l = Summed l.stations l.s-index l.ringlet0 l.ringlet1
