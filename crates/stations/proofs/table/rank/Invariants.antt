-- The rank stays between the two ends, which close in by halves. Assumes nothing.
use Rattle.std.proofs.Common.{◌-◌, ◌≤◌, length}
use Rattle.stations.specs.Steps.{rank_of}
use Rattle.stations.proofs.table.rank.Given as goal

abbrev pub invariant-loop-low : goal.invariant-loop-low
invariant-loop-low l = (l.low ≤ rank_of l.fn.address l.fn.stations) × ((rank_of l.fn.address l.fn.stations ≤ l.high) × (l.high ≤ length l.fn.stations))

abbrev pub decreases-loop-low : goal.decreases-loop-low
decreases-loop-low l = l.high - l.low
