-- The rank stays between the two ends, which close in by halves. Assumes nothing.
use Rattle.std.proofs.Common.{◌+◌, ◌/◌, arith}
use Rattle.stations.proofs.Ranks.{rank-low, rank_left, rank_right}
use Rattle.stations.proofs.table.rank.Goals as goal

pub loop-low-init : goal.loop-low-init
loop-low-init c = (omega arith, (rank-low c.args.address c.args.stations.now, omega arith))

pub loop-low-preserved-then-stations-middle : goal.loop-low-preserved-then-stations-middle
loop-low-preserved-then-stations-middle c = (
  omega (arith, rank_right c.args.address ((c.loop-low.low + c.loop-low.high) / 2) c.args.stations.now _ c.requires (omega (arith, c.loop-low.invariant.1.1, c.loop-low-test.true)) c.if-stations-middle.true),
  (c.loop-low.invariant.1.0, c.loop-low.invariant.1.1),
)

pub loop-low-preserved : goal.loop-low-preserved
loop-low-preserved c = (
  c.loop-low.invariant.0,
  (
    rank_left c.args.address ((c.loop-low.low + c.loop-low.high) / 2) c.args.stations.now _ (omega (arith, c.loop-low.invariant.1.1, c.loop-low-test.true)) c.if-stations-middle.false,
    omega (arith, c.loop-low.invariant.1.1, c.loop-low-test.true),
  ),
)
