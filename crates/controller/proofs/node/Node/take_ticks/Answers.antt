-- A turn, and the reports that are there after it. Assumes nothing.
use Rattle.std.proofs.Common.{arith}
use Rattle.controller.proofs.Ticking.{turn, turn_fits}
use Rattle.controller.proofs.node.Node.take_ticks.Goals as goal

pub overflow_add-reports : goal.overflow_add-reports
overflow_add-reports c =
    record { fits = omega (arith, turn_fits c.loop.invariant (omega (arith, c.loop-test.true)) c.take_tick-reports.ensures, c.ranges.ticks) }

pub loop-preserved : goal.loop-preserved
loop-preserved c = turn c.loop.invariant (omega (arith, c.loop-test.true)) (omega arith) c.room_for.ensures c.take_tick-reports.ensures
