-- What the ticks left will do, from the node and the buffer as they are, is what the whole lacks. Assumes nothing.
use Rattle.std.proofs.Common.{◌-◌}
use Rattle.controller.proofs.Ticking.{Going}
use Rattle.controller.proofs.node.Node.take_ticks.Given as goal

abbrev pub invariant-loop : goal.invariant-loop
invariant-loop l = Going l.initial.self l.ticks l.initial.out l.self (l.ticks - l.counter) l.reports l.out
