-- Before each record the node is that after the reads so far. Assumes nothing.
use Rattle.drill.proofs.Running.{Passing}
use Rattle.drill.proofs.run.Given as goal

abbrev pub invariant-loop-number : goal.invariant-loop-number
invariant-loop-number l = Passing l.initial.node l.node l.number
