-- The walk has come to hop j; the index says who holds the next hop, or that none does. Assumes nothing.
use Rattle.ways.proofs.Walking.{Come}
use Rattle.ways.proofs.walk.Course.walk_along.Given as goal

abbrev pub invariant-loop-j : goal.invariant-loop-j
invariant-loop-j l = Come l.self.ringlet l.self.own l.table l.j l.worst l.before l.end
