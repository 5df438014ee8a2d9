-- The stations below k were heard. Assumes nothing.
use Rattle.std.proofs.Common.{◌≡◌, ◌≤◌, ◌+◌, ◌-◌}
use Rattle.bench.specs.Ring.{ring_to}
use Rattle.bench.proofs.ring.ring.Given as goal

abbrev pub invariant-loop-k : goal.invariant-loop-k
invariant-loop-k l = (l.node ≡ ring_to l.size.stations (l.k - 1)) × (l.k ≤ l.size.stations + 1)
