-- Each call so far added the same, and no more than 65,535. Assumes nothing.
use Rattle.std.proofs.Common.{◌≡◌, ◌≤◌, ◌*◌, ℕ}
use Rattle.bench.proofs.runs.repeat.Given as goal

abbrev pub invariant-loop : goal.invariant-loop
invariant-loop g l = record {
  small : l.sum ≤ 65535 * l.counter;
  same : (x : ℕ) → ((r : ℕ) → goal.F-post g l.ask 0 r → r ≡ x) → l.sum ≡ l.counter * x;
}
