-- What the calls left will add, from the node as it is, is what the sum lacks; the room stays that of the buffer. Assumes nothing.
use Rattle.std.proofs.Common.{◌≡◌, ◌≤◌, ◌+◌, ◌-◌, ◌*◌, length}
use Rattle.bench.specs.Runs.{carried}
use Rattle.bench.proofs.runs.carry.Given as goal

abbrev pub invariant-loop : goal.invariant-loop
invariant-loop l = record {
  room : length l.out ≡ length l.initial.out;
  small : l.sum ≤ 4294967295 * l.counter;
  due : l.sum + carried (length l.initial.out) l.bytes (l.calls - l.counter) l.node
      ≡ carried (length l.initial.out) l.bytes l.calls l.initial.node;
}
