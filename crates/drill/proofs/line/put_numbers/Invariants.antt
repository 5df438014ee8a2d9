-- Turn by turn the numbers so far are put at the end of the line. Assumes nothing.
use Prim.Native.Nat.{◌+◌, ◌*◌, ◌≤◌}
use mathlib.Core.Path.{◌≡◌}
use mathlib.Core.List.{◌++◌}
use lib.ListN.{length, take}
use Rattle.drill.specs.Promise.{spaced}
use Rattle.drill.proofs.line.put_numbers.Given as goal

abbrev pub invariant-loop-n : goal.invariant-loop-n
invariant-loop-n l =
    (l.line.items ≡ l.initial.line.items ++ spaced (take l.n-index l.numbers)) × (length l.line.items ≤ length l.initial.line.items + 21 * l.n-index)
