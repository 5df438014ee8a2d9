-- Turn by turn the numbers so far are put at the end of the line. Assumes nothing.
use mathlib.Core.List.{append_assoc}
use native.Mathlib.Omega.{arith}
use borrow.Author.Rules.{rules}
use Rattle.drill.proofs.Puts.{spaced_more}
use Rattle.drill.proofs.line.put_numbers.Goals as goal

pub loop-n-preserved : goal.loop-n-preserved
loop-n-preserved c =
    let e = spaced_more c.args.numbers.now c.loop-n.n-index (search rules) in
    (rw (c.put_number.ensures.0, c.loop-n.invariant.0, e, append_assoc), omega arith)
