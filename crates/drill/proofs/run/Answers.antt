-- Before each record the node is that after the reads so far. Assumes nothing.
use mathlib.Core.Path.{sym, ◌∙◌}
use borrow.Author.Rules.{rules}
use Rattle.drill.proofs.Running.{at_first, one_more_lem, at_the_end, out_of_numbers}
use Rattle.drill.proofs.run.Goals as goal

pub loop-number-init : goal.loop-number-init
loop-number-init c = at_first c.args.node.now

pub returns-then-is_break : goal.returns-then-is_break
returns-then-is_break c =
    at_the_end c.next.result c.loop-number.invariant c.next.ensures (sym c.is_break.ensures ∙ c.if-is_break.true)

pub loop-number-preserved : goal.loop-number-preserved
loop-number-preserved c =
    one_more_lem c.next.result c.loop-number.invariant c.next.ensures (sym c.is_break.ensures ∙ c.if-is_break.false)

pub returns-else-is_break : goal.returns-else-is_break
returns-else-is_break c =
    out_of_numbers
    (one_more_lem c.next.result c.loop-number.invariant c.next.ensures (sym c.is_break.ensures ∙ c.if-is_break.false))
    (search rules) (search rules)
