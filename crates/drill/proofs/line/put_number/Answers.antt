-- The kit spells the number in at most 20 digits; they and the byte follow one another. Assumes nothing.
use borrow.Author.Rules.{rules}
use Rattle.drill.proofs.Puts.{number_put}
use Rattle.drill.proofs.line.put_number.Goals as goal

pub returns : goal.returns
returns c =
    number_put _ _ _ (search rules) c.decimal-count.ensures.len c.decimal-count.ensures.digits c.decimal-count.ensures.in_bounds.1
    c.put_word.ensures c.push.ensures.items
