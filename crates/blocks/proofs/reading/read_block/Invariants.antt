-- Each turn keeps the answer for the whole block equal to what is still to come after the entries read. Assumes nothing.
use mathlib.Core.Path.{◌≡◌}
use lib.ListN.{length}
use Rattle.blocks.specs.Types.{knows}
use Rattle.blocks.specs.Entries.{cut}
use Rattle.blocks.specs.Meaning.{block_at}
use Rattle.blocks.specs.Steps.{rest}
use Rattle.blocks.proofs.reading.read_block.Given as goal

abbrev pub invariant-loop-item : goal.invariant-loop-item
invariant-loop-item l = block_at l.level l.s ≡ rest (knows l.level) l.acc (cut 0 l.ahead)

abbrev pub decreases-loop-item : goal.decreases-loop-item
decreases-loop-item l = length l.ahead
