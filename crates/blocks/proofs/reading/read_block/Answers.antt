-- Before the first turn nothing is read. Assumes nothing.
use Rattle.blocks.proofs.Rests.{rest_start}
use Rattle.blocks.proofs.reading.read_block.Goals as goal

pub loop-item-init : goal.loop-item-init
loop-item-init c = cc (rest_start c.args.level c.default-acc.result c.args.s.now c.default-acc.ensures.0 c.default-acc.ensures.1.0 c.default-acc.ensures.1.1)
