-- The span is what the call left, after its WTR step. Assumes nothing.
use Rattle.std.proofs.Common.{rules}
use Rattle.controller.proofs.sides.Spans.settle.Goals as goal

pub returns : goal.returns
returns g c = (c.handle.new.arg2, search rules, search rules)
