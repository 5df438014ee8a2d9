-- What is left of each ringlet fits, so it reads back from its bits as it is. Assumes nothing.
use Rattle.std.proofs.Common.{arith}
use Rattle.std.proofs.lemmas.Grind.{common_steps}
use Rattle.blocks.proofs.Known.{knows_2}
use Rattle.bandwidth.specs.Free.{unreserved, free_bandwidth}
use Rattle.bandwidth.proofs.Differences.{read_back}
use Rattle.bandwidth.proofs.free.free_bandwidth.Goals as goal

pub returns : goal.returns
unfolding free_bandwidth unreserved
returns c =
    rw (
      read_back {rate = c.args.rate} (omega arith) c.ranges.own0.fits c.in_ok-others.ensures.low.0 c.unreserved.ensures,
      read_back {rate = c.args.rate} (omega arith) c.ranges.own1.fits c.in_ok-others.ensures.low.1 c.unreserved-2.ensures,
    ) (grind (arith, common_steps, knows_2))
