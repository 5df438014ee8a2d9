-- Before the first turn all stations are ahead. Assumes nothing.
use Rattle.std.proofs.Common.{rules}
use Rattle.ways.proofs.Slots.{filled_none}
use Rattle.ways.proofs.walk.fill_index.Goals as goal

pub loop-i-init : goal.loop-i-init
loop-i-init c = record {
  uncounted = search rules;
  filled =
      rw (c.into_iter-i-iterator.ensures.into_iter_gives, c.rev-i-items.ensures.source, c.enumerate.ensures.source, c.iter.ensures.rest, c.stations.ensures.stations)
      (filled_none c.args.ringlet c.args.table.now);
}
