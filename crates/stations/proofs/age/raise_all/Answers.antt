-- One station more is a tick older. Assumes nothing.
use Rattle.std.proofs.Common.{get_or, arith}
use Rattle.std.proofs.lemmas.List.{get_or_default}
use Rattle.std.proofs.lemmas.List.Edits.{map_over_more}
use Rattle.stations.specs.Station.{older}
use Rattle.stations.specs.Table.{blank}
use Rattle.stations.proofs.age.raise_all.Goals as goal

pub loop-s-preserved : goal.loop-s-preserved
unfolding blank
loop-s-preserved c =
    map_over_more older c.args.stations.now c.loop-s.s-items c.loop-s.s-index (get_or c.loop-s.s-items c.loop-s.s-index blank) c.loop-s-test.true
    c.loop-s.invariant (get_or_default c.loop-s.s-items c.loop-s.s-index _ _ (omega (arith, c.loop-s.auto.s-items, c.loop-s-test.true)))
