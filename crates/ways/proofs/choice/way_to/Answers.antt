-- The station found gives both hops, and what is told is of the direction chosen. Assumes nothing.
use Rattle.std.proofs.Common.{sym, ◌∙◌}
use Rattle.stations.specs.Table.{blank}
use Rattle.ways.proofs.Sides.{way_known}
use Rattle.ways.proofs.choice.way_to.Goals as goal

pub returns : goal.returns
unfolding blank
returns c =
    c.tell-2.ensures
    ∙ rw (c.named.ensures, c.choose-reply.ensures, c.way-west_way.ensures, c.way-east_way.ensures, c.station_at-s.ensures)
    (way_known c.args.west c.args.east c.args.address c.in-Some.at c.args.table.now (sym c.in-Some.ensures.found))
