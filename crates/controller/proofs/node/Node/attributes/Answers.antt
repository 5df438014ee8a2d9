-- Not in the table, or the attributes of the station found. Assumes nothing.
use Rattle.std.proofs.Common.{sym, ◌∙◌, ap}
use Rattle.std.proofs.lemmas.List.{get_or_default}
use mathlib.Core.Option.{some}
use Rattle.stations.specs.Station.{attributes_in}
use Rattle.stations.specs.Table.{blank}
use Rattle.stations.proofs.Places.{found_none, found_stands}
use Rattle.controller.specs.Node.{asked, shown}
use Rattle.controller.proofs.node.Node.attributes.Goals as goal

pub returns-in_err-at : goal.returns-in_err-at
unfolding asked
returns-in_err-at c =
    rw (c.from_residual.ensures, ← c.self.view_is, (found_none c.args.address c.self.inside.table (sym c.find_station.ensures.found ∙ c.in_err-at.was)).attributes)

pub returns : goal.returns
unfolding asked
returns c =
    let stands = found_stands c.args.address c.self.inside.table c.in_ok-at.at (sym c.find_station.ensures.found ∙ c.in_ok-at.was) in
    let here = rw c.station_at.ensures at c.attributes.ensures in
    rw (← c.self.view_is, stands.attributes) (ap (λ x. shown (some x)) (here ∙ ap attributes_in (get_or_default c.self.inside.table c.in_ok-at.at _ blank stands.inside)))
