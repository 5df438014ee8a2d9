-- The span down, not in the table, malformed, set aside, or taken. Assumes nothing.
use Rattle.std.proofs.Common.{sym, ◌∙◌, ap}
use Rattle.std.specs.Prelude.{Ok, Err}
use Rattle.std.proofs.lemmas.Result.{err_from_is_err_and}
use Rattle.blocks.specs.Types.{knows}
use Rattle.blocks.specs.Meaning.{meaning, block_at}
use Rattle.blocks.specs.Attributes.{behind_with}
use Rattle.stations.specs.Station.{with_attributes}
use Rattle.stations.specs.Stations.{given}
use Rattle.stations.proofs.Places.{found_stands, set-renewed}
use Rattle.controller.specs.Handling.{gives, learning}
use Rattle.controller.proofs.Judging.{block_err, taking_malformed, taking_aside, taking-values}
use Rattle.controller.proofs.judge.learn.Goals as goal

pub returns-in_err-kind : goal.returns-in_err-kind
unfolding learning block_at
returns-in_err-kind c =
    let up = rw c.span.ensures at (sym c.down.ensures ∙ c.if-down.false) in
    let stands = found_stands c.args.address c.args.table.now c.in-Some.at (sym c.find_station.ensures.found ∙ c.in-Some.is) in
    let p = err_from_is_err_and c.from_residual.result c.from_residual.ensures.1 in
    let read = sym c.read_block.ensures ∙ c.in_err-kind.was in
    let why = block_err (meaning (knows c.args.level) c.args.block.now) _ read in
    rw (up, stands.there, p.1, p.2, why) (sym (taking_malformed c.args.address c.args.table.now (meaning (knows c.args.level) c.args.block.now) (read ∙ ap Err why)))

pub returns-in-Aside : goal.returns-in-Aside
unfolding learning block_at given
returns-in-Aside c =
    let up = rw c.span.ensures at (sym c.down.ensures ∙ c.if-down.false) in
    let stands = found_stands c.args.address c.args.table.now c.in-Some.at (sym c.find_station.ensures.found ∙ c.in-Some.is) in
    let read = sym c.read_block.ensures ∙ c.in_ok-kind.was ∙ ap Ok c.in-Aside.is in
    rw (up, stands.there, taking_aside c.args.address c.args.table.now (meaning (knows c.args.level) c.args.block.now) c.in-Aside.kind read, c.give_attributes.ensures, c.behind_with.ensures)
    (ap (gives 24) (set-renewed c.args.address (with_attributes (behind_with c.in-Aside.kind)) c.args.table.now c.in-Some.at c.find_station.ensures.kept.ascending stands.inside stands.address))

pub returns-in-Values : goal.returns-in-Values
unfolding learning block_at given
returns-in-Values c =
    let up = rw c.span.ensures at (sym c.down.ensures ∙ c.if-down.false) in
    let stands = found_stands c.args.address c.args.table.now c.in-Some.at (sym c.find_station.ensures.found ∙ c.in-Some.is) in
    let read = sym c.read_block.ensures ∙ c.in_ok-kind.was ∙ ap Ok c.in-Values.is in
    rw (up, stands.there, taking-values c.args.address c.args.table.now (meaning (knows c.args.level) c.args.block.now) _ _ _ _ read, c.give_attributes-in-Values.ensures)
    (ap (gives 0) (set-renewed c.args.address (with_attributes _) c.args.table.now c.in-Some.at c.find_station.ensures.kept.ascending stands.inside stands.address))
