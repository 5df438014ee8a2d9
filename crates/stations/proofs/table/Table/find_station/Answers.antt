-- At the rank of an address stands its station, or none has it. Assumes nothing.
use Rattle.std.proofs.Common.{sym, ◌∙◌, ap, ltb-true, lt-ltb}
use mathlib.Core.Bool.{false≢true}
use Rattle.std.specs.Option.{is_some}
use Rattle.std.proofs.lemmas.List.{get_or_default}
use Rattle.stations.specs.Station.{Station}
use Rattle.stations.specs.Table.{Ascending, blank, found}
use Rattle.stations.proofs.Ranks.{find_hit, find_miss}
use Rattle.stations.proofs.table.Table.find_station.Goals as goal

pub returns-in-Some : goal.returns-in-Some
returns-in-Some c = record {
  found =
      let l = c.stations-stations.result.now in
      let inside = ltb-true _ _ (sym c.in-Some.ensures.lookup.0) in
      let here = c.in-Some.ensures.lookup.1 ∙ get_or_default l c.rank-at.result _ blank inside in
      find_hit c.args.address c.rank-at.result l c.rank-at.ensures inside (ap (λ (s : Station). s.address) (sym here) ∙ c.if-s-address.true)
      ∙ ap (found c.args.address) c.stations-stations.ensures.stations;
  kept = c.stations-stations.ensures.kept;
}

pub returns-in_default : goal.returns-in_default
returns-in_default c = record {
  found =
      let l = c.stations-stations.result.now in
      let up : Ascending l = rw c.stations-stations.ensures.stations c.stations-stations.ensures.kept.ascending in
      find_miss c.args.address c.rank-at.result l c.rank-at.ensures up (λ inside e.
      let here = c.in-Some.ensures.lookup.1 ∙ get_or_default l c.rank-at.result _ blank inside in
      c.if-s-address.false (ap (λ (s : Station). s.address) here ∙ e))
      ∙ ap (found c.args.address) c.stations-stations.ensures.stations;
  kept = c.stations-stations.ensures.kept;
}

pub returns-in_default-2 : goal.returns-in_default-2
returns-in_default-2 c = record {
  found =
      let l = c.stations-stations.result.now in
      let up : Ascending l = rw c.stations-stations.ensures.stations c.stations-stations.ensures.kept.ascending in
      find_miss c.args.address c.rank-at.result l c.rank-at.ensures up
      (λ inside e. false≢true (sym (ap is_some c.in_default.is) ∙ c.get.ensures.lookup.0 ∙ lt-ltb _ _ inside))
      ∙ ap (found c.args.address) c.stations-stations.ensures.stations;
  kept = c.stations-stations.ensures.kept;
}
