-- Those who stay have room for a tick more, and what is left is a table. Assumes nothing.
use Rattle.std.proofs.Common.{◌≡◌, arith, ◌∙◌, ap, length}
use Rattle.std.proofs.lemmas.List.{length-map}
use Rattle.stations.specs.Station.{older}
use Rattle.stations.specs.Stations.{aged}
use Rattle.stations.proofs.Retaining.{aged-steps, young_stay, refill_same}
use Rattle.stations.proofs.Tables.{aged_table}
use Rattle.stations.proofs.table.Table.raise_ages.Goals as goal

pub raise_all-requires : goal.raise_all-requires
raise_all-requires c = rw (c.as_mut_slice.ensures.value, c.drop_old.ensures) (young_stay c.args.forget (omega arith) _)

pub invariant_of-self : goal.invariant_of-self
invariant_of-self c =
    let long : length c.raise_all.new.stations ≡ length c.drop_old.new.stations.items =
    ap length c.raise_all.ensures ∙ length-map _ older ∙ ap length c.as_mut_slice.ensures.value in
    rw (refill_same _ _ long, c.raise_all.ensures, c.as_mut_slice.ensures.value, c.drop_old.ensures, aged-steps) (aged_table c.self.invariant c.args.forget)

pub returns : goal.returns
returns c =
    let long : length c.raise_all.new.stations ≡ length c.drop_old.new.stations.items =
    ap length c.raise_all.ensures ∙ length-map _ older ∙ ap length c.as_mut_slice.ensures.value in
    rw (refill_same _ _ long, c.raise_all.ensures, c.as_mut_slice.ensures.value, c.drop_old.ensures, aged-steps) (ap (aged c.args.forget) c.self.view_is)
