-- Those with a hop left stay, without that on the ringlet; where no hop is held there, all stay as they are. Assumes nothing.
use Rattle.std.proofs.Common.{◌≡◌, sym, ◌∙◌, ap, rules, tests}
use Rattle.stations.specs.Station.{with_hop}
use Rattle.stations.specs.Stations.{unpurged, purged}
use Rattle.stations.proofs.Retaining.{retained}
use Rattle.stations.proofs.Sifting.{purged-none}
use Rattle.stations.proofs.Tables.{purged_table}
use Rattle.stations.proofs.table.Table.purge_ringlet.Goals as goal

kept : (c : goal.After-retain) → c.retain.new.self.items ≡ purged c.args.ringlet c.self.inside.stations.items
unfolding purged
kept c = retained _ (unpurged c.args.ringlet) (with_hop c.args.ringlet 0) _ (λ x b g y k. search (rules, tests)) _ _ c.retain.ensures.filtered

pub invariant_of-self : goal.invariant_of-self
invariant_of-self c = rw (kept c) (purged_table c.self.invariant c.args.ringlet)

pub returns-then-is_heard : goal.returns-then-is_heard
returns-then-is_heard c = kept c ∙ ap (purged c.args.ringlet) c.self.view_is

pub returns-else-is_heard : goal.returns-else-is_heard
returns-else-is_heard c = sym (purged-none c.args.ringlet c.args.self.now (rw c.stations.ensures.stations at (sym c.is_heard.ensures ∙ c.if-is_heard.false)))
