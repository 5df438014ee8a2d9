-- Nobody, the station itself, one who stays without the hop, or one who leaves. Assumes nothing.
use Rattle.std.proofs.Common.{sym, ◌∙◌}
use Rattle.stations.specs.Table.{blank}
use Rattle.stations.proofs.Alone.{displaced-none, displaced_own, displaced_clear, displaced_remove}
use Rattle.stations.proofs.Retaining.{stored}
use Rattle.stations.proofs.hear.displace_others.Goals as goal

pub returns-in_default : goal.returns-in_default
returns-in_default c = displaced-none c.args.p _ (rw c.in_default.is at c.requires)

pub returns-then-is_somewhere : goal.returns-then-is_somewhere
unfolding blank
returns-then-is_somewhere c =
    let l = c.args.stations.now.items in
    rw (stored l _ c.in-Some.at _ c.as_mut_slice.ensures.value, c.with_hop-without.ensures, c.as_slice.ensures.value)
    (displaced_clear c.args.p l c.in-Some.at (rw c.in-Some.is at c.requires)
    (rw c.as_slice.ensures.value at (sym c.is_other.ensures ∙ c.if-is_other.true))
    (rw (c.with_hop-without.ensures, c.as_slice.ensures.value) at (sym c.is_somewhere.ensures ∙ c.if-is_somewhere.true)))

pub returns-else-is_somewhere : goal.returns-else-is_somewhere
unfolding blank
returns-else-is_somewhere c =
    c.remove_at.ensures
    ∙ displaced_remove c.args.p c.args.stations.now.items c.in-Some.at (rw c.in-Some.is at c.requires)
    (rw c.as_slice.ensures.value at (sym c.is_other.ensures ∙ c.if-is_other.true))
    (rw (c.with_hop-without.ensures, c.as_slice.ensures.value) at (sym c.is_somewhere.ensures ∙ c.if-is_somewhere.false))

pub returns-else-is_other : goal.returns-else-is_other
unfolding blank
returns-else-is_other c =
    displaced_own c.args.p c.args.stations.now.items c.in-Some.at (rw c.in-Some.is at c.requires)
    (rw c.as_slice.ensures.value at (sym c.is_other.ensures ∙ c.if-is_other.false))
