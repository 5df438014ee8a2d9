-- Each step is that of the rules; the part of the buffer that is left is lent, and comes back behind the part that stays. Assumes nothing.
use Rattle.controller.proofs.Holding.{no_bytes}
use Rattle.controller.proofs.Records.{tick_taken, took_kept}
use Rattle.controller.proofs.Ticking.{tick-behind}
use Rattle.controller.proofs.node.Node.take_tick.Goals as goal

pub invariant_of-self : goal.invariant_of-self
invariant_of-self c =
    rw (c.act.ensures, c.ticks-t.ensures)
    (took_kept _ _ _ c.self.invariant tt no_bytes
    (tick_taken _
    (rw c.ticks-t.ensures at c.raise_ages.ensures)
    (rw (c.act.ensures, c.ticks-t.ensures) at c.report-reports.ensures)
    (rw (c.act.ensures, c.ticks-t.ensures) at c.sweep.ensures)))

pub returns : goal.returns
returns c =
    rw (← c.self.view_is, c.act.ensures, c.ticks-t.ensures)
    (tick-behind c.requires
    (tick_taken _
    (rw c.ticks-t.ensures at c.raise_ages.ensures)
    (rw (c.act.ensures, c.ticks-t.ensures) at c.report-reports.ensures)
    (rw (c.act.ensures, c.ticks-t.ensures) at c.sweep.ensures)))
