-- Refused, it leaves the node as it was; else every step is that of the rules. Assumes nothing.
use Rattle.std.proofs.lemmas.Result.{err_from_is_err_and}
use Rattle.controller.proofs.Records.{refused_kept, refused, taken, took_kept}
use Rattle.controller.proofs.node.Node.take_event.Goals as goal

pub invariant_of-self : goal.invariant_of-self
invariant_of-self c =
    rw (c.act.ensures, c.ticks-t.ensures)
    (refused_kept _ _ _ c.self.invariant _ (rw (c.in_err-taken.was, c.act.ensures, c.ticks-t.ensures) at c.judge.ensures))

pub returns-in_err-taken : goal.returns-in_err-taken
returns-in_err-taken c =
    let p = err_from_is_err_and c.from_residual.result c.from_residual.ensures.1 in
    rw (← c.self.view_is, p.1, p.2, c.act.ensures, c.ticks-t.ensures)
    (refused _ _ _ _ (rw (c.in_err-taken.was, c.act.ensures, c.ticks-t.ensures) at c.judge.ensures) c.args.out.now)

pub invariant_of-self-2 : goal.invariant_of-self-2
invariant_of-self-2 c =
    rw (c.act.ensures, c.ticks-t.ensures)
    (took_kept _ _ _ c.self.invariant (rw (← c.self.view_is) at c.requires) (λ i. (c.type_inv.block i).fits)
    (taken _ _ _ _
    (rw (c.in_ok-taken.was, c.act.ensures, c.ticks-t.ensures) at c.judge.ensures)
    (rw (c.act.ensures, c.ticks-t.ensures, c.is_tick.ensures) at c.report-reports.ensures)
    (rw (c.act.ensures, c.ticks-t.ensures) at c.sweep.ensures)))

pub returns : goal.returns
returns c =
    rw (← c.self.view_is, c.act.ensures, c.ticks-t.ensures)
    (taken _ _ _ _
    (rw (c.in_ok-taken.was, c.act.ensures, c.ticks-t.ensures) at c.judge.ensures)
    (rw (c.act.ensures, c.ticks-t.ensures, c.is_tick.ensures) at c.report-reports.ensures)
    (rw (c.act.ensures, c.ticks-t.ensures) at c.sweep.ensures))
