-- Without room 1; then the refusals of reading; then ticks, one or many; else the event read, and its block. Assumes nothing.
use Rattle.std.proofs.Common.{sym, ◌∙◌, ap}
use Rattle.std.proofs.lemmas.Result.{err_from_is_err_and}
use Rattle.controller.specs.Closing.{is_tick}
use Rattle.controller.specs.Reading.{reading_of, reading_of_event}
use Rattle.controller.proofs.Manys.{times_room}
use Rattle.controller.proofs.Records.{event_tick, early, recorded, ticked}
use Rattle.controller.proofs.node.Node.take_record.Goals as goal

pub returns-in_err-event : goal.returns-in_err-event
returns-in_err-event c =
    let p = err_from_is_err_and c.from_residual.result c.from_residual.ensures.1 in
    rw (← c.self.view_is, p.1, p.2)
    (early _ c.self.invariant _ _ (λ i. (c.type_inv.bytes i).fits) (reading_of c.read_record.result)
    c.if-out-lt-REPORT_LENGTH.false c.read_record.ensures (ap reading_of c.in_err-event.was))

pub take_ticks-requires : goal.take_ticks-requires
take_ticks-requires c =
    rw c.times_in.ensures
    (times_room c.args.bytes.now _ _ c.if-out-lt-REPORT_LENGTH.false
    (ap is_tick (sym c.read_record.ensures ∙ ap reading_of c.in_ok-event.was ∙ ap reading_of_event c.in-Tick.is)))

pub returns-in-Tick : goal.returns-in-Tick
returns-in-Tick c =
    rw (← c.self.view_is)
    (ticked _ c.self.invariant _ _ (λ i. (c.type_inv.bytes i).fits) (reading_of c.read_record.result)
    c.if-out-lt-REPORT_LENGTH.false c.read_record.ensures (ap reading_of c.in_ok-event.was ∙ ap reading_of_event c.in-Tick.is)
    (rw (c.times_in.ensures, ← c.self.view_is) at c.take_ticks.ensures))

pub returns-in_default : goal.returns-in_default
returns-in_default c =
    rw (← c.self.view_is)
    (recorded _ c.self.invariant _ _ (λ i. (c.type_inv.bytes i).fits) (reading_of c.read_record.result)
    c.if-out-lt-REPORT_LENGTH.false c.read_record.ensures
    (λ e. c.in_default.not-Tick (event_tick c.in_ok-event.event (sym (ap reading_of c.in_ok-event.was) ∙ e)))
    c.block_of.ensures
    (rw (← c.self.view_is, sym (ap reading_of c.in_ok-event.was)) at c.take_event.ensures))
