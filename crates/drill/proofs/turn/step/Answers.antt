-- A record for the controller. Assumes nothing.
use mathlib.Core.Path.{◌∙◌}
use Rattle.drill.proofs.Stepping.{record_step}
use Rattle.drill.proofs.turn.step.Goals as goal

pub returns : goal.returns
returns c =
    record_step c.args.number c.args.node.now c.args.bytes.now c.take_record-answer.new.self c.take_record-answer.result
    (λ e. c.if-word_at-eq-QUESTION.false (c.word_at.ensures ∙ e)) c.take_record-answer.ensures.is c.record.ensures
