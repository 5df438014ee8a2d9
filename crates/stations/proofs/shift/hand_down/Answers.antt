-- Each place hands its station on to the one before. Assumes nothing.
use Rattle.std.proofs.Common.{◌∙◌, arith}
use Rattle.std.proofs.lemmas.List.Edits.{insert_end}
use Rattle.stations.proofs.Shifting.{handed_down, handed_out}
use Rattle.stations.proofs.shift.hand_down.Goals as goal

pub loop-i-init : goal.loop-i-init
loop-i-init c = insert_end c.args.places.now c.args.s

pub loop-i-preserved : goal.loop-i-preserved
loop-i-preserved c =
    rw (c.replace-moved.ensures.after, c.replace-moved.ensures.value)
    (handed_down c.loop-i.places c.loop-i.i c.loop-i.moved _ (omega (arith, c.loop-i-test.true)) (omega (arith, c.loop-i.auto.places, c.loop-i.auto.i)) ∙ c.loop-i.invariant)

pub returns : goal.returns
returns c = handed_out c.loop-i.places c.loop-i.i c.loop-i.moved (omega (arith, c.loop-i-test.false)) ∙ c.loop-i.invariant
