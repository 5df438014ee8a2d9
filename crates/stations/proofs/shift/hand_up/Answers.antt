-- Each place hands its station on to the next. Assumes nothing.
use Rattle.std.proofs.Common.{refl, ◌∙◌, arith}
use Rattle.stations.proofs.Shifting.{handed_up, handed_back}
use Rattle.stations.proofs.shift.hand_up.Goals as goal

pub loop-place-init : goal.loop-place-init
loop-place-init c = refl

pub loop-place-preserved : goal.loop-place-preserved
loop-place-preserved c =
    rw (c.replace-moved.ensures.after, c.replace-moved.ensures.value)
    (handed_up c.loop-place.place-items c.loop-place.place-index c.loop-place.moved _ (omega (arith, c.loop-place.auto.place-items, c.loop-place-test.true))
    ∙ c.loop-place.invariant)

pub returns : goal.returns
returns c =
    handed_back c.loop-place.place-items c.loop-place.place-index c.loop-place.moved
    (omega (arith, c.loop-place.auto.place-items, c.loop-place-test.false)) (omega (arith, c.loop-place.auto.place-items, c.loop-place.auto.place-index-end))
    ∙ c.loop-place.invariant
