-- After any history the settings are those of the start, and the state is kept: every record keeps it, and it was so at the start. Assumes nothing.
use mathlib.Core.Path.{◌≡◌, refl, ◌∙◌}
use mathlib.Core.List.{List, [], ◌∷◌}
use Rattle.settings.specs.Kept.{TicksKept}
use Rattle.controller.specs.State.{Choice, State, started}
use Rattle.controller.specs.Kept.{StateKept}
use Rattle.controller.proofs.Holding.{outcome-choice, outcome_kept, started_kept}
use Rattle.promises.specs.History.{Call, after, AllBytes}

-- The settings stay.
pub choice-after : (s : State) (h : List Call) → (after s h).choice ≡ s.choice
unfolding after
choice-after s [] = refl
choice-after s (c ∷ h) = outcome-choice (after s h) c.bytes c.room ∙ choice-after s h

pub after_kept : (c : Choice) → TicksKept c.ticks → (h : List Call) → AllBytes h → StateKept (after (started c) h)
unfolding after AllBytes
after_kept c t [] b = started_kept c t
after_kept c t (x ∷ h) b = outcome_kept (after (started c) h) x.bytes x.room b.0 (after_kept c t h b.1)
