-- The WTR step of a span that no handler touched is none. Assumes nothing.
use mathlib.Core.Path.{◌≡◌, refl}
use Rattle.settings.specs.declared.choice.Ticks.{Ticks}
use Rattle.spans.specs.Requests.{automatic}
use Rattle.spans.proofs.Waiting.{waited_same}
use Rattle.controller.specs.State.{Spans}
use Rattle.controller.specs.Closing.{settled}

-- No handler, no WTR step.
pub settled-none : (t : Ticks) (x : Spans) → settled t x x ≡ x
unfolding settled
settled-none t x = λ i. record {
  west = waited_same t (automatic t x.west) x.west refl i;
  east = waited_same t (automatic t x.east) x.east refl i;
}
