-- The public functions of pacer leave no choice: one answer, and one content of lent memory. Assumes nothing.
use mathlib.Core.Path.{refl, sym, ◌∙◌}
use Rattle.pacer.specs.declared.steps.Pacer.{Pacer}
use Rattle.pacer.specs.contracts.steps.Pacer as Pacer_contract
use Rattle.pacer.proofs.steps.Pacer as Pacer
use Rattle.promises.specs.Paces.{pace_promise}
use Rattle.promises.specs.Unique.{Fixes, FixesPart}

pub pacer_at_start_unique : Fixes Pacer_contract.at_start.ended Pacer.at_start.Reads.ensures Pacer.at_start.Reads.Post
pacer_at_start_unique = (λ w κs a x e. refl, λ κs a x y e f p q. p ∙ sym q)

pub pace_unique : Fixes Pacer_contract.pace.ended Pacer.pace.Reads.ensures pace_promise
pace_unique = (λ w κs a x e. refl, λ κs a x y e f p q. p.1 ∙ sym q.1)

pub pace_content_unique : FixesPart Pacer_contract.pace.ended (λ κs. Pacer) (λ κs x e. e.0.now) Pacer.pace.Reads.ensures pace_promise
pace_content_unique = (λ w κs a x e. refl, λ κs a x y e f p q. p.0 ∙ sym q.0)
