-- The public functions of spans leave no choice: one answer, and one span of a span that is lent. Assumes nothing.
use mathlib.Core.Path.{refl, sym, ◌∙◌}
use Rattle.spans.specs.declared.span.Span.{Span}
use Rattle.spans.specs.contracts as spans_contract
use Rattle.spans.proofs as spans
use Rattle.spans.specs.contracts.span.Span as Span_contract
use Rattle.spans.proofs.span.Span as Span
use Rattle.promises.specs.Unique.{Fixes, FixesPart}

pub span_at_start_unique : Fixes Span_contract.at_start.ended Span.at_start.Reads.ensures Span.at_start.Reads.Post
span_at_start_unique = (λ w κs a x e. refl, λ κs a x y e f p q. p ∙ sym q)

pub link_unique : Fixes Span_contract.link.ended Span.link.Reads.ensures Span.link.Reads.Post
link_unique = (λ w κs a x e. refl, λ κs a x y e f p q. refl)

pub link_span_unique : FixesPart Span_contract.link.ended (λ κs. Span) (λ κs x e. e.0.now) Span.link.Reads.ensures Span.link.Reads.Post
link_span_unique = (λ w κs a x e. refl, λ κs a x y e f p q. p ∙ sym q)

pub tick_unique : Fixes Span_contract.tick.ended Span.tick.Reads.ensures Span.tick.Reads.Post
tick_unique = (λ w κs a x e. refl, λ κs a x y e f p q. refl)

pub tick_span_unique : FixesPart Span_contract.tick.ended (λ κs. Span) (λ κs x e. e.0.now) Span.tick.Reads.ensures Span.tick.Reads.Post
tick_span_unique = (λ w κs a x e. refl, λ κs a x y e f p q. p ∙ sym q)

pub keepalive_unique : Fixes Span_contract.keepalive.ended Span.keepalive.Reads.ensures Span.keepalive.Reads.Post
keepalive_unique = (λ w κs a x e. refl, λ κs a x y e f p q. refl)

pub keepalive_span_unique :
    FixesPart Span_contract.keepalive.ended (λ κs. Span) (λ κs x e. e.0.now)
    Span.keepalive.Reads.ensures Span.keepalive.Reads.Post
keepalive_span_unique = (λ w κs a x e. refl, λ κs a x y e f p q. p ∙ sym q)

pub operate_unique : Fixes Span_contract.operate.ended Span.operate.Reads.ensures Span.operate.Reads.Post
operate_unique = (λ w κs a x e. refl, λ κs a x y e f p q. refl)

pub operate_span_unique : FixesPart Span_contract.operate.ended (λ κs. Span) (λ κs x e. e.0.now) Span.operate.Reads.ensures Span.operate.Reads.Post
operate_span_unique = (λ w κs a x e. refl, λ κs a x y e f p q. p ∙ sym q)

pub mark_unique : Fixes Span_contract.mark.ended Span.mark.Reads.ensures Span.mark.Reads.Post
mark_unique = (λ w κs a x e. refl, λ κs a x y e f p q. refl)

pub mark_span_unique : FixesPart Span_contract.mark.ended (λ κs. Span) (λ κs x e. e.0.now) Span.mark.Reads.ensures Span.mark.Reads.Post
mark_span_unique = (λ w κs a x e. refl, λ κs a x y e f p q. p ∙ sym q)

pub automatic_unique : Fixes Span_contract.automatic.ended Span.automatic.Reads.ensures Span.automatic.Reads.Post
automatic_unique = (λ w κs a x e. refl, λ κs a x y e f p q. p ∙ sym q)

pub down_unique : Fixes Span_contract.down.ended Span.down.Reads.ensures Span.down.Reads.Post
down_unique = (λ w κs a x e. refl, λ κs a x y e f p q. p ∙ sym q)

pub wait_unique : Fixes Span_contract.wait.ended Span.wait.Reads.ensures Span.wait.Reads.Post
wait_unique = (λ w κs a x e. refl, λ κs a x y e f p q. refl)

pub wait_span_unique : FixesPart Span_contract.wait.ended (λ κs. Span) (λ κs x e. e.0.now) Span.wait.Reads.ensures Span.wait.Reads.Post
wait_span_unique = (λ w κs a x e. refl, λ κs a x y e f p q. p ∙ sym q)

pub higher_unique : Fixes spans_contract.higher.ended spans.higher.Reads.ensures spans.higher.Reads.Post
higher_unique = (λ w κs a x e. refl, λ κs a x y e f p q. p ∙ sym q)

pub request_unique : Fixes Span_contract.request.ended Span.request.Reads.ensures Span.request.Reads.Post
request_unique = (λ w κs a x e. refl, λ κs a x y e f p q. p ∙ sym q)
