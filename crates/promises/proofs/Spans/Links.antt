-- One span by itself over a history: what a record does to it, and what becomes of its link, whose hold-off a tick moves on and to which a link record tells a status. Assumes nothing.
use Prim.Native.Nat.{ℕ, suc, ◌≤◌}
use mathlib.Core.Path.{◌≡◌, refl, sym, ◌∙◌, ap, subst}
use mathlib.Core.Bool.{Bool, true, false, not, cond, ◌&&◌, true≢false}
use mathlib.Core.List.{List, [], ◌∷◌, ◌++◌}
use lib.Dec.{eqb}
use borrow.Author.Tests.{eqb-true, eq-eqb}
use Rattle.settings.specs.declared.choice.Ticks.{Ticks}
use Rattle.spans.specs.declared.span.Span.{Span}
use Rattle.spans.specs.Records.{linked, ticked, alive, asked, marked}
use Rattle.spans.specs.Requests.{automatic, waited}
use Rattle.spans.proofs.HoldOff.{SameLink, waited-link}
use Rattle.wire.proofs.Truths.{neither}
use Rattle.stations.proofs.Lists.{chosen}
use Rattle.controller.specs.Reading.{Reading}
use Rattle.controller.specs.Reading.{Refused, Tick, Link, Keepalive, Operator, Heard, Block}
use Rattle.controller.specs.State.{State, span_of, with_span}
use Rattle.controller.specs.declared.sides.Spans.{Spans}
use Rattle.controller.specs.Handling.{cabled, acted}
use Rattle.controller.specs.Closing.{is_tick}
use Rattle.promises.specs.History.{Call, after}
use Rattle.promises.specs.Spans.{own_in, ticks_in, read_as, some_taken, ticks_taken, span_after}
use Rattle.promises.specs.HoldOff.{told_by, status_told}
use Rattle.promises.proofs.Spans.Readings.{Sided, sided, same_span}
use Rattle.promises.proofs.Spans.OneRecord.{span_call, touched, found_back, ticked_both}

-- What a record's handler makes of span n; `rule` is what a link record of it does.
abbrev pub handled : (Ticks → ℕ → Span → Span) → Ticks → ℕ → Reading → Span → Span
handled rule t n (Refused k) u = u
handled rule t n Tick u = ticked t u
handled rule t n (Link m status) u = cond (eqb m n) (rule t status u) u
handled rule t n (Keepalive m) u = cond (eqb m n) (alive u) u
handled rule t n (Operator m request) u = cond (eqb m n) (asked request u) u
handled rule t n (Heard m p) u = cond (eqb p.hop 1 && eqb m n) (marked (not (eqb p.ringlet m)) u) u
handled rule t n (Block m a) u = u

module _ (n : ℕ) (side : n ≤ 1) (t : Ticks) (y : Spans) where
  -- A handler's work on one span, of either side.
  touch : (f : Span → Span) (m : ℕ) → m ≤ 1 → span_of n (with_span m (f (span_of m y)) y) ≡ cond (eqb m n) (f (span_of n y)) (span_of n y)
  touch f m low = go (eqb m n) refl
    where
      go : (b : Bool) → eqb m n ≡ b → span_of n (with_span m (f (span_of m y)) y) ≡ cond b (f (span_of n y)) (span_of n y)
      go true e = ap (λ (i : ℕ). span_of n (with_span i (f (span_of i y)) y)) (eqb-true m n e) ∙ found_back n (f (span_of n y)) y
      go false e =
          touched (λ (v : Span). v ≡ span_of n y) f m n y (λ i. absurd (true≢false (sym (eq-eqb m n (same_span m n low side i)) ∙ e))) refl

  span_handled : (r : Reading) → Sided r → span_of n (acted t r y) ≡ handled linked t n r (span_of n y)
  unfolding acted cabled
  span_handled (Refused k) low = refl
  span_handled Tick low = ticked_both t n y
  span_handled (Link m status) low = touch (linked t status) m low
  span_handled (Keepalive m) low = touch alive m low
  span_handled (Operator m request) low = touch (asked request) m low
  span_handled (Heard m p) low = go (eqb p.hop 1)
    where
      f : Span → Span
      f = marked (not (eqb p.ringlet m))

      go : (b : Bool) → span_of n (cond b (with_span m (f (span_of m y)) y) y) ≡ cond (b && eqb m n) (f (span_of n y)) (span_of n y)
      go true = touch f m low
      go false = refl
  span_handled (Block m a) low = refl

-- A record at the end of a history, as span n sees it.
pub span_step : (s : State) (n : ℕ) → n ≤ 1 → (h : List Call) (c : Call)
    → let u = span_after n s h in
    span_after n s (c ∷ h) ≡ waited (ticks_in s) (automatic (ticks_in s) u) (handled linked (ticks_in s) n (read_as (own_in s) c) u)
span_step s n side h c =
    let u : Span = span_after n s h in
    span_call s h c n
    ∙ ap (waited (ticks_in s) (automatic (ticks_in s) u))
    (span_handled n side (ticks_in s) (after s h).spans (read_as (own_in s) c) (sided (own_in s) c.bytes c.room))

-- A link record of the span: what the rule makes of its link stays.
pub link-step : (s : State) (n : ℕ) → n ≤ 1 → (h : List Call) (c : Call) (x : ℕ) → read_as (own_in s) c ≡ Link n x
    → SameLink (linked (ticks_in s) x (span_after n s h)) (span_after n s (c ∷ h))
link-step s n side h c x is =
    let t : Ticks = ticks_in s in
    let u : Span = span_after n s h in
    let told : handled linked t n (Link n x) u ≡ linked t x u = rw (eq-eqb n n refl) refl in
    subst (SameLink (linked t x u))
    (sym (span_step s n side h c ∙ ap (λ (r : Reading). waited t (automatic t u) (handled linked t n r u)) is ∙ ap (waited t (automatic t u)) told))
    (waited-link t (automatic t u) (linked t x u))

-- P is of a number of ticks, of the status told latest, and of a span, of which it sees the link alone.
abbrev OfLink : (ℕ → ℕ → Span → Type 0) → Type 0
OfLink P = (k x : ℕ) (u v : Span) → SameLink u v → P k x u → P k x v

module _ (n : ℕ) (t : Ticks) (P : ℕ → ℕ → Span → Type 0) (same : OfLink P) (ticks : (k x : ℕ) (u : Span) → P k x u → P (suc k) x (ticked t u)) where
  handled-link : (r : Reading) (k x : ℕ) (u : Span) → ((status : ℕ) → r ≡ Link n status → P k status (linked t status u)) → P k x u
      → P (cond (is_tick r) (suc k) k) (told_by n r x) (handled linked t n r u)
  handled-link (Refused i) k x u told p = p
  handled-link Tick k x u told p = ticks k x u p
  handled-link (Link m status) k x u told p = go (eqb m n) refl
    where
      go : (b : Bool) → eqb m n ≡ b → P k (cond b status x) (cond b (linked t status u) u)
      go true e = told status (ap (λ (i : ℕ). Link i status) (eqb-true m n e))
      go false e = p
  handled-link (Keepalive m) k x u told p =
      chosen (P k x) (eqb m n) (λ e. same k x u (alive u) (record { stored = refl; force = refl; holdoff = refl }) p) (λ e. p)
  handled-link (Operator m request) k x u told p =
      chosen (P k x) (eqb m n) (λ e. same k x u (asked request u) (record { stored = refl; force = refl; holdoff = refl }) p) (λ e. p)
  handled-link (Heard m q) k x u told p =
      chosen (P k x) (eqb q.hop 1 && eqb m n)
      (λ e. same k x u (marked (not (eqb q.ringlet m)) u) (record { stored = refl; force = refl; holdoff = refl }) p) (λ e. p)
  handled-link (Block m a) k x u told p = p

-- The calls h that follow g, among which there is no record of a bad sort: P goes on if link records of other sorts let it.
module _ (s : State) (n : ℕ) (side : n ≤ 1) (P : ℕ → ℕ → Span → Type 0) (same : OfLink P)
    (ticks : (k x : ℕ) (u : Span) → P k x u → P (suc k) x (ticked (ticks_in s) u)) (bad : Reading → Bool)
    (links : (k x status : ℕ) (u : Span) → bad (Link n status) ≡ false → P k x u → P k status (linked (ticks_in s) status u)) where
  pub over_calls : (g : List Call) (x : ℕ) → P 0 x (span_after n s g) → (h : List Call) → some_taken (own_in s) bad h ≡ false
      → P (ticks_taken (own_in s) h) (status_told (own_in s) n x h) (span_after n s (h ++ g))
  unfolding some_taken ticks_taken status_told
  over_calls g x first [] fine = first
  over_calls g x first (d ∷ h) fine =
      let t : Ticks = ticks_in s in
      let r : Reading = read_as (own_in s) d in
      let u : Span = span_after n s (h ++ g) in
      let k : ℕ = ticks_taken (own_in s) h in
      let z : ℕ = status_told (own_in s) n x h in
      let (now, rest) = neither (bad r) (some_taken (own_in s) bad h) fine in
      let before : P k z u = over_calls g x first h rest in
      let made : P (cond (is_tick r) (suc k) k) (told_by n r z) (handled linked t n r u) =
      handled-link n t P same ticks r k z u (λ status is. links k z status u (subst (λ (q : Reading). bad q ≡ false) is now) before) before in
      subst (P (cond (is_tick r) (suc k) k) (told_by n r z)) (sym (span_step s n side (h ++ g) d))
      (same (cond (is_tick r) (suc k) k) (told_by n r z) (handled linked t n r u) (waited t (automatic t u) (handled linked t n r u))
      (waited-link t (automatic t u) (handled linked t n r u)) made)
