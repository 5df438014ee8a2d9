-- p6 for every hold-off: a worse status comes into force with the tick that ends the hold-off, and not before, whatever records stand between, save a link record of that span. Assumes nothing.
-- s is any state, g the calls before the link record c of span n, h the calls after it; a tick that was refused does not count.
use Prim.Native.Nat.{ℕ, ◌+◌, ◌<◌, ◌≤◌}
use mathlib.Core.Path.{◌≡◌, refl, sym, ◌∙◌, subst}
use mathlib.Core.Bool.{false, true≢false}
use mathlib.Core.List.{List, ◌∷◌, ◌++◌}
use native.Mathlib.Omega.{arith}
use borrow.Author.Tests.{eq-eqb}
use Rattle.settings.specs.declared.choice.Ticks.{Ticks}
use Rattle.spans.specs.declared.span.Span.{Span}
use Rattle.spans.specs.Codes.{good, degraded, failed, SF, SD, IDLE, higher}
use Rattle.spans.specs.Records.{ticked}
use Rattle.spans.specs.Requests.{automatic, request}
use Rattle.spans.specs.HoldOff.{HeldOff, LinkAlone, LinkDecides}
use Rattle.spans.proofs.HoldOff.{held-linked, held-ticked, held_same, still-held, held-over, idle_while_held, sf_when_over, sd_when_over}
use Rattle.controller.specs.Reading.{Link}
use Rattle.controller.specs.State.{Choice, State}
use Rattle.promises.specs.History.{Call, after}
use Rattle.promises.specs.Spans.{own_in, ticks_in, read_as, is_link, ticks_taken, link_taken, span_after, request_on, automatic_on}
use Rattle.promises.proofs.Demand2.AfterKept.{choice-after}
use Rattle.promises.proofs.Spans.Links.{link-step, over_calls}

-- What is requested of a link that was good, k ticks after its hold-off began, with y stored; l are all the calls.
module _ (s : State) (n : ℕ) (l : List Call) {y k : ℕ} (held : HeldOff (ticks_in s) good y k (span_after n s l)) where
  -- the settings stay, so that requests may be asked with those of s
  with_ticks : (P : ℕ → Type 0) (ask : Ticks → Span → ℕ) → P (ask (ticks_in s) (span_after n s l)) → P (ask (ticks_in (after s l)) (span_after n s l))
  with_ticks P ask p = subst (λ (c : Choice). P (ask c.ticks (span_after n s l))) (sym (choice-after s l)) p

  pub idle_of : k < (ticks_in s).holdoff → LinkDecides (ticks_in s) (span_after n s l) → request_on n (after s l) ≡ IDLE
  idle_of more d = with_ticks (λ (q : ℕ). q ≡ IDLE) request (idle_while_held (ticks_in s) (span_after n s l) held more d)

  pub sf_of : y ≡ failed → (ticks_in s).holdoff ≤ k → (automatic_on n (after s l) ≡ SF) × (request_on n (after s l) ≡ higher (span_after n s l).operator SF)
  sf_of is over =
      let failing : HeldOff (ticks_in s) good failed k (span_after n s l) = rw (← is) held in
      let (sf, top) = sf_when_over (ticks_in s) (span_after n s l) failing over in
      (with_ticks (λ (q : ℕ). q ≡ SF) automatic sf, with_ticks (λ (q : ℕ). q ≡ higher (span_after n s l).operator SF) request top)

  pub sd_of : y ≡ degraded → (ticks_in s).holdoff ≤ k → LinkAlone (ticks_in s) (span_after n s l) → automatic_on n (after s l) ≡ SD
  sd_of is over a =
      let fading : HeldOff (ticks_in s) good degraded k (span_after n s l) = rw (← is) held in
      with_ticks (λ (q : ℕ). q ≡ SD) automatic (sd_when_over (ticks_in s) (span_after n s l) fading over a)

  -- .. and SD is the span request, if nothing else requests
  pub sd_alone_of : y ≡ degraded → (ticks_in s).holdoff ≤ k → LinkDecides (ticks_in s) (span_after n s l) → request_on n (after s l) ≡ SD
  unfolding request
  sd_alone_of is over d = rw (sd_of is over d.alone, d.unasked, d.unwaited) refl

module _ (s : State) (n : ℕ) (side : n ≤ 1) where
  -- Where none runs the link record starts it ..
  pub starts : (g : List Call) (c : Call) (x : ℕ) → read_as (own_in s) c ≡ Link n x → (span_after n s g).holdoff ≡ 0 → (x ≡ (span_after n s g).stored → ⊥)
      → (span_after n s g).force < x → HeldOff (ticks_in s) (span_after n s g).force x 0 (span_after n s (c ∷ g))
  starts g c x is calm other worse =
      held_same (ticks_in s) (span_after n s g).force x 0 _ (held-linked (ticks_in s) x (span_after n s g) calm other worse) (span_after n s (c ∷ g))
      (link-step s n side g c x is)

  -- .. and the calls after it count its ticks, of which j have passed.
  pub goes_on_lem : (f x j : ℕ) (g : List Call) → HeldOff (ticks_in s) f x j (span_after n s g) → (h : List Call) → link_taken (own_in s) n h ≡ false
      → HeldOff (ticks_in s) f x (ticks_taken (own_in s) h + j) (span_after n s (h ++ g))
  goes_on_lem f x j g held =
      over_calls s n side (λ (k z : ℕ) (u : Span). HeldOff (ticks_in s) f x (k + j) u)
      (λ k z u v same p. held_same (ticks_in s) f x (k + j) u p v same)
      (λ k z u p. at (ticked (ticks_in s) u) (omega arith) (held-ticked (ticks_in s) f x (k + j) u p)) (is_link n)
      (λ k z status u fine p. absurd (true≢false (sym (eq-eqb n n refl) ∙ fine))) g x (at (span_after n s g) (omega arith) held)
    where
      at : {i k : ℕ} (u : Span) → i ≡ k → HeldOff (ticks_in s) f x i u → HeldOff (ticks_in s) f x k u
      at u e p = subst (λ (m : ℕ). HeldOff (ticks_in s) f x m u) e p

  module _ (g : List Call) (c : Call) (x : ℕ) (is : read_as (own_in s) c ≡ Link n x) (calm : (span_after n s g).holdoff ≡ 0) where
    -- A status that differs from the stored one and is worse than the one in force, while no hold-off runs. A setting of 0 is no exception: no tick is below it.
    pub held_off : (x ≡ (span_after n s g).stored → ⊥) → (span_after n s g).force < x → (h : List Call) → link_taken (own_in s) n h ≡ false
        → HeldOff (ticks_in s) (span_after n s g).force x (ticks_taken (own_in s) h) (span_after n s (h ++ (c ∷ g)))
    held_off other worse h u =
        subst (λ (k : ℕ). HeldOff (ticks_in s) (span_after n s g).force x k (span_after n s (h ++ (c ∷ g)))) (omega arith)
        (goes_on_lem (span_after n s g).force x 0 (c ∷ g) (starts g c x is calm other worse) h u)

    -- "with a setting of 0 it comes into force at once".
    pub at_once : (ticks_in s).holdoff ≡ 0 → (x ≡ (span_after n s g).stored → ⊥) → (span_after n s g).force < x → (span_after n s (c ∷ g)).force ≡ x
    at_once zero other worse = held-over (ticks_in s) (span_after n s (c ∷ g)) (starts g c x is calm other worse) (omega arith)

    -- A link that was good: degraded, or failed.
    module _ (stored : (span_after n s g).stored ≡ good) (force : (span_after n s g).force ≡ good) (worse : good < x) (h : List Call)
        (u : link_taken (own_in s) n h ≡ false) where
      from-good : HeldOff (ticks_in s) good x (ticks_taken (own_in s) h) (span_after n s (h ++ (c ∷ g)))
      from-good =
          subst (λ (f : ℕ). HeldOff (ticks_in s) f x (ticks_taken (own_in s) h) (span_after n s (h ++ (c ∷ g)))) force
          (held_off (λ e. omega arith) (omega arith) h u)

      pub good_while_held : ticks_taken (own_in s) h < (ticks_in s).holdoff → (span_after n s (h ++ (c ∷ g))).force ≡ good
      good_while_held = still-held (ticks_in s) (span_after n s (h ++ (c ∷ g))) from-good

      pub worse_when_over : (ticks_in s).holdoff ≤ ticks_taken (own_in s) h → (span_after n s (h ++ (c ∷ g))).force ≡ x
      worse_when_over = held-over (ticks_in s) (span_after n s (h ++ (c ∷ g))) from-good

      -- P6's own words: "IDLE after 29 ticks" ..
      pub idle_meanwhile : ticks_taken (own_in s) h < (ticks_in s).holdoff → LinkDecides (ticks_in s) (span_after n s (h ++ (c ∷ g)))
          → request_on n (after s (h ++ (c ∷ g))) ≡ IDLE
      idle_meanwhile = idle_of s n (h ++ (c ∷ g)) from-good

      -- .. "SF after 30": the automatic request, and the span request unless the operator's is above it.
      pub failed-then : x ≡ failed → (ticks_in s).holdoff ≤ ticks_taken (own_in s) h
          → (automatic_on n (after s (h ++ (c ∷ g))) ≡ SF)
          × (request_on n (after s (h ++ (c ∷ g))) ≡ higher (span_after n s (h ++ (c ∷ g))).operator SF)
      failed-then = sf_of s n (h ++ (c ∷ g)) from-good

      pub degraded-then : x ≡ degraded → (ticks_in s).holdoff ≤ ticks_taken (own_in s) h → LinkAlone (ticks_in s) (span_after n s (h ++ (c ∷ g)))
          → automatic_on n (after s (h ++ (c ∷ g))) ≡ SD
      degraded-then = sd_of s n (h ++ (c ∷ g)) from-good
