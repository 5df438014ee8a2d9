-- "Keepalives coming", on the history: the age of a span is the ticks taken since its latest keepalive record, up to the setting, and nothing else bears on it. Assumes nothing.
use Prim.Native.Nat.{ℕ, suc, ◌+◌, ◌<◌, ◌≤◌}
use mathlib.Core.Path.{◌≡◌, refl, sym, ◌∙◌, ap}
use mathlib.Core.Bool.{Bool, true, false, cond, ◌||◌, true≢false}
use mathlib.Core.List.{List, [], ◌∷◌, ◌++◌}
use native.Mathlib.Omega.{arith}
use lib.Dec.{eqb, ltb}
use borrow.Author.Tests.{eqb-true, eq-eqb, ltb-true, ltb-false, lt-ltb, le-ltb, le-leb}
use Rattle.settings.specs.declared.choice.Ticks.{Ticks}
use Rattle.spans.specs.declared.span.Span.{Span}
use Rattle.spans.specs.Codes.{degraded, failed, SF, SD, none}
use Rattle.spans.specs.Records.{linked, older, ticked, alive, asked}
use Rattle.spans.specs.Requests.{automatic, waited}
use Rattle.spans.proofs.Fair.{link-alone}
use Rattle.stations.proofs.Lists.{chosen}
use Rattle.controller.specs.Reading.{Reading}
use Rattle.controller.specs.Reading.{Refused, Tick, Link, Keepalive, Operator, Heard, Block}
use Rattle.controller.specs.State.{Choice, State, span_of, with_span}
use Rattle.controller.specs.declared.sides.Spans.{Spans}
use Rattle.controller.specs.Handling.{acted}
use Rattle.controller.specs.Closing.{is_tick}
use Rattle.promises.specs.History.{Call, after}
use Rattle.promises.specs.Spans.{own_in, ticks_in, read_as, is_keepalive, ticks_quiet, up_to, span_after, automatic_on}
use Rattle.promises.proofs.Demand2.AfterKept.{choice-after}
use Rattle.promises.proofs.Spans.Readings.{Sided, sided, same_span}
use Rattle.promises.proofs.Spans.OneRecord.{span_call, touched, found_back, cabled_touched, ticked_both}

-- A link record and the WTR step leave the age.
abbrev Aged : ℕ → Span → Type 0
Aged a u = u.age ≡ a

linked_age : (t : Ticks) (status : ℕ) (s : Span) → Aged s.age (linked t status s)
linked_age t status s = link-alone (Aged s.age) t s status (λ stored force left. refl)

waited_age : (t : Ticks) (was : ℕ) (s : Span) → Aged s.age (waited t was s)
unfolding waited
waited_age t was s =
    chosen (Aged s.age) (eqb was 0)
    (λ h. chosen (Aged s.age) (eqb (automatic t s) 0) (λ i. refl) (λ i. refl))
    (λ h. chosen (Aged s.age) (eqb (automatic t s) 0) (λ i. refl) (λ i. refl))

-- "keepalive age rises by 1, up to the setting".
older_up_to : (setting a : ℕ) → older setting (up_to setting a) ≡ up_to setting (suc a)
older_up_to setting a = go (ltb a setting) refl
  where
    go : (b : Bool) → ltb a setting ≡ b → older setting (cond b a setting) ≡ up_to setting (suc a)
    go true p = rw p (next (ltb (suc a) setting) refl)
      where
        low : a < setting
        low = ltb-true a setting p

        next : (d : Bool) → ltb (suc a) setting ≡ d → a + 1 ≡ cond d (suc a) setting
        next true q = omega arith
        next false q = omega (arith, low, ltb-false (suc a) setting q)
    go false p =
        let high : setting ≤ a = ltb-false a setting p in
        rw (le-ltb setting setting (omega arith), le-ltb (suc a) setting (omega arith)) refl

-- An age of 0, as at the start.
pub zero_up_to : (setting : ℕ) → 0 ≡ up_to setting 0
zero_up_to setting = go (ltb 0 setting) refl
  where
    go : (b : Bool) → ltb 0 setting ≡ b → 0 ≡ cond b 0 setting
    go true p = refl
    go false p = omega (arith, ltb-false 0 setting p)

module _ (n : ℕ) (side : n ≤ 1) (t : Ticks) (y : Spans) (a : ℕ) (is : (span_of n y).age ≡ up_to t.keepalive a) where
  abbrev next : Reading → ℕ
  next r = cond (is_keepalive n r) 0 (cond (is_tick r) (suc a) a)

  acted_age : (r : Reading) → Sided r → (span_of n (acted t r y)).age ≡ up_to t.keepalive (next r)
  unfolding acted ticked
  acted_age (Refused i) low = is
  acted_age Tick low =
      ap (λ (z : Span). z.age) (ticked_both t n y) ∙ ap (older t.keepalive) is ∙ older_up_to t.keepalive a
  acted_age (Link m status) low =
      touched (Aged (up_to t.keepalive a)) (linked t status) m n y (λ e. linked_age t status (span_of n y) ∙ is) is
  acted_age (Keepalive m) low = go (eqb m n) refl
    where
      go : (b : Bool) → eqb m n ≡ b → (span_of n (acted t (Keepalive m) y)).age ≡ up_to t.keepalive (cond b 0 a)
      go true p =
          ap (λ (i : ℕ). (span_of n (with_span i (alive (span_of i y)) y)).age) (eqb-true m n p)
          ∙ ap (λ (z : Span). z.age) (found_back n (alive (span_of n y)) y)
          ∙ zero_up_to t.keepalive
      go false p =
          touched (Aged (up_to t.keepalive a)) alive m n y (λ e. absurd (true≢false (sym (eq-eqb m n (same_span m n low side e)) ∙ p))) is
  acted_age (Operator m request) low = touched (Aged (up_to t.keepalive a)) (asked request) m n y (λ e. is) is
  acted_age (Heard m p) low = cabled_touched (Aged (up_to t.keepalive a)) m n p y (λ mark. is) is
  acted_age (Block m i) low = is

-- "SF if (..) the age has reached the setting".
aged_is_sf : (t : Ticks) (u : Span) → t.keepalive ≤ u.age → automatic t u ≡ SF
unfolding automatic
aged_is_sf t u high = rw (le-leb t.keepalive u.age high) (go (eqb u.force failed))
  where
    go : (b : Bool) → cond (b || true || u.cable) SF (cond (eqb u.force degraded) SD none) ≡ SF
    go true = refl
    go false = refl

-- s is any state, g the calls before which a ticks had passed since a keepalive, h the calls after.
module _ (s : State) (n : ℕ) (side : n ≤ 1) (g : List Call) (a : ℕ) (first : (span_after n s g).age ≡ up_to s.choice.ticks.keepalive a) where
  pub age_counts : (h : List Call) → (span_after n s (h ++ g)).age ≡ up_to (ticks_in s).keepalive (ticks_quiet (own_in s) n a h)
  unfolding ticks_quiet
  age_counts [] = first
  age_counts (c ∷ h) =
      let y : Spans = (after s (h ++ g)).spans in
      ap (λ (z : Span). z.age) (span_call s (h ++ g) c n)
      ∙ waited_age (ticks_in s) (automatic (ticks_in s) (span_of n y)) (span_of n (acted (ticks_in s) (read_as (own_in s) c) y))
      ∙ acted_age n side (ticks_in s) y (ticks_quiet (own_in s) n a h) (age_counts h) (read_as (own_in s) c) (sided (own_in s) c.bytes c.room)

  -- Keepalives coming: fewer ticks since the latest than the setting ..
  pub keepalives_coming : (h : List Call) → ticks_quiet (own_in s) n a h < (ticks_in s).keepalive → (span_after n s (h ++ g)).age < (ticks_in s).keepalive
  keepalives_coming h low =
      let is : (span_after n s (h ++ g)).age ≡ ticks_quiet (own_in s) n a h = age_counts h ∙ rw (lt-ltb (ticks_quiet (own_in s) n a h) (ticks_in s).keepalive low) refl in
      omega arith

  -- .. and else SF.
  pub silence_is_sf : (h : List Call) → (ticks_in s).keepalive ≤ ticks_quiet (own_in s) n a h → automatic_on n (after s (h ++ g)) ≡ SF
  silence_is_sf h high =
      let is : (span_after n s (h ++ g)).age ≡ (ticks_in s).keepalive = age_counts h ∙ rw (le-ltb (ticks_quiet (own_in s) n a h) (ticks_in s).keepalive high) refl in
      ap (λ (k : Choice). automatic k.ticks (span_after n s (h ++ g))) (choice-after s (h ++ g))
      ∙ aged_is_sf (ticks_in s) (span_after n s (h ++ g)) (omega arith)
