-- "A lower one goes on beneath a higher one": two histories that differ in operator records of one span alone leave the same of all else. So a running WTR is not lost when MS
-- comes and goes. s is any state in which nothing is left to purge, as every state of a start and of a call is. Assumes nothing.
use Prim.Native.Nat.{ℕ, ◌≤◌}
use mathlib.Core.Path.{◌≡◌, refl, sym, ◌∙◌, ap, subst}
use mathlib.Core.Bool.{Bool, true, false, cond, true≢false}
use mathlib.Core.List.{List, [], ◌∷◌, ◌++◌}
use lib.Dec.{eqb}
use borrow.Author.Tests.{eqb-true, eq-eqb}
use Rattle.settings.specs.declared.choice.Ticks.{Ticks}
use Rattle.spans.specs.declared.span.Span.{Span}
use Rattle.spans.specs.Codes.{none}
use Rattle.spans.specs.Records.{linked, ticked, alive, asked}
use Rattle.spans.specs.Requests.{automatic}
use Rattle.spans.proofs.Beneath.{waited-asked, linked-asked}
use Rattle.wire.proofs.Truths.{neither}
use Rattle.controller.specs.Reading.{Reading}
use Rattle.controller.specs.Reading.{Refused, Tick, Link, Keepalive, Operator, Heard, Block}
use Rattle.controller.specs.Reading.{block_of}
use Rattle.controller.specs.State.{Choice, State, span_of}
use Rattle.controller.specs.declared.sides.Spans.{Spans}
use Rattle.controller.specs.Handling.{acted}
use Rattle.controller.specs.Closing.{settled}
use Rattle.controller.specs.Record.{outcome_of, outcome}
use Rattle.promises.specs.History.{Call, after}
use Rattle.promises.specs.Spans.{own_in, read_as, is_operator, some_taken, operator_taken, unasked, span_after, asked_on, Swept, SameBeneath}
use Rattle.promises.proofs.Demand2.AfterKept.{choice-after}
use Rattle.promises.proofs.Spans.Readings.{Sided, sided, same_span}
use Rattle.promises.proofs.Spans.OneRecord.{spans-alone, spans-call, span_call, touched, cabled_touched, ticked_both}
use Rattle.promises.proofs.Spans.Purging.{swept_none, after-swept}
use Rattle.promises.proofs.Spans.Unseen.{at, bare, bare_twice, bare-settled, same_of, operator_of}

bare_wtr : (a b : Bool) (x : Spans) → (at b (bare a x)).wtr ≡ (at b x).wtr
bare_wtr true true x = refl
bare_wtr true false x = refl
bare_wtr false true x = refl
bare_wtr false false x = refl

-- A span that has no operator request is the one without.
bare-none : (a : Bool) (x : Spans) → (at a x).operator ≡ none → bare a x ≡ x
bare-none true x p = λ i. record { west = asked (sym p i) x.west; east = x.east }
bare-none false x p = λ i. record { west = x.west; east = asked (sym p i) x.east }

-- A record that is no operator record of span n leaves its operator request.
module _ (n : ℕ) (side : n ≤ 1) (t : Ticks) (y : Spans) where
  abbrev Still : Span → Type 0
  Still u = u.operator ≡ (span_of n y).operator

  acted-operator : (r : Reading) → Sided r → is_operator n r ≡ false → Still (span_of n (acted t r y))
  unfolding acted ticked
  acted-operator (Refused i) low u = refl
  acted-operator Tick low u = ap (λ (z : Span). z.operator) (ticked_both t n y)
  acted-operator (Link m status) low u =
      touched Still (linked t status) m n y (λ e. ap (λ (z : Span). z.operator) (linked-asked t (span_of n y).operator status (span_of n y))) refl
  acted-operator (Keepalive m) low u = touched Still alive m n y (λ e. refl) refl
  acted-operator (Operator m request) low u =
      touched Still (asked request) m n y (λ e. absurd (true≢false (sym (eq-eqb m n (same_span m n low side e)) ∙ u))) refl
  acted-operator (Heard m p) low u = cabled_touched Still m n p y (λ mark. refl) refl
  acted-operator (Block m a) low u = refl

operator_stays : (n : ℕ) → n ≤ 1 → (s : State) (g h : List Call) → operator_taken s.choice.address n h ≡ false
    → (span_after n s (h ++ g)).operator ≡ (span_after n s g).operator
unfolding some_taken
operator_stays n side s g [] u = refl
operator_stays n side s g (c ∷ h) u =
    let t : Ticks = s.choice.ticks in
    let r : Reading = read_as s.choice.address c in
    let y : Spans = (after s (h ++ g)).spans in
    let v : Span = span_of n (acted t r y) in
    let (first, rest) = neither (is_operator n r) (operator_taken s.choice.address n h) u in
    ap (λ (z : Span). z.operator) (span_call s (h ++ g) c n ∙ waited-asked t v.operator (automatic t (span_of n y)) v)
    ∙ acted-operator n side t y r (sided s.choice.address c.bytes c.room) first
    ∙ operator_stays n side s g h rest

-- After the record that takes the request away there is none.
gone : (n : ℕ) (s : State) (h : List Call) (d : Call) → read_as s.choice.address d ≡ Operator n none
    → (after s (d ∷ h)).spans ≡ asked_on n none (after s (d ∷ h)).spans
unfolding acted
gone n s h d goes =
    let t : Ticks = s.choice.ticks in
    let x : Spans = (after s h).spans in
    let a : Bool = eqb n 0 in
    let is : (after s (d ∷ h)).spans ≡ bare a (settled t x x) =
    spans-call s h d ∙ ap (λ (r : Reading). settled t x (acted t r x)) goes ∙ bare-settled t a x x in
    is ∙ sym (bare_twice a (settled t x x)) ∙ ap (bare a) (sym is)

module _ (n : ℕ) where
  -- The relation is one of equality.
  same_self : (s : State) → SameBeneath n s s
  same_self s = record { choice = refl; spans = refl; stations = refl }

  same_back : (s u : State) → SameBeneath n s u → SameBeneath n u s
  same_back s u e = record { choice = sym e.choice; spans = sym e.spans; stations = sym e.stations }

  same_on : (s u v : State) → SameBeneath n s u → SameBeneath n u v → SameBeneath n s v
  same_on s u v e d = record { choice = e.choice ∙ d.choice; spans = e.spans ∙ d.spans; stations = e.stations ∙ d.stations }

  -- One call to both ..
  same_call : (s u : State) → SameBeneath n s u → (c : Call)
      → SameBeneath n (outcome s c.bytes c.room).state (outcome u c.bytes c.room).state
  unfolding outcome
  same_call s u e c =
      let b : List ℕ = block_of c.bytes in
      subst (λ (k : Choice). SameBeneath n (outcome_of (read_as s.choice.address c) b s).state (outcome_of (read_as k.address c) b u).state)
      e.choice (same_of n (read_as s.choice.address c) b s u e)

  -- WTR is among what is the same.
  same_wtr : (m : ℕ) (s u : State) → SameBeneath n s u → (span_of m s.spans).wtr ≡ (span_of m u.spans).wtr
  same_wtr m s u e =
      sym (bare_wtr (eqb n 0) (eqb m 0) s.spans) ∙ ap (λ (x : Spans). (span_of m x).wtr) e.spans ∙ bare_wtr (eqb n 0) (eqb m 0) u.spans

  module _ (s : State) (tidy : Swept s) where
    -- .. and one that is an operator record of the span.
    operator-call : (h : List Call) (c : Call) → is_operator n (read_as (own_in s) c) ≡ true → SameBeneath n (after s (c ∷ h)) (after s h)
    unfolding after outcome
    operator-call h c is =
        subst (λ (k : Choice). SameBeneath n (outcome_of (read_as k.address c) (block_of c.bytes) (after s h)).state (after s h))
        (sym (choice-after s h)) (go (read_as (own_in s) c) is)
      where
        go : (r : Reading) → is_operator n r ≡ true → SameBeneath n (outcome_of r (block_of c.bytes) (after s h)).state (after s h)
        go (Refused k) e = absurd (true≢false (sym e))
        go Tick e = absurd (true≢false (sym e))
        go (Link m status) e = absurd (true≢false (sym e))
        go (Keepalive m) e = absurd (true≢false (sym e))
        go (Operator m request) e =
            rw (eqb-true m n e) (operator_of n request (block_of c.bytes) (after s h) (after-swept s tidy h))
        go (Heard m p) e = absurd (true≢false (sym e))
        go (Block m a) e = absurd (true≢false (sym e))

    -- With the operator records of the span and without them.
    unasked_same : (h : List Call) → SameBeneath n (after s h) (after s (unasked (own_in s) n h))
    unfolding unasked after
    unasked_same [] = same_self s
    unasked_same (c ∷ h) = go (is_operator n (read_as (own_in s) c)) refl (unasked_same h)
      where
        go : (b : Bool) → is_operator n (read_as (own_in s) c) ≡ b → SameBeneath n (after s h) (after s (unasked (own_in s) n h))
            → SameBeneath n (after s (c ∷ h)) (after s (cond b (unasked (own_in s) n h) (c ∷ unasked (own_in s) n h)))
        go true is rest = same_on (after s (c ∷ h)) (after s h) (after s (unasked (own_in s) n h)) (operator-call h c is) rest
        go false is rest = same_call (after s h) (after s (unasked (own_in s) n h)) rest c

    -- Two histories that are the same but for operator records of span n.
    pub same_beneath : (g h : List Call) → unasked (own_in s) n g ≡ unasked (own_in s) n h → SameBeneath n (after s g) (after s h)
    same_beneath g h e =
        same_on (after s g) (after s (unasked (own_in s) n g)) (after s h) (unasked_same g)
        (subst (λ (k : List Call). SameBeneath n (after s k) (after s h)) (sym e) (same_back (after s h) (after s (unasked (own_in s) n h)) (unasked_same h)))

    skipped : (h g : List Call) (c : Call) → is_operator n (read_as (own_in s) c) ≡ true → unasked (own_in s) n (h ++ (c ∷ g)) ≡ unasked (own_in s) n (h ++ g)
    unfolding unasked
    skipped [] g c is = rw is refl
    skipped (d ∷ h) g c is =
        ap (λ (k : List Call). cond (is_operator n (read_as (own_in s) d)) k (d ∷ k)) (skipped h g c is)

    -- A request comes after the calls g, and goes after the calls h: c is the record that brings it, d the one that takes it away.
    module _ (g : List Call) (c : Call) (h : List Call) (d : Call) (request : ℕ) (comes : read_as (own_in s) c ≡ Operator n request)
        (goes : read_as (own_in s) d ≡ Operator n none) where
      is_operator_lem : (e : Call) (q : ℕ) → read_as (own_in s) e ≡ Operator n q → is_operator n (read_as (own_in s) e) ≡ true
      is_operator_lem e q is = rw is (eq-eqb n n refl)

      pub comes_and_goes : SameBeneath n (after s (d ∷ (h ++ (c ∷ g)))) (after s (h ++ g))
      comes_and_goes =
          same_beneath (d ∷ (h ++ (c ∷ g))) (h ++ g)
          (skipped [] (h ++ (c ∷ g)) d (is_operator_lem d none goes) ∙ skipped h g c (is_operator_lem c request comes))

      -- Every tick of WTR that would be left is left, on either span; also while the request stands.
      pub wtr_not_lost : (m : ℕ) → (span_after m s (d ∷ (h ++ (c ∷ g)))).wtr ≡ (span_after m s (h ++ g)).wtr
      wtr_not_lost m = same_wtr m (after s (d ∷ (h ++ (c ∷ g)))) (after s (h ++ g)) comes_and_goes

      pub wtr_beneath : (m : ℕ) → (span_after m s (h ++ (c ∷ g))).wtr ≡ (span_after m s (h ++ g)).wtr
      wtr_beneath m =
          same_wtr m (after s (h ++ (c ∷ g))) (after s (h ++ g))
          (same_beneath (h ++ (c ∷ g)) (h ++ g) (skipped h g c (is_operator_lem c request comes)))

      -- The spans are those without it, with no operator request on span n ..
      pub spans-without : (after s (d ∷ (h ++ (c ∷ g)))).spans ≡ asked_on n none (after s (h ++ g)).spans
      spans-without = gone n s (h ++ (c ∷ g)) d goes ∙ comes_and_goes.spans

      -- .. so they are wholly the same, if span n had none and is asked for none between.
      pub as_if_not_come : n ≤ 1 → (span_after n s g).operator ≡ none → operator_taken (own_in s) n h ≡ false
          → ((after s (d ∷ (h ++ (c ∷ g)))).spans ≡ (after s (h ++ g)).spans) × ((after s (d ∷ (h ++ (c ∷ g)))).stations ≡ (after s (h ++ g)).stations)
      as_if_not_come side free u =
          (spans-without ∙ bare-none (eqb n 0) (after s (h ++ g)).spans (operator_stays n side s g h u ∙ free), comes_and_goes.stations)

-- Of the spans the same holds from any state at all: its stations do not matter, so it may be taken without them.
module _ (s : State) where
  abbrev emptied : State
  emptied = record { choice = s.choice; spans = s.spans; stations = []; pacer = s.pacer }

  pub spans_as_if_not_come : (n : ℕ) → n ≤ 1 → (g : List Call) (c : Call) (h : List Call) (d : Call) (request : ℕ)
      → read_as s.choice.address c ≡ Operator n request → read_as s.choice.address d ≡ Operator n none → (span_after n s g).operator ≡ none
      → operator_taken s.choice.address n h ≡ false → (after s (d ∷ (h ++ (c ∷ g)))).spans ≡ (after s (h ++ g)).spans
  spans_as_if_not_come n side g c h d request comes goes free u =
      let alone : (k : List Call) → (after emptied k).spans ≡ (after s k).spans = spans-alone emptied s refl refl in
      sym (alone (d ∷ (h ++ (c ∷ g))))
      ∙ (as_if_not_come n emptied (swept_none s.choice.ticks s.spans) g c h d request comes goes side
      (ap (λ (x : Spans). (span_of n x).operator) (alone g) ∙ free) u).0
      ∙ alone (h ++ g)
