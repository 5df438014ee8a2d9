-- A tick that is taken never lowers an automatic request, nor takes one away, after any history from any start; nor do many. Assumes nothing.
use Prim.Native.Nat.{ℕ, zero, suc, ◌≤◌}
use mathlib.Core.Path.{◌≡◌, ◌∙◌, ap, subst}
use mathlib.Core.Bool.{Bool, true, false, cond}
use mathlib.Core.List.{List, ◌∷◌, ◌++◌}
use native.Mathlib.Omega.{arith}
use lib.ListN.{replicate}
use lib.Dec.{eqb}
use Rattle.settings.specs.declared.choice.Ticks.{Ticks}
use Rattle.settings.specs.Kept.{TicksKept}
use Rattle.spans.specs.declared.span.Span.{Span}
use Rattle.spans.specs.Codes.{none}
use Rattle.spans.specs.Records.{ticked}
use Rattle.spans.specs.Requests.{automatic, waited}
use Rattle.spans.specs.Kept.{SpanFair}
use Rattle.spans.proofs.Waiting.{waited-automatic}
use Rattle.spans.proofs.Rising.{tick_rises}
use Rattle.controller.specs.Reading.{Reading}
use Rattle.controller.specs.Reading.{Tick}
use Rattle.controller.specs.State.{Choice, State, span_of, started}
use Rattle.controller.specs.declared.sides.Spans.{Spans}
use Rattle.controller.specs.Handling.{acted}
use Rattle.controller.specs.Kept.{StateKept}
use Rattle.controller.proofs.Holding.{ticking_kept}
use Rattle.promises.specs.History.{Call, after, tick_with, AllBytes}
use Rattle.promises.specs.Spans.{read_as, span_after, automatic_on}
use Rattle.promises.proofs.Demand2.AfterKept.{after_kept, choice-after}
use Rattle.promises.proofs.Demand2.Spelling.{tick_read, ticks-after}
use Rattle.promises.proofs.Spans.OneRecord.{span_call, ticked_both}

pub span_fair : (n : ℕ) (s : State) → StateKept s → SpanFair s.choice.ticks (span_of n s.spans)
span_fair n s k = go (eqb n 0)
  where
    go : (b : Bool) → SpanFair s.choice.ticks (cond b s.spans.west s.spans.east)
    go true = k.west.fair
    go false = k.east.fair

-- c is the call of a tick, after the calls h from the state s.
module _ (s : State) (h : List Call) (c : Call) (is : read_as s.choice.address c ≡ Tick) (n : ℕ) where
  abbrev t : Ticks
  t = s.choice.ticks

  ticked-call : automatic_on n (after s (c ∷ h)) ≡ automatic t (ticked t (span_after n s h))
  ticked-call =
      let u : Span = span_after n s h in
      let y : Spans = (after s h).spans in
      ap (λ (k : Choice). automatic k.ticks (span_after n s (c ∷ h))) (choice-after s (c ∷ h))
      ∙ ap (automatic t) (span_call s h c n ∙ ap (λ (r : Reading). waited t (automatic t u) (span_of n (acted t r y))) is)
      ∙ waited-automatic t (automatic t u) (span_of n (acted t Tick y))
      ∙ ap (automatic t) (ticked_both t n y)

  pub never_lowered : StateKept (after s h) → automatic_on n (after s h) ≤ automatic_on n (after s (c ∷ h))
  never_lowered k =
      let u : Span = span_after n s h in
      let before : automatic_on n (after s h) ≡ automatic t u = ap (λ (q : Choice). automatic q.ticks u) (choice-after s h) in
      let fair : SpanFair t u = subst (λ (q : Choice). SpanFair q.ticks u) (choice-after s h) (span_fair n (after s h) k) in
      rw (before, ticked-call) (tick_rises t u fair)

  pub never_taken_away : StateKept (after s h) → (automatic_on n (after s h) ≡ none → ⊥) → automatic_on n (after s (c ∷ h)) ≡ none → ⊥
  never_taken_away k some gone = some (omega (arith, never_lowered k))

-- Many ticks after the calls l.
module _ (s : State) (room : ℕ) (enough : 7 ≤ room) (l : List Call) (k : StateKept (after s l)) where
  pub kept_ticks : (j : ℕ) → StateKept (after s (replicate j (tick_with room) ++ l))
  kept_ticks j = subst StateKept (ticks-after room enough j s l) (ticking_kept j (after s l) k)

  pub one_more_lem : (n j : ℕ) → automatic_on n (after s (replicate j (tick_with room) ++ l)) ≤ automatic_on n (after s (replicate (suc j) (tick_with room) ++ l))
  one_more_lem n j = never_lowered s (replicate j (tick_with room) ++ l) (tick_with room) (tick_read room enough s.choice.address) n (kept_ticks j)

  pub ticks_never_lower : (n j : ℕ) → automatic_on n (after s l) ≤ automatic_on n (after s (replicate j (tick_with room) ++ l))
  ticks_never_lower n zero = omega arith
  ticks_never_lower n (suc j) = omega (arith, ticks_never_lower n j, one_more_lem n j)

-- From any start, by bytes.
module _ (c : Choice) (t : TicksKept c.ticks) (h : List Call) (b : AllBytes h) (d : Call) (is : read_as c.address d ≡ Tick) (n : ℕ) where
  pub tick_never_lowers : automatic_on n (after (started c) h) ≤ automatic_on n (after (started c) (d ∷ h))
  unfolding started
  tick_never_lowers = never_lowered (started c) h d is n (after_kept c t h b)

  pub tick-takes-none_away : (automatic_on n (after (started c) h) ≡ none → ⊥) → automatic_on n (after (started c) (d ∷ h)) ≡ none → ⊥
  unfolding started
  tick-takes-none_away = never_taken_away (started c) h d is n (after_kept c t h b)
