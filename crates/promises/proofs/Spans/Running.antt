-- A running WTR falls by the ticks that are taken and by nothing else, as long as the span has no automatic request: whatever other records stand between, operator records too. Assumes nothing.
use Prim.Native.Nat.{ℕ, suc, ◌+◌, ◌-◌}
use mathlib.Core.Path.{◌≡◌, refl, sym, ◌∙◌, ap}
use mathlib.Core.Bool.{Bool, true, false, cond}
use mathlib.Core.List.{List, [], ◌∷◌, ◌++◌}
use native.Mathlib.Omega.{arith}
use Rattle.settings.specs.declared.choice.Ticks.{Ticks}
use Rattle.spans.specs.declared.span.Span.{Span}
use Rattle.spans.specs.Codes.{none}
use Rattle.spans.specs.Records.{linked, ticked, alive, asked}
use Rattle.spans.specs.Requests.{automatic, waited}
use Rattle.spans.proofs.Fair.{linked_wtr}
use Rattle.spans.proofs.Waiting.{waited-automatic, waited_same}
use Rattle.controller.specs.Reading.{Reading}
use Rattle.controller.specs.Reading.{Refused, Tick, Link, Keepalive, Operator, Heard, Block}
use Rattle.controller.specs.State.{Choice, State, span_of}
use Rattle.controller.specs.declared.sides.Spans.{Spans}
use Rattle.controller.specs.Handling.{acted}
use Rattle.controller.specs.Closing.{is_tick}
use Rattle.promises.specs.History.{Call, after, Always}
use Rattle.promises.specs.Spans.{own_in, ticks_in, read_as, ticks_taken, span_after, Unrequested}
use Rattle.promises.proofs.Demand2.AfterKept.{choice-after}
use Rattle.promises.proofs.Spans.OneRecord.{span_call, touched, cabled_touched, ticked_both}

-- No handler but a tick's changes WTR.
module _ (n : ℕ) (t : Ticks) (y : Spans) where
  abbrev Left : ℕ → Span → Type 0
  Left w u = u.wtr ≡ w

  acted_wtr : (r : Reading) → (span_of n (acted t r y)).wtr ≡ cond (is_tick r) ((span_of n y).wtr - 1) (span_of n y).wtr
  unfolding acted ticked
  acted_wtr (Refused i) = refl
  acted_wtr Tick = ap (λ (z : Span). z.wtr) (ticked_both t n y)
  acted_wtr (Link m status) = touched (Left (span_of n y).wtr) (linked t status) m n y (λ e. linked_wtr t (span_of n y) status) refl
  acted_wtr (Keepalive m) = touched (Left (span_of n y).wtr) alive m n y (λ e. refl) refl
  acted_wtr (Operator m request) = touched (Left (span_of n y).wtr) (asked request) m n y (λ e. refl) refl
  acted_wtr (Heard m p) = cabled_touched (Left (span_of n y).wtr) m n p y (λ mark. refl) refl
  acted_wtr (Block m a) = refl

-- What holds at every point holds at the last.
now : (P : List Call → Type 0) (h : List Call) → Always P h → P h
unfolding Always
now P [] k = k
now P (c ∷ h) k = k.0

module _ (s : State) (n : ℕ) (g : List Call) where
  unrequested : (h : List Call) → Unrequested n s g h → automatic (ticks_in s) (span_after n s (h ++ g)) ≡ none
  unrequested h q = ap (λ (k : Choice). automatic k.ticks (span_after n s (h ++ g))) (sym (choice-after s (h ++ g))) ∙ q

  step : (c : Call) (h : List Call) → Unrequested n s g (c ∷ h) → Unrequested n s g h
      → (span_after n s (c ∷ (h ++ g))).wtr ≡ cond (is_tick (read_as (own_in s) c)) ((span_after n s (h ++ g)).wtr - 1) (span_after n s (h ++ g)).wtr
  step c h later before =
      let u : Span = span_after n s (h ++ g) in
      let v : Span = span_of n (acted (ticks_in s) (read_as (own_in s) c) (after s (h ++ g)).spans) in
      let is : span_after n s (c ∷ (h ++ g)) ≡ waited (ticks_in s) (automatic (ticks_in s) u) v = span_call s (h ++ g) c n in
      let same : automatic (ticks_in s) v ≡ automatic (ticks_in s) u =
      sym (waited-automatic (ticks_in s) (automatic (ticks_in s) u) v) ∙ ap (automatic (ticks_in s)) (sym is) ∙ unrequested (c ∷ h) later ∙ sym (unrequested h before) in
      ap (λ (z : Span). z.wtr) (is ∙ waited_same (ticks_in s) (automatic (ticks_in s) u) v same) ∙ acted_wtr n (ticks_in s) (after s (h ++ g)).spans (read_as (own_in s) c)

  pub wtr_runs_on : (h : List Call) → Always (Unrequested n s g) h → (span_after n s (h ++ g)).wtr ≡ (span_after n s g).wtr - ticks_taken (own_in s) h
  unfolding Always ticks_taken
  wtr_runs_on [] k = omega arith
  wtr_runs_on (c ∷ h) k =
      step c h k.0 (now (Unrequested n s g) h k.1)
      ∙ fall (is_tick (read_as (own_in s) c)) (span_after n s (h ++ g)).wtr (span_after n s g).wtr (ticks_taken (own_in s) h) (wtr_runs_on h k.1)
    where
      fall : (b : Bool) (left w k : ℕ) → left ≡ w - k → cond b (left - 1) left ≡ w - cond b (suc k) k
      fall true left w k e = omega arith
      fall false left w k e = e

  ticks_both : (h k : List Call) → ticks_taken (own_in s) (h ++ k) ≡ ticks_taken (own_in s) h + ticks_taken (own_in s) k
  unfolding ticks_taken
  ticks_both [] k = omega arith
  ticks_both (c ∷ h) k = more (is_tick (read_as (own_in s) c)) (ticks_taken (own_in s) (h ++ k)) (ticks_taken (own_in s) h) (ticks_taken (own_in s) k) (ticks_both h k)
    where
      more : (b : Bool) (all a z : ℕ) → all ≡ a + z → cond b (suc all) all ≡ cond b (suc a) a + z
      more true all a z e = omega arith
      more false all a z e = e

  -- A request comes, the calls h are made, and it goes: what ran has run by the ticks of h.
  pub wtr_runs_beneath : (c : Call) (h : List Call) (d : Call) (request : ℕ) → read_as (own_in s) c ≡ Operator n request → read_as (own_in s) d ≡ Operator n none
      → Always (Unrequested n s g) (d ∷ (h ++ (c ∷ []))) → (span_after n s ((d ∷ (h ++ (c ∷ []))) ++ g)).wtr ≡ (span_after n s g).wtr - ticks_taken (own_in s) h
  unfolding ticks_taken
  wtr_runs_beneath c h d request comes goes k =
      let first : ticks_taken (own_in s) (c ∷ []) ≡ 0 = rw comes refl in
      let last : ticks_taken (own_in s) (d ∷ (h ++ (c ∷ []))) ≡ ticks_taken (own_in s) (h ++ (c ∷ [])) = rw goes refl in
      wtr_runs_on (d ∷ (h ++ (c ∷ []))) k ∙ ap (λ (m : ℕ). (span_after n s g).wtr - m) (last ∙ ticks_both h (c ∷ []) ∙ omega arith)
