-- The rule of 01 that 02, Item 2 replaces, kept for its counter-example alone: with it a span whose link swings within the hold-off time never switches. Assumes nothing.
use Prim.Native.Nat.{ℕ, zero, suc, ◌<◌, ◌≤◌}
use mathlib.Core.Path.{◌≡◌, refl, sym, ◌∙◌, ap}
use mathlib.Core.Bool.{false, cond}
use mathlib.Core.List.{List, [], ◌∷◌, ◌++◌}
use native.Mathlib.Omega.{arith}
use lib.Dec.{eqb, leb}
use Rattle.settings.specs.declared.choice.Ticks.{Ticks}
use Rattle.spans.specs.declared.span.Span.{Span}
use Rattle.spans.specs.Codes.{good, degraded, failed, none}
use Rattle.spans.specs.Records.{with_link, in_force, linked, ticked}
use Rattle.spans.specs.Requests.{automatic, waited}
use Rattle.controller.specs.Reading.{reading}
use Rattle.controller.specs.State.{State, span_of, started}
use Rattle.promises.specs.History.{Call, after, AllBytes}
use Rattle.promises.specs.Spans.{own_in, ticks_in, read_as, some_taken, ticks_taken, span_after}
use Rattle.promises.specs.HoldOff.{as_good_taken, SwitchesInTime}
use Rattle.promises.specs.Drilled.{calls_for}
use Rattle.promises.specs.Examples.{station, link, ticks}
use Rattle.promises.proofs.Spans.Links.{handled, span_step}
use Rattle.promises.proofs.Spans.Swinging.{switches_in_time}
use Rattle.promises.proofs.Spans.MeetsSpans.{node, ticks_met, call, held, failing}

-- 01 said: "If it is worse, hold-off starts anew; with a setting of 0 it comes into force at once." `worsened` as it was ..
abbrev pub worsened_anew : Ticks → ℕ → Span → Span
worsened_anew t status s = cond (eqb t.holdoff 0) (in_force status s) (with_link status s.force t.holdoff s)

-- .. and a link record with it; the rest of `linked` stays.
abbrev pub anew : Ticks → ℕ → Span → Span
anew t status s =
    cond (eqb status s.stored) s
    (cond (leb status s.force) (in_force status s)
    (worsened_anew t status s))

-- The span n after a history, if `rule` is what a link record does.
unfoldable pub from : (Ticks → ℕ → Span → Span) → ℕ → Ticks → ℕ → Span → List Call → Span
unfolding reading automatic waited
from rule own t n u [] = u
from rule own t n u (c ∷ h) =
    let v = from rule own t n u h in
    waited t (automatic t v) (handled rule t n (read_as own c) v)

abbrev pub span_by : (Ticks → ℕ → Span → Span) → ℕ → State → List Call → Span
span_by rule n s h = from rule (own_in s) (ticks_in s) n (span_of n s.spans) h

-- By the rule of 02 it is the span that the rules leave: nothing but the rule differs below.
pub by_the_rules : (s : State) (n : ℕ) → n ≤ 1 → (h : List Call) → span_by linked n s h ≡ span_after n s h
unfolding from after
by_the_rules s n side [] = refl
by_the_rules s n side (c ∷ h) =
    ap (λ (v : Span). waited (ticks_in s) (automatic (ticks_in s) v) (handled linked (ticks_in s) n (read_as (own_in s) c) v)) (by_the_rules s n side h)
    ∙ sym (span_step s n side h c)

-- With 3 steps: failed, degraded after 20 ticks, and 20 ticks more.
abbrev meanwhile : List Call
meanwhile = calls_for (ticks 20 ++ (link 0 degraded ∷ ticks 20))

forty : ticks_taken (station 1) meanwhile ≡ 40
unfolding ticks_taken ticks
forty = refl

only_worse : as_good_taken (station 1) 0 good meanwhile ≡ false
unfolding some_taken ticks
only_worse = refl

still-good : (span_by anew 0 held (meanwhile ++ (call (link 0 failed) ∷ []))).force ≡ good
unfolding started from ticks ticked
still-good = refl

-- At this history the rule before fails the customer's point, and the rule of 02 meets it.
pub old_rule_fails : SwitchesInTime (span_by anew) → ⊥
unfolding started from AllBytes
old_rule_fails all =
    let late : good < (span_by anew 0 held (meanwhile ++ (call (link 0 failed) ∷ []))).force =
    all (node 0 30) (ticks_met 30 (omega arith)) 0 (omega arith) [] tt (call (link 0 failed)) failed failing (omega arith) meanwhile only_worse (omega (arith, forty)) in
    omega (arith, still-good)

pub new_rule_holds : good < (span_after 0 held (meanwhile ++ (call (link 0 failed) ∷ []))).force
unfolding started after AllBytes
new_rule_holds =
    switches_in_time (node 0 30) (ticks_met 30 (omega arith)) 0 (omega arith) [] tt (call (link 0 failed)) failed failing (omega arith) meanwhile only_worse
    (omega (arith, forty))

-- "so the span never switches": degraded and failed every 20 ms, however often.
abbrev turn : List Call
turn = calls_for ((link 0 degraded ∷ ticks 20) ++ (link 0 failed ∷ ticks 20))

unfoldable pub swinging : ℕ → List Call
unfolding ticks
swinging zero = calls_for (link 0 failed ∷ ticks 20)
swinging (suc m) = turn ++ swinging m

-- What each turn leaves: failed is stored, 10 ticks of the hold-off are left, and good is in force.
abbrev swung : Span
swung = record { stored = failed; force = good; holdoff = 10; age = 1; cable = false; operator = none; wtr = 0 }

turned : span_by anew 0 held (calls_for (link 0 failed ∷ ticks 20)) ≡ swung
unfolding started from ticks ticked
turned = refl

turned-again : from anew (station 1) (node 0 30).ticks 0 swung turn ≡ swung
unfolding from ticks ticked
turned-again = refl

from_both : (rule : Ticks → ℕ → Span → Span) (own : ℕ) (t : Ticks) (n : ℕ) (u : Span) (h g : List Call)
    → from rule own t n u (h ++ g) ≡ from rule own t n (from rule own t n u g) h
unfolding from
from_both rule own t n u [] g = refl
from_both rule own t n u (c ∷ h) g =
    ap (λ (v : Span). waited t (automatic t v) (handled rule t n (read_as own c) v)) (from_both rule own t n u h g)

always_swung : (m : ℕ) → span_by anew 0 held (swinging m) ≡ swung
unfolding swinging started
always_swung zero = turned
always_swung (suc m) =
    from_both anew (station 1) (node 0 30).ticks 0 (span_of 0 held.spans) turn (swinging m)
    ∙ ap (λ (u : Span). from anew (station 1) (node 0 30).ticks 0 u turn) (always_swung m)
    ∙ turned-again

pub never_switches : (m : ℕ) → (span_by anew 0 held (swinging m)).force ≡ good
never_switches m = ap (λ (u : Span). u.force) (always_swung m)
