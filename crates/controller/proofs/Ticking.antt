-- Many ticks, one after another: what is still to come, and what is there already. Assumes nothing.
use Prim.Native.Nat.{ℕ, zero, suc, ◌+◌, ◌-◌, ◌*◌, ◌<◌, ◌≤◌}
use mathlib.Core.Path.{◌≡◌, refl, sym, ◌∙◌, ap, subst}
use mathlib.Core.Bool.{Bool, true, false, cond}
use mathlib.Core.List.{List, [], ◌++◌, append-nil, append_assoc}
use native.Mathlib.Omega.{arith}
use lib.ListN.{length, take, drop, length-append, length-drop, take-append-drop, drop_of_length-le}
use lib.Seq.{length-take-le, take_all, take-append-add, drop-append-add, take-append_seam, drop-append_seam, drop-drop}
use lib.Dec.{leb}
use borrow.Author.Tests.{leb-true, le-leb}
use Rattle.wire.specs.Report.{over}
use Rattle.controller.specs.Reading.{Tick}
use Rattle.controller.specs.State.{State}
use Rattle.controller.specs.Handling.{acted, judged}
use Rattle.controller.specs.Closing.{settled, pacing}
use Rattle.controller.specs.Record.{closed, outcome_of, ticking}
use Rattle.controller.specs.Node.{Node, Answer, answer_in, returned, settings_of, state_of, node_of, node_in, reports_in}
use Rattle.controller.specs.Steps.{TookReading, TookTick, TookTicks}
use Rattle.controller.proofs.Reports.{over_none, report_whole}
use Rattle.controller.proofs.Holding.{outcome_of_choice}

-- Whole reports, so many.
abbrev pub Reports : ℕ → List ℕ → Type 0
Reports k l = length l ≡ 7 * k

pub reports-number : (k : ℕ) (l : List ℕ) → Reports k l → reports_in l ≡ k
reports-number k l e = omega arith

pub reports_both : (j k : ℕ) (l m : List ℕ) → Reports j l → Reports k m → Reports (j + k) (l ++ m)
reports_both j k l m e d = omega (arith, length-append l m)

-- A tick writes none or one ..
abbrev told : State → List ℕ
told s = (outcome_of Tick [] s).report

pub tick-reports : (s : State) → Reports (reports_in (told s)) (told s) × (reports_in (told s) ≤ 1)
unfolding outcome_of judged closed
tick-reports s =
    let t = s.choice.ticks in
    report_whole (pacing t true (settled t s.spans (acted t Tick s.spans)) s.pacer)

-- .. and n ticks at most n.
pub ticks-reports : (n : ℕ) (s : State) → Reports (reports_in (ticking n s).report) (ticking n s).report × (reports_in (ticking n s).report ≤ n)
unfolding ticking
ticks-reports zero s = (refl, omega arith)
ticks-reports (suc n) s =
    let p : List ℕ = (ticking n (outcome_of Tick [] s).state).report in
    let (one, low) = tick-reports s in
    let (more, high) = ticks-reports n (outcome_of Tick [] s).state in
    let all : Reports (reports_in (told s) + reports_in p) (told s ++ p) = reports_both (reports_in (told s)) (reports_in p) (told s) p one more in
    let number : reports_in (told s ++ p) ≡ reports_in (told s) + reports_in p = reports-number (reports_in (told s) + reports_in p) (told s ++ p) all in
    (omega (arith, all, number), omega (arith, number, low, high))

pub ticking_result : (n : ℕ) (s : State) → (ticking n s).result ≡ 0
unfolding ticking
ticking_result zero s = refl
ticking_result (suc n) s = ticking_result n (outcome_of Tick [] s).state

-- One tick is what a tick does.
pub ticking-one : (block : List ℕ) (s : State) → ticking 1 s ≡ outcome_of Tick block s
unfolding ticking outcome_of judged closed
ticking-one block s = λ i. record { result = 0; state = (outcome_of Tick block s).state; report = append-nil (told s) i }

-- What is laid over a buffer leaves its length.
pub over_long : (b old : List ℕ) → length (over b old) ≡ length old
unfolding over
over_long b old = go (leb (length b) (length old)) refl
  where
    go : (x : Bool) → leb (length b) (length old) ≡ x → length (cond x (b ++ drop (length b) old) old) ≡ length old
    go true e = length-append b (drop (length b) old) ∙ omega (arith, length-drop (length b) old, leb-true (length b) (length old) e)
    go false e = refl

-- Bytes o and then p laid over what lies behind t: o first, and p behind it.
pub laid_behind : (t o p d : List ℕ) → length o + length p ≤ length d
    → t ++ over (o ++ p) d ≡ take (length t + length o) (t ++ over o d) ++ over p (drop (length t + length o) (t ++ over o d))
unfolding over
laid_behind t o p d room =
    let whole : over (o ++ p) d ≡ o ++ (p ++ drop (length o + length p) d) =
    rw (length-append o p, le-leb (length o + length p) (length d) room) (append_assoc o p (drop (length o + length p) d)) in
    let first : over o d ≡ o ++ drop (length o) d = rw (le-leb (length o) (length d) (omega arith)) refl in
    let front : take (length t + length o) (t ++ over o d) ≡ t ++ o =
    ap (λ (x : List ℕ). take (length t + length o) (t ++ x)) first
    ∙ take-append-add t (o ++ drop (length o) d) (length o) ∙ ap (λ (x : List ℕ). t ++ x) (take-append_seam o (drop (length o) d)) in
    let rest : drop (length t + length o) (t ++ over o d) ≡ drop (length o) d =
    ap (λ (x : List ℕ). drop (length t + length o) (t ++ x)) first ∙ drop-append-add t (o ++ drop (length o) d) (length o) ∙ drop-append_seam o (drop (length o) d) in
    let behind : over p (drop (length o) d) ≡ p ++ drop (length o + length p) d =
    rw (length-drop (length o) d, le-leb (length p) (length d - length o) (omega arith)) (ap (λ (x : List ℕ). p ++ x) (drop-drop (length p) (length o) d)) in
    ap (λ (x : List ℕ). t ++ x) whole
    ∙ sym (append_assoc t o (p ++ drop (length o + length p) d))
    ∙ (λ i. sym front i ++ sym behind i)
    ∙ ap (λ (x : List ℕ). take (length t + length o) (t ++ over o d) ++ over p x) (sym rest)

-- The node after a tick shows the state after it.
tick_shows : (n : Node) → state_of (node_in n (outcome_of Tick [] (state_of n)).state) ≡ (outcome_of Tick [] (state_of n)).state
tick_shows n = λ i. record {
  choice = sym (outcome_of_choice Tick [] (state_of n)) i;
  spans = (outcome_of Tick [] (state_of n)).state.spans;
  stations = (outcome_of Tick [] (state_of n)).state.stations;
  pacer = (outcome_of Tick [] (state_of n)).state.pacer;
}

-- A tick that was lent the rest of a buffer, which comes back behind the front.
pub tick-behind : {n : Node} {at : ℕ} {old block new : List ℕ} {a : Answer} → at ≤ length old
    → TookReading n Tick block (take (length old - at) (drop at old)) new a
    → TookTick n at old (take at old ++ (new ++ drop (length old - at) (drop at old))) a
unfolding outcome_of judged
tick-behind {n} {at} {old} {block} {new} {a} low v =
    let rest : take (length old - at) (drop at old) ≡ drop at old = take_all (length old - at) (drop at old) (omega (arith, length-drop at old)) in
    let none : drop (length old - at) (drop at old) ≡ [] = drop_of_length-le (drop at old) {i = length old - at} (omega (arith, length-drop at old)) in
    record {
      is = v.is;
      content =
          ap (λ (x : List ℕ). take at old ++ (new ++ x)) none
          ∙ ap (λ (x : List ℕ). take at old ++ x) (append-nil new ∙ v.content ∙ ap (over (told (state_of n))) rest);
    }

-- A loop that has begun with the node n₀, so many ticks and the buffer old, and has come to the node n, with some left, and to the buffer out.
pub record Going (n₀ : Node) (ticks : ℕ) (old : List ℕ) (n : Node) (left reports : ℕ) (out : List ℕ) : Type 0 where
  pub node : node_in n₀ (ticking ticks (state_of n₀)).state ≡ node_in n (ticking left (state_of n)).state
  pub number : reports_in (ticking ticks (state_of n₀)).report ≡ reports + reports_in (ticking left (state_of n)).report
  pub content : over (ticking ticks (state_of n₀)).report old ≡ take (7 * reports) out ++ over (ticking left (state_of n)).report (drop (7 * reports) out)
  pub few : reports + left ≤ ticks
  pub room : 7 * ticks ≤ length old
  pub long : length out ≡ length old

pub begins : (n : Node) (ticks left : ℕ) (old : List ℕ) → left ≡ ticks → 7 * ticks ≤ length old → Going n ticks old n left 0 old
begins n ticks left old all room = rw all (record { node = refl; number = omega arith; content = refl; few = omega arith; room = room; long = refl })

module _ {n₀ : Node} {ticks : ℕ} {old : List ℕ} {n : Node} {reports : ℕ} {out : List ℕ} where
  -- A turn.
  turns : (left : ℕ) {new : List ℕ} {a : Answer} → Going n₀ ticks old n (suc left) reports out → TookTick n (7 * reports) out new a
      → Going n₀ ticks old a.node left (reports + a.reports) new
  unfolding ticking
  turns left {new} {a} g k =
      let s : State = state_of n in
      let o : List ℕ = told s in
      let p : List ℕ = (ticking left (outcome_of Tick [] s).state).report in
      let at : ℕ = 7 * reports in
      let front : List ℕ = take at out in
      let (one, low) = tick-reports s in
      let (more, high) = ticks-reports left (outcome_of Tick [] s).state in
      let node_is : a.node ≡ node_in n (outcome_of Tick [] s).state = ap (λ (x : Answer). x.node) k.is in
      let number_is : a.reports ≡ reports_in o = ap (λ (x : Answer). x.reports) k.is in
      let shows : state_of a.node ≡ (outcome_of Tick [] s).state = ap state_of node_is ∙ tick_shows n in
      let settings : settings_of a.node ≡ settings_of n = ap settings_of node_is in
      let front_long : length front ≡ at = length-take-le at out (omega (arith, g.few, g.room, g.long)) in
      let rest-long : length (drop at out) ≡ length out - at = length-drop at out in
      let space : length o + length p ≤ length (drop at out) = omega (arith, g.few, g.room, g.long) in
      let both : reports_in (o ++ p) ≡ reports_in o + reports_in p =
      reports-number (reports_in o + reports_in p) (o ++ p) (reports_both (reports_in o) (reports_in p) o p one more) in
      let same-long : length new ≡ length out =
      ap length k.content ∙ length-append front (over o (drop at out)) ∙ omega (arith, front_long, rest-long, over_long o (drop at out), g.few, g.room, g.long) in
      let grown : length front + length o ≡ 7 * (reports + a.reports) = omega arith in
      record {
        node = g.node ∙ (λ i. node_of (sym settings i) (ticking left (sym shows i)).state);
        number = g.number ∙ omega (arith, both, number_is, ap (λ (z : State). reports_in (ticking left z).report) shows);
        content =
            g.content ∙ laid_behind front o p (drop at out) space
            ∙ ap (λ (x : List ℕ). take (length front + length o) x ++ over p (drop (length front + length o) x)) (sym k.content)
            ∙ ap (λ (m : ℕ). take m new ++ over p (drop m new)) grown
            ∙ ap (λ (z : State). take (7 * (reports + a.reports)) new ++ over (ticking left z).report (drop (7 * (reports + a.reports)) new)) (sym shows);
        few = omega (arith, g.few, number_is, low);
        room = g.room;
        long = same-long ∙ g.long;
      }

  pub turn : {left rest at m : ℕ} {next : Node} {new : List ℕ} → Going n₀ ticks old n left reports out → 0 < left → rest ≡ left - 1 → at ≡ 7 * reports
      → TookTick n at out new (answer_in next (returned m)) → Going n₀ ticks old next rest (reports + m) new
  turn {left} {rest} {at} {m} {next} {new} g more fewer place k = rw fewer (go left more g (rw place at k))
    where
      go : (left : ℕ) → 0 < left → Going n₀ ticks old n left reports out → TookTick n (7 * reports) out new (answer_in next (returned m))
          → Going n₀ ticks old next (left - 1) (reports + m) new
      go zero more g k = absurd (omega arith)
      go (suc left) more g k = subst (λ (l : ℕ). Going n₀ ticks old next l (reports + m) new) (omega arith) (turns left g k)

  pub turn_fits : {left at m : ℕ} {next : Node} {new : List ℕ} → Going n₀ ticks old n left reports out → 0 < left
      → TookTick n at out new (answer_in next (returned m)) → reports + m ≤ ticks
  turn_fits g more k = omega (arith, g.few, more, ap (λ (x : Answer). x.reports) k.is, (tick-reports (state_of n)).1)

  -- At the end.
  at_end : Going n₀ ticks old n 0 reports out → TookTicks n₀ ticks old out (record { node = n; result = 0; reports = reports })
  unfolding ticking
  at_end g = record {
    is = λ i. record {
      node = (sym g.node) i;
      result = sym (ticking_result ticks (state_of n₀)) i;
      reports = few i;
    };
    content = sym (g.content ∙ ap (λ (x : List ℕ). take (7 * reports) out ++ x) (sym (over_none (drop (7 * reports) out))) ∙ take-append-drop (7 * reports) out);
  }
    where
      few : reports ≡ reports_in (ticking ticks (state_of n₀)).report
      few = omega (arith, g.number)

  pub done : {left : ℕ} → Going n₀ ticks old n left reports out → left ≤ 0 → TookTicks n₀ ticks old out (record { node = n; result = 0; reports = reports })
  done g none = at_end (subst (λ (m : ℕ). Going n₀ ticks old n m reports out) (omega arith) g)
