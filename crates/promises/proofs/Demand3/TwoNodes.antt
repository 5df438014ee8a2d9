-- Two nodes of the program that differ in their level, and the rules. Assumes nothing.
use Prim.Native.Nat.{ℕ, zero, suc, ◌≤◌}
use mathlib.Core.Path.{◌≡◌, refl, sym, ◌∙◌, ap, subst}
use mathlib.Core.List.{List, [], ◌∷◌, ◌++◌}
use mathlib.Core.Logic.{inl}
use mathlib.Core.Option.{none-ne-some}
use native.Mathlib.Omega.{arith}
use lib.ListN.{replicate}
use Rattle.wire.specs.Head.{body_of}
use Rattle.wire.specs.Report.{over}
use Rattle.settings.specs.declared.choice.Settings.{Settings}
use Rattle.settings.specs.Ticks.{ticks_of}
use Rattle.settings.specs.Reading.{settings_in}
use Rattle.blocks.specs.Types.{knows}
use Rattle.blocks.specs.Levels.{Sub}
use Rattle.blocks.proofs.Known.{knows_more}
use Rattle.controller.specs.Node.{Started, choice_of, state_of, reports_in}
use Rattle.controller.specs.State.{Choice, State, started}
use Rattle.controller.specs.Reading.{Tick}
use Rattle.controller.specs.Reading.{count_in}
use Rattle.controller.specs.Record.{Outcome, outcome_of, ticking}
use Rattle.controller.proofs.Ticking.{ticking_result}
use Rattle.controller.specs.Promise.{Begun}
use Rattle.promises.specs.History.{Call, after, answered, tick_with, spelled_out, after_all, answered_all, start_of, Made, call_of, made_of, calls_of, node_after, Met}
use Rattle.promises.specs.Levels.{NoEight, latest, no_blocks, knowing, dressed, Levelled, SameAnswer, SameCall, with_level, NoEightMade}
use Rattle.promises.proofs.Demand3.Following.{answers, follows, levels}
use Rattle.promises.proofs.Demand3.Latest.{latest_alike}
use Rattle.promises.proofs.Demand2.Spelling.{
  tick-outcome,
  tick-taken,
  spelled-one,
  spelled-many,
  outcomes-many,
  many-room,
  of_call,
  read_as_ticks,
  answered-one,
}
use Rattle.promises.proofs.Demand2.Coming.{state-after, answered_as}
use Rattle.promises.proofs.Demand2.Drilling.{last_of}

-- A tick is answered 0, so that ticks add no 8.
module _ (s : State) (room : ℕ) (enough : 7 ≤ room) where
  tick_no_eight : (h : List Call) → (answered s h (tick_with room)).result ≡ 8 → ⊥
  tick_no_eight h e = omega (arith, tick-taken room enough (after s h))

  ticks_no_eight : (n : ℕ) (h : List Call) → NoEight s h → NoEight s (replicate n (tick_with room) ++ h)
  unfolding NoEight
  ticks_no_eight zero h n = n
  ticks_no_eight (suc k) h n = (tick_no_eight (replicate k (tick_with room) ++ h), ticks_no_eight k h n)

-- To the rules: c are the settings of the larger node, K the types that the smaller knows, h the calls, the latest first.
module _ (c : Choice) (K : List ℕ) (sub : Sub K c.known) where
  pub at-one_point : (h : List Call) → NoEight (started c) h
      → Levelled K (latest no_blocks (started c) h) (after (started (knowing K c)) h) (after (started c) h)
  unfolding started dressed
  at-one_point h n = levels no_blocks (started c) (λ a p. refl) (λ a b q. absurd (none-ne-some b q)) refl K sub h n

  pub same_answers : (h : List Call) (d : Call) → NoEight (started c) (d ∷ h)
      → SameAnswer (answered (started (knowing K c)) h d) (answered (started c) h d)
  unfolding started NoEight dressed
  same_answers h d n =
      let q = answers no_blocks (started c) (λ a p. refl) K sub h d (follows no_blocks (started c) (λ a p. refl) K sub h n.1) n.0 in
      record { report = q.report; result = q.result }

  -- Many ticks write the same reports.
  ticks_alike : (room : ℕ) → 7 ≤ room → (n : ℕ) (h : List Call) → NoEight (started c) h
      → (ticking n (after (started (knowing K c)) h)).report ≡ (ticking n (after (started c) h)).report
  unfolding ticking NoEight after
  ticks_alike room enough zero h e = refl
  ticks_alike room enough (suc n) h e =
      let t : Call = tick_with room in
      let x : State = after (started (knowing K c)) h in
      let y : State = after (started c) h in
      let both : NoEight (started c) (t ∷ h) = (tick_no_eight (started c) room enough h, e) in
      let first : (outcome_of Tick [] x).report ≡ (outcome_of Tick [] y).report =
      ap (λ (o : Outcome). o.report) (sym (tick-outcome room enough x)) ∙ (same_answers h t both).report ∙ ap (λ (o : Outcome). o.report) (tick-outcome room enough y) in
      let rest : (ticking n (outcome_of Tick [] x).state).report ≡ (ticking n (outcome_of Tick [] y).state).report =
      ap (λ (o : Outcome). (ticking n o.state).report) (sym (tick-outcome room enough x))
      ∙ ticks_alike room enough n (t ∷ h) both
      ∙ ap (λ (o : Outcome). (ticking n o.state).report) (tick-outcome room enough y) in
      λ i. first i ++ rest i

  -- The same of calls as they are made; in the history that they make the larger refuses no block as malformed.
  pub same_answers_all : (h : List Call) (d : Call) → NoEight (started c) (spelled_out (d ∷ h))
      → SameAnswer (answered_all (started (knowing K c)) h d) (answered_all (started c) h d)
  unfolding spelled_out NoEight
  same_answers_all h d n =
      let x : State = started (knowing K c) in
      let y : State = started c in
      let l : List Call = spelled_out h in
      of_call d
      (λ is.
      let k : ℕ = count_in (body_of d.bytes) in
      let told : (s : State) → answered_all s h d ≡ ticking k (after s l) =
      λ s. outcomes-many d (after_all s h) is ∙ ap (ticking k) (read_as_ticks s h) in
      let before : NoEight y l = no_eight_before k d.room l (subst (λ (z : List Call). NoEight y (z ++ l)) (spelled-many d is) n) in
      record {
        report = ap (λ (o : Outcome). o.report) (told x) ∙ ticks_alike d.room (many-room d is) k l before ∙ ap (λ (o : Outcome). o.report) (sym (told y));
        result =
            inl (ap (λ (o : Outcome). o.result) (told x) ∙ ticking_result k (after x l) ∙ sym (ticking_result k (after y l))
            ∙ ap (λ (o : Outcome). o.result) (sym (told y)));
      })
      (λ single.
      rw (answered-one x h d single, answered-one y h d single) (same_answers l d (subst (λ (z : List Call). NoEight y (z ++ l)) (spelled-one d single) n)))
    where
      no_eight_before : (k room : ℕ) (l : List Call) → NoEight (started c) (replicate k (tick_with room) ++ l) → NoEight (started c) l
      no_eight_before zero room l n = n
      no_eight_before (suc k) room l n = no_eight_before k room l n.1

  pub latest-by_either : (h : List Call) → NoEight (started c) h
      → (a : ℕ) → latest no_blocks (started (knowing K c)) h a ≡ latest no_blocks (started c) h a
  unfolding started dressed
  latest-by_either h n a = latest_alike no_blocks (started c) (λ a p. refl) K sub h n a

-- To nodes of the program: b are the settings bytes of the larger node, a those of one of a lower level; each call of both met its contract.
module _ (a b : List ℕ) (level : ℕ) (lower : level ≤ (settings_in b).settings.level) (equal : (settings_in a).settings ≡ with_level level (settings_in b).settings)
    (small large : Started) (begun-small : Begun a small) (begun-large : Begun b large) where
  abbrev pub c : Choice
  c = choice_of (settings_in b).settings

  pub sub : Sub (knows level) c.known
  sub = knows_more level (settings_in b).settings.level lower

  pub smaller-start : start_of a ≡ started (knowing (knows level) c)
  unfolding start_of ticks_of
  smaller-start = ap (λ (s : Settings). started (choice_of s)) equal

  -- No 8 of the program is no 8 of the rules.
  pub no_eight : (h : List Made) → Met large h → NoEightMade h → NoEight (start_of b) (calls_of h)
  unfolding Met NoEightMade NoEight calls_of
  no_eight [] met n = tt
  no_eight (m ∷ h) met n =
      let d : Call = call_of m in
      let s : State = start_of b in
      let rest : NoEight s (calls_of h) = no_eight h met.1 n.1 in
      of_call d
      (λ is.
      subst (λ (z : List Call). NoEight s (z ++ calls_of h)) (sym (spelled-many d is))
      (ticks_no_eight s d.room (many-room d is) (count_in (body_of d.bytes)) (calls_of h) rest))
      (λ single.
      subst (λ (z : List Call). NoEight s (z ++ calls_of h)) (sym (spelled-one d single)) (
        λ (e : (answered s (calls_of h) d).result ≡ 8).
            n.0 ((answered_as b large begun-large h m met).result ∙ ap (λ (o : Outcome). o.result) (answered-one s (made_of h) d single) ∙ e),
        rest,
      ))

  pub same_latest : (g h : List Made) → made_of g ≡ made_of h → Met large h → NoEightMade h
      → (s : ℕ) → latest no_blocks (start_of a) (calls_of g) s ≡ latest no_blocks (start_of b) (calls_of h) s
  unfolding start_of calls_of
  same_latest g h same met-large n s = rw (same, smaller-start) (latest-by_either c (knows level) sub (calls_of h) (no_eight h met-large n) s)

  pub nodes_levelled : (g h : List Made) → made_of g ≡ made_of h → Met small g → Met large h → NoEightMade h
      → Levelled (knows level) (latest no_blocks (start_of b) (calls_of h)) (state_of (node_after small g)) (state_of (node_after large h))
  unfolding start_of calls_of
  nodes_levelled g h same met-small met-large n =
      rw (state-after a small begun-small g met-small, state-after b large begun-large h met-large, same, smaller-start)
      (at-one_point c (knows level) sub (calls_of h) (no_eight h met-large n))

  -- The calls themselves, one by one.
  pub calls_alike : (g h : List Made) (x y : Made) → made_of (x ∷ g) ≡ made_of (y ∷ h) → Met small (x ∷ g) → Met large (y ∷ h) → NoEightMade (y ∷ h)
      → SameCall x y
  unfolding made_of calls_of start_of
  calls_alike g h x y same met-small met-large n =
      let u : Outcome = answered_all (started (knowing (knows level) c)) (made_of h) (call_of y) in
      let v : Outcome = answered_all (started c) (made_of h) (call_of y) in
      let s : SameAnswer u v = same_answers_all c (knows level) sub (made_of h) (call_of y) (no_eight (y ∷ h) met-large n) in
      let e : answered_all (start_of a) (made_of g) (call_of x) ≡ u =
      ap (last_of (start_of a)) same ∙ ap (λ (z : State). answered_all z (made_of h) (call_of y)) smaller-start in
      let p = answered_as a small begun-small g x met-small in
      let q = answered_as b large begun-large h y met-large in
      let report : (answered_all (start_of a) (made_of g) (call_of x)).report ≡ v.report = ap (λ (o : Outcome). o.report) e ∙ s.report in
      let tells : x.answer.reports ≡ reports_in v.report = p.written ∙ ap reports_in report in
      record {
        told = tells ∙ sym q.written;
        report = v.report;
        tells = tells;
        smaller = p.content ∙ ap (λ (l : List ℕ). over l x.old) report;
        larger = q.content;
        result = rw (p.result ∙ ap (λ (o : Outcome). o.result) e, q.result) s.result;
      }
