-- 02, Item 4: one record of kind 7 with n leaves what n records of kind 1 with the same room leave, of every node that is kept: the node, the reports one after another, and their number.
-- Assumes nothing.
use Prim.Native.Nat.{ℕ, zero, suc, ◌*◌, ◌≤◌}
use mathlib.Core.Path.{◌≡◌, refl, sym, ◌∙◌, ap}
use mathlib.Core.Bool.{true}
use mathlib.Core.List.{List, [], ◌∷◌, ◌++◌, append-nil, append_assoc}
use native.Mathlib.Omega.{arith}
use lib.ListN.{length, take, drop, replicate}
use lib.Seq.{take_at}
use borrow.Author.Tests.{le-leb}
use Rattle.wire.specs.Head.{body_of}
use Rattle.wire.specs.Report.{over}
use Rattle.controller.specs.Reading.{Tick}
use Rattle.controller.specs.Reading.{count_in, many_ticks}
use Rattle.controller.specs.State.{State}
use Rattle.controller.specs.Record.{Outcome, outcome_of, ticking, outcomes}
use Rattle.controller.specs.Node.{Node, Answer, state_of, node_in, reports_in}
use Rattle.controller.specs.Kept.{Kept}
use Rattle.controller.specs.Promise.{Recorded}
use Rattle.controller.proofs.Manys.{one_event}
use Rattle.controller.proofs.Ticking.{Reports, reports-number, reports_both, ticking_result}
use Rattle.promises.specs.History.{Call, tick_with, after_all, Made, made_of, Met, AnsweredAs}
use Rattle.promises.specs.ManyTicks.{told_all, reports_left, all_reports, all_numbers, from, SameAs}
use Rattle.promises.proofs.Demand2.Spelling.{tick-outcome, next-tick, outcomes-one, outcomes-many, many-room}
use Rattle.promises.proofs.Demand2.Coming.{node_came, came_answered}
use Rattle.promises.proofs.Demand2.Telling.{outcomes_whole, outcomes-room}

-- By the rules: a call of a tick, and n of them after the calls h.
module _ (room : ℕ) (enough : 7 ≤ room) where
  tick-all : (s : State) → outcomes s (tick_with room).bytes room ≡ outcome_of Tick [] s
  tick-all s = outcomes-one (tick_with room) s (one_event (tick_with room).bytes room (λ e. omega arith)) ∙ tick-outcome room enough s

  ticks-state : (n : ℕ) (s : State) (h : List Call) → after_all s (replicate n (tick_with room) ++ h) ≡ (ticking n (after_all s h)).state
  unfolding ticking after_all
  ticks-state zero s h = refl
  ticks-state (suc n) s h =
      ap (after_all s) (sym (next-tick room enough n h))
      ∙ ticks-state n s (tick_with room ∷ h)
      ∙ ap (λ (o : Outcome). (ticking n o.state).state) (tick-all (after_all s h))

  ticks-told : (n : ℕ) (s : State) (h : List Call) → told_all s (replicate n (tick_with room) ++ h) ≡ told_all s h ++ (ticking n (after_all s h)).report
  unfolding ticking told_all after_all
  ticks-told zero s h = sym (append-nil (told_all s h))
  ticks-told (suc n) s h =
      ap (told_all s) (sym (next-tick room enough n h))
      ∙ ticks-told n s (tick_with room ∷ h)
      ∙ ap (λ (o : Outcome). (told_all s h ++ o.report) ++ (ticking n o.state).report) (tick-all (after_all s h))
      ∙ append_assoc (told_all s h) (outcome_of Tick [] (after_all s h)).report (ticking n (outcome_of Tick [] (after_all s h)).state).report

-- A record of many ticks by the rules: the state and the reports of so many records of one tick, and result 0.
module _ (s : State) (c : Call) (is : many_ticks c.bytes c.room ≡ true) where
  abbrev ticks : List Call
  ticks = replicate (count_in (body_of c.bytes)) (tick_with c.room)

  pub many-state : (outcomes s c.bytes c.room).state ≡ after_all s ticks
  unfolding after_all
  many-state =
      ap (λ (o : Outcome). o.state) (outcomes-many c s is)
      ∙ sym (ticks-state c.room (many-room c is) (count_in (body_of c.bytes)) s [])
      ∙ ap (after_all s) (append-nil ticks)

  pub many-reports : (outcomes s c.bytes c.room).report ≡ told_all s ticks
  unfolding after_all told_all
  many-reports =
      ap (λ (o : Outcome). o.report) (outcomes-many c s is)
      ∙ sym (ticks-told c.room (many-room c is) (count_in (body_of c.bytes)) s [])
      ∙ ap (told_all s) (append-nil ticks)

  pub many-taken : (outcomes s c.bytes c.room).result ≡ 0
  many-taken = ap (λ (o : Outcome). o.result) (outcomes-many c s is) ∙ ticking_result (count_in (body_of c.bytes)) s

-- What the front of a buffer shows of what was written over it.
front_is : (l old : List ℕ) → Reports (reports_in l) l → length l ≤ length old → take (7 * reports_in l) (over l old) ≡ l
unfolding over
front_is l old whole room = rw (le-leb (length l) (length old) room) (take_at l (drop (length l) old) (7 * reports_in l) whole)

-- Calls of a program from a node that is kept: the reports that they left in their buffers, and the numbers that they told, are those of the rules.
module _ (n : Node) (k : Kept n) where
  all_told : (h : List Made) → Met (from n) h
      → (all_reports h ≡ told_all (state_of n) (made_of h)) × (Reports (all_numbers h) (told_all (state_of n) (made_of h)))
  unfolding Met made_of told_all all_reports all_numbers
  all_told [] met = (refl, refl)
  all_told (m ∷ h) met =
      let s : State = after_all (state_of n) (made_of h) in
      let o : Outcome = outcomes s m.bytes (length m.old) in
      let a : AnsweredAs m o = came_answered (from n) k h m met in
      let whole : Reports (reports_in o.report) o.report = outcomes_whole s m.bytes (length m.old) in
      let (same, number) = all_told h met.1 in
      let one : reports_left m ≡ o.report =
      (λ i. take (7 * a.written i) (a.content i)) ∙ front_is o.report m.old whole (outcomes-room s m.bytes (length m.old)) in
      (λ i. same i ++ one i, rw a.written (reports_both (all_numbers h) (reports_in o.report) (told_all (state_of n) (made_of h)) o.report number whole))

  -- The calls h are as many records of one tick as m says, each with the room that m has.
  pub many_as_single : (m : Made) → Recorded n m.bytes m.old m.new m.answer → many_ticks m.bytes (length m.old) ≡ true → (h : List Made)
      → Met (from n) h → made_of h ≡ replicate (count_in (body_of m.bytes)) (tick_with (length m.old)) → SameAs n m h
  many_as_single m r is h met ticks =
      let s : State = state_of n in
      let c : Call = record { bytes = m.bytes; room = length m.old } in
      let (same, number) = all_told h met in
      let reports : (outcomes s m.bytes (length m.old)).report ≡ all_reports h = many-reports s c is ∙ ap (told_all s) (sym ticks) ∙ sym same in
      record {
        result = ap (λ (x : Answer). x.result) r.is ∙ many-taken s c is;
        node =
            ap (λ (x : Answer). x.node) r.is
            ∙ ap (node_in n) (many-state s c is ∙ ap (after_all s) (sym ticks))
            ∙ sym (node_came (from n) k h met);
        number =
            ap (λ (x : Answer). x.reports) r.is
            ∙ ap reports_in (reports ∙ same)
            ∙ reports-number (all_numbers h) (told_all s (made_of h)) number;
        content = r.content ∙ ap (λ (l : List ℕ). over l m.old) reports;
      }
