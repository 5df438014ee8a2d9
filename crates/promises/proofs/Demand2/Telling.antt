-- The last report that is written tells the node's own sequence and requests; where none is written the buffer stays. Assumes nothing.
use Prim.Native.Nat.{ℕ, zero, suc, ◌+◌, ◌-◌, ◌*◌, ◌≤◌}
use mathlib.Core.Path.{◌≡◌, refl, sym, ◌∙◌, ap}
use mathlib.Core.Bool.{Bool, true, false, cond, ◌&&◌}
use mathlib.Core.List.{List, [], ◌++◌, append-nil, append_assoc}
use mathlib.Core.Logic.{◌⊎◌, inl, inr, ⊎_elim}
use native.Mathlib.Omega.{arith}
use lib.ListN.{length, take, drop, length-append}
use lib.Seq.{drop_at}
use lib.Dec.{eqb, ltb}
use borrow.Author.Tests.{ltb-false, le-leb}
use Rattle.wire.specs.Head.{body_of}
use Rattle.wire.specs.Report.{report_bytes, over, ReadsBack}
use Rattle.wire.proofs.ReadsBack.{report-reads_back}
use Rattle.settings.specs.declared.choice.Ticks.{Ticks}
use Rattle.pacer.specs.declared.steps.Pacer.{Pacer}
use Rattle.pacer.specs.Pace.{Paced}
use Rattle.pacer.specs.Pace.{changed, due, falling, ticked, paced}
use Rattle.spans.specs.Requests.{request}
use Rattle.stations.specs.Hearing.{Placed}
use Rattle.stations.proofs.Lists.{chosen}
use Rattle.controller.specs.Node.{Node, Answer, state_of, reports_in, west_request, east_request}
use Rattle.controller.specs.Reading.{Reading}
use Rattle.controller.specs.Reading.{Refused, Tick}
use Rattle.controller.specs.Reading.{block_of, count_in, read_in, reading, many_ticks}
use Rattle.controller.specs.State.{State}
use Rattle.controller.specs.declared.sides.Spans.{Spans}
use Rattle.controller.specs.Handling.{acted, judged}
use Rattle.controller.specs.Closing.{settled, pacing, is_tick, report_of}
use Rattle.controller.specs.Record.{Outcome, refusal, refuses, closed, outcome_of, outcome, ticking, outcomes}
use Rattle.controller.specs.Promise.{Recorded}
use Rattle.controller.proofs.Reports.{over_none, report_whole}
use Rattle.controller.proofs.Manys.{many_parts}
use Rattle.controller.proofs.Ticking.{Reports, reports-number, reports_both, ticks-reports}

-- The report that a pacer stands for.
abbrev bytes_of : Pacer → List ℕ
bytes_of p = report_bytes p.sequence p.west p.east

-- What is written after a pacer stood at p: nothing, and it stands where it stood; or reports, of which the last is its own.
abbrev Tells : Pacer → List ℕ → Pacer → Type 0
Tells p l q = ((l ≡ []) × (bytes_of q ≡ bytes_of p)) ⊎ ((front : List ℕ) × (k : ℕ) × Reports k front × (l ≡ front ++ bytes_of q))

ticked_tells : (fast slow : ℕ) (p : Pacer) → Tells p (report_of (ticked fast slow p)) (ticked fast slow p).pacer
unfolding ticked
ticked_tells fast slow p = go (eqb (p.timer - 1) 0)
  where
    go : (b : Bool) → Tells p (report_of (cond b (due fast slow p) (falling p))) (cond b (due fast slow p) (falling p)).pacer
    go true = inr ([], 0, refl, refl)
    go false = inl (refl, refl)

paced_tells : (fast slow : ℕ) (tick : Bool) (west east : ℕ) (p : Pacer) → Tells p (report_of (paced fast slow tick west east p)) (paced fast slow tick west east p).pacer
unfolding paced
paced_tells fast slow tick west east p = go (eqb p.west west && eqb p.east east) tick
  where
    step : Bool → Bool → Paced
    step same t = cond same (cond t (ticked fast slow p) (record { pacer = p; wrote = false })) (changed fast west east p)

    go : (same t : Bool) → Tells p (report_of (step same t)) (step same t).pacer
    go true true = ticked_tells fast slow p
    go true false = inl (refl, refl)
    go false t = inr ([], 0, refl, refl)

outcome_tells : (r : Reading) (block : List ℕ) (s : State) → Tells s.pacer (outcome_of r block s).report (outcome_of r block s).state.pacer
unfolding outcome_of closed pacing
outcome_tells r block s = go (refusal j.result)
  where
    t : Ticks
    t = s.choice.ticks

    x : Spans
    x = acted t r s.spans

    j : Placed
    j = judged s.choice r block x s.stations

    y : Spans
    y = settled t s.spans x

    o : Bool → Outcome
    o b = cond b (refuses j.result s) (closed s (is_tick r) x j)

    go : (b : Bool) → Tells s.pacer (o b).report (o b).state.pacer
    go true = inl (refl, refl)
    go false = paced_tells t.fast t.slow (is_tick r) (request t y.west) (request t y.east) s.pacer

-- One after another: what comes later is told last.
both_tell : (p q r : Pacer) (l m : List ℕ) (k : ℕ) → Reports k l → Tells p l q → Tells q m r → Tells p (l ++ m) r
both_tell p q r l m k whole first =
    ⊎_elim
    (λ (none, same).
    ⊎_elim (λ (nothing, stood). inl (ap (λ (x : List ℕ). x ++ m) nothing ∙ none, same ∙ stood))
    (λ (front, i, e, is). inr (front, i, e, ap (λ (x : List ℕ). l ++ x) none ∙ append-nil l ∙ is ∙ ap (λ (x : List ℕ). front ++ x) (sym same))) first)
    (λ (front, i, e, is). inr (l ++ front, k + i, reports_both k i l front whole e, ap (λ (x : List ℕ). l ++ x) is ∙ sym (append_assoc l front (bytes_of r))))

tick_whole : (s : State) → Reports (reports_in (outcome_of Tick [] s).report) (outcome_of Tick [] s).report
unfolding outcome_of judged closed
tick_whole s =
    let t : Ticks = s.choice.ticks in
    (report_whole (pacing t true (settled t s.spans (acted t Tick s.spans)) s.pacer)).0

ticking_tells : (n : ℕ) (s : State) → Tells s.pacer (ticking n s).report (ticking n s).state.pacer
unfolding ticking
ticking_tells zero s = inl (refl, refl)
ticking_tells (suc n) s =
    let o : Outcome = outcome_of Tick [] s in
    both_tell s.pacer o.state.pacer (ticking n o.state).state.pacer o.report (ticking n o.state).report (reports_in o.report) (tick_whole s)
    (outcome_tells Tick [] s) (ticking_tells n o.state)

module _ (s : State) (b : List ℕ) (room : ℕ) where
  outcomes-tell : Tells s.pacer (outcomes s b room).report (outcomes s b room).state.pacer
  unfolding outcomes outcome
  outcomes-tell =
      chosen (λ (o : Outcome). Tells s.pacer o.report o.state.pacer) (many_ticks b room) (λ is. ticking_tells (count_in (body_of b)) s)
      (λ single. outcome_tells (reading s.choice.address b room) (block_of b) s)

  -- What is written has room: an event writes one report at most.
  outcome_whole : (r : Reading) (block : List ℕ)
      → Reports (reports_in (outcome_of r block s).report) (outcome_of r block s).report × (reports_in (outcome_of r block s).report ≤ 1)
  unfolding outcome_of closed
  outcome_whole r block = go (refusal j.result)
    where
      t : Ticks
      t = s.choice.ticks

      x : Spans
      x = acted t r s.spans

      j : Placed
      j = judged s.choice r block x s.stations

      o : Bool → Outcome
      o z = cond z (refuses j.result s) (closed s (is_tick r) x j)

      go : (z : Bool) → Reports (reports_in (o z).report) (o z).report × (reports_in (o z).report ≤ 1)
      go true = (refl, omega arith)
      go false = report_whole (pacing t (is_tick r) (settled t s.spans x) s.pacer)

  outcome-room : length (outcome s b room).report ≤ room
  unfolding outcome reading outcome_of judged
  outcome-room = go (ltb room 7) refl
    where
      go : (t : Bool) → ltb room 7 ≡ t → length (outcome_of (cond t (Refused 1) (read_in s.choice.address b room)) (block_of b) s).report ≤ room
      go true e = omega arith
      go false e = let (whole, one) = outcome_whole (read_in s.choice.address b room) (block_of b) in omega (arith, ltb-false room 7 e, whole, one)

  -- They are whole reports.
  pub outcomes_whole : Reports (reports_in (outcomes s b room).report) (outcomes s b room).report
  unfolding outcomes outcome
  outcomes_whole =
      chosen (λ (o : Outcome). Reports (reports_in o.report) o.report) (many_ticks b room) (λ is. (ticks-reports (count_in (body_of b)) s).0)
      (λ single. (outcome_whole (reading s.choice.address b room) (block_of b)).0)

  pub outcomes-room : length (outcomes s b room).report ≤ room
  unfolding outcomes
  outcomes-room =
      chosen (λ (o : Outcome). length o.report ≤ room) (many_ticks b room)
      (λ is. let (whole, few) = ticks-reports (count_in (body_of b)) s in omega (arith, whole, few, (many_parts b room is).space)) (λ single. outcome-room)

module _ (n : Node) (b old new : List ℕ) (r : Answer) (met : Recorded n b old new r) where
  abbrev o : Outcome
  o = outcomes (state_of n) b (length old)

  abbrev now : State
  now = state_of r.node

  number_is : r.reports ≡ reports_in o.report
  number_is = ap (λ (x : Answer). x.reports) met.is

  -- The pacer of the node that comes back has the own sequence and, as it is kept, the own requests.
  own_bytes : bytes_of o.state.pacer ≡ report_bytes now.pacer.sequence (west_request now) (east_request now)
  unfolding west_request east_request
  own_bytes =
      let p : now.pacer ≡ o.state.pacer = ap (λ (s : State). s.pacer) met.shows in
      ap bytes_of (sym p)
      ∙ ap (λ (w : ℕ). report_bytes now.pacer.sequence w now.pacer.east) met.kept.state.pacer.west_is
      ∙ ap (report_bytes now.pacer.sequence (west_request now)) met.kept.state.pacer.east_is

  -- Reports, of which the last is the own one, over the front of the buffer.
  laid : (front : List ℕ) (k : ℕ) → Reports k front → o.report ≡ front ++ bytes_of o.state.pacer
      → Reports (suc k) o.report
      × ((drop (7 * k) new ≡ report_bytes now.pacer.sequence (west_request now) (east_request now) ++ drop (7 * suc k) old)
      × (drop (7 * suc k) new ≡ drop (7 * suc k) old))
  unfolding over report_bytes
  laid front k whole is =
      let own : List ℕ = bytes_of o.state.pacer in
      let long : length o.report ≡ 7 * suc k = ap length is ∙ length-append front own ∙ omega (arith, whole) in
      let rest : new ≡ o.report ++ drop (7 * suc k) old =
      met.content ∙ rw (long, le-leb (7 * suc k) (length old) (omega (arith, outcomes-room (state_of n) b (length old)))) refl in
      let split : new ≡ front ++ (own ++ drop (7 * suc k) old) =
      rest ∙ ap (λ (x : List ℕ). x ++ drop (7 * suc k) old) is ∙ append_assoc front own (drop (7 * suc k) old) in (
        long,
        (
          rw split (drop_at front (own ++ drop (7 * suc k) old) (7 * k) whole) ∙ ap (λ (x : List ℕ). x ++ drop (7 * suc k) old) own_bytes,
          rw rest (drop_at o.report (drop (7 * suc k) old) (7 * suc k) long),
        ),
      )

  pub report_tells : (k : ℕ) → r.reports ≡ suc k
      → ReadsBack (take 7 (drop (7 * k) new)) now.pacer.sequence (west_request now) (east_request now) × (drop (7 * suc k) new ≡ drop (7 * suc k) old)
  unfolding report_bytes
  report_tells k some =
      ⊎_elim (λ (none, same). absurd (omega (arith, number_is, ap reports_in none)))
      (λ (front, j, whole, is).
      let (all, (place, stays)) = laid front j whole is in
      let e : j ≡ k = omega (arith, number_is, reports-number (suc j) o.report all) in
      rw (← e) (rw place (report-reads_back now.pacer.sequence (west_request now) (east_request now)), stays))
      (outcomes-tell (state_of n) b (length old))

  pub silent_stays : r.reports ≡ 0 → new ≡ old
  silent_stays none =
      ⊎_elim (λ (nothing, same). met.content ∙ ap (λ (x : List ℕ). over x old) nothing ∙ sym (over_none old))
      (λ (front, j, whole, is). absurd (omega (arith, number_is, reports-number (suc j) o.report (laid front j whole is).0)))
      (outcomes-tell (state_of n) b (length old))
