-- 20 to 22: the handler changes the cable mark of the span that heard the report, that only at hop 1, and nothing else; what follows are the closing steps. For a block 21
-- changes nothing at all. Assumes nothing.
use Prim.Native.Nat.{ℕ, ◌≤◌}
use mathlib.Core.Path.{◌≡◌, refl, sym, ◌∙◌, ap}
use mathlib.Core.Bool.{Bool, true, false, not, cond, true≢false}
use mathlib.Core.List.{List, []}
use mathlib.Core.Option.{Option, none, some}
use native.Mathlib.Omega.{arith}
use lib.ListN.{length}
use lib.Dec.{eqb, ltb}
use borrow.Author.Tests.{le-leb, lt-leb}
use Rattle.wire.specs.Report.{over}
use Rattle.settings.specs.declared.choice.Ticks.{Ticks}
use Rattle.spans.specs.Records.{marked}
use Rattle.spans.specs.Requests.{down}
use Rattle.blocks.specs.Meaning.{Meaning, malformed, aside, shows, meaning}
use Rattle.stations.specs.declared.station.Station.{Station}
use Rattle.stations.specs.declared.station.Report.{Report}
use Rattle.stations.specs.Stations.{present, sequence_of}
use Rattle.stations.specs.Hearing.{Placed, distance, placed_known, placed_new, placed_by, placed}
use Rattle.stations.proofs.Lists.{chosen}
use Rattle.controller.specs.Reading.{Reading}
use Rattle.controller.specs.Reading.{Refused, Tick, Link, Keepalive, Operator, Heard, Block}
use Rattle.controller.specs.Reading.{block_of, reading, many_ticks}
use Rattle.controller.specs.State.{State, span_of}
use Rattle.controller.specs.declared.sides.Spans.{Spans}
use Rattle.controller.specs.Handling.{cabled, acted, gives, hearing, taking, learning, judged}
use Rattle.controller.specs.Closing.{is_tick}
use Rattle.controller.specs.Record.{Outcome, refuses, unless_refused, outcome_of, outcome, outcomes}
use Rattle.controller.specs.Node.{Node, Answer, settings_of, state_of, answer_of}
use Rattle.controller.specs.Kept.{StateKept, Kept}
use Rattle.controller.specs.Promise.{Recorded}
use Rattle.controller.proofs.Nodes.{refused_same}
use Rattle.controller.proofs.Reports.{over_none}
use Rattle.controller.proofs.Manys.{other_event}
use Rattle.promises.specs.Marks.{marked_on, mark_after, HandlerLeaves, OnlyMark}
use Rattle.promises.proofs.Demand1.Results.{given, result_of, result_is, recorded_result}
use Rattle.promises.proofs.Demand2.Spelling.{outcomes-one}
use Rattle.promises.specs.Quiet.{with_stations}
use Rattle.promises.proofs.Roundtrip.Quiet.{block_closes_nothing}
use Rattle.promises.proofs.Spans.Readings.{Sided, sided}

-- (a), told as a change of the mark alone.
cabled_is : (n : ℕ) (p : Report) (x : Spans) → cabled n p x ≡ marked_on n (mark_after n p x) x
unfolding cabled
cabled_is n p x = go (eqb p.hop 1) (eqb n 0)
  where
    mark : Bool
    mark = not (eqb p.ringlet n)

    on : Bool → Bool → Spans
    on b m = record { west = cond b (marked m (cond b x.west x.east)) x.west; east = cond b x.east (marked m (cond b x.west x.east)) }

    go : (h b : Bool) → cond h (on b mark) x ≡ on b (cond h mark (cond b x.west x.east).cable)
    go true b = refl
    go false true = refl
    go false false = refl

-- A report that is not taken leaves the stations.
module _ (l : List Station) where
  abbrev Unplaced : Placed → Type 0
  Unplaced j = 20 ≤ j.result → j ≡ gives j.result l

  placed_same : (o : Option ℕ) (p : Report) → Unplaced (placed_by o p l)
  unfolding placed_known placed_new
  placed_same none p = λ high. absurd (omega arith)
  placed_same (some stored) p = chosen Unplaced (ltb 128 (distance p.sequence stored)) (λ h high. refl) (λ h high. absurd (omega arith))

  hearing_same : (t : Ticks) (n : ℕ) (p : Report) (x : Spans) → Unplaced (hearing t n p x l)
  unfolding hearing placed
  hearing_same t n p x =
      chosen Unplaced (eqb p.ringlet n)
      (λ h. chosen Unplaced (down t (span_of n x)) (λ d high. refl) (λ d. placed_same (sequence_of p.address l) p)) (λ h high. refl)

  -- Of a block, 21 is the only one of them.
  abbrev Down : Placed → Type 0
  Down j = 20 ≤ j.result → j.result ≤ 22 → j ≡ gives 21 l

  taking-not : (a : ℕ) (m : Meaning) → Down (taking a m l)
  taking-not a malformed high low = absurd (omega arith)
  taking-not a (aside t) high low = absurd (omega arith)
  taking-not a (shows es) high low = absurd (omega arith)

  learning-down : (t : Ticks) (n a : ℕ) (m : Meaning) (x : Spans) → Down (learning t n a m x l)
  unfolding learning
  learning-down t n a m x =
      chosen Down (down t (span_of n x)) (λ d high low. refl)
      (λ d. chosen Down (present a l) (λ p. taking-not a m) (λ p high low. absurd (omega arith)))

-- From the handler to the outcome.
module _ (s : State) (b : List ℕ) where
  abbrev t : Ticks
  t = s.choice.ticks

  leaves : (r : Reading) (k : ℕ) (x : Spans) → 20 ≤ k → is_tick r ≡ false → acted t r s.spans ≡ x
      → judged s.choice r b x s.stations ≡ gives k s.stations → HandlerLeaves s r b k x
  unfolding outcome_of
  leaves r k x high off is same = record {
    spans = is;
    stations = same;
    closes =
        ap (λ (y : Spans). unless_refused s (is_tick r) y (judged s.choice r b y s.stations)) is
        ∙ ap (unless_refused s (is_tick r) x) same
        ∙ rw (off, le-leb 1 k (omega arith), lt-leb k 8 (omega arith)) refl;
  }

  report-leaves : (n : ℕ) (p : Report) → 20 ≤ (outcome_of (Heard n p) b s).result → OnlyMark s b (outcome_of (Heard n p) b s).result (Heard n p)
  unfolding acted judged given
  report-leaves n p high =
      let k : ℕ = (outcome_of (Heard n p) b s).result in
      let x : Spans = marked_on n (mark_after n p s.spans) s.spans in
      let is : cabled n p s.spans ≡ x = cabled_is n p s.spans in
      let result : k ≡ (hearing t n p x s.stations).result =
      result_of s b (Heard n p) ∙ ap (λ (y : Spans). (hearing t n p y s.stations).result) is in
      let same : hearing t n p x s.stations ≡ gives (hearing t n p x s.stations).result s.stations =
      hearing_same s.stations t n p x (omega (arith, result, high)) in
      leaves (Heard n p) k x high refl is (same ∙ ap (λ (i : ℕ). gives i s.stations) (sym result))

  block-leaves : (n a : ℕ) → 20 ≤ (outcome_of (Block n a) b s).result → (outcome_of (Block n a) b s).result ≤ 22
      → OnlyMark s b (outcome_of (Block n a) b s).result (Block n a)
  unfolding acted judged given
  block-leaves n a high low =
      let j : Placed = learning t n a (meaning s.choice.known b) s.spans s.stations in
      let result : (outcome_of (Block n a) b s).result ≡ j.result = result_of s b (Block n a) in
      let same : j ≡ gives 21 s.stations =
      learning-down s.stations t n a (meaning s.choice.known b) s.spans (omega (arith, result, high)) (omega (arith, result, low)) in
      (result ∙ ap (λ (q : Placed). q.result) same, leaves (Block n a) 21 s.spans (omega arith) refl refl same)

  only_mark_of : (r : Reading) → Sided r → 20 ≤ (outcome_of r b s).result → (outcome_of r b s).result ≤ 22 → OnlyMark s b (outcome_of r b s).result r
  unfolding judged given
  only_mark_of (Refused i) side high low = omega (arith, result_of s b (Refused i), side, high)
  only_mark_of Tick side high low = omega (arith, result_of s b Tick, high)
  only_mark_of (Link n status) side high low = omega (arith, result_of s b (Link n status), high)
  only_mark_of (Keepalive n) side high low = omega (arith, result_of s b (Keepalive n), high)
  only_mark_of (Operator n request) side high low = omega (arith, result_of s b (Operator n request), high)
  only_mark_of (Heard n p) side high low = report-leaves n p high
  only_mark_of (Block n a) side high low = block-leaves n a high low

-- Of every record, from its bytes.
module _ (s : State) (b : List ℕ) (room : ℕ) where
  pub only_mark : 20 ≤ (outcomes s b room).result → (outcomes s b room).result ≤ 22
      → OnlyMark s (block_of b) (outcomes s b room).result (reading s.choice.address b room)
  only_mark =
      let r : Reading = reading s.choice.address b room in
      let same : (outcomes s b room).result ≡ (outcome_of r (block_of b) s).result = result_is s b room ∙ sym (result_of s (block_of b) r) in
      rw same (only_mark_of s (block_of b) r (sided s.choice.address b room))

  -- "for kind 6 result 21 (span down, nothing else done)": not even the closing steps find anything, in a state that is kept.
  pub block-down : StateKept s → (n a : ℕ) → reading s.choice.address b room ≡ Block n a → (outcomes s b room).result ≡ 21
      → outcomes s b room ≡ record { result = 21; state = s; report = [] }
  unfolding outcome judged
  block-down k n a is result =
      let single : many_ticks b room ≡ false = other_event b room s.choice.address (λ t. true≢false (sym (ap is_tick t) ∙ ap is_tick is)) in
      let e : outcomes s b room ≡ outcome_of (Block n a) (block_of b) s =
      outcomes-one (record { bytes = b; room = room }) s single ∙ ap (λ (r : Reading). outcome_of r (block_of b) s) is in
      let down : (outcome_of (Block n a) (block_of b) s).result ≡ 21 = ap (λ (o : Outcome). o.result) (sym e) ∙ result in
      let same = (block-leaves s (block_of b) n a (omega (arith, down)) (omega (arith, down))).1.stations in
      e ∙ block_closes_nothing s k n a (block_of b) ∙ ap (with_stations s) same

-- Of a call that met its contract.
module _ {n : Node} {b old new : List ℕ} {r : Answer} (h : Recorded n b old new r) where
  pub recorded_only_mark : 20 ≤ r.result → r.result ≤ 22
      → OnlyMark (state_of n) (block_of b) r.result (reading (settings_of n).address b (length old))
  recorded_only_mark high low =
      let is : r.result ≡ (outcomes (state_of n) b (length old)).result = recorded_result h in
      rw is (only_mark (state_of n) b (length old) (omega arith) (omega arith))

  pub recorded_block-down : Kept n → (m a : ℕ) → reading (settings_of n).address b (length old) ≡ Block m a → r.result ≡ 21
      → (r ≡ record { node = n; result = 21; reports = 0 }) × (new ≡ old)
  recorded_block-down k m a is result =
      let same : outcomes (state_of n) b (length old) ≡ refuses 21 (state_of n) =
      block-down (state_of n) b (length old) k.state m a is (sym (recorded_result h) ∙ result) in
      (h.is ∙ ap (answer_of n) same ∙ refused_same n 21, h.content ∙ ap (λ (o : Outcome). over o.report old) same ∙ sym (over_none old))
