-- A record put together from the code's steps, each known by its equation. Assumes nothing.
use Prim.Native.Nat.{ℕ, ◌<◌, ◌≤◌}
use mathlib.Core.Path.{◌≡◌, refl, sym, ◌∙◌, ap, subst}
use mathlib.Core.Bool.{Bool, true, false, cond}
use mathlib.Core.List.{List, []}
use lib.ListN.{length}
use lib.Dec.{eqb}
use borrow.Author.Tests.{eqb-true, eqb-false, lt-ltb, le-ltb}
use Rattle.std.specs.Prelude.{Result, Ok, Err}
use Rattle.wire.specs.Fields.{Bytes}
use Rattle.wire.specs.Head.{kind_of, body_of}
use Rattle.wire.specs.Report.{over}
use Rattle.wire.specs.declared.results.Refusal.{Refusal}
use Rattle.wire.specs.declared.results.Refusal.TheVariants as why
use Rattle.wire.specs.declared.results.Taken.{Taken}
use Rattle.wire.specs.declared.results.Taken.TheVariants as how
use Rattle.wire.specs.Results.{refusal_number, taken_number}
use Rattle.settings.specs.declared.choice.Settings.{Settings}
use Rattle.settings.specs.Ticks.{ticks_of}
use Rattle.pacer.specs.declared.steps.Pacer.{Pacer}
use Rattle.stations.specs.declared.station.Station.{Station}
use Rattle.stations.specs.Hearing.{Placed, left}
use Rattle.stations.specs.Stations.{aged}
use Rattle.controller.specs.declared.reading.Event.{Event}
use Rattle.controller.specs.declared.reading.Event.TheVariants as event
use Rattle.controller.specs.Reading.{Reading, Refused, Tick, reading_of_event, block_of, count_in, read_in, reading, many_ticks, times_in}
use Rattle.controller.specs.State.{Spans}
use Rattle.controller.specs.Handling.{acted, gives, judged}
use Rattle.controller.specs.Closing.{settled, swept, pacing, is_tick, report_of}
use Rattle.controller.specs.Record.{Outcome, refusal, closed, outcome_of, outcome, ticking, outcomes}
use Rattle.controller.specs.Node.{Node, Started, Answer, choice_of, settings_of, returned, answer_in, state_of, started_with, answer_of, reports_in}
use Rattle.controller.specs.Kept.{Kept, ReadingKept}
use Rattle.controller.specs.Promise.{Begun, Recorded}
use Rattle.controller.specs.Steps.{Reported, TookReading, TookTicks}
use Rattle.controller.proofs.Settling.{settled-none}
use Rattle.controller.proofs.ReadKept.{read_in_kept}
use Rattle.controller.proofs.Holding.{outcome_of_kept, outcome_of_choice}
use Rattle.controller.proofs.Handing.{judged-settled, refused-leaves}
use Rattle.controller.proofs.Reports.{over_none, reports_is}
use Rattle.controller.proofs.Manys.{refused_no_tick, no_many, other_event, one_event, read_many}
use Rattle.controller.proofs.Ticking.{ticking-one}
use Rattle.controller.proofs.Nodes.{kept_node, answer_shows, answer_kept, started_with_shows, started_with_kept}

pub begun : (b : List ℕ) (r : Started) → Bytes b → r ≡ started_with b → Begun b r
begun b r bytes e = record {
  is = e;
  shows = ap (λ (x : Started). state_of x.node) e ∙ started_with_shows b bytes;
  kept = rw e (started_with_kept b bytes);
}

-- The numbers 1 to 8 are those of refusals.
pub refuses_number : (q : Refusal) → refusal (refusal_number q) ≡ true
refuses_number why.NoRoom = refl
refuses_number why.Broken = refl
refuses_number why.WrongKind = refl
refuses_number why.Unfit = refl
refuses_number why.OwnAddress = refl
refuses_number why.HopTooHigh = refl
refuses_number why.NotInTable = refl
refuses_number why.Malformed = refl

pub takes_number : (q : Taken) → refusal (taken_number q) ≡ false
takes_number how.Stored = refl
takes_number how.WrongRinglet = refl
takes_number how.SpanDown = refl
takes_number how.OldReport = refl
takes_number how.SetAside = refl

-- An event that is read as a tick is one.
pub event_tick : (e : Event) → reading_of_event e ≡ Tick → e ≡ event.Tick
event_tick event.Tick h = refl
event_tick (event.Link n status) h = absurd cc
event_tick (event.Keepalive n) h = absurd cc
event_tick (event.Operator n request) h = absurd cc
event_tick (event.Heard n p) h = absurd cc
event_tick (event.Block n a) h = absurd cc

-- The node of fields.
abbrev pub made : Settings → Spans → List Station → Pacer → Node
made c x l p = record { settings = c; spans = x; stations = l; pacer = p }

module _ (n : Node) (r : Reading) (block : List ℕ) where
  abbrev acts : Spans
  acts = acted (ticks_of n.settings) r n.spans

  abbrev settles : Spans
  settles = settled (ticks_of n.settings) n.spans acts

  abbrev placed : Placed
  placed = judged (choice_of n.settings) r block acts n.stations

  -- The stations are judged with the spans after the WTR step.
  abbrev Judged : List Station → Result Taken Refusal → Type 0
  Judged m j = left m j ≡ judged (choice_of n.settings) r block settles n.stations

  judged_is : {m : List Station} (j : Result Taken Refusal) → Judged m j → left m j ≡ placed
  judged_is j e = e ∙ judged-settled (choice_of n.settings) r block n.spans acts n.stations

  -- A record that is refused leaves the node as it was.
  refused_node : {m : List Station} (q : Refusal) → Judged m (Err q) → made n.settings settles m n.pacer ≡ n
  refused_node {m} q j =
      let e = judged_is (Err q) j in
      let refuse : refusal placed.result ≡ true = ap (λ (x : Placed). refusal x.result) (sym e) ∙ refuses_number q in
      let (untouched, calm) = refused-leaves (choice_of n.settings) r block n.spans acts n.stations refuse in
      let same : settles ≡ n.spans = ap (settled (ticks_of n.settings) n.spans) untouched ∙ settled-none (ticks_of n.settings) n.spans in
      let stays : m ≡ n.stations = ap (λ (x : Placed). x.stations) e ∙ calm in
      λ i. made n.settings (same i) (stays i) n.pacer

  pub refused_kept : Kept n → {m : List Station} (q : Refusal) → Judged m (Err q) → Kept (made n.settings settles m n.pacer)
  refused_kept k q j = subst Kept (sym (refused_node q j)) k

  pub refused : {m : List Station} (q : Refusal) → Judged m (Err q) → (old : List ℕ)
      → TookReading n r block old old (answer_in (made n.settings settles m n.pacer) (Err q))
  unfolding outcome_of
  refused q j old =
      let result_is : refusal_number q ≡ placed.result = ap (λ (x : Placed). x.result) (judged_is (Err q) j) in
      let refuse : refusal placed.result ≡ true = ap refusal (sym result_is) ∙ refuses_number q in
      record {
        is = (λ i. record { node = refused_node q j i; result = result_is i; reports = 0 }) ∙ rw refuse;
        content = rw refuse (over_none old);
      }

  -- The last step and the purges.
  pub taken : {m : List Station} (q : Taken) {m2 : List Station} {reports : ℕ} {p : Pacer} {old new : List ℕ} → Judged m (Ok q)
      → Reported (ticks_of n.settings) (is_tick r) settles n.pacer p old new reports → m2 ≡ swept (ticks_of n.settings) settles m
      → TookReading n r block old new (answer_in (made n.settings settles m2 p) (Ok (record { reports = reports; taken = q })))
  unfolding outcome_of closed
  taken {m} q {m2} {reports} {p} {old} {new} j w e =
      let result_is : taken_number q ≡ placed.result = ap (λ (x : Placed). x.result) (judged_is (Ok q) j) in
      let take : refusal placed.result ≡ false = ap refusal (sym result_is) ∙ takes_number q in
      let swept-is : m2 ≡ swept (ticks_of n.settings) settles placed.stations =
      e ∙ ap (λ (x : Placed). swept (ticks_of n.settings) settles x.stations) (judged_is (Ok q) j) in
      let number_is : reports ≡ reports_in (report_of (pacing (ticks_of n.settings) (is_tick r) settles n.pacer)) =
      w.number ∙ sym (reports_is (pacing (ticks_of n.settings) (is_tick r) settles n.pacer)) in
      record {
        is = (λ i. record { node = made n.settings settles (swept-is i) (w.pacer i); result = result_is i; reports = number_is i }) ∙ rw take;
        content = w.content ∙ rw take;
      }

  -- What a reading leaves is kept.
  pub took_kept : Kept n → ReadingKept n.settings.address r → Bytes block → {old new : List ℕ} {a : Answer} → TookReading n r block old new a → Kept a.node
  took_kept k reads bytes v =
      subst (λ (x : Answer). Kept x.node) (sym v.is)
      (kept_node n.settings (outcome_of r block (state_of n)).state k.settings (outcome_of_choice r block (state_of n))
      (outcome_of_kept r block (state_of n) reads bytes k.state))

-- A tick, which every station sees.
pub tick_taken : (n : Node) {m m2 : List Station} {reports : ℕ} {p : Pacer} {old new : List ℕ} → m ≡ aged (ticks_of n.settings).forget n.stations
    → Reported (ticks_of n.settings) true (settles n Tick []) n.pacer p old new reports → m2 ≡ swept (ticks_of n.settings) (settles n Tick []) m
    → TookReading n Tick [] old new (answer_in (made n.settings (settles n Tick []) m2 p) (returned reports))
unfolding judged
tick_taken n e = taken n Tick [] how.Stored (ap (gives 0) e)

module _ (n : Node) (k : Kept n) (b old : List ℕ) (bytes : Bytes b) where
  -- What shows and is kept follows from the answer.
  pub promised : {new : List ℕ} {a : Answer} → a ≡ answer_of n (outcomes (state_of n) b (length old))
      → new ≡ over (outcomes (state_of n) b (length old)).report old → Recorded n b old new a
  promised is content = record {
    is = is;
    shows = ap (λ (x : Answer). state_of x.node) is ∙ answer_shows n b (length old) bytes k;
    content = content;
    kept = rw is (answer_kept n b (length old) bytes k);
  }

  pub no_room : length old < 7 → Recorded n b old old (record { node = n; result = 1; reports = 0 })
  unfolding outcomes outcome reading outcome_of judged
  no_room h =
      let single : many_ticks b (length old) ≡ false = no_many b (length old) h in
      promised (rw (single, lt-ltb (length old) 7 h)) (rw (single, lt-ltb (length old) 7 h) (over_none old))

  abbrev read_as : Reading
  read_as = read_in (settings_of n).address b (length old)

  enough : 7 ≤ length old → reading (settings_of n).address b (length old) ≡ read_as
  unfolding reading
  enough room = rw (le-ltb (length old) 7 room)

  -- A reading that is refused.
  untaken : (block : List ℕ) (i : ℕ) → refusal i ≡ true → TookReading n (Refused i) block old old (record { node = n; result = i; reports = 0 })
  unfolding outcome_of judged
  untaken block i h = record { is = rw h; content = rw h (over_none old) }

  module _ (r : Reading) (room : 7 ≤ length old) (er : r ≡ read_as) where
    once : {block : List ℕ} → block ≡ block_of b → many_ticks b (length old) ≡ false → outcomes (state_of n) b (length old) ≡ outcome_of r block (state_of n)
    unfolding outcomes outcome
    once eb single =
        rw single (ap (λ (x : Reading). outcome_of x (block_of b) (state_of n)) (enough room ∙ sym er)
        ∙ ap (λ (x : List ℕ). outcome_of r x (state_of n)) (sym eb))

    -- One event, which is no tick.
    pub recorded : {block new : List ℕ} {a : Answer} → (r ≡ Tick → ⊥) → block ≡ block_of b → TookReading n r block old new a → Recorded n b old new a
    recorded {block} {new} {a} other eb v =
        let single : many_ticks b (length old) ≡ false =
        other_event b (length old) (settings_of n).address (λ (e : reading (settings_of n).address b (length old) ≡ Tick). other (er ∙ sym (enough room) ∙ e)) in
        let same : outcomes (state_of n) b (length old) ≡ outcome_of r block (state_of n) = once eb single in
        promised (v.is ∙ ap (answer_of n) (sym same)) (v.content ∙ ap (λ (o : Outcome). over o.report old) (sym same))

    -- A record that was refused when it was read.
    pub early : {i : ℕ} → r ≡ Refused i → Recorded n b old old (record { node = n; result = i; reports = 0 })
    early {i} e =
        recorded (λ t. refused_no_tick i (sym e ∙ t)) refl
        (subst (λ (q : Reading). TookReading n q (block_of b) old old (record { node = n; result = i; reports = 0 })) (sym e)
        (untaken (block_of b) i (subst (ReadingKept (settings_of n).address) (sym er ∙ e) (read_in_kept (settings_of n).address b (length old) bytes))))

    -- A tick, or many.
    pub ticked : {new : List ℕ} {a : Answer} → r ≡ Tick → TookTicks n (times_in b) old new a → Recorded n b old new a
    unfolding outcomes
    ticked {new} {a} is v =
        let same : outcomes (state_of n) b (length old) ≡ ticking (times_in b) (state_of n) = go (eqb (kind_of b) 7) refl in
        promised (v.is ∙ ap (answer_of n) (sym same)) (v.content ∙ ap (λ (o : Outcome). over o.report old) (sym same))
      where
        go : (x : Bool) → eqb (kind_of b) 7 ≡ x → outcomes (state_of n) b (length old) ≡ ticking (cond x (count_in (body_of b)) 1) (state_of n)
        go true e = rw (read_many b (length old) (settings_of n).address (eqb-true (kind_of b) 7 e) (ap is_tick (sym er ∙ is))) refl
        go false e =
            once refl (one_event b (length old) (eqb-false (kind_of b) 7 e))
            ∙ ap (λ (x : Reading). outcome_of x (block_of b) (state_of n)) is
            ∙ sym (ticking-one (block_of b) (state_of n))
