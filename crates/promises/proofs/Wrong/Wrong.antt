-- The wrong programs of 01: "These programs have to be unable to pass." Each is caught at one input, whatever else it does. Assumes nothing.
use Prim.Native.Nat.{ℕ}
use mathlib.Core.Path.{◌≡◌, refl, sym, ◌∙◌, ap}
use mathlib.Core.Logic.{◌⊎◌, ⊎_elim}
use mathlib.Core.Bool.{true, false≢true}
use mathlib.Core.List.{List, [], ◌∷◌}
use native.Mathlib.Omega.{arith}
use lib.ListN.{length, take}
use Rattle.wire.specs.Fields.{address_at}
use Rattle.wire.specs.Head.{broken, head_of}
use Rattle.wire.specs.Report.{report_bytes, over}
use Rattle.wire.proofs.ReadsBack.{front_is_report}
use Rattle.settings.specs.Ticks.{ticks_of}
use Rattle.settings.specs.Ranges.{in_range}
use Rattle.settings.specs.Reading.{fields_of, full_in, settings_in}
use Rattle.blocks.specs.Types.{knows, good, among}
use Rattle.blocks.specs.Entries.{cut}
use Rattle.blocks.specs.Meaning.{known, has, sound, behind, value}
use Rattle.ways.specs.declared.choice.Steering.{Steering}
use Rattle.ways.specs.Choice.{number}
use Rattle.controller.specs.Node.{Started, state_of, started_with, reports_in, steering, asked}
use Rattle.controller.specs.Node.{Shown}
use Rattle.controller.specs.State.{State}
use Rattle.controller.specs.Record.{Outcome, refusal}
use Rattle.controller.specs.Promise.{Begun}
use Rattle.promises.specs.History.{after_all, start_of, Made, node_after}
use Rattle.promises.specs.Examples.{tick, link, report, settings, station, p7, p10, p11, p12}
use Rattle.promises.specs.Drilled.{calls_for, Drilled}
use Rattle.promises.proofs.Demand2.Demand2.{demand2_silent}
use Rattle.promises.proofs.Demand2.Drilling.{last_of, drill-state, drill-answer, drill-room, drill-before}

-- What the rules give at the inputs below, by computation.
abbrev state_in : List (List ℕ) → State
state_in l = after_all (start_of (settings 2 0)) (calls_for l)

abbrev answer_in : List (List ℕ) → Outcome
answer_in l = last_of (start_of (settings 2 0)) (calls_for l)

record Due : Type 0 where
  starts : (started_with (settings 2 0)).result ≡ 0
  taken : (answer_in (link 0 2 ∷ [])).result ≡ 0
  east : number (steering (state_in p12.records) (station 3)).reply ≡ 1
  stored : length (state_in (report 0 255 2 1 0 0 ∷ [])).stations ≡ 1
  values : (asked (state_in p7.records) (station 2)).reply ≡ 0
  skipped : (asked (after_all (start_of p10.start) (calls_for p10.records)) (station 2)).reply ≡ 0
  first : (state_in (link 0 2 ∷ [])).pacer.sequence ≡ 1
  second : (state_in (link 0 2 ∷ link 0 0 ∷ [])).pacer.sequence ≡ 2
  three : length (state_in p11.records).stations ≡ 3
  silent : (answer_in (tick ∷ [])).report ≡ []
  told : (answer_in (link 0 2 ∷ [])).report ≡ report_bytes 1 4 0

due : Due
unfolding after_all start_of started_with steering asked settings_in head_of broken full_in fields_of in_range address_at ticks_of cut known has sound behind value knows good among
due = record {
  starts = refl;
  taken = refl;
  east = refl;
  stored = refl;
  values = refl;
  skipped = refl;
  first = refl;
  second = refl;
  three = refl;
  silent = refl;
  told = refl;
}

-- Refuse all: 2. A start ..
pub refuse_every_start : (st : Started) → Begun (settings 2 0) st → (st.result ≡ 0 → ⊥) → ⊥
refuse_every_start st begun refuses = refuses (ap (λ (x : Started). x.result) begun.is ∙ due.starts)

-- .. and a record.
pub refuse-all : (st : Started) (m : Made) → Drilled (settings 2 0) (link 0 2 ∷ []) st (m ∷ []) → refusal m.answer.result ≡ true → ⊥
refuse-all st m d refuses = false≢true (sym (ap refusal ((drill-answer d).result ∙ due.taken)) ∙ refuses)

-- Always west: 2.
pub always_west : (st : Started) (h : List Made) → Drilled p12.start p12.records st h
    → (r : Steering) → r ≡ steering (state_of (node_after st h)) (station 3) → number r.reply ≡ 0 → ⊥
always_west st h d r c west =
    let east : number r.reply ≡ 1 = ap (λ (x : Steering). number x.reply) (c ∙ ap (λ (s : State). steering s (station 3)) (drill-state d)) ∙ due.east in
    omega arith

-- Store nothing: 2 (3 alone admits it).
pub store_nothing : (st : Started) (m : Made) → Drilled (settings 2 0) (report 0 255 2 1 0 0 ∷ []) st (m ∷ [])
    → (state_of m.answer.node).stations ≡ [] → ⊥
store_nothing st m d empty =
    let none : length (state_of m.answer.node).stations ≡ 0 = ap length empty in
    let one : length (state_of m.answer.node).stations ≡ 1 = ap (λ (s : State). length s.stations) (drill-state d) ∙ due.stored in
    omega arith

-- A station that is not behind is not said to be.
not_behind : (x s : State) → x ≡ s → (asked s (station 2)).reply ≡ 0 → (r : Shown) → r ≡ asked x (station 2) → r.reply ≡ 1 → ⊥
not_behind x s e shows r c late =
    let same : r.reply ≡ (asked s (station 2)).reply = ap (λ (y : Shown). y.reply) (c ∙ ap (λ (y : State). asked y (station 2)) e) in
    omega arith

-- Always behind: the "exactly when" of 3. At level 2, with values ..
pub always_behind : (st : Started) (h : List Made) → Drilled p7.start p7.records st h
    → (r : Shown) → r ≡ asked (state_of (node_after st h)) (station 2) → r.reply ≡ 1 → ⊥
always_behind st h d = not_behind (state_of (node_after st h)) (state_in p7.records) (drill-state d) due.values

-- .. and at level 1, with an unknown entry that is skipped.
pub always_behind-small : (st : Started) (h : List Made) → Drilled p10.start p10.records st h
    → (r : Shown) → r ≡ asked (state_of (node_after st h)) (station 2) → r.reply ≡ 1 → ⊥
always_behind-small st h d =
    not_behind (state_of (node_after st h)) (after_all (start_of p10.start) (calls_for p10.records)) (drill-state d) due.skipped

-- Act only on the first record: 2 over sequences. The second call gives back the node that it was handed.
pub first_record_only : (st : Started) (first second : Made) → Drilled (settings 2 0) (link 0 2 ∷ link 0 0 ∷ []) st (second ∷ first ∷ [])
    → second.answer.node ≡ first.answer.node → ⊥
first_record_only st first second d same =
    let stays : (state_in (link 0 2 ∷ link 0 0 ∷ [])).pacer.sequence ≡ 1 =
    ap (λ (s : State). s.pacer.sequence) (sym (drill-state d) ∙ ap state_of same ∙ drill-before d) ∙ due.first in
    omega (arith, due.second)

-- A made-up station (..) count: 2.
pub count-made_up : (st : Started) (h : List Made) → Drilled p11.start p11.records st h
    → (r : ℕ) → r ≡ length (state_of (node_after st h)).stations → (r ≡ 3 → ⊥) → ⊥
count-made_up st h d r c other = other (c ∙ ap (λ (s : State). length s.stations) (drill-state d) ∙ due.three)

-- A made-up (..) report count: 2. A report told, or written, where there is none ..
pub report-made_up : (st : Started) (m : Made) → Drilled (settings 2 0) (tick ∷ []) st (m ∷ [])
    → (m.answer.reports ≡ 0 → ⊥) ⊎ (m.new ≡ m.old → ⊥) → ⊥
report-made_up st m d =
    let none : m.answer.reports ≡ 0 = (drill-answer d).written ∙ ap reports_in due.silent in
    ⊎_elim (λ told. told none) (λ other. other (demand2_silent (settings 2 0) st d.begun [] m d.met none))

-- .. and one kept back, or another one written, where there is one.
pub report_kept_back : (st : Started) (m : Made) → Drilled (settings 2 0) (link 0 2 ∷ []) st (m ∷ [])
    → (m.answer.reports ≡ 1 → ⊥) ⊎ (take 7 m.new ≡ report_bytes 1 4 0 → ⊥) → ⊥
unfolding report_bytes
report_kept_back st m d =
    let one : m.answer.reports ≡ 1 = (drill-answer d).written ∙ ap reports_in due.told in
    let bytes : m.new ≡ over (report_bytes 1 4 0) m.old =
    (drill-answer d).content ∙ ap (λ (x : List ℕ). over x m.old) due.told in
    ⊎_elim (λ kept. kept one)
    (λ other. other (ap (take 7) bytes ∙ front_is_report 1 4 0 m.old (omega (arith, drill-room d))))
