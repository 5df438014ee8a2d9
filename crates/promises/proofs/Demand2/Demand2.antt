-- Demand 2: "After any sequence of records the span requests, station table, reports, answers and steering are those of the rules. Blocks that we write are those of
-- draft D2.0, and a node of the same level reads back what was written." The second sentence is RoundTrip.
-- b are the bytes of a settings record, st what start answered to them, h the calls made since, the latest first; each call met its contract. Assumes nothing.
use Prim.Native.Nat.{ℕ, suc, ◌*◌}
use mathlib.Core.Path.{◌≡◌}
use mathlib.Core.List.{List, [], ◌∷◌}
use lib.ListN.{take, drop}
use Rattle.wire.specs.Report.{ReadsBack}
use Rattle.stations.specs.Kept.{StationsKept}
use Rattle.controller.specs.Node.{Started, state_of, west_request, east_request}
use Rattle.controller.specs.Promise.{Begun}
use Rattle.promises.specs.History.{after, answered_all, Always, start_of, Made, call_of, made_of, calls_of, node_after, Met, Ruled, AnsweredAs}
use Rattle.promises.proofs.Demand2.Telling.{report_tells, silent_stays}
use Rattle.promises.proofs.Demand2.Coming.{ruled, answered_as}

-- Every node is that of the rules, at every point; `calls_of` reads n ticks for a record of n ticks (02, Item 4).
pub demand2 : (b : List ℕ) (st : Started) → Begun b st → (h : List Made) → Met st h
    → Always (λ (g : List Made). Ruled b (node_after st g) (after (start_of b) (calls_of g))) h
unfolding Met Always
demand2 b st begun [] met = ruled b st begun [] met
demand2 b st begun (m ∷ h) met = (ruled b st begun (m ∷ h) met, demand2 b st begun h met.1)

-- Every call is answered as the rules answer it: result, reports and buffer; many ticks as n single ticks one after another.
pub demand2_answers : (b : List ℕ) (st : Started) → Begun b st → (h : List Made) (m : Made) → Met st (m ∷ h)
    → AnsweredAs m (answered_all (start_of b) (made_of h) (call_of m))
demand2_answers b st begun h m met = answered_as b st begun h m met

-- The table's laws: at most as many stations as places, ascending, none with the own address, each with a hop, no two at one hop, and all that 02, Item 14 lists.
pub demand2_table : (b : List ℕ) (st : Started) → Begun b st → (h : List Made) → Met st h
    → (let s = state_of (node_after st h) in StationsKept s.choice.address s.choice.ticks.forget s.choice.known s.stations)
demand2_table b st begun h met = (ruled b st begun h met).kept.state.stations

-- The last report that is written is a record of kind 16 with the own sequence and requests, and behind it the buffer stays; with none, all of it. One event writes one report at most; of
-- many ticks, the reports before the last are those of the single ticks (ManyTicks).
pub demand2_report : (b : List ℕ) (st : Started) → Begun b st → (h : List Made) (m : Made) → Met st (m ∷ h) → (k : ℕ) → m.answer.reports ≡ suc k
    → (let s = state_of m.answer.node in
    ReadsBack (take 7 (drop (7 * k) m.new)) s.pacer.sequence (west_request s) (east_request s) × (drop (7 * suc k) m.new ≡ drop (7 * suc k) m.old))
unfolding Met
demand2_report b st begun h m met =
    report_tells (node_after st h) m.bytes m.old m.new m.answer (met.0 (ruled b st begun h met.1).kept)

pub demand2_silent : (b : List ℕ) (st : Started) → Begun b st → (h : List Made) (m : Made) → Met st (m ∷ h) → m.answer.reports ≡ 0 → m.new ≡ m.old
unfolding Met
demand2_silent b st begun h m met silent =
    silent_stays (node_after st h) m.bytes m.old m.new m.answer (met.0 (ruled b st begun h met.1).kept) silent
