-- What the theorems on spans and marks suppose is met, by computation from bytes; and p6 as one of their cases. Assumes nothing.
use Prim.Native.Nat.{ℕ, ◌≤◌}
use mathlib.Core.Path.{◌≡◌, refl, sym, subst}
use mathlib.Core.Bool.{true, false}
use mathlib.Core.List.{List, [], ◌∷◌, ◌++◌}
use native.Mathlib.Omega.{arith}
use Rattle.wire.specs.Fields.{address_at}
use Rattle.wire.specs.Head.{broken, head_of}
use Rattle.settings.specs.Kept.{TicksKept}
use Rattle.settings.specs.Ticks.{ticks_of}
use Rattle.settings.specs.Ranges.{in_range}
use Rattle.settings.specs.Reading.{fields_of, full_in, settings_in}
use Rattle.spans.specs.Codes.{degraded, failed, MS, SF, SD, IDLE, none}
use Rattle.spans.specs.HoldOff.{LinkDecides}
use Rattle.blocks.specs.Types.{knows}
use Rattle.controller.specs.Reading.{Tick, Link, Operator}
use Rattle.controller.specs.Reading.{block_of, reading}
use Rattle.controller.specs.State.{Choice, State, started}
use Rattle.controller.specs.Node.{choice_of, west_request}
use Rattle.promises.specs.History.{Call, after, after_all, answered_all, Always, AllBytes, start_of}
use Rattle.promises.specs.Spans.{read_as, some_taken, ticks_taken, ticks_quiet, link_taken, span_after, automatic_on, Unrequested}
use Rattle.promises.specs.Marks.{OnlyMark}
use Rattle.promises.specs.Drilled.{calls_for}
use Rattle.promises.specs.Examples.{address, station, tick, link, keepalive, report, attributes, settings, ticks, swings}
use Rattle.promises.specs.Possible.{all_bytes}
use Rattle.promises.proofs.Demand2.Possible.{all_bytes_lem}
use Rattle.promises.proofs.Spans.HoldOff.{idle_meanwhile, failed-then}
use Rattle.promises.proofs.Spans.Keepalives.{keepalives_coming, silence_is_sf}
use Rattle.promises.proofs.Spans.Swinging.{idle_before, sd_then}
use Rattle.promises.proofs.Spans.Purging.{started-swept}
use Rattle.promises.proofs.Spans.Beneath.{as_if_not_come}
use Rattle.promises.proofs.Spans.Running.{wtr_runs_beneath}
use Rattle.promises.proofs.Spans.Rising.{tick_never_lowers}
use Rattle.promises.proofs.Spans.Marks.{only_mark}

-- Node 1 of the examples in ticks, with a WTR and a hold-off.
abbrev pub node : ℕ → ℕ → Choice
node wtr holdoff = record {
  address = station 1;
  known = 1 ∷ 2 ∷ [];
  ticks = record { wtr = wtr; holdoff = holdoff; keepalive = 50; fast = 10; slow = 100; forget = 1000 };
}

-- Its times are in their ranges.
pub ticks_met : (holdoff : ℕ) → holdoff ≤ 200 → TicksKept (node 0 holdoff).ticks
ticks_met holdoff low = record {
  wtr = omega arith;
  holdoff = low;
  keepalive_low = omega arith;
  keepalive = omega arith;
  fast_low = omega arith;
  fast = omega arith;
  slow_low = omega arith;
  slow = omega arith;
  forget_low = omega arith;
  forget = omega arith;
}

pub three_steps : choice_of (settings_in (settings 2 3)).settings ≡ node 0 30
unfolding settings_in head_of broken full_in fields_of in_range address_at ticks_of knows
three_steps = refl

abbrev pub call : List ℕ → Call
call b = record { bytes = b; room = 7 }

-- p6: "hold-off 3 steps: failed link is IDLE after 29 ticks, SF after 30 (keepalives coming)".
abbrev pub held : State
held = started (node 0 30)

pub failing : read_as (station 1) (call (link 0 failed)) ≡ Link 0 failed
unfolding reading
failing = refl

-- 29 and 30 ticks are taken, with two keepalives each, and no link record of the span.
counted : (ticks_taken (station 1) (calls_for (ticks 29)) ≡ 29) × (ticks_taken (station 1) (calls_for (ticks 30)) ≡ 30)
unfolding ticks_taken ticks
counted = (refl, refl)

unlinked : (link_taken (station 1) 0 (calls_for (ticks 29)) ≡ false) × (link_taken (station 1) 0 (calls_for (ticks 30)) ≡ false)
unfolding some_taken ticks
unlinked = (refl, refl)

-- "keepalives coming": one tick since the latest.
coming : ticks_quiet (station 1) 0 0 (calls_for (ticks 29)) ≡ 1
unfolding ticks_quiet ticks
coming = refl

link_decides : LinkDecides held.choice.ticks (span_after 0 held (calls_for (ticks 29) ++ (call (link 0 failed) ∷ [])))
unfolding started after ticks
link_decides = record {
  alone = record {
    alive = keepalives_coming held 0 (omega arith) (call (link 0 failed) ∷ []) 0 refl (calls_for (ticks 29)) (omega (arith, coming));
    unmarked = refl;
  };
  unasked = refl;
  unwaited = refl;
}

p6_in_ticks : (west_request (after held (calls_for (link 0 failed ∷ ticks 29))) ≡ IDLE) × (west_request (after held (calls_for (link 0 failed ∷ ticks 30))) ≡ SF)
unfolding started after ticks west_request
p6_in_ticks = (
  idle_meanwhile held 0 (omega arith) [] (call (link 0 failed)) failed failing refl refl refl (omega arith) (calls_for (ticks 29)) unlinked.0
      (omega (arith, counted.0)) link_decides,
  (failed-then held 0 (omega arith) [] (call (link 0 failed)) failed failing refl refl refl (omega arith) (calls_for (ticks 30)) unlinked.1 refl
      (omega (arith, counted.1))).1,
)

pub p6_of_all : (west_request (after (start_of (settings 2 3)) (calls_for (link 0 failed ∷ ticks 29))) ≡ IDLE)
    × (west_request (after (start_of (settings 2 3)) (calls_for (link 0 failed ∷ ticks 30))) ≡ SF)
unfolding start_of
p6_of_all =
    subst (λ (c : Choice). (west_request (after (started c) (calls_for (link 0 failed ∷ ticks 29))) ≡ IDLE)
    × (west_request (after (started c) (calls_for (link 0 failed ∷ ticks 30))) ≡ SF)) (sym three_steps) p6_in_ticks

-- 02, Item 2: "With 3 steps, failed at tick 0, degraded after tick 20 gives SD after tick 30", as one of the cases of its theorem; IDLE at 29.
fading : read_as (station 1) (call (link 0 degraded)) ≡ Link 0 degraded
unfolding reading
fading = refl

abbrev swung : ℕ → List Call
swung later = calls_for (ticks later) ++ (call (link 0 degraded) ∷ (calls_for (ticks 20) ++ (call (link 0 failed) ∷ [])))

-- 20, 9 and 10 ticks are taken, and no link record of the span is among them.
parts_counted : (ticks_taken (station 1) (calls_for (ticks 20)) ≡ 20) × (ticks_taken (station 1) (calls_for (ticks 9)) ≡ 9) × (ticks_taken (station 1) (calls_for (ticks 10)) ≡ 10)
unfolding ticks_taken ticks
parts_counted = (refl, refl, refl)

parts_unlinked : (link_taken (station 1) 0 (calls_for (ticks 20)) ≡ false) × (link_taken (station 1) 0 (calls_for (ticks 9)) ≡ false) × (link_taken (station 1) 0 (calls_for (ticks 10)) ≡ false)
unfolding some_taken ticks
parts_unlinked = (refl, refl, refl)

swing_decides : LinkDecides held.choice.ticks (span_after 0 held (swung 9)) × LinkDecides held.choice.ticks (span_after 0 held (swung 10))
unfolding started after ticks
swing_decides = (
  record { alone = record { alive = omega arith; unmarked = refl }; unasked = refl; unwaited = refl },
  record { alone = record { alive = omega arith; unmarked = refl }; unasked = refl; unwaited = refl },
)

swing_in_ticks : (west_request (after held (calls_for (swings 9))) ≡ IDLE) × (west_request (after held (calls_for (swings 10))) ≡ SD)
unfolding started after ticks west_request
swing_in_ticks = (
  idle_before held 0 (omega arith) [] (call (link 0 failed)) failing refl refl refl (calls_for (ticks 20)) parts_unlinked.0 (omega (arith, parts_counted.0))
      (call (link 0 degraded)) fading (calls_for (ticks 9)) parts_unlinked.1 (omega (arith, parts_counted.0, parts_counted.1)) swing_decides.0,
  sd_then held 0 (omega arith) [] (call (link 0 failed)) failing refl refl refl (calls_for (ticks 20)) parts_unlinked.0 (omega (arith, parts_counted.0))
      (call (link 0 degraded)) fading (calls_for (ticks 10)) parts_unlinked.2 (omega (arith, parts_counted.0, parts_counted.2)) swing_decides.1,
)

pub swing_of_all : (west_request (after (start_of (settings 2 3)) (calls_for (swings 9))) ≡ IDLE) × (west_request (after (start_of (settings 2 3)) (calls_for (swings 10))) ≡ SD)
unfolding start_of
swing_of_all =
    subst (λ (c : Choice). (west_request (after (started c) (calls_for (swings 9))) ≡ IDLE) × (west_request (after (started c) (calls_for (swings 10))) ≡ SD)) (sym three_steps)
    swing_in_ticks

-- Two ticks in silence, of a node whose keepalive setting is 2.
abbrev impatient : State
impatient = started (record {
  address = station 1;
  known = 1 ∷ 2 ∷ [];
  ticks = record { wtr = 0; holdoff = 0; keepalive = 2; fast = 10; slow = 100; forget = 1000 };
})

two : ticks_quiet (station 1) 0 0 (calls_for (tick ∷ tick ∷ [])) ≡ 2
unfolding ticks_quiet
two = refl

pub silence_met : automatic_on 0 (after impatient (calls_for (tick ∷ tick ∷ []) ++ [])) ≡ SF
unfolding started after
silence_met = silence_is_sf impatient 0 (omega arith) [] 0 refl (calls_for (tick ∷ tick ∷ [])) (omega (arith, two))

-- A tick without room for a report is refused, and counts for nothing; nor does a record of another kind.
pub refused-tick : ticks_taken (station 1) (record { bytes = tick; room = 6 } ∷ call (keepalive 0) ∷ call tick ∷ []) ≡ 1
unfolding ticks_taken
refused-tick = refl

-- A WTR of ten seconds runs since the link is good again; MS comes, three ticks and a report pass, MS goes.
abbrev operator : ℕ → ℕ → List ℕ
operator span request = 4 ∷ 0 ∷ 4 ∷ 0 ∷ span ∷ request ∷ []

abbrev waits : State
waits = started (node 10000 0)

abbrev earlier : List Call
earlier = calls_for (link 0 failed ∷ link 0 0 ∷ [])

abbrev meanwhile : List Call
meanwhile = calls_for (tick ∷ report 0 255 2 1 0 0 ∷ tick ∷ tick ∷ [])

comes : read_as (station 1) (call (operator 0 MS)) ≡ Operator 0 MS
unfolding reading
comes = refl

goes : read_as (station 1) (call (operator 0 none)) ≡ Operator 0 none
unfolding reading
goes = refl

pub ms_met : (after waits (call (operator 0 none) ∷ (meanwhile ++ (call (operator 0 MS) ∷ earlier)))).spans ≡ (after waits (meanwhile ++ earlier)).spans
unfolding started after some_taken address_at
ms_met =
    (as_if_not_come 0 waits (started-swept (node 10000 0)) earlier (call (operator 0 MS)) meanwhile (call (operator 0 none)) MS comes goes (omega arith) refl refl
    ).0

-- No automatic request at any point, so 9,997 ticks are left.
undisturbed : Always (Unrequested 0 waits earlier) (call (operator 0 none) ∷ (meanwhile ++ (call (operator 0 MS) ∷ [])))
unfolding started Always after address_at
undisturbed = (refl, (refl, (refl, (refl, (refl, (refl, refl))))))

pub wtr_met : (span_after 0 waits ((call (operator 0 none) ∷ (meanwhile ++ (call (operator 0 MS) ∷ []))) ++ earlier)).wtr ≡ 9997
unfolding started after ticks_taken address_at
wtr_met = wtr_runs_beneath waits 0 earlier (call (operator 0 MS)) meanwhile (call (operator 0 none)) MS comes goes undisturbed

-- The tick that ends a hold-off raises the automatic request from none to SF.
bytes_met : AllBytes (calls_for (link 0 failed ∷ ticks 9))
unfolding all_bytes ticks
bytes_met = all_bytes_lem (calls_for (link 0 failed ∷ ticks 9)) refl

ticking : read_as (station 1) (call tick) ≡ Tick
unfolding reading
ticking = refl

pub rising_met : automatic_on 0 (after (started (node 0 10)) (calls_for (link 0 failed ∷ ticks 9)))
    ≤ automatic_on 0 (after (started (node 0 10)) (call tick ∷ calls_for (link 0 failed ∷ ticks 9)))
rising_met = tick_never_lowers (node 0 10) (ticks_met 10 (omega arith)) (calls_for (link 0 failed ∷ ticks 9)) bytes_met (call tick) ticking 0

pub rising_is : (automatic_on 0 (after (started (node 0 10)) (calls_for (link 0 failed ∷ ticks 9))) ≡ none)
    × (automatic_on 0 (after (started (node 0 10)) (call tick ∷ calls_for (link 0 failed ∷ ticks 9))) ≡ SF)
unfolding started after ticks
rising_is = (refl, refl)

-- Reports that are not taken: heard on a span, with a ringlet and a TTL, from station 2.
abbrev heard_on : ℕ → ℕ → ℕ → ℕ → List ℕ
heard_on span ringlet ttl sequence = (14 ∷ 0 ∷ 5 ∷ 0 ∷ span ∷ ringlet ∷ ttl ∷ []) ++ (address 2 ++ (sequence ∷ 0 ∷ 0 ∷ []))

abbrev plain : State
plain = started (node 0 0)

abbrev result_after : List (List ℕ) → List ℕ → ℕ
result_after l b = (answered_all plain (calls_for l) (call b)).result

pub twenty_to_twenty_two : (result_after [] (heard_on 0 1 255 1) ≡ 20)
    × (result_after (heard_on 0 1 255 1 ∷ []) (heard_on 0 0 254 1) ≡ 21)
    × (result_after (heard_on 0 0 255 200 ∷ []) (heard_on 0 0 255 73) ≡ 22)
    × (result_after (heard_on 0 1 255 1 ∷ []) (attributes 2 []) ≡ 21)
unfolding started after_all address_at
twenty_to_twenty_two = (refl, refl, refl, refl)

-- The mark is set at hop 1, not at hop 2; and what only_mark says of the first.
pub marks : ((span_after 0 plain (calls_for (heard_on 0 1 255 1 ∷ []))).cable ≡ true) × ((span_after 0 plain (calls_for (heard_on 0 1 254 1 ∷ []))).cable ≡ false)
unfolding started after address_at
marks = (refl, refl)

pub marks_alone : OnlyMark plain (block_of (heard_on 0 1 255 1)) (result_after [] (heard_on 0 1 255 1)) (read_as (station 1) (call (heard_on 0 1 255 1)))
unfolding started after_all
marks_alone =
    only_mark plain (heard_on 0 1 255 1) 7 (omega (arith, twenty_to_twenty_two.0)) (omega (arith, twenty_to_twenty_two.0))
