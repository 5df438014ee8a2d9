-- By computation: a station that was heard once is there one tick before the forget time, and not with it. 30,000 ticks are more than one `refl` may compute, so
-- each of them is one, and their number an induction. Assumes nothing.
use Prim.Native.Nat.{ℕ, zero, suc, ◌+◌, ◌<◌, ◌≤◌}
use mathlib.Core.Path.{◌≡◌, refl, sym, ap, ◌∙◌}
use mathlib.Core.Bool.{false}
use mathlib.Core.List.{List, [], ◌∷◌, ◌++◌, append-nil}
use native.Mathlib.Omega.{arith}
use borrow.Author.Tests.{lt-ltb, le-ltb}
use Rattle.wire.specs.Fields.{address_at}
use Rattle.wire.specs.Head.{broken, head_of}
use Rattle.settings.specs.Ticks.{ticks_of}
use Rattle.settings.specs.Ranges.{in_range}
use Rattle.settings.specs.Reading.{fields_of, full_in, settings_in}
use Rattle.spans.specs.declared.span.Span.{Span}
use Rattle.pacer.specs.declared.steps.Pacer.{Pacer}
use Rattle.blocks.specs.Attributes.{absent}
use Rattle.blocks.specs.Types.{knows}
use Rattle.stations.specs.declared.station.Station.{Station}
use Rattle.stations.specs.Station.{station_of}
use Rattle.stations.specs.Stations.{sequence_of}
use Rattle.controller.specs.State.{Choice, State, started}
use Rattle.promises.specs.History.{start_of}
use Rattle.promises.specs.Examples.{
  station,
  tick,
  keepalive,
  report,
  full_with,
  run,
  listed,
  answers_to,
  ticks,
  Holds,
  unheard_for,
  full_forgets,
  full_forgets_after,
  named_forgets,
  named_forgets_after,
  unheard,
  AllHold,
}

abbrev pub heard : List ℕ
heard = report 0 255 2 1 0 0

-- Node 1 of the default settings, but for the forget time, here in ticks.
abbrev pub one : ℕ → Choice
one forget = record {
  address = station 1;
  known = 1 ∷ 2 ∷ [];
  ticks = record { wtr = 10000; holdoff = 0; keepalive = 3; fast = 10; slow = 100; forget = forget };
}

abbrev alive : Span
alive = record { stored = 0; force = 0; holdoff = 0; age = 1; cable = false; operator = 0; wtr = 0 }

-- So many ticks after it heard station 2, keepalives coming.
abbrev heard_for : ℕ → ℕ → Pacer → State
heard_for forget age p = record {
  choice = one forget;
  spans = record { west = alive; east = alive };
  stations = station_of (station 2) 1 0 1 0 0 age absent ∷ [];
  pacer = p;
}

-- What the ticks make of the pacer, which sees nothing of the stations.
abbrev begun : Pacer
begun = record { timer = 9; sequence = 0; west = 0; east = 0; left = 8 }

unfoldable turned : Pacer → Pacer
unfolding run
turned p = (run (heard_for 2 0 p) (keepalive 0 ∷ keepalive 1 ∷ tick ∷ [])).pacer

unfoldable turns : ℕ → Pacer → Pacer
unfolding turned
turns zero p = p
turns (suc n) p = turns n (turned p)

one_later : (n : ℕ) → ticks (suc n) ≡ ticks n ++ ticks 1
unfolding ticks
one_later zero = refl
one_later (suc n) = ap (λ (l : List (List ℕ)). keepalive 0 ∷ keepalive 1 ∷ tick ∷ l) (one_later n)

module _ (forget : ℕ) where
  first : 1 < forget → (l : List (List ℕ)) → run (started (one forget)) (heard ∷ keepalive 0 ∷ keepalive 1 ∷ tick ∷ l) ≡ run (heard_for forget 1 begun) l
  unfolding run started address_at
  first young l = rw (lt-ltb 1 forget young) refl

  later : (age : ℕ) (p : Pacer) → age + 1 < forget → (l : List (List ℕ))
      → run (heard_for forget age p) (keepalive 0 ∷ keepalive 1 ∷ tick ∷ l) ≡ run (heard_for forget (age + 1) (turned p)) l
  unfolding run turned
  later age p young l = rw (lt-ltb (age + 1) forget young) refl

  last : (age : ℕ) (p : Pacer) → forget ≤ age + 1 → (run (heard_for forget age p) (ticks 1)).stations ≡ []
  unfolding run ticks
  last age p old = rw (le-ltb (age + 1) forget old) refl

  from : (n age end : ℕ) (p : Pacer) → age + n ≡ end → end < forget → (l : List (List ℕ))
      → run (heard_for forget age p) (ticks n ++ l) ≡ run (heard_for forget end (turns n p)) l
  unfolding ticks turns
  from zero age end p sum young l =
      let same : age ≡ end = omega (arith, sum) in
      ap (λ (k : ℕ). run (heard_for forget k p) l) same
  from (suc n) age end p sum young l =
      later age p (omega (arith, sum, young)) (ticks n ++ l) ∙ from n (age + 1) end (turned p) (omega (arith, sum)) young l

  after-ticks : (n : ℕ) → suc n < forget → (l : List (List ℕ))
      → run (started (one forget)) (heard ∷ (ticks (suc n) ++ l)) ≡ run (heard_for forget (suc n) (turns n begun)) l
  unfolding ticks
  after-ticks n young l = first (omega (arith, young)) (ticks n ++ l) ∙ from n 1 (suc n) begun (omega arith) young l

  -- One of the two examples, of settings that are taken and give this forget time.
  module _ (start : List ℕ) (taken : (settings_in start).result ≡ 0) (starts : start_of start ≡ started (one forget)) (n : ℕ) (young : suc n < forget) where
    abbrev stored : List Station → List ℕ
    stored l = listed (sequence_of (station 2) l) ++ []

    there : Holds (unheard_for (suc n) start (1 ∷ []))
    unfolding answers_to run
    there =
        let is : run (start_of start) (heard ∷ ticks (suc n)) ≡ heard_for forget (suc n) (turns n begun) =
        ap (λ (l : List (List ℕ)). run (start_of start) (heard ∷ l)) (sym (append-nil (ticks (suc n))))
        ∙ ap (λ (s : State). run s (heard ∷ (ticks (suc n) ++ []))) starts
        ∙ after-ticks n young [] in
        record { taken = taken; answers = ap (λ (s : State). stored s.stations) is }

    gone : forget ≤ suc n + 1 → Holds (unheard_for (suc (suc n)) start [])
    unfolding answers_to run
    gone old =
        let is : run (start_of start) (heard ∷ ticks (suc (suc n))) ≡ run (heard_for forget (suc n) (turns n begun)) (ticks 1) =
        ap (λ (l : List (List ℕ)). run (start_of start) (heard ∷ l)) (one_later (suc n))
        ∙ ap (λ (s : State). run s (heard ∷ (ticks (suc n) ++ ticks 1))) starts
        ∙ after-ticks n young (ticks 1) in
        record { taken = taken; answers = ap (λ (s : State). stored s.stations) is ∙ ap stored (last (suc n) (turns n begun) old) }

-- Full settings with 300 forget after 30,000 ticks, those with 10 after 1,000.
pub named_starts : start_of (full_with 300) ≡ started (one 30000)
unfolding start_of settings_in head_of broken full_in fields_of in_range address_at ticks_of knows
named_starts = refl

pub full_starts : start_of (full_with 10) ≡ started (one 1000)
unfolding start_of settings_in head_of broken full_in fields_of in_range address_at ticks_of knows
full_starts = refl

named-taken : (settings_in (full_with 300)).result ≡ 0
unfolding settings_in head_of broken full_in fields_of in_range address_at
named-taken = refl

full-taken : (settings_in (full_with 10)).result ≡ 0
unfolding settings_in head_of broken full_in fields_of in_range address_at
full-taken = refl

pub at_29999 : Holds named_forgets
at_29999 = there 30000 (full_with 300) named-taken named_starts 29998 (omega arith)

pub at_30000 : Holds named_forgets_after
at_30000 = gone 30000 (full_with 300) named-taken named_starts 29998 (omega arith) (omega arith)

pub at_999 : Holds full_forgets
at_999 = there 1000 (full_with 10) full-taken full_starts 998 (omega arith)

pub at_1000 : Holds full_forgets_after
at_1000 = gone 1000 (full_with 10) full-taken full_starts 998 (omega arith) (omega arith)

pub of_unheard : AllHold unheard
unfolding AllHold
of_unheard = (at_999, (at_1000, (at_29999, (at_30000, tt))))
