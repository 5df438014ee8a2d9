-- Histories of node 1 in which stations say what they request.
use Rattle.std.specs.Prelude.{ℕ, List, [], ◌∷◌, ◌++◌}
use Rattle.spans.specs.Codes.{IDLE, SD, SF}
use Rattle.ways.specs.Walk.{Ends}
use Rattle.controller.specs.State.{Choice, State, started}
use Rattle.promises.specs.History.{after}
use Rattle.promises.specs.Drilled.{calls_for}
use Rattle.promises.specs.Examples.{station, link, report, ring}

-- Node 1 of the examples, in ticks.
abbrev pub one : Choice
one = record {
  address = station 1;
  known = 1 ∷ 2 ∷ [];
  ticks = record { wtr = 0; holdoff = 0; keepalive = 50; fast = 10; slow = 100; forget = 1000 };
}

abbrev pub state : List (List ℕ) → State
state l = after (started one) (calls_for l)

abbrev pub ends : ℕ → ℕ → Ends
ends west east = record { west = west; east = east }

-- Station 2 reports SD in the west with the sequence 1, and then SF in the east with another.
abbrev pub and_then : ℕ → List (List ℕ)
and_then sequence = report 0 255 2 1 SD IDLE ∷ report 0 255 2 sequence IDLE SF ∷ []

-- West fails: the purge takes station 2 out of the table, and nothing is known of it.
abbrev pub purging : List (List ℕ)
purging = report 0 255 2 1 SD IDLE ∷ link 0 2 ∷ []

-- West is good again: a report is then news, though it has the sequence of before.
abbrev pub rejoining : List (List ℕ)
rejoining = report 0 255 2 1 SD IDLE ∷ link 0 2 ∷ link 0 0 ∷ report 0 255 2 1 IDLE SF ∷ []

-- Stations 2 and 3 are heard in the west alone. There is a way to 3 while it is idle, and none once it requests SF at its end of the second span.
abbrev pub westward : ℕ → List (List ℕ)
westward requested = report 0 255 2 1 IDLE IDLE ∷ report 0 254 3 1 IDLE requested ∷ []

-- P12's ring, and east fails: the way to 3 is west, over SD between 2 and 3.
abbrev pub troubled : List (List ℕ)
troubled = ring SD ++ (link 1 2 ∷ [])
