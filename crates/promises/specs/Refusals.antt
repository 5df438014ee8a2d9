-- Each number's test by itself, and the order of the tests. 01, Numbers returned for a record; 02, Item 4.
use Rattle.std.specs.Prelude.{ℕ, ◌-◌, ◌*◌, ◌≡◌, Bool, true, false, not, cond, ◌&&◌, ◌||◌, List, [], ◌∷◌, ◌++◌, length, eqb, leb, ltb}
use Rattle.wire.specs.Fields.{byte_at, address_at}
use Rattle.wire.specs.Head.{kind_of, body_of, broken}
use Rattle.settings.specs.Reading.{full_fits, short_fits}
use Rattle.spans.specs.Requests.{down}
use Rattle.blocks.specs.Meaning.{Meaning, malformed, aside, shows, meaning}
use Rattle.stations.specs.Station.{farthest}
use Rattle.stations.specs.Stations.{present}
use Rattle.controller.specs.Reading.{link_fits, keepalive_fits, operator_fits, report_fits, block_fits, block_of, count_in, ticks_fit}
use Rattle.controller.specs.State.{State, span_of}

-- The numbers that a record may get.
abbrev pub numbers : List ℕ
numbers = 0 ∷ 1 ∷ 2 ∷ 3 ∷ 4 ∷ 5 ∷ 6 ∷ 7 ∷ 8 ∷ 20 ∷ 21 ∷ 22 ∷ 24 ∷ []

abbrev pub is_kind : ℕ → List ℕ → Bool
is_kind k b = eqb (kind_of b) k

-- The address that a report or an attribute record speaks of.
abbrev pub heard_address : List ℕ → ℕ
heard_address b = cond (is_kind 5 b) (address_at (body_of b) 3) (address_at (body_of b) 1)

-- The body of a record fits its kind.
abbrev pub body_fits : List ℕ → Bool
body_fits b =
    cond (is_kind 1 b) (eqb (length (body_of b)) 0)
    (cond (is_kind 2 b) (link_fits (body_of b))
    (cond (is_kind 3 b) (keepalive_fits (body_of b))
    (cond (is_kind 4 b) (operator_fits (body_of b))
    (cond (is_kind 5 b) (report_fits (body_of b))
    (cond (is_kind 6 b) (block_fits (body_of b))
    (cond (is_kind 7 b) (ticks_fit (body_of b)) true))))))

abbrev pub is_malformed : Meaning → Bool
is_malformed malformed = true
is_malformed (aside t) = false
is_malformed (shows es) = false

-- A number, and when it applies to a record with so much room, in a state.
pub record Test : Type 0 where
  pub number : ℕ
  pub applies : State → List ℕ → ℕ → Bool

-- "They are tested in that order, save that for kind 6 result 21 (..) comes between 5 and 7." 02, Item 4: "after 4, 1 if the room is below 7 × n bytes; the test of 7 bytes stays first."
unfoldable pub tests : List Test
unfolding broken down present meaning
tests =
    record { number = 1; applies = λ s b room. ltb room 7 }
    ∷ record { number = 2; applies = λ s b room. broken b }
    ∷ record { number = 3; applies = λ s b room. not (leb 1 (kind_of b) && leb (kind_of b) 7) }
    ∷ record { number = 4; applies = λ s b room. not (body_fits b) }
    ∷ record { number = 1; applies = λ s b room. is_kind 7 b && ltb room (7 * count_in (body_of b)) }
    ∷ record { number = 5; applies = λ s b room. (is_kind 5 b || is_kind 6 b) && eqb (heard_address b) s.choice.address }
    ∷ record { number = 6; applies = λ s b room. is_kind 5 b && ltb farthest (256 - byte_at (body_of b) 2) }
    ∷ record { number = 21; applies = λ s b room. is_kind 6 b && down s.choice.ticks (span_of (byte_at (body_of b) 0) s.spans) }
    ∷ record { number = 7; applies = λ s b room. is_kind 6 b && not (present (heard_address b) s.stations) }
    ∷ record { number = 8; applies = λ s b room. is_kind 6 b && is_malformed (meaning s.choice.known (block_of b)) }
    ∷ []

-- "Start gives 0, 2, 3 or 4": its tests see no state, and it has no room.
unfoldable pub start_tests : List Test
unfolding broken
start_tests =
    record { number = 2; applies = λ s b room. broken b }
    ∷ record { number = 3; applies = λ s b room. not (leb 32 (kind_of b) && leb (kind_of b) 33) }
    ∷ record { number = 4; applies = λ s b room. not (cond (is_kind 32 b) (full_fits (body_of b)) (short_fits (body_of b))) }
    ∷ []

-- No test of a list applies.
unfoldable pub NoneApplies : List Test → State → List ℕ → ℕ → Type 0
NoneApplies [] s b room = Unit {0}
NoneApplies (t ∷ l) s b room = (t.applies s b room ≡ false) × NoneApplies l s b room

-- n is the number of the first test of a list that applies.
pub record FirstApplies (l : List Test) (s : State) (b : List ℕ) (room n : ℕ) : Type 0 where
  pub before : List Test
  pub it : Test
  pub rest : List Test
  pub order : l ≡ before ++ it ∷ rest
  pub number : it.number ≡ n
  pub applies : it.applies s b room ≡ true
  pub first : NoneApplies before s b room
