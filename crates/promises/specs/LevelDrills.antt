-- Histories at a node of level 1 and one of level 2.
use Rattle.std.specs.Prelude.{ℕ, List, [], ◌∷◌, replicate}
use Rattle.controller.specs.State.{State}
use Rattle.controller.specs.Node.{Started, started_with}
use Rattle.promises.specs.History.{Call, start_of}
use Rattle.promises.specs.Possible.{Handed}
use Rattle.promises.specs.Examples.{settings, link, many, report, attributes}

-- The calls, the latest first, each with room for a report.
abbrev pub call : List ℕ → Call
call b = record { bytes = b; room = 7 }

-- Level 1 and level 2, else equal.
abbrev pub small : State
small = start_of (settings 1 0)

abbrev pub large : State
large = start_of (settings 2 0)

-- A station that has joined.
abbrev pub joined : List Call
joined = call (report 0 255 2 1 0 0) ∷ []

-- P9's block: type 2 alone, mandatory.
abbrev pub type_two : List ℕ
type_two = 0x80 ∷ 2 ∷ 0 ∷ 4 ∷ 3 ∷ 0xe8 ∷ 0 ∷ 0 ∷ []

abbrev pub asides : List Call
asides = call (attributes 2 type_two) ∷ joined

-- P7's block: type 1, which both know.
abbrev pub type_one : List ℕ
type_one = 0x80 ∷ 1 ∷ 0 ∷ 2 ∷ 3 ∷ 5 ∷ []

abbrev pub takes : List Call
takes = call (attributes 2 type_one) ∷ asides

-- The link fails and is good again, the station is heard once more: it has no block since it joined, and nobody is behind.
abbrev pub returns : List Call
returns = call (report 0 255 2 2 0 0) ∷ call (link 0 0) ∷ call (link 0 2) ∷ asides

-- Type 2, optional and of one byte, then P7's weights: to level 1 an entry to skip, to level 2 one of a wrong length.
abbrev pub short_two : List ℕ
short_two = 0 ∷ 2 ∷ 0 ∷ 1 ∷ 9 ∷ 0x80 ∷ 1 ∷ 0 ∷ 2 ∷ 3 ∷ 5 ∷ []

abbrev pub eights : List Call
eights = call (attributes 2 short_two) ∷ joined

-- 02, Item 4: the block that level 1 sets aside, and then two ticks in one record.
abbrev pub ages : List Call
ages = record { bytes = many 2; room = 14 } ∷ asides

-- The same as nodes of the program, and their calls, with a buffer for each; the ten ticks write a report.
abbrev pub room : List ℕ
room = replicate 7 0

abbrev pub handed : List Handed
handed =
    record { bytes = many 10; old = replicate 70 0 }
    ∷ record { bytes = attributes 2 type_two; old = room }
    ∷ record { bytes = report 0 255 2 1 0 0; old = room }
    ∷ []

abbrev pub small_node : Started
small_node = started_with (settings 1 0)

abbrev pub large_node : Started
large_node = started_with (settings 2 0)
