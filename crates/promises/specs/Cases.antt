-- Records with the tests that apply to them: each test alone, several at once, none.
use Rattle.std.specs.Prelude.{ℕ, cond, List, [], ◌∷◌, ◌++◌}
use Rattle.wire.specs.Fields.{address_at}
use Rattle.wire.specs.Head.{broken, head_of}
use Rattle.settings.specs.Ticks.{ticks_of}
use Rattle.settings.specs.Ranges.{in_range}
use Rattle.settings.specs.Reading.{fields_of, full_in, short_in, settings_in}
use Rattle.stations.specs.Table.{blank}
use Rattle.controller.specs.State.{State}
use Rattle.controller.specs.Record.{outcomes}
use Rattle.controller.specs.Node.{Node, state_of, answer_of, started_with}
use Rattle.promises.specs.Examples.{address, tick, many, link, report, attributes, settings}
use Rattle.promises.specs.Refusals.{Test, tests, start_tests}

-- The numbers of all tests that apply, in the order of the tests.
unfoldable pub applying : List Test → State → List ℕ → ℕ → List ℕ
applying [] s b room = []
applying (t ∷ l) s b room = cond (t.applies s b room) (t.number ∷ applying l s b room) (applying l s b room)

-- A record that a node is handed, the numbers of all tests that apply to it, and the result.
pub record Case : Type 0 where
  pub node : Node
  pub bytes : List ℕ
  pub room : ℕ
  pub apply : List ℕ
  pub result : ℕ

-- The result that a record gets and the tests that apply to it, and what is due.
unfoldable pub got : Case → List ℕ
unfolding applying tests outcomes
got c = (outcomes (state_of c.node) c.bytes c.room).result ∷ applying tests (state_of c.node) c.bytes c.room

abbrev pub due : Case → List ℕ
due c = c.result ∷ c.apply

-- Node 1 that has started; then it has heard station 2 from the west; then its west link has failed.
unfoldable pub fresh : Node
unfolding started_with settings_in head_of broken full_in fields_of in_range address_at
fresh = (started_with (settings 2 0)).node

unfoldable pub next : Node → List ℕ → Node
unfolding outcomes blank ticks_of
next n b = (answer_of n (outcomes (state_of n) b 7)).node

unfoldable pub joined : Node
unfolding fresh next
joined = next fresh (report 0 255 2 1 0 0)

unfoldable pub failed : Node
unfolding joined
failed = next joined (link 0 2)

abbrev pub case : Node → List ℕ → ℕ → List ℕ → ℕ → Case
case n b room l k = record { node = n; bytes = b; room = room; apply = l; result = k }

-- Each refusal by its test alone ..
abbrev pub alone : List Case
alone =
    case fresh tick 6 (1 ∷ []) 1
    ∷ case fresh (3 ∷ 0 ∷ 1 ∷ 0 ∷ []) 7 (2 ∷ []) 2
    ∷ case fresh ((9 ∷ 0 ∷ 8 ∷ 0 ∷ 0 ∷ []) ++ address 3) 7 (3 ∷ []) 3
    ∷ case fresh (link 2 0) 7 (4 ∷ []) 4
    ∷ case fresh (report 0 255 1 1 0 0) 7 (5 ∷ []) 5
    ∷ case fresh (report 0 192 3 1 0 0) 7 (6 ∷ []) 6
    ∷ case joined (attributes 3 []) 7 (7 ∷ []) 7
    ∷ case joined (attributes 2 (0 ∷ [])) 7 (8 ∷ []) 8
    ∷ case fresh (many 0) 7 (4 ∷ []) 4
    ∷ case fresh (many 1001) 7007 (4 ∷ []) 4
    ∷ case fresh (3 ∷ 0 ∷ 7 ∷ 0 ∷ 1 ∷ []) 7 (4 ∷ []) 4
    ∷ case fresh (5 ∷ 0 ∷ 7 ∷ 0 ∷ 1 ∷ 0 ∷ 0 ∷ []) 7 (4 ∷ []) 4
    ∷ case fresh (many 2) 13 (1 ∷ []) 1
    ∷ []

-- .. and the first of several: no bytes and no room; a wrong length; the own address from too far; a span that is down, an unknown station and a bad block; both tests of room, and 4 between
-- them.
abbrev pub several : List Case
several =
    case fresh [] 0 (1 ∷ 2 ∷ 3 ∷ []) 1
    ∷ case fresh (2 ∷ 0 ∷ 8 ∷ 0 ∷ 0 ∷ []) 7 (2 ∷ 3 ∷ []) 2
    ∷ case fresh (2 ∷ 0 ∷ 1 ∷ 0 ∷ 0 ∷ []) 7 (2 ∷ 4 ∷ []) 2
    ∷ case fresh (report 0 0 1 1 0 0) 7 (4 ∷ 5 ∷ 6 ∷ []) 4
    ∷ case fresh (report 0 100 1 1 0 0) 7 (5 ∷ 6 ∷ []) 5
    ∷ case failed (attributes 1 []) 7 (5 ∷ 21 ∷ 7 ∷ []) 5
    ∷ case failed (attributes 3 (0 ∷ [])) 7 (21 ∷ 7 ∷ 8 ∷ []) 21
    ∷ case joined (attributes 3 (0 ∷ [])) 7 (7 ∷ 8 ∷ []) 7
    ∷ case fresh (many 1) 6 (1 ∷ 1 ∷ []) 1
    ∷ case fresh (many 1001) 6 (1 ∷ 4 ∷ 1 ∷ []) 1
    ∷ case fresh (many 1001) 7 (4 ∷ 1 ∷ []) 4
    ∷ []

-- No test applies: taken, an old report, a block set aside.
abbrev pub fine : List Case
fine =
    case fresh tick 7 [] 0
    ∷ case fresh (many 1) 7 [] 0
    ∷ case fresh (many 2) 14 [] 0
    ∷ case joined (attributes 2 []) 7 [] 0
    ∷ case failed (report 0 255 2 1 0 0) 7 [] 21
    ∷ case joined (report 0 255 2 129 0 0) 7 [] 0
    ∷ case joined (report 0 255 2 130 0 0) 7 [] 22
    ∷ case joined (attributes 2 (0x80 ∷ 3 ∷ 0 ∷ 0 ∷ [])) 7 [] 24
    ∷ []

-- A buffer with a byte more than a report has.
abbrev pub buffer : List ℕ
buffer = 1 ∷ 2 ∷ 3 ∷ 4 ∷ 5 ∷ 6 ∷ 7 ∷ 8 ∷ []

-- The result of a start, and the tests that apply to it, which read neither state nor room.
unfoldable pub begins : List ℕ → List ℕ
unfolding applying start_tests started_with settings_in head_of full_in short_in
begins b = (started_with b).result ∷ applying start_tests (state_of fresh) b 0
