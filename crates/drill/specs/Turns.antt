-- The steps of the drill: what was read and the node in; the node after it, the line, and whether it goes on out. 01, The drill program.
use Rattle.std.specs.Prelude.{ℕ, suc, Bool, true, false, cond, List, [], ◌∷◌, ◌++◌, length, eqb}
use Rattle.wire.specs.Head.{kind_of, body_of}
use Rattle.controller.specs.Record.{outcomes}
use Rattle.controller.specs.Node.{Node, Started, state_of, started_with, answer_of}
use Rattle.drill.specs.Lines.{record_line, refused_line, question_line, settings_line}

-- What was read: nothing, as the input had ended; a cut record or one with a length outside 2 to 1,033; a whole record.
pub data Read : Type 0 where
  nothing : Read
  cut : Read
  whole : List ℕ → Read

-- The node after a step, the line that it gives (none is no byte), and whether the drill goes on.
pub record Step : Type 0 where
  pub node : Node
  pub line : List ℕ
  pub more : Bool

abbrev pub goes_on : Node → List ℕ → Step
goes_on n text = record { node = n; line = text; more = true }

abbrev pub ends : Node → List ℕ → Step
ends n text = record { node = n; line = text; more = false }

-- "Its output room always suffices": 1,000 reports of 7 bytes.
abbrev pub room : ℕ
room = 7000

-- "Kind 40 (address) is its own question."
abbrev pub question : ℕ
question = 40

-- One whole record: a question leaves the node as it is, "any other record" is the controller's.
unfoldable pub stepped : ℕ → Node → List ℕ → Step
unfolding question_line record_line outcomes
stepped k n b =
    cond (eqb (kind_of b) question)
    (goes_on n (question_line k (state_of n) (body_of b)))
    (let a = answer_of n (outcomes (state_of n) b room) in goes_on a.node (record_line k a))

-- "A cut record or a length outside 2 to 1,033 gives number and 2, and the end"; "Input that stops between records ends with no line."
unfoldable pub turned : ℕ → Node → Read → Step
unfolding stepped refused_line
turned k n nothing = ends n []
turned k n cut = ends n (refused_line k 2)
turned k n (whole b) = stepped k n b

-- Settings that are taken give no line; "Refused settings give the word settings, the number, and the end."
unfoldable pub begun_with : Started → Step
unfolding settings_line
begun_with s = cond (eqb s.result 0) (goes_on s.node []) (ends s.node (settings_line s.result))

-- "in the settings, or with empty input, settings and 2": the node, of which nothing more is asked, is that of a start that was refused.
unfoldable pub begun : Read → Step
unfolding begun_with started_with
begun nothing = ends (started_with []).node (settings_line 2)
begun cut = ends (started_with []).node (settings_line 2)
begun (whole b) = begun_with (started_with b)

-- What a run of reads gives from a node on, the first of them numbered k.
unfoldable pub told : ℕ → Node → List Read → List ℕ
unfolding turned
told k n [] = []
told k n (w ∷ l) =
    let s = turned k n w in
    s.line ++ cond s.more (told (suc k) s.node l) []

-- "It reads settings, then records": the whole text, "number from 1".
unfoldable pub drilled : List Read → List ℕ
unfolding begun told
drilled [] = []
drilled (w ∷ l) =
    let s = begun w in
    s.line ++ cond s.more (told 1 s.node l) []

-- The step that the latest of some reads gives, the latest first: each starts from the node that the one before left, and has the next number.
unfoldable pub passed : Node → List Read → Step
unfolding turned
passed n [] = goes_on n []
passed n (w ∷ l) = turned (suc (length l)) (passed n l).node w

-- The lines of those steps, and the reads in the order in which they were made, before others.
unfoldable pub lines_of : Node → List Read → List ℕ
unfolding passed
lines_of n [] = []
lines_of n (w ∷ l) = lines_of n l ++ (passed n (w ∷ l)).line

unfoldable pub in_order : List Read → List Read → List Read
in_order [] m = m
in_order (w ∷ l) m = in_order l (w ∷ m)
