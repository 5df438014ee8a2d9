-- Histories. A list of calls stands with the latest call first, so that its tail is the history before that call. Each call of a history is one event: where a record of many ticks
-- was taken, the history has as many ticks.
use Rattle.std.specs.Prelude.{ℕ, ◌≡◌, cond, List, [], ◌∷◌, ◌++◌, length, replicate}
use Rattle.wire.specs.Fields.{Bytes}
use Rattle.wire.specs.Head.{body_of}
use Rattle.wire.specs.Report.{over}
use Rattle.settings.specs.Reading.{settings_in}
use Rattle.ways.specs.Choice.{numbers}
use Rattle.controller.specs.State.{State, started}
use Rattle.controller.specs.Reading.{count_in, many_ticks}
use Rattle.controller.specs.Record.{Outcome, outcome, outcomes}
use Rattle.controller.specs.Node.{Node, Started, Answer, choice_of, state_of, node_of, reports_in, west_request, east_request, steering, asked}
use Rattle.controller.specs.Kept.{Kept}
use Rattle.controller.specs.Promise.{Recorded}

-- A call to the rules: the bytes of a record, and the room for its reports.
pub record Call : Type 0 where
  pub bytes : List ℕ
  pub room : ℕ

-- What a state has become after a history.
unfoldable pub after : State → List Call → State
unfolding outcome
after s [] = s
after s (c ∷ h) = (outcome (after s h) c.bytes c.room).state

-- What the call c is answered after a history, if it is one event.
abbrev pub answered : State → List Call → Call → Outcome
answered s h c = outcome (after s h) c.bytes c.room

-- 02, Item 4: "Demands 2 and 3 read n ticks for it": a record of kind 7 that is taken is read as n records of kind 1 with the same room, any other call as it is.
abbrev pub tick_with : ℕ → Call
tick_with room = record { bytes = 2 ∷ 0 ∷ 1 ∷ 0 ∷ []; room = room }

unfoldable pub spelled : Call → List Call
unfolding many_ticks
spelled c = cond (many_ticks c.bytes c.room) (replicate (count_in (body_of c.bytes)) (tick_with c.room)) (c ∷ [])

-- The history that calls make.
unfoldable pub spelled_out : List Call → List Call
unfolding spelled
spelled_out [] = []
spelled_out (c ∷ h) = spelled c ++ spelled_out h

-- The same without reading ticks for anything: what a state has become after calls, each with all that it does; and what the next call is answered.
unfoldable pub after_all : State → List Call → State
unfolding outcomes
after_all s [] = s
after_all s (c ∷ h) = (outcomes (after_all s h) c.bytes c.room).state

abbrev pub answered_all : State → List Call → Call → Outcome
answered_all s h c = outcomes (after_all s h) c.bytes c.room

-- Something holds at every point of a history.
unfoldable pub Always : {A : Type 0} → (List A → Type 0) → List A → Type 0
Always P [] = P []
Always P (c ∷ h) = P (c ∷ h) × Always P h

-- The state of the rules at the start, from the bytes of a settings record.
unfoldable pub start_of : List ℕ → State
unfolding started settings_in
start_of b = started (choice_of (settings_in b).settings)

-- Every record of a history is of bytes, as every slice is.
unfoldable pub AllBytes : List Call → Type 0
AllBytes [] = Unit {0}
AllBytes (c ∷ h) = Bytes c.bytes × AllBytes h

-- A call as a program made it: the record, the buffer's content before and after, the answer.
pub record Made : Type 0 where
  pub bytes : List ℕ
  pub old : List ℕ
  pub new : List ℕ
  pub answer : Answer

abbrev pub call_of : Made → Call
call_of m = record { bytes = m.bytes; room = length m.old }

-- The calls as they were made, and the history that they make.
unfoldable pub made_of : List Made → List Call
made_of [] = []
made_of (m ∷ h) = call_of m ∷ made_of h

unfoldable pub calls_of : List Made → List Call
unfolding made_of spelled_out
calls_of h = spelled_out (made_of h)

-- The node that the next call is handed: the one that start gave, or the latest call.
abbrev pub node_after : Started → List Made → Node
node_after b [] = b.node
node_after b (m ∷ h) = m.answer.node

-- Each call met its contract: handed a node that is kept, it promises all of `Recorded`.
unfoldable pub Met : Started → List Made → Type 0
Met b [] = Unit {0}
Met b (m ∷ h) = (Kept (node_after b h) → Recorded (node_after b h) m.bytes m.old m.new m.answer) × Met b h

-- A node is the one of the rules: that of its settings in the state s, with all that it shows.
pub record Ruled (b : List ℕ) (n : Node) (s : State) : Type 0 where
  pub is : n ≡ node_of (settings_in b).settings s
  pub kept : Kept n
  pub west : west_request (state_of n) ≡ west_request s
  pub east : east_request (state_of n) ≡ east_request s
  pub stations : (state_of n).stations ≡ s.stations
  pub sequence : (state_of n).pacer.sequence ≡ s.pacer.sequence
  pub ways : (a : ℕ) → numbers (steering (state_of n) a) ≡ numbers (steering s a)
  pub attributes : (a : ℕ) → asked (state_of n) a ≡ asked s a

-- A call was answered as the rules answer it: the result, the number of reports, and the whole buffer.
pub record AnsweredAs (m : Made) (o : Outcome) : Type 0 where
  pub result : m.answer.result ≡ o.result
  pub written : m.answer.reports ≡ reports_in o.report
  pub content : m.new ≡ over o.report m.old
