-- A node, and what its calls answer.
use Rattle.std.specs.Prelude.{ℕ, ◌/◌, cond, Result, Ok, Err, List, length}
use Rattle.std.specs.Prelude.{Option as Maybe, Some, None}
use Rattle.std.proofs.Math.Option.{Option, none, some}
use Rattle.wire.specs.declared.results.Refusal.{Refusal}
use Rattle.wire.specs.declared.results.Taken.TheVariants.{Stored}
use Rattle.wire.specs.Results.{refusal_number, taken_number}
use Rattle.settings.specs.declared.choice.Settings.{Settings}
use Rattle.settings.specs.Reading.{settings_in}
use Rattle.spans.specs.Requests.{request}
use Rattle.blocks.specs.declared.attributes.Attributes.{Attributes}
use Rattle.stations.specs.Stations.{attributes_of}
use Rattle.ways.specs.declared.choice.Reply.{Reply}
use Rattle.ways.specs.declared.choice.Steering.{Steering}
use Rattle.ways.specs.Choice.{way_to, steering_to}
pub use Rattle.controller.specs.State.{Node, choice_of}
use Rattle.controller.specs.State.{State, started}
use Rattle.controller.specs.Record.{Outcome}
pub use Rattle.controller.specs.declared.record.Returned.{Returned}

-- What start and a record leave, and answer.
pub record Started : Type 0 where
  pub node : Node
  pub result : ℕ

pub record Answer : Type 0 where
  pub node : Node
  pub result : ℕ
  pub reports : ℕ

-- 01: "Whenever an answer is an enum, a definition gives this paper's number and values for each of the enum's cases."
abbrev pub start_number : Result (Unit {0}) Refusal → ℕ
start_number (Ok u) = 0
start_number (Err r) = refusal_number r

abbrev pub started_in : Node → Result (Unit {0}) Refusal → Started
started_in n r = record { node = n; result = start_number r }

-- A tick that writes so many reports.
abbrev pub returned : ℕ → Result Returned Refusal
returned reports = Ok (record { reports = reports; taken = Stored })

abbrev pub answer_in : Node → Result Returned Refusal → Answer
answer_in n (Ok r) = record { node = n; result = taken_number r.taken; reports = r.reports }
answer_in n (Err r) = record { node = n; result = refusal_number r; reports = 0 }

abbrev pub settings_of : Node → Settings
settings_of n = n.settings

-- What the rules see of a node.
abbrev pub state_of : Node → State
state_of n = record { choice = choice_of n.settings; spans = n.spans; stations = n.stations; pacer = n.pacer }

-- The node of these settings in a state.
abbrev pub node_of : Settings → State → Node
node_of c s = record { settings = c; spans = s.spans; stations = s.stations; pacer = s.pacer }

abbrev pub node_in : Node → State → Node
node_in n s = node_of (settings_of n) s

-- "Start gives 0, 2, 3 or 4; refused, its state is that of the default settings with address zero."
unfoldable pub started_with : List ℕ → Started
unfolding started
started_with b = record {
  node = node_of (settings_in b).settings (started (choice_of (settings_in b).settings));
  result = (settings_in b).result;
}

-- 02, Item 4: the reports, "with their number beside the result". Each has 7 bytes.
abbrev pub reports_in : List ℕ → ℕ
reports_in written = length written / 7

abbrev pub answer_of : Node → Outcome → Answer
answer_of n o = record { node = node_in n o.state; result = o.result; reports = reports_in o.report }

-- The span requests.
unfoldable pub west_request : State → ℕ
unfolding request
west_request s = request s.choice.ticks s.spans.west

unfoldable pub east_request : State → ℕ
unfolding request
east_request s = request s.choice.ticks s.spans.east

-- "3 not in the table (so too for the own address or an odd one, here and below)": they are never in it. Any number may be asked.
unfoldable pub steered : State → ℕ → Reply
unfolding way_to west_request east_request
steered s a = way_to (west_request s) (east_request s) s.stations a

-- 02, Item 5: the same reply, and of the way chosen its hops, its worst request and the first span that has it.
unfoldable pub steering : State → ℕ → Steering
unfolding steering_to west_request east_request
steering s a = steering_to (west_request s) (east_request s) s.stations a

-- "Attributes asked for: 0 with values, 1 behind with the type, 3 not in the table; fields not used are 0."
pub record Shown : Type 0 where
  pub kind : ℕ
  pub reserved0 : ℕ
  pub reserved1 : ℕ
  pub weight0 : ℕ
  pub weight1 : ℕ
  pub reply : ℕ

abbrev pub shown : Option Attributes → Shown
shown none = record { reply = 3; kind = 0; weight0 = 0; weight1 = 0; reserved0 = 0; reserved1 = 0 }
shown (some x) = record {
  reply = cond x.behind 1 0;
  kind = x.kind;
  weight0 = x.weight0;
  weight1 = x.weight1;
  reserved0 = x.reserved0;
  reserved1 = x.reserved1;
}

unfoldable pub asked : State → ℕ → Shown
unfolding attributes_of
asked s a = shown (attributes_of a s.stations)

-- What the program answers.
abbrev pub shown_as : Maybe Attributes → Shown
shown_as None = shown none
shown_as (Some x) = shown (some x)
