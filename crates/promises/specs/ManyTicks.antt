-- A record of many ticks beside as many records of one tick, as a program takes them. 02, Item 4.
use Rattle.std.specs.Prelude.{ℕ, ◌+◌, ◌*◌, ◌≡◌, List, [], ◌∷◌, ◌++◌, take}
use Rattle.wire.specs.Report.{over}
use Rattle.controller.specs.State.{State}
use Rattle.controller.specs.Node.{Node, Started}
use Rattle.promises.specs.History.{Call, answered_all, Made, node_after}

-- What calls write, one after another, by the rules: the latest call stands first, its reports last.
unfoldable pub told_all : State → List Call → List ℕ
told_all s [] = []
told_all s (c ∷ h) = told_all s h ++ (answered_all s h c).report

-- The reports that a call left at the front of its buffer; those of calls, one after another; and their number.
abbrev pub reports_left : Made → List ℕ
reports_left m = take (7 * m.answer.reports) m.new

unfoldable pub all_reports : List Made → List ℕ
all_reports [] = []
all_reports (m ∷ h) = all_reports h ++ reports_left m

unfoldable pub all_numbers : List Made → ℕ
all_numbers [] = 0
all_numbers (m ∷ h) = all_numbers h + m.answer.reports

-- A node, as calls begin with one.
abbrev pub from : Node → Started
from n = record { node = n; result = 0 }

-- The call m leaves what the calls h leave that were made of the same node: the node, the number of reports, and the reports over the front of its buffer.
pub record SameAs (n : Node) (m : Made) (h : List Made) : Type 0 where
  pub result : m.answer.result ≡ 0
  pub node : m.answer.node ≡ node_after (from n) h
  pub number : m.answer.reports ≡ all_numbers h
  pub content : m.new ≡ over (all_reports h) m.old
