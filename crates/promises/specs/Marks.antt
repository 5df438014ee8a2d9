-- "20 wrong ringlet; only the cable mark may change", and 21 and 22 "likewise" (23 went with 02, Item 6): of the handler; the closing steps stand apart. 01, Stations and Numbers returned.
use Rattle.std.specs.Prelude.{ℕ, ◌≡◌, Bool, false, not, cond, List, eqb}
use Rattle.spans.specs.Records.{marked}
use Rattle.stations.specs.declared.station.Report.{Report}
use Rattle.controller.specs.Reading.{Reading}
use Rattle.controller.specs.Reading.{Refused, Tick, Link, Keepalive, Operator, Heard, Block}
use Rattle.controller.specs.State.{State, span_of, with_span}
use Rattle.controller.specs.declared.sides.Spans.{Spans}
use Rattle.controller.specs.Handling.{acted, gives, judged}
use Rattle.controller.specs.Record.{closed, outcome_of}

-- The spans with another cable mark on span n, and nothing else changed.
abbrev pub marked_on : ℕ → Bool → Spans → Spans
marked_on n mark x = with_span n (marked mark (span_of n x)) x

-- The mark that a report leaves: (a) "if the hop is 1, (..) "ringlet differs from span"", else the one that was.
abbrev pub mark_after : ℕ → Report → Spans → Bool
mark_after n p x = cond (eqb p.hop 1) (not (eqb p.ringlet n)) (span_of n x).cable

-- The handler of a record that was read as r leaves the spans x, the stations as they were, and the result k; and the outcome is the closing steps of exactly that.
pub record HandlerLeaves (s : State) (r : Reading) (b : List ℕ) (k : ℕ) (x : Spans) : Type 0 where
  pub spans : acted s.choice.ticks r s.spans ≡ x
  pub stations : judged s.choice r b x s.stations ≡ gives k s.stations
  pub closes : outcome_of r b s ≡ closed s false x (gives k s.stations)

-- What a result k from 20 to 22 says of the record r: it is a report, and only the mark of its span may change; or a block, with 21, and nothing changes.
abbrev pub OnlyMark : State → List ℕ → ℕ → Reading → Type 0
OnlyMark s b k (Refused i) = ⊥
OnlyMark s b k Tick = ⊥
OnlyMark s b k (Link n status) = ⊥
OnlyMark s b k (Keepalive n) = ⊥
OnlyMark s b k (Operator n request) = ⊥
OnlyMark s b k (Heard n p) = HandlerLeaves s (Heard n p) b k (marked_on n (mark_after n p s.spans) s.spans)
OnlyMark s b k (Block n a) = (k ≡ 21) × HandlerLeaves s (Block n a) b 21 s.spans
