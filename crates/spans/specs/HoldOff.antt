-- A status that is held off. 01, Span requests; 02, Item 2.
use Rattle.std.specs.Prelude.{◌≡◌, false, cond, ℕ, ◌-◌, ◌<◌, ltb}
use Rattle.settings.specs.declared.choice.Ticks.{Ticks}
use Rattle.spans.specs.Codes.{none}
use Rattle.spans.specs.Records.{Span}

-- A span k ticks after its hold-off began, with the status f in force then and the status x stored, which is worse: f is in force while k is below the
-- setting, and from then on x.
pub record HeldOff (t : Ticks) (f x k : ℕ) (s : Span) : Type 0 where
  pub stored : s.stored ≡ x
  pub force : s.force ≡ cond (ltb k t.holdoff) f x
  pub left : s.holdoff ≡ t.holdoff - k

-- Nothing but the link status bears on the automatic request: "keepalives coming", and the cable mark clear.
pub record LinkAlone (t : Ticks) (s : Span) : Type 0 where
  pub alive : s.age < t.keepalive
  pub unmarked : s.cable ≡ false

-- .. nor on the span request: the operator asks for nothing, and no WTR runs.
pub record LinkDecides (t : Ticks) (s : Span) : Type 0 where
  pub alone : LinkAlone t s
  pub unasked : s.operator ≡ none
  pub unwaited : s.wtr ≡ 0
