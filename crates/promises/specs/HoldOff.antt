-- What a link tells while its status is held off, on the history. 02, Item 2.
use Rattle.std.specs.Prelude.{ℕ, ◌<◌, ◌≤◌, ◌≡◌, Bool, false, cond, ◌&&◌, List, [], ◌∷◌, ◌++◌, eqb, leb}
use Rattle.settings.specs.Kept.{TicksKept}
use Rattle.spans.specs.declared.span.Span.{Span}
use Rattle.controller.specs.Reading.{Reading}
use Rattle.controller.specs.Reading.{Refused, Tick, Link, Keepalive, Operator, Heard, Block}
use Rattle.controller.specs.Reading.{reading}
use Rattle.controller.specs.State.{Choice, State, started}
use Rattle.promises.specs.History.{Call, AllBytes}
use Rattle.promises.specs.Spans.{read_as, some_taken, ticks_taken}

-- A link record of span n with a status as good as f, or better.
abbrev pub is_as_good : ℕ → ℕ → Reading → Bool
is_as_good n f (Refused k) = false
is_as_good n f Tick = false
is_as_good n f (Link m status) = eqb m n && leb status f
is_as_good n f (Keepalive m) = false
is_as_good n f (Operator m request) = false
is_as_good n f (Heard m p) = false
is_as_good n f (Block m a) = false

abbrev pub as_good_taken : ℕ → ℕ → ℕ → List Call → Bool
as_good_taken own n f = some_taken own (is_as_good n f)

-- The status of span n that a record tells, x before it ..
abbrev pub told_by : ℕ → Reading → ℕ → ℕ
told_by n (Refused k) x = x
told_by n Tick x = x
told_by n (Link m status) x = cond (eqb m n) status x
told_by n (Keepalive m) x = x
told_by n (Operator m request) x = x
told_by n (Heard m p) x = x
told_by n (Block m a) x = x

-- .. and that a history tells latest.
unfoldable pub status_told : ℕ → ℕ → ℕ → List Call → ℕ
unfolding reading
status_told own n x [] = x
status_told own n x (c ∷ h) = told_by n (read_as own c) (status_told own n x h)

-- Whatever a link does, if it never tells a status as good as the one in force, then within the hold-off time of its first worse status one worse than that is in force: f is in force
-- after the calls g, the call d tells a worse status, and the calls h follow. Said of any rule, by the span n that it leaves after a history.
abbrev pub SwitchesInTime : (ℕ → State → List Call → Span) → Type 0
SwitchesInTime span_at =
    (c : Choice) → TicksKept c.ticks → (n : ℕ) → n ≤ 1 → (g : List Call) → AllBytes g → (d : Call) (x : ℕ) → read_as c.address d ≡ Link n x
    → let f = (span_at n (started c) g).force in
    f < x → (h : List Call) → as_good_taken c.address n f h ≡ false → c.ticks.holdoff ≤ ticks_taken c.address h
    → f < (span_at n (started c) (h ++ (d ∷ g))).force
