-- What happens to a span over a history. Span n is west for 0 and east for 1; own is the node's address, on which the reading of a record depends.
use Rattle.std.specs.Prelude.{ℕ, suc, ◌≡◌, Bool, true, false, cond, ◌||◌, List, [], ◌∷◌, ◌++◌, eqb, ltb}
use Rattle.settings.specs.declared.choice.Ticks.{Ticks}
use Rattle.settings.specs.Ticks.{ticks_of}
use Rattle.settings.specs.Reading.{settings_in}
use Rattle.spans.specs.declared.span.Span.{Span}
use Rattle.spans.specs.Codes.{none}
use Rattle.spans.specs.Records.{asked}
use Rattle.spans.specs.Requests.{automatic, request}
use Rattle.controller.specs.Reading.{Reading}
use Rattle.controller.specs.Reading.{Refused, Tick, Link, Keepalive, Operator, Heard, Block}
use Rattle.controller.specs.Reading.{reading}
use Rattle.controller.specs.State.{State, span_of, with_span}
use Rattle.controller.specs.declared.sides.Spans.{Spans}
use Rattle.controller.specs.Closing.{is_tick, swept}
use Rattle.controller.specs.Node.{Started, state_of}
use Rattle.promises.specs.History.{Call, after, Made, node_after}

-- The own address, and the settings in ticks: of a state, and as the bytes of a settings record bring them.
abbrev pub own_in : State → ℕ
own_in s = s.choice.address

abbrev pub ticks_in : State → Ticks
ticks_in s = s.choice.ticks

abbrev pub own_from : List ℕ → ℕ
own_from b = (settings_in b).settings.address

abbrev pub ticks_from : List ℕ → Ticks
ticks_from b = ticks_of (settings_in b).settings

-- What the rules see of the node after the calls h.
abbrev pub seen : Started → List Made → State
seen st h = state_of (node_after st h)

-- What the record of a call says, or its refusal.
abbrev pub read_as : ℕ → Call → Reading
read_as own c = reading own c.bytes c.room

-- Link, keepalive and operator records leave the stations alone.
abbrev pub leaves_table : Reading → Bool
leaves_table (Refused k) = false
leaves_table Tick = false
leaves_table (Link n status) = true
leaves_table (Keepalive n) = true
leaves_table (Operator n request) = true
leaves_table (Heard n p) = false
leaves_table (Block n a) = false

-- A link record of span n.
abbrev pub is_link : ℕ → Reading → Bool
is_link n (Refused k) = false
is_link n Tick = false
is_link n (Link m status) = eqb m n
is_link n (Keepalive m) = false
is_link n (Operator m request) = false
is_link n (Heard m p) = false
is_link n (Block m a) = false

-- An operator record of span n.
abbrev pub is_operator : ℕ → Reading → Bool
is_operator n (Refused k) = false
is_operator n Tick = false
is_operator n (Link m status) = false
is_operator n (Keepalive m) = false
is_operator n (Operator m request) = eqb m n
is_operator n (Heard m p) = false
is_operator n (Block m a) = false

-- A keepalive record of span n.
abbrev pub is_keepalive : ℕ → Reading → Bool
is_keepalive n (Refused k) = false
is_keepalive n Tick = false
is_keepalive n (Link m status) = false
is_keepalive n (Keepalive m) = eqb m n
is_keepalive n (Operator m request) = false
is_keepalive n (Heard m p) = false
is_keepalive n (Block m a) = false

-- The ticks of a history that were taken. A record that was refused is none, whatever its kind.
unfoldable pub ticks_taken : ℕ → List Call → ℕ
unfolding reading
ticks_taken own [] = 0
ticks_taken own (c ∷ h) = cond (is_tick (read_as own c)) (suc (ticks_taken own h)) (ticks_taken own h)

-- The ticks that were taken since the latest keepalive record of span n; a of them before the history.
unfoldable pub ticks_quiet : ℕ → ℕ → ℕ → List Call → ℕ
unfolding reading
ticks_quiet own n a [] = a
ticks_quiet own n a (c ∷ h) =
    cond (is_keepalive n (read_as own c)) 0 (cond (is_tick (read_as own c)) (suc (ticks_quiet own n a h)) (ticks_quiet own n a h))

-- A count "up to the setting".
abbrev pub up_to : ℕ → ℕ → ℕ
up_to setting a = cond (ltb a setting) a setting

-- A record of some sort was taken: ..
unfoldable pub some_taken : ℕ → (Reading → Bool) → List Call → Bool
unfolding reading
some_taken own sort [] = false
some_taken own sort (c ∷ h) = sort (read_as own c) || some_taken own sort h

-- .. a link record of span n, ..
abbrev pub link_taken : ℕ → ℕ → List Call → Bool
link_taken own n = some_taken own (is_link n)

-- .. an operator record of it.
abbrev pub operator_taken : ℕ → ℕ → List Call → Bool
operator_taken own n = some_taken own (is_operator n)

-- A history without its operator records of span n.
unfoldable pub unasked : ℕ → ℕ → List Call → List Call
unfolding reading
unasked own n [] = []
unasked own n (c ∷ h) = cond (is_operator n (read_as own c)) (unasked own n h) (c ∷ unasked own n h)

-- The span n after a history; of a node, after the calls that were made of it.
abbrev pub span_after : ℕ → State → List Call → Span
span_after n s h = span_of n (after s h).spans

abbrev pub span_seen : ℕ → Started → List Made → Span
span_seen n st h = span_of n (seen st h).spans

-- The span request and the automatic request of span n.
abbrev pub request_on : ℕ → State → ℕ
request_on n s = request s.choice.ticks (span_of n s.spans)

abbrev pub automatic_on : ℕ → State → ℕ
automatic_on n s = automatic s.choice.ticks (span_of n s.spans)

-- Span n has no automatic request after the calls h that follow g; of the rules, and of a node.
abbrev pub Unrequested : ℕ → State → List Call → List Call → Type 0
Unrequested n s g h = automatic_on n (after s (h ++ g)) ≡ none

abbrev pub UnrequestedOn : ℕ → Started → List Made → List Made → Type 0
UnrequestedOn n st g h = automatic_on n (seen st (h ++ g)) ≡ none

-- The spans with the operator request of span n replaced.
abbrev pub asked_on : ℕ → ℕ → Spans → Spans
asked_on n request x = with_span n (asked request (span_of n x)) x

-- The purge of the closing steps finds nothing in a state: so it is at the start, and after every call.
abbrev pub Swept : State → Type 0
Swept s = swept s.choice.ticks s.spans s.stations ≡ s.stations

-- Two states that differ at most in the operator request of span n and in what was reported: all that goes on beneath the request is the same.
pub record SameBeneath (n : ℕ) (s u : State) : Type 0 where
  pub choice : s.choice ≡ u.choice
  pub spans : asked_on n none s.spans ≡ asked_on n none u.spans
  pub stations : s.stations ≡ u.stations
