-- How long a station stays in the table that is not heard. 01, Stations: "A tick raises every age; a station whose age reaches the forget time leaves."
use Rattle.std.specs.Prelude.{ℕ, suc, ◌<◌, ◌≤◌, ◌≡◌, Bool, false, not, cond, ◌&&◌, List, [], ◌∷◌, eqb}
use Rattle.spans.specs.Requests.{down}
use Rattle.stations.specs.declared.station.Station.{Station}
use Rattle.stations.specs.Table.{Each}
use Rattle.controller.specs.Reading.{Reading}
use Rattle.controller.specs.Reading.{Refused, Tick, Link, Keepalive, Operator, Heard, Block}
use Rattle.controller.specs.Reading.{reading}
use Rattle.controller.specs.State.{State}
use Rattle.controller.specs.Closing.{is_tick}
use Rattle.controller.specs.Record.{outcome}
use Rattle.promises.specs.History.{Call, after, answered}
use Rattle.promises.specs.Spans.{own_in, ticks_in, read_as, span_after}

-- A report of the station a.
abbrev pub is_report_of : ℕ → Reading → Bool
is_report_of a (Refused k) = false
is_report_of a Tick = false
is_report_of a (Link n status) = false
is_report_of a (Keepalive n) = false
is_report_of a (Operator n request) = false
is_report_of a (Heard n p) = eqb p.address a
is_report_of a (Block n x) = false

-- A report on a ringlet that brings the station a to another hop, or another station to this one.
abbrev pub moves : ℕ → ℕ → ℕ → Reading → Bool
moves a ringlet hop (Refused k) = false
moves a ringlet hop Tick = false
moves a ringlet hop (Link n status) = false
moves a ringlet hop (Keepalive n) = false
moves a ringlet hop (Operator n request) = false
moves a ringlet hop (Heard n p) = eqb n ringlet && cond (eqb p.address a) (not (eqb p.hop hop)) (eqb p.hop hop)
moves a ringlet hop (Block n x) = false

-- The ticks that were taken since the latest report of a with result 0; k of them before the history.
unfoldable pub ticks_unheard : ℕ → State → ℕ → List Call → ℕ
unfolding after reading outcome
ticks_unheard a s k [] = k
ticks_unheard a s k (c ∷ h) =
    let r = read_as (own_in s) c in
    cond (is_report_of a r && eqb (answered s h c).result 0) 0 (cond (is_tick r) (suc (ticks_unheard a s k h)) (ticks_unheard a s k h))

-- The station a has this age, if it is in the table.
abbrev pub Aged : ℕ → ℕ → List Station → Type 0
Aged a k l = Each (λ (x : Station). x.address ≡ a → x.age ≡ k) l

-- So many ticks are enough for a station to be forgotten.
abbrev pub IsDue : State → ℕ → Type 0
IsDue s k = (ticks_in s).forget ≤ k

-- After the calls h it is not yet to be forgotten, and the span of its ringlet is not down.
pub record InTime (a ringlet : ℕ) (s : State) (k : ℕ) (h : List Call) : Type 0 where
  pub heard : ticks_unheard a s k h < (ticks_in s).forget
  pub up : down (ticks_in s) (span_after ringlet s h) ≡ false

-- "a slow interval of ten seconds": after the calls h its latest report with result 0 is no longer ago, and the span of its ringlet is not down.
pub record TenSeconds (a ringlet : ℕ) (s : State) (k : ℕ) (h : List Call) : Type 0 where
  pub heard : ticks_unheard a s k h ≤ 10000
  pub up : down (ticks_in s) (span_after ringlet s h) ≡ false
