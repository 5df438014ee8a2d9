-- What was last known of a station's requests, on the history, and the spans of a way.
use Rattle.std.specs.Prelude.{ℕ, zero, suc, ◌<◌, ◌≤◌, ◌≡◌, Bool, true, not, cond, ◌&&◌, List, [], ◌∷◌, eqb}
use Rattle.std.proofs.Math.Option.{Option, none, some}
use Rattle.spans.specs.Codes.{SF, higher}
use Rattle.stations.specs.declared.station.Station.{Station}
use Rattle.stations.specs.Stations.{present, sequence_of}
use Rattle.stations.specs.Hearing.{distance}
use Rattle.ways.specs.Walk.{Ends, near, far}
use Rattle.ways.specs.Choice.{hop_of}
use Rattle.ways.specs.declared.choice.Steering.{Steering}
use Rattle.controller.specs.Reading.{Reading}
use Rattle.controller.specs.Reading.{Refused, Tick, Link, Keepalive, Operator, Heard, Block}
use Rattle.controller.specs.Reading.{reading}
use Rattle.controller.specs.State.{State}
use Rattle.promises.specs.History.{Call, after, answered}

-- "Distance 0 is a copy": any other report that was taken is news. o is the sequence known before.
abbrev pub is_news : ℕ → Option ℕ → Bool
is_news heard none = true
is_news heard (some stored) = not (eqb (distance heard stored) 0)

-- The requests in a record that was read as r, if it is a report of the station a with news; l are the stations before it.
abbrev pub requests_heard : ℕ → Reading → List Station → Option Ends
requests_heard a (Refused n) l = none
requests_heard a Tick l = none
requests_heard a (Link n x) l = none
requests_heard a (Keepalive n) l = none
requests_heard a (Operator n x) l = none
requests_heard a (Heard n p) l =
    cond (eqb a p.address && is_news p.sequence (sequence_of p.address l)) (some (record { west = p.west; east = p.east })) none
requests_heard a (Block n x) l = none

abbrev pub fresher : Option Ends → Option Ends → Option Ends
fresher none o = o
fresher (some e) o = some e

-- The latest known requests of the station a: none where it is not in the table; those of the call, if it was taken and has some for it; else those before.
unfoldable pub said_now : Reading → ℕ → List Station → List Station → ℕ → Option Ends → Option Ends
unfolding present sequence_of
said_now r n before l a o = cond (present a l) (fresher (cond (eqb n 0) (requests_heard a r before) none) o) none

unfoldable pub said : State → List Call → ℕ → Option Ends
unfolding after said_now reading
said s [] a = none
said s (c ∷ h) a =
    said_now (reading (after s h).choice.address c.bytes c.room) (answered s h c).result (after s h).stations (after s (c ∷ h)).stations a
    (said s h a)

-- The station at a hop of a ringlet has last said e.
pub record StandsAt (told : ℕ → Option Ends) (ringlet h : ℕ) (l : List Station) (e : Ends) : Type 0 where
  pub address : ℕ
  pub at : hop_of ringlet address l ≡ h
  pub requests : told address ≡ some e

-- The span beyond hop j is left with the request x: the node's own on that side, or that of the station at hop j.
abbrev pub Leaves : (ℕ → Option Ends) → ℕ → ℕ → List Station → ℕ → ℕ → Type 0
Leaves told ringlet own l zero x = x ≡ own
Leaves told ringlet own l (suc j) x = (e : Ends) × StandsAt told ringlet (suc j) l e × (x ≡ far ringlet e)

-- .. and the next station is met at the request y.
abbrev pub Meets : (ℕ → Option Ends) → ℕ → List Station → ℕ → ℕ → Type 0
Meets told ringlet l j y = (e : Ends) × StandsAt told ringlet (suc j) l e × (y ≡ near ringlet e)

-- The request on the span beyond hop j is x, the higher of its two ends'.
pub record Requested (told : ℕ → Option Ends) (ringlet own : ℕ) (l : List Station) (j x : ℕ) : Type 0 where
  pub from : ℕ
  pub to : ℕ
  pub leaves : Leaves told ringlet own l j from
  pub meets : Meets told ringlet l j to
  pub is : x ≡ higher from to

-- What is told of a way that is answered: the station's hop there; a request that the span beyond `before` hops has, every span before it a lower one, and no span on the way a
-- higher one; and the number of that span, counted from 1.
pub record Points (told : ℕ → Option Ends) (ringlet own : ℕ) (l : List Station) (a : ℕ) (x : Steering) : Type 0 where
  pub hops : x.hops ≡ hop_of ringlet a l
  pub before : ℕ
  pub span : x.span ≡ suc before
  pub on_the_way : before < x.hops
  pub has : Requested told ringlet own l before x.worst
  pub lower : (j : ℕ) → j < before → (y : ℕ) × Requested told ringlet own l j y × (y < x.worst)
  pub highest : (j : ℕ) → j < x.hops → (y : ℕ) × Requested told ringlet own l j y × (y ≤ x.worst)

-- Neither end of the span beyond hop j requests SF or FS, the two codes from SF on.
pub record Clear (told : ℕ → Option Ends) (ringlet own : ℕ) (l : List Station) (j : ℕ) : Type 0 where
  pub from : ℕ
  pub to : ℕ
  pub leaves : Leaves told ringlet own l j from
  pub meets : Meets told ringlet l j to
  pub from_below : from < SF
  pub to_below : to < SF
