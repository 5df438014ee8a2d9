-- No record sees an operator request: whatever the request of a span was, a record leaves the same of all else, in the spans and in the stations. Assumes nothing.
use Prim.Native.Nat.{ℕ}
use mathlib.Core.Path.{◌≡◌, refl, sym, ◌∙◌, ap}
use mathlib.Core.Bool.{Bool, true, false, not, cond}
use mathlib.Core.List.{List}
use lib.Dec.{eqb}
use Rattle.settings.specs.declared.choice.Ticks.{Ticks}
use Rattle.spans.specs.declared.span.Span.{Span}
use Rattle.spans.specs.Codes.{none}
use Rattle.spans.specs.Records.{linked, ticked, alive, asked, marked}
use Rattle.spans.specs.Requests.{automatic, down, waited}
use Rattle.spans.proofs.Beneath.{waited-asked, linked-asked}
use Rattle.stations.specs.declared.station.Station.{Station}
use Rattle.stations.specs.Hearing.{Placed}
use Rattle.controller.specs.Reading.{Reading}
use Rattle.controller.specs.Reading.{Refused, Tick, Link, Keepalive, Operator, Heard, Block}
use Rattle.controller.specs.State.{Choice, State, span_of, with_span}
use Rattle.controller.specs.declared.sides.Spans.{Spans}
use Rattle.controller.specs.Handling.{cabled, acted, hearing, learning, judged}
use Rattle.controller.specs.Closing.{settled, swept, is_tick}
use Rattle.controller.specs.Record.{Outcome, refusal, refuses, closed, outcome_of}
use Rattle.controller.proofs.Holding.{outcome_of_choice}
use Rattle.controller.proofs.Settling.{settled-none}
use Rattle.promises.specs.Spans.{Swept, asked_on, SameBeneath}
use Rattle.promises.proofs.Spans.OneRecord.{spans_of_lem}

-- A side of the two: true is west. The span there, the spans with another in its place, and with no operator request on it.
abbrev pub at : Bool → Spans → Span
at a x = cond a x.west x.east

abbrev pub put : Bool → Span → Spans → Spans
put a u x = record { west = cond a u x.west; east = cond a x.east u }

abbrev pub bare : Bool → Spans → Spans
bare a x = put a (asked none (at a x)) x

pub bare_twice : (a : Bool) (x : Spans) → bare a (bare a x) ≡ bare a x
bare_twice true x = refl
bare_twice false x = refl

-- A step of one span that does not see the operator request.
one : (f : Span → Span) → ((s : Span) → asked none (f (asked none s)) ≡ asked none (f s)) → (a b : Bool) (x : Spans)
    → bare a (put b (f (at b (bare a x))) (bare a x)) ≡ bare a (put b (f (at b x)) x)
one f blind true true x = λ i. record { west = blind x.west i; east = x.east }
one f blind true false x = refl
one f blind false true x = refl
one f blind false false x = λ i. record { west = x.west; east = blind x.east i }

ticked-bare : (t : Ticks) (a : Bool) (x : Spans) → bare a (acted t Tick (bare a x)) ≡ bare a (acted t Tick x)
unfolding acted ticked
ticked-bare t true x = refl
ticked-bare t false x = refl

module _ (t : Ticks) where
  -- What a record's handler makes of the spans, but for one operator request, does not depend on it.
  acted-bare : (r : Reading) (a : Bool) (x : Spans) → bare a (acted t r (bare a x)) ≡ bare a (acted t r x)
  unfolding acted cabled
  acted-bare (Refused k) a x = bare_twice a x
  acted-bare Tick a x = ticked-bare t a x
  acted-bare (Link m status) a x = one (linked t status) (λ s. ap (asked none) (linked-asked t none status s)) a (eqb m 0) x
  acted-bare (Keepalive m) a x = one alive (λ s. refl) a (eqb m 0) x
  acted-bare (Operator m request) a x = one (asked request) (λ s. refl) a (eqb m 0) x
  acted-bare (Heard m p) a x = go (eqb p.hop 1)
    where
      mark : Spans → Spans
      mark y = with_span m (marked (not (eqb p.ringlet m)) (span_of m y)) y

      go : (b : Bool) → bare a (cond b (mark (bare a x)) (bare a x)) ≡ bare a (cond b (mark x) x)
      go true = one (marked (not (eqb p.ringlet m))) (λ s. refl) a (eqb m 0) x
      go false = bare_twice a x
  acted-bare (Block m i) a x = bare_twice a x

  -- Automatic requests do not depend on it at all ..
  automatic-bare : (a b : Bool) (x : Spans) → automatic t (at b (bare a x)) ≡ automatic t (at b x)
  unfolding automatic
  automatic-bare true true x = refl
  automatic-bare true false x = refl
  automatic-bare false true x = refl
  automatic-bare false false x = refl

  down-bare : (a b : Bool) (x : Spans) → down t (at b (bare a x)) ≡ down t (at b x)
  unfolding down
  down-bare a b x = rw (automatic-bare a b x)

  -- .. so neither does the WTR step ..
  settled-bare : (a : Bool) (x y : Spans) → settled t (bare a x) y ≡ settled t x y
  unfolding settled
  settled-bare a x y = λ i. record {
    west = waited t (automatic-bare a true x i) y.west;
    east = waited t (automatic-bare a false x i) y.east;
  }

  pub bare-settled : (a : Bool) (x y : Spans) → settled t x (bare a y) ≡ bare a (settled t x y)
  unfolding settled
  bare-settled true x y = λ i. record {
    west = waited-asked t none (automatic t x.west) y.west i;
    east = waited t (automatic t x.east) y.east;
  }
  bare-settled false x y = λ i. record {
    west = waited t (automatic t x.west) y.west;
    east = waited-asked t none (automatic t x.east) y.east i;
  }

  -- .. nor the purge, nor what a handler makes of the stations.
  swept-bare : (a : Bool) (x : Spans) (l : List Station) → swept t (bare a x) l ≡ swept t x l
  unfolding swept
  swept-bare a x l = rw (down-bare a true x, down-bare a false x)

judged-bare : (c : Choice) (r : Reading) (b : List ℕ) (a : Bool) (x : Spans) (l : List Station) → judged c r b (bare a x) l ≡ judged c r b x l
unfolding judged hearing learning
judged-bare c (Refused k) b a x l = refl
judged-bare c Tick b a x l = refl
judged-bare c (Link m status) b a x l = refl
judged-bare c (Keepalive m) b a x l = refl
judged-bare c (Operator m request) b a x l = refl
judged-bare c (Heard m p) b a x l = rw (down-bare c.ticks a (eqb m 0) x)
judged-bare c (Block m i) b a x l = rw (down-bare c.ticks a (eqb m 0) x)

-- A whole record, closing steps and all.
module _ (c : Choice) (r : Reading) (b : List ℕ) where
  abbrev spans_left : Spans → Spans
  spans_left x = settled c.ticks x (acted c.ticks r x)

  abbrev placed_by : Spans → List Station → Placed
  placed_by x l = judged c r b (acted c.ticks r x) l

  abbrev stations_left : Spans → List Station → List Station
  stations_left x l = cond (refusal (placed_by x l).result) l (swept c.ticks (spans_left x) (placed_by x l).stations)

  spans-bare : (a : Bool) (x : Spans) → bare a (spans_left (bare a x)) ≡ bare a (spans_left x)
  spans-bare a x =
      ap (bare a) (settled-bare c.ticks a x (acted c.ticks r (bare a x)))
      ∙ sym (bare-settled c.ticks a x (acted c.ticks r (bare a x)))
      ∙ ap (settled c.ticks x) (acted-bare c.ticks r a x)
      ∙ bare-settled c.ticks a x (acted c.ticks r x)

  placed-bare : (a : Bool) (x : Spans) (l : List Station) → placed_by (bare a x) l ≡ placed_by x l
  placed-bare a x l =
      sym (judged-bare c r b a (acted c.ticks r (bare a x)) l)
      ∙ ap (λ (y : Spans). judged c r b y l) (acted-bare c.ticks r a x)
      ∙ judged-bare c r b a (acted c.ticks r x) l

  stations_bare : (a : Bool) (x : Spans) (l : List Station) → stations_left (bare a x) l ≡ stations_left x l
  stations_bare a x l =
      let j : Placed = placed_by x l in
      let sweep : swept c.ticks (spans_left (bare a x)) j.stations ≡ swept c.ticks (spans_left x) j.stations =
      sym (swept-bare c.ticks a (spans_left (bare a x)) j.stations)
      ∙ ap (λ (y : Spans). swept c.ticks y j.stations) (spans-bare a x)
      ∙ swept-bare c.ticks a (spans_left x) j.stations in
      ap (λ (q : Placed). cond (refusal q.result) l (swept c.ticks (spans_left (bare a x)) q.stations)) (placed-bare a x l)
      ∙ ap (cond (refusal j.result) l) sweep

stations_of : (s : State) (r : Reading) (b : List ℕ) → (outcome_of r b s).state.stations ≡ stations_left s.choice r b s.spans s.stations
unfolding outcome_of closed
stations_of s r b = go (refusal j.result)
  where
    x : Spans
    x = acted s.choice.ticks r s.spans

    j : Placed
    j = judged s.choice r b x s.stations

    go : (z : Bool) → (cond {A = Outcome} z (refuses j.result s) (closed s (is_tick r) x j)).state.stations
        ≡ cond z s.stations (swept s.choice.ticks (settled s.choice.ticks s.spans x) j.stations)
    go true = refl
    go false = refl

pub same_of : (n : ℕ) (r : Reading) (b : List ℕ) (s u : State) → SameBeneath n s u → SameBeneath n (outcome_of r b s).state (outcome_of r b u).state
same_of n r b s u e = record {
  choice = outcome_of_choice r b s ∙ e.choice ∙ sym (outcome_of_choice r b u);
  spans = ap (bare a) (spans_of_lem s b r) ∙ spans ∙ sym (ap (bare a) (spans_of_lem u b r));
  stations = stations_of s r b ∙ stations ∙ sym (stations_of u r b);
}
  where
    a : Bool
    a = eqb n 0

    spans : bare a (spans_left s.choice r b s.spans) ≡ bare a (spans_left u.choice r b u.spans)
    spans =
        sym (spans-bare s.choice r b a s.spans)
        ∙ (λ i. bare a (spans_left (e.choice i) r b (e.spans i)))
        ∙ spans-bare u.choice r b a u.spans

    stations : stations_left s.choice r b s.spans s.stations ≡ stations_left u.choice r b u.spans u.stations
    stations =
        sym (stations_bare s.choice r b a s.spans s.stations)
        ∙ (λ i. stations_left (e.choice i) r b (e.spans i) (e.stations i))
        ∙ stations_bare u.choice r b a u.spans u.stations

-- An operator record of the span leaves all else as it is, in a state that is purged.
asked-spans : (t : Ticks) (request : ℕ) (a : Bool) (x : Spans) → bare a (settled t x (put a (asked request (at a x)) x)) ≡ bare a x
asked-spans t request a x =
    sym (bare-settled t a x (put a (asked request (at a x)) x))
    ∙ ap (settled t x) (again a)
    ∙ bare-settled t a x x
    ∙ ap (bare a) (settled-none t x)
  where
    again : (b : Bool) → bare b (put b (asked request (at b x)) x) ≡ bare b x
    again true = refl
    again false = refl

pub operator_of : (n request : ℕ) (b : List ℕ) (s : State) → Swept s → SameBeneath n (outcome_of (Operator n request) b s).state s
unfolding acted judged
operator_of n request b s swept_is = record {
  choice = outcome_of_choice (Operator n request) b s;
  spans = ap (bare a) (spans_of_lem s b (Operator n request)) ∙ same;
  stations =
      stations_of s (Operator n request) b
      ∙ sym (swept-bare t a (settled t x (asked_on n request x)) s.stations)
      ∙ ap (λ (y : Spans). swept t y s.stations) same
      ∙ swept-bare t a x s.stations
      ∙ swept_is;
}
  where
    a : Bool
    a = eqb n 0

    t : Ticks
    t = s.choice.ticks

    x : Spans
    x = s.spans

    same : bare a (settled t x (asked_on n request x)) ≡ bare a x
    same = asked-spans t request a x
