-- After the start and after every call there is nothing left to purge. Assumes nothing.
use Prim.Native.Nat.{ℕ}
use mathlib.Core.Path.{◌≡◌, refl, ◌∙◌, ap}
use mathlib.Core.Bool.{Bool, true, false, cond}
use mathlib.Core.List.{List, [], ◌∷◌}
use lib.Dec.{eqb}
use Rattle.settings.specs.declared.choice.Ticks.{Ticks}
use Rattle.spans.specs.Requests.{down}
use Rattle.stations.specs.declared.station.Station.{Station}
use Rattle.stations.specs.Station.{placed_somewhere, with_hops, with_hop}
use Rattle.stations.specs.Stations.{sifted, unpurged, purged}
use Rattle.stations.specs.Hearing.{Placed}
use Rattle.stations.proofs.Lists.{chosen}
use Rattle.stations.proofs.Sifting.{sifted-all, sifted_same}
use Rattle.controller.specs.Reading.{Reading}
use Rattle.controller.specs.Reading.{block_of, reading}
use Rattle.controller.specs.State.{Choice, State, started}
use Rattle.controller.specs.declared.sides.Spans.{Spans}
use Rattle.controller.specs.Handling.{acted, judged}
use Rattle.controller.specs.Closing.{settled, purged_if, swept, is_tick}
use Rattle.controller.specs.Record.{Outcome, refusal, refuses, closed, outcome_of, outcome}
use Rattle.promises.specs.History.{Call, after}
use Rattle.promises.specs.Spans.{Swept}

-- A hop that was taken away is not there to be taken away.
cleared_twice : (ringlet : ℕ) (s : Station) → with_hop ringlet 0 (with_hop ringlet 0 s) ≡ with_hop ringlet 0 s
cleared_twice ringlet s = go (eqb ringlet 0)
  where
    clear : Bool → Station → Station
    clear b x = with_hops (cond b 0 x.hop0) (cond b x.hop1 0) x

    go : (b : Bool) → clear b (clear b s) ≡ clear b s
    go true = refl
    go false = refl

purged_twice : (ringlet : ℕ) (l : List Station) → purged ringlet (purged ringlet l) ≡ purged ringlet l
unfolding purged
purged_twice ringlet l =
    sifted_same (unpurged ringlet) (with_hop ringlet 0) (purged ringlet l)
    (sifted-all (unpurged ringlet) (with_hop ringlet 0)
    (λ (s : Station). (unpurged ringlet s ≡ true) × (with_hop ringlet 0 s ≡ s))
    (λ s stays. (ap placed_somewhere (cleared_twice ringlet s) ∙ stays, cleared_twice ringlet s)) l)

-- With both spans down nobody is left.
none_left : (l : List Station) → purged 1 (purged 0 l) ≡ []
unfolding purged sifted
none_left [] = refl
none_left (s ∷ l) = chosen (λ (m : List Station). purged 1 m ≡ []) (unpurged 0 s) (λ h. none_left l) (λ h. none_left l)

swept_twice : (t : Ticks) (x : Spans) (l : List Station) → swept t x (swept t x l) ≡ swept t x l
unfolding swept purged
swept_twice t x l = go (down t x.west) (down t x.east)
  where
    sweep : Bool → Bool → List Station → List Station
    sweep w e m = purged_if e 1 (purged_if w 0 m)

    go : (w e : Bool) → sweep w e (sweep w e l) ≡ sweep w e l
    go true true = rw (none_left l) refl
    go true false = purged_twice 0 l
    go false true = purged_twice 1 l
    go false false = refl

-- Of nobody, nobody leaves.
pub swept_none : (t : Ticks) (x : Spans) → swept t x [] ≡ []
unfolding swept purged sifted
swept_none t x = go (down t x.west) (down t x.east)
  where
    go : (w e : Bool) → purged_if e 1 (purged_if w 0 []) ≡ []
    go true true = refl
    go true false = refl
    go false true = refl
    go false false = refl

pub started-swept : (c : Choice) → Swept (started c)
unfolding started
started-swept c = swept_none c.ticks (started c).spans

call-swept : (r : Reading) (b : List ℕ) (s : State) → Swept s → Swept (outcome_of r b s).state
unfolding outcome_of closed
call-swept r b s h = go (refusal j.result)
  where
    x : Spans
    x = acted s.choice.ticks r s.spans

    j : Placed
    j = judged s.choice r b x s.stations

    go : (z : Bool) → Swept (cond {A = Outcome} z (refuses j.result s) (closed s (is_tick r) x j)).state
    go true = h
    go false = swept_twice s.choice.ticks (settled s.choice.ticks s.spans x) j.stations

pub after-swept : (s : State) → Swept s → (h : List Call) → Swept (after s h)
unfolding after outcome
after-swept s k [] = k
after-swept s k (c ∷ h) =
    call-swept (reading (after s h).choice.address c.bytes c.room) (block_of c.bytes) (after s h) (after-swept s k h)
