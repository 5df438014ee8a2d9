-- The age of a station is the ticks since its latest report with result 0, over every history; so it is forgotten in time. Assumes nothing.
use Prim.Native.Nat.{ℕ, suc}
use mathlib.Core.Path.{◌≡◌, refl, sym, ap, subst, ◌∙◌}
use mathlib.Core.Bool.{Bool, true, false, cond, ◌&&◌}
use mathlib.Core.List.{List, [], ◌∷◌}
use mathlib.Core.Option.{none}
use native.Mathlib.Omega.{arith}
use lib.Dec.{eqb}
use borrow.Author.Tests.{eqb-true, eqb-false}
use Rattle.settings.specs.declared.choice.Ticks.{Ticks}
use Rattle.spans.specs.Requests.{down}
use Rattle.blocks.specs.Meaning.{Meaning, malformed, aside, shows, meaning}
use Rattle.blocks.specs.Attributes.{attributes_from}
use Rattle.stations.specs.declared.station.Station.{Station}
use Rattle.stations.specs.declared.station.Report.{Report}
use Rattle.stations.specs.Station.{older, with_hop, with_attributes, newcomer}
use Rattle.stations.specs.Stations.{young, aged, unpurged, purged, other_at, undisplaced, losing, displaced, renewed, inserted, given, present, sequence_of}
use Rattle.stations.specs.Hearing.{Placed, distance, heard_again}
use Rattle.stations.proofs.Lists.{chosen, each_map}
use Rattle.stations.proofs.Sifting.{sifted_each}
use Rattle.stations.proofs.Renewing.{renewed_each}
use Rattle.stations.proofs.Inserting.{inserted_each, unknown_nobody, displaced_nobody}
use Rattle.stations.proofs.Placing.{placed-ends}
use Rattle.stations.proofs.Hops.{again-address}
use Rattle.controller.specs.Reading.{Reading}
use Rattle.controller.specs.Reading.{Refused, Tick, Link, Keepalive, Operator, Heard, Block}
use Rattle.controller.specs.Reading.{block_of}
use Rattle.controller.specs.State.{Choice, State, span_of}
use Rattle.controller.specs.declared.sides.Spans.{Spans}
use Rattle.controller.specs.Handling.{acted, gives, hearing, taking, learning, judged}
use Rattle.controller.specs.Closing.{is_tick, settled, purged_if, swept}
use Rattle.controller.specs.Record.{Outcome, refusal, closed, unless_refused, outcome_of, outcome}
use Rattle.controller.proofs.Handing.{hearing-taken}
use Rattle.promises.specs.History.{Call, after, answered}
use Rattle.promises.specs.Spans.{own_in, read_as}
use Rattle.promises.specs.Forgetting.{is_report_of, ticks_unheard, Aged}
use Rattle.promises.proofs.Demand2.AfterKept.{choice-after}

-- What a record says depends on the own address, which stays.
pub read_same : (s : State) (h : List Call) (c : Call) → read_as (own_in (after s h)) c ≡ read_as (own_in s) c
read_same s h c = ap (λ (x : Choice). read_as x.address c) (choice-after s h)

module _ (a : ℕ) where
  abbrev pub Has : ℕ → Station → Type 0
  Has k x = x.address ≡ a → x.age ≡ k

  -- A tick raises it; a purge, (e) and a block leave it.
  ticked-aged : (k forget : ℕ) (l : List Station) → Aged a k l → Aged a (suc k) (aged forget l)
  unfolding aged
  ticked-aged k forget = sifted_each (young forget) older (Has k) (Has (suc k)) (λ x age t own. omega (arith, age own))

  purged-aged : (k ringlet : ℕ) (l : List Station) → Aged a k l → Aged a k (purged ringlet l)
  unfolding purged
  purged-aged k ringlet = sifted_each (unpurged ringlet) (with_hop ringlet 0) (Has k) (Has k) (λ x age t. age)

  swept-aged : (k : ℕ) (t : Ticks) (y : Spans) (l : List Station) → Aged a k l → Aged a k (swept t y l)
  unfolding swept
  swept-aged k t y l e = go (down t y.west) (down t y.east)
    where
      west : (w : Bool) → Aged a k (purged_if w 0 l)
      west true = purged-aged k 0 l e
      west false = e

      go : (w v : Bool) → Aged a k (purged_if v 1 (purged_if w 0 l))
      go w true = purged-aged k 1 (purged_if w 0 l) (west w)
      go w false = west w

  displaced-aged : (k : ℕ) (p : Report) (l : List Station) → Aged a k l → Aged a k (displaced p l)
  unfolding displaced
  displaced-aged k p = sifted_each (undisplaced p) (losing p) (Has k) (Has k) (λ x age t. chosen (Has k) (other_at p x) (λ h. age) (λ h. age))

  given-aged : (k b : ℕ) (m : Meaning) (l : List Station) → Aged a k l → Aged a k (given b (attributes_from m) l)
  unfolding given
  given-aged k b m = renewed_each b (with_attributes (attributes_from m)) (Has k) (Has k) (λ x at age. age) (λ x away age. age)

  -- A report of the station itself makes it 0, one of another leaves it.
  abbrev after_report : ℕ → Report → Placed → ℕ
  after_report k p j = cond (eqb p.address a && eqb j.result 0) 0 k

  module _ (k : ℕ) (p : Report) (l : List Station) (e : Aged a k l) where
    again_age : (d : ℕ) (x : Station) → (heard_again d p x).age ≡ 0
    again_age d x = chosen (λ (u : Station). u.age ≡ 0) (eqb d 0) (λ h. refl) (λ h. refl)

    abbrev AfterReport : Placed → Type 0
    AfterReport j = Aged a (after_report k p j) j.stations

    -- Results other than 0 leave the stations.
    unstored : (n : ℕ) → eqb n 0 ≡ false → AfterReport (gives n l)
    unstored n other = go (eqb p.address a)
      where
        go : (b : Bool) → Aged a (cond (b && eqb n 0) 0 k) l
        go true = rw other e
        go false = e

    known-aged : (d : ℕ) → AfterReport (gives 0 (renewed p.address (heard_again d p) (displaced p l)))
    known-aged d = go (eqb p.address a) refl
      where
        go : (b : Bool) → eqb p.address a ≡ b → Aged a (cond (b && true) 0 k) (renewed p.address (heard_again d p) (displaced p l))
        go true same =
            renewed_each p.address (heard_again d p) (Has k) (Has 0) (λ x at age own. again_age d x)
            (λ x away age own. absurd (away (own ∙ sym (eqb-true p.address a same)))) (displaced p l) (displaced-aged k p l e)
        go false other =
            renewed_each p.address (heard_again d p) (Has k) (Has k)
            (λ x at age own. absurd (eqb-false p.address a other (sym at ∙ sym (again-address d p x) ∙ own))) (λ x away age. age) (displaced p l)
            (displaced-aged k p l e)

    new_aged : sequence_of p.address l ≡ none → AfterReport (gives 0 (inserted (newcomer p) (displaced p l)))
    new_aged unknown = go (eqb p.address a) refl
      where
        go : (b : Bool) → eqb p.address a ≡ b → Aged a (cond (b && true) 0 k) (inserted (newcomer p) (displaced p l))
        go true same =
            inserted_each (newcomer p) (Has 0) (λ own. refl) (displaced p l)
            (each_map (λ (x : Station). x.address ≡ p.address → ⊥) (Has 0)
            (λ x away own. absurd (away (own ∙ sym (eqb-true p.address a same)))) (displaced p l)
            (displaced_nobody p p.address l (unknown_nobody p.address l unknown)))
        go false other =
            inserted_each (newcomer p) (Has k) (λ own. absurd (eqb-false p.address a other own)) (displaced p l) (displaced-aged k p l e)

    heard-aged : (t : Ticks) (n : ℕ) (x : Spans) → AfterReport (hearing t n p x l)
    unfolding hearing
    heard-aged t n x =
        chosen AfterReport (eqb p.ringlet n)
        (λ own. chosen AfterReport (down t (span_of n x)) (λ d. unstored 21 refl)
        (λ d. placed-ends AfterReport p l (λ stored is newer. known-aged (distance p.sequence stored)) (λ stored is old. unstored 22 refl) new_aged))
        (λ other. unstored 20 refl)

  -- One record that was read, refused or closed.
  module _ (k : ℕ) (s : State) (b : List ℕ) (e : Aged a k s.stations) where
    abbrev t : Ticks
    t = s.choice.ticks

    abbrev pub next : Reading → ℕ
    next r = cond (is_report_of a r && eqb (outcome_of r b s).result 0) 0 (cond (is_tick r) (suc k) k)

    left-aged : (tick : Bool) (x : Spans) (j : Placed) → Aged a k j.stations → Aged a k (unless_refused s tick x j).state.stations
    unfolding closed
    left-aged tick x j there =
        chosen (λ (o : Outcome). Aged a k o.state.stations) (refusal j.result) (λ h. e)
        (λ h. swept-aged k t (settled t s.spans x) j.stations there)

    block-aged : (n from : ℕ) (x : Spans) → Aged a k (learning t n from (meaning s.choice.known b) x s.stations).stations
    unfolding learning
    block-aged n from x =
        let m : Meaning = meaning s.choice.known b in
        chosen (λ (j : Placed). Aged a k j.stations) (down t (span_of n x)) (λ h. e)
        (λ h. chosen (λ (j : Placed). Aged a k j.stations) (present from s.stations) (λ h. took m) (λ h. e))
      where
        took : (m : Meaning) → Aged a k (taking from m s.stations).stations
        took malformed = e
        took (aside y) = given-aged k from (aside y) s.stations e
        took (shows es) = given-aged k from (shows es) s.stations e

    record-aged : (r : Reading) → Aged a (next r) (outcome_of r b s).state.stations
    unfolding outcome_of acted judged closed
    record-aged (Refused n) = left-aged false s.spans (gives n s.stations) e
    record-aged Tick =
        swept-aged (suc k) t (settled t s.spans (acted t Tick s.spans)) (aged t.forget s.stations) (ticked-aged k t.forget s.stations e)
    record-aged (Link n status) = left-aged false (acted t (Link n status) s.spans) (gives 0 s.stations) e
    record-aged (Keepalive n) = left-aged false (acted t (Keepalive n) s.spans) (gives 0 s.stations) e
    record-aged (Operator n request) = left-aged false (acted t (Operator n request) s.spans) (gives 0 s.stations) e
    record-aged (Heard n p) =
        let x : Spans = acted t (Heard n p) s.spans in
        rw (hearing-taken t n p x s.stations)
        (swept-aged (after_report k p (hearing t n p x s.stations)) t (settled t s.spans x) (hearing t n p x s.stations).stations
        (heard-aged k p s.stations e t n x))
    record-aged (Block n from) =
        left-aged false s.spans (learning t n from (meaning s.choice.known b) s.spans s.stations) (block-aged n from s.spans)

  -- Over a history.
  pub age_is_ticks : (s : State) (k : ℕ) → Aged a k s.stations → (h : List Call) → Aged a (ticks_unheard a s k h) (after s h).stations
  unfolding after ticks_unheard outcome
  age_is_ticks s k e [] = e
  age_is_ticks s k e (c ∷ h) =
      subst (λ (r : Reading). Aged a (cond (is_report_of a r && eqb (answered s h c).result 0) 0 (cond (is_tick r) (suc (ticks_unheard a s k h)) (ticks_unheard a s k h)))
      (after s (c ∷ h)).stations) (read_same s h c)
      (record-aged (ticks_unheard a s k h) (after s h) (block_of c.bytes) (age_is_ticks s k e h) (read_as (own_in (after s h)) c))
