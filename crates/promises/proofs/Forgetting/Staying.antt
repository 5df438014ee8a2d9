-- A station that is heard often enough stays at its hop, over every history. Assumes nothing.
use Prim.Native.Nat.{ℕ, suc, ◌+◌, ◌<◌, ◌≤◌}
use mathlib.Core.Path.{◌≡◌, refl, sym, ap, subst, ◌∙◌}
use mathlib.Core.Logic.{⊎_elim}
use mathlib.Core.Bool.{Bool, true, false, not, cond, ◌&&◌, ◌||◌, or-true, true≢false, false≢true}
use mathlib.Core.List.{List, [], ◌∷◌}
use native.Mathlib.Omega.{arith}
use lib.Dec.{eqb, ltb}
use borrow.Author.Tests.{eq-eqb, eqb-true, eqb-false, lt-ltb}
use Rattle.wire.proofs.Truths.{both, neither}
use Rattle.settings.specs.declared.choice.Ticks.{Ticks}
use Rattle.spans.specs.Requests.{down}
use Rattle.blocks.specs.Meaning.{Meaning, malformed, aside, shows, meaning}
use Rattle.blocks.specs.Attributes.{attributes_from}
use Rattle.stations.specs.declared.station.Station.{Station}
use Rattle.stations.specs.declared.station.Report.{Report}
use Rattle.stations.specs.Station.{hop, Same, older, with_hop, with_attributes, newcomer}
use Rattle.stations.specs.Stations.{young, aged, other_at, undisplaced, losing, displaced, renewed, inserted, given, present}
use Rattle.stations.specs.Hearing.{Placed, distance, heard_again, placed}
use Rattle.stations.proofs.Lists.{chosen}
use Rattle.stations.proofs.Placing.{placed-ends}
use Rattle.stations.proofs.Hops.{same_or_other, hop_same, hop_other, hop-somewhere, again-address, again-hop, again_other}
use Rattle.controller.specs.Reading.{Reading}
use Rattle.controller.specs.Reading.{Refused, Tick, Link, Keepalive, Operator, Heard, Block}
use Rattle.controller.specs.Reading.{block_of}
use Rattle.controller.specs.State.{Choice, State, span_of}
use Rattle.controller.specs.declared.sides.Spans.{Spans}
use Rattle.controller.specs.Handling.{acted, gives, hearing, taking, learning, judged}
use Rattle.controller.specs.Closing.{is_tick, settled}
use Rattle.controller.specs.Record.{Outcome, refusal, closed, unless_refused, outcome_of, outcome}
use Rattle.controller.specs.Kept.{ReadingKept}
use Rattle.controller.proofs.ReadKept.{reading_kept}
use Rattle.promises.specs.History.{Call, after, answered, Always, AllBytes}
use Rattle.promises.specs.Room.{holds_hop}
use Rattle.promises.specs.Spans.{own_in, read_as, some_taken, span_after}
use Rattle.promises.specs.Forgetting.{is_report_of, moves, ticks_unheard, Aged, InTime}
use Rattle.promises.proofs.Demand2.AfterKept.{choice-after}
use Rattle.promises.proofs.Demand2.Joining.{test, each_stands, sifted_stands, swept_stands}
use Rattle.promises.proofs.Forgetting.Ages.{Has, next, read_same, age_is_ticks}

module _ (a r h : ℕ) (low : r ≤ 1) (some : 1 ≤ h) where
  abbrev Stands : List Station → Type 0
  Stands l = holds_hop a r h l ≡ true

  -- A tick before the forget time.
  ticked_stands : (k forget : ℕ) → suc k < forget → (l : List Station) → Aged a k l → Stands l → Stands (aged forget l)
  unfolding aged
  ticked_stands k forget young' =
      each_stands a r h (Has a k) (young forget) older
      (λ x age t.
      let (own, here) = both (eqb x.address a) (eqb (hop r x) h) t in
      (lt-ltb (x.age + 1) forget (omega (arith, young', age (eqb-true x.address a own))), t))

  renewed_stands : (b : ℕ) (change : Station → Station) → ((x : Station) → x.address ≡ b → test a r h x ≡ true → test a r h (change x) ≡ true)
      → (l : List Station) → Stands l → Stands (renewed b change l)
  unfolding holds_hop renewed
  renewed_stands b change k [] e = e
  renewed_stands b change k (x ∷ l) e = go (test a r h x) refl (renewed_stands b change k l) e
    where
      now : test a r h x ≡ true → test a r h (cond (eqb x.address b) (change x) x) ≡ true
      now t = chosen (λ (y : Station). test a r h y ≡ true) (eqb x.address b) (λ z. k x (eqb-true x.address b z) t) (λ z. t)

      go : (z : Bool) → test a r h x ≡ z → (Stands l → Stands (renewed b change l)) → z || holds_hop a r h l ≡ true
          → test a r h (cond (eqb x.address b) (change x) x) || holds_hop a r h (renewed b change l) ≡ true
      go true z ih e = rw (now z)
      go false z ih e =
          ap (λ (y : Bool). test a r h (cond (eqb x.address b) (change x) x) || y) (ih e)
          ∙ or-true (test a r h (cond (eqb x.address b) (change x) x))

  inserted-leaves : (s : Station) (l : List Station) → Stands l → Stands (inserted s l)
  unfolding holds_hop inserted
  inserted-leaves s [] e = absurd (false≢true e)
  inserted-leaves s (x ∷ l) e =
      chosen Stands (ltb x.address s.address) (λ z. go (test a r h x) (inserted-leaves s l) e)
      (λ z. ap (λ (y : Bool). test a r h s || y) e ∙ or-true (test a r h s))
    where
      go : (b : Bool) → (Stands l → Stands (inserted s l)) → b || holds_hop a r h l ≡ true → b || holds_hop a r h (inserted s l) ≡ true
      go true ih e = refl
      go false ih e = ih e

  given_stands : (b : ℕ) (m : Meaning) (l : List Station) → Stands l → Stands (given b (attributes_from m) l)
  unfolding given
  given_stands b m = renewed_stands b (with_attributes (attributes_from m)) (λ x at t. t)

  -- A report that moves nobody from this hop: who comes to it is a, and a comes to no other on this ringlet.
  record Steady (p : Report) : Type 0 where
    alone : Same p.ringlet r → p.hop ≡ h → p.address ≡ a
    still : Same p.ringlet r → p.address ≡ a → p.hop ≡ h

  module _ (p : Report) (steady : Steady p) where
    displaced_stands : (l : List Station) → Stands l → Stands (displaced p l)
    unfolding displaced
    displaced_stands =
        sifted_stands a r h (undisplaced p) (losing p)
        (λ x t. (
          chosen (λ (b : Bool). b ≡ true) (other_at p x) (λ o. let at = kept x t o in hop-somewhere r h (with_hop p.ringlet 0 x) some at) (λ o. refl),
          chosen (λ (y : Station). test a r h y ≡ true) (other_at p x)
              (λ o.
              let (own, here) = both (eqb x.address a) (eqb (hop r x) h) t in
              rw (own, eq-eqb (hop r (with_hop p.ringlet 0 x)) h (kept x t o)))
              (λ o. t),
        ))
      where
        -- another than a is at the report's hop, so it is of the other ringlet
        kept : (x : Station) → test a r h x ≡ true → other_at p x ≡ true → hop r (with_hop p.ringlet 0 x) ≡ h
        kept x t o =
            let (own, here) = both (eqb x.address a) (eqb (hop r x) h) t in
            let (at, other) = both (eqb (hop p.ringlet x) p.hop) (not (eqb x.address p.address)) o in
            let away : x.address ≡ p.address → ⊥ = λ e. false≢true (sym (ap not (eq-eqb x.address p.address e)) ∙ other) in
            ⊎_elim
            (λ same.
            let meets : p.hop ≡ h = sym (eqb-true (hop p.ringlet x) p.hop at) ∙ hop_same p.ringlet r x same ∙ eqb-true (hop r x) h here in
            absurd (away (eqb-true x.address a own ∙ sym (steady.alone same meets))))
            (λ apart. hop_other p.ringlet r 0 x apart ∙ eqb-true (hop r x) h here) (same_or_other p.ringlet r)

    again_stands : (d : ℕ) (x : Station) → x.address ≡ p.address → test a r h x ≡ true → test a r h (heard_again d p x) ≡ true
    again_stands d x at t =
        let (own, here) = both (eqb x.address a) (eqb (hop r x) h) t in
        let mine : p.address ≡ a = sym at ∙ eqb-true x.address a own in
        let there : hop r (heard_again d p x) ≡ h =
        ⊎_elim (λ same. sym (hop_same p.ringlet r (heard_again d p x) same) ∙ again-hop d p x ∙ steady.still same mine)
        (λ apart. again_other d p r x apart ∙ eqb-true (hop r x) h here) (same_or_other p.ringlet r) in
        rw (eq-eqb (heard_again d p x).address a (again-address d p x ∙ eqb-true x.address a own), eq-eqb (hop r (heard_again d p x)) h there)

    placed_stands : (l : List Station) → Stands l → Stands (placed p l).stations
    placed_stands l e =
        placed-ends (λ (j : Placed). Stands j.stations) p l
        (λ stored is newer.
        renewed_stands p.address (heard_again (distance p.sequence stored) p) (again_stands (distance p.sequence stored)) (displaced p l) (displaced_stands l e))
        (λ stored is old. e) (λ is. inserted-leaves (newcomer p) (displaced p l) (displaced_stands l e))

  -- One record.
  module _ (k : ℕ) (s : State) (b : List ℕ) (age : Aged a k s.stations) (e : Stands s.stations) where
    abbrev t : Ticks
    t = s.choice.ticks

    abbrev Still : Outcome → Type 0
    Still o = down t (span_of r o.state.spans) ≡ false → Stands o.state.stations

    closed_stands : (tick : Bool) (x : Spans) (j : Placed) → Stands j.stations → Still (closed s tick x j)
    unfolding closed
    closed_stands tick x j there up =
        swept_stands t r (record { address = a; ringlet = r; hop = h; sequence = 0; west = 0; east = 0 }) (settled t s.spans x) j.stations
        (eq-eqb r r refl) up some j.stations there

    left_stands : (tick : Bool) (x : Spans) (j : Placed) → Stands j.stations → Still (unless_refused s tick x j)
    left_stands tick x j there = chosen Still (refusal j.result) (λ z up. e) (λ z. closed_stands tick x j there)

    block_stands : (n from : ℕ) (x : Spans) → Stands (learning t n from (meaning s.choice.known b) x s.stations).stations
    unfolding learning
    block_stands n from x =
        chosen (λ (j : Placed). Stands j.stations) (down t (span_of n x)) (λ z. e)
        (λ z. chosen (λ (j : Placed). Stands j.stations) (present from s.stations) (λ z. took (meaning s.choice.known b)) (λ z. e))
      where
        took : (m : Meaning) → Stands (taking from m s.stations).stations
        took malformed = e
        took (aside y) = given_stands from (aside y) s.stations e
        took (shows es) = given_stands from (shows es) s.stations e

    heard_stands : (n : ℕ) (p : Report) → n ≤ 1 → moves a r h (Heard n p) ≡ false → (x : Spans) → Stands (hearing t n p x s.stations).stations
    unfolding hearing
    heard_stands n p span calm x =
        chosen (λ (j : Placed). Stands j.stations) (eqb p.ringlet n)
        (λ own. chosen (λ (j : Placed). Stands j.stations) (down t (span_of n x)) (λ z. e) (λ z. placed_stands p (steady own) s.stations e)) (λ z. e)
      where
        -- spans 0 and 1 are two, and so are the ringlets
        one : eqb p.ringlet n ≡ true → Same p.ringlet r → eqb n r ≡ true
        one own same = go (eqb n 0) refl (eqb r 0) refl
          where
            is : eqb n 0 ≡ eqb r 0
            is = ap (λ (m : ℕ). eqb m 0) (sym (eqb-true p.ringlet n own)) ∙ same

            go : (u : Bool) → eqb n 0 ≡ u → (v : Bool) → eqb r 0 ≡ v → eqb n r ≡ true
            go true u true v = eq-eqb n r (eqb-true n 0 u ∙ sym (eqb-true r 0 v))
            go true u false v = absurd (true≢false (sym u ∙ is ∙ v))
            go false u true v = absurd (true≢false (sym v ∙ sym is ∙ u))
            go false u false v = eq-eqb n r (omega (arith, span, low, eqb-false n 0 u, eqb-false r 0 v))

        here : eqb p.ringlet n ≡ true → Same p.ringlet r → cond (eqb p.address a) (not (eqb p.hop h)) (eqb p.hop h) ≡ false
        here own same = rw (one own same) at calm

        steady : eqb p.ringlet n ≡ true → Steady p
        steady own = record {
          alone = λ same at. go (eqb p.address a) refl (here own same) at;
          still = λ same at. stay (eqb p.hop h) refl (rw (eq-eqb p.address a at) at (here own same));
        }
          where
            go : (u : Bool) → eqb p.address a ≡ u → cond u (not (eqb p.hop h)) (eqb p.hop h) ≡ false → p.hop ≡ h → p.address ≡ a
            go true u z at = eqb-true p.address a u
            go false u z at = absurd (true≢false (sym (eq-eqb p.hop h at) ∙ z))

            stay : (u : Bool) → eqb p.hop h ≡ u → not u ≡ false → p.hop ≡ h
            stay true u z = eqb-true p.hop h u
            stay false u z = absurd (true≢false z)

    record_stands : (rd : Reading) → ReadingKept s.choice.address rd → moves a r h rd ≡ false → next a k s b age rd < t.forget → Still (outcome_of rd b s)
    unfolding outcome_of acted judged
    record_stands (Refused n) kept calm in-time = left_stands false s.spans (gives n s.stations) e
    record_stands Tick kept calm in-time =
        closed_stands true (acted t Tick s.spans) (gives 0 (aged t.forget s.stations)) (ticked_stands k t.forget in-time s.stations age e)
    record_stands (Link n status) kept calm in-time = closed_stands false (acted t (Link n status) s.spans) (gives 0 s.stations) e
    record_stands (Keepalive n) kept calm in-time = closed_stands false (acted t (Keepalive n) s.spans) (gives 0 s.stations) e
    record_stands (Operator n request) kept calm in-time = closed_stands false (acted t (Operator n request) s.spans) (gives 0 s.stations) e
    record_stands (Heard n p) kept calm in-time =
        let x : Spans = acted t (Heard n p) s.spans in
        left_stands false x (hearing t n p x s.stations) (heard_stands n p kept.0 calm x)
    record_stands (Block n from) kept calm in-time =
        left_stands false s.spans (learning t n from (meaning s.choice.known b) s.spans s.stations) (block_stands n from s.spans)

  -- Over a history.
  pub stays : (s : State) (k : ℕ) → Aged a k s.stations → Stands s.stations → (g : List Call) → AllBytes g → some_taken (own_in s) (moves a r h) g ≡ false
      → Always (InTime a r s k) g → Stands (after s g).stations
  unfolding after AllBytes some_taken Always outcome ticks_unheard
  stays s k age e [] bytes calm always = e
  stays s k age e (c ∷ g) bytes calm always =
      let same : (after s g).choice ≡ s.choice = choice-after s g in
      let (now, rest) = neither (moves a r h (read_as (own_in s) c)) (some_taken (own_in s) (moves a r h) g) calm in
      let own : ℕ = own_in (after s g) in
      let k' : ℕ = ticks_unheard a s k g in
      record_stands k' (after s g) (block_of c.bytes) (age_is_ticks a s k age g) (stays s k age e g bytes.1 rest always.1)
      (read_as own c) (reading_kept own c.bytes c.room bytes.0) (ap (moves a r h) (read_same s g c) ∙ now)
      (subst (λ (x : Choice). cond (is_report_of a (read_as x.address c) && eqb (answered s g c).result 0) 0 (cond (is_tick (read_as x.address c)) (suc k') k') < x.ticks.forget)
      (sym same) always.0.heard)
      (subst (λ (x : Choice). down x.ticks (span_after r s (c ∷ g)) ≡ false) (sym same) always.0.up)
