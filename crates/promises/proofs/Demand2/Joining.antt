-- 02, Item 6: "Room for every station a ring can show." A report of a new station that is taken leaves the station in the table, at the hop it was heard at. Assumes nothing.
use Prim.Native.Nat.{ℕ, ◌≤◌}
use mathlib.Core.Path.{◌≡◌, refl, sym, ◌∙◌, ap}
use mathlib.Core.Bool.{Bool, true, false, cond, ◌&&◌, ◌||◌, or-true, true≢false, false≢true}
use mathlib.Core.List.{List, [], ◌∷◌}
use mathlib.Core.Option.{none}
use native.Mathlib.Omega.{arith}
use lib.Dec.{eqb, ltb}
use borrow.Author.Tests.{eq-eqb, eqb-true}
use Rattle.wire.specs.Fields.{Bytes}
use Rattle.wire.proofs.Truths.{both}
use Rattle.settings.specs.declared.choice.Ticks.{Ticks}
use Rattle.spans.specs.Requests.{down}
use Rattle.stations.specs.declared.station.Station.{Station}
use Rattle.stations.specs.declared.station.Report.{Report}
use Rattle.stations.specs.Station.{hop, Same, with_hop, newcomer}
use Rattle.stations.specs.Stations.{sifted, unpurged, purged, displaced, inserted, sequence_of}
use Rattle.stations.specs.Table.{Each}
use Rattle.stations.specs.Hearing.{Placed, placed, placed_new}
use Rattle.stations.proofs.Lists.{chosen}
use Rattle.stations.proofs.Hops.{hop_other, hop-somewhere, newcomer-hop}
use Rattle.controller.specs.Reading.{Reading}
use Rattle.controller.specs.Reading.{Heard}
use Rattle.controller.specs.Reading.{block_of, many_ticks}
use Rattle.controller.specs.State.{State, span_of}
use Rattle.controller.specs.declared.sides.Spans.{Spans}
use Rattle.controller.specs.Handling.{acted, gives, hearing, judged}
use Rattle.controller.specs.Closing.{is_tick, settled, purged_if, swept}
use Rattle.controller.specs.Record.{Outcome, closed, outcome_of, outcome, outcomes}
use Rattle.controller.proofs.Handing.{judged-settled}
use Rattle.controller.proofs.Manys.{other_event}
use Rattle.controller.proofs.ReadKept.{reading_kept}
use Rattle.promises.specs.Room.{Newcomer, holds_hop}
use Rattle.promises.proofs.Demand1.Results.{given, result_of}
use Rattle.promises.proofs.Demand2.Spelling.{outcomes-one}

module _ (a r h : ℕ) where
  abbrev pub test : Station → Bool
  test s = eqb s.address a && eqb (hop r s) h

  inserted_stands : (s : Station) → test s ≡ true → (l : List Station) → holds_hop a r h (inserted s l) ≡ true
  unfolding holds_hop inserted
  inserted_stands s e [] = rw e
  inserted_stands s e (x ∷ l) =
      chosen (λ (m : List Station). holds_hop a r h m ≡ true) (ltb x.address s.address)
      (λ z. ap (λ (b : Bool). test x || b) (inserted_stands s e l) ∙ or-true (test x)) (λ z. rw e)

  -- Some stations leave, and P holds of all of them before.
  pub each_stands : (P : Station → Type 0) (stays : Station → Bool) (change : Station → Station)
      → ((s : Station) → P s → test s ≡ true → (stays s ≡ true) × (test (change s) ≡ true)) → (l : List Station) → Each P l → holds_hop a r h l ≡ true
      → holds_hop a r h (sifted stays change l) ≡ true
  unfolding holds_hop sifted Each
  each_stands P stays change k [] all e = absurd (false≢true e)
  each_stands P stays change k (s ∷ l) all e = go (test s) refl (each_stands P stays change k l all.1) e
    where
      go : (b : Bool) → test s ≡ b → (holds_hop a r h l ≡ true → holds_hop a r h (sifted stays change l) ≡ true) → b || holds_hop a r h l ≡ true
          → holds_hop a r h (cond (stays s) (change s ∷ sifted stays change l) (sifted stays change l)) ≡ true
      go true z ih e = let (still, there) = k s all.0 z in rw (still, there)
      go false z ih e =
          let rest : holds_hop a r h (sifted stays change l) ≡ true = ih e in
          chosen (λ (m : List Station). holds_hop a r h m ≡ true) (stays s)
          (λ y. ap (λ (b : Bool). test (change s) || b) rest ∙ or-true (test (change s))) (λ y. rest)

  -- The same where nothing is asked of them.
  pub sifted_stands : (stays : Station → Bool) (change : Station → Station)
      → ((s : Station) → test s ≡ true → (stays s ≡ true) × (test (change s) ≡ true)) → (l : List Station) → holds_hop a r h l ≡ true
      → holds_hop a r h (sifted stays change l) ≡ true
  unfolding Each
  sifted_stands stays change k l = each_stands (λ (s : Station). Unit {0}) stays change (λ s u. k s) l (all l)
    where
      all : (m : List Station) → Each (λ (s : Station). Unit {0}) m
      all [] = tt
      all (s ∷ m) = (tt, all m)

  -- The purge of the other ringlet leaves it there.
  purged_stands : (q : ℕ) → (Same q r → ⊥) → 1 ≤ h → (l : List Station) → holds_hop a r h l ≡ true → holds_hop a r h (purged q l) ≡ true
  unfolding purged
  purged_stands q other some =
      sifted_stands (unpurged q) (with_hop q 0)
      (λ s e.
      let (own, here) = both (eqb s.address a) (eqb (hop r s) h) e in
      let at : hop r (with_hop q 0 s) ≡ h = hop_other q r 0 s other ∙ eqb-true (hop r s) h here in
      (hop-somewhere r h (with_hop q 0 s) some at, rw (own, eq-eqb (hop r (with_hop q 0 s)) h at)))

-- A report that got 0 was heard on its own ringlet, and its span is not down.
module _ (t : Ticks) (n : ℕ) (p : Report) (y : Spans) (l : List Station) where
  heard_open : (hearing t n p y l).result ≡ 0 → (eqb p.ringlet n ≡ true) × (down t (span_of n y) ≡ false)
  unfolding hearing
  heard_open = go (eqb p.ringlet n) (down t (span_of n y))
    where
      go : (b d : Bool) → (cond {A = Placed} b (cond d (gives 21 l) (placed p l)) (gives 20 l)).result ≡ 0 → (b ≡ true) × (d ≡ false)
      go true true e = absurd (omega arith)
      go true false e = (refl, refl)
      go false d e = absurd (omega arith)

  heard_new : sequence_of p.address l ≡ none → (hearing t n p y l).result ≡ 0 → hearing t n p y l ≡ gives 0 (inserted (newcomer p) (displaced p l))
  unfolding hearing placed placed_new
  heard_new new e = let (own, up) = heard_open e in rw (own, up, new)

  -- The sweep that follows purges the other ringlet at most.
  pub swept_stands : eqb p.ringlet n ≡ true → down t (span_of n y) ≡ false → 1 ≤ p.hop → (m : List Station)
      → holds_hop p.address p.ringlet p.hop m ≡ true → holds_hop p.address p.ringlet p.hop (swept t y m) ≡ true
  unfolding swept
  swept_stands own up some m e = go (eqb n 0) refl (down t y.west) refl (down t y.east) refl
    where
      a : ℕ
      a = p.address

      same : p.ringlet ≡ n
      same = eqb-true p.ringlet n own

      kept : (q : ℕ) → (b : Bool) → (Same q p.ringlet → ⊥) → holds_hop a p.ringlet p.hop (purged_if b q m) ≡ true
      kept q true other = purged_stands a p.ringlet p.hop q other some m e
      kept q false other = e

      go : (z : Bool) → eqb n 0 ≡ z → (w : Bool) → down t y.west ≡ w → (v : Bool) → down t y.east ≡ v
          → holds_hop a p.ringlet p.hop (purged_if v 1 (purged_if w 0 m)) ≡ true
      go true z true i v j = absurd (true≢false (sym i ∙ rw z at up))
      go true z false i v j = kept 1 v (λ s. false≢true (s ∙ ap (λ (k : ℕ). eqb k 0) same ∙ z))
      go false z w i true j = absurd (true≢false (sym j ∙ rw z at up))
      go false z w i false j = kept 0 w (λ s. true≢false (s ∙ ap (λ (k : ℕ). eqb k 0) same ∙ z))

-- Taken, it stands where it was heard, after the closing steps too.
module _ (s : State) (b : List ℕ) (room n : ℕ) (p : Report) (bytes : Bytes b) (new : Newcomer s b room n p) where
  abbrev t : Ticks
  t = s.choice.ticks

  abbrev x : Spans
  x = acted t (Heard n p) s.spans

  abbrev y : Spans
  y = settled t s.spans x

  outcome_is : outcomes s b room ≡ outcome_of (Heard n p) (block_of b) s
  unfolding outcome
  outcome_is =
      let single : many_ticks b room ≡ false = other_event b room s.choice.address (λ e. true≢false (sym (ap is_tick e) ∙ ap is_tick new.reads)) in
      outcomes-one (record { bytes = b; room = room }) s single ∙ ap (λ (r : Reading). outcome_of r (block_of b) s) new.reads

  heard : 1 ≤ p.hop
  heard = let (span, k) = rw new.reads at (reading_kept s.choice.address b room bytes) in k.heard

  pub newcomer_stands : (outcomes s b room).result ≡ 0 → holds_hop p.address p.ringlet p.hop (outcomes s b room).state.stations ≡ true
  unfolding outcome_of closed judged given
  newcomer_stands e =
      let result : (hearing t n p x s.stations).result ≡ 0 =
      sym (result_of s (block_of b) (Heard n p)) ∙ ap (λ (o : Outcome). o.result) (sym outcome_is) ∙ e in
      let later : (hearing t n p y s.stations).result ≡ 0 =
      ap (λ (j : Placed). j.result) (judged-settled s.choice (Heard n p) (block_of b) s.spans x s.stations) ∙ result in
      let (own, up) = heard_open t n p y s.stations later in
      let is : hearing t n p x s.stations ≡ gives 0 (inserted (newcomer p) (displaced p s.stations)) =
      heard_new t n p x s.stations new.unknown result in
      let there : holds_hop p.address p.ringlet p.hop (inserted (newcomer p) (displaced p s.stations)) ≡ true =
      inserted_stands p.address p.ringlet p.hop (newcomer p)
      (rw (eq-eqb p.address p.address refl, eq-eqb (hop p.ringlet (newcomer p)) p.hop (newcomer-hop p))) (displaced p s.stations) in
      rw (outcome_is, is) (swept_stands t n p y s.stations own up heard (inserted (newcomer p) (displaced p s.stations)) there)
