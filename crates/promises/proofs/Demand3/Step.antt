-- One record, at two nodes that differ in the types they know. Assumes nothing.
use Prim.Native.Nat.{ℕ}
use mathlib.Core.Path.{◌≡◌, refl, ◌∙◌, ap}
use mathlib.Core.Bool.{Bool, true, false, cond}
use mathlib.Core.List.{List}
use mathlib.Core.Logic.{inl, inr}
use mathlib.Core.Option.{Option, none, some}
use native.Mathlib.Omega.{arith}
use lib.Dec.{eqb}
use borrow.Author.Tests.{eq-eqb}
use Rattle.settings.specs.declared.choice.Ticks.{Ticks}
use Rattle.spans.specs.Requests.{down}
use Rattle.blocks.specs.declared.attributes.Attributes.{Attributes}
use Rattle.blocks.specs.Meaning.{Meaning, malformed, aside, shows, meaning}
use Rattle.blocks.specs.Attributes.{absent, valued, behind_with, attributes_from}
use Rattle.blocks.specs.Levels.{Sub}
use Rattle.blocks.proofs.Fewer.{fewer}
use Rattle.stations.specs.declared.station.Station.{Station}
use Rattle.stations.specs.declared.station.Report.{Report}
use Rattle.stations.specs.Stations.{purged, present, given}
use Rattle.stations.specs.Hearing.{Placed}
use Rattle.controller.specs.Reading.{Reading}
use Rattle.controller.specs.Reading.{Refused, Tick, Link, Keepalive, Operator, Heard, Block}
use Rattle.controller.specs.Reading.{block_of}
use Rattle.controller.specs.State.{State, span_of}
use Rattle.controller.specs.declared.sides.Spans.{Spans}
use Rattle.controller.specs.Handling.{acted, gives, hearing, taking, learning, judged}
use Rattle.controller.specs.Closing.{purged_if, swept, is_tick}
use Rattle.controller.specs.Record.{Outcome, refusal, closed, unless_refused, outcome_of}
use Rattle.promises.specs.Levels.{block_heard, taken_or_aside, newer, latest_now, knowing, dressed, SameResult, attributes_by, under}
use Rattle.promises.proofs.Demand3.Dress.{dressed_placed, pick_placed, present_dressed, aged-dressed, purged-dressed, given-dressed, same_dressed, placed-dressed}

-- The answer x of a node that knows K goes with the answer o of the larger one: the same state but for the attributes, which are those of g; the same report;
-- the same result but for 24 and 0.
pub record Alike (K : List ℕ) (g : ℕ → Attributes) (x o : Outcome) : Type 0 where
  pub state : x.state ≡ under K g o.state
  pub report : x.report ≡ o.report
  pub result : SameResult x.result o.result

module _ (K : List ℕ) (f : ℕ → Attributes) where
  abbrev under_o : Outcome → Outcome
  under_o o = record { result = o.result; state = under K f o.state; report = o.report }

  pick_o : (b : Bool) {x y : Outcome} (u v : Outcome) → x ≡ under_o u → y ≡ under_o v → cond b x y ≡ under_o (cond b u v)
  pick_o true u v p q = p
  pick_o false u v p q = q

  -- The closing steps.
  swept-dressed : (t : Ticks) (x : Spans) (l : List Station) → swept t x (dressed f l) ≡ dressed f (swept t x l)
  unfolding swept
  swept-dressed t x l = go (down t x.west) (down t x.east)
    where
      go : (w e : Bool) → purged_if e 1 (purged_if w 0 (dressed f l)) ≡ dressed f (purged_if e 1 (purged_if w 0 l))
      go true true = ap (purged 1) (purged-dressed f 0 l) ∙ purged-dressed f 1 (purged 0 l)
      go false true = purged-dressed f 1 l
      go true false = purged-dressed f 0 l
      go false false = refl

  closed-under : (g : ℕ → Attributes) (tick : Bool) (s : State) (x : Spans) (j : Placed)
      → closed (under K g s) tick x (dressed_placed f j) ≡ under_o (closed s tick x j)
  unfolding closed
  closed-under g tick s x j =
      ap (λ (l : List Station). record {
        result = j.result;
        state = record {
          choice = knowing K s.choice;
          spans = (closed s tick x j).state.spans;
          stations = l;
          pacer = (closed s tick x j).state.pacer;
        };
        report = (closed s tick x j).report;
      })
      (swept-dressed s.choice.ticks (closed s tick x j).state.spans j.stations)

  unless_under : (tick : Bool) (s : State) (x : Spans) (j : Placed)
      → unless_refused (under K f s) tick x (dressed_placed f j) ≡ under_o (unless_refused s tick x j)
  unless_under tick s x j = pick_o (refusal j.result) _ _ refl (closed-under f tick s x j)

  alike : (g : ℕ → Attributes) (x o : Outcome) → x ≡ under_o o → ((a : ℕ) → present a o.state.stations ≡ true → f a ≡ g a) → Alike K g x o
  alike g x o e h = record {
    state =
        ap (λ (y : Outcome). y.state) e
        ∙ ap (λ (l : List Station). record { choice = knowing K o.state.choice; spans = o.state.spans; stations = l; pacer = o.state.pacer })
        (same_dressed f g o.state.stations h);
    report = ap (λ (y : Outcome). y.report) e;
    result = inl (ap (λ (y : Outcome). y.result) e);
  }

  hearing-dressed : (t : Ticks) (n : ℕ) (p : Report) (x : Spans) (l : List Station) → (present p.address l ≡ false → f p.address ≡ absent)
      → hearing t n p x (dressed f l) ≡ dressed_placed f (hearing t n p x l)
  unfolding hearing
  hearing-dressed t n p x l new =
      pick_placed f (eqb p.ringlet n) _ _ (pick_placed f (down t (span_of n x)) _ _ refl (placed-dressed f p l new)) refl

-- Which meanings stand beside each other: what is malformed to the smaller node is so to the larger, and what it shows the larger shows.
abbrev Beside : Meaning → Meaning → Type 0
Beside m malformed = Unit {0}
Beside malformed (aside u) = ⊥
Beside malformed (shows us) = ⊥
Beside (aside t) (aside u) = Unit {0}
Beside (aside t) (shows us) = Unit {0}
Beside (shows es) (aside u) = ⊥
Beside (shows es) (shows us) = Unit {0}

-- The latest block where the call was no attribute record of the station.
same_latest : (b : Bool) (o : Option (List ℕ)) → o ≡ newer (cond b none none) o
same_latest true o = refl
same_latest false o = refl

-- .. and where it was one that is neither taken nor set aside.
uncounted : (k : ℕ) (x o : Option (List ℕ)) → taken_or_aside k ≡ false → o ≡ newer (cond (taken_or_aside k) x none) o
uncounted k x o e = rw e

-- The latest blocks before a record are those of L; s is the larger node.
module _ (K : List ℕ) (L : ℕ → Option (List ℕ)) (s : State) (bytes : List ℕ) where
  abbrev f : ℕ → Attributes
  f a = attributes_by K (L a)

  -- Attributes after a record that was read as r and answered o.
  abbrev pub next : Reading → Outcome → ℕ → Attributes
  next r o a = attributes_by K (latest_now r bytes o.result o.state.stations a (L a))

  abbrev pub Stepped : Reading → Type 0
  Stepped r =
      Alike K (next r (outcome_of r (block_of bytes) s)) (outcome_of r (block_of bytes) (under K f s)) (outcome_of r (block_of bytes) s)

  abbrev spans_of : Reading → Spans
  spans_of r = acted s.choice.ticks r s.spans

  -- A record that is no attribute record.
  other : (r : Reading) → ((a : ℕ) → block_heard a r bytes ≡ none)
      → judged (knowing K s.choice) r (block_of bytes) (spans_of r) (dressed f s.stations)
      ≡ dressed_placed f (judged s.choice r (block_of bytes) (spans_of r) s.stations)
      → Stepped r
  unfolding latest_now outcome_of
  other r n e =
      let o : Outcome = outcome_of r (block_of bytes) s in
      alike K f (next r o) (outcome_of r (block_of bytes) (under K f s)) o
      (ap (unless_refused (under K f s) (is_tick r) (spans_of r)) e
      ∙ unless_under K f (is_tick r) s (spans_of r) (judged s.choice r (block_of bytes) (spans_of r) s.stations))
      (λ a p. ap (attributes_by K) (rw (p, n a) (same_latest (taken_or_aside o.result) (L a))))

  -- An attribute record of the station a, heard on the span n.
  module _ (n a : ℕ) where
    abbrev r : Reading
    r = Block n a

    abbrev g : ℕ → Attributes
    g x = attributes_by K (newer (cond (eqb x a) (some (block_of bytes)) none) (L x))

    g_self : g a ≡ attributes_by K (some (block_of bytes))
    g_self = rw (eq-eqb a a refl)

    g_other : (x : ℕ) → eqb x a ≡ false → f x ≡ g x
    g_other x e = rw e

    abbrev ends : ℕ → State → Attributes → Outcome
    ends k u x = closed u false u.spans (gives k (given a x u.stations))

    -- It was taken or set aside: the smaller node gives x, the larger y.
    taken : (k1 k2 : ℕ) (x y : Attributes) → attributes_by K (some (block_of bytes)) ≡ x → taken_or_aside k2 ≡ true → SameResult k1 k2
        → Alike K (next r (ends k2 s y)) (ends k1 (under K f s) x) (ends k2 s y)
    unfolding latest_now closed
    taken k1 k2 x y e t p =
        let q : ends k1 (under K f s) x ≡ under_o K g (ends k1 s y) =
        ap (λ (l : List Station). closed (under K f s) false s.spans (gives k1 l)) (given-dressed f g a x y (g_self ∙ e) g_other s.stations)
        ∙ closed-under K g f false s s.spans (gives k1 (given a y s.stations)) in
        let v : Alike K (next r (ends k2 s y)) (ends k1 (under K f s) x) (ends k1 s y) =
        alike K g (next r (ends k2 s y)) (ends k1 (under K f s) x) (ends k1 s y) q (λ z h. rw (h, t)) in
        record { state = v.state; report = v.report; result = p }

    abbrev ending : State → Meaning → Outcome
    ending u m = unless_refused u false u.spans (taking a m u.stations)

    -- m is what the block means to the smaller node, m2 to the larger.
    judging : (m m2 : Meaning) → attributes_by K (some (block_of bytes)) ≡ attributes_from m → Beside m m2
        → ((ending s m2).result ≡ 8 → ⊥) → Alike K (next r (ending s m2)) (ending (under K f s) m) (ending s m2)
    judging malformed malformed e i h = absurd (h refl)
    judging (aside t) malformed e i h = absurd (h refl)
    judging (shows es) malformed e i h = absurd (h refl)
    judging malformed (aside u) e i h = absurd i
    judging malformed (shows us) e i h = absurd i
    judging (aside t) (aside u) e i h = taken 24 24 (behind_with t) (behind_with u) e refl (inl refl)
    judging (aside t) (shows us) e i h = taken 24 0 (behind_with t) (valued us) e refl (inr (refl, refl))
    judging (shows es) (aside u) e i h = absurd i
    judging (shows es) (shows us) e i h = taken 0 0 (valued es) (valued us) e refl (inl refl)

    -- The span is down or not, the station is there or not.
    abbrev choice : Bool → Bool → Meaning → State → Outcome
    choice d p m u =
        unless_refused u false u.spans (cond d (gives 21 u.stations) (cond p (taking a m u.stations) (gives 7 u.stations)))

    choosing : (d p : Bool) (m m2 : Meaning) → attributes_by K (some (block_of bytes)) ≡ attributes_from m → Beside m m2
        → ((choice d p m2 s).result ≡ 8 → ⊥) → Alike K (next r (choice d p m2 s)) (choice d p m (under K f s)) (choice d p m2 s)
    unfolding latest_now closed
    choosing true p m m2 e i h =
        alike K f (next r (choice true p m2 s)) (choice true p m (under K f s)) (choice true p m2 s)
        (unless_under K f false s s.spans (gives 21 s.stations))
        (λ z q. ap (attributes_by K) (rw q (uncounted 21 (block_heard z r bytes) (L z) refl)))
    choosing false true m m2 e i h = judging m m2 e i h
    choosing false false m m2 e i h =
        alike K f (next r (choice false false m2 s)) (choice false false m (under K f s)) (choice false false m2 s) refl
        (λ z q. ap (attributes_by K) (rw q (uncounted 7 (block_heard z r bytes) (L z) refl)))

    block-step : (m2 : Meaning) → meaning s.choice.known (block_of bytes) ≡ m2 → (m : Meaning) → meaning K (block_of bytes) ≡ m
        → Beside m m2 → ((outcome_of r (block_of bytes) s).result ≡ 8 → ⊥) → Stepped r
    unfolding outcome_of learning attributes_by
    block-step m2 e2 m e i h =
        rw (present_dressed f a s.stations, e2, e)
        (choosing (down s.choice.ticks (span_of n s.spans)) (present a s.stations) m m2 (ap attributes_from e) i (rw e2 at h))

-- One record.
module _ (K : List ℕ) (L : ℕ → Option (List ℕ)) (s : State) (bytes : List ℕ) (sub : Sub K s.choice.known)
    (new : (a : ℕ) → present a s.stations ≡ false → L a ≡ none) where
  absent_new : (a : ℕ) → present a s.stations ≡ false → attributes_by K (L a) ≡ absent
  unfolding attributes_by
  absent_new a h = rw (new a h)

  beside : (b : List ℕ) (m m2 : Meaning) → meaning K b ≡ m → meaning s.choice.known b ≡ m2 → Beside m m2
  beside b malformed malformed e q = tt
  beside b (aside t) malformed e q = tt
  beside b (shows es) malformed e q = tt
  beside b malformed (aside u) e q = (fewer K s.choice.known sub b (λ h. let z : ◌≡◌ {A = ℕ} 0 1 = cc in omega arith)).fine e
  beside b malformed (shows us) e q = (fewer K s.choice.known sub b (λ h. let z : ◌≡◌ {A = ℕ} 0 1 = cc in omega arith)).fine e
  beside b (aside t) (aside u) e q = tt
  beside b (aside t) (shows us) e q = tt
  beside b (shows es) (aside u) e q =
      let (ys, m, x) = (fewer K s.choice.known sub b (λ h. let z : ◌≡◌ {A = ℕ} 0 1 = cc in omega arith)).values es e in
      let z : ◌≡◌ {A = ℕ} 0 1 = cc in
      omega arith
  beside b (shows es) (shows us) e q = tt

  pub step : (r : Reading) → ((outcome_of r (block_of bytes) s).result ≡ 8 → ⊥) → Stepped K L s bytes r
  unfolding judged
  step (Refused n) h = other K L s bytes (Refused n) (λ a. refl) refl
  step Tick h =
      other K L s bytes Tick (λ a. refl)
      (ap (gives 0) (aged-dressed (λ (a : ℕ). attributes_by K (L a)) s.choice.ticks.forget s.stations))
  step (Link n x) h = other K L s bytes (Link n x) (λ a. refl) refl
  step (Keepalive n) h = other K L s bytes (Keepalive n) (λ a. refl) refl
  step (Operator n x) h = other K L s bytes (Operator n x) (λ a. refl) refl
  step (Heard n p) h =
      other K L s bytes (Heard n p) (λ a. refl)
      (hearing-dressed K (λ (a : ℕ). attributes_by K (L a)) s.choice.ticks n p (acted s.choice.ticks (Heard n p) s.spans) s.stations
      (absent_new p.address))
  step (Block n a) h =
      block-step K L s bytes n a (meaning s.choice.known (block_of bytes)) refl (meaning K (block_of bytes)) refl
      (beside (block_of bytes) (meaning K (block_of bytes)) (meaning s.choice.known (block_of bytes)) refl refl) h
