-- Whole histories: the smaller node's state is the larger's, dressed in what the smaller makes of the latest blocks. Assumes nothing.
use Prim.Native.Nat.{ℕ}
use mathlib.Core.Path.{◌≡◌, refl, sym, ◌∙◌, ap}
use mathlib.Core.Bool.{Bool, true, false, cond, true≢false}
use mathlib.Core.List.{List, [], ◌∷◌}
use mathlib.Core.Option.{Option, none, some, none-ne-some}
use lib.Dec.{eqb}
use Rattle.spans.specs.Requests.{down}
use Rattle.blocks.specs.Meaning.{malformed, meaning}
use Rattle.blocks.specs.Levels.{Sub}
use Rattle.stations.specs.declared.station.Station.{Station}
use Rattle.stations.specs.Stations.{present}
use Rattle.controller.specs.Reading.{Reading}
use Rattle.controller.specs.Reading.{Refused, Tick, Link, Keepalive, Operator, Heard, Block}
use Rattle.controller.specs.Reading.{block_of, reading}
use Rattle.controller.specs.State.{State, span_of}
use Rattle.controller.specs.Handling.{gives, learning}
use Rattle.controller.specs.Record.{Outcome, closed, unless_refused, outcome_of, outcome}
use Rattle.promises.specs.History.{Call, after, answered}
use Rattle.promises.specs.Levels.{NoEight, block_heard, taken_or_aside, newer, latest, dressed, Levelled, attributes_by, under}
use Rattle.promises.proofs.Demand2.AfterKept.{choice-after}
use Rattle.promises.proofs.Demand3.Step.{Alike, step}
use Rattle.promises.proofs.Demand3.Showing.{levelled}

-- A malformed block is neither taken nor set aside.
malformed_not : (n a : ℕ) (b : List ℕ) (s : State) → meaning s.choice.known b ≡ malformed
    → taken_or_aside (outcome_of (Block n a) b s).result ≡ false
unfolding outcome_of learning closed
malformed_not n a b s e = rw e (go (down s.choice.ticks (span_of n s.spans)) (present a s.stations))
  where
    choice : Bool → Bool → Outcome
    choice d p = unless_refused s false s.spans (cond d (gives 21 s.stations) (cond p (gives 8 s.stations) (gives 7 s.stations)))

    go : (d p : Bool) → taken_or_aside (choice d p).result ≡ false
    go true p = refl
    go false true = refl
    go false false = refl

not_taken : (r : Reading) (bytes : List ℕ) (s : State) (a : ℕ) (b : List ℕ) → meaning s.choice.known b ≡ malformed → block_heard a r bytes ≡ some b
    → taken_or_aside (outcome_of r (block_of bytes) s).result ≡ false
not_taken (Refused n) bytes s a b e h = absurd (none-ne-some b h)
not_taken Tick bytes s a b e h = absurd (none-ne-some b h)
not_taken (Link n x) bytes s a b e h = absurd (none-ne-some b h)
not_taken (Keepalive n) bytes s a b e h = absurd (none-ne-some b h)
not_taken (Operator n x) bytes s a b e h = absurd (none-ne-some b h)
not_taken (Heard n p) bytes s a b e h = absurd (none-ne-some b h)
not_taken (Block n x) bytes s a b e h = malformed_not n x (block_of bytes) s (go (eqb a x) h)
  where
    go : (q : Bool) → cond q (some (block_of bytes)) none ≡ some b → meaning s.choice.known (block_of bytes) ≡ malformed
    go true h = let z : block_of bytes ≡ b = cc in rw z e
    go false h = absurd (none-ne-some b h)

-- The latest block is that of the call, or the one before.
latest-from : (p t : Bool) (x : Option (List ℕ)) (b : List ℕ) (o : Option (List ℕ)) → cond p (newer (cond t x none) o) none ≡ some b
    → (x ≡ some b → t ≡ false) → o ≡ some b
latest-from true true none b o h k = h
latest-from true true (some x) b o h k = absurd (true≢false (k h))
latest-from true false x b o h k = h
latest-from false t x b o h k = absurd (none-ne-some b h)

-- A history of the larger node from the state s, in which the latest blocks of the stations are those of f.
module _ (f : ℕ → Option (List ℕ)) (s : State) (none-else : (a : ℕ) → present a s.stations ≡ false → f a ≡ none) where
  abbrev reading_of : List Call → Call → Reading
  reading_of h c = reading (after s h).choice.address c.bytes c.room

  -- A station that is not there has no block.
  latest-absent : (h : List Call) (a : ℕ) → present a (after s h).stations ≡ false → latest f s h a ≡ none
  unfolding after latest
  latest-absent [] a p = none-else a p
  latest-absent (c ∷ h) a p = rw p

  -- No latest block is malformed.
  latest-fine : ((a : ℕ) (b : List ℕ) → f a ≡ some b → meaning s.choice.known b ≡ malformed → ⊥)
      → (h : List Call) (a : ℕ) (b : List ℕ) → latest f s h a ≡ some b → meaning s.choice.known b ≡ malformed → ⊥
  unfolding latest outcome
  latest-fine first [] a b q e = first a b q e
  latest-fine first (c ∷ h) a b q e =
      let o : Outcome = outcome_of (reading_of h c) (block_of c.bytes) (after s h) in
      latest-fine first h a b
      (latest-from (present a o.state.stations) (taken_or_aside o.result) (block_heard a (reading_of h c) c.bytes) b (latest f s h a) q
      (not_taken (reading_of h c) c.bytes (after s h) a b (rw (choice-after s h) e))) e

  module _ (K : List ℕ) (sub : Sub K s.choice.known) where
    -- The smaller node at the start.
    abbrev smaller : State
    smaller = under K (λ (a : ℕ). attributes_by K (f a)) s

    still : (h : List Call) → Sub K (after s h).choice.known
    still h t e = rw (choice-after s h) (sub t e)

    pub answers : (h : List Call) (c : Call) → after smaller h ≡ under K (λ (a : ℕ). attributes_by K (latest f s h a)) (after s h)
        → ((answered s h c).result ≡ 8 → ⊥)
        → Alike K (λ (a : ℕ). attributes_by K (latest f s (c ∷ h) a)) (answered smaller h c) (answered s h c)
    unfolding latest outcome
    answers h c e n = rw e (step K (latest f s h) (after s h) c.bytes (still h) (latest-absent h) (reading_of h c) n)

    pub follows : (h : List Call) → NoEight s h → after smaller h ≡ under K (λ (a : ℕ). attributes_by K (latest f s h a)) (after s h)
    unfolding after latest NoEight
    follows [] n = refl
    follows (c ∷ h) n = (answers h c (follows h n.1) n.0).state

-- From any start: s is the larger node, f gives the latest blocks of its stations, and its attributes are those of f.
module _ (f : ℕ → Option (List ℕ)) (s : State) (none-else : (a : ℕ) → present a s.stations ≡ false → f a ≡ none)
    (first : (a : ℕ) (b : List ℕ) → f a ≡ some b → meaning s.choice.known b ≡ malformed → ⊥)
    (own : dressed (λ (a : ℕ). attributes_by s.choice.known (f a)) s.stations ≡ s.stations) where
  -- The larger node's attributes are a function of its latest blocks too: it is the case of K being all that it knows.
  own_after : (h : List Call) → NoEight s h
      → dressed (λ (a : ℕ). attributes_by (after s h).choice.known (latest f s h a)) (after s h).stations ≡ (after s h).stations
  own_after h n =
      let K : List ℕ = s.choice.known in
      let e : under K (λ (a : ℕ). attributes_by K (f a)) s ≡ s =
      ap (λ (l : List Station). record { choice = s.choice; spans = s.spans; stations = l; pacer = s.pacer }) own in
      let q : after s h ≡ under K (λ (a : ℕ). attributes_by K (latest f s h a)) (after s h) =
      ap (λ (x : State). after x h) (sym e) ∙ follows f s none-else K (λ t k. k) h n in
      rw (choice-after s h) (ap (λ (x : State). x.stations) (sym q))

  pub levels : (K : List ℕ) → Sub K s.choice.known → (h : List Call) → NoEight s h
      → Levelled K (latest f s h) (after (under K (λ (a : ℕ). attributes_by K (f a)) s) h) (after s h)
  levels K sub h n =
      levelled K (latest f s h) (after s h) (still f s none-else K sub h) (latest-absent f s none-else h)
      (λ a b q e. latest-fine f s none-else first h a b q (rw (choice-after s h) at e)) (after (under K (λ (a : ℕ). attributes_by K (f a)) s) h)
      (follows f s none-else K sub h n) (own_after h n)
