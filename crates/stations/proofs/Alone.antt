-- Where hops stand apart, step (e) of a report touches one station at most: who is spared, and what becomes of the list. Assumes nothing.
use Rattle.std.proofs.Common.{◌≡◌, ℕ, zero, suc, ◌+◌, ◌<◌, ◌≤◌, Bool, true, false, cond, not, eqb, ltb, List, [], ◌∷◌, length, get_or, set, sym, refl, ap, ◌∙◌, arith, length-set, get_or-set_other, get_or-set_same, ltb-false, ltb-true, ne_eqb, eqb-true}
use borrow.Author.Tests.{eqb-false}
use Rattle.std.proofs.lemmas.List.Quantifiers.{position-Some}
use Rattle.stations.specs.Station.{Station, Report, hop, placed_somewhere, with_hop}
use Rattle.stations.specs.Stations.{sifted, unpurged, other_at, undisplaced, losing, displaced}
use Rattle.std.specs.Prelude.{Option, Some, None}
use Rattle.std.specs.List.{remove, position, position_or_len}
use Rattle.stations.specs.Steps.{at_hop, Spared, Sole, Alone}
use Rattle.stations.specs.Table.{Each, Apart, blank}
use Rattle.stations.proofs.Ranks.{each_at}
use Rattle.stations.proofs.Sifting.{sifted_same}
use Rattle.stations.proofs.Renewing.{own_not_other}

-- Who is spared: no other at the report's hop.
pub spared_own : (p : Report) (s : Station) → other_at p s ≡ false → Spared p s
spared_own p s e = (rw e, rw e)

pub spared_away : (p : Report) (s : Station) → (hop p.ringlet s ≡ p.hop → ⊥) → Spared p s
spared_away p s away = spared_own p s (rw (ne_eqb (hop p.ringlet s) p.hop away))

-- The stations below a place are spared.
abbrev pub Below : Report → List Station → ℕ → Type 0
Below p l i = (j : ℕ) → j < i → Spared p (get_or l j blank)

apart_at : (r : ℕ) (l : List Station) (i j : ℕ) → Apart r l → i < j → j < length l → hop r (get_or l j blank) ≡ hop r (get_or l i blank)
    → hop r (get_or l i blank) ≡ 0
unfolding Apart
apart_at r [] i j a lt h e = absurd (omega arith)
apart_at r (s ∷ l) i zero a lt h e = absurd (omega arith)
apart_at r (s ∷ l) zero (suc j) a lt h e = each_at (λ (x : Station). hop r x ≡ hop r s → hop r s ≡ 0) l j blank a.0 (omega arith) e
apart_at r (s ∷ l) (suc i) (suc j) a lt h e = apart_at r l i j a.1 (omega arith) (omega arith) e

-- One place alone: the first at the report's hop, or none.
pub sole_here : (p : Report) (l : List Station) (i : ℕ) → Apart p.ringlet l → (p.hop ≡ 0 → ⊥) → Below p l i
    → hop p.ringlet (get_or l i blank) ≡ p.hop → Sole p i l
sole_here p l i apart some below is j inside other = go (ltb j i) refl
  where
    go : (b : Bool) → ltb j i ≡ b → Spared p (get_or l j blank)
    go true z = below j (ltb-true j i z)
    go false z =
        spared_away p (get_or l j blank)
        (λ e. some (sym is ∙ apart_at p.ringlet l i j apart (omega (arith, other, ltb-false j i z)) inside (e ∙ sym is)))

pub sole_past : (p : Report) (l : List Station) (i : ℕ) → length l ≤ i → Below p l i → Sole p i l
sole_past p l i past below j inside other = below j (omega arith)

-- The station of the report's own address is spared, whatever else changes of it.
pub sole_set : (p : Report) (o at : ℕ) (s : Station) (l : List Station) → Sole p o l → at < length l → s.address ≡ p.address → Sole p o (set l at s)
sole_set p o at s l sole there own i inside other = go (eqb i at) refl
  where
    go : (b : Bool) → eqb i at ≡ b → Spared p (get_or (set l at s) i blank)
    go true z =
        let same : i ≡ at = eqb-true i at z in
        rw (same, get_or-set_same l at s blank there) (spared_own p s (own_not_other p s own))
    go false z = rw (get_or-set_other l at i s blank (eqb-false i at z)) (sole i (rw (length-set l at s) at inside) other)

each_by : (P : Station → Type 0) (l : List Station) → ((i : ℕ) → i < length l → P (get_or l i blank)) → Each P l
unfolding Each
each_by P [] h = tt
each_by P (s ∷ l) h = (h 0 (omega arith), each_by P l (λ i q. h (suc i) (omega arith)))

-- What becomes of the list.
module _ (p : Report) where
  displaced_spared : (l : List Station) → ((i : ℕ) → i < length l → Spared p (get_or l i blank)) → displaced p l ≡ l
  unfolding displaced
  displaced_spared l h = sifted_same (undisplaced p) (losing p) l (each_by (Spared p) l h)

  -- Nobody is there ..
  pub sole_none : (o : ℕ) (l : List Station) → Sole p o l → length l ≤ o → displaced p l ≡ l
  sole_none o l sole past = displaced_spared l (λ i q. sole i q (λ e. omega arith))

  -- .. or one who is spared too ..
  pub sole_spared : (o : ℕ) (l : List Station) → Sole p o l → Spared p (get_or l o blank) → displaced p l ≡ l
  sole_spared o l sole here = displaced_spared l (λ i q. go i q (eqb i o) refl)
    where
      go : (i : ℕ) → i < length l → (b : Bool) → eqb i o ≡ b → Spared p (get_or l i blank)
      go i q true z = let same : i ≡ o = eqb-true i o z in rw same here
      go i q false z = sole i q (eqb-false i o z)

  -- .. or one who stays and alone changes ..
  pub sole_stays : (o : ℕ) (l : List Station) → Sole p o l → o < length l → undisplaced p (get_or l o blank) ≡ true
      → set l o (losing p (get_or l o blank)) ≡ displaced p l
  unfolding displaced sifted
  sole_stays o [] sole h stays = absurd (omega arith)
  sole_stays zero (s ∷ l) sole h stays =
      rw stays (ap (λ (m : List Station). losing p s ∷ m) (sym (displaced_spared l (λ i q. sole (suc i) (omega arith) (λ e. omega arith)))))
  sole_stays (suc o) (s ∷ l) sole h stays =
      let (still, same) = sole 0 (omega arith) (λ e. omega arith) in
      rw (still, same)
      (ap (λ (m : List Station). s ∷ m) (sole_stays o l (λ i q n. sole (suc i) (omega arith) (λ e. n (omega arith))) (omega arith) stays))

  -- .. or one who leaves.
  pub sole_leaves : (o : ℕ) (l : List Station) → Sole p o l → o < length l → undisplaced p (get_or l o blank) ≡ false → remove l o ≡ displaced p l
  unfolding displaced sifted
  sole_leaves o [] sole h leaves = absurd (omega arith)
  sole_leaves zero (s ∷ l) sole h leaves = rw leaves (sym (displaced_spared l (λ i q. sole (suc i) (omega arith) (λ e. omega arith))))
  sole_leaves (suc o) (s ∷ l) sole h leaves =
      let (still, same) = sole 0 (omega arith) (λ e. omega arith) in
      rw (still, same)
      (ap (λ (m : List Station). s ∷ m) (sole_leaves o l (λ i q n. sole (suc i) (omega arith) (λ e. n (omega arith))) (omega arith) leaves))

-- An other stays as a purge of the ringlet would have it.
pub other_stays : (p : Report) (s : Station) → other_at p s ≡ true → (undisplaced p s ≡ unpurged p.ringlet s) × (losing p s ≡ with_hop p.ringlet 0 s)
other_stays p s e = (rw e, rw e)

before_first : (test : Station → Bool) (l : List Station) (j : ℕ) → j < position_or_len test l → test (get_or l j blank) ≡ false
before_first test [] j h = absurd (omega arith)
before_first test (s ∷ l) zero h = go (test s) refl h
  where
    go : (b : Bool) → test s ≡ b → 0 < cond (not b) (1 + position_or_len test l) 0 → test s ≡ false
    go true e q = absurd (omega arith)
    go false e q = e
before_first test (s ∷ l) (suc j) h = go (test s) h (before_first test l j)
  where
    go : (b : Bool) → suc j < cond (not b) (1 + position_or_len test l) 0 → (j < position_or_len test l → test (get_or l j blank) ≡ false)
        → test (get_or l j blank) ≡ false
    go true q ih = absurd (omega arith)
    go false q ih = ih (omega arith)

-- The first station at the report's hop is the only one there: who else stands in the table is spared.
module _ (p : Report) (some : p.hop ≡ 0 → ⊥) (l : List Station) (apart : Apart p.ringlet l) where
  away : (i : ℕ) → at_hop p (get_or l i blank) ≡ false → Spared p (get_or l i blank)
  away i h = spared_away p (get_or l i blank) (eqb-false (hop p.ringlet (get_or l i blank)) p.hop h)

  pub alone : (o : Option ℕ) → o ≡ position (at_hop p) l → Alone p o l
  alone (Some i) e =
      let (inside, here, before) = position-Some (at_hop p) l i blank (sym e) in
      (inside, sole_here p l i apart some (λ j h. away j (before j h)) (eqb-true (hop p.ringlet (get_or l i blank)) p.hop here))
  alone None e = sole_past p l (length l) (omega arith) (λ j h. away j (position-none j h))
    where
      ends : (n m : ℕ) → None ≡ cond {A = Option ℕ} (ltb n m) (Some n) None → m ≤ n
      ends n m h = go (ltb n m) refl h
        where
          go : (b : Bool) → ltb n m ≡ b → None ≡ cond {A = Option ℕ} b (Some n) None → m ≤ n
          go true q z = absurd cc
          go false q z = ltb-false n m q

      position-none : (j : ℕ) → j < length l → at_hop p (get_or l j blank) ≡ false
      position-none j h = before_first (at_hop p) l j (omega (arith, ends (position_or_len (at_hop p) l) (length l) e))

-- Where a station changes and keeps the report's address, still one alone may be another at the report's hop.
pub alone_set : (p : Report) (o : Option ℕ) (at : ℕ) (s : Station) (l : List Station) → Alone p o l → at < length l → s.address ≡ p.address
    → Alone p o (set l at s)
alone_set p None at s l sole there own =
    λ i inside other. sole_set p (length l) at s l sole there own i inside (λ e. other (e ∙ sym (length-set l at s)))
alone_set p (Some o) at s l (within, sole) there own = (rw (length-set l at s) within, sole_set p o at s l sole there own)

-- What (e) leaves: all, where nobody or the station itself is at the hop; one without the hop; or one less.
module _ (p : Report) (l : List Station) where
  pub displaced-none : Alone p None l → l ≡ displaced p l
  displaced-none a = sym (sole_none p (length l) l a (omega arith))

  module _ (o : ℕ) (a : Alone p (Some o) l) where
    abbrev pub s : Station
    s = get_or l o blank

    pub displaced_own : other_at p s ≡ false → l ≡ displaced p l
    displaced_own e = sym (sole_spared p o l a.1 (spared_own p s e))

    pub displaced_clear : other_at p s ≡ true → placed_somewhere (with_hop p.ringlet 0 s) ≡ true → set l o (with_hop p.ringlet 0 s) ≡ displaced p l
    displaced_clear e stays =
        ap (λ (x : Station). set l o x) (sym (other_stays p s e).1) ∙ sole_stays p o l a.1 a.0 ((other_stays p s e).0 ∙ stays)

    pub displaced_remove : other_at p s ≡ true → placed_somewhere (with_hop p.ringlet 0 s) ≡ false → remove l o ≡ displaced p l
    displaced_remove e leaves = sole_leaves p o l a.1 a.0 ((other_stays p s e).0 ∙ leaves)
