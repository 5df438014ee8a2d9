-- The places by hop, filled from the last station to the first, say what a search of the list for the first station at a hop says. Assumes nothing.
use Rattle.std.proofs.Common.{◌≡◌, ℕ, suc, ◌+◌, ◌-◌, ◌<◌, ◌≤◌, Bool, true, false, cond, List, [], ◌∷◌, ◌++◌, length, get_or, set, slice_get, Some, None, refl, sym, ap, ◌∙◌, append_assoc, append-nil, length-append, arith, eqb, take, drop, one-add, length-take-le, length-drop, get_or-take, get_or-drop, get_or-set_same, get_or-set_other}
use Rattle.std.specs.Prelude as prelude
use mathlib.Core.Option.{Option, none, some}
use lib.ListN.{length-set, get_or-replicate}
use borrow.Author.Tests.{eqb-true, eqb-false}
use Rattle.std.proofs.lemmas.Option.{slice_get_past, slice_get_read}
use Rattle.stations.specs.Station.{hop}
use Rattle.stations.specs.declared.station.Station.{Station}
use Rattle.stations.specs.Stations.{capacity}
use Rattle.ways.specs.Walk.{Ends, held}
use Rattle.ways.specs.Steps.{slots, ends_of}

-- The place of the first station at a hop, the first of the list at place i; 255 for none.
unfoldable place_of : ℕ → ℕ → ℕ → List Station → ℕ
place_of r j i [] = 255
place_of r j i (s ∷ l) = cond (eqb (hop r s) j) i (place_of r j (suc i) l)

slots_long : (r i : ℕ) (l : List Station) → length (slots r i l) ≡ 256
unfolding slots
slots_long r i [] = refl
slots_long r i (s ∷ l) = rw length-set (slots_long r (suc i) l)

slot_read : (r j i : ℕ) (l : List Station) → j < 256 → get_or (slots r i l) j 0 ≡ place_of r j i l
unfolding slots place_of
slot_read r j i [] low = get_or-replicate 256 j 255 0 low
slot_read r j i (s ∷ l) low = go (eqb (hop r s) j) refl (slot_read r j (suc i) l low)
  where
    go : (b : Bool) → eqb (hop r s) j ≡ b → get_or (slots r (suc i) l) j 0 ≡ place_of r j (suc i) l
        → get_or (set (slots r (suc i) l) (hop r s) i) j 0 ≡ cond b i (place_of r j (suc i) l)
    go true p ih =
        let q : hop r s ≡ j = eqb-true _ _ p in
        rw q (get_or-set_same (slots r (suc i) l) j i 0 (omega (arith, slots_long r (suc i) l)))
    go false p ih = get_or-set_other (slots r (suc i) l) (hop r s) j i 0 (λ q. eqb-false _ _ p (sym q)) ∙ ih

-- Every station has a place below the capacity, so that 255 says that none holds the hop.
place_low : (r j i : ℕ) (l : List Station) → i + length l ≤ capacity → i ≤ place_of r j i l
unfolding place_of
place_low r j i [] room = omega arith
place_low r j i (s ∷ l) room = go (eqb (hop r s) j) (place_low r j (suc i) l (omega arith))
  where
    go : (b : Bool) → suc i ≤ place_of r j (suc i) l → i ≤ cond b i (place_of r j (suc i) l)
    go true h = omega arith
    go false h = omega arith

-- Who holds a hop, where a station stands at its place, and where none does.
abbrev pub held_by : prelude.Option Station → Option Ends
held_by None = none
held_by (Some s) = some (ends_of s)

place_held : (r j i : ℕ) (l : List Station) → i + length l ≤ capacity → held r j l ≡ held_by (slice_get l (place_of r j i l - i))
unfolding place_of held
place_held r j i [] room = refl
place_held r j i (s ∷ l) room = go (eqb (hop r s) j) (place_low r j (suc i) l (omega arith)) (place_held r j (suc i) l (omega arith))
  where
    go : (b : Bool) → suc i ≤ place_of r j (suc i) l → held r j l ≡ held_by (slice_get l (place_of r j (suc i) l - suc i))
        → cond b (some (ends_of s)) (held r j l) ≡ held_by (slice_get (s ∷ l) (cond b i (place_of r j (suc i) l) - i))
    go true low ih = let z : i - i ≡ 0 = omega arith in rw z
    go false low ih =
        let z : place_of r j (suc i) l - i ≡ suc (place_of r j (suc i) l - suc i) = omega (arith, low) in
        rw z ih

-- The stations behind those ahead are in the index.
pub record Filled (r : ℕ) (l ahead : List Station) (x : List ℕ) : Type 0 where
  pub behind : List Station
  pub split : l ≡ ahead ++ behind
  pub is : x ≡ slots r (length ahead) behind

-- No station yet: at every hop 255.
pub filled_none : (r : ℕ) (l : List Station) → Filled r l l (prelude.replicate 256 255)
unfolding slots
filled_none r l = record { behind = []; split = sym (append-nil l); is = refl }

-- One station more, before the others.
pub filled_more : {r h i : ℕ} {l ahead left : List Station} {x : List ℕ} (s : Station) → Filled r l ahead x → ahead ≡ left ++ s ∷ []
    → h ≡ hop r s → i ≡ length left → Filled r l left (set x h i)
unfolding slots
filled_more {r} {h} {i} {l} {ahead} {left} {x} s f q qh qi = record {
  behind = s ∷ f.behind;
  split = f.split ∙ ap (λ (a : List Station). a ++ f.behind) q ∙ append_assoc left (s ∷ []) f.behind;
  is = let n : length ahead ≡ suc (length left) = omega (arith, ap length q, length-append left (s ∷ [])) in rw (qh, qi, f.is, n);
}

-- No station left.
pub filled_all : {r : ℕ} {l ahead : List Station} {x : List ℕ} → Filled r l ahead x → length ahead ≡ 0 → x ≡ slots r 0 l
filled_all {r} {l} {ahead} {x} f z = go ahead f z
  where
    go : (a : List Station) → Filled r l a x → length a ≡ 0 → x ≡ slots r 0 l
    go [] f z = f.is ∙ ap (slots r 0) (sym f.split)
    go (s ∷ a) f z = absurd (omega arith)

-- The hops from hop 1 on.
pub hops_long : (n : ℕ) (x : List ℕ) → length x ≡ 256 → n < 256 → length (take n (drop 1 x)) ≡ n
hops_long n x long low = length-take-le n (drop 1 x) (omega (arith, length-drop 1 x, long))

-- Place k is what an index says of the j-th of n hops from hop 1 on.
pub record Says (r j n k : ℕ) (l : List Station) : Type 0 where
  pub low : j < n
  pub held_is : held r (suc j) l ≡ held_by (slice_get l k)

pub says : {x : List ℕ} {k : ℕ} (r j n : ℕ) (l : List Station) → x ≡ slots r 0 l → length l ≤ capacity → n < 256 → j < length (take n (drop 1 x))
    → k ≡ get_or (take n (drop 1 x)) j 0 → Says r j n k l
says {x} {k} r j n l q few fits inside is =
    let low : j < n = omega (arith, inside, hops_long n x (rw q (slots_long r 0 l)) fits) in
    let read : k ≡ get_or x (suc j) 0 = is ∙ get_or-take n (drop 1 x) j 0 low ∙ get_or-drop 1 x j 0 ∙ ap (λ (i : ℕ). get_or x i 0) (one-add j) in
    let place : k ≡ place_of r (suc j) 0 l = read ∙ ap (λ (y : List ℕ). get_or y (suc j) 0) q ∙ slot_read r (suc j) 0 l (omega (arith, low)) in
    let z : place_of r (suc j) 0 l - 0 ≡ k = omega (arith, place) in
    record { low = low; held_is = rw z at (place_held r (suc j) 0 l (omega (arith, few))) }

-- No station stands there ..
pub hop_free : {r j n k : ℕ} {l : List Station} → Says r j n k l → length l ≤ k → held r (suc j) l ≡ none
hop_free {r} {j} {n} {k} {l} i past = i.held_is ∙ ap held_by (slice_get_past l k past)

-- .. or s does.
pub hop_held : {r j n k : ℕ} {l : List Station} (s : Station) → Says r j n k l → k < length l → s ≡ get_or l k s → held r (suc j) l ≡ some (ends_of s)
hop_held {r} {j} {n} {k} {l} s i stands same = i.held_is ∙ ap held_by (slice_get_read l (length l) k s refl stands same)
