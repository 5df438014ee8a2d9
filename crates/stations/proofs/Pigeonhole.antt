-- Each station holds a hop of a ringlet that no other holds, and there are 126 of those. Assumes nothing.
use Rattle.std.proofs.Common.{◌≡◌, ℕ, zero, suc, ◌+◌, ◌≤◌, Bool, true, false, cond, not, eqb, List, [], ◌∷◌, length, refl, arith, eqb-true}
use mathlib.Core.Bool.{false≢true}
use borrow.Author.Tests.{eqb-false}
use Rattle.stations.specs.Station.{Station, farthest, hop, placed_somewhere}
use Rattle.stations.specs.Table.{Each, Apart, Near}
use Rattle.stations.proofs.Lists.{chosen, each_both}

-- Numbers of which each is in a range, and none comes twice.
unfoldable All : (ℕ → Type 0) → List ℕ → Type 0
All P [] = Unit {0}
All P (x ∷ l) = P x × All P l

unfoldable Once : List ℕ → Type 0
unfolding All
Once [] = Unit {0}
Once (x ∷ l) = All (λ (y : ℕ). y ≡ x → ⊥) l × Once l

abbrev UpTo : ℕ → ℕ → Type 0
UpTo n y = (1 ≤ y) × (y ≤ n)

-- Without the first that is n.
unfoldable without : ℕ → List ℕ → List ℕ
without n [] = []
without n (x ∷ l) = cond (eqb x n) l (x ∷ without n l)

module _ (n : ℕ) where
  without-length : (l : List ℕ) → length l ≤ suc (length (without n l))
  unfolding without
  without-length [] = omega arith
  without-length (x ∷ l) =
      let rest : length l ≤ suc (length (without n l)) = without-length l in
      chosen (λ (m : List ℕ). suc (length l) ≤ suc (length m)) (eqb x n) (λ h. omega arith) (λ h. omega arith)

  without_all : (P : ℕ → Type 0) (l : List ℕ) → All P l → All P (without n l)
  unfolding All without
  without_all P [] a = tt
  without_all P (x ∷ l) a = chosen (All P) (eqb x n) (λ h. a.1) (λ h. (a.0, without_all P l a.1))

  without_once : (l : List ℕ) → Once l → Once (without n l)
  unfolding Once without
  without_once [] o = tt
  without_once (x ∷ l) o =
      chosen Once (eqb x n) (λ h. o.1) (λ h. (without_all (λ (y : ℕ). y ≡ x → ⊥) l o.0, without_once l o.1))

  -- Those that are not the highest are lower.
  below : (l : List ℕ) → All (λ (y : ℕ). y ≡ suc n → ⊥) l → All (UpTo (suc n)) l → All (UpTo n) l
  unfolding All
  below [] d a = tt
  below (x ∷ l) d a = ((a.0.0, omega (arith, a.0.1, d.0)), below l d.1 a.1)

without-low : (n : ℕ) (l : List ℕ) → Once l → All (UpTo (suc n)) l → All (UpTo n) (without (suc n) l)
unfolding All Once without
without-low n [] o a = tt
without-low n (x ∷ l) o a = go (eqb x (suc n)) refl (without-low n l o.1 a.1)
  where
    go : (b : Bool) → eqb x (suc n) ≡ b → All (UpTo n) (without (suc n) l) → All (UpTo n) (cond b l (x ∷ without (suc n) l))
    go true z rest = let is : x ≡ suc n = eqb-true x (suc n) z in below n l (rw is at o.0) a.1
    go false z rest = ((a.0.0, omega (arith, a.0.1, eqb-false x (suc n) z)), rest)

-- Numbers from 1 to n, none twice, are at most n.
at_most : (n : ℕ) (l : List ℕ) → Once l → All (UpTo n) l → length l ≤ n
unfolding All
at_most zero [] o a = omega arith
at_most zero (x ∷ l) o a = absurd (omega (arith, a.0.0, a.0.1))
at_most (suc n) l o a =
    omega (arith, without-length (suc n) l, at_most n (without (suc n) l) (without_once (suc n) l o) (without-low n l o a))

-- The slot that a station holds: its hop on ringlet 0, and those of ringlet 1 come behind.
abbrev slot : Station → ℕ
slot s = cond (eqb s.hop0 0) (farthest + s.hop1) s.hop0

unfoldable slots : List Station → List ℕ
slots [] = []
slots (s ∷ l) = slot s ∷ slots l

slots_long : (l : List Station) → length (slots l) ≡ length l
unfolding slots
slots_long [] = refl
slots_long (s ∷ l) = rw (slots_long l)

slots-all : (P : Station → Type 0) (Q : ℕ → Type 0) → ((s : Station) → P s → Q (slot s)) → (l : List Station) → Each P l → All Q (slots l)
unfolding All Each slots
slots-all P Q k [] e = tt
slots-all P Q k (s ∷ l) e = (k s e.0, slots-all P Q k l e.1)

-- A station of which so much is known: it has a hop, and none beyond the farthest.
abbrev pub Hopped : Station → Type 0
Hopped s = (placed_somewhere s ≡ true) × Near s

on_1 : (s : Station) → placed_somewhere s ≡ true → eqb s.hop0 0 ≡ true → 1 ≤ s.hop1
on_1 s here e = go (eqb s.hop1 0) refl (rw e at here)
  where
    go : (b : Bool) → eqb s.hop1 0 ≡ b → not b ≡ true → 1 ≤ s.hop1
    go true f h = absurd (false≢true h)
    go false f h = omega (arith, eqb-false s.hop1 0 f)

slot_in : (s : Station) → Hopped s → UpTo (farthest + farthest) (slot s)
slot_in s (here, near) = go (eqb s.hop0 0) refl
  where
    go : (b : Bool) → eqb s.hop0 0 ≡ b → UpTo (farthest + farthest) (cond b (farthest + s.hop1) s.hop0)
    go true e = (omega (arith, on_1 s here e), omega (arith, near.1))
    go false e = (omega (arith, eqb-false s.hop0 0 e), omega (arith, near.0))

-- Stations that share no hop hold different slots ..
slot_apart : (s x : Station) → Hopped s → Hopped x → (hop 0 x ≡ hop 0 s → hop 0 s ≡ 0) → (hop 1 x ≡ hop 1 s → hop 1 s ≡ 0) → slot x ≡ slot s → ⊥
slot_apart s x (here, near) (there, near') a b = go (eqb s.hop0 0) refl (eqb x.hop0 0) refl
  where
    go : (i : Bool) → eqb s.hop0 0 ≡ i → (j : Bool) → eqb x.hop0 0 ≡ j
        → cond j (farthest + x.hop1) x.hop0 ≡ cond i (farthest + s.hop1) s.hop0 → ⊥
    go true e true f z = let none : s.hop1 ≡ 0 = b (omega arith) in omega (arith, on_1 s here e)
    go true e false f z = omega (arith, on_1 s here e, near'.0)
    go false e true f z = omega (arith, on_1 x there f, near.0)
    go false e false f z = eqb-false s.hop0 0 e (a z)

-- .. and none holds one that is free.
slot_free : (q h : ℕ) (s : Station) → Hopped s → 1 ≤ h → h ≤ farthest → (hop q s ≡ h → ⊥) → slot s ≡ cond (eqb q 0) h (farthest + h) → ⊥
slot_free q h s (here, near) some low away = go (eqb q 0) (eqb s.hop0 0) refl away
  where
    go : (r b : Bool) → eqb s.hop0 0 ≡ b → (cond r s.hop0 s.hop1 ≡ h → ⊥) → cond b (farthest + s.hop1) s.hop0 ≡ cond r h (farthest + h) → ⊥
    go true true e w z = omega (arith, on_1 s here e)
    go true false e w z = w z
    go false true e w z = w (omega arith)
    go false false e w z = omega (arith, near.0)

slots_once : (l : List Station) → ((ringlet : ℕ) → Apart ringlet l) → Each Hopped l → Once (slots l)
unfolding Once Each Apart slots
slots_once [] apart e = tt
slots_once (s ∷ l) apart e = (
  slots-all Other (λ (y : ℕ). y ≡ slot s → ⊥) (λ x (h, a, b). slot_apart s x e.0 h a b) l
      (each_both Hopped Unshared Other (λ x h u. (h, u.0, u.1)) l e.1 (each_both Unshared0 Unshared1 Unshared (λ x a b. (a, b)) l (apart 0).0 (apart 1).0)),
  slots_once l (λ r. (apart r).1) e.1,
)
  where
    Unshared0 : Station → Type 0
    Unshared0 x = hop 0 x ≡ hop 0 s → hop 0 s ≡ 0

    Unshared1 : Station → Type 0
    Unshared1 x = hop 1 x ≡ hop 1 s → hop 1 s ≡ 0

    Unshared : Station → Type 0
    Unshared x = Unshared0 x × Unshared1 x

    Other : Station → Type 0
    Other x = Hopped x × Unshared0 x × Unshared1 x

module _ (l : List Station) (apart : (ringlet : ℕ) → Apart ringlet l) (e : Each Hopped l) where
  -- Stations with a hop from 1 to 63 on one of two ringlets, no hop shared, are at most 126 ..
  pub at-most_126 : length l ≤ 126
  at-most_126 =
      omega (arith, slots_long l, at_most (farthest + farthest) (slots l) (slots_once l apart e) (slots-all Hopped (UpTo (farthest + farthest)) slot_in l e))

  -- .. and with one (ringlet, hop) slot free at most 125.
  pub at-most_125 : (q h : ℕ) → 1 ≤ h → h ≤ farthest → Each (λ (s : Station). hop q s ≡ h → ⊥) l → length l ≤ 125
  unfolding All Once
  at-most_125 q h some low free =
      let f : ℕ = cond (eqb q 0) h (farthest + h) in
      let in_range_lem : UpTo (farthest + farthest) f =
      chosen (UpTo (farthest + farthest)) (eqb q 0) (λ z. (some, omega arith)) (λ z. (omega arith, omega arith)) in
      let others : All (λ (y : ℕ). y ≡ f → ⊥) (slots l) =
      slots-all (λ (s : Station). Hopped s × (hop q s ≡ h → ⊥)) (λ (y : ℕ). y ≡ f → ⊥) (λ s (k, away). slot_free q h s k some low away) l
      (each_both Hopped (λ (s : Station). hop q s ≡ h → ⊥) (λ (s : Station). Hopped s × (hop q s ≡ h → ⊥)) (λ s k away. (k, away)) l e free) in
      let few : suc (length (slots l)) ≤ farthest + farthest =
      at_most (farthest + farthest) (f ∷ slots l) (others, slots_once l apart e) (in_range_lem, slots-all Hopped (UpTo (farthest + farthest)) slot_in l e) in
      omega (arith, slots_long l)
