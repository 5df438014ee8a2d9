-- Places that hand a station on, up for one that comes and down for one that leaves. Assumes nothing.
use Rattle.std.proofs.Common.{◌≡◌, ℕ, zero, suc, ◌+◌, ◌-◌, ◌<◌, ◌≤◌, List, [], ◌∷◌, ◌++◌, length, take, drop, get_or, set, refl, sym, ap, ◌∙◌, arith}
use Rattle.std.proofs.lemmas.List.{length-drop, take_all, take-take}
use Rattle.std.specs.List.{insert, remove}
use Rattle.std.proofs.lemmas.List.Edits.{insert_end}
use Rattle.stations.specs.Station.{Station}

-- A place takes the station that is handed on, and hands on its own: to the next place, or to the one before.
up : (l : List Station) (i : ℕ) (s d : Station) → i < length l → insert (set l i s) (suc i) (get_or l i d) ≡ insert l i s
up [] i s d h = absurd (omega arith)
up (x ∷ l) zero s d h = refl
up (x ∷ l) (suc i) s d h = ap (λ (m : List Station). x ∷ m) (up l i s d (omega arith))

down : (l : List Station) (i : ℕ) (s d : Station) → i < length l → insert (set l i s) i (get_or l i d) ≡ insert l (suc i) s
down [] i s d h = absurd (omega arith)
down (x ∷ l) zero s d h = refl
down (x ∷ l) (suc i) s d h = ap (λ (m : List Station). x ∷ m) (down l i s d (omega arith))

pub handed_up : (l : List Station) (i : ℕ) (s d : Station) → i < length l → insert (set l i s) (i + 1) (get_or l i d) ≡ insert l i s
handed_up l i s d h = let next : i + 1 ≡ suc i = omega arith in rw next (up l i s d h)

pub handed_down : (l : List Station) (i : ℕ) (s d : Station) → 0 < i → i ≤ length l → insert (set l (i - 1) s) (i - 1) (get_or l (i - 1) d) ≡ insert l i s
handed_down l i s d some h = let next : i ≡ suc (i - 1) = omega arith in down l (i - 1) s d (omega arith) ∙ rw (← next) refl

-- Behind the last place, and before the first.
pub handed_back : (l : List Station) (i : ℕ) (s : Station) → length l ≤ i → i ≤ length l → l ++ (s ∷ []) ≡ insert l i s
handed_back l i s low high = let last : i ≡ length l = omega arith in rw last (sym (insert_end l s))

pub handed_out : (l : List Station) (i : ℕ) (s : Station) → i ≤ 0 → s ∷ l ≡ insert l i s
handed_out l i s low = let first : i ≡ 0 = omega arith in rw first refl

-- What is left when the places from one on have handed down and the last one is given up.
front : (l a b c : List Station) → take (length l) (((l ++ a) ++ b) ++ c) ≡ l
front [] a b c = refl
front (x ∷ l) a b c = ap (λ (m : List Station). x ∷ m) (front l a b c)

closed : (l : List Station) (at : ℕ) (s r : Station) (m b c : List Station) → at < length l → r ∷ m ≡ drop at l ++ (s ∷ [])
    → take (length l - 1) ((take at l ++ (m ++ b)) ++ c) ≡ remove l at
closed [] at s r m b c h e = absurd (omega arith)
closed (x ∷ l) zero s r m b c h e =
    let rest : m ≡ l ++ (s ∷ []) = ap (drop 1) e in
    let few : suc (length l) - 1 ≡ length l = omega arith in
    rw (few, rest) (front l (s ∷ []) b c)
closed (x ∷ l) (suc at) s r m b c h e =
    let few : suc (length l) - 1 ≡ suc (length l - 1) = omega arith in
    rw few (ap (λ (k : List Station). x ∷ k) (closed l at s r m b c (omega arith) e))

pub closed_up : (l : List Station) (at : ℕ) (s r : Station) (m b c : List Station) → at < length l → r ∷ m ≡ take (length l - at) (drop at l) ++ (s ∷ [])
    → take (length l - 1) (take (length l) ((take at l ++ (m ++ b)) ++ c)) ≡ remove l at
closed_up l at s r m b c h e =
    let all : take (length l - at) (drop at l) ≡ drop at l = take_all (length l - at) (drop at l) (rw length-drop (omega arith)) in
    take-take (length l - 1) (length l) ((take at l ++ (m ++ b)) ++ c) (omega arith)
    ∙ closed l at s r m b c h (rw all at e)
