-- Stations that a pass keeps, each changed: what the library says of it, in the words of the rules. Assumes nothing.
use Rattle.std.proofs.Common.{◌≡◌, ℕ, ◌+◌, ◌^◌, ◌<◌, ◌≤◌, get_or, set, length-set, add-one, ltb-true, length-take, drop-cons, Bool, true, false, cond, List, [], ◌∷◌, ◌++◌, length, take, drop, map, refl, ap, ◌∙◌, arith, append-nil}
use Rattle.std.proofs.lemmas.List.Elements.{All-get_or, All-weaker, filter_passes}
use Rattle.std.specs.List.{All, filter, list_all, refill}
use Rattle.std.specs.List.Retain.{RetainsInTurn}
use Rattle.std.proofs.Math.Seq.{take_all}
use Rattle.std.proofs.Math.ListN.{drop_of_length-le}
use Rattle.std.proofs.lemmas.List.{length-map}
use lib.Seq.{get_or_at}
use Rattle.wire.proofs.Truths.{both}
use Rattle.stations.specs.Station.{Station, older}
use Rattle.stations.specs.Stations.{sifted, young, aged}
use Rattle.stations.specs.Steps.{Young}

-- A closure that tells of each station whether it stays, and changes it, keeps what a sifting keeps.
pub retained : {F : Type 0} (R : F → Station → Bool → F → Station → Type 0) (stays : Station → Bool) (change : Station → Station) (f : F)
    → ((x : Station) (b : Bool) (g : F) (y : Station) → R f x b g y → (b ≡ stays x) × (g ≡ f) × (y ≡ change x)) → (xs ys : List Station)
    → RetainsInTurn R f xs ys → ys ≡ sifted stays change xs
unfolding sifted
retained R stays change f k [] ys h = h
retained R stays change f k (x ∷ xs) ys (b, g, y, r, zs, rest, is) =
    let (told, same, changed) = k x b g y r in
    let more : zs ≡ sifted stays change xs = retained R stays change f k xs zs (rw same at rest) in
    rw (is, told, changed, more)

-- Where all stay, so does the list.
pub all_stay : (stays : Station → Bool) (l : List Station) → list_all stays l ≡ true → l ≡ filter stays l
all_stay stays [] h = refl
all_stay stays (s ∷ l) h =
    let (first, rest) = both (stays s) (list_all stays l) h in
    rw first (ap (λ (m : List Station). s ∷ m) (all_stay stays l rest))

-- A tick in two steps: the young stay, and are then a tick older.
pub aged-steps : (forget : ℕ) (l : List Station) → map older (filter (young forget) l) ≡ aged forget l
unfolding aged sifted
aged-steps forget [] = refl
aged-steps forget (s ∷ l) = go (young forget s) (aged-steps forget l)
  where
    go : (b : Bool) → map older (filter (young forget) l) ≡ aged forget l
        → map older (cond b (s ∷ filter (young forget) l) (filter (young forget) l)) ≡ cond b (older s ∷ aged forget l) (aged forget l)
    go true h = ap (λ (m : List Station). older s ∷ m) h
    go false h = h

-- A list written over itself, of the same length.
pub refill_same : (xs ws : List Station) → length ws ≡ length xs → refill (length xs) xs ws ≡ ws
refill_same xs ws e =
    let none : drop (length ws) xs ≡ [] = drop_of_length-le xs (omega arith) in
    rw (none, append-nil) (take_all (length xs) ws (omega arith))

-- A store through a slice of it.
pub stored : (l m : List Station) (at : ℕ) (s : Station) → m ≡ l → refill (length l) l (set m at s) ≡ set l at s
stored l m at s same = rw same (refill_same l (set l at s) (length-set l at s))

-- Where those before a station are a tick older, the station itself has room for it.
pub young_here : (l m : List Station) (i : ℕ) (d : Station) → i < length l → m ≡ map older (take i l) ++ drop i l → All Young l
    → (get_or m i d).age + 1 < 2 ^ 16
young_here l m i d h is e =
    let front : length (map older (take i l)) ≡ i = simp (length-map, length-take) (omega arith) in
    let split : m ≡ map older (take i l) ++ get_or l i d ∷ drop (i + 1) l = is ∙ rw (drop-cons l i d h, add-one) in
    let here : get_or m i d ≡ get_or l i d =
    ap (λ (q : List Station). get_or q i d) split ∙ get_or_at (map older (take i l)) (get_or l i d) (drop (i + 1) l) d i front in
    rw here (All-get_or Young l i d h e)

-- The young have that room.
pub young_stay : (forget : ℕ) → forget ≤ 2 ^ 16 → (l : List Station) → All Young (filter (young forget) l)
young_stay forget low l =
    All-weaker (λ (s : Station). young forget s ≡ true) Young (λ s e. omega (arith, ltb-true (s.age + 1) forget e)) (filter (young forget) l)
    (filter_passes (young forget) l)
