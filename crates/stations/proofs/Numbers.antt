-- The paper's number and values of a search are those of the rules, and tell its answers apart. Assumes nothing.
use Rattle.std.proofs.Common.{◌≡◌, ℕ, Bool, true, false, cond, ◌↔◌, List, [], ◌∷◌, length, get_or, refl, ap, ◌∙◌, true≢false, arith}
use Rattle.stations.specs.Station.{Station}
use Rattle.stations.specs.Stations.{present}
use Rattle.std.specs.Prelude.{Option, Some, None}
use Rattle.stations.specs.Table.{found, found_number, found_values}
use Rattle.stations.specs.Finding.{Stands}
use Rattle.stations.proofs.Places.{found_stands, found_none}

pub found_number_lem : (a : ℕ) (l : List Station) → found_number (found a l) ≡ cond (present a l) 0 3
found_number_lem a l = go (found a l) refl
  where
    go : (f : Option ℕ) → found a l ≡ f → found_number f ≡ cond (present a l) 0 3
    go (Some i) e = rw (found_stands a l i e).there
    go None e = rw (found_none a l e).there

-- 3 exactly when no station has the address.
pub not-found_is_3 : (a : ℕ) (l : List Station) → (found_number (found a l) ≡ 3) ↔ (present a l ≡ false)
not-found_is_3 a l = rw (found_number_lem a l) (go (present a l))
  where
    go : (b : Bool) → (cond {A = ℕ} b 0 3 ≡ 3) ↔ (b ≡ false)
    go true = (λ e. absurd (omega arith), λ e. absurd (true≢false e))
    go false = (λ e. refl, λ e. refl)

-- The place is that of the station.
pub found-values : (a : ℕ) (l : List Station) (i : ℕ) → found_values (found a l) ≡ i ∷ [] → Stands a l i
found-values a l i = go (found a l) refl
  where
    go : (f : Option ℕ) → found a l ≡ f → found_values f ≡ i ∷ [] → Stands a l i
    go (Some j) e v = found_stands a l i (e ∙ ap Some (ap (λ (x : List ℕ). get_or x 0 0) v))
    go None e v = let h : ◌≡◌ {A = ℕ} 0 1 = ap length v in absurd (omega arith)

-- Answers of one number with the same values are the same answer.
pub founds_told_apart : (x y : Option ℕ) → found_number x ≡ found_number y → found_values x ≡ found_values y → x ≡ y
founds_told_apart (Some i) (Some j) n v = ap Some (ap (λ (l : List ℕ). get_or l 0 0) v)
founds_told_apart (Some i) None n v = absurd (omega arith)
founds_told_apart None (Some j) n v = absurd (omega arith)
founds_told_apart None None n v = refl
