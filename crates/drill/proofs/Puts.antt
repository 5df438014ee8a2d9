-- A number that was put at the end of a line is its decimal text, and so are several. Assumes nothing.
use Prim.Native.Nat.{ℕ, zero, suc, ◌+◌, ◌^◌, ◌≤◌, ◌<◌}
use mathlib.Core.Path.{◌≡◌, refl, ap, sym, ◌∙◌}
use mathlib.Core.List.{List, [], ◌∷◌, ◌++◌, append_assoc}
use native.Mathlib.Numerals.{add-one}
use native.Mathlib.Omega.{arith}
use lib.ListN.{length, take, get_or, length-append}
use Rattle.io.specs.Digits.{last_digits, IsDigitCount}
use Rattle.drill.specs.Text.{decimal}
use Rattle.drill.specs.Promise.{Number, spaced}
use Rattle.drill.proofs.Decimals.{decimal_digits, at-most_20}

-- A word that spells a number, and a byte.
pub number_put : {n k : ℕ} (b : ℕ) (text old : List ℕ) {mid new : List ℕ} → n < 2 ^ 64 → IsDigitCount 10 1 n k → take k text ≡ last_digits 10 k n
    → k ≡ length (take k text) → mid ≡ old ++ take k text → new ≡ mid ++ (b ∷ []) → Number n b old new
number_put {n} {k} b text old {mid} {new} small fewest spelt long p q =
    let few : k ≤ 20 = at-most_20 small fewest in
    let e : take k text ≡ decimal n = spelt ∙ sym (decimal_digits n k fewest) in
    let is : new ≡ old ++ (decimal n ++ (b ∷ [])) = q ∙ rw (p, e) (append_assoc old (decimal n) (b ∷ [])) in
    (is, omega (arith, simp length-append at (ap length q), simp length-append at (ap length p)))

-- One number more.
pub spaced_more : (l : List ℕ) (i : ℕ) → i < length l → spaced (take (i + 1) l) ≡ spaced (take i l) ++ (decimal (get_or l i 0) ++ (32 ∷ []))
spaced_more [] i h = absurd (omega arith)
spaced_more (x ∷ l) zero h = refl
spaced_more (x ∷ l) (suc i) h =
    let e : spaced (take (suc i) l) ≡ spaced (take i l) ++ (decimal (get_or l i 0) ++ (32 ∷ [])) = rw add-one at (spaced_more l i (omega arith)) in
    rw add-one (ap (λ t. decimal x ++ (32 ∷ t)) e ∙ sym (append_assoc (decimal x) (32 ∷ spaced (take i l)) _))
