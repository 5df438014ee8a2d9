-- The decimal text is the fewest digits that hold the number, as the kit's `io` counts and spells them. Assumes nothing.
use Prim.Native.Nat.{ℕ, zero, suc, ◌+◌, ◌-◌, ◌*◌, ◌/◌, ◌%◌, ◌^◌, ◌≤◌, ◌<◌}
use mathlib.Core.Path.{◌≡◌, refl}
use native.Mathlib.Omega.{arith}
use native.Mathlib.Nat.{pow-suc, suc-add, lt_of_not-le}
use borrow.Author.Tests.{lt-ltb}
use Rattle.io.specs.Digits.{hex_digit_ascii, last_digits, IsDigitCount}
use Rattle.drill.specs.Text.{digit, digits_of, decimal}

glyph_digit : (d : ℕ) → d < 10 → hex_digit_ascii d ≡ digit d
glyph_digit d h = rw (lt-ltb d 10 h)

-- A power of ten is above its exponent.
above_exponent : (k : ℕ) → k < 10 ^ k
above_exponent zero = omega arith
above_exponent (suc k) = rw (pow-suc 10 k) (omega (arith, above_exponent k))

one_less : (k : ℕ) → suc k - 1 ≡ k
one_less k = omega arith

-- One digit fewer.
below_tenth : (k n : ℕ) → n < 10 ^ suc k → n / 10 < 10 ^ k
below_tenth k n h = let e : 10 ^ suc k ≡ 10 ^ k * 10 = pow-suc 10 k in omega arith

above_tenth : (k n : ℕ) → 10 ^ k ≤ n → 0 < k → 10 ^ (k - 1) ≤ n / 10
above_tenth zero n h p = absurd (omega arith)
above_tenth (suc k) n h p =
    let e : 10 ^ suc k ≡ 10 ^ k * 10 = pow-suc 10 k in
    rw (one_less k) (omega arith)

-- Of a number of exactly k digits.
digits_are : (k f n : ℕ) → n < 10 ^ k → (0 < k → 10 ^ (k - 1) ≤ n) → k ≤ f → digits_of f n ≡ last_digits 10 k n
unfolding digits_of
digits_are zero zero n below above enough = refl
digits_are zero (suc f) zero below above enough = refl
digits_are zero (suc f) (suc m) below above enough = absurd (omega arith)
digits_are (suc k) zero n below above enough = absurd (omega arith)
digits_are (suc k) (suc f) zero below above enough =
    let h : 10 ^ k ≤ 0 = rw (one_less k) at (above (omega arith)) in
    absurd (omega (arith, above_exponent k))
digits_are (suc k) (suc f) (suc m) below above enough =
    rw (
      glyph_digit (suc m % 10) (omega arith),
      digits_are k f (suc m / 10) (below_tenth k (suc m) below) (above_tenth k (suc m) (rw (one_less k) at (above (omega arith)))) (omega arith),
    )

pub decimal_digits : (n k : ℕ) → IsDigitCount 10 1 n k → decimal n ≡ last_digits 10 k n
unfolding decimal
decimal_digits n zero (some, below, above) = absurd (omega arith)
decimal_digits zero (suc zero) (some, below, above) = refl
decimal_digits zero (suc (suc k)) (some, below, above) =
    let h : 10 ^ suc k ≤ 0 = rw (one_less (suc k)) at (above (omega arith)) in
    absurd (omega (arith, above_exponent (suc k)))
decimal_digits (suc m) (suc zero) (some, below, above) = digits_are 1 (suc m) (suc m) below (λ p. omega arith) (omega arith)
decimal_digits (suc m) (suc (suc k)) (some, below, above) =
    let h : 10 ^ suc k ≤ suc m = rw (one_less (suc k)) at (above (omega arith)) in
    digits_are (suc (suc k)) (suc m) (suc m) below (λ p. above (omega arith)) (omega (arith, above_exponent (suc k)))

-- A number of 64 bits has at most 20 digits.
tens_grow : (j : ℕ) → 10 ^ 20 ≤ 10 ^ (j + 20)
tens_grow zero = omega arith
tens_grow (suc j) = rw (suc-add j 20, pow-suc 10 (j + 20)) (omega (arith, tens_grow j))

few : (n k : ℕ) → n < 2 ^ 64 → (1 < k → 10 ^ (k - 1) ≤ n) → 21 ≤ k → ⊥
few n k small above h =
    let at_least : 10 ^ (k - 1) ≤ n = above (omega arith) in
    let e : k - 1 ≡ k - 21 + 20 = omega arith in
    let more : 10 ^ 20 ≤ 10 ^ (k - 1) = rw e (tens_grow (k - 21)) in
    omega arith

pub at-most_20 : {n k : ℕ} → n < 2 ^ 64 → IsDigitCount 10 1 n k → k ≤ 20
at-most_20 {n} {k} small (some, below, above) =
    let h : k < 21 = lt_of_not-le (few n k small above) in
    omega arith
