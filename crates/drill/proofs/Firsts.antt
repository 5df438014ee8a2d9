-- A record that was read is the first one in its buffer: what followed its length left the length as it was. Assumes nothing.
use Prim.Native.Nat.{ℕ, suc, ◌+◌, ◌*◌, ◌≤◌}
use mathlib.Core.Path.{◌≡◌, ◌∙◌}
use mathlib.Core.List.{List, [], ◌∷◌, ◌++◌}
use native.Mathlib.Omega.{arith}
use borrow.Author.Tests.{le-ltb}
use lib.ListN.{length, take}
use lib.Seq.{length-take-le, take_all}
use Rattle.wire.specs.Head.{length_of}
use Rattle.drill.specs.Turns.{whole}
use Rattle.drill.specs.Input.{first_of}

-- A length, and as much as it says.
alone : (a b : ℕ) (t : List ℕ) → length t ≡ a + b * 256 → 2 ≤ length t → length t ≤ 1033 → first_of (a ∷ b ∷ t) ≡ whole (a ∷ b ∷ t)
unfolding first_of
alone a b t e low high =
    rw (
      ← e,
      le-ltb (suc (length t)) 1 (omega arith),
      le-ltb (length t) 2 (omega arith),
      le-ltb 1033 (length t) (omega arith),
      le-ltb (suc (suc (length t))) (length t + 2) (omega arith),
      take_all (length t + 2) (a ∷ b ∷ t) (omega arith),
    )

pub whole_first : (xs zs : List ℕ) (n : ℕ) → n ≡ length_of xs → 2 ≤ n → n ≤ 1033 → n + 2 ≤ length (take 2 xs ++ zs) → 2 ≤ length xs
    → first_of (take (n + 2) (take 2 xs ++ zs)) ≡ whole (take (n + 2) (take 2 xs ++ zs))
whole_first [] zs n e low high h long = absurd (omega arith)
whole_first (a ∷ []) zs n e low high h long = absurd (omega arith)
whole_first (a ∷ b ∷ r) zs n e low high h long =
    let l : length (take n zs) ≡ n = length-take-le n zs (omega arith) in
    let two : n + 2 ≡ suc (suc n) = omega arith in
    rw two (alone a b (take n zs) (l ∙ e) (omega arith) (omega arith))
