-- The difference of two numbers fits where both do. Assumes nothing.
use Prim.Native.Nat.{ℕ, zero, suc, ◌+◌, ◌-◌, ◌*◌, ◌<◌, ◌≤◌, ◌^◌}
use mathlib.Core.Path.{◌≡◌, ap, ◌∙◌}
use mathlib.Core.Bool.{Bool, true, false, cond}
use native.Mathlib.Omega.{arith}
use lib.IntN.{ℤ, pos, negsuc, ◌-ℤ◌}
use lib.Dec.{ltb}
use lib.Signed.{mag}
use mir.Syntax.{w32}
use mir.Val.{SFits, to_z, of_z}
use mir.ValLaws.{to_z-of_z}
use Rattle.stations.specs.Stations.{capacity}

-- The magnitude of a difference is no more than that of one of the two.
mag_difference : (a b n : ℕ) → a < n → b < n → mag (pos a -ℤ pos b) < n
mag_difference a zero n p q = omega arith
mag_difference a (suc b) n p q = go (ltb a (suc b))
  where
    go : (t : Bool) → mag (cond t (negsuc (suc b - suc a)) (pos (a - suc b))) < n
    go true = omega arith
    go false = omega arith

pub difference_fits : (a b : ℕ) → a < 2 ^ 31 → b < 2 ^ 31 → SFits w32 (pos a -ℤ pos b)
difference_fits a b p q = record { sfits = mag_difference a b (2 ^ 31) p q }

-- What is left of a ringlet, read back from its bits.
pub read_back : {z : ℤ} {rate own others : ℕ} → rate ≤ 65535 → own < 2 ^ 16 → others ≤ 65535 * capacity → z ≡ pos rate -ℤ pos (own + others)
    → to_z w32 (of_z w32 z) ≡ pos rate -ℤ pos (own + others)
read_back {z} {rate} {own} {others} p q r e =
    ap (λ (y : ℤ). to_z w32 (of_z w32 y)) e ∙ to_z-of_z w32 _ (difference_fits rate (own + others) (omega arith) (omega arith))
