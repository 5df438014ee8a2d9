-- Below zero on one of two ringlets: as the test of the rule, and as an order. Assumes nothing.
use mathlib.Core.Path.{◌≡◌, refl}
use mathlib.Core.Logic.{◌↔◌, ◌⊎◌, inl, inr, ⊎_elim}
use mathlib.Core.Bool.{Bool, true, false, ◌||◌, or-true}
use lib.IntN.{ℤ, pos}
use lib.Dec.{T}
use lib.Signed.{◌<ℤ◌, lt_z_yes}
use Rattle.bandwidth.specs.Free.{below_zero}

passed : (b : Bool) → T b → b ≡ true
passed true t = refl
passed false t = absurd t

pub either_below : (a b : ℤ) → (below_zero a || below_zero b ≡ true) ↔ ((a <ℤ pos 0) ⊎ (b <ℤ pos 0))
either_below a b = (
  to (below_zero a) refl,
  ⊎_elim (λ h. rw (passed (below_zero a) h.lt)) (λ h. rw (passed (below_zero b) h.lt) (or-true (below_zero a))),
)
  where
    to : (p : Bool) → below_zero a ≡ p → p || below_zero b ≡ true → (a <ℤ pos 0) ⊎ (b <ℤ pos 0)
    to true e h = inl (lt_z_yes (rw e tt))
    to false e h = inr (lt_z_yes (rw h tt))
