-- Between which ends the numbers lie. Assumes nothing.
use Prim.Native.Nat.{ℕ, zero, suc, ◌+◌, ◌-◌, ◌*◌, ◌≤◌}
use mathlib.Core.Bool.{Bool, true, false, cond}
use native.Mathlib.Omega.{arith}
use lib.IntN.{pos, negsuc, neg_ℤ, ◌-ℤ◌}
use lib.Dec.{ltb, le→leb}
use lib.Signed.{◌≤ℤ◌, le_z_yes}
use Rattle.stations.specs.Stations.{capacity}
use Rattle.controller.specs.State.{State}
use Rattle.controller.specs.Kept.{StateKept}
use Rattle.bandwidth.specs.Free.{reservations, unreserved}
use Rattle.bandwidth.proofs.Summing.{reservations-low}

lower : (a b n : ℕ) → b ≤ n → neg_ℤ (pos n) ≤ℤ (pos a -ℤ pos b)
lower a zero zero h = le_z_yes (le→leb 0 (a + 0) (omega arith))
lower a zero (suc n) h = le_z_yes tt
lower a (suc b) zero h = absurd (omega arith)
lower a (suc b) (suc n) h = go (ltb a (suc b))
  where
    go : (t : Bool) → negsuc n ≤ℤ cond t (negsuc (suc b - suc a)) (pos (a - suc b))
    go true = le_z_yes (le→leb (suc b - suc a) n (omega arith))
    go false = le_z_yes tt

upper : (a b : ℕ) → (pos a -ℤ pos b) ≤ℤ pos a
upper a zero = le_z_yes (le→leb (a + 0) a (omega arith))
upper a (suc b) = go (ltb a (suc b))
  where
    go : (t : Bool) → cond t (negsuc (suc b - suc a)) (pos (a - suc b)) ≤ℤ pos a
    go true = le_z_yes tt
    go false = le_z_yes (le→leb (a - suc b) a (omega arith))

pub in_range_lem : (s : State) → StateKept s → (ringlet rate own : ℕ) → own ≤ 65535
    → (neg_ℤ (pos (65535 * (capacity + 1))) ≤ℤ unreserved ringlet rate own s.stations) × (unreserved ringlet rate own s.stations ≤ℤ pos rate)
unfolding unreserved
in_range_lem s k ringlet rate own low = (
  lower rate (own + reservations ringlet s.stations) (65535 * (capacity + 1))
      (omega (
        arith,
        k.stations.few,
        reservations-low s.choice.address s.choice.ticks.forget s.choice.known ringlet s.stations k.stations.each,
      )),
  upper rate (own + reservations ringlet s.stations),
)
