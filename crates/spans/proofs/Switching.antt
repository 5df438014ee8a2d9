-- What 02, Item 2 is for: a link that never tells a status as good as the one in force has a worse one in force within the hold-off time. Assumes nothing.
use Prim.Native.Nat.{ℕ, suc, ◌+◌, ◌<◌, ◌≤◌}
use native.Mathlib.Omega.{arith}
use Rattle.std.proofs.lemmas.Bool.Decides.{nat_tests}
use Rattle.settings.specs.declared.choice.Ticks.{Ticks}
use Rattle.spans.specs.Records.{Span, worsened, linked, ticked}
use Rattle.spans.specs.Kept.{SpanFair}
use Rattle.spans.proofs.HoldOff.{SameLink}

-- A span k ticks after a status came that was worse than f, the one in force then: a worse one is stored, and is in force or will be in time.
pub record Switching (t : Ticks) (f k : ℕ) (s : Span) : Type 0 where
  pub worse : f < s.stored
  pub due : s.force ≤ f → (0 < s.holdoff) × (s.holdoff + k ≤ t.holdoff)

-- The time is over.
pub switched : (t : Ticks) (f k : ℕ) (s : Span) → Switching t f k s → t.holdoff ≤ k → f < s.force
switched t f k s w over = grind (arith, nat_tests)

-- The first worse status, or any other: whether hold-off runs or starts, it ends in time.
pub switching_first : (t : Ticks) (y : ℕ) (s : Span) → SpanFair t s → s.force < y → Switching t s.force 0 (linked t y s)
unfolding linked worsened
switching_first t y s f worse = record { worse = grind (arith, nat_tests); due = λ low. (grind (arith, nat_tests), grind (arith, nat_tests)) }

module _ (t : Ticks) (f k : ℕ) (s : Span) (w : Switching t f k s) where
  -- "lets the time run on".
  pub switching_linked : (y : ℕ) → f < y → Switching t f k (linked t y s)
  unfolding linked worsened
  switching_linked y worse = record { worse = grind (arith, nat_tests); due = λ low. (grind (arith, nat_tests), grind (arith, nat_tests)) }

  pub switching_ticked : Switching t f (suc k) (ticked t s)
  unfolding ticked
  switching_ticked = record { worse = w.worse; due = λ low. (grind (arith, nat_tests), grind (arith, nat_tests)) }

  -- What leaves the link leaves this.
  pub switching_same : (u : Span) → SameLink s u → Switching t f k u
  switching_same u same = record {
    worse = rw (← same.stored) w.worse;
    due = rw (← same.force, ← same.holdoff) w.due;
  }
