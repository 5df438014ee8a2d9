-- The WTR step changes WTR alone, and that only where the automatic request came or went. Assumes nothing.
use mathlib.Core.Path.{◌≡◌}
use Prim.Native.Nat.{ℕ}
use native.Mathlib.Omega.{arith}
use Rattle.std.proofs.lemmas.Bool.Decides.{nat_tests}
use Rattle.settings.specs.declared.choice.Ticks.{Ticks}
use Rattle.spans.specs.Records.{Span}
use Rattle.spans.specs.Requests.{automatic, waited}

module _ (t : Ticks) (was : ℕ) (s : Span) where
  pub waited-automatic : automatic t (waited t was s) ≡ automatic t s
  unfolding waited automatic
  waited-automatic = grind (arith, nat_tests)

  pub waited_same : automatic t s ≡ was → waited t was s ≡ s
  unfolding waited
  waited_same same = grind (arith, nat_tests)
