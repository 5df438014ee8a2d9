-- Lists of bytes, byte by byte. Assumes nothing.
use Prim.Native.Nat.{ℕ, zero, suc, ◌<◌}
use mathlib.Core.Path.{subst}
use mathlib.Core.List.{List, [], ◌∷◌, ◌++◌, append-nil}
use native.Mathlib.Omega.{arith}
use Rattle.wire.specs.Fields.{Bytes}

-- Each number is below 256.
unfoldable pub Small : List ℕ → Type 0
Small [] = Unit {0}
Small (x ∷ b) = (x < 256) × Small b

pub bytes_before : (b c : List ℕ) → Small b → Bytes c → Bytes (b ++ c)
unfolding Small
bytes_before [] c s bytes i = bytes i
bytes_before (x ∷ b) c s bytes zero = s.0
bytes_before (x ∷ b) c s bytes (suc i) = bytes_before b c s.1 bytes i

pub small_bytes : (b : List ℕ) → Small b → Bytes b
small_bytes b s = subst Bytes (append-nil b) (bytes_before b [] s (λ i. omega arith))
