-- The paper's number and values of an answer are those of the rules, and tell the answers apart. Assumes nothing.
use Prim.Native.Nat.{ℕ, ◌≤◌}
use mathlib.Core.Path.{◌≡◌, refl, sym, ap}
use mathlib.Core.Logic.{◌↔◌}
use mathlib.Core.List.{List, [], ◌∷◌}
use native.Mathlib.Omega.{arith}
use lib.ListN.{get_or}
use Rattle.std.specs.Prelude.{Result, Ok, Err}
use Rattle.wire.specs.declared.results.Refusal.{Refusal}
use Rattle.wire.specs.Results.{refusal_number}
use Rattle.wire.proofs.Numbers.{refusals_told_apart, refusal_few}
use Rattle.blocks.specs.Types.{knows}
use Rattle.blocks.specs.Entries.{Entry}
use Rattle.blocks.specs.Meaning.{Meaning, malformed, aside, shows, meaning, Block, Aside, Values, block, block_number, block_values, result_of, block_at}
use Rattle.blocks.specs.Writing.{Written, written_as}
use Rattle.blocks.specs.Attributes.{attributes_from}

-- The reader answers with the number of the record.
pub block-number : (level : ℕ) (b : List ℕ) → block_number (block_at level b) ≡ result_of (meaning (knows level) b)
unfolding block_at
block-number level b = refl

-- 8 exactly where it is malformed.
pub malformed_is_8 : (m : Meaning) → (result_of m ≡ 8) ↔ (m ≡ malformed)
malformed_is_8 malformed = (λ e. refl, λ e. refl)
malformed_is_8 (aside t) = (λ e. absurd (omega arith), λ e. ap result_of e)
malformed_is_8 (shows es) = (λ e. absurd (omega arith), λ e. ap result_of e)

-- 24 exactly where it is set aside.
pub aside_is_24 : (m : Meaning) → (result_of m ≡ 24) ↔ ((t : ℕ) × (m ≡ aside t))
aside_is_24 malformed = (λ e. absurd (omega arith), λ (t, e). ap result_of e)
aside_is_24 (aside t) = (λ e. (t, refl), λ (t, e). refl)
aside_is_24 (shows es) = (λ e. absurd (omega arith), λ (t, e). ap result_of e)

-- The values are what the station is left with.
pub type_left : (t : ℕ) → block_values (block (aside t)) ≡ (attributes_from (aside t)).kind ∷ []
type_left t = refl

pub values-left : (es : List Entry)
    → let x = attributes_from (shows es) in block_values (block (shows es)) ≡ x.weight0 ∷ x.weight1 ∷ x.reserved0 ∷ x.reserved1 ∷ []
values-left es = refl

at_place : {x y : List ℕ} (i : ℕ) → x ≡ y → get_or x i 0 ≡ get_or y i 0
at_place i e = ap (λ (l : List ℕ). get_or l i 0) e

refusal_is : (r : Refusal) (n : ℕ) → refusal_number r ≡ n → (1 ≤ n) × (n ≤ 8)
refusal_is r n e = rw (← e) (refusal_few r)

-- Answers of one number with the same values are the same answer.
pub blocks_told_apart : (x y : Result Block Refusal) → block_number x ≡ block_number y → block_values x ≡ block_values y → x ≡ y
blocks_told_apart (Err q) (Err r) n v = ap Err (refusals_told_apart q r n)
blocks_told_apart (Err r) (Ok (Aside t)) n v = absurd (omega (arith, refusal_is r 24 n))
blocks_told_apart (Err r) (Ok (Values w0 w1 b0 b1)) n v = absurd (omega (arith, refusal_is r 0 n))
blocks_told_apart (Ok (Aside t)) (Err r) n v = absurd (omega (arith, refusal_is r 24 (sym n)))
blocks_told_apart (Ok (Aside t)) (Ok (Aside u)) n v = ap (λ (k : ℕ). Ok (Aside k)) (at_place 0 v)
blocks_told_apart (Ok (Aside t)) (Ok (Values w0 w1 b0 b1)) n v = absurd (omega arith)
blocks_told_apart (Ok (Values w0 w1 b0 b1)) (Err r) n v = absurd (omega (arith, refusal_is r 0 (sym n)))
blocks_told_apart (Ok (Values w0 w1 b0 b1)) (Ok (Aside t)) n v = absurd (omega arith)
blocks_told_apart (Ok (Values w0 w1 b0 b1)) (Ok (Values x0 x1 c0 c1)) n v = rw (at_place 0 v, at_place 1 v, at_place 2 v, at_place 3 v)

-- And so are answers of the writer.
pub written_told_apart : (x y : Result ℕ Refusal) → written_as x ≡ written_as y → x ≡ y
written_told_apart (Ok m) (Ok n) e = ap Ok (ap (λ (w : Written). w.length) e)
written_told_apart (Ok m) (Err r) e = absurd (omega (arith, refusal_is r 0 (sym (ap (λ (w : Written). w.result) e))))
written_told_apart (Err r) (Ok n) e = absurd (omega (arith, refusal_is r 0 (ap (λ (w : Written). w.result) e)))
written_told_apart (Err q) (Err r) e = ap Err (refusals_told_apart q r (ap (λ (w : Written). w.result) e))
