-- The paper's number and values of a head are those of the rules, and tell the heads apart. Assumes nothing.
use Prim.Native.Nat.{ℕ, ◌≤◌}
use mathlib.Core.Path.{◌≡◌, refl, ap, sym, ◌∙◌}
use mathlib.Core.Bool.{Bool, true, false, cond, ◌&&◌}
use mathlib.Core.List.{List, [], ◌∷◌}
use native.Mathlib.Omega.{arith}
use lib.Dec.{leb, eqb}
use lib.ListN.{length, get_or}
use Rattle.std.specs.Prelude.{Result, Ok, Err}
use Rattle.wire.specs.Results.{Refusal, Taken, NoRoom, Broken, WrongKind, Unfit, OwnAddress, HopTooHigh, NotInTable, Malformed, Stored, WrongRinglet, SpanDown, OldReport, SetAside, refusal_number, taken_number, number}
use Rattle.wire.specs.Head.{kind_of, broken, head_of, head_number, head_values}

-- 2 before 3, and 0 for a kind of the call.
pub head_number_lem : (first last : ℕ) (b : List ℕ)
    → head_number (head_of first last b) ≡ cond (broken b) 2 (cond (leb first (kind_of b) && leb (kind_of b) last) 0 3)
unfolding head_of
head_number_lem first last b = go (broken b) (leb first (kind_of b) && leb (kind_of b) last)
  where
    go : (x y : Bool) → head_number (cond {A = Result ℕ Refusal} x (Err Broken) (cond y (Ok (kind_of b)) (Err WrongKind))) ≡ cond x 2 (cond y 0 3)
    go true y = refl
    go false true = refl
    go false false = refl

-- With 0 comes the kind of the record.
pub head_values_lem : (first last : ℕ) (b : List ℕ) → head_number (head_of first last b) ≡ 0 → head_values (head_of first last b) ≡ kind_of b ∷ []
unfolding head_of
head_values_lem first last b = go (broken b) (leb first (kind_of b) && leb (kind_of b) last)
  where
    go : (x y : Bool) → head_number (cond {A = Result ℕ Refusal} x (Err Broken) (cond y (Ok (kind_of b)) (Err WrongKind))) ≡ 0
        → head_values (cond {A = Result ℕ Refusal} x (Err Broken) (cond y (Ok (kind_of b)) (Err WrongKind))) ≡ kind_of b ∷ []
    go true y e = absurd (omega arith)
    go false true e = refl
    go false false e = absurd (omega arith)

-- The answers of a number, and back.
refusal_of : ℕ → Refusal
refusal_of n = nth n (NoRoom ∷ NoRoom ∷ Broken ∷ WrongKind ∷ Unfit ∷ OwnAddress ∷ HopTooHigh ∷ NotInTable ∷ Malformed ∷ [])
  where
    nth : ℕ → List Refusal → Refusal
    nth n l = get_or l n NoRoom

refusal_back : (x : Refusal) → refusal_of (refusal_number x) ≡ x
unfolding refusal_of
refusal_back NoRoom = refl
refusal_back Broken = refl
refusal_back WrongKind = refl
refusal_back Unfit = refl
refusal_back OwnAddress = refl
refusal_back HopTooHigh = refl
refusal_back NotInTable = refl
refusal_back Malformed = refl

taken_of : ℕ → Taken
taken_of n = cond (eqb n 0) Stored (cond (eqb n 20) WrongRinglet (cond (eqb n 21) SpanDown (cond (eqb n 22) OldReport SetAside)))

taken_back : (x : Taken) → taken_of (taken_number x) ≡ x
unfolding taken_of
taken_back Stored = refl
taken_back WrongRinglet = refl
taken_back SpanDown = refl
taken_back OldReport = refl
taken_back SetAside = refl

-- Refusals of one number are the same, and so are the answers that are none.
pub refusals_told_apart : (x y : Refusal) → refusal_number x ≡ refusal_number y → x ≡ y
refusals_told_apart x y e = sym (refusal_back x) ∙ ap refusal_of e ∙ refusal_back y

pub taken_told_apart : (x y : Taken) → taken_number x ≡ taken_number y → x ≡ y
taken_told_apart x y e = sym (taken_back x) ∙ ap taken_of e ∙ taken_back y

-- 1 to 8 are refusals, and no other answer has such a number.
pub refusal_few : (x : Refusal) → (1 ≤ refusal_number x) × (refusal_number x ≤ 8)
refusal_few NoRoom = (omega arith, omega arith)
refusal_few Broken = (omega arith, omega arith)
refusal_few WrongKind = (omega arith, omega arith)
refusal_few Unfit = (omega arith, omega arith)
refusal_few OwnAddress = (omega arith, omega arith)
refusal_few HopTooHigh = (omega arith, omega arith)
refusal_few NotInTable = (omega arith, omega arith)
refusal_few Malformed = (omega arith, omega arith)

pub taken_apart : (x : Taken) → (1 ≤ taken_number x) × (taken_number x ≤ 8) → ⊥
taken_apart Stored h = omega (arith, h.0)
taken_apart WrongRinglet h = omega (arith, h.1)
taken_apart SpanDown h = omega (arith, h.1)
taken_apart OldReport h = omega (arith, h.1)
taken_apart SetAside h = omega (arith, h.1)

-- Answers of one number are the same answer.
pub answers_told_apart : (x y : Result Taken Refusal) → number x ≡ number y → x ≡ y
answers_told_apart (Ok t) (Ok u) e = ap Ok (taken_told_apart t u e)
answers_told_apart (Ok t) (Err r) e = absurd (taken_apart t (rw e (refusal_few r)))
answers_told_apart (Err r) (Ok t) e = absurd (taken_apart t (rw (← e) (refusal_few r)))
answers_told_apart (Err q) (Err r) e = ap Err (refusals_told_apart q r e)

-- Heads of one number with the same values are the same head.
pub heads_told_apart : (x y : Result ℕ Refusal) → head_number x ≡ head_number y → head_values x ≡ head_values y → x ≡ y
heads_told_apart (Err m) (Err n) e v = ap Err (refusals_told_apart m n e)
heads_told_apart (Err m) (Ok k) e v = let l : ◌≡◌ {A = ℕ} 0 1 = ap length v in absurd (omega arith)
heads_told_apart (Ok k) (Err n) e v = let l : ◌≡◌ {A = ℕ} 1 0 = ap length v in absurd (omega arith)
heads_told_apart (Ok j) (Ok k) e v = ap Ok (ap (λ (l : List ℕ). get_or l 0 0) v)
