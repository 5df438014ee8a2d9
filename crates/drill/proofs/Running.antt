-- The turns of a run, one after the other. Assumes nothing.
use Prim.Native.Nat.{ℕ, suc, ◌+◌, ◌≤◌}
use mathlib.Core.Path.{◌≡◌, refl, ap, sym, ◌∙◌}
use mathlib.Core.Bool.{true, false, cond, true≢false}
use mathlib.Core.List.{List, [], ◌∷◌, ◌++◌, append_assoc}
use native.Mathlib.Numerals.{add-one}
use native.Mathlib.Omega.{arith}
use lib.ListN.{length}
use Rattle.std.specs.Prelude.{Some, None, is_some}
use Rattle.std.specs.ControlFlow.{break_value}
use Rattle.std.specs.declared.ops.ControlFlow.{ControlFlow}
use Rattle.std.specs.declared.ops.ControlFlow.TheVariants.{Continue, Break}
use Rattle.arrayvec.specs.ArrayVec.{ArrayVec}
use Rattle.controller.specs.Node.{Node}
use Rattle.drill.specs.Turns.{Read, turned, told, passed, lines_of, in_order}
use Rattle.drill.specs.Promise.{Taken, WentOn, Ran}

-- What holds before the record of a number.
pub record Passing (start n : Node) (number : ℕ) : Type 0 where
  pub reads : List Read
  pub counted : number ≡ suc (length reads)
  pub node_is : n ≡ (passed start reads).node
  pub more_is : (passed start reads).more ≡ true
  pub on : WentOn start reads

-- No record yet.
pub at_first : (n : Node) → Passing n n 1
unfolding passed
at_first n = record { reads = []; counted = refl; node_is = refl; more_is = refl; on = tt }

next_is : (start n : Node) (k : ℕ) (w : Read) (l : List Read) → k ≡ suc (length l) → n ≡ (passed start l).node → turned k n w ≡ passed start (w ∷ l)
unfolding passed
next_is start n k w l e q = rw (e, q)

module _ {start n m : Node} {k : ℕ} where
  -- One record more.
  pub one_more_lem : (r : ControlFlow (ArrayVec ℕ) (ArrayVec ℕ)) → Passing start n k → Taken k n m r → is_some (break_value r) ≡ false
      → Passing start m (k + 1)
  one_more_lem (Continue x) p t h =
      let e = t.is ∙ next_is start n k t.read p.reads p.counted p.node_is in
      record {
        reads = t.read ∷ p.reads;
        counted = rw (add-one k, p.counted);
        node_is = ap (λ x. x.node) e;
        more_is = sym (ap (λ x. x.more) e);
        on = (p.more_is, p.on);
      }
  one_more_lem (Break x) p t h = absurd (true≢false h)

  -- The drill is at an end, or the numbers are.
  pub at_the_end : (r : ControlFlow (ArrayVec ℕ) (ArrayVec ℕ)) → Passing start n k → Taken k n m r → is_some (break_value r) ≡ true
      → Ran start m (Some k)
  at_the_end (Continue x) p t h = absurd (true≢false (sym h))
  at_the_end (Break x) p t h =
      let e = t.is ∙ next_is start n k t.read p.reads p.counted p.node_is in
      record {
        reads = t.read ∷ p.reads;
        left = ap (λ x. x.node) e;
        counted = p.counted;
        is = ap (λ x. x.more) e;
        on = (p.more_is, p.on);
      }

pub out_of_numbers : {start n : Node} {k : ℕ} → Passing start n (k + 1) → 18446744073709551615 ≤ k → k ≤ 18446744073709551615 → Ran start n None
out_of_numbers p low high = record { reads = p.reads; left = p.node_is; counted = omega (arith, p.counted); is = sym p.more_is; on = p.on }

-- The lines of the steps of a run are the text of its reads.
pub text_of_run : (n : Node) (l m : List Read) → WentOn n l
    → told 1 n (in_order l m) ≡ lines_of n l ++ cond (passed n l).more (told (suc (length l)) (passed n l).node m) []
unfolding told lines_of in_order passed
text_of_run n [] m on = refl
text_of_run n (w ∷ l) m on =
    text_of_run n l (w ∷ m) on.1 ∙ rw on.0
    (sym (append_assoc (lines_of n l) (passed n (w ∷ l)).line (cond (passed n (w ∷ l)).more (told (suc (suc (length l))) (passed n (w ∷ l)).node m) [])))
