-- Each of the four replies has a number of its own, so that a promise on the number is one on the reply. Assumes nothing.
use Prim.Native.Nat.{ℕ}
use mathlib.Core.Path.{◌≡◌, refl, sym, ◌∙◌, ap}
use mathlib.Core.Bool.{cond}
use lib.Dec.{eqb}
use Rattle.ways.specs.Choice.{Reply, West, East, NoWay, Unknown, number}

abbrev reply_of : ℕ → Reply
reply_of n = cond (eqb n 0) West (cond (eqb n 1) East (cond (eqb n 2) NoWay Unknown))

back : (x : Reply) → reply_of (number x) ≡ x
back West = refl
back East = refl
back NoWay = refl
back Unknown = refl

pub number_tells : (x y : Reply) → number x ≡ number y → x ≡ y
number_tells x y e = sym (back x) ∙ ap reply_of e ∙ back y
