-- Contracts that leave no choice.
use Rattle.std.specs.Prelude.{◌≡◌}
use contract.Lifetimes.{Lfts}
use denote.Triple.Entry.{Args, Res}
use denote.Triple.Clauses.{Ended, AtExit}
use Rattle.promises.specs.Contracts.{Promise, Ensures, Says}

-- The ensures E says P; and two calls that meet P for the same arguments agree on what `part` takes from the answer and the arguments at exit.
abbrev pub FixesPart :
    (T : Ended) (X : Lfts T.signature.lifetimes → Type 0) →
    ((κs : Lfts T.signature.lifetimes) → Res T.signature κs → AtExit T κs → X κs) → Ensures T → Promise T → Type 2
FixesPart T X part E P =
    Says T E P
    × ((κs : Lfts T.signature.lifetimes) (a : Args T.signature κs) (x y : Res T.signature κs) (e f : AtExit T κs) →
    P κs a x e → P κs a y f → part κs x e ≡ part κs y f)

-- .. on the answer as a whole: two answers for the same arguments are equal.
abbrev pub Fixes : (T : Ended) → Ensures T → Promise T → Type 2
Fixes T E P = FixesPart T (Res T.signature) (λ κs x e. x) E P
