-- What a contract asks and promises, as plain types, and that a routine meets it. T is the signature of a function, with what its contract sees at exit.
use Rattle.std.specs.Prelude.{◌≡◌}
use base.Logic.{SProp, emp}
use mir.Syntax.{Callee}
use prog.Wired.{Code, Wired}
use contract.Monad.{fact}
use contract.Lifetimes.{Lfts}
use denote.Triple.Entry.{Args, Res}
use denote.Triple.Clauses.{Ended, AtExit, Clauses, closing}
use denote.Triple.Spec.{Meets}
use borrow.Fn.World.{World}

-- What is asked: of the lifetimes and the arguments.
abbrev pub Asking : Ended → Type 1
Asking T = (κs : Lfts T.signature.lifetimes) → Args T.signature κs → Type 0

-- What is promised: of these, the answer, and the arguments at exit.
abbrev pub Promise : Ended → Type 1
Promise T = (κs : Lfts T.signature.lifetimes) → Args T.signature κs → Res T.signature κs → AtExit T κs → Type 0

-- The clauses that the theorem of a function cites, at each model of the logic.
abbrev pub Requires : Ended → Type 2
Requires T = (κs : Lfts T.signature.lifetimes) → Args T.signature κs → Unit {0} → (w : World) → SProp w.𝓤

abbrev pub Ensures : Ended → Type 2
Ensures T =
    (κs : Lfts T.signature.lifetimes) → Args T.signature κs → Unit {0} → Res T.signature κs → AtExit T κs →
    (w : World) → SProp w.𝓤

-- The ensures E says P and nothing else.
abbrev pub Says : (T : Ended) → Ensures T → Promise T → Type 2
Says T E P =
    (w : World) (κs : Lfts T.signature.lifetimes) (a : Args T.signature κs) (x : Res T.signature κs) (e : AtExit T κs) →
    E κs a tt x e w ≡ fact w.𝓤 (P κs a x e)

-- The requires R asks nothing, and so says the plain type that is read from it.
abbrev pub AsksNothing : (T : Ended) → Requires T → Asking T → Type 2
AsksNothing T R pre =
    ((w : World) (κs : Lfts T.signature.lifetimes) (a : Args T.signature κs) → R κs a tt w ≡ emp w.𝓤) × (◌≡◌ {A = Asking T} pre (λ κs a. Unit {0}))

-- The ensures E says P, and P is also the plain type that is read from it.
abbrev pub IsPromised : (T : Ended) → Ensures T → Promise T → Promise T → Type 2
IsPromised T E post P = Says T E P × (◌≡◌ {A = Promise T} post P)

-- The contract that asks R and promises P, in the model w of the logic.
abbrev pub clauses_of : (T : Ended) → Requires T → Promise T → (w : World) → Clauses w.𝓤 T
clauses_of T R P w κs a = record {
  ghost = Unit {0};
  requires = λ g. R κs a g w;
  ensures = λ g x e. fact w.𝓤 (P κs a x e);
}

-- A function is known by its name and its code. In every model of the logic, where names mean that code, a call that meets R ends, with an answer and arguments at exit of
-- which P holds.
abbrev pub MeetsContract : (T : Ended) → Callee → Code → Requires T → Promise T → Type 2
MeetsContract T name code R P =
    (w : World) → Wired w.𝓡.env code → Meets w.𝓛 T.signature (w.𝓡.run (w.𝓡.env name))
    (closing w.𝓛 T (clauses_of T R P w))

-- .. a call with any arguments.
abbrev pub RoutineAlwaysMeets : (T : Ended) → Callee → Code → Promise T → Type 2
RoutineAlwaysMeets T name code P = MeetsContract T name code (λ κs a g w. emp w.𝓤) P
