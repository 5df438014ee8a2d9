-- The first test of a list that applies, computed, and what a result says that agrees with it. Assumes nothing.
use Prim.Native.Nat.{ℕ}
use mathlib.Core.Path.{◌≡◌, refl, ◌∙◌, ap, subst}
use mathlib.Core.Bool.{Bool, true, false, cond, ◌||◌, false≢true}
use mathlib.Core.List.{List, [], ◌∷◌, ◌++◌}
use mathlib.Core.Option.{Option, none, some}
use lib.Dec.{eqb}
use borrow.Author.Tests.{eqb-true}
use Rattle.blocks.specs.Types.{among}
use Rattle.controller.specs.State.{State}
use Rattle.promises.specs.Refusals.{Test, NoneApplies, FirstApplies}

-- All the numbers of a list are such.
abbrev pub All : (ℕ → Type 0) → List ℕ → Type 0
All P [] = Unit {0}
All P (k ∷ l) = P k × All P l

-- What all of a list are, each number among them is.
pub of_all : (P : ℕ → Type 0) (l : List ℕ) (n : ℕ) → All P l → among n l ≡ true → P n
unfolding among
of_all P [] n p h = absurd (false≢true h)
of_all P (k ∷ l) n p h = go (eqb n k) refl h (of_all P l n p.1)
  where
    go : (t : Bool) → eqb n k ≡ t → t || among n l ≡ true → (among n l ≡ true → P n) → P n
    go true e m rest = rw (eqb-true n k e) p.0
    go false e m rest = rest m

-- The numbers of the tests are such.
abbrev pub AllNumbers : (ℕ → Type 0) → List Test → Type 0
AllNumbers P [] = Unit {0}
AllNumbers P (t ∷ l) = P t.number × AllNumbers P l

module _ (s : State) (b : List ℕ) (room : ℕ) where
  -- The number of the first test that applies.
  unfoldable pub first_of : List Test → Option ℕ
  first_of [] = none
  first_of (t ∷ l) = cond (t.applies s b room) (some t.number) (first_of l)

  -- It is that in the words of the rules ..
  abbrev pub Found : List Test → Option ℕ → Type 0
  Found l none = NoneApplies l s b room
  Found l (some n) = FirstApplies l s b room n

  none_more : (t : Test) (l : List Test) → t.applies s b room ≡ false → NoneApplies l s b room → NoneApplies (t ∷ l) s b room
  unfolding NoneApplies
  none_more t l e h = (e, h)

  later : (t : Test) (l : List Test) (o : Option ℕ) → t.applies s b room ≡ false → Found l o → Found (t ∷ l) o
  later t l none e h = none_more t l e h
  later t l (some n) e h = record {
    before = t ∷ h.before;
    it = h.it;
    rest = h.rest;
    order = ap {B = List Test} (λ (x : List Test). t ∷ x) h.order;
    number = h.number;
    applies = h.applies;
    first = none_more t h.before e h.first;
  }

  pub found : (l : List Test) → Found l (first_of l)
  unfolding first_of NoneApplies
  found [] = tt
  found (t ∷ l) = go (t.applies s b room) refl (found l)
    where
      go : (a : Bool) → t.applies s b room ≡ a → Found l (first_of l) → Found (t ∷ l) (cond a (some t.number) (first_of l))
      go true e h = record { before = []; it = t; rest = l; order = refl; number = refl; applies = e; first = tt }
      go false e h = later t l (first_of l) e h

  -- .. and nothing else is.
  pub none_first : (l : List Test) → NoneApplies l s b room → first_of l ≡ none
  unfolding first_of NoneApplies
  none_first [] h = refl
  none_first (t ∷ l) h = rw h.0 (none_first l h.1)

  behind : (l : List Test) (t : Test) (rest : List Test) → NoneApplies l s b room → t.applies s b room ≡ true
      → first_of (l ++ t ∷ rest) ≡ some t.number
  unfolding first_of NoneApplies
  behind [] t rest h e = rw e
  behind (u ∷ l) t rest h e = rw h.0 (behind l t rest h.1 e)

  pub some_first : (l : List Test) (n : ℕ) → FirstApplies l s b room n → first_of l ≡ some n
  some_first l n f =
      ap first_of f.order ∙ behind f.before f.it f.rest f.first f.applies ∙ ap {B = Option ℕ} some f.number

-- What the numbers of all tests are, the first that applies is.
listed : (P : ℕ → Type 0) (l : List Test) (t : Test) (rest : List Test) → AllNumbers P (l ++ t ∷ rest) → P t.number
listed P [] t rest p = p.0
listed P (u ∷ l) t rest p = listed P l t rest p.1

-- A result agrees with a list of tests: it is the number of the first that applies, or, where none does, a number from T.
abbrev pub Agrees : List ℕ → Option ℕ → ℕ → Type 0
Agrees T none r = among r T ≡ true
Agrees T (some n) r = r ≡ n

module _ (T : List ℕ) (l : List Test) (s : State) (b : List ℕ) (room r : ℕ) (a : Agrees T (first_of s b room l) r) where
  pub first_given : (n : ℕ) → FirstApplies l s b room n → r ≡ n
  first_given n f = rw (some_first s b room l n f) at a

  pub none-among : NoneApplies l s b room → among r T ≡ true
  none-among h = rw (none_first s b room l h) at a

  either : {C : Type 0} → (among r T ≡ true → C) → (FirstApplies l s b room r → C) → C
  either {C} f g = go (first_of s b room l) (found s b room l) a
    where
      go : (o : Option ℕ) → Found s b room l o → Agrees T o r → C
      go none h e = f e
      go (some n) h e = g (rw e h)

  pub other_first : (among r T ≡ true → ⊥) → FirstApplies l s b room r
  other_first h = either (λ m. absurd (h m)) (λ f. f)

  pub all_results : (P : ℕ → Type 0) → AllNumbers P l → All P T → P r
  all_results P p q =
      either (of_all P T r q) (λ f. subst P f.number (listed P f.before f.it f.rest (subst (AllNumbers P) f.order p)))
