-- What a question is answered, case by case: the three refusals in their order, then the numbers. Assumes nothing.
use Prim.Native.Nat.{ℕ}
use mathlib.Core.Path.{◌≡◌, refl}
use mathlib.Core.Bool.{Bool, true, false, not, cond, ◌||◌}
use mathlib.Core.List.{List, [], ◌∷◌}
use mathlib.Core.Option.{Option, none, some}
use lib.Dec.{ltb}
use Rattle.blocks.specs.Types.{among}
use Rattle.stations.specs.declared.station.Station.{Station}
use Rattle.controller.specs.State.{State}
use Rattle.bandwidth.specs.Free.{Free}
use Rattle.bandwidth.specs.Free.{unreserved, first_behind, refused, answered, unless_behind, free_bandwidth}
use Rattle.promises.specs.Bandwidth.{any_behind, rate_tests, first_applying}

-- Whether there is one.
abbrev is_some : Option ℕ → Bool
is_some none = false
is_some (some a) = true

any_is_first : (l : List Station) → any_behind l ≡ is_some (first_behind l)
unfolding any_behind first_behind
any_is_first [] = refl
any_is_first (s ∷ l) = go s.behind (first_behind l) (any_is_first l)
  where
    go : (b : Bool) (o : Option ℕ) → any_behind l ≡ is_some o → b || any_behind l ≡ is_some (cond b (some s.address) o)
    go true o e = refl
    go false o e = e

-- The answer by its three tests; x is that where none applies.
abbrev chosen : Bool → Bool → Option ℕ → Free → Free
chosen rates levels behinds x = cond rates (refused 4 0) (cond levels (refused 32 0) (unless_behind behinds x))

-- The answer where nothing is refused, and the answer at a node that knows type 2.
module _ (rate own0 own1 : ℕ) (l : List Station) where
  abbrev pub numbers_for : Free
  numbers_for = answered (unreserved 0 rate own0 l) (unreserved 1 rate own1 l)

  abbrev pub answer_for : Free
  answer_for = cond (ltb 65535 rate) (refused 4 0) (unless_behind (first_behind l) numbers_for)

module _ (s : State) (rate own0 own1 : ℕ) where
  pub in_order_lem : (free_bandwidth s rate own0 own1).result ≡ first_applying rate_tests s rate
  unfolding free_bandwidth first_applying rate_tests
  in_order_lem = rw any_is_first (go (ltb 65535 rate) (not (among 2 s.choice.known)) (first_behind s.stations))
    where
      go : (p q : Bool) (o : Option ℕ)
          → (chosen p q o (numbers_for rate own0 own1 s.stations)).result ≡ cond p 4 (cond q 32 (cond (is_some o) 31 0))
      go true q o = refl
      go false true o = refl
      go false false none = refl
      go false false (some a) = refl

  -- What holds of each refusal and of the numbers holds of the answer.
  pub by_cases : (P : Free → Type 0) → P (refused 4 0) → P (refused 32 0) → ((a : ℕ) → first_behind s.stations ≡ some a → P (refused 31 a))
      → P (numbers_for rate own0 own1 s.stations) → P (free_bandwidth s rate own0 own1)
  unfolding free_bandwidth
  by_cases P rates levels behinds numbers = go (ltb 65535 rate) (not (among 2 s.choice.known)) (first_behind s.stations) refl
    where
      go : (p q : Bool) (o : Option ℕ) → first_behind s.stations ≡ o → P (chosen p q o (numbers_for rate own0 own1 s.stations))
      go true q o e = rates
      go false true o e = levels
      go false false none e = numbers
      go false false (some a) e = behinds a e

  -- At a node that knows type 2.
  pub level_two : among 2 s.choice.known ≡ true → free_bandwidth s rate own0 own1 ≡ answer_for rate own0 own1 s.stations
  unfolding free_bandwidth
  level_two knows = rw knows
