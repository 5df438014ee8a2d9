-- What start reads and the first of its tests that applies, case by case. Assumes nothing.
use Prim.Native.Nat.{ℕ}
use mathlib.Core.Path.{◌≡◌, refl, ap}
use mathlib.Core.Bool.{Bool, true, false, not, cond, ◌&&◌}
use mathlib.Core.List.{List, [], ◌∷◌}
use mathlib.Core.Option.{Option, none, some}
use lib.Dec.{eqb, leb}
use Rattle.wire.specs.Fields.{address_at}
use Rattle.std.specs.Prelude.{Result, Ok, Err}
use Rattle.wire.specs.Head.{kind_of, body_of, broken, head_of}
use Rattle.wire.specs.declared.results.Refusal.{Refusal}
use Rattle.wire.specs.declared.results.Refusal.TheVariants.{Broken, WrongKind, Unfit}
use Rattle.settings.specs.declared.choice.Settings.{Settings}
use Rattle.settings.specs.Reading.{SettingsRead}
use Rattle.settings.specs.Ranges.{defaults}
use Rattle.settings.specs.Reading.{taken, refused, fields_of, full_fits, full_in, short_fits, short_in, read_as, told, settings_in}
use Rattle.blocks.specs.Types.{among}
use Rattle.controller.specs.State.{State, started}
use Rattle.controller.specs.Node.{choice_of, node_of, started_with}
use Rattle.promises.specs.Refusals.{start_tests}
use Rattle.promises.proofs.Demand1.Order.{of_all, first_of, Agrees, all_results}

module _ (s : State) (b : List ℕ) (room : ℕ) (P : Option ℕ → SettingsRead → Type 0) (broke : P (some 2) (refused 2))
    (other : P (some 3) (refused 3)) (unfit : P (some 4) (refused 4)) (took : (x : Settings) → P none (taken x)) where
  -- The body, once the kind is one of the two.
  body_cases : (full fits short : Bool) (x y : Settings)
      → P (cond (not (cond full fits short)) (some 4) none) (told (cond full (cond fits (Ok x) (Err Unfit)) (cond short (Ok y) (Err Unfit))))
  body_cases true true short x y = took x
  body_cases true false short x y = unfit
  body_cases false fits true x y = took y
  body_cases false fits false x y = unfit

  cases : P (first_of s b room start_tests) (settings_in b)
  unfolding start_tests first_of settings_in head_of full_in short_in
  cases = go (broken b) (leb 32 (kind_of b) && leb (kind_of b) 33)
    where
      body : List ℕ
      body = body_of b

      o : Option ℕ
      o = cond (not (cond (eqb (kind_of b) 32) (full_fits body) (short_fits body))) (some 4) none

      go : (t k : Bool) → P (cond t (some 2) (cond (not k) (some 3) o)) (told (read_as (cond t (Err Broken) (cond k (Ok (kind_of b)) (Err WrongKind))) body))
      go true k = broke
      go false false = other
      go false true =
          body_cases (eqb (kind_of b) 32) (full_fits body) (short_fits body) (fields_of body) (defaults (address_at body 0))

-- "Start gives 0, 2, 3 or 4": the only number of settings that are not refused is 0.
abbrev pub taken0 : List ℕ
taken0 = 0 ∷ []

pub is_zero : (n : ℕ) → among n taken0 ≡ true → n ≡ 0
is_zero n = of_all (λ k. k ≡ 0) taken0 n (refl, tt)

module _ (s : State) (b : List ℕ) (room : ℕ) where
  pub start_agrees : Agrees taken0 (first_of s b room start_tests) (started_with b).result
  unfolding started_with among
  start_agrees = cases s b room (λ o x. Agrees taken0 o x.result) refl refl refl (λ x. refl)

  pub start-listed : among (started_with b).result (0 ∷ 2 ∷ 3 ∷ 4 ∷ []) ≡ true
  unfolding start_tests among
  start-listed =
      all_results taken0 start_tests s b room (started_with b).result start_agrees (λ n. among n (0 ∷ 2 ∷ 3 ∷ 4 ∷ []) ≡ true)
      (refl, (refl, (refl, tt))) (refl, tt)

-- Refused, the settings are the defaults with address zero, and the node is theirs.
pub start-defaults : (b : List ℕ) → ((started_with b).result ≡ 0 → ⊥) → (started_with b).node ≡ node_of (defaults 0) (started (choice_of (defaults 0)))
unfolding started_with
start-defaults b h =
    ap (λ (x : Settings). node_of x (started (choice_of x)))
    (cases (started (choice_of (defaults 0))) b 0 (λ o x. (x.result ≡ 0 → ⊥) → x.settings ≡ defaults 0)
    (λ h. refl) (λ h. refl) (λ h. refl) (λ x h. absurd (h refl)) h)
