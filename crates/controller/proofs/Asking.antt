-- The own address, an odd one and a number of 2^48 or more are in no table, so they get "not in the table". Assumes nothing.
use Prim.Native.Nat.{ℕ, ◌≤◌, ◌^◌}
use mathlib.Core.Path.{◌≡◌, refl, sym, ◌∙◌, ap}
use mathlib.Core.Bool.{true, false, true≢false}
use mathlib.Core.List.{List, [], ◌∷◌}
use mathlib.Core.Logic.{⊎_elim, inr}
use mathlib.Core.Option.{none}
use native.Mathlib.Omega.{arith}
use borrow.Author.Tests.{ne_eqb}
use Rattle.wire.specs.Fields.{odd_first}
use Rattle.stations.specs.declared.station.Station.{Station}
use Rattle.stations.specs.Stations.{present, attributes_of}
use Rattle.stations.specs.Table.{Each}
use Rattle.stations.specs.Kept.{StationKept}
use Rattle.ways.specs.Choice.{way_to, number, numbers}
use Rattle.ways.proofs.Telling.{nothing-told}
use Rattle.controller.specs.State.{State}
use Rattle.controller.specs.Node.{west_request, east_request, steered, steering, shown, asked}
use Rattle.controller.specs.Kept.{StateKept}
use Rattle.controller.specs.Strange.{Strange}

module _ (own forget : ℕ) (K : List ℕ) (a : ℕ) (strange : Strange own a) where
  not_its : (s : Station) → StationKept own forget K s → s.address ≡ a → ⊥
  not_its s k e =
      ⊎_elim (λ (o : a ≡ own). k.foreign (e ∙ o))
      (λ r. ⊎_elim (λ (o : odd_first a ≡ true). true≢false (sym o ∙ (sym (ap odd_first e) ∙ k.even))) (λ (h : 2 ^ 48 ≤ a). omega (arith, k.address)) r)
      strange

  nowhere : (l : List Station) → Each (StationKept own forget K) l → (present a l ≡ false) × (attributes_of a l ≡ none)
  unfolding Each present attributes_of
  nowhere [] each = (refl, refl)
  nowhere (s ∷ l) each =
      let other = ne_eqb s.address a (not_its s each.0) in
      let (p, q) = nowhere l each.1 in
      (rw other p, rw other q)

module _ (s : State) (k : StateKept s) (a : ℕ) (strange : Strange s.choice.address a) where
  missing : (present a s.stations ≡ false) × (attributes_of a s.stations ≡ none)
  missing = nowhere s.choice.address s.choice.ticks.forget s.choice.known a strange s.stations k.stations.each

  pub strange_way : number (steered s a) ≡ 3
  unfolding steered way_to
  strange_way = rw missing.0

  -- With it come zeros.
  pub strange_told : numbers (steering s a) ≡ 3 ∷ 0 ∷ 0 ∷ 0 ∷ []
  unfolding steered steering
  strange_told = nothing-told (west_request s) (east_request s) s.stations a 3 (inr refl) strange_way

  pub strange_attributes : asked s a ≡ shown none
  unfolding asked
  strange_attributes = rw missing.1
