-- Why the larger node may refuse no block: a history in which it answers 8, and after which the smaller shows values that the larger does not. Assumes nothing.
use Prim.Native.Nat.{ℕ}
use mathlib.Core.Path.{◌≡◌, refl}
use mathlib.Core.List.{List, [], ◌∷◌}
use native.Mathlib.Omega.{arith}
use Rattle.wire.specs.Fields.{address_at}
use Rattle.wire.specs.Head.{broken, head_of}
use Rattle.settings.specs.Ticks.{ticks_of}
use Rattle.settings.specs.Ranges.{in_range}
use Rattle.settings.specs.Reading.{fields_of, full_in, settings_in}
use Rattle.blocks.specs.Types.{knows, good, among}
use Rattle.blocks.specs.Entries.{cut}
use Rattle.blocks.specs.Meaning.{known, has, sound, behind, value}
use Rattle.controller.specs.Node.{asked}
use Rattle.promises.specs.History.{after, answered, start_of}
use Rattle.promises.specs.Levels.{NoEight, latest, no_blocks, value_shown, Levelled}
use Rattle.promises.specs.Examples.{station, attributes, shown_as}
use Rattle.promises.specs.LevelDrills.{call, small, large, short_two, joined, eights}

pub eight_answered : ((answered small joined (call (attributes 2 short_two))).result ≡ 0) × ((answered large joined (call (attributes 2 short_two))).result ≡ 8)
unfolding after start_of settings_in head_of broken full_in fields_of in_range address_at ticks_of cut known has sound behind value knows good among
eight_answered = (refl, refl)

-- Such a history is left out by the hypothesis of demand 3,
pub eight_left_out : NoEight large eights → ⊥
unfolding NoEight after start_of settings_in head_of broken full_in fields_of in_range address_at ticks_of cut known has sound behind value knows good among
eight_left_out n = n.0 refl

-- and has to be: the values that the two show,
pub eight_shown : (shown_as (asked (after small eights) (station 2)) ≡ 0 ∷ 0 ∷ 3 ∷ 5 ∷ 0 ∷ 0 ∷ [])
    × (shown_as (asked (after large eights) (station 2)) ≡ 0 ∷ 0 ∷ 1 ∷ 1 ∷ 0 ∷ 0 ∷ [])
unfolding after asked start_of settings_in head_of broken full_in fields_of in_range address_at ticks_of cut known has sound behind value knows good among
eight_shown = (refl, refl)

-- so that what demand 3 says of two nodes does not hold of these.
pub eight_needed : Levelled (knows 1) (latest no_blocks large eights) (after small eights) (after large eights) → ⊥
unfolding value_shown after asked start_of settings_in head_of broken full_in fields_of in_range address_at ticks_of cut known has sound behind value knows good among
eight_needed l =
    let e : ◌≡◌ {A = List ℕ} (3 ∷ 5 ∷ []) (1 ∷ 1 ∷ []) = l.values (station 2) (λ q. omega arith) 1 refl in
    let z : ◌≡◌ {A = ℕ} 3 1 = cc in
    omega arith
