-- Histories that meet the hypotheses of demand 3, by computation: a block that the smaller node sets aside and the larger takes, one that both take, a station
-- that leaves and comes again, and many ticks in one record. Assumes nothing.
use Prim.Native.Nat.{◌≤◌}
use mathlib.Core.Path.{◌≡◌, refl}
use mathlib.Core.List.{[], ◌∷◌}
use mathlib.Core.Option.{none, some}
use native.Mathlib.Omega.{arith}
use Rattle.wire.specs.Fields.{address_at}
use Rattle.wire.specs.Head.{broken, head_of}
use Rattle.settings.specs.Ticks.{ticks_of}
use Rattle.settings.specs.Ranges.{in_range}
use Rattle.settings.specs.Reading.{fields_of, full_in, settings_in}
use Rattle.blocks.specs.Types.{knows, good, among}
use Rattle.blocks.specs.Entries.{cut}
use Rattle.blocks.specs.Meaning.{known, has, sound, behind, value}
use Rattle.stations.specs.Table.{blank}
use Rattle.controller.specs.Promise.{Begun}
use Rattle.controller.specs.Node.{started_with, asked}
use Rattle.promises.specs.History.{after, after_all, spelled_out, answered, start_of, made_of, Met}
use Rattle.promises.specs.Levels.{NoEight, latest, no_blocks, says_behind, with_level, NoEightMade}
use Rattle.promises.specs.Possible.{AllHanded, made, are_bytes}
use Rattle.promises.specs.LevelDrills.{call, small, large, type_two, joined, asides, type_one, takes, returns, ages, handed, small_node, large_node}
use Rattle.promises.proofs.Demand2.Possible.{begins, made_met, calls_made, are_bytes_lem}
use Rattle.promises.specs.Examples.{settings, station, many, report, attributes, shown_as}

-- Level 1 and level 2, else equal.
pub equal : (settings_in (settings 1 0)).settings ≡ with_level 1 (settings_in (settings 2 0)).settings
unfolding settings_in head_of broken full_in fields_of in_range address_at
equal = refl

pub lower : 1 ≤ (settings_in (settings 2 0)).settings.level
unfolding settings_in head_of broken full_in fields_of in_range address_at
lower = omega arith

pub aside_no_eight : NoEight large asides
unfolding NoEight after start_of settings_in head_of broken full_in fields_of in_range address_at ticks_of cut known has sound behind value knows good among
aside_no_eight = (λ e. omega arith, (λ e. omega arith, tt))

pub aside_and-taken : ((answered small joined (call (attributes 2 type_two))).result ≡ 24)
    × ((answered large joined (call (attributes 2 type_two))).result ≡ 0)
unfolding after start_of settings_in head_of broken full_in fields_of in_range address_at ticks_of cut known has sound behind value knows good among
aside_and-taken = (refl, refl)

pub aside_shown : (asked (after small asides) (station 2) ≡ says_behind 2)
    × (shown_as (asked (after large asides) (station 2)) ≡ 0 ∷ 0 ∷ 1 ∷ 1 ∷ 1000 ∷ 0 ∷ [])
    × (latest no_blocks large asides (station 2) ≡ some type_two)
unfolding after asked latest start_of settings_in head_of broken full_in fields_of in_range address_at ticks_of cut known has sound behind value knows good among
aside_shown = (refl, refl, refl)

pub taken_no_eight : NoEight large takes
unfolding NoEight after start_of settings_in head_of broken full_in fields_of in_range address_at ticks_of cut known has sound behind value knows good among
taken_no_eight = (λ e. omega arith, aside_no_eight)

pub taken-shown : (shown_as (asked (after small takes) (station 2)) ≡ 0 ∷ 0 ∷ 3 ∷ 5 ∷ 0 ∷ 0 ∷ [])
    × (shown_as (asked (after large takes) (station 2)) ≡ 0 ∷ 0 ∷ 3 ∷ 5 ∷ 0 ∷ 0 ∷ [])
    × (latest no_blocks large takes (station 2) ≡ some type_one)
unfolding after asked latest start_of settings_in head_of broken full_in fields_of in_range address_at ticks_of cut known has sound behind value knows good among
taken-shown = (refl, refl, refl)

pub returns_no_eight : NoEight large returns
unfolding NoEight after start_of settings_in head_of broken full_in fields_of in_range address_at ticks_of cut known has sound behind value knows good among
returns_no_eight = (λ e. omega arith, (λ e. omega arith, (λ e. omega arith, aside_no_eight)))

pub returns-shown : (shown_as (asked (after small returns) (station 2)) ≡ 0 ∷ 0 ∷ 1 ∷ 1 ∷ 0 ∷ 0 ∷ []) × (latest no_blocks large returns (station 2) ≡ none)
unfolding after asked latest start_of settings_in head_of broken full_in fields_of in_range address_at ticks_of cut known has sound behind value knows good among
returns-shown = (refl, refl)

-- 02, Item 4: ticks in one record behind the block. Nothing is malformed when they are read as ticks, and level 1 is behind still.
pub ages_no_eight : NoEight large (spelled_out ages)
unfolding NoEight after spelled_out start_of settings_in head_of broken full_in fields_of in_range address_at ticks_of cut known has sound behind value knows good among
ages_no_eight = (λ e. omega arith, (λ e. omega arith, aside_no_eight))

pub ages-shown : (asked (after_all small ages) (station 2) ≡ says_behind 2) × (latest no_blocks large (spelled_out ages) (station 2) ≡ some type_two)
unfolding after_all after spelled_out asked latest start_of settings_in head_of broken full_in fields_of in_range address_at ticks_of cut known has sound behind value knows good among
ages-shown = (refl, refl)

-- The same at nodes of the program, from the bytes of their settings: every hypothesis of the theorems on nodes is met.
pub begun_both : Begun (settings 1 0) small_node × Begun (settings 2 0) large_node
unfolding are_bytes
begun_both = (begins (settings 1 0) (are_bytes_lem (settings 1 0) refl), begins (settings 2 0) (are_bytes_lem (settings 2 0) refl))

bytes_handed : AllHanded handed
unfolding AllHanded are_bytes
bytes_handed = (are_bytes_lem (many 10) refl, (are_bytes_lem (attributes 2 type_two) refl, (are_bytes_lem (report 0 255 2 1 0 0) refl, tt)))

pub met_both : Met small_node (made small_node handed) × Met large_node (made large_node handed)
met_both = (made_met small_node handed bytes_handed, made_met large_node handed bytes_handed)

pub same_calls : made_of (made small_node handed) ≡ made_of (made large_node handed)
same_calls = calls_made small_node large_node handed

pub none_eight : NoEightMade (made large_node handed)
unfolding NoEightMade made started_with blank settings_in head_of broken full_in fields_of in_range address_at ticks_of cut known has sound behind value knows good among
none_eight = (λ e. omega arith, (λ e. omega arith, (λ e. omega arith, tt)))
