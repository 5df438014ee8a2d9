-- What the theorems on free bandwidth suppose is met, by computation: two nodes of which the smaller is behind, then not; nodes of the program; the upper
-- end of the range. Assumes nothing.
use Prim.Native.Nat.{ℕ, ◌≤◌}
use mathlib.Core.Path.{◌≡◌, refl, ap}
use mathlib.Core.Bool.{Bool, true, false, ◌||◌, false≢true}
use mathlib.Core.List.{[]}
use native.Mathlib.Omega.{arith}
use lib.IntN.{pos, neg_ℤ}
use lib.Dec.{eqb}
use Rattle.wire.specs.Fields.{address_at}
use Rattle.wire.specs.Head.{broken, head_of}
use Rattle.settings.specs.Ticks.{ticks_of}
use Rattle.settings.specs.Ranges.{in_range}
use Rattle.settings.specs.Reading.{fields_of, full_in, settings_in}
use Rattle.blocks.specs.Types.{knows, good, among}
use Rattle.blocks.specs.Levels.{Sub}
use Rattle.blocks.specs.Entries.{cut}
use Rattle.blocks.specs.Meaning.{known, has, sound, behind, value}
use Rattle.stations.specs.Table.{blank}
use Rattle.controller.specs.State.{started}
use Rattle.controller.specs.Kept.{Kept}
use Rattle.controller.specs.Node.{started_with, state_of}
use Rattle.bandwidth.specs.Free.{Free}
use Rattle.bandwidth.specs.Free.{unreserved, refused, answered, free_bandwidth}
use Rattle.promises.specs.History.{after, start_of, calls_of, Met, node_after}
use Rattle.promises.specs.Levels.{NoEight, knowing, with_level, NoEightMade}
use Rattle.promises.specs.Bandwidth.{SameFree}
use Rattle.promises.specs.Possible.{AllHanded, made, are_bytes}
use Rattle.promises.specs.Examples.{settings, station, report, attributes}
use Rattle.promises.specs.LevelDrills.{large_node}
use Rattle.promises.specs.BandwidthDrills.{fewer, larger, thirds, one_and_two, seconds, given}
use Rattle.promises.proofs.Demand2.Possible.{made_met, are_bytes_lem}
use Rattle.promises.proofs.Demand3.Meets3.{begun_both}
use Rattle.promises.proofs.Bandwidth.Bandwidth.{bandwidth_after, same_free, same_free_nodes}

-- The smaller knows types 1 and 2, the larger 3 besides.
pub fewer-known : Sub fewer larger.known
unfolding among
fewer-known t e = go (eqb t 1) (eqb t 2) e
  where
    go : (p q : Bool) → p || (q || false) ≡ true → p || (q || (eqb t 3 || false)) ≡ true
    go true q e = refl
    go false true e = refl
    go false false e = absurd (false≢true e)

pub two_known : among 2 fewer ≡ true
unfolding among
two_known = refl

-- A station's block has a mandatory type 3: the smaller is refused with its address, the larger has its numbers.
pub third_no_eight : NoEight (started larger) thirds
unfolding NoEight after started address_at cut known has sound behind value good among
third_no_eight = (λ e. omega arith, (λ e. omega arith, tt))

pub third_behind : (free_bandwidth (after (started (knowing fewer larger)) thirds) 1000 500 100 ≡ refused 31 (station 2))
    × (free_bandwidth (after (started larger) thirds) 1000 500 100 ≡ answered (neg_ℤ (pos 200)) (pos 500))
unfolding free_bandwidth after started address_at cut known has sound behind value good among
third_behind = (refl, refl)

pub third_alike : SameFree (after (started (knowing fewer larger)) thirds) (after (started larger) thirds) 1000 500 100
third_alike = same_free larger fewer fewer-known two_known thirds third_no_eight 1000 500 100

-- Then one of types 1 and 2 alone: both have the same numbers, below zero on ringlet 0, which is the defect.
pub second_no_eight : NoEight (started larger) seconds
unfolding NoEight after started address_at cut known has sound behind value good among
second_no_eight = (λ e. omega arith, third_no_eight)

abbrev less : Free
less = record { result = 0; address = 0; ringlet0 = neg_ℤ (pos 200); ringlet1 = pos 500; excess = true }

pub second_same : (free_bandwidth (after (started (knowing fewer larger)) seconds) 1000 500 100 ≡ less)
    × (free_bandwidth (after (started larger) seconds) 1000 500 100 ≡ less)
unfolding free_bandwidth after started address_at cut known has sound behind value good among
second_same = (refl, refl)

-- The same at a node of the program of level 2, beside itself: every hypothesis of the theorems on nodes is met, ..
pub lower : 2 ≤ (settings_in (settings 2 0)).settings.level
unfolding settings_in head_of broken full_in fields_of in_range address_at
lower = omega arith

pub equal : (settings_in (settings 2 0)).settings ≡ with_level 2 (settings_in (settings 2 0)).settings
unfolding settings_in head_of broken full_in fields_of in_range address_at
equal = refl

pub given_met : Met large_node (made large_node given)
unfolding AllHanded are_bytes
given_met = made_met large_node given (are_bytes_lem (attributes 2 one_and_two) refl, (are_bytes_lem (report 0 255 2 1 0 0) refl, tt))

pub given_no_eight : NoEightMade (made large_node given)
unfolding NoEightMade made started_with blank settings_in head_of broken full_in fields_of in_range address_at ticks_of cut known has sound behind value knows good among
given_no_eight = (λ e. omega arith, (λ e. omega arith, tt))

pub given_alike :
    let s = state_of (node_after large_node (made large_node given)) in
    SameFree s s 1000 500 100
given_alike =
    let h = made large_node given in
    same_free_nodes (settings 2 0) (settings 2 0) 2 lower equal large_node large_node begun_both.1 begun_both.1 (omega arith)
    h h refl given_met given_met given_no_eight 1000 500 100

-- .. and what its contract lets it answer are the numbers of the rules.
pub given-answered : (x : Free)
    → (Kept (node_after large_node (made large_node given)) → x ≡ free_bandwidth (state_of (node_after large_node (made large_node given))) 1000 500 100)
    → x ≡ less
unfolding made calls_of free_bandwidth after start_of settings_in head_of broken full_in fields_of in_range address_at ticks_of cut known has sound behind value knows good among
given-answered x answer = bandwidth_after (settings 2 0) large_node begun_both.1 (made large_node given) given_met 1000 500 100 x answer

-- No station, and nothing reserved: the upper end.
pub upper_end : (rate ringlet : ℕ) → unreserved ringlet rate 0 [] ≡ pos rate
unfolding unreserved
upper_end rate ringlet = ap pos (omega arith)
