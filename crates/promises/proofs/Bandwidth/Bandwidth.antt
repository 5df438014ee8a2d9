-- 02, Item 1. s is a state of the rules; own0 and own1 are "the node's own reservations". Assumes nothing.
use Prim.Native.Nat.{ℕ, ◌+◌, ◌*◌, ◌≤◌}
use mathlib.Core.Path.{◌≡◌, refl, sym, ◌∙◌, ap}
use mathlib.Core.Logic.{◌↔◌, ◌⊎◌}
use mathlib.Core.Bool.{true, false, and-eq-true_iff}
use mathlib.Core.List.{List}
use native.Mathlib.Omega.{arith}
use lib.IntN.{pos, neg_ℤ}
use lib.Dec.{leb}
use lib.Signed.{◌≤ℤ◌, ◌<ℤ◌}
use borrow.Author.Tests.{leb-true, leb-false, lt-leb}
use Rattle.settings.specs.Reading.{settings_in}
use Rattle.blocks.specs.Types.{among}
use Rattle.blocks.specs.Levels.{Sub}
use Rattle.blocks.proofs.Known.{knows_2}
use Rattle.stations.specs.Stations.{capacity}
use Rattle.controller.specs.Node.{Node, Started, settings_of, state_of}
use Rattle.controller.specs.State.{Choice, State, started}
use Rattle.controller.specs.Kept.{StateKept, Kept}
use Rattle.controller.specs.Promise.{Begun}
use Rattle.bandwidth.specs.Free.{Free}
use Rattle.bandwidth.specs.Free.{unreserved, refused, free_bandwidth}
use Rattle.promises.specs.History.{Call, after, start_of, Made, made_of, calls_of, node_after, Met}
use Rattle.promises.specs.Levels.{NoEight, knowing, with_level, NoEightMade}
use Rattle.promises.specs.Bandwidth.{rate_tests, first_applying, ShowsNothing, LowestBehind, rehopped, with_stations, SameFree}
use Rattle.promises.proofs.Demand2.Coming.{state-after, ruled}
use Rattle.promises.proofs.Roundtrip.RoundTrip.{level_is_written}
use Rattle.promises.proofs.Bandwidth.Answers.{in_order_lem, by_cases}
use Rattle.promises.proofs.Bandwidth.Below.{either_below}
use Rattle.promises.proofs.Bandwidth.Lowest.{lowest_behind}
use Rattle.promises.proofs.Bandwidth.Hops.{hops_alike}
use Rattle.promises.proofs.Bandwidth.Ends.{in_range_lem}
use Rattle.promises.proofs.Bandwidth.TwoNodes.{rules_alike, nodes_alike}

-- "Refusals: 31 if a station is behind (..); before it, 4 for a link rate out of range, then 32 at level 1".
pub refusals_in_order : (s : State) (rate own0 own1 : ℕ) → (free_bandwidth s rate own0 own1).result ≡ first_applying rate_tests s rate
refusals_in_order = in_order_lem

-- "at level 1": of the levels there are it is the one that does not know type 2.
pub level-one : {n : Node} → Kept n → (among 2 (state_of n).choice.known ≡ false) ↔ ((settings_of n).level ≡ 1)
level-one {n} k =
    let level : ℕ = (settings_of n).level in
    let low : leb 1 level ≡ true = ((and-eq-true_iff (leb 1 level) (leb level 2)).0 (level_is_written (settings_of n) k.settings.ranges)).0 in (
      λ e. omega (arith, leb-true 1 level low, leb-false 2 level (sym (knows_2 level) ∙ e)),
      λ e. knows_2 level ∙ lt-leb 2 level (omega arith),
    )

-- "refused, both numbers are 0": so is all else, but for the address of 31.
pub refused_shows_nothing : (s : State) (rate own0 own1 : ℕ) → ((free_bandwidth s rate own0 own1).result ≡ 0 → ⊥)
    → ShowsNothing (free_bandwidth s rate own0 own1)
refused_shows_nothing s rate own0 own1 =
    by_cases s rate own0 own1 (λ (x : Free). (x.result ≡ 0 → ⊥) → ShowsNothing x)
    (λ n. shows 4 0 (λ q. refl))
    (λ n. shows 32 0 (λ q. refl))
    (λ a e n. shows 31 a (λ q. absurd (q refl)))
    (λ n. absurd (n refl))
  where
    shows : (number address : ℕ) → ((number ≡ 31 → ⊥) → address ≡ 0) → ShowsNothing (refused number address)
    shows number address h = record { ringlet0 = refl; ringlet1 = refl; excess = refl; address = h }

-- "31 if a station is behind, with the lowest such address".
pub behind_is_lowest : {s : State} → StateKept s → (rate own0 own1 : ℕ) → (free_bandwidth s rate own0 own1).result ≡ 31
    → LowestBehind s.stations (free_bandwidth s rate own0 own1).address
behind_is_lowest {s} k rate own0 own1 =
    by_cases s rate own0 own1 (λ (x : Free). x.result ≡ 31 → LowestBehind s.stations x.address)
    (λ q. absurd (omega arith))
    (λ q. absurd (omega arith))
    (λ a e q. lowest_behind a s.stations k.stations.ascending e)
    (λ q. absurd (omega arith))

-- "give for each ringlet the rate minus all reservations".
pub numbers : (s : State) (rate own0 own1 : ℕ) → (free_bandwidth s rate own0 own1).result ≡ 0
    → ((free_bandwidth s rate own0 own1).ringlet0 ≡ unreserved 0 rate own0 s.stations)
    × ((free_bandwidth s rate own0 own1).ringlet1 ≡ unreserved 1 rate own1 s.stations)
numbers s rate own0 own1 =
    by_cases s rate own0 own1
    (λ (x : Free). x.result ≡ 0 → (x.ringlet0 ≡ unreserved 0 rate own0 s.stations) × (x.ringlet1 ≡ unreserved 1 rate own1 s.stations))
    (λ q. absurd (omega arith))
    (λ q. absurd (omega arith))
    (λ a e q. absurd (omega arith))
    (λ q. (refl, refl))

-- "below zero on either ringlet is the excess-reserved defect".
pub defect : (s : State) (rate own0 own1 : ℕ)
    → ((free_bandwidth s rate own0 own1).excess ≡ true)
    ↔ (((free_bandwidth s rate own0 own1).ringlet0 <ℤ pos 0) ⊎ ((free_bandwidth s rate own0 own1).ringlet1 <ℤ pos 0))
defect s rate own0 own1 =
    by_cases s rate own0 own1 (λ (x : Free). (x.excess ≡ true) ↔ ((x.ringlet0 <ℤ pos 0) ⊎ (x.ringlet1 <ℤ pos 0)))
    (either_below (pos 0) (pos 0))
    (either_below (pos 0) (pos 0))
    (λ a e. either_below (pos 0) (pos 0))
    (either_below (unreserved 0 rate own0 s.stations) (unreserved 1 rate own1 s.stations))

-- "every station counted once, on open and closed rings alike": whatever the hops of the stations.
pub hops_do_not-count : (f g : ℕ → ℕ) (s : State) (rate own0 own1 : ℕ)
    → free_bandwidth (with_stations (rehopped f g s.stations) s) rate own0 own1 ≡ free_bandwidth s rate own0 own1
hops_do_not-count = hops_alike

-- "The result may be below zero": no lower than by all that a whole table and the node itself can reserve.
pub range : {s : State} → StateKept s → (ringlet rate own : ℕ) → own ≤ 65535
    → (neg_ℤ (pos (65535 * (capacity + 1))) ≤ℤ unreserved ringlet rate own s.stations) × (unreserved ringlet rate own s.stations ≤ℤ pos rate)
range {s} k ringlet rate own low = in_range_lem s k ringlet rate own low

-- After any history the numbers are those of the rules: x is what a call may answer by its contract.
pub bandwidth_after : (b : List ℕ) (st : Started) → Begun b st → (h : List Made) → Met st h → (rate own0 own1 : ℕ) (x : Free)
    → (Kept (node_after st h) → x ≡ free_bandwidth (state_of (node_after st h)) rate own0 own1)
    → x ≡ free_bandwidth (after (start_of b) (calls_of h)) rate own0 own1
bandwidth_after b st begun h met rate own0 own1 x answer =
    answer (ruled b st begun h met).kept ∙ ap (λ (s : State). free_bandwidth s rate own0 own1) (state-after b st begun h met)

-- Demand 3, of these numbers: where both nodes know type 2, the smaller is refused with 31 exactly where it says "behind" of a station, and else answers what the
-- larger answers. To the rules: c are the settings of the larger node, K the types that the smaller knows, h the calls, the latest first.
pub same_free : (c : Choice) (K : List ℕ) → Sub K c.known → among 2 K ≡ true → (h : List Call) → NoEight (started c) h → (rate own0 own1 : ℕ)
    → SameFree (after (started (knowing K c)) h) (after (started c) h) rate own0 own1
same_free = rules_alike

-- To nodes of the program, as `demand3_nodes`.
module _ (a b : List ℕ) (level : ℕ) (lower : level ≤ (settings_in b).settings.level) (equal : (settings_in a).settings ≡ with_level level (settings_in b).settings)
    (small large : Started) (begun-small : Begun a small) (begun-large : Begun b large) where
  pub same_free_nodes : 2 ≤ level → (g h : List Made) → made_of g ≡ made_of h → Met small g → Met large h → NoEightMade h → (rate own0 own1 : ℕ)
      → SameFree (state_of (node_after small g)) (state_of (node_after large h)) rate own0 own1
  same_free_nodes = nodes_alike a b level lower equal small large begun-small begun-large
