-- The words of 02, Item 1, each by itself, beside the definition that the contract cites.
use Rattle.std.specs.Prelude.{ℕ, ◌≤◌, ◌≡◌, ◌↔◌, Bool, true, false, not, cond, ◌||◌, List, [], ◌∷◌, ◌++◌, pos, ltb}
use Rattle.blocks.specs.Types.{among}
use Rattle.stations.specs.declared.station.Station.{Station}
use Rattle.stations.specs.Station.{with_hops}
use Rattle.stations.specs.Table.{Each}
use Rattle.controller.specs.State.{State}
use Rattle.controller.specs.Node.{asked}
use Rattle.bandwidth.specs.Free.{Free}
use Rattle.bandwidth.specs.Free.{free_bandwidth}

-- A number, and when it applies to a question with this link rate, in a state.
pub record RateTest : Type 0 where
  pub number : ℕ
  pub applies : State → ℕ → Bool

unfoldable pub any_behind : List Station → Bool
any_behind [] = false
any_behind (s ∷ l) = s.behind || any_behind l

-- "31 if a station is behind (..); before it, 4 for a link rate out of range, then 32 at level 1".
unfoldable pub rate_tests : List RateTest
unfolding among any_behind
rate_tests =
    record { number = 4; applies = λ s rate. ltb 65535 rate }
    ∷ record { number = 32; applies = λ s rate. not (among 2 s.choice.known) }
    ∷ record { number = 31; applies = λ s rate. any_behind s.stations }
    ∷ []

-- The number of the first test of a list that applies; 0 if none does.
unfoldable pub first_applying : List RateTest → State → ℕ → ℕ
first_applying [] s rate = 0
first_applying (t ∷ l) s rate = cond (t.applies s rate) t.number (first_applying l s rate)

-- "refused, both numbers are 0", there is no defect, and the address is that of 31 alone.
pub record ShowsNothing (x : Free) : Type 0 where
  pub ringlet0 : x.ringlet0 ≡ pos 0
  pub ringlet1 : x.ringlet1 ≡ pos 0
  pub excess : x.excess ≡ false
  pub address : (x.result ≡ 31 → ⊥) → x.address ≡ 0

-- "the lowest such address" is a: that of a station that is behind, and none that is behind has a lower one.
pub record LowestBehind (l : List Station) (a : ℕ) : Type 0 where
  pub earlier : List Station
  pub it : Station
  pub later : List Station
  pub among : l ≡ earlier ++ it ∷ later
  pub behind : it.behind ≡ true
  pub address : it.address ≡ a
  pub lowest : Each (λ (s : Station). s.behind ≡ true → a ≤ s.address) l

-- The same stations at other hops, open or closed, on one ringlet or on both.
unfoldable pub rehopped : (ℕ → ℕ) → (ℕ → ℕ) → List Station → List Station
rehopped f g [] = []
rehopped f g (s ∷ l) = with_hops (f s.address) (g s.address) s ∷ rehopped f g l

abbrev pub with_stations : List Station → State → State
with_stations l s = record { choice = s.choice; spans = s.spans; stations = l; pacer = s.pacer }

-- x and s are the states of the smaller and of the larger node at one point of a history, and both know type 2. The smaller is refused with 31 exactly where a station
-- is behind there; else both answer the same.
pub record SameFree (x s : State) (rate own0 own1 : ℕ) : Type 0 where
  pub behind : rate ≤ 65535 → ((free_bandwidth x rate own0 own1).result ≡ 31) ↔ ((a : ℕ) × ((asked x a).reply ≡ 1))
  pub else : ((free_bandwidth x rate own0 own1).result ≡ 31 → ⊥) → free_bandwidth x rate own0 own1 ≡ free_bandwidth s rate own0 own1
