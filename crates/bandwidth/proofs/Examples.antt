-- The free bandwidth of small tables, computed: of any state with these stations at this level. Assumes nothing.
use mathlib.Core.Path.{◌≡◌, refl}
use mathlib.Core.Bool.{true, false}
use mathlib.Core.List.{[], ◌∷◌}
use lib.IntN.{pos, neg_ℤ}
use Rattle.blocks.specs.Types.{knows, among}
use Rattle.controller.specs.State.{State}
use Rattle.bandwidth.specs.Free.{refused, free_bandwidth}
use Rattle.bandwidth.specs.Examples.{station, late, holding, left, closed_ring, open_ring}

module _ (s : State) where
  -- "every station counted once, on open and closed rings alike": 1000 less 600 and the own 50 on ringlet 0; less 60 and the own 5 on ringlet 1.
  pub closed-ring : free_bandwidth (holding s 2 closed_ring) 1000 50 5 ≡ left (pos 350) (pos 935) false
  unfolding free_bandwidth knows among
  closed-ring = refl

  pub open_ring_lem : free_bandwidth (holding s 2 open_ring) 1000 50 5 ≡ left (pos 350) (pos 935) false
  unfolding free_bandwidth knows among
  open_ring_lem = refl

  -- A station that is heard on both ringlets is one station.
  pub heard_twice : free_bandwidth (holding s 2 (station 2 1 1 100 10 ∷ [])) 1000 0 0 ≡ left (pos 900) (pos 990) false
  unfolding free_bandwidth knows among
  heard_twice = refl

  -- Exactly 0 is no defect.
  pub exactly_zero : free_bandwidth (holding s 2 (station 2 1 0 100 40 ∷ [])) 100 0 60 ≡ left (pos 0) (pos 0) false
  unfolding free_bandwidth knows among
  exactly_zero = refl

  -- "below zero on either ringlet is the excess-reserved defect": on ringlet 0 alone, and on ringlet 1 alone.
  pub below_on_0 : free_bandwidth (holding s 2 (station 2 1 0 101 0 ∷ [])) 100 0 0 ≡ left (neg_ℤ (pos 1)) (pos 100) true
  unfolding free_bandwidth knows among
  below_on_0 = refl

  pub below_on_1 : free_bandwidth (holding s 2 (station 2 1 0 0 101 ∷ [])) 100 0 0 ≡ left (pos 100) (neg_ℤ (pos 1)) true
  unfolding free_bandwidth knows among
  below_on_1 = refl

  -- The own reservations alone, no station.
  pub own_alone : free_bandwidth (holding s 2 []) 100 30 130 ≡ left (pos 70) (neg_ℤ (pos 30)) true
  unfolding free_bandwidth knows among
  own_alone = refl

  -- "31 if a station is behind, with the lowest such address".
  pub one-behind : free_bandwidth (holding s 2 (station 2 1 0 100 10 ∷ late 3 ∷ [])) 1000 0 0 ≡ refused 31 3
  unfolding free_bandwidth knows among
  one-behind = refl

  pub two_behind : free_bandwidth (holding s 2 (late 3 ∷ station 4 2 0 100 10 ∷ late 5 ∷ [])) 1000 0 0 ≡ refused 31 3
  unfolding free_bandwidth knows among
  two_behind = refl

  -- "before it, 4 for a link rate out of range, then 32 at level 1".
  pub level-before-behind : free_bandwidth (holding s 1 (late 3 ∷ [])) 1000 0 0 ≡ refused 32 0
  unfolding free_bandwidth knows among
  level-before-behind = refl

  pub rate_before-behind : free_bandwidth (holding s 2 (late 3 ∷ [])) 65536 0 0 ≡ refused 4 0
  unfolding free_bandwidth knows among
  rate_before-behind = refl

  pub rate_before-level : free_bandwidth (holding s 1 []) 65536 0 0 ≡ refused 4 0
  unfolding free_bandwidth knows among
  rate_before-level = refl

  -- "(0 to 65,535 in the same unit as type 2)": both ends are rates.
  pub highest_rate : free_bandwidth (holding s 2 []) 65535 0 0 ≡ left (pos 65535) (pos 65535) false
  unfolding free_bandwidth knows among
  highest_rate = refl

  pub lowest_rate : free_bandwidth (holding s 2 []) 0 0 0 ≡ left (pos 0) (pos 0) false
  unfolding free_bandwidth knows among
  lowest_rate = refl
