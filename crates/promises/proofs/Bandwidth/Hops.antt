-- Nothing of the answer looks at a hop. Assumes nothing.
use Prim.Native.Nat.{ℕ, ◌+◌}
use mathlib.Core.Path.{◌≡◌, refl, ap}
use mathlib.Core.Bool.{cond}
use mathlib.Core.List.{List, [], ◌∷◌}
use mathlib.Core.Option.{some}
use Rattle.stations.specs.declared.station.Station.{Station}
use Rattle.controller.specs.State.{State}
use Rattle.bandwidth.specs.Free.{reservation, reservations, first_behind, free_bandwidth}
use Rattle.promises.specs.Bandwidth.{rehopped, with_stations}

module _ (f g : ℕ → ℕ) where
  reserved_alike : (ringlet : ℕ) (l : List Station) → reservations ringlet (rehopped f g l) ≡ reservations ringlet l
  unfolding reservations rehopped
  reserved_alike ringlet [] = refl
  reserved_alike ringlet (s ∷ l) = ap (λ (n : ℕ). reservation ringlet s + n) (reserved_alike ringlet l)

  behind_alike : (l : List Station) → first_behind (rehopped f g l) ≡ first_behind l
  unfolding first_behind rehopped
  behind_alike [] = refl
  behind_alike (s ∷ l) = ap (cond s.behind (some s.address)) (behind_alike l)

  pub hops_alike : (s : State) (rate own0 own1 : ℕ)
      → free_bandwidth (with_stations (rehopped f g s.stations) s) rate own0 own1 ≡ free_bandwidth s rate own0 own1
  unfolding free_bandwidth
  hops_alike s rate own0 own1 = rw (behind_alike s.stations, reserved_alike 0 s.stations, reserved_alike 1 s.stations)
