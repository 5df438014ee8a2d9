-- The latest blocks of the stations are the same, by whichever of the two nodes they are told. Assumes nothing.
use Prim.Native.Nat.{ℕ}
use mathlib.Core.Path.{◌≡◌, refl, sym, ◌∙◌, ap}
use mathlib.Core.Bool.{false}
use mathlib.Core.List.{List, [], ◌∷◌}
use mathlib.Core.Logic.{inl, inr}
use mathlib.Core.Option.{Option, none}
use Rattle.blocks.specs.Levels.{Sub}
use Rattle.stations.specs.declared.station.Station.{Station}
use Rattle.stations.specs.Stations.{present}
use Rattle.controller.specs.Reading.{Reading}
use Rattle.controller.specs.Reading.{reading}
use Rattle.controller.specs.State.{State}
use Rattle.promises.specs.History.{Call, answered}
use Rattle.promises.specs.Levels.{NoEight, taken_or_aside, latest_now, latest, SameResult, attributes_by, under}
use Rattle.promises.proofs.Demand3.Dress.{present_dressed}
use Rattle.promises.proofs.Demand3.Following.{answers, follows}

-- Where the smaller sets aside what the larger takes, both count.
counts_alike : (x y : ℕ) → SameResult x y → taken_or_aside x ≡ taken_or_aside y
counts_alike x y (inl e) = ap taken_or_aside e
counts_alike x y (inr e) = ap taken_or_aside e.0 ∙ ap taken_or_aside (sym e.1)

now_alike : (b : List ℕ) (a : ℕ) {r q : Reading} (x y : ℕ) (l m : List Station) {o z : Option (List ℕ)} → r ≡ q → SameResult x y
    → present a l ≡ present a m → o ≡ z → latest_now r b x l a o ≡ latest_now q b y m a z
unfolding latest_now
now_alike b a x y l m e t p q = rw (e, counts_alike x y t, p, q)

-- s is the larger node, f gives the latest blocks of its stations, and K are the types that the smaller knows.
module _ (f : ℕ → Option (List ℕ)) (s : State) (none-else : (a : ℕ) → present a s.stations ≡ false → f a ≡ none)
    (K : List ℕ) (sub : Sub K s.choice.known) where
  abbrev smaller : State
  smaller = under K (λ (a : ℕ). attributes_by K (f a)) s

  pub latest_alike : (h : List Call) → NoEight s h → (a : ℕ) → latest f smaller h a ≡ latest f s h a
  unfolding latest NoEight
  latest_alike [] n a = refl
  latest_alike (c ∷ h) n a =
      let e = follows f s none-else K sub h n.1 in
      let q = answers f s none-else K sub h c e n.0 in
      now_alike c.bytes a (answered smaller h c).result (answered s h c).result (answered smaller h c).state.stations (answered s h c).state.stations
      (ap (λ (x : State). reading x.choice.address c.bytes c.room) e) q.result
      (ap (λ (x : State). present a x.stations) q.state
      ∙ present_dressed (λ (z : ℕ). attributes_by K (latest f s (c ∷ h) z)) a (answered s h c).state.stations) (latest_alike h n.1 a)
