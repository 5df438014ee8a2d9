-- The way as it was chosen before 02, Item 5, when a walk told its worst request alone, and that it is chosen so still. Assumes nothing.
use mathlib.Core.Path.{◌≡◌, refl, ◌∙◌, ap}
use mathlib.Core.List.{List}
use mathlib.Core.Bool.{Bool, true, false, cond, ◌&&◌}
use mathlib.Core.Option.{Option, none, some}
use Prim.Native.Nat.{ℕ, zero, suc}
use lib.Dec.{leb, ltb}
use Rattle.spans.specs.Codes.{SF, higher}
use Rattle.stations.specs.Stations.{present}
use Rattle.stations.specs.declared.station.Station.{Station}
use Rattle.ways.specs.Walk.{Ends, Walk, near, far, held, onward, walk}
use Rattle.ways.specs.Choice.{Way, Reply, West, East, NoWay, Unknown, usable, way, chosen, hop_of, way_to}

pub record OldWalk : Type 0 where
  pub worst : ℕ
  pub end : ℕ

abbrev pub old_onward : ℕ → Option OldWalk → Option Ends → Option OldWalk
old_onward ringlet none o = none
old_onward ringlet (some w) none = none
old_onward ringlet (some w) (some s) =
    some (record { worst = higher w.worst (higher w.end (near ringlet s)); end = far ringlet s })

unfoldable pub old_walk : ℕ → ℕ → List Station → ℕ → Option OldWalk
old_walk ringlet own l zero = some (record { worst = 0; end = own })
old_walk ringlet own l (suc h) = old_onward ringlet (old_walk ringlet own l h) (held ringlet (suc h) l)

pub record OldWay : Type 0 where
  pub worst : ℕ
  pub hops : ℕ

abbrev pub old_usable : ℕ → Option OldWalk → Option OldWay
old_usable h none = none
old_usable h (some w) = cond (ltb 0 h && ltb w.worst SF) (some (record { worst = w.worst; hops = h })) none

abbrev pub old_chosen : Option OldWay → Option OldWay → Reply
old_chosen none none = NoWay
old_chosen (some w) none = West
old_chosen none (some e) = East
old_chosen (some w) (some e) =
    cond (ltb w.worst e.worst) West
    (cond (ltb e.worst w.worst) East
    (cond (leb w.hops e.hops) West East))

abbrev pub old_way_to : ℕ → ℕ → List Station → ℕ → Reply
old_way_to west east l a =
    cond (present a l) (old_chosen (old_usable (hop_of 0 a l) (old_walk 0 west l (hop_of 0 a l))) (old_usable (hop_of 1 a l) (old_walk 1 east l (hop_of 1 a l)))) Unknown

-- A walk, and a way, without its span.
abbrev less_walk : Option Walk → Option OldWalk
less_walk none = none
less_walk (some w) = some (record { worst = w.worst; end = w.end })

abbrev less_way : Option Way → Option OldWay
less_way none = none
less_way (some w) = some (record { worst = w.worst; hops = w.hops })

same_onward : (r n : ℕ) (o : Option Walk) (s : Option Ends) → less_walk (onward r n o s) ≡ old_onward r (less_walk o) s
same_onward r n none s = refl
same_onward r n (some w) none = refl
same_onward r n (some w) (some s) = refl

same_walk : (r own : ℕ) (l : List Station) (h : ℕ) → less_walk (walk r own l h) ≡ old_walk r own l h
unfolding walk old_walk
same_walk r own l zero = refl
same_walk r own l (suc h) =
    same_onward r (suc h) (walk r own l h) (held r (suc h) l)
    ∙ ap (λ (o : Option OldWalk). old_onward r o (held r (suc h) l)) (same_walk r own l h)

same_usable : (h : ℕ) (o : Option Walk) → less_way (usable h o) ≡ old_usable h (less_walk o)
same_usable h none = refl
same_usable h (some w) = go (ltb 0 h && ltb w.worst SF)
  where
    go : (b : Bool) → less_way (cond b (some (record { worst = w.worst; hops = h; span = w.span })) none)
        ≡ cond b (some (record { worst = w.worst; hops = h })) none
    go true = refl
    go false = refl

same_way : (r own : ℕ) (l : List Station) (h : ℕ) → less_way (way r own l h) ≡ old_usable h (old_walk r own l h)
unfolding way
same_way r own l h = same_usable h (walk r own l h) ∙ ap (old_usable h) (same_walk r own l h)

same_chosen : (a b : Option Way) → chosen a b ≡ old_chosen (less_way a) (less_way b)
same_chosen none none = refl
same_chosen (some x) none = refl
same_chosen none (some y) = refl
same_chosen (some x) (some y) = refl

-- For every table, own requests and address the reply is that of before.
pub chosen_as_before : (w e : ℕ) (l : List Station) (a : ℕ) → way_to w e l a ≡ old_way_to w e l a
unfolding way_to
chosen_as_before w e l a =
    ap (λ (r : Reply). cond (present a l) r Unknown)
    (same_chosen (way 0 w l (hop_of 0 a l)) (way 1 e l (hop_of 1 a l)) ∙ rw (same_way 0 w l (hop_of 0 a l), same_way 1 e l (hop_of 1 a l)))
