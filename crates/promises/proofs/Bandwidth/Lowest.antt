-- The first station that is behind has the lowest address of those, as the stations ascend. Assumes nothing.
use Prim.Native.Nat.{ℕ, ◌<◌, ◌≤◌}
use mathlib.Core.Path.{◌≡◌, refl, sym, ◌∙◌, ap}
use mathlib.Core.Bool.{Bool, true, false, cond, true≢false}
use mathlib.Core.List.{List, [], ◌∷◌}
use mathlib.Core.Option.{some, none-ne-some}
use native.Mathlib.Omega.{arith}
use Rattle.stations.specs.declared.station.Station.{Station}
use Rattle.stations.specs.Table.{Each, Ascending}
use Rattle.stations.proofs.Lists.{each_map}
use Rattle.bandwidth.specs.Free.{first_behind}
use Rattle.promises.specs.Bandwidth.{LowestBehind}

module _ (a : ℕ) where
  here : (s : Station) (l : List Station) → Each (λ (x : Station). s.address < x.address) l → s.behind ≡ true → s.address ≡ a
      → LowestBehind (s ∷ l) a
  unfolding Each
  here s l up e q = record {
    earlier = [];
    it = s;
    later = l;
    among = refl;
    behind = e;
    address = q;
    lowest = (
      λ b. omega arith,
      each_map (λ (x : Station). s.address < x.address) (λ (x : Station). x.behind ≡ true → a ≤ x.address) (λ x h b. omega arith) l up,
    );
  }

  later : (s : Station) (l : List Station) → s.behind ≡ false → LowestBehind l a → LowestBehind (s ∷ l) a
  unfolding Each
  later s l e k = record {
    earlier = s ∷ k.earlier;
    it = k.it;
    later = k.later;
    among = ap (λ (m : List Station). s ∷ m) k.among;
    behind = k.behind;
    address = k.address;
    lowest = (λ b. absurd (true≢false (sym b ∙ e)), k.lowest);
  }

  pub lowest_behind : (l : List Station) → Ascending l → first_behind l ≡ some a → LowestBehind l a
  unfolding Ascending first_behind
  lowest_behind [] up e = absurd (none-ne-some a e)
  lowest_behind (s ∷ l) up e = go s.behind refl e (lowest_behind l up.1)
    where
      go : (b : Bool) → s.behind ≡ b → cond b (some s.address) (first_behind l) ≡ some a → (first_behind l ≡ some a → LowestBehind l a)
          → LowestBehind (s ∷ l) a
      go true q e ih = here s l up.0 q (cc)
      go false q e ih = later s l q (ih e)
