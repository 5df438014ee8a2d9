-- A block's first mandatory type outside K, found by walking its entries, is the one that the walk of the rules finds. Assumes nothing.
use Prim.Native.Nat.{ℕ}
use mathlib.Core.Path.{◌≡◌, refl, ◌∙◌, ap}
use mathlib.Core.Bool.{Bool, true, false, cond, ◌||◌, true≢false}
use mathlib.Core.List.{List, [], ◌∷◌, ◌++◌}
use mathlib.Core.Option.{some, none-ne-some}
use Rattle.blocks.specs.Entries.{Entry}
use Rattle.blocks.specs.Meaning.{behind}
use Rattle.blocks.specs.Levels.{First}
use Rattle.promises.specs.Levels.{stops, any_stops, FirstUnknown}

-- Where the walk stops.
record Stop (K : List ℕ) (es : List Entry) (t : ℕ) : Type 0 where
  earlier : List Entry
  it : Entry
  later : List Entry
  split : es ≡ earlier ++ it ∷ later
  kind : it.kind ≡ t
  unknown : stops K it ≡ true
  first : any_stops K earlier ≡ false

module _ (K : List ℕ) (t : ℕ) where
  stop_here : (e : Entry) (es : List Entry) → stops K e ≡ true → some e.kind ≡ some t → Stop K (e ∷ es) t
  unfolding any_stops
  stop_here e es q h = record { earlier = []; it = e; later = es; split = refl; kind = cc; unknown = q; first = refl }

  stop_later : (e : Entry) (es : List Entry) → stops K e ≡ false → Stop K es t → Stop K (e ∷ es) t
  unfolding any_stops
  stop_later e es q s = record {
    earlier = e ∷ s.earlier;
    it = s.it;
    later = s.later;
    split = ap (λ (l : List Entry). e ∷ l) s.split;
    kind = s.kind;
    unknown = s.unknown;
    first = rw q s.first;
  }

  stop_of : (es : List Entry) → behind K es ≡ some t → Stop K es t
  unfolding behind
  stop_of [] h = absurd (none-ne-some t h)
  stop_of (e ∷ es) h = go (stops K e) refl h (stop_of es)
    where
      go : (b : Bool) → stops K e ≡ b → cond b (some e.kind) (behind K es) ≡ some t → (behind K es ≡ some t → Stop K es t) → Stop K (e ∷ es) t
      go true q h ih = stop_here e es q h
      go false q h ih = stop_later e es q (ih h)

  behind-at : (earlier : List Entry) (it : Entry) (later : List Entry) → any_stops K earlier ≡ false → stops K it ≡ true → it.kind ≡ t
      → behind K (earlier ++ it ∷ later) ≡ some t
  unfolding behind any_stops
  behind-at [] it later n u k = rw (u, k)
  behind-at (e ∷ es) it later n u k = go (stops K e) n (behind-at es it later)
    where
      go : (b : Bool) → b || any_stops K es ≡ false → (any_stops K es ≡ false → stops K it ≡ true → it.kind ≡ t → behind K (es ++ it ∷ later) ≡ some t)
          → cond b (some e.kind) (behind K (es ++ it ∷ later)) ≡ some t
      go true n ih = absurd (true≢false n)
      go false n ih = ih n u k

module _ (K b : List ℕ) (t : ℕ) where
  pub unknown_of : First K b t → FirstUnknown K b t
  unknown_of (es, cuts, h) =
      let s : Stop K es t = stop_of K t es h in
      record {
        earlier = s.earlier;
        it = s.it;
        later = s.later;
        cuts = cuts ∙ ap some s.split;
        kind = s.kind;
        unknown = s.unknown;
        first = s.first;
      }

  pub of_unknown : FirstUnknown K b t → First K b t
  of_unknown u =
      (u.earlier ++ u.it ∷ u.later, u.cuts, behind-at K t u.earlier u.it u.later u.first u.unknown u.kind)
