-- 02, Item 5: what steering tells beside its reply, which is that of before. Assumes nothing.
use mathlib.Core.Path.{◌≡◌, refl, sym, ◌∙◌, ap, subst}
use mathlib.Core.List.{List, [], ◌∷◌}
use mathlib.Core.Logic.{◌⊎◌, inl, inr}
use mathlib.Core.Option.{Option, none, some}
use Prim.Native.Nat.{ℕ}
use Rattle.stations.specs.declared.station.Station.{Station}
use Rattle.ways.specs.Choice.{Way, Reply, West, East, NoWay, Unknown, way, hop_of, way_to, number, named, passed_on, steering_to, numbers}
use Rattle.ways.specs.Usable.{Trouble, Tells}
use Rattle.ways.proofs.Replies.{number_tells}
use Rattle.ways.proofs.Choosing.{west_usable, east_usable}
use Rattle.ways.proofs.Opening.{way_hops, way_trouble}

reply_kept : (r : Reply) (o : Option Way) → (passed_on r o).reply ≡ r
reply_kept r none = refl
reply_kept r (some x) = refl

-- A usable way along a ringlet: its hops, and where the trouble on it is.
tells : (ringlet own : ℕ) (l : List Station) (a : ℕ) (r : Reply) (x : Way) → way ringlet own l (hop_of ringlet a l) ≡ some x
    → Tells ringlet own l a (passed_on r (some x))
tells ringlet own l a r x p =
    let e : x.hops ≡ hop_of ringlet a l = way_hops ringlet own l (hop_of ringlet a l) x p in
    record { hops = e; trouble = subst (λ (h : ℕ). Trouble ringlet own l h x.worst x.span) (sym e) (way_trouble ringlet own l (hop_of ringlet a l) x p) }

-- w and e: the own requests west and east. a: the address asked for.
module _ (w e : ℕ) (l : List Station) (a : ℕ) where
  -- The choice of the way is that of before.
  pub same_reply : (steering_to w e l a).reply ≡ way_to w e l a
  unfolding steering_to
  same_reply =
      let r = way_to w e l a in
      reply_kept r (named r (way 0 w l (hop_of 0 a l)) (way 1 e l (hop_of 1 a l)))

  -- What is told, given the reply.
  told-by : (r : Reply) → way_to w e l a ≡ r → steering_to w e l a ≡ passed_on r (named r (way 0 w l (hop_of 0 a l)) (way 1 e l (hop_of 1 a l)))
  unfolding steering_to
  told-by r q = rw q

  -- 0, west: the hops are the station's on ringlet 0, and the span is the first of that way that has its worst request.
  pub west_told : number (way_to w e l a) ≡ 0 → Tells 0 w l a (steering_to w e l a)
  west_told q =
      let is : way_to w e l a ≡ West = number_tells (way_to w e l a) West q in
      let (x, p) = west_usable w e l a q in
      subst (Tells 0 w l a) (sym (told-by West is ∙ ap (passed_on West) p)) (tells 0 w l a West x p)

  -- 1, east: likewise on ringlet 1.
  pub east_told : number (way_to w e l a) ≡ 1 → Tells 1 e l a (steering_to w e l a)
  east_told q =
      let is : way_to w e l a ≡ East = number_tells (way_to w e l a) East q in
      let (x, p) = east_usable w e l a q in
      subst (Tells 1 e l a) (sym (told-by East is ∙ ap (passed_on East) p)) (tells 1 e l a East x p)

  -- "zeros where there is none": 2, no way, though there may be one that is not usable, and 3, not in the table.
  pub nothing-told : (n : ℕ) → (n ≡ 2) ⊎ (n ≡ 3) → number (way_to w e l a) ≡ n → numbers (steering_to w e l a) ≡ n ∷ 0 ∷ 0 ∷ 0 ∷ []
  nothing-told n (inl is) q =
      let r : way_to w e l a ≡ NoWay = number_tells (way_to w e l a) NoWay (q ∙ is) in ap numbers (told-by NoWay r) ∙ rw is
  nothing-told n (inr is) q =
      let r : way_to w e l a ≡ Unknown = number_tells (way_to w e l a) Unknown (q ∙ is) in ap numbers (told-by Unknown r) ∙ rw is
