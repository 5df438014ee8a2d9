-- What the rules do to stations has nothing to do with their attributes: each of them goes alike before and after the stations are dressed. Assumes nothing.
use Prim.Native.Nat.{ℕ, zero, suc}
use mathlib.Core.Path.{◌≡◌, refl, sym, ◌∙◌, ap}
use mathlib.Core.Bool.{Bool, true, false, cond, ◌||◌}
use mathlib.Core.List.{List, [], ◌∷◌}
use mathlib.Core.Option.{Option, none, some}
use lib.Dec.{eqb, ltb}
use borrow.Author.Tests.{eq-eqb, eqb-true}
use Rattle.blocks.specs.declared.attributes.Attributes.{Attributes}
use Rattle.blocks.specs.Attributes.{absent}
use Rattle.stations.proofs.Inserting.{unknown-absent}
use Rattle.stations.specs.declared.station.Station.{Station}
use Rattle.stations.specs.declared.station.Report.{Report}
use Rattle.stations.specs.Station.{hop, older, with_hop, with_attributes, again, told, newcomer}
use Rattle.stations.specs.Stations.{sifted, young, aged, unpurged, purged, other_at, undisplaced, losing, displaced, renewed, inserted, given, present, sequence_of, attributes_of}
use Rattle.stations.specs.Hearing.{Placed, distance, heard_again, placed_known, placed_new, placed_by, placed}
use Rattle.ways.specs.Walk.{held, walk}
use Rattle.ways.specs.Choice.{usable, way, hop_of}
use Rattle.promises.specs.Levels.{dressed}

abbrev pub dress : (ℕ → Attributes) → Station → Station
dress f s = with_attributes (f s.address) s

either : {A : Type 0} (b : Bool) {x y u v : A} → x ≡ u → y ≡ v → cond b x y ≡ cond b u v
either true p q = p
either false p q = q

module _ (f : ℕ → Attributes) where
  -- Looking at stations.
  pub present_dressed : (a : ℕ) (l : List Station) → present a (dressed f l) ≡ present a l
  unfolding present dressed
  present_dressed a [] = refl
  present_dressed a (s ∷ l) = ap (λ (b : Bool). eqb s.address a || b) (present_dressed a l)

  pub sequence_dressed : (a : ℕ) (l : List Station) → sequence_of a (dressed f l) ≡ sequence_of a l
  unfolding sequence_of dressed
  sequence_dressed a [] = refl
  sequence_dressed a (s ∷ l) = either (eqb s.address a) refl (sequence_dressed a l)

  pub attributes-dressed : (a : ℕ) (l : List Station) → attributes_of a (dressed f l) ≡ cond (present a l) (some (f a)) none
  unfolding attributes_of dressed present
  attributes-dressed a [] = refl
  attributes-dressed a (s ∷ l) = go (eqb s.address a) refl (attributes-dressed a l)
    where
      go : (b : Bool) → eqb s.address a ≡ b → attributes_of a (dressed f l) ≡ cond (present a l) (some (f a)) none
          → cond b (some (f s.address)) (attributes_of a (dressed f l)) ≡ cond (b || present a l) (some (f a)) none
      go true e ih = ap (λ (x : ℕ). some (f x)) (eqb-true s.address a e)
      go false e ih = ih

  pub held-dressed : (r h : ℕ) (l : List Station) → held r h (dressed f l) ≡ held r h l
  unfolding held dressed
  held-dressed r h [] = refl
  held-dressed r h (s ∷ l) = either (eqb (hop r s) h) refl (held-dressed r h l)

  pub hop-dressed : (r a : ℕ) (l : List Station) → hop_of r a (dressed f l) ≡ hop_of r a l
  unfolding hop_of dressed
  hop-dressed r a [] = refl
  hop-dressed r a (s ∷ l) = either (eqb s.address a) refl (hop-dressed r a l)

  walk-dressed : (r own : ℕ) (l : List Station) (h : ℕ) → walk r own (dressed f l) h ≡ walk r own l h
  unfolding walk
  walk-dressed r own l zero = refl
  walk-dressed r own l (suc h) = rw (walk-dressed r own l h, held-dressed r (suc h) l)

  pub way-dressed : (r own : ℕ) (l : List Station) (h : ℕ) → way r own (dressed f l) h ≡ way r own l h
  unfolding way
  way-dressed r own l h = ap (usable h) (walk-dressed r own l h)

  -- Changing stations: some leave, and those that stay are changed ..
  module _ (stays : Station → Bool) (change : Station → Station) (same : (s : Station) → stays (dress f s) ≡ stays s)
      (alike : (s : Station) → change (dress f s) ≡ dress f (change s)) where
    pub sifted-dressed : (l : List Station) → sifted stays change (dressed f l) ≡ dressed f (sifted stays change l)
    unfolding sifted dressed
    sifted-dressed [] = refl
    sifted-dressed (s ∷ l) = rw (same s, alike s, sifted-dressed l) (go (stays s))
      where
        go : (b : Bool)
            → cond b (dress f (change s) ∷ dressed f (sifted stays change l)) (dressed f (sifted stays change l))
            ≡ dressed f (cond b (change s ∷ sifted stays change l) (sifted stays change l))
        go true = refl
        go false = refl

  pub aged-dressed : (forget : ℕ) (l : List Station) → aged forget (dressed f l) ≡ dressed f (aged forget l)
  unfolding aged
  aged-dressed forget l = sifted-dressed (young forget) older (λ s. refl) (λ s. refl) l

  pub purged-dressed : (r : ℕ) (l : List Station) → purged r (dressed f l) ≡ dressed f (purged r l)
  unfolding purged
  purged-dressed r l = sifted-dressed (unpurged r) (with_hop r 0) (λ s. refl) (λ s. refl) l

  displaced-dressed : (p : Report) (l : List Station) → displaced p (dressed f l) ≡ dressed f (displaced p l)
  unfolding displaced
  displaced-dressed p l = sifted-dressed (undisplaced p) (losing p) (λ s. refl) (λ s. go s (other_at p s)) l
    where
      go : (s : Station) (b : Bool)
          → cond b (with_hop p.ringlet 0 (dress f s)) (dress f s) ≡ dress f (cond b (with_hop p.ringlet 0 s) s)
      go s true = refl
      go s false = refl

  -- .. and a new one comes.
  inserted-dressed : (s : Station) (l : List Station) → inserted (dress f s) (dressed f l) ≡ dressed f (inserted s l)
  unfolding inserted dressed
  inserted-dressed s [] = refl
  inserted-dressed s (x ∷ l) = rw (inserted-dressed s l) (go (ltb x.address s.address))
    where
      go : (b : Bool)
          → cond b (dress f x ∷ dressed f (inserted s l)) (dress f s ∷ dress f x ∷ dressed f l) ≡ dressed f (cond b (x ∷ inserted s l) (s ∷ x ∷ l))
      go true = refl
      go false = refl

-- The station of an address is changed, and its attributes with it.
module _ (f g : ℕ → Attributes) (a : ℕ) (change other : Station → Station)
    (its : (s : Station) → s.address ≡ a → change (dress f s) ≡ dress g (other s))
    (others : (x : ℕ) → eqb x a ≡ false → f x ≡ g x) where
  pub renewed_dressed : (l : List Station) → renewed a change (dressed f l) ≡ dressed g (renewed a other l)
  unfolding renewed dressed
  renewed_dressed [] = refl
  renewed_dressed (s ∷ l) = rw (renewed_dressed l) (ap (λ (x : Station). x ∷ dressed g (renewed a other l)) (go (eqb s.address a) refl))
    where
      go : (b : Bool) → eqb s.address a ≡ b → cond b (change (dress f s)) (dress f s) ≡ dress g (cond b (other s) s)
      go true e = its s (eqb-true s.address a e)
      go false e = ap (λ (x : Attributes). with_attributes x s) (others s.address e)

-- A block changes f at one address.
pub given-dressed : (f g : ℕ → Attributes) (a : ℕ) (x y : Attributes) → g a ≡ x → ((z : ℕ) → eqb z a ≡ false → f z ≡ g z) → (l : List Station)
    → given a x (dressed f l) ≡ dressed g (given a y l)
unfolding given
given-dressed f g a x y e others l =
    renewed_dressed f g a (with_attributes x) (with_attributes y) (λ s q. ap (λ (z : Attributes). with_attributes z s) (sym (ap g q ∙ e))) others l

-- What is given for addresses that are not there does not count.
pub same_dressed : (f g : ℕ → Attributes) (l : List Station) → ((a : ℕ) → present a l ≡ true → f a ≡ g a) → dressed f l ≡ dressed g l
unfolding dressed present
same_dressed f g [] h = refl
same_dressed f g (s ∷ l) h =
    let e : f s.address ≡ g s.address = h s.address (rw (eq-eqb s.address s.address refl)) in
    rw (e, same_dressed f g l (λ a p. h a (go (eqb s.address a) (present a l) p)))
  where
    go : (b c : Bool) → c ≡ true → b || c ≡ true
    go true c p = refl
    go false c p = p

-- Dressed twice is dressed once.
pub twice_dressed : (f g : ℕ → Attributes) (l : List Station) → dressed f (dressed g l) ≡ dressed f l
unfolding dressed
twice_dressed f g [] = refl
twice_dressed f g (s ∷ l) = ap (λ (m : List Station). dress f s ∷ m) (twice_dressed f g l)

abbrev pub dressed_placed : (ℕ → Attributes) → Placed → Placed
dressed_placed f d = record { result = d.result; stations = dressed f d.stations }

pub pick_placed : (f : ℕ → Attributes) (b : Bool) {x y : Placed} (u v : Placed) → x ≡ dressed_placed f u → y ≡ dressed_placed f v
    → cond b x y ≡ dressed_placed f (cond b u v)
pick_placed f true u v e q = e
pick_placed f false u v e q = q

-- A report heard, steps (d) to (f): a new station must come with no attributes.
module _ (f : ℕ → Attributes) (p : Report) where
  abbrev puts : ℕ → List Station → Placed
  puts n l = record { result = n; stations = l }

  heard-dressed : (d : ℕ) (s : Station) → heard_again d p (dress f s) ≡ dress f (heard_again d p s)
  heard-dressed d s = go (eqb d 0)
    where
      go : (b : Bool) → cond b (again p (dress f s)) (told p (again p (dress f s))) ≡ dress f (cond b (again p s) (told p (again p s)))
      go true = refl
      go false = refl

  known-dressed : (d : ℕ) (l : List Station) → placed_known d p (dressed f l) ≡ dressed_placed f (placed_known d p l)
  unfolding placed_known
  known-dressed d l =
      pick_placed f (ltb 128 d) _ _ refl
      (ap (puts 0)
      (ap (renewed p.address (heard_again d p)) (displaced-dressed f p l)
      ∙ renewed_dressed f f p.address (heard_again d p) (heard_again d p) (λ s e. heard-dressed d s) (λ x e. refl) (displaced p l)))

  new_dressed : f p.address ≡ absent → (l : List Station) → placed_new p (dressed f l) ≡ dressed_placed f (placed_new p l)
  unfolding placed_new
  new_dressed e l =
      rw (displaced-dressed f p l)
      (ap (puts 0)
      (ap (λ (x : Attributes). inserted (with_attributes x (newcomer p)) (dressed f (displaced p l))) (sym e)
      ∙ inserted-dressed f (newcomer p) (displaced p l)))

  pub placed-dressed : (l : List Station) → (present p.address l ≡ false → f p.address ≡ absent)
      → placed p (dressed f l) ≡ dressed_placed f (placed p l)
  unfolding placed
  placed-dressed l new = rw (sequence_dressed f p.address l) (go (sequence_of p.address l) (λ h. new (unknown-absent p.address l h)))
    where
      go : (o : Option ℕ) → (o ≡ none → f p.address ≡ absent) → placed_by o p (dressed f l) ≡ dressed_placed f (placed_by o p l)
      go none h = new_dressed (h refl) l
      go (some q) h = known-dressed (distance p.sequence q) l
