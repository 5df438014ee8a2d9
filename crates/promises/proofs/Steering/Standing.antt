-- The station that holds a hop stands at it, with what it has last said, and no other does. Assumes nothing.
use Prim.Native.Nat.{ℕ, zero, suc, ◌<◌, ◌≤◌}
use mathlib.Core.Path.{◌≡◌, refl, sym, ap, ◌∙◌}
use mathlib.Core.Bool.{Bool, true, false, cond}
use mathlib.Core.List.{List, [], ◌∷◌}
use mathlib.Core.Option.{Option, none, some}
use native.Mathlib.Omega.{arith}
use lib.Dec.{eqb, ltb}
use borrow.Author.Tests.{eqb-true, eq-eqb, ne_eqb, ltb-true, ltb-false}
use Rattle.spans.specs.Codes.{SF, higher}
use Rattle.stations.specs.declared.station.Station.{Station}
use Rattle.stations.specs.Station.{hop}
use Rattle.stations.specs.Table.{Each, Ascending}
use Rattle.stations.specs.Kept.{Apart}
use Rattle.stations.proofs.Lists.{chosen, each_map, each_both}
use Rattle.ways.specs.Walk.{Ends, near, far, held}
use Rattle.ways.specs.Choice.{hop_of}
use Rattle.ways.specs.Usable.{start_of, Crosses, Open, Tells}
use Rattle.ways.specs.declared.choice.Steering.{Steering}
use Rattle.promises.specs.Steering.{StandsAt, Leaves, Requested, Points, Clear}
use Rattle.promises.proofs.Steering.Saying.{ends_of, Says}

never : {A : Type 0} → ◌≡◌ {A = ℕ} 0 1 → A
never z = absurd (omega arith)

-- A station of l, of which P holds, that is found at the hop h by its address, and requests e.
record Holder (P : Station → Type 0) (ringlet h : ℕ) (l : List Station) (e : Ends) : Type 0 where
  it : Station
  holds : P it
  at : hop_of ringlet it.address l ≡ h
  requests : ends_of it ≡ e

-- Behind s in the table, so that a search by the address passes s.
abbrev Behind : Station → (Station → Type 0) → Station → Type 0
Behind s P x = P x × (s.address < x.address)

module _ (ringlet h : ℕ) (e : Ends) where
  holder : (P : Station → Type 0) (l : List Station) → Ascending l → Each P l → held ringlet h l ≡ some e → Holder P ringlet h l e
  unfolding Each Ascending held hop_of
  holder P [] up k p = never (cc)
  holder P (s ∷ l) up k p =
      go (eqb (hop ringlet s) h) refl p
      (holder (Behind s P) l up.1 (each_both P (λ (x : Station). s.address < x.address) (Behind s P) (λ x u w. (u, w)) l k.1 up.0))
    where
      go : (b : Bool) → eqb (hop ringlet s) h ≡ b → cond b (some (ends_of s)) (held ringlet h l) ≡ some e
          → (held ringlet h l ≡ some e → Holder (Behind s P) ringlet h l e) → Holder P ringlet h (s ∷ l) e
      go true q p further = record {
        it = s;
        holds = k.0;
        at = rw (eq-eqb s.address s.address refl) (eqb-true (hop ringlet s) h q);
        requests = cc;
      }
      go false q p further =
          let w : Holder (Behind s P) ringlet h l e = further p in
          record {
            it = w.it;
            holds = w.holds.0;
            at = rw (ne_eqb s.address w.it.address (λ z. omega (arith, w.holds.1))) w.at;
            requests = w.requests;
          }

-- The higher of two is below a number: so are both.
both_below : (a b n : ℕ) → higher a b < n → (a < n) × (b < n)
both_below a b n = go (ltb a b) refl
  where
    go : (c : Bool) → ltb a b ≡ c → cond c b a < n → (a < n) × (b < n)
    go true p h = (omega (arith, ltb-true a b p), h)
    go false p h = (h, omega (arith, ltb-false a b p))

-- From what is stored to what was said.
module _ (told : ℕ → Option Ends) (l : List Station) (up : Ascending l) (says : Each (Says told) l) where
  stands : (ringlet h : ℕ) (e : Ends) → held ringlet h l ≡ some e → StandsAt told ringlet h l e
  stands ringlet h e p =
      let w : Holder (Says told) ringlet h l e = holder ringlet h e (Says told) l up says p in
      record { address = w.it.address; at = w.at; requests = w.holds ∙ ap some w.requests }

  module _ (ringlet own : ℕ) where
    leaves : (j from : ℕ) → start_of ringlet own l j ≡ some from → Leaves told ringlet own l j from
    leaves zero from p = cc
    leaves (suc j) from p = go (held ringlet (suc j) l) refl
      where
        go : (o : Option Ends) → held ringlet (suc j) l ≡ o → Leaves told ringlet own l (suc j) from
        go none q = let z : ◌≡◌ {A = Option ℕ} none (some from) = rw q at p in never (cc)
        go (some e) q = let z : some (far ringlet e) ≡ some from = rw q at p in (e, stands ringlet (suc j) e q, cc)

    -- What both ends of a span request is what was said.
    crossed : (j x : ℕ) → Crosses ringlet own l j x → Requested told ringlet own l j x
    crossed j x c = record {
      from = c.from;
      to = near ringlet c.to;
      leaves = leaves j c.from c.from_is;
      meets = (c.to, stands ringlet (suc j) c.to c.to_is, refl);
      is = c.request;
    }

    -- Each span of an open way is clear: the higher of its ends is below SF, so both are.
    pub open_clear : (h : ℕ) → Open ringlet own l h → (j : ℕ) → j < h → Clear told ringlet own l j
    open_clear h o j low =
        let (x, c, under) = o.spans j low in
        let s = crossed j x c in
        let below : higher s.from s.to < SF = rw (← s.is) under in
        let (from, to) = both_below s.from s.to SF below in
        record { from = s.from; to = s.to; leaves = s.leaves; meets = s.meets; from_below = from; to_below = to }

    -- What is told of a way is what was said of its spans.
    pub tells_points : (a : ℕ) (x : Steering) → Tells ringlet own l a x → Points told ringlet own l a x
    tells_points a x t = record {
      hops = t.hops;
      before = t.trouble.before;
      span = t.trouble.is;
      on_the_way = t.trouble.on_the_way;
      has = crossed t.trouble.before x.worst t.trouble.has;
      lower = λ j low. let (y, c, under) = t.trouble.lower j low in (y, crossed j y c, under);
      highest = λ j low. let (y, c, under) = t.trouble.highest j low in (y, crossed j y c, under);
    }

-- "No two stations share a hop on a ringlet": a hop that no station of a list has is found there by no address ..
not_found : (r n a : ℕ) → 1 ≤ n → (l : List Station) → Each (λ (x : Station). hop r x ≡ n → ⊥) l → hop_of r a l ≡ n → ⊥
unfolding Each hop_of
not_found r n a low [] k p = omega arith
not_found r n a low (s ∷ l) k p = chosen (λ (u : ℕ). u ≡ n → ⊥) (eqb s.address a) (λ q. k.0) (λ q. not_found r n a low l k.1) p

-- .. and any other by one.
one-holder : (r n a b : ℕ) → 1 ≤ n → (l : List Station) → Apart r l → hop_of r a l ≡ n → hop_of r b l ≡ n → a ≡ b
unfolding Apart Each hop_of
one-holder r n a b low [] k p q = omega arith
one-holder r n a b low (s ∷ l) k p q = go (eqb s.address a) refl (eqb s.address b) refl p q (one-holder r n a b low l k.1)
  where
    alone : hop r s ≡ n → (c : ℕ) → hop_of r c l ≡ n → ⊥
    alone is c =
        not_found r n c low l
        (each_map (λ (x : Station). hop r x ≡ hop r s → hop r s ≡ 0) (λ (x : Station). hop r x ≡ n → ⊥)
        (λ x w z. omega (arith, w (z ∙ sym is))) l k.0)

    go : (c : Bool) → eqb s.address a ≡ c → (d : Bool) → eqb s.address b ≡ d → cond c (hop r s) (hop_of r a l) ≡ n
        → cond d (hop r s) (hop_of r b l) ≡ n → (hop_of r a l ≡ n → hop_of r b l ≡ n → a ≡ b) → a ≡ b
    go true c true d p q further = sym (eqb-true s.address a c) ∙ eqb-true s.address b d
    go true c false d p q further = absurd (alone p b q)
    go false c true d p q further = absurd (alone q a p)
    go false c false d p q further = further p q

-- So whatever stands at a hop has said one thing.
pub stands_once : (told : ℕ → Option Ends) (r n : ℕ) → 1 ≤ n → (l : List Station) → Apart r l → (e d : Ends) → StandsAt told r n l e
    → StandsAt told r n l d → e ≡ d
stands_once told r n low l k e d x y =
    let same : x.address ≡ y.address = one-holder r n x.address y.address low l k x.at y.at in
    let z : some e ≡ some d = sym x.requests ∙ ap told same ∙ y.requests in
    cc
