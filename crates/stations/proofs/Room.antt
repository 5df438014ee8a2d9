-- 02, Item 6: "Hops still end at 63, no two stations share a hop on a ringlet, and each has one; so there is always a place." Assumes nothing.
use Rattle.std.proofs.Common.{◌≡◌, ℕ, ◌<◌, ◌≤◌, Bool, true, false, cond, not, ◌&&◌, eqb, ltb, leb, List, length, sym, refl, ◌∙◌, arith, ltb-true, lt-ltb, eqb-true, le-leb, leb-true}
use borrow.Author.Tests.{eqb-false}
use Rattle.wire.proofs.Truths.{both}
use Rattle.stations.specs.Station.{Station, Report, farthest, is_hop, hop, placed_somewhere, with_hop}
use Rattle.stations.specs.Stations.{capacity, other_at, undisplaced, losing, displaced}
use Rattle.stations.specs.Hearing.{placed, placed_any}
use Rattle.stations.specs.Table.{Each}
use Rattle.stations.specs.Kept.{Apart, ReportKept}
use Rattle.stations.proofs.Lists.{each_both}
use Rattle.stations.proofs.Hops.{hop-set, near-set}
use Rattle.stations.proofs.Sifting.{sifted_each, sifted-all, sifted_apart, losing_lowers}
use Rattle.stations.proofs.Inserting.{Nobody, displaced_nobody}
use Rattle.stations.proofs.Pigeonhole.{Hopped, at-most_125}

-- Such a hop is from 1 to 63.
pub hop_range : (h : ℕ) → is_hop h ≡ true → (1 ≤ h) × (h ≤ farthest)
hop_range h e = let (some, low) = both (ltb 0 h) (leb h farthest) e in (ltb-true 0 h some, leb-true h farthest low)

-- A report that was read has one, so it is not refused.
pub kept_hop : {own : ℕ} {p : Report} → ReportKept own p → is_hop p.hop ≡ true
kept_hop {own} {p} k = rw (lt-ltb 0 p.hop k.heard, le-leb p.hop farthest k.hop)

pub any_placed : (p : Report) (l : List Station) → is_hop p.hop ≡ true → placed_any p l ≡ placed p l
unfolding placed_any
any_placed p l e = rw e

-- After (e) nobody else is at the report's hop.
abbrev pub Free : Report → Station → Type 0
Free p x = hop p.ringlet x ≡ p.hop → x.address ≡ p.address

pub displaced_free : (p : Report) → 1 ≤ p.hop → (l : List Station) → Each (Free p) (displaced p l)
unfolding displaced
displaced_free p heard =
    sifted-all (undisplaced p) (losing p) (Free p)
    (λ s stays. go s (eqb (hop p.ringlet s) p.hop) refl (eqb s.address p.address) refl)
  where
    go : (s : Station) (b : Bool) → eqb (hop p.ringlet s) p.hop ≡ b → (d : Bool) → eqb s.address p.address ≡ d
        → Free p (cond (b && not d) (with_hop p.ringlet 0 s) s)
    go s true e true f at = eqb-true s.address p.address f
    go s true e false f at = let none : 0 ≡ p.hop = sym (hop-set p.ringlet 0 s) ∙ at in absurd (omega arith)
    go s false e d f at = absurd (eqb-false (hop p.ringlet s) p.hop e at)

-- Who stays has a hop, and none beyond the farthest.
pub losing_hopped : (p : Report) (s : Station) → Hopped s → undisplaced p s ≡ true → Hopped (losing p s)
losing_hopped p s (here, near) = go (other_at p s)
  where
    go : (b : Bool) → cond b (placed_somewhere (with_hop p.ringlet 0 s)) true ≡ true → Hopped (cond b (with_hop p.ringlet 0 s) s)
    go true stays = (stays, near-set p.ringlet 0 s (omega arith) near)
    go false stays = (here, near)

-- After (e) there is a place for a new station.
pub always_a_place : (p : Report) (l : List Station) → 1 ≤ p.hop → p.hop ≤ farthest → ((ringlet : ℕ) → Apart ringlet l) → Each Hopped l
    → Nobody p.address l → length (displaced p l) < capacity
unfolding displaced
always_a_place p l some low apart e nobody =
    omega (
      arith,
      at-most_125 (displaced p l) (λ r. sifted_apart (undisplaced p) (losing p) r (losing_lowers p r) l (apart r))
          (sifted_each (undisplaced p) (losing p) Hopped Hopped (losing_hopped p) l e) p.ringlet p.hop some low
          (each_both (Free p) (λ (x : Station). x.address ≡ p.address → ⊥) (λ (x : Station). hop p.ringlet x ≡ p.hop → ⊥)
          (λ x free away at. away (free at)) (displaced p l) (displaced_free p some l) (displaced_nobody p p.address l nobody)),
    )
