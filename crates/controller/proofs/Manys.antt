-- A record of kind 7 that is taken is one that is read as a tick, and no other kind is one. Assumes nothing.
use Prim.Native.Nat.{ℕ, ◌*◌, ◌<◌, ◌≤◌}
use mathlib.Core.Path.{◌≡◌, refl, sym, ap}
use mathlib.Core.Bool.{Bool, true, false, not, cond, ◌&&◌, true≢false}
use mathlib.Core.List.{List}
use native.Mathlib.Omega.{arith}
use lib.ListN.{length}
use lib.Dec.{eqb, leb, ltb}
use borrow.Author.Tests.{eqb-true, leb-true, le-leb, ltb-false, le-ltb, not-true}
use Rattle.wire.specs.Head.{kind_of, body_of, broken}
use Rattle.wire.proofs.Truths.{both}
use Rattle.controller.specs.Reading.{Reading, Refused, Tick, count_in, ticks_fit, ticks_in, read_in, reading, many_ticks, times_in}
use Rattle.controller.specs.Closing.{is_tick}

pub refused_no_tick : (i : ℕ) → Refused i ≡ Tick → ⊥
refused_no_tick i e = true≢false (sym (ap is_tick e))

module _ (b : List ℕ) (room : ℕ) where
  abbrev count : ℕ
  count = count_in (body_of b)

  pub record Many : Type 0 where
    pub whole : broken b ≡ false
    pub kind : kind_of b ≡ 7
    pub fits : ticks_fit (body_of b) ≡ true
    pub low : 1 ≤ count
    pub high : count ≤ 1000
    pub space : 7 * count ≤ room

  pub many_parts : many_ticks b room ≡ true → Many
  unfolding many_ticks
  many_parts h =
      let (h3, space) = both (not (broken b) && eqb (kind_of b) 7 && ticks_fit (body_of b)) (leb (7 * count) room) h in
      let (h2, fits) = both (not (broken b) && eqb (kind_of b) 7) (ticks_fit (body_of b)) h3 in
      let (whole, kind) = both (not (broken b)) (eqb (kind_of b) 7) h2 in
      let (f2, high) = both (eqb (length (body_of b)) 2 && leb 1 count) (leb count 1000) fits in
      let (long, low) = both (eqb (length (body_of b)) 2) (leb 1 count) f2 in
      record {
        whole = not-true (broken b) whole;
        kind = eqb-true (kind_of b) 7 kind;
        fits = fits;
        low = leb-true 1 count low;
        high = leb-true count 1000 high;
        space = leb-true (7 * count) room space;
      }

  pub many_read : (own : ℕ) → many_ticks b room ≡ true → reading own b room ≡ Tick
  unfolding reading ticks_in
  many_read own h =
      let m : Many = many_parts h in
      rw (le-ltb room 7 (omega (arith, m.low, m.space)), m.whole, m.kind, m.fits, le-ltb room (7 * count) m.space) refl

  -- What is read as something else is no record of many ticks, ..
  pub other_event : (own : ℕ) → (reading own b room ≡ Tick → ⊥) → many_ticks b room ≡ false
  other_event own e = go (many_ticks b room) refl
    where
      go : (x : Bool) → many_ticks b room ≡ x → x ≡ false
      go true h = absurd (e (many_read own h))
      go false h = refl

  -- .. nor is what has no room, ..
  pub no_many : room < 7 → many_ticks b room ≡ false
  no_many short = go (many_ticks b room) refl
    where
      go : (x : Bool) → many_ticks b room ≡ x → x ≡ false
      go true h = let m : Many = many_parts h in absurd (omega (arith, m.low, m.space, short))
      go false h = refl

  -- .. nor another kind.
  pub one_event : (kind_of b ≡ 7 → ⊥) → many_ticks b room ≡ false
  unfolding many_ticks
  one_event e = go (many_ticks b room) refl
    where
      go : (x : Bool) → many_ticks b room ≡ x → x ≡ false
      go true h = absurd (e (many_parts h).kind)
      go false h = refl

  -- Read as a tick, a record of kind 7 is taken.
  pub read_many : (own : ℕ) → kind_of b ≡ 7 → is_tick (read_in own b room) ≡ true → many_ticks b room ≡ true
  unfolding read_in many_ticks ticks_in
  read_many own kind = rw kind (go (broken b) (ticks_fit (body_of b)) (ltb room (7 * count)) refl)
    where
      go : (x f t : Bool) → ltb room (7 * count) ≡ t
          → is_tick (cond {A = Reading} x (Refused 2) (cond f (cond t (Refused 1) Tick) (Refused 4))) ≡ true → not x && true && f && leb (7 * count) room ≡ true
      go true f t e h = absurd (true≢false (sym h))
      go false true true e h = absurd (true≢false (sym h))
      go false true false e h = le-leb (7 * count) room (ltb-false room (7 * count) e)
      go false false t e h = absurd (true≢false (sym h))

  -- The room that the ticks of a record have.
  pub times_room : (own : ℕ) → 7 ≤ room → is_tick (read_in own b room) ≡ true → 7 * times_in b ≤ room
  times_room own enough h = go (eqb (kind_of b) 7) refl
    where
      go : (x : Bool) → eqb (kind_of b) 7 ≡ x → 7 * cond x count 1 ≤ room
      go true e = (many_parts (read_many own (eqb-true (kind_of b) 7 e) h)).space
      go false e = enough
