-- Two nodes that know type 2, of which one knows fewer types: it is refused with 31 where a station is behind, else both answer the same. Assumes nothing.
use Prim.Native.Nat.{ℕ, ◌+◌, ◌≤◌}
use mathlib.Core.Path.{◌≡◌, refl, sym, ◌∙◌, ap}
use mathlib.Core.Logic.{◌↔◌}
use mathlib.Core.Bool.{Bool, true, false, cond, ◌||◌, or-true, false≢true}
use mathlib.Core.List.{List, [], ◌∷◌}
use mathlib.Core.Option.{Option, none, some}
use native.Mathlib.Omega.{arith}
use lib.Dec.{eqb, ltb}
use borrow.Author.Tests.{eq-eqb, eqb-true, le-ltb}
use Rattle.blocks.specs.declared.attributes.Attributes.{Attributes}
use Rattle.blocks.specs.Types.{among}
use Rattle.stations.specs.declared.station.Station.{Station}
use Rattle.stations.specs.Station.{with_attributes}
use Rattle.stations.specs.Stations.{present, attributes_of}
use Rattle.controller.specs.State.{Choice, State}
use Rattle.controller.specs.Node.{Shown}
use Rattle.controller.specs.Node.{shown, asked}
use Rattle.bandwidth.specs.Free.{reservation, reservations, unreserved, first_behind, unless_behind, free_bandwidth}
use Rattle.promises.specs.Levels.{dressed, value_shown, Levelled}
use Rattle.promises.specs.Bandwidth.{SameFree}
use Rattle.promises.proofs.Demand3.Dress.{attributes-dressed, same_dressed}
use Rattle.promises.proofs.Bandwidth.Answers.{numbers_for, answer_for, level_two}

abbrev reply_of : Shown → ℕ
reply_of y = y.reply

-- What the numbers see of attributes.
abbrev seen : Attributes → Attributes
seen x = record { behind = x.behind; kind = 0; weight0 = 0; weight1 = 0; reserved0 = x.reserved0; reserved1 = x.reserved1 }

-- Stations that are dressed in f.
module _ (f : ℕ → Attributes) where
  abbrev seen_of : ℕ → Attributes
  seen_of a = seen (f a)

  reserved_seen : (ringlet : ℕ) (l : List Station) → reservations ringlet (dressed seen_of l) ≡ reservations ringlet (dressed f l)
  unfolding reservations dressed
  reserved_seen ringlet [] = refl
  reserved_seen ringlet (s ∷ l) = ap (λ (n : ℕ). reservation ringlet (with_attributes (f s.address) s) + n) (reserved_seen ringlet l)

  behind-seen : (l : List Station) → first_behind (dressed seen_of l) ≡ first_behind (dressed f l)
  unfolding first_behind dressed
  behind-seen [] = refl
  behind-seen (s ∷ l) = ap (cond (f s.address).behind (some s.address)) (behind-seen l)

  answer-seen : (rate own0 own1 : ℕ) (l : List Station) → answer_for rate own0 own1 (dressed seen_of l) ≡ answer_for rate own0 own1 (dressed f l)
  unfolding unreserved
  answer-seen rate own0 own1 l = rw (behind-seen l, reserved_seen 0 l, reserved_seen 1 l)

  -- What the search for a station that is behind says of its end.
  abbrev Sought : List Station → Option ℕ → Type 0
  Sought l none = (a : ℕ) → present a l ≡ true → (f a).behind ≡ false
  Sought l (some a) = (present a l ≡ true) × ((f a).behind ≡ true)

  sought : (l : List Station) → Sought l (first_behind (dressed f l))
  unfolding first_behind dressed present
  sought [] = λ a p. absurd (false≢true p)
  sought (s ∷ l) = go (f s.address).behind refl (first_behind (dressed f l)) (sought l)
    where
      go : (b : Bool) → (f s.address).behind ≡ b → (o : Option ℕ) → Sought l o → Sought (s ∷ l) (cond b (some s.address) o)
      go true e o k = (rw (eq-eqb s.address s.address refl), e)
      go false e none k = λ a p. here a (eqb s.address a) refl p
        where
          here : (a : ℕ) (b : Bool) → eqb s.address a ≡ b → b || present a l ≡ true → (f a).behind ≡ false
          here a true q p = ap (λ (n : ℕ). (f n).behind) (sym (eqb-true s.address a q)) ∙ e
          here a false q p = k a p
      go false e (some a) k = (rw k.0 (or-true (eqb s.address a)), k.1)

module _ (K : List ℕ) (late : ℕ → Option (List ℕ)) (x s : State) (levelled : Levelled K late x s) (two : among 2 K ≡ true)
    (more : among 2 s.choice.known ≡ true) (f g : ℕ → Attributes) (l : List Station)
    (smaller : x.stations ≡ dressed f l) (larger : s.stations ≡ dressed g l) where
  shows_smaller : (a : ℕ) → asked x a ≡ shown (cond (present a l) (some (f a)) none)
  unfolding asked
  shows_smaller a = ap shown (ap (attributes_of a) smaller ∙ attributes-dressed f a l)

  shows_larger : (a : ℕ) → asked s a ≡ shown (cond (present a l) (some (g a)) none)
  unfolding asked
  shows_larger a = ap shown (ap (attributes_of a) larger ∙ attributes-dressed g a l)

  -- Of a station that is not behind the larger node shows the same: both know type 2.
  alike : (a : ℕ) → present a l ≡ true → (f a).behind ≡ false → seen (f a) ≡ seen (g a)
  unfolding value_shown
  alike a p e =
      let u : asked x a ≡ shown (some (f a)) = shows_smaller a ∙ rw p in
      let v : asked s a ≡ shown (some (g a)) = shows_larger a ∙ rw p in
      let z : (asked x a).reply ≡ 0 = ap reply_of u ∙ rw e in
      let n : ((asked x a).reply ≡ 1 → ⊥) = λ q. omega arith in
      let b : (f a).behind ≡ (g a).behind = e ∙ sym (fine (g a).behind (ap reply_of (sym v) ∙ sym (levelled.reply a n) ∙ z)) in
      let w : (f a).reserved0 ∷ (f a).reserved1 ∷ [] ≡ (g a).reserved0 ∷ (g a).reserved1 ∷ [] =
      ap (value_shown 2) (sym u) ∙ levelled.values a n 2 two ∙ ap (value_shown 2) v in
      cc
    where
      fine : (b : Bool) → cond {A = ℕ} b 1 0 ≡ 0 → b ≡ false
      fine true h = absurd (omega arith)
      fine false h = refl

  module _ (rate own0 own1 : ℕ) where
    same : ((answer_for rate own0 own1 (dressed f l)).result ≡ 31 → ⊥) → answer_for rate own0 own1 (dressed f l) ≡ answer_for rate own0 own1 (dressed g l)
    same n = go (ltb 65535 rate) refl
      where
        found : ltb 65535 rate ≡ false → (o : Option ℕ) → first_behind (dressed f l) ≡ o → Sought f l o
            → answer_for rate own0 own1 (dressed f l) ≡ answer_for rate own0 own1 (dressed g l)
        found e none q k =
            sym (answer-seen f rate own0 own1 l) ∙ ap (answer_for rate own0 own1) (same_dressed (seen_of f) (seen_of g) l (λ a p. alike a p (k a p)))
            ∙ answer-seen g rate own0 own1 l
        found e (some a) q k = absurd (n (rw (e, q)))

        go : (t : Bool) → ltb 65535 rate ≡ t → answer_for rate own0 own1 (dressed f l) ≡ answer_for rate own0 own1 (dressed g l)
        go true e = rw e
        go false e = found e (first_behind (dressed f l)) refl (sought f l)

    behind-told : rate ≤ 65535 → ((answer_for rate own0 own1 (dressed f l)).result ≡ 31) ↔ ((a : ℕ) × ((asked x a).reply ≡ 1))
    behind-told low = rw (le-ltb 65535 rate low) (found (first_behind (dressed f l)) (sought f l))
      where
        nobody : (k : Sought f l none) (a : ℕ) (p : Bool) → present a l ≡ p → (shown (cond p (some (f a)) none)).reply ≡ 1 → ⊥
        nobody k a true e q = let z : (shown (some (f a))).reply ≡ 0 = rw (k a e) in omega arith
        nobody k a false e q = omega arith

        found : (o : Option ℕ) → Sought f l o
            → ((unless_behind o (numbers_for rate own0 own1 (dressed f l))).result ≡ 31) ↔ ((a : ℕ) × ((asked x a).reply ≡ 1))
        found none k = (λ e. absurd (omega arith), λ (a, q). absurd (nobody k a (present a l) refl (ap reply_of (sym (shows_smaller a)) ∙ q)))
        found (some a) k = (λ e. (a, rw (shows_smaller a, k.0, k.1)), λ h. refl)

    pub same_numbers : SameFree x s rate own0 own1
    same_numbers =
        let u : free_bandwidth x rate own0 own1 ≡ answer_for rate own0 own1 (dressed f l) =
        level_two x rate own0 own1 (ap (λ (c : Choice). among 2 c.known) levelled.choice ∙ two) ∙ ap (answer_for rate own0 own1) smaller in
        let v : free_bandwidth s rate own0 own1 ≡ answer_for rate own0 own1 (dressed g l) =
        level_two s rate own0 own1 more ∙ ap (answer_for rate own0 own1) larger in
        record { behind = λ low. rw u (behind-told low); else = λ n. rw (u, v) (same (rw u at n)) }
