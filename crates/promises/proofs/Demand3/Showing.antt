-- What two nodes show whose stations have one list of latest blocks. Assumes nothing.
use Prim.Native.Nat.{ℕ}
use mathlib.Core.Path.{◌≡◌, refl, sym, ◌∙◌, ap, subst}
use mathlib.Core.Logic.{◌↔◌}
use mathlib.Core.Bool.{Bool, true, false, cond}
use mathlib.Core.List.{List}
use mathlib.Core.Option.{Option, none, some, none-ne-some}
use native.Mathlib.Omega.{arith}
use lib.Dec.{eqb}
use borrow.Author.Tests.{eqb-true}
use Rattle.blocks.specs.declared.attributes.Attributes.{Attributes}
use Rattle.blocks.specs.Types.{weights, bandwidths, among}
use Rattle.blocks.specs.Entries.{Entry}
use Rattle.blocks.specs.Meaning.{Meaning, malformed, aside, shows, meaning, value}
use Rattle.blocks.specs.Attributes.{absent, valued, behind_with, attributes_from}
use Rattle.blocks.specs.Levels.{Sub, Fewer}
use Rattle.blocks.proofs.Fewer.{fewer, values_kept}
use Rattle.stations.specs.Stations.{present, attributes_of}
use Rattle.ways.specs.Choice.{numbers, way_to, steering_to, hop_of}
use Rattle.controller.specs.State.{State}
use Rattle.controller.specs.Node.{Shown}
use Rattle.controller.specs.Node.{west_request, east_request, steering, shown, asked}
use Rattle.promises.specs.Levels.{FirstUnknown, dressed, says_behind, value_shown, Levelled, attributes_by, under}
use Rattle.promises.proofs.Demand3.First.{unknown_of, of_unknown}
use Rattle.promises.proofs.Demand3.Dress.{present_dressed, attributes-dressed, hop-dressed, way-dressed, twice_dressed}

abbrev reply_of : Shown → ℕ
reply_of x = x.reply

zero_one : {A : Type 0} → ◌≡◌ {A = ℕ} 0 1 → A
zero_one z = absurd (omega arith)

module _ (K : List ℕ) (late : ℕ → Option (List ℕ)) (s : State) (sub : Sub K s.choice.known)
    (none-else : (a : ℕ) → present a s.stations ≡ false → late a ≡ none)
    (fine : (a : ℕ) (b : List ℕ) → late a ≡ some b → meaning s.choice.known b ≡ malformed → ⊥) where
  -- The attributes of the smaller and of the larger node.
  abbrev f : ℕ → Attributes
  f a = attributes_by K (late a)

  abbrev g : ℕ → Attributes
  g a = attributes_by s.choice.known (late a)

  less : (a : ℕ) (b : List ℕ) → late a ≡ some b → Fewer K s.choice.known b
  less a b q = fewer K s.choice.known sub b (fine a b q)

  -- Behind: from what is shown to the block, and back.
  behind_of : (a t : ℕ) → shown (some (f a)) ≡ says_behind t → (b : List ℕ) × (late a ≡ some b) × FirstUnknown K b t
  unfolding attributes_by
  behind_of a t h = go (late a) refl h
    where
      at : (m : Meaning) → shown (some (attributes_from m)) ≡ says_behind t → m ≡ aside t
      at malformed h = zero_one (ap reply_of h)
      at (aside u) h = ap (λ (x : Shown). aside x.kind) h
      at (shows es) h = zero_one (ap reply_of h)

      go : (o : Option (List ℕ)) → late a ≡ o → shown (some (attributes_by K o)) ≡ says_behind t
          → (b : List ℕ) × (late a ≡ some b) × FirstUnknown K b t
      go none q h = zero_one (ap reply_of h)
      go (some b) q h = (b, q, unknown_of K b t (((less a b q).late t).0 (at (meaning K b) h)))

  of_behind : (a t : ℕ) (b : List ℕ) → late a ≡ some b → FirstUnknown K b t → f a ≡ behind_with t
  unfolding attributes_by
  of_behind a t b q u = rw (q, ((less a b q).late t).1 (of_unknown K b t u))

  behind_both : (a t : ℕ) → (asked (under K f s) a ≡ says_behind t) ↔ ((b : List ℕ) × (late a ≡ some b) × FirstUnknown K b t)
  unfolding asked
  behind_both a t =
      rw (attributes-dressed f a s.stations) (λ h. to (present a s.stations) h, λ (b, q, u). from b q u (present a s.stations) refl)
    where
      to : (p : Bool) → shown (cond p (some (f a)) none) ≡ says_behind t → (b : List ℕ) × (late a ≡ some b) × FirstUnknown K b t
      to true h = behind_of a t h
      to false h = absurd (let z : ◌≡◌ {A = ℕ} 3 1 = ap reply_of h in omega arith)

      from : (b : List ℕ) → late a ≡ some b → FirstUnknown K b t → (p : Bool) → present a s.stations ≡ p
          → shown (cond p (some (f a)) none) ≡ says_behind t
      from b q u true e = rw (of_behind a t b q u)
      from b q u false e = absurd (none-ne-some b (sym (none-else a e) ∙ q))

  -- Who replies 1 says behind with a type, and nothing else.
  says_behind_lem : (a : ℕ) → (asked (under K f s) a).reply ≡ 1 → asked (under K f s) a ≡ says_behind (asked (under K f s) a).kind
  unfolding asked attributes_by
  says_behind_lem a h =
      rw (attributes-dressed f a s.stations) (go (present a s.stations) (late a) (rw (attributes-dressed f a s.stations) at h))
    where
      at : (m : Meaning) → (shown (some (attributes_from m))).reply ≡ 1
          → shown (some (attributes_from m)) ≡ says_behind (shown (some (attributes_from m))).kind
      at malformed h = zero_one h
      at (aside t) h = refl
      at (shows es) h = zero_one h

      go : (p : Bool) (o : Option (List ℕ)) → (shown (cond p (some (attributes_by K o)) none)).reply ≡ 1
          → shown (cond p (some (attributes_by K o)) none) ≡ says_behind (shown (cond p (some (attributes_by K o)) none)).kind
      go true none h = zero_one h
      go true (some b) h = at (meaning K b) h
      go false o h = absurd (omega arith)

  -- Not behind: the same reply, and the same values of the types of K.
  pub record Same (x y : Shown) : Type 0 where
    reply : x.reply ≡ y.reply
    values : (t : ℕ) → among t K ≡ true → value_shown t x ≡ value_shown t y

  same_of : (x y : Shown) → x ≡ y → Same x y
  same_of x y e = record { reply = ap reply_of e; values = λ t k. ap (value_shown t) e }

  same_valued : (xs ys : List Entry) → ((t : ℕ) → among t K ≡ true → (d : List ℕ) → value t d xs ≡ value t d ys)
      → Same (shown (some (valued xs))) (shown (some (valued ys)))
  unfolding value_shown
  same_valued xs ys v = record { reply = refl; values = λ t k. go t k (eqb t 1) refl (eqb t 2) refl }
    where
      one : (t u : ℕ) → among t K ≡ true → eqb t u ≡ true → (d : List ℕ) → value u d xs ≡ value u d ys
      one t u k e d = v u (ap (λ (z : ℕ). among z K) (sym (eqb-true t u e)) ∙ k) d

      go : (t : ℕ) → among t K ≡ true → (p : Bool) → eqb t 1 ≡ p → (q : Bool) → eqb t 2 ≡ q
          → value_shown t (shown (some (valued xs))) ≡ value_shown t (shown (some (valued ys)))
      go t k true p q r = rw (p, one t 1 k p weights.absent)
      go t k false p true r = rw (p, r, one t 2 k r bandwidths.absent)
      go t k false p false r = rw (p, r)

  same_shown : (a : ℕ) → ((shown (some (f a))).reply ≡ 1 → ⊥) → Same (shown (some (f a))) (shown (some (g a)))
  unfolding attributes_by
  same_shown a n = go (late a) refl n
    where
      at : (b : List ℕ) → late a ≡ some b → (m : Meaning) → meaning K b ≡ m → ((shown (some (attributes_from m))).reply ≡ 1 → ⊥)
          → Same (shown (some (attributes_from m))) (shown (some (attributes_from (meaning s.choice.known b))))
      at b q malformed e n = absurd ((less a b q).fine e)
      at b q (aside u) e n = absurd (n refl)
      at b q (shows xs) e n =
          let (ys, m, v) = values_kept K s.choice.known sub b (fine a b q) xs e in
          rw m (same_valued xs ys v)

      go : (o : Option (List ℕ)) → late a ≡ o → ((shown (some (attributes_by K o))).reply ≡ 1 → ⊥)
          → Same (shown (some (attributes_by K o))) (shown (some (attributes_by s.choice.known o)))
      go none q n = same_of _ _ refl
      go (some b) q n = at b q (meaning K b) refl n

  same_asked : dressed g s.stations ≡ s.stations → (a : ℕ) → ((asked (under K f s) a).reply ≡ 1 → ⊥) → Same (asked (under K f s) a) (asked s a)
  unfolding asked
  same_asked own a n =
      let e : attributes_of a s.stations ≡ cond (present a s.stations) (some (g a)) none =
      ap (attributes_of a) (sym own) ∙ attributes-dressed g a s.stations in
      rw (attributes-dressed f a s.stations, e) (go (present a s.stations) (rw (attributes-dressed f a s.stations) at n))
    where
      go : (p : Bool) → ((shown (cond p (some (f a)) none)).reply ≡ 1 → ⊥) → Same (shown (cond p (some (f a)) none)) (shown (cond p (some (g a)) none))
      go true n = same_shown a n
      go false n = same_of _ _ refl

  steering_under : (a : ℕ) → steering (under K f s) a ≡ steering s a
  unfolding steering steering_to way_to
  steering_under a =
      rw (
        present_dressed f a s.stations,
        hop-dressed f 0 a s.stations,
        hop-dressed f 1 a s.stations,
        way-dressed f 0 (west_request s) s.stations (hop_of 0 a s.stations),
        way-dressed f 1 (east_request s) s.stations (hop_of 1 a s.stations),
      )

  pub levelled : (x : State) → x ≡ under K f s → dressed g s.stations ≡ s.stations → Levelled K late x s
  unfolding west_request east_request
  levelled x e own = subst (λ (y : State). Levelled K late y s) (sym e) (record {
    choice = refl;
    stations = twice_dressed (λ (a : ℕ). absent) f s.stations;
    spans = refl;
    west = refl;
    east = refl;
    pacer = refl;
    steering = λ a. ap numbers (steering_under a);
    behind = behind_both;
    says = says_behind_lem;
    reply = λ a n. (same_asked own a n).reply;
    values = λ a n. (same_asked own a n).values;
  })
