-- A block with values, heard on a span that is up and of a station in the table, is taken, and the station has them. Assumes nothing.
use Prim.Native.Nat.{ℕ}
use mathlib.Core.Path.{◌≡◌, refl, ◌∙◌}
use mathlib.Core.Bool.{Bool, true, false, cond, ◌||◌, false≢true}
use mathlib.Core.List.{List, [], ◌∷◌}
use mathlib.Core.Option.{some}
use Rattle.std.specs.Prelude.{Ok}
use lib.Dec.{eqb}
use borrow.Author.Tests.{eqb-true}
use Rattle.settings.specs.declared.choice.Ticks.{Ticks}
use Rattle.spans.specs.Requests.{down}
use Rattle.blocks.specs.declared.attributes.Attributes.{Attributes}
use Rattle.blocks.specs.declared.reading.Block.TheVariants.{Values}
use Rattle.blocks.specs.Meaning.{Meaning, block}
use Rattle.stations.specs.declared.station.Station.{Station}
use Rattle.stations.specs.Station.{with_attributes}
use Rattle.stations.specs.Stations.{renewed, given, present, attributes_of}
use Rattle.stations.specs.Table.{Each}
use Rattle.controller.specs.State.{span_of}
use Rattle.controller.specs.declared.sides.Spans.{Spans}
use Rattle.controller.specs.Handling.{gives, taking, learning}
use Rattle.controller.proofs.Judging.{taking-values}

-- What holds of each station holds of the one that has the address.
pub of_present : (P : Station → Type 0) (a : ℕ) (l : List Station) → Each P l → present a l ≡ true → (s : Station) × (s.address ≡ a) × P s
unfolding Each present
of_present P a [] e h = absurd (false≢true h)
of_present P a (s ∷ l) e h = go (eqb s.address a) refl h (of_present P a l e.1)
  where
    go : (b : Bool) → eqb s.address a ≡ b → b || present a l ≡ true → (present a l ≡ true → (x : Station) × (x.address ≡ a) × P x)
        → (x : Station) × (x.address ≡ a) × P x
    go true here h rest = (s, eqb-true s.address a here, e.0)
    go false here h rest = rest h

-- A station that is given attributes has them.
pub given_back : (a : ℕ) (x : Attributes) (l : List Station) → present a l ≡ true → attributes_of a (given a x l) ≡ some x
unfolding present given renewed attributes_of
given_back a x [] h = absurd (false≢true h)
given_back a x (s ∷ l) h = go (eqb s.address a) refl h (given_back a x l)
  where
    go : (b : Bool) → eqb s.address a ≡ b → b || present a l ≡ true → (present a l ≡ true → attributes_of a (given a x l) ≡ some x)
        → attributes_of a (cond b (with_attributes x s) s ∷ renewed a (with_attributes x) l) ≡ some x
    go true here h rest = rw here refl
    go false here h rest = rw here (rest h)

-- Attributes with values.
abbrev pub carried : ℕ → ℕ → ℕ → ℕ → Attributes
carried w0 w1 b0 b1 = record { behind = false; kind = 0; weight0 = w0; weight1 = w1; reserved0 = b0; reserved1 = b1 }

learning-takes : (t : Ticks) (n a : ℕ) (m : Meaning) (x : Spans) (l : List Station) → down t (span_of n x) ≡ false → present a l ≡ true
    → learning t n a m x l ≡ taking a m l
unfolding learning
learning-takes t n a m x l up there = rw (up, there)

pub learning-values : (w0 w1 b0 b1 : ℕ) (t : Ticks) (n a : ℕ) (m : Meaning) (x : Spans) (l : List Station) → down t (span_of n x) ≡ false
    → present a l ≡ true → block m ≡ Ok (Values w0 w1 b0 b1) → learning t n a m x l ≡ gives 0 (given a (carried w0 w1 b0 b1) l)
learning-values w0 w1 b0 b1 t n a m x l up there e = learning-takes t n a m x l up there ∙ taking-values a l m w0 w1 b0 b1 e
