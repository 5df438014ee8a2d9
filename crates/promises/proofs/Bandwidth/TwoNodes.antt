-- Two nodes of which one knows fewer types, fed one history: to the rules, and to nodes of the program. Assumes nothing.
use Prim.Native.Nat.{ℕ, ◌≤◌}
use mathlib.Core.Path.{◌≡◌, refl, ◌∙◌, ap}
use mathlib.Core.Bool.{true}
use mathlib.Core.List.{List}
use borrow.Author.Tests.{le-leb}
use Rattle.settings.specs.Reading.{settings_in}
use Rattle.blocks.specs.Types.{knows, among}
use Rattle.blocks.specs.Levels.{Sub}
use Rattle.blocks.proofs.Known.{knows_2}
use Rattle.blocks.specs.declared.attributes.Attributes.{Attributes}
use Rattle.controller.specs.Node.{Started, state_of}
use Rattle.controller.specs.State.{Choice, State, started}
use Rattle.controller.specs.Promise.{Begun}
use Rattle.promises.specs.History.{Call, after, start_of, Made, made_of, calls_of, node_after, Met}
use Rattle.promises.specs.Levels.{NoEight, latest, no_blocks, knowing, dressed, with_level, NoEightMade, attributes_by}
use Rattle.promises.specs.Bandwidth.{SameFree}
use Rattle.promises.proofs.Demand2.AfterKept.{choice-after}
use Rattle.promises.proofs.Demand2.Coming.{state-after}
use Rattle.promises.proofs.Demand3.Following.{follows}
use Rattle.promises.proofs.Demand3.TwoNodes.{at-one_point, c, sub, smaller-start, no_eight}
use Rattle.promises.proofs.Bandwidth.SameNumbers.{same_numbers}

-- To the rules: both nodes wear what they make of the latest blocks.
module _ (c : Choice) (K : List ℕ) (sub : Sub K c.known) (two : among 2 K ≡ true) where
  pub rules_alike : (h : List Call) → NoEight (started c) h → (rate own0 own1 : ℕ)
      → SameFree (after (started (knowing K c)) h) (after (started c) h) rate own0 own1
  unfolding started dressed
  rules_alike h n =
      same_numbers K (latest no_blocks (started c) h) (after (started (knowing K c)) h) (after (started c) h) (at-one_point c K sub h n) two
      (ap (λ (d : Choice). among 2 d.known) (choice-after (started c) h) ∙ sub 2 two)
      (worn K) (worn c.known) (after (started c) h).stations
      (ap (λ (s : State). s.stations) (follows no_blocks (started c) (λ a p. refl) K sub h n))
      (ap (λ (s : State). s.stations) (follows no_blocks (started c) (λ a p. refl) c.known (λ t k. k) h n))
    where
      worn : List ℕ → ℕ → Attributes
      worn J a = attributes_by J (latest no_blocks (started c) h a)

-- To nodes of the program: they are those of the rules.
module _ (a b : List ℕ) (level : ℕ) (lower : level ≤ (settings_in b).settings.level) (equal : (settings_in a).settings ≡ with_level level (settings_in b).settings)
    (small large : Started) (begun-small : Begun a small) (begun-large : Begun b large) (two : 2 ≤ level) where
  pub nodes_alike : (g h : List Made) → made_of g ≡ made_of h → Met small g → Met large h → NoEightMade h → (rate own0 own1 : ℕ)
      → SameFree (state_of (node_after small g)) (state_of (node_after large h)) rate own0 own1
  unfolding start_of calls_of
  nodes_alike g h same met-small met-large n rate own0 own1 =
      rw (
        state-after a small begun-small g met-small,
        state-after b large begun-large h met-large,
        same,
        smaller-start a b level lower equal small large begun-small begun-large,
      )
      (rules_alike (c a b level lower equal small large begun-small begun-large) (knows level)
      (sub a b level lower equal small large begun-small begun-large) (knows_2 level ∙ le-leb 2 level two) (calls_of h)
      (no_eight a b level lower equal small large begun-small begun-large h met-large n) rate own0 own1)
