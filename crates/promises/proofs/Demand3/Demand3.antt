-- Demand 3: "Two nodes with equal settings, of which one knows some attribute types and the other these and more, are fed one sequence of records with the same output
-- room, in which the larger refuses no block as malformed. At every point their stations, span requests, reports and steering are equal. For each station the
-- smaller shows, for every type that it knows, the value the larger shows; or it says "behind", with the first mandatory type unknown to it in that station's
-- latest block taken or set aside since it joined. It says so exactly when there is such a block and it has such a type." Assumes nothing.
use Prim.Native.Nat.{ℕ, ◌≤◌}
use mathlib.Core.Path.{◌≡◌, sym, ◌∙◌, ap}
use mathlib.Core.List.{List, [], ◌∷◌}
use native.Mathlib.Omega.{arith}
use Rattle.wire.specs.Report.{over}
use Rattle.settings.specs.Reading.{settings_in}
use Rattle.blocks.specs.Types.{knows}
use Rattle.blocks.specs.Levels.{Sub}
use Rattle.controller.specs.Node.{Started, state_of}
use Rattle.controller.specs.State.{Choice, started}
use Rattle.controller.specs.Promise.{Begun}
use Rattle.promises.specs.History.{Call, after, answered, spelled_out, after_all, answered_all, Always, start_of, Made, made_of, calls_of, node_after, Met}
use Rattle.promises.specs.Levels.{NoEight, latest, no_blocks, knowing, Levelled, SameAnswer, SameCall, with_level, NoEightMade}
use Rattle.promises.proofs.Demand2.Spelling.{read_as_ticks}
use Rattle.promises.proofs.Demand3.TwoNodes.{at-one_point, same_answers, same_answers_all, latest-by_either, nodes_levelled, same_latest, calls_alike}

-- To the rules: c are the settings of the larger node, K the types that the smaller knows, h the calls, the latest first.
module _ (c : Choice) (K : List ℕ) (sub : Sub K c.known) where
  pub demand3 : (h : List Call) → NoEight (started c) h
      → Always (λ (g : List Call). Levelled K (latest no_blocks (started c) g) (after (started (knowing K c)) g) (after (started c) g)) h
  unfolding NoEight Always
  demand3 [] n = at-one_point c K sub [] n
  demand3 (d ∷ h) n = (at-one_point c K sub (d ∷ h) n, demand3 h n.1)

  -- Each call gives the same report, and the same result but for 24 beside 0.
  pub demand3_answers : (h : List Call) (d : Call) → NoEight (started c) (d ∷ h)
      → SameAnswer (answered (started (knowing K c)) h d) (answered (started c) h d)
  demand3_answers h d n = same_answers c K sub h d n

  -- 02, Item 4: the calls h as they are made, with records of many ticks among them, and the next one d.
  pub demand3_many : (h : List Call) → NoEight (started c) (spelled_out h)
      → Levelled K (latest no_blocks (started c) (spelled_out h)) (after_all (started (knowing K c)) h) (after_all (started c) h)
  demand3_many h n = rw (read_as_ticks (started (knowing K c)) h, read_as_ticks (started c) h) (at-one_point c K sub (spelled_out h) n)

  pub demand3_many_answers : (h : List Call) (d : Call) → NoEight (started c) (spelled_out (d ∷ h))
      → SameAnswer (answered_all (started (knowing K c)) h d) (answered_all (started c) h d)
  demand3_many_answers h d n = same_answers_all c K sub h d n

  -- The latest blocks are the same, by whichever of the two nodes they are told.
  pub demand3_latest : (h : List Call) → NoEight (started c) h
      → (a : ℕ) → latest no_blocks (started (knowing K c)) h a ≡ latest no_blocks (started c) h a
  demand3_latest h n a = latest-by_either c K sub h n a

-- To nodes of the program: b are the settings bytes of the larger node, a those of one of a lower level and else equal settings, as level 1 beside level 2; g and h are
-- the calls that were made of them, each of which met its contract.
module _ (a b : List ℕ) (level : ℕ) (lower : level ≤ (settings_in b).settings.level) (equal : (settings_in a).settings ≡ with_level level (settings_in b).settings)
    (small large : Started) (begun-small : Begun a small) (begun-large : Begun b large) where
  pub demand3_nodes : (g h : List Made) → made_of g ≡ made_of h → Met small g → Met large h → NoEightMade h
      → Levelled (knows level) (latest no_blocks (start_of b) (calls_of h)) (state_of (node_after small g)) (state_of (node_after large h))
  demand3_nodes = nodes_levelled a b level lower equal small large begun-small begun-large

  -- Each call tells the same reports to both, and its result is the same but for 24 beside 0. Of the buffers it is asked that they are as long.
  pub demand3_calls : (g h : List Made) (x y : Made) → made_of (x ∷ g) ≡ made_of (y ∷ h) → Met small (x ∷ g) → Met large (y ∷ h) → NoEightMade (y ∷ h)
      → SameCall x y
  demand3_calls = calls_alike a b level lower equal small large begun-small begun-large

  -- Buffers that were alike are alike after the call.
  pub demand3_buffers : (g h : List Made) (x y : Made) → made_of (x ∷ g) ≡ made_of (y ∷ h) → Met small (x ∷ g) → Met large (y ∷ h) → NoEightMade (y ∷ h)
      → x.old ≡ y.old → x.new ≡ y.new
  demand3_buffers g h x y same met-small met-large n old =
      let s : SameCall x y = demand3_calls g h x y same met-small met-large n in
      s.smaller ∙ ap (over s.report) old ∙ sym s.larger

  -- The latest blocks, by the smaller node's settings and calls, are those of `demand3_nodes`.
  pub demand3_latest_nodes : (g h : List Made) → made_of g ≡ made_of h → Met large h → NoEightMade h
      → (s : ℕ) → latest no_blocks (start_of a) (calls_of g) s ≡ latest no_blocks (start_of b) (calls_of h) s
  demand3_latest_nodes = same_latest a b level lower equal small large begun-small begun-large

-- Level 1 beside level 2.
pub demand3_levels : (a b : List ℕ) → (settings_in b).settings.level ≡ 2 → (settings_in a).settings ≡ with_level 1 (settings_in b).settings
    → (small large : Started) → Begun a small → Begun b large → (g h : List Made) → made_of g ≡ made_of h → Met small g → Met large h → NoEightMade h
    → Levelled (knows 1) (latest no_blocks (start_of b) (calls_of h)) (state_of (node_after small g)) (state_of (node_after large h))
demand3_levels a b two equal = demand3_nodes a b 1 (rw two (omega arith)) equal
