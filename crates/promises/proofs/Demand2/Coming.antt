-- Nodes that come from calls which meet their contracts. Assumes nothing.
use Prim.Native.Nat.{ℕ}
use mathlib.Core.Path.{◌≡◌, refl, ◌∙◌, ap, subst}
use mathlib.Core.List.{List, [], ◌∷◌}
use lib.ListN.{length}
use Rattle.wire.specs.Report.{over}
use Rattle.settings.specs.declared.choice.Settings.{Settings}
use Rattle.settings.specs.Reading.{settings_in}
use Rattle.ways.specs.Choice.{numbers}
use Rattle.controller.specs.Node.{Node, Started, Answer, choice_of, settings_of, state_of, node_of, started_with, answer_of, west_request, east_request, steering, asked}
use Rattle.controller.specs.State.{State, started}
use Rattle.controller.specs.Record.{Outcome, outcomes}
use Rattle.controller.specs.Kept.{Kept}
use Rattle.controller.specs.Promise.{Begun, Recorded}
use Rattle.controller.proofs.Nodes.{settings-told}
use Rattle.promises.specs.History.{after, after_all, answered_all, start_of, Made, call_of, made_of, calls_of, node_after, Met, Ruled, AnsweredAs}
use Rattle.promises.proofs.Demand2.Spelling.{read_as_ticks}

record Came (c : Settings) (n : Node) (s : State) : Type 0 where
  is : n ≡ node_of c s
  shows : state_of n ≡ s
  kept : Kept n

-- From any node that is kept.
module _ (st : Started) (first : Kept st.node) where
  abbrev c : Settings
  c = settings_of st.node

  -- The state of the rules after calls.
  abbrev state_after : List Made → State
  state_after h = after_all (state_of st.node) (made_of h)

  -- The settings in the words are those of the beginning.
  settings_is : (h : List Made) (n : Node) → Came c n (state_after h) → settings_of n ≡ c
  settings_is h n k = settings-told n c (state_after h) k.is

  -- What the rules make of a call at a node is what they make of it in their own state.
  outcome_is : (h : List Made) (n : Node) (m : Made) → Came c n (state_after h)
      → outcomes (state_of n) m.bytes (length m.old) ≡ answered_all (state_of st.node) (made_of h) (call_of m)
  outcome_is h n m k = ap (λ (s : State). outcomes s m.bytes (length m.old)) k.shows

  came : (h : List Made) → Met st h → Came c (node_after st h) (state_after h)
  unfolding Met made_of after_all
  came [] met = record { is = refl; shows = refl; kept = first }
  came (m ∷ h) met = go (came h met.1)
    where
      go : Came c (node_after st h) (state_after h) → Came c m.answer.node (state_after (m ∷ h))
      go k =
          let n : Node = node_after st h in
          let r : Recorded n m.bytes m.old m.new m.answer = met.0 k.kept in
          record {
            is =
                ap (λ (x : Answer). x.node) r.is
                ∙ ap (λ (o : Outcome). node_of (settings_of n) o.state) (outcome_is h n m k)
                ∙ ap (λ (x : Settings). node_of x (state_after (m ∷ h))) (settings_is h n k);
            shows = r.shows ∙ ap (λ (o : Outcome). o.state) (outcome_is h n m k);
            kept = r.kept;
          }

  -- The node is that of its settings in the state of the rules.
  pub node_came : (h : List Made) → Met st h → node_after st h ≡ node_of (settings_of st.node) (after_all (state_of st.node) (made_of h))
  node_came h met = (came h met).is

  pub came_answered : (h : List Made) (m : Made) → Met st (m ∷ h) → AnsweredAs m (answered_all (state_of st.node) (made_of h) (call_of m))
  unfolding Met
  came_answered h m met =
      let n : Node = node_after st h in
      let k : Came c n (state_after h) = came h met.1 in
      let r : Recorded n m.bytes m.old m.new m.answer = met.0 k.kept in
      let e : m.answer ≡ answer_of n (answered_all (state_of st.node) (made_of h) (call_of m)) = r.is ∙ ap (answer_of n) (outcome_is h n m k) in
      record {
        result = ap (λ (x : Answer). x.result) e;
        written = ap (λ (x : Answer). x.reports) e;
        content = r.content ∙ ap (λ (o : Outcome). over o.report m.old) (outcome_is h n m k);
      }

-- From a start.
module _ (b : List ℕ) (st : Started) (begun : Begun b st) where
  start-settings : settings_of st.node ≡ (settings_in b).settings
  unfolding started_with
  start-settings =
      settings-told st.node (settings_in b).settings (started (choice_of (settings_in b).settings)) (ap (λ (x : Started). x.node) begun.is)

  start-state : state_of st.node ≡ start_of b
  unfolding start_of
  start-state = begun.shows

  -- The state that the calls leave, and that the history leaves which they make.
  pub state-made : (h : List Made) → Met st h → state_of (node_after st h) ≡ after_all (start_of b) (made_of h)
  state-made h met = (came st begun.kept h met).shows ∙ ap (λ (s : State). after_all s (made_of h)) start-state

  pub state-after : (h : List Made) → Met st h → state_of (node_after st h) ≡ after (start_of b) (calls_of h)
  unfolding calls_of
  state-after h met = state-made h met ∙ read_as_ticks (start_of b) (made_of h)

  pub ruled : (h : List Made) → Met st h → Ruled b (node_after st h) (after (start_of b) (calls_of h))
  unfolding calls_of
  ruled h met =
      let e : state_of (node_after st h) ≡ after_all (start_of b) (made_of h) = state-made h met in
      subst (Ruled b (node_after st h)) (read_as_ticks (start_of b) (made_of h)) (record {
        is = node_came st begun.kept h met ∙ (λ i. node_of (start-settings i) (after_all (start-state i) (made_of h)));
        kept = (came st begun.kept h met).kept;
        west = ap west_request e;
        east = ap east_request e;
        stations = ap (λ (s : State). s.stations) e;
        sequence = ap (λ (s : State). s.pacer.sequence) e;
        ways = λ a. ap (λ (s : State). numbers (steering s a)) e;
        attributes = λ a. ap (λ (s : State). asked s a) e;
      })

  pub answered_as : (h : List Made) (m : Made) → Met st (m ∷ h) → AnsweredAs m (answered_all (start_of b) (made_of h) (call_of m))
  answered_as h m met =
      subst (λ (s : State). AnsweredAs m (answered_all s (made_of h) (call_of m))) start-state (came_answered st begun.kept h m met)
