-- The result of a record is its handler's, of many ticks too, and a refusal leaves the state as it was and writes nothing. Assumes nothing.
use Prim.Native.Nat.{ℕ}
use mathlib.Core.Path.{◌≡◌, refl, sym, ◌∙◌, ap}
use mathlib.Core.Bool.{Bool, true, false, cond, false≢true}
use mathlib.Core.List.{List}
use lib.ListN.{length}
use Rattle.wire.specs.Head.{body_of}
use Rattle.wire.specs.Report.{over}
use Rattle.stations.specs.Hearing.{Placed}
use Rattle.controller.specs.Reading.{Reading}
use Rattle.controller.specs.Reading.{block_of, count_in, reading, many_ticks}
use Rattle.controller.specs.State.{State}
use Rattle.controller.specs.declared.sides.Spans.{Spans}
use Rattle.controller.specs.Handling.{acted, judged}
use Rattle.controller.specs.Closing.{is_tick}
use Rattle.controller.specs.Record.{Outcome, refusal, refuses, closed, outcome_of, outcome, outcomes}
use Rattle.controller.specs.Node.{Node, Answer, state_of, answer_of}
use Rattle.controller.specs.Kept.{Kept}
use Rattle.controller.specs.Promise.{Recorded}
use Rattle.controller.proofs.Nodes.{refused_same}
use Rattle.controller.proofs.Reports.{over_none}
use Rattle.controller.proofs.Manys.{many_read}
use Rattle.controller.proofs.Ticking.{ticking_result}

module _ (s : State) (block : List ℕ) where
  -- What the handler of a record that was read makes of the spans and of the stations, with its result.
  abbrev spans : Reading → Spans
  spans r = acted s.choice.ticks r s.spans

  abbrev handled : Reading → Placed
  handled r = judged s.choice r block (spans r) s.stations

  unfoldable pub given : Reading → ℕ
  unfolding acted judged
  given r = (handled r).result

  -- Refused or closed, the result is the handler's.
  pub result_of : (r : Reading) → (outcome_of r block s).result ≡ given r
  unfolding outcome_of given
  result_of r = go (refusal (given r))
    where
      go : (t : Bool) → (cond {A = Outcome} t (refuses (given r) s) (closed s (is_tick r) (spans r) (handled r))).result ≡ given r
      go true = refl
      go false = refl

  refused_of : (r : Reading) → refusal (given r) ≡ true → outcome_of r block s ≡ refuses (given r) s
  unfolding outcome_of given
  refused_of r h = rw h

module _ (s : State) (b : List ℕ) (room : ℕ) where
  -- Many ticks and one have the same result, 0.
  many_result : many_ticks b room ≡ true → given s (block_of b) (reading s.choice.address b room) ≡ 0
  unfolding given judged
  many_result is = ap (λ (r : Reading). given s (block_of b) r) (many_read b room s.choice.address is)

  pub result_is : (outcomes s b room).result ≡ given s (block_of b) (reading s.choice.address b room)
  unfolding outcome outcomes
  result_is = go (many_ticks b room) refl
    where
      go : (x : Bool) → many_ticks b room ≡ x → (outcomes s b room).result ≡ given s (block_of b) (reading s.choice.address b room)
      go true is = rw is (ticking_result (count_in (body_of b)) s ∙ sym (many_result is))
      go false is = rw is (result_of s (block_of b) (reading s.choice.address b room))

  pub untouched : refusal (outcomes s b room).result ≡ true → outcomes s b room ≡ refuses (outcomes s b room).result s
  unfolding outcome outcomes
  untouched h = go (many_ticks b room) refl
    where
      r : Reading
      r = reading s.choice.address b room

      refused : refusal (given s (block_of b) r) ≡ true
      refused = ap refusal (sym result_is) ∙ h

      go : (x : Bool) → many_ticks b room ≡ x → outcomes s b room ≡ refuses (outcomes s b room).result s
      go true is = absurd (false≢true (sym (ap refusal (many_result is)) ∙ refused))
      go false is = rw result_is (rw is (refused_of s (block_of b) r refused))

-- What a call that met its contract answers ..
module _ {n : Node} {b old new : List ℕ} {r : Answer} (h : Recorded n b old new r) where
  pub recorded_result : r.result ≡ (outcomes (state_of n) b (length old)).result
  recorded_result = ap (λ (x : Answer). x.result) h.is

  -- .. and, where it refuses, leaves.
  module _ (k : Kept n) (refused : refusal r.result ≡ true) where
    same : outcomes (state_of n) b (length old) ≡ refuses (outcomes (state_of n) b (length old)).result (state_of n)
    same = untouched (state_of n) b (length old) (rw recorded_result at refused)

    pub answer-refused : r ≡ record { node = n; result = (outcomes (state_of n) b (length old)).result; reports = 0 }
    answer-refused = h.is ∙ ap (answer_of n) same ∙ refused_same n (outcomes (state_of n) b (length old)).result

    pub buffer-refused : new ≡ old
    buffer-refused = h.content ∙ ap (λ (o : Outcome). over o.report old) same ∙ sym (over_none old)
