-- What a drill leaves, and what its last call is answered; and that every drill of bytes can be run. Assumes nothing.
use Prim.Native.Nat.{ℕ}
use mathlib.Core.Path.{◌≡◌, refl, ◌∙◌, ap, subst}
use mathlib.Core.List.{List, [], ◌∷◌, reverse, map}
use lib.ListN.{length, replicate}
use Rattle.wire.specs.Fields.{Bytes}
use Rattle.controller.specs.Node.{Started, state_of, started_with}
use Rattle.controller.specs.State.{State}
use Rattle.controller.specs.Record.{Outcome, refuses}
use Rattle.promises.specs.History.{Call, after_all, answered_all, start_of, AllBytes, Made, made_of, node_after, Met, AnsweredAs}
use Rattle.promises.specs.Possible.{Handed, AllHanded, made}
use Rattle.promises.specs.Drilled.{calls_for, Drilled}
use Rattle.promises.proofs.Demand2.Coming.{state-made, answered_as}
use Rattle.promises.proofs.Demand2.Possible.{begins, made_met}

-- What the latest call of a history is answered.
abbrev pub last_of : State → List Call → Outcome
last_of s [] = refuses 0 s
last_of s (c ∷ h) = answered_all s h c

-- Its room, and the calls before it.
abbrev last_room : List Call → ℕ
last_room [] = 0
last_room (c ∷ h) = c.room

abbrev before : List Call → List Call
before [] = []
before (c ∷ h) = h

module _ {start : List ℕ} {l : List (List ℕ)} {st : Started} where
  pub drill-state : {h : List Made} → Drilled start l st h → state_of (node_after st h) ≡ after_all (start_of start) (calls_for l)
  drill-state {h} d = state-made start st d.begun h d.met ∙ ap (after_all (start_of start)) d.calls

  module _ {m : Made} {h : List Made} (d : Drilled start l st (m ∷ h)) where
    pub drill-answer : AnsweredAs m (last_of (start_of start) (calls_for l))
    unfolding made_of
    drill-answer = subst (λ (c : List Call). AnsweredAs m (last_of (start_of start) c)) d.calls (answered_as start st d.begun h m d.met)

    pub drill-room : length m.old ≡ last_room (calls_for l)
    unfolding made_of
    drill-room = ap last_room d.calls

    -- The node before the last call.
    pub drill-before : state_of (node_after st h) ≡ after_all (start_of start) (before (calls_for l))
    unfolding made_of Met
    drill-before = state-made start st d.begun h d.met.1 ∙ ap (λ (c : List Call). after_all (start_of start) (before c)) d.calls

-- Records handed over with buffers of seven bytes.
abbrev handed : List ℕ → Handed
handed b = record { bytes = b; old = replicate 7 0 }

abbrev called : List ℕ → Call
called b = record { bytes = b; room = 7 }

handed_calls : (st : Started) (l : List (List ℕ)) → made_of (made st (map handed l)) ≡ map called l
unfolding made made_of
handed_calls st [] = refl
handed_calls st (b ∷ l) = ap (λ (h : List Call). called b ∷ h) (handed_calls st l)

handed_bytes : (l : List (List ℕ)) → AllBytes (map called l) → AllHanded (map handed l)
unfolding AllBytes AllHanded
handed_bytes [] bytes = tt
handed_bytes (b ∷ l) bytes = (bytes.0, handed_bytes l bytes.1)

-- The answers of the rules meet the contracts.
pub drill_runs : (start : List ℕ) (l : List (List ℕ)) → Bytes start → AllBytes (calls_for l) → (h : List Made) × Drilled start l (started_with start) h
drill_runs start l bytes all =
    let st : Started = started_with start in (
      made st (map handed (reverse l)),
      record {
        begun = begins start bytes;
        calls = handed_calls st (reverse l);
        met = made_met st (map handed (reverse l)) (handed_bytes (reverse l) all);
      },
    )
