-- The cases of a step. Assumes nothing.
use Prim.Native.Nat.{ℕ}
use mathlib.Core.Path.{◌≡◌, refl, ap, sym, ◌∙◌}
use mathlib.Core.List.{List, []}
use borrow.Author.Tests.{ne_eqb}
use Rattle.std.specs.Prelude.{Option, Some, None, Result, Ok, Err, unwrap_or}
use Rattle.std.specs.Result.{result_unwrap_or}
use Rattle.std.specs.Borrow.{Bor}
use Rattle.std.specs.declared.ops.ControlFlow.{ControlFlow}
use Rattle.std.specs.declared.ops.ControlFlow.TheVariants.{Continue, Break}
use Rattle.arrayvec.specs.ArrayVec.{ArrayVec}
use Rattle.wire.specs.declared.results.Refusal.{Refusal}
use Rattle.wire.specs.declared.results.Refusal.TheVariants.{NoRoom, Broken, WrongKind, Unfit, OwnAddress, HopTooHigh, NotInTable, Malformed}
use Rattle.wire.specs.Results.{refusal_number}
use Rattle.wire.specs.Head.{kind_of, broken, head_of}
use Rattle.settings.specs.Reading.{settings_in}
use Rattle.controller.specs.Record.{outcomes}
use Rattle.controller.specs.declared.record.Returned.{Returned}
use Rattle.controller.specs.Node.{Node, Started, Answer, state_of, started_in, started_with, answer_in, answer_of}
use Rattle.drill.specs.Lines.{record_line, settings_line}
use Rattle.drill.specs.Turns.{Step, nothing, cut, whole, goes_on, ends, room, stepped, begun_with, begun}
use Rattle.drill.specs.Promise.{read_as, step_in, text_of}
use Rattle.drill.specs.declared.input.Cut.{Cut}

-- What is handed on to be written is the line of the step, and all of it.
pub front_is_line : {s : Step} (n : Node) (r : ControlFlow (ArrayVec ℕ) (ArrayVec ℕ)) → step_in n r ≡ s → text_of r ≡ s.line
front_is_line n (Continue line) e = ap (λ x. x.line) e
front_is_line n (Break line) e = ap (λ x. x.line) e

-- A record that is not the drill's own question.
node_left : (m : Node) (x : Result Returned Refusal) → (answer_in m x).node ≡ m
node_left m (Ok r) = refl
node_left m (Err r) = refl

other_kind : (k : ℕ) (n : Node) (b : List ℕ) → (kind_of b ≡ 40 → ⊥)
    → stepped k n b ≡ goes_on (answer_of n (outcomes (state_of n) b room)).node (record_line k (answer_of n (outcomes (state_of n) b room)))
unfolding stepped
other_kind k n b h = rw (ne_eqb (kind_of b) 40 h)

pub record_step : (k : ℕ) (n : Node) (b : List ℕ) (m : Node) (x : Result Returned Refusal) {text : List ℕ} → (kind_of b ≡ 40 → ⊥)
    → answer_in m x ≡ answer_of n (outcomes (state_of n) b room) → text ≡ record_line k (answer_in m x) → goes_on m text ≡ stepped k n b
record_step k n b m x h e p =
    rw p
    (ap (λ n. goes_on n (record_line k (answer_in m x))) (sym (node_left m x))
    ∙ ap (λ (a : Answer). goes_on a.node (record_line k a)) e ∙ sym (other_kind k n b h))

-- Settings: no bytes are refused with 2.
nothing-begun : begun nothing ≡ begun_with (started_with [])
unfolding begun settings_in head_of broken
nothing-begun = refl

cut-begun : begun cut ≡ begun_with (started_with [])
unfolding begun settings_in head_of broken
cut-begun = refl

whole_begun : (b : List ℕ) → begun (whole b) ≡ begun_with (started_with b)
unfolding begun
whole_begun b = refl

pub begun_by : (r : Result (Option (Bor (List ℕ))) Cut) (d : Bor (List ℕ)) {o : Option (Bor (List ℕ))} {b : Bor (List ℕ)} {s : Started} → o ≡ result_unwrap_or r None
    → b ≡ unwrap_or o d → d.now ≡ [] → s ≡ started_with b.now → begun (read_as r) ≡ begun_with s
begun_by (Ok None) d p q e f = rw (f, q, p, e) nothing-begun
begun_by (Ok (Some x)) d p q e f = rw (f, q, p) (whole_begun x.now)
begun_by (Err c) d p q e f = rw (f, q, p, e) cut-begun

-- A start refused is told by its number, which is not 0.
pub begun_refused : (n : Node) (r : Refusal) → begun_with (started_in n (Err r)) ≡ ends n (settings_line (refusal_number r))
unfolding begun_with
begun_refused n NoRoom = refl
begun_refused n Broken = refl
begun_refused n WrongKind = refl
begun_refused n Unfit = refl
begun_refused n OwnAddress = refl
begun_refused n HopTooHigh = refl
begun_refused n NotInTable = refl
begun_refused n Malformed = refl
