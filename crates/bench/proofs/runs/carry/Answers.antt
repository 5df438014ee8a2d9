-- What the calls left will add, from the node as it is, is what the sum lacks; the room stays that of the buffer. Assumes nothing.
use Rattle.std.proofs.Common.{◌≡◌, ◌<◌, ℕ, zero, suc, ◌+◌, ◌-◌, ◌∙◌, refl, sym, ap, List, length, arith, rules, Result, Ok, Err}
use Rattle.wire.specs.declared.results.Refusal.{Refusal}
use Rattle.controller.specs.Record.{outcomes}
use Rattle.controller.specs.declared.record.Returned.{Returned}
use Rattle.controller.specs.Node.{Node, state_of, answer_in, answer_of}
use Rattle.controller.specs.Promise.{Recorded}
use Rattle.controller.proofs.Ticking.{over_long}
use Rattle.bench.specs.Ring.{taken_in}
use Rattle.bench.specs.Runs.{told, carried}
use Rattle.bench.proofs.runs.carry.Goals as goal

left-node : (n : Node) (r : Result Returned Refusal) → (answer_in n r).node ≡ n
left-node n (Ok r) = refl
left-node n (Err r) = refl

turn : (room : ℕ) (b : List ℕ) (left : ℕ) (n : Node)
    → 0 < left → carried room b left n ≡ told (taken_in room n b) + carried room b (left - 1) (taken_in room n b).node
unfolding carried
turn room b zero n some = absurd (omega arith)
turn room b (suc k) n some = let p : suc k - 1 ≡ k = omega arith in rw p

none : (room : ℕ) (b : List ℕ) (left : ℕ) (n : Node) → left ≡ 0 → carried room b left n ≡ 0
unfolding carried
none room b left n e = rw e

-- A record that was lent a buffer has the room of the buffer.
takes : (n m : Node) (b old new : List ℕ) (room : ℕ) (r : Result Returned Refusal)
    → length old ≡ room → Recorded n b old new (answer_in m r) → answer_in m r ≡ taken_in room n b
unfolding taken_in
takes n m b old new room r long v = v.is ∙ ap (λ (x : ℕ). answer_of n (outcomes (state_of n) b x)) long

pub loop-preserved : goal.loop-preserved
loop-preserved c =
    let room = length c.args.out.now in
    let b = c.args.bytes.now in
    let n = c.loop.node in
    let m = c.take_record.new.self in
    let r = c.take_record.result in
    let inv = c.loop.invariant in
    let took = c.take_record.ensures in
    let is = takes n m b _ _ room r inv.room took in
    let next : (taken_in room n b).node ≡ m = ap (λ a. a.node) (sym is) ∙ left-node m r in
    let step = turn room b (c.args.calls - c.loop.counter) n (omega arith) in
    let fewer : c.args.calls - c.loop.counter - 1 ≡ c.args.calls - (c.loop.counter + 1) = omega arith in
    let adds : c.from-sum.result ≡ told (taken_in room n b) = search rules in
    record {
      room = ap length took.content ∙ over_long _ _ ∙ inv.room;
      small = omega arith;
      due = omega (arith, inv.due, rw (next, fewer) at step, adds);
    }

pub returns : goal.returns
returns c = omega (arith, c.loop.invariant.due, none (length c.args.out.now) c.args.bytes.now (c.args.calls - c.loop.counter) c.loop.node (omega arith))
