-- The stations below k were heard, and station k is heard next. Assumes nothing.
use Rattle.std.proofs.Common.{◌≡◌, ◌≤◌, ℕ, zero, suc, ◌-◌, ◌∙◌, ap, arith}
use Rattle.controller.specs.Node.{Node}
use Rattle.bench.specs.Ring.{joined, ring_to, ring_of}
use Rattle.bench.proofs.ring.ring.Goals as goal

heard : (stations k j : ℕ) {n m : Node}
    → 1 ≤ k → j ≡ k → n ≡ ring_to stations (k - 1) → m ≡ joined stations k n → m ≡ ring_to stations j
unfolding ring_to
heard stations zero j h e before now = absurd (omega arith)
heard stations (suc k) j h e before now =
    let p : suc k - 1 ≡ k = omega arith in
    rw (e, now, before, p)

pub loop-k-init : goal.loop-k-init
unfolding ring_to
loop-k-init c = (ap (λ r. r.node) c.start.ensures.is, omega arith)

pub loop-k-preserved : goal.loop-k-preserved
loop-k-preserved c =
    (heard _ _ _ c.loop-k.auto.k (omega arith) c.loop-k.invariant.0 c.join.ensures, omega arith)

pub returns : goal.returns
unfolding ring_of
returns c = c.loop-k.invariant.0 ∙ ap (ring_to c.args.size.stations) (omega arith)

pub returns-2 : goal.returns-2
unfolding ring_of
returns-2 c = heard _ _ _ c.loop-k.auto.k (omega arith) c.loop-k.invariant.0 c.join.ensures
