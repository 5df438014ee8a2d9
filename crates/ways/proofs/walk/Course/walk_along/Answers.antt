-- The walk has come to hop j; the index says who holds the next hop, or that none does. Assumes nothing.
use Rattle.std.proofs.Common.{ℕ, ◌+◌, ◌-◌, ◌<◌, rules, arith, ap, ◌∙◌}
use Rattle.spans.specs.Codes.{higher}
use Rattle.ways.proofs.Slots.{hops_long, says, hop_free, hop_held}
use Rattle.ways.proofs.Walking.{come_none, come_worse, come_on, come_broken, come_all}
use Rattle.ways.proofs.walk.Course.walk_along.Goals as goal
use Rattle.ways.proofs.walk.Course.walk_along.Goals.{then-worst-request, else-worst-request}

pub loop-j-init : goal.loop-j-init
loop-j-init c = come_none _ _ _

pub returns-in_err-s : goal.returns-in_err-s
returns-in_err-s c =
    let hops : c.args.self.hops < 256 = search rules in
    let fits : c.from.result + 1 - 1 < 256 = omega (arith, c.from.ensures, hops) in
    let next = says c.args.self.ringlet c.loop-j.j _ c.args.table.now c.requires c.stations-stations.ensures.kept.few fits c.loop-j-test.true c.from-in-loop-j.ensures in
    c.from_residual.ensures
    ∙ come_broken c.args.self.hops c.loop-j.invariant (omega (arith, c.from.ensures, next.low))
    (hop_free next (rw c.stations-stations.ensures.stations at c.in_err-s.ensures.lookup.3))

pub loop-j-preserved : goal.loop-j-preserved
loop-j-preserved c =
    let hops : c.args.self.hops < 256 = search rules in
    let fits : c.from.result + 1 - 1 < 256 = omega (arith, c.from.ensures, hops) in
    let next = says c.args.self.ringlet c.loop-j.j _ c.args.table.now c.requires c.stations-stations.ensures.kept.few fits c.loop-j-test.true c.from-in-loop-j.ensures in
    let held = hop_held c.in_ok-s.s.now next (rw c.stations-stations.ensures.stations at c.in_ok-s.ensures.lookup.3.0)
    (rw c.stations-stations.ensures.stations at c.in_ok-s.ensures.lookup.1) in
    let request = c.higher-request.ensures ∙ ap (λ (p : ℕ × ℕ). higher c.loop-j.end p.0) c.ends-near.ensures in
    let end = ap (λ (p : ℕ × ℕ). p.1) c.ends-near.ensures in
    elim c.if-worst-request.branch [
      | then-worst-request w ↦
          come_worse c.loop-j.invariant (omega (arith, next.low, fits)) held request w.if-worst-request.true w.worst-is w.before-is (w.end-is ∙ end)
      | else-worst-request w ↦ come_on c.loop-j.invariant held request w.if-worst-request.false w.worst-is w.before-is (w.end-is ∙ end)
    ]

pub returns : goal.returns
returns c =
    let hops : c.args.self.hops < 256 = search rules in
    let fits : c.from.result + 1 - 1 < 256 = omega (arith, c.from.ensures, hops) in
    come_all c.args.self.hops c.loop-j.invariant
    (omega (arith, c.from.ensures, c.loop-j-test.false, c.loop-j.auto.j-end, hops_long (c.from.result + 1 - 1) c.args.index.now c.told-index fits))
