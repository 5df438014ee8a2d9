-- Old; or renewed and then (e), which spares the station itself. Assumes nothing.
use Rattle.std.proofs.Common.{◌≡◌, ◌∙◌, ap, arith, get_or, lt-ltb, le-ltb}
use Rattle.std.specs.Prelude.{List, Ok}
use Rattle.wire.specs.declared.results.Taken.TheVariants.{Stored}
use Rattle.stations.specs.Station.{Station}
use Rattle.stations.specs.Stations.{displaced, renewed}
use Rattle.stations.specs.Hearing.{distance, heard_again, left, placed_known}
use Rattle.stations.specs.Table.{blank}
use Rattle.stations.proofs.Alone.{alone, alone_set}
use Rattle.stations.proofs.Hops.{again-address}
use Rattle.stations.proofs.Places.{found_stands, set-renewed}
use Rattle.stations.proofs.Renewing.{displaced-renewed}
use Rattle.stations.proofs.Retaining.{stored}
use Rattle.stations.proofs.Room.{hop_range}
use Rattle.stations.proofs.Tables.{renewed_table}
use Rattle.stations.proofs.table.Table.hear_known.Goals as goal

pub returns-then-d-gt-LAST_NEWER : goal.returns-then-d-gt-LAST_NEWER
unfolding placed_known blank
returns-then-d-gt-LAST_NEWER c =
    let old = rw (c.distance-d.ensures, c.stations.ensures.stations) at c.if-d-gt-LAST_NEWER.true in
    rw (lt-ltb 128 _ old)

pub displace_others-requires : goal.displace_others-requires
unfolding blank
displace_others-requires c =
    let l = c.args.self.now in
    let view : c.self.inside.stations.items ≡ l = c.self.view_is in
    let stands = found_stands c.args.p.address l c.args.at c.requires.known in
    let some = (hop_range c.args.p.hop c.requires.hop).0 in
    let one = alone c.args.p (λ z. omega (arith, some, z)) l (c.stations.ensures.kept.apart c.args.p.ringlet) c.holder-other.result
    (rw c.stations-2.ensures.stations at c.holder-other.ensures) in
    rw (stored _ _ c.args.at _ c.as_mut_slice.ensures.value, view, c.hear_again.ensures, c.stations.ensures.stations)
    (alone_set c.args.p c.holder-other.result c.args.at _ l one stands.inside (again-address c.distance-d.result c.args.p (get_or l c.args.at blank) ∙ stands.address))

heard : (c : goal.After-displace_others) → c.displace_others.new.stations.items ≡ renewed c.args.p.address (heard_again c.distance-d.result c.args.p) (displaced c.args.p c.args.self.now)
unfolding blank
heard c =
    let l = c.args.self.now in
    let view : c.self.inside.stations.items ≡ l = c.self.view_is in
    let stands = found_stands c.args.p.address l c.args.at c.requires.known in
    let change = heard_again c.distance-d.result c.args.p in
    c.displace_others.ensures
    ∙ rw (
      stored _ _ c.args.at _ c.as_mut_slice.ensures.value,
      view,
      c.hear_again.ensures,
      c.stations.ensures.stations,
      set-renewed c.args.p.address change l c.args.at c.stations.ensures.kept.ascending stands.inside stands.address,
    ) (displaced-renewed c.args.p change (again-address c.distance-d.result c.args.p) l)

pub invariant_of-self : goal.invariant_of-self
invariant_of-self c = rw (heard c) (renewed_table c.stations.ensures.kept c.args.p c.requires.hop c.distance-d.result)

pub returns : goal.returns
unfolding placed_known blank
returns c =
    let l = c.args.self.now in
    let far : c.distance-d.result ≡ distance c.args.p.sequence (get_or l c.args.at blank).sequence =
    rw c.stations.ensures.stations at c.distance-d.ensures in
    rw (← far, le-ltb 128 _ c.if-d-gt-LAST_NEWER.false) (ap (λ (m : List Station). left m (Ok Stored)) (heard c))
