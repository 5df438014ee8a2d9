-- After the one at the hop has given way there is a place. Assumes nothing.
use Rattle.std.proofs.Common.{◌≡◌, ◌∙◌, arith}
use Rattle.stations.specs.Station.{newcomer}
use Rattle.stations.specs.Stations.{displaced, inserted}
use Rattle.stations.specs.Hearing.{placed_new}
use Rattle.stations.proofs.Alone.{alone}
use Rattle.stations.proofs.Places.{found_none}
use Rattle.stations.proofs.Ranks.{rank-low, insert_is}
use Rattle.stations.proofs.Room.{hop_range}
use Rattle.stations.proofs.Sifting.{displaced_ascending}
use Rattle.stations.proofs.Tables.{room, joined_table}
use Rattle.stations.proofs.table.Table.hear_new.Goals as goal

pub displace_others-requires : goal.displace_others-requires
displace_others-requires c =
    let view : c.self.inside.stations.items ≡ c.args.self.now = c.self.view_is in
    let some = (hop_range c.args.p.hop c.requires.hop).0 in
    rw view
    (alone c.args.p (λ z. omega (arith, some, z)) c.args.self.now (c.stations.ensures.kept.apart c.args.p.ringlet) c.holder-there.result
    (rw c.stations.ensures.stations at c.holder-there.ensures))

pub rank-at-requires : goal.rank-at-requires
rank-at-requires c =
    let view : c.self.inside.stations.items ≡ c.args.self.now = c.self.view_is in
    rw (c.as_slice.ensures.value, c.displace_others.ensures, view) (displaced_ascending c.args.p c.args.self.now c.stations.ensures.kept.ascending)

pub insert_at-requires : goal.insert_at-requires
insert_at-requires c =
    let view : c.self.inside.stations.items ≡ c.args.self.now = c.self.view_is in
    let few = rank-low c.args.p.address (displaced c.args.p c.args.self.now) in
    rw (c.rank-at.ensures, c.as_slice.ensures.value, c.displace_others.ensures, view)
    (record { place = few; room = room c.stations.ensures.kept c.args.p c.requires.hop (found_none c.args.p.address c.args.self.now c.requires.unknown).sequence })

joined : (c : goal.After-insert_at) → c.insert_at.new.stations.items ≡ inserted (newcomer c.args.p) (displaced c.args.p c.args.self.now)
joined c =
    let view : c.self.inside.stations.items ≡ c.args.self.now = c.self.view_is in
    c.insert_at.ensures
    ∙ rw (c.rank-at.ensures, c.join.ensures, c.as_slice.ensures.value, c.displace_others.ensures, view)
    (insert_is (newcomer c.args.p) (displaced c.args.p c.args.self.now))

pub invariant_of-self : goal.invariant_of-self
invariant_of-self c =
    rw (joined c)
    (joined_table c.stations.ensures.kept c.args.p c.requires.hop (found_none c.args.p.address c.args.self.now c.requires.unknown).sequence)

pub returns : goal.returns
unfolding placed_new
returns = joined
