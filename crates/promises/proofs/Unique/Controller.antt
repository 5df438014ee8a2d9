-- The public functions of controller leave no choice: one answer, and one content of lent memory. Assumes nothing.
use Prim.Native.Nat.{ℕ}
use mathlib.Core.Path.{refl, sym, ◌∙◌}
use mathlib.Core.List.{List}
use Rattle.stations.specs.declared.station.Station.{Station}
use Rattle.controller.specs.State.{Node as Held}
use Rattle.controller.specs.contracts.node.Node as Node_contract
use Rattle.controller.proofs.node.Node as Node
use Rattle.controller.specs.contracts.node.NodeClone as NodeClone_contract
use Rattle.controller.proofs.node.NodeClone as NodeClone
use Rattle.promises.specs.Unique.{Fixes, FixesPart}
use Rattle.promises.proofs.Unique.Laws.{two_facts, copies_alike, starts_told_apart, records_told_apart, shown_told_apart}

pub steer_unique : Fixes Node_contract.steer.ended Node.steer.Reads.ensures Node.steer.Reads.Post
steer_unique = (λ w κs a x e. refl, λ κs a x y e f p q. p ∙ sym q)

pub attributes_unique : Fixes Node_contract.attributes.ended Node.attributes.Reads.ensures Node.attributes.Reads.Post
attributes_unique = (λ w κs a x e. refl, λ κs a x y e f p q. shown_told_apart x y (p ∙ sym q))

pub west_request_unique : Fixes Node_contract.west_request.ended Node.west_request.Reads.ensures Node.west_request.Reads.Post
west_request_unique = (λ w κs a x e. refl, λ κs a x y e f p q. p ∙ sym q)

pub east_request_unique : Fixes Node_contract.east_request.ended Node.east_request.Reads.ensures Node.east_request.Reads.Post
east_request_unique = (λ w κs a x e. refl, λ κs a x y e f p q. p ∙ sym q)

pub level_unique : Fixes Node_contract.level.ended Node.level.Reads.ensures Node.level.Reads.Post
level_unique = (λ w κs a x e. refl, λ κs a x y e f p q. p ∙ sym q)

pub own_sequence_unique : Fixes Node_contract.own_sequence.ended Node.own_sequence.Reads.ensures Node.own_sequence.Reads.Post
own_sequence_unique = (λ w κs a x e. refl, λ κs a x y e f p q. p ∙ sym q)

-- The contract speaks of what the answer shows, not of where it lies.
pub stations_unique :
    FixesPart Node_contract.stations.ended (λ κs. List Station) (λ κs x e. x.now)
    Node.stations.Reads.ensures Node.stations.Reads.Post
stations_unique = (λ w κs a x e. two_facts w _ _, λ κs a x y e f p q. p.0 ∙ sym q.0)

pub station_count_unique : Fixes Node_contract.station_count.ended Node.station_count.Reads.ensures Node.station_count.Reads.Post
station_count_unique = (λ w κs a x e. refl, λ κs a x y e f p q. p ∙ sym q)

pub new_unique : Fixes Node_contract.new.ended Node.new.Reads.ensures Node.new.Reads.Post
new_unique = (λ w κs a x e. refl, λ κs a x y e f p q. p ∙ sym q)

pub node-clone_unique : Fixes NodeClone_contract.clone.ended NodeClone.clone.Reads.ensures NodeClone.clone.Reads.Post
node-clone_unique = (λ w κs a x e. refl, λ κs a x y e f p q. copies_alike a.0.now x y p q)

pub start_unique : Fixes Node_contract.start.ended Node.start.Reads.ensures Node.start.Reads.Post
start_unique = (λ w κs a x e. refl, λ κs a x y e f p q. (starts_told_apart e.0.now f.0.now x y (p.is ∙ sym q.is)).1)

pub start_node_unique : FixesPart Node_contract.start.ended (λ κs. Held) (λ κs x e. e.0.now) Node.start.Reads.ensures Node.start.Reads.Post
start_node_unique = (λ w κs a x e. refl, λ κs a x y e f p q. (starts_told_apart e.0.now f.0.now x y (p.is ∙ sym q.is)).0)

pub take_record_unique : Fixes Node_contract.take_record.ended Node.take_record.Reads.ensures Node.take_record.Reads.Post
take_record_unique = (λ w κs a x e. refl, λ κs a x y e f p q. (records_told_apart e.0.now f.0.now x y (p.is ∙ sym q.is)).1)

pub take_record_node_unique :
    FixesPart Node_contract.take_record.ended (λ κs. Held) (λ κs x e. e.0.now)
    Node.take_record.Reads.ensures Node.take_record.Reads.Post
take_record_node_unique = (λ w κs a x e. refl, λ κs a x y e f p q. (records_told_apart e.0.now f.0.now x y (p.is ∙ sym q.is)).0)

pub take_record_content_unique :
    FixesPart Node_contract.take_record.ended (λ κs. List ℕ) (λ κs x e. e.1.1.0.now)
    Node.take_record.Reads.ensures Node.take_record.Reads.Post
take_record_content_unique = (λ w κs a x e. refl, λ κs a x y e f p q. p.content ∙ sym q.content)
