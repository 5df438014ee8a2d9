-- The contracts of the controller, of the planner's question, and of the writer and the reader of blocks, are the definitions that the demands cite, by computation.
-- None asks anything: that a node is kept is in its type. Assumes nothing.
use mathlib.Core.Path.{◌≡◌, refl}
use lib.ListN.{length}
use Rattle.blocks.specs.contracts as blocks_contract
use Rattle.blocks.proofs as blocks
use Rattle.blocks.specs.Meaning.{block_at}
use Rattle.blocks.specs.Writing.{Wrote}
use Rattle.controller.specs.contracts.node.Node as Node_contract
use Rattle.controller.proofs.node.Node as Node
use Rattle.controller.specs.Node.{started_in, answer_in, settings_of, state_of, west_request, east_request, steering, asked, shown_as}
use Rattle.controller.specs.Promise.{Begun, Recorded}
use Rattle.bandwidth.specs.contracts as bandwidth_contract
use Rattle.bandwidth.proofs as bandwidth
use Rattle.bandwidth.specs.Free.{free_bandwidth, free_as}
use Rattle.stations.specs.Table.{TableKept}
use Rattle.stations.specs.declared.table.Table.TheInside as TableInside
use Rattle.stations.specs.declared.table.Table.TheView as TableView
use Rattle.controller.specs.Kept.{Kept}
use Rattle.controller.specs.declared.node.Node.TheInside as NodeInside
use Rattle.controller.specs.declared.node.Node.TheView as NodeView
use Rattle.promises.specs.Contracts.{AsksNothing, IsPromised}

-- What the types hold of what they show, and nothing else: a node that it is kept, a table that it is a table.
pub node_holds : (n : NodeInside.Inside) → NodeView.invariant n ≡ Kept (NodeView.view n)
node_holds n = refl

pub table_holds : (t : TableInside.Inside) → TableView.invariant t ≡ TableKept (TableView.view t)
table_holds t = refl

-- Any bytes.
pub start_asks : AsksNothing Node_contract.start.ended Node.start.Reads.requires Node.start.Reads.Pre
start_asks = (λ w κs a. refl, refl)

pub start_is :
    IsPromised Node_contract.start.ended Node.start.Reads.ensures Node.start.Reads.Post
    (λ κs a x e. Begun a.1.0.now (started_in e.0.now x))
start_is = (λ w κs a x e. refl, refl)

-- Any bytes and any buffer.
pub take_record_asks : AsksNothing Node_contract.take_record.ended Node.take_record.Reads.requires Node.take_record.Reads.Pre
take_record_asks = (λ w κs a. refl, refl)

pub take_record_is :
    IsPromised Node_contract.take_record.ended Node.take_record.Reads.ensures Node.take_record.Reads.Post
    (λ κs a x e. Recorded a.0.now a.1.0.now a.1.1.0.now e.1.1.0.now (answer_in e.0.now x))
take_record_is = (λ w κs a x e. refl, refl)

-- Any number for an address.
pub steer_asks : AsksNothing Node_contract.steer.ended Node.steer.Reads.requires Node.steer.Reads.Pre
steer_asks = (λ w κs a. refl, refl)

pub steer_is :
    IsPromised Node_contract.steer.ended Node.steer.Reads.ensures Node.steer.Reads.Post
    (λ κs a x e. x ≡ steering (state_of a.0.now) a.1.0)
steer_is = (λ w κs a x e. refl, refl)

pub attributes_asks : AsksNothing Node_contract.attributes.ended Node.attributes.Reads.requires Node.attributes.Reads.Pre
attributes_asks = (λ w κs a. refl, refl)

pub attributes_is :
    IsPromised Node_contract.attributes.ended Node.attributes.Reads.ensures Node.attributes.Reads.Post
    (λ κs a x e. shown_as x ≡ asked (state_of a.0.now) a.1.0)
attributes_is = (λ w κs a x e. refl, refl)

pub west_request_asks : AsksNothing Node_contract.west_request.ended Node.west_request.Reads.requires Node.west_request.Reads.Pre
west_request_asks = (λ w κs a. refl, refl)

pub west_request_is :
    IsPromised Node_contract.west_request.ended Node.west_request.Reads.ensures Node.west_request.Reads.Post
    (λ κs a x e. x ≡ west_request (state_of a.0.now))
west_request_is = (λ w κs a x e. refl, refl)

pub east_request_asks : AsksNothing Node_contract.east_request.ended Node.east_request.Reads.requires Node.east_request.Reads.Pre
east_request_asks = (λ w κs a. refl, refl)

pub east_request_is :
    IsPromised Node_contract.east_request.ended Node.east_request.Reads.ensures Node.east_request.Reads.Post
    (λ κs a x e. x ≡ east_request (state_of a.0.now))
east_request_is = (λ w κs a x e. refl, refl)

pub level_asks : AsksNothing Node_contract.level.ended Node.level.Reads.requires Node.level.Reads.Pre
level_asks = (λ w κs a. refl, refl)

pub level_is :
    IsPromised Node_contract.level.ended Node.level.Reads.ensures Node.level.Reads.Post
    (λ κs a x e. x ≡ (settings_of a.0.now).level)
level_is = (λ w κs a x e. refl, refl)

pub own_sequence_asks : AsksNothing Node_contract.own_sequence.ended Node.own_sequence.Reads.requires Node.own_sequence.Reads.Pre
own_sequence_asks = (λ w κs a. refl, refl)

pub own_sequence_is :
    IsPromised Node_contract.own_sequence.ended Node.own_sequence.Reads.ensures Node.own_sequence.Reads.Post
    (λ κs a x e. x ≡ (state_of a.0.now).pacer.sequence)
own_sequence_is = (λ w κs a x e. refl, refl)

pub station_count_asks : AsksNothing Node_contract.station_count.ended Node.station_count.Reads.requires Node.station_count.Reads.Pre
station_count_asks = (λ w κs a. refl, refl)

pub station_count_is :
    IsPromised Node_contract.station_count.ended Node.station_count.Reads.ensures Node.station_count.Reads.Post
    (λ κs a x e. x ≡ length (state_of a.0.now).stations)
station_count_is = (λ w κs a x e. refl, refl)

-- Any numbers.
pub free_bandwidth_asks : AsksNothing bandwidth_contract.free_bandwidth.ended bandwidth.free_bandwidth.Reads.requires bandwidth.free_bandwidth.Reads.Pre
free_bandwidth_asks = (λ w κs a. refl, refl)

pub free_bandwidth_is :
    IsPromised bandwidth_contract.free_bandwidth.ended bandwidth.free_bandwidth.Reads.ensures bandwidth.free_bandwidth.Reads.Post
    (λ κs a x e. free_as x ≡ free_bandwidth (state_of a.0.now) a.1.0 a.1.1.0 a.1.1.1.0)
free_bandwidth_is = (λ w κs a x e. refl, refl)

-- Any numbers and any buffer.
pub write_block_asks : AsksNothing blocks_contract.write_block.ended blocks.write_block.Reads.requires blocks.write_block.Reads.Pre
write_block_asks = (λ w κs a. refl, refl)

pub write_block_is :
    IsPromised blocks_contract.write_block.ended blocks.write_block.Reads.ensures blocks.write_block.Reads.Post
    (λ κs a x e. Wrote a.1.0 a.1.1.0 a.1.1.1.0 a.1.1.1.1.0 a.1.1.1.1.1.0 a.0.now e.0.now x)
write_block_is = (λ w κs a x e. refl, refl)

-- Any bytes and any level.
pub read_block_asks : AsksNothing blocks_contract.read_block.ended blocks.read_block.Reads.requires blocks.read_block.Reads.Pre
read_block_asks = (λ w κs a. refl, refl)

pub read_block_is :
    IsPromised blocks_contract.read_block.ended blocks.read_block.Reads.ensures blocks.read_block.Reads.Post
    (λ κs a x e. x ≡ block_at a.1.0 a.0.now)
read_block_is = (λ w κs a x e. refl, refl)
