-- The routines meet the definitions that the demands cite: of each call the theorem that the prover accepted of its routine, said of the definition itself. Assumes nothing.
-- So between the code and the demands this is left to believe: that a program's run is a history as `Met` has it, each call handed the node that the call before gave; and
-- that in the program each name means the code that was proved (`Wired`).
-- A call's own run on the machine ends as its contract says by the logic's theorem `adequate` (its library denote, Triple/Adequate). docs/PROMISES.md has the rest.
use mathlib.Core.Path.{◌≡◌}
use lib.ListN.{length}
use Rattle.blocks.specs.contracts as blocks_contract
use Rattle.blocks.proofs as blocks
use Rattle.blocks.specs.Meaning.{block_at}
use Rattle.blocks.specs.Writing.{Wrote}
use Rattle.controller.specs.contracts.node.Node as Node_contract
use Rattle.controller.proofs.node.Node as Node
use Rattle.controller.specs.Node.{started_in, answer_in, settings_of, state_of, west_request, east_request, steering, asked, shown_as}
use Rattle.controller.specs.Promise.{Begun, Recorded}
use Rattle.bandwidth.specs.contracts as bandwidth_contract
use Rattle.bandwidth.proofs as bandwidth
use Rattle.bandwidth.specs.Free.{free_bandwidth, free_as}
use Rattle.promises.specs.Contracts.{RoutineAlwaysMeets}

-- Any bytes.
pub start_meets :
    RoutineAlwaysMeets Node_contract.start.ended Node.start.Symbol.name Node.start.Symbol.code
    (λ κs a x e. Begun a.1.0.now (started_in e.0.now x))
start_meets w = Node.start.Met.met w.𝓤 w.𝓛 w.𝓜 w.𝓡

-- Any bytes and any buffer.
pub take_record_meets :
    RoutineAlwaysMeets Node_contract.take_record.ended Node.take_record.Symbol.name Node.take_record.Symbol.code
    (λ κs a x e. Recorded a.0.now a.1.0.now a.1.1.0.now e.1.1.0.now (answer_in e.0.now x))
take_record_meets w = Node.take_record.Met.met w.𝓤 w.𝓛 w.𝓜 w.𝓡

-- Any number for an address.
pub steer_meets :
    RoutineAlwaysMeets Node_contract.steer.ended Node.steer.Symbol.name Node.steer.Symbol.code
    (λ κs a x e. x ≡ steering (state_of a.0.now) a.1.0)
steer_meets w = Node.steer.Met.met w.𝓤 w.𝓛 w.𝓜 w.𝓡

pub attributes_meets :
    RoutineAlwaysMeets Node_contract.attributes.ended Node.attributes.Symbol.name Node.attributes.Symbol.code
    (λ κs a x e. shown_as x ≡ asked (state_of a.0.now) a.1.0)
attributes_meets w = Node.attributes.Met.met w.𝓤 w.𝓛 w.𝓜 w.𝓡

pub west_request_meets :
    RoutineAlwaysMeets Node_contract.west_request.ended Node.west_request.Symbol.name Node.west_request.Symbol.code
    (λ κs a x e. x ≡ west_request (state_of a.0.now))
west_request_meets w = Node.west_request.Met.met w.𝓤 w.𝓛 w.𝓜 w.𝓡

pub east_request_meets :
    RoutineAlwaysMeets Node_contract.east_request.ended Node.east_request.Symbol.name Node.east_request.Symbol.code
    (λ κs a x e. x ≡ east_request (state_of a.0.now))
east_request_meets w = Node.east_request.Met.met w.𝓤 w.𝓛 w.𝓜 w.𝓡

pub level_meets :
    RoutineAlwaysMeets Node_contract.level.ended Node.level.Symbol.name Node.level.Symbol.code
    (λ κs a x e. x ≡ (settings_of a.0.now).level)
level_meets w = Node.level.Met.met w.𝓤 w.𝓛 w.𝓜 w.𝓡

pub own_sequence_meets :
    RoutineAlwaysMeets Node_contract.own_sequence.ended Node.own_sequence.Symbol.name Node.own_sequence.Symbol.code
    (λ κs a x e. x ≡ (state_of a.0.now).pacer.sequence)
own_sequence_meets w = Node.own_sequence.Met.met w.𝓤 w.𝓛 w.𝓜 w.𝓡

pub station_count_meets :
    RoutineAlwaysMeets Node_contract.station_count.ended Node.station_count.Symbol.name Node.station_count.Symbol.code
    (λ κs a x e. x ≡ length (state_of a.0.now).stations)
station_count_meets w = Node.station_count.Met.met w.𝓤 w.𝓛 w.𝓜 w.𝓡

-- Any numbers.
pub free_bandwidth_meets :
    RoutineAlwaysMeets bandwidth_contract.free_bandwidth.ended bandwidth.free_bandwidth.Symbol.name bandwidth.free_bandwidth.Symbol.code
    (λ κs a x e. free_as x ≡ free_bandwidth (state_of a.0.now) a.1.0 a.1.1.0 a.1.1.1.0)
free_bandwidth_meets w = bandwidth.free_bandwidth.Met.met w.𝓤 w.𝓛 w.𝓜 w.𝓡

-- Any numbers and any buffer.
pub write_block_meets :
    RoutineAlwaysMeets blocks_contract.write_block.ended blocks.write_block.Symbol.name blocks.write_block.Symbol.code
    (λ κs a x e. Wrote a.1.0 a.1.1.0 a.1.1.1.0 a.1.1.1.1.0 a.1.1.1.1.1.0 a.0.now e.0.now x)
write_block_meets w = blocks.write_block.Met.met w.𝓤 w.𝓛 w.𝓜 w.𝓡

-- Any bytes and any level.
pub read_block_meets :
    RoutineAlwaysMeets blocks_contract.read_block.ended blocks.read_block.Symbol.name blocks.read_block.Symbol.code
    (λ κs a x e. x ≡ block_at a.1.0 a.0.now)
read_block_meets w = blocks.read_block.Met.met w.𝓤 w.𝓛 w.𝓜 w.𝓡
