-- The ring that every run starts from: a node and the stations around it, heard both ways; or, of more stations than hops, two rings that are being joined.
use Rattle.std.specs.Prelude.{ℕ, zero, suc, ◌+◌, ◌-◌, cond, List, eqb, ltb}
use Rattle.stations.specs.Station.{farthest}
use Rattle.stations.specs.Stations.{capacity}
use Rattle.controller.specs.Record.{outcomes}
use Rattle.controller.specs.Node.{Node, Answer, state_of, started_with, answer_of}
use Rattle.bench.specs.Records.{settings, operator, report}

-- A record taken, with so much room; and with room for the seven bytes of a report.
unfoldable pub taken_in : ℕ → Node → List ℕ → Answer
taken_in room n b = answer_of n (outcomes (state_of n) b room)

unfoldable pub taken : Node → List ℕ → Answer
unfolding taken_in
taken n b = taken_in 7 n b

-- A number above that of the places counts as that.
abbrev pub capped : ℕ → ℕ
capped n = cond (ltb capacity n) capacity n

-- Station k of a ring, 02-00-00-00-01-k, stands at hop k on ringlet 0 and at hop stations + 1 - k on ringlet 1.
unfoldable pub around : ℕ → ℕ → Node → Node
around stations k n = (taken (taken n (report 0 k 1 k)).node (report 1 (stations + 1 - k) 1 k)).node

-- Station k of two rings that are being joined: the first 63 stand on ringlet 0 alone, the others on ringlet 1 alone.
unfoldable pub alone : ℕ → Node → Node
alone k n = cond (ltb farthest k) (taken n (report 1 (k - farthest) 1 k)).node (taken n (report 0 k 1 k)).node

unfoldable pub joined : ℕ → ℕ → Node → Node
unfolding around alone
joined stations k n = cond (ltb farthest stations) (alone k n) (around stations k n)

-- The node when the first k stations were heard.
unfoldable pub ring_to : ℕ → ℕ → Node
ring_to stations zero = (started_with settings).node
ring_to stations (suc k) = joined stations (suc k) (ring_to stations k)

unfoldable pub ring_of : ℕ → Node
ring_of stations = ring_to stations stations

-- Station 2 takes the hop of station 1 on ringlet 1: station 1 has its hop on ringlet 0 left and no other. With more stations than hops it has no other anyway, and the report is refused.
unfoldable pub parted : ℕ → Node → Node
parted stations n = (taken n (report 1 (cond (eqb stations 0) 1 stations) 1 2)).node

-- FS from the operator on both spans: no way is open.
unfoldable pub forced : Node → Node
forced n = (taken (taken n (operator 0 5)).node (operator 1 5)).node
