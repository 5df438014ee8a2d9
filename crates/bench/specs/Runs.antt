-- What the runs add up.
use Rattle.std.specs.Prelude.{ℕ, zero, suc, ◌+◌, ◌*◌, cond, List, eqb, ltb}
use Rattle.stations.specs.Stations.{capacity}
use Rattle.ways.specs.declared.choice.Steering.{Steering}
use Rattle.ways.specs.Choice.{number}
use Rattle.controller.specs.Node.{Node, Answer, Shown}
use Rattle.bandwidth.specs.Free.{Free}
use Rattle.bench.specs.Records.{middle}
use Rattle.bench.specs.Ring.{taken_in, ring_of, parted, forced}

-- The result, and 256 for each report that was written.
abbrev pub told : Answer → ℕ
told a = a.result + 256 * a.reports

-- The same record so many times, each with the same room and with the node that the one before left.
unfoldable pub carried : ℕ → List ℕ → ℕ → Node → ℕ
carried room b zero n = 0
carried room b (suc left) n = told (taken_in room n b) + carried room b left (taken_in room n b).node

-- The numbers of the answer to a question for a way: the reply, and where it names one its hops, worst request and span.
abbrev pub pointed : Steering → ℕ
pointed x = cond (ltb (number x.reply) 2) (number x.reply + x.hops + x.worst + x.span) (number x.reply)

-- The reply to a question for attributes, and the first weight.
abbrev pub weighed : Shown → ℕ
weighed x = x.reply + x.weight0

-- The result of a question for free bandwidth, and 256 for the defect.
abbrev pub freed : Free → ℕ
freed x = x.result + cond x.excess 256 0

-- 02-00-00-00-01-k as a number.
abbrev pub station : ℕ → ℕ
station k = 2199023255808 + k

-- Who is asked for: 0 the nearest on ringlet 0, 1 the middle, 2 the last, 3 nobody, any other number the middle.
unfoldable pub addressee : ℕ → ℕ → ℕ
addressee stations which =
    cond (eqb which 0) (station 1)
    (cond (eqb which 1) (station (middle stations))
    (cond (eqb which 2) (station stations)
    (cond (eqb which 3) (station 255) (station (middle stations)))))

-- The node that is asked: from 4 on with no way open.
unfoldable pub standing : ℕ → ℕ → Node
standing stations which = cond (ltb which 4) (ring_of stations) (forced (ring_of stations))

-- The node that takes the record of a number: for 9 the station at hop 1 has that hop alone.
unfoldable pub readied : ℕ → ℕ → Node
readied stations which = cond (eqb which 9) (parted stations (ring_of stations)) (ring_of stations)

-- The bytes of a node: its settings, two spans and the pacer; 24 a place, and the number of stations.
abbrev pub node_bytes : ℕ
node_bytes = 24 + 2 * 16 + 8 + (24 * capacity + 8)
