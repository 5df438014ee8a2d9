-- By computation: a ring of three stations, its hops, what each record answers, and what each question; and the fullest table. Assumes nothing.
use Prim.Native.Nat.{ℕ, zero, suc}
use mathlib.Core.Path.{◌≡◌, refl}
use mathlib.Core.List.{List, [], ◌∷◌}
use lib.ListN.{length, take, drop}
use Rattle.wire.specs.Fields.{address_at}
use Rattle.wire.specs.Head.{broken, head_of}
use Rattle.wire.specs.Report.{report_bytes}
use Rattle.settings.specs.Ticks.{ticks_of}
use Rattle.settings.specs.Ranges.{in_range}
use Rattle.settings.specs.Reading.{fields_of, full_in, settings_in}
use Rattle.blocks.specs.Entries.{cut}
use Rattle.blocks.specs.Types.{among, knows, good}
use Rattle.blocks.specs.Meaning.{sound, known, has, behind}
use Rattle.stations.specs.declared.station.Station.{Station}
use Rattle.stations.specs.Stations.{capacity}
use Rattle.controller.specs.Node.{Node, state_of, started_with, steering}
use Rattle.controller.specs.Record.{outcomes}
use Rattle.bench.specs.Records.{ticks, record_of}
use Rattle.bench.specs.Ring.{taken_in, taken, joined, ring_to, ring_of, parted, forced}
use Rattle.bench.specs.Runs.{told, pointed, station, addressee, standing, readied}

unfoldable pub three : Node
unfolding ring_of ring_to joined taken started_with settings_in head_of broken full_in fields_of in_range address_at ticks_of report_bytes outcomes
three = ring_of 3

-- The hops of each station, ringlet 0 first.
unfoldable pub hops : List Station → List ℕ
hops [] = []
hops (s ∷ l) = s.hop0 ∷ s.hop1 ∷ hops l

unfoldable pub addresses : List Station → List ℕ
addresses [] = []
addresses (s ∷ l) = s.address ∷ addresses l

-- What the first call of each record adds, for the numbers below n, the last first.
unfoldable pub results : ℕ → List ℕ
results zero = []
results (suc n) = told (taken (readied 3 n) (record_of 3 n)) ∷ results n

-- What each question below n adds, the last first.
unfoldable pub replies : ℕ → List ℕ
replies zero = []
replies (suc n) = pointed (steering (state_of (standing 3 n)) (addressee 3 n)) ∷ replies n

pub three-around : hops (state_of three).stations ≡ 1 ∷ 3 ∷ 2 ∷ 2 ∷ 3 ∷ 1 ∷ []
unfolding three hops
three-around = refl

-- Parted, station 1 has its hop on ringlet 0 left; the new station takes it, and station 1 leaves.
pub three-parted : hops (state_of (readied 3 9)).stations ≡ 1 ∷ 0 ∷ 2 ∷ 3 ∷ 3 ∷ 1 ∷ []
unfolding three hops readied parted
three-parted = refl

pub three-left : addresses (state_of (taken (readied 3 9) (record_of 3 9)).node).stations ≡ 2199023255807 ∷ station 2 ∷ station 3 ∷ []
unfolding three addresses readied parted record_of
three-left = refl

-- Every record is taken but the empty one, which is refused with 2, and the unknown one, with 3.
pub three-results : results 11 ≡ 2 ∷ 0 ∷ 3 ∷ 0 ∷ 0 ∷ 0 ∷ 0 ∷ 0 ∷ 0 ∷ 0 ∷ 0 ∷ []
unfolding three results readied parted record_of cut sound known among knows good has behind
three-results = refl

-- Three ticks in one record write nothing: the first report is due at the tenth.
pub three-ticks : told (taken_in 7000 three (ticks 3)) ≡ 0
unfolding three taken_in
three-ticks = refl

-- No way where both spans are forced; nobody; east (1) to the farthest on ringlet 0, over 1 hop; west (0) to the middle over 2 and to the nearest over 1. All ways are idle, so that each adds span 1.
pub three-replies : replies 5 ≡ 2 ∷ 3 ∷ 3 ∷ 3 ∷ 2 ∷ []
unfolding three replies standing forced addressee steering
three-replies = refl

-- Two rings that are being joined fill every place ..
unfoldable pub full : Node
unfolding ring_of ring_to joined taken started_with settings_in head_of broken full_in fields_of in_range address_at ticks_of report_bytes outcomes
full = ring_of capacity

pub full-count : length (state_of full).stations ≡ capacity
unfolding full
full-count = refl

-- .. and meet in the middle of the table: the last hop of ringlet 0 stands beside the first of ringlet 1.
pub full-middle : hops (take 4 (drop 61 (state_of full).stations)) ≡ 62 ∷ 0 ∷ 63 ∷ 0 ∷ 0 ∷ 1 ∷ 0 ∷ 2 ∷ []
unfolding full hops
full-middle = refl
