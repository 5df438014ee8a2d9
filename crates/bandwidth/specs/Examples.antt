-- Small tables, and answers with every field, for the examples.
use Rattle.std.specs.Prelude.{ℕ, Bool, false, List, [], ◌∷◌, ℤ}
use Rattle.blocks.specs.Types.{knows}
use Rattle.blocks.specs.Attributes.{behind_with}
use Rattle.stations.specs.declared.station.Station.{Station}
use Rattle.stations.specs.Station.{station_of}
use Rattle.controller.specs.State.{State}
use Rattle.bandwidth.specs.Free.{Free}

-- A station at these hops that has reserved so much of ringlets 0 and 1.
abbrev pub station : ℕ → ℕ → ℕ → ℕ → ℕ → Station
station address hop0 hop1 reserved0 reserved1 =
    station_of address hop0 hop1 0 0 0 0
    (record { behind = false; kind = 0; weight0 = 1; weight1 = 1; reserved0 = reserved0; reserved1 = reserved1 })

-- One that is behind, with a type 3.
abbrev pub late : ℕ → Station
late address = station_of address 1 0 0 0 0 0 (behind_with 3)

-- A state with these stations at this level; the rest is that of s.
abbrev pub holding : State → ℕ → List Station → State
holding s level l = record {
  choice = record { address = s.choice.address; known = knows level; ticks = s.choice.ticks };
  spans = s.spans;
  stations = l;
  pacer = s.pacer;
}

-- Nothing refused.
abbrev pub left : ℤ → ℤ → Bool → Free
left ringlet0 ringlet1 excess = record { result = 0; address = 0; ringlet0 = ringlet0; ringlet1 = ringlet1; excess = excess }

-- Three stations on a closed ring: each is heard on both ringlets ..
abbrev pub closed_ring : List Station
closed_ring = station 2 1 3 100 10 ∷ station 3 2 2 200 20 ∷ station 4 3 1 300 30 ∷ []

-- .. and the same three on an open one, cut between 3 and 4: each is heard on one.
abbrev pub open_ring : List Station
open_ring = station 2 1 0 100 10 ∷ station 3 2 0 200 20 ∷ station 4 0 1 300 30 ∷ []
