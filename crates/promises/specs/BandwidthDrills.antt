-- Histories after which the free bandwidth is asked for.
use Rattle.std.specs.Prelude.{ℕ, zero, suc, ◌-◌, false, cond, List, [], ◌∷◌, leb}
use Rattle.stations.specs.declared.station.Station.{Station}
use Rattle.stations.specs.Station.{farthest, station_of}
use Rattle.stations.specs.Stations.{capacity}
use Rattle.controller.specs.State.{Choice, State, started}
use Rattle.promises.specs.History.{Call}
use Rattle.promises.specs.Levels.{knowing}
use Rattle.promises.specs.Bandwidth.{with_stations}
use Rattle.promises.specs.Possible.{Handed}
use Rattle.promises.specs.Examples.{station, report, attributes}
use Rattle.promises.specs.LevelDrills.{call, joined, room}
use Rattle.promises.specs.SteeringDrills.{one}

-- The types of level 2; and node 1 of the examples, with a type 3 besides.
abbrev pub fewer : List ℕ
fewer = 1 ∷ 2 ∷ []

abbrev pub larger : Choice
larger = knowing (1 ∷ 2 ∷ 3 ∷ []) one

-- Type 3, mandatory and of one byte; then type 2: 700 on ringlet 0 and 400 on ringlet 1.
abbrev pub three_and_two : List ℕ
three_and_two = 0x80 ∷ 3 ∷ 0 ∷ 1 ∷ 7 ∷ 0x80 ∷ 2 ∷ 0 ∷ 4 ∷ 2 ∷ 0xbc ∷ 1 ∷ 0x90 ∷ []

abbrev pub thirds : List Call
thirds = call (attributes 2 three_and_two) ∷ joined

-- P7's weights; then the same type 2.
abbrev pub one_and_two : List ℕ
one_and_two = 0x80 ∷ 1 ∷ 0 ∷ 2 ∷ 3 ∷ 5 ∷ 0x80 ∷ 2 ∷ 0 ∷ 4 ∷ 2 ∷ 0xbc ∷ 1 ∷ 0x90 ∷ []

abbrev pub seconds : List Call
seconds = call (attributes 2 one_and_two) ∷ thirds

-- The block of types 1 and 2 as a program hands it over.
abbrev pub given : List Handed
given = record { bytes = attributes 2 one_and_two; old = room } ∷ record { bytes = report 0 255 2 1 0 0; old = room } ∷ []

-- The hops of the k-th of them: ringlet 0 is filled first, then ringlet 1.
abbrev pub hop_on0 : ℕ → ℕ
hop_on0 k = cond (leb k farthest) k 0

abbrev pub hop_on1 : ℕ → ℕ
hop_on1 k = cond (leb k farthest) 0 (k - farthest)

-- Stations from the k-th on, n of them, each of which reserves all that it can on both ringlets.
unfoldable pub reserving : ℕ → ℕ → List Station
reserving k zero = []
reserving k (suc n) =
    station_of (station (suc k)) (hop_on0 k) (hop_on1 k) 1 0 0 0
    (record { behind = false; kind = 0; weight0 = 1; weight1 = 1; reserved0 = 65535; reserved1 = 65535 })
    ∷ reserving (suc k) n

-- Node 1 with as many of them as there are places.
abbrev pub fullest : State
fullest = with_stations (reserving 1 capacity) (started one)
