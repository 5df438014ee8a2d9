-- The stations and reports of the examples that are computed.
use Rattle.std.specs.Prelude.{ℕ}
use Rattle.blocks.specs.Attributes.{absent}
use Rattle.stations.specs.Station.{Station, Report, station_of}

-- A station at hop 3 of ringlet 0, by its sequence and age, and its report.
abbrev pub known : ℕ → ℕ → Station
known sequence age = station_of 2 3 0 sequence 0 0 age absent

abbrev pub report : ℕ → Report
report sequence = record { address = 2; ringlet = 0; hop = 3; sequence = sequence; west = 0; east = 0 }

-- Station 4, at hop 7 of ringlet 1, is heard at hop 5 of ringlet 0.
abbrev pub moved : Report
moved = record { address = 4; ringlet = 0; hop = 5; sequence = 11; west = 0; east = 2 }
