-- The ring of p11 and p12, heard through reports.
use Rattle.std.specs.Prelude.{ℕ, List, [], ◌∷◌}
use Rattle.spans.specs.Codes.{IDLE}
use Rattle.stations.specs.Hearing.{placed}
use Rattle.stations.specs.declared.station.Station.{Station}
use Rattle.stations.specs.declared.station.Report.{Report}

-- The ring from A, address 2: west of it B, C and D, and east of it D, C and B.
abbrev pub B : ℕ
B = 4

abbrev pub C : ℕ
C = 6

abbrev pub D : ℕ
D = 8

-- A report of a station at a hop of a ringlet, idle in the east.
abbrev pub report : ℕ → ℕ → ℕ → ℕ → Report
report address ringlet hop west = record { address = address; ringlet = ringlet; hop = hop; sequence = 1; west = west; east = IDLE }

-- What B and C request in the west; all else is idle. Each station is heard on both ringlets.
abbrev pub reports : ℕ → ℕ → List Report
reports b c =
    report B 0 1 b ∷ report C 0 2 c ∷ report D 0 3 IDLE ∷ report D 1 1 IDLE ∷ report C 1 2 c ∷ report B 1 3 b ∷ []

unfoldable pub heard : List Report → List Station → List Station
unfolding placed
heard [] l = l
heard (p ∷ ps) l = heard ps (placed p l).stations

-- The stations that A has heard.
unfoldable pub ring : ℕ → ℕ → List Station
unfolding heard
ring b c = heard (reports b c) []
