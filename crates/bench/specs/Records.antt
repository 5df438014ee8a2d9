-- The fixed records of the runs. An address is 02-00-00-00-high-low.
use Rattle.std.specs.Prelude.{ℕ, ◌+◌, ◌-◌, ◌/◌, ◌%◌, cond, List, [], ◌∷◌, eqb, ltb}
use Rattle.stations.specs.Station.{farthest}

-- Level 2, address 02-00-00-00-00-01, WTR 0, hold-off 0, keepalive 50 ms, fast 10 ms, slow 2 steps of 50 ms, forget 600 steps of 100 ms.
abbrev pub settings : List ℕ
settings = 17 ∷ 0 ∷ 32 ∷ 0 ∷ 2 ∷ 2 ∷ 0 ∷ 0 ∷ 0 ∷ 0 ∷ 1 ∷ 0 ∷ 0 ∷ 0 ∷ 50 ∷ 10 ∷ 2 ∷ 88 ∷ 2 ∷ []

abbrev pub tick : List ℕ
tick = 2 ∷ 0 ∷ 1 ∷ 0 ∷ []

abbrev pub link : ℕ → ℕ → List ℕ
link span status = 4 ∷ 0 ∷ 2 ∷ 0 ∷ span ∷ status ∷ []

abbrev pub keepalive : ℕ → List ℕ
keepalive span = 3 ∷ 0 ∷ 3 ∷ 0 ∷ span ∷ []

abbrev pub operator : ℕ → ℕ → List ℕ
operator span request = 4 ∷ 0 ∷ 4 ∷ 0 ∷ span ∷ request ∷ []

-- A kind that no call takes.
abbrev pub unknown : List ℕ
unknown = 2 ∷ 0 ∷ 8 ∷ 0 ∷ []

-- So many ticks in one record.
abbrev pub ticks : ℕ → List ℕ
ticks n = 4 ∷ 0 ∷ 7 ∷ 0 ∷ (n % 256) ∷ (n / 256 % 256) ∷ []

-- Heard on the span of its ringlet, at a hop, with sequence 1, idle.
abbrev pub report : ℕ → ℕ → ℕ → ℕ → List ℕ
report ringlet hop high low =
    14 ∷ 0 ∷ 5 ∷ 0 ∷ ringlet ∷ ringlet ∷ (256 - hop) ∷ 2 ∷ 0 ∷ 0 ∷ 0 ∷ high ∷ low ∷ 1 ∷ 0 ∷ 0 ∷ []

-- Weights 3, 5 and bandwidths 1000, 0, heard on span 0.
abbrev pub attributes : ℕ → ℕ → List ℕ
attributes high low =
    23 ∷ 0 ∷ 6 ∷ 0 ∷ 0 ∷ 2 ∷ 0 ∷ 0 ∷ 0 ∷ high ∷ low ∷ 128 ∷ 1 ∷ 0 ∷ 2 ∷ 3 ∷ 5 ∷ 128 ∷ 2 ∷ 0 ∷ 4 ∷ 3 ∷ 232 ∷ 0 ∷ 0 ∷ []

-- The station in the middle of a ring; of two rings that are being joined, the last on ringlet 0, in the middle of the table.
abbrev pub middle : ℕ → ℕ
middle stations = cond (ltb farthest stations) farthest (stations / 2 + 1)

-- The record of a number, for a ring of so many stations. The new station of 3, 4 and 9 stands before all others in the table.
unfoldable pub record_of : ℕ → ℕ → List ℕ
record_of stations which =
    cond (eqb which 0) tick
    (cond (eqb which 1) (keepalive 0)
    (cond (eqb which 2) (report 0 (middle stations) 1 (middle stations))
    (cond (eqb which 3) (report 0 (stations + 1) 0 255)
    (cond (eqb which 4) (report 0 1 0 255)
    (cond (eqb which 5) (attributes 1 1)
    (cond (eqb which 6) (link 0 0)
    (cond (eqb which 7) (operator 1 0)
    (cond (eqb which 8) unknown
    (cond (eqb which 9) (report 0 1 0 255) [])))))))))
