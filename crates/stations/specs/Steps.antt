-- What the helpers of the table answer. No rule stands here.
use Rattle.std.specs.Prelude.{◌≡◌, ℕ, suc, ◌+◌, ◌^◌, ◌<◌, Bool, true, cond, not, ◌||◌, List, [], ◌∷◌, length, ◌==◌, ◌≢◌, nat_lt, slice_index_or, Option, Some, None}
use Rattle.stations.specs.Station.{Station, Report, hop}
use Rattle.stations.specs.Stations.{undisplaced, losing}
use Rattle.stations.specs.Table.{blank}

-- A station that a purge of the ringlet changes or drops: it has a hop there, or none on the other.
abbrev pub purgeable : ℕ → Station → Bool
purgeable ringlet s = not (hop ringlet s == 0) || cond (ringlet == 0) s.hop1 s.hop0 == 0

-- How many stations stand before the place of an address.
unfoldable pub rank_of : ℕ → List Station → ℕ
rank_of a [] = 0
rank_of a (s ∷ l) = cond (nat_lt s.address a) (suc (rank_of a l)) 0

-- Step (e) leaves a station as it is.
abbrev pub Spared : Report → Station → Type 0
Spared p s = (undisplaced p s ≡ true) × (losing p s ≡ s)

-- Step (e) leaves every station as it is, but for the one at a place.
abbrev pub Sole : Report → ℕ → List Station → Type 0
Sole p o l = (i : ℕ) → i < length l → (i ≢ o) → Spared p (slice_index_or l i blank)

-- .. or every one, where no place is told.
abbrev pub Alone : Report → Option ℕ → List Station → Type 0
Alone p None l = Sole p (length l) l
Alone p (Some o) l = (o < length l) × Sole p o l

abbrev pub at_hop : Report → Station → Bool
at_hop p s = hop p.ringlet s == p.hop

-- There is room for one tick more.
abbrev pub Young : Station → Type 0
Young s = s.age + 1 < 2 ^ 16
