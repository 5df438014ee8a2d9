-- Free bandwidth per ringlet. 02, Item 1: "The replication planner wants to know how much of a ringlet is still unreserved. New part: from the link rate (0
-- to 65,535 in the same unit as type 2), the node's own reservations and the table, give for each ringlet the rate minus all reservations, every station
-- counted once, on open and closed rings alike (source document 000, equation 10.6). The result may be below zero; below zero on either ringlet is the
-- excess-reserved defect. Refusals: 31 if a station is behind, with the lowest such address; before it, 4 for a link rate out of range, then 32 at level 1;
-- refused, both numbers are 0." It replaces nothing of 01.
use Rattle.std.specs.Prelude.{ℕ, ◌+◌, Bool, false, not, cond, ◌||◌, List, [], ◌∷◌, ℤ, pos, ◌-ℤ◌, eqb, ltb, Result, Ok, Err}
use Rattle.std.proofs.Math.Option.{Option, none, some}
use Rattle.std.specs.Int.Signed.{lt_z}
use Rattle.blocks.specs.Types.{bandwidths, among}
use Rattle.stations.specs.declared.station.Station.{Station}
use Rattle.controller.specs.State.{State}
use Rattle.bandwidth.specs.declared.free.Free.{Free as Left}
pub use Rattle.bandwidth.specs.declared.free.Unanswered.{Unanswered}
pub use Rattle.bandwidth.specs.declared.free.Unanswered.TheVariants.{RateTooHigh, LevelTooLow, Behind}

-- The answer: a number, 0 or that of a refusal, the address that 31 comes with, what is left of each ringlet, and the excess-reserved defect.
pub record Free : Type 0 where
  pub result : ℕ
  pub address : ℕ
  pub ringlet0 : ℤ
  pub ringlet1 : ℤ
  pub excess : Bool

-- What a station has reserved on a ringlet.
abbrev pub reservation : ℕ → Station → ℕ
reservation ringlet s = cond (eqb ringlet 0) s.reserved0 s.reserved1

-- "every station counted once, on open and closed rings alike": whatever its hops.
unfoldable pub reservations : ℕ → List Station → ℕ
reservations ringlet [] = 0
reservations ringlet (s ∷ l) = reservation ringlet s + reservations ringlet l

-- "the rate minus all reservations", the own among them: the equation's link rate less its sum.
unfoldable pub unreserved : ℕ → ℕ → ℕ → List Station → ℤ
unfolding reservations
unreserved ringlet rate own l = pos rate -ℤ pos (own + reservations ringlet l)

abbrev pub below_zero : ℤ → Bool
below_zero z = lt_z z (pos 0)

-- "with the lowest such address": the stations are in ascending order.
unfoldable pub first_behind : List Station → Option ℕ
first_behind [] = none
first_behind (s ∷ l) = cond s.behind (some s.address) (first_behind l)

-- "refused, both numbers are 0": so is the address, save for 31, and there is no defect.
abbrev pub refused : ℕ → ℕ → Free
refused number address = record { result = number; address = address; ringlet0 = pos 0; ringlet1 = pos 0; excess = false }

-- "below zero on either ringlet is the excess-reserved defect".
abbrev pub answered : ℤ → ℤ → Free
answered ringlet0 ringlet1 = record {
  result = 0;
  address = 0;
  ringlet0 = ringlet0;
  ringlet1 = ringlet1;
  excess = below_zero ringlet0 || below_zero ringlet1;
}

-- 01: "Whenever an answer is an enum, a definition gives this paper's number and values for each of the enum's cases."
abbrev pub number : Unanswered → ℕ
number RateTooHigh = 4
number LevelTooLow = 32
number (Behind address) = 31

abbrev pub lowest : Unanswered → ℕ
lowest RateTooHigh = 0
lowest LevelTooLow = 0
lowest (Behind address) = address

abbrev pub free_as : Result Left Unanswered → Free
free_as (Ok x) = answered x.ringlet0 x.ringlet1
free_as (Err u) = refused (number u) (lowest u)

abbrev pub unless_behind : Option ℕ → Free → Free
unless_behind none x = x
unless_behind (some address) x = refused 31 address

-- Level 1 is the one that does not know type 2.
abbrev pub knows_bandwidths : State → Bool
knows_bandwidths s = among bandwidths.number s.choice.known

-- own0 and own1 are "the node's own reservations".
unfoldable pub free_bandwidth : State → ℕ → ℕ → ℕ → Free
unfolding first_behind unreserved
free_bandwidth s rate own0 own1 =
    cond (ltb 65535 rate) (refused 4 0)
    (cond (not (knows_bandwidths s)) (refused 32 0)
    (unless_behind (first_behind s.stations)
    (answered (unreserved 0 rate own0 s.stations) (unreserved 1 rate own1 s.stations))))
