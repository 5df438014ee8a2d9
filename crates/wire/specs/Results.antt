-- What a record is answered. 01, Numbers returned for a record.
use Rattle.std.specs.Prelude.{ℕ, Result, Ok, Err}
pub use Rattle.wire.specs.declared.results.Refusal.{Refusal}
pub use Rattle.wire.specs.declared.results.Refusal.TheVariants.{NoRoom, Broken, WrongKind, Unfit, OwnAddress, HopTooHigh, NotInTable, Malformed}
pub use Rattle.wire.specs.declared.results.Taken.{Taken}
pub use Rattle.wire.specs.declared.results.Taken.TheVariants.{Stored, WrongRinglet, SpanDown, OldReport, SetAside}

-- 01: "Whenever an answer is an enum, a definition gives this paper's number and values for each of the enum's cases."
-- "1 to 8 are refusals": output room below 7 bytes; a head that is wrong; a kind not of this call; a body that does not fit; the own address
-- heard; a hop above 63; a station not in the table; a block that is malformed.
abbrev pub refusal_number : Refusal → ℕ
refusal_number NoRoom = 1
refusal_number Broken = 2
refusal_number WrongKind = 3
refusal_number Unfit = 4
refusal_number OwnAddress = 5
refusal_number HopTooHigh = 6
refusal_number NotInTable = 7
refusal_number Malformed = 8

-- 0 taken, 20 ringlet differs from span, 21 span down, 22 an old report, 24 a block set aside.
abbrev pub taken_number : Taken → ℕ
taken_number Stored = 0
taken_number WrongRinglet = 20
taken_number SpanDown = 21
taken_number OldReport = 22
taken_number SetAside = 24

abbrev pub number : Result Taken Refusal → ℕ
number (Ok t) = taken_number t
number (Err r) = refusal_number r
