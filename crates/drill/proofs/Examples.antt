-- The worked drill of 01 from its very bytes to its very lines, and the ends of a drill, by computation. Assumes nothing.
use mathlib.Core.Path.{◌≡◌, refl}
use mathlib.Core.List.{[], ◌∷◌, ◌++◌}
use Rattle.wire.specs.Fields.{address_at}
use Rattle.wire.specs.Head.{broken, head_of}
use Rattle.wire.specs.Report.{report_bytes}
use Rattle.settings.specs.Ticks.{ticks_of}
use Rattle.settings.specs.Ranges.{in_range}
use Rattle.settings.specs.Reading.{fields_of, full_in, settings_in}
use Rattle.drill.specs.Text.{ascii, decimal, rows}
use Rattle.controller.specs.Drill.{settings_at, settings_record, report, tick, records}
use Rattle.drill.specs.Input.{output}
use Rattle.drill.specs.Examples.{joined, ask}

-- Numbers of one digit, of several, and the greatest of 64 bits.
pub decimal_0 : decimal 0 ≡ ascii "0"
unfolding decimal ascii
decimal_0 = refl

pub decimal_1033 : decimal 1033 ≡ ascii "1033"
unfolding decimal ascii
decimal_1033 = refl

pub decimal-most : decimal 18446744073709551615 ≡ ascii "18446744073709551615"
unfolding decimal ascii
decimal-most = refl

-- 01's settings and records, one behind the other; 01's lines.
pub worked : output (joined (settings_record ∷ records))
    ≡ rows
    ("1 0 4 0 1 0 1"
    ∷ "2 0 0 0 2 0 1"
    ∷ "3 0 0 0 2 1 0"
    ∷ "4 0 0 0 2 1 0"
    ∷ "5 22 0 0 2 1 0"
    ∷ "6 0 2 0 3 1 1"
    ∷ "7 0 3 0 4 1 1"
    ∷ "8 0 3 0 4 1 0"
    ∷ [])
unfolding output rows joined settings_in head_of broken full_in fields_of in_range address_at ticks_of report_bytes
worked = refl

-- Questions: of a station that was heard, of one that was not, with an odd first byte, with a body of 1; then a kind that is no event.
pub asked : output (settings_record ++ report 7 ++ ask 2 2 ++ ask 2 3 ++ ask 1 2 ++ (3 ∷ 0 ∷ 40 ∷ 0 ∷ 9 ∷ []) ++ (2 ∷ 0 ∷ 16 ∷ 0 ∷ []))
    ≡ rows ("1 0 0 0 0 1 0" ∷ "2 way 0 1 0 1" ∷ "3 way 3 0 0 0" ∷ "4 4" ∷ "5 4" ∷ "6 3 0 0 0 1 0" ∷ [])
unfolding output rows settings_in head_of broken full_in fields_of in_range address_at ticks_of report_bytes
asked = refl

-- Thirty ticks in one record: a report at the 10th, 20th and 30th, each with the sequence as it was; then no tick at all, which is refused.
pub many-ticks : output (settings_record ++ (4 ∷ 0 ∷ 7 ∷ 0 ∷ 30 ∷ 0 ∷ []) ++ (4 ∷ 0 ∷ 7 ∷ 0 ∷ 0 ∷ 0 ∷ []))
    ≡ rows ("1 0 0 0 0 0 3" ∷ "2 4 0 0 0 0 0" ∷ [])
unfolding output rows settings_in head_of broken full_in fields_of in_range address_at ticks_of report_bytes
many-ticks = refl

-- A cut record, and a length of 1: the number and 2, and the end, whatever follows.
pub cut_short : output (settings_record ++ tick ++ (4 ∷ 0 ∷ 2 ∷ 0 ∷ [])) ≡ rows ("1 0 0 0 0 0 0" ∷ "2 2" ∷ [])
unfolding output rows settings_in head_of broken full_in fields_of in_range address_at ticks_of report_bytes
cut_short = refl

pub length_1 : output (settings_record ++ (1 ∷ 0 ∷ 1 ∷ 0 ∷ []) ++ tick) ≡ rows ("1 2" ∷ [])
unfolding output rows settings_in head_of broken full_in fields_of in_range address_at ticks_of report_bytes
length_1 = refl

-- Settings alone, no input, settings that are cut, of another kind, with a level of 3.
pub settings-alone : output settings_record ≡ []
unfolding output rows settings_in head_of broken full_in fields_of in_range address_at ticks_of report_bytes
settings-alone = refl

pub no_input : output [] ≡ rows ("settings 2" ∷ [])
unfolding output rows
no_input = refl

pub settings-cut : output (8 ∷ 0 ∷ 33 ∷ []) ≡ rows ("settings 2" ∷ [])
unfolding output rows
settings-cut = refl

pub settings_kind : output (ask 2 2 ++ tick) ≡ rows ("settings 3" ∷ [])
unfolding output rows settings_in head_of broken
settings_kind = refl

pub settings_range : output (settings_at 3 ++ tick) ≡ rows ("settings 4" ∷ [])
unfolding output rows settings_in head_of broken full_in fields_of in_range address_at ticks_of report_bytes
settings_range = refl
