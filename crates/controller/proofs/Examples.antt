-- The worked drill of 01, from its settings record, by computation: the reports that it writes; that room is tested before all else; and the reports of many ticks. Assumes nothing.
use Prim.Native.Nat.{ℕ}
use mathlib.Core.Path.{◌≡◌, refl}
use mathlib.Core.List.{[], ◌∷◌, ◌++◌}
use Rattle.wire.specs.Fields.{address_at}
use Rattle.wire.specs.Head.{broken, head_of}
use Rattle.wire.specs.Report.{report_bytes}
use Rattle.settings.specs.Ticks.{ticks_of}
use Rattle.settings.specs.Ranges.{in_range}
use Rattle.settings.specs.Reading.{fields_of, full_in, settings_in}
use Rattle.stations.specs.Table.{blank}
use Rattle.controller.specs.Reading.{Refused, reading}
use Rattle.controller.specs.Record.{outcomes}
use Rattle.controller.specs.Node.{state_of, started_with}
use Rattle.controller.specs.Drill.{reports, settings_record, records}

pub drill_starts : (started_with settings_record).result ≡ 0
unfolding started_with settings_in head_of broken full_in fields_of in_range address_at
drill_starts = refl

pub drill-reports : reports (started_with settings_record).node records
    ≡ (5 ∷ 0 ∷ 16 ∷ 0 ∷ 1 ∷ 4 ∷ 0 ∷ []) ∷ (5 ∷ 0 ∷ 16 ∷ 0 ∷ 2 ∷ 0 ∷ 0 ∷ []) ∷ [] ∷ [] ∷ [] ∷ (5 ∷ 0 ∷ 16 ∷ 0 ∷ 3 ∷ 2 ∷ 0 ∷ [])
    ∷ (5 ∷ 0 ∷ 16 ∷ 0 ∷ 4 ∷ 3 ∷ 0 ∷ []) ∷ [] ∷ []
unfolding reports started_with settings_in head_of broken full_in fields_of in_range address_at ticks_of blank report_bytes
drill-reports = refl

-- 1 before 2: no byte of a record, and a room of six.
pub room_first : (own : ℕ) → reading own [] 6 ≡ Refused 1
unfolding reading broken
room_first own = refl

-- 02, Item 4: thirty ticks in one record, with room for as many reports. Each has its closing steps, so that the 10th, the 20th and the 30th write one.
pub many-reports : (outcomes (state_of (started_with settings_record).node) (4 ∷ 0 ∷ 7 ∷ 0 ∷ 30 ∷ 0 ∷ []) 210).report
    ≡ report_bytes 0 0 0 ++ (report_bytes 0 0 0 ++ report_bytes 0 0 0)
unfolding outcomes started_with settings_in head_of broken full_in fields_of in_range address_at ticks_of blank report_bytes
many-reports = refl
