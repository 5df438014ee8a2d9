-- "Demand 3 reads the larger table" (02, Item 6): every place is taken, and the station at the last one is behind to the smaller node, by computation. Assumes nothing.
use Prim.Native.Nat.{ℕ}
use mathlib.Core.Path.{◌≡◌, refl, sym, ◌∙◌, ap}
use mathlib.Core.Bool.{Bool, true, false, ◌&&◌, false≢true}
use mathlib.Core.List.{List, [], ◌∷◌}
use native.Mathlib.Omega.{arith}
use lib.ListN.{length}
use Rattle.wire.specs.Fields.{address_at}
use Rattle.wire.specs.Head.{broken, head_of}
use Rattle.wire.proofs.Truths.{both}
use Rattle.settings.specs.Ticks.{ticks_of}
use Rattle.settings.specs.Ranges.{in_range}
use Rattle.settings.specs.Reading.{fields_of, full_in, settings_in}
use Rattle.blocks.specs.Types.{knows, good, among}
use Rattle.blocks.specs.Entries.{cut}
use Rattle.blocks.specs.Meaning.{known, has, sound, behind, value}
use Rattle.stations.specs.Stations.{capacity}
use Rattle.controller.specs.Reading.{Reading}
use Rattle.controller.specs.Reading.{Refused, Tick, Link, Keepalive, Operator, Heard, Block}
use Rattle.controller.specs.Reading.{block_of, reading}
use Rattle.controller.specs.State.{State}
use Rattle.controller.specs.Handling.{acted}
use Rattle.controller.specs.Record.{refusal, outcome_of, outcome}
use Rattle.controller.specs.Node.{asked}
use Rattle.controller.proofs.Handing.{hearing-taken}
use Rattle.promises.specs.History.{Call, after, start_of}
use Rattle.promises.specs.Levels.{NoEight, says_behind}
use Rattle.promises.specs.Examples.{station, attributes, shown_as}
use Rattle.promises.specs.LevelDrills.{call, small, large, type_two}
use Rattle.promises.specs.Room.{crowd, two_rings}
use Rattle.promises.proofs.Demand1.Results.{given, result_of}
use Rattle.promises.proofs.Demand2.AfterKept.{choice-after}

-- A report is never malformed, so a history of reports has no 8.
unfoldable is_report : Reading → Bool
is_report (Refused k) = false
is_report Tick = false
is_report (Link n status) = false
is_report (Keepalive n) = false
is_report (Operator n request) = false
is_report (Heard n p) = true
is_report (Block n a) = false

unfoldable reports : ℕ → List Call → Bool
reports own [] = true
reports own (c ∷ h) = is_report (reading own c.bytes c.room) && reports own h

report_no_eight : (s : State) (b : List ℕ) (r : Reading) → is_report r ≡ true → (outcome_of r b s).result ≡ 8 → ⊥
unfolding is_report given
report_no_eight s b (Refused k) is e = false≢true is
report_no_eight s b Tick is e = false≢true is
report_no_eight s b (Link n status) is e = false≢true is
report_no_eight s b (Keepalive n) is e = false≢true is
report_no_eight s b (Operator n request) is e = false≢true is
report_no_eight s b (Heard n p) is e =
    let t = s.choice.ticks in
    false≢true (sym (hearing-taken t n p (acted t (Heard n p) s.spans) s.stations) ∙ ap refusal (sym (result_of s b (Heard n p)) ∙ e))
report_no_eight s b (Block n a) is e = false≢true is

reports_no_eight : (s : State) (h : List Call) → reports s.choice.address h ≡ true → NoEight s h
unfolding NoEight after outcome reports
reports_no_eight s [] e = tt
reports_no_eight s (c ∷ h) e =
    let (first, rest) = both (is_report (reading s.choice.address c.bytes c.room)) (reports s.choice.address h) e in
    (report_no_eight (after s h) (block_of c.bytes) (reading (after s h).choice.address c.bytes c.room) (rw (choice-after s h) first), reports_no_eight s h rest)

-- P9's block, of station 127, which has the last place.
abbrev pub last_aside : List Call
last_aside = call (attributes 127 type_two) ∷ two_rings

pub full_no_eight : NoEight large last_aside
unfolding NoEight reports is_report crowd after start_of settings_in head_of broken full_in fields_of in_range address_at ticks_of cut known has sound behind value knows good among reading
full_no_eight = (λ e. omega arith, reports_no_eight large two_rings refl)

pub full_levels : (length (after small last_aside).stations ≡ capacity)
    × (asked (after small last_aside) (station 127) ≡ says_behind 2)
    × (shown_as (asked (after large last_aside) (station 127)) ≡ 0 ∷ 0 ∷ 1 ∷ 1 ∷ 1000 ∷ 0 ∷ [])
unfolding crowd after asked start_of settings_in head_of broken full_in fields_of in_range address_at ticks_of cut known has sound behind value knows good among
full_levels = (refl, refl, refl)
