-- What demand 1 supposes does happen: closed examples for each supposition, by computation. Assumes nothing.
use mathlib.Core.Path.{◌≡◌, refl}
use mathlib.Core.List.{[], ◌∷◌, ◌++◌, map}
use Rattle.wire.specs.Fields.{address_at}
use Rattle.wire.specs.Head.{broken, head_of}
use Rattle.wire.specs.Report.{over}
use Rattle.settings.specs.Ranges.{in_range, defaults}
use Rattle.settings.specs.Reading.{fields_of, settings_in}
use Rattle.blocks.specs.Types.{knows, good, among}
use Rattle.blocks.specs.Entries.{cut}
use Rattle.blocks.specs.Meaning.{known, has, sound, behind}
use Rattle.controller.specs.State.{started}
use Rattle.controller.specs.Node.{choice_of, state_of, node_of, started_with}
use Rattle.controller.specs.Kept.{Kept}
use Rattle.controller.specs.Promise.{Begun, Recorded}
use Rattle.controller.proofs.Nodes.{answer_kept, started_with_shows, started_with_kept}
use Rattle.promises.specs.Possible.{are_bytes}
use Rattle.promises.proofs.Demand2.Possible.{are_bytes_lem}
use Rattle.promises.specs.Examples.{tick, report, attributes, settings}
use Rattle.promises.specs.Refusals.{tests, start_tests, NoneApplies, FirstApplies}
use Rattle.promises.specs.Cases.{got, due, fresh, joined, failed, alone, several, fine, buffer, begins}
use Rattle.promises.proofs.Demand1.Order.{first_of, found}

pub all_met : map got (alone ++ (several ++ fine)) ≡ map due (alone ++ (several ++ fine))
unfolding got failed cut known has sound behind knows good among
all_met = refl

-- The first test that applies, in the words of the theorems: 21 before 7 and 8.
pub first_met : FirstApplies tests (state_of failed) (attributes 3 (0 ∷ [])) 7 21
unfolding first_of tests failed
first_met = found (state_of failed) (attributes 3 (0 ∷ [])) 7 tests

pub none_met : NoneApplies tests (state_of fresh) tick 7
unfolding first_of tests fresh
none_met = found (state_of fresh) tick 7 tests

-- A node that is kept, and a call that met its contract and was refused with 8: the same node, the same buffer.
pub fresh_kept : Kept fresh
unfolding fresh are_bytes
fresh_kept = started_with_kept (settings 2 0) (are_bytes_lem (settings 2 0) refl)

pub joined_kept : Kept joined
unfolding joined are_bytes
joined_kept = answer_kept fresh (report 0 255 2 1 0 0) 7 (are_bytes_lem (report 0 255 2 1 0 0) refl) fresh_kept

pub recorded_met : Recorded joined (attributes 2 (0 ∷ [])) buffer buffer (record { node = joined; result = 8; reports = 0 })
unfolding joined cut known sound over
recorded_met = record { is = refl; shows = refl; content = refl; kept = joined_kept }

-- Start: three bytes; a tick; settings of level 3; and settings that are taken.
pub starts_met : map begins ((17 ∷ 0 ∷ 32 ∷ []) ∷ tick ∷ settings 3 0 ∷ settings 2 0 ∷ [])
    ≡ (2 ∷ 2 ∷ 4 ∷ []) ∷ (3 ∷ 3 ∷ 4 ∷ []) ∷ (4 ∷ 4 ∷ []) ∷ (0 ∷ []) ∷ []
unfolding begins broken fields_of in_range address_at
starts_met = refl

pub start_first_met : FirstApplies start_tests (state_of fresh) tick 0 3
unfolding first_of start_tests
start_first_met = found (state_of fresh) tick 0 start_tests

pub start-none_met : NoneApplies start_tests (state_of fresh) (settings 2 0) 0
unfolding first_of start_tests fields_of in_range address_at
start-none_met = found (state_of fresh) (settings 2 0) 0 start_tests

pub begun_met : Begun tick (record { node = node_of (defaults 0) (started (choice_of (defaults 0))); result = 3 })
unfolding started_with settings_in head_of broken are_bytes
begun_met = record { is = refl; shows = started_with_shows tick (are_bytes_lem tick refl); kept = started_with_kept tick (are_bytes_lem tick refl) }
