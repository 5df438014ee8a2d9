-- The drills at which the wrong programs are caught can be run, by computation. Assumes nothing.
use mathlib.Core.Path.{◌≡◌, refl}
use mathlib.Core.Bool.{true}
use mathlib.Core.List.{List, [], ◌∷◌}
use Prim.Native.Nat.{ℕ}
use Rattle.promises.specs.Examples.{tick, link, report, settings, p7, p10, p11, p12}
use Rattle.promises.specs.Possible.{are_bytes, all_bytes}
use Rattle.promises.specs.Drilled.{calls_for, Runs}
use Rattle.promises.proofs.Demand2.Possible.{are_bytes_lem, all_bytes_lem}
use Rattle.promises.proofs.Demand2.Drilling.{drill_runs}

runs : (start : List ℕ) (l : List (List ℕ)) → are_bytes start ≡ true → all_bytes (calls_for l) ≡ true → Runs start l
runs start l bytes all = drill_runs start l (are_bytes_lem start bytes) (all_bytes_lem (calls_for l) all)

pub one_record : Runs (settings 2 0) (link 0 2 ∷ []) × Runs (settings 2 0) (tick ∷ []) × Runs (settings 2 0) (report 0 255 2 1 0 0 ∷ [])
unfolding are_bytes all_bytes
one_record = (
  runs (settings 2 0) (link 0 2 ∷ []) refl refl,
  runs (settings 2 0) (tick ∷ []) refl refl,
  runs (settings 2 0) (report 0 255 2 1 0 0 ∷ []) refl refl,
)

pub two_records : Runs (settings 2 0) (link 0 2 ∷ link 0 0 ∷ [])
unfolding are_bytes all_bytes
two_records = runs (settings 2 0) (link 0 2 ∷ link 0 0 ∷ []) refl refl

pub blocks_heard : Runs p7.start p7.records × Runs p10.start p10.records
unfolding are_bytes all_bytes
blocks_heard = (runs p7.start p7.records refl refl, runs p10.start p10.records refl refl)

pub rings : Runs p11.start p11.records × Runs p12.start p12.records
unfolding are_bytes all_bytes
rings = (runs p11.start p11.records refl refl, runs p12.start p12.records refl refl)
