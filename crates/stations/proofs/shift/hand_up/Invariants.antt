-- The station handed on, put in at the place reached, makes the stations with the given one before them. Assumes nothing.
use Rattle.std.proofs.Common.{◌≡◌, ◌∷◌}
use Rattle.std.specs.List.{insert}
use Rattle.stations.proofs.shift.hand_up.Given as goal

abbrev pub invariant-loop-place : goal.invariant-loop-place
invariant-loop-place l = insert l.place-items l.place-index l.moved ≡ l.fn.s ∷ l.fn.places
