-- The station handed on, put in at the place reached, makes the stations with the given one behind them. Assumes nothing.
use Rattle.std.proofs.Common.{◌≡◌, ◌∷◌, [], ◌++◌}
use Rattle.std.specs.List.{insert}
use Rattle.stations.proofs.shift.hand_down.Given as goal

abbrev pub invariant-loop-i : goal.invariant-loop-i
invariant-loop-i l = insert l.places l.i l.moved ≡ l.fn.places ++ (l.fn.s ∷ [])
