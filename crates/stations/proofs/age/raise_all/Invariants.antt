-- Those passed are a tick older, and the others as they were. Assumes nothing.
use Rattle.std.proofs.Common.{◌≡◌, ◌++◌, map, take, drop}
use Rattle.stations.specs.Station.{older}
use Rattle.stations.proofs.age.raise_all.Given as goal

abbrev pub invariant-loop-s : goal.invariant-loop-s
invariant-loop-s l = l.s-items ≡ map older (take l.s-index l.fn.stations) ++ drop l.s-index l.fn.stations
