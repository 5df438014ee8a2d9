-- The young stay; where all are young, all stay. Assumes nothing.
use Rattle.std.proofs.Common.{rules, tests}
use Rattle.arrayvec.proofs.ArrayVecLemmas.{filter-from_retain}
use Rattle.stations.specs.Stations.{young}
use Rattle.stations.proofs.age.drop_old.Goals as goal

pub returns-then-not-are_young : goal.returns-then-not-are_young
returns-then-not-are_young c = filter-from_retain _ (young c.args.forget) _ (λ x b g y k. search (rules, tests)) _ _ c.retain.ensures.filtered
