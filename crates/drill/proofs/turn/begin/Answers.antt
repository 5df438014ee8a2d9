-- A start of what was read: taken, or refused with its number. Assumes nothing.
use mathlib.Core.Path.{refl, sym}
use Rattle.drill.specs.Turns.{begun_with}
use Rattle.drill.proofs.Stepping.{begun_by, begun_refused}
use Rattle.drill.proofs.turn.begin.Goals as goal

pub returns-in-Ok : goal.returns-in-Ok
unfolding begun_with
returns-in-Ok c =
    rw (c.new.ensures, begun_by c.args.read _ c.unwrap_or.ensures c.unwrap_or-settings.ensures refl c.start.ensures.is, c.in-Ok.is)

pub returns-in-Err : goal.returns-in-Err
returns-in-Err c =
    rw (c.settings.ensures, begun_by c.args.read _ c.unwrap_or.ensures c.unwrap_or-settings.ensures refl c.start.ensures.is, c.in-Err.is)
    (sym (begun_refused _ _))
