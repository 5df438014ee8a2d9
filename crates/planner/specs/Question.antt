-- What the program makes of what it reads. No rule stands here.
use Rattle.std.specs.Prelude.{ℕ, ◌+◌, ◌*◌, cond, List, [], length, eqb, Option, Some, None, Result, Ok, Err}
use Rattle.std.specs.Borrow.{Bor}
use Rattle.wire.specs.Fields.{word_at}
use Rattle.bandwidth.specs.Free.{Free}
use Rattle.planner.specs.declared.input.Cut.{Cut}
use Rattle.planner.specs.declared.line.Row.{Row}

-- The settings that start is handed.
abbrev pub settings_read : Result (Option (Bor (List ℕ))) Cut → List ℕ
settings_read (Ok None) = []
settings_read (Err c) = []
settings_read (Ok (Some b)) = b.now

-- The link rate of a question: four bytes of a body of eight, the lowest first. A body of another length has none in range.
unfoldable pub rate_in : List ℕ → ℕ
rate_in b = cond (eqb (length b) 8) (word_at b 2 * 65536 + word_at b 0) 4294967295

-- The answer of the rules that the numbers of a line are.
abbrev pub row_as : Row → Free
row_as n = record { result = n.result; address = n.address; ringlet0 = n.ringlet0; ringlet1 = n.ringlet1; excess = n.excess }
