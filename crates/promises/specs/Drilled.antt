-- A drill as a program runs it: a start, and records in the order in which they are made, each with room for a report.
use Rattle.std.specs.Prelude.{ℕ, ◌≡◌, List, reverse, map}
use Rattle.controller.specs.Node.{Started, started_with}
use Rattle.controller.specs.Promise.{Begun}
use Rattle.promises.specs.History.{Call, Made, made_of, Met}

-- The calls of the records, the latest first.
abbrev pub calls_for : List (List ℕ) → List Call
calls_for l = map (λ (b : List ℕ). record { bytes = b; room = 7 }) (reverse l)

-- st is what start answered, and h are the calls made since; each met its contract.
pub record Drilled (start : List ℕ) (l : List (List ℕ)) (st : Started) (h : List Made) : Type 0 where
  pub begun : Begun start st
  pub calls : made_of h ≡ calls_for l
  pub met : Met st h

-- A program answers as the rules do, and its calls are these.
abbrev pub Runs : List ℕ → List (List ℕ) → Type 0
Runs start l = (h : List Made) × Drilled start l (started_with start) h
