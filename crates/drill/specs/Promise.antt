-- The promises of the drill's functions. No rule stands here.
use Rattle.std.specs.Prelude.{ℕ, ◌+◌, ◌*◌, ◌≤◌, ◌≡◌, Bool, true, false, Option, Some, None, Result, Ok, Err, List, [], ◌∷◌, ◌++◌, length}
use Rattle.std.specs.Borrow.{Bor}
use Rattle.std.specs.declared.ops.ControlFlow.{ControlFlow}
use Rattle.std.specs.declared.ops.ControlFlow.TheVariants.{Continue, Break}
use Rattle.arrayvec.specs.ArrayVec.{ArrayVec}
use Rattle.controller.specs.Node.{Node}
use Rattle.drill.specs.Text.{space, decimal}
use Rattle.drill.specs.Turns.{Read, nothing, cut, whole, Step, goes_on, ends, turned, passed}
use Rattle.drill.specs.Input.{first_of}
use Rattle.drill.specs.declared.input.Cut.{Cut}

-- A number with a byte behind it, put at the end of a line.
abbrev pub Number : ℕ → ℕ → List ℕ → List ℕ → Type 0
Number n b old new = (new ≡ old ++ (decimal n ++ (b ∷ []))) × (length new ≤ length old + 21)

-- Numbers with a space behind each.
abbrev pub spaced : List ℕ → List ℕ
spaced [] = []
spaced (n ∷ l) = decimal n ++ (space ∷ spaced l)

abbrev pub Spaced : List ℕ → List ℕ → List ℕ → Type 0
Spaced ns old new = (new ≡ old ++ spaced ns) × (length new ≤ length old + 21 * length ns)

-- What was read.
abbrev pub read_as : Result (Option (Bor (List ℕ))) Cut → Read
read_as (Ok None) = nothing
read_as (Err c) = cut
read_as (Ok (Some b)) = whole b.now

-- A whole record is the first one in what was read.
abbrev pub First : Result (Option (Bor (List ℕ))) Cut → Type 0
First (Ok None) = Unit {0}
First (Err c) = Unit {0}
First (Ok (Some b)) = first_of b.now ≡ whole b.now

-- The step that leaves this node, gives this line and goes on or ends.
abbrev pub step_in : Node → ControlFlow (ArrayVec ℕ) (ArrayVec ℕ) → Step
step_in n (Continue line) = goes_on n line.items
step_in n (Break line) = ends n line.items

-- The line of a step.
abbrev pub text_of : ControlFlow (ArrayVec ℕ) (ArrayVec ℕ) → List ℕ
text_of (Continue line) = line.items
text_of (Break line) = line.items

-- A turn of the program from a node n, which becomes m, at a number: the step of something that was read.
pub record Taken (k : ℕ) (n m : Node) (r : ControlFlow (ArrayVec ℕ) (ArrayVec ℕ)) : Type 0 where
  pub read : Read
  pub is : step_in m r ≡ turned k n read

-- Before each of the reads, the latest first, the drill was to go on.
abbrev pub WentOn : Node → List Read → Type 0
WentOn n [] = Unit {0}
WentOn n (w ∷ l) = ((passed n l).more ≡ true) × WentOn n l

-- The number of the last record that was looked for: the one that ended the drill, or the last of the numbers of 64 bits.
abbrev pub last_number : Option ℕ → ℕ
last_number (Some k) = k
last_number None = 18446744073709551615

-- Whether the drill was to go on.
abbrev pub more_after : Option ℕ → Bool
more_after (Some k) = false
more_after None = true

-- A run from a node n, which has become m: one step after the other on what was read, until one ends it or the numbers of 64 bits do.
pub record Ran (n m : Node) (r : Option ℕ) : Type 0 where
  pub reads : List Read
  pub left : m ≡ (passed n reads).node
  pub counted : last_number r ≡ length reads
  pub is : more_after r ≡ (passed n reads).more
  pub on : WentOn n reads
