-- What the examples put on standard input, beside the records of the worked drill.
use Rattle.std.specs.Prelude.{ℕ, List, [], ◌∷◌, ◌++◌}

-- Records one behind the other.
unfoldable pub joined : List (List ℕ) → List ℕ
joined [] = []
joined (b ∷ l) = b ++ joined l

-- A question, to an address with this first byte and this last.
abbrev pub ask : ℕ → ℕ → List ℕ
ask first last = 8 ∷ 0 ∷ 40 ∷ 0 ∷ first ∷ 0 ∷ 0 ∷ 0 ∷ 0 ∷ last ∷ []
