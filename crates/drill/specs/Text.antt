-- Text as bytes: ASCII codes, decimal numbers, and a line of fields. 01, The drill program; one space between fields and LF after each line, as in its worked drill.
use Rattle.std.specs.Prelude.{ℕ, zero, suc, ◌+◌, ◌/◌, ◌%◌, ◌≡◌, List, [], ◌∷◌, ◌++◌}
use Prim.Native.Char.{code}
use Prim.Native.String.{String, [] as empty, ◌∷◌ as ◌then◌}

-- The codes of a text.
unfoldable pub ascii : String → List ℕ
ascii empty = []
ascii (c then s) = code c ∷ ascii s

abbrev pub space : ℕ
space = 32

abbrev pub LF : ℕ
LF = 10

abbrev pub digit : ℕ → ℕ
digit d = 48 + d

-- The digits of a number, the highest first, until nothing of it is left; at most k of them.
unfoldable pub digits_of : ℕ → ℕ → List ℕ
digits_of zero n = []
digits_of (suc k) zero = []
digits_of (suc k) (suc m) = digits_of k (suc m / 10) ++ (digit (suc m % 10) ∷ [])

-- The decimal text of a number. A number has no more digits than it counts.
unfoldable pub decimal : ℕ → List ℕ
unfolding digits_of
decimal zero = digit 0 ∷ []
decimal (suc m) = digits_of (suc m) (suc m)

-- Fields with one space between them, and LF behind the last.
unfoldable pub line : List (List ℕ) → List ℕ
line [] = LF ∷ []
line (f ∷ []) = f ++ (LF ∷ [])
line (f ∷ g ∷ l) = f ++ (space ∷ line (g ∷ l))

-- The codes of whole lines of text.
unfoldable pub rows : List String → List ℕ
unfolding ascii
rows [] = []
rows (s ∷ l) = ascii s ++ (LF ∷ rows l)

-- Bytes with no LF among them.
abbrev pub Plain : List ℕ → Type 0
Plain [] = Unit {0}
Plain (x ∷ l) = (x ≡ LF → ⊥) × Plain l

-- A text of one line: LF stands behind it and nowhere else.
pub record OneLine (text : List ℕ) : Type 0 where
  pub front : List ℕ
  pub is : text ≡ front ++ (LF ∷ [])
  pub plain : Plain front
