-- The settings record of the worked drill.
use Rattle.std.specs.Prelude.{List, [], ◌∷◌, ℕ}

-- 01, The drill program: "Settings 11 00 20 00 02 02 00 00 00 00 01 00 00 00 32 0A 02 0A 00".
abbrev pub drill : List ℕ
drill = 17 ∷ 0 ∷ 32 ∷ 0 ∷ 2 ∷ 2 ∷ 0 ∷ 0 ∷ 0 ∷ 0 ∷ 1 ∷ 0 ∷ 0 ∷ 0 ∷ 50 ∷ 10 ∷ 2 ∷ 10 ∷ 0 ∷ []
