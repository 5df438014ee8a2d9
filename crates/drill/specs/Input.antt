-- Standard input cut into records, and the program's whole text. 01, Records and The drill program.
use Rattle.std.specs.Prelude.{ℕ, zero, suc, ◌+◌, cond, ◌||◌, List, [], ◌∷◌, length, take, drop, ltb}
use Rattle.wire.specs.Head.{length_of}
use Rattle.drill.specs.Turns.{Read, nothing, cut, whole, drilled}

-- The first record of an input: "a two-byte length (of all that follows it)"; "Length is 2 to 1,033."
unfoldable pub first_of : List ℕ → Read
first_of [] = nothing
first_of (x ∷ l) =
    cond (ltb (length l) 1 || ltb (length_of (x ∷ l)) 2 || ltb 1033 (length_of (x ∷ l)) || ltb (length (x ∷ l)) (length_of (x ∷ l) + 2))
    cut
    (whole (take (length_of (x ∷ l) + 2) (x ∷ l)))

-- The first k reads of an input.
unfoldable pub reads : ℕ → List ℕ → List Read
unfolding first_of
reads zero i = []
reads (suc k) i = first_of i ∷ reads k (drop (length_of i + 2) i)

-- What the program writes for an input: there are no more records in it than bytes, and one read finds its end.
unfoldable pub output : List ℕ → List ℕ
unfolding reads drilled
output i = drilled (reads (suc (length i)) i)
