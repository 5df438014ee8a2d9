-- The lines that the drill writes. 01, The drill program.
use Rattle.std.specs.Prelude.{ℕ, cond, not, ◌&&◌, List, [], ◌∷◌, map, length, eqb}
use Rattle.wire.specs.Fields.{address_at, odd_first}
use Rattle.ways.specs.Choice.{numbers}
use Rattle.controller.specs.State.{State}
use Rattle.controller.specs.Node.{Answer, state_of, west_request, east_request, steering}
use Rattle.drill.specs.Text.{ascii, decimal, line}

-- "Any other record gives a line: number from 1, result, west request, east request, own sequence, stations", and last, where 01 said "1 if a report was written else 0", 02, Item 4: "the number of reports".
unfoldable pub record_line : ℕ → Answer → List ℕ
unfolding line decimal west_request east_request
record_line k a =
    let s = state_of a.node in
    line
    (decimal k
    ∷ decimal a.result
    ∷ decimal (west_request s)
    ∷ decimal (east_request s)
    ∷ decimal s.pacer.sequence
    ∷ decimal (length s.stations)
    ∷ decimal a.reports
    ∷ [])

-- A number and a result, for what does not come to the controller.
unfoldable pub refused_line : ℕ → ℕ → List ℕ
unfolding line decimal
refused_line k result = line (decimal k ∷ decimal result ∷ [])

-- "A question is numbered too and gives number, the word way, reply", and 02, Item 5: "the drill program prints the three numbers after the reply" ..
unfoldable pub way_line : ℕ → List ℕ → List ℕ
unfolding line decimal ascii
way_line k told = line (decimal k ∷ ascii "way" ∷ map decimal told)

-- .. "with a wrong body length or an odd first byte, the number and 4."
unfoldable pub question_line : ℕ → State → List ℕ → List ℕ
unfolding way_line refused_line steering address_at
question_line k s body =
    cond (eqb (length body) 6 && not (odd_first (address_at body 0)))
    (way_line k (numbers (steering s (address_at body 0))))
    (refused_line k 4)

-- "Refused settings give the word settings, the number, and the end."
unfoldable pub settings_line : ℕ → List ℕ
unfolding line decimal ascii
settings_line result = line (ascii "settings" ∷ decimal result ∷ [])
