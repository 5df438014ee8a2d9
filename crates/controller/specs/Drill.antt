-- The worked drill: its settings, its records, and the reports that they give. Its lines are the drill program's. 01, The drill program.
use Rattle.std.specs.Prelude.{ℕ, List, [], ◌∷◌}
use Rattle.spans.specs.Requests.{request}
use Rattle.controller.specs.Record.{outcome}
use Rattle.controller.specs.Node.{Node, state_of, answer_of}

-- The reports that records give.
unfoldable pub reports : Node → List (List ℕ) → List (List ℕ)
unfolding outcome
reports n [] = []
reports n (b ∷ l) = (outcome (state_of n) b 7).report ∷ reports (answer_of n (outcome (state_of n) b 7)).node l

-- "Settings 11 00 20 00 02 02 00 00 00 00 01 00 00 00 32 0A 02 0A 00", with any level.
abbrev pub settings_at : ℕ → List ℕ
settings_at level = 0x11 ∷ 0 ∷ 0x20 ∷ 0 ∷ level ∷ 2 ∷ 0 ∷ 0 ∷ 0 ∷ 0 ∷ 1 ∷ 0 ∷ 0 ∷ 0 ∷ 0x32 ∷ 0x0a ∷ 2 ∷ 0x0a ∷ 0 ∷ []

abbrev pub settings_record : List ℕ
settings_record = settings_at 2

abbrev pub link : ℕ → List ℕ
link status = 4 ∷ 0 ∷ 2 ∷ 0 ∷ 0 ∷ status ∷ []

-- "a report 0E 00 05 00 00 00 FF 02 00 00 00 00 02 07 00 00", with any sequence.
abbrev pub report : ℕ → List ℕ
report sequence = 0x0e ∷ 0 ∷ 5 ∷ 0 ∷ 0 ∷ 0 ∷ 0xff ∷ 2 ∷ 0 ∷ 0 ∷ 0 ∷ 0 ∷ 2 ∷ sequence ∷ 0 ∷ 0 ∷ []

abbrev pub operator : ℕ → List ℕ
operator request = 4 ∷ 0 ∷ 4 ∷ 0 ∷ 0 ∷ request ∷ []

abbrev pub tick : List ℕ
tick = 2 ∷ 0 ∷ 1 ∷ 0 ∷ []

-- "west failed; west good; a report (..); the same with sequence 135; with 134; operator west MS; west degraded; a tick".
abbrev pub records : List (List ℕ)
records = link 2 ∷ link 0 ∷ report 7 ∷ report 135 ∷ report 134 ∷ operator 2 ∷ link 1 ∷ tick ∷ []
