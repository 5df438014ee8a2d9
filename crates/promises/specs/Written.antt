-- The record in which a card hands over the block of a station. 01, Records.
use Rattle.std.specs.Prelude.{ℕ, ◌+◌, ◌/◌, ◌%◌, ◌^◌, List, [], ◌∷◌, ◌++◌, length}
use Rattle.controller.specs.State.{State}
use Rattle.controller.specs.Node.{Shown}
use Rattle.promises.specs.History.{after, start_of}
use Rattle.promises.specs.Drilled.{calls_for}
use Rattle.promises.specs.Examples.{report, settings}

-- "Addresses are six bytes in wire order, (..) first byte highest."
abbrev pub address_bytes : ℕ → List ℕ
address_bytes a =
    (a / 2 ^ 40) ∷ (a / 2 ^ 32 % 256) ∷ (a / 2 ^ 24 % 256) ∷ (a / 2 ^ 16 % 256) ∷ (a / 2 ^ 8 % 256) ∷ (a % 256) ∷ []

-- "6 attributes heard | span, address, block": length and kind little-endian.
abbrev pub attribute_record : ℕ → ℕ → List ℕ → List ℕ
attribute_record span a block =
    ((9 + length block) % 256) ∷ ((9 + length block) / 256) ∷ 6 ∷ 0 ∷ span ∷ (address_bytes a ++ block)

-- "0 with values".
abbrev pub values : ℕ → ℕ → ℕ → ℕ → Shown
values w0 w1 b0 b1 = record { reply = 0; kind = 0; weight0 = w0; weight1 = w1; reserved0 = b0; reserved1 = b1 }

-- A node of a level that has heard a report of station 2.
abbrev pub joined : ℕ → State
joined level = after (start_of (settings level 0)) (calls_for (report 0 255 2 1 0 0 ∷ []))
