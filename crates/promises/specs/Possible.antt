-- That the hypotheses of the demands can be met: what was handed over, what the rules make of it, and bytes told by a test.
use Rattle.std.specs.Prelude.{ℕ, Bool, true, ◌&&◌, List, [], ◌∷◌, length, ltb}
use Rattle.wire.specs.Report.{over}
use Rattle.wire.specs.Fields.{Bytes}
use Rattle.controller.specs.Node.{Started, state_of, answer_of}
use Rattle.controller.specs.Record.{outcomes}
use Rattle.promises.specs.History.{Call, Made, node_after}

-- A record and a buffer, as they are handed to a call.
pub record Handed : Type 0 where
  pub bytes : List ℕ
  pub old : List ℕ

unfoldable pub AllHanded : List Handed → Type 0
AllHanded [] = Unit {0}
AllHanded (c ∷ h) = Bytes c.bytes × AllHanded h

-- The calls as the rules answer them, the latest first.
unfoldable pub made : Started → List Handed → List Made
unfolding outcomes
made st [] = []
made st (c ∷ h) =
    let g = made st h in
    let o = outcomes (state_of (node_after st g)) c.bytes (length c.old) in
    record { bytes = c.bytes; old = c.old; new = over o.report c.old; answer = answer_of (node_after st g) o } ∷ g

-- Every number of a list is a byte.
unfoldable pub are_bytes : List ℕ → Bool
are_bytes [] = true
are_bytes (x ∷ l) = ltb x 256 && are_bytes l

unfoldable pub all_bytes : List Call → Bool
unfolding are_bytes
all_bytes [] = true
all_bytes (c ∷ h) = are_bytes c.bytes && all_bytes h
