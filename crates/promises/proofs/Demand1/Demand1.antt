-- Demand 1. "Every call takes any input. A bad record, setting or block is refused by a number from the rules; a refusal changes nothing in the controller and
-- writes no byte in the caller's buffer." Assumes nothing.
-- That a call takes any input is in the contracts: start asks nothing, and the other calls ask of the node alone that it is kept (`Kept`), which each node is that
-- start or a call gave; nothing is asked of the bytes, the buffer or the address. What follows is of the contracts of start (`Begun`) and of a record (`Recorded`).
use Prim.Native.Nat.{ℕ}
use mathlib.Core.Path.{◌≡◌, ◌∙◌, ap}
use mathlib.Core.Bool.{true, false}
use mathlib.Core.List.{List, [], ◌∷◌}
use lib.ListN.{length}
use Rattle.std.specs.Prelude.{Result}
use Rattle.wire.specs.declared.results.Refusal.{Refusal}
use Rattle.settings.specs.Ranges.{defaults}
use Rattle.blocks.specs.Types.{among}
use Rattle.blocks.specs.Writing.{written_as, Wrote}
use Rattle.blocks.proofs.RoundTrip.{refusal-leaves}
use Rattle.controller.specs.State.{State, started}
use Rattle.controller.specs.Record.{refusal, outcomes}
use Rattle.controller.specs.Node.{Node, Started, Answer, choice_of, state_of, node_of, started_with}
use Rattle.controller.specs.Kept.{Kept}
use Rattle.controller.specs.Promise.{Begun, Recorded}
use Rattle.promises.specs.Refusals.{numbers, tests, start_tests, NoneApplies, FirstApplies}
use Rattle.promises.proofs.Demand1.Order.{first_given, none-among, other_first}
use Rattle.promises.proofs.Demand1.Results.{recorded_result, answer-refused, buffer-refused}
use Rattle.promises.proofs.Demand1.Numbers.{taken, agrees, result_listed, not-refused, refused-not-taken}
use Rattle.promises.proofs.Demand1.Starting.{taken0, is_zero, start_agrees, start-listed, start-defaults}

-- "a refusal changes nothing in the controller and writes no byte in the caller's buffer".
pub refusal_changes_nothing : (n : Node) (b old new : List ℕ) (r : Answer) → Kept n → Recorded n b old new r → refusal r.result ≡ true
    → (r.node ≡ n) × ((new ≡ old) × (r.reports ≡ 0))
refusal_changes_nothing n b old new r k h refused =
    let same = answer-refused h k refused in
    (ap (λ (x : Answer). x.node) same, (buffer-refused h k refused, ap (λ (x : Answer). x.reports) same))

-- "by a number from the rules": every result is one of the list, whatever the node and the bytes ..
pub results-listed : (n : Node) (b old new : List ℕ) (r : Answer) → Recorded n b old new r → among r.result numbers ≡ true
results-listed n b old new r h = rw (recorded_result h) (result_listed (state_of n) b (length old))

-- .. a refusal's is that of the first test that applies ..
pub refused_is_first : (s : State) (b : List ℕ) (room : ℕ) → refusal (outcomes s b room).result ≡ true
    → FirstApplies tests s b room (outcomes s b room).result
refused_is_first s b room h =
    other_first taken tests s b room (outcomes s b room).result (agrees s b room) (refused-not-taken (outcomes s b room).result h)

-- .. the first test that applies gives its number, 21 of a block too ..
pub first_is_given : (s : State) (b : List ℕ) (room n : ℕ) → FirstApplies tests s b room n → (outcomes s b room).result ≡ n
first_is_given s b room = first_given taken tests s b room (outcomes s b room).result (agrees s b room)

-- .. and where none applies there is no refusal.
pub none_applies : (s : State) (b : List ℕ) (room : ℕ) → NoneApplies tests s b room → refusal (outcomes s b room).result ≡ false
none_applies s b room h =
    not-refused (outcomes s b room).result (none-among taken tests s b room (outcomes s b room).result (agrees s b room) h)

-- The same of the answer of a call.
pub recorded_refused_is_first : (n : Node) (b old new : List ℕ) (r : Answer) → Recorded n b old new r → refusal r.result ≡ true
    → FirstApplies tests (state_of n) b (length old) r.result
recorded_refused_is_first n b old new r h refused =
    rw (recorded_result h) (refused_is_first (state_of n) b (length old) (rw (recorded_result h) at refused))

pub recorded_first_is_given : (n : Node) (b old new : List ℕ) (r : Answer) → Recorded n b old new r → (m : ℕ)
    → FirstApplies tests (state_of n) b (length old) m → r.result ≡ m
recorded_first_is_given n b old new r h m first = recorded_result h ∙ first_is_given (state_of n) b (length old) m first

pub recorded_none_applies : (n : Node) (b old new : List ℕ) (r : Answer) → Recorded n b old new r → NoneApplies tests (state_of n) b (length old)
    → refusal r.result ≡ false
recorded_none_applies n b old new r h none = rw (recorded_result h) (none_applies (state_of n) b (length old) none)

-- Start. "Start gives 0, 2, 3 or 4" ..
pub start-numbers : (b : List ℕ) → among (started_with b).result (0 ∷ 2 ∷ 3 ∷ 4 ∷ []) ≡ true
start-numbers b = start-listed (started (choice_of (defaults 0))) b 0

-- .. a refusal is that of the first of its tests that applies, which gives its number; its tests read no state and no room ..
pub start-refused_is_first : (s : State) (b : List ℕ) → ((started_with b).result ≡ 0 → ⊥) → FirstApplies start_tests s b 0 (started_with b).result
start-refused_is_first s b h =
    other_first taken0 start_tests s b 0 (started_with b).result (start_agrees s b 0) (λ m. h (is_zero (started_with b).result m))

pub start_first_is_given : (s : State) (b : List ℕ) (n : ℕ) → FirstApplies start_tests s b 0 n → (started_with b).result ≡ n
start_first_is_given s b = first_given taken0 start_tests s b 0 (started_with b).result (start_agrees s b 0)

pub start-none_applies : (s : State) (b : List ℕ) → NoneApplies start_tests s b 0 → (started_with b).result ≡ 0
start-none_applies s b h =
    is_zero (started_with b).result (none-among taken0 start_tests s b 0 (started_with b).result (start_agrees s b 0) h)

-- .. "refused, its state is that of the default settings with address zero".
pub start-refused_default : (b : List ℕ) → ((started_with b).result ≡ 0 → ⊥) → (started_with b).node ≡ node_of (defaults 0) (started (choice_of (defaults 0)))
start-refused_default = start-defaults

-- The same of the answer of the call.
pub begun-numbers : (b : List ℕ) (r : Started) → Begun b r → among r.result (0 ∷ 2 ∷ 3 ∷ 4 ∷ []) ≡ true
begun-numbers b r h = rw h.is (start-numbers b)

pub begun-refused_is_first : (s : State) (b : List ℕ) (r : Started) → Begun b r → (r.result ≡ 0 → ⊥) → FirstApplies start_tests s b 0 r.result
begun-refused_is_first s b r h = rw h.is (start-refused_is_first s b)

pub begun_first_is_given : (s : State) (b : List ℕ) (r : Started) → Begun b r → (n : ℕ) → FirstApplies start_tests s b 0 n → r.result ≡ n
begun_first_is_given s b r h = rw h.is (start_first_is_given s b)

pub begun-none_applies : (s : State) (b : List ℕ) (r : Started) → Begun b r → NoneApplies start_tests s b 0 → r.result ≡ 0
begun-none_applies s b r h = rw h.is (start-none_applies s b)

pub begun-refused_default : (b : List ℕ) (r : Started) → Begun b r → (r.result ≡ 0 → ⊥) → r.node ≡ node_of (defaults 0) (started (choice_of (defaults 0)))
begun-refused_default b r h = rw h.is (start-refused_default b)

-- A block to be written that is refused: no byte is written, and the length is 0.
pub unwritten_leaves : (level w0 w1 b0 b1 : ℕ) (old new : List ℕ) (w : Result ℕ Refusal) → Wrote level w0 w1 b0 b1 old new w → ((written_as w).result ≡ 0 → ⊥)
    → (new ≡ old) × ((written_as w).length ≡ 0)
unwritten_leaves = refusal-leaves
