-- The hypotheses of demand 2 can be met, by any settings and any calls: the answers of the rules meet the contracts. Assumes nothing.
use Prim.Native.Nat.{ℕ, zero, suc}
use mathlib.Core.Path.{◌≡◌, refl, ap}
use mathlib.Core.Bool.{true, and-eq-true_iff}
use mathlib.Core.List.{List, [], ◌∷◌}
use native.Mathlib.Omega.{arith}
use lib.ListN.{length}
use lib.Dec.{ltb}
use borrow.Author.Tests.{ltb-true}
use Rattle.wire.specs.Fields.{Bytes}
use Rattle.controller.specs.Node.{Started, started_with}
use Rattle.controller.specs.Promise.{Begun}
use Rattle.controller.proofs.Nodes.{answer_shows, answer_kept, started_with_shows, started_with_kept}
use Rattle.promises.specs.History.{Call, AllBytes, made_of, Met, node_after}
use Rattle.promises.specs.Possible.{Handed, AllHanded, made, are_bytes, all_bytes}

pub begins : (b : List ℕ) → Bytes b → Begun b (started_with b)
begins b bytes = record { is = refl; shows = started_with_shows b bytes; kept = started_with_kept b bytes }

pub made_met : (st : Started) (h : List Handed) → AllHanded h → Met st (made st h)
unfolding AllHanded Met made
made_met st [] bytes = tt
made_met st (c ∷ h) bytes = (
  λ k. record {
    is = refl;
    shows = answer_shows (node_after st (made st h)) c.bytes (length c.old) bytes.0 k;
    content = refl;
    kept = answer_kept (node_after st (made st h)) c.bytes (length c.old) bytes.0 k;
  },
  made_met st h bytes.1,
)

-- Two nodes that are handed the same have been called the same.
pub calls_made : (st other : Started) (h : List Handed) → made_of (made st h) ≡ made_of (made other h)
unfolding made made_of
calls_made st other [] = refl
calls_made st other (c ∷ h) = ap (λ (l : List Call). record { bytes = c.bytes; room = length c.old } ∷ l) (calls_made st other h)

-- That lists are of bytes, by a test that computes.
pub are_bytes_lem : (l : List ℕ) → are_bytes l ≡ true → Bytes l
unfolding are_bytes
are_bytes_lem [] e i = omega arith
are_bytes_lem (x ∷ l) e zero = ltb-true x 256 ((and-eq-true_iff (ltb x 256) (are_bytes l)).0 e).0
are_bytes_lem (x ∷ l) e (suc i) = are_bytes_lem l ((and-eq-true_iff (ltb x 256) (are_bytes l)).0 e).1 i

pub all_bytes_lem : (h : List Call) → all_bytes h ≡ true → AllBytes h
unfolding AllBytes all_bytes
all_bytes_lem [] e = tt
all_bytes_lem (c ∷ h) e =
    let (first, rest) = (and-eq-true_iff (are_bytes c.bytes) (all_bytes h)).0 e in
    (are_bytes_lem c.bytes first, all_bytes_lem h rest)
