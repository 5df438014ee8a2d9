-- The length was tested, and reading what follows it leaves it as it was. Assumes nothing.
use Prim.Native.Nat.{ℕ, ◌+◌, ◌-◌}
use mathlib.Core.Path.{◌∙◌}
use mathlib.Core.List.{List, ◌++◌}
use native.Mathlib.Omega.{arith}
use borrow.Author.Rules.{rules}
use lib.ListN.{length-append, length-drop, length-take, drop}
use Rattle.drill.proofs.Firsts.{whole_first}
use Rattle.drill.proofs.input.read_record.Goals as goal

pub returns : goal.returns
returns c =
    let n = c.from-length.result in
    let head : List ℕ = c.read_full-got.new.buf ++ drop 2 c.args.buf.now in
    let rest : List ℕ = c.read_full.new.buf ++ drop (n + 2 - 2) (drop 2 head) in
    whole_first head rest n (c.from-length.ensures ∙ c.word_at.ensures) (search rules) (search rules) (simp (length-take, length-append, length-drop) (omega arith)) (simp length-append (omega arith))
