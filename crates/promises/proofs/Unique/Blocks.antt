-- The public functions of blocks leave no choice: one answer, and one content of lent memory. Assumes nothing.
use Prim.Native.Nat.{ℕ}
use mathlib.Core.Path.{refl, sym, ◌∙◌}
use mathlib.Core.List.{List}
use Rattle.blocks.specs.contracts as blocks_contract
use Rattle.blocks.proofs as blocks
use Rattle.blocks.specs.contracts.attributes.Attributes as Attributes_contract
use Rattle.blocks.proofs.attributes.Attributes as Attributes
use Rattle.promises.specs.Unique.{Fixes, FixesPart}

pub attributes-absent_unique : Fixes Attributes_contract.absent.ended Attributes.absent.Reads.ensures Attributes.absent.Reads.Post
attributes-absent_unique = (λ w κs a x e. refl, λ κs a x y e f p q. p ∙ sym q)

pub attributes-behind_with_unique : Fixes Attributes_contract.behind_with.ended Attributes.behind_with.Reads.ensures Attributes.behind_with.Reads.Post
attributes-behind_with_unique = (λ w κs a x e. refl, λ κs a x y e f p q. p ∙ sym q)

pub read_block_unique : Fixes blocks_contract.read_block.ended blocks.read_block.Reads.ensures blocks.read_block.Reads.Post
read_block_unique = (λ w κs a x e. refl, λ κs a x y e f p q. p ∙ sym q)

pub write_block_unique : Fixes blocks_contract.write_block.ended blocks.write_block.Reads.ensures blocks.write_block.Reads.Post
write_block_unique = (λ w κs a x e. refl, λ κs a x y e f p q. p.answer ∙ sym q.answer)

pub write_block_content_unique :
    FixesPart blocks_contract.write_block.ended (λ κs. List ℕ) (λ κs x e. e.0.now)
    blocks.write_block.Reads.ensures blocks.write_block.Reads.Post
write_block_content_unique = (λ w κs a x e. refl, λ κs a x y e f p q. p.content ∙ sym q.content)
