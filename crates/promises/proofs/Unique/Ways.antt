-- The public functions of ways leave no choice: one answer. Assumes nothing.
use mathlib.Core.Path.{refl, sym, ◌∙◌}
use Rattle.ways.specs.contracts as ways_contract
use Rattle.ways.proofs as ways
use Rattle.ways.specs.contracts.choice.U8FromReply as ReplyNumber_contract
use Rattle.ways.proofs.choice.U8FromReply as ReplyNumber
use Rattle.promises.specs.Unique.{Fixes}

pub way_to_unique : Fixes ways_contract.way_to.ended ways.way_to.Reads.ensures ways.way_to.Reads.Post
way_to_unique = (λ w κs a x e. refl, λ κs a x y e f p q. p ∙ sym q)

pub number_unique : Fixes ReplyNumber_contract.from.ended ReplyNumber.from.Reads.ensures ReplyNumber.from.Reads.Post
number_unique = (λ w κs a x e. refl, λ κs a x y e f p q. p ∙ sym q)
