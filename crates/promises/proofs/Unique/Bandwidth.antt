-- The public functions of bandwidth leave no choice: one answer. Assumes nothing.
use mathlib.Core.Path.{refl, sym, ◌∙◌}
use Rattle.bandwidth.proofs.Numbers.{answers_told_apart}
use Rattle.bandwidth.specs.contracts as bandwidth_contract
use Rattle.bandwidth.proofs as bandwidth
use Rattle.bandwidth.specs.contracts.free.Free as Free_contract
use Rattle.bandwidth.proofs.free.Free as Free
use Rattle.bandwidth.specs.contracts.free.U8FromUnanswered as UnansweredNumber_contract
use Rattle.bandwidth.proofs.free.U8FromUnanswered as UnansweredNumber
use Rattle.promises.specs.Unique.{Fixes}

pub is_excess_unique : Fixes Free_contract.is_excess.ended Free.is_excess.Reads.ensures Free.is_excess.Reads.Post
is_excess_unique = (λ w κs a x e. refl, λ κs a x y e f p q. p ∙ sym q)

pub number_unique : Fixes UnansweredNumber_contract.from.ended UnansweredNumber.from.Reads.ensures UnansweredNumber.from.Reads.Post
number_unique = (λ w κs a x e. refl, λ κs a x y e f p q. p ∙ sym q)

pub free_bandwidth_unique : Fixes bandwidth_contract.free_bandwidth.ended bandwidth.free_bandwidth.Reads.ensures bandwidth.free_bandwidth.Reads.Post
free_bandwidth_unique = (λ w κs a x e. refl, λ κs a x y e f p q. answers_told_apart x y (p ∙ sym q))
