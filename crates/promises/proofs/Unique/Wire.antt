-- The public functions of wire leave no choice: one answer, and one content of lent memory. Assumes nothing.
use Prim.Native.Nat.{ℕ}
use mathlib.Core.Path.{refl, sym, ◌∙◌}
use mathlib.Core.List.{List}
use Rattle.wire.specs.contracts as wire_contract
use Rattle.wire.proofs as wire
use Rattle.wire.specs.contracts.results.U8FromRefusal as RefusalNumber_contract
use Rattle.wire.proofs.results.U8FromRefusal as RefusalNumber
use Rattle.wire.specs.contracts.results.U8FromTaken as TakenNumber_contract
use Rattle.wire.proofs.results.U8FromTaken as TakenNumber
use Rattle.promises.specs.Unique.{Fixes, FixesPart}

pub byte_at_unique : Fixes wire_contract.byte_at.ended wire.byte_at.Reads.ensures wire.byte_at.Reads.Post
byte_at_unique = (λ w κs a x e. refl, λ κs a x y e f p q. p ∙ sym q)

pub word_at_unique : Fixes wire_contract.word_at.ended wire.word_at.Reads.ensures wire.word_at.Reads.Post
word_at_unique = (λ w κs a x e. refl, λ κs a x y e f p q. p ∙ sym q)

pub high_word_at_unique : Fixes wire_contract.high_word_at.ended wire.high_word_at.Reads.ensures wire.high_word_at.Reads.Post
high_word_at_unique = (λ w κs a x e. refl, λ κs a x y e f p q. p ∙ sym q)

pub joined_unique : Fixes wire_contract.joined.ended wire.joined.Reads.ensures wire.joined.Reads.Post
joined_unique = (λ w κs a x e. refl, λ κs a x y e f p q. p ∙ sym q)

pub address_at_unique : Fixes wire_contract.address_at.ended wire.address_at.Reads.ensures wire.address_at.Reads.Post
address_at_unique = (λ w κs a x e. refl, λ κs a x y e f p q. p ∙ sym q)

pub odd_first_unique : Fixes wire_contract.odd_first.ended wire.odd_first.Reads.ensures wire.odd_first.Reads.Post
odd_first_unique = (λ w κs a x e. refl, λ κs a x y e f p q. p ∙ sym q)

pub broken_unique : Fixes wire_contract.broken.ended wire.broken.Reads.ensures wire.broken.Reads.Post
broken_unique = (λ w κs a x e. refl, λ κs a x y e f p q. p ∙ sym q)

pub read_head_unique : Fixes wire_contract.read_head.ended wire.read_head.Reads.ensures wire.read_head.Reads.Post
read_head_unique = (λ w κs a x e. refl, λ κs a x y e f p q. p ∙ sym q)

-- The contract speaks of what the answer shows, not of where it lies.
pub body_unique : FixesPart wire_contract.body.ended (λ κs. List ℕ) (λ κs x e. x.now) wire.body.Reads.ensures wire.body.Reads.Post
body_unique = (λ w κs a x e. refl, λ κs a x y e f p q. p ∙ sym q)

pub put_report_unique : Fixes wire_contract.put_report.ended wire.put_report.Reads.ensures wire.put_report.Reads.Post
put_report_unique = (λ w κs a x e. refl, λ κs a x y e f p q. p.room ∙ sym q.room)

pub put_report_content_unique :
    FixesPart wire_contract.put_report.ended (λ κs. List ℕ) (λ κs x e. e.0.now)
    wire.put_report.Reads.ensures wire.put_report.Reads.Post
put_report_content_unique = (λ w κs a x e. refl, λ κs a x y e f p q. p.content ∙ sym q.content)

pub number_unique : Fixes wire_contract.number.ended wire.number.Reads.ensures wire.number.Reads.Post
number_unique = (λ w κs a x e. refl, λ κs a x y e f p q. p ∙ sym q)

pub refusal_number_unique : Fixes RefusalNumber_contract.from.ended RefusalNumber.from.Reads.ensures RefusalNumber.from.Reads.Post
refusal_number_unique = (λ w κs a x e. refl, λ κs a x y e f p q. p ∙ sym q)

pub taken_number_unique : Fixes TakenNumber_contract.from.ended TakenNumber.from.Reads.ensures TakenNumber.from.Reads.Post
taken_number_unique = (λ w κs a x e. refl, λ κs a x y e f p q. p ∙ sym q)
