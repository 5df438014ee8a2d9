-- The record in which a card hands over a block is read as that block, of that station, on that span. Assumes nothing.
use Prim.Native.Nat.{ℕ, ◌+◌, ◌*◌, ◌/◌, ◌%◌, ◌^◌, ◌<◌, ◌≤◌}
use mathlib.Core.Path.{◌≡◌, refl, sym, ◌∙◌, ap}
use mathlib.Core.Bool.{Bool, true, false, cond}
use mathlib.Core.List.{List, ◌∷◌, ◌++◌}
use native.Mathlib.Omega.{arith}
use lib.ListN.{length}
use lib.Dec.{leb}
use borrow.Author.Tests.{le-ltb}
use Rattle.wire.specs.Fields.{address_at, odd_first, Bytes}
use Rattle.wire.specs.Head.{length_of, body_of, broken}
use Rattle.wire.proofs.Heads.{right_length}
use Rattle.controller.specs.Reading.{Block}
use Rattle.controller.specs.Reading.{reading}
use Rattle.controller.proofs.Bodies.{block-said, kind_block, read_whole}
use Rattle.blocks.specs.Writing.{weight_bytes, bandwidth_bytes, bytes_at}
use Rattle.promises.specs.Written.{address_bytes, attribute_record}
use Rattle.promises.proofs.Roundtrip.ByteLists.{Small, bytes_before, small_bytes}

module _ (span a : ℕ) (block : List ℕ) where
  abbrev card : List ℕ
  card = attribute_record span a block

  -- The six bytes are the address.
  address_back : address_at (body_of card) 1 ≡ a
  unfolding address_at
  address_back =
      let e4 : a / 2 ^ 40 * 256 + a / 2 ^ 32 % 256 ≡ a / 2 ^ 32 = omega arith in
      let e3 : a / 2 ^ 32 * 256 + a / 2 ^ 24 % 256 ≡ a / 2 ^ 24 = omega arith in
      let e2 : a / 2 ^ 24 * 256 + a / 2 ^ 16 % 256 ≡ a / 2 ^ 16 = omega arith in
      let e1 : a / 2 ^ 16 * 256 + a / 2 ^ 8 % 256 ≡ a / 2 ^ 8 = omega arith in
      let e0 : a / 2 ^ 8 * 256 + a % 256 ≡ a = omega arith in
      rw (e4, e3, e2, e1, e0)

  pub attributes_read : length block ≤ 1024 → (own room : ℕ) → span ≤ 1 → odd_first a ≡ false → (a ≡ own → ⊥) → 7 ≤ room
      → reading own card room ≡ Block span a
  unfolding reading
  attributes_read short own room side even foreign enough =
      let whole : broken card ≡ false = sym (right_length card (omega arith) (omega arith)) ∙ le-ltb 1033 (length_of card) (omega arith) in
      rw (le-ltb room 7 enough)
      (sym (read_whole own card room whole)
      ∙ sym (kind_block own (body_of card) room 6 refl)
      ∙ sym (block-said own (body_of card) (omega arith) (omega arith) side (ap odd_first address_back ∙ even) (λ e. foreign (sym address_back ∙ e)))
      ∙ ap (λ (x : ℕ). Block span x) address_back)

  -- The record is of bytes, if its block is.
  pub record_bytes : length block ≤ 1024 → span ≤ 1 → a < 2 ^ 48 → Bytes block → Bytes card
  unfolding Small
  record_bytes short side small bytes =
      bytes_before (((9 + length block) % 256) ∷ ((9 + length block) / 256) ∷ 6 ∷ 0 ∷ span ∷ address_bytes a) block (omega arith) bytes

-- What the writer writes is bytes.
pub written_bytes : (level w0 w1 b0 b1 : ℕ) → w0 < 256 → w1 < 256 → b0 < 65536 → b1 < 65536 → Bytes (bytes_at level w0 w1 b0 b1)
unfolding bytes_at Small
written_bytes level w0 w1 b0 b1 h0 h1 k0 k1 = go (leb 2 level)
  where
    go : (b : Bool) → Bytes (cond b (weight_bytes w0 w1 ++ bandwidth_bytes b0 b1) (weight_bytes w0 w1))
    go true = small_bytes (weight_bytes w0 w1 ++ bandwidth_bytes b0 b1) (omega arith)
    go false = small_bytes (weight_bytes w0 w1) (omega arith)
