-- A record that was read names span 0 or 1, and a reading refuses by 1 to 6. Of any bytes. Assumes nothing.
use Prim.Native.Nat.{ℕ, ◌-◌, ◌*◌, ◌≤◌}
use mathlib.Core.Path.{◌≡◌, refl, sym}
use mathlib.Core.Bool.{Bool, true, false, not, ◌&&◌, and-eq-true_iff, true≢false}
use mathlib.Core.List.{List}
use native.Mathlib.Omega.{arith}
use lib.ListN.{length}
use lib.Dec.{eqb, leb, ltb}
use borrow.Author.Tests.{eqb-true, eqb-false, leb-true}
use Rattle.wire.specs.Fields.{byte_at, address_at, odd_first}
use Rattle.wire.specs.Head.{kind_of, body_of, broken}
use Rattle.spans.specs.Codes.{listed}
use Rattle.stations.specs.Station.{farthest}
use Rattle.stations.proofs.Lists.{chosen}
use Rattle.controller.specs.Reading.{Reading}
use Rattle.controller.specs.Reading.{Refused, Tick, Link, Keepalive, Operator, Heard, Block}
use Rattle.controller.specs.Reading.{link_fits, link_in, keepalive_fits, keepalive_in, operator_fits, operator_in, report_fits, report_in, block_fits, block_in, count_in, ticks_fit, ticks_in, kind_in, read_in, reading}

abbrev pub Sided : Reading → Type 0
Sided (Refused k) = k ≤ 6
Sided Tick = Unit {0}
Sided (Link n status) = n ≤ 1
Sided (Keepalive n) = n ≤ 1
Sided (Operator n request) = n ≤ 1
Sided (Heard n p) = n ≤ 1
Sided (Block n a) = n ≤ 1

left : (a b : Bool) → a && b ≡ true → a ≡ true
left a b h = ((and-eq-true_iff a b).0 h).0

right : (a b : Bool) → a && b ≡ true → b ≡ true
right a b h = ((and-eq-true_iff a b).0 h).1

module _ (own : ℕ) (b : List ℕ) where
  span_low : leb (byte_at b 0) 1 ≡ true → byte_at b 0 ≤ 1
  span_low h = leb-true (byte_at b 0) 1 h

  link_sided : Sided (link_in b)
  unfolding link_in
  link_sided =
      chosen Sided (link_fits b)
      (λ h. span_low (right (eqb (length b) 2) _ (left (eqb (length b) 2 && leb (byte_at b 0) 1) (leb (byte_at b 1) 2) h))) (λ h. omega arith)

  keepalive_sided : Sided (keepalive_in b)
  unfolding keepalive_in
  keepalive_sided = chosen Sided (keepalive_fits b) (λ h. span_low (right (eqb (length b) 1) _ h)) (λ h. omega arith)

  operator_sided : Sided (operator_in b)
  unfolding operator_in
  operator_sided =
      chosen Sided (operator_fits b)
      (λ h. span_low (right (eqb (length b) 2) _ (left (eqb (length b) 2 && leb (byte_at b 0) 1) (listed (byte_at b 1)) h))) (λ h. omega arith)

  report_span : report_fits b ≡ true → byte_at b 0 ≤ 1
  report_span h =
      span_low
      (right (eqb (length b) 12) _
      (left (eqb (length b) 12 && leb (byte_at b 0) 1) (leb (byte_at b 1) 1)
      (left (eqb (length b) 12 && leb (byte_at b 0) 1 && leb (byte_at b 1) 1) (ltb 0 (byte_at b 2))
      (left a4 (leb (byte_at b 10) 5)
      (left (a4 && leb (byte_at b 10) 5) (leb (byte_at b 11) 5)
      (left (a4 && leb (byte_at b 10) 5 && leb (byte_at b 11) 5) (not (odd_first (address_at b 3))) h))))))
    where
      a4 : Bool
      a4 = eqb (length b) 12 && leb (byte_at b 0) 1 && leb (byte_at b 1) 1 && ltb 0 (byte_at b 2)

  report_sided : Sided (report_in own b)
  unfolding report_in
  report_sided =
      chosen Sided (report_fits b)
      (λ h. chosen Sided (eqb (address_at b 3) own) (λ o. omega arith)
      (λ o. chosen Sided (ltb farthest (256 - byte_at b 2)) (λ j. omega arith) (λ j. report_span h)))
      (λ h. omega arith)

  block_sided : Sided (block_in own b)
  unfolding block_in
  block_sided =
      chosen Sided (block_fits b)
      (λ h. chosen Sided (eqb (address_at b 1) own) (λ o. omega arith)
      (λ o.
      span_low
      (right (leb 7 (length b) && leb (length b) 1031) _
      (left (leb 7 (length b) && leb (length b) 1031 && leb (byte_at b 0) 1) (not (odd_first (address_at b 1))) h))))
      (λ h. omega arith)

  ticks_sided : (room : ℕ) → Sided (ticks_in b room)
  unfolding ticks_in
  ticks_sided room = chosen Sided (ticks_fit b) (λ h. chosen Sided (ltb room (7 * count_in b)) (λ j. omega arith) (λ j. tt)) (λ h. omega arith)

  kind_sided : (kind room : ℕ) → Sided (kind_in own kind b room)
  unfolding kind_in
  kind_sided kind room =
      chosen Sided (eqb kind 1) (λ h. chosen Sided (eqb (length b) 0) (λ j. tt) (λ j. omega arith))
      (λ h. chosen Sided (eqb kind 2) (λ h. link_sided)
      (λ h. chosen Sided (eqb kind 3) (λ h. keepalive_sided)
      (λ h. chosen Sided (eqb kind 4) (λ h. operator_sided)
      (λ h. chosen Sided (eqb kind 5) (λ h. report_sided)
      (λ h. chosen Sided (eqb kind 6) (λ h. block_sided)
      (λ h. chosen Sided (eqb kind 7) (λ h. ticks_sided room) (λ h. omega arith)))))))

pub sided : (own : ℕ) (b : List ℕ) (room : ℕ) → Sided (reading own b room)
unfolding reading read_in
sided own b room =
    chosen Sided (ltb room 7) (λ h. omega arith)
    (λ h. chosen Sided (broken b) (λ h. omega arith) (λ h. kind_sided own (body_of b) (kind_of b) room))

-- Of two spans on one side there is one number.
pub same_span : (m n : ℕ) → m ≤ 1 → n ≤ 1 → eqb m 0 ≡ eqb n 0 → m ≡ n
same_span m n low high = go (eqb m 0) refl (eqb n 0) refl
  where
    go : (a : Bool) → eqb m 0 ≡ a → (b : Bool) → eqb n 0 ≡ b → a ≡ b → m ≡ n
    go true p true q e = omega (arith, eqb-true m 0 p, eqb-true n 0 q)
    go true p false q e = absurd (true≢false e)
    go false p true q e = absurd (true≢false (sym e))
    go false p false q e = omega (arith, eqb-false m 0 p, eqb-false n 0 q)
