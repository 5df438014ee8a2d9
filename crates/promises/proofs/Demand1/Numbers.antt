-- The result of a record agrees with the tests in their order, kind by kind. Assumes nothing.
use Prim.Native.Nat.{ℕ, zero, suc, ◌-◌, ◌*◌, ◌<◌}
use mathlib.Core.Path.{◌≡◌, refl, sym, ◌∙◌}
use mathlib.Core.Bool.{Bool, true, false, not, cond, true≢false}
use mathlib.Core.List.{List, [], ◌∷◌}
use mathlib.Core.Option.{Option, none, some}
use native.Mathlib.Omega.{arith}
use lib.ListN.{length}
use lib.Dec.{eqb, ltb}
use borrow.Author.Tests.{ne_eqb, le-leb, lt-leb}
use Rattle.wire.specs.Fields.{byte_at, address_at}
use Rattle.wire.specs.Head.{kind_of, body_of, broken}
use Rattle.spans.specs.Requests.{down}
use Rattle.blocks.specs.Types.{among}
use Rattle.blocks.specs.Meaning.{Meaning, malformed, aside, shows, meaning}
use Rattle.stations.specs.declared.station.Station.{Station}
use Rattle.stations.specs.declared.station.Report.{Report}
use Rattle.stations.specs.Station.{farthest}
use Rattle.stations.specs.Stations.{displaced, renewed, present, sequence_of}
use Rattle.stations.specs.Hearing.{Placed, distance, heard_again, placed_known, placed_new, placed_by, placed}
use Rattle.controller.specs.Reading.{Reading}
use Rattle.controller.specs.Reading.{Refused, Tick, Link, Keepalive, Operator, Heard, Block}
use Rattle.controller.specs.Reading.{link_fits, keepalive_fits, operator_fits, report_fits, report_in, block_fits, block_in, block_of, count_in, ticks_fit, ticks_in, reading}
use Rattle.controller.specs.State.{State, span_of}
use Rattle.controller.specs.Handling.{acted, gives, hearing, taking, learning}
use Rattle.controller.specs.Record.{refusal, outcomes}
use Rattle.promises.specs.Refusals.{numbers, is_malformed, tests}
use Rattle.promises.proofs.Demand1.Order.{of_all, first_of, Agrees, all_results}
use Rattle.promises.proofs.Demand1.Results.{given, result_is}

-- "After 0 and 20 to 24 the closing steps run": the numbers of a record that is not refused. 02, Item 6, takes 23 out.
abbrev pub taken : List ℕ
taken = 0 ∷ 20 ∷ 21 ∷ 22 ∷ 24 ∷ []

-- A report that finds its way to the stations: 0 or 22.
module _ (p : Report) (l : List Station) where
  known-taken : (d : ℕ) → among (placed_known d p l).result taken ≡ true
  unfolding placed_known among
  known-taken d = go (ltb 128 d)
    where
      go : (t : Bool) → among (cond {A = Placed} t (gives 22 l) (gives 0 (renewed p.address (heard_again d p) (displaced p l)))).result taken ≡ true
      go true = refl
      go false = refl

  new_taken : among (placed_new p l).result taken ≡ true
  unfolding placed_new among
  new_taken = refl

  placed-taken : (o : Option ℕ) → among (placed_by o p l).result taken ≡ true
  placed-taken none = new_taken
  placed-taken (some stored) = known-taken (distance p.sequence stored)

module _ (s : State) (block : List ℕ) where
  -- A test that refuses ..
  test : (t : Bool) (n : ℕ) (o : Option ℕ) (r : Reading) → Agrees taken o (given s block r)
      → Agrees taken (cond t (some n) o) (given s block (cond t (Refused n) r))
  unfolding given
  test true n o r h = refl
  test false n o r h = h

  -- .. and one that a record has to pass.
  fits : (t : Bool) (o : Option ℕ) (r : Reading) → Agrees taken o (given s block r)
      → Agrees taken (cond (not t) (some 4) o) (given s block (cond t r (Refused 4)))
  unfolding given
  fits true o r h = h
  fits false o r h = refl

  -- Kind 5: the tests 4, 5 and 6, and no later one.
  heard_agrees : (n : ℕ) (p : Report) → Agrees taken none (given s block (Heard n p))
  unfolding given hearing placed among
  heard_agrees n p = go (eqb p.ringlet n) (down s.choice.ticks (span_of n (acted s.choice.ticks (Heard n p) s.spans)))
    where
      l : List Station
      l = s.stations

      go : (a b : Bool) → among (cond {A = Placed} a (cond b (gives 21 l) (placed p l)) (gives 20 l)).result taken ≡ true
      go true true = refl
      go true false = placed-taken p l (sequence_of p.address l)
      go false b = refl

  report_agrees : (own : ℕ) (body : List ℕ)
      → Agrees taken
      (cond (not (report_fits body)) (some 4)
      (cond (eqb (address_at body 3) own) (some 5)
      (cond (ltb farthest (256 - byte_at body 2)) (some 6) none)))
      (given s block (report_in own body))
  unfolding report_in
  report_agrees own body =
      fits (report_fits body) _ _
      (test (eqb (address_at body 3) own) 5 _ _
      (test (ltb farthest (256 - byte_at body 2)) 6 none _ (heard_agrees _ _)))

  -- Kind 6: the tests 4 and 5, then 21, 7 and 8.
  learnt_agrees : (n a : ℕ)
      → Agrees taken
      (cond (down s.choice.ticks (span_of n s.spans)) (some 21)
      (cond (not (present a s.stations)) (some 7)
      (cond (is_malformed (meaning s.choice.known block)) (some 8) none)))
      (given s block (Block n a))
  unfolding given learning among
  learnt_agrees n a = go (down s.choice.ticks (span_of n s.spans)) (present a l) (meaning s.choice.known block)
    where
      l : List Station
      l = s.stations

      go : (d p : Bool) (m : Meaning)
          → Agrees taken (cond d (some 21) (cond (not p) (some 7) (cond (is_malformed m) (some 8) none)))
          (cond {A = Placed} d (gives 21 l) (cond p (taking a m l) (gives 7 l))).result
      go true p m = refl
      go false false m = refl
      go false true malformed = refl
      go false true (aside k) = refl
      go false true (shows es) = refl

  block_agrees : (own : ℕ) (body : List ℕ)
      → Agrees taken
      (cond (not (block_fits body)) (some 4)
      (cond (eqb (address_at body 1) own) (some 5)
      (cond (down s.choice.ticks (span_of (byte_at body 0) s.spans)) (some 21)
      (cond (not (present (address_at body 1) s.stations)) (some 7)
      (cond (is_malformed (meaning s.choice.known block)) (some 8) none)))))
      (given s block (block_in own body))
  unfolding block_in
  block_agrees own body = fits (block_fits body) _ _ (test (eqb (address_at body 1) own) 5 _ _ (learnt_agrees (byte_at body 0) (address_at body 1)))

  -- Kind 7: the test 4, then that of the room.
  ticks_agrees : (body : List ℕ) (room : ℕ)
      → Agrees taken (cond (not (ticks_fit body)) (some 4) (cond (ltb room (7 * count_in body)) (some 1) none)) (given s block (ticks_in body room))
  unfolding ticks_in given among
  ticks_agrees body room = fits (ticks_fit body) _ _ (test (ltb room (7 * count_in body)) 1 none Tick refl)

-- The kinds: 0, those of the call, and those above.
by_kind : {P : Type 0} (k : ℕ) → (k ≡ 0 → P) → (k ≡ 1 → P) → (k ≡ 2 → P) → (k ≡ 3 → P) → (k ≡ 4 → P) → (k ≡ 5 → P) → (k ≡ 6 → P) → (k ≡ 7 → P)
    → (7 < k → P) → P
by_kind zero p0 p1 p2 p3 p4 p5 p6 p7 more = p0 refl
by_kind (suc zero) p0 p1 p2 p3 p4 p5 p6 p7 more = p1 refl
by_kind (suc (suc zero)) p0 p1 p2 p3 p4 p5 p6 p7 more = p2 refl
by_kind (suc (suc (suc zero))) p0 p1 p2 p3 p4 p5 p6 p7 more = p3 refl
by_kind (suc (suc (suc (suc zero)))) p0 p1 p2 p3 p4 p5 p6 p7 more = p4 refl
by_kind (suc (suc (suc (suc (suc zero))))) p0 p1 p2 p3 p4 p5 p6 p7 more = p5 refl
by_kind (suc (suc (suc (suc (suc (suc zero)))))) p0 p1 p2 p3 p4 p5 p6 p7 more = p6 refl
by_kind (suc (suc (suc (suc (suc (suc (suc zero))))))) p0 p1 p2 p3 p4 p5 p6 p7 more = p7 refl
by_kind (suc (suc (suc (suc (suc (suc (suc (suc k)))))))) p0 p1 p2 p3 p4 p5 p6 p7 more = more (omega arith)

module _ (s : State) (b : List ℕ) (room : ℕ) where
  reading_agrees : Agrees taken (first_of s b room tests) (given s (block_of b) (reading s.choice.address b room))
  unfolding tests first_of reading among given
  reading_agrees =
      let own : ℕ = s.choice.address in
      let body : List ℕ = body_of b in
      let block : List ℕ = block_of b in
      test s block (ltb room 7) 1 _ _
      (test s block (broken b) 2 _ _
      (by_kind (kind_of b)
      (λ e. rw e)
      (λ e. rw e (fits s block (eqb (length body) 0) none Tick refl))
      (λ e. rw e (fits s block (link_fits body) none (Link (byte_at body 0) (byte_at body 1)) refl))
      (λ e. rw e (fits s block (keepalive_fits body) none (Keepalive (byte_at body 0)) refl))
      (λ e. rw e (fits s block (operator_fits body) none (Operator (byte_at body 0) (byte_at body 1)) refl))
      (λ e. rw e (report_agrees s block own body))
      (λ e. rw e (block_agrees s block own body))
      (λ e. rw e (ticks_agrees s block body room))
      (λ h.
      rw (
        le-leb 1 (kind_of b) (omega arith),
        lt-leb (kind_of b) 7 h,
        ne_eqb (kind_of b) 1 (omega arith),
        ne_eqb (kind_of b) 2 (omega arith),
        ne_eqb (kind_of b) 3 (omega arith),
        ne_eqb (kind_of b) 4 (omega arith),
        ne_eqb (kind_of b) 5 (omega arith),
        ne_eqb (kind_of b) 6 (omega arith),
        ne_eqb (kind_of b) 7 (omega arith),
      ))))

  pub agrees : Agrees taken (first_of s b room tests) (outcomes s b room).result
  agrees = rw (result_is s b room) reading_agrees

  -- So the result is a number of the tests, or of a record that is not refused: all of them are listed.
  pub result_listed : among (outcomes s b room).result numbers ≡ true
  unfolding tests among
  result_listed =
      all_results taken tests s b room (outcomes s b room).result agrees (λ n. among n numbers ≡ true)
      (refl, (refl, (refl, (refl, (refl, (refl, (refl, (refl, (refl, (refl, tt))))))))))
      (refl, (refl, (refl, (refl, (refl, tt)))))

-- No number of a record that is not refused is a refusal.
pub not-refused : (n : ℕ) → among n taken ≡ true → refusal n ≡ false
not-refused n = of_all (λ k. refusal k ≡ false) taken n (refl, (refl, (refl, (refl, (refl, tt)))))

pub refused-not-taken : (n : ℕ) → refusal n ≡ true → among n taken ≡ true → ⊥
refused-not-taken n h m = true≢false (sym h ∙ not-refused n m)
