-- What the contracts speak of in place of an answer tells answers apart; and two clauses of a contract are one fact. Assumes nothing.
use Prim.Native.Nat.{ℕ}
use mathlib.Core.Path.{◌≡◌, refl, ap, sym, ◌∙◌}
use mathlib.Core.List.{List}
use native.Mathlib.Omega.{arith}
use base.Logic.{sep, ent, emp, both⊢, id⊢, via, fst∗, snd∗, emp∗, mono_l}
use contract.Monad.{fact, fact_i, fact_use}
use borrow.Fn.World.{World}
use Rattle.std.specs.Prelude.{◌≤◌, Bool, true, false, cond, eqb, Option, Some, None, Result, Ok, Err, MatchResult, ⊤}
use Rattle.std.proofs.Math.Option.{some}
use Rattle.wire.specs.declared.results.Refusal.{Refusal}
use Rattle.wire.specs.declared.results.Taken.{Taken}
use Rattle.wire.specs.Results.{refusal_number, taken_number}
use Rattle.wire.proofs.Numbers.{refusals_told_apart, taken_told_apart, refusal_few, taken_apart, answers_told_apart}
use Rattle.blocks.specs.declared.attributes.Attributes.{Attributes}
use Rattle.stations.specs.declared.station.Station.{Station}
use Rattle.stations.specs.Hearing.{Placed, left}
use Rattle.controller.specs.declared.record.Returned.{Returned}
use Rattle.controller.specs.Node.{Node, Started, Answer, Shown, start_number, started_in, answer_in, shown, shown_as}

-- Two clauses of one contract, at each model of the logic.
pub two_facts : (w : World) (φ ψ : Type 0) → sep w.𝓤 (fact w.𝓤 φ) (fact w.𝓤 ψ) ≡ fact w.𝓤 (φ × ψ)
two_facts w φ ψ = both⊢ w.𝓤 one two
  where
    one : ent w.𝓤 (sep w.𝓤 (fact w.𝓤 φ) (fact w.𝓤 ψ)) (fact w.𝓤 (φ × ψ))
    one = fact_use w.𝓤 φ (fst∗ w.𝓤 (fact w.𝓤 φ) (fact w.𝓤 ψ)) (λ p.
        fact_use w.𝓤 ψ (snd∗ w.𝓤 (fact w.𝓤 φ) (fact w.𝓤 ψ)) (λ q. fact_i w.𝓤 (φ × ψ) _ (p, q)))

    two : ent w.𝓤 (fact w.𝓤 (φ × ψ)) (sep w.𝓤 (fact w.𝓤 φ) (fact w.𝓤 ψ))
    two = fact_use w.𝓤 (φ × ψ) (id⊢ w.𝓤 (fact w.𝓤 (φ × ψ))) (λ p.
        via w.𝓤 (fact w.𝓤 ψ) (fact_i w.𝓤 ψ (fact w.𝓤 (φ × ψ)) p.1)
        (via w.𝓤 (sep w.𝓤 (emp w.𝓤) (fact w.𝓤 ψ)) (emp∗ w.𝓤 (fact w.𝓤 ψ)) (mono_l w.𝓤 (fact w.𝓤 ψ) (fact_i w.𝓤 φ (emp w.𝓤) p.0))))

-- A copy that cannot fail is of what was copied.
pub copies_alike : {A E : Type 0} (t : A) (x y : Result A E) → MatchResult x (λ u. u ≡ t) (λ r. ¬ ⊤) → MatchResult y (λ u. u ≡ t) (λ r. ¬ ⊤) → x ≡ y
copies_alike t (Ok u) (Ok v) p q = ap Ok (p ∙ sym q)
copies_alike t (Ok u) (Err r) p q = absurd (q tt)
copies_alike t (Err r) y p q = absurd (p tt)

-- Stations and answer of a call on the table.
pub lefts_told_apart : (l m : List Station) (x y : Result Taken Refusal) → left l x ≡ left m y → (l ≡ m) × (x ≡ y)
lefts_told_apart l m x y e = (ap (λ (p : Placed). p.stations) e, answers_told_apart x y (ap (λ (p : Placed). p.result) e))

refusal_is : (r : Refusal) (n : ℕ) → refusal_number r ≡ n → (1 ≤ n) × (n ≤ 8)
refusal_is r n e = rw (← e) (refusal_few r)

-- Node and answer of a start.
starts_apart : (x y : Result (Unit {0}) Refusal) → start_number x ≡ start_number y → x ≡ y
starts_apart (Ok u) (Ok v) e = refl
starts_apart (Ok u) (Err r) e = absurd (omega (arith, refusal_is r 0 (sym e)))
starts_apart (Err r) (Ok u) e = absurd (omega (arith, refusal_is r 0 e))
starts_apart (Err q) (Err r) e = ap Err (refusals_told_apart q r e)

pub starts_told_apart : (n m : Node) (x y : Result (Unit {0}) Refusal) → started_in n x ≡ started_in m y → (n ≡ m) × (x ≡ y)
starts_told_apart n m x y e = (ap (λ (s : Started). s.node) e, starts_apart x y (ap (λ (s : Started). s.result) e))

-- Node and answer of a record.
taken_refused : (t : Taken) (r : Refusal) → taken_number t ≡ refusal_number r → ⊥
taken_refused t r e = taken_apart t (rw e (refusal_few r))

pub records_told_apart : (n m : Node) (x y : Result Returned Refusal) → answer_in n x ≡ answer_in m y → (n ≡ m) × (x ≡ y)
records_told_apart n m (Ok r) (Ok s) e = (
  ap (λ (a : Answer). a.node) e,
  ap Ok (returned_apart r s (ap (λ (a : Answer). a.reports) e) (taken_told_apart r.taken s.taken (ap (λ (a : Answer). a.result) e))),
)
  where
    returned_apart : (r s : Returned) → r.reports ≡ s.reports → r.taken ≡ s.taken → r ≡ s
    returned_apart r s p q =
        ap (λ (k : ℕ). record { reports = k; taken = r.taken }) p ∙ ap (λ (t : Taken). record { reports = s.reports; taken = t }) q
records_told_apart n m (Ok r) (Err s) e = absurd (taken_refused r.taken s (ap (λ (a : Answer). a.result) e))
records_told_apart n m (Err r) (Ok s) e = absurd (taken_refused s.taken r (sym (ap (λ (a : Answer). a.result) e)))
records_told_apart n m (Err r) (Err s) e = (ap (λ (a : Answer). a.node) e, ap Err (refusals_told_apart r s (ap (λ (a : Answer). a.result) e)))

-- Attributes asked for: those that a reply shows, and 3 is the reply of no station.
attributes_in : Shown → Attributes
attributes_in s = record {
  kind = s.kind;
  reserved0 = s.reserved0;
  reserved1 = s.reserved1;
  weight0 = s.weight0;
  weight1 = s.weight1;
  behind = eqb s.reply 1;
}

attributes_back : (x : Attributes) → attributes_in (shown (some x)) ≡ x
unfolding attributes_in
attributes_back x = ap (λ (b : Bool). record {
  kind = x.kind;
  reserved0 = x.reserved0;
  reserved1 = x.reserved1;
  weight0 = x.weight0;
  weight1 = x.weight1;
  behind = b;
}) (go x.behind)
  where
    go : (b : Bool) → eqb (cond b 1 0) 1 ≡ b
    go true = refl
    go false = refl

never_3 : (b : Bool) → cond {A = ℕ} b 1 0 ≡ 3 → ⊥
never_3 true e = omega (arith, e)
never_3 false e = omega (arith, e)

pub shown_told_apart : (x y : Option Attributes) → shown_as x ≡ shown_as y → x ≡ y
shown_told_apart None None e = refl
shown_told_apart None (Some y) e = absurd (never_3 y.behind (sym (ap (λ (s : Shown). s.reply) e)))
shown_told_apart (Some x) None e = absurd (never_3 x.behind (ap (λ (s : Shown). s.reply) e))
shown_told_apart (Some x) (Some y) e = ap Some (sym (attributes_back x) ∙ ap attributes_in e ∙ attributes_back y)
