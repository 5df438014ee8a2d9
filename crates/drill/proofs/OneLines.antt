-- Every step gives no byte or one line, with LF behind it and nowhere else. Assumes nothing.
use Prim.Native.Nat.{ℕ, zero, suc, ◌/◌, ◌%◌}
use mathlib.Core.Path.{refl, sym}
use mathlib.Core.Bool.{Bool, true, false, cond, not, ◌&&◌}
use mathlib.Core.List.{List, [], ◌∷◌, ◌++◌, map, append_assoc}
use native.Mathlib.Omega.{arith}
use lib.ListN.{length}
use lib.Dec.{eqb}
use Rattle.wire.specs.Fields.{address_at, odd_first}
use Rattle.wire.specs.Head.{kind_of, body_of}
use Rattle.controller.specs.State.{State}
use Rattle.controller.specs.Node.{Node, Answer, state_of, answer_of, west_request, east_request, steering}
use Rattle.controller.specs.Record.{outcomes}
use Rattle.ways.specs.Choice.{numbers}
use Rattle.drill.specs.Text.{LF, space, digit, ascii, digits_of, decimal, line, Plain, OneLine}
use Rattle.drill.specs.Lines.{record_line, refused_line, way_line, question_line, settings_line}
use Rattle.drill.specs.Turns.{Step, room, stepped}

plain-append : (a b : List ℕ) → Plain a → Plain b → Plain (a ++ b)
plain-append [] b p q = q
plain-append (x ∷ a) b p q = (p.0, plain-append a b p.1 q)

plain-digit : (d : ℕ) → Plain (digit d ∷ [])
plain-digit d = ((λ e. omega arith), tt)

plain_digits : (k n : ℕ) → Plain (digits_of k n)
unfolding digits_of
plain_digits zero n = tt
plain_digits (suc k) zero = tt
plain_digits (suc k) (suc m) = plain-append (digits_of k (suc m / 10)) _ (plain_digits k (suc m / 10)) (plain-digit (suc m % 10))

plain-decimal : (n : ℕ) → Plain (decimal n)
unfolding decimal
plain-decimal zero = plain-digit 0
plain-decimal (suc m) = plain_digits (suc m) (suc m)

abbrev AllPlain : List (List ℕ) → Type 0
AllPlain [] = Unit {0}
AllPlain (f ∷ l) = Plain f × AllPlain l

joined : (f rest : List ℕ) → Plain f → OneLine rest → OneLine (f ++ (space ∷ rest))
joined f rest p q = record {
  front = f ++ (space ∷ q.front);
  is = rw q.is (sym (append_assoc f (space ∷ q.front) (LF ∷ [])));
  plain = plain-append f (space ∷ q.front) p ((λ e. omega arith), q.plain);
}

pub line_is_one : (fs : List (List ℕ)) → AllPlain fs → OneLine (line fs)
unfolding line
line_is_one [] p = record { front = []; is = refl; plain = tt }
line_is_one (f ∷ []) p = record { front = f; is = refl; plain = p.0 }
line_is_one (f ∷ g ∷ l) p = joined f (line (g ∷ l)) p.0 (line_is_one (g ∷ l) p.1)

numbers-plain : (ns : List ℕ) → AllPlain (map decimal ns)
numbers-plain [] = tt
numbers-plain (n ∷ ns) = (plain-decimal n, numbers-plain ns)

numbers-one : (ns : List ℕ) → OneLine (line (map decimal ns))
numbers-one ns = line_is_one (map decimal ns) (numbers-plain ns)

pub record_one : (k : ℕ) (a : Answer) → OneLine (record_line k a)
unfolding record_line
record_one k a =
    let s = state_of a.node in
    numbers-one (k ∷ a.result ∷ west_request s ∷ east_request s ∷ s.pacer.sequence ∷ length s.stations ∷ a.reports ∷ [])

pub refused-one : (k result : ℕ) → OneLine (refused_line k result)
unfolding refused_line
refused-one k result = numbers-one (k ∷ result ∷ [])

plain-way : Plain (ascii "way")
unfolding ascii
plain-way = ((λ e. omega arith), ((λ e. omega arith), ((λ e. omega arith), tt)))

plain-settings : Plain (ascii "settings")
unfolding ascii
plain-settings = (
  (λ e. omega arith),
  (
    (λ e. omega arith),
    (
      (λ e. omega arith),
      (
        (λ e. omega arith),
        ((λ e. omega arith), ((λ e. omega arith), ((λ e. omega arith), ((λ e. omega arith), tt)))),
      ),
    ),
  ),
)

pub way-one : (k : ℕ) (told : List ℕ) → OneLine (way_line k told)
unfolding way_line
way-one k told = line_is_one (decimal k ∷ ascii "way" ∷ map decimal told) (plain-decimal k, (plain-way, numbers-plain told))

pub settings-one : (result : ℕ) → OneLine (settings_line result)
unfolding settings_line
settings-one result = line_is_one (ascii "settings" ∷ decimal result ∷ []) (plain-settings, (plain-decimal result, tt))

either : (t : Bool) (a b : List ℕ) → OneLine a → OneLine b → OneLine (cond t a b)
either true a b p q = p
either false a b p q = q

pub question-one : (k : ℕ) (s : State) (b : List ℕ) → OneLine (question_line k s b)
unfolding question_line
question-one k s b =
    either (eqb (length b) 6 && not (odd_first (address_at b 0))) _ _ (way-one k (numbers (steering s (address_at b 0)))) (refused-one k 4)

-- A whole record always gives one line.
pick : (t : Bool) (x y : Step) → OneLine x.line → OneLine y.line → OneLine (cond t x y).line
pick true x y p q = p
pick false x y p q = q

pub step-one : (k : ℕ) (n : Node) (b : List ℕ) → OneLine (stepped k n b).line
unfolding stepped
step-one k n b =
    pick (eqb (kind_of b) 40) _ _ (question-one k (state_of n) (body_of b)) (record_one k (answer_of n (outcomes (state_of n) b room)))
