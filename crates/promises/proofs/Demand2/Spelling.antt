-- Calls with records of many ticks among them, and the history in which each of these is read as so many ticks. Assumes nothing.
use Prim.Native.Nat.{ℕ, zero, suc, ◌+◌, ◌≤◌}
use mathlib.Core.Path.{◌≡◌, refl, sym, ◌∙◌, ap}
use mathlib.Core.Bool.{Bool, true, false, true≢false}
use mathlib.Core.List.{List, [], ◌∷◌, ◌++◌, append_assoc}
use native.Mathlib.Omega.{arith}
use lib.ListN.{replicate, replicate-append-replicate}
use borrow.Author.Tests.{le-ltb}
use Rattle.wire.specs.Head.{body_of, broken}
use Rattle.controller.specs.Reading.{Reading}
use Rattle.controller.specs.Reading.{Tick}
use Rattle.controller.specs.Reading.{count_in, reading, many_ticks}
use Rattle.controller.specs.State.{State}
use Rattle.controller.specs.Handling.{acted, judged}
use Rattle.controller.specs.Closing.{is_tick}
use Rattle.controller.specs.Record.{Outcome, closed, outcome_of, outcome, ticking, outcomes}
use Rattle.controller.proofs.Manys.{Many, many_parts, other_event}
use Rattle.promises.specs.History.{Call, after, answered, tick_with, spelled, spelled_out, after_all, answered_all}

-- A history goes on from what the one before it left.
pub after_both : (s : State) (x h : List Call) → after s (x ++ h) ≡ after (after s h) x
unfolding after
after_both s [] h = refl
after_both s (c ∷ x) h = ap (λ (z : State). (outcome z c.bytes c.room).state) (after_both s x h)

pub spelled_both : (x h : List Call) → spelled_out (x ++ h) ≡ spelled_out x ++ spelled_out h
unfolding spelled_out
spelled_both [] h = refl
spelled_both (c ∷ x) h = ap (λ (l : List Call). spelled c ++ l) (spelled_both x h) ∙ sym (append_assoc (spelled c) (spelled_out x) (spelled_out h))

-- A tick with room is a tick.
module _ (room : ℕ) (enough : 7 ≤ room) where
  pub tick_read : (own : ℕ) → reading own (tick_with room).bytes room ≡ Tick
  unfolding reading broken
  tick_read own = rw (le-ltb room 7 enough) refl

  pub tick-outcome : (s : State) → outcome s (tick_with room).bytes room ≡ outcome_of Tick [] s
  unfolding outcome
  tick-outcome s = ap (λ (r : Reading). outcome_of r [] s) (tick_read s.choice.address)

  pub tick-taken : (s : State) → (outcome s (tick_with room).bytes room).result ≡ 0
  unfolding outcome_of acted judged closed
  tick-taken s = ap (λ (o : Outcome). o.result) (tick-outcome s)

  more : (n : ℕ) → replicate n (tick_with room) ++ (tick_with room ∷ []) ≡ replicate (suc n) (tick_with room)
  more n =
      let e : n + 1 ≡ suc n = omega arith in
      replicate-append-replicate n 1 (tick_with room) ∙ ap (λ (k : ℕ). replicate k (tick_with room)) e

  -- The next tick comes first or last.
  pub next-tick : (n : ℕ) (h : List Call) → replicate n (tick_with room) ++ (tick_with room ∷ h) ≡ replicate (suc n) (tick_with room) ++ h
  next-tick n h = sym (append_assoc (replicate n (tick_with room)) (tick_with room ∷ []) h) ∙ ap (λ (l : List Call). l ++ h) (more n)

  -- n ticks.
  pub ticks-after : (n : ℕ) (s : State) (h : List Call) → (ticking n (after s h)).state ≡ after s (replicate n (tick_with room) ++ h)
  unfolding ticking after
  ticks-after zero s h = refl
  ticks-after (suc n) s h =
      ap (λ (o : Outcome). (ticking n o.state).state) (sym (tick-outcome (after s h)))
      ∙ ticks-after n s (tick_with room ∷ h)
      ∙ ap (after s) (next-tick n h)

-- A call that is one event, and one that is many ticks.
module _ (c : Call) where
  pub spelled-one : many_ticks c.bytes c.room ≡ false → spelled c ≡ c ∷ []
  unfolding spelled
  spelled-one single = rw single

  pub spelled-many : many_ticks c.bytes c.room ≡ true → spelled c ≡ replicate (count_in (body_of c.bytes)) (tick_with c.room)
  unfolding spelled
  spelled-many is = rw is

  pub outcomes-one : (s : State) → many_ticks c.bytes c.room ≡ false → outcomes s c.bytes c.room ≡ outcome s c.bytes c.room
  unfolding outcomes
  outcomes-one s single = rw single

  pub outcomes-many : (s : State) → many_ticks c.bytes c.room ≡ true → outcomes s c.bytes c.room ≡ ticking (count_in (body_of c.bytes)) s
  unfolding outcomes
  outcomes-many s is = rw is

  pub many-room : many_ticks c.bytes c.room ≡ true → 7 ≤ c.room
  many-room is = let m : Many c.bytes c.room = many_parts c.bytes c.room is in omega (arith, m.low, m.space)

  -- What is read as something else than a tick is one event.
  pub no_tick-one : (own : ℕ) (r : Reading) → reading own c.bytes c.room ≡ r → is_tick r ≡ false → spelled c ≡ c ∷ []
  no_tick-one own r is other =
      spelled-one (other_event c.bytes c.room own (λ e. true≢false (sym (ap is_tick (sym is ∙ e)) ∙ other)))

  -- The two cases.
  pub of_call : {A : Type 0} → (many_ticks c.bytes c.room ≡ true → A) → (many_ticks c.bytes c.room ≡ false → A) → A
  of_call {A} f g = go (many_ticks c.bytes c.room) refl
    where
      go : (b : Bool) → many_ticks c.bytes c.room ≡ b → A
      go true e = f e
      go false e = g e

  pub call-after : (s : State) (h : List Call) → (outcomes (after s h) c.bytes c.room).state ≡ after s (spelled c ++ h)
  unfolding after
  call-after s h =
      of_call
      (λ is.
      ap (λ (o : Outcome). o.state) (outcomes-many (after s h) is)
      ∙ ticks-after c.room (many-room is) (count_in (body_of c.bytes)) s h
      ∙ ap (λ (l : List Call). after s (l ++ h)) (sym (spelled-many is)))
      (λ single. ap (λ (o : Outcome). o.state) (outcomes-one (after s h) single) ∙ ap (λ (l : List Call). after s (l ++ h)) (sym (spelled-one single)))

-- What calls leave is what their history leaves ..
pub read_as_ticks : (s : State) (h : List Call) → after_all s h ≡ after s (spelled_out h)
unfolding after_all spelled_out after
read_as_ticks s [] = refl
read_as_ticks s (c ∷ h) = ap (λ (z : State). (outcomes z c.bytes c.room).state) (read_as_ticks s h) ∙ call-after c s (spelled_out h)

-- .. and a call that is one event is answered as after that history.
pub answered-one : (s : State) (h : List Call) (c : Call) → many_ticks c.bytes c.room ≡ false → answered_all s h c ≡ answered s (spelled_out h) c
answered-one s h c single = outcomes-one c (after_all s h) single ∙ ap (λ (z : State). outcome z c.bytes c.room) (read_as_ticks s h)
