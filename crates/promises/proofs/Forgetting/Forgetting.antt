-- 01: "a station whose age reaches the forget time leaves." After so many ticks without a report of it that was taken it is in no table, whatever else came. Assumes nothing.
use Prim.Native.Nat.{ℕ, ◌<◌, ◌≤◌}
use mathlib.Core.Path.{◌≡◌, refl, sym, ap, subst, ◌∙◌}
use mathlib.Core.Bool.{true, false}
use mathlib.Core.List.{List, [], ◌∷◌, ◌++◌}
use native.Mathlib.Omega.{arith}
use borrow.Author.Tests.{ne_eqb}
use Rattle.settings.specs.declared.choice.Ticks.{Ticks}
use Rattle.settings.specs.Kept.{TicksKept}
use Rattle.stations.specs.declared.station.Station.{Station}
use Rattle.stations.specs.Stations.{present}
use Rattle.stations.specs.Table.{Each}
use Rattle.stations.specs.Kept.{StationKept}
use Rattle.stations.proofs.Lists.{each_both}
use Rattle.stations.proofs.Inserting.{Nobody}
use Rattle.controller.specs.State.{Choice, State, started}
use Rattle.controller.specs.Record.{outcome}
use Rattle.controller.specs.Kept.{StateKept}
use Rattle.controller.specs.Node.{Started}
use Rattle.controller.specs.Promise.{Begun}
use Rattle.promises.specs.History.{Call, after, Always, AllBytes, start_of, Made, calls_of, Met}
use Rattle.promises.specs.Room.{holds_hop}
use Rattle.promises.specs.Spans.{own_in, ticks_in, ticks_from, seen, some_taken}
use Rattle.promises.specs.Forgetting.{moves, ticks_unheard, Aged, IsDue, InTime, TenSeconds}
use Rattle.promises.proofs.Demand2.AfterKept.{after_kept, choice-after}
use Rattle.promises.proofs.Demand2.Coming.{state-after, ruled}
use Rattle.promises.proofs.Spans.ProgramNodes.{calls_both}
use Rattle.promises.proofs.Forgetting.Ages.{Has, age_is_ticks}
use Rattle.promises.proofs.Forgetting.Staying.{stays}

nobody_absent : (a : ℕ) (l : List Station) → Nobody a l → present a l ≡ false
unfolding Each present
nobody_absent a [] e = refl
nobody_absent a (x ∷ l) e = rw (ne_eqb x.address a e.0, nobody_absent a l e.1)

-- In a state that is kept every age is below the forget time.
too_old : (a k : ℕ) (s : State) → StateKept s → Aged a k s.stations → IsDue s k → present a s.stations ≡ false
too_old a k s kept age old =
    nobody_absent a s.stations
    (each_both (StationKept s.choice.address s.choice.ticks.forget s.choice.known) (Has a k) (λ (x : Station). x.address ≡ a → ⊥)
    (λ x q is own. omega (arith, q.age, is own, old)) s.stations kept.stations.each age)

-- Of the rules, from any settings.
pub forgotten : (c : Choice) → TicksKept c.ticks → (h : List Call) → AllBytes h → (a : ℕ) → c.ticks.forget ≤ ticks_unheard a (started c) 0 h
    → present a (after (started c) h).stations ≡ false
unfolding started Each
forgotten c ranges h bytes a old =
    too_old a (ticks_unheard a (started c) 0 h) (after (started c) h) (after_kept c ranges h bytes) (age_is_ticks a (started c) 0 tt h)
    (subst (λ (x : Choice). x.ticks.forget ≤ ticks_unheard a (started c) 0 h) (sym (choice-after (started c) h)) old)

-- A station with a slow interval of ten seconds stays at its hop, whatever else comes, where the forget time is longer than that:
-- in s it stands there, k ticks after it was heard; g are the calls since.
always_map : (P Q : List Call → Type 0) → ((h : List Call) → P h → Q h) → (h : List Call) → Always P h → Always Q h
unfolding Always
always_map P Q k [] e = k [] e
always_map P Q k (c ∷ h) e = (k (c ∷ h) e.0, always_map P Q k h e.1)

pub slow_stays : (s : State) → 10000 < (ticks_in s).forget → (a ringlet hop k : ℕ) → ringlet ≤ 1 → 1 ≤ hop → Aged a k s.stations
    → holds_hop a ringlet hop s.stations ≡ true → (g : List Call) → AllBytes g → some_taken (own_in s) (moves a ringlet hop) g ≡ false
    → Always (TenSeconds a ringlet s k) g → holds_hop a ringlet hop (after s g).stations ≡ true
slow_stays s long a ringlet hop k low some age stands g bytes calm always =
    stays a ringlet hop low some s k age stands g bytes calm
    (always_map (TenSeconds a ringlet s k) (InTime a ringlet s k) (λ h x. record { heard = omega (arith, long, x.heard); up = x.up }) g always)

-- Of the program: b are settings bytes, st what start answered to them, and each call met its contract.
after_on : (s : State) (g h : List Call) → after (after s g) h ≡ after s (h ++ g)
unfolding after
after_on s g [] = refl
after_on s g (c ∷ h) = ap (λ (x : State). (outcome x c.bytes c.room).state) (after_on s g h)

module _ (b : List ℕ) (st : Started) (begun : Begun b st) where
  settings_stay : (h : List Call) → ticks_in (after (start_of b) h) ≡ ticks_from b
  unfolding start_of started
  settings_stay h = ap (λ (c : Choice). c.ticks) (choice-after (start_of b) h)

  pub node_forgets : (h : List Made) → Met st h → (a : ℕ) → (ticks_from b).forget ≤ ticks_unheard a (start_of b) 0 (calls_of h) → present a (seen st h).stations ≡ false
  unfolding start_of started Each
  node_forgets h met a old =
      let is : seen st h ≡ after (start_of b) (calls_of h) = state-after b st begun h met in
      let k : ℕ = ticks_unheard a (start_of b) 0 (calls_of h) in
      ap (λ (x : State). present a x.stations) is
      ∙ too_old a k (after (start_of b) (calls_of h)) (subst StateKept is (ruled b st begun h met).kept.state) (age_is_ticks a (start_of b) 0 tt (calls_of h))
      (subst (λ (t : Ticks). t.forget ≤ k) (sym (settings_stay (calls_of h))) old)

  -- After the calls g it stands at a hop of a ringlet, k ticks after it was heard; h are the calls since.
  pub node_keeps : (g h : List Made) → Met st g → Met st (h ++ g) → (a ringlet hop k : ℕ) → ringlet ≤ 1 → 1 ≤ hop → Aged a k (seen st g).stations
      → holds_hop a ringlet hop (seen st g).stations ≡ true → AllBytes (calls_of h) → some_taken (own_in (seen st g)) (moves a ringlet hop) (calls_of h) ≡ false
      → Always (InTime a ringlet (seen st g) k) (calls_of h) → holds_hop a ringlet hop (seen st (h ++ g)).stations ≡ true
  node_keeps g h met_g met a ringlet hop k low some age stands bytes calm always =
      let is : seen st (h ++ g) ≡ after (seen st g) (calls_of h) =
      state-after b st begun (h ++ g) met
      ∙ ap (after (start_of b)) (calls_both h g)
      ∙ sym (after_on (start_of b) (calls_of g) (calls_of h))
      ∙ ap (λ (x : State). after x (calls_of h)) (sym (state-after b st begun g met_g)) in
      ap (λ (x : State). holds_hop a ringlet hop x.stations) is ∙ stays a ringlet hop low some (seen st g) k age stands (calls_of h) bytes calm always
