-- 02, Item 2, over whole histories: "while hold-off runs, a change between statuses that are both worse than the one in force stores the new status and lets the time run on. When it ends,
-- the status then stored comes into force." And what it is for: a span whose link never tells a status as good as the one in force switches in time. Assumes nothing.
-- s is any state, g the calls before the link record c of span n, h the calls after it, in which the link swings, l later ones in which it tells nothing.
use Prim.Native.Nat.{ℕ, ◌+◌, ◌<◌, ◌≤◌}
use mathlib.Core.Path.{◌≡◌, refl, sym, ◌∙◌, ap, subst}
use mathlib.Core.Bool.{Bool, true, false, cond, ◌||◌, ◌&&◌}
use mathlib.Core.List.{List, [], ◌∷◌, ◌++◌}
use native.Mathlib.Omega.{arith}
use lib.Dec.{eqb, leb}
use borrow.Author.Tests.{eqb-false, eq-eqb, leb-false}
use Rattle.settings.specs.declared.choice.Ticks.{Ticks}
use Rattle.settings.specs.Kept.{TicksKept}
use Rattle.spans.specs.declared.span.Span.{Span}
use Rattle.spans.specs.Codes.{good, degraded, failed, SF, SD, IDLE, none, higher}
use Rattle.spans.specs.Records.{linked}
use Rattle.spans.specs.Requests.{automatic}
use Rattle.spans.specs.Kept.{SpanFair}
use Rattle.spans.specs.HoldOff.{HeldOff, LinkDecides}
use Rattle.spans.proofs.HoldOff.{held-ticked, held-swung, held_same, held-over}
use Rattle.spans.proofs.Switching.{Switching, switched, switching_first, switching_linked, switching_ticked, switching_same}
use Rattle.wire.proofs.Truths.{neither}
use Rattle.controller.specs.Reading.{Reading}
use Rattle.controller.specs.Reading.{Refused, Tick, Link, Keepalive, Operator, Heard, Block}
use Rattle.controller.specs.State.{Choice, State, started}
use Rattle.promises.specs.History.{Call, after, AllBytes}
use Rattle.promises.specs.Spans.{own_in, ticks_in, read_as, is_link, some_taken, ticks_taken, link_taken, span_after, request_on, automatic_on}
use Rattle.promises.specs.HoldOff.{is_as_good, as_good_taken, status_told, SwitchesInTime}
use Rattle.promises.proofs.Demand2.AfterKept.{after_kept, choice-after}
use Rattle.promises.proofs.Spans.Links.{link-step, over_calls}
use Rattle.promises.proofs.Spans.HoldOff.{idle_of, sf_of, sd_alone_of, starts, goes_on_lem}
use Rattle.promises.proofs.Spans.Rising.{span_fair}

-- A link record of the span that is not as good as f is worse.
as_bad : (n f status : ℕ) → is_as_good n f (Link n status) ≡ false → f < status
as_bad n f status bad = leb-false status f (ap (λ (b : Bool). b && leb status f) (sym (eq-eqb n n refl)) ∙ bad)

module _ (s : State) (n : ℕ) (side : n ≤ 1) (g : List Call) (c : Call) (x : ℕ) (is : read_as (own_in s) c ≡ Link n x)
    (calm : (span_after n s g).holdoff ≡ 0) where
  module _ (other : x ≡ (span_after n s g).stored → ⊥) (worse : (span_after n s g).force < x) (h : List Call)
      (swings : as_good_taken (own_in s) n (span_after n s g).force h ≡ false) (more : ticks_taken (own_in s) h < (ticks_in s).holdoff) where
    -- "lets the time run on": the ticks count from the first worse status, and the latest is stored.
    pub runs_on : HeldOff (ticks_in s) (span_after n s g).force (status_told (own_in s) n x h) (ticks_taken (own_in s) h) (span_after n s (h ++ (c ∷ g)))
    runs_on =
        let t : Ticks = ticks_in s in
        let f : ℕ = (span_after n s g).force in
        over_calls s n side (λ (k z : ℕ) (u : Span). k < t.holdoff → HeldOff t f z k u)
        (λ k z u v same p low. held_same t f z k u (p low) v same)
        (λ k z u p low. held-ticked t f z k u (p (omega arith))) (is_as_good n f)
        (λ k z status u bad p low. held-swung t f z k u (p low) low status (as_bad n f status bad)) (c ∷ g) x
        (λ low. starts s n side g c x is calm other worse) h swings more

    -- "When it ends, the status then stored comes into force."
    pub ends : (l : List Call) → link_taken (own_in s) n l ≡ false
        → HeldOff (ticks_in s) (span_after n s g).force (status_told (own_in s) n x h) (ticks_taken (own_in s) l + ticks_taken (own_in s) h)
        (span_after n s (l ++ (h ++ (c ∷ g))))
    ends = goes_on_lem s n side (span_after n s g).force (status_told (own_in s) n x h) (ticks_taken (own_in s) h) (h ++ (c ∷ g)) runs_on

    pub latest_in_force : (l : List Call) → link_taken (own_in s) n l ≡ false → (ticks_in s).holdoff ≤ ticks_taken (own_in s) l + ticks_taken (own_in s) h
        → (span_after n s (l ++ (h ++ (c ∷ g)))).force ≡ status_told (own_in s) n x h
    latest_in_force l quiet = held-over (ticks_in s) (span_after n s (l ++ (h ++ (c ∷ g)))) (ends l quiet)

  -- A link that was good.
  module _ (stored : (span_after n s g).stored ≡ good) (force : (span_after n s g).force ≡ good) (worse : good < x) (h : List Call)
      (swings : as_good_taken (own_in s) n good h ≡ false) (more : ticks_taken (own_in s) h < (ticks_in s).holdoff) where
    from-good : (l : List Call) → link_taken (own_in s) n l ≡ false
        → HeldOff (ticks_in s) good (status_told (own_in s) n x h) (ticks_taken (own_in s) l + ticks_taken (own_in s) h) (span_after n s (l ++ (h ++ (c ∷ g))))
    from-good l quiet =
        let all : ℕ = ticks_taken (own_in s) l + ticks_taken (own_in s) h in
        let z : ℕ = status_told (own_in s) n x h in
        let told : as_good_taken (own_in s) n (span_after n s g).force h ≡ false = ap (λ (f : ℕ). as_good_taken (own_in s) n f h) force ∙ swings in
        subst (λ (f : ℕ). HeldOff (ticks_in s) f z all (span_after n s (l ++ (h ++ (c ∷ g))))) force (ends (λ e. omega arith) (omega arith) h told more l quiet)

    -- IDLE until the time of the first worse status is over, if nothing else requests ..
    pub idle_while_swinging : (l : List Call) → link_taken (own_in s) n l ≡ false → ticks_taken (own_in s) l + ticks_taken (own_in s) h < (ticks_in s).holdoff
        → LinkDecides (ticks_in s) (span_after n s (l ++ (h ++ (c ∷ g)))) → request_on n (after s (l ++ (h ++ (c ∷ g)))) ≡ IDLE
    idle_while_swinging l quiet = idle_of s n (l ++ (h ++ (c ∷ g))) (from-good l quiet)

    -- .. and then what the latest status gives: SF, which the operator's FS alone is above, or SD.
    module _ (l : List Call) (quiet : link_taken (own_in s) n l ≡ false)
        (over : (ticks_in s).holdoff ≤ ticks_taken (own_in s) l + ticks_taken (own_in s) h) where
      pub failed_in_the_end : status_told (own_in s) n x h ≡ failed
          → (automatic_on n (after s (l ++ (h ++ (c ∷ g)))) ≡ SF)
          × (request_on n (after s (l ++ (h ++ (c ∷ g)))) ≡ higher (span_after n s (l ++ (h ++ (c ∷ g)))).operator SF)
      failed_in_the_end latest = sf_of s n (l ++ (h ++ (c ∷ g))) (from-good l quiet) latest over

      pub degraded_in_the_end : status_told (own_in s) n x h ≡ degraded → LinkDecides (ticks_in s) (span_after n s (l ++ (h ++ (c ∷ g))))
          → request_on n (after s (l ++ (h ++ (c ∷ g)))) ≡ SD
      degraded_in_the_end latest = sd_alone_of s n (l ++ (h ++ (c ∷ g))) (from-good l quiet) latest over

-- Calls that tell nothing of the link tell nothing as good.
untold : (own n f : ℕ) (h : List Call) → link_taken own n h ≡ false → as_good_taken own n f h ≡ false
unfolding some_taken
untold own n f [] quiet = refl
untold own n f (c ∷ h) quiet =
    let r : Reading = read_as own c in
    let (first, rest) = neither (is_link n r) (link_taken own n h) quiet in
    ap (λ (b : Bool). b || as_good_taken own n f h) (one r first) ∙ untold own n f h rest
  where
    one : (r : Reading) → is_link n r ≡ false → is_as_good n f r ≡ false
    one (Refused k) e = refl
    one Tick e = refl
    one (Link m status) e = ap (λ (b : Bool). b && leb status f) e
    one (Keepalive m) e = refl
    one (Operator m request) e = refl
    one (Heard m p) e = refl
    one (Block m a) e = refl

-- The request's own example for every hold-off: a good link fails (the call c), is degraded (the call d) after fewer ticks than the setting's, and then tells nothing.
module _ (s : State) (n : ℕ) (side : n ≤ 1) (g : List Call) (c : Call) (fails : read_as (own_in s) c ≡ Link n failed) (calm : (span_after n s g).holdoff ≡ 0)
    (stored : (span_after n s g).stored ≡ good) (force : (span_after n s g).force ≡ good) (h : List Call) (before : link_taken (own_in s) n h ≡ false)
    (early : ticks_taken (own_in s) h < (ticks_in s).holdoff) (d : Call) (fades : read_as (own_in s) d ≡ Link n degraded) (l : List Call)
    (after-it : link_taken (own_in s) n l ≡ false) where
  told : status_told (own_in s) n failed (d ∷ h) ≡ degraded
  unfolding status_told
  told = rw (fades, eq-eqb n n refl) refl

  no_tick : ticks_taken (own_in s) (d ∷ h) ≡ ticks_taken (own_in s) h
  unfolding ticks_taken
  no_tick = rw fades refl

  only_worse : as_good_taken (own_in s) n good (d ∷ h) ≡ false
  unfolding some_taken
  only_worse = rw (fades, eq-eqb n n refl) (untold (own_in s) n good h before)

  -- "IDLE at 29" ..
  pub idle_before : ticks_taken (own_in s) l + ticks_taken (own_in s) h < (ticks_in s).holdoff → LinkDecides (ticks_in s) (span_after n s (l ++ (d ∷ (h ++ (c ∷ g)))))
      → request_on n (after s (l ++ (d ∷ (h ++ (c ∷ g))))) ≡ IDLE
  idle_before more =
      idle_while_swinging s n side g c failed fails calm stored force (omega arith) (d ∷ h) only_worse (omega (arith, no_tick, early)) l after-it (omega (arith, no_tick, more))

  -- .. "degraded after tick 20 gives SD after tick 30".
  pub sd_then : (ticks_in s).holdoff ≤ ticks_taken (own_in s) l + ticks_taken (own_in s) h → LinkDecides (ticks_in s) (span_after n s (l ++ (d ∷ (h ++ (c ∷ g)))))
      → request_on n (after s (l ++ (d ∷ (h ++ (c ∷ g))))) ≡ SD
  sd_then over =
      degraded_in_the_end s n side g c failed fails calm stored force (omega arith) (d ∷ h) only_worse (omega (arith, no_tick, early)) l after-it
      (omega (arith, no_tick, over)) told

-- The customer's point, from any state whose span is in range; f is in force after g, and d tells a worse status.
pub switches : (s : State) (n : ℕ) → n ≤ 1 → (g : List Call) → SpanFair (ticks_in s) (span_after n s g) → (d : Call) (x : ℕ) → read_as (own_in s) d ≡ Link n x
    → let f = (span_after n s g).force in
    f < x → (h : List Call) → as_good_taken (own_in s) n f h ≡ false → (ticks_in s).holdoff ≤ ticks_taken (own_in s) h → f < (span_after n s (h ++ (d ∷ g))).force
switches s n side g fair d x is worse h swings over =
    let t : Ticks = ticks_in s in
    let u : Span = span_after n s g in
    let f : ℕ = u.force in
    let first : Switching t f 0 (span_after n s (d ∷ g)) =
    switching_same t f 0 (linked t x u) (switching_first t x u fair worse) (span_after n s (d ∷ g)) (link-step s n side g d x is) in
    switched t f (ticks_taken (own_in s) h) (span_after n s (h ++ (d ∷ g)))
    (over_calls s n side (λ (k z : ℕ) (v : Span). Switching t f k v) (λ k z v w same p. switching_same t f k v p w same) (λ k z v p. switching_ticked t f k v p)
    (is_as_good n f) (λ k z status v bad p. switching_linked t f k v p status (as_bad n f status bad)) (d ∷ g) x first h swings) over

fair_after : (c : Choice) → TicksKept c.ticks → (n : ℕ) (h : List Call) → AllBytes h → SpanFair c.ticks (span_after n (started c) h)
unfolding started
fair_after c t n h b =
    subst (λ (k : Choice). SpanFair k.ticks (span_after n (started c) h)) (choice-after (started c) h) (span_fair n (after (started c) h) (after_kept c t h b))

pub switches_in_time : SwitchesInTime span_after
unfolding started
switches_in_time c t n side g b d x is worse h swings over = switches (started c) n side g (fair_after c t n g b) d x is worse h swings over

-- A status worse than another is a request: SD, or SF.
pub worse_requests : (t : Ticks) (u : Span) → u.force ≤ failed → good < u.force → SD ≤ automatic t u
unfolding automatic
worse_requests t u low worse = go (eqb u.force failed) refl (leb t.keepalive u.age) u.cable (eqb u.force degraded) refl
  where
    go : (a : Bool) → eqb u.force failed ≡ a → (b c : Bool) → (e : Bool) → eqb u.force degraded ≡ e → SD ≤ cond (a || b || c) SF (cond e SD none)
    go true p b c e q = omega arith
    go false p true c e q = omega arith
    go false p false true e q = omega arith
    go false p false false true q = omega arith
    go false p false false false q = absurd (eqb-false u.force degraded q (omega (arith, eqb-false u.force failed p)))
