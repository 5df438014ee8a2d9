-- The same of nodes of the program: b are settings bytes, st what start answered to them; calls stand latest first, and each met its contract. Assumes nothing.
use Prim.Native.Nat.{ℕ, zero, suc, ◌-◌, ◌<◌, ◌≤◌}
use mathlib.Core.Path.{◌≡◌, refl, sym, ◌∙◌, ap, subst}
use mathlib.Core.Bool.{Bool, true, false, ◌||◌, true≢false, false≢true}
use mathlib.Core.List.{List, [], ◌∷◌, ◌++◌, append_assoc}
use native.Mathlib.Omega.{arith}
use lib.ListN.{replicate}
use lib.Dec.{eqb, ltb}
use borrow.Author.Tests.{eqb-true, ltb-false, lt-ltb, le-ltb}
use Rattle.wire.specs.Head.{body_of}
use Rattle.settings.specs.Reading.{settings_in}
use Rattle.spans.specs.declared.span.Span.{Span}
use Rattle.spans.specs.Codes.{good, failed, FS, SF, SD, IDLE, none, listed, higher}
use Rattle.spans.specs.Kept.{SpanFair}
use Rattle.spans.specs.HoldOff.{HeldOff, LinkDecides}
use Rattle.controller.specs.Reading.{Reading}
use Rattle.controller.specs.Reading.{Tick, Link, Operator}
use Rattle.controller.specs.Reading.{count_in}
use Rattle.controller.specs.Closing.{is_tick}
use Rattle.controller.specs.Node.{Started, choice_of, state_of}
use Rattle.controller.specs.State.{Choice, State, span_of, started}
use Rattle.controller.specs.Kept.{StateKept}
use Rattle.controller.specs.Promise.{Begun}
use Rattle.promises.specs.History.{Call, after, tick_with, spelled_out, Always, start_of, Made, call_of, made_of, calls_of, Met}
use Rattle.promises.specs.Spans.{own_from, ticks_from, seen, read_as, ticks_taken, link_taken, operator_taken, unasked, span_after, span_seen}
use Rattle.promises.specs.Spans.{request_on, automatic_on, Unrequested, UnrequestedOn, Swept, SameBeneath}
use Rattle.promises.specs.HoldOff.{as_good_taken, status_told}
use Rattle.promises.proofs.Demand2.AfterKept.{choice-after}
use Rattle.promises.proofs.Demand2.Spelling.{spelled_both, spelled-one, spelled-many, many-room, no_tick-one, of_call}
use Rattle.promises.proofs.Demand2.Coming.{state-after, ruled}
use Rattle.promises.proofs.Spans.HoldOff.{held_off, idle_meanwhile, failed-then}
use Rattle.promises.proofs.Spans.Swinging.{runs_on, switches, worse_requests}
use Rattle.promises.proofs.Spans.Purging.{started-swept}
use Rattle.promises.proofs.Spans.Beneath.{same_beneath, as_if_not_come}
use Rattle.promises.proofs.Spans.Running.{wtr_runs_on}
use Rattle.promises.proofs.Spans.Rising.{span_fair, never_lowered, one_more_lem, ticks_never_lower}

made_both : (h g : List Made) → made_of (h ++ g) ≡ made_of h ++ made_of g
unfolding made_of
made_both [] g = refl
made_both (m ∷ h) g = ap (λ (l : List Call). call_of m ∷ l) (made_both h g)

pub calls_both : (h g : List Made) → calls_of (h ++ g) ≡ calls_of h ++ calls_of g
unfolding calls_of
calls_both h g = ap spelled_out (made_both h g) ∙ spelled_both (made_of h) (made_of g)

-- A call that is no tick is one event of its history.
one-call : (own : ℕ) (m : Made) (g : List Made) (r : Reading) → read_as own (call_of m) ≡ r → is_tick r ≡ false → calls_of (m ∷ g) ≡ call_of m ∷ calls_of g
unfolding calls_of made_of spelled_out
one-call own m g r is other = ap (λ (l : List Call). l ++ calls_of g) (no_tick-one (call_of m) own r is other)

met_before : (st : Started) (h g : List Made) → Met st (h ++ g) → Met st g
unfolding Met
met_before st [] g met = met
met_before st (m ∷ h) g met = met_before st h g met.1

-- An operator request that is not FS is below SF.
below_sf : (q : ℕ) → listed q ≡ true → (q ≡ FS → ⊥) → higher q SF ≡ SF
below_sf q l free = go (eqb q none) refl (eqb q 2) refl (eqb q FS) refl l
  where
    go : (i : Bool) → eqb q none ≡ i → (j : Bool) → eqb q 2 ≡ j → (k : Bool) → eqb q FS ≡ k → i || j || k ≡ true → higher q SF ≡ SF
    go true a j b k c e = rw (eqb-true q none a) refl
    go false a true b k c e = rw (eqb-true q 2 b) refl
    go false a false b true c e = absurd (free (eqb-true q FS c))
    go false a false b false c e = absurd (false≢true e)

-- What holds of two states holds of two that equal them.
of_both : (P : State → State → Type 0) {x y u v : State} → x ≡ u → y ≡ v → P u v → P x y
of_both P {x} {y} {u} {v} e d p = subst (λ (z : State). P z y) (sym e) (subst (P u) (sym d) p)

module _ (b : List ℕ) (st : Started) (begun : Begun b st) where
  seen_is : (h g : List Made) → Met st (h ++ g) → seen st (h ++ g) ≡ after (start_of b) (calls_of h ++ calls_of g)
  seen_is h g met = state-after b st begun (h ++ g) met ∙ ap (after (start_of b)) (calls_both h g)

  -- A span of a node is in range, with the settings that start read.
  fair_seen : (n : ℕ) (g : List Made) → Met st g → SpanFair (ticks_from b) (span_seen n st g)
  unfolding start_of started
  fair_seen n g met =
      subst (λ (c : Choice). SpanFair c.ticks (span_seen n st g))
      (ap (λ (z : State). z.choice) (state-after b st begun g met) ∙ choice-after (start_of b) (calls_of g))
      (span_fair n (seen st g) (ruled b st begun g met).kept.state)

  -- Hold-off: m is the link record, g the calls before it, h those after it.
  module _ (n : ℕ) (side : n ≤ 1) (g : List Made) (m : Made) (x : ℕ) (is : read_as (own_from b) (call_of m) ≡ Link n x) (h : List Made)
      (met : Met st (h ++ (m ∷ g))) where
    abbrev told : List Call
    told = calls_of h

    met_g : Met st g
    unfolding Met
    met_g = (met_before st h (m ∷ g) met).1

    before : seen st g ≡ after (start_of b) (calls_of g)
    before = state-after b st begun g met_g

    later : seen st (h ++ (m ∷ g)) ≡ after (start_of b) (told ++ (call_of m ∷ calls_of g))
    later = seen_is h (m ∷ g) met ∙ ap (λ (l : List Call). after (start_of b) (told ++ l)) (one-call (own_from b) m g (Link n x) is refl)

    -- Hold-off runs exactly while a worse status is stored: where none runs, what is worse than the status in force differs from the stored one.
    unstored : (span_seen n st g).holdoff ≡ 0 → (span_seen n st g).force < x → x ≡ (span_seen n st g).stored → ⊥
    unstored calm worse e =
        let u : Span = span_seen n st g in
        let fair : SpanFair (ticks_from b) u = fair_seen n g met_g in
        true≢false (sym (lt-ltb u.force u.stored (omega arith)) ∙ sym fair.runs ∙ le-ltb 0 u.holdoff (omega arith))

    pub node-held_off : link_taken (own_from b) n (calls_of h) ≡ false → (span_seen n st g).holdoff ≡ 0 → (span_seen n st g).force < x
        → HeldOff (ticks_from b) (span_seen n st g).force x (ticks_taken (own_from b) (calls_of h)) (span_seen n st (h ++ (m ∷ g)))
    unfolding start_of started
    node-held_off quiet calm worse =
        of_both
        (λ (y z : State). (span_of n y.spans).holdoff ≡ 0 → (x ≡ (span_of n y.spans).stored → ⊥) → (span_of n y.spans).force < x
        → HeldOff (ticks_from b) (span_of n y.spans).force x (ticks_taken (own_from b) told) (span_of n z.spans))
        before later (λ none other low. held_off (start_of b) n side (calls_of g) (call_of m) x is none other low told quiet) calm (unstored calm worse) worse

    -- 02, Item 2: while the link tells nothing as good as what is in force, the time runs on, and the latest status is stored.
    pub node_runs_on : (span_seen n st g).holdoff ≡ 0 → (span_seen n st g).force < x → as_good_taken (own_from b) n (span_seen n st g).force (calls_of h) ≡ false
        → ticks_taken (own_from b) (calls_of h) < (ticks_from b).holdoff
        → HeldOff (ticks_from b) (span_seen n st g).force (status_told (own_from b) n x (calls_of h)) (ticks_taken (own_from b) (calls_of h)) (span_seen n st (h ++ (m ∷ g)))
    unfolding start_of started
    node_runs_on calm worse swings more =
        of_both
        (λ (y z : State). (span_of n y.spans).holdoff ≡ 0 → (x ≡ (span_of n y.spans).stored → ⊥) → (span_of n y.spans).force < x
        → as_good_taken (own_from b) n (span_of n y.spans).force told ≡ false
        → HeldOff (ticks_from b) (span_of n y.spans).force (status_told (own_from b) n x told) (ticks_taken (own_from b) told) (span_of n z.spans))
        before later (λ none other low bad. runs_on (start_of b) n side (calls_of g) (call_of m) x is none other low told bad more) calm (unstored calm worse) worse swings

    -- .. and within the hold-off time a worse status is in force, and requested: SD, or SF.
    pub node_switches_in_time : (span_seen n st g).force < x → as_good_taken (own_from b) n (span_seen n st g).force (calls_of h) ≡ false
        → (ticks_from b).holdoff ≤ ticks_taken (own_from b) (calls_of h)
        → ((span_seen n st g).force < (span_seen n st (h ++ (m ∷ g))).force) × (SD ≤ automatic_on n (seen st (h ++ (m ∷ g))))
    unfolding start_of started
    node_switches_in_time worse swings over =
        let switched : (span_seen n st g).force < (span_seen n st (h ++ (m ∷ g))).force =
        of_both
        (λ (y z : State). SpanFair (ticks_from b) (span_of n y.spans) → (span_of n y.spans).force < x
        → as_good_taken (own_from b) n (span_of n y.spans).force told ≡ false → (span_of n y.spans).force < (span_of n z.spans).force)
        before later (λ fair low bad. switches (start_of b) n side (calls_of g) fair (call_of m) x is low told bad over) (fair_seen n g met_g) worse swings in
        let fair = span_fair n (seen st (h ++ (m ∷ g))) (ruled b st begun (h ++ (m ∷ g)) met).kept.state in
        (switched, worse_requests (seen st (h ++ (m ∷ g))).choice.ticks (span_seen n st (h ++ (m ∷ g))) fair.force (omega arith))

    -- From a good link, which then tells nothing.
    module _ (u : link_taken (own_from b) n (calls_of h) ≡ false) (stored : (span_seen n st g).stored ≡ good) (force : (span_seen n st g).force ≡ good) where
      link : (part : Span → ℕ) → part (span_seen n st g) ≡ good → part (span_of n (after (start_of b) (calls_of g)).spans) ≡ good
      link part e = ap (λ (z : State). part (span_of n z.spans)) (sym before) ∙ e

      calm : (span_seen n st g).holdoff ≡ 0
      calm =
          let v : Span = span_seen n st g in
          let still : ltb 0 v.holdoff ≡ false = (fair_seen n g met_g).runs ∙ le-ltb v.force v.stored (omega arith) in
          omega (arith, ltb-false 0 v.holdoff still)

      pub node_idle_meanwhile : good < x → ticks_taken (own_from b) (calls_of h) < (ticks_from b).holdoff → LinkDecides (ticks_from b) (span_seen n st (h ++ (m ∷ g)))
          → request_on n (seen st (h ++ (m ∷ g))) ≡ IDLE
      unfolding start_of started
      node_idle_meanwhile worse more =
          subst (λ (z : State). LinkDecides (ticks_from b) (span_of n z.spans) → request_on n z ≡ IDLE) (sym later)
          (idle_meanwhile (start_of b) n side (calls_of g) (call_of m) x is (link (λ (z : Span). z.holdoff) calm) (link (λ (z : Span). z.stored) stored)
          (link (λ (z : Span). z.force) force) worse told u more)

      -- SF, unless the operator asks for FS.
      pub node-failed-then : x ≡ failed → (ticks_from b).holdoff ≤ ticks_taken (own_from b) (calls_of h)
          → (automatic_on n (seen st (h ++ (m ∷ g))) ≡ SF)
          × (((span_seen n st (h ++ (m ∷ g))).operator ≡ FS → ⊥) → request_on n (seen st (h ++ (m ∷ g))) ≡ SF)
      unfolding start_of started
      node-failed-then bad over =
          let both : (automatic_on n (seen st (h ++ (m ∷ g))) ≡ SF)
          × (request_on n (seen st (h ++ (m ∷ g))) ≡ higher (span_seen n st (h ++ (m ∷ g))).operator SF) =
          subst (λ (z : State). (automatic_on n z ≡ SF) × (request_on n z ≡ higher (span_of n z.spans).operator SF)) (sym later)
          (failed-then (start_of b) n side (calls_of g) (call_of m) x is (link (λ (z : Span). z.holdoff) calm) (link (λ (z : Span). z.stored) stored)
          (link (λ (z : Span). z.force) force) (omega arith) told u bad over) in
          let kept : SpanFair (seen st (h ++ (m ∷ g))).choice.ticks (span_seen n st (h ++ (m ∷ g))) =
          span_fair n (seen st (h ++ (m ∷ g))) (ruled b st begun (h ++ (m ∷ g)) met).kept.state in
          (both.0, λ free. both.1 ∙ below_sf (span_seen n st (h ++ (m ∷ g))).operator kept.operator free)

  -- Beneath an operator request: two nodes of one start, whose calls k and l differ in operator records of span n alone.
  tidy : Swept (start_of b)
  unfolding start_of
  tidy = started-swept (choice_of (settings_in b).settings)

  pub node_same_beneath : (n : ℕ) (k l : List Made) → Met st k → Met st l → unasked (own_from b) n (calls_of k) ≡ unasked (own_from b) n (calls_of l)
      → SameBeneath n (seen st k) (seen st l)
  unfolding start_of started
  node_same_beneath n k l mk ml e =
      of_both (SameBeneath n) (state-after b st begun k mk) (state-after b st begun l ml) (same_beneath n (start_of b) tidy (calls_of k) (calls_of l) e)

  -- After the calls g the request comes by the call c, the calls h are made, and it goes by the call d: nothing is lost.
  pub node_as_if_not_come : (n : ℕ) → n ≤ 1 → (g h : List Call) (c d : Call) (request : ℕ) → read_as (own_from b) c ≡ Operator n request
      → read_as (own_from b) d ≡ Operator n none → operator_taken (own_from b) n h ≡ false → (span_after n (start_of b) g).operator ≡ none → (k l : List Made) → Met st k → Met st l
      → calls_of k ≡ d ∷ (h ++ (c ∷ g)) → calls_of l ≡ h ++ g → ((seen st k).spans ≡ (seen st l).spans) × ((seen st k).stations ≡ (seen st l).stations)
  unfolding start_of started
  node_as_if_not_come n side g h c d request comes goes u free k l mk ml ek el =
      of_both (λ (y z : State). (y.spans ≡ z.spans) × (y.stations ≡ z.stations))
      (state-after b st begun k mk ∙ ap (after (start_of b)) ek) (state-after b st begun l ml ∙ ap (after (start_of b)) el)
      (as_if_not_come n (start_of b) tidy g c h d request comes goes side free u)

  -- A running WTR, after the calls h that follow g.
  unrequested : (n : ℕ) (g h : List Made) → Met st (h ++ g) → UnrequestedOn n st g h → Unrequested n (start_of b) (calls_of g) (calls_of h)
  unrequested n g h met k = subst (λ (z : State). automatic_on n z ≡ none) (seen_is h g met) k

  -- Among many ticks too: none of them takes a request away, so that none came where none is there at the end.
  ticks_always : (n room : ℕ) → 7 ≤ room → (g h : List Call) → StateKept (after (start_of b) (h ++ g)) → (j : ℕ)
      → Unrequested n (start_of b) g (replicate j (tick_with room) ++ h) → Always (Unrequested n (start_of b) g) h
      → Always (Unrequested n (start_of b) g) (replicate j (tick_with room) ++ h)
  unfolding Always
  ticks_always n room enough g h kept zero now rest = rest
  ticks_always n room enough g h kept (suc j) now rest =
      let behind : (i : ℕ) → (replicate i (tick_with room) ++ h) ++ g ≡ replicate i (tick_with room) ++ (h ++ g) = λ i. append_assoc (replicate i (tick_with room)) h g in
      let rises = one_more_lem (start_of b) room enough (h ++ g) kept n j in
      let end : automatic_on n (after (start_of b) (replicate (suc j) (tick_with room) ++ (h ++ g))) ≡ none =
      ap (λ (l : List Call). automatic_on n (after (start_of b) l)) (sym (behind (suc j))) ∙ now in
      let before : automatic_on n (after (start_of b) (replicate j (tick_with room) ++ (h ++ g))) ≡ none = omega (arith, rises, end) in
      (now, ticks_always n room enough g h kept j (ap (λ (l : List Call). automatic_on n (after (start_of b) l)) (behind j) ∙ before) rest)

  always : (n : ℕ) (g h : List Made) → Met st (h ++ g) → Always (UnrequestedOn n st g) h → Always (Unrequested n (start_of b) (calls_of g)) (calls_of h)
  unfolding Always Met calls_of made_of spelled_out
  always n g [] met k = unrequested n g [] met k
  always n g (m ∷ h) met k =
      let d : Call = call_of m in
      let now : Unrequested n (start_of b) (calls_of g) (calls_of (m ∷ h)) = unrequested n g (m ∷ h) met k.0 in
      let rest : Always (Unrequested n (start_of b) (calls_of g)) (calls_of h) = always n g h met.1 k.1 in
      of_call d
      (λ is.
      subst (λ (l : List Call). Unrequested n (start_of b) (calls_of g) (l ++ calls_of h) → Always (Unrequested n (start_of b) (calls_of g)) (l ++ calls_of h))
      (sym (spelled-many d is))
      (λ end.
      ticks_always n d.room (many-room d is) (calls_of g) (calls_of h)
      (subst StateKept (seen_is h g met.1) (ruled b st begun (h ++ g) met.1).kept.state) (count_in (body_of d.bytes)) end rest) now)
      (λ single.
      subst (λ (l : List Call). Unrequested n (start_of b) (calls_of g) (l ++ calls_of h) → Always (Unrequested n (start_of b) (calls_of g)) (l ++ calls_of h))
      (sym (spelled-one d single)) (λ end. (end, rest)) now)

  pub node_wtr_runs_on : (n : ℕ) (g h : List Made) → Met st (h ++ g) → Always (λ (k : List Made). automatic_on n (seen st (k ++ g)) ≡ none) h
      → (span_seen n st (h ++ g)).wtr ≡ (span_seen n st g).wtr - ticks_taken (own_from b) (calls_of h)
  unfolding start_of started
  node_wtr_runs_on n g h met k =
      of_both (λ (y z : State). (span_of n y.spans).wtr ≡ (span_of n z.spans).wtr - ticks_taken (own_from b) (calls_of h)) (seen_is h g met)
      (state-after b st begun g (met_before st h g met)) (wtr_runs_on (start_of b) n (calls_of g) (calls_of h) (always n g h met k))

  -- A tick never lowers an automatic request; nor do many.
  pub node-tick_never_lowers : (n : ℕ) (h : List Made) (m : Made) → Met st (m ∷ h) → read_as (own_from b) (call_of m) ≡ Tick
      → automatic_on n (seen st h) ≤ automatic_on n (state_of m.answer.node)
  unfolding Met calls_of made_of spelled_out start_of started
  node-tick_never_lowers n h m met is =
      let c : Call = call_of m in
      let e : seen st h ≡ after (start_of b) (calls_of h) = state-after b st begun h met.1 in
      let d : state_of m.answer.node ≡ after (start_of b) (calls_of (m ∷ h)) = state-after b st begun (m ∷ h) met in
      let kept : StateKept (after (start_of b) (calls_of h)) = subst StateKept e (ruled b st begun h met.1).kept.state in
      of_both (λ (y z : State). automatic_on n y ≤ automatic_on n z) e d
      (of_call c
      (λ many.
      subst (λ (l : List Call). automatic_on n (after (start_of b) (calls_of h)) ≤ automatic_on n (after (start_of b) (l ++ calls_of h))) (sym (spelled-many c many))
      (ticks_never_lower (start_of b) c.room (many-room c many) (calls_of h) kept n (count_in (body_of c.bytes))))
      (λ single.
      subst (λ (l : List Call). automatic_on n (after (start_of b) (calls_of h)) ≤ automatic_on n (after (start_of b) (l ++ calls_of h))) (sym (spelled-one c single))
      (never_lowered (start_of b) (calls_of h) c is n kept)))
