-- What one record does to the spans: its handler's work and the WTR step, refused or not. Assumes nothing.
use Prim.Native.Nat.{ℕ}
use mathlib.Core.Path.{◌≡◌, refl, sym, ◌∙◌, ap}
use mathlib.Core.Bool.{Bool, true, false, not, cond, ◌||◌, false≢true}
use mathlib.Core.List.{List, [], ◌∷◌}
use lib.Dec.{eqb}
use Rattle.settings.specs.declared.choice.Ticks.{Ticks}
use Rattle.spans.specs.declared.span.Span.{Span}
use Rattle.spans.specs.Records.{ticked, marked}
use Rattle.spans.specs.Requests.{automatic, waited}
use Rattle.blocks.specs.Meaning.{meaning}
use Rattle.stations.specs.declared.station.Report.{Report}
use Rattle.stations.specs.Hearing.{Placed}
use Rattle.stations.proofs.Lists.{chosen}
use Rattle.controller.specs.Reading.{Reading}
use Rattle.controller.specs.Reading.{Refused, Tick, Link, Keepalive, Operator, Heard, Block}
use Rattle.controller.specs.Reading.{block_of}
use Rattle.controller.specs.State.{Choice, State, span_of, with_span}
use Rattle.controller.specs.declared.sides.Spans.{Spans}
use Rattle.controller.specs.Handling.{cabled, acted, gives, learning, judged}
use Rattle.controller.specs.Closing.{is_tick, settled}
use Rattle.controller.specs.Record.{Outcome, refusal, closed, unless_refused, outcome_of, outcome}
use Rattle.controller.proofs.Settling.{settled-none}
use Rattle.controller.proofs.Handing.{hearing-taken}
use Rattle.promises.specs.History.{Call, after}
use Rattle.promises.specs.Spans.{leaves_table, read_as, span_after}
use Rattle.promises.proofs.Demand2.AfterKept.{choice-after}

module _ (s : State) (b : List ℕ) where
  abbrev ticks : Ticks
  ticks = s.choice.ticks

  -- A handler that leaves the spans: whether refused or closed, they stay.
  stays : (j : Placed) → (unless_refused s false s.spans j).state.spans ≡ settled ticks s.spans s.spans
  unfolding closed
  stays j =
      chosen (λ (o : Outcome). o.state.spans ≡ settled ticks s.spans s.spans) (refusal j.result)
      (λ h. sym (settled-none ticks s.spans)) (λ h. refl)

  pub spans_of_lem : (r : Reading) → (outcome_of r b s).state.spans ≡ settled ticks s.spans (acted ticks r s.spans)
  unfolding outcome_of acted judged closed
  spans_of_lem (Refused k) = stays (gives k s.stations)
  spans_of_lem Tick = refl
  spans_of_lem (Link n status) = refl
  spans_of_lem (Keepalive n) = refl
  spans_of_lem (Operator n request) = refl
  spans_of_lem (Heard n p) = rw (hearing-taken ticks n p (cabled n p s.spans) s.stations) refl
  spans_of_lem (Block n a) = stays (learning ticks n a (meaning s.choice.known b) s.spans s.stations)

  -- Kinds 1 to 4 are taken as soon as they are read.
  pub read_is_taken : (r : Reading) → is_tick r || leaves_table r ≡ true → (outcome_of r b s).result ≡ 0
  unfolding outcome_of acted judged closed
  read_is_taken (Refused k) h = absurd (false≢true h)
  read_is_taken Tick h = refl
  read_is_taken (Link n status) h = refl
  read_is_taken (Keepalive n) h = refl
  read_is_taken (Operator n request) h = refl
  read_is_taken (Heard n p) h = absurd (false≢true h)
  read_is_taken (Block n a) h = absurd (false≢true h)

-- A record at the end of a history: the span n before it, what its handler made of it, and the WTR step.
module _ (s : State) (h : List Call) (c : Call) where
  abbrev t : Ticks
  t = s.choice.ticks

  abbrev r : Reading
  r = read_as s.choice.address c

  pub spans-call : (after s (c ∷ h)).spans ≡ settled t (after s h).spans (acted t r (after s h).spans)
  unfolding after outcome
  spans-call =
      spans_of_lem (after s h) (block_of c.bytes) (read_as (after s h).choice.address c)
      ∙ ap (λ (k : Choice). settled k.ticks (after s h).spans (acted k.ticks (read_as k.address c) (after s h).spans)) (choice-after s h)

  pub span_call : (n : ℕ)
      → span_after n s (c ∷ h) ≡ waited t (automatic t (span_after n s h)) (span_of n (acted t r (after s h).spans))
  unfolding settled
  span_call n = ap (span_of n) spans-call ∙ go (eqb n 0)
    where
      x : Spans
      x = acted t r (after s h).spans

      go : (b : Bool) → cond b (settled t (after s h).spans x).west (settled t (after s h).spans x).east
          ≡ waited t (automatic t (cond b (after s h).spans.west (after s h).spans.east)) (cond b x.west x.east)
      go true = refl
      go false = refl

-- The spans go their way by themselves: neither stations nor reports bear on them.
pub spans-alone : (s u : State) → s.choice ≡ u.choice → s.spans ≡ u.spans → (h : List Call) → (after s h).spans ≡ (after u h).spans
unfolding after
spans-alone s u same e [] = e
spans-alone s u same e (c ∷ h) =
    let rest : (after s h).spans ≡ (after u h).spans = spans-alone s u same e h in
    spans-call s h c
    ∙ (λ i. settled (same i).ticks (rest i) (acted (same i).ticks (read_as (same i).address c) (rest i)))
    ∙ sym (spans-call u h c)

-- A handler's work on one span, seen from the span n.
pub touched : (P : Span → Type 0) (f : Span → Span) (m n : ℕ) (x : Spans) → (eqb m 0 ≡ eqb n 0 → P (f (span_of n x))) → P (span_of n x)
    → P (span_of n (with_span m (f (span_of m x)) x))
touched P f m n x = go (eqb m 0) (eqb n 0)
  where
    go : (a b : Bool) → (a ≡ b → P (f (cond b x.west x.east))) → P (cond b x.west x.east)
        → P (cond b (cond a (f (cond a x.west x.east)) x.west) (cond a x.east (f (cond a x.west x.east))))
    go true true own other = own refl
    go true false own other = other
    go false true own other = other
    go false false own other = own refl

-- The span that was put back is the one that is found.
pub found_back : (n : ℕ) (u : Span) (x : Spans) → span_of n (with_span n u x) ≡ u
found_back n u x = go (eqb n 0)
  where
    go : (b : Bool) → cond b (cond b u x.west) (cond b x.east u) ≡ u
    go true = refl
    go false = refl

pub cabled_touched : (P : Span → Type 0) (m n : ℕ) (p : Report) (x : Spans) → ((mark : Bool) → P (marked mark (span_of n x))) → P (span_of n x)
    → P (span_of n (cabled m p x))
unfolding cabled
cabled_touched P m n p x own other =
    chosen (λ (y : Spans). P (span_of n y)) (eqb p.hop 1)
    (λ h. touched P (marked (not (eqb p.ringlet m))) m n x (λ e. own (not (eqb p.ringlet m))) other) (λ h. other)

pub ticked_both : (t : Ticks) (n : ℕ) (x : Spans) → span_of n (acted t Tick x) ≡ ticked t (span_of n x)
unfolding acted
ticked_both t n x = go (eqb n 0)
  where
    go : (b : Bool) → cond b (ticked t x.west) (ticked t x.east) ≡ ticked t (cond b x.west x.east)
    go true = refl
    go false = refl
