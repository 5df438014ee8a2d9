-- The requests stored of a station are those that it last said: every step of a call keeps this. Assumes nothing.
use Prim.Native.Nat.{ℕ}
use mathlib.Core.Path.{◌≡◌, refl, sym, subst, ◌∙◌}
use mathlib.Core.Bool.{Bool, true, false, not, cond, ◌&&◌, ◌||◌, and-false, or-true, and-eq-true_iff}
use mathlib.Core.List.{List, [], ◌∷◌}
use mathlib.Core.Option.{Option, none, some}
use native.Mathlib.Omega.{arith}
use lib.Dec.{eqb, leb}
use borrow.Author.Tests.{eq-eqb, ne_eqb, leb-true}
use Rattle.settings.specs.declared.choice.Ticks.{Ticks}
use Rattle.spans.specs.Requests.{down}
use Rattle.blocks.specs.declared.attributes.Attributes.{Attributes}
use Rattle.blocks.specs.Meaning.{Meaning, malformed, aside, shows, meaning}
use Rattle.blocks.specs.Attributes.{attributes_from}
use Rattle.stations.specs.declared.station.Station.{Station}
use Rattle.stations.specs.declared.station.Report.{Report}
use Rattle.stations.specs.Station.{with_hop, older, with_attributes, again, told, newcomer}
use Rattle.stations.specs.Stations.{
  young,
  aged,
  unpurged,
  purged,
  other_at,
  undisplaced,
  losing,
  displaced,
  renewed,
  inserted,
  given,
  present,
  sequence_of,
}
use Rattle.stations.specs.Hearing.{Placed, distance, heard_again, placed}
use Rattle.stations.specs.Table.{Each}
use Rattle.stations.proofs.Lists.{chosen, each_map, each_both}
use Rattle.stations.proofs.Sifting.{sifted_each}
use Rattle.stations.proofs.Renewing.{renewed_each, renewed-all}
use Rattle.stations.proofs.Inserting.{Nobody, inserted_each, unknown_nobody, displaced_nobody}
use Rattle.stations.proofs.Placing.{placed-ends}
use Rattle.ways.specs.Walk.{Ends}
use Rattle.controller.specs.Reading.{Reading}
use Rattle.controller.specs.Reading.{Refused, Tick, Link, Keepalive, Operator, Heard, Block}
use Rattle.controller.specs.State.{Choice, State, span_of}
use Rattle.controller.specs.declared.sides.Spans.{Spans}
use Rattle.controller.specs.Handling.{gives, acted, hearing, taking, learning, judged}
use Rattle.controller.specs.Closing.{settled, purged_if, swept, is_tick}
use Rattle.controller.specs.Record.{Outcome, refusal, refuses, closed, outcome_of}
use Rattle.promises.specs.Steering.{is_news, requests_heard, fresher, said_now}

abbrev pub ends_of : Station → Ends
ends_of x = record { west = x.west; east = x.east }

-- f gives for the address of a station the requests that are stored of it.
abbrev pub Says : (ℕ → Option Ends) → Station → Type 0
Says f x = f x.address ≡ some (ends_of x)

-- It matters only what f gives.
still_says : (f g : ℕ → Option Ends) → ((a : ℕ) → g a ≡ f a) → (l : List Station) → Each (Says f) l → Each (Says g) l
still_says f g same = each_map (Says f) (Says g) (λ s e. same s.address ∙ e)

-- The steps that leave addresses and requests as they are: a tick, a purge, (e), a block.
module _ (f : ℕ → Option Ends) where
  aged_says : (forget : ℕ) (l : List Station) → Each (Says f) l → Each (Says f) (aged forget l)
  unfolding aged
  aged_says forget = sifted_each (young forget) older (Says f) (Says f) (λ s e stays. e)

  purged_says : (ringlet : ℕ) (l : List Station) → Each (Says f) l → Each (Says f) (purged ringlet l)
  unfolding purged
  purged_says ringlet = sifted_each (unpurged ringlet) (with_hop ringlet 0) (Says f) (Says f) (λ s e stays. e)

  displaced_says : (p : Report) (l : List Station) → Each (Says f) l → Each (Says f) (displaced p l)
  unfolding displaced
  displaced_says p =
      sifted_each (undisplaced p) (losing p) (Says f) (Says f) (λ s e stays. chosen (Says f) (other_at p s) (λ h. e) (λ h. e))

  given_says : (a : ℕ) (x : Attributes) (l : List Station) → Each (Says f) l → Each (Says f) (given a x l)
  unfolding given
  given_says a x = renewed-all a (with_attributes x) (Says f) (λ s e. e)

  purged_if_says : (is_down : Bool) (ringlet : ℕ) (l : List Station) → Each (Says f) l → Each (Says f) (purged_if is_down ringlet l)
  purged_if_says is_down ringlet l e = chosen (Each (Says f)) is_down (λ h. purged_says ringlet l e) (λ h. e)

  swept_says : (t : Ticks) (x : Spans) (l : List Station) → Each (Says f) l → Each (Says f) (swept t x l)
  unfolding swept
  swept_says t x l e =
      purged_if_says (down t x.east) 1 (purged_if (down t x.west) 0 l) (purged_if_says (down t x.west) 0 l e)

  taking_says : (a : ℕ) (m : Meaning) (l : List Station) → Each (Says f) l → Each (Says f) (taking a m l).stations
  taking_says a malformed l e = e
  taking_says a (aside t) l e = given_says a (attributes_from (aside t)) l e
  taking_says a (shows es) l e = given_says a (attributes_from (shows es)) l e

  learning_says : (t : Ticks) (n a : ℕ) (m : Meaning) (x : Spans) (l : List Station) → Each (Says f) l
      → Each (Says f) (learning t n a m x l).stations
  unfolding learning
  learning_says t n a m x l e = go (down t (span_of n x)) (present a l)
    where
      go : (d p : Bool) → Each (Says f) (cond {A = Placed} d (gives 21 l) (cond p (taking a m l) (gives 7 l))).stations
      go true p = e
      go false true = taking_says a m l e
      go false false = e

-- What is said once a report was taken, as news or as a copy.
abbrev heard_from : Report → Bool → (ℕ → Option Ends) → ℕ → Option Ends
heard_from p news f a = fresher (cond (eqb a p.address && news) (some (record { west = p.west; east = p.east })) none) (f a)

module _ (f : ℕ → Option Ends) (p : Report) where
  -- Other stations have said nothing ..
  away_says : (news : Bool) (s : Station) → (s.address ≡ p.address → ⊥) → Says f s → Says (heard_from p news f) s
  away_says news s away e = rw (ne_eqb s.address p.address away) e

  -- .. nor has anybody by a copy.
  copy_says : (s : Station) → Says f s → Says (heard_from p false f) s
  copy_says s e = rw (and-false (eqb s.address p.address)) e

  -- A known station is renewed: by a copy it keeps its requests, by news it has those of the report.
  known_says : (d : ℕ) (l : List Station) → Each (Says f) l
      → Each (Says (heard_from p (not (eqb d 0)) f)) (renewed p.address (heard_again d p) l)
  known_says d =
      renewed_each p.address (heard_again d p) (Says f) (Says (heard_from p (not (eqb d 0)) f))
      (λ s at e. go s at e (eqb d 0)) (λ s away e. away_says (not (eqb d 0)) s away e)
    where
      go : (s : Station) → s.address ≡ p.address → Says f s → (copy : Bool)
          → Says (heard_from p (not copy) f) (cond copy (again p s) (told p (again p s)))
      go s at e true = copy_says s e
      go s at e false = rw (eq-eqb s.address p.address at)

  -- A new station has those of the report.
  new_says : (l : List Station) → Nobody p.address l → Each (Says f) l → Each (Says (heard_from p true f)) (inserted (newcomer p) l)
  new_says l nobody e =
      inserted_each (newcomer p) (Says (heard_from p true f)) (rw (eq-eqb p.address p.address refl)) l
      (each_both (λ (x : Station). x.address ≡ p.address → ⊥) (Says f) (Says (heard_from p true f)) (away_says true) l nobody e)

-- What is said after a record that was read as r and got the result n; `before` are the stations before it.
abbrev saying_now : Reading → ℕ → List Station → (ℕ → Option Ends) → ℕ → Option Ends
saying_now r n before f a = fresher (cond (eqb n 0) (requests_heard a r before) none) (f a)

-- A record that is no report says nothing.
quiet : (b : Bool) (o : Option Ends) → fresher (cond b none none) o ≡ o
quiet true o = refl
quiet false o = refl

module _ (f : ℕ → Option Ends) (l : List Station) (e : Each (Says f) l) where
  placed_says : (n : ℕ) (p : Report) → Each (Says (saying_now (Heard n p) (placed p l).result l f)) (placed p l).stations
  placed_says n p =
      placed-ends (λ (x : Placed). Each (Says (saying_now (Heard n p) x.result l f)) x.stations) p l
      (λ stored is near. taken (some stored) is _ (known_says f p (distance p.sequence stored) (displaced p l) rest)) (λ stored is far. e)
      (λ is. taken none is _ (new_says f p (displaced p l) (displaced_nobody p p.address l (unknown_nobody p.address l is)) rest))
    where
      rest : Each (Says f) (displaced p l)
      rest = displaced_says f p l e

      -- o is the sequence known before, by which the report is news
      taken : (o : Option ℕ) → sequence_of p.address l ≡ o → (m : List Station) → Each (Says (heard_from p (is_news p.sequence o) f)) m
          → Each (Says (saying_now (Heard n p) 0 l f)) m
      taken o is m = subst (λ (u : Option ℕ). Each (Says (heard_from p (is_news p.sequence u) f)) m) (sym is)

  hearing_says : (t : Ticks) (n : ℕ) (p : Report) (x : Spans)
      → Each (Says (saying_now (Heard n p) (hearing t n p x l).result l f)) (hearing t n p x l).stations
  unfolding hearing
  hearing_says t n p x = go (eqb p.ringlet n) (down t (span_of n x))
    where
      P : Placed → Type 0
      P j = Each (Says (saying_now (Heard n p) j.result l f)) j.stations

      go : (a b : Bool) → P (cond {A = Placed} a (cond b (gives 21 l) (placed p l)) (gives 20 l))
      go true true = e
      go true false = placed_says n p
      go false b = e

  judged_says : (c : Choice) (r : Reading) (b : List ℕ) (x : Spans)
      → Each (Says (saying_now r (judged c r b x l).result l f)) (judged c r b x l).stations
  unfolding judged
  judged_says c (Refused k) b x = still_says f _ (λ a. quiet (eqb k 0) (f a)) l e
  judged_says c Tick b x = aged_says f c.ticks.forget l e
  judged_says c (Link n status) b x = e
  judged_says c (Keepalive n) b x = e
  judged_says c (Operator n request) b x = e
  judged_says c (Heard n p) b x = hearing_says c.ticks n p x
  judged_says c (Block n a) b x =
      still_says f _ (λ a'. quiet (eqb (learning c.ticks n a (meaning c.known b) x l).result 0) (f a')) _
      (learning_says f c.ticks n a (meaning c.known b) x l e)

-- A refusal is not 0.
refusal-not_0 : (n : ℕ) → refusal n ≡ true → eqb n 0 ≡ false
refusal-not_0 n h = ne_eqb n 0 (λ z. omega (arith, leb-true 1 n ((and-eq-true_iff (leb 1 n) (leb n 8)).0 h).0))

-- The whole call: refused, it leaves all as it was; else the closing steps may purge.
outcome_says : (r : Reading) (b : List ℕ) (s : State) (f : ℕ → Option Ends) → Each (Says f) s.stations
    → Each (Says (saying_now r (outcome_of r b s).result s.stations f)) (outcome_of r b s).state.stations
unfolding outcome_of closed
outcome_says r b s f e = go (refusal j.result) refl
  where
    x : Spans
    x = acted s.choice.ticks r s.spans

    j : Placed
    j = judged s.choice r b x s.stations

    P : Outcome → Type 0
    P o = Each (Says (saying_now r o.result s.stations f)) o.state.stations

    go : (c : Bool) → refusal j.result ≡ c → P (cond {A = Outcome} c (refuses j.result s) (closed s (is_tick r) x j))
    go true q = still_says f _ (λ a. rw (refusal-not_0 j.result q)) s.stations e
    go false q =
        swept_says (saying_now r j.result s.stations f) s.choice.ticks (settled s.choice.ticks s.spans x) j.stations
        (judged_says f s.stations e s.choice r b x)

-- A station of the table is in it.
each_present : (l : List Station) → Each (λ (x : Station). present x.address l ≡ true) l
unfolding Each present
each_present [] = tt
each_present (s ∷ l) = (
  rw (eq-eqb s.address s.address refl),
  each_map (λ (x : Station). present x.address l ≡ true) (λ (x : Station). eqb s.address x.address || present x.address l ≡ true)
      (λ x h. rw h (or-true (eqb s.address x.address))) l (each_present l),
)

-- So what is said of it now is what the call left.
pub call_says : (r : Reading) (b : List ℕ) (s : State) (f : ℕ → Option Ends) → Each (Says f) s.stations
    → Each (Says (λ (a : ℕ). said_now r (outcome_of r b s).result s.stations (outcome_of r b s).state.stations a (f a)))
    (outcome_of r b s).state.stations
unfolding said_now
call_says r b s f e = there (outcome_of r b s).result (outcome_of r b s).state.stations (outcome_says r b s f e)
  where
    there : (n : ℕ) (l : List Station) → Each (Says (saying_now r n s.stations f)) l
        → Each (Says (λ (a : ℕ). said_now r n s.stations l a (f a))) l
    there n l =
        each_both (λ (x : Station). present x.address l ≡ true) (Says (saying_now r n s.stations f))
        (Says (λ (a : ℕ). said_now r n s.stations l a (f a))) (λ x is w. rw is w) l (each_present l)
