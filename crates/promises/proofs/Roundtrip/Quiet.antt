-- A record that leaves the spans as they are closes with nothing changed: WTR stays, the purges find nothing, no report is due. Assumes nothing.
use Prim.Native.Nat.{ℕ}
use mathlib.Core.Path.{◌≡◌, refl, sym, ◌∙◌, ap}
use mathlib.Core.Bool.{Bool, true, false, cond}
use mathlib.Core.List.{List}
use lib.Dec.{eqb}
use borrow.Author.Tests.{eq-eqb}
use Rattle.settings.specs.declared.choice.Ticks.{Ticks}
use Rattle.spans.specs.Requests.{down, request}
use Rattle.pacer.specs.declared.steps.Pacer.{Pacer}
use Rattle.pacer.specs.Pace.{paced}
use Rattle.pacer.specs.Kept.{PacerKept}
use Rattle.blocks.specs.declared.attributes.Attributes.{Attributes}
use Rattle.blocks.specs.Meaning.{Meaning, malformed, aside, shows, meaning}
use Rattle.blocks.specs.Attributes.{attributes_from}
use Rattle.stations.specs.declared.station.Station.{Station}
use Rattle.stations.specs.Station.{placed_somewhere, with_hops, with_hop, with_attributes}
use Rattle.stations.specs.Stations.{unpurged, purged, present, given}
use Rattle.stations.specs.Hearing.{Placed}
use Rattle.stations.specs.Table.{Each}
use Rattle.stations.specs.Kept.{StationKept, Unheld}
use Rattle.stations.proofs.Lists.{each_map, each_both}
use Rattle.stations.proofs.Sifting.{sifted_same}
use Rattle.stations.proofs.Renewing.{renewed-all}
use Rattle.stations.proofs.Keeping.{unheld_given}
use Rattle.controller.specs.Reading.{Block}
use Rattle.controller.specs.State.{State}
use Rattle.controller.specs.declared.sides.Spans.{Spans}
use Rattle.controller.specs.Handling.{acted, gives, taking, learning, judged}
use Rattle.controller.specs.Closing.{settled, purged_if, swept, pacing, report_of}
use Rattle.controller.specs.Record.{unless_refused, closed, outcome_of}
use Rattle.controller.specs.Kept.{StateKept}
use Rattle.controller.proofs.Settling.{settled-none}
use Rattle.promises.specs.Quiet.{with_stations}

-- Every station has a hop.
abbrev pub EachPlaced : List Station → Type 0
EachPlaced l = Each (λ (s : Station). placed_somewhere s ≡ true) l

-- A purge of a ringlet on which no hop is held finds nothing.
cleared_still : (ringlet : ℕ) (s : Station) → cond (eqb ringlet 0) s.hop0 s.hop1 ≡ 0 → with_hop ringlet 0 s ≡ s
cleared_still ringlet s = go (eqb ringlet 0)
  where
    go : (b : Bool) → cond b s.hop0 s.hop1 ≡ 0 → with_hops (cond b 0 s.hop0) (cond b s.hop1 0) s ≡ s
    go true none = λ i. with_hops (sym none i) s.hop1 s
    go false none = λ i. with_hops s.hop0 (sym none i) s

module _ (l : List Station) (all : EachPlaced l) where
  purged-still : (ringlet : ℕ) → Unheld ringlet l → purged ringlet l ≡ l
  unfolding purged
  purged-still ringlet unheld =
      sifted_same (unpurged ringlet) (with_hop ringlet 0) l
      (each_both _ (λ (s : Station). placed_somewhere s ≡ true) _
      (λ s none somewhere. let same = cleared_still ringlet s none in (ap placed_somewhere same ∙ somewhere, same)) l unheld all)

  purged_if_still : (ringlet : ℕ) (is_down : Bool) → (is_down ≡ true → Unheld ringlet l) → purged_if is_down ringlet l ≡ l
  purged_if_still ringlet true unheld = purged-still ringlet (unheld refl)
  purged_if_still ringlet false unheld = refl

  swept-still : (t : Ticks) (x : Spans) → (down t x.west ≡ true → Unheld 0 l) → (down t x.east ≡ true → Unheld 1 l) → swept t x l ≡ l
  unfolding swept
  swept-still t x west east =
      ap (purged_if (down t x.east) 1) (purged_if_still 0 (down t x.west) west) ∙ purged_if_still 1 (down t x.east) east

-- Off a tick, no report is due for a pair that was reported.
paced-still : (fast slow west east : ℕ) (p : Pacer) → PacerKept fast slow west east p
    → paced fast slow false west east p ≡ record { pacer = p; wrote = false }
unfolding paced
paced-still fast slow west east p k = rw (eq-eqb p.west west k.west_is, eq-eqb p.east east k.east_is)

module _ (s : State) (k : StateKept s) where
  closed-still : (j : Placed) → EachPlaced j.stations → (down s.choice.ticks s.spans.west ≡ true → Unheld 0 j.stations)
      → (down s.choice.ticks s.spans.east ≡ true → Unheld 1 j.stations) → closed s false s.spans j ≡ with_stations s j
  unfolding closed pacing
  closed-still j all west east =
      let t : Ticks = s.choice.ticks in
      let y : settled t s.spans s.spans ≡ s.spans = settled-none t s.spans in
      let l : swept t (settled t s.spans s.spans) j.stations ≡ j.stations =
      ap (λ (z : Spans). swept t z j.stations) y ∙ swept-still j.stations all t s.spans west east in
      let d : pacing t false (settled t s.spans s.spans) s.pacer ≡ record { pacer = s.pacer; wrote = false } =
      ap (λ (z : Spans). pacing t false z s.pacer) y
      ∙ paced-still t.fast t.slow (request t s.spans.west) (request t s.spans.east) s.pacer k.pacer in
      λ i. record {
        result = j.result;
        state = record { choice = s.choice; spans = y i; stations = l i; pacer = (d i).pacer };
        report = report_of (d i);
      }

  everywhere : EachPlaced s.stations
  everywhere =
      each_map (StationKept s.choice.address s.choice.ticks.forget s.choice.known) (λ (x : Station). placed_somewhere x ≡ true)
      (λ x h. h.somewhere) s.stations k.stations.each

  given-still : (n a : ℕ) (x : Attributes)
      → closed s false s.spans (gives n (given a x s.stations)) ≡ with_stations s (gives n (given a x s.stations))
  unfolding given
  given-still n a x =
      closed-still (gives n (given a x s.stations))
      (renewed-all a (with_attributes x) (λ (y : Station). placed_somewhere y ≡ true) (λ y h. h) s.stations everywhere)
      (λ e. unheld_given 0 a x s.stations (k.unheld0 e)) (λ e. unheld_given 1 a x s.stations (k.unheld1 e))

  taking-still : (a : ℕ) (m : Meaning) → unless_refused s false s.spans (taking a m s.stations) ≡ with_stations s (taking a m s.stations)
  taking-still a malformed = refl
  taking-still a (aside t) = given-still 24 a (attributes_from (aside t))
  taking-still a (shows es) = given-still 0 a (attributes_from (shows es))

  -- "After 0 and 20 to 24 the closing steps run": after an attribute record they change nothing.
  pub block_closes_nothing : (n a : ℕ) (b : List ℕ)
      → outcome_of (Block n a) b s ≡ with_stations s (learning s.choice.ticks n a (meaning s.choice.known b) s.spans s.stations)
  unfolding outcome_of acted judged learning
  block_closes_nothing n a b = go (down s.choice.ticks (cond (eqb n 0) s.spans.west s.spans.east)) (present a s.stations)
    where
      m : Meaning
      m = meaning s.choice.known b

      go : (d p : Bool)
          → unless_refused s false s.spans (cond {A = Placed} d (gives 21 s.stations) (cond p (taking a m s.stations) (gives 7 s.stations)))
          ≡ with_stations s (cond {A = Placed} d (gives 21 s.stations) (cond p (taking a m s.stations) (gives 7 s.stations)))
      go true p = closed-still (gives 21 s.stations) everywhere k.unheld0 k.unheld1
      go false true = taking-still a m
      go false false = refl
