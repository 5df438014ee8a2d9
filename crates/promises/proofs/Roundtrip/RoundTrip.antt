-- Blocks that we write are those of draft D2.0, and a node of the same level reads back what was written. Assumes nothing.
use Prim.Native.Nat.{ℕ, ◌<◌, ◌≤◌, ◌^◌}
use mathlib.Core.Path.{◌≡◌, refl, sym, ◌∙◌, ap}
use mathlib.Core.Bool.{Bool, true, false, cond, ◌&&◌, false≢true}
use mathlib.Core.List.{List, [], ◌∷◌, ◌++◌}
use native.Mathlib.Omega.{arith}
use lib.ListN.{length, take, length-take}
use lib.Dec.{eqb, leb}
use Rattle.std.specs.Prelude.{Result, Ok, Option, Some, None}
use Rattle.wire.specs.declared.results.Refusal.{Refusal}
use Rattle.wire.specs.Fields.{address_at, odd_first, Bytes}
use Rattle.wire.specs.Head.{broken, head_of}
use Rattle.settings.specs.declared.choice.Settings.{Settings}
use Rattle.settings.specs.Ticks.{ticks_of}
use Rattle.settings.specs.Ranges.{within, in_range}
use Rattle.settings.specs.Reading.{fields_of, full_in, settings_in}
use Rattle.settings.proofs.Keeping.{settings_kept, ticks_kept}
use Rattle.spans.specs.Requests.{down}
use Rattle.blocks.specs.declared.reading.Block.TheVariants.{Values}
use Rattle.blocks.specs.Types.{level_in_range, knows}
use Rattle.blocks.specs.Meaning.{Meaning, meaning, block, block_at}
use Rattle.blocks.specs.Writing.{weight_bytes, bandwidth_bytes, bytes_at, unfit, refusal, answered, written_as, Wrote}
use Rattle.blocks.proofs.RoundTrip.{written_reads_back, buffer-reads_back}
use Rattle.stations.specs.Stations.{given, present}
use Rattle.stations.specs.Kept.{StationKept}
use Rattle.controller.specs.Node.{Node, Answer, choice_of, settings_of, state_of, asked}
use Rattle.controller.specs.Reading.{Reading}
use Rattle.controller.specs.Reading.{Block}
use Rattle.controller.specs.State.{State, span_of}
use Rattle.controller.specs.Handling.{gives}
use Rattle.controller.specs.Record.{outcome_of, outcome, outcomes}
use Rattle.controller.specs.Kept.{StateKept, Kept}
use Rattle.controller.specs.Promise.{Recorded}
use Rattle.promises.specs.History.{after, start_of}
use Rattle.promises.specs.Examples.{report, settings, station}
use Rattle.promises.specs.Quiet.{with_stations}
use Rattle.promises.specs.Possible.{are_bytes, all_bytes}
use Rattle.promises.specs.Drilled.{calls_for}
use Rattle.promises.specs.Written.{attribute_record, values, joined}
use Rattle.promises.proofs.Demand2.Possible.{are_bytes_lem, all_bytes_lem}
use Rattle.controller.proofs.Manys.{one_event}
use Rattle.promises.proofs.Demand2.AfterKept.{after_kept}
use Rattle.promises.proofs.Demand2.Spelling.{outcomes-one}
use Rattle.promises.proofs.Roundtrip.Quiet.{block_closes_nothing}
use Rattle.promises.proofs.Roundtrip.AttributeRecords.{attributes_read, record_bytes, written_bytes}
use Rattle.promises.proofs.Roundtrip.Taking.{carried, of_present, given_back, learning-values}

module _ (s : State) (k : StateKept s) (span a room : ℕ) (side : span ≤ 1) (there : present a s.stations ≡ true) (enough : 7 ≤ room) where
  -- The record is read: a station of the table has an even address that is not the own one.
  block_read : (b : List ℕ) → length b ≤ 1024 → outcomes s (attribute_record span a b) room ≡ outcome_of (Block span a) b s
  unfolding outcome
  block_read b short =
      let (x, at, kept) =
      of_present (StationKept s.choice.address s.choice.ticks.forget s.choice.known) a s.stations k.stations.each there in
      outcomes-one (record { bytes = attribute_record span a b; room = room }) s (one_event (attribute_record span a b) room (λ e. omega arith))
      ∙ ap (λ (r : Reading). outcome_of r b s)
      (attributes_read span a b short s.choice.address room side (ap odd_first (sym at) ∙ kept.even) (λ e. kept.foreign (at ∙ e)) enough)

  -- A block that is read as values is taken, and the station shows them.
  values-heard : (w0 w1 b0 b1 : ℕ) (b : List ℕ) → length b ≤ 1024 → down s.choice.ticks (span_of span s.spans) ≡ false
      → block (meaning s.choice.known b) ≡ Ok (Values w0 w1 b0 b1)
      → ((outcomes s (attribute_record span a b) room).result ≡ 0) × (asked (outcomes s (attribute_record span a b) room).state a ≡ values w0 w1 b0 b1)
  unfolding asked
  values-heard w0 w1 b0 b1 b short up reads =
      let m : Meaning = meaning s.choice.known b in
      let e : outcomes s (attribute_record span a b) room ≡ with_stations s (gives 0 (given a (carried w0 w1 b0 b1) s.stations)) =
      block_read b short ∙ block_closes_nothing s k span a b
      ∙ ap (with_stations s) (learning-values w0 w1 b0 b1 s.choice.ticks span a m s.spans s.stations up there reads) in
      rw (e, given_back a (carried w0 w1 b0 b1) s.stations there) (refl, refl)

-- "6 or 14 bytes".
few_bytes : (level w0 w1 b0 b1 : ℕ) → length (bytes_at level w0 w1 b0 b1) ≤ 14
unfolding bytes_at
few_bytes level w0 w1 b0 b1 = go (leb 2 level)
  where
    go : (b : Bool) → length (cond b (weight_bytes w0 w1 ++ bandwidth_bytes b0 b1) (weight_bytes w0 w1)) ≤ 14
    go true = omega arith
    go false = omega arith

few_written : (level w0 w1 b0 b1 : ℕ) (before after : List ℕ) (w : Result ℕ Refusal) → Wrote level w0 w1 b0 b1 before after w
    → (written_as w).length ≤ 14
few_written level w0 w1 b0 b1 before after w c = rw c.answer (go (refusal level w0 w1 b0 b1 (length before)))
  where
    go : (o : Option Refusal) → (written_as (answered o (length (bytes_at level w0 w1 b0 b1)))).length ≤ 14
    go None = few_bytes level w0 w1 b0 b1
    go (Some r) = omega arith

-- "level 1 to 2" is the same range to the settings and to the writer: every node has a level at which blocks are written.
pub level_is_written : (c : Settings) → in_range c ≡ true → level_in_range c.level ≡ true
unfolding in_range
level_is_written c = go (level_in_range c.level)
  where
    go : (b : Bool)
        → b && within 0 1440 c.wtr.0 && within 0 20 c.holdoff.0 && within 2 50 c.keepalive.0 && within 1 20 c.fast.0
        && within 1 200 c.slow.0 && within 2 600 c.forget.0 ≡ true → b ≡ true
    go true h = refl
    go false h = absurd (false≢true h)

-- A block written at a level and heard by a node of that level gives, when asked, the values written.
pub heard_back : (s : State) → StateKept s → (level : ℕ) → s.choice.known ≡ knows level → (w0 w1 b0 b1 : ℕ)
    → unfit level w0 w1 b0 b1 ≡ false → (span a room : ℕ) → span ≤ 1 → down s.choice.ticks (span_of span s.spans) ≡ false
    → present a s.stations ≡ true → 7 ≤ room
    → ((outcomes s (attribute_record span a (bytes_at level w0 w1 b0 b1)) room).result ≡ 0)
    × (asked (outcomes s (attribute_record span a (bytes_at level w0 w1 b0 b1)) room).state a ≡ values w0 w1 b0 b1)
unfolding block_at
heard_back s k level same w0 w1 b0 b1 fits span a room side up there enough =
    values-heard s k span a room side there enough w0 w1 b0 b1 (bytes_at level w0 w1 b0 b1) (omega (arith, few_bytes level w0 w1 b0 b1)) up
    (ap (λ (K : List ℕ). block (meaning K (bytes_at level w0 w1 b0 b1))) same ∙ written_reads_back level w0 w1 b0 b1 fits)

-- The record is of bytes, as every slice is, so that a card can hand it over.
pub handed-over : (level w0 w1 b0 b1 : ℕ) → w0 < 256 → w1 < 256 → b0 < 65536 → b1 < 65536 → (span a : ℕ) → span ≤ 1 → a < 2 ^ 48
    → Bytes (attribute_record span a (bytes_at level w0 w1 b0 b1))
handed-over level w0 w1 b0 b1 h0 h1 k0 k1 span a side small =
    record_bytes span a (bytes_at level w0 w1 b0 b1) (omega (arith, few_bytes level w0 w1 b0 b1)) side small
    (written_bytes level w0 w1 b0 b1 h0 h1 k0 k1)

-- The same as `heard_back` by the contract of the record call, of a node that is kept.
module _ (n : Node) (k : Kept n) (w0 w1 b0 b1 span a : ℕ) (side : span ≤ 1)
    (up : down (ticks_of (settings_of n)) (span_of span (state_of n).spans) ≡ false) (there : present a (state_of n).stations ≡ true)
    (old new : List ℕ) (enough : 7 ≤ length old) (r : Answer) where
  values-answered : (b : List ℕ) → length b ≤ 1024 → block_at (settings_of n).level b ≡ Ok (Values w0 w1 b0 b1)
      → Recorded n (attribute_record span a b) old new r → (r.result ≡ 0) × (asked (state_of r.node) a ≡ values w0 w1 b0 b1)
  unfolding block_at
  values-answered b short reads c =
      let (taken, told) = values-heard (state_of n) k.state span a (length old) side there enough w0 w1 b0 b1 b short up reads in
      (ap (λ (x : Answer). x.result) c.is ∙ taken, ap (λ (s : State). asked s a) c.shows ∙ told)

  pub answered_back : unfit (settings_of n).level w0 w1 b0 b1 ≡ false
      → Recorded n (attribute_record span a (bytes_at (settings_of n).level w0 w1 b0 b1)) old new r
      → (r.result ≡ 0) × (asked (state_of r.node) a ≡ values w0 w1 b0 b1)
  answered_back fits =
      let level : ℕ = (settings_of n).level in
      values-answered (bytes_at level w0 w1 b0 b1) (omega (arith, few_bytes level w0 w1 b0 b1)) (written_reads_back level w0 w1 b0 b1 fits)

  -- And by the contract of the writer too: the block is what a call that answered 0 left at the front of its buffer.
  pub written_and-heard : (before after : List ℕ) (w : Result ℕ Refusal) → Wrote (settings_of n).level w0 w1 b0 b1 before after w
      → (written_as w).result ≡ 0 → Recorded n (attribute_record span a (take (written_as w).length after)) old new r → (r.result ≡ 0) × (asked (state_of r.node) a ≡ values w0 w1 b0 b1)
  written_and-heard before after w c done =
      let level : ℕ = (settings_of n).level in
      values-answered (take (written_as w).length after) (omega (arith, length-take (written_as w).length after, few_written level w0 w1 b0 b1 before after w c))
      (buffer-reads_back level w0 w1 b0 b1 before after w c done)

-- Such a node meets what is asked of it; both levels, by computation.
joined_kept : (level : ℕ) → are_bytes (settings level 0) ≡ true → StateKept (joined level)
unfolding start_of all_bytes
joined_kept level bytes =
    let c : Settings = (settings_in (settings level 0)).settings in
    after_kept (choice_of c) (ticks_kept c (settings_kept (settings level 0) (are_bytes_lem (settings level 0) bytes)).ranges)
    (calls_for (report 0 255 2 1 0 0 ∷ [])) (all_bytes_lem (calls_for (report 0 255 2 1 0 0 ∷ [])) refl)

pub level_1_back : ((outcomes (joined 1) (attribute_record 0 (station 2) (bytes_at 1 3 5 0 0)) 7).result ≡ 0)
    × (asked (outcomes (joined 1) (attribute_record 0 (station 2) (bytes_at 1 3 5 0 0)) 7).state (station 2) ≡ values 3 5 0 0)
unfolding are_bytes after start_of settings_in head_of broken full_in fields_of in_range address_at ticks_of
level_1_back = heard_back (joined 1) (joined_kept 1 refl) 1 refl 3 5 0 0 refl 0 (station 2) 7 (omega arith) refl refl (omega arith)

pub level_2_back : ((outcomes (joined 2) (attribute_record 0 (station 2) (bytes_at 2 3 5 1000 7)) 7).result ≡ 0)
    × (asked (outcomes (joined 2) (attribute_record 0 (station 2) (bytes_at 2 3 5 1000 7)) 7).state (station 2) ≡ values 3 5 1000 7)
unfolding are_bytes after start_of settings_in head_of broken full_in fields_of in_range address_at ticks_of
level_2_back = heard_back (joined 2) (joined_kept 2 refl) 2 refl 3 5 1000 7 refl 0 (station 2) 7 (omega arith) refl refl (omega arith)
