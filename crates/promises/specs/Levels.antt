-- Two nodes of which the first knows fewer types: the words of demand 3.
use Rattle.std.specs.Prelude.{ℕ, ◌≡◌, ◌↔◌, ◌⊎◌, Bool, true, false, not, cond, ◌&&◌, ◌||◌, List, [], ◌∷◌, ◌++◌, eqb}
use Rattle.std.proofs.Math.Option.{Option, none, some}
use Rattle.wire.specs.Report.{over}
use Rattle.settings.specs.declared.choice.Settings.{Settings}
use Rattle.blocks.specs.declared.attributes.Attributes.{Attributes}
use Rattle.blocks.specs.Types.{among}
use Rattle.blocks.specs.Entries.{Entry, entries}
use Rattle.blocks.specs.Meaning.{meaning}
use Rattle.blocks.specs.Attributes.{absent, behind_with, attributes_from}
use Rattle.stations.specs.declared.station.Station.{Station}
use Rattle.stations.specs.Station.{with_attributes}
use Rattle.stations.specs.Stations.{present}
use Rattle.ways.specs.Choice.{numbers}
use Rattle.controller.specs.Reading.{Reading}
use Rattle.controller.specs.Reading.{Refused, Tick, Link, Keepalive, Operator, Heard, Block}
use Rattle.controller.specs.Reading.{block_of, reading}
use Rattle.controller.specs.State.{Choice, State}
use Rattle.controller.specs.Node.{Shown}
use Rattle.controller.specs.Node.{reports_in, west_request, east_request, steering, shown, asked}
use Rattle.controller.specs.Record.{Outcome}
use Rattle.promises.specs.History.{Call, after, answered, Made}

-- "in which the larger refuses no block as malformed".
unfoldable pub NoEight : State → List Call → Type 0
unfolding after
NoEight s [] = Unit {0}
NoEight s (c ∷ h) = ((answered s h c).result ≡ 8 → ⊥) × NoEight s h

-- The block of a record, if it is an attribute record of the station a.
abbrev pub block_heard : ℕ → Reading → List ℕ → Option (List ℕ)
block_heard a (Refused n) b = none
block_heard a Tick b = none
block_heard a (Link n x) b = none
block_heard a (Keepalive n) b = none
block_heard a (Operator n x) b = none
block_heard a (Heard n p) b = none
block_heard a (Block n x) b = cond (eqb a x) (some (block_of b)) none

-- "taken or set aside".
abbrev pub taken_or_aside : ℕ → Bool
taken_or_aside n = eqb n 0 || eqb n 24

abbrev pub newer : Option (List ℕ) → Option (List ℕ) → Option (List ℕ)
newer none o = o
newer (some b) o = some b

-- "that station's latest block taken or set aside since it joined", o being the one before a call that was read as r, of the bytes b, and answered n, and after
-- which the stations are l: none where the station is not there; the block of the call, if it has one for it; else the one before.
unfoldable pub latest_now : Reading → List ℕ → ℕ → List Station → ℕ → Option (List ℕ) → Option (List ℕ)
unfolding present
latest_now r b n l a o = cond (present a l) (newer (cond (taken_or_aside n) (block_heard a r b) none) o) none

-- The same over a history; f gives the blocks at its beginning.
unfoldable pub latest : (ℕ → Option (List ℕ)) → State → List Call → ℕ → Option (List ℕ)
unfolding after latest_now reading
latest f s [] a = f a
latest f s (c ∷ h) a =
    latest_now (reading (after s h).choice.address c.bytes c.room) c.bytes (answered s h c).result (after s (c ∷ h)).stations a
    (latest f s h a)

-- At the start no station has a block.
abbrev pub no_blocks : ℕ → Option (List ℕ)
no_blocks a = none

-- An entry that is mandatory and of a type outside K.
abbrev pub stops : List ℕ → Entry → Bool
stops K e = e.must && not (among e.kind K)

unfoldable pub any_stops : List ℕ → List Entry → Bool
any_stops K [] = false
any_stops K (e ∷ es) = stops K e || any_stops K es

-- "the first mandatory type unknown to it in that (..) block" is t.
pub record FirstUnknown (K b : List ℕ) (t : ℕ) : Type 0 where
  pub earlier : List Entry
  pub it : Entry
  pub later : List Entry
  pub cuts : entries b ≡ some (earlier ++ it ∷ later)
  pub kind : it.kind ≡ t
  pub unknown : stops K it ≡ true
  pub first : any_stops K earlier ≡ false

-- The same settings, with the types K known.
abbrev pub knowing : List ℕ → Choice → Choice
knowing K c = record { address = c.address; known = K; ticks = c.ticks }

-- The stations with the attributes that f gives for their addresses.
unfoldable pub dressed : (ℕ → Attributes) → List Station → List Station
dressed f [] = []
dressed f (s ∷ l) = with_attributes (f s.address) s ∷ dressed f l

-- All of the stations but their attributes: address, hops, sequence, requests, age.
abbrev pub bare : List Station → List Station
bare l = dressed (λ (a : ℕ). absent) l

-- "it says "behind", with" t.
abbrev pub says_behind : ℕ → Shown
says_behind t = shown (some (behind_with t))

-- The value of the type t in what is shown of a station.
unfoldable pub value_shown : ℕ → Shown → List ℕ
value_shown t x = cond (eqb t 1) (x.weight0 ∷ x.weight1 ∷ []) (cond (eqb t 2) (x.reserved0 ∷ x.reserved1 ∷ []) [])

-- x and s are the states of the smaller and of the larger node at one point of a history; K are the types that the smaller knows, and `late` the latest blocks.
pub record Levelled (K : List ℕ) (late : ℕ → Option (List ℕ)) (x s : State) : Type 0 where
  -- "their stations, span requests, reports and steering are equal"
  pub choice : x.choice ≡ knowing K s.choice
  pub stations : bare x.stations ≡ bare s.stations
  pub spans : x.spans ≡ s.spans
  pub west : west_request x ≡ west_request s
  pub east : east_request x ≡ east_request s
  pub pacer : x.pacer ≡ s.pacer
  pub steering : (a : ℕ) → numbers (steering x a) ≡ numbers (steering s a)
  -- "It says so exactly when there is such a block and it has such a type."
  pub behind : (a t : ℕ) → (asked x a ≡ says_behind t) ↔ ((b : List ℕ) × (late a ≡ some b) × FirstUnknown K b t)
  -- "For each station the smaller shows, for every type that it knows, the value the larger shows; or it says "behind", with" a type, and nothing else.
  pub says : (a : ℕ) → (asked x a).reply ≡ 1 → asked x a ≡ says_behind (asked x a).kind
  pub reply : (a : ℕ) → ((asked x a).reply ≡ 1 → ⊥) → (asked x a).reply ≡ (asked s a).reply
  pub values : (a : ℕ) → ((asked x a).reply ≡ 1 → ⊥) → (t : ℕ) → among t K ≡ true → value_shown t (asked x a) ≡ value_shown t (asked s a)

-- The result x of the smaller node beside the result y of the larger: the same, but that the smaller may set aside what the larger takes.
abbrev pub SameResult : ℕ → ℕ → Type 0
SameResult x y = (x ≡ y) ⊎ ((x ≡ 24) × (y ≡ 0))

-- Two answers to one call: "reports .. are equal", and so are results but for that.
pub record SameAnswer (x o : Outcome) : Type 0 where
  pub report : x.report ≡ o.report
  pub result : SameResult x.result o.result

-- One call as two programs made it, x of the smaller node and y of the larger, each with a buffer of its own.
pub record SameCall (x y : Made) : Type 0 where
  -- Both tell as many reports.
  pub told : x.answer.reports ≡ y.answer.reports
  -- They are the same reports, of no bytes where none is told, over the front of either buffer.
  pub report : List ℕ
  pub tells : x.answer.reports ≡ reports_in report
  pub smaller : x.new ≡ over report x.old
  pub larger : y.new ≡ over report y.old
  pub result : SameResult x.answer.result y.answer.result

-- Settings of another level, and else the same.
abbrev pub with_level : ℕ → Settings → Settings
with_level level c = record {
  address = c.address;
  level = level;
  wtr = c.wtr;
  holdoff = c.holdoff;
  keepalive = c.keepalive;
  fast = c.fast;
  slow = c.slow;
  forget = c.forget;
}

-- No call of a program was answered 8.
unfoldable pub NoEightMade : List Made → Type 0
NoEightMade [] = Unit {0}
NoEightMade (m ∷ h) = (m.answer.result ≡ 8 → ⊥) × NoEightMade h

-- What a node that knows K shows of a station with this latest block.
unfoldable pub attributes_by : List ℕ → Option (List ℕ) → Attributes
unfolding meaning
attributes_by K none = absent
attributes_by K (some b) = attributes_from (meaning K b)

-- The state s of a node that knows K instead, with the attributes f.
abbrev pub under : List ℕ → (ℕ → Attributes) → State → State
under K f s = record { choice = knowing K s.choice; spans = s.spans; stations = dressed f s.stations; pacer = s.pacer }
