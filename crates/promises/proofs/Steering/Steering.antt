-- After any history, a way that is answered crosses no span on which either end's latest known request is SF or FS, and what is told of it is where the trouble on it is.
-- `said` is that latest knowledge, defined on the history; the table is shown to hold it. Assumes nothing.
use Prim.Native.Nat.{ℕ, ◌<◌, ◌≤◌}
use mathlib.Core.Path.{◌≡◌, refl, sym, ◌∙◌, ap, subst}
use mathlib.Core.Bool.{false}
use mathlib.Core.Logic.{◌⊎◌}
use mathlib.Core.List.{List, [], ◌∷◌}
use mathlib.Core.Option.{none, some}
use Rattle.settings.specs.Kept.{TicksKept}
use Rattle.settings.specs.Reading.{settings_in}
use Rattle.stations.specs.declared.station.Station.{Station}
use Rattle.stations.specs.Stations.{present}
use Rattle.stations.specs.Table.{Each, Ascending}
use Rattle.ways.specs.Walk.{Ends}
use Rattle.ways.specs.declared.choice.Steering.{Steering}
use Rattle.ways.specs.Choice.{number, numbers, hop_of}
use Rattle.ways.specs.Usable.{Open, Tells}
use Rattle.ways.proofs.Choosing.{west_usable, east_usable}
use Rattle.ways.proofs.Opening.{way_open}
use Rattle.ways.proofs.Telling.{same_reply, west_told, east_told, nothing-told}
use Rattle.controller.specs.Reading.{block_of, reading}
use Rattle.controller.specs.State.{Choice, State, started}
use Rattle.controller.specs.Record.{outcome}
use Rattle.controller.specs.Node.{Started, choice_of, state_of, west_request, east_request, steered, steering}
use Rattle.controller.specs.Promise.{Begun}
use Rattle.promises.specs.History.{Call, after, AllBytes, start_of, Made, calls_of, node_after, Met}
use Rattle.promises.specs.Steering.{said, StandsAt, Points, Clear}
use Rattle.promises.proofs.Demand2.AfterKept.{after_kept}
use Rattle.promises.proofs.Demand2.Coming.{state-after, ruled}
use Rattle.promises.proofs.Steering.Saying.{call_says}
use Rattle.promises.proofs.Steering.Standing.{open_clear, tells_points, stands_once}

-- The requests in the table are those last said, on the history.
pub said_is_stored : (c : Choice) (h : List Call)
    → Each (λ (x : Station). said (started c) h x.address ≡ some (record { west = x.west; east = x.east })) (after (started c) h).stations
unfolding Each started after said outcome
said_is_stored c [] = tt
said_is_stored c (x ∷ h) =
    call_says (reading (after (started c) h).choice.address x.bytes x.room) (block_of x.bytes) (after (started c) h)
    (said (started c) h) (said_is_stored c h)

-- Of an address that is not in the table nothing is known.
pub said_of_absent : (c : Choice) (h : List Call) (a : ℕ) → present a (after (started c) h).stations ≡ false → said (started c) h a ≡ none
unfolding said
said_of_absent c [] a p = refl
said_of_absent c (x ∷ h) a p = rw p refl

-- A way that is answered is open.
west_open : (s : State) (a : ℕ) → number (steered s a) ≡ 0 → Open 0 (west_request s) s.stations (hop_of 0 a s.stations)
unfolding steered
west_open s a q =
    let (x, p) = west_usable (west_request s) (east_request s) s.stations a q in
    way_open 0 (west_request s) s.stations (hop_of 0 a s.stations) x p

east_open : (s : State) (a : ℕ) → number (steered s a) ≡ 1 → Open 1 (east_request s) s.stations (hop_of 1 a s.stations)
unfolding steered
east_open s a q =
    let (x, p) = east_usable (west_request s) (east_request s) s.stations a q in
    way_open 1 (east_request s) s.stations (hop_of 1 a s.stations) x p

-- 0, or 1, is answered: the station has a hop there.
pub west_hop : (c : Choice) (h : List Call) (a : ℕ) → number (steered (after (started c) h) a) ≡ 0 → 1 ≤ hop_of 0 a (after (started c) h).stations
west_hop c h a q = (west_open (after (started c) h) a q).some_hop

pub east_hop : (c : Choice) (h : List Call) (a : ℕ) → number (steered (after (started c) h) a) ≡ 1 → 1 ≤ hop_of 1 a (after (started c) h).stations
east_hop c h a q = (east_open (after (started c) h) a q).some_hop

-- 02, Item 5: beside the reply, which is that of before, hops, worst request and span are those of the way that is answered, or zeros.
pub reply_as_before : (s : State) (a : ℕ) → (steering s a).reply ≡ steered s a
unfolding steering steered
reply_as_before s a = same_reply (west_request s) (east_request s) s.stations a

west_tells : (s : State) (a : ℕ) → number (steered s a) ≡ 0 → Tells 0 (west_request s) s.stations a (steering s a)
unfolding steering steered
west_tells s a = west_told (west_request s) (east_request s) s.stations a

east_tells : (s : State) (a : ℕ) → number (steered s a) ≡ 1 → Tells 1 (east_request s) s.stations a (steering s a)
unfolding steering steered
east_tells s a = east_told (west_request s) (east_request s) s.stations a

-- 2, no way, and 3, not in the table: "zeros where there is none".
pub zeros_told : (s : State) (a n : ℕ) → (n ≡ 2) ⊎ (n ≡ 3) → number (steered s a) ≡ n → numbers (steering s a) ≡ n ∷ 0 ∷ 0 ∷ 0 ∷ []
unfolding steering steered
zeros_told s a = nothing-told (west_request s) (east_request s) s.stations a

-- For either ringlet: each span of an open way is clear.
clear : (c : Choice) (h : List Call) → Ascending (after (started c) h).stations → (ringlet own n : ℕ) → Open ringlet own (after (started c) h).stations n
    → (j : ℕ) → j < n → Clear (said (started c) h) ringlet own (after (started c) h).stations j
clear c h up = open_clear (said (started c) h) (after (started c) h).stations up (said_is_stored c h)

-- .. and what is told of a way is what was said.
points : (c : Choice) (h : List Call) → Ascending (after (started c) h).stations → (ringlet own a : ℕ) (x : Steering)
    → Tells ringlet own (after (started c) h).stations a x → Points (said (started c) h) ringlet own (after (started c) h).stations a x
points c h up = tells_points (said (started c) h) (after (started c) h).stations up (said_is_stored c h)

module _ (c : Choice) (t : TicksKept c.ticks) (h : List Call) (b : AllBytes h) where
  up : Ascending (after (started c) h).stations
  up = (after_kept c t h b).stations.ascending

  -- 0, west, is answered: neither end of any span up to the station has last requested SF or FS.
  pub west_clear : (a : ℕ) → number (steered (after (started c) h) a) ≡ 0 → (j : ℕ) → j < hop_of 0 a (after (started c) h).stations
      → Clear (said (started c) h) 0 (west_request (after (started c) h)) (after (started c) h).stations j
  west_clear a q = clear c h up 0 _ _ (west_open (after (started c) h) a q)

  -- 1, east, is answered: likewise.
  pub east_clear : (a : ℕ) → number (steered (after (started c) h) a) ≡ 1 → (j : ℕ) → j < hop_of 1 a (after (started c) h).stations
      → Clear (said (started c) h) 1 (east_request (after (started c) h)) (after (started c) h).stations j
  east_clear a q = clear c h up 1 _ _ (east_open (after (started c) h) a q)

  -- 0, west, is answered: the hops, the worst request by what both ends of each span last said, and the first span that has it.
  pub west_points : (a : ℕ) → (let s = after (started c) h in
      number (steered s a) ≡ 0 → Points (said (started c) h) 0 (west_request s) s.stations a (steering s a))
  west_points a q = points c h up 0 _ a _ (west_tells (after (started c) h) a q)

  -- 1, east, is answered: likewise.
  pub east_points : (a : ℕ) → (let s = after (started c) h in
      number (steered s a) ≡ 1 → Points (said (started c) h) 1 (east_request s) s.stations a (steering s a))
  east_points a q = points c h up 1 _ a _ (east_tells (after (started c) h) a q)

  -- One station stands at a hop: what is clear of one there is clear of every one.
  pub one_stands : (ringlet n : ℕ) → 1 ≤ n → (e d : Ends) → StandsAt (said (started c) h) ringlet n (after (started c) h).stations e
      → StandsAt (said (started c) h) ringlet n (after (started c) h).stations d → e ≡ d
  one_stands ringlet n low =
      stands_once (said (started c) h) ringlet n low (after (started c) h).stations ((after_kept c t h b).stations.apart ringlet)

-- The same of nodes of the program: b are settings bytes, st what start answered, h the calls made since, each of which met its contract; x is what steer answers.
module _ (b : List ℕ) (st : Started) (begun : Begun b st) (h : List Made) (met : Met st h) (a : ℕ) (x : Steering)
    (asks : x ≡ steering (state_of (node_after st h)) a) where
  abbrev s : State
  s = after (start_of b) (calls_of h)

  told_is : x ≡ steering s a
  told_is = asks ∙ ap (λ (y : State). steering y a) (state-after b st begun h met)

  answer_is : number x.reply ≡ number (steered s a)
  answer_is = ap (λ (y : Steering). number y.reply) told_is ∙ ap number (reply_as_before s a)

  rising : Ascending s.stations
  rising = subst Ascending (ruled b st begun h met).stations (ruled b st begun h met).kept.state.stations.ascending

  pub node_west_clear : (let s = after (start_of b) (calls_of h) in
      number x.reply ≡ 0 → (j : ℕ) → j < hop_of 0 a s.stations → Clear (said (start_of b) (calls_of h)) 0 (west_request s) s.stations j)
  unfolding start_of
  node_west_clear q = clear (choice_of (settings_in b).settings) (calls_of h) rising 0 _ _ (west_open s a (sym answer_is ∙ q))

  pub node_east_clear : (let s = after (start_of b) (calls_of h) in
      number x.reply ≡ 1 → (j : ℕ) → j < hop_of 1 a s.stations → Clear (said (start_of b) (calls_of h)) 1 (east_request s) s.stations j)
  unfolding start_of
  node_east_clear q = clear (choice_of (settings_in b).settings) (calls_of h) rising 1 _ _ (east_open s a (sym answer_is ∙ q))

  pub node_west_points : (let s = after (start_of b) (calls_of h) in
      number x.reply ≡ 0 → Points (said (start_of b) (calls_of h)) 0 (west_request s) s.stations a x)
  unfolding start_of
  node_west_points q =
      points (choice_of (settings_in b).settings) (calls_of h) rising 0 _ a x
      (subst (Tells 0 (west_request s) s.stations a) (sym told_is) (west_tells s a (sym answer_is ∙ q)))

  pub node_east_points : (let s = after (start_of b) (calls_of h) in
      number x.reply ≡ 1 → Points (said (start_of b) (calls_of h)) 1 (east_request s) s.stations a x)
  unfolding start_of
  node_east_points q =
      points (choice_of (settings_in b).settings) (calls_of h) rising 1 _ a x
      (subst (Tells 1 (east_request s) s.stations a) (sym told_is) (east_tells s a (sym answer_is ∙ q)))

  pub node_zeros_told : (n : ℕ) → (n ≡ 2) ⊎ (n ≡ 3) → number x.reply ≡ n → numbers x ≡ n ∷ 0 ∷ 0 ∷ 0 ∷ []
  node_zeros_told n k q = ap numbers told_is ∙ zeros_told s a n k (sym answer_is ∙ q)
