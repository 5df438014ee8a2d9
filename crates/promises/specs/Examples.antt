-- The twelve examples of 01, and those of the requests of 02, as drills through a whole controller, from bytes.
use Rattle.std.specs.Prelude.{ℕ, zero, suc, ◌+◌, ◌/◌, ◌%◌, ◌≡◌, List, [], ◌∷◌, ◌++◌, length}
use Rattle.std.proofs.Math.Option.{Option, none, some}
use Rattle.settings.specs.Reading.{settings_in}
use Rattle.stations.specs.Stations.{sequence_of}
use Rattle.ways.specs.Choice.{number, numbers, hop_of}
use Rattle.controller.specs.State.{State}
use Rattle.controller.specs.Record.{outcomes}
use Rattle.controller.specs.Node.{Shown}
use Rattle.controller.specs.Node.{west_request, steered, steering, asked}
use Rattle.promises.specs.History.{start_of}

-- Records, by their fields. An address is given by its last byte: 02-00-00-00-00-n.
abbrev pub address : ℕ → List ℕ
address n = 2 ∷ 0 ∷ 0 ∷ 0 ∷ 0 ∷ n ∷ []

-- The same address as a number.
abbrev pub station : ℕ → ℕ
station n = 2199023255552 + n

abbrev pub tick : List ℕ
tick = 2 ∷ 0 ∷ 1 ∷ 0 ∷ []

-- n ticks in one record, n low byte first.
abbrev pub many : ℕ → List ℕ
many n = 4 ∷ 0 ∷ 7 ∷ 0 ∷ n % 256 ∷ n / 256 ∷ []

abbrev pub link : ℕ → ℕ → List ℕ
link span status = 4 ∷ 0 ∷ 2 ∷ 0 ∷ span ∷ status ∷ []

abbrev pub keepalive : ℕ → List ℕ
keepalive span = 3 ∷ 0 ∷ 3 ∷ 0 ∷ span ∷ []

-- A report heard on the span of its ringlet.
abbrev pub report : ℕ → ℕ → ℕ → ℕ → ℕ → ℕ → List ℕ
report ringlet ttl n sequence west east =
    (14 ∷ 0 ∷ 5 ∷ 0 ∷ ringlet ∷ ringlet ∷ ttl ∷ []) ++ (address n ++ (sequence ∷ west ∷ east ∷ []))

abbrev pub attributes : ℕ → List ℕ → List ℕ
attributes n block = ((9 + length block) % 256 ∷ (9 + length block) / 256 ∷ 6 ∷ 0 ∷ 0 ∷ []) ++ (address n ++ block)

-- Settings of node 1: level, hold-off in steps of 10 ms; WTR 0, keepalive 50 ms, fast 10 ms, slow 2 steps of 50 ms, forget 10 steps of 100 ms.
abbrev pub settings : ℕ → ℕ → List ℕ
settings level holdoff = (17 ∷ 0 ∷ 32 ∷ 0 ∷ level ∷ []) ++ (address 1 ++ (0 ∷ 0 ∷ holdoff ∷ 50 ∷ 10 ∷ 2 ∷ 10 ∷ 0 ∷ []))

-- Short settings of node 1, and full ones that say the default settings, but for a forget time of so many steps of 100 ms.
abbrev pub short : List ℕ
short = (8 ∷ 0 ∷ 33 ∷ 0 ∷ []) ++ address 1

abbrev pub full_with : ℕ → List ℕ
full_with forget = (17 ∷ 0 ∷ 32 ∷ 0 ∷ 2 ∷ []) ++ (address 1 ++ (10 ∷ 0 ∷ 0 ∷ 3 ∷ 10 ∷ 2 ∷ forget % 256 ∷ forget / 256 ∷ []))

-- What may be asked after a drill.
pub data Question : Type 0 where
  results : Question
  west : Question
  hop : ℕ → ℕ → Question
  stored : ℕ → Question
  shows : ℕ → Question
  way : ℕ → Question
  trouble : ℕ → Question

pub record Example : Type 0 where
  pub start : List ℕ
  pub records : List (List ℕ)
  pub asks : List Question
  pub due : List ℕ

-- Records in the order in which they are made, each with room for a thousand reports, as in a drill.
abbrev pub room : ℕ
room = 7000

unfoldable pub run : State → List (List ℕ) → State
unfolding outcomes
run s [] = s
run s (b ∷ l) = run (outcomes s b room).state l

unfoldable pub results_of : State → List (List ℕ) → List ℕ
unfolding outcomes
results_of s [] = []
results_of s (b ∷ l) = (outcomes s b room).result ∷ results_of (outcomes s b room).state l

abbrev pub shown_as : Shown → List ℕ
shown_as x = x.reply ∷ x.kind ∷ x.weight0 ∷ x.weight1 ∷ x.reserved0 ∷ x.reserved1 ∷ []

abbrev pub listed : Option ℕ → List ℕ
listed none = []
listed (some n) = n ∷ []

unfoldable pub answer_to : Question → State → List (List ℕ) → List ℕ
unfolding run results_of west_request hop_of sequence_of asked steered steering
answer_to results s l = results_of s l
answer_to west s l = west_request (run s l) ∷ []
answer_to (hop ringlet n) s l = hop_of ringlet (station n) (run s l).stations ∷ []
answer_to (stored n) s l = listed (sequence_of (station n) (run s l).stations)
answer_to (shows n) s l = shown_as (asked (run s l) (station n))
answer_to (way n) s l = number (steered (run s l) (station n)) ∷ []
answer_to (trouble n) s l = numbers (steering (run s l) (station n))

unfoldable pub answers_to : List Question → State → List (List ℕ) → List ℕ
unfolding answer_to
answers_to [] s l = []
answers_to (q ∷ qs) s l = answer_to q s l ++ answers_to qs s l

-- The settings are taken, and what is asked is answered as is due.
pub record Holds (e : Example) : Type 0 where
  pub taken : (settings_in e.start).result ≡ 0
  pub answers : answers_to e.asks (start_of e.start) e.records ≡ e.due

unfoldable pub AllHold : List Example → Type 0
AllHold [] = Unit {0}
AllHold (e ∷ l) = Holds e × AllHold l

-- So many ticks, with keepalives coming on both spans.
unfoldable pub ticks : ℕ → List (List ℕ)
ticks zero = []
ticks (suc n) = keepalive 0 ∷ keepalive 1 ∷ tick ∷ ticks n

-- One report of station 2 and then the other, idle, from the next hop west.
abbrev pub two_reports : ℕ → ℕ → List (List ℕ)
two_reports first second = report 0 255 2 first 0 0 ∷ report 0 255 2 second 0 0 ∷ []

-- A station that has joined, and then a block of it.
abbrev pub joined_with : List ℕ → List (List ℕ)
joined_with block = report 0 255 2 1 0 0 ∷ attributes 2 block ∷ []

-- Own 1; west are 2, 3, 4 and east 4, 3, 2; all idle, but for what 2 requests west.
abbrev pub ring : ℕ → List (List ℕ)
ring requested =
    report 0 255 2 1 requested 0
    ∷ report 0 254 3 1 0 0
    ∷ report 0 253 4 1 0 0
    ∷ report 1 255 4 1 0 0
    ∷ report 1 254 3 1 0 0
    ∷ report 1 253 2 1 requested 0
    ∷ []

abbrev pub drill : ℕ → List (List ℕ) → List Question → List ℕ → Example
drill holdoff l q d = record { start = settings 2 holdoff; records = l; asks = q; due = d }

-- p1 "stored 200, heard 72: newer".
abbrev pub p1 : Example
p1 = drill 0 (two_reports 200 72) (results ∷ stored 2 ∷ []) (0 ∷ 0 ∷ 72 ∷ [])

-- p2 "stored 200, heard 73: old".
abbrev pub p2 : Example
p2 = drill 0 (two_reports 200 73) (results ∷ stored 2 ∷ []) (0 ∷ 22 ∷ 200 ∷ [])

-- p3 "stored 7, heard 135: newer, and then 7 is newer again".
abbrev pub p3 : Example
p3 = drill 0 (two_reports 7 135) (results ∷ stored 2 ∷ []) (0 ∷ 0 ∷ 135 ∷ [])

abbrev pub p3_again : Example
p3_again = drill 0 (two_reports 7 135 ++ (report 0 255 2 7 0 0 ∷ [])) (results ∷ stored 2 ∷ []) (0 ∷ 0 ∷ 0 ∷ 7 ∷ [])

-- p4 "TTL 255 is hop 1; TTL 193 is 63".
abbrev pub p4 : Example
p4 = drill 0 (report 0 255 2 1 0 0 ∷ report 0 193 3 1 0 0 ∷ []) (results ∷ hop 0 2 ∷ hop 0 3 ∷ []) (0 ∷ 0 ∷ 1 ∷ 63 ∷ [])

-- p5 "TTL 192 refused".
abbrev pub p5 : Example
p5 = drill 0 (report 0 192 3 1 0 0 ∷ []) (results ∷ stored 3 ∷ []) (6 ∷ [])

-- p6 "hold-off 3 steps: failed link is IDLE after 29 ticks, SF after 30 (keepalives coming)".
abbrev pub p6 : Example
p6 = drill 3 (link 0 2 ∷ ticks 29) (west ∷ []) (0 ∷ [])

abbrev pub p6_after : Example
p6_after = drill 3 (link 0 2 ∷ ticks 30) (west ∷ []) (4 ∷ [])

-- p7 "block 80 01 00 02 03 05: weights 3, 5".
abbrev pub p7 : Example
p7 = drill 0 (joined_with (0x80 ∷ 1 ∷ 0 ∷ 2 ∷ 3 ∷ 5 ∷ [])) (results ∷ shows 2 ∷ []) (0 ∷ 0 ∷ 0 ∷ 0 ∷ 3 ∷ 5 ∷ 0 ∷ 0 ∷ [])

-- p8 "empty block: 1, 1, 0, 0".
abbrev pub p8 : Example
p8 = drill 0 (joined_with []) (results ∷ shows 2 ∷ []) (0 ∷ 0 ∷ 0 ∷ 0 ∷ 1 ∷ 1 ∷ 0 ∷ 0 ∷ [])

-- A node of level 1, and a block of type 2 that begins with the byte m.
abbrev pub level_one : ℕ → List ℕ → Example
level_one m d = record {
  start = settings 1 0;
  records = joined_with (m ∷ 2 ∷ 0 ∷ 4 ∷ 3 ∷ 0xe8 ∷ 0 ∷ 0 ∷ []);
  asks = results ∷ shows 2 ∷ [];
  due = d;
}

-- p9 "level 1, block 80 02 00 04 03 E8 00 00: behind, type 2".
abbrev pub p9 : Example
p9 = level_one 0x80 (0 ∷ 24 ∷ 1 ∷ 2 ∷ 0 ∷ 0 ∷ 0 ∷ 0 ∷ [])

-- p10 "first byte 00 there: skipped".
abbrev pub p10 : Example
p10 = level_one 0 (0 ∷ 0 ∷ 0 ∷ 0 ∷ 1 ∷ 1 ∷ 0 ∷ 0 ∷ [])

-- p11 "own A, west B, C, D and east D, C, B, all idle: C is west".
abbrev pub p11 : Example
p11 = drill 0 (ring 0) (results ∷ way 3 ∷ []) (0 ∷ 0 ∷ 0 ∷ 0 ∷ 0 ∷ 0 ∷ 0 ∷ [])

-- p12 "B reports west SD: C is east".
abbrev pub p12 : Example
p12 = drill 0 (ring 3) (results ∷ way 3 ∷ []) (0 ∷ 0 ∷ 0 ∷ 0 ∷ 0 ∷ 0 ∷ 1 ∷ [])

-- "One statement over one list covers these."
abbrev pub examples : List Example
examples = p1 ∷ p2 ∷ p3 ∷ p3_again ∷ p4 ∷ p5 ∷ p6 ∷ p6_after ∷ p7 ∷ p8 ∷ p9 ∷ p10 ∷ p11 ∷ p12 ∷ []

-- 02, Item 2: "With 3 steps, failed at tick 0, degraded after tick 20 gives SD after tick 30".
abbrev pub swings : ℕ → List (List ℕ)
swings later = link 0 2 ∷ (ticks 20 ++ (link 0 1 ∷ ticks later))

abbrev pub swing : Example
swing = drill 3 (swings 9) (west ∷ []) (0 ∷ [])

abbrev pub swing_after : Example
swing_after = drill 3 (swings 10) (west ∷ []) (3 ∷ [])

-- 02, Item 4: p6 and the swinging link told in records of many ticks; the 29 and 30 ticks are fewer than the 50 of the keepalive setting.
abbrev pub p6_many : Example
p6_many = drill 3 (link 0 2 ∷ many 29 ∷ []) (results ∷ west ∷ []) (0 ∷ 0 ∷ 0 ∷ [])

abbrev pub p6_many_after : Example
p6_many_after = drill 3 (link 0 2 ∷ many 30 ∷ []) (results ∷ west ∷ []) (0 ∷ 0 ∷ 4 ∷ [])

abbrev pub swing_many : Example
swing_many = drill 3 (link 0 2 ∷ many 20 ∷ link 0 1 ∷ many 9 ∷ []) (results ∷ west ∷ []) (0 ∷ 0 ∷ 0 ∷ 0 ∷ 0 ∷ [])

abbrev pub swing_many_after : Example
swing_many_after = drill 3 (link 0 2 ∷ many 20 ∷ link 0 1 ∷ many 10 ∷ []) (results ∷ west ∷ []) (0 ∷ 0 ∷ 0 ∷ 0 ∷ 3 ∷ [])

-- 02, Item 5: p11 and p12 with hops, worst request and the first span that has it: no trouble on the way chosen.
abbrev pub p11_told : Example
p11_told = drill 0 (ring 0) (trouble 3 ∷ []) (0 ∷ 2 ∷ 0 ∷ 1 ∷ [])

abbrev pub p12_told : Example
p12_told = drill 0 (ring 3) (trouble 3 ∷ []) (1 ∷ 2 ∷ 0 ∷ 1 ∷ [])

-- East fails, so that the way is west, with SD between 2 and 3, its second span ..
abbrev pub second_span : Example
second_span = drill 0 (ring 3 ++ (link 1 2 ∷ [])) (trouble 3 ∷ []) (0 ∷ 2 ∷ 3 ∷ 2 ∷ [])

-- .. and then with SD on the own span too, the first of the two.
abbrev pub first_of_two : Example
first_of_two = drill 0 (ring 3 ++ (link 1 2 ∷ link 0 1 ∷ [])) (trouble 3 ∷ []) (0 ∷ 2 ∷ 3 ∷ 1 ∷ [])

-- The examples that the requests of 02 bring with them.
abbrev pub requested : List Example
requested =
    swing ∷ swing_after ∷ p6_many ∷ p6_many_after ∷ swing_many ∷ swing_many_after ∷ p11_told ∷ p12_told ∷ second_span ∷ first_of_two ∷ []

-- A station leaves with the tick of the forget time and not before: station 2 is heard once; then so many ticks come, with keepalives, and its sequence is asked for.
abbrev pub unheard_for : ℕ → List ℕ → List ℕ → Example
unheard_for n start d = record { start = start; records = report 0 255 2 1 0 0 ∷ ticks n; asks = stored 2 ∷ []; due = d }

abbrev pub full_forgets : Example
full_forgets = unheard_for 999 (full_with 10) (1 ∷ [])

abbrev pub full_forgets_after : Example
full_forgets_after = unheard_for 1000 (full_with 10) []

abbrev pub named_forgets : Example
named_forgets = unheard_for 29999 (full_with 300) (1 ∷ [])

abbrev pub named_forgets_after : Example
named_forgets_after = unheard_for 30000 (full_with 300) []

abbrev pub unheard : List Example
unheard = full_forgets ∷ full_forgets_after ∷ named_forgets ∷ named_forgets_after ∷ []
