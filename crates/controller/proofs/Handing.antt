-- The stations may be judged after the WTR step, and a record that is refused has changed nothing till then. Assumes nothing.
use Prim.Native.Nat.{ℕ}
use mathlib.Core.Path.{◌≡◌, refl, sym, ◌∙◌, ap}
use mathlib.Core.Bool.{Bool, true, false, cond, true≢false, false≢true}
use mathlib.Core.List.{List}
use lib.Dec.{eqb}
use Rattle.settings.specs.declared.choice.Ticks.{Ticks}
use Rattle.spans.specs.declared.span.Span.{Span}
use Rattle.spans.specs.Requests.{automatic, down, waited}
use Rattle.spans.proofs.Waiting.{waited-automatic}
use Rattle.blocks.specs.Meaning.{Meaning, malformed, aside, shows, meaning}
use Rattle.stations.specs.declared.station.Station.{Station}
use Rattle.stations.specs.declared.station.Report.{Report}
use Rattle.stations.specs.Stations.{present}
use Rattle.stations.specs.Hearing.{Placed, placed}
use Rattle.stations.proofs.Lists.{chosen}
use Rattle.stations.proofs.Placing.{placed-ends}
use Rattle.controller.specs.Reading.{Reading, Refused, Tick, Link, Keepalive, Operator, Heard, Block}
use Rattle.controller.specs.State.{Choice, Spans, span_of}
use Rattle.controller.specs.Handling.{acted, gives, hearing, taking, learning, judged}
use Rattle.controller.specs.Closing.{settled}
use Rattle.controller.specs.Record.{refusal}

-- Whether a span is down is the same before and after the WTR step ..
waited-down : (t : Ticks) (was : ℕ) (s : Span) → down t (waited t was s) ≡ down t s
unfolding down
waited-down t was s = rw (waited-automatic t was s)

down-settled : (t : Ticks) (n : ℕ) (x y : Spans) → down t (span_of n (settled t x y)) ≡ down t (span_of n y)
unfolding settled
down-settled t n x y = go (eqb n 0)
  where
    go : (b : Bool) → down t (cond b (settled t x y).west (settled t x y).east) ≡ down t (cond b y.west y.east)
    go true = waited-down t (automatic t x.west) y.west
    go false = waited-down t (automatic t x.east) y.east

-- .. and so is what a record does to the stations.
pub judged-settled : (c : Choice) (r : Reading) (b : List ℕ) (x y : Spans) (l : List Station)
    → judged c r b (settled c.ticks x y) l ≡ judged c r b y l
unfolding judged hearing learning
judged-settled c (Refused k) b x y l = refl
judged-settled c Tick b x y l = refl
judged-settled c (Link n status) b x y l = refl
judged-settled c (Keepalive n) b x y l = refl
judged-settled c (Operator n request) b x y l = refl
judged-settled c (Heard n p) b x y l =
    ap (λ (d : Bool). cond {A = Placed} (eqb p.ringlet n) (cond d (gives 21 l) (placed p l)) (gives 20 l)) (down-settled c.ticks n x y)
judged-settled c (Block n a) b x y l =
    ap (λ (d : Bool). cond {A = Placed} d (gives 21 l) (cond (present a l) (taking a (meaning c.known b) l) (gives 7 l)))
    (down-settled c.ticks n x y)

-- A report that was read is never refused: 0, or 20 to 22 ..
abbrev Taken : Placed → Type 0
Taken j = refusal j.result ≡ false

pub hearing-taken : (t : Ticks) (n : ℕ) (p : Report) (x : Spans) (l : List Station) → refusal (hearing t n p x l).result ≡ false
unfolding hearing
hearing-taken t n p x l =
    chosen Taken (eqb p.ringlet n)
    (λ e. chosen Taken (down t (span_of n x)) (λ e. refl)
    (λ e. placed-ends Taken p l (λ stored e newer. refl) (λ stored e old. refl) (λ e. refl)))
    (λ e. refl)

-- .. and a block that is refused leaves the stations.
abbrev Calm : List Station → Placed → Type 0
Calm l j = refusal j.result ≡ true → j.stations ≡ l

calm_taking : (a : ℕ) (m : Meaning) (l : List Station) → Calm l (taking a m l)
calm_taking a malformed l h = refl
calm_taking a (aside t) l h = absurd (false≢true h)
calm_taking a (shows es) l h = absurd (false≢true h)

calm_learning : (t : Ticks) (n a : ℕ) (m : Meaning) (x : Spans) (l : List Station) → Calm l (learning t n a m x l)
unfolding learning
calm_learning t n a m x l =
    chosen (Calm l) (down t (span_of n x)) (λ e h. refl) (λ e. chosen (Calm l) (present a l) (λ e. calm_taking a m l) (λ e h. refl))

-- A record that is refused touches neither spans nor stations.
pub refused-leaves : (c : Choice) (r : Reading) (b : List ℕ) (x y : Spans) (l : List Station) → refusal (judged c r b y l).result ≡ true
    → (acted c.ticks r x ≡ x) × ((judged c r b y l).stations ≡ l)
unfolding judged acted
refused-leaves c (Refused k) b x y l h = (refl, refl)
refused-leaves c Tick b x y l h = absurd (false≢true h)
refused-leaves c (Link n status) b x y l h = absurd (false≢true h)
refused-leaves c (Keepalive n) b x y l h = absurd (false≢true h)
refused-leaves c (Operator n request) b x y l h = absurd (false≢true h)
refused-leaves c (Heard n p) b x y l h = absurd (true≢false (sym h ∙ hearing-taken c.ticks n p y l))
refused-leaves c (Block n a) b x y l h = (refl, calm_learning c.ticks n a (meaning c.known b) y l h)
