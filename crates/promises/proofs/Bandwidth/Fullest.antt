-- A state that is kept at the lower end of `range`: every place has a station that reserves all that it can. Assumes nothing.
use Prim.Native.Nat.{ℕ, zero, suc, ◌+◌, ◌-◌, ◌*◌, ◌/◌, ◌%◌, ◌<◌, ◌≤◌, ◌^◌}
use mathlib.Core.Path.{◌≡◌, refl, sym, ap}
use mathlib.Core.Bool.{Bool, true, false, cond, not, ◌&&◌, true≢false}
use native.Mathlib.Omega.{arith}
use lib.IntN.{pos, neg_ℤ}
use lib.ListN.{length}
use lib.Dec.{eqb, leb}
use borrow.Author.Tests.{ne_eqb, leb-true, leb-false}
use Rattle.wire.specs.Fields.{odd_first}
use Rattle.spans.specs.Requests.{down}
use Rattle.blocks.specs.Types.{among}
use Rattle.stations.specs.declared.station.Station.{Station}
use Rattle.stations.specs.Station.{farthest, hop}
use Rattle.stations.specs.Stations.{capacity}
use Rattle.stations.specs.Table.{Each, Ascending}
use Rattle.stations.specs.Kept.{StationKept, Apart}
use Rattle.controller.specs.State.{started}
use Rattle.controller.specs.Kept.{StateKept}
use Rattle.controller.proofs.Holding.{started_kept}
use Rattle.bandwidth.specs.Free.{reservations, unreserved}
use Rattle.promises.specs.Examples.{station}
use Rattle.promises.specs.SteeringDrills.{one}
use Rattle.promises.specs.BandwidthDrills.{hop_on0, hop_on1, reserving, fullest}
use Rattle.promises.proofs.Steering.MeetsSteering.{ticks_met}

long : (k n : ℕ) → length (reserving k n) ≡ n
unfolding reserving
long k zero = refl
long k (suc n) = ap suc (long (suc k) n)

-- Addresses and hops go up.
above : (m k n : ℕ) → m ≤ k → Each (λ (x : Station). station m < x.address) (reserving k n)
unfolding reserving Each
above m k zero h = tt
above m k (suc n) h = (omega arith, above m (suc k) n (omega arith))

ascends : (k n : ℕ) → Ascending (reserving k n)
unfolding reserving Ascending
ascends k zero = tt
ascends k (suc n) = (above (suc k) (suc k) n (omega arith), ascends (suc k) n)

-- On its ringlet each is beyond the one before; on the other it is not heard.
beyond : (ringlet m k n : ℕ) → m < k
    → Each (λ (x : Station). hop ringlet x ≡ cond (eqb ringlet 0) (hop_on0 m) (hop_on1 m) → cond (eqb ringlet 0) (hop_on0 m) (hop_on1 m) ≡ 0) (reserving k n)
unfolding reserving Each
beyond ringlet m k zero h = tt
beyond ringlet m k (suc n) h = (go (eqb ringlet 0) (leb m farthest) refl (leb k farthest) refl, beyond ringlet m (suc k) n (omega arith))
  where
    go : (t u : Bool) → leb m farthest ≡ u → (v : Bool) → leb k farthest ≡ v
        → cond t (cond v k 0) (cond v 0 (k - farthest)) ≡ cond t (cond u m 0) (cond u 0 (m - farthest))
        → cond t (cond u m 0) (cond u 0 (m - farthest)) ≡ 0
    go true true p true q e = absurd (omega arith)
    go true true p false q e = sym e
    go true false p v q e = refl
    go false true p v q e = refl
    go false false p true q e = absurd (omega (arith, leb-false m farthest p, leb-true k farthest q))
    go false false p false q e = absurd (omega (arith, leb-false m farthest p, leb-false k farthest q))

apart : (ringlet k n : ℕ) → Apart ringlet (reserving k n)
unfolding reserving Apart
apart ringlet k zero = tt
apart ringlet k (suc n) = (beyond ringlet k (suc k) n (omega arith), apart ringlet (suc k) n)

-- Each fits its place: an even address that is not the node's, one hop up to 63, values in range.
even : (j : ℕ) → j < 2 ^ 40 → odd_first (station j) ≡ false
even j h = ne_eqb (station j / 2 ^ 40 % 2) 1 (λ e. omega arith)

one-hop : (k : ℕ) → 1 ≤ k → k ≤ capacity → (hop_on0 k ≤ farthest) × (hop_on1 k ≤ farthest) × (not (eqb (hop_on0 k) 0 && eqb (hop_on1 k) 0) ≡ true)
one-hop k low high = go (leb k farthest) refl
  where
    go : (b : Bool) → leb k farthest ≡ b
        → (cond b k 0 ≤ farthest) × (cond b 0 (k - farthest) ≤ farthest) × (not (eqb (cond b k 0) 0 && eqb (cond b 0 (k - farthest)) 0) ≡ true)
    go true e = (leb-true k farthest e, omega arith, rw (ne_eqb k 0 (λ z. omega arith)))
    go false e = (omega arith, omega arith, rw (ne_eqb (k - farthest) 0 (λ z. omega (arith, leb-false k farthest e))))

each_kept : (k n : ℕ) → 1 ≤ k → k + n ≤ capacity + 1 → Each (StationKept one.address one.ticks.forget one.known) (reserving k n)
unfolding reserving Each among
each_kept k zero low high = tt
each_kept k (suc n) low high = (
  record {
    address = omega arith;
    even = even (suc k) (omega arith);
    foreign = λ e. omega arith;
    hop0 = (one-hop k low (omega arith)).0;
    hop1 = (one-hop k low (omega arith)).1;
    somewhere = (one-hop k low (omega arith)).2;
    sequence = omega arith;
    west = omega arith;
    east = omega arith;
    age = omega arith;
    attributes = record {
      values = λ e. record {
        kind = refl;
        weight0 = omega arith;
        weight0_byte = omega arith;
        weight1 = omega arith;
        weight1_byte = omega arith;
        reserved0 = omega arith;
        reserved1 = omega arith;
        one = λ q. absurd (true≢false q);
        two = λ q. absurd (true≢false q);
      };
      late = λ e. absurd (true≢false (sym e));
    };
  },
  each_kept (suc k) n (omega arith) (omega arith),
)

pub fullest_kept : StateKept fullest
unfolding started down
fullest_kept =
    let k : StateKept (started one) = started_kept one ticks_met in
    record {
      ticks = k.ticks;
      west = k.west;
      east = k.east;
      stations = record {
        few = omega (arith, long 1 capacity);
        ascending = ascends 1 capacity;
        apart = λ ringlet. apart ringlet 1 capacity;
        each = each_kept 1 capacity (omega arith) (omega arith);
      };
      unheld0 = λ e. absurd (true≢false (sym e));
      unheld1 = λ e. absurd (true≢false (sym e));
      pacer = k.pacer;
    }

-- What they reserve together.
all_of : (ringlet k n : ℕ) → reservations ringlet (reserving k n) ≡ 65535 * n
unfolding reserving reservations
all_of ringlet k zero = refl
all_of ringlet k (suc n) = go (eqb ringlet 0) (all_of ringlet (suc k) n)
  where
    go : (t : Bool) → reservations ringlet (reserving (suc k) n) ≡ 65535 * n → cond t 65535 65535 + reservations ringlet (reserving (suc k) n) ≡ 65535 * suc n
    go true e = omega arith
    go false e = omega arith

pub lower_end : (ringlet : ℕ) → unreserved ringlet 0 65535 fullest.stations ≡ neg_ℤ (pos (65535 * (capacity + 1)))
unfolding unreserved
lower_end ringlet = rw (all_of ringlet 1 capacity)
