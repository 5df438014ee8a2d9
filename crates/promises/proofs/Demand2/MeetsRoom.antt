-- The capacity is tight: two rings that are being joined fill every place, by computation. Assumes nothing.
use Prim.Native.Nat.{ℕ, suc, ◌<◌}
use mathlib.Core.Path.{◌≡◌, refl}
use mathlib.Core.Bool.{true, false, cond, ◌&&◌, not}
use mathlib.Core.List.{List, [], ◌∷◌}
use lib.ListN.{length}
use lib.Dec.{eqb}
use Rattle.wire.specs.Fields.{address_at}
use Rattle.stations.specs.declared.station.Station.{Station}
use Rattle.stations.specs.declared.station.Report.{Report}
use Rattle.stations.specs.Station.{farthest}
use Rattle.stations.specs.Stations.{capacity, displaced, present, sequence_of}
use Rattle.controller.specs.Reading.{reading}
use Rattle.controller.specs.State.{State, started}
use Rattle.promises.specs.History.{Call, AllBytes, after, answered}
use Rattle.promises.specs.Possible.{all_bytes, are_bytes}
use Rattle.promises.specs.Examples.{station, report}
use Rattle.promises.specs.LevelDrills.{call}
use Rattle.promises.specs.SteeringDrills.{one}
use Rattle.promises.specs.Room.{Newcomer, crowd, two_rings}
use Rattle.promises.proofs.Demand2.AfterKept.{after_kept}
use Rattle.promises.proofs.Demand2.Possible.{all_bytes_lem, are_bytes_lem}
use Rattle.promises.proofs.Demand2.Room.{place_in}
use Rattle.promises.proofs.Steering.MeetsSteering.{ticks_met}

-- Node 1 after the reports of 126 stations.
unfoldable pub full : State
unfolding started after crowd address_at
full = after (started one) two_rings

-- How many stand on ringlet 0 alone, and on ringlet 1 alone.
unfoldable pub on0 : List Station → ℕ
on0 [] = 0
on0 (s ∷ l) = cond (not (eqb s.hop0 0) && eqb s.hop1 0) (suc (on0 l)) (on0 l)

unfoldable pub on1 : List Station → ℕ
on1 [] = 0
on1 (s ∷ l) = cond (eqb s.hop0 0 && not (eqb s.hop1 0)) (suc (on1 l)) (on1 l)

pub full_places : (length full.stations ≡ capacity) × (on0 full.stations ≡ farthest) × (on1 full.stations ≡ farthest)
unfolding full on0 on1
full_places = (refl, refl, refl)

-- One more station, at hop 7 of ringlet 1: after these reports 01 said 23. It is taken, and station 71, which was there, has left.
abbrev pub one_more : Call
one_more = call (report 1 249 200 1 0 0)

abbrev pub then : State
then = after (started one) (one_more ∷ two_rings)

pub one_more_lem : ((answered (started one) two_rings one_more).result ≡ 0)
    × (length then.stations ≡ capacity)
    × (present (station 200) then.stations ≡ true)
    × (present (station 71) then.stations ≡ false)
unfolding started after crowd address_at present
one_more_lem = (refl, refl, refl, refl)

-- What `place_in` supposes is met there.
pub full_bytes : AllBytes two_rings
unfolding all_bytes crowd
full_bytes = all_bytes_lem two_rings refl

abbrev arriving : Report
arriving = record { address = station 200; ringlet = 1; hop = 7; sequence = 1; west = 0; east = 0 }

pub arrives : Newcomer full one_more.bytes one_more.room 1 arriving
unfolding full reading sequence_of
arrives = record { reads = refl; unknown = refl }

pub place_met : length (displaced arriving full.stations) < capacity
unfolding are_bytes full
place_met = place_in full (after_kept one ticks_met two_rings full_bytes) one_more.bytes one_more.room (are_bytes_lem one_more.bytes refl) 1 arriving arrives
