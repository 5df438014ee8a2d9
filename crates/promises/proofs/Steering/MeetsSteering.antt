-- What Steering supposes is met, by computation: settings, histories of bytes, ways that are answered. And what `said` gives on histories. Assumes nothing.
use mathlib.Core.Path.{◌≡◌, refl}
use mathlib.Core.Bool.{false}
use mathlib.Core.List.{[], ◌∷◌}
use mathlib.Core.Logic.{inl, inr}
use mathlib.Core.Option.{none, some}
use native.Mathlib.Omega.{arith}
use Rattle.wire.specs.Fields.{address_at}
use Rattle.wire.specs.Head.{broken, head_of}
use Rattle.settings.specs.Kept.{TicksKept}
use Rattle.settings.specs.Ticks.{ticks_of}
use Rattle.settings.specs.Ranges.{in_range}
use Rattle.settings.specs.Reading.{fields_of, full_in, settings_in}
use Rattle.spans.specs.Codes.{IDLE, SD, SF}
use Rattle.blocks.specs.Types.{knows}
use Rattle.stations.specs.Stations.{present}
use Rattle.ways.specs.Choice.{number, numbers, hop_of}
use Rattle.controller.specs.State.{started}
use Rattle.controller.specs.Node.{choice_of, west_request, east_request, steered, steering}
use Rattle.promises.specs.History.{after, AllBytes}
use Rattle.promises.specs.Steering.{said, StandsAt, Points, Clear}
use Rattle.promises.specs.Drilled.{calls_for}
use Rattle.promises.specs.Examples.{station, settings, ring}
use Rattle.promises.specs.Possible.{all_bytes}
use Rattle.promises.specs.SteeringDrills.{one, state, ends, and_then, purging, rejoining, westward, troubled}
use Rattle.promises.proofs.Demand2.Possible.{all_bytes_lem}
use Rattle.promises.proofs.Steering.Steering.{west_clear, east_clear, west_points, east_points, zeros_told}

pub one_is : choice_of (settings_in (settings 2 0)).settings ≡ one
unfolding settings_in head_of broken full_in fields_of in_range address_at ticks_of knows
one_is = refl

pub ticks_met : TicksKept one.ticks
ticks_met = record {
  wtr = omega arith;
  holdoff = omega arith;
  keepalive_low = omega arith;
  keepalive = omega arith;
  fast_low = omega arith;
  fast = omega arith;
  slow_low = omega arith;
  slow = omega arith;
  forget_low = omega arith;
  forget = omega arith;
}

-- p11: west is answered, at hop 2; and what west_clear then says of the second span.
pub west_bytes : AllBytes (calls_for (ring IDLE))
unfolding all_bytes
west_bytes = all_bytes_lem (calls_for (ring IDLE)) refl

pub west_met : number (steered (state (ring IDLE)) (station 3)) ≡ 0
unfolding started after steered address_at
west_met = refl

pub west_two : hop_of 0 (station 3) (state (ring IDLE)).stations ≡ 2
unfolding started after hop_of address_at
west_two = refl

pub west_second : Clear (said (started one) (calls_for (ring IDLE))) 0 (west_request (state (ring IDLE))) (state (ring IDLE)).stations 1
west_second = west_clear one ticks_met (calls_for (ring IDLE)) west_bytes (station 3) west_met 1 (omega (arith, west_two))

pub west_stands : StandsAt (said (started one) (calls_for (ring IDLE))) 0 2 (state (ring IDLE)).stations (ends IDLE IDLE)
unfolding started said address_at
west_stands = record { address = station 3; at = west_two; requests = refl }

-- p12: east is answered, at hop 2.
pub east_bytes : AllBytes (calls_for (ring SD))
unfolding all_bytes
east_bytes = all_bytes_lem (calls_for (ring SD)) refl

pub east_met : number (steered (state (ring SD)) (station 3)) ≡ 1
unfolding started after steered address_at
east_met = refl

pub east_two : hop_of 1 (station 3) (state (ring SD)).stations ≡ 2
unfolding started after hop_of address_at
east_two = refl

pub east_second : Clear (said (started one) (calls_for (ring SD))) 1 (east_request (state (ring SD))) (state (ring SD)).stations 1
east_second = east_clear one ticks_met (calls_for (ring SD)) east_bytes (station 3) east_met 1 (omega (arith, east_two))

-- What was last said of 2 and of 3 there, and of a station never heard.
pub said_2 : said (started one) (calls_for (ring SD)) (station 2) ≡ some (ends SD IDLE)
unfolding started said address_at
said_2 = refl

pub said_3 : said (started one) (calls_for (ring SD)) (station 3) ≡ some (ends IDLE IDLE)
unfolding started said address_at
said_3 = refl

pub absent_5 : present (station 5) (state (ring SD)).stations ≡ false
unfolding started after present address_at
absent_5 = refl

pub said_5 : said (started one) (calls_for (ring SD)) (station 5) ≡ none
unfolding started said address_at
said_5 = refl

-- A copy says nothing, whatever its requests; nor does an old report; a newer one does.
pub said_copy : said (started one) (calls_for (and_then 1)) (station 2) ≡ some (ends SD IDLE)
unfolding started said address_at
said_copy = refl

pub said_old : said (started one) (calls_for (and_then 200)) (station 2) ≡ some (ends SD IDLE)
unfolding started said address_at
said_old = refl

pub said-newer : said (started one) (calls_for (and_then 2)) (station 2) ≡ some (ends IDLE SF)
unfolding started said address_at
said-newer = refl

pub said-purged : said (started one) (calls_for purging) (station 2) ≡ none
unfolding started said address_at
said-purged = refl

pub said_rejoined : said (started one) (calls_for rejoining) (station 2) ≡ some (ends IDLE SF)
unfolding started said address_at
said_rejoined = refl

pub far_end_idle : number (steered (state (westward IDLE)) (station 3)) ≡ 0
unfolding started after steered address_at
far_end_idle = refl

pub far_end_failed : number (steered (state (westward SF)) (station 3)) ≡ 2
unfolding started after steered address_at
far_end_failed = refl

pub far_end_said : said (started one) (calls_for (westward SF)) (station 3) ≡ some (ends IDLE SF)
unfolding started said address_at
far_end_said = refl

-- 02, Item 5: no way, and zeros; and of a station that was never heard.
pub far_end_zeros : numbers (steering (state (westward SF)) (station 3)) ≡ 2 ∷ 0 ∷ 0 ∷ 0 ∷ []
far_end_zeros = zeros_told (state (westward SF)) (station 3) 2 (inl refl) far_end_failed

pub unheard : number (steered (state (westward SF)) (station 5)) ≡ 3
unfolding started after steered address_at
unheard = refl

pub unheard_zeros : numbers (steering (state (westward SF)) (station 5)) ≡ 3 ∷ 0 ∷ 0 ∷ 0 ∷ []
unheard_zeros = zeros_told (state (westward SF)) (station 5) 3 (inr refl) unheard

-- Trouble on the second span of the way west; the numbers of this ring and of P12's are among the examples (`second_span`, `p12_told`).
pub troubled_bytes : AllBytes (calls_for troubled)
unfolding all_bytes
troubled_bytes = all_bytes_lem (calls_for troubled) refl

pub troubled_west : number (steered (state troubled) (station 3)) ≡ 0
unfolding started after steered address_at
troubled_west = refl

pub troubled_points : Points (said (started one) (calls_for troubled)) 0 (west_request (state troubled)) (state troubled).stations (station 3) (steering (state troubled) (station 3))
troubled_points = west_points one ticks_met (calls_for troubled) troubled_bytes (station 3) troubled_west

-- p12: on the way east there is none.
pub east_pointed : Points (said (started one) (calls_for (ring SD))) 1 (east_request (state (ring SD))) (state (ring SD)).stations (station 3) (steering (state (ring SD)) (station 3))
east_pointed = east_points one ticks_met (calls_for (ring SD)) east_bytes (station 3) east_met
