-- What a record leaves that changes the stations and nothing else.
use Rattle.std.specs.Prelude.{[]}
use Rattle.stations.specs.Hearing.{Placed}
use Rattle.controller.specs.State.{State}
use Rattle.controller.specs.Record.{Outcome}

abbrev pub with_stations : State → Placed → Outcome
with_stations s j = record {
  result = j.result;
  state = record { choice = s.choice; spans = s.spans; stations = j.stations; pacer = s.pacer };
  report = [];
}
