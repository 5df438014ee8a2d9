-- The twelve examples, and those of the requests, by computation. Assumes nothing.
use mathlib.Core.Path.{refl}
use Rattle.wire.specs.Fields.{address_at}
use Rattle.wire.specs.Head.{broken, head_of}
use Rattle.settings.specs.Ticks.{ticks_of}
use Rattle.settings.specs.Ranges.{in_range}
use Rattle.settings.specs.Reading.{fields_of, full_in, settings_in}
use Rattle.blocks.specs.Types.{knows, good, among}
use Rattle.blocks.specs.Entries.{cut}
use Rattle.blocks.specs.Meaning.{known, has, sound, behind, value}
use Rattle.promises.specs.History.{start_of}
use Rattle.promises.specs.Examples.{AllHold, answers_to, ticks, examples, requested}

pub twelve : AllHold examples
unfolding AllHold answers_to start_of ticks settings_in head_of broken full_in fields_of in_range address_at ticks_of cut known has sound behind value knows good among
twelve = (
  record { taken = refl; answers = refl },
  (
    record { taken = refl; answers = refl },
    (
      record { taken = refl; answers = refl },
      (
        record { taken = refl; answers = refl },
        (
          record { taken = refl; answers = refl },
          (
            record { taken = refl; answers = refl },
            (
              record { taken = refl; answers = refl },
              (
                record { taken = refl; answers = refl },
                (
                  record { taken = refl; answers = refl },
                  (
                    record { taken = refl; answers = refl },
                    (
                      record { taken = refl; answers = refl },
                      (
                        record { taken = refl; answers = refl },
                        (
                          record { taken = refl; answers = refl },
                          (
                            record { taken = refl; answers = refl },
                            tt,
                          ),
                        ),
                      ),
                    ),
                  ),
                ),
              ),
            ),
          ),
        ),
      ),
    ),
  ),
)

pub of_requests : AllHold requested
unfolding AllHold answers_to start_of ticks settings_in head_of broken full_in fields_of in_range address_at ticks_of cut known has sound behind value knows good among
of_requests = (
  record { taken = refl; answers = refl },
  (
    record { taken = refl; answers = refl },
    (
      record { taken = refl; answers = refl },
      (
        record { taken = refl; answers = refl },
        (
          record { taken = refl; answers = refl },
          (
            record { taken = refl; answers = refl },
            (
              record { taken = refl; answers = refl },
              (
                record { taken = refl; answers = refl },
                (record { taken = refl; answers = refl }, (record { taken = refl; answers = refl }, tt)),
              ),
            ),
          ),
        ),
      ),
    ),
  ),
)
