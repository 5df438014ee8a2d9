-- What `pacer::pace` promises of the pacer that it is lent, as a plain type.
use Rattle.std.specs.Prelude.{◌≡◌}
use Rattle.pacer.specs.Pace.{paced}
use Rattle.pacer.specs.contracts.steps.Pacer as Pacer_contract
use Rattle.promises.specs.Contracts.{Promise}

abbrev pub pace_promise : Promise Pacer_contract.pace.ended
pace_promise κs a x e =
    let p = paced a.1.1.1.1.0 a.1.1.1.1.1.0 a.1.1.1.0 a.1.0 a.1.1.0 a.0.now in
    (e.0.now ≡ p.pacer) × (x ≡ p.wrote)
