-- The places behind it hand down, and the last one is given up. Assumes nothing.
use Rattle.std.proofs.Common.{◌∙◌}
use Rattle.stations.proofs.Shifting.{closed_up}
use Rattle.stations.proofs.shift.remove_at.Goals as goal

pub returns : goal.returns
returns c =
    c.truncate.ensures.items
    ∙ rw (c.len-last.ensures.value, c.as_mut_slice.ensures.value)
    (closed_up c.args.stations.now.items c.args.at _ _ _ _ _ c.requires (rw c.as_mut_slice.ensures.value at c.hand_down.ensures))
