-- The pacer of the examples, with fast 3 and slow 5.
use Rattle.std.specs.Prelude.{ℕ, zero, suc, true}
use Rattle.pacer.specs.Pace.{Pacer, paced}

-- The pacer after so many ticks with the pair IDLE/IDLE.
unfoldable pub after_ticks : ℕ → Pacer → Pacer
unfolding paced
after_ticks zero p = p
after_ticks (suc n) p = after_ticks n (paced 3 5 true 0 0 p).pacer
