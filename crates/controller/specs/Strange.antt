-- Numbers that may be asked for and are the address of no station. 01, The way to a station: "(so too for the own address or an odd one, here and below)".
use Rattle.std.specs.Prelude.{ℕ, ◌≤◌, ◌^◌, ◌≡◌, true, ◌⊎◌}
use Rattle.wire.specs.Fields.{odd_first}

-- The own address, an odd one, or a number of 2^48 or more.
abbrev pub Strange : ℕ → ℕ → Type 0
Strange own a = (a ≡ own) ⊎ ((odd_first a ≡ true) ⊎ (2 ^ 48 ≤ a))
