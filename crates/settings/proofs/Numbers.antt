-- The paper's number and settings of what was read tell the answers apart. Assumes nothing.
use mathlib.Core.Path.{◌≡◌, ap, sym}
use Rattle.std.proofs.Common.{ℕ, arith}
use Rattle.std.specs.Prelude.{Result, Ok, Err}
use Rattle.wire.specs.declared.results.Refusal.{Refusal}
use Rattle.wire.specs.Results.{refusal_number}
use Rattle.wire.proofs.Numbers.{refusals_told_apart, refusal_few}
use Rattle.settings.specs.Ticks.{Settings}
use Rattle.settings.specs.Reading.{SettingsRead, told}

-- What was refused has another number than 0.
not_taken : (r : Refusal) → ◌≡◌ {A = ℕ} (refusal_number r) 0 → ⊥
not_taken r e = omega (arith, refusal_few r)

pub reads_told_apart : (x y : Result Settings Refusal) → told x ≡ told y → x ≡ y
reads_told_apart (Ok s) (Ok t) e = ap Ok (ap (λ (r : SettingsRead). r.settings) e)
reads_told_apart (Ok s) (Err r) e = absurd (not_taken r (sym (ap (λ (x : SettingsRead). x.result) e)))
reads_told_apart (Err r) (Ok s) e = absurd (not_taken r (ap (λ (x : SettingsRead). x.result) e))
reads_told_apart (Err q) (Err r) e = ap Err (refusals_told_apart q r (ap (λ (x : SettingsRead). x.result) e))
