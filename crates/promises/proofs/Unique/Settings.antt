-- The public functions of settings leave no choice: one answer. Assumes nothing.
use mathlib.Core.Path.{◌≡◌, refl, sym, ap, ◌∙◌}
use Prim.Native.Nat.{ℕ}
use denote.RattleType.{RattleType}
use denote.Param.{number}
use denote.Param.Laws.{Laws}
use denote.Builtin.{u8, u16}
use mir.Syntax.{Dict, w16}
use mir.Val.{Fits}
use Rattle.std.specs.declared.convert.Into.{Ghosts}
use Rattle.std.specs.contracts.prelude.AnyInto.TheImpl as AnyInto
use Rattle.std.specs.contracts.prelude.AnyFrom.TheImpl as Same
use Rattle.std.specs.contracts.prelude.U16FromU8.TheImpl as Wider
use Rattle.settings.specs.contracts as settings_contract
use Rattle.settings.proofs as settings
use Rattle.settings.specs.contracts.choice.Settings as Settings_contract
use Rattle.settings.proofs.choice.Settings as Settings
use Rattle.settings.specs.contracts.choice.SettingsDefault as SettingsDefault_contract
use Rattle.settings.proofs.choice.SettingsDefault as SettingsDefault
use Rattle.settings.specs.contracts.units.Count as Count_contract
use Rattle.settings.proofs.units.Count as Count
use Rattle.settings.specs.Ticks.{in_ticks}
use Rattle.promises.specs.Unique.{Fixes}
use Rattle.promises.proofs.Unique.Laws.{two_facts}

pub settings-default_for_unique : Fixes Settings_contract.default_for.ended Settings.default_for.Reads.ensures Settings.default_for.Reads.Post
settings-default_for_unique = (λ w κs a x e. refl, λ κs a x y e f p q. p ∙ sym q)

pub settings-default_unique : Fixes SettingsDefault_contract.default.ended SettingsDefault.default.Reads.ensures SettingsDefault.default.Reads.Post
settings-default_unique = (λ w κs a x e. refl, λ κs a x y e f p q. p ∙ sym q)

pub settings-ticks_unique : Fixes Settings_contract.ticks.ended Settings.ticks.Reads.ensures Settings.ticks.Reads.Post
settings-ticks_unique = (λ w κs a x e. refl, λ κs a x y e f p q. p ∙ sym q)

pub read_settings_unique : Fixes settings_contract.read_settings.ended settings.read_settings.Reads.ensures settings.read_settings.Reads.Post
read_settings_unique = (λ w κs a x e. two_facts w _ _, λ κs a x y e f p q. p.0 ∙ sym q.0)

-- Of every unit whose counts become one number each.
pub count-ticks_unique : (T : RattleType) (ms : ℕ) (L : Laws T) (F : Fits w16 ms) (G : Ghosts T.Denot ℕ) (D : Dict)
    → ((x : T.Denot) (m n : ℕ) → G.converts x m → G.converts x n → m ≡ n)
    → Fixes (Count_contract.ticks.ended T (number ms) G D) (Count.ticks.Reads.ensures T ms L F G D) (Count.ticks.Reads.Post T ms L F G D)
count-ticks_unique T ms L F G D one =
    (λ w κs a x e. refl, λ κs a x y e f p q. p.2 ∙ ap (in_ticks ms) (one _ _ _ p.1 q.1) ∙ sym q.2)

-- A count of 16 bits becomes itself, one of 8 bits the same number of 16 bits.
pub seconds-ticks_unique : (L : Laws u16) (F : Fits w16 1000) (D : Dict)
    → Fixes (Count_contract.ticks.ended u16 (number 1000) (AnyInto.ghosts u16 u16 (Same.ghosts u16) (Same.dict u16)) D)
    (Count.ticks.Reads.ensures u16 1000 L F (AnyInto.ghosts u16 u16 (Same.ghosts u16) (Same.dict u16)) D)
    (Count.ticks.Reads.Post u16 1000 L F (AnyInto.ghosts u16 u16 (Same.ghosts u16) (Same.dict u16)) D)
seconds-ticks_unique L F D = count-ticks_unique u16 1000 L F (AnyInto.ghosts u16 u16 (Same.ghosts u16) (Same.dict u16)) D (λ x m n p q. p ∙ sym q)

pub hundred_ms_ticks_unique : (L : Laws u16) (F : Fits w16 100) (D : Dict)
    → Fixes (Count_contract.ticks.ended u16 (number 100) (AnyInto.ghosts u16 u16 (Same.ghosts u16) (Same.dict u16)) D)
    (Count.ticks.Reads.ensures u16 100 L F (AnyInto.ghosts u16 u16 (Same.ghosts u16) (Same.dict u16)) D)
    (Count.ticks.Reads.Post u16 100 L F (AnyInto.ghosts u16 u16 (Same.ghosts u16) (Same.dict u16)) D)
hundred_ms_ticks_unique L F D = count-ticks_unique u16 100 L F (AnyInto.ghosts u16 u16 (Same.ghosts u16) (Same.dict u16)) D (λ x m n p q. p ∙ sym q)

pub fifty_ms_ticks_unique : (L : Laws u8) (F : Fits w16 50) (D : Dict)
    → Fixes (Count_contract.ticks.ended u8 (number 50) (AnyInto.ghosts u8 u16 Wider.ghosts Wider.dict) D)
    (Count.ticks.Reads.ensures u8 50 L F (AnyInto.ghosts u8 u16 Wider.ghosts Wider.dict) D)
    (Count.ticks.Reads.Post u8 50 L F (AnyInto.ghosts u8 u16 Wider.ghosts Wider.dict) D)
fifty_ms_ticks_unique L F D = count-ticks_unique u8 50 L F (AnyInto.ghosts u8 u16 Wider.ghosts Wider.dict) D (λ x m n p q. p ∙ sym q)

pub ten_ms_ticks_unique : (L : Laws u8) (F : Fits w16 10) (D : Dict)
    → Fixes (Count_contract.ticks.ended u8 (number 10) (AnyInto.ghosts u8 u16 Wider.ghosts Wider.dict) D)
    (Count.ticks.Reads.ensures u8 10 L F (AnyInto.ghosts u8 u16 Wider.ghosts Wider.dict) D)
    (Count.ticks.Reads.Post u8 10 L F (AnyInto.ghosts u8 u16 Wider.ghosts Wider.dict) D)
ten_ms_ticks_unique L F D = count-ticks_unique u8 10 L F (AnyInto.ghosts u8 u16 Wider.ghosts Wider.dict) D (λ x m n p q. p ∙ sym q)

pub ms_ticks_unique : (L : Laws u8) (F : Fits w16 1) (D : Dict)
    → Fixes (Count_contract.ticks.ended u8 (number 1) (AnyInto.ghosts u8 u16 Wider.ghosts Wider.dict) D)
    (Count.ticks.Reads.ensures u8 1 L F (AnyInto.ghosts u8 u16 Wider.ghosts Wider.dict) D)
    (Count.ticks.Reads.Post u8 1 L F (AnyInto.ghosts u8 u16 Wider.ghosts Wider.dict) D)
ms_ticks_unique L F D = count-ticks_unique u8 1 L F (AnyInto.ghosts u8 u16 Wider.ghosts Wider.dict) D (λ x m n p q. p ∙ sym q)
