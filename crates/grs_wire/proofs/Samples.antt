-- Worked examples of which mail names a lock entry, and of flags that are cleared.
use Rattle.std.proofs.Common.{◌≡◌, ◌++◌, ℕ, List, [], ◌∷◌, true, false, refl}
use Rattle.grs_base.specs.declared.resource.Res.TheVariants.{Systems}
use Rattle.grs_base.specs.declared.resource.SysId.{SysId}
use Rattle.grs_base.specs.declared.resource.TaskId.{TaskId}
use Rattle.grs_wire.specs.Masks.{has, without, without_others}
use Rattle.grs_wire.specs.Notices.{names, noticed}
use Rattle.grs_wire.specs.declared.gather.Moved.{Moved}
use Rattle.grs_wire.specs.declared.medium.Mail.{Mail}
use Rattle.grs_wire.specs.declared.medium.Mail.TheVariants.{Granted, Notice, Part}

abbrev sys : ℕ → SysId
sys n = record { 0 = n }

-- system 0 was removed, which managed the entries 3 and 5
abbrev notice : Mail
notice =
    Notice (sys 0)
    (record { entry = 3; manager = sys 1; mask = 6; epoch = 1 }
    ∷ record { entry = 5; manager = sys 2; mask = 4; epoch = 2 } ∷ [])

-- neither a part of entry 3 nor control of a resource names the entry
abbrev others : List Mail
others = Part 3 (sys 1) [] ∷ Granted (record { system = sys 1; job = 0; task = 0 }) (Systems (65 ∷ []) (66 ∷ [])) ∷ []

named :
    (names 3 notice ≡ true) × (names 5 notice ≡ true) × (names 0 notice ≡ false) × (names 4 notice ≡ false)
    × (names 3 (Notice (sys 3) []) ≡ false)
    × (noticed 3 others ≡ false) × (noticed 5 (others ++ notice ∷ []) ≡ true) × (noticed 3 [] ≡ false)
named = (refl, refl, refl, refl, refl, refl, refl, refl)

-- four systems of which 2 was removed, and all rest: only the flag of the removed one stays
cleared : (without_others 4 4 15 ≡ 4) × (without_others 4 0 15 ≡ 0) × (without_others 4 4 8 ≡ 0)
    × (without_others 4 6 14 ≡ 6)
unfolding has without
cleared = (refl, refl, refl, refl)
