-- The least system that passes a test, and the least one of a set.
use Rattle.std.specs.Prelude.{ℕ, zero, suc, Bool, cond, Option, Some, None}
use Rattle.grs_base.specs.Limits.{most_systems}
use Rattle.grs_base.specs.declared.resource.SysId.{SysId}
use Rattle.grs_wire.specs.Masks.{has}

-- the system that was found, else this one where it passes
abbrev pub or_this : Option SysId → ℕ → Bool → Option SysId
or_this (Some s) n passes = Some s
or_this None n passes = cond passes (Some (record { 0 = n })) None

-- the least system below n that passes a test, if there is one
abbrev pub least_below : ℕ → (ℕ → Bool) → Option SysId
least_below zero test = None
least_below (suc n) test = or_this (least_below n test) n (test n)

-- the least system of a set, if anyone is in it
abbrev pub least_of : ℕ → Option SysId
least_of mask = least_below most_systems (has mask)
