-- What a Take is answered that finds no mail.
use Rattle.std.specs.Prelude.{◌≡◌, ℕ, Bool, true, not, ◌==◌, ◌&&◌}
use Rattle.grs_base.specs.declared.resource.SysId.{SysId}
use Rattle.grs_wire.specs.Masks.{has}
use Rattle.grs_wire.specs.declared.medium.Act.TheVariants.{Take}
use Rattle.grs_wire.specs.declared.medium.Reply.TheVariants.{Empty}
use Rattle.grs_medium.specs.Apply.{apply}
use Rattle.grs_medium.specs.Inboxes.{is_empty}
use Rattle.grs_medium.specs.Medium.{MediumState, inbox}

-- whether a Take of c finds nothing: c wasn't removed, knows all removed systems, and its inbox is empty
abbrev pub finds_nothing : MediumState → SysId → ℕ → Bool
finds_nothing m c known = not (has m.removed c.0) && known == m.removed && is_empty (inbox m c.0)

-- Such a Take is answered Empty, and leaves the medium as it was.
abbrev pub TakeFindsNothing : Type 0
TakeFindsNothing =
    (m : MediumState) (c : SysId) (known : ℕ) → finds_nothing m c known ≡ true
    → apply m c (record { known = known; act = Take }) ≡ (Empty, m)
