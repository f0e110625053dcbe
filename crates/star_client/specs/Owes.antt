-- To whom a system owes its part of a lock entry, whose manager was lost and whose lists another one gathers.
use Rattle.std.specs.Prelude.{ℕ, Bool, List, Option, None, is_some, unwrap_or, slice_get, slice_set}
use Rattle.std.specs.List.{list_any}
use Rattle.grs_base.specs.declared.resource.SysId.{SysId}

-- of each lock entry the manager to whom the part of it is owed, if it is
abbrev pub OwesView : Type 0
OwesView = List (Option SysId)

abbrev pub owed : OwesView → ℕ → Option SysId
owed os e = unwrap_or (slice_get os e) None

-- the part of an entry is owed to this manager from now on, or to none
abbrev pub owing : OwesView → ℕ → Option SysId → OwesView
owing os e to = slice_set os e to

abbrev pub any_owed : OwesView → Bool
any_owed os = list_any is_some os
