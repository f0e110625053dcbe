-- Which resources have which lock entry.
use Rattle.std.specs.Prelude.{ℕ, Bool, false, ◌==◌, Option, Some, None}
use Rattle.grs_base.specs.Slices.{slice_of, entry_of}
use Rattle.grs_base.specs.declared.resource.Res.{Res}
use Rattle.grs_base.specs.declared.resource.Res.TheVariants.{Step, System, Systems}

-- the lock entry of a resource, where there are so many; only a resource of the whole complex has one
abbrev pub entry_of_res : ℕ → Res → Option ℕ
entry_of_res entries (Step s j q r) = None
entry_of_res entries (System s q r) = None
entry_of_res entries (Systems q r) = Some (entry_of (slice_of q r) entries)

-- whether the entry of a resource, if it has one, is this one
abbrev pub is_entry : ℕ → Option ℕ → Bool
is_entry e None = false
is_entry e (Some f) = f == e
