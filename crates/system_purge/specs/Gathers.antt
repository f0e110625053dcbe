-- What a system keeps of the lock entries whose lists it gathers: who still owes it a part of each, and the parts that
-- came.
use Rattle.std.specs.Prelude.{ℕ, suc, Bool, true, false, not, ◌&&◌, ◌==◌, cond, List, [], ◌∷◌, ◌++◌, map, filter}
use Rattle.std.specs.Prelude.{length, Option, Some, None, is_some, unwrap_or, slice_get, slice_set}
use Rattle.std.specs.List.{list_all}
use Rattle.std.specs.Option.{option_map, option_map_or}
use Rattle.grs_base.specs.declared.resource.SysId.{SysId}
use Rattle.grs_wire.specs.Masks.{has, without}
use Rattle.grs_wire.specs.declared.gather.PartRec.{PartRec}
use Rattle.system_purge.specs.Gather.{is_of_part}
use Rattle.system_purge.specs.declared.gathers.Gathering.{Gathering}

-- of each lock entry what is kept of it, where it is gathered
abbrev pub GathersView : Type 0
GathersView = List (Option Gathering)

abbrev pub gathering_at : GathersView → ℕ → Option Gathering
gathering_at gs e = unwrap_or (slice_get gs e) None

abbrev pub is_gathered : GathersView → ℕ → Bool
is_gathered gs e = is_some (gathering_at gs e)

-- An entry is gathered from now on: a part is awaited of each system of this set, and none came.
abbrev pub awaiting : GathersView → ℕ → ℕ → GathersView
awaiting gs e systems = slice_set gs e (Some (record { awaits = systems; parts = [] }))

-- A part of an entry came, where there are so many entries: those of its records are kept that count. One of a system
-- of which none is awaited has no effect.
abbrev pub with_part : ℕ → ℕ → SysId → List PartRec → Gathering → Gathering
with_part entries e s recs g =
    cond (has g.awaits s.0)
    (record {
      awaits = without g.awaits s.0;
      parts = g.parts ++ record { from = s; records = filter (is_of_part entries e s) recs } ∷ [];
    })
    g

abbrev pub with_part_at : GathersView → ℕ → SysId → List PartRec → GathersView
with_part_at gs e s recs =
    option_map_or (λ g. slice_set gs e (Some (with_part (length gs) e s recs g))) (gathering_at gs e) gs

-- A system is removed: its parts go, and none is awaited of it.
abbrev pub without_sender : SysId → Gathering → Gathering
without_sender s g = record { awaits = without g.awaits s.0; parts = filter (λ p. not (p.from.0 == s.0)) g.parts }

abbrev pub behind_loss : GathersView → SysId → GathersView
behind_loss gs s = map (option_map (without_sender s)) gs

-- whether an entry is gathered of which no part is awaited
abbrev pub is_complete : GathersView → ℕ → Bool
is_complete gs e = option_map_or (λ g. g.awaits == 0) (gathering_at gs e) false

-- the records of the parts of an entry, part by part
abbrev pub parts_in : Option Gathering → List (List PartRec)
parts_in None = []
parts_in (Some g) = map (λ p. p.records) g.parts

-- it is gathered no longer
abbrev pub without_entry : GathersView → ℕ → GathersView
without_entry gs e = slice_set gs e None

-- ---- what is kept of parts

-- whether each record that is kept of an entry counts in it as one of the system that sent it
abbrev pub keeps_right : ℕ → ℕ → Option Gathering → Bool
keeps_right entries e None = true
keeps_right entries e (Some g) = list_all (λ p. list_all (is_of_part entries e p.from) p.records) g.parts

-- the same of each entry from this one on
abbrev pub keep_right_from : ℕ → ℕ → GathersView → Bool
keep_right_from entries e [] = true
keep_right_from entries e (o ∷ os) = keeps_right entries e o && keep_right_from entries (suc e) os

abbrev pub keep_right : GathersView → Bool
keep_right gs = keep_right_from (length gs) 0 gs
