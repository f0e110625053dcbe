-- Worked examples of records that are gathered.
use Rattle.std.proofs.Common.{◌≡◌, ◌+◌, ℕ, true, false, [], ◌∷◌, refl, codes}
use Rattle.grs_base.specs.Limits.{last_number}
use Rattle.grs_base.specs.declared.resource.Ctl.TheVariants.{E}
use Rattle.grs_base.specs.declared.resource.Res.{Res}
use Rattle.grs_base.specs.declared.resource.Res.TheVariants.{System, Systems}
use Rattle.grs_wire.specs.declared.gather.PartRec.{PartRec}
use Rattle.lock_structure.specs.RankedRows.{rises}
use Rattle.system_purge.specs.Gather.{ranks, all_of, is_of_part, counting}

abbrev pq : Res
pq = Systems (codes "P") (codes "Q")

-- a system's record of the element of its task n on a resource, not told yet
abbrev rec : Res → ℕ → ℕ → ℕ → PartRec
rec r s n rank =
    record {
      res = r;
      task = record { system = record { 0 = s }; job = 0; task = n };
      ctl = E;
      rank = rank;
      told = false;
    }

-- The first of three systems managed an entry and is removed. The second system has the third element, the third system
-- has the second one, which it sends: both count, and what was sent comes first.
of_two :
    (counting (all_of (rec pq 1 0 3 ∷ []) ((rec pq 2 0 2 ∷ []) ∷ [])) ≡ rec pq 1 0 3 ∷ rec pq 2 0 2 ∷ [])
    × (rises (ranks (rec pq 2 0 2 ∷ rec pq 1 0 3 ∷ [])) ≡ true)
    × (rises (ranks (rec pq 1 0 3 ∷ rec pq 2 0 2 ∷ [])) ≡ false)
of_two = (refl, refl, refl)

-- Of one rank the own record counts, and behind it that of the part that came first; of one task and resource too.
clashing :
    (counting (all_of (rec pq 1 0 3 ∷ []) ((rec pq 2 0 3 ∷ []) ∷ [])) ≡ rec pq 1 0 3 ∷ [])
    × (counting (all_of [] ((rec pq 2 0 3 ∷ []) ∷ (rec pq 3 0 3 ∷ []) ∷ [])) ≡ rec pq 2 0 3 ∷ [])
    × (counting (rec pq 2 0 3 ∷ rec pq 2 0 4 ∷ rec pq 2 1 5 ∷ []) ≡ rec pq 2 0 3 ∷ rec pq 2 1 5 ∷ [])
    -- a record that doesn't count keeps none from counting
    × (counting (rec pq 1 0 1 ∷ rec pq 2 0 1 ∷ rec pq 2 0 2 ∷ []) ≡ rec pq 1 0 1 ∷ rec pq 2 0 2 ∷ [])
clashing = (refl, refl, refl, refl)

-- What the third system sends of the only entry: a record of its own counts; one of a resource that has no entry, of
-- another system's task, or past the last rank doesn't.
sent :
    (is_of_part 1 0 (record { 0 = 2 }) (rec pq 2 0 2) ≡ true)
    × (is_of_part 1 0 (record { 0 = 2 }) (rec (System (record { 0 = 2 }) (codes "P") (codes "Q")) 2 0 2) ≡ false)
    × (is_of_part 1 0 (record { 0 = 2 }) (rec pq 1 0 2) ≡ false)
    × (is_of_part 1 0 (record { 0 = 2 }) (rec pq 2 0 last_number) ≡ true)
    × (is_of_part 1 0 (record { 0 = 2 }) (rec pq 2 0 (last_number + 1)) ≡ false)
    × (is_of_part 1 1 (record { 0 = 2 }) (rec pq 2 0 2) ≡ false)
sent = (refl, refl, refl, refl, refl, refl)
