-- Who of the elements of an entry is told first, as it is found from the marks. This is how the store of a manager
-- looks, and nothing that a reader has to believe: who is told first is said in `Manager`, and the store's calls answer
-- just that.
use Rattle.std.specs.Prelude.{ℕ, Bool, false, not, ◌&&◌, ◌==◌, cond, List, [], ◌∷◌, Option, Some, None, slice_get}
use Rattle.std.specs.Ordering.{is_lt}
use Rattle.grs_base.specs.ResOrder.{res_order}
use Rattle.grs_base.specs.declared.resource.Elem.{Elem}
use Rattle.grs_base.specs.declared.resource.Res.{Res}
use Rattle.grs_base.specs.declared.resource.TaskId.{TaskId}
use Rattle.contention_mgr.specs.Marks.{untold_in}
use Rattle.contention_mgr.specs.declared.marks.Mark.{Mark}
use Rattle.contention_mgr.specs.declared.marks.Spot.{Spot}

-- whether a task of another system than `home` is still to be told, by the mark of its element
abbrev pub is_to_tell : ℕ → TaskId → Option Mark → Bool
is_to_tell home t o = untold_in o && not (home == t.system.0)

-- whether the resource of one number is shown before that of another
abbrev pub sooner_names : Option (Res × ℕ) → Option (Res × ℕ) → Bool
sooner_names None o = false
sooner_names (Some p) None = false
sooner_names (Some p) (Some q) = is_lt (res_order p.0 q.0)

abbrev pub sooner_number : List (Res × ℕ) → ℕ → ℕ → Bool
sooner_number names a b = sooner_names (slice_get names a) (slice_get names b)

-- the better of the best number so far and another
abbrev pub better_of : List (Res × ℕ) → Option ℕ → ℕ → ℕ
better_of names None n = n
better_of names (Some k) n = cond (sooner_number names n k) n k

-- the best number once one mark more was seen
abbrev pub best_with : ℕ → List (Res × ℕ) → Option ℕ → Spot × Mark → Option ℕ
best_with home names best e = cond (is_to_tell home e.0.task (Some e.1)) (Some (better_of names best e.0.number)) best

-- the best number once these marks were seen
abbrev pub least_from : ℕ → List (Res × ℕ) → Option ℕ → List (Spot × Mark) → Option ℕ
least_from home names best [] = best
least_from home names best (e ∷ es) = least_from home names (best_with home names best e) es

-- the first task of a list that is still to be told
abbrev pub first_to_tell : ℕ → (Res → TaskId → Option Mark) → Res → List Elem → Option TaskId
first_to_tell home f r [] = None
first_to_tell home f r (e ∷ es) = cond (is_to_tell home e.task (f r e.task)) (Some e.task) (first_to_tell home f r es)
