-- Whether no task stands twice in a list, by the tasks of the elements in front.
use Rattle.std.proofs.Common.{◌≡◌, Bool, true, not, ◌&&◌, List, [], ◌∷◌, ◌++◌, refl, ap, ◌∙◌, arith, length}
use Rattle.std.specs.List.{list_any}
use Rattle.std.proofs.lemmas.List.Folds.{list_any-append}
use Rattle.grs_base.specs.Lists.{has_task, is_apart}
use Rattle.grs_base.specs.Same.{same_task}
use Rattle.grs_base.specs.declared.resource.Elem.{Elem}
use Rattle.grs_base.specs.declared.resource.TaskId.{TaskId}
use Rattle.grs_base.proofs.ListLaws.{same_task-sym}

-- whether no task stands twice among these elements, nor is one of these tasks
abbrev pub is_apart_behind : List TaskId → List Elem → Bool
is_apart_behind ts [] = true
is_apart_behind ts (e ∷ es) = not (list_any (same_task e.task) ts) && is_apart_behind (ts ++ e.task ∷ []) es

-- whether these elements are of none of these tasks
abbrev are_others : List TaskId → List Elem → Bool
are_others ts [] = true
are_others ts (e ∷ es) = not (list_any (same_task e.task) ts) && are_others ts es

others-more : (ts : List TaskId) (t : TaskId) (es : List Elem)
    → are_others (ts ++ t ∷ []) es ≡ (are_others ts es && not (has_task es t))
others-more ts t [] = refl
others-more ts t (e ∷ es) =
    grind (
      arith,
      others-more ts t es,
      list_any-append (same_task e.task) ts (t ∷ []),
      same_task-sym e.task t,
    )

apart_behind-parts : (ts : List TaskId) (es : List Elem) → is_apart_behind ts es ≡ (are_others ts es && is_apart es)
apart_behind-parts ts [] = refl
apart_behind-parts ts (e ∷ es) =
    grind (arith, apart_behind-parts (ts ++ e.task ∷ []) es, others-more ts e.task es)

others-none : (es : List Elem) → are_others [] es ≡ true
others-none [] = refl
others-none (e ∷ es) = others-none es

pub apart_behind-none : (ts : List TaskId) (es : List Elem) → length ts ≡ 0 → is_apart_behind ts es ≡ is_apart es
apart_behind-none [] es none = apart_behind-parts [] es ∙ ap (λ (b : Bool). b && is_apart es) (others-none es)
apart_behind-none (t ∷ ts) es none = absurd (cc)
