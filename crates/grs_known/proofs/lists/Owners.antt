-- Who became owner of a resource.
use Rattle.std.proofs.Common.{◌≡◌, Bool, true, false, not, ◌&&◌, ◌||◌, List, [], ◌∷◌, take, Some, refl, ap, sym, ◌∙◌}
use Rattle.std.proofs.Common.{subst, arith}
use Rattle.std.specs.List.{list_any}
use Rattle.std.proofs.lemmas.Bool.{and_parts}
use Rattle.grs_base.specs.Same.{same_task}
use Rattle.grs_base.specs.Lists.{shared_front, owners, owns, owns_shared}
use Rattle.grs_base.specs.State.{pick, State, list_of}
use Rattle.grs_base.specs.declared.resource.Elem.{Elem}
use Rattle.grs_base.specs.declared.resource.Res.{Res}
use Rattle.grs_base.specs.declared.resource.TaskId.{TaskId}
use Rattle.grs_base.proofs.SameLaws.{same_task-exact}
use Rattle.grs_wire.specs.Wants.{after_want, res_wanted, became_owners, became_owners_of, new_owners}
use Rattle.grs_wire.specs.declared.request.Want.{Want}

-- whether a task is among these
abbrev pub is_among : TaskId → List TaskId → Bool
is_among t [] = false
is_among t (u ∷ us) = same_task t u || is_among t us

pub is_among-any : (t : TaskId) (us : List TaskId) → is_among t us ≡ list_any (same_task t) us
is_among-any t [] = refl
is_among-any t (u ∷ us) = ap (λ b. same_task t u || b) (is_among-any t us)

owns_shared-any : (es : List Elem) (t : TaskId)
    → owns_shared es t ≡ list_any (λ e. same_task t e.task) (take (shared_front es) es)
owns_shared-any [] t = refl
owns_shared-any (e ∷ es) t = grind (arith, owns_shared-any es t)

-- an owner is one of the first elements
pub owns-any : (es : List Elem) (t : TaskId) → owns es t ≡ list_any (λ e. same_task t e.task) (take (owners es) es)
owns-any [] t = refl
owns-any (e ∷ es) t = grind (arith, owns_shared-any es t)

pub is_among-pick : (p : TaskId → Bool) (es : List Elem) (t : TaskId)
    → is_among t (pick (λ e. p e.task) (λ e. e.task) es) ≡ (p t && list_any (λ e. same_task t e.task) es)
is_among-pick p [] t = grind arith
is_among-pick p (e ∷ es) t = grind (arith, is_among-pick p es t, same_task-exact t e.task)

-- who is among some of the owners owns
pub picked-owns : (p : TaskId → Bool) (es : List Elem) (t : TaskId)
    → is_among t (pick (λ e. p e.task) (λ e. e.task) (take (owners es) es)) ≡ true → owns es t ≡ true
picked-owns p es t e =
    owns-any es t
    ∙ (and_parts (p t) (list_any (λ x. same_task t x.task) (take (owners es) es))
    (sym (is_among-pick p (take (owners es) es) t) ∙ e)).1

-- who became owner: who owns afterwards and didn't before
pub is_among-became : (before after : List Elem) (asker t : TaskId)
    → is_among t (became_owners before after asker) ≡ ((not (owns before t) && not (same_task asker t)) && owns after t)
is_among-became before after asker t =
    is_among-pick (λ u. not (owns before u) && not (same_task asker u)) (take (owners after) after) t
    ∙ ap (λ b. (not (owns before t) && not (same_task asker t)) && b) (sym (owns-any after t))

pub became-owns : (before after : List Elem) (asker t : TaskId) → is_among t (became_owners before after asker) ≡ true
    → owns after t ≡ true
became-owns before after asker t e =
    (and_parts (not (owns before t) && not (same_task asker t)) (owns after t)
    (sym (is_among-became before after asker t) ∙ e)).1

pub new-owns : (s : State) (t : TaskId) (w : Want) (r : Res) (u : TaskId) → res_wanted w ≡ Some r
    → is_among u (new_owners s t w) ≡ true → owns (list_of (after_want s t w) r) u ≡ true
new-owns s t w r u wanted e =
    became-owns (list_of s r) (list_of (after_want s t w) r) t u
    (subst (λ o. is_among u (became_owners_of s (after_want s t w) t o) ≡ true) wanted e)
