-- Who owns is who stands among the owners.
use Rattle.std.proofs.Common.{◌≡◌, Bool, ◌||◌, List, [], ◌∷◌, take, refl, ap}
use Rattle.std.specs.List.{list_any}
use Rattle.grs_base.specs.Lists.{shared_front, owners, owns, owns_shared}
use Rattle.grs_base.specs.Same.{same_task}
use Rattle.grs_base.specs.declared.resource.Ctl.{Ctl}
use Rattle.grs_base.specs.declared.resource.Ctl.TheVariants.{E, S}
use Rattle.grs_base.specs.declared.resource.Elem.{Elem}
use Rattle.grs_base.specs.declared.resource.TaskId.{TaskId}

abbrev any_of : TaskId → List Elem → Bool
any_of t es = list_any (λ e. same_task t e.task) es

-- so among the shared ones in front
shared_at : (e : Elem) (es : List Elem) (t : TaskId) (c : Ctl) → e.ctl ≡ c
    → any_of t (take (shared_front es) es) ≡ owns_shared es t
    → any_of t (take (shared_front (e ∷ es)) (e ∷ es)) ≡ owns_shared (e ∷ es) t
shared_at e es t E is h = rw is refl
shared_at e es t S is h = rw is (ap (λ (b : Bool). same_task t e.task || b) h)

shared_any : (es : List Elem) (t : TaskId) → any_of t (take (shared_front es) es) ≡ owns_shared es t
shared_any [] t = refl
shared_any (e ∷ es) t = shared_at e es t e.ctl refl (shared_any es t)

owners_at : (e : Elem) (es : List Elem) (t : TaskId) (c : Ctl) → e.ctl ≡ c
    → any_of t (take (owners (e ∷ es)) (e ∷ es)) ≡ owns (e ∷ es) t
owners_at e es t E is = rw is refl
owners_at e es t S is = rw is (ap (λ (b : Bool). same_task t e.task || b) (shared_any es t))

pub owners_any : (es : List Elem) (t : TaskId) → list_any (λ e. same_task t e.task) (take (owners es) es) ≡ owns es t
owners_any [] t = refl
owners_any (e ∷ es) t = owners_at e es t e.ctl refl
