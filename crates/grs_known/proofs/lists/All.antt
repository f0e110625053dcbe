-- What holds of all elements, of their resources and tasks.
use Rattle.std.proofs.Common.{◌≡◌, ℕ, zero, suc, Bool, true, not, List, [], ◌∷◌, take, refl, sym, ◌∙◌, arith}
use Rattle.std.specs.Prelude.{Some}
use Rattle.std.specs.List.{list_all, list_any}
use Rattle.std.proofs.lemmas.Bool.{cases_Bool}
use Rattle.grs_base.specs.Same.{same_res, same_task}
use Rattle.grs_base.specs.Lists.{owns, owners, has_task, is_owner, standing_of}
use Rattle.grs_base.specs.State.{State, list_of, is_at, without, with_exclusive, after_effect}
use Rattle.grs_base.specs.declared.resource.Ctl.{Ctl}
use Rattle.grs_base.specs.declared.resource.Elem.{Elem}
use Rattle.grs_base.specs.declared.resource.Res.{Res}
use Rattle.grs_base.specs.declared.resource.TaskId.{TaskId}
use Rattle.grs_base.specs.declared.decision.Effect.{Effect}
use Rattle.grs_base.specs.declared.decision.Effect.TheVariants.{Nothing, Append, MakeExclusive}
use Rattle.grs_base.proofs.SameLaws.{same_res-exact, same_task-exact}
use Rattle.grs_wire.specs.Wants.{after_want, res_wanted}
use Rattle.grs_wire.specs.declared.request.Want.{Want}
use Rattle.grs_wire.specs.declared.request.Want.TheVariants.{Enq, Deq, Release, Look}
use Rattle.grs_wire.proofs.WantLaws.{cond_both}
use Rattle.grs_known.proofs.lists.Facts.{all-filter, all-more}
use Rattle.grs_known.proofs.lists.Owners.{owns-any}

all-exclusive : (p : Res → TaskId → Bool) (s : State) (r : Res) (t : TaskId) → list_all (λ h. p h.0 h.1.task) s ≡ true
    → list_all (λ h. p h.0 h.1.task) (with_exclusive same_res s r t) ≡ true
all-exclusive p [] r t h = h
all-exclusive p (x ∷ s) r t h = grind (arith, h, all-exclusive p s r t, cases_Bool (is_at same_res r t x))

all-effect : (p : Res → TaskId → Bool) (s : State) (r : Res) (t : TaskId) (c : Ctl) (e : Effect) → p r t ≡ true
    → list_all (λ h. p h.0 h.1.task) s ≡ true → list_all (λ h. p h.0 h.1.task) (after_effect s r t c e) ≡ true
all-effect p s r t c Nothing mine h = h
all-effect p s r t c Append mine h = all-more (λ z. p z.0 z.1.task) s (r, record { task = t; ctl = c }) h mine
all-effect p s r t c MakeExclusive mine h = all-exclusive p s r t h

pub all-want : (p : Res → TaskId → Bool) (s : State) (t : TaskId) (w : Want)
    → ((r : Res) → res_wanted w ≡ Some r → p r t ≡ true) → list_all (λ h. p h.0 h.1.task) s ≡ true
    → list_all (λ h. p h.0 h.1.task) (after_want s t w) ≡ true
all-want p s t (Enq r c ret full) mine h = all-effect p s r t c _ (mine r refl) h
all-want p s t (Deq r have) mine h =
    cond_both (is_owner (standing_of (list_of s r) t)) (without same_res s r t) s
    (λ x. list_all (λ z. p z.0 z.1.task) x ≡ true)
    (all-filter (λ z. p z.0 z.1.task) (λ z. not (is_at same_res r t z)) s h) h
all-want p s t (Release r) mine h = all-filter (λ z. p z.0 z.1.task) (λ z. not (is_at same_res r t z)) s h
all-want p s t (Look first count filter) mine h = h

-- so it holds of who has an element
pub has_task-all : (p : Res → TaskId → Bool) (s : State) (r : Res) (t : TaskId)
    → list_all (λ h. p h.0 h.1.task) s ≡ true → has_task (list_of s r) t ≡ true → p r t ≡ true
has_task-all p [] r t all h = cc
has_task-all p (x ∷ s) r t all h =
    grind (
      arith,
      all,
      h,
      has_task-all p s r t,
      same_task-exact t x.1.task,
      same_res-exact r x.0,
      cases_Bool (same_res r x.0),
      cases_Bool (same_task t x.1.task),
    )

-- as an owner has
pub owns-has : (es : List Elem) (t : TaskId) → owns es t ≡ true → has_task es t ≡ true
owns-has es t h = any-front es (owners es) t (sym (owns-any es t) ∙ h)
  where
    any-front : (xs : List Elem) (n : ℕ) (u : TaskId) → list_any (λ e. same_task u e.task) (take n xs) ≡ true
        → has_task xs u ≡ true
    any-front [] zero u e = cc
    any-front [] (suc n) u e = cc
    any-front (x ∷ xs) zero u e = cc
    any-front (x ∷ xs) (suc n) u e = grind (arith, e, any-front xs n u, cases_Bool (same_task u x.task))
