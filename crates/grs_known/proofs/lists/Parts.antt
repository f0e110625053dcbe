-- The elements on some of the resources decide as all do.
use Rattle.std.proofs.Common.{◌≡◌, ℕ, Bool, true, false, cond, [], ◌∷◌, Some, refl, ap, sym, ◌∙◌, arith}
use Rattle.std.specs.Prelude.{filter, ◌==◌}
use Rattle.std.proofs.lemmas.Bool.{cases_Bool}
use Rattle.grs_base.specs.Same.{same_res, same_task}
use Rattle.grs_base.specs.Lists.{decide_enq, deq_code, is_owner, standing_of}
use Rattle.grs_base.specs.State.{State, list_of, is_systems, is_at, without, with_exclusive, after_effect, remove_state}
use Rattle.grs_base.specs.declared.resource.Ctl.{Ctl}
use Rattle.grs_base.specs.declared.resource.Res.{Res}
use Rattle.grs_base.specs.declared.resource.Res.TheVariants as resources
use Rattle.grs_base.specs.declared.resource.TaskId.{TaskId}
use Rattle.grs_base.specs.declared.decision.Effect.{Effect}
use Rattle.grs_base.specs.declared.decision.Effect.TheVariants.{Nothing, Append, MakeExclusive}
use Rattle.grs_base.proofs.SameLaws.{same_res-exact}
use Rattle.grs_wire.specs.Wants.{answer_to, after_want, res_wanted, new_owners, became_owners}
use Rattle.grs_wire.specs.declared.request.Answer.TheVariants.{Coded}
use Rattle.grs_wire.specs.declared.request.Want.{Want}
use Rattle.grs_wire.specs.declared.request.Want.TheVariants.{Enq, Deq, Release, Look}
use Rattle.grs_known.proofs.lists.Facts.{filter-push_kept, filter-push_left}

-- the elements on resources that pass
abbrev pub part : (Res → Bool) → State → State
part p s = filter (λ h. p h.0) s

-- whether a resource is a Step or System resource of this system
abbrev pub is_res_of : ℕ → Res → Bool
is_res_of s (resources.Step n j q r) = n.0 == s
is_res_of s (resources.System n q r) = n.0 == s
is_res_of s (resources.Systems q r) = false

pub own-one_system : (s : ℕ) (r : Res) → is_res_of s r ≡ true → is_systems r ≡ false
own-one_system s (resources.Step n j q r) h = refl
own-one_system s (resources.System n q r) h = refl
own-one_system s (resources.Systems q r) h = cc

-- a resource of the whole complex is none of one system alone
pub systems-other : (s : ℕ) (r : Res) → is_systems r ≡ true → is_res_of s r ≡ false
systems-other s (resources.Step n j q r) h = cc
systems-other s (resources.System n q r) h = cc
systems-other s (resources.Systems q r) h = refl

-- the removal of a system leaves the elements on resources of one system
pub part-removed : (s : ℕ) (st : State) (n : ℕ) → part (is_res_of s) (remove_state st n) ≡ part (is_res_of s) st
part-removed s [] n = refl
part-removed s (x ∷ st) n =
    grind (arith, part-removed s st n, own-one_system s x.0, cases_Bool (is_res_of s x.0), cases_Bool (is_systems x.0))

pub list_of-part : (p : Res → Bool) (s : State) (r : Res) → p r ≡ true → list_of (part p s) r ≡ list_of s r
list_of-part p [] r h = refl
list_of-part p (x ∷ s) r h =
    grind (arith, h, list_of-part p s r, same_res-exact r x.0, cases_Bool (p x.0), cases_Bool (same_res r x.0))

part-without : (p : Res → Bool) (s : State) (r : Res) (t : TaskId)
    → without same_res (part p s) r t ≡ part p (without same_res s r t)
part-without p [] r t = refl
part-without p (x ∷ s) r t = grind (arith, part-without p s r t, cases_Bool (p x.0), cases_Bool (is_at same_res r t x))

part-exclusive : (p : Res → Bool) (s : State) (r : Res) (t : TaskId)
    → with_exclusive same_res (part p s) r t ≡ part p (with_exclusive same_res s r t)
part-exclusive p [] r t = refl
part-exclusive p (x ∷ s) r t =
    grind (arith, part-exclusive p s r t, cases_Bool (p x.0), cases_Bool (is_at same_res r t x))

part-effect : (p : Res → Bool) (s : State) (r : Res) (t : TaskId) (c : Ctl) (e : Effect) → p r ≡ true
    → after_effect (part p s) r t c e ≡ part p (after_effect s r t c e)
part-effect p s r t c Nothing h = refl
part-effect p s r t c Append h = sym (filter-push_kept (λ x. p x.0) s (r, record { task = t; ctl = c }) h)
part-effect p s r t c MakeExclusive h = part-exclusive p s r t

part-cond : (p : Res → Bool) (b : Bool) (x y x' y' : State) → x ≡ part p x' → y ≡ part p y'
    → cond b x y ≡ part p (cond b x' y')
part-cond p true x y x' y' e f = e
part-cond p false x y x' y' e f = f

-- a request for a resource among them
pub after_want-part : (p : Res → Bool) (s : State) (t : TaskId) (w : Want) (r : Res) → res_wanted w ≡ Some r
    → p r ≡ true → after_want (part p s) t w ≡ part p (after_want s t w)
after_want-part p s t (Enq q c ret full) r is h =
    let same : q ≡ r = cc in
    let mine : p q ≡ true = ap p same ∙ h in
    ap (λ es. after_effect (part p s) q t c (decide_enq es t c ret full).effect) (list_of-part p s q mine)
    ∙ part-effect p s q t c _ mine
after_want-part p s t (Deq q have) r is h =
    let same : q ≡ r = cc in
    let mine : p q ≡ true = ap p same ∙ h in
    ap (λ es. cond (is_owner (standing_of es t)) (without same_res (part p s) q t) (part p s)) (list_of-part p s q mine)
    ∙ part-cond p (is_owner (standing_of (list_of s q) t)) _ _ _ _ (part-without p s q t) refl
after_want-part p s t (Release q) r is h = part-without p s q t
after_want-part p s t (Look first count f) r is h = absurd (cc)

pub answer_to-part : (p : Res → Bool) (s : State) (t : TaskId) (w : Want) (r : Res) → res_wanted w ≡ Some r → p r ≡ true
    → answer_to (part p s) t w ≡ answer_to s t w
answer_to-part p s t (Enq q c ret full) r is h =
    let same : q ≡ r = cc in
    ap (λ es. Coded (decide_enq es t c ret full).code) (list_of-part p s q (ap p same ∙ h))
answer_to-part p s t (Deq q have) r is h =
    let same : q ≡ r = cc in
    ap (λ es. Coded (deq_code (standing_of es t) have)) (list_of-part p s q (ap p same ∙ h))
answer_to-part p s t (Release q) r is h = refl
answer_to-part p s t (Look first count f) r is h = absurd (cc)

owners-part : (p : Res → Bool) (s s1 s' : State) (t : TaskId) (r : Res) → p r ≡ true → s1 ≡ part p s'
    → became_owners (list_of (part p s) r) (list_of s1 r) t ≡ became_owners (list_of s r) (list_of s' r) t
owners-part p s s1 s' t r h e =
    ap (λ es. became_owners es (list_of s1 r) t) (list_of-part p s r h)
    ∙ ap (λ z. became_owners (list_of s r) (list_of z r) t) e
    ∙ ap (λ es. became_owners (list_of s r) es t) (list_of-part p s' r h)

pub new_owners-part : (p : Res → Bool) (s : State) (t : TaskId) (w : Want) (r : Res) → res_wanted w ≡ Some r
    → p r ≡ true → new_owners (part p s) t w ≡ new_owners s t w
new_owners-part p s t (Enq q c ret full) r is h =
    let same : q ≡ r = cc in owners-part p s _ _ t q (ap p same ∙ h) (after_want-part p s t (Enq q c ret full) r is h)
new_owners-part p s t (Deq q have) r is h =
    let same : q ≡ r = cc in owners-part p s _ _ t q (ap p same ∙ h) (after_want-part p s t (Deq q have) r is h)
new_owners-part p s t (Release q) r is h =
    let same : q ≡ r = cc in owners-part p s _ _ t q (ap p same ∙ h) (after_want-part p s t (Release q) r is h)
new_owners-part p s t (Look first count f) r is h = absurd (cc)

without_other : (p : Res → Bool) (s : State) (r : Res) (t : TaskId) → p r ≡ false
    → part p (without same_res s r t) ≡ part p s
without_other p [] r t h = refl
without_other p (x ∷ s) r t h =
    grind (
      arith,
      h,
      without_other p s r t,
      same_res-exact r x.0,
      cases_Bool (p x.0),
      cases_Bool (same_res r x.0),
      cases_Bool (same_task t x.1.task),
    )

exclusive_other : (p : Res → Bool) (s : State) (r : Res) (t : TaskId) → p r ≡ false
    → part p (with_exclusive same_res s r t) ≡ part p s
exclusive_other p [] r t h = refl
exclusive_other p (x ∷ s) r t h =
    grind (
      arith,
      h,
      exclusive_other p s r t,
      same_res-exact r x.0,
      cases_Bool (p x.0),
      cases_Bool (same_res r x.0),
      cases_Bool (same_task t x.1.task),
    )

effect_other : (p : Res → Bool) (s : State) (r : Res) (t : TaskId) (c : Ctl) (e : Effect) → p r ≡ false
    → part p (after_effect s r t c e) ≡ part p s
effect_other p s r t c Nothing h = refl
effect_other p s r t c Append h = filter-push_left (λ x. p x.0) s (r, record { task = t; ctl = c }) h
effect_other p s r t c MakeExclusive h = exclusive_other p s r t h

same-cond : (p : Res → Bool) (b : Bool) (x s : State) → part p x ≡ part p s → part p (cond b x s) ≡ part p s
same-cond p true x s e = e
same-cond p false x s e = refl

-- one for another resource leaves them
pub part-want_other : (p : Res → Bool) (s : State) (t : TaskId) (w : Want) (r : Res) → res_wanted w ≡ Some r
    → p r ≡ false → part p (after_want s t w) ≡ part p s
part-want_other p s t (Enq q c ret full) r is h = let same : q ≡ r = cc in effect_other p s q t c _ (ap p same ∙ h)
part-want_other p s t (Deq q have) r is h =
    let same : q ≡ r = cc in
    same-cond p (is_owner (standing_of (list_of s q) t)) (without same_res s q t) s
    (without_other p s q t (ap p same ∙ h))
part-want_other p s t (Release q) r is h = let same : q ≡ r = cc in without_other p s q t (ap p same ∙ h)
part-want_other p s t (Look first count f) r is h = absurd (cc)
