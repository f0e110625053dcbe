-- Who asks: facts on the tasks of a list of requests.
use Rattle.std.proofs.Common.{◌≡◌, Bool, true, false, not, ◌||◌, List, [], ◌∷◌, ◌++◌, refl, ap, arith}
use Rattle.std.proofs.lemmas.Bool.{cases_Bool, and_parts, and_from, not-true, or_parts}
use Rattle.grs_base.specs.Same.{same_task}
use Rattle.grs_base.specs.declared.resource.TaskId.{TaskId}
use Rattle.grs_base.proofs.ListLaws.{same_task-sym}
use Rattle.grs_wire.specs.declared.request.Req.{Req}
use Rattle.grs_known.proofs.lists.Owners.{is_among}
use Rattle.grs_known.proofs.system.Says.{askers, stand_apart}
use Rattle.grs_known.proofs.lists.Truths.{task_swap}

pub among-front : (t : TaskId) (xs ys : List Req) → is_among t (askers (xs ++ ys)) ≡ false
    → is_among t (askers xs) ≡ false
among-front t [] ys h = refl
among-front t (x ∷ xs) ys h = grind (arith, h, among-front t xs ys, cases_Bool (same_task t x.task))

pub among-back : (t : TaskId) (xs ys : List Req) → is_among t (askers (xs ++ ys)) ≡ false
    → is_among t (askers ys) ≡ false
among-back t [] ys h = h
among-back t (x ∷ xs) ys h = among-back t xs ys (or_parts (same_task t x.task) (is_among t (askers (xs ++ ys))) h).1

pub apart-front : (xs ys : List Req) → stand_apart (askers (xs ++ ys)) ≡ true → stand_apart (askers xs) ≡ true
apart-front [] ys a = refl
apart-front (x ∷ xs) ys a =
    let parts = and_parts (not (is_among x.task (askers (xs ++ ys)))) (stand_apart (askers (xs ++ ys))) a in
    and_from (not (is_among x.task (askers xs))) (stand_apart (askers xs))
    (go (is_among x.task (askers (xs ++ ys))) refl parts.0) (apart-front xs ys parts.1)
  where
    go : (b : Bool) → is_among x.task (askers (xs ++ ys)) ≡ b → not b ≡ true → not (is_among x.task (askers xs)) ≡ true
    go true e f = cc
    go false e f = rw (among-front x.task xs ys e) refl

pub among-later : (t u : TaskId) (ts us : List TaskId) → is_among t (ts ++ u ∷ us) ≡ false → same_task t u ≡ false
among-later t u [] us a = (or_parts (same_task t u) (is_among t us) a).0
among-later t u (x ∷ ts) us a = among-later t u ts us (or_parts (same_task t x) (is_among t (ts ++ u ∷ us)) a).1

pub apart-before : (ts : List TaskId) (u : TaskId) (us : List TaskId) → stand_apart (ts ++ u ∷ us) ≡ true
    → is_among u ts ≡ false
apart-before [] u us a = refl
apart-before (t ∷ ts) u us a =
    let parts = and_parts (not (is_among t (ts ++ u ∷ us))) (stand_apart (ts ++ u ∷ us)) a in
    let e : same_task u t ≡ false = task_swap t u (among-later t u ts us (not-true _ parts.0)) in
    rw (e, apart-before ts u us parts.1) refl

pub askers-append : (xs ys : List Req) → askers (xs ++ ys) ≡ askers xs ++ askers ys
askers-append [] ys = refl
askers-append (x ∷ xs) ys = ap (λ z. x.task ∷ z) (askers-append xs ys)

pub among-push : (t : TaskId) (qs : List Req) (q : Req)
    → is_among t (askers (qs ++ q ∷ [])) ≡ (is_among t (askers qs) || same_task t q.task)
among-push t [] q = grind arith
among-push t (x ∷ qs) q = grind (arith, among-push t qs q)

pub apart-push : (qs : List Req) (q : Req) → stand_apart (askers qs) ≡ true → is_among q.task (askers qs) ≡ false
    → stand_apart (askers (qs ++ q ∷ [])) ≡ true
apart-push [] q h a = refl
apart-push (x ∷ qs) q h a =
    grind (
      arith,
      h,
      a,
      apart-push qs q,
      among-push x.task qs q,
      same_task-sym x.task q.task,
      cases_Bool (same_task q.task x.task),
    )
