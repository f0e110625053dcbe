-- The requests among what a system has still to process of the message.
use Rattle.grs_world.proofs.Common.{[], ◌++◌, ◌==◌, ◌||◌, ◌∙◌, ◌∷◌, ◌≡◌, ◌≢◌, ap, askers, Bodies, Bool, cleared, cond}
use Rattle.grs_world.proofs.Common.{eq-eqb, eqb-true, false, filter, Fixed, has, has-with_other, has-without_other}
use Rattle.grs_world.proofs.Common.{has-zero, is_among, is_unseen, left_by, List, LocalLook, map, no_truth, not}
use Rattle.grs_world.proofs.Common.{or_left, or_right, own_asked, own_requests, Purged, refl, Remove, Req, Request}
use Rattle.grs_world.proofs.Common.{RingBody, RingEntry, RunItem, same_task, same_task-exact, Some, stamped, subst, suc}
use Rattle.grs_world.proofs.Common.{sym, SysId, TaskId, true, unseen, ℕ}
use Rattle.rsa_message.proofs.Stands.{body_of, none, more}
use Rattle.grs_wire.specs.Masks.{only}
use Rattle.grs_wire.specs.declared.request.Fixed.TheVariants.{Asked}
use Rattle.grs_world.proofs.run.Growing.{fixeds}

abbrev pub request_in : RingBody → List Req
request_in (Request q) = q ∷ []
request_in (Remove target) = []

abbrev pub requests_of : List RingEntry → List Req
requests_of [] = []
requests_of (e ∷ es) = request_in e.body ++ requests_of es

-- whether a task has one among those which system s has still to process
abbrev pub waits_in : SysId → TaskId → List RingEntry → Bool
waits_in s t es = is_among t (askers (requests_of (unseen s es)))

-- one more in front
in-front : (t : TaskId) (b : RingBody) (xs ys : List Req)
    → (is_among t (askers xs) ≡ true → is_among t (askers ys) ≡ true) → is_among t (askers (request_in b ++ xs)) ≡ true
    → is_among t (askers (request_in b ++ ys)) ≡ true
in-front t (Remove target) xs ys k h = k h
in-front t (Request q) xs ys k h = go (same_task t q.task) h
  where
    go : (b : Bool) → (b || is_among t (askers xs)) ≡ true → (b || is_among t (askers ys)) ≡ true
    go true e = refl
    go false e = k e

behind-front : (t : TaskId) (b : RingBody) (xs : List Req) → is_among t (askers xs) ≡ true
    → is_among t (askers (request_in b ++ xs)) ≡ true
behind-front t (Remove target) xs h = h
behind-front t (Request q) xs h = or_right (same_task t q.task) (is_among t (askers xs)) h

-- those of a system's own tasks are its own
pub own-among : (s : ℕ) (t : TaskId) → t.system.0 ≡ s → (xs : List RunItem) (es : List RingEntry)
    → Bodies (fixeds xs) es → is_among t (askers (requests_of es)) ≡ true
    → is_among t (askers (own_requests s xs)) ≡ true
own-among s t home [] [] none h = h
own-among s t home [] (e ∷ es) b h = elim b [ ]
own-among s t home (x ∷ xs) [] b h = elim b [ ]
own-among s t home (x ∷ xs) (e ∷ es) (more body b) h = by_fixed x.fixed body (own-among s t home xs es b)
  where
    by_fixed : (f : Fixed) → body_of f ≡ Some e.body
        → (is_among t (askers (requests_of es)) ≡ true → is_among t (askers (own_requests s xs)) ≡ true)
        → is_among t (askers (own_asked s f ++ own_requests s xs)) ≡ true
    by_fixed (LocalLook u f) is rest = absurd (cc)
    by_fixed (Purged target) is rest =
        let same : Remove target ≡ e.body = cc in
        rest (subst (λ d. is_among t (askers (request_in d ++ requests_of es)) ≡ true) (sym same) h)
    by_fixed (Asked q) is rest =
        let same : Request q ≡ e.body = cc in
        go (same_task t q.task) refl
        (subst (λ d. is_among t (askers (request_in d ++ requests_of es)) ≡ true) (sym same) h)
      where
        go : (b : Bool) → same_task t q.task ≡ b → (same_task t q.task || is_among t (askers (requests_of es))) ≡ true
            → is_among t (askers (cond (q.task.system.0 == s) (q ∷ []) [] ++ own_requests s xs)) ≡ true
        go true f k =
            let mine : (q.task.system.0 == s) ≡ true =
            eq-eqb q.task.system.0 s (ap (λ (z : TaskId). z.system.0) (sym (same_task-exact t q.task f)) ∙ home) in
            subst (λ c. is_among t (askers (cond c (q ∷ []) [] ++ own_requests s xs)) ≡ true) (sym mine)
            (or_left (same_task t q.task) (is_among t (askers (own_requests s xs))) f)
        go false f k =
            anywhere (q.task.system.0 == s) (rest (ap (λ c. c || is_among t (askers (requests_of es))) (sym f) ∙ k))
          where
            anywhere : (c : Bool) → is_among t (askers (own_requests s xs)) ≡ true
                → is_among t (askers (cond c (q ∷ []) [] ++ own_requests s xs)) ≡ true
            anywhere true z = or_right (same_task t q.task) (is_among t (askers (own_requests s xs))) z
            anywhere false z = z

-- what another system c processes stays with s
pub waits-elsewhere : (c s : SysId) → s.0 ≢ c.0 → (t : TaskId) (es fs : List RingEntry) → waits_in s t es ≡ true
    → waits_in s t (cleared c es ++ fs) ≡ true
unfolding unseen cleared
waits-elsewhere c s ne t [] fs h = absurd (cc)
waits-elsewhere c s ne t (e ∷ es) fs h =
    go (has e.mask s.0) refl (e.mask == only c.0) refl h (waits-elsewhere c s ne t es fs)
  where
    left : has (left_by c e).mask s.0 ≡ has e.mask s.0
    left = has-without_other e.mask c.0 s.0 ne

    go : (b : Bool) → has e.mask s.0 ≡ b → (d : Bool) → (e.mask == only c.0) ≡ d
        → is_among t (askers (requests_of (cond b (e ∷ filter (is_unseen s) es) (filter (is_unseen s) es)))) ≡ true →
        (is_among t (askers (requests_of (filter (is_unseen s) es))) ≡ true
        → is_among t (askers
        (requests_of (filter (is_unseen s) (map (left_by c) (filter (λ f. not (f.mask == only c.0)) es) ++ fs))))
        ≡ true)
        →
        is_among t (askers (requests_of (filter (is_unseen s)
        (map (left_by c)
        (cond (not d) (e ∷ filter (λ f. not (f.mask == only c.0)) es) (filter (λ f. not (f.mask == only c.0)) es))
        ++ fs))))
        ≡ true
    go false f true g k ih = ih k
    go false f false g k ih =
        subst (λ b.
        is_among t (askers (requests_of (cond b
        (left_by c e ∷ filter (is_unseen s) (map (left_by c) (filter (λ i. not (i.mask == only c.0)) es) ++ fs))
        (filter (is_unseen s) (map (left_by c) (filter (λ i. not (i.mask == only c.0)) es) ++ fs)))))
        ≡ true)
        (sym (left ∙ f)) (ih k)
    go true f true g k ih =
        no_truth (has e.mask s.0) f
        (ap (λ m. has m s.0) (eqb-true e.mask (only c.0) g) ∙ (has-with_other 0 c.0 s.0 ne ∙ has-zero s.0))
    go true f false g k ih =
        subst (λ b.
        is_among t (askers (requests_of (cond b
        (left_by c e ∷ filter (is_unseen s) (map (left_by c) (filter (λ i. not (i.mask == only c.0)) es) ++ fs))
        (filter (is_unseen s) (map (left_by c) (filter (λ i. not (i.mask == only c.0)) es) ++ fs)))))
        ≡ true)
        (sym (left ∙ f))
        (in-front t e.body (requests_of (filter (is_unseen s) es))
        (requests_of (filter (is_unseen s) (map (left_by c) (filter (λ i. not (i.mask == only c.0)) es) ++ fs))) ih k)

-- what is put in is unseen
waits-behind : (s : SysId) (t : TaskId) (es fs : List RingEntry) → waits_in s t fs ≡ true
    → waits_in s t (es ++ fs) ≡ true
unfolding unseen
waits-behind s t [] fs h = h
waits-behind s t (e ∷ es) fs h = go (has e.mask s.0) (waits-behind s t es fs h)
  where
    go : (b : Bool) → is_among t (askers (requests_of (filter (is_unseen s) (es ++ fs)))) ≡ true
        → is_among t (askers
        (requests_of (cond b (e ∷ filter (is_unseen s) (es ++ fs)) (filter (is_unseen s) (es ++ fs)))))
        ≡ true
    go true k = behind-front t e.body (requests_of (filter (is_unseen s) (es ++ fs))) k
    go false k = k

waits-stamped : (s c : SysId) (live : ℕ) → has live s.0 ≡ true → (t : TaskId) (k : ℕ) (qs : List Req)
    → is_among t (askers qs) ≡ true → waits_in s t (stamped k c live qs) ≡ true
unfolding unseen stamped
waits-stamped s c live alive t k [] h = h
waits-stamped s c live alive t k (q ∷ qs) h =
    subst (λ b.
    is_among t (askers (requests_of (cond b (new ∷ filter (is_unseen s) (stamped (suc k) c live qs))
    (filter (is_unseen s) (stamped (suc k) c live qs)))))
    ≡ true)
    (sym alive) (go (same_task t q.task) h (waits-stamped s c live alive t (suc k) qs))
  where
    new : RingEntry
    new = record { number = k; from = c; body = Request q; mask = live }

    go : (b : Bool) → (b || is_among t (askers qs)) ≡ true
        → (is_among t (askers qs) ≡ true
        → is_among t (askers (requests_of (filter (is_unseen s) (stamped (suc k) c live qs)))) ≡ true)
        → (b || is_among t (askers (requests_of (filter (is_unseen s) (stamped (suc k) c live qs))))) ≡ true
    go true e ih = refl
    go false e ih = ih e

pub waits-new : (c : SysId) (live : ℕ) → has live c.0 ≡ true
    → (t : TaskId) (k : ℕ) (es : List RingEntry) (qs : List Req) → is_among t (askers qs) ≡ true
    → waits_in c t (es ++ stamped k c live qs) ≡ true
waits-new c live alive t k es qs h = waits-behind c t es (stamped k c live qs) (waits-stamped c c live alive t k qs h)
