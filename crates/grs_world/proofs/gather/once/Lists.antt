-- Requests in a system's hands: that some go and none come (`Fewer`), and how many are of one task.
use Rattle.grs_world.proofs.Common.{[], ◌&&◌, ◌++◌, ◌==◌, ◌∙◌, ◌∷◌, ◌≡◌, ◌≤◌, ◌⊎◌, ap, arith, Bool, cond, false, filter}
use Rattle.grs_world.proofs.Common.{filter-append, inl, inr, length, length-append, List, Mail, refl, Req, same_Some}
use Rattle.grs_world.proofs.Common.{slice_get, Some, suc, sym, TaskId, true, zero, ℕ}
use Rattle.std.specs.Prelude.{◌+◌, find}
use Rattle.grs_node.specs.Star.{besides_first}
use Rattle.grs_world.proofs.star.Systems.{requests_in}
use Rattle.grs_world.proofs.star.Worlds.{IsIn}
use Rattle.grs_world.specs.InHands.{asked_by, same_place}
use Rattle.grs_wire.specs.declared.medium.Mail.TheVariants as mails

-- ---- one of these
pub in-left : (q : Req) (xs ys : List Req) → IsIn q xs → IsIn q (xs ++ ys)
in-left q [] ys h = elim h [ ]
in-left q (x ∷ xs) ys (inl same) = inl same
in-left q (x ∷ xs) ys (inr more) = inr (in-left q xs ys more)

pub in-right : (q : Req) (xs ys : List Req) → IsIn q ys → IsIn q (xs ++ ys)
in-right q [] ys h = h
in-right q (x ∷ xs) ys h = inr (in-right q xs ys h)

pub in-either : (q : Req) (xs ys : List Req) → IsIn q (xs ++ ys) → IsIn q xs ⊎ IsIn q ys
in-either q [] ys h = inr h
in-either q (x ∷ xs) ys (inl same) = inl (inl same)
in-either q (x ∷ xs) ys (inr more) = go (in-either q xs ys more)
  where
    go : IsIn q xs ⊎ IsIn q ys → IsIn q (x ∷ xs) ⊎ IsIn q ys
    go (inl h) = inl (inr h)
    go (inr h) = inr h

-- by its number
pub in-place : (qs : List Req) (i : ℕ) (q : Req) → slice_get qs i ≡ Some q → IsIn q qs
in-place [] i q h = absurd (cc)
in-place (x ∷ qs) zero q h = inl (sym (same_Some x q h))
in-place (x ∷ qs) (suc i) q h = inr (in-place qs i q h)

pub in-found : (test : Req → Bool) (qs : List Req) (q : Req) → find test qs ≡ Some q → IsIn q qs
in-found test [] q h = absurd (cc)
in-found test (x ∷ qs) q h = go (test x) h (in-found test qs q)
  where
    go : (b : Bool) → cond b (Some x) (find test qs) ≡ Some q → (find test qs ≡ Some q → IsIn q qs) → IsIn q (x ∷ qs)
    go true k more = inl (sym (same_Some x q k))
    go false k more = inr (more k)

-- ---- how many are of one task
pub asked-both : (t : TaskId) (xs ys : List Req)
    → length (asked_by t (xs ++ ys)) ≡ length (asked_by t xs) + length (asked_by t ys)
asked-both t xs ys =
    ap (λ (zs : List Req). length zs) (filter-append (λ (q : Req). same_place t q.task) xs ys)
    ∙ length-append (asked_by t xs) (asked_by t ys)

asked-more : (t : TaskId) (x : Req) (qs : List Req) → length (asked_by t qs) ≤ length (asked_by t (x ∷ qs))
asked-more t x qs = go (same_place t x.task)
  where
    go : (b : Bool) → length (asked_by t qs) ≤ length (cond b (x ∷ asked_by t qs) (asked_by t qs))
    go true = omega arith
    go false = omega arith

asked-here : (t : TaskId) (x : Req) (qs : List Req) → same_place t x.task ≡ true
    → length (asked_by t (x ∷ qs)) ≡ length (asked_by t qs) + 1
asked-here t x qs here =
    ap (λ b. length (cond b (x ∷ asked_by t qs) (asked_by t qs))) here ∙ (omega arith)

-- one that is there counts
pub asked-some : (t : TaskId) (qs : List Req) (q : Req) → IsIn q qs → same_place t q.task ≡ true
    → 1 ≤ length (asked_by t qs)
asked-some t [] q h here = elim h [ ]
asked-some t (x ∷ qs) q (inl same) here =
    let count = asked-here t x qs (ap (λ (z : Req). same_place t z.task) (sym same) ∙ here) in
    omega (arith, count)
asked-some t (x ∷ qs) q (inr more) here =
    let some = asked-some t qs q more here in
    let front = asked-more t x qs in
    omega (arith, some, front)

-- of whom none is there, none counts
pub asked-none : (t : TaskId) (qs : List Req) → ((q : Req) → IsIn q qs → same_place t q.task ≡ false)
    → length (asked_by t qs) ≡ 0
asked-none t [] none = refl
asked-none t (x ∷ qs) none =
    ap (λ b. length (cond b (x ∷ asked_by t qs) (asked_by t qs))) (none x (inl refl))
    ∙ asked-none t qs (λ q h. none q (inr h))

-- ---- some go
pub record Fewer (qs rs : List Req) : Type 0 where
  pub among : (q : Req) → IsIn q rs → IsIn q qs
  pub count : (t : TaskId) → length (asked_by t rs) ≤ length (asked_by t qs)

pub fewer-same : (qs : List Req) → Fewer qs qs
fewer-same qs = record { among = λ q h. h; count = λ t. omega arith }

pub fewer-both : (xs ys zs : List Req) → Fewer xs ys → Fewer ys zs → Fewer xs zs
fewer-both xs ys zs a b = record {
  among = λ q h. a.among q (b.among q h);
  count = λ t. let i = a.count t in let j = b.count t in omega (arith, i, j);
}

pub fewer-front : (xs ys rest : List Req) → Fewer xs ys → Fewer (xs ++ rest) (ys ++ rest)
fewer-front xs ys rest f = record {
  among = λ q h. go q (in-either q ys rest h);
  count = λ t.
      let i = f.count t in
      let a = asked-both t xs rest in
      let b = asked-both t ys rest in
      omega (arith, i, a, b);
}
  where
    go : (q : Req) → IsIn q ys ⊎ IsIn q rest → IsIn q (xs ++ rest)
    go q (inl h) = in-left q xs rest (f.among q h)
    go q (inr h) = in-right q xs rest h

pub fewer-behind : (xs ys front : List Req) → Fewer xs ys → Fewer (front ++ xs) (front ++ ys)
fewer-behind xs ys front f = record {
  among = λ q h. go q (in-either q front ys h);
  count = λ t.
      let i = f.count t in
      let a = asked-both t front xs in
      let b = asked-both t front ys in
      omega (arith, i, a, b);
}
  where
    go : (q : Req) → IsIn q front ⊎ IsIn q ys → IsIn q (front ++ xs)
    go q (inl h) = in-left q front xs h
    go q (inr h) = in-right q front xs (f.among q h)

-- of what is held and of what comes
pub fewer-append : (xs ys us vs : List Req) → Fewer xs ys → Fewer us vs → Fewer (xs ++ us) (ys ++ vs)
fewer-append xs ys us vs f g =
    fewer-both (xs ++ us) (ys ++ us) (ys ++ vs) (fewer-front xs ys us f) (fewer-behind us vs ys g)

pub fewer-none : (xs : List Req) → Fewer xs []
fewer-none xs = record { among = λ q h. absurd h; count = λ t. omega arith }

-- the first one
fewer-cons : (x : Req) (xs ys : List Req) → Fewer xs ys → Fewer (x ∷ xs) (x ∷ ys)
fewer-cons x xs ys f = record {
  among = λ q h. go q h;
  count = λ t. by (same_place t x.task) t;
}
  where
    go : (q : Req) → IsIn q (x ∷ ys) → IsIn q (x ∷ xs)
    go q (inl same) = inl same
    go q (inr h) = inr (f.among q h)

    by : (b : Bool) (t : TaskId)
        → length (cond b (x ∷ asked_by t ys) (asked_by t ys)) ≤ length (cond b (x ∷ asked_by t xs) (asked_by t xs))
    by true t = let i = f.count t in omega (arith, i)
    by false t = f.count t

pub fewer-gone : (x : Req) (xs ys : List Req) → Fewer xs ys → Fewer (x ∷ xs) ys
fewer-gone x xs ys f = record {
  among = λ q h. inr (f.among q h);
  count = λ t. let i = f.count t in let j = asked-more t x xs in omega (arith, i, j);
}

pub fewer-filter : (keep : Req → Bool) (qs : List Req) → Fewer qs (filter keep qs)
fewer-filter keep [] = fewer-same []
fewer-filter keep (x ∷ qs) = go (keep x) (fewer-filter keep qs)
  where
    go : (b : Bool) → Fewer qs (filter keep qs) → Fewer (x ∷ qs) (cond b (x ∷ filter keep qs) (filter keep qs))
    go true f = fewer-cons x qs (filter keep qs) f
    go false f = fewer-gone x qs (filter keep qs) f

pub fewer-besides : (test : Req → Bool) (qs : List Req) → Fewer qs (besides_first test qs)
fewer-besides test [] = fewer-same []
fewer-besides test (x ∷ qs) = go (test x) (fewer-besides test qs)
  where
    go : (b : Bool) → Fewer qs (besides_first test qs) → Fewer (x ∷ qs) (cond b qs (x ∷ besides_first test qs))
    go true f = fewer-gone x qs qs (fewer-same qs)
    go false f = fewer-cons x qs (besides_first test qs) f

-- the first of those that pass goes, which was one of its task's
pub asked-besides : (test : Req → Bool) (qs : List Req) (q : Req) → find test qs ≡ Some q → (t : TaskId)
    → same_place t q.task ≡ true → length (asked_by t (besides_first test qs)) + 1 ≡ length (asked_by t qs)
asked-besides test [] q h t here = absurd (cc)
asked-besides test (x ∷ qs) q h t here = go (test x) h (λ k. asked-besides test qs q k t here)
  where
    go : (b : Bool) → cond b (Some x) (find test qs) ≡ Some q
        → (find test qs ≡ Some q → length (asked_by t (besides_first test qs)) + 1 ≡ length (asked_by t qs))
        → length (asked_by t (cond b qs (x ∷ besides_first test qs))) + 1 ≡ length (asked_by t (x ∷ qs))
    go true k more = sym (asked-here t x qs (ap (λ (z : Req). same_place t z.task) (same_Some x q k) ∙ here))
    go false k more = by (same_place t x.task) (more k)
      where
        by : (b : Bool) → length (asked_by t (besides_first test qs)) + 1 ≡ length (asked_by t qs)
            → length (cond b (x ∷ asked_by t (besides_first test qs)) (asked_by t (besides_first test qs))) + 1
            ≡ length (cond b (x ∷ asked_by t qs) (asked_by t qs))
        by true less = omega (arith, less)
        by false less = less

-- ---- an inbox
-- the request that a mail is, if it is one
abbrev pub request_in : Mail → List Req
request_in (mails.Request e from q) = q ∷ []
request_in mail = []

pub requests-more : (ms : List Mail) (y : Mail) → requests_in (ms ++ y ∷ []) ≡ requests_in ms ++ request_in y
requests-more [] (mails.Request e from q) = refl
requests-more [] (mails.Answered t answer rank) = refl
requests-more [] (mails.Granted t r) = refl
requests-more [] (mails.Notice target moved) = refl
requests-more [] (mails.Part e from records) = refl
requests-more (mails.Request e from q ∷ ms) y = ap (λ zs. q ∷ zs) (requests-more ms y)
requests-more (mails.Answered t answer rank ∷ ms) y = requests-more ms y
requests-more (mails.Granted t r ∷ ms) y = requests-more ms y
requests-more (mails.Notice target moved ∷ ms) y = requests-more ms y
requests-more (mails.Part e from records ∷ ms) y = requests-more ms y

pub requests-first : (y : Mail) (ms : List Mail) → requests_in (y ∷ ms) ≡ request_in y ++ requests_in ms
requests-first (mails.Request e from q) ms = refl
requests-first (mails.Answered t answer rank) ms = refl
requests-first (mails.Granted t r) ms = refl
requests-first (mails.Notice target moved) ms = refl
requests-first (mails.Part e from records) ms = refl
