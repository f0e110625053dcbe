-- Latches as queues: what changes in one queue changes in one latch.
use Rattle.std.proofs.Common.{◌≡◌, ◌+◌, ℕ, zero, suc, Bool, true, false, List, [], ◌∷◌, ◌++◌, length, map}
use Rattle.std.proofs.Common.{Some, None, not, refl, ap, sym, subst, ◌∙◌, arith, nat_eq}
use Rattle.std.specs.Prelude.{Option, slice_get, replicate, set, ◌||◌, ◌≤◌, Result, Ok, Err, IfOk, OnOk}
use Rattle.grs_base.specs.Same.{same_task}
use Rattle.grs_base.specs.Lists.{can_have, list_without, standing_of}
use Rattle.grs_base.specs.declared.resource.TaskId.{TaskId}
use Rattle.grs_base.proofs.Picks.{pick-filter_by}
use Rattle.qel_store.specs.Items.{without_task}
use Rattle.grs_wire.specs.Wants.{became_owners}
use Rattle.std.proofs.lemmas.Bool.{eqb-true, eq-eqb}
use Rattle.std.proofs.lemmas.Bool.Decides.{nat_tests}
use Rattle.grs_base.specs.State.{Held, list_at}
use Rattle.grs_base.specs.declared.resource.Elem.{Elem}
use Rattle.grs_base.specs.declared.resource.Ctl.{Ctl}
use Rattle.grs_base.specs.declared.resource.Ctl.TheVariants.{E, S}
use Rattle.grs_latch.specs.Latches.{changed_at, code_at, release_grants, grants_at, obtain_code, obtained, released}
use Rattle.grs_latch.specs.Latches.{purged}
use Rattle.grs_latch.specs.declared.reply.Grant.{Grant}
use Rattle.grs_latch.specs.Numbered.{list_in, lists_at, is_among, are_apart, IsNumbered}

pub by_cases : {P : Type 0} (b : Bool) → (b ≡ true → P) → (b ≡ false → P) → P
by_cases true yes_it no_it = yes_it refl
by_cases false yes_it no_it = no_it refl

-- the queue of a latch is among theirs
pub among_at : (ns : List (Option ℕ)) (l q : ℕ) → slice_get ns l ≡ Some (Some q) → is_among q ns ≡ true
among_at [] l q h = cc
among_at (None ∷ ns) zero q h = cc
among_at (Some n ∷ ns) zero q h = grind (arith, nat_tests, h)
among_at (None ∷ ns) (suc l) q h = among_at ns l q h
among_at (Some n ∷ ns) (suc l) q h = grind (arith, among_at ns l q h)

-- two queues of which one is among those of latches, and the other isn't
differ : (ns : List (Option ℕ)) (n q : ℕ) → is_among n ns ≡ false → is_among q ns ≡ true → nat_eq n q ≡ false
differ ns n q out inside = by_cases (nat_eq n q)
    (λ h. let same : n ≡ q = eqb-true n q h in
    let both : is_among n ns ≡ is_among q ns = ap (λ (m : ℕ). is_among m ns) same in
    cc (both, out, inside))
    (λ h. h)

module _ (s new : Held ℕ) (q : ℕ) (others : (p : ℕ) → nat_eq p q ≡ false → list_at nat_eq new p ≡ list_at nat_eq s p)
  where
    -- where the queue isn't among theirs, all stay
    pub lists_at-same : (ns : List (Option ℕ)) → is_among q ns ≡ false → lists_at ns new ≡ lists_at ns s
    lists_at-same [] out = refl
    lists_at-same (None ∷ ns) out = ap (λ (x : List (List Elem)). [] ∷ x) (lists_at-same ns out)
    lists_at-same (Some n ∷ ns) out =
        let apart : nat_eq n q ≡ false = grind (arith, nat_tests, out) in
        grind (arith, others n apart, lists_at-same ns (grind (arith, out)))

    -- where it is, its latch alone changes
    pub lists_at-changed : (f : List Elem → List Elem) (ns : List (Option ℕ)) (l : ℕ) → slice_get ns l ≡ Some (Some q)
        → are_apart ns ≡ true → list_at nat_eq new q ≡ f (list_at nat_eq s q)
        → lists_at ns new ≡ changed_at f l (lists_at ns s)
    lists_at-changed f [] l at apart here = cc
    lists_at-changed f (None ∷ ns) zero at apart here = cc
    lists_at-changed f (None ∷ ns) (suc l) at apart here =
        ap (λ (x : List (List Elem)). [] ∷ x) (lists_at-changed f ns l at apart here)
    lists_at-changed f (Some n ∷ ns) zero at apart here =
        let same : n ≡ q = grind (arith, at) in
        let out : is_among n ns ≡ false = grind (arith, apart) in
        let rest : lists_at ns new ≡ lists_at ns s =
        lists_at-same ns (ap (λ (m : ℕ). is_among m ns) (sym same) ∙ out) in
        let first : list_at nat_eq new n ≡ f (list_at nat_eq s n) =
        ap (λ (m : ℕ). list_at nat_eq new m) same ∙ here ∙ ap (λ (m : ℕ). f (list_at nat_eq s m)) (sym same) in
        ap (λ (x : List Elem). x ∷ lists_at ns new) first
        ∙ ap (λ (x : List (List Elem)). f (list_at nat_eq s n) ∷ x) rest
    lists_at-changed f (Some n ∷ ns) (suc l) at apart here =
        let out : is_among n ns ≡ false = grind (arith, apart) in
        let first : list_at nat_eq new n ≡ list_at nat_eq s n = others n (differ ns n q out (among_at ns l q at)) in
        ap (λ (x : List Elem). x ∷ lists_at ns new) first
        ∙ ap (λ (x : List (List Elem)). list_at nat_eq s n ∷ x)
        (lists_at-changed f ns l at (grind (arith, apart)) here)

    -- where it is that of no latch, a latch may get it that has none
    pub lists_at-first : (f : List Elem → List Elem) (ns : List (Option ℕ)) (l : ℕ) → slice_get ns l ≡ Some None
        → is_among q ns ≡ false → list_at nat_eq new q ≡ f []
        → lists_at (set ns l (Some q)) new ≡ changed_at f l (lists_at ns s)
    lists_at-first f [] l at out here = cc
    lists_at-first f (None ∷ ns) zero at out here =
        ap (λ (x : List Elem). x ∷ lists_at ns new) here
        ∙ ap (λ (x : List (List Elem)). f [] ∷ x) (lists_at-same ns out)
    lists_at-first f (Some n ∷ ns) zero at out here = cc
    lists_at-first f (None ∷ ns) (suc l) at out here =
        ap (λ (x : List (List Elem)). [] ∷ x) (lists_at-first f ns l at out here)
    lists_at-first f (Some n ∷ ns) (suc l) at out here =
        let apart : nat_eq n q ≡ false = grind (arith, nat_tests, out) in
        ap (λ (x : List Elem). x ∷ lists_at (set ns l (Some q)) new) (others n apart)
        ∙ ap (λ (x : List (List Elem)). list_at nat_eq s n ∷ x)
        (lists_at-first f ns l at (grind (arith, out)) here)

-- what calls say of a latch, and make of it: by its requests
code_at-there : (f : List Elem → ℕ) (ns : List (Option ℕ)) (l : ℕ) (o : Option ℕ) (s : Held ℕ) → slice_get ns l ≡ Some o
    → code_at f l (lists_at ns s) ≡ f (list_in s o)
code_at-there f [] l o s at = cc
code_at-there f (n ∷ ns) zero o s at =
    let same : n ≡ o = grind (arith, at) in ap (λ (m : Option ℕ). f (list_in s m)) same
code_at-there f (n ∷ ns) (suc l) o s at = code_at-there f ns l o s at

pub code_at-some : (f : List Elem → ℕ) (ns : List (Option ℕ)) (l q : ℕ) (s : Held ℕ) → slice_get ns l ≡ Some (Some q)
    → code_at f l (lists_at ns s) ≡ f (list_at nat_eq s q)
code_at-some f ns l q s at = code_at-there f ns l (Some q) s at

pub code_at-absent : (f : List Elem → ℕ) (ns : List (Option ℕ)) (l : ℕ) (s : Held ℕ) → slice_get ns l ≡ Some None
    → code_at f l (lists_at ns s) ≡ f []
code_at-absent f ns l s at = code_at-there f ns l None s at

pub code_at-none : (f : List Elem → ℕ) (ns : List (Option ℕ)) (l : ℕ) (s : Held ℕ) → slice_get ns l ≡ None
    → code_at f l (lists_at ns s) ≡ 12
code_at-none f [] l s at = refl
code_at-none f (n ∷ ns) zero s at = cc
code_at-none f (n ∷ ns) (suc l) s at = code_at-none f ns l s at

pub changed_at-none : (f : List Elem → List Elem) (ns : List (Option ℕ)) (l : ℕ) (s : Held ℕ) → slice_get ns l ≡ None
    → changed_at f l (lists_at ns s) ≡ lists_at ns s
changed_at-none f [] l s at = refl
changed_at-none f (n ∷ ns) zero s at = cc
changed_at-none f (n ∷ ns) (suc l) s at =
    ap (λ (x : List (List Elem)). list_in s n ∷ x) (changed_at-none f ns l s at)

pub changed_at-absent : (f : List Elem → List Elem) (ns : List (Option ℕ)) (l : ℕ) (s : Held ℕ)
    → slice_get ns l ≡ Some None → f [] ≡ [] → changed_at f l (lists_at ns s) ≡ lists_at ns s
changed_at-absent f [] l s at stays = cc
changed_at-absent f (None ∷ ns) zero s at stays = ap (λ (x : List Elem). x ∷ lists_at ns s) stays
changed_at-absent f (Some n ∷ ns) zero s at stays = cc
changed_at-absent f (n ∷ ns) (suc l) s at stays =
    ap (λ (x : List (List Elem)). list_in s n ∷ x) (changed_at-absent f ns l s at stays)

-- those who get the latch of a list by its release
abbrev released_to : ℕ → ℕ → List Elem → TaskId → List Grant
released_to set at es t = grants_at set at (became_owners es (released es t) t)

release_grants-there : (set at : ℕ) (ns : List (Option ℕ)) (l : ℕ) (o : Option ℕ) (s : Held ℕ) (t : TaskId)
    → slice_get ns l ≡ Some o → release_grants set at l (lists_at ns s) t ≡ released_to set at (list_in s o) t
release_grants-there set at [] l o s t is = cc
release_grants-there set at (n ∷ ns) zero o s t is =
    let same : n ≡ o = grind (arith, is) in
    ap (λ (m : Option ℕ). released_to set at (list_in s m) t) same
release_grants-there set at (n ∷ ns) (suc l) o s t is = release_grants-there set at ns l o s t is

pub release_grants-some : (set at : ℕ) (ns : List (Option ℕ)) (l q : ℕ) (s : Held ℕ) (t : TaskId)
    → slice_get ns l ≡ Some (Some q)
    → release_grants set at l (lists_at ns s) t
    ≡ grants_at set at (became_owners (list_at nat_eq s q) (released (list_at nat_eq s q) t) t)
release_grants-some set at ns l q s t is = release_grants-there set at ns l (Some q) s t is

pub release_grants-absent : (set at : ℕ) (ns : List (Option ℕ)) (l : ℕ) (s : Held ℕ) (t : TaskId)
    → slice_get ns l ≡ Some None → release_grants set at l (lists_at ns s) t ≡ []
release_grants-absent set at ns l s t is = release_grants-there set at ns l None s t is

pub release_grants-none : (set at : ℕ) (ns : List (Option ℕ)) (l : ℕ) (s : Held ℕ) (t : TaskId) → slice_get ns l ≡ None
    → release_grants set at l (lists_at ns s) t ≡ []
release_grants-none set at [] l s t is = refl
release_grants-none set at (n ∷ ns) zero s t is = cc
release_grants-none set at (n ∷ ns) (suc l) s t is = release_grants-none set at ns l s t is

-- a purge, by the queues: end_task of LinkedQueues leaves without_task
pub lists_at-without_task : (ns : List (Option ℕ)) (s : Held ℕ) (t : TaskId)
    → lists_at ns (without_task s t) ≡ purged (lists_at ns s) t
lists_at-without_task [] s t = refl
lists_at-without_task (None ∷ ns) s t = ap (λ (x : List (List Elem)). [] ∷ x) (lists_at-without_task ns s t)
lists_at-without_task (Some n ∷ ns) s t =
    let first : list_at nat_eq (without_task s t) n ≡ list_without (list_at nat_eq s n) t =
    pick-filter_by (λ h. nat_eq n h.0) (λ h. h.1) (λ h. not (same_task t h.1.task)) (λ x. not (same_task t x.task))
    (λ h p. grind (arith, p)) s in
    grind (arith, first, lists_at-without_task ns s t)

pub lists_at-purged : (ns : List (Option ℕ)) (s new : Held ℕ) (ls : List (List Elem)) (t : TaskId)
    → new ≡ without_task s t → lists_at ns s ≡ ls → lists_at ns new ≡ purged ls t
lists_at-purged ns s new ls t is same =
    ap (lists_at ns) is ∙ lists_at-without_task ns s t ∙ ap (λ (x : List (List Elem)). purged x t) same

-- no latch has a queue
is_among-none : (q n : ℕ) → is_among q (replicate n None) ≡ false
is_among-none q zero = refl
is_among-none q (suc n) = is_among-none q n

are_apart-none : (n : ℕ) → are_apart (replicate n None) ≡ true
are_apart-none zero = refl
are_apart-none (suc n) = are_apart-none n

lists_at-none : (n : ℕ) (s : Held ℕ) → lists_at (replicate n None) s ≡ replicate n []
lists_at-none zero s = refl
lists_at-none (suc n) s = ap (λ (x : List (List Elem)). [] ∷ x) (lists_at-none n s)

numbered-none : (n : ℕ) (in_use : ℕ → Bool) → IsNumbered (replicate n None) in_use
numbered-none n in_use = record {
  apart = are_apart-none n;
  live = λ q h. let none : is_among q (replicate n None) ≡ false = is_among-none q n in cc;
}

length-none : (n : ℕ) → length {A = Option ℕ} (replicate n None) ≡ n
length-none zero = refl
length-none (suc n) = ap (λ (m : ℕ). suc m) (length-none n)

pub made-numbered : (ns : List (Option ℕ)) (n most : ℕ) (in_use : ℕ → Bool) → ns ≡ replicate n None → n ≤ most
    → IsNumbered ns in_use × (length ns ≤ most)
made-numbered ns n most in_use is few =
    let none : IsNumbered ns in_use =
    subst (λ (xs : List (Option ℕ)). IsNumbered xs in_use) (sym is) (numbered-none n in_use) in
    let long : length ns ≡ n = ap (λ (xs : List (Option ℕ)). length xs) is ∙ length-none n in
    (none, omega (arith, long, few))

pub made-lists : (ns : List (Option ℕ)) (n : ℕ) (s : Held ℕ) → ns ≡ replicate n None → lists_at ns s ≡ replicate n []
made-lists ns n s is = ap (λ (xs : List (Option ℕ)). lists_at xs s) is ∙ lists_at-none n s

-- a latch gets a queue
is_among-first : (p q l : ℕ) (ns : List (Option ℕ)) → slice_get ns l ≡ Some None
    → is_among p (set ns l (Some q)) ≡ (nat_eq p q || is_among p ns)
is_among-first p q l [] at = cc
is_among-first p q zero (None ∷ ns) at = refl
is_among-first p q zero (Some n ∷ ns) at = cc
is_among-first p q (suc l) (None ∷ ns) at = is_among-first p q l ns at
is_among-first p q (suc l) (Some n ∷ ns) at = grind (arith, is_among-first p q l ns at)

are_apart-first : (q l : ℕ) (ns : List (Option ℕ)) → slice_get ns l ≡ Some None → are_apart ns ≡ true
    → is_among q ns ≡ false → are_apart (set ns l (Some q)) ≡ true
are_apart-first q l [] at apart out = cc
are_apart-first q zero (None ∷ ns) at apart out = grind (arith, apart, out)
are_apart-first q zero (Some n ∷ ns) at apart out = cc
are_apart-first q (suc l) (None ∷ ns) at apart out = are_apart-first q l ns at apart out
are_apart-first q (suc l) (Some n ∷ ns) at apart out =
    let rest : are_apart (set ns l (Some q)) ≡ true =
    are_apart-first q l ns at (grind (arith, apart)) (grind (arith, out)) in
    let others : nat_eq n q ≡ false = grind (arith, nat_tests, out) in
    grind (arith, apart, rest, others, is_among-first n q l ns at)

pub out_of_use : (ns : List (Option ℕ)) (was : ℕ → Bool) (q : ℕ) → IsNumbered ns was → was q ≡ false
    → is_among q ns ≡ false
out_of_use ns was q before fresh = by_cases (is_among q ns)
    (λ h. let there : was q ≡ true = before.live q h in cc)
    (λ h. h)

pub numbered-first : (ns : List (Option ℕ)) (was now : ℕ → Bool) (l q : ℕ) → IsNumbered ns was
    → slice_get ns l ≡ Some None → was q ≡ false → ((p : ℕ) → now p ≡ (nat_eq p q || was p))
    → IsNumbered (set ns l (Some q)) now
numbered-first ns was now l q before at fresh after = record {
  apart = are_apart-first q l ns at before.apart (out_of_use ns was q before fresh);
  live = λ p h.
      let both : (nat_eq p q || is_among p ns) ≡ true = sym (is_among-first p q l ns at) ∙ h in
      by_cases (nat_eq p q)
      (λ e. grind (arith, after p, e))
      (λ e. let inside : is_among p ns ≡ true = grind (arith, both, e) in
      grind (arith, after p, e, before.live p inside));
}

-- it is granted to who asks first
pub first-code : (t : TaskId) (c : Ctl) → obtain_code (standing_of [] t) (can_have [] c) ≡ 0
first-code t E = refl
first-code t S = refl

pub first-list : (e : Elem) (may_wait : Bool) → obtained [] e.task e.ctl may_wait ≡ e ∷ []
first-list e may_wait = by_ctl e.ctl refl
  where
    by_ctl : (c : Ctl) → e.ctl ≡ c → obtained [] e.task e.ctl may_wait ≡ e ∷ []
    by_ctl E is = grind (arith, is)
    by_ctl S is = grind (arith, is)

-- what holds where a step went well, of what follows from it
pub ok-at : {X Y E : Type 0} (f : X → Y) (r : Result X E) (a b : Y) → IfOk r (λ x. f x ≡ a) → a ≡ b
    → IfOk r (λ x. f x ≡ b)
ok-at f (Ok x) a b h same = h ∙ same
ok-at f (Err e) a b h same = tt

pub on-ok : {X E : Type 0} (r : Result X E) (P Q : Type 0) → OnOk r P → (P → Q) → OnOk r Q
on-ok (Ok x) P Q h more = more h
on-ok (Err e) P Q h more = tt
