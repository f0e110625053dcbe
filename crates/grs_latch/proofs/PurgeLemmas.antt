-- A purge, and rows, latch by latch: what is left behind the latches that were looked at.
use Rattle.std.proofs.Common.{◌≡◌, ◌≤◌, ◌<◌, ◌+◌, ℕ, zero, suc, Bool, true, false, not, List, [], ◌∷◌, ◌++◌, length}
use Rattle.std.proofs.Common.{cond, drop, refl, ap, sym, ◌∙◌, arith, nat_eq, append_assoc, append-nil, add-one}
use Rattle.std.specs.Prelude.{Option, slice_get, Some, None, ◌&&◌, filter}
use Rattle.std.proofs.lemmas.Bool.Decides.{nat_tests}
use Rattle.grs_base.specs.Lists.{has_task, list_without}
use Rattle.grs_base.specs.Same.{same_task}
use Rattle.grs_base.specs.State.{Held, list_at, queued_by}
use Rattle.grs_base.specs.declared.resource.TaskId.{TaskId}
use Rattle.grs_base.specs.declared.resource.Elem.{Elem}
use Rattle.grs_latch.specs.Latches.{Lists, requests_of, purge_grants, grants_at, owners_without}
use Rattle.grs_latch.specs.Numbered.{list_in, lists_at, is_among, are_apart, IsNumbered}
use Rattle.grs_latch.specs.Calls.{rows_at, rows_in}
use Rattle.grs_latch.specs.declared.reply.Grant.{Grant}
use Rattle.grs_latch.specs.declared.reply.LatchRow.{LatchRow}
use Rattle.grs_latch.proofs.NumberLemmas.{by_cases}
use Rattle.grs_latch.proofs.LatchLemmas.{owners_without-absent}

-- the latches from one on: it, and those behind it
lists-from : (s : Held ℕ) (ns : List (Option ℕ)) (l : ℕ) (o : Option ℕ) → slice_get ns l ≡ Some o
    → drop l (lists_at ns s) ≡ list_in s o ∷ drop (suc l) (lists_at ns s)
lists-from s [] l o at = cc
lists-from s (n ∷ ns) zero o at =
    let same : n ≡ o = grind (arith, at) in
    ap (λ (m : Option ℕ). list_in s m ∷ lists_at ns s) same
lists-from s (n ∷ ns) (suc l) o at = lists-from s ns l o at

pub requests-next : (es : List Elem) (ls : Lists) (t : TaskId)
    → requests_of (es ∷ ls) t ≡ cond (has_task es t) 1 0 + requests_of ls t
requests-next es ls t = by_cases (has_task es t) (λ h. grind (arith, h)) (λ h. grind (arith, h))

taken-there : (s : Held ℕ) (ns : List (Option ℕ)) (l : ℕ) (o : Option ℕ) (taken now : ℕ) (t : TaskId)
    → slice_get ns l ≡ Some o → now ≡ taken + cond (has_task (list_in s o) t) 1 0
    → now + requests_of (drop (l + 1) (lists_at ns s)) t ≡ taken + requests_of (drop l (lists_at ns s)) t
taken-there s ns l o taken now t at is =
    let from : requests_of (drop l (lists_at ns s)) t
    ≡ cond (has_task (list_in s o) t) 1 0 + requests_of (drop (suc l) (lists_at ns s)) t =
    ap (λ (x : Lists). requests_of x t) (lists-from s ns l o at)
    ∙ requests-next (list_in s o) (drop (suc l) (lists_at ns s)) t in
    let on : now + requests_of (drop (suc l) (lists_at ns s)) t ≡ taken + requests_of (drop l (lists_at ns s)) t =
    omega (arith, is, from) in
    ap (λ (k : ℕ). now + requests_of (drop k (lists_at ns s)) t) (add-one l) ∙ on

pub taken-on : (s : Held ℕ) (ns : List (Option ℕ)) (l q taken now : ℕ) (t : TaskId) → slice_get ns l ≡ Some (Some q)
    → now ≡ taken + cond (has_task (list_at nat_eq s q) t) 1 0
    → now + requests_of (drop (l + 1) (lists_at ns s)) t ≡ taken + requests_of (drop l (lists_at ns s)) t
taken-on s ns l q taken now t at is = taken-there s ns l (Some q) taken now t at is

pub taken-absent : (s : Held ℕ) (ns : List (Option ℕ)) (l taken : ℕ) (t : TaskId) → slice_get ns l ≡ Some None
    → taken + requests_of (drop (l + 1) (lists_at ns s)) t ≡ taken + requests_of (drop l (lists_at ns s)) t
taken-absent s ns l taken t at = taken-there s ns l None taken taken t at (omega arith)

pub taken-less : (b : Bool) (taken now : ℕ) → now ≡ taken + cond b 1 0 → now ≤ taken + 1
taken-less true taken now is = omega (arith, is)
taken-less false taken now is = omega (arith, is)

grants-there :
    (s : Held ℕ) (set : ℕ) (ns : List (Option ℕ)) (l : ℕ) (o : Option ℕ) (grants now : List Grant) (t : TaskId)
    → slice_get ns l ≡ Some o
    → now ≡ grants ++ grants_at set l (owners_without (list_in s o) t)
    → now ++ purge_grants set (l + 1) (drop (l + 1) (lists_at ns s)) t
    ≡ grants ++ purge_grants set l (drop l (lists_at ns s)) t
grants-there s set ns l o grants now t at is =
    let here = grants_at set l (owners_without (list_in s o) t) in
    let rest = purge_grants set (suc l) (drop (suc l) (lists_at ns s)) t in
    let from : grants ++ (here ++ rest) ≡ grants ++ purge_grants set l (drop l (lists_at ns s)) t =
    ap (λ (x : Lists). grants ++ purge_grants set l x t) (sym (lists-from s ns l o at)) in
    ap (λ (k : ℕ). now ++ purge_grants set k (drop k (lists_at ns s)) t) (add-one l)
    ∙ ap (λ (x : List Grant). x ++ rest) is
    ∙ append_assoc grants here rest
    ∙ from

pub grants-on : (s : Held ℕ) (set : ℕ) (ns : List (Option ℕ)) (l q : ℕ) (grants now : List Grant) (t : TaskId)
    → slice_get ns l ≡ Some (Some q)
    → now ≡ grants ++ grants_at set l (owners_without (list_at nat_eq s q) t)
    → now ++ purge_grants set (l + 1) (drop (l + 1) (lists_at ns s)) t
    ≡ grants ++ purge_grants set l (drop l (lists_at ns s)) t
grants-on s set ns l q grants now t at is = grants-there s set ns l (Some q) grants now t at is

pub grants-absent : (s : Held ℕ) (set : ℕ) (ns : List (Option ℕ)) (l : ℕ) (grants : List Grant) (t : TaskId)
    → slice_get ns l ≡ Some None
    → grants ++ purge_grants set (l + 1) (drop (l + 1) (lists_at ns s)) t
    ≡ grants ++ purge_grants set l (drop l (lists_at ns s)) t
grants-absent s set ns l grants t at = grants-there s set ns l None grants grants t at (sym (append-nil grants))

-- no request is left where all that its task has were found: a task has at most as many in some queues as in all
abbrev without_queue : Held ℕ → ℕ → Held ℕ
without_queue s n = filter (λ h. not (nat_eq n h.0)) s

others-same : (s : Held ℕ) (n q : ℕ) → nat_eq q n ≡ false → list_at nat_eq (without_queue s n) q ≡ list_at nat_eq s q
others-same [] n q apart = refl
others-same ((k, e) ∷ s) n q apart =
    by_cases (nat_eq n k)
    (λ h. by_cases (nat_eq q k)
    (λ i. grind (arith, nat_tests, h, i, apart))
    (λ i. grind (arith, h, i, others-same s n q apart)))
    (λ h. grind (arith, h, others-same s n q apart))

lists-same : (s : Held ℕ) (n : ℕ) (ns : List (Option ℕ)) → is_among n ns ≡ false
    → lists_at ns (without_queue s n) ≡ lists_at ns s
lists-same s n [] out = refl
lists-same s n (None ∷ ns) out = ap (λ (x : Lists). [] ∷ x) (lists-same s n ns out)
lists-same s n (Some q ∷ ns) out =
    grind (arith, others-same s n q (grind (arith, nat_tests, out)), lists-same s n ns (grind (arith, out)))

fewer-without : (s : Held ℕ) (n : ℕ) (t : TaskId)
    → cond (has_task (list_at nat_eq s n) t) 1 0 + length (queued_by (without_queue s n) t) ≤ length (queued_by s t)
fewer-without [] n t = omega arith
fewer-without ((k, e) ∷ s) n t =
    by_cases (nat_eq n k)
    (λ h. by_cases (same_task t e.task)
    (λ i. grind (arith, h, i, fewer-without s n t))
    (λ i. grind (arith, h, i, fewer-without s n t)))
    (λ h. by_cases (same_task t e.task)
    (λ i. grind (arith, h, i, fewer-without s n t))
    (λ i. grind (arith, h, i, fewer-without s n t)))

pub requests-few : (ns : List (Option ℕ)) (s : Held ℕ) (t : TaskId) → are_apart ns ≡ true
    → requests_of (lists_at ns s) t ≤ length (queued_by s t)
requests-few [] s t apart = omega arith
requests-few (None ∷ ns) s t apart = requests-few ns s t apart
requests-few (Some n ∷ ns) s t apart =
    let rest : requests_of (lists_at ns (without_queue s n)) t ≤ length (queued_by (without_queue s n) t) =
    requests-few ns (without_queue s n) t (grind (arith, apart)) in
    let same : requests_of (lists_at ns (without_queue s n)) t ≡ requests_of (lists_at ns s) t =
    ap (λ (x : Lists). requests_of x t) (lists-same s n ns (grind (arith, apart))) in
    omega (arith, rest, same, fewer-without s n t, requests-next (list_at nat_eq s n) (lists_at ns s) t)

pub none-granted : (set l : ℕ) (ls : Lists) (t : TaskId) → requests_of ls t ≡ 0 → purge_grants set l ls t ≡ []
none-granted set l [] t none = refl
none-granted set l (es ∷ ls) t none =
    by_cases (has_task es t)
    (λ h. absurd (grind (arith, none, requests-next es ls t, h)))
    (λ h. let rest : requests_of ls t ≡ 0 = omega (arith, none, requests-next es ls t) in
    grind (arith, owners_without-absent es t h, none-granted set (suc l) ls t rest))

-- where all that a task has were found, no more are behind
pub all-found : (s : Held ℕ) (ns : List (Option ℕ)) (l taken : ℕ) (t : TaskId) → are_apart ns ≡ true
    → taken + requests_of (drop l (lists_at ns s)) t ≡ requests_of (lists_at ns s) t
    → taken ≡ length (queued_by s t)
    → (requests_of (drop l (lists_at ns s)) t ≡ 0) × (taken ≡ requests_of (lists_at ns s) t)
all-found s ns l taken t apart sum all =
    let few = requests-few ns s t apart in
    let none : requests_of (drop l (lists_at ns s)) t ≡ 0 = omega (arith, sum, all, few) in
    (none, omega (arith, none, sum))

pub found-taken : (s : Held ℕ) (ns : List (Option ℕ)) (l taken : ℕ) (t : TaskId) → are_apart ns ≡ true
    → taken + requests_of (drop l (lists_at ns s)) t ≡ requests_of (lists_at ns s) t
    → taken ≡ length (queued_by s t) → taken ≡ requests_of (lists_at ns s) t
found-taken s ns l taken t apart sum all = (all-found s ns l taken t apart sum all).1

pub found-grants : (s : Held ℕ) (set : ℕ) (ns : List (Option ℕ)) (l taken : ℕ) (grants total : List Grant) (t : TaskId)
    → are_apart ns ≡ true
    → taken + requests_of (drop l (lists_at ns s)) t ≡ requests_of (lists_at ns s) t
    → taken ≡ length (queued_by s t)
    → grants ++ purge_grants set l (drop l (lists_at ns s)) t ≡ total → grants ≡ total
found-grants s set ns l taken grants total t apart sum all is =
    let none = none-granted set l (drop l (lists_at ns s)) t (all-found s ns l taken t apart sum all).0 in
    sym (ap (λ (x : List Grant). grants ++ x) none ∙ append-nil grants) ∙ is

-- behind the last latch there is none
drop-all : (s : Held ℕ) (ns : List (Option ℕ)) (l : ℕ) → length ns ≤ l → drop l (lists_at ns s) ≡ []
drop-all s [] zero h = refl
drop-all s [] (suc l) h = refl
drop-all s (n ∷ ns) zero h = absurd (omega (arith, h))
drop-all s (n ∷ ns) (suc l) h = drop-all s ns l (omega (arith, h))

pub end-taken : (s : Held ℕ) (ns : List (Option ℕ)) (l taken total : ℕ) (t : TaskId) → length ns ≤ l
    → taken + requests_of (drop l (lists_at ns s)) t ≡ total → taken ≡ total
end-taken s ns l taken total t h sum =
    let none : requests_of (drop l (lists_at ns s)) t ≡ 0 = ap (λ (x : Lists). requests_of x t) (drop-all s ns l h) in
    omega (arith, none, sum)

pub end-grants : (s : Held ℕ) (set : ℕ) (ns : List (Option ℕ)) (l : ℕ) (grants total : List Grant) (t : TaskId)
    → length ns ≤ l
    → grants ++ purge_grants set l (drop l (lists_at ns s)) t ≡ total → grants ≡ total
end-grants s set ns l grants total t h is =
    sym (ap (λ (x : Lists). grants ++ purge_grants set l x t) (drop-all s ns l h) ∙ append-nil grants) ∙ is

-- rows
rows-there : (s : Held ℕ) (set : ℕ) (ns : List (Option ℕ)) (l : ℕ) (o : Option ℕ) (rows now : List LatchRow)
    → slice_get ns l ≡ Some o → now ≡ rows ++ rows_at set l (list_in s o)
    → now ++ rows_in set (l + 1) (drop (l + 1) (lists_at ns s)) ≡ rows ++ rows_in set l (drop l (lists_at ns s))
rows-there s set ns l o rows now at is =
    let here = rows_at set l (list_in s o) in
    let rest = rows_in set (suc l) (drop (suc l) (lists_at ns s)) in
    let from : rows ++ (here ++ rest) ≡ rows ++ rows_in set l (drop l (lists_at ns s)) =
    ap (λ (x : Lists). rows ++ rows_in set l x) (sym (lists-from s ns l o at)) in
    ap (λ (k : ℕ). now ++ rows_in set k (drop k (lists_at ns s))) (add-one l)
    ∙ ap (λ (x : List LatchRow). x ++ rest) is
    ∙ append_assoc rows here rest
    ∙ from

pub rows-on : (s : Held ℕ) (set : ℕ) (ns : List (Option ℕ)) (l q : ℕ) (rows now : List LatchRow)
    → slice_get ns l ≡ Some (Some q)
    → now ≡ rows ++ rows_at set l (list_at nat_eq s q)
    → now ++ rows_in set (l + 1) (drop (l + 1) (lists_at ns s)) ≡ rows ++ rows_in set l (drop l (lists_at ns s))
rows-on s set ns l q rows now at is = rows-there s set ns l (Some q) rows now at is

pub rows-absent : (s : Held ℕ) (set : ℕ) (ns : List (Option ℕ)) (l : ℕ) (rows : List LatchRow)
    → slice_get ns l ≡ Some None
    → rows ++ rows_in set (l + 1) (drop (l + 1) (lists_at ns s)) ≡ rows ++ rows_in set l (drop l (lists_at ns s))
rows-absent s set ns l rows at = rows-there s set ns l None rows rows at (sym (append-nil rows))

pub end-rows : (s : Held ℕ) (set : ℕ) (ns : List (Option ℕ)) (l : ℕ) (rows total : List LatchRow) → length ns ≤ l
    → rows ++ rows_in set l (drop l (lists_at ns s)) ≡ total → rows ≡ total
end-rows s set ns l rows total h is =
    sym (ap (λ (x : Lists). rows ++ rows_in set l x) (drop-all s ns l h) ∙ append-nil rows) ∙ is

pub ruleset all_shown = (end-rows, append-nil)

pub ruleset purge = (taken-less)

pub ruleset whole = (found-taken, found-grants, end-taken, end-grants)
