-- Lists with ranks that are put into an entry.
use Rattle.std.proofs.Common.{◌≡◌, ◌≤◌, ◌<◌, ◌+◌, ◌^◌, ℕ, Bool, true, false, cond, ◌&&◌, List, [], ◌∷◌, ◌++◌, Some}
use Rattle.std.proofs.Common.{refl, ap, sym, ◌∙◌, subst, arith, append_assoc}
use Rattle.std.specs.Prelude.{nat_le, max}
use Rattle.std.specs.List.{list_any, list_all}
use Rattle.std.proofs.lemmas.Bool.Decides.{nat_tests}
use Rattle.grs_base.specs.Limits.{last_number}
use Rattle.grs_base.specs.Same.{same_res, same_task}
use Rattle.grs_base.specs.Lists.{has_task, is_apart, standing_of, enq_decision, can_have}
use Rattle.grs_base.specs.State.{State, list_of, after_effect, enq_state}
use Rattle.grs_base.specs.declared.decision.Standing.TheVariants.{Absent}
use Rattle.grs_base.specs.declared.resource.Elem.{Elem}
use Rattle.grs_base.specs.declared.resource.Res.{Res}
use Rattle.grs_base.specs.declared.resource.Ret.TheVariants.{RetHave}
use Rattle.grs_base.specs.declared.resource.TaskId.{TaskId}
use Rattle.grs_base.proofs.ListLaws.{has_task-append, has_task-place, owners-le, same_task-sym}
use Rattle.grs_base.proofs.SameLaws.{same_res-exact, same_res-itself}
use Rattle.grs_base.proofs.StateLaws.{list_at-push, res_equality}
use Rattle.grs_base.specs.Limits.{last_number}
use Rattle.contention_mgr.specs.Manager.{Ranked, plain}
use Rattle.contention_mgr.specs.Marks.{ranked_all, AreMarked}
use Rattle.contention_mgr.specs.Loads.{ranked_list, ranked_rows, greatest, no_elems, rows_free}
use Rattle.lock_structure.specs.RankedRows.{RankedRow, ranks_of, rows_apart, all_apart}
use Rattle.contention_mgr.proofs.ItemLemmas.{Marking, plain-ranked, ranked-push, marked-push, holds-list}

-- a task that has no element is absent, so its request is queued
absent-standing : (es : List Elem) (t : TaskId) → has_task es t ≡ false → standing_of es t ≡ Absent
absent-standing es t h = grind (arith, nat_tests, h, has_task-place es t, owners-le es)

pub append-free : (s : State) (r : Res) (e : Elem) → has_task (list_of s r) e.task ≡ false
    → enq_state s r e.task e.ctl RetHave false ≡ s ++ (r, e) ∷ []
append-free s r e h =
    ap (λ st. after_effect s r e.task e.ctl (enq_decision st RetHave false (can_have (list_of s r) e.ctl)).effect)
    (absent-standing (list_of s r) e.task h)

-- an element with its mark
pub added : (f g : Marking) (s after : State) (r : Res) (e : Elem) (n : ℕ) → AreMarked f s
    → has_task (list_of s r) e.task ≡ false
    → ((q : Res) (u : TaskId)
    → g q u ≡ cond (same_res r q && same_task e.task u) (Some (record { rank = n; untold = false })) (f q u))
    → after ≡ s ++ (r, e) ∷ []
    → (ranked_all g after ≡ ranked_all f s ++ record { res = r; elem = e; rank = n; untold = false } ∷ [])
    × AreMarked g after
added f g s after r e n are absent change is = (
  ap (ranked_all g) is
      ∙ ranked-push f g r e (record { rank = n; untold = false }) change s (holds-list s r e.task ∙ absent),
  subst (AreMarked g) (sym is) (marked-push f g r e (record { rank = n; untold = false }) change s are),
)

-- ---- one list
-- no task of what comes has an element yet
pub apart-next : (es : List Elem) (e : Elem) (rest : List Elem) → is_apart (es ++ e ∷ rest) ≡ true
    → has_task es e.task ≡ false
apart-next [] e rest h = refl
apart-next (x ∷ es) e rest h =
    grind (arith, h, has_task-append es (e ∷ rest) x.task, same_task-sym e.task x.task, apart-next es e rest)

pub apart-behind : (s after : State) (r : Res) (e : Elem) (all rest : List Elem) → all ≡ e ∷ rest
    → after ≡ s ++ (r, e) ∷ [] → is_apart (list_of s r ++ all) ≡ true → is_apart (list_of after r ++ rest) ≡ true
apart-behind s after r e all rest so is h =
    ap (λ (l : State). is_apart (list_of l r ++ rest)) is
    ∙ ap (λ (l : List Elem). is_apart (l ++ rest)) (list_at-push same_res res_equality s r e)
    ∙ ap is_apart (append_assoc (list_of s r) (e ∷ []) rest)
    ∙ sym (ap (λ (l : List Elem). is_apart (list_of s r ++ l)) so) ∙ h

pub apart-now : (s : State) (r : Res) (e : Elem) (all rest : List Elem) → all ≡ e ∷ rest
    → is_apart (list_of s r ++ all) ≡ true → has_task (list_of s r) e.task ≡ false
apart-now s r e all rest so h =
    apart-next (list_of s r) e rest (sym (ap (λ (l : List Elem). is_apart (list_of s r ++ l)) so) ∙ h)

pub list-more :
    (f g : Marking) (s after : State) (r : Res) (e : Elem) (n : ℕ) (all rest : List Elem) (ns more : List ℕ)
    (zs : List Ranked)
    → all ≡ e ∷ rest → ns ≡ n ∷ more
    → ranked_all g after ≡ ranked_all f s ++ record { res = r; elem = e; rank = n; untold = false } ∷ []
    → ranked_all f s ++ ranked_list r all ns ≡ zs → ranked_all g after ++ ranked_list r rest more ≡ zs
list-more f g s after r e n all rest ns more zs so at is before =
    ap (λ (l : List Ranked). l ++ ranked_list r rest more) is
    ∙ append_assoc (ranked_all f s) (record { res = r; elem = e; rank = n; untold = false } ∷ [])
    (ranked_list r rest more)
    ∙ sym (ap (λ (l : List Elem). ranked_all f s ++ ranked_list r l ns) so
    ∙ ap (λ (l : List ℕ). ranked_all f s ++ ranked_list r (e ∷ rest) l) at)
    ∙ before

-- ---- rows
no_elems-is : (es : List Elem) → no_elems es ≡ true → es ≡ []
no_elems-is [] h = refl
no_elems-is (e ∷ es) h = cc

list_of-append : (s u : State) (r : Res) → list_of (s ++ u) r ≡ list_of s r ++ list_of u r
list_of-append [] u r = refl
list_of-append (h ∷ hs) u r = grind (arith, list_of-append hs u r)

plain-append : (xs ys : List Ranked) → plain (xs ++ ys) ≡ plain xs ++ plain ys
plain-append [] ys = refl
plain-append (x ∷ xs) ys = ap (λ (l : State). (x.res, x.elem) ∷ l) (plain-append xs ys)

other_list : (p r : Res) (es : List Elem) (ns : List ℕ) → same_res p r ≡ false
    → list_of (plain (ranked_list r es ns)) p ≡ []
other_list p r [] ns h = refl
other_list p r (e ∷ es) [] h = refl
other_list p r (e ∷ es) (n ∷ ns) h = grind (arith, h, other_list p r es ns h)

-- the lists after one row more
after_row : (f g : Marking) (s after : State) (r : Res) (es : List Elem) (ns : List ℕ)
    → ranked_all g after ≡ ranked_all f s ++ ranked_list r es ns → after ≡ s ++ plain (ranked_list r es ns)
after_row f g s after r es ns is =
    sym (plain-ranked g after)
    ∙ ap plain is
    ∙ plain-append (ranked_all f s) (ranked_list r es ns)
    ∙ ap (λ (l : State). l ++ plain (ranked_list r es ns)) (plain-ranked f s)

still_free : (s : State) (x : RankedRow) (xs : List RankedRow) → list_all (λ y. no_elems (list_of s y.0.res)) xs ≡ true
    → list_any (λ y. same_res x.0.res y.0.res) xs ≡ false
    → list_all (λ y. no_elems (list_of (s ++ plain (ranked_list x.0.res x.0.elems x.1)) y.0.res)) xs ≡ true
still_free s x [] h a = refl
still_free s x (y ∷ xs) h a =
    let empty : list_of s y.0.res ≡ [] = no_elems-is (list_of s y.0.res) (grind (arith, h)) in
    let apart : same_res y.0.res x.0.res ≡ false =
    grind (arith, a, same_res-exact y.0.res x.0.res, same_res-itself x.0.res) in
    let here : list_of (s ++ plain (ranked_list x.0.res x.0.elems x.1)) y.0.res ≡ [] =
    list_of-append s (plain (ranked_list x.0.res x.0.elems x.1)) y.0.res
    ∙ ap (λ (l : List Elem). l ++ list_of (plain (ranked_list x.0.res x.0.elems x.1)) y.0.res) empty
    ∙ other_list y.0.res x.0.res x.0.elems x.1 apart in
    let rest : list_all (λ z. no_elems (list_of (s ++ plain (ranked_list x.0.res x.0.elems x.1)) z.0.res)) xs ≡ true =
    still_free s x xs (grind (arith, h)) (grind (arith, a)) in
    ap (λ (l : List Elem).
    no_elems l && list_all (λ z. no_elems (list_of (s ++ plain (ranked_list x.0.res x.0.elems x.1)) z.0.res)) xs)
    here
    ∙ rest

pub rows-free_more : (f g : Marking) (s after : State) (x : RankedRow) (all xs : List RankedRow) → all ≡ x ∷ xs
    → ranked_all g after ≡ ranked_all f s ++ ranked_list x.0.res x.0.elems x.1 → rows_free s all ≡ true
    → rows_free after xs ≡ true
rows-free_more f g s after x all xs so is free =
    let here : rows_free s (x ∷ xs) ≡ true = sym (ap (rows_free s) so) ∙ free in
    let rest = still_free s x xs (grind (arith, here)) (grind (arith, here)) in
    let apart : rows_apart xs ≡ true = grind (arith, here) in
    ap (λ (l : State). rows_free l xs) (after_row f g s after x.0.res x.0.elems x.1 is)
    ∙ ap (λ (b : Bool). b && rows_apart xs) rest
    ∙ apart

pub all_apart-more : (x : RankedRow) (all xs : List RankedRow) → all ≡ x ∷ xs → all_apart all ≡ true
    → all_apart xs ≡ true
all_apart-more x all xs so apart =
    let own : all_apart (x ∷ xs) ≡ true = sym (ap all_apart so) ∙ apart in grind (arith, own)

pub rows-more : (f g : Marking) (s after : State) (x : RankedRow) (all xs : List RankedRow) (zs : List Ranked)
    → all ≡ x ∷ xs → ranked_all g after ≡ ranked_all f s ++ ranked_list x.0.res x.0.elems x.1
    → ranked_all f s ++ ranked_rows all ≡ zs → ranked_all g after ++ ranked_rows xs ≡ zs
rows-more f g s after x all xs zs so is before =
    ap (λ (l : List Ranked). l ++ ranked_rows xs) is
    ∙ append_assoc (ranked_all f s) (ranked_list x.0.res x.0.elems x.1) (ranked_rows xs)
    ∙ sym (ap (λ (l : List RankedRow). ranked_all f s ++ ranked_rows l) so)
    ∙ before

-- ---- the greatest rank
pub greatest-append : (k : ℕ) (ns ms : List ℕ) → greatest k (ns ++ ms) ≡ greatest (greatest k ns) ms
greatest-append k [] ms = refl
greatest-append k (n ∷ ns) ms = greatest-append (max k n) ns ms

pub greatest-small : (k top : ℕ) (ns : List ℕ) → k ≤ top → list_all (λ n. nat_le n top) ns ≡ true → greatest k ns ≤ top
greatest-small k top [] h a = h
greatest-small k top (n ∷ ns) h a =
    let here : n ≤ top = grind (arith, nat_tests, a) in
    greatest-small (max k n) top ns (omega (arith, h, here)) (grind (arith, a))

pub ranks-more : (most next : ℕ) (x : RankedRow) (all xs : List RankedRow) (ns : List ℕ) (z : ℕ) → all ≡ x ∷ xs
    → next ≡ greatest most ns → ns ≡ x.1 → greatest most (ranks_of all) ≡ z → greatest next (ranks_of xs) ≡ z
ranks-more most next x all xs ns z so is own before =
    ap (λ (k : ℕ). greatest k (ranks_of xs)) (is ∙ ap (greatest most) own)
    ∙ sym (greatest-append most x.1 (ranks_of xs))
    ∙ sym (ap (λ (l : List RankedRow). greatest most (ranks_of l)) so)
    ∙ before

pub elements-added : (s mid after : State) (r : Res) (e : Elem) → mid ≡ s
    → after ≡ enq_state mid r e.task e.ctl RetHave false → has_task (list_of s r) e.task ≡ false
    → after ≡ s ++ (r, e) ∷ []
elements-added s mid after r e same is absent =
    is ∙ ap (λ (l : State). enq_state l r e.task e.ctl RetHave false) same ∙ append-free s r e absent

all_pass : (xs : List RankedRow) → list_all (λ x. no_elems (list_of [] x.0.res)) xs ≡ true
all_pass [] = refl
all_pass (x ∷ xs) = all_pass xs

pub rows-free_none : (s : State) (xs : List RankedRow) → s ≡ [] → rows_apart xs ≡ true → rows_free s xs ≡ true
rows-free_none s xs none apart =
    ap (λ (l : State). rows_free l xs) none ∙ ap (λ (b : Bool). b && rows_apart xs) (all_pass xs) ∙ apart

pub small-next : (n : ℕ) (ns : List ℕ) → n ≡ greatest 0 ns → list_all (λ k. nat_le k last_number) ns ≡ true
    → n + 1 < 2 ^ 64
small-next n ns is small =
    let below : greatest 0 ns ≤ last_number = greatest-small 0 last_number ns (omega arith) small in
    omega (arith, is, below)
