-- The ranks that a table's elements get are no more than the elements, and these no more than the ENQs that were fixed.
use Rattle.grs_world.proofs.Common.{[], ◌&&◌, ◌+◌, ◌<◌, ◌==◌, ◌||◌, ◌∙◌, ◌∷◌, ◌≡◌, ◌≤◌, a_look, a_removal, after_fixed}
use Rattle.grs_world.proofs.Common.{after_want, AllAsk, an_ask, ap, are_within, arith, AsksOrRemoves, Bool, cond, Ctl}
use Rattle.grs_world.proofs.Common.{Deck, Elem, false, filter, goes_round, is_systems, length, length-append, List}
use Rattle.grs_world.proofs.Common.{list_of, lists, Managed, managed_at, map, most_systems, no_truth, None, not}
use Rattle.grs_world.proofs.Common.{part_by_table, refl, remove_state, Res, rounds, Row, rows_of, RunItem, same_res}
use Rattle.grs_world.proofs.Common.{same_res-exact, same_res-itself, same_Some, same_task, Some, standing_of, State}
use Rattle.grs_world.proofs.Common.{subst, suc, sym, SysId, TaskId, true, Want, zero, ℕ}
use Rattle.std.specs.Prelude.{max}
use Rattle.grs_known.specs.Items.{lists_from}
use Rattle.grs_base.specs.State.{after_effect, with_exclusive}
use Rattle.grs_base.specs.Rows.{lists_of, row_of}
use Rattle.grs_base.specs.Lists.{decide_enq, is_owner}
use Rattle.std.specs.List.{range_with_len}
use Rattle.contention_mgr.proofs.LoadLemmas.{greatest-append}
use Rattle.contention_mgr.specs.Loads.{greatest, loaded}
use Rattle.grs_base.specs.declared.decision.Effect.{Effect}
use Rattle.grs_base.specs.declared.decision.Effect.TheVariants.{Nothing, Append, MakeExclusive}
use Rattle.grs_node.proofs.TableParts.{table-kept}
use Rattle.lock_structure.specs.RankedRows.{ranks_of}
use Rattle.mode_migrate.proofs.Rows.{AreLists, Lists, StandApart, is_listed, lists-apart, lists-are}
use Rattle.mode_migrate.specs.Migrate.{managed_by_table, numbered_from, part_by, row_is_of, rows_in}
use Rattle.grs_world.proofs.star.Heard.{enq_count, is_enq, is_enq_want}
use Rattle.grs_wire.specs.declared.request.Want.TheVariants as wants

-- ---- the elements of rows
abbrev total : List Row → ℕ
total [] = 0
total (x ∷ xs) = length x.elems + total xs

total-filter : (p : Row → Bool) (xs : List Row) → total (filter p xs) ≤ total xs
total-filter p [] = omega arith
total-filter p (x ∷ xs) = go (p x) (total-filter p xs)
  where
    go : (b : Bool) → total (filter p xs) ≤ total xs
        → total (cond b (x ∷ filter p xs) (filter p xs)) ≤ length x.elems + total xs
    go true h = omega (arith, h)
    go false h = omega (arith, h)

-- numbers on from n, so many
range-bound : (n k b m : ℕ) → k ≤ b → n + m ≤ suc b → greatest k (range_with_len n m) ≤ b
range-bound n k b zero h l = h
range-bound n k b (suc m) h l = range-bound (n + 1) (max k n) b m (omega (arith, h, l)) (omega (arith, l))

ranks-bound : (n k b : ℕ) (xs : List Row) → k ≤ b → n + total xs ≤ suc b
    → greatest k (ranks_of (numbered_from n xs)) ≤ b
ranks-bound n k b [] h l = h
ranks-bound n k b (x ∷ xs) h l =
    let here : greatest k (range_with_len n (length x.elems)) ≤ b =
    range-bound n k b (length x.elems) h (omega (arith, l)) in
    subst (λ i. i ≤ b)
    (sym (greatest-append k (range_with_len n (length x.elems)) (ranks_of (numbered_from (n + length x.elems) xs))))
    (ranks-bound (n + length x.elems) (greatest k (range_with_len n (length x.elems))) b xs here (omega (arith, l)))

-- ---- the lists of a table have its elements, each once
abbrev sum_of : State → Lists → ℕ
sum_of t [] = 0
sum_of t (e ∷ es) = length (list_of t e.0) + sum_of t es

sum-none : (es : Lists) → sum_of [] es ≡ 0
sum-none [] = refl
sum-none (e ∷ es) = omega (arith, sum-none es)

-- one element more is of one of them at most
abbrev times : Res → Lists → ℕ
times r [] = 0
times r (e ∷ es) = cond (same_res e.0 r) 1 0 + times r es

times-none : (r : Res) (es : Lists) → is_listed r es ≡ false → times r es ≡ 0
times-none r [] h = refl
times-none r (e ∷ es) h = go (same_res e.0 r) refl (same_res r e.0) refl h (times-none r es)
  where
    go : (a : Bool) → same_res e.0 r ≡ a → (b : Bool) → same_res r e.0 ≡ b → (b || is_listed r es) ≡ false
        → (is_listed r es ≡ false → times r es ≡ 0) → cond a 1 0 + times r es ≡ 0
    go a f true g k more = absurd (cc)
    go true f false g k more =
        absurd (no_truth (same_res r e.0)
        (subst (λ q. same_res r q ≡ true) (sym (same_res-exact e.0 r f)) (same_res-itself r)) g)
    go false f false g k more = let h = more k in omega (arith, h)

times-once : (r : Res) (es : Lists) → StandApart es → times r es ≤ 1
times-once r [] h = omega arith
times-once r (e ∷ es) h = go (same_res e.0 r) refl (times-once r es h.1)
  where
    go : (a : Bool) → same_res e.0 r ≡ a → times r es ≤ 1 → cond a 1 0 + times r es ≤ 1
    go false f k = omega (arith, k)
    go true f k =
        let none : times r es ≡ 0 =
        times-none r es (subst (λ q. is_listed q es ≡ false) (same_res-exact e.0 r f) h.0) in
        omega (arith, none)

sum-more : (h : Res × Elem) (t : State) (es : Lists) → sum_of (h ∷ t) es ≡ times h.0 es + sum_of t es
sum-more h t [] = refl
sum-more h t (e ∷ es) = go (same_res e.0 h.0) (sum-more h t es)
  where
    go : (a : Bool) → sum_of (h ∷ t) es ≡ times h.0 es + sum_of t es
        → length (cond a (h.1 ∷ list_of t e.0) (list_of t e.0)) + sum_of (h ∷ t) es
        ≡ (cond a 1 0 + times h.0 es) + (length (list_of t e.0) + sum_of t es)
    go true k = omega (arith, k)
    go false k = omega (arith, k)

sum-few : (t : State) (es : Lists) → StandApart es → sum_of t es ≤ length t
sum-few [] es h = omega (arith, sum-none es)
sum-few (x ∷ t) es h = omega (arith, sum-more x t es, times-once x.0 es h, sum-few t es h)

total-sum : (t : State) (es : Lists) → AreLists t es → total (map row_of es) ≡ sum_of t es
total-sum t [] h = refl
total-sum t (e ∷ es) h = omega (arith, ap (λ (xs : List Elem). length xs) h.0, total-sum t es h.1)

total-few : (t : State) → total (rows_of t) ≤ length t
total-few t = omega (arith, total-sum t (lists_of t) (lists-are t), sum-few t (lists_of t) (lists-apart t))

-- ---- so of what a system keeps once it has changed
pub table-ranks : (entries : ℕ) → 0 < entries → (s : SysId) (t : State) → are_within most_systems t ≡ true
    → (e : ℕ) (x : Managed) → managed_at (part_by_table entries s t).manager e ≡ Some x → x.next ≤ suc (length t)
table-ranks entries some s t few e x managed =
    go (managed_by_table entries s t e) (sym (table-kept entries some s t few e) ∙ managed)
  where
    bound : greatest 0 (ranks_of (part_by entries t e)) ≤ length t
    bound =
        let a = total-filter (row_is_of entries e) (rows_of t) in
        let b = total-few t in
        ranks-bound 1 0 (length t) (rows_in entries e (rows_of t)) (omega arith) (omega (arith, a, b))

    go : (b : Bool) → cond b (Some (loaded (part_by entries t e))) None ≡ Some x → x.next ≤ suc (length t)
    go false f = absurd (cc)
    go true f =
        let same : greatest 0 (ranks_of (part_by entries t e)) + 1 ≡ x.next =
        ap (λ (m : Managed). m.next) (same_Some (loaded (part_by entries t e)) x f) in
        omega (arith, bound, same)

-- ---- the elements of all lists
length-few : {X : Type 0} (p : X → Bool) (xs : List X) → length (filter p xs) ≤ length xs
length-few p [] = omega arith
length-few p (x ∷ xs) = go (p x) (length-few p xs)
  where
    go : (b : Bool) → length (filter p xs) ≤ length xs
        → length (cond b (x ∷ filter p xs) (filter p xs)) ≤ suc (length xs)
    go true h = omega (arith, h)
    go false h = omega (arith, h)

length-maps : {X Y : Type 0} (f : X → Y) (xs : List X) → length (map f xs) ≡ length xs
length-maps f [] = refl
length-maps f (x ∷ xs) = ap suc (length-maps f xs)

exclusive-few : (s : State) (r : Res) (t : TaskId) → length (with_exclusive same_res s r t) ≡ length s
exclusive-few s r t = length-maps _ s

effect-few : (s : State) (r : Res) (t : TaskId) (c : Ctl) (e : Effect)
    → length (after_effect s r t c e) ≤ suc (length s)
effect-few s r t c Nothing = omega arith
effect-few s r t c Append = omega (arith, length-append s ((r, record { task = t; ctl = c }) ∷ []))
effect-few s r t c MakeExclusive = omega (arith, exclusive-few s r t)

gone-few : (s : State) (r : Res) (t : TaskId)
    → length (filter (λ h. not (same_res r h.0 && same_task t h.1.task)) s) ≤ length s
gone-few s r t = length-few (λ h. not (same_res r h.0 && same_task t h.1.task)) s

want-few : (s : State) (t : TaskId) (w : Want) → length (after_want s t w) ≤ cond (is_enq_want w) 1 0 + length s
want-few s t (wants.Enq r c ret full) =
    let h = effect-few s r t c (decide_enq (list_of s r) t c ret full).effect in omega (arith, h)
want-few s t (wants.Deq r have) = let h = go (is_owner (standing_of (list_of s r) t)) in omega (arith, h)
  where
    go : (b : Bool) → length (cond b (filter (λ h. not (same_res r h.0 && same_task t h.1.task)) s) s) ≤ length s
    go true = gone-few s r t
    go false = omega arith
want-few s t (wants.Release r) = let h = gone-few s r t in omega (arith, h)
want-few s t (wants.Look first count f) = omega arith

left-few : (s : State) (n : ℕ) → length (remove_state s n) ≤ length s
left-few s n = length-few (λ (h : Res × Elem). not (is_systems h.0 && (n == h.1.task.system.0))) s

lists-few : (deck : Deck) (s : State) (T : List RunItem) → AllAsk deck T
    → length (lists_from s T) ≤ enq_count T + length s
lists-few deck s [] a = omega arith
lists-few deck s (x ∷ T) a = go (is_enq x.fixed) (one a.0) (lists-few deck (after_fixed s x.fixed) T a.1)
  where
    one : AsksOrRemoves deck x → length (after_fixed s x.fixed) ≤ cond (is_enq x.fixed) 1 0 + length s
    one (a_removal target purged) =
        subst (λ f. length (after_fixed s f) ≤ cond (is_enq f) 1 0 + length s) (sym purged)
        (let h = left-few s target.0 in omega (arith, h))
    one (a_look t f looks of_deck) =
        subst (λ g. length (after_fixed s g) ≤ cond (is_enq g) 1 0 + length s) (sym looks) (omega arith)
    one (an_ask i) =
        subst (λ f. length (after_fixed s f) ≤ cond (is_enq f) 1 0 + length s) (sym i.asked)
        (want-few s i.req.task i.req.want)

    go : (b : Bool) → length (after_fixed s x.fixed) ≤ cond b 1 0 + length s
        → length (lists_from (after_fixed s x.fixed) T) ≤ enq_count T + length (after_fixed s x.fixed)
        → length (lists_from (after_fixed s x.fixed) T)
        ≤ length (cond b (x ∷ filter (λ (z : RunItem). is_enq z.fixed) T) (filter (λ (z : RunItem). is_enq z.fixed) T))
        + length s
    go true h k = omega (arith, h, k)
    go false h k = omega (arith, h, k)

rounds-few : (T : List RunItem) → enq_count (rounds T) ≤ enq_count T
rounds-few [] = omega arith
rounds-few (x ∷ T) = go (goes_round x.fixed) (is_enq x.fixed) refl (rounds-few T)
  where
    go : (a b : Bool) → is_enq x.fixed ≡ b → enq_count (rounds T) ≤ enq_count T
        → enq_count (cond a (x ∷ rounds T) (rounds T))
        ≤ length (cond b (x ∷ filter (λ (z : RunItem). is_enq z.fixed) T) (filter (λ (z : RunItem). is_enq z.fixed) T))
    go true b e h =
        subst (λ c.
        length (cond c (x ∷ filter (λ (z : RunItem). is_enq z.fixed) (rounds T))
        (filter (λ (z : RunItem). is_enq z.fixed) (rounds T)))
        ≤ length (cond b (x ∷ filter (λ (z : RunItem). is_enq z.fixed) T) (filter (λ (z : RunItem). is_enq z.fixed) T)))
        (sym e) (same b h)
      where
        same : (c : Bool) → enq_count (rounds T) ≤ enq_count T
            → length (cond c (x ∷ filter (λ (z : RunItem). is_enq z.fixed) (rounds T))
            (filter (λ (z : RunItem). is_enq z.fixed) (rounds T)))
            ≤ length (cond c (x ∷ filter (λ (z : RunItem). is_enq z.fixed) T)
            (filter (λ (z : RunItem). is_enq z.fixed) T))
        same true k = omega (arith, k)
        same false k = k
    go false true e h = omega (arith, h)
    go false false e h = h

pub table-few : (deck : Deck) (T : List RunItem) → AllAsk deck (rounds T) → length (lists (rounds T)) ≤ enq_count T
table-few deck T a = let h = lists-few deck [] (rounds T) a in let k = rounds-few T in omega (arith, h, k)
