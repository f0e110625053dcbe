-- A system's elements leave the lists of an entry, and who gets control by that is marked.
use Rattle.std.proofs.Common.{◌≡◌, ◌≤◌, ◌<◌, ◌+◌, ℕ, zero, suc, Bool, true, false, cond, not, ◌&&◌, List, [], ◌∷◌, ◌++◌}
use Rattle.std.proofs.Common.{length, map, take, drop, get_or, set, Option, Some, None, refl, ap, sym, ◌∙◌, subst}
use Rattle.std.proofs.Common.{arith}
use Rattle.std.specs.Prelude.{◌==◌, filter, slice_get}
use Rattle.std.specs.List.{list_all}
use Rattle.std.specs.Map.{lookup}
use Rattle.std.proofs.lemmas.Bool.{eqb-true}
use Rattle.std.proofs.lemmas.Bool.Decides.{nat_tests}
use Rattle.std.specs.Option.{option_map}
use Rattle.std.proofs.lemmas.List.Edits.{map_over_more}
use Rattle.grs_base.specs.Rows.{rows_of}
use Rattle.grs_base.specs.Same.{same_res}
use Rattle.grs_base.specs.State.{State, is_systems, remove_state}
use Rattle.grs_base.specs.declared.resource.Res.{Res}
use Rattle.grs_base.specs.declared.resource.Row.{Row}
use Rattle.grs_base.specs.declared.resource.TaskId.{TaskId}
use Rattle.grs_base.proofs.SameLaws.{same_res-exact, same_task-exact}
use Rattle.freed_owners.specs.Freed.{freed}
use Rattle.contention_mgr.specs.Elements.{holds}
use Rattle.contention_mgr.specs.Loses.{Freed, freed_lists, stays, with_freed, lost}
use Rattle.contention_mgr.specs.Manager.{Ranked, Managed, plain, with_control}
use Rattle.contention_mgr.specs.Marks.{same_spot, mark_at, mark_under, numbered_from, untold_in, is_told, ranked_all}
use Rattle.contention_mgr.specs.Marks.{AreMarked}
use Rattle.contention_mgr.specs.Removed.{is_wide, is_removed}
use Rattle.contention_mgr.specs.declared.marks.Mark.{Mark}
use Rattle.contention_mgr.specs.declared.marks.Spot.{Spot}
use Rattle.contention_mgr.proofs.ItemLemmas.{Marking, plain-ranked}
use Rattle.contention_mgr.proofs.MarkLemmas.{number-above, told-each}

-- ---- one resource more of those of which control was got
pub freed-more : (sys : ℕ) (f g : Marking) (all rest : List Freed) (one : Freed) (ts : List TaskId) (s : State)
    (zs : List Ranked) → all ≡ one ∷ rest → ts ≡ one.1 → with_freed sys all (ranked_all f s) ≡ zs
    → ranked_all g s ≡ with_control sys one.0 ts (ranked_all f s) → with_freed sys rest (ranked_all g s) ≡ zs
freed-more sys f g all rest one ts s zs is same so step =
    ap (with_freed sys rest) (step ∙ ap (λ (us : List TaskId). with_control sys one.0 us (ranked_all f s)) same)
    ∙ ap (λ (l : List Freed). with_freed sys l (ranked_all f s)) (sym is)
    ∙ so

pub freed-none : (sys : ℕ) (all : List Freed) (xs zs : List Ranked) → length all ≡ 0 → with_freed sys all xs ≡ zs
    → xs ≡ zs
freed-none sys [] xs zs none so = so
freed-none sys (f ∷ fs) xs zs none so = absurd (omega (arith, none))

-- ---- marks that go
none-either : (b : Bool) → ◌≡◌ {A = Option Mark} None (cond b None None)
none-either true = refl
none-either false = refl

spot-removed : (names : List (Res × ℕ)) (n : ℕ) (a b : Spot) → same_spot a b ≡ true
    → is_removed names n b ≡ is_removed names n a
spot-removed names n a b same =
    let number : a.number ≡ b.number = eqb-true a.number b.number (grind (arith, same)) in
    let one : a.task ≡ b.task = same_task-exact a.task b.task (grind (arith, same)) in
    ap (λ (t : TaskId). (n == t.system.0) && is_wide (slice_get names b.number)) (sym one)
    ∙ ap (λ (k : ℕ). (n == a.task.system.0) && is_wide (slice_get names k)) (sym number)

lookup-removed : (names : List (Res × ℕ)) (n : ℕ) (ms : List (Spot × Mark)) (s : Spot)
    → lookup (same_spot s) (filter (λ e. not (is_removed names n e.0)) ms)
    ≡ cond (is_removed names n s) None (lookup (same_spot s) ms)
lookup-removed names n [] s = none-either (is_removed names n s)
lookup-removed names n (e ∷ ms) s =
    grind (arith, spot-removed names n s e.0, lookup-removed names n ms s)

-- the resource of a number is the one that has it
wide-at : (j : ℕ) (es : List (Res × ℕ)) (r : Res) (k i : ℕ) → numbered_from j es ≡ true
    → lookup (same_res r) es ≡ Some k → k ≡ j + i → is_wide (slice_get es i) ≡ is_systems r
wide-at j [] r k i h e at = absurd cc
wide-at j (x ∷ es) r k i h e at =
    let behind : numbered_from (j + 1) es ≡ true = grind (arith, h) in
    go (same_res r x.0) refl i at (λ f l near. wide-at (j + 1) es r k l behind f near)
  where
    go : (b : Bool) → same_res r x.0 ≡ b → (l : ℕ) → k ≡ j + l
        → (lookup (same_res r) es ≡ Some k → (m : ℕ) → k ≡ j + 1 + m → is_wide (slice_get es m) ≡ is_systems r)
        → is_wide (slice_get (x ∷ es) l) ≡ is_systems r
    go true is zero near rest = ap is_systems (sym (same_res-exact r x.0 is))
    go true is (suc l) near rest = absurd (grind (arith, nat_tests, h, e, is, near))
    go false is zero near rest =
        let behind : numbered_from (j + 1) es ≡ true = grind (arith, h) in
        let found : lookup (same_res r) es ≡ Some k = grind (arith, e, is) in
        let above : j + 1 ≤ k = number-above (j + 1) es r k behind found in
        absurd (omega (arith, above, near))
    go false is (suc l) near rest =
        let found : lookup (same_res r) es ≡ Some k = grind (arith, e, is) in rest found l (omega (arith, near))

module _ (names : List (Res × ℕ)) (n : ℕ) (ms left : List (Spot × Mark))
    (is : left ≡ filter (λ e. not (is_removed names n e.0)) ms) where
  removed-at : (k : ℕ) (t : TaskId)
      → mark_at left k t ≡ cond (is_removed names n (record { number = k; task = t })) None (mark_at ms k t)
  removed-at k t =
      ap (lookup (same_spot (record { number = k; task = t }))) is
      ∙ lookup-removed names n ms (record { number = k; task = t })

pub removed-marks : (names : List (Res × ℕ)) (n : ℕ) (ms left : List (Spot × Mark)) → numbered_from 0 names ≡ true
    → left ≡ filter (λ e. not (is_removed names n e.0)) ms → (r : Res) (t : TaskId)
    → mark_under (mark_at left) (lookup (same_res r) names) t
    ≡ cond (is_systems r && (n == t.system.0)) None (mark_under (mark_at ms) (lookup (same_res r) names) t)
removed-marks names n ms left h is r t = go (lookup (same_res r) names) refl
  where
    flip : (a b : Bool) → (a && b) ≡ (b && a)
    flip true true = refl
    flip true false = refl
    flip false true = refl
    flip false false = refl

    go : (o : Option ℕ) → lookup (same_res r) names ≡ o
        → mark_under (mark_at left) o t ≡ cond (is_systems r && (n == t.system.0)) None (mark_under (mark_at ms) o t)
    go None e = none-either (is_systems r && (n == t.system.0))
    go (Some k) e =
        removed-at names n ms left is k t
        ∙ ap (λ (b : Bool). cond ((n == t.system.0) && b) None (mark_at ms k t))
        (wide-at 0 names r k k h e (omega arith))
        ∙ ap (λ (b : Bool). cond b None (mark_at ms k t)) (flip (n == t.system.0) (is_systems r))

pub removed-fresh : (names : List (Res × ℕ)) (n : ℕ) (ms left : List (Spot × Mark)) (m : ℕ)
    → left ≡ filter (λ e. not (is_removed names n e.0)) ms
    → ((k : ℕ) (t : TaskId) → m ≤ k → mark_at ms k t ≡ None) → (k : ℕ) (t : TaskId) → m ≤ k → mark_at left k t ≡ None
removed-fresh names n ms left m is fresh k t far =
    removed-at names n ms left is k t
    ∙ ap (λ (o : Option Mark). cond (is_removed names n (record { number = k; task = t })) None o) (fresh k t far)
    ∙ sym (none-either (is_removed names n (record { number = k; task = t })))

pub removed-told : (names : List (Res × ℕ)) (n : ℕ) (ms left : List (Spot × Mark)) (told after : Bool)
    → left ≡ filter (λ e. not (is_removed names n e.0)) ms
    → (after ≡ true → told ≡ false → list_all is_told (map (λ e. e.1) left) ≡ true)
    → (told ≡ true → (k : ℕ) (t : TaskId) → untold_in (mark_at ms k t) ≡ false)
    → after ≡ true → (k : ℕ) (t : TaskId) → untold_in (mark_at left k t) ≡ false
removed-told names n ms left false after is looked old now k t =
    told-each left (looked now refl) (record { number = k; task = t })
removed-told names n ms left true after is looked old now k t =
    ap untold_in (removed-at names n ms left is k t) ∙ go (is_removed names n (record { number = k; task = t }))
  where
    go : (b : Bool) → untold_in (cond b None (mark_at ms k t)) ≡ false
    go true = refl
    go false = old refl k t

-- ---- elements that go
pub ranked-remove : (f g : Marking) (n : ℕ)
    → ((r : Res) (t : TaskId) → g r t ≡ cond (is_systems r && (n == t.system.0)) None (f r t))
    → (s : State) → ranked_all g (remove_state s n) ≡ filter (stays n) (ranked_all f s)
ranked-remove f g n change [] = refl
ranked-remove f g n change (h ∷ hs) = grind (arith, change h.0 h.1.task, ranked-remove f g n change hs)

pub holds-remove : (s : State) (n : ℕ) (r : Res) (t : TaskId)
    → holds (remove_state s n) r t ≡ (not (is_systems r && (n == t.system.0)) && holds s r t)
holds-remove [] n r t = go (is_systems r && (n == t.system.0))
  where
    go : (b : Bool) → false ≡ (not b && false)
    go true = refl
    go false = refl
holds-remove (h ∷ hs) n r t =
    grind (arith, holds-remove hs n r t, same_res-exact r h.0, same_task-exact t h.1.task)

pub marked-remove : (f g : Marking) (n : ℕ)
    → ((r : Res) (t : TaskId) → g r t ≡ cond (is_systems r && (n == t.system.0)) None (f r t))
    → (s : State) → AreMarked f s → AreMarked g (remove_state s n)
marked-remove f g n change s are r t = grind (arith, change r t, are r t, holds-remove s n r t)

-- ---- the entry behind it
pub lose-is :
    (sys n next : ℕ) (f g h : Marking) (s after : State) (fs : List Freed) (m : Managed)
    → record { next = next; items = ranked_all f s } ≡ m → AreMarked f s → after ≡ remove_state s n
    → ((r : Res) (t : TaskId) → g r t ≡ cond (is_systems r && (n == t.system.0)) None (f r t))
    → fs ≡ freed_lists n (plain m.items)
    → ((l : State) → AreMarked g l → (ranked_all h l ≡ with_freed sys fs (ranked_all g l)) × AreMarked h l)
    → (record { next = next; items = ranked_all h after } ≡ lost sys n m) × AreMarked h after
lose-is sys n next f g h s after fs m view are is change freed give =
    let own : AreMarked g after = subst (AreMarked g) (sym is) (marked-remove f g n change s are) in
    let step = give after own in
    let items : ranked_all h after ≡ with_freed sys (freed_lists n (plain m.items)) (filter (stays n) m.items) =
    step.0
    ∙ ap (λ (l : State). with_freed sys fs (ranked_all g l)) is
    ∙ ap (with_freed sys fs) (ranked-remove f g n change s)
    ∙ ap (λ (l : List Ranked). with_freed sys fs (filter (stays n) l)) (ap (λ (k : Managed). k.items) view)
    ∙ ap (λ (l : List Freed). with_freed sys l (filter (stays n) m.items)) freed in (
      ap (λ (xs : List Ranked). record { next = next; items = xs }) items
          ∙ ap (λ (k : ℕ).
          record { next = k; items = with_freed sys (freed_lists n (plain m.items)) (filter (stays n) m.items) })
          (ap (λ (k : Managed). k.next) view),
      step.1,
    )

pub lost-more : (s n : ℕ) (xs ys : List (Option Managed)) (i : ℕ) (x z : Option Managed) → i < length xs
    → ys ≡ map (option_map (lost s n)) (take i xs) ++ drop i xs → x ≡ get_or ys i x → z ≡ option_map (lost s n) x
    → set ys i z ≡ map (option_map (lost s n)) (take (i + 1) xs) ++ drop (i + 1) xs
lost-more s n xs ys i x z inside before is step =
    ap (set ys i) step ∙ map_over_more (option_map (lost s n)) xs ys i x inside before is

-- the rows of an entry's table are those of its plain lists
pub rows-are : (next : ℕ) (f : Marking) (s : State) (m : Managed) (rows lent : List Row)
    → record { next = next; items = ranked_all f s } ≡ m → rows ≡ rows_of s → lent ≡ rows
    → lent ≡ rows_of (plain m.items)
rows-are next f s m rows lent view is same =
    same ∙ is ∙ ap rows_of (sym (plain-ranked f s) ∙ ap (λ (k : Managed). plain k.items) view)

pub freed-is : (n next : ℕ) (f : Marking) (s : State) (m : Managed) (rows lent : List Row)
    → record { next = next; items = ranked_all f s } ≡ m → rows ≡ rows_of s → lent ≡ rows
    → map (λ x. (x.res, freed n x.res x.elems)) lent ≡ freed_lists n (plain m.items)
freed-is n next f s m rows lent view is same =
    ap (map (λ (x : Row). (x.res, freed n x.res x.elems))) (rows-are next f s m rows lent view is same)
