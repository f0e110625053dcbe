-- Whoever waits is kept away by somebody, and told once.
use Rattle.std.proofs.Common.{◌≡◌, ◌<◌, ◌-◌, ℕ, zero, suc, Bool, true, false, List, [], ◌∷◌, ◌++◌, map, length, take}
use Rattle.std.proofs.Common.{drop}
use Rattle.std.proofs.Common.{Option, Some, None, is_some, not, refl, ap, sym, ◌∙◌, arith}
use Rattle.std.specs.Prelude.{if◌then◌else◌}
use Rattle.std.specs.List.{flat_map}
use Rattle.grs_base.specs.Lists.{is_shared, shared_front, owners}
use Rattle.grs_base.specs.declared.resource.Ctl.{Ctl}
use Rattle.grs_base.specs.declared.resource.Ctl.TheVariants.{E, S}
use Rattle.grs_base.specs.declared.resource.Elem.{Elem}
use Rattle.grs_base.specs.declared.resource.Res.{Res}
use Rattle.grs_base.specs.declared.resource.Row.{Row}
use Rattle.grs_base.specs.declared.resource.TaskId.{TaskId}
use Rattle.grs_wire.specs.declared.seen.Names.{Names}
use Rattle.grs_display.specs.Rows.{row_line}
use Rattle.grs_analyze.specs.declared.analysis.Blocked.{Blocked}
use Rattle.grs_analyze.specs.Depends.{excludes}
use Rattle.grs_analyze.specs.Waits.{first_blocker, blocked, blocked_behind, waiters, blocked_in, EachWaiterIsTold}
use Rattle.grs_analyze.specs.Text.{wait_line, contended_lines, row_lines}

abbrev tasks_of_blocked : List Blocked → List TaskId
tasks_of_blocked bs = map (λ b. b.task) bs

abbrev tasks_of_elems : List Elem → List TaskId
tasks_of_elems es = map (λ e. e.task) es

-- who is kept away by somebody is told, before the others
told-one : (r : Res) (t : TaskId) (o : Option TaskId) (bs : List Blocked) → is_some o ≡ true
    → tasks_of_blocked (blocked r t o ++ bs) ≡ t ∷ tasks_of_blocked bs
told-one r t None bs h = cc
told-one r t (Some u) bs h = refl

-- what keeps sharing away keeps all away
keeps-any : (c : Ctl) (fs : List Elem) → is_some (first_blocker S fs) ≡ true → is_some (first_blocker c fs) ≡ true
keeps-any S fs h = h
keeps-any E [] h = cc
keeps-any E (f ∷ fs) h = refl

keeps-more : (c : Ctl) (fs gs : List Elem) → is_some (first_blocker c fs) ≡ true
    → is_some (first_blocker c (fs ++ gs)) ≡ true
keeps-more c [] gs h = cc
keeps-more c (f ∷ fs) gs h = by (excludes c f.ctl) h (keeps-more c fs gs)
  where
    by : (b : Bool) → is_some (if b then Some f.task else first_blocker c fs) ≡ true
        → (is_some (first_blocker c fs) ≡ true → is_some (first_blocker c (fs ++ gs)) ≡ true)
        → is_some (if b then Some f.task else first_blocker c (fs ++ gs)) ≡ true
    by true k rest = refl
    by false k rest = rest k

keeps-last : (fs : List Elem) (e : Elem) → is_shared e.ctl ≡ false → is_some (first_blocker S (fs ++ e ∷ [])) ≡ true
keeps-last [] e h = ap (λ (b : Bool). is_some (if not b then Some e.task else None)) h
keeps-last (f ∷ fs) e h = by (excludes S f.ctl) (keeps-last fs e h)
  where
    by : (b : Bool) → is_some (first_blocker S (fs ++ e ∷ [])) ≡ true
        → is_some (if b then Some f.task else first_blocker S (fs ++ e ∷ [])) ≡ true
    by true rest = refl
    by false rest = rest

told-behind : (r : Res) (fs es : List Elem) → is_some (first_blocker S fs) ≡ true
    → tasks_of_blocked (blocked_behind r fs es) ≡ tasks_of_elems es
told-behind r fs [] h = refl
told-behind r fs (e ∷ es) h =
    told-one r e.task (first_blocker e.ctl fs) (blocked_behind r (fs ++ e ∷ []) es) (keeps-any e.ctl fs h)
    ∙ ap (λ (ts : List TaskId). e.task ∷ ts) (told-behind r (fs ++ e ∷ []) es (keeps-more S fs (e ∷ []) h))

-- the first that waits behind one that shares is exclusive
told-exclusive : (r : Res) (f : Elem) (fs : List Elem) (e : Elem) (es : List Elem) → is_shared e.ctl ≡ false
    → tasks_of_blocked (blocked_behind r (f ∷ fs) (e ∷ es)) ≡ tasks_of_elems (e ∷ es)
told-exclusive r f fs e es h =
    told-one r e.task (first_blocker e.ctl (f ∷ fs)) (blocked_behind r ((f ∷ fs) ++ e ∷ []) es) (first e.ctl h)
    ∙ ap (λ (ts : List TaskId). e.task ∷ ts)
    (told-behind r ((f ∷ fs) ++ e ∷ []) es (keeps-last (f ∷ fs) e h))
  where
    first : (c : Ctl) → is_shared c ≡ false → is_some (first_blocker c (f ∷ fs)) ≡ true
    first E k = refl
    first S k = cc

told-shared : (r : Res) (f : Elem) (fs es : List Elem)
    → tasks_of_blocked (blocked_behind r (f ∷ fs) (drop (shared_front es) es))
    ≡ tasks_of_elems (drop (shared_front es) es)
told-shared r f fs [] = refl
told-shared r f fs (e ∷ es) = by (is_shared e.ctl) refl (told-shared r f fs es)
  where
    by : (b : Bool) → is_shared e.ctl ≡ b
        → tasks_of_blocked (blocked_behind r (f ∷ fs) (drop (shared_front es) es))
        ≡ tasks_of_elems (drop (shared_front es) es)
        → tasks_of_blocked (blocked_behind r (f ∷ fs) (drop (if b then suc (shared_front es) else 0) (e ∷ es)))
        ≡ tasks_of_elems (drop (if b then suc (shared_front es) else 0) (e ∷ es))
    by true h rest = rest
    by false h rest = told-exclusive r f fs e es h

told-list : (r : Res) (es : List Elem)
    → tasks_of_blocked (blocked_behind r (take (owners es) es) (drop (owners es) es))
    ≡ tasks_of_elems (drop (owners es) es)
told-list r [] = refl
told-list r (e ∷ es) = by (is_shared e.ctl) refl
  where
    by : (b : Bool) → is_shared e.ctl ≡ b
        → tasks_of_blocked
        (blocked_behind r (take (if b then suc (shared_front es) else 1) (e ∷ es))
        (drop (if b then suc (shared_front es) else 1) (e ∷ es)))
        ≡ tasks_of_elems (drop (if b then suc (shared_front es) else 1) (e ∷ es))
    by true h = told-shared r e (take (shared_front es) es) es
    by false h =
        told-behind r (e ∷ []) es
        (ap (λ (b : Bool). is_some (if not b then Some e.task else None)) h)

pub each_told : EachWaiterIsTold
each_told row = told-list row.res row.elems

length-mapped : {X Y : Type 0} (f : X → Y) (xs : List X) → length (map f xs) ≡ length xs
length-mapped f [] = refl
length-mapped f (x ∷ xs) = ap suc (length-mapped f xs)

pub length-told : (row : Row) → length (blocked_in row) ≡ length (waiters row.elems)
length-told row =
    sym (length-mapped (λ (b : Blocked). b.task) (blocked_in row)) ∙ ap length (each_told row)
    ∙ length-mapped (λ (e : Elem). e.task) (waiters row.elems)

length-dropped : {X : Type 0} (n : ℕ) (xs : List X) → length (drop n xs) ≡ length xs - n
length-dropped zero xs = omega arith
length-dropped (suc n) [] = omega arith
length-dropped (suc n) (x ∷ xs) = omega (arith, length-dropped n xs)

pub length-blocked : (row : Row) → length (blocked_in row) ≡ length row.elems - owners row.elems
length-blocked row = length-told row ∙ length-dropped (owners row.elems) row.elems

-- the lines of a list
quiet : (names : Names) (row : Row) (es : List Elem) → length es ≡ 0 → contended_lines names row es ≡ []
quiet names row [] h = refl
quiet names row (e ∷ es) h = absurd (omega (arith, h))

told : (names : Names) (row : Row) (es : List Elem) → 0 < length es
    → contended_lines names row es ≡ row_line names 65 row ++ flat_map (wait_line names) (blocked_in row)
told names row [] h = absurd (omega (arith, h))
told names row (e ∷ es) h = refl

pub row_lines-quiet : (names : Names) (row : Row) (bs : List Blocked) → bs ≡ blocked_in row → length bs ≡ 0
    → row_lines names row ≡ []
row_lines-quiet names row bs is h =
    quiet names row (waiters row.elems) (sym (length-told row) ∙ ap length (sym is) ∙ h)

pub row_lines-told : (names : Names) (row : Row) (bs : List Blocked) → bs ≡ blocked_in row → 0 < length bs
    → row_lines names row ≡ row_line names 65 row ++ flat_map (wait_line names) bs
row_lines-told names row bs is h =
    told names row (waiters row.elems) (omega (arith, h, length-told row, ap length is))
    ∙ ap (λ (xs : List Blocked). row_line names 65 row ++ flat_map (wait_line names) xs) (sym is)

-- a list's part of all that wait
pub own-part : (bs cs : List Blocked) (n : ℕ) → n ≡ length bs → take n (bs ++ cs) ≡ bs
own-part bs cs n e = ap (λ (k : ℕ). take k (bs ++ cs)) e ∙ front bs
  where
    front : (xs : List Blocked) → take (length xs) (xs ++ cs) ≡ xs
    front [] = refl
    front (x ∷ xs) = ap (λ (ys : List Blocked). x ∷ ys) (front xs)

pub others-part : (bs cs : List Blocked) (n : ℕ) → n ≡ length bs → drop n (bs ++ cs) ≡ cs
others-part bs cs n e = ap (λ (k : ℕ). drop k (bs ++ cs)) e ∙ behind bs
  where
    behind : (xs : List Blocked) → drop (length xs) (xs ++ cs) ≡ cs
    behind [] = refl
    behind (x ∷ xs) = behind xs

pub ruleset lengths = (length-blocked)

pub ruleset row_texts = (row_lines-quiet, row_lines-told)

pub ruleset row_parts = (own-part, others-part)
