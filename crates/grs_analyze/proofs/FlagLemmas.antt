-- Sets of tasks as flags.
use Rattle.std.proofs.Common.{◌≡◌, ℕ, zero, suc, Bool, true, false, ◌&&◌, ◌||◌, ◌<◌, List, [], ◌∷◌, length}
use Rattle.std.proofs.Common.{cond, get_or, ◌+◌, drop, Option, Some, refl, ap, sym, subst, ◌∙◌, arith}
use Rattle.std.specs.Prelude.{slice_get, set, filter, replicate}
use Rattle.std.specs.List.{list_any}
use Rattle.grs_base.specs.Same.{same_task}
use Rattle.grs_base.specs.declared.resource.TaskId.{TaskId}
use Rattle.grs_base.proofs.SameLaws.{same_task-exact, same_task-itself}
use Rattle.grs_analyze.specs.Greatest.{is_among}
use Rattle.grs_analyze.specs.Walk.{lesser, least_with}
use Rattle.grs_analyze.specs.Numbered.{is_flagged, flagged, is_distinct}

-- who isn't among tasks has no flag there
pub unflagged : (ts : List TaskId) (bs : List Bool) (t : TaskId) → list_any (same_task t) ts ≡ false
    → is_flagged ts bs t ≡ false
unflagged [] bs t h = refl
unflagged (u ∷ ts) [] t h = refl
unflagged (u ∷ ts) (b ∷ bs) t h = grind (arith, h, unflagged ts bs t)

-- who has a number is among tasks
pub got-among : (ts : List TaskId) (n : ℕ) (t : TaskId) → slice_get ts n ≡ Some t → list_any (same_task t) ts ≡ true
got-among [] n t e = cc
got-among (u ∷ ts) zero t e = grind (arith, e, same_task-itself t)
got-among (u ∷ ts) (suc n) t e = grind (arith, got-among ts n t e)

-- a flag is read at the task's number
pub flag-read : (ts : List TaskId) (bs : List Bool) (n : ℕ) (t : TaskId) (d : Bool) → is_distinct ts ≡ true
    → length bs ≡ length ts → slice_get ts n ≡ Some t → get_or bs n d ≡ is_flagged ts bs t
flag-read [] bs n t d dis long e = cc
flag-read (u ∷ ts) [] n t d dis long e = absurd (omega (arith, long))
flag-read (u ∷ ts) (b ∷ bs) zero t d dis long e =
    grind (arith, e, dis, same_task-itself t, unflagged ts bs t)
flag-read (u ∷ ts) (b ∷ bs) (suc n) t d dis long e =
    grind (
      arith,
      e,
      dis,
      same_task-exact t u,
      got-among ts n t e,
      flag-read ts bs n t d (grind (arith, dis)) (omega (arith, long)) e,
    )

-- and put up there
pub flag-put : (ts : List TaskId) (bs : List Bool) (n : ℕ) (u t : TaskId) → length bs ≡ length ts
    → slice_get ts n ≡ Some u → is_flagged ts (set bs n true) t ≡ (same_task t u || is_flagged ts bs t)
flag-put [] bs n u t long e = cc
flag-put (v ∷ ts) [] n u t long e = absurd (omega (arith, long))
flag-put (v ∷ ts) (b ∷ bs) zero u t long e = grind (arith, e)
flag-put (v ∷ ts) (b ∷ bs) (suc n) u t long e = grind (arith, flag-put ts bs n u t (omega (arith, long)) e)

-- who is flagged is one of those whose flags are up
pub among-flagged : (ts : List TaskId) (bs : List Bool) (t : TaskId) → is_among (flagged ts bs) t ≡ is_flagged ts bs t
among-flagged [] bs t = refl
among-flagged (u ∷ ts) [] t = refl
among-flagged (u ∷ ts) (true ∷ bs) t = grind (arith, among-flagged ts bs t)
among-flagged (u ∷ ts) (false ∷ bs) t = grind (arith, among-flagged ts bs t)

-- all are up, or none
pub all-flagged : (ts : List TaskId) → flagged ts (replicate (length ts) true) ≡ ts
all-flagged [] = refl
all-flagged (t ∷ ts) = ap (λ (us : List TaskId). t ∷ us) (all-flagged ts)

pub none-flagged : (ts : List TaskId) (n : ℕ) (t : TaskId) → is_flagged ts (replicate n false) t ≡ false
none-flagged [] n t = refl
none-flagged (u ∷ ts) zero t = refl
none-flagged (u ∷ ts) (suc n) t = grind (arith, none-flagged ts n t)

-- flags that are up in two sets: those of the one that are up in the other
pub flagged-both : (ts : List TaskId) (new ms ks : List Bool) (q : TaskId → Bool)
    → length new ≡ length ts → length ms ≡ length ts
    → ((n : ℕ) → get_or new n false ≡ (get_or ms n false && get_or ks n false))
    → ((n : ℕ) (t : TaskId) → slice_get ts n ≡ Some t → get_or ks n false ≡ q t)
    → flagged ts new ≡ filter q (flagged ts ms)
flagged-both [] new ms ks q ln lm both is = refl
flagged-both (t ∷ ts) [] ms ks q ln lm both is = absurd (omega (arith, ln))
flagged-both (t ∷ ts) (b ∷ new) [] ks q ln lm both is = absurd (omega (arith, lm))
flagged-both (t ∷ ts) (b ∷ new) (m ∷ ms) ks q ln lm both is =
    let rest : flagged ts new ≡ filter q (flagged ts ms) =
    flagged-both ts new ms (tail ks) q (omega (arith, ln)) (omega (arith, lm))
    (λ n. both (suc n) ∙ ap (λ (k : Bool). get_or ms n false && k) (get-tail ks n))
    (λ n u e. sym (get-tail ks n) ∙ is (suc n) u e) in
    step m (q t) refl (both 0 ∙ ap (λ (k : Bool). m && k) (is 0 t refl)) rest
  where
    tail : List Bool → List Bool
    tail [] = []
    tail (x ∷ xs) = xs

    get-tail : (xs : List Bool) (n : ℕ) → get_or xs (suc n) false ≡ get_or (tail xs) n false
    get-tail [] n = refl
    get-tail (x ∷ xs) n = refl

    step : (a k : Bool) → q t ≡ k → b ≡ (a && k) → flagged ts new ≡ filter q (flagged ts ms)
        → cond b (t ∷ flagged ts new) (flagged ts new) ≡ filter q (cond a (t ∷ flagged ts ms) (flagged ts ms))
    step true true s e r = grind (arith, s, e, r)
    step true false s e r = grind (arith, s, e, r)
    step false k s e r = grind (arith, e, r)

-- the next task, whose flag is up or down
flagged-up : (ts : List TaskId) (bs : List Bool) (n : ℕ) (t : TaskId) → slice_get ts n ≡ Some t → length bs ≡ length ts
    → get_or bs n false ≡ true → flagged (drop n ts) (drop n bs) ≡ t ∷ flagged (drop (suc n) ts) (drop (suc n) bs)
flagged-up [] bs n t e l h = cc
flagged-up (u ∷ ts) [] n t e l h = absurd (omega (arith, l))
flagged-up (u ∷ ts) (b ∷ bs) zero t e l h = grind (arith, e, h)
flagged-up (u ∷ ts) (b ∷ bs) (suc n) t e l h = flagged-up ts bs n t e (omega (arith, l)) h

flagged-down : (ts : List TaskId) (bs : List Bool) (n : ℕ) → n < length ts → length bs ≡ length ts
    → get_or bs n false ≡ false → flagged (drop n ts) (drop n bs) ≡ flagged (drop (suc n) ts) (drop (suc n) bs)
flagged-down [] bs n lt l h = absurd (omega (arith, lt))
flagged-down (u ∷ ts) [] n lt l h = absurd (omega (arith, l))
flagged-down (u ∷ ts) (b ∷ bs) zero lt l h = grind (arith, h)
flagged-down (u ∷ ts) (b ∷ bs) (suc n) lt l h = flagged-down ts bs n (omega (arith, lt)) (omega (arith, l)) h

pub least-up : (o : Option TaskId) (ts : List TaskId) (bs : List Bool) (n : ℕ) (t : TaskId) → slice_get ts n ≡ Some t
    → length bs ≡ length ts → get_or bs n false ≡ true
    → least_with (Some (lesser o t)) (flagged (drop (n + 1) ts) (drop (n + 1) bs))
    ≡ least_with o (flagged (drop n ts) (drop n bs))
least-up o ts bs n t e l h =
    let next : suc n ≡ n + 1 = omega arith in
    subst (λ (k : ℕ). least_with (Some (lesser o t)) (flagged (drop k ts) (drop k bs))
    ≡ least_with o (flagged (drop n ts) (drop n bs))) next
    (sym (ap (least_with o) (flagged-up ts bs n t e l h)))

pub least-down : (o : Option TaskId) (ts : List TaskId) (bs : List Bool) (n : ℕ) → n < length ts → length bs ≡ length ts
    → get_or bs n false ≡ false
    → least_with o (flagged (drop (n + 1) ts) (drop (n + 1) bs)) ≡ least_with o (flagged (drop n ts) (drop n bs))
least-down o ts bs n lt l h =
    let next : suc n ≡ n + 1 = omega arith in
    subst (λ (k : ℕ). least_with o (flagged (drop k ts) (drop k bs))
    ≡ least_with o (flagged (drop n ts) (drop n bs))) next
    (sym (ap (least_with o) (flagged-down ts bs n lt l h)))

pub ruleset flag_steps = (flag-read, flag-put)

pub fresh-marks : (ts : List TaskId) (n : ℕ) (t : TaskId) (b : Bool) → (is_flagged ts (replicate n false) t || b) ≡ b
fresh-marks ts n t b = ap (λ (a : Bool). a || b) (none-flagged ts n t)

pub ruleset fresh = (fresh-marks, none-flagged)

pub ruleset least_steps = (least-up, least-down)
