-- Numbers of resources, and the marks under them.
use Rattle.std.proofs.Common.{◌≡◌, ◌≤◌, ◌<◌, ◌+◌, ℕ, Bool, true, false, cond, ◌&&◌, List, [], ◌∷◌, ◌++◌, length, map}
use Rattle.std.proofs.Common.{Option, Some, None, refl, ap, sym, ◌∙◌, arith, eqb, length-append}
use Rattle.std.specs.List.{list_all}
use Rattle.std.specs.Map.{lookup}
use Rattle.std.proofs.lemmas.Bool.Decides.{nat_tests}
use Rattle.std.proofs.lemmas.Bool.{ne_eqb}
use Rattle.grs_base.specs.Same.{same_res, same_task}
use Rattle.grs_base.specs.declared.resource.Res.{Res}
use Rattle.grs_base.specs.declared.resource.TaskId.{TaskId}
use Rattle.grs_base.proofs.SameLaws.{same_res-exact, same_res-itself}
use Rattle.contention_mgr.specs.Marks.{same_spot, mark_under, numbered_from, untold_in, is_told, with_told}
use Rattle.contention_mgr.specs.declared.marks.Mark.{Mark}
use Rattle.contention_mgr.specs.declared.marks.Spot.{Spot}

abbrev Numbers : Type 0
Numbers = List (Res × ℕ)

-- a number that is found lies among those given
pub number-above : (k : ℕ) (es : Numbers) (r : Res) (n : ℕ) → numbered_from k es ≡ true
    → lookup (same_res r) es ≡ Some n → k ≤ n
number-above k [] r n h e = cc
number-above k (x ∷ es) r n h e = grind (arith, nat_tests, h, e, number-above (k + 1) es r n)

pub number-below : (k : ℕ) (es : Numbers) (r : Res) (n : ℕ) → numbered_from k es ≡ true
    → lookup (same_res r) es ≡ Some n → n < k + length es
number-below k [] r n h e = cc
number-below k (x ∷ es) r n h e = grind (arith, nat_tests, h, e, number-below (k + 1) es r n)

-- two resources of one number are one
pub number-one : (k : ℕ) (es : Numbers) (p q : Res) (n : ℕ) → numbered_from k es ≡ true
    → lookup (same_res p) es ≡ Some n → lookup (same_res q) es ≡ Some n → p ≡ q
number-one k [] p q n h e f = cc
number-one k (x ∷ es) p q n h e f =
    grind (
      arith,
      nat_tests,
      h,
      e,
      f,
      same_res-exact p x.0,
      same_res-exact q x.0,
      number-above (k + 1) es p n,
      number-above (k + 1) es q n,
      number-one (k + 1) es p q n,
    )

pub numbered-push : (k : ℕ) (es : Numbers) (r : Res) (n : ℕ) → n ≡ k + length es → numbered_from k es ≡ true
    → numbered_from k (es ++ (r, n) ∷ []) ≡ true
numbered-push k [] r n e h = grind (arith, nat_tests, e)
numbered-push k (x ∷ es) r n e h = grind (arith, nat_tests, e, h, numbered-push (k + 1) es r n)

pub lookup-push : (es : Numbers) (r p : Res) (n : ℕ)
    → lookup (same_res p) (es ++ (r, n) ∷ [])
    ≡ elim (lookup (same_res p) es) as (λ _. Option ℕ) [ Some m ↦ Some m | None ↦ cond (same_res p r) (Some n) None ]
lookup-push [] r p n = refl
lookup-push (x ∷ es) r p n = grind (arith, lookup-push es r p n)

-- a resource without a number isn't one that has a number
other_name : (es : Numbers) (p r : Res) (n : ℕ) → lookup (same_res p) es ≡ Some n → lookup (same_res r) es ≡ None
    → same_res p r ≡ false
other_name es p r n e f = grind (arith, e, f, same_res-exact p r)

-- two resources with numbers are one exactly where their numbers are
same_number : (es : Numbers) (p r : Res) (n k : ℕ) → numbered_from 0 es ≡ true → lookup (same_res p) es ≡ Some n
    → lookup (same_res r) es ≡ Some k → same_res p r ≡ eqb n k
same_number es p r n k h e f =
    grind (arith, nat_tests, e, f, same_res-exact p r, same_res-itself p, number-one 0 es p r n h e)

-- a change of the mark at a resource's number is a change of that resource's mark, and of no other
pub by_number :
    (es : Numbers) (p : Res) (n : ℕ) (t : TaskId) (w : Option Mark → Option Mark) (f g : ℕ → TaskId → Option Mark)
    → numbered_from 0 es ≡ true → lookup (same_res p) es ≡ Some n
    → ((k : ℕ) (u : TaskId) → g k u ≡ cond (eqb n k && same_task t u) (w (f k u)) (f k u))
    → (r : Res) (u : TaskId)
    → mark_under g (lookup (same_res r) es) u
    ≡ cond (same_res p r && same_task t u) (w (mark_under f (lookup (same_res r) es) u))
    (mark_under f (lookup (same_res r) es) u)
by_number es p n t w f g h e change r u = go (lookup (same_res r) es) refl
  where
    go : (o : Option ℕ) → lookup (same_res r) es ≡ o
        → mark_under g o u ≡ cond (same_res p r && same_task t u) (w (mark_under f o u)) (mark_under f o u)
    go None a = ap (λ (b : Bool). cond (b && same_task t u) (w None) None) (sym (other_name es p r n e a))
    go (Some k) a =
        change k u
        ∙ ap (λ (b : Bool). cond (b && same_task t u) (w (f k u)) (f k u)) (sym (same_number es p r n k h e a))

-- a new name has the next number and no marks yet, and the others keep theirs
module _ (es mid new : Numbers) (p q : Res) (n : ℕ) (same : mid ≡ es) (add : new ≡ mid ++ (q, n) ∷ []) (is : q ≡ p)
    (next : n ≡ length es) where
  abbrev longer : Numbers
  longer = es ++ (p, length es) ∷ []

  new-longer : new ≡ longer
  new-longer =
      add
      ∙ ap (λ (l : Numbers). l ++ (q, n) ∷ []) same
      ∙ ap (λ (r : Res). es ++ (r, n) ∷ []) is
      ∙ ap (λ (k : ℕ). es ++ (p, k) ∷ []) next

  pub numbered-named : numbered_from 0 es ≡ true → numbered_from 0 new ≡ true
  numbered-named h = ap (numbered_from 0) new-longer ∙ numbered-push 0 es p (length es) (omega arith) h

  pub fresh-named : (f : ℕ → TaskId → Option Mark) → ((k : ℕ) (t : TaskId) → length es ≤ k → f k t ≡ None)
      → (k : ℕ) (t : TaskId) → length new ≤ k → f k t ≡ None
  fresh-named f fresh k t h =
      fresh k t (omega (arith, ap (λ (l : Numbers). length l) new-longer, length-append es ((p, length es) ∷ [])))

  pub number-named : lookup (same_res p) es ≡ None → lookup (same_res p) new ≡ Some n
  number-named e =
      ap (lookup (same_res p)) new-longer
      ∙ lookup-push es p p (length es)
      ∙ got (lookup (same_res p) es) (same_res p p) e (same_res-itself p)
      ∙ ap (λ (k : ℕ). Some k) (sym next)
    where
      got : (o : Option ℕ) (b : Bool) → o ≡ None → b ≡ true
          → elim o as (λ _. Option ℕ) [ Some m ↦ Some m | None ↦ cond b (Some (length es)) None ] ≡ Some (length es)
      got None true e b = refl
      got None false e b = cc
      got (Some m) b e h = cc

  pub marks-named : (f : ℕ → TaskId → Option Mark) → lookup (same_res p) es ≡ None
      → ((k : ℕ) (t : TaskId) → length es ≤ k → f k t ≡ None)
      → (r : Res) (u : TaskId) → mark_under f (lookup (same_res r) new) u ≡ mark_under f (lookup (same_res r) es) u
  marks-named f e fresh r u =
      ap (λ (l : Numbers). mark_under f (lookup (same_res r) l) u) new-longer
      ∙ ap (λ (o : Option ℕ). mark_under f o u) (lookup-push es p r (length es))
      ∙ go (lookup (same_res r) es) (same_res r p)
    where
      go : (o : Option ℕ) (b : Bool)
          → mark_under f (elim o as (λ _. Option ℕ) [ Some m ↦ Some m | None ↦ cond b (Some (length es)) None ]) u
          ≡ mark_under f o u
      go (Some m) b = refl
      go None true = fresh (length es) u (omega arith)
      go None false = refl

-- a mark put under a number that there is leaves numbers that there aren't without marks
pub fresh-put : (es : Numbers) (p : Res) (n : ℕ) (t : TaskId) (k : Mark) (f g : ℕ → TaskId → Option Mark)
    → numbered_from 0 es ≡ true → lookup (same_res p) es ≡ Some n
    → ((j : ℕ) (u : TaskId) → g j u ≡ cond (eqb n j && same_task t u) (Some k) (f j u))
    → ((j : ℕ) (u : TaskId) → length es ≤ j → f j u ≡ None) → (j : ℕ) (u : TaskId) → length es ≤ j → g j u ≡ None
fresh-put es p n t k f g h e change fresh j u far =
    let below : n < 0 + length es = number-below 0 es p n h e in
    let apart : eqb n j ≡ false = ne_eqb n j (λ i. omega (arith, i)) in
    change j u ∙ ap (λ (b : Bool). cond (b && same_task t u) (Some k) (f j u)) apart ∙ fresh j u far

-- and so does a change of a mark that leaves it away where there is none
pub fresh-change : (m n : ℕ) (t : TaskId) (w : Option Mark → Option Mark) (f g : ℕ → TaskId → Option Mark)
    → ((k : ℕ) (u : TaskId) → g k u ≡ cond (eqb n k && same_task t u) (w (f k u)) (f k u)) → w None ≡ None
    → ((k : ℕ) (u : TaskId) → m ≤ k → f k u ≡ None) → (k : ℕ) (u : TaskId) → m ≤ k → g k u ≡ None
fresh-change m n t w f g change none fresh k u far =
    change k u
    ∙ ap (λ (o : Option Mark). cond (eqb n k && same_task t u) (w o) o) (fresh k u far)
    ∙ go (eqb n k && same_task t u)
  where
    go : (b : Bool) → cond b (w None) None ≡ None
    go true = none
    go false = refl

-- ---- who is told
-- where all marks are of tasks that are told, so is each
pub told-each : (es : List (Spot × Mark)) → list_all is_told (map (λ e. e.1) es) ≡ true → (s : Spot)
    → untold_in (lookup (same_spot s) es) ≡ false
told-each [] h s = refl
told-each (e ∷ es) h s = grind (arith, h, told-each es)

-- A change of one mark to one that is told, or to none, leaves it so; and where it wasn't so, all marks were looked at.
pub told-change :
    (told after : Bool) (n : ℕ) (t : TaskId) (w : Option Mark → Option Mark) (f : ℕ → TaskId → Option Mark)
    (es : List (Spot × Mark))
    → ((k : ℕ) (u : TaskId)
    → lookup (same_spot (record { number = k; task = u })) es ≡ cond (eqb n k && same_task t u) (w (f k u)) (f k u))
    → (after ≡ true → (o : Option Mark) → untold_in o ≡ false → untold_in (w o) ≡ false)
    → (after ≡ true → told ≡ false → list_all is_told (map (λ e. e.1) es) ≡ true)
    → (told ≡ true → (k : ℕ) (u : TaskId) → untold_in (f k u) ≡ false)
    → after ≡ true → (k : ℕ) (u : TaskId) → untold_in (lookup (same_spot (record { number = k; task = u })) es) ≡ false
told-change false after n t w f es change keeps looked old now k u =
    told-each es (looked now refl) (record { number = k; task = u })
told-change true after n t w f es change keeps looked old now k u =
    ap untold_in (change k u) ∙ go (eqb n k && same_task t u)
  where
    go : (b : Bool) → untold_in (cond b (w (f k u)) (f k u)) ≡ false
    go true = keeps now (f k u) (old refl k u)
    go false = old refl k u

-- a mark that is set to told is
pub told-set : (untold : Bool) → untold ≡ false → (o : Option Mark) → untold_in (with_told untold o) ≡ false
told-set untold h None = refl
told-set untold h (Some m) = h

pub told-put : (told : Bool) (m : Mark) → (told && is_told m) ≡ true → m.untold ≡ false
told-put told m h = grind (arith, h)

pub told-before : (told : Bool) (m : Mark) → (told && is_told m) ≡ true → told ≡ false → {P : Type 0} → P
told-before true m h k = cc
told-before false m h k = cc
