-- What the rows of a table are: each resource that has an element has one, with its list.
use Rattle.std.proofs.Common.{◌≡◌, Bool, true, false, cond, ◌&&◌, ◌||◌, T, List, [], ◌∷◌, ◌++◌, map, Some, None, refl}
use Rattle.std.proofs.Common.{ap, sym, ◌∙◌, subst, append_assoc}
use Rattle.std.specs.Prelude.{unwrap_or}
use Rattle.std.specs.Cmp.{IsTotalOrder}
use Rattle.std.specs.FinMap.{find, is_sorted, put}
use Rattle.std.specs.FinMap.Entries.{below_all, by_order, find-put, is_sorted-put}
use Rattle.std.specs.List.{list_any}
use Rattle.std.specs.Ordering.{eq_by_cmp, is_eq, is_lt}
use Rattle.std.specs.declared.cmp.Ordering.{Ordering}
use Rattle.std.specs.declared.cmp.Ordering.TheVariants.{Less, Equal, Greater}
use Rattle.std.proofs.lemmas.Bool.{and_parts, and_from, or_left, or_right}
use Rattle.grs_base.specs.ResOrder.{res_order}
use Rattle.grs_base.specs.Rows.{lists_from, lists_of, row_of, rows_of}
use Rattle.grs_base.specs.Same.{same_res}
use Rattle.grs_base.specs.State.{State, list_of}
use Rattle.grs_base.specs.declared.resource.Elem.{Elem}
use Rattle.grs_base.specs.declared.resource.Res.{Res}
use Rattle.grs_base.proofs.OrderLaws.{res_total, same_res-tie}
use Rattle.grs_base.proofs.SameLaws.{same_res-exact, same_res-itself}

abbrev pub Lists : Type 0
Lists = List (Res × List Elem)

-- each of these has the list of its resource
abbrev pub AreLists : State → Lists → Type 0
AreLists s [] = Unit {0}
AreLists s (e ∷ es) = (e.1 ≡ list_of s e.0) × AreLists s es

-- whether one of them is of this resource
abbrev pub is_listed : Res → Lists → Bool
is_listed r es = list_any (λ e. same_res r e.0) es

-- no resource stands twice among them
abbrev pub StandApart : Lists → Type 0
StandApart [] = Unit {0}
StandApart (e ∷ es) = (is_listed e.0 es ≡ false) × StandApart es

-- whether a resource passes, and some element of its list
abbrev pub passes : (Res → Bool) → (Elem → Bool) → Res × List Elem → Bool
passes p b e = p e.0 && list_any b e.1

-- ---- over any order of resources
module _ (R : Res → Res → Ordering) (total : IsTotalOrder R) (tie : (a b : Res) → same_res a b ≡ eq_by_cmp R a b) where
  -- the lists in s of the resources of these elements
  abbrev from : State → State → Lists
  from s [] = []
  from s (h ∷ hs) = put R h.0 (list_of s h.0) (from s hs)

  same_key : (a b : Res) → R a b ≡ Equal → a ≡ b
  same_key a b e = same_res-exact a b (tie a b ∙ ap is_eq e)

  lists-put : (s : State) (k : Res) (es : Lists) → AreLists s es → AreLists s (put R k (list_of s k) es)
  lists-put s k [] h = (refl, tt)
  lists-put s k (e ∷ es) h = go (R k e.0) refl (lists-put s k es h.1)
    where
      go : (o : Ordering) → R k e.0 ≡ o → AreLists s (put R k (list_of s k) es)
          → AreLists s (by_order o ((k, list_of s k) ∷ e ∷ es) ((e.0, list_of s k) ∷ es) (e ∷ put R k (list_of s k) es))
      go Less f more = (refl, h)
      go Equal f more = (ap (list_of s) (same_key k e.0 f), h.1)
      go Greater f more = (h.0, more)

  lists-from : (s hs : State) → AreLists s (from s hs)
  lists-from s [] = tt
  lists-from s (h ∷ hs) = lists-put s h.0 (from s hs) (lists-from s hs)

  -- ---- each once
  below-apart : (k : Res) (es : Lists) → T (below_all R k es) → is_listed k es ≡ false
  below-apart k [] h = refl
  below-apart k (e ∷ es) h = go (R k e.0) refl (below-apart k es) h
    where
      go : (o : Ordering) → R k e.0 ≡ o → (T (below_all R k es) → is_listed k es ≡ false)
          → T (is_lt o && below_all R k es) → (same_res k e.0 || is_listed k es) ≡ false
      go Less f more g = ap (λ b. b || is_listed k es) (tie k e.0 ∙ ap is_eq f) ∙ more g
      go Equal f more g = absurd g
      go Greater f more g = absurd g

  sorted-apart : (es : Lists) → T (is_sorted R es) → StandApart es
  sorted-apart [] h = tt
  sorted-apart (e ∷ es) h = go (below_all R e.0 es) refl h (sorted-apart es)
    where
      go : (b : Bool) → below_all R e.0 es ≡ b → T (b && is_sorted R es) → (T (is_sorted R es) → StandApart es)
          → StandApart (e ∷ es)
      go true f g more = (below-apart e.0 es (subst T (sym f) tt), more g)
      go false f g more = absurd g

  from-sorted : (s hs : State) → T (is_sorted R (from s hs))
  from-sorted s [] = tt
  from-sorted s (h ∷ hs) = is_sorted-put R total h.0 (list_of s h.0) (from s hs) (from-sorted s hs)

  -- ---- whether some element passes
  module _ (p : Res → Bool) (b : Elem → Bool) where
    any-put_new : (s : State) (k : Res) (es : Lists) → passes p b (k, list_of s k) ≡ true
        → list_any (passes p b) (put R k (list_of s k) es) ≡ true
    any-put_new s k [] h = or_left (passes p b (k, list_of s k)) false h
    any-put_new s k (e ∷ es) h = go (R k e.0) refl (any-put_new s k es h)
      where
        go : (o : Ordering) → R k e.0 ≡ o → list_any (passes p b) (put R k (list_of s k) es) ≡ true
            → list_any (passes p b)
            (by_order o ((k, list_of s k) ∷ e ∷ es) ((e.0, list_of s k) ∷ es) (e ∷ put R k (list_of s k) es))
            ≡ true
        go Less f more = or_left (passes p b (k, list_of s k)) (list_any (passes p b) (e ∷ es)) h
        go Equal f more =
            or_left (passes p b (e.0, list_of s k)) (list_any (passes p b) es)
            (ap (λ q. p q && list_any b (list_of s k)) (sym (same_key k e.0 f)) ∙ h)
        go Greater f more = or_right (passes p b e) (list_any (passes p b) (put R k (list_of s k) es)) more

    any-put_old : (s : State) (k : Res) (es : Lists) → AreLists s es → list_any (passes p b) es ≡ true
        → list_any (passes p b) (put R k (list_of s k) es) ≡ true
    any-put_old s k [] a h = absurd (cc)
    any-put_old s k (e ∷ es) a h = go (R k e.0) refl (any-put_old s k es a.1)
      where
        same : R k e.0 ≡ Equal → list_of s k ≡ e.1
        same f = ap (list_of s) (same_key k e.0 f) ∙ sym a.0

        by_first : (c : Bool) → passes p b e ≡ c → (c || list_any (passes p b) es) ≡ true
            → (list_any (passes p b) es ≡ true → list_any (passes p b) (put R k (list_of s k) es) ≡ true)
            → (passes p b e || list_any (passes p b) (put R k (list_of s k) es)) ≡ true
        by_first true f g more = or_left (passes p b e) (list_any (passes p b) (put R k (list_of s k) es)) f
        by_first false f g more = or_right (passes p b e) (list_any (passes p b) (put R k (list_of s k) es)) (more g)

        go : (o : Ordering) → R k e.0 ≡ o
            → (list_any (passes p b) es ≡ true → list_any (passes p b) (put R k (list_of s k) es) ≡ true)
            → list_any (passes p b)
            (by_order o ((k, list_of s k) ∷ e ∷ es) ((e.0, list_of s k) ∷ es) (e ∷ put R k (list_of s k) es))
            ≡ true
        go Less f more = or_right (passes p b (k, list_of s k)) (list_any (passes p b) (e ∷ es)) h
        go Equal f more = ap (λ xs. (p e.0 && list_any b xs) || list_any (passes p b) es) (same f) ∙ h
        go Greater f more = by_first (passes p b e) refl h more

    -- an element is in the list of its resource
    any-here : (done : State) (h : Res × Elem) (todo : State) → b h.1 ≡ true
        → list_any b (list_of (done ++ h ∷ todo) h.0) ≡ true
    any-here [] h todo e =
        ap (λ c. list_any b (cond c (h.1 ∷ list_of todo h.0) (list_of todo h.0))) (same_res-itself h.0)
        ∙ or_left (b h.1) (list_any b (list_of todo h.0)) e
    any-here (x ∷ done) h todo e = go (same_res h.0 x.0) (any-here done h todo e)
      where
        go : (c : Bool) → list_any b (list_of (done ++ h ∷ todo) h.0) ≡ true
            → list_any b (cond c (x.1 ∷ list_of (done ++ h ∷ todo) h.0) (list_of (done ++ h ∷ todo) h.0)) ≡ true
        go true more = or_right (b x.1) (list_any b (list_of (done ++ h ∷ todo) h.0)) more
        go false more = more

    rows-any : (s done hs : State) → s ≡ done ++ hs → list_any (λ h. p h.0 && b h.1) hs ≡ true
        → list_any (passes p b) (from s hs) ≡ true
    rows-any s done [] at e = absurd (cc)
    rows-any s done (h ∷ hs) at e =
        go (p h.0 && b h.1) refl e (rows-any s (done ++ h ∷ []) hs (at ∙ sym (append_assoc done (h ∷ []) hs)))
      where
        go : (c : Bool) → (p h.0 && b h.1) ≡ c → (c || list_any (λ y. p y.0 && b y.1) hs) ≡ true
            → (list_any (λ y. p y.0 && b y.1) hs ≡ true → list_any (passes p b) (from s hs) ≡ true) →
            list_any (passes p b) (put R h.0 (list_of s h.0) (from s hs)) ≡ true
        go true f g more =
            let both = and_parts (p h.0) (b h.1) f in
            any-put_new s h.0 (from s hs) (and_from (p h.0) (list_any b (list_of s h.0)) both.0
            (ap (λ z. list_any b (list_of z h.0)) at ∙ any-here done h hs both.1))
        go false f g more = any-put_old s h.0 (from s hs) (lists-from s hs) (more g)

  -- ---- what is found of a resource
  find-from : (s hs : State) (q : Res)
      → unwrap_or (find R q (from s hs)) [] ≡ cond (list_any (λ h. same_res q h.0) hs) (list_of s q) []
  find-from s [] q = refl
  find-from s (h ∷ hs) q =
      ap (λ o. unwrap_or o []) (find-put R total q h.0 (list_of s h.0) (from s hs))
      ∙ (ap (λ c. unwrap_or (cond c (Some (list_of s h.0)) (find R q (from s hs))) []) (sym (tie q h.0))
      ∙ go (same_res q h.0) refl (find-from s hs q))
    where
      go : (c : Bool) → same_res q h.0 ≡ c
          → unwrap_or (find R q (from s hs)) [] ≡ cond (list_any (λ y. same_res q y.0) hs) (list_of s q) [] →
          unwrap_or (cond c (Some (list_of s h.0)) (find R q (from s hs))) []
          ≡ cond (c || list_any (λ y. same_res q y.0) hs) (list_of s q) []
      go true f more = ap (list_of s) (sym (same_res-exact q h.0 f))
      go false f more = more

  absent-find : (q : Res) (es : Lists) → is_listed q es ≡ false → find R q es ≡ None
  absent-find q [] h = refl
  absent-find q (e ∷ es) h =
      ap (λ c. cond c (Some e.1) (find R q es)) (sym (tie q e.0)) ∙ go (same_res q e.0) h (absent-find q es)
    where
      go : (c : Bool) → (c || is_listed q es) ≡ false → (is_listed q es ≡ false → find R q es ≡ None)
          → cond c (Some e.1) (find R q es) ≡ None
      go true g more = absurd (cc)
      go false g more = more g

from-is : (s hs : State) → lists_from s hs ≡ from res_order res_total same_res-tie s hs
from-is s [] = refl
from-is s (h ∷ hs) = ap (put res_order h.0 (list_of s h.0)) (from-is s hs)

-- ---- the lists of a table
pub lists-are : (s : State) → AreLists s (lists_of s)
lists-are s = subst (AreLists s) (sym (from-is s s)) (lists-from res_order res_total same_res-tie s s)

pub lists-apart : (s : State) → StandApart (lists_of s)
lists-apart s =
    subst StandApart (sym (from-is s s)) (sorted-apart res_order res_total same_res-tie
    (from res_order res_total same_res-tie s s) (from-sorted res_order res_total same_res-tie s s))

-- whether there is an element on a resource
abbrev has-on : State → Res → Bool
has-on s q = list_any (λ h. same_res q h.0) s

none-listed : (s : State) (q : Res) → has-on s q ≡ false → list_of s q ≡ []
none-listed [] q h = refl
none-listed (x ∷ s) q h = go (same_res q x.0) h (none-listed s q)
  where
    go : (c : Bool) → (c || has-on s q) ≡ false → (has-on s q ≡ false → list_of s q ≡ [])
        → cond c (x.1 ∷ list_of s q) (list_of s q) ≡ []
    go true g more = absurd (cc)
    go false g more = more g

-- what is found of a resource is its list
pub found-list : (s : State) (q : Res) → unwrap_or (find res_order q (lists_of s)) [] ≡ list_of s q
found-list s q =
    ap (λ es. unwrap_or (find res_order q es) []) (from-is s s)
    ∙ (find-from res_order res_total same_res-tie s s q ∙ go (has-on s q) refl)
  where
    go : (c : Bool) → has-on s q ≡ c → cond c (list_of s q) [] ≡ list_of s q
    go true f = refl
    go false f = sym (none-listed s q f)

pub tie-is : (a b : Res) → eq_by_cmp res_order a b ≡ same_res a b
tie-is a b = sym (same_res-tie a b)

-- ---- whether some element of a table passes, on a resource that does
pub any-list : (p : Res → Bool) (b : Elem → Bool) (s : State) (r : Res) → p r ≡ true → list_any b (list_of s r) ≡ true
    → list_any (λ h. p h.0 && b h.1) s ≡ true
any-list p b [] r h e = absurd (cc)
any-list p b (x ∷ s) r h e = go (same_res r x.0) refl e (any-list p b s r h)
  where
    here : (c : Bool) → b x.1 ≡ c → p x.0 ≡ true → (c || list_any b (list_of s r)) ≡ true
        → (list_any b (list_of s r) ≡ true → list_any (λ y. p y.0 && b y.1) s ≡ true)
        → ((p x.0 && b x.1) || list_any (λ y. p y.0 && b y.1) s) ≡ true
    here true f k g more = or_left (p x.0 && b x.1) (list_any (λ y. p y.0 && b y.1) s) (and_from (p x.0) (b x.1) k f)
    here false f k g more = or_right (p x.0 && b x.1) (list_any (λ y. p y.0 && b y.1) s) (more g)

    go : (c : Bool) → same_res r x.0 ≡ c → list_any b (cond c (x.1 ∷ list_of s r) (list_of s r)) ≡ true
        → (list_any b (list_of s r) ≡ true → list_any (λ y. p y.0 && b y.1) s ≡ true)
        → ((p x.0 && b x.1) || list_any (λ y. p y.0 && b y.1) s) ≡ true
    go true f g more = here (b x.1) refl (ap p (sym (same_res-exact r x.0 f)) ∙ h) g more
    go false f g more = or_right (p x.0 && b x.1) (list_any (λ y. p y.0 && b y.1) s) (more g)

any-lists : (p : Res → Bool) (b : Elem → Bool) (s : State) (es : Lists) → AreLists s es
    → list_any (passes p b) es ≡ true → list_any (λ h. p h.0 && b h.1) s ≡ true
any-lists p b s [] a h = absurd (cc)
any-lists p b s (e ∷ es) a h = go (passes p b e) refl h (any-lists p b s es a.1)
  where
    go : (c : Bool) → passes p b e ≡ c → (c || list_any (passes p b) es) ≡ true
        → (list_any (passes p b) es ≡ true → list_any (λ y. p y.0 && b y.1) s ≡ true)
        → list_any (λ y. p y.0 && b y.1) s ≡ true
    go true f g more =
        let both = and_parts (p e.0) (list_any b e.1) f in
        any-list p b s e.0 both.0 (ap (list_any b) (sym a.0) ∙ both.1)
    go false f g more = more g

any-rows : (p : Res → Bool) (b : Elem → Bool) (es : Lists)
    → list_any (λ x. p x.res && list_any b x.elems) (map row_of es) ≡ list_any (passes p b) es
any-rows p b [] = refl
any-rows p b (e ∷ es) = ap (λ c. passes p b e || c) (any-rows p b es)

same_truth : (c d : Bool) → (c ≡ true → d ≡ true) → (d ≡ true → c ≡ true) → c ≡ d
same_truth true d there back = sym (there refl)
same_truth false true there back = back refl
same_truth false false there back = refl

pub rows-pass : (p : Res → Bool) (b : Elem → Bool) (s : State)
    → list_any (λ x. p x.res && list_any b x.elems) (rows_of s) ≡ list_any (λ h. p h.0 && b h.1) s
rows-pass p b s =
    any-rows p b (lists_of s) ∙ same_truth (list_any (passes p b) (lists_of s)) (list_any (λ h. p h.0 && b h.1) s)
    (any-lists p b s (lists_of s) (lists-are s))
    (λ h. ap (list_any (passes p b)) (from-is s s) ∙ rows-any res_order res_total same_res-tie p b s [] s refl h)
