-- Laws of numbered records: what is found, added, changed and taken out by its number is the record of its
-- resource, and the order of the others stays.
use Rattle.std.proofs.Common.{◌≡◌, ◌<◌, ◌≤◌, ◌+◌, ℕ, Bool, true, cond, List, [], ◌∷◌, ◌++◌, length, drop, Option, Some}
use Rattle.std.proofs.Common.{None, refl, ap, sym, subst, ◌∙◌, arith, length-append}
use Rattle.std.specs.Prelude.{slice_get, ◌==◌, Result, Ok, Err, IsOk, OnOk}
use Rattle.std.specs.Cmp.{nat_cmp_is}
use Rattle.std.specs.Ordering.{nat_cmp, match_ordering}
use Rattle.std.specs.declared.cmp.Ordering.TheVariants.{Greater}
use Rattle.std.specs.Map.{lookup, remove_entry, set_value, values_of}
use Rattle.std.specs.BTreeMap.{is_at, insert_entry}
use Rattle.std.proofs.lemmas.Bool.Decides.{nat_tests}
use Rattle.grs_base.specs.Same.{same_res}
use Rattle.grs_base.specs.contracts.resource.ResPartialEq.TheImpl.{eq-value}
use Rattle.grs_base.specs.declared.resource.Res.{Res}
use Rattle.grs_base.proofs.SameLaws.{same_res-exact, same_res-itself, derived_eq-same}
use Rattle.task_state.specs.declared.state.Rec.{Rec}
use Rattle.task_state.specs.Numbers.{Numbered, record_number, all_above, rises_to, all_apart, without_number, on_number}
use Rattle.task_state.specs.Numbers.{IsKept}
use Rattle.task_state.specs.View.{record_of, without_first, on_record}

-- the first record
pub first_value : (es : Numbered) (k : ℕ) (x : Rec) → slice_get es 0 ≡ Some (k, x)
    → values_of es ≡ x ∷ drop 1 (values_of es)
first_value [] k x h = cc
first_value (e ∷ es) k x h = grind (arith, h)

-- the test of a number, as maps make it
is_at-number : (k j : ℕ) → is_at (nat_cmp k) j ≡ (k == j)
is_at-number k j = grind (arith, nat_tests)

-- a number that is found is above one that all are above
found_above : (j : ℕ) (es : Numbered) (r : Res) (k : ℕ) → all_above j es ≡ true → record_number es r ≡ Some k → j < k
found_above j [] r k a h = cc
found_above j (e ∷ es) r k a h = grind (arith, nat_tests, a, h, found_above j es r k)

-- a resource's record is that of its number
pub record_at : (n : ℕ) (es : Numbered) (r : Res) (k : ℕ) → rises_to n es ≡ true → record_number es r ≡ Some k
    → lookup (is_at (nat_cmp k)) es ≡ record_of (values_of es) r
record_at n [] r k a h = cc
record_at n (e ∷ es) r k a h =
    grind (arith, nat_tests, a, h, is_at-number k e.0, found_above e.0 es r k, record_at n es r k)

pub no_record : (es : Numbered) (r : Res) → record_number es r ≡ None → record_of (values_of es) r ≡ None
no_record [] r h = refl
no_record (e ∷ es) r h = grind (arith, h, no_record es r)

pub no_number : (es : Numbered) (r : Res) → record_of (values_of es) r ≡ None → record_number es r ≡ None
no_number [] r h = refl
no_number (e ∷ es) r h = grind (arith, h, no_number es r)

-- ---- the record of a number taken out
pub removed : (k : ℕ) (es : Numbered) → remove_entry (is_at (nat_cmp k)) es ≡ without_number k es
removed k [] = refl
removed k (e ∷ es) = grind (arith, nat_tests, is_at-number k e.0, removed k es)

pub values-without : (n : ℕ) (es : Numbered) (r : Res) (k : ℕ) → rises_to n es ≡ true → record_number es r ≡ Some k
    → values_of (without_number k es) ≡ without_first (values_of es) r
values-without n [] r k a h = cc
values-without n (e ∷ es) r k a h = grind (arith, nat_tests, a, h, found_above e.0 es r k, values-without n es r k)

pub without-none : (es : Numbered) (r : Res) → record_number es r ≡ None → without_first (values_of es) r ≡ values_of es
without-none [] r h = refl
without-none (e ∷ es) r h = grind (arith, h, without-none es r)

record_number-without : (n : ℕ) (es : Numbered) (r : Res) (k : ℕ) (q : Res) → rises_to n es ≡ true → all_apart es ≡ true
    → record_number es r ≡ Some k
    → record_number (without_number k es) q ≡ cond (same_res r q) None (record_number es q)
record_number-without n [] r k q a d h = cc
record_number-without n (e ∷ es) r k q a d h =
    grind (
      arith,
      nat_tests,
      a,
      d,
      h,
      same_res-exact r e.1.res,
      same_res-exact q e.1.res,
      same_res-exact r q,
      same_res-itself r,
      found_above e.0 es r k,
      record_number-without n es r k q,
    )

none-without : (k : ℕ) (es : Numbered) (q : Res) → record_number es q ≡ None
    → record_number (without_number k es) q ≡ None
none-without k [] q h = refl
none-without k (e ∷ es) q h = grind (arith, nat_tests, h, none-without k es q)

all_above-without : (j k : ℕ) (es : Numbered) → all_above j es ≡ true → all_above j (without_number k es) ≡ true
all_above-without j k [] a = refl
all_above-without j k (e ∷ es) a = grind (arith, nat_tests, a, all_above-without j k es)

rises-without : (n k : ℕ) (es : Numbered) → rises_to n es ≡ true → rises_to n (without_number k es) ≡ true
rises-without n k [] a = refl
rises-without n k (e ∷ es) a = grind (arith, nat_tests, a, all_above-without e.0 k es, rises-without n k es)

all_apart-without : (k : ℕ) (es : Numbered) → all_apart es ≡ true → all_apart (without_number k es) ≡ true
all_apart-without k [] d = refl
all_apart-without k (e ∷ es) d = grind (arith, nat_tests, d, none-without k es e.1.res, all_apart-without k es)

length-without : (k : ℕ) (es : Numbered) → length (without_number k es) ≤ length es
length-without k [] = omega arith
length-without k (e ∷ es) = grind (arith, length-without k es)

-- ---- the record of a number changed
pub changed : (k : ℕ) (f : Rec → Rec) (es : Numbered) (x : Rec) → lookup (is_at (nat_cmp k)) es ≡ Some x
    → set_value (is_at (nat_cmp k)) es (f x) ≡ on_number k f es
changed k f [] x h = cc
changed k f (e ∷ es) x h = grind (arith, nat_tests, h, is_at-number k e.0, changed k f es x)

pub unchanged : (k : ℕ) (f : Rec → Rec) (es : Numbered) → lookup (is_at (nat_cmp k)) es ≡ None → on_number k f es ≡ es
unchanged k f [] h = refl
unchanged k f (e ∷ es) h = grind (arith, nat_tests, h, is_at-number k e.0, unchanged k f es)

pub on-none : (f : Rec → Rec) (es : Numbered) (r : Res) → record_number es r ≡ None
    → on_record r f (values_of es) ≡ values_of es
on-none f [] r h = refl
on-none f (e ∷ es) r h = grind (arith, h, on-none f es r)

pub values-on : (n : ℕ) (f : Rec → Rec) (es : Numbered) (r : Res) (k : ℕ) → rises_to n es ≡ true → all_apart es ≡ true
    → record_number es r ≡ Some k → values_of (on_number k f es) ≡ on_record r f (values_of es)
values-on n f [] r k a d h = cc
values-on n f (e ∷ es) r k a d h =
    grind (
      arith,
      nat_tests,
      a,
      d,
      h,
      same_res-exact r e.1.res,
      on-none f es r,
      found_above e.0 es r k,
      values-on n f es r k,
    )

module _ (f : Rec → Rec) (same : (x : Rec) → (f x).res ≡ x.res) where
  record_number-on : (k : ℕ) (es : Numbered) (q : Res) → record_number (on_number k f es) q ≡ record_number es q
  record_number-on k [] q = refl
  record_number-on k (e ∷ es) q = grind (arith, nat_tests, same e.1, record_number-on k es q)

  all_above-on : (j k : ℕ) (es : Numbered) → all_above j es ≡ true → all_above j (on_number k f es) ≡ true
  all_above-on j k [] a = refl
  all_above-on j k (e ∷ es) a = grind (arith, nat_tests, a, all_above-on j k es)

  rises-on : (n k : ℕ) (es : Numbered) → rises_to n es ≡ true → rises_to n (on_number k f es) ≡ true
  rises-on n k [] a = refl
  rises-on n k (e ∷ es) a = grind (arith, nat_tests, a, all_above-on e.0 k es, rises-on n k es)

  all_apart-on : (k : ℕ) (es : Numbered) → all_apart es ≡ true → all_apart (on_number k f es) ≡ true
  all_apart-on k [] d = refl
  all_apart-on k (e ∷ es) d = grind (arith, nat_tests, d, same e.1, record_number-on k es e.1.res, all_apart-on k es)

  length-on : (k : ℕ) (es : Numbered) → length (on_number k f es) ≡ length es
  length-on k [] = refl
  length-on k (e ∷ es) = grind (arith, length-on k es)

-- ---- a record put behind the others
pub inserted_last : (n : ℕ) (es : Numbered) (x : Rec) → rises_to n es ≡ true
    → insert_entry nat_cmp es n x ≡ es ++ (n, x) ∷ []
inserted_last n [] x a = refl
inserted_last n (e ∷ es) x a =
    let below : e.0 < n = grind (arith, nat_tests, a) in
    ap (λ o. match_ordering o ((n, x) ∷ e ∷ es) ((e.0, x) ∷ es) (e ∷ insert_entry nat_cmp es n x))
    (sym (nat_cmp_is n e.0 Greater below))
    ∙ ap (λ (l : Numbered). e ∷ l) (inserted_last n es x (grind (arith, nat_tests, a)))

pub values-push : (es : Numbered) (n : ℕ) (x : Rec) → values_of (es ++ (n, x) ∷ []) ≡ values_of es ++ x ∷ []
values-push [] n x = refl
values-push (e ∷ es) n x = ap (λ (l : List Rec). e.1 ∷ l) (values-push es n x)

record_number-push : (es : Numbered) (n : ℕ) (x : Rec) (q : Res) → record_number es x.res ≡ None
    → record_number (es ++ (n, x) ∷ []) q ≡ cond (same_res x.res q) (Some n) (record_number es q)
record_number-push [] n x q h =
    grind (arith, same_res-exact q x.res, same_res-exact x.res q, same_res-itself q, same_res-itself x.res)
record_number-push (e ∷ es) n x q h =
    grind (arith, h, same_res-exact q e.1.res, same_res-exact x.res q, record_number-push es n x q)

all_above-push : (j : ℕ) (es : Numbered) (n : ℕ) (x : Rec) → j < n → all_above j es ≡ true
    → all_above j (es ++ (n, x) ∷ []) ≡ true
all_above-push j [] n x l a = grind (arith, nat_tests, l)
all_above-push j (e ∷ es) n x l a = grind (arith, nat_tests, l, a, all_above-push j es n x)

rises-push : (es : Numbered) (n : ℕ) (x : Rec) → rises_to n es ≡ true → rises_to (n + 1) (es ++ (n, x) ∷ []) ≡ true
rises-push [] n x a = grind (arith, nat_tests)
rises-push (e ∷ es) n x a = grind (arith, nat_tests, a, all_above-push e.0 es n x, rises-push es n x)

all_apart-push : (es : Numbered) (n : ℕ) (x : Rec) → record_number es x.res ≡ None → all_apart es ≡ true
    → all_apart (es ++ (n, x) ∷ []) ≡ true
all_apart-push [] n x h d = refl
all_apart-push (e ∷ es) n x h d = grind (arith, h, d, record_number-push es n x e.1.res, all_apart-push es n x)

-- ---- what is kept true
pub kept-push : (ns ms : List (Res × ℕ)) (es fs : Numbered) (n : ℕ) (x : Rec) → IsKept ns es n
    → record_of (values_of es) x.res ≡ None → length es < 0xffff_ffff → fs ≡ es ++ (n, x) ∷ []
    → ((r : Res) → lookup (same_res r) ms ≡ cond (same_res x.res r) (Some n) (lookup (same_res r) ns))
    → IsKept ms fs (n + 1)
kept-push ns ms es fs n x k none few is said =
    let absent : record_number es x.res ≡ None = no_number es x.res none in
    record {
      rising = ap (rises_to (n + 1)) is ∙ rises-push es n x k.rising;
      apart = ap all_apart is ∙ all_apart-push es n x absent k.apart;
      numbered = λ r.
          said r
          ∙ ap (cond (same_res x.res r) (Some n)) (k.numbered r)
          ∙ sym (record_number-push es n x r absent)
          ∙ ap (λ (l : Numbered). record_number l r) (sym is);
      few = grind (arith, few, is, length-append es ((n, x) ∷ []));
    }

pub kept-take : (ns ms : List (Res × ℕ)) (es fs : Numbered) (n : ℕ) (r : Res) (k : ℕ) → IsKept ns es n
    → lookup (same_res r) ns ≡ Some k → fs ≡ without_number k es
    → ((q : Res) → lookup (same_res q) ms ≡ cond (same_res r q) None (lookup (same_res q) ns)) → IsKept ms fs n
kept-take ns ms es fs n r k kept found is said =
    let there : record_number es r ≡ Some k = sym (kept.numbered r) ∙ found in
    record {
      rising = ap (rises_to n) is ∙ rises-without n k es kept.rising;
      apart = ap all_apart is ∙ all_apart-without k es kept.apart;
      numbered = λ q.
          said q
          ∙ ap (cond (same_res r q) None) (kept.numbered q)
          ∙ sym (record_number-without n es r k q kept.rising kept.apart there)
          ∙ ap (λ (l : Numbered). record_number l q) (sym is);
      few = grind (arith, is, kept.few, length-without k es);
    }

pub kept-on : (ns : List (Res × ℕ)) (es fs : Numbered) (n k : ℕ) (f : Rec → Rec) → ((x : Rec) → (f x).res ≡ x.res)
    → IsKept ns es n → fs ≡ on_number k f es → IsKept ns fs n
kept-on ns es fs n k f same kept is = record {
  rising = ap (rises_to n) is ∙ rises-on f same n k es kept.rising;
  apart = ap all_apart is ∙ all_apart-on f same k es kept.apart;
  numbered = λ q.
      kept.numbered q ∙ sym (record_number-on f same k es q) ∙ ap (λ (l : Numbered). record_number l q) (sym is);
  few = grind (arith, is, kept.few, length-on f same k es);
}

-- ---- the numbers of resources
pub when_ok : {A B : Type 0} (r : Result A B) (P : Type 0) → IsOk r → OnOk r P → P
when_ok (Ok a) P i h = h
when_ok (Err b) P i h = cc

-- a change of the map that is said by the derived `==` of resources
pub by_same : (ns ms : List (Res × ℕ)) (res : Res) (w : Option ℕ)
    → ((q : Res) → lookup (eq-value.it q) ms ≡ cond (eq-value.it res q) w (lookup (eq-value.it q) ns)) → (r : Res)
    → lookup (same_res r) ms ≡ cond (same_res res r) w (lookup (same_res r) ns)
by_same ns ms res w h =
    subst (λ (f : Res → Res → Bool). (r : Res) → lookup (f r) ms ≡ cond (f res r) w (lookup (f r) ns)) derived_eq-same h

pub ruleset entries = (nat_tests, removed, inserted_last)

pub ruleset kept = (first_value, record_at, no_record, values-without, without-none, values-push, values-on, on-none)
