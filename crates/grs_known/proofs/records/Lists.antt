-- The records of a task go with its elements in lists: it has one just where it has the other, and who owns there is
-- marked.
-- A request that is decided by the lists, and told of as the service tells it, keeps that.
use Rattle.std.proofs.Common.{◌≡◌, ℕ, Bool, true, false, cond, ◌&&◌, ◌||◌, List, [], ◌∷◌, ◌++◌, Option, Some, None}
use Rattle.std.proofs.Common.{refl, ap, sym, ◌∙◌, subst, arith}
use Rattle.std.specs.List.{list_any}
use Rattle.std.proofs.lemmas.Bool.{and_from, cases_Bool, or_left, or_right}
use Rattle.grs_base.specs.Lists.{can_have, decide_enq, deq_code, enq_decision, has_task, is_owner, list_after}
use Rattle.grs_base.specs.Lists.{list_without, owns, standing_of}
use Rattle.grs_base.specs.Same.{same_res, same_task}
use Rattle.grs_base.specs.State.{State, list_of, enq_code, without}
use Rattle.grs_base.specs.declared.decision.Code.{Code}
use Rattle.grs_base.specs.declared.decision.Effect.{Effect}
use Rattle.grs_base.specs.declared.decision.Effect.TheVariants.{Nothing, Append, MakeExclusive}
use Rattle.grs_base.specs.declared.decision.Standing.{Standing}
use Rattle.grs_base.specs.declared.resource.Ctl.{Ctl}
use Rattle.grs_base.specs.declared.resource.Ctl.TheVariants as ctls
use Rattle.grs_base.specs.declared.resource.Elem.{Elem}
use Rattle.grs_base.specs.declared.resource.Res.{Res}
use Rattle.grs_base.specs.declared.resource.Ret.{Ret}
use Rattle.grs_base.specs.declared.resource.TaskId.{TaskId}
use Rattle.grs_base.proofs.ListLaws.{has_task-append, has_task-exclusive, is_owner-standing}
use Rattle.grs_base.proofs.SameLaws.{same_res-exact, same_res-itself, same_task-itself, same_task-exact}
use Rattle.grs_base.proofs.StateLaws.{list_at-without, list_of-effect, only_owner, res_equality}
use Rattle.grs_wire.specs.Wants.{after_want, new_owners, res_wanted, became_owners_of}
use Rattle.grs_wire.specs.declared.request.Want.{Want}
use Rattle.grs_wire.specs.declared.request.Want.TheVariants.{Enq, Deq, Release, Look}
use Rattle.grs_wire.proofs.WantLaws.{absent-has, list_of-want_other, speaks_of}
use Rattle.task_state.specs.Replies.{is_changed, is_granted, is_queued}
use Rattle.task_state.specs.View.{on_record, record_of, with_last, with_last_by, without_first}
use Rattle.task_state.specs.declared.state.Rec.{Rec}
use Rattle.grs_known.proofs.lists.All.{owns-has}
use Rattle.grs_known.proofs.lists.Elements.{own-want_other}
use Rattle.grs_known.proofs.lists.Facts.{list_any-push}
use Rattle.grs_known.proofs.lists.Own.{has_task-own}
use Rattle.grs_known.proofs.lists.Owners.{is_among, is_among-became}
use Rattle.grs_known.proofs.lists.Requests.{granted-deq, owns-push, queued-absent}
use Rattle.grs_known.proofs.lists.Truths.{false_by, no_truth}
use Rattle.grs_known.proofs.tasks.Decided.{enq_records}
use Rattle.grs_known.proofs.tasks.Invariant.{has_res, is_distinct}
use Rattle.grs_known.proofs.tasks.Keys.{gone-without}
use Rattle.grs_known.proofs.records.Marks.{is_marked}

-- Of the resources that pass, where these are the lists and these the records of task t.
pub record Matches (p : Res → Bool) (s : State) (t : TaskId) (xs : List Rec) : Type 0 where
  pub same : (r : Res) → p r ≡ true → has_res r xs ≡ has_task (list_of s r) t
  pub told : (r : Res) → p r ≡ true → owns (list_of s r) t ≡ true → is_marked r xs ≡ true

-- the records are as good
pub matches-records : (p : Res → Bool) (s : State) (t : TaskId) (xs ys : List Rec)
    → ((r : Res) → p r ≡ true → has_res r ys ≡ has_res r xs)
    → ((r : Res) → p r ≡ true → is_marked r xs ≡ true → is_marked r ys ≡ true) → Matches p s t xs → Matches p s t ys
matches-records p s t xs ys has marks h = record {
  same = λ r in_it. has r in_it ∙ h.same r in_it;
  told = λ r in_it own. marks r in_it (h.told r in_it own);
}

-- ---- records
-- one more, where there is none of its resource
last-of : (xs : List Rec) (y : Rec) → has_res y.res xs ≡ false → with_last xs y ≡ xs ++ y ∷ []
last-of xs y h = ap (λ o. with_last_by o xs y) (none xs y.res h)
  where
    none : (zs : List Rec) (r : Res) → has_res r zs ≡ false → record_of zs r ≡ None
    none [] r e = refl
    none (z ∷ zs) r e = grind (arith, e, none zs r)

has-push : (q : Res) (xs : List Rec) (y : Rec) → has_res q (xs ++ y ∷ []) ≡ (has_res q xs || same_res q y.res)
has-push q [] y = grind arith
has-push q (x ∷ xs) y = grind (arith, has-push q xs y)

marked-push : (q : Res) (xs : List Rec) (y : Rec)
    → is_marked q (xs ++ y ∷ []) ≡ (is_marked q xs || (same_res q y.res && y.told))
marked-push q xs y = list_any-push (λ (x : Rec). same_res q x.res && x.told) xs y

-- control made exclusive leaves both
abbrev exclusive_rec : Rec → Rec
exclusive_rec z = record z { ctl = ctls.E }

has-exclusive : (q r : Res) (xs : List Rec) → has_res q (on_record r exclusive_rec xs) ≡ has_res q xs
has-exclusive q r [] = refl
has-exclusive q r (x ∷ xs) = go (same_res r x.res) (has-exclusive q r xs)
  where
    go : (b : Bool) → has_res q (on_record r exclusive_rec xs) ≡ has_res q xs
        → has_res q (cond b (exclusive_rec x) x ∷ on_record r exclusive_rec xs) ≡ has_res q (x ∷ xs)
    go true more = ap (λ c. same_res q x.res || c) more
    go false more = ap (λ c. same_res q x.res || c) more

marked-exclusive : (q r : Res) (xs : List Rec) → is_marked q (on_record r exclusive_rec xs) ≡ is_marked q xs
marked-exclusive q r [] = refl
marked-exclusive q r (x ∷ xs) = go (same_res r x.res) (marked-exclusive q r xs)
  where
    go : (b : Bool) → is_marked q (on_record r exclusive_rec xs) ≡ is_marked q xs
        → is_marked q (cond b (exclusive_rec x) x ∷ on_record r exclusive_rec xs) ≡ is_marked q (x ∷ xs)
    go true more = ap (λ c. (same_res q x.res && x.told) || c) more
    go false more = ap (λ c. (same_res q x.res && x.told) || c) more

-- one taken out leaves those of other resources
pub has-without : (q r : Res) (xs : List Rec) → same_res q r ≡ false → has_res q (without_first xs r) ≡ has_res q xs
has-without q r [] apart = refl
has-without q r (x ∷ xs) apart =
    grind (arith, apart, has-without q r xs, same_res-exact r x.res, cases_Bool (same_res r x.res))

pub marked-without : (q r : Res) (xs : List Rec) → same_res q r ≡ false
    → is_marked q (without_first xs r) ≡ is_marked q xs
marked-without q r [] apart = refl
marked-without q r (x ∷ xs) apart =
    grind (arith, apart, marked-without q r xs, same_res-exact r x.res, cases_Bool (same_res r x.res))

-- an ENQ leaves those of other resources
pub enq-elsewhere : (q r : Res) (c : Ctl) (unit : Option ℕ) (ret : Ret) (code : Code) (n : ℕ) (xs : List Rec)
    → same_res q r ≡ false →
    (has_res q (enq_records r c unit ret code n xs) ≡ has_res q xs)
    × (is_marked q (enq_records r c unit ret code n xs) ≡ is_marked q xs)
enq-elsewhere q r c unit ret code n xs apart = go (is_queued ret code) (is_changed ret code)
  where
    new : Rec
    new = record { res = r; ctl = c; rank = 0; told = is_granted code; unit = unit; line = n }

    by_last : (o : Option Rec)
        → (has_res q (with_last_by o xs new) ≡ has_res q xs) × (is_marked q (with_last_by o xs new) ≡ is_marked q xs)
    by_last (Some y) = (refl, refl)
    by_last None = (
      has-push q xs new ∙ off (has_res q xs) (same_res q r) apart,
      marked-push q xs new ∙ off_and (is_marked q xs) (same_res q r) (is_granted code) apart,
    )
      where
        off : (a b : Bool) → b ≡ false → (a || b) ≡ a
        off true b e = refl
        off false b e = e

        off_and : (a b d : Bool) → b ≡ false → (a || (b && d)) ≡ a
        off_and true b d e = refl
        off_and false b d e = ap (λ z. z && d) e

    go : (a b : Bool)
        → (has_res q (cond a (with_last xs new) (cond b (on_record r exclusive_rec xs) xs)) ≡ has_res q xs)
        × (is_marked q (cond a (with_last xs new) (cond b (on_record r exclusive_rec xs) xs)) ≡ is_marked q xs)
    go true b = by_last (record_of xs r)
    go false true = (has-exclusive q r xs, marked-exclusive q r xs)
    go false false = (refl, refl)

-- ---- lists
has-gone : (es : List Elem) (t : TaskId) → has_task (list_without es t) t ≡ false
has-gone [] t = refl
has-gone (e ∷ es) t = grind (arith, has-gone es t, cases_Bool (same_task t e.task))

owns-gone : (es : List Elem) (t : TaskId) → owns (list_without es t) t ≡ true → ⊥
owns-gone es t h = no_truth (has_task (list_without es t) t) (owns-has (list_without es t) t h) (has-gone es t)

has-append : (es : List Elem) (t : TaskId) (c : Ctl) → has_task (es ++ record { task = t; ctl = c } ∷ []) t ≡ true
has-append es t c =
    has_task-append es (record { task = t; ctl = c } ∷ []) t
    ∙ or_right (has_task es t) (same_task t t || false) (or_left (same_task t t) false (same_task-itself t))

-- ---- what an ENQ tells is what it does
queued-appends : (st : Standing) (ret : Ret) (full can : Bool)
    → is_queued ret (enq_decision st ret full can).code ≡ true → (enq_decision st ret full can).effect ≡ Append
queued-appends st ret full can h = grind (arith, h)

unqueued-keeps : (st : Standing) (ret : Ret) (full can : Bool)
    → is_queued ret (enq_decision st ret full can).code ≡ false → ((enq_decision st ret full can).effect ≡ Append → ⊥)
unqueued-keeps st ret full can h e = grind (arith, h, e)

queued-granted : (st : Standing) (ret : Ret) (full can : Bool)
    → is_queued ret (enq_decision st ret full can).code ≡ true → is_granted (enq_decision st ret full can).code ≡ can
queued-granted st ret full can h = grind (arith, h)

-- a DEQ that isn't an owner's is answered otherwise
ungranted-deq : (st : Standing) (have : Bool) → is_owner st ≡ false → is_granted (deq_code st have) ≡ false
ungranted-deq st have h = grind (arith, h, cases_Bool have)

owns_shared-new : (es : List Elem) (t : TaskId) (c : Ctl) → has_task es t ≡ false
    → owns (es ++ record { task = t; ctl = c } ∷ []) t ≡ true → can_have es c ≡ true
owns_shared-new es t c none own = sym (owns-push es t c none) ∙ own

-- of one resource, and of the others
abbrev At : Res → State → TaskId → List Rec → Type 0
At r s t xs = (has_res r xs ≡ has_task (list_of s r) t) × (owns (list_of s r) t ≡ true → is_marked r xs ≡ true)

by_each : (p : Res → Bool) (r : Res) (s : State) (t : TaskId) (xs : List Rec) → At r s t xs
    → ((q : Res) → p q ≡ true → same_res q r ≡ false → At q s t xs) → Matches p s t xs
by_each p r s t xs here others = record {
  same = λ q in_q. (each q in_q (same_res q r) refl).0;
  told = λ q in_q. (each q in_q (same_res q r) refl).1;
}
  where
    each : (q : Res) → p q ≡ true → (b : Bool) → same_res q r ≡ b → At q s t xs
    each q in_q true e = subst (λ z. At z s t xs) (sym (same_res-exact q r e)) here
    each q in_q false e = others q in_q e

module _ (p : Res → Bool) (s : State) (t : TaskId) (xs : List Rec) (h : Matches p s t xs)
    (distinct : is_distinct xs ≡ true) where
  -- ---- its own request, for resource r
  module _ (r : Res) (in_r : p r ≡ true) where
    abbrev es : List Elem
    es = list_of s r

    -- of another resource nothing changes
    of-other : (w : Want) (ys : List Rec) (q : Res) → p q ≡ true → list_of (after_want s t w) q ≡ list_of s q
        → has_res q ys ≡ has_res q xs → is_marked q ys ≡ is_marked q xs →
        (has_res q ys ≡ has_task (list_of (after_want s t w) q) t)
        × (owns (list_of (after_want s t w) q) t ≡ true → is_marked q ys ≡ true)
    of-other w ys q in_q list has marks = (
      has ∙ (h.same q in_q ∙ ap (λ zs. has_task zs t) (sym list)),
      λ own. marks ∙ h.told q in_q (ap (λ zs. owns zs t) (sym list) ∙ own),
    )

    -- an ENQ
    module _ (c : Ctl) (unit : Option ℕ) (ret : Ret) (full : Bool) (n : ℕ) where
      abbrev code : Code
      code = enq_code s r t c ret full

      abbrev st : Standing
      st = standing_of (list_of s r) t

      abbrev ys : List Rec
      ys = enq_records r c unit ret (enq_code s r t c ret full) n xs

      abbrev new_rec : Rec
      new_rec = record {
        res = r;
        ctl = c;
        rank = 0;
        told = is_granted (enq_code s r t c ret full);
        unit = unit;
        line = n;
      }

      list_now : list_of (after_want s t (Enq r c ret full)) r
          ≡ list_after (list_of s r) t c (decide_enq (list_of s r) t c ret full).effect
      list_now = list_of-effect s r t c (decide_enq (list_of s r) t c ret full).effect

      -- it was queued
      module _ (queued : is_queued ret (enq_code s r t c ret full) ≡ true) where
        none : has_task (list_of s r) t ≡ false
        none = absent-has es t (queued-absent st ret full (can_have es c) queued)

        records_are : enq_records r c unit ret (enq_code s r t c ret full) n xs ≡ xs ++ new_rec ∷ []
        records_are =
            ap (λ b. cond b (with_last xs new_rec) (cond (is_changed ret code) (on_record r exclusive_rec xs) xs))
            queued
            ∙ last-of xs new_rec (h.same r in_r ∙ none)

        list_is : list_of (after_want s t (Enq r c ret full)) r ≡ list_of s r ++ record { task = t; ctl = c } ∷ []
        list_is = list_now ∙ ap (λ e. list_after es t c e) (queued-appends st ret full (can_have es c) queued)

        new-here : (has_res r ys ≡ has_task (list_of (after_want s t (Enq r c ret full)) r) t)
            × (owns (list_of (after_want s t (Enq r c ret full)) r) t ≡ true → is_marked r ys ≡ true)
        new-here = (
          ap (has_res r) records_are
              ∙ (has-push r xs new_rec
              ∙ (or_right (has_res r xs) (same_res r r) (same_res-itself r)
              ∙ sym (ap (λ zs. has_task zs t) list_is ∙ has-append es t c))),
          λ own.
              ap (is_marked r) records_are
              ∙ (marked-push r xs new_rec
              ∙ or_right (is_marked r xs)
              (same_res r r && is_granted code) (and_from (same_res r r) (is_granted code) (same_res-itself r)
              (queued-granted st ret full (can_have es c) queued
              ∙ owns_shared-new es t c none (ap (λ zs. owns zs t) (sym list_is) ∙ own)))),
        )

      -- it wasn't
      module _ (unqueued : is_queued ret (enq_code s r t c ret full) ≡ false) where
        records_same : (q : Res) → (has_res q ys ≡ has_res q xs) × (is_marked q ys ≡ is_marked q xs)
        records_same q =
            subst (λ zs. (has_res q zs ≡ has_res q xs) × (is_marked q zs ≡ is_marked q xs))
            (sym (ap (λ b. cond b (with_last xs new_rec) (cond (is_changed ret code) (on_record r exclusive_rec xs) xs))
            unqueued))
            (go (is_changed ret code))
          where
            go : (b : Bool)
                → (has_res q (cond b (on_record r exclusive_rec xs) xs) ≡ has_res q xs)
                × (is_marked q (cond b (on_record r exclusive_rec xs) xs) ≡ is_marked q xs)
            go true = (has-exclusive q r xs, marked-exclusive q r xs)
            go false = (refl, refl)

        list_same : (e : Effect) → (decide_enq (list_of s r) t c ret full).effect ≡ e
            → (has_task (list_after (list_of s r) t c e) t ≡ has_task (list_of s r) t)
            × (owns (list_after (list_of s r) t c e) t ≡ true → owns (list_of s r) t ≡ true)
        list_same Nothing is = (refl, λ own. own)
        list_same Append is = absurd (unqueued-keeps st ret full (can_have es c) unqueued is)
        list_same MakeExclusive is = (
          has_task-exclusive es t t,
          λ own. sym (is_owner-standing es t) ∙ ap is_owner (only_owner es t c ret full is),
        )

        old-here : (has_res r ys ≡ has_task (list_of (after_want s t (Enq r c ret full)) r) t)
            × (owns (list_of (after_want s t (Enq r c ret full)) r) t ≡ true → is_marked r ys ≡ true)
        old-here =
            let l = list_same (decide_enq es t c ret full).effect refl in (
              (records_same r).0 ∙ (h.same r in_r ∙ sym (ap (λ zs. has_task zs t) list_now ∙ l.0)),
              λ own. (records_same r).1 ∙ h.told r in_r (l.1 (ap (λ zs. owns zs t) (sym list_now) ∙ own)),
            )

      pub matches-enq :
          Matches p (after_want s t (Enq r c ret full)) t (enq_records r c unit ret (enq_code s r t c ret full) n xs)
      matches-enq = go (is_queued ret code) refl
        where
          go : (b : Bool) → is_queued ret (enq_code s r t c ret full) ≡ b
              → Matches p (after_want s t (Enq r c ret full)) t
              (enq_records r c unit ret (enq_code s r t c ret full) n xs)
          go true queued =
              by_each p r (after_want s t (Enq r c ret full)) t ys (new-here queued)
              (λ q in_q apart. let k = enq-elsewhere q r c unit ret code n xs apart in
              of-other (Enq r c ret full) ys q in_q (list_of-want_other s t (Enq r c ret full) q apart) k.0 k.1)
          go false unqueued =
              by_each p r (after_want s t (Enq r c ret full)) t ys (old-here unqueued)
              (λ q in_q apart. let k = records_same unqueued q in
              of-other (Enq r c ret full) ys q in_q (list_of-want_other s t (Enq r c ret full) q apart) k.0 k.1)

    -- its element is taken out
    gone-here : (z : State) → list_of z r ≡ list_without (list_of s r) t → At r z t (without_first xs r)
    gone-here z is = (
      gone-without r xs distinct ∙ sym (ap (λ es. has_task es t) is ∙ has-gone es t),
      λ own. absurd (owns-gone es t (ap (λ zs. owns zs t) (sym is) ∙ own)),
    )

    pub matches-release : Matches p (after_want s t (Release r)) t (without_first xs r)
    matches-release =
        by_each p r (after_want s t (Release r)) t (without_first xs r)
        (gone-here (after_want s t (Release r)) (list_at-without same_res res_equality s r t))
        (λ q in_q apart.
        of-other (Release r) (without_first xs r) q in_q (list_of-want_other s t (Release r) q apart)
        (has-without q r xs apart) (marked-without q r xs apart))

    pub matches-deq : (have : Bool)
        → Matches p (after_want s t (Deq r have)) t
        (cond (is_granted (deq_code (standing_of (list_of s r) t) have)) (without_first xs r) xs)
    matches-deq have = go (is_owner (standing_of es t)) refl
      where
        go : (b : Bool) → is_owner (standing_of (list_of s r) t) ≡ b
            → Matches p (cond (is_owner (standing_of (list_of s r) t)) (without same_res s r t) s) t
            (cond (is_granted (deq_code (standing_of (list_of s r) t) have)) (without_first xs r) xs)
        go true e =
            subst (λ b.
            Matches p (cond b (without same_res s r t) s) t
            (cond (is_granted (deq_code (standing_of es t) have)) (without_first xs r) xs))
            (sym e)
            (subst (λ b. Matches p (without same_res s r t) t (cond b (without_first xs r) xs))
            (sym (granted-deq (standing_of es t) have e)) matches-release)
        go false e =
            subst (λ b.
            Matches p (cond b (without same_res s r t) s) t
            (cond (is_granted (deq_code (standing_of es t) have)) (without_first xs r) xs))
            (sym e)
            (subst (λ b. Matches p s t (cond b (without_first xs r) xs)) (sym (ungranted-deq (standing_of es t) have e))
            h)

-- ---- another task's request
-- it is told where it became an owner
pub matches-other : (p : Res → Bool) (s : State) (u t : TaskId) (w : Want) (xs ys : List Rec) → same_task t u ≡ false
    → ((q : Res) → has_res q ys ≡ has_res q xs) → ((q : Res) → is_marked q xs ≡ true → is_marked q ys ≡ true) →
    ((r : Res) → res_wanted w ≡ Some r → is_among t (new_owners s u w) ≡ true → has_res r xs ≡ true
    → is_marked r ys ≡ true)
    → Matches p s t xs → Matches p (after_want s u w) t ys
matches-other p s u t w xs ys apart has marks new h = record {
  same = λ q in_q. has q ∙ (h.same q in_q ∙ same_elements q);
  told = λ q in_q own. by_old q in_q own (owns (list_of s q) t) refl (res_wanted w) refl;
}
  where
    same_elements : (q : Res) → has_task (list_of s q) t ≡ has_task (list_of (after_want s u w) q) t
    same_elements q =
        has_task-own s t q
        ∙ (ap (λ ks. list_any (λ (k : Res × Ctl). same_res q k.0) ks) (sym (own-want_other s u w t apart))
        ∙ sym (has_task-own (after_want s u w) t q))

    away : same_task u t ≡ false
    away =
        false_by (same_task u t) (λ e.
        no_truth (same_task t u) (subst (λ z. same_task z u ≡ true) (same_task-exact u t e) (same_task-itself u)) apart)

    by_old : (q : Res) → p q ≡ true → owns (list_of (after_want s u w) q) t ≡ true → (b : Bool)
        → owns (list_of s q) t ≡ b → (o : Option Res) → res_wanted w ≡ o → is_marked q ys ≡ true
    by_old q in_q own true old o wanted = marks q (h.told q in_q old)
    by_old q in_q own false old None wanted = absurd (no_truth (owns (list_of s q) t) (unwanted own) old)
      where
        unwanted : owns (list_of (after_want s u w) q) t ≡ true → owns (list_of s q) t ≡ true
        unwanted k = ap (λ zs. owns zs t) (sym (stays w wanted)) ∙ k
          where
            stays : (z : Want) → res_wanted z ≡ None → list_of (after_want s u z) q ≡ list_of s q
            stays (Enq r c ret full) e = absurd (cc)
            stays (Deq r have) e = absurd (cc)
            stays (Release r) e = absurd (cc)
            stays (Look first count f) e = refl
    by_old q in_q own false old (Some r) wanted = go (same_res q r) refl
      where
        go : (b : Bool) → same_res q r ≡ b → is_marked q ys ≡ true
        go false e =
            absurd (no_truth (owns (list_of s q) t)
            (ap (λ zs. owns zs t) (sym (list_of-want_other s u w q (elsewhere w wanted e))) ∙ own) old)
          where
            elsewhere : (z : Want) → res_wanted z ≡ Some r → same_res q r ≡ false → speaks_of z q ≡ false
            elsewhere (Enq k c ret full) f g = let same : k ≡ r = cc in ap (same_res q) same ∙ g
            elsewhere (Deq k have) f g = let same : k ≡ r = cc in ap (same_res q) same ∙ g
            elsewhere (Release k) f g = let same : k ≡ r = cc in ap (same_res q) same ∙ g
            elsewhere (Look first count f2) f g = absurd (cc)
        go true e =
            let is : q ≡ r = same_res-exact q r e in
            subst (λ z. is_marked z ys ≡ true) (sym is) (new r wanted
            (among (subst (λ z. owns (list_of s z) t ≡ false) is old)
            (subst (λ z. owns (list_of (after_want s u w) z) t ≡ true) is own))
            (subst (λ z. has_res z xs ≡ true) is
            (h.same q in_q ∙ (same_elements q ∙ owns-has (list_of (after_want s u w) q) t own))))
          where
            among : owns (list_of s r) t ≡ false → owns (list_of (after_want s u w) r) t ≡ true
                → is_among t (new_owners s u w) ≡ true
            among before after =
                subst (λ o. is_among t (became_owners_of s (after_want s u w) u o) ≡ true) (sym wanted)
                (is_among-became (list_of s r) (list_of (after_want s u w) r) u t ∙ rw (before, away, after) refl)
