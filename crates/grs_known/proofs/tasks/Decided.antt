-- A task after its own request was decided, by the reply alone.
use Rattle.std.proofs.Common.{◌≡◌, ℕ, suc, Bool, true, false, cond, not, ◌&&◌, List, [], ◌∷◌, ◌++◌, map, Option, Some}
use Rattle.std.proofs.Common.{None, ◌||◌, refl, ap, sym, ◌∙◌, subst, arith, inl, inr}
use Rattle.std.specs.Prelude.{filter, ◌⊎◌, slice_get}
use Rattle.std.specs.List.{list_any, list_all}
use Rattle.std.proofs.lemmas.Bool.{and_parts, and_from, eq-eqb, and_right, or_left, or_right}
use Rattle.std.proofs.Math.Bool.{and-true}
use Rattle.grs_base.specs.Same.{same_res, same_task}
use Rattle.grs_base.specs.declared.resource.Res.{Res}
use Rattle.grs_base.specs.declared.resource.Ctl.{Ctl}
use Rattle.grs_base.specs.declared.resource.Ctl.TheVariants as ctls
use Rattle.grs_base.specs.declared.resource.Ret.{Ret}
use Rattle.grs_base.specs.declared.resource.Ret.TheVariants.{RetNone, RetUse, RetHave, RetTest, RetChng, RetEcb}
use Rattle.grs_base.specs.declared.resource.Row.{Row}
use Rattle.grs_base.specs.declared.resource.TaskId.{TaskId}
use Rattle.grs_base.specs.declared.decision.Code.{Code}
use Rattle.grs_base.specs.declared.decision.Code.TheVariants.{C00, C04, C08, C14, C18, Wait, End}
use Rattle.grs_base.specs.declared.decision.Effect.TheVariants.{Nothing, Append, MakeExclusive}
use Rattle.grs_legal.specs.declared.meaning.Meaning.{Meaning}
use Rattle.grs_base.proofs.SameLaws.{same_res-itself, same_task-itself}
use Rattle.grs_wire.specs.declared.history.HistEntry.{HistEntry}
use Rattle.grs_wire.specs.declared.history.HistEntry.TheVariants.{Enq, Deq}
use Rattle.task_state.specs.declared.state.Asked.{Asked}
use Rattle.grs_wire.specs.declared.told.Verb.TheVariants as verbs
use Rattle.grs_wire.specs.declared.told.ToldLine.{ToldLine}
use Rattle.grs_wire.proofs.WantLaws.{by_res}
use Rattle.grs_legal.specs.Asks.{AsksEnq, AsksDeq}
use Rattle.task_state.specs.declared.state.Rec.{Rec}
use Rattle.task_state.specs.declared.state.Phase.TheVariants as phases
use Rattle.task_state.specs.View.{on_record, record_of, record_place, with_last_by, with_last, without_first, code_in}
use Rattle.task_state.specs.Replies.{is_held, is_queued, is_changed, is_granted, phase_after}
use Rattle.grs_known.specs.Items.{owns_told}
use Rattle.grs_known.specs.Past.{has_own, Fits, made_exclusive, own_by_effect, own_told, Past, after_entry}
use Rattle.grs_known.specs.Told.{entry_of_line, queued_last, tells_control, is_code_of, is_post_of}
use Rattle.grs_known.proofs.tasks.Invariant.{Each, key, has_res, is_distinct, IsEntryOn, IsEcb, IsRec, IsDue, IsTask}
use Rattle.grs_known.proofs.tasks.Invariant.{is_post_before}
use Rattle.grs_known.proofs.tasks.Keys.{has_res-own, has_own-other, has_own-exclusive, keys-push, distinct-push}
use Rattle.grs_known.proofs.tasks.Keys.{keys-exclusive, distinct-on_record, keys-without, distinct-without}
use Rattle.grs_known.proofs.tasks.Keys.{other-without, each-without, each-push, each-exclusive}
use Rattle.grs_known.proofs.tasks.Asked.{told_after, unposted-new, Asks, recs-asked, of_new_line, latest_new}
use Rattle.grs_known.proofs.tasks.Asked.{task-asked}
use Rattle.grs_known.proofs.lists.Truths.{no_truth, false_by}
use Rattle.grs_known.proofs.lists.Facts.{list_any-push, any-last, none-more}

-- a task without a record of a resource gets one
unrecorded : (xs : List Rec) (r : Res) → has_res r xs ≡ false → record_of xs r ≡ None
unrecorded [] r e = refl
unrecorded (y ∷ ys) r e = go (same_res r y.res) e (unrecorded ys r)
  where
    go : (b : Bool) → (b || has_res r ys) ≡ false → (has_res r ys ≡ false → record_of ys r ≡ None)
        → slice_get (y ∷ ys) (cond b 0 (suc (record_place ys r))) ≡ None
    go true f k = absurd (cc)
    go false f k = k f

-- the records of a task after an ENQ was answered
abbrev pub enq_records : Res → Ctl → Option ℕ → Ret → Code → ℕ → List Rec → List Rec
enq_records r c unit ret code line xs =
    cond (is_queued ret code)
    (with_last xs (record { res = r; ctl = c; rank = 0; told = is_granted code; unit = unit; line = line }))
    (cond (is_changed ret code) (on_record r (λ z. record z { ctl = ctls.E }) xs) xs)

-- control that was granted is told by the line
control_told : (ls : List Meaning) (E : List HistEntry) (T : List ToldLine) (t : TaskId) (r : Res) (k : ℕ) (code : Code)
    → is_granted code ≡ true → queued_last ls E r k ≡ true
    → list_any (tells_control t ls E r) (told_after T t k verbs.Enq code) ≡ true
control_told ls E T t r k C00 g latest =
    any-last (tells_control t ls E r) T _ (and_from (same_task t t) _ (same_task-itself t) latest)
control_told ls E T t r k C04 g latest = cc
control_told ls E T t r k C08 g latest = cc
control_told ls E T t r k C14 g latest = cc
control_told ls E T t r k C18 g latest = cc
control_told ls E T t r k Wait g latest = cc
control_told ls E T t r k (End n) g latest = cc

-- where an element was queued without control, its task is held, or its ECB is posted later
due_new :
    (ls : List Meaning) (E : List HistEntry) (T : List ToldLine) (t : TaskId) (r : Res) (c : Ctl) (k : ℕ) (ret : Ret)
    (code : Code)
    → entry_of_line ls E k ≡ Some (Enq t r c ret code) → list_all (is_post_before t k) T ≡ true
    → is_queued ret code ≡ true → is_granted code ≡ false →
    ((is_held (phase_after code) ≡ true) × (k ≡ k)) ⊎ IsDue ls E (told_after T t k verbs.Enq code) t k
due_new ls E T t r c k ret Wait at posts q g = inl (refl, refl)
due_new ls E T t r c k RetEcb C04 at posts q g = inr (record {
  ecb = subst IsEcb (sym at) (refl, refl);
  coded = any-last (is_code_of t k) T _ (grind (arith, same_task-itself t, eq-eqb k k refl));
  unposted = none-more (is_post_of t k) T _ (unposted-new t k T posts) refl;
})
due_new ls E T t r c k RetNone C04 at posts q g = absurd (cc)
due_new ls E T t r c k RetUse C04 at posts q g = absurd (cc)
due_new ls E T t r c k RetHave C04 at posts q g = absurd (cc)
due_new ls E T t r c k RetTest C04 at posts q g = absurd (cc)
due_new ls E T t r c k RetChng C04 at posts q g = absurd (cc)
due_new ls E T t r c k ret C00 at posts q g = absurd (cc)
due_new ls E T t r c k ret C08 at posts q g = absurd (grind (arith, q))
due_new ls E T t r c k ret C14 at posts q g = absurd (grind (arith, q))
due_new ls E T t r c k ret C18 at posts q g = absurd (grind (arith, q))
due_new ls E T t r c k ret (End n) at posts q g = absurd (grind (arith, q))

-- what was owned before stays so, where nothing was taken and nothing was given
pub owned_still : (a b c : Bool) → b ≡ false → c ≡ false → ((a && not b) || c) ≡ a
owned_still true b c e f = rw e refl
owned_still false b c e f = f

-- what a task owns where one of its elements is taken out it has another element of
pub owned-left : (ks : List (Res × Ctl)) (r q : Res) (b : Bool) → (b ≡ true → has_own q ks ≡ true)
    → ((b && not (same_res q r)) || false) ≡ true → has_own q (filter (λ z. not (same_res r z.0)) ks) ≡ true
owned-left ks r q b f e = go b (same_res q r) refl f e
  where
    go : (b c : Bool) → same_res q r ≡ c → (b ≡ true → has_own q ks ≡ true) → ((b && not c) || false) ≡ true
        → has_own q (filter (λ z. not (same_res r z.0)) ks) ≡ true
    go true false s f e = has_own-other q r ks s ∙ f refl
    go true true s f e = cc
    go false c s f e = cc

module _ (ls : List Meaning) (p : Past) (T : List ToldLine) (t : TaskId) (n code0 : ℕ) (xs : List Rec)
    (o : Option Asked) (ws : List Row) (l : Meaning) (r : Res) (c : Ctl) (unit : Option ℕ) (ret : Ret) (code : Code)
    (k : Asks ls p T (λ q. false) t n code0 xs o ws l (AsksEnq r c ret)) (fits : Fits p (Enq t r c ret code)) where
  abbrev enq : HistEntry
  enq = Enq t r c ret code

  abbrev new_rec : Rec
  new_rec = record { res = r; ctl = c; rank = 0; told = is_granted code; unit = unit; line = suc n }

  absent : is_queued ret code ≡ true → has_res r xs ≡ false
  absent q = has_res-own r xs p.own k.before.keys ∙ fits q

  pushed : is_queued ret code ≡ true → with_last xs new_rec ≡ xs ++ new_rec ∷ []
  pushed q = ap (λ f. with_last_by f xs new_rec) (unrecorded xs r (absent q))

  keys_new : map key (enq_records r c unit ret code (suc n) xs) ≡ own_told enq p.own
  keys_new = go (is_queued ret code) (is_changed ret code) refl
    where
      go : (a b : Bool) → is_queued ret code ≡ a
          → map key (cond a (with_last xs new_rec) (cond b (on_record r (λ z. record z { ctl = ctls.E }) xs) xs))
          ≡ own_by_effect (cond a Append (cond b MakeExclusive Nothing)) r c p.own
      go true b q = ap (map key) (pushed q) ∙ keys-push xs new_rec ∙ ap (λ ks. ks ++ (r, c) ∷ []) k.before.keys
      go false true q = keys-exclusive r xs ∙ ap (map (made_exclusive r)) k.before.keys
      go false false q = k.before.keys

  -- it owns what it owned, and what was given
  owned_new : (q : Res) → owns_told enq p.owns q ≡ true → has_own q (own_told enq p.own) ≡ true
  owned_new q o = go (is_queued ret code) (is_changed ret code) (p.owns q) (k.before.owned q) o
    where
      given : (a b : Bool) → (a && (b && false)) ≡ true → ⊥
      given true true e = absurd (cc)
      given true false e = absurd (cc)
      given false b e = absurd (cc)

      go : (a b w : Bool) → (w ≡ true → has_own q p.own ≡ true)
          → ((w && true) || (same_res q r && (is_granted code && a))) ≡ true
          → has_own q (own_by_effect (cond a Append (cond b MakeExclusive Nothing)) r c p.own) ≡ true
      go true b true f e =
          list_any-push (λ z. same_res q z.0) p.own (r, c) ∙ or_left (has_own q p.own) (same_res q r) (f refl)
      go true b false f e =
          list_any-push (λ z. same_res q z.0) p.own (r, c)
          ∙ or_right (has_own q p.own) (same_res q r) (and_parts (same_res q r) (is_granted code && true) e).0
      go false true true f e = has_own-exclusive q r p.own ∙ f refl
      go false false true f e = f refl
      go false b false f e = absurd (given (same_res q r) (is_granted code) e)

  distinct_new : is_distinct (enq_records r c unit ret code (suc n) xs) ≡ true
  distinct_new = go (is_queued ret code) (is_changed ret code) refl
    where
      go : (a b : Bool) → is_queued ret code ≡ a
          → is_distinct (cond a (with_last xs new_rec) (cond b (on_record r (λ z. record z { ctl = ctls.E }) xs) xs))
          ≡ true
      go true b q = ap is_distinct (pushed q) ∙ distinct-push xs new_rec k.before.distinct (absent q)
      go false true q = distinct-on_record (λ z. record z { ctl = ctls.E }) (λ z. refl) r xs ∙ k.before.distinct
      go false false q = k.before.distinct

  abbrev IsNew : Rec → Type 0
  IsNew =
      IsRec ls (p.asked ++ enq ∷ []) (told_after T t (suc n) verbs.Enq code) (owns_told enq p.owns) (λ q. false) t
      (suc n) (phase_after code)

  -- its records are on other resources, or nothing was queued
  apart : (q : Res) → has_res q xs ≡ true → (same_res q r && is_queued ret code) ≡ false
  apart q has = go (is_queued ret code) refl
    where
      go : (b : Bool) → is_queued ret code ≡ b → (same_res q r && b) ≡ false
      go false e = and_right (same_res q r) false refl
      go true e =
          by_res q r _ (λ same. no_truth (has_res q xs) has (ap (λ z. has_res z xs) same ∙ absent e))
          (λ other. ap (λ b. b && true) other)

  old_recs : Each IsNew xs
  old_recs =
      recs-asked ls p.asked enq t T p.owns (owns_told enq p.owns) (λ q. false) n (suc n) verbs.Enq code
      (phase_after code) xs
      (λ q has.
      owned_still (p.owns q) false _ refl (given (same_res q r) (is_granted code) (is_queued ret code) (apart q has)))
      (λ q has e. refl) apart k.before.records
    where
      given : (a b c : Bool) → (a && c) ≡ false → (a && (b && c)) ≡ false
      given true b c e = and_right b c e
      given false b c e = refl

  rec_new : is_queued ret code ≡ true → IsNew new_rec
  rec_new q =
      let at = of_new_line ls p T (λ z. false) t n code0 xs o ws l (AsksEnq r c ret) k enq in
      let latest =
      latest_new ls p T (λ z. false) t n code0 xs o ws l (AsksEnq r c ret) k enq r
      (and_from (same_res r r) _ (same_res-itself r) q) in
      let known : is_granted code ≡ owns_told enq p.owns r =
      owned (p.owns r) (same_res r r) (is_granted code) (is_queued ret code)
      (false_by (p.owns r) (λ o. no_truth (has_own r p.own) (k.before.owned r o) (fits q))) (same_res-itself r) q in
      record {
        entry = subst (IsEntryOn r) (sym at) (refl, q);
        latest = latest;
        low = omega arith;
        high = omega arith;
        known = known;
        control = λ e s. control_told ls (p.asked ++ enq ∷ []) T t r (suc n) code (known ∙ e) latest;
        due = λ g. due_new ls (p.asked ++ enq ∷ []) T t r c (suc n) ret code at k.before.posts q g;
      }
    where
      owned : (a b c d : Bool) → a ≡ false → b ≡ true → d ≡ true → c ≡ ((a && true) || (b && (c && d)))
      owned a b true d e f g = rw (e, f, g) refl
      owned a b false d e f g = rw (e, f) refl

  recs_new : Each IsNew (enq_records r c unit ret code (suc n) xs)
  recs_new = go (is_queued ret code) (is_changed ret code) refl
    where
      go : (a b : Bool) → is_queued ret code ≡ a
          → Each IsNew (cond a (with_last xs new_rec) (cond b (on_record r (λ z. record z { ctl = ctls.E }) xs) xs))
      go true b q = subst (Each IsNew) (sym (pushed q)) (each-push IsNew xs new_rec old_recs (rec_new q))
      go false true q =
          each-exclusive IsNew (λ z h. record {
            entry = h.entry;
            latest = h.latest;
            low = h.low;
            high = h.high;
            known = h.known;
            control = h.control;
            due = h.due;
          })
          r xs old_recs
      go false false q = old_recs

  -- the task after its ENQ was decided
  pub task-enq : IsTask ls (after_entry enq p) (told_after T t (suc n) verbs.Enq code) (λ q. false) t
      (record {
        line = suc n;
        phase = phase_after code;
        code = code_in (phase_after code) code0;
        records = enq_records r c unit ret code (suc n) xs;
        outstanding = o;
        rows = ws;
      })
  task-enq =
      task-asked ls p T (λ q. false) t n code0 xs o ws l (AsksEnq r c ret) k enq (own_told enq p.own)
      (owns_told enq p.owns) verbs.Enq code (enq_records r c unit ret code (suc n) xs) refl keys_new owned_new
      distinct_new recs_new

module _ (ls : List Meaning) (p : Past) (T : List ToldLine) (leaving : Res → Bool) (t : TaskId) (n code0 : ℕ)
    (xs : List Rec) (o : Option Asked) (ws : List Row) (l : Meaning) (r : Res) (have : Bool) (code : Code)
    (k : Asks ls p T leaving t n code0 xs o ws l (AsksDeq r have))
    (others : (q : Res) → same_res q r ≡ false → leaving q ≡ false) (fits : Fits p (Deq t r have code)) where
  abbrev deq : HistEntry
  deq = Deq t r have code

  recs_left : (b : Bool) → is_granted code ≡ b
      → Each (IsRec ls (p.asked ++ deq ∷ []) (told_after T t (suc n) verbs.Deq code) (owns_told deq p.owns) (λ q. false)
      t (suc n) (phase_after code))
      (cond b (without_first xs r) xs)
  recs_left true g =
      recs-asked ls p.asked deq t T p.owns (owns_told deq p.owns) leaving n (suc n) verbs.Deq code (phase_after code)
      (without_first xs r)
      (λ q has.
      owned_still (p.owns q) _ false (ap (λ b. b && is_granted code) (other-without q r xs k.before.distinct has)) refl)
      (λ q has e. others q (other-without q r xs k.before.distinct has)) (λ q has. refl)
      (each-without (IsRec ls p.asked T p.owns leaving t n phases.Ready) r xs k.before.records)
  recs_left false g =
      recs-asked ls p.asked deq t T p.owns (owns_told deq p.owns) leaving n (suc n) verbs.Deq code (phase_after code) xs
      (λ q has. owned_still (p.owns q) _ false (and_right (same_res q r) (is_granted code) g) refl)
      (λ q has e. by_res q r _ (λ same. no_truth (p.owns q) e (ap p.owns same ∙ fits g)) (λ apart. others q apart))
      (λ q has. refl) k.before.records

  keys_left : (b : Bool)
      → map key (cond b (without_first xs r) xs) ≡ cond b (filter (λ z. not (same_res r z.0)) p.own) p.own
  keys_left true = keys-without r xs k.before.distinct ∙ ap (filter (λ z. not (same_res r z.0))) k.before.keys
  keys_left false = k.before.keys

  owned_deq : (q : Res) (b : Bool) → ((p.owns q && not (same_res q r && b)) || false) ≡ true
      → has_own q (cond b (filter (λ z. not (same_res r z.0)) p.own) p.own) ≡ true
  owned_deq q true o =
      owned-left p.own r q (p.owns q) (k.before.owned q)
      (ap (λ b. (p.owns q && not b) || false) (sym (and-true (same_res q r))) ∙ o)
  owned_deq q false o =
      k.before.owned q
      (sym (owned_still (p.owns q) (same_res q r && false) false (and_right (same_res q r) false refl) refl) ∙ o)

  distinct_left : (b : Bool) → is_distinct (cond b (without_first xs r) xs) ≡ true
  distinct_left true = distinct-without r xs k.before.distinct
  distinct_left false = k.before.distinct

  -- the task after its DEQ was decided
  pub task-deq : IsTask ls (after_entry deq p) (told_after T t (suc n) verbs.Deq code) (λ q. false) t
      (record {
        line = suc n;
        phase = phase_after code;
        code = code_in (phase_after code) code0;
        records = cond (is_granted code) (without_first xs r) xs;
        outstanding = o;
        rows = ws;
      })
  task-deq =
      task-asked ls p T leaving t n code0 xs o ws l (AsksDeq r have) k deq (own_told deq p.own) (owns_told deq p.owns)
      verbs.Deq code (cond (is_granted code) (without_first xs r) xs) refl (keys_left (is_granted code))
      (λ q o. owned_deq q (is_granted code) o) (distinct_left (is_granted code)) (recs_left (is_granted code) refl)
