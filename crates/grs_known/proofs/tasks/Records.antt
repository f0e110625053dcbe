-- Telling a task control that it got by another's request.
use Rattle.std.proofs.Common.{◌≡◌, ℕ, suc, Bool, true, false, cond, ◌||◌, List, [], ◌∷◌, ◌++◌, map, Option, Some, None}
use Rattle.std.proofs.Common.{refl, ap, sym, ◌∙◌, subst, arith, inl, inr}
use Rattle.std.specs.Prelude.{slice_get, ◌==◌}
use Rattle.std.specs.List.{list_any}
use Rattle.std.proofs.lemmas.Bool.{and_from, eqb-true, and_right, or_right}
use Rattle.grs_base.specs.Same.{same_res, same_task}
use Rattle.grs_base.specs.declared.resource.Res.{Res}
use Rattle.grs_base.specs.declared.resource.TaskId.{TaskId}
use Rattle.grs_legal.specs.declared.meaning.Meaning.{Meaning}
use Rattle.grs_base.proofs.SameLaws.{same_res-exact, same_res-itself, same_res-sym, same_task-itself}
use Rattle.grs_wire.specs.declared.history.HistEntry.{HistEntry}
use Rattle.grs_wire.specs.declared.history.HistEntry.TheVariants.{Enq, Deq, Release, Look, Remove}
use Rattle.grs_wire.specs.declared.told.ToldLine.{ToldLine}
use Rattle.grs_wire.specs.declared.told.ToldLine.TheVariants.{Post}
use Rattle.task_state.specs.declared.state.Rec.{Rec}
use Rattle.task_state.specs.declared.state.Phase.{Phase}
use Rattle.task_state.specs.declared.state.Phase.TheVariants as phases
use Rattle.task_state.specs.View.{record_place, record_of, on_record}
use Rattle.grs_known.specs.Told.{entry_of_line, queued_last, tells_control, is_code_of, is_post_of}
use Rattle.grs_known.proofs.tasks.Invariant.{Each, key, has_res, is_distinct, IsEntryOn, IsRec, IsDue, WaitsFor, also}
use Rattle.grs_known.proofs.tasks.Keys.{keys-on_record, distinct-on_record}
use Rattle.grs_known.proofs.lists.Truths.{no_truth, false_by, or_off}
use Rattle.grs_known.proofs.lists.Facts.{any-last, any-more, none-more}

-- what is known of the record that is found
pub found : (P : Rec → Type 0) (xs : List Rec) (r : Res) (x : Rec) → Each P xs → record_of xs r ≡ Some x
    → P x × (same_res r x.res ≡ true)
found P [] r x h e = absurd (cc)
found P (y ∷ ys) r x h e = go (same_res r y.res) refl e (found P ys r x h.1)
  where
    go : (b : Bool) → same_res r y.res ≡ b → slice_get (y ∷ ys) (cond b 0 (suc (record_place ys r))) ≡ Some x
        → (record_of ys r ≡ Some x → P x × (same_res r x.res ≡ true)) → P x × (same_res r x.res ≡ true)
    go true s f more = let same : y ≡ x = cc in (subst P same h.0, ap (λ (z : Rec). same_res r z.res) (sym same) ∙ s)
    go false s f more = more f

pub found_has : (xs : List Rec) (r : Res) (x : Rec) → record_of xs r ≡ Some x → has_res r xs ≡ true
found_has [] r x e = absurd (cc)
found_has (y ∷ ys) r x e = go (same_res r y.res) e (found_has ys r x)
  where
    go : (b : Bool) → slice_get (y ∷ ys) (cond b 0 (suc (record_place ys r))) ≡ Some x
        → (record_of ys r ≡ Some x → has_res r ys ≡ true) → (b || has_res r ys) ≡ true
    go true f more = refl
    go false f more = more f

pub not_found : (xs : List Rec) (r : Res) → record_of xs r ≡ None → has_res r xs ≡ false
not_found [] r e = refl
not_found (y ∷ ys) r e = go (same_res r y.res) refl e (not_found ys r)
  where
    go : (b : Bool) → same_res r y.res ≡ b → slice_get (y ∷ ys) (cond b 0 (suc (record_place ys r))) ≡ None
        → (record_of ys r ≡ None → has_res r ys ≡ false) → has_res r (y ∷ ys) ≡ false
    go true s f more = absurd (cc)
    go false s f more = rw s (more f)

-- one entry is on one resource
one_entry : (o : Option HistEntry) (q r : Res) → IsEntryOn q o → IsEntryOn r o → q ≡ r
one_entry None q r a b = absurd a
one_entry (Some (Enq u z c ret code)) q r a b = sym a.0 ∙ b.0
one_entry (Some (Deq u z have code)) q r a b = absurd a
one_entry (Some (Release u z)) q r a b = absurd a
one_entry (Some (Look u place filter rows)) q r a b = absurd a
one_entry (Some (Remove by target)) q r a b = absurd a

-- telling control doesn't change the keys
pub keys-told : (r : Res) (xs : List Rec) → map key (on_record r (λ y. record y { told = true }) xs) ≡ map key xs
keys-told = keys-on_record (λ y. record y { told = true }) (λ y. refl)

pub distinct-told : (r : Res) (xs : List Rec)
    → is_distinct (on_record r (λ y. record y { told = true }) xs) ≡ is_distinct xs
distinct-told = distinct-on_record (λ y. record y { told = true }) (λ y. refl)

-- whether it is the same resource, the other way round
turned : (r q : Res) (b : Bool) → same_res r q ≡ b → same_res q r ≡ b
turned r q b e = same_res-sym q r ∙ e

-- Records after control of resource r is marked as told, where U is what was told then.
module _ (ls : List Meaning) (E : List HistEntry) (T U : List ToldLine) (owns leaving : Res → Bool) (t : TaskId)
    (r : Res) (line : ℕ) (ph qh : Phase)
    (told : leaving r ≡ false → list_any (tells_control t ls E r) U ≡ true)
    (still : (q : Res) → list_any (tells_control t ls E q) T ≡ true → list_any (tells_control t ls E q) U ≡ true)
    (due : (y : Rec) → IsRec ls E T owns leaving t line ph y → same_res r y.res ≡ false → WaitsFor ls E T t line ph y
    → WaitsFor ls E U t line qh y) where
  recs-also : (xs : List Rec) → Each (IsRec ls E T owns leaving t line ph) xs
      → Each (IsRec ls E U (also r owns) leaving t line qh) (on_record r (λ y. record y { told = true }) xs)
  recs-also [] h = tt
  recs-also (y ∷ ys) h = (go (same_res r y.res) refl, recs-also ys h.1)
    where
      go : (b : Bool) → same_res r y.res ≡ b
          → IsRec ls E U (also r owns) leaving t line qh (cond b (record y { told = true }) y)
      go true s =
          let same : r ≡ y.res = same_res-exact r y.res s in
          record {
            entry = h.0.entry;
            latest = h.0.latest;
            low = h.0.low;
            high = h.0.high;
            known = sym (or_right (owns y.res) (same_res y.res r) (turned r y.res true s));
            control = λ c stays.
                subst (λ q. list_any (tells_control t ls E q) U ≡ true) same
                (told (subst (λ q. leaving q ≡ false) (sym same) stays));
            due = λ u. absurd (cc);
          }
      go false s =
          let off : also r owns y.res ≡ owns y.res = or_off (owns y.res) (same_res y.res r) (turned r y.res false s) in
          record {
            entry = h.0.entry;
            latest = h.0.latest;
            low = h.0.low;
            high = h.0.high;
            known = h.0.known ∙ sym off;
            control = λ c stays. still y.res (h.0.control (sym off ∙ c) stays);
            due = λ u. due y h.0 s (h.0.due u);
          }

module _ (ls : List Meaning) (E : List HistEntry) (T : List ToldLine) (owns leaving : Res → Bool) (t : TaskId) (r : Res)
    (k : ℕ) (on : IsEntryOn r (entry_of_line ls E k)) where
  -- no other record is of that line
  other_line : (line : ℕ) (ph : Phase) (y : Rec) → IsRec ls E T owns leaving t line ph y → same_res r y.res ≡ false
      → y.line ≡ k → ⊥
  other_line line ph y h apart e =
      let same : y.res ≡ r =
      one_entry (entry_of_line ls E k) y.res r (subst (λ n. IsEntryOn y.res (entry_of_line ls E n)) e h.entry) on in
      grind (arith, apart, same, same_res-itself r)

  due_later : (l : ToldLine) (n : ℕ) → is_post_of t n l ≡ false → IsDue ls E T t n → IsDue ls E (T ++ l ∷ []) t n
  due_later l n other d = record {
    ecb = d.ecb;
    coded = any-more (is_code_of t n) T l d.coded;
    unposted = none-more (is_post_of t n) T l d.unposted other;
  }

  -- records after control is told by the code of line k, by which the task was held
  pub recs-coded : (xs : List Rec) → Each (IsRec ls E T owns leaving t k phases.HeldAnswer) xs → (l : ToldLine)
      → tells_control t ls E r l ≡ true → ((n : ℕ) → is_post_of t n l ≡ false) →
      Each (IsRec ls E (T ++ l ∷ []) (also r owns) leaving t k phases.Ready)
      (on_record r (λ y. record y { told = true }) xs)
  recs-coded xs h l control post =
      recs-also ls E T (T ++ l ∷ []) owns leaving t r k phases.HeldAnswer phases.Ready
      (λ s. any-last (tells_control t ls E r) T l control) (λ q. any-more (tells_control t ls E q) T l) due xs h
    where
      due : (y : Rec) → IsRec ls E T owns leaving t k phases.HeldAnswer y → same_res r y.res ≡ false
          → WaitsFor ls E T t k phases.HeldAnswer y → WaitsFor ls E (T ++ l ∷ []) t k phases.Ready y
      due y z apart (inl a) = absurd (other_line k phases.HeldAnswer y z apart a.1)
      due y z apart (inr d) = inr (due_later l y.line (post y.line) d)

  -- records after the ECB of line k is posted
  pub recs-posted : queued_last ls E r k ≡ true → (line : ℕ) (ph : Phase) (xs : List Rec)
      → Each (IsRec ls E T owns leaving t line ph) xs →
      Each (IsRec ls E (T ++ Post t k ∷ []) (also r owns) leaving t line ph)
      (on_record r (λ y. record y { told = true }) xs)
  recs-posted latest line ph xs h = recs-also ls E T (T ++ Post t k ∷ []) owns leaving t r line ph ph
      (λ s. any-last (tells_control t ls E r) T (Post t k) (and_from (same_task t t) _ (same_task-itself t) latest))
      (λ q. any-more (tells_control t ls E q) T (Post t k)) due xs h
    where
      other : (y : Rec) → IsRec ls E T owns leaving t line ph y → same_res r y.res ≡ false
          → is_post_of t y.line (Post t k) ≡ false
      other y z apart =
          and_right (same_task t t) (k == y.line)
          (false_by (k == y.line) (λ e. absurd (other_line line ph y z apart (sym (eqb-true k y.line e)))))

      due : (y : Rec) → IsRec ls E T owns leaving t line ph y → same_res r y.res ≡ false → WaitsFor ls E T t line ph y
          → WaitsFor ls E (T ++ Post t k ∷ []) t line ph y
      due y z apart (inl a) = inl a
      due y z apart (inr d) = inr (due_later (Post t k) y.line (other y z apart) d)

-- records of which one is marked, where no line tells it, since the task gives it up
pub recs-marked :
    (ls : List Meaning) (E : List HistEntry) (T : List ToldLine) (owns leaving : Res → Bool) (t : TaskId) (r : Res)
    → leaving r ≡ true → (line : ℕ) (ph : Phase) (xs : List Rec) → Each (IsRec ls E T owns leaving t line ph) xs →
    Each (IsRec ls E T (also r owns) leaving t line ph) (on_record r (λ y. record y { told = true }) xs)
recs-marked ls E T owns leaving t r leaves line ph xs h =
    recs-also ls E T T owns leaving t r line ph ph (λ s. no_truth (leaving r) leaves s) (λ q c. c) (λ y z apart d. d) xs
    h
