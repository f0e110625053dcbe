-- A task that has an element on a resource has the request on record, or asks for just that resource.
use Rattle.std.proofs.Common.{◌≡◌, ◌⊎◌, inl, inr, Bool, true, false, cond, not, ◌||◌, List, [], ◌∷◌, ◌++◌, map, Some}
use Rattle.std.proofs.Common.{None, refl, ap, sym, ◌∙◌, subst}
use Rattle.std.specs.Prelude.{filter}
use Rattle.std.specs.List.{list_all}
use Rattle.std.proofs.lemmas.Bool.{or_left, or_right}
use Rattle.grs_base.specs.Same.{same_res}
use Rattle.grs_base.specs.Lists.{has_task}
use Rattle.grs_base.specs.State.{State, list_of}
use Rattle.grs_base.specs.declared.decision.Effect.{Effect}
use Rattle.grs_base.specs.declared.decision.Effect.TheVariants.{Nothing, Append, MakeExclusive}
use Rattle.grs_base.specs.declared.resource.Ctl.{Ctl}
use Rattle.grs_base.specs.declared.resource.Ctl.TheVariants as ctls
use Rattle.grs_base.specs.declared.resource.Res.{Res}
use Rattle.grs_base.specs.declared.resource.TaskId.{TaskId}
use Rattle.grs_base.proofs.SameLaws.{same_res-exact}
use Rattle.grs_legal.specs.declared.meaning.Meaning.{Meaning}
use Rattle.grs_wire.specs.History.{entries_for}
use Rattle.grs_wire.specs.Wants.{res_wanted}
use Rattle.grs_wire.specs.declared.deck.Deck.{Deck}
use Rattle.grs_wire.specs.declared.history.HistEntry.{HistEntry}
use Rattle.grs_wire.specs.declared.request.Want.{Want}
use Rattle.grs_wire.specs.declared.request.Want.TheVariants.{Enq, Deq, Release, Look}
use Rattle.grs_wire.specs.declared.told.ToldLine.{ToldLine}
use Rattle.task_state.specs.declared.state.Asked.{Asked}
use Rattle.task_state.specs.declared.state.TaskState.{TaskState}
use Rattle.grs_known.specs.Items.{RunItem, lists}
use Rattle.grs_known.specs.Known.{outstanding}
use Rattle.grs_known.specs.Past.{Past, past_of, has_own, made_exclusive, own_by_effect, after_entries}
use Rattle.grs_known.proofs.known.Following.{has-known}
use Rattle.grs_known.proofs.known.Histories.{IsHistory}
use Rattle.grs_known.proofs.known.Knows.{speaks-known}
use Rattle.grs_known.proofs.known.Pasts.{past_grows, elements_are_of_items}
use Rattle.grs_known.proofs.lists.Own.{has_task-own}
use Rattle.grs_known.proofs.lists.Shows.{is_look, looked, after-looks}
use Rattle.grs_known.proofs.tasks.Invariant.{has_res, key}
use Rattle.grs_known.proofs.tasks.Keys.{has_res-own}
use Rattle.grs_known.proofs.system.Asking.{Opens, records-unasked}
use Rattle.grs_known.proofs.system.Ours.{IsHere}

-- who has an element behind an entry had it before, or the entry is of that resource
own-made : (r q : Res) (ks : List (Res × Ctl)) → has_own r (map (made_exclusive q) ks) ≡ has_own r ks
own-made r q [] = refl
own-made r q (k ∷ ks) = go (same_res q k.0) (own-made r q ks)
  where
    go : (b : Bool) → has_own r (map (made_exclusive q) ks) ≡ has_own r ks
        → has_own r (cond b (k.0, ctls.E) k ∷ map (made_exclusive q) ks) ≡ has_own r (k ∷ ks)
    go true h = ap (λ c. same_res r k.0 || c) h
    go false h = ap (λ c. same_res r k.0 || c) h

own-push : (r q : Res) (c : Ctl) (ks : List (Res × Ctl)) → has_own r (ks ++ (q, c) ∷ []) ≡ true
    → (has_own r ks ≡ true) ⊎ (q ≡ r)
own-push r q c [] h = go (same_res r q) refl h
  where
    go : (b : Bool) → same_res r q ≡ b → (b || false) ≡ true → (has_own r [] ≡ true) ⊎ (q ≡ r)
    go true e k = inr (sym (same_res-exact r q e))
    go false e k = absurd (cc)
own-push r q c (k ∷ ks) h = go (same_res r k.0) refl h (own-push r q c ks)
  where
    go : (b : Bool) → same_res r k.0 ≡ b → (b || has_own r (ks ++ (q, c) ∷ [])) ≡ true
        → (has_own r (ks ++ (q, c) ∷ []) ≡ true → (has_own r ks ≡ true) ⊎ (q ≡ r))
        → (has_own r (k ∷ ks) ≡ true) ⊎ (q ≡ r)
    go true e f more = inl (or_left (same_res r k.0) (has_own r ks) e)
    go false e f more = by_more (more f)
      where
        by_more : (has_own r ks ≡ true) ⊎ (q ≡ r) → (has_own r (k ∷ ks) ≡ true) ⊎ (q ≡ r)
        by_more (inl z) = inl (or_right (same_res r k.0) (has_own r ks) z)
        by_more (inr z) = inr z

own-left : (r q : Res) (ks : List (Res × Ctl)) → has_own r (filter (λ k. not (same_res q k.0)) ks) ≡ true
    → has_own r ks ≡ true
own-left r q [] h = h
own-left r q (k ∷ ks) h = go (same_res q k.0) h (own-left r q ks)
  where
    go : (b : Bool)
        → has_own r (cond (not b) (k ∷ filter (λ z. not (same_res q z.0)) ks) (filter (λ z. not (same_res q z.0)) ks))
        ≡ true
        → (has_own r (filter (λ z. not (same_res q z.0)) ks) ≡ true → has_own r ks ≡ true) → has_own r (k ∷ ks) ≡ true
    go true e more = or_right (same_res r k.0) (has_own r ks) (more e)
    go false e more = by_first (same_res r k.0) refl e
      where
        by_first : (c : Bool) → same_res r k.0 ≡ c → (c || has_own r (filter (λ z. not (same_res q z.0)) ks)) ≡ true
            → has_own r (k ∷ ks) ≡ true
        by_first true f g = or_left (same_res r k.0) (has_own r ks) f
        by_first false f g = or_right (same_res r k.0) (has_own r ks) (more g)

own-effect : (e : Effect) (r q : Res) (c : Ctl) (ks : List (Res × Ctl)) → has_own r (own_by_effect e q c ks) ≡ true
    → (has_own r ks ≡ true) ⊎ (q ≡ r)
own-effect Nothing r q c ks h = inl h
own-effect Append r q c ks h = own-push r q c ks h
own-effect MakeExclusive r q c ks h = inl (sym (own-made r q ks) ∙ h)

module _ (deck : Deck) (os : Opens) (T : List RunItem) (right : IsHistory deck T) (told : List ToldLine) (t : TaskId)
    (ls : List Meaning) (x : TaskState) (k : IsHere deck os T told t ls x) (r : Res) where
  recorded : has_own r (past_of t k.known T).own ≡ true → has_res r x.records ≡ true
  recorded h =
      has_res-own r x.records (past_of t k.known T).own (ap (map key) (sym (records-unasked x)) ∙ k.task.keys) ∙ h

  all-own : (y : RunItem) → outstanding t k.known T ≡ Some y → has_task (list_of (lists T) r) t ≡ true
      → has_own r (after_entries y.entries (past_of t k.known T)).own ≡ true
  all-own y is h =
      sym (ap (λ (p : Past). has_own r p.own) (past_grows t k.known T y is))
      ∙ (sym (ap (has_own r) (elements_are_of_items t T right.made k.knows.live))
      ∙ (sym (has_task-own (lists T) t r) ∙ h))

  by_item : (y : RunItem) (S : State) (w : Want) → outstanding t k.known T ≡ Some y → y.entries ≡ entries_for S t w
      → (q : Res) → res_wanted w ≡ Some q → has_task (list_of (lists T) r) t ≡ true
      → (has_own r (past_of t k.known T).own ≡ true) ⊎ (q ≡ r)
  by_item y S w is made q wanted h = by_want w made wanted
    where
      all : has_own r (after_entries y.entries (past_of t k.known T)).own ≡ true
      all = all-own y is h

      by_want : (v : Want) → y.entries ≡ entries_for S t v → res_wanted v ≡ Some q
          → (has_own r (past_of t k.known T).own ≡ true) ⊎ (q ≡ r)
      by_want (Enq p c ret full) e z =
          let same : p ≡ q = cc in
          subst (λ u. (has_own r (past_of t k.known T).own ≡ true) ⊎ (u ≡ r)) same
          (own-effect _ r p c (past_of t k.known T).own
          (sym (ap (λ hs. has_own r (after_entries hs (past_of t k.known T)).own) e) ∙ all))
      by_want (Deq p have) e z =
          inl (taken _ (sym (ap (λ hs. has_own r (after_entries hs (past_of t k.known T)).own) e) ∙ all))
        where
          taken : (b : Bool)
              → has_own r (cond b (filter (λ j. not (same_res p j.0)) (past_of t k.known T).own)
              (past_of t k.known T).own)
              ≡ true
              → has_own r (past_of t k.known T).own ≡ true
          taken true j = own-left r p (past_of t k.known T).own j
          taken false j = j
      by_want (Release p) e z =
          inl (own-left r p (past_of t k.known T).own
          (sym (ap (λ hs. has_own r (after_entries hs (past_of t k.known T)).own) e) ∙ all))
      by_want (Look first count f) e z = absurd (cc)

  -- a task that isn't behind
  pub busy-idle : outstanding t k.known T ≡ None → has_task (list_of (lists T) r) t ≡ true → has_res r x.records ≡ true
  busy-idle none h =
      recorded (sym (has-known deck T right t (past_of t k.known T)
      (speaks-known deck T t k.known right k.knows.live k.knows.right none) r)
      ∙ h)

  -- one that is, with this request
  pub busy-behind : (a : Asked) (y : RunItem) (S : State) → outstanding t k.known T ≡ Some y
      → y.entries ≡ entries_for S t a.req.want → (q : Res) → res_wanted a.req.want ≡ Some q
      → has_task (list_of (lists T) r) t ≡ true →
      (has_res r x.records ≡ true) ⊎ (q ≡ r)
  busy-behind a y S out made q wanted h = go (by_item y S a.req.want out made q wanted h)
    where
      go : (has_own r (past_of t k.known T).own ≡ true) ⊎ (q ≡ r) → (has_res r x.records ≡ true) ⊎ (q ≡ r)
      go (inl z) = inl (recorded z)
      go (inr z) = inr z

  -- one that is, with looks
  pub busy-looks : (y : RunItem) → outstanding t k.known T ≡ Some y → list_all is_look y.entries ≡ true
      → has_task (list_of (lists T) r) t ≡ true → has_res r x.records ≡ true
  busy-looks y out looks h =
      recorded (sym (ap (λ (p : Past). has_own r p.own) (after-looks y.entries looks (past_of t k.known T))
      ∙ ap (has_own r) (own-looked y.entries))
      ∙ all-own y out h)
    where
      own-looked : (hs : List HistEntry) → (looked hs (past_of t k.known T)).own ≡ (past_of t k.known T).own
      own-looked [] = refl
      own-looked (e ∷ es) = refl
