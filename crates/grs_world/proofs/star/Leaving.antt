-- A system that gives up its interest in an entry, in which it has nothing on record and asks nothing.
use Rattle.grs_world.proofs.Common.{[], ◌++◌, ◌<◌, ◌==◌, ◌||◌, ◌∙◌, ◌∷◌, ◌≡◌, ◌≢◌, ◌⊎◌, all-middle, and_from, and_parts}
use Rattle.grs_world.proofs.Common.{Answered, ap, append-nil, append_assoc, arith, Asked, blank, Bool, Coming, cond}
use Rattle.grs_world.proofs.Common.{Deck, entries_for, entry_for, entry_of_res, entry_wanted, false, false_by}
use Rattle.grs_world.proofs.Common.{filter-append, filter-cons_kept, get_or, gives_back, Granted, has_res, has_task}
use Rattle.grs_world.proofs.Common.{inl, inr, is_busy_in, is_entry, is_home_at, is_interested, is_look, is_of}
use Rattle.grs_world.proofs.Common.{IsAskedBy, IsHere, IsHistory, IsOpenBy, IsOutstanding, IsReq, last_of, length, List}
use Rattle.grs_world.proofs.Common.{list_all, list_any, list_of, lists, Mail, mine, nat_lt, nat_tests, new_task}
use Rattle.grs_world.proofs.Common.{no_truth, NodeState, None, Notice, one, Option, or_left, or_parts, or_right}
use Rattle.grs_world.proofs.Common.{outstanding, owns-has, Part, Rec, refl, Req, Res, res_wanted, RunItem, same_res}
use Rattle.grs_world.proofs.Common.{same_res-exact, same_task, same_task-itself, Some, StarPart, State, state_of, subst}
use Rattle.grs_world.proofs.Common.{sym, TaskId, true, ℕ}
use Rattle.grs_wire.specs.declared.medium.Mail.TheVariants.{Request}
use Rattle.grs_known.specs.Known.{Known, Still, learns_control, learns_item}
use Rattle.grs_node.specs.Star.{asks_in}
use Rattle.grs_known.proofs.known.Knowing.{one-some}
use Rattle.std.proofs.lemmas.List.Folds.{list_any_at}
use Rattle.grs_world.proofs.system.AtNode.{opens_of}
use Rattle.grs_world.proofs.system.Puts.{home-task}
use Rattle.grs_known.proofs.system.Busy.{busy-idle, busy-behind, busy-looks}
use Rattle.grs_world.proofs.star.Ghosts.{ghosted}
use Rattle.grs_world.proofs.star.Members.{has_manager}
use Rattle.grs_world.proofs.star.OwnEvents.{late-in, given-entry}
use Rattle.grs_world.proofs.star.Systems.{IsSystem, IsLate, AllLate, AllFit, Away, near_at, is_near, is_late, news_of}
use Rattle.grs_world.proofs.star.Systems.{here, behind-late}
use Rattle.grs_world.proofs.star.Under.{entry-same, want-entry}
use Rattle.grs_world.proofs.star.Answering.{want-looks}
use Rattle.grs_wire.specs.declared.request.Fixed.TheVariants as fixing

-- none of these tasks is busy, so neither is one of them
any-at : {X : Type 0} (f : X → Bool) (xs : List X) (i : ℕ) (d : X) → list_any f xs ≡ false → i < length xs
    → f (get_or xs i d) ≡ false
any-at f xs i d h l = false_by (f (get_or xs i d)) (λ e. no_truth (list_any f xs) (list_any_at f xs i d l e) h)

-- control that comes is there now by what is known here, or once the answer came
granted-still : (t : TaskId) (k : Known) (T : List RunItem) (front : List Mail) (r : Res) (rest : List Mail)
    → Coming t k T (news_of (front ++ Granted t r ∷ rest)) → Still r t T (outstanding t k T) ⊎ Still r t T None
granted-still t k T [] r rest h = inl (h.0 (same_task-itself t)).0
granted-still t k T (Request e from q ∷ front) r rest h = granted-still t k T front r rest h
granted-still t k T (Answered u a rank ∷ front) r rest h =
    go (same_task t u) refl (λ f. let z = h.0 f in granted-still t (learns_item k z.0) T front r rest z.3)
    (λ f. granted-still t k T front r rest (h.1 f))
  where
    go : (b : Bool) → same_task t u ≡ b → (same_task t u ≡ true → Still r t T None ⊎ Still r t T None)
        → (same_task t u ≡ false → Still r t T (outstanding t k T) ⊎ Still r t T None)
        → Still r t T (outstanding t k T) ⊎ Still r t T None
    go true f now then = both (now f)
      where
        both : Still r t T None ⊎ Still r t T None → Still r t T (outstanding t k T) ⊎ Still r t T None
        both (inl z) = inr z
        both (inr z) = inr z
    go false f now then = then f
granted-still t k T (Granted u p ∷ front) r rest h =
    go (same_task t u) refl (λ f. granted-still t (learns_control k p) T front r rest (h.0 f).1)
    (λ f. granted-still t k T front r rest (h.1 f))
  where
    go : (b : Bool) → same_task t u ≡ b → (same_task t u ≡ true → Still r t T (outstanding t k T) ⊎ Still r t T None)
        → (same_task t u ≡ false → Still r t T (outstanding t k T) ⊎ Still r t T None)
        → Still r t T (outstanding t k T) ⊎ Still r t T None
    go true f now then = now f
    go false f now then = then f
granted-still t k T (Notice target moved ∷ front) r rest h = granted-still t k T front r rest h
granted-still t k T (Part e from records ∷ front) r rest h = granted-still t k T front r rest h

records-in : (deck : Deck) (x : ℕ) (r : Res) (ys : List Rec) → entry_of_res deck.entries r ≡ Some x
    → has_res r ys ≡ true → list_any (λ y. is_entry x (entry_of_res deck.entries y.res)) ys ≡ true
records-in deck x r [] is h = absurd (cc)
records-in deck x r (y ∷ ys) is h = go (same_res r y.res) refl h (records-in deck x r ys is)
  where
    go : (b : Bool) → same_res r y.res ≡ b → (b || has_res r ys) ≡ true
        → (has_res r ys ≡ true → list_any (λ z. is_entry x (entry_of_res deck.entries z.res)) ys ≡ true)
        → list_any (λ z. is_entry x (entry_of_res deck.entries z.res)) (y ∷ ys) ≡ true
    go true e f more =
        or_left (is_entry x (entry_of_res deck.entries y.res)) _
        (entry-same x (entry_of_res deck.entries y.res)
        (ap (entry_of_res deck.entries) (sym (same_res-exact r y.res e)) ∙ is))
    go false e f more = or_right (is_entry x (entry_of_res deck.entries y.res)) _ (more f)

asked-middle : (t : TaskId) (o : Option Asked) (xs : List Req) (q : Req) (ys : List Req) → IsAskedBy t o (xs ++ q ∷ ys)
    → same_task t q.task ≡ true → IsReq q o
asked-middle t o [] q ys h e = h.0 e
asked-middle t o (x ∷ xs) q ys h e = asked-middle t o xs q ys h.1 e

module _ (deck : Deck) (words words' : List ℕ) (T : List RunItem) (right : IsHistory deck T) (s : ℕ) (n : NodeState)
    (ms : List Mail) (later : List RunItem) (out : List Req) (h : IsSystem deck words T s n ms later out) (p : StarPart)
    (entries : length p.manager.entries ≡ deck.entries) (x : ℕ)
    (idle : list_any (is_busy_in p x) n.tasks.tasks ≡ false)
    (others : (e : ℕ) → e ≢ x
    → (has_manager words' e s ≡ has_manager words e s) × (is_interested words' e s ≡ is_interested words e s)) where
  -- a task of the system has no record in it, and asks nothing there
  module _ (t : TaskId) (home : is_home_at deck s t ≡ true) where
    not_busy : is_busy_in p x (state_of n.tasks t) ≡ false
    unfolding state_of
    not_busy =
        any-at (is_busy_in p x) n.tasks.tasks t.task new_task idle
        (there (nat_lt t.task (length n.tasks.tasks)) refl
        (and_parts (n.tasks.system == t.system.0) (nat_lt t.task (length n.tasks.tasks)) (h.at.good.here t home)).1)
      where
        there : (b : Bool) → nat_lt t.task (length n.tasks.tasks) ≡ b → nat_lt t.task (length n.tasks.tasks) ≡ true
            → t.task < length n.tasks.tasks
        there true e f = grind (arith, nat_tests, e)
        there false e f = no_truth (nat_lt t.task (length n.tasks.tasks)) f e

    no_record : list_any (λ y. is_entry x (entry_of_res deck.entries y.res)) (state_of n.tasks t).records ≡ false
    no_record =
        ap (λ k. list_any (λ y. is_entry x (entry_of_res k y.res)) (state_of n.tasks t).records) (sym entries)
        ∙ (or_parts (list_any (λ y. is_entry x (entry_of_res (length p.manager.entries) y.res))
        (state_of n.tasks t).records)
        (asks_in p x (state_of n.tasks t).outstanding) not_busy).0

    no_ask : (a : Asked) → (state_of n.tasks t).outstanding ≡ Some a → (e : ℕ)
        → entry_wanted deck.entries a.req.want ≡ Some e → e ≢ x
    no_ask a is e at same =
        let asks : asks_in p x (Some a) ≡ false =
        ap (asks_in p x) (sym is)
        ∙ (or_parts (list_any (λ y. is_entry x (entry_of_res (length p.manager.entries) y.res))
        (state_of n.tasks t).records)
        (asks_in p x (state_of n.tasks t).outstanding) not_busy).1 in
        no_truth (asks_in p x (Some a))
        (entry-same x (entry_for p a.req.want) (ap (λ k. entry_wanted k a.req.want) entries ∙ (at ∙ ap Some same))) asks

    -- its item that is to come is of another entry
    late_apart : (y : RunItem) → mine t later ≡ y ∷ [] → (i : IsLate deck words s y) → i.entry ≢ x
    late_apart y due i =
        go (state_of n.tasks t).outstanding refl (subst (IsOutstanding (state_of n.tasks t).outstanding) out_is
        (here deck s T later out n h.at t home).knows.request)
      where
        out_is : outstanding t (here deck s T later out n h.at t home).known T ≡ Some y
        out_is =
            (one-some (outstanding t (here deck s T later out n h.at t home).known T) y []
            (sym due ∙ (here deck s T later out n h.at t home).due)).0

        go : (o : Option Asked) → (state_of n.tasks t).outstanding ≡ o
            → IsOutstanding (state_of n.tasks t).outstanding (Some y) → i.entry ≢ x
        go None is z = absurd (subst (λ o. IsOutstanding o (Some y)) is z)
        go (Some a) is z =
            let fixed : y.fixed ≡ fixing.Asked a.req = subst (λ o. IsOutstanding o (Some y)) is z in
            let same : fixing.Asked i.req ≡ fixing.Asked a.req = sym i.asked ∙ fixed in
            let req : i.req ≡ a.req = cc in
            no_ask a is i.entry (ap (λ (q : Req). entry_wanted deck.entries q.want) (sym req) ∙ i.at)

    abbrev k :
        IsHere deck (opens_of later out (ghosted n)) T n.tasks.told t
        (home-task deck s (opens_of later out (ghosted n)) T n.tasks t h.at.good home).0 (state_of n.tasks t)
    k = here deck s T later out n h.at t home

    request : (y : RunItem) → outstanding t k.known T ≡ Some y
        → (a : Asked) × ((state_of n.tasks t).outstanding ≡ Some a) × (y.fixed ≡ fixing.Asked a.req)
    request y e =
        go (state_of n.tasks t).outstanding refl
        (subst (IsOutstanding (state_of n.tasks t).outstanding) e k.knows.request)
      where
        go : (o : Option Asked) → (state_of n.tasks t).outstanding ≡ o
            → IsOutstanding (state_of n.tasks t).outstanding (Some y)
            → (a : Asked) × ((state_of n.tasks t).outstanding ≡ Some a) × (y.fixed ≡ fixing.Asked a.req)
        go None is z = absurd (subst (λ o. IsOutstanding o (Some y)) is z)
        go (Some a) is z = (a, is, subst (λ o. IsOutstanding o (Some y)) is z)

    -- and so is control that comes
    module _ (r : Res) (at_x : entry_of_res deck.entries r ≡ Some x) where
      by_record : has_res r (state_of n.tasks t).records ≡ true → ⊥
      by_record z =
          no_truth (list_any (λ y. is_entry x (entry_of_res deck.entries y.res)) (state_of n.tasks t).records)
          (records-in deck x r (state_of n.tasks t).records at_x z) no_record

      by_ask : (a : Asked) → (state_of n.tasks t).outstanding ≡ Some a
          → entry_wanted deck.entries a.req.want ≡ entry_of_res deck.entries r → ⊥
      by_ask a is z = no_ask a is x (z ∙ at_x) refl

      by_element : has_task (list_of (lists T) r) t ≡ true → ⊥
      by_element has = go (outstanding t k.known T) refl
        where
          go : (o : Option RunItem) → outstanding t k.known T ≡ o → ⊥
          go None e =
              by_record (busy-idle deck (opens_of later out (ghosted n)) T right n.tasks.told t
              (home-task deck s (opens_of later out (ghosted n)) T n.tasks t h.at.good home).0 (state_of n.tasks t) k r
              e has)
          go (Some y) e =
              let rq = request y e in
              let due : mine t later ≡ y ∷ [] = k.due ∙ ap one e in
              let i = late-in deck words s t y [] later due h.late in
              let same : fixing.Asked i.req ≡ fixing.Asked (rq.0).req = sym i.asked ∙ rq.2 in
              let req : i.req ≡ (rq.0).req = cc in
              let asker : (rq.0).req.task ≡ t =
              (subst (λ o.
              IsOpenBy deck.limit (home-task deck s (opens_of later out (ghosted n)) T n.tasks t h.at.good home).0 t
              (state_of n.tasks t) o)
              rq.1 k.opened).0 in
              let made : y.entries ≡ entries_for i.lists t (rq.0).req.want =
              i.made
              ∙ (ap (λ (q : Req). entries_for i.lists q.task q.want) req
              ∙ ap (λ z. entries_for i.lists z (rq.0).req.want) asker) in
              by_res rq.0 rq.1 i.lists made (res_wanted (rq.0).req.want) refl
            where
              decide : (a : Asked) → (state_of n.tasks t).outstanding ≡ Some a → (q : Res)
                  → res_wanted a.req.want ≡ Some q → (has_res r (state_of n.tasks t).records ≡ true) ⊎ (q ≡ r) → ⊥
              decide a is q wanted (inl z) = by_record z
              decide a is q wanted (inr z) = by_ask a is (want-entry deck.entries a.req.want r (wanted ∙ ap Some z))

              -- looks queue none
              by_res : (a : Asked) → (state_of n.tasks t).outstanding ≡ Some a → (S : State)
                  → y.entries ≡ entries_for S t a.req.want → (o : Option Res) → res_wanted a.req.want ≡ o → ⊥
              by_res a is S made None none =
                  by_record (busy-looks deck (opens_of later out (ghosted n)) T right n.tasks.told t
                  (home-task deck s (opens_of later out (ghosted n)) T n.tasks t h.at.good home).0 (state_of n.tasks t)
                  k
                  r y e (ap (list_all is_look) made ∙ want-looks S t a.req.want none) has)
              by_res a is S made (Some q) wanted =
                  decide a is q wanted (busy-behind deck (opens_of later out (ghosted n)) T right n.tasks.told t
                  (home-task deck s (opens_of later out (ghosted n)) T n.tasks t h.at.good home).0 (state_of n.tasks t)
                  k
                  r a y S e made q wanted has)

      by_outstanding : (o : Option RunItem) → outstanding t k.known T ≡ o → Still r t T o → ⊥
      by_outstanding None e z = by_element (owns-has (list_of (lists T) r) t z)
      by_outstanding (Some y) e z = go (gives_back r y.fixed) refl
        where
          go : (b : Bool) → gives_back r y.fixed ≡ b → ⊥
          go false f = by_element (owns-has (list_of (lists T) r) t (z.0 f))
          go true f =
              let rq = request y e in
              by_ask rq.0 rq.1 (given-entry deck r (rq.0).req.want (sym (ap (gives_back r) rq.2) ∙ f))

      by_still : Still r t T (outstanding t (blank (is_late t later)) T) ⊎ Still r t T None → ⊥
      by_still (inl z) =
          by_outstanding (outstanding t k.known T) refl (subst (Still r t T)
          (ap (λ b. cond b (last_of (mine t T)) None) (sym (behind-late deck s T later out n h.at t home))) z)
      by_still (inr z) = by_element (owns-has (list_of (lists T) r) t z)

    control_apart : (front : List Mail) (r : Res) (rest : List Mail) → ms ≡ front ++ Granted t r ∷ rest → (e : ℕ)
        → entry_of_res deck.entries r ≡ Some e → e ≢ x
    control_apart front r rest where_is e at same =
        by_still r (at ∙ ap Some same) (granted-still t (blank (is_late t later)) T front r rest
        (subst (λ zs. Coming t (blank (is_late t later)) T (news_of zs)) where_is (h.coming t home)))

  -- ---- so all that is said of it stays
  away-kept : (e : ℕ) → e ≢ x → Away words s e → Away words' s e
  away-kept e ne a = ((others e ne).0 ∙ a.0, (others e ne).1 ∙ a.1)

  late-kept : (done todo : List RunItem) → later ≡ done ++ todo → AllLate deck words s todo → AllLate deck words' s todo
  late-kept done [] e z = tt
  late-kept done (y ∷ ys) e z =
      let i = z.0 in (
        record {
          req = i.req;
          asked = i.asked;
          home = i.home;
          lists = i.lists;
          apart = i.apart;
          made = i.made;
          entry = i.entry;
          at = i.at;
          away = away-kept i.entry (late_apart i.req.task i.home y (alone i) i) i.away;
        },
        late-kept (done ++ y ∷ []) ys (e ∙ sym (append_assoc done (y ∷ []) ys)) z.1,
      )
    where
      -- it is the only one of its task
      alone : (i : IsLate deck words s y) → mine i.req.task later ≡ y ∷ []
      alone i =
          go (outstanding i.req.task (here deck s T later out n h.at i.req.task i.home).known T)
          (here deck s T later out n h.at i.req.task i.home).due
        where
          among : mine i.req.task later ≡ mine i.req.task done ++ y ∷ mine i.req.task ys
          among =
              ap (mine i.req.task) e
              ∙ (filter-append (λ v. is_of i.req.task v.fixed) done (y ∷ ys)
              ∙ ap (λ vs. mine i.req.task done ++ vs) (filter-cons_kept (λ v. is_of i.req.task v.fixed) y ys
              (ap (is_of i.req.task) i.asked ∙ same_task-itself i.req.task)))

          only : (vs ws : List RunItem) (v w : RunItem) → vs ++ v ∷ ws ≡ w ∷ [] → w ≡ v
          only [] ws v w f = cc
          only (u ∷ []) ws v w f = absurd (cc)
          only (u ∷ z ∷ vs) ws v w f = absurd (cc)

          go : (o : Option RunItem) → mine i.req.task later ≡ one o → mine i.req.task later ≡ y ∷ []
          go None f = absurd (empty (mine i.req.task done) (sym among ∙ f))
            where
              empty : (vs : List RunItem) → vs ++ y ∷ mine i.req.task ys ≡ [] → ⊥
              empty [] g = absurd (cc)
              empty (v ∷ vs) g = absurd (cc)
          go (Some w) f = f ∙ ap (λ v. v ∷ []) (only (mine i.req.task done) (mine i.req.task ys) y w (sym among ∙ f))

  fit-kept : (done todo : List Mail) → ms ≡ done ++ todo → AllFit deck words s todo → AllFit deck words' s todo
  fit-kept done [] e z = tt
  fit-kept done (Request a from q ∷ todo) e z = (
    tt,
    fit-kept (done ++ Request a from q ∷ []) todo (e ∙ sym (append_assoc done (Request a from q ∷ []) todo)) z.1,
  )
  fit-kept done (Answered t a rank ∷ todo) e z = (
    tt,
    fit-kept (done ++ Answered t a rank ∷ []) todo (e ∙ sym (append_assoc done (Answered t a rank ∷ []) todo)) z.1,
  )
  fit-kept done (Granted t r ∷ todo) e z =
      let i = z.0 in (
        record {
          home = i.home;
          entry = i.entry;
          at = i.at;
          away = away-kept i.entry (control_apart t i.home done r todo e i.entry i.at) i.away;
        },
        fit-kept (done ++ Granted t r ∷ []) todo (e ∙ sym (append_assoc done (Granted t r ∷ []) todo)) z.1,
      )
  fit-kept done (Notice target moved ∷ todo) e z = absurd z.0
  fit-kept done (Part x from records ∷ todo) e z = absurd z.0

  near-kept : (done todo : List Req) → out ≡ done ++ todo → list_all (is_near deck words s) todo ≡ true
      → list_all (is_near deck words' s) todo ≡ true
  near-kept done [] e z = refl
  near-kept done (q ∷ todo) e z =
      let both = and_parts (is_near deck words s q) (list_all (is_near deck words s) todo) z in
      and_from (is_near deck words' s q) (list_all (is_near deck words' s) todo)
      (go (entry_wanted deck.entries q.want) refl both.0)
      (near-kept (done ++ q ∷ []) todo (e ∙ sym (append_assoc done (q ∷ []) todo)) both.1)
    where
      all : out ++ [] ≡ done ++ q ∷ todo
      all = append-nil out ∙ e

      home : is_home_at deck s q.task ≡ true
      home =
          all-middle (λ z. is_home_at deck s z.task) done q todo
          (sym (ap (list_all (λ z. is_home_at deck s z.task)) all) ∙ h.at.homes)

      asked : IsReq q (state_of n.tasks q.task).outstanding
      asked =
          asked-middle q.task (state_of n.tasks q.task).outstanding done q todo
          (subst (IsAskedBy q.task (state_of n.tasks q.task).outstanding) all
          (here deck s T later out n h.at q.task home).asked)
          (same_task-itself q.task)

      apart : (a : ℕ) → entry_wanted deck.entries q.want ≡ Some a → a ≢ x
      apart a at = by_asked (state_of n.tasks q.task).outstanding refl asked
        where
          by_asked : (o : Option Asked) → (state_of n.tasks q.task).outstanding ≡ o
              → IsReq q (state_of n.tasks q.task).outstanding → a ≢ x
          by_asked None is z = absurd (subst (IsReq q) is z)
          by_asked (Some b) is z =
              no_ask q.task home b is a (ap (λ (y : Req). entry_wanted deck.entries y.want) (subst (IsReq q) is z) ∙ at)

      go : (o : Option ℕ) → entry_wanted deck.entries q.want ≡ o → near_at words s o ≡ true → near_at words' s o ≡ true
      go None at near = refl
      go (Some a) at near = (others a (apart a at)).1 ∙ near

  -- it has no element in it
  pub no-element : (t : TaskId) → is_home_at deck s t ≡ true → (r : Res) → has_task (list_of (lists T) r) t ≡ true
      → (e : ℕ) → entry_of_res deck.entries r ≡ Some e → e ≢ x
  no-element t home r has e at same = by_element t home r (at ∙ ap Some same) has

  pub system-left : (o : Option StarPart) → IsSystem deck words' T s (record n { star = o }) ms later out
  system-left o = record {
    at = h.at;
    late = late-kept [] later refl h.late;
    sent = h.sent;
    near = near-kept [] out refl h.near;
    coming = h.coming;
    answered = h.answered;
    fits = fit-kept [] ms refl h.fits;
  }
