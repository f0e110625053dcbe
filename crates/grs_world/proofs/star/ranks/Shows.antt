-- What a task's records show of the rank of its element on a resource, with the mail that is under way to it: the rank
-- is on record, or comes with the first answer to the task. A mail that is taken leaves it so; and what its system does
-- by itself does too.
use Rattle.grs_world.proofs.Common.{[], ◌++◌, ◌||◌, ◌∙◌, ◌∷◌, ◌≡◌, ◌≢◌, Answer, Answered, ap, Asked, Bool, cond, false}
use Rattle.grs_world.proofs.Common.{Granted, has_res, is_systems, is_task, List, Mail, no_truth, None, Notice, Option}
use Rattle.grs_world.proofs.Common.{Part, Rec, record_of, refl, Res, res_wanted, same_res, same_res-exact, same_Some}
use Rattle.grs_world.proofs.Common.{same_task, same_task-itself, Some, state_of, subst, sym, TaskId, TaskState}
use Rattle.grs_world.proofs.Common.{TasksView, tell_answer_ranked, tell_control, true, ℕ}
use Rattle.grs_wire.specs.declared.medium.Mail.TheVariants.{Request}
use Rattle.grs_world.proofs.star.Heard.{grants}
use Rattle.grs_world.proofs.star.hearing.Answering.{Answered as AnsweredBy, answered}
use Rattle.grs_world.proofs.star.hearing.Gentle.{Gentle, gentle-control}
use Rattle.grs_world.proofs.star.hearing.Mails.{answers}
use Rattle.grs_world.proofs.star.hearing.Ranks.{HaveRank, IsOld, answer-gives, answer-keeps, keeps-ranks, rank-found}
use Rattle.grs_world.proofs.star.hearing.Ranks.{old-has, rank-none}

-- the rank that comes with the first answer to a task, if one comes
abbrev pub comes_with : TaskId → List Mail → Option ℕ
comes_with t [] = None
comes_with t (Answered u answer rank ∷ ms) = cond (same_task t u) (Some rank) (comes_with t ms)
comes_with t (Request e from q ∷ ms) = comes_with t ms
comes_with t (Granted u r ∷ ms) = comes_with t ms
comes_with t (Notice target moved ∷ ms) = comes_with t ms
comes_with t (Part e from records ∷ ms) = comes_with t ms

pub record Shows (r : Res) (t : TaskId) (n : ℕ) (xs : List Rec) (ms : List Mail) : Type 0 where
  pub ranked : HaveRank r n xs
  pub comes : has_res r xs ≡ false → comes_with t ms ≡ Some n

-- once no mail is left, what is on record has the rank
pub shows-record : (r : Res) (t : TaskId) (n : ℕ) (xs : List Rec) (ms : List Mail) → Shows r t n xs ms → (y : Rec)
    → record_of xs r ≡ Some y → y.rank ≡ n
shows-record r t n xs ms h y e = rank-found r n xs y h.ranked e

-- mail of another kind, and answers to other tasks, bring none
pub comes-behind : (t : TaskId) (ms : List Mail) (u : TaskId) (answer : Answer) (rank : ℕ) → same_task t u ≡ false
    → comes_with t (Answered u answer rank ∷ ms) ≡ comes_with t ms
comes-behind t ms u answer rank apart = ap (λ b. cond b (Some rank) (comes_with t ms)) apart

pub comes-first : (t : TaskId) (ms : List Mail) (answer : Answer) (rank : ℕ)
    → comes_with t (Answered t answer rank ∷ ms) ≡ Some rank
comes-first t ms answer rank = ap (λ b. cond b (Some rank) (comes_with t ms)) (same_task-itself t)

-- a mail behind the others brings one where none came before, and leaves what comes else
pub comes-more : (t : TaskId) (ms new : List Mail) (n : ℕ) → comes_with t ms ≡ Some n
    → comes_with t (ms ++ new) ≡ Some n
comes-more t [] new n h = absurd (cc)
comes-more t (Request e from q ∷ ms) new n h = comes-more t ms new n h
comes-more t (Answered u answer rank ∷ ms) new n h = go (same_task t u) h (comes-more t ms new n)
  where
    go : (b : Bool) → cond b (Some rank) (comes_with t ms) ≡ Some n
        → (comes_with t ms ≡ Some n → comes_with t (ms ++ new) ≡ Some n)
        → cond b (Some rank) (comes_with t (ms ++ new)) ≡ Some n
    go true k more = k
    go false k more = more k
comes-more t (Granted u r ∷ ms) new n h = comes-more t ms new n h
comes-more t (Notice target moved ∷ ms) new n h = comes-more t ms new n h
comes-more t (Part e from records ∷ ms) new n h = comes-more t ms new n h

pub comes-last : (t : TaskId) (ms : List Mail) (answer : Answer) (n : ℕ) → comes_with t ms ≡ None
    → comes_with t (ms ++ Answered t answer n ∷ []) ≡ Some n
comes-last t [] answer n h = comes-first t [] answer n
comes-last t (Request e from q ∷ ms) answer n h = comes-last t ms answer n h
comes-last t (Answered u other rank ∷ ms) answer n h = go (same_task t u) h (comes-last t ms answer n)
  where
    go : (b : Bool) → cond b (Some rank) (comes_with t ms) ≡ None
        → (comes_with t ms ≡ None → comes_with t (ms ++ Answered t answer n ∷ []) ≡ Some n)
        → cond b (Some rank) (comes_with t (ms ++ Answered t answer n ∷ [])) ≡ Some n
    go true k more = absurd (cc)
    go false k more = more k
comes-last t (Granted u r ∷ ms) answer n h = comes-last t ms answer n h
comes-last t (Notice target moved ∷ ms) answer n h = comes-last t ms answer n h
comes-last t (Part e from records ∷ ms) answer n h = comes-last t ms answer n h

-- none comes where no mail answers the task
pub comes-none : (t : TaskId) (ms : List Mail) → answers t ms ≡ false → comes_with t ms ≡ None
comes-none t [] h = refl
comes-none t (Request e from q ∷ ms) h = comes-none t ms h
comes-none t (Granted u r ∷ ms) h = comes-none t ms h
comes-none t (Notice target moved ∷ ms) h = comes-none t ms h
comes-none t (Part e from records ∷ ms) h = comes-none t ms h
comes-none t (Answered u answer rank ∷ ms) h = go (same_task t u) h (comes-none t ms)
  where
    go : (b : Bool) → (b || answers t ms) ≡ false → (answers t ms ≡ false → comes_with t ms ≡ None)
        → cond b (Some rank) (comes_with t ms) ≡ None
    go true k more = absurd (cc)
    go false k more = more k

-- So a mail behind leaves it.
pub shows-more : (r : Res) (t : TaskId) (n : ℕ) (xs : List Rec) (ms new : List Mail) → Shows r t n xs ms
    → Shows r t n xs (ms ++ new)
shows-more r t n xs ms new h = record {
  ranked = h.ranked;
  comes = λ none. comes-more t ms new n (h.comes none);
}

-- The answer that is sent for a request begins it, where the task has no record and no other answer comes.
pub shows-sent : (r : Res) (t : TaskId) (n : ℕ) (xs : List Rec) (ms : List Mail) (answer : Answer)
    → has_res r xs ≡ false → comes_with t ms ≡ None → Shows r t n xs (ms ++ Answered t answer n ∷ [])
shows-sent r t n xs ms answer new silent = record {
  ranked = rank-none r n xs new;
  comes = λ none. comes-last t ms answer n silent;
}

-- Of each task of a system the same resources of the whole complex are on record, and ranks stay.
abbrev pub RecordsStay : TasksView → TasksView → Type 0
RecordsStay v w =
    (u : TaskId) (r : Res) → is_systems r ≡ true
    → (has_res r (state_of w u).records ≡ has_res r (state_of v u).records)
    × ((n : ℕ) → HaveRank r n (state_of v u).records → HaveRank r n (state_of w u).records)

pub gentle-stay : (v w : TasksView) → Gentle v w → RecordsStay v w
gentle-stay v w k u r wide = ((k.each u).has r wide, λ n h. (k.each u).ranks r n wide h)

pub same-stay : (v w : TasksView) → ((u : TaskId) → (state_of w u).records ≡ (state_of v u).records) → RecordsStay v w
same-stay v w same u r wide = (
  ap (has_res r) (same u),
  λ n h. subst (λ (zs : List Rec). HaveRank r n zs) (sym (same u)) h,
)

module _ (v : TasksView) (r : Res) (t : TaskId) (n : ℕ) (ms : List Mail) where
  -- what leaves records and ranks as they are
  pub shows-stay : (w : TasksView) → is_systems r ≡ true → RecordsStay v w → Shows r t n (state_of v t).records ms
      → Shows r t n (state_of w t).records ms
  shows-stay w wide stay h = record {
    ranked = (stay t r wide).1 n h.ranked;
    comes = λ none. h.comes (sym (stay t r wide).0 ∙ none);
  }

  pub shows-gentle : (w : TasksView) → is_systems r ≡ true → Gentle v w → Shows r t n (state_of v t).records ms
      → Shows r t n (state_of w t).records ms
  shows-gentle w wide gentle h = shows-stay w wide (gentle-stay v w gentle) h

  -- control that is told
  pub shows-granted : (u : TaskId) (q : Res) → is_systems r ≡ true
      → Shows r t n (state_of v t).records (Granted u q ∷ ms)
      → Shows r t n (state_of (tell_control v q u) t).records ms
  shows-granted u q wide h =
      shows-gentle (tell_control v q u) wide (gentle-control v q u) (record { ranked = h.ranked; comes = h.comes })

  -- the answer to another task
  pub shows-other : (u : TaskId) (answer : Answer) (rank : ℕ) → same_task t u ≡ false → t.task ≢ u.task
      → is_task v u ≡ true → (a : Asked) → Shows r t n (state_of v t).records (Answered u answer rank ∷ ms)
      → Shows r t n (state_of (tell_answer_ranked v u a answer rank) t).records ms
  shows-other u answer rank apart place there a h =
      let k : AnsweredBy v (tell_answer_ranked v u a answer rank) u a.req.want (grants answer) =
      answered v u there a answer rank in
      subst (λ (y : TaskState). Shows r t n y.records ms) (sym (k.did.changed.others t place)) (record {
        ranked = h.ranked;
        comes = λ none. sym (comes-behind t ms u answer rank apart) ∙ h.comes none;
      })

  -- the answer to it: the record that it makes has its rank, and one that was there keeps its own
  pub shows-answered : (answer : Answer) (rank : ℕ) → is_task v t ≡ true → (a : Asked)
      → has_res r (state_of (tell_answer_ranked v t a answer rank) t).records ≡ true
      → Shows r t n (state_of v t).records (Answered t answer rank ∷ ms)
      → Shows r t n (state_of (tell_answer_ranked v t a answer rank) t).records ms
  shows-answered answer rank here a has h = record {
    ranked = go (has_res r (state_of v t).records) refl (res_wanted a.req.want) refl;
    comes = λ none. no_truth (has_res r (state_of (tell_answer_ranked v t a answer rank) t).records) has none;
  }
    where
      after : TasksView
      after = tell_answer_ranked v t a answer rank

      -- any rank is kept where the request is of no resource that is new on record
      stays : IsOld r (res_wanted a.req.want) (state_of v t).records
          → HaveRank r n (state_of (tell_answer_ranked v t a answer rank) t).records
      stays old = keeps-ranks r n v after t (answer-keeps r n v t here a answer rank old h.ranked)

      same : has_res r (state_of v t).records ≡ false → rank ≡ n
      same none = same_Some rank n (sym (comes-first t ms answer rank) ∙ h.comes none)

      by-res : (q : Res) → res_wanted a.req.want ≡ Some q → has_res r (state_of v t).records ≡ false → (b : Bool)
          → same_res r q ≡ b → HaveRank r n (state_of (tell_answer_ranked v t a answer rank) t).records
      by-res q wants none true e =
          subst (λ k. HaveRank r k (state_of after t).records) (same none)
          (answer-gives v t a answer rank r (wants ∙ ap Some (sym (same_res-exact r q e))) none)
      by-res q wants none false e =
          stays (subst (λ (o : Option Res). IsOld r o (state_of v t).records) (sym wants)
          (λ is. no_truth (same_res r q) is e))

      go : (b : Bool) → has_res r (state_of v t).records ≡ b → (o : Option Res) → res_wanted a.req.want ≡ o
          → HaveRank r n (state_of (tell_answer_ranked v t a answer rank) t).records
      go true e o wants = stays (old-has r (res_wanted a.req.want) (state_of v t).records e)
      go false e None wants =
          stays (subst (λ (o : Option Res). IsOld r o (state_of v t).records) (sym wants) tt)
      go false e (Some q) wants = by-res q wants e (same_res r q) refl
