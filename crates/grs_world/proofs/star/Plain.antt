-- What came of an event in star mode, where no system was removed there: what its system does is what it did without
-- all that a removal brings. The names are those of the steps of a system, of which these are what is left.
use Rattle.grs_world.proofs.Common.{[], ◌&&◌, ◌++◌, ◌==◌, ◌∙◌, ◌∷◌, ◌≡◌, ◌≢◌, after_mail, after_request, and_from}
use Rattle.grs_world.proofs.Common.{and_parts, answer_for, ap, Asked, awake, Bool, Choice, cond, decide_own, Deck}
use Rattle.grs_world.proofs.Common.{desk_told, drop, entry_for, false, fixing_none, has, has-without_other}
use Rattle.grs_world.proofs.Common.{has-without_same, has_interest, inbox, is_busy_in, is_done_with, is_entry}
use Rattle.grs_world.proofs.Common.{is_for_deck, known_from, leave_reply, left_at, left_words, lines_of, List, list_any}
use Rattle.grs_world.proofs.Common.{Mail, manager_at, manages, may_go, may_send, MediumState, most_systems, next_order}
use Rattle.grs_world.proofs.Common.{no_elements, no_truth, NodeState, None, not, only, owners_by, rank_of, refl, Req}
use Rattle.grs_world.proofs.Common.{request_of, Res, res_wanted, same_Some, slice_get, slice_set, Some, stale, StarPart}
use Rattle.grs_world.proofs.Common.{StarStep, state_of, submitted_words, subst, suc, sym, SysId, task_step, TaskId}
use Rattle.grs_world.proofs.Common.{TasksView, tell_new, to_tell, true, true≢false, Turnout, with_entry, with_interest}
use Rattle.grs_world.proofs.Common.{with_mail, with_phase, with_star, without, without_first, without_those, word_at}
use Rattle.grs_world.proofs.Common.{zero, ℕ, ℕ_discrete}
use Rattle.grs_node.specs.Star.{begun as begun_now, is_being_gathered, may_leave as may_leave_now, serves}
use Rattle.grs_node.specs.Star.{settled_first as settled_now, told_by}
use Rattle.grs_node.specs.Node.{take_mail as take_now, took_mail as took_now}
use Rattle.grs_wire.specs.Masks.{without_all}
use Rattle.std.proofs.lemmas.List.{set-get_or}
use Rattle.grs_medium.specs.Apply.{is_live}
use Rattle.grs_world.proofs.run.Came.{RemovesNoneInStar, Result, no_part}
use Rattle.grs_world.proofs.run.Knowing.{KnowsRemoved}
use Rattle.grs_world.proofs.star.Calm.{HasNoneOf, IsCalm, first-is, held-is, losing-nothing, not-owed, rest-is}
use Rattle.grs_wire.specs.declared.deck.Order.TheVariants as orders
use Rattle.grs_wire.specs.declared.medium.Mail.TheVariants as mails
use Rattle.grs_wire.specs.declared.medium.Reply.TheVariants as replies
use Rattle.grs_wire.specs.declared.request.Fixed.TheVariants as fixes
use Rattle.grs_wire.specs.declared.told.Said.TheVariants as saids
use Rattle.task_state.specs.declared.state.Phase.TheVariants as phases
use Rattle.grs_world.proofs.run.Came as any

-- ---- the steps
abbrev pub begun : StarPart → ℕ → StarPart
begun p e = with_interest (record p { manager = with_entry p.manager (Some e) (Some no_elements) }) e true

abbrev pub with_held : StarPart → ℕ → Req → StarPart
with_held p e q = cond (is_entry e (entry_for p q.want) && manages p e) (record p { held = p.held ++ q ∷ [] }) p

unfoldable pub took_mail : TasksView → StarPart → Mail → StarStep
took_mail v p (mails.Request e from q) = fixing_none v (with_held p e q)
took_mail v p mail = fixing_none (after_mail v mail) p

abbrev pub take_mail : Deck → TasksView → StarPart → Mail → StarStep
take_mail deck v p mail = cond (is_for_deck deck mail) (took_mail v p mail) (fixing_none v p)

abbrev pub settled_first : TasksView → StarPart → Req → StarStep
settled_first v p q = record {
  tasks = tell_new v (res_wanted q.want) (owners_by p q);
  part = record p { manager = after_request p.manager q.task q.want; held = drop 1 p.held };
  fixed = fixes.Asked q ∷ [];
}

abbrev pub may_leave : StarPart → TasksView → ℕ → Bool
may_leave p v e = has_interest p e && (not (list_any (is_busy_in p e) v.tasks) && is_done_with p e)

-- ---- what came of an event that a system makes by its part
pub record IsToSend (deck : Deck) (n : NodeState) (p : StarPart) (t : TaskId) (a : Asked) (x : ℕ) : Type 0 where
  pub may : may_send deck n t ≡ true
  pub asks : (state_of n.tasks t).outstanding ≡ Some a
  pub entry : entry_for p a.req.want ≡ Some x

pub data Acts (deck : Deck) (m : MediumState) (s : SysId) (n : NodeState) (p : StarPart) : Turnout → Type 0 where
  decided : (t : TaskId) (a : Asked) (x : ℕ) → IsToSend deck n p t a x → manages p x ≡ true
      → Acts deck m s n p (record { medium = m; step = with_star n (decide_own n.tasks p t a) })
  began : (t : TaskId) (a : Asked) (x : ℕ) → IsToSend deck n p t a x → manages p x ≡ false
      → manager_at m.words x ≡ None →
      Acts deck m s n p (record {
        medium = record m { words = submitted_words m.words x s; rest = awake m s };
        step = with_star n (decide_own n.tasks (begun p x) t a);
      })
  sent : (t : TaskId) (a : Asked) (x : ℕ) → IsToSend deck n p t a x → manages p x ≡ false → (to : SysId)
      → manager_at m.words x ≡ Some to → (to.0 == s.0) ≡ false →
      Acts deck m s n p (record {
        medium =
            record m {
              words = submitted_words m.words x s;
              inboxes = with_mail m.inboxes to.0 (mails.Request x s (request_of t a));
              rest = awake m s;
            };
        step = with_star n (fixing_none (with_phase n.tasks t phases.Sent) (with_interest p x true));
      })
  took : (mail : Mail) (rest : List Mail) → inbox m s.0 ≡ mail ∷ rest →
      Acts deck m s n p (record {
        medium = record m { inboxes = without_first m.inboxes s.0; rest = awake m s };
        step = with_star n (take_mail deck n.tasks p mail);
      })
  settled : (q : Req) → slice_get p.held 0 ≡ Some q → serves p q ≡ true →
      Acts deck m s n p (record {
        medium =
            record m {
              inboxes =
                  with_mail m.inboxes q.task.system.0 (mails.Answered q.task (answer_for p q) (rank_of p q));
              rest = awake m s;
            };
        step = with_star n (settled_first n.tasks p q);
      })
  told : (e : ℕ) (x : TaskId × Res) → to_tell p e ≡ Some x →
      Acts deck m s n p (record {
        medium =
            record m { inboxes = with_mail m.inboxes x.0.system.0 (mails.Granted x.0 x.1); rest = awake m s };
        step = with_star n (fixing_none n.tasks (told_by p (Some x)));
      })
  left : (x : ℕ) (flags : ℕ) → may_leave p n.tasks x ≡ true
      → leave_reply (word_at m.words x) s ≡ replies.Left →
      Acts deck m s n p (record {
        medium = record m { words = left_words m.words x s; rest = flags };
        step = with_star n (fixing_none n.tasks (left_at p x));
      })

-- ---- what came of any event of a system that has changed
pub data Came (deck : Deck) (m : MediumState) (s : SysId) (n : NodeState) (p : StarPart) : Turnout → Type 0 where
  nothing : (flags : ℕ) → Came deck m s n p (record { medium = record m { rest = flags }; step = only n })
  informed : (known : ℕ) → Came deck m s n p (record { medium = m; step = only (record n { known = known }) })
  went_on : (t : TaskId) → may_go deck n t ≡ true
      → Came deck m s n p (record { medium = m; step = task_step deck.limit n t (lines_of deck t) })
  already : next_order deck n ≡ Some orders.Star
      → Came deck m s n p (record { medium = m; step = only (desk_told n saids.StarAlready) })
  no_such : (target : SysId) → next_order deck n ≡ Some (orders.Vary target) → is_live m target ≡ false
      → Came deck m s n p (record { medium = m; step = only (desk_told n saids.VaryNoSuch) })
  acted : (o : Turnout) → Acts deck m s n p o → Came deck m s n p o

-- ---- where that is so
-- a mail that isn't of a removal, nor of a system that is known to be removed
abbrev pub IsUsualMail : ℕ → Mail → Type 0
IsUsualMail known (mails.Request e from q) = has known q.task.system.0 ≡ false
IsUsualMail known (mails.Answered t answer rank) = Unit {0}
IsUsualMail known (mails.Granted t r) = Unit {0}
IsUsualMail known (mails.Notice target moved) = ⊥
IsUsualMail known (mails.Part e from records) = ⊥

-- What holds of a system in star mode where no system was removed there.
pub record IsUsual (deck : Deck) (m : MediumState) (s : SysId) (n : NodeState) (p : StarPart) : Type 0 where
  pub star : n.star ≡ Some p
  pub calm : IsCalm p.gathers p.owes
  -- it keeps nothing of a removed system, and knows of no other one
  pub gone : (u : ℕ) → has m.removed u ≡ true → HasNoneOf p u
  pub known : KnowsRemoved m n
  -- it manages an entry where the word names it, and then has interest in it
  pub roles : (e : ℕ) (to : SysId) → manager_at m.words e ≡ Some to → manages p e ≡ (to.0 == s.0)
  pub free : (e : ℕ) → manager_at m.words e ≡ None → manages p e ≡ false
  pub near : (e : ℕ) → manages p e ≡ true → has_interest p e ≡ true
  -- it serves the request that it holds first
  pub first : (q : Req) → slice_get p.held 0 ≡ Some q → serves p q ≡ true
  pub mail : (next : Mail) (rest : List Mail) → inbox m s.0 ≡ next ∷ rest → IsUsualMail n.known next

-- what is left of a set without those of another is of the set
of-below : (k m f v : ℕ) → has (without_all k m f) v ≡ true → has f v ≡ true
of-below zero m f v h = h
of-below (suc k) m f v h = go (has m k) (of-below k m f v) h
  where
    one : (has (without_all k m f) v ≡ true → has f v ≡ true) → has (without (without_all k m f) k) v ≡ true
        → Dec (v ≡ k) → has f v ≡ true
    one more h (yes same) =
        absurd (true≢false (sym h
        ∙ (ap (has (without (without_all k m f) k)) same ∙ has-without_same (without_all k m f) k)))
    one more h (no other) = more (sym (has-without_other (without_all k m f) k v other) ∙ h)

    go : (b : Bool) → (has (without_all k m f) v ≡ true → has f v ≡ true)
        → has (cond b (without (without_all k m f) k) (without_all k m f)) v ≡ true → has f v ≡ true
    go true more h = one more h (ℕ_discrete v k)
    go false more h = more h

pub of-those : (m f v : ℕ) → has (without_those m f) v ≡ true → has f v ≡ true
of-those m f v h = of-below most_systems m f v h

module _ (deck : Deck) (m : MediumState) (s : SysId) (n : NodeState) (p : StarPart) (u : IsUsual deck m s n p) where
  -- an entry that it manages already
  begun-again : (e : ℕ) → manages p e ≡ true → begun_now p e ≡ p
  begun-again e mine =
      ap (λ b.
      with_interest (record p { manager = cond b p.manager (with_entry p.manager (Some e) (Some no_elements)) }) e true)
      mine
      ∙ ap (λ (bs : List Bool). record p { interest = bs })
      (ap (slice_set p.interest e) (sym (u.near e mine)) ∙ set-get_or p.interest e false)

  begun-is : (e : ℕ) → manages p e ≡ false → begun_now p e ≡ begun p e
  begun-is e other =
      ap (λ b.
      with_interest (record p { manager = cond b p.manager (with_entry p.manager (Some e) (Some no_elements)) }) e true)
      other

  -- the mail
  took-is : (mail : Mail) → IsUsualMail n.known mail
      → took_now deck n.known n.tasks p mail ≡ took_mail n.tasks p mail
  unfolding took_now took_mail
  took-is (mails.Request e from q) there = ap (fixing_none n.tasks) (held-is p u.calm n.known e q there)
  took-is (mails.Answered t answer rank) fine = refl
  took-is (mails.Granted t r) fine = refl
  took-is (mails.Notice target moved) never = absurd never
  took-is (mails.Part e from records) never = absurd never

  take-is : (mail : Mail) → IsUsualMail n.known mail
      → take_now deck n.known n.tasks p mail ≡ take_mail deck n.tasks p mail
  take-is mail fine = ap (λ x. cond (is_for_deck deck mail) x (fixing_none n.tasks p)) (took-is mail fine)

  settled-is : (q : Req) → settled_now n.tasks p q ≡ settled_first n.tasks p q
  settled-is q =
      ap (λ (qs : List Req). let x : StarStep = record {
        tasks = tell_new n.tasks (res_wanted q.want) (owners_by p q);
        part = record p { manager = after_request p.manager q.task q.want; held = qs };
        fixed = fixes.Asked q ∷ [];
      } in x)
      (rest-is p u.calm)

  may-leave : (e : ℕ) → may_leave_now p n.tasks e ≡ true → may_leave p n.tasks e ≡ true
  may-leave e h =
      let busy : Bool = not (list_any (is_busy_in p e) n.tasks.tasks) in
      let outer = and_parts (has_interest p e) (busy && (is_done_with p e && not (is_being_gathered p e))) h in
      let inner = and_parts busy (is_done_with p e && not (is_being_gathered p e)) outer.1 in
      and_from (has_interest p e) (busy && is_done_with p e) outer.0
      (and_from busy (is_done_with p e) inner.0 (and_parts (is_done_with p e) (not (is_being_gathered p e)) inner.1).0)

  -- it learns which systems were removed
  known-removed : (v : ℕ) → has (known_from deck n.known m.removed) v ≡ true → has m.removed v ≡ true
  known-removed v = go _
    where
      go : (b : Bool) → has (cond b m.removed n.known) v ≡ true → has m.removed v ≡ true
      go true h = h
      go false h = u.known v h

  stale-is : stale deck n m.removed ≡ record n { known = known_from deck n.known m.removed }
  unfolding stale
  stale-is =
      losing-nothing p u.calm deck (record n { known = known_from deck n.known m.removed }) u.star
      (without_those n.known (known_from deck n.known m.removed))
      (λ v h.
      u.gone v (known-removed v (of-those n.known (known_from deck n.known m.removed) v h)))

  acts : (choice : Choice) (b : Result) (o : Turnout) → any.Acts deck m s n p choice b o → Acts deck m s n p o
  acts choice b o (any.decided t a x asked to at same) =
      let mine : manages p x ≡ true = u.roles x to at ∙ same in
      subst (λ q. Acts deck m s n p (record { medium = m; step = with_star n (decide_own n.tasks q t a) }))
      (sym (begun-again x mine))
      (decided t a x (record { may = asked.may; asks = asked.asks; entry = asked.entry }) mine)
  acts choice b o (any.began t a x asked none) =
      let other : manages p x ≡ false = u.free x none in
      subst (λ q.
      Acts deck m s n p (record {
        medium = record m { words = submitted_words m.words x s; rest = awake m s };
        step = with_star n (decide_own n.tasks q t a);
      }))
      (sym (begun-is x other))
      (began t a x (record { may = asked.may; asks = asked.asks; entry = asked.entry }) other none)
  acts choice b o (any.sent t a x asked to at apart) =
      sent t a x (record { may = asked.may; asks = asked.asks; entry = asked.entry }) (u.roles x to at ∙ apart) to at
      apart
  acts choice b o (any.took mail rest at) =
      subst (λ st.
      Acts deck m s n p (record {
        medium = record m { inboxes = without_first m.inboxes s.0; rest = awake m s };
        step = with_star n st;
      }))
      (sym (take-is mail (u.mail mail rest at))) (took mail rest at)
  acts choice b o (any.settled q first) =
      subst (λ st.
      Acts deck m s n p (record {
        medium =
            record m {
              inboxes =
                  with_mail m.inboxes q.task.system.0 (mails.Answered q.task (answer_for p q) (rank_of p q));
              rest = awake m s;
            };
        step = with_star n st;
      }))
      (sym (settled-is q))
      (settled q (sym (first-is p u.calm) ∙ first) (u.first q (sym (first-is p u.calm) ∙ first)))
  acts choice b o (any.told e x next) = told e x next
  acts choice b o (any.parted e to owes unknown) =
      absurd (let none : None ≡ Some to = sym (not-owed p u.calm e) ∙ owes in cc)
  acts choice b o (any.left x flags free by) = left x flags (may-leave x free) by

  pub came-usual : (mode : m.star ≡ true) (choice : Choice) (b : Result) (o : Turnout) → RemovesNoneInStar m b
      → any.Came deck m s n choice b o → Came deck m s n p o
  came-usual mode choice b o kept (any.nothing k r silent flags) = nothing flags
  came-usual mode choice b o kept (any.informed k) =
      subst (λ z. Came deck m s n p (record { medium = m; step = only z })) (sym stale-is)
      (informed (known_from deck n.known m.removed))
  came-usual mode choice b o kept (any.went_on t may) = went_on t may
  came-usual mode choice b o kept (any.turn flags alone unclosed here) = no_part n p u.star alone
  came-usual mode choice b o kept (any.last_turn flags alone shut here) = no_part n p u.star alone
  came-usual mode choice b o kept (any.changed ring next seen) = no_truth m.star mode ring
  came-usual mode choice b o kept (any.already star next) = already next
  came-usual mode choice b o kept (any.removes_one target ring next lives) = no_truth m.star mode ring
  came-usual mode choice b o kept (any.removes_star target star next lives) = absurd (kept mode refl)
  came-usual mode choice b o kept (any.no_such target next gone) = no_such target next gone
  came-usual mode choice b o kept (any.acted q is k r x a) =
      acted o (acts choice b o
      (subst (λ z. any.Acts deck m s n z choice b o) (same_Some q p (sym is ∙ u.star)) a))
