-- A request of one of its tasks is sent: it is decided by the system itself, where it manages the entry or nobody does,
-- or goes to the manager of its entry.
use Rattle.grs_world.proofs.Common.{[], ◌&&◌, ◌++◌, ◌<◌, ◌==◌, ◌||◌, ◌∙◌, ◌∷◌, ◌≡◌, ◌≤◌, after_request, Alike, and_from}
use Rattle.grs_world.proofs.Common.{and_parts, answer_for, answer_to, ap, are_sent, arith, Asked, askers, awake, Bool}
use Rattle.grs_world.proofs.Common.{decide_own, Deck, entry_for, entry_wanted, eq-eqb, eqb-false, false, fixing_none}
use Rattle.grs_world.proofs.Common.{inbox, is_among, is_entry, is_home_at, is_of_deck, is_sent, is_some, is_task}
use Rattle.grs_world.proofs.Common.{is_task-system, is_to_send, IsOurs, items, items_of, kept_for, length, lines_of}
use Rattle.grs_world.proofs.Common.{List, list_of, lists, lists-push, made_item, Managed, managed_at, manager_at}
use Rattle.grs_world.proofs.Common.{manages, may_send, Meaning, new_owners, no_elements, NodeState, None, not, Option}
use Rattle.grs_world.proofs.Common.{owners_by, owns, Phase, plain, rank_of, refl, Req, request_of, Res, res_wanted}
use Rattle.grs_world.proofs.Common.{RunItem, same_task, Some, StarPart, State, state_of, submitted_words, subst, suc}
use Rattle.grs_world.proofs.Common.{sym, SysId, TaskId, TasksView, tell_answer_ranked, tell_new, true, with_interest}
use Rattle.grs_world.proofs.Common.{with_mail, with_phase, with_star, World, ℕ}
use Rattle.grs_known.proofs.lists.Alike.{answer-alike, owners-alike}
use Rattle.grs_node.specs.Star.{lists_for}
use Rattle.grs_known.proofs.lists.Owners.{new-owns}
use Rattle.grs_world.proofs.star.Plain.{begun}
use Rattle.grs_world.proofs.system.AtNode.{opens_of}
use Rattle.grs_world.proofs.system.Puts.{home-task}
use Rattle.grs_world.proofs.star.Events.{begun_part}
use Rattle.grs_world.proofs.star.Ghosts.{ghosted}
use Rattle.grs_world.proofs.star.Members.{IsPart, IsMember, manager-here, all_lists}
use Rattle.grs_world.proofs.star.Roles.{want-within}
use Rattle.grs_world.proofs.star.Sending.{WordsGrow, outcome-sent, outcome-decided, words-stay, submit-first}
use Rattle.grs_world.proofs.star.Sending.{submit-grows, submit-near}
use Rattle.grs_world.proofs.star.Systems.{IsSystem, here}
use Rattle.grs_world.proofs.star.Under.{under, entry-same, answer-under, owners-under}
use Rattle.grs_world.proofs.star.Worlds.{IsWhole}
use Rattle.grs_world.proofs.star.hearing.Decided.{heard-decided}
use Rattle.grs_world.proofs.star.hearing.Gains.{beginning-next, beginning-untold, untold_of}
use Rattle.grs_world.proofs.star.ranks.Carried.{CarriesRank, entry-all, has_this_rank}
use Rattle.grs_world.proofs.star.ranks.Decides.{ranked-decided}
use Rattle.grs_world.proofs.star.steps.Outcome.{Comes}
use Rattle.grs_world.proofs.run.Site.{Site}
use Rattle.grs_wire.specs.declared.medium.Mail.TheVariants as mails
use Rattle.grs_wire.specs.declared.request.Fixed.TheVariants as fixing
use Rattle.task_state.specs.declared.state.Phase.TheVariants as phases

-- a task whose request waits to be sent has sent none
waits-free : (t : TaskId) (p : Phase) (qs : List Req) → is_to_send p ≡ true → are_sent t p qs ≡ true
    → is_among t (askers qs) ≡ false
waits-free t p [] waits h = refl
waits-free t p (q ∷ qs) waits h = go (same_task t q.task) h (waits-free t p qs waits)
  where
    not_both : (k : Phase) → is_to_send k ≡ true → is_sent k ≡ true → ⊥
    not_both phases.Ready e f = absurd (cc)
    not_both phases.ToSend e f = absurd (cc)
    not_both phases.Sent e f = absurd (cc)
    not_both phases.HeldAnswer e f = absurd (cc)
    not_both (phases.HeldLine r) e f = absurd (cc)
    not_both (phases.Ending code) e f = absurd (cc)
    not_both phases.Ended e f = absurd (cc)

    go : (b : Bool) → ((not b || is_sent p) && are_sent t p qs) ≡ true
        → (are_sent t p qs ≡ true → is_among t (askers qs) ≡ false) → (b || is_among t (askers qs)) ≡ false
    go true f more = absurd (not_both p waits (and_parts (is_sent p) (are_sent t p qs) f).0)
    go false f more = more f

-- A manager decides by its lists as all lists would.
module _ (deck : Deck) (words : List ℕ) (L : State) (s : ℕ) (p : StarPart) (k : IsPart deck words L s p) (x : ℕ)
    (mine : manages p x ≡ true) (v : TasksView) (t : TaskId) (a : Asked)
    (at : entry_wanted deck.entries a.req.want ≡ Some x) where
  lists-are : Alike (lists_for p a.req.want) (under deck.entries x L)
  lists-are =
      subst (λ o. Alike (plain (items_of (kept_for p.manager.entries o))) (under deck.entries x L))
      (sym (ap (λ i. entry_wanted i a.req.want) k.entries ∙ at)) (k.lists x mine)

  here_at : is_entry x (entry_wanted deck.entries a.req.want) ≡ true
  here_at = entry-same x (entry_wanted deck.entries a.req.want) at

  decides-as :
      tell_new (tell_answer_ranked v t a (answer_to L t a.req.want) (rank_of p (request_of t a)))
      (res_wanted a.req.want) (new_owners L t a.req.want)
      ≡
      tell_new (tell_answer_ranked v t a (answer_for p (request_of t a)) (rank_of p (request_of t a)))
      (res_wanted a.req.want) (owners_by p (request_of t a))
  decides-as = sym (
      ap (λ z.
      tell_new (tell_answer_ranked v t a z (rank_of p (request_of t a))) (res_wanted a.req.want)
      (owners_by p (request_of t a)))
      (answer-alike (lists_for p a.req.want) (under deck.entries x L) t a.req.want lists-are)
      ∙ ap (λ z.
      tell_new (tell_answer_ranked v t a (answer_to (under deck.entries x L) t a.req.want) (rank_of p (request_of t a)))
      (res_wanted a.req.want) z)
      (owners-alike (lists_for p a.req.want) (under deck.entries x L) t a.req.want lists-are)
      ∙ ap (λ z.
      tell_new (tell_answer_ranked v t a z (rank_of p (request_of t a))) (res_wanted a.req.want)
      (new_owners (under deck.entries x L) t a.req.want))
      (answer-under deck.entries x L t a.req.want here_at)
      ∙ ap (λ z.
      tell_new (tell_answer_ranked v t a (answer_to L t a.req.want) (rank_of p (request_of t a)))
      (res_wanted a.req.want) z)
      (owners-under deck.entries x L t a.req.want here_at)
      )

module _ (deck : Deck) (some : 0 < deck.entries) (w : World) (g : IsWhole deck w) (c : SysId) (inside : c.0 < 8)
    (n : NodeState) (at : Site w c.0 n) where
  abbrev words : List ℕ
  words = w.medium.words

  abbrev L : State
  L = all_lists w

  abbrev T : List RunItem
  T = items w.fixed

  abbrev me : IsMember deck w.medium.words (all_lists w) c.0 n
  me = g.roles.node c.0 n at

  abbrev p : StarPart
  p = (g.roles.node c.0 n at).part

  abbrev h : IsSystem deck w.medium.words (items w.fixed) c.0 n (inbox w.medium c.0) (g.later c.0) (g.out c.0)
  h = g.system c.0 n at

  -- ---- a task whose request waits to be sent
  module _ (t : TaskId) (may : may_send deck n t ≡ true) where
    home : is_home_at deck c.0 t ≡ true
    unfolding may_send
    home =
        let both = and_parts (is_task n.tasks t) (is_of_deck deck t && is_to_send (state_of n.tasks t).phase) may in
        let more = and_parts (is_of_deck deck t) (is_to_send (state_of n.tasks t).phase) both.1 in
        and_from (t.system.0 == c.0) (is_some (lines_of deck t))
        (eq-eqb t.system.0 c.0 (sym (is_task-system n.tasks t both.0) ∙ h.at.good.system)) more.0

    waits : is_to_send (state_of n.tasks t).phase ≡ true
    unfolding may_send
    waits =
        let both = and_parts (is_task n.tasks t) (is_of_deck deck t && is_to_send (state_of n.tasks t).phase) may in
        (and_parts (is_of_deck deck t) (is_to_send (state_of n.tasks t).phase) both.1).1

    abbrev lines : (ls : List Meaning) × IsOurs deck c.0 n.tasks t ls
    lines = home-task deck c.0 (opens_of (g.later c.0) (g.out c.0) (ghosted n)) T n.tasks t h.at.good home

    free : is_among t (askers (g.out c.0)) ≡ false
    free =
        waits-free t (state_of n.tasks t).phase (g.out c.0) waits
        (here deck c.0 (items w.fixed) (g.later c.0) (g.out c.0) n h.at t home).sent

    -- what it asks
    module _ (a : Asked) (is : (state_of n.tasks t).outstanding ≡ Some a) where
      owned : (r : Res) → res_wanted a.req.want ≡ Some r → (u : TaskId) → is_among u (new_owners L t a.req.want) ≡ true
          → owns (list_of (lists (items w.fixed ++ made_item c T (fixing.Asked (request_of t a)) ∷ [])) r) u ≡ true
      owned r wanted u among =
          subst (λ s. owns (list_of s r) u ≡ true) (sym (lists-push T (made_item c T (fixing.Asked (request_of t a)))))
          (new-owns L t a.req.want r u wanted among)

      -- of which entry
      module _ (x : ℕ) (asks : entry_for p a.req.want ≡ Some x) where
        of_entry : entry_wanted deck.entries a.req.want ≡ Some x
        of_entry = ap (λ k. entry_wanted k a.req.want) (sym me.fits.entries) ∙ asks

        inside_words : x < length w.medium.words
        inside_words = let k = want-within deck.entries a.req.want x some of_entry in omega (arith, k, g.roles.words)

        -- it is decided by these words and this part, which manages the entry
        decided : (ws : List ℕ) (flags : ℕ) (grow : WordsGrow w.medium.words ws) (q : StarPart) → IsPart deck ws L c.0 q
            → manages q x ≡ true → q.held ≡ p.held
            → ((v : Res) (u : TaskId) → untold_of p.manager v u ≡ true → untold_of q.manager v u ≡ true)
            → ((k : ℕ) → ((i : ℕ) (z : Managed) → managed_at p.manager i ≡ Some z → z.next ≤ suc k)
            → (i : ℕ) (z : Managed) → managed_at q.manager i ≡ Some z → z.next ≤ suc k)
            → ((r : Res) (u : TaskId) (k : ℕ) → CarriesRank r u k p.manager → CarriesRank r u k q.manager)
            → Comes deck w g c n (record {
              medium = record w.medium { words = ws; rest = flags };
              step = with_star n (decide_own n.tasks q t a);
            })
        unfolding decide_own
        decided ws flags grow q fits mine held begins low carries =
            subst (λ (v : TasksView).
            Comes deck w g c n (record {
              medium = record w.medium { words = ws; rest = flags };
              step =
                  with_star n (record {
                    tasks = v;
                    part = record q { manager = after_request q.manager t a.req.want };
                    fixed = fixing.Asked (request_of t a) ∷ [];
                  });
            }))
            (decides-as deck ws L c.0 q fits x mine n.tasks t a of_entry)
            (outcome-decided deck w g c n at ws grow flags t lines.0 lines.1 home a is free x of_entry
            (sym (fits.roles x) ∙ mine) (new_owners L t a.req.want) (rank_of q (request_of t a)) p
            (record q { manager = after_request q.manager t a.req.want }) me.star held owned
            (heard-decided deck w g c n at ws flags t home a free x of_entry (sym (fits.roles x) ∙ mine)
            (rank_of q (request_of t a)) p q me.star fits held begins low)
            (ranked-decided deck w g c n at ws flags t home a free x of_entry (sym (fits.roles x) ∙ mine) p q me.star
            fits carries))

        -- the system manages the entry itself
        pub outcome-own : manages p x ≡ true
            → Comes deck w g c n (record { medium = w.medium; step = with_star n (decide_own n.tasks p t a) })
        outcome-own mine = decided words w.medium.rest (words-stay words) p me.fits mine refl (λ v u h. h) (λ k h. h)
            (λ r u k h. h)

        -- another system manages it, or nobody does
        module _ (not_mine : manages p x ≡ false) where
          abbrev now : List ℕ
          now = submitted_words w.medium.words x c

          grow : WordsGrow w.medium.words now
          grow = submit-grows words x c inside_words inside g.roles.managed

          -- nothing is kept of an entry that the system doesn't manage
          none_kept : managed_at p.manager x ≡ None
          none_kept = by_kept (managed_at p.manager x) refl not_mine
            where
              by_kept : (o : Option Managed) → managed_at p.manager x ≡ o → is_some (managed_at p.manager x) ≡ false
                  → managed_at p.manager x ≡ None
              by_kept None e f = e
              by_kept (Some m) e f = absurd (let bad : true ≡ false = sym (ap is_some e) ∙ f in cc)

          there : x < length p.manager.entries
          there = let k = want-within deck.entries a.req.want x some of_entry in omega (arith, k, me.fits.entries)

          pub outcome-began : manager_at w.medium.words x ≡ None →
              Comes deck w g c n (record {
                medium = record w.medium { words = submitted_words w.medium.words x c; rest = awake w.medium c };
                step = with_star n (decide_own n.tasks (begun p x) t a);
              })
          outcome-began nobody =
              let fits =
              begun_part deck some w c inside n at g.roles me x
              (want-within deck.entries a.req.want x some of_entry) nobody in
              decided now (awake w.medium c) grow (begun p x) fits
              (fits.roles x ∙ submit-first words x c inside_words inside g.roles.managed nobody) refl
              (λ v u h. beginning-untold p.manager x there none_kept v u h)
              (λ k h. beginning-next p.manager x there k h)
              (λ r u k h.
              entry-all (has_this_rank r u k) (λ b y. refl) (λ y. refl) p.manager (Some x) (Some no_elements) refl h)

          pub outcome-away : (s : SysId) → manager_at w.medium.words x ≡ Some s → (s.0 == c.0) ≡ false →
              Comes deck w g c n (record {
                medium =
                    record w.medium {
                      words = submitted_words w.medium.words x c;
                      inboxes = with_mail w.medium.inboxes s.0 (mails.Request x c (request_of t a));
                      rest = awake w.medium c;
                    };
                step = with_star n (fixing_none (with_phase n.tasks t phases.Sent) (with_interest p x true));
              })
          outcome-away s manager apart =
              outcome-sent deck w g c n at now grow (awake w.medium c) t lines.0 lines.1 home a is free x of_entry
              (submit-near words x c inside_words inside g.roles.managed) s (manager-here words x s manager)
              (eqb-false s.0 c.0 apart) p (with_interest p x true) me.star refl refl
