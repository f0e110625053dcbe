-- Ranks by the event in which a system takes the first mail of its inbox, in the star that loses nobody: an answer
-- makes the record that was due, with its rank, and all else leaves records and ranks.
use Rattle.grs_world.proofs.Common.{[], ◌&&◌, ◌==◌, ◌∙◌, ◌∷◌, ◌≡◌, ◌≢◌, ◌⊎◌, after_mail, and_from, and_parts, Answer}
use Rattle.grs_world.proofs.Common.{Answered, ap, append-nil, arith, Asked, blank, Bool, cond, Deck, eq-eqb, false}
use Rattle.grs_world.proofs.Common.{false_by, Granted, has_effect, has_res, has_task, inbox, inl, inr, is_home_at}
use Rattle.grs_world.proofs.Common.{is_of_deck, is_sent, is_some, is_systems, is_task, is_task-system, items}
use Rattle.grs_world.proofs.Common.{last_number, lines_of, List, list_any, list_of, lists, Mail, ManagerView, nat_le}
use Rattle.grs_world.proofs.Common.{no_truth, NodeState, placed, refl, Req, Res, same_Some, same_task, same_task-exact}
use Rattle.grs_world.proofs.Common.{same_task-itself, Some, StarPart, state_of, subst, sym, SysId, TaskId, TaskState}
use Rattle.grs_world.proofs.Common.{TasksView, tell_answer_any_ranked, tell_answer_ranked, tell_control, true, Turnout}
use Rattle.grs_world.proofs.Common.{without_first, World, ℕ}
use Rattle.star_client.specs.Client.{has_sent, is_awaited}
use Rattle.grs_known.specs.Known.{learns_item}
use Rattle.grs_known.proofs.known.Blank.{no-answer}
use Rattle.grs_wire.specs.declared.medium.Mail.TheVariants.{Request}
use Rattle.std.specs.Prelude.{drop}
use Rattle.grs_known.proofs.lists.Truths.{or_off}
use Rattle.grs_world.proofs.star.ranks.Carried.{CarriesRank}
use Rattle.grs_world.proofs.star.ranks.Ranked.{LeavesRanks, StaysRanked, shown-placed}
use Rattle.grs_world.proofs.star.ranks.Shows.{Shows, comes-behind, comes_with, shows-answered, shows-granted}
use Rattle.grs_world.proofs.star.ranks.Shows.{shows-other}
use Rattle.grs_world.proofs.run.Site.{Site, site-below}
use Rattle.grs_world.proofs.star.Boxes.{taken-box, untaken-box}
use Rattle.grs_world.proofs.star.Heard.{grants, is_timely}
use Rattle.grs_world.proofs.star.Members.{IsPart, all_lists}
use Rattle.grs_world.proofs.star.Systems.{IsSystem, is_late, news_of}
use Rattle.grs_world.proofs.star.Worlds.{IsWhole, items-none}
use Rattle.grs_world.proofs.star.hearing.Decided.{one-place}
use Rattle.grs_world.proofs.star.hearing.Elements.{IsAnswered, answer-awaited}
use Rattle.grs_world.proofs.star.hearing.Answering.{Answered as AnsweredBy, answered}
use Rattle.grs_world.proofs.star.hearing.Mails.{answers, untimely}
use Rattle.grs_world.proofs.star.hearing.Passing.{own-recorded-ready}
use Rattle.grs_world.proofs.star.hearing.Taken.{effect}

module _ (deck : Deck) (w : World) (g : IsWhole deck w) (c : SysId) (n : NodeState) (at : Site w c.0 n) (p : StarPart)
    (star : n.star ≡ Some p) (flags : ℕ) where
  -- what the event comes to, where the system has these tasks and this part afterwards
  abbrev to : TasksView → StarPart → Turnout
  to v q = record {
    medium = record w.medium { inboxes = without_first w.medium.inboxes c.0; rest = flags };
    step = record { node = record n { tasks = v; star = Some q }; fixed = [] };
  }

  stays : (v : TasksView) (q : StarPart) → LeavesRanks deck w c n (to v q) → StaysRanked deck w c n (to v q)
  stays v q z sent had heard = shown-placed deck w g c n at (to v q) refl z

  module _ (mail : Mail) (rest : List Mail) (is : inbox w.medium c.0 ≡ mail ∷ rest) where
    -- what a mail leaves of what is shown of the system's own tasks
    abbrev LeavesShown : TasksView → Type 0
    LeavesShown v =
        (u : TaskId) (r : Res) (k : ℕ) → is_home_at deck c.0 u ≡ true → is_systems r ≡ true
        → has_task (list_of (all_lists w) r) u ≡ true → Shows r u k (state_of n.tasks u).records (mail ∷ rest)
        → Shows r u k (state_of v u).records rest

    own_box : (v : TasksView) (q : StarPart) → inbox (to v q).medium c.0 ≡ rest
    own_box v q =
        taken-box w.medium.inboxes c.0
        (let there = site-below w c.0 n at in omega (arith, there, g.roles.systems, g.roles.inboxes))
        ∙ ap (drop 1) is

    -- so the event leaves ranks
    taken : (v : TasksView) (q : StarPart) → q.manager ≡ p.manager → LeavesShown v → LeavesRanks deck w c n (to v q)
    taken v q manager leaves = record {
      boxes = λ u ne.
          ([], untaken-box w.medium.inboxes c.0 u ne ∙ sym (append-nil (inbox w.medium u)), tt);
      own = λ u r k home wide stands shown.
          subst (λ (ms : List Mail). Shows r u k (state_of v u).records ms) (sym (own_box v q))
          (leaves u r k home wide
          (sym (ap (λ T. has_task (list_of (lists T) r) u) (items-none w.fixed c)) ∙ stands)
          (subst (λ (ms : List Mail). Shows r u k (state_of n.tasks u).records ms) is shown));
      carries = λ x x' known known' u r k stands has.
          subst (λ (z : StarPart). CarriesRank r u k z.manager) (same_Some q x' known')
          (subst (λ (z : ManagerView). CarriesRank r u k z) (sym manager)
          (subst (λ (z : StarPart). CarriesRank r u k z.manager) (same_Some x p (sym known ∙ star)) has));
      fresh = λ s y u r found home wide before after.
          no_truth (has_task (list_of (all_lists w) r) u)
          (sym (ap (λ T. has_task (list_of (lists T) r) u) (items-none w.fixed c)) ∙ after) before;
    }

  -- a request is held, or dropped
  pub ranked-request : (e : ℕ) (from : SysId) (q : Req) (rest : List Mail)
      → inbox w.medium c.0 ≡ Request e from q ∷ rest → (x : StarPart) → x.manager ≡ p.manager
      → IsWhole deck (placed w c n (to n.tasks x)) → StaysRanked deck w c n (to n.tasks x)
  ranked-request e from q rest is x manager g' =
      stays n.tasks x (taken (Request e from q) rest is n.tasks x manager
      (λ u r k home wide stands h. record { ranked = h.ranked; comes = h.comes }))

  -- control is told
  pub ranked-granted : (t : TaskId) (q : Res) (rest : List Mail) → inbox w.medium c.0 ≡ Granted t q ∷ rest
      → IsWhole deck (placed w c n (to (tell_control n.tasks q t) p))
      → StaysRanked deck w c n (to (tell_control n.tasks q t) p)
  ranked-granted t q rest is g' =
      stays (tell_control n.tasks q t) p (taken (Granted t q) rest is (tell_control n.tasks q t) p refl
      (λ u r k home wide stands h. shows-granted n.tasks r u k rest t q wide h))

  -- and control of no task of the deck isn't
  pub ranked-strange : (t : TaskId) (q : Res) (rest : List Mail) → inbox w.medium c.0 ≡ Granted t q ∷ rest
      → IsWhole deck (placed w c n (to n.tasks p)) → StaysRanked deck w c n (to n.tasks p)
  ranked-strange t q rest is g' =
      stays n.tasks p (taken (Granted t q) rest is n.tasks p refl
      (λ u r k home wide stands h. record { ranked = h.ranked; comes = h.comes }))

  -- an answer that its own task awaits
  module _ (t : TaskId) (answer : Answer) (rank : ℕ) (rest : List Mail)
      (is : inbox w.medium c.0 ≡ Answered t answer rank ∷ rest) (home : is_home_at deck c.0 t ≡ true) (a : Asked) where
    here : is_task n.tasks t ≡ true
    here = (g.system c.0 n at).at.good.here t home

    k : AnsweredBy n.tasks (tell_answer_ranked n.tasks t a answer rank) t a.req.want (grants answer)
    k = answered n.tasks t here a answer rank

    ranks-answered : IsWhole deck (placed w c n (to (tell_answer_ranked n.tasks t a answer rank) p))
        → LeavesRanks deck w c n (to (tell_answer_ranked n.tasks t a answer rank) p)
    ranks-answered g' =
        taken (Answered t answer rank) rest is (tell_answer_ranked n.tasks t a answer rank) p refl
        (λ u r i own wide stands h. by-place u r i stands h (one-place deck w g c.0 n at t u home own))
      where
        unsent : is_sent (state_of (tell_answer_ranked n.tasks t a answer rank) t).phase ≡ false
        unsent = ap (λ (y : TaskState). is_sent y.phase) k.did.state ∙ k.unsent

        recorded : (r : Res) → has_task (list_of (all_lists w) r) t ≡ true
            → has_res r (state_of (tell_answer_ranked n.tasks t a answer rank) t).records ≡ true
        recorded r stands =
            own-recorded-ready deck w g c n at (to (tell_answer_ranked n.tasks t a answer rank) p) refl g' t home r
            (ap (λ T. has_task (list_of (lists T) r) t) (items-none w.fixed c) ∙ stands) unsent

        other : (u : TaskId) → u.task ≢ t.task → same_task u t ≡ false
        other u ne =
            false_by (same_task u t) (λ e. absurd (ne (ap (λ (y : TaskId). y.task) (same_task-exact u t e))))

        by-place : (u : TaskId) (r : Res) (i : ℕ) → has_task (list_of (all_lists w) r) u ≡ true
            → Shows r u i (state_of n.tasks u).records (Answered t answer rank ∷ rest) → (u ≡ t) ⊎ (u.task ≢ t.task)
            → Shows r u i (state_of (tell_answer_ranked n.tasks t a answer rank) u).records rest
        by-place u r i stands h (inr ne) = shows-other n.tasks r u i rest t answer rank (other u ne) ne here a h
        by-place u r i stands h (inl same) =
            subst (λ (z : TaskId). Shows r z i (state_of (tell_answer_ranked n.tasks t a answer rank) z).records rest)
            (sym same)
            (shows-answered n.tasks r t i rest answer rank here a
            (recorded r (ap (has_task (list_of (all_lists w) r)) (sym same) ∙ stands))
            (subst (λ (z : TaskId). Shows r z i (state_of n.tasks z).records (Answered t answer rank ∷ rest)) same h))

  -- an answer to no task of the system
  pub ranked-missed : (t : TaskId) (answer : Answer) (rank : ℕ) (rest : List Mail)
      → inbox w.medium c.0 ≡ Answered t answer rank ∷ rest → is_home_at deck c.0 t ≡ false
      → IsWhole deck (placed w c n (to n.tasks p)) → StaysRanked deck w c n (to n.tasks p)
  ranked-missed t answer rank rest is away g' =
      stays n.tasks p (taken (Answered t answer rank) rest is n.tasks p refl (λ u r k home wide stands h.
      record {
        ranked = h.ranked;
        comes = λ none.
            sym (comes-behind u rest t answer rank
            (false_by (same_task u t) (λ e.
            no_truth (is_home_at deck c.0 t) (ap (is_home_at deck c.0) (sym (same_task-exact u t e)) ∙ home) away)))
            ∙ h.comes none;
      }))

  -- ---- any answer
  module _ (fits : IsPart deck w.medium.words (all_lists w) c.0 p) (t : TaskId) (answer : Answer) (rank : ℕ)
      (rest : List Mail) (is : inbox w.medium c.0 ≡ Answered t answer rank ∷ rest) where
    now : IsSystem deck w.medium.words (items w.fixed) c.0 n (Answered t answer rank ∷ rest) (g.later c.0) (g.out c.0)
    now =
        subst (λ ms. IsSystem deck w.medium.words (items w.fixed) c.0 n ms (g.later c.0) (g.out c.0)) is
        (g.system c.0 n at)

    -- behind it no other one comes to its task
    only-answer : is_home_at deck c.0 t ≡ true → answers t rest ≡ false
    only-answer home =
        let z = (now.coming t home).0 (same_task-itself t) in
        no-answer t (learns_item (blank (is_late t (g.later c.0))) z.0) (items w.fixed) (news_of rest) refl z.3

    -- One that has no effect comes to no task that has to get a record.
    ranked-silent : (is_home_at deck c.0 t ≡ true → has_effect n.tasks t answer rank ≡ false)
        → StaysRanked deck w c n (to n.tasks p)
    ranked-silent silent sent had heard =
        shown-placed deck w g c n at (to n.tasks p) refl (taken (Answered t answer rank) rest is n.tasks p refl
        (λ u r k home wide stands h. record {
          ranked = h.ranked;
          comes = λ none. go u r k home wide stands h none (same_task u t) refl;
        }))
      where
        in-time : (u : TaskId) → is_home_at deck c.0 u ≡ true → u ≡ t
            → list_any (is_timely u) (Answered t answer rank ∷ rest) ≡ true → nat_le rank last_number ≡ true
        in-time u home same e =
            let late : list_any (is_timely u) rest ≡ false =
            ap (λ z. list_any (is_timely z) rest) same
            ∙ untimely t rest (only-answer (ap (is_home_at deck c.0) (sym same) ∙ home)) in
            (and_parts (same_task u t) (nat_le rank last_number)
            (sym (or_off (same_task u t && nat_le rank last_number) (list_any (is_timely u) rest) late) ∙ e)).1

        lost : (u : TaskId) (r : Res) → is_home_at deck c.0 u ≡ true → u ≡ t
            → has_res r (state_of n.tasks u).records ≡ false
            → (has_res r (state_of n.tasks u).records ≡ true) ⊎ (list_any (is_timely u) (inbox w.medium c.0) ≡ true)
            → ⊥
        lost u r home same none (inl e) = no_truth (has_res r (state_of n.tasks u).records) e none
        lost u r home same none (inr e) =
            let own : is_home_at deck c.0 t ≡ true = ap (is_home_at deck c.0) (sym same) ∙ home in
            no_truth (has_effect n.tasks t answer rank)
            (effect deck w g c n at p star fits rest flags t answer rank is own
            (in-time u home same (ap (list_any (is_timely u)) (sym is) ∙ e)))
            (silent own)

        go : (u : TaskId) (r : Res) (k : ℕ) → is_home_at deck c.0 u ≡ true → is_systems r ≡ true
            → has_task (list_of (all_lists w) r) u ≡ true
            → Shows r u k (state_of n.tasks u).records (Answered t answer rank ∷ rest)
            → has_res r (state_of n.tasks u).records ≡ false → (b : Bool) → same_task u t ≡ b
            → comes_with u rest ≡ Some k
        go u r k home wide stands h none false e = sym (comes-behind u rest t answer rank e) ∙ h.comes none
        go u r k home wide stands h none true e =
            absurd (lost u r home (same_task-exact u t e) none (heard.recorded c.0 n u r at home wide stands))

    abbrev Stays : TasksView → Type 0
    Stays v = IsWhole deck (placed w c n (to v p)) → StaysRanked deck w c n (to v p)

    pub ranked-answered : is_of_deck deck t ≡ true → IsWhole deck (placed w c n
        (to (after_mail n.tasks (Answered t answer rank)) p))
        → StaysRanked deck w c n (to (after_mail n.tasks (Answered t answer rank)) p)
    unfolding after_mail
    ranked-answered of_deck = go (has_effect n.tasks t answer rank) refl
      where
        go : (b : Bool) → has_effect n.tasks t answer rank ≡ b
            → Stays (cond (has_effect n.tasks t answer rank)
            (tell_answer_any_ranked n.tasks t answer rank (state_of n.tasks t).outstanding) n.tasks)
        go false e =
            subst (λ b.
            Stays (cond b (tell_answer_any_ranked n.tasks t answer rank (state_of n.tasks t).outstanding) n.tasks))
            (sym e) (λ g'. ranked-silent (λ home. e))
        go true e =
            let both =
            and_parts (has_sent n.tasks t)
            (nat_le rank last_number && is_awaited answer (state_of n.tasks t).outstanding) e in
            let there = (and_parts (is_task n.tasks t) (is_sent (state_of n.tasks t).phase) both.0).0 in
            let own : is_home_at deck c.0 t ≡ true =
            and_from (t.system.0 == c.0) (is_some (lines_of deck t))
            (eq-eqb t.system.0 c.0 (sym (is_task-system n.tasks t there) ∙ (g.system c.0 n at).at.good.system))
            of_deck in
            let z : IsAnswered n t answer =
            answer-awaited deck w.medium.words (items w.fixed) g.right c.0 n t answer rank rest (g.later c.0)
            (g.out c.0) now own in
            subst (λ b.
            Stays (cond b (tell_answer_any_ranked n.tasks t answer rank (state_of n.tasks t).outstanding) n.tasks))
            (sym e)
            (subst (λ x. Stays (tell_answer_any_ranked n.tasks t answer rank x)) (sym z.is)
            (λ g'.
            stays (tell_answer_ranked n.tasks t z.asked answer rank) p
            (ranks-answered t answer rank rest is own z.asked g')))
