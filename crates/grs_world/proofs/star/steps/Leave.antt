-- A system gives up its interest in an entry, in which it has nothing on record, asks nothing and has no request of
-- another system to settle.
use Rattle.grs_world.proofs.Common.{◌&&◌, ◌<◌, ◌==◌, ◌||◌, ◌∙◌, ◌≡◌, ◌≢◌, and-true, and_from, and_parts, ap, Bool, cond}
use Rattle.grs_world.proofs.Common.{Deck, entry_of_res, eqb-false, eqb-true, false, fixing_none, get_or, has}
use Rattle.grs_world.proofs.Common.{has_interest, has_task, inbox, interest, is_busy_in, is_done_with, is_interested}
use Rattle.grs_world.proofs.Common.{is_manager, is_res_of, is_some, is_systems, items, leave_reply, left_at, left_words}
use Rattle.grs_world.proofs.Common.{length, lines_of, List, list_any, list_of, manager_at, MediumState, ne_eqb}
use Rattle.grs_world.proofs.Common.{NodeState, None, not, not-true, Option, refl, Req, Res, RunItem, same_Some, Some}
use Rattle.grs_world.proofs.Common.{StarPart, still-told, subst, sym, SysId, TaskId, true, with_star, word_at, World, ℕ}
use Rattle.grs_known.proofs.known.Histories.{has-may}
use Rattle.lock_structure.proofs.LawProofs.{leave_manages, leave_parts, manager_is_kept}
use Rattle.grs_world.proofs.star.Plain.{may_leave}
use Rattle.grs_world.proofs.star.Elements.{is_near_res, near-has, near-words}
use Rattle.grs_world.proofs.star.Events.{there_leave}
use Rattle.grs_world.proofs.star.Leaving.{no-element, system-left}
use Rattle.grs_world.proofs.star.Members.{IsMember, IsStep, all_lists, has_manager, managed-is}
use Rattle.grs_world.proofs.star.Settling.{asker-away}
use Rattle.grs_world.proofs.star.Systems.{IsSystem, near_at, system-words}
use Rattle.grs_world.proofs.star.Worlds.{Hands, IsHand, IsWhole, are_live, in_hands, items-none, whole-placed}
use Rattle.grs_world.proofs.star.Worlds.{none_fixed, live-site}
use Rattle.grs_world.proofs.star.hearing.Quiet.{heard-left}
use Rattle.grs_world.proofs.star.ranks.Quiet.{ranked-left}
use Rattle.grs_world.proofs.star.steps.Outcome.{IsOutcome}
use Rattle.grs_world.proofs.star.steps.Words.{hands-words, others-keep}
use Rattle.grs_world.proofs.run.Desks.{tells_tasks}
use Rattle.grs_world.proofs.run.Site.{Site}
use Rattle.grs_wire.specs.declared.medium.Reply.TheVariants as replies

module _ (deck : Deck) (some : 0 < deck.entries) (w : World) (g : IsWhole deck w) (c : SysId) (inside : c.0 < 8)
    (n : NodeState) (at : Site w c.0 n) where
  abbrev me : IsMember deck w.medium.words (all_lists w) c.0 n
  me = g.roles.node c.0 n at

  abbrev p : StarPart
  p = me.part

  abbrev T : List RunItem
  T = items w.fixed

  abbrev words : List ℕ
  words = w.medium.words

  -- ---- an entry that the system may leave
  module _ (x : ℕ) (free : may_leave p n.tasks x ≡ true) where
    -- the words behind a Left, and the medium with them
    abbrev words' : List ℕ
    words' = left_words words x c

    abbrev left : ℕ → MediumState
    left flags = record w.medium { words = left_words w.medium.words x c; rest = flags }

    idle : list_any (is_busy_in p x) n.tasks.tasks ≡ false
    idle =
        let busy : Bool = list_any (is_busy_in p x) n.tasks.tasks in
        not-true busy
        (and_parts (not busy) (is_done_with p x) (and_parts (has_interest p x) (not busy && is_done_with p x) free).1).0

    done : is_done_with p x ≡ true
    done =
        (and_parts (not (list_any (is_busy_in p x) n.tasks.tasks)) (is_done_with p x)
        (and_parts (has_interest p x) (not (list_any (is_busy_in p x) n.tasks.tasks) && is_done_with p x) free).1).1

    there : x < length words
    there = there_leave deck some w c inside n at g.roles me x free

    -- it is answered Left
    module _ (is : leave_reply (word_at words x) c ≡ replies.Left) where
      -- of every other entry it has the role and the interest that it had
      same-role : (e : ℕ) → e ≢ x → has_manager words' e c.0 ≡ has_manager words e c.0
      same-role e ne =
          ap (λ o. is_manager o (record { 0 = c.0 })) (leave_manages words x c there g.roles.managed is e)
          ∙ ap (λ b.
          is_manager (cond (b && is_manager (manager_at words e) c) None (manager_at words e)) (record { 0 = c.0 }))
          (ne_eqb e x ne)

      same-interest : (e : ℕ) → e ≢ x → is_interested words' e c.0 ≡ is_interested words e c.0
      same-interest e ne =
          leave_parts words x c there is e c.0
          ∙ (ap (λ b. is_interested words e c.0 && not (b && (c.0 == c.0))) (ne_eqb e x ne)
          ∙ and-true (is_interested words e c.0))

      -- where it managed the entry, no other system had interest there
      alone : (q : Req) (h : IsHand deck words (are_live w) g.later g.out c.0 q) → h.entry ≢ x
      alone q h same =
          let k : NodeState = get_or w.nodes q.task.system.0 n in
          let found : Site w q.task.system.0 k = live-site w q.task.system.0 n h.below in
          let near : is_interested words h.entry q.task.system.0 ≡ true =
          (asker-away deck words T g.right q.task.system.0 k (inbox w.medium q.task.system.0) (g.later q.task.system.0)
          (g.out q.task.system.0) (g.system q.task.system.0 k found) q h.among h.idle c h.entry h.at h.managed
          h.apart).1 in
          let named : manager_at words h.entry ≡ Some c =
          managed-is words h.entry c.0 (manager_at words h.entry) refl h.managed in
          let kept =
          manager_is_kept (word_at words x) c q.task.system.0 (g.roles.managed x 0 there)
          (ap (manager_at words) (sym same) ∙ named) h.apart
          (ap (λ e. is_interested words e q.task.system.0) (sym same) ∙ near) in
          absurd (let both : replies.Kept (interest (word_at words x)) ≡ replies.Left = sym kept ∙ is in cc)

      -- what becomes of the system, and of the others
      module _ (flags : ℕ) (step : IsStep deck w c n
          (record { medium = left flags; step = with_star n (fixing_none n.tasks (left_at p x)) })) where
        own :
            IsSystem deck words' T c.0 (record n { star = Some (left_at p x) }) (inbox w.medium c.0) (g.later c.0)
            (g.out c.0)
        own =
            system-left deck words words' T g.right c.0 n (inbox w.medium c.0) (g.later c.0) (g.out c.0)
            (g.system c.0 n at) p me.fits.entries x idle (λ e ne. (same-role e ne, same-interest e ne))
            (Some (left_at p x))

        others : (s : ℕ) (k : NodeState) → s ≢ c.0 → Site w s k
            → IsSystem deck words' T s k (inbox w.medium s) (g.later s) (g.out s)
        others s k ne found =
            system-words deck words words' T s k (inbox w.medium s) (g.later s) (g.out s)
            (others-keep deck c.0 words words' (all_lists w) (all_lists w) step.moves s ne) (g.system s k found)

        near-then : (r : Res) (t : TaskId) → has_task (list_of (all_lists w) r) t ≡ true
            → is_near_res deck words' r t ≡ true
        near-then r t has =
            by_entry (entry_of_res deck.entries r) refl (near-has deck words (all_lists w) r t g.near has)
          where
            known : is_some (lines_of deck t) ≡ true
            known =
                (and_parts (is_some (lines_of deck t)) (is_systems r || is_res_of t.system.0 r)
                (has-may deck T r t g.right.asks has)).0

            by_entry : (o : Option ℕ) → entry_of_res deck.entries r ≡ o → near_at words t.system.0 o ≡ true
                → near_at words' t.system.0 o ≡ true
            by_entry None e near = refl
            by_entry (Some a) e near = by_system (t.system.0 == c.0) refl
              where
                by_system : (b : Bool) → (t.system.0 == c.0) ≡ b → is_interested words' a t.system.0 ≡ true
                by_system true f =
                    let same : t.system.0 ≡ c.0 = eqb-true t.system.0 c.0 f in
                    let apart : a ≢ x =
                    no-element deck words words' T g.right c.0 n (inbox w.medium c.0) (g.later c.0) (g.out c.0)
                    (g.system c.0 n at) p me.fits.entries x idle (λ i ne. (same-role i ne, same-interest i ne)) t
                    (and_from (t.system.0 == c.0) (is_some (lines_of deck t)) f known) r has a e in
                    ap (is_interested words' a) same
                    ∙ (same-interest a apart ∙ (ap (is_interested words a) (sym same) ∙ near))
                by_system false f = step.moves.interest a t.system.0 (eqb-false t.system.0 c.0 f) ∙ near

        pub outcome-leave :
            IsOutcome deck w g c n
            (record { medium = left flags; step = with_star n (fixing_none n.tasks (left_at p x)) })
        outcome-leave = record {
          stays =
              whole-placed deck w g c n at
              (record { medium = left flags; step = with_star n (fixing_none n.tasks (left_at p x)) }) step T
              (items-none w.fixed c) g.later g.out (λ u ne. refl) none_fixed
              g.right
              (near-words deck words' (all_lists w) near-then)
              own
              others
              (λ k found.
              subst (λ (y : StarPart).
              Hands deck words' (are_live w) g.later g.out c.0 (in_hands y (inbox w.medium c.0)))
              (same_Some (left_at p x) k found)
              (hands-words deck words words' (are_live w) g.later g.out c.0
              (λ q h. same-role h.entry (alone q h) ∙ h.managed) (in_hands p (inbox w.medium c.0))
              (g.hands c.0 n p at me.star)))
              (λ m k v ne found star.
              hands-words deck words words' (are_live w) g.later g.out m
              (λ q h. step.moves.managers h.entry m ne ∙ h.managed) (in_hands v (inbox w.medium m))
              (g.hands m k v found star));
          news = tells_tasks (still-told refl) refl refl;
          heard = heard-left deck w g c n at x done (left flags) refl refl;
          ranked = λ g'. ranked-left deck w g c n at x (left flags) refl refl;
          dated = λ h. record { date = h.date; own = h.own };
        }
