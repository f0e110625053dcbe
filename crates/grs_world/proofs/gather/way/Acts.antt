-- What an event by which a system acts, but for its mail and parts, leaves of what all are to an entry.
use Rattle.grs_world.proofs.Common.{[], ◌&&◌, ◌<◌, ◌==◌, ◌∙◌, ◌≡◌, ◌≢◌, ◌⊎◌, after_request, and_parts, answer_for, ap}
use Rattle.grs_world.proofs.Common.{arith, Asked, awake, begun, Bool, cond, decide_own, Deck, eq-eqb, eqb-false}
use Rattle.grs_world.proofs.Common.{eqb-true, false, false_by, fixing_none, gathering_at, gathers, has, has_interest}
use Rattle.grs_world.proofs.Common.{inbox, inbox_of, inl, inr, is_interested, is_manager, is_some, leave_reply, left_at}
use Rattle.grs_world.proofs.Common.{left_words, length, Mail, manager_at, manages, most_systems, no_truth, NodeState}
use Rattle.grs_world.proofs.Common.{None, not-true, noticed, Option, or_parts, owed_to, prepare, rank_of, refl, Req}
use Rattle.grs_world.proofs.Common.{request_of, Res, same_Some, slice_get_within, Some, StarPart, submitted_words}
use Rattle.grs_world.proofs.Common.{subst, sym, SysId, TaskId, true, Turnout, unwrap_or, with_interest, with_mail}
use Rattle.grs_world.proofs.Common.{with_phase, with_star, word_at, World, ℕ}
use Rattle.lock_structure.proofs.LawProofs.{leave_manages, submit_manages}
use Rattle.grs_wire.specs.Notices.{names}
use Rattle.grs_node.specs.Star.{is_being_gathered, may_leave, settled_first, told_by}
use Rattle.grs_world.proofs.gather.InBoxes.{other-entry, other-manager, other-system}
use Rattle.grs_world.proofs.gather.Notices.{posted-one}
use Rattle.grs_world.proofs.gather.way.Acting.{Acting}
use Rattle.grs_world.proofs.gather.way.Boxes.{early, early-none, last-none, noticed-some}
use Rattle.grs_world.proofs.gather.way.Entry.{AlikeIn, IsAt, IsBare, IsEntry, IsNamed, as_before, bare-entry}
use Rattle.grs_world.proofs.gather.way.Entry.{bare-managed}
use Rattle.grs_world.proofs.gather.way.Entry.{at, bare-none, is_there, none-some, one-named, there-is}
use Rattle.grs_world.proofs.gather.way.Knows.{sole-clear}
use Rattle.grs_world.proofs.gather.way.Managing.{begun-here, begun-other, begun-same, left-here, left-other}
use Rattle.grs_world.proofs.gather.way.Managing.{request-manages, telling-manages}
use Rattle.grs_world.proofs.gather.way.Scene.{BoxStays, box-grows, box-same, each-then, entry_in, live-entry, stance-is}
use Rattle.grs_world.proofs.gather.way.Scene.{stays-then}
use Rattle.grs_world.proofs.gather.way.Steps.{alike-same}
use Rattle.grs_world.proofs.run.Came.{IsToSend, replied, result_of}
use Rattle.grs_world.proofs.run.Placed.{world_then}
use Rattle.grs_world.proofs.run.Site.{Site}
use Rattle.grs_world.proofs.star.Members.{managed-is}
use Rattle.grs_world.proofs.star.Roles.{interest-within, want-within}
use Rattle.grs_world.proofs.star.Sending.{WordsGrow, submit-grows}
use Rattle.grs_world.specs.OnTheWay.{Stance, last_item, part_from, stance_at, stance_of}
use Rattle.grs_wire.specs.declared.deck.Choice.TheVariants as choices
use Rattle.grs_wire.specs.declared.medium.Mail.TheVariants as mails
use Rattle.grs_wire.specs.declared.medium.Reply.TheVariants as replies
use Rattle.task_state.specs.declared.state.Phase.TheVariants as phases

module _ (deck : Deck) (some : 0 < deck.entries) (w : World) (c : SysId) (n : NodeState) (p : StarPart)
    (acts : Acting deck w c n p) (J : (e : ℕ) → e < deck.entries → IsEntry (entry_in w e)) where
  low : c.0 < most_systems
  low =
      let within = slice_get_within w.nodes c.0 n acts.site.at in
      let count = acts.count in
      let few = acts.few in
      omega (arith, within, count, few)

  own : (e : ℕ) → stance_at w e c.0 ≡ Some (stance_of e p (inbox w.medium c.0))
  own e = stance-is w e c.0 n p acts.site acts.star

  -- nothing but interest changes, and mail that is neither notice nor part
  module _ (o : Turnout) (removed : o.medium.removed ≡ w.medium.removed) (q : StarPart)
      (now : o.step.node.star ≡ Some q) (e : ℕ) (inside : e < deck.entries) where
    abbrev W : World
    W = world_then w c n o

    pub same-then : manager_at o.medium.words e ≡ manager_at w.medium.words e
        → ((s : ℕ) (S : Stance) → has o.medium.removed s ≡ false → stance_at w e s ≡ Some S
        → is_interested w.medium.words e s ≡ true
        → (is_interested o.medium.words e s ≡ true) ⊎ ((S.notice ≡ None) × (S.owes ≡ None)))
        → ((s : ℕ) → has o.medium.removed s ≡ false →
        BoxStays (is_there (entry_in (world_then w c n o) e)) s e (inbox w.medium s) (inbox o.medium s))
        → manages q e ≡ manages p e → gathering_at q.gathers e ≡ gathering_at p.gathers e → owed_to q e ≡ owed_to p e
        → IsEntry (entry_in (world_then w c n o) e)
    same-then manager near boxes mine gathering owed =
        stays-then w e c n acts.site o (λ u h. ap (λ i. has i u) removed ∙ h) p acts.star (J e inside) manager near
        boxes q now
        owed
        (as_before mine
        (subst (AlikeIn (is_there (entry_in (world_then w c n o) e)) c.0 (gathering_at p.gathers e)) (sym gathering)
        (alike-same (is_there (entry_in (world_then w c n o) e)) c.0 (gathering_at p.gathers e))))

  -- a mail goes to a system
  module _ (to : ℕ) (y : Mail) (e : ℕ) (away : names e y ≡ false) (none : (u : ℕ) → part_from e u y ≡ [])
      (alive : ℕ → Bool) where
    box-posted : (s : ℕ)
        → BoxStays alive s e (inbox w.medium s) (inbox_of (with_mail w.medium.inboxes to y) s)
    box-posted s =
        posted-one w.medium.inboxes to s y (BoxStays alive s e (inbox w.medium s))
        (box-same alive s e (inbox w.medium s)) (box-grows alive s e (inbox w.medium s) y away none)

  -- ---- a request of its own task
  module _ (t : TaskId) (a : Asked) (x : ℕ) (asked : IsToSend deck n p t a x) where
    asked-within : x < deck.entries
    asked-within =
        let count = acts.sized.0 in
        let here : x < length p.manager.entries =
        want-within (length p.manager.entries) a.req.want x (omega (arith, some, count)) asked.entry in
        omega (arith, here, count)

    there : x < length w.medium.words
    there = let words = acts.fit.words in let inside = asked-within in omega (arith, inside, words)

    grows : WordsGrow w.medium.words (submitted_words w.medium.words x c)
    grows = submit-grows w.medium.words x c there low acts.fit.managed

    -- the words have the same managers but where there was none
    manager-other : (e : ℕ) → (e == x) ≡ false
        → manager_at (submitted_words w.medium.words x c) e ≡ manager_at w.medium.words e
    manager-other e apart =
        submit_manages w.medium.words x c there low e
        ∙ ap (λ b. cond b (Some (unwrap_or (manager_at w.medium.words x) c)) (manager_at w.medium.words e)) apart

    -- it manages the entry already
    module _ (to : SysId) (named : manager_at w.medium.words x ≡ Some to) (same : (to.0 == c.0) ≡ true)
        (was : replied replies.Sole ≡ result_of w.medium c (prepare deck n (choices.Send t))) where
      is-named : manager_at w.medium.words x ≡ Some (at c.0)
      is-named = named ∙ ap (λ k. Some (at k)) (eqb-true to.0 c.0 same)

      mine : manages p x ≡ true
      mine = go (((J x asked-within).each c.0 (stance_of x p (inbox w.medium c.0)) (own x)).named is-named)
        where
          go : IsNamed (stance_of x p (inbox w.medium c.0)) → manages p x ≡ true
          go (inl h) = h
          go (inr (inl z)) = no_truth (gathers p x) (ap is_some z.1) asked.settled
          go (inr (inr z)) =
              no_truth (noticed x (inbox w.medium c.0)) (noticed-some x (inbox w.medium c.0) ∙ ap is_some z.1)
              (sole-clear w.medium c deck n p acts.star acts.site.live t a x asked was)

      pub decided-then : (e : ℕ) → e < deck.entries →
          IsEntry (entry_in (world_then w c n (record {
            medium = w.medium;
            step = with_star n (decide_own n.tasks (begun p x) t a);
          })) e)
      unfolding decide_own
      decided-then e inside =
          same-then (record { medium = w.medium; step = with_star n (decide_own n.tasks (begun p x) t a) }) refl
          (record (begun p x) { manager = after_request (begun p x).manager t a.req.want }) refl e inside refl
          (λ s S live is h. inl h)
          (λ s live. box-same _ s e (inbox w.medium s))
          (request-manages (begun p x).manager t a.req.want e ∙ begun-same p x mine e) refl refl

    -- it goes to the manager
    module _ (to : SysId) (named : manager_at w.medium.words x ≡ Some to) where
      manager-same : (e : ℕ) → manager_at (submitted_words w.medium.words x c) e ≡ manager_at w.medium.words e
      manager-same e = go (e == x) refl
        where
          go : (b : Bool) → (e == x) ≡ b
              → manager_at (submitted_words w.medium.words x c) e ≡ manager_at w.medium.words e
          go false apart = manager-other e apart
          go true same =
              let place : e ≡ x = eqb-true e x same in
              submit_manages w.medium.words x c there low e
              ∙ (ap (λ b. cond b (Some (unwrap_or (manager_at w.medium.words x) c)) (manager_at w.medium.words e)) same
              ∙ (ap (λ (o : Option SysId). Some (unwrap_or o c)) named
              ∙ sym (ap (manager_at w.medium.words) place ∙ named)))

      pub sent-then : (e : ℕ) → e < deck.entries →
          IsEntry (entry_in (world_then w c n (record {
            medium =
                record w.medium {
                  words = submitted_words w.medium.words x c;
                  inboxes = with_mail w.medium.inboxes to.0 (mails.Request x c (request_of t a));
                  rest = awake w.medium c;
                };
            step = with_star n (fixing_none (with_phase n.tasks t phases.Sent) (with_interest p x true));
          })) e)
      sent-then e inside =
          same-then
          (record {
            medium =
                record w.medium {
                  words = submitted_words w.medium.words x c;
                  inboxes = with_mail w.medium.inboxes to.0 (mails.Request x c (request_of t a));
                  rest = awake w.medium c;
                };
            step = with_star n (fixing_none (with_phase n.tasks t phases.Sent) (with_interest p x true));
          })
          refl (with_interest p x true) refl e inside (manager-same e)
          (λ s S live is h. inl ((grows.keeps s).near e h))
          (λ s live. box-posted to.0 (mails.Request x c (request_of t a)) e refl (λ u. refl) _ s) refl refl refl

    -- it begins with the entry
    module _ (none : manager_at w.medium.words x ≡ None) where
      abbrev begins : Turnout
      begins = record {
        medium = record w.medium { words = submitted_words w.medium.words x c; rest = awake w.medium c };
        step = with_star n (decide_own n.tasks (begun p x) t a);
      }

      named-now : manager_at (submitted_words w.medium.words x c) x ≡ Some c
      named-now =
          submit_manages w.medium.words x c there low x
          ∙ (ap (λ b. cond b (Some (unwrap_or (manager_at w.medium.words x) c)) (manager_at w.medium.words x))
          (eq-eqb x x refl)
          ∙ ap (λ (o : Option SysId). Some (unwrap_or o c)) none)

      mine-now : manages (record (begun p x) { manager = after_request (begun p x).manager t a.req.want }) x ≡ true
      mine-now =
          request-manages (begun p x).manager t a.req.want x
          ∙ begun-here p x (let count = acts.sized.0 in let inside = asked-within in omega (arith, count, inside))

      here-then : IsEntry (entry_in (world_then w c n (record {
        medium = record w.medium { words = submitted_words w.medium.words x c; rest = awake w.medium c };
        step = with_star n (decide_own n.tasks (begun p x) t a);
      })) x)
      unfolding decide_own
      here-then =
          bare-entry (entry_in (world_then w c n begins) x) (live-entry (world_then w c n begins) x)
          (each-then w x c n acts.site begins (λ u h. h) (λ s T. IsBare (entry_in (world_then w c n begins) x) s T)
          (λ q star_q live.
          subst (λ (z : StarPart).
          IsBare (entry_in (world_then w c n begins) x) c.0 (stance_of x z (inbox w.medium c.0)))
          (same_Some _ q star_q) own-bare)
          (λ s k r ne u star_k live. other-bare s k r ne u star_k))
          (λ s u S is h. early-by s u S is h)
        where
          bare : (s : ℕ) (S : Stance) → stance_at w x s ≡ Some S → IsBare (entry_in w x) s S
          bare s S is = bare-none (entry_in w x) (J x asked-within) none s S is

          still : (u : ℕ) → is_there (entry_in (world_then w c n begins) x) u ≡ true
              → is_there (entry_in w x) u ≡ true
          still u h =
              let T = there-is (entry_in (world_then w c n begins) x) u h in
              each-then w x c n acts.site begins (λ v k. k) (λ s S. is_there (entry_in w x) s ≡ true)
              (λ q star_q live. ap is_some (own x))
              (λ s k r ne v star_k live. ap is_some (stance-is w x s k r v star_k)) u T.0 T.1

          own-bare : IsBare (entry_in (world_then w c n begins) x) c.0
              (stance_of x (record (begun p x) { manager = after_request (begun p x).manager t a.req.want })
              (inbox w.medium c.0))
          own-bare = let b = bare c.0 (stance_of x p (inbox w.medium c.0)) (own x) in record {
            notice = b.notice;
            gathering = b.gathering;
            owes = b.owes;
            coming = λ u ne there_u. b.coming u ne (still u there_u);
            manages = λ h. named-now;
            named = λ h. mine-now;
          }

          other-bare : (s : ℕ) (k : NodeState) (r : StarPart) → s ≢ c.0 → Site w s k → k.star ≡ Some r
              → IsBare (entry_in (world_then w c n begins) x) s (stance_of x r (inbox w.medium s))
          other-bare s k r ne u star_k =
              let b = bare s (stance_of x r (inbox w.medium s)) (stance-is w x s k r u star_k) in record {
                notice = b.notice;
                gathering = b.gathering;
                owes = b.owes;
                coming = λ v far there_v. b.coming v far (still v there_v);
                manages = λ h. none-some (manager_at w.medium.words x) (at s) (b.manages h) none;
                named = λ h.
                    absurd (ne (ap (λ (z : SysId). z.0) (same_Some (at s) c (sym h ∙ named-now))));
              }

          early-by : (s u : ℕ) (S : Stance) → stance_at (world_then w c n begins) x s ≡ Some S → S.coming u ≡ []
              → early x u (inbox w.medium s) ≡ false
          early-by s u S is h =
              each-then w x c n acts.site begins (λ v k. k)
              (λ i T. T.coming u ≡ [] → early x u (inbox w.medium i) ≡ false)
              (λ q star_q live k. early-none x u (inbox w.medium c.0) k)
              (λ i k r ne v star_k live z. early-none x u (inbox w.medium i) z) s S is h

      pub began-then : (e : ℕ) → e < deck.entries →
          IsEntry (entry_in (world_then w c n (record {
            medium = record w.medium { words = submitted_words w.medium.words x c; rest = awake w.medium c };
            step = with_star n (decide_own n.tasks (begun p x) t a);
          })) e)
      unfolding decide_own
      began-then e inside = go (e == x) refl
        where
          go : (b : Bool) → (e == x) ≡ b → IsEntry (entry_in (world_then w c n begins) e)
          go true same =
              subst (λ i. IsEntry (entry_in (world_then w c n begins) i)) (sym (eqb-true e x same)) here-then
          go false apart =
              same-then begins refl
              (record (begun p x) { manager = after_request (begun p x).manager t a.req.want }) refl e inside
              (manager-other e apart) (λ s S live is h. inl ((grows.keeps s).near e h))
              (λ s live. box-same _ s e (inbox w.medium s))
              (request-manages (begun p x).manager t a.req.want e ∙ begun-other p x e (eqb-false e x apart)) refl refl

  -- ---- a request is settled, an owner is told
  pub settled-then : (q : Req) (e : ℕ) → e < deck.entries →
      IsEntry (entry_in (world_then w c n (record {
        medium =
            record w.medium {
              inboxes =
                  with_mail w.medium.inboxes q.task.system.0 (mails.Answered q.task (answer_for p q) (rank_of p q));
              rest = awake w.medium c;
            };
        step = with_star n (settled_first n.tasks p q);
      })) e)
  settled-then q e inside =
      same-then
      (record {
        medium =
            record w.medium {
              inboxes =
                  with_mail w.medium.inboxes q.task.system.0 (mails.Answered q.task (answer_for p q) (rank_of p q));
              rest = awake w.medium c;
            };
        step = with_star n (settled_first n.tasks p q);
      })
      refl (settled_first n.tasks p q).part refl e inside refl (λ s S live is h. inl h)
      (λ s live.
      box-posted q.task.system.0 (mails.Answered q.task (answer_for p q) (rank_of p q)) e refl (λ u. refl) _ s)
      (request-manages p.manager q.task q.want e) refl refl

  pub told-then : (x : TaskId × Res) (e : ℕ) → e < deck.entries →
      IsEntry (entry_in (world_then w c n (record {
        medium =
            record w.medium {
              inboxes = with_mail w.medium.inboxes x.0.system.0 (mails.Granted x.0 x.1);
              rest = awake w.medium c;
            };
        step = with_star n (fixing_none n.tasks (told_by p (Some x)));
      })) e)
  told-then x e inside =
      same-then
      (record {
        medium =
            record w.medium {
              inboxes = with_mail w.medium.inboxes x.0.system.0 (mails.Granted x.0 x.1);
              rest = awake w.medium c;
            };
        step = with_star n (fixing_none n.tasks (told_by p (Some x)));
      })
      refl (told_by p (Some x)) refl e inside refl (λ s S live is h. inl h)
      (λ s live. box-posted x.0.system.0 (mails.Granted x.0 x.1) e refl (λ u. refl) _ s)
      (telling-manages p.manager x.0 x.1 e) refl refl

  -- ---- an entry is left
  module _ (x flags : ℕ) (may : may_leave p n.tasks x ≡ true)
      (is : leave_reply (word_at w.medium.words x) c ≡ replies.Left)
      (clear : noticed x (inbox w.medium c.0) ≡ false) where
    leaves : x < deck.entries
    leaves =
        let count = acts.sized.1 in
        let here : x < length p.interest = interest-within p x (and_parts (has_interest p x) _ may).0 in
        omega (arith, here, count)

    in_words : x < length w.medium.words
    in_words = let words = acts.fit.words in let inside = leaves in omega (arith, inside, words)

    abbrev goes : Turnout
    goes = record {
      medium = record w.medium { words = left_words w.medium.words x c; rest = flags };
      step = with_star n (fixing_none n.tasks (left_at p x));
    }

    -- it gathers nothing of the entry, owes nothing, and has no notice of it
    not-gathered : is_being_gathered p x ≡ false
    not-gathered = not-true _ (and_parts _ _ (and_parts _ _ (and_parts (has_interest p x) _ may).1).1).1

    free : (owed_to p x ≡ None) × (gathers p x ≡ false)
    free =
        let both = or_parts (gathers p x) (is_some (owed_to p x)) not-gathered in
        (go (owed_to p x) refl both.1, both.0)
      where
        go : (o : Option SysId) → owed_to p x ≡ o → is_some (owed_to p x) ≡ false → owed_to p x ≡ None
        go None e h = e
        go (Some z) e h = absurd (let no : is_some (Some z) ≡ false = ap is_some (sym e) ∙ h in cc)

    unnoticed : last_item x (inbox w.medium c.0) ≡ None
    unnoticed = last-none x (inbox w.medium c.0) clear

    abbrev X : Stance
    X = stance_of x p (inbox w.medium c.0)

    -- the manager leaves it, who is alone
    module _ (mine : is_manager (manager_at w.medium.words x) c ≡ true) where
      was-named : manager_at w.medium.words x ≡ Some (at c.0)
      was-named = managed-is w.medium.words x c.0 (manager_at w.medium.words x) refl mine

      managed : manages p x ≡ true
      managed = go (((J x leaves).each c.0 (stance_of x p (inbox w.medium c.0)) (own x)).named was-named)
        where
          go : IsNamed (stance_of x p (inbox w.medium c.0)) → manages p x ≡ true
          go (inl h) = h
          go (inr (inl z)) = no_truth (gathers p x) (ap is_some z.1) free.1
          go (inr (inr z)) = none-some (last_item x (inbox w.medium c.0)) z.0 z.1 unnoticed

      none-then : manager_at (left_words w.medium.words x c) x ≡ None
      none-then =
          leave_manages w.medium.words x c in_words acts.fit.managed is x
          ∙ (ap (λ b. cond (b && is_manager (manager_at w.medium.words x) c) None (manager_at w.medium.words x))
          (eq-eqb x x refl)
          ∙ ap (λ b. cond b None (manager_at w.medium.words x)) mine)

      bare : (s : ℕ) (S : Stance) → stance_at w x s ≡ Some S → IsBare (entry_in w x) s S
      bare s S is_s =
          bare-managed (entry_in w x) (J x leaves) c.0 (stance_of x p (inbox w.medium c.0)) was-named (own x) managed
          free.0 s S is_s

      still : (u : ℕ) → is_there (entry_in (world_then w c n goes) x) u ≡ true → is_there (entry_in w x) u ≡ true
      still u h =
          let T = there-is (entry_in (world_then w c n goes) x) u h in
          each-then w x c n acts.site goes (λ v k. k) (λ s S. is_there (entry_in w x) s ≡ true)
          (λ q star_q live. ap is_some (own x))
          (λ s k r ne v star_k live. ap is_some (stance-is w x s k r v star_k)) u T.0 T.1

      own-bare : IsBare (entry_in (world_then w c n goes) x) c.0 (stance_of x (left_at p x) (inbox w.medium c.0))
      own-bare = let b = bare c.0 (stance_of x p (inbox w.medium c.0)) (own x) in record {
        notice = b.notice;
        gathering = b.gathering;
        owes = b.owes;
        coming = λ u ne there_u. b.coming u ne (still u there_u);
        manages = λ h. no_truth (manages (left_at p x) x) h (left-here p x);
        named = λ h. none-some (manager_at (left_words w.medium.words x c) x) (at c.0) h none-then;
      }

      other-bare : (s : ℕ) (k : NodeState) (r : StarPart) → s ≢ c.0 → Site w s k → k.star ≡ Some r
          → IsBare (entry_in (world_then w c n goes) x) s (stance_of x r (inbox w.medium s))
      other-bare s k r ne u star_k =
          let b = bare s (stance_of x r (inbox w.medium s)) (stance-is w x s k r u star_k) in record {
            notice = b.notice;
            gathering = b.gathering;
            owes = b.owes;
            coming = λ v far there_v. b.coming v far (still v there_v);
            manages = λ h.
                absurd (ne (ap (λ (z : SysId). z.0) (same_Some (at s) (at c.0) (sym (b.manages h) ∙ was-named))));
            named = λ h. none-some (manager_at (left_words w.medium.words x c) x) (at s) h none-then;
          }

      alone-then : IsEntry (entry_in (world_then w c n (record {
        medium = record w.medium { words = left_words w.medium.words x c; rest = flags };
        step = with_star n (fixing_none n.tasks (left_at p x));
      })) x)
      alone-then =
          bare-entry (entry_in (world_then w c n goes) x) (live-entry (world_then w c n goes) x)
          (each-then w x c n acts.site goes (λ u h. h) (λ s T. IsBare (entry_in (world_then w c n goes) x) s T)
          (λ q star_q live.
          subst (λ (z : StarPart). IsBare (entry_in (world_then w c n goes) x) c.0 (stance_of x z (inbox w.medium c.0)))
          (same_Some (left_at p x) q star_q) own-bare)
          (λ s k r ne u star_k live. other-bare s k r ne u star_k))
          (λ s u S is_s h.
          each-then w x c n acts.site goes (λ v k. k)
          (λ i T. T.coming u ≡ [] → early x u (inbox w.medium i) ≡ false)
          (λ q star_q live k. early-none x u (inbox w.medium c.0) k)
          (λ i k r ne v star_k live z. early-none x u (inbox w.medium i) z) s S is_s h)

    -- another one leaves it
    module _ (other : is_manager (manager_at w.medium.words x) c ≡ false) where
      same-manager : manager_at (left_words w.medium.words x c) x ≡ manager_at w.medium.words x
      same-manager =
          leave_manages w.medium.words x c in_words acts.fit.managed is x
          ∙ (ap (λ b. cond ((x == x) && b) None (manager_at w.medium.words x)) other
          ∙ ap (λ b. cond (b && false) None (manager_at w.medium.words x)) (eq-eqb x x refl))

      not-managed : manages p x ≡ false
      not-managed =
          false_by (manages p x) (λ h.
          no_truth (is_manager (manager_at w.medium.words x) c)
          (ap (λ o. is_manager o c) (((J x leaves).each c.0 (stance_of x p (inbox w.medium c.0)) (own x)).manages h).0
          ∙ eq-eqb c.0 c.0 refl)
          other)

      gone-then : IsEntry (entry_in (world_then w c n (record {
        medium = record w.medium { words = left_words w.medium.words x c; rest = flags };
        step = with_star n (fixing_none n.tasks (left_at p x));
      })) x)
      gone-then =
          same-then goes refl (left_at p x) refl x leaves same-manager
          (λ s S live is_s h. near s S is_s h (s == c.0) refl)
          (λ s live. box-same _ s x (inbox w.medium s)) (left-here p x ∙ sym not-managed) refl refl
        where
          near : (s : ℕ) (S : Stance) → stance_at w x s ≡ Some S → is_interested w.medium.words x s ≡ true → (b : Bool)
              → (s == c.0) ≡ b →
              (is_interested (left_words w.medium.words x c) x s ≡ true) ⊎ ((S.notice ≡ None) × (S.owes ≡ None))
          near s S is_s h true same =
              let place : s ≡ c.0 = eqb-true s c.0 same in
              let is_X : X ≡ S = same_Some X S (sym (own x) ∙ (ap (stance_at w x) (sym place) ∙ is_s)) in
              inr (
                ap (λ (z : Stance). z.notice) (sym is_X) ∙ unnoticed,
                ap (λ (z : Stance). z.owes) (sym is_X) ∙ free.0,
              )
          near s S is_s h false far =
              inl (other-system w.medium.words x c in_words acts.fit.managed is x s far ∙ h)

    pub left-then : (e : ℕ) → e < deck.entries →
        IsEntry (entry_in (world_then w c n (record {
          medium = record w.medium { words = left_words w.medium.words x c; rest = flags };
          step = with_star n (fixing_none n.tasks (left_at p x));
        })) e)
    left-then e inside = go (e == x) refl
      where
        by-manager : (b : Bool) → is_manager (manager_at w.medium.words x) c ≡ b
            → IsEntry (entry_in (world_then w c n goes) x)
        by-manager true mine = alone-then mine
        by-manager false other = gone-then other

        go : (b : Bool) → (e == x) ≡ b → IsEntry (entry_in (world_then w c n goes) e)
        go true same =
            subst (λ i. IsEntry (entry_in (world_then w c n goes) i)) (sym (eqb-true e x same))
            (by-manager (is_manager (manager_at w.medium.words x) c) refl)
        go false apart =
            same-then goes refl (left_at p x) refl e inside
            (other-manager w.medium.words x c in_words acts.fit.managed is e apart)
            (λ s S live is_s h. inl (other-entry w.medium.words x c in_words acts.fit.managed is e s apart ∙ h))
            (λ s live. box-same _ s e (inbox w.medium s)) (left-other p x e (eqb-false e x apart)) refl refl
