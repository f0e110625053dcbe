-- What each event leaves of control and notices.
use Rattle.grs_world.proofs.Common.{[], ◌&&◌, ◌++◌, ◌<◌, ◌==◌, ◌||◌, ◌∙◌, ◌∷◌, ◌≡◌, ◌≢◌, ◌⊎◌, and_parts, answer_for, ap}
use Rattle.grs_world.proofs.Common.{append-nil, awaited, awaiting, awake, Bool, by_test, Choice, cond, decide_own, Deck}
use Rattle.grs_world.proofs.Common.{desk_told, entry_of_res, eq-eqb, eqb-false, eqb-true, false, false_by, filter}
use Rattle.grs_world.proofs.Common.{fixing_none, Gathering, gathering_at, has, inbox, inbox_of, inl, inr, is_for_deck}
use Rattle.grs_world.proofs.Common.{is_item_of, is_news, is_of_deck, is_some, known_from, left_at, length, lines_of}
use Rattle.grs_world.proofs.Common.{List, list_all, list_any, list_any-append, lose, lose_all, lose_each, losing, losing_in}
use Rattle.grs_world.proofs.Common.{Mail, Managed, managed_at, manages, members, move_each, move_entry, Moved, names_of}
use Rattle.grs_world.proofs.Common.{no_truth, NodeState, None, not, noticed, only, Option, option_map, option_map_or}
use Rattle.grs_world.proofs.Common.{or-false, or_left, or_right, owed_to, owing, PartRec, purged, rank_of, Ranked, refl}
use Rattle.grs_world.proofs.Common.{request_of, Res, Said, same_Some, sent_again, slice_get, slice_set, Some, stale}
use Rattle.grs_world.proofs.Common.{Standing, standing, StarPart, stays-task, subst, sym, SysId, systems_of, take_mail}
use Rattle.grs_world.proofs.Common.{take_up, take_up_all, TaskId, to_tell, took_mail, true, Turnout, unwrap_or}
use Rattle.grs_world.proofs.Common.{VaryDone, with_also, with_interest, with_mail, with_role, with_star, without_first}
use Rattle.grs_world.proofs.Common.{without_in_star, without_those, World, ℕ}
use Rattle.grs_node.specs.Removal.{took_notice}
use Rattle.grs_wire.specs.Masks.{without}
use Rattle.system_purge.specs.Gather.{is_of_part}
use Rattle.contention_mgr.specs.Manager.{first_untold, is_untold, items_of, owner_of, sooner}
use Rattle.std.specs.Ordering.{is_lt}
use Rattle.grs_base.specs.ResOrder.{res_order}
use Rattle.grs_medium.proofs.Removals.{told_to}
use Rattle.grs_medium.specs.Apply.{is_live}
use Rattle.grs_medium.specs.Inboxes.{notices_to}
use Rattle.grs_node.specs.Node.{next_order}
use Rattle.grs_node.specs.Star.{is_held_for, settled_first, told_by}
use Rattle.grs_wire.specs.Notices.{names}
use Rattle.lock_structure.specs.Entries.{is_entry}
use Rattle.system_purge.specs.Gathers.{with_part, with_part_at, without_sender}
use Rattle.system_purge.specs.declared.gathers.SentPart.{SentPart}
use Rattle.grs_world.proofs.gather.InBoxes.{also-more, noticed-more}
use Rattle.grs_world.proofs.gather.Slots.{IsPure, map-at, set-either}
use Rattle.grs_world.proofs.gather.once.Acts.{posted-at}
use Rattle.grs_world.proofs.gather.once.Control.{are_coming, are_kept, AreHushed, hushed-then, is_part_of, late-left}
use Rattle.grs_world.proofs.gather.once.Control.{late-more, late-noticed}
use Rattle.grs_world.proofs.gather.once.Removes.{box-then, own-star}
use Rattle.grs_world.proofs.gather.once.Silent.{none-alive, off-all}
use Rattle.grs_world.proofs.gather.once.Step.{AreOnce}
use Rattle.grs_world.proofs.gather.once.Takes.{box-own, took}
use Rattle.grs_world.proofs.gather.way.Acting.{Acting}
use Rattle.grs_world.proofs.gather.way.Entry.{IsEntry}
use Rattle.grs_world.proofs.gather.way.Scene.{entry_in}
use Rattle.grs_world.proofs.gather.way.Steps.{all-lost, all-up, keeps-same, moved-other, set-none, set-other}
use Rattle.grs_world.proofs.run.Came.{Acts, Came, no_part, Result}
use Rattle.grs_world.proofs.run.Lost.{by-loss, by-notice}
use Rattle.grs_world.proofs.run.Placed.{world_then}
use Rattle.grs_world.proofs.run.Site.{Site}
use Rattle.grs_world.proofs.star.Boxes.{untaken-box}
use Rattle.grs_world.specs.InHands.{is_control_of, is_told_late}
use Rattle.grs_world.proofs.run.Came as any
use Rattle.grs_wire.specs.declared.deck.Choice.TheVariants as choices
use Rattle.grs_wire.specs.declared.deck.Order.TheVariants as orders
use Rattle.grs_wire.specs.declared.medium.Mail.TheVariants as mails
use Rattle.grs_wire.specs.declared.told.Said.TheVariants as saids
use Rattle.task_state.specs.declared.state.Phase.TheVariants as phases

any-filter : {X : Type 0} (test keep : X → Bool) (xs : List X) → list_any test (filter keep xs) ≡ true
    → list_any test xs ≡ true
any-filter test keep [] h = h
any-filter test keep (x ∷ xs) h = go (keep x) h (λ k. any-filter test keep xs k)
  where
    go : (b : Bool) → list_any test (cond b (x ∷ filter keep xs) (filter keep xs)) ≡ true
        → (list_any test (filter keep xs) ≡ true → list_any test xs ≡ true) → (test x || list_any test xs) ≡ true
    go true k more = by (test x) k
      where
        by : (b : Bool) → (b || list_any test (filter keep xs)) ≡ true → (b || list_any test xs) ≡ true
        by true j = refl
        by false j = more j
    go false k more = or_right (test x) (list_any test xs) (more k)

-- ---- the part of a system
module _ (e : ℕ) where
  -- what it owes stays with losses and with entries that are taken up
  lost-owes : (names : List TaskId) (x : Standing) (ts : List SysId)
      → owed_to (lose_all names x ts).part e ≡ owed_to x.part e
  lost-owes names x ts =
      (all-lost none-alive 0 e (length x.part.manager.entries) x.part names x ts (off-all e ts)
      (keeps-same none-alive 0 e x.part)).owes

  up-owes : (names : List TaskId) (x : Standing) → owed_to (take_up_all names x).part e ≡ owed_to x.part e
  up-owes names x =
      (all-up none-alive 0 e (length x.part.manager.entries) x.part names x (keeps-same none-alive 0 e x.part)).owes

  -- and no part comes
  abbrev KeepsFew : Option Gathering → Standing → Type 0
  KeepsFew o x = (u : ℕ) → are_kept (gathering_at x.part.gathers e) u ≡ true → are_kept o u ≡ true

  module _ (o : Option Gathering) where
    up-few : (names : List TaskId) (x : Standing) (f : ℕ) → KeepsFew o x → KeepsFew o (take_up names x f)
    up-few names x f h u any = go (e == f) refl
      where
        go : (b : Bool) → (e == f) ≡ b → are_kept o u ≡ true
        go true same =
            absurd (let no : false ≡ true =
            sym (ap (λ z. are_kept z u) (ap (λ i. unwrap_or (slice_get (slice_set x.part.gathers f None) i) None)
            (eqb-true e f same) ∙ set-none x.part.gathers f)) ∙ any in cc)
        go false other =
            h u (ap (λ z. are_kept z u) (sym (set-other x.part.gathers f e None (eqb-false e f other))) ∙ any)

    lose-few : (x : Standing) (s : SysId) → KeepsFew o x → KeepsFew o (lose x s)
    lose-few x s h u any =
        h u (go (gathering_at x.part.gathers e)
        (ap (λ z. are_kept z u) (sym (map-at (without_sender s) x.part.gathers e)) ∙ any))
      where
        go : (z : Option Gathering) → are_kept (option_map (without_sender s) z) u ≡ true → are_kept z u ≡ true
        go None k = k
        go (Some g) k = any-filter (λ (p : SentPart). p.from.0 == u) (λ p. not (p.from.0 == s.0)) g.parts k

    role-few : (known : ℕ) (p : StarPart) (m : Moved) (u : ℕ)
        → (are_kept (gathering_at p.gathers e) u ≡ true → are_kept o u ≡ true)
        → are_kept (gathering_at (with_role known p m).gathers e) u ≡ true → are_kept o u ≡ true
    role-few known p m u h any = by (m.manager.0 == p.manager.system.0) any
      where
        set : are_kept
            (gathering_at
            (slice_set p.gathers m.entry
            (Some (record { awaits = awaited known p.manager.system.0 m.mask; parts = [] }))) e)
            u ≡ true → (b : Bool) → (e == m.entry) ≡ b → are_kept o u ≡ true
        set k false other =
            h (ap (λ z. are_kept z u)
            (sym (set-other p.gathers m.entry e _ (eqb-false e m.entry other))) ∙ k)
        set k true same =
            go
            (set-either p.gathers m.entry
            (Some (record { awaits = awaited known p.manager.system.0 m.mask; parts = [] })))
          where
            place : e ≡ m.entry
            place = eqb-true e m.entry same

            here : are_kept
                (gathering_at
                (slice_set p.gathers m.entry
                (Some (record { awaits = awaited known p.manager.system.0 m.mask; parts = [] }))) m.entry)
                u ≡ true
            here =
                ap (λ i.
                are_kept
                (gathering_at
                (slice_set p.gathers m.entry
                (Some (record { awaits = awaited known p.manager.system.0 m.mask; parts = [] }))) i)
                u)
                (sym place)
                ∙ k

            go :
                (unwrap_or
                (slice_get
                (slice_set p.gathers m.entry
                (Some (record { awaits = awaited known p.manager.system.0 m.mask; parts = [] }))) m.entry) None
                ≡ Some (record { awaits = awaited known p.manager.system.0 m.mask; parts = [] }))
                ⊎ (unwrap_or
                (slice_get
                (slice_set p.gathers m.entry
                (Some (record { awaits = awaited known p.manager.system.0 m.mask; parts = [] }))) m.entry) None
                ≡ unwrap_or (slice_get p.gathers m.entry) None)
                → are_kept o u ≡ true
            go (inl new) =
                absurd (let no : false ≡ true = sym (ap (λ z. are_kept z u) new) ∙ here in cc)
            go (inr past) =
                h (ap (λ i. are_kept (gathering_at p.gathers i) u) place
                ∙ (ap (λ z. are_kept z u) (sym past) ∙ here))

        by : (b : Bool) → are_kept (gathering_at (cond b
            (record p {
              gathers =
                  awaiting p.gathers m.entry (awaited known p.manager.system.0 m.mask);
              owes = owing p.owes m.entry None;
            })
            (record p { owes = owing p.owes m.entry (Some m.manager) })).gathers e) u ≡ true → are_kept o u ≡ true
        by false k = h k
        by true k = set k (e == m.entry) refl

    moved-few : (known : ℕ) (x : Standing) (m : Moved) → KeepsFew o x → KeepsFew o (move_entry known x m)
    moved-few known x m h u any = by (is_news x.part m.entry) any
      where
        by : (b : Bool)
            → are_kept (gathering_at (cond b
            (standing (sent_again x.part m.entry x.tasks) (with_role known x.part m)) x).part.gathers e) u ≡ true
            → are_kept o u ≡ true
        by false k = h u k
        by true k = role-few known x.part m u (h u) k

  -- behind a loss nothing more is kept
  lost-few : (names : List TaskId) (x : Standing) (ts : List SysId) (u : ℕ)
      → are_kept (gathering_at (lose_all names x ts).part.gathers e) u ≡ true
      → are_kept (gathering_at x.part.gathers e) u ≡ true
  lost-few names x ts =
      by-loss (KeepsFew (gathering_at x.part.gathers e)) (up-few (gathering_at x.part.gathers e))
      (lose-few (gathering_at x.part.gathers e)) names x ts (λ u h. h)

  -- by a part what is kept already, or that part
  part-few : (gs : List (Option Gathering)) (f : ℕ) (from : SysId) (recs : List PartRec) (u : ℕ)
      → are_kept (gathering_at (with_part_at gs f from recs) e) u ≡ true
      → (are_kept (gathering_at gs e) u || ((f == e) && (from.0 == u))) ≡ true
  part-few gs f from recs u any = go (gathering_at gs f) refl any
    where
      go : (z : Option Gathering) → gathering_at gs f ≡ z
          → are_kept
          (gathering_at (option_map_or (λ g. slice_set gs f (Some (with_part (length gs) f from recs g))) z gs) e) u
          ≡ true
          → (are_kept (gathering_at gs e) u || ((f == e) && (from.0 == u))) ≡ true
      go None is k = or_left (are_kept (gathering_at gs e) u) _ k
      go (Some g) is k = by (f == e) refl
        where
          grown : (b : Bool)
              → are_kept (Some (cond b (record {
                awaits = without g.awaits from.0;
                parts = g.parts ++ record { from = from; records = filter (is_of_part (length gs) f from) recs } ∷ [];
              }) g)) u ≡ true
              → (list_any (λ p. p.from.0 == u) g.parts || (from.0 == u)) ≡ true
          grown false j = or_left (list_any (λ p. p.from.0 == u) g.parts) (from.0 == u) j
          grown true j =
              ap (λ b. list_any (λ p. p.from.0 == u) g.parts || b) (sym (or-false (from.0 == u)))
              ∙ (sym (list_any-append (λ (p : SentPart). p.from.0 == u) g.parts _) ∙ j)

          by : (b : Bool) → (f == e) ≡ b → (are_kept (gathering_at gs e) u || (b && (from.0 == u))) ≡ true
          by false other =
              or_left (are_kept (gathering_at gs e) u) _
              (ap (λ z. are_kept z u)
              (sym (set-other gs f e _ (λ same. no_truth (f == e) (eq-eqb f e (sym same)) other)))
              ∙ k)
          by true same = here (set-either gs f (Some (with_part (length gs) f from recs g)))
            where
              place : f ≡ e
              place = eqb-true f e same

              at-f : are_kept (gathering_at (slice_set gs f (Some (with_part (length gs) f from recs g))) f) u ≡ true
              at-f =
                  ap (λ i. are_kept (gathering_at (slice_set gs f (Some (with_part (length gs) f from recs g))) i) u)
                  place
                  ∙ k

              was : are_kept (gathering_at gs e) u ≡ list_any (λ p. p.from.0 == u) g.parts
              was = ap (λ z. are_kept z u) (ap (gathering_at gs) (sym place) ∙ is)

              here :
                  (unwrap_or (slice_get (slice_set gs f (Some (with_part (length gs) f from recs g))) f) None
                  ≡ Some (with_part (length gs) f from recs g))
                  ⊎ (unwrap_or (slice_get (slice_set gs f (Some (with_part (length gs) f from recs g))) f) None
                  ≡ unwrap_or (slice_get gs f) None)
                  → (are_kept (gathering_at gs e) u || (from.0 == u)) ≡ true
              here (inl new) =
                  ap (λ b. b || (from.0 == u)) was
                  ∙ grown (has g.awaits from.0) (sym (ap (λ z. are_kept z u) new) ∙ at-f)
              here (inr past) =
                  or_left (are_kept (gathering_at gs e) u) (from.0 == u)
                  (ap (λ i. are_kept (gathering_at gs i) u) (sym place)
                  ∙ (ap (λ z. are_kept z u) (sym past) ∙ at-f))

  -- ---- a mail is taken
  module _ (deck : Deck) (n : NodeState) (p : StarPart) where
    none-filtered : (f : Moved → Bool) (ms : List Moved) → list_any (λ m. m.entry == e) ms ≡ false
        → list_any (λ m. m.entry == e) (filter f ms) ≡ false
    none-filtered f ms away =
        false_by (list_any (λ m. m.entry == e) (filter f ms)) (λ h.
        no_truth (list_any (λ m. m.entry == e) ms) (any-filter (λ (m : Moved). m.entry == e) f ms h) away)

    take-owes : (mail : Mail) (to : SysId) → owed_to (take_mail deck n.known n.tasks p mail).part e ≡ Some to
        → ((x : SysId) × (owed_to p e ≡ Some x)) ⊎ (names e mail ≡ true)
    unfolding took_mail
    take-owes mail to = go (is_for_deck deck mail) mail
      where
        still : (o : Option SysId) → o ≡ owed_to p e → o ≡ Some to
            → (x : SysId) × (owed_to p e ≡ Some x)
        still o same is = (to, sym same ∙ is)

        notice : (target : SysId) (moved : List Moved) (b : Bool) → list_any (λ m. m.entry == e) moved ≡ b
            → owed_to
            (took_notice n.known (names_of deck n.tasks.system) (standing n.tasks p)
            (filter (is_item_of deck) moved)).part
            e
            ≡ Some to
            → ((x : SysId) × (owed_to p e ≡ Some x)) ⊎ (list_any (λ m. m.entry == e) moved ≡ true)
        notice target moved true here is = inr here
        notice target moved false away is =
            inl (still _
            (up-owes (names_of deck n.tasks.system)
            (move_each n.known (standing n.tasks p) (filter (is_item_of deck) moved))
            ∙ (moved-other n.known e (filter (is_item_of deck) moved) (none-filtered (is_item_of deck) moved away)
            (standing n.tasks p)).2)
            is)

        go : (b : Bool) (y : Mail)
            → owed_to (cond b (took_mail deck n.known n.tasks p y) (fixing_none n.tasks p)).part e ≡ Some to
            → ((x : SysId) × (owed_to p e ≡ Some x)) ⊎ (names e y ≡ true)
        go false y is = inl (to, is)
        go true (mails.Request f from q) is =
            inl (by_test
            (λ (z : StarPart). owed_to z e ≡ Some to → (x : SysId) × (owed_to p e ≡ Some x))
            (is_held_for n.known p f q) (record p { held = p.held ++ q ∷ [] }) p (λ here k. (to, k)) (λ away k. (to, k))
            is)
        go true (mails.Answered t answer rank) is = inl (to, is)
        go true (mails.Granted t r) is = inl (to, is)
        go true (mails.Notice target moved) is = notice target moved (list_any (λ m. m.entry == e) moved) refl is
        go true (mails.Part f from records) is =
            inl (still _
            (by_test (λ (x : Standing). owed_to x.part e ≡ owed_to p e) (has n.known from.0) (standing n.tasks p)
            (take_up_all (names_of deck n.tasks.system)
            (standing n.tasks
            (record p { gathers = with_part_at p.gathers f from (filter (λ r. is_of_deck deck r.task) records) })))
            (λ gone. refl)
            (λ there.
            up-owes (names_of deck n.tasks.system)
            (standing n.tasks
            (record p { gathers = with_part_at p.gathers f from (filter (λ r. is_of_deck deck r.task) records) }))))
            is)

    take-kept : (mail : Mail) (u : ℕ)
        → are_kept (gathering_at (take_mail deck n.known n.tasks p mail).part.gathers e) u ≡ true
        → (are_kept (gathering_at p.gathers e) u || is_part_of e u mail) ≡ true
    unfolding took_mail lose_each
    take-kept mail u = go (is_for_deck deck mail) mail
      where
        was : (b : Bool) → are_kept (gathering_at p.gathers e) u ≡ true
            → (are_kept (gathering_at p.gathers e) u || b) ≡ true
        was b h = or_left (are_kept (gathering_at p.gathers e) u) b h

        part : (f : ℕ) (from : SysId) (recs : List PartRec) → (b : Bool)
            → are_kept (gathering_at (cond b (standing n.tasks p)
            (take_up_all (names_of deck n.tasks.system)
            (standing n.tasks (record p { gathers = with_part_at p.gathers f from recs })))).part.gathers e) u ≡ true
            → (are_kept (gathering_at p.gathers e) u || ((f == e) && (from.0 == u))) ≡ true
        part f from recs true k = was ((f == e) && (from.0 == u)) k
        part f from recs false k =
            part-few p.gathers f from recs u
            (by-loss (KeepsFew (gathering_at (with_part_at p.gathers f from recs) e))
            (up-few (gathering_at (with_part_at p.gathers f from recs) e))
            (lose-few (gathering_at (with_part_at p.gathers f from recs) e)) (names_of deck n.tasks.system)
            (standing n.tasks (record p { gathers = with_part_at p.gathers f from recs })) [] (λ v h. h) u
            k)

        go : (b : Bool) (y : Mail)
            → are_kept
            (gathering_at (cond b (took_mail deck n.known n.tasks p y) (fixing_none n.tasks p)).part.gathers e) u ≡ true
            → (are_kept (gathering_at p.gathers e) u || is_part_of e u y) ≡ true
        go false y k = was (is_part_of e u y) k
        go true (mails.Request f from q) k =
            was false (by_test
            (λ (z : StarPart).
            are_kept (gathering_at z.gathers e) u ≡ true → are_kept (gathering_at p.gathers e) u ≡ true)
            (is_held_for n.known p f q) (record p { held = p.held ++ q ∷ [] }) p (λ here h. h) (λ away h. h) k)
        go true (mails.Answered t answer rank) k = was false k
        go true (mails.Granted t r) k = was false k
        go true (mails.Notice target moved) k =
            was false
            (by-notice (KeepsFew (gathering_at p.gathers e)) (up-few (gathering_at p.gathers e)) n.known
            (moved-few (gathering_at p.gathers e) n.known) (names_of deck n.tasks.system) (standing n.tasks p)
            (filter (is_item_of deck) moved) (λ v h. h) u k)
        go true (mails.Part f from records) k =
            part f from (filter (λ r. is_of_deck deck r.task) records) (has n.known from.0) k

-- ---- who is told first
module _ (test : Ranked → Bool) where
  sooner-all : (x : Ranked) (o : Option Ranked) → test x ≡ true → ((y : Ranked) → o ≡ Some y → test y ≡ true)
      → test (sooner x o) ≡ true
  sooner-all x None h more = h
  sooner-all x (Some y) h more =
      by_test (λ (z : Ranked). test z ≡ true) (is_lt (res_order y.res x.res)) y x (λ first. more y refl)
      (λ second. h)

  first-all : (home : ℕ) (xs : List Ranked) → list_all test xs ≡ true → (y : Ranked)
      → first_untold home xs ≡ Some y → test y ≡ true
  first-all home [] h y is = absurd (cc)
  first-all home (x ∷ xs) h y is = go (is_untold home x) is (λ z k. first-all home xs both.1 z k)
    where
      both : (test x ≡ true) × (list_all test xs ≡ true)
      both = and_parts (test x) (list_all test xs) h

      go : (b : Bool) → cond b (Some (sooner x (first_untold home xs))) (first_untold home xs) ≡ Some y
          → ((z : Ranked) → first_untold home xs ≡ Some z → test z ≡ true) → test y ≡ true
      go true k more =
          subst (λ (z : Ranked). test z ≡ true) (same_Some (sooner x (first_untold home xs)) y k)
          (sooner-all x (first_untold home xs) both.0 more)
      go false k more = more y k

-- it is of an entry that is managed
module _ (deck : Deck) (p : StarPart) (h : IsPure deck.entries p) (f : ℕ) (x : TaskId × Res)
    (first : to_tell p f ≡ Some x) where
  told-entry : (is_entry f (entry_of_res deck.entries x.1) ≡ true) × (manages p f ≡ true)
  told-entry = go (managed_at p.manager f) refl first
    where
      item : (m : Managed) → managed_at p.manager f ≡ Some m → (o : Option Ranked)
          → first_untold p.manager.system.0 m.items ≡ o → option_map owner_of o ≡ Some x
          → is_entry f (entry_of_res deck.entries x.1) ≡ true
      item m at None is k = absurd (cc)
      item m at (Some y) is k =
          ap (λ (z : TaskId × Res). is_entry f (entry_of_res deck.entries z.1)) (sym (same_Some (owner_of y) x k))
          ∙ first-all (λ z. is_entry f (entry_of_res deck.entries z.res)) p.manager.system.0 m.items (h.lists f m at) y
          is

      go : (o : Option Managed) → managed_at p.manager f ≡ o
          → option_map owner_of (first_untold p.manager.system.0 (items_of o)) ≡ Some x
          → (is_entry f (entry_of_res deck.entries x.1) ≡ true) × (manages p f ≡ true)
      go None at k = absurd (cc)
      go (Some m) at k = (item m at (first_untold p.manager.system.0 m.items) refl k, ap is_some at)

  told-managed : (e : ℕ) → is_entry e (entry_of_res deck.entries x.1) ≡ true → manages p e ≡ true
  told-managed e here = go (entry_of_res deck.entries x.1) refl here told-entry.0
    where
      go : (o : Option ℕ) → entry_of_res deck.entries x.1 ≡ o → is_entry e o ≡ true → is_entry f o ≡ true
          → manages p e ≡ true
      go None is k j = absurd (cc)
      go (Some i) is k j = ap (manages p) (sym (eqb-true i e k) ∙ eqb-true i f j) ∙ told-entry.1

-- ---- events
module _ (deck : Deck) (some : 0 < deck.entries) (w : World) (c : SysId) (n : NodeState) (p : StarPart)
    (a : Acting deck w c n p) (home : n.tasks.system ≡ c.0) (J : AreOnce deck w) (pure : IsPure deck.entries p)
    (E : (e : ℕ) → e < deck.entries → IsEntry (entry_in w e)) (H : AreHushed deck w) where
  -- the mail stays
  still-hushed : (o : Turnout) (r : StarPart) → o.step.node.star ≡ Some r → o.medium.removed ≡ w.medium.removed
      → o.medium.inboxes ≡ w.medium.inboxes → ((e : ℕ) → owed_to r e ≡ owed_to p e)
      → ((e u : ℕ) → are_kept (gathering_at r.gathers e) u ≡ true → are_kept (gathering_at p.gathers e) u ≡ true)
      → AreHushed deck (world_then w c n o)
  still-hushed o r now removed inboxes owes kept =
      hushed-then deck w c n p a.site a.star E H o r now (λ u live. sym (ap (λ i. has i u) removed) ∙ live)
      (λ e u k site live h. inl (sym (ap (λ bs. is_told_late deck.entries e (inbox_of bs u)) inboxes) ∙ h))
      (λ e u k site live h. inl (sym (ap (λ bs. noticed e (inbox_of bs u)) inboxes) ∙ h))
      (λ e to h. inl (to, sym (owes e) ∙ h))
      (λ e u m k site live h. inl (sym (ap (λ bs. are_coming e u (inbox_of bs m)) inboxes) ∙ h))
      (λ e u h. inl (kept e u h))

  -- a mail comes that is no notice
  posted-hushed : (o : Turnout) (r : StarPart) → o.step.node.star ≡ Some r → o.medium.removed ≡ w.medium.removed
      → (to : ℕ) (y : Mail) → o.medium.inboxes ≡ with_mail w.medium.inboxes to y → ((e : ℕ) → names e y ≡ false)
      → ((e : ℕ) → is_control_of deck.entries e y ≡ true → manages p e ≡ true)
      → ((e u : ℕ) → is_part_of e u y ≡ true → (u ≡ c.0) × ((x : SysId) × (owed_to p e ≡ Some x)))
      → ((e : ℕ) (x : SysId) → owed_to r e ≡ Some x → owed_to p e ≡ Some x)
      → ((e u : ℕ) → are_kept (gathering_at r.gathers e) u ≡ true → are_kept (gathering_at p.gathers e) u ≡ true)
      → AreHushed deck (world_then w c n o)
  posted-hushed o r now removed to y inboxes away control part owes kept =
      hushed-then deck w c n p a.site a.star E H o r now (λ u live. sym (ap (λ i. has i u) removed) ∙ live)
      (λ e u k site live h. late e u h)
      (λ e u k site live h. inl (quiet e u h))
      (λ e x h. inl (x, owes e x h))
      (λ e u m k site live h. coming e u m h)
      (λ e u h. inl (kept e u h))
    where
      late : (e u : ℕ) → is_told_late deck.entries e (inbox o.medium u) ≡ true
          → (is_told_late deck.entries e (inbox w.medium u) ≡ true) ⊎ (manages p e ≡ true)
      late e u h =
          posted-at w.medium.inboxes to u y
          (λ ms. is_told_late deck.entries e ms ≡ true
          → (is_told_late deck.entries e (inbox w.medium u) ≡ true) ⊎ (manages p e ≡ true))
          (λ k. inl k) (λ here k. by (is_control_of deck.entries e y) refl k)
          (sym (ap (λ bs. is_told_late deck.entries e (inbox_of bs u)) inboxes) ∙ h)
        where
          by : (b : Bool) → is_control_of deck.entries e y ≡ b
              → is_told_late deck.entries e (inbox w.medium u ++ y ∷ []) ≡ true
              → (is_told_late deck.entries e (inbox w.medium u) ≡ true) ⊎ (manages p e ≡ true)
          by true is k = inr (control e is)
          by false is k = inl (late-more deck.entries e (inbox w.medium u) y is k)

      quiet : (e u : ℕ) → noticed e (inbox o.medium u) ≡ true → noticed e (inbox w.medium u) ≡ true
      quiet e u h =
          posted-at w.medium.inboxes to u y
          (λ ms. noticed e ms ≡ true → noticed e (inbox w.medium u) ≡ true) (λ k. k)
          (λ here k. sym (noticed-more e (inbox w.medium u) y (away e)) ∙ k)
          (sym (ap (λ bs. noticed e (inbox_of bs u)) inboxes) ∙ h)

      coming : (e u m : ℕ) → are_coming e u (inbox o.medium m) ≡ true
          → (are_coming e u (inbox w.medium m) ≡ true) ⊎ ((u ≡ c.0) × ((x : SysId) × (owed_to p e ≡ Some x)))
      coming e u m h =
          posted-at w.medium.inboxes to m y
          (λ ms. are_coming e u ms ≡ true
          → (are_coming e u (inbox w.medium m) ≡ true) ⊎ ((u ≡ c.0) × ((x : SysId) × (owed_to p e ≡ Some x))))
          (λ k. inl k)
          (λ here k.
          by (is_part_of e u y) refl (are_coming e u (inbox w.medium m)) refl
          (sym (list_any-append (is_part_of e u) (inbox w.medium m) (y ∷ [])) ∙ k))
          (sym (ap (λ bs. are_coming e u (inbox_of bs m)) inboxes) ∙ h)
        where
          by : (b : Bool) → is_part_of e u y ≡ b → (d : Bool) → are_coming e u (inbox w.medium m) ≡ d
              → (are_coming e u (inbox w.medium m) || (is_part_of e u y || false)) ≡ true
              → (are_coming e u (inbox w.medium m) ≡ true)
              ⊎ ((u ≡ c.0) × ((x : SysId) × (owed_to p e ≡ Some x)))
          by true is d was k = inr (part e u is)
          by false is true was k = inl was
          by false is false was k =
              absurd (let no : false ≡ true =
              sym (ap (λ b. are_coming e u (inbox w.medium m) || (b || false)) is
              ∙ ap (λ b. b || (false || false)) was) ∙ k in cc)

  -- ---- a mail is taken
  taken-hushed : (mail : Mail) (rest : List Mail) (front : inbox w.medium c.0 ≡ mail ∷ rest) →
      AreHushed deck (world_then w c n (record {
        medium = record w.medium { inboxes = without_first w.medium.inboxes c.0; rest = awake w.medium c };
        step = with_star n (take_mail deck n.known n.tasks p mail);
      }))
  taken-hushed mail rest front =
      hushed-then deck w c n p a.site a.star E H (took deck some w c n p a home J mail rest front)
      (take_mail deck n.known n.tasks p mail).part refl (λ u live. live)
      (λ e u k site live h.
      inl (by-box u (λ ms. is_told_late deck.entries e ms ≡ true) (late-left deck.entries e mail rest) h))
      (λ e u k site live h.
      inl (by-box u (λ ms. noticed e ms ≡ true) (λ j. or_right (names e mail) (noticed e rest) j) h))
      (λ e to h. owes e (take-owes e deck n p mail to h))
      (λ e u m k site live h.
      inl (by-box m (λ ms. are_coming e u ms ≡ true) (λ j. or_right (is_part_of e u mail) (are_coming e u rest) j) h))
      (λ e u h. kept e u (are_kept (gathering_at p.gathers e) u) refl (take-kept e deck n p mail u h))
    where
      -- what holds of the rest did of the whole
      by-box : (u : ℕ) (P : List Mail → Type 0) → (P rest → P (mail ∷ rest))
          → P (inbox_of (without_first w.medium.inboxes c.0) u) → P (inbox w.medium u)
      by-box u P more h = go (u == c.0) refl
        where
          go : (b : Bool) → (u == c.0) ≡ b → P (inbox w.medium u)
          go false other = subst P (untaken-box w.medium.inboxes c.0 u (eqb-false u c.0 other)) h
          go true same =
              let here : u ≡ c.0 = eqb-true u c.0 same in
              subst P (sym (ap (λ i. inbox w.medium i) here ∙ front))
              (more (subst P (ap (inbox_of (without_first w.medium.inboxes c.0)) here
              ∙ box-own deck some w c n p a home J mail rest front) h))

      owes : (e : ℕ) → ((x : SysId) × (owed_to p e ≡ Some x)) ⊎ (names e mail ≡ true)
          → ((x : SysId) × (owed_to p e ≡ Some x)) ⊎ (noticed e (inbox w.medium c.0) ≡ true)
      owes e (inl z) = inl z
      owes e (inr here) = inr (ap (noticed e) front ∙ or_left (names e mail) (noticed e rest) here)

      kept : (e u : ℕ) (b : Bool) → are_kept (gathering_at p.gathers e) u ≡ b
          → (are_kept (gathering_at p.gathers e) u || is_part_of e u mail) ≡ true
          → (are_kept (gathering_at p.gathers e) u ≡ true) ⊎ (are_coming e u (inbox w.medium c.0) ≡ true)
      kept e u true is h = inl is
      kept e u false is h =
          inr (ap (are_coming e u) front
          ∙ or_left (is_part_of e u mail) (are_coming e u rest)
          (sym (ap (λ b. b || is_part_of e u mail) is) ∙ h))

  -- ---- it removes one
  module _ (around : systems_of w.medium ≡ length deck.systems) (target : SysId) (mode : w.medium.star ≡ true)
      (next : next_order deck n ≡ Some (orders.Vary target)) (lives : is_live w.medium target ≡ true) where
    posted-late : (e : ℕ) (ms : List Mail) (xs : List Moved)
        → is_told_late deck.entries e (ms ++ notices_to target xs) ≡ true → is_told_late deck.entries e ms ≡ true
    posted-late e ms [] h = sym (ap (is_told_late deck.entries e) (append-nil ms)) ∙ h
    posted-late e ms (x ∷ xs) h = late-more deck.entries e ms (mails.Notice target (x ∷ xs)) refl h

    posted-notice : (e : ℕ) (ms : List Mail) (xs : List Moved) → noticed e (ms ++ notices_to target xs) ≡ true
        → (noticed e ms ≡ true) ⊎ (is_told_late deck.entries e (ms ++ notices_to target xs) ≡ false)
    posted-notice e ms [] h = inl (sym (ap (noticed e) (append-nil ms)) ∙ h)
    posted-notice e ms (x ∷ xs) h = go (names e (mails.Notice target (x ∷ xs))) refl
      where
        go : (b : Bool) → names e (mails.Notice target (x ∷ xs)) ≡ b
            → (noticed e ms ≡ true)
            ⊎ (is_told_late deck.entries e (ms ++ mails.Notice target (x ∷ xs) ∷ []) ≡ false)
        go true here = inr (late-noticed deck.entries e ms (mails.Notice target (x ∷ xs)) refl here)
        go false away = inl (sym (noticed-more e ms (mails.Notice target (x ∷ xs)) away) ∙ h)

    posted-coming : (e u : ℕ) (ms : List Mail) (xs : List Moved)
        → are_coming e u (ms ++ notices_to target xs) ≡ true → are_coming e u ms ≡ true
    posted-coming e u ms [] h = sym (ap (are_coming e u) (append-nil ms)) ∙ h
    posted-coming e u ms (x ∷ xs) h =
        sym (list_any-append (is_part_of e u) ms (mails.Notice target (x ∷ xs) ∷ [])
        ∙ or-false (are_coming e u ms)) ∙ h

    removed-hushed : AreHushed deck (world_then w c n (record {
      medium = without_in_star w.medium target;
      step = purged deck n (choices.Purge target);
    }))
    removed-hushed =
        hushed-then deck w c n p a.site a.star E H
        (record { medium = without_in_star w.medium target; step = purged deck n (choices.Purge target) })
        (lose_all (names_of deck n.tasks.system) (standing (desk_told n VaryDone).tasks p) (target ∷ [])).part
        (own-star deck some w c n p a home J around target mode next lives)
        (λ u live.
        false_by (has w.medium.removed u) (λ h.
        no_truth (has (with_also w.medium.removed target.0) u) (also-more w.medium.removed target.0 u h) live))
        (λ e u k site live h.
        inl (posted-late e (inbox w.medium u) (told_to w.medium target (record { 0 = u }))
        (sym (ap (is_told_late deck.entries e) (box u k site live)) ∙ h)))
        (λ e u k site live h. notice e u k site live h)
        (λ e to h.
        inl (
          to,
          sym (lost-owes e (names_of deck n.tasks.system) (standing (desk_told n VaryDone).tasks p) (target ∷ [])) ∙ h,
        ))
        (λ e u m k site live h.
        inl (posted-coming e u (inbox w.medium m) (told_to w.medium target (record { 0 = m }))
        (sym (ap (are_coming e u) (box m k site live)) ∙ h)))
        (λ e u h.
        inl (lost-few e (names_of deck n.tasks.system) (standing (desk_told n VaryDone).tasks p) (target ∷ []) u h))
      where
        box : (u : ℕ) (k : NodeState) → Site w u k → has (with_also w.medium.removed target.0) u ≡ false
            → inbox (without_in_star w.medium target) u
            ≡ inbox w.medium u ++ notices_to target (told_to w.medium target (record { 0 = u }))
        box u k site live = box-then deck some w c n p a home J around target mode next lives u k site live

        notice : (e u : ℕ) (k : NodeState) → Site w u k → has (with_also w.medium.removed target.0) u ≡ false
            → noticed e (inbox (without_in_star w.medium target) u) ≡ true
            → (noticed e (inbox w.medium u) ≡ true)
            ⊎ (is_told_late deck.entries e (inbox (without_in_star w.medium target) u) ≡ false)
        notice e u k site live h =
            subst (λ (ms : List Mail).
            (noticed e (inbox w.medium u) ≡ true) ⊎ (is_told_late deck.entries e ms ≡ false))
            (sym (box u k site live))
            (posted-notice e (inbox w.medium u) (told_to w.medium target (record { 0 = u }))
            (sym (ap (noticed e) (box u k site live)) ∙ h))

  -- ---- any event
  acts-hushed : (choice : Choice) (b : Result) (o : Turnout) → Acts deck w.medium c n p choice b o
      → AreHushed deck (world_then w c n o)
  unfolding decide_own
  acts-hushed choice b o (any.decided t x e asked to named same) =
      still-hushed o _ refl refl refl (λ i. refl) (λ i u h. h)
  acts-hushed choice b o (any.began t x e asked none) =
      still-hushed o _ refl refl refl (λ i. refl) (λ i u h. h)
  acts-hushed choice b o (any.sent t x e asked to named far) =
      posted-hushed o (with_interest p e true) refl refl to.0 (mails.Request e c (request_of t x)) refl (λ i. refl)
      (λ i h. absurd (cc)) (λ i u h. absurd (cc)) (λ i z h. h) (λ i u h. h)
  acts-hushed choice b o (any.took mail rest front) = taken-hushed mail rest front
  acts-hushed choice b o (any.settled q first) =
      posted-hushed o (settled_first n.tasks p q).part refl refl q.task.system.0
      (mails.Answered q.task (answer_for p q) (rank_of p q)) refl (λ i. refl) (λ i h. absurd (cc))
      (λ i u h. absurd (cc)) (λ i z h. h) (λ i u h. h)
  acts-hushed choice b o (any.told f x first) =
      posted-hushed o (told_by p (Some x)) refl refl x.0.system.0 (mails.Granted x.0 x.1) refl (λ i. refl)
      (λ i h. told-managed deck p pure f x first i h) (λ i u h. absurd (cc)) (λ i z h. h) (λ i u h. h)
  acts-hushed choice b o (any.parted f to owes unknown) =
      posted-hushed o (record p { owes = owing p.owes f None }) refl refl to.0 (mails.Part f p.manager.system _) refl
      (λ i. refl) (λ i h. absurd (cc))
      (λ i u h.
      let both = and_parts (f == i) (p.manager.system.0 == u) h in (
        sym (eqb-true p.manager.system.0 u both.1) ∙ a.part.home,
        (to, ap (owed_to p) (sym (eqb-true f i both.0)) ∙ owes),
      ))
      (λ i z h. owed i z h) (λ i u h. h)
    where
      owed : (i : ℕ) (z : SysId) → unwrap_or (slice_get (owing p.owes f None) i) None ≡ Some z → owed_to p i ≡ Some z
      owed i z h = go (i == f) refl
        where
          go : (d : Bool) → (i == f) ≡ d → owed_to p i ≡ Some z
          go true same =
              absurd (let no : None ≡ Some z =
              sym (ap (λ j. unwrap_or (slice_get (owing p.owes f None) j) None) (eqb-true i f same)
              ∙ set-none p.owes f) ∙ h in cc)
          go false other = sym (set-other p.owes f i None (eqb-false i f other)) ∙ h
  acts-hushed choice b o (any.left x flags may is) =
      still-hushed o (left_at p x) refl refl refl (λ i. refl) (λ i u h. h)

  star-told : (said : Said) → (desk_told n said).star ≡ Some p
  unfolding desk_told
  star-told said = a.star

  informed-hushed : AreHushed deck (world_then w c n (record {
    medium = w.medium;
    step = only (stale deck n w.medium.removed);
  }))
  unfolding stale losing
  informed-hushed =
      still-hushed (record { medium = w.medium; step = only (stale deck n w.medium.removed) })
      (lose_all (names_of deck n.tasks.system) (standing n.tasks p)
      (members (without_those n.known (known_from deck n.known w.medium.removed)))).part
      (ap (λ (o : Option StarPart).
      (losing_in deck (record n { known = known_from deck n.known w.medium.removed }) o
      (members (without_those n.known (known_from deck n.known w.medium.removed)))).star)
      a.star)
      refl refl
      (λ e.
      lost-owes e (names_of deck n.tasks.system) (standing n.tasks p)
      (members (without_those n.known (known_from deck n.known w.medium.removed))))
      (λ e u h.
      lost-few e (names_of deck n.tasks.system) (standing n.tasks p)
      (members (without_those n.known (known_from deck n.known w.medium.removed))) u h)

  module _ (around : systems_of w.medium ≡ length deck.systems) where
    pub came-hushed : (choice : Choice) (b : Result) (o : Turnout) → Came deck w.medium c n choice b o
        → AreHushed deck (world_then w c n o)
    came-hushed choice b o (any.nothing k r silent flags) =
        still-hushed o p a.star refl refl (λ e. refl) (λ e u h. h)
    came-hushed choice b o (any.informed k) = informed-hushed
    came-hushed choice b o (any.went_on t may) =
        still-hushed o p ((stays-task deck.limit n t (lines_of deck t)).star ∙ a.star) refl refl (λ e. refl)
        (λ e u h. h)
    came-hushed choice b o (any.turn flags alone unclosed here) = no_part n p a.star alone
    came-hushed choice b o (any.last_turn flags alone shut here) = no_part n p a.star alone
    came-hushed choice b o (any.changed ring next seen) = no_truth w.medium.star a.fit.mode ring
    came-hushed choice b o (any.already mode next) =
        still-hushed o p (star-told saids.StarAlready) refl refl (λ e. refl) (λ e u h. h)
    came-hushed choice b o (any.removes_one target ring next lives) = no_truth w.medium.star a.fit.mode ring
    came-hushed choice b o (any.removes_star target mode next lives) =
        removed-hushed around target mode next lives
    came-hushed choice b o (any.no_such target next gone) =
        still-hushed o p (star-told saids.VaryNoSuch) refl refl (λ e. refl) (λ e u h. h)
    came-hushed choice b o (any.acted q is k r x acts) =
        acts-hushed k r x
        (subst (λ (z : StarPart). Acts deck w.medium c n z k r x) (same_Some q p (sym is ∙ a.star)) acts)
