-- A system sends its part of an entry.
use Rattle.grs_world.proofs.Common.{[], ◌&&◌, ◌++◌, ◌<◌, ◌==◌, ◌∙◌, ◌∷◌, ◌≡◌, ◌≢◌, ◌≤◌, ◌⊎◌, ap, append-nil, arith}
use Rattle.grs_world.proofs.Common.{awake, Bool, cond, Deck, eq-eqb, eqb-true, false, fixing_none, gathering_at, has}
use Rattle.grs_world.proofs.Common.{inbox, inbox_of, inl, inr, length, List, Mail, manager_at, Moved, names_of, ne_eqb}
use Rattle.grs_world.proofs.Common.{no_truth, NodeState, None, owed_to, owing, part_of, PartRec, refl, same_Some, Some}
use Rattle.grs_world.proofs.Common.{StarPart, subst, sym, SysId, true, Turnout, with_mail, with_star, World, ℕ}
use Rattle.grs_known.proofs.lists.Truths.{eqb-flip}
use Rattle.grs_wire.specs.LockWords.{manager_number}
use Rattle.grs_world.proofs.gather.Notices.{posted-one}
use Rattle.grs_world.proofs.gather.way.Acting.{Acting}
use Rattle.grs_world.proofs.gather.way.Boxes.{early, early-more, last-more, parts-more}
use Rattle.grs_world.proofs.gather.way.Entry.{IsEntry, as_before, is_there}
use Rattle.grs_world.proofs.gather.way.Scene.{BoxStays, box-grows, box-same, each-then, entry_in, stance-is, stays-then}
use Rattle.grs_world.proofs.gather.way.Sent.{Sends, entry-sent}
use Rattle.grs_world.proofs.gather.way.Steps.{alike-same, set-none, set-other}
use Rattle.grs_world.proofs.run.Placed.{world_then}
use Rattle.grs_world.proofs.run.Site.{Site}
use Rattle.grs_world.proofs.star.Boxes.{by_box}
use Rattle.grs_world.specs.OnTheWay.{Stance, last_item, part_from, parts_from, stance_at, stance_of}
use Rattle.grs_wire.specs.declared.medium.Mail.TheVariants as mails

module _ (deck : Deck) (w : World) (c : SysId) (n : NodeState) (p : StarPart) (a : Acting deck w c n p)
    (knows : n.known ≡ w.medium.removed) (f : ℕ) (to : SysId) (owes : owed_to p f ≡ Some to)
    (unknown : has n.known to.0 ≡ false) (e : ℕ) (inside : e < deck.entries) (J : IsEntry (entry_in w e)) where
  abbrev part : List PartRec
  part = part_of (length p.manager.entries) f (names_of deck n.tasks.system) n.tasks

  abbrev mail : Mail
  mail = mails.Part f p.manager.system (part_of (length p.manager.entries) f (names_of deck n.tasks.system) n.tasks)

  abbrev pub sending : Turnout
  sending = record {
    medium =
        record w.medium {
          inboxes =
              with_mail w.medium.inboxes to.0
              (mails.Part f p.manager.system
              (part_of (length p.manager.entries) f (names_of deck n.tasks.system) n.tasks));
          rest = awake w.medium c;
        };
    step = with_star n (fixing_none n.tasks (record p { owes = owing p.owes f None }));
  }

  abbrev q : StarPart
  q = record p { owes = owing p.owes f None }

  abbrev alive : ℕ → Bool
  alive = is_there (entry_in (world_then w c n sending) e)

  own : stance_at w e c.0 ≡ Some (stance_of e p (inbox w.medium c.0))
  own = stance-is w e c.0 n p a.site a.star

  -- it is of another entry
  other-sent : (f == e) ≡ false → IsEntry (entry_in (world_then w c n sending) e)
  other-sent apart =
      stays-then w e c n a.site sending (λ u h. h) p a.star J refl (λ s S live is h. inl h)
      (λ s live.
      posted-one w.medium.inboxes to.0 s mail (BoxStays alive s e (inbox w.medium s))
      (box-same alive s e (inbox w.medium s))
      (box-grows alive s e (inbox w.medium s) mail refl
      (λ u. ap (λ b. cond (b && (p.manager.system.0 == u)) (part ∷ []) []) apart)))
      q refl
      (set-other p.owes f e None (λ same. no_truth (f == e) (eq-eqb f e (sym same)) apart))
      (as_before refl (alike-same alive c.0 (gathering_at p.gathers e)))

  -- it is of this entry
  module _ (same : f ≡ e) where
    owed : owed_to p e ≡ Some to
    owed = ap (owed_to p) (sym same) ∙ owes

    lives : has w.medium.removed to.0 ≡ false
    lives = ap (λ i. has i to.0) (sym knows) ∙ unknown

    -- to the manager by the word, whose inbox is there
    named : manager_at w.medium.words e ≡ Some to
    named = go ((J.each c.0 (stance_of e p (inbox w.medium c.0)) own).owes to owed).2
      where
        go :
            (((x : Moved) × (last_item e (inbox w.medium c.0) ≡ Some x)) × (has w.medium.removed to.0 ≡ true))
            ⊎ ((last_item e (inbox w.medium c.0) ≡ None) × (manager_at w.medium.words e ≡ Some to))
            → manager_at w.medium.words e ≡ Some to
        go (inl z) = no_truth (has w.medium.removed to.0) z.1 lives
        go (inr z) = z.1

    apart : (to.0 == c.0) ≡ false
    apart = ((J.each c.0 (stance_of e p (inbox w.medium c.0)) own).owes to owed).1

    there : to.0 < length w.medium.inboxes
    there =
        let words = a.fit.words in
        let boxes = a.fit.boxes in
        let low : manager_number (manager_at w.medium.words e) ≤ length deck.systems =
        a.fit.below e 0 (omega (arith, inside, words)) in
        let least : manager_number (Some to) ≤ length deck.systems =
        subst (λ o. manager_number o ≤ length deck.systems) named low in
        omega (arith, least, boxes)

    abbrev WasSo : ℕ → Stance → Type 0
    WasSo s T =
        (S : Stance) × (stance_at w e s ≡ Some S)
        × Sends c.0 to (part_of (length p.manager.entries) f (names_of deck n.tasks.system) n.tasks) s S T

    -- what the inbox of s has of it then
    record Gets (s : ℕ) (ks : List Mail) : Type 0 where
      last : last_item e ks ≡ last_item e (inbox w.medium s)
      parts : (u : ℕ) → parts_from e ks u
          ≡ parts_from e (inbox w.medium s) u
          ++ cond ((to.0 == s) && (u == c.0))
          (part_of (length p.manager.entries) f (names_of deck n.tasks.system) n.tasks ∷ []) []

    gets : (s : ℕ) → Gets s (inbox_of (with_mail w.medium.inboxes to.0 mail) s)
    gets s =
        by_box w.medium.inboxes to.0 mail (Gets s) there s
        (λ here. record {
          last = last-more e (inbox w.medium s) mail refl;
          parts = λ u.
              parts-more e (inbox w.medium s) mail u
              ∙ ap (λ b. parts_from e (inbox w.medium s) u ++ cond b (part ∷ []) [])
              (ap (λ b. b && (p.manager.system.0 == u)) (eq-eqb f e same)
              ∙ (ap (λ i. i == u) a.part.home
              ∙ (eqb-flip c.0 u
              ∙ sym (ap (λ b. b && (u == c.0)) (eq-eqb to.0 s (sym here))))));
        })
        (λ other. record {
          last = refl;
          parts = λ u.
              sym (ap (λ b. parts_from e (inbox w.medium s) u ++ cond (b && (u == c.0)) (part ∷ []) [])
              (ne_eqb to.0 s (λ is. other (sym is)))
              ∙ append-nil (parts_from e (inbox w.medium s) u));
        })

    early-was : (s u : ℕ) → early e u (inbox_of (with_mail w.medium.inboxes to.0 mail) s) ≡ true
        → early e u (inbox w.medium s) ≡ true
    early-was s u =
        posted-one w.medium.inboxes to.0 s mail
        (λ ks. early e u ks ≡ true → early e u (inbox w.medium s) ≡ true) (λ h. h)
        (λ h. sym (early-more e u (inbox w.medium s) mail refl) ∙ h)

    own-was : (k : StarPart) → (sending).step.node.star ≡ Some k → has w.medium.removed c.0 ≡ false
        → WasSo c.0 (stance_of e k (inbox (sending).medium c.0))
    own-was k star live =
        subst (λ (z : StarPart). WasSo c.0 (stance_of e z (inbox (sending).medium c.0))) (same_Some q k star) (
          stance_of e p (inbox w.medium c.0),
          own,
          record {
            manages = refl;
            gathering = refl;
            notice = (gets c.0).last;
            owes =
                ap (λ i. owed_to (record p { owes = owing p.owes i None }) e) same
                ∙ (set-none p.owes e ∙ sym (ap (λ b. cond b None (owed_to p e)) (eq-eqb c.0 c.0 refl)));
            coming = (gets c.0).parts;
          },
        )

    other-was : (s : ℕ) (k : NodeState) (r : StarPart) → s ≢ c.0 → Site w s k → k.star ≡ Some r
        → has w.medium.removed s ≡ false → WasSo s (stance_of e r (inbox (sending).medium s))
    other-was s k r ne u star live = (
      stance_of e r (inbox w.medium s),
      stance-is w e s k r u star,
      record {
        manages = refl;
        gathering = refl;
        notice = (gets s).last;
        owes = sym (ap (λ b. cond b None (owed_to r e)) (ne_eqb s c.0 ne));
        coming = (gets s).parts;
      },
    )

    this-sent : IsEntry (entry_in (world_then w c n sending) e)
    this-sent =
        entry-sent (entry_in w e) (entry_in (world_then w c n sending) e) J c.0 (stance_of e p (inbox w.medium c.0)) own
        to owed lives part refl (λ s. refl) (λ s. refl)
        (each-then w e c n a.site sending (λ u h. h) WasSo own-was other-was) early-was

  pub part-sent : IsEntry (entry_in (world_then w c n sending) e)
  part-sent = go (f == e) refl
    where
      go : (b : Bool) → (f == e) ≡ b → IsEntry (entry_in (world_then w c n sending) e)
      go true same = this-sent (eqb-true f e same)
      go false apart = other-sent apart
