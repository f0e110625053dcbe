-- A manager tells an owner of another system that it owns.
use Rattle.grs_world.proofs.Common.{[], ◌++◌, ◌<◌, ◌==◌, ◌∙◌, ◌∷◌, ◌≡◌, ◌≢◌, Alike, and_from, and_parts, Answered, ap}
use Rattle.grs_world.proofs.Common.{arith, awake, Bool, Deck, entry_of_res, eq-eqb, eqb-false, false, false_by}
use Rattle.grs_world.proofs.Common.{fixing_none, Granted, inbox, is_home_at, is_interested, is_some, items, items_of}
use Rattle.grs_world.proofs.Common.{length, lines_of, List, list_of, lists, Mail, Managed, managed_at, MediumState}
use Rattle.grs_world.proofs.Common.{no_truth, NodeState, None, not, not-true, Notice, Option, option_map, owns}
use Rattle.grs_world.proofs.Common.{owns-has, owns-may, Part, placed, plain, Ranked, refl, Res, RunItem, same_Some}
use Rattle.grs_world.proofs.Common.{Some, StarPart, State, still-told, subst, sym, SysId, TaskId, to_tell, true}
use Rattle.grs_world.proofs.Common.{Turnout, with_mail, with_star, World, ℕ}
use Rattle.grs_wire.specs.declared.medium.Mail.TheVariants.{Request}
use Rattle.grs_node.specs.Star.{told_by}
use Rattle.contention_mgr.specs.Manager.{first_untold, owner_of}
use Rattle.contention_mgr.proofs.LawProofs.{first_is_untold}
use Rattle.contention_mgr.proofs.OwnLemmas.{first_untold_owns}
use Rattle.grs_world.proofs.star.Elements.{near-has}
use Rattle.grs_world.proofs.star.Members.{IsPart, has_manager, one-manages}
use Rattle.grs_world.proofs.star.Systems.{IsSystem, IsAway, near_at, requests_in, system-granted}
use Rattle.grs_world.proofs.star.Under.{under, in_entry, entry-is, list-under, under-has}
use Rattle.grs_world.proofs.star.Worlds.{IsWhole, Hands, are_live, in_hands, items-none, whole-placed, none_fixed}
use Rattle.grs_world.proofs.star.Worlds.{live-below}
use Rattle.grs_world.proofs.star.Heard.{StaysHeard}
use Rattle.grs_world.proofs.star.hearing.Told.{heard-told}
use Rattle.grs_world.proofs.star.ranks.Mails.{ranked-told}
use Rattle.grs_world.proofs.star.ranks.Ranked.{StaysRanked}
use Rattle.grs_world.proofs.star.steps.Outcome.{Comes, part}
use Rattle.grs_world.proofs.run.Desks.{tells_tasks}
use Rattle.grs_world.proofs.run.Site.{Site}
use Rattle.grs_world.proofs.star.Boxes.{other-box, by_box}

-- ---- who is told
-- A task of another system than s, which owns a resource of an entry that s manages.
record IsOwner (deck : Deck) (words : List ℕ) (L : State) (s e : ℕ) (t : TaskId) (r : Res) : Type 0 where
  pub apart : t.system.0 ≢ s
  pub at : entry_of_res deck.entries r ≡ Some e
  pub owned : owns (list_of L r) t ≡ true
  pub managed : has_manager words e s ≡ true

module _ (deck : Deck) (words : List ℕ) (L : State) (s : ℕ) (p : StarPart) (k : IsPart deck words L s p) (e : ℕ) where
  -- the owner who is found first in an entry is one
  module _ (m : Managed) (is : managed_at p.manager e ≡ Some m) (y : Ranked)
      (first : first_untold p.manager.system.0 m.items ≡ Some y) where
    kept : Alike (plain m.items) (under deck.entries e L)
    kept = subst (λ o. Alike (plain (items_of o)) (under deck.entries e L)) is (k.lists e (ap is_some is))

    by_manager : owns (list_of (under deck.entries e L) y.res) y.elem.task ≡ true
    by_manager =
        ap (λ es. owns es y.elem.task) (sym (kept.lists y.res))
        ∙ first_untold_owns p.manager.system.0 p.manager.system.0 m y (k.well e m is).untold first

    here : in_entry deck.entries e y.res ≡ true
    here =
        under-has deck.entries e L y.res y.elem.task
        (owns-has (list_of (under deck.entries e L) y.res) y.elem.task by_manager)

    elsewhere : (p.manager.system.0 == y.elem.task.system.0) ≡ false
    elsewhere =
        not-true (p.manager.system.0 == y.elem.task.system.0)
        (and_parts y.untold (not (p.manager.system.0 == y.elem.task.system.0))
        (first_is_untold p.manager.system.0 m.items y first).2).1

    is-owner : IsOwner deck words L s e y.elem.task y.res
    is-owner = record {
      apart = λ same. eqb-false p.manager.system.0 y.elem.task.system.0 elsewhere (k.home ∙ sym same);
      at = entry-is e (entry_of_res deck.entries y.res) here;
      owned = ap (λ es. owns es y.elem.task) (sym (list-under deck.entries e L y.res here)) ∙ by_manager;
      managed = sym (k.roles e) ∙ ap is_some is;
    }

  first-owns : (x : TaskId × Res) → to_tell p e ≡ Some x → IsOwner deck words L s e x.0 x.1
  first-owns x = by_entry (managed_at p.manager e) refl
    where
      by_first : (m : Managed) → managed_at p.manager e ≡ Some m → (o : Option Ranked)
          → first_untold p.manager.system.0 m.items ≡ o → option_map owner_of o ≡ Some x
          → IsOwner deck words L s e x.0 x.1
      by_first m is None first h = absurd (cc)
      by_first m is (Some y) first h =
          subst (λ (z : TaskId × Res). IsOwner deck words L s e z.0 z.1) (same_Some (owner_of y) x h)
          (is-owner m is y first)

      by_entry : (o : Option Managed) → managed_at p.manager e ≡ o
          → option_map owner_of (first_untold p.manager.system.0 (items_of o)) ≡ Some x
          → IsOwner deck words L s e x.0 x.1
      by_entry None is h = absurd (cc)
      by_entry (Some m) is h = by_first m is (first_untold p.manager.system.0 m.items) refl h

-- control is none of the requests
requests-granted : (ms : List Mail) (t : TaskId) (r : Res) → requests_in ms ≡ requests_in (ms ++ Granted t r ∷ [])
requests-granted [] t r = refl
requests-granted (Request e from q ∷ ms) t r = ap (λ zs. q ∷ zs) (requests-granted ms t r)
requests-granted (Answered u a rank ∷ ms) t r = requests-granted ms t r
requests-granted (Granted u q ∷ ms) t r = requests-granted ms t r
requests-granted (Notice target moved ∷ ms) t r = requests-granted ms t r
requests-granted (Part e from records ∷ ms) t r = requests-granted ms t r

module _ (deck : Deck) (w : World) (g : IsWhole deck w) (c : SysId) (n : NodeState) (at : Site w c.0 n) where
  abbrev T : List RunItem
  T = items w.fixed

  abbrev words : List ℕ
  words = w.medium.words

  abbrev p : StarPart
  p = part deck w g c n at

  -- ---- the world once control was sent to an owner
  module _ (entry : ℕ) (t : TaskId) (r : Res)
      (owner : IsOwner deck w.medium.words (lists (items w.fixed)) c.0 entry t r) (flags : ℕ) where
    abbrev sent_on : MediumState
    sent_on = record w.medium { inboxes = with_mail w.medium.inboxes t.system.0 (Granted t r); rest = flags }

    own_box : inbox sent_on c.0 ≡ inbox w.medium c.0
    own_box = other-box w.medium.inboxes t.system.0 (Granted t r) c.0 (λ same. owner.apart (sym same))

    known : is_some (lines_of deck t) ≡ true
    known = (and_parts (is_some (lines_of deck t)) _ (owns-may deck T r t g.right.asks owner.owned)).0

    home : is_home_at deck t.system.0 t ≡ true
    home = and_from (t.system.0 == t.system.0) (is_some (lines_of deck t)) (eq-eqb t.system.0 t.system.0 refl) known

    interested : is_interested w.medium.words entry t.system.0 ≡ true
    interested =
        sym (ap (near_at words t.system.0) owner.at)
        ∙ near-has deck words (lists T) r t g.near (owns-has (list_of (lists T) r) t owner.owned)

    -- so it is of one of the systems
    below : t.system.0 < length w.nodes
    below = go (are_live w t.system.0) refl
      where
        go : (b : Bool) → are_live w t.system.0 ≡ b → t.system.0 < length w.nodes
        go true e = (live-below w t.system.0 e).0
        go false e =
            no_truth (is_interested w.medium.words entry t.system.0) interested (g.roles.nobody entry t.system.0 e).0

    away : IsAway deck w.medium.words t.system.0 t r
    away = record {
      home = home;
      entry = entry;
      at = owner.at;
      away = (
        false_by (has_manager words entry t.system.0)
            (λ mine. absurd (owner.apart (one-manages words entry t.system.0 c.0 mine owner.managed))),
        interested,
      );
    }

    box_there : t.system.0 < length w.medium.inboxes
    box_there = let k = below in omega (arith, k, g.roles.systems, g.roles.inboxes)

    others : (u : ℕ) (k : NodeState) → Site w u k
        → IsSystem deck w.medium.words T u k (inbox sent_on u) (g.later u) (g.out u)
    others u k found =
        by_box w.medium.inboxes t.system.0 (Granted t r)
        (λ ms. IsSystem deck words T u k ms (g.later u) (g.out u)) box_there u
        (λ same.
        system-granted deck words T u k (inbox w.medium u) (g.later u) (g.out u) (g.system u k found) g.right t r
        (subst (λ z. is_home_at deck z t ≡ true) (sym same) home) owner.owned
        (subst (λ z. IsAway deck w.medium.words z t r) (sym same) away))
        (λ ne. g.system u k found)

    same_requests : (u : ℕ) → requests_in (inbox w.medium u) ≡ requests_in (inbox sent_on u)
    same_requests u =
        by_box w.medium.inboxes t.system.0 (Granted t r) (λ ms. requests_in (inbox w.medium u) ≡ requests_in ms)
        box_there u (λ same. requests-granted (inbox w.medium u) t r) (λ ne. refl)

    -- the manager's part is another afterwards, and holds the same requests
    module _ (q : StarPart) (held : q.held ≡ p.held) where
      abbrev after : Turnout
      after = record { medium = sent_on; step = with_star n (fixing_none n.tasks q) }

      own :
          IsSystem deck w.medium.words T c.0 (with_star n (fixing_none n.tasks q)).node (inbox sent_on c.0)
          (g.later c.0) (g.out c.0)
      own =
          subst (λ ms. IsSystem deck words T c.0 (record n { star = Some q }) ms (g.later c.0) (g.out c.0))
          (sym own_box) (with_part (g.system c.0 n at))
        where
          with_part : IsSystem deck w.medium.words T c.0 n (inbox w.medium c.0) (g.later c.0) (g.out c.0)
              → IsSystem deck w.medium.words T c.0 (record n { star = Some q }) (inbox w.medium c.0) (g.later c.0)
              (g.out c.0)
          with_part h = record {
            at = h.at;
            late = h.late;
            sent = h.sent;
            near = h.near;
            coming = h.coming;
            answered = h.answered;
            fits = h.fits;
          }

      hands_own : (k : StarPart) → Some q ≡ Some k
          → Hands deck w.medium.words (are_live w) g.later g.out c.0 (in_hands k (inbox sent_on c.0))
      hands_own k is =
          subst (Hands deck words (are_live w) g.later g.out c.0)
          (ap (λ ms. p.held ++ requests_in ms) (sym own_box)
          ∙ (ap (λ qs. qs ++ requests_in (inbox sent_on c.0)) (sym held)
          ∙ ap (λ (z : StarPart). in_hands z (inbox sent_on c.0)) (same_Some q k is)))
          (g.hands c.0 n p at (g.roles.node c.0 n at).star)

      tells : (IsWhole deck (placed w c n after) → StaysHeard deck w c n after)
          → (IsWhole deck (placed w c n after) → StaysRanked deck w c n after) → Comes deck w g c n after
      tells heard ranked step = record {
        stays =
            whole-placed deck w g c n at after step T (items-none w.fixed c) g.later g.out (λ u ne. refl)
            none_fixed g.right g.near own
            (λ u k ne found. others u k found)
            hands_own
            (λ m k v ne found is.
            subst (Hands deck words (are_live w) g.later g.out m) (ap (λ zs. v.held ++ zs) (same_requests m))
            (g.hands m k v found is));
        news = tells_tasks (still-told refl) refl refl;
        heard = heard;
        ranked = ranked;
        dated = λ h. record { date = h.date; own = h.own };
      }

  -- ---- the event
  pub outcome-tell : (entry : ℕ) (x : TaskId × Res) → to_tell p entry ≡ Some x
      → Comes deck w g c n (record {
        medium =
            record w.medium
            { inboxes = with_mail w.medium.inboxes x.0.system.0 (Granted x.0 x.1); rest = awake w.medium c };
        step = with_star n (fixing_none n.tasks (told_by p (Some x)));
      })
  outcome-tell entry x is =
      tells entry x.0 x.1 owner (awake w.medium c) (told_by p (Some x)) refl
      (heard-told deck w g c n at p (g.roles.node c.0 n at).star x.0 x.1 owner.apart
      (below entry x.0 x.1 owner (awake w.medium c)) (awake w.medium c))
      (λ g'.
      ranked-told deck w g c n at p (g.roles.node c.0 n at).star x.0 x.1 owner.apart
      (below entry x.0 x.1 owner (awake w.medium c)) (awake w.medium c))
    where
      owner : IsOwner deck w.medium.words (lists T) c.0 entry x.0 x.1
      owner = first-owns deck words (lists T) c.0 p (g.roles.node c.0 n at).fits entry x is
