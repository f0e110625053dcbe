-- A live system of a whole world is as usual: it keeps nothing of a removed system, and no mail of its inbox is of one.
use Rattle.grs_world.proofs.Common.{[], ◌&&◌, ◌++◌, ◌==◌, ◌||◌, ◌∙◌, ◌∷◌, ◌≡◌, Alike, and-false, and_from, ap, Bool}
use Rattle.grs_world.proofs.Common.{cond, Deck, Elem, entry_of_res, entry_wanted, eqb-true, false, false_by, has}
use Rattle.grs_world.proofs.Common.{has_task, inbox, is_entry, is_interested, is_manager, is_systems, is_without}
use Rattle.grs_world.proofs.Common.{items_of, kept_at, kept_for, length, List, list_all, list_of, lives, Mail, Managed}
use Rattle.grs_world.proofs.Common.{manages, no_truth, NodeState, None, not, Option, or_left, Ranked, refl, Req}
use Rattle.grs_world.proofs.Common.{same_res, same_res-itself, same_Some, same_task, same_task-itself, slice_get, Some}
use Rattle.grs_world.proofs.Common.{StarPart, subst, suc, sym, SysId, true, true≢false, unwrap_or, World, zero, ℕ}
use Rattle.std.proofs.Common.{is_some}
use Rattle.contention_mgr.specs.Manager.{plain as plain_lists}
use Rattle.grs_node.specs.Star.{serves}
use Rattle.contention_mgr.specs.Loses.{stays}
use Rattle.grs_world.proofs.run.Site.{Site}
use Rattle.grs_world.proofs.star.Elements.{near-has}
use Rattle.grs_world.proofs.star.Members.{IsPart, all_lists}
use Rattle.grs_world.proofs.star.Plain.{IsUsual, IsUsualMail}
use Rattle.grs_world.proofs.run.Knowing.{KnowsRemoved}
use Rattle.grs_world.proofs.star.Sending.{manager-near}
use Rattle.grs_world.proofs.star.Systems.{AllFit, near_at, requests_in}
use Rattle.grs_world.proofs.star.Under.{in_entry, list-under, none-under, under}
use Rattle.grs_world.proofs.star.Worlds.{AllHands, Hands, IsHand, IsWhole, are_live, in_hands, live-below}
use Rattle.grs_world.proofs.star.steps.Outcome.{part}
use Rattle.grs_wire.specs.declared.medium.Mail.TheVariants as mails

all-at : {X : Type 0} (p : X → Bool) (xs : List X) → ((i : ℕ) (x : X) → slice_get xs i ≡ Some x → p x ≡ true)
    → list_all p xs ≡ true
all-at p [] each = refl
all-at p (x ∷ xs) each =
    and_from (p x) (list_all p xs) (each 0 x refl) (all-at p xs (λ i y at. each (suc i) y at))

-- an item of a manager's lists stands in its resource's list
item-listed : (xs : List Ranked) (i : ℕ) (x : Ranked) → slice_get xs i ≡ Some x
    → has_task (list_of (plain_lists xs) x.res) x.elem.task ≡ true
item-listed [] i x at = absurd (cc)
item-listed (y ∷ xs) zero x at = subst Listed (same_Some y x at) own
  where
    Listed : Ranked → Type 0
    Listed z = has_task (list_of (plain_lists (y ∷ xs)) z.res) z.elem.task ≡ true

    own : has_task (list_of (plain_lists (y ∷ xs)) y.res) y.elem.task ≡ true
    own =
        ap (λ b.
        has_task (cond b (y.elem ∷ list_of (plain_lists xs) y.res) (list_of (plain_lists xs) y.res)) y.elem.task)
        (same_res-itself y.res)
        ∙ or_left (same_task y.elem.task y.elem.task) (has_task (list_of (plain_lists xs) y.res) y.elem.task)
        (same_task-itself y.elem.task)
item-listed (y ∷ xs) (suc i) x at = go (same_res x.res y.res) (item-listed xs i x at)
  where
    further : (b : Bool) → (b || true) ≡ true
    further true = refl
    further false = refl

    go : (b : Bool) → has_task (list_of (plain_lists xs) x.res) x.elem.task ≡ true
        → has_task (cond b (y.elem ∷ list_of (plain_lists xs) x.res) (list_of (plain_lists xs) x.res)) x.elem.task
        ≡ true
    go false has = has
    go true has =
        ap (λ b. same_task x.elem.task y.elem.task || b) has ∙ further (same_task x.elem.task y.elem.task)

module _ (deck : Deck) (w : World) (g : IsWhole deck w) (c : SysId) (n : NodeState) (at : Site w c.0 n)
    (known : KnowsRemoved w.medium n) where
  abbrev p : StarPart
  p = part deck w g c n at

  fits : IsPart deck w.medium.words (all_lists w) c.0 p
  fits = (g.roles.node c.0 n at).fits

  -- who was removed isn't live
  dead : (u : ℕ) → has w.medium.removed u ≡ true → lives (length w.nodes) w.medium.removed u ≡ false
  dead u out = false_by (are_live w u) (λ live. no_truth (has w.medium.removed u) out (live-below w u live).1)

  -- an element is of a system with interest in its entry, so of a live one
  item-stays : (u : ℕ) → has w.medium.removed u ≡ true → (e : ℕ) (m : Managed) → kept_at p.manager.entries e ≡ Some m
      → (i : ℕ) (x : Ranked) → slice_get m.items i ≡ Some x → stays u x ≡ true
  item-stays u out e m kept i x there =
      ap (λ b. not (is_systems x.res && b)) (false_by (u == x.elem.task.system.0) apart)
      ∙ ap not (and-false (is_systems x.res))
    where
      mine : manages p e ≡ true
      mine = ap is_some kept

      listed : has_task (list_of (under deck.entries e (all_lists w)) x.res) x.elem.task ≡ true
      listed =
          ap (λ (es : List Elem). has_task es x.elem.task)
          (sym ((subst (λ o. Alike (plain_lists (items_of o)) (under deck.entries e (all_lists w))) kept
          (fits.lists e mine)).lists x.res))
          ∙ item-listed m.items i x there

      of_entry : (b : Bool) → in_entry deck.entries e x.res ≡ b
          → (in_entry deck.entries e x.res ≡ true)
          × (has_task (list_of (all_lists w) x.res) x.elem.task ≡ true)
      of_entry true is = (
        is,
        ap (λ (es : List Elem). has_task es x.elem.task) (sym (list-under deck.entries e (all_lists w) x.res is))
            ∙ listed,
      )
      of_entry false is =
          absurd (true≢false (sym listed
          ∙ ap (λ (es : List Elem). has_task es x.elem.task)
          (none-under (in_entry deck.entries e) (all_lists w) x.res is)))

      near : is_interested w.medium.words e x.elem.task.system.0 ≡ true
      near =
          let both = of_entry (in_entry deck.entries e x.res) refl in
          by_entry (entry_of_res deck.entries x.res) both.0
          (near-has deck w.medium.words (all_lists w) x.res x.elem.task g.near both.1)
        where
          by_entry : (o : Option ℕ) → is_entry e o ≡ true → near_at w.medium.words x.elem.task.system.0 o ≡ true
              → is_interested w.medium.words e x.elem.task.system.0 ≡ true
          by_entry None off h = absurd (cc)
          by_entry (Some k) same h =
              ap (λ j. is_interested w.medium.words j x.elem.task.system.0) (sym (eqb-true k e same)) ∙ h

      apart : (u == x.elem.task.system.0) ≡ true → (u == x.elem.task.system.0) ≡ false
      apart same =
          absurd (true≢false (sym near
          ∙ (ap (λ v. is_interested w.medium.words e v) (sym (eqb-true u x.elem.task.system.0 same))
          ∙ (g.roles.nobody e u (dead u out)).0)))

  lists-stay : (u : ℕ) → has w.medium.removed u ≡ true → list_all (is_without u) p.manager.entries ≡ true
  lists-stay u out = all-at (is_without u) p.manager.entries one
    where
      one : (e : ℕ) (o : Option Managed) → slice_get p.manager.entries e ≡ Some o → is_without u o ≡ true
      one e None at_e = refl
      one e (Some m) at_e =
          all-at (stays u) m.items (item-stays u out e m (ap (λ z. unwrap_or z None) at_e))

  -- ---- requests are of live systems
  hands : Hands deck w.medium.words (are_live w) g.later g.out c.0 (in_hands p (inbox w.medium c.0))
  hands = g.hands c.0 n p at (g.roles.node c.0 n at).star

  hand-behind : (xs : List Req) (q : Req) (ys : List Req)
      → AllHands deck w.medium.words (are_live w) g.later g.out c.0 (xs ++ q ∷ ys)
      → IsHand deck w.medium.words (are_live w) g.later g.out c.0 q
  hand-behind [] q ys all = all.0
  hand-behind (x ∷ xs) q ys all = hand-behind xs q ys all.1

  held-stay : (u : ℕ) → has w.medium.removed u ≡ true → (qs zs : List Req)
      → AllHands deck w.medium.words (are_live w) g.later g.out c.0 (qs ++ zs)
      → list_all (λ q. not (u == q.task.system.0)) qs ≡ true
  held-stay u out [] zs all = refl
  held-stay u out (q ∷ qs) zs all =
      and_from (not (u == q.task.system.0)) (list_all (λ z. not (u == z.task.system.0)) qs)
      (ap not (false_by (u == q.task.system.0) (λ same.
      absurd (true≢false (sym out
      ∙ (ap (has w.medium.removed) (eqb-true u q.task.system.0 same)
      ∙ (live-below w q.task.system.0 all.0.below).1))))))
      (held-stay u out qs zs all.1)

  served : (q : Req) → IsHand deck w.medium.words (are_live w) g.later g.out c.0 q → serves p q ≡ true
  served q hand =
      ap (λ k. is_some (kept_for p.manager.entries (entry_wanted k q.want))) fits.entries
      ∙ (ap (λ o. is_some (kept_for p.manager.entries o)) hand.at ∙ (fits.roles hand.entry ∙ hand.managed))

  first-served : (qs zs : List Req) → AllHands deck w.medium.words (are_live w) g.later g.out c.0 (qs ++ zs) → (q : Req)
      → slice_get qs 0 ≡ Some q → serves p q ≡ true
  first-served [] zs all q here = absurd (cc)
  first-served (x ∷ qs) zs all q here =
      served q (subst (IsHand deck w.medium.words (are_live w) g.later g.out c.0) (same_Some x q here) all.0)

  mail-usual : (first : Mail) (rest : List Mail) → inbox w.medium c.0 ≡ first ∷ rest → IsUsualMail n.known first
  mail-usual (mails.Request e from q) rest is =
      let hand = hand-behind p.held q (requests_in rest)
      (subst (λ ms. AllHands deck w.medium.words (are_live w) g.later g.out c.0 (in_hands p ms)) is hands.each) in
      false_by (has n.known q.task.system.0) (λ knows.
      absurd (true≢false (sym (known q.task.system.0 knows)
      ∙ (live-below w q.task.system.0 hand.below).1)))
  mail-usual (mails.Answered t answer rank) rest is = tt
  mail-usual (mails.Granted t r) rest is = tt
  mail-usual (mails.Notice target moved) rest is =
      (subst (AllFit deck w.medium.words c.0) is (g.system c.0 n at).fits).0
  mail-usual (mails.Part e from records) rest is =
      (subst (AllFit deck w.medium.words c.0) is (g.system c.0 n at).fits).0

  pub usual : IsUsual deck w.medium c n p
  usual = record {
    star = (g.roles.node c.0 n at).star;
    calm = fits.calm;
    gone = λ u out. record {
      lists = lists-stay u out;
      held = held-stay u out p.held (requests_in (inbox w.medium c.0)) hands.each;
    };
    known = known;
    roles = λ e to named. fits.roles e ∙ ap (λ o. is_manager o (record { 0 = c.0 })) named;
    free = λ e none. fits.roles e ∙ ap (λ o. is_manager o (record { 0 = c.0 })) none;
    near = λ e mine.
        fits.interest e ∙ manager-near w.medium.words g.roles.managed e c.0 (sym (fits.roles e) ∙ mine);
    first = first-served p.held (requests_in (inbox w.medium c.0)) hands.each;
    mail = mail-usual;
  }
