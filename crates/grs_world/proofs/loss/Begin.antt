-- A star that lost nobody, once all its systems have changed, is shown as it is: of a system that was removed before
-- nothing is kept.
use Rattle.grs_world.proofs.Common.{[], ◌++◌, ◌+◌, ◌||◌, ◌∙◌, ◌∷◌, ◌≡◌, ◌≤◌, and_parts, Answered, ap, arith, Bool, cond}
use Rattle.grs_world.proofs.Common.{Deck, false, Granted, has, inbox, is_some, items, List, Mail, no_truth, NodeState}
use Rattle.grs_world.proofs.Common.{None, not, Notice, Option, or_left, Part, refl, Req, Res, RunItem, same_Some}
use Rattle.grs_world.proofs.Common.{slice_get, slice_get-past, Some, subst, suc, sym, TaskId, true, without_those}
use Rattle.grs_world.proofs.Common.{World, zero, ℕ}
use Rattle.grs_wire.specs.declared.medium.Mail.TheVariants.{Request}
use Rattle.grs_world.specs.InStar.{have_changed}
use Rattle.grs_world.proofs.at_rest.Alike.{heard-alike, same-nodes}
use Rattle.grs_world.proofs.at_rest.Restful.{had-star, had_in, had_of, IsRestful, sent-star, sent_in, sent_of}
use Rattle.grs_world.proofs.loss.Heard.{gets_at, had_all, had_at, HearsOn, sent_all, sent_at}
use Rattle.grs_world.proofs.star.Heard.{had_by}
use Rattle.grs_world.proofs.loss.Leaves.{mail_without}
use Rattle.grs_world.proofs.loss.Losing.{lose_parts, losing-is}
use Rattle.grs_world.proofs.loss.View.{IsLeft, IsLosing, unknown}
use Rattle.grs_world.proofs.loss.Words.{box-past}
use Rattle.grs_world.proofs.move.Changing.{has_changed, IsChanging, Shown, waits_yet}
use Rattle.grs_world.proofs.run.Came.{no_part}
use Rattle.grs_world.proofs.run.Knowing.{KnownAreRemoved}
use Rattle.grs_world.proofs.run.Site.{at_site}
use Rattle.grs_world.proofs.star.Calm.{losing-nothing}
use Rattle.grs_world.proofs.star.Members.{all_lists, IsMember}
use Rattle.grs_world.proofs.star.Plain.{of-those}
use Rattle.grs_world.proofs.star.Systems.{requests_in}
use Rattle.grs_world.proofs.star.Usual.{usual}
use Rattle.grs_world.proofs.star.Worlds.{AllHands, are_live, live-below}

-- who is live has changed
changed-at : (removed : ℕ) (ns : List NodeState) (first i : ℕ) (n : NodeState) → have_changed removed first ns ≡ true
    → slice_get ns i ≡ Some n → has removed (first + i) ≡ false → is_some n.star ≡ true
changed-at removed [] first i n all at live = absurd (cc)
changed-at removed (x ∷ ns) first zero n all at live =
    let here : is_some x.star ≡ true =
    ap (λ b. b || is_some x.star) (sym (ap (has removed) (let z : first + 0 ≡ first = omega arith in sym z) ∙ live))
    ∙ (and_parts (has removed first || is_some x.star) (have_changed removed (first + 1) ns) all).0 in
    subst (λ (z : NodeState). is_some z.star ≡ true) (same_Some x n at) here
changed-at removed (x ∷ ns) first (suc i) n all at live =
    changed-at removed ns (first + 1) i n
    (and_parts (has removed first || is_some x.star) (have_changed removed (first + 1) ns) all).1 at
    (ap (has removed) (let z : first + 1 + i ≡ first + suc i = omega arith in z) ∙ live)

-- mail that none of them sent
module _ (deck : Deck) (words : List ℕ) (live : ℕ → Bool) (later : ℕ → List RunItem) (out : ℕ → List Req) (m : ℕ)
    (gone : ℕ → Bool) (none : (u : ℕ) → live u ≡ true → gone u ≡ false) where
  hands-behind : (qs zs : List Req) → AllHands deck words live later out m (qs ++ zs)
      → AllHands deck words live later out m zs
  hands-behind [] zs h = h
  hands-behind (q ∷ qs) zs h = hands-behind qs zs h.1

  none-from : (ms : List Mail) → AllHands deck words live later out m (requests_in ms) → mail_without gone ms ≡ ms
  none-from [] h = refl
  none-from (Request e from q ∷ ms) h =
      ap (λ b. cond (not b) (Request e from q ∷ mail_without gone ms) (mail_without gone ms))
      (none q.task.system.0 h.0.below)
      ∙ ap (λ (xs : List Mail). Request e from q ∷ xs) (none-from ms h.1)
  none-from (Answered t answer rank ∷ ms) h = ap (λ (xs : List Mail). Answered t answer rank ∷ xs) (none-from ms h)
  none-from (Granted t r ∷ ms) h = ap (λ (xs : List Mail). Granted t r ∷ xs) (none-from ms h)
  none-from (Notice target moved ∷ ms) h = ap (λ (xs : List Mail). Notice target moved ∷ xs) (none-from ms h)
  none-from (Part e from records ∷ ms) h = ap (λ (xs : List Mail). Part e from records ∷ xs) (none-from ms h)

module _ (deck : Deck) (w : World) (g : IsChanging deck w) (knows : KnownAreRemoved w)
    (all : have_changed w.medium.removed 0 w.nodes ≡ true) where
  abbrev shown : World
  shown = record w { nodes = g.view }

  -- each live system shows itself
  pub there : (s : ℕ) (n : NodeState) → slice_get w.nodes s ≡ Some n → has w.medium.removed s ≡ false
      → slice_get g.view s ≡ Some n
  there s n at live = go (g.shown s n at live).0 n (g.shown s n at live).1 (g.shown s n at live).2 has-part
    where
      has-part : is_some n.star ≡ true
      has-part =
          changed-at w.medium.removed w.nodes 0 s n all at
          (ap (has w.medium.removed) (let z : 0 + s ≡ s = omega arith in z) ∙ live)

      go : (k z : NodeState) → slice_get g.view s ≡ Some k
          → Shown deck s (items w.fixed) (g.before s) (g.due s) g.since (g.whole.out s) k z → is_some z.star ≡ true
          → slice_get g.view s ≡ Some z
      go k z found (has_changed none) part = found
      go k z found (waits_yet x h is empty) part =
          no_truth (is_some z.star) part (ap is_some h.alone)

  pub left : (s : ℕ) (n : NodeState) → slice_get w.nodes s ≡ Some n → has w.medium.removed s ≡ false
      → IsLeft w.medium.removed n n
  left s n at live =
      let site = at_site (there s n at live) live in
      let m : IsMember deck w.medium.words (all_lists shown) s n = g.whole.roles.node s n site in
      let u = usual deck shown g.whole (record { 0 = s }) n site (knows s n at) in
      let same : Some (lose_parts m.part (unknown w.medium.removed n)) ≡ Some m.part =
      ap (λ (z : NodeState). z.star)
      (sym (losing-is deck n m.part m.star m.fits.calm (unknown w.medium.removed n))
      ∙ losing-nothing m.part m.fits.calm deck n m.star (without_those n.known w.medium.removed)
      (λ v h. u.gone v (of-those n.known w.medium.removed v h)))
      ∙ m.star in
      record {
        part = m.part;
        star = m.star;
        is = ap (λ o. let z : NodeState = record n { star = o } in z) (m.star ∙ sym same);
        well = m.fits.well;
        calm = m.fits.calm;
      }

  pub mail : (s : ℕ) → has w.medium.removed s ≡ false
      → inbox w.medium s ≡ mail_without (has w.medium.removed) (inbox w.medium s)
  mail s live = go (slice_get w.nodes s) refl
    where
      go : (o : Option NodeState) → slice_get w.nodes s ≡ o
          → inbox w.medium s ≡ mail_without (has w.medium.removed) (inbox w.medium s)
      go None at =
          let none : inbox w.medium s ≡ [] =
          box-past w.medium.inboxes s
          (subst (λ k. k ≤ s) (g.count ∙ sym g.whole.roles.inboxes) (slice_get-past w.nodes s at)) in
          none ∙ sym (ap (mail_without (has w.medium.removed)) none)
      go (Some n) at =
          let site = at_site (there s n at live) live in
          let m : IsMember deck w.medium.words (all_lists shown) s n = g.whole.roles.node s n site in
          let hands = g.whole.hands s n m.part site m.star in
          sym (none-from deck w.medium.words (are_live shown) g.whole.later g.whole.out s (has w.medium.removed)
          (λ u alive. (live-below shown u alive).1) (inbox w.medium s)
          (hands-behind deck w.medium.words (are_live shown) g.whole.later g.whole.out s (has w.medium.removed)
          (λ u alive. (live-below shown u alive).1) m.part.held (requests_in (inbox w.medium s)) hands.each))

  abbrev pub begins-losing : IsLosing deck w
  begins-losing = record {
    view = g.view;
    boxes = w.medium.inboxes;
    whole = g.whole;
    shown = λ s n at live. (n, there s n at live, left s n at live);
    mail = mail;
    around = g.around;
    places = g.whole.roles.inboxes;
    gone = λ s n p at out star. no_part n p star (g.gone s n at out);
    count = g.count;
  }

  -- and what is still to be heard
  pub begins-hearing : IsRestful deck w → HearsOn deck w begins-losing
  begins-hearing h = record {
    dated = h.dated;
    ranked = h.ranked g;
    heard =
        heard-alike deck shown shown (same-nodes deck shown shown refl (λ s live. refl) (λ s. refl) refl)
        (sent_of w.nodes) (sent_all w.nodes) (had_of deck w.medium.message.entries w.nodes)
        (had_all w.medium.removed w.nodes)
        (λ s t live home e. by-sent s t live (slice_get w.nodes s) refl e)
        (λ s k t r found live home wide e. by-had s t r live (slice_get w.nodes s) refl e) (h.heard g);
  }
    where
      by-sent : (s : ℕ) (t : TaskId) → has w.medium.removed s ≡ false → (o : Option NodeState)
          → slice_get w.nodes s ≡ o → sent_at o t ≡ true → sent_in o t ≡ true
      by-sent s t live None at e = no_truth true refl (sym e)
      by-sent s t live (Some n) at e = let l = left s n at live in sent-star n l.part t l.star ∙ e

      by-had : (s : ℕ) (t : TaskId) (r : Res) → has w.medium.removed s ≡ false → (o : Option NodeState)
          → slice_get w.nodes s ≡ o → had_in deck w.medium.message.entries s o t r ≡ true
          → had_at w.medium.removed o t r ≡ true
      by-had s t r live None at e = no_truth true refl (sym e)
      by-had s t r live (Some n) at e =
          let l = left s n at live in
          or_left (had_by n t r) (gets_at n.star (unknown w.medium.removed n) r t)
          (sym (had-star deck w.medium.message.entries s n l.part t r l.star) ∙ e)
