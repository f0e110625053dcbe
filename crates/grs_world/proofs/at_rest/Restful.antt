-- What holds of a run from the change of the medium on, so that nothing is lost where it ends at rest.
use Rattle.grs_world.proofs.Common.{◌++◌, ◌<◌, ◌∙◌, ◌≡◌, ◌≤◌, ap, Bool, Choice, chosen, cond, counted, Deck, false}
use Rattle.grs_world.proofs.Common.{fixed_by, has, is_none, items, last_number, length-set, List, list_of, Message}
use Rattle.grs_world.proofs.Common.{most_systems, NodeState, None, Option, owns, placed, refl, Res, RingEntry, set}
use Rattle.grs_world.proofs.Common.{slice_get, slice_get-set, slice_get-set_other, Some, StarPart, subst, sym, SysId}
use Rattle.grs_world.proofs.Common.{TaskId, true, Turnout, World, ℕ}
use Rattle.grs_known.proofs.lists.Placed.{put_one}
use Rattle.grs_world.proofs.run.Came.{ChoiceRemovesNone}
use Rattle.grs_world.proofs.run.Knowing.{KnowsRemoved}
use Rattle.grs_world.proofs.run.Removals.{GoneAreRemoved}
use Rattle.grs_world.proofs.star.Usual.{usual}
use Rattle.grs_world.proofs.move.Changing.{IsChanging}
use Rattle.grs_world.proofs.at_rest.Alike.{SameShown, heard-alike, same-nodes, shown-alike}
use Rattle.grs_world.proofs.at_rest.Ring.{IsRead}
use Rattle.grs_world.proofs.at_rest.RingRun.{still_of}
use Rattle.grs_world.proofs.at_rest.StarTasks.{IsDated}
use Rattle.grs_world.proofs.at_rest.View.{read_by, shown-star, shown_at, view-is, view-of}
use Rattle.grs_world.proofs.run.Placed.{by_node}
use Rattle.grs_world.proofs.star.Events.{good_choice}
use Rattle.grs_world.proofs.star.Heard.{IsHeard, enq_count, had_by, had_with, sent_by, sent_with}
use Rattle.grs_world.proofs.star.Members.{IsStep}
use Rattle.grs_world.proofs.star.Sound.{outcome}
use Rattle.grs_world.proofs.star.ranks.Ranked.{AreShown}
use Rattle.grs_world.proofs.star.steps.Outcome.{IsOutcome}
use Rattle.grs_world.proofs.run.Site.{at_site}

-- ---- what was sent and told, by the systems: who hasn't changed has sent nothing, and is to be told what its table
-- says
abbrev pub sent_in : Option NodeState → TaskId → Bool
sent_in None t = false
sent_in (Some n) t = cond (is_none n.star) false (sent_by n t)

abbrev pub sent_of : List NodeState → ℕ → TaskId → Bool
sent_of ns s t = sent_in (slice_get ns s) t

abbrev pub had_in : Deck → List RingEntry → ℕ → Option NodeState → TaskId → Res → Bool
had_in deck es s None t r = false
had_in deck es s (Some n) t r = cond (is_none n.star) (owns (list_of (read_by deck es s n).shared r) t) (had_by n t r)

abbrev pub had_of : Deck → List RingEntry → List NodeState → ℕ → TaskId → Res → Bool
had_of deck es ns s t r = had_in deck es s (slice_get ns s) t r

pub record IsRestful (deck : Deck) (w : World) : Type 0 where
  pub dated : (s : ℕ) (n : NodeState) → slice_get w.nodes s ≡ Some n → has w.medium.removed s ≡ false → IsDated deck s n
  pub still : (s : ℕ) (n : NodeState) → slice_get w.nodes s ≡ Some n → has w.medium.removed s ≡ false → n.star ≡ None
      → has w.medium.message.still s ≡ true
  pub read : (s : ℕ) (n : NodeState) → slice_get w.nodes s ≡ Some n → has w.medium.removed s ≡ false → n.star ≡ None
      → IsRead deck s n (still_of s w.medium.message.entries)
  pub heard : (g : IsChanging deck w)
      → IsHeard deck (record w { nodes = g.view }) (sent_of w.nodes) (had_of deck w.medium.message.entries w.nodes)
  pub ranked : (g : IsChanging deck w) → AreShown deck (record w { nodes = g.view })

-- what a system has sent and was told, in star mode and before
pub sent-star : (n : NodeState) (p : StarPart) (t : TaskId) → n.star ≡ Some p → sent_in (Some n) t ≡ sent_by n t
sent-star n p t star = ap (λ (o : Option StarPart). cond (is_none o) false (sent_by n t)) star

pub sent-ring : (n : NodeState) (t : TaskId) → n.star ≡ None → sent_in (Some n) t ≡ false
sent-ring n t alone = ap (λ (o : Option StarPart). cond (is_none o) false (sent_by n t)) alone

pub had-star : (deck : Deck) (es : List RingEntry) (s : ℕ) (n : NodeState) (p : StarPart) (t : TaskId) (r : Res)
    → n.star ≡ Some p → had_in deck es s (Some n) t r ≡ had_by n t r
had-star deck es s n p t r star =
    ap (λ (o : Option StarPart). cond (is_none o) (owns (list_of (read_by deck es s n).shared r) t) (had_by n t r)) star

pub had-ring : (deck : Deck) (es : List RingEntry) (s : ℕ) (n : NodeState) (t : TaskId) (r : Res) → n.star ≡ None
    → had_in deck es s (Some n) t r ≡ owns (list_of (read_by deck es s n).shared r) t
had-ring deck es s n t r alone =
    ap (λ (o : Option StarPart). cond (is_none o) (owns (list_of (read_by deck es s n).shared r) t) (had_by n t r))
    alone

-- an event that is only counted
pub restful-counted : (deck : Deck) (w : World) (g : IsChanging deck w) → IsRestful deck w → IsRestful deck (counted w)
restful-counted deck w g h = record {
  dated = h.dated;
  still = h.still;
  read = h.read;
  heard = λ g'. heard-alike deck (record w { nodes = g.view }) (record (counted w) { nodes = g'.view }) (same g')
      (sent_of w.nodes) (sent_of w.nodes) (had_of deck w.medium.message.entries w.nodes)
      (had_of deck w.medium.message.entries w.nodes) (λ s t l home e. e) (λ s k t r f l home wide e. e) (h.heard g);
  ranked = λ g'.
      shown-alike deck (record w { nodes = g.view }) (record (counted w) { nodes = g'.view }) (same g') (h.ranked g);
}
  where
    same : (g' : IsChanging deck (counted w))
        → SameShown deck (record w { nodes = g.view }) (record (counted w) { nodes = g'.view })
    same g' =
        same-nodes deck (record w { nodes = g.view }) (record (counted w) { nodes = g'.view }) refl
        (λ s l.
        sym (view-is deck (counted w) g' g.view (g.whole.roles.systems ∙ sym g.count)
        (λ u n at live. view-of deck w g u n at live) s l))
        (λ s. refl) refl

module _ (deck : Deck) (w : World) (g : IsChanging deck w) (h : IsRestful deck w) (c : SysId) (n : NodeState)
    (at : slice_get w.nodes c.0 ≡ Some n) (alive : has w.medium.removed c.0 ≡ false) where
  abbrev es : List RingEntry
  es = w.medium.message.entries

  abbrev shown : World
  shown = record w { nodes = g.view }

  abbrev S : ℕ → TaskId → Bool
  S = sent_of w.nodes

  abbrev H : ℕ → TaskId → Res → Bool
  H = had_of deck w.medium.message.entries w.nodes

  -- ---- an event of a system that has changed
  module _ (some : 0 < deck.entries) (inside : c.0 < most_systems) (p : StarPart) (star : n.star ≡ Some p)
      (choice : Choice) (removed : GoneAreRemoved deck w) (knows : KnowsRemoved w.medium n)
      (kept : ChoiceRemovesNone deck w.medium c n choice) where
    abbrev o : Turnout
    o = chosen deck w.medium c n choice

    there : slice_get g.view c.0 ≡ Some n
    there = view-of deck w g c.0 n at alive ∙ ap (λ (z : NodeState). Some z) (shown-star deck es c.0 n p star)

    step : IsStep deck shown c n o
    step =
        good_choice deck some (record w { nodes = g.view }) c inside n (at_site there alive) g.whole.roles
        (g.whole.roles.node c.0 n (at_site there alive))
        (usual deck (record w { nodes = g.view }) g.whole c n (at_site there alive) knows) choice kept

    out : IsOutcome deck shown g.whole c n o
    out =
        outcome deck some (record w { nodes = g.view }) g.whole c inside n (at_site there alive) removed knows choice
        kept step

    changed : o.step.node.star ≡ None → ⊥
    changed none = absurd (let no : Some step.member.part ≡ None = sym step.member.star ∙ none in cc)

    was-live : (s : ℕ) → has o.medium.removed s ≡ false → has w.medium.removed s ≡ false
    was-live s l = sym (ap (λ i. has i s) step.removed) ∙ l

    view-star : (g' : IsChanging deck (placed w c n o)) → (s : ℕ) → has o.medium.removed s ≡ false
        → slice_get (set g.view c.0 o.step.node) s ≡ slice_get g'.view s
    unfolding placed
    view-star g' =
        view-is deck (placed w c n o) g' (set g.view c.0 o.step.node)
        (length-set g.view c.0 o.step.node
        ∙ (g.whole.roles.systems ∙ (sym g.count ∙ sym (length-set w.nodes c.0 o.step.node))))
        (by_node w.nodes c.0 n o.step.node at (λ s z.
        has o.medium.removed s ≡ false
        → slice_get (set g.view c.0 o.step.node) s ≡ Some (shown_at deck o.medium.message.entries s z))
        (λ l.
        slice_get-set g.view c.0 n o.step.node there
        ∙ ap (λ (z : NodeState). Some z)
        (sym (shown-star deck o.medium.message.entries c.0 o.step.node step.member.part step.member.star)))
        (λ s m ne f l.
        slice_get-set_other g.view c.0 s o.step.node ne
        ∙ (view-of deck w g s m f (was-live s l)
        ∙ ap (λ (x : Message). Some (shown_at deck x.entries s m)) (sym step.message))))

    same-star : (g' : IsChanging deck (placed w c n o))
        → SameShown deck (placed shown c n o) (record (placed w c n o) { nodes = g'.view })
    unfolding placed
    same-star g' =
        same-nodes deck (placed shown c n o) (record (placed w c n o) { nodes = g'.view }) refl
        (λ s l. sym (view-star g' s l)) (λ s. refl) refl

    sent-before : (s : ℕ) (t : TaskId) → sent_with S c n s t ≡ true → sent_of w.nodes s t ≡ true
    sent-before s t = put_one S c.0 s (sent_by n) (λ f. f t ≡ true → S s t ≡ true)
        (λ same e. ap (λ u. S u t) same ∙ (ap (λ z. sent_in z t) at ∙ (sent-star n p t star ∙ e))) (λ ne e. e)

    had-before : (s : ℕ) (t : TaskId) (r : Res) → had_of deck w.medium.message.entries w.nodes s t r ≡ true
        → had_with H c n s t r ≡ true
    had-before s t r = put_one H c.0 s (had_by n) (λ f. H s t r ≡ true → f t r ≡ true)
        (λ same e.
        sym (had-star deck es c.0 n p t r star)
        ∙ (sym (ap (λ z. had_in deck es c.0 z t r) at) ∙ (ap (λ u. H u t r) (sym same) ∙ e)))
        (λ ne e. e)

    sent-after : (s : ℕ) (t : TaskId) → sent_of (set w.nodes c.0 o.step.node) s t ≡ true
        → sent_with S c o.step.node s t ≡ true
    sent-after s t =
        put_one S c.0 s (sent_by o.step.node) (λ f. sent_of (set w.nodes c.0 o.step.node) s t ≡ true → f t ≡ true)
        (λ same e.
        sym (sent-star o.step.node step.member.part t step.member.star)
        ∙ (sym (ap (λ z. sent_in z t) (slice_get-set w.nodes c.0 n o.step.node at))
        ∙ (ap (λ u. sent_of (set w.nodes c.0 o.step.node) u t) (sym same) ∙ e)))
        (λ ne e. sym (ap (λ z. sent_in z t) (slice_get-set_other w.nodes c.0 s o.step.node ne)) ∙ e)

    had-after : (s : ℕ) (t : TaskId) (r : Res) → had_with H c o.step.node s t r ≡ true
        → had_of deck o.medium.message.entries (set w.nodes c.0 o.step.node) s t r ≡ true
    had-after s t r =
        put_one H c.0 s (had_by o.step.node)
        (λ f. f t r ≡ true → had_of deck o.medium.message.entries (set w.nodes c.0 o.step.node) s t r ≡ true)
        (λ same e.
        ap (λ u. had_of deck o.medium.message.entries (set w.nodes c.0 o.step.node) u t r) same
        ∙ (ap (λ z. had_in deck o.medium.message.entries c.0 z t r) (slice_get-set w.nodes c.0 n o.step.node at)
        ∙ (had-star deck o.medium.message.entries c.0 o.step.node step.member.part t r step.member.star ∙ e)))
        (λ ne e.
        ap (λ z. had_in deck o.medium.message.entries s z t r) (slice_get-set_other w.nodes c.0 s o.step.node ne)
        ∙ (ap (λ (x : Message). had_in deck x.entries s (slice_get w.nodes s) t r) step.message ∙ e))

    before : IsHeard deck shown (sent_with S c n) (had_with H c n)
    before =
        heard-alike deck shown shown (same-nodes deck shown shown refl (λ s l. refl) (λ s. refl) refl) S
        (sent_with S c n) H (had_with H c n) (λ s t l home e. sent-before s t e)
        (λ s k t r f l home wide e. had-before s t r e) (h.heard g)

    -- ranks stay
    ranked-star : (g' : IsChanging deck (placed w c n o)) → AreShown deck (record (placed w c n o) { nodes = g'.view })
    unfolding placed
    ranked-star g' =
        shown-alike deck (placed shown c n o) (record (placed w c n o) { nodes = g'.view }) (same-star g')
        (out.ranked out.stays.whole (sent_with S c n) (had_with H c n) before (h.ranked g))

    module _ (few : enq_count (items (w.fixed ++ fixed_by c (chosen deck w.medium c n choice).step.fixed))
        ≤ last_number) where
      heard-star : (g' : IsChanging deck (placed w c n o))
          → IsHeard deck (record (placed w c n o) { nodes = g'.view }) (sent_of (placed w c n o).nodes)
          (had_of deck (placed w c n o).medium.message.entries (placed w c n o).nodes)
      unfolding placed
      heard-star g' = heard-alike deck (placed shown c n o) (record (placed w c n o) { nodes = g'.view }) (same-star g')
          (sent_with S c o.step.node) (sent_of (set w.nodes c.0 o.step.node)) (had_with H c o.step.node)
          (had_of deck o.medium.message.entries (set w.nodes c.0 o.step.node))
          (λ s t l home e. sent-after s t e) (λ s k t r f l home wide e. had-after s t r e)
          (out.heard out.stays.whole S H few before)

      pub restful-star : IsRestful deck (placed w c n o)
      unfolding placed
      restful-star = record {
        dated =
            by_node w.nodes c.0 n o.step.node at (λ u z. has o.medium.removed u ≡ false → IsDated deck u z)
            (λ l. out.dated (h.dated c.0 n at alive)) (λ u m ne f l. h.dated u m f (was-live u l));
        still =
            by_node w.nodes c.0 n o.step.node at
            (λ u z. has o.medium.removed u ≡ false → z.star ≡ None → has o.medium.message.still u ≡ true)
            (λ l none. absurd (changed none))
            (λ u m ne f l none. ap (λ (x : Message). has x.still u) step.message ∙ h.still u m f (was-live u l) none);
        read =
            by_node w.nodes c.0 n o.step.node at (λ u z.
            has o.medium.removed u ≡ false → z.star ≡ None → IsRead deck u z (still_of u o.medium.message.entries))
            (λ l none. absurd (changed none))
            (λ u m ne f l none.
            subst (λ (x : Message). IsRead deck u m (still_of u x.entries)) (sym step.message)
            (h.read u m f (was-live u l) none));
        heard = heard-star;
        ranked = ranked-star;
      }
