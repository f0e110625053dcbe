-- What is still to be heard in a star that lost systems which manage no lock entry: it is that of what is shown, where
-- an own task counts as told that comes to own by what its system has still to lose.
use Rattle.grs_world.proofs.Common.{[], ◌++◌, ◌==◌, ◌||◌, ◌∙◌, ◌≡◌, ◌≢◌, ◌≤◌, ap, Bool, Deck, eqb-false, eqb-true}
use Rattle.grs_world.proofs.Common.{false, fixed_by, has, has_res, is_home_at, is_systems, items, List, list_of, lists}
use Rattle.grs_world.proofs.Common.{Mail, NodeState, None, Option, or-false, refl, Res, same_Some, set, slice_get}
use Rattle.grs_world.proofs.Common.{slice_get-set, slice_get-set_other, Some, StarPart, state_of, subst, sym, SysId}
use Rattle.grs_world.proofs.Common.{TaskId, TasksView, true, Turnout, World, ℕ}
use Rattle.grs_known.proofs.lists.Placed.{put_one}
use Rattle.grs_world.proofs.at_rest.Alike.{heard-alike, IsBack, IsForth, same-nodes, SameShown}
use Rattle.grs_world.proofs.at_rest.StarTasks.{IsDated}
use Rattle.grs_world.proofs.loss.Hears.{gets, none-gets}
use Rattle.grs_world.proofs.loss.View.{IsLosing, unknown, viewed_by}
use Rattle.grs_world.proofs.run.Placed.{by_node, by_set, world_then}
use Rattle.grs_world.proofs.star.ranks.Ranked.{AreShown}
use Rattle.grs_world.proofs.star.Heard.{enq_count, had_by, had_with, IsHeard, sent_by, sent_with}
use Rattle.grs_world.proofs.star.hearing.Gentle.{Gentle}
use Rattle.grs_world.proofs.star.hearing.Ranks.{HaveRank}

-- whether a task has sent its request; whether it was told, or comes to own by what its system has still to lose
abbrev pub sent_at : Option NodeState → TaskId → Bool
sent_at None t = false
sent_at (Some n) t = sent_by n t

abbrev pub gets_at : Option StarPart → List SysId → Res → TaskId → Bool
gets_at None ss r t = false
gets_at (Some p) ss r t = gets p ss r t

abbrev pub had_at : ℕ → Option NodeState → TaskId → Res → Bool
had_at removed None t r = false
had_at removed (Some n) t r = had_by n t r || gets_at n.star (unknown removed n) r t

abbrev pub sent_all : List NodeState → ℕ → TaskId → Bool
sent_all ns s t = sent_at (slice_get ns s) t

abbrev pub had_all : ℕ → List NodeState → ℕ → TaskId → Res → Bool
had_all removed ns s t r = had_at removed (slice_get ns s) t r

-- each live system's tasks are up to date, nothing is lost, and each element has its rank
pub record HearsOn (deck : Deck) (w : World) (g : IsLosing deck w) : Type 0 where
  pub dated : (s : ℕ) (n : NodeState) → slice_get w.nodes s ≡ Some n → has w.medium.removed s ≡ false → IsDated deck s n
  pub heard : IsHeard deck (viewed_by w g.view g.boxes) (sent_all w.nodes) (had_all w.medium.removed w.nodes)
  pub ranked : AreShown deck (viewed_by w g.view g.boxes)

-- who knows all has nothing to lose, so only who was told counts
pub had-known : (removed : ℕ) (n : NodeState) (t : TaskId) (r : Res) → unknown removed n ≡ []
    → had_at removed (Some n) t r ≡ had_by n t r
had-known removed n t r none =
    ap (λ ss. had_by n t r || gets_at n.star ss r t) none
    ∙ (ap (λ b. had_by n t r || b) (go n.star) ∙ or-false (had_by n t r))
  where
    go : (o : Option StarPart) → gets_at o [] r t ≡ false
    go None = refl
    go (Some p) = none-gets p r t

module _ (deck : Deck) (w : World) (g : IsLosing deck w) (c : SysId) (n : NodeState)
    (at : slice_get w.nodes c.0 ≡ Some n) (k : NodeState) (there : slice_get g.view c.0 ≡ Some k)
    (tasks : k.tasks ≡ n.tasks) (o : Turnout) (removed : o.medium.removed ≡ w.medium.removed) where
  abbrev V : World
  V = viewed_by w g.view g.boxes

  abbrev W : World
  W = world_then w c n o

  -- of the others the same is sent and was told
  sent-others : (s : ℕ) (t : TaskId) → s ≢ c.0
      → sent_all (set w.nodes c.0 o.step.node) s t ≡ sent_all w.nodes s t
  sent-others s t ne = ap (λ z. sent_at z t) (slice_get-set_other w.nodes c.0 s o.step.node ne)

  sent-own : (t : TaskId) → sent_all (set w.nodes c.0 o.step.node) c.0 t ≡ sent_by o.step.node t
  sent-own t = ap (λ z. sent_at z t) (slice_get-set w.nodes c.0 n o.step.node at)

  had-others : (s : ℕ) (t : TaskId) (r : Res) → s ≢ c.0
      → had_all o.medium.removed (set w.nodes c.0 o.step.node) s t r ≡ had_all w.medium.removed w.nodes s t r
  had-others s t r ne =
      ap (λ z. had_at o.medium.removed z t r) (slice_get-set_other w.nodes c.0 s o.step.node ne)
      ∙ ap (λ i. had_at i (slice_get w.nodes s) t r) removed

  had-own : (t : TaskId) (r : Res)
      → had_all o.medium.removed (set w.nodes c.0 o.step.node) c.0 t r ≡ had_at o.medium.removed (Some o.step.node) t r
  had-own t r = ap (λ z. had_at o.medium.removed z t r) (slice_get-set w.nodes c.0 n o.step.node at)

  -- ---- an event that leaves all mail and the lists of the whole complex
  module _ (z : NodeState) (star : z.star ≡ k.star) (its : z.tasks ≡ o.step.node.tasks)
      (gentle : Gentle n.tasks o.step.node.tasks)
      (same : (r : Res) → is_systems r ≡ true
      → list_of (lists (items (w.fixed ++ fixed_by c o.step.fixed))) r ≡ list_of (lists (items w.fixed)) r)
      (more : enq_count (items w.fixed) ≤ enq_count (items (w.fixed ++ fixed_by c o.step.fixed)))
      (told : (t : TaskId) (r : Res) → is_home_at deck c.0 t ≡ true → is_systems r ≡ true
      → had_at w.medium.removed (Some n) t r ≡ true → had_at o.medium.removed (Some o.step.node) t r ≡ true) where
    abbrev after : World
    after = viewed_by W (set g.view c.0 z) g.boxes

    forth-is : (s : ℕ) (y : NodeState)
        → ((x : NodeState) × (slice_get (set g.view c.0 z) s ≡ Some x) × (x.star ≡ y.star)) → IsForth after s y
    forth-is s y h = record { node = h.0; at = h.1; star = h.2 }

    calm-shown : SameShown deck V after
    calm-shown = record {
      removed = removed;
      back =
          by_node g.view c.0 k z there (λ s y. has w.medium.removed s ≡ false → IsBack deck V s y) (λ live. record {
            node = k;
            at = there;
            star = star;
            has = λ t r home wide.
                ap (λ (v : TasksView). has_res r (state_of v t).records) its
                ∙ ((gentle.each t).has r wide ∙ ap (λ (v : TasksView). has_res r (state_of v t).records) (sym tasks));
            ranks = λ t r home wide i ranks.
                subst (λ (v : TasksView). HaveRank r i (state_of v t).records) (sym its)
                ((gentle.each t).ranks r i wide
                (subst (λ (v : TasksView). HaveRank r i (state_of v t).records) tasks ranks));
          })
          (λ s y ne found live. record {
            node = y;
            at = found;
            star = refl;
            has = λ t r home wide. refl;
            ranks = λ t r home wide i ranks. ranks;
          });
      forth = λ s y found live. forth-is s y (
          by_set g.view c.0 k z there s
          (λ i q. slice_get g.view i ≡ Some y → (x : NodeState) × (q ≡ Some x) × (x.star ≡ y.star))
          (λ is. (z, refl, star ∙ ap (λ (v : NodeState). v.star) (same_Some k y (sym there ∙ is))))
          (λ ne is. (y, is, refl)) found);
      boxes = λ s. refl;
      lists = same;
      count = more;
    }

    pub calm-hears : IsHeard deck V (sent_all w.nodes) (had_all w.medium.removed w.nodes)
        → IsHeard deck (viewed_by W (set g.view c.0 z) g.boxes) (sent_all (set w.nodes c.0 o.step.node))
        (had_all o.medium.removed (set w.nodes c.0 o.step.node))
    calm-hears h =
        heard-alike deck V after calm-shown (sent_all w.nodes) (sent_all (set w.nodes c.0 o.step.node))
        (had_all w.medium.removed w.nodes) (had_all o.medium.removed (set w.nodes c.0 o.step.node))
        (λ s t live home e.
        by-system s (sent_all w.nodes s t ≡ true)
        (λ is.
        let own : sent_by o.step.node t ≡ true =
        sym (sent-own t) ∙ (ap (λ i. sent_all (set w.nodes c.0 o.step.node) i t) (sym is) ∙ e) in
        ap (λ i. sent_all w.nodes i t) is ∙ (ap (λ y. sent_at y t) at ∙ (gentle.each t).sent own))
        (λ ne. sym (sent-others s t ne) ∙ e))
        (λ s y t r found live home wide e.
        by-system s (had_all o.medium.removed (set w.nodes c.0 o.step.node) s t r ≡ true)
        (λ is.
        ap (λ i. had_all o.medium.removed (set w.nodes c.0 o.step.node) i t r) is
        ∙ (had-own t r
        ∙ told t r (ap (λ i. is_home_at deck i t) (sym is) ∙ home) wide
        (sym (ap (λ y. had_at w.medium.removed y t r) at)
        ∙ (ap (λ i. had_all w.medium.removed w.nodes i t r) (sym is) ∙ e))))
        (λ ne. had-others s t r ne ∙ e))
        h
      where
        by-system : (s : ℕ) (X : Type 0) → (s ≡ c.0 → X) → (s ≢ c.0 → X) → X
        by-system s X own others = go (s == c.0) refl
          where
            go : (b : Bool) → (s == c.0) ≡ b → X
            go true e = own (eqb-true s c.0 e)
            go false e = others (eqb-false s c.0 e)

  -- ---- an event of a system that knows all
  module _ (none : unknown w.medium.removed n ≡ []) (then : unknown o.medium.removed o.step.node ≡ []) where
    by-own : (s : ℕ) (X : Type 0) → (s ≡ c.0 → X) → (s ≢ c.0 → X) → X
    by-own s X own others = go (s == c.0) refl
      where
        go : (b : Bool) → (s == c.0) ≡ b → X
        go true e = own (eqb-true s c.0 e)
        go false e = others (eqb-false s c.0 e)

    pub acts-before : IsHeard deck V (sent_all w.nodes) (had_all w.medium.removed w.nodes)
        → IsHeard deck V (sent_with (sent_all w.nodes) c n) (had_with (had_all w.medium.removed w.nodes) c n)
    acts-before h =
        heard-alike deck V V (same-nodes deck V V refl (λ s live. refl) (λ s. refl) refl) (sent_all w.nodes)
        (sent_with (sent_all w.nodes) c n) (had_all w.medium.removed w.nodes)
        (had_with (had_all w.medium.removed w.nodes) c n)
        (λ s t live home.
        put_one (sent_all w.nodes) c.0 s (sent_by n) (λ f. f t ≡ true → sent_all w.nodes s t ≡ true)
        (λ is e. ap (λ u. sent_all w.nodes u t) is ∙ (ap (λ y. sent_at y t) at ∙ e)) (λ ne e. e))
        (λ s y t r found live home wide.
        put_one (had_all w.medium.removed w.nodes) c.0 s (had_by n)
        (λ f. had_all w.medium.removed w.nodes s t r ≡ true → f t r ≡ true)
        (λ is e.
        sym (had-known w.medium.removed n t r none)
        ∙ (sym (ap (λ y. had_at w.medium.removed y t r) at)
        ∙ (ap (λ i. had_all w.medium.removed w.nodes i t r) (sym is) ∙ e)))
        (λ ne e. e))
        h

    pub acts-after : (view : List NodeState) (boxes : List (List Mail))
        → IsHeard deck (viewed_by W view boxes) (sent_with (sent_all w.nodes) c o.step.node)
        (had_with (had_all w.medium.removed w.nodes) c o.step.node)
        → IsHeard deck (viewed_by W view boxes) (sent_all (set w.nodes c.0 o.step.node))
        (had_all o.medium.removed (set w.nodes c.0 o.step.node))
    acts-after view boxes h =
        let X : World = viewed_by W view boxes in
        heard-alike deck (viewed_by W view boxes) (viewed_by W view boxes)
        (same-nodes deck (viewed_by W view boxes) (viewed_by W view boxes) refl (λ s live. refl) (λ s. refl) refl)
        (sent_with (sent_all w.nodes) c o.step.node) (sent_all (set w.nodes c.0 o.step.node))
        (had_with (had_all w.medium.removed w.nodes) c o.step.node)
        (had_all o.medium.removed (set w.nodes c.0 o.step.node))
        (λ s t live home.
        put_one (sent_all w.nodes) c.0 s (sent_by o.step.node)
        (λ f. sent_all (set w.nodes c.0 o.step.node) s t ≡ true → f t ≡ true)
        (λ is e. sym (sent-own t) ∙ (ap (λ i. sent_all (set w.nodes c.0 o.step.node) i t) (sym is) ∙ e))
        (λ ne e. sym (sent-others s t ne) ∙ e))
        (λ s y t r found live home wide.
        put_one (had_all w.medium.removed w.nodes) c.0 s (had_by o.step.node)
        (λ f. f t r ≡ true → had_all o.medium.removed (set w.nodes c.0 o.step.node) s t r ≡ true)
        (λ is e.
        ap (λ i. had_all o.medium.removed (set w.nodes c.0 o.step.node) i t r) is
        ∙ (had-own t r ∙ (had-known o.medium.removed o.step.node t r then ∙ e)))
        (λ ne e. had-others s t r ne ∙ e))
        h
