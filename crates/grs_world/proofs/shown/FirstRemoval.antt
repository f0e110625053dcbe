-- So it is behind the first event of a run that removes a system in star mode, where all had changed.
use Rattle.contention_mgr.specs.Loses.{after_losing}
use Rattle.grs_world.proofs.Common.{[], ◌&&◌, ◌++◌, ◌<◌, ◌==◌, ◌||◌, ◌∙◌, ◌∷◌, ◌≡◌, ◌≢◌, and_parts, ap}
use Rattle.grs_world.proofs.Common.{Bool, call_at, call_in, Choice, chosen, cond, counted, Deck, desk_told}
use Rattle.grs_world.proofs.Common.{entries_some, eq-eqb, eqb-true, Event, false, first_world, FitsStar, happens}
use Rattle.grs_world.proofs.Common.{happens_at, has, has-with_other, has-with_same, inbox, inl, inr, interest}
use Rattle.grs_world.proofs.Common.{is_manager, is_purged, is_some, is_systems, items, items_are_history, items_of}
use Rattle.grs_world.proofs.Common.{kept, length, length-set, List, list_any, list_of, lists, lose, lose_all, lose_each}
use Rattle.grs_world.proofs.Common.{losing, losing_in, managed_of, manager, ManagerView, map, may_be_star, MediumState}
use Rattle.grs_world.proofs.Common.{Moved, names_of, nat_lt, no_truth, NodeState, None, NoneInStar, not, not-true}
use Rattle.grs_world.proofs.Common.{noticed, Option, or-false, or_parts, placed, places, plain, prepare, purged, refl}
use Rattle.grs_world.proofs.Common.{removes_in_star, replay, replayed, reply_by, reply_of, Res, run, same_Some}
use Rattle.grs_world.proofs.Common.{slice_get, Some, standing, StarPart, subst, sym, SysId, TaskId, TasksView, telling}
use Rattle.grs_world.proofs.Common.{true, true≢false, Turnout, VaryDone, with_also, without_in_star, word_at, World, ℕ}
use Rattle.grs_medium.proofs.Removals.{inbox-left, moved-at, told-where, told_to}
use Rattle.grs_medium.specs.Inboxes.{notices_to}
use Rattle.grs_wire.specs.Decks.{IsBounded}
use Rattle.grs_world.specs.Running.{is_live as is_live_in}
use Rattle.system_purge.specs.Gathers.{without_sender}
use Rattle.grs_world.proofs.at_rest.Restful.{IsRestful, had_of, sent_of}
use Rattle.grs_world.proofs.at_rest.StarRun.{restful_run}
use Rattle.grs_world.proofs.at_rest.View.{shown-star, view-of}
use Rattle.grs_world.proofs.move.Changing.{IsChanging}
use Rattle.grs_world.proofs.move.Kept.{every_kept}
use Rattle.grs_world.proofs.move.Sound.{GoodRun, every_run, in_ring, in_star}
use Rattle.grs_world.proofs.run.Came as any
use Rattle.grs_world.proofs.run.Came.{Acts, Came, Result, result_of}
use Rattle.grs_world.proofs.run.Chosen.{came, reply-in, reply_in}
use Rattle.grs_world.proofs.run.Each.{run-push}
use Rattle.grs_world.proofs.run.Knowing.{KnownAreRemoved, known_run}
use Rattle.grs_world.proofs.run.Placed.{by_node, world_then}
use Rattle.grs_world.proofs.run.Site.{at_site}
use Rattle.grs_node.specs.Removal.{Standing}
use Rattle.grs_wire.proofs.MaskLaws.{has-zero}
use Rattle.grs_world.proofs.run.Replies.{others_stay}
use Rattle.grs_world.specs.Removing.{IsAnswered}
use Rattle.std.specs.Option.{option_map}
use Rattle.grs_world.proofs.run.Spared.{none_push}
use Rattle.grs_world.proofs.shown.Behind.{IsAfter, left}
use Rattle.grs_world.proofs.shown.Mail.{desk-faces, lost-faces}
use Rattle.grs_world.proofs.shown.Removal.{kept-behind, lost-list}
use Rattle.grs_world.proofs.shown.Run.{as-sent}
use Rattle.grs_world.proofs.star.Calm.{IsCalm, none-taken}
use Rattle.grs_world.proofs.star.Members.{IsMember, all_lists}
use Rattle.grs_world.proofs.star.hearing.Faces.{SameFaces, faces-none, faces-then}
use Rattle.grs_world.specs.Kept.{KeptArePlaces}
use Rattle.grs_wire.specs.declared.deck.Choice.TheVariants as choices
use Rattle.grs_wire.specs.declared.medium.Reply.TheVariants as replies
use Rattle.grs_wire.specs.declared.request.Fixed.TheVariants as fixing

-- ---- a part that loses a system, where nothing is gathered
still-none : {X : Type 0} (f : X → X) (os : List (Option X)) → list_any is_some os ≡ false
    → list_any is_some (map (option_map f) os) ≡ false
still-none f [] h = refl
still-none f (None ∷ os) h = still-none f os h
still-none f (Some x ∷ os) h = no_truth true refl h

lost-manager : (names : List TaskId) (v : TasksView) (p : StarPart) → IsCalm p.gathers p.owes → (target : SysId)
    → (lose_all names (standing v p) (target ∷ [])).part.manager ≡ after_losing p.manager target
unfolding lose_each
lost-manager names v p calm target =
    ap (λ (x : Standing). x.part.manager)
    (none-taken (lose (standing v p) target).part
    (record { gathered = still-none (without_sender target) p.gathers calm.gathered; owed = calm.owed }) names
    (lose (standing v p) target).tasks)

notice-names : (e : ℕ) (t : SysId) (ms : List Moved)
    → noticed e (notices_to t ms) ≡ list_any (λ (m : Moved). m.entry == e) ms
notice-names e t [] = refl
notice-names e t (m ∷ ms) = or-false (list_any (λ (x : Moved). x.entry == e) (m ∷ ms))

-- ---- the event
module _ (deck : Deck) (some : 0 < deck.entries) (w : World) (g : IsChanging deck w) (rest : IsRestful deck w)
    (known : KnownAreRemoved w) (c : SysId) (n : NodeState) (at : slice_get w.nodes c.0 ≡ Some n)
    (alive : has w.medium.removed c.0 ≡ false) (target : SysId)
    (all : (s : ℕ) (k : NodeState) → slice_get w.nodes s ≡ Some k → has w.medium.removed s ≡ false → k.star ≡ None → ⊥)
  where
    abbrev shown : World
    shown = record w { nodes = g.view }

    abbrev o : Turnout
    o = record { medium = without_in_star w.medium target; step = purged deck n (choices.Purge target) }

    abbrev W : World
    W = world_then w c n (record {
      medium = without_in_star w.medium target;
      step = purged deck n (choices.Purge target);
    })

    stands : (s : ℕ) (k : NodeState) → slice_get w.nodes s ≡ Some k → has w.medium.removed s ≡ false
        → slice_get g.view s ≡ Some k
    stands s k there live = go k.star refl
      where
        go : (q : Option StarPart) → k.star ≡ q → slice_get g.view s ≡ Some k
        go None alone = absurd (all s k there live alone)
        go (Some p) star =
            view-of deck w g s k there live
            ∙ ap (λ (z : NodeState). Some z) (shown-star deck w.medium.message.entries s k p star)

    removed : (s : ℕ) → has (with_also w.medium.removed target.0) s ≡ ((target.0 == s) || has w.medium.removed s)
    removed s = go (target.0 == s) refl
      where
        go : (b : Bool) → (target.0 == s) ≡ b
            → has (with_also w.medium.removed target.0) s ≡ (b || has w.medium.removed s)
        go true e =
            ap (has (with_also w.medium.removed target.0)) (sym (eqb-true target.0 s e))
            ∙ has-with_same w.medium.removed target.0
        go false e =
            has-with_other w.medium.removed target.0 s
            (λ same. no_truth (target.0 == s) (eq-eqb target.0 s (sym same)) e)

    live-before : (s : ℕ) → has (with_also w.medium.removed target.0) s ≡ false
        → ((target.0 == s) ≡ false) × (has w.medium.removed s ≡ false)
    live-before s live = or_parts (target.0 == s) (has w.medium.removed s) (sym (removed s) ∙ live)

    elsewhere : (s : ℕ) → has (with_also w.medium.removed target.0) s ≡ false → s ≢ target.0
    elsewhere s live same = no_truth (target.0 == s) (eq-eqb target.0 s (sym same)) (live-before s live).0

    abbrev moved : ℕ → List Moved
    moved s = told_to w.medium target (record { 0 = s })

    boxes : (s : ℕ) → s < length g.view → has (with_also w.medium.removed target.0) s ≡ false
        → inbox (without_in_star w.medium target) s ≡ inbox w.medium s ++ notices_to target (moved s)
    boxes s inside live =
        inbox-left w.medium target (record { 0 = s })
        (subst (λ k. s < k) (g.whole.roles.systems ∙ sym g.whole.roles.inboxes) inside) (elsewhere s live)

    notes : (e s : ℕ) → e < length w.medium.words → s < length g.view → s ≢ target.0
        → noticed e (notices_to target (moved s))
        ≡ (is_manager (manager (word_at w.medium.words e)) target && has (interest (word_at w.medium.words e)) s)
    notes e s there inside ne =
        notice-names e target (moved s)
        ∙ (ap (list_any (λ (m : Moved). m.entry == e))
        (moved-at w.medium target (record { 0 = s })
        (subst (λ k. s < k) (g.whole.roles.systems ∙ sym g.around) inside))
        ∙ told-where w.medium.words target (record { 0 = s }) e there ne)

    abbrev me : IsMember deck w.medium.words (all_lists shown) c.0 n
    me = g.whole.roles.node c.0 n (at_site (stands c.0 n at alive) alive)

    abbrev told : NodeState
    told = record (desk_told n VaryDone) { known = with_also n.known target.0 }

    own-star : (purged deck n (choices.Purge target)).node.star
        ≡ Some (lose_all (names_of deck n.tasks.system) (standing (desk_told n VaryDone).tasks me.part)
        (target ∷ [])).part
    unfolding purged losing desk_told telling
    own-star = ap (λ (q : Option StarPart). (losing_in deck told q (target ∷ [])).star) me.star

    own-faces : SameFaces n.tasks (purged deck n (choices.Purge target)).node.tasks
    unfolding purged
    own-faces =
        faces-then n.tasks told.tasks (losing deck told (target ∷ [])).tasks (desk-faces n VaryDone)
        (lost-faces deck told (target ∷ []))

    after : (s : ℕ) (k : NodeState) → slice_get W.nodes s ≡ Some k
        → has (with_also w.medium.removed target.0) s ≡ false → IsAfter shown target s k
    after =
        by_node w.nodes c.0 n (purged deck n (choices.Purge target)).node at
        (λ s k. has (with_also w.medium.removed target.0) s ≡ false → IsAfter shown target s k) (λ l. own) others
      where
        own : IsAfter shown target c.0 (purged deck n (choices.Purge target)).node
        own = record {
          before = n;
          site = at_site (stands c.0 n at alive) alive;
          part =
              (lose_all (names_of deck n.tasks.system) (standing (desk_told n VaryDone).tasks me.part)
              (target ∷ [])).part;
          star = own-star;
          alike = own-faces;
          lists = λ q wide p star.
              inr (ap (λ (v : ManagerView). list_of (plain (items_of (managed_of v q))) q)
              (lost-manager (names_of deck n.tasks.system) (desk_told n VaryDone).tasks me.part me.fits.calm target
              ∙ ap (λ (z : StarPart). after_losing z.manager target) (same_Some me.part p (sym me.star ∙ star)))
              ∙ lost-list p.manager target q wide);
        }

        others : (s : ℕ) (k : NodeState) → s ≢ c.0 → slice_get w.nodes s ≡ Some k
            → has (with_also w.medium.removed target.0) s ≡ false → IsAfter shown target s k
        others s k ne there live =
            let was = (live-before s live).1 in
            let site = at_site (stands s k there was) was in
            record {
              before = k;
              site = site;
              part = (g.whole.roles.node s k site).part;
              star = (g.whole.roles.node s k site).star;
              alike = faces-none k.tasks;
              lists = λ q wide p star.
                  inl (ap (λ (z : StarPart). list_of (plain (items_of (managed_of z.manager q))) q)
                  (same_Some (g.whole.roles.node s k site).part p (sym (g.whole.roles.node s k site).star ∙ star)));
            }

    count : length W.nodes ≡ length g.view
    count =
        length-set w.nodes c.0 (purged deck n (choices.Purge target)).node
        ∙ (g.count ∙ sym g.whole.roles.systems)

    pub kept-then : (s : SysId) (r : Res) → is_systems r ≡ true
        → kept deck W s r ≡ left target.0 (list_of (lists (items w.fixed)) r)
    kept-then s r wide =
        kept-behind deck shown g.whole (sent_of w.nodes) (had_of deck w.medium.message.entries w.nodes) (rest.heard g)
        (rest.ranked g) (as-sent deck w g rest known) r wide target moved W removed boxes after count some
        g.whole.roles.mode refl notes s

-- ---- which event it is
silent-unpurged : (b : Result) → any.is_silent b ≡ true → is_purged (reply_in b) ≡ false
silent-unpurged any.skipped h = refl
silent-unpurged any.by_itself h = refl
silent-unpurged (any.replied (replies.Turned entries taken closed)) h = refl
silent-unpurged (any.replied (replies.NotYours holder)) h = refl
silent-unpurged (any.replied (replies.Behind first)) h = refl
silent-unpurged (any.replied replies.Switched) h = refl
silent-unpurged (any.replied replies.Already) h = refl
silent-unpurged (any.replied replies.Sole) h = refl
silent-unpurged (any.replied replies.Sent) h = refl
silent-unpurged (any.replied (replies.Taken mail)) h = refl
silent-unpurged (any.replied replies.Empty) h = refl
silent-unpurged (any.replied replies.Settled) h = refl
silent-unpurged (any.replied replies.Told) h = refl
silent-unpurged (any.replied replies.Left) h = refl
silent-unpurged (any.replied (replies.Kept mask)) h = refl
silent-unpurged (any.replied replies.Yours) h = refl
silent-unpurged (any.replied replies.Old) h = refl
silent-unpurged (any.replied replies.Purged) h = no_truth true refl (sym h)
silent-unpurged (any.replied replies.NoSuch) h = refl
silent-unpurged (any.replied replies.Resting) h = refl
silent-unpurged (any.replied replies.Over) h = refl
silent-unpurged (any.replied (replies.Stale set)) h = refl
silent-unpurged (any.replied replies.Removed) h = refl

-- it removes this system in star mode
pub record IsRemoval (deck : Deck) (m : MediumState) (n : NodeState) (choice : Choice) (b : Result) (o : Turnout) :
    Type 0 where
  pub target : SysId
  pub chose : choice ≡ choices.Purge target
  pub answered : b ≡ any.replied replies.Purged
  pub turns : o ≡ record { medium = without_in_star m target; step = purged deck n (choices.Purge target) }

acts-unpurged : (deck : Deck) (m : MediumState) (s : SysId) (n : NodeState) (p : StarPart) (choice : Choice)
    (b : Result) (o : Turnout) → Acts deck m s n p choice b o → is_purged (reply_in b) ≡ false
acts-unpurged deck m s n p choice b o (any.decided t a x asked to at same) = refl
acts-unpurged deck m s n p choice b o (any.began t a x asked none) = refl
acts-unpurged deck m s n p choice b o (any.sent t a x asked to at apart) = refl
acts-unpurged deck m s n p choice b o (any.took mail rest at) = refl
acts-unpurged deck m s n p choice b o (any.settled q first) = refl
acts-unpurged deck m s n p choice b o (any.told e x first) = refl
acts-unpurged deck m s n p choice b o (any.parted e to owes unknown) = refl
acts-unpurged deck m s n p choice b o (any.left x flags free by) = refl

came-purged : (deck : Deck) (m : MediumState) (s : SysId) (n : NodeState) (choice : Choice) (b : Result) (o : Turnout)
    → Came deck m s n choice b o → m.star ≡ true → is_purged (reply_in b) ≡ true → IsRemoval deck m n choice b o
came-purged deck m s n choice b o (any.nothing k r silent flags) star is =
    no_truth (is_purged (reply_in b)) is (silent-unpurged b silent)
came-purged deck m s n choice b o (any.informed k) star is = no_truth true refl (sym is)
came-purged deck m s n choice b o (any.went_on t may) star is = no_truth true refl (sym is)
came-purged deck m s n choice b o (any.turn flags alone unclosed here) star is = no_truth true refl (sym is)
came-purged deck m s n choice b o (any.last_turn flags alone shut here) star is = no_truth true refl (sym is)
came-purged deck m s n choice b o (any.changed ring next seen) star is = no_truth m.star star ring
came-purged deck m s n choice b o (any.already mode next) star is = no_truth true refl (sym is)
came-purged deck m s n choice b o (any.removes_one target ring next lives) star is = no_truth m.star star ring
came-purged deck m s n choice b o (any.removes_star target mode next lives) star is =
    record { target = target; chose = refl; answered = refl; turns = refl }
came-purged deck m s n choice b o (any.no_such target next gone) star is = no_truth true refl (sym is)
came-purged deck m s n choice b o (any.acted p part k r x acts) star is =
    no_truth (is_purged (reply_in b)) is (acts-unpurged deck m s n p choice b o acts)

-- ---- every run
module _ (deck : Deck) (bounds : IsBounded deck) (es : List Event) (none : NoneInStar deck es)
    (changed : (run deck es).medium.message.still ≡ 0) (e : Event) where
  abbrev w : World
  w = run deck es

  fits : may_be_star deck ≡ true → FitsStar deck
  fits h = record { few = bounds.fits.few; entries = bounds.entries }

  -- what the history says of a resource
  placed-then : (target : SysId) → IsAnswered deck es e target replies.Purged → (r : Res) → is_systems r ≡ true
      → places deck (es ++ e ∷ []) r ≡ left target.0 (places deck es r)
  placed-then target is r wide =
      (others_stay deck es e target is).lists r
      ∙ ap (λ b. cond b (left target.0 (places deck es r)) (places deck es r)) wide

  module _ (n : NodeState) (at : slice_get (run deck es).nodes e.system.0 ≡ Some n)
      (alive : has (run deck es).medium.removed e.system.0 ≡ false) (star : (run deck es).medium.star ≡ true) where
    -- the world behind the event
    now : run deck (es ++ e ∷ [])
        ≡ world_then (run deck es) e.system n (chosen deck (run deck es).medium e.system n e.choice)
    unfolding happens happens_at placed
    now =
        run-push deck es (first_world deck) e
        ∙ (ap (happens_at deck (run deck es) e) at
        ∙ ap (λ b.
        cond b (counted (run deck es))
        (placed (run deck es) e.system n (chosen deck (run deck es).medium e.system n e.choice))) alive)

    all : (i : ℕ) (k : NodeState) → slice_get (run deck es).nodes i ≡ Some k
        → has (run deck es).medium.removed i ≡ false → k.star ≡ None → ⊥
    all i k there live alone =
        true≢false (sym ((restful_run deck bounds es none star).still i k there live alone)
        ∙ (ap (λ m. has m i) changed ∙ has-zero i))

    kept-now : (target : SysId) → IsAnswered deck es e target replies.Purged
        → chosen deck (run deck es).medium e.system n e.choice
        ≡ record {
          medium = without_in_star (run deck es).medium target;
          step = purged deck n (choices.Purge target);
        }
        → (s : SysId) (r : Res) → is_systems r ≡ true
        → kept deck (run deck (es ++ e ∷ [])) s r ≡ places deck (es ++ e ∷ []) r
    kept-now target is turns s r wide = go (every_run deck fits es none)
      where
        go : GoodRun deck es (run deck es)
            → kept deck (run deck (es ++ e ∷ [])) s r ≡ places deck (es ++ e ∷ []) r
        go (in_ring begins ring g d) = no_truth (run deck es).medium.star star ring.mode
        go (in_star f g heard d) =
            ap (λ (x : World). kept deck x s r) (now ∙ ap (world_then (run deck es) e.system n) turns)
            ∙ (kept-then deck (entries_some deck.entries f.entries) (run deck es) g
            (restful_run deck bounds es none star) (known_run deck es) e.system n at alive target all s r wide
            ∙ (ap (λ z. left target.0 (list_of z r)) (replayed deck (items (run deck es).fixed) g.whole.right)
            ∙ (ap (λ z. left target.0 (list_of (replay deck.limit z) r)) (items_are_history (run deck es).fixed).0
            ∙ sym (placed-then target is r wide))))

  -- the event is one of a live system, which is answered that a system was removed
  removed-kept : (run deck es).medium.star ≡ true → is_purged (reply_of deck (run deck es) e) ≡ true
      → (s : SysId) (r : Res) → is_systems r ≡ true
      → kept deck (run deck (es ++ e ∷ [])) s r ≡ places deck (es ++ e ∷ []) r
  removed-kept star purges s r wide = by-node (slice_get (run deck es).nodes e.system.0) refl
    where
      by-node : (q : Option NodeState) → slice_get (run deck es).nodes e.system.0 ≡ q
          → kept deck (run deck (es ++ e ∷ [])) s r ≡ places deck (es ++ e ∷ []) r
      by-node None at =
          no_truth (is_purged (reply_of deck (run deck es) e)) purges
          (ap (λ q. is_purged (reply_by (run deck es).medium e.system (call_at deck (run deck es) e q))) at)
      by-node (Some n) at = by-live (is_live_in (run deck es) e.system) refl
        where
          made : (b : Bool) → is_live_in (run deck es) e.system ≡ b
              → reply_of deck (run deck es) e
              ≡ reply_by (run deck es).medium e.system (cond b (call_in (prepare deck n e.choice)) None)
          made b is =
              ap (λ q. reply_by (run deck es).medium e.system (call_at deck (run deck es) e q)) at
              ∙ ap (λ c. reply_by (run deck es).medium e.system (cond c (call_in (prepare deck n e.choice)) None)) is

          by-live : (b : Bool) → is_live_in (run deck es) e.system ≡ b
              → kept deck (run deck (es ++ e ∷ [])) s r ≡ places deck (es ++ e ∷ []) r
          by-live false is =
              no_truth (is_purged (reply_of deck (run deck es) e)) purges (ap is_purged (made false is))
          by-live true is =
              let alive : has (run deck es).medium.removed e.system.0 ≡ false =
              not-true (has (run deck es).medium.removed e.system.0)
              (and_parts (nat_lt e.system.0 (length (run deck es).nodes))
              (not (has (run deck es).medium.removed e.system.0)) is).1 in
              let reply = made true is ∙ sym (reply-in (run deck es).medium e.system (prepare deck n e.choice)) in
              let z =
              came-purged deck (run deck es).medium e.system n e.choice
              (result_of (run deck es).medium e.system (prepare deck n e.choice))
              (chosen deck (run deck es).medium e.system n e.choice)
              (came deck (run deck es).medium e.system n alive e.choice) star (sym (ap is_purged reply) ∙ purges) in
              kept-now n at alive star z.target (z.chose, reply ∙ ap reply_in z.answered) z.turns s r wide

  pub kept-removal : KeptArePlaces deck (es ++ e ∷ [])
  kept-removal s r live wide = go (removes_in_star deck (run deck es) e) refl
    where
      go : (b : Bool) → removes_in_star deck (run deck es) e ≡ b
          → kept deck (run deck (es ++ e ∷ [])) s r ≡ places deck (es ++ e ∷ []) r
      go false off = every_kept deck fits (es ++ e ∷ []) (none_push deck es e none off) s r live wide
      go true on =
          let both = and_parts (run deck es).medium.star (is_purged (reply_of deck (run deck es) e)) on in
          removed-kept both.0 both.1 s r wide
