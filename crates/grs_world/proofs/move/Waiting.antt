-- An event of a system that hasn't changed: what is shown of it is what it then comes to.
use Rattle.grs_world.proofs.Common.{[], ◌++◌, ◌+◌, ◌∙◌, ◌∷◌, ◌≡◌, ◌≢◌, Alike, all-behind, AllAsk, and_parts, ap}
use Rattle.grs_world.proofs.Common.{append-nil, append_assoc, arith, asks-behind, blank, Bodies, change_to_star, Coming}
use Rattle.grs_world.proofs.Common.{Deck, desk_told, false, filter-append, filter-cons_left, Fixed, fixed_by}
use Rattle.grs_world.proofs.Common.{goes_round, has, history, inbox, is_home_at, IsHistory, items, items_of, length}
use Rattle.grs_world.proofs.Common.{length-append, length-set, lines_of, List, list_all, list_all-append, list_any}
use Rattle.grs_world.proofs.Common.{lists, live, lives, losing, made_item, managed_at, may_go, members, mine}
use Rattle.grs_world.proofs.Common.{next_order, no_truth, NodeState, None, only, own_requests, placed, plain, put_at}
use Rattle.grs_world.proofs.Common.{put_here, read_entries, refl, removes, rounds, RunItem, Said, slice_get, Some}
use Rattle.grs_world.proofs.Common.{StarPart, stays-task, Step, still-told, subst, sym, SysId, task_step, TaskId}
use Rattle.grs_world.proofs.Common.{told-news, told_by, told_in, ToldNews, true, turned_closed, Turnout, unseen, World}
use Rattle.grs_world.proofs.Common.{ℕ}
use Rattle.std.proofs.Common.{set}
use Rattle.grs_known.proofs.known.Histories.{asks-front}
use Rattle.grs_node.specs.Node.{changed as changed_now}
use Rattle.grs_known.proofs.lists.Placed.{put_each, put_both}
use Rattle.grs_node.proofs.Keeping.{Stays, stays-entries}
use Rattle.grs_world.proofs.star.Calm.{losing-nothing}
use Rattle.grs_world.proofs.run.Knowing.{KnowsRemoved}
use Rattle.grs_world.proofs.star.Usual.{usual}
use Rattle.grs_world.proofs.star.steps.Outcome.{part}
use Rattle.grs_world.proofs.run.Purging.{target-fits}
use Rattle.grs_world.proofs.run.Removals.{GoneAreRemoved}
use Rattle.grs_medium.specs.Apply.{is_live}
use Rattle.grs_world.proofs.star.Elements.{AreNear}
use Rattle.grs_world.proofs.star.Worlds.{Fixes, Hands, IsWhole, are_live, fixes-own, in_hands, items-none, items-one}
use Rattle.grs_world.proofs.star.Worlds.{near-local, none_fixed, others-item, under-local, whole-still}
use Rattle.grs_world.proofs.move.Late.{CameLate, desk_late, informed_late, nothing_late, task_late, turn_late}
use Rattle.grs_world.proofs.move.Late.{vary_late}
use Rattle.grs_world.proofs.move.Changing.{IsChanging, IsMoved, Waits, fresh, moved, nothing-late, view-at, view-news}
use Rattle.grs_world.proofs.move.Changing.{view-star, viewed, waits_yet, has_changed, Shown}
use Rattle.grs_world.proofs.star.Members.{IsMember, IsStar, IsStep, all_lists, framed, lists-grown, lists_after}
use Rattle.grs_world.proofs.star.Systems.{IsSystem, is_late, news_of}
use Rattle.grs_world.proofs.system.AtNode.{QuietStep, Seen, keeps, fixes, fix-history, fix-stays, seen-known}
use Rattle.grs_world.proofs.run.Reading.{all-rounds, read-entries, read_all}
use Rattle.grs_world.proofs.run.Growing.{asks-rounds, fixeds}
use Rattle.grs_world.proofs.run.Placed.{by_node}
use Rattle.grs_world.proofs.star.OwnEvents.{coming-own, local-calm}
use Rattle.grs_world.proofs.system.Desks.{desk-seen, desk-told}
use Rattle.grs_world.proofs.run.Messages.{given-due, message-closed}
use Rattle.grs_world.proofs.system.Quiet.{quiet}
use Rattle.grs_world.proofs.run.Desks.{tells_already, tells_no_such, tells_tasks}
use Rattle.grs_world.proofs.star.Under.{under}
use Rattle.grs_world.proofs.run.Site.{Site, IsThere, at_site}
use Rattle.grs_wire.specs.declared.deck.Order.TheVariants as orders
use Rattle.grs_wire.specs.declared.told.Said.TheVariants as saids

-- who has behind some what it had before has nothing there
nothing-behind : {X : Type 0} (xs ys : List X) → xs ++ ys ≡ xs → ys ≡ []
nothing-behind xs [] h = refl
nothing-behind xs (y ∷ ys) h = absurd (omega (arith, ap length h, length-append xs (y ∷ ys)))

module _ (deck : Deck) (w : World) (g : IsChanging deck w) (c : SysId) (n : NodeState)
    (at : slice_get w.nodes c.0 ≡ Some n) (unremoved : has w.medium.removed c.0 ≡ false) (k : NodeState)
    (there : slice_get g.view c.0 ≡ Some k) (h : Waits deck c.0 (items w.fixed) (g.before c.0) (g.due c.0) g.since n)
    (is : k ≡ viewed deck n (g.due c.0)) (empty : g.whole.out c.0 ≡ []) where
  abbrev shown : World
  shown = record w { nodes = g.view }

  abbrev T : List RunItem
  T = items w.fixed

  pub whole_now : rounds T ≡ g.before c.0 ++ (g.due c.0 ++ g.since)
  whole_now = g.rounds_are ∙ (ap (λ zs. zs ++ g.since) (g.parts c.0) ∙ append_assoc (g.before c.0) (g.due c.0) g.since)

  abbrev me : IsMember deck w.medium.words (all_lists (record w { nodes = g.view })) c.0 k
  me = g.whole.roles.node c.0 k (at_site there unremoved)

  abbrev sys :
      IsSystem deck w.medium.words (items w.fixed) c.0 k (inbox w.medium c.0) (g.whole.later c.0) (g.whole.out c.0)
  sys = g.whole.system c.0 k (at_site there unremoved)

  late-none : g.whole.later c.0 ≡ []
  late-none =
      nothing-late deck w.medium.words T c.0 k (inbox w.medium c.0) (g.whole.later c.0) (g.whole.out c.0) sys empty

  -- ---- the system becomes n', and fixes this, which is none of the whole complex
  module _ (n' : NodeState) (fs : List Fixed) (T' : List RunItem) (grown : items (w.fixed ++ fixed_by c fs) ≡ T')
      (right : IsHistory deck T') (fixes : Fixes deck c.0 g.whole.out (items w.fixed) T')
      (local : (e : ℕ) → under deck.entries e (lists T') ≡ under deck.entries e (lists (items w.fixed)))
      (near : AreNear deck w.medium.words (lists T'))
      (waits : Waits deck c.0 T' (g.before c.0) (g.due c.0) g.since n')
      (rounds_now : rounds T' ≡ rounds (items w.fixed))
      (coming : (t : TaskId) → is_home_at deck c.0 t ≡ true → Coming t (blank false) T' (news_of (inbox w.medium c.0)))
      (others : (s : ℕ) (j : NodeState) → s ≢ c.0 → Site (record w { nodes = g.view }) s j
      → IsSystem deck w.medium.words T' s j (inbox w.medium s) (g.whole.later s) (g.whole.out s))
      (flags : ℕ) where
    abbrev k' : NodeState
    k' = viewed deck n' (g.due c.0)

    -- the event, and as it is shown
    abbrev o : Turnout
    o = record { medium = record w.medium { rest = flags }; step = record { node = n'; fixed = fs } }

    abbrev o_shown : Turnout
    o_shown = record {
      medium = record w.medium { rest = flags };
      step = record { node = viewed deck n' (g.due c.0); fixed = fs };
    }

    whole_then : rounds T' ≡ g.before c.0 ++ (g.due c.0 ++ g.since)
    whole_then = rounds_now ∙ whole_now

    same-star : k'.star ≡ k.star
    same-star =
        view-star deck c.0 T' (g.before c.0) (g.due c.0) g.since right whole_then n' waits
        ∙ sym (ap (λ (z : NodeState). z.star) is
        ∙ view-star deck c.0 T (g.before c.0) (g.due c.0) g.since g.whole.right whole_now n h)

    lists-then : lists_after (lists T) fs ≡ lists T'
    lists-then = sym (lists-grown w.fixed c fs) ∙ ap lists grown

    step : IsStep deck shown c k o_shown
    unfolding change_to_star
    step = record {
      mode = g.whole.roles.mode;
      removed = refl;
      inboxes = refl;
      message = refl;
      moves = record {
        count = refl;
        managed = g.whole.roles.managed;
        managers = λ e u ne. refl;
        interest = λ e u ne. refl;
        lists = λ e a b. ap (under deck.entries e) lists-then ∙ local e;
        free = λ e none. ap (under deck.entries e) lists-then ∙ (local e ∙ g.whole.roles.free e none);
      };
      member = record {
        part = me.part;
        star = same-star ∙ me.star;
        outbox = refl;
        fits = record {
          home = me.fits.home;
          entries = me.fits.entries;
          interests = me.fits.interests;
          roles = me.fits.roles;
          interest = me.fits.interest;
          lists = λ e a.
              subst (Alike (plain (items_of (managed_at me.part.manager e))))
              (sym (ap (under deck.entries e) lists-then ∙ local e)) (me.fits.lists e a);
          well = me.fits.well;
          calm = me.fits.calm;
        };
      };
    }

    own : IsSystem deck w.medium.words T' c.0 k' (inbox w.medium c.0) (g.whole.later c.0) (g.whole.out c.0)
    own = subst (λ xs. IsSystem deck w.medium.words T' c.0 k' (inbox w.medium c.0) xs (g.whole.out c.0)) (sym late-none)
        (subst (λ qs. IsSystem deck w.medium.words T' c.0 k' (inbox w.medium c.0) [] qs) (sym empty) (record {
          at = view-at deck c.0 T' (g.before c.0) (g.due c.0) g.since right whole_then n' waits;
          late = tt;
          sent = λ t e. refl;
          near = refl;
          coming = coming;
          answered = λ t x home due gave. absurd (cc);
          fits = sys.fits;
        }))

    abbrev now : World
    now = record (placed w c n o) { nodes = set g.view c.0 (viewed deck n' (g.due c.0)) }

    roles-now : IsStar deck now
    unfolding placed
    roles-now =
        let f = framed deck shown c k (at_site there unremoved) g.whole.roles o_shown step in
        record {
          mode = f.mode;
          words = f.words;
          inboxes = f.inboxes;
          systems = f.systems;
          managed = f.managed;
          nobody = f.nobody;
          free = f.free;
          node = f.node;
        }

    system-now : (s : ℕ) (j : NodeState) → IsThere (set g.view c.0 k') w.medium.removed s j
        → IsSystem deck w.medium.words (items (w.fixed ++ fixed_by c fs)) s j (inbox w.medium s) (g.whole.later s)
        (g.whole.out s)
    system-now s j v =
        subst (λ U. IsSystem deck w.medium.words U s j (inbox w.medium s) (g.whole.later s) (g.whole.out s)) (sym grown)
        (by_node g.view c.0 k k' there (λ u z.
        has w.medium.removed u ≡ false
        → IsSystem deck w.medium.words T' u z (inbox w.medium u) (g.whole.later u) (g.whole.out u))
        (λ l. own) (λ u z ne f l. others u z ne (at_site f l)) s j v.at v.live)

    hands-now : (m : ℕ) (j : NodeState) (p : StarPart) → IsThere (set g.view c.0 k') w.medium.removed m j
        → j.star ≡ Some p
        → Hands deck w.medium.words (λ s. lives (length (set g.view c.0 k')) w.medium.removed s) g.whole.later
        g.whole.out m (in_hands p (inbox w.medium m))
    hands-now m j p v star =
        subst (λ (count : ℕ).
        Hands deck w.medium.words (λ s. lives count w.medium.removed s) g.whole.later g.whole.out m
        (in_hands p (inbox w.medium m)))
        (sym (length-set g.view c.0 k'))
        (by_node g.view c.0 k k' there (λ u z.
        has w.medium.removed u ≡ false → (q : StarPart) → z.star ≡ Some q
        → Hands deck w.medium.words (are_live (record w { nodes = g.view })) g.whole.later g.whole.out u
        (in_hands q (inbox w.medium u)))
        (λ l q e. g.whole.hands c.0 k q (at_site there l) (sym same-star ∙ e))
        (λ u z ne f l q e. g.whole.hands u z q (at_site f l) e) m j v.at v.live p star)

    pub waiting-moved : IsChanging deck (placed w c n o)
    unfolding placed
    waiting-moved =
        let whole : IsWhole deck now = record {
          roles = roles-now;
          right = subst (IsHistory deck) (sym grown) right;
          later = g.whole.later;
          out = g.whole.out;
          near = subst (λ U. AreNear deck w.medium.words (lists U)) (sym grown) near;
          system = system-now;
          hands = hands-now;
        } in
        let f =
        fresh deck c.0 g.whole.out T (items (w.fixed ++ fixed_by c fs))
        (subst (Fixes deck c.0 g.whole.out T) (sym grown) fixes) in
        let none : rounds f.new ≡ [] =
        nothing-behind (rounds T) (rounds f.new) (sym f.is ∙ (ap rounds grown ∙ rounds_now)) in
        let same : g.since ++ rounds f.new ≡ g.since = ap (λ zs. g.since ++ zs) none ∙ append-nil g.since in
        moved deck w g c n at unremoved o k' whole (λ u ne. refl) f refl refl (waits_yet n' (record {
          alone = waits.alone;
          seen =
              subst (λ U.
              Seen deck c.0 U (g.before c.0) (g.due c.0 ++ (g.since ++ rounds f.new)) (own_requests c.0 (g.due c.0)) n')
              (sym grown)
              (subst (λ xs. Seen deck c.0 T' (g.before c.0) (g.due c.0 ++ xs) (own_requests c.0 (g.due c.0)) n')
              (sym same) waits.seen);
          away = λ t home. ap (mine t) same ∙ waits.away t home;
        }) refl empty)

  -- what comes is what came
  coming-now : (t : TaskId) → is_home_at deck c.0 t ≡ true → Coming t (blank false) T (news_of (inbox w.medium c.0))
  coming-now t home =
      subst (λ xs. Coming t (blank (is_late t xs)) T (news_of (inbox w.medium c.0))) late-none (sys.coming t home)

  -- the system becomes n', and fixes nothing
  same-moved : (n' : NodeState) (flags : ℕ) → Waits deck c.0 T (g.before c.0) (g.due c.0) g.since n' → (fs : List Fixed)
      → fs ≡ []
      → IsChanging deck
      (placed w c n (record { medium = record w.medium { rest = flags }; step = record { node = n'; fixed = fs } }))
  same-moved n' flags waits fs none =
      waiting-moved n' fs T (ap (λ zs. items (w.fixed ++ fixed_by c zs)) none ∙ items-none w.fixed c) g.whole.right
      none_fixed (λ e. refl) g.whole.near waits refl coming-now (λ s j ne found. g.whole.system s j found)
      flags

  -- ---- nothing happens but to a flag of rest
  pub nothing-moved : (flags : ℕ)
      → IsMoved deck w c n (record { medium = record w.medium { rest = flags }; step = only n })
  nothing-moved
      flags = record { changing = same-moved n flags h [] refl; news = tells_tasks (still-told refl) refl refl }

  -- ---- it is told which systems were removed
  pub known-moved : (known : ℕ)
      → IsMoved deck w c n (record { medium = w.medium; step = only (record n { known = known }) })
  known-moved known = record {
    changing =
        same-moved (record n { known = known }) w.medium.rest
        (record {
          alone = h.alone;
          seen =
              seen-known deck c.0 T (g.before c.0) (g.due c.0 ++ g.since) (own_requests c.0 (g.due c.0)) n
              known h.seen;
          away = h.away;
        })
        [] refl;
    news = tells_tasks (still-told refl) refl refl;
  }

  -- ---- its desk is told
  desk-changing : (said : Said)
      → IsChanging deck (placed w c n (record { medium = w.medium; step = only (desk_told n said) }))
  unfolding desk_told
  desk-changing said =
      same-moved (desk_told n said) w.medium.rest (record {
        alone = h.alone;
        seen = desk-seen deck c.0 T (g.before c.0) (g.due c.0 ++ g.since) (own_requests c.0 (g.due c.0)) n said h.seen;
        away = h.away;
      })
      [] refl

  pub desk-moved : next_order deck n ≡ Some orders.Star
      → IsMoved deck w c n (record { medium = w.medium; step = only (desk_told n saids.StarAlready) })
  unfolding desk_told
  desk-moved next = record {
    changing = desk-changing saids.StarAlready;
    news = tells_already next (desk-told n saids.StarAlready) refl g.whole.roles.mode g.whole.roles.mode;
  }

  pub vary-moved : GoneAreRemoved deck w → (target : SysId) → next_order deck n ≡ Some (orders.Vary target)
      → is_live w.medium target ≡ false
      → IsMoved deck w c n (record { medium = w.medium; step = only (desk_told n saids.VaryNoSuch) })
  unfolding desk_told
  vary-moved removed target next gone = record {
    changing = desk-changing saids.VaryNoSuch;
    news =
        tells_no_such target next (desk-told n saids.VaryNoSuch) refl refl (λ fit.
        ap (λ gs. list_any (removes target) (history (items gs))) (append-nil w.fixed)
        ∙ removed target (target-fits deck n target fit next).0 gone);
  }

  -- ---- a task goes on
  pub task-moved : (t : TaskId) → may_go deck n t ≡ true
      → IsMoved deck w c n (record { medium = w.medium; step = task_step deck.limit n t (lines_of deck t) })
  task-moved t may =
      by_step (quiet deck c.0 c T (g.before c.0) (g.due c.0 ++ g.since) (own_requests c.0 (g.due c.0)) n t g.whole.right
      h.seen may)
    where
      st : Step
      st = task_step deck.limit n t (lines_of deck t)

      kept : Stays n (task_step deck.limit n t (lines_of deck t)).node
      kept = stays-task deck.limit n t (lines_of deck t)

      by_step :
          QuietStep deck c.0 c T (g.before c.0) (g.due c.0 ++ g.since) (own_requests c.0 (g.due c.0)) n
          (task_step deck.limit n t (lines_of deck t))
          → IsMoved deck w c n (record { medium = w.medium; step = task_step deck.limit n t (lines_of deck t) })
      by_step (keeps none seen told) = record {
        changing =
            same-moved (task_step deck.limit n t (lines_of deck t)).node w.medium.rest
            (record { alone = kept.star ∙ h.alone; seen = seen; away = h.away })
            (task_step deck.limit n t (lines_of deck t)).fixed none;
        news =
            tells_tasks (subst (λ U.
            ToldNews deck c.0 (history U) n.tasks.told (task_step deck.limit n t (lines_of deck t)).node.tasks.told)
            (sym (ap (λ zs. items (w.fixed ++ fixed_by c zs)) none ∙ items-none w.fixed c)) (told-news told))
            kept.done refl;
      }
      by_step (fixes f one alone follow seen told) =
          let item : RunItem = made_item c T f in
          let T' : List RunItem = T ++ item ∷ [] in
          let grown : items (w.fixed ++ fixed_by c (task_step deck.limit n t (lines_of deck t)).fixed) ≡ T' =
          ap (λ zs. items (w.fixed ++ fixed_by c zs)) one ∙ items-one w.fixed c f in
          let around : rounds T' ≡ rounds T =
          filter-append (λ z. goes_round z.fixed) T (item ∷ [])
          ∙ (ap (λ zs. rounds T ++ zs) (filter-cons_left (λ z. goes_round z.fixed) item [] alone)
          ∙ append-nil (rounds T)) in
          record {
            changing =
                waiting-moved (task_step deck.limit n t (lines_of deck t)).node
                (task_step deck.limit n t (lines_of deck t)).fixed T' grown (fix-history g.whole.right follow)
                (fixes-own deck c g.whole.out T f follow)
                (under-local deck T c f alone) (near-local deck w.medium.words T c f alone g.whole.near)
                (record { alone = kept.star ∙ h.alone; seen = seen; away = h.away }) around
                (λ u home_u. subst (λ xs. Coming u (blank (is_late u xs)) T' (news_of (inbox w.medium c.0))) late-none
                (coming-own deck w.medium.words T g.whole.right c.0 k (inbox w.medium c.0) (g.whole.later c.0)
                (g.whole.out c.0) sys c f (λ v. fix-stays follow v)
                (λ v home_v of. (
                  ap (is_late v) late-none,
                  local-calm deck w.medium.words c.0 v f (inbox w.medium c.0) alone sys.fits,
                ))
                u home_u))
                (λ s j ne found.
                others-item deck shown g.whole c k (at_site there unremoved) f follow s j ne found)
                w.medium.rest;
            news =
                tells_tasks (subst (λ U.
                ToldNews deck c.0 (history U) n.tasks.told (task_step deck.limit n t (lines_of deck t)).node.tasks.told)
                (sym grown) (told-news told))
                kept.done refl;
          }

  -- ---- its Turn at the closed message: it comes to what was shown of it
  pub given : has (live w.medium) c.0 ≡ true → Bodies (fixeds (g.due c.0)) (unseen c w.medium.message.entries)
  given alive = given-due w.medium c g.before (g.due c.0) g.log (g.parts c.0) alive g.message

  asked-due : AllAsk deck (g.due c.0)
  asked-due =
      asks-front deck (g.due c.0) g.since (asks-behind deck (g.before c.0) (g.due c.0 ++ g.since)
      (subst (AllAsk deck) whole_now (asks-rounds deck T g.whole.right.asks)))

  round-due : list_all (λ x. goes_round x.fixed) (g.due c.0) ≡ true
  round-due =
      let all : list_all (λ x. goes_round x.fixed) (g.due c.0 ++ g.since) ≡ true =
      all-behind (λ x. goes_round x.fixed) (g.before c.0) (g.due c.0 ++ g.since)
      (ap (list_all (λ x. goes_round x.fixed)) (sym whole_now) ∙ all-rounds T) in
      (and_parts (list_all (λ x. goes_round x.fixed) (g.due c.0)) (list_all (λ x. goes_round x.fixed) g.since)
      (sym (list_all-append (λ x. goes_round x.fixed) (g.due c.0) g.since) ∙ all)).0

  pub reads : has (live w.medium) c.0 ≡ true
      → read_entries deck n (unseen c w.medium.message.entries) ≡ read_all n (g.due c.0)
  reads alive = read-entries deck n (g.due c.0) (unseen c w.medium.message.entries) asked-due round-due (given alive)

  then-known : has (live w.medium) c.0 ≡ true
      → (read_entries deck n (unseen c w.medium.message.entries)).known ≡ k.known
  unfolding change_to_star
  then-known alive =
      ap (λ (z : NodeState). z.known) (ap (change_to_star deck) (reads alive) ∙ sym is)

  pub comes-to : has (live w.medium) c.0 ≡ true
      → change_to_star deck (read_entries deck n (unseen c w.medium.message.entries)) ≡ k
  comes-to alive = ap (change_to_star deck) (reads alive) ∙ sym is

  -- behind its change it has nothing to lose
  pub change-stays : has (live w.medium) c.0 ≡ true → KnowsRemoved w.medium n
      → changed_now deck (read_entries deck n (unseen c w.medium.message.entries))
      ≡ change_to_star deck (read_entries deck n (unseen c w.medium.message.entries))
  change-stays alive known =
      let x : NodeState = read_entries deck n (unseen c w.medium.message.entries) in
      let same : x.known ≡ n.known = (stays-entries deck n (unseen c w.medium.message.entries)).known in
      let u = usual deck shown g.whole c k (at_site there unremoved)
      (λ v h. known v (ap (λ i. has i v) (sym same) ∙ (ap (λ i. has i v) (then-known alive) ∙ h))) in
      ap (λ (z : NodeState). losing deck z (members x.known)) (comes-to alive)
      ∙ (losing-nothing (part deck shown g.whole c k (at_site there unremoved)) u.calm deck k u.star x.known
      (λ v h. u.gone v (known v (ap (λ i. has i v) (sym same) ∙ h)))
      ∙ sym (comes-to alive))

  turn-done : (change_to_star deck (read_entries deck n (unseen c w.medium.message.entries))).done ≡ n.done
  unfolding change_to_star
  turn-done = (stays-entries deck n (unseen c w.medium.message.entries)).done

  -- what its Turn leaves
  module _ (flags : ℕ) (m : NodeState) (same : m ≡ k) where
    abbrev turned : Turnout
    turned = record {
      medium = record w.medium { message = turned_closed w.medium.message c; rest = flags };
      step = only m;
    }

    still : (x : IsWhole deck (record (placed w c n turned) { nodes = g.view })) × ((u : ℕ) → x.out u ≡ g.whole.out u)
    unfolding placed
    still =
        whole-still deck shown g.whole (turned_closed w.medium.message c) flags (w.events + 1)
        (w.fixed ++ fixed_by c []) (w.told ++ told_by (w.events + 1) c (told_in n (only m))) (items-none w.fixed c)

    -- the others are shown as they were
    stays-shown : (u : ℕ) (j x : NodeState) → u ≢ c.0
        → Shown deck u T (g.before u) (g.due u) g.since (g.whole.out u) j x
        → Shown deck u (items (w.fixed ++ fixed_by c [])) (put_at g.before c.0 g.log u) (put_at g.due c.0 [] u) g.since
        (still.0.out u) j x
    stays-shown u j x ne old =
        put_both g.before g.due c.0 u g.log []
        (λ b d. Shown deck u (items (w.fixed ++ fixed_by c [])) b d g.since (still.0.out u) j x) (λ e. absurd (ne e))
        (λ z. go j x old)
      where
        go : (j x : NodeState) → Shown deck u T (g.before u) (g.due u) g.since (g.whole.out u) j x
            → Shown deck u (items (w.fixed ++ fixed_by c [])) (g.before u) (g.due u) g.since (still.0.out u) j x
        go j x (has_changed none) = has_changed none
        go j x (waits_yet y z shows none) = waits_yet y (record {
          alone = z.alone;
          seen =
              subst (λ U. Seen deck u U (g.before u) (g.due u ++ g.since) (own_requests u (g.due u)) y)
              (sym (items-none w.fixed c)) z.seen;
          away = z.away;
        }) shows (still.1 u ∙ none)

    goes : has (live w.medium) c.0 ≡ true → IsChanging deck (placed w c n turned)
    unfolding placed
    goes alive = record {
      view = g.view;
      whole = still.0;
      log = g.log;
      since = g.since;
      rounds_are = ap rounds (items-none w.fixed c) ∙ g.rounds_are;
      before = put_at g.before c.0 g.log;
      due = put_at g.due c.0 [];
      parts =
          put_each g.before g.due c.0 g.log [] (λ u b d. g.log ≡ b ++ d) (sym (append-nil g.log)) (λ u ne. g.parts u);
      message = message-closed w.medium turned.medium c g.before g.due g.log g.parts refl refl refl g.message;
      closed = g.closed;
      around = g.around;
      count = length-set w.nodes c.0 m ∙ g.count;
      shown =
          by_node w.nodes c.0 n m at (λ u x.
          has w.medium.removed u ≡ false
          → (j : NodeState) × (slice_get g.view u ≡ Some j)
          × Shown deck u (items (w.fixed ++ fixed_by c [])) (put_at g.before c.0 g.log u) (put_at g.due c.0 [] u)
          g.since (still.0.out u) j x)
          (λ l. (
            k,
            there,
            subst (λ x.
                Shown deck c.0 (items (w.fixed ++ fixed_by c [])) (put_at g.before c.0 g.log c.0)
                (put_at g.due c.0 [] c.0) g.since (still.0.out c.0) k x)
                (sym same) (has_changed (put_here g.due c.0 [])),
          ))
          (λ u x ne f l. let old = g.shown u x f l in (old.0, old.1, stays-shown u old.0 x ne old.2));
      gone =
          by_node w.nodes c.0 n m at (λ u x. has w.medium.removed u ≡ true → x.star ≡ None)
          (λ l. no_truth (has w.medium.removed c.0) l unremoved) (λ u x ne f l. g.gone u x f l);
    }

  pub turn-moved : (flags : ℕ) → has (live w.medium) c.0 ≡ true
      → IsMoved deck w c n (record {
        medium = record w.medium { message = turned_closed w.medium.message c; rest = flags };
        step = only (change_to_star deck (read_entries deck n (unseen c w.medium.message.entries)));
      })
  turn-moved flags alive = record {
    changing =
        goes flags (change_to_star deck (read_entries deck n (unseen c w.medium.message.entries))) (comes-to alive)
        alive;
    news = tells_tasks tells turn-done refl;
  }
    where
      tells :
          ToldNews deck c.0 (history (items (w.fixed ++ fixed_by c []))) n.tasks.told
          (change_to_star deck (read_entries deck n (unseen c w.medium.message.entries))).tasks.told
      tells =
          subst (λ U.
          ToldNews deck c.0 (history U) n.tasks.told
          (change_to_star deck (read_entries deck n (unseen c w.medium.message.entries))).tasks.told)
          (sym (items-none w.fixed c))
          (subst (λ (z : NodeState). ToldNews deck c.0 (history T) n.tasks.told z.tasks.told)
          (sym (comes-to alive ∙ is))
          (view-news deck c.0 T (g.before c.0) (g.due c.0) g.since g.whole.right whole_now n h))

  -- whatever came of it
  pub waits-moved : has (live w.medium) c.0 ≡ true → GoneAreRemoved deck w → (o : Turnout) → CameLate deck w c n o
      → IsMoved deck w c n o
  waits-moved alive removed o (nothing_late flags) = nothing-moved flags
  waits-moved alive removed o (task_late t may) = task-moved t may
  waits-moved alive removed o (turn_late flags here) = turn-moved flags alive
  waits-moved alive removed o (desk_late next) = desk-moved next
  waits-moved alive removed o (vary_late target next gone) = vary-moved removed target next gone
  waits-moved alive removed o (informed_late known) = known-moved known
