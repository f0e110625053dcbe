-- What rests holds of every run from the change of the medium on.
use Rattle.grs_world.proofs.Common.{[], ◌++◌, ◌<◌, ◌∙◌, ◌∷◌, ◌≡◌, ap, arith, Bool, chosen, cond, Deck, entries_some}
use Rattle.grs_world.proofs.Common.{Event, false, first_node, first_part, first_world, FitsStar, fixed_by, happens, has}
use Rattle.grs_world.proofs.Common.{has_task, inbox, is_sent, IsHistory, items, List, list_of, lists, Managed}
use Rattle.grs_world.proofs.Common.{managed_at, may_be_star, most_systems, no_truth, NodeState, None, NoneInStar}
use Rattle.grs_world.proofs.Common.{Option, owns, placed, refl, Res, run, same_Some, slice_get, slice_get_within, Some}
use Rattle.grs_world.proofs.Common.{StarPart, state_of, subst, suc, sym, SysId, TaskId, TaskState, true, Turnout, World}
use Rattle.grs_world.proofs.Common.{zero, ℕ}
use Rattle.grs_wire.specs.Decks.{IsBounded}
use Rattle.grs_world.proofs.run.Placed.{fixed-placed, medium-placed}
use Rattle.grs_world.proofs.run.First.{first_of}
use Rattle.grs_world.proofs.move.Changing.{IsChanging}
use Rattle.grs_world.proofs.move.Late.{came_late}
use Rattle.grs_world.proofs.move.Sound.{GoodRun, every_run, good_history, in_ring, in_star}
use Rattle.grs_world.proofs.at_rest.Few.{ranks-few}
use Rattle.grs_world.proofs.at_rest.Restful.{IsRestful, restful-counted, restful-star, sent-star, sent_in, sent_of}
use Rattle.grs_world.proofs.at_rest.Events.{date-any}
use Rattle.grs_world.proofs.at_rest.Ring.{IsRead}
use Rattle.grs_world.proofs.at_rest.RingRun.{first-read, first-state, ring_read, still_of}
use Rattle.grs_world.proofs.at_rest.Switching.{restful-begun}
use Rattle.grs_world.proofs.at_rest.View.{node-of, shown-star, shown_at}
use Rattle.grs_world.proofs.at_rest.Waiting.{restful-late}
use Rattle.grs_world.proofs.run.Came.{ChoiceRemovesNone}
use Rattle.grs_world.proofs.run.Chosen.{removes-none}
use Rattle.grs_world.proofs.run.Knowing.{KnowsRemoved, known_run}
use Rattle.grs_world.proofs.move.Moved.{late-stays}
use Rattle.grs_world.proofs.run.Each.{run-push, each_live}
use Rattle.grs_world.proofs.move.Begin.{switch-stays}
use Rattle.grs_world.proofs.run.Removals.{GoneAreRemoved, gone_are_removed, taken_out}
use Rattle.grs_world.proofs.run.Spared.{each_spared, none_before, none_next}
use Rattle.grs_world.proofs.run.InRing.{CameInRing, changed, each_in_ring, nothing, turn, went_on, informed, no_such}
use Rattle.grs_world.proofs.run.InRing.{removes_one}
use Rattle.grs_world.proofs.star.Heard.{AreAddressed, sent_by}
use Rattle.grs_world.proofs.star.Sound.{first_inbox}

-- ---- an event behind the change of the medium
module _ (deck : Deck) (some : 0 < deck.entries) (w : World) (g : IsChanging deck w) (h : IsRestful deck w) (c : SysId)
    (inside : c.0 < most_systems) (n : NodeState) (at : slice_get w.nodes c.0 ≡ Some n)
    (alive : has w.medium.removed c.0 ≡ false) where
  pub restful-event : (e : Event) → e.system ≡ c → GoneAreRemoved deck w → KnowsRemoved w.medium n
      → ChoiceRemovesNone deck w.medium c n e.choice
      → IsHistory deck (items (w.fixed ++ fixed_by c (chosen deck w.medium c n e.choice).step.fixed)) → IsBounded deck
      → IsRestful deck (placed w c n (chosen deck w.medium c n e.choice))
  restful-event e by removed knows kept right bounds = go n.star refl
    where
      go : (o : Option StarPart) → n.star ≡ o → IsRestful deck (placed w c n (chosen deck w.medium c n e.choice))
      go (Some p) star =
          restful-star deck w g h c n at alive some inside p star e.choice removed knows kept
          (ranks-few deck bounds (items (w.fixed ++ fixed_by c (chosen deck w.medium c n e.choice).step.fixed)) right)
      go None alone =
          restful-late deck w g h c n at alive some bounds.fits.few alone (chosen deck w.medium c n e.choice)
          (came_late deck w g.whole.roles.mode g.closed c n alone alive
          (late-stays deck w g c n at alive alone knows) e.choice kept)

-- ---- a run that begins in star mode
no-part : (k : ℕ) (s : SysId) (e : ℕ) (x : Managed) → managed_at (first_part s k).manager e ≡ Some x → ⊥
no-part zero s e x h = absurd (cc)
no-part (suc k) s zero x h = absurd (cc)
no-part (suc k) s (suc e) x h = no-part k s e x h

first-manages : (deck : Deck) (s e : ℕ) (x : Managed) (p : StarPart) → (first_node deck s).star ≡ Some p
    → managed_at p.manager e ≡ Some x → ⊥
unfolding first_node
first-manages deck s e x p star h = go deck.star star
  where
    go : (b : Bool) → cond b (Some (first_part (record { 0 = s }) deck.entries)) None ≡ Some p → ⊥
    go false f = absurd (cc)
    go true f =
        no-part deck.entries (record { 0 = s }) e x
        (ap (λ (q : StarPart). managed_at q.manager e) (same_Some (first_part (record { 0 = s }) deck.entries) p f) ∙ h)

pub first-star : (deck : Deck) (s : ℕ) → deck.star ≡ true → (first_node deck s).star ≡ None → ⊥
unfolding first_node
first-star deck s star none =
    absurd (let no : Some (first_part (record { 0 = s }) deck.entries) ≡ None =
    sym (ap (λ b. cond b (Some (first_part (record { 0 = s }) deck.entries)) None) star) ∙ none in
    cc)

first-boxes : (deck : Deck) (s : ℕ) → inbox (first_world deck).medium s ≡ []
unfolding first_world
first-boxes deck s = first_inbox deck s

pub first-fixed : (deck : Deck) → items (first_world deck).fixed ≡ []
unfolding first_world
first-fixed deck = refl

module _ (deck : Deck) (star : deck.star ≡ true) where
  unsent-first : (s : ℕ) (t : TaskId) → sent_of (first_world deck).nodes s t ≡ true → ⊥
  unsent-first s t = go (slice_get (first_world deck).nodes s) refl
    where
      go : (o : Option NodeState) → slice_get (first_world deck).nodes s ≡ o → sent_in o t ≡ true → ⊥
      go None f e = absurd (cc)
      go (Some n) f e = by_star n.star refl
        where
          unsent : sent_by n t ≡ false
          unsent =
              ap (λ (k : NodeState). is_sent (state_of k.tasks t).phase) (first_of deck s n f)
              ∙ ap (λ (x : TaskState). is_sent x.phase) (first-state deck s t)

          by_star : (o : Option StarPart) → n.star ≡ o → ⊥
          by_star None none = first-star deck s star (ap (λ (k : NodeState). k.star) (sym (first_of deck s n f)) ∙ none)
          by_star (Some p) has = no_truth (sent_in (Some n) t) e (sent-star n p t has ∙ unsent)

  first-restful : (g : IsChanging deck (first_world deck)) → IsRestful deck (first_world deck)
  first-restful g0 = record {
    dated = λ s n at live. let h = read_at s n at in record { date = date-any true deck n.tasks h.date; own = h.own };
    still = λ s n at live none.
        absurd (first-star deck s star (ap (λ (k : NodeState). k.star) (sym (first_of deck s n at)) ∙ none));
    read = λ s n at live none. read_at s n at;
    heard = λ g. record {
      requests = λ s n t v home e. absurd (unsent-first s t e);
      owners = λ s n t r v home wide own. absurd (none-owns t r own);
      recorded = λ s n t r v home wide has_it. absurd (none-has t r has_it);
      mails = λ s. subst (AreAddressed deck) (sym (first-boxes deck s)) tt;
      ranks = λ m k p e x v has_part managed. absurd (first-view g m k p e x v.at v.live has_part managed);
    };
    ranked = λ g s n t r v home wide stands. absurd (none-has t r stands);
  }
    where
      read_at : (s : ℕ) (n : NodeState) → slice_get (first_world deck).nodes s ≡ Some n
          → IsRead deck s n (still_of s (first_world deck).medium.message.entries)
      read_at s n at =
          subst (λ (k : NodeState). IsRead deck s k (still_of s (first_world deck).medium.message.entries))
          (sym (first_of deck s n at)) (first-read deck s _)

      none-owns : (t : TaskId) (r : Res) → owns (list_of (lists (items (first_world deck).fixed)) r) t ≡ true → ⊥
      none-owns t r own =
          absurd (let no : false ≡ true = ap (λ T. owns (list_of (lists T) r) t) (sym (first-fixed deck)) ∙ own in cc)

      none-has : (t : TaskId) (r : Res) → has_task (list_of (lists (items (first_world deck).fixed)) r) t ≡ true → ⊥
      none-has t r has =
          absurd (let no : false ≡ true = ap (λ T. has_task (list_of (lists T) r) t) (sym (first-fixed deck)) ∙ has in
          cc)

      first-view : (g : IsChanging deck (first_world deck)) (m : ℕ) (k : NodeState) (p : StarPart) (e : ℕ) (x : Managed)
          → slice_get g.view m ≡ Some k → has (first_world deck).medium.removed m ≡ false → k.star ≡ Some p
          → managed_at p.manager e ≡ Some x → ⊥
      first-view g m k p e x at live has_part managed =
          let z = node-of deck (first_world deck) g m k at live in
          let is : z.0 ≡ first_node deck m = first_of deck m z.0 z.1 in
          by_star z.0 z.1 is z.2 z.0.star refl
        where
          by_star : (n : NodeState) → slice_get (first_world deck).nodes m ≡ Some n → n ≡ first_node deck m
              → k ≡ shown_at deck (first_world deck).medium.message.entries m n → (o : Option StarPart) → n.star ≡ o → ⊥
          by_star n there is shows None none = first-star deck m star (ap (λ (k : NodeState). k.star) (sym is) ∙ none)
          by_star n there is shows (Some q) part =
              first-manages deck m e x p (ap (λ (k : NodeState). k.star)
              (sym (shows ∙ (shown-star deck (first_world deck).medium.message.entries m n q part ∙ is)))
              ∙ has_part)
              managed

-- ---- every list of events
pub first-mode : (deck : Deck) → (first_world deck).medium.star ≡ deck.star
unfolding first_world
first-mode deck = refl

pub restful_run : (deck : Deck) → IsBounded deck → (es : List Event) → NoneInStar deck es
    → (run deck es).medium.star ≡ true → IsRestful deck (run deck es)
restful_run deck bounds = each_spared deck (λ es (w : World). w.medium.star ≡ true → IsRestful deck w) begun step
  where
    fits : may_be_star deck ≡ true → FitsStar deck
    fits h = record { few = bounds.fits.few; entries = bounds.entries }

    some : 0 < deck.entries
    some = entries_some deck.entries bounds.entries

    begun : (first_world deck).medium.star ≡ true → IsRestful deck (first_world deck)
    begun mode = go (every_run deck fits [] refl)
      where
        go : GoodRun deck [] (first_world deck) → IsRestful deck (first_world deck)
        go (in_star f g told d) = first-restful deck (sym (first-mode deck) ∙ mode) g
        go (in_ring begins ring g d) = absurd (let no : true ≡ false = sym mode ∙ ring.mode in cc)

    step : (es : List Event) (e : Event) → NoneInStar deck (es ++ e ∷ [])
        → ((run deck es).medium.star ≡ true → IsRestful deck (run deck es))
        → (happens deck (run deck es) e).medium.star ≡ true → IsRestful deck (happens deck (run deck es) e)
    step es e none more mode = go (every_run deck fits es (none_before deck es e none))
      where
        right : IsHistory deck (items (happens deck (run deck es) e).fixed)
        right =
            subst (λ (x : World). IsHistory deck (items x.fixed)) (run-push deck es (first_world deck) e)
            (good_history deck (es ++ e ∷ []) (run deck (es ++ e ∷ [])) (every_run deck fits (es ++ e ∷ []) none))

        go : GoodRun deck es (run deck es) → IsRestful deck (happens deck (run deck es) e)
        go (in_star f g told d) =
            each_live deck (run deck es) e (λ x. happens deck (run deck es) e ≡ x → IsRestful deck x)
            (λ is. restful-counted deck (run deck es) g (more g.whole.roles.mode))
            (λ n at alive is.
            let here = slice_get_within (run deck es).nodes e.system.0 n at in
            let inside : e.system.0 < most_systems = omega (arith, here, g.count, f.few) in
            restful-event deck some (run deck es) g (more g.whole.roles.mode) e.system inside n at alive e refl
            (gone_are_removed deck es) (known_run deck es e.system.0 n at)
            (removes-none deck (run deck es) e (none_next deck es e none) n at alive)
            (subst (λ fs. IsHistory deck (items fs)) (ap (λ (x : World). x.fixed) is
            ∙ fixed-placed (run deck es) e.system n (chosen deck (run deck es).medium e.system n e.choice))
            right)
            bounds)
            refl
        go (in_ring begins ring g d) =
            each_in_ring deck (run deck es) e (λ x. x.medium.star ≡ true → IsRestful deck x) ring
            (λ z. absurd (let no : true ≡ false = sym z ∙ ring.mode in cc)) by_came mode
          where
            ring-mode : (n : NodeState) (o : Turnout) → o.medium.star ≡ false
                → (placed (run deck es) e.system n o).medium.star ≡ true
                → IsRestful deck (placed (run deck es) e.system n o)
            ring-mode n o flat z =
                absurd (let no : true ≡ false =
                sym z ∙ (ap (λ m. m.star) (medium-placed (run deck es) e.system n o) ∙ flat) in
                cc)

            by_came : (n : NodeState) (o : Turnout) → slice_get (run deck es).nodes e.system.0 ≡ Some n
                → has (run deck es).medium.removed e.system.0 ≡ false → CameInRing deck (run deck es) e.system n o
                → (placed (run deck es) e.system n o).medium.star ≡ true
                → IsRestful deck (placed (run deck es) e.system n o)
            by_came n o at alive (nothing flags) z = ring-mode n _ ring.mode z
            by_came n o at alive (went_on t may) z = ring-mode n _ ring.mode z
            by_came n o at alive (turn flags here) z = ring-mode n _ ring.mode z
            by_came n o at alive (changed next idle) z =
                restful-begun deck some bounds.fits.few es (run deck es) ring g
                (ring_read deck fits es (none_before deck es e none) ring.mode)
                e.system n at alive idle
                (switch-stays deck begins some bounds.fits.few (run deck es) ring g.history (taken_out deck es) g.before
                g.later g.whole g.message g.systems e.system n at alive next idle (known_run deck es e.system.0 n at))
            by_came n o at alive (informed known) z = ring-mode n _ ring.mode z
            by_came n o at alive (removes_one target next there) z = ring-mode n _ ring.mode z
            by_came n o at alive (no_such target next gone) z = ring-mode n _ ring.mode z
