-- Every run of which no event removes, in star mode, a system that manages a lock entry is sound.
use Rattle.grs_world.proofs.Common.{[], ◌&&◌, ◌++◌, ◌<◌, ◌==◌, ◌∙◌, ◌∷◌, ◌≡◌, ◌≢◌, and_from, and_parts, ap, Bool}
use Rattle.grs_world.proofs.Common.{call_at, call_in, Choice, chosen, cond, counted, Deck, desk_told, entries_some}
use Rattle.grs_world.proofs.Common.{eqb-false, Event, false, FitsStar, fixed_by, happens, has, history, is_purged}
use Rattle.grs_world.proofs.Common.{IsHistory, items, items_are_history, length, List, list_any, lt-ltb, made_item}
use Rattle.grs_world.proofs.Common.{may_be_star, MediumState, nat_lt, next_order, no_truth, NodeState, None, NoneInStar}
use Rattle.grs_world.proofs.Common.{not, not-true, OrdersFit, placed, prepare, Purged, purged, refl, removes}
use Rattle.grs_world.proofs.Common.{removes_in_star, reply_by, reply_of, run, slice_get, slice_get_within, Some, subst}
use Rattle.grs_world.proofs.Common.{sym, SysId, take, true, Turnout, without_in_star, World}
use Rattle.grs_known.proofs.known.Histories.{MayPurge}
use Rattle.grs_legal.specs.Legal.{commands_removal, MayRemove}
use Rattle.grs_medium.specs.Apply.{is_live}
use Rattle.grs_world.specs.Agree.{Sound}
use Rattle.grs_world.specs.InStar.{have_changed, manages_any, NoneTakesEntries, spares_entries, takes_entries}
use Rattle.grs_world.specs.Running.{is_live as is_live_in}
use Rattle.grs_world.proofs.at_rest.Homes.{homes_run}
use Rattle.grs_wire.specs.Decks.{IsBounded}
use Rattle.grs_world.proofs.at_rest.Alike.{heard-alike, same-nodes, shown-alike}
use Rattle.grs_world.proofs.at_rest.Few.{ranks-few}
use Rattle.grs_world.proofs.at_rest.StarRun.{restful_run}
use Rattle.grs_world.proofs.loss.Begin.{begins-hearing, begins-losing}
use Rattle.grs_world.proofs.loss.Heard.{had_all, HearsOn, sent_all}
use Rattle.grs_world.proofs.run.Spared.{none_push}
use Rattle.grs_world.proofs.loss.Spared.{each_kept_entries, takes-next}
use Rattle.grs_world.proofs.loss.Steps.{goes-informed, goes-nothing, goes-removal, goes-seen, goes-task, GoesOn}
use Rattle.grs_world.proofs.loss.View.{IsLosing, viewed_by}
use Rattle.grs_world.proofs.loss.Views.{acts-heard, is_heard, knows-all, quiet, seen-acts}
use Rattle.grs_world.proofs.move.Sound.{first_run, GoodRun, good_history, good_told, in_ring, in_star, next_good}
use Rattle.grs_world.proofs.run.Came.{acts-keep, Came, no_part, Result, result_of}
use Rattle.grs_world.proofs.run.Chosen.{came, reply-in, reply_in}
use Rattle.grs_world.proofs.run.Desks.{desk-agrees, desks-after, desks-counted, GoodDesks}
use Rattle.grs_world.proofs.run.Each.{each_live}
use Rattle.grs_world.proofs.run.Knowing.{acts-known, known_run}
use Rattle.grs_world.proofs.run.Placed.{fixed-placed, of_world}
use Rattle.grs_world.proofs.run.Purging.{commands, target-fits}
use Rattle.grs_world.proofs.run.Removals.{gone_are_removed, removed_in_history}
use Rattle.grs_world.proofs.run.Runs.{GoodTold, told-after, told-counted}
use Rattle.grs_world.proofs.run.Sound.{sound-of}
use Rattle.grs_world.proofs.run.Site.{at_site}
use Rattle.grs_world.proofs.star.Worlds.{whole-counted}
use Rattle.grs_wire.specs.declared.deck.Choice.TheVariants as choices
use Rattle.grs_wire.specs.declared.deck.Order.TheVariants as orders
use Rattle.grs_wire.specs.declared.medium.Reply.TheVariants as replies
use Rattle.grs_world.proofs.run.Came as any

-- What holds of the world w after these events: nobody was removed in star mode, or systems were that managed no lock
-- entry.
pub data GoodLoss (deck : Deck) (es : List Event) (w : World) : Type 0 where
  has_spared : NoneInStar deck es → GoodRun deck es w → GoodLoss deck es w
  has_lost : FitsStar deck → (g : IsLosing deck w) → GoodTold deck es w → GoodDesks deck w
      → (IsBounded deck → HearsOn deck w g) → GoodLoss deck es w

-- A star that lost such systems, with what is still to be heard.
abbrev pub LosesAndHears : Deck → World → Type 0
LosesAndHears deck w = (g : IsLosing deck w) × (IsBounded deck → HearsOn deck w g)

-- ---- an event of a star that lost such systems, or loses one
module _ (deck : Deck) (f : FitsStar deck) (es : List Event) (e : Event) (g : IsLosing deck (run deck es))
    (told : GoodTold deck es (run deck es)) (d : GoodDesks deck (run deck es))
    (rest : IsBounded deck → HearsOn deck (run deck es) g) (none : takes_entries deck (run deck es) e ≡ false) where
  abbrev w : World
  w = run deck es

  abbrev c : SysId
  c = e.system

  -- an event that is only counted
  abbrev losing-counted : IsLosing deck (counted w)
  losing-counted = record {
    view = g.view;
    boxes = g.boxes;
    whole = (whole-counted deck (viewed_by w g.view g.boxes) g.whole).0;
    shown = g.shown;
    mail = g.mail;
    around = g.around;
    places = g.places;
    gone = g.gone;
    count = g.count;
  }

  hears-counted : IsBounded deck → HearsOn deck (counted w) losing-counted
  hears-counted bounds = let h = rest bounds in record {
    dated = h.dated;
    ranked =
        shown-alike deck (viewed_by w g.view g.boxes) (viewed_by (counted w) g.view g.boxes)
        (same-nodes deck (viewed_by w g.view g.boxes) (viewed_by (counted w) g.view g.boxes) refl (λ s live. refl)
        (λ s. refl) refl)
        h.ranked;
    heard =
        heard-alike deck (viewed_by w g.view g.boxes) (viewed_by (counted w) g.view g.boxes)
        (same-nodes deck (viewed_by w g.view g.boxes) (viewed_by (counted w) g.view g.boxes) refl (λ s live. refl)
        (λ s. refl) refl)
        (sent_all w.nodes) (sent_all w.nodes) (had_all w.medium.removed w.nodes) (had_all w.medium.removed w.nodes)
        (λ s t live home e. e) (λ s k t r found live home wide e. e) h.heard;
  }

  module _ (n : NodeState) (at : slice_get (run deck es).nodes e.system.0 ≡ Some n)
      (alive : has (run deck es).medium.removed e.system.0 ≡ false) where
    some : 0 < deck.entries
    some = entries_some deck.entries f.entries

    -- its number
    home : n.tasks.system ≡ e.system.0
    home =
        ap (λ (z : NodeState). z.tasks.system) (sym (g.shown c.0 n at alive).2.is)
        ∙ (g.whole.system c.0 (g.shown c.0 n at alive).0 (at_site (g.shown c.0 n at alive).1 alive)).at.good.system

    inside : e.system.0 < length w.medium.inboxes
    inside =
        subst (λ k. e.system.0 < k) (g.count ∙ sym g.places) (slice_get_within w.nodes e.system.0 n at)

    -- a removal may follow
    may-purge : (target : SysId) → next_order deck n ≡ Some (orders.Vary target) → is_live w.medium target ≡ true
        → MayPurge deck (items w.fixed) (made_item c (items w.fixed) (Purged target))
    may-purge target next live = record { target = target; purged = refl; made = refl; stands = stands }
      where
        in_history : (s : SysId) → has w.medium.removed s.0 ≡ false
            → list_any (removes s) (history (items w.fixed)) ≡ false
        in_history s h =
            ap (list_any (removes s)) (items_are_history w.fixed).0 ∙ (sym (removed_in_history deck es s) ∙ h)

        stands : OrdersFit deck → MayRemove deck (history (items w.fixed)) c target
        stands fit = record {
          live = in_history c alive;
          first =
              in_history target (not-true (has w.medium.removed target.0)
              (and_parts (nat_lt target.0 w.medium.message.systems) (not (has w.medium.removed target.0)) live).1);
          other = λ same. (target-fits deck n target fit next).1 (same ∙ sym home);
          commanded =
              subst (λ i. commands_removal target (slice_get deck.systems i) ≡ true) home
              (commands deck n target next);
        }

    -- ---- by what came of it
    abbrev Goes : Turnout → Type 0
    Goes o = GoesOn deck w g c n o

    mode : w.medium.star ≡ true
    mode = g.whole.roles.mode

    own-star : n.star ≡ Some (g.shown c.0 n at alive).2.part
    own-star = (g.shown c.0 n at alive).2.star

    boxes-same : length g.boxes ≡ length w.medium.inboxes
    boxes-same = g.whole.roles.inboxes ∙ sym g.places

    -- it removes one that manages no lock entry
    by-removal : (target : SysId) → next_order deck n ≡ Some (orders.Vary target) → is_live w.medium target ≡ true
        → n.known ≡ w.medium.removed → spares_entries w c (choices.Purge target) ≡ true →
        Goes (record { medium = without_in_star w.medium target; step = purged deck n (choices.Purge target) })
    by-removal target next live all kept =
        let both =
        and_parts (not (c.0 == target.0))
        (not (manages_any w.medium.words target) && have_changed w.medium.removed 0 w.nodes) kept in
        let free =
        and_parts (not (manages_any w.medium.words target)) (have_changed w.medium.removed 0 w.nodes) both.1 in
        goes-removal deck some f.few w g (known_run deck es) (gone_are_removed deck es) c n at alive all target next
        live (eqb-false c.0 target.0 (not-true (c.0 == target.0) both.0))
        (not-true (manages_any w.medium.words target) free.0) (may-purge target next live)

    -- a line of its desk
    by-quiet : (choice : Choice) (b : Result) (o : Turnout) → o.medium ≡ w.medium → o.step.node.known ≡ n.known →
        Came deck (record w.medium { inboxes = g.boxes }) c n choice b
        (record { medium = record o.medium { inboxes = g.boxes }; step = o.step })
        → n.known ≡ w.medium.removed → (b ≢ any.replied replies.Purged) → Goes o
    by-quiet choice b o same known came all apart =
        goes-seen deck some f.few w g (known_run deck es) (gone_are_removed deck es) c n at alive all o
        (ap (λ (m : MediumState). m.removed) same) (ap (λ (m : MediumState). m.message) same) known
        (quiet deck w.medium g.boxes boxes-same g.mail c alive inside n home (g.shown c.0 n at alive).2.part own-star
        all choice b o (ap (λ (m : MediumState). m.inboxes) same) came (λ m. apart))

    comes : (choice : Choice) (b : Result) (o : Turnout) → (is_heard b ≡ true → n.known ≡ w.medium.removed)
        → (is_purged (reply_in b) ≡ true → spares_entries w c choice ≡ true) → Came deck w.medium c n choice b o
        → Goes o
    unfolding desk_told
    comes choice b o knowing spares (any.nothing z r silent flags) =
        goes-nothing deck some f.few w g (known_run deck es) (gone_are_removed deck es) c n at alive flags
    comes choice b o knowing spares (any.informed z) =
        goes-informed deck some f.few w g (known_run deck es) (gone_are_removed deck es) c n at alive
    comes choice b o knowing spares (any.went_on t may) =
        goes-task deck some f.few w g (known_run deck es) (gone_are_removed deck es) c n at alive t may
    comes choice b o knowing spares (any.turn flags alone unclosed here) = no_part n _ own-star alone
    comes choice b o knowing spares (any.last_turn flags alone shut here) = no_part n _ own-star alone
    comes choice b o knowing spares (any.changed ring next seen) = no_truth w.medium.star mode ring
    comes choice b o knowing spares (any.already star next) =
        by-quiet choice b o refl refl (any.already star next) (knowing refl) (λ same. absurd (cc))
    comes choice b o knowing spares (any.removes_one target ring next lives) = no_truth w.medium.star mode ring
    comes choice b o knowing spares (any.removes_star target star next lives) =
        by-removal target next lives (knowing refl) (spares refl)
    comes choice b o knowing spares (any.no_such target next gone) =
        by-quiet choice b o refl refl (any.no_such target next gone) (knowing refl) (λ same. absurd (cc))
    comes choice b o knowing spares (any.acted p part z r x acts) =
        let all = knowing (acts-heard deck w.medium c n p choice b o acts) in
        let keeps = acts-keep deck w.medium c n p choice b o acts in
        goes-seen deck some f.few w g (known_run deck es) (gone_are_removed deck es) c n at alive all o keeps.removed
        keeps.message (acts-known deck w.medium c n p choice b o acts)
        (seen-acts deck w.medium g.boxes boxes-same g.mail c alive inside n home p part all choice b o acts)

    -- ---- the reply to its call
    reply-is : reply_of deck w e ≡ reply_in (result_of w.medium e.system (prepare deck n e.choice))
    reply-is =
        ap (λ o. reply_by w.medium e.system (call_at deck w e o)) at
        ∙ (ap (λ b. reply_by w.medium e.system (cond b (call_in (prepare deck n e.choice)) None)) there
        ∙ sym (reply-in w.medium e.system (prepare deck n e.choice)))
      where
        there : is_live_in w e.system ≡ true
        there =
            and_from (nat_lt e.system.0 (length w.nodes)) (not (has w.medium.removed e.system.0))
            (lt-ltb e.system.0 (length w.nodes) (slice_get_within w.nodes e.system.0 n at)) (ap not alive)

    spares : is_purged (reply_in (result_of w.medium e.system (prepare deck n e.choice))) ≡ true
        → spares_entries w e.system e.choice ≡ true
    spares purges = go (spares_entries w e.system e.choice) refl
      where
        go : (b : Bool) → spares_entries w e.system e.choice ≡ b → b ≡ true
        go true is = refl
        go false is =
            no_truth (takes_entries deck w e)
            (and_from (removes_in_star deck w e) (not (spares_entries w e.system e.choice))
            (and_from w.medium.star (is_purged (reply_of deck w e)) g.whole.roles.mode
            (ap is_purged reply-is ∙ purges))
            (ap not is))
            none

    goes : GoesOn deck w g c n (chosen deck w.medium e.system n e.choice)
    goes =
        comes e.choice (result_of w.medium e.system (prepare deck n e.choice))
        (chosen deck w.medium e.system n e.choice) (knows-all deck w.medium e.system n e.choice alive) spares
        (came deck w.medium e.system n alive e.choice)

    lost-then : happens deck w e ≡ placed w e.system n (chosen deck w.medium e.system n e.choice)
        → GoodLoss deck (es ++ e ∷ []) (placed w e.system n (chosen deck w.medium e.system n e.choice))
    lost-then is =
        let o : Turnout = chosen deck (run deck es).medium e.system n e.choice in
        let after = goes in
        let both =
        of_world w c n (chosen deck w.medium e.system n e.choice) (LosesAndHears deck) (
          after.losing,
          λ bounds.
              after.rests (rest bounds)
              (ranks-few deck bounds (items (w.fixed ++ fixed_by c (chosen deck w.medium e.system n e.choice).step.fixed))
              after.losing.whole.right),
        ) in
        has_lost f both.0
        (told-after deck es e n at told (chosen deck w.medium e.system n e.choice)
        (items (w.fixed ++ fixed_by c o.step.fixed))
        (ap items (fixed-placed (run deck es) e.system n (chosen deck w.medium e.system n e.choice))) is
        (desk-agrees deck es w told d c n at home (history (items (w.fixed ++ fixed_by c o.step.fixed))) o.step.fixed
        o.step.node o.medium.star after.news))
        (desks-after deck w d c n at (chosen deck w.medium e.system n e.choice)
        (history (items (w.fixed ++ fixed_by c o.step.fixed))) after.news)
        both.1

  from_lost : GoodLoss deck (es ++ e ∷ []) (happens deck w e)
  from_lost =
      each_live deck w e (λ x. happens deck w e ≡ x → GoodLoss deck (es ++ e ∷ []) x)
      (λ is. has_lost f losing-counted (told-counted deck es e w told) (desks-counted deck w d) hears-counted)
      (λ n at alive is. lost-then n at alive is) refl

-- ---- one event
module _ (deck : Deck) (fits : may_be_star deck ≡ true → FitsStar deck) (es : List Event) (e : Event) where
  abbrev world : World
  world = run deck es

  next_loss : takes_entries deck (run deck es) e ≡ false → GoodLoss deck es (run deck es)
      → GoodLoss deck (es ++ e ∷ []) (happens deck (run deck es) e)
  next_loss none (has_lost f g told d rest) = from_lost deck f es e g told d rest none
  next_loss none (has_spared spared good) = go (removes_in_star deck world e) refl
    where
      -- the first such removal
      first : removes_in_star deck world e ≡ true → GoodRun deck es world
          → GoodLoss deck (es ++ e ∷ []) (happens deck world e)
      first on (in_ring begins ring g d) =
          no_truth world.medium.star
          (and_parts world.medium.star (is_purged (reply_of deck world e)) on).0 ring.mode
      first on (in_star f g told d) =
          from_lost deck f es e (begins-losing deck world g (known_run deck es) all) told d
          (λ bounds.
          begins-hearing deck world g (known_run deck es) all
          (restful_run deck bounds es spared g.whole.roles.mode))
          none
        where
          kept : spares_entries world e.system e.choice ≡ true
          kept = by-kept (spares_entries world e.system e.choice) refl
            where
              by-kept : (b : Bool) → spares_entries world e.system e.choice ≡ b → b ≡ true
              by-kept true is = refl
              by-kept false is =
                  no_truth (takes_entries deck world e)
                  (and_from (removes_in_star deck world e) (not (spares_entries world e.system e.choice)) on
                  (ap not is))
                  none

          all : have_changed world.medium.removed 0 world.nodes ≡ true
          all = by-choice e.choice kept
            where
              by-choice : (choice : Choice) → spares_entries world e.system choice ≡ true
                  → have_changed world.medium.removed 0 world.nodes ≡ true
              by-choice (choices.Purge target) h =
                  (and_parts (not (manages_any world.medium.words target))
                  (have_changed world.medium.removed 0 world.nodes)
                  (and_parts (not (e.system.0 == target.0))
                  (not (manages_any world.medium.words target) && have_changed world.medium.removed 0 world.nodes)
                  h).1).1
              by-choice (choices.Task t) h = no_truth true refl (sym h)
              by-choice choices.Turn h = no_truth true refl (sym h)
              by-choice choices.Switch h = no_truth true refl (sym h)
              by-choice (choices.Send t) h = no_truth true refl (sym h)
              by-choice choices.Take h = no_truth true refl (sym h)
              by-choice choices.Settle h = no_truth true refl (sym h)
              by-choice (choices.Tell x) h = no_truth true refl (sym h)
              by-choice (choices.Part x) h = no_truth true refl (sym h)
              by-choice (choices.Leave x) h = no_truth true refl (sym h)
              by-choice choices.Rest h = no_truth true refl (sym h)

      go : (b : Bool) → removes_in_star deck world e ≡ b → GoodLoss deck (es ++ e ∷ []) (happens deck world e)
      go false off = has_spared (none_push deck es e spared off) (next_good deck fits es e off good)
      go true on = first on good

-- ---- every such list of events
pub every_loss : (deck : Deck) → (may_be_star deck ≡ true → FitsStar deck) → (es : List Event)
    → NoneTakesEntries deck es → GoodLoss deck es (run deck es)
every_loss deck fits =
    each_kept_entries deck (GoodLoss deck) (has_spared refl (first_run deck fits))
    (λ es e none g. next_loss deck fits es e (takes-next deck es e none) g)

pub loss_history : (deck : Deck) (es : List Event) (w : World) → GoodLoss deck es w → IsHistory deck (items w.fixed)
loss_history deck es w (has_spared spared good) = good_history deck es w good
loss_history deck es w (has_lost f g told d rest) = g.whole.right

pub loss_told : (deck : Deck) (es : List Event) (w : World) → GoodLoss deck es w → GoodTold deck es w
loss_told deck es w (has_spared spared good) = good_told deck es w good
loss_told deck es w (has_lost f g told d rest) = told

pub losses_sound : (deck : Deck) → (may_be_star deck ≡ true → FitsStar deck) → OrdersFit deck → (es : List Event)
    → NoneTakesEntries deck es → Sound deck es
losses_sound deck fits fit es none =
    let here = every_loss deck fits es none in
    sound-of deck fit es
    (λ k s n at alive. homes_run deck (take k es) s n at)
    (loss_history deck es (run deck es) here) (loss_told deck es (run deck es) here)
