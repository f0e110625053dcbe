-- So it is in every run of a complex that begins in star mode, whichever systems are removed.
use Rattle.grs_world.proofs.Common.{[], ◌++◌, ◌<◌, ◌∙◌, ◌∷◌, ◌≡◌, answer_for, ap, arith, Bool, Choice, chosen, cond}
use Rattle.grs_world.proofs.Common.{counted, decide_own, Deck, desk_told, entries_some, Event, first_node, first_part}
use Rattle.grs_world.proofs.Common.{first_world, FitsStar, has, inbox, length, lines_of, List, Mail, no_truth}
use Rattle.grs_world.proofs.Common.{NodeState, None, prepare, rank_of, refl, Req, request_of, run, Said, same_Some}
use Rattle.grs_world.proofs.Common.{slice_get, Some, StarPart, stays-task, subst, sym, SysId, systems_of, true, Turnout}
use Rattle.grs_world.proofs.Common.{World, ℕ}
use Rattle.grs_world.proofs.at_rest.Homes.{homes_run}
use Rattle.grs_world.proofs.at_rest.Sized.{sized_run}
use Rattle.grs_world.proofs.gather.Notices.{fit_run}
use Rattle.grs_world.proofs.gather.once.Acts.{began-once, decided-once, left-once, parted-once, sent-once, settled-once}
use Rattle.grs_world.proofs.gather.once.Acts.{stays-sent, still-once, told-once}
use Rattle.grs_world.proofs.gather.once.Lists.{fewer-besides, fewer-same, in-place}
use Rattle.grs_node.specs.Star.{may_settle}
use Rattle.grs_world.proofs.gather.once.Ready.{AllBehind, AreReady, IsQuiet, posted-ready, still-ready, taken-ready}
use Rattle.grs_world.proofs.gather.once.Removes.{removed-once, removed-ready, told-once as informed-once}
use Rattle.grs_world.proofs.gather.once.Removes.{told-ready as informed-ready}
use Rattle.grs_world.proofs.gather.once.Hushed.{came-silent}
use Rattle.grs_world.proofs.gather.once.Silent.{AreSilent}
use Rattle.grs_world.proofs.gather.once.Step.{AreOnce}
use Rattle.grs_world.proofs.gather.way.Run.{entries_run}
use Rattle.grs_world.proofs.gather.way.Scene.{stands}
use Rattle.grs_world.specs.OnTheWay.{Stance}
use Rattle.grs_world.proofs.gather.once.Takes.{taken-once}
use Rattle.grs_world.proofs.gather.way.Acting.{Acting}
use Rattle.grs_world.proofs.gather.way.Knows.{sent-clear}
use Rattle.grs_world.proofs.gather.way.Parts.{part_run}
use Rattle.grs_world.proofs.run.Came.{Acts, Came, no_part, Result, result_of}
use Rattle.grs_world.proofs.run.Chosen.{came}
use Rattle.grs_world.proofs.run.Each.{each_live, each_run}
use Rattle.grs_world.proofs.run.First.{first_of}
use Rattle.grs_world.proofs.run.GoesOn.{as_many}
use Rattle.grs_world.proofs.run.Laps.{goes_on}
use Rattle.grs_world.proofs.run.Placed.{of_world, world_then}
use Rattle.grs_world.proofs.run.Site.{at_site, Site}
use Rattle.grs_world.proofs.star.Sound.{no_mail}
use Rattle.grs_world.proofs.star.Worlds.{IsIn}
use Rattle.grs_world.specs.InHands.{AnswersAreNoticed, asked_by, in_hands, is_answer_to, Lives, RequestsSettleOnce}
use Rattle.std.specs.List.{list_any}
use Rattle.std.specs.Prelude.{◌≤◌, false}
use Rattle.grs_world.proofs.run.Came as any
use Rattle.grs_wire.specs.declared.deck.Choice.TheVariants as choices
use Rattle.grs_wire.specs.declared.medium.Mail.TheVariants as mails
use Rattle.grs_wire.specs.declared.medium.Reply.TheVariants as replies
use Rattle.grs_wire.specs.declared.told.Said.TheVariants as saids

-- ---- one event
module _ (deck : Deck) (some : 0 < deck.entries) (w : World) (c : SysId) (n : NodeState) (p : StarPart)
    (a : Acting deck w c n p) (home : n.tasks.system ≡ c.0) (around : systems_of w.medium ≡ length deck.systems)
    (J : AreOnce deck w) where
  abbrev Then : Turnout → Type 0
  Then o = AreOnce deck (world_then w c n o)

  desk-star : (said : Said) → (desk_told n said).star ≡ Some p
  unfolding desk_told
  desk-star said = a.star

  acts-then : (choice : Choice) (b : Result) (o : Turnout) → b ≡ result_of w.medium c (prepare deck n choice)
      → Acts deck w.medium c n p choice b o → Then o
  acts-then choice b o was (any.decided t x e asked to named same) =
      decided-once deck some w c n p a home J t x e asked to named same
  acts-then choice b o was (any.began t x e asked none) = began-once deck some w c n p a home J t x e asked none
  acts-then choice b o was (any.sent t x e asked to named apart) =
      sent-once deck some w c n p a home J t x e asked to named apart
      (sent-clear w.medium c deck n p a.star a.site.live t x e asked was)
  acts-then choice b o was (any.took mail rest front) = taken-once deck some w c n p a home J mail rest front
  acts-then choice b o was (any.settled q first) = settled-once deck some w c n p a home J q first
  acts-then choice b o was (any.told e x first) = told-once deck some w c n p a home J e x first
  acts-then choice b o was (any.parted e to owes unknown) = parted-once deck some w c n p a home J e to _
  acts-then choice b o was (any.left x flags may is) = left-once deck some w c n p a home J x flags may is

  came-then : (choice : Choice) (b : Result) (o : Turnout) → b ≡ result_of w.medium c (prepare deck n choice)
      → Came deck w.medium c n choice b o → Then o
  came-then choice b o was (any.nothing k r silent flags) =
      still-once deck some w c n p a home J o p a.star refl refl refl (λ t x sent asks. (sent, asks))
      (fewer-same p.held)
  came-then choice b o was (any.informed k) = informed-once deck some w c n p a home J k
  came-then choice b o was (any.went_on t may) =
      still-once deck some w c n p a home J o p ((stays-task deck.limit n t (lines_of deck t)).star ∙ a.star) refl refl
      refl
      (λ u x sent asks. stays-sent deck some w c n p a home J u x choice b o (any.went_on t may) refl sent asks)
      (fewer-same p.held)
  came-then choice b o was (any.turn flags alone unclosed here) = no_part n p a.star alone
  came-then choice b o was (any.last_turn flags alone shut here) = no_part n p a.star alone
  came-then choice b o was (any.changed ring next seen) = no_truth w.medium.star a.fit.mode ring
  came-then choice b o was (any.already mode next) =
      still-once deck some w c n p a home J o p (desk-star saids.StarAlready) refl refl refl
      (λ u x sent asks. stays-sent deck some w c n p a home J u x choice b o (any.already mode next) refl sent asks)
      (fewer-same p.held)
  came-then choice b o was (any.removes_one target ring next lives) = no_truth w.medium.star a.fit.mode ring
  came-then choice b o was (any.removes_star target mode next lives) =
      removed-once deck some w c n p a home J around target mode next lives
  came-then choice b o was (any.no_such target next gone) =
      still-once deck some w c n p a home J o p (desk-star saids.VaryNoSuch) refl refl refl
      (λ u x sent asks.
      stays-sent deck some w c n p a home J u x choice b o (any.no_such target next gone) refl sent asks)
      (fewer-same p.held)
  came-then choice b o was (any.acted q is k r x acts) =
      acts-then k r x was
      (subst (λ (z : StarPart). Acts deck w.medium c n z k r x) (same_Some q p (sym is ∙ a.star)) acts)

-- ---- no notice comes behind a request
module _ (deck : Deck) (some : 0 < deck.entries) (w : World) (c : SysId) (n : NodeState) (p : StarPart)
    (a : Acting deck w c n p) (home : n.tasks.system ≡ c.0) (around : systems_of w.medium ≡ length deck.systems)
    (J : AreOnce deck w) (G : AreReady deck w) where
  abbrev ReadyThen : Turnout → Type 0
  ReadyThen o = AreReady deck (world_then w c n o)

  acts-ready : (choice : Choice) (b : Result) (o : Turnout) → Acts deck w.medium c n p choice b o → ReadyThen o
  unfolding decide_own
  acts-ready choice b o (any.decided t x e asked to named same) =
      still-ready deck w c n p a.site a.star G o _ refl (λ u live. live) refl (fewer-same p.held)
  acts-ready choice b o (any.began t x e asked none) =
      still-ready deck w c n p a.site a.star G o _ refl (λ u live. live) refl (fewer-same p.held)
  acts-ready choice b o (any.sent t x e asked to named apart) =
      posted-ready deck w c n p a.site a.star G o _ refl (λ u live. live) to.0 (mails.Request e c (request_of t x)) refl
      (λ i. refl) (fewer-same p.held)
  acts-ready choice b o (any.took mail rest front) = taken-ready deck w c n p a G mail rest front
  acts-ready choice b o (any.settled q first) =
      posted-ready deck w c n p a.site a.star G o _ refl (λ u live. live) q.task.system.0
      (mails.Answered q.task (answer_for p q) (rank_of p q)) refl (λ i. refl) (fewer-besides (may_settle p) p.held)
  acts-ready choice b o (any.told e x first) =
      posted-ready deck w c n p a.site a.star G o _ refl (λ u live. live) x.0.system.0 (mails.Granted x.0 x.1) refl
      (λ i. refl) (fewer-same p.held)
  acts-ready choice b o (any.parted e to owes unknown) =
      posted-ready deck w c n p a.site a.star G o _ refl (λ u live. live) to.0 _ refl (λ i. refl) (fewer-same p.held)
  acts-ready choice b o (any.left x flags may is) =
      still-ready deck w c n p a.site a.star G o _ refl (λ u live. live) refl (fewer-same p.held)

  came-ready : (choice : Choice) (b : Result) (o : Turnout) → Came deck w.medium c n choice b o → ReadyThen o
  came-ready choice b o (any.nothing k r silent flags) =
      still-ready deck w c n p a.site a.star G o p a.star (λ u live. live) refl (fewer-same p.held)
  came-ready choice b o (any.informed k) = informed-ready deck some w c n p a home J G
  came-ready choice b o (any.went_on t may) =
      still-ready deck w c n p a.site a.star G o p ((stays-task deck.limit n t (lines_of deck t)).star ∙ a.star)
      (λ u live. live) refl (fewer-same p.held)
  came-ready choice b o (any.turn flags alone unclosed here) = no_part n p a.star alone
  came-ready choice b o (any.last_turn flags alone shut here) = no_part n p a.star alone
  came-ready choice b o (any.changed ring next seen) = no_truth w.medium.star a.fit.mode ring
  came-ready choice b o (any.already mode next) =
      still-ready deck w c n p a.site a.star G o p
      (desk-star deck some w c n p a home around J saids.StarAlready) (λ u live. live) refl (fewer-same p.held)
  came-ready choice b o (any.removes_one target ring next lives) = no_truth w.medium.star a.fit.mode ring
  came-ready choice b o (any.removes_star target mode next lives) =
      removed-ready deck some w c n p a home J around target mode next lives G
  came-ready choice b o (any.no_such target next gone) =
      still-ready deck w c n p a.site a.star G o p
      (desk-star deck some w c n p a home around J saids.VaryNoSuch) (λ u live. live) refl (fewer-same p.held)
  came-ready choice b o (any.acted q is k r x acts) =
      acts-ready k r x
      (subst (λ (z : StarPart). Acts deck w.medium c n z k r x) (same_Some q p (sym is ∙ a.star)) acts)

-- ---- the first world: nothing was sent
module _ (deck : Deck) where
  pub no-box : (s : ℕ) → inbox (first_world deck).medium s ≡ []
  unfolding first_world
  no-box s = no_mail (length deck.systems) s

  none-held : (s : ℕ) (p : StarPart) → (first_node deck s).star ≡ Some p → p.held ≡ []
  unfolding first_node
  none-held s p is = go deck.star is
    where
      go : (b : Bool) → cond b (Some (first_part (record { 0 = s }) deck.entries)) None ≡ Some p → p.held ≡ []
      go true k = ap (λ (z : StarPart). z.held) (sym (same_Some (first_part (record { 0 = s }) deck.entries) p k))
      go false k = absurd (cc)

  no-hands : (s : ℕ) (n : NodeState) (p : StarPart) → Site (first_world deck) s n → n.star ≡ Some p
      → in_hands p (inbox (first_world deck).medium s) ≡ []
  no-hands s n p site star =
      ap (λ (ms : List Mail). in_hands p ms) (no-box s)
      ∙ (ap (λ (qs : List Req). qs ++ [])
      (none-held s p (ap (λ (k : NodeState). k.star) (sym (first_of deck s n site.at)) ∙ star)))

  first-once : AreOnce deck (first_world deck)
  first-once = record {
    hands = λ m n p q k site star among there.
        absurd (subst (IsIn q) (no-hands m n p site star) among);
    single = λ m n p site star t.
        subst (λ qs. length (asked_by t qs) ≤ 1) (sym (no-hands m n p site star)) (omega arith);
    answers = λ t k there any.
        no_truth (list_any (is_answer_to t.task) (inbox (first_world deck).medium t.system.0)) any
        (ap (list_any (is_answer_to t.task)) (no-box t.system.0));
  }

  first-ready : AreReady deck (first_world deck)
  first-ready = record {
    held = λ m n p site star q among.
        absurd (subst (IsIn q) (none-held m p
        (ap (λ (k : NodeState). k.star) (sym (first_of deck m n site.at)) ∙ star)) among);
    mail = λ m n p site star.
        subst (λ (ms : List Mail). AllBehind (IsQuiet deck (first_world deck)) ms) (sym (no-box m)) tt;
  }

  first-silent : AreSilent deck (first_world deck)
  first-silent t k a e there any sent opened =
      no_truth (list_any (is_answer_to t.task) (inbox (first_world deck).medium t.system.0)) any
      (ap (list_any (is_answer_to t.task)) (no-box t.system.0))

-- an event that is only counted
counted-silent : (deck : Deck) (w : World) → AreSilent deck w → AreSilent deck (counted w)
counted-silent deck w h t k a e there any sent opened =
    h t k a e there any sent (record {
      m = opened.m;
      node = opened.node;
      part = opened.part;
      named = opened.named;
      site = opened.site;
      star = opened.star;
      off = opened.off;
    })

counted-ready : (deck : Deck) (w : World) → AreReady deck w → AreReady deck (counted w)
counted-ready deck w h = record { held = h.held; mail = h.mail }

counted-once : (deck : Deck) (w : World) → AreOnce deck w → AreOnce deck (counted w)
counted-once deck w h = record { hands = h.hands; single = h.single; answers = h.answers }

-- ---- every run
module _ (deck : Deck) (star : deck.star ≡ true) (fits : FitsStar deck) where
  pub acting : (es : List Event) (ev : Event) (n : NodeState) (at : slice_get (run deck es).nodes ev.system.0 ≡ Some n)
      → has (run deck es).medium.removed ev.system.0 ≡ false
      → Acting deck (run deck es) ev.system n (part_run deck star es ev.system.0 n at).part
  acting es ev n at alive = let part = part_run deck star es ev.system.0 n at in record {
    star = part.star;
    site = at_site at alive;
    few = fits.few;
    count = as_many deck es;
    sized = sized_run deck es ev.system.0 n at part.part part.star;
    part = part.fits;
    fit = fit_run deck star fits.few (entries_some deck.entries fits.entries) es;
  }

  pub once_run : (es : List Event) → AreOnce deck (run deck es)
  once_run =
      each_run deck (λ es (w : World). AreOnce deck w) (first-once deck)
      (λ es ev h.
      each_live deck (run deck es) ev (λ (w : World). AreOnce deck w) (counted-once deck (run deck es) h)
      (λ n at alive.
      of_world (run deck es) ev.system n (chosen deck (run deck es).medium ev.system n ev.choice)
      (λ (w : World). AreOnce deck w)
      (came-then deck (entries_some deck.entries fits.entries) (run deck es) ev.system n
      (part_run deck star es ev.system.0 n at).part (acting es ev n at alive) (homes_run deck es ev.system.0 n at)
      (goes_on deck es).around h ev.choice
      (result_of (run deck es).medium ev.system (prepare deck n ev.choice)) _ refl
      (came deck (run deck es).medium ev.system n alive ev.choice))))

  pub ready_run : (es : List Event) → AreReady deck (run deck es)
  ready_run =
      each_run deck (λ es (w : World). AreReady deck w) (first-ready deck)
      (λ es ev h.
      each_live deck (run deck es) ev (λ (w : World). AreReady deck w) (counted-ready deck (run deck es) h)
      (λ n at alive.
      of_world (run deck es) ev.system n (chosen deck (run deck es).medium ev.system n ev.choice)
      (λ (w : World). AreReady deck w)
      (came-ready deck (entries_some deck.entries fits.entries) (run deck es) ev.system n
      (part_run deck star es ev.system.0 n at).part (acting es ev n at alive) (homes_run deck es ev.system.0 n at)
      (goes_on deck es).around (once_run es) h ev.choice
      (result_of (run deck es).medium ev.system (prepare deck n ev.choice)) _
      (came deck (run deck es).medium ev.system n alive ev.choice))))

  pub settles_run : (es : List Event) → RequestsSettleOnce deck es
  settles_run es = record {
    hands = λ m n p i q k at_m star_p is at_k.
        (once_run es).hands m.0 n p q k (site at_m) star_p
        (in-place (in_hands p (inbox (run deck es).medium m.0)) i q is)
        (site at_k);
    single = λ m n p t at_m star_p. (once_run es).single m.0 n p (site at_m) star_p t;
    answers = λ t k at_k any. (once_run es).answers t k (site at_k) any;
  }
    where
      site : {s : ℕ} {n : NodeState} → Lives (run deck es) s n → Site (run deck es) s n
      site h = at_site h.at h.live

  silent_run : (es : List Event) → AreSilent deck (run deck es)
  silent_run =
      each_run deck (λ es (w : World). AreSilent deck w) (first-silent deck)
      (λ es ev h.
      each_live deck (run deck es) ev (λ (w : World). AreSilent deck w) (counted-silent deck (run deck es) h)
      (λ n at alive.
      of_world (run deck es) ev.system n (chosen deck (run deck es).medium ev.system n ev.choice)
      (λ (w : World). AreSilent deck w)
      (came-silent deck (entries_some deck.entries fits.entries) (run deck es) ev.system n
      (part_run deck star es ev.system.0 n at).part (acting es ev n at alive) (homes_run deck es ev.system.0 n at)
      (once_run es) (ready_run es) (entries_run deck star fits es) h (goes_on deck es).around ev.choice
      (result_of (run deck es).medium ev.system (prepare deck n ev.choice)) _
      (came deck (run deck es).medium ev.system n alive ev.choice))))

  pub noticed_run : (es : List Event) → AnswersAreNoticed deck es
  noticed_run es t k a e m M at_k any sent named is off =
      let z = stands (run deck es) e m.0 M is in
      silent_run es t k a e (at_site at_k.at at_k.live) any sent (record {
        m = m.0;
        node = z.node;
        part = z.part;
        named = named;
        site = z.site;
        star = z.star;
        off = ap (λ (S : Stance). S.manages) z.is ∙ off;
      })
