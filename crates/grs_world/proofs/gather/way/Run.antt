-- So it is in every run of a complex that begins in star mode, whichever systems are removed.
use Rattle.grs_world.proofs.Common.{[], ◌<◌, ◌==◌, ◌∙◌, ◌∷◌, ◌≡◌, and_parts, ap, arith, awake, Bool, Choice, chosen}
use Rattle.grs_world.proofs.Common.{cond, Deck, desk_told, entries_some, eq-eqb, eqb-true, Event, false, false_by}
use Rattle.grs_world.proofs.Common.{filter, first_node, first_part, first_world, FitsStar, Gathering, get_or, has}
use Rattle.grs_world.proofs.Common.{inbox, inbox_of, inl, inr, is_interested, is_manager, is_some, known_from, length}
use Rattle.grs_world.proofs.Common.{lines_of, List, lose_all, losing, losing_in, Mail, Managed, manager, manager_at}
use Rattle.grs_world.proofs.Common.{manages, members, most_systems, Moved, names_of, nat_lt, no_truth, NodeState, None}
use Rattle.grs_world.proofs.Common.{not, noticed, only, Option, prepare, refl, replicate, run, Said, same_Some}
use Rattle.grs_world.proofs.Common.{slice_get, Some, stale, standing, StarPart, stays-task, subst, suc, sym, SysId}
use Rattle.grs_world.proofs.Common.{systems_of, take_mail, true, Turnout, unwrap_or, with_star, without_first}
use Rattle.grs_world.proofs.Common.{without_those, World, zero, ℕ}
use Rattle.std.specs.Prelude.{◌^◌}
use Rattle.grs_wire.proofs.MaskLaws.{has-without_all}
use Rattle.grs_wire.specs.Notices.{names}
use Rattle.grs_world.proofs.at_rest.Sized.{sized_run}
use Rattle.grs_world.proofs.gather.Notices.{fit_run}
use Rattle.grs_world.proofs.gather.way.Acting.{Acting}
use Rattle.grs_world.proofs.gather.way.Acts.{began-then, decided-then, left-then, same-then, sent-then, settled-then}
use Rattle.grs_world.proofs.gather.way.Acts.{told-then}
use Rattle.grs_world.proofs.gather.way.Boxes.{early}
use Rattle.grs_world.proofs.gather.way.Entry.{IsAt, IsBare, IsEntry, IsNamed, at, bare-entry, is_there, none-some}
use Rattle.grs_world.proofs.gather.way.Entry.{there-is}
use Rattle.grs_world.proofs.gather.way.Gets.{other-taken, part-taken}
use Rattle.grs_world.proofs.gather.way.Knows.{knows-all, leave-clear}
use Rattle.grs_world.proofs.gather.way.Parts.{part_run}
use Rattle.grs_world.proofs.gather.way.Purges.{purged-then}
use Rattle.grs_world.proofs.gather.way.Scene.{BoxStays, box-same, entry_in, live-entry, stands, stays-then}
use Rattle.grs_world.proofs.gather.way.Sends.{part-sent}
use Rattle.grs_world.proofs.gather.way.Steps.{Keeps, all-lost, keeps-same, members-off}
use Rattle.grs_world.proofs.gather.way.Takes.{notice-earlier, notice-last, notice-quiet}
use Rattle.grs_world.proofs.run.Came.{Acts, Came, Result, no_part, result_of}
use Rattle.grs_world.proofs.run.Chosen.{came}
use Rattle.grs_world.proofs.run.Each.{each_live, each_run}
use Rattle.grs_world.proofs.run.GoesOn.{as_many}
use Rattle.grs_world.proofs.run.Knowing.{KnowsRemoved, known_run}
use Rattle.grs_world.proofs.run.Laps.{goes_on}
use Rattle.grs_world.proofs.run.Placed.{of_world, world_then}
use Rattle.grs_world.proofs.run.First.{first_of}
use Rattle.grs_world.proofs.run.Site.{at_site}
use Rattle.grs_world.proofs.star.Members.{managed-is}
use Rattle.grs_world.proofs.star.Sound.{no_mail}
use Rattle.grs_world.specs.OnTheWay.{IsRole, PartIs, PartsAreOnTheWay, RolesGoByWords, Stance, stance_at, stance_of}
use Rattle.grs_wire.specs.declared.deck.Choice.TheVariants as choices
use Rattle.grs_wire.specs.declared.medium.Mail.TheVariants as mails
use Rattle.grs_wire.specs.declared.medium.Reply.TheVariants as replies
use Rattle.grs_wire.specs.declared.told.Said.TheVariants as saids
use Rattle.grs_world.proofs.run.Came as any

-- ---- at the start nobody manages anything
zero-word : (k e : ℕ) → get_or (replicate {A = ℕ} k 0) e 0 ≡ 0
zero-word zero e = refl
zero-word (suc k) zero = refl
zero-word (suc k) (suc e) = zero-word k e

none-in : {X : Type 0} (k e : ℕ) → unwrap_or (slice_get (replicate {A = Option X} k None) e) None ≡ None
none-in zero e = refl
none-in (suc k) zero = refl
none-in (suc k) (suc e) = none-in k e

module _ (deck : Deck) (star : deck.star ≡ true) (e : ℕ) where
  nobody : manager_at (first_world deck).medium.words e ≡ None
  unfolding first_world manager
  nobody = ap manager (zero-word deck.entries e)

  first-of-system : (s : ℕ) (p : StarPart) → (first_node deck s).star ≡ Some p
      → p ≡ first_part (record { 0 = s }) deck.entries
  unfolding first_node
  first-of-system s p is =
      sym (same_Some (first_part (record { 0 = s }) deck.entries) p
      (sym (ap (λ b. cond b (Some (first_part (record { 0 = s }) deck.entries)) None) star) ∙ is))

  empty : (s : ℕ) → inbox (first_world deck).medium s ≡ []
  unfolding first_world
  empty s = no_mail (length deck.systems) s

  first-bare : (s : ℕ) (S : Stance) → stance_at (first_world deck) e s ≡ Some S
      → IsBare (entry_in (first_world deck) e) s S
  first-bare s S h =
      let z = stands (first_world deck) e s S h in
      let p : z.part ≡ first_part (record { 0 = s }) deck.entries =
      first-of-system s z.part (ap (λ (n : NodeState). n.star) (sym (first_of deck s z.node z.site.at)) ∙ z.star) in
      subst (IsBare (entry_in (first_world deck) e) s)
      (ap (λ (q : StarPart). stance_of e q []) (sym p)
      ∙ (ap (stance_of e z.part) (sym (empty s)) ∙ z.is))
      (record {
        notice = refl;
        gathering = none-in deck.entries e;
        owes = none-in deck.entries e;
        coming = λ u ne there. refl;
        manages = λ mine. no_truth _ mine (ap is_some (none-in {X = Managed} deck.entries e));
        named = λ named. none-some (manager_at (first_world deck).medium.words e) (at s) named nobody;
      })

  pub first-entry : IsEntry (entry_in (first_world deck) e)
  first-entry =
      bare-entry (entry_in (first_world deck) e) (live-entry (first_world deck) e) first-bare
      (λ s u S h none. ap (early e u) (empty s))

-- ---- one event
module _ (deck : Deck) (some : 0 < deck.entries) (w : World) (c : SysId) (n : NodeState)
    (p : StarPart) (a : Acting deck w c n p)
    (around : systems_of w.medium ≡ length deck.systems) (known : KnowsRemoved w.medium n)
    (J : (e : ℕ) → e < deck.entries → IsEntry (entry_in w e)) where
  abbrev Then : Turnout → Type 0
  Then o = (e : ℕ) → e < deck.entries → IsEntry (entry_in (world_then w c n o) e)

  -- the part stays, and so do words and mail
  calm : (o : Turnout) → o.medium.removed ≡ w.medium.removed → o.medium.words ≡ w.medium.words
      → o.medium.inboxes ≡ w.medium.inboxes → o.step.node.star ≡ Some p → Then o
  calm o removed words boxes star e inside =
      same-then deck some w c n p a J o removed p star e inside (ap (λ ws. manager_at ws e) words)
      (λ s S live is h. inl (ap (λ ws. is_interested ws e s) words ∙ h))
      (λ s live.
      subst
      (λ bs.
      BoxStays (is_there (entry_in (world_then w c n o) e)) s e (inbox w.medium s) (inbox_of bs s))
      (sym boxes) (box-same (is_there (entry_in (world_then w c n o) e)) s e (inbox w.medium s)))
      refl refl refl

  -- its desk says nothing of it
  desk-star : (said : Said) → (desk_told n said).star ≡ Some p
  unfolding desk_told
  desk-star said = a.star

  -- it is told who was removed: none of them is there
  told-stale : Then (record { medium = w.medium; step = only (stale deck n w.medium.removed) })
  unfolding stale losing
  told-stale e inside =
      stays-then w e c n a.site (record { medium = w.medium; step = only (stale deck n w.medium.removed) }) (λ u h. h) p
      a.star (J e inside) refl (λ s S live is h. inl h) (λ s live. box-same _ s e (inbox w.medium s))
      (lose_all (names_of deck n.tasks.system) (standing n.tasks p)
      (members (without_those n.known (known_from deck n.known w.medium.removed)))).part
      (ap (λ (q : Option StarPart).
      (losing_in deck (record n { known = known_from deck n.known w.medium.removed }) q
      (members (without_those n.known (known_from deck n.known w.medium.removed)))).star)
      a.star)
      keeps.owes keeps.role
    where
      by-set : (u : ℕ) → (b : Bool) → has (cond b w.medium.removed n.known) u ≡ true → has w.medium.removed u ≡ true
      by-set u true h = h
      by-set u false h = known u h

      keeps :
          Keeps
          (is_there
          (entry_in (world_then w c n (record { medium = w.medium; step = only (stale deck n w.medium.removed) })) e))
          c.0 e (length p.manager.entries) p
          (lose_all (names_of deck n.tasks.system) (standing n.tasks p)
          (members (without_those n.known (known_from deck n.known w.medium.removed)))).part
      keeps =
          all-lost _ c.0 e (length p.manager.entries) p (names_of deck n.tasks.system) (standing n.tasks p)
          (members (without_those n.known (known_from deck n.known w.medium.removed)))
          (members-off _ c.0 e (without_those n.known (known_from deck n.known w.medium.removed))
          (λ s low h u there.
          let T =
          there-is
          (entry_in (world_then w c n (record { medium = w.medium; step = only (stale deck n w.medium.removed) })) e) u
          there in
          false_by (s == u) (λ same.
          no_truth (has w.medium.removed u)
          (ap (has w.medium.removed) (sym (eqb-true s u same))
          ∙ by-set s (nat_lt w.medium.removed (2 ^ length deck.systems))
          (and_parts (has (known_from deck n.known w.medium.removed) s) (not (has n.known s))
          (sym (has-without_all most_systems n.known (known_from deck n.known w.medium.removed) s low) ∙ h)).0)
          (live-entry (world_then w c n (record { medium = w.medium; step = only (stale deck n w.medium.removed) })) e u
          T.0 T.1)))
          most_systems (omega arith))
          (keeps-same _ c.0 e p)

  -- it acts
  acts-then : (choice : Choice) (b : Result) (o : Turnout) → b ≡ result_of w.medium c (prepare deck n choice)
      → Acts deck w.medium c n p choice b o → Then o
  acts-then choice b o was (any.decided t q x asked to at same) e inside =
      decided-then deck some w c n p a J t q x asked to at same was e inside
  acts-then choice b o was (any.began t q x asked none) e inside =
      began-then deck some w c n p a J t q x asked none e inside
  acts-then choice b o was (any.sent t q x asked to at apart) e inside =
      sent-then deck some w c n p a J t q x asked to at e inside
  acts-then choice b o was (any.took mail rest at) e inside =
      by-mail mail at (knows-all w.medium c deck n choices.Take (replies.Taken mail) refl was)
    where
      by-last : (target : SysId) (moved : List Moved) (at : inbox w.medium c.0 ≡ mails.Notice target moved ∷ rest)
          (knows : n.known ≡ w.medium.removed) → names e (mails.Notice target moved) ≡ true → (d : Bool)
          → noticed e rest ≡ d →
          IsEntry (entry_in (world_then w c n (record {
            medium = record w.medium { inboxes = without_first w.medium.inboxes c.0; rest = awake w.medium c };
            step = with_star n (take_mail deck n.known n.tasks p (mails.Notice target moved));
          })) e)
      by-last target moved at knows here true later =
          notice-earlier deck w c n p a knows target moved rest at e inside (J e inside) here later
      by-last target moved at knows here false last =
          notice-last deck w c n p a knows target moved rest at e inside (J e inside) here last

      by-names : (target : SysId) (moved : List Moved) (at : inbox w.medium c.0 ≡ mails.Notice target moved ∷ rest)
          (knows : n.known ≡ w.medium.removed) → (d : Bool) → names e (mails.Notice target moved) ≡ d →
          IsEntry (entry_in (world_then w c n (record {
            medium = record w.medium { inboxes = without_first w.medium.inboxes c.0; rest = awake w.medium c };
            step = with_star n (take_mail deck n.known n.tasks p (mails.Notice target moved));
          })) e)
      by-names target moved at knows true here = by-last target moved at knows here (noticed e rest) refl
      by-names target moved at knows false away =
          notice-quiet deck w c n p a knows target moved rest at e inside (J e inside) away

      by-mail : (y : Mail) → inbox w.medium c.0 ≡ y ∷ rest → n.known ≡ w.medium.removed →
          IsEntry (entry_in (world_then w c n (record {
            medium = record w.medium { inboxes = without_first w.medium.inboxes c.0; rest = awake w.medium c };
            step = with_star n (take_mail deck n.known n.tasks p y);
          })) e)
      by-mail (mails.Request f from q) at knows =
          other-taken deck w c n p a knows (mails.Request f from q) rest at e inside (J e inside) tt
      by-mail (mails.Answered t answer rank) at knows =
          other-taken deck w c n p a knows (mails.Answered t answer rank) rest at e inside (J e inside) tt
      by-mail (mails.Granted t r) at knows =
          other-taken deck w c n p a knows (mails.Granted t r) rest at e inside (J e inside) tt
      by-mail (mails.Notice target moved) at knows =
          by-names target moved at knows (names e (mails.Notice target moved)) refl
      by-mail (mails.Part f from recs) at knows =
          part-taken deck w c n p a knows f from recs rest at e inside (J e inside)
  acts-then choice b o was (any.settled q first) e inside = settled-then deck some w c n p a J q e inside
  acts-then choice b o was (any.told f x first) e inside = told-then deck some w c n p a J x e inside
  acts-then choice b o was (any.parted f to owes unknown) e inside =
      part-sent deck w c n p a (knows-all w.medium c deck n (choices.Part f) replies.Told refl was) f to owes unknown e
      inside (J e inside)
  acts-then choice b o was (any.left x flags may is) e inside =
      left-then deck some w c n p a J x flags may is
      (leave-clear w.medium c deck n p a.star a.site.live x may was) e inside

  came-then : (choice : Choice) (b : Result) (o : Turnout) → b ≡ result_of w.medium c (prepare deck n choice)
      → Came deck w.medium c n choice b o → Then o
  came-then choice b o was (any.nothing k r silent flags) = calm o refl refl refl a.star
  came-then choice b o was (any.informed k) = told-stale
  came-then choice b o was (any.went_on t may) =
      calm o refl refl refl ((stays-task deck.limit n t (lines_of deck t)).star ∙ a.star)
  came-then choice b o was (any.turn flags alone unclosed here) = no_part n p a.star alone
  came-then choice b o was (any.last_turn flags alone shut here) = no_part n p a.star alone
  came-then choice b o was (any.changed ring next seen) = no_truth w.medium.star a.fit.mode ring
  came-then choice b o was (any.already mode next) = calm o refl refl refl (desk-star saids.StarAlready)
  came-then choice b o was (any.removes_one target ring next lives) = no_truth w.medium.star a.fit.mode ring
  came-then choice b o was (any.removes_star target mode next lives) =
      λ e inside. purged-then deck w c n p a around target e inside (J e inside)
  came-then choice b o was (any.no_such target next gone) = calm o refl refl refl (desk-star saids.VaryNoSuch)
  came-then choice b o was (any.acted q is k r x acts) =
      acts-then k r x was
      (subst (λ (z : StarPart). Acts deck w.medium c n z k r x) (same_Some q p (sym is ∙ a.star)) acts)

-- ---- every run
module _ (deck : Deck) (star : deck.star ≡ true) (fits : FitsStar deck) where
  pub entries_run : (es : List Event) (e : ℕ) → e < deck.entries → IsEntry (entry_in (run deck es) e)
  entries_run =
      each_run deck (λ es (w : World). (e : ℕ) → e < deck.entries → IsEntry (entry_in w e))
      (λ e inside. first-entry deck star e)
      (λ es ev h.
      each_live deck (run deck es) ev (λ (w : World). (e : ℕ) → e < deck.entries → IsEntry (entry_in w e)) h
      (λ n at alive.
      let part = part_run deck star es ev.system.0 n at in
      of_world (run deck es) ev.system n (chosen deck (run deck es).medium ev.system n ev.choice)
      (λ (w : World). (e : ℕ) → e < deck.entries → IsEntry (entry_in w e))
      (came-then deck (entries_some deck.entries fits.entries) (run deck es) ev.system n part.part
      (record {
        star = part.star;
        site = at_site at alive;
        few = fits.few;
        count = as_many deck es;
        sized = sized_run deck es ev.system.0 n at part.part part.star;
        part = part.fits;
        fit = fit_run deck star fits.few (entries_some deck.entries fits.entries) es;
      })
      (goes_on deck es).around (known_run deck es ev.system.0 n at) h ev.choice
      (result_of (run deck es).medium ev.system (prepare deck n ev.choice)) _ refl
      (came deck (run deck es).medium ev.system n alive ev.choice))))

  pub parts_run : (es : List Event) → PartsAreOnTheWay deck es
  parts_run es e m u M U inside named apart at_m at_u =
      (entries_run es e inside).way m.0 u.0 M U apart named at_m at_u

  pub roles_run : (es : List Event) → RolesGoByWords deck es
  roles_run es e s S inside is = go (is_manager (manager_at (run deck es).medium.words e) s) refl
    where
      j : IsAt (entry_in (run deck es) e) s.0 S
      j = (entries_run es e inside).each s.0 S is

      idle : S.gathering ≡ None → S.notice ≡ None → S.manages ≡ true → IsRole true S
      idle gathering notice mine =
          ap (λ b. length (filter (λ d. d) (b ∷ is_some S.gathering ∷ is_some S.notice ∷ []))) mine
          ∙ (ap (λ (o : Option Gathering). length (filter (λ d. d) (true ∷ is_some o ∷ is_some S.notice ∷ [])))
          gathering
          ∙ ap (λ (o : Option Moved). length (filter (λ d. d) (true ∷ false ∷ is_some o ∷ []))) notice)

      by-named : IsNamed S → IsRole true S
      by-named (inl mine) = let z = j.manages mine in idle z.1 z.2 mine
      by-named (inr (inl g)) =
          let off : S.manages ≡ false =
          false_by S.manages (λ mine. none-some S.gathering g.0 g.1 (j.manages mine).1) in
          ap (λ b. length (filter (λ d. d) (b ∷ is_some S.gathering ∷ is_some S.notice ∷ []))) off
          ∙ (ap (λ (o : Option Gathering). length (filter (λ d. d) (false ∷ is_some o ∷ is_some S.notice ∷ []))) g.1
          ∙ ap (λ (o : Option Moved). length (filter (λ d. d) (false ∷ true ∷ is_some o ∷ []))) (j.gathers g.0 g.1).1)
      by-named (inr (inr x)) =
          let off : S.manages ≡ false =
          false_by S.manages (λ mine. none-some S.notice x.0 x.1 (j.manages mine).2) in
          ap (λ b. length (filter (λ d. d) (b ∷ is_some S.gathering ∷ is_some S.notice ∷ []))) off
          ∙ (ap (λ (o : Option Gathering). length (filter (λ d. d) (false ∷ is_some o ∷ is_some S.notice ∷ [])))
          (no-gathering S.gathering refl)
          ∙ ap (λ (o : Option Moved). length (filter (λ d. d) (false ∷ false ∷ is_some o ∷ []))) x.1)
        where
          no-gathering : (o : Option Gathering) → S.gathering ≡ o → S.gathering ≡ None
          no-gathering None e = e
          no-gathering (Some g) e = none-some S.notice x.0 x.1 (j.gathers g e).1

      unnamed : is_manager (manager_at (run deck es).medium.words e) s ≡ false
          → {X : Type 0} → manager_at (run deck es).medium.words e ≡ Some (at s.0) → X
      unnamed off {X} is_s =
          no_truth (is_manager (manager_at (run deck es).medium.words e) s)
          (ap (λ o. is_manager o s) is_s ∙ eq-eqb s.0 s.0 refl) off

      go : (b : Bool) → is_manager (manager_at (run deck es).medium.words e) s ≡ b → IsRole b S
      go true mine =
          by-named (j.named
          (managed-is (run deck es).medium.words e s.0 (manager_at (run deck es).medium.words e) refl mine))
      go false other = (
        false_by S.manages (λ mine. unnamed other (j.manages mine).0),
        no-one S.gathering refl,
      )
        where
          no-one : (o : Option Gathering) → S.gathering ≡ o → S.gathering ≡ None
          no-one None e = e
          no-one (Some g) e = unnamed other (j.gathers g e).0
