-- Ranks by the events in which a system mails control to a new owner, and a request to a manager.
use Rattle.grs_world.proofs.Common.{[], ◌<◌, ◌∙◌, ◌≡◌, ◌≢◌, after_telling, ap, arith, Asked, Deck, entry_wanted}
use Rattle.grs_world.proofs.Common.{Granted, is_task, length, List, list_of, lists, ManagerView, NodeState, refl}
use Rattle.grs_world.proofs.Common.{request_of, Res, same_Some, Some, StarPart, subst, sym, SysId, TaskId, true}
use Rattle.grs_world.proofs.Common.{Turnout, with_mail, with_phase, World, ℕ}
use Rattle.grs_wire.specs.declared.medium.Mail.TheVariants.{Request}
use Rattle.grs_world.proofs.star.ranks.Carried.{CarriesRank, has_this_rank, telling-all}
use Rattle.grs_world.proofs.star.ranks.Ranked.{StaysRanked, shown-calm}
use Rattle.grs_world.proofs.star.ranks.Shows.{gentle-stay, same-stay}
use Rattle.grs_world.proofs.run.Site.{Site, site-below}
use Rattle.grs_world.proofs.star.Boxes.{other-box}
use Rattle.grs_world.proofs.star.Worlds.{IsWhole, are_live, items-none, live-below}
use Rattle.grs_world.proofs.star.hearing.Gentle.{gentle-none, phase-records}
use Rattle.grs_world.proofs.star.hearing.Passing.{box-grown}
use Rattle.task_state.specs.declared.state.Phase.TheVariants as phases

module _ (deck : Deck) (w : World) (g : IsWhole deck w) (c : SysId) (n : NodeState) (at : Site w c.0 n) where
  -- ---- a new owner is told
  module _ (p : StarPart) (star : n.star ≡ Some p) (t : TaskId) (r : Res) (apart : t.system.0 ≢ c.0)
      (inside : t.system.0 < length w.nodes) (flags : ℕ) where
    abbrev told_part : StarPart
    told_part = record p { manager = after_telling p.manager t r }

    abbrev telling : Turnout
    telling = record {
      medium = record w.medium { inboxes = with_mail w.medium.inboxes t.system.0 (Granted t r); rest = flags };
      step = record {
        node = record n { tasks = n.tasks; star = Some (record p { manager = after_telling p.manager t r }) };
        fixed = [];
      };
    }

    told-there : t.system.0 < length w.medium.inboxes
    told-there = omega (arith, inside, g.roles.systems, g.roles.inboxes)

    pub ranked-told : StaysRanked deck w c n telling
    ranked-told sent had heard =
        shown-calm deck w g c n at telling refl
        (λ u ne. box-grown deck w.medium.inboxes t.system.0 (Granted t r) told-there tt u)
        (other-box w.medium.inboxes t.system.0 (Granted t r) c.0 (λ e. apart (sym e)))
        (gentle-stay n.tasks n.tasks (gentle-none n.tasks))
        (λ q wide. ap (λ T. list_of (lists T) q) (items-none w.fixed c))
        (λ x x' is is' u q k h.
        subst (λ (z : StarPart). CarriesRank q u k z.manager) (same_Some told_part x' is')
        (telling-all (has_this_rank q u k) (λ b y. refl) (λ y. refl) p.manager t r
        (subst (λ (z : StarPart). CarriesRank q u k z.manager) (same_Some x p (sym is ∙ star)) h)))

  -- ---- a request is sent
  module _ (words : List ℕ) (flags : ℕ) (t : TaskId) (here : is_task n.tasks t ≡ true) (a : Asked) (entry : ℕ)
      (of_entry : entry_wanted deck.entries a.req.want ≡ Some entry) (s : SysId) (apart : s.0 ≢ c.0)
      (lives : are_live w s.0 ≡ true) (p p' : StarPart) (star : n.star ≡ Some p)
      (manager : p'.manager ≡ p.manager) where
    abbrev sending : Turnout
    sending = record {
      medium =
          record w.medium {
            words = words;
            inboxes = with_mail w.medium.inboxes s.0 (Request entry c (request_of t a));
            rest = flags;
          };
      step = record { node = record n { tasks = with_phase n.tasks t phases.Sent; star = Some p' }; fixed = [] };
    }

    sent-there : s.0 < length w.medium.inboxes
    sent-there =
        let inside = (live-below w s.0 lives).0 in omega (arith, inside, g.roles.systems, g.roles.inboxes)

    known_system : c.0 < length deck.systems
    known_system = let there = site-below w c.0 n at in omega (arith, there, g.roles.systems)

    pub ranked-sent : StaysRanked deck w c n sending
    ranked-sent sent had heard =
        shown-calm deck w g c n at sending refl
        (λ u ne.
        box-grown deck w.medium.inboxes s.0 (Request entry c (request_of t a)) sent-there (of_entry, known_system) u)
        (other-box w.medium.inboxes s.0 (Request entry c (request_of t a)) c.0 (λ e. apart (sym e)))
        (same-stay n.tasks (with_phase n.tasks t phases.Sent) (phase-records n.tasks t phases.Sent here))
        (λ q wide. ap (λ T. list_of (lists T) q) (items-none w.fixed c))
        (λ x x' is is' u q k h.
        subst (λ (z : StarPart). CarriesRank q u k z.manager) (same_Some p' x' is')
        (subst (λ (z : ManagerView). CarriesRank q u k z) (sym manager)
        (subst (λ (z : StarPart). CarriesRank q u k z.manager) (same_Some x p (sym is ∙ star)) h)))
