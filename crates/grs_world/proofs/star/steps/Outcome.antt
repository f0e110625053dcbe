-- What an event of one system comes to, where it changes neither words nor mail: a flag of rest, or the removed systems
-- that its system knows.
use Rattle.grs_world.proofs.Common.{[], ◌++◌, ◌∙◌, ◌≡◌, ap, Deck, fixed_by, history, inbox, inbox_of, items}
use Rattle.grs_world.proofs.Common.{MediumState, NodeState, only, placed, refl, Some, StarPart, still-told, subst, sym}
use Rattle.grs_world.proofs.Common.{SysId, Turnout, World, ℕ}
use Rattle.grs_world.proofs.star.Elements.{AreNear}
use Rattle.grs_world.proofs.star.Members.{IsStep, all_lists}
use Rattle.grs_world.proofs.star.Systems.{IsSystem, system-known}
use Rattle.grs_world.proofs.star.Worlds.{IsWhole, Hands, are_live, in_hands, items-none, whole-placed, StaysWhole}
use Rattle.grs_world.proofs.star.Worlds.{none_fixed}
use Rattle.grs_world.proofs.star.Heard.{StaysHeard}
use Rattle.grs_world.proofs.star.hearing.Gentle.{Gentle, gentle-none}
use Rattle.grs_world.proofs.star.hearing.Quiet.{heard-still}
use Rattle.grs_world.proofs.star.ranks.Quiet.{ranked-still}
use Rattle.grs_world.proofs.star.ranks.Ranked.{StaysRanked}
use Rattle.grs_world.proofs.run.Desks.{EventTells, tells_tasks}
use Rattle.grs_world.proofs.at_rest.StarTasks.{IsDated}
use Rattle.grs_world.proofs.run.Site.{Site}

-- The world stays whole, what the system tells agrees with the history, what is still to be heard stays so, ranks stay,
-- and the system's tasks stay up to date.
pub record IsOutcome (deck : Deck) (w : World) (g : IsWhole deck w) (c : SysId) (n : NodeState) (o : Turnout) :
    Type 0 where
  pub stays : StaysWhole deck w g c (placed w c n o)
  pub news :
      EventTells deck c (history (items (w.fixed ++ fixed_by c o.step.fixed))) o.step.fixed n o.step.node w.medium.star
      o.medium.star
  pub heard : IsWhole deck (placed w c n o) → StaysHeard deck w c n o
  pub ranked : IsWhole deck (placed w c n o) → StaysRanked deck w c n o
  pub dated : IsDated deck c.0 n → IsDated deck c.0 o.step.node

-- as far as it is a step of words, roles and lists
abbrev pub Comes : (deck : Deck) (w : World) → IsWhole deck w → SysId → NodeState → Turnout → Type 0
Comes deck w g c n o = IsStep deck w c n o → IsOutcome deck w g c n o

module _ (deck : Deck) (w : World) (g : IsWhole deck w) (c : SysId) (n : NodeState) (at : Site w c.0 n) where
  -- Nothing happens to words, mail and the system, whatever happens to the message and to flags of rest.
  pub outcome-still : (m : MediumState) → m.words ≡ w.medium.words → m.inboxes ≡ w.medium.inboxes → (k : NodeState)
      → k ≡ n → Comes deck w g c n (record { medium = m; step = record { node = k; fixed = [] } })
  outcome-still m words boxes k same step = record {
    stays =
        whole-placed deck w g c n at (record { medium = m; step = record { node = k; fixed = [] } }) step
        (items w.fixed) (items-none w.fixed c) g.later g.out (λ u ne. refl) none_fixed
        g.right
        (subst (λ ws. AreNear deck ws (all_lists w)) (sym words) g.near)
        (subst (λ (z : NodeState). IsSystem deck m.words (items w.fixed) c.0 z (inbox m c.0) (g.later c.0) (g.out c.0))
        (sym same) (system_at c.0 n at))
        (λ s j ne found. system_at s j found)
        (λ p star. hands_at c.0 n p at (ap (λ (z : NodeState). z.star) (sym same) ∙ star))
        (λ s j p ne found star. hands_at s j p found star);
    news =
        tells_tasks (still-told (ap (λ (z : NodeState). z.tasks.told) same)) (ap (λ (z : NodeState). z.done) same)
        (step.mode ∙ sym g.roles.mode);
    heard =
        heard-still deck w g c n at m boxes step.removed k
        (subst (λ (z : NodeState). Gentle n.tasks z.tasks) (sym same) (gentle-none n.tasks))
        (ap (λ (z : NodeState). z.star) same);
    ranked = λ g'.
        ranked-still deck w g c n at m boxes step.removed k
        (subst (λ (z : NodeState). Gentle n.tasks z.tasks) (sym same) (gentle-none n.tasks))
        (ap (λ (z : NodeState). z.star) same);
    dated = λ h. subst (IsDated deck c.0) (sym same) h;
  }
    where
      system_at : (s : ℕ) (j : NodeState) → Site w s j
          → IsSystem deck m.words (items w.fixed) s j (inbox m s) (g.later s) (g.out s)
      system_at s j found =
          subst (λ ws. IsSystem deck ws (items w.fixed) s j (inbox m s) (g.later s) (g.out s)) (sym words)
          (subst (λ bs. IsSystem deck w.medium.words (items w.fixed) s j (inbox_of bs s) (g.later s) (g.out s))
          (sym boxes) (g.system s j found))

      hands_at : (s : ℕ) (j : NodeState) (p : StarPart) → Site w s j
          → j.star ≡ Some p → Hands deck m.words (are_live w) g.later g.out s (in_hands p (inbox m s))
      hands_at s j p found star =
          subst (λ ws. Hands deck ws (are_live w) g.later g.out s (in_hands p (inbox m s))) (sym words)
          (subst (λ bs. Hands deck w.medium.words (are_live w) g.later g.out s (in_hands p (inbox_of bs s))) (sym boxes)
          (g.hands s j p found star))

  -- a system is told which were removed
  pub comes-known : (known : ℕ)
      → Comes deck w g c n (record { medium = w.medium; step = only (record n { known = known }) })
  comes-known known step = record {
    stays =
        whole-placed deck w g c n at (record { medium = w.medium; step = only (record n { known = known }) }) step
        (items w.fixed) (items-none w.fixed c) g.later g.out (λ u ne. refl) none_fixed
        g.right g.near (system-known deck w.medium.words (items w.fixed) c.0 n (inbox w.medium c.0) (g.later c.0)
        (g.out c.0) known (g.system c.0 n at))
        (λ s k ne found. g.system s k found) (λ p is. g.hands c.0 n p at is)
        (λ m k p ne found is. g.hands m k p found is);
    news = tells_tasks (still-told refl) refl refl;
    heard =
        heard-still deck w g c n at w.medium refl refl (record n { known = known }) (gentle-none n.tasks) refl;
    ranked = λ g'.
        ranked-still deck w g c n at w.medium refl refl (record n { known = known }) (gentle-none n.tasks) refl;
    dated = λ h. record { date = h.date; own = h.own };
  }

  -- nothing but a flag of rest
  pub comes-nothing : (flags : ℕ)
      → Comes deck w g c n (record { medium = record w.medium { rest = flags }; step = only n })
  comes-nothing flags = outcome-still (record w.medium { rest = flags }) refl refl n refl

  -- the part of the system
  abbrev pub part : StarPart
  part = (g.roles.node c.0 n at).part
