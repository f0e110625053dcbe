-- The part of a system in star mode that keeps nothing of another system u: no element in the lists that it manages,
-- and of no entry that it gathers a part of it, or the wish for one. What the loss of systems, and mail, leave of that.
use Rattle.grs_world.proofs.Common.{[], ◌<◌, ◌==◌, ◌||◌, ◌∙◌, ◌∷◌, ◌≡◌, ap, awaited, awaiting, Bool, by_test, eqb-true}
use Rattle.grs_world.proofs.Common.{false, false_by, gathering_at, has, is_news, length, List, list_any, lose}
use Rattle.grs_world.proofs.Common.{lose_each, most_systems, move_entry, Moved, no_truth, None, owing, part_of, PartRec}
use Rattle.grs_world.proofs.Common.{refl, Res, sent_again, Some, Standing, standing, StarPart, subst, SysId, take_up}
use Rattle.grs_world.proofs.Common.{take_up_all, TaskId, TasksView, tell_each, true, with_role, ℕ}
use Rattle.grs_node.specs.Removal.{installing, took_part}
use Rattle.system_purge.specs.Gathers.{parts_in, with_part_at}
use Rattle.system_purge.specs.Gather.{gathered}
use Rattle.contention_mgr.specs.Installs.{own_owners}
use Rattle.contention_mgr.specs.Loses.{gained}
use Rattle.grs_world.proofs.gather.Elements.{KeepsNone, gone-none, installed-none, losing-none}
use Rattle.grs_world.proofs.gather.Gathered.{AreFree, AreRight, awaiting-free, awaiting-right, came-free, came-right}
use Rattle.grs_world.proofs.gather.Gathered.{gathered-free, gone-all, losing-free, losing-right, taken-free}
use Rattle.grs_world.proofs.gather.Gathered.{taken-right}
use Rattle.grs_world.proofs.at_rest.Full.{size-control}
use Rattle.grs_world.proofs.run.Lost.{by-loss, by-part, tasks-each}

-- ---- a system's tasks and part
-- They are of this system, and each part that came has records of its sender's tasks; and nothing is kept of system u.
pub record IsOf (c : ℕ) (x : Standing) : Type 0 where
  pub home : x.tasks.system ≡ c
  pub right : AreRight x.part.gathers

pub record IsClean (c u : ℕ) (x : Standing) : Type 0 where
  pub of : IsOf c x
  pub lists : KeepsNone u x.part.manager
  pub parts : AreFree u x.part.gathers

-- telling control leaves whose tasks they are
module _ (c : ℕ) where
  home-told : (os : List (TaskId × Res)) (v : TasksView) → v.system ≡ c → (tell_each v os).system ≡ c
  home-told os v h =
      tasks-each (λ (z : TasksView). z.system ≡ c)
      (λ z r t k. ap (λ (n : ℕ × ℕ). n.0) (size-control z r t) ∙ k) os v h

  pub of-up : (names : List TaskId) (x : Standing) (e : ℕ) → IsOf c x → IsOf c (take_up names x e)
  of-up names x e h = record {
    home = home-told (own_owners (installing names x e) e) x.tasks h.home;
    right = taken-right x.part.gathers e h.right;
  }

  pub of-lost : (x : Standing) (s : SysId) → IsOf c x → IsOf c (lose x s)
  of-lost x s h = record {
    home = home-told (gained x.part.manager s) x.tasks h.home;
    right = losing-right x.part.gathers s h.right;
  }

  -- mail leaves it so, whatever was removed
  pub of-moved : (known : ℕ) (x : Standing) (m : Moved) → IsOf c x → IsOf c (move_entry known x m)
  of-moved known x m h =
      by_test (λ (y : Standing). IsOf c y) (is_news x.part m.entry)
      (standing (sent_again x.part m.entry x.tasks) (with_role known x.part m)) x
      (λ news.
      by_test (λ (r : StarPart). IsOf c (standing (sent_again x.part m.entry x.tasks) r))
      (m.manager.0 == x.part.manager.system.0)
      (record x.part {
        gathers = awaiting x.part.gathers m.entry (awaited known x.part.manager.system.0 m.mask);
        owes = owing x.part.owes m.entry None;
      })
      (record x.part { owes = owing x.part.owes m.entry (Some m.manager) })
      (λ own. record {
        home = h.home;
        right = awaiting-right x.part.gathers m.entry (awaited known x.part.manager.system.0 m.mask) h.right;
      })
      (λ other. record { home = h.home; right = h.right }))
      (λ old. h)

  pub of-part : (known : ℕ) (names : List TaskId) (x : Standing) (e : ℕ) (s : SysId) (recs : List PartRec) → IsOf c x
      → IsOf c (took_part known names x e s recs)
  of-part known names x e s recs h =
      by-part (λ (y : Standing). IsOf c y) of-up known names x e s recs
      (record { home = h.home; right = came-right x.part.gathers e s recs h.right }) h

  module _ (u : ℕ) (apart : (u == c) ≡ false) where
    pub clean-up : (names : List TaskId) (x : Standing) (e : ℕ) → IsClean c u x → IsClean c u (take_up names x e)
    clean-up names x e h = record {
      of = of-up names x e h.of;
      lists =
          installed-none u x.part.manager e
          (gathered (part_of (length x.part.manager.entries) e names x.tasks)
          (parts_in (gathering_at x.part.gathers e)))
          (gathered-free u (length x.part.manager.entries) e names x.tasks x.part.gathers
          (ap (λ k. u == k) h.of.home ∙ apart) h.parts h.of.right)
          h.lists;
      parts = taken-free u x.part.gathers e h.parts;
    }

    pub clean-lost : (x : Standing) (s : SysId) → IsClean c u x → IsClean c u (lose x s)
    clean-lost x s h = record {
      of = of-lost x s h.of;
      lists = losing-none u x.part.manager s h.lists;
      parts = losing-free u x.part.gathers s h.parts;
    }

    -- u itself is lost
    clean-gone : (x : Standing) (s : SysId) → s.0 ≡ u → IsOf c x → IsClean c u (lose x s)
    clean-gone x s same h = record {
      of = of-lost x s h;
      lists = subst (λ k. KeepsNone k (lose x s).part.manager) same (gone-none x.part.manager s);
      parts = subst (λ k. AreFree k (lose x s).part.gathers) same (gone-all x.part.gathers s);
    }

    pub clean-stays : (ss : List SysId) (x : Standing) → IsClean c u x → IsClean c u (lose_each x ss)
    unfolding lose_each
    clean-stays [] x h = h
    clean-stays (s ∷ ss) x h = clean-stays ss (lose x s) (clean-lost x s h)

    now-or-later : (s : SysId) (ss : List SysId) (x : Standing) (b : Bool) → (s.0 == u) ≡ b
        → (b || list_any (λ (z : SysId). z.0 == u) ss) ≡ true → IsOf c x
        → (list_any (λ (z : SysId). z.0 == u) ss ≡ true → IsClean c u (lose_each (lose x s) ss))
        → IsClean c u (lose_each (lose x s) ss)
    now-or-later s ss x true is among h later =
        clean-stays ss (lose x s) (clean-gone x s (eqb-true s.0 u is) h)
    now-or-later s ss x false is among h later = later among

    pub clean-among : (ss : List SysId) (x : Standing) → list_any (λ (z : SysId). z.0 == u) ss ≡ true → IsOf c x
        → IsClean c u (lose_each x ss)
    unfolding lose_each
    clean-among [] x among h = absurd (cc)
    clean-among (s ∷ ss) x among h =
        now-or-later s ss x (s.0 == u) refl among h (λ more. clean-among ss (lose x s) more (of-lost x s h))

    pub clean-all : (names : List TaskId) (x : Standing) → IsClean c u x → IsClean c u (take_up_all names x)
    unfolding lose_each
    clean-all names x h = by-loss (λ (y : Standing). IsClean c u y) clean-up clean-lost names x [] h

    -- ---- mail, where u is known to be removed
    module _ (known : ℕ) (below : u < most_systems) (knows : has known u ≡ true) where
      pub clean-moved : (x : Standing) (m : Moved) → IsClean c u x → IsClean c u (move_entry known x m)
      clean-moved x m h =
          by_test (λ (y : Standing). IsClean c u y) (is_news x.part m.entry)
          (standing (sent_again x.part m.entry x.tasks) (with_role known x.part m)) x
          (λ news.
          by_test
          (λ (r : StarPart). IsClean c u (standing (sent_again x.part m.entry x.tasks) r))
          (m.manager.0 == x.part.manager.system.0)
          (record x.part {
            gathers = awaiting x.part.gathers m.entry (awaited known x.part.manager.system.0 m.mask);
            owes = owing x.part.owes m.entry None;
          })
          (record x.part { owes = owing x.part.owes m.entry (Some m.manager) })
          (λ own. record {
            of = record {
              home = h.of.home;
              right =
                  awaiting-right x.part.gathers m.entry (awaited known x.part.manager.system.0 m.mask) h.of.right;
            };
            lists = h.lists;
            parts =
                awaiting-free u x.part.gathers m.entry known x.part.manager.system.0 m.mask below knows h.parts;
          })
          (λ other. record {
            of = record { home = h.of.home; right = h.of.right };
            lists = h.lists;
            parts = h.parts;
          }))
          (λ old. h)

      pub clean-part : (names : List TaskId) (x : Standing) (e : ℕ) (s : SysId) (recs : List PartRec) → IsClean c u x
          → IsClean c u (took_part known names x e s recs)
      clean-part names x e s recs h =
          by_test (λ (y : Standing). IsClean c u y) (has known s.0) x
          (take_up_all names
          (standing x.tasks (record x.part { gathers = with_part_at x.part.gathers e s recs })))
          (λ gone. h)
          (λ there.
          clean-all names (standing x.tasks (record x.part { gathers = with_part_at x.part.gathers e s recs }))
          (record {
            of = record { home = h.of.home; right = came-right x.part.gathers e s recs h.of.right };
            lists = h.lists;
            parts = came-free u x.part.gathers e s recs (far s there) h.parts;
          }))
        where
          far : (z : SysId) → has known z.0 ≡ false → (z.0 == u) ≡ false
          far z there =
              false_by (z.0 == u) (λ same.
              no_truth (has known z.0) (ap (has known) (eqb-true z.0 u same) ∙ knows) there)
