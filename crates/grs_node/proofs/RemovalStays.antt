-- Where another system is removed, and where mail is taken, the tasks stay those of their system.
use Rattle.std.proofs.Common.{◌≡◌, ℕ, zero, suc, Bool, true, false, cond, List, [], ◌∷◌, length, Option, Some, None}
use Rattle.std.proofs.Common.{refl, ◌∙◌}
use Rattle.contention_mgr.specs.Installs.{own_owners}
use Rattle.contention_mgr.specs.Loses.{gained}
use Rattle.grs_base.specs.declared.resource.SysId.{SysId}
use Rattle.grs_base.specs.declared.resource.TaskId.{TaskId}
use Rattle.grs_node.specs.Names.{names_of}
use Rattle.grs_node.specs.Node.{NodeState, losing, losing_in}
use Rattle.grs_node.specs.Removal.{Standing, standing, installing, take_up, take_up_if, take_up_below, lose, lose_each}
use Rattle.grs_node.specs.Removal.{lose_all, sent_again, with_role, is_news, move_entry, move_each}
use Rattle.grs_node.specs.Star.{StarPart}
use Rattle.grs_wire.specs.declared.deck.Deck.{Deck}
use Rattle.grs_wire.specs.declared.gather.Moved.{Moved}
use Rattle.system_purge.proofs.TellEach.{system-each}
use Rattle.system_purge.specs.Gathers.{is_complete}

-- ---- what is taken up
pub system-taken : (names : List TaskId) (x : Standing) (e : ℕ) → (take_up_if names x e).tasks.system ≡ x.tasks.system
system-taken names x e = go (is_complete x.part.gathers e)
  where
    go : (b : Bool) → (cond b (take_up names x e) x).tasks.system ≡ x.tasks.system
    go true = system-each x.tasks (own_owners (installing names x e) e)
    go false = refl

pub system-taken-below : (names : List TaskId) (x : Standing) (n : ℕ)
    → (take_up_below names x n).tasks.system ≡ x.tasks.system
unfolding take_up_below
system-taken-below names x zero = refl
system-taken-below names x (suc e) = system-taken names (take_up_below names x e) e ∙ system-taken-below names x e

-- ---- what is lost
pub system-lost : (x : Standing) (ss : List SysId) → (lose_each x ss).tasks.system ≡ x.tasks.system
unfolding lose_each
system-lost x [] = refl
system-lost x (s ∷ ss) = system-lost (lose x s) ss ∙ system-each x.tasks (gained x.part.manager s)

pub system-lost-all : (names : List TaskId) (x : Standing) (ss : List SysId)
    → (lose_all names x ss).tasks.system ≡ x.tasks.system
system-lost-all names x ss =
    let y = lose_each x ss in
    system-taken-below names y (length y.part.manager.entries) ∙ system-lost x ss

pub system-losing : (deck : Deck) (n : NodeState) (ss : List SysId) → (losing deck n ss).tasks.system ≡ n.tasks.system
unfolding losing
system-losing deck n ss = go n.star
  where
    go : (o : Option StarPart) → (losing_in deck n o ss).tasks.system ≡ n.tasks.system
    go None = refl
    go (Some p) = system-lost-all (names_of deck n.tasks.system) (standing n.tasks p) ss

-- ---- what is moved
system-entry : (known : ℕ) (x : Standing) (m : Moved) → (move_entry known x m).tasks.system ≡ x.tasks.system
system-entry known x m = go (is_news x.part m.entry)
  where
    go : (b : Bool)
        → (cond b (standing (sent_again x.part m.entry x.tasks) (with_role known x.part m)) x).tasks.system
        ≡ x.tasks.system
    go true = refl
    go false = refl

pub system-moved : (known : ℕ) (x : Standing) (ms : List Moved) → (move_each known x ms).tasks.system ≡ x.tasks.system
unfolding move_each
system-moved known x [] = refl
system-moved known x (m ∷ ms) = system-moved known (move_entry known x m) ms ∙ system-entry known x m
