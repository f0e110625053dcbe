-- A system processes the removal of another by its table.
use Rattle.grs_world.proofs.Common.{[], ◌++◌, ◌∙◌, ◌∷◌, ◌≡◌, after_fixed, ap, AreLists, Bool, cond, Deck, Elem, false}
use Rattle.grs_world.proofs.Common.{filter, filter-cons_left, freed, here-kept, history, is_among, is_of, is_some}
use Rattle.grs_world.proofs.Common.{is_systems, IsGood, IsHistory, lines_of, List, list_of, lists, lists-push}
use Rattle.grs_world.proofs.Common.{NodeState, none, not, Opens, owns, refl, remove_state, Req, Res, rounds, Row}
use Rattle.grs_world.proofs.Common.{rows-lists, rows_of, RunItem, Some, State, StaysGood, sym, SysId, TaskId, TasksView}
use Rattle.grs_world.proofs.Common.{tell_freed, tell_new, ToldBy, ToldLine, true, ℕ}
use Rattle.freed_owners.specs.Freed.{newcomers}
use Rattle.grs_known.proofs.lists.Owners.{picked-owns}
use Rattle.grs_base.specs.State.{is_of_other}
use Rattle.grs_node.specs.Node.{process_removal}
use Rattle.grs_known.proofs.system.Events.{tells_good}
use Rattle.grs_wire.proofs.RemoveLaws.{list_of-remove}
use Rattle.grs_known.proofs.ring.Due.{owns_left}
use Rattle.grs_known.proofs.system.Telling.{StillOwns}
use Rattle.grs_world.proofs.system.AtNode.{opens_of, Seen}
use Rattle.grs_wire.specs.declared.request.Fixed.TheVariants as fixing

-- whoever gets control by a removal owns by what it leaves of the list
freed-owns : (n : ℕ) (r : Res) (es : List Elem) (u : TaskId) → is_among u (freed n r es) ≡ true
    → (is_systems r ≡ true) × (owns (filter (is_of_other n) es) u ≡ true)
freed-owns n r es u e = go (is_systems r) e
  where
    go : (b : Bool) → is_among u (cond b (newcomers es (filter (is_of_other n) es)) []) ≡ true
        → (b ≡ true) × (owns (filter (is_of_other n) es) u ≡ true)
    go true h = (refl, picked-owns (λ t. not (owns es t)) (filter (is_of_other n) es) u h)
    go false h = absurd (cc)

-- These lists are told, one by one: each owner by what the removal leaves of one of them is of the deck, and owns
-- still.
module _ (deck : Deck) (s : ℕ) (os : Opens) (P : List RunItem) (right : IsHistory deck P) (T0 : List ToldLine)
    (table : State) (target : SysId)
    (owners : (r : Res) (u : TaskId) → is_systems r ≡ true → owns (list_of (remove_state table target.0) r) u ≡ true
    → (is_some (lines_of deck u) ≡ true) × StillOwns deck os P r u) where
  list_told : (x : Row) → x.elems ≡ list_of table x.res → (v : TasksView) → StaysGood deck s os P T0 v
      → StaysGood deck s os P T0 (tell_new v (Some x.res) (freed target.0 x.res x.elems))
  unfolding tell_new
  list_told x is v z = tells_good deck s os P right T0 v z.good z.told x.res (freed target.0 x.res x.elems) (λ u e.
      let f = freed-owns target.0 x.res x.elems u e in
      owners x.res u f.0 (ap (λ es. owns es u)
      (list_of-remove table target.0 x.res f.0 ∙ ap (filter (is_of_other target.0)) (sym is))
      ∙ f.1))

  pub lists_told : (rows : List Row) → AreLists table rows → (v : TasksView) → StaysGood deck s os P T0 v
      → StaysGood deck s os P T0 (tell_freed v target.0 rows)
  unfolding tell_freed
  lists_told [] are v z = z
  lists_told (x ∷ xs) are v z =
      lists_told xs are.1 (tell_new v (Some x.res) (freed target.0 x.res x.elems)) (list_told x are.0 v z)

-- The removal was processed.
pub record Frees (deck : Deck) (s : ℕ) (P before : List RunItem) (x : RunItem) (later : List RunItem) (out : List Req)
    (n : NodeState) (target : SysId) :
    Type 0 where
  pub seen : Seen deck s P (before ++ x ∷ []) later out (process_removal n target)
  pub told : ToldBy deck s (out ++ n.outbox) (history P) n.tasks.told (process_removal n target).tasks.told

pub read-removal : (deck : Deck) (s : ℕ) (P before : List RunItem) → IsHistory deck P
    → (x : RunItem) (later : List RunItem) → rounds P ≡ before ++ x ∷ later
    → (n : NodeState) (out : List Req) (target : SysId) → x.fixed ≡ fixing.Purged target →
    Seen deck s P before (x ∷ later) out n → Frees deck s P before x later out n target
read-removal deck s P before right x later whole n out target purged seen = record {
  seen = record {
    good = done.good;
    own = seen.own;
    shared =
        ap (λ t. remove_state t target.0) seen.shared
        ∙ sym (lists-push before x ∙ ap (after_fixed (lists before)) purged);
    homes = seen.homes;
    apart = seen.apart;
  };
  told = done.told;
}
  where
    still : (r : Res) (u : TaskId) → is_systems r ≡ true → owns (list_of (remove_state n.shared target.0) r) u ≡ true
        → (is_some (lines_of deck u) ≡ true) × StillOwns deck (opens_of later out n) P r u
    still r u wide own =
        let z =
        owns_left deck P before x later target r u right whole purged wide
        (ap (λ t. owns (list_of (remove_state t target.0) r) u) (sym seen.shared) ∙ own) in
        (z.0, λ T ls y k. z.1 k.known k.knows.live k.knows.right k.due)

    before_it : IsGood deck s (opens_of later out n) P n.tasks
    before_it = record {
      tasks = record {
        each = λ u ls o.
            here-kept deck (opens_of (x ∷ later) out n) (opens_of later out n) P n.tasks.told n.tasks.told u ls _
            (sym (filter-cons_left (λ z. is_of u z.fixed) x later (ap (is_of u) purged))) (λ k. k) (λ k. k)
            (λ p leaving y j. j) (seen.good.tasks.each u ls o);
      };
      here = seen.good.here;
      system = seen.good.system;
    }

    done : StaysGood deck s (opens_of later out n) P n.tasks.told (tell_freed n.tasks target.0 (rows_of n.shared))
    done =
        lists_told deck s (opens_of later out n) P right n.tasks.told n.shared target still (rows_of n.shared)
        (rows-lists n.shared) n.tasks (record { good = before_it; told = none })
