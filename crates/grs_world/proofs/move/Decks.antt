-- Decks whose desks order the change to star mode, and decks whose desks order a removal.
use Rattle.grs_world.proofs.Common.{◌∙◌, ◌≡◌, ap, Bool, Deck, list_any, may_be_star, next_order, NodeState, None}
use Rattle.grs_world.proofs.Common.{Option, option_map, or_right, Order, refl, same_Some, slice_get, Some, SysId}
use Rattle.grs_world.proofs.Common.{SystemDef, true}
use Rattle.grs_world.specs.Decks.{is_removal_order, is_star_order, may_remove, orders_star}
use Rattle.grs_node.specs.Node.{desk_of}
use Rattle.std.proofs.lemmas.Map.Keys.{any_passes_from_place}
use Rattle.grs_wire.specs.declared.deck.Desk.{Desk}
use Rattle.grs_wire.specs.declared.deck.Order.TheVariants as orders

-- what a system's next desk line orders is ordered at a desk of the deck
ordered : (is_such : Order → Bool) (deck : Deck) (n : NodeState) (order : Order) → next_order deck n ≡ Some order
    → is_such order ≡ true
    → list_any (λ (s : SystemDef). list_any (λ (l : Desk). is_such l.order) s.desk) deck.systems ≡ true
ordered is_such deck n order next such = by_system (slice_get deck.systems n.tasks.system) refl next
  where
    by_line : (d : SystemDef) (o : Option Desk) → slice_get d.desk n.done ≡ o
        → option_map (λ (c : Desk). c.order) o ≡ Some order
        → list_any (λ (l : Desk). is_such l.order) d.desk ≡ true
    by_line d None at is = absurd (cc)
    by_line d (Some l) at is =
        any_passes_from_place (λ (c : Desk). is_such c.order) d.desk n.done l at
        (ap is_such (same_Some l.order order is) ∙ such)

    by_system : (o : Option SystemDef) → slice_get deck.systems n.tasks.system ≡ o
        → option_map (λ (c : Desk). c.order) (slice_get (desk_of o) n.done) ≡ Some order
        → list_any (λ (s : SystemDef). list_any (λ (l : Desk). is_such l.order) s.desk) deck.systems ≡ true
    by_system None at is = absurd (cc)
    by_system (Some d) at is =
        any_passes_from_place (λ (s : SystemDef). list_any (λ (l : Desk). is_such l.order) s.desk) deck.systems
        n.tasks.system d at (by_line d (slice_get d.desk n.done) refl is)

-- where a system's next desk line orders the change to star mode, a run of the deck may be in star mode
pub order-may : (deck : Deck) (n : NodeState) → next_order deck n ≡ Some orders.Star → may_be_star deck ≡ true
order-may deck n next =
    or_right deck.star (list_any (λ s. orders_star s.desk) deck.systems)
    (ordered is_star_order deck n orders.Star next refl)

-- where it orders a removal, a run of the deck may remove a system
pub order-removes : (deck : Deck) (n : NodeState) (target : SysId) → next_order deck n ≡ Some (orders.Vary target)
    → may_remove deck ≡ true
order-removes deck n target next = ordered is_removal_order deck n (orders.Vary target) next refl
