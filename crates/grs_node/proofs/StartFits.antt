-- A system at the start fits the deck.
use Rattle.std.proofs.Common.{◌≡◌, ◌<◌, ◌+◌, ℕ, zero, suc, Bool, true, false, cond, List, [], ◌∷◌}
use Rattle.std.proofs.Common.{length, replicate, Option, Some, None, refl, ap, sym}
use Rattle.std.proofs.Common.{subst, arith}
use Rattle.std.specs.Prelude.{All, slice_get}
use Rattle.std.specs.List.{list_all}
use Rattle.std.proofs.lemmas.List.Elements.{All-nil}
use Rattle.contention_mgr.specs.Elements.{all_of}
use Rattle.contention_mgr.specs.Manager.{Managed}
use Rattle.grs_base.specs.declared.resource.TaskId.{TaskId}
use Rattle.grs_node.specs.Addressed.{is_within, AnyPartFits}
use Rattle.grs_node.specs.Addressed.{NodeFits}
use Rattle.grs_node.specs.Node.{NodeState, desk_of, part_at_first}
use Rattle.grs_node.specs.Star.{first_part}
use Rattle.grs_node.proofs.Orderly.{none-orderly}
use Rattle.grs_node.proofs.RemovalFits.{none-gathering}
use Rattle.grs_node.proofs.ChangeFits.{desk_few}
use Rattle.mode_migrate.specs.Migrate.{AreApart}
use Rattle.grs_wire.specs.declared.deck.SystemDef.{SystemDef}
use Rattle.grs_wire.specs.Decks.{IsOrderOf, AreOrders, IsBounded}
use Rattle.grs_base.specs.State.{State}
use Rattle.grs_wire.proofs.DeckLaws.{entries_some}
use Rattle.grs_wire.specs.declared.deck.Deck.{Deck}
use Rattle.grs_wire.specs.declared.deck.Desk.{Desk}
use Rattle.grs_wire.specs.declared.deck.Order.TheVariants as orders

-- ---- the start
all-none : (p : TaskId → Bool) (n : ℕ) → all_of p (replicate n None) ≡ true
all-none p zero = refl
all-none p (suc n) = all-none p n

length-replicate : {X : Type 0} (n : ℕ) (x : X) → length (replicate n x) ≡ n
length-replicate zero x = refl
length-replicate (suc n) x = ap suc (length-replicate n x)

-- what a deck's desks command is what each of its systems may
orders-from : (all n : ℕ) (ss : List SystemDef) (s : ℕ) → AreOrders all n ss
    → All (λ (c : Desk). IsOrderOf all (n + s) c.order) (desk_of (slice_get ss s))
orders-from all n [] s h = All-nil (λ (c : Desk). IsOrderOf all (n + s) c.order)
orders-from all n (d ∷ ds) zero h =
    let same : n ≡ n + 0 = omega arith in
    subst (λ (k : ℕ). All (λ (c : Desk). IsOrderOf all k c.order) d.desk) same h.0
orders-from all n (d ∷ ds) (suc s) h =
    let same : (n + 1) + s ≡ n + suc s = omega arith in
    subst (λ (k : ℕ). All (λ (c : Desk). IsOrderOf all k c.order) (desk_of (slice_get ds s))) same
    (orders-from all (n + 1) ds s h.1)

pub orders-at : (all : ℕ) (ss : List SystemDef) (s : ℕ) → AreOrders all 0 ss
    → All (λ (c : Desk). IsOrderOf all s c.order) (desk_of (slice_get ss s))
orders-at all ss s h =
    let same : 0 + s ≡ s = omega arith in
    subst (λ (k : ℕ). All (λ (c : Desk). IsOrderOf all k c.order) (desk_of (slice_get ss s))) same
    (orders-from all 0 ss s h)

-- a system at the start fits the deck
pub started-fits : (deck : Deck) (n : NodeState) (s : ℕ) → IsBounded deck → s < length deck.systems → n.tasks.system ≡ s
    → n.shared ≡ [] → n.star ≡ part_at_first deck s → NodeFits deck n
started-fits deck n s h within own none begins = record {
  system = subst (λ (k : ℕ). k < length deck.systems) (sym own) within;
  some = entries_some deck.entries h.entries;
  few = h.fits.few;
  desk = desk_few deck n.tasks.system h;
  orders = orders-at (length deck.systems) deck.systems n.tasks.system h.orders;
  shared = subst (λ (t : State). list_all (λ x. is_within deck x.1.task) t ≡ true) (sym none) refl;
  apart = subst AreApart (sym none) (λ r. refl);
  part =
      subst (λ (k : ℕ). AnyPartFits deck k n.star) (sym own) (subst (AnyPartFits deck s) (sym begins) (go deck.star));
}
  where
    go : (b : Bool) → AnyPartFits deck s (cond b (Some (first_part (record { 0 = s }) deck.entries)) None)
    go false = tt
    go true = record {
      system = refl;
      some = entries_some deck.entries h.entries;
      entries = length-replicate deck.entries None;
      interest = length-replicate deck.entries false;
      elements = all-none (is_within deck) deck.entries;
      held = refl;
      gathering = none-gathering deck;
      orderly =
          none-orderly (record { system = record { 0 = s }; entries = replicate deck.entries None }) deck.entries
          (replicate deck.entries None) (replicate deck.entries false)
          (length-replicate {X = Option Managed} deck.entries None);
    }
