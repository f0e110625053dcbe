-- The workers of a deck before their first round.
use Rattle.std.proofs.Common.{◌≡◌, ◌<◌, ℕ, zero, suc, List, [], ◌∷◌, length, map, get_or, refl, ap, sym, ◌∙◌, subst}
use Rattle.std.proofs.Common.{arith}
use lib.ListN.{get_elem?}
use Rattle.std.specs.Prelude.{All}
use Rattle.std.proofs.lemmas.List.{get_or-map, length-map}
use mathlib.Core.Option.{some}
use Rattle.grs_bus.specs.Seats.{BusValue, SeatValue, AllSeats, AreTheSeats, IsNew}
use Rattle.grs_medium.specs.Medium.{systems_of}
use Rattle.grs_node.specs.Node.{first_node}
use Rattle.grs_wire.specs.declared.deck.Deck.{Deck}
use Rattle.grs_workers.specs.Stands.{Stand, stand, first_stand, IsOn, Agrees}
use Rattle.grs_workers.specs.declared.worker.Worker.{Worker}

pub at_place : {A : Type 0} (l : List A) (i : ℕ) (d : A) → i < length l → get_elem? l i ≡ some (get_or l i d)
at_place [] i d below = absurd (omega (arith, below))
at_place (x ∷ l) zero d below = refl
at_place (x ∷ l) (suc i) d below = at_place l i d (omega (arith, below))

pub seats-inside : (b : BusValue) (seats : List SeatValue) (n : ℕ) → AreTheSeats b seats → length seats ≡ n
    → All (λ (v : SeatValue). v.system.0 < n) seats
seats-inside b seats n theirs count i d below =
    let number = (theirs.each i (get_or seats i d) (at_place seats i d below)).1 in
    subst (λ k. k < n) (sym number) (subst (λ k. i < k) count below)

pub as_many : (deck : Deck) (ws : List Worker) (seats : List SeatValue) → map stand ws ≡ map (first_stand deck) seats
    → length ws ≡ length seats
as_many deck ws seats same = sym (length-map ws stand) ∙ ap length same ∙ length-map seats (first_stand deck)

-- which worker stands at a place
pub worker-at : (deck : Deck) (ws : List Worker) (seats : List SeatValue) (i : ℕ) (d : Worker)
    → map stand ws ≡ map (first_stand deck) seats → i < length ws
    → (i < length seats) × (stand (get_or ws i d) ≡ first_stand deck (get_or seats i d.seat))
worker-at deck ws seats i d same below =
    let inside : i < length seats = subst (λ k. i < k) (as_many deck ws seats same) below in (
      inside,
      sym (get_or-map stand ws i d (stand d) below)
          ∙ ap (λ (vs : List Stand). get_or vs i (stand d)) same
          ∙ get_or-map (first_stand deck) seats i d.seat (stand d) inside,
    )

pub on-first : (deck : Deck) (b : BusValue) (ws : List Worker) (seats : List SeatValue)
    → map stand ws ≡ map (first_stand deck) seats → AreTheSeats b seats → length seats ≡ length deck.systems
    → systems_of b.first ≡ length deck.systems → length b.first.words ≡ deck.entries
    → All (λ (w : Worker). IsOn b (stand w)) ws
on-first deck b ws seats same theirs count systems entries i d below =
    let at = worker-at deck ws seats i d same below in
    let v : SeatValue = get_or seats i d.seat in
    let its = theirs.each i v (at_place seats i d.seat at.0) in
    subst (IsOn b) (sym at.1) (record {
      seat = its.0;
      caller = subst (λ k. k < systems_of b.first) (sym its.1) (subst (λ k. i < k) (count ∙ sym systems) at.0);
      systems = systems;
      entries = entries;
    })

pub agree-first : (deck : Deck) (ws : List Worker) (seats : List SeatValue)
    → map stand ws ≡ map (first_stand deck) seats → AllSeats IsNew seats → All (λ (w : Worker). Agrees (stand w)) ws
unfolding first_node
agree-first deck ws seats same new i d below =
    let at = worker-at deck ws seats i d same below in
    let v : SeatValue = get_or seats i d.seat in
    subst Agrees (sym at.1) (record { system = refl; entries = ap length (new i v (at_place seats i d.seat at.0)).0 })

pub ruleset first_stands = (on-first, agree-first)
