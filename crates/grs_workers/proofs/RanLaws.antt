-- What workers leave behind whose rounds are over.
use Rattle.std.proofs.Common.{◌≡◌, ◌≢◌, ◌<◌, ◌+◌, ℕ, zero, suc, Bool, true, false, cond, List, [], ◌∷◌, ◌++◌, length}
use Rattle.std.proofs.Common.{map, get_or, Option, Some, None, refl, ap, sym, ◌∙◌, subst, arith}
use lib.ListN.{get_elem?}
use Rattle.std.specs.Prelude.{All, ◌==◌}
use Rattle.std.proofs.lemmas.Bool.{eq-eqb}
use Rattle.std.proofs.lemmas.List.{length-map, length-replicate}
use Rattle.std.proofs.lemmas.List.Elements.{filter-append}
use mathlib.Core.Option.{some, some-injective, some-ne-none}
use Rattle.grs_base.specs.declared.resource.SysId.{SysId}
use Rattle.grs_bus.specs.Journal.{after_all, AreRight, entry_of, entries_of, Begins}
use Rattle.grs_bus.specs.Seats.{BusValue, SeatValue, AllSeats, AreTheSeats, IsNew, Agrees as SeatAgrees, with_entry}
use Rattle.grs_medium.specs.Medium.{MediumState, systems_of, first_medium}
use Rattle.grs_medium.specs.Apply.{medium_after}
use Rattle.grs_node.specs.Node.{first_node}
use Rattle.grs_wire.specs.declared.deck.Deck.{Deck}
use Rattle.grs_wire.specs.declared.log.StepDone.{StepDone}
use Rattle.grs_wire.specs.declared.medium.Call.{Call}
use Rattle.grs_wire.specs.declared.medium.JEntry.{JEntry}
use Rattle.grs_wire.specs.declared.medium.Reply.{Reply}
use Rattle.grs_wire.specs.declared.medium.Reply.TheVariants.{Removed}
use Rattle.grs_workers.specs.Beside.{medium_of, AreServed, IsMade, AreMade, RanBeside, LastCall, AllLast, AreFirst}
use Rattle.grs_workers.specs.Beside.{IsOver}
use Rattle.grs_workers.specs.Makes.{Makes}
use Rattle.grs_workers.specs.Rounds.{Grew, Each}
use Rattle.grs_workers.specs.Stands.{Stand, stand, first_stand, is_last, IsDoneBy}
use Rattle.grs_workers.specs.declared.worker.Worker.{Worker}
use Rattle.grs_workers.proofs.FirstStands.{at_place, as_many, worker-at}

-- ---- places

of_map : {A B : Type 0} (f : A → B) (l : List A) (i : ℕ) (y : B) → get_elem? (map f l) i ≡ some y
    → (x : A) × (get_elem? l i ≡ some x) × (f x ≡ y)
of_map f [] i y e = absurd (some-ne-none y (sym e))
of_map f (x ∷ l) zero y e = (x, refl, some-injective (f x) y e)
of_map f (x ∷ l) (suc i) y e = of_map f l i y e

in_place : {A : Type 0} (l : List A) (i : ℕ) (x : A) → get_elem? l i ≡ some x → (i < length l) × (get_or l i x ≡ x)
in_place [] i x e = absurd (some-ne-none x (sym e))
in_place (y ∷ l) zero x e = (omega arith, some-injective y x e)
in_place (y ∷ l) (suc i) x e = let h = in_place l i x e in (omega (arith, h.0), h.1)

-- ---- the medium at the start

pub systems-first : (n entries : ℕ) (star : Bool) → systems_of (first_medium n entries star) ≡ n
systems-first n entries true = refl
systems-first n entries false = refl

pub words-first : (n entries : ℕ) (star : Bool) → length (first_medium n entries star).words ≡ entries
words-first n entries star = length-replicate entries 0

pub begun : (deck : Deck) (b : BusValue) (seats : List SeatValue) (ws : List Worker) (n : ℕ) → AreTheSeats b seats
    → AllSeats IsNew seats → length seats ≡ n → n ≡ length deck.systems → map stand ws ≡ map (first_stand deck) seats
    → AreFirst deck b ws
begun deck b seats ws n theirs new count same
    stands = record { seats = seats; theirs = theirs; new = new; count = count ∙ same; stands = stands }

pub ruleset begins = (systems-first, words-first, begun)

-- ---- the journal

-- a right journal, in which nobody is told that it was removed, is served
served : (m : MediumState) (es : List JEntry) → AreRight m es → All (λ (e : JEntry). e.reply ≢ Removed) es
    → AreServed m es
served m [] right there = tt
served m (e ∷ es) right there = (
  record { may_call = right.0.0; reply = right.0.1; there = there 0 e (omega arith) },
  served (medium_after m e.system e.call) es right.1 (λ i d below. there (suc i) d (omega (arith, below))),
)

-- the entries of a system behind one of its calls
entries-with : (journal : List JEntry) (c : SysId) (call : Call) (told : Reply × Bool)
    → entries_of c.0 (with_entry journal c call told) ≡ with_entry (entries_of c.0 journal) c call told
entries-with journal c call (reply, true) =
    filter-append (λ (e : JEntry). e.system.0 == c.0) journal (entry_of c call reply ∷ [])
    ∙ ap (λ (b : Bool). entries_of c.0 journal ++ cond b (entry_of c call reply ∷ []) []) (eq-eqb c.0 c.0 refl)
entries-with journal c call (reply, false) = refl

-- ---- workers whose rounds are over

module _ (deck : Deck) (b : BusValue) (vs ws : List Worker) (f : AreFirst deck b vs) (count : length ws ≡ length vs)
    (grew : Each (λ v w. Grew (stand v) (stand w)) vs ws) where
  -- a worker began as the deck's system of its place, with that system's seat
  record Began (i : ℕ) (w : Worker) : Type 0 where
    seat : SeatValue
    at : get_elem? f.seats i ≡ some seat
    grown : Grew (first_stand deck seat) (stand w)

  began : (i : ℕ) (w : Worker) → get_elem? ws i ≡ some w → Began i w
  began i w at =
      let place = in_place ws i w at in
      let below : i < length vs = subst (λ k. i < k) count place.0 in
      let first = worker-at deck vs f.seats i w f.stands below in
      let grown : Grew (stand (get_or vs i w)) (stand w) =
      subst (λ (x : Worker). Grew (stand (get_or vs i w)) (stand x)) place.1 (grew i w below) in
      record {
        seat = get_or f.seats i w.seat;
        at = at_place f.seats i w.seat first.0;
        grown = subst (λ (x : Stand). Grew x (stand w)) first.1 grown;
      }

  pub seats_back : AreTheSeats b (map (λ w. w.seat) ws)
  seats_back = record {
    some_seat =
        subst (λ k. 0 < k) (sym (length-map ws (λ (w : Worker). w.seat) ∙ count ∙ as_many deck vs f.seats f.stands))
        f.theirs.some_seat;
    each = λ i v at.
        let of = of_map (λ (w : Worker). w.seat) ws i v at in
        let g = began i of.0 of.1 in
        let its = f.theirs.each i g.seat g.at in
        subst (λ (x : SeatValue). (x.bus ≡ b) × (x.system.0 ≡ i)) of.2
        (g.grown.seat.0 ∙ its.0, ap (λ (s : SysId). s.0) g.grown.seat.1 ∙ its.1);
    count = λ v at.
        let of = of_map (λ (w : Worker). w.seat) ws 0 v at in
        let g = began 0 of.0 of.1 in
        subst (λ (x : SeatValue). x.seats ≡ length (map (λ (w : Worker). w.seat) ws)) of.2
        (g.grown.seat.2
        ∙ f.theirs.count g.seat g.at
        ∙ sym (length-map ws (λ (w : Worker). w.seat) ∙ count ∙ as_many deck vs f.seats f.stands));
  }

  module _ (journal : List JEntry) (agree : AllSeats (SeatAgrees journal) (map (λ w. w.seat) ws)) where
    -- what is known of the seat of a worker at the end
    seat-at : (l : List Worker) (i : ℕ) (w : Worker) → get_elem? l i ≡ some w
        → get_elem? (map (λ (x : Worker). x.seat) l) i ≡ some w.seat
    seat-at [] i w at = absurd (some-ne-none w (sym at))
    seat-at (x ∷ l) zero w at = ap (λ (y : Worker). some y.seat) (some-injective x w at)
    seat-at (x ∷ l) (suc i) w at = seat-at l i w at

    made_at : (i : ℕ) (w : Worker) → get_elem? ws i ≡ some w → IsMade deck journal i w.node
    unfolding first_node
    made_at i w at =
        let g = began i w at in
        let its = f.theirs.each i g.seat g.at in
        let new = f.new i g.seat g.at in
        let number : w.seat.system.0 ≡ i = ap (λ (s : SysId). s.0) g.grown.seat.1 ∙ its.1 in
        let entries : g.grown.entries ≡ entries_of i journal =
        sym (g.grown.own ∙ ap (λ (l : List JEntry). l ++ g.grown.entries) new.0)
        ∙ (agree i w.seat (seat-at ws i w at)).0
        ∙ ap (λ k. entries_of k journal) number in
        record {
          of_deck = g.grown.deck;
          makes =
              subst (λ (n : ℕ). Makes deck (first_node deck n) w.node.log (entries_of i journal) w.node.node) its.1
              (subst (λ (l : List StepDone).
              Makes deck (first_node deck g.seat.system.0) l (entries_of i journal) w.node.node)
              (sym g.grown.log)
              (subst (λ (l : List JEntry). Makes deck (first_node deck g.seat.system.0) g.grown.steps l w.node.node)
              entries g.grown.makes));
        }

    made_from : (l : List Worker) (s : ℕ)
        → ((i : ℕ) (w : Worker) → get_elem? l i ≡ some w → IsMade deck journal (s + i) w.node)
        → AreMade deck journal s (map (λ w. w.node) l)
    made_from [] s each = tt
    made_from (w ∷ l) s each = (
      let n : s + 0 ≡ s = omega arith in subst (λ k. IsMade deck journal k w.node) n (each 0 w refl),
      made_from l (s + 1) (λ i x at. let n : s + suc i ≡ s + 1 + i = omega arith in
          subst (λ k. IsMade deck journal k x.node) n (each (suc i) x at)),
    )

    pub ran : (m : MediumState) → b.first ≡ medium_of deck → m ≡ after_all b.first journal → AreRight b.first journal
        → All (λ (e : JEntry). e.reply ≢ Removed) journal → RanBeside deck m journal (map (λ w. w.node) ws)
    ran m first medium right there = record {
      served = served (medium_of deck) journal (subst (λ (x : MediumState). AreRight x journal) first right) there;
      medium = medium ∙ ap (λ (x : MediumState). after_all x journal) first;
      count = length-map ws (λ (w : Worker). w.node) ∙ count ∙ as_many deck vs f.seats f.stands ∙ f.count;
      made =
          made_from ws 0
          (λ i w at. let n : i ≡ 0 + i = omega arith in subst (λ k. IsMade deck journal k w.node) n (made_at i w at));
    }

    -- the last call of a worker
    last_call : (i : ℕ) (w : Worker) → get_elem? ws i ≡ some w → b.first ≡ medium_of deck → IsOver (stand w)
        → LastCall (medium_of deck) journal (record { 0 = i })
    last_call i w at first over = by_told over.1.ends.0.told over.1.ends.1 over.1.ends.2
      where
        by_told : (told : Option (Reply × Bool)) → IsDoneBy over.1.between over.1.ends.0.choice told (stand w)
            → is_last (record { choice = over.1.ends.0.choice; told = told }) ≡ true
            → LastCall (medium_of deck) journal (record { 0 = i })
        by_told None k last = absurd (cc)
        by_told (Some told) k last =
            let u : SeatValue = over.1.between.seat in
            let g = began i w at in
            let its = f.theirs.each i g.seat g.at in
            let ended = agree i w.seat (seat-at ws i w at) in
            let system : u.system ≡ record { 0 = i } = sym k.same.1 ∙ g.grown.seat.1 ∙ (λ j. record { 0 = its.1 j }) in
            let medium : u.bus.first ≡ medium_of deck =
            ap (λ (x : BusValue). x.first) (sym k.same.0 ∙ g.grown.seat.0 ∙ its.0) ∙ first in
            let here : LastCall u.bus.first journal u.system = record {
              before = k.answered.journal;
              call = k.call;
              told = told;
              reply = k.answered.reply;
              last = last;
              entered = k.answered.entered;
              begins = subst (λ (l : List JEntry). Begins l journal) k.answered.seen ended.1;
              own = ap (λ (c : SysId). entries_of c.0 journal) (sym k.same.1) ∙ sym ended.0 ∙ k.answered.own
                  ∙ ap (λ (l : List JEntry). with_entry l u.system k.call told) k.answered.taken.own
                  ∙ sym (entries-with k.answered.journal u.system k.call told);
            } in
            subst (λ (c : SysId). LastCall (medium_of deck) journal c) system
            (subst (λ (x : MediumState). LastCall x journal u.system) medium here)

    there : {A : Type 0} (l : List A) (i : ℕ) → i < length l → (a : A) × (get_elem? l i ≡ some a)
    there [] i h = absurd (omega (arith, h))
    there (x ∷ xs) zero h = (x, refl)
    there (x ∷ xs) (suc i) h = there xs i (omega (arith, h))

    pub all_last : b.first ≡ medium_of deck → All (λ (w : Worker). IsOver (stand w)) ws → AllLast deck journal
    all_last first over s below =
        let inside : s.0 < length ws =
        subst (λ k. s.0 < k) (sym (count ∙ as_many deck vs f.seats f.stands ∙ f.count)) below in
        let w = there ws s.0 inside in
        last_call s.0 w.0 w.1 first
        (subst (λ (x : Worker). IsOver (stand x)) (in_place ws s.0 w.0 w.1).1 (over s.0 w.0 inside))
