-- The seats as they are made, and as the first one takes the others in.
use Rattle.std.proofs.Common.{◌≡◌, ℕ, zero, suc, ◌+◌, ◌-◌, ◌<◌, List, [], ◌∷◌, ◌++◌, false, length, refl, sym, ap, ◌∙◌}
use Rattle.std.proofs.Common.{subst, ⊎_elim, arith}
use Rattle.std.specs.Prelude.{remove}
use Rattle.std.proofs.lemmas.List.{length-append}
use mathlib.Core.Option.{some, some-injective, some-ne-none}
use lib.ListN.{get_elem?}
use Rattle.atomic_table.specs.Seated.{TableId}
use Rattle.atomic_table.specs.Table.{Me, Final, Seen}
use Rattle.atomic_table.proofs.Lists.{at_last, at_longer}
use Rattle.grs_base.specs.declared.resource.SysId.{SysId}
use Rattle.grs_wire.specs.declared.medium.JEntry.{JEntry}
use Rattle.grs_medium.specs.Medium.{MediumState}
use Rattle.grs_medium.specs.Room.{MediumValue}
use Rattle.grs_bus.specs.Journal.{after_all, AreRight, entries_of, Begins}
use Rattle.grs_bus.specs.Places.{seat_of}
use Rattle.grs_bus.specs.Rule.{newcomer, cut_right, past_of_seat, joined_all, IsKept}
use Rattle.grs_bus.specs.Seats.{BusValue, SeatValue, AllSeats, AreTheSeats, IsNew, Agrees}
use Rattle.grs_bus.specs.declared.slot.Slot.{Slot}
use Rattle.grs_bus.specs.declared.view.Past.{Past}
use Rattle.grs_bus.specs.declared.view.View.{View}
use Rattle.grs_bus.proofs.RuleLaws.{at_snoc_at, Covers, Ended, ends}

-- seats of the systems from 1 on, with which nothing was done yet
abbrev pub AreDealt : BusValue → List SeatValue → Type 0
AreDealt b seats = (i : ℕ) (v : SeatValue) → get_elem? seats i ≡ some v → (v.bus ≡ b) × (v.system.0 ≡ i + 1) × IsNew v

dealt_more : (b : BusValue) (seats : List SeatValue) (v : SeatValue) → AreDealt b seats → v.bus ≡ b
    → v.system.0 ≡ length seats + 1 → IsNew v → AreDealt b (seats ++ v ∷ [])
dealt_more b seats v dealt at number new i u e =
    ⊎_elim (dealt i u) (λ (t : (v ≡ u) × (i ≡ length seats)). let is : v.system.0 ≡ i + 1 = omega arith in
    subst (λ (x : SeatValue). (x.bus ≡ b) × (x.system.0 ≡ i + 1) × IsNew x) t.0 (at, is, new))
    (at_snoc_at seats v u i e)

pub dealt_count : (l m : List SeatValue) (v : SeatValue) (n : ℕ) → m ≡ l ++ v ∷ [] → length l + 1 ≡ n
    → length m + 1 ≡ n + 1
dealt_count l m v n is count = ap (λ k. k + 1) (ap length is ∙ (length-append l (v ∷ []) ∙ count))

-- the next seat that is cut off
pub dealt_next :
    (b : BusValue) (seats : List SeatValue) (n : ℕ) (first : MediumValue) (table : TableId) (m m' : Me Slot View)
    → AreDealt b seats → length seats + 1 ≡ n → table ≡ b.table → first.state ≡ b.first
    → m ≡ (newcomer first (record { 0 = 0 }) [] n, []) → m' ≡ (cut_right m.0, [])
    → AreDealt b (seats ++ seat_of table m'.0 0 ∷ [])
dealt_next b seats n first table m m' dealt len at start is cut =
    let view : m'.0 ≡ newcomer first (record { 0 = n }) [] 0 =
    ap (λ (x : Me Slot View). x.0) cut ∙ ap (λ (x : Me Slot View). cut_right x.0) is in
    subst (λ (v : View). AreDealt b (seats ++ seat_of table v 0 ∷ [])) (sym view)
    (dealt_more b seats (seat_of table (newcomer first (record { 0 = n }) [] 0) 0) dealt
    (λ i. record { table = at i; first = start i }) (sym len) (refl, refl, refl, refl))

pub joined_all-same : (v : View) (seats : List SeatValue)
    → joined_all v seats ≡ record v { olds = (joined_all v seats).olds }
joined_all-same v [] = refl
joined_all-same v (s ∷ seats) =
    ap (λ (w : View). record w { olds = (joined_all v seats).olds ++ past_of_seat s ∷ [] }) (joined_all-same v seats)

-- a seat that was taken in is among those that the first seat knows
in_olds : (v : View) (seats : List SeatValue) (i : ℕ) (s : SeatValue) → get_elem? seats i ≡ some s
    → (k : ℕ) × (get_elem? (joined_all v seats).olds k ≡ some (past_of_seat s))
in_olds v [] i s e = absurd (some-ne-none s (sym e))
in_olds v (x ∷ seats) zero s e =
    let l : List Past = (joined_all v seats).olds in (
      length l,
      subst (λ (y : SeatValue). get_elem? (l ++ past_of_seat x ∷ []) (length l) ≡ some (past_of_seat y))
          (some-injective x s e) (at_last l (past_of_seat x) (length l) refl),
    )
in_olds v (x ∷ seats) (suc i) s e =
    let t = in_olds v seats i s e in
    (t.0, at_longer (joined_all v seats).olds (past_of_seat x ∷ []) t.0 (past_of_seat s) t.1)

pub first_of_list : {A : Type 0} (l : List A) (a : A) → get_elem? l 0 ≡ some a → l ≡ a ∷ remove l 0
first_of_list [] a e = absurd (some-ne-none a (sym e))
first_of_list (x ∷ xs) a e = λ i. some-injective x a e i ∷ xs

there : {A : Type 0} (l : List A) (i : ℕ) → i < length l → (a : A) × (get_elem? l i ≡ some a)
there [] i h = absurd (omega arith)
there (x ∷ xs) zero h = (x, refl)
there (x ∷ xs) (suc i) h = there xs i (omega arith)

-- The first seat, taken out of a list of all.
pub record IsLed (b : BusValue) (seats : List SeatValue) (lead : SeatValue) (others : List SeatValue) : Type 0 where
  pub split : seats ≡ lead ∷ others
  pub bus : lead.bus ≡ b
  pub system : lead.system ≡ record { 0 = 0 }
  pub tables : AllSeats (λ (v : SeatValue). v.bus.table ≡ b.table) others

pub led : (b : BusValue) (seats l others : List SeatValue) (lead : SeatValue) → l ≡ seats → AreTheSeats b seats
    → (0 < length l → get_elem? l 0 ≡ some lead) → others ≡ remove l 0 → IsLed b seats lead others
led b seats l others lead same all at rest =
    let theirs : AreTheSeats b l = subst (AreTheSeats b) (sym same) all in
    let here : get_elem? l 0 ≡ some lead = at theirs.some_seat in
    let split : l ≡ lead ∷ others = first_of_list l lead here ∙ ap (λ (x : List SeatValue). lead ∷ x) (sym rest) in
    let e = theirs.each 0 lead here in record {
      split = sym same ∙ split;
      bus = e.0;
      system = λ i. record { 0 = e.1 i };
      tables = λ i v h.
          ap (λ (x : BusValue). x.table)
          (theirs.each (suc i) v (ap (λ (x : List SeatValue). get_elem? x (suc i)) split ∙ h)).0;
    }

-- What the slot has at the end, and what it says of the seats.
abbrev pub IsClosed : MediumState → List SeatValue → MediumState → List JEntry → Type 0
IsClosed first seats last journal =
    (last ≡ after_all first journal) × AreRight first journal × AllSeats (Agrees journal) seats

-- what the bus gives at its end, where the first seat has taken in all others
closed :
    (first : MediumValue) (table : TableId) (id : ℕ) (b : BusValue) (v : View) (who : ℕ) (seats : List SeatValue)
    (ws : List ℕ) (xs : List Slot)
    → AreTheSeats b (seat_of table v who ∷ seats) → v.spent ≡ false → v.holding ≡ false → v.system.0 ≡ 0
    → Final (Seen (IsKept first) id (joined_all v seats)) ws xs
    → (slot : Slot) × (get_elem? xs 0 ≡ some slot)
    × IsClosed first.state (seat_of table v who ∷ seats) slot.medium.state slot.journal.items
closed first table id b v who seats ws xs all live idle zeroth fin =
    let w : View = joined_all v seats in let same = joined_all-same v seats in
    let count : v.given ≡ length (seat_of table v who ∷ seats) = all.count (seat_of table v who) refl in
    let covers :
    Covers w = λ n pos below. let g : w.given ≡ v.given = ap (λ (x : View). x.given) same in
    let t = there seats (n - 1) (omega arith) in
    let o = in_olds v seats (n - 1) t.0 t.1 in
    let c : t.0.system.0 ≡ suc (n - 1) = (all.each (suc (n - 1)) t.0 t.1).1 in
    (o.0, past_of_seat t.0, o.1, omega arith) in
    let e =
    ends first id w ws xs (ap (λ (x : View). x.spent) same ∙ live) (ap (λ (x : View). x.holding) same ∙ idle)
    (ap (λ (x : View). x.system.0) same ∙ zeroth) covers fin in
    let slot : Slot = e.slot in let items : slot.journal.items ≡ e.journal = e.settled.0 in (
      slot,
      e.home,
      (
        e.settled.1 ∙ ap (after_all first.state) (sym items),
        subst (AreRight first.state) (sym items) e.right,
        agrees e items,
      ),
    ) where
      agrees : (e : Ended first (joined_all v seats) xs) → e.slot.journal.items ≡ e.journal
          → AllSeats (Agrees e.slot.journal.items) (seat_of table v who ∷ seats)
      agrees e items zero s at = let same = joined_all-same v seats in
          subst (Agrees e.slot.journal.items) (some-injective (seat_of table v who) s at)
          (subst (λ (l : List JEntry). Agrees l (seat_of table v who)) (sym items) (
            ap (λ (x : View). x.own) (sym same) ∙ (e.own ∙ ap (λ (n : ℕ). entries_of n e.journal) (sym zeroth)),
            subst (λ (l : List JEntry). Begins l e.journal) (ap (λ (x : View). x.seen) same) e.seen,
          ))
      agrees e items (suc i) s at = let o = in_olds v seats i s at in let p = e.olds o.0 (past_of_seat s) o.1 in
          subst (λ (l : List JEntry). Agrees l s) (sym items) (p.0, p.1)

-- the same of the medium and the journal that are taken out of the slot, and of the seats as they were handed in
pub closed_as :
    (first : MediumValue) (table : TableId) (id : ℕ) (b : BusValue) (v w : View) (who : ℕ) (given : List SeatValue)
    (lead : SeatValue) (others : List SeatValue) (ws : List ℕ) (xs : List Slot) (slot : Slot) (journal : List JEntry)
    → AreTheSeats b given → IsLed b given lead others → seat_of table v who ≡ lead → v.spent ≡ false → v.holding ≡ false
    → first.state ≡ b.first
    → w ≡ joined_all v others → Final (Seen (IsKept first) id w) ws xs → get_elem? xs 0 ≡ some slot
    → journal ≡ slot.journal.items → IsClosed b.first given slot.medium.state journal
closed_as first table id b v w who given lead others ws xs slot journal all l shown live idle start is fin at items =
    let back : given ≡ seat_of table v who ∷ others = l.split ∙ ap (λ (x : SeatValue). x ∷ others) (sym shown) in
    let t =
    closed first table id b v who others ws xs (subst (AreTheSeats b) back all) live idle
    (ap (λ (s : SysId). s.0) (ap (λ (x : SeatValue). x.system) shown ∙ l.system))
    (subst (λ (x : View). Final (Seen (IsKept first) id x) ws xs) is fin) in
    let here =
    subst (λ (x : Slot). IsClosed first.state (seat_of table v who ∷ others) x.medium.state x.journal.items)
    (some-injective t.0 slot (sym t.1 ∙ at)) t.2 in
    subst (λ (x : MediumState). IsClosed x given slot.medium.state journal) start
    (subst (λ (x : List SeatValue). IsClosed first.state x slot.medium.state journal) (sym back)
    (subst (IsClosed first.state (seat_of table v who ∷ others) slot.medium.state) (sym items) here))

pub still : (m : Me Slot View) (v : View) (gone : List SeatValue) → m ≡ (joined_all v gone, [])
    → (m.0.spent ≡ v.spent) × (m.0.holding ≡ v.holding) × (m.0.system ≡ v.system)
still m v gone e =
    let same = joined_all-same v gone in let at : m.0 ≡ joined_all v gone = ap (λ (m : Me Slot View). m.0) e in (
      ap (λ (x : View). x.spent) at ∙ ap (λ (x : View). x.spent) same,
      ap (λ (x : View). x.holding) at ∙ ap (λ (x : View). x.holding) same,
      ap (λ (x : View). x.system) at ∙ ap (λ (x : View). x.system) same,
    )
