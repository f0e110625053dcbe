-- From the three parts of a call, which take the word, work on the slot and give the word back, to what the call says
-- of its seat.
use Rattle.std.proofs.Common.{◌≡◌, ℕ, ◌<◌, ◌^◌, List, [], ◌∷◌, ◌++◌, Bool, true, false, Result, Ok, Err, IfOk, OnErr}
use Rattle.std.proofs.Common.{MatchResult, length, get_or, refl, sym, ap, ◌∙◌, subst, inl, inr}
use Rattle.atomic_table.specs.Seated.{TableId}
use Rattle.atomic_table.specs.Table.{Me}
use Rattle.grs_base.specs.declared.fault.NoMemory.{NoMemory}
use Rattle.grs_base.specs.declared.resource.SysId.{SysId}
use Rattle.grs_wire.specs.declared.medium.Call.{Call}
use Rattle.grs_wire.specs.declared.medium.JEntry.{JEntry}
use Rattle.grs_wire.specs.declared.medium.Reply.{Reply}
use Rattle.grs_medium.specs.Apply.{reply_to, medium_after, MayCall}
use Rattle.grs_medium.specs.Medium.{MediumState}
use Rattle.grs_bus.specs.Journal.{is_entered, concerned_by, entry_of, after_all, AreRight, entries_of, Begins}
use Rattle.grs_bus.specs.Places.{Holds, seat_of}
use Rattle.grs_bus.specs.Rule.{IsSettled}
use Rattle.grs_bus.specs.Seats.{BusValue, SeatValue, with_entry, IsAnswered, IsRefused}
use Rattle.grs_bus.specs.Slots.{Answers, IsUnchanged}
use Rattle.grs_bus.specs.Steps.{taken, given_back, Took, MayComeHome}
use Rattle.grs_bus.specs.declared.slot.Slot.{Slot}
use Rattle.grs_bus.specs.declared.view.View.{View}
use Rattle.grs_bus.proofs.JournalLaws.{after_all-snoc, AreRight-snoc, entries_of-own, can_be_asked, stays}

abbrev M : Type 0
M = Me Slot View

abbrev Answer : Type 0
Answer = Result (Reply × Bool) NoMemory

one_slot : (l : List (ℕ × Slot)) (a b : Slot) → l ≡ (0, a) ∷ [] → l ≡ (0, b) ∷ [] → a ≡ b
one_slot l a b p q = ap (λ (l : List (ℕ × Slot)). (get_or l 0 (0, a)).1) (sym p ∙ q)

held : (word : ℕ) (m m' : M) (k : Took word m m') → m.1 ≡ [] → m'.1 ≡ (0, k.slot) ∷ []
held word m m' k none_left = ap (λ (x : M). x.1) k.me ∙ ap (λ (l : List (ℕ × Slot)). (0, k.slot) ∷ l) none_left

-- What is known of a call before it: its seat has no slot and is of the system s, and its first medium is this one,
-- which can be asked the call.
abbrev pub Asks : MediumState → SysId → Call → M → Type 0
Asks first s call m = (m.1 ≡ []) × (m.0.system ≡ s) × (m.0.first.state ≡ first) × MayCall first s call

pub asks : (b : BusValue) (table : TableId) (before : ℕ) (seat : SeatValue) (s : SysId) (call : Call) (m : M)
    → seat_of table m.0 before ≡ seat → m.1 ≡ [] → m.0.system ≡ s → seat.bus ≡ b → MayCall b.first seat.system call
    → Asks b.first s call m
asks b table before seat s call m shown none_left is of can = (
  none_left,
  is,
  ap (λ (v : SeatValue). v.bus.first) shown ∙ ap (λ (x : BusValue). x.first) of,
  subst (λ (t : SysId). MayCall b.first t call) (sym (ap (λ (v : SeatValue). v.system) shown) ∙ is) can,
)

-- what the medium could be asked at the start it can be asked where the word was taken
pub may_work : (first : MediumState) (word : ℕ) (s : SysId) (call : Call) (m m' : M) → Asks first s call m
    → Took word m m' → Holds m' (λ slot. MayCall slot.medium.state s call)
may_work first word s call m m' asks k = (
  k.slot,
  held word m m' k asks.0,
  subst (λ (x : MediumState). MayCall x s call)
      (sym (k.settled.1 ∙ ap (λ (x : MediumState). after_all x k.journal) asks.2))
      (can_be_asked first k.journal s call (subst (λ (x : MediumState). AreRight x k.journal) asks.2 k.right) asks.3),
)

-- what becomes of the slot by the work on it, by which the call concerned these systems
abbrev Moved : SysId → Call → Answer → ℕ → Slot → Slot → Type 0
Moved s call answer who old new =
    MatchResult answer (λ told. Answers s call old new told × (who ≡ concerned_by old.medium.state s call))
    (λ _. IsUnchanged old new × (who ≡ 0))

-- what the work on the slot says
abbrev Worked : SysId → Call → Answer → ℕ → ℕ → M → M → Type 0
Worked s call answer count who m m' =
    Holds m (λ old.
    Holds m' (λ new.
    Moved s call answer who old new
    × (count ≡ length new.journal.items) × (length old.journal.items < 2 ^ 58 → count < 2 ^ 58)))

-- The slot behind an answered call that took the word at this journal.
record Grew (v : View) (journal : List JEntry) (call : Call) (new : Slot) (told : Reply × Bool) : Type 0 where
  home : MayComeHome (taken v journal) new
  reply : told.0 ≡ reply_to (after_all v.first.state journal) v.system call
  entered : told.1 ≡ is_entered (after_all v.first.state journal) v.system call
  own : entries_of v.system.0 new.journal.items ≡ with_entry v.own v.system call told
  seen : new.journal.items ≡ with_entry journal v.system call told

grew : (v : View) (journal : List JEntry) (old new : Slot) (call : Call) (told : Reply × Bool)
    → IsSettled v.first.state journal old → AreRight v.first.state journal → v.own ≡ entries_of v.system.0 journal
    → MayCall (after_all v.first.state journal) v.system call → Answers v.system call old new told
    → Grew v journal call new told
grew v journal old new call (reply, true) settled right own can a =
    let e : JEntry = entry_of v.system call reply in
    let m : MediumState = after_all v.first.state journal in
    let items : new.journal.items ≡ journal ++ e ∷ [] = a.2 ∙ ap (λ l. l ++ e ∷ []) settled.0 in
    let right_reply : reply ≡ reply_to m v.system call =
    a.0 ∙ ap (λ (x : MediumState). reply_to x v.system call) settled.1 in
    let put_in : true ≡ is_entered m v.system call =
    a.1 ∙ ap (λ (x : MediumState). is_entered x v.system call) settled.1 in
    record {
      home = record {
        medium =
            a.3
            ∙ (ap (λ (x : MediumState). medium_after x v.system call) settled.1
            ∙ (sym (after_all-snoc v.first.state journal e) ∙ ap (after_all v.first.state) (sym items)));
        right =
            subst (AreRight v.first.state) (sym items)
            (AreRight-snoc v.first.state journal e right (can, right_reply, sym put_in));
        more = inr (e, items, refl);
      };
      reply = right_reply;
      entered = put_in;
      own =
          ap (entries_of v.system.0) items
          ∙ (entries_of-own journal e v.system.0 refl ∙ ap (λ l. l ++ e ∷ []) (sym own));
      seen = items;
    }
grew v journal old new call (reply, false) settled right own can a =
    let items : new.journal.items ≡ journal = a.2 ∙ settled.0 in
    let left_out : false ≡ is_entered (after_all v.first.state journal) v.system call =
    a.1 ∙ ap (λ (x : MediumState). is_entered x v.system call) settled.1 in
    record {
      home = record {
        medium =
            a.3
            ∙ (ap (λ (x : MediumState). medium_after x v.system call) settled.1
            ∙ (stays (after_all v.first.state journal) v.system call (sym left_out)
            ∙ ap (after_all v.first.state) (sym items)));
        right = subst (AreRight v.first.state) (sym items) right;
        more = inl items;
      };
      reply = a.0 ∙ ap (λ (x : MediumState). reply_to x v.system call) settled.1;
      entered = left_out;
      own = ap (entries_of v.system.0) items ∙ sym own;
      seen = items;
    }

unchanged_home : (v : View) (journal : List JEntry) (old new : Slot) → IsSettled v.first.state journal old
    → AreRight v.first.state journal → IsUnchanged old new → MayComeHome (taken v journal) new
unchanged_home v journal old new settled right u = let items : new.journal.items ≡ journal = u.0 ∙ settled.0 in record {
  medium = u.1 ∙ (settled.1 ∙ ap (after_all v.first.state) (sym items));
  right = subst (AreRight v.first.state) (sym items) right;
  more = inl items;
}

either_home : (v : View) (journal : List JEntry) (old new : Slot) (call : Call) (answer : Answer) (who : ℕ)
    → IsSettled v.first.state journal old → AreRight v.first.state journal → v.own ≡ entries_of v.system.0 journal
    → MayCall (after_all v.first.state journal) v.system call
    → Moved v.system call answer who old new → MayComeHome (taken v journal) new
either_home v journal old new call (Ok told) who settled right own can a =
    (grew v journal old new call told settled right own can a.0).home
either_home v journal old new call (Err e) who settled right own can u =
    unchanged_home v journal old new settled right u.0

-- The parts of a call, side by side.
record Parts (call : Call) (answer : Answer) (count who : ℕ) (m m' : M) : Type 0 where
  journal : List JEntry
  old : Slot
  new : Slot
  here : m'.1 ≡ (0, new) ∷ []
  view : m'.0 ≡ taken m.0 journal
  longer : Begins m.0.seen journal
  settled : IsSettled m.0.first.state journal old
  right : AreRight m.0.first.state journal
  own : m.0.own ≡ entries_of m.0.system.0 journal
  can : MayCall (after_all m.0.first.state journal) m.0.system call
  moved : Moved m.0.system call answer who old new
  size : count ≡ length new.journal.items

parts : (first : MediumState) (word : ℕ) (s : SysId) (call : Call) (answer : Answer) (count who : ℕ) (m₀ m₁ m₂ : M)
    → Asks first s call m₀ → Took word m₀ m₁ → m₂.0 ≡ m₁.0 → Worked s call answer count who m₁ m₂
    → Parts call answer count who m₀ m₂
parts first word s call answer count who m₀ m₁ m₂ asks k same w =
    let e : k.slot ≡ w.0 = one_slot m₁.1 k.slot w.0 (held word m₀ m₁ k asks.0) w.1 in record {
      journal = k.journal;
      old = w.0;
      new = w.2.0;
      here = w.2.1;
      view = same ∙ ap (λ (x : M). x.0) k.me;
      longer = k.longer;
      settled = subst (IsSettled m₀.0.first.state k.journal) e k.settled;
      right = k.right;
      own = k.own;
      can =
          can_be_asked m₀.0.first.state k.journal m₀.0.system call k.right
          (subst (λ (x : MediumState). MayCall x m₀.0.system call) (sym asks.2)
          (subst (λ (t : SysId). MayCall first t call) (sym asks.1) asks.3));
      moved =
          subst (λ (t : SysId). Moved t call answer who w.0 w.2.0) (sym asks.1) w.2.2.0;
      size = w.2.2.1;
    }

pub may_give : (first : MediumState) (word : ℕ) (s : SysId) (call : Call) (answer : Answer) (count who : ℕ) (m₀ m₁ m₂ : M)
    → Asks first s call m₀ → Took word m₀ m₁ → m₂.0 ≡ m₁.0 → Worked s call answer count who m₁ m₂
    → Holds m₂ (λ slot. MayComeHome m₂.0 slot × (count ≡ length slot.journal.items))
may_give first word s call answer count who m₀ m₁ m₂ asks k same w =
    let p = parts first word s call answer count who m₀ m₁ m₂ asks k same w in (
      p.new,
      p.here,
      (
        subst (λ (v : View). MayComeHome v p.new) (sym p.view)
            (either_home m₀.0 p.journal p.old p.new call answer who p.settled p.right p.own p.can p.moved),
        p.size,
      ),
    )

-- what giving back says
abbrev Gave : M → M → Type 0
Gave m m' = Holds m (λ slot. m' ≡ (given_back m.0 slot.journal.items, []))

view_after : (call : Call) (answer : Answer) (count who : ℕ) (m₀ m₂ m₃ : M) (p : Parts call answer count who m₀ m₂)
    → Gave m₂ m₃
    → m₃.0 ≡ given_back (taken m₀.0 p.journal) p.new.journal.items
view_after call answer count who m₀ m₂ m₃ p g = let e : g.0 ≡ p.new = one_slot m₂.1 g.0 p.new g.1 p.here in
    ap (λ (x : M). x.0) g.2 ∙ λ i. given_back (p.view i) (e i).journal.items

answered : (table table' : TableId) (call : Call) (answer : Answer) (count before who : ℕ) (m₀ m₂ m₃ : M)
    → Parts call answer count who m₀ m₂ → Gave m₂ m₃
    → IfOk answer (λ told. IsAnswered (seat_of table m₀.0 before) call told (seat_of table' m₃.0 who))
answered table table' call (Ok told) count before who m₀ m₂ m₃ p g =
    let v = view_after call (Ok told) count who m₀ m₂ m₃ p g in
    let q = grew m₀.0 p.journal p.old p.new call told p.settled p.right p.own p.can p.moved.0 in
    record {
      journal = p.journal;
      taken = record { seen = p.longer; own = p.own; right = p.right };
      reply = q.reply;
      entered = q.entered;
      own = ap (λ (x : View). x.own) v ∙ q.own;
      seen = ap (λ (x : View). x.seen) v ∙ q.seen;
      concerned = p.moved.1 ∙ ap (λ (x : MediumState). concerned_by x m₀.0.system call) p.settled.1;
    }
answered table table' call (Err e) count before who m₀ m₂ m₃ p g = tt

refused : (table table' : TableId) (call : Call) (answer : Answer) (count before who : ℕ) (m₀ m₂ m₃ : M)
    → Parts call answer count who m₀ m₂ → Gave m₂ m₃
    → OnErr answer (IsRefused (seat_of table m₀.0 before) (seat_of table' m₃.0 who))
refused table table' call (Ok told) count before who m₀ m₂ m₃ p g = tt
refused table table' call (Err e) count before who m₀ m₂ m₃ p g =
    let v = view_after call (Err e) count who m₀ m₂ m₃ p g in
    let items : p.new.journal.items ≡ p.journal = p.moved.0.0 ∙ p.settled.0 in
    record {
      journal = p.journal;
      taken = record { seen = p.longer; own = p.own; right = p.right };
      own = ap (λ (x : View). x.own) v ∙ (ap (entries_of m₀.0.system.0) items ∙ sym p.own);
      seen = ap (λ (x : View). x.seen) v ∙ items;
      concerned = p.moved.1;
    }

pub call_answered :
    (first : MediumState) (table table' : TableId) (word : ℕ) (s : SysId) (call : Call) (answer : Answer)
    (count before who : ℕ) (m₀ m₁ m₂ m₃ : M)
    → Asks first s call m₀ → Took word m₀ m₁ → m₂.0 ≡ m₁.0
    → Worked s call answer count who m₁ m₂ → Gave m₂ m₃
    → IfOk answer (λ told. IsAnswered (seat_of table m₀.0 before) call told (seat_of table' m₃.0 who))
call_answered first table table' word s call answer count before who m₀ m₁ m₂ m₃ asks k view w g =
    answered table table' call answer count before who m₀ m₂ m₃
    (parts first word s call answer count who m₀ m₁ m₂ asks k view w) g

pub call_refused :
    (first : MediumState) (table table' : TableId) (word : ℕ) (s : SysId) (call : Call) (answer : Answer)
    (count before who : ℕ) (m₀ m₁ m₂ m₃ : M)
    → Asks first s call m₀ → Took word m₀ m₁ → m₂.0 ≡ m₁.0
    → Worked s call answer count who m₁ m₂ → Gave m₂ m₃
    → OnErr answer (IsRefused (seat_of table m₀.0 before) (seat_of table' m₃.0 who))
call_refused first table table' word s call answer count before who m₀ m₁ m₂ m₃ asks k view w g =
    refused table table' call answer count before who m₀ m₂ m₃
    (parts first word s call answer count who m₀ m₁ m₂ asks k view w) g
