-- A text that is told and no fault give the whole answer of a command.
use Rattle.std.proofs.Common.{◌≡◌, ◌≤◌, ◌<◌, ℕ, List, length, take, refl, ap, sym, subst, inl, inr, arith, Option, None, Some}
use Rattle.std.proofs.Common.{◌∙◌, ◌+◌, ◌⊎◌}
use Rattle.std.specs.Io.KnownBytes.{Appends}
use Rattle.std.proofs.lemmas.Bool.{lt-ltb}
use Rattle.std.proofs.lemmas.List.{take_all, length-take-le}
use Rattle.std.proofs.lemmas.Option.{none-some}
use native.Mathlib.Decide.{dec_lt}
use Rattle.grs_base.specs.declared.fault.DeckFault.{DeckFault}
use Rattle.grs_base.specs.declared.fault.Kind.TheVariants.{TooLong}
use Rattle.grs_wire.specs.declared.deck.Deck.{Deck as DeckValue}
use Rattle.deck_scan.specs.Reading.{most_text_bytes, byte_fault}
use Rattle.grs_deck.specs.Faults.{IsFault, IsFaultless, FaultOfLines}
use Rattle.grs_deck.specs.Spells.{SpellsDeck}
use Rattle.grs_audit.specs.Halves.{most_audited_bytes, deck_part, Audited, SpellsAudited, IsFaultOfAudited}
use Rattle.grs_latch.specs.declared.call.LatchCall.{LatchCall}
use Rattle.latch_form.specs.Faults.{IsFault as IsFaultOfCalls, IsFaultless as IsFaultlessOfCalls}
use Rattle.latch_form.specs.Faults.{FaultOfLines as FaultOfCallLines}
use Rattle.latch_form.specs.Spelled.{SpellsCalls}
use Rattle.grs_io.specs.Faults.{last_count, HasRisen}
use Rattle.grs_io.specs.Moved.{TakesFirst}
use Rattle.grs_top.specs.declared.status.Status.{Status}
use Rattle.grs_top.specs.declared.status.Status.TheVariants as statuses
use Rattle.grs_top.specs.declared.words.Command.{Command}
use Rattle.grs_top.specs.declared.words.Command.TheVariants.{Replay, Run, Lists, Analyze, Notices, Latch, Stop, Audit}
use Rattle.grs_top.specs.Commands.{limit_of, InputOf, SpellsInput, IsFaultOf, IsTextOf}
use Rattle.grs_deck.specs.Places.{system_place}
use Rattle.grs_top.specs.Due.{fault_line}
use Rattle.grs_top.specs.Stops.{SpellsDeckOf, IsFaultFor}
use Rattle.grs_top.specs.StopWords.{StopValue}
use Rattle.grs_top.specs.Answers.{Streams, TakesAll, Completes, Answers}
use Rattle.grs_top.specs.Whole.{Tells, IsWhole, WholeUnlessMemory, TellsFault, RefusedUnlessMemory, HasNoFault, FaultsAreFailedCalls}

-- How texts are read: each spells one input or has one first fault, never both; what spells one is within the limit,
-- and a longer text has the fault of its front.
record IsReader (Input : Type 0) (Spells : List ℕ → Input → Type 0) (Fails : List ℕ → DeckFault → Type 0) (limit : ℕ) :
    Type 0 where
  one : (text : List ℕ) (x y : Input) → Spells text x → Spells text y → x ≡ y
  one_fault : (text : List ℕ) (f g : DeckFault) → Fails text f → Fails text g → f ≡ g
  faultless : (text : List ℕ) (x : Input) → Spells text x → (f : DeckFault) → Fails text f → ⊥
  short : (text : List ℕ) (x : Input) → Spells text x → length text ≤ limit
  front : (text : List ℕ) (f : DeckFault) → Fails text f → Fails (take (limit + 1) text) f

-- so the text of a command is
abbrev IsRead : Command → Type 0
IsRead c = IsReader (InputOf c) (SpellsInput c) (IsFaultOf c) (limit_of c)

-- ---- texts whose bytes are looked at first
too_long : (text : List ℕ) → most_text_bytes < length text
    → byte_fault text ≡ Some (record { line = 0; kind = TooLong })
too_long text long = rw (lt-ltb most_text_bytes (length text) long) refl

-- a fault of the bytes, or where there is none, one of the lines
module _
    (OfLines : List ℕ → DeckFault → Type 0)
    (allowed : (text : List ℕ) (f : DeckFault) → OfLines text f → byte_fault text ≡ None) where
  abbrev OfText : List ℕ → DeckFault → Type 0
  OfText text f = (byte_fault text ≡ Some f) ⊎ OfLines text f

  -- the bytes that are read have the same first fault as the text
  long_front : (text : List ℕ) (f : DeckFault) → most_text_bytes < length text
      → most_text_bytes < length (take (most_text_bytes + 1) text) → OfText text f
      → OfText (take (most_text_bytes + 1) text) f
  long_front text f long room (inl here) =
      inl (too_long (take (most_text_bytes + 1) text) room ∙ sym (too_long text long) ∙ here)
  long_front text f long room (inr lines) =
      absurd (none-some (record { line = 0; kind = TooLong }) (sym (allowed text f lines) ∙ too_long text long))

  front_of : (text : List ℕ) (f : DeckFault) → OfText text f → OfText (take (most_text_bytes + 1) text) f
  front_of text f fault = by_length (dec_lt most_text_bytes (length text))
    where
      by_length : Dec (most_text_bytes < length text) → OfText (take (most_text_bytes + 1) text) f
      by_length (no within) =
          subst (λ t. OfText t f) (sym (take_all (most_text_bytes + 1) text (omega arith))) fault
      by_length (yes long) =
          let whole : length (take (most_text_bytes + 1) text) ≡ most_text_bytes + 1 =
          length-take-le (most_text_bytes + 1) text (omega arith) in
          long_front text f long (omega (arith, whole)) fault

deck_front : (text : List ℕ) (f : DeckFault) → IsFault text f → IsFault (take (most_text_bytes + 1) text) f
deck_front = front_of FaultOfLines (λ text f lines. lines.allowed)

calls_front : (text : List ℕ) (f : DeckFault) → IsFaultOfCalls text f
    → IsFaultOfCalls (take (most_text_bytes + 1) text) f
calls_front = front_of FaultOfCallLines (λ text f lines. lines.allowed)

-- ---- texts of a deck and a report
no_fault_of_long : (n : ℕ) → most_audited_bytes < n → n ≤ most_audited_bytes → ⊥
no_fault_of_long n long short = absurd (omega (arith, long, short))

audited_front : (text : List ℕ) (f : DeckFault) → IsFaultOfAudited text f
    → IsFaultOfAudited (take (most_audited_bytes + 1) text) f
audited_front text f (inl long) =
    let whole : length (take (most_audited_bytes + 1) text) ≡ most_audited_bytes + 1 =
    length-take-le (most_audited_bytes + 1) text (let l = long.0 in omega (arith, l)) in
    inl (omega (arith, whole), long.1)
audited_front text f (inr short) =
    subst (λ t. IsFaultOfAudited t f)
    (sym (take_all (most_audited_bytes + 1) text (let s = short.0 in omega (arith, s)))) (inr short)

-- ---- what is read of a source that tells its bytes
not_risen : (old new : ℕ) → new ≡ old → old < last_count → HasRisen old new → ⊥
not_risen old new same below (inl more) = omega arith
not_risen old new same below (inr last) = omega (arith, last.0)

module _ (c : Command) (reads : IsRead c) where
  all_spells : (old new : Option (List ℕ)) (text : List ℕ) (x : InputOf c) → Tells c old x → TakesAll old new text
      → SpellsInput c text x
  all_spells None new text x tells read = absurd tells
  all_spells (Some xs) None text x tells read = absurd read
  all_spells (Some xs) (Some ys) text x tells read = subst (λ (t : List ℕ). SpellsInput c t x) (sym read.0) tells

  first_spells : (old new : Option (List ℕ)) (text : List ℕ) (x : InputOf c) → Tells c old x
      → TakesFirst (limit_of c + 1) old new text → SpellsInput c text x
  first_spells None new text x tells read = absurd tells
  first_spells (Some xs) None text x tells read = absurd read
  first_spells (Some xs) (Some ys) text x tells read =
      let short : length xs ≤ limit_of c + 1 = omega (arith, reads.short xs x tells) in
      subst (λ (t : List ℕ). SpellsInput c t x) (sym (read.0 ∙ take_all (limit_of c + 1) xs short)) tells

  all_faulty : (old new : Option (List ℕ)) (text : List ℕ) (f : DeckFault) → TellsFault c old f
      → TakesAll old new text → IsFaultOf c text f
  all_faulty None new text f tells read = absurd tells
  all_faulty (Some xs) None text f tells read = absurd read
  all_faulty (Some xs) (Some ys) text f tells read = subst (λ (t : List ℕ). IsFaultOf c t f) (sym read.0) tells

  first_faulty : (old new : Option (List ℕ)) (text : List ℕ) (f : DeckFault) → TellsFault c old f
      → TakesFirst (limit_of c + 1) old new text → IsFaultOf c text f
  first_faulty None new text f tells read = absurd tells
  first_faulty (Some xs) None text f tells read = absurd read
  first_faulty (Some xs) (Some ys) text f tells read =
      subst (λ (t : List ℕ). IsFaultOf c t f) (sym read.0) (reads.front xs f tells)

  completed : (x : InputOf c) (old new : Streams) (s : Status) → Tells c old.left x → Completes c old new s
      → IsWhole c x old new s
  completed x old new s tells r =
      let same : r.answered.input ≡ x =
      reads.one r.text r.answered.input x r.answered.spelled (all_spells old.left new.left r.text x tells r.read) in
      record {
        out = r.out;
        written = r.written;
        is_text = subst (λ (y : InputOf c). IsTextOf c y r.out s) same r.answered.is_text;
      }

  not_complete : (f : DeckFault) (old new : Streams) (s : Status) → TellsFault c old.left f
      → Completes c old new s → ⊥
  not_complete f old new s tells r =
      reads.faultless r.text r.answered.input r.answered.spelled f (all_faulty old.left new.left r.text f tells r.read)

  whole_of : (x : InputOf c) (old new : Streams) (s : Status) → Answers c old new s → Tells c old.left x
      → HasNoFault old new → IsWhole c x old new s ⊎ (s ≡ statuses.NoMemory)
  whole_of x old new statuses.Done done tells none = inl (completed x old new statuses.Done tells done)
  whole_of x old new statuses.Waits done tells none = inl (completed x old new statuses.Waits tells done)
  whole_of x old new statuses.Deck done tells none =
      absurd (reads.faultless done.text x (first_spells old.left new.left done.text x tells done.read)
      done.refused.first done.refused.is_first)
  whole_of x old new statuses.Words done tells none = absurd done
  whole_of x old new statuses.ReadFault done tells none =
      absurd (not_risen old.failed_reads new.failed_reads none.failed_reads none.failed_reads_below done.failed_reads)
  whole_of x old new statuses.WriteFault done tells none =
      absurd (not_risen old.failed_writes new.failed_writes none.failed_writes none.failed_writes_below
      done.failed_writes)
  whole_of x old new statuses.NoMemory done tells none = inr refl
  whole_of x old new statuses.Bad done tells none = inl (completed x old new statuses.Bad tells done)

  refused_of : (f : DeckFault) (old new : Streams) (s : Status) → Answers c old new s → TellsFault c old.left f
      → HasNoFault old new
      → (Appends old.written new.written (fault_line f) × (s ≡ statuses.Deck)) ⊎ (s ≡ statuses.NoMemory)
  refused_of f old new statuses.Done done tells none = absurd (not_complete f old new statuses.Done tells done)
  refused_of f old new statuses.Waits done tells none = absurd (not_complete f old new statuses.Waits tells done)
  refused_of f old new statuses.Deck done tells none =
      let same : done.refused.first ≡ f =
      reads.one_fault done.text done.refused.first f done.refused.is_first
      (first_faulty old.left new.left done.text f tells done.read) in
      inl (
        subst (Appends old.written new.written) (done.refused.line ∙ ap fault_line same) done.written,
        refl,
      )
  refused_of f old new statuses.Words done tells none = absurd done
  refused_of f old new statuses.ReadFault done tells none =
      absurd (not_risen old.failed_reads new.failed_reads none.failed_reads none.failed_reads_below done.failed_reads)
  refused_of f old new statuses.WriteFault done tells none =
      absurd (not_risen old.failed_writes new.failed_writes none.failed_writes none.failed_writes_below
      done.failed_writes)
  refused_of f old new statuses.NoMemory done tells none = inr refl
  refused_of f old new statuses.Bad done tells none = absurd (not_complete f old new statuses.Bad tells done)

-- ---- the commands
module _
    (one : (text : List ℕ) (d e : DeckValue) → SpellsDeck text d → SpellsDeck text e → d ≡ e)
    (one_fault : (text : List ℕ) (f g : DeckFault) → IsFault text f → IsFault text g → f ≡ g)
    (spelled : (text : List ℕ) (d : DeckValue) → SpellsDeck text d → IsFaultless text)
    (one_calls : (text : List ℕ) (cs ds : List LatchCall) → SpellsCalls text cs → SpellsCalls text ds → cs ≡ ds)
    (one_fault_of_calls : (text : List ℕ) (f g : DeckFault) → IsFaultOfCalls text f → IsFaultOfCalls text g → f ≡ g)
    (spelled_calls : (text : List ℕ) (cs : List LatchCall) → SpellsCalls text cs → IsFaultlessOfCalls text) where
  decks : IsReader DeckValue SpellsDeck IsFault most_text_bytes
  decks = record {
    one = one;
    one_fault = one_fault;
    faultless = spelled;
    short = λ text d s. s.short;
    front = deck_front;
  }

  calls : IsReader (List LatchCall) SpellsCalls IsFaultOfCalls most_text_bytes
  calls = record {
    one = one_calls;
    one_fault = one_fault_of_calls;
    faultless = spelled_calls;
    short = λ text cs s. s.short;
    front = calls_front;
  }

  front_whole : (text : List ℕ) (d : DeckValue) → SpellsDeck text d → take (most_text_bytes + 1) text ≡ text
  front_whole text d s =
      take_all (most_text_bytes + 1) text (let l : length text ≤ most_text_bytes = s.short in omega (arith, l))

  -- a deck that has the system that stops
  stopping : (x : StopValue) → IsReader DeckValue (SpellsDeckOf x) (IsFaultFor x) most_text_bytes
  stopping x = record {
    one = λ text d e s t. one text d e s.spelled t.spelled;
    one_fault = same;
    faultless = none;
    short = λ text d s. s.spelled.short;
    front = fronts;
  }
    where
      same : (text : List ℕ) (f g : DeckFault) → IsFaultFor x text f → IsFaultFor x text g → f ≡ g
      same text f g (inl a) (inl b) = one_fault text f g a b
      same text f g (inl a) (inr b) = absurd (spelled text b.0 b.1 f a)
      same text f g (inr a) (inl b) = absurd (spelled text a.0 a.1 g b)
      same text f g (inr a) (inr b) = a.3 ∙ sym b.3

      none : (text : List ℕ) (d : DeckValue) → SpellsDeckOf x text d → (f : DeckFault) → IsFaultFor x text f → ⊥
      none text d s f (inl a) = spelled text d s.spelled f a
      none text d s f (inr a) =
          let is : a.0 ≡ d = one text a.0 d a.1 s.spelled in
          none-some s.place
          (sym (ap (λ (z : DeckValue). system_place z.systems x.name) (sym is) ∙ a.2) ∙ s.named)

      fronts : (text : List ℕ) (f : DeckFault) → IsFaultFor x text f → IsFaultFor x (take (most_text_bytes + 1) text) f
      fronts text f (inl a) = inl (deck_front text f a)
      fronts text f (inr a) =
          subst (λ (t : List ℕ). IsFaultFor x t f) (sym (front_whole text a.0 a.1)) (inr a)

  one_audited : (text : List ℕ) (x y : Audited) → SpellsAudited text x → SpellsAudited text y → x ≡ y
  one_audited text x y s t =
      ap (λ d. record { deck = d; report = x.report; first = x.first })
      (one (deck_part text) x.deck y.deck s.deck t.deck)
      ∙ ap (λ r. record { deck = y.deck; report = r; first = x.first }) (s.report ∙ sym t.report)
      ∙ ap (λ n. record { deck = y.deck; report = y.report; first = n }) (s.first ∙ sym t.first)

  one_fault_of_audited : (text : List ℕ) (f g : DeckFault) → IsFaultOfAudited text f → IsFaultOfAudited text g → f ≡ g
  one_fault_of_audited text f g (inl a) (inl b) = a.1 ∙ sym b.1
  one_fault_of_audited text f g (inl a) (inr b) = absurd (no_fault_of_long (length text) a.0 b.0)
  one_fault_of_audited text f g (inr a) (inl b) = absurd (no_fault_of_long (length text) b.0 a.0)
  one_fault_of_audited text f g (inr a) (inr b) = one_fault (deck_part text) f g a.1 b.1

  spelled_audited : (text : List ℕ) (x : Audited) → SpellsAudited text x → (f : DeckFault) → IsFaultOfAudited text f → ⊥
  spelled_audited text x s f (inl a) = no_fault_of_long (length text) a.0 s.short
  spelled_audited text x s f (inr a) = spelled (deck_part text) x.deck s.deck f a.1

  audited : IsReader Audited SpellsAudited IsFaultOfAudited most_audited_bytes
  audited = record {
    one = one_audited;
    one_fault = one_fault_of_audited;
    faultless = spelled_audited;
    short = λ text x s. s.short;
    front = audited_front;
  }

  reads : (c : Command) → IsRead c
  reads Replay = decks
  reads Run = decks
  reads Lists = decks
  reads Analyze = decks
  reads Notices = decks
  reads Latch = calls
  reads (Stop x) = stopping x
  reads Audit = audited

  pub whole : WholeUnlessMemory
  whole c = whole_of c (reads c)

  pub refused : RefusedUnlessMemory
  refused c = refused_of c (reads c)

pub no_faults : FaultsAreFailedCalls
no_faults c old new status done none = (
  λ e. read_fault (subst (Answers c old new) e done),
  λ e. write_fault (subst (Answers c old new) e done),
)
  where
    read_fault : Answers c old new statuses.ReadFault → ⊥
    read_fault fails =
        not_risen old.failed_reads new.failed_reads none.failed_reads none.failed_reads_below fails.failed_reads

    write_fault : Answers c old new statuses.WriteFault → ⊥
    write_fault fails =
        not_risen old.failed_writes new.failed_writes none.failed_writes none.failed_writes_below fails.failed_writes
