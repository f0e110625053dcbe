-- Worked histories, by which the definition is checked: entries that may stand where they stand, and entries that may
-- not.
use Rattle.std.proofs.Common.{◌≡◌, ℕ, true, false, List, [], ◌∷◌, ◌++◌, length, Some, None, refl, arith}
use Rattle.grs_base.specs.declared.decision.Code.{Code}
use Rattle.grs_base.specs.declared.decision.Code.TheVariants.{C00, C04, Wait, End}
use Rattle.grs_base.specs.declared.line.Line.TheVariants as texts
use Rattle.grs_base.specs.declared.look.Filter.{Filter}
use Rattle.grs_base.specs.declared.look.Filter.TheVariants as filters
use Rattle.grs_base.specs.declared.look.Place.TheVariants as places
use Rattle.grs_base.specs.declared.resource.Ctl.TheVariants.{E}
use Rattle.grs_base.specs.declared.resource.Res.{Res}
use Rattle.grs_base.specs.declared.resource.Res.TheVariants as kinds
use Rattle.grs_base.specs.declared.resource.Ret.{Ret}
use Rattle.grs_base.specs.declared.resource.Row.{Row}
use Rattle.grs_base.specs.declared.resource.Ret.TheVariants.{RetNone, RetEcb}
use Rattle.grs_base.specs.Rnl.{no_entries}
use Rattle.grs_base.specs.declared.resource.SysId.{SysId}
use Rattle.grs_base.specs.declared.resource.TaskId.{TaskId}
use Rattle.grs_base.specs.declared.rnl.Which.TheVariants as which
use Rattle.grs_wire.specs.declared.deck.Deck.{Deck}
use Rattle.grs_wire.specs.declared.deck.Order.TheVariants as orders
use Rattle.grs_wire.specs.declared.history.HistEntry.{HistEntry}
use Rattle.grs_wire.specs.declared.history.HistEntry.TheVariants.{Enq, Deq, Release, Look, Remove}
use Rattle.grs_wire.specs.declared.request.Answer.TheVariants.{Coded, Rows}
use Rattle.grs_legal.specs.Asks.{AsksEnq, AsksDeq, AsksRelease, AsksLook, meaning_of, asks_in, asks_of}
use Rattle.grs_legal.specs.Legal.{IsLegal, MayRemove}
use Rattle.grs_legal.specs.declared.meaning.Meaning.{Meaning}
use Rattle.grs_legal.specs.declared.meaning.Meaning.TheVariants as lines

abbrev task_of : ℕ → TaskId
task_of n = record { system = record { 0 = 0 }; job = 0; task = n }

-- the resource (A, r) of the system
abbrev res : ℕ → Res
res r = kinds.System (record { 0 = 0 }) (65 ∷ []) (r ∷ [])

-- the entries by which a task asks for it exclusively and gives it back
abbrev enq : ℕ → Ret → Code → HistEntry
enq n ret code = Enq (task_of n) (res 66) E ret code

abbrev deq : ℕ → Code → HistEntry
deq n code = Deq (task_of n) (res 66) false code

-- the lines of a task that asks for the resource and gives it back, and of one that asks by ECB, waits for the post,
-- and gives it back
abbrev asks_and_gives : List Meaning
asks_and_gives = lines.Enq (res 66) E RetNone None ∷ lines.Deq (res 66) false ∷ []

abbrev posted_and_gives : List Meaning
posted_and_gives = lines.Enq (res 66) E RetEcb None ∷ lines.Wait (res 66) ∷ lines.Deq (res 66) false ∷ []

-- ---- one task alone
first : IsLegal 9 (task_of 0) asks_and_gives [] (enq 0 RetNone C00)
first = record { reply = refl; live = refl; next = refl; waited = tt; passed = refl }

second : IsLegal 9 (task_of 0) asks_and_gives (enq 0 RetNone C00 ∷ []) (deq 0 C00)
second = record { reply = refl; live = refl; next = refl; waited = λ e. absurd (cc); passed = refl }

-- a line asks once, in its place, and by what stands in it
asks_twice : IsLegal 9 (task_of 0) asks_and_gives (enq 0 RetNone C00 ∷ []) (enq 0 RetNone (End 138)) → ⊥
asks_twice l = let e : Some (AsksDeq (res 66) false) ≡ Some (AsksEnq (res 66) E RetNone) = l.next in absurd (cc)

out_of_order : IsLegal 9 (task_of 0) asks_and_gives [] (deq 0 (End 130)) → ⊥
out_of_order l = let e : Some (AsksEnq (res 66) E RetNone) ≡ Some (AsksDeq (res 66) false) = l.next in absurd (cc)

other_ret : IsLegal 9 (task_of 0) asks_and_gives [] (enq 0 RetEcb C00) → ⊥
other_ret l = let e : Some (AsksEnq (res 66) E RetNone) ≡ Some (AsksEnq (res 66) E RetEcb) = l.next in absurd (cc)

-- the reply is that of the lists
wrong_reply : IsLegal 9 (task_of 0) asks_and_gives [] (enq 0 RetNone Wait) → ⊥
wrong_reply l = let e : Coded Wait ≡ Coded C00 = l.reply in absurd (cc)

-- behind its last line a task gives back what it has, and nothing else; behind a DEQ nothing is left
abbrev keeps : List Meaning
keeps = lines.Enq (res 66) E RetNone None ∷ []

releases : IsLegal 9 (task_of 0) keeps (enq 0 RetNone C00 ∷ []) (Release (task_of 0) (res 66))
releases = record { reply = refl; live = refl; next = refl; waited = λ e. absurd (cc); passed = refl }

releases_before : IsLegal 9 (task_of 0) asks_and_gives (enq 0 RetNone C00 ∷ []) (Release (task_of 0) (res 66)) → ⊥
releases_before l = let e : Some (AsksDeq (res 66) false) ≡ Some (AsksRelease (res 66)) = l.next in absurd (cc)

releases_nothing :
    IsLegal 9 (task_of 0) asks_and_gives (enq 0 RetNone C00 ∷ deq 0 C00 ∷ []) (Release (task_of 0) (res 66))
    → ⊥
releases_nothing l = let e : None ≡ Some (AsksRelease (res 66)) = l.next in absurd (cc)

-- an end code is the last of a task's lines
goes_on_ended :
    IsLegal 9 (task_of 0) (lines.Deq (res 66) false ∷ lines.Enq (res 66) E RetNone None ∷ []) (deq 0 (End 130) ∷ [])
    (enq 0 RetNone C00)
    → ⊥
goes_on_ended l = let e : None ≡ Some (AsksEnq (res 66) E RetNone) = l.next in absurd (cc)

-- ---- behind another's
-- A task whose last entry waited may ask on once it owns, and not before.
abbrev waiting : List HistEntry
waiting = enq 0 RetNone C00 ∷ enq 1 RetNone Wait ∷ []

goes_on_waiting : IsLegal 9 (task_of 1) asks_and_gives waiting (deq 1 (End 530)) → ⊥
goes_on_waiting l = let e : false ≡ true = l.waited refl in absurd (cc)

goes_on_owning : IsLegal 9 (task_of 1) asks_and_gives (waiting ++ deq 0 C00 ∷ []) (deq 1 C00)
goes_on_owning = record { reply = refl; live = refl; next = refl; waited = λ e. refl; passed = refl }

-- A WAIT line is passed once its task owns, and not before.
abbrev queued : List HistEntry
queued = enq 0 RetNone C00 ∷ enq 1 RetEcb C04 ∷ []

passes_early : IsLegal 9 (task_of 1) posted_and_gives queued (deq 1 (End 530)) → ⊥
passes_early l = let e : false ≡ true = l.passed in absurd (cc)

passes_owning : IsLegal 9 (task_of 1) posted_and_gives (queued ++ deq 0 C00 ∷ []) (deq 1 C00)
passes_owning = record { reply = refl; live = refl; next = refl; waited = λ e. absurd (cc); passed = refl }

-- A ring of two systems. The desk of the second commands the removal of the first.
abbrev system : ℕ → SysId
system n = record { 0 = n }

abbrev deck : Deck
deck = record {
  star = false;
  entries = 1;
  limit = 9;
  lists = record { incl = no_entries which.Incl; excl = no_entries which.Excl; con = no_entries which.Con };
  systems = record { name = 65 ∷ []; desk = []; jobs = [] }
      ∷ record {
        name = 66 ∷ [];
        desk = record { at = 0; order = orders.Star } ∷ record { at = 0; order = orders.Vary (system 0) } ∷ [];
        jobs = [];
      }
      ∷ [];
  events = [];
}

-- ---- displays
-- the resource (A,B) of the whole complex, which is of slice 52
abbrev shared : Res
shared = kinds.Systems (65 ∷ []) (66 ∷ [])

abbrev named_so : Filter
named_so = filters.Named (Some (65 ∷ [])) (Some (66 ∷ []))

-- a task that gets it, and looks for it by its names
abbrev gets_and_looks : List Meaning
gets_and_looks =
    lines.Enq shared E RetNone None ∷ meaning_of deck.lists (task_of 0) (texts.DisplayRes (65 ∷ []) (66 ∷ [])) ∷ []

abbrev got : List HistEntry
got = Enq (task_of 0) shared E RetNone C00 ∷ []

abbrev shown_row : Row
shown_row = record { res = shared; elems = record { task = task_of 0; ctl = E } ∷ []; owners = 1 }

-- which asks for two looks, the first at its system's own lists
asks_twice_looking : asks_of gets_and_looks
    ≡ AsksEnq shared E RetNone ∷ AsksLook (places.Local (system 0)) named_so ∷ AsksLook (places.Slice 52) named_so ∷ []
asks_twice_looking = refl

looks_home : IsLegal 9 (task_of 0) gets_and_looks got (Look (task_of 0) (places.Local (system 0)) named_so [])
looks_home = record { reply = refl; live = refl; next = refl; waited = λ e. absurd (cc); passed = refl }

looks_around :
    IsLegal 9 (task_of 0) gets_and_looks (got ++ Look (task_of 0) (places.Local (system 0)) named_so [] ∷ [])
    (Look (task_of 0) (places.Slice 52) named_so (shown_row ∷ []))
looks_around = record { reply = refl; live = refl; next = refl; waited = λ e. absurd (cc); passed = refl }

looks_elsewhere :
    IsLegal 9 (task_of 0) gets_and_looks got (Look (task_of 0) (places.Slice 52) named_so (shown_row ∷ []))
    → ⊥
looks_elsewhere l =
    let e : Some (AsksLook (places.Local (system 0)) named_so) ≡ Some (AsksLook (places.Slice 52) named_so) = l.next in
    absurd (cc)

shows_nothing :
    IsLegal 9 (task_of 0) gets_and_looks (got ++ Look (task_of 0) (places.Local (system 0)) named_so [] ∷ [])
    (Look (task_of 0) (places.Slice 52) named_so [])
    → ⊥
shows_nothing l = let e : Rows [] ≡ Rows (shown_row ∷ []) = l.reply in absurd (cc)

-- in the middle of a line nothing else is asked, nor is anything released
releases_in_the_middle :
    IsLegal 9 (task_of 0) gets_and_looks (got ++ Look (task_of 0) (places.Local (system 0)) named_so [] ∷ [])
    (Release (task_of 0) shared)
    → ⊥
releases_in_the_middle l =
    let e : Some (AsksLook (places.Slice 52) named_so) ≡ Some (AsksRelease shared) = l.next in absurd (cc)

-- GQSCAN SCOPE=GLOBAL asks for 64 looks, DISPLAY GRS,C for one more, GQSCAN SCOPE=LOCAL for one
how_many : (length (asks_in (meaning_of deck.lists (task_of 0) (texts.Gqscan true filters.All))) ≡ 64)
    × (length (asks_in (meaning_of deck.lists (task_of 0) texts.DisplayC)) ≡ 65)
    × (length (asks_in (meaning_of deck.lists (task_of 0) (texts.Gqscan false filters.All))) ≡ 1)
how_many = (refl, refl, refl)

-- ---- removals
-- the second may remove the first, once; and the first, at whose desk nothing is commanded, may not remove the second
removes : MayRemove deck [] (system 1) (system 0)
removes = record { live = refl; first = refl; other = λ e. absurd (omega (arith, e)); commanded = refl }

removes_twice : MayRemove deck (Remove (system 1) (system 0) ∷ []) (system 1) (system 0) → ⊥
removes_twice m = let e : true ≡ false = m.first in absurd (cc)

removed_removes : MayRemove deck (Remove (system 0) (system 1) ∷ []) (system 1) (system 0) → ⊥
removed_removes m = let e : true ≡ false = m.live in absurd (cc)

removes_itself : MayRemove deck [] (system 0) (system 0) → ⊥
removes_itself m = m.other refl

without_command : MayRemove deck [] (system 0) (system 1) → ⊥
without_command m = let e : false ≡ true = m.commanded in absurd (cc)

-- a task of a removed system asks nothing any more
asks_removed : IsLegal 9 (task_of 0) asks_and_gives (enq 0 RetNone C00 ∷ Remove (system 1) (system 0) ∷ []) (deq 0 C00)
    → ⊥
asks_removed l = let e : true ≡ false = l.live in absurd (cc)
