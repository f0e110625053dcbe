-- A text spells its events alone, and a deck to which it is added has them.
use Rattle.std.proofs.Common.{◌≡◌, ℕ, Bool, true, false, List, [], ◌∷◌, ◌++◌, Option, Some, refl, sym, ap, subst, ◌∙◌}
use Rattle.std.proofs.Common.{append_assoc, append-nil}
use Rattle.grs_wire.specs.declared.deck.SystemDef.{SystemDef}
use Rattle.grs_wire.specs.declared.deck.Event.{Event}
use Rattle.grs_wire.specs.declared.deck.Deck.{Deck}
use Rattle.deck_scan.specs.declared.token.TokenLine.{TokenLine}
use Rattle.deck_scan.proofs.Pieced.{spelled_is}
use Rattle.deck_form.specs.declared.form.Stmt.{Stmt}
use Rattle.deck_form.specs.declared.form.Stmt.TheVariants as stmts
use Rattle.deck_form.specs.Spelled.{Spells}
use Rattle.deck_form.proofs.Unknown.{one_spelled}
use Rattle.grs_deck.specs.declared.judge.Draft.{Draft}
use Rattle.grs_deck.specs.EventLines.{SaysEvent, SayEvents, SpellsEvents}
use Rattle.grs_deck.specs.Grow.{with_event, grow}
use Rattle.grs_deck.specs.Places.{event_of, event_in}
use Rattle.grs_deck.specs.Spells.{IsSized, MayStand, Says}

-- ---- no other events

abbrev some : Event → Option Event
some x = Some x

some_event : (a b : Event) (o : Option Event) → o ≡ Some a → o ≡ Some b → a ≡ b
some_event a b o h k = let z : some a ≡ some b = sym h ∙ k in cc

one_event : (systems : List SystemDef) (entries : ℕ) (l : TokenLine) (a b : Event) → SaysEvent systems entries l a
    → SaysEvent systems entries l b → a ≡ b
one_event systems entries l a b h k =
    let same = one_spelled true entries l h.st k.st h.spelled k.spelled in
    some_event a b (event_in systems k.st) (ap (event_in systems) (sym same) ∙ h.event) k.event

same_events : (systems : List SystemDef) (entries : ℕ) (ls : List TokenLine) (es fs : List Event)
    → SayEvents systems entries ls es → SayEvents systems entries ls fs → es ≡ fs
same_events systems entries [] [] [] h k = refl
same_events systems entries [] [] (f ∷ fs) h k = absurd k
same_events systems entries [] (e ∷ es) fs h k = absurd h
same_events systems entries (l ∷ ls) [] fs h k = absurd h
same_events systems entries (l ∷ ls) (e ∷ es) [] h k = absurd k
same_events systems entries (l ∷ ls) (e ∷ es) (f ∷ fs) h k =
    let first = one_event systems entries l e f h.0 k.0 in
    let rest = same_events systems entries ls es fs h.1 k.1 in
    rw (first, rest) refl

pub one_text : (systems : List SystemDef) (entries : ℕ) (text : List ℕ) (es fs : List Event)
    → SpellsEvents systems entries text es → SpellsEvents systems entries text fs → es ≡ fs
one_text systems entries text es fs h k =
    let same : h.lines ≡ k.lines = sym (spelled_is text h.lines h.spelled) ∙ spelled_is text k.lines k.spelled in
    same_events systems entries k.lines es fs
    (subst (λ (ls : List TokenLine). SayEvents systems entries ls es) same h.says) k.says

-- ---- a deck with them

-- the deck with an event more
abbrev with : Deck → Event → Deck
with d e = record d { events = d.events ++ e ∷ [] }

stands : (d : Draft) (l : TokenLine) (e : Event) (st : Stmt) → d.scheduled ≡ true → Spells true d.deck.entries l st
    → IsSized st → event_in d.deck.systems st ≡ Some e
    → MayStand d st × ((grow d st).deck ≡ with d.deck e) × ((grow d st).scheduled ≡ true)
stands d l e (stmts.Event n a) late s sized event = (
  record { sized = sized; new = tt; placed = tt; room = tt; known = (e, event) },
  rw event refl,
  rw late refl,
)
stands d l e _ late s sized event = absurd s

-- What a deck behind its SCHEDULE makes of event lines: their events stand behind its own.
pub events_added : (ls : List TokenLine) (es : List Event) (d : Draft) → d.scheduled ≡ true
    → SayEvents d.deck.systems d.deck.entries ls es
    → (e : Draft) × Says d ls e × (e.deck ≡ record d.deck { events = d.deck.events ++ es })
events_added [] [] d late
    h = (d, refl, ap (λ (es : List Event). record d.deck { events = es }) (sym (append-nil d.deck.events)))
events_added [] (e ∷ es) d late h = absurd h
events_added (l ∷ ls) [] d late h = absurd h
events_added (l ∷ ls) (e ∷ es) d late h =
    let st = h.0.st in
    let k = stands d l e st late h.0.spelled h.0.sized h.0.event in
    let more =
    subst (λ (x : Deck). SayEvents x.systems x.entries ls es) (sym k.1) h.1 in
    let rest = events_added ls es (grow d st) k.2 more in (
      rest.0,
      (st, subst (λ (b : Bool). Spells b d.deck.entries l st) (sym late) h.0.spelled, k.0, rest.1),
      rest.2
          ∙ ap (λ (x : Deck). record x { events = x.events ++ es }) k.1
          ∙ ap (λ (xs : List Event). record d.deck { events = xs }) (append_assoc d.deck.events (e ∷ []) es),
    )
