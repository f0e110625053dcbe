-- A text of event lines.
use Rattle.std.specs.Prelude.{◌≡◌, ℕ, true, List, [], ◌∷◌, Some}
use Rattle.grs_wire.specs.declared.deck.SystemDef.{SystemDef}
use Rattle.grs_wire.specs.declared.deck.Event.{Event}
use Rattle.deck_scan.specs.declared.token.TokenLine.{TokenLine}
use Rattle.deck_scan.specs.Pieces.{SpellsLines}
use Rattle.deck_form.specs.declared.form.Stmt.{Stmt}
use Rattle.deck_form.specs.Spelled.{Spells}
use Rattle.grs_deck.specs.Places.{event_in}
use Rattle.grs_deck.specs.Spells.{IsSized}

-- The line spells this event of these systems, where there are this many lock entries.
pub record SaysEvent (systems : List SystemDef) (entries : ℕ) (l : TokenLine) (e : Event) : Type 0 where
  pub st : Stmt
  pub spelled : Spells true entries l st
  pub sized : IsSized st
  pub event : event_in systems st ≡ Some e

-- Each line spells its event.
abbrev pub SayEvents : List SystemDef → ℕ → List TokenLine → List Event → Type 0
SayEvents systems entries [] [] = Unit {0}
SayEvents systems entries (l ∷ ls) (e ∷ es) = SaysEvent systems entries l e × SayEvents systems entries ls es
SayEvents systems entries _ _ = ⊥

-- The lines of a text spell these events, one each.
pub record SpellsEvents (systems : List SystemDef) (entries : ℕ) (text : List ℕ) (es : List Event) : Type 0 where
  pub lines : List TokenLine
  pub spelled : SpellsLines text lines
  pub says : SayEvents systems entries lines es
