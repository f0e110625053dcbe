-- The deck of a text, or its first fault.
use Rattle.std.specs.Prelude.{◌≡◌, ℕ, Bool, true, false, ◌==◌, List, [], ◌∷◌, length, Option, Some, None, Result, Ok}
use Rattle.std.specs.Prelude.{Err, if◌then◌else◌}
use Rattle.grs_base.specs.declared.fault.DeckFault.{DeckFault}
use Rattle.grs_base.specs.declared.fault.Kind.{Kind}
use Rattle.grs_base.specs.declared.fault.Kind.TheVariants.{NoSystem}
use Rattle.grs_base.specs.declared.fault.ReadError.{ReadError}
use Rattle.grs_base.specs.Rnl.{no_entries}
use Rattle.grs_base.specs.declared.rnl.Which.TheVariants.{Incl, Excl, Con}
use Rattle.grs_base.specs.declared.rnl.Lists.{Lists}
use Rattle.grs_base.specs.Limits.{most_lines, most_displays}
use Rattle.grs_wire.specs.declared.deck.Deck.{Deck}
use Rattle.deck_scan.specs.declared.token.TokenLine.{TokenLine}
use Rattle.deck_scan.specs.Gives.{◌>>=◌, refused, Fails}
use Rattle.deck_scan.specs.Reading.{lines_or_fault}
use Rattle.deck_form.specs.declared.form.Stmt.{Stmt}
use Rattle.deck_form.specs.Form.{form}
use Rattle.deck_form.specs.Statements.{statements}
use Rattle.deck_form.specs.SystemNames.{system_names}
use Rattle.grs_deck.specs.declared.judge.Draft.{Draft}
use Rattle.grs_deck.specs.Judge.{verdict}
use Rattle.grs_deck.specs.Grow.{grow}
use Rattle.grs_deck.specs.Defaults.{default_entries, default_limit}

-- A function changed the deck to what reading gives, or returned its fault, unless memory ran out.
abbrev pub Took : Result (Unit {0}) ReadError → Draft → Result Draft DeckFault → Type 0
Took (Ok u) new read = read ≡ Ok new
Took (Err e) new read = Fails e read

abbrev pub no_lists : Lists
no_lists = record { incl = no_entries Incl; excl = no_entries Excl; con = no_entries Con }

-- The values without COMPLEX, and no entry of a name list.
abbrev pub no_deck : Deck
no_deck = record {
  star = false;
  entries = default_entries;
  limit = default_limit;
  lists = no_lists;
  systems = [];
  events = [];
}

-- A deck of which nothing was read, with the names that its SYSTEM statements give.
abbrev pub no_draft : List (List ℕ) → Draft
no_draft names = record {
  deck = no_deck;
  names = names;
  begun = false;
  scheduled = false;
  room = most_lines;
  displays = most_displays;
}

-- The same, with these lines.
abbrev pub first_draft : List TokenLine → Draft
first_draft lines = no_draft (system_names lines)

abbrev pub unless : ℕ → Option Kind → Draft → Result Draft DeckFault
unless at None d = Ok d
unless at (Some k) d = refused at k

abbrev pub judge_statement : Draft → ℕ → Stmt → Result Draft DeckFault
judge_statement d at st = unless at (verdict d st) (grow d st)

abbrev pub judge_form : Draft → ℕ → Result Stmt Kind → Result Draft DeckFault
judge_form d at (Ok st) = judge_statement d at st
judge_form d at (Err k) = refused at k

unfoldable pub judge : Draft → TokenLine → Result Draft DeckFault
judge d line = judge_form d line.at (form d.scheduled d.deck.entries line)

unfoldable pub judge_all : Draft → List TokenLine → Result Draft DeckFault
judge_all d [] = Ok d
judge_all d (l ∷ ls) = judge d l >>= λ new. judge_all new ls

-- One of the lines that are left was taken, and these are left then; or none was left.
abbrev pub TookNext : Result Bool ReadError → Draft → List TokenLine → Draft → List TokenLine → Type 0
TookNext (Ok true) d ls new left = (l : TokenLine) × (ls ≡ l ∷ left) × (judge d l ≡ Ok new)
TookNext (Ok false) d ls new left = (ls ≡ []) × (new ≡ d)
TookNext (Err e) d ls new left = Fails e (judge_all d ls)

abbrev pub ended : Draft → Result Deck DeckFault
ended d = if length d.deck.systems == 0 then refused 0 NoSystem else Ok d.deck

unfoldable pub reading : List ℕ → Result Deck DeckFault
reading text = lines_or_fault text >>= λ ls. judge_all (first_draft ls) (statements ls) >>= ended

abbrev pub fault_of : Result Deck DeckFault → Option DeckFault
fault_of (Ok d) = None
fault_of (Err f) = Some f

unfoldable pub fault : List ℕ → Option DeckFault
fault text = fault_of (reading text)
