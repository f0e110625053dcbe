-- The calls of a text, or its first fault.
use Rattle.std.specs.Prelude.{◌≡◌, ℕ, Bool, ◌||◌, ◌+◌, nat_lt, nat_le, List, [], ◌∷◌, length, Option, Some, None}
use Rattle.std.specs.Prelude.{Result, Ok, Err, if◌then◌else◌}
use Rattle.grs_base.specs.Limits.{most_name_bytes}
use Rattle.grs_base.specs.declared.fault.DeckFault.{DeckFault}
use Rattle.grs_base.specs.declared.fault.Kind.{Kind}
use Rattle.grs_base.specs.declared.fault.Kind.TheVariants.{NameLength, TooMany}
use Rattle.grs_base.specs.declared.fault.ReadError.{ReadError}
use Rattle.deck_scan.specs.declared.token.TokenLine.{TokenLine}
use Rattle.deck_scan.specs.Gives.{◌>>=◌, refused, Fails}
use Rattle.deck_scan.specs.Reading.{lines_or_fault}
use Rattle.grs_latch.specs.Limits.{most_sets}
use Rattle.grs_latch.specs.declared.call.LatchCall.{LatchCall}
use Rattle.latch_form.specs.declared.form.GivenCall.{GivenCall}
use Rattle.latch_form.specs.declared.judge.Draft.{Draft}
use Rattle.latch_form.specs.Drafts.{most_calls, makes, no_draft, grow}
use Rattle.latch_form.specs.Form.{form}

abbrev pub is_too_long : GivenCall → Bool
is_too_long c = nat_lt most_name_bytes (length c.set)

abbrev pub is_full : Draft → GivenCall → Bool
is_full d c = nat_le most_calls (length d.calls) || nat_lt most_sets (d.made + makes c.ask)

-- The least kind that applies to a line that is a call.
abbrev pub verdict : Draft → GivenCall → Option Kind
verdict d c = if is_too_long c then Some NameLength else if is_full d c then Some TooMany else None

abbrev pub unless : ℕ → Option Kind → Draft → Result Draft DeckFault
unless at None d = Ok d
unless at (Some k) d = refused at k

abbrev pub judge_call : Draft → ℕ → GivenCall → Result Draft DeckFault
judge_call d at c = unless at (verdict d c) (grow d c)

abbrev pub judge_form : Draft → ℕ → Result GivenCall Kind → Result Draft DeckFault
judge_form d at (Ok c) = judge_call d at c
judge_form d at (Err k) = refused at k

unfoldable pub judge : Draft → TokenLine → Result Draft DeckFault
judge d line = judge_form d line.at (form line)

unfoldable pub judge_all : Draft → List TokenLine → Result Draft DeckFault
judge_all d [] = Ok d
judge_all d (l ∷ ls) = judge d l >>= λ new. judge_all new ls

abbrev pub calls_of : Draft → Result (List LatchCall) DeckFault
calls_of d = Ok d.calls

unfoldable pub reading : List ℕ → Result (List LatchCall) DeckFault
reading text = lines_or_fault text >>= λ ls. judge_all no_draft ls >>= calls_of

-- A function changed the draft to what reading gives, or returned its fault, unless memory ran out.
abbrev pub Took : Result (Unit {0}) ReadError → Draft → Result Draft DeckFault → Type 0
Took (Ok u) new read = read ≡ Ok new
Took (Err e) new read = Fails e read
