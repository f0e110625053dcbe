-- How a text spells calls of latches, by cases on the call.
use Rattle.std.specs.Prelude.{◌≡◌, ◌≤◌, ◌<◌, ℕ, Bool, true, false, ◌+◌, List, [], ◌∷◌, ◌++◌, length, codes, Some, cond}
use Rattle.grs_base.specs.Limits.{most_name_bytes}
use Rattle.grs_base.specs.Printed.{ctl_word}
use Rattle.grs_base.specs.ShortNames.{is_name}
use Rattle.deck_scan.specs.declared.token.Token.{Token}
use Rattle.deck_scan.specs.declared.token.Token.TheVariants.{Word}
use Rattle.deck_scan.specs.declared.token.TokenLine.{TokenLine}
use Rattle.deck_scan.specs.Pieces.{SpellsLines}
use Rattle.deck_scan.specs.Reading.{most_text_bytes}
use Rattle.deck_form.specs.Words.{written_number}
use Rattle.grs_latch.specs.Limits.{most_latches, most_sets}
use Rattle.grs_latch.specs.declared.call.LatchCall.{LatchCall}
use Rattle.latch_form.specs.declared.form.Ask.{Ask}
use Rattle.latch_form.specs.declared.form.Ask.TheVariants.{Make, Obtain, Release, Purge}
use Rattle.latch_form.specs.declared.form.GivenCall.{GivenCall}
use Rattle.latch_form.specs.declared.judge.Draft.{Draft}
use Rattle.latch_form.specs.Drafts.{most_requestor}
use Rattle.latch_form.specs.Drafts.{most_calls, no_draft, grow, makes}

-- the first word of a call
abbrev pub ask_word : Ask → List ℕ
ask_word (Make n) = codes "CRT"
ask_word (Obtain l r c sync) = codes "OBT"
ask_word (Release l r) = codes "REL"
ask_word (Purge r) = codes "PRG"

abbrev pub sync_word : Bool → List ℕ
sync_word true = codes "SYNC"
sync_word false = codes "COND"

-- digits write the number of a requestor
abbrev pub IsRequestor : List ℕ → ℕ → Type 0
IsRequestor w r = (written_number w ≡ Some r) × (r ≤ most_requestor)

-- what stands behind the name of a set
abbrev pub IsAsk : List Token → Ask → Type 0
IsAsk ts (Make n) =
    (w : List ℕ) × (ts ≡ Word w ∷ []) × (written_number w ≡ Some n) × (1 ≤ n) × (n ≤ most_latches)
IsAsk ts (Obtain l r c sync) =
    (w : List ℕ) × (v : List ℕ)
    × (ts ≡ Word w ∷ Word v ∷ Word (ctl_word c) ∷ Word (sync_word sync) ∷ [])
    × (written_number w ≡ Some l) × IsRequestor v r
IsAsk ts (Release l r) =
    (w : List ℕ) × (v : List ℕ) × (ts ≡ Word w ∷ Word v ∷ []) × (written_number w ≡ Some l) × IsRequestor v r
IsAsk ts (Purge r) = (v : List ℕ) × (ts ≡ Word v ∷ []) × IsRequestor v r

-- A line spells a call: its word, the name of a set, of any length, and what is asked. Nothing stands directly behind the
-- word.
pub record Spells (l : TokenLine) (c : GivenCall) : Type 0 where
  pub behind : List Token
  pub apart : l.joined ≡ false
  pub spelled : l.tokens ≡ Word (ask_word c.ask) ∷ Word c.set ∷ behind
  pub name : is_name c.set ≡ true
  pub ask : IsAsk behind c.ask

-- The name of its set isn't too long.
abbrev pub IsSized : GivenCall → Type 0
IsSized c = length c.set ≤ most_name_bytes

-- There is room for it: among the calls, and among those that make a set.
abbrev pub HasRoom : Draft → GivenCall → Type 0
HasRoom d c = (length d.calls < most_calls) × (d.made + makes c.ask ≤ most_sets)

-- Each line is a call that may stand where it stands, and these are the calls.
abbrev pub Says : Draft → List TokenLine → Draft → Type 0
Says d [] e = d ≡ e
Says d (l ∷ ls) e = (c : GivenCall) × Spells l c × IsSized c × HasRoom d c × Says (grow d c) ls e

-- A text spells calls: it is short enough, and its lines say them.
pub record SpellsCalls (text : List ℕ) (calls : List LatchCall) : Type 0 where
  pub short : length text ≤ most_text_bytes
  pub lines : List TokenLine
  pub spelled : SpellsLines text lines
  pub draft : Draft
  pub says : Says no_draft lines draft
  pub is : draft.calls ≡ calls
