-- A text's statements are judged with the names that its lines give to systems.
use Rattle.std.proofs.Common.{◌≡◌, ℕ, List, Result, Ok, refl, ap}
use Rattle.grs_base.specs.declared.fault.ReadError.{ReadError}
use Rattle.grs_base.specs.declared.fault.ReadError.TheVariants as errors
use Rattle.grs_wire.specs.declared.deck.Deck.{Deck}
use Rattle.deck_scan.specs.declared.token.TokenLine.{TokenLine}
use Rattle.deck_scan.specs.AnyBytes.{readable}
use Rattle.deck_scan.specs.Gives.{◌>>=◌, Gives, Fails}
use Rattle.deck_scan.specs.Reading.{lines_or_fault}
use Rattle.deck_scan.proofs.AnyLemmas.{any_text}
use Rattle.deck_scan.proofs.Pieced.{spelled_is}
use Rattle.deck_scan.proofs.Texts.{read_text}
use Rattle.deck_form.specs.Statements.{statements}
use Rattle.deck_form.specs.SystemNames.{system_names, names_in}
use Rattle.grs_deck.specs.declared.judge.Draft.{Draft}
use Rattle.grs_deck.specs.Reading.{no_draft, judge_all, ended, reading}

names_read : (text : List ℕ) (lines : List TokenLine) → lines_or_fault text ≡ Ok lines
    → names_in text ≡ system_names lines
names_read text lines h =
    ap system_names (spelled_is (readable text) lines (any_text text lines (read_text text lines h).spelled))

-- what is judged of the lines of a text, where these are its names and statements
judged : (text : List ℕ) (lines ss : List TokenLine) (names : List (List ℕ)) → lines_or_fault text ≡ Ok lines
    → names ≡ names_in text → ss ≡ statements lines → reading text ≡ (judge_all (no_draft names) ss >>= ended)
unfolding reading
judged text lines ss names read named made = rw (read, named, made, names_read text lines read) refl

pub judged_ok :
    (text : List ℕ) (lines ss : List TokenLine) (names : List (List ℕ)) (d : Draft) (r : Result Deck ReadError)
    → lines_or_fault text ≡ Ok lines → names ≡ names_in text → ss ≡ statements lines
    → judge_all (no_draft names) ss ≡ Ok d → Gives r (ended d) → Gives r (reading text)
judged_ok text lines ss names d r read named made all h = rw (judged text lines ss names read named made, all) h

pub judged_err : (text : List ℕ) (lines ss : List TokenLine) (names : List (List ℕ)) (e : ReadError)
    → lines_or_fault text ≡ Ok lines → names ≡ names_in text → ss ≡ statements lines
    → Fails e (judge_all (no_draft names) ss) → Fails e (reading text)
judged_err text lines ss names errors.NoMemory read named made h = tt
judged_err text lines ss names (errors.Fault f) read named made h =
    rw (judged text lines ss names read named made, h) refl
