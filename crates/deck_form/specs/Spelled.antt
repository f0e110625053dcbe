-- How the tokens of a line spell a statement, by cases on the statement.
use Rattle.std.specs.Prelude.{◌≡◌, ℕ, Bool, true, false, ◌||◌, ◌<◌, ◌⊎◌, List, [], ◌∷◌, ◌++◌, codes, Some, None}
use Rattle.std.specs.Prelude.{is_some, Result, Ok, Err}
use Rattle.std.specs.List.{flat_map}
use Rattle.std.specs.Str.{bytes_eq}
use Rattle.grs_base.specs.declared.fault.Kind.{Kind}
use Rattle.grs_base.specs.declared.fault.Kind.TheVariants.{UnknownStatement, BadOperand}
use Rattle.grs_base.specs.ShortNames.{is_name}
use Rattle.grs_base.specs.Limits.{is_entries, is_limit}
use Rattle.deck_scan.specs.declared.token.Token.{Token}
use Rattle.deck_scan.specs.declared.token.Token.TheVariants.{Word, Open, Close, Comma, Equals, Unclosed}
use Rattle.deck_scan.specs.declared.token.TokenLine.{TokenLine}
use Rattle.deck_form.specs.declared.complex.Setup.{Setup}
use Rattle.deck_form.specs.declared.command.GivenOrder.{GivenOrder}
use Rattle.deck_form.specs.declared.command.GivenOrder.TheVariants as orders
use Rattle.deck_form.specs.declared.command.Command.{Command}
use Rattle.deck_form.specs.declared.event.EventAct.{EventAct}
use Rattle.deck_form.specs.declared.event.EventAct.TheVariants as acts
use Rattle.deck_form.specs.declared.form.Stmt.{Stmt}
use Rattle.deck_form.specs.declared.form.Stmt.TheVariants as stmts
use Rattle.deck_scan.specs.Next.{Sets}
use Rattle.job_syntax.specs.LineAsk.{line_word}
use Rattle.job_syntax.specs.Spelled.{IsLineAsk}
use Rattle.rnl_syntax.specs.Lines.{is_rnldef_word}
use Rattle.rnl_syntax.specs.Spelled.{IsRnldef}
use Rattle.deck_form.specs.Words.{written_number}
use Rattle.deck_form.specs.Complex.{no_setup}

-- A name of a system, job or task, of any length.
abbrev pub IsName : List ℕ → Type 0
IsName n = is_name n ≡ true

abbrev pub mode_word : Bool → List ℕ
mode_word true = codes "STAR"
mode_word false = codes "RING"

-- An operand of COMPLEX: MODE; ENTRIES and LIMIT with their words and the numbers that these write.
pub data Operand : Type 0 where
  Mode : Bool → Operand
  Entries : List ℕ → ℕ → Operand
  Limit : List ℕ → ℕ → Operand

abbrev pub enclosed : List ℕ → List ℕ → List Token
enclosed word value = Word word ∷ Open ∷ Word value ∷ Close ∷ []

abbrev pub operand : Operand → List Token
operand (Mode star) = enclosed (codes "MODE") (mode_word star)
operand (Entries w n) = enclosed (codes "ENTRIES") w
operand (Limit w n) = enclosed (codes "LIMIT") w

-- None of its kind stands yet, and its number may be.
abbrev pub IsFreeOperand : Operand → Setup → Type 0
IsFreeOperand (Mode star) o = o.star ≡ None
IsFreeOperand (Entries w n) o = (o.entries ≡ None) × (written_number w ≡ Some n) × (is_entries n ≡ true)
IsFreeOperand (Limit w n) o = (o.limit ≡ None) × (written_number w ≡ Some n) × (is_limit n ≡ true)

abbrev pub set_operand : Operand → Setup → Setup
set_operand (Mode star) o = record o { star = Some star }
set_operand (Entries w n) o = record o { entries = Some n }
set_operand (Limit w n) o = record o { limit = Some n }

pub record IsComplex (ts : List Token) (c : Setup) : Type 0 where
  pub given : List Operand
  pub spelled : ts ≡ flat_map operand given
  pub operands : Sets IsFreeOperand set_operand no_setup given c

-- What stands behind the number of a command.
abbrev pub IsOrder : List Token → GivenOrder → Type 0
IsOrder ts orders.Star = ts ≡ Word (codes "SETGRS") ∷ Word (codes "MODE") ∷ Equals ∷ Word (codes "STAR") ∷ []
IsOrder ts (orders.Vary n) =
    (ts ≡ Word (codes "VARY") ∷ Word (codes "GRS") ∷ Open ∷ Word n ∷ Close ∷ Comma ∷ Word (codes "PURGE") ∷ [])
    × IsName n

-- What stands behind AT: a number and what is commanded.
pub record IsCommand (ts : List Token) (c : Command) : Type 0 where
  pub number : List ℕ
  pub behind : List Token
  pub spelled : ts ≡ Word number ∷ behind
  pub at : written_number number ≡ Some c.at
  pub order : IsOrder behind c.order

-- A statement before SCHEDULE, and SCHEDULE.
abbrev pub IsFirst : List Token → Stmt → Type 0
IsFirst ts (stmts.Complex c) = (rest : List Token) × (ts ≡ Word (codes "COMPLEX") ∷ rest) × IsComplex rest c
IsFirst ts (stmts.Rnldef d) = (rest : List Token) × (ts ≡ Word (codes "RNLDEF") ∷ rest) × IsRnldef rest d
IsFirst ts (stmts.System n) = (ts ≡ Word (codes "SYSTEM") ∷ Word n ∷ []) × IsName n
IsFirst ts (stmts.Job n) = (ts ≡ Word (codes "JOB") ∷ Word n ∷ []) × IsName n
IsFirst ts (stmts.Task n) = (ts ≡ Word (codes "TASK") ∷ Word n ∷ []) × IsName n
IsFirst ts (stmts.Command c) = (rest : List Token) × (ts ≡ Word (codes "AT") ∷ rest) × IsCommand rest c
IsFirst ts (stmts.Line s) = IsLineAsk ts s
IsFirst ts stmts.Schedule = ts ≡ Word (codes "SCHEDULE") ∷ []
IsFirst ts (stmts.Event s a) = ⊥

abbrev pub IsPair : List ℕ → List Token → List ℕ → List ℕ → Type 0
IsPair word ts j t = (ts ≡ Word word ∷ Word (j ++ 46 ∷ t) ∷ []) × IsName j × IsName t

-- An entry is below the number of entries.
abbrev pub IsEntry : List ℕ → ℕ → List Token → ℕ → Type 0
IsEntry word entries ts e = (w : List ℕ) × (ts ≡ Word word ∷ Word w ∷ []) × (written_number w ≡ Some e) × (e < entries)

-- What stands behind the system of an event line.
abbrev pub IsAct : ℕ → List Token → EventAct → Type 0
IsAct entries ts (acts.Task j t) = IsPair (codes "TASK") ts j t
IsAct entries ts acts.Turn = ts ≡ Word (codes "TURN") ∷ []
IsAct entries ts (acts.Send j t) = IsPair (codes "SEND") ts j t
IsAct entries ts acts.Take = ts ≡ Word (codes "TAKE") ∷ []
IsAct entries ts acts.Settle = ts ≡ Word (codes "SETTLE") ∷ []
IsAct entries ts (acts.Tell e) = IsEntry (codes "TELL") entries ts e
IsAct entries ts (acts.Part e) = IsEntry (codes "PART") entries ts e
IsAct entries ts (acts.Leave e) = IsEntry (codes "LEAVE") entries ts e
IsAct entries ts acts.Switch = ts ≡ Word (codes "SWITCH") ∷ []
IsAct entries ts (acts.Purge n) = (ts ≡ Word (codes "PURGE") ∷ Word n ∷ []) × IsName n
IsAct entries ts acts.Rest = ts ≡ Word (codes "REST") ∷ []

-- An event line.
abbrev pub IsEvent : ℕ → List Token → Stmt → Type 0
IsEvent entries ts (stmts.Event s a) = (rest : List Token) × (ts ≡ Word s ∷ rest) × IsName s × IsAct entries rest a
IsEvent entries ts _ = ⊥

-- A line spells a statement, before SCHEDULE (false) or behind it (true), where there are this many lock
-- entries. Before SCHEDULE nothing but a parenthesis stands directly behind the first word.
abbrev pub Spells : Bool → ℕ → TokenLine → Stmt → Type 0
Spells false entries l st = (l.joined ≡ false) × IsFirst l.tokens st
Spells true entries l st = IsEvent entries l.tokens st

abbrev pub is_statement_word : List ℕ → Bool
is_statement_word w =
    bytes_eq w (codes "COMPLEX")
    || (is_rnldef_word w
    || (bytes_eq w (codes "SYSTEM")
    || (bytes_eq w (codes "JOB")
    || (bytes_eq w (codes "TASK")
    || (bytes_eq w (codes "AT")
    || (bytes_eq w (codes "SCHEDULE")
    || is_some (line_word w)))))))

abbrev pub BeginsOtherwise : List Token → Type 0
BeginsOtherwise (Word w ∷ ts) = is_statement_word w ≡ false
BeginsOtherwise (Unclosed ∷ ts) = ⊥
BeginsOtherwise _ = Unit {0}

-- The first word of a line is no statement word. A comment that is not closed has no first word, and is
-- wrong for itself.
abbrev pub NoWord : TokenLine → Type 0
NoWord l = (l.joined ≡ true) ⊎ BeginsOtherwise l.tokens

-- Why a line is no statement: it stands before SCHEDULE, and its first word is no statement word; or that
-- is not so, and it spells no statement.
abbrev pub IsNoStatement : Kind → Bool → ℕ → TokenLine → Type 0
IsNoStatement UnknownStatement scheduled entries l = (scheduled ≡ false) × NoWord l
IsNoStatement BadOperand scheduled entries l =
    (scheduled ≡ false → NoWord l → ⊥) × ((st : Stmt) → Spells scheduled entries l st → ⊥)
IsNoStatement _ scheduled entries l = ⊥

-- What is answered of a line: the statement that it spells, or why it is none.
abbrev pub Answers : Result Stmt Kind → Bool → ℕ → TokenLine → Type 0
Answers (Ok st) scheduled entries l = Spells scheduled entries l st
Answers (Err k) scheduled entries l = IsNoStatement k scheduled entries l
