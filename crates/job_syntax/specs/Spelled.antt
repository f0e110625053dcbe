-- How the tokens of a line spell what a task line says, by cases on it.
use Rattle.std.specs.Prelude.{◌≡◌, ℕ, Bool, true, false, ◌⊎◌, List, [], ◌∷◌, ◌++◌, codes, Some, None, Result, Ok, Err}
use Rattle.std.specs.List.{flat_map}
use Rattle.grs_base.specs.declared.line.Scope.{Scope}
use Rattle.grs_base.specs.declared.line.Scope.TheVariants as scopes
use Rattle.grs_base.specs.Printed.{ctl_word}
use Rattle.grs_base.specs.declared.resource.Ret.{Ret}
use Rattle.grs_base.specs.declared.resource.Ret.TheVariants.{RetNone, RetUse, RetHave, RetTest, RetChng, RetEcb}
use Rattle.deck_scan.specs.declared.token.Token.{Token}
use Rattle.deck_scan.specs.declared.token.Token.TheVariants.{Word, Open, Close, Comma, Equals}
use Rattle.deck_scan.specs.declared.miss.Miss.{Miss}
use Rattle.deck_scan.specs.Next.{Names, Sets}
use Rattle.job_syntax.specs.declared.options.Opts.{Opts}
use Rattle.job_syntax.specs.declared.ask.ResAsk.{ResAsk}
use Rattle.job_syntax.specs.declared.display.Wanted.{Wanted}
use Rattle.job_syntax.specs.declared.display.ScanAsk.{ScanAsk}
use Rattle.job_syntax.specs.declared.display.Shown.{Shown}
use Rattle.job_syntax.specs.declared.display.Shown.TheVariants as shown
use Rattle.job_syntax.specs.declared.line_ask.LineAsk.{LineAsk}
use Rattle.job_syntax.specs.declared.line_ask.LineAsk.TheVariants as asks
use Rattle.job_syntax.specs.declared.line_ask.LineWord.{LineWord}
use Rattle.job_syntax.specs.declared.line_ask.LineWord.TheVariants as words
use Rattle.job_syntax.specs.Unit.{unit_of}
use Rattle.job_syntax.specs.Options.{no_opts}
use Rattle.job_syntax.specs.Ask.{enq_may, reserve_may, deq_may, wait_may}
use Rattle.job_syntax.specs.Display.{no_names}

abbrev pub scope_word : Scope → List ℕ
scope_word scopes.Step = codes "STEP"
scope_word scopes.System = codes "SYSTEM"
scope_word scopes.Systems = codes "SYSTEMS"

abbrev pub rnl_word : Bool → List ℕ
rnl_word true = codes "YES"
rnl_word false = codes "NO"

-- An option of a task line: RET or ECB; RNL; UCB with its word and the unit that the word writes.
pub data Opt : Type 0 where
  WithRet : Ret → Opt
  WithRnl : Bool → Opt
  WithUcb : List ℕ → ℕ → Opt

abbrev pub valued : List ℕ → List ℕ → List Token
valued word value = Comma ∷ Word word ∷ Equals ∷ Word value ∷ []

abbrev pub option : Opt → List Token
option (WithRet RetNone) = valued (codes "RET") (codes "NONE")
option (WithRet RetUse) = valued (codes "RET") (codes "USE")
option (WithRet RetHave) = valued (codes "RET") (codes "HAVE")
option (WithRet RetTest) = valued (codes "RET") (codes "TEST")
option (WithRet RetChng) = valued (codes "RET") (codes "CHNG")
option (WithRet RetEcb) = Comma ∷ Word (codes "ECB") ∷ []
option (WithRnl b) = valued (codes "RNL") (rnl_word b)
option (WithUcb w unit) = valued (codes "UCB") w

-- None of its kind stands yet, and its word is right.
abbrev pub IsFree : Opt → Opts → Type 0
IsFree (WithRet r) o = o.ret ≡ None
IsFree (WithRnl b) o = o.rnl ≡ None
IsFree (WithUcb w unit) o = (o.unit ≡ None) × (unit_of w ≡ Some unit)

abbrev pub set : Opt → Opts → Opts
set (WithRet r) o = record o { ret = Some r }
set (WithRnl b) o = record o { rnl = Some b }
set (WithUcb w unit) o = record o { unit = Some unit }

-- ( q , r , then what stands before the scope, the scope, ) and the options.
pub record IsResAsk (front : List Token) (ts : List Token) (a : ResAsk) : Type 0 where
  pub q : Token
  pub r : Token
  pub given : List Opt
  pub spelled : ts ≡ Open ∷ q ∷ Comma ∷ r ∷ Comma ∷ (front ++ Word (scope_word a.scope) ∷ Close ∷ flat_map option given)
  pub named_q : Names q a.q
  pub named_r : Names r a.r
  pub options : Sets IsFree set no_opts given a.opts

abbrev pub reach_word : Bool → List ℕ
reach_word true = codes "GLOBAL"
reach_word false = codes "LOCAL"

-- A name that a GQSCAN gives: QNAME and RNAME with the tokens and the bytes that these name.
pub data WantedName : Type 0 where
  WithQname : Token → List ℕ → WantedName
  WithRname : Token → List ℕ → WantedName

abbrev pub want : WantedName → List Token
want (WithQname t q) = Comma ∷ Word (codes "QNAME") ∷ Equals ∷ t ∷ []
want (WithRname t r) = Comma ∷ Word (codes "RNAME") ∷ Equals ∷ t ∷ []

abbrev pub IsFreeWant : WantedName → Wanted → Type 0
IsFreeWant (WithQname t q) o = (o.q ≡ None) × Names t q
IsFreeWant (WithRname t r) o = (o.r ≡ None) × Names t r

abbrev pub set_want : WantedName → Wanted → Wanted
set_want (WithQname t q) o = record o { q = Some q }
set_want (WithRname t r) o = record o { r = Some r }

-- SCOPE = GLOBAL or LOCAL, and the names.
pub record IsScan (ts : List Token) (s : ScanAsk) : Type 0 where
  pub given : List WantedName
  pub spelled : ts ≡ Word (codes "SCOPE") ∷ Equals ∷ Word (reach_word s.global) ∷ flat_map want given
  pub names : Sets IsFreeWant set_want no_names given s.names

-- GRS , RES = ( q , r )
pub record IsResource (ts : List Token) (qname rname : List ℕ) : Type 0 where
  pub q : Token
  pub r : Token
  pub spelled : ts ≡ Word (codes "GRS") ∷ Comma ∷ Word (codes "RES") ∷ Equals ∷ Open ∷ q ∷ Comma ∷ r ∷ Close ∷ []
  pub named_q : Names q qname
  pub named_r : Names r rname

abbrev pub IsShown : List Token → Shown → Type 0
IsShown ts shown.Contended = ts ≡ Word (codes "GRS") ∷ Comma ∷ Word (codes "C") ∷ []
IsShown ts (shown.Resource q r) = IsResource ts q r

-- What stands behind the first word.
abbrev pub IsBehind : List Token → LineAsk → Type 0
IsBehind ts (asks.Enq e) = IsResAsk (Word (ctl_word e.ctl) ∷ Comma ∷ []) ts e.ask × (enq_may e.ask ≡ true)
IsBehind ts (asks.Reserve e) = IsResAsk (Word (ctl_word e.ctl) ∷ Comma ∷ []) ts e.ask × (reserve_may e.ask ≡ true)
IsBehind ts (asks.Deq a) = IsResAsk [] ts a × (deq_may a ≡ true)
IsBehind ts (asks.Wait a) = IsResAsk [] ts a × (wait_may a ≡ true)
IsBehind ts (asks.Gqscan s) = IsScan ts s
IsBehind ts (asks.Display s) = IsShown ts s

abbrev pub line_word_for : LineAsk → LineWord
line_word_for (asks.Enq e) = words.Enq
line_word_for (asks.Reserve e) = words.Reserve
line_word_for (asks.Deq a) = words.Deq
line_word_for (asks.Wait a) = words.Wait
line_word_for (asks.Gqscan s) = words.Gqscan
line_word_for (asks.Display s) = words.Display

-- Which word it is. DISPLAY may be written D.
abbrev pub IsWord : LineWord → List ℕ → Type 0
IsWord words.Enq w = w ≡ codes "ENQ"
IsWord words.Reserve w = w ≡ codes "RESERVE"
IsWord words.Deq w = w ≡ codes "DEQ"
IsWord words.Wait w = w ≡ codes "WAIT"
IsWord words.Gqscan w = w ≡ codes "GQSCAN"
IsWord words.Display w = (w ≡ codes "DISPLAY") ⊎ (w ≡ codes "D")

-- Tokens spell a task line: its word, and what belongs behind it.
pub record IsLineAsk (ts : List Token) (s : LineAsk) : Type 0 where
  pub word : List ℕ
  pub behind : List Token
  pub parts : ts ≡ Word word ∷ behind
  pub is_word : IsWord (line_word_for s) word
  pub is_behind : IsBehind behind s

-- What is answered of the tokens behind a first word: the task line of this word that they spell, or that they
-- spell none.
abbrev pub Answers : Result LineAsk Miss → LineWord → List Token → Type 0
Answers (Ok s) v ts = (line_word_for s ≡ v) × IsBehind ts s
Answers (Err e) v ts = (s : LineAsk) → line_word_for s ≡ v → IsBehind ts s → ⊥
