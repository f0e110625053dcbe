-- The names and units that a task line or an RNLDEF of bytes says.
use Rattle.std.proofs.Common.{◌≡◌, ◌∙◌, ℕ, ◌+◌, ◌*◌, ◌<◌, Bool, true, false, cond, eqb, ltb, List, [], ◌∷◌, length}
use Rattle.std.proofs.Common.{Option, Some, None, refl, sym, subst, arith}
use Rattle.std.specs.Prelude.{unwrap_or}
use Rattle.std.specs.List.{list_all, flat_map}
use Rattle.std.proofs.lemmas.Bool.{and_parts, and_from}
use Rattle.std.proofs.lemmas.List.Folds.{list_all-append}
use Rattle.grs_base.specs.Names.{before_rest, trim_blanks, are_bytes}
use Rattle.grs_base.specs.Lines.{IsMaybeUnit}
use Rattle.deck_scan.specs.declared.token.Token.{Token}
use Rattle.deck_scan.specs.declared.token.Token.TheVariants.{Word}
use Rattle.deck_scan.specs.Next.{◌>>=◌, Sets}
use Rattle.deck_scan.proofs.Taking.{bind_some, guard_some}
use Rattle.deck_scan.specs.Bytes.{is_hex, digit}
use Rattle.deck_scan.proofs.Names.{digit-small}
use Rattle.job_syntax.specs.declared.options.Opts.{Opts}
use Rattle.job_syntax.specs.declared.ask.ResAsk.{ResAsk}
use Rattle.job_syntax.specs.Unit.{hex_of, hex_at, unit_of}
use Rattle.job_syntax.specs.Options.{no_opts}
use Rattle.job_syntax.specs.declared.display.ScanAsk.{ScanAsk}
use Rattle.job_syntax.specs.declared.display.Wanted.{Wanted}
use Rattle.job_syntax.specs.Display.{no_names}
use Rattle.job_syntax.specs.Spelled.{Opt, WithRet, WithRnl, WithUcb, IsFree, set, IsResAsk, reach_word, WantedName}
use Rattle.job_syntax.specs.Spelled.{WithQname, WithRname, want, IsFreeWant, set_want, IsScan, IsResource}
use Rattle.rnl_syntax.specs.declared.operands.Operands.{Operands}
use Rattle.rnl_syntax.specs.declared.operands.Rnldef.{Rnldef}
use Rattle.rnl_syntax.specs.Operands.{no_operands}
use Rattle.rnl_syntax.specs.Spelled.{Operand, operand, IsRnldef}
use Rattle.rnl_syntax.specs.Spelled.{WithRnl as OperandRnl, WithType as OperandType, WithQname as OperandQname}
use Rattle.rnl_syntax.specs.Spelled.{WithRname as OperandRname}
use Rattle.rnl_syntax.specs.Spelled.{IsFree as IsFreeOperand, set as set_operand}
use Rattle.grs_deck.proofs.TokenBytes.{says_bytes, named_bytes}

-- ---- names

before_bytes : (b : ℕ) (t : List ℕ) → ltb b 256 ≡ true → are_bytes t ≡ true → are_bytes (before_rest b t) ≡ true
before_bytes b [] h k = go (eqb b 32)
  where
    go : (x : Bool) → are_bytes (cond x [] (b ∷ [])) ≡ true
    go true = refl
    go false = and_from (ltb b 256) true h refl
before_bytes b (c ∷ cs) h k = and_from (ltb b 256) (are_bytes (c ∷ cs)) h k

pub trim_bytes : (q : List ℕ) → are_bytes q ≡ true → are_bytes (trim_blanks q) ≡ true
trim_bytes [] h = refl
trim_bytes (b ∷ bs) h =
    let k = and_parts (ltb b 256) (are_bytes bs) h in before_bytes b (trim_blanks bs) k.0 (trim_bytes bs k.1)

-- both names of a resource are bytes
abbrev pub BothBytes : List ℕ → List ℕ → Type 0
BothBytes q r = (are_bytes q ≡ true) × (are_bytes r ≡ true)

pub ask_bytes : (front ts : List Token) (a : ResAsk) → IsResAsk front ts a → list_all says_bytes ts ≡ true
    → BothBytes a.q a.r
ask_bytes front ts a h all =
    let said = subst (λ (x : List Token). list_all says_bytes x ≡ true) h.spelled all in
    let q = and_parts (says_bytes h.q) _ said in
    let r = and_parts (says_bytes h.r) _ q.1 in
    (named_bytes h.q a.q h.named_q q.0, named_bytes h.r a.r h.named_r r.0)

-- ---- names that a GQSCAN or a DISPLAY gives

-- the bytes of a name that may be left out
abbrev pub IsMaybeBytes : Option (List ℕ) → Type 0
IsMaybeBytes None = Unit {0}
IsMaybeBytes (Some n) = are_bytes n ≡ true

record AreWanted (o : Wanted) : Type 0 where
  q : IsMaybeBytes o.q
  r : IsMaybeBytes o.r

want_bytes : (x : WantedName) (o : Wanted) → list_all says_bytes (want x) ≡ true → IsFreeWant x o → AreWanted o
    → AreWanted (set_want x o)
want_bytes (WithQname t q) o all free
    h = record { q = named_bytes t q free.1 (and_parts (says_bytes t) _ all).0; r = h.r }
want_bytes (WithRname t r) o all free
    h = record { q = h.q; r = named_bytes t r free.1 (and_parts (says_bytes t) _ all).0 }

wants_bytes : (xs : List WantedName) (o p : Wanted) → Sets IsFreeWant set_want o xs p
    → list_all says_bytes (flat_map want xs) ≡ true → AreWanted o → AreWanted p
wants_bytes [] o p s all h = subst AreWanted (sym s) h
wants_bytes (x ∷ xs) o p s all h =
    let k =
    and_parts (list_all says_bytes (want x)) (list_all says_bytes (flat_map want xs))
    (sym (list_all-append says_bytes (want x) (flat_map want xs)) ∙ all) in
    wants_bytes xs (set_want x o) p s.1 k.1 (want_bytes x o k.0 s.0 h)

pub scan_bytes : (ts : List Token) (s : ScanAsk) → IsScan ts s → list_all says_bytes ts ≡ true
    → IsMaybeBytes s.names.q × IsMaybeBytes s.names.r
scan_bytes ts s h all =
    let said = subst (λ (x : List Token). list_all says_bytes x ≡ true) h.spelled all in
    let names =
    and_parts (says_bytes (Word (reach_word s.global))) (list_all says_bytes (flat_map want h.given)) said in
    let k = wants_bytes h.given no_names s.names h.names names.1 (record { q = tt; r = tt }) in
    (k.q, k.r)

pub shown_bytes : (ts : List Token) (q r : List ℕ) → IsResource ts q r → list_all says_bytes ts ≡ true → BothBytes q r
shown_bytes ts q r h all =
    let said = subst (λ (x : List Token). list_all says_bytes x ≡ true) h.spelled all in
    let first = and_parts (says_bytes h.q) _ said in
    let second = and_parts (says_bytes h.r) _ first.1 in
    (named_bytes h.q q h.named_q first.0, named_bytes h.r r h.named_r second.0)

-- ---- units

hex_below : (b x : ℕ) → hex_of b ≡ Some x → x < 16
hex_below b x h = go (is_hex b) h
  where
    go : (p : Bool) → cond p (Some (digit b)) None ≡ Some x → x < 16
    go true k = let is : digit b ≡ x = cc in let small = digit-small b in omega (arith, is, small)
    go false k = absurd cc

digit_below : (w : List ℕ) (y : ℕ × List ℕ) → hex_at w ≡ Some y → y.0 < 16
digit_below [] y h = absurd cc
digit_below (b ∷ bs) y h =
    let x = bind_some (hex_of b) (λ x. Some (x, bs)) y h in
    let is : x.0 ≡ y.0 = (let k : Some (x.0, bs) ≡ Some y = x.2 in cc) in
    subst (λ (n : ℕ). n < 16) is (hex_below b x.0 x.1)

abbrev unit_from : ℕ × List ℕ → ℕ × List ℕ → ℕ × List ℕ → ℕ × List ℕ → Option ℕ
unit_from a b c d = cond (eqb (length d.1) 0) (Some (a.0 * 4096 + b.0 * 256 + c.0 * 16 + d.0)) None

unit_below : (w : List ℕ) (n : ℕ) → unit_of w ≡ Some n → n < 65536
unfolding unit_of
unit_below w n h =
    let a =
    bind_some (hex_at w) (λ a. hex_at a.1 >>= λ b. hex_at b.1 >>= λ c. hex_at c.1 >>= λ d. unit_from a b c d) n h in
    let b = bind_some (hex_at a.0.1) (λ b. hex_at b.1 >>= λ c. hex_at c.1 >>= λ d. unit_from a.0 b c d) n a.2 in
    let c = bind_some (hex_at b.0.1) (λ c. hex_at c.1 >>= λ d. unit_from a.0 b.0 c d) n b.2 in
    let d = bind_some (hex_at c.0.1) (λ d. unit_from a.0 b.0 c.0 d) n c.2 in
    let is = (guard_some (eqb (length d.0.1) 0) (a.0.0 * 4096 + b.0.0 * 256 + c.0.0 * 16 + d.0.0) n d.2).1 in
    omega (
      arith,
      is,
      digit_below w a.0 a.1,
      digit_below a.0.1 b.0 b.1,
      digit_below b.0.1 c.0 c.1,
      digit_below c.0.1 d.0 d.1,
    )

option_unit : (x : Opt) (o : Opts) → IsFree x o → IsMaybeUnit o.unit → IsMaybeUnit (set x o).unit
option_unit (WithRet r) o free h = h
option_unit (WithRnl b) o free h = h
option_unit (WithUcb w unit) o free h = unit_below w unit free.1

options_unit : (xs : List Opt) (o p : Opts) → Sets IsFree set o xs p → IsMaybeUnit o.unit → IsMaybeUnit p.unit
options_unit [] o p s h = subst (λ (x : Opts). IsMaybeUnit x.unit) (sym s) h
options_unit (x ∷ xs) o p s h = options_unit xs (set x o) p s.1 (option_unit x o s.0 h)

pub ask_unit : (front ts : List Token) (a : ResAsk) → IsResAsk front ts a → IsMaybeUnit a.opts.unit
ask_unit front ts a h = options_unit h.given no_opts a.opts h.options tt

pub unit_or : (o : Option ℕ) → IsMaybeUnit o → unwrap_or o 0 < 65536
unit_or None h = omega arith
unit_or (Some n) h = h

-- ---- operands of RNLDEF

record AreBytes (o : Operands) : Type 0 where
  q : IsMaybeBytes o.q
  r : IsMaybeBytes o.r

operand_bytes : (x : Operand) (o : Operands) → list_all says_bytes (operand x) ≡ true → IsFreeOperand x o → AreBytes o
    → AreBytes (set_operand x o)
operand_bytes (OperandRnl which) o all free h = record { q = h.q; r = h.r }
operand_bytes (OperandType form) o all free h = record { q = h.q; r = h.r }
operand_bytes (OperandQname t q) o all free
    h = record { q = named_bytes t q free.1 (and_parts (says_bytes t) _ all).0; r = h.r }
operand_bytes (OperandRname t r) o all free
    h = record { q = h.q; r = named_bytes t r free.1 (and_parts (says_bytes t) _ all).0 }

operands_bytes : (xs : List Operand) (o p : Operands) → Sets IsFreeOperand set_operand o xs p
    → list_all says_bytes (flat_map operand xs) ≡ true → AreBytes o → AreBytes p
operands_bytes [] o p s all h = subst AreBytes (sym s) h
operands_bytes (x ∷ xs) o p s all h =
    let k =
    and_parts (list_all says_bytes (operand x)) (list_all says_bytes (flat_map operand xs))
    (sym (list_all-append says_bytes (operand x) (flat_map operand xs)) ∙ all) in
    operands_bytes xs (set_operand x o) p s.1 k.1 (operand_bytes x o k.0 s.0 h)

-- an RNLDEF of bytes names bytes
pub rnldef_bytes : (ts : List Token) (d : Rnldef) → IsRnldef ts d → list_all says_bytes ts ≡ true
    → (are_bytes d.q ≡ true) × IsMaybeBytes d.r
rnldef_bytes ts d h all =
    let said = subst (λ (x : List Token). list_all says_bytes x ≡ true) h.spelled all in
    let k =
    operands_bytes h.given no_operands (record { which = Some d.which; form = Some d.form; q = Some d.q; r = d.r })
    h.operands said (record { q = tt; r = tt }) in
    (k.q, k.r)
