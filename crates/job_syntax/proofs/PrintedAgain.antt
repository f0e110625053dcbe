-- A printed line is read again.
use Rattle.std.proofs.Common.{◌≡◌, ℕ, ◌/◌, ◌%◌, ◌<◌, Bool, true, false, List, [], ◌∷◌, ◌++◌, Option, Some, None, refl}
use Rattle.std.proofs.Common.{sym, ap, subst, arith, append_assoc, append-nil, inl}
use Rattle.std.specs.Prelude.{codes, ◌&&◌, ◌||◌, is_none}
use Rattle.std.specs.List.{flat_map}
use Rattle.std.proofs.lemmas.Bool.{and_from}
use Rattle.std.proofs.lemmas.Bool.Decides.{nat_tests}
use Rattle.grs_base.specs.Names.{is_rname, IsQname, IsMaybeQname, IsMaybeRname, are_bytes, AreNames}
use Rattle.grs_base.specs.Printed.{hex_digit, ctl_word, unit_digits}
use Rattle.grs_base.specs.declared.line.Scope.{Scope}
use Rattle.grs_base.specs.declared.line.Scope.TheVariants as scopes
use Rattle.grs_base.specs.declared.resource.Ctl.{Ctl}
use Rattle.grs_base.specs.declared.resource.Ctl.TheVariants.{E, S}
use Rattle.grs_base.specs.declared.resource.Ret.{Ret}
use Rattle.grs_base.specs.declared.resource.Ret.TheVariants.{RetNone, RetUse, RetHave, RetTest, RetChng, RetEcb}
use Rattle.grs_base.specs.declared.look.Filter.{Filter}
use Rattle.grs_base.specs.declared.look.Filter.TheVariants as filters
use Rattle.grs_base.specs.declared.line.Item.{Item}
use Rattle.grs_base.specs.declared.line.Line.{Line}
use Rattle.grs_base.specs.declared.line.Line.TheVariants as lines
use Rattle.grs_base.specs.Lines.{IsFilter, IsMaybeUnit, IsDeckLine}
use Rattle.deck_scan.specs.declared.token.Token.TheVariants.{Word, Open, Close, Comma, Equals}
use Rattle.deck_scan.specs.Bytes.{is_word}
use Rattle.deck_scan.specs.Lengths.{is_bad_qname, is_bad_rname}
use Rattle.deck_scan.specs.Named.{name_token}
use Rattle.deck_scan.specs.Next.{Sets}
use Rattle.deck_scan.specs.Pieces.{Plain, is_piece, is_nonempty, SpellsLines}
use Rattle.deck_scan.specs.AnyBytes.{readable}
use Rattle.deck_scan.proofs.AnyLemmas.{any_text}
use Rattle.deck_scan.proofs.Names.{digit-hex, digit-hex_digit, qname_nonempty, rname_nonempty}
use Rattle.deck_scan.proofs.Print.{name_names}
use Rattle.deck_scan.proofs.Bits.{Bit, Of, Called, Mark, text_of, tokens_of, is_bit, starts_apart, are_bits}
use Rattle.deck_scan.proofs.Bits.{line_of_bits, bits_line}
use Rattle.job_syntax.specs.declared.options.Opts.{Opts}
use Rattle.job_syntax.specs.declared.display.Shown.TheVariants as shown
use Rattle.job_syntax.specs.declared.line_ask.LineAsk.{LineAsk}
use Rattle.job_syntax.specs.declared.line_ask.LineAsk.TheVariants as asks
use Rattle.job_syntax.specs.Unit.{hex_of, unit_of}
use Rattle.job_syntax.specs.Options.{no_opts}
use Rattle.job_syntax.specs.Ask.{is_deq_ret}
use Rattle.job_syntax.specs.Spelled.{scope_word, reach_word, Opt, WithRet, WithRnl, WithUcb, option, IsFree, set}
use Rattle.job_syntax.specs.Spelled.{IsResAsk, WantedName, WithQname, WithRname, IsScan, IsResource, IsBehind}
use Rattle.job_syntax.specs.Spelled.{line_word_for, IsWord}
use Rattle.job_syntax.specs.Lines.{are_bad_names, has_bad_name, ret_or_none, rnl_or_yes, is_have, filter_of, line_of}
use Rattle.job_syntax.specs.Printed.{printed_ret, printed_have, printed_rnl, maybe_unit, printed_line}
use Rattle.job_syntax.specs.Reading.{SpellsLine}

-- ---- units

hex_again : (n : ℕ) → n < 16 → hex_of (hex_digit n) ≡ Some n
hex_again n h = rw (digit-hex n h, digit-hex_digit n h) refl

pub unit_again : (n : ℕ) → n < 65536 → unit_of (unit_digits n) ≡ Some n
unfolding unit_of
unit_again n h =
    rw (
      hex_again (n / 4096 % 16) (omega arith),
      hex_again (n / 256 % 16) (omega arith),
      hex_again (n / 16 % 16) (omega arith),
      hex_again (n % 16) (omega arith),
    )
    (ap (λ (x : ℕ). Some x) (omega (arith, h)))

digit_word : (n : ℕ) → n < 16 → is_word (hex_digit n) ≡ true
unfolding is_word
digit_word n h = grind (arith, nat_tests)

unit_word : (n : ℕ) → is_piece (Plain (unit_digits n)) ≡ true
unit_word n =
    rw (
      digit_word (n / 4096 % 16) (omega arith),
      digit_word (n / 256 % 16) (omega arith),
      digit_word (n / 16 % 16) (omega arith),
      digit_word (n % 16) (omega arith),
    )
    refl

-- ---- the bits of options

rnl_bits : Bool → List Bit
rnl_bits true = []
rnl_bits false = Mark Comma ∷ Of (codes "RNL") ∷ Mark Equals ∷ Of (codes "NO") ∷ []

ret_bits : Ret → List Bit → List Bit
ret_bits RetNone rest = rest
ret_bits RetUse rest = Mark Comma ∷ Of (codes "RET") ∷ Mark Equals ∷ Of (codes "USE") ∷ rest
ret_bits RetHave rest = Mark Comma ∷ Of (codes "RET") ∷ Mark Equals ∷ Of (codes "HAVE") ∷ rest
ret_bits RetTest rest = Mark Comma ∷ Of (codes "RET") ∷ Mark Equals ∷ Of (codes "TEST") ∷ rest
ret_bits RetChng rest = Mark Comma ∷ Of (codes "RET") ∷ Mark Equals ∷ Of (codes "CHNG") ∷ rest
ret_bits RetEcb rest = Mark Comma ∷ Of (codes "ECB") ∷ rest

have_bits : Bool → List Bit → List Bit
have_bits true rest = Mark Comma ∷ Of (codes "RET") ∷ Mark Equals ∷ Of (codes "HAVE") ∷ rest
have_bits false rest = rest

abbrev unit_bits : ℕ → List Bit → List Bit
unit_bits unit rest = Mark Comma ∷ Of (codes "UCB") ∷ Mark Equals ∷ Of (unit_digits unit) ∷ rest

maybe_bits : Option ℕ → List Bit → List Bit
maybe_bits None rest = rest
maybe_bits (Some unit) rest = unit_bits unit rest

-- bits of options: they are bits, and they may stand behind a word
record AreOptions (bs : List Bit) : Type 0 where
  are : are_bits bs ≡ true
  parted : starts_apart bs ≡ true

rnl_are : (b : Bool) → AreOptions (rnl_bits b)
unfolding rnl_bits is_word
rnl_are true = record { are = refl; parted = refl }
rnl_are false = record { are = refl; parted = refl }

ret_are : (r : Ret) (rest : List Bit) → AreOptions rest → AreOptions (ret_bits r rest)
unfolding ret_bits is_word
ret_are RetNone rest h = h
ret_are RetUse rest h = record { are = rw (h.are, h.parted) refl; parted = refl }
ret_are RetHave rest h = record { are = rw (h.are, h.parted) refl; parted = refl }
ret_are RetTest rest h = record { are = rw (h.are, h.parted) refl; parted = refl }
ret_are RetChng rest h = record { are = rw (h.are, h.parted) refl; parted = refl }
ret_are RetEcb rest h = record { are = rw (h.are, h.parted) refl; parted = refl }

have_are : (b : Bool) (rest : List Bit) → AreOptions rest → AreOptions (have_bits b rest)
unfolding have_bits is_word
have_are true rest h = record { are = rw (h.are, h.parted) refl; parted = refl }
have_are false rest h = h

ucb_word : is_piece (Plain (codes "UCB")) ≡ true
unfolding is_word
ucb_word = refl

unit_are : (unit : ℕ) (rest : List Bit) → AreOptions rest → AreOptions (unit_bits unit rest)
unit_are unit rest h = record { are = rw (ucb_word, unit_word unit, h.are, h.parted) refl; parted = refl }

maybe_are : (o : Option ℕ) (rest : List Bit) → AreOptions rest → AreOptions (maybe_bits o rest)
unfolding maybe_bits
maybe_are None rest h = h
maybe_are (Some unit) rest h = unit_are unit rest h

-- ---- their texts

rnl_text : (b : Bool) → text_of (rnl_bits b) ≡ printed_rnl b
unfolding rnl_bits
rnl_text true = refl
rnl_text false = refl

ret_text : (r : Ret) (rest : List Bit) → text_of (ret_bits r rest) ≡ printed_ret r ++ text_of rest
unfolding ret_bits
ret_text RetNone rest = refl
ret_text RetUse rest = refl
ret_text RetHave rest = refl
ret_text RetTest rest = refl
ret_text RetChng rest = refl
ret_text RetEcb rest = refl

have_text : (b : Bool) (rest : List Bit) → text_of (have_bits b rest) ≡ printed_have b ++ text_of rest
unfolding have_bits
have_text true rest = refl
have_text false rest = refl

maybe_text : (o : Option ℕ) (rest : List Bit) → text_of (maybe_bits o rest) ≡ maybe_unit o ++ text_of rest
unfolding maybe_bits
maybe_text None rest = refl
maybe_text (Some unit) rest = refl

-- ---- their options

rnl_given : Bool → List Opt
rnl_given true = []
rnl_given false = WithRnl false ∷ []

ret_given : Ret → List Opt → List Opt
ret_given RetNone rest = rest
ret_given RetUse rest = WithRet RetUse ∷ rest
ret_given RetHave rest = WithRet RetHave ∷ rest
ret_given RetTest rest = WithRet RetTest ∷ rest
ret_given RetChng rest = WithRet RetChng ∷ rest
ret_given RetEcb rest = WithRet RetEcb ∷ rest

have_given : Bool → List Opt → List Opt
have_given true rest = WithRet RetHave ∷ rest
have_given false rest = rest

maybe_given : Option ℕ → List Opt → List Opt
maybe_given None rest = rest
maybe_given (Some unit) rest = WithUcb (unit_digits unit) unit ∷ rest

rnl_tokens : (b : Bool) → tokens_of (rnl_bits b) ≡ flat_map option (rnl_given b)
unfolding rnl_bits rnl_given
rnl_tokens true = refl
rnl_tokens false = refl

ret_tokens : (r : Ret) (rest : List Bit) (given : List Opt) → tokens_of rest ≡ flat_map option given
    → tokens_of (ret_bits r rest) ≡ flat_map option (ret_given r given)
unfolding ret_bits ret_given
ret_tokens RetNone rest given h = h
ret_tokens RetUse rest given h = rw h refl
ret_tokens RetHave rest given h = rw h refl
ret_tokens RetTest rest given h = rw h refl
ret_tokens RetChng rest given h = rw h refl
ret_tokens RetEcb rest given h = rw h refl

have_tokens : (b : Bool) (rest : List Bit) (given : List Opt) → tokens_of rest ≡ flat_map option given
    → tokens_of (have_bits b rest) ≡ flat_map option (have_given b given)
unfolding have_bits have_given
have_tokens true rest given h = rw h refl
have_tokens false rest given h = h

maybe_tokens : (o : Option ℕ) (rest : List Bit) (given : List Opt) → tokens_of rest ≡ flat_map option given
    → tokens_of (maybe_bits o rest) ≡ flat_map option (maybe_given o given)
unfolding maybe_bits maybe_given
maybe_tokens None rest given h = h
maybe_tokens (Some unit) rest given h = rw h refl

-- what was given
abbrev ret_option : Ret → Option Ret
ret_option RetNone = None
ret_option RetUse = Some RetUse
ret_option RetHave = Some RetHave
ret_option RetTest = Some RetTest
ret_option RetChng = Some RetChng
ret_option RetEcb = Some RetEcb

abbrev rnl_option : Bool → Option Bool
rnl_option true = None
rnl_option false = Some false

abbrev have_option : Bool → Option Ret
have_option true = Some RetHave
have_option false = None

enq_set : (r : Ret) (b : Bool)
    → Sets IsFree set no_opts (ret_given r (rnl_given b))
    (record { ret = ret_option r; rnl = rnl_option b; unit = None })
unfolding ret_given rnl_given
enq_set RetNone true = refl
enq_set RetNone false = (refl, refl)
enq_set RetUse true = (refl, refl)
enq_set RetUse false = (refl, (refl, refl))
enq_set RetHave true = (refl, refl)
enq_set RetHave false = (refl, (refl, refl))
enq_set RetTest true = (refl, refl)
enq_set RetTest false = (refl, (refl, refl))
enq_set RetChng true = (refl, refl)
enq_set RetChng false = (refl, (refl, refl))
enq_set RetEcb true = (refl, refl)
enq_set RetEcb false = (refl, (refl, refl))

reserve_set : (r : Ret) (b : Bool) (unit : ℕ) → unit < 65536
    → Sets IsFree set no_opts (WithUcb (unit_digits unit) unit ∷ ret_given r (rnl_given b))
    (record { ret = ret_option r; rnl = rnl_option b; unit = Some unit })
unfolding ret_given rnl_given
reserve_set RetNone true unit h = ((refl, unit_again unit h), refl)
reserve_set RetNone false unit h = ((refl, unit_again unit h), (refl, refl))
reserve_set RetUse true unit h = ((refl, unit_again unit h), (refl, refl))
reserve_set RetUse false unit h = ((refl, unit_again unit h), (refl, (refl, refl)))
reserve_set RetHave true unit h = ((refl, unit_again unit h), (refl, refl))
reserve_set RetHave false unit h = ((refl, unit_again unit h), (refl, (refl, refl)))
reserve_set RetTest true unit h = ((refl, unit_again unit h), (refl, refl))
reserve_set RetTest false unit h = ((refl, unit_again unit h), (refl, (refl, refl)))
reserve_set RetChng true unit h = ((refl, unit_again unit h), (refl, refl))
reserve_set RetChng false unit h = ((refl, unit_again unit h), (refl, (refl, refl)))
reserve_set RetEcb true unit h = ((refl, unit_again unit h), (refl, refl))
reserve_set RetEcb false unit h = ((refl, unit_again unit h), (refl, (refl, refl)))

deq_set : (o : Option ℕ) (have b : Bool) → IsMaybeUnit o
    → Sets IsFree set no_opts (maybe_given o (have_given have (rnl_given b)))
    (record { ret = have_option have; rnl = rnl_option b; unit = o })
unfolding maybe_given have_given rnl_given
deq_set None true true h = (refl, refl)
deq_set None true false h = (refl, (refl, refl))
deq_set None false true h = refl
deq_set None false false h = (refl, refl)
deq_set (Some unit) true true h = ((refl, unit_again unit h), (refl, refl))
deq_set (Some unit) true false h = ((refl, unit_again unit h), (refl, (refl, refl)))
deq_set (Some unit) false true h = ((refl, unit_again unit h), refl)
deq_set (Some unit) false false h = ((refl, unit_again unit h), (refl, refl))

wait_set : (b : Bool) → Sets IsFree set no_opts (rnl_given b) (record { ret = None; rnl = rnl_option b; unit = None })
unfolding rnl_given
wait_set true = refl
wait_set false = (refl, refl)

ret_back : (r : Ret) → ret_or_none (ret_option r) ≡ r
ret_back RetNone = refl
ret_back RetUse = refl
ret_back RetHave = refl
ret_back RetTest = refl
ret_back RetChng = refl
ret_back RetEcb = refl

rnl_back : (b : Bool) → rnl_or_yes (rnl_option b) ≡ b
rnl_back true = refl
rnl_back false = refl

have_back : (b : Bool) → is_have (have_option b) ≡ b
have_back true = refl
have_back false = refl

-- ---- names

-- names as bits
record NamesAre (q r : List ℕ) : Type 0 where
  q_bit : is_bit (Called q) ≡ true
  r_bit : is_bit (Called r) ≡ true
  good : are_bad_names q r ≡ false

names_are : (q r : List ℕ) → AreNames q r → NamesAre q r
names_are q r h = record {
  q_bit = and_from (is_nonempty q) (are_bytes q) (qname_nonempty q h.qname.made) h.q_bytes;
  r_bit = and_from (is_nonempty r) (are_bytes r) (rname_nonempty r h.rname) h.r_bytes;
  good = rw (h.qname.made, h.rname) refl;
}

-- ---- lines

-- A line that is spelled by a word and bits.
spells_so : (l : Line) (word : List ℕ) (bs : List Bit) (s : LineAsk) → is_piece (Plain word) ≡ true → are_bits bs ≡ true
    → word ++ 32 ∷ text_of bs ≡ printed_line l → IsWord (line_word_for s) word → IsBehind (tokens_of bs) s
    → has_bad_name s ≡ false → line_of s ≡ l → SpellsLine (printed_line l) l
spells_so l word bs s is are text of behind names makes = record {
  tokens = line_of_bits word bs;
  spelled =
      subst (λ (t : List ℕ). SpellsLines (readable t) (line_of_bits word bs ∷ [])) text
      (any_text (word ++ 32 ∷ text_of bs) (line_of_bits word bs ∷ []) (bits_line word bs is are));
  apart = refl;
  line_ask = s;
  says = record { word = word; behind = tokens_of bs; parts = refl; is_word = of; is_behind = behind };
  names = names;
  makes = makes;
}

ctl_bit : (c : Ctl) → is_piece (Plain (ctl_word c)) ≡ true
unfolding is_word
ctl_bit E = refl
ctl_bit S = refl

scope_bit : (s : Scope) → is_piece (Plain (scope_word s)) ≡ true
unfolding is_word
scope_bit scopes.Step = refl
scope_bit scopes.System = refl
scope_bit scopes.Systems = refl

reach_bit : (b : Bool) → is_piece (Plain (reach_word b)) ≡ true
unfolding is_word
reach_bit true = refl
reach_bit false = refl

-- ( q , r , control , scope ) and options
abbrev controlled : List ℕ → List ℕ → Ctl → Scope → List Bit → List Bit
controlled q r c s rest =
    Mark Open ∷ Called q ∷ Mark Comma ∷ Called r ∷ Mark Comma ∷ Of (ctl_word c) ∷ Mark Comma ∷ Of (scope_word s)
    ∷ Mark Close ∷ rest

-- ( q , r , scope ) and options
abbrev placed : List ℕ → List ℕ → Scope → List Bit → List Bit
placed q r s rest = Mark Open ∷ Called q ∷ Mark Comma ∷ Called r ∷ Mark Comma ∷ Of (scope_word s) ∷ Mark Close ∷ rest

controlled_are : (q r : List ℕ) (c : Ctl) (s : Scope) (rest : List Bit) → NamesAre q r → AreOptions rest
    → are_bits (controlled q r c s rest) ≡ true
controlled_are q r c s rest h o = rw (h.q_bit, h.r_bit, ctl_bit c, scope_bit s, o.are) refl

placed_are : (q r : List ℕ) (s : Scope) (rest : List Bit) → NamesAre q r → AreOptions rest
    → are_bits (placed q r s rest) ≡ true
placed_are q r s rest h o = rw (h.q_bit, h.r_bit, scope_bit s, o.are) refl

ask_of : (q r : List ℕ) (c : Ctl) (s : Scope) (o : Opts) (rest : List Bit) (given : List Opt)
    → tokens_of rest ≡ flat_map option given → Sets IsFree set no_opts given o
    → IsResAsk (Word (ctl_word c) ∷ Comma ∷ []) (tokens_of (controlled q r c s rest))
    (record { q = q; r = r; scope = s; opts = o })
ask_of q r c s o rest given tokens options = record {
  q = name_token q;
  r = name_token r;
  given = given;
  spelled = rw tokens refl;
  named_q = name_names q;
  named_r = name_names r;
  options = options;
}

place_of : (q r : List ℕ) (s : Scope) (o : Opts) (rest : List Bit) (given : List Opt)
    → tokens_of rest ≡ flat_map option given → Sets IsFree set no_opts given o
    → IsResAsk [] (tokens_of (placed q r s rest)) (record { q = q; r = r; scope = s; opts = o })
place_of q r s o rest given tokens options = record {
  q = name_token q;
  r = name_token r;
  given = given;
  spelled = rw tokens refl;
  named_q = name_names q;
  named_r = name_names r;
  options = options;
}

line_word_words : (is_piece (Plain (codes "ENQ")) ≡ true) × (is_piece (Plain (codes "RESERVE")) ≡ true)
    × (is_piece (Plain (codes "DEQ")) ≡ true) × (is_piece (Plain (codes "WAIT")) ≡ true)
    × (is_piece (Plain (codes "GQSCAN")) ≡ true) × (is_piece (Plain (codes "DISPLAY")) ≡ true)
unfolding is_word
line_word_words = (refl, refl, refl, refl, refl, refl)

-- ---- ENQ

abbrev enq_rest : Ret → Bool → List Bit
enq_rest ret rnl = ret_bits ret (rnl_bits rnl)

enq_options : (ret : Ret) (rnl : Bool) → AreOptions (enq_rest ret rnl)
enq_options ret rnl = ret_are ret (rnl_bits rnl) (rnl_are rnl)

abbrev enq_line_ask : Item → Ret → Bool → LineAsk
enq_line_ask i ret rnl =
    asks.Enq (record {
      ctl = i.ctl;
      ask = record {
        q = i.q;
        r = i.r;
        scope = i.scope;
        opts = record { ret = ret_option ret; rnl = rnl_option rnl; unit = None };
      };
    })

enq_text : (i : Item) (ret : Ret) (rnl : Bool)
    → codes "ENQ" ++ 32 ∷ text_of (controlled i.q i.r i.ctl i.scope (enq_rest ret rnl))
    ≡ printed_line (lines.Enq (i ∷ []) ret rnl)
enq_text i ret rnl = rw (ret_text ret (rnl_bits rnl), rnl_text rnl) (simp (append_assoc, append-nil))

enq_again : (i : Item) (ret : Ret) (rnl : Bool) → AreNames i.q i.r
    → SpellsLine (printed_line (lines.Enq (i ∷ []) ret rnl)) (lines.Enq (i ∷ []) ret rnl)
enq_again i ret rnl h =
    let n = names_are i.q i.r h in
    let rest = enq_rest ret rnl in
    let bits = controlled_are i.q i.r i.ctl i.scope rest n (enq_options ret rnl) in
    let ask =
    ask_of i.q i.r i.ctl i.scope (record { ret = ret_option ret; rnl = rnl_option rnl; unit = None }) rest
    (ret_given ret (rnl_given rnl)) (ret_tokens ret (rnl_bits rnl) (rnl_given rnl) (rnl_tokens rnl))
    (enq_set ret rnl) in
    spells_so (lines.Enq (i ∷ []) ret rnl) (codes "ENQ") (controlled i.q i.r i.ctl i.scope rest)
    (enq_line_ask i ret rnl) line_word_words.0 bits (enq_text i ret rnl) refl (ask, refl) n.good
    (rw (h.qname.trimmed, ret_back ret, rnl_back rnl) refl)

-- ---- RESERVE

reserve_options : (unit : ℕ) (ret : Ret) (rnl : Bool) → AreOptions (unit_bits unit (enq_rest ret rnl))
reserve_options unit ret rnl = unit_are unit (enq_rest ret rnl) (enq_options ret rnl)

reserve_text : (q r : List ℕ) (ctl : Ctl) (unit : ℕ) (ret : Ret) (rnl : Bool)
    → codes "RESERVE" ++ 32 ∷ text_of (controlled q r ctl scopes.Systems (unit_bits unit (enq_rest ret rnl)))
    ≡ printed_line (lines.Reserve q r ctl unit ret rnl)
reserve_text q r ctl unit ret rnl = rw (ret_text ret (rnl_bits rnl), rnl_text rnl) (simp append_assoc)

reserve_again : (q r : List ℕ) (ctl : Ctl) (unit : ℕ) (ret : Ret) (rnl : Bool) → AreNames q r → unit < 65536
    → SpellsLine (printed_line (lines.Reserve q r ctl unit ret rnl)) (lines.Reserve q r ctl unit ret rnl)
reserve_again q r ctl unit ret rnl h lt =
    let n = names_are q r h in
    let rest = unit_bits unit (enq_rest ret rnl) in
    let bits = controlled_are q r ctl scopes.Systems rest n (reserve_options unit ret rnl) in
    let opts : Opts = record { ret = ret_option ret; rnl = rnl_option rnl; unit = Some unit } in
    let tokens : tokens_of rest ≡ flat_map option (WithUcb (unit_digits unit) unit ∷ ret_given ret (rnl_given rnl)) =
    rw (ret_tokens ret (rnl_bits rnl) (rnl_given rnl) (rnl_tokens rnl)) refl in
    let ask =
    ask_of q r ctl scopes.Systems opts rest (WithUcb (unit_digits unit) unit ∷ ret_given ret (rnl_given rnl)) tokens
    (reserve_set ret rnl unit lt) in
    spells_so (lines.Reserve q r ctl unit ret rnl) (codes "RESERVE") (controlled q r ctl scopes.Systems rest)
    (asks.Reserve (record { ctl = ctl; ask = record { q = q; r = r; scope = scopes.Systems; opts = opts } }))
    line_word_words.1 bits (reserve_text q r ctl unit ret rnl) refl (ask, refl) n.good
    (rw (h.qname.trimmed, ret_back ret, rnl_back rnl) refl)

-- ---- DEQ and WAIT

abbrev deq_rest : Bool → Option ℕ → Bool → List Bit
deq_rest have unit rnl = maybe_bits unit (have_bits have (rnl_bits rnl))

deq_options : (have : Bool) (unit : Option ℕ) (rnl : Bool) → AreOptions (deq_rest have unit rnl)
deq_options have unit rnl = maybe_are unit (have_bits have (rnl_bits rnl)) (have_are have (rnl_bits rnl) (rnl_are rnl))

deq_text : (q r : List ℕ) (s : Scope) (have : Bool) (unit : Option ℕ) (rnl : Bool)
    → codes "DEQ" ++ 32 ∷ text_of (placed q r s (deq_rest have unit rnl)) ≡ printed_line (lines.Deq q r s have unit rnl)
deq_text q r s have unit rnl =
    rw (maybe_text unit (have_bits have (rnl_bits rnl)), have_text have (rnl_bits rnl), rnl_text rnl)
    (simp append_assoc)

deq_good : (have : Bool) → is_deq_ret (have_option have) ≡ true
deq_good true = refl
deq_good false = refl

deq_again : (q r : List ℕ) (s : Scope) (have : Bool) (unit : Option ℕ) (rnl : Bool) → AreNames q r → IsMaybeUnit unit
    → SpellsLine (printed_line (lines.Deq q r s have unit rnl)) (lines.Deq q r s have unit rnl)
deq_again q r s have unit rnl h lt =
    let n = names_are q r h in
    let rest = deq_rest have unit rnl in
    let bits = placed_are q r s rest n (deq_options have unit rnl) in
    let opts : Opts = record { ret = have_option have; rnl = rnl_option rnl; unit = unit } in
    let tokens =
    maybe_tokens unit (have_bits have (rnl_bits rnl)) (have_given have (rnl_given rnl))
    (have_tokens have (rnl_bits rnl) (rnl_given rnl) (rnl_tokens rnl)) in
    let ask =
    place_of q r s opts rest (maybe_given unit (have_given have (rnl_given rnl))) tokens (deq_set unit have rnl lt) in
    spells_so (lines.Deq q r s have unit rnl) (codes "DEQ") (placed q r s rest)
    (asks.Deq (record { q = q; r = r; scope = s; opts = opts })) line_word_words.2 bits (deq_text q r s have unit rnl)
    refl (ask, deq_good have) n.good
    (rw (h.qname.trimmed, have_back have, rnl_back rnl) refl)

wait_text : (q r : List ℕ) (s : Scope) (rnl : Bool)
    → codes "WAIT" ++ 32 ∷ text_of (placed q r s (rnl_bits rnl)) ≡ printed_line (lines.Wait q r s rnl)
wait_text q r s rnl = rw (rnl_text rnl) (simp append_assoc)

wait_again : (q r : List ℕ) (s : Scope) (rnl : Bool) → AreNames q r
    → SpellsLine (printed_line (lines.Wait q r s rnl)) (lines.Wait q r s rnl)
wait_again q r s rnl h =
    let n = names_are q r h in
    let bits = placed_are q r s (rnl_bits rnl) n (rnl_are rnl) in
    let opts : Opts = record { ret = None; rnl = rnl_option rnl; unit = None } in
    let ask = place_of q r s opts (rnl_bits rnl) (rnl_given rnl) (rnl_tokens rnl) (wait_set rnl) in
    spells_so (lines.Wait q r s rnl) (codes "WAIT") (placed q r s (rnl_bits rnl))
    (asks.Wait (record { q = q; r = r; scope = s; opts = opts })) line_word_words.3 bits (wait_text q r s rnl) refl
    (ask, refl) n.good
    (rw (h.qname.trimmed, rnl_back rnl) refl)

-- ---- GQSCAN and DISPLAY

abbrev r_bits : Option (List ℕ) → List Bit
r_bits None = []
r_bits (Some r) = Mark Comma ∷ Of (codes "RNAME") ∷ Mark Equals ∷ Called r ∷ []

abbrev q_bits : Option (List ℕ) → List Bit → List Bit
q_bits None rest = rest
q_bits (Some q) rest = Mark Comma ∷ Of (codes "QNAME") ∷ Mark Equals ∷ Called q ∷ rest

abbrev scan_bits : Bool → Option (List ℕ) → Option (List ℕ) → List Bit
scan_bits global q r = Of (codes "SCOPE") ∷ Mark Equals ∷ Of (reach_word global) ∷ q_bits q (r_bits r)

r_given : Option (List ℕ) → List WantedName
r_given None = []
r_given (Some r) = WithRname (name_token r) r ∷ []

q_given : Option (List ℕ) → List WantedName → List WantedName
q_given None rest = rest
q_given (Some q) rest = WithQname (name_token q) q ∷ rest

scan_words : (is_piece (Plain (codes "SCOPE")) ≡ true) × (is_piece (Plain (codes "QNAME")) ≡ true)
    × (is_piece (Plain (codes "RNAME")) ≡ true) × (is_piece (Plain (codes "GRS")) ≡ true)
    × (is_piece (Plain (codes "C")) ≡ true) × (is_piece (Plain (codes "RES")) ≡ true)
unfolding is_word
scan_words = (refl, refl, refl, refl, refl, refl)

q_is : (q : List ℕ) → IsQname q × (are_bytes q ≡ true) → is_bit (Called q) ≡ true
q_is q h = and_from (is_nonempty q) (are_bytes q) (qname_nonempty q h.0.made) h.1

r_is : (r : List ℕ) → (is_rname r ≡ true) × (are_bytes r ≡ true) → is_bit (Called r) ≡ true
r_is r h = and_from (is_nonempty r) (are_bytes r) (rname_nonempty r h.0) h.1

scan_are : (global : Bool) (q r : Option (List ℕ)) → IsMaybeQname q → IsMaybeRname r
    → are_bits (scan_bits global q r) ≡ true
scan_are global None None hq hr = rw (scan_words.0, reach_bit global) refl
scan_are global None (Some r) hq hr = rw (scan_words.0, scan_words.2, reach_bit global, r_is r hr) refl
scan_are global (Some q) None hq hr = rw (scan_words.0, scan_words.1, reach_bit global, q_is q hq) refl
scan_are global (Some q) (Some r) hq hr =
    rw (scan_words.0, scan_words.1, scan_words.2, reach_bit global, q_is q hq, r_is r hr) refl

scan_says : (global : Bool) (q r : Option (List ℕ))
    → IsScan (tokens_of (scan_bits global q r)) (record { global = global; names = record { q = q; r = r } })
unfolding q_given r_given
scan_says global None None = record { given = q_given None (r_given None); spelled = refl; names = refl }
scan_says global None
    (Some r) = record { given = q_given None (r_given (Some r)); spelled = refl; names = ((refl, name_names r), refl) }
scan_says global (Some q)
    None = record { given = q_given (Some q) (r_given None); spelled = refl; names = ((refl, name_names q), refl) }
scan_says global (Some q) (Some r) = record {
  given = q_given (Some q) (r_given (Some r));
  spelled = refl;
  names = ((refl, name_names q), ((refl, name_names r), refl));
}

scan_good : (q r : Option (List ℕ)) → IsMaybeQname q → IsMaybeRname r → (is_bad_qname q || is_bad_rname r) ≡ false
scan_good None None hq hr = refl
scan_good None (Some r) hq hr = rw hr.0 refl
scan_good (Some q) None hq hr = rw hq.0.made refl
scan_good (Some q) (Some r) hq hr = rw (hq.0.made, hr.0) refl

named_text : (global : Bool) (q r : Option (List ℕ))
    → codes "GQSCAN" ++ 32 ∷ text_of (scan_bits global q r) ≡ printed_line (lines.Gqscan global (filters.Named q r))
named_text true None None = refl
named_text false None None = refl
named_text global None (Some r) = simp (append_assoc, append-nil)
named_text global (Some q) None = simp (append_assoc, append-nil)
named_text global (Some q) (Some r) = simp (append_assoc, append-nil)

all_text : (global : Bool)
    → codes "GQSCAN" ++ 32 ∷ text_of (scan_bits global None None) ≡ printed_line (lines.Gqscan global filters.All)
all_text true = refl
all_text false = refl

named_back : (q r : Option (List ℕ)) → IsMaybeQname q → (is_none q && is_none r) ≡ false
    → filter_of (record { q = q; r = r }) ≡ filters.Named q r
named_back None None h some = absurd cc
named_back None (Some r) h some = refl
named_back (Some q) r h some = rw h.0.trimmed refl

scan_again : (global : Bool) (filter : Filter) → IsFilter filter
    → SpellsLine (printed_line (lines.Gqscan global filter)) (lines.Gqscan global filter)
scan_again global filters.All h =
    let bits = scan_are global None None tt tt in
    spells_so (lines.Gqscan global filters.All) (codes "GQSCAN") (scan_bits global None None)
    (asks.Gqscan (record { global = global; names = record { q = None; r = None } })) line_word_words.4 bits
    (all_text global) refl (scan_says global None None) refl refl
scan_again global filters.Contended h = absurd h
scan_again global (filters.Named q r) h =
    let bits = scan_are global q r h.0 h.1 in
    spells_so (lines.Gqscan global (filters.Named q r)) (codes "GQSCAN") (scan_bits global q r)
    (asks.Gqscan (record { global = global; names = record { q = q; r = r } })) line_word_words.4 bits
    (named_text global q r) refl (scan_says global q r) (scan_good q r h.0 h.1)
    (ap (lines.Gqscan global) (named_back q r h.0 h.2))

contended_again : SpellsLine (printed_line lines.DisplayC) lines.DisplayC
contended_again =
    spells_so lines.DisplayC (codes "DISPLAY") (Of (codes "GRS") ∷ Mark Comma ∷ Of (codes "C") ∷ [])
    (asks.Display shown.Contended) line_word_words.5 (rw (scan_words.3, scan_words.4) refl) refl (inl refl) refl refl
    refl

abbrev resource_bits : List ℕ → List ℕ → List Bit
resource_bits q r =
    Of (codes "GRS") ∷ Mark Comma ∷ Of (codes "RES") ∷ Mark Equals ∷ Mark Open ∷ Called q ∷ Mark Comma ∷ Called r
    ∷ Mark Close ∷ []

resource_text : (q r : List ℕ)
    → codes "DISPLAY" ++ 32 ∷ text_of (resource_bits q r) ≡ printed_line (lines.DisplayRes q r)
resource_text q r = simp append_assoc

resource_again : (q r : List ℕ) → AreNames q r → SpellsLine (printed_line (lines.DisplayRes q r)) (lines.DisplayRes q r)
resource_again q r h =
    let n = names_are q r h in
    let says :
    IsResource (tokens_of (resource_bits q r)) q
    r = record { q = name_token q; r = name_token r; spelled = refl; named_q = name_names q; named_r = name_names r } in
    spells_so (lines.DisplayRes q r) (codes "DISPLAY") (resource_bits q r) (asks.Display (shown.Resource q r))
    line_word_words.5 (rw (scan_words.3, scan_words.5, n.q_bit, n.r_bit) refl) (resource_text q r) (inl refl) says
    n.good
    (ap (λ (x : List ℕ). lines.DisplayRes x r) h.qname.trimmed)

-- What is printed of a line is read as that line.
pub line_again : (l : Line) → IsDeckLine l → SpellsLine (printed_line l) l
line_again (lines.Enq items ret rnl) h =
    subst (λ (xs : List Item). SpellsLine (printed_line (lines.Enq xs ret rnl)) (lines.Enq xs ret rnl)) (sym h.1)
    (enq_again h.0 ret rnl h.2)
line_again (lines.Reserve q r ctl unit ret rnl) h = reserve_again q r ctl unit ret rnl h.0 h.1
line_again (lines.Deq q r scope have unit rnl) h = deq_again q r scope have unit rnl h.0 h.1
line_again (lines.Wait q r scope rnl) h = wait_again q r scope rnl h
line_again (lines.Gqscan global filter) h = scan_again global filter h
line_again lines.DisplayC h = contended_again
line_again (lines.DisplayRes q r) h = resource_again q r h
