-- What is spelled so is read as a task line.
use Rattle.std.proofs.Common.{◌≡◌, inl, inr, ℕ, suc, ◌+◌, Bool, true, false, eqb, List, [], ◌∷◌, ◌++◌, length, Some}
use Rattle.std.proofs.Common.{refl, arith, lit≤}
use Rattle.std.specs.List.{flat_map}
use Rattle.std.proofs.lemmas.Bool.{ne_eqb}
use Rattle.grs_base.specs.declared.line.Scope.{Scope}
use Rattle.grs_base.specs.declared.line.Scope.TheVariants as scopes
use Rattle.grs_base.specs.declared.resource.Ctl.{Ctl}
use Rattle.grs_base.specs.declared.resource.Ctl.TheVariants.{E, S}
use Rattle.grs_base.specs.declared.resource.Ret.TheVariants.{RetNone, RetUse, RetHave, RetTest, RetChng, RetEcb}
use Rattle.deck_scan.specs.declared.token.Token.{Token}
use Rattle.deck_scan.specs.declared.token.Token.TheVariants.{Word, Open, Close, Comma}
use Rattle.deck_scan.specs.Next.{up_to, Names, Sets}
use Rattle.deck_scan.proofs.Again.{name_again, is_free, all_again}
use Rattle.job_syntax.specs.declared.options.Opts.{Opts}
use Rattle.job_syntax.specs.declared.ask.ResAsk.{ResAsk}
use Rattle.job_syntax.specs.declared.ask.EnqAsk.{EnqAsk}
use Rattle.job_syntax.specs.declared.display.Wanted.{Wanted}
use Rattle.job_syntax.specs.declared.display.ScanAsk.{ScanAsk}
use Rattle.job_syntax.specs.declared.display.Shown.{Shown}
use Rattle.job_syntax.specs.declared.display.Shown.TheVariants as shown
use Rattle.job_syntax.specs.declared.line_ask.LineAsk.{LineAsk}
use Rattle.job_syntax.specs.declared.line_ask.LineAsk.TheVariants as asks
use Rattle.job_syntax.specs.declared.line_ask.LineWord.{LineWord}
use Rattle.job_syntax.specs.declared.line_ask.LineWord.TheVariants as words
use Rattle.job_syntax.specs.Options.{no_opts, ret_of, rnl_of, chosen, option_at, options_at}
use Rattle.job_syntax.specs.Ask.{ctl_at, scope_at, names_at, place_at, controlled_at, uncontrolled_at, enq_at}
use Rattle.job_syntax.specs.Ask.{reserve_at, deq_at, wait_at}
use Rattle.job_syntax.specs.Display.{no_names, reach_of, want_of, want_at, scan_at, resource_at, shown_at, display_at}
use Rattle.job_syntax.specs.LineAsk.{line_word, line_ask_at}
use Rattle.grs_base.specs.Printed.{ctl_word}
use Rattle.job_syntax.specs.Spelled.{scope_word, reach_word, Opt, WithRet, WithRnl, WithUcb, option, IsFree, set}
use Rattle.job_syntax.specs.Spelled.{IsResAsk, WantedName, WithQname, WithRname, want, IsFreeWant, set_want, IsScan}
use Rattle.job_syntax.specs.Spelled.{IsShown, IsBehind, line_word_for, IsWord}

names_again : (q r : Token) (qname rname : List ℕ) (rest : List Token) → Names q qname → Names r rname
    → names_at (Open ∷ q ∷ Comma ∷ r ∷ Comma ∷ rest) ≡ Some (qname, rname, rest)
unfolding names_at
names_again q r qname rname rest hq hr =
    rw (name_again q qname (Comma ∷ r ∷ Comma ∷ rest) hq, name_again r rname (Comma ∷ rest) hr) refl

ctl_again : (c : Ctl) (rest : List Token) → ctl_at (Word (ctl_word c) ∷ rest) ≡ Some (c, rest)
unfolding ctl_at
ctl_again E rest = refl
ctl_again S rest = refl

scope_again : (s : Scope) (rest : List Token) → scope_at (Word (scope_word s) ∷ rest) ≡ Some (s, rest)
unfolding scope_at
scope_again scopes.Step rest = refl
scope_again scopes.System rest = refl
scope_again scopes.Systems rest = refl

-- ---- options

option_again : (x : Opt) (o : Opts) (rest : List Token) → IsFree x o
    → option_at o (option x ++ rest) ≡ Some (set x o, rest)
unfolding option_at chosen ret_of rnl_of
option_again (WithRet RetNone) o rest h = rw h refl
option_again (WithRet RetUse) o rest h = rw h refl
option_again (WithRet RetHave) o rest h = rw h refl
option_again (WithRet RetTest) o rest h = rw h refl
option_again (WithRet RetChng) o rest h = rw h refl
option_again (WithRet RetEcb) o rest h = rw h refl
option_again (WithRnl true) o rest h = rw h refl
option_again (WithRnl false) o rest h = rw h refl
option_again (WithUcb w unit) o rest h = rw (h.1, h.0) refl

long : (x : Opt) (rest : List Token) → eqb (length (option x ++ rest)) 0 ≡ false
long (WithRet RetNone) rest = ne_eqb _ 0 (λ e. omega (arith, e))
long (WithRet RetUse) rest = ne_eqb _ 0 (λ e. omega (arith, e))
long (WithRet RetHave) rest = ne_eqb _ 0 (λ e. omega (arith, e))
long (WithRet RetTest) rest = ne_eqb _ 0 (λ e. omega (arith, e))
long (WithRet RetChng) rest = ne_eqb _ 0 (λ e. omega (arith, e))
long (WithRet RetEcb) rest = ne_eqb _ 0 (λ e. omega (arith, e))
long (WithRnl b) rest = ne_eqb _ 0 (λ e. omega (arith, e))
long (WithUcb w unit) rest = ne_eqb _ 0 (λ e. omega (arith, e))

-- how many kinds of options are free
free_kinds : Opts → ℕ
free_kinds o = is_free o.ret + is_free o.rnl + is_free o.unit

fewer : (x : Opt) (o : Opts) → IsFree x o → free_kinds o ≡ suc (free_kinds (set x o))
unfolding free_kinds
fewer (WithRet r) o h = rw h (omega arith)
fewer (WithRnl b) o h = rw h (omega arith)
fewer (WithUcb w unit) o h = rw h.0 (omega arith)

options_again : (given : List Opt) (o : Opts) → Sets IsFree set no_opts given o
    → options_at (flat_map option given) ≡ Some o
unfolding options_at free_kinds
options_again given o h =
    all_again IsFree set option option_at free_kinds long option_again fewer 3 given no_opts o (lit≤ tt) h

-- ---- ENQ, DEQ and WAIT

place_again : (s : Scope) (given : List Opt) (o : Opts) → Sets IsFree set no_opts given o
    → place_at (Word (scope_word s) ∷ Close ∷ flat_map option given) ≡ Some (s, o)
unfolding place_at
place_again s given o h = rw (scope_again s (Close ∷ flat_map option given), options_again given o h) refl

controlled_again : (ts : List Token) (e : EnqAsk) → IsResAsk (Word (ctl_word e.ctl) ∷ Comma ∷ []) ts e.ask
    → controlled_at ts ≡ Some e
unfolding controlled_at
controlled_again ts e h =
    let place = Word (scope_word e.ask.scope) ∷ Close ∷ flat_map option h.given in
    rw (
      h.spelled,
      names_again h.q h.r e.ask.q e.ask.r (Word (ctl_word e.ctl) ∷ Comma ∷ place) h.named_q h.named_r,
      ctl_again e.ctl (Comma ∷ place),
      place_again e.ask.scope h.given e.ask.opts h.options,
    )
    refl

uncontrolled_again : (ts : List Token) (a : ResAsk) → IsResAsk [] ts a → uncontrolled_at ts ≡ Some a
unfolding uncontrolled_at
uncontrolled_again ts a h =
    let place = Word (scope_word a.scope) ∷ Close ∷ flat_map option h.given in
    rw (h.spelled, names_again h.q h.r a.q a.r place h.named_q h.named_r, place_again a.scope h.given a.opts h.options)
    refl

-- ---- GQSCAN and DISPLAY

want_again : (x : WantedName) (o : Wanted) (rest : List Token) → IsFreeWant x o
    → want_at o (want x ++ rest) ≡ Some (set_want x o, rest)
unfolding want_at want_of
want_again (WithQname t q) o rest h = rw (name_again t q rest h.1, h.0) refl
want_again (WithRname t r) o rest h = rw (name_again t r rest h.1, h.0) refl

long_want : (x : WantedName) (rest : List Token) → eqb (length (want x ++ rest)) 0 ≡ false
long_want (WithQname t q) rest = ne_eqb _ 0 (λ e. omega (arith, e))
long_want (WithRname t r) rest = ne_eqb _ 0 (λ e. omega (arith, e))

free_wants : Wanted → ℕ
free_wants o = is_free o.q + is_free o.r

fewer_wants : (x : WantedName) (o : Wanted) → IsFreeWant x o → free_wants o ≡ suc (free_wants (set_want x o))
unfolding free_wants
fewer_wants (WithQname t q) o h = rw h.0 (omega arith)
fewer_wants (WithRname t r) o h = rw h.0 (omega arith)

wants_again : (given : List WantedName) (o : Wanted) → Sets IsFreeWant set_want no_names given o
    → up_to 2 want_at no_names (flat_map want given) ≡ Some o
unfolding free_wants
wants_again given o h =
    all_again IsFreeWant set_want want want_at free_wants long_want want_again fewer_wants 2 given no_names o (lit≤ tt)
    h

reach_again : (b : Bool) → reach_of (reach_word b) ≡ Some b
unfolding reach_of
reach_again true = refl
reach_again false = refl

scan_again : (ts : List Token) (s : ScanAsk) → IsScan ts s → scan_at ts ≡ Some s
unfolding scan_at
scan_again ts s h = rw (h.spelled, reach_again s.global, wants_again h.given s.names h.names) refl

display_again : (ts : List Token) (s : Shown) → IsShown ts s → display_at ts ≡ Some s
unfolding display_at shown_at resource_at
display_again ts shown.Contended h = rw h refl
display_again ts (shown.Resource q r) h =
    rw (h.spelled, name_again h.q q (Comma ∷ h.r ∷ Close ∷ []) h.named_q, name_again h.r r (Close ∷ []) h.named_r) refl

-- ---- task lines

pub line_ask_again : (ts : List Token) (s : LineAsk) → IsBehind ts s → line_ask_at (line_word_for s) ts ≡ Some s
unfolding line_ask_at enq_at reserve_at deq_at wait_at
line_ask_again ts (asks.Enq e) h = rw (controlled_again ts e h.0, h.1) refl
line_ask_again ts (asks.Reserve e) h = rw (controlled_again ts e h.0, h.1) refl
line_ask_again ts (asks.Deq a) h = rw (uncontrolled_again ts a h.0, h.1) refl
line_ask_again ts (asks.Wait a) h = rw (uncontrolled_again ts a h.0, h.1) refl
line_ask_again ts (asks.Gqscan s) h = rw (scan_again ts s h) refl
line_ask_again ts (asks.Display s) h = rw (display_again ts s h) refl

pub line_word_again : (v : LineWord) (w : List ℕ) → IsWord v w → line_word w ≡ Some v
unfolding line_word
line_word_again words.Enq w h = rw h refl
line_word_again words.Reserve w h = rw h refl
line_word_again words.Deq w h = rw h refl
line_word_again words.Wait w h = rw h refl
line_word_again words.Gqscan w h = rw h refl
line_word_again words.Display w (inl h) = rw h refl
line_word_again words.Display w (inr h) = rw h refl
