-- What is read of a task line is spelled so.
use Rattle.std.proofs.Common.{◌≡◌, inl, inr, ℕ, Bool, true, false, cond, List, [], ◌∷◌, ◌++◌, Option, Some, None, refl}
use Rattle.std.proofs.Common.{sym, ap, subst, ◌∙◌}
use Rattle.std.specs.Prelude.{codes}
use Rattle.std.specs.List.{flat_map}
use Rattle.std.specs.Str.{bytes_eq}
use Rattle.grs_base.specs.declared.line.Scope.{Scope}
use Rattle.grs_base.specs.declared.line.Scope.TheVariants as scopes
use Rattle.grs_base.specs.declared.resource.Ctl.{Ctl}
use Rattle.grs_base.specs.declared.resource.Ctl.TheVariants.{E, S}
use Rattle.grs_base.specs.declared.resource.Ret.{Ret}
use Rattle.grs_base.specs.declared.resource.Ret.TheVariants.{RetNone, RetUse, RetHave, RetTest, RetChng, RetEcb}
use Rattle.deck_scan.specs.declared.token.Token.{Token}
use Rattle.deck_scan.specs.declared.token.Token.TheVariants.{Word, Open, Close, Comma, Equals}
use Rattle.deck_scan.specs.Next.{◌>>=◌, open_at, close_at, comma_at, equals_at, end_at, any_word_at, word_at, value_at}
use Rattle.deck_scan.specs.Next.{name_at, up_to, Names, Sets}
use Rattle.deck_scan.proofs.Taking.{bind_some, guard_some, some_is, same_bytes, by_row, IsWordOf, row, once_some}
use Rattle.deck_scan.proofs.Taking.{open_taken, close_taken, comma_taken, equals_taken, end_taken, any_word_taken}
use Rattle.deck_scan.proofs.Taking.{value_taken, name_taken, TookOne, all_taken}
use Rattle.job_syntax.specs.declared.options.Opts.{Opts}
use Rattle.job_syntax.specs.declared.ask.ResAsk.{ResAsk}
use Rattle.job_syntax.specs.declared.ask.EnqAsk.{EnqAsk}
use Rattle.job_syntax.specs.declared.display.Wanted.{Wanted}
use Rattle.job_syntax.specs.declared.display.ScanAsk.{ScanAsk}
use Rattle.job_syntax.specs.declared.display.Shown.{Shown}
use Rattle.job_syntax.specs.declared.display.Shown.TheVariants as shown
use Rattle.job_syntax.specs.declared.line_ask.LineAsk.{LineAsk}
use Rattle.job_syntax.specs.declared.line_ask.LineAsk.TheVariants as asks
use Rattle.job_syntax.specs.declared.line_ask.LineWord.{LineWord}
use Rattle.job_syntax.specs.declared.line_ask.LineWord.TheVariants as words
use Rattle.job_syntax.specs.Unit.{unit_of}
use Rattle.job_syntax.specs.Options.{no_opts, ret_of, rnl_of, with_ret, with_rnl, with_unit, chosen, option_at}
use Rattle.job_syntax.specs.Options.{options_at}
use Rattle.job_syntax.specs.Ask.{ctl_at, scope_at, names_at, place_at, enq_may, reserve_may, deq_may, wait_may}
use Rattle.job_syntax.specs.Ask.{controlled_at, uncontrolled_at, enq_at, reserve_at, deq_at, wait_at}
use Rattle.job_syntax.specs.Display.{no_names, reach_of, with_q, with_r, named_at, want_of, want_at, scan_at}
use Rattle.job_syntax.specs.Display.{resource_at, shown_at, display_at}
use Rattle.job_syntax.specs.LineAsk.{line_word, line_ask_at}
use Rattle.grs_base.specs.Printed.{ctl_word}
use Rattle.job_syntax.specs.Spelled.{scope_word, rnl_word, reach_word, Opt, WithRet, WithRnl, WithUcb, valued, option}
use Rattle.job_syntax.specs.Spelled.{IsFree, set, IsResAsk, WithQname, WithRname, want, IsFreeWant, set_want, IsScan}
use Rattle.job_syntax.specs.Spelled.{IsShown, IsBehind, line_word_for, IsWord, IsLineAsk}

-- ---- options

with_ret_taken : (o : Opts) (r : Ret) (p : Opts) → with_ret o r ≡ Some p → (o.ret ≡ None) × (p ≡ set (WithRet r) o)
with_ret_taken o r p e = once_some o.ret (record o { ret = Some r }) p e

with_rnl_taken : (o : Opts) (b : Bool) (p : Opts) → with_rnl o b ≡ Some p → (o.rnl ≡ None) × (p ≡ set (WithRnl b) o)
with_rnl_taken o b p e = once_some o.rnl (record o { rnl = Some b }) p e

with_unit_taken : (o : Opts) (w : List ℕ) (n : ℕ) (p : Opts) → with_unit o n ≡ Some p
    → (o.unit ≡ None) × (p ≡ set (WithUcb w n) o)
with_unit_taken o w n p e = once_some o.unit (record o { unit = Some n }) p e

abbrev RetWord : List ℕ → Option Ret → Type 0
RetWord w None = Unit {0}
RetWord w (Some r) = valued (codes "RET") w ≡ option (WithRet r)

ret_word : (w : List ℕ) → RetWord w (ret_of w)
unfolding ret_of
ret_word w =
    by_row (RetWord w) w (codes "NONE") RetNone _ (λ h. ap (valued (codes "RET")) h)
    (by_row (RetWord w) w (codes "USE") RetUse _ (λ h. ap (valued (codes "RET")) h)
    (by_row (RetWord w) w (codes "HAVE") RetHave _ (λ h. ap (valued (codes "RET")) h)
    (by_row (RetWord w) w (codes "TEST") RetTest _ (λ h. ap (valued (codes "RET")) h)
    (by_row (RetWord w) w (codes "CHNG") RetChng None (λ h. ap (valued (codes "RET")) h) tt))))

ret_taken : (w : List ℕ) (r : Ret) → ret_of w ≡ Some r → valued (codes "RET") w ≡ option (WithRet r)
ret_taken w r e = subst (RetWord w) e (ret_word w)

rnl_taken : (w : List ℕ) (b : Bool) → rnl_of w ≡ Some b → w ≡ rnl_word b
unfolding rnl_of
rnl_taken w b e = subst (IsWordOf rnl_word w) e (row rnl_word w true _ (row rnl_word w false None tt))

abbrev OptTook : Opts → List Token → Opts → List Token → Type 0
OptTook o ts p rest = TookOne IsFree set option o ts p rest

abbrev as_ret : Opts → List ℕ × List Token → Option (Opts × List Token)
as_ret o v = ret_of v.0 >>= λ x. with_ret o x >>= λ p. Some (p, v.1)

abbrev as_rnl : Opts → List ℕ × List Token → Option (Opts × List Token)
as_rnl o v = rnl_of v.0 >>= λ x. with_rnl o x >>= λ p. Some (p, v.1)

abbrev as_unit : Opts → List ℕ × List Token → Option (Opts × List Token)
as_unit o v = unit_of v.0 >>= λ x. with_unit o x >>= λ p. Some (p, v.1)

-- an option whose value stands behind an equals sign
value_front : (word : List ℕ) (w : List ℕ) (ts rest : List Token) (v : List ℕ × List Token) → w ≡ word
    → ts ≡ Equals ∷ Word v.0 ∷ v.1 → v.1 ≡ rest → Comma ∷ Word w ∷ ts ≡ valued word v.0 ++ rest
value_front word w ts rest v is_word is_value is_rest = rw (is_word, is_value, is_rest) refl

ecb_taken : (o : Opts) (w : List ℕ) (ts : List Token) (x : Opts × List Token) → w ≡ codes "ECB"
    → (with_ret o RetEcb >>= λ p. Some (p, ts)) ≡ Some x → OptTook o (Comma ∷ Word w ∷ ts) x.0 x.1
ecb_taken o w ts x is e =
    let p = bind_some (with_ret o RetEcb) (λ p. Some (p, ts)) x e in
    let k = with_ret_taken o RetEcb p.0 p.1 in
    subst (λ (y : Opts × List Token). OptTook o (Comma ∷ Word w ∷ ts) y.0 y.1) (some_is (p.0, ts) x p.2)
    (record { given = WithRet RetEcb; fresh = k.0; is = k.1; spelled = ap (λ (z : List ℕ). Comma ∷ Word z ∷ ts) is })

ret_option_taken : (o : Opts) (w : List ℕ) (ts : List Token) (x : Opts × List Token) → w ≡ codes "RET"
    → (value_at ts >>= as_ret o) ≡ Some x → OptTook o (Comma ∷ Word w ∷ ts) x.0 x.1
ret_option_taken o w ts x is e =
    let v = bind_some (value_at ts) (as_ret o) x e in
    let r = bind_some (ret_of v.0.0) (λ x. with_ret o x >>= λ p. Some (p, v.0.1)) x v.2 in
    let p = bind_some (with_ret o r.0) (λ p. Some (p, v.0.1)) x r.2 in
    let k = with_ret_taken o r.0 p.0 p.1 in
    let spelled : Comma ∷ Word w ∷ ts ≡ option (WithRet r.0) ++ v.0.1 =
    value_front (codes "RET") w ts v.0.1 v.0 is (value_taken ts v.0 v.1) refl
    ∙ ap (λ (t : List Token). t ++ v.0.1) (ret_taken v.0.0 r.0 r.1) in
    subst (λ (y : Opts × List Token). OptTook o (Comma ∷ Word w ∷ ts) y.0 y.1) (some_is (p.0, v.0.1) x p.2)
    (record { given = WithRet r.0; fresh = k.0; is = k.1; spelled = spelled })

rnl_option_taken : (o : Opts) (w : List ℕ) (ts : List Token) (x : Opts × List Token) → w ≡ codes "RNL"
    → (value_at ts >>= as_rnl o) ≡ Some x → OptTook o (Comma ∷ Word w ∷ ts) x.0 x.1
rnl_option_taken o w ts x is e =
    let v = bind_some (value_at ts) (as_rnl o) x e in
    let r = bind_some (rnl_of v.0.0) (λ x. with_rnl o x >>= λ p. Some (p, v.0.1)) x v.2 in
    let p = bind_some (with_rnl o r.0) (λ p. Some (p, v.0.1)) x r.2 in
    let k = with_rnl_taken o r.0 p.0 p.1 in
    let spelled : Comma ∷ Word w ∷ ts ≡ option (WithRnl r.0) ++ v.0.1 =
    value_front (codes "RNL") w ts v.0.1 v.0 is (value_taken ts v.0 v.1) refl
    ∙ ap (λ (z : List ℕ). valued (codes "RNL") z ++ v.0.1) (rnl_taken v.0.0 r.0 r.1) in
    subst (λ (y : Opts × List Token). OptTook o (Comma ∷ Word w ∷ ts) y.0 y.1) (some_is (p.0, v.0.1) x p.2)
    (record { given = WithRnl r.0; fresh = k.0; is = k.1; spelled = spelled })

unit_option_taken : (o : Opts) (w : List ℕ) (ts : List Token) (x : Opts × List Token) → w ≡ codes "UCB"
    → (value_at ts >>= as_unit o) ≡ Some x → OptTook o (Comma ∷ Word w ∷ ts) x.0 x.1
unit_option_taken o w ts x is e =
    let v = bind_some (value_at ts) (as_unit o) x e in
    let r = bind_some (unit_of v.0.0) (λ x. with_unit o x >>= λ p. Some (p, v.0.1)) x v.2 in
    let p = bind_some (with_unit o r.0) (λ p. Some (p, v.0.1)) x r.2 in
    let k = with_unit_taken o v.0.0 r.0 p.0 p.1 in
    let spelled : Comma ∷ Word w ∷ ts ≡ option (WithUcb v.0.0 r.0) ++ v.0.1 =
    value_front (codes "UCB") w ts v.0.1 v.0 is (value_taken ts v.0 v.1) refl in
    subst (λ (y : Opts × List Token). OptTook o (Comma ∷ Word w ∷ ts) y.0 y.1) (some_is (p.0, v.0.1) x p.2)
    (record { given = WithUcb v.0.0 r.0; fresh = (k.0, r.1); is = k.1; spelled = spelled })

chosen_taken : (o : Opts) (w : List ℕ) (ts : List Token) (x : Opts × List Token) → chosen o w ts ≡ Some x
    → OptTook o (Comma ∷ Word w ∷ ts) x.0 x.1
unfolding chosen
chosen_taken o w ts x e =
    which (bytes_eq w (codes "ECB")) (bytes_eq w (codes "RET")) (bytes_eq w (codes "RNL")) (bytes_eq w (codes "UCB"))
    refl refl refl refl e
  where
    which : (a b c d : Bool) → bytes_eq w (codes "ECB") ≡ a → bytes_eq w (codes "RET") ≡ b
        → bytes_eq w (codes "RNL") ≡ c → bytes_eq w (codes "UCB") ≡ d
        → cond a (with_ret o RetEcb >>= λ p. Some (p, ts)) (cond b (value_at ts >>= as_ret o)
        (cond c (value_at ts >>= as_rnl o) (cond d (value_at ts >>= as_unit o) None)))
        ≡ Some x
        → OptTook o (Comma ∷ Word w ∷ ts) x.0 x.1
    which true b c d p q r s h = ecb_taken o w ts x (same_bytes w _ p) h
    which false true c d p q r s h = ret_option_taken o w ts x (same_bytes w _ q) h
    which false false true d p q r s h = rnl_option_taken o w ts x (same_bytes w _ r) h
    which false false false true p q r s h = unit_option_taken o w ts x (same_bytes w _ s) h
    which false false false false p q r s h = absurd cc

option_taken : (o : Opts) (ts : List Token) (x : Opts × List Token) → option_at o ts ≡ Some x → OptTook o ts x.0 x.1
unfolding option_at
option_taken o ts x e =
    let a = bind_some (comma_at ts) (λ a. any_word_at a >>= λ w. chosen o w.0 w.1) x e in
    let w = bind_some (any_word_at a.0) (λ w. chosen o w.0 w.1) x a.2 in
    let is : ts ≡ Comma ∷ Word w.0.0 ∷ w.0.1 =
    comma_taken ts a.0 a.1 ∙ ap (λ (t : List Token). Comma ∷ t) (any_word_taken a.0 w.0 w.1) in
    subst (λ (t : List Token). OptTook o t x.0 x.1) (sym is) (chosen_taken o w.0.0 w.0.1 x w.2)

options_taken : (ts : List Token) (p : Opts) → options_at ts ≡ Some p
    → (given : List Opt) × (ts ≡ flat_map option given) × Sets IsFree set no_opts given p
unfolding options_at
options_taken ts p e = all_taken IsFree set option option_at option_taken 3 no_opts ts p e

-- ---- ENQ, DEQ and WAIT

abbrev CtlWord : List ℕ → List Token → Option (Ctl × List Token) → Type 0
CtlWord w rest None = Unit {0}
CtlWord w rest (Some x) = Word w ∷ rest ≡ Word (ctl_word x.0) ∷ x.1

ctl_taken : (ts : List Token) (x : Ctl × List Token) → ctl_at ts ≡ Some x → ts ≡ Word (ctl_word x.0) ∷ x.1
unfolding ctl_at
ctl_taken ts x e =
    let b =
    bind_some (any_word_at ts)
    (λ w. cond (bytes_eq w.0 (codes "E")) (Some (E, w.1)) (cond (bytes_eq w.0 (codes "S")) (Some (S, w.1)) None)) x e in
    any_word_taken ts b.0 b.1 ∙ subst (CtlWord b.0.0 b.0.1) b.2
    (by_row (CtlWord b.0.0 b.0.1) b.0.0 (codes "E") (E, b.0.1) _ (λ h. ap (λ (z : List ℕ). Word z ∷ b.0.1) h)
    (by_row (CtlWord b.0.0 b.0.1) b.0.0 (codes "S") (S, b.0.1) None (λ h. ap (λ (z : List ℕ). Word z ∷ b.0.1) h) tt))

abbrev ScopeWord : List ℕ → List Token → Option (Scope × List Token) → Type 0
ScopeWord w rest None = Unit {0}
ScopeWord w rest (Some x) = Word w ∷ rest ≡ Word (scope_word x.0) ∷ x.1

scope_taken : (ts : List Token) (x : Scope × List Token) → scope_at ts ≡ Some x → ts ≡ Word (scope_word x.0) ∷ x.1
unfolding scope_at
scope_taken ts x e =
    let b =
    bind_some (any_word_at ts) (λ w.
    cond (bytes_eq w.0 (codes "STEP")) (Some (scopes.Step, w.1))
    (cond (bytes_eq w.0 (codes "SYSTEM")) (Some (scopes.System, w.1))
    (cond (bytes_eq w.0 (codes "SYSTEMS")) (Some (scopes.Systems, w.1)) None)))
    x e in
    any_word_taken ts b.0 b.1 ∙ subst (ScopeWord b.0.0 b.0.1) b.2
    (by_row (ScopeWord b.0.0 b.0.1) b.0.0 (codes "STEP") (scopes.Step, b.0.1) _
    (λ h. ap (λ (z : List ℕ). Word z ∷ b.0.1) h)
    (by_row (ScopeWord b.0.0 b.0.1) b.0.0 (codes "SYSTEM") (scopes.System, b.0.1) _
    (λ h. ap (λ (z : List ℕ). Word z ∷ b.0.1) h)
    (by_row (ScopeWord b.0.0 b.0.1) b.0.0 (codes "SYSTEMS") (scopes.Systems, b.0.1) None
    (λ h. ap (λ (z : List ℕ). Word z ∷ b.0.1) h) tt)))

pub record Front (ts : List Token) (qname rname : List ℕ) (rest : List Token) : Type 0 where
  pub q : Token
  pub r : Token
  pub is : ts ≡ Open ∷ q ∷ Comma ∷ r ∷ Comma ∷ rest
  pub named_q : Names q qname
  pub named_r : Names r rname

names_taken : (ts : List Token) (x : List ℕ × List ℕ × List Token) → names_at ts ≡ Some x → Front ts x.0 x.1 x.2
unfolding names_at
names_taken ts x e =
    let a =
    bind_some (open_at ts)
    (λ a. name_at a >>= λ q. comma_at q.1 >>= λ b. name_at b >>= λ r. comma_at r.1 >>= λ c. Some (q.0, r.0, c)) x e in
    let q =
    bind_some (name_at a.0) (λ q. comma_at q.1 >>= λ b. name_at b >>= λ r. comma_at r.1 >>= λ c. Some (q.0, r.0, c)) x
    a.2 in
    let b = bind_some (comma_at q.0.1) (λ b. name_at b >>= λ r. comma_at r.1 >>= λ c. Some (q.0.0, r.0, c)) x q.2 in
    let r = bind_some (name_at b.0) (λ r. comma_at r.1 >>= λ c. Some (q.0.0, r.0, c)) x b.2 in
    let c = bind_some (comma_at r.0.1) (λ c. Some (q.0.0, r.0.0, c)) x r.2 in
    let nq = name_taken a.0 q.0 q.1 in
    let nr = name_taken b.0 r.0 r.1 in
    let is : ts ≡ Open ∷ nq.token ∷ Comma ∷ nr.token ∷ Comma ∷ c.0 =
    open_taken ts a.0 a.1
    ∙ ap (λ (t : List Token). Open ∷ t) (nq.is
    ∙ ap (λ (t : List Token). nq.token ∷ t) (comma_taken q.0.1 b.0 b.1
    ∙ ap (λ (t : List Token). Comma ∷ t)
    (nr.is ∙ ap (λ (t : List Token). nr.token ∷ t) (comma_taken r.0.1 c.0 c.1)))) in
    let made :
    Front ts q.0.0 r.0.0 c.0 = record { q = nq.token; r = nr.token; is = is; named_q = nq.names; named_r = nr.names } in
    subst (λ (y : List ℕ × List ℕ × List Token). Front ts y.0 y.1 y.2) (some_is (q.0.0, r.0.0, c.0) x c.2) made

-- the scope and the options
pub record Placed (ts : List Token) (scope : Scope) (opts : Opts) : Type 0 where
  pub given : List Opt
  pub is : ts ≡ Word (scope_word scope) ∷ Close ∷ flat_map option given
  pub options : Sets IsFree set no_opts given opts

place_taken : (ts : List Token) (x : Scope × Opts) → place_at ts ≡ Some x → Placed ts x.0 x.1
unfolding place_at
place_taken ts x e =
    let s = bind_some (scope_at ts) (λ s. close_at s.1 >>= λ a. options_at a >>= λ o. Some (s.0, o)) x e in
    let a = bind_some (close_at s.0.1) (λ a. options_at a >>= λ o. Some (s.0.0, o)) x s.2 in
    let o = bind_some (options_at a.0) (λ o. Some (s.0.0, o)) x a.2 in
    let g = options_taken a.0 o.0 o.1 in
    let is : ts ≡ Word (scope_word s.0.0) ∷ Close ∷ flat_map option g.0 =
    scope_taken ts s.0 s.1
    ∙ ap (λ (t : List Token). Word (scope_word s.0.0) ∷ t)
    (close_taken s.0.1 a.0 a.1 ∙ ap (λ (t : List Token). Close ∷ t) g.1) in
    let made : Placed ts s.0.0 o.0 = record { given = g.0; is = is; options = g.2 } in
    subst (λ (y : Scope × Opts). Placed ts y.0 y.1) (some_is (s.0.0, o.0) x o.2) made

abbrev ask_of : List ℕ × List ℕ × List Token → Scope × Opts → ResAsk
ask_of n p = record { q = n.0; r = n.1; scope = p.0; opts = p.1 }

-- names, what stands before the scope, and the scope with the options
asked : (front : List Token) (ts place : List Token) (n : List ℕ × List ℕ × List Token) (p : Scope × Opts)
    → Front ts n.0 n.1 n.2 → n.2 ≡ front ++ place → Placed place p.0 p.1 → IsResAsk front ts (ask_of n p)
asked front ts place n p f is_front placed = record {
  q = f.q;
  r = f.r;
  given = placed.given;
  spelled =
      f.is
      ∙ ap (λ (t : List Token). Open ∷ f.q ∷ Comma ∷ f.r ∷ Comma ∷ t)
      (is_front ∙ ap (λ (t : List Token). front ++ t) placed.is);
  named_q = f.named_q;
  named_r = f.named_r;
  options = placed.options;
}

controlled_taken : (ts : List Token) (x : EnqAsk) → controlled_at ts ≡ Some x
    → IsResAsk (Word (ctl_word x.ctl) ∷ Comma ∷ []) ts x.ask
unfolding controlled_at
controlled_taken ts x e =
    let n =
    bind_some (names_at ts)
    (λ n. ctl_at n.2 >>= λ c. comma_at c.1 >>= λ a. place_at a >>= λ p. Some (record { ctl = c.0; ask = ask_of n p })) x
    e in
    let c =
    bind_some (ctl_at n.0.2)
    (λ c. comma_at c.1 >>= λ a. place_at a >>= λ p. Some (record { ctl = c.0; ask = ask_of n.0 p })) x n.2 in
    let a =
    bind_some (comma_at c.0.1) (λ a. place_at a >>= λ p. Some (record { ctl = c.0.0; ask = ask_of n.0 p })) x c.2 in
    let p = bind_some (place_at a.0) (λ p. Some (record { ctl = c.0.0; ask = ask_of n.0 p })) x a.2 in
    let front : n.0.2 ≡ Word (ctl_word c.0.0) ∷ Comma ∷ a.0 =
    ctl_taken n.0.2 c.0 c.1 ∙ ap (λ (t : List Token). Word (ctl_word c.0.0) ∷ t) (comma_taken c.0.1 a.0 a.1) in
    let made =
    asked (Word (ctl_word c.0.0) ∷ Comma ∷ []) ts a.0 n.0 p.0 (names_taken ts n.0 n.1) front
    (place_taken a.0 p.0 p.1) in
    subst (λ (y : EnqAsk). IsResAsk (Word (ctl_word y.ctl) ∷ Comma ∷ []) ts y.ask)
    (some_is (record { ctl = c.0.0; ask = ask_of n.0 p.0 }) x p.2) made

uncontrolled_taken : (ts : List Token) (x : ResAsk) → uncontrolled_at ts ≡ Some x → IsResAsk [] ts x
unfolding uncontrolled_at
uncontrolled_taken ts x e =
    let n = bind_some (names_at ts) (λ n. place_at n.2 >>= λ p. Some (ask_of n p)) x e in
    let p = bind_some (place_at n.0.2) (λ p. Some (ask_of n.0 p)) x n.2 in
    subst (IsResAsk [] ts) (some_is (ask_of n.0 p.0) x p.2)
    (asked [] ts n.0.2 n.0 p.0 (names_taken ts n.0 n.1) refl (place_taken n.0.2 p.0 p.1))

-- what is read where a test holds
tested : {A : Type 0} (o : Option A) (may : A → Bool) (x : A) → (o >>= λ y. cond (may y) (Some y) None) ≡ Some x
    → (o ≡ Some x) × (may x ≡ true)
tested o may x e =
    let b = bind_some o (λ y. cond (may y) (Some y) None) x e in
    let g = guard_some (may b.0) b.0 x b.2 in
    (b.1 ∙ ap (λ y. Some y) g.1, ap may (sym g.1) ∙ g.0)

enq_taken : (ts : List Token) (x : EnqAsk) → enq_at ts ≡ Some x
    → IsResAsk (Word (ctl_word x.ctl) ∷ Comma ∷ []) ts x.ask × (enq_may x.ask ≡ true)
unfolding enq_at
enq_taken ts x e = let t = tested (controlled_at ts) (λ y. enq_may y.ask) x e in (controlled_taken ts x t.0, t.1)

reserve_taken : (ts : List Token) (x : EnqAsk) → reserve_at ts ≡ Some x
    → IsResAsk (Word (ctl_word x.ctl) ∷ Comma ∷ []) ts x.ask × (reserve_may x.ask ≡ true)
unfolding reserve_at
reserve_taken ts x e =
    let t = tested (controlled_at ts) (λ y. reserve_may y.ask) x e in (controlled_taken ts x t.0, t.1)

deq_taken : (ts : List Token) (x : ResAsk) → deq_at ts ≡ Some x → IsResAsk [] ts x × (deq_may x ≡ true)
unfolding deq_at
deq_taken ts x e = let t = tested (uncontrolled_at ts) deq_may x e in (uncontrolled_taken ts x t.0, t.1)

wait_taken : (ts : List Token) (x : ResAsk) → wait_at ts ≡ Some x → IsResAsk [] ts x × (wait_may x ≡ true)
unfolding wait_at
wait_taken ts x e = let t = tested (uncontrolled_at ts) wait_may x e in (uncontrolled_taken ts x t.0, t.1)

-- ---- GQSCAN

reach_taken : (w : List ℕ) (b : Bool) → reach_of w ≡ Some b → w ≡ reach_word b
unfolding reach_of
reach_taken w b e = subst (IsWordOf reach_word w) e (row reach_word w true _ (row reach_word w false None tt))

word_taken : (word : List ℕ) (ts rest : List Token) → word_at word ts ≡ Some rest → ts ≡ Word word ∷ rest
word_taken word ts rest e =
    let b = bind_some (any_word_at ts) (λ w. cond (bytes_eq w.0 word) (Some w.1) None) rest e in
    let g = guard_some (bytes_eq b.0.0 word) b.0.1 rest b.2 in
    let is : b.0.0 ≡ word = same_bytes b.0.0 word g.0 in
    any_word_taken ts b.0 b.1 ∙ two b.0.0 word b.0.1 rest is g.1
  where
    two : (v w : List ℕ) (xs ys : List Token) → v ≡ w → xs ≡ ys → Word v ∷ xs ≡ Word w ∷ ys
    two v w xs ys h k = rw (h, k) refl

-- an equals sign and a name
pub record Valued (ts : List Token) (n : List ℕ) (rest : List Token) : Type 0 where
  pub token : Token
  pub is : ts ≡ Equals ∷ token ∷ rest
  pub names : Names token n

named_taken : (ts : List Token) (x : List ℕ × List Token) → named_at ts ≡ Some x → Valued ts x.0 x.1
named_taken ts x e =
    let a = bind_some (equals_at ts) (λ a. name_at a) x e in
    let n = name_taken a.0 x a.2 in
    record { token = n.token; is = equals_taken ts a.0 a.1 ∙ ap (λ (t : List Token). Equals ∷ t) n.is; names = n.names }

abbrev WantTook : Wanted → List Token → Wanted → List Token → Type 0
WantTook o ts p rest = TookOne IsFreeWant set_want want o ts p rest

want_front : (word w : List ℕ) (t : Token) (ts rest : List Token) → w ≡ word → ts ≡ Equals ∷ t ∷ rest
    → Comma ∷ Word w ∷ ts ≡ Comma ∷ Word word ∷ Equals ∷ t ∷ rest
want_front word w t ts rest h k = rw (h, k) refl

first_taken : (o : Wanted) (w : List ℕ) (ts : List Token) (x : Wanted × List Token) → w ≡ codes "QNAME"
    → (named_at ts >>= λ v. with_q o v.0 >>= λ p. Some (p, v.1)) ≡ Some x → WantTook o (Comma ∷ Word w ∷ ts) x.0 x.1
first_taken o w ts x is e =
    let v = bind_some (named_at ts) (λ v. with_q o v.0 >>= λ p. Some (p, v.1)) x e in
    let p = bind_some (with_q o v.0.0) (λ p. Some (p, v.0.1)) x v.2 in
    let n = named_taken ts v.0 v.1 in
    let k = once_some o.q (record o { q = Some v.0.0 }) p.0 p.1 in
    subst (λ (y : Wanted × List Token). WantTook o (Comma ∷ Word w ∷ ts) y.0 y.1) (some_is (p.0, v.0.1) x p.2)
    (record {
      given = WithQname n.token v.0.0;
      fresh = (k.0, n.names);
      is = k.1;
      spelled = want_front (codes "QNAME") w n.token ts v.0.1 is n.is;
    })

second_taken : (o : Wanted) (w : List ℕ) (ts : List Token) (x : Wanted × List Token) → w ≡ codes "RNAME"
    → (named_at ts >>= λ v. with_r o v.0 >>= λ p. Some (p, v.1)) ≡ Some x → WantTook o (Comma ∷ Word w ∷ ts) x.0 x.1
second_taken o w ts x is e =
    let v = bind_some (named_at ts) (λ v. with_r o v.0 >>= λ p. Some (p, v.1)) x e in
    let p = bind_some (with_r o v.0.0) (λ p. Some (p, v.0.1)) x v.2 in
    let n = named_taken ts v.0 v.1 in
    let k = once_some o.r (record o { r = Some v.0.0 }) p.0 p.1 in
    subst (λ (y : Wanted × List Token). WantTook o (Comma ∷ Word w ∷ ts) y.0 y.1) (some_is (p.0, v.0.1) x p.2)
    (record {
      given = WithRname n.token v.0.0;
      fresh = (k.0, n.names);
      is = k.1;
      spelled = want_front (codes "RNAME") w n.token ts v.0.1 is n.is;
    })

want_of_taken : (o : Wanted) (w : List ℕ) (ts : List Token) (x : Wanted × List Token) → want_of o w ts ≡ Some x
    → WantTook o (Comma ∷ Word w ∷ ts) x.0 x.1
unfolding want_of
want_of_taken o w ts x e = which (bytes_eq w (codes "QNAME")) (bytes_eq w (codes "RNAME")) refl refl e
  where
    which : (a b : Bool) → bytes_eq w (codes "QNAME") ≡ a → bytes_eq w (codes "RNAME") ≡ b
        → cond a (named_at ts >>= λ v. with_q o v.0 >>= λ p. Some (p, v.1))
        (cond b (named_at ts >>= λ v. with_r o v.0 >>= λ p. Some (p, v.1)) None)
        ≡ Some x
        → WantTook o (Comma ∷ Word w ∷ ts) x.0 x.1
    which true b p q h = first_taken o w ts x (same_bytes w _ p) h
    which false true p q h = second_taken o w ts x (same_bytes w _ q) h
    which false false p q h = absurd cc

want_taken : (o : Wanted) (ts : List Token) (x : Wanted × List Token) → want_at o ts ≡ Some x → WantTook o ts x.0 x.1
unfolding want_at
want_taken o ts x e =
    let a = bind_some (comma_at ts) (λ a. any_word_at a >>= λ w. want_of o w.0 w.1) x e in
    let w = bind_some (any_word_at a.0) (λ w. want_of o w.0 w.1) x a.2 in
    let is : ts ≡ Comma ∷ Word w.0.0 ∷ w.0.1 =
    comma_taken ts a.0 a.1 ∙ ap (λ (t : List Token). Comma ∷ t) (any_word_taken a.0 w.0 w.1) in
    subst (λ (t : List Token). WantTook o t x.0 x.1) (sym is) (want_of_taken o w.0.0 w.0.1 x w.2)

scan_taken : (ts : List Token) (x : ScanAsk) → scan_at ts ≡ Some x → IsScan ts x
unfolding scan_at
scan_taken ts x e =
    let a =
    bind_some (word_at (codes "SCOPE") ts) (λ a.
    value_at a
    >>= λ v. reach_of v.0 >>= λ g. up_to 2 want_at no_names v.1 >>= λ n. Some (record { global = g; names = n }))
    x e in
    let v =
    bind_some (value_at a.0)
    (λ v. reach_of v.0 >>= λ g. up_to 2 want_at no_names v.1 >>= λ n. Some (record { global = g; names = n })) x a.2 in
    let g =
    bind_some (reach_of v.0.0) (λ g. up_to 2 want_at no_names v.0.1 >>= λ n. Some (record { global = g; names = n })) x
    v.2 in
    let n = bind_some (up_to 2 want_at no_names v.0.1) (λ n. Some (record { global = g.0; names = n })) x g.2 in
    let all = all_taken IsFreeWant set_want want want_at want_taken 2 no_names v.0.1 n.0 n.1 in
    let behind : a.0 ≡ Equals ∷ Word (reach_word g.0) ∷ flat_map want all.0 =
    value_taken a.0 v.0 v.1
    ∙ three v.0.0 (reach_word g.0) v.0.1 (flat_map want all.0) (reach_taken v.0.0 g.0 g.1) all.1 in
    let made :
    IsScan ts (record { global = g.0; names = n.0 }) = record {
      given = all.0;
      spelled = word_taken (codes "SCOPE") ts a.0 a.1 ∙ ap (λ (t : List Token). Word (codes "SCOPE") ∷ t) behind;
      names = all.2;
    } in
    subst (IsScan ts) (some_is (record { global = g.0; names = n.0 }) x n.2) made
  where
    three : (v w : List ℕ) (xs ys : List Token) → v ≡ w → xs ≡ ys → Equals ∷ Word v ∷ xs ≡ Equals ∷ Word w ∷ ys
    three v w xs ys h k = rw (h, k) refl

-- ---- DISPLAY

-- = ( q , r )
pub record Resource (ts : List Token) (qname rname : List ℕ) : Type 0 where
  pub q : Token
  pub r : Token
  pub is : ts ≡ Equals ∷ Open ∷ q ∷ Comma ∷ r ∷ Close ∷ []
  pub named_q : Names q qname
  pub named_r : Names r rname

resource_taken : (ts : List Token) (x : List ℕ × List ℕ) → resource_at ts ≡ Some x → Resource ts x.0 x.1
unfolding resource_at
resource_taken ts x e =
    let a =
    bind_some (equals_at ts) (λ a.
    open_at a
    >>= λ b.
    name_at b
    >>= λ q. comma_at q.1 >>= λ c. name_at c >>= λ r. close_at r.1 >>= λ d. end_at d >>= λ end. Some (q.0, r.0))
    x e in
    let b =
    bind_some (open_at a.0) (λ b.
    name_at b
    >>= λ q. comma_at q.1 >>= λ c. name_at c >>= λ r. close_at r.1 >>= λ d. end_at d >>= λ end. Some (q.0, r.0))
    x a.2 in
    let q =
    bind_some (name_at b.0)
    (λ q. comma_at q.1 >>= λ c. name_at c >>= λ r. close_at r.1 >>= λ d. end_at d >>= λ end. Some (q.0, r.0)) x b.2 in
    let c =
    bind_some (comma_at q.0.1) (λ c. name_at c >>= λ r. close_at r.1 >>= λ d. end_at d >>= λ end. Some (q.0.0, r.0)) x
    q.2 in
    let r = bind_some (name_at c.0) (λ r. close_at r.1 >>= λ d. end_at d >>= λ end. Some (q.0.0, r.0)) x c.2 in
    let d = bind_some (close_at r.0.1) (λ d. end_at d >>= λ end. Some (q.0.0, r.0.0)) x r.2 in
    let z = bind_some (end_at d.0) (λ end. Some (q.0.0, r.0.0)) x d.2 in
    let nq = name_taken b.0 q.0 q.1 in
    let nr = name_taken c.0 r.0 r.1 in
    let is : ts ≡ Equals ∷ Open ∷ nq.token ∷ Comma ∷ nr.token ∷ Close ∷ [] =
    equals_taken ts a.0 a.1
    ∙ ap (λ (t : List Token). Equals ∷ t) (open_taken a.0 b.0 b.1
    ∙ ap (λ (t : List Token). Open ∷ t) (nq.is
    ∙ ap (λ (t : List Token). nq.token ∷ t) (comma_taken q.0.1 c.0 c.1
    ∙ ap (λ (t : List Token). Comma ∷ t) (nr.is
    ∙ ap (λ (t : List Token). nr.token ∷ t)
    (close_taken r.0.1 d.0 d.1 ∙ ap (λ (t : List Token). Close ∷ t) (end_taken d.0 z.0 z.1)))))) in
    let made :
    Resource ts q.0.0 r.0.0 = record { q = nq.token; r = nr.token; is = is; named_q = nq.names; named_r = nr.names } in
    subst (λ (y : List ℕ × List ℕ). Resource ts y.0 y.1) (some_is (q.0.0, r.0.0) x z.2) made

abbrev grs : List ℕ → List Token → List Token
grs w rest = Word (codes "GRS") ∷ Comma ∷ Word w ∷ rest

grs_is : (v w : List ℕ) (xs ys : List Token) → v ≡ w → xs ≡ ys → grs v xs ≡ grs w ys
grs_is v w xs ys h k = rw (h, k) refl

shown_taken : (w : List ℕ) (ts : List Token) (x : Shown) → shown_at w ts ≡ Some x → IsShown (grs w ts) x
unfolding shown_at
shown_taken w ts x e = which (bytes_eq w (codes "C")) (bytes_eq w (codes "RES")) refl refl e
  where
    which : (a b : Bool) → bytes_eq w (codes "C") ≡ a → bytes_eq w (codes "RES") ≡ b
        → cond a (end_at ts >>= λ end. Some shown.Contended)
        (cond b (resource_at ts >>= λ n. Some (shown.Resource n.0 n.1)) None)
        ≡ Some x
        → IsShown (grs w ts) x
    which true b p q h =
        let z = bind_some (end_at ts) (λ end. Some shown.Contended) x h in
        let both : grs w ts ≡ grs (codes "C") [] =
        grs_is w (codes "C") ts [] (same_bytes w _ p) (end_taken ts z.0 z.1) in
        subst (IsShown (grs w ts)) (some_is shown.Contended x z.2) both
    which false true p q h =
        let n = bind_some (resource_at ts) (λ n. Some (shown.Resource n.0 n.1)) x h in
        let k = resource_taken ts n.0 n.1 in
        let both : grs w ts ≡ grs (codes "RES") (Equals ∷ Open ∷ k.q ∷ Comma ∷ k.r ∷ Close ∷ []) =
        grs_is w (codes "RES") ts (Equals ∷ Open ∷ k.q ∷ Comma ∷ k.r ∷ Close ∷ []) (same_bytes w _ q) k.is in
        let made :
        IsShown (grs w ts) (shown.Resource n.0.0 n.0.1) = record {
          q = k.q;
          r = k.r;
          spelled = both;
          named_q = k.named_q;
          named_r = k.named_r;
        } in
        subst (IsShown (grs w ts)) (some_is (shown.Resource n.0.0 n.0.1) x n.2) made
    which false false p q h = absurd cc

display_taken : (ts : List Token) (x : Shown) → display_at ts ≡ Some x → IsShown ts x
unfolding display_at
display_taken ts x e =
    let a =
    bind_some (word_at (codes "GRS") ts) (λ a. comma_at a >>= λ b. any_word_at b >>= λ w. shown_at w.0 w.1) x e in
    let b = bind_some (comma_at a.0) (λ b. any_word_at b >>= λ w. shown_at w.0 w.1) x a.2 in
    let w = bind_some (any_word_at b.0) (λ w. shown_at w.0 w.1) x b.2 in
    let is : ts ≡ grs w.0.0 w.0.1 =
    word_taken (codes "GRS") ts a.0 a.1
    ∙ ap (λ (t : List Token). Word (codes "GRS") ∷ t)
    (comma_taken a.0 b.0 b.1 ∙ ap (λ (t : List Token). Comma ∷ t) (any_word_taken b.0 w.0 w.1)) in
    subst (λ (t : List Token). IsShown t x) (sym is) (shown_taken w.0.0 w.0.1 x w.2)

-- ---- task lines

-- what is read is of this word
pub record Behind (v : LineWord) (ts : List Token) (s : LineAsk) : Type 0 where
  pub of : line_word_for s ≡ v
  pub behind : IsBehind ts s

pub line_ask_taken : (v : LineWord) (ts : List Token) (s : LineAsk) → line_ask_at v ts ≡ Some s → Behind v ts s
unfolding line_ask_at
line_ask_taken words.Enq ts s e =
    let b = bind_some (enq_at ts) (λ x. Some (asks.Enq x)) s e in
    subst (Behind words.Enq ts) (some_is (asks.Enq b.0) s b.2) (record { of = refl; behind = enq_taken ts b.0 b.1 })
line_ask_taken words.Reserve ts s e =
    let b = bind_some (reserve_at ts) (λ x. Some (asks.Reserve x)) s e in
    subst (Behind words.Reserve ts) (some_is (asks.Reserve b.0) s b.2)
    (record { of = refl; behind = reserve_taken ts b.0 b.1 })
line_ask_taken words.Deq ts s e =
    let b = bind_some (deq_at ts) (λ x. Some (asks.Deq x)) s e in
    subst (Behind words.Deq ts) (some_is (asks.Deq b.0) s b.2) (record { of = refl; behind = deq_taken ts b.0 b.1 })
line_ask_taken words.Wait ts s e =
    let b = bind_some (wait_at ts) (λ x. Some (asks.Wait x)) s e in
    subst (Behind words.Wait ts) (some_is (asks.Wait b.0) s b.2) (record { of = refl; behind = wait_taken ts b.0 b.1 })
line_ask_taken words.Gqscan ts s e =
    let b = bind_some (scan_at ts) (λ x. Some (asks.Gqscan x)) s e in
    subst (Behind words.Gqscan ts) (some_is (asks.Gqscan b.0) s b.2)
    (record { of = refl; behind = scan_taken ts b.0 b.1 })
line_ask_taken words.Display ts s e =
    let b = bind_some (display_at ts) (λ x. Some (asks.Display x)) s e in
    subst (Behind words.Display ts) (some_is (asks.Display b.0) s b.2)
    (record { of = refl; behind = display_taken ts b.0 b.1 })

abbrev Worded : List ℕ → Option LineWord → Type 0
Worded w None = Unit {0}
Worded w (Some v) = IsWord v w

pub line_word_taken : (w : List ℕ) (v : LineWord) → line_word w ≡ Some v → IsWord v w
unfolding line_word
line_word_taken w v e = subst (Worded w) e
    (by_row (Worded w) w (codes "ENQ") words.Enq _ (λ h. h)
    (by_row (Worded w) w (codes "RESERVE") words.Reserve _ (λ h. h)
    (by_row (Worded w) w (codes "DEQ") words.Deq _ (λ h. h)
    (by_row (Worded w) w (codes "WAIT") words.Wait _ (λ h. h)
    (by_row (Worded w) w (codes "GQSCAN") words.Gqscan _ (λ h. h)
    (by_row (Worded w) w (codes "DISPLAY") words.Display _ (λ h. inl h)
    (by_row (Worded w) w (codes "D") words.Display None (λ h. inr h) tt)))))))

-- What is read behind a word is spelled so.
pub line_taken : (w : List ℕ) (ts : List Token) (v : LineWord) (s : LineAsk) → line_word w ≡ Some v
    → line_ask_at v ts ≡ Some s → IsLineAsk (Word w ∷ ts) s
line_taken w ts v s h k =
    let b = line_ask_taken v ts s k in
    record {
      word = w;
      behind = ts;
      parts = refl;
      is_word = subst (λ (x : LineWord). IsWord x w) (sym b.of) (line_word_taken w v h);
      is_behind = b.behind;
    }
