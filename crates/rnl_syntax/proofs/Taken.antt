-- What is read of an RNLDEF is spelled so.
use Rattle.std.proofs.Common.{◌≡◌, ℕ, Bool, true, false, cond, List, ◌∷◌, ◌++◌, Some, None, refl, ap, subst, ◌∙◌}
use Rattle.std.specs.Prelude.{codes, ◌&&◌, is_none}
use Rattle.std.specs.Str.{bytes_eq}
use Rattle.grs_base.specs.declared.rnl.Which.{Which}
use Rattle.grs_base.specs.declared.rnl.Which.TheVariants.{Incl, Excl, Con}
use Rattle.grs_base.specs.declared.rnl.Form.{Form}
use Rattle.grs_base.specs.declared.rnl.Form.TheVariants.{Specific, Generic, Pattern}
use Rattle.grs_base.specs.NameLists.{is_specific}
use Rattle.deck_scan.specs.declared.token.Token.{Token}
use Rattle.deck_scan.specs.declared.token.Token.TheVariants.{Word, Open, Close}
use Rattle.deck_scan.specs.Next.{◌>>=◌, open_at, close_at, any_word_at, name_at, up_to, Sets}
use Rattle.deck_scan.proofs.Taking.{bind_some, some_is, same_bytes, IsWordOf, row, once_some, open_taken, close_taken}
use Rattle.deck_scan.proofs.Taking.{any_word_taken, name_taken, TookOne, all_taken}
use Rattle.rnl_syntax.specs.declared.operands.Operands.{Operands}
use Rattle.rnl_syntax.specs.declared.operands.Rnldef.{Rnldef}
use Rattle.rnl_syntax.specs.Operands.{no_operands, which_of, form_of, with_which, with_form, with_q, with_r, value_of}
use Rattle.rnl_syntax.specs.Operands.{operand_at, whole, rnldef_at}
use Rattle.rnl_syntax.specs.Spelled.{which_word, form_word, Operand, WithRnl, WithType, WithQname, WithRname, enclosed}
use Rattle.rnl_syntax.specs.Spelled.{operand, IsFree, set, IsRnldef}

-- ---- words

which_taken : (w : List ℕ) (x : Which) → which_of w ≡ Some x → w ≡ which_word x
unfolding which_of
which_taken w x e =
    subst (IsWordOf which_word w) e (row which_word w Incl _ (row which_word w Excl _ (row which_word w Con None tt)))

form_taken : (w : List ℕ) (x : Form) → form_of w ≡ Some x → w ≡ form_word x
unfolding form_of
form_taken w x e =
    subst (IsWordOf form_word w) e
    (row form_word w Specific _ (row form_word w Generic _ (row form_word w Pattern None tt)))

enclosed_is : (word v w : List ℕ) (x : List ℕ) → w ≡ word → v ≡ x → enclosed w (Word v) ≡ enclosed word (Word x)
enclosed_is word v w x h k = rw (h, k) refl

-- ---- operands

-- the value of an operand, and what stands behind it
pub record Valued (o : Operands) (word : List ℕ) (ts : List Token) (p : Operands) (rest : List Token) : Type 0 where
  pub given : Operand
  pub value : Token
  pub fresh : IsFree given o
  pub is : p ≡ set given o
  pub spelled : ts ≡ value ∷ rest
  pub of : enclosed word value ≡ operand given

which_value : (o : Operands) (w : List ℕ) (ts : List Token) (x : Operands × List Token) → w ≡ codes "RNL"
    → (any_word_at ts >>= λ v. which_of v.0 >>= λ y. with_which o y >>= λ p. Some (p, v.1)) ≡ Some x
    → Valued o w ts x.0 x.1
which_value o w ts x is e =
    let v = bind_some (any_word_at ts) (λ v. which_of v.0 >>= λ y. with_which o y >>= λ p. Some (p, v.1)) x e in
    let y = bind_some (which_of v.0.0) (λ y. with_which o y >>= λ p. Some (p, v.0.1)) x v.2 in
    let p = bind_some (with_which o y.0) (λ p. Some (p, v.0.1)) x y.2 in
    let k = once_some o.which (record o { which = Some y.0 }) p.0 p.1 in
    let word : enclosed w (Word v.0.0) ≡ operand (WithRnl y.0) =
    enclosed_is (codes "RNL") v.0.0 w (which_word y.0) is (which_taken v.0.0 y.0 y.1) in
    let made :
    Valued o w ts p.0 v.0.1 = record {
      given = WithRnl y.0;
      value = Word v.0.0;
      fresh = k.0;
      is = k.1;
      spelled = any_word_taken ts v.0 v.1;
      of = word;
    } in
    subst (λ (z : Operands × List Token). Valued o w ts z.0 z.1) (some_is (p.0, v.0.1) x p.2) made

form_value : (o : Operands) (w : List ℕ) (ts : List Token) (x : Operands × List Token) → w ≡ codes "TYPE"
    → (any_word_at ts >>= λ v. form_of v.0 >>= λ y. with_form o y >>= λ p. Some (p, v.1)) ≡ Some x
    → Valued o w ts x.0 x.1
form_value o w ts x is e =
    let v = bind_some (any_word_at ts) (λ v. form_of v.0 >>= λ y. with_form o y >>= λ p. Some (p, v.1)) x e in
    let y = bind_some (form_of v.0.0) (λ y. with_form o y >>= λ p. Some (p, v.0.1)) x v.2 in
    let p = bind_some (with_form o y.0) (λ p. Some (p, v.0.1)) x y.2 in
    let k = once_some o.form (record o { form = Some y.0 }) p.0 p.1 in
    let word : enclosed w (Word v.0.0) ≡ operand (WithType y.0) =
    enclosed_is (codes "TYPE") v.0.0 w (form_word y.0) is (form_taken v.0.0 y.0 y.1) in
    let made :
    Valued o w ts p.0 v.0.1 = record {
      given = WithType y.0;
      value = Word v.0.0;
      fresh = k.0;
      is = k.1;
      spelled = any_word_taken ts v.0 v.1;
      of = word;
    } in
    subst (λ (z : Operands × List Token). Valued o w ts z.0 z.1) (some_is (p.0, v.0.1) x p.2) made

first_value : (o : Operands) (w : List ℕ) (ts : List Token) (x : Operands × List Token) → w ≡ codes "QNAME"
    → (name_at ts >>= λ v. with_q o v.0 >>= λ p. Some (p, v.1)) ≡ Some x → Valued o w ts x.0 x.1
first_value o w ts x is e =
    let v = bind_some (name_at ts) (λ v. with_q o v.0 >>= λ p. Some (p, v.1)) x e in
    let p = bind_some (with_q o v.0.0) (λ p. Some (p, v.0.1)) x v.2 in
    let n = name_taken ts v.0 v.1 in
    let k = once_some o.q (record o { q = Some v.0.0 }) p.0 p.1 in
    let made :
    Valued o w ts p.0 v.0.1 = record {
      given = WithQname n.token v.0.0;
      value = n.token;
      fresh = (k.0, n.names);
      is = k.1;
      spelled = n.is;
      of = ap (λ (z : List ℕ). enclosed z n.token) is;
    } in
    subst (λ (z : Operands × List Token). Valued o w ts z.0 z.1) (some_is (p.0, v.0.1) x p.2) made

second_value : (o : Operands) (w : List ℕ) (ts : List Token) (x : Operands × List Token) → w ≡ codes "RNAME"
    → (name_at ts >>= λ v. with_r o v.0 >>= λ p. Some (p, v.1)) ≡ Some x → Valued o w ts x.0 x.1
second_value o w ts x is e =
    let v = bind_some (name_at ts) (λ v. with_r o v.0 >>= λ p. Some (p, v.1)) x e in
    let p = bind_some (with_r o v.0.0) (λ p. Some (p, v.0.1)) x v.2 in
    let n = name_taken ts v.0 v.1 in
    let k = once_some o.r (record o { r = Some v.0.0 }) p.0 p.1 in
    let made :
    Valued o w ts p.0 v.0.1 = record {
      given = WithRname n.token v.0.0;
      value = n.token;
      fresh = (k.0, n.names);
      is = k.1;
      spelled = n.is;
      of = ap (λ (z : List ℕ). enclosed z n.token) is;
    } in
    subst (λ (z : Operands × List Token). Valued o w ts z.0 z.1) (some_is (p.0, v.0.1) x p.2) made

value_taken : (o : Operands) (w : List ℕ) (ts : List Token) (x : Operands × List Token) → value_of o w ts ≡ Some x
    → Valued o w ts x.0 x.1
unfolding value_of
value_taken o w ts x e =
    which (bytes_eq w (codes "RNL")) (bytes_eq w (codes "TYPE")) (bytes_eq w (codes "QNAME"))
    (bytes_eq w (codes "RNAME")) refl refl refl refl e
  where
    which : (a b c d : Bool) → bytes_eq w (codes "RNL") ≡ a → bytes_eq w (codes "TYPE") ≡ b
        → bytes_eq w (codes "QNAME") ≡ c → bytes_eq w (codes "RNAME") ≡ d
        → cond a (any_word_at ts >>= λ v. which_of v.0 >>= λ y. with_which o y >>= λ p. Some (p, v.1))
        (cond b (any_word_at ts >>= λ v. form_of v.0 >>= λ y. with_form o y >>= λ p. Some (p, v.1))
        (cond c (name_at ts >>= λ v. with_q o v.0 >>= λ p. Some (p, v.1))
        (cond d (name_at ts >>= λ v. with_r o v.0 >>= λ p. Some (p, v.1)) None)))
        ≡ Some x
        → Valued o w ts x.0 x.1
    which true b c d p q r s h = which_value o w ts x (same_bytes w _ p) h
    which false true c d p q r s h = form_value o w ts x (same_bytes w _ q) h
    which false false true d p q r s h = first_value o w ts x (same_bytes w _ r) h
    which false false false true p q r s h = second_value o w ts x (same_bytes w _ s) h
    which false false false false p q r s h = absurd cc

operand_taken : (o : Operands) (ts : List Token) (x : Operands × List Token) → operand_at o ts ≡ Some x
    → TookOne IsFree set operand o ts x.0 x.1
unfolding operand_at
operand_taken o ts x e =
    let w =
    bind_some (any_word_at ts) (λ w. open_at w.1 >>= λ a. value_of o w.0 a >>= λ p. close_at p.1 >>= λ b. Some (p.0, b))
    x e in
    let a = bind_some (open_at w.0.1) (λ a. value_of o w.0.0 a >>= λ p. close_at p.1 >>= λ b. Some (p.0, b)) x w.2 in
    let p = bind_some (value_of o w.0.0 a.0) (λ p. close_at p.1 >>= λ b. Some (p.0, b)) x a.2 in
    let b = bind_some (close_at p.0.1) (λ b. Some (p.0.0, b)) x p.2 in
    let v = value_taken o w.0.0 a.0 p.0 p.1 in
    let is : ts ≡ Word w.0.0 ∷ Open ∷ v.value ∷ Close ∷ b.0 =
    any_word_taken ts w.0 w.1
    ∙ ap (λ (t : List Token). Word w.0.0 ∷ t) (open_taken w.0.1 a.0 a.1
    ∙ ap (λ (t : List Token). Open ∷ t)
    (v.spelled ∙ ap (λ (t : List Token). v.value ∷ t) (close_taken p.0.1 b.0 b.1))) in
    let made :
    TookOne IsFree set operand o ts p.0.0 b.0 = record {
      given = v.given;
      fresh = v.fresh;
      is = v.is;
      spelled = is ∙ ap (λ (t : List Token). t ++ b.0) v.of;
    } in
    subst (λ (z : Operands × List Token). TookOne IsFree set operand o ts z.0 z.1) (some_is (p.0.0, b.0) x b.2) made

-- ---- statements

-- the operands that must stand do
pub record Whole (o : Operands) (d : Rnldef) : Type 0 where
  pub all : o ≡ record { which = Some d.which; form = Some d.form; q = Some d.q; r = d.r }
  pub needed : (is_specific d.form && is_none d.r) ≡ false

unless_some : {A : Type 0} (b : Bool) (x y : A) → cond b None (Some x) ≡ Some y → (b ≡ false) × (x ≡ y)
unless_some true x y e = absurd cc
unless_some false x y e = (refl, cc)

all_three : (o : Operands) (which : Which) (form : Form) (q : List ℕ) → o.which ≡ Some which → o.form ≡ Some form
    → o.q ≡ Some q → o ≡ record { which = Some which; form = Some form; q = Some q; r = o.r }
all_three o which form q a b c = rw⁻¹ (a, b, c) refl

whole_taken : (o : Operands) (d : Rnldef) → whole o ≡ Some d → Whole o d
unfolding whole
whole_taken o d e =
    let which =
    bind_some o.which (λ which.
    o.form
    >>= λ form.
    o.q
    >>= λ q. cond (is_specific form && is_none o.r) None (Some (record { which = which; form = form; q = q; r = o.r })))
    d e in
    let form =
    bind_some o.form (λ form.
    o.q
    >>= λ q.
    cond (is_specific form && is_none o.r) None (Some (record { which = which.0; form = form; q = q; r = o.r })))
    d which.2 in
    let q =
    bind_some o.q (λ q.
    cond (is_specific form.0 && is_none o.r) None (Some (record { which = which.0; form = form.0; q = q; r = o.r })))
    d form.2 in
    let made : Rnldef = record { which = which.0; form = form.0; q = q.0; r = o.r } in
    let u = unless_some (is_specific form.0 && is_none o.r) made d q.2 in
    subst (Whole o) u.1 (record { all = all_three o which.0 form.0 q.0 which.1 form.1 q.1; needed = u.0 })

pub rnldef_taken : (ts : List Token) (d : Rnldef) → rnldef_at ts ≡ Some d → IsRnldef ts d
unfolding rnldef_at
rnldef_taken ts d e =
    let o = bind_some (up_to 4 operand_at no_operands ts) (λ o. whole o) d e in
    let all = all_taken IsFree set operand operand_at operand_taken 4 no_operands ts o.0 o.1 in
    let w = whole_taken o.0 d o.2 in
    record {
      given = all.0;
      spelled = all.1;
      operands = subst (λ (x : Operands). Sets IsFree set no_operands all.0 x) w.all all.2;
      needed = w.needed;
    }
