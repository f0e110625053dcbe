-- What is read of tokens was spelled so: the next token, and things in any order.
use Rattle.std.proofs.Common.{◌≡◌, ℕ, zero, suc, Bool, true, false, cond, eqb, List, [], ◌∷◌, ◌++◌, length, Option}
use Rattle.std.proofs.Common.{Some, None, refl, sym, ap, subst, ◌∙◌, arith, append_assoc, append-nil}
use Rattle.std.specs.List.{flat_map}
use Rattle.std.specs.Str.{bytes_eq}
use Rattle.std.proofs.lemmas.Bool.{ne_eqb}
use Rattle.std.proofs.lemmas.List.Concat.{flat_map-cons, flat_map-append}
use Rattle.std.proofs.lemmas.Slice.Eq.{bytes_eq-Decides}
use Rattle.deck_scan.specs.declared.token.Token.{Token}
use Rattle.deck_scan.specs.declared.token.Token.TheVariants.{Word, Name, Open, Close, Comma, Equals}
use Rattle.deck_scan.specs.Next.{◌>>=◌, open_at, close_at, comma_at, equals_at, end_at, any_word_at, value_at, name_at}
use Rattle.deck_scan.specs.Next.{maybe, up_to, once, Names, Sets}

-- ---- what reading gives

pub bind_some : {A B : Type 0} (r : Option A) (f : A → Option B) (y : B) → (r >>= f) ≡ Some y
    → (x : A) × (r ≡ Some x) × (f x ≡ Some y)
bind_some (Some x) f y e = (x, refl, e)
bind_some None f y e = absurd cc

pub guard_some : {A : Type 0} (b : Bool) (x y : A) → cond b (Some x) None ≡ Some y → (b ≡ true) × (x ≡ y)
guard_some true x y e = (refl, cc)
guard_some false x y e = absurd cc

abbrev some : {A : Type 0} → A → Option A
some x = Some x

pub some_is : {A : Type 0} (x y : A) → some x ≡ some y → x ≡ y
some_is x y e = cc

pub same_bytes : (xs ys : List ℕ) → bytes_eq xs ys ≡ true → xs ≡ ys
same_bytes xs ys h = (bytes_eq-Decides xs ys).0 h

pub once_some : {A O : Type 0} (o : Option A) (p q : O) → once o p ≡ Some q → (o ≡ None) × (q ≡ p)
once_some None p q e = (refl, sym (some_is p q e))
once_some (Some a) p q e = absurd cc

-- ---- the rows of a table of words

-- what holds of what a row gives for its word, and of what the rows behind it give
pub by_row : {A : Type 0} (P : Option A → Type 0) (w word : List ℕ) (x : A) (rows : Option A) → (w ≡ word → P (Some x))
    → P rows → P (cond (bytes_eq w word) (Some x) rows)
by_row P w word x rows here behind = go (bytes_eq w word) (same_bytes w word)
  where
    go : (b : Bool) → (b ≡ true → w ≡ word) → P (cond b (Some x) rows)
    go true is = here (is refl)
    go false is = behind

-- a word is that of what a table gives for it
abbrev pub IsWordOf : {A : Type 0} → (A → List ℕ) → List ℕ → Option A → Type 0
IsWordOf word w None = Unit {0}
IsWordOf word w (Some x) = w ≡ word x

pub row : {A : Type 0} (word : A → List ℕ) (w : List ℕ) (x : A) (rows : Option A) → IsWordOf word w rows
    → IsWordOf word w (cond (bytes_eq w (word x)) (Some x) rows)
row word w x rows behind = by_row (IsWordOf word w) w (word x) x rows (λ h. h) behind

-- ---- tokens

pub open_taken : (ts rest : List Token) → open_at ts ≡ Some rest → ts ≡ Open ∷ rest
open_taken (Open ∷ ts) rest e = ap (λ (x : List Token). Open ∷ x) (some_is ts rest e)
open_taken [] rest e = absurd cc
open_taken (_ ∷ ts) rest e = absurd cc

pub close_taken : (ts rest : List Token) → close_at ts ≡ Some rest → ts ≡ Close ∷ rest
close_taken (Close ∷ ts) rest e = ap (λ (x : List Token). Close ∷ x) (some_is ts rest e)
close_taken [] rest e = absurd cc
close_taken (_ ∷ ts) rest e = absurd cc

pub comma_taken : (ts rest : List Token) → comma_at ts ≡ Some rest → ts ≡ Comma ∷ rest
comma_taken (Comma ∷ ts) rest e = ap (λ (x : List Token). Comma ∷ x) (some_is ts rest e)
comma_taken [] rest e = absurd cc
comma_taken (_ ∷ ts) rest e = absurd cc

pub equals_taken : (ts rest : List Token) → equals_at ts ≡ Some rest → ts ≡ Equals ∷ rest
equals_taken (Equals ∷ ts) rest e = ap (λ (x : List Token). Equals ∷ x) (some_is ts rest e)
equals_taken [] rest e = absurd cc
equals_taken (_ ∷ ts) rest e = absurd cc

pub end_taken : (ts : List Token) (u : Unit {0}) → end_at ts ≡ Some u → ts ≡ []
end_taken [] u e = refl
end_taken (_ ∷ ts) u e = absurd cc

pub any_word_taken : (ts : List Token) (x : List ℕ × List Token) → any_word_at ts ≡ Some x → ts ≡ Word x.0 ∷ x.1
any_word_taken (Word w ∷ ts) x e = ap (λ (y : List ℕ × List Token). Word y.0 ∷ y.1) (some_is (w, ts) x e)
any_word_taken [] x e = absurd cc
any_word_taken (_ ∷ ts) x e = absurd cc

pub value_taken : (ts : List Token) (x : List ℕ × List Token) → value_at ts ≡ Some x → ts ≡ Equals ∷ Word x.0 ∷ x.1
value_taken ts x e =
    let a = bind_some (equals_at ts) (λ a. any_word_at a) x e in
    equals_taken ts a.0 a.1 ∙ ap (λ (t : List Token). Equals ∷ t) (any_word_taken a.0 x a.2)

pub record Named (ts : List Token) (n : List ℕ) (rest : List Token) : Type 0 where
  pub token : Token
  pub is : ts ≡ token ∷ rest
  pub names : Names token n

pub name_taken : (ts : List Token) (x : List ℕ × List Token) → name_at ts ≡ Some x → Named ts x.0 x.1
name_taken (Word w ∷ ts) x e =
    subst (λ (y : List ℕ × List Token). Named (Word w ∷ ts) y.0 y.1) (some_is (w, ts) x e)
    (record { token = Word w; is = refl; names = refl })
name_taken (Name w ∷ ts) x e =
    subst (λ (y : List ℕ × List Token). Named (Name w ∷ ts) y.0 y.1) (some_is (w, ts) x e)
    (record { token = Name w; is = refl; names = refl })
name_taken [] x e = absurd cc
name_taken (_ ∷ ts) x e = absurd cc

-- ---- things in any order

-- some things were taken
pub record Took {O X : Type 0} (free : X → O → Type 0) (sets : X → O → O) (spell : X → List Token) (o : O)
    (ts : List Token) (p : O) (rest : List Token) :
    Type 0 where
  pub given : List X
  pub spelled : ts ≡ flat_map spell given ++ rest
  pub set_so : Sets free sets o given p

-- one thing was taken
pub record TookOne {O X : Type 0} (free : X → O → Type 0) (sets : X → O → O) (spell : X → List Token) (o : O)
    (ts : List Token) (p : O) (rest : List Token) :
    Type 0 where
  pub given : X
  pub fresh : free given o
  pub is : p ≡ sets given o
  pub spelled : ts ≡ spell given ++ rest

module _ {O X : Type 0} (free : X → O → Type 0) (sets : X → O → O) (spell : X → List Token) where
  sets_append : (xs ys : List X) (o p q : O) → Sets free sets o xs p → Sets free sets p ys q
      → Sets free sets o (xs ++ ys) q
  sets_append [] ys o p q h k = subst (λ (x : O). Sets free sets x ys q) h k
  sets_append (x ∷ xs) ys o p q h k = (h.0, sets_append xs ys (sets x o) p q h.1 k)

  took_more : (o p q : O) (ts us rest : List Token) → Took free sets spell o ts p us → Took free sets spell p us q rest
      → Took free sets spell o ts q rest
  took_more o p q ts us rest a b = record {
    given = a.given ++ b.given;
    spelled =
        a.spelled
        ∙ ap (λ (t : List Token). flat_map spell a.given ++ t) b.spelled
        ∙ sym (append_assoc (flat_map spell a.given) (flat_map spell b.given) rest)
        ∙ ap (λ (t : List Token). t ++ rest) (sym (flat_map-append spell a.given b.given));
    set_so = sets_append a.given b.given o p q a.set_so b.set_so;
  }

  took_one : (o p : O) (ts rest : List Token) → TookOne free sets spell o ts p rest → Took free sets spell o ts p rest
  took_one o p ts rest a = record {
    given = a.given ∷ [];
    spelled = a.spelled ∙ ap (λ (t : List Token). t ++ rest) (sym (one a.given));
    set_so = (a.fresh, a.is);
  }
    where
      one : (x : X) → flat_map spell (x ∷ []) ≡ spell x
      one x = flat_map-cons spell x [] ∙ append-nil (spell x)

  module _ (read : O → List Token → Option (O × List Token))
      (one : (o : O) (ts : List Token) (x : O × List Token) → read o ts ≡ Some x
      → TookOne free sets spell o ts x.0 x.1) where
    maybe_taken : (o : O) (ts : List Token) (x : O × List Token) → maybe read o ts ≡ Some x
        → Took free sets spell o ts x.0 x.1
    maybe_taken o [] x e =
        subst (λ (y : O × List Token). Took free sets spell o [] y.0 y.1) (some_is (o, []) x e)
        (record { given = []; spelled = refl; set_so = refl })
    maybe_taken o (t ∷ ts) x e =
        let long : eqb (length (t ∷ ts)) 0 ≡ false = ne_eqb (length (t ∷ ts)) 0 (λ h. omega (arith, h)) in
        took_one o x.0 (t ∷ ts) x.1 (one o (t ∷ ts) x (rw long at e))

    up_to_taken : (n : ℕ) (o : O) (ts : List Token) (p : O) → up_to n read o ts ≡ Some p
        → Took free sets spell o ts p []
    up_to_taken zero o ts p e =
        let z = bind_some (end_at ts) (λ end. Some o) p e in
        let is = some_is o p z.2 in
        record { given = []; spelled = end_taken ts z.0 z.1; set_so = sym is }
    up_to_taken (suc n) o ts p e =
        let a = bind_some (maybe read o ts) (λ a. up_to n read a.0 a.1) p e in
        took_more o a.0.0 p ts a.0.1 [] (maybe_taken o ts a.0 a.1) (up_to_taken n a.0.0 a.0.1 p a.2)

    -- at most so many things, and nothing after them
    pub all_taken : (n : ℕ) (o : O) (ts : List Token) (p : O) → up_to n read o ts ≡ Some p
        → (given : List X) × (ts ≡ flat_map spell given) × Sets free sets o given p
    all_taken n o ts p e =
        let all = up_to_taken n o ts p e in
        (all.given, all.spelled ∙ append-nil (flat_map spell all.given), all.set_so)
