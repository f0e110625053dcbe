-- The lines of a text, and the parts of a line.
use Rattle.std.proofs.Common.{◌≡◌, ◌<◌, ◌^◌, ℕ, Bool, true, false, cond, ◌&&◌, ◌||◌, List, [], ◌∷◌, ◌++◌}
use Rattle.std.proofs.Common.{refl, ap, sym, subst, ◌∙◌, arith}
use Rattle.std.specs.Prelude.{◌==◌}
use Rattle.std.specs.Fmt.{decimal}
use Rattle.std.specs.Str.Parse.{AllDigits}
use Rattle.std.proofs.lemmas.Bool.{eq-eqb, eqb-true}
use Rattle.std.proofs.lemmas.Fmt.{decimal_is_IsNumeral}
use Rattle.grs_base.specs.ShortNames.{IsShortName, is_name, all_name, is_name_byte}
use Rattle.grs_audit.specs.Lines.{before_lines, lines_in, front, behind, holds}

-- ---- lines
-- some lines
pub record SomeLines (ls : List (List ℕ)) : Type 0 where
  pub first : List ℕ
  pub more : List (List ℕ)
  pub is : ls ≡ first ∷ more

some-before : (b : ℕ) (ls : List (List ℕ)) → SomeLines (before_lines b ls)
some-before b [] = go (b == 10)
  where
    go : (c : Bool) → SomeLines (cond c ([] ∷ []) ((b ∷ []) ∷ []))
    go true = record { first = []; more = []; is = refl }
    go false = record { first = b ∷ []; more = []; is = refl }
some-before b (l ∷ ls) = go (b == 10)
  where
    go : (c : Bool) → SomeLines (cond c ([] ∷ l ∷ ls) ((b ∷ l) ∷ ls))
    go true = record { first = []; more = l ∷ ls; is = refl }
    go false = record { first = b ∷ l; more = ls; is = refl }

before-push : (b : ℕ) (ls ms : List (List ℕ)) → SomeLines ls → before_lines b (ls ++ ms) ≡ before_lines b ls ++ ms
before-push b [] ms s = let e : [] ≡ s.first ∷ s.more = s.is in absurd (cc)
before-push b (l ∷ ls) ms s = go (b == 10)
  where
    go : (c : Bool)
        → cond c ([] ∷ l ∷ (ls ++ ms)) ((b ∷ l) ∷ (ls ++ ms)) ≡ cond c ([] ∷ l ∷ ls) ((b ∷ l) ∷ ls) ++ ms
    go true = refl
    go false = refl

some-ended : (q : List ℕ) → SomeLines (lines_in (q ++ 10 ∷ []))
some-ended [] = some-before 10 []
some-ended (b ∷ q) = some-before b (lines_in (q ++ 10 ∷ []))

begin-line : (ls : List (List ℕ)) → before_lines 10 ls ≡ [] ∷ ls
begin-line [] = refl
begin-line (l ∷ ls) = refl

-- behind a line end lines begin
pub lines-append : (q xs : List ℕ) → lines_in ((q ++ 10 ∷ []) ++ xs) ≡ lines_in (q ++ 10 ∷ []) ++ lines_in xs
lines-append [] xs = begin-line (lines_in xs)
lines-append (b ∷ q) xs =
    ap (before_lines b) (lines-append q xs) ∙ before-push b (lines_in (q ++ 10 ∷ [])) (lines_in xs) (some-ended q)

-- a text is its first line, and the lines behind it
pub lines-cut : (b : ℕ) (bs : List ℕ) → lines_in (b ∷ bs) ≡ front 10 (b ∷ bs) ∷ lines_in (behind 10 (b ∷ bs))
lines-cut b [] = go (b == 10)
  where
    go : (c : Bool) → cond c ([] ∷ []) ((b ∷ []) ∷ []) ≡ cond c [] (b ∷ []) ∷ lines_in (cond c [] [])
    go true = refl
    go false = refl
lines-cut b (x ∷ bs) = ap (before_lines b) (lines-cut x bs) ∙ go (b == 10) (lines-cut x bs)
  where
    go : (c : Bool) → lines_in (x ∷ bs) ≡ front 10 (x ∷ bs) ∷ lines_in (behind 10 (x ∷ bs))
        → cond c ([] ∷ front 10 (x ∷ bs) ∷ lines_in (behind 10 (x ∷ bs)))
        ((b ∷ front 10 (x ∷ bs)) ∷ lines_in (behind 10 (x ∷ bs)))
        ≡ cond c [] (b ∷ front 10 (x ∷ bs)) ∷ lines_in (cond c (x ∷ bs) (behind 10 (x ∷ bs)))
    go true cut = ap (λ ls. [] ∷ ls) (sym cut)
    go false cut = refl

-- ---- parts
neither : (a b : Bool) → (a || b) ≡ false → (a ≡ false) × (b ≡ false)
neither false false e = (refl, refl)
neither false true e = absurd (cc)
neither true b e = absurd (cc)

pub front-past : (b : ℕ) (w xs : List ℕ) → holds b w ≡ false → front b (w ++ b ∷ xs) ≡ w
front-past b [] xs h = ap (λ c. cond c [] (b ∷ front b xs)) (eq-eqb b b refl)
front-past b (x ∷ w) xs h =
    ap (λ c. cond c [] (x ∷ front b (w ++ b ∷ xs))) (neither (x == b) (holds b w) h).0
    ∙ ap (λ l. x ∷ l) (front-past b w xs (neither (x == b) (holds b w) h).1)

pub behind-past : (b : ℕ) (w xs : List ℕ) → holds b w ≡ false → behind b (w ++ b ∷ xs) ≡ xs
behind-past b [] xs h = ap (λ c. cond c xs (behind b xs)) (eq-eqb b b refl)
behind-past b (x ∷ w) xs h =
    ap (λ c. cond c (w ++ b ∷ xs) (behind b (w ++ b ∷ xs))) (neither (x == b) (holds b w) h).0
    ∙ behind-past b w xs (neither (x == b) (holds b w) h).1

pub front-over : (b : ℕ) (w xs : List ℕ) → holds b w ≡ false → front b (w ++ xs) ≡ w ++ front b xs
front-over b [] xs h = refl
front-over b (x ∷ w) xs h =
    ap (λ c. cond c [] (x ∷ front b (w ++ xs))) (neither (x == b) (holds b w) h).0
    ∙ ap (λ l. x ∷ l) (front-over b w xs (neither (x == b) (holds b w) h).1)

pub front-none : (b : ℕ) (w : List ℕ) → holds b w ≡ false → front b w ≡ w
front-none b [] h = refl
front-none b (x ∷ w) h =
    ap (λ c. cond c [] (x ∷ front b w)) (neither (x == b) (holds b w) h).0
    ∙ ap (λ l. x ∷ l) (front-none b w (neither (x == b) (holds b w) h).1)

pub holds-append : (b : ℕ) (v w : List ℕ) → holds b (v ++ w) ≡ (holds b v || holds b w)
holds-append b [] w = refl
holds-append b (x ∷ v) w = ap (λ c. (x == b) || c) (holds-append b v w) ∙ either (x == b) (holds b v) (holds b w)
  where
    either : (p q r : Bool) → (p || (q || r)) ≡ ((p || q) || r)
    either true q r = refl
    either false q r = refl

pub holds-parts : (b : ℕ) (v w : List ℕ) → holds b v ≡ false → holds b w ≡ false → holds b (v ++ w) ≡ false
holds-parts b v w h k = holds-append b v w ∙ ap (λ c. c || holds b w) h ∙ k

pub holds-past : (b c : ℕ) (v w : List ℕ) → holds b v ≡ false → (c == b) ≡ false → holds b w ≡ false
    → holds b (v ++ c ∷ w) ≡ false
holds-past b c v w h n k = holds-parts b v (c ∷ w) h (ap (λ x. x || holds b w) n ∙ k)

pub holds-there : (b : ℕ) (v w : List ℕ) → holds b (v ++ b ∷ w) ≡ true
holds-there b v w =
    holds-append b v (b ∷ w) ∙ ap (λ c. holds b v || (c || holds b w)) (eq-eqb b b refl) ∙ or-true (holds b v)
  where
    or-true : (p : Bool) → (p || true) ≡ true
    or-true true = refl
    or-true false = refl

-- a name of a system, job or task has bytes of names alone
pub both : (a b : Bool) → (a && b) ≡ true → (a ≡ true) × (b ≡ true)
both true true e = (refl, refl)
both true false e = absurd (cc)
both false b e = absurd (cc)

lacks-name : (b : ℕ) (n : List ℕ) → is_name_byte b ≡ false → all_name n ≡ true → holds b n ≡ false
unfolding all_name
lacks-name b [] lacks all = refl
lacks-name b (x ∷ n) lacks all =
    let parts = both (is_name_byte x) (all_name n) all in
    by_test (x == b) refl parts.0 (lacks-name b n lacks parts.1)
  where
    by_test : (c : Bool) → (x == b) ≡ c → is_name_byte x ≡ true → holds b n ≡ false → (c || holds b n) ≡ false
    by_test false e is rest = rest
    by_test true e is rest =
        let same : x ≡ b = eqb-true x b e in
        let f : true ≡ false = sym is ∙ ap is_name_byte same ∙ lacks in absurd (cc)

all-of-name : (n : List ℕ) → is_name n ≡ true → all_name n ≡ true
unfolding is_name all_name
all-of-name [] e = refl
all-of-name (b ∷ n) e = (both _ (all_name (b ∷ n)) e).1

pub name-no-blank : (n : List ℕ) → IsShortName n → holds 32 n ≡ false
unfolding is_name_byte
name-no-blank n s = lacks-name 32 n refl (all-of-name n s.0)

pub name-no-point : (n : List ℕ) → IsShortName n → holds 46 n ≡ false
unfolding is_name_byte
name-no-point n s = lacks-name 46 n refl (all-of-name n s.0)

pub name-no-end : (n : List ℕ) → IsShortName n → holds 10 n ≡ false
unfolding is_name_byte
name-no-end n s = lacks-name 10 n refl (all-of-name n s.0)

-- nor has a number
lacks-digits : (b : ℕ) (ds : List ℕ) → (AllDigits 10 (b ∷ []) → ⊥) → AllDigits 10 ds → holds b ds ≡ false
lacks-digits b [] lacks all = refl
lacks-digits b (x ∷ ds) lacks all = by_test (x == b) refl (lacks-digits b ds lacks all.1)
  where
    by_test : (c : Bool) → (x == b) ≡ c → holds b ds ≡ false → (c || holds b ds) ≡ false
    by_test false e rest = rest
    by_test true e rest = absurd (lacks (subst (λ y. AllDigits 10 (y ∷ [])) (eqb-true x b e) (all.0, tt)))

pub number-no-blank : (n : ℕ) → n < 2 ^ 64 → holds 32 (decimal n) ≡ false
number-no-blank n h = lacks-digits 32 (decimal n) (λ a. omega (arith, a.0)) (decimal_is_IsNumeral n h).0.1

pub number-no-end : (n : ℕ) → n < 2 ^ 64 → holds 10 (decimal n) ≡ false
number-no-end n h = lacks-digits 10 (decimal n) (λ a. omega (arith, a.0)) (decimal_is_IsNumeral n h).0.1
