-- Lines that are wanted, compared with those that there are.
use Rattle.std.proofs.Common.{◌≡◌, ◌≢◌, ◌<◌, ◌+◌, ℕ, List, [], ◌∷◌, ◌++◌, length, Bor, Option, Some, None}
use Rattle.std.proofs.Common.{refl, ap, sym, ◌∙◌, arith, append_assoc, append-nil, length-append}
use Rattle.std.specs.Prelude.{IfSome, MatchOption}
use Rattle.grs_audit.specs.Compared.{Parts, AreCompared}
use Rattle.grs_audit.specs.Lines.{lines_in, front, behind}
use Rattle.grs_audit.specs.declared.compare.Compared.TheVariants as compared
use Rattle.grs_audit.proofs.HeadLaws.{lines-some, lines-none}
use Rattle.grs_audit.proofs.LineLaws.{lines-append}

-- Two texts have so many lines in common before these parts of them.
pub record AreAlike (wanted text left rest : List ℕ) (n : ℕ) : Type 0 where
  pub same : List (List ℕ)
  pub wants : lines_in wanted ≡ same ++ lines_in left
  pub has : lines_in text ≡ same ++ lines_in rest
  pub count : n ≡ length same

pub alike-none : (wanted text : List ℕ) → AreAlike wanted text wanted text 0
alike-none wanted text = record { same = []; wants = refl; has = refl; count = refl }

-- a text that begins with lines and their line ends has these lines, and those behind
lines-begun : (wanted text q rest : List ℕ) → wanted ≡ q ++ 10 ∷ [] → text ≡ wanted ++ rest
    → lines_in text ≡ lines_in wanted ++ lines_in rest
lines-begun wanted text q rest ended begins =
    ap lines_in (begins ∙ ap (λ xs. xs ++ rest) ended)
    ∙ lines-append q rest
    ∙ ap (λ xs. lines_in xs ++ lines_in rest) (sym ended)

pub lines-stripped : (wanted text q : List ℕ) → wanted ≡ q ++ 10 ∷ [] → (r : Option (Bor (List ℕ)))
    → MatchOption r ((rest : List ℕ) → text ≢ wanted ++ rest) (λ x. text ≡ wanted ++ x.now)
    → IfSome r (λ rest. lines_in text ≡ lines_in wanted ++ lines_in rest.now)
lines-stripped wanted text q ended None m = tt
lines-stripped wanted text q ended (Some rest) m = lines-begun wanted text q rest.now ended m

first-same : (x y : List ℕ) (xs ys : List (List ℕ)) → x ∷ xs ≡ y ∷ ys → x ≡ y
first-same x y xs ys e = cc

nothing : (x : List ℕ) (xs : List (List ℕ)) → [] ≡ x ∷ xs → ⊥
nothing x xs e = absurd (cc)

module _ (wanted text left rest : List ℕ) (n : ℕ) (a : AreAlike wanted text left rest n) where
  wants-more : 0 < length left → lines_in wanted ≡ a.same ++ front 10 left ∷ lines_in (behind 10 left)
  wants-more some = a.wants ∙ ap (λ ls. a.same ++ ls) (lines-some left some)

  pub alike-end : 0 < length left → length rest ≡ 0 → Parts (lines_in wanted) (lines_in text) n
  alike-end some none = record {
    same = a.same;
    behind = lines_in rest;
    next = front 10 left;
    more = lines_in (behind 10 left);
    count = a.count;
    has = a.has;
    wants = wants-more some;
    other = λ ls e. nothing (front 10 left) ls (sym (lines-none rest none) ∙ e);
  }

  pub alike-other : 0 < length left → 0 < length rest → (front 10 left ≡ front 10 rest → ⊥)
      → Parts (lines_in wanted) (lines_in text) n
  alike-other some there other = record {
    same = a.same;
    behind = lines_in rest;
    next = front 10 left;
    more = lines_in (behind 10 left);
    count = a.count;
    has = a.has;
    wants = wants-more some;
    other = λ ls e.
        other (sym (first-same (front 10 rest) (front 10 left) (lines_in (behind 10 rest)) ls
        (sym (lines-some rest there) ∙ e)));
  }

  pub alike-more : 0 < length left → 0 < length rest → front 10 left ≡ front 10 rest
      → AreAlike wanted text (behind 10 left) (behind 10 rest) (n + 1)
  alike-more some there same = record {
    same = a.same ++ front 10 left ∷ [];
    wants = wants-more some ∙ sym (append_assoc a.same (front 10 left ∷ []) (lines_in (behind 10 left)));
    has =
        a.has
        ∙ ap (λ ls. a.same ++ ls) (lines-some rest there ∙ ap (λ l. l ∷ lines_in (behind 10 rest)) (sym same))
        ∙ sym (append_assoc a.same (front 10 left ∷ []) (lines_in (behind 10 rest)));
    count = let c = a.count in let l = length-append a.same (front 10 left ∷ []) in omega (arith, c, l);
  }

  pub alike-all : (r : Bor (List ℕ)) → r.now ≡ rest → length left ≡ 0
      → AreCompared (lines_in wanted) (lines_in text) (compared.All r)
  alike-all r is none =
      let whole : lines_in wanted ≡ a.same =
      a.wants ∙ ap (λ ls. a.same ++ ls) (lines-none left none) ∙ append-nil a.same in
      a.has ∙ ap (λ xs. a.same ++ lines_in xs) (sym is) ∙ ap (λ ls. ls ++ lines_in r.now) (sym whole)
