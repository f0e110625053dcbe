-- The line of a notice, word by word.
use Rattle.std.proofs.Common.{◌≡◌, ℕ, List, [], ◌∷◌, ◌++◌, ap, sym, ◌∙◌, append_assoc, append-nil, Result, Ok, Err, OnOk}
use Rattle.std.specs.Fmt.{decimal}
use Rattle.grs_wire.specs.declared.seen.Names.{Names}
use Rattle.grs_display.specs.Lines.{line}
use Rattle.grs_display.specs.Rows.{res_word}
use Rattle.grs_enf.specs.declared.notice.Noted.{Noted}
use Rattle.grs_enf.specs.Text.{what_word, notice_line}

-- a text that begins so, with more behind it
behind : (out front text new more : List ℕ) → text ≡ out ++ front → new ≡ text ++ more → new ≡ out ++ (front ++ more)
behind out front text new more is put = put ∙ ap (λ (xs : List ℕ). xs ++ more) is ∙ append_assoc out front more

-- words that were put one behind the other
joined : (a w r o k : List ℕ)
    → (((((a ++ w) ++ 32 ∷ []) ++ r) ++ o) ++ k) ++ 10 ∷ [] ≡ (a ++ (w ++ ((32 ∷ r) ++ (o ++ (k ++ []))))) ++ 10 ∷ []
joined a w r o k =
    ap (λ (xs : List ℕ). xs ++ 10 ∷ [])
    (ap (λ (xs : List ℕ). (xs ++ o) ++ k) (append_assoc (a ++ w) (32 ∷ []) r)
    ∙ append_assoc ((a ++ w) ++ (32 ∷ r)) o k
    ∙ append_assoc (a ++ w) (32 ∷ r) (o ++ k)
    ∙ append_assoc a w ((32 ∷ r) ++ (o ++ k))
    ∙ ap (λ (xs : List ℕ). a ++ (w ++ ((32 ∷ r) ++ (o ++ xs)))) (sym (append-nil k)))

pub notice-put :
    (names : Names) (n : Noted) (out o1 o2 o3 o4 o5 o6 o7 new : List ℕ) → o1 ≡ out ++ 78 ∷ []
    → o2 ≡ o1 ++ (32 ∷ decimal n.entry) → o3 ≡ o2 ++ (32 ∷ what_word n.notice.what) → o4 ≡ o3 ++ 32 ∷ []
    → o5 ≡ o4 ++ res_word names n.notice.res → o6 ≡ o5 ++ (32 ∷ decimal n.notice.owners)
    → o7 ≡ o6 ++ (32 ∷ decimal n.notice.waiters) → new ≡ o7 ++ 10 ∷ [] → new ≡ out ++ notice_line names n
unfolding notice_line line
notice-put names n out o1 o2 o3 o4 o5 o6 o7 new e1 e2 e3 e4 e5 e6 e7 e8 =
    let number : List ℕ = 32 ∷ decimal n.entry in
    let what : List ℕ = 32 ∷ what_word n.notice.what in
    let res : List ℕ = res_word names n.notice.res in
    let owners : List ℕ = 32 ∷ decimal n.notice.owners in
    let waiters : List ℕ = 32 ∷ decimal n.notice.waiters in
    let f2 = behind out (78 ∷ []) o1 o2 number e1 e2 in
    let f3 = behind out ((78 ∷ []) ++ number) o2 o3 what f2 e3 in
    let f4 = behind out (((78 ∷ []) ++ number) ++ what) o3 o4 (32 ∷ []) f3 e4 in
    let f5 = behind out ((((78 ∷ []) ++ number) ++ what) ++ 32 ∷ []) o4 o5 res f4 e5 in
    let f6 = behind out (((((78 ∷ []) ++ number) ++ what) ++ 32 ∷ []) ++ res) o5 o6 owners f5 e6 in
    let f7 = behind out ((((((78 ∷ []) ++ number) ++ what) ++ 32 ∷ []) ++ res) ++ owners) o6 o7 waiters f6 e7 in
    let f8 = behind out (((((((78 ∷ []) ++ number) ++ what) ++ 32 ∷ []) ++ res) ++ owners) ++ waiters) o7 new (10 ∷ []) f7 e8 in
    f8 ∙ ap (λ (xs : List ℕ). out ++ xs) (joined ((78 ∷ []) ++ number) what res owners waiters)

-- what follows from what is so unless something failed
pub on_ok : {X Y : Type 0} (P Q : Type 0) → (P → Q) → (r : Result X Y) → OnOk r P → OnOk r Q
on_ok P Q f (Ok x) holds = f holds
on_ok P Q f (Err e) holds = tt
