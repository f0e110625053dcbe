-- Lines under numbers: what a line that is put changes, and that a task finds its own under its number.
use Rattle.std.proofs.Common.{◌≡◌, ◌<◌, ℕ, zero, suc, ◌==◌, true, cond, List, [], ◌∷◌, ◌++◌, length, map, get_or, refl}
use Rattle.std.proofs.Common.{ap, ◌∙◌, arith}
use Rattle.std.specs.Prelude.{Result, Ok, Err, OnOk}
use Rattle.std.proofs.Math.Dec.{eqb-suc-suc, eqb-suc-zero, eqb-zero-suc}
use Rattle.std.proofs.Math.ListN.{set}
use Rattle.std.proofs.lemmas.Bool.Decides.{nat_tests}
use Rattle.grs_base.proofs.SameLaws.{same_task-exact}
use Rattle.grs_wire.specs.declared.told.ToldLine.{ToldLine}
use Rattle.grs_wire.specs.declared.told.ToldLine.TheVariants.{Coded, Shown, Post, Ended, Desk}
use Rattle.grs_wire.specs.declared.told.Told.{Told}
use Rattle.grs_report.specs.Told.{task_at, told_to}
use Rattle.grs_wire.specs.ToldTo.{is_told_to}
use Rattle.grs_report.specs.Shelves.{lines_under, has_number, told_under}

-- a list without lines, put last, is none, as a view f of what is kept shows it
pub lines_under-grown : {A : Type 0} (f : A → List Told) (n : ℕ) (xs : List A) (a : A) → f a ≡ []
    → lines_under n (map f (xs ++ a ∷ [])) ≡ lines_under n (map f xs)
lines_under-grown f zero [] a e = e
lines_under-grown f (suc n) [] a e = refl
lines_under-grown f zero (x ∷ xs) a e = refl
lines_under-grown f (suc n) (x ∷ xs) a e = lines_under-grown f n xs a e

-- a line put last in the list of a number
pub lines_under-put : {A : Type 0} (f : A → List Told) (xs : List A) (k n : ℕ) (a b : A) (t : Told)
    → k < length (map f xs) → a ≡ get_or xs k a → f b ≡ f a ++ t ∷ []
    → lines_under n (map f (set xs k b)) ≡ cond (k == n) (lines_under n (map f xs) ++ t ∷ []) (lines_under n (map f xs))
lines_under-put f [] k n a b t h g e = absurd (omega arith)
lines_under-put f (x ∷ xs) zero zero a b t h g e = e ∙ ap (λ y. f y ++ t ∷ []) g
lines_under-put f (x ∷ xs) zero (suc n) a b t h g e = rw eqb-zero-suc refl
lines_under-put f (x ∷ xs) (suc k) zero a b t h g e = rw eqb-suc-zero refl
lines_under-put f (x ∷ xs) (suc k) (suc n) a b t h g e =
    rw eqb-suc-suc (lines_under-put f xs k n a b t (omega arith) g e)

-- where the line was put, each number has what it had, and one line more where it is that of the line
pub lines_under-on_ok :
    {A E : Type 0} (r : Result (Unit {0}) E) (f : A → List Told) (xs : List A) (old : List (List Told)) (k : ℕ)
    (a b : A) (t : Told)
    → k < length (map f xs) → a ≡ get_or xs k a → ((n : ℕ) → lines_under n (map f xs) ≡ lines_under n old)
    → OnOk r (f b ≡ f a ++ t ∷ [])
    → OnOk r ((n : ℕ)
    → lines_under n (map f (set xs k b)) ≡ cond (k == n) (lines_under n old ++ t ∷ []) (lines_under n old))
lines_under-on_ok (Ok u) f xs old k a b t h g same
    e = λ n. lines_under-put f xs k n a b t h g e ∙ ap (λ ls. cond (k == n) (ls ++ t ∷ []) ls) (same n)
lines_under-on_ok (Err u) f xs old k a b t h g same e = tt

-- what is told to a task stands under its number
has_number-told : (s j k : ℕ) (line : ToldLine) → is_told_to (task_at s j k) line ≡ true → has_number k line ≡ true
has_number-told s j k (Coded t n part verb code) h = grind (arith, nat_tests, h, same_task-exact (task_at s j k) t)
has_number-told s j k (Shown t n verb code rows) h = grind (arith, nat_tests, h, same_task-exact (task_at s j k) t)
has_number-told s j k (Post t n) h = grind (arith, nat_tests, h, same_task-exact (task_at s j k) t)
has_number-told s j k (Ended t code) h = grind (arith, nat_tests, h, same_task-exact (task_at s j k) t)
has_number-told s j k (Desk n said) h = cc

-- a task finds all its lines under its number
pub told_to-told_under : (s j k : ℕ) (told : List Told)
    → told_to (task_at s j k) (told_under k told) ≡ told_to (task_at s j k) told
told_to-told_under s j k [] = refl
told_to-told_under s j k (t ∷ ts) = grind (arith, has_number-told s j k t.line, told_to-told_under s j k ts)
