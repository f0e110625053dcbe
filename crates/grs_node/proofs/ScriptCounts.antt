-- How many tasks a system has.
use Rattle.std.proofs.Common.{◌≡◌, ◌+◌, ℕ, suc, List, [], ◌∷◌, map, length, refl, ap, sym, ◌∙◌, arith, length-append}
use Rattle.std.specs.Prelude.{sum, fold}
use Rattle.grs_wire.specs.declared.deck.JobDef.{JobDef}
use Rattle.grs_wire.specs.declared.deck.TaskDef.{TaskDef}
use Rattle.grs_legal.specs.Asks.{scripts_in, scripts_from}

count-in : (job : ℕ) (ts : List TaskDef) → length (scripts_in job ts) ≡ length ts
count-in job [] = refl
count-in job (t ∷ ts) = ap suc (count-in job ts)

-- a sum that begins with a number
fold-start : (a : ℕ) (xs : List ℕ) → fold (λ x y. x + y) a xs ≡ a + fold (λ x y. x + y) 0 xs
fold-start a [] = omega arith
fold-start a (x ∷ xs) = omega (arith, fold-start (a + x) xs, fold-start (0 + x) xs)

-- a system has as many scripts as its jobs have tasks
pub count-from : (job : ℕ) (js : List JobDef) → length (scripts_from job js) ≡ sum (map (λ j. length j.tasks) js)
count-from job [] = refl
count-from job (j ∷ js) =
    length-append (scripts_in job j.tasks) (scripts_from (suc job) js)
    ∙ ap (λ n. n + length (scripts_from (suc job) js)) (count-in job j.tasks)
    ∙ ap (λ n. length j.tasks + n) (count-from (suc job) js)
    ∙ sym (fold-start (length j.tasks) (map (λ i. length i.tasks) js))
    ∙ ap (λ n. fold (λ x y. x + y) n (map (λ i. length i.tasks) js)) (omega arith)

pub ruleset counts = (count-from)
