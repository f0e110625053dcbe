-- Of the lists to which items lead, those of resources of the whole complex; and functions of numbers, changed at one.
use Rattle.std.specs.Prelude.{◌≡◌, ℕ, eqb, cond, filter, List, ◌++◌}
use Rattle.grs_base.specs.State.{State, is_systems}
use Rattle.grs_known.specs.Items.{RunItem, rounds, lists, lists_from}

-- the same function with another value at one number
abbrev pub put_at : {A : Type 0} → (ℕ → A) → ℕ → A → ℕ → A
put_at f s x u = cond (eqb u s) x (f u)

-- the elements on resources of the whole complex
abbrev pub systems_part : State → State
systems_part s = filter (λ h. is_systems h.0) s

-- What the items that went with the message lead to is the history's part on resources of the whole complex: first the
-- table of a system of the ring, and then what it has still to see.
abbrev pub TableIsPart : Type 0
TableIsPart =
    (front rest : List RunItem) → lists_from (lists (rounds front)) (rounds rest) ≡ systems_part (lists (front ++ rest))
