-- The hardware units that tasks reserve, and how often each is reserved.
use Rattle.std.specs.Prelude.{◌≡◌, ℕ, suc, ◌==◌, nat_lt, ◌+◌, List, [], ◌∷◌, ◌++◌, map, cond, refl}
use Rattle.std.specs.Option.{option_to_list}
use Rattle.grs_base.specs.declared.resource.SysId.{SysId}
use Rattle.task_state.specs.declared.state.Rec.{Rec}
use Rattle.task_state.specs.declared.state.TaskState.{TaskState}

-- the unit of a record, if it has one, once control was told
abbrev pub reserved_by : Rec → List ℕ
reserved_by x = cond x.told (option_to_list x.unit) []

-- the units that these records reserve
abbrev pub reserved_in : List Rec → List ℕ
reserved_in [] = []
reserved_in (x ∷ xs) = reserved_by x ++ reserved_in xs

-- the units that these tasks reserve
abbrev pub reserved_of : List TaskState → List ℕ
reserved_of [] = []
reserved_of (t ∷ ts) = reserved_in t.records ++ reserved_of ts

-- counts that stand by unit, with one more reserve of a unit
abbrev pub counting : ℕ → List (ℕ × ℕ) → List (ℕ × ℕ)
counting u [] = (u, 1) ∷ []
counting u (c ∷ cs) = cond (nat_lt c.0 u) (c ∷ counting u cs) (cond (u == c.0) ((u, c.1 + 1) ∷ cs) ((u, 1) ∷ c ∷ cs))

-- the same with one more reserve of each of these units
abbrev pub counting_all : List (ℕ × ℕ) → List ℕ → List (ℕ × ℕ)
counting_all cs [] = cs
counting_all cs (u ∷ us) = counting_all (counting u cs) us

-- each of these units with how often it stands among them, by unit
abbrev pub counted : List ℕ → List (ℕ × ℕ)
counted us = counting_all [] us

-- the units that the tasks of a system reserve, each with its count, by unit
abbrev pub units_at : SysId → List TaskState → List (SysId × ℕ × ℕ)
units_at s tasks = map (λ c. (s, c.0, c.1)) (counted (reserved_of tasks))

-- the place of the first count that isn't below a unit
abbrev pub unit_place : ℕ → List (ℕ × ℕ) → ℕ
unit_place u [] = 0
unit_place u (c ∷ cs) = cond (nat_lt c.0 u) (suc (unit_place u cs)) 0

-- two reserves of unit 7 beside one of unit 9
two_units : counted (7 ∷ 9 ∷ 7 ∷ []) ≡ (7, 2) ∷ (9, 1) ∷ []
two_units = refl
