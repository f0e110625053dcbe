-- How the tasks of a system are named, in their order.
use Rattle.std.specs.Prelude.{ℕ, suc, List, [], ◌∷◌}
use Rattle.grs_base.specs.declared.resource.SysId.{SysId}
use Rattle.grs_base.specs.declared.resource.TaskId.{TaskId}
use Rattle.grs_legal.specs.Asks.{Script, scripts_of}
use Rattle.grs_wire.specs.declared.deck.Deck.{Deck}

-- the names of the tasks of system s that have these scripts, of which the first is task n
abbrev pub names_from : ℕ → ℕ → List Script → List TaskId
names_from s n [] = []
names_from s n (x ∷ xs) = record { system = record { 0 = s }; job = x.job; task = n } ∷ names_from s (suc n) xs

-- the names of all tasks of a system of a deck
abbrev pub names_of : Deck → ℕ → List TaskId
names_of deck s = names_from s 0 (scripts_of deck s)
