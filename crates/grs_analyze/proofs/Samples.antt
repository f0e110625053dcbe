-- Worked rows, computed from the definitions.
use Rattle.std.proofs.Common.{◌≡◌, ℕ, true, false, List, [], ◌∷◌, ◌++◌, refl}
use Rattle.std.specs.Prelude.{codes}
use Rattle.std.specs.List.{flat_map}
use Rattle.std.specs.Fmt.{digits}
use Rattle.grs_base.specs.declared.resource.TaskId.{TaskId}
use Rattle.grs_base.specs.declared.resource.Res.{Res}
use Rattle.grs_base.specs.declared.resource.Res.TheVariants.{System}
use Rattle.grs_base.specs.declared.resource.Row.{Row}
use Rattle.grs_base.specs.declared.resource.Elem.{Elem}
use Rattle.grs_base.specs.declared.resource.Ctl.TheVariants.{E, S}
use Rattle.grs_wire.specs.declared.deck.Deck.{Deck}
use Rattle.grs_wire.specs.declared.seen.Names.{Names}
use Rattle.grs_display.specs.Lines.{line}
use Rattle.grs_display.specs.Names.{names_of, name_at, name_in, task_in_job, task_word}
use Rattle.grs_display.specs.Rows.{names_word, res_word, elem_word, row_line}
use Rattle.grs_analyze.specs.Depends.{depends}
use Rattle.grs_analyze.specs.Greatest.{greatest}
use Rattle.grs_analyze.specs.Walk.{is_less, reported_cycle, is_cycle}
use Rattle.grs_analyze.specs.Waits.{blocked_in}
use Rattle.grs_analyze.specs.Text.{wait_line, row_lines, cycle_line, analysis_text}

-- a task of the first job of the first system, and one of a system
abbrev pub task : ℕ → TaskId
task n = record { system = record { 0 = 0 }; job = 0; task = n }

abbrev task_at : ℕ → ℕ → ℕ → TaskId
task_at s j n = record { system = record { 0 = s }; job = j; task = n }

abbrev e_of : ℕ → Elem
e_of n = record { task = task n; ctl = E }

abbrev s_of : ℕ → Elem
s_of n = record { task = task n; ctl = S }

abbrev pub res : ℕ → Res
res n = System (record { 0 = 0 }) (65 ∷ []) (n ∷ [])

abbrev queue : ℕ → ℕ → List Elem → Row
queue n owners elems = record { res = res n; elems = elems; owners = owners }

-- each of two tasks holds what the other waits for
abbrev pub crossed : List Row
crossed = queue 88 1 (e_of 0 ∷ e_of 1 ∷ []) ∷ queue 89 1 (e_of 1 ∷ e_of 0 ∷ []) ∷ []

pub first_depends : depends crossed (task 0) (task 1) ≡ true
first_depends = refl

second_depends : depends crossed (task 1) (task 0) ≡ true
second_depends = refl

nobody_depends_on_itself : depends crossed (task 0) (task 0) ≡ false
nobody_depends_on_itself = refl

both_are_left : greatest crossed ≡ task 0 ∷ task 1 ∷ []
both_are_left = refl

least_stands_first : reported_cycle crossed ≡ task 0 ∷ task 1 ∷ []
least_stands_first = refl

it_is_a_cycle : is_cycle crossed (reported_cycle crossed) ≡ true
it_is_a_cycle = refl

half_of_it_is_none : is_cycle crossed (task 0 ∷ []) ≡ false
half_of_it_is_none = refl

no_task_is_none : is_cycle crossed [] ≡ false
no_task_is_none = refl

who_is_blocked : flat_map blocked_in crossed
    ≡ record { res = res 88; task = task 1; by = task 0 } ∷ record { res = res 89; task = task 0; by = task 1 } ∷ []
who_is_blocked = refl

-- the walk begins at the least of them, in whichever order the lists stand
abbrev turned : List Row
turned = queue 88 1 (e_of 1 ∷ e_of 0 ∷ []) ∷ queue 89 1 (e_of 0 ∷ e_of 1 ∷ []) ∷ []

greater_is_met_first : greatest turned ≡ task 1 ∷ task 0 ∷ []
greater_is_met_first = refl

least_still_stands_first : reported_cycle turned ≡ task 0 ∷ task 1 ∷ []
least_still_stands_first = refl

-- of several that keep a task away the first is told
first_of_two_is_told : blocked_in (queue 88 1 (e_of 2 ∷ e_of 1 ∷ e_of 0 ∷ []))
    ≡ record { res = res 88; task = task 1; by = task 2 } ∷ record { res = res 88; task = task 0; by = task 2 } ∷ []
first_of_two_is_told = refl

-- one task waits for the other alone
abbrev straight : List Row
straight = queue 88 1 (e_of 0 ∷ e_of 1 ∷ []) ∷ []

nobody_is_left : greatest straight ≡ []
nobody_is_left = refl

no_cycle : reported_cycle straight ≡ []
no_cycle = refl

-- who shares waits behind one that doesn't: not for the owner that shares before it, but for the one between
abbrev shared : List Row
shared = queue 88 1 (s_of 0 ∷ e_of 1 ∷ s_of 2 ∷ []) ∷ []

sharer_waits_for_the_exclusive : depends shared (task 2) (task 1) ≡ true
sharer_waits_for_the_exclusive = refl

sharer_doesnt_wait_for_a_sharer : depends shared (task 2) (task 0) ≡ false
sharer_doesnt_wait_for_a_sharer = refl

sharer_is_blocked_by_it : blocked_in (queue 88 1 (s_of 0 ∷ e_of 1 ∷ s_of 2 ∷ []))
    ≡ record { res = res 88; task = task 1; by = task 0 } ∷ record { res = res 88; task = task 2; by = task 1 } ∷ []
sharer_is_blocked_by_it = refl

-- owners that share don't wait, and who waits doesn't depend on those behind it
owners_dont_wait : (depends (queue 88 2 (s_of 0 ∷ s_of 1 ∷ e_of 2 ∷ []) ∷ []) (task 1) (task 0)) ≡ false
owners_dont_wait = refl

not_on_those_behind : (depends (queue 88 1 (e_of 0 ∷ e_of 1 ∷ e_of 2 ∷ []) ∷ []) (task 1) (task 2)) ≡ false
not_on_those_behind = refl

-- a walk that begins beside the cycle: the first task waits for the second, which is in a circle with the third
abbrev led_in : List Row
led_in =
    queue 88 1 (e_of 1 ∷ e_of 0 ∷ []) ∷ queue 89 1 (e_of 2 ∷ e_of 1 ∷ []) ∷ queue 90 1 (e_of 1 ∷ e_of 2 ∷ []) ∷ []

all_are_left : greatest led_in ≡ task 1 ∷ task 0 ∷ task 2 ∷ []
all_are_left = refl

the_first_isnt_in_it : reported_cycle led_in ≡ task 1 ∷ task 2 ∷ []
the_first_isnt_in_it = refl

-- a task behind the cycle goes on to the least of those on which it depends
abbrev two_ways : List Row
two_ways =
    queue 88 1 (e_of 3 ∷ e_of 2 ∷ e_of 0 ∷ []) ∷ queue 89 1 (e_of 0 ∷ e_of 2 ∷ [])
    ∷ queue 90 1 (e_of 0 ∷ e_of 3 ∷ []) ∷ []

the_lesser_way : reported_cycle two_ways ≡ task 0 ∷ task 2 ∷ []
the_lesser_way = refl

-- by system, then job, then task
by_system_first : is_less (task_at 0 2 3) (task_at 1 0 0) ≡ true
by_system_first = refl

not_by_task_first : is_less (task_at 1 0 0) (task_at 0 2 3) ≡ false
not_by_task_first = refl

then_by_job : is_less (task_at 1 1 5) (task_at 1 2 0) ≡ true
then_by_job = refl

not_before_itself : is_less (task_at 1 1 5) (task_at 1 1 5) ≡ false
not_before_itself = refl

abbrev two : Names
two = record {
  systems = codes "SYA" ∷ [];
  jobs = (codes "J1" ∷ []) ∷ [];
  tasks = (codes "T1" ∷ codes "T2" ∷ []) ∷ [];
}

text_of_the_rows : flat_map (row_lines two) crossed
    ≡ (codes "A SYSTEM(SYA,A,X) SYA.J1.T1:E* SYA.J1.T2:E" ++ 10 ∷ [])
    ++ (codes "W SYA.J1.T2 BLOCKED BY SYA.J1.T1" ++ 10 ∷ [])
    ++ (codes "A SYSTEM(SYA,A,Y) SYA.J1.T2:E* SYA.J1.T1:E" ++ 10 ∷ [])
    ++ (codes "W SYA.J1.T1 BLOCKED BY SYA.J1.T2" ++ 10 ∷ [])
unfolding row_line line res_word name_at names_word elem_word task_word task_in_job name_in wait_line
text_of_the_rows = refl

text_of_the_cycle : cycle_line two (reported_cycle crossed) ≡ codes "CYCLE SYA.J1.T1 SYA.J1.T2" ++ 10 ∷ []
unfolding line name_at task_word task_in_job name_in cycle_line
text_of_the_cycle = refl

text_of_none : cycle_line two [] ≡ codes "CYCLE NONE" ++ 10 ∷ []
unfolding line cycle_line
text_of_none = refl

whole_text : (deck : Deck) → analysis_text deck crossed
    ≡ (codes "ANALYZE 2" ++ 10 ∷ [])
    ++ flat_map (row_lines (names_of deck)) crossed
    ++ cycle_line (names_of deck) (task 0 ∷ task 1 ∷ [])
unfolding digits line analysis_text
whole_text deck = refl

pub text_of_no_list : (deck : Deck) → analysis_text deck []
    ≡ (codes "ANALYZE 0" ++ 10 ∷ []) ++ codes "CYCLE NONE" ++ 10 ∷ []
unfolding digits line cycle_line analysis_text
text_of_no_list deck = refl

nobody_waits : row_lines two (queue 88 1 (e_of 0 ∷ [])) ≡ []
nobody_waits = refl
