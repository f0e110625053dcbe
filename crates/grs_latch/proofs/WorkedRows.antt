-- Worked rows of latches: requestors 1 to 4, with lists in order of arrival.
use Rattle.std.proofs.Common.{◌≡◌, ℕ, Bool, true, false, List, [], ◌∷◌, refl, arith, ◌<◌}
use Rattle.grs_base.specs.Lists.{can_have, standing_of}
use Rattle.grs_base.specs.declared.resource.TaskId.{TaskId}
use Rattle.grs_base.specs.declared.resource.Elem.{Elem}
use Rattle.grs_base.specs.declared.resource.Ctl.{Ctl}
use Rattle.grs_base.specs.declared.resource.Ctl.TheVariants.{E, S}
use Rattle.std.specs.Prelude.{codes, replicate}
use Rattle.grs_latch.specs.declared.call.LatchCall.{LatchCall}
use Rattle.grs_latch.specs.declared.call.LatchCall.TheVariants.{Crt, Obt, Rel, Prg}
use Rattle.grs_latch.specs.declared.reply.Grant.{Grant}
use Rattle.grs_latch.specs.declared.reply.LatchReply.{LatchReply}
use Rattle.grs_latch.specs.declared.sets.NamedSet.{NamedSet}
use Rattle.grs_latch.specs.Calls.{Sets, MayCome, reply, replies, after_all, rows_of}
use Rattle.grs_latch.specs.Granted.{granted}
use Rattle.grs_latch.specs.Latches.{Lists, task_of, obtain_code, code_at, changed_at, obtained, release_code, released}
use Rattle.grs_latch.specs.Latches.{release_grants, purged, requests_of, purge_grants}

abbrev by : ℕ → Ctl → Elem
by r c = record { task = task_of r; ctl = c }

abbrev grant : ℕ → ℕ → Grant
grant n r = record { set = 0; latch = n; requestor = r }

abbrev asked : ℕ → Ctl → List Elem → ℕ
asked r c es = obtain_code (standing_of es (task_of r)) (can_have es c)

abbrev obtain : ℕ → ℕ → Ctl → Bool → Lists → Lists
obtain n r c may_wait ls = changed_at (λ es. obtained es (task_of r) c may_wait) n ls

abbrev release : ℕ → ℕ → Lists → Lists
release n r ls = changed_at (λ es. released es (task_of r)) n ls

-- a set of two latches, from its making to a purge
abbrev made : Lists
made = [] ∷ [] ∷ []

abbrev owned : Lists
owned = obtain 0 1 E true made

abbrev waited : Lists
waited = obtain 0 2 S true owned

abbrev full : Lists
full = obtain 1 1 S true waited

pub first_is_granted : code_at (asked 1 E) 0 made ≡ 0
first_is_granted = refl

second_waits : code_at (asked 2 S) 0 owned ≡ 4
second_waits = refl

conditional_is_refused : code_at (asked 3 S) 0 waited ≡ 4
conditional_is_refused = refl

conditional_is_not_queued : obtain 0 3 S false waited ≡ waited
conditional_is_not_queued = refl

other_latch_is_free : code_at (asked 1 S) 1 waited ≡ 0
other_latch_is_free = refl

lists_before_purge : full ≡ (by 1 E ∷ by 2 S ∷ []) ∷ (by 1 S ∷ []) ∷ []
lists_before_purge = refl

purge_takes_both : requests_of full (task_of 1) ≡ 2
purge_takes_both = refl

purge_grants_the_waiter : purge_grants 0 0 full (task_of 1) ≡ grant 0 2 ∷ []
purge_grants_the_waiter = refl

lists_after_purge : purged full (task_of 1) ≡ (by 2 S ∷ []) ∷ [] ∷ []
lists_after_purge = refl

purge_goes_on_past_the_first :
    purge_grants 0 0 ((by 1 E ∷ by 2 E ∷ []) ∷ [] ∷ (by 1 E ∷ by 3 S ∷ by 4 S ∷ []) ∷ []) (task_of 1)
    ≡ grant 0 2 ∷ grant 2 3 ∷ grant 2 4 ∷ []
purge_goes_on_past_the_first = refl

nothing_to_purge : requests_of full (task_of 3) ≡ 0
nothing_to_purge = refl

-- no such latch
no_latch : code_at (asked 1 E) 2 made ≡ 12
no_latch = refl

no_latch_changes_nothing : obtain 2 1 E true made ≡ made
no_latch_changes_nothing = refl

-- who owns, and who waits
owner_asks_again : code_at (asked 1 S) 0 waited ≡ 8
owner_asks_again = refl

waiter_asks_again : code_at (asked 2 S) 0 waited ≡ 20
waiter_asks_again = refl

asking_again_changes_nothing : obtain 0 2 S true waited ≡ waited
asking_again_changes_nothing = refl

-- a shared obtain behind an exclusive waiter
shared_past_a_waiter : code_at (asked 3 S) 0 ((by 1 S ∷ by 2 E ∷ []) ∷ []) ≡ 4
shared_past_a_waiter = refl

-- releases
waiter_stays : release 0 2 waited ≡ waited
waiter_stays = refl

owner_gives_it_up : release 0 1 waited ≡ (by 2 S ∷ []) ∷ [] ∷ []
owner_gives_it_up = refl

next_gets_it : release_grants 0 0 0 waited (task_of 1) ≡ grant 0 2 ∷ []
next_gets_it = refl

shared_wait_for_all : release_grants 0 0 0 ((by 1 S ∷ by 2 S ∷ by 3 E ∷ []) ∷ []) (task_of 1) ≡ []
shared_wait_for_all = refl

waiter_gets_none : release_grants 0 0 0 waited (task_of 2) ≡ []
waiter_gets_none = refl

waiter_leaves_and_lets_pass : purge_grants 0 0 ((by 1 S ∷ by 2 E ∷ by 3 S ∷ []) ∷ []) (task_of 2) ≡ grant 0 3 ∷ []
waiter_leaves_and_lets_pass = refl

-- a set by its name, from its making to a purge
abbrev of_set : List ℕ → Lists → NamedSet
of_set n ls = record { name = n; latches = ls }

abbrev seta : List ℕ
seta = codes "SETA"

abbrev calls : List LatchCall
calls =
    Crt seta 2
    ∷ Obt seta 0 1 E true
    ∷ Obt seta 0 2 S true
    ∷ Obt seta 0 3 S false
    ∷ Obt seta 1 1 S true
    ∷ Prg seta 1
    ∷ []

abbrev coded : ℕ → LatchReply
coded code = record { code = code; taken = 0; grants = [] }

calls_are_answered :
    replies calls []
    ≡ coded 0 ∷ coded 0 ∷ coded 4 ∷ coded 4 ∷ coded 0 ∷ record { code = 0; taken = 2; grants = grant 0 2 ∷ [] } ∷ []
calls_are_answered = refl

waiter_is_left : after_all calls [] ≡ of_set seta ((by 2 S ∷ []) ∷ [] ∷ []) ∷ []
waiter_is_left = refl

one_row_is_left : rows_of 0 (after_all calls []) ≡ record { set = 0; latch = 0; elems = (2, S) ∷ []; owners = 1 } ∷ []
one_row_is_left = refl

no_set : replies (Rel (codes "SETB") 0 1 ∷ []) [] ≡ coded 12 ∷ []
no_set = refl

set_is_there_already : replies (Crt seta 2 ∷ Crt seta 5 ∷ []) [] ≡ coded 0 ∷ coded 4 ∷ []
set_is_there_already = refl

it_stays : after_all (Crt seta 2 ∷ Crt seta 5 ∷ []) [] ≡ of_set seta ([] ∷ [] ∷ []) ∷ []
it_stays = refl

second_set_has_place_1 :
    reply 0 (Prg (codes "B") 1) (of_set seta [] ∷ of_set (codes "B") ((by 1 E ∷ by 2 E ∷ []) ∷ []) ∷ [])
    ≡ record { code = 0; taken = 1; grants = record { set = 1; latch = 0; requestor = 2 } ∷ [] }
second_set_has_place_1 = refl

nothing_purged : reply 0 (Prg seta 9) (of_set seta ((by 1 E ∷ []) ∷ []) ∷ []) ≡ coded 4
nothing_purged = refl

-- those who waited and own now
who_waited_owns :
    granted (by 1 E ∷ by 2 S ∷ by 3 S ∷ by 4 E ∷ []) (by 2 S ∷ by 3 S ∷ by 4 E ∷ [])
    ≡ task_of 2 ∷ task_of 3 ∷ []
who_waited_owns = refl

free_latch_is_no_grant : granted [] (by 1 E ∷ []) ≡ []
free_latch_is_no_grant = refl

owner_before_is_no_grant : granted (by 1 S ∷ by 2 S ∷ by 3 E ∷ []) (by 2 S ∷ by 3 E ∷ []) ≡ []
owner_before_is_no_grant = refl

-- room for a set is asked for where none has its name
abbrev all_sets : Sets
all_sets = replicate 64 (of_set seta [])

name_that_is_there : MayCome (Crt seta 2) all_sets
name_that_is_there = λ new. let e : true ≡ false = new in absurd (cc)

name_that_is_new : MayCome (Crt (codes "B") 2) all_sets → ⊥
name_that_is_new may = let few : 64 < 64 = (may refl).2 in absurd (omega (arith, few))
