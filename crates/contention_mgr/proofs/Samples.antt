-- Worked entries, by which the definitions are checked: what requests are answered, and what is left, is what the rules
-- give by hand.
use Rattle.std.proofs.Common.{◌≡◌, ℕ, Bool, true, false, List, [], ◌∷◌, Option, Some, None, refl, codes}
use Rattle.std.specs.Option.{option_map}
use Rattle.grs_base.specs.declared.decision.Code.TheVariants.{C00, C04, Wait}
use Rattle.grs_base.specs.declared.look.Filter.TheVariants.{All}
use Rattle.grs_base.specs.declared.resource.Ctl.{Ctl}
use Rattle.grs_base.specs.declared.resource.Ctl.TheVariants.{E, S}
use Rattle.grs_base.specs.declared.resource.Elem.{Elem}
use Rattle.grs_base.specs.declared.resource.Res.{Res}
use Rattle.grs_base.specs.declared.resource.Res.TheVariants.{Step, System, Systems}
use Rattle.grs_base.specs.declared.resource.Ret.TheVariants.{RetNone, RetUse, RetChng, RetEcb}
use Rattle.grs_base.specs.declared.resource.TaskId.{TaskId}
use Rattle.grs_wire.specs.Wants.{answer_to, after_want}
use Rattle.grs_wire.specs.declared.request.Answer.{Answer}
use Rattle.grs_wire.specs.declared.request.Answer.TheVariants.{Coded}
use Rattle.grs_wire.specs.declared.request.Req.{Req}
use Rattle.grs_wire.specs.declared.request.Want.{Want}
use Rattle.grs_wire.specs.declared.request.Want.TheVariants.{Enq, Deq, Release, Look}
use Rattle.contention_mgr.specs.Manager.{Ranked, Managed, plain, no_elements, settled, rank_given, with_mark}
use Rattle.contention_mgr.specs.Manager.{first_untold, any_untold_in, owner_of, entry_wanted, managed_for, items_of}
use Rattle.contention_mgr.specs.Manager.{after_request, rank_for, ManagerView}
use Rattle.lock_structure.specs.Entries.{entry_of_res}
use Rattle.contention_mgr.specs.Loads.{loaded}
use Rattle.lock_structure.specs.RankedRows.{RankedRow, IsLoadable}
use Rattle.contention_mgr.specs.Laws.{UntoldOwn, untold_at, gains}

-- a task of a system, by its place
abbrev task : ℕ → ℕ → TaskId
task s n = record { system = record { 0 = s }; job = 0; task = n }

abbrev asks : ℕ → ℕ → Want → Req
asks s n w = record { task = task s n; want = w }

-- an element that is kept
abbrev kept : Res → ℕ → ℕ → Ctl → ℕ → Bool → Ranked
kept r s n c rank untold = record { res = r; elem = record { task = task s n; ctl = c }; rank = rank; untold = untold }

-- an entry after requests, at a manager of system 0
abbrev after : Managed → List Req → Managed
after m [] = m
after m (q ∷ qs) = after (settled 0 m q.task q.want) qs

-- what they are answered, with the ranks that they give
abbrev given : Managed → List Req → List (Answer × ℕ)
given m [] = []
given m (q ∷ qs) =
    (answer_to (plain m.items) q.task q.want, rank_given m q.task q.want) ∷ given (settled 0 m q.task q.want) qs

-- ---- two systems, each with a resource of its own under one entry
abbrev one : Res
one = Systems (codes "A") (codes "ONE")

abbrev two : Res
two = Systems (codes "A") (codes "TWO")

abbrev both : List Req
both =
    asks 0 0 (Enq one E RetNone false) ∷ asks 1 0 (Enq two E RetNone false) ∷ asks 0 0 (Deq one false)
    ∷ asks 1 0 (Deq two false) ∷ []

both_given : given no_elements both ≡ (Coded C00, 1) ∷ (Coded C00, 2) ∷ (Coded C00, 0) ∷ (Coded C00, 0) ∷ []
both_given = refl

both_after : after no_elements both ≡ record { next = 3; items = [] }
both_after = refl

-- ---- the entry of a resource: the hash of A and B is 16820, which is slice 52
abbrev ab : Res
ab = Systems (codes "A") (codes "B")

entry_of_ab : (entry_of_res 16 ab ≡ Some 4) × (entry_of_res 64 ab ≡ Some 52) × (entry_of_res 1 ab ≡ Some 0)
entry_of_ab = (refl, refl, refl)

-- a resource of one system has none
no_entry : (entry_of_res 16 (System (record { 0 = 0 }) (codes "A") (codes "B")) ≡ None)
    × (entry_of_res 1 (Step (record { 0 = 0 }) 0 (codes "A") (codes "B")) ≡ None)
no_entry = (refl, refl)

-- ---- a manager of two entries, of which it manages one: slice 52 is of entry 0
abbrev manages : Option Managed → Option Managed → ManagerView
manages first second = record { system = record { 0 = 0 }; entries = first ∷ second ∷ [] }

at_manager : after_request (manages (Some no_elements) None) (task 1 0) (Enq ab E RetNone false)
    ≡ manages (Some (record { next = 2; items = kept ab 1 0 E 1 false ∷ [] })) None
at_manager = refl

ranked_at_manager :
    rank_for (managed_for (manages (Some no_elements) None) (Enq ab E RetNone false)) (task 1 0)
    (Enq ab E RetNone false)
    ≡ 1
ranked_at_manager = refl

-- what is asked of an entry that it doesn't manage changes nothing
elsewhere :
    (after_request (manages None (Some no_elements)) (task 1 0) (Enq ab E RetNone false)
    ≡ manages None (Some no_elements))
    × (managed_for (manages None (Some no_elements)) (Enq ab E RetNone false) ≡ None)
    × (items_of (managed_for (manages None (Some no_elements)) (Enq ab E RetNone false)) ≡ [])
elsewhere = (refl, refl, refl)

-- ---- entries that are loaded
abbrev holds : ℕ → ℕ → Elem
holds s n = record { task = task s n; ctl = E }

abbrev ranked_row : Res → List Elem → List ℕ → RankedRow
ranked_row r es ns = (record { res = r; elems = es; owners = 1 }, ns)

abbrev two_rows : List RankedRow
two_rows = ranked_row ab (holds 0 0 ∷ holds 1 0 ∷ []) (2 ∷ 7 ∷ []) ∷ ranked_row one (holds 2 0 ∷ []) (5 ∷ []) ∷ []

-- row by row, each element told, and the next rank the greatest plus one
loads_rows : loaded two_rows
    ≡ record { next = 8; items = kept ab 0 0 E 2 false ∷ kept ab 1 0 E 7 false ∷ kept one 2 0 E 5 false ∷ [] }
loads_rows = refl

loads_nothing : loaded [] ≡ no_elements
loads_nothing = refl

loadable : IsLoadable 1 0 two_rows
loadable = record {
  of_entry = refl;
  once = refl;
  apart = refl;
  ranked = refl;
  rising = refl;
  distinct = refl;
  small = refl;
}

-- a row of another entry
refuses_entry : IsLoadable 16 5 (ranked_row ab (holds 0 0 ∷ []) (1 ∷ []) ∷ []) → ⊥
refuses_entry h = let never = h.of_entry in cc

-- two rows of one resource
refuses_second_row :
    IsLoadable 1 0 (ranked_row ab (holds 0 0 ∷ []) (1 ∷ []) ∷ ranked_row ab (holds 1 0 ∷ []) (2 ∷ []) ∷ [])
    → ⊥
refuses_second_row h = let never = h.once in cc

-- a task that stands twice in a row
refuses_twice : IsLoadable 1 0 (ranked_row ab (holds 0 0 ∷ holds 0 0 ∷ []) (1 ∷ 2 ∷ []) ∷ []) → ⊥
refuses_twice h = let never = h.apart in cc

-- an element without a rank
refuses_unranked : IsLoadable 1 0 (ranked_row ab (holds 0 0 ∷ holds 1 0 ∷ []) (1 ∷ []) ∷ []) → ⊥
refuses_unranked h = let never = h.ranked in cc

-- ranks that fall in a row
refuses_falling : IsLoadable 1 0 (ranked_row ab (holds 0 0 ∷ holds 1 0 ∷ []) (2 ∷ 1 ∷ []) ∷ []) → ⊥
refuses_falling h = let never = h.rising in cc

-- one rank in two rows
refuses_same_rank :
    IsLoadable 1 0 (ranked_row ab (holds 0 0 ∷ []) (1 ∷ []) ∷ ranked_row one (holds 1 0 ∷ []) (1 ∷ []) ∷ [])
    → ⊥
refuses_same_rank h = let never = h.distinct in cc

-- a rank past the last
refuses_late : IsLoadable 1 0 (ranked_row ab (holds 0 0 ∷ []) (144115188075855873 ∷ []) ∷ []) → ⊥
refuses_late h = let never = h.small in cc

-- ---- the entry of looks
abbrev looks_at : ℕ → ℕ → ℕ → Option ℕ
looks_at entries first count = entry_wanted entries (Look first count All)

-- one slice has the entry of that slice
one_slice : (looks_at 16 52 1 ≡ Some 4) × (looks_at 64 63 1 ≡ Some 63) × (looks_at 1 63 1 ≡ Some 0)
one_slice = (refl, refl, refl)

-- of one entry all slices are, of more than one no two that follow each other
more_slices : (looks_at 1 0 64 ≡ Some 0) × (looks_at 64 0 64 ≡ None) × (looks_at 2 0 2 ≡ None) × (looks_at 2 0 3 ≡ None)
more_slices = (refl, refl, refl, refl)

-- no slice, and slices that there aren't
no_slices : (looks_at 1 0 0 ≡ None) × (looks_at 1 64 1 ≡ None) × (looks_at 1 63 2 ≡ None) × (looks_at 16 64 1 ≡ None)
no_slices = (refl, refl, refl, refl)

-- ---- a list of three exclusive elements, of which the first gives up control and a fourth comes
abbrev pq : Res
pq = Systems (codes "P") (codes "Q")

abbrev three : Managed
three = record { next = 4; items = kept pq 0 0 E 1 false ∷ kept pq 2 0 E 2 false ∷ kept pq 1 0 E 3 false ∷ [] }

gives_up : after three (asks 0 0 (Deq pq false) ∷ [])
    ≡ record { next = 4; items = kept pq 2 0 E 2 true ∷ kept pq 1 0 E 3 false ∷ [] }
gives_up = refl

is_told_next : option_map owner_of (first_untold 0 (after three (asks 0 0 (Deq pq false) ∷ [])).items)
    ≡ Some (task 2 0, pq)
is_told_next = refl

is_told : with_mark false pq (task 2 0) (after three (asks 0 0 (Deq pq false) ∷ [])).items
    ≡ kept pq 2 0 E 2 false ∷ kept pq 1 0 E 3 false ∷ []
is_told = refl

comes_last : given (after three (asks 0 0 (Deq pq false) ∷ [])) (asks 2 1 (Enq pq S RetNone false) ∷ [])
    ≡ (Coded Wait, 4) ∷ []
comes_last = refl

-- ---- shared waiters of two systems get control at once, and an exclusive one waits on
abbrev waiters : List Req
waiters =
    asks 1 0 (Enq pq E RetNone false) ∷ asks 0 0 (Enq pq S RetNone false) ∷ asks 2 0 (Enq pq S RetEcb false)
    ∷ asks 1 1 (Enq pq E RetEcb false) ∷ asks 1 2 (Enq pq E RetUse false) ∷ []

waiters_given : given no_elements waiters
    ≡ (Coded C00, 1) ∷ (Coded Wait, 2) ∷ (Coded C04, 3) ∷ (Coded C04, 4) ∷ (Coded C04, 0) ∷ []
waiters_given = refl

-- the manager's own task is told by its system, the other's is still to be told; who is to be told doesn't change by a
-- later request
shared_get_control : after (after no_elements waiters) (asks 1 0 (Release pq) ∷ asks 1 3 (Enq pq S RetNone false) ∷ [])
    ≡ record {
      next = 6;
      items = kept pq 0 0 S 2 false ∷ kept pq 2 0 S 3 true ∷ kept pq 1 1 E 4 false ∷ kept pq 1 3 S 5 false ∷ [];
    }
shared_get_control = refl

-- an owner who is still to be told may change to exclusive control, and is to be told all the same; one who gives up
-- control isn't
still_to_be_told :
    (after (after no_elements waiters)
    (asks 1 0 (Release pq) ∷ asks 0 0 (Deq pq false) ∷ asks 2 0 (Enq pq E RetChng false) ∷ [])).items
    ≡ kept pq 2 0 E 3 true ∷ kept pq 1 1 E 4 false ∷ []
still_to_be_told = refl

left_untold : (after (after no_elements waiters) (asks 1 0 (Release pq) ∷ asks 2 0 (Deq pq false) ∷ [])).items
    ≡ kept pq 0 0 S 2 false ∷ kept pq 1 1 E 4 false ∷ []
left_untold = refl

-- ---- of two resources that which is shown first is told first, whenever control came
abbrev later : List Req
later =
    asks 1 0 (Enq two E RetNone false) ∷ asks 2 0 (Enq two E RetEcb false) ∷ asks 1 0 (Enq one E RetNone false)
    ∷ asks 2 1 (Enq one E RetEcb false) ∷ asks 1 0 (Release two) ∷ asks 1 0 (Release one) ∷ []

first_of_two : option_map owner_of (first_untold 0 (after no_elements later).items) ≡ Some (task 2 1, one)
first_of_two = refl

-- an owner of the system that asks isn't one of another system
none_of_others : first_untold 2 (after no_elements later).items ≡ None
none_of_others = refl

any_is_untold : any_untold_in 0 (after no_elements later).items ≡ true
any_is_untold = refl

-- ---- each who is still to be told owns, and is of another system than the manager's
untold_own : UntoldOwn 0 (after three (asks 0 0 (Deq pq false) ∷ []))
untold_own = record { own = refl; elsewhere = refl }

-- so not where it waits, nor where it is of the manager's own system
refuses_waiter : UntoldOwn 0 (record { next = 4; items = kept pq 2 0 E 2 false ∷ kept pq 1 0 E 3 true ∷ [] }) → ⊥
refuses_waiter h = let never = h.own in cc

refuses_own_system : UntoldOwn 0 (record { next = 2; items = kept pq 0 0 E 1 true ∷ [] }) → ⊥
refuses_own_system h = let never = h.elsewhere in cc

-- two tasks own where one gave up control; that of another system gained by it, and is still to be told
abbrev queued : Managed
queued = after no_elements waiters

abbrev freed : Managed
freed = after queued (asks 1 0 (Release pq) ∷ [])

abbrev gained : ℕ → ℕ → Bool
gained s n =
    gains 0 (plain queued.items) (after_want (plain queued.items) (task 1 0) (Release pq)) (task 1 0) pq (task s n)

gains_at_others : (gained 2 0 ≡ true) × (gained 0 0 ≡ false) × (gained 1 0 ≡ false) × (gained 1 1 ≡ false)
gains_at_others = (refl, refl, refl, refl)

untold_at_others : (untold_at freed.items pq (task 2 0) ≡ true) × (untold_at freed.items pq (task 0 0) ≡ false)
    × (untold_at freed.items pq (task 1 0) ≡ false) × (untold_at freed.items pq (task 1 1) ≡ false)
untold_at_others = (refl, refl, refl, refl)
