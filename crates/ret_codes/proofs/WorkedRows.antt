-- Worked rows of the tables of ENQ and DEQ: tasks t, u and v, with lists in order of arrival.
use Rattle.std.proofs.Common.{◌≡◌, ℕ, Bool, true, false, [], ◌∷◌, refl}
use Rattle.grs_base.specs.Lists.{owners, can_have, decided, decide_enq, deq_code, is_owner, standing_of}
use Rattle.grs_base.specs.declared.resource.TaskId.{TaskId}
use Rattle.grs_base.specs.declared.resource.Elem.{Elem}
use Rattle.grs_base.specs.declared.resource.Ctl.{Ctl}
use Rattle.grs_base.specs.declared.resource.Ctl.TheVariants.{E, S}
use Rattle.grs_base.specs.declared.resource.Ret.TheVariants.{RetNone, RetUse, RetHave, RetTest, RetChng, RetEcb}
use Rattle.grs_base.specs.declared.decision.Code.TheVariants.{C00, C04, C08, C14, C18, Wait, End}
use Rattle.grs_base.specs.declared.decision.Effect.TheVariants.{Nothing, Append, MakeExclusive}

abbrev task : ℕ → TaskId
task n = record { system = record { 0 = 0 }; job = 0; task = n }

abbrev t : TaskId
t = task 0

abbrev u : TaskId
u = task 1

abbrev v : TaskId
v = task 2

abbrev by : TaskId → Ctl → Elem
by who c = record { task = who; ctl = c }

-- a task that owns
owner_asks_again : (full : Bool) → decide_enq (by t E ∷ []) t E RetNone full ≡ decided (End 138) Nothing
owner_asks_again full = refl

owner_asks_if_free : (full : Bool) → decide_enq (by t E ∷ []) t S RetUse full ≡ decided C08 Nothing
owner_asks_if_free full = refl

owner_asks_with_ecb : (full : Bool) → decide_enq (by t S ∷ []) t S RetEcb full ≡ decided C08 Nothing
owner_asks_with_ecb full = refl

exclusive_owner_changes : (full : Bool) → decide_enq (by t E ∷ []) t S RetChng full ≡ decided C00 Nothing
exclusive_owner_changes full = refl

only_owner_changes : (full : Bool) → decide_enq (by t S ∷ []) t S RetChng full ≡ decided C00 MakeExclusive
only_owner_changes full = refl

waiters_hinder_no_change : (full : Bool)
    → decide_enq (by t S ∷ by u E ∷ []) t E RetChng full ≡ decided C00 MakeExclusive
waiters_hinder_no_change full = refl

owners_hinder_a_change : (full : Bool) → decide_enq (by t S ∷ by u S ∷ []) t E RetChng full ≡ decided C04 Nothing
owners_hinder_a_change full = refl

owners_in_front_hinder_a_change : (full : Bool)
    → decide_enq (by u S ∷ by t S ∷ by v E ∷ []) t E RetChng full ≡ decided C04 Nothing
owners_in_front_hinder_a_change full = refl

-- a task that waits
waiter_asks_again : (full : Bool) → decide_enq (by u E ∷ by t S ∷ []) t S RetNone full ≡ decided (End 138) Nothing
waiter_asks_again full = refl

waiter_has_asked : (full : Bool) → decide_enq (by u E ∷ by t S ∷ []) t S RetHave full ≡ decided C14 Nothing
waiter_has_asked full = refl

waiter_changes : (full : Bool) → decide_enq (by u E ∷ by t S ∷ []) t S RetChng full ≡ decided C14 Nothing
waiter_changes full = refl

-- a task that isn't there, and is full
absent_changes : decide_enq (by u E ∷ []) t E RetChng true ≡ decided C08 Nothing
absent_changes = refl

full_ends : decide_enq (by u E ∷ []) t E RetNone true ≡ decided (End 538) Nothing
full_ends = refl

full_is_told : decide_enq (by u E ∷ []) t E RetTest true ≡ decided C18 Nothing
full_is_told = refl

-- a task that isn't there
tests_an_empty_list : decide_enq [] t E RetTest false ≡ decided C00 Nothing
tests_an_empty_list = refl

tests_exclusively : decide_enq (by u S ∷ []) t E RetTest false ≡ decided C04 Nothing
tests_exclusively = refl

tests_past_a_waiter : decide_enq (by u S ∷ by v E ∷ []) t S RetTest false ≡ decided C04 Nothing
tests_past_a_waiter = refl

uses_what_is_shared : decide_enq (by u S ∷ []) t S RetUse false ≡ decided C00 Append
uses_what_is_shared = refl

uses_past_a_waiter : decide_enq (by u S ∷ by v E ∷ []) t S RetUse false ≡ decided C04 Nothing
uses_past_a_waiter = refl

waits_behind_a_waiter : decide_enq (by u S ∷ by v E ∷ []) t S RetNone false ≡ decided Wait Append
waits_behind_a_waiter = refl

shares : decide_enq (by u S ∷ []) t S RetHave false ≡ decided C00 Append
shares = refl

waits_with_ecb : decide_enq (by u E ∷ []) t E RetEcb false ≡ decided C04 Append
waits_with_ecb = refl

-- DEQ of an owner, of a waiter, and of a task that isn't there
owner_leaves : (have : Bool) → deq_code (standing_of (by u S ∷ by t S ∷ []) t) have ≡ C00
owner_leaves have = refl

waiter_stays : deq_code (standing_of (by u E ∷ by t S ∷ []) t) true ≡ C04
waiter_stays = refl

waiter_ends : deq_code (standing_of (by u E ∷ by t S ∷ []) t) false ≡ End 530
waiter_ends = refl

absent_is_told : deq_code (standing_of [] t) true ≡ C08
absent_is_told = refl

absent_ends : deq_code (standing_of [] t) false ≡ End 130
absent_ends = refl

waiter_is_no_owner : is_owner (standing_of (by u E ∷ by t S ∷ []) t) ≡ false
waiter_is_no_owner = refl

-- owners
none_own : owners [] ≡ 0
none_own = refl

one_owns : owners (by t E ∷ by u S ∷ by v S ∷ []) ≡ 1
one_owns = refl

two_own : owners (by t S ∷ by u S ∷ by v E ∷ by (task 3) S ∷ []) ≡ 2
two_own = refl

nobody_hinders : can_have [] E ≡ true
nobody_hinders = refl
