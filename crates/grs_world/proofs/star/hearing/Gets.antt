-- A task can get whatever the plain lists answer it.
use Rattle.grs_world.proofs.Common.{[], ◌++◌, ◌∷◌, ◌≡◌, answer_to, arith, Bool, C00, C04, C08, C14, Code, Deq, End, Enq}
use Rattle.grs_world.proofs.Common.{eq-eqb, false, List, list_of, Look, or_left, or_right, refl, Release, Ret}
use Rattle.grs_world.proofs.Common.{standing_of, State, TaskId, true, Wait, Want}
use Rattle.star_client.specs.Client.{can_get, deq_codes, enq_codes, is_code_of, same_code}
use Rattle.grs_base.specs.declared.decision.Code.TheVariants.{C18}
use Rattle.grs_base.specs.Lists.{can_have, deq_code, enq_decision}
use Rattle.grs_base.specs.declared.decision.Standing.{Standing}
use Rattle.grs_base.specs.declared.decision.Standing.TheVariants.{Exclusive, OnlyShared, AmongShared, Waits, Absent}
use Rattle.grs_world.proofs.star.Shown.{AreApart, can-show}

same-code : (c : Code) → same_code c c ≡ true
same-code C00 = refl
same-code C04 = refl
same-code C08 = refl
same-code C14 = refl
same-code C18 = refl
same-code Wait = refl
same-code (End n) = eq-eqb n n refl

in-codes : (c : Code) (xs ys : List Code) → is_code_of (xs ++ c ∷ ys) c ≡ true
in-codes c [] ys = or_left (same_code c c) (is_code_of ys c) (same-code c)
in-codes c (x ∷ xs) ys = or_right (same_code c x) (is_code_of (xs ++ c ∷ ys) c) (in-codes c xs ys)

gets-enq : (st : Standing) (ret : Ret) (full can : Bool)
    → is_code_of (enq_codes ret full) (enq_decision st ret full can).code ≡ true
gets-enq Exclusive ret full true =
    in-codes (enq_decision Exclusive ret full true).code [] ((enq_decision Exclusive ret full false).code
    ∷ (enq_decision OnlyShared ret full true).code ∷ (enq_decision OnlyShared ret full false).code
    ∷ (enq_decision AmongShared ret full true).code ∷ (enq_decision AmongShared ret full false).code
    ∷ (enq_decision Waits ret full true).code ∷ (enq_decision Waits ret full false).code
    ∷ (enq_decision Absent ret full true).code ∷ (enq_decision Absent ret full false).code ∷ [])
gets-enq Exclusive ret full false =
    in-codes (enq_decision Exclusive ret full false).code ((enq_decision Exclusive ret full true).code ∷ [])
    ((enq_decision OnlyShared ret full true).code ∷ (enq_decision OnlyShared ret full false).code
    ∷ (enq_decision AmongShared ret full true).code ∷ (enq_decision AmongShared ret full false).code
    ∷ (enq_decision Waits ret full true).code ∷ (enq_decision Waits ret full false).code
    ∷ (enq_decision Absent ret full true).code ∷ (enq_decision Absent ret full false).code ∷ [])
gets-enq OnlyShared ret full true =
    in-codes (enq_decision OnlyShared ret full true).code
    ((enq_decision Exclusive ret full true).code ∷ (enq_decision Exclusive ret full false).code ∷ [])
    ((enq_decision OnlyShared ret full false).code ∷ (enq_decision AmongShared ret full true).code
    ∷ (enq_decision AmongShared ret full false).code ∷ (enq_decision Waits ret full true).code
    ∷ (enq_decision Waits ret full false).code ∷ (enq_decision Absent ret full true).code
    ∷ (enq_decision Absent ret full false).code ∷ [])
gets-enq OnlyShared ret full false =
    in-codes (enq_decision OnlyShared ret full false).code ((enq_decision Exclusive ret full true).code
    ∷ (enq_decision Exclusive ret full false).code ∷ (enq_decision OnlyShared ret full true).code ∷ [])
    ((enq_decision AmongShared ret full true).code ∷ (enq_decision AmongShared ret full false).code
    ∷ (enq_decision Waits ret full true).code ∷ (enq_decision Waits ret full false).code
    ∷ (enq_decision Absent ret full true).code ∷ (enq_decision Absent ret full false).code ∷ [])
gets-enq AmongShared ret full true =
    in-codes (enq_decision AmongShared ret full true).code ((enq_decision Exclusive ret full true).code
    ∷ (enq_decision Exclusive ret full false).code ∷ (enq_decision OnlyShared ret full true).code
    ∷ (enq_decision OnlyShared ret full false).code ∷ [])
    ((enq_decision AmongShared ret full false).code ∷ (enq_decision Waits ret full true).code
    ∷ (enq_decision Waits ret full false).code ∷ (enq_decision Absent ret full true).code
    ∷ (enq_decision Absent ret full false).code ∷ [])
gets-enq AmongShared ret full false =
    in-codes (enq_decision AmongShared ret full false).code ((enq_decision Exclusive ret full true).code
    ∷ (enq_decision Exclusive ret full false).code ∷ (enq_decision OnlyShared ret full true).code
    ∷ (enq_decision OnlyShared ret full false).code ∷ (enq_decision AmongShared ret full true).code ∷ [])
    ((enq_decision Waits ret full true).code ∷ (enq_decision Waits ret full false).code
    ∷ (enq_decision Absent ret full true).code ∷ (enq_decision Absent ret full false).code ∷ [])
gets-enq Waits ret full true =
    in-codes (enq_decision Waits ret full true).code ((enq_decision Exclusive ret full true).code
    ∷ (enq_decision Exclusive ret full false).code ∷ (enq_decision OnlyShared ret full true).code
    ∷ (enq_decision OnlyShared ret full false).code ∷ (enq_decision AmongShared ret full true).code
    ∷ (enq_decision AmongShared ret full false).code ∷ [])
    ((enq_decision Waits ret full false).code ∷ (enq_decision Absent ret full true).code
    ∷ (enq_decision Absent ret full false).code ∷ [])
gets-enq Waits ret full false =
    in-codes (enq_decision Waits ret full false).code ((enq_decision Exclusive ret full true).code
    ∷ (enq_decision Exclusive ret full false).code ∷ (enq_decision OnlyShared ret full true).code
    ∷ (enq_decision OnlyShared ret full false).code ∷ (enq_decision AmongShared ret full true).code
    ∷ (enq_decision AmongShared ret full false).code ∷ (enq_decision Waits ret full true).code ∷ [])
    ((enq_decision Absent ret full true).code ∷ (enq_decision Absent ret full false).code ∷ [])
gets-enq Absent ret full true =
    in-codes (enq_decision Absent ret full true).code ((enq_decision Exclusive ret full true).code
    ∷ (enq_decision Exclusive ret full false).code ∷ (enq_decision OnlyShared ret full true).code
    ∷ (enq_decision OnlyShared ret full false).code ∷ (enq_decision AmongShared ret full true).code
    ∷ (enq_decision AmongShared ret full false).code ∷ (enq_decision Waits ret full true).code
    ∷ (enq_decision Waits ret full false).code ∷ [])
    ((enq_decision Absent ret full false).code ∷ [])
gets-enq Absent ret full false =
    in-codes (enq_decision Absent ret full false).code ((enq_decision Exclusive ret full true).code
    ∷ (enq_decision Exclusive ret full false).code ∷ (enq_decision OnlyShared ret full true).code
    ∷ (enq_decision OnlyShared ret full false).code ∷ (enq_decision AmongShared ret full true).code
    ∷ (enq_decision AmongShared ret full false).code ∷ (enq_decision Waits ret full true).code
    ∷ (enq_decision Waits ret full false).code ∷ (enq_decision Absent ret full true).code ∷ [])
    []

gets-deq : (st : Standing) (have : Bool) → is_code_of (deq_codes have) (deq_code st have) ≡ true
gets-deq st have = grind arith

pub gets : (s : State) → AreApart s → (t : TaskId) (w : Want) → can_get w (answer_to s t w) ≡ true
gets s apart t (Enq q c ret full) = gets-enq (standing_of (list_of s q) t) ret full (can_have (list_of s q) c)
gets s apart t (Deq q have) = gets-deq (standing_of (list_of s q) t) have
gets s apart t (Release q) = refl
gets s apart t (Look first count f) = can-show s apart first count f
