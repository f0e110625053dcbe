-- What is noticed of contention along a history.
use Rattle.std.specs.Prelude.{ℕ, suc, Bool, true, false, ◌-◌, nat_lt, ◌==◌, List, [], ◌∷◌, ◌++◌, length, map, filter, take}
use Rattle.std.specs.Prelude.{if◌then◌else◌}
use Rattle.std.specs.List.{flat_map}
use Rattle.grs_base.specs.Lists.{owners}
use Rattle.grs_base.specs.State.{State, list_of, is_systems}
use Rattle.grs_base.specs.Rows.{lists_of}
use Rattle.grs_base.specs.declared.resource.Elem.{Elem}
use Rattle.grs_base.specs.declared.resource.Res.{Res}
use Rattle.grs_base.specs.declared.resource.Ret.{Ret}
use Rattle.grs_base.specs.declared.resource.Ret.TheVariants.{RetChng, RetEcb}
use Rattle.grs_base.specs.declared.decision.Code.{Code}
use Rattle.grs_base.specs.declared.decision.Code.TheVariants.{C00, C04, C08, C14, C18, Wait, End}
use Rattle.grs_wire.specs.History.{step}
use Rattle.grs_wire.specs.Wants.{after_want}
use Rattle.grs_wire.specs.declared.history.HistEntry.{HistEntry}
use Rattle.grs_wire.specs.declared.history.HistEntry.TheVariants.{Enq, Deq, Release, Look, Remove}
use Rattle.grs_wire.specs.declared.request.Want.TheVariants as wants
use Rattle.grs_enf.specs.declared.notice.Notice.{Notice}
use Rattle.grs_enf.specs.declared.notice.Noted.{Noted}
use Rattle.grs_enf.specs.declared.notice.What.{What}
use Rattle.grs_enf.specs.declared.notice.What.TheVariants.{Begin, Change, End as Ends}
use Rattle.grs_enf.specs.Same.{same_elems}

-- whether somebody waits
abbrev pub is_contended : List Elem → Bool
is_contended es = nat_lt (owners es) (length es)

-- what is noticed where a list changes, by whether somebody waited before, and whether somebody does after it
abbrev pub what_of : Bool → Bool → List What
what_of false false = []
what_of false true = Begin ∷ []
what_of true true = Change ∷ []
what_of true false = Ends ∷ []

-- what is noticed of a resource by its list before and after; of a list that didn't change nothing
abbrev pub whats : List Elem → List Elem → List What
whats before after = if same_elems before after then [] else what_of (is_contended before) (is_contended after)

-- the same with the resource, and how many own and wait afterwards
abbrev pub notices_at : Res → List Elem → List Elem → List Notice
notices_at r before after =
    map (λ w. record { what = w; res = r; owners = owners after; waiters = length after - owners after })
    (whats before after)

-- what is noticed of a resource whose list got its last element just now
abbrev pub last_noticed : Res → List Elem → List Notice
last_noticed r after = notices_at r (take (length after - 1) after) after

-- The resources whose lists an entry may change, in the order in which they are shown: a request that of its own, a
-- removal those of the Systems resources that have elements, a look none.
abbrev pub resources_of : State → HistEntry → List Res
resources_of s (Enq t r c ret code) = r ∷ []
resources_of s (Deq t r have code) = r ∷ []
resources_of s (Release t r) = r ∷ []
resources_of s (Look t place f rows) = []
resources_of s (Remove by target) = filter is_systems (map (λ e. e.0) (lists_of s))

-- what is noticed of lists that become others, of these resources
abbrev pub notices_among : State → State → List Res → List Notice
notices_among before after rs = flat_map (λ r. notices_at r (list_of before r) (list_of after r)) rs

-- under the number of their entry
abbrev pub noted : ℕ → List Notice → List Noted
noted n ns = map (λ notice. record { entry = n; notice = notice }) ns

-- the notices of entries by lists that change so, the first entry under this number
abbrev pub notices_by : (State → HistEntry → State) → State → ℕ → List HistEntry → List Noted
notices_by change s n [] = []
notices_by change s n (h ∷ hs) =
    noted n (notices_among s (change s h) (resources_of s h)) ++ notices_by change (change s h) (suc n) hs

-- The notices of a history, by the lists through which it leads: entry by entry, and for each in the order in which
-- resources are shown.
abbrev pub notices : ℕ → List HistEntry → List Noted
notices limit hs = notices_by (step limit) [] 1 hs

-- whether a code tells that the task had as many elements as it may
abbrev pub is_full_code : Code → Bool
is_full_code C00 = false
is_full_code C04 = false
is_full_code C08 = false
is_full_code C14 = false
is_full_code C18 = true
is_full_code Wait = false
is_full_code (End n) = n == 538

-- the lists after an entry, where its code tells whether its task had as many elements as it may
abbrev pub told_step : State → HistEntry → State
told_step s (Enq t r c ret code) = after_want s t (wants.Enq r c ret (is_full_code code))
told_step s (Deq t r have code) = after_want s t (wants.Deq r have)
told_step s (Release t r) = after_want s t (wants.Release r)
told_step s (Look t place f rows) = s
told_step s (Remove by target) = step 0 s (Remove by target)

-- the same notices by the codes of the history alone
abbrev pub told_notices : List HistEntry → List Noted
told_notices hs = notices_by told_step [] 1 hs

abbrev pub is_ecb : Ret → Bool
is_ecb RetEcb = true
is_ecb _ = false

-- whether an ENQ of this kind changes control that its task has (RET=CHNG)
abbrev pub changes_control : Ret → Bool
changes_control RetChng = true
changes_control _ = false

-- whether an ENQ of this kind that is answered so leaves an element that waits
abbrev pub is_left_waiting : Ret → Code → Bool
is_left_waiting ret C00 = false
is_left_waiting ret C04 = is_ecb ret
is_left_waiting ret C08 = false
is_left_waiting ret C14 = false
is_left_waiting ret C18 = false
is_left_waiting ret Wait = true
is_left_waiting ret (End n) = false
