-- Records that are put into an entry, one after the other; and what the entry is then.
use Rattle.std.proofs.Common.{◌≡◌, ◌<◌, ◌+◌, ℕ, zero, suc, Bool, true, false, cond, not, ◌&&◌, ◌||◌, List, [], ◌∷◌}
use Rattle.std.proofs.Common.{◌++◌}
use Rattle.std.proofs.Common.{length, map, take, drop, get_or, Some, refl, ap, sym, ◌∙◌, subst, arith}
use Rattle.std.specs.Prelude.{◌==◌, nat_lt, max}
use Rattle.std.specs.List.{list_any, list_all}
use Rattle.std.proofs.lemmas.Bool.{and_parts}
use Rattle.std.proofs.lemmas.List.{map-append, take_more}
use Rattle.grs_base.specs.Lists.{has_task, owns, standing_of, deq_code, is_owner}
use Rattle.grs_base.specs.Same.{same_res, same_task}
use Rattle.grs_base.specs.State.{State, list_of}
use Rattle.grs_base.specs.declared.decision.Standing.{Standing}
use Rattle.grs_base.specs.declared.decision.Standing.TheVariants.{Exclusive, OnlyShared, AmongShared, Waits, Absent}
use Rattle.grs_base.specs.declared.resource.Elem.{Elem}
use Rattle.grs_base.specs.declared.resource.Res.{Res}
use Rattle.grs_base.specs.declared.resource.TaskId.{TaskId}
use Rattle.grs_base.proofs.ListLaws.{is_owner-standing}
use Rattle.grs_wire.specs.declared.gather.PartRec.{PartRec}
use Rattle.grs_wire.specs.declared.request.Answer.TheVariants.{Coded}
use Rattle.contention_mgr.specs.Elements.{holds}
use Rattle.contention_mgr.specs.Installs.{elem_of, lists_of, ranks_on, is_left, kept_of, installed, one_place}
use Rattle.contention_mgr.specs.Installs.{places_apart, IsInstallable}
use Rattle.contention_mgr.specs.InstallLaws.{InstalledLists, InstalledUntold, InstalledAreWellKept}
use Rattle.contention_mgr.specs.Laws.{IsRanked, UntoldOwn, by_rank, untold_pass, owns_by, is_elsewhere}
use Rattle.contention_mgr.specs.Loads.{greatest}
use Rattle.contention_mgr.specs.Manager.{Ranked, plain}
use Rattle.contention_mgr.specs.Marks.{ranked_all, is_gone, AreMarked}
use Rattle.contention_mgr.specs.declared.marks.Mark.{Mark}
use Rattle.lock_structure.specs.RankedRows.{rises}
use Rattle.contention_mgr.proofs.ItemLemmas.{Marking, holds-list, same_place, ranked-push, marked-push}
use Rattle.contention_mgr.proofs.LawProofs.{below-greatest}
use Rattle.contention_mgr.proofs.ManagerLaws.{with-well}

-- ---- only an owner's DEQ is answered 00
gone-standing : (st : Standing) → is_gone (Coded (deq_code st true)) ≡ is_owner st
gone-standing Exclusive = refl
gone-standing OnlyShared = refl
gone-standing AmongShared = refl
gone-standing Waits = refl
gone-standing Absent = refl

pub gone-deq : (es : List Elem) (t : TaskId) → is_gone (Coded (deq_code (standing_of es t) true)) ≡ owns es t
gone-deq es t = gone-standing (standing_of es t) ∙ is_owner-standing es t

-- ---- one record more
pub next-record : (recs : List PartRec) (i : ℕ) (y : PartRec) → i < length recs → y ≡ get_or recs i y
    → take (i + 1) recs ≡ take i recs ++ y ∷ []
next-record recs i y inside is =
    take_more recs i y inside ∙ ap (λ (z : PartRec). take i recs ++ z ∷ []) (sym is)

holds-lists : (recs : List PartRec) (y : PartRec)
    → holds (lists_of recs) y.res y.task ≡ list_any (one_place y) recs
holds-lists [] y = refl
holds-lists (x ∷ recs) y = ap (λ (b : Bool). one_place y x || b) (holds-lists recs y)

-- a test that no record passes
none-at : (p : PartRec → Bool) (recs : List PartRec) (i : ℕ) (d : PartRec) → list_any p recs ≡ false → i < length recs
    → p (get_or recs i d) ≡ false
none-at p [] i d none inside = absurd (omega (arith, inside))
none-at p (x ∷ recs) zero d none inside = grind (arith, none)
none-at p (x ∷ recs) (suc i) d none inside = none-at p recs i d (grind (arith, none)) (omega (arith, inside))

none-before : (recs : List PartRec) (i : ℕ) (d : PartRec) → places_apart recs ≡ true → i < length recs
    → list_any (one_place (get_or recs i d)) (take i recs) ≡ false
none-before [] i d apart inside = absurd (omega (arith, inside))
none-before (x ∷ recs) zero d apart inside = refl
none-before (x ∷ recs) (suc i) d apart inside =
    let y = get_or recs i d in
    let first : one_place x y ≡ false =
    none-at (one_place x) recs i d (grind (arith, apart)) (omega (arith, inside)) in
    let other : one_place y x ≡ false = same_place x.res y.res x.task y.task ∙ first in
    let rest : list_any (one_place y) (take i recs) ≡ false =
    none-before recs i d (grind (arith, apart)) (omega (arith, inside)) in
    grind (arith, other, rest)

-- the task of the next record has no element yet on its resource
pub absent-next : (recs : List PartRec) (i : ℕ) (y : PartRec) → i < length recs → y ≡ get_or recs i y
    → places_apart recs ≡ true → holds (lists_of (take i recs)) y.res y.task ≡ false
absent-next recs i y inside is apart =
    holds-lists (take i recs) y
    ∙ ap (λ (z : PartRec). list_any (one_place z) (take i recs)) is
    ∙ none-before recs i y apart inside

pub absent-list : (recs : List PartRec) (i : ℕ) (y : PartRec) (s : State) → i < length recs → y ≡ get_or recs i y
    → places_apart recs ≡ true → s ≡ lists_of (take i recs) → has_task (list_of s y.res) y.task ≡ false
absent-list recs i y s inside is apart at =
    sym (holds-list s y.res y.task)
    ∙ ap (λ (l : State). holds l y.res y.task) at
    ∙ absent-next recs i y inside is apart

lists-more : (recs : List PartRec) (i : ℕ) (y : PartRec) → i < length recs → y ≡ get_or recs i y
    → lists_of (take (i + 1) recs) ≡ lists_of (take i recs) ++ (y.res, elem_of y) ∷ []
lists-more recs i y inside is =
    ap lists_of (next-record recs i y inside is)
    ∙ map-append (λ (x : PartRec). (x.res, elem_of x)) (take i recs) (y ∷ [])

pub lists-next : (recs : List PartRec) (i : ℕ) (y : PartRec) (s after : State) → i < length recs → y ≡ get_or recs i y
    → after ≡ s ++ (y.res, elem_of y) ∷ [] → s ≡ lists_of (take i recs) → after ≡ lists_of (take (i + 1) recs)
lists-next recs i y s after inside is more at =
    more
    ∙ ap (λ (l : State). l ++ (y.res, elem_of y) ∷ []) at
    ∙ sym (lists-more recs i y inside is)

-- ---- one mark more
abbrev pub KeptFirst : Marking → ℕ → State → List PartRec → ℕ → Type 0
KeptFirst f s lists recs i =
    (ranked_all f (lists_of (take i recs)) ≡ map (kept_of s lists) (take i recs)) × AreMarked f (lists_of (take i recs))

pub marks-next : (f g : Marking) (s : ℕ) (lists : State) (recs : List PartRec) (i : ℕ) (y : PartRec) → i < length recs
    → y ≡ get_or recs i y → places_apart recs ≡ true
    → ((r : Res) (t : TaskId)
    → g r t
    ≡ cond (same_res y.res r && same_task y.task t) (Some (record { rank = y.rank; untold = is_left s lists y }))
    (f r t))
    → KeptFirst f s lists recs i → KeptFirst g s lists recs (i + 1)
marks-next f g s lists recs i y inside is apart change so = (
  ap (ranked_all g) (lists-more recs i y inside is)
      ∙ ranked-push f g y.res (elem_of y) (record { rank = y.rank; untold = is_left s lists y }) change
      (lists_of (take i recs)) (absent-next recs i y inside is apart)
      ∙ ap (λ (xs : List Ranked). xs ++ kept_of s lists y ∷ []) so.0
      ∙ sym (map-append (kept_of s lists) (take i recs) (y ∷ []))
      ∙ ap (map (kept_of s lists)) (sym (next-record recs i y inside is)),
  subst (AreMarked g) (sym (lists-more recs i y inside is))
      (marked-push f g y.res (elem_of y) (record { rank = y.rank; untold = is_left s lists y }) change
      (lists_of (take i recs)) so.1),
)

-- ---- the greatest rank
drop-next : (recs : List PartRec) (i : ℕ) (y : PartRec) → i < length recs → y ≡ get_or recs i y
    → drop i recs ≡ y ∷ drop (i + 1) recs
drop-next [] i y inside is = absurd (omega (arith, inside))
drop-next (x ∷ recs) zero y inside is = grind (arith, is)
drop-next (x ∷ recs) (suc i) y inside is = grind (arith, drop-next recs i y (omega (arith, inside)) is)

pub greatest-next : (recs : List PartRec) (i most next z : ℕ) (y : PartRec) → i < length recs → y ≡ get_or recs i y
    → next ≡ max most y.rank → greatest most (ranks_on (drop i recs)) ≡ z
    → greatest next (ranks_on (drop (i + 1) recs)) ≡ z
greatest-next recs i most next z y inside is more so =
    ap (λ (k : ℕ). greatest k (ranks_on (drop (i + 1) recs))) more
    ∙ sym (ap (λ (l : List PartRec). greatest most (ranks_on l)) (drop-next recs i y inside is))
    ∙ so

-- ---- what is kept of records
plain-kept : (s : ℕ) (lists : State) (recs : List PartRec) → plain (map (kept_of s lists) recs) ≡ lists_of recs
plain-kept s lists [] = refl
plain-kept s lists (y ∷ recs) = ap (λ (l : State). (y.res, elem_of y) ∷ l) (plain-kept s lists recs)

pub installed_lists : InstalledLists
installed_lists s recs = plain-kept s (lists_of recs) recs

untold-kept : (s : ℕ) (lists : State) (recs : List PartRec) (r : Res) (t : TaskId)
    → list_any (λ x. (same_res r x.res && same_task t x.elem.task) && x.untold) (map (kept_of s lists) recs)
    ≡ list_any (λ y. same_res r y.res && same_task t y.task && is_left s lists y) recs
untold-kept s lists [] r t = refl
untold-kept s lists (y ∷ recs) r t = grind (arith, untold-kept s lists recs r t)

pub installed_untold : InstalledUntold
installed_untold s recs r t = untold-kept s (lists_of recs) recs r t

-- ranks rise, and the next is above them
before-kept : (s : ℕ) (lists : State) (x : Ranked) (recs : List PartRec)
    → list_all (λ k. nat_lt x.rank k) (ranks_on recs) ≡ true
    → list_all (λ y. not (same_res x.res y.res) || nat_lt x.rank y.rank) (map (kept_of s lists) recs) ≡ true
before-kept s lists x [] h = refl
before-kept s lists x (y ∷ recs) h = grind (arith, h, before-kept s lists x recs)

by_rank-kept : (s : ℕ) (lists : State) (recs : List PartRec) → rises (ranks_on recs) ≡ true
    → by_rank (map (kept_of s lists) recs) ≡ true
by_rank-kept s lists [] h = refl
by_rank-kept s lists (y ∷ recs) h =
    grind (arith, h, before-kept s lists (kept_of s lists y) recs, by_rank-kept s lists recs)

below-kept : (s k : ℕ) (lists : State) (recs : List PartRec) → list_all (λ n. nat_lt n k) (ranks_on recs) ≡ true
    → list_all (λ x. nat_lt x.rank k) (map (kept_of s lists) recs) ≡ true
below-kept s k lists [] h = refl
below-kept s k lists (y ∷ recs) h = grind (arith, h, below-kept s k lists recs)

installed-ranked : (s : ℕ) (recs : List PartRec) → rises (ranks_on recs) ≡ true → IsRanked (installed s recs)
installed-ranked s recs h = record {
  rising = by_rank-kept s (lists_of recs) recs h;
  below =
      below-kept s (greatest 0 (ranks_on recs) + 1) (lists_of recs) recs
      (below-greatest 0 (greatest 0 (ranks_on recs) + 1) (ranks_on recs) (omega arith));
}

-- who is still to be told owns, and is of another system
first-of : (a b c : Bool) → (not (a && b && c) || b) ≡ true
first-of true true true = refl
first-of true true false = refl
first-of true false c = refl
first-of false b c = refl

last-of : (a b c : Bool) → (not (a && b && c) || c) ≡ true
last-of true true true = refl
last-of true true false = refl
last-of true false c = refl
last-of false b c = refl

own-kept : (s : ℕ) (lists : State) (recs : List PartRec)
    → untold_pass (owns_by lists) (map (kept_of s lists) recs) ≡ true
own-kept s lists [] = refl
own-kept s lists (y ∷ recs) =
    grind (
      arith,
      last-of (not y.told) (not (s == y.task.system.0)) (owns (list_of lists y.res) y.task),
      own-kept s lists recs,
    )

elsewhere-kept : (s : ℕ) (lists : State) (recs : List PartRec)
    → untold_pass (is_elsewhere s) (map (kept_of s lists) recs) ≡ true
elsewhere-kept s lists [] = refl
elsewhere-kept s lists (y ∷ recs) =
    grind (
      arith,
      first-of (not y.told) (not (s == y.task.system.0)) (owns (list_of lists y.res) y.task),
      elsewhere-kept s lists recs,
    )

installed-own : (s : ℕ) (recs : List PartRec) → UntoldOwn s (installed s recs)
installed-own s recs = record {
  own =
      subst (λ (l : State). untold_pass (owns_by l) (installed s recs).items ≡ true) (sym (installed_lists s recs))
      (own-kept s (lists_of recs) recs);
  elsewhere = elsewhere-kept s (lists_of recs) recs;
}

pub installed_are_well_kept : InstalledAreWellKept
installed_are_well_kept v e recs h all =
    with-well v e (installed v.system.0 recs) all (record {
      ranked = installed-ranked v.system.0 recs h.rising;
      untold = installed-own v.system.0 recs;
    })
