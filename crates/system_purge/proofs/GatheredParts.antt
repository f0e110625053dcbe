-- The records that are kept of parts count in their entries, whatever becomes of what is gathered.
use Rattle.std.proofs.Common.{◌≡◌, ℕ, zero, suc, ◌+◌, Bool, true, false, cond, not, ◌&&◌, ◌==◌, List, [], ◌∷◌, ◌++◌}
use Rattle.std.proofs.Common.{map, Option, Some, None, replicate, length, refl, ap, ◌∙◌, subst, arith, filter, get_or}
use Rattle.std.proofs.Common.{set}
use Rattle.std.proofs.lemmas.Bool.{and_parts}
use Rattle.std.proofs.lemmas.List.Edits.{map_over_more}
use Rattle.std.specs.Prelude.{take, drop, ◌<◌, slice_set, nat_lt, nat_le}
use Rattle.std.specs.List.{list_all, list_any, flat_map}
use Rattle.std.specs.Option.{option_map}
use Rattle.grs_base.specs.Limits.{last_number}
use Rattle.grs_base.specs.declared.resource.SysId.{SysId}
use Rattle.grs_base.specs.declared.resource.TaskId.{TaskId}
use Rattle.grs_wire.specs.declared.gather.PartRec.{PartRec}
use Rattle.grs_wire.specs.Masks.{has, without}
use Rattle.lock_structure.specs.Entries.{entry_of_res, is_entry}
use Rattle.system_purge.specs.Gather.{is_of_part, clash, with_counting, counting_behind, counting, all_of, placed}
use Rattle.system_purge.specs.Gather.{by_rank, gathered, records_of, part_of}
use Rattle.system_purge.specs.Gathers.{GathersView, gathering_at, with_part, without_sender, behind_loss, parts_in}
use Rattle.system_purge.specs.Gathers.{keeps_right, keep_right_from}
use Rattle.system_purge.specs.declared.gathers.Gathering.{Gathering}
use Rattle.system_purge.specs.declared.gathers.SentPart.{SentPart}
use Rattle.task_state.specs.View.{TasksView}

both : (a b : Bool) → a ≡ true → b ≡ true → (a && b) ≡ true
both true true e f = refl
both true false e f = absurd cc
both false b e f = absurd cc

pub all-filter : (test : PartRec → Bool) (xs : List PartRec) → list_all test (filter test xs) ≡ true
all-filter test [] = refl
all-filter test (x ∷ xs) = go (test x) refl (all-filter test xs)
  where
    go : (b : Bool) → test x ≡ b → list_all test (filter test xs) ≡ true
        → list_all test (cond b (x ∷ filter test xs) (filter test xs)) ≡ true
    go true is rest = both _ _ is rest
    go false is rest = rest

pub all-more : {X : Type 0} (test : X → Bool) (xs : List X) (x : X) → list_all test xs ≡ true → test x ≡ true
    → list_all test (xs ++ x ∷ []) ≡ true
all-more test [] x h new = both _ _ new refl
all-more test (y ∷ ys) x h new =
    let parts = and_parts (test y) (list_all test ys) h in both _ _ parts.0 (all-more test ys x parts.1 new)

pub all-left : {X : Type 0} (test keep : X → Bool) (xs : List X) → list_all test xs ≡ true
    → list_all test (filter keep xs) ≡ true
all-left test keep [] h = refl
all-left test keep (x ∷ xs) h =
    let parts = and_parts (test x) (list_all test xs) h in go (keep x) parts.0 (all-left test keep xs parts.1)
  where
    go : (b : Bool) → test x ≡ true → list_all test (filter keep xs) ≡ true
        → list_all test (cond b (x ∷ filter keep xs) (filter keep xs)) ≡ true
    go true first rest = both _ _ first rest
    go false first rest = rest

-- ---- entry by entry
pub none-right : (n e k : ℕ) → keep_right_from n e (replicate k None) ≡ true
none-right n e zero = refl
none-right n e (suc k) = none-right n (suc e) k

pub set-right : (n e i : ℕ) (gs : GathersView) (o : Option Gathering) → keep_right_from n e gs ≡ true
    → keeps_right n (e + i) o ≡ true → keep_right_from n e (slice_set gs i o) ≡ true
set-right n e i [] o h new = refl
set-right n e zero (x ∷ gs) o h new =
    both _ _ (subst (λ (k : ℕ). keeps_right n k o ≡ true) (omega arith) new)
    (and_parts (keeps_right n e x) (keep_right_from n (suc e) gs) h).1
set-right n e (suc i) (x ∷ gs) o h new =
    let parts = and_parts (keeps_right n e x) (keep_right_from n (suc e) gs) h in
    both _ _ parts.0
    (set-right n (suc e) i gs o parts.1 (subst (λ (k : ℕ). keeps_right n k o ≡ true) (omega arith) new))

pub get-right : (n e i : ℕ) (gs : GathersView) → keep_right_from n e gs ≡ true
    → keeps_right n (e + i) (gathering_at gs i) ≡ true
get-right n e i [] h = refl
get-right n e zero (x ∷ gs) h =
    subst (λ (k : ℕ). keeps_right n k x ≡ true) (omega arith)
    (and_parts (keeps_right n e x) (keep_right_from n (suc e) gs) h).0
get-right n e (suc i) (x ∷ gs) h =
    subst (λ (k : ℕ). keeps_right n k (gathering_at gs i) ≡ true) (omega arith)
    (get-right n (suc e) i gs (and_parts (keeps_right n e x) (keep_right_from n (suc e) gs) h).1)

lost-right : (n e : ℕ) (s : SysId) (o : Option Gathering) → keeps_right n e o ≡ true
    → keeps_right n e (option_map (without_sender s) o) ≡ true
lost-right n e s None h = refl
lost-right n e s (Some g) h =
    all-left (λ p. list_all (is_of_part n e p.from) p.records) (λ p. not (p.from.0 == s.0)) g.parts h

pub all-lost-right : (n e : ℕ) (s : SysId) (gs : GathersView) → keep_right_from n e gs ≡ true
    → keep_right_from n e (behind_loss gs s) ≡ true
all-lost-right n e s [] h = refl
all-lost-right n e s (o ∷ gs) h =
    let parts = and_parts (keeps_right n e o) (keep_right_from n (suc e) gs) h in
    both _ _ (lost-right n e s o parts.0) (all-lost-right n (suc e) s gs parts.1)

pub part-right : (n e : ℕ) (s : SysId) (recs : List PartRec) (g : Gathering) → keeps_right n e (Some g) ≡ true
    → keeps_right n e (Some (with_part n e s recs g)) ≡ true
part-right n e s recs g h = go (has g.awaits s.0)
  where
    new : SentPart
    new = record { from = s; records = filter (is_of_part n e s) recs }

    go : (b : Bool)
        → keeps_right n e (Some (cond b (record { awaits = without g.awaits s.0; parts = g.parts ++ new ∷ [] }) g))
        ≡ true
    go true =
        all-more (λ p. list_all (is_of_part n e p.from) p.records) g.parts new h (all-filter (is_of_part n e s) recs)
    go false = h

pub lost-more : (s : SysId) (xs ys : GathersView) (i : ℕ) (x z : Option Gathering) → i < length xs
    → ys ≡ map (option_map (without_sender s)) (take i xs) ++ drop i xs → x ≡ get_or ys i x
    → z ≡ option_map (without_sender s) x
    → set ys i z ≡ map (option_map (without_sender s)) (take (i + 1) xs) ++ drop (i + 1) xs
lost-more s xs ys i x z inside before is step =
    ap (set ys i) step ∙ map_over_more (option_map (without_sender s)) xs ys i x inside before is

-- ---- what is gathered
pub all-weaker : {X : Type 0} (a b : X → Bool) (xs : List X) → ((x : X) → a x ≡ true → b x ≡ true)
    → list_all a xs ≡ true → list_all b xs ≡ true
all-weaker a b [] more h = refl
all-weaker a b (x ∷ xs) more h =
    let parts = and_parts (a x) (list_all a xs) h in both _ _ (more x parts.0) (all-weaker a b xs more parts.1)

pub all-joined : {X : Type 0} (test : X → Bool) (xs ys : List X) → list_all test xs ≡ true → list_all test ys ≡ true
    → list_all test (xs ++ ys) ≡ true
all-joined test [] ys h k = k
all-joined test (x ∷ xs) ys h k =
    let parts = and_parts (test x) (list_all test xs) h in both _ _ parts.0 (all-joined test xs ys parts.1 k)

all-placed : (test : PartRec → Bool) (r : PartRec) (xs : List PartRec) → test r ≡ true → list_all test xs ≡ true
    → list_all test (placed r xs) ≡ true
all-placed test r [] h k = both _ _ h refl
all-placed test r (x ∷ xs) h k =
    let parts = and_parts (test x) (list_all test xs) k in
    go (nat_lt r.rank x.rank) parts.0 (all-placed test r xs h parts.1)
  where
    go : (b : Bool) → test x ≡ true → list_all test (placed r xs) ≡ true
        → list_all test (cond b (r ∷ (x ∷ xs)) (x ∷ placed r xs)) ≡ true
    go true first rest = both _ _ h k
    go false first rest = both _ _ first rest

all-by-rank : (test : PartRec → Bool) (xs : List PartRec) → list_all test xs ≡ true → list_all test (by_rank xs) ≡ true
all-by-rank test [] h = refl
all-by-rank test (x ∷ xs) h =
    let parts = and_parts (test x) (list_all test xs) h in
    all-placed test x (by_rank xs) parts.0 (all-by-rank test xs parts.1)

all-counting : (test : PartRec → Bool) (recs rs : List PartRec) → list_all test recs ≡ true → list_all test rs ≡ true
    → list_all test (counting_behind recs rs) ≡ true
all-counting test recs [] h k = h
all-counting test recs (r ∷ rs) h k = all-counting test (with_counting recs r) rs (go (list_any (clash r) recs)) parts.1
  where
    parts : (test r ≡ true) × (list_all test rs ≡ true)
    parts = and_parts (test r) (list_all test rs) k

    go : (b : Bool) → list_all test (cond b recs (recs ++ r ∷ [])) ≡ true
    go true = h
    go false = all-more test recs r h parts.0

-- what a test of each part says of the records of all
all-parts : (n e : ℕ) (test : PartRec → Bool) → ((s : SysId) (r : PartRec) → is_of_part n e s r ≡ true → test r ≡ true)
    → (ps : List SentPart) → list_all (λ p. list_all (is_of_part n e p.from) p.records) ps ≡ true
    → list_all test (flat_map (λ part. part) (map (λ p. p.records) ps)) ≡ true
all-parts n e test more [] h = refl
all-parts n e test more (p ∷ ps) h =
    let parts = and_parts (list_all (is_of_part n e p.from) p.records)
    (list_all (λ q. list_all (is_of_part n e q.from) q.records) ps) h in
    all-joined test p.records (flat_map (λ part. part) (map (λ q. q.records) ps))
    (all-weaker (is_of_part n e p.from) test p.records (more p.from) parts.0) (all-parts n e test more ps parts.1)

pub all-gathered : (test : PartRec → Bool) (own : List PartRec) (parts : List (List PartRec)) → list_all test own ≡ true
    → list_all test (flat_map (λ part. part) parts) ≡ true → list_all test (gathered own parts) ≡ true
all-gathered test own parts mine theirs =
    all-by-rank test (counting (all_of own parts))
    (all-counting test [] (all_of own parts) refl (all-joined test own (flat_map (λ part. part) parts) mine theirs))

-- the records of a system's own part count
pub own-counts : (n e : ℕ) (names : List TaskId) (v : TasksView)
    → list_all (is_of_part n e (record { 0 = v.system })) (part_of n e names v) ≡ true
own-counts n e names v = all-filter (is_of_part n e (record { 0 = v.system })) (records_of names v.tasks)

-- what a test says of each record that counts it says of all that are gathered
counted : (n e : ℕ) (names : List TaskId) (v : TasksView) (o : Option Gathering) (test : PartRec → Bool)
    → ((s : SysId) (r : PartRec) → is_of_part n e s r ≡ true → test r ≡ true) → keeps_right n e o ≡ true
    → list_all test (gathered (part_of n e names v) (parts_in o)) ≡ true
counted n e names v o test more h =
    all-gathered test (part_of n e names v) (parts_in o)
    (all-weaker (is_of_part n e home) test (part_of n e names v) (more home) (own-counts n e names v)) (theirs o h)
  where
    home : SysId
    home = record { 0 = v.system }

    theirs : (x : Option Gathering) → keeps_right n e x ≡ true
        → list_all test (flat_map (λ part. part) (parts_in x)) ≡ true
    theirs None k = refl
    theirs (Some g) k = all-parts n e test more g.parts k

-- each record that is gathered is of a resource of the entry, and has a rank that there can be
module _ (n e : ℕ) (s : SysId) (r : PartRec) (k : is_of_part n e s r ≡ true) where
  both-first : ((is_entry e (entry_of_res n r.res) && (r.task.system.0 == s.0)) ≡ true)
      × (nat_le r.rank last_number ≡ true)
  both-first = and_parts (is_entry e (entry_of_res n r.res) && (r.task.system.0 == s.0)) (nat_le r.rank last_number) k

  counts-of-entry : is_entry e (entry_of_res n r.res) ≡ true
  counts-of-entry = (and_parts (is_entry e (entry_of_res n r.res)) (r.task.system.0 == s.0) both-first.0).0

pub gathered-of-entry : (n e : ℕ) (names : List TaskId) (v : TasksView) (o : Option Gathering)
    → keeps_right n e o ≡ true
    → list_all (λ y. is_entry e (entry_of_res n y.res)) (gathered (part_of n e names v) (parts_in o)) ≡ true
gathered-of-entry n e names v o h =
    counted n e names v o (λ y. is_entry e (entry_of_res n y.res)) (λ s r k. counts-of-entry n e s r k) h

pub gathered-small : (n e : ℕ) (names : List TaskId) (v : TasksView) (o : Option Gathering) → keeps_right n e o ≡ true
    → list_all (λ y. nat_le y.rank last_number) (gathered (part_of n e names v) (parts_in o)) ≡ true
gathered-small n e names v o h =
    counted n e names v o (λ y. nat_le y.rank last_number) (λ s r k. (both-first n e s r k).1) h
