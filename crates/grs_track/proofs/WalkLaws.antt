-- Where a task stands in its lines is where its next entry is asked.
use Rattle.std.proofs.Common.{◌≡◌, ◌<◌, ◌≤◌, ◌+◌, ◌-◌, ℕ, zero, suc, Bool, true, false, cond, ◌&&◌, ◌||◌, not, List, []}
use Rattle.std.proofs.Common.{◌∷◌, ◌++◌, length, map, Option, Some, None, refl, ap, sym, ◌∙◌, subst, arith}
use Rattle.std.specs.Prelude.{◌≢◌, slice_get, nat_lt, ◌==◌, if◌then◌else◌, IsSomeAnd, IfOk, Result, Ok, Err}
use Rattle.std.specs.Option.{option_map}
use Rattle.std.specs.List.{list_all}
use Rattle.std.proofs.lemmas.Bool.{ltb-true, ltb-false, lt-ltb, ne_eqb}
use Rattle.grs_base.proofs.ListLaws.{owns-place, has_task-place}
use Rattle.grs_base.specs.Lists.{owns, has_task, owners, place_of, begins_shared, standing_of, deq_code}
use Rattle.grs_base.specs.declared.decision.Standing.TheVariants.{Exclusive, OnlyShared, AmongShared, Waits, Absent}
use Rattle.grs_base.specs.declared.resource.Elem.{Elem}
use Rattle.grs_base.specs.State.{State}
use Rattle.grs_base.specs.declared.line.Line.{Line}
use Rattle.grs_base.specs.declared.line.Line.TheVariants as lines
use Rattle.grs_base.specs.declared.resource.TaskId.{TaskId}
use Rattle.grs_base.specs.declared.rnl.Lists.{Lists}
use Rattle.grs_base.specs.declared.look.Filter.{Filter}
use Rattle.grs_base.specs.declared.look.Place.TheVariants.{Slice}
use Rattle.grs_legal.specs.Asks.{Ask, AsksLook, meaning_of, asks_in, asks_of, is_silent, slice_asks, home_asks, looks_in}
use Rattle.grs_legal.specs.Legal.{lets_pass, passed_behind}
use Rattle.grs_base.specs.declared.resource.SysId.{SysId}
use Rattle.grs_legal.specs.declared.meaning.Display.{Display}
use Rattle.grs_legal.specs.declared.meaning.Meaning.{Meaning}
use Rattle.grs_wire.specs.declared.history.HistEntry.{HistEntry}
use Rattle.grs_track.specs.Track.{entry_for}
use Rattle.grs_track.specs.declared.walk.Stand.{Stand}
use Rattle.grs_track.specs.declared.walk.Stand.TheVariants.{At, Held, Behind}
use Rattle.grs_track.specs.Walk.{asks_count, is_no_wait, stand}

-- the count is that of the asks
pub count-meaning : (lists : Lists) (t : TaskId) (l : Line) → length (asks_in (meaning_of lists t l)) ≡ asks_count l
count-meaning lists t (lines.Enq [] ret rnl) = refl
count-meaning lists t (lines.Enq (i ∷ more) ret rnl) = refl
count-meaning lists t (lines.Reserve q r ctl unit ret rnl) = refl
count-meaning lists t (lines.Deq q r scope have unit rnl) = refl
count-meaning lists t (lines.Wait q r scope rnl) = refl
count-meaning lists t (lines.Gqscan true filter) = refl
count-meaning lists t (lines.Gqscan false filter) = refl
count-meaning lists t lines.DisplayC = refl
count-meaning lists t (lines.DisplayRes q r) = refl

-- places in two lists, one behind the other
pub get-front : {X : Type 0} (xs ys : List X) (i : ℕ) → i < length xs → slice_get (xs ++ ys) i ≡ slice_get xs i
get-front [] ys i e = absurd (omega (arith, e))
get-front (x ∷ xs) ys zero e = refl
get-front (x ∷ xs) ys (suc i) e = get-front xs ys i (omega (arith, e))

pub get-back : {X : Type 0} (xs ys : List X) (i : ℕ) → length xs ≤ i
    → slice_get (xs ++ ys) i ≡ slice_get ys (i - length xs)
get-back [] ys i e = ap (slice_get ys) (omega arith)
get-back (x ∷ xs) ys zero e = absurd (omega (arith, e))
get-back (x ∷ xs) ys (suc i) e =
    get-back xs ys i (omega (arith, e)) ∙ ap (slice_get ys) (omega (arith, e))

-- who would be answered 04 waits, and nobody else
by_tests : (a b c d : Bool)
    → (a || not b)
    ≡ is_no_wait (deq_code
    (if a then (if c then (if d then OnlyShared else AmongShared) else Exclusive) else (if b then Waits else Absent))
    true)
by_tests true b true true = refl
by_tests true b true false = refl
by_tests true b false d = refl
by_tests false true c d = refl
by_tests false false c d = refl

pub no_wait-standing : (es : List Elem) (t : TaskId)
    → (owns es t || not (has_task es t)) ≡ is_no_wait (deq_code (standing_of es t) true)
no_wait-standing es t =
    ap (λ b. b || not (has_task es t)) (owns-place es t)
    ∙ ap (λ b. nat_lt (place_of es t) (owners es) || not b) (has_task-place es t)
    ∙ by_tests (nat_lt (place_of es t) (owners es)) (nat_lt (place_of es t) (length es)) (begins_shared es)
    (owners es == 1)

module _ (s : State) (t : TaskId) (lists : Lists) where
  abbrev mean : Line → Meaning
  mean l = meaning_of lists t l

  abbrev passes : List Line → ℕ → Bool
  passes ls n = list_all (lets_pass s t) (passed_behind n (map mean ls))

  abbrev asks : List Line → ℕ → Option Ask
  asks ls n = slice_get (asks_of (map mean ls)) n

  -- ---- one line
  within : (l : Line) (ls : List Line) (n : ℕ) → nat_lt n (asks_count l) ≡ true
      → asks (l ∷ ls) n ≡ slice_get (asks_in (mean l)) n
  within l ls n e =
      let count : length (asks_in (mean l)) ≡ asks_count l = count-meaning lists t l in
      let few : n < asks_count l = ltb-true n (asks_count l) e in
      get-front (asks_in (mean l)) (asks_of (map mean ls)) n (omega (arith, count, few))

  behind : (l : Line) (ls : List Line) (n : ℕ) → nat_lt n (asks_count l) ≡ false
      → asks (l ∷ ls) n ≡ asks ls (n - asks_count l)
  behind l ls n e =
      let count : length (asks_in (mean l)) ≡ asks_count l = count-meaning lists t l in
      get-back (asks_in (mean l)) (asks_of (map mean ls)) n
      (subst (λ m. m ≤ n) (sym count) (ltb-false n (asks_count l) e))
      ∙ ap (λ m. asks ls (n - m)) count

  passes-within : (l : Line) (ls : List Line) (n : ℕ) → nat_lt n (asks_count l) ≡ true → passes (l ∷ ls) n ≡ true
  passes-within l ls zero e = first (asks_count l) (count-meaning lists t l) e
    where
      first : (c : ℕ) → length (asks_in (mean l)) ≡ c → nat_lt 0 c ≡ true → passes (l ∷ ls) 0 ≡ true
      first zero k f = absurd (cc)
      first (suc c) k f =
          let loud : is_silent (mean l) ≡ false = ap (λ m. m == 0) k ∙ ne_eqb (suc c) 0 (λ e. absurd (omega (arith, e))) in
          ap (λ b. list_all (lets_pass s t) (cond b (mean l ∷ passed_behind 0 (map mean ls)) [])) loud
  passes-within l ls (suc n) e =
      let some : nat_lt (suc n) (length (asks_in (mean l))) ≡ true =
      ap (λ m. nat_lt (suc n) m) (count-meaning lists t l) ∙ e in
      ap (λ b. list_all (lets_pass s t)
      (cond b [] (passed_behind (suc n - length (asks_in (mean l))) (map mean ls)))) some

  passes-behind : (l : Line) (ls : List Line) (n : ℕ) → nat_lt n (asks_count l) ≡ false
      → passes (l ∷ ls) n ≡ ((nat_lt 0 n || lets_pass s t (mean l)) && passes ls (n - asks_count l))
  passes-behind l ls zero e = first (asks_count l) (count-meaning lists t l) e
    where
      first : (c : ℕ) → length (asks_in (mean l)) ≡ c → nat_lt 0 c ≡ false
          → passes (l ∷ ls) 0 ≡ (lets_pass s t (mean l) && passes ls (0 - c))
      first zero k f =
          let quiet : is_silent (mean l) ≡ true = ap (λ m. m == 0) k in
          ap (λ b. list_all (lets_pass s t) (cond b (mean l ∷ passed_behind 0 (map mean ls)) [])) quiet
      first (suc c) k f = let none : suc c ≤ 0 = ltb-false 0 (suc c) f in absurd (omega (arith, none))
  passes-behind l ls (suc n) e =
      let some : nat_lt 0 (suc n) ≡ true = lt-ltb 0 (suc n) (omega arith) in
      let none : nat_lt (suc n) (length (asks_in (mean l))) ≡ false =
      ap (λ m. nat_lt (suc n) m) (count-meaning lists t l) ∙ e in
      ap (λ b. list_all (lets_pass s t)
      (cond b [] (passed_behind (suc n - length (asks_in (mean l))) (map mean ls)))) none
      ∙ ap (λ m. passes ls (suc n - m)) (count-meaning lists t l)
      ∙ sym (ap (λ b. (b || lets_pass s t (mean l)) && passes ls (suc n - asks_count l)) some)

  -- ---- all lines
  -- what it says of a task's next entry where the task stands so in its lines, of which the first has this place
  abbrev pub says : List Line → ℕ → ℕ → Stand → Type 0
  says ls first n Held = passes ls n ≡ false
  says ls first n Behind = (passes ls n ≡ true) × (asks ls n ≡ None)
  says ls first n (At place part) =
      (passes ls n ≡ true) × ((first ≤ place) × IsSomeAnd (slice_get ls (place - first))
      (λ l. (part < asks_count l) × (asks ls n ≡ slice_get (asks_in (mean l)) part)))

  -- what is said of the lines behind the first one is said of all
  further : (l : Line) (ls : List Line) (first n : ℕ) → passes (l ∷ ls) n ≡ passes ls (n - asks_count l)
      → asks (l ∷ ls) n ≡ asks ls (n - asks_count l) → (st : Stand) → says ls (first + 1) (n - asks_count l) st
      → says (l ∷ ls) first n st
  further l ls first n p a Held h = p ∙ h
  further l ls first n p a Behind h = (p ∙ h.0, a ∙ h.1)
  further l ls first n p a (At place part) h =
      let there : first + 1 ≤ place = h.1.0 in
      let at : place - first ≡ suc (place - (first + 1)) = omega (arith, there) in (
        p ∙ h.0,
        (
          omega (arith, there),
          subst (λ o. IsSomeAnd o
              (λ x. (part < asks_count x) × (asks (l ∷ ls) n ≡ slice_get (asks_in (mean x)) part)))
              (sym (ap (slice_get (l ∷ ls)) at)) (each (slice_get ls (place - (first + 1))) h.1.1),
        ),
      )
    where
      each : (o : Option Line)
          → IsSomeAnd o (λ x. (part < asks_count x)
          × (asks ls (n - asks_count l) ≡ slice_get (asks_in (mean x)) part))
          → IsSomeAnd o (λ x. (part < asks_count x) × (asks (l ∷ ls) n ≡ slice_get (asks_in (mean x)) part))
      each None x = x
      each (Some y) x = (x.0, a ∙ x.1)

  pub stands : (ls : List Line) (first n : ℕ) → says ls first n (stand s t lists ls first n)
  stands [] first n = (refl, refl)
  stands (l ∷ ls) first n =
      here (nat_lt n (asks_count l)) refl (nat_lt 0 n || lets_pass s t (mean l)) refl
      (stands ls (first + 1) (n - asks_count l))
    where
      here : (b : Bool) → nat_lt n (asks_count l) ≡ b → (c : Bool) → (nat_lt 0 n || lets_pass s t (mean l)) ≡ c
          → says ls (first + 1) (n - asks_count l) (stand s t lists ls (first + 1) (n - asks_count l))
          → says (l ∷ ls) first n
          (cond b (At first n) (cond c (stand s t lists ls (first + 1) (n - asks_count l)) Held))
      here true e c f rest =
          let none : first - first ≡ 0 = omega arith in (
            passes-within l ls n e,
            (
              omega arith,
              subst (λ o. IsSomeAnd o
                  (λ x. (n < asks_count x) × (asks (l ∷ ls) n ≡ slice_get (asks_in (mean x)) n)))
                  (sym (ap (slice_get (l ∷ ls)) none)) (ltb-true n (asks_count l) e, within l ls n e),
            ),
          )
      here false e true f rest =
          further l ls first n
          (passes-behind l ls n e ∙ ap (λ b. b && passes ls (n - asks_count l)) f)
          (behind l ls n e) (stand s t lists ls (first + 1) (n - asks_count l)) rest
      here false e false f rest =
          passes-behind l ls n e ∙ ap (λ b. b && passes ls (n - asks_count l)) f

-- ---- looks at slices
pub length-slices : (first count : ℕ) (f : Filter) → length (slice_asks first count f) ≡ count
length-slices first zero f = refl
length-slices first (suc count) f = ap suc (length-slices (suc first) count f)

pub slice-at : (first count : ℕ) (f : Filter) (i : ℕ) → i < length (slice_asks first count f)
    → slice_get (slice_asks first count f) i ≡ Some (AsksLook (Slice (first + i)) f)
slice-at first zero f i e = absurd (omega (arith, e))
slice-at first (suc count) f zero e =
    let none : first ≡ first + 0 = omega arith in ap (λ n. Some (AsksLook (Slice n) f)) none
slice-at first (suc count) f (suc i) e =
    let next : suc first + i ≡ first + suc i = omega arith in
    slice-at (suc first) count f i (omega (arith, e)) ∙ ap (λ n. Some (AsksLook (Slice n) f)) next

module _ (d : Display) where
  pub home-later : (s : SysId) (part : ℕ) → d.home ≡ Some s → part ≢ 0 → part < length (looks_in d)
      → slice_get (looks_in d) part ≡ Some (AsksLook (Slice (d.first + (part - 1))) d.filter)
  home-later s part e some few = go d.home e part some few
    where
      go : (o : Option SysId) → o ≡ Some s → (k : ℕ) → k ≢ 0
          → k < length (home_asks o d.filter ++ slice_asks d.first d.count d.filter)
          → slice_get (home_asks o d.filter ++ slice_asks d.first d.count d.filter) k
          ≡ Some (AsksLook (Slice (d.first + (k - 1))) d.filter)
      go None f k some few = absurd (cc)
      go (Some x) f zero some few = absurd (some refl)
      go (Some x) f (suc k) some few =
          let back : d.first + k ≡ d.first + (suc k - 1) = omega arith in
          slice-at d.first d.count d.filter k (omega (arith, few))
          ∙ ap (λ n. Some (AsksLook (Slice n) d.filter)) back

  pub home-none : (part : ℕ) → d.home ≡ None → part < length (looks_in d)
      → slice_get (looks_in d) part ≡ Some (AsksLook (Slice (d.first + part)) d.filter)
  home-none part e few = go d.home e few
    where
      go : (o : Option SysId) → o ≡ None
          → part < length (home_asks o d.filter ++ slice_asks d.first d.count d.filter)
          → slice_get (home_asks o d.filter ++ slice_asks d.first d.count d.filter) part
          ≡ Some (AsksLook (Slice (d.first + part)) d.filter)
      go None f few = slice-at d.first d.count d.filter part few
      go (Some x) f few = absurd (cc)

-- ---- results
pub if_ok : {A E : Type 0} (r : Result A E) (P Q : A → Type 0) → IfOk r P → ((x : A) → P x → Q x) → IfOk r Q
if_ok (Ok x) P Q h f = f x h
if_ok (Err e) P Q h f = h

-- where a task stands, by what the walk found
pub found : (s : State) (t : TaskId) (lists : Lists) (ls : List Line) (n : ℕ) (st : Stand)
    → st ≡ stand s t lists ls 0 n → says s t lists ls 0 n st
found s t lists ls n st e = subst (says s t lists ls 0 n) (sym e) (stands s t lists ls 0 n)

-- the line at which it stands, which has an ask left
pub line-left : (s : State) (t : TaskId) (lists : Lists) (ls : List Line) (n place part : ℕ)
    → says s t lists ls 0 n (At place part)
    → IsSomeAnd (slice_get ls place) (λ l. part < length (asks_in (meaning_of lists t l)))
line-left s t lists ls n place part h = go (slice_get ls (place - 0)) (slice_get ls place) same h.1.1
  where
    same : slice_get ls (place - 0) ≡ slice_get ls place
    same = let none : place - 0 ≡ place = omega arith in ap (slice_get ls) none

    go : (o p : Option Line) → o ≡ p → IsSomeAnd o (λ l. (part < asks_count l)
        × (slice_get (asks_of (map (meaning_of lists t) ls)) n ≡ slice_get (asks_in (meaning_of lists t l)) part))
        → IsSomeAnd p (λ l. part < length (asks_in (meaning_of lists t l)))
    go None p e x = absurd x
    go (Some l) None e x = absurd (cc)
    go (Some l) (Some m) e x =
        let one : l ≡ m = cc in
        subst (λ z. part < length (asks_in (meaning_of lists t z))) one
        (subst (λ k. part < k) (sym (count-meaning lists t l)) x.0)

-- and its entry is what comes next
pub line-entry : (limit : ℕ) (s : State) (t : TaskId) (lists : Lists) (ls : List Line) (n place part : ℕ)
    (h : HistEntry) → says s t lists ls 0 n (At place part)
    → IsSomeAnd (slice_get ls place) (λ l. option_map (entry_for limit s t)
    (slice_get (asks_in (meaning_of lists t l)) part) ≡ Some h)
    → option_map (entry_for limit s t) (slice_get (asks_of (map (meaning_of lists t) ls)) n) ≡ Some h
line-entry limit s t lists ls n place part h says made =
    go (slice_get ls (place - 0)) (slice_get ls place) same says.1.1 made
  where
    same : slice_get ls (place - 0) ≡ slice_get ls place
    same = let none : place - 0 ≡ place = omega arith in ap (slice_get ls) none

    go : (o p : Option Line) → o ≡ p → IsSomeAnd o (λ l. (part < asks_count l)
        × (slice_get (asks_of (map (meaning_of lists t) ls)) n ≡ slice_get (asks_in (meaning_of lists t l)) part))
        → IsSomeAnd p (λ l. option_map (entry_for limit s t) (slice_get (asks_in (meaning_of lists t l)) part) ≡ Some h)
        → option_map (entry_for limit s t) (slice_get (asks_of (map (meaning_of lists t) ls)) n) ≡ Some h
    go None p e x y = absurd x
    go (Some l) None e x y = absurd y
    go (Some l) (Some m) e x y =
        let one : l ≡ m = cc in
        ap (option_map (entry_for limit s t)) x.1
        ∙ ap (λ z. option_map (entry_for limit s t) (slice_get (asks_in (meaning_of lists t z)) part)) one
        ∙ y
