-- Steps of systems that are gone through one by one, and what they show in the end.
use Rattle.std.proofs.Common.{◌≡◌, ℕ, ◌+◌, ◌<◌, ◌≤◌, List, [], ◌∷◌, ◌++◌, length, get_or, take, drop, map, refl, ap}
use Rattle.std.proofs.Common.{sym, ◌∙◌, subst, append_assoc, append-nil, length-append}
use Rattle.std.specs.Prelude.{set}
use Rattle.std.proofs.Math.ListN.{drop_of_length-le}
use Rattle.std.proofs.lemmas.List.{at_drop_more, get_or-map, map-set}
use Rattle.std.specs.List.{flat_map}
use Rattle.grs_base.specs.State.{State}
use Rattle.grs_base.specs.declared.resource.SysId.{SysId}
use Rattle.grs_wire.specs.History.{answered_from, after_fixed, fixed_entries}
use Rattle.grs_wire.specs.declared.history.HistEntry.{HistEntry}
use Rattle.grs_wire.specs.declared.log.StepDone.{StepDone}
use Rattle.grs_wire.specs.declared.medium.JEntry.{JEntry}
use Rattle.grs_wire.specs.declared.request.Fixed.{Fixed}
use Rattle.grs_history.specs.Merge.{Step, steps_by, run_count, rest_of, by_journal, event_of, fixed_in, told_in}
use Rattle.grs_history.specs.Merge.{told_behind, shown}
use Rattle.grs_history.specs.Merging.{after_all_fixed, shown_with, Leads}
use Rattle.grs_history.specs.declared.order.Merged.{Merged}

-- the entries of what one step fixed come before those of all later ones
answered_from-step : (s : State) (n : SysId) (fs : List Fixed) (ys : List (SysId × Fixed))
    → answered_from s (map (λ f. (n, f)) fs ++ ys)
    ≡ answered_from s (map (λ f. (n, f)) fs) ++ answered_from (after_all_fixed s fs) ys
answered_from-step s n [] ys = refl
answered_from-step s n (f ∷ fs) ys =
    ap (λ (z : List HistEntry). fixed_entries s n f ++ z) (answered_from-step (after_fixed s f) n fs ys)
    ∙ sym (append_assoc (fixed_entries s n f) (answered_from (after_fixed s f) (map (λ f. (n, f)) fs))
    (answered_from (after_all_fixed (after_fixed s f) fs) ys))

-- what was shown so far with what one step shows
abbrev pub with_step : State → Merged → Step → Merged
with_step elements m x = record {
  events = m.events ++ event_of x ∷ [];
  hist = m.hist ++ answered_from elements (fixed_in x);
  told = m.told ++ told_in (length m.events + 1) x;
}

pub leads-step : (elements : State) (m : Merged) (x : Step)
    → Leads elements m (x ∷ []) (after_all_fixed elements x.1.fixed) (with_step elements m x)
leads-step elements m x ys =
    let events : (m.events ++ event_of x ∷ []) ++ map event_of ys ≡ m.events ++ event_of x ∷ map event_of ys =
    append_assoc m.events (event_of x ∷ []) (map event_of ys) in
    let hist : (m.hist ++ answered_from elements (fixed_in x))
    ++ answered_from (after_all_fixed elements x.1.fixed) (flat_map fixed_in ys)
    ≡ m.hist ++ answered_from elements (fixed_in x ++ flat_map fixed_in ys) =
    append_assoc m.hist (answered_from elements (fixed_in x)) _
    ∙ ap (λ (z : List HistEntry). m.hist ++ z)
    (sym (answered_from-step elements x.0 x.1.fixed (flat_map fixed_in ys))) in
    let count : length (m.events ++ event_of x ∷ []) ≡ length m.events + 1 = length-append m.events (event_of x ∷ []) in
    let told : (m.told ++ told_in (length m.events + 1) x) ++ told_behind (length (m.events ++ event_of x ∷ [])) ys
    ≡ m.told ++ (told_in (length m.events + 1) x ++ told_behind (length m.events + 1) ys) =
    append_assoc m.told (told_in (length m.events + 1) x) _
    ∙ ap (λ (n : ℕ). m.told ++ (told_in (length m.events + 1) x ++ told_behind n ys)) count in
    λ i. record { events = events i; hist = hist i; told = told i }

-- Some steps were gone through, and these are still to come of all of them.
abbrev pub Still : State → Merged → List Step → State → Merged → List Step → Type 0
Still elements m all elements' m' todo =
    (ys : List Step) → shown_with elements' m' (todo ++ ys) ≡ shown_with elements m (all ++ ys)

pub still-more :
    (elements : State) (m : Merged) (all : List Step) (elements₁ : State) (m₁ : Merged) (xs : List Step)
    (elements₂ : State) (m₂ : Merged) (todo : List Step)
    → Still elements m all elements₁ m₁ (xs ++ todo) → Leads elements₁ m₁ xs elements₂ m₂
    → Still elements m all elements₂ m₂ todo
still-more elements m all elements₁ m₁ xs elements₂ m₂ todo still leads ys =
    leads (todo ++ ys) ∙ ap (shown_with elements₁ m₁) (sym (append_assoc xs todo ys)) ∙ still ys

-- nothing is to come any more
pub shown_with-end : (elements : State) (m : Merged) → shown_with elements m [] ≡ m
shown_with-end elements
    m = λ i. record { events = append-nil m.events i; hist = append-nil m.hist i; told = append-nil m.told i }

pub still-end : (elements : State) (m : Merged) (xs : List Step)
    → Still [] (record { events = []; hist = []; told = [] }) xs elements m [] → m ≡ shown xs
still-end elements m xs still = sym (shown_with-end elements m) ∙ still [] ∙ ap shown (append-nil xs)

-- a step was gone through: its event, what it fixed and what it told were put behind the others
pub leads-by : (elements : State) (m : Merged) (x : Step) (elements' : State) (m' : Merged) (n : ℕ)
    → elements' ≡ after_all_fixed elements x.1.fixed → m'.events ≡ m.events ++ event_of x ∷ []
    → m'.hist ≡ m.hist ++ answered_from elements (fixed_in x) → n ≡ length m'.events → m'.told ≡ m.told ++ told_in n x
    → Leads elements m (x ∷ []) elements' m'
leads-by elements m x elements' m' n after events hist count told ys =
    let number : n ≡ length m.events + 1 = count ∙ ap length events ∙ length-append m.events (event_of x ∷ []) in
    let lines : m'.told ≡ m.told ++ told_in (length m.events + 1) x =
    told ∙ ap (λ (k : ℕ). m.told ++ told_in k x) number in
    (λ i. shown_with (after i) (record { events = events i; hist = hist i; told = lines i }) ys)
    ∙ leads-step elements m x ys

-- what is left of a system's log, which is kept among those of all systems
pub rest_at : {R : Type 0} (now : R → List StepDone) (rests : List R) (s : SysId) (r : R) → s.0 < length rests
    → r ≡ get_or rests s.0 r → rest_of (map now rests) s ≡ now r
rest_at now rests s r inside is = get_or-map now rests s.0 r [] inside ∙ ap now (sym is)

pub rests-set : {R : Type 0} (now : R → List StepDone) (rests : List R) (s : SysId) (r new : R) → s.0 < length rests
    → r ≡ get_or rests s.0 r → now new ≡ drop (run_count (now r)) (now r)
    → map now (set rests s.0 new)
    ≡ set (map now rests) s.0 (drop (run_count (rest_of (map now rests) s)) (rest_of (map now rests) s))
rests-set now rests s r new inside is e =
    map-set now rests s.0 new
    ∙ ap (set (map now rests) s.0)
    (e ∙ ap (λ (x : List StepDone). drop (run_count x) x) (sym (rest_at now rests s r inside is)))

-- the fronts of the logs were gone through, and the journal is to come
pub still-begun :
    (elements : State) (m : Merged) (fronts : List Step) (elements₁ : State) (m₁ : Merged)
    (left rests : List (List StepDone)) (journal : List JEntry) → Leads elements m fronts elements₁ m₁ → rests ≡ left
    → Still elements m (fronts ++ by_journal left journal) elements₁ m₁ (by_journal rests journal)
still-begun elements m fronts elements₁ m₁ left rests journal leads kept ys =
    ap (λ (r : List (List StepDone)). shown_with elements₁ m₁ (by_journal r journal ++ ys)) kept
    ∙ leads (by_journal left journal ++ ys)
    ∙ ap (shown_with elements m) (sym (append_assoc fronts (by_journal left journal) ys))

-- an entry of the journal more
pub still-entry :
    (elements : State) (m : Merged) (all : List Step) (elements₁ : State) (m₁ : Merged) (rests : List (List StepDone))
    (journal : List JEntry) (i : ℕ) (e : JEntry) (elements₂ : State) (m₂ : Merged) (rests₂ : List (List StepDone))
    → i < length journal → e ≡ get_or journal i e
    → Still elements m all elements₁ m₁ (by_journal rests (drop i journal))
    → Leads elements₁ m₁ (steps_by e.system (take (run_count (rest_of rests e.system)) (rest_of rests e.system)))
    elements₂ m₂
    → rests₂ ≡ set rests e.system.0 (drop (run_count (rest_of rests e.system)) (rest_of rests e.system))
    → Still elements m all elements₂ m₂ (by_journal rests₂ (drop (i + 1) journal))
still-entry elements m all elements₁ m₁ rests journal i e elements₂ m₂ rests₂ inside is still leads left =
    let at : by_journal rests (drop i journal) ≡ by_journal rests (e ∷ drop (i + 1) journal) =
    at_drop_more (by_journal rests) journal i e inside
    ∙ ap (λ (x : JEntry). by_journal rests (x ∷ drop (i + 1) journal)) (sym is) in
    subst (λ (r : List (List StepDone)). Still elements m all elements₂ m₂ (by_journal r (drop (i + 1) journal)))
    (sym left)
    (still-more elements m all elements₁ m₁
    (steps_by e.system (take (run_count (rest_of rests e.system)) (rest_of rests e.system))) elements₂ m₂
    (by_journal (set rests e.system.0 (drop (run_count (rest_of rests e.system)) (rest_of rests e.system)))
    (drop (i + 1) journal))
    (subst (Still elements m all elements₁ m₁) at still) leads)

-- no entry is left
pub leads-last :
    (elements : State) (m : Merged) (xs : List Step) (elements' : State) (m' : Merged) (rests : List (List StepDone))
    (journal : List JEntry) (i : ℕ) → length journal ≤ i
    → Still elements m xs elements' m' (by_journal rests (drop i journal)) → Leads elements m xs elements' m'
leads-last elements m xs elements' m' rests journal i past still =
    subst (λ (es : List JEntry). Still elements m xs elements' m' (by_journal rests es))
    (drop_of_length-le journal past) still

-- from nothing, all that the steps show
pub leads-all : (elements : State) (m : Merged) (xs : List Step) (elements' : State) (m' : Merged) → elements ≡ []
    → m.events ≡ [] → m.hist ≡ [] → m.told ≡ [] → Leads elements m xs elements' m' → m' ≡ shown xs
leads-all elements m xs elements' m' none events hist told leads =
    still-end elements' m' xs
    (λ ys. leads ys
    ∙ (λ i. shown_with (none i) (record { events = events i; hist = hist i; told = told i }) (xs ++ ys)))
