-- A manager takes over, entry by entry, what a system manages by its roles.
use Rattle.std.proofs.Common.{◌≡◌, ◌<◌, ◌≤◌, ◌+◌, ℕ, zero, suc, Bool, true, false, cond, List, [], ◌∷◌, length, map}
use Rattle.std.proofs.Common.{replicate, Option, Some, None, is_some, refl, ap, sym, ◌∙◌, subst, arith}
use Rattle.std.specs.Prelude.{◌==◌, nat_lt, slice_set, filter}
use Rattle.std.specs.List.{range_with_len}
use Rattle.std.proofs.lemmas.Bool.{eqb-true}
use Rattle.std.proofs.lemmas.Bool.Decides.{nat_tests}
use Rattle.std.proofs.lemmas.List.{length-replicate}
use Rattle.contention_mgr.specs.Loads.{loaded}
use Rattle.contention_mgr.specs.Manager.{Managed, ManagerView, kept_at, managed_at, with_entry}
use Rattle.grs_base.specs.State.{State}
use Rattle.grs_base.specs.declared.resource.SysId.{SysId}
use Rattle.grs_node.specs.Change.{is_among, entry_by_roles, with_entry_by, part_by_roles, entry_by_table, part_by_table}
use Rattle.grs_node.specs.Change.{with_ranks, one_by_one}
use Rattle.grs_node.specs.Node.{NodeState, change_to_star}
use Rattle.grs_node.specs.Star.{StarPart}
use Rattle.grs_wire.specs.declared.deck.Deck.{Deck}
use Rattle.grs_wire.specs.declared.request.Req.{Req}
use Rattle.lock_structure.specs.RankedRows.{RankedRow}
use Rattle.mode_migrate.specs.Migrate.{managed_by, interested_by, managed_by_table, interest_by_table}
use Rattle.mode_migrate.specs.Migrate.{parts_by, part_at}
use Rattle.mode_migrate.proofs.PartLaws.{part-there}
use Rattle.task_state.specs.View.{TasksView}

-- what is kept once the entries below one were taken over
abbrev pub kept_below : List ℕ → List (List RankedRow) → ℕ → ℕ → Option Managed
kept_below managed parts below e = cond (nat_lt e below) (entry_by_roles managed parts e) None

pub record LoadedBelow (s : SysId) (entries : ℕ) (managed : List ℕ) (parts : List (List RankedRow)) (below : ℕ)
    (m : ManagerView) :
    Type 0 where
  pub system : m.system ≡ s
  pub count : length m.entries ≡ entries
  pub kept : (e : ℕ) → kept_at m.entries e ≡ kept_below managed parts below e

none-kept : (n e : ℕ) → kept_at (replicate n None) e ≡ None
none-kept zero e = refl
none-kept (suc n) zero = refl
none-kept (suc n) (suc e) = none-kept n e

-- at first none
pub loaded-none : (s : SysId) (entries : ℕ) (managed : List ℕ) (parts : List (List RankedRow)) (m : ManagerView)
    → m ≡ record { system = s; entries = replicate entries None } → LoadedBelow s entries managed parts 0 m
loaded-none s entries managed parts m is =
    subst (LoadedBelow s entries managed parts 0) (sym is) (record {
      system = refl;
      count = length-replicate {A = Option Managed} entries None;
      kept = λ e. none-kept entries e ∙ past e;
    })
  where
    past : (e : ℕ) → None ≡ kept_below managed parts 0 e
    past e = let over : nat_lt e 0 ≡ false = grind (arith, nat_tests) in rw over refl

kept-same : (es : List (Option Managed)) (e : ℕ) (o : Option Managed) → e < length es → kept_at (slice_set es e o) e ≡ o
kept-same [] e o h = absurd (omega (arith, h))
kept-same (x ∷ es) zero o h = refl
kept-same (x ∷ es) (suc e) o h = kept-same es e o (omega (arith, h))

kept-other : (es : List (Option Managed)) (e f : ℕ) (o : Option Managed) → (f == e) ≡ false
    → kept_at (slice_set es e o) f ≡ kept_at es f
kept-other [] e f o h = refl
kept-other (x ∷ es) zero zero o h = absurd cc
kept-other (x ∷ es) zero (suc f) o h = refl
kept-other (x ∷ es) (suc e) zero o h = refl
kept-other (x ∷ es) (suc e) (suc f) o h = kept-other es e f o (grind (arith, nat_tests, h))

length-kept : (es : List (Option Managed)) (e : ℕ) (o : Option Managed) → length (slice_set es e o) ≡ length es
length-kept [] e o = refl
length-kept (x ∷ es) zero o = refl
length-kept (x ∷ es) (suc e) o = ap suc (length-kept es e o)

module _ (s : SysId) (entries : ℕ) (managed : List ℕ) (parts : List (List RankedRow)) where
  below-other : (i e : ℕ) → (e == i) ≡ false → nat_lt e (i + 1) ≡ nat_lt e i
  below-other i e h = grind (arith, nat_tests, h)

  -- and then one more
  pub loaded-more : (i : ℕ) (m : ManagerView) → i < entries → LoadedBelow s entries managed parts i m
      → LoadedBelow s entries managed parts (i + 1) (with_entry_by m managed parts i)
  loaded-more i m inside h = go (is_among managed i) refl
    where
      new : (b : Bool) → is_among managed i ≡ b
          → kept_below managed parts (i + 1) i ≡ cond b (Some (loaded (part_at parts i))) None
      new b is = let under : nat_lt i (i + 1) ≡ true = grind (arith, nat_tests) in rw (under, is) refl

      old : kept_at m.entries i ≡ None
      old =
          let over : nat_lt i i ≡ false = grind (arith, nat_tests) in
          h.kept i ∙ ap (λ (b : Bool). cond b (entry_by_roles managed parts i) None) over

      rest : (e : ℕ) → (e == i) ≡ false → kept_at m.entries e ≡ kept_below managed parts (i + 1) e
      rest e other =
          h.kept e
          ∙ ap (λ (b : Bool). cond b (entry_by_roles managed parts e) None) (sym (below-other i e other))

      at-true : is_among managed i ≡ true → (e : ℕ) (c : Bool) → (e == i) ≡ c
          → kept_at (slice_set m.entries i (Some (loaded (part_at parts i)))) e
          ≡ kept_below managed parts (i + 1) e
      at-true is e true same =
          let here : e ≡ i = eqb-true e i same in
          subst (λ (k : ℕ).
          kept_at (slice_set m.entries i (Some (loaded (part_at parts i)))) k
          ≡ kept_below managed parts (i + 1) k)
          (sym here)
          (kept-same m.entries i (Some (loaded (part_at parts i))) (omega (arith, inside, h.count))
          ∙ sym (new true is))
      at-true is e false other =
          kept-other m.entries i e (Some (loaded (part_at parts i))) other ∙ rest e other

      at-false : is_among managed i ≡ false → (e : ℕ) (c : Bool) → (e == i) ≡ c
          → kept_at m.entries e ≡ kept_below managed parts (i + 1) e
      at-false is e true same =
          let here : e ≡ i = eqb-true e i same in
          subst (λ (k : ℕ). kept_at m.entries k ≡ kept_below managed parts (i + 1) k) (sym here)
          (old ∙ sym (new false is))
      at-false is e false other = rest e other

      go : (b : Bool) → is_among managed i ≡ b
          → LoadedBelow s entries managed parts (i + 1)
          (cond b (with_entry m (Some i) (Some (loaded (part_at parts i)))) m)
      go true is = record {
        system = h.system;
        count = length-kept m.entries i (Some (loaded (part_at parts i))) ∙ h.count;
        kept = λ e. at-true is e (e == i) refl;
      }
      go false is = record { system = h.system; count = h.count; kept = λ e. at-false is e (e == i) refl }

  -- an entry that is still to come isn't managed
  pub not-loaded : (i : ℕ) (m : ManagerView) → LoadedBelow s entries managed parts i m
      → is_some (managed_at m i) ≡ false
  not-loaded i m h =
      let over : nat_lt i i ≡ false = grind (arith, nat_tests) in
      ap (λ (o : Option Managed). is_some o)
      (h.kept i ∙ ap (λ (b : Bool). cond b (entry_by_roles managed parts i) None) over)

-- entries one by one
by-entry : (es : List (Option Managed)) (a n : ℕ) (f : ℕ → Option Managed) → length es ≡ n
    → ((e : ℕ) → e < n → kept_at es e ≡ f (a + e)) → es ≡ map f (range_with_len a n)
by-entry [] a zero f count h = refl
by-entry [] a (suc n) f count h = absurd (omega (arith, count))
by-entry (o ∷ es) a zero f count h = absurd (omega (arith, count))
by-entry (o ∷ es) a (suc n) f count h =
    let first : o ≡ f a = h 0 (omega arith) ∙ ap f (omega arith) in
    let rest : es ≡ map f (range_with_len (a + 1) n) =
    by-entry es (a + 1) n f (omega (arith, count)) (λ e l. h (suc e) (omega (arith, l)) ∙ ap f (omega arith)) in
    ap (λ (x : Option Managed). x ∷ es) first ∙ ap (λ (xs : List (Option Managed)). f a ∷ xs) rest

-- at last all
pub loaded-all : (s : SysId) (entries : ℕ) (managed : List ℕ) (parts : List (List RankedRow)) (m : ManagerView)
    → LoadedBelow s entries managed parts entries m
    → m ≡ record { system = s; entries = map (entry_by_roles managed parts) (range_with_len 0 entries) }
loaded-all s entries managed parts m h =
    let all : m.entries ≡ map (entry_by_roles managed parts) (range_with_len 0 entries) =
    by-entry m.entries 0 entries (entry_by_roles managed parts) h.count (λ e l. h.kept e ∙ inside e l) in
    ap (λ (x : SysId). record { system = x; entries = m.entries }) h.system
    ∙ ap (λ (es : List (Option Managed)). record { system = s; entries = es }) all
  where
    inside : (e : ℕ) → e < entries
        → kept_below managed parts entries e ≡ entry_by_roles managed parts (0 + e)
    inside e l =
        let under : nat_lt e entries ≡ true = grind (arith, nat_tests, l) in
        let same : e ≡ 0 + e = omega arith in
        ap (λ (b : Bool). cond b (entry_by_roles managed parts e) None) under
        ∙ ap (entry_by_roles managed parts) same

-- ---- roles of a table
among-above : (p : ℕ → Bool) (e a n : ℕ) → e < a → is_among (filter p (range_with_len a n)) e ≡ false
among-above p e a zero h = refl
among-above p e a (suc n) h = go (p a) (among-above p e (a + 1) n (omega (arith, h)))
  where
    go : (b : Bool) → is_among (filter p (range_with_len (a + 1) n)) e ≡ false
        → is_among (cond b (a ∷ filter p (range_with_len (a + 1) n)) (filter p (range_with_len (a + 1) n))) e ≡ false
    go true rest = let other : (a == e) ≡ false = grind (arith, nat_tests, h) in rw other rest
    go false rest = rest

among-range : (p : ℕ → Bool) (e a n : ℕ) → a ≤ e → e < a + n → is_among (filter p (range_with_len a n)) e ≡ p e
among-range p e a zero low high = absurd (omega (arith, low, high))
among-range p e a (suc n) low high =
    go (p a) refl (a == e) refl
    (λ other. among-range p e (a + 1) n (grind (arith, nat_tests, low, other)) (omega (arith, high)))
  where
    go : (b : Bool) → p a ≡ b → (c : Bool) → (a == e) ≡ c
        → ((a == e) ≡ false → is_among (filter p (range_with_len (a + 1) n)) e ≡ p e) →
        is_among (cond b (a ∷ filter p (range_with_len (a + 1) n)) (filter p (range_with_len (a + 1) n))) e ≡ p e
    go true is true same rest = rw same (sym is ∙ ap p (eqb-true a e same))
    go true is false other rest = rw other (rest other)
    go false is true same rest =
        among-above p e (a + 1) n (let here = eqb-true a e same in omega (arith, here))
        ∙ sym is
        ∙ ap p (eqb-true a e same)
    go false is false other rest = rest other

-- what is so of each entry is so of all
map-range : {X : Type 0} (f g : ℕ → X) (a n : ℕ) → ((e : ℕ) → a ≤ e → e < a + n → f e ≡ g e)
    → map f (range_with_len a n) ≡ map g (range_with_len a n)
map-range f g a zero h = refl
map-range {X} f g a (suc n) h =
    ap (λ (x : X). x ∷ map f (range_with_len (a + 1) n)) (h a (omega arith) (omega arith))
    ∙ ap (λ (xs : List X). g a ∷ xs)
    (map-range f g (a + 1) n (λ e low high. h e (omega (arith, low)) (omega (arith, high))))

-- the roles of a table give the part of the table
pub by-roles-table : (entries : ℕ) (s : SysId) (t : State)
    → part_by_roles entries s (managed_by entries s t) (interested_by entries s t) (parts_by entries t)
    ≡ part_by_table entries s t
by-roles-table entries s t =
    ap (λ (es : List (Option Managed)). record {
      manager = record { system = s; entries = es };
      gathers = replicate entries None;
      owes = replicate entries None;
      held = [];
      interest = map (is_among (interested_by entries s t)) (range_with_len 0 entries);
    })
    (map-range (entry_by_roles (managed_by entries s t) (parts_by entries t)) (entry_by_table entries s t) 0
    entries kept)
    ∙ ap (λ (flags : List Bool). record {
      manager = record { system = s; entries = map (entry_by_table entries s t) (range_with_len 0 entries) };
      gathers = replicate entries None;
      owes = replicate entries None;
      held = [];
      interest = flags;
    })
    (map-range (is_among (interested_by entries s t)) (interest_by_table entries s t) 0 entries
    (λ e low high. among-range (interest_by_table entries s t) e 0 entries low high))
  where
    kept : (e : ℕ) → 0 ≤ e → e < 0 + entries
        → entry_by_roles (managed_by entries s t) (parts_by entries t) e ≡ entry_by_table entries s t e
    kept e low high =
        ap (λ (b : Bool). cond b (Some (loaded (part_at (parts_by entries t) e))) None)
        (among-range (managed_by_table entries s t) e 0 entries low high)
        ∙ ap (λ (xs : List RankedRow). cond (managed_by_table entries s t e) (Some (loaded xs)) None)
        (part-there entries e t (omega (arith, high)))

-- a part that is made by the roles of a table is that of the table
pub part-of-roles :
    (entries : ℕ) (s : SysId) (own : ℕ) (t : State) (managed interest : List ℕ) (parts : List (List RankedRow))
    (part : StarPart) → s.0 ≡ own → managed ≡ managed_by entries s t → interest ≡ interested_by entries s t
    → parts ≡ parts_by entries t → part ≡ part_by_roles entries s managed interest parts
    → part ≡ part_by_table entries (record { 0 = own }) t
part-of-roles entries s own t managed interest parts part same manages interested rows is =
    is
    ∙ (ap (λ (es : List ℕ). part_by_roles entries s es interest parts) manages
    ∙ (ap (λ (es : List ℕ). part_by_roles entries s (managed_by entries s t) es parts) interested
    ∙ (ap (λ (xs : List (List RankedRow)). part_by_roles entries s (managed_by entries s t) (interested_by entries s t) xs) rows
    ∙ (by-roles-table entries s t ∙ ap (λ (i : ℕ). part_by_table entries (record { 0 = i }) t) same))))
