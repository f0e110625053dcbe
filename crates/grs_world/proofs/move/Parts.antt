-- What a system's part is by the words of a table: it manages the entries that they give to it, with the table's lists.
use Rattle.grs_world.proofs.Common.{[], ◌&&◌, ◌<◌, ◌==◌, ◌||◌, ◌∙◌, ◌∷◌, ◌≡◌, ◌≤◌, and-false, and_parts, ap, are_within}
use Rattle.grs_world.proofs.Common.{arith, Bool, cond, Deck, Elem, entry_of_res, eq-eqb, eqb-true, false, false_by}
use Rattle.grs_world.proofs.Common.{has_task, history, is_entry, is_interested, is_manager, is_systems, IsHistory, List}
use Rattle.grs_world.proofs.Common.{list_all, list_any, list_of, lists, ltb-true, manager_at, most_systems, no_truth}
use Rattle.grs_world.proofs.Common.{None, not, Option, or_left, or_parts, or_right, part, part_by_table, refl, removes}
use Rattle.grs_world.proofs.Common.{removes_system_of, Res, rounds, rows_of, RunItem, same_task, same_task-exact, Some}
use Rattle.grs_world.proofs.Common.{State, subst, sym, SysId, System, table-is, TaskId, true, ℕ}
use Rattle.grs_known.proofs.known.Histories.{may_stand, removes-history}
use Rattle.grs_base.specs.declared.resource.Res.TheVariants.{Step as StepRes, Systems}
use Rattle.grs_world.proofs.star.Calm.{calm-first}
use Rattle.grs_world.proofs.star.Elements.{AreNear, is_near_res, near-words}
use Rattle.grs_world.proofs.star.Members.{IsPart, has_manager}
use Rattle.grs_world.proofs.star.Under.{entry-same, in_entry, list-under, under, none-under}
use Rattle.grs_world.proofs.star.Systems.{near_at}
use Rattle.mode_migrate.proofs.TableWords.{elements-are, table-free, table-interest, table-manager}
use Rattle.lock_structure.proofs.LeastLaws.{least-passes}
use Rattle.mode_migrate.proofs.WordLaws.{elements-within}
use Rattle.mode_migrate.specs.Migrate.{has_elements, manager_by, table_words, is_by}
use Rattle.mode_migrate.proofs.Rows.{any-list}
use Rattle.grs_known.proofs.ring.Parts.{list_of-systems}
use Rattle.grs_known.specs.Parts.{systems_part}
use Rattle.grs_node.proofs.TableParts.{table-counts, table-interested, table-lists, table-manages, table-well}

-- a resource of an entry is one of the whole complex
entry-wide : (entries e : ℕ) (r : Res) → in_entry entries e r ≡ true → is_systems r ≡ true
entry-wide entries e (StepRes s j q r) h = absurd (cc)
entry-wide entries e (System s q r) h = absurd (cc)
entry-wide entries e (Systems q r) h = refl

module _ (deck : Deck) (some : 0 < deck.entries) (t L : State) (is : t ≡ systems_part L)
    (few : are_within most_systems t ≡ true) where
  abbrev words : List ℕ
  words = table_words deck.entries t

  -- the table's lists of an entry are those of all elements
  table-under : (e : ℕ) (q : Res)
      → cond (is_entry e (entry_of_res deck.entries q)) (list_of t q) [] ≡ list_of (under deck.entries e L) q
  table-under e q = go (in_entry deck.entries e q) refl
    where
      go : (b : Bool) → in_entry deck.entries e q ≡ b → cond b (list_of t q) [] ≡ list_of (under deck.entries e L) q
      go true h =
          ap (λ s. list_of s q) is
          ∙ (list_of-systems L q (entry-wide deck.entries e q h) ∙ sym (list-under deck.entries e L q h))
      go false h = sym (none-under (in_entry deck.entries e) L q h)

  -- the part of a system
  pub part-by : (s : ℕ) → IsPart deck words L s (part_by_table deck.entries (record { 0 = s }) t)
  part-by s = record {
    home = refl;
    entries = (table-counts deck.entries some (record { 0 = s }) t few).0;
    interests = (table-counts deck.entries some (record { 0 = s }) t few).1;
    roles = λ e. table-manages deck.entries some (record { 0 = s }) t few e;
    interest = λ e.
        table-interested deck.entries some (record { 0 = s }) t few e
        ∙ sym (table-interest deck.entries some t few e s);
    lists = λ e h.
        record { lists = λ q. table-lists deck.entries some (record { 0 = s }) t few e h q ∙ table-under e q };
    well = table-well deck.entries some (record { 0 = s }) t few;
    calm = calm-first deck.entries;
  }

  -- where there is no manager nothing is queued
  any-part : (p : Res → Bool) (z : State) → ((r : Res) → p r ≡ true → is_systems r ≡ true)
      → list_any (λ h. p h.0) (systems_part z) ≡ false → part p z ≡ []
  any-part p [] wide h = refl
  any-part p (x ∷ z) wide h = go (p x.0) refl (is_systems x.0) refl h (any-part p z wide)
    where
      go : (b : Bool) → p x.0 ≡ b → (c : Bool) → is_systems x.0 ≡ c
          → list_any (λ y. p y.0) (cond c (x ∷ systems_part z) (systems_part z)) ≡ false
          → (list_any (λ y. p y.0) (systems_part z) ≡ false → part p z ≡ []) → cond b (x ∷ part p z) (part p z) ≡ []
      go true e true f g more =
          absurd (let a : true ≡ false = sym e ∙ (or_parts (p x.0) (list_any (λ y. p y.0) (systems_part z)) g).0 in cc)
      go true e false f g more = absurd (let a : true ≡ false = sym (wide x.0 e) ∙ f in cc)
      go false e true f g more = more (or_parts (p x.0) (list_any (λ y. p y.0) (systems_part z)) g).1
      go false e false f g more = more g

  pub free-by : (e : ℕ) → manager_at words e ≡ None → under deck.entries e L ≡ []
  free-by e none = any-part (in_entry deck.entries e) L (entry-wide deck.entries e)
      (ap (list_any (λ h. is_entry e (entry_of_res deck.entries h.0))) (sym is)
      ∙ table-free deck.entries some t few e none)

  -- who has an element has interest in its entry
  pub near-by : AreNear deck words L
  near-by = near-words deck words L each
    where
      has-by : (s : ℕ) (es : List Elem) (u : TaskId) → u.system.0 ≡ s → has_task es u ≡ true
          → list_any (is_by s) es ≡ true
      has-by s [] u home h = absurd (cc)
      has-by s (x ∷ es) u home h = go (same_task u x.task) refl h (has-by s es u home)
        where
          go : (b : Bool) → same_task u x.task ≡ b → (b || has_task es u) ≡ true
              → (has_task es u ≡ true → list_any (is_by s) es ≡ true)
              → ((x.task.system.0 == s) || list_any (is_by s) es) ≡ true
          go true e f more =
              or_left (x.task.system.0 == s) (list_any (is_by s) es)
              (eq-eqb x.task.system.0 s (ap (λ (z : TaskId). z.system.0) (sym (same_task-exact u x.task e)) ∙ home))
          go false e f more = or_right (x.task.system.0 == s) (list_any (is_by s) es) (more f)

      each : (r : Res) (u : TaskId) → has_task (list_of L r) u ≡ true → is_near_res deck words r u ≡ true
      each r u has = go (entry_of_res deck.entries r) refl
        where
          go : (o : Option ℕ) → entry_of_res deck.entries r ≡ o → near_at words u.system.0 o ≡ true
          go None e = refl
          go (Some x) e =
              let here : in_entry deck.entries x r ≡ true = entry-same x (entry_of_res deck.entries r) e in
              let listed : list_of L r ≡ list_of t r =
              sym (ap (λ s. list_of s r) is ∙ list_of-systems L r (entry-wide deck.entries x r here)) in
              table-interest deck.entries some t few x u.system.0
              ∙ (elements-are deck.entries x t u.system.0
              ∙ any-list (λ q. is_entry x (entry_of_res deck.entries q)) (is_by u.system.0) t r here
              (has-by u.system.0 (list_of t r) u refl (ap (λ es. has_task es u) (sym listed) ∙ has)))

  -- who has no element of an entry has no interest in it, and doesn't manage it
  pub nobody-by : (e s : ℕ) → has_elements deck.entries e (rows_of t) s ≡ false
      → (is_interested words e s ≡ false) × (has_manager words e s ≡ false)
  nobody-by e s none = (
    table-interest deck.entries some t few e s ∙ none,
    ap (λ o. is_manager o (record { 0 = s })) (table-manager deck.entries some t few e)
        ∙ by_manager (manager_by deck.entries e (rows_of t)) refl,
  )
    where
      by_manager : (o : Option SysId) → manager_by deck.entries e (rows_of t) ≡ o
          → is_manager o (record { 0 = s }) ≡ false
      by_manager None at = refl
      by_manager (Some m) at =
          false_by (m.0
          == s) (λ same.
          no_truth (has_elements deck.entries e (rows_of t) m.0)
          (least-passes most_systems (has_elements deck.entries e (rows_of t)) m at).1
          (subst (λ u. has_elements deck.entries e (rows_of t) u ≡ false) (sym (eqb-true m.0 s same)) none))

  -- so it is of a system that isn't there
  pub past-by : (n : ℕ) → are_within n t ≡ true → (e s : ℕ) → n ≤ s → has_elements deck.entries e (rows_of t) s ≡ false
  past-by n within e s past =
      false_by (has_elements deck.entries e (rows_of t) s) (λ h.
      absurd (let k : s < n = ltb-true s n (elements-within n deck.entries e t s within h) in omega (arith, k, past)))

-- and of one that was removed
pub removed-by : (deck : Deck) (T : List RunItem) → IsHistory deck T → (e s : ℕ)
    → list_any (removes (record { 0 = s })) (history T) ≡ true
    → has_elements deck.entries e (rows_of (lists (rounds T))) s ≡ false
removed-by deck T right e s gone =
    elements-are deck.entries e (lists (rounds T)) s ∙ (ap (list_any here) (table-is T) ∙ none (lists T) right.stand)
  where
    here : Res × Elem → Bool
    here h = is_entry e (entry_of_res deck.entries h.0) && (h.1.task.system.0 == s)

    -- no task of it may stand
    off : (r : Res) (u : TaskId) → is_systems r ≡ true → may_stand T r u ≡ true → u.system.0 ≡ s → ⊥
    off r u wide may home =
        let left : list_any (λ x. removes_system_of u x.fixed) T ≡ true =
        sym (removes-history [] T right.made u)
        ∙ subst (λ (k : ℕ). list_any (removes (record { 0 = k })) (history T) ≡ true) (sym home) gone in
        absurd (let z : false ≡ true =
        sym (ap (λ b. not (b && list_any (λ x. removes_system_of u x.fixed) T)) wide ∙ ap not left) ∙ may in
        cc)

    none : (st : State) → list_all (λ h. may_stand T h.0 h.1.task) st ≡ true
        → list_any (λ h. is_entry e (entry_of_res deck.entries h.0) && (h.1.task.system.0 == s)) (systems_part st)
        ≡ false
    none [] all = refl
    none (h ∷ st) all =
        let both = and_parts (may_stand T h.0 h.1.task) (list_all (λ z. may_stand T z.0 z.1.task) st) all in
        go (is_systems h.0) refl both.0 (none st both.1)
      where
        go : (b : Bool) → is_systems h.0 ≡ b → may_stand T h.0 h.1.task ≡ true
            → list_any (λ z. is_entry e (entry_of_res deck.entries z.0) && (z.1.task.system.0 == s)) (systems_part st)
            ≡ false
            →
            list_any (λ z. is_entry e (entry_of_res deck.entries z.0) && (z.1.task.system.0 == s))
            (cond b (h ∷ systems_part st) (systems_part st))
            ≡ false
        go false is may more = more
        go true is may more =
            let apart : (h.1.task.system.0 == s) ≡ false =
            false_by (h.1.task.system.0 == s)
            (λ same. absurd (off h.0 h.1.task is may (eqb-true h.1.task.system.0 s same))) in
            let neither : (is_entry e (entry_of_res deck.entries h.0) && (h.1.task.system.0 == s)) ≡ false =
            ap (λ b. is_entry e (entry_of_res deck.entries h.0) && b) apart
            ∙ and-false (is_entry e (entry_of_res deck.entries h.0)) in
            ap (λ b.
            b
            || list_any (λ z. is_entry e (entry_of_res deck.entries z.0) && (z.1.task.system.0 == s)) (systems_part st))
            neither
            ∙ more
