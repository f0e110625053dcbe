-- Whom the lock words of a table name: they go with the elements of the table.
use Rattle.std.proofs.Common.{◌≡◌, ◌<◌, ◌≤◌, ◌%◌, ℕ, zero, suc, Bool, true, false, cond, ◌&&◌, ◌||◌, List, [], ◌∷◌}
use Rattle.std.proofs.Common.{length, Option, Some, None, refl, ap, sym, ◌∙◌, subst, arith}
use Rattle.std.specs.Prelude.{◌==◌, nat_lt}
use Rattle.std.specs.List.{All, list_any}
use Rattle.std.proofs.lemmas.Bool.{and_from, and_right, eq-eqb, eqb-true, lt-ltb, ltb-false, ltb-true, or_left}
use Rattle.std.proofs.lemmas.Bool.{or_right}
use Rattle.std.proofs.lemmas.List.{get_or_past}
use Rattle.std.proofs.lemmas.List.FromFn.{get_or-map-range_with_len, length-map-range_with_len}
use Rattle.std.proofs.lemmas.Nat.{mod_below}
use Rattle.grs_base.specs.Limits.{most_systems}
use Rattle.grs_base.specs.Rows.{rows_of}
use Rattle.grs_base.specs.Slices.{slice_of}
use Rattle.grs_base.specs.State.{State}
use Rattle.grs_base.specs.declared.resource.Res.{Res}
use Rattle.grs_base.specs.declared.resource.Res.TheVariants.{Step, System, Systems}
use Rattle.grs_base.specs.declared.resource.Row.{Row}
use Rattle.grs_base.specs.declared.resource.SysId.{SysId}
use Rattle.grs_wire.specs.LockWords.{interest, manager}
use Rattle.grs_wire.specs.Masks.{has}
use Rattle.grs_wire.proofs.MaskLaws.{has-zero}
use Rattle.lock_structure.specs.Entries.{entry_of_res, is_entry}
use Rattle.lock_structure.specs.Laws.{IsManaged, ManagedBy, is_interested, manager_at}
use Rattle.lock_structure.specs.Least.{or_this, least_below}
use Rattle.lock_structure.specs.Words.{word_at}
use Rattle.lock_structure.proofs.LeastLaws.{least-passes, none-passes}
use Rattle.mode_migrate.specs.Migrate.{has_elements, interest_by, is_by, manager_by, set_below}
use Rattle.mode_migrate.specs.Migrate.{table_words, word_by}
use Rattle.mode_migrate.specs.Laws.{are_within}
use Rattle.mode_migrate.proofs.Rows.{rows-pass}
use Rattle.mode_migrate.proofs.WordLaws.{elements-within, has-past, has-set, interest-word, manager-word, set-none}

-- ---- the systems below a number that pass a test
has-below : (n : ℕ) (test : ℕ → Bool) (s : ℕ) → has (set_below n test) s ≡ (nat_lt s n && test s)
has-below n test s = go (nat_lt s n) refl
  where
    go : (b : Bool) → nat_lt s n ≡ b → has (set_below n test) s ≡ (b && test s)
    go true e = has-set n test s (ltb-true s n e)
    go false e = has-past n test s (ltb-false s n e)

-- where nobody passes nobody is found
none-found : (n : ℕ) (test : ℕ → Bool) → ((s : ℕ) → test s ≡ false) → least_below n test ≡ None
none-found zero test h = refl
none-found (suc n) test h =
    ap (λ o. or_this o n (test n)) (none-found n test h) ∙ ap (λ b. cond b (Some (record { 0 = n })) None) (h n)

-- ---- whose elements are on resources of an entry
pub elements-are : (entries e : ℕ) (t : State) (s : ℕ)
    → has_elements entries e (rows_of t) s
    ≡ list_any (λ h. is_entry e (entry_of_res entries h.0) && (h.1.task.system.0 == s)) t
elements-are entries e t s = rows-pass (λ r. is_entry e (entry_of_res entries r)) (is_by s) t

-- an element is of some system's task
some-system : (p : Res → Bool) (t : State) → list_any (λ h. p h.0) t ≡ true
    → (s : ℕ) × (list_any (λ h. p h.0 && (h.1.task.system.0 == s)) t ≡ true)
some-system p [] h = absurd (cc)
some-system p (x ∷ t) h = go (p x.0) refl h (some-system p t)
  where
    go : (b : Bool) → p x.0 ≡ b → (b || list_any (λ y. p y.0) t) ≡ true
        → (list_any (λ y. p y.0) t ≡ true → (s : ℕ) × (list_any (λ y. p y.0 && (y.1.task.system.0 == s)) t ≡ true))
        → (s : ℕ) × (list_any (λ y. p y.0 && (y.1.task.system.0 == s)) (x ∷ t) ≡ true)
    go true e f more =
        let s : ℕ = x.1.task.system.0 in (
          s,
          or_left (p x.0 && (s == s)) (list_any (λ y. p y.0 && (y.1.task.system.0 == s)) t)
              (and_from (p x.0) (s == s) e (eq-eqb s s refl)),
        )
    go false e f more =
        let a = more f in (
          a.0,
          or_right (p x.0 && (x.1.task.system.0 == a.0)) (list_any (λ y. p y.0 && (y.1.task.system.0 == a.0)) t) a.1,
        )

-- a resource of an entry is of one that there is
pub entry-within : (entries e : ℕ) (r : Res) → 0 < entries → is_entry e (entry_of_res entries r) ≡ true → e < entries
entry-within entries e (Step s j q r) some h = absurd (cc)
entry-within entries e (System s q r) some h = absurd (cc)
entry-within entries e (Systems q r) some h =
    subst (λ k. k < entries) (eqb-true (slice_of q r % entries) e h) (mod_below (slice_of q r) entries some)

none-beyond : (entries e : ℕ) (t : State) (s : ℕ) → 0 < entries → entries ≤ e
    → list_any (λ h. is_entry e (entry_of_res entries h.0) && (h.1.task.system.0 == s)) t ≡ false
none-beyond entries e [] s some past = refl
none-beyond entries e (x ∷ t) s some past =
    go (is_entry e (entry_of_res entries x.0)) refl (none-beyond entries e t s some past)
  where
    go : (b : Bool) → is_entry e (entry_of_res entries x.0) ≡ b
        → list_any (λ h. is_entry e (entry_of_res entries h.0) && (h.1.task.system.0 == s)) t ≡ false
        → ((b && (x.1.task.system.0 == s))
        || list_any (λ h. is_entry e (entry_of_res entries h.0) && (h.1.task.system.0 == s)) t)
        ≡ false
    go true f more = absurd (let l = entry-within entries e x.0 some f in omega (arith, l, past))
    go false f more = more

-- ---- the word of an entry
module _ (entries : ℕ) (some : 0 < entries) (t : State) (few : are_within most_systems t ≡ true) where
  abbrev rows : List Row
  rows = rows_of t

  abbrev test : ℕ → ℕ → Bool
  test e = has_elements entries e (rows_of t)

  word-here : (e : ℕ) → e < entries → word_at (table_words entries t) e ≡ word_by entries e rows
  word-here e inside = get_or-map-range_with_len (λ i. word_by entries i rows) 0 entries e e 0 inside (omega arith)

  word-beyond : (e : ℕ) → entries ≤ e → word_at (table_words entries t) e ≡ 0
  word-beyond e past =
      get_or_past (table_words entries t) e 0
      (omega (arith, past, length-map-range_with_len (λ i. word_by entries i rows) 0 entries))

  nobody : (e s : ℕ) → entries ≤ e → has_elements entries e rows s ≡ false
  nobody e s past = elements-are entries e t s ∙ none-beyond entries e t s some past

  by_place : (e : ℕ) (P : Type 0) → (e < entries → P) → (entries ≤ e → P) → P
  by_place e P here beyond = go (nat_lt e entries) refl
    where
      go : (b : Bool) → nat_lt e entries ≡ b → P
      go true h = here (ltb-true e entries h)
      go false h = beyond (ltb-false e entries h)

  -- a system has interest in an entry where it has an element there
  pub table-interest : (e s : ℕ) → is_interested (table_words entries t) e s ≡ has_elements entries e (rows_of t) s
  table-interest e s = by_place e (is_interested (table_words entries t) e s ≡ has_elements entries e rows s)
      (λ inside.
      ap (λ w. has (interest w) s) (word-here e inside)
      ∙ (ap (λ m. has m s) (interest-word entries e rows)
      ∙ (has-below most_systems (test e) s ∙ within e s (test e s) refl)))
      (λ past. ap (λ w. has (interest w) s) (word-beyond e past) ∙ (has-zero s ∙ sym (nobody e s past)))
    where
      within : (i u : ℕ) (b : Bool) → test i u ≡ b → (nat_lt u most_systems && test i u) ≡ test i u
      within i u true h =
          and_from (nat_lt u most_systems) (test i u) (elements-within most_systems entries i t u few h) h ∙ sym h
      within i u false h = and_right (nat_lt u most_systems) (test i u) h ∙ sym h

  pub table-manager : (e : ℕ) → manager_at (table_words entries t) e ≡ manager_by entries e (rows_of t)
  unfolding manager
  table-manager e = by_place e (manager_at (table_words entries t) e ≡ manager_by entries e rows)
      (λ inside. ap manager (word-here e inside) ∙ manager-word entries e rows)
      (λ past. ap manager (word-beyond e past) ∙ sym (none-found most_systems (test e) (λ s. nobody e s past)))

  word-managed : (e : ℕ) → IsManaged (word_by entries e rows)
  word-managed e =
      subst (λ o. ManagedBy o (interest (word_by entries e rows))) (sym (manager-word entries e rows))
      (subst (λ m. ManagedBy (manager_by entries e rows) m) (sym (interest-word entries e rows))
      (go (manager_by entries e rows) refl))
    where
      go : (o : Option SysId) → manager_by entries e rows ≡ o → ManagedBy o (interest_by entries e rows)
      go None at = set-none most_systems (test e) at
      go (Some s) at =
          let k = least-passes most_systems (test e) s at in
          has-below most_systems (test e) s.0
          ∙ and_from (nat_lt s.0 most_systems) (test e s.0) (lt-ltb s.0 most_systems k.0) k.1

  pub table-managed : All IsManaged (table_words entries t)
  table-managed e d within =
      let inside : e < entries =
      omega (arith, within, length-map-range_with_len (λ i. word_by entries i rows) 0 entries) in
      subst IsManaged
      (sym (get_or-map-range_with_len (λ i. word_by entries i rows) 0 entries e e d inside (omega arith)))
      (word-managed e)

  -- where there is no manager there is no element
  pub table-free : (e : ℕ) → manager_at (table_words entries t) e ≡ None
      → list_any (λ h. is_entry e (entry_of_res entries h.0)) t ≡ false
  table-free e none = go (list_any (λ h. is_entry e (entry_of_res entries h.0)) t) refl
    where
      go : (b : Bool) → list_any (λ h. is_entry e (entry_of_res entries h.0)) t ≡ b → b ≡ false
      go false h = refl
      go true h = absurd (
          let a = some-system (λ r. is_entry e (entry_of_res entries r)) t h in
          let there : has_elements entries e rows a.0 ≡ true = elements-are entries e t a.0 ∙ a.1 in
          let off : has_elements entries e rows a.0 ≡ false =
          none-passes most_systems (test e) (sym (table-manager e) ∙ none) a.0
          (ltb-true a.0 most_systems (elements-within most_systems entries e t a.0 few there)) in
          let both : true ≡ false = sym there ∙ off in cc
          )

  -- as many words as entries
  pub table-count : length (table_words entries t) ≡ entries
  table-count = length-map-range_with_len (λ i. word_by entries i rows) 0 entries

  -- nobody has an element in an entry that isn't there, and nobody manages it
  pub has-beyond : (e s : ℕ) → entries ≤ e → has_elements entries e (rows_of t) s ≡ false
  has-beyond e s past = nobody e s past

  pub manager-beyond : (e : ℕ) → entries ≤ e → manager_by entries e (rows_of t) ≡ None
  manager-beyond e past = none-found most_systems (test e) (λ s. nobody e s past)
