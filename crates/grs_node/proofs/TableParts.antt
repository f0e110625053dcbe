-- The part in star mode to which a table leads: of the entries that the words of the table give to a system it keeps
-- the lists of the table, each by its ranks.
use Rattle.std.proofs.Common.{◌≡◌, ◌<◌, ◌≤◌, ◌+◌, ℕ, Bool, true, false, cond, ◌||◌, List, [], ◌∷◌, ◌++◌, length, map}
use Rattle.std.proofs.Common.{Some, None, refl, ap, sym, ◌∙◌, subst, arith, append-nil}
use Rattle.std.specs.Prelude.{filter, is_some, nat_lt, slice_index_or, unwrap_or}
use Rattle.std.specs.FinMap.{find}
use Rattle.std.specs.List.{range_with_len}
use Rattle.std.proofs.lemmas.Bool.{ltb-false, ltb-true}
use Rattle.std.proofs.lemmas.List.{get_or_past}
use Rattle.std.proofs.lemmas.List.FromFn.{get_or-map-range_with_len, length-map-range_with_len}
use Rattle.std.proofs.lemmas.Option.{same_Some, unwrap_or-slice_get}
use Rattle.contention_mgr.specs.Laws.{AreWellKept, IsWellKept}
use Rattle.contention_mgr.specs.Loads.{loaded, ranked_list, ranked_rows}
use Rattle.contention_mgr.specs.Manager.{Ranked, items_of, managed_at, plain}
use Rattle.contention_mgr.proofs.LawProofs.{loaded-ranked}
use Rattle.contention_mgr.proofs.OwnLemmas.{loaded_untold_own}
use Rattle.grs_base.specs.ResOrder.{res_order}
use Rattle.grs_base.specs.Rows.{lists_of, row_of, rows_of}
use Rattle.grs_base.specs.Same.{same_res}
use Rattle.grs_base.specs.State.{State, list_of}
use Rattle.grs_base.specs.declared.resource.Elem.{Elem}
use Rattle.grs_base.specs.declared.resource.Res.{Res}
use Rattle.grs_base.specs.declared.resource.Row.{Row}
use Rattle.grs_base.specs.declared.resource.SysId.{SysId}
use Rattle.grs_base.proofs.SameLaws.{same_res-exact}
use Rattle.grs_base.specs.Limits.{most_systems}
use Rattle.grs_wire.specs.LockWords.{is_manager}
use Rattle.lock_structure.specs.Entries.{entry_of_res, is_entry}
use Rattle.lock_structure.specs.Laws.{manager_at}
use Rattle.mode_migrate.specs.Migrate.{has_elements, interest_by_table, managed_by_table, numbered_from, part_by}
use Rattle.mode_migrate.specs.Migrate.{row_is_of, table_words}
use Rattle.mode_migrate.proofs.PartLaws.{part-apart, part-rises}
use Rattle.mode_migrate.proofs.Rows.{Lists, StandApart, found-list, is_listed, lists-apart, tie-is}
use Rattle.mode_migrate.proofs.TableWords.{has-beyond, manager-beyond, table-manager}
use Rattle.mode_migrate.specs.Laws.{are_within}
use Rattle.grs_node.specs.Change.{entry_by_table, part_by_table}
use Rattle.grs_node.specs.Star.{StarPart, has_interest, manages}

-- ---- the plain lists of numbered rows
-- the elements of rows, row by row
abbrev under_one : Res → List Elem → State
under_one r es = map (λ e. (r, e)) es

abbrev all_rows : List Row → State
all_rows [] = []
all_rows (x ∷ xs) = under_one x.res x.elems ++ all_rows xs

plain-list : (r : Res) (n : ℕ) (es : List Elem)
    → plain (ranked_list r es (range_with_len n (length es))) ≡ under_one r es
plain-list r n [] = refl
plain-list r n (e ∷ es) = ap (λ z. (r, e) ∷ z) (plain-list r (n + 1) es)

plain-append : (xs ys : List Ranked) → plain (xs ++ ys) ≡ plain xs ++ plain ys
plain-append [] ys = refl
plain-append (x ∷ xs) ys = ap (λ z. (x.res, x.elem) ∷ z) (plain-append xs ys)

plain-rows : (n : ℕ) (xs : List Row) → plain (ranked_rows (numbered_from n xs)) ≡ all_rows xs
plain-rows n [] = refl
plain-rows n (x ∷ xs) =
    plain-append (ranked_list x.res x.elems (range_with_len n (length x.elems)))
    (ranked_rows (numbered_from (n + length x.elems) xs))
    ∙ (ap (λ z. z ++ plain (ranked_rows (numbered_from (n + length x.elems) xs))) (plain-list x.res n x.elems)
    ∙ ap (λ z. under_one x.res x.elems ++ z) (plain-rows (n + length x.elems) xs))

-- ---- the list of a resource among them
list-append : (s z : State) (q : Res) → list_of (s ++ z) q ≡ list_of s q ++ list_of z q
list-append [] z q = refl
list-append (x ∷ s) z q = go (same_res q x.0) (list-append s z q)
  where
    go : (b : Bool) → list_of (s ++ z) q ≡ list_of s q ++ list_of z q
        → cond b (x.1 ∷ list_of (s ++ z) q) (list_of (s ++ z) q)
        ≡ cond b (x.1 ∷ list_of s q) (list_of s q) ++ list_of z q
    go true h = ap (λ es. x.1 ∷ es) h
    go false h = h

list-one : (r q : Res) (b : Bool) → same_res q r ≡ b → (es : List Elem) → list_of (under_one r es) q ≡ cond b es []
list-one r q true h [] = refl
list-one r q false h [] = refl
list-one r q true h (e ∷ es) =
    ap (λ b. cond b (e ∷ list_of (under_one r es) q) (list_of (under_one r es) q)) h
    ∙ ap (λ z. e ∷ z) (list-one r q true h es)
list-one r q false h (e ∷ es) =
    ap (λ b. cond b (e ∷ list_of (under_one r es) q) (list_of (under_one r es) q)) h ∙ list-one r q false h es

-- rows of other resources have none of it
none-among : (test : Row → Bool) (q : Res) (es : Lists) → is_listed q es ≡ false
    → list_of (all_rows (filter test (map row_of es))) q ≡ []
none-among test q [] h = refl
none-among test q (e ∷ es) h = go (same_res q e.0) refl h (test (row_of e)) (none-among test q es)
  where
    go : (b : Bool) → same_res q e.0 ≡ b → (b || is_listed q es) ≡ false → (c : Bool)
        → (is_listed q es ≡ false → list_of (all_rows (filter test (map row_of es))) q ≡ []) →
        list_of (all_rows (cond c (row_of e ∷ filter test (map row_of es)) (filter test (map row_of es)))) q ≡ []
    go true f g c more = absurd (cc)
    go false f g true more =
        list-append (under_one e.0 e.1) (all_rows (filter test (map row_of es))) q
        ∙ (ap (λ z. z ++ list_of (all_rows (filter test (map row_of es))) q) (list-one e.0 q false f e.1) ∙ more g)
    go false f g false more = more g

-- of a resource that passes it is what is found, and of others nothing
module _ (p : Res → Bool) where
  found-among : (q : Res) (es : Lists) → StandApart es
      → list_of (all_rows (filter (λ x. p x.res) (map row_of es))) q
      ≡ cond (p q) (unwrap_or (find res_order q es) []) []
  found-among q [] h = go (p q)
    where
      go : (b : Bool) → ◌≡◌ {A = List Elem} [] (cond b [] [])
      go true = refl
      go false = refl
  found-among q (e ∷ es) h = go (same_res q e.0) refl (p e.0) refl (found-among q es h.1)
    where
      rest : List Row
      rest = filter (λ x. p x.res) (map row_of es)

      found : (b : Bool) → same_res q e.0 ≡ b → find res_order q (e ∷ es) ≡ cond b (Some e.1) (find res_order q es)
      found b f = ap (λ c. cond c (Some e.1) (find res_order q es)) (tie-is q e.0 ∙ f)

      absent : same_res q e.0 ≡ true → is_listed q es ≡ false
      absent f = ap (λ r. is_listed r es) (same_res-exact q e.0 f) ∙ h.0

      go : (b : Bool) → same_res q e.0 ≡ b → (c : Bool) → p e.0 ≡ c
          → list_of (all_rows rest) q ≡ cond (p q) (unwrap_or (find res_order q es) []) [] →
          list_of (all_rows (cond c (row_of e ∷ rest) rest)) q
          ≡ cond (p q) (unwrap_or (find res_order q (e ∷ es)) []) []
      go true f true k more =
          list-append (under_one e.0 e.1) (all_rows rest) q
          ∙ (ap (λ z. z ++ list_of (all_rows rest) q) (list-one e.0 q true f e.1)
          ∙ (ap (λ z. e.1 ++ z) (none-among (λ x. p x.res) q es (absent f)) ∙ (append-nil e.1
          ∙ sym (ap (λ d. cond d (unwrap_or (find res_order q (e ∷ es)) []) []) (ap p (same_res-exact q e.0 f) ∙ k)
          ∙ ap (λ o. unwrap_or o []) (found true f)))))
      go true f false k more =
          none-among (λ x. p x.res) q es (absent f)
          ∙ sym (ap (λ d. cond d (unwrap_or (find res_order q (e ∷ es)) []) []) (ap p (same_res-exact q e.0 f) ∙ k))
      go false f true k more =
          list-append (under_one e.0 e.1) (all_rows rest) q
          ∙ (ap (λ z. z ++ list_of (all_rows rest) q) (list-one e.0 q false f e.1)
          ∙ (more ∙ ap (λ o. cond (p q) (unwrap_or o []) []) (sym (found false f))))
      go false f false k more = more ∙ ap (λ o. cond (p q) (unwrap_or o []) []) (sym (found false f))

-- The list of a resource that an entry of the table is loaded with.
pub part-list : (entries : ℕ) (t : State) (e : ℕ) (q : Res)
    → list_of (plain (loaded (part_by entries t e)).items) q
    ≡ cond (is_entry e (entry_of_res entries q)) (list_of t q) []
part-list entries t e q =
    ap (λ s. list_of s q) (plain-rows 1 (filter (row_is_of entries e) (rows_of t)))
    ∙ (found-among (λ r. is_entry e (entry_of_res entries r)) q (lists_of t) (lists-apart t)
    ∙ ap (λ es. cond (is_entry e (entry_of_res entries q)) es []) (found-list t q))

-- ---- the part of a system
module _ (entries : ℕ) (some : 0 < entries) (s : SysId) (t : State) (few : are_within most_systems t ≡ true) where
  abbrev p : StarPart
  p = part_by_table entries s t

  by_place : (e : ℕ) (P : Type 0) → (e < entries → P) → (entries ≤ e → P) → P
  by_place e P here beyond = go (nat_lt e entries) refl
    where
      go : (b : Bool) → nat_lt e entries ≡ b → P
      go true h = here (ltb-true e entries h)
      go false h = beyond (ltb-false e entries h)

  -- what it keeps of an entry
  pub table-kept : (e : ℕ) → managed_at (part_by_table entries s t).manager e ≡ entry_by_table entries s t e
  table-kept e =
      unwrap_or-slice_get (map (entry_by_table entries s t) (range_with_len 0 entries)) e None
      ∙ by_place e (slice_index_or (map (entry_by_table entries s t) (range_with_len 0 entries)) e None
      ≡ entry_by_table entries s t e)
      (λ inside. get_or-map-range_with_len (entry_by_table entries s t) 0 entries e e None inside (omega arith))
      (λ past.
      get_or_past (map (entry_by_table entries s t) (range_with_len 0 entries)) e None
      (omega (arith, past, length-map-range_with_len (entry_by_table entries s t) 0 entries))
      ∙ sym (ap (λ b. cond b (Some (loaded (part_by entries t e))) None)
      (ap (λ o. is_manager o s) (manager-beyond entries some t few e past))))

  -- it manages the entries whose words name it, and has interest in those whose words hold it
  pub table-manages : (e : ℕ)
      → manages (part_by_table entries s t) e ≡ is_manager (manager_at (table_words entries t) e) s
  table-manages e =
      ap is_some (table-kept e)
      ∙ (go (managed_by_table entries s t e) ∙ ap (λ o. is_manager o s) (sym (table-manager entries some t few e)))
    where
      go : (b : Bool) → is_some (cond b (Some (loaded (part_by entries t e))) None) ≡ b
      go true = refl
      go false = refl

  pub table-interested : (e : ℕ) → has_interest (part_by_table entries s t) e ≡ has_elements entries e (rows_of t) s.0
  table-interested e = by_place e (has_interest (part_by_table entries s t) e ≡ interest_by_table entries s t e)
      (λ inside. get_or-map-range_with_len (interest_by_table entries s t) 0 entries e e false inside (omega arith))
      (λ past.
      get_or_past (map (interest_by_table entries s t) (range_with_len 0 entries)) e false
      (omega (arith, past, length-map-range_with_len (interest_by_table entries s t) 0 entries))
      ∙ sym (has-beyond entries some t few e s.0 past))

  -- of an entry that it manages it keeps the table's lists
  pub table-lists : (e : ℕ) → manages (part_by_table entries s t) e ≡ true → (q : Res)
      → list_of (plain (items_of (managed_at (part_by_table entries s t).manager e))) q
      ≡ cond (is_entry e (entry_of_res entries q)) (list_of t q) []
  table-lists e h q =
      ap (λ o. list_of (plain (items_of o)) q) (table-kept e)
      ∙ go (managed_by_table entries s t e) (ap is_some (sym (table-kept e)) ∙ h)
    where
      go : (b : Bool) → is_some (cond b (Some (loaded (part_by entries t e))) None) ≡ true
          → list_of (plain (items_of (cond b (Some (loaded (part_by entries t e))) None))) q
          ≡ cond (is_entry e (entry_of_res entries q)) (list_of t q) []
      go true f = part-list entries t e q
      go false f = absurd (cc)

  -- there ranks rise, and nobody is still to be told
  pub table-well : AreWellKept (part_by_table entries s t).manager
  table-well e m at = go (managed_by_table entries s t e) (sym (table-kept e) ∙ at)
    where
      go : (b : Bool) → cond b (Some (loaded (part_by entries t e))) None ≡ Some m → IsWellKept s.0 m
      go true f =
          subst (IsWellKept s.0) (same_Some (loaded (part_by entries t e)) m f)
          (record {
            ranked = loaded-ranked (part_by entries t e) (part-apart entries t e) (part-rises entries t e);
            untold = loaded_untold_own s.0 (part_by entries t e);
          })
      go false f = absurd (cc)

  pub table-counts : (length (part_by_table entries s t).manager.entries ≡ entries)
      × (length (part_by_table entries s t).interest ≡ entries)
  table-counts = (
    length-map-range_with_len (entry_by_table entries s t) 0 entries,
    length-map-range_with_len (interest_by_table entries s t) 0 entries,
  )
