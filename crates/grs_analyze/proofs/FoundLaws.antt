-- The tasks of a deadlock depend on one another by the rows of the lists, so the analysis finds them, and tells a cycle.
use Rattle.std.proofs.Common.{◌≡◌, Bool, true, false, cond, ◌&&◌, ◌||◌, List, [], ◌∷◌, map, refl, ap, sym, ◌∙◌, arith}
use Rattle.std.specs.List.{list_any, list_all}
use Rattle.std.specs.declared.cmp.Ordering.{Ordering}
use Rattle.std.specs.declared.cmp.Ordering.TheVariants.{Less, Equal, Greater}
use Rattle.std.specs.FinMap.{put}
use Rattle.std.specs.FinMap.Entries.{by_order}
use Rattle.grs_base.specs.Same.{same_task, same_res}
use Rattle.grs_base.specs.ResOrder.{res_order}
use Rattle.grs_base.specs.Rows.{lists_from, row_of, rows_of}
use Rattle.grs_base.specs.State.{State, list_of}
use Rattle.grs_base.specs.declared.resource.Elem.{Elem}
use Rattle.grs_base.specs.declared.resource.Res.{Res}
use Rattle.grs_base.specs.declared.resource.Row.{Row}
use Rattle.grs_base.specs.declared.resource.TaskId.{TaskId}
use Rattle.grs_base.proofs.OrderLaws.{res_order-IsAntisymmetric}
use Rattle.grs_base.proofs.SameLaws.{same_task-itself, same_res-exact, same_res-itself}
use Rattle.grs_wire.specs.History.{replay}
use Rattle.grs_wire.specs.declared.deck.Deck.{Deck}
use Rattle.grs_wire.specs.declared.history.HistEntry.{HistEntry}
use Rattle.grs_analyze.specs.Deadlocks.{IsStuck, IsDeadlock, DeadlocksAreFound}
use Rattle.grs_analyze.specs.Depends.{waits_for, waits_somewhere, depends_on}
use Rattle.grs_analyze.specs.Greatest.{is_among, is_supported}
use Rattle.grs_analyze.proofs.CycleLaws.{supported-told}
use Rattle.grs_analyze.proofs.DependLemmas.{depends-among}
use Rattle.grs_analyze.proofs.GreatestLaws.{greatest_holds}
use Rattle.grs_analyze.proofs.RowLaws.{rows-apart}

left_of : (b c : Bool) → b ≡ true → (b || c) ≡ true
left_of b c h = grind (arith, h)

right_of : (b c : Bool) → c ≡ true → (b || c) ≡ true
right_of b c h = grind (arith, h)

-- ---- a list of which something is true stands in its row
module _ (s : State) (r : Res) (f : List Elem → Bool) (holds : f (list_of s r) ≡ true) where
  -- whether the resource is there with such a list
  abbrev is_there : List (Res × List Elem) → Bool
  is_there es = list_any (λ e. same_res r e.0 && f e.1) es

  there-own : (k : Res) → same_res r k ≡ true → (same_res r k && f (list_of s k)) ≡ true
  there-own k same =
      let list : f (list_of s k) ≡ true = ap (λ (q : Res). f (list_of s q)) (sym (same_res-exact r k same)) ∙ holds in
      grind (arith, same, list)

  put-there : (es : List (Res × List Elem)) → is_there (put res_order r (list_of s r) es) ≡ true
  put-there [] = left_of (same_res r r && f (list_of s r)) false (there-own r (same_res-itself r))
  put-there (e ∷ es) = by (res_order r e.0) refl (put-there es)
    where
      by : (o : Ordering) → res_order r e.0 ≡ o → is_there (put res_order r (list_of s r) es) ≡ true
          → is_there
          (by_order o ((r, list_of s r) ∷ e ∷ es) ((e.0, list_of s r) ∷ es) (e ∷ put res_order r (list_of s r) es))
          ≡ true
      by Less is rest =
          left_of (same_res r r && f (list_of s r)) (is_there (e ∷ es)) (there-own r (same_res-itself r))
      by Equal is rest =
          let same : same_res r e.0 ≡ true =
          ap (λ (q : Res). same_res r q) (sym (res_order-IsAntisymmetric r e.0 is)) ∙ same_res-itself r in
          left_of (same_res r e.0 && f (list_of s r)) (is_there es) (grind (arith, same, holds))
      by Greater is rest = right_of (same_res r e.0 && f e.1) (is_there (put res_order r (list_of s r) es)) rest

  put-keeps : (k : Res) (es : List (Res × List Elem)) → is_there es ≡ true
      → is_there (put res_order k (list_of s k) es) ≡ true
  put-keeps k [] there = cc
  put-keeps k (e ∷ es) there = by (res_order k e.0) refl (put-keeps k es)
    where
      here : (b : Bool) → same_res r e.0 ≡ b → res_order k e.0 ≡ Equal
          → is_there ((e.0, list_of s k) ∷ es) ≡ true
      here true same is =
          let one : k ≡ e.0 = res_order-IsAntisymmetric k e.0 is in
          let list : (same_res r e.0 && f (list_of s k)) ≡ true =
          ap (λ (q : Res). same_res r e.0 && f (list_of s q)) one ∙ there-own e.0 same in
          left_of (same_res r e.0 && f (list_of s k)) (is_there es) list
      here false apart is = grind (arith, apart, there)

      behind : (b : Bool) → (same_res r e.0 && f e.1) ≡ b
          → (is_there es ≡ true → is_there (put res_order k (list_of s k) es) ≡ true)
          → is_there (e ∷ put res_order k (list_of s k) es) ≡ true
      behind true is rest = left_of (same_res r e.0 && f e.1) (is_there (put res_order k (list_of s k) es)) is
      behind false is rest =
          right_of (same_res r e.0 && f e.1) (is_there (put res_order k (list_of s k) es))
          (rest (grind (arith, is, there)))

      by : (o : Ordering) → res_order k e.0 ≡ o
          → (is_there es ≡ true → is_there (put res_order k (list_of s k) es) ≡ true)
          → is_there
          (by_order o ((k, list_of s k) ∷ e ∷ es) ((e.0, list_of s k) ∷ es) (e ∷ put res_order k (list_of s k) es))
          ≡ true
      by Less is rest = right_of (same_res r k && f (list_of s k)) (is_there (e ∷ es)) there
      by Equal is rest = here (same_res r e.0) refl is
      by Greater is rest = behind (same_res r e.0 && f e.1) refl rest

  lists-there : (hs : State) → list_any (λ h. same_res r h.0) hs ≡ true → is_there (lists_from s hs) ≡ true
  lists-there [] some = cc
  lists-there (h ∷ hs) some = by (same_res r h.0) refl (lists-there hs)
    where
      by : (b : Bool) → same_res r h.0 ≡ b
          → (list_any (λ x. same_res r x.0) hs ≡ true → is_there (lists_from s hs) ≡ true)
          → is_there (put res_order h.0 (list_of s h.0) (lists_from s hs)) ≡ true
      by true same rest =
          ap (λ (q : Res). is_there (put res_order q (list_of s q) (lists_from s hs)))
          (sym (same_res-exact r h.0 same))
          ∙ put-there (lists_from s hs)
      by false apart rest = put-keeps h.0 (lists_from s hs) (rest (grind (arith, some, apart)))

  rows-there : (es : List (Res × List Elem)) → is_there es ≡ true
      → list_any (λ (row : Row). f row.elems) (map row_of es) ≡ true
  rows-there [] there = cc
  rows-there (e ∷ es) there = by (f e.1) refl (rows-there es)
    where
      by : (b : Bool) → f e.1 ≡ b
          → (is_there es ≡ true → list_any (λ (row : Row). f row.elems) (map row_of es) ≡ true)
          → (f e.1 || list_any (λ (row : Row). f row.elems) (map row_of es)) ≡ true
      by true is rest = left_of (f e.1) (list_any (λ (row : Row). f row.elems) (map row_of es)) is
      by false is rest =
          right_of (f e.1) (list_any (λ (row : Row). f row.elems) (map row_of es)) (rest (grind (arith, is, there)))

-- ---- who waits for a resource waits in one of the rows
list_of-none : (r : Res) (hs : State) → list_any (λ h. same_res r h.0) hs ≡ false → list_of hs r ≡ []
list_of-none r [] none = refl
list_of-none r (h ∷ hs) none =
    let apart : same_res r h.0 ≡ false = grind (arith, none) in
    let rest : list_of hs r ≡ [] = list_of-none r hs (grind (arith, none)) in
    grind (arith, apart, rest)

waits-listed : (p : TaskId → Bool) (t : TaskId) (r : Res) (s : State) → waits_for p t (list_of s r) ≡ true
    → (b : Bool) → list_any (λ h. same_res r h.0) s ≡ b → b ≡ true
waits-listed p t r s waits true is = refl
waits-listed p t r s waits false is =
    ap (waits_for p t) (sym (list_of-none r s is)) ∙ waits

waits-rows : (p : TaskId → Bool) (t : TaskId) (r : Res) (s : State) → waits_for p t (list_of s r) ≡ true
    → waits_somewhere p t (rows_of s) ≡ true
waits-rows p t r s waits =
    rows-there s r (waits_for p t) waits (lists_from s s)
    (lists-there s r (waits_for p t) waits s
    (waits-listed p t r s waits (list_any (λ h. same_res r h.0) s) refl))

-- ---- tasks each of which is stuck behind one of them
each-of : (f : TaskId → Bool) (ts : List TaskId) → ((t : TaskId) → is_among ts t ≡ true → f t ≡ true)
    → list_all f ts ≡ true
each-of f [] h = refl
each-of f (t ∷ ts) h =
    let first : f t ≡ true = h t (left_of (same_task t t) (is_among ts t) (same_task-itself t)) in
    let others : list_all f ts ≡ true = each-of f ts (λ u among. h u (right_of (same_task u t) (is_among ts u) among)) in
    grind (arith, first, others)

stuck-depends : (deck : Deck) (hist : List HistEntry) (ts : List TaskId) (t : TaskId) → IsStuck deck hist ts t
    → depends_on (rows_of (replay deck.limit hist)) ts t ≡ true
stuck-depends deck hist ts t stuck =
    sym (depends-among ts t (rows_of (replay deck.limit hist)) (rows-apart deck.limit hist))
    ∙ waits-rows (is_among ts) t stuck.res (replay deck.limit hist) stuck.waits

deadlock-supported : (deck : Deck) (hist : List HistEntry) (ts : List TaskId) → IsDeadlock deck hist ts
    → is_supported (rows_of (replay deck.limit hist)) ts ≡ true
deadlock-supported deck hist ts dead =
    each-of (depends_on (rows_of (replay deck.limit hist)) ts) ts
    (λ t among. stuck-depends deck hist ts t (dead t among))

pub deadlocks_are_found : DeadlocksAreFound
deadlocks_are_found deck hist ts dead =
    let supported = deadlock-supported deck hist ts dead in
    record {
      found = greatest_holds (rows_of (replay deck.limit hist)) ts supported;
      told = λ none. supported-told (rows_of (replay deck.limit hist)) ts supported none;
    }
