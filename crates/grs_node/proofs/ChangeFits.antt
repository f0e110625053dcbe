-- What a system comes to in star mode by its table fits the deck, where the table does.
use Rattle.std.proofs.Common.{◌≡◌, ◌<◌, ◌≤◌, ◌+◌, ℕ, zero, suc, Bool, true, false, cond, ◌&&◌, List, [], ◌∷◌, ◌++◌}
use Rattle.std.proofs.Common.{length, map, replicate, Option, Some, None, refl, ◌∙◌, subst, arith}
use Rattle.std.specs.Prelude.{◌==◌, slice_get, IfSome}
use Rattle.std.specs.List.{list_all, range_with_len}
use Rattle.std.proofs.lemmas.Bool.{and_parts}
use Rattle.std.proofs.lemmas.Bool.Decides.{nat_tests}
use Rattle.std.proofs.lemmas.List.{length-replicate}
use Rattle.std.proofs.lemmas.List.FromFn.{length-map-range_with_len}
use Rattle.std.proofs.lemmas.Option.{slice_get_within, get_or_from_slice_get}
use Rattle.contention_mgr.specs.Elements.{elements_of, all_of}
use Rattle.contention_mgr.specs.Loads.{ranked_list, ranked_rows, loaded}
use Rattle.contention_mgr.specs.Manager.{items_of}
use Rattle.grs_base.specs.Limits.{most_commands}
use Rattle.grs_base.specs.State.{State}
use Rattle.grs_base.specs.declared.resource.Elem.{Elem}
use Rattle.grs_base.specs.declared.resource.Res.{Res}
use Rattle.grs_base.specs.declared.resource.SysId.{SysId}
use Rattle.grs_base.specs.declared.resource.TaskId.{TaskId}
use Rattle.grs_node.proofs.RemovalFits.{none-gathering}
use Rattle.grs_node.proofs.Orderly.{none-orderly}
use Rattle.grs_node.specs.Addressed.{is_within, is_addressed, PartFits}
use Rattle.grs_node.specs.Change.{entry_by_table, part_by_table, with_rank_by, with_list_ranks, with_ranks}
use Rattle.grs_node.specs.Change.{with_first_look, one_by_one}
use Rattle.grs_node.specs.Node.{NodeState, desk_count, words_by, switch_call, change_to_star}
use Rattle.grs_node.specs.Removal.{IsOrderly}
use Rattle.grs_node.specs.Star.{StarPart}
use Rattle.grs_wire.specs.Decks.{IsWithin, IsBounded}
use Rattle.grs_wire.specs.declared.deck.Deck.{Deck}
use Rattle.grs_wire.specs.declared.deck.Order.{Order}
use Rattle.grs_wire.specs.declared.deck.SystemDef.{SystemDef}
use Rattle.grs_wire.specs.declared.request.Req.{Req}
use Rattle.grs_wire.specs.declared.request.Want.{Want}
use Rattle.grs_wire.specs.declared.request.Want.TheVariants.{Enq, Deq, Release, Look}
use Rattle.lock_structure.specs.RankedRows.{RankedRow}
use Rattle.lock_structure.specs.Words.{word_fits}
use Rattle.mode_migrate.specs.Migrate.{managed_by_table, part_by, interest_by_table, table_words, ranked_by}
use Rattle.mode_migrate.proofs.PartLaws.{all-part, all-list}
use Rattle.mode_migrate.proofs.WordLaws.{own_words_fit}
use Rattle.task_state.specs.View.{TasksView, is_task, with_state, with_rank, with_outstanding}
use Rattle.grs_wire.specs.declared.deck.Order.TheVariants as orders

both : (a b : Bool) → a ≡ true → b ≡ true → (a && b) ≡ true
both true true e f = refl
both true false e f = absurd cc
both false b e f = absurd cc

-- ---- the elements of a manager
module _ (p : TaskId → Bool) where
  list-elements : (r : Res) (es : List Elem) (ns : List ℕ) → list_all (λ x. p x.task) es ≡ true
      → elements_of p (ranked_list r es ns) ≡ true
  list-elements r [] ns h = refl
  list-elements r (x ∷ es) [] h = refl
  list-elements r (x ∷ es) (n ∷ ns) h =
      both (p x.task) _ (and_parts (p x.task) _ h).0 (list-elements r es ns (and_parts (p x.task) _ h).1)

  append-elements : (r : Res) (es : List Elem) (ns : List ℕ) (xs : List RankedRow) → list_all (λ x. p x.task) es ≡ true
      → elements_of p (ranked_rows xs) ≡ true → elements_of p (ranked_list r es ns ++ ranked_rows xs) ≡ true
  append-elements r [] ns xs h k = k
  append-elements r (x ∷ es) [] xs h k = k
  append-elements r (x ∷ es) (n ∷ ns) xs h k =
      both (p x.task) _ (and_parts (p x.task) _ h).0 (append-elements r es ns xs (and_parts (p x.task) _ h).1 k)

  rows-elements : (xs : List RankedRow) → list_all (λ x. list_all (λ y. p y.task) x.0.elems) xs ≡ true
      → elements_of p (ranked_rows xs) ≡ true
  rows-elements [] h = refl
  rows-elements (x ∷ xs) h =
      append-elements x.0.res x.0.elems x.1 xs (and_parts (list_all (λ y. p y.task) x.0.elems) _ h).0
      (rows-elements xs (and_parts (list_all (λ y. p y.task) x.0.elems) _ h).1)

  module _ (entries : ℕ) (s : SysId) (t : State) (h : list_all (λ x. p x.1.task) t ≡ true) where
    entry-elements : (e : ℕ) → elements_of p (items_of (entry_by_table entries s t e)) ≡ true
    entry-elements e = go (managed_by_table entries s t e)
      where
        go : (b : Bool) → elements_of p (items_of (cond b (Some (loaded (part_by entries t e))) None)) ≡ true
        go true =
            rows-elements (part_by entries t e)
            (all-part (list_all (λ y. p y.task)) entries t e (λ r. all-list (λ y. p y.task) t r h))
        go false = refl

    table-elements : (a n : ℕ) → all_of p (map (entry_by_table entries s t) (range_with_len a n)) ≡ true
    table-elements a zero = refl
    table-elements a (suc n) = both _ _ (entry-elements a) (table-elements (a + 1) n)

-- the part of a system
pub part-fits : (deck : Deck) (s : SysId) (t : State) → 0 < deck.entries
    → list_all (λ x. is_within deck x.1.task) t ≡ true → PartFits deck s.0 (part_by_table deck.entries s t)
part-fits deck s t some within = record {
  system = refl;
  some = some;
  entries = length-map-range_with_len (entry_by_table deck.entries s t) 0 deck.entries;
  interest = length-map-range_with_len (interest_by_table deck.entries s t) 0 deck.entries;
  elements = table-elements (is_within deck) deck.entries s t within 0 deck.entries;
  held = refl;
  gathering = none-gathering deck;
  orderly =
      none-orderly (part_by_table deck.entries s t).manager deck.entries (replicate deck.entries None)
      (part_by_table deck.entries s t).interest
      (length-map-range_with_len (entry_by_table deck.entries s t) 0 deck.entries);
}

-- ---- the desk
pub desk_few : (deck : Deck) (s : ℕ) → IsBounded deck → desk_count (slice_get deck.systems s) ≤ most_commands
desk_few deck s h = go (slice_get deck.systems s) refl
  where
    go : (o : Option SystemDef) → slice_get deck.systems s ≡ o → desk_count o ≤ most_commands
    go None is = omega arith
    go (Some d) is =
        let own : IsWithin d =
        subst IsWithin (get_or_from_slice_get deck.systems s d d is)
        (h.fits.each s d (slice_get_within deck.systems s d is)) in
        own.desk

-- ---- tasks that change stay those of their system
system-list : (v : TasksView) (r : Res) (es : List Elem) (ns : List ℕ) → (with_list_ranks v r es ns).system ≡ v.system
unfolding with_rank with_state
system-list v r [] ns = refl
system-list v r (x ∷ es) [] = refl
system-list v r (x ∷ es) (n ∷ ns) = system-list (with_rank_by v r x.task n) r es ns ∙ go (is_task v x.task)
  where
    go : (b : Bool) → (cond b (with_rank v x.task r n) v).system ≡ v.system
    go true = refl
    go false = refl

system-ranks : (v : TasksView) (xs : List RankedRow) → (with_ranks v xs).system ≡ v.system
system-ranks v [] = refl
system-ranks v (x ∷ xs) =
    system-ranks (with_list_ranks v x.0.res x.0.elems x.1) xs ∙ system-list v x.0.res x.0.elems x.1

system-look : (v : TasksView) (t : TaskId) (w : Want) → (with_first_look v t w).system ≡ v.system
unfolding with_outstanding with_state
system-look v t (Enq r c ret full) = refl
system-look v t (Deq r have) = refl
system-look v t (Release r) = refl
system-look v t (Look first count f) = refl

system-looks : (v : TasksView) (qs : List Req) → (one_by_one v qs).system ≡ v.system
system-looks v [] = refl
system-looks v (q ∷ qs) = system-looks (with_first_look v q.task q.want) qs ∙ system-look v q.task q.want

pub system-changed : (deck : Deck) (n : NodeState) → (change_to_star deck n).tasks.system ≡ n.tasks.system
unfolding change_to_star
system-changed deck n =
    system-ranks (one_by_one n.tasks n.outbox) (ranked_by deck.entries n.shared) ∙ system-looks n.tasks n.outbox

pub star-changed : (deck : Deck) (n : NodeState)
    → (change_to_star deck n).star ≡ Some (part_by_table deck.entries (record { 0 = n.tasks.system }) n.shared)
unfolding change_to_star
star-changed deck n = refl

-- it knows as many systems to be removed, and gathers nothing
pub known-changed : (deck : Deck) (n : NodeState) → (change_to_star deck n).known ≡ n.known
unfolding change_to_star
known-changed deck n = refl

pub orderly-changed : (deck : Deck) (n : NodeState) → IfSome (change_to_star deck n).star IsOrderly
unfolding change_to_star
orderly-changed deck n =
    let p = part_by_table deck.entries (record { 0 = n.tasks.system }) n.shared in
    none-orderly p.manager deck.entries (replicate deck.entries None) p.interest
    (length-map-range_with_len
    (entry_by_table deck.entries (record { 0 = n.tasks.system }) n.shared) 0 deck.entries)

-- ---- the words that a system asks for
no-words-fit : (n k : ℕ) → list_all (word_fits n) (replicate k 0) ≡ true
no-words-fit n zero = refl
no-words-fit n (suc k) = no-words-fit n k

words-fit : (deck : Deck) (t : State) (o : Option StarPart) → list_all (λ x. is_within deck x.1.task) t ≡ true
    → ((length (words_by deck.entries t o) == deck.entries)
    && list_all (word_fits (length deck.systems)) (words_by deck.entries t o))
    ≡ true
words-fit deck t None within =
    let fit = own_words_fit (length deck.systems) deck.entries t within in both _ _ (same fit.0) fit.1
  where
    same : length (table_words deck.entries t) ≡ deck.entries
        → (length (table_words deck.entries t) == deck.entries) ≡ true
    same h = grind (arith, nat_tests, h)
words-fit deck t (Some p) within =
    both _ _ (same (length-replicate {A = ℕ} deck.entries 0)) (no-words-fit (length deck.systems) deck.entries)
  where
    same : length (replicate {A = ℕ} deck.entries 0) ≡ deck.entries
        → (length (replicate {A = ℕ} deck.entries 0) == deck.entries) ≡ true
    same h = grind (arith, nat_tests, h)

pub switch-fits : (deck : Deck) (n : NodeState) (o : Option Order)
    → list_all (λ x. is_within deck x.1.task) n.shared ≡ true
    → is_addressed deck n.tasks.system (switch_call deck n o) ≡ true
switch-fits deck n None within = refl
switch-fits deck n (Some orders.Star) within = words-fit deck n.shared n.star within
switch-fits deck n (Some (orders.Vary t)) within = refl
