-- The tasks that an answer of the history names are of the deck.
use Rattle.grs_world.proofs.Common.{[], ◌++◌, ◌∙◌, ◌∷◌, ◌≡◌, all-filter, all-kept, AllAsk, and_from, and_parts}
use Rattle.grs_world.proofs.Common.{answer_to, ap, append-nil, AreLists, Bool, cond, Deck, Deq, Enq, false, Filter}
use Rattle.grs_world.proofs.Common.{Fixed, fixed_entries, is_of, is_of_deck, is_res_of, is_some, is_systems, IsHistory}
use Rattle.grs_world.proofs.Common.{last_of, lines_of, List, list_all, list_all-append, list_of, lists, Local}
use Rattle.grs_world.proofs.Common.{LocalLook, Look, look, looks, mine, names_of_deck, None, outstanding, Place, Purged}
use Rattle.grs_world.proofs.Common.{refl, Release, replies_are_answers, reply_in, Res, Row, rows-lists, rows_of}
use Rattle.grs_world.proofs.Common.{RunItem, same_res, Slice, Some, State, subst, suc, SysId, TaskId, true, Want, zero}
use Rattle.grs_world.proofs.Common.{ℕ}
use Rattle.grs_known.proofs.known.Histories.{asks-push, elements-ask, may_have}
use Rattle.grs_known.specs.Items.{AllMade}
use Rattle.grs_node.specs.Node.{has_deck_tasks}
use Rattle.std.specs.Prelude.{◌||◌}
use Rattle.grs_known.specs.Known.{Known}
use Rattle.grs_wire.specs.declared.request.Fixed.TheVariants.{Asked}
use Rattle.grs_base.specs.Looks.{is_shown}

-- ---- rows of lists whose elements are of tasks of the deck
module _ (deck : Deck) where
  -- whether all elements are
  abbrev are_ours : State → Bool
  are_ours s = list_all (λ h. is_of_deck deck h.1.task) s

  ours-list : (s : State) (r : Res) → are_ours s ≡ true → list_all (λ x. is_of_deck deck x.task) (list_of s r) ≡ true
  ours-list [] r h = refl
  ours-list (x ∷ s) r h =
      let both = and_parts (is_of_deck deck x.1.task) (are_ours s) h in
      go (same_res r x.0) both.0 (ours-list s r both.1)
    where
      go : (b : Bool) → is_of_deck deck x.1.task ≡ true
          → list_all (λ y. is_of_deck deck y.task) (list_of s r) ≡ true
          → list_all (λ y. is_of_deck deck y.task) (cond b (x.1 ∷ list_of s r) (list_of s r)) ≡ true
      go true e more = and_from _ _ e more
      go false e more = more

  ours-rows : (s : State) (rows : List Row) → AreLists s rows → are_ours s ≡ true
      → list_all (has_deck_tasks deck) rows ≡ true
  ours-rows s [] is h = refl
  ours-rows s (x ∷ xs) is h =
      and_from (has_deck_tasks deck x) (list_all (has_deck_tasks deck) xs)
      (ap (list_all (λ y. is_of_deck deck y.task)) is.0 ∙ ours-list s x.res h) (ours-rows s xs is.1 h)

  ours-look : (s : State) (p : Place) (f : Filter) → are_ours s ≡ true
      → list_all (has_deck_tasks deck) (look s p f) ≡ true
  ours-look s p f h =
      all-filter (has_deck_tasks deck) (is_shown p f) (rows_of s) (ours-rows s (rows_of s) (rows-lists s) h)

  ours-looks : (s : State) (first count : ℕ) (f : Filter) → are_ours s ≡ true
      → list_all (has_deck_tasks deck) (looks s first count f) ≡ true
  ours-looks s first zero f h = refl
  ours-looks s first (suc count) f h =
      list_all-append (has_deck_tasks deck) (look s (Slice first) f) (looks s (suc first) count f)
      ∙ and_from _ _ (ours-look s (Slice first) f h) (ours-looks s (suc first) count f h)

  -- what they answer
  answer-named : (s : State) (t : TaskId) (w : Want) → are_ours s ≡ true → names_of_deck deck (answer_to s t w) ≡ true
  answer-named s t (Enq r c ret full) h = refl
  answer-named s t (Deq r have) h = refl
  answer-named s t (Release r) h = refl
  answer-named s t (Look first count f) h = ours-looks s first count f h

  -- ---- items
  fixed-named : (s : State) (by : SysId) (f : Fixed) → are_ours s ≡ true
      → names_of_deck deck (reply_in (fixed_entries s by f)) ≡ true
  fixed-named s by (Asked q) h =
      ap (names_of_deck deck) (replies_are_answers s q.task q.want) ∙ answer-named s q.task q.want h
  fixed-named s by (LocalLook t f) h =
      ap (list_all (has_deck_tasks deck)) (append-nil (look s (Local t.system) f)) ∙ ours-look s (Local t.system) f h
  fixed-named s by (Purged target) h = refl

  -- who may have an element is of the deck
  ours-may : (s : State) → list_all (λ h. may_have deck h.0 h.1.task) s ≡ true → are_ours s ≡ true
  ours-may s h =
      all-kept (λ x. may_have deck x.0 x.1.task) (λ x. is_of_deck deck x.1.task)
      (λ x e.
      (and_parts (is_some (lines_of deck x.1.task)) (is_systems x.0 || is_res_of x.1.task.system.0 x.0) e).0)
      s h

  abbrev is_named : RunItem → Bool
  is_named x = names_of_deck deck (reply_in x.entries)

  items-named : (F T : List RunItem) → AllAsk deck F → AllMade F T → AllAsk deck T → list_all is_named T ≡ true
  items-named F [] before made asks = refl
  items-named F (x ∷ xs) before made asks =
      and_from (is_named x) (list_all is_named xs)
      (ap (λ es. names_of_deck deck (reply_in es)) made.0
      ∙ fixed-named (lists F) x.by x.fixed (ours-may (lists F) (elements-ask deck [] F before refl)))
      (items-named (F ++ x ∷ []) xs (asks-push deck F x before asks.0) made.1 asks.1)

  last-named : (xs : List RunItem) (x : RunItem) → list_all is_named xs ≡ true → last_of xs ≡ Some x → is_named x ≡ true
  last-named [] x h e = absurd (cc)
  last-named (y ∷ []) x h e =
      let same : y ≡ x = cc in subst (λ z. is_named z ≡ true) same (and_parts (is_named y) true h).0
  last-named (y ∷ z ∷ zs) x h e = last-named (z ∷ zs) x (and_parts (is_named y) (list_all is_named (z ∷ zs)) h).1 e

  -- the answer of a task's item whose reply isn't read yet
  pub outstanding-named : (T : List RunItem) → IsHistory deck T → (t : TaskId) (k : Known) (x : RunItem)
      → outstanding t k T ≡ Some x → names_of_deck deck (reply_in x.entries) ≡ true
  outstanding-named T g t k x = go k.behind
    where
      go : (b : Bool) → cond b (last_of (mine t T)) None ≡ Some x → is_named x ≡ true
      go false e = absurd (cc)
      go true e =
          last-named (mine t T) x
          (all-filter is_named (λ y. is_of t y.fixed) T (items-named [] T tt g.made g.asks)) e
