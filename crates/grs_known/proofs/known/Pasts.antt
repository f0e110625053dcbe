-- The past of a task by what is known of it.
use Rattle.std.proofs.Common.{◌≡◌, Bool, true, false, cond, List, [], ◌∷◌, ◌++◌, Some, refl, ap, sym, ◌∙◌, subst}
use Rattle.std.proofs.Common.{append-nil, append_assoc, Option, None}
use Rattle.std.specs.Prelude.{filter}
use Rattle.std.specs.List.{list_any}
use Rattle.std.proofs.lemmas.List.Elements.{filter-append}
use Rattle.std.proofs.lemmas.Bool.{or_parts}
use Rattle.grs_base.specs.Lists.{is_apart, owns}
use Rattle.grs_base.specs.State.{list_of}
use Rattle.grs_base.specs.declared.resource.Ctl.{Ctl}
use Rattle.grs_base.specs.declared.resource.Res.{Res}
use Rattle.grs_base.specs.declared.resource.TaskId.{TaskId}
use Rattle.grs_legal.specs.Legal.{entries_of, last_entry, is_of_line}
use Rattle.grs_wire.specs.History.{replay, after_fixed}
use Rattle.grs_wire.specs.declared.history.HistEntry.{HistEntry}
use Rattle.grs_known.specs.Items.{RunItem, is_of, removes_system_of, owns_told, owns_after, mine, lists_from, lists}
use Rattle.grs_known.specs.Items.{AllMade, history}
use Rattle.grs_known.specs.Known.{Known, all_but_last, learned, outstanding, Still}
use Rattle.grs_known.specs.Past.{own_elements, own_told, own_after, after_entry, after_entries, past_by}
use Rattle.grs_known.specs.Past.{ElementsAreOfItems, PastGrows, PastSpeaks, PastSpeaksOf, may_leave}
use Rattle.grs_known.proofs.lists.Elements.{apart-fixed, own-fixed, own-fixed_other}
use Rattle.grs_known.proofs.known.ItemLaws.{lists-push, lists_are_replayed, entries_are_of_items}
use Rattle.grs_known.proofs.known.Knowing.{learned-longer, all_is_known}
use Rattle.grs_known.proofs.lists.Entries.{line_entries-from, last_entry-push}

-- ---- elements
own_after-append : (ks : List (Res × Ctl)) (hs gs : List HistEntry)
    → own_after ks (hs ++ gs) ≡ own_after (own_after ks hs) gs
own_after-append ks [] gs = refl
own_after-append ks (h ∷ hs) gs = own_after-append (own_told h ks) hs gs

own-behind : (t : TaskId) (T xs : List RunItem) → ((r : Res) → is_apart (list_of (lists T) r) ≡ true) → AllMade T xs
    → list_any (λ x. removes_system_of t x.fixed) xs ≡ false →
    own_elements (lists_from (lists T) xs) t ≡ own_after (own_elements (lists T) t) (history (mine t xs))
own-behind t T [] apart made live = refl
own-behind t T (x ∷ xs) apart made live =
    let l = or_parts (removes_system_of t x.fixed) (list_any (λ y. removes_system_of t y.fixed) xs) live in
    let pushed : after_fixed (lists T) x.fixed ≡ lists (T ++ x ∷ []) = sym (lists-push T x) in
    ap (λ s. own_elements (lists_from s xs) t) pushed
    ∙ own-behind t (T ++ x ∷ []) xs
    (λ r. subst (λ s. is_apart (list_of s r) ≡ true) pushed (apart-fixed (lists T) x.fixed apart r)) made.1 l.1
    ∙ ap (λ s. own_after (own_elements s t) (history (mine t xs))) (lists-push T x)
    ∙ by_own (is_of t x.fixed) refl l.0
  where
    by_own : (b : Bool) → is_of t x.fixed ≡ b → removes_system_of t x.fixed ≡ false
        → own_after (own_elements (after_fixed (lists T) x.fixed) t) (history (mine t xs))
        ≡ own_after (own_elements (lists T) t) (history (cond b (x ∷ mine t xs) (mine t xs)))
    by_own true e l =
        ap (λ ks. own_after ks (history (mine t xs)))
        (own-fixed (lists T) t x.by x.fixed apart e ∙ ap (own_after (own_elements (lists T) t)) (sym made.0))
        ∙ sym (own_after-append (own_elements (lists T) t) x.entries (history (mine t xs)))
    by_own false e l = ap (λ ks. own_after ks (history (mine t xs))) (own-fixed_other (lists T) t x.fixed e l)

pub elements_are_of_items : ElementsAreOfItems
elements_are_of_items t T made live = own-behind t [] T (λ r. refl) made live

-- ---- one entry more
pub history-append : (xs ys : List RunItem) → history (xs ++ ys) ≡ history xs ++ history ys
history-append [] ys = refl
history-append (x ∷ xs) ys =
    ap (λ hs. x.entries ++ hs) (history-append xs ys) ∙ sym (append_assoc x.entries (history xs) (history ys))

asked-push : (hs : List HistEntry) (h : HistEntry)
    → filter is_of_line (hs ++ h ∷ []) ≡ cond (is_of_line h) (filter is_of_line hs ++ h ∷ []) (filter is_of_line hs)
asked-push hs h = filter-append is_of_line hs (h ∷ []) ∙ go (is_of_line h)
  where
    go : (b : Bool)
        → filter is_of_line hs ++ cond b (h ∷ []) [] ≡ cond b (filter is_of_line hs ++ h ∷ []) (filter is_of_line hs)
    go true = refl
    go false = append-nil (filter is_of_line hs)

past-push : (f : Res → Bool) (hs : List HistEntry) (h : HistEntry)
    → past_by (owns_told h f) (hs ++ h ∷ []) ≡ after_entry h (past_by f hs)
past-push f hs h = rw (own_after-append [] hs (h ∷ []), asked-push hs h, last_entry-push hs h) refl

past-append : (f : Res → Bool) (hs gs : List HistEntry)
    → past_by (owns_after f gs) (hs ++ gs) ≡ after_entries gs (past_by f hs)
past-append f hs [] = ap (past_by f) (append-nil hs)
past-append f hs (g ∷ gs) =
    ap (past_by (owns_after (owns_told g f) gs)) (sym (append_assoc hs (g ∷ []) gs))
    ∙ past-append (owns_told g f) (hs ++ g ∷ []) gs
    ∙ ap (after_entries gs) (past-push f hs g)

pub past_grows : PastGrows
past_grows t k T x is =
    ap (past_by (owns_after k.owns x.entries)) (ap history (learned-longer t k T x is)
    ∙ history-append (learned t k T) (x ∷ [])
    ∙ ap (λ hs. history (learned t k T) ++ hs) (append-nil x.entries))
    ∙ past-append k.owns (history (learned t k T)) x.entries

-- ---- the history
pub past_speaks : PastSpeaks
past_speaks limit t k T made count live now right =
    let known = all_is_known t k T now right in
    let replayed : lists T ≡ replay limit (history T) = lists_are_replayed limit T made count in
    let entries : entries_of t (history T) ≡ history (learned t k T) =
    entries_are_of_items t T made ∙ ap history (sym known.0) in
    record {
      own =
          ap (λ s. own_elements s t) (sym replayed)
          ∙ elements_are_of_items t T made live
          ∙ ap (λ xs. own_after [] (history xs)) (sym known.0);
      owns = λ r e. subst (λ s. owns (list_of s r) t ≡ true) replayed (known.1 r e);
      asked = line_entries-from t (history T) ∙ ap (filter is_of_line) entries;
      last = ap last_entry entries;
    }

mine-learned : (t : TaskId) (k : Known) (T : List RunItem) → (rest : List RunItem) × (mine t T ≡ learned t k T ++ rest)
mine-learned t k T = go k.behind
  where
    go : (b : Bool) → (rest : List RunItem) × (mine t T ≡ cond b (all_but_last (mine t T)) (mine t T) ++ rest)
    go false = ([], sym (append-nil (mine t T)))
    go true = but_last (mine t T)
      where
        but_last : (xs : List RunItem) → (rest : List RunItem) × (xs ≡ all_but_last xs ++ rest)
        but_last [] = ([], refl)
        but_last (x ∷ []) = (x ∷ [], refl)
        but_last (x ∷ y ∷ ys) = let more = but_last (y ∷ ys) in (more.0, ap (λ zs. x ∷ zs) more.1)

pub past_speaks_of : PastSpeaksOf
past_speaks_of limit t r k T made count stays right =
    let rest = mine-learned t k T in
    record {
      owns = λ e.
          subst (λ s. owns (list_of s r) t ≡ true) (lists_are_replayed limit T made count)
          (stays_owner (outstanding t k T) stays (right.owned r e));
      asked = (
        filter is_of_line (history rest.0),
        line_entries-from t (history T)
            ∙ ap (filter is_of_line)
            (entries_are_of_items t T made ∙ ap history rest.1 ∙ history-append (learned t k T) rest.0)
            ∙ filter-append is_of_line (history (learned t k T)) (history rest.0),
      );
    }
  where
    stays_owner : (o : Option RunItem) → may_leave r o ≡ false → Still r t T o → owns (list_of (lists T) r) t ≡ true
    stays_owner None e h = h
    stays_owner (Some x) e h = h.0 e
