-- Items, the lists after them, and the history that they make.
use Rattle.std.proofs.Common.{◌≡◌, ℕ, zero, suc, Bool, true, false, cond, List, [], ◌∷◌, ◌++◌, refl, ap, sym, ◌∙◌}
use Rattle.std.proofs.Common.{arith}
use Rattle.std.specs.Prelude.{filter}
use Rattle.std.proofs.lemmas.List.Elements.{filter-append}
use Rattle.grs_base.specs.Same.{same_task}
use Rattle.grs_base.specs.State.{State}
use Rattle.grs_base.specs.Looks.{look}
use Rattle.grs_base.specs.declared.look.Filter.{Filter}
use Rattle.grs_base.specs.declared.look.Place.TheVariants.{Slice}
use Rattle.grs_base.specs.declared.resource.SysId.{SysId}
use Rattle.grs_base.specs.declared.resource.TaskId.{TaskId}
use Rattle.grs_wire.specs.History.{is_by, replay_from, look_entries, entries_for, fixed_entries, after_fixed}
use Rattle.grs_wire.specs.History.{answered_from}
use Rattle.grs_wire.specs.Wants.{after_want, looks}
use Rattle.grs_wire.specs.declared.history.HistEntry.{HistEntry}
use Rattle.grs_wire.specs.declared.request.Answer.TheVariants.{Rows}
use Rattle.grs_wire.specs.declared.request.Fixed.{Fixed}
use Rattle.grs_wire.specs.declared.request.Fixed.TheVariants.{Asked, LocalLook, Purged}
use Rattle.grs_wire.specs.declared.request.Want.{Want}
use Rattle.grs_wire.specs.declared.request.Want.TheVariants as wants
use Rattle.grs_wire.proofs.HistoryLaws.{replay_from-append}
use Rattle.grs_known.specs.Items.{RunItem, is_of, mine, rows_in, lists_from, lists, AllMade, history, items_from}
use Rattle.grs_known.specs.Items.{CountsIn, Counts, AllCount}
use Rattle.grs_known.specs.Laws.{ItemsAreHistory, RepliesAreAnswers, ListsAreReplayed, EntriesAreOfItems}

pub lists_from-append : (s : State) (xs ys : List RunItem) → lists_from s (xs ++ ys) ≡ lists_from (lists_from s xs) ys
lists_from-append s [] ys = refl
lists_from-append s (x ∷ xs) ys = lists_from-append (after_fixed s x.fixed) xs ys

pub lists-push : (T : List RunItem) (x : RunItem) → lists (T ++ x ∷ []) ≡ after_fixed (lists T) x.fixed
lists-push T x = lists_from-append [] T (x ∷ [])

-- ---- the history of what was fixed
history-items_from : (s : State) (fixed : List (SysId × Fixed)) → history (items_from s fixed) ≡ answered_from s fixed
history-items_from s [] = refl
history-items_from s (x ∷ xs) = ap (λ hs. fixed_entries s x.0 x.1 ++ hs) (history-items_from (after_fixed s x.1) xs)

made-items_from : (T : List RunItem) (s : State) (fixed : List (SysId × Fixed)) → lists T ≡ s
    → AllMade T (items_from s fixed)
made-items_from T s [] e = tt
made-items_from T s (x ∷ xs) e =
    let first : RunItem = record { by = x.0; fixed = x.1; entries = fixed_entries s x.0 x.1 } in (
      ap (λ z. fixed_entries z x.0 x.1) (sym e),
      made-items_from (T ++ first ∷ []) (after_fixed s x.1) xs (lists-push T first ∙ ap (λ z. after_fixed z x.1) e),
    )

pub items_are_history : ItemsAreHistory
items_are_history fixed = (history-items_from [] fixed, made-items_from [] [] fixed refl)

-- ---- replies
pub rows-looks : (s : State) (t : TaskId) (first count : ℕ) (f : Filter)
    → rows_in (look_entries s t first count f) ≡ looks s first count f
rows-looks s t first zero f = refl
rows-looks s t first (suc count) f = ap (λ rows. look s (Slice first) f ++ rows) (rows-looks s t (suc first) count f)

pub replies_are_answers : RepliesAreAnswers
replies_are_answers s t (wants.Enq r c ret full) = refl
replies_are_answers s t (wants.Deq r have) = refl
replies_are_answers s t (wants.Release r) = refl
replies_are_answers s t (wants.Look first zero f) = refl
replies_are_answers s t (wants.Look first (suc count) f) = ap Rows (rows-looks s t first (suc count) f)

-- ---- the lists of the history
replay-looks : (limit : ℕ) (s z : State) (t : TaskId) (first count : ℕ) (f : Filter)
    → replay_from limit s (look_entries z t first count f) ≡ s
replay-looks limit s z t first zero f = refl
replay-looks limit s z t first (suc count) f = replay-looks limit s z t (suc first) count f

replay-want : (limit : ℕ) (s : State) (t : TaskId) (w : Want) → CountsIn limit s t w
    → replay_from limit s (entries_for s t w) ≡ after_want s t w
replay-want limit s t (wants.Enq r c ret full) e = ap (λ b. after_want s t (wants.Enq r c ret b)) (sym e)
replay-want limit s t (wants.Deq r have) e = refl
replay-want limit s t (wants.Release r) e = refl
replay-want limit s t (wants.Look first count f) e = replay-looks limit s s t first count f

replay-fixed : (limit : ℕ) (s : State) (by : SysId) (f : Fixed) → Counts limit s f
    → replay_from limit s (fixed_entries s by f) ≡ after_fixed s f
replay-fixed limit s by (Asked q) e = replay-want limit s q.task q.want e
replay-fixed limit s by (LocalLook t f) e = refl
replay-fixed limit s by (Purged target) e = refl

replay-behind : (limit : ℕ) (T xs : List RunItem) → AllMade T xs → AllCount limit T xs
    → lists_from (lists T) xs ≡ replay_from limit (lists T) (history xs)
replay-behind limit T [] made count = refl
replay-behind limit T (x ∷ xs) made count =
    let after : replay_from limit (lists T) x.entries ≡ lists (T ++ x ∷ []) =
    ap (replay_from limit (lists T)) made.0
    ∙ replay-fixed limit (lists T) x.by x.fixed count.0
    ∙ sym (lists-push T x) in
    ap (λ s. lists_from s xs) (sym (lists-push T x))
    ∙ replay-behind limit (T ++ x ∷ []) xs made.1 count.1
    ∙ ap (λ s. replay_from limit s (history xs)) (sym after)
    ∙ sym (replay_from-append limit (lists T) x.entries (history xs))

pub lists_are_replayed : ListsAreReplayed
lists_are_replayed limit T made count = replay-behind limit [] T made count

-- ---- a task's entries
either_way : (b : Bool) (hs : List HistEntry) → hs ≡ cond b hs hs
either_way true hs = refl
either_way false hs = refl

by-looks : (t u : TaskId) (s : State) (first count : ℕ) (f : Filter)
    → filter (is_by t) (look_entries s u first count f) ≡ cond (same_task t u) (look_entries s u first count f) []
by-looks t u s first zero f = either_way (same_task t u) []
by-looks t u s first (suc count) f = grind (arith, by-looks t u s (suc first) count f)

by-want : (t u : TaskId) (s : State) (w : Want)
    → filter (is_by t) (entries_for s u w) ≡ cond (same_task t u) (entries_for s u w) []
by-want t u s (wants.Enq r c ret full) = refl
by-want t u s (wants.Deq r have) = refl
by-want t u s (wants.Release r) = refl
by-want t u s (wants.Look first count f) = by-looks t u s first count f

by-fixed : (t : TaskId) (s : State) (by : SysId) (f : Fixed)
    → filter (is_by t) (fixed_entries s by f) ≡ cond (is_of t f) (fixed_entries s by f) []
by-fixed t s by (Asked q) = by-want t q.task s q.want
by-fixed t s by (LocalLook u f) = refl
by-fixed t s by (Purged target) = refl

entries-behind : (t : TaskId) (T xs : List RunItem) → AllMade T xs → filter (is_by t) (history xs) ≡ history (mine t xs)
entries-behind t T [] made = refl
entries-behind t T (x ∷ xs) made =
    filter-append (is_by t) x.entries (history xs)
    ∙ ap (λ hs. filter (is_by t) hs ++ filter (is_by t) (history xs)) made.0
    ∙ ap (λ hs. hs ++ filter (is_by t) (history xs)) (by-fixed t (lists T) x.by x.fixed)
    ∙ ap (λ hs. cond (is_of t x.fixed) hs [] ++ filter (is_by t) (history xs)) (sym made.0)
    ∙ ap (λ hs. cond (is_of t x.fixed) x.entries [] ++ hs) (entries-behind t (T ++ x ∷ []) xs made.1)
    ∙ by_own (is_of t x.fixed)
  where
    by_own : (b : Bool) → cond b x.entries [] ++ history (mine t xs) ≡ history (cond b (x ∷ mine t xs) (mine t xs))
    by_own true = refl
    by_own false = refl

pub entries_are_of_items : EntriesAreOfItems
entries_are_of_items t T made = entries-behind t [] T made
