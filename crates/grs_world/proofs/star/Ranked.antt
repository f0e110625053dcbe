-- The rank of a task's request says nothing of how the task stands.
use Rattle.grs_world.proofs.Common.{[], ◌∙◌, ◌∷◌, ◌≡◌, ap, Asked, Bool, cond, Deck, Deq, Did, Each, Enq, false}
use Rattle.grs_world.proofs.Common.{HistEntry, history, is_leaving, is_task, IsAskedFor, IsGood, IsHere, IsOpenBy}
use Rattle.grs_world.proofs.Common.{IsOurs, IsRec, IsTask, List, Look, map, Meaning, nat_le, None, none, on_record}
use Rattle.grs_world.proofs.Common.{Opens, Option, Past, past_of, Phase, quiet_good, Rec, refl, Release, Res, RunItem}
use Rattle.grs_world.proofs.Common.{same_res, slice_get, Some, state_of, StaysGood, subst, sym, TaskId, TaskState}
use Rattle.grs_world.proofs.Common.{TasksView, told-state, ToldBy, ToldLine, true, Want, with_rank, with_rank_of, ℕ}
use Rattle.grs_known.proofs.system.Asking.{unasked, unasked-told, IsOpen}
use Rattle.grs_known.proofs.system.Ours.{changed-state}
use Rattle.task_state.proofs.ViewLaws.{length-on_record, state_of-same}
use Rattle.grs_known.proofs.tasks.Keys.{keys-on_record, distinct-on_record}

abbrev pub ranked : ℕ → Rec → Rec
ranked k y = record y { rank = k }

rec-ranked :
    (ls : List Meaning) (E : List HistEntry) (T : List ToldLine) (owns leaving : Res → Bool) (t : TaskId) (line : ℕ)
    (p : Phase) (k : ℕ) (x : Rec)
    → IsRec ls E T owns leaving t line p x → IsRec ls E T owns leaving t line p (ranked k x)
rec-ranked ls E T owns leaving t line p k x h = record {
  entry = h.entry;
  latest = h.latest;
  low = h.low;
  high = h.high;
  known = h.known;
  control = h.control;
  due = h.due;
}

each-ranked :
    (ls : List Meaning) (E : List HistEntry) (T : List ToldLine) (owns leaving : Res → Bool) (t : TaskId) (line : ℕ)
    (p : Phase) (r : Res) (k : ℕ) (xs : List Rec)
    → Each (IsRec ls E T owns leaving t line p) xs
    → Each (IsRec ls E T owns leaving t line p) (on_record r (ranked k) xs)
each-ranked ls E T owns leaving t line p r k [] h = tt
each-ranked ls E T owns leaving t line p r k (x ∷ xs)
    h = (go (same_res r x.res), each-ranked ls E T owns leaving t line p r k xs h.1)
  where
    go : (b : Bool) → IsRec ls E T owns leaving t line p (cond b (ranked k x) x)
    go true = rec-ranked ls E T owns leaving t line p k x h.0
    go false = h.0

task-ranked :
    (ls : List Meaning) (p : Past) (T : List ToldLine) (leaving : Res → Bool) (t : TaskId) (x : TaskState) (r : Res)
    (k : ℕ)
    → IsTask ls p T leaving t x → IsTask ls p T leaving t (record x { records = on_record r (ranked k) x.records })
task-ranked ls p T leaving t x r k h = record {
  keys = keys-on_record (ranked k) (λ y. refl) r x.records ∙ h.keys;
  owned = h.owned;
  distinct = distinct-on_record (ranked k) (λ y. refl) r x.records ∙ h.distinct;
  within = h.within;
  count = h.count;
  records = each-ranked ls p.asked T p.owns leaving t x.line x.phase r k x.records h.records;
  codes = h.codes;
  posts = h.posts;
  phase = h.phase;
  shown = h.shown;
  emptied = λ e. ap (on_record r (ranked k)) (h.emptied e);
}

res-ranked : (r : Res) (k : ℕ) (xs : List Rec)
    → map (λ (y : Rec). y.res) (on_record r (ranked k) xs) ≡ map (λ (y : Rec). y.res) xs
res-ranked r k [] = refl
res-ranked r k (x ∷ xs) = go (same_res r x.res) (res-ranked r k xs)
  where
    go : (b : Bool) → map (λ (y : Rec). y.res) (on_record r (ranked k) xs) ≡ map (λ (y : Rec). y.res) xs
        → map (λ (y : Rec). y.res) (cond b (ranked k x) x ∷ on_record r (ranked k) xs)
        ≡ map (λ (y : Rec). y.res) (x ∷ xs)
    go true h = ap (λ zs. x.res ∷ zs) h
    go false h = ap (λ zs. x.res ∷ zs) h

open-ranked : (limit : ℕ) (ls : List Meaning) (t : TaskId) (r : Res) (k : ℕ) (x : TaskState) → IsOpen limit ls t x
    → IsOpen limit ls t (record x { records = on_record r (ranked k) x.records })
open-ranked limit ls t r k x h = go x.outstanding h
  where
    by_want : (n : ℕ) (xs : List Rec) (w : Want) (unit : Option ℕ) → IsAskedFor limit ls n xs w unit
        → IsAskedFor limit ls n (on_record r (ranked k) xs) w unit
    by_want n xs (Enq q c ret full) unit
        j = (j.0, j.1, j.2, j.3 ∙ ap (nat_le limit) (sym (length-on_record r (ranked k) xs)))
    by_want n xs (Deq q have) unit j = j
    by_want n xs (Release q) unit j = (ap (λ zs. slice_get zs 0) (res-ranked r k xs) ∙ j.0, j.1)
    by_want n xs (Look first count f) unit j = j

    go : (o : Option Asked) → IsOpenBy limit ls t x o
        → IsOpenBy limit ls t (record x { records = on_record r (ranked k) x.records }) o
    go None j = j
    go (Some a) j = (j.0, j.1, by_want x.line x.records a.req.want a.unit j.2)

-- a task stands as it did
pub here-ranked :
    (deck : Deck) (os : Opens) (P : List RunItem) (T : List ToldLine) (t : TaskId) (ls : List Meaning) (x : TaskState)
    (r : Res) (k : ℕ)
    → IsHere deck os P T t ls x → IsHere deck os P T t ls (record x { records = on_record r (ranked k) x.records })
here-ranked deck os P T t ls x r k h = record {
  known = h.known;
  knows = h.knows;
  due = h.due;
  task =
      subst (λ y. IsTask ls (past_of t h.known P) T (λ q. is_leaving q x.outstanding) t y)
      (sym (unasked-told x r (ranked k)))
      (task-ranked ls (past_of t h.known P) T (λ q. is_leaving q x.outstanding) t (unasked x) r k h.task);
  opened = open-ranked deck.limit ls t r k x h.opened;
  looks = h.looks;
  asked = h.asked;
  sent = h.sent;
}

-- ---- the tasks of a system, once a request of one of them has its rank
pub did-rank : (v : TasksView) (t : TaskId) (r : Res) (k : ℕ) → is_task v t ≡ true
    → Did v (with_rank v t r k) t (record (state_of v t) { records = on_record r (ranked k) (state_of v t).records })
    v.told
unfolding with_rank
did-rank v t r k here =
    let f : TaskState → TaskState = λ x. record x { records = on_record r (λ y. record y { rank = k }) x.records } in
    record { changed = changed-state v t f; state = state_of-same v t f here; told = told-state v t f }

good-rank :
    (deck : Deck) (s : ℕ) (os : Opens) (P : List RunItem) (v : TasksView) (t : TaskId) (ls : List Meaning) (r : Res)
    (k : ℕ)
    → IsOurs deck s v t ls → IsGood deck s os P v → IsGood deck s os P (with_rank v t r k)
good-rank deck s os P v t ls r k ours g =
    let x : TaskState = state_of v t in
    let h = g.tasks.each t ls ours in
    (quiet_good deck s os os P v g t ls ours (with_rank v t r k)
    (record x { records = on_record r (ranked k) x.records }) v.told (did-rank v t r k ours.here)
    (here-ranked deck os P v.told t ls x r k h)
    (λ u o apart a. a) (λ u ph apart a. a) refl (λ u ms apart p leaving y j. j) none).good

pub told-rank : (v : TasksView) (t : TaskId) (r : Res) (k : ℕ) → is_task v t ≡ true → (with_rank v t r k).told ≡ v.told
told-rank v t r k here = (did-rank v t r k here).told

pub ranked-good :
    (deck : Deck) (s : ℕ) (os : Opens) (P : List RunItem) (T0 : List ToldLine) (v : TasksView) (t : TaskId)
    (ls : List Meaning) (o : Option Res) (k : ℕ)
    → IsOurs deck s v t ls → StaysGood deck s os P T0 v → StaysGood deck s os P T0 (with_rank_of v t o k)
ranked-good deck s os P T0 v t ls None k ours z = z
ranked-good deck s os P T0 v t ls (Some r) k ours z = record {
  good = good-rank deck s os P v t ls r k ours z.good;
  told = subst (ToldBy deck s os.all (history P) T0) (sym (told-rank v t r k ours.here)) z.told;
}
