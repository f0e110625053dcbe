-- Laws of what a manager keeps once a system is removed, proved.
use Rattle.std.proofs.Common.{◌≡◌, ℕ, zero, suc, Bool, true, false, cond, not, ◌&&◌, ◌||◌, List, [], ◌∷◌, map, Option}
use Rattle.std.proofs.Common.{Some, None, refl, ap, sym, ◌∙◌, subst, arith}
use Rattle.std.specs.Prelude.{◌==◌, filter}
use Rattle.std.specs.List.{list_any}
use Rattle.std.specs.Option.{option_map}
use Rattle.std.proofs.lemmas.Bool.{and_parts}
use Rattle.std.proofs.lemmas.List.Folds.{list_any-append}
use Rattle.grs_base.specs.Same.{same_res, same_task}
use Rattle.grs_base.specs.Lists.{owns}
use Rattle.grs_base.specs.State.{State, is_systems, remove_state}
use Rattle.grs_base.specs.declared.resource.Elem.{Elem}
use Rattle.grs_base.specs.declared.resource.Res.{Res}
use Rattle.grs_base.specs.declared.resource.TaskId.{TaskId}
use Rattle.grs_base.proofs.SameLaws.{same_res-exact, same_res-itself, same_res-sym, same_task-exact}
use Rattle.grs_wire.proofs.RemoveLaws.{by_systems, list_of-remove_other, owns-remove}
use Rattle.contention_mgr.specs.Elements.{holds}
use Rattle.contention_mgr.specs.Laws.{owns_by, untold_at, untold_pass, is_elsewhere, IsRanked, IsWellKept}
use Rattle.contention_mgr.specs.LoseLaws.{LostLists, LostRanks, LosingKeepsOwners, without_mark, LosingKeepsRanks}
use Rattle.contention_mgr.specs.LoseLaws.{LosingKeepsUntoldOwn, LosingKeepsWell, is_freed, LostUntold}
use Rattle.contention_mgr.specs.Loses.{Freed, freed_lists, stays, with_freed, lost}
use Rattle.contention_mgr.specs.Manager.{Ranked, Managed, plain, is_of, marked, with_mark, with_control, kept_at}
use Rattle.contention_mgr.proofs.GainLemmas.{freed_on, freed-on, any-freed}
use Rattle.contention_mgr.proofs.LawProofs.{plain-control, ranked-control, by_rank-filter, below-filter}
use Rattle.contention_mgr.proofs.LoseLemmas.{holds-remove}
use Rattle.contention_mgr.proofs.OwnLemmas.{pass-control, untold-holds, at-control, given-untold}

plain-freed : (s : ℕ) (fs : List Freed) (xs : List Ranked) → plain (with_freed s fs xs) ≡ plain xs
plain-freed s [] xs = refl
plain-freed s (f ∷ fs) xs = plain-freed s fs (with_control s f.0 f.1 xs) ∙ plain-control s f.0 f.1 xs

plain-stays : (n : ℕ) (xs : List Ranked) → plain (filter (stays n) xs) ≡ remove_state (plain xs) n
plain-stays n [] = refl
plain-stays n (x ∷ xs) = go (stays n x) (plain-stays n xs)
  where
    go : (b : Bool) → plain (filter (stays n) xs) ≡ remove_state (plain xs) n
        → plain (cond b (x ∷ filter (stays n) xs) (filter (stays n) xs))
        ≡ cond b ((x.res, x.elem) ∷ remove_state (plain xs) n) (remove_state (plain xs) n)
    go true rest = ap (λ (l : State). (x.res, x.elem) ∷ l) rest
    go false rest = rest

pub lost_lists : LostLists
lost_lists s n m =
    plain-freed s (freed_lists n (plain m.items)) (filter (stays n) m.items) ∙ plain-stays n m.items

-- marks are no part of it
mark-ranks : (untold : Bool) (r : Res) (t : TaskId) (xs : List Ranked)
    → map without_mark (with_mark untold r t xs) ≡ map without_mark xs
mark-ranks untold r t [] = refl
mark-ranks untold r t (x ∷ xs) = go (is_of r t x) (mark-ranks untold r t xs)
  where
    go : (b : Bool) → map without_mark (with_mark untold r t xs) ≡ map without_mark xs
        → without_mark (cond b (marked untold x) x) ∷ map without_mark (with_mark untold r t xs)
        ≡ without_mark x ∷ map without_mark xs
    go true rest = ap (λ (l : List (Res × (Elem × ℕ))). without_mark x ∷ l) rest
    go false rest = ap (λ (l : List (Res × (Elem × ℕ))). without_mark x ∷ l) rest

control-ranks : (s : ℕ) (r : Res) (ts : List TaskId) (xs : List Ranked)
    → map without_mark (with_control s r ts xs) ≡ map without_mark xs
control-ranks s r [] xs = refl
control-ranks s r (t ∷ ts) xs =
    control-ranks s r ts (cond (not (s == t.system.0)) (with_mark true r t xs) xs) ∙ go (not (s == t.system.0))
  where
    go : (b : Bool) → map without_mark (cond b (with_mark true r t xs) xs) ≡ map without_mark xs
    go true = mark-ranks true r t xs
    go false = refl

freed-ranks : (s : ℕ) (fs : List Freed) (xs : List Ranked)
    → map without_mark (with_freed s fs xs) ≡ map without_mark xs
freed-ranks s [] xs = refl
freed-ranks s (f ∷ fs) xs = freed-ranks s fs (with_control s f.0 f.1 xs) ∙ control-ranks s f.0 f.1 xs

pub lost_ranks : LostRanks
lost_ranks s n m = freed-ranks s (freed_lists n (plain m.items)) (filter (stays n) m.items)

pub losing_keeps_owners : LosingKeepsOwners
losing_keeps_owners s n m r t apart own =
    ap (λ (l : State). owns_by l r t) (lost_lists s n m) ∙ owns-remove (plain m.items) n r t apart own

-- ---- ranks still rise
ranked-freed : (s k : ℕ) (fs : List Freed) (xs : List Ranked) → IsRanked (record { next = k; items = xs })
    → IsRanked (record { next = k; items = with_freed s fs xs })
ranked-freed s k [] xs h = h
ranked-freed s k (f ∷ fs) xs h = ranked-freed s k fs (with_control s f.0 f.1 xs) (ranked-control s k f.0 f.1 xs h)

pub losing_keeps_ranks : LosingKeepsRanks
losing_keeps_ranks s n m h =
    ranked-freed s m.next (freed_lists n (plain m.items)) (filter (stays n) m.items) (record {
      rising = by_rank-filter (stays n) m.items h.rising;
      below = below-filter (stays n) m.next m.items h.below;
    })

-- ---- who gets control by the lists of an entry
-- whether a task is one of those who get control of a resource
abbrev among : List Freed → Res → TaskId → Bool
among fs r t = list_any (λ f. same_res f.0 r && list_any (same_task t) f.1) fs

among-on : (fs : List Freed) (r : Res) (t : TaskId) → among fs r t ≡ list_any (same_task t) (freed_on r fs)
among-on [] r t = refl
among-on (f ∷ fs) r t =
    ap (λ b. (b && list_any (same_task t) f.1) || among fs r t) (same_res-sym f.0 r)
    ∙ ap (λ b. b || among fs r t) (go (same_res r f.0))
    ∙ ap (λ b. list_any (same_task t) (cond (same_res r f.0) f.1 []) || b) (among-on fs r t)
    ∙ sym (list_any-append (same_task t) (cond (same_res r f.0) f.1 []) (freed_on r fs))
  where
    go : (b : Bool) → (b && list_any (same_task t) f.1) ≡ list_any (same_task t) (cond b f.1 [])
    go true = refl
    go false = refl

among-freed : (n : ℕ) (hs : State) (r : Res) (t : TaskId) → among (freed_lists n hs) r t ≡ is_freed n hs r t
among-freed n hs r t =
    among-on (freed_lists n hs) r t ∙ ap (list_any (same_task t)) (freed-on n hs r) ∙ any-freed n hs r t

-- ---- who is still to be told owns, and is of another system
pass-freed : (test : Res → TaskId → Bool) (s : ℕ) (fs : List Freed) (xs : List Ranked)
    → ((r : Res) (u : TaskId) → among fs r u ≡ true → not (s == u.system.0) ≡ true → test r u ≡ true)
    → untold_pass test xs ≡ true → untold_pass test (with_freed s fs xs) ≡ true
pass-freed test s [] xs own h = h
pass-freed test s (f ∷ fs) xs own h =
    pass-freed test s fs (with_control s f.0 f.1 xs) (λ r u some away. own r u (later (same_res f.0 r) _ _ some) away)
    (pass-control test s f.0 f.1 xs (λ u some away. own f.0 u (here _ _ _ (same_res-itself f.0) some) away) h)
  where
    later : (a b c : Bool) → c ≡ true → ((a && b) || c) ≡ true
    later a b c h = grind (arith, h)

    here : (a b c : Bool) → a ≡ true → b ≡ true → ((a && b) || c) ≡ true
    here a b c h k = grind (arith, h, k)

pass-stays : (test more : Res → TaskId → Bool) (n : ℕ)
    → ((q : Res) (u : TaskId) → not (is_systems q && (n == u.system.0)) ≡ true → test q u ≡ true → more q u ≡ true)
    → (xs : List Ranked) → untold_pass test xs ≡ true → untold_pass more (filter (stays n) xs) ≡ true
pass-stays test more n keeps [] h = refl
pass-stays test more n keeps (x ∷ xs) h = grind (arith, h, keeps x.res x.elem.task, pass-stays test more n keeps xs)

owns-left : (hs : State) (n : ℕ) (r : Res) (t : TaskId) → not (is_systems r && (n == t.system.0)) ≡ true
    → owns_by hs r t ≡ true → owns_by (remove_state hs n) r t ≡ true
owns-left hs n r t left own = by_systems r _
    (λ wide. owns-remove hs n r t (apart (is_systems r) (n == t.system.0) wide left) own)
    (λ narrow. ap (λ l. owns l t) (list_of-remove_other hs n r narrow) ∙ own)
  where
    apart : (a b : Bool) → a ≡ true → not (a && b) ≡ true → b ≡ false
    apart a b h k = grind (arith, h, k)

pub losing_keeps_untold_own : LosingKeepsUntoldOwn
losing_keeps_untold_own s n m h = record {
  own =
      subst (λ (l : State). untold_pass (owns_by l) (lost s n m).items ≡ true) (sym (lost_lists s n m))
      (pass-freed (owns_by (remove_state (plain m.items) n)) s (freed_lists n (plain m.items))
      (filter (stays n) m.items)
      (λ r u some away.
      (and_parts (owns_by (remove_state (plain m.items) n) r u) (not (owns_by (plain m.items) r u))
      (sym (among-freed n (plain m.items) r u) ∙ some)).0)
      (pass-stays (owns_by (plain m.items)) (owns_by (remove_state (plain m.items) n)) n (owns-left (plain m.items) n)
      m.items h.own));
  elsewhere =
      pass-freed (is_elsewhere s) s (freed_lists n (plain m.items)) (filter (stays n) m.items)
      (λ r u some away. away)
      (pass-stays (is_elsewhere s) (is_elsewhere s) n (λ q u left away. away) m.items h.elsewhere);
}

-- ---- all entries
kept-lost : {P : Type 0} (f : Managed → Managed) (es : List (Option Managed)) (e : ℕ) (m : Managed)
    → kept_at (map (option_map f) es) e ≡ Some m → ((k : Managed) → kept_at es e ≡ Some k → f k ≡ m → P) → P
kept-lost f [] e m at then = absurd cc
kept-lost f (None ∷ es) zero m at then = absurd cc
kept-lost f (Some k ∷ es) zero m at then = then k refl cc
kept-lost f (x ∷ es) (suc e) m at then = kept-lost f es e m at then

pub losing_keeps_well : LosingKeepsWell
losing_keeps_well v t all e m at =
    kept-lost (lost v.system.0 t.0) v.entries e m at
    (λ k was is.
    subst (IsWellKept v.system.0) is (record {
      ranked = losing_keeps_ranks v.system.0 t.0 k (all e k was).ranked;
      untold = losing_keeps_untold_own v.system.0 t.0 k (all e k was).untold;
    }))

-- ---- who is still to be told
freed-more : (was here any away has rest : Bool)
    → ((was || ((here && (any && away)) && has)) || ((rest && away) && has))
    ≡ (was || ((((here && any) || rest) && away) && has))
freed-more true here any away has rest = refl
freed-more false here any false has rest = grind arith
freed-more false here any true has rest = grind arith

at-freed : (s : ℕ) (fs : List Freed) (xs : List Ranked) (q : Res) (u : TaskId)
    → untold_at (with_freed s fs xs) q u
    ≡ (untold_at xs q u || ((among fs q u && not (s == u.system.0)) && holds (plain xs) q u))
at-freed s [] xs q u = go (untold_at xs q u)
  where
    go : (b : Bool) → b ≡ (b || false)
    go true = refl
    go false = refl
at-freed s (f ∷ fs) xs q u =
    at-freed s fs (with_control s f.0 f.1 xs) q u
    ∙ ap (λ b.
    b || ((among fs q u && not (s == u.system.0)) && holds (plain (with_control s f.0 f.1 xs)) q u))
    (at-control s f.0 q u f.1 xs)
    ∙ ap (λ (l : State).
    (untold_at xs q u
    || ((same_res f.0 q && (list_any (same_task u) f.1 && not (s == u.system.0))) && holds (plain xs) q u))
    || ((among fs q u && not (s == u.system.0)) && holds l q u))
    (plain-control s f.0 f.1 xs)
    ∙ freed-more (untold_at xs q u) (same_res f.0 q) (list_any (same_task u) f.1) (not (s == u.system.0))
    (holds (plain xs) q u) (among fs q u)

at-stays : (n : ℕ) (q : Res) (u : TaskId) (xs : List Ranked)
    → untold_at (filter (stays n) xs) q u ≡ (not (is_systems q && (n == u.system.0)) && untold_at xs q u)
at-stays n q u [] = go (not (is_systems q && (n == u.system.0)))
  where
    go : (b : Bool) → false ≡ (b && false)
    go true = refl
    go false = refl
at-stays n q u (x ∷ xs) =
    grind (arith, at-stays n q u xs, same_res-exact q x.res, same_task-exact u x.elem.task)

pub lost_untold : LostUntold
lost_untold s n m r t =
    at-freed s (freed_lists n (plain m.items)) (filter (stays n) m.items) r t
    ∙ ap (λ b.
    b
    || ((among (freed_lists n (plain m.items)) r t && not (s == t.system.0))
    && holds (plain (filter (stays n) m.items)) r t))
    (at-stays n r t m.items)
    ∙ ap (λ b.
    (not (is_systems r && (n == t.system.0)) && untold_at m.items r t)
    || ((b && not (s == t.system.0)) && holds (plain (filter (stays n) m.items)) r t))
    (among-freed n (plain m.items) r t)
    ∙ ap (λ (l : State).
    (not (is_systems r && (n == t.system.0)) && untold_at m.items r t)
    || ((is_freed n (plain m.items) r t && not (s == t.system.0)) && holds l r t))
    (plain-stays n m.items)
    ∙ ap (λ b.
    (not (is_systems r && (n == t.system.0)) && untold_at m.items r t)
    || ((is_freed n (plain m.items) r t && not (s == t.system.0)) && b))
    (holds-remove (plain m.items) n r t)
    ∙ given-untold (is_systems r && (n == t.system.0)) (untold_at m.items r t) (holds (plain m.items) r t)
    (is_freed n (plain m.items) r t && not (s == t.system.0)) (untold-holds r t m.items)
    ∙ ap (λ b. b && (untold_at m.items r t || (is_freed n (plain m.items) r t && not (s == t.system.0))))
    (sym (holds-remove (plain m.items) n r t))
