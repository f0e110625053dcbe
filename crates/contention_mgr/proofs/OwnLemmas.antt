-- Who owns behind a request by the plain lists, and who is then still to be told.
use Rattle.std.proofs.Common.{◌≡◌, ℕ, zero, suc, Bool, true, false, cond, not, ◌&&◌, ◌||◌, List, [], ◌∷◌, ◌++◌, take}
use Rattle.std.proofs.Common.{Some, refl, ap, sym, ◌∙◌, subst, arith}
use Rattle.std.specs.Prelude.{◌==◌, slice_get}
use Rattle.std.specs.List.{list_any}
use Rattle.std.proofs.lemmas.Bool.{and_parts}
use Rattle.std.proofs.lemmas.Bool.Decides.{nat_tests}
use Rattle.grs_base.specs.Same.{same_res, same_task}
use Rattle.grs_base.specs.Lists.{shared_front, owners, owns, owns_shared, has_task, decide_enq, list_after}
use Rattle.grs_base.specs.Lists.{list_exclusive, is_owner, standing_of}
use Rattle.grs_base.specs.State.{pick, State, list_of, after_effect, enq_state, deq_state, release_state}
use Rattle.grs_base.specs.declared.decision.Effect.{Effect}
use Rattle.grs_base.specs.declared.decision.Effect.TheVariants.{Nothing, Append, MakeExclusive}
use Rattle.grs_base.specs.declared.decision.Standing.TheVariants.{OnlyShared}
use Rattle.grs_base.specs.declared.resource.Ctl.{Ctl}
use Rattle.grs_base.specs.declared.resource.Elem.{Elem}
use Rattle.grs_base.specs.declared.resource.Res.{Res}
use Rattle.grs_base.specs.declared.resource.Ret.{Ret}
use Rattle.grs_base.specs.declared.resource.TaskId.{TaskId}
use Rattle.grs_base.proofs.ListLaws.{owns-append, same_task-sym}
use Rattle.grs_base.proofs.SameLaws.{same_res-exact, same_res-itself, same_task-exact, same_task-itself}
use Rattle.grs_base.proofs.StateLaws.{list_at-without_other, res_equality, list_of-effect, list_of-effect_other}
use Rattle.grs_base.proofs.StateLaws.{only_owner}
use Rattle.grs_wire.proofs.WantLaws.{by_res, owns-want}
use Rattle.grs_wire.specs.Wants.{became_owners, after_want, new_owners}
use Rattle.grs_wire.specs.declared.request.Want.{Want}
use Rattle.grs_wire.specs.declared.request.Want.TheVariants.{Enq, Deq, Release, Look}
use Rattle.queue_table.proofs.OwnerLemmas.{became_owners-enq}
use Rattle.contention_mgr.specs.Manager.{Ranked, Managed, plain, is_of, marked, made_exclusive, taken_out, with_mark}
use Rattle.contention_mgr.specs.Manager.{with_control, enqueued, given_up, settled}
use Rattle.contention_mgr.specs.Elements.{holds}
use Rattle.contention_mgr.specs.Loads.{ranked_list, ranked_rows}
use Rattle.lock_structure.specs.RankedRows.{RankedRow}
use Rattle.contention_mgr.specs.Laws.{untold_pass, owns_by, is_elsewhere, UntoldOwnBegins, LoadedUntoldOwn}
use Rattle.contention_mgr.specs.Laws.{UntoldStayOwners, TellingKeepsUntoldOwn, FirstUntoldOwns, untold_at, gains}
use Rattle.contention_mgr.specs.Laws.{UntoldFollow, GainersAreUntold, TellingTells, LoadedAreTold}
use Rattle.contention_mgr.proofs.ItemLemmas.{holds-list, holds-push, holds-without, holds-exclusive}
use Rattle.contention_mgr.proofs.LawProofs.{lists_follow, telling_keeps_lists, plain-taken}
use Rattle.contention_mgr.proofs.UntoldLemmas.{by_cases, first-untold}

-- ---- who became owner
owns_shared-any : (es : List Elem) (t : TaskId)
    → owns_shared es t ≡ list_any (λ e. same_task t e.task) (take (shared_front es) es)
owns_shared-any [] t = refl
owns_shared-any (e ∷ es) t = grind (arith, owns_shared-any es t)

-- an owner is one of the first elements
pub owns-any : (es : List Elem) (t : TaskId) → owns es t ≡ list_any (λ e. same_task t e.task) (take (owners es) es)
owns-any [] t = refl
owns-any (e ∷ es) t = grind (arith, owns_shared-any es t)

pub any-pick : (p : TaskId → Bool) (es : List Elem) (t : TaskId)
    → list_any (same_task t) (pick (λ e. p e.task) (λ e. e.task) es) ≡ (p t && list_any (λ e. same_task t e.task) es)
any-pick p [] t = grind arith
any-pick p (e ∷ es) t = grind (arith, any-pick p es t, same_task-exact t e.task)

any-became : (before after : List Elem) (asker t : TaskId)
    → list_any (same_task t) (became_owners before after asker)
    ≡ ((not (owns before t) && not (same_task asker t)) && owns after t)
any-became before after asker t =
    any-pick (λ u. not (owns before u) && not (same_task asker u)) (take (owners after) after) t
    ∙ ap (λ b. (not (owns before t) && not (same_task asker t)) && b) (sym (owns-any after t))

-- ---- an owner stays one
-- the only owner owns once its control is exclusive
owns-exclusive : (es : List Elem) (t : TaskId) → standing_of es t ≡ OnlyShared → owns (list_exclusive es t) t ≡ true
owns-exclusive [] t h = cc
owns-exclusive (e ∷ es) t h = grind (arith, nat_tests, h)

-- behind its own ENQ
owns-asker : (es : List Elem) (t : TaskId) (c : Ctl) (e : Effect) → (e ≡ MakeExclusive → standing_of es t ≡ OnlyShared)
    → owns es t ≡ true → owns (list_after es t c e) t ≡ true
owns-asker es t c Nothing only own = own
owns-asker es t c Append only own = owns-append es _ t own
owns-asker es t c MakeExclusive only own = owns-exclusive es t (only refl)

-- behind any ENQ
owns-enq : (s : State) (t : TaskId) (r : Res) (c : Ctl) (ret : Ret) (full : Bool) (q : Res) (u : TaskId)
    → owns_by s q u ≡ true → owns_by (enq_state s r t c ret full) q u ≡ true
owns-enq s t r c ret full q u own = by_cases (same_task u t)
    (λ same.
    subst (λ v. owns_by (enq_state s r t c ret full) q v ≡ true) (sym (same_task-exact u t same))
    (asker (subst (λ v. owns_by s q v ≡ true) (same_task-exact u t same) own)))
    (λ other. owns-want s t (Enq r c ret full) q u other own)
  where
    asker : owns_by s q t ≡ true → owns_by (enq_state s r t c ret full) q t ≡ true
    asker h = by_res q r _
        (λ same. subst (λ x. owns_by (enq_state s r t c ret full) x t ≡ true) (sym same)
        (ap (λ l. owns l t) (list_of-effect s r t c _)
        ∙ owns-asker (list_of s r) t c _ (only_owner (list_of s r) t c ret full)
        (subst (λ x. owns_by s x t ≡ true) same h)))
        (λ other. ap (λ l. owns l t) (list_of-effect_other s q r t c _ other) ∙ h)

-- where another element is taken out
owns-taken : (s : State) (r : Res) (t : TaskId) (q : Res) (u : TaskId) → (same_res r q && same_task t u) ≡ false
    → owns_by s q u ≡ true → owns_by (release_state s r t) q u ≡ true
owns-taken s r t q u apart own = by_cases (same_task u t)
    (λ same. by_res q r _
    (λ one. absurd (grind (arith, apart, same, one, same_res-itself r, same_task-exact u t, same_task-itself t)))
    (λ other. ap (λ l. owns l u) (list_at-without_other same_res res_equality s q r t other) ∙ own))
    (λ other. owns-want s t (Release r) q u other own)

-- ---- tests of those who are still to be told
module _ (test : Res → TaskId → Bool) where
  pass-push : (xs : List Ranked) (x : Ranked) → x.untold ≡ false → untold_pass test xs ≡ true
      → untold_pass test (xs ++ x ∷ []) ≡ true
  pass-push [] x is h = grind (arith, is)
  pass-push (y ∷ xs) x is h = grind (arith, h, pass-push xs x is)

  pass-exclusive : (r : Res) (t : TaskId) (xs : List Ranked)
      → untold_pass test (made_exclusive r t xs) ≡ untold_pass test xs
  pass-exclusive r t [] = refl
  pass-exclusive r t (x ∷ xs) = grind (arith, pass-exclusive r t xs)

  pass-told : (r : Res) (t : TaskId) (xs : List Ranked) → untold_pass test xs ≡ true
      → untold_pass test (with_mark false r t xs) ≡ true
  pass-told r t [] h = refl
  pass-told r t (x ∷ xs) h = grind (arith, h, pass-told r t xs)

  pass-untold : (r : Res) (t : TaskId) (xs : List Ranked) → test r t ≡ true → untold_pass test xs ≡ true
      → untold_pass test (with_mark true r t xs) ≡ true
  pass-untold r t [] own h = refl
  pass-untold r t (x ∷ xs) own h =
      grind (arith, own, h, same_res-exact r x.res, same_task-exact t x.elem.task, pass-untold r t xs)

  pub pass-control : (system : ℕ) (r : Res) (ts : List TaskId) (xs : List Ranked)
      → ((u : TaskId) → list_any (same_task u) ts ≡ true → not (system == u.system.0) ≡ true → test r u ≡ true)
      → untold_pass test xs ≡ true → untold_pass test (with_control system r ts xs) ≡ true
  pass-control system r [] xs own h = h
  pass-control system r (t ∷ ts) xs own h =
      pass-control system r ts (cond (not (system == t.system.0)) (with_mark true r t xs) xs)
      (λ u among. own u (grind (arith, among))) (step (not (system == t.system.0)) refl)
    where
      step : (b : Bool) → not (system == t.system.0) ≡ b → untold_pass test (cond b (with_mark true r t xs) xs) ≡ true
      step true away = pass-untold r t xs (own t (grind (arith, same_task-itself t)) away) h
      step false away = h

  pass-list : (r : Res) (es : List Elem) (ns : List ℕ) (zs : List Ranked) → untold_pass test zs ≡ true
      → untold_pass test (ranked_list r es ns ++ zs) ≡ true
  pass-list r [] ns zs h = h
  pass-list r (e ∷ es) [] zs h = h
  pass-list r (e ∷ es) (n ∷ ns) zs h = pass-list r es ns zs h

  pass-rows : (xs : List RankedRow) → untold_pass test (ranked_rows xs) ≡ true
  pass-rows [] = refl
  pass-rows (x ∷ xs) = pass-list x.0.res x.0.elems x.1 (ranked_rows xs) (pass-rows xs)

  -- one of them passes
  pass-at : (xs : List Ranked) (i : ℕ) (x : Ranked) → slice_get xs i ≡ Some x → x.untold ≡ true
      → untold_pass test xs ≡ true → test x.res x.elem.task ≡ true
  pass-at [] i x at is h = cc
  pass-at (y ∷ xs) zero x at is h = grind (arith, at, is, h)
  pass-at (y ∷ xs) (suc i) x at is h = pass-at xs i x at is (grind (arith, h))

  pass-enqueued : (m : Managed) (r : Res) (t : TaskId) (c : Ctl) (e : Effect) → untold_pass test m.items ≡ true
      → untold_pass test (enqueued m r t c e).items ≡ true
  pass-enqueued m r t c Nothing h = h
  pass-enqueued m r t c Append h =
      pass-push m.items (record { res = r; elem = record { task = t; ctl = c }; rank = m.next; untold = false }) refl h
  pass-enqueued m r t c MakeExclusive h = pass-exclusive r t m.items ∙ h

-- a test that is passed by all who pass another
pass-weaken : (test more : Res → TaskId → Bool) → ((q : Res) (u : TaskId) → test q u ≡ true → more q u ≡ true)
    → (xs : List Ranked) → untold_pass test xs ≡ true → untold_pass more xs ≡ true
pass-weaken test more keeps [] h = refl
pass-weaken test more keeps (x ∷ xs) h = grind (arith, h, keeps x.res x.elem.task, pass-weaken test more keeps xs)

pass-taken : (test more : Res → TaskId → Bool) (r : Res) (t : TaskId)
    → ((q : Res) (u : TaskId) → (same_res r q && same_task t u) ≡ false → test q u ≡ true → more q u ≡ true)
    → (xs : List Ranked) → untold_pass test xs ≡ true → untold_pass more (taken_out r t xs) ≡ true
pass-taken test more r t keeps [] h = refl
pass-taken test more r t keeps (x ∷ xs) h = grind (arith, h, keeps x.res x.elem.task, pass-taken test more r t keeps xs)

-- ---- who is still to be told owns
given-own : (system : ℕ) (m : Managed) (r : Res) (t : TaskId) (ts : List TaskId)
    → ((u : TaskId) → list_any (same_task u) ts ≡ true → owns_by (release_state (plain m.items) r t) r u ≡ true)
    → untold_pass (owns_by (plain m.items)) m.items ≡ true
    → untold_pass (owns_by (release_state (plain m.items) r t)) (given_up system m r t ts).items ≡ true
given-own system m r t ts own h =
    pass-control (owns_by (release_state (plain m.items) r t)) system r ts (taken_out r t m.items)
    (λ u among away. own u among)
    (pass-taken (owns_by (plain m.items)) (owns_by (release_state (plain m.items) r t)) r t
    (owns-taken (plain m.items) r t) m.items h)

became-own : (before after : List Elem) (asker u : TaskId)
    → list_any (same_task u) (became_owners before after asker) ≡ true → owns after u ≡ true
became-own before after asker u among =
    (and_parts (not (owns before u) && not (same_task asker u)) (owns after u)
    (sym (any-became before after asker u) ∙ among)).1

settled-own : (system : ℕ) (m : Managed) (t : TaskId) (w : Want) → untold_pass (owns_by (plain m.items)) m.items ≡ true
    → untold_pass (owns_by (after_want (plain m.items) t w)) (settled system m t w).items ≡ true
settled-own system m t (Enq r c ret full) h =
    pass-enqueued (owns_by (enq_state (plain m.items) r t c ret full)) m r t c
    (decide_enq (list_of (plain m.items) r) t c ret full).effect
    (pass-weaken (owns_by (plain m.items)) (owns_by (enq_state (plain m.items) r t c ret full))
    (owns-enq (plain m.items) t r c ret full) m.items h)
settled-own system m t (Deq r have) h = step (is_owner (standing_of (list_of (plain m.items) r) t)) refl
  where
    step : (b : Bool) → is_owner (standing_of (list_of (plain m.items) r) t) ≡ b
        → untold_pass (owns_by (cond b (release_state (plain m.items) r t) (plain m.items)))
        (cond b (given_up system m r t (new_owners (plain m.items) t (Deq r have))) m).items
        ≡ true
    step true is = given-own system m r t (new_owners (plain m.items) t (Deq r have))
        (λ u among.
        subst (λ (b : Bool). owns_by (cond b (release_state (plain m.items) r t) (plain m.items)) r u ≡ true) is
        (became-own (list_of (plain m.items) r) (list_of (deq_state (plain m.items) r t) r) t u among))
        h
    step false is = h
settled-own system m t (Release r) h =
    given-own system m r t (new_owners (plain m.items) t (Release r))
    (became-own (list_of (plain m.items) r) (list_of (release_state (plain m.items) r t) r) t) h
settled-own system m t (Look first count f) h = h

given-elsewhere : (system : ℕ) (m : Managed) (r : Res) (t : TaskId) (ts : List TaskId)
    → untold_pass (is_elsewhere system) m.items ≡ true
    → untold_pass (is_elsewhere system) (given_up system m r t ts).items ≡ true
given-elsewhere system m r t ts h =
    pass-control (is_elsewhere system) system r ts (taken_out r t m.items) (λ u among away. away)
    (pass-taken (is_elsewhere system) (is_elsewhere system) r t (λ q u apart away. away) m.items h)

settled-elsewhere : (system : ℕ) (m : Managed) (t : TaskId) (w : Want)
    → untold_pass (is_elsewhere system) m.items ≡ true
    → untold_pass (is_elsewhere system) (settled system m t w).items ≡ true
settled-elsewhere system m t (Enq r c ret full) h =
    pass-enqueued (is_elsewhere system) m r t c (decide_enq (list_of (plain m.items) r) t c ret full).effect h
settled-elsewhere system m t (Deq r have) h = step (is_owner (standing_of (list_of (plain m.items) r) t))
  where
    step : (b : Bool)
        → untold_pass (is_elsewhere system)
        (cond b (given_up system m r t (new_owners (plain m.items) t (Deq r have))) m).items
        ≡ true
    step true = given-elsewhere system m r t (new_owners (plain m.items) t (Deq r have)) h
    step false = h
settled-elsewhere system m t (Release r) h = given-elsewhere system m r t (new_owners (plain m.items) t (Release r)) h
settled-elsewhere system m t (Look first count f) h = h

pub untold_own_begins : UntoldOwnBegins
untold_own_begins system = record { own = refl; elsewhere = refl }

pub loaded_untold_own : LoadedUntoldOwn
loaded_untold_own system xs = record {
  own = pass-rows (owns_by (plain (ranked_rows xs))) xs;
  elsewhere = pass-rows (is_elsewhere system) xs;
}

pub untold_stay_owners : UntoldStayOwners
untold_stay_owners system m t w h = record {
  own =
      subst (λ (s : State). untold_pass (owns_by s) (settled system m t w).items ≡ true)
      (sym (lists_follow system m t w)) (settled-own system m t w h.own);
  elsewhere = settled-elsewhere system m t w h.elsewhere;
}

pub telling_keeps_untold_own : TellingKeepsUntoldOwn
telling_keeps_untold_own system t r m h = record {
  own =
      subst (λ (s : State). untold_pass (owns_by s) (with_mark false r t m.items) ≡ true)
      (sym (telling_keeps_lists false r t m.items)) (pass-told (owns_by (plain m.items)) r t m.items h.own);
  elsewhere = pass-told (is_elsewhere system) r t m.items h.elsewhere;
}

pub first_untold_owns : FirstUntoldOwns
first_untold_owns system home m x h first =
    let found = first-untold home m.items x first in
    pass-at (owns_by (plain m.items)) m.items found.0 x found.1
    (and_parts x.untold (not (home == x.elem.task.system.0)) found.2).0 h.own

-- ---- who is still to be told behind a request
at-push : (q : Res) (u : TaskId) (xs : List Ranked) (x : Ranked) → x.untold ≡ false
    → untold_at (xs ++ x ∷ []) q u ≡ untold_at xs q u
at-push q u [] x is = grind (arith, is)
at-push q u (y ∷ xs) x is = grind (arith, at-push q u xs x is)

at-exclusive : (r : Res) (t : TaskId) (q : Res) (u : TaskId) (xs : List Ranked)
    → untold_at (made_exclusive r t xs) q u ≡ untold_at xs q u
at-exclusive r t q u [] = refl
at-exclusive r t q u (x ∷ xs) = grind (arith, at-exclusive r t q u xs)

-- an element is that of one task on one resource
one_place : (r : Res) (t : TaskId) (q : Res) (u : TaskId) (x : Ranked) → is_of q u x ≡ true
    → is_of r t x ≡ (same_res r q && same_task t u)
one_place r t q u x h = grind (arith, h, same_res-exact q x.res, same_task-exact u x.elem.task)

at-taken : (r : Res) (t : TaskId) (q : Res) (u : TaskId) (xs : List Ranked)
    → untold_at (taken_out r t xs) q u ≡ (not (same_res r q && same_task t u) && untold_at xs q u)
at-taken r t q u [] = grind arith
at-taken r t q u (x ∷ xs) = grind (arith, one_place r t q u x, at-taken r t q u xs)

told-bool : (b a n g : Bool) → (a ≡ true → b ≡ g) → (a && cond b false n) ≡ ((a && n) && not g)
told-bool b false n g e = refl
told-bool true true n g e = subst (λ (c : Bool). false ≡ (n && not c)) (e refl) (none n)
  where
    none : (m : Bool) → false ≡ (m && false)
    none true = refl
    none false = refl
told-bool false true n g e = subst (λ (c : Bool). n ≡ (n && not c)) (e refl) (all n)
  where
    all : (m : Bool) → m ≡ (m && true)
    all true = refl
    all false = refl

spread : (a b c : Bool) → ((a && c) || (b && c)) ≡ ((a || b) && c)
spread true true true = refl
spread true false true = refl
spread true b false = grind arith
spread false b c = refl

at-told : (r : Res) (t : TaskId) (q : Res) (u : TaskId) (xs : List Ranked)
    → untold_at (with_mark false r t xs) q u ≡ (untold_at xs q u && not (same_res r q && same_task t u))
at-told r t q u [] = refl
at-told r t q u (x ∷ xs) =
    ap (λ (b : Bool).
    (is_of q u (cond (is_of r t x) (marked false x) x) && (cond (is_of r t x) (marked false x) x).untold) || b)
    (at-told r t q u xs)
    ∙ ap (λ (b : Bool). b || (untold_at xs q u && not (same_res r q && same_task t u))) (head (is_of r t x) refl)
    ∙ spread (is_of q u x && x.untold) (untold_at xs q u) (not (same_res r q && same_task t u))
  where
    head : (b : Bool) → is_of r t x ≡ b
        → (is_of q u (cond b (marked false x) x) && (cond b (marked false x) x).untold)
        ≡ ((is_of q u x && x.untold) && not (same_res r q && same_task t u))
    head true is =
        told-bool true (is_of q u x) x.untold (same_res r q && same_task t u)
        (λ here. sym is ∙ one_place r t q u x here)
    head false is =
        told-bool false (is_of q u x) x.untold (same_res r q && same_task t u)
        (λ here. sym is ∙ one_place r t q u x here)

untold-bool : (b a n g rest has : Bool) → (a ≡ true → b ≡ g)
    → ((a && cond b true n) || (rest || (g && has))) ≡ (((a && n) || rest) || (g && (a || has)))
untold-bool b false n g rest has e = refl
untold-bool true true n g rest has e =
    subst (λ (c : Bool). true ≡ ((n || rest) || (c && true))) (e refl) (any (n || rest))
  where
    any : (m : Bool) → true ≡ (m || true)
    any true = refl
    any false = refl
untold-bool false true n g rest has e =
    subst (λ (c : Bool). (n || (rest || (c && has))) ≡ ((n || rest) || (c && true))) (e refl) (sort n)
  where
    sort : (m : Bool) → (m || (rest || false)) ≡ ((m || rest) || false)
    sort true = refl
    sort false = refl

at-untold : (r : Res) (t : TaskId) (q : Res) (u : TaskId) (xs : List Ranked)
    → untold_at (with_mark true r t xs) q u
    ≡ (untold_at xs q u || ((same_res r q && same_task t u) && holds (plain xs) q u))
at-untold r t q u [] = grind arith
at-untold r t q u (x ∷ xs) =
    ap (λ (b : Bool).
    (is_of q u (cond (is_of r t x) (marked true x) x) && (cond (is_of r t x) (marked true x) x).untold) || b)
    (at-untold r t q u xs)
    ∙ head (is_of r t x) refl
  where
    head : (b : Bool) → is_of r t x ≡ b
        → ((is_of q u (cond b (marked true x) x) && (cond b (marked true x) x).untold)
        || (untold_at xs q u || ((same_res r q && same_task t u) && holds (plain xs) q u)))
        ≡ (untold_at (x ∷ xs) q u || ((same_res r q && same_task t u) && holds (plain (x ∷ xs)) q u))
    head true is =
        untold-bool true (is_of q u x) x.untold (same_res r q && same_task t u) (untold_at xs q u)
        (holds (plain xs) q u) (λ here. sym is ∙ one_place r t q u x here)
    head false is =
        untold-bool false (is_of q u x) x.untold (same_res r q && same_task t u) (untold_at xs q u)
        (holds (plain xs) q u) (λ here. sym is ∙ one_place r t q u x here)

-- one task more gets control, which is of another system, or isn't
control-more : (was here has among away first same : Bool) → first ≡ same → (same ≡ true → away ≡ true)
    → ((was || ((here && first) && has)) || ((here && (among && away)) && has))
    ≡ (was || ((here && ((same || among) && away)) && has))
control-more true here has among away first same e f = refl
control-more false false has among away first same e f = refl
control-more false true false among away first same e f = grind arith
control-more false true true among away first same e f = grind (arith, e, f)

control-none : (among away same : Bool) → (same ≡ true → away ≡ false) → (among && away) ≡ ((same || among) && away)
control-none among away false f = refl
control-none among away true f = grind (arith, f)

pub at-control : (system : ℕ) (r : Res) (q : Res) (u : TaskId) (ts : List TaskId) (xs : List Ranked)
    → untold_at (with_control system r ts xs) q u
    ≡ (untold_at xs q u
    || ((same_res r q && (list_any (same_task u) ts && not (system == u.system.0))) && holds (plain xs) q u))
at-control system r q u [] xs = grind arith
at-control system r q u (t ∷ ts) xs =
    at-control system r q u ts (cond (not (system == t.system.0)) (with_mark true r t xs) xs)
    ∙ step (not (system == t.system.0)) refl
  where
    step : (b : Bool) → not (system == t.system.0) ≡ b
        → (untold_at (cond b (with_mark true r t xs) xs) q u
        || ((same_res r q && (list_any (same_task u) ts && not (system == u.system.0)))
        && holds (plain (cond b (with_mark true r t xs) xs)) q u))
        ≡ (untold_at xs q u
        || ((same_res r q && ((same_task u t || list_any (same_task u) ts) && not (system == u.system.0)))
        && holds (plain xs) q u))
    step true is =
        ap (λ (b : Bool).
        b
        || ((same_res r q && (list_any (same_task u) ts && not (system == u.system.0)))
        && holds (plain (with_mark true r t xs)) q u))
        (at-untold r t q u xs)
        ∙ ap (λ (s : State).
        (untold_at xs q u || ((same_res r q && same_task t u) && holds (plain xs) q u))
        || ((same_res r q && (list_any (same_task u) ts && not (system == u.system.0))) && holds s q u))
        (telling_keeps_lists true r t xs)
        ∙ control-more (untold_at xs q u) (same_res r q) (holds (plain xs) q u) (list_any (same_task u) ts)
        (not (system == u.system.0)) (same_task t u) (same_task u t) (same_task-sym t u)
        (λ same. subst (λ (v : TaskId). not (system == v.system.0) ≡ true) (sym (same_task-exact u t same)) is)
    step false is = ap (λ (b : Bool). untold_at xs q u || ((same_res r q && b) && holds (plain xs) q u))
        (control-none (list_any (same_task u) ts) (not (system == u.system.0)) (same_task u t)
        (λ same. subst (λ (v : TaskId). not (system == v.system.0) ≡ false) (sym (same_task-exact u t same)) is))

-- who is to be told has an element, and so has an owner
pub untold-holds : (q : Res) (u : TaskId) (xs : List Ranked) → untold_at xs q u ≡ true → holds (plain xs) q u ≡ true
untold-holds q u [] h = cc
untold-holds q u (x ∷ xs) h = grind (arith, h, untold-holds q u xs)

owns_shared-has : (es : List Elem) (t : TaskId) → owns_shared es t ≡ true → has_task es t ≡ true
owns_shared-has [] t h = cc
owns_shared-has (e ∷ es) t h = grind (arith, h, owns_shared-has es t)

owns-has : (es : List Elem) (t : TaskId) → owns es t ≡ true → has_task es t ≡ true
owns-has [] t h = cc
owns-has (e ∷ es) t h = grind (arith, h, owns_shared-has es t)

owns-holds : (s : State) (q : Res) (u : TaskId) → owns_by s q u ≡ true → holds s q u ≡ true
owns-holds s q u h = holds-list s q u ∙ owns-has (list_of s q) u h

-- nobody gains where lists stay
gains-none : (system : ℕ) (before after : State) (asker : TaskId) (q : Res) (u : TaskId)
    → list_of after q ≡ list_of before q → gains system before after asker q u ≡ false
gains-none system before after asker q u same =
    ap (λ l. owns l u && not (owns_by before q u) && not (same_task asker u) && is_elsewhere system q u) same
    ∙ never (owns_by before q u) (not (same_task asker u)) (is_elsewhere system q u)
  where
    never : (a b c : Bool) → (a && not a && b && c) ≡ false
    never true b c = refl
    never false b c = refl

-- who gains on the resource of a request is among its new owners
gains-among : (system : ℕ) (before after : State) (asker : TaskId) (q : Res) (u : TaskId)
    → gains system before after asker q u
    ≡ (list_any (same_task u) (became_owners (list_of before q) (list_of after q) asker) && not (system == u.system.0))
gains-among system before after asker q u =
    sort (owns_by after q u) (owns_by before q u) (same_task asker u) (not (system == u.system.0))
    ∙ ap (λ b. b && not (system == u.system.0)) (sym (any-became (list_of before q) (list_of after q) asker u))
  where
    sort : (a b c d : Bool) → (a && not b && not c && d) ≡ (((not b && not c) && a) && d)
    sort a b c d = grind arith

gains-enq : (system : ℕ) (s : State) (t : TaskId) (r : Res) (c : Ctl) (ret : Ret) (full : Bool) (q : Res) (u : TaskId)
    → gains system s (enq_state s r t c ret full) t q u ≡ false
gains-enq system s t r c ret full q u = by_res q r _
    (λ same. subst (λ x. gains system s (enq_state s r t c ret full) t x u ≡ false) (sym same)
    (gains-among system s (enq_state s r t c ret full) t r u
    ∙ ap (λ us. list_any (same_task u) us && not (system == u.system.0)) (sym (became_owners-enq s r t c ret full))))
    (λ other. gains-none system s (enq_state s r t c ret full) t q u (list_of-effect_other s q r t c _ other))

-- where nobody gains, and all who are to be told are left
untold-kept : (now before has new : Bool) → now ≡ before → (before ≡ true → has ≡ true) → new ≡ false
    → now ≡ (has && (before || new))
untold-kept now before has new same left none = grind (arith, same, left, none)

at-enqueued : (m : Managed) (r : Res) (t : TaskId) (c : Ctl) (e : Effect) (q : Res) (u : TaskId)
    → (untold_at (enqueued m r t c e).items q u ≡ untold_at m.items q u)
    × (untold_at m.items q u ≡ true → holds (after_effect (plain m.items) r t c e) q u ≡ true)
at-enqueued m r t c Nothing q u = (refl, untold-holds q u m.items)
at-enqueued m r t c Append q u = (
  at-push q u m.items (record { res = r; elem = record { task = t; ctl = c }; rank = m.next; untold = false }) refl,
  λ h.
      holds-push (plain m.items) r (record { task = t; ctl = c }) q u
      ∙ either (holds (plain m.items) q u) (untold-holds q u m.items h),
)
  where
    either : (b : Bool) → b ≡ true → (b || (same_res q r && same_task u t)) ≡ true
    either true is = refl
    either false is = cc
at-enqueued m r t c MakeExclusive q
    u = (at-exclusive r t q u m.items, λ h. holds-exclusive (plain m.items) r t q u ∙ untold-holds q u m.items h)

-- an element is taken out, and these tasks gain
pub given-untold : (gone was here new : Bool) → (was ≡ true → here ≡ true)
    → ((not gone && was) || (new && (not gone && here))) ≡ ((not gone && here) && (was || new))
given-untold gone was here new left = grind (arith, left)

at-given : (system : ℕ) (m : Managed) (r : Res) (t : TaskId) (ts : List TaskId) (q : Res) (u : TaskId)
    → ((x : TaskId)
    → list_any (same_task x) ts
    ≡ list_any (same_task x)
    (became_owners (list_of (plain m.items) r) (list_of (release_state (plain m.items) r t) r) t))
    → untold_at (given_up system m r t ts).items q u
    ≡ (holds (release_state (plain m.items) r t) q u
    && (untold_at m.items q u || gains system (plain m.items) (release_state (plain m.items) r t) t q u))
at-given system m r t ts q u among =
    let new : (same_res r q && (list_any (same_task u) ts && not (system == u.system.0)))
    ≡ gains system (plain m.items) (release_state (plain m.items) r t) t q u =
    by_res q r _
    (λ same.
    subst (λ x.
    (same_res r x && (list_any (same_task u) ts && not (system == u.system.0)))
    ≡ gains system (plain m.items) (release_state (plain m.items) r t) t x u)
    (sym same)
    (ap (λ b. b && (list_any (same_task u) ts && not (system == u.system.0))) (same_res-itself r)
    ∙ ap (λ b. b && not (system == u.system.0)) (among u)
    ∙ sym (gains-among system (plain m.items) (release_state (plain m.items) r t) t r u)))
    (λ other. ap (λ b. b && (list_any (same_task u) ts && not (system == u.system.0))) (swapped q r other)
    ∙ sym (gains-none system (plain m.items) (release_state (plain m.items) r t) t q u
    (list_at-without_other same_res res_equality (plain m.items) q r t other))) in
    at-control system r q u ts (taken_out r t m.items)
    ∙ ap (λ b.
    b
    || ((same_res r q && (list_any (same_task u) ts && not (system == u.system.0)))
    && holds (plain (taken_out r t m.items)) q u))
    (at-taken r t q u m.items)
    ∙ ap (λ b.
    (not (same_res r q && same_task t u) && untold_at m.items q u) || (b && holds (plain (taken_out r t m.items)) q u))
    new
    ∙ ap (λ s.
    (not (same_res r q && same_task t u) && untold_at m.items q u)
    || (gains system (plain m.items) (release_state (plain m.items) r t) t q u && holds s q u))
    (plain-taken r t m.items)
    ∙ ap (λ b.
    (not (same_res r q && same_task t u) && untold_at m.items q u)
    || (gains system (plain m.items) (release_state (plain m.items) r t) t q u && b))
    (holds-without (plain m.items) r t q u)
    ∙ given-untold (same_res r q && same_task t u) (untold_at m.items q u) (holds (plain m.items) q u)
    (gains system (plain m.items) (release_state (plain m.items) r t) t q u) (untold-holds q u m.items)
    ∙ ap (λ b. b && (untold_at m.items q u || gains system (plain m.items) (release_state (plain m.items) r t) t q u))
    (sym (holds-without (plain m.items) r t q u))
  where
    swapped : (p r : Res) → same_res p r ≡ false → same_res r p ≡ false
    swapped p r h = grind (arith, h, same_res-exact r p, same_res-itself p)

pub untold_follow : UntoldFollow
untold_follow system m t (Enq r c ret full) q u =
    let at = at-enqueued m r t c (decide_enq (list_of (plain m.items) r) t c ret full).effect q u in
    untold-kept _ _ _ _ at.0 at.1 (gains-enq system (plain m.items) t r c ret full q u)
untold_follow system m t (Deq r have) q u = step (is_owner (standing_of (list_of (plain m.items) r) t)) refl
  where
    step : (b : Bool) → is_owner (standing_of (list_of (plain m.items) r) t) ≡ b
        → untold_at (cond b (given_up system m r t (new_owners (plain m.items) t (Deq r have))) m).items q u
        ≡ (holds (cond b (release_state (plain m.items) r t) (plain m.items)) q u
        && (untold_at m.items q u
        || gains system (plain m.items) (cond b (release_state (plain m.items) r t) (plain m.items)) t q u))
    step true is = at-given system m r t (new_owners (plain m.items) t (Deq r have)) q u
        (λ x.
        ap (λ (b : Bool).
        list_any (same_task x) (became_owners (list_of (plain m.items) r)
        (list_of (cond b (release_state (plain m.items) r t) (plain m.items)) r) t))
        is)
    step false is =
        untold-kept _ _ _ _ refl (untold-holds q u m.items)
        (gains-none system (plain m.items) (plain m.items) t q u refl)
untold_follow system m t (Release r) q u =
    at-given system m r t (new_owners (plain m.items) t (Release r)) q u (λ x. refl)
untold_follow system m t (Look first count f) q u =
    untold-kept _ _ _ _ refl (untold-holds q u m.items) (gains-none system (plain m.items) (plain m.items) t q u refl)

pub gainers_are_untold : GainersAreUntold
gainers_are_untold system m t w q u gained =
    let after : State = after_want (plain m.items) t w in
    let owner : owns_by after q u ≡ true =
    first (owns_by after q u) (not (owns_by (plain m.items) q u)) (not (same_task t u)) (is_elsewhere system q u)
    gained in
    untold_follow system m t w q u
    ∙ both (holds after q u) (untold_at m.items q u) (gains system (plain m.items) after t q u)
    (owns-holds after q u owner) gained
  where
    first : (a b c d : Bool) → (a && b && c && d) ≡ true → a ≡ true
    first true b c d h = refl
    first false b c d h = h

    both : (a b c : Bool) → a ≡ true → c ≡ true → (a && (b || c)) ≡ true
    both a b c h k = grind (arith, h, k)

pub telling_tells : TellingTells
telling_tells t r m q u = at-told r t q u m.items

at-list : (q : Res) (u : TaskId) (r : Res) (es : List Elem) (ns : List ℕ) (zs : List Ranked) → untold_at zs q u ≡ false
    → untold_at (ranked_list r es ns ++ zs) q u ≡ false
at-list q u r [] ns zs h = h
at-list q u r (e ∷ es) [] zs h = h
at-list q u r (e ∷ es) (n ∷ ns) zs h = grind (arith, at-list q u r es ns zs h)

pub loaded_are_told : LoadedAreTold
loaded_are_told [] q u = refl
loaded_are_told (x ∷ xs) q u = at-list q u x.0.res x.0.elems x.1 (ranked_rows xs) (loaded_are_told xs q u)
