-- A system's part in star mode goes on to be orderly where another system is removed: it manages or gathers an entry,
-- and never both, whatever it takes up, loses or learns of others.
use Rattle.std.proofs.Common.{◌≡◌, ◌<◌, ◌≤◌, ℕ, zero, suc, Bool, true, false, cond, List, [], ◌∷◌, ◌++◌, ◌⊎◌, inl, inr}
use Rattle.std.proofs.Common.{length, map, filter, replicate, Option, Some, None, is_some, refl, ap, sym, ◌∙◌, subst}
use Rattle.std.proofs.Common.{◌+◌, arith, append-nil, add-one}
use Rattle.std.specs.Prelude.{not, ◌&&◌, ◌||◌, ◌==◌, nat_lt, slice_set, slice_get, unwrap_or, IfSome}
use Rattle.std.specs.List.{list_all}
use Rattle.std.specs.Option.{option_map, option_map_or}
use Rattle.std.proofs.lemmas.Bool.{and_parts, ltb-true, true≢false}
use Rattle.std.proofs.lemmas.Bool.Decides.{nat_tests}
use Rattle.std.proofs.lemmas.List.{length-set, length-replicate}
use Rattle.contention_mgr.specs.Installs.{installed}
use Rattle.contention_mgr.specs.Loses.{lost}
use Rattle.contention_mgr.specs.Manager.{Managed, ManagerView, kept_at, kept_for, entry_wanted, with_entry}
use Rattle.grs_base.specs.Limits.{most_systems}
use Rattle.grs_base.specs.declared.resource.SysId.{SysId}
use Rattle.grs_base.specs.declared.resource.TaskId.{TaskId}
use Rattle.grs_node.specs.Addressed.{AnyPartFits}
use Rattle.grs_node.specs.Node.{is_item_of}
use Rattle.grs_node.specs.Removal.{Standing, standing, IsOrderly, take_up, take_up_if, take_up_below, lose, lose_each}
use Rattle.grs_node.specs.Removal.{members_below, sent_again, awaited, with_role, names_system, is_news}
use Rattle.grs_node.specs.Removal.{move_entry, move_each}
use Rattle.grs_node.specs.Star.{StarPart, manages, gathers, is_kept, gathers_asked}
use Rattle.grs_wire.specs.Masks.{has}
use Rattle.grs_wire.specs.declared.deck.Deck.{Deck}
use Rattle.grs_wire.specs.declared.gather.Moved.{Moved}
use Rattle.grs_wire.specs.declared.gather.PartRec.{PartRec}
use Rattle.grs_wire.specs.declared.request.Req.{Req}
use Rattle.star_client.specs.Owes.{OwesView, owing}
use Rattle.system_purge.proofs.GatheredParts.{all-weaker, all-left}
use Rattle.system_purge.specs.Gather.{part_of, gathered}
use Rattle.system_purge.specs.Gathers.{GathersView, gathering_at, with_part, with_part_at, without_sender, is_complete}
use Rattle.system_purge.specs.Gathers.{parts_in}
use Rattle.system_purge.specs.declared.gathers.Gathering.{Gathering}
use Rattle.task_state.specs.View.{TasksView}

pub both : (a b : Bool) → a ≡ true → b ≡ true → (a && b) ≡ true
both true true e f = refl
both true false e f = absurd cc
both false b e f = absurd cc

or-left : (a b : Bool) → a ≡ true → (a || b) ≡ true
or-left a b e = rw e refl

or-right : (a b : Bool) → b ≡ true → (a || b) ≡ true
or-right true b e = refl
or-right false b e = e

pub neither : (a b : Bool) → not (a || b) ≡ true → a ≡ false
neither true b h = absurd cc
neither false b h = refl

-- ---- lists of what is kept of each entry
abbrev pub at : {X : Type 0} → List (Option X) → ℕ → Option X
at xs e = unwrap_or (slice_get xs e) None

-- what is set at a place stands there, and nothing else changes
pub set-cases : {X : Type 0} (xs : List (Option X)) (k e : ℕ) (o : Option X)
    → (at (slice_set xs k o) e ≡ at xs e) ⊎ ((e ≡ k) × (at (slice_set xs k o) e ≡ o))
set-cases [] k e o = inl refl
set-cases (x ∷ xs) zero zero o = inr (refl, refl)
set-cases (x ∷ xs) zero (suc e) o = inl refl
set-cases (x ∷ xs) (suc k) zero o = inl refl
set-cases (x ∷ xs) (suc k) (suc e) o = go (set-cases xs k e o)
  where
    go : (at (slice_set xs k o) e ≡ at xs e) ⊎ ((e ≡ k) × (at (slice_set xs k o) e ≡ o))
        → (at (slice_set xs k o) e ≡ at xs e) ⊎ ((suc e ≡ suc k) × (at (slice_set xs k o) e ≡ o))
    go (inl same) = inl same
    go (inr there) = inr (ap suc there.0, there.1)

pub mapped-some : {X : Type 0} (f : X → X) (xs : List (Option X)) (e : ℕ)
    → is_some (at (map (option_map f) xs) e) ≡ is_some (at xs e)
mapped-some f [] e = refl
mapped-some f (None ∷ xs) zero = refl
mapped-some f (Some x ∷ xs) zero = refl
mapped-some f (x ∷ xs) (suc e) = mapped-some f xs e

pub length-mapped : {X : Type 0} (f : X → X) (xs : List X) → length (map f xs) ≡ length xs
length-mapped f [] = refl
length-mapped f (x ∷ xs) = ap suc (length-mapped f xs)

pub all-set : {X : Type 0} (test : X → Bool) (xs : List X) (e : ℕ) (x : X) → list_all test xs ≡ true → test x ≡ true
    → list_all test (slice_set xs e x) ≡ true
all-set test [] e x h new = refl
all-set test (y ∷ ys) zero x h new = both _ _ new (and_parts (test y) (list_all test ys) h).1
all-set test (y ∷ ys) (suc e) x h new =
    let parts = and_parts (test y) (list_all test ys) h in both _ _ parts.0 (all-set test ys e x parts.1 new)

pub all-at : {X : Type 0} (test : Option X → Bool) (xs : List (Option X)) (e : ℕ) → list_all test xs ≡ true
    → test None ≡ true → test (at xs e) ≡ true
all-at test [] e h none = none
all-at test (x ∷ xs) zero h none = (and_parts (test x) (list_all test xs) h).0
all-at test (x ∷ xs) (suc e) h none = all-at test xs e (and_parts (test x) (list_all test xs) h).1 none

pub all-mapped : {X : Type 0} (test : X → Bool) (f : X → X) (xs : List X)
    → ((x : X) → test x ≡ true → test (f x) ≡ true) → list_all test xs ≡ true → list_all test (map f xs) ≡ true
all-mapped test f [] more h = refl
all-mapped test f (x ∷ xs) more h =
    let parts = and_parts (test x) (list_all test xs) h in both _ _ (more x parts.0) (all-mapped test f xs more parts.1)

pub all-items : {X : Type 0} (test : X → Bool) (xs : List X) → list_all test (filter test xs) ≡ true
all-items test [] = refl
all-items test (x ∷ xs) = go (test x) refl (all-items test xs)
  where
    go : (b : Bool) → test x ≡ b → list_all test (filter test xs) ≡ true
        → list_all test (cond b (x ∷ filter test xs) (filter test xs)) ≡ true
    go true is rest = both _ _ is rest
    go false is rest = rest

none-there : (X : Type 0) (n e : ℕ) → is_some (at (replicate {A = Option X} n None) e) ≡ false
none-there X zero e = refl
none-there X (suc n) zero = refl
none-there X (suc n) (suc e) = none-there X n e

pub all-nothing : {X : Type 0} (test : Option X → Bool) (n : ℕ) → test None ≡ true
    → list_all test (replicate n None) ≡ true
all-nothing test zero h = refl
all-nothing test (suc n) h = both _ _ h (all-nothing test n h)

-- ---- no entry is both managed and gathered
abbrev pub AreApart : List (Option Managed) → GathersView → Type 0
AreApart es gs = (e : ℕ) → is_some (at gs e) ≡ true → is_some (at es e) ≡ false

-- an entry that isn't gathered may be managed, and any may be given up
pub apart-set : (es : List (Option Managed)) (gs : GathersView) (k : ℕ) (o : Option Managed) → AreApart es gs
    → (is_some o ≡ true → is_some (at gs k) ≡ false) → AreApart (slice_set es k o) gs
apart-set es gs k o h free e gathers = go (set-cases es k e o)
  where
    one : (b : Bool) → is_some o ≡ b → e ≡ k → b ≡ false
    one false is same = refl
    one true is same = absurd (true≢false (sym gathers ∙ (ap (λ (i : ℕ). is_some (at gs i)) same ∙ free is)))

    go : (at (slice_set es k o) e ≡ at es e) ⊎ ((e ≡ k) × (at (slice_set es k o) e ≡ o))
        → is_some (at (slice_set es k o) e) ≡ false
    go (inl same) = ap (λ (x : Option Managed). is_some x) same ∙ h e gathers
    go (inr there) = ap (λ (x : Option Managed). is_some x) there.1 ∙ one (is_some o) refl there.0

-- an entry that isn't managed may be gathered, and any may be gathered no longer
pub apart-gathered : (es : List (Option Managed)) (gs : GathersView) (k : ℕ) (o : Option Gathering) → AreApart es gs
    → (is_some o ≡ true → is_some (at es k) ≡ false) → AreApart es (slice_set gs k o)
apart-gathered es gs k o h free e gathers = go (set-cases gs k e o)
  where
    go : (at (slice_set gs k o) e ≡ at gs e) ⊎ ((e ≡ k) × (at (slice_set gs k o) e ≡ o)) → is_some (at es e) ≡ false
    go (inl same) = h e (sym (ap (λ (x : Option Gathering). is_some x) same) ∙ gathers)
    go (inr there) =
        ap (λ (i : ℕ). is_some (at es i)) there.0
        ∙ free (sym (ap (λ (x : Option Gathering). is_some x) there.1) ∙ gathers)

-- at an entry that is gathered no longer nothing is; it may be managed
none-at : (xs : GathersView) (i : ℕ) → is_some (at (slice_set xs i None) i) ≡ false
none-at [] i = refl
none-at (x ∷ xs) zero = refl
none-at (x ∷ xs) (suc i) = none-at xs i

apart-taken : (es : List (Option Managed)) (gs : GathersView) (e : ℕ) (m : Managed) → AreApart es gs
    → AreApart (slice_set es e (Some m)) (slice_set gs e None)
apart-taken es gs e m h =
    apart-set es (slice_set gs e None) e (Some m) (apart-gathered es gs e None h (λ s. absurd cc))
    (λ s. none-at gs e)

-- what is kept of an entry that is managed may change
pub kept-changes : (v : ManagerView) (f : Managed → Managed) (to : Option ℕ) (e : ℕ)
    → is_some (at (option_map_or (λ m. with_entry v to (Some (f m))) (kept_for v.entries to) v).entries e)
    ≡ is_some (at v.entries e)
kept-changes v f None e = refl
kept-changes v f (Some k) e = go (kept_at v.entries k) refl
  where
    go : (o : Option Managed) → kept_at v.entries k ≡ o
        → is_some (at (option_map_or (λ m. with_entry v (Some k) (Some (f m))) o v).entries e)
        ≡ is_some (at v.entries e)
    go None is = refl
    go (Some m) is = set (set-cases v.entries k e (Some (f m)))
      where
        set : (at (slice_set v.entries k (Some (f m))) e ≡ at v.entries e)
            ⊎ ((e ≡ k) × (at (slice_set v.entries k (Some (f m))) e ≡ Some (f m)))
            → is_some (at (slice_set v.entries k (Some (f m))) e) ≡ is_some (at v.entries e)
        set (inl same) = ap (λ (x : Option Managed). is_some x) same
        set (inr there) =
            ap (λ (x : Option Managed). is_some x) there.1
            ∙ sym (ap (λ (i : ℕ). is_some (at v.entries i)) there.0 ∙ ap (λ (x : Option Managed). is_some x) is)

-- ---- an orderly part
-- where each entry that one manages or gathers is managed or gathered by the other, of as many
kept-more : (p q : StarPart) → length q.manager.entries ≡ length p.manager.entries
    → ((e : ℕ) → (manages p e || gathers p e) ≡ true → (manages q e || gathers q e) ≡ true) → (r : Req)
    → is_kept p r ≡ true → is_kept q r ≡ true
kept-more p q same more r h =
    subst (λ (n : ℕ). kept-in (entry_wanted n r.want) ≡ true) (sym same)
    (go (entry_wanted (length p.manager.entries) r.want) h)
  where
    kept-in : Option ℕ → Bool
    kept-in to = is_some (kept_for q.manager.entries to) || gathers_asked q to

    go : (to : Option ℕ) → (is_some (kept_for p.manager.entries to) || gathers_asked p to) ≡ true → kept-in to ≡ true
    go None k = k
    go (Some e) k = more e k

pub orderly-more : (p q : StarPart) → length q.manager.entries ≡ length p.manager.entries
    → length q.gathers ≡ length q.manager.entries
    → ((e : ℕ) → (manages p e || gathers p e) ≡ true → (manages q e || gathers q e) ≡ true)
    → AreApart q.manager.entries q.gathers → list_all (is_kept p) q.held ≡ true → IsOrderly q
orderly-more p q same count more apart h = record {
  count = count;
  apart = apart;
  held = all-weaker (is_kept p) (is_kept q) q.held (kept-more p q same more) h;
}

-- the same entries managed and gathered
pub orderly-same : (p q : StarPart) → IsOrderly p → length q.manager.entries ≡ length p.manager.entries
    → length q.gathers ≡ length p.gathers
    → ((e : ℕ) → is_some (at q.manager.entries e) ≡ is_some (at p.manager.entries e))
    → ((e : ℕ) → is_some (at q.gathers e) ≡ is_some (at p.gathers e)) → list_all (is_kept p) q.held ≡ true
    → IsOrderly q
orderly-same p q h same many managed gathered held =
    orderly-more p q same (many ∙ (h.count ∙ sym same)) (λ e k. rw (managed e, gathered e) k)
    (λ e is. managed e ∙ h.apart e (sym (gathered e) ∙ is)) held

-- one that manages and gathers nothing, and holds nothing
pub none-orderly : (m : ManagerView) (n : ℕ) (owes : OwesView) (interest : List Bool) → length m.entries ≡ n
    → IsOrderly (record {
      manager = m;
      gathers = replicate n None;
      owes = owes;
      held = [];
      interest = interest;
    })
none-orderly m n owes interest many = record {
  count = length-replicate {A = Option Gathering} n None ∙ sym many;
  apart = λ e h. absurd (true≢false (sym h ∙ none-there Gathering n e));
  held = refl;
}

-- an entry of which no part is awaited is gathered, and so isn't managed
complete-gathered : (gs : GathersView) (e : ℕ) → is_complete gs e ≡ true → is_some (gathering_at gs e) ≡ true
complete-gathered gs e done = go (gathering_at gs e) done
  where
    go : (o : Option Gathering) → option_map_or (λ g. g.awaits == 0) o false ≡ true → is_some o ≡ true
    go None k = absurd cc
    go (Some g) k = refl

pub free-complete : (p : StarPart) (e : ℕ) → IsOrderly p → (b : Bool) → b ≡ is_complete p.gathers e → b ≡ true
    → manages p e ≡ false
free-complete p e h b is done = h.apart e (complete-gathered p.gathers e (sym is ∙ done))

-- ---- what is taken up
pub taken-up-orderly : (names : List TaskId) (x : Standing) (e : ℕ) → e < length x.part.manager.entries
    → IsOrderly x.part
    → IsOrderly (take_up names x e).part
taken-up-orderly names x e inside h =
    orderly-more x.part (take_up names x e).part (length-set x.part.manager.entries e (Some new))
    (length-set x.part.gathers e None ∙ (h.count ∙ sym (length-set x.part.manager.entries e (Some new)))) more
    (apart-taken x.part.manager.entries x.part.gathers e new h.apart) h.held
  where
    new : Managed
    new =
        installed x.part.manager.system.0
        (gathered (part_of (length x.part.manager.entries) e names x.tasks) (parts_in (gathering_at x.part.gathers e)))

    there : (es : List (Option Managed)) (i : ℕ) → i < length es → is_some (at (slice_set es i (Some new)) i) ≡ true
    there [] i l = absurd (omega (arith, l))
    there (o ∷ es) zero l = refl
    there (o ∷ es) (suc i) l = there es i (omega (arith, l))

    more : (k : ℕ) → (manages x.part k || gathers x.part k) ≡ true
        → (manages (take_up names x e).part k || gathers (take_up names x e).part k) ≡ true
    more k is = go (set-cases x.part.manager.entries e k (Some new)) (set-cases x.part.gathers e k None)
      where
        go : (at (slice_set x.part.manager.entries e (Some new)) k ≡ at x.part.manager.entries k)
            ⊎ ((k ≡ e) × (at (slice_set x.part.manager.entries e (Some new)) k ≡ Some new))
            → (at (slice_set x.part.gathers e None) k ≡ at x.part.gathers k)
            ⊎ ((k ≡ e) × (at (slice_set x.part.gathers e None) k ≡ None))
            → (manages (take_up names x e).part k || gathers (take_up names x e).part k) ≡ true
        go (inr now) other = or-left _ _ (ap (λ (o : Option Managed). is_some o) now.1)
        go (inl same) (inl left) =
            rw (ap (λ (o : Option Managed). is_some o) same, ap (λ (o : Option Gathering). is_some o) left) is
        go (inl same) (inr gone) =
            or-left _ _
            (ap (λ (i : ℕ). is_some (at (slice_set x.part.manager.entries e (Some new)) i)) gone.0
            ∙ there x.part.manager.entries e inside)

pub taken-orderly : (names : List TaskId) (x : Standing) (e : ℕ) → e < length x.part.manager.entries → IsOrderly x.part
    → IsOrderly (take_up_if names x e).part
taken-orderly names x e inside h = go (is_complete x.part.gathers e)
  where
    go : (b : Bool) → IsOrderly (cond b (take_up names x e) x).part
    go true = taken-up-orderly names x e inside h
    go false = h

pub taken-next : (names : List TaskId) (x y : Standing) (e : ℕ) → y ≡ take_up_below names x e
    → take_up_if names y e ≡ take_up_below names x (e + 1)
unfolding take_up_below
taken-next names x y e is =
    ap (λ (z : Standing). take_up_if names z e) is ∙ ap (take_up_below names x) (sym (add-one e))

pub taken-entries : (names : List TaskId) (x : Standing) (e : ℕ)
    → length (take_up_if names x e).part.manager.entries ≡ length x.part.manager.entries
taken-entries names x e = go (is_complete x.part.gathers e)
  where
    go : (b : Bool) → length (cond b (take_up names x e) x).part.manager.entries ≡ length x.part.manager.entries
    go true =
        length-set x.part.manager.entries e
        (Some (installed x.part.manager.system.0
        (gathered (part_of (length x.part.manager.entries) e names x.tasks)
        (parts_in (gathering_at x.part.gathers e)))))
    go false = refl

-- where no part of an entry is awaited of any, nothing is taken up
pub none-taken : (names : List TaskId) (x : Standing) (n : ℕ)
    → ((e : ℕ) → e < n → is_complete x.part.gathers e ≡ false) → take_up_below names x n ≡ x
unfolding take_up_below
none-taken names x zero none = refl
none-taken names x (suc n) none =
    ap (λ (y : Standing). take_up_if names y n) (none-taken names x n (λ e low. none e (omega (arith, low))))
    ∙ ap (λ (b : Bool). cond b (take_up names x n) x) (none n (omega arith))

-- ---- what is lost
pub lost-orderly : (x : Standing) (s : SysId) → IsOrderly x.part → IsOrderly (lose x s).part
lost-orderly x s h =
    orderly-same x.part (lose x s).part h
    (length-mapped (option_map (lost x.part.manager.system.0 s.0)) x.part.manager.entries)
    (length-mapped (option_map (without_sender s)) x.part.gathers)
    (mapped-some (lost x.part.manager.system.0 s.0) x.part.manager.entries)
    (mapped-some (without_sender s) x.part.gathers)
    (all-left (is_kept x.part) (λ q. not (s.0 == q.task.system.0)) x.part.held h.held)

pub lost-each-orderly : (x : Standing) (ss : List SysId) → IsOrderly x.part → IsOrderly (lose_each x ss).part
unfolding lose_each
lost-each-orderly x [] h = h
lost-each-orderly x (s ∷ ss) h = lost-each-orderly (lose x s) ss (lost-orderly x s h)

pub lost-last : (x : Standing) (ss : List SysId) (s : SysId) → lose_each x (ss ++ s ∷ []) ≡ lose (lose_each x ss) s
unfolding lose_each
lost-last x [] s = refl
lost-last x (t ∷ ss) s = lost-last (lose x t) ss s

-- the systems of a set are lost by number
pub lost-in : (x y : Standing) (set n : ℕ) → y ≡ lose_each x (members_below set n) → has set n ≡ true
    → lose y (record { 0 = n }) ≡ lose_each x (members_below set (n + 1))
unfolding members_below
lost-in x y set n is there =
    let s : SysId = record { 0 = n } in
    ap (λ (z : Standing). lose z s) is
    ∙ sym (lost-last x (members_below set n) s)
    ∙ sym (ap (λ (b : Bool). lose_each x (members_below set n ++ cond b (s ∷ []) [])) there)
    ∙ ap (λ (k : ℕ). lose_each x (members_below set k)) (sym (add-one n))

pub lost-out : (x y : Standing) (set n : ℕ) → y ≡ lose_each x (members_below set n) → has set n ≡ false
    → y ≡ lose_each x (members_below set (n + 1))
unfolding members_below
lost-out x y set n is there =
    let s : SysId = record { 0 = n } in
    is
    ∙ ap (lose_each x) (sym (append-nil (members_below set n)))
    ∙ sym (ap (λ (b : Bool). lose_each x (members_below set n ++ cond b (s ∷ []) [])) there)
    ∙ ap (λ (k : ℕ). lose_each x (members_below set k)) (sym (add-one n))

-- the same where the number of the system is given as what it is
pub lost-more : (x y : Standing) (v u : TasksView) (p q : StarPart) (set n : ℕ) (s : SysId) → s.0 ≡ n
    → y ≡ lose_each x (members_below set n) → has set s.0 ≡ true → u ≡ v → q ≡ p → standing v p ≡ lose y s
    → standing u q ≡ lose_each x (members_below set (n + 1))
lost-more x y v u p q set n s same is there tasks part step =
    ap (λ (w : TasksView). standing w q) tasks
    ∙ (ap (standing v) part
    ∙ (step
    ∙ (ap (λ (k : ℕ). lose y (record { 0 = k })) same
    ∙ lost-in x y set n is (ap (has set) (sym same) ∙ there))))

pub lost-none : (x : Standing) (v u : TasksView) (p q : StarPart) (set n : ℕ) (s : SysId) → s.0 ≡ n
    → standing v p ≡ lose_each x (members_below set n) → has set s.0 ≡ false → u ≡ v → q ≡ p
    → standing u q ≡ lose_each x (members_below set (n + 1))
lost-none x v u p q set n s same is there tasks part =
    ap (λ (w : TasksView). standing w q) tasks
    ∙ (ap (standing v) part ∙ lost-out x (standing v p) set n is (ap (has set) (sym same) ∙ there))

-- the empty set has no members, so nothing is lost
pub none-members : (n : ℕ) → ((s : ℕ) → has 0 s ≡ false) → members_below 0 n ≡ []
unfolding members_below
none-members zero none = refl
none-members (suc n) none = rw (none-members n none, none n) refl

-- ---- what is moved
pub role-orderly : (known : ℕ) (p : StarPart) (m : Moved) → manages p m.entry ≡ false → IsOrderly p
    → IsOrderly (with_role known p m)
role-orderly known p m free h = go (m.manager.0 == p.manager.system.0)
  where
    new : Option Gathering
    new = Some (record { awaits = awaited known p.manager.system.0 m.mask; parts = [] })

    more : (e : ℕ) → (manages p e || gathers p e) ≡ true
        → (manages p e || is_some (at (slice_set p.gathers m.entry new) e)) ≡ true
    more e is = set (set-cases p.gathers m.entry e new)
      where
        set : (at (slice_set p.gathers m.entry new) e ≡ at p.gathers e)
            ⊎ ((e ≡ m.entry) × (at (slice_set p.gathers m.entry new) e ≡ new))
            → (manages p e || is_some (at (slice_set p.gathers m.entry new) e)) ≡ true
        set (inl same) = rw (ap (λ (o : Option Gathering). is_some o) same) is
        set (inr there) = or-right (manages p e) _ (ap (λ (o : Option Gathering). is_some o) there.1)

    go : (b : Bool)
        → IsOrderly
        (cond b (record p { gathers = slice_set p.gathers m.entry new; owes = owing p.owes m.entry None })
        (record p { owes = owing p.owes m.entry (Some m.manager) }))
    go true =
        orderly-more p (record p { gathers = slice_set p.gathers m.entry new; owes = owing p.owes m.entry None }) refl
        (length-set p.gathers m.entry new ∙ h.count) more
        (apart-gathered p.manager.entries p.gathers m.entry new h.apart (λ s. free)) h.held
    go false = record { count = h.count; apart = h.apart; held = h.held }

pub moved-orderly : (known : ℕ) (x : Standing) (ms : List Moved) → IsOrderly x.part
    → IsOrderly (move_each known x ms).part
unfolding move_each
moved-orderly known x [] h = h
moved-orderly known x (m ∷ ms) h =
    moved-orderly known (move_entry known x m) ms (go (is_news x.part m.entry) refl)
  where
    moved : Standing
    moved = standing (sent_again x.part m.entry x.tasks) (with_role known x.part m)

    go : (b : Bool) → is_news x.part m.entry ≡ b → IsOrderly (move_entry known x m).part
    go true is =
        subst (λ (b : Bool). IsOrderly (cond b moved x).part) (sym is)
        (role-orderly known x.part m (neither (manages x.part m.entry) (gathers x.part m.entry) is) h)
    go false is =
        subst (λ (b : Bool). IsOrderly (cond b moved x).part) (sym is) h

-- of items that speak of systems of the deck alone, each names one of as many systems as there may be
pub items-named : (deck : Deck) (ms : List Moved) → length deck.systems ≤ most_systems
    → list_all names_system (filter (is_item_of deck) ms) ≡ true
items-named deck ms few =
    all-weaker (is_item_of deck) names_system (filter (is_item_of deck) ms) named (all-items (is_item_of deck) ms)
  where
    named : (m : Moved) → is_item_of deck m ≡ true → names_system m ≡ true
    named m h =
        let below =
        (and_parts (nat_lt m.manager.0 (length deck.systems)) _ (and_parts (nat_lt m.entry deck.entries) _ h).1).0 in
        grind (arith, nat_tests, few, below)

pub named-first : (m : Moved) (ms : List Moved) → list_all names_system (m ∷ ms) ≡ true → m.manager.0 < most_systems
named-first m ms h =
    ltb-true m.manager.0 most_systems (and_parts (names_system m) (list_all names_system ms) h).0

pub named-rest : (m : Moved) (ms : List Moved) → list_all names_system (m ∷ ms) ≡ true
    → list_all names_system ms ≡ true
named-rest m ms h = (and_parts (names_system m) (list_all names_system ms) h).1

pub ruleset named = (named-first, named-rest)

pub part-orderly : (p : StarPart) (e : ℕ) (s : SysId) (recs : List PartRec) → IsOrderly p
    → IsOrderly (record p { gathers = with_part_at p.gathers e s recs })
part-orderly p e s recs h = go (gathering_at p.gathers e) refl
  where
    go : (o : Option Gathering) → gathering_at p.gathers e ≡ o
        → IsOrderly
        (record p {
          gathers =
              option_map_or (λ g. slice_set p.gathers e (Some (with_part (length p.gathers) e s recs g))) o p.gathers;
        })
    go None is = record { count = h.count; apart = h.apart; held = h.held }
    go (Some g) is =
        orderly-same p (record p { gathers = slice_set p.gathers e (Some new) }) h refl
        (length-set p.gathers e (Some new)) (λ i. refl) same h.held
      where
        new : Gathering
        new = with_part (length p.gathers) e s recs g

        same : (i : ℕ) → is_some (at (slice_set p.gathers e (Some new)) i) ≡ is_some (at p.gathers i)
        same i = set (set-cases p.gathers e i (Some new))
          where
            set : (at (slice_set p.gathers e (Some new)) i ≡ at p.gathers i)
                ⊎ ((i ≡ e) × (at (slice_set p.gathers e (Some new)) i ≡ Some new))
                → is_some (at (slice_set p.gathers e (Some new)) i) ≡ is_some (at p.gathers i)
            set (inl k) = ap (λ (o : Option Gathering). is_some o) k
            set (inr k) =
                ap (λ (o : Option Gathering). is_some o) k.1
                ∙ sym (ap (λ (j : ℕ). is_some (at p.gathers j)) k.0 ∙ ap (λ (o : Option Gathering). is_some o) is)

pub part-came : (p q : StarPart) (e : ℕ) (s : SysId) (recs : List PartRec) (gs : GathersView) → p ≡ q → IsOrderly q
    → gs ≡ with_part_at p.gathers e s recs → IsOrderly (record p { gathers = gs })
part-came p q e s recs gs view h is =
    subst (λ (x : GathersView). IsOrderly (record p { gathers = x })) (sym is)
    (part-orderly p e s recs (subst IsOrderly (sym view) h))

-- whose part fits is orderly
pub fits-orderly : (deck : Deck) (home : ℕ) (o : Option StarPart) → AnyPartFits deck home o → IfSome o IsOrderly
fits-orderly deck home None h = tt
fits-orderly deck home (Some p) h = h.orderly
