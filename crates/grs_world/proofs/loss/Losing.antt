-- A part in star mode that gathers nothing and loses systems, one after the other: what is left of it, and what the
-- system's own tasks are told by it.
use Rattle.grs_world.proofs.Common.{[], ◌&&◌, ◌++◌, ◌<◌, ◌==◌, ◌||◌, ◌∙◌, ◌∷◌, ◌≡◌, and_parts, ap, arith, Bool, cond}
use Rattle.grs_world.proofs.Common.{Deck, Elem, entry_of_res, eqb-true, false, false_by, filter, has, is_some}
use Rattle.grs_world.proofs.Common.{is_systems, items_of, kept_at, kept_for, length, length-map, List, list_any}
use Rattle.grs_world.proofs.Common.{list_any-append, list_of, lose_each, losing, losing_in, Managed, managed_at}
use Rattle.grs_world.proofs.Common.{managed_of, ManagerView, manages, map, members, members_below, most_systems}
use Rattle.grs_world.proofs.Common.{names_of, no_truth, NodeState, None, not, Option, option_map, or-false, or_parts}
use Rattle.grs_world.proofs.Common.{plain, refl, remove_state, Res, same_res, same_task, Some, Standing, standing}
use Rattle.grs_world.proofs.Common.{StarPart, State, suc, sym, SysId, take_up_all, TaskId, TasksView, tell_each, true}
use Rattle.grs_world.proofs.Common.{without_those, zero, ℕ}
use Rattle.contention_mgr.proofs.GainLemmas.{gained_are_freed}
use Rattle.contention_mgr.proofs.LoseLawProofs.{losing_keeps_well, lost_lists}
use Rattle.contention_mgr.specs.Laws.{AreWellKept, owns_by}
use Rattle.contention_mgr.specs.LoseLaws.{is_freed}
use Rattle.contention_mgr.specs.Loses.{after_losing, gained, lost}
use Rattle.grs_base.specs.State.{is_of_other}
use Rattle.grs_wire.proofs.MaskLaws.{has-without_all}
use Rattle.grs_wire.proofs.RemoveLaws.{list_of-remove, list_of-remove_other, owns-remove}
use Rattle.grs_world.proofs.gather.HeldBack.{member}
use Rattle.grs_world.proofs.star.Calm.{IsCalm, none-taken}
use Rattle.system_purge.specs.Gathers.{behind_loss, without_sender}

-- ---- the part
abbrev pub lose_part : StarPart → SysId → StarPart
lose_part p s = record p {
  manager = after_losing p.manager s;
  gathers = behind_loss p.gathers s;
  held = filter (λ q. not (s.0 == q.task.system.0)) p.held;
}

abbrev pub lose_parts : StarPart → List SysId → StarPart
lose_parts p [] = p
lose_parts p (s ∷ ss) = lose_parts (lose_part p s) ss

-- and what its own tasks are told
abbrev pub tell_losses : TasksView → StarPart → List SysId → TasksView
tell_losses v p [] = v
tell_losses v p (s ∷ ss) = tell_losses (tell_each v (gained p.manager s)) (lose_part p s) ss

pub lost-each : (v : TasksView) (p : StarPart) (ss : List SysId)
    → lose_each (standing v p) ss ≡ standing (tell_losses v p ss) (lose_parts p ss)
unfolding lose_each
lost-each v p [] = refl
lost-each v p (s ∷ ss) = lost-each (tell_each v (gained p.manager s)) (lose_part p s) ss

-- ---- it still gathers nothing
still-none : {X : Type 0} (f : X → X) (os : List (Option X)) → list_any is_some os ≡ false
    → list_any is_some (map (option_map f) os) ≡ false
still-none f [] h = refl
still-none f (None ∷ os) h = still-none f os h
still-none f (Some x ∷ os) h = no_truth true refl h

pub calm-lost : (p : StarPart) (ss : List SysId) → IsCalm p.gathers p.owes
    → IsCalm (lose_parts p ss).gathers (lose_parts p ss).owes
calm-lost p [] h = h
calm-lost p (s ∷ ss) h =
    calm-lost (lose_part p s) ss
    (record { gathered = still-none (without_sender s) p.gathers h.gathered; owed = h.owed })

-- so a system that loses them is told, and its part is left, like this
pub losing-is : (deck : Deck) (n : NodeState) (p : StarPart) → n.star ≡ Some p → IsCalm p.gathers p.owes
    → (ss : List SysId)
    → losing deck n ss ≡ record n { tasks = tell_losses n.tasks p ss; star = Some (lose_parts p ss) }
unfolding losing
losing-is deck n p star calm ss =
    ap (λ o. losing_in deck n o ss) star
    ∙ ap (λ (x : Standing). let k : NodeState = record n { tasks = x.tasks; star = Some x.part } in k)
    (ap (take_up_all (names_of deck n.tasks.system)) (lost-each n.tasks p ss)
    ∙ none-taken (lose_parts p ss) (calm-lost p ss calm) (names_of deck n.tasks.system) (tell_losses n.tasks p ss))

-- ---- what stays of it
pub lost-system : (p : StarPart) (ss : List SysId) → (lose_parts p ss).manager.system ≡ p.manager.system
lost-system p [] = refl
lost-system p (s ∷ ss) = lost-system (lose_part p s) ss

pub lost-interest : (p : StarPart) (ss : List SysId) → (lose_parts p ss).interest ≡ p.interest
lost-interest p [] = refl
lost-interest p (s ∷ ss) = lost-interest (lose_part p s) ss

pub lost-count : (p : StarPart) (ss : List SysId)
    → length (lose_parts p ss).manager.entries ≡ length p.manager.entries
lost-count p [] = refl
lost-count p (s ∷ ss) =
    lost-count (lose_part p s) ss ∙ length-map p.manager.entries (option_map (lost p.manager.system.0 s.0))

-- what is kept of an entry
kept-map : (f : Managed → Managed) (os : List (Option Managed)) (e : ℕ)
    → kept_at (map (option_map f) os) e ≡ option_map f (kept_at os e)
kept-map f [] e = refl
kept-map f (o ∷ os) zero = refl
kept-map f (o ∷ os) (suc e) = kept-map f os e

same-some : {X : Type 0} (f : X → X) (o : Option X) → is_some (option_map f o) ≡ is_some o
same-some f None = refl
same-some f (Some x) = refl

pub managed-lost : (v : ManagerView) (s : SysId) (e : ℕ)
    → managed_at (after_losing v s) e ≡ option_map (lost v.system.0 s.0) (managed_at v e)
managed-lost v s e = kept-map (lost v.system.0 s.0) v.entries e

pub manages-lost : (p : StarPart) (ss : List SysId) (e : ℕ) → manages (lose_parts p ss) e ≡ manages p e
manages-lost p [] e = refl
manages-lost p (s ∷ ss) e =
    manages-lost (lose_part p s) ss e
    ∙ (ap is_some (managed-lost p.manager s e) ∙ same-some (lost p.manager.system.0 s.0) (managed_at p.manager e))

pub well-lost : (p : StarPart) (ss : List SysId) → AreWellKept p.manager → AreWellKept (lose_parts p ss).manager
well-lost p [] h = h
well-lost p (s ∷ ss) h = well-lost (lose_part p s) ss (losing_keeps_well p.manager s h)

-- ---- its lists
-- without the elements of these systems
abbrev pub without_each : State → List SysId → State
without_each s [] = s
without_each s (u ∷ us) = without_each (remove_state s u.0) us

pub plain-lost : (v : ManagerView) (s : SysId) (e : ℕ)
    → plain (items_of (managed_at (after_losing v s) e)) ≡ remove_state (plain (items_of (managed_at v e))) s.0
plain-lost v s e = ap (λ o. plain (items_of o)) (managed-lost v s e) ∙ go (managed_at v e)
  where
    go : (o : Option Managed)
        → plain (items_of (option_map (lost v.system.0 s.0) o)) ≡ remove_state (plain (items_of o)) s.0
    go None = refl
    go (Some m) = lost_lists v.system.0 s.0 m

pub lists-lost : (p : StarPart) (ss : List SysId) (e : ℕ)
    → plain (items_of (managed_at (lose_parts p ss).manager e))
    ≡ without_each (plain (items_of (managed_at p.manager e))) ss
lists-lost p [] e = refl
lists-lost p (s ∷ ss) e =
    lists-lost (lose_part p s) ss e ∙ ap (λ st. without_each st ss) (plain-lost p.manager s e)

-- whether a system is one of these
abbrev pub is_in : ℕ → List SysId → Bool
is_in u ss = list_any (λ (z : SysId). z.0 == u) ss

abbrev pub left_of : List SysId → List Elem → List Elem
left_of ss xs = filter (λ x. not (is_in x.task.system.0 ss)) xs

pub filter-both : {X : Type 0} (a b c : X → Bool) → ((x : X) → c x ≡ (a x && b x)) → (xs : List X)
    → filter b (filter a xs) ≡ filter c xs
filter-both a b c is [] = refl
filter-both a b c is (x ∷ xs) = go (a x) (b x) (is x) refl refl (filter-both a b c is xs)
  where
    go : (i j : Bool) → c x ≡ (i && j) → a x ≡ i → b x ≡ j → filter b (filter a xs) ≡ filter c xs
        → filter b (cond (a x) (x ∷ filter a xs) (filter a xs)) ≡ cond (c x) (x ∷ filter c xs) (filter c xs)
    go true true z i j more =
        ap (λ k. filter b (cond k (x ∷ filter a xs) (filter a xs))) i
        ∙ (ap (λ k. cond k (x ∷ filter b (filter a xs)) (filter b (filter a xs))) j
        ∙ (ap (λ (ys : List _). x ∷ ys) more ∙ sym (ap (λ k. cond k (x ∷ filter c xs) (filter c xs)) z)))
    go true false z i j more =
        ap (λ k. filter b (cond k (x ∷ filter a xs) (filter a xs))) i
        ∙ (ap (λ k. cond k (x ∷ filter b (filter a xs)) (filter b (filter a xs))) j
        ∙ (more ∙ sym (ap (λ k. cond k (x ∷ filter c xs) (filter c xs)) z)))
    go false j z i k more =
        ap (λ k. filter b (cond k (x ∷ filter a xs) (filter a xs))) i
        ∙ (more ∙ sym (ap (λ k. cond k (x ∷ filter c xs) (filter c xs)) z))

filter-true : {X : Type 0} (xs : List X) → filter (λ x. true) xs ≡ xs
filter-true [] = refl
filter-true (x ∷ xs) = ap (λ (ys : List _). x ∷ ys) (filter-true xs)

pub list-without : (s : State) (ss : List SysId) (r : Res) → is_systems r ≡ true
    → list_of (without_each s ss) r ≡ left_of ss (list_of s r)
list-without s [] r wide = sym (filter-true (list_of s r))
list-without s (u ∷ us) r wide =
    list-without (remove_state s u.0) us r wide
    ∙ (ap (left_of us) (list_of-remove s u.0 r wide)
    ∙ filter-both (is_of_other u.0) (λ x. not (is_in x.task.system.0 us))
    (λ x. not (is_in x.task.system.0 (u ∷ us)))
    (λ x. not-or (u.0 == x.task.system.0) (is_in x.task.system.0 us)) (list_of s r))
  where
    not-or : (a b : Bool) → not (a || b) ≡ (not a && not b)
    not-or true b = refl
    not-or false b = refl

pub list-narrow : (s : State) (ss : List SysId) (r : Res) → is_systems r ≡ false
    → list_of (without_each s ss) r ≡ list_of s r
list-narrow s [] r narrow = refl
list-narrow s (u ∷ us) r narrow =
    list-narrow (remove_state s u.0) us r narrow ∙ list_of-remove_other s u.0 r narrow

-- a manager's list of a resource, without the elements of systems that it loses
pub list-lost : (p : StarPart) (ss : List SysId) (r : Res) → is_systems r ≡ true
    → list_of (plain (items_of (managed_of (lose_parts p ss).manager r))) r
    ≡ left_of ss (list_of (plain (items_of (managed_of p.manager r))) r)
list-lost p ss r wide =
    ap (λ k. list_of (plain (items_of (kept_for (lose_parts p ss).manager.entries (entry_of_res k r)))) r)
    (lost-count p ss)
    ∙ go (entry_of_res (length p.manager.entries) r)
  where
    go : (o : Option ℕ)
        → list_of (plain (items_of (kept_for (lose_parts p ss).manager.entries o))) r
        ≡ left_of ss (list_of (plain (items_of (kept_for p.manager.entries o))) r)
    go None = refl
    go (Some e) =
        ap (λ st. list_of st r) (lists-lost p ss e)
        ∙ list-without (plain (items_of (kept_for p.manager.entries (Some e)))) ss r wide

-- ---- the systems of a set
pub not-in : (set u k : ℕ) → has set u ≡ false → is_in u (members_below set k) ≡ false
unfolding members_below
not-in set u zero out = refl
not-in set u (suc k) out =
    list_any-append (λ (z : SysId). z.0 == u) (members_below set k) (cond (has set k) (record { 0 = k } ∷ []) [])
    ∙ (ap (λ b. b || is_in u (cond (has set k) (record { 0 = k } ∷ []) [])) (not-in set u k out)
    ∙ one (has set k) refl)
  where
    one : (b : Bool) → has set k ≡ b → is_in u (cond b (record { 0 = k } ∷ []) []) ≡ false
    one true is =
        or-false (k == u)
        ∙ false_by (k == u) (λ same. no_truth (has set u) (ap (has set) (sym (eqb-true k u same)) ∙ is) out)
    one false is = refl

pub in-members : (set u : ℕ) → u < most_systems → is_in u (members set) ≡ has set u
in-members set u below = go (has set u) refl
  where
    go : (b : Bool) → has set u ≡ b → is_in u (members set) ≡ b
    go true is = member set u most_systems is below
    go false is = not-in set u most_systems is

pub in-those : (known removed u : ℕ) → u < most_systems
    → is_in u (members (without_those known removed)) ≡ (has removed u && not (has known u))
in-those known removed u below =
    in-members (without_those known removed) u below ∙ has-without_all most_systems known removed u below

-- of a set without itself there is none
none-below : (set k : ℕ) → ((u : ℕ) → u < k → has set u ≡ false) → members_below set k ≡ []
unfolding members_below
none-below set zero none = refl
none-below set (suc k) none =
    ap (λ ss. ss ++ cond (has set k) (record { 0 = k } ∷ []) [])
    (none-below set k (λ u below. none u (omega (arith, below))))
    ∙ ap (λ b. cond b (record { 0 = k } ∷ []) []) (none k (omega arith))

pub none-unknown : (set : ℕ) → members (without_those set set) ≡ []
none-unknown set =
    none-below (without_those set set) most_systems
    (λ u below. has-without_all most_systems set set u below ∙ go (has set u))
  where
    go : (b : Bool) → (b && not b) ≡ false
    go true = refl
    go false = refl

-- ---- who owns by what a manager keeps
pub record OwnsAt (v : ManagerView) (r : Res) (t : TaskId) : Type 0 where
  pub entry : ℕ
  pub managed : Managed
  pub at : managed_at v entry ≡ Some managed
  pub own : owns_by (plain managed.items) r t ≡ true

-- an owner of another system stays one
pub owns-lost : (v : ManagerView) (s : SysId) (r : Res) (t : TaskId) → (s.0 == t.system.0) ≡ false → OwnsAt v r t
    → OwnsAt (after_losing v s) r t
owns-lost v s r t apart h = record {
  entry = h.entry;
  managed = lost v.system.0 s.0 h.managed;
  at = managed-lost v s h.entry ∙ ap (option_map (lost v.system.0 s.0)) h.at;
  own =
      ap (λ st. owns_by st r t) (lost_lists v.system.0 s.0 h.managed)
      ∙ owns-remove (plain h.managed.items) s.0 r t apart h.own;
}

-- who gains control owns then
freed-at : (f : Managed → Managed) (s : ℕ) (r : Res) (t : TaskId) (os : List (Option Managed))
    → list_any (λ o. is_freed s (plain (items_of o)) r t) os ≡ true
    → (e : ℕ) × (m : Managed) × (kept_at os e ≡ Some m) × (owns_by (remove_state (plain m.items) s) r t ≡ true)
freed-at f s r t [] h = no_truth true refl (sym h)
freed-at f s r t (None ∷ os) h = let z = freed-at f s r t os h in (suc z.0, z.1, z.2, z.3)
freed-at f s r t (Some m ∷ os) h = go (is_freed s (plain m.items) r t) refl h (freed-at f s r t os)
  where
    go : (b : Bool) → is_freed s (plain m.items) r t ≡ b
        → (b || list_any (λ o. is_freed s (plain (items_of o)) r t) os) ≡ true
        → (list_any (λ o. is_freed s (plain (items_of o)) r t) os ≡ true
        → (e : ℕ) × (k : Managed) × (kept_at os e ≡ Some k) × (owns_by (remove_state (plain k.items) s) r t ≡ true))
        → (e : ℕ) × (k : Managed) × (kept_at (Some m ∷ os) e ≡ Some k)
        × (owns_by (remove_state (plain k.items) s) r t ≡ true)
    go true is z more = (
      0,
      m,
      refl,
      (and_parts (owns_by (remove_state (plain m.items) s) r t) (not (owns_by (plain m.items) r t)) is).0,
    )
    go false is z more = let y = more z in (suc y.0, y.1, y.2, y.3)

pub gains-own : (v : ManagerView) (s : SysId) (r : Res) (t : TaskId)
    → list_any (λ p. same_task t p.0 && same_res r p.1) (gained v s) ≡ true
    → (v.system.0 ≡ t.system.0) × OwnsAt (after_losing v s) r t
gains-own v s r t h =
    let both =
    and_parts (v.system.0 == t.system.0) (list_any (λ o. is_freed s.0 (plain (items_of o)) r t) v.entries)
    (sym (gained_are_freed v s r t) ∙ h) in
    let z = freed-at (lost v.system.0 s.0) s.0 r t v.entries both.1 in (
      eqb-true v.system.0 t.system.0 both.0,
      record {
        entry = z.0;
        managed = lost v.system.0 s.0 z.1;
        at = managed-lost v s z.0 ∙ ap (option_map (lost v.system.0 s.0)) z.2;
        own = ap (λ st. owns_by st r t) (lost_lists v.system.0 s.0 z.1) ∙ z.3;
      },
    )

pub owns-losses : (p : StarPart) (ss : List SysId) (r : Res) (t : TaskId) → is_in t.system.0 ss ≡ false
    → OwnsAt p.manager r t → OwnsAt (lose_parts p ss).manager r t
owns-losses p [] r t apart h = h
owns-losses p (s ∷ ss) r t apart h =
    let both = or_parts (s.0 == t.system.0) (is_in t.system.0 ss) apart in
    owns-losses (lose_part p s) ss r t both.1 (owns-lost p.manager s r t both.0 h)
