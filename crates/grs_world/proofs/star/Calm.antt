-- A system's part that gathers no lock entry, and owes no part of one. What it asks, and what a removal of a system of
-- which it keeps nothing leaves of it, is what is asked and left without all that gathering brings.
use Rattle.grs_world.proofs.Common.{[], ◌&&◌, ◌++◌, ◌==◌, ◌||◌, ◌∙◌, ◌∷◌, ◌≡◌, and-true, and_parts, ap, Bool, cond}
use Rattle.grs_world.proofs.Common.{Deck, drop, entry_for, false, filter, first_held, Gathering, gathering_at, gathers}
use Rattle.grs_world.proofs.Common.{has, is_entry, is_without, length, List, list_all, list_any, lose, lose_all}
use Rattle.grs_world.proofs.Common.{lose_each, losing, losing_in, ManagerView, manages, map, may_settle, members}
use Rattle.grs_world.proofs.Common.{members_below, most_systems, names_of, NodeState, None, not, Option, option_map}
use Rattle.grs_world.proofs.Common.{option_map_or, or-false, or_parts, owed_to, refl, replicate, Req, Res, slice_get}
use Rattle.grs_world.proofs.Common.{Some, Standing, standing, StarPart, suc, sym, SysId, take_up, take_up_all}
use Rattle.grs_world.proofs.Common.{take_up_below, TaskId, TasksView, tell_each, true, unwrap_or, zero, ℕ}
use Rattle.std.proofs.Common.{is_some}
use Rattle.std.specs.Prelude.{find}
use Rattle.grs_node.specs.Star.{besides_first, gathers_asked, is_being_gathered, with_held}
use Rattle.system_purge.specs.Gathers.{GathersView, behind_loss, without_sender}
use Rattle.grs_node.specs.Removal.{take_up_if}
use Rattle.contention_mgr.specs.Loses.{after_losing}
use Rattle.contention_mgr.proofs.LoseNothing.{losing_nothing}
use Rattle.star_client.specs.Owes.{OwesView, any_owed}

-- ---- options of which none is there
pub none-at : {X : Type 0} (xs : List (Option X)) (i : ℕ) → list_any is_some xs ≡ false
    → unwrap_or (slice_get xs i) None ≡ None
none-at [] i h = refl
none-at (None ∷ xs) zero h = refl
none-at (Some x ∷ xs) zero h = absurd (cc)
none-at (x ∷ xs) (suc i) h = none-at xs i (or_parts (is_some x) (list_any is_some xs) h).1

map-none : {X : Type 0} (f : X → X) (xs : List (Option X)) → list_any is_some xs ≡ false → map (option_map f) xs ≡ xs
map-none f [] h = refl
map-none f (None ∷ xs) h = ap (λ (ys : List (Option _)). None ∷ ys) (map-none f xs h)
map-none f (Some x ∷ xs) h = absurd (cc)

filter-all : {X : Type 0} (p : X → Bool) (xs : List X) → list_all p xs ≡ true → filter p xs ≡ xs
filter-all p [] h = refl
filter-all p (x ∷ xs) h =
    let both = and_parts (p x) (list_all p xs) h in
    ap (λ b. cond b (x ∷ filter p xs) (filter p xs)) both.0 ∙ ap (λ (ys : List _). x ∷ ys) (filter-all p xs both.1)

-- ---- the part
pub record IsCalm (gathers : GathersView) (owes : OwesView) : Type 0 where
  pub gathered : list_any is_some gathers ≡ false
  pub owed : any_owed owes ≡ false

-- so it is at the start, where there are so many entries
pub calm-first : (entries : ℕ) → IsCalm (replicate entries None) (replicate entries None)
calm-first entries = record { gathered = go _ entries; owed = go _ entries }
  where
    go : (X : Type 0) (k : ℕ) → list_any is_some (replicate {A = Option X} k None) ≡ false
    go X zero = refl
    go X (suc k) = go X k

-- It keeps nothing of a system: no element in the lists that it manages, and no request that is held.
pub record HasNoneOf (p : StarPart) (s : ℕ) : Type 0 where
  pub lists : list_all (is_without s) p.manager.entries ≡ true
  pub held : list_all (λ q. not (s == q.task.system.0)) p.held ≡ true

-- nor of any of these
abbrev pub HasNoneOfAny : StarPart → List SysId → Type 0
HasNoneOfAny p [] = Unit {0}
HasNoneOfAny p (s ∷ ss) = HasNoneOf p s.0 × HasNoneOfAny p ss

module _ (p : StarPart) (calm : IsCalm p.gathers p.owes) where
  gathering-none : (e : ℕ) → gathering_at p.gathers e ≡ None
  gathering-none e = none-at p.gathers e calm.gathered

  pub not-gathered : (e : ℕ) → gathers p e ≡ false
  not-gathered e = ap is_some (gathering-none e)

  pub not-owed : (e : ℕ) → owed_to p e ≡ None
  not-owed e = none-at p.owes e calm.owed

  pub not-being-gathered : (e : ℕ) → is_being_gathered p e ≡ false
  not-being-gathered e = ap (λ b. b || is_some (owed_to p e)) (not-gathered e) ∙ ap is_some (not-owed e)

  none-asked : (o : Option ℕ) → gathers_asked p o ≡ false
  none-asked None = refl
  none-asked (Some e) = not-gathered e

  settles-any : (q : Req) → may_settle p q ≡ true
  settles-any q = ap not (none-asked (entry_for p q.want))

  -- the first request that is held is settled, and the others are left
  pub first-is : first_held p ≡ slice_get p.held 0
  first-is = go p.held
    where
      go : (qs : List Req) → find (may_settle p) qs ≡ slice_get qs 0
      go [] = refl
      go (q ∷ qs) = ap (λ b. cond b (Some q) (find (may_settle p) qs)) (settles-any q)

  pub rest-is : besides_first (may_settle p) p.held ≡ drop 1 p.held
  rest-is = go p.held
    where
      go : (qs : List Req) → besides_first (may_settle p) qs ≡ drop 1 qs
      go [] = refl
      go (q ∷ qs) = ap (λ b. cond b qs (q ∷ besides_first (may_settle p) qs)) (settles-any q)

  -- a request of a system that isn't known to be removed is held where its entry is managed
  pub held-is : (known e : ℕ) (q : Req) → has known q.task.system.0 ≡ false
      → with_held known p e q
      ≡ cond (is_entry e (entry_for p q.want) && manages p e) (record p { held = p.held ++ q ∷ [] }) p
  held-is known e q there =
      ap (λ b. cond (is_entry e (entry_for p q.want) && b) (record p { held = p.held ++ q ∷ [] }) p)
      (ap (λ b. (manages p e || b) && not (has known q.task.system.0)) (not-gathered e)
      ∙ (ap (λ b. (manages p e || false) && not b) there
      ∙ (and-true (manages p e || false) ∙ or-false (manages p e))))

  -- nothing is taken up
  taken-up : (names : List TaskId) (v : TasksView) (k : ℕ) → take_up_below names (standing v p) k ≡ standing v p
  unfolding take_up_below
  taken-up names v zero = refl
  taken-up names v (suc e) =
      ap (λ (x : Standing). take_up_if names x e) (taken-up names v e)
      ∙ ap (λ b. cond b (take_up names (standing v p) e) (standing v p))
      (ap (λ (o : Option Gathering). option_map_or (λ g. g.awaits == 0) o false) (gathering-none e))

  pub none-taken : (names : List TaskId) (v : TasksView) → take_up_all names (standing v p) ≡ standing v p
  none-taken names v = taken-up names v (length p.manager.entries)

  -- a system of which nothing is kept is lost without a change
  lost-nothing : (v : TasksView) (s : SysId) → HasNoneOf p s.0 → lose (standing v p) s ≡ standing v p
  unfolding tell_each
  lost-nothing v s none =
      let same = losing_nothing p.manager s none.lists in
      ap (λ (ps : List (TaskId × Res)).
      standing (tell_each v ps) (record p {
        manager = after_losing p.manager s;
        gathers = behind_loss p.gathers s;
        held = filter (λ q. not (s.0 == q.task.system.0)) p.held;
      }))
      same.1
      ∙ (ap (λ (m : ManagerView).
      standing v (record p {
        manager = m;
        gathers = behind_loss p.gathers s;
        held = filter (λ q. not (s.0 == q.task.system.0)) p.held;
      }))
      same.0
      ∙ (ap (λ (gs : List (Option Gathering)).
      standing v (record p { gathers = gs; held = filter (λ q. not (s.0 == q.task.system.0)) p.held }))
      (map-none (without_sender s) p.gathers calm.gathered)
      ∙ ap (λ (qs : List Req). standing v (record p { held = qs }))
      (filter-all (λ q. not (s.0 == q.task.system.0)) p.held none.held)))

  each-lost : (v : TasksView) (ss : List SysId) → HasNoneOfAny p ss → lose_each (standing v p) ss ≡ standing v p
  unfolding lose_each
  each-lost v [] none = refl
  each-lost v (s ∷ ss) none =
      ap (λ (x : Standing). lose_each x ss) (lost-nothing v s none.0) ∙ each-lost v ss none.1

  all-lost : (names : List TaskId) (v : TasksView) (ss : List SysId) → HasNoneOfAny p ss
      → lose_all names (standing v p) ss ≡ standing v p
  all-lost names v ss none = ap (take_up_all names) (each-lost v ss none) ∙ none-taken names v

  none-more : (ss zs : List SysId) → HasNoneOfAny p ss → HasNoneOfAny p zs → HasNoneOfAny p (ss ++ zs)
  none-more [] zs none more = more
  none-more (s ∷ ss) zs none more = (none.0, none-more ss zs none.1 more)

  none-members : (set : ℕ) → ((s : ℕ) → has set s ≡ true → HasNoneOf p s) → (k : ℕ)
      → HasNoneOfAny p (members_below set k)
  unfolding members_below
  none-members set none zero = tt
  none-members set none (suc k) =
      none-more (members_below set k) (cond (has set k) (record { 0 = k } ∷ []) []) (none-members set none k)
      (one (has set k) refl)
    where
      one : (b : Bool) → has set k ≡ b → HasNoneOfAny p (cond b (record { 0 = k } ∷ []) [])
      one true is = (none k is, tt)
      one false is = tt

  -- so are the systems of a set, by their system
  pub losing-nothing : (deck : Deck) (n : NodeState) → n.star ≡ Some p → (set : ℕ)
      → ((s : ℕ) → has set s ≡ true → HasNoneOf p s) → losing deck n (members set) ≡ n
  unfolding losing
  losing-nothing deck n is set none =
      ap (λ o. losing_in deck n o (members set)) is
      ∙ (ap (λ (x : Standing). let k : NodeState = record n { tasks = x.tasks; star = Some x.part } in k)
      (all-lost (names_of deck n.tasks.system) n.tasks (members set) (none-members set none most_systems))
      ∙ ap (λ o. let k : NodeState = record n { star = o } in k) (sym is))
