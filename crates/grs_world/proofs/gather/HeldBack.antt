-- A system in star mode holds no request of a system that it knows to be removed, in every run: such a request isn't
-- held when it is taken, and those that were held go when their system is lost.
use Rattle.grs_world.proofs.Common.{[], ◌&&◌, ◌++◌, ◌<◌, ◌==◌, ◌||◌, ◌∙◌, ◌∷◌, ◌≡◌, ◌⊎◌, and_from, and_parts, ap, arith}
use Rattle.grs_world.proofs.Common.{awaited, awaiting, Bool, by_test, change_to_star, Choice, cond, decide_own, Deck}
use Rattle.grs_world.proofs.Common.{desk_told, entry_for, eq-eqb, eqb-true, Event, false, false_by, filter, first_node}
use Rattle.grs_world.proofs.Common.{fixing_none, gathers, has, has-with_other, has-zero, inl, inr, is_entry}
use Rattle.grs_world.proofs.Common.{is_for_deck, is_item_of, is_news, is_none, is_of_deck, known_from, length, lines_of}
use Rattle.grs_world.proofs.Common.{List, list_all, list_all-append, list_any, list_any-append, lose, lose_all}
use Rattle.grs_world.proofs.Common.{lose_each, losing, losing_in, Mail, manages, may_settle, MediumState, members}
use Rattle.grs_world.proofs.Common.{members_below, most_additions, most_systems, move_entry, Moved, names_of, no_truth}
use Rattle.grs_world.proofs.Common.{NodeState, None, not, Option, or_left, or_right, owing, part_by_table, purged}
use Rattle.grs_world.proofs.Common.{read_entries, refl, Req, run, Said, same_Some, sent_again, slice_get, Some, stale}
use Rattle.grs_world.proofs.Common.{Standing, standing, StarPart, stays-task, stays-turned, subst, suc, switched, sym}
use Rattle.grs_world.proofs.Common.{SysId, take, take_mail, TaskId, took_mail, true, Turnout, unseen, with_also}
use Rattle.grs_world.proofs.Common.{with_role, without_those, World, zero, ℕ, ℕ_discrete}
use Rattle.std.specs.Prelude.{find}
use Rattle.grs_node.specs.Node.{changed as changed_now}
use Rattle.grs_node.specs.Star.{besides_first, is_held_for}
use Rattle.grs_wire.proofs.MaskLaws.{has-without_all}
use Rattle.grs_world.proofs.run.Came.{Acts, Came, Result, acted, already, began, changed, decided, informed, last_turn}
use Rattle.grs_world.proofs.run.Came.{left, no_part, no_such, nothing, parted, removes_one, removes_star, sent, settled}
use Rattle.grs_world.proofs.run.Came.{told, took, turn, went_on}
use Rattle.grs_world.proofs.run.Chosen.{came}
use Rattle.grs_world.proofs.run.Each.{systems_run}
use Rattle.grs_world.proofs.run.Lost.{by-loss, by-notice, by-part}
use Rattle.grs_wire.specs.declared.deck.Choice.TheVariants as choices
use Rattle.grs_wire.specs.declared.medium.Mail.TheVariants as mails
use Rattle.grs_wire.specs.declared.told.Said.TheVariants as saids

-- ---- requests
-- none of these is of the system of this number
abbrev pub HasNone : ℕ → List Req → Type 0
HasNone u qs = list_all (λ q. not (u == q.task.system.0)) qs ≡ true

module _ (u : ℕ) where
  none-filter : (p : Req → Bool) (qs : List Req) → HasNone u qs → HasNone u (filter p qs)
  none-filter p [] h = refl
  none-filter p (q ∷ qs) h =
      let both = and_parts (not (u == q.task.system.0)) (list_all (λ z. not (u == z.task.system.0)) qs) h in
      by_test (HasNone u) (p q) (q ∷ filter p qs) (filter p qs)
      (λ stays.
      and_from (not (u == q.task.system.0)) (list_all (λ z. not (u == z.task.system.0)) (filter p qs)) both.0
      (none-filter p qs both.1))
      (λ goes. none-filter p qs both.1)

  none-besides : (p : Req → Bool) (qs : List Req) → HasNone u qs → HasNone u (besides_first p qs)
  none-besides p [] h = refl
  none-besides p (q ∷ qs) h =
      let both = and_parts (not (u == q.task.system.0)) (list_all (λ z. not (u == z.task.system.0)) qs) h in
      by_test (HasNone u) (p q) qs (q ∷ besides_first p qs) (λ goes. both.1)
      (λ stays.
      and_from (not (u == q.task.system.0)) (list_all (λ z. not (u == z.task.system.0)) (besides_first p qs)) both.0
      (none-besides p qs both.1))

  none-more : (qs : List Req) (q : Req) → HasNone u qs → (u == q.task.system.0) ≡ false → HasNone u (qs ++ q ∷ [])
  none-more qs q h apart =
      list_all-append (λ (z : Req). not (u == z.task.system.0)) qs (q ∷ [])
      ∙ and_from (list_all (λ (z : Req). not (u == z.task.system.0)) qs) _ h
      (and_from (not (u == q.task.system.0)) true (ap not apart) refl)

  -- the first that is held of those that pass a test isn't of it
  one-found : (p : Req → Bool) (x : Req) (qs : List Req) (q : Req) (b : Bool) → not (u == x.task.system.0) ≡ true
      → cond b (Some x) (find p qs) ≡ Some q → (find p qs ≡ Some q → (u == q.task.system.0) ≡ false)
      → (u == q.task.system.0) ≡ false
  one-found p x qs q true off found later =
      subst (λ (z : Req). (u == z.task.system.0) ≡ false) (same_Some x q found) (off-by (u == x.task.system.0) off)
    where
      off-by : (b : Bool) → not b ≡ true → b ≡ false
      off-by true h = absurd (cc)
      off-by false h = refl
  one-found p x qs q false off found later = later found

  pub none-found : (p : Req → Bool) (qs : List Req) (q : Req) → HasNone u qs → find p qs ≡ Some q
      → (u == q.task.system.0) ≡ false
  none-found p [] q h found = absurd (cc)
  none-found p (x ∷ qs) q h found =
      let both = and_parts (not (u == x.task.system.0)) (list_all (λ z. not (u == z.task.system.0)) qs) h in
      one-found p x qs q (p x) both.0 found (none-found p qs q both.1)

all-kept : (p : Req → Bool) (qs : List Req) → list_all p (filter p qs) ≡ true
all-kept p [] = refl
all-kept p (q ∷ qs) = go (p q) refl (all-kept p qs)
  where
    go : (b : Bool) → p q ≡ b → list_all p (filter p qs) ≡ true
        → list_all p (cond b (q ∷ filter p qs) (filter p qs)) ≡ true
    go true is more = and_from (p q) (list_all p (filter p qs)) is more
    go false is more = more

-- ---- a loss
module _ (u : ℕ) where
  none-stays : (ss : List SysId) (x : Standing) → HasNone u x.part.held → HasNone u (lose_each x ss).part.held
  unfolding lose_each
  none-stays [] x h = h
  none-stays (s ∷ ss) x h = none-stays ss (lose x s) (none-filter u _ x.part.held h)

  -- it goes where it is among those that are lost
  now-or-later : (s : SysId) (ss : List SysId) (x : Standing) (b : Bool) → (s.0 == u) ≡ b
      → (b || list_any (λ (z : SysId). z.0 == u) ss) ≡ true
      → (list_any (λ (z : SysId). z.0 == u) ss ≡ true → HasNone u (lose_each (lose x s) ss).part.held)
      → HasNone u (lose_each (lose x s) ss).part.held
  now-or-later s ss x true is among later =
      none-stays ss (lose x s)
      (subst (λ k. HasNone k (lose x s).part.held) (eqb-true s.0 u is)
      (all-kept (λ q. not (s.0 == q.task.system.0)) x.part.held))
  now-or-later s ss x false is among later = later among

  none-lost : (ss : List SysId) (x : Standing) → list_any (λ (z : SysId). z.0 == u) ss ≡ true
      → HasNone u (lose_each x ss).part.held
  unfolding lose_each
  none-lost [] x among = absurd (cc)
  none-lost (s ∷ ss) x among =
      now-or-later s ss x (s.0 == u) refl among (λ more. none-lost ss (lose x s) more)

  -- and taking up entries leaves what is held
  taking-up : (names : List TaskId) (x : Standing) (ss : List SysId) → HasNone u (lose_each x ss).part.held
      → HasNone u (lose_all names x ss).part.held
  unfolding lose_each
  taking-up names x ss h =
      by-loss (λ (y : Standing). HasNone u y.part.held) (λ ns y e k. k)
      (λ y s k. none-filter u _ y.part.held k) names (lose_each x ss) [] h

-- the systems of a set are among its members, below the number of systems that there may be
is-member : (set u k : ℕ) → has set u ≡ true → Dec (u ≡ k) → u < suc k
    → (u < k → list_any (λ (z : SysId). z.0 == u) (members_below set k) ≡ true)
    → list_any (λ (z : SysId). z.0 == u) (members_below set k ++ cond (has set k) (record { 0 = k } ∷ []) []) ≡ true
is-member set u k h (yes same) l before =
    list_any-append (λ (z : SysId). z.0 == u) (members_below set k) (cond (has set k) (record { 0 = k } ∷ []) [])
    ∙ or_right (list_any (λ (z : SysId). z.0 == u) (members_below set k)) _
    (ap (λ b. list_any (λ (z : SysId). z.0 == u) (cond b (record { 0 = k } ∷ []) [])) (ap (has set) (sym same) ∙ h)
    ∙ or_left (k == u) false (eq-eqb k u (sym same)))
is-member set u k h (no other) l before =
    list_any-append (λ (z : SysId). z.0 == u) (members_below set k) (cond (has set k) (record { 0 = k } ∷ []) [])
    ∙ or_left (list_any (λ (z : SysId). z.0 == u) (members_below set k)) _ (before (omega (arith, l, other)))

pub member : (set u k : ℕ) → has set u ≡ true → u < k → list_any (λ (z : SysId). z.0 == u) (members_below set k) ≡ true
unfolding members_below
member set u zero h l = absurd (omega (arith, l))
member set u (suc k) h l = is-member set u k h (ℕ_discrete u k) l (λ m. member set u k h m)

-- ---- a system
pub record HoldsNone (n : NodeState) : Type 0 where
  pub none : (p : StarPart) → n.star ≡ Some p → (u : ℕ) → u < most_systems → has n.known u ≡ true → HasNone u p.held

with-part : (n k : NodeState) (q : StarPart) → k.star ≡ Some q → k.known ≡ n.known
    → ((u : ℕ) → u < most_systems → has n.known u ≡ true → HasNone u q.held) → HoldsNone k
with-part n k q star known h = record {
  none = λ p is u below knows.
      subst (λ (r : StarPart). HasNone u r.held) (same_Some q p (sym star ∙ is))
      (h u below (ap (λ i. has i u) (sym known) ∙ knows));
}

same-part : (n k : NodeState) → k.star ≡ n.star → k.known ≡ n.known → HoldsNone n → HoldsNone k
same-part n k star known h = record {
  none = λ p is u below knows. h.none p (sym star ∙ is) u below (ap (λ i. has i u) (sym known) ∙ knows);
}

-- it loses systems, and knows nobody else to be removed whose requests it may hold
holds-lost : (deck : Deck) (n : NodeState) (ss : List SysId)
    → ((p : StarPart) → n.star ≡ Some p → (u : ℕ) → u < most_systems → has n.known u ≡ true
    → HasNone u p.held ⊎ (list_any (λ (z : SysId). z.0 == u) ss ≡ true))
    → HoldsNone (losing deck n ss)
unfolding losing
holds-lost deck n ss h = go n.star refl
  where
    go : (o : Option StarPart) → n.star ≡ o → HoldsNone (losing_in deck n o ss)
    go None alone = record { none = λ p is. no_part n p is alone }
    go (Some p) star =
        with-part n (losing_in deck n (Some p) ss)
        (lose_all (names_of deck n.tasks.system) (standing n.tasks p) ss).part refl refl
        (λ u below knows.
        taking-up u (names_of deck n.tasks.system) (standing n.tasks p) ss
        (by_case u (h p star u below knows)))
      where
        by_case : (u : ℕ) → HasNone u p.held ⊎ (list_any (λ (z : SysId). z.0 == u) ss ≡ true)
            → HasNone u (lose_each (standing n.tasks p) ss).part.held
        by_case u (inl none) = none-stays u ss (standing n.tasks p) none
        by_case u (inr among) = none-lost u ss (standing n.tasks p) among

module _ (deck : Deck) where
  -- it changes to star mode
  part-holds : (n : NodeState) → HoldsNone (change_to_star deck n)
  unfolding change_to_star
  part-holds n =
      with-part n (change_to_star deck n) (part_by_table deck.entries (record { 0 = n.tasks.system }) n.shared) refl
      refl
      (λ u below knows. refl)

  holds-changed : (n : NodeState) → HoldsNone (changed_now deck n)
  holds-changed n =
      holds-lost deck (change_to_star deck n) (members n.known)
      (λ p star u below knows. inl ((part-holds n).none p star u below knows))

  holds-switched : (n : NodeState) → HoldsNone n → HoldsNone (switched deck n)
  unfolding switched
  holds-switched n h =
      by_test HoldsNone (is_none n.star) (changed_now deck (desk_told n saids.StarDone)) n
      (λ alone. holds-changed (desk_told n saids.StarDone)) (λ there. h)

  holds-desk : (n : NodeState) (said : Said) → HoldsNone n → HoldsNone (desk_told n said)
  unfolding desk_told
  holds-desk n said h = same-part n (desk_told n said) refl refl h

  -- it is told who was removed
  holds-stale : (n : NodeState) (set : ℕ) → HoldsNone n → HoldsNone (stale deck n set)
  unfolding stale
  holds-stale n set h =
      holds-lost deck (record n { known = known_from deck n.known set })
      (members (without_those n.known (known_from deck n.known set)))
      (λ p star u below knows. old_or_new p star u below knows (has n.known u) refl)
    where
      old_or_new : (p : StarPart) → n.star ≡ Some p → (u : ℕ) → u < most_systems
          → has (known_from deck n.known set) u ≡ true → (b : Bool) → has n.known u ≡ b →
          HasNone u p.held
          ⊎ (list_any (λ (z : SysId). z.0 == u) (members (without_those n.known (known_from deck n.known set))) ≡ true)
      old_or_new p star u below knows true old = inl (h.none p star u below old)
      old_or_new p star u below knows false new =
          inr (member (without_those n.known (known_from deck n.known set)) u most_systems
          (has-without_all most_systems n.known (known_from deck n.known set) u below
          ∙ and_from (has (known_from deck n.known set) u) (not (has n.known u)) knows (ap not new))
          below)

  -- its desk removed one
  holds-purged : (n : NodeState) (target : SysId) → HoldsNone n
      → HoldsNone (purged deck n (choices.Purge target)).node
  unfolding purged desk_told
  holds-purged n target h =
      holds-lost deck (record (desk_told n saids.VaryDone) { known = with_also n.known target.0 }) (target ∷ [])
      (λ p star u below knows. old_or_new p star u below knows (ℕ_discrete u target.0))
    where
      old_or_new : (p : StarPart) → n.star ≡ Some p → (u : ℕ) → u < most_systems
          → has (with_also n.known target.0) u ≡ true → Dec (u ≡ target.0)
          → HasNone u p.held ⊎ (list_any (λ (z : SysId). z.0 == u) (target ∷ []) ≡ true)
      old_or_new p star u below knows (yes same) =
          inr (or_left (target.0 == u) false (eq-eqb target.0 u (sym same)))
      old_or_new p star u below knows (no other) =
          inl (h.none p star u below (sym (has-with_other n.known target.0 u other) ∙ knows))

  -- a mail
  role-holds : (u known : ℕ) (p : StarPart) (m : Moved) → HasNone u p.held → HasNone u (with_role known p m).held
  role-holds u known p m h =
      by_test (λ (r : StarPart). HasNone u r.held) (m.manager.0 == p.manager.system.0)
      (record p {
        gathers = awaiting p.gathers m.entry (awaited known p.manager.system.0 m.mask);
        owes = owing p.owes m.entry None;
      })
      (record p { owes = owing p.owes m.entry (Some m.manager) }) (λ own. h) (λ other. h)

  moved-holds : (u known : ℕ) (x : Standing) (m : Moved) → HasNone u x.part.held
      → HasNone u (move_entry known x m).part.held
  moved-holds u known x m h =
      by_test (λ (y : Standing). HasNone u y.part.held) (is_news x.part m.entry)
      (standing (sent_again x.part m.entry x.tasks) (with_role known x.part m)) x
      (λ news. role-holds u known x.part m h) (λ old. h)

  held-apart : (known u : ℕ) (p : StarPart) (e : ℕ) (q : Req) → has known u ≡ true → is_held_for known p e q ≡ true
      → (u == q.task.system.0) ≡ false
  held-apart known u p e q knows here =
      let kept = and_parts (is_entry e (entry_for p q.want))
      ((manages p e || gathers p e) && not (has known q.task.system.0)) here in
      let unknown = and_parts (manages p e || gathers p e) (not (has known q.task.system.0)) kept.1 in
      false_by (u == q.task.system.0) (λ same.
      no_truth (has known q.task.system.0) (ap (has known) (sym (eqb-true u q.task.system.0 same)) ∙ knows)
      (off-by (has known q.task.system.0) unknown.1))
    where
      off-by : (b : Bool) → not b ≡ true → b ≡ false
      off-by true h = absurd (cc)
      off-by false h = refl

  mail-holds : (n : NodeState) (p : StarPart) (mail : Mail) (u : ℕ) → has n.known u ≡ true → HasNone u p.held
      → HasNone u (take_mail deck n.known n.tasks p mail).part.held
  unfolding took_mail
  mail-holds n p mail u knows h = go (is_for_deck deck mail) mail
    where
      go : (b : Bool) (m : Mail)
          → HasNone u (cond b (took_mail deck n.known n.tasks p m) (fixing_none n.tasks p)).part.held
      go false m = h
      go true (mails.Request e from q) =
          by_test (λ (r : StarPart). HasNone u r.held) (is_held_for n.known p e q)
          (record p { held = p.held ++ q ∷ [] }) p
          (λ here. none-more u p.held q h (held-apart n.known u p e q knows here)) (λ away. h)
      go true (mails.Answered t answer rank) = h
      go true (mails.Granted t r) = h
      go true (mails.Notice target moved) =
          by-notice (λ (x : Standing). HasNone u x.part.held) (λ ns y e k. k) n.known (moved-holds u n.known)
          (names_of deck n.tasks.system) (standing n.tasks p) (filter (is_item_of deck) moved) h
      go true (mails.Part e from records) =
          by-part (λ (x : Standing). HasNone u x.part.held) (λ ns y x k. k) n.known (names_of deck n.tasks.system)
          (standing n.tasks p) e from (filter (λ r. is_of_deck deck r.task) records) h h

  -- ---- any event
  holds-acts :
      (m : MediumState) (s : SysId) (n : NodeState) (p : StarPart) (choice : Choice) (b : Result) (o : Turnout)
      → Acts deck m s n p choice b o
      → ((u : ℕ) → u < most_systems → has n.known u ≡ true → HasNone u p.held) → HoldsNone o.step.node
  unfolding decide_own
  holds-acts m s n p choice b o (decided t a x asked to at same) h = with-part n o.step.node _ refl refl h
  holds-acts m s n p choice b o (began t a x asked none) h = with-part n o.step.node _ refl refl h
  holds-acts m s n p choice b o (sent t a x asked to at apart) h = with-part n o.step.node _ refl refl h
  holds-acts m s n p choice b o (took mail rest at) h =
      with-part n o.step.node (take_mail deck n.known n.tasks p mail).part refl refl
      (λ u below knows. mail-holds n p mail u knows (h u below knows))
  holds-acts m s n p choice b o (settled q first) h =
      with-part n o.step.node _ refl refl
      (λ u below knows. none-besides u (may_settle p) p.held (h u below knows))
  holds-acts m s n p choice b o (told e x first) h = with-part n o.step.node _ refl refl h
  holds-acts m s n p choice b o (parted e to owes unknown) h = with-part n o.step.node _ refl refl h
  holds-acts m s n p choice b o (left x flags free by) h = with-part n o.step.node _ refl refl h

  holds-came : (m : MediumState) (s : SysId) (n : NodeState) (choice : Choice) (b : Result) (o : Turnout)
      → Came deck m s n choice b o → HoldsNone n → HoldsNone o.step.node
  holds-came m s n choice b o (nothing k r silent flags) h = h
  holds-came m s n choice b o (informed k) h = holds-stale n m.removed h
  holds-came m s n choice b o (went_on t may) h =
      let stays = stays-task deck.limit n t (lines_of deck t) in same-part n o.step.node stays.star stays.known h
  holds-came m s n choice b o (turn flags alone unclosed here) h =
      let stays = stays-turned deck n (unseen s m.message.entries) (length (take most_additions n.outbox)) in
      same-part n o.step.node stays.star stays.known h
  holds-came m s n choice b o (last_turn flags alone shut here) h =
      holds-changed (read_entries deck n (unseen s m.message.entries))
  holds-came m s n choice b o (changed ring next seen) h = holds-switched n h
  holds-came m s n choice b o (already mode next) h = holds-desk n saids.StarAlready h
  holds-came m s n choice b o (removes_one target ring next lives) h = holds-purged n target h
  holds-came m s n choice b o (removes_star target mode next lives) h = holds-purged n target h
  holds-came m s n choice b o (no_such target next gone) h = holds-desk n saids.VaryNoSuch h
  holds-came m s n choice b o (acted p is k r x acts) h = holds-acts m s n p k r x acts (h.none p is)

-- ---- so in every run
abbrev pub AllHoldNone : World → Type 0
AllHoldNone w = (s : ℕ) (n : NodeState) → slice_get w.nodes s ≡ Some n → HoldsNone n

first-holds : (deck : Deck) (s : ℕ) → HoldsNone (first_node deck s)
unfolding first_node
first-holds deck s = record { none = λ p is u below knows. no_truth (has 0 u) knows (has-zero u) }

pub held_run : (deck : Deck) (es : List Event) → AllHoldNone (run deck es)
held_run deck =
    systems_run deck (λ s n. HoldsNone n) (first-holds deck)
    (λ m c n choice live h. holds-came deck m c n choice _ _ (came deck m c n live choice) h)
