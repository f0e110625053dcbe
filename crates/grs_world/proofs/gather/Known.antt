-- A system in star mode keeps nothing of a system that it knows to be removed, in every run where no desk orders the
-- removal of its own system.
use Rattle.grs_world.proofs.Common.{[], ◌++◌, ◌<◌, ◌==◌, ◌∙◌, ◌∷◌, ◌≡◌, ◌≢◌, ◌⊎◌, and_from, and_parts, ap, begun, Bool}
use Rattle.grs_world.proofs.Common.{by_test, change_to_star, Choice, cond, decide_own, Deck, desk_told, eq-eqb}
use Rattle.grs_world.proofs.Common.{eqb-true, Event, false, false_by, filter, first_node, first_part, fixing_none}
use Rattle.grs_world.proofs.Common.{Gathering, has, has-with_other, has-zero, inl, inr, is_for_deck, is_item_of}
use Rattle.grs_world.proofs.Common.{is_none, is_of_deck, is_task, known_from, length, lines_of, List, list_all}
use Rattle.grs_world.proofs.Common.{list_any, lose_all, lose_each, losing, losing_in, Mail, may_send, may_settle}
use Rattle.grs_world.proofs.Common.{MediumState, members, most_additions, most_systems, names_of, nat_lt, no_truth}
use Rattle.grs_world.proofs.Common.{NodeState, None, not, Option, or_left, OrdersFit, part_by_table, purged}
use Rattle.grs_world.proofs.Common.{read_entries, refl, run, Said, same_Some, slice_get, Some, stale, Standing}
use Rattle.grs_world.proofs.Common.{standing, StarPart, stays-task, stays-turned, subst, suc, switched, sym, SysId}
use Rattle.grs_world.proofs.Common.{take, take_mail, TaskId, took_mail, true, Turnout, unseen, with_also, without_those}
use Rattle.grs_world.proofs.Common.{World, zero, ℕ, ℕ_discrete}
use Rattle.std.proofs.Common.{replicate}
use Rattle.grs_node.specs.Star.{is_held_for}
use Rattle.grs_node.specs.Node.{changed as changed_now}
use Rattle.grs_wire.proofs.MaskLaws.{has-without_all}
use Rattle.grs_node.proofs.Keeping.{stays-entries}
use Rattle.grs_world.proofs.gather.Clean.{IsClean, IsOf, clean-all, clean-among, clean-moved, clean-part, clean-stays}
use Rattle.grs_world.proofs.gather.Clean.{clean-up, of-lost, of-moved, of-part, of-up}
use Rattle.grs_world.proofs.gather.Elements.{KeepsNone, leaving-none, managing-none, request-none, telling-none}
use Rattle.grs_world.proofs.gather.Gathered.{AreFree, AreRight, are_right, is_free}
use Rattle.grs_world.proofs.gather.HeldBack.{HasNone, HoldsNone, held_run, member, none-found}
use Rattle.grs_world.proofs.at_rest.Full.{size-changed, size-desk, size-entries}
use Rattle.grs_world.proofs.at_rest.Homes.{homes_run}
use Rattle.grs_world.proofs.run.Came.{Acts, Came, Result, acted, already, began, changed, decided, informed, last_turn}
use Rattle.grs_world.proofs.run.Came.{left, no_part, no_such, nothing, parted, removes_one, removes_star, sent, settled}
use Rattle.grs_world.proofs.run.Came.{told, took, turn, went_on}
use Rattle.grs_world.proofs.run.Chosen.{each_came}
use Rattle.grs_world.proofs.run.Each.{each_run}
use Rattle.grs_world.proofs.run.Knowing.{KnowsRemoved, known_run}
use Rattle.grs_world.proofs.run.Lost.{by-loss, by-notice}
use Rattle.grs_world.proofs.run.Purging.{target-fits}
use Rattle.grs_world.proofs.run.Placed.{of_nodes}
use Rattle.grs_world.proofs.run.First.{first_of}
use Rattle.grs_wire.specs.declared.deck.Choice.TheVariants as choices
use Rattle.grs_wire.specs.declared.medium.Mail.TheVariants as mails
use Rattle.grs_wire.specs.declared.told.Said.TheVariants as saids

-- What a system keeps in star mode: each part that came has records of its sender's tasks, and of a system that it
-- knows to be removed there is nothing.
abbrev pub HasNothingOf : ℕ → StarPart → Type 0
HasNothingOf u p = KeepsNone u p.manager × AreFree u p.gathers

pub record KeepsClean (n : NodeState) : Type 0 where
  pub right : (p : StarPart) → n.star ≡ Some p → AreRight p.gathers
  pub clean : (p : StarPart) → n.star ≡ Some p → (u : ℕ) → u < most_systems → has n.known u ≡ true → HasNothingOf u p

with-part : (n k : NodeState) (q : StarPart) → k.star ≡ Some q → k.known ≡ n.known → AreRight q.gathers
    → ((u : ℕ) → u < most_systems → has n.known u ≡ true → HasNothingOf u q) → KeepsClean k
with-part n k q star known right h = record {
  right = λ p is. subst (λ (r : StarPart). AreRight r.gathers) (same_Some q p (sym star ∙ is)) right;
  clean = λ p is u below knows.
      subst (λ (r : StarPart). HasNothingOf u r) (same_Some q p (sym star ∙ is))
      (h u below (ap (λ i. has i u) (sym known) ∙ knows));
}

same-part : (n k : NodeState) → k.star ≡ n.star → k.known ≡ n.known → KeepsClean n → KeepsClean k
same-part n k star known h = record {
  right = λ p is. h.right p (sym star ∙ is);
  clean = λ p is u below knows. h.clean p (sym star ∙ is) u below (ap (λ i. has i u) (sym known) ∙ knows);
}

-- the tasks of a system with its part
of-node : (n : NodeState) (p : StarPart) → AreRight p.gathers → IsOf n.tasks.system (standing n.tasks p)
of-node n p right = record { home = refl; right = right }

clean-node : (n : NodeState) (p : StarPart) (u : ℕ) → AreRight p.gathers → HasNothingOf u p
    → IsClean n.tasks.system u (standing n.tasks p)
clean-node n p u right h = record { of = of-node n p right; lists = h.0; parts = h.1 }

-- It loses systems: nothing is kept of those that it knew to be removed before, and these are the others. None is
-- itself.
clean-losing : (deck : Deck) (n : NodeState) (ss : List SysId)
    → ((p : StarPart) → n.star ≡ Some p → AreRight p.gathers)
    → ((u : ℕ) → has n.known u ≡ true → (u == n.tasks.system) ≡ false)
    → ((p : StarPart) → n.star ≡ Some p → (u : ℕ) → u < most_systems → has n.known u ≡ true
    → HasNothingOf u p ⊎ (list_any (λ (z : SysId). z.0 == u) ss ≡ true))
    → KeepsClean (losing deck n ss)
unfolding losing
clean-losing deck n ss right far h = go n.star refl
  where
    go : (o : Option StarPart) → n.star ≡ o → KeepsClean (losing_in deck n o ss)
    go None alone = record {
      right = λ p is. no_part n p is alone;
      clean = λ p is. no_part n p is alone;
    }
    go (Some p) star =
        with-part n (losing_in deck n (Some p) ss)
        (lose_all (names_of deck n.tasks.system) (standing n.tasks p) ss).part
        refl refl
        (by-loss (λ x. IsOf n.tasks.system x) (of-up n.tasks.system) (of-lost n.tasks.system)
        (names_of deck n.tasks.system) (standing n.tasks p) ss (of-node n p (right p star))).right
        (λ u below knows.
        let clean = clean-all n.tasks.system u (far u knows) (names_of deck n.tasks.system)
        (lose_each (standing n.tasks p) ss) (by_case u (far u knows) (h p star u below knows)) in
        (clean.lists, clean.parts))
      where
        by_case : (u : ℕ) → (u == n.tasks.system) ≡ false
            → HasNothingOf u p ⊎ (list_any (λ (z : SysId). z.0 == u) ss ≡ true)
            → IsClean n.tasks.system u (lose_each (standing n.tasks p) ss)
        by_case u apart (inl none) =
            clean-stays n.tasks.system u apart ss (standing n.tasks p) (clean-node n p u (right p star) none)
        by_case u apart (inr among) =
            clean-among n.tasks.system u apart ss (standing n.tasks p) among (of-node n p (right p star))

module _ (deck : Deck) where
  -- it changes to star mode, where it gathers nothing yet
  part-clean : (n : NodeState) (p : StarPart) → (change_to_star deck n).star ≡ Some p
      → (AreRight p.gathers) × ((u : ℕ) → AreFree u p.gathers)
  unfolding change_to_star
  part-clean n p is =
      subst (λ (r : StarPart). (AreRight r.gathers) × ((u : ℕ) → AreFree u r.gathers))
      (same_Some (part_by_table deck.entries (record { 0 = n.tasks.system }) n.shared) p is)
      (none-yet are_right refl deck.entries, λ u. none-yet (is_free u) refl deck.entries)
    where
      none-yet : (test : Option Gathering → Bool) → test None ≡ true → (k : ℕ)
          → list_all test (replicate k None) ≡ true
      none-yet test none zero = refl
      none-yet test none (suc k) = and_from (test None) (list_all test (replicate k None)) none (none-yet test none k)

  changed-known : (n : NodeState) → (change_to_star deck n).known ≡ n.known
  unfolding change_to_star
  changed-known n = refl

  changed-home : (n : NodeState) → (change_to_star deck n).tasks.system ≡ n.tasks.system
  changed-home n = ap (λ (z : ℕ × ℕ). z.0) (size-changed deck n)

  -- what it knows to be removed it then loses
  clean-changed : (n : NodeState) → ((u : ℕ) → has n.known u ≡ true → (u == n.tasks.system) ≡ false)
      → KeepsClean (changed_now deck n)
  clean-changed n far =
      clean-losing deck (change_to_star deck n) (members n.known) (λ p is. (part-clean n p is).0)
      (λ u knows.
      ap (λ k. u == k) (changed-home n) ∙ far u (ap (λ i. has i u) (sym (changed-known n)) ∙ knows))
      (λ p is u below knows.
      inr (member n.known u most_systems (ap (λ i. has i u) (sym (changed-known n)) ∙ knows) below))

  desk-known : (n : NodeState) (said : Said) → (desk_told n said).known ≡ n.known
  unfolding desk_told
  desk-known n said = refl

  clean-switched : (n : NodeState) → ((u : ℕ) → has n.known u ≡ true → (u == n.tasks.system) ≡ false) → KeepsClean n
      → KeepsClean (switched deck n)
  unfolding switched
  clean-switched n far h =
      by_test KeepsClean (is_none n.star) (changed_now deck (desk_told n saids.StarDone)) n
      (λ alone.
      clean-changed (desk_told n saids.StarDone)
      (λ u knows.
      ap (λ (z : ℕ × ℕ). u == z.0) (size-desk n saids.StarDone)
      ∙ far u (ap (λ i. has i u) (sym (desk-known n saids.StarDone)) ∙ knows)))
      (λ there. h)

  clean-desk : (n : NodeState) (said : Said) → KeepsClean n → KeepsClean (desk_told n said)
  unfolding desk_told
  clean-desk n said h = same-part n (desk_told n said) refl refl h

  -- it is told who was removed, who isn't it itself
  clean-stale : (n : NodeState) (set : ℕ)
      → ((u : ℕ) → has (known_from deck n.known set) u ≡ true → (u == n.tasks.system) ≡ false) → KeepsClean n
      → KeepsClean (stale deck n set)
  unfolding stale
  clean-stale n set far h =
      clean-losing deck (record n { known = known_from deck n.known set })
      (members (without_those n.known (known_from deck n.known set))) h.right far
      (λ p star u below knows. old_or_new p star u below knows (has n.known u) refl)
    where
      old_or_new : (p : StarPart) → n.star ≡ Some p → (u : ℕ) → u < most_systems
          → has (known_from deck n.known set) u ≡ true → (b : Bool) → has n.known u ≡ b →
          HasNothingOf u p
          ⊎ (list_any (λ (z : SysId). z.0 == u) (members (without_those n.known (known_from deck n.known set))) ≡ true)
      old_or_new p star u below knows true old = inl (h.clean p star u below old)
      old_or_new p star u below knows false new =
          inr (member (without_those n.known (known_from deck n.known set)) u most_systems
          (has-without_all most_systems n.known (known_from deck n.known set) u below
          ∙ and_from (has (known_from deck n.known set) u) (not (has n.known u)) knows (ap not new))
          below)

  -- its desk removed another one
  clean-purged : (n : NodeState) (target : SysId) → target.0 ≢ n.tasks.system
      → ((u : ℕ) → has n.known u ≡ true → (u == n.tasks.system) ≡ false) → KeepsClean n
      → KeepsClean (purged deck n (choices.Purge target)).node
  unfolding purged desk_told
  clean-purged n target other far h =
      clean-losing deck (record (desk_told n saids.VaryDone) { known = with_also n.known target.0 }) (target ∷ [])
      h.right
      (λ u knows. ap (λ (z : ℕ × ℕ). u == z.0) (size-desk n saids.VaryDone) ∙ far_now u knows (ℕ_discrete u target.0))
      (λ p star u below knows. old_or_new p star u below knows (ℕ_discrete u target.0))
    where
      far_now : (u : ℕ) → has (with_also n.known target.0) u ≡ true → Dec (u ≡ target.0)
          → (u == n.tasks.system) ≡ false
      far_now u knows (yes same) =
          false_by (u == n.tasks.system) (λ own. absurd (other (sym same ∙ eqb-true u n.tasks.system own)))
      far_now u knows (no apart) = far u (sym (has-with_other n.known target.0 u apart) ∙ knows)

      old_or_new : (p : StarPart) → n.star ≡ Some p → (u : ℕ) → u < most_systems
          → has (with_also n.known target.0) u ≡ true → Dec (u ≡ target.0)
          → HasNothingOf u p ⊎ (list_any (λ (z : SysId). z.0 == u) (target ∷ []) ≡ true)
      old_or_new p star u below knows (yes same) =
          inr (or_left (target.0 == u) false (eq-eqb target.0 u (sym same)))
      old_or_new p star u below knows (no apart) =
          inl (h.clean p star u below (sym (has-with_other n.known target.0 u apart) ∙ knows))

  -- a mail
  mail-right : (n : NodeState) (p : StarPart) (mail : Mail) → AreRight p.gathers
      → AreRight (take_mail deck n.known n.tasks p mail).part.gathers
  unfolding took_mail
  mail-right n p mail h = go (is_for_deck deck mail) mail
    where
      go : (b : Bool) (m : Mail)
          → AreRight (cond b (took_mail deck n.known n.tasks p m) (fixing_none n.tasks p)).part.gathers
      go false m = h
      go true (mails.Request e from q) =
          by_test (λ (r : StarPart). AreRight r.gathers) (is_held_for n.known p e q)
          (record p { held = p.held ++ q ∷ [] }) p (λ here. h) (λ away. h)
      go true (mails.Answered t answer rank) = h
      go true (mails.Granted t r) = h
      go true (mails.Notice target moved) =
          (by-notice (λ x. IsOf n.tasks.system x) (of-up n.tasks.system) n.known (of-moved n.tasks.system n.known)
          (names_of deck n.tasks.system) (standing n.tasks p) (filter (is_item_of deck) moved) (of-node n p h)).right
      go true (mails.Part e from records) =
          (of-part n.tasks.system n.known (names_of deck n.tasks.system) (standing n.tasks p) e from
          (filter (λ r. is_of_deck deck r.task) records) (of-node n p h)).right

  mail-clean : (n : NodeState) (p : StarPart) (mail : Mail) (u : ℕ) → (u == n.tasks.system) ≡ false
      → u < most_systems → has n.known u ≡ true → AreRight p.gathers → HasNothingOf u p
      → HasNothingOf u (take_mail deck n.known n.tasks p mail).part
  unfolding took_mail
  mail-clean n p mail u apart below knows right h = go (is_for_deck deck mail) mail
    where
      both : {x : Standing} → IsClean n.tasks.system u x → HasNothingOf u x.part
      both k = (k.lists, k.parts)

      go : (b : Bool) (m : Mail)
          → HasNothingOf u (cond b (took_mail deck n.known n.tasks p m) (fixing_none n.tasks p)).part
      go false m = h
      go true (mails.Request e from q) =
          by_test (λ (r : StarPart). HasNothingOf u r) (is_held_for n.known p e q)
          (record p { held = p.held ++ q ∷ [] }) p (λ here. h) (λ away. h)
      go true (mails.Answered t answer rank) = h
      go true (mails.Granted t r) = h
      go true (mails.Notice target moved) =
          both (by-notice (λ x. IsClean n.tasks.system u x) (clean-up n.tasks.system u apart) n.known
          (clean-moved n.tasks.system u apart n.known below knows) (names_of deck n.tasks.system) (standing n.tasks p)
          (filter (is_item_of deck) moved) (clean-node n p u right h))
      go true (mails.Part e from records) =
          both (clean-part n.tasks.system u apart n.known below knows (names_of deck n.tasks.system)
          (standing n.tasks p) e from (filter (λ r. is_of_deck deck r.task) records) (clean-node n p u right h))

  -- ---- what it does by its part
  module _ (m : MediumState) (s : SysId) (n : NodeState) (p : StarPart) (star : n.star ≡ Some p) (h : KeepsClean n)
      (far : (u : ℕ) → has n.known u ≡ true → (u == n.tasks.system) ≡ false)
      (held : (u : ℕ) → u < most_systems → has n.known u ≡ true → HasNone u p.held) where
    was : (u : ℕ) → u < most_systems → has n.known u ≡ true → HasNothingOf u p
    was = h.clean p star

    -- a task of its own
    own-apart : (t : TaskId) (u : ℕ) → may_send deck n t ≡ true → has n.known u ≡ true → (u == t.system.0) ≡ false
    unfolding may_send
    own-apart t u may knows =
        ap (λ k. u == k)
        (sym (eqb-true n.tasks.system t.system.0
        (and_parts (n.tasks.system == t.system.0) (nat_lt t.task (length n.tasks.tasks))
        (and_parts (is_task n.tasks t) _ may).0).0))
        ∙ far u knows

    clean-acts : (choice : Choice) (b : Result) (o : Turnout) → Acts deck m s n p choice b o → KeepsClean o.step.node
    unfolding decide_own
    clean-acts choice b o (decided t a x asked to at same) =
        with-part n o.step.node _ refl refl (h.right p star)
        (λ u below knows. (
          request-none u (begun p x).manager t a.req.want (own-apart t u asked.may knows)
              (managing-none u p.manager x (was u below knows).0),
          (was u below knows).1,
        ))
    clean-acts choice b o (began t a x asked none) =
        with-part n o.step.node _ refl refl (h.right p star)
        (λ u below knows. (
          request-none u (begun p x).manager t a.req.want (own-apart t u asked.may knows)
              (managing-none u p.manager x (was u below knows).0),
          (was u below knows).1,
        ))
    clean-acts choice b o (sent t a x asked to at apart) = with-part n o.step.node _ refl refl (h.right p star) was
    clean-acts choice b o (took mail rest at) =
        with-part n o.step.node (take_mail deck n.known n.tasks p mail).part refl refl
        (mail-right n p mail (h.right p star))
        (λ u below knows.
        mail-clean n p mail u (far u knows) below knows (h.right p star) (was u below knows))
    clean-acts choice b o (settled q first) =
        with-part n o.step.node _ refl refl (h.right p star)
        (λ u below knows. (
          request-none u p.manager q.task q.want (none-found u (may_settle p) p.held q (held u below knows) first)
              (was u below knows).0,
          (was u below knows).1,
        ))
    clean-acts choice b o (told e x first) =
        with-part n o.step.node _ refl refl (h.right p star)
        (λ u below knows. (telling-none u p.manager x.0 x.1 (was u below knows).0, (was u below knows).1))
    clean-acts choice b o (parted e to owes unknown) = with-part n o.step.node _ refl refl (h.right p star) was
    clean-acts choice b o (left x flags free by) =
        with-part n o.step.node _ refl refl (h.right p star)
        (λ u below knows. (leaving-none u p.manager x (was u below knows).0, (was u below knows).1))

  -- ---- any event of a live system
  module _ (fit : OrdersFit deck) (m : MediumState) (s : SysId) (n : NodeState) (home : n.tasks.system ≡ s.0)
      (alive : has m.removed s.0 ≡ false) (known : KnowsRemoved m n) (holds : HoldsNone n) (h : KeepsClean n) where
    far_removed : (u : ℕ) → has m.removed u ≡ true → (u == n.tasks.system) ≡ false
    far_removed u out =
        false_by (u == n.tasks.system) (λ same.
        no_truth (has m.removed s.0) (ap (has m.removed) (sym home ∙ sym (eqb-true u n.tasks.system same)) ∙ out) alive)

    far : (u : ℕ) → has n.known u ≡ true → (u == n.tasks.system) ≡ false
    far u knows = far_removed u (known u knows)

    far_told : (u : ℕ) → has (known_from deck n.known m.removed) u ≡ true → (u == n.tasks.system) ≡ false
    far_told u = go _
      where
        go : (d : Bool) → has (cond d m.removed n.known) u ≡ true → (u == n.tasks.system) ≡ false
        go true knows = far_removed u knows
        go false knows = far u knows

    clean-came : (choice : Choice) (b : Result) (o : Turnout) → Came deck m s n choice b o → KeepsClean o.step.node
    clean-came choice b o (nothing k r silent flags) = h
    clean-came choice b o (informed k) = clean-stale n m.removed far_told h
    clean-came choice b o (went_on t may) =
        let stays = stays-task deck.limit n t (lines_of deck t) in same-part n o.step.node stays.star stays.known h
    clean-came choice b o (turn flags alone unclosed here) =
        let stays = stays-turned deck n (unseen s m.message.entries) (length (take most_additions n.outbox)) in
        same-part n o.step.node stays.star stays.known h
    clean-came choice b o (last_turn flags alone shut here) =
        let es = unseen s m.message.entries in
        let stays = stays-entries deck n es in
        clean-changed (read_entries deck n es)
        (λ u knows.
        ap (λ (z : ℕ × ℕ). u == z.0) (size-entries deck es n)
        ∙ far u (ap (λ i. has i u) (sym stays.known) ∙ knows))
    clean-came choice b o (changed ring next seen) = clean-switched n far h
    clean-came choice b o (already mode next) = clean-desk n saids.StarAlready h
    clean-came choice b o (removes_one target ring next lives) =
        clean-purged n target (target-fits deck n target fit next).1 far h
    clean-came choice b o (removes_star target mode next lives) =
        clean-purged n target (target-fits deck n target fit next).1 far h
    clean-came choice b o (no_such target next gone) = clean-desk n saids.VaryNoSuch h
    clean-came choice b o (acted p is k r x acts) = clean-acts m s n p is h far (holds.none p is) k r x acts

-- ---- so in every run
abbrev pub AllKeepClean : World → Type 0
AllKeepClean w = (s : ℕ) (n : NodeState) → slice_get w.nodes s ≡ Some n → KeepsClean n

first-clean : (deck : Deck) (s : ℕ) → KeepsClean (first_node deck s)
unfolding first_node
first-clean deck s = record {
  right = λ p is. go deck.star p is;
  clean = λ p is u below knows. no_truth (has 0 u) knows (has-zero u);
}
  where
    none-yet : (k : ℕ) → list_all are_right (replicate k None) ≡ true
    none-yet zero = refl
    none-yet (suc k) = none-yet k

    go : (b : Bool) (p : StarPart) → cond b (Some (first_part (record { 0 = s }) deck.entries)) None ≡ Some p
        → AreRight p.gathers
    go false p is = absurd (cc)
    go true p is =
        subst (λ (r : StarPart). AreRight r.gathers) (same_Some (first_part (record { 0 = s }) deck.entries) p is)
        (none-yet deck.entries)

pub clean_run : (deck : Deck) → OrdersFit deck → (es : List Event) → AllKeepClean (run deck es)
clean_run deck fit =
    each_run deck (λ es (w : World). AllKeepClean w)
    (λ s n at. subst KeepsClean (sym (first_of deck s n at)) (first-clean deck s))
    (λ es e h.
    each_came deck (run deck es) e AllKeepClean (λ s n at. h s n at)
    (λ n b o at alive came.
    of_nodes (run deck es) e.system n o at (λ s k. KeepsClean k)
    (clean-came deck fit (run deck es).medium e.system n (homes_run deck es e.system.0 n at) alive
    (known_run deck es e.system.0 n at) (held_run deck es e.system.0 n at) (h e.system.0 n at) e.choice b o came)
    (λ s k ne there. h s k there)))
