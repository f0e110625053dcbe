-- Whom a live system knows to be removed was removed.
use Rattle.grs_world.proofs.Common.{[], ◌∙◌, ◌∷◌, ◌≡◌, ap, Bool, by_test, change_to_star, Choice, cond, Deck, desk_told}
use Rattle.grs_world.proofs.Common.{Event, false, first_node, first_world, has, has-with_other, has-with_same, has-zero}
use Rattle.grs_world.proofs.Common.{is_none, known_from, length, lines_of, List, losing, losing_in, MediumState}
use Rattle.grs_world.proofs.Common.{members, most_additions, no_truth, NodeState, None, Option, placed, purged}
use Rattle.grs_world.proofs.Common.{read_entries, refl, run, slice_get, Some, stale, StarPart, stays-task, stays-turned}
use Rattle.grs_world.proofs.Common.{switched, sym, SysId, take, true, Turnout, unseen, with_also, World, ℕ, ℕ_discrete}
use Rattle.grs_node.specs.Node.{changed as changed_now}
use Rattle.grs_node.proofs.Keeping.{stays-entries}
use Rattle.grs_world.proofs.run.Came.{Came, Result, acted, acts-keep, already, changed, informed, last_turn, no_such}
use Rattle.grs_world.proofs.run.Came.{nothing, removes_one, removes_star, turn, went_on, Acts, began, decided, left}
use Rattle.grs_world.proofs.run.Came.{parted, sent, settled, told, took}
use Rattle.grs_world.proofs.run.Chosen.{each_came}
use Rattle.grs_world.proofs.run.Each.{each_run}
use Rattle.grs_world.proofs.run.Placed.{by_node, of_both}
use Rattle.grs_world.proofs.run.First.{first_of}
use Rattle.grs_wire.specs.declared.deck.Choice.TheVariants as choices
use Rattle.grs_wire.specs.declared.told.Said.TheVariants as saids

abbrev pub KnowsRemoved : MediumState → NodeState → Type 0
KnowsRemoved m n = (u : ℕ) → has n.known u ≡ true → has m.removed u ≡ true

pub losing-known : (deck : Deck) (n : NodeState) (ss : List SysId) → (losing deck n ss).known ≡ n.known
unfolding losing
losing-known deck n ss = go n.star
  where
    go : (o : Option StarPart) → (losing_in deck n o ss).known ≡ n.known
    go None = refl
    go (Some p) = refl

pub changed-known : (deck : Deck) (n : NodeState) → (changed_now deck n).known ≡ n.known
unfolding change_to_star
changed-known deck n = losing-known deck (change_to_star deck n) (members n.known)

pub switched-known : (deck : Deck) (n : NodeState) → (switched deck n).known ≡ n.known
unfolding switched desk_told
switched-known deck n =
    by_test (λ (k : NodeState). k.known ≡ n.known) (is_none n.star) (changed_now deck (desk_told n saids.StarDone)) n
    (λ alone. changed-known deck (desk_told n saids.StarDone)) (λ there. refl)

-- one more
also-known : (f g t u : ℕ) → (has f u ≡ true → has g u ≡ true) → has (with_also f t) u ≡ true
    → has (with_also g t) u ≡ true
also-known f g t u more h = go (ℕ_discrete u t)
  where
    go : Dec (u ≡ t) → has (with_also g t) u ≡ true
    go (yes same) = ap (has (with_also g t)) same ∙ has-with_same g t
    go (no other) = has-with_other g t u other ∙ more (sym (has-with_other f t u other) ∙ h)

also-more : (g t u : ℕ) → has g u ≡ true → has (with_also g t) u ≡ true
also-more g t u h = go (ℕ_discrete u t)
  where
    go : Dec (u ≡ t) → has (with_also g t) u ≡ true
    go (yes same) = ap (has (with_also g t)) same ∙ has-with_same g t
    go (no other) = has-with_other g t u other ∙ h

-- ---- one event
record Keeps (m : MediumState) (o : Turnout) : Type 0 where
  more : (u : ℕ) → has m.removed u ≡ true → has o.medium.removed u ≡ true
  knows : KnowsRemoved o.medium o.step.node

-- no act changes that
pub acts-known : (deck : Deck) (m : MediumState) (s : SysId) (n : NodeState) (p : StarPart) (choice : Choice)
    (b : Result) (o : Turnout) → Acts deck m s n p choice b o → o.step.node.known ≡ n.known
acts-known deck m s n p choice b o (decided t a x asked to at same) = refl
acts-known deck m s n p choice b o (began t a x asked none) = refl
acts-known deck m s n p choice b o (sent t a x asked to at apart) = refl
acts-known deck m s n p choice b o (took mail rest at) = refl
acts-known deck m s n p choice b o (settled q first) = refl
acts-known deck m s n p choice b o (told e x first) = refl
acts-known deck m s n p choice b o (parted e to owes unknown) = refl
acts-known deck m s n p choice b o (left x flags free by) = refl

module _ (deck : Deck) (m : MediumState) (s : SysId) (n : NodeState) (know : KnowsRemoved m n) where
  -- nobody is removed, and it knows as before
  same : (o : Turnout) → o.medium.removed ≡ m.removed → o.step.node.known ≡ n.known → Keeps m o
  same o kept known = record {
    more = λ u h. ap (λ i. has i u) kept ∙ h;
    knows = λ u h. ap (λ i. has i u) kept ∙ know u (ap (λ i. has i u) (sym known) ∙ h);
  }

  -- one was removed
  purged-keeps : (target : SysId) (k : MediumState) → k.removed ≡ with_also m.removed target.0
      → Keeps m (record { medium = k; step = purged deck n (choices.Purge target) })
  unfolding purged desk_told
  purged-keeps target k is = record {
    more = λ u h. ap (λ i. has i u) is ∙ also-more m.removed target.0 u h;
    knows = λ u h.
        ap (λ i. has i u) is
        ∙ also-known n.known m.removed target.0 u (know u)
        (ap (λ i. has i u) (sym (losing-known deck
        (record (desk_told n saids.VaryDone) { known = with_also n.known target.0 }) (target ∷ [])))
        ∙ h);
  }

  keeps : (choice : Choice) (b : Result) (o : Turnout) → Came deck m s n choice b o → Keeps m o
  unfolding stale desk_told
  keeps choice b o (nothing k r silent flags) = same o refl refl
  keeps choice b o (informed k) = record {
    more = λ u h. h;
    knows = λ u h.
        by_set u (ap (λ i. has i u) (sym (losing-known deck
        (record n { known = known_from deck n.known m.removed }) _))
        ∙ h);
  }
    where
      by_set : (u : ℕ) → has (known_from deck n.known m.removed) u ≡ true → has m.removed u ≡ true
      by_set u = go _
        where
          go : (d : Bool) → has (cond d m.removed n.known) u ≡ true → has m.removed u ≡ true
          go true h = h
          go false h = know u h
  keeps choice b o (went_on t may) = same o refl (stays-task deck.limit n t (lines_of deck t)).known
  keeps choice b o (turn flags alone unclosed here) =
      same o refl (stays-turned deck n (unseen s m.message.entries) (length (take most_additions n.outbox))).known
  keeps choice b o (last_turn flags alone shut here) =
      same o refl (changed-known deck (read_entries deck n (unseen s m.message.entries))
      ∙ (stays-entries deck n (unseen s m.message.entries)).known)
  keeps choice b o (changed ring next seen) = same o refl (switched-known deck n)
  keeps choice b o (already mode next) = same o refl refl
  keeps choice b o (removes_one target ring next lives) = purged-keeps target o.medium refl
  keeps choice b o (removes_star target mode next lives) = purged-keeps target o.medium refl
  keeps choice b o (no_such target next gone) = same o refl refl
  keeps choice b o (acted p is k r x acts) =
      same o (acts-keep deck m s n p k r x acts).removed (acts-known deck m s n p k r x acts)

-- ---- so in every run, of live systems and of removed ones
abbrev pub KnownAreRemoved : World → Type 0
KnownAreRemoved w = (s : ℕ) (n : NodeState) → slice_get w.nodes s ≡ Some n → KnowsRemoved w.medium n

knows-first : (deck : Deck) (m : MediumState) (s : ℕ) → KnowsRemoved m (first_node deck s)
unfolding first_node
knows-first deck m s u h = no_truth (has 0 u) h (has-zero u)

known-placed : (w : World) (c : SysId) (n : NodeState) → slice_get w.nodes c.0 ≡ Some n → (o : Turnout)
    → Keeps w.medium o → KnownAreRemoved w → KnownAreRemoved (placed w c n o)
known-placed w c n at o own h =
    of_both w c n o (λ m ns. (s : ℕ) (k : NodeState) → slice_get ns s ≡ Some k → KnowsRemoved m k)
    (by_node w.nodes c.0 n o.step.node at (λ s k. KnowsRemoved o.medium k) own.knows
    (λ s k ne found u knows. own.more u (h s k found u knows)))

pub known_run : (deck : Deck) (es : List Event) → KnownAreRemoved (run deck es)
known_run deck =
    each_run deck (λ es (w : World). KnownAreRemoved w)
    (λ s n at u h.
    knows-first deck (first_world deck).medium s u
    (ap (λ (k : NodeState). has k.known u) (sym (first_of deck s n at)) ∙ h))
    (λ es e h.
    each_came deck (run deck es) e KnownAreRemoved (λ s n at. h s n at)
    (λ n b o at alive came.
    known-placed (run deck es) e.system n at o
    (keeps deck (run deck es).medium e.system n (h e.system.0 n at) e.choice b o came) h))
