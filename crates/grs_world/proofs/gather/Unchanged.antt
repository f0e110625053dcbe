-- From the change of the medium on, whichever systems are removed: a system that has changed has nothing of the message
-- left to process, and one that hasn't stands by itself as in a ring in which nobody but it has fixed anything since.
use Rattle.grs_world.proofs.Common.{[], ◌==◌, ◌∙◌, ◌∷◌, ◌≡◌, ◌≢◌, ap, Bodies, Bool, by_test, change_to_star, Choice}
use Rattle.grs_world.proofs.Common.{cleared, closed_by, cond, Deck, departed, desk_told, eqb-true, Event, false, filter}
use Rattle.grs_world.proofs.Common.{first_number, first_world, FitsStar, Fixed, happens, has, has-with_other}
use Rattle.grs_world.proofs.Common.{has-with_same, has-without_other, has-without_same, has-zero, is_none, is_unseen}
use Rattle.grs_world.proofs.Common.{IsHistory, items, known_from, left_by, lines_of, List, lose_all, losing, losing_in}
use Rattle.grs_world.proofs.Common.{map, may_be_star, may_go, MediumState, members, Message, names_of, no_truth}
use Rattle.grs_world.proofs.Common.{NodeState, None, not, own_requests, part_by_table, placed, purged, read_entries}
use Rattle.grs_world.proofs.Common.{refl, RingEntry, run, RunItem, Said, slice_get, Some, stale, standing, star-changed}
use Rattle.grs_world.proofs.Common.{StarPart, stays-task, Step, subst, switched, sym, SysId, task_step, TaskId, true}
use Rattle.grs_world.proofs.Common.{Turnout, unseen, with_also, without_those, World, ℕ}
use Rattle.grs_node.specs.Node.{changed as changed_now}
use Rattle.grs_wire.specs.Masks.{only as only_in}
use Rattle.grs_world.proofs.move.Sound.{ring_good}
use Rattle.grs_world.proofs.run.Came.{Acts, Came, Result, acted, acts-keep, already, began, changed, decided, informed}
use Rattle.grs_world.proofs.run.Came.{last_turn, left, no_part, no_such, parted, removes_one, removes_star, sent}
use Rattle.grs_world.proofs.run.Came.{settled, took, turn, went_on}
use Rattle.grs_world.proofs.run.Chosen.{each_came}
use Rattle.grs_world.proofs.run.Each.{each_run}
use Rattle.grs_world.proofs.run.Growing.{fixeds}
use Rattle.grs_world.proofs.run.InRing.{CameInRing, IsRing, each_in_ring, first_ring, is_ring, live-there, purged-ring}
use Rattle.grs_world.proofs.run.InRing.{removed_by, told-ring}
use Rattle.grs_world.proofs.run.Laps.{goes}
use Rattle.grs_world.proofs.run.Messages.{given-later}
use Rattle.grs_world.proofs.run.Runs.{GoodWorld}
use Rattle.grs_world.proofs.run.Placed.{by_node, medium-placed, of_both}
use Rattle.grs_world.proofs.system.AtNode.{QuietStep, Seen, fix-history, fixes, keeps, seen-known}
use Rattle.grs_world.proofs.system.Desks.{desk-seen}
use Rattle.grs_world.proofs.system.Quiet.{quiet}
use Rattle.grs_wire.specs.declared.deck.Choice.TheVariants as choices
use Rattle.grs_wire.specs.declared.told.Said.TheVariants as saids
use Rattle.rsa_message.proofs.Stands as stands
use Rattle.grs_world.proofs.run.Came as any
use Rattle.grs_world.proofs.run.InRing as ringing

-- ---- what is left of the message where a system leaves all masks
-- the entries that aren't left to this system alone
abbrev besides : SysId → List RingEntry → List RingEntry
besides c es = filter (λ x. not (x.mask == only_in c.0)) es

abbrev left_of : SysId → SysId → List RingEntry → List RingEntry
left_of c u es = filter (is_unseen u) (map (left_by c) es)

-- to itself nothing,
none-own : (c : SysId) (es : List RingEntry) → unseen c (cleared c es) ≡ []
unfolding unseen cleared
none-own c [] = refl
none-own c (e ∷ es) = go (not (e.mask == only_in c.0)) (none-own c es)
  where
    go : (b : Bool) → left_of c c (besides c es) ≡ [] → left_of c c (cond b (e ∷ besides c es) (besides c es)) ≡ []
    go false none = none
    go true none =
        ap (λ b. cond b (left_by c e ∷ left_of c c (besides c es)) (left_of c c (besides c es)))
        (has-without_same e.mask c.0)
        ∙ none

-- and to another one what was left to it
module _ (c u : SysId) (apart : u.0 ≢ c.0) where
  -- an entry that is left to nobody but c isn't left to u
  alone-apart : (e : RingEntry) → (e.mask == only_in c.0) ≡ true → has e.mask u.0 ≡ false
  alone-apart e alone =
      ap (λ m. has m u.0) (eqb-true e.mask (only_in c.0) alone)
      ∙ (has-with_other 0 c.0 u.0 apart ∙ has-zero u.0)

  -- one that isn't left to u goes, or stays and isn't
  entry-off : (e : RingEntry) (es : List RingEntry) (fs : List Fixed) → has e.mask u.0 ≡ false
      → Bodies fs (left_of c u (besides c es)) → (b : Bool)
      → Bodies fs (left_of c u (cond b (e ∷ besides c es) (besides c es)))
  entry-off e es fs none k false = k
  entry-off e es fs none k true =
      subst (λ b. Bodies fs (cond b (left_by c e ∷ left_of c u (besides c es)) (left_of c u (besides c es))))
      (sym (has-without_other e.mask c.0 u.0 apart ∙ none)) k

  -- and one that is left to u, not to c alone, stays
  entry-on : (e : RingEntry) (es : List RingEntry) (fs : List Fixed) → has e.mask u.0 ≡ true
      → Bodies fs (e ∷ filter (is_unseen u) es)
      → ((gs : List Fixed) → Bodies gs (filter (is_unseen u) es) → Bodies gs (left_of c u (besides c es)))
      → (b : Bool) → (e.mask == only_in c.0) ≡ b
      → Bodies fs (left_of c u (cond (not b) (e ∷ besides c es) (besides c es)))
  entry-on e es fs there k more true alone = no_truth (has e.mask u.0) there (alone-apart e alone)
  entry-on e es [] there k more false alone = elim k [ ]
  entry-on e es (g ∷ gs) there (stands.more is k) more false alone =
      subst (λ b.
      Bodies (g ∷ gs) (cond b (left_by c e ∷ left_of c u (besides c es)) (left_of c u (besides c es))))
      (sym (has-without_other e.mask c.0 u.0 apart ∙ there)) (stands.more is (more gs k))

  pub others-left : (es : List RingEntry) (fs : List Fixed) → Bodies fs (unseen u es)
      → Bodies fs (unseen u (cleared c es))
  unfolding unseen cleared
  others-left [] fs h = h
  others-left (e ∷ es) fs h = by_one (has e.mask u.0) refl h (λ gs. others-left es gs)
    where
      by_one : (b : Bool) → has e.mask u.0 ≡ b
          → Bodies fs (cond b (e ∷ filter (is_unseen u) es) (filter (is_unseen u) es))
          → ((gs : List Fixed) → Bodies gs (filter (is_unseen u) es) → Bodies gs (left_of c u (besides c es)))
          → Bodies fs (left_of c u (cond (not (e.mask == only_in c.0)) (e ∷ besides c es) (besides c es)))
      by_one false away k more = entry-off e es fs away (more fs k) (not (e.mask == only_in c.0))
      by_one true there k more = entry-on e es fs there k more (e.mask == only_in c.0) refl

-- who is given nothing has nothing left
nothing-left : (es : List RingEntry) → first_number es ≡ None → Bodies [] es
nothing-left [] idle = stands.none
nothing-left (e ∷ es) idle = absurd (cc)

-- ---- how a system stands to these entries of the closed message
pub data Meets (deck : Deck) (s : SysId) (es : List RingEntry) (n : NodeState) : Type 0 where
  has_changed : (p : StarPart) → n.star ≡ Some p → Bodies [] (unseen s es) → Meets deck s es n
  by_itself : n.star ≡ None → (T before due : List RunItem) → IsHistory deck T
      → Seen deck s.0 T before due (own_requests s.0 due) n → Bodies (fixeds due) (unseen s es) → Meets deck s es n

-- where as much is left to it
abbrev Leaves : SysId → List RingEntry → List RingEntry → Type 0
Leaves s es fs = (gs : List Fixed) → Bodies gs (unseen s es) → Bodies gs (unseen s fs)

meets-left : (deck : Deck) (s : SysId) (es fs : List RingEntry) (n : NodeState) → Leaves s es fs → Meets deck s es n
    → Meets deck s fs n
meets-left deck s es fs n leaves (has_changed p is nil) = has_changed p is (leaves [] nil)
meets-left deck s es fs n leaves (by_itself alone T before due right seen given) =
    by_itself alone T before due right seen (leaves (fixeds due) given)

-- ---- a system has a part in star mode
record HasPart (n : NodeState) : Type 0 where
  part : StarPart
  is : n.star ≡ Some part

part-lost : (deck : Deck) (n : NodeState) (ss : List SysId) → HasPart n → HasPart (losing deck n ss)
unfolding losing
part-lost deck n ss h = record {
  part = (lose_all (names_of deck n.tasks.system) (standing n.tasks h.part) ss).part;
  is = ap (λ o. (losing_in deck n o ss).star) h.is;
}

part-changed : (deck : Deck) (n : NodeState) → HasPart (changed_now deck n)
part-changed deck n =
    part-lost deck (change_to_star deck n) (members n.known)
    (record {
      part = part_by_table deck.entries (record { 0 = n.tasks.system }) n.shared;
      is = star-changed deck n;
    })

part-switched : (deck : Deck) (n : NodeState) → n.star ≡ None → HasPart (switched deck n)
unfolding switched
part-switched deck n alone =
    by_test HasPart (is_none n.star) (changed_now deck (desk_told n saids.StarDone)) n
    (λ h. part-changed deck (desk_told n saids.StarDone))
    (λ h. no_truth (is_none n.star) (ap is_none alone) h)

part-acts : (deck : Deck) (m : MediumState) (s : SysId) (n : NodeState) (p : StarPart) → n.star ≡ Some p
    → (choice : Choice) (b : Result) (o : Turnout) → Acts deck m s n p choice b o → HasPart o.step.node
part-acts deck m s n p is choice b o (decided t a x asked to at same) = record { part = _; is = refl }
part-acts deck m s n p is choice b o (began t a x asked none) = record { part = _; is = refl }
part-acts deck m s n p is choice b o (sent t a x asked to at apart) = record { part = _; is = refl }
part-acts deck m s n p is choice b o (took mail rest at) = record { part = _; is = refl }
part-acts deck m s n p is choice b o (settled q first) = record { part = _; is = refl }
part-acts deck m s n p is choice b o (any.told e x first) = record { part = _; is = refl }
part-acts deck m s n p is choice b o (parted e to owes unknown) = record { part = _; is = refl }
part-acts deck m s n p is choice b o (left x flags free by) = record { part = _; is = refl }

with-part : (deck : Deck) (s : SysId) (es : List RingEntry) (n : NodeState) → HasPart n → Bodies [] (unseen s es)
    → Meets deck s es n
with-part deck s es n h nil = has_changed h.part h.is nil

-- ---- its own events, which leave it what was left
module _ (deck : Deck) (s : SysId) (es : List RingEntry) (n : NodeState) where
  meets-task : (t : TaskId) → may_go deck n t ≡ true → Meets deck s es n
      → Meets deck s es (task_step deck.limit n t (lines_of deck t)).node
  meets-task t may (has_changed p is nil) =
      has_changed p ((stays-task deck.limit n t (lines_of deck t)).star ∙ is) nil
  meets-task t may (by_itself alone T before due right seen given) =
      by_step (quiet deck s.0 s T before due (own_requests s.0 due) n t right seen may)
    where
      still : (task_step deck.limit n t (lines_of deck t)).node.star ≡ None
      still = (stays-task deck.limit n t (lines_of deck t)).star ∙ alone

      by_step :
          QuietStep deck s.0 s T before due (own_requests s.0 due) n (task_step deck.limit n t (lines_of deck t))
          → Meets deck s es (task_step deck.limit n t (lines_of deck t)).node
      by_step (keeps none now told) = by_itself still T before due right now given
      by_step (fixes f one narrow may_fix now told) =
          by_itself still _ before due (fix-history right may_fix) now given

  meets-desk : (said : Said) → Meets deck s es n → Meets deck s es (desk_told n said)
  unfolding desk_told
  meets-desk said (has_changed p is nil) = has_changed p is nil
  meets-desk said (by_itself alone T before due right seen given) =
      by_itself alone T before due right (desk-seen deck s.0 T before due (own_requests s.0 due) n said seen) given

  meets-stale : (set : ℕ) → Meets deck s es n → Meets deck s es (stale deck n set)
  unfolding stale
  meets-stale set (has_changed p is nil) =
      with-part deck s es (stale deck n set)
      (part-lost deck (record n { known = known_from deck n.known set })
      (members (without_those n.known (known_from deck n.known set))) (record { part = p; is = is }))
      nil
  meets-stale set (by_itself alone T before due right seen given) =
      subst (Meets deck s es) (sym (told-ring deck n set alone))
      (by_itself alone T before due right
      (seen-known deck s.0 T before due (own_requests s.0 due) n (known_from deck n.known set) seen) given)

  meets-purged : (target : SysId) → Meets deck s es n → Meets deck s es (purged deck n (choices.Purge target)).node
  unfolding purged removed_by desk_told
  meets-purged target (has_changed p is nil) =
      with-part deck s es (purged deck n (choices.Purge target)).node
      (part-lost deck (record (desk_told n saids.VaryDone) { known = with_also n.known target.0 }) (target ∷ [])
      (record { part = p; is = is }))
      nil
  meets-purged target (by_itself alone T before due right seen given) =
      subst (λ (st : Step). Meets deck s es st.node) (sym (purged-ring deck n target alone))
      (by_itself alone T before due right
      (seen-known deck s.0 T before due (own_requests s.0 due) (desk_told n saids.VaryDone)
      (with_also n.known target.0)
      (desk-seen deck s.0 T before due (own_requests s.0 due) n saids.VaryDone seen)) given)

-- ---- the world
abbrev pub AllMeet : Deck → World → Type 0
AllMeet deck w =
    (s : ℕ) (n : NodeState) → slice_get w.nodes s ≡ Some n → has w.medium.removed s ≡ false
    → Meets deck (record { 0 = s }) w.medium.message.entries n

-- in ring mode no system has changed
ring-meets : (deck : Deck) (es : List Event) (w : World) → IsRing deck w → GoodWorld deck es w → AllMeet deck w
ring-meets deck es w ring g s n at alive =
    let lives = live-there deck w ring s n at alive in
    by_itself (ring.alone s n at) (items w.fixed) (g.before s) (g.later s) g.history (g.systems s n at lives)
    (given-later w.medium (record { 0 = s }) g.before (g.later s) (items w.fixed) (g.whole s) lives g.message)

module _ (deck : Deck) (w : World) (h : AllMeet deck w) (c : SysId) (n : NodeState)
    (at : slice_get w.nodes c.0 ≡ Some n) where
  abbrev Others : Turnout → Type 0
  Others o =
      (u : ℕ) → u ≢ c.0 → has o.medium.removed u ≡ false
      → (has w.medium.removed u ≡ false)
      × Leaves (record { 0 = u }) w.medium.message.entries o.medium.message.entries

  placed-meets : (o : Turnout)
      → (has o.medium.removed c.0 ≡ false → Meets deck c o.medium.message.entries o.step.node) → Others o
      → AllMeet deck (placed w c n o)
  placed-meets o own others =
      of_both w c n o
      (λ m ns. (u : ℕ) (k : NodeState) → slice_get ns u ≡ Some k → has m.removed u ≡ false
      → Meets deck (record { 0 = u }) m.message.entries k)
      (by_node w.nodes c.0 n o.step.node at
      (λ u k. has o.medium.removed u ≡ false → Meets deck (record { 0 = u }) o.medium.message.entries k) own
      (λ u k ne there live.
      let old = others u ne live in
      meets-left deck (record { 0 = u }) w.medium.message.entries o.medium.message.entries k old.1
      (h u k there old.0)))

-- an event in star mode
module _ (deck : Deck) (w : World) (e : Event) (star : w.medium.star ≡ true)
    (shut : w.medium.message.closed ≡ true) (h : AllMeet deck w) where
  abbrev m : MediumState
  m = w.medium

  abbrev c : SysId
  c = e.system

  -- who isn't removed by the removal of a system is another one, and wasn't before
  not-target : (target : SysId) (u : ℕ) → has (with_also w.medium.removed target.0) u ≡ false → u ≢ target.0
  not-target target u live same =
      no_truth (has (with_also m.removed target.0) u)
      (subst (λ k. has (with_also m.removed target.0) k ≡ true) (sym same) (has-with_same m.removed target.0)) live

  was-live : (target : SysId) (u : ℕ) → has (with_also w.medium.removed target.0) u ≡ false
      → has w.medium.removed u ≡ false
  was-live target u live = sym (has-with_other m.removed target.0 u (not-target target u live)) ∙ live

  meets-acts : (n : NodeState) (p : StarPart) → n.star ≡ Some p → (k : NodeState) → HasPart k
      → Meets deck e.system w.medium.message.entries n → Meets deck e.system w.medium.message.entries k
  meets-acts n p is k part (has_changed q was nil) = with-part deck c m.message.entries k part nil
  meets-acts n p is k part (by_itself alone T before due right seen given) = no_part n p is alone

  by_case : (n : NodeState) → slice_get w.nodes e.system.0 ≡ Some n → has w.medium.removed e.system.0 ≡ false
      → (choice : Choice) (b : Result) (o : Turnout) → Came deck w.medium e.system n choice b o
      → AllMeet deck (placed w e.system n o)
  unfolding departed
  by_case n at alive choice b o (any.nothing k r silent flags) =
      placed-meets deck w h c n at o (λ live. h c.0 n at alive) (λ u ne live. (live, λ gs k. k))
  by_case n at alive choice b o (informed k) =
      placed-meets deck w h c n at o
      (λ live. meets-stale deck c m.message.entries n m.removed (h c.0 n at alive)) (λ u ne live. (live, λ gs k. k))
  by_case n at alive choice b o (went_on t may) =
      placed-meets deck w h c n at o (λ live. meets-task deck c m.message.entries n t may (h c.0 n at alive))
      (λ u ne live. (live, λ gs k. k))
  by_case n at alive choice b o (turn flags alone unclosed here) = no_truth m.message.closed shut unclosed
  by_case n at alive choice b o (last_turn flags alone closed here) =
      placed-meets deck w h c n at o
      (λ live.
      with-part deck c (cleared c m.message.entries) o.step.node
      (part-changed deck (read_entries deck n (unseen c m.message.entries)))
      (subst (λ es. Bodies [] es) (sym (none-own c m.message.entries)) stands.none))
      (λ u ne live. (live, λ gs. others-left c (record { 0 = u }) ne m.message.entries gs))
  by_case n at alive choice b o (changed ring next seen) = no_truth m.star star ring
  by_case n at alive choice b o (already mode next) =
      placed-meets deck w h c n at o
      (λ live. meets-desk deck c m.message.entries n saids.StarAlready (h c.0 n at alive))
      (λ u ne live. (live, λ gs k. k))
  by_case n at alive choice b o (removes_one target ring next lives) = no_truth m.star star ring
  by_case n at alive choice b o (removes_star target mode next lives) =
      placed-meets deck w h c n at o
      (λ live.
      meets-left deck c m.message.entries (cleared target m.message.entries) o.step.node
      (λ gs. others-left target c (not-target target c.0 live) m.message.entries gs)
      (meets-purged deck c m.message.entries n target (h c.0 n at alive)))
      (λ u ne live. (
        was-live target u live,
        λ gs. others-left target (record { 0 = u }) (not-target target u live) m.message.entries gs,
      ))
  by_case n at alive choice b o (no_such target next gone) =
      placed-meets deck w h c n at o
      (λ live. meets-desk deck c m.message.entries n saids.VaryNoSuch (h c.0 n at alive))
      (λ u ne live. (live, λ gs k. k))
  by_case n at alive choice b o (acted p is k r x acts) =
      let kept = acts-keep deck m c n p k r x acts in
      placed-meets deck w h c n at o
      (λ live.
      subst (λ (z : Message). Meets deck c z.entries o.step.node) (sym kept.message)
      (meets-acts n p is o.step.node (part-acts deck m c n p is k r x acts) (h c.0 n at alive)))
      (λ u ne live. (
        ap (λ r. has r u) (sym kept.removed) ∙ live,
        λ gs j. subst (λ (z : Message). Bodies gs (unseen (record { 0 = u }) z.entries)) (sym kept.message) j,
      ))

  star-meets : AllMeet deck (happens deck w e)
  star-meets =
      each_came deck w e (AllMeet deck) (λ s n at live. h s n at live)
      (λ n b o at alive came. by_case n at alive e.choice b o came)

-- an event in ring mode, behind which the medium is in star mode
module _ (deck : Deck) (w : World) (e : Event) (ring : IsRing deck w) (h : AllMeet deck w) where
  begin-meets : (happens deck w e).medium.star ≡ true → AllMeet deck (happens deck w e)
  unfolding closed_by
  begin-meets =
      each_in_ring deck w e (λ (x : World). x.medium.star ≡ true → AllMeet deck x) ring
      (λ mode. no_truth w.medium.star mode ring.mode)
      (λ n o at alive came mode.
      by_ring n o at alive came (sym (ap (λ m. m.star) (medium-placed w e.system n o)) ∙ mode))
    where
      by_ring : (n : NodeState) (o : Turnout) → slice_get w.nodes e.system.0 ≡ Some n
          → has w.medium.removed e.system.0 ≡ false → CameInRing deck w e.system n o → o.medium.star ≡ true
          → AllMeet deck (placed w e.system n o)
      by_ring n o at alive (ringing.nothing flags) mode = no_truth w.medium.star mode ring.mode
      by_ring n o at alive (ringing.went_on t may) mode = no_truth w.medium.star mode ring.mode
      by_ring n o at alive (ringing.turn flags here) mode = no_truth w.medium.star mode ring.mode
      by_ring n o at alive (ringing.changed next idle) mode =
          placed-meets deck w h e.system n at o
          (λ live.
          with-part deck e.system w.medium.message.entries (switched deck n)
          (part-switched deck n (ring.alone e.system.0 n at))
          (nothing-left (unseen e.system w.medium.message.entries) idle))
          (λ u ne live. (live, λ gs k. k))
      by_ring n o at alive (ringing.informed known) mode = no_truth w.medium.star mode ring.mode
      by_ring n o at alive (ringing.removes_one target next lives) mode = no_truth w.medium.star mode ring.mode
      by_ring n o at alive (ringing.no_such target next gone) mode = no_truth w.medium.star mode ring.mode

-- ---- so in every run of a deck that begins in ring mode
module _ (deck : Deck) (begins : deck.star ≡ false) (fits : may_be_star deck ≡ true → FitsStar deck) where
  ring-run : (es : List Event) → (run deck es).medium.star ≡ false → AllMeet deck (run deck es)
  ring-run es mode =
      ring-meets deck es (run deck es) (is_ring deck begins es mode) (ring_good deck fits es mode)

  star-run : (es : List Event) → (run deck es).medium.star ≡ true → AllMeet deck (run deck es)
  star-run =
      each_run deck (λ es (w : World). w.medium.star ≡ true → AllMeet deck w)
      (λ mode. no_truth (first_world deck).medium.star mode (first_ring deck begins).mode) step
    where
      step : (es : List Event) (e : Event) → ((run deck es).medium.star ≡ true → AllMeet deck (run deck es))
          → (happens deck (run deck es) e).medium.star ≡ true → AllMeet deck (happens deck (run deck es) e)
      step es e more mode = by_mode (run deck es).medium.star refl
        where
          by_mode : (b : Bool) → (run deck es).medium.star ≡ b → AllMeet deck (happens deck (run deck es) e)
          by_mode true star =
              star-meets deck (run deck es) e star ((goes deck begins es).closed star) (more star)
          by_mode false was =
              begin-meets deck (run deck es) e (is_ring deck begins es was) (ring-run es was) mode

  pub meets_run : (es : List Event) → AllMeet deck (run deck es)
  meets_run es = by_mode (run deck es).medium.star refl
    where
      by_mode : (b : Bool) → (run deck es).medium.star ≡ b → AllMeet deck (run deck es)
      by_mode true mode = star-run es mode
      by_mode false mode = ring-run es mode
