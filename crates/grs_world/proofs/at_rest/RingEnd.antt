-- A run that is in ring mode and at rest: nothing is outstanding any more, and the tables are the history's.
use Rattle.grs_world.proofs.Common.{[], ◌&&◌, ◌++◌, ◌+◌, ◌<◌, ◌==◌, ◌||◌, ◌∙◌, ◌∷◌, ◌≡◌, and_parts, ap, append-nil}
use Rattle.grs_world.proofs.Common.{arith, askers, at_rest, Bodies, Bool, Deck, eqb-true, Event, false, get_or, goes_on}
use Rattle.grs_world.proofs.Common.{has, is_among, is_marked, is_pending, is_res_of, is_sent, is_systems, is_task}
use Rattle.grs_world.proofs.Common.{is_to_send, is_unsent, IsOurs, items, length, List, list_any, list_of, list_of-part}
use Rattle.grs_world.proofs.Common.{lists, live, map, Meaning, medium_at_end, new_task, NodeState, not, or_other}
use Rattle.grs_world.proofs.Common.{or_parts, own_requests, owns, owns-may, Phase, refl, Req, Res, RingEntry, rounds}
use Rattle.grs_world.proofs.Common.{RunItem, slice_get, Some, state_of, subst, suc, sym, table-is, TaskId, TaskState}
use Rattle.grs_world.proofs.Common.{TasksView, true, unseen, World, zero, ℕ}
use Rattle.grs_world.specs.Running.{is_busy, none_busy}
use Rattle.task_state.proofs.ViewLaws.{is_task-place}
use Rattle.grs_known.proofs.system.Asking.{held-none}
use Rattle.grs_world.proofs.at_rest.Events.{date-any}
use Rattle.grs_world.proofs.at_rest.AtEnd.{IsStill}
use Rattle.grs_world.proofs.at_rest.Unseen.{requests_of}
use Rattle.grs_world.proofs.at_rest.RingRun.{AllRead, still_of}
use Rattle.grs_world.proofs.run.Growing.{fixeds}
use Rattle.grs_world.proofs.run.InRing.{IsRing, live-there}
use Rattle.grs_world.proofs.run.Messages.{given-later}
use Rattle.grs_world.proofs.run.Runs.{GoodWorld}
use Rattle.grs_world.proofs.system.AtNode.{Seen, opens_of}
use Rattle.task_state.specs.declared.state.Phase.TheVariants as phases

-- ---- no system is busy
pub busy-at : (deck : Deck) (removed k : ℕ) (ns : List NodeState) (s : ℕ) (n : NodeState)
    → none_busy removed k (map (is_busy deck removed) ns) ≡ true → slice_get ns s ≡ Some n
    → has removed (k + s) ≡ false → is_busy deck removed n ≡ false
busy-at deck removed k [] s n h at live = absurd (cc)
busy-at deck removed k (m ∷ ns) zero n h at live =
    let same : m ≡ n = cc in
    let here : k ≡ k + zero = omega arith in
    subst (λ z. is_busy deck removed z ≡ false) same
    (free (has removed k) (is_busy deck removed m) (ap (has removed) here ∙ live)
    (and_parts (has removed k || not (is_busy deck removed m)) _ h).0)
  where
    free : (a b : Bool) → a ≡ false → (a || not b) ≡ true → b ≡ false
    free true b e f = absurd (cc)
    free false true e f = absurd (cc)
    free false false e f = refl
busy-at deck removed k (m ∷ ns) (suc s) n h at live =
    let next : k + 1 + s ≡ k + suc s = omega arith in
    busy-at deck removed (k + 1) ns s n (and_parts (has removed k || not (is_busy deck removed m)) _ h).1 at
    (ap (has removed) next ∙ live)

-- so nothing is pending
pub pending-at : (deck : Deck) (removed k : ℕ) (ns : List NodeState) (s : ℕ) (n : NodeState)
    → none_busy removed k (map (is_busy deck removed) ns) ≡ true → slice_get ns s ≡ Some n
    → has removed (k + s) ≡ false → is_pending deck n ≡ false
pending-at deck removed k ns s n h at live =
    (or_parts (is_pending deck n) (not (n.known == removed)) (busy-at deck removed k ns s n h at live)).0

pub none-at : (p : TaskState → Bool) (xs : List TaskState) (i : ℕ) (d : TaskState) → list_any p xs ≡ false
    → i < length xs → p (get_or xs i d) ≡ false
none-at p [] i d h l = absurd (omega (arith, l))
none-at p (x ∷ xs) zero d h l = (or_parts (p x) (list_any p xs) h).0
none-at p (x ∷ xs) (suc i) d h l = none-at p xs i d (or_parts (p x) (list_any p xs) h).1 (omega (arith, l))

-- no task here goes on
pub calm-at : (v : TasksView) (t : TaskId) → list_any (λ x. goes_on x.phase) v.tasks ≡ false → is_task v t ≡ true
    → goes_on (state_of v t).phase ≡ false
unfolding state_of
calm-at v t h here = none-at (λ x. goes_on x.phase) v.tasks t.task new_task h (is_task-place v t here)

pub no_length : {X : Type 0} (xs : List X) → (length xs == 0) ≡ true → xs ≡ []
no_length [] h = refl
no_length (x ∷ xs) h = absurd (omega (arith, eqb-true (length (x ∷ xs)) 0 h))

-- nothing that went with the message is due
none-due : (xs : List RunItem) (es : List RingEntry) → es ≡ [] → Bodies (fixeds xs) es → xs ≡ []
none-due [] es e b = refl
none-due (x ∷ xs) [] e b = elim b [ ]
none-due (x ∷ xs) (y ∷ es) e b = absurd (cc)

module _ (deck : Deck) (es : List Event) (w : World) (ring : IsRing deck w) (g : GoodWorld deck es w)
    (h : AllRead deck w) (rest : at_rest deck w ≡ true) where
  both : (none_busy w.medium.removed 0 (map (is_busy deck w.medium.removed) w.nodes) ≡ true)
      × (medium_at_end w.medium ≡ true)
  unfolding at_rest
  both =
      and_parts (none_busy w.medium.removed 0 (map (is_busy deck w.medium.removed) w.nodes)) (medium_at_end w.medium)
      rest

  no_entries : w.medium.message.entries ≡ []
  unfolding medium_at_end
  no_entries =
      no_length w.medium.message.entries (and_parts (length w.medium.message.entries == 0) _
      (and_parts _ ((length w.medium.message.entries == 0) && (w.medium.message.still == 0)) both.1).1).0

  abbrev P : List RunItem
  P = items w.fixed

  module _ (s : ℕ) (n : NodeState) (at : slice_get w.nodes s ≡ Some n) (alive : has w.medium.removed s ≡ false) where
    lives : has (live w.medium) s ≡ true
    lives = live-there deck w ring s n at alive

    seen : Seen deck s P (g.before s) (g.later s) (own_requests s (g.later s)) n
    seen = g.systems s n at lives

    none_unseen : unseen (record { 0 = s }) w.medium.message.entries ≡ []
    unfolding unseen
    none_unseen = ap (λ xs. unseen (record { 0 = s }) xs) no_entries

    none_later : g.later s ≡ []
    none_later =
        none-due (g.later s) (unseen (record { 0 = s }) w.medium.message.entries) none_unseen
        (given-later w.medium (record { 0 = s }) g.before (g.later s) P (g.whole s) lives g.message)

    all_before : rounds P ≡ g.before s
    all_before = g.whole s ∙ (ap (λ xs. g.before s ++ xs) none_later ∙ append-nil (g.before s))

    idle_node : is_pending deck n ≡ false
    idle_node =
        let same : 0 + s ≡ s = omega arith in
        pending-at deck w.medium.removed 0 w.nodes s n both.0 at (ap (has w.medium.removed) same ∙ alive)

    parts : (list_any (λ x. goes_on x.phase) n.tasks.tasks ≡ false) × (not (length n.outbox == 0) ≡ false)
    unfolding is_pending
    parts =
        let a = or_parts (list_any (λ x. goes_on x.phase) n.tasks.tasks) _ idle_node in
        (a.0, (or_parts (not (length n.outbox == 0)) _ a.1).0)

    no_box : n.outbox ≡ []
    no_box = no_length n.outbox (by_not (length n.outbox == 0) parts.1)
      where
        by_not : (b : Bool) → not b ≡ false → b ≡ true
        by_not true e = refl
        by_not false e = absurd (cc)

    calm : (t : TaskId) (ls : List Meaning) → IsOurs deck s n.tasks t ls
        → (goes_on (state_of n.tasks t).phase ≡ false) × (is_unsent (state_of n.tasks t).phase ≡ false)
    calm t ls ours = (calm-at n.tasks t parts.0 ours.here, unsent (state_of n.tasks t).phase refl)
      where
        nobody : (qs : List Req) → qs ≡ [] → is_among t (askers qs) ≡ true → ⊥
        nobody qs e f =
            absurd (let g1 : is_among t (askers []) ≡ true =
            subst (λ (z : List Req). is_among t (askers z) ≡ true) e f in
            cc)

        unsent : (p : Phase) → (state_of n.tasks t).phase ≡ p → is_unsent p ≡ false
        unsent phases.ToSend e = absurd (nobody n.outbox no_box ((h s n at alive).boxed t ls ours (ap is_to_send e)))
        unsent phases.Sent e =
            absurd (nobody (still_of s w.medium.message.entries) (ap requests_of none_unseen)
            ((h s n at alive).sent t ls ours (ap is_sent e)))
        unsent phases.Ready e = refl
        unsent phases.HeldAnswer e = refl
        unsent (phases.HeldLine r) e = refl
        unsent (phases.Ending c) e = refl
        unsent phases.Ended e = refl

    marked_at : (t : TaskId) (ls : List Meaning) (r : Res) → IsOurs deck s n.tasks t ls
        → owns (list_of (lists P) r) t ≡ true → is_marked r (state_of n.tasks t).records ≡ true
    marked_at t ls r ours own = go (is_systems r) refl
      where
        place : (is_systems r || is_res_of t.system.0 r) ≡ true
        place = (and_parts _ (is_systems r || is_res_of t.system.0 r) (owns-may deck P r t g.history.asks own)).1

        go : (b : Bool) → is_systems r ≡ b → is_marked r (state_of n.tasks t).records ≡ true
        go true wide =
            ((h s n at alive).shared t ls ours).told r wide (ap (λ z. owns (list_of z r) t)
            (seen.shared ∙ (ap lists (sym all_before) ∙ table-is P))
            ∙ (ap (λ zs. owns zs t) (list_of-part is_systems (lists P) r wide) ∙ own))
        go false narrow =
            let here : is_res_of s r ≡ true =
            subst (λ i. is_res_of i r ≡ true) ours.home
            (or_other (is_systems r) (is_res_of t.system.0 r) place narrow) in
            ((h s n at alive).own t ls ours).told r (ap not narrow)
            (ap (λ z. owns (list_of z r) t) seen.own
            ∙ (ap (λ zs. owns zs t) (list_of-part (is_res_of s) (lists P) r here) ∙ own))

    pub still-ring : IsStill deck s P n
    still-ring = record {
      opens = opens_of (g.later s) (own_requests s (g.later s)) n;
      good = seen.good;
      idle = λ t ls ours.
          held-none deck.limit ls t (state_of n.tasks t) (seen.good.tasks.each t ls ours).opened (calm t ls ours).1;
      calm = calm;
      marked = marked_at;
      date = date-any true deck n.tasks (h s n at alive).date;
    }
