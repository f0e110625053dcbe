-- As long as a run is in ring mode, each live system's records go on with its lists, and each request that was sent
-- stands in the message.
use Rattle.grs_world.proofs.Common.{[], ◌++◌, ◌∙◌, ◌∷◌, ◌≡◌, ◌≢◌, all-behind, AllAsk, and_from, and_parts, ap}
use Rattle.grs_world.proofs.Common.{append-nil, arith, askers, asks-behind, Bodies, Bool, cleared, counted, Deck}
use Rattle.grs_world.proofs.Common.{desk_told, dropped, Event, false, first_node, first_world, FitsStar, get_or}
use Rattle.grs_world.proofs.Common.{goes_round, happens, has, has-with_other, has-with_same, is_among, is_home_at}
use Rattle.grs_world.proofs.Common.{is_sent, is_systems, is_to_send, items, length, lines_of, List, list_all, live}
use Rattle.grs_world.proofs.Common.{Matches, may_be_star, may_go, MediumState, most_additions, new_task, new_tasks}
use Rattle.grs_world.proofs.Common.{no_truth, NodeState, None, NoneInStar, own_requests, placed, put_in, read_entries}
use Rattle.grs_world.proofs.Common.{refl, Remove, Req, RingEntry, rounds, run, RunItem, set, slice_get, Some, stamped}
use Rattle.grs_world.proofs.Common.{state_of, subst, suc, sym, SysId, take, take-none, task_step, TaskId, TaskState}
use Rattle.grs_world.proofs.Common.{true, turned_open, Turnout, unseen, with_also, without_system, World, zero, ℕ}
use Rattle.grs_known.proofs.lists.Facts.{take-taken}
use Rattle.grs_world.proofs.run.First.{first_of}
use Rattle.grs_world.proofs.move.Sound.{GoodRun, every_run, in_ring, in_star}
use Rattle.grs_world.proofs.at_rest.Ring.{IsRead, distinct-at, is_local, kept-all}
use Rattle.grs_world.proofs.at_rest.RingPuts.{kept-put, desk-read, known-read}
use Rattle.grs_world.proofs.at_rest.Tasks.{read-task}
use Rattle.grs_world.proofs.at_rest.Unseen.{own-among, requests_of, waits-elsewhere, waits-new}
use Rattle.grs_known.proofs.tasks.UpToDate.{IsUpToDate}
use Rattle.grs_world.proofs.run.Spared.{each_spared, none_before}
use Rattle.grs_world.proofs.run.Growing.{asks-rounds, fixeds}
use Rattle.grs_world.proofs.run.InRing.{removed_by, CameInRing, changed, each_in_ring, nothing, star-stays, turn}
use Rattle.grs_world.proofs.run.InRing.{went_on, IsRing, informed, live-there, no_such, removes_one}
use Rattle.grs_world.proofs.run.Messages.{given-later}
use Rattle.grs_world.proofs.run.Reading.{ReadTo, all-rounds, read-entries, read_all, reading}
use Rattle.grs_world.proofs.run.Runs.{GoodWorld}
use Rattle.grs_world.proofs.run.Placed.{by_node, medium-placed, nodes_then, of_both}
use Rattle.grs_world.proofs.system.AtNode.{Seen}
use Rattle.grs_wire.specs.declared.told.Said.TheVariants as saids

-- the requests that a system has still to process
abbrev pub still_of : ℕ → List RingEntry → List Req
still_of s es = requests_of (unseen (record { 0 = s }) es)

abbrev AreRead : Deck → MediumState → List NodeState → Type 0
AreRead deck m nodes =
    (s : ℕ) (n : NodeState) → slice_get nodes s ≡ Some n → has m.removed s ≡ false
    → IsRead deck s n (still_of s m.message.entries)

abbrev pub AllRead : Deck → World → Type 0
AllRead deck w = AreRead deck w.medium w.nodes

-- more requests are there
pub read-more : (deck : Deck) (s : ℕ) (n : NodeState) (qs qs' : List Req)
    → ((t : TaskId) → t.system.0 ≡ s → is_among t (askers qs) ≡ true → is_among t (askers qs') ≡ true)
    → IsRead deck s n qs → IsRead deck s n qs'
read-more deck s n qs qs' k h = record {
  own = h.own;
  shared = h.shared;
  sent = λ t ls ours e. k t ours.home (h.sent t ls ours e);
  boxed = h.boxed;
  date = h.date;
}

-- a first part of what passes
front-all : (p : Req → Bool) (k : ℕ) (qs : List Req) → list_all p qs ≡ true → list_all p (take k qs) ≡ true
front-all p zero qs h = ap (list_all p) (take-none qs)
front-all p (suc k) [] h = refl
front-all p (suc k) (q ∷ qs) h =
    let both = and_parts (p q) (list_all p qs) h in
    and_from (p q) (list_all p (take k qs)) both.0 (front-all p k qs both.1)

-- ---- one event
module _ (deck : Deck) (es : List Event) (w : World) (ring : IsRing deck w) (g : GoodWorld deck es w) (c : SysId)
    (n : NodeState) (at : slice_get w.nodes c.0 ≡ Some n) (alive : has w.medium.removed c.0 ≡ false)
    (h : AllRead deck w) where
  abbrev P : List RunItem
  P = items w.fixed

  alone : n.star ≡ None
  alone = ring.alone c.0 n at

  lives : has (live w.medium) c.0 ≡ true
  lives = live-there deck w ring c.0 n at alive

  seen : Seen deck c.0 P (g.before c.0) (g.later c.0) (own_requests c.0 (g.later c.0)) n
  seen = g.systems c.0 n at lives

  -- a task goes on
  goes-read : (t : TaskId) → may_go deck n t ≡ true
      → IsRead deck c.0 (task_step deck.limit n t (lines_of deck t)).node (still_of c.0 w.medium.message.entries)
  goes-read t may =
      read-task deck c.0 n (still_of c.0 w.medium.message.entries) alone seen.good.system
      (distinct-at deck c.0 P (g.before c.0) (g.later c.0) (own_requests c.0 (g.later c.0)) n seen) t may
      (h c.0 n at alive)

  -- ---- its Turn
  given : Bodies (fixeds (g.later c.0)) (unseen c w.medium.message.entries)
  given = given-later w.medium c g.before (g.later c.0) P (g.whole c.0) lives g.message

  all-due : rounds P ≡ g.before c.0 ++ (g.later c.0 ++ [])
  all-due = g.whole c.0 ∙ ap (λ xs. g.before c.0 ++ xs) (sym (append-nil (g.later c.0)))

  seen-due : Seen deck c.0 P (g.before c.0) (g.later c.0 ++ []) (own_requests c.0 (g.later c.0)) n
  seen-due =
      subst (λ xs. Seen deck c.0 P (g.before c.0) xs (own_requests c.0 (g.later c.0)) n)
      (sym (append-nil (g.later c.0))) seen

  pub reads : ReadTo deck c.0 P g.history [] (g.before c.0 ++ g.later c.0) n (read_all n (g.later c.0))
  reads = reading deck c.0 P g.history [] (g.later c.0) (g.before c.0) n all-due seen-due

  pub node_is : read_entries deck n (unseen c w.medium.message.entries) ≡ read_all n (g.later c.0)
  node_is =
      read-entries deck n (g.later c.0) (unseen c w.medium.message.entries)
      (asks-behind deck (g.before c.0) (g.later c.0)
      (subst (AllAsk deck) (g.whole c.0) (asks-rounds deck P g.history.asks)))
      (all-behind (λ x. goes_round x.fixed) (g.before c.0) (g.later c.0)
      (ap (list_all (λ x. goes_round x.fixed)) (sym (g.whole c.0)) ∙ all-rounds P))
      given

  pub read-due : IsRead deck c.0 (read_all n (g.later c.0)) []
  read-due = kept-all deck c.0 P g.history [] (g.later c.0) (g.before c.0) n all-due seen-due
      (read-more deck c.0 n (still_of c.0 w.medium.message.entries) (own_requests c.0 (g.later c.0))
      (λ t home k. own-among c.0 t home (g.later c.0) (unseen c w.medium.message.entries) given k) (h c.0 n at alive))

  abbrev out : List Req
  out = take most_additions n.outbox

  abbrev entries_now : List RingEntry
  entries_now = (turned_open w.medium.message c (take most_additions n.outbox) (live w.medium) w.medium.rest).entries

  taken : take (length out) (read_all n (g.later c.0)).outbox ≡ take most_additions n.outbox
  taken = ap (take (length out)) reads.outbox ∙ take-taken most_additions n.outbox

  read-turn :
      IsRead deck c.0 (put_in (read_entries deck n (unseen c w.medium.message.entries)) (length out)).node
      (still_of c.0 entries_now)
  read-turn = subst (λ m. IsRead deck c.0 (put_in m (length out)).node (still_of c.0 entries_now)) (sym node_is)
      (read-more deck c.0 (put_in (read_all n (g.later c.0)) (length out)).node
      (take (length out) (read_all n (g.later c.0)).outbox) (still_of c.0 entries_now)
      (λ t home k.
      waits-new c (live w.medium) lives t w.medium.message.next (cleared c w.medium.message.entries) out
      (ap (λ qs. is_among t (askers qs)) (sym taken) ∙ k))
      (kept-put deck c.0 (read_all n (g.later c.0)) (length out)
      (front-all (λ q. is_home_at deck c.0 q.task) (length out) (read_all n (g.later c.0)).outbox reads.seen.homes)
      reads.seen.good.here read-due))

  -- ---- whatever came of it
  -- who is live afterwards was so before, and has still to process what it had
  others-read : (m : MediumState) (k : NodeState) →
      ((u : ℕ) → has m.removed u ≡ false
      → (has w.medium.removed u ≡ false)
      × ((t : TaskId) → u ≢ c.0 → is_among t (askers (still_of u w.medium.message.entries)) ≡ true
      → is_among t (askers (still_of u m.message.entries)) ≡ true))
      →
      (has m.removed c.0 ≡ false → IsRead deck c.0 k (still_of c.0 m.message.entries)) → (u : ℕ) (x : NodeState)
      → slice_get (set w.nodes c.0 k) u ≡ Some x → has m.removed u ≡ false
      → IsRead deck u x (still_of u m.message.entries)
  others-read m k more own =
      by_node w.nodes c.0 n k at (λ u x. has m.removed u ≡ false → IsRead deck u x (still_of u m.message.entries)) own
      (λ u x ne there l. let z = more u l in
      read-more deck u x (still_of u w.medium.message.entries) (still_of u m.message.entries) (λ t home e. z.1 t ne e)
      (h u x there z.0))

  -- the message stays, and so do those who are removed
  same-read : (flags : ℕ) (k : NodeState) → IsRead deck c.0 k (still_of c.0 w.medium.message.entries)
      → (u : ℕ) (x : NodeState) → slice_get (set w.nodes c.0 k) u ≡ Some x → has w.medium.removed u ≡ false
      → IsRead deck u x (still_of u w.medium.message.entries)
  same-read flags k own = others-read (record w.medium { rest = flags }) k (λ u l. (l, λ t ne e. e)) (λ l. own)

  -- a system is removed: the others have still to process what they had, and its removal
  module _ (target : SysId) where
    was-there : (u : ℕ) → has (with_also w.medium.removed target.0) u ≡ false
        → (u ≢ target.0) × (has w.medium.removed u ≡ false)
    was-there u l =
        let ne : u
        ≢ target.0 = λ e.
        no_truth (has (with_also w.medium.removed target.0) u)
        (ap (has (with_also w.medium.removed target.0)) e ∙ has-with_same w.medium.removed target.0) l in
        (ne, sym (has-with_other w.medium.removed target.0 u ne) ∙ l)

    dropped-on : (u : ℕ) → u ≢ target.0 → (t : TaskId)
        → is_among t (askers (still_of u w.medium.message.entries)) ≡ true
        → is_among t (askers (still_of u (without_system w.medium c target).message.entries)) ≡ true
    unfolding dropped
    dropped-on u ne t e =
        waits-elsewhere target (record { 0 = u }) ne t w.medium.message.entries
        (record {
          number = w.medium.message.next;
          from = c;
          body = Remove target;
          mask = live (without_system w.medium c target);
        }
        ∷ [])
        e

    removed-read : (u : ℕ) (x : NodeState)
        → slice_get (set w.nodes c.0 (removed_by n target).node) u ≡ Some x
        → has (with_also w.medium.removed target.0) u ≡ false
        → IsRead deck u x (still_of u (without_system w.medium c target).message.entries)
    unfolding removed_by
    removed-read =
        others-read (without_system w.medium c target) (removed_by n target).node
        (λ u l. ((was-there u l).1, λ t ne e. dropped-on u (was-there u l).0 t e))
        (λ l.
        known-read deck c.0 (desk_told n saids.VaryDone) _
        (still_of c.0 (without_system w.medium c target).message.entries)
        (read-more deck c.0 (desk_told n saids.VaryDone) (still_of c.0 w.medium.message.entries)
        (still_of c.0 (without_system w.medium c target).message.entries)
        (λ t home e. dropped-on c.0 (was-there c.0 l).0 t e)
        (desk-read deck c.0 n saids.VaryDone (still_of c.0 w.medium.message.entries) (h c.0 n at alive))))

  read-came : (o : Turnout) → CameInRing deck w c n o → o.medium.star ≡ false → AreRead deck o.medium (nodes_then w c o)
  read-came o (nothing flags) mode = same-read flags n (h c.0 n at alive)
  read-came o (went_on t may) mode =
      same-read w.medium.rest (task_step deck.limit n t (lines_of deck t)).node (goes-read t may)
  read-came o (turn flags here) mode =
      others-read (record w.medium
      { message = turned_open w.medium.message c out (live w.medium) w.medium.rest; rest = flags })
      (put_in (read_entries deck n (unseen c w.medium.message.entries)) (length out)).node
      (λ u l. (
        l,
        λ t ne k.
            waits-elsewhere c (record { 0 = u }) ne t w.medium.message.entries
            (stamped w.medium.message.next c (live w.medium) out) k,
      ))
      (λ l. read-turn)
  read-came o (changed next idle) mode = absurd (cc)
  read-came o (informed known) mode =
      same-read w.medium.rest (record n { known = known })
      (known-read deck c.0 n known (still_of c.0 w.medium.message.entries) (h c.0 n at alive))
  read-came o (removes_one target next there) mode = removed-read target
  read-came o (no_such target next gone) mode =
      same-read w.medium.rest (desk_told n saids.VaryNoSuch)
      (desk-read deck c.0 n saids.VaryNoSuch (still_of c.0 w.medium.message.entries) (h c.0 n at alive))

-- ---- the first world
first-at : (n i : ℕ) → get_or (new_tasks n) i new_task ≡ new_task
first-at zero i = refl
first-at (suc n) zero = refl
first-at (suc n) (suc i) = first-at n i

pub first-state : (deck : Deck) (s : ℕ) (t : TaskId) → state_of (first_node deck s).tasks t ≡ new_task
unfolding first_node state_of
first-state deck s t = first-at _ t.task

pub first-read : (deck : Deck) (s : ℕ) (qs : List Req) → IsRead deck s (first_node deck s) qs
unfolding first_node
first-read deck s qs = record {
  own = λ t ls ours.
      subst (λ (x : TaskState). Matches is_local [] t x.records) (sym (first-state deck s t))
      (record { same = λ r in_it. refl; told = λ r in_it own. absurd (cc) });
  shared = λ t ls ours.
      subst (λ (x : TaskState). Matches is_systems [] t x.records) (sym (first-state deck s t))
      (record { same = λ r in_it. refl; told = λ r in_it own. absurd (cc) });
  sent = λ t ls ours e.
      absurd (let f : false ≡ true = sym (ap (λ (x : TaskState). is_sent x.phase) (first-state deck s t)) ∙ e in cc);
  boxed = λ t ls ours e.
      absurd (let f : false ≡ true = sym (ap (λ (x : TaskState). is_to_send x.phase) (first-state deck s t)) ∙ e in cc);
  date = λ t ls lines here.
      subst (IsUpToDate true ls [] t) (sym (first-state deck s t))
      (record {
        closed = λ e. refl;
        wanted = tt;
        held = refl;
        coded = λ k low in_it asks. absurd (omega (arith, low, in_it));
        units = tt;
        ended = λ e. absurd (cc);
      });
}

-- ---- every list of events
pub ring_read : (deck : Deck) → (may_be_star deck ≡ true → FitsStar deck) → (es : List Event) → NoneInStar deck es
    → (run deck es).medium.star ≡ false → AllRead deck (run deck es)
ring_read deck fits = each_spared deck (λ es (w : World). w.medium.star ≡ false → AllRead deck w) begun step
  where
    begun : (first_world deck).medium.star ≡ false → AllRead deck (first_world deck)
    begun mode s n at l =
        subst (λ (k : NodeState). IsRead deck s k (still_of s (first_world deck).medium.message.entries))
        (sym (first_of deck s n at)) (first-read deck s _)

    step : (es : List Event) (e : Event) → NoneInStar deck (es ++ e ∷ [])
        → ((run deck es).medium.star ≡ false → AllRead deck (run deck es))
        → (happens deck (run deck es) e).medium.star ≡ false → AllRead deck (happens deck (run deck es) e)
    step es e none more mode = go (run deck es).medium.star refl (every_run deck fits es (none_before deck es e none))
      where
        w : World
        w = run deck es

        go : (b : Bool) → (run deck es).medium.star ≡ b → GoodRun deck es (run deck es)
            → AllRead deck (happens deck (run deck es) e)
        go true at good = absurd (let both : true ≡ false = sym (star-stays deck w e at) ∙ mode in cc)
        go false at (in_star f g told d) = absurd (let both : true ≡ false = sym g.whole.roles.mode ∙ at in cc)
        go false at (in_ring begins ring g d) =
            each_in_ring deck w e (λ x. x.medium.star ≡ false → AllRead deck x) ring (λ z. counted-read (more at))
            (λ n o there alive came z. by_placed n o there alive came z) mode
          where
            counted-read : AllRead deck (run deck es) → AllRead deck (counted (run deck es))
            counted-read k = k

            by_placed : (n : NodeState) (o : Turnout) → slice_get (run deck es).nodes e.system.0 ≡ Some n
                → has (run deck es).medium.removed e.system.0 ≡ false → CameInRing deck (run deck es) e.system n o
                → (placed (run deck es) e.system n o).medium.star ≡ false
                → AllRead deck (placed (run deck es) e.system n o)
            by_placed n o there alive came z =
                of_both w e.system n o
                (AreRead deck) (read-came deck es w ring g e.system n there alive (more at) o came
                (sym (ap (λ m. m.star) (medium-placed w e.system n o)) ∙ z))
