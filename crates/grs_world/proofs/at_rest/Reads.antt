-- What a system comes to by what it has still to process: its table goes by the table that it had, and what others
-- process of the message leaves it.
use Rattle.grs_world.proofs.Common.{[], ◌++◌, ◌==◌, ◌∙◌, ◌∷◌, ◌≡◌, ◌≢◌, after_want, AllAsk, ap, append_assoc, Bool}
use Rattle.grs_world.proofs.Common.{cleared, cond, Deck, eqb-true, false, filter, has, has-with_other}
use Rattle.grs_world.proofs.Common.{has-without_other, has-zero, is_for_all, is_home_at, is_of_deck, is_task, is_unseen}
use Rattle.grs_world.proofs.Common.{IsOurs, items, left_by, List, list_all, map, Meaning, no_truth, NodeState, None}
use Rattle.grs_world.proofs.Common.{not, own_requests, process, process_entry, read_entries, read_entry, refl, Remove}
use Rattle.grs_world.proofs.Common.{remove_state, Request, res_wanted, RingBody, RingEntry, rounds, side_of, slice_get}
use Rattle.grs_world.proofs.Common.{Some, subst, sym, SysId, TaskId, true, unseen, with_side, World, ℕ}
use Rattle.grs_known.proofs.known.Histories.{asks-front}
use Rattle.grs_world.proofs.run.Growing.{asks-rounds}
use Rattle.grs_wire.specs.Masks.{only}
use Rattle.grs_world.proofs.move.Changing.{IsChanging, view-read}
use Rattle.grs_world.proofs.move.Moved.{alive as lives-on}
use Rattle.grs_world.proofs.move.Waiting.{given, reads, whole_now}
use Rattle.grs_world.proofs.at_rest.Ring.{IsRead, kept-all}
use Rattle.grs_world.proofs.at_rest.RingPuts.{box-here}
use Rattle.grs_world.proofs.at_rest.RingRun.{read-more, still_of}
use Rattle.grs_world.proofs.at_rest.Unseen.{own-among}
use Rattle.grs_world.proofs.at_rest.View.{IsWaitingHere, read_by, system_of, waits-here}
use Rattle.grs_world.proofs.run.Reading.{read_all}
use Rattle.grs_world.proofs.system.AtNode.{Seen, opens_of}
use Rattle.grs_world.proofs.system.Puts.{home-task}

-- ---- the table
shared-entry : (deck : Deck) (n m : NodeState) (b : RingBody) → m.shared ≡ n.shared
    → (read_entry deck m b).shared ≡ (read_entry deck n b).shared
unfolding process_entry process
shared-entry deck n m (Remove target) e = ap (λ s. remove_state s target.0) e
shared-entry deck n m (Request q) e = go (is_of_deck deck q.task) (is_for_all (res_wanted q.want))
  where
    by_all : (b : Bool)
        → (cond b (process (side_of m.tasks m.shared) q) (side_of m.tasks m.shared)).shared
        ≡ (cond b (process (side_of n.tasks n.shared) q) (side_of n.tasks n.shared)).shared
    by_all true = ap (λ s. after_want s q.task q.want) e
    by_all false = e

    go : (a b : Bool)
        → (cond a (with_side m (cond b (process (side_of m.tasks m.shared) q) (side_of m.tasks m.shared))) m).shared
        ≡ (cond a (with_side n (cond b (process (side_of n.tasks n.shared) q) (side_of n.tasks n.shared))) n).shared
    go true b = by_all b
    go false b = e

pub shared-read : (deck : Deck) (es : List RingEntry) (n m : NodeState) → m.shared ≡ n.shared
    → (read_entries deck m es).shared ≡ (read_entries deck n es).shared
unfolding read_entries
shared-read deck [] n m e = e
shared-read deck (x ∷ es) n m e =
    shared-read deck es (read_entry deck n x.body) (read_entry deck m x.body) (shared-entry deck n m x.body e)

-- ---- what another system processes
pub read-cleared : (deck : Deck) (c s : SysId) → s.0 ≢ c.0 → (es : List RingEntry) (n : NodeState)
    → read_entries deck n (unseen s (cleared c es)) ≡ read_entries deck n (unseen s es)
unfolding unseen cleared read_entries
read-cleared deck c s ne [] n = refl
read-cleared deck c s ne (e ∷ es) n = go (has e.mask s.0) refl (e.mask == only c.0) refl (read-cleared deck c s ne es)
  where
    left : has (left_by c e).mask s.0 ≡ has e.mask s.0
    left = has-without_other e.mask c.0 s.0 ne

    go : (b : Bool) → has e.mask s.0 ≡ b → (d : Bool) → (e.mask == only c.0) ≡ d →
        ((m : NodeState)
        → read_entries deck m (filter (is_unseen s) (map (left_by c) (filter (λ f. not (f.mask == only c.0)) es)))
        ≡ read_entries deck m (filter (is_unseen s) es))
        →
        read_entries deck n (filter (is_unseen s) (map (left_by c)
        (cond (not d) (e ∷ filter (λ f. not (f.mask == only c.0)) es) (filter (λ f. not (f.mask == only c.0)) es))))
        ≡ read_entries deck n (cond b (e ∷ filter (is_unseen s) es) (filter (is_unseen s) es))
    go false f true g more = more n
    go false f false g more =
        ap (λ b.
        read_entries deck n (cond b
        (left_by c e ∷ filter (is_unseen s) (map (left_by c) (filter (λ i. not (i.mask == only c.0)) es)))
        (filter (is_unseen s) (map (left_by c) (filter (λ i. not (i.mask == only c.0)) es)))))
        (left ∙ f)
        ∙ more n
    go true f true g more =
        absurd (no_truth (has e.mask s.0) f
        (ap (λ m. has m s.0) (eqb-true e.mask (only c.0) g) ∙ (has-with_other 0 c.0 s.0 ne ∙ has-zero s.0)))
    go true f false g more =
        ap (λ b.
        read_entries deck n (cond b
        (left_by c e ∷ filter (is_unseen s) (map (left_by c) (filter (λ i. not (i.mask == only c.0)) es)))
        (filter (is_unseen s) (map (left_by c) (filter (λ i. not (i.mask == only c.0)) es)))))
        (left ∙ f)
        ∙ more (read_entry deck n e.body)

-- ---- a system that waits to change
module _ (deck : Deck) (w : World) (g : IsChanging deck w) (s : ℕ) (n : NodeState) (at : slice_get w.nodes s ≡ Some n)
    (alive : has w.medium.removed s ≡ false) (alone : n.star ≡ None) where
  abbrev entries : List RingEntry
  entries = w.medium.message.entries

  abbrev z : IsWaitingHere deck w g s n
  z = waits-here deck w g s n at alive alone

  whole : rounds (items w.fixed) ≡ g.before s ++ (g.due s ++ g.since)
  whole = whole_now deck w g (system_of s) n at alive z.shows z.there z.waits z.is z.empty

  read-is : read_by deck w.medium.message.entries s n ≡ read_all n (g.due s)
  read-is =
      reads deck w g (system_of s) n at alive z.shows z.there z.waits z.is z.empty
      (lives-on deck w g (system_of s) n at alive)

  pub read-seen :
      Seen deck s (items w.fixed) (g.before s ++ g.due s) g.since [] (read_by deck w.medium.message.entries s n)
  read-seen =
      subst (Seen deck s (items w.fixed) (g.before s ++ g.due s) g.since []) (sym read-is)
      (view-read deck s (items w.fixed) (g.before s) (g.due s) g.since g.whole.right whole n z.waits).seen

  -- what it has processed then is a front of what goes round
  pub read-asks : AllAsk deck (g.before s ++ g.due s)
  read-asks =
      asks-front deck (g.before s ++ g.due s) g.since
      (subst (AllAsk deck) (whole ∙ sym (append_assoc (g.before s) (g.due s) g.since))
      (asks-rounds deck (items w.fixed) g.whole.right.asks))

  pub read-box :
      list_all (λ q. is_task (read_by deck w.medium.message.entries s n).tasks q.task)
      (read_by deck w.medium.message.entries s n).outbox
      ≡ true
  read-box = box-here deck s (items w.fixed) (g.before s ++ g.due s) g.since [] (read_by deck entries s n) read-seen

  pub read-home : (t : TaskId) → is_home_at deck s t ≡ true
      → (ls : List Meaning) × IsOurs deck s (read_by deck w.medium.message.entries s n).tasks t ls
  read-home t home =
      home-task deck s (opens_of g.since [] (read_by deck entries s n)) (items w.fixed) (read_by deck entries s n).tasks
      t read-seen.good home

  -- so its records go by its table then, and nothing that it sent is outstanding
  pub read-due : IsRead deck s n (still_of s w.medium.message.entries)
      → IsRead deck s (read_by deck w.medium.message.entries s n) []
  read-due h =
      subst (λ k. IsRead deck s k [])
      (sym read-is) (kept-all deck s (items w.fixed) g.whole.right g.since (g.due s) (g.before s) n whole z.waits.seen
      (read-more deck s n (still_of s entries) (own_requests s (g.due s))
      (λ t home k.
      own-among s t home (g.due s) (unseen (system_of s) entries)
      (given deck w g (system_of s) n at alive z.shows z.there z.waits z.is z.empty
      (lives-on deck w g (system_of s) n at alive))
      k)
      h))
