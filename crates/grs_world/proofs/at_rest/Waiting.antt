-- An event of a system that waits to change to star mode leaves what rests.
use Rattle.grs_world.proofs.Common.{[], ◌++◌, ◌+◌, ◌<◌, ◌∙◌, ◌∷◌, ◌≡◌, ◌≤◌, after_fixed, ap, arith, Deck, desk_told}
use Rattle.grs_world.proofs.Common.{false, Fixed, fixed_by, goes_round, has, is_systems, items, length, lines_of, List}
use Rattle.grs_world.proofs.Common.{list_of, lists, lists-push, made_item, may_go, most_systems, NodeState, None, only}
use Rattle.grs_world.proofs.Common.{own_requests, placed, refl, Res, RunItem, Said, slice_get, Some, State, stays-task}
use Rattle.grs_world.proofs.Common.{subst, sym, SysId, task_step, TaskId, true, Turnout, World, ℕ}
use Rattle.grs_node.proofs.Keeping.{Stays}
use Rattle.grs_wire.proofs.WantLaws.{list_of-want_other}
use Rattle.grs_world.proofs.move.Changing.{IsChanging}
use Rattle.grs_world.proofs.move.Late.{CameLate, desk_late, nothing_late, task_late, turn_late, informed_late}
use Rattle.grs_world.proofs.move.Late.{vary_late}
use Rattle.grs_world.proofs.at_rest.Restful.{IsRestful}
use Rattle.grs_world.proofs.at_rest.RestfulLate.{restful-turned, restful-waits}
use Rattle.grs_world.proofs.at_rest.Events.{date-any}
use Rattle.grs_world.proofs.at_rest.Ring.{IsRead, distinct-at}
use Rattle.grs_world.proofs.at_rest.RingPuts.{desk-read, known-read}
use Rattle.grs_world.proofs.at_rest.RingRun.{still_of}
use Rattle.grs_world.proofs.at_rest.Tasks.{read-task}
use Rattle.grs_world.proofs.at_rest.View.{IsWaitingHere, shown_at, view-of, waits-here}
use Rattle.grs_world.proofs.star.Heard.{enq_count}
use Rattle.grs_world.proofs.star.Worlds.{items-none, items-one}
use Rattle.grs_world.proofs.star.hearing.Passing.{enq_count-grown}
use Rattle.grs_world.proofs.star.hearing.Quiet.{other-kind}
use Rattle.grs_world.proofs.system.AtNode.{QuietStep, Seen, fixes, keeps}
use Rattle.grs_world.proofs.system.Quiet.{quiet}
use Rattle.grs_world.proofs.run.Site.{at_site}
use Rattle.grs_wire.specs.declared.request.Fixed.TheVariants as fixing
use Rattle.grs_wire.specs.declared.told.Said.TheVariants as saids

-- ---- its desk is told
pub desk-shared : (n : NodeState) (said : Said) → (desk_told n said).shared ≡ n.shared
unfolding desk_told
desk-shared n said = refl

desk-star : (n : NodeState) (said : Said) → (desk_told n said).star ≡ n.star
unfolding desk_told
desk-star n said = refl

module _ (deck : Deck) (w : World) (g : IsChanging deck w) (h : IsRestful deck w) (c : SysId) (n : NodeState)
    (at : slice_get w.nodes c.0 ≡ Some n) (alive : has w.medium.removed c.0 ≡ false) (some : 0 < deck.entries)
    (few : length deck.systems ≤ most_systems) (alone : n.star ≡ None) where
  abbrev T : List RunItem
  T = items w.fixed

  abbrev rd : IsRead deck c.0 n (still_of c.0 w.medium.message.entries)
  rd = h.read c.0 n at alive alone

  abbrev z : IsWaitingHere deck w g c.0 n
  z = waits-here deck w g c.0 n at alive alone

  seen : Seen deck c.0 T (g.before c.0) (g.due c.0 ++ g.since) (own_requests c.0 (g.due c.0)) n
  seen = z.waits.seen

  -- nothing is fixed, and the system stands as k
  still-restful : (k : NodeState) (flags : ℕ) (fs : List Fixed) → fs ≡ [] → k.star ≡ None → k.shared ≡ n.shared
      → IsRead deck c.0 k (still_of c.0 w.medium.message.entries)
      → IsRestful deck
      (placed w c n (record { medium = record w.medium { rest = flags }; step = record { node = k; fixed = fs } }))
  still-restful k flags fs none free table rk =
      let same : items (w.fixed ++ fixed_by c fs) ≡ items w.fixed =
      ap (λ zs. items (w.fixed ++ fixed_by c zs)) none ∙ items-none w.fixed c in
      restful-waits deck w g h c n at alive some few alone k fs flags free table
      (record { date = date-any true deck _ rk.date; own = rk.own }) rk
      (λ r wide. ap (λ U. list_of (lists U) r) same)
      (subst (λ U. enq_count (items w.fixed) ≤ enq_count U) (sym same) (omega arith))

  -- ---- a task goes on
  task-restful : (t : TaskId) → may_go deck n t ≡ true
      → IsRestful deck (placed w c n (record { medium = w.medium; step = task_step deck.limit n t (lines_of deck t) }))
  task-restful t may =
      by_step (quiet deck c.0 c T (g.before c.0) (g.due c.0 ++ g.since) (own_requests c.0 (g.due c.0)) n t
      g.whole.right seen may)
    where
      kept : Stays n (task_step deck.limit n t (lines_of deck t)).node
      kept = stays-task deck.limit n t (lines_of deck t)

      rk : IsRead deck c.0 (task_step deck.limit n t (lines_of deck t)).node (still_of c.0 w.medium.message.entries)
      rk =
          read-task deck c.0 n (still_of c.0 w.medium.message.entries) alone seen.good.system
          (distinct-at deck c.0 T (g.before c.0) (g.due c.0 ++ g.since) (own_requests c.0 (g.due c.0)) n seen) t may rd

      -- what doesn't go with the message leaves the resources of the whole complex
      elsewhere : (s : State) (r : Res) → is_systems r ≡ true → (f : Fixed) → goes_round f ≡ false
          → list_of (after_fixed s f) r ≡ list_of s r
      elsewhere s r wide (fixing.Asked q) away =
          list_of-want_other s q.task q.want r (other-kind deck (record w { nodes = g.view }) g.whole c
          (shown_at deck w.medium.message.entries c.0 n) (at_site (view-of deck w g c.0 n at alive) alive) q.want r wide
          away)
      elsewhere s r wide (fixing.LocalLook u filter) away = refl
      elsewhere s r wide (fixing.Purged target) away = absurd (cc)

      by_step :
          QuietStep deck c.0 c T (g.before c.0) (g.due c.0 ++ g.since) (own_requests c.0 (g.due c.0)) n
          (task_step deck.limit n t (lines_of deck t))
          → IsRestful deck
          (placed w c n (record { medium = w.medium; step = task_step deck.limit n t (lines_of deck t) }))
      by_step (keeps none then told) =
          still-restful (task_step deck.limit n t (lines_of deck t)).node w.medium.rest
          (task_step deck.limit n t (lines_of deck t)).fixed none (kept.star ∙ alone) (then.shared ∙ sym seen.shared) rk
      by_step (fixes f one away follow then told) =
          let item : RunItem = made_item c T f in
          let same : items (w.fixed ++ fixed_by c (task_step deck.limit n t (lines_of deck t)).fixed) ≡ T ++ item ∷ [] =
          ap (λ zs. items (w.fixed ++ fixed_by c zs)) one ∙ items-one w.fixed c f in
          restful-waits deck w g h c n at alive some few alone (task_step deck.limit n t (lines_of deck t)).node
          (task_step deck.limit n t (lines_of deck t)).fixed w.medium.rest (kept.star ∙ alone)
          (then.shared ∙ sym seen.shared) (record { date = date-any true deck _ rk.date; own = rk.own }) rk
          (λ r wide.
          ap (λ U. list_of (lists U) r) same
          ∙ (ap (λ s. list_of s r) (lists-push T item) ∙ elsewhere (lists T) r wide f away))
          (subst (λ U. enq_count (items w.fixed) ≤ enq_count U) (sym same)
          (enq_count-grown (items w.fixed) (item ∷ [])))

  -- its desk is told
  desk-restful : (said : Said)
      → IsRestful deck (placed w c n (record { medium = w.medium; step = only (desk_told n said) }))
  desk-restful said =
      still-restful (desk_told n said) w.medium.rest [] refl (desk-star n said ∙ alone) (desk-shared n said)
      (desk-read deck c.0 n said (still_of c.0 w.medium.message.entries) rd)

  -- whatever came of it
  pub restful-late : (o : Turnout) → CameLate deck w c n o → IsRestful deck (placed w c n o)
  restful-late o (nothing_late flags) = still-restful n flags [] refl alone refl rd
  restful-late o (task_late t may) = task-restful t may
  restful-late o (turn_late flags here) = restful-turned deck w g h c n at alive some few alone flags
  restful-late o (desk_late next) = desk-restful saids.StarAlready
  restful-late o (vary_late target next gone) = desk-restful saids.VaryNoSuch
  restful-late o (informed_late known) =
      still-restful (record n { known = known }) w.medium.rest [] refl alone refl
      (known-read deck c.0 n known (still_of c.0 w.medium.message.entries) rd)
