-- The complex begins to change: who owns by its table was told, nobody has sent anything, and no rank is past the ENQs.
use Rattle.grs_world.proofs.Common.{[], ◌++◌, ◌<◌, ◌∙◌, ◌∷◌, ◌≡◌, ◌≤◌, AllAsk, ap, are_within, arith, awake}
use Rattle.grs_world.proofs.Common.{change_to_star, closed_by, Deck, desk_told, Event, false, first_number, fixed_by}
use Rattle.grs_world.proofs.Common.{has, has-without_other, has_res, has_task, inbox, inl, is_home_at, is_marked}
use Rattle.grs_world.proofs.Common.{is_sent, is_systems, is_task, IsOurs, items, length, List, list_all, list_of}
use Rattle.grs_world.proofs.Common.{list_of-part, lists, live, Mail, Managed, managed_at, Meaning, most_systems}
use Rattle.grs_world.proofs.Common.{no_truth, NodeState, None, only, Option, own_requests, own_words, owns}
use Rattle.grs_world.proofs.Common.{part_by_table, placed, read_entries, refl, Res, RingEntry, rounds, RunItem}
use Rattle.grs_world.proofs.Common.{same_Some, set, slice_get, slice_index_or, Some, star-changed, StarPart, state_of}
use Rattle.grs_world.proofs.Common.{subst, suc, switched, sym, SysId, table-is, TaskId, true, Turnout, unseen, without}
use Rattle.grs_world.proofs.Common.{World, ℕ}
use Rattle.grs_world.proofs.move.Begin.{front-within, more-within}
use Rattle.grs_world.proofs.move.Changing.{IsChanging}
use Rattle.grs_world.proofs.at_rest.Changed.{change-dated, change-had, change-has, change-unsent, home-ranks}
use Rattle.grs_world.proofs.at_rest.Loaded.{table-few, table-ranks}
use Rattle.grs_world.proofs.at_rest.Restful.{IsRestful, had-ring, had-star, had_in, had_of, sent-ring, sent-star}
use Rattle.grs_world.proofs.at_rest.Restful.{sent_in, sent_of}
use Rattle.grs_world.proofs.run.Placed.{by_set, by_node}
use Rattle.grs_world.proofs.at_rest.Events.{date-any}
use Rattle.grs_world.proofs.at_rest.Ring.{IsRead}
use Rattle.grs_world.proofs.at_rest.RingPuts.{box-here, desk-read}
use Rattle.grs_world.proofs.at_rest.RingRun.{AllRead, node_is, read-due, reads, still_of}
use Rattle.grs_world.proofs.at_rest.StarTasks.{IsDated}
use Rattle.grs_world.proofs.at_rest.Unseen.{requests_of}
use Rattle.grs_world.proofs.at_rest.View.{node-of, read_by, shown-star, shown-waits, shown_at, system_of}
use Rattle.grs_world.proofs.at_rest.Waiting.{desk-shared}
use Rattle.grs_world.proofs.run.Growing.{asks-rounds}
use Rattle.grs_world.proofs.run.InRing.{IsRing, live-there}
use Rattle.grs_world.proofs.run.Runs.{GoodWorld}
use Rattle.grs_world.proofs.star.Heard.{AreAddressed, IsHeard, enq_count}
use Rattle.grs_world.proofs.star.Sound.{no_mail}
use Rattle.grs_world.proofs.star.Worlds.{items-none}
use Rattle.grs_world.proofs.move.TableRanks.{table-carries, table_rank}
use Rattle.grs_world.proofs.star.Shown.{apart-lists}
use Rattle.grs_world.proofs.star.Under.{wide-entry}
use Rattle.grs_world.proofs.star.hearing.Ranks.{HaveRank}
use Rattle.grs_world.proofs.star.ranks.Carried.{CarriesRank}
use Rattle.grs_world.proofs.star.ranks.Ranked.{AreShown}
use Rattle.grs_world.proofs.system.AtNode.{Seen, opens_of}
use Rattle.grs_world.proofs.system.Desks.{desk-seen}
use Rattle.grs_world.proofs.system.Puts.{home-task}
use Rattle.grs_wire.specs.declared.told.Said.TheVariants as saids

-- System s comes to star mode from m, which has processed all that went with the message.
record IsArriving (deck : Deck) (s : ℕ) (T : List RunItem) (k m : NodeState) : Type 0 where
  pub is : k ≡ change_to_star deck m
  pub box : list_all (λ q. is_task m.tasks q.task) m.outbox ≡ true
  pub read : IsRead deck s m []
  pub system : m.tasks.system ≡ s
  pub shared : m.shared ≡ lists (rounds T)
  pub home : (t : TaskId) → is_home_at deck s t ≡ true → (ls : List Meaning) × IsOurs deck s m.tasks t ls

-- who is given nothing has nothing unseen
first-none : (es : List RingEntry) → first_number es ≡ None → es ≡ []
first-none [] h = refl
first-none (e ∷ es) h = absurd (cc)

module _ (deck : Deck) (some : 0 < deck.entries) (few : length deck.systems ≤ most_systems) (events : List Event)
    (w : World) (ring : IsRing deck w) (g : GoodWorld deck events w) (all : AllRead deck w)
    (c : SysId) (n : NodeState) (at : slice_get w.nodes c.0 ≡ Some n) (alive : has w.medium.removed c.0 ≡ false)
    (idle : first_number (unseen c w.medium.message.entries) ≡ None)
    (stays : switched deck n ≡ change_to_star deck (desk_told n saids.StarDone)) where
  abbrev es : List RingEntry
  es = w.medium.message.entries

  abbrev P : List RunItem
  P = items w.fixed

  -- ---- a system of the ring, once it has read what it has still to process
  module _ (s : ℕ) (m : NodeState) (there : slice_get w.nodes s ≡ Some m) (lives : has w.medium.removed s ≡ false) where
    table : (read_by deck w.medium.message.entries s m).shared ≡ lists (rounds P)
    table =
        ap (λ (z : NodeState). z.shared) (node_is deck events w ring g (system_of s) m there lives all)
        ∙ ((reads deck events w ring g (system_of s) m there lives all).seen.shared ∙ ap lists (sym (g.whole s)))

    seen-read : Seen deck s P (g.before s ++ g.later s) [] [] (read_by deck w.medium.message.entries s m)
    seen-read =
        subst (Seen deck s (items w.fixed) (g.before s ++ g.later s) [] [])
        (sym (node_is deck events w ring g (system_of s) m there lives all))
        (reads deck events w ring g (system_of s) m there lives all).seen

    arrives :
        IsArriving deck s P (change_to_star deck (read_by deck w.medium.message.entries s m))
        (read_by deck w.medium.message.entries s m)
    arrives = record {
      is = refl;
      box = box-here deck s P (g.before s ++ g.later s) [] [] (read_by deck es s m) seen-read;
      read =
          subst (λ z. IsRead deck s z []) (sym (node_is deck events w ring g (system_of s) m there lives all))
          (read-due deck events w ring g (system_of s) m there lives all);
      system = seen-read.good.system;
      shared = table;
      home = λ t home.
          home-task deck s (opens_of [] [] (read_by deck es s m)) P (read_by deck es s m).tasks t seen-read.good home;
    }

  -- ---- the system that orders the change
  abbrev d : NodeState
  d = desk_told n saids.StarDone

  unseen-none : unseen c w.medium.message.entries ≡ []
  unseen-none = first-none (unseen c es) idle

  d-seen : Seen deck c.0 P (g.before c.0) (g.later c.0) (own_requests c.0 (g.later c.0)) d
  d-seen =
      desk-seen deck c.0 P (g.before c.0) (g.later c.0) (own_requests c.0 (g.later c.0)) n saids.StarDone
      (g.systems c.0 n at (live-there deck w ring c.0 n at alive))

  n-read : read_by deck w.medium.message.entries c.0 n ≡ n
  unfolding read_entries
  n-read = ap (λ xs. read_entries deck n xs) unseen-none

  own-arrives : IsArriving deck c.0 P (switched deck n) d
  own-arrives = record {
    is = stays;
    box = box-here deck c.0 P (g.before c.0) (g.later c.0) (own_requests c.0 (g.later c.0)) d d-seen;
    read =
        subst (λ xs. IsRead deck c.0 d (requests_of xs)) unseen-none
        (desk-read deck c.0 n saids.StarDone (still_of c.0 es) (all c.0 n at alive));
    system = d-seen.good.system;
    shared = desk-shared n saids.StarDone ∙ (sym (ap (λ (z : NodeState). z.shared) n-read) ∙ table c.0 n at alive);
    home = λ t home.
        home-task deck c.0 (opens_of (g.later c.0) (own_requests c.0 (g.later c.0)) d) P d.tasks t d-seen.good home;
  }

  -- ---- what an arriving system shows
  module _ (s : ℕ) (k m : NodeState) (a : IsArriving deck s (items w.fixed) k m) where
    arriving-star : k.star ≡ Some (part_by_table deck.entries (system_of s) (lists (rounds P)))
    arriving-star =
        ap (λ (z : NodeState). z.star) a.is
        ∙ (star-changed deck m
        ∙ (ap (λ (i : ℕ). Some (part_by_table deck.entries (system_of i) m.shared)) a.system
        ∙ ap (λ x. Some (part_by_table deck.entries (system_of s) x)) a.shared))

    in-table : (r : Res) → is_systems r ≡ true → list_of m.shared r ≡ list_of (lists P) r
    in-table r wide = ap (λ z. list_of z r) (a.shared ∙ table-is P) ∙ list_of-part is_systems (lists P) r wide

    arriving-has : (t : TaskId) (r : Res) → is_home_at deck s t ≡ true → is_systems r ≡ true
        → has_task (list_of (lists P) r) t ≡ true → has_res r (state_of k.tasks t).records ≡ true
    arriving-has t r home wide has = let ours = a.home t home in
        ap (λ (z : NodeState). has_res r (state_of z.tasks t).records) a.is
        ∙ (change-has deck s m a.box a.read t ours.0 r ours.1 wide ∙ (ap (λ xs. has_task xs t) (in-table r wide) ∙ has))

    arriving-ranks : (p : StarPart) (e : ℕ) (x : Managed) → k.star ≡ Some p → managed_at p.manager e ≡ Some x
        → x.next ≤ suc (enq_count P)
    arriving-ranks p e x star managed =
        let asks : AllAsk deck (rounds P) = asks-rounds deck P g.history.asks in
        let within : are_within most_systems (lists (rounds P)) ≡ true =
        more-within (length deck.systems) most_systems few (lists (rounds P)) (front-within deck (rounds P) asks) in
        let same : part_by_table deck.entries (system_of s) (lists (rounds P)) ≡ p =
        same_Some _ p (sym arriving-star ∙ star) in
        let low =
        table-ranks deck.entries some (system_of s) (lists (rounds P)) within e x
        (ap (λ (q : StarPart). managed_at q.manager e) same ∙ managed) in
        let small = table-few deck P asks in
        omega (arith, low, small)

    -- each element has the table's rank on record
    arriving-ranked : (t : TaskId) (r : Res) → is_home_at deck s t ≡ true → (wide : is_systems r ≡ true)
        → has_task (list_of (lists P) r) t ≡ true →
        HaveRank r (table_rank deck.entries (lists (rounds P)) (wide-entry deck.entries r wide).0 r t)
        (state_of k.tasks t).records
    arriving-ranked t r home wide has =
        let ours = a.home t home in
        subst
        (λ z.
        HaveRank r (table_rank deck.entries z (wide-entry deck.entries r wide).0 r t) (state_of k.tasks t).records)
        a.shared
        (subst
        (λ (z : NodeState).
        HaveRank r (table_rank deck.entries m.shared (wide-entry deck.entries r wide).0 r t)
        (state_of z.tasks t).records)
        (sym a.is)
        (home-ranks deck s m a.box some few (rounds P) a.shared (asks-rounds deck P g.history.asks) a.system t ours.0
        ours.1 r wide (ap (λ xs. has_task xs t) (in-table r wide) ∙ has)))

    -- and its managers carry it
    arriving-carries : (p : StarPart) → k.star ≡ Some p → (t : TaskId) (r : Res) (wide : is_systems r ≡ true) →
        CarriesRank r t (table_rank deck.entries (lists (rounds P)) (wide-entry deck.entries r wide).0 r t) p.manager
    arriving-carries p star t r wide =
        let asks : AllAsk deck (rounds P) = asks-rounds deck P g.history.asks in
        let within : are_within most_systems (lists (rounds P)) ≡ true =
        more-within (length deck.systems) most_systems few (lists (rounds P)) (front-within deck (rounds P) asks) in
        let same : part_by_table deck.entries (system_of s) (lists (rounds P)) ≡ p =
        same_Some _ p (sym arriving-star ∙ star) in
        subst
        (λ (q : StarPart).
        CarriesRank r t (table_rank deck.entries (lists (rounds P)) (wide-entry deck.entries r wide).0 r t) q.manager)
        same
        (table-carries deck.entries some (lists (rounds P)) within r (wide-entry deck.entries r wide).0
        (wide-entry deck.entries r wide).1 (apart-lists (rounds P) r) t (system_of s))

  abbrev o : Turnout
  o = record {
    medium =
        record w.medium {
          star = true;
          words = own_words deck n;
          message = closed_by w.medium.message c (live w.medium);
          rest = awake w.medium c;
        };
    step = only (switched deck n);
  }

  abbrev k : NodeState
  k = switched deck n

  own-star : k.star ≡ Some (part_by_table deck.entries (system_of c.0) (lists (rounds P)))
  own-star = arriving-star c.0 (switched deck n) d own-arrives

  not-ring : k.star ≡ None → ⊥
  not-ring none =
      absurd (let no : Some (part_by_table deck.entries (system_of c.0) (lists (rounds P))) ≡ None =
      sym own-star ∙ none in
      cc)

  same : items (w.fixed ++ fixed_by c []) ≡ items w.fixed
  same = items-none w.fixed c

  -- each live system, as it is shown
  arrives-shown : (s : ℕ) (m : NodeState) → slice_get (set w.nodes c.0 k) s ≡ Some m → has w.medium.removed s ≡ false
      → (x : NodeState) × IsArriving deck s P (shown_at deck w.medium.message.entries s m) x
  arrives-shown =
      by_node w.nodes c.0 n k at
      (λ s m. has w.medium.removed s ≡ false → (x : NodeState) × IsArriving deck s P (shown_at deck es s m) x)
      (λ l. (d, subst (λ z. IsArriving deck c.0 P z d) (sym (shown-star deck es c.0 k _ own-star)) own-arrives))
      (λ s m ne there l. (
        read_by deck es s m,
        subst (λ z. IsArriving deck s P z (read_by deck es s m)) (sym (shown-waits deck es s m (ring.alone s m there)))
            (arrives s m there l),
      ))

  -- nothing was sent
  sent-none : (s : ℕ) (t : TaskId) → is_home_at deck s t ≡ true → sent_of (set w.nodes c.0 k) s t ≡ true → ⊥
  sent-none s t = by_set w.nodes c.0 n k at s (λ u z. is_home_at deck u t ≡ true → sent_in z t ≡ true → ⊥)
      (λ home e. let ours = own-arrives.home t home in
      no_truth (sent_in (Some k) t) e (sent-star k _ t own-star
      ∙ (ap (λ (z : NodeState). is_sent (state_of z.tasks t).phase) own-arrives.is
      ∙ change-unsent deck c.0 d own-arrives.box own-arrives.read t ours.0 ours.1)))
      (λ ne home e. by_old (slice_get w.nodes s) refl e)
    where
      by_old : (z : Option NodeState) → slice_get w.nodes s ≡ z → sent_in z t ≡ true → ⊥
      by_old None f e = absurd (cc)
      by_old (Some m) f e = no_truth (sent_in (Some m) t) e (sent-ring m t (ring.alone s m f))

  -- and each owner was told so, or its table says so
  had-all : (s : ℕ) (m : NodeState) → slice_get (set w.nodes c.0 k) s ≡ Some m → has w.medium.removed s ≡ false
      → (t : TaskId) (r : Res) → is_home_at deck s t ≡ true → is_systems r ≡ true → owns (list_of (lists P) r) t ≡ true
      → had_in deck w.medium.message.entries s (Some m) t r ≡ true
  had-all =
      by_node w.nodes c.0 n k at (λ s m.
      has w.medium.removed s ≡ false → (t : TaskId) (r : Res) → is_home_at deck s t ≡ true → is_systems r ≡ true
      → owns (list_of (lists P) r) t ≡ true → had_in deck es s (Some m) t r ≡ true)
      (λ l t r home wide own. let ours = own-arrives.home t home in
      had-star deck es c.0 k _ t r own-star
      ∙ (ap (λ (z : NodeState). is_marked r (state_of z.tasks t).records) own-arrives.is
      ∙ change-had deck c.0 d own-arrives.box own-arrives.read t ours.0 r ours.1 wide
      (ap (λ xs. owns xs t) (in-table c.0 k d own-arrives r wide) ∙ own)))
      (λ s m ne there l t r home wide own.
      had-ring deck es s m t r (ring.alone s m there)
      ∙ (ap (λ xs. owns xs t) (in-table s _ (read_by deck es s m) (arrives s m there l) r wide) ∙ own))

  no_box : (s : ℕ) → inbox w.medium s ≡ []
  no_box s = ap (λ (xs : List (List Mail)). slice_index_or xs s []) ring.boxes ∙ no_mail (length deck.systems) s

  heard-begun :
      (g' :
      IsChanging deck (placed w c n (record {
        medium =
            record w.medium {
              star = true;
              words = own_words deck n;
              message = closed_by w.medium.message c (live w.medium);
              rest = awake w.medium c;
            };
        step = only k;
      })))
      → IsHeard deck (record (placed w c n (record {
        medium =
            record w.medium {
              star = true;
              words = own_words deck n;
              message = closed_by w.medium.message c (live w.medium);
              rest = awake w.medium c;
            };
        step = only k;
      }))
      { nodes = g'.view })
      (sent_of (set w.nodes c.0 k)) (had_of deck w.medium.message.entries (set w.nodes c.0 k))
  unfolding placed closed_by
  heard-begun g' = record {
    requests = λ s x t v home e. absurd (sent-none s t home e);
    owners = λ s x t r v home wide own. let z = node-of deck (placed w c n o) g' s x v.at v.live in
        inl (ap (λ y. had_in deck es s y t r) z.1
        ∙ had-all s z.0 z.1 v.live t r home wide (ap (λ U. owns (list_of (lists U) r) t) (sym same) ∙ own));
    recorded = λ s x t r v home wide has_it. let z = node-of deck (placed w c n o) g' s x v.at v.live in
        let a = arrives-shown s z.0 z.1 v.live in
        inl (arriving-has s x a.0 (subst (λ y. IsArriving deck s P y a.0) (sym z.2) a.1) t r home wide
        (ap (λ U. has_task (list_of (lists U) r) t) (sym same) ∙ has_it));
    mails = λ s. subst (AreAddressed deck) (sym (no_box s)) tt;
    ranks = λ s x p e y v star managed. let z = node-of deck (placed w c n o) g' s x v.at v.live in
        let a = arrives-shown s z.0 z.1 v.live in
        subst (λ U. y.next ≤ suc (enq_count U)) (sym same)
        (arriving-ranks s x a.0 (subst (λ q. IsArriving deck s P q a.0) (sym z.2) a.1) p e y star managed);
  }

  ranked-begun :
      (g' :
      IsChanging deck (placed w c n (record {
        medium =
            record w.medium {
              star = true;
              words = own_words deck n;
              message = closed_by w.medium.message c (live w.medium);
              rest = awake w.medium c;
            };
        step = only k;
      })))
      → AreShown deck (record (placed w c n (record {
        medium =
            record w.medium {
              star = true;
              words = own_words deck n;
              message = closed_by w.medium.message c (live w.medium);
              rest = awake w.medium c;
            };
        step = only k;
      }))
      { nodes = g'.view })
  unfolding placed closed_by
  ranked-begun g' s x t r v home wide stands =
      let z = node-of deck (placed w c n o) g' s x v.at v.live in
      let a = arrives-shown s z.0 z.1 v.live in
      let arriving : IsArriving deck s P x a.0 = subst (λ y. IsArriving deck s P y a.0) (sym z.2) a.1 in
      let before : has_task (list_of (lists P) r) t ≡ true =
      ap (λ U. has_task (list_of (lists U) r) t) (sym same) ∙ stands in
      record {
        rank = table_rank deck.entries (lists (rounds P)) (wide-entry deck.entries r wide).0 r t;
        shown = record {
          ranked = arriving-ranked s x a.0 arriving t r home wide before;
          comes = λ none.
              no_truth (has_res r (state_of x.tasks t).records) (arriving-has s x a.0 arriving t r home wide before)
              none;
        };
        carried = λ m y p there star.
            let zm = node-of deck (placed w c n o) g' m y there.at there.live in
            let am = arrives-shown m zm.0 zm.1 there.live in
            arriving-carries m y am.0 (subst (λ q. IsArriving deck m P q am.0) (sym zm.2) am.1) p star t r wide;
      }

  pub restful-begun :
      IsRestful deck (placed w c n (record {
        medium =
            record w.medium {
              star = true;
              words = own_words deck n;
              message = closed_by w.medium.message c (live w.medium);
              rest = awake w.medium c;
            };
        step = only k;
      }))
  unfolding placed closed_by
  restful-begun = record {
    dated =
        by_node w.nodes c.0 n k at (λ u z. has w.medium.removed u ≡ false → IsDated deck u z)
        (λ l. subst (IsDated deck c.0) (sym own-arrives.is) (change-dated deck c.0 d own-arrives.box own-arrives.read))
        (λ u z ne f l. record { date = date-any true deck z.tasks (all u z f l).date; own = (all u z f l).own });
    still =
        by_node w.nodes c.0 n k at
        (λ u z. has w.medium.removed u ≡ false → z.star ≡ None → has (without (live w.medium) c.0) u ≡ true)
        (λ l none. absurd (not-ring none))
        (λ u z ne f l none. has-without_other (live w.medium) c.0 u ne ∙ live-there deck w ring u z f l);
    read =
        by_node w.nodes c.0 n k at
        (λ u z. has w.medium.removed u ≡ false → z.star ≡ None → IsRead deck u z (still_of u es))
        (λ l none. absurd (not-ring none)) (λ u z ne f l none. all u z f l);
    heard = heard-begun;
    ranked = ranked-begun;
  }
