-- In a star that loses nobody the live systems show together what the history says: once each has taken the mail of its
-- inbox, what their tasks have on record of a resource is, by its ranks, the list of the resource.
use Rattle.grs_world.proofs.Common.{[], ◌+◌, ◌<◌, ◌==◌, ◌||◌, ◌∙◌, ◌∷◌, ◌≡◌, and_from, and_parts, ap, Bool, Deck, Elem}
use Rattle.grs_world.proofs.Common.{entry_of_res, eq-eqb, eqb-true, false, filter, first_node, get_or, has, has_res}
use Rattle.grs_world.proofs.Common.{has_task, inbox, is_among, is_home_at, is_interested, is_res_of, is_some}
use Rattle.grs_world.proofs.Common.{is_systems, IsHistory, items, items_of, kept_for, length, lines_of, List, list_all}
use Rattle.grs_world.proofs.Common.{list_of, lists, ltb-true, Managed, managed_at, manager_at, map, names_of, nat_lt}
use Rattle.grs_world.proofs.Common.{new_task, no_truth, NodeState, None, Option, option_map_or, or_left, or_right}
use Rattle.grs_world.proofs.Common.{outstanding, past_of, plain, Ranked, Rec, record_of, refl, Res, RunItem, same_res}
use Rattle.grs_world.proofs.Common.{same_Some, same_task, same_task-itself, slice_get, slice_get-get_or, Some}
use Rattle.grs_world.proofs.Common.{speaks-known, StarPart, state_of, subst, sym, SysId, TaskId, TaskState, true, World}
use Rattle.grs_world.proofs.Common.{ℕ}
use Rattle.std.specs.List.Sorted.{IsPermutation}
use Rattle.std.proofs.lemmas.List.Sorted.{IsPermutation-sym}
use Rattle.contention_mgr.specs.Installs.{elem_of}
use Rattle.contention_mgr.specs.Laws.{AreWellKept}
use Rattle.grs_known.proofs.known.Following.{has-known}
use Rattle.grs_known.proofs.known.Histories.{has-may, replayed}
use Rattle.grs_known.proofs.known.Knowing.{one-none}
use Rattle.grs_known.proofs.system.Asking.{records-unasked}
use Rattle.grs_known.proofs.tasks.Invariant.{key}
use Rattle.grs_known.proofs.tasks.Keys.{has_res-own}
use Rattle.grs_known.specs.Past.{own_elements, Speaks}
use Rattle.grs_known.specs.Items.{history}
use Rattle.grs_legal.specs.Asks.{Script, scripts_of}
use Rattle.grs_node.proofs.Orderly.{all-at}
use Rattle.lock_structure.specs.RankedRows.{rises}
use Rattle.system_purge.specs.Gather.{by_rank, ranks}
use Rattle.grs_world.proofs.shown.ByTask.{by-tasks, of_task, of_tasks}
use Rattle.grs_world.proofs.shown.CaughtUp.{Caught}
use Rattle.grs_world.proofs.shown.Names.{home-named, live-apart, live-named, live_names, named-home, task_at, zero_plus}
use Rattle.grs_world.proofs.shown.OnRecord.{HasOwn, HaveThese, keys-listed, own_recs, recs-ranked, shown-have}
use Rattle.grs_world.proofs.shown.OnRecord.{system-has}
use Rattle.grs_world.proofs.shown.Rising.{each-on, EachOn, ranks-on, rises-on}
use Rattle.grs_world.proofs.shown.Sorted.{by_rank-is, ranks-are}
use Rattle.grs_world.proofs.shown.Together.{caught, its-record}
use Rattle.grs_world.proofs.run.Site.{Site, at_site}
use Rattle.grs_world.proofs.star.Elements.{near-has}
use Rattle.grs_world.proofs.star.Heard.{IsHeard, sent_by}
use Rattle.grs_world.proofs.star.Members.{IsMember, all_lists, has_manager, manager-here}
use Rattle.grs_world.proofs.star.Systems.{here, near_at}
use Rattle.grs_world.proofs.star.Under.{entry-same, in_entry, list-under, under, wide-entry}
use Rattle.grs_world.proofs.star.Worlds.{IsWhole, are_live, live-below, live-site, manager-live}
use Rattle.grs_world.proofs.star.hearing.Ranks.{HaveRank, rank-none}
use Rattle.grs_world.proofs.star.ranks.Carried.{CarriesRank, all_at, has_this_rank}
use Rattle.grs_world.proofs.star.ranks.Ranked.{AreShown, HasShown}
use Rattle.grs_world.specs.Kept.{caught_up, managed_ranks, on_record, once_changed, shown_from, taking}

-- ---- one task of a system that knows all
module _ (deck : Deck) (words : List ℕ) (T : List RunItem) (right : IsHistory deck T) (s : ℕ) (n : NodeState)
    (c : Caught deck words T right s n) (t : TaskId) (home : is_home_at deck s t ≡ true) where
  abbrev own_records : List Rec
  own_records = (state_of n.tasks t).records

  nothing-out : outstanding t (here deck s T c.later c.out n (c.system).at t home).known T ≡ None
  nothing-out =
      one-none (outstanding t (here deck s T c.later c.out n (c.system).at t home).known T)
      (sym (c.idle t home) ∙ (here deck s T c.later c.out n (c.system).at t home).due)

  speaks : Speaks deck.limit t (past_of t (here deck s T c.later c.out n (c.system).at t home).known T) (history T)
  speaks =
      let k = here deck s T c.later c.out n (c.system).at t home in
      speaks-known deck T t k.known right (k.knows).live (k.knows).right nothing-out

  past-keys : map key own_records ≡ (past_of t (here deck s T c.later c.out n (c.system).at t home).known T).own
  past-keys =
      ap (λ (xs : List Rec). map key xs) (sym (records-unasked (state_of n.tasks t)))
      ∙ ((here deck s T c.later c.out n (c.system).at t home).task).keys

  -- its records are its elements of the lists
  own-keys : map key own_records ≡ own_elements (lists T) t
  own-keys = past-keys ∙ (sym speaks.own ∙ ap (λ z. own_elements z t) (sym (replayed deck T right)))

  none-recorded : (r : Res) → has_task (list_of (lists T) r) t ≡ false → has_res r own_records ≡ false
  none-recorded r none =
      let k = here deck s T c.later c.out n (c.system).at t home in
      has_res-own r own_records (past_of t k.known T).own past-keys
      ∙ (sym (has-known deck T right t (past_of t k.known T) speaks r) ∙ none)

-- ---- lists
pub each-task : (p : TaskId → Bool) (xs : List Elem) → ((t : TaskId) → has_task xs t ≡ true → p t ≡ true)
    → list_all (λ x. p x.task) xs ≡ true
each-task p [] h = refl
each-task p (x ∷ xs) h =
    and_from (p x.task) (list_all (λ y. p y.task) xs)
    (h x.task (or_left (same_task x.task x.task) (has_task xs x.task) (same_task-itself x.task)))
    (each-task p xs (λ t stands. h t (or_right (same_task t x.task) (has_task xs t) stands)))

-- ---- a world in star mode that loses nobody
module _ (deck : Deck) (w : World) (g : IsWhole deck w) (sent : ℕ → TaskId → Bool) (had : ℕ → TaskId → Res → Bool)
    (h : IsHeard deck w sent had) (ranked : AreShown deck w)
    (is : (s : ℕ) (n : NodeState) (t : TaskId) → Site w s n → is_home_at deck s t ≡ true → sent_by n t ≡ true
    → sent s t ≡ true)
    (r : Res)
    (wide : is_systems r ≡ true) where
  abbrev pub listed : List Elem
  listed = list_of (all_lists w) r

  abbrev pub later_of : ℕ → NodeState → NodeState
  later_of s n = taking deck n (inbox w.medium s)

  -- the rank that a task shows
  abbrev pub rank_in : ℕ → TaskId → Option NodeState → ℕ
  rank_in s t None = 0
  rank_in s t (Some n) =
      option_map_or (λ (y : Rec). y.rank) (record_of (state_of (later_of s n).tasks t).records r) 0

  abbrev pub rank_of : TaskId → ℕ
  rank_of t = rank_in t.system.0 t (slice_get w.nodes t.system.0)

  -- ---- one system
  module _ (s : ℕ) (n : NodeState) (at : Site w s n) where
    abbrev me : IsMember deck w.medium.words (all_lists w) s n
    me = g.roles.node s n at

    was-sent : (t : TaskId) → is_home_at deck s t ≡ true → sent_by n t ≡ true → sent s t ≡ true
    was-sent t home e = is s n t at home e

    pub all-taken : Caught deck w.medium.words (items w.fixed) g.right s (later_of s n)
    all-taken = (caught deck w g sent had h s n at was-sent me.part me.star).0

    rank-is : (t : TaskId) (home : is_home_at deck s t ≡ true) (stands : has_task listed t ≡ true)
        → rank_of t ≡ (ranked s n t r at home wide stands).rank
    rank-is t home stands =
        let z = its-record deck w g sent had h s n at was-sent ranked me.part me.star t r home wide stands in
        let sys : t.system.0 ≡ s =
        eqb-true t.system.0 s (and_parts (t.system.0 == s) (is_some (lines_of deck t)) home).0 in
        ap (λ i. rank_in i t (slice_get w.nodes i)) sys
        ∙ (ap (rank_in s t) at.at
        ∙ (ap (λ (o : Option Rec). option_map_or (λ (y : Rec). y.rank) o 0) z.1 ∙ z.2))

    pub own-elems : (t : TaskId) → is_home_at deck s t ≡ true →
        map elem_of (own_recs r t (state_of (later_of s n).tasks t).records) ≡ of_task t listed
    own-elems t home =
        keys-listed r t (all_lists w) (state_of (later_of s n).tasks t).records
        (own-keys deck w.medium.words (items w.fixed) g.right s (later_of s n) all-taken t home)

    pub own-rank : (t : TaskId) → is_home_at deck s t ≡ true
        → HaveRank r (rank_of t) (state_of (later_of s n).tasks t).records
    own-rank t home = go (has_task listed t) refl
      where
        go : (b : Bool) → has_task listed t ≡ b
            → HaveRank r (rank_of t) (state_of (later_of s n).tasks t).records
        go true stands =
            let k : HasShown w s n t r = ranked s n t r at home wide stands in
            subst (λ i. HaveRank r i (state_of (later_of s n).tasks t).records) (sym (rank-is t home stands))
            ((caught deck w g sent had h s n at was-sent me.part me.star).1 t r k.rank home wide stands k.shown).ranked
        go false none =
            rank-none r (rank_of t) (state_of (later_of s n).tasks t).records
            (none-recorded deck w.medium.words (items w.fixed) g.right s (later_of s n) all-taken t home r none)

    own : (t : TaskId) → is_home_at deck s t ≡ true
        → HasOwn r rank_of listed t (state_of (later_of s n).tasks t).records
    own t home = record {
      elems = own-elems t home;
      ranked = recs-ranked r rank_of t (state_of (later_of s n).tasks t).records (own-rank t home);
    }

    -- it shows just what its tasks have in the list
    has-these : HaveThese r rank_of listed (names_of deck s) (on_record deck (later_of s n) r)
    unfolding state_of
    has-these =
        system-has r rank_of listed deck s (later_of s n) (scripts_of deck s)
        (ap (names_of deck) ((all-taken.system).at.good).system) each
      where
        each : (k : ℕ) (x : Script) → slice_get (scripts_of deck s) k ≡ Some x →
            (y : TaskState) × (slice_get (later_of s n).tasks.tasks k ≡ Some y)
            × HasOwn r rank_of listed (task_at s x.job (0 + k)) y.records
        each k x found =
            let home : is_home_at deck s (task_at s x.job k) ≡ true = named-home deck s k x found in
            let inside =
            and_parts ((later_of s n).tasks.system == s) (nat_lt k (length (later_of s n).tasks.tasks))
            (((all-taken.system).at.good).here (task_at s x.job k) home) in (
              state_of (later_of s n).tasks (task_at s x.job k),
              slice_get-get_or (later_of s n).tasks.tasks k new_task
                  (ltb-true k (length (later_of s n).tasks.tasks) inside.1),
              subst
                  (λ i.
                  HasOwn r rank_of listed (task_at s x.job i)
                  (state_of (later_of s n).tasks (task_at s x.job k)).records)
                  (sym (zero_plus k)) (own (task_at s x.job k) home),
            )

  -- ---- who has an element
  pub entry : (e : ℕ) × (entry_of_res deck.entries r ≡ Some e)
  entry = wide-entry deck.entries r wide

  -- is of a live system, and at home there
  pub interested : (t : TaskId) → has_task listed t ≡ true → is_interested w.medium.words entry.0 t.system.0 ≡ true
  interested t stands =
      ap (near_at w.medium.words t.system.0) (sym entry.1)
      ∙ near-has deck w.medium.words (all_lists w) r t g.near stands

  pub element-live : (t : TaskId) → has_task listed t ≡ true → are_live w t.system.0 ≡ true
  element-live t stands = go (are_live w t.system.0) refl
    where
      go : (b : Bool) → are_live w t.system.0 ≡ b → b ≡ true
      go true e = refl
      go false e =
          no_truth (is_interested w.medium.words entry.0 t.system.0) (interested t stands)
          (g.roles.nobody entry.0 t.system.0 e).0

  pub element-home : (t : TaskId) → has_task listed t ≡ true → is_home_at deck t.system.0 t ≡ true
  element-home t stands =
      and_from (t.system.0 == t.system.0) (is_some (lines_of deck t)) (eq-eqb t.system.0 t.system.0 refl)
      (and_parts (is_some (lines_of deck t)) (is_systems r || is_res_of t.system.0 r)
      (has-may deck (items w.fixed) r t (g.right).asks stands)).0

  -- ---- ranks rise
  -- a manager carries of each element the rank that it shows
  carried : (m : ℕ) (k : NodeState) (p : StarPart) → Site w m k → k.star ≡ Some p → (t : TaskId)
      → has_task listed t ≡ true → CarriesRank r t (rank_of t) p.manager
  carried m k p there star t stands =
      let n : NodeState = get_or w.nodes t.system.0 k in
      let at : Site w t.system.0 n = live-site w t.system.0 k (element-live t stands) in
      let home = element-home t stands in
      subst (λ i. CarriesRank r t i p.manager) (sym (rank-is t.system.0 n at t home stands))
      ((ranked t.system.0 n t r at home wide stands).carried m k p there star)

  of_entry : in_entry deck.entries entry.0 r ≡ true
  of_entry = entry-same entry.0 (entry_of_res deck.entries r) entry.1

  pub same-under : list_of (under deck.entries entry.0 (all_lists w)) r ≡ listed
  same-under = list-under deck.entries entry.0 (all_lists w) r of_entry

  -- it keeps its elements with these ranks
  each-kept : (p : StarPart) → ((t : TaskId) → has_task listed t ≡ true → CarriesRank r t (rank_of t) p.manager)
      → (o : Option Managed) → managed_at p.manager entry.0 ≡ o → list_of (plain (items_of o)) r ≡ listed
      → EachOn r rank_of (items_of o)
  each-kept p carries None found same = tt
  each-kept p carries (Some m) found same =
      each-on r rank_of m.items (λ t stands.
      subst (λ (o : Option Managed). all_at (has_this_rank r t (rank_of t)) o ≡ true) found
      (all-at (all_at (has_this_rank r t (rank_of t))) p.manager.entries entry.0
      (carries t (ap (λ xs. has_task xs t) (sym same) ∙ stands)) refl))

  -- who manages the entry has the list
  has-list : (m : ℕ) (n : NodeState) (at : Site w m n) → has_manager w.medium.words entry.0 m ≡ true →
      list_of (plain (items_of (managed_at ((g.roles.node m n at).part).manager entry.0))) r ≡ listed
  has-list m n at manages_it =
      let k : IsMember deck w.medium.words (all_lists w) m n = g.roles.node m n at in
      (k.fits.lists entry.0 (k.fits.roles entry.0 ∙ manages_it)).lists r ∙ same-under

  pub ranks-kept : (m : ℕ) (n : NodeState) (p : StarPart) → Site w m n → n.star ≡ Some p
      → has_manager w.medium.words entry.0 m ≡ true
      → managed_ranks p r ≡ map (λ (x : Elem). rank_of x.task) listed
  ranks-kept m n p at star manages_it =
      let k : IsMember deck w.medium.words (all_lists w) m n = g.roles.node m n at in
      ap (λ (q : StarPart). managed_ranks q r) (same_Some p k.part (sym star ∙ k.star))
      ∙ (ap (λ i. ranks_in (kept_for k.part.manager.entries (entry_of_res i r))) k.fits.entries
      ∙ (ap (λ o. ranks_in (kept_for k.part.manager.entries o)) entry.1
      ∙ (ranks-on r rank_of (items_of (managed_at k.part.manager entry.0))
      (each-kept k.part (λ t stands. carried m n k.part at k.star t stands) (managed_at k.part.manager entry.0) refl
      (has-list m n at manages_it))
      ∙ ap (λ (xs : List Elem). map (λ (x : Elem). rank_of x.task) xs) (has-list m n at manages_it))))
    where
      ranks_in : Option Managed → List ℕ
      ranks_in o = map (λ (x : Ranked). x.rank) (filter (λ (x : Ranked). same_res r x.res) (items_of o))

  pub rising : rises (map (λ (x : Elem). rank_of x.task) listed) ≡ true
  rising = by-word (manager_at w.medium.words entry.0) refl
    where
      by-items : (p : StarPart) → ((t : TaskId) → has_task listed t ≡ true → CarriesRank r t (rank_of t) p.manager)
          → AreWellKept p.manager → (o : Option Managed) → managed_at p.manager entry.0 ≡ o
          → list_of (plain (items_of o)) r ≡ listed → rises (map (λ (x : Elem). rank_of x.task) listed) ≡ true
      by-items p carries well None found same =
          subst (λ (xs : List Elem). rises (map (λ (x : Elem). rank_of x.task) xs) ≡ true) same refl
      by-items p carries well (Some m) found same =
          subst (λ (xs : List Elem). rises (map (λ (x : Elem). rank_of x.task) xs) ≡ true) same
          (rises-on r rank_of m.items ((well entry.0 m found).ranked).rising
          (each-kept p carries (Some m) found same))

      by-manager : (m : SysId) → manager_at w.medium.words entry.0 ≡ Some m
          → rises (map (λ (x : Elem). rank_of x.task) listed) ≡ true
      by-manager m managed =
          let manages_it = manager-here w.medium.words entry.0 m managed in
          let live = manager-live deck w g.roles entry.0 m.0 manages_it in
          let n : NodeState = get_or w.nodes m.0 (first_node deck 0) in
          let at : Site w m.0 n = live-site w m.0 (first_node deck 0) live in
          let k : IsMember deck w.medium.words (all_lists w) m.0 n = g.roles.node m.0 n at in
          by-items k.part (λ t stands. carried m.0 n k.part at k.star t stands) k.fits.well
          (managed_at (k.part).manager entry.0) refl (has-list m.0 n at manages_it)

      by-word : (o : Option SysId) → manager_at w.medium.words entry.0 ≡ o
          → rises (map (λ (x : Elem). rank_of x.task) listed) ≡ true
      by-word None none =
          subst (λ (xs : List Elem). rises (map (λ (x : Elem). rank_of x.task) xs) ≡ true)
          (ap (λ z. list_of z r) (sym (g.roles.free entry.0 none)) ∙ same-under) refl
      by-word (Some m) managed = by-manager m managed

  -- ---- So together, as these systems once they have changed are the live ones.
  module _ (ns : List NodeState)
      (same : (s : ℕ) (n : NodeState) → slice_get ns s ≡ Some n → has w.medium.removed s ≡ false →
      (k : NodeState) × (slice_get w.nodes s ≡ Some k) × (k ≡ once_changed deck w (record { 0 = s }) n n.star))
      (count : length ns ≡ length w.nodes) where
    abbrev names : List TaskId
    names = live_names deck w.medium.removed 0 ns

    shown-these : HaveThese r rank_of listed names (shown_from deck w r 0 ns)
    shown-these = shown-have r rank_of listed deck w 0 ns each
      where
        one-shown : (s : ℕ) (n : NodeState) → slice_get ns s ≡ Some n → has w.medium.removed s ≡ false
            → HaveThese r rank_of listed (names_of deck s) (on_record deck (caught_up deck w (record { 0 = s }) n) r)
        one-shown s n found alive =
            let k = same s n found alive in
            subst
            (λ (z : NodeState).
            HaveThese r rank_of listed (names_of deck s) (on_record deck (taking deck z (inbox w.medium s)) r))
            k.2 (has-these s k.0 (at_site k.1 alive))

        each : (k : ℕ) (n : NodeState) → slice_get ns k ≡ Some n → has w.medium.removed (0 + k) ≡ false →
            HaveThese r rank_of listed (names_of deck (0 + k))
            (on_record deck (caught_up deck w (record { 0 = 0 + k }) n) r)
        each k n found alive =
            subst
            (λ i.
            HaveThese r rank_of listed (names_of deck i) (on_record deck (caught_up deck w (record { 0 = i }) n) r))
            (sym (zero_plus k))
            (one-shown k n found (subst (λ i. has w.medium.removed i ≡ false) (zero_plus k) alive))

    all-named : list_all (λ x. is_among x.task names) listed ≡ true
    all-named = each-task (λ t. is_among t names) listed named
      where
        named : (t : TaskId) → has_task listed t ≡ true → is_among t names ≡ true
        named t stands =
            let s : ℕ = t.system.0 in
            let below = live-below w s (element-live t stands) in
            live-named deck w.medium.removed 0 ns s (get_or ns s (first_node deck 0)) t
            (slice_get-get_or ns s (first_node deck 0) (subst (λ i. s < i) (sym count) below.0))
            (subst (λ i. has w.medium.removed i ≡ false) (sym (zero_plus s)) below.1)
            (subst (λ i. is_among t (names_of deck i) ≡ true) (sym (zero_plus s))
            (home-named deck s t (element-home t stands)))

    same-elems : IsPermutation (map elem_of (shown_from deck w r 0 ns)) listed
    same-elems =
        subst (λ (xs : List Elem). IsPermutation xs listed) (sym shown-these.elems)
        (IsPermutation-sym listed (of_tasks names listed)
        (by-tasks names listed (live-apart deck w.medium.removed 0 ns) all-named))

    pub shown-listed : map elem_of (by_rank (shown_from deck w r 0 ns)) ≡ listed
    shown-listed = by_rank-is r rank_of (shown_from deck w r 0 ns) listed shown-these.ranked rising same-elems

    pub shown-ranks : ranks (by_rank (shown_from deck w r 0 ns)) ≡ map (λ (x : Elem). rank_of x.task) listed
    shown-ranks = ranks-are r rank_of (shown_from deck w r 0 ns) listed shown-these.ranked rising same-elems
