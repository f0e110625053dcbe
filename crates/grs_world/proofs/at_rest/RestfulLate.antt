-- An event of a system that waits to change leaves what holds of a run from the change of the medium on.
use Rattle.grs_world.proofs.Common.{[], ◌++◌, ◌<◌, ◌==◌, ◌∙◌, ◌≡◌, ◌≢◌, ◌≤◌, ap, append-nil, askers, Bool}
use Rattle.grs_world.proofs.Common.{change_to_star, cleared, cond, Deck, eqb-false, eqb-true, false, Fixed, fixed_by}
use Rattle.grs_world.proofs.Common.{has, has-without_other, has_res, has_task, is_among, is_home_at, is_none}
use Rattle.grs_world.proofs.Common.{is_systems, is_task, items, length, length-set, List, list_all, list_of, lists}
use Rattle.grs_world.proofs.Common.{most_systems, no_truth, NodeState, None, only, Option, owns, part_by_table, placed}
use Rattle.grs_world.proofs.Common.{refl, Res, RingEntry, same_Some, set, slice_get, slice_get-set, slice_get-set_other}
use Rattle.grs_world.proofs.Common.{Some, star-changed, StarPart, state_of, subst, sym, SysId, TaskId, true}
use Rattle.grs_world.proofs.Common.{turned_closed, Turnout, World, ℕ}
use Rattle.grs_world.proofs.move.Changing.{IsChanging}
use Rattle.grs_world.proofs.at_rest.Alike.{IsBack, IsForth, SameShown, heard-alike, same-nodes, shown-alike}
use Rattle.grs_world.proofs.at_rest.Changed.{change-dated, change-had, change-has, change-unsent, home-ranks}
use Rattle.grs_world.proofs.at_rest.Reads.{read-asks, read-box, read-cleared, read-due, read-home, read-seen}
use Rattle.grs_world.proofs.at_rest.Reads.{shared-read}
use Rattle.grs_world.proofs.at_rest.Ring.{IsRead}
use Rattle.grs_world.proofs.at_rest.RingRun.{read-more, still_of}
use Rattle.grs_world.proofs.at_rest.StarTasks.{IsDated}
use Rattle.grs_world.proofs.at_rest.Unseen.{waits-elsewhere}
use Rattle.grs_world.proofs.at_rest.View.{read_by, shown-star, shown-waits, shown_at, system_of, view-is, view-of}
use Rattle.grs_world.proofs.run.Placed.{by_node, by_set}
use Rattle.grs_world.proofs.star.Heard.{IsHeard, enq_count, had_by}
use Rattle.grs_world.proofs.star.hearing.Ranks.{HaveRank, one-rank-on, rank-none}
use Rattle.grs_world.proofs.star.ranks.Ranked.{AreShown}
use Rattle.grs_world.proofs.star.Under.{wide-entry}
use Rattle.grs_world.proofs.move.TableRanks.{table_rank}
use Rattle.grs_world.proofs.at_rest.Restful.{IsRestful, sent_in, sent_of, had_in, had_of, sent-star, sent-ring}
use Rattle.grs_world.proofs.at_rest.Restful.{had-star, had-ring}

module _ (deck : Deck) (w : World) (g : IsChanging deck w) (h : IsRestful deck w) (c : SysId) (n : NodeState)
    (at : slice_get w.nodes c.0 ≡ Some n) (alive : has w.medium.removed c.0 ≡ false) where
  abbrev es : List RingEntry
  es = w.medium.message.entries

  abbrev shown : World
  shown = record w { nodes = g.view }

  abbrev S : ℕ → TaskId → Bool
  S = sent_of w.nodes

  abbrev H : ℕ → TaskId → Res → Bool
  H = had_of deck w.medium.message.entries w.nodes

  module _ (some : 0 < deck.entries) (few : length deck.systems ≤ most_systems) (alone : n.star ≡ None) where
    -- what is shown of it goes by its table then
    shown-part :
        (v : World) (f : IsChanging deck v) (k : NodeState) (here : slice_get v.nodes c.0 ≡ Some k)
        (l : has v.medium.removed c.0 ≡ false) (free : k.star ≡ None)
        → (shown_at deck v.medium.message.entries c.0 k).star
        ≡ Some (part_by_table deck.entries (system_of c.0) (read_by deck v.medium.message.entries c.0 k).shared)
    shown-part v f k here l free =
        ap (λ (z : NodeState). z.star) (shown-waits deck v.medium.message.entries c.0 k free)
        ∙ (star-changed deck (read_by deck v.medium.message.entries c.0 k)
        ∙ ap (λ (i : ℕ).
        Some (part_by_table deck.entries (system_of i) (read_by deck v.medium.message.entries c.0 k).shared))
        (read-seen deck v f c.0 k here l free).good.system)

    shown-has :
        (v : World) (f : IsChanging deck v) (k : NodeState) (here : slice_get v.nodes c.0 ≡ Some k)
        (l : has v.medium.removed c.0 ≡ false) (free : k.star ≡ None)
        → IsRead deck c.0 k (still_of c.0 v.medium.message.entries) → (t : TaskId) (r : Res)
        → is_home_at deck c.0 t ≡ true → is_systems r ≡ true →
        has_res r (state_of (shown_at deck v.medium.message.entries c.0 k).tasks t).records
        ≡ has_task (list_of (read_by deck v.medium.message.entries c.0 k).shared r) t
    shown-has v f k here l free rd t r home wide =
        let ours = read-home deck v f c.0 k here l free t home in
        ap (λ (z : NodeState). has_res r (state_of z.tasks t).records)
        (shown-waits deck v.medium.message.entries c.0 k free)
        ∙ change-has deck c.0 (read_by deck v.medium.message.entries c.0 k) (read-box deck v f c.0 k here l free)
        (read-due deck v f c.0 k here l free rd) t ours.0 r ours.1 wide

    -- with the ranks that the table gives
    shown-ranks :
        (v : World) (f : IsChanging deck v) (k : NodeState) (here : slice_get v.nodes c.0 ≡ Some k)
        (l : has v.medium.removed c.0 ≡ false) (free : k.star ≡ None) (t : TaskId) (r : Res)
        → is_home_at deck c.0 t ≡ true → (wide : is_systems r ≡ true)
        → has_task (list_of (read_by deck v.medium.message.entries c.0 k).shared r) t ≡ true →
        HaveRank r
        (table_rank deck.entries (read_by deck v.medium.message.entries c.0 k).shared (wide-entry deck.entries r wide).0
        r t)
        (state_of (shown_at deck v.medium.message.entries c.0 k).tasks t).records
    shown-ranks v f k here l free t r home wide stands =
        let m : NodeState = read_by deck v.medium.message.entries c.0 k in
        let seen = read-seen deck v f c.0 k here l free in
        let ours = read-home deck v f c.0 k here l free t home in
        subst
        (λ (z : NodeState).
        HaveRank r (table_rank deck.entries m.shared (wide-entry deck.entries r wide).0 r t)
        (state_of z.tasks t).records)
        (sym (shown-waits deck v.medium.message.entries c.0 k free))
        (home-ranks deck c.0 m (read-box deck v f c.0 k here l free) some few (f.before c.0 ++ f.due c.0) seen.shared
        (read-asks deck v f c.0 k here l free) (seen.good).system t ours.0 ours.1 r wide stands)

    there_waits : slice_get g.view c.0 ≡ Some (shown_at deck w.medium.message.entries c.0 n)
    there_waits = view-of deck w g c.0 n at alive

    -- it stands as k then, and fixes this
    module _ (k : NodeState) (fs : List Fixed) (flags : ℕ) (free : k.star ≡ None) (table : k.shared ≡ n.shared)
        (dated : IsDated deck c.0 k) (rd : IsRead deck c.0 k (still_of c.0 w.medium.message.entries))
        (same_lists : (r : Res) → is_systems r ≡ true
        → list_of (lists (items (w.fixed ++ fixed_by c fs))) r ≡ list_of (lists (items w.fixed)) r)
        (count : enq_count (items w.fixed) ≤ enq_count (items (w.fixed ++ fixed_by c fs))) where
      abbrev ow : Turnout
      ow = record { medium = record w.medium { rest = flags }; step = record { node = k; fixed = fs } }

      abbrev kn : NodeState
      kn = shown_at deck w.medium.message.entries c.0 n

      abbrev kk : NodeState
      kk = shown_at deck w.medium.message.entries c.0 k

      tables : (read_by deck w.medium.message.entries c.0 k).shared
          ≡ (read_by deck w.medium.message.entries c.0 n).shared
      tables = shared-read deck _ n k table

      view-waits : (g' : IsChanging deck (placed w c n ow)) → (s : ℕ) → has w.medium.removed s ≡ false
          → slice_get (set g.view c.0 kk) s ≡ slice_get g'.view s
      unfolding placed
      view-waits g' =
          view-is deck (placed w c n ow) g' (set g.view c.0 kk)
          (length-set g.view c.0 kk ∙ (g.whole.roles.systems ∙ (sym g.count ∙ sym (length-set w.nodes c.0 k))))
          (by_node w.nodes c.0 n k at
          (λ s z. has w.medium.removed s ≡ false → slice_get (set g.view c.0 kk) s ≡ Some (shown_at deck es s z))
          (λ l. slice_get-set g.view c.0 kn kk there_waits)
          (λ s m ne f l. slice_get-set_other g.view c.0 s kk ne ∙ view-of deck w g s m f l))

      star-waits : (g' : IsChanging deck (placed w c n ow)) → kk.star ≡ kn.star
      unfolding placed
      star-waits g' =
          shown-part (placed w c n ow) g' k (slice_get-set w.nodes c.0 n k at) alive free
          ∙ (ap (λ x. Some (part_by_table deck.entries (system_of c.0) x)) tables
          ∙ sym (shown-part w g n at alive alone))

      has-waits : (g' : IsChanging deck (placed w c n ow)) → (t : TaskId) (r : Res) → is_home_at deck c.0 t ≡ true
          → is_systems r ≡ true → has_res r (state_of kk.tasks t).records ≡ has_res r (state_of kn.tasks t).records
      unfolding placed
      has-waits g' t r home wide =
          shown-has (placed w c n ow) g' k (slice_get-set w.nodes c.0 n k at) alive free rd t r home wide
          ∙ (ap (λ x. has_task (list_of x r) t) tables
          ∙ sym (shown-has w g n at alive alone (h.read c.0 n at alive alone) t r home wide))

      ranks-waits : (g' : IsChanging deck (placed w c n ow)) → (t : TaskId) (r : Res) → is_home_at deck c.0 t ≡ true
          → is_systems r ≡ true → (i : ℕ) → HaveRank r i (state_of kn.tasks t).records
          → HaveRank r i (state_of kk.tasks t).records
      unfolding placed
      ranks-waits g' t r home wide i old = go (has_res r (state_of kn.tasks t).records) refl
        where
          go : (b : Bool) → has_res r (state_of kn.tasks t).records ≡ b → HaveRank r i (state_of kk.tasks t).records
          go false none = rank-none r i (state_of kk.tasks t).records (has-waits g' t r home wide ∙ none)
          go true one =
              let stands =
              sym (shown-has w g n at alive alone (h.read c.0 n at alive alone) t r home wide) ∙ one in
              let was = shown-ranks w g n at alive alone t r home wide stands in
              let now =
              shown-ranks (placed w c n ow) g' k (slice_get-set w.nodes c.0 n k at) alive free t r home wide
              (ap (λ z. has_task (list_of z r) t) tables ∙ stands) in
              subst (λ q. HaveRank r q (state_of kk.tasks t).records)
              (ap (λ z. table_rank deck.entries z (wide-entry deck.entries r wide).0 r t) tables
              ∙ one-rank-on r (state_of kn.tasks t).records one
              (table_rank deck.entries (read_by deck w.medium.message.entries c.0 n).shared
              (wide-entry deck.entries r wide).0 r t)
              i was old)
              now

      same-waits : (g' : IsChanging deck (placed w c n ow))
          → SameShown deck shown (record (placed w c n ow) { nodes = g'.view })
      unfolding placed
      same-waits g' = record {
        removed = refl;
        back = λ s k' f l.
            by_node g.view c.0 kn kk there_waits (λ u z. IsBack deck shown u z)
            (record {
              node = kn;
              at = there_waits;
              star = star-waits g';
              has = has-waits g';
              ranks = ranks-waits g';
            })
            (λ u z ne q. record {
              node = z;
              at = q;
              star = refl;
              has = λ t r home wide. refl;
              ranks = λ t r home wide i k. k;
            })
            s k'
            (view-waits g' s l ∙ f);
        forth = λ s m f l. forth s m f l (s == c.0) refl;
        boxes = λ s. refl;
        lists = same_lists;
        count = count;
      }
        where
          forth : (s : ℕ) (m : NodeState) → slice_get g.view s ≡ Some m → has w.medium.removed s ≡ false → (b : Bool)
              → (s == c.0) ≡ b → IsForth (record (placed w c n ow) { nodes = g'.view }) s m
          forth s m f l true e =
              let same : s ≡ c.0 = eqb-true s c.0 e in
              let is : kn ≡ m = same_Some kn m (sym there_waits ∙ (ap (slice_get g.view) (sym same) ∙ f)) in
              record {
                node = kk;
                at =
                    sym (view-waits g' s l)
                    ∙ (ap (slice_get (set g.view c.0 kk)) same ∙ slice_get-set g.view c.0 kn kk there_waits);
                star = star-waits g' ∙ ap (λ (z : NodeState). z.star) is;
              }
          forth s m f l false e =
              let ne : s ≢ c.0 = eqb-false s c.0 e in record {
                node = m;
                at = sym (view-waits g' s l) ∙ (slice_get-set_other g.view c.0 s kk ne ∙ f);
                star = refl;
              }

      sent-waits : (s : ℕ) (t : TaskId) → sent_of (set w.nodes c.0 k) s t ≡ true → sent_of w.nodes s t ≡ true
      sent-waits s t =
          by_set w.nodes c.0 n k at s (λ u z. sent_in z t ≡ true → sent_of w.nodes u t ≡ true)
          (λ e. absurd (no_truth (sent_in (Some k) t) e (sent-ring k t free))) (λ ne e. e)

      had-waits : (s : ℕ) (t : TaskId) (r : Res) → had_of deck w.medium.message.entries w.nodes s t r ≡ true
          → had_of deck w.medium.message.entries (set w.nodes c.0 k) s t r ≡ true
      had-waits s t r =
          by_set w.nodes c.0 n k at s (λ u z. had_of deck es w.nodes u t r ≡ true → had_in deck es u z t r ≡ true)
          (λ e.
          had-ring deck es c.0 k t r free
          ∙ (ap (λ x. owns (list_of x r) t) tables
          ∙ (sym (had-ring deck es c.0 n t r alone) ∙ (sym (ap (λ z. had_in deck es c.0 z t r) at) ∙ e))))
          (λ ne e. e)

      heard-waits : (g' : IsChanging deck (placed w c n ow))
          → IsHeard deck (record (placed w c n ow) { nodes = g'.view }) (sent_of (set w.nodes c.0 k))
          (had_of deck w.medium.message.entries (set w.nodes c.0 k))
      heard-waits g' =
          heard-alike deck shown (record (placed w c n ow) { nodes = g'.view }) (same-waits g') S
          (sent_of (set w.nodes c.0 k)) H (had_of deck es (set w.nodes c.0 k)) (λ s t l home e. sent-waits s t e)
          (λ s k' t r f l home wide e. had-waits s t r e) (h.heard g)

      ranked-waits : (g' : IsChanging deck (placed w c n ow))
          → AreShown deck (record (placed w c n ow) { nodes = g'.view })
      ranked-waits g' =
          shown-alike deck shown (record (placed w c n ow) { nodes = g'.view }) (same-waits g') (h.ranked g)

      pub restful-waits : IsRestful deck (placed w c n ow)
      unfolding placed
      restful-waits = record {
        dated =
            by_node w.nodes c.0 n k at (λ u z. has w.medium.removed u ≡ false → IsDated deck u z) (λ l. dated)
            (λ u m ne f l. h.dated u m f l);
        still =
            by_node w.nodes c.0 n k at
            (λ u z. has w.medium.removed u ≡ false → z.star ≡ None → has w.medium.message.still u ≡ true)
            (λ l none. h.still c.0 n at l alone) (λ u m ne f l none. h.still u m f l none);
        read =
            by_node w.nodes c.0 n k at
            (λ u z. has w.medium.removed u ≡ false → z.star ≡ None → IsRead deck u z (still_of u es)) (λ l none. rd)
            (λ u m ne f l none. h.read u m f l none);
        heard = heard-waits;
        ranked = ranked-waits;
      }

    -- ---- its Turn, by which it changes
    module _ (flags : ℕ) where
      abbrev m : NodeState
      m = read_by deck w.medium.message.entries c.0 n

      abbrev kt : NodeState
      kt = change_to_star deck (read_by deck w.medium.message.entries c.0 n)

      abbrev ot : Turnout
      ot = record {
        medium = record w.medium { message = turned_closed w.medium.message c; rest = flags };
        step = only (change_to_star deck (read_by deck w.medium.message.entries c.0 n));
      }

      due : IsRead deck c.0 m []
      due = read-due deck w g c.0 n at alive alone (h.read c.0 n at alive alone)

      box : list_all (λ q. is_task m.tasks q.task) m.outbox ≡ true
      box = read-box deck w g c.0 n at alive alone

      abbrev part : StarPart
      part = part_by_table deck.entries (system_of m.tasks.system) m.shared

      turned-star : kt.star ≡ Some part
      turned-star = star-changed deck m

      turned : kt.star ≡ None → ⊥
      turned none = absurd (let no : Some part ≡ None = sym turned-star ∙ none in cc)

      view-turned :
          (g' :
          IsChanging deck (placed w c n (record {
            medium = record w.medium { message = turned_closed w.medium.message c; rest = flags };
            step = only kt;
          })))
          → (s : ℕ) → has w.medium.removed s ≡ false → slice_get g.view s ≡ slice_get g'.view s
      unfolding placed
      view-turned g' =
          view-is deck (placed w c n ot) g' g.view
          (g.whole.roles.systems ∙ (sym g.count ∙ sym (length-set w.nodes c.0 kt)))
          (by_node w.nodes c.0 n kt at
          (λ s z. has w.medium.removed s ≡ false → slice_get g.view s ≡ Some (shown_at deck (cleared c es) s z))
          (λ l.
          there_waits
          ∙ ap (λ (z : NodeState). Some z)
          (shown-waits deck es c.0 n alone ∙ sym (shown-star deck (cleared c es) c.0 kt part turned-star)))
          (λ s z ne f l.
          view-of deck w g s z f l
          ∙ ap (λ x. Some (cond (is_none z.star) (change_to_star deck x) z))
          (sym (read-cleared deck c (system_of s) ne es z))))

      same-turned :
          (g' :
          IsChanging deck (placed w c n (record {
            medium = record w.medium { message = turned_closed w.medium.message c; rest = flags };
            step = only kt;
          })))
          → SameShown deck shown (record (placed w c n (record {
            medium = record w.medium { message = turned_closed w.medium.message c; rest = flags };
            step = only kt;
          }))
          { nodes = g'.view })
      unfolding placed
      same-turned g' =
          same-nodes deck shown (record (placed w c n ot) { nodes = g'.view }) refl (λ s l. sym (view-turned g' s l))
          (λ s. refl) (ap items (append-nil w.fixed))

      sent-turned : (s : ℕ) (t : TaskId) → is_home_at deck s t ≡ true → sent_of (set w.nodes c.0 kt) s t ≡ true
          → sent_of w.nodes s t ≡ true
      sent-turned s t =
          by_set w.nodes c.0 n kt at s
          (λ u z. is_home_at deck u t ≡ true → sent_in z t ≡ true → sent_of w.nodes u t ≡ true)
          (λ home e. let ours = read-home deck w g c.0 n at alive alone t home in
          absurd (no_truth (sent_in (Some kt) t) e
          (sent-star kt part t turned-star ∙ change-unsent deck c.0 m box due t ours.0 ours.1)))
          (λ ne home e. e)

      had-turned : (s : ℕ) (t : TaskId) (r : Res) → is_home_at deck s t ≡ true → is_systems r ≡ true
          → had_of deck w.medium.message.entries w.nodes s t r ≡ true
          → had_of deck (cleared c w.medium.message.entries) (set w.nodes c.0 kt) s t r ≡ true
      had-turned s t r =
          by_set w.nodes c.0 n kt at s (λ u z.
          is_home_at deck u t ≡ true → is_systems r ≡ true → had_of deck es w.nodes u t r ≡ true
          → had_in deck (cleared c es) u z t r ≡ true)
          (λ home wide e.
          let ours = read-home deck w g c.0 n at alive alone t home in
          had-star deck (cleared c es) c.0 kt part t r turned-star
          ∙ change-had deck c.0 m box due t ours.0 r ours.1 wide
          (sym (had-ring deck es c.0 n t r alone) ∙ (sym (ap (λ z. had_in deck es c.0 z t r) at) ∙ e)))
          (λ ne home wide e. by_old ne (slice_get w.nodes s) e)
        where
          by_old : s ≢ c.0 → (z : Option NodeState) → had_in deck w.medium.message.entries s z t r ≡ true
              → had_in deck (cleared c w.medium.message.entries) s z t r ≡ true
          by_old ne None e = e
          by_old ne (Some z) e =
              ap (λ (x : NodeState). cond (is_none z.star) (owns (list_of x.shared r) t) (had_by z t r))
              (read-cleared deck c (system_of s) ne es z)
              ∙ e

      heard-turned :
          (g' :
          IsChanging deck (placed w c n (record {
            medium = record w.medium { message = turned_closed w.medium.message c; rest = flags };
            step = only kt;
          })))
          → IsHeard deck (record (placed w c n (record {
            medium = record w.medium { message = turned_closed w.medium.message c; rest = flags };
            step = only kt;
          }))
          { nodes = g'.view })
          (sent_of (set w.nodes c.0 kt)) (had_of deck (cleared c w.medium.message.entries) (set w.nodes c.0 kt))
      heard-turned g' =
          heard-alike deck shown (record (placed w c n ot) { nodes = g'.view }) (same-turned g') S
          (sent_of (set w.nodes c.0 kt)) H (had_of deck (cleared c es) (set w.nodes c.0 kt))
          (λ s t l home e. sent-turned s t home e) (λ s k' t r f l home wide e. had-turned s t r home wide e)
          (h.heard g)

      ranked-turned :
          (g' :
          IsChanging deck (placed w c n (record {
            medium = record w.medium { message = turned_closed w.medium.message c; rest = flags };
            step = only kt;
          })))
          → AreShown deck (record (placed w c n (record {
            medium = record w.medium { message = turned_closed w.medium.message c; rest = flags };
            step = only kt;
          }))
          { nodes = g'.view })
      ranked-turned g' =
          shown-alike deck shown (record (placed w c n ot) { nodes = g'.view }) (same-turned g') (h.ranked g)

      pub restful-turned :
          IsRestful deck (placed w c n (record {
            medium = record w.medium { message = turned_closed w.medium.message c; rest = flags };
            step = only kt;
          }))
      unfolding placed
      restful-turned = record {
        dated =
            by_node w.nodes c.0 n kt at (λ u z. has w.medium.removed u ≡ false → IsDated deck u z)
            (λ l. change-dated deck c.0 m box due) (λ u z ne f l. h.dated u z f l);
        still =
            by_node w.nodes c.0 n kt at (λ u z.
            has w.medium.removed u ≡ false → z.star ≡ None → has (turned_closed w.medium.message c).still u ≡ true)
            (λ l none. absurd (turned none))
            (λ u z ne f l none. has-without_other w.medium.message.still c.0 u ne ∙ h.still u z f l none);
        read =
            by_node w.nodes c.0 n kt at
            (λ u z. has w.medium.removed u ≡ false → z.star ≡ None → IsRead deck u z (still_of u (cleared c es)))
            (λ l none. absurd (turned none))
            (λ u z ne f l none.
            read-more deck u z (still_of u es) (still_of u (cleared c es))
            (λ t home e.
            subst (λ xs. is_among t (askers (still_of u xs)) ≡ true) (append-nil (cleared c es))
            (waits-elsewhere c (system_of u) ne t es [] e))
            (h.read u z f l none));
        heard = heard-turned;
        ranked = ranked-turned;
      }
