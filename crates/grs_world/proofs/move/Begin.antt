-- The complex begins to change: the lock words are those of the table of the system that orders it, and every system is
-- shown as it will be behind what it has still to process. So the world that is shown is one in star mode.
use Rattle.grs_world.proofs.Common.{[], ◌&&◌, ◌++◌, ◌+◌, ◌<◌, ◌||◌, ◌∙◌, ◌∷◌, ◌≡◌, ◌≤◌, All, AllAsk, and-true, and_from}
use Rattle.grs_world.proofs.Common.{and_parts, ap, append-nil, are_within, arith, awake, Bodies, Bool, change_to_star}
use Rattle.grs_world.proofs.Common.{closed_by, Deck, desk_told, false, first_number, fixed_by, has, history, inbox}
use Rattle.grs_world.proofs.Common.{is_interested, is_res_of, is_some, is_systems, IsHistory, IsManaged, items}
use Rattle.grs_world.proofs.Common.{items_are_history, length, length-replicate, length-set, lines_of, List, list_all}
use Rattle.grs_world.proofs.Common.{list_any, lists, live, lt-ltb, ltb-true, Mail, manager_at, most_systems, nat_lt}
use Rattle.grs_world.proofs.Common.{next_order, no_truth, NodeState, None, not, only, Option, own_requests, own_words}
use Rattle.grs_world.proofs.Common.{part_by_table, placed, refl, removes, replicate, RingEntry, rounds, rows_of}
use Rattle.grs_world.proofs.Common.{RunItem, same_Some, slice_get, slice_get-set, slice_get-set_other, slice_index_or}
use Rattle.grs_world.proofs.Common.{Some, star-changed, StarPart, State, subst, suc, switched, sym, SysId, table-is}
use Rattle.grs_world.proofs.Common.{true, Turnout, unseen, World, zero, ℕ}
use Rattle.std.proofs.Common.{set}
use Rattle.grs_known.proofs.known.Histories.{elements-ask, may_have}
use Rattle.std.proofs.lemmas.Bool.{ltb-false}
use Rattle.grs_node.specs.Node.{words_by}
use Rattle.grs_node.proofs.StepFits.{deck-task}
use Rattle.grs_node.proofs.InRing.{switched-ring}
use Rattle.grs_world.proofs.run.Knowing.{KnowsRemoved}
use Rattle.grs_world.proofs.star.Calm.{losing-nothing}
use Rattle.grs_world.proofs.star.Usual.{usual}
use Rattle.grs_world.proofs.star.steps.Outcome.{part}
use Rattle.grs_world.proofs.move.Changing.{IsMoved, Shown, Waits, has_changed, view-read, viewed, waits_yet}
use Rattle.grs_world.proofs.move.Parts.{free-by, near-by, nobody-by, part-by, past-by, removed-by}
use Rattle.grs_world.proofs.move.Ranks.{changed-at, changed-told}
use Rattle.grs_world.proofs.run.Desks.{tells_done}
use Rattle.grs_world.proofs.run.Growing.{asks-rounds, fixeds}
use Rattle.grs_world.proofs.run.InRing.{IsRing, live-there}
use Rattle.grs_world.proofs.run.Removals.{AreTakenOut, removes-fixed}
use Rattle.grs_world.proofs.run.Messages.{given-later, message-kept}
use Rattle.grs_world.proofs.run.Runs.{GoodMessage, GoodSystems, message_log, seen_at}
use Rattle.grs_world.proofs.run.Placed.{by_node}
use Rattle.grs_world.proofs.star.Elements.{AreNear}
use Rattle.grs_world.proofs.star.Members.{IsMember, IsPart, IsStar, has_manager}
use Rattle.grs_world.proofs.star.Sound.{no_mail}
use Rattle.grs_world.proofs.star.Systems.{IsSystem}
use Rattle.grs_world.proofs.star.Worlds.{Hands, IsWhole, are_live, in_hands, items-none}
use Rattle.grs_world.proofs.system.AtNode.{Seen}
use Rattle.grs_world.proofs.system.Desks.{desk-seen, desk-told}
use Rattle.grs_world.proofs.run.Reading.{read_all}
use Rattle.mode_migrate.proofs.TableWords.{table-count, table-managed}
use Rattle.mode_migrate.specs.Migrate.{has_elements, table_words}
use Rattle.grs_world.proofs.run.Site.{IsThere, at_site}
use Rattle.grs_wire.specs.declared.deck.Order.TheVariants as orders
use Rattle.grs_wire.specs.declared.told.Said.TheVariants as saids
use Rattle.grs_wire.specs.declared.told.ToldLine.TheVariants as lines

-- ---- the elements of a table of a run are of systems of the deck
each-within : (deck : Deck) (t : State) → list_all (λ h. may_have deck h.0 h.1.task) t ≡ true
    → are_within (length deck.systems) t ≡ true
each-within deck [] h = refl
each-within deck (x ∷ t) h =
    let both = and_parts (may_have deck x.0 x.1.task) (list_all (λ z. may_have deck z.0 z.1.task) t) h in
    and_from (nat_lt x.1.task.system.0 (length deck.systems)) (are_within (length deck.systems) t)
    (deck-task deck x.1.task
    (and_parts (is_some (lines_of deck x.1.task)) (is_systems x.0 || is_res_of x.1.task.system.0 x.0) both.0).0)
    (each-within deck t both.1)

pub more-within : (n m : ℕ) → n ≤ m → (t : State) → are_within n t ≡ true → are_within m t ≡ true
more-within n m l [] h = refl
more-within n m l (x ∷ t) h =
    let both = and_parts (nat_lt x.1.task.system.0 n) (are_within n t) h in
    let below : x.1.task.system.0 < n = ltb-true x.1.task.system.0 n both.0 in
    and_from (nat_lt x.1.task.system.0 m) (are_within m t) (lt-ltb x.1.task.system.0 m (omega (arith, l, below)))
    (more-within n m l t both.1)

pub front-within : (deck : Deck) (xs : List RunItem) → AllAsk deck xs
    → are_within (length deck.systems) (lists xs) ≡ true
front-within deck xs asks = each-within deck (lists xs) (elements-ask deck [] xs asks refl)

-- ---- what a system comes to by its change
-- System s changes from a node that has processed all that went with the message, and whose requests are all answered.
pub record Arrives (deck : Deck) (s : ℕ) (T : List RunItem) (k : NodeState) : Type 0 where
  pub from : NodeState
  pub is : k ≡ change_to_star deck from
  pub seen : Seen deck s T (rounds T) [] [] from

module _ (deck : Deck) (some : 0 < deck.entries) (few : length deck.systems ≤ most_systems) (w : World)
    (right : IsHistory deck (items w.fixed))
    (words_are : w.medium.words ≡ table_words deck.entries (lists (rounds (items w.fixed)))) where
  abbrev T : List RunItem
  T = items w.fixed

  abbrev t : State
  t = lists (rounds (items w.fixed))

  within : are_within (length deck.systems) t ≡ true
  within = front-within deck (rounds T) (asks-rounds deck T right.asks)

  within_most : are_within most_systems t ≡ true
  within_most = more-within (length deck.systems) most_systems few t within

  abbrev part_at : ℕ → StarPart
  part_at s = part_by_table deck.entries (record { 0 = s }) (lists (rounds (items w.fixed)))

  part_is : (s : ℕ) (k : NodeState) → Arrives deck s T k → k.star ≡ Some (part_at s)
  part_is s k a = ap (λ (z : NodeState). z.star) a.is ∙ (star-changed deck a.from
      ∙ (ap (λ (i : ℕ). Some (part_by_table deck.entries (record { 0 = i }) a.from.shared)) a.seen.good.system
      ∙ ap (λ x. Some (part_by_table deck.entries (record { 0 = s }) x)) a.seen.shared))

  fits : (s : ℕ) → IsPart deck w.medium.words (lists T) s (part_at s)
  fits s =
      subst (λ ws. IsPart deck ws (lists (items w.fixed)) s (part_at s)) (sym words_are)
      (part-by deck some t (lists T) (table-is T) within_most s)

  member : (s : ℕ) (k : NodeState) → Arrives deck s T k → IsMember deck w.medium.words (lists T) s k
  unfolding change_to_star
  member s k a = record {
    part = part_at s;
    star = part_is s k a;
    outbox = ap (λ (z : NodeState). z.outbox) a.is;
    fits = fits s;
  }

  system : (s : ℕ) (k : NodeState) → Arrives deck s T k → (ms : List Mail) → ms ≡ []
      → IsSystem deck w.medium.words T s k ms [] []
  system s k a ms empty =
      subst (λ xs. IsSystem deck w.medium.words T s k xs [] [])
      (sym empty) (subst (λ z. IsSystem deck w.medium.words T s z [] [] []) (sym a.is) (record {
        at = changed-at deck s T (rounds T) [] a.from a.seen (λ u ls o. refl);
        late = tt;
        sent = λ u h. refl;
        near = refl;
        coming = λ u home. tt;
        answered = λ u x home due gave. absurd (cc);
        fits = tt;
      }))

  module _ (view : List NodeState) (count : length view ≡ length deck.systems)
      (each : (s : ℕ) (k : NodeState) → slice_get view s ≡ Some k → has w.medium.removed s ≡ false
      → Arrives deck s (items w.fixed) k)
      (mode : w.medium.star ≡ true)
      (gone : (s : SysId) → has w.medium.removed s.0 ≡ list_any (removes s) (history (items w.fixed)))
      (boxes : w.medium.inboxes ≡ replicate (length deck.systems) []) where
    no_box : (s : ℕ) → inbox w.medium s ≡ []
    no_box s = ap (λ (xs : List (List Mail)). slice_index_or xs s []) boxes ∙ no_mail (length deck.systems) s

    -- who isn't live has no element of an entry
    none-there : (e s : ℕ) (b : Bool) → has w.medium.removed s ≡ b → (nat_lt s (length view) && not b) ≡ false
        → has_elements deck.entries e (rows_of t) s ≡ false
    none-there e s true out h = removed-by deck T right e s (sym (gone (record { 0 = s })) ∙ out)
    none-there e s false live h =
        past-by deck some t (lists T) (table-is T) within_most (length deck.systems) within e s
        (subst (λ n. n ≤ s) count (ltb-false s (length view) (sym (and-true (nat_lt s (length view))) ∙ h)))

    roles : IsStar deck (record w { nodes = view })
    roles = record {
      mode = mode;
      words = ap (λ (ws : List ℕ). length ws) words_are ∙ table-count deck.entries some t within_most;
      inboxes = ap (λ (xs : List (List Mail)). length xs) boxes ∙ length-replicate (length deck.systems) [];
      systems = count;
      managed = subst (All IsManaged) (sym words_are) (table-managed deck.entries some t within_most);
      nobody = λ e s out.
          subst (λ ws. (is_interested ws e s ≡ false) × (has_manager ws e s ≡ false)) (sym words_are)
          (nobody-by deck some t (lists T) (table-is T) within_most e s
          (none-there e s (has w.medium.removed s) refl out));
      free = λ e none.
          free-by deck some t (lists T) (table-is T) within_most e (sym (ap (λ ws. manager_at ws e) words_are) ∙ none);
      node = λ s k v. member s k (each s k v.at v.live);
    }

    hands : (m : ℕ) (k : NodeState) (p : StarPart) → IsThere view w.medium.removed m k → k.star ≡ Some p
        → Hands deck w.medium.words (are_live (record w { nodes = view })) (λ s. []) (λ s. []) m
        (in_hands p (inbox w.medium m))
    hands m k p v is =
        subst (λ ms.
        Hands deck w.medium.words (are_live (record w { nodes = view })) (λ s. []) (λ s. []) m (in_hands p ms))
        (sym (no_box m))
        (subst (λ (q : StarPart).
        Hands deck w.medium.words (are_live (record w { nodes = view })) (λ s. []) (λ s. []) m (in_hands q []))
        (same_Some (part_at m) p (sym (part_is m k (each m k v.at v.live)) ∙ is)) (record { each = tt; apart = refl }))

    pub whole-begun : (h : IsWhole deck (record w { nodes = view })) × ((u : ℕ) → h.out u ≡ [])
    whole-begun = (
      record {
        roles = roles;
        right = right;
        later = λ s. [];
        out = λ s. [];
        near =
            subst (λ ws. AreNear deck ws (lists (items w.fixed))) (sym words_are)
            (near-by deck some t (lists T) (table-is T) within_most);
        system = λ s k v. system s k (each s k v.at v.live) (inbox w.medium s) (no_box s);
        hands = hands;
      },
      λ u. refl,
    )

-- ---- every node as it will be
unfoldable all_viewed : Deck → (ℕ → List RunItem) → List NodeState → List NodeState
all_viewed deck due [] = []
all_viewed deck due (n ∷ ns) = viewed deck n (due 0) ∷ all_viewed deck (λ i. due (suc i)) ns

viewed-count : (deck : Deck) (due : ℕ → List RunItem) (ns : List NodeState)
    → length (all_viewed deck due ns) ≡ length ns
unfolding all_viewed
viewed-count deck due [] = refl
viewed-count deck due (n ∷ ns) = ap suc (viewed-count deck (λ i. due (suc i)) ns)

viewed-at : (deck : Deck) (due : ℕ → List RunItem) (ns : List NodeState) (s : ℕ) (n : NodeState)
    → slice_get ns s ≡ Some n → slice_get (all_viewed deck due ns) s ≡ Some (viewed deck n (due s))
unfolding all_viewed
viewed-at deck due [] s n at = absurd (cc)
viewed-at deck due (m ∷ ns) zero n at = ap (λ (z : NodeState). Some (viewed deck z (due 0))) (same_Some m n at)
viewed-at deck due (m ∷ ns) (suc s) n at = viewed-at deck (λ i. due (suc i)) ns s n at

-- and back
viewed-of : (deck : Deck) (due : ℕ → List RunItem) (ns : List NodeState) (s : ℕ) (k : NodeState)
    → slice_get (all_viewed deck due ns) s ≡ Some k
    → (n : NodeState) × (slice_get ns s ≡ Some n) × (k ≡ viewed deck n (due s))
unfolding all_viewed
viewed-of deck due [] s k at = absurd (cc)
viewed-of deck due (m ∷ ns) zero k at = (m, refl, sym (same_Some (viewed deck m (due 0)) k at))
viewed-of deck due (m ∷ ns) (suc s) k at = viewed-of deck (λ i. due (suc i)) ns s k at

-- ---- what comes of it
-- who is given nothing has processed all
all-seen : (es : List RingEntry) (xs : List RunItem) → first_number es ≡ None → Bodies (fixeds xs) es → xs ≡ []
all-seen [] [] e b = refl
all-seen [] (x ∷ xs) e b = elim b [ ]
all-seen (y ∷ es) xs e b = absurd (cc)

module _ (deck : Deck) (ring_mode : deck.star ≡ false) (some : 0 < deck.entries)
    (few : length deck.systems ≤ most_systems) (w : World) (ring : IsRing deck w)
    (right : IsHistory deck (items w.fixed)) (gone : AreTakenOut w) (before later : ℕ → List RunItem)
    (whole : (s : ℕ) → rounds (items w.fixed) ≡ before s ++ later s)
    (message : GoodMessage w.medium (message_log (items w.fixed)) (seen_at before))
    (systems : GoodSystems deck w before later)
    (c : SysId) (n : NodeState) (at : slice_get w.nodes c.0 ≡ Some n) (unremoved : has w.medium.removed c.0 ≡ false)
    (next : next_order deck n ≡ Some orders.Star) (idle : first_number (unseen c w.medium.message.entries) ≡ None) where
  abbrev P : List RunItem
  P = items w.fixed

  same : items (w.fixed ++ fixed_by c []) ≡ items w.fixed
  same = items-none w.fixed c

  -- it is live
  lives_here : has (live w.medium) c.0 ≡ true
  lives_here = live-there deck w ring c.0 n at unremoved

  own_seen : Seen deck c.0 P (before c.0) (later c.0) (own_requests c.0 (later c.0)) n
  own_seen = systems c.0 n at lives_here

  -- its Turn gave it all
  nothing_later : later c.0 ≡ []
  nothing_later =
      all-seen (unseen c w.medium.message.entries) (later c.0) idle
      (given-later w.medium c before (later c.0) P (whole c.0) lives_here message)

  all_before : before c.0 ≡ rounds P
  all_before = sym (whole c.0 ∙ (ap (λ xs. before c.0 ++ xs) nothing_later ∙ append-nil (before c.0)))

  seen_all : Seen deck c.0 P (rounds P) [] [] n
  seen_all =
      subst (λ xs. Seen deck c.0 P xs [] [] n) all_before
      (subst (λ xs. Seen deck c.0 P (before c.0) xs (own_requests c.0 xs) n) nothing_later own_seen)

  words_are : own_words deck n ≡ table_words deck.entries (lists (rounds P))
  words_are =
      ap (λ (p : Option StarPart). words_by deck.entries n.shared p) (ring.alone c.0 n at)
      ∙ ap (table_words deck.entries) seen_all.shared

  -- the others wait
  other_waits : (u : ℕ) (m : NodeState) → slice_get w.nodes u ≡ Some m → has w.medium.removed u ≡ false
      → Waits deck u P (before u) (later u) [] m
  other_waits u m there live = record {
    alone = ring.alone u m there;
    seen =
        subst (λ xs. Seen deck u P (before u) xs (own_requests u (later u)) m) (sym (append-nil (later u)))
        (systems u m there (live-there deck w ring u m there live));
    away = λ t home. refl;
  }

  other_arrives : (u : ℕ) (m : NodeState) → slice_get w.nodes u ≡ Some m → has w.medium.removed u ≡ false
      → Arrives deck u P (viewed deck m (later u))
  other_arrives u m there live =
      let all : rounds P ≡ before u ++ (later u ++ []) =
      whole u ∙ ap (λ xs. before u ++ xs) (sym (append-nil (later u))) in
      let read = view-read deck u P (before u) (later u) [] right all m (other_waits u m there live) in
      record {
        from = read_all m (later u);
        is = refl;
        seen = subst (λ xs. Seen deck u P xs [] [] (read_all m (later u))) (sym (whole u)) read.seen;
      }

  -- who was removed, by the history
  gone_now : (s : SysId) → has w.medium.removed s.0 ≡ list_any (removes s) (history (items (w.fixed ++ fixed_by c [])))
  gone_now s =
      gone s
      ∙ (sym (removes-fixed w.fixed s)
      ∙ (sym (ap (list_any (removes s)) (items_are_history w.fixed).0)
      ∙ sym (ap (λ U. list_any (removes s) (history U)) same)))

  -- what comes of it, where the system is this behind it
  module _ (then_node : NodeState) (then_is : then_node ≡ change_to_star deck (desk_told n saids.StarDone)) where
    abbrev o : Turnout
    o = record {
      medium =
          record w.medium {
            star = true;
            words = own_words deck n;
            message = closed_by w.medium.message c (live w.medium);
            rest = awake w.medium c;
          };
      step = only then_node;
    }

    abbrev view : List NodeState
    view = set (all_viewed deck later w.nodes) c.0 then_node

    own_arrives : Arrives deck c.0 P then_node
    unfolding desk_told
    own_arrives = record {
      from = desk_told n saids.StarDone;
      is = then_is;
      seen = desk-seen deck c.0 P (rounds P) [] [] n saids.StarDone seen_all;
    }

    each_arrives : (s : ℕ) (k : NodeState) → slice_get view s ≡ Some k → has w.medium.removed s ≡ false
        → Arrives deck s (items (w.fixed ++ fixed_by c [])) k
    each_arrives s k f live = subst (λ U. Arrives deck s U k) (sym same)
        (by_node (all_viewed deck later w.nodes) c.0 (viewed deck n (later c.0)) then_node
        (viewed-at deck later w.nodes c.0 n at) (λ u z. has w.medium.removed u ≡ false → Arrives deck u P z)
        (λ l. own_arrives) (λ u z ne there l. let old = viewed-of deck later w.nodes u z there in
        subst (Arrives deck u P) (sym old.2) (other_arrives u old.0 old.1 l))
        s k f live)

    count : length view ≡ length deck.systems
    count =
        length-set (all_viewed deck later w.nodes) c.0 then_node
        ∙ (viewed-count deck later w.nodes ∙ ring.systems)

    begun : (h : IsWhole deck (record (placed w c n o) { nodes = view })) × ((u : ℕ) → h.out u ≡ [])
    unfolding placed
    begun =
        whole-begun deck some few (placed w c n o) (subst (IsHistory deck) (sym same) right)
        (words_are ∙ ap (λ U. table_words deck.entries (lists (rounds U))) (sym same)) view count each_arrives refl
        gone_now ring.boxes

    own-told : then_node.tasks.told ≡ n.tasks.told ++ lines.Desk (n.done + 1) saids.StarDone ∷ []
    own-told =
        ap (λ (z : NodeState). z.tasks.told) then_is
        ∙ (changed-told deck c.0 P (rounds P) [] (desk_told n saids.StarDone)
        (desk-seen deck c.0 P (rounds P) [] [] n saids.StarDone seen_all) (λ u ls o. refl)
        ∙ desk-told n saids.StarDone)

    own-done : then_node.done ≡ n.done + 1
    unfolding desk_told change_to_star
    own-done = ap (λ (z : NodeState). z.done) then_is

    pub switch-moved : IsMoved deck w c n o
    unfolding placed closed_by
    switch-moved = record {
      changing = record {
        view = view;
        whole = begun.0;
        log = rounds (items w.fixed);
        since = [];
        rounds_are = ap rounds same ∙ sym (append-nil (rounds P));
        before = before;
        due = later;
        parts = whole;
        message = message-kept w.medium o.medium (message_log P) (seen_at before) refl refl refl message;
        closed = refl;
        around = ring.around;
        count = length-set w.nodes c.0 then_node ∙ ring.systems;
        shown =
            by_node w.nodes c.0 n then_node at (λ u x.
            has w.medium.removed u ≡ false
            → (j : NodeState) × (slice_get view u ≡ Some j)
            × Shown deck u (items (w.fixed ++ fixed_by c [])) (before u) (later u) [] (begun.0.out u) j x)
            (λ l. (
              then_node,
              slice_get-set (all_viewed deck later w.nodes) c.0 (viewed deck n (later c.0)) then_node
                  (viewed-at deck later w.nodes c.0 n at),
              has_changed nothing_later,
            ))
            (λ u x ne there l. (
              viewed deck x (later u),
              slice_get-set_other (all_viewed deck later w.nodes) c.0 u then_node ne
                  ∙ viewed-at deck later w.nodes u x there,
              waits_yet x (subst (λ U. Waits deck u U (before u) (later u) [] x) (sym same) (other_waits u x there l))
                  refl (begun.1 u),
            ));
        gone =
            by_node w.nodes c.0 n then_node at (λ u x. has w.medium.removed u ≡ true → x.star ≡ None)
            (λ l. no_truth (has w.medium.removed c.0) l unremoved) (λ u x ne there l. ring.alone u x there);
      };
      news = tells_done next own-told own-done ring_mode ring.mode refl;
    }

  -- it has nothing to lose behind its change
  module _ (known : KnowsRemoved w.medium n) where
    abbrev plain_node : NodeState
    plain_node = change_to_star deck (desk_told n saids.StarDone)

    plain-known : plain_node.known ≡ n.known
    unfolding change_to_star desk_told
    plain-known = refl

    pub switch-stays : switched deck n ≡ change_to_star deck (desk_told n saids.StarDone)
    unfolding placed desk_told
    switch-stays =
        let whole_now = (begun plain_node refl).0 in
        let site = at_site (slice_get-set (all_viewed deck later w.nodes) c.0 (viewed deck n (later c.0)) plain_node
        (viewed-at deck later w.nodes c.0 n at)) unremoved in
        let there : World = record (placed w c n (o plain_node refl)) { nodes = view plain_node refl } in
        let u = usual deck there whole_now c plain_node site
        (λ v h. known v (ap (λ i. has i v) (sym plain-known) ∙ h)) in
        switched-ring deck n (ring.alone c.0 n at)
        ∙ losing-nothing (part deck there whole_now c plain_node site) u.calm deck plain_node u.star
        (desk_told n saids.StarDone).known
        (λ v h. u.gone v (known v h))

    pub switched-moved : IsMoved deck w c n (record {
      medium =
          record w.medium {
            star = true;
            words = own_words deck n;
            message = closed_by w.medium.message c (live w.medium);
            rest = awake w.medium c;
          };
      step = only (switched deck n);
    })
    switched-moved = switch-moved (switched deck n) switch-stays
