-- So it is in every run, once the complex is in star mode, that removes none there.
use Rattle.grs_world.proofs.Common.{[], ◌++◌, ◌+◌, ◌∙◌, ◌∷◌, ◌≡◌, ap, cond, Deck, Elem, entry_of_res, Event, false}
use Rattle.grs_world.proofs.Common.{FitsStar, has, inbox, is_home_at, is_systems, items, items_are_history, length}
use Rattle.grs_world.proofs.Common.{List, list_of, lists, manager_at, map, may_be_star, no_truth, NodeState, None}
use Rattle.grs_world.proofs.Common.{NoneInStar, Option, PartRec, places, refl, replay, replayed, Res, run, slice_get}
use Rattle.grs_world.proofs.Common.{Some, StarPart, sym, SysId, TaskId, true, World, ℕ}
use Rattle.contention_mgr.specs.Installs.{elem_of}
use Rattle.system_purge.specs.Gather.{by_rank, ranks}
use Rattle.lock_structure.specs.RankedRows.{rises}
use Rattle.grs_wire.specs.Decks.{IsBounded}
use Rattle.grs_world.proofs.at_rest.Changed.{change-unsent}
use Rattle.grs_world.proofs.at_rest.Reads.{read-box, read-due, read-home}
use Rattle.grs_world.proofs.at_rest.Restful.{IsRestful, had_of, sent-star, sent_in, sent_of}
use Rattle.grs_world.proofs.at_rest.StarRun.{restful_run}
use Rattle.grs_world.proofs.at_rest.View.{node-of, read_by, shown-star, shown-waits, shown_at, system_of, view-of}
use Rattle.grs_world.proofs.shown.Lists.{entry, rank_of, ranks-kept, rising, shown-listed, shown-ranks}
use Rattle.grs_world.proofs.move.Changing.{IsChanging}
use Rattle.grs_world.proofs.move.Moved.{late-stays}
use Rattle.grs_world.proofs.move.Sound.{GoodRun, every_run, in_ring, in_star}
use Rattle.grs_world.proofs.run.Knowing.{KnownAreRemoved, known_run}
use Rattle.grs_world.proofs.run.Site.{Site, at_site}
use Rattle.grs_world.proofs.star.Heard.{sent_by}
use Rattle.grs_world.proofs.star.Members.{manager-here}
use Rattle.grs_world.proofs.star.Worlds.{live-below, manager-live}
use Rattle.grs_world.specs.Kept.{caught_up, HaveRanksKept, managed_ranks, named_by, on_record, once_changed, shown_from}
use Rattle.grs_world.specs.Kept.{shown_list, shown_records, ShownArePlaces, ShownHaveRanks, taking}

-- What is shown of systems goes by the medium alone.
once-same : (deck : Deck) (w : World) (V : List NodeState) (s : SysId) (n : NodeState) (o : Option StarPart)
    → once_changed deck (record w { nodes = V }) s n o ≡ once_changed deck w s n o
once-same deck w V s n None = refl
once-same deck w V s n (Some p) = refl

from-same : (deck : Deck) (w : World) (V : List NodeState) (r : Res) (s : ℕ) (ns : List NodeState)
    → shown_from deck (record w { nodes = V }) r s ns ≡ shown_from deck w r s ns
from-same deck w V r s [] = refl
from-same deck w V r s (n ∷ ns) =
    ap
    (λ (k : NodeState).
    cond (has w.medium.removed s) [] (on_record deck (taking deck k (inbox w.medium s)) r)
    ++ shown_from deck (record w { nodes = V }) r (s + 1) ns)
    (once-same deck w V (record { 0 = s }) n n.star)
    ∙ ap
    (λ (ys : List PartRec).
    cond (has w.medium.removed s) [] (on_record deck (caught_up deck w (record { 0 = s }) n) r) ++ ys)
    (from-same deck w V r (s + 1) ns)

module _ (deck : Deck) (w : World) (g : IsChanging deck w) (rest : IsRestful deck w) (known : KnownAreRemoved w) where
  abbrev shown : World
  shown = record w { nodes = g.view }

  -- a system is shown as it is once it has changed
  once : (s : ℕ) (n : NodeState) → slice_get w.nodes s ≡ Some n → has w.medium.removed s ≡ false →
      (k : NodeState) × (slice_get g.view s ≡ Some k) × (k ≡ once_changed deck shown (record { 0 = s }) n n.star)
  once s n at alive = (
    shown_at deck w.medium.message.entries s n,
    view-of deck w g s n at alive,
    go n.star refl,
  )
    where
      go : (o : Option StarPart) → n.star ≡ o
          → shown_at deck w.medium.message.entries s n ≡ once_changed deck shown (record { 0 = s }) n n.star
      go None alone =
          shown-waits deck w.medium.message.entries s n alone
          ∙ (sym (late-stays deck w g (system_of s) n at alive alone (known s n at))
          ∙ sym (ap (λ (o : Option StarPart). once_changed deck shown (record { 0 = s }) n o) alone))
      go (Some p) star =
          shown-star deck w.medium.message.entries s n p star
          ∙ sym (ap (λ (o : Option StarPart). once_changed deck shown (record { 0 = s }) n o) star)

  -- and has sent what it sent before
  pub as-sent : (s : ℕ) (n : NodeState) (t : TaskId) → Site shown s n → is_home_at deck s t ≡ true → sent_by n t ≡ true
      → sent_of w.nodes s t ≡ true
  as-sent s k t at home e =
      let found = node-of deck w g s k at.at at.live in by-star found.0 found.1 found.2 (found.0).star refl
    where
      by-star : (n : NodeState) → slice_get w.nodes s ≡ Some n
          → k ≡ shown_at deck w.medium.message.entries s n → (o : Option StarPart) → n.star ≡ o
          → sent_of w.nodes s t ≡ true
      by-star n there is None alone =
          let ours = read-home deck w g s n there at.live alone t home in
          no_truth (sent_by k t) e
          (ap (λ (z : NodeState). sent_by z t) (is ∙ shown-waits deck w.medium.message.entries s n alone)
          ∙ change-unsent deck s (read_by deck w.medium.message.entries s n) (read-box deck w g s n there at.live alone)
          (read-due deck w g s n there at.live alone (rest.read s n there at.live alone)) t ours.0 ours.1)
      by-star n there is (Some p) star =
          ap (λ (o : Option NodeState). sent_in o t) there
          ∙ (sent-star n p t star
          ∙ (ap (λ (z : NodeState). sent_by z t)
          (sym (is ∙ shown-star deck w.medium.message.entries s n p star))
          ∙ e))

  pub listed-shown : (r : Res) → is_systems r ≡ true → shown_list deck w r ≡ list_of (lists (items w.fixed)) r
  listed-shown r wide =
      ap (λ (ys : List PartRec). map elem_of (by_rank ys)) (sym (from-same deck w g.view r 0 w.nodes))
      ∙ shown-listed deck shown g.whole (sent_of w.nodes) (had_of deck w.medium.message.entries w.nodes) (rest.heard g)
      (rest.ranked g) as-sent r wide w.nodes once (g.count ∙ sym g.whole.roles.systems)

  -- and they have the ranks that the managers gave
  pub ranked-shown : (r : Res) → is_systems r ≡ true → HaveRanksKept deck w r
  ranked-shown r wide = record {
    rising =
        ap rises ranks-listed
        ∙ rising deck shown g.whole (sent_of w.nodes) (had_of deck w.medium.message.entries w.nodes) (rest.heard g)
        (rest.ranked g) as-sent r wide;
    managed = λ m n p named at star. ranks-listed ∙ sym (of-manager m n p named at star);
  }
    where
      rank_on : TaskId → ℕ
      rank_on =
          rank_of deck shown g.whole (sent_of w.nodes) (had_of deck w.medium.message.entries w.nodes) (rest.heard g)
          (rest.ranked g) as-sent r wide

      ranks-listed : ranks (shown_records deck w r)
          ≡ map (λ (x : Elem). rank_on x.task) (list_of (lists (items w.fixed)) r)
      ranks-listed =
          ap (λ (ys : List PartRec). ranks (by_rank ys)) (sym (from-same deck w g.view r 0 w.nodes))
          ∙ shown-ranks deck shown g.whole (sent_of w.nodes) (had_of deck w.medium.message.entries w.nodes)
          (rest.heard g) (rest.ranked g) as-sent r wide w.nodes once (g.count ∙ sym g.whole.roles.systems)

      of-manager : (m : SysId) (n : NodeState) (p : StarPart)
          → named_by w.medium.words (entry_of_res (length w.medium.words) r) ≡ Some m
          → slice_get w.nodes m.0 ≡ Some n → (once_changed deck w m n n.star).star ≡ Some p
          → managed_ranks p r ≡ map (λ (x : Elem). rank_on x.task) (list_of (lists (items w.fixed)) r)
      of-manager m n p named at star =
          let e =
          entry deck shown g.whole (sent_of w.nodes) (had_of deck w.medium.message.entries w.nodes) (rest.heard g)
          (rest.ranked g) as-sent r wide in
          let is : manager_at w.medium.words e.0 ≡ Some m =
          sym (ap (λ i. named_by w.medium.words (entry_of_res i r)) g.whole.roles.words
          ∙ ap (named_by w.medium.words) e.1)
          ∙ named in
          let mine = manager-here w.medium.words e.0 m is in
          let alive = (live-below shown m.0 (manager-live deck shown g.whole.roles e.0 m.0 mine)).1 in
          let k = once m.0 n at alive in
          ranks-kept deck shown g.whole (sent_of w.nodes) (had_of deck w.medium.message.entries w.nodes) (rest.heard g)
          (rest.ranked g) as-sent r wide m.0 k.0 p (at_site k.1 alive)
          (ap (λ (z : NodeState). z.star) (k.2 ∙ once-same deck w g.view m n n.star) ∙ star) mine

pub shown_places : (deck : Deck) → IsBounded deck → (es : List Event) → NoneInStar deck es
    → (run deck es).medium.star ≡ true → ShownArePlaces deck es
shown_places deck bounds es none star r wide = by_run (every_run deck fits es none)
  where
    fits : may_be_star deck ≡ true → FitsStar deck
    fits h = record { few = bounds.fits.few; entries = bounds.entries }

    by_run : GoodRun deck es (run deck es) → shown_list deck (run deck es) r ≡ places deck es r
    by_run (in_ring begins ring g d) = no_truth (run deck es).medium.star star ring.mode
    by_run (in_star f g told d) =
        listed-shown deck (run deck es) g (restful_run deck bounds es none star) (known_run deck es) r wide
        ∙ (ap (λ z. list_of z r) (replayed deck (items (run deck es).fixed) g.whole.right)
        ∙ ap (λ z. list_of (replay deck.limit z) r) (items_are_history (run deck es).fixed).0)

pub shown_ranks : (deck : Deck) → IsBounded deck → (es : List Event) → NoneInStar deck es
    → (run deck es).medium.star ≡ true → ShownHaveRanks deck es
shown_ranks deck bounds es none star r wide = by_run (every_run deck fits es none)
  where
    fits : may_be_star deck ≡ true → FitsStar deck
    fits h = record { few = bounds.fits.few; entries = bounds.entries }

    by_run : GoodRun deck es (run deck es) → HaveRanksKept deck (run deck es) r
    by_run (in_ring begins ring g d) = no_truth (run deck es).medium.star star ring.mode
    by_run (in_star f g told d) =
        ranked-shown deck (run deck es) g (restful_run deck bounds es none star) (known_run deck es) r wide
