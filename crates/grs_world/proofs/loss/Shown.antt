-- Once a star lost systems that manage no lock entry the live systems show together what the history says. Their tasks
-- are what is shown of them, and of the mail of an inbox the requests of removed systems tell a task nothing.
use Rattle.grs_world.proofs.Common.{[], ◌++◌, ◌+◌, ◌∙◌, ◌∷◌, ◌≡◌, after_mail, Answered, ap, arith, Bool, cond, Deck}
use Rattle.grs_world.proofs.Common.{Event, false, filter, FitsStar, Granted, has, inbox, is_for_deck, is_home_at}
use Rattle.grs_world.proofs.Common.{is_of_deck, is_systems, items, items_are_history, length, List, list_of, lists}
use Rattle.grs_world.proofs.Common.{Mail, map, may_be_star, names_of, NodeState, None, not, Notice, Option, Part}
use Rattle.grs_world.proofs.Common.{PartRec, places, refl, replay, replayed, Res, run, same_res, same_Some, slice_get}
use Rattle.grs_world.proofs.Common.{slice_get-past, slice_get_within, Some, StarPart, subst, suc, sym, SysId, take_mail}
use Rattle.grs_world.proofs.Common.{TaskId, TasksView, tell_control, true, World, ℕ}
use Rattle.contention_mgr.specs.Installs.{elem_of}
use Rattle.grs_wire.specs.Decks.{IsBounded}
use Rattle.grs_wire.specs.declared.medium.Mail.TheVariants.{Request}
use Rattle.system_purge.specs.Gather.{by_rank, records_of}
use Rattle.grs_world.specs.InStar.{NoneTakesEntries}
use Rattle.grs_world.specs.Kept.{caught_up, on_record, once_changed, shown_from, shown_list, ShownArePlaces, taking}
use Rattle.grs_world.proofs.loss.Heard.{HearsOn, had_all, sent_all, sent_at}
use Rattle.grs_world.proofs.loss.Leaves.{mail_without}
use Rattle.grs_world.proofs.loss.Losing.{lose_parts}
use Rattle.grs_world.proofs.loss.Run.{every_loss, GoodLoss, has_lost, has_spared}
use Rattle.grs_world.proofs.loss.View.{IsLeft, IsLosing, unknown, viewed_by}
use Rattle.grs_world.proofs.run.Site.{at_site, Site}
use Rattle.grs_world.proofs.shown.CaughtUp.{answer-tasks, control-tasks, request-tasks, taken-node}
use Rattle.grs_world.proofs.shown.Lists.{shown-listed}
use Rattle.grs_world.proofs.shown.Names.{zero_plus}
use Rattle.grs_world.proofs.shown.Run.{shown_places}
use Rattle.grs_world.proofs.star.Heard.{sent_by}
use Rattle.grs_world.proofs.star.Systems.{AllFit}

-- ---- what a system's tasks come to by the mail of an inbox
module _ (deck : Deck) (words : List ℕ) (s : ℕ) (gone : ℕ → Bool) where
  abbrev with_mail : NodeState → StarPart → Mail → NodeState
  with_mail n p mail = record n {
    tasks = (take_mail deck n.known n.tasks p mail).tasks;
    star = Some (take_mail deck n.known n.tasks p mail).part;
  }

  -- it has the tasks that it would have without these requests
  taking-left : (ms : List Mail) → AllFit deck words s (mail_without gone ms) → (n k : NodeState) (p q : StarPart)
      → n.star ≡ Some p → k.star ≡ Some q → n.tasks ≡ k.tasks
      → (taking deck n (mail_without gone ms)).tasks ≡ (taking deck k ms).tasks
  taking-left [] fit n k p q star star' same = same
  taking-left (Request e from r ∷ ms) fit n k p q star star' same =
      go (gone r.task.system.0) fit (taking-left ms)
    where
      taken : (with_mail k q (Request e from r)).tasks ≡ k.tasks
      taken = request-tasks deck k.known k.tasks q e from r

      goes-on : (x : NodeState) (y : StarPart) → x.star ≡ Some y → x.tasks ≡ k.tasks
          → AllFit deck words s (mail_without gone ms)
          → (AllFit deck words s (mail_without gone ms) → (n k : NodeState) (p q : StarPart) → n.star ≡ Some p
          → k.star ≡ Some q → n.tasks ≡ k.tasks
          → (taking deck n (mail_without gone ms)).tasks ≡ (taking deck k ms).tasks)
          → (taking deck x (mail_without gone ms)).tasks ≡ (taking deck k (Request e from r ∷ ms)).tasks
      goes-on x y is its fit more =
          more fit x (with_mail k q (Request e from r)) y
          (take_mail deck k.known k.tasks q (Request e from r)).part is refl (its ∙ sym taken)
          ∙ sym (ap (λ (z : NodeState). (taking deck z ms).tasks) (taken-node deck k q (Request e from r) star'))

      go : (b : Bool)
          → AllFit deck words s (cond (not b) (Request e from r ∷ mail_without gone ms) (mail_without gone ms))
          → (AllFit deck words s (mail_without gone ms) → (n k : NodeState) (p q : StarPart) → n.star ≡ Some p
          → k.star ≡ Some q → n.tasks ≡ k.tasks
          → (taking deck n (mail_without gone ms)).tasks ≡ (taking deck k ms).tasks)
          → (taking deck n (cond (not b) (Request e from r ∷ mail_without gone ms) (mail_without gone ms))).tasks
          ≡ (taking deck k (Request e from r ∷ ms)).tasks
      go true fit more = goes-on n p star same fit more
      go false fit more =
          ap (λ (z : NodeState). (taking deck z (mail_without gone ms)).tasks)
          (taken-node deck n p (Request e from r) star)
          ∙ goes-on (with_mail n p (Request e from r)) (take_mail deck n.known n.tasks p (Request e from r)).part refl
          (request-tasks deck n.known n.tasks p e from r ∙ same) fit.1 more
  taking-left (Answered t answer rank ∷ ms) fit n k p q star star' same =
      ap (λ (z : NodeState). (taking deck z (mail_without gone ms)).tasks)
      (taken-node deck n p (Answered t answer rank) star)
      ∙ (taking-left ms fit.1 (with_mail n p (Answered t answer rank)) (with_mail k q (Answered t answer rank))
      (take_mail deck n.known n.tasks p (Answered t answer rank)).part
      (take_mail deck k.known k.tasks q (Answered t answer rank)).part refl refl
      (answer-tasks deck n.known n.tasks p t answer rank
      ∙ (ap (λ v. cond (is_for_deck deck (Answered t answer rank)) (after_mail v (Answered t answer rank)) v) same
      ∙ sym (answer-tasks deck k.known k.tasks q t answer rank)))
      ∙ sym (ap (λ (z : NodeState). (taking deck z ms).tasks) (taken-node deck k q (Answered t answer rank) star')))
  taking-left (Granted t r ∷ ms) fit n k p q star star' same =
      ap (λ (z : NodeState). (taking deck z (mail_without gone ms)).tasks) (taken-node deck n p (Granted t r) star)
      ∙ (taking-left ms fit.1 (with_mail n p (Granted t r)) (with_mail k q (Granted t r))
      (take_mail deck n.known n.tasks p (Granted t r)).part (take_mail deck k.known k.tasks q (Granted t r)).part refl
      refl
      (control-tasks deck n.known n.tasks p t r
      ∙ (ap (λ v. cond (is_of_deck deck t) (tell_control v r t) v) same
      ∙ sym (control-tasks deck k.known k.tasks q t r)))
      ∙ sym (ap (λ (z : NodeState). (taking deck z ms).tasks) (taken-node deck k q (Granted t r) star')))
  taking-left (Notice target moved ∷ ms) fit n k p q star star' same = absurd fit.0
  taking-left (Part e from records ∷ ms) fit n k p q star star' same = absurd fit.0

-- a system that has changed shows itself
shown-changed : (deck : Deck) (w : World) (s : SysId) (n : NodeState) (p : StarPart) → n.star ≡ Some p
    → caught_up deck w s n ≡ taking deck n (inbox w.medium s.0)
shown-changed deck w s n p star =
    ap (λ (o : Option StarPart). taking deck (once_changed deck w s n o) (inbox w.medium s.0)) star

-- what these show who show the same, one by one
from-alike : (deck : Deck) (v w : World) (r : Res) → v.medium.removed ≡ w.medium.removed → (s : ℕ)
    → (ns ms : List NodeState) → length ns ≡ length ms →
    ((i : ℕ) (x y : NodeState) → slice_get ns i ≡ Some x → slice_get ms i ≡ Some y
    → has w.medium.removed (s + i) ≡ false →
    on_record deck (caught_up deck v (record { 0 = s + i }) x) r
    ≡ on_record deck (caught_up deck w (record { 0 = s + i }) y) r)
    → shown_from deck v r s ns ≡ shown_from deck w r s ms
from-alike deck v w r removed s [] [] count each = refl
from-alike deck v w r removed s [] (m ∷ ms) count each = absurd (omega (arith, count))
from-alike deck v w r removed s (n ∷ ns) [] count each = absurd (omega (arith, count))
from-alike deck v w r removed s (n ∷ ns) (m ∷ ms) count each =
    ap (λ (b : Bool).
    cond b [] (on_record deck (caught_up deck v (record { 0 = s }) n) r) ++ shown_from deck v r (s + 1) ns)
    (ap (λ i. has i s) removed)
    ∙ (ap (λ (xs : List PartRec). xs ++ shown_from deck v r (s + 1) ns) (here (has w.medium.removed s) refl)
    ∙ ap (λ (xs : List PartRec).
    cond (has w.medium.removed s) [] (on_record deck (caught_up deck w (record { 0 = s }) m) r) ++ xs)
    (from-alike deck v w r removed (s + 1) ns ms (omega (arith, count)) later))
  where
    here : (b : Bool) → has w.medium.removed s ≡ b →
        cond b [] (on_record deck (caught_up deck v (record { 0 = s }) n) r)
        ≡ cond b [] (on_record deck (caught_up deck w (record { 0 = s }) m) r)
    here true e = refl
    here false e =
        let place : s + 0 ≡ s = omega arith in
        subst (λ i.
        on_record deck (caught_up deck v (record { 0 = i }) n) r
        ≡ on_record deck (caught_up deck w (record { 0 = i }) m) r)
        place (each 0 n m refl refl (ap (has w.medium.removed) place ∙ e))

    later : (i : ℕ) (x y : NodeState) → slice_get ns i ≡ Some x → slice_get ms i ≡ Some y
        → has w.medium.removed (s + 1 + i) ≡ false →
        on_record deck (caught_up deck v (record { 0 = s + 1 + i }) x) r
        ≡ on_record deck (caught_up deck w (record { 0 = s + 1 + i }) y) r
    later i x y at at' live =
        let place : s + suc i ≡ s + 1 + i = omega arith in
        subst (λ j.
        on_record deck (caught_up deck v (record { 0 = j }) x) r
        ≡ on_record deck (caught_up deck w (record { 0 = j }) y) r)
        place (each (suc i) x y at at' (ap (has w.medium.removed) place ∙ live))

module _ (deck : Deck) (w : World) (g : IsLosing deck w) (h : HearsOn deck w g) where
  abbrev V : World
  V = viewed_by w g.view g.boxes

  -- who is shown is a live system that is there, with its tasks
  shows : (s : ℕ) (k : NodeState) → Site V s k
      → (n : NodeState) × (slice_get w.nodes s ≡ Some n) × IsLeft w.medium.removed n k
  shows s k site = go (slice_get w.nodes s) refl
    where
      go : (o : Option NodeState) → slice_get w.nodes s ≡ o
          → (n : NodeState) × (slice_get w.nodes s ≡ Some n) × IsLeft w.medium.removed n k
      go None past =
          let beyond = slice_get-past w.nodes s past in
          let within = slice_get_within g.view s k site.at in
          absurd (omega (arith, beyond, within, g.count, g.whole.roles.systems))
      go (Some n) at =
          let o = g.shown s n at site.live in
          (n, at, subst (IsLeft w.medium.removed n) (same_Some o.0 k (sym o.1 ∙ site.at)) o.2)

  as-sent : (s : ℕ) (k : NodeState) (t : TaskId) → Site V s k → is_home_at deck s t ≡ true → sent_by k t ≡ true
      → sent_all w.nodes s t ≡ true
  as-sent s k t site home e =
      let z = shows s k site in
      ap (λ o. sent_at o t) z.1 ∙ (ap (λ (y : NodeState). sent_by y t) (sym z.2.is) ∙ e)

  once : (s : ℕ) (k : NodeState) → slice_get g.view s ≡ Some k → has w.medium.removed s ≡ false
      → (x : NodeState) × (slice_get g.view s ≡ Some x) × (x ≡ once_changed deck V (record { 0 = s }) k k.star)
  once s k at live =
      let z = shows s k (at_site at live) in (
        k,
        at,
        sym (ap (λ (o : Option StarPart). once_changed deck V (record { 0 = s }) k o)
            (ap (λ (y : NodeState). y.star) z.2.is)),
      )

  -- a live system comes to the tasks to which it is shown to come
  same-tasks : (s : ℕ) (k n : NodeState) → slice_get g.view s ≡ Some k → slice_get w.nodes s ≡ Some n
      → has w.medium.removed s ≡ false → (caught_up deck V (record { 0 = s }) k).tasks
      ≡ (caught_up deck w (record { 0 = s }) n).tasks
  same-tasks s k n there at live =
      let o = g.shown s n at live in
      let left : IsLeft w.medium.removed n k =
      subst (IsLeft w.medium.removed n) (same_Some o.0 k (sym o.1 ∙ there)) o.2 in
      let star : k.star ≡ Some (lose_parts left.part (unknown w.medium.removed n)) =
      ap (λ (y : NodeState). y.star) left.is in
      ap (λ (y : NodeState). y.tasks)
      (shown-changed deck V (record { 0 = s }) k (lose_parts left.part (unknown w.medium.removed n)) star)
      ∙ (ap (λ ms. (taking deck k ms).tasks) (g.mail s live)
      ∙ (taking-left deck w.medium.words s (has w.medium.removed) (inbox w.medium s)
      (subst (AllFit deck w.medium.words s) (g.mail s live) (g.whole.system s k (at_site there live)).fits) k n
      (lose_parts left.part (unknown w.medium.removed n)) left.part star left.star
      (ap (λ (y : NodeState). y.tasks) left.is)
      ∙ sym (ap (λ (y : NodeState). y.tasks) (shown-changed deck w (record { 0 = s }) n left.part left.star))))

  same-shown : (r : Res) → shown_from deck V r 0 g.view ≡ shown_from deck w r 0 w.nodes
  same-shown r =
      from-alike deck V w r refl 0 g.view w.nodes (g.whole.roles.systems ∙ sym g.count)
      (λ i k n there at live.
      subst (λ (j : ℕ).
      on_record deck (caught_up deck V (record { 0 = j }) k) r
      ≡ on_record deck (caught_up deck w (record { 0 = j }) n) r)
      (sym (zero_plus i))
      (ap (λ (v : TasksView).
      filter (λ (y : PartRec). same_res r y.res) (records_of (names_of deck v.system) v.tasks))
      (same-tasks i k n there at (ap (has w.medium.removed) (sym (zero_plus i)) ∙ live))))

  pub losing-shown : (r : Res) → is_systems r ≡ true → shown_list deck w r ≡ list_of (lists (items w.fixed)) r
  losing-shown r wide =
      ap (λ (ys : List PartRec). map elem_of (by_rank ys)) (sym (same-shown r))
      ∙ shown-listed deck V g.whole (sent_all w.nodes) (had_all w.medium.removed w.nodes) h.heard h.ranked as-sent r
      wide g.view once refl

pub losses_shown : (deck : Deck) → IsBounded deck → (es : List Event) → NoneTakesEntries deck es
    → (run deck es).medium.star ≡ true → ShownArePlaces deck es
losses_shown deck bounds es none star r wide = by_run (every_loss deck fits es none)
  where
    fits : may_be_star deck ≡ true → FitsStar deck
    fits h = record { few = bounds.fits.few; entries = bounds.entries }

    by_run : GoodLoss deck es (run deck es) → shown_list deck (run deck es) r ≡ places deck es r
    by_run (has_spared spared good) = shown_places deck bounds es spared star r wide
    by_run (has_lost f g told d rest) =
        losing-shown deck (run deck es) g (rest bounds) r wide
        ∙ (ap (λ z. list_of z r) (replayed deck (items (run deck es).fixed) g.whole.right)
        ∙ ap (λ z. list_of (replay deck.limit z) r) (items_are_history (run deck es).fixed).0)
