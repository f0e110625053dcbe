-- So control comes in front of notices in every run of a complex that begins in star mode, whichever systems are
-- removed.
use Rattle.grs_world.proofs.Common.{[], ◌&&◌, ◌++◌, ◌<◌, ◌==◌, ◌||◌, ◌∙◌, ◌∷◌, ◌≡◌, ap, Bool, chosen, cond, counted}
use Rattle.grs_world.proofs.Common.{Deck, entries_some, Event, false, filter, first_world, FitsStar, Gathering}
use Rattle.grs_world.proofs.Common.{gathering_at, inbox, is_some, length, List, list_any, Mail, map, nat_lt, NodeState}
use Rattle.grs_world.proofs.Common.{None, Option, or_parts, owed_to, PartRec, prepare, refl, run, same_Some, Some}
use Rattle.grs_world.proofs.Common.{StarPart, subst, sym, SysId, true, World, ℕ}
use Rattle.system_purge.specs.declared.gathers.SentPart.{SentPart}
use Rattle.grs_world.proofs.at_rest.Homes.{homes_run}
use Rattle.grs_world.proofs.gather.Slots.{IsPure, pure_run}
use Rattle.grs_world.proofs.gather.once.Control.{are_coming, are_kept, AreHushed, by_coming, by_keeping, by_notice}
use Rattle.grs_world.proofs.gather.once.Control.{by_owing, Due, is_part_of}
use Rattle.grs_world.proofs.gather.once.Controls.{came-hushed}
use Rattle.grs_world.proofs.gather.once.Run.{acting, no-box, once_run}
use Rattle.grs_world.proofs.gather.way.Boxes.{noticed-some}
use Rattle.grs_world.proofs.gather.way.Parts.{part_run}
use Rattle.grs_world.proofs.gather.way.Run.{entries_run}
use Rattle.grs_world.proofs.gather.way.Scene.{stands}
use Rattle.grs_world.proofs.run.Came.{result_of}
use Rattle.grs_world.proofs.run.Chosen.{came}
use Rattle.grs_world.proofs.run.Each.{each_live, each_run}
use Rattle.grs_world.proofs.run.Laps.{goes_on}
use Rattle.grs_world.proofs.run.Placed.{of_world}
use Rattle.grs_world.proofs.run.Site.{Site}
use Rattle.grs_world.specs.InHands.{ControlComesFirst, is_expected, is_told_late}
use Rattle.grs_world.specs.OnTheWay.{kept_of, last_item, part_from, parts_from, Stance, stance_of}
use Rattle.grs_wire.specs.declared.medium.Mail.TheVariants as mails

-- where none comes or is kept there is none
coming-none : (e u : ℕ) (ms : List Mail) → are_coming e u ms ≡ false → parts_from e ms u ≡ []
coming-none e u [] h = refl
coming-none e u (y ∷ ms) h =
    let both = or_parts (is_part_of e u y) (are_coming e u ms) h in
    ap (λ zs. zs ++ parts_from e ms u) (one y both.0) ∙ coming-none e u ms both.1
  where
    one : (z : Mail) → is_part_of e u z ≡ false → part_from e u z ≡ []
    one (mails.Request x from q) k = refl
    one (mails.Answered t answer rank) k = refl
    one (mails.Granted t r) k = refl
    one (mails.Notice target moved) k = refl
    one (mails.Part x from records) k = ap (λ b. cond b (records ∷ []) []) k

kept-none : (o : Option Gathering) (u : ℕ) → are_kept o u ≡ false → kept_of o u ≡ []
kept-none None u h = refl
kept-none (Some g) u h = ap (map (λ (p : SentPart). p.records)) (none g.parts h)
  where
    none : (ps : List SentPart) → list_any (λ p. p.from.0 == u) ps ≡ false → filter (λ p. p.from.0 == u) ps ≡ []
    none [] k = refl
    none (p ∷ ps) k =
        let both = or_parts (p.from.0 == u) (list_any (λ q. q.from.0 == u) ps) k in
        ap (λ b. cond b (p ∷ filter (λ q. q.from.0 == u) ps) (filter (λ q. q.from.0 == u) ps)) both.0
        ∙ none ps both.1

-- whose part is expected is due
module _ (w : World) (e m u : ℕ) (k z : NodeState) (p q : StarPart) (site_m : Site w m k) (star_m : k.star ≡ Some p)
    (site_u : Site w u z) (star_u : z.star ≡ Some q) (apart : (m == u) ≡ false) where
  due-by : is_expected u (stance_of e p (inbox w.medium m)) (stance_of e q (inbox w.medium u)) ≡ true → Due w e u q
  due-by h =
      by-noticed (is_some (last_item e (inbox w.medium u))) refl (owed_to q e) refl
      (are_coming e u (inbox w.medium m)) refl (are_kept (gathering_at p.gathers e) u) refl h
    where
      by-noticed : (a : Bool) → is_some (last_item e (inbox w.medium u)) ≡ a → (o : Option SysId) → owed_to q e ≡ o
          → (b : Bool) → are_coming e u (inbox w.medium m) ≡ b → (d : Bool)
          → are_kept (gathering_at p.gathers e) u ≡ d
          → (is_some (last_item e (inbox w.medium u))
          || (is_some (owed_to q e)
          || (nat_lt 0 (length (parts_from e (inbox w.medium m) u))
          || nat_lt 0 (length (kept_of (gathering_at p.gathers e) u))))) ≡ true
          → Due w e u q
      by-noticed true is o owes b coming d kept j = by_notice (noticed-some e (inbox w.medium u) ∙ is)
      by-noticed false is (Some to) owes b coming d kept j = by_owing to owes
      by-noticed false is None owes true coming d kept j = by_coming m k p site_m star_m apart coming
      by-noticed false is None owes false coming true kept j = by_keeping m k p site_m star_m apart kept
      by-noticed false is None owes false coming false kept j =
          absurd (let no : false ≡ true =
          sym (ap (λ x.
          x
          || (is_some (owed_to q e)
          || (nat_lt 0 (length (parts_from e (inbox w.medium m) u))
          || nat_lt 0 (length (kept_of (gathering_at p.gathers e) u))))) is
          ∙ (ap (λ (x : Option SysId).
          false
          || (is_some x
          || (nat_lt 0 (length (parts_from e (inbox w.medium m) u))
          || nat_lt 0 (length (kept_of (gathering_at p.gathers e) u))))) owes
          ∙ (ap (λ (x : List (List PartRec)).
          false
          || (false
          || (nat_lt 0 (length x)
          || nat_lt 0 (length (kept_of (gathering_at p.gathers e) u)))))
          (coming-none e u (inbox w.medium m) coming)
          ∙ ap (λ (x : List (List PartRec)). false || (false || (false || nat_lt 0 (length x))))
          (kept-none (gathering_at p.gathers e) u kept)))) ∙ j in cc)

-- ---- the first world, and an event that is only counted
first-hushed : (deck : Deck) → AreHushed deck (first_world deck)
first-hushed deck e u k p inside site star due = ap (is_told_late deck.entries e) (no-box deck u)

counted-hushed : (deck : Deck) (w : World) → AreHushed deck w → AreHushed deck (counted w)
counted-hushed deck w h e u k p inside site star due = h e u k p inside site star (go due)
  where
    go : Due (counted w) e u p → Due w e u p
    go (by_notice x) = by_notice x
    go (by_owing to owes) = by_owing to owes
    go (by_coming m z q at_m star_m apart any) = by_coming m z q at_m star_m apart any
    go (by_keeping m z q at_m star_m apart any) = by_keeping m z q at_m star_m apart any

module _ (deck : Deck) (star : deck.star ≡ true) (fits : FitsStar deck) where
  hushed_run : (es : List Event) → AreHushed deck (run deck es)
  hushed_run =
      each_run deck (λ es (w : World). AreHushed deck w) (first-hushed deck)
      (λ es ev h.
      each_live deck (run deck es) ev (λ (w : World). AreHushed deck w) (counted-hushed deck (run deck es) h)
      (λ n at alive.
      let pure = pure_run deck star es ev.system.0 n at in
      let part = part_run deck star es ev.system.0 n at in
      of_world (run deck es) ev.system n (chosen deck (run deck es).medium ev.system n ev.choice)
      (λ (w : World). AreHushed deck w)
      (came-hushed deck (entries_some deck.entries fits.entries) (run deck es) ev.system n part.part
      (acting deck star fits es ev n at alive) (homes_run deck es ev.system.0 n at) (once_run deck star fits es)
      (subst (IsPure deck.entries) (same_Some pure.part part.part (sym pure.star ∙ part.star)) pure.pure)
      (entries_run deck star fits es) h (goes_on deck es).around ev.choice
      (result_of (run deck es).medium ev.system (prepare deck n ev.choice)) _
      (came deck (run deck es).medium ev.system n alive ev.choice))))

  pub control_run : (es : List Event) → ControlComesFirst deck es
  control_run es e m u M U inside apart is_m is_u h =
      let a = stands (run deck es) e m.0 M is_m in
      let b = stands (run deck es) e u.0 U is_u in
      hushed_run es e u.0 b.node b.part inside b.site b.star
      (due-by (run deck es) e m.0 u.0 a.node b.node a.part b.part a.site a.star b.site b.star apart
      (subst (λ (S : Stance). is_expected u.0 S (stance_of e b.part (inbox (run deck es).medium u.0)) ≡ true) (sym a.is)
      (subst (λ (S : Stance). is_expected u.0 M S ≡ true) (sym b.is) h)))
