-- In star mode the lock words go with the systems, whether they have changed or not; and each that has changed keeps
-- well what it manages.
use Rattle.grs_world.proofs.Common.{◌&&◌, ◌++◌, ◌∙◌, ◌≡◌, ap, arith, Bool, Deck, Event, false, has, has_interest}
use Rattle.grs_world.proofs.Common.{is_interested, is_live, items, length, List, lists, lives, manages, NodeState, None}
use Rattle.grs_world.proofs.Common.{Option, part_by_table, refl, rounds, run, same_Some, slice_get, slice_get-past}
use Rattle.grs_world.proofs.Common.{Some, StarPart, subst, sym, SysId, true, World, ℕ}
use Rattle.grs_world.proofs.move.Changing.{IsChanging, Shown, has_changed, view-read, view-star, waits_yet}
use Rattle.grs_world.proofs.move.Moved.{alive}
use Rattle.grs_world.proofs.move.Sound.{GoodRun, in_ring, in_star}
use Rattle.grs_world.proofs.move.Waiting.{reads, whole_now}
use Rattle.grs_world.proofs.star.Members.{has_manager}
use Rattle.grs_world.proofs.star.Worlds.{live-below}
use Rattle.grs_world.specs.Interest.{WordsGoWithSystems, interest_at, manages_at, part_at}
use Rattle.grs_world.specs.Kept.{IsKeptBy, ManagersKeepWell}
use Rattle.grs_world.proofs.run.Site.{at_site}

module _ (deck : Deck) (w : World) (g : IsChanging deck w) where
  -- a system's part is the one that is shown
  part-shown : (s : SysId) (n k : NodeState) → slice_get w.nodes s.0 ≡ Some n
      → (there : slice_get g.view s.0 ≡ Some k) (unremoved : has w.medium.removed s.0 ≡ false)
      → Shown deck s.0 (items w.fixed) (g.before s.0) (g.due s.0) g.since (g.whole.out s.0) k n →
      part_at deck w s n n.star ≡ (g.whole.roles.node s.0 k (at_site there unremoved)).part
  part-shown s n k at there unremoved (has_changed none) =
      ap (part_at deck w s k) (g.whole.roles.node s.0 k (at_site there unremoved)).star
  part-shown s n k at there unremoved (waits_yet z h is empty) =
      let whole : rounds (items w.fixed) ≡ g.before s.0 ++ (g.due s.0 ++ g.since) =
      whole_now deck w g s z at unremoved k there h is empty in
      let now : part_at deck w s z z.star ≡ part_by_table deck.entries s (lists (g.before s.0 ++ g.due s.0)) =
      ap (part_at deck w s z) h.alone
      ∙ (ap (λ (m : NodeState). part_by_table deck.entries s m.shared)
      (reads deck w g s z at unremoved k there h is empty (alive deck w g s z at unremoved))
      ∙ ap (part_by_table deck.entries s)
      (view-read deck s.0 (items w.fixed) (g.before s.0) (g.due s.0) g.since g.whole.right whole z h).seen.shared) in
      now
      ∙ same_Some (part_by_table deck.entries s (lists (g.before s.0 ++ g.due s.0)))
      (g.whole.roles.node s.0 k (at_site there unremoved)).part
      (sym (ap (λ (m : NodeState). m.star) is
      ∙ view-star deck s.0 (items w.fixed) (g.before s.0) (g.due s.0) g.since g.whole.right whole z h)
      ∙ (g.whole.roles.node s.0 k (at_site there unremoved)).star)

  -- who isn't live has no interest and manages nothing
  none-there : (s : ℕ) → is_live w (record { 0 = s }) ≡ false → lives (length g.view) w.medium.removed s ≡ false
  none-there s out = ap (λ i. lives i w.medium.removed s) (g.whole.roles.systems ∙ sym g.count) ∙ out

  word_interest : (e : ℕ) (s : SysId) (b : Bool) → is_live w s ≡ b → (o : Option NodeState) → slice_get w.nodes s.0 ≡ o
      → is_interested w.medium.words e s.0 ≡ (b && interest_at deck w s o e)
  word_interest e s false out o at = (g.whole.roles.nobody e s.0 (none-there s.0 out)).0
  word_interest e s true there None at =
      let past = slice_get-past w.nodes s.0 at in
      let here = (live-below w s.0 there).0 in
      absurd (omega (arith, past, here))
  word_interest e s true there (Some n) at =
      let unremoved = (live-below w s.0 there).1 in
      let old = g.shown s.0 n at unremoved in
      sym (ap (λ p. has_interest p e) (part-shown s n old.0 at old.1 unremoved old.2)
      ∙ (g.whole.roles.node s.0 old.0 (at_site old.1 unremoved)).fits.interest e)

  word_manages : (e : ℕ) (s : SysId) (b : Bool) → is_live w s ≡ b → (o : Option NodeState) → slice_get w.nodes s.0 ≡ o
      → (b && manages_at deck w s o e) ≡ has_manager w.medium.words e s.0
  word_manages e s false out o at = sym (g.whole.roles.nobody e s.0 (none-there s.0 out)).1
  word_manages e s true there None at =
      let past = slice_get-past w.nodes s.0 at in
      let here = (live-below w s.0 there).0 in
      absurd (omega (arith, past, here))
  word_manages e s true there (Some n) at =
      let unremoved = (live-below w s.0 there).1 in
      let old = g.shown s.0 n at unremoved in
      ap (λ p. manages p e) (part-shown s n old.0 at old.1 unremoved old.2)
      ∙ (g.whole.roles.node s.0 old.0 (at_site old.1 unremoved)).fits.roles e

  -- who has changed is as it is shown
  kept_well : (s : ℕ) (n k : NodeState) (p : StarPart) → slice_get g.view s ≡ Some k → has w.medium.removed s ≡ false
      → n.star ≡ Some p → Shown deck s (items w.fixed) (g.before s) (g.due s) g.since (g.whole.out s) k n → IsKeptBy s p
  kept_well s n k p there unremoved is (has_changed none) =
      let me = g.whole.roles.node s k (at_site there unremoved) in
      subst (IsKeptBy s) (same_Some me.part p (sym me.star ∙ is)) (record { home = me.fits.home; well = me.fits.well })
  kept_well s n k p there unremoved is (waits_yet z h shows empty) =
      absurd (let e : None ≡ Some p = sym h.alone ∙ is in cc)

-- ---- after every list of events
pub good_words : (deck : Deck) (es : List Event) → (run deck es).medium.star ≡ true → GoodRun deck es (run deck es)
    → WordsGoWithSystems deck es
good_words deck es mode (in_ring begins ring g d) = absurd (let e : false ≡ true = sym ring.mode ∙ mode in cc)
good_words deck es mode (in_star f g told d) = record {
  interest = λ e s.
      word_interest deck (run deck es) g e s (is_live (run deck es) s) refl (slice_get (run deck es).nodes s.0) refl;
  manages = λ e s.
      word_manages deck (run deck es) g e s (is_live (run deck es) s) refl (slice_get (run deck es).nodes s.0) refl;
}

pub good_parts : (deck : Deck) (es : List Event) → GoodRun deck es (run deck es) → ManagersKeepWell deck es
good_parts deck es (in_ring begins ring g d) s n p at is =
    absurd (let e : None ≡ Some p = sym (ring.alone s n at) ∙ is in cc)
good_parts deck es (in_star f g told d) s n p at is = by_live (has (run deck es).medium.removed s) refl
  where
    by_live : (b : Bool) → has (run deck es).medium.removed s ≡ b → IsKeptBy s p
    by_live true out = absurd (let e : None ≡ Some p = sym (g.gone s n at out) ∙ is in cc)
    by_live false live =
        let old = g.shown s n at live in kept_well deck (run deck es) g s n old.0 p old.1 live is old.2
