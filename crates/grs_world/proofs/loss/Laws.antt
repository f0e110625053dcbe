-- What else holds of runs of which no event removes, in star mode, a system that manages a lock entry: words go with
-- the systems, managers keep well what they have, tables are those of fronts, and what is passed is told.
use Rattle.grs_world.proofs.Common.{◌&&◌, ◌∙◌, ◌≡◌, and_parts, ap, arith, Bool, Deck, Event, false, FitsStar, has}
use Rattle.grs_world.proofs.Common.{has_interest, is_interested, is_live, is_none, length, List, lives, manages}
use Rattle.grs_world.proofs.Common.{may_be_star, no_truth, NodeState, None, Option, OrdersFit, refl, run, same_Some}
use Rattle.grs_world.proofs.Common.{slice_get, slice_get-past, slice_index_or, Some, StarPart, sym, SysId, true, World}
use Rattle.grs_world.proofs.Common.{ℕ}
use Rattle.grs_world.specs.InStar.{NoneTakesEntries}
use Rattle.grs_world.specs.Interest.{interest_at, manages_at, part_at, WordsGoWithSystems}
use Rattle.grs_world.specs.Kept.{IsKeptBy, ManagersKeepWell}
use Rattle.grs_world.specs.Passed.{PassedIsTold}
use Rattle.grs_known.specs.Parts.{systems_part}
use Rattle.grs_wire.specs.History.{answered, replay}
use Rattle.grs_world.specs.Tables.{processed, TablesAreFronts}
use Rattle.grs_world.proofs.at_rest.Passing.{good_desks, passed-by}
use Rattle.grs_world.proofs.loss.Losing.{lose_parts, lost-interest, manages-lost}
use Rattle.grs_world.proofs.loss.Run.{every_loss, GoodLoss, has_lost, has_spared, loss_told}
use Rattle.grs_world.proofs.loss.View.{IsLosing, kept-by, unknown}
use Rattle.grs_world.proofs.move.Roles.{good_parts, good_words}
use Rattle.grs_world.proofs.run.Desks.{GoodDesks}
use Rattle.grs_world.proofs.run.Fronts.{good_tables}
use Rattle.grs_world.proofs.run.Site.{at_site}
use Rattle.grs_world.proofs.star.Members.{has_manager}
use Rattle.grs_world.proofs.star.Worlds.{live-below}

module _ (deck : Deck) (w : World) (g : IsLosing deck w) where
  -- who isn't live has no interest and manages nothing
  none-there : (s : ℕ) → is_live w (record { 0 = s }) ≡ false → lives (length g.view) w.medium.removed s ≡ false
  none-there s out = ap (λ i. lives i w.medium.removed s) (g.whole.roles.systems ∙ sym g.count) ∙ out

  module _ (s : SysId) (n : NodeState) (at : slice_get w.nodes s.0 ≡ Some n) (live : has w.medium.removed s.0 ≡ false)
    where
      abbrev p : StarPart
      p = (g.shown s.0 n at live).2.part

      part-is : part_at deck w s n n.star ≡ (g.shown s.0 n at live).2.part
      part-is = ap (part_at deck w s n) (g.shown s.0 n at live).2.star

      shown-is : (g.whole.roles.node s.0 (g.shown s.0 n at live).0 (at_site (g.shown s.0 n at live).1 live)).part
          ≡ lose_parts (g.shown s.0 n at live).2.part (unknown w.medium.removed n)
      shown-is =
          same_Some
          (g.whole.roles.node s.0 (g.shown s.0 n at live).0 (at_site (g.shown s.0 n at live).1 live)).part
          (lose_parts p (unknown w.medium.removed n))
          (sym (g.whole.roles.node s.0 (g.shown s.0 n at live).0 (at_site (g.shown s.0 n at live).1 live)).star
          ∙ ap (λ (z : NodeState). z.star) (g.shown s.0 n at live).2.is)

      interest-is : (e : ℕ) → has_interest (part_at deck w s n n.star) e ≡ is_interested w.medium.words e s.0
      interest-is e =
          ap (λ (q : StarPart). has_interest q e) part-is
          ∙ (ap (λ bs. slice_index_or bs e false) (sym (lost-interest p (unknown w.medium.removed n)))
          ∙ (ap (λ (q : StarPart). has_interest q e) (sym shown-is)
          ∙ (g.whole.roles.node s.0 (g.shown s.0 n at live).0 (at_site (g.shown s.0 n at live).1 live)).fits.interest e))

      manages-is : (e : ℕ) → manages (part_at deck w s n n.star) e ≡ has_manager w.medium.words e s.0
      manages-is e =
          ap (λ (q : StarPart). manages q e) part-is
          ∙ (sym (manages-lost p (unknown w.medium.removed n) e)
          ∙ (ap (λ (q : StarPart). manages q e) (sym shown-is)
          ∙ (g.whole.roles.node s.0 (g.shown s.0 n at live).0 (at_site (g.shown s.0 n at live).1 live)).fits.roles e))

  word-interest : (e : ℕ) (s : SysId) (b : Bool) → is_live w s ≡ b → (o : Option NodeState) → slice_get w.nodes s.0 ≡ o
      → is_interested w.medium.words e s.0 ≡ (b && interest_at deck w s o e)
  word-interest e s false out o at = (g.whole.roles.nobody e s.0 (none-there s.0 out)).0
  word-interest e s true there None at =
      let past = slice_get-past w.nodes s.0 at in
      let here = (live-below w s.0 there).0 in
      absurd (omega (arith, past, here))
  word-interest e s true there (Some n) at = sym (interest-is s n at (live-below w s.0 there).1 e)

  word-manages : (e : ℕ) (s : SysId) (b : Bool) → is_live w s ≡ b → (o : Option NodeState) → slice_get w.nodes s.0 ≡ o
      → (b && manages_at deck w s o e) ≡ has_manager w.medium.words e s.0
  word-manages e s false out o at = sym (g.whole.roles.nobody e s.0 (none-there s.0 out)).1
  word-manages e s true there None at =
      let past = slice_get-past w.nodes s.0 at in
      let here = (live-below w s.0 there).0 in
      absurd (omega (arith, past, here))
  word-manages e s true there (Some n) at = manages-is s n at (live-below w s.0 there).1 e

pub losses_words : (deck : Deck) → (may_be_star deck ≡ true → FitsStar deck) → (es : List Event)
    → NoneTakesEntries deck es → (run deck es).medium.star ≡ true → WordsGoWithSystems deck es
losses_words deck fits es none mode = by-run (every_loss deck fits es none)
  where
    by-run : GoodLoss deck es (run deck es) → WordsGoWithSystems deck es
    by-run (has_spared spared good) = good_words deck es mode good
    by-run (has_lost f g told d rest) = record {
      interest = λ e s.
          word-interest deck (run deck es) g e s (is_live (run deck es) s) refl (slice_get (run deck es).nodes s.0)
          refl;
      manages = λ e s.
          word-manages deck (run deck es) g e s (is_live (run deck es) s) refl (slice_get (run deck es).nodes s.0) refl;
    }

pub losses_parts : (deck : Deck) → (may_be_star deck ≡ true → FitsStar deck) → (es : List Event)
    → NoneTakesEntries deck es → ManagersKeepWell deck es
losses_parts deck fits es none s n p at is = by-run (every_loss deck fits es none)
  where
    by-run : GoodLoss deck es (run deck es) → IsKeptBy s p
    by-run (has_spared spared good) = good_parts deck es good s n p at is
    by-run (has_lost f g told d rest) = by-live (has (run deck es).medium.removed s) refl
      where
        by-live : (b : Bool) → has (run deck es).medium.removed s ≡ b → IsKeptBy s p
        by-live true out = g.gone s n p at out is
        by-live false live = kept-by deck (run deck es) g s n p at live is

-- who has changed keeps no table
pub losses_tables : (deck : Deck) → (may_be_star deck ≡ true → FitsStar deck) → (es : List Event)
    → NoneTakesEntries deck es → TablesAreFronts deck es
losses_tables deck fits es none s n at keeps = by-run (every_loss deck fits es none)
  where
    by-run : GoodLoss deck es (run deck es)
        → n.shared ≡ systems_part (replay deck.limit (answered (processed (run deck es) s)))
    by-run (has_spared spared good) = good_tables deck es good s n at keeps
    by-run (has_lost f g told d rest) =
        let both = and_parts (is_live (run deck es) s) (is_none n.star) keeps in
        no_truth (is_none n.star) both.1
        (ap is_none (g.shown s.0 n at (live-below (run deck es) s.0 both.0).1).2.star)

loss_desks : (deck : Deck) (es : List Event) (w : World) → GoodLoss deck es w → GoodDesks deck w
loss_desks deck es w (has_spared spared good) = good_desks deck es w good
loss_desks deck es w (has_lost f g told d rest) = d

pub losses_passed : (deck : Deck) → (may_be_star deck ≡ true → FitsStar deck) → OrdersFit deck → (es : List Event)
    → NoneTakesEntries deck es → PassedIsTold deck es
losses_passed deck fits fit es none =
    let here = every_loss deck fits es none in
    passed-by deck fit es (loss_told deck es (run deck es) here) (loss_desks deck es (run deck es) here)
