use Rattle.std.proofs.Common.{◌≡◌, ◌+◌, ◌-◌, Some, ap, sym, ◌∙◌}
use Rattle.std.specs.Prelude.{slice_get}
use Rattle.grs_base.specs.declared.look.Place.TheVariants.{Slice}
use Rattle.grs_legal.specs.Asks.{AsksLook, looks_in}
use Rattle.grs_track.proofs.WalkLaws.{home-later, home-none, if_ok}
use Rattle.grs_track.proofs.onward.place_in.Goals as goal

pub returns-else-part-eq0 : goal.returns-else-part-eq0
returns-else-part-eq0 c =
    if_ok c.slice_behind.result (λ p. p ≡ Slice (c.args.display.now.first + (c.args.part - 1)))
    (λ p. slice_get (looks_in c.args.display.now) c.args.part ≡ Some (AsksLook p c.args.display.now.filter))
    c.slice_behind.ensures
    (λ p e. home-later c.args.display.now c.in-Some.system c.args.part c.in-Some.is c.if-part-eq0.false c.requires
    ∙ ap (λ q. Some (AsksLook q c.args.display.now.filter)) (sym e))

pub returns-in-None : goal.returns-in-None
returns-in-None c =
    if_ok c.slice_behind-in-None.result (λ p. p ≡ Slice (c.args.display.now.first + c.args.part))
    (λ p. slice_get (looks_in c.args.display.now) c.args.part ≡ Some (AsksLook p c.args.display.now.filter))
    c.slice_behind-in-None.ensures
    (λ p e. home-none c.args.display.now c.args.part c.in-None.is c.requires
    ∙ ap (λ q. Some (AsksLook q c.args.display.now.filter)) (sym e))
