use Rattle.std.proofs.Common.{◌≡◌, ◌∙◌}
use Rattle.std.specs.Str.{bytes_eq}
use Rattle.grs_base.proofs.NameLaws.{kept-tells}
use Rattle.grs_base.proofs.name.QnamePartialEq.eq.Goals as goal

pub returns : goal.returns
returns c =
    kept-tells _ _ _ _ c.are_same.result c.self.invariant.1 c.other.invariant.1 c.self.invariant.2 c.other.invariant.2
    c.are_same.ensures
    ∙ (λ j. bytes_eq (c.self.view_is j) (c.other.view_is j))
