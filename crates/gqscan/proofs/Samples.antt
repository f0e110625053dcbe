-- Worked filters, and the codes of displays that show nothing, one list and more.
use Rattle.std.proofs.Common.{◌≡◌, Some, None, true, false, refl, codes}
use Rattle.grs_base.specs.Looks.{matches}
use Rattle.grs_base.specs.declared.resource.Res.{Res}
use Rattle.grs_base.specs.declared.resource.Res.TheVariants.{Systems}
use Rattle.grs_base.specs.declared.look.Filter.TheVariants.{All, Contended, Named}
use Rattle.grs_base.specs.declared.decision.Code.TheVariants.{C00, C04}
use Rattle.gqscan.specs.Shown.{code_for}

abbrev payroll : Res
payroll = Systems (codes "PAYROLL") (codes "MASTER")

all_pass : matches All payroll false ≡ true
all_pass = refl

nobody_waits : matches Contended payroll false ≡ false
nobody_waits = refl

somebody_waits : matches Contended payroll true ≡ true
somebody_waits = refl

by_qname : matches (Named (Some (codes "PAYROLL")) None) payroll false ≡ true
by_qname = refl

by_rname : matches (Named None (Some (codes "MASTER"))) payroll true ≡ true
by_rname = refl

by_both : matches (Named (Some (codes "PAYROLL")) (Some (codes "MASTER"))) payroll false ≡ true
by_both = refl

another_rname : matches (Named (Some (codes "PAYROLL")) (Some (codes "MASTER2"))) payroll false ≡ false
another_rname = refl

a_front_of_the_rname : matches (Named None (Some (codes "MAST"))) payroll false ≡ false
a_front_of_the_rname = refl

none_shown : code_for 0 ≡ C04
none_shown = refl

one_shown : code_for 1 ≡ C00
one_shown = refl

many_shown : code_for 16384 ≡ C00
many_shown = refl
