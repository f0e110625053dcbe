-- What a task asks for is the same as itself, so that a system finds its own request again.
use Rattle.std.proofs.Common.{◌≡◌, ℕ, true, false, Some, None, refl, ◌∙◌, arith}
use Rattle.std.proofs.lemmas.Bool.{eq-eqb}
use Rattle.std.specs.Prelude.{◌==◌}
use Rattle.std.proofs.lemmas.Slice.Eq.{bytes_eq-Decides}
use Rattle.grs_base.proofs.SameLaws.{derived-same, same_res-itself}
use Rattle.grs_base.specs.contracts.look.FilterPartialEq.TheImpl.{eq-value as same_filter}
use Rattle.grs_base.specs.contracts.resource.CtlPartialEq.TheImpl.{eq-value as same_ctl}
use Rattle.grs_base.specs.contracts.resource.RetPartialEq.TheImpl.{eq-value as same_ret}
use Rattle.grs_base.specs.declared.look.Filter.{Filter}
use Rattle.grs_base.specs.declared.look.Filter.TheVariants.{All, Contended, Named}
use Rattle.grs_base.specs.declared.resource.Ctl.{Ctl}
use Rattle.grs_base.specs.declared.resource.Ctl.TheVariants.{E, S}
use Rattle.grs_base.specs.declared.resource.Ret.{Ret}
use Rattle.grs_base.specs.declared.resource.Ret.TheVariants.{RetNone, RetUse, RetHave, RetTest, RetChng, RetEcb}
use Rattle.grs_wire.specs.contracts.request.WantPartialEq.TheImpl.{eq-value as same_want}
use Rattle.grs_wire.specs.declared.request.Want.{Want}
use Rattle.grs_wire.specs.declared.request.Want.TheVariants.{Enq, Deq, Release, Look}

ctl-itself : (c : Ctl) → same_ctl.it c c ≡ true
ctl-itself E = refl
ctl-itself S = refl

ret-itself : (x : Ret) → same_ret.it x x ≡ true
ret-itself RetNone = refl
ret-itself RetUse = refl
ret-itself RetHave = refl
ret-itself RetTest = refl
ret-itself RetChng = refl
ret-itself RetEcb = refl

filter-itself : (f : Filter) → same_filter.it f f ≡ true
filter-itself All = refl
filter-itself Contended = refl
filter-itself (Named None None) = refl
filter-itself (Named None (Some r)) = (bytes_eq-Decides r r).1 refl
filter-itself (Named (Some q) None) = rw ((bytes_eq-Decides q q).1 refl) refl
filter-itself (Named (Some q) (Some r)) = rw ((bytes_eq-Decides q q).1 refl) ((bytes_eq-Decides r r).1 refl)

number-itself : (n : ℕ) → (n == n) ≡ true
number-itself n = grind (arith, eq-eqb)

pub want-itself : (w : Want) → same_want.it w w ≡ true
want-itself (Enq r c ret true) = rw (derived-same r r, same_res-itself r, ctl-itself c, ret-itself ret) refl
want-itself (Enq r c ret false) = rw (derived-same r r, same_res-itself r, ctl-itself c, ret-itself ret) refl
want-itself (Deq r true) = rw (derived-same r r, same_res-itself r) refl
want-itself (Deq r false) = rw (derived-same r r, same_res-itself r) refl
want-itself (Release r) = derived-same r r ∙ same_res-itself r
want-itself (Look a n f) = rw (number-itself a, number-itself n) (filter-itself f)
