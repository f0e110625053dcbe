use Rattle.std.proofs.Common.{◌≡◌, ◌∙◌, ◌==◌, true, arith}
use Rattle.std.proofs.lemmas.Bool.Decides.{nat_tests}
use Rattle.grs_base.specs.Slices.{entry_of}
use Rattle.contention_mgr.proofs.SlotLemmas.{are-next}
use Rattle.contention_mgr.proofs.manager.are_of.Goals as goal

pub slices-preserved : goal.slices-preserved
slices-preserved c =
    let here : (c.args.entry == entry_of c.slices.slice c.args.entries) ≡ true =
    grind (arith, nat_tests, c.entry_of.ensures.value, c.if-entry_of-entry.false) in
    record {
      there = omega (arith, c.slices.invariant.there, c.slices-test.true);
      same =
          are-next c.args.entries c.args.entry c.slices.slice c.slices.left (omega (arith, c.slices-test.true)) here
          ∙ c.slices.invariant.same;
    }
