use Rattle.std.proofs.Common.{◌≡◌, ◌+◌, ◌%◌, true, false, ap, sym, ◌∙◌, arith}
use Rattle.std.proofs.lemmas.Bool.{true≢false}
use Rattle.std.proofs.lemmas.Nat.{mod_below}
use Rattle.grs_base.specs.Names.{is_rname}
use Rattle.grs_gen.specs.Generated.{numbered}
use Rattle.grs_gen.proofs.DeckLaws.{rname_good}
use Rattle.grs_gen.proofs.generated.rname.Goals as goal

pub unreachable-requires : goal.unreachable-requires
unreachable-requires c =
    let bad : is_rname c.as_slice.result.now ≡ false = c.new.ensures.bad.0 (cc) in
    let same : c.as_slice.result.now ≡ numbered 82 ((c.args.task + c.args.asked) % 16) =
    c.as_slice.ensures ∙ c.in_ok-bytes.ensures in
    let good : is_rname (numbered 82 ((c.args.task + c.args.asked) % 16)) ≡ true =
    rname_good ((c.args.task + c.args.asked) % 16) (mod_below (c.args.task + c.args.asked) 16 (omega arith)) in
    true≢false (sym good ∙ sym (ap is_rname same) ∙ bad)
