use Rattle.std.proofs.Common.{arith}
use Rattle.grs_base.proofs.NameLaws.{take-kept, padded-kept, qname-kept}
use Rattle.grs_base.proofs.name.Qname.new.Goals as goal

pub invariant_of-result : goal.invariant_of-result
invariant_of-result c =
    let bytes = c.args.bytes.now in
    let kept = c.with_blanks.result in
    let end = c.trimmed_len-end.result in
    let len = c.trimmed_len-end.ensures.len in (
      omega (arith, c.trimmed_len-end.ensures.within, c.if-bytes-gt-MOST_QNAME_BYTES.false),
      qname-kept bytes kept end len c.with_blanks.ensures (omega (arith, c.if-bytes-gt-MOST_QNAME_BYTES.false))
          (omega (arith, c.if-end-eq0.false)),
      padded-kept bytes kept end len c.with_blanks.ensures,
    )

pub returns-clause-value : goal.returns-clause-value
returns-clause-value c =
    take-kept c.args.bytes.now c.with_blanks.result c.trimmed_len-end.result c.trimmed_len-end.ensures.len
    c.with_blanks.ensures
