use Rattle.qel_store.proofs.HeadLemmas.{added_free}
use Rattle.qel_store.proofs.heads.reserve_head.Goals as goal

pub returns-clause-free : goal.returns-clause-free
returns-clause-free c =
    added_free c.args.heads.now.items c.add_head.new.heads.items c.in_ok-number.number c.in_ok-number.ensures.number
    c.in_ok-number.ensures.len c.add_head.ensures.heads
