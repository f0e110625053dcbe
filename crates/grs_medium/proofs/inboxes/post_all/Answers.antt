use Rattle.std.proofs.Common.{◌≡◌, vec_len, arith}
use Rattle.grs_medium.proofs.SpaceLaws.{posting-begins, posting-ends, last-has-room, none-left, posting-goes-on}
use Rattle.grs_medium.proofs.inboxes.post_all.Goals as goal

pub systems-init : goal.systems-init
systems-init c = posting-begins c.args.target c.args.moved.now.items c.args.boxes.now.items c.requires.room

pub post-requires : goal.post-requires
post-requires c =
    last-has-room c.args.target c.args.moved.now.items c.args.boxes.now.items c.systems.moved.items
    c.pop.new.self.items c.systems.boxes.items c.in-Some.items c.len.result c.systems.invariant
    c.in-Some.ensures.items (omega arith) c.index_mut-inbox.ensures.value

pub systems-preserved : goal.systems-preserved
systems-preserved c =
    posting-goes-on c.args.target c.args.moved.now.items c.args.boxes.now.items c.systems.moved.items
    c.pop.new.self.items c.systems.boxes.items c.in-Some.items c.len.result c.systems.invariant
    c.in-Some.ensures.items (omega arith) c.index_mut-inbox.ensures.value c.post.new.inbox c.requires.count
    c.post.ensures

pub returns : goal.returns
returns c =
    let none : vec_len c.systems.moved ≡ 0 =
    none-left c.pop.result (vec_len c.systems.moved) c.in_default.is c.pop.ensures.variant in
    posting-ends c.args.target c.args.moved.now.items c.args.boxes.now.items c.systems.moved.items
    c.systems.boxes.items c.systems.invariant (omega (arith, none))
