use Rattle.std.proofs.Common.{◌∙◌, [], arith}
use Rattle.std.proofs.lemmas.List.{get_or_default, length-set}
use Rattle.grs_medium.proofs.InboxLaws.{boxes-same}
use Rattle.grs_medium.proofs.SpaceLaws.{space-more}
use Rattle.grs_medium.proofs.inboxes.make_all_room.Goals as goal

pub loop-s-preserved : goal.loop-s-preserved
loop-s-preserved c = record {
  count = length-set c.loop-s.boxes.items c.loop-s.s c.make_room.new.inbox ∙ c.loop-s.invariant.count;
  mail =
      boxes-same c.loop-s.boxes.items c.loop-s.s c.make_room.new.inbox (omega arith) c.index_mut-inbox.ensures.value
      c.make_room.ensures.mail
      ∙ c.loop-s.invariant.mail;
  room =
      space-more c.args.moved.now c.loop-s.boxes.items c.loop-s.s c.make_room.new.inbox c.as_slice.result.now
      (omega arith)
      (c.as_slice.ensures
      ∙ (c.index-moved-s.is ∙ get_or_default c.args.moved.now c.loop-s.s c.index-moved-s.result [] (omega arith)))
      c.in_ok-make_room.ensures.room c.loop-s.invariant.room;
}

pub returns-in_err-make_room-clause-mail : goal.returns-in_err-make_room-clause-mail
returns-in_err-make_room-clause-mail c =
    boxes-same c.loop-s.boxes.items c.loop-s.s c.make_room.new.inbox (omega arith) c.index_mut-inbox.ensures.value
    c.in_err-make_room.ensures.mail
    ∙ c.loop-s.invariant.mail
