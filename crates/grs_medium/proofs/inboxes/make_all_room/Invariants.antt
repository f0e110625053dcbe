use Rattle.std.proofs.Common.{◌≡◌, length}
use Rattle.grs_medium.proofs.InboxLaws.{mail_in}
use Rattle.grs_medium.proofs.SpaceLaws.{SpaceBelow}
use Rattle.grs_medium.proofs.inboxes.make_all_room.Given as goal

abbrev pub invariant-loop-s : goal.invariant-loop-s
invariant-loop-s l = record {
  count : length l.boxes.items ≡ length l.initial.boxes.items;
  mail : mail_in l.boxes.items ≡ mail_in l.initial.boxes.items;
  room : SpaceBelow l.s l.moved l.boxes.items;
}
