use Rattle.std.proofs.Common.{◌≡◌, sym, subst, ◌∙◌}
use Rattle.std.specs.Prelude.{IfOk}
use Rattle.grs_track.specs.Track.{Kept, entry_next}
use Rattle.grs_track.specs.Walk.{GoesOnBy, meant}
use Rattle.grs_track.specs.declared.onward.Onward.TheVariants.{Behind}
use Rattle.grs_track.proofs.NextLaws.{release_next, next-ended, next-behind}
use Rattle.grs_track.proofs.WalkLaws.{if_ok}
use Rattle.grs_track.proofs.next.next_by.Goals as goal

pub returns-then-kept : goal.returns-then-kept
returns-then-kept c =
    let ls = meant c.args.resolver.now c.args.task c.args.lines.now in
    let k : Kept = record {
      track = record { asked = c.kept.inside.asked; ended = c.kept.inside.ended; waits = c.kept.inside.waits };
      place = c.kept.inside.cursor.place;
      part = c.kept.inside.cursor.part;
    } in
    subst (λ (x : Kept). IfOk c.release_next.result
    (λ n. n ≡ entry_next c.args.limit c.args.table.now.elements c.args.task ls x.track)) c.kept.view_is
    (if_ok c.release_next.result (λ n. n ≡ release_next c.args.limit c.args.table.now.elements c.args.task ls k.track)
    (λ n. n ≡ entry_next c.args.limit c.args.table.now.elements c.args.task ls k.track)
    (c.release_next.ensures c.args.limit)
    (λ n e. e
    ∙ sym (next-ended c.args.limit c.args.table.now.elements c.args.task ls k.track
    (sym c.is_free.ensures ∙ c.if-not-is_free.false) c.if-kept.true)))

pub returns-in-Behind : goal.returns-in-Behind
returns-in-Behind c =
    let ls = meant c.args.resolver.now c.args.task c.args.lines.now in
    let k : Kept = record {
      track = record { asked = c.kept.inside.asked; ended = c.kept.inside.ended; waits = c.kept.inside.waits };
      place = c.kept.inside.cursor.place;
      part = c.kept.inside.cursor.part;
    } in
    let says : GoesOnBy c.args.limit c.args.table.now.elements c.args.task ls k.track.asked Behind =
    subst (λ (x : Kept). GoesOnBy c.args.limit c.args.table.now.elements c.args.task ls x.track.asked Behind)
    (sym c.kept.view_is)
    (subst (GoesOnBy c.args.limit c.args.table.now.elements c.args.task ls c.args.kept.now.track.asked) c.in-Behind.is
    c.in_ok-onward_in.ensures) in
    subst (λ (x : Kept). IfOk c.release_next-in-Behind.result
    (λ n. n ≡ entry_next c.args.limit c.args.table.now.elements c.args.task ls x.track)) c.kept.view_is
    (if_ok c.release_next-in-Behind.result
    (λ n. n ≡ release_next c.args.limit c.args.table.now.elements c.args.task ls k.track)
    (λ n. n ≡ entry_next c.args.limit c.args.table.now.elements c.args.task ls k.track)
    (c.release_next-in-Behind.ensures c.args.limit)
    (λ n e. e
    ∙ sym (next-behind c.args.limit c.args.table.now.elements c.args.task ls k.track
    (sym c.is_free.ensures ∙ c.if-not-is_free.false) c.if-kept.false says.0 says.1)))
