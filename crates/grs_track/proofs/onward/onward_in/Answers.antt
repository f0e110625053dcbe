use Rattle.std.proofs.Common.{◌≡◌, sym, ◌∙◌}
use Rattle.grs_track.specs.Track.{Track}
use Rattle.grs_track.specs.Walk.{stand}
use Rattle.grs_track.specs.declared.walk.Stand.TheVariants.{At, Held, Behind}
use Rattle.grs_track.proofs.CursorLaws.{stand-kept}
use Rattle.grs_track.proofs.WalkLaws.{found, line-left, line-entry}
use Rattle.grs_track.proofs.onward.onward_in.Goals as goal

pub entry_at-requires : goal.entry_at-requires
entry_at-requires c =
    let k : Track =
    record { asked = c.kept.inside.asked; ended = c.kept.inside.ended; waits = c.kept.inside.waits } in
    line-left c.args.table.now.elements c.args.task c.args.resolver.now c.args.lines.now c.args.kept.now.track.asked
    c.in-At.place c.in-At.part
    (found c.args.table.now.elements c.args.task c.args.resolver.now c.args.lines.now c.args.kept.now.track.asked
    (At c.in-At.place c.in-At.part)
    (sym c.in-At.is
    ∙ c.in_ok-stand_in.ensures
    ∙ sym (stand-kept c.args.table.now.elements c.args.task c.args.resolver.now c.args.lines.now k
    c.kept.inside.cursor.place c.kept.inside.cursor.part c.args.kept.now c.kept.view_is c.requires)))

pub returns-in-Held : goal.returns-in-Held
returns-in-Held c =
    let k : Track =
    record { asked = c.kept.inside.asked; ended = c.kept.inside.ended; waits = c.kept.inside.waits } in
    found c.args.table.now.elements c.args.task c.args.resolver.now c.args.lines.now c.args.kept.now.track.asked Held
    (sym c.in-Held.is
    ∙ c.in_ok-stand_in.ensures
    ∙ sym (stand-kept c.args.table.now.elements c.args.task c.args.resolver.now c.args.lines.now k
    c.kept.inside.cursor.place c.kept.inside.cursor.part c.args.kept.now c.kept.view_is c.requires))

pub returns-in-Behind : goal.returns-in-Behind
returns-in-Behind c =
    let k : Track =
    record { asked = c.kept.inside.asked; ended = c.kept.inside.ended; waits = c.kept.inside.waits } in
    found c.args.table.now.elements c.args.task c.args.resolver.now c.args.lines.now c.args.kept.now.track.asked Behind
    (sym c.in-Behind.is
    ∙ c.in_ok-stand_in.ensures
    ∙ sym (stand-kept c.args.table.now.elements c.args.task c.args.resolver.now c.args.lines.now k
    c.kept.inside.cursor.place c.kept.inside.cursor.part c.args.kept.now c.kept.view_is c.requires))

pub returns-in_ok-entry_at-in-At : goal.returns-in_ok-entry_at-in-At
returns-in_ok-entry_at-in-At c =
    let k : Track =
    record { asked = c.kept.inside.asked; ended = c.kept.inside.ended; waits = c.kept.inside.waits } in
    let says = found c.args.table.now.elements c.args.task c.args.resolver.now c.args.lines.now
    c.args.kept.now.track.asked (At c.in-At.place c.in-At.part)
    (sym c.in-At.is
    ∙ c.in_ok-stand_in.ensures
    ∙ sym (stand-kept c.args.table.now.elements c.args.task c.args.resolver.now c.args.lines.now k
    c.kept.inside.cursor.place c.kept.inside.cursor.part c.args.kept.now c.kept.view_is c.requires)) in (
      says.0,
      line-entry c.args.limit c.args.table.now.elements c.args.task c.args.resolver.now c.args.lines.now
          c.args.kept.now.track.asked c.in-At.place c.in-At.part c.in_ok-entry_at-in-At.field-0 says
          c.in_ok-entry_at-in-At.ensures,
    )
