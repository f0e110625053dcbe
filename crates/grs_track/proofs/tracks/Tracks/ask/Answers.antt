use Rattle.std.proofs.Common.{◌≡◌, List, cond, Some, ap, sym, subst, ◌∙◌}
use Rattle.std.specs.Map.{lookup}
use Rattle.grs_base.specs.Same.{same_task}
use Rattle.grs_base.specs.declared.line.Line.{Line}
use Rattle.grs_track.specs.Track.{Kept, track_in, track_behind}
use Rattle.grs_track.specs.Tracks.{TracksValue, script_of}
use Rattle.grs_track.specs.Walk.{IsInLines}
use Rattle.grs_track.proofs.NextLaws.{kept-put}
use Rattle.grs_track.proofs.tracks.Tracks.ask.Goals as goal

pub kept_behind-requires : goal.kept_behind-requires
kept_behind-requires c =
    subst (λ (ls : List Line). IsInLines ls c.kept_or.result.now) (sym c.script_of-lines.ensures)
    (subst (λ (k : Kept). IsInLines (script_of c.self.inside.deck.now c.args.task) k) (sym c.kept_or.ensures)
    (c.self.invariant.1 c.args.task))

pub returns-clause-tracks : goal.returns-clause-tracks
returns-clause-tracks c = λ t.
    subst (λ (x : TracksValue). track_in (lookup (same_task t) c.put_kept.new.all.entries)
    ≡ cond (same_task t c.args.task) (track_behind (track_in (lookup (same_task t) x.kept)) c.args.entry.now)
    (track_in (lookup (same_task t) x.kept))) c.self.view_is
    (kept-put c.args.task t c.args.entry.now c.in_ok-kept.kept c.self.inside.kept.entries
    c.put_kept.new.all.entries
    (c.in_ok-kept.ensures.track ∙ ap (λ k. track_behind k.track c.args.entry.now) c.kept_or.ensures)
    (c.put_kept.ensures t
    ∙ ap (λ es. cond (same_task c.args.task t) (Some c.in_ok-kept.kept) (lookup (same_task t) es))
    c.in_ok-reserve_kept.ensures.same))
