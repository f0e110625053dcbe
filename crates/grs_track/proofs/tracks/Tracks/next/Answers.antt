use Rattle.std.proofs.Common.{◌≡◌, List, Some, ap, sym, subst, ◌∙◌}
use Rattle.std.specs.Map.{lookup}
use Rattle.std.specs.Prelude.{IfOk, option_copied}
use Rattle.grs_base.specs.Same.{same_task}
use Rattle.grs_base.specs.declared.line.Line.{Line}
use Rattle.grs_track.specs.Track.{Kept, kept_in, entry_next}
use Rattle.grs_track.specs.Tracks.{TracksValue, view_of, is_removed, next_of, lines_or_none}
use Rattle.grs_track.specs.Walk.{IsInLines, meant}
use Rattle.grs_track.proofs.NextLaws.{next-lines}
use Rattle.grs_track.proofs.WalkLaws.{if_ok}
use Rattle.grs_track.proofs.tracks.Tracks.next.Goals as goal

pub next_by-requires : goal.next_by-requires
next_by-requires c =
    subst (λ (k : Kept). IsInLines c.as_slice-in-Some.result.now k) (sym c.kept_or-kept.ensures)
    (subst (λ (ls : List Line). IsInLines ls (kept_in (lookup (same_task c.args.task) c.self.inside.kept.entries)))
    (ap lines_or_none
    (sym (ap (λ x. Some x) c.as_slice-in-Some.ensures ∙ ap option_copied (sym c.in-Some.is) ∙ c.lines_of.ensures)))
    (c.self.invariant.1 c.args.task))

pub returns-in-Some : goal.returns-in-Some
returns-in-Some c =
    let v : TracksValue = record {
      deck = c.self.inside.deck.now;
      lists = c.self.inside.table.elements;
      removed = c.self.inside.removed;
      kept = c.self.inside.kept.entries;
    } in
    subst (λ (x : TracksValue). IfOk c.next_by.result (λ n. n ≡ next_of (view_of x) c.args.task)) c.self.view_is
    (if_ok c.next_by.result
    (λ n. n ≡ entry_next c.self.inside.deck.now.limit c.self.inside.table.elements c.args.task
    (meant c.self.inside.resolver c.args.task c.as_slice-in-Some.result.now) c.kept_or-kept.result.now.track)
    (λ n. n ≡ next_of (view_of v) c.args.task) c.next_by.ensures
    (λ n e. e
    ∙ sym (next-lines (view_of v) c.args.task c.as_slice-in-Some.result.now c.self.inside.resolver
    c.kept_or-kept.result.now.track
    (ap (λ x. is_removed x c.args.task.system) (sym c.as_slice.ensures)
    ∙ sym c.is_removed.ensures
    ∙ c.if-is_removed.false)
    (ap (λ x. Some x) c.as_slice-in-Some.ensures ∙ ap option_copied (sym c.in-Some.is) ∙ c.lines_of.ensures)
    c.self.invariant.0 (ap (λ (k : Kept). k.track) c.kept_or-kept.ensures))))
