use Rattle.std.proofs.Common.{sym, subst}
use Rattle.grs_wire.specs.Decks.{Fits}
use Rattle.grs_track.specs.Tracks.{view_of}
use Rattle.grs_audit.proofs.AskLaws.{removal-some, removal-none}
use Rattle.grs_audit.proofs.asker.removal_of.Goals as goal

pub system_at-requires : goal.system_at-requires
system_at-requires c = subst Fits (sym c.as_slice.ensures) c.requires

pub returns-in-Some : goal.returns-in-Some
returns-in-Some c =
    removal-some (view_of c.args.tracks.now) c.args.by c.args.deck.now.systems c.as_slice.result.now c.cut.result.1.now
    c.args.text.now c.as_slice.ensures c.cut.ensures.behind c.in-Some.target c.in-Some.field-0-1.now
    c.next_removal.result c.next_removal.ensures c.in-Some.ensures.at

pub returns-in-None : goal.returns-in-None
returns-in-None c =
    removal-none (view_of c.args.tracks.now) c.args.by c.args.deck.now.systems c.as_slice.result.now c.cut.result.1.now
    c.args.text.now c.as_slice.ensures c.cut.ensures.behind c.in-None.ensures.at
