use Rattle.grs_deck.proofs.EventLaws.{one_text}
use Rattle.grs_top.proofs.EventsAgain.{printed_spell}
use Rattle.grs_display.specs.Names.{names_of}
use Rattle.grs_report.specs.Schedule.{event_line}
use Rattle.std.specs.List.{flat_map}
use Rattle.grs_top.proofs.laws.printed_events.Goals as goal

pub returns-clause-again : goal.returns-clause-again
returns-clause-again c = printed_spell

pub returns-clause-only : goal.returns-clause-only
returns-clause-only c = λ deck es fs h of read.
    one_text deck.systems deck.entries (flat_map (event_line (names_of deck)) es) es fs (printed_spell deck es h of)
    read
