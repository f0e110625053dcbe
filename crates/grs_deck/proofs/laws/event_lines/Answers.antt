use Rattle.grs_deck.proofs.EventLaws.{one_text, events_added}
use Rattle.grs_deck.proofs.laws.event_lines.Goals as goal

pub returns-clause-one : goal.returns-clause-one
returns-clause-one c = one_text

pub returns-clause-added : goal.returns-clause-added
returns-clause-added c = events_added
