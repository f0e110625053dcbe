use Rattle.std.proofs.Common.{List, sym, subst}
use Rattle.grs_wire.specs.Decks.{IsDeck}
use Rattle.grs_wire.specs.declared.deck.Event.{Event}
use Rattle.grs_top.proofs.DueLemmas.{bare_deck}
use Rattle.grs_top.proofs.due.set_apart.Goals as goal

pub returns-clause-fits : goal.returns-clause-fits
returns-clause-fits c =
    subst (λ (es : List Event). IsDeck (record c.args.deck { events = es })) (sym c.new.ensures)
    (bare_deck c.args.deck c.requires)
