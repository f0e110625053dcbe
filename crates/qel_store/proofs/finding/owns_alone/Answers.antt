use Rattle.std.proofs.Common.{◌∙◌, ap}
use Rattle.grs_base.specs.Lists.{is_shared}
use Rattle.qel_store.specs.Items.{members, is_in, elems_of}
use Rattle.qel_store.proofs.StandingLemmas.{begins-at, owners-at}
use Rattle.qel_store.proofs.finding.owns_alone.Goals as goal

pub returns-in-E : goal.returns-in-E
returns-in-E g c =
    owners-at (elems_of (members (is_in c.args._queue) c.args.elements.now.items)) c.args.first c.requires.first
    (ap is_shared c.in-E.is)

pub is_alone-requires-clause-shared : goal.is_alone-requires-clause-shared
is_alone-requires-clause-shared g c =
    begins-at (elems_of (members (is_in c.args._queue) c.args.elements.now.items)) c.args.first c.requires.first
    ∙ ap is_shared c.in-S.is
