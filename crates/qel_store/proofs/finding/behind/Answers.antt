use Rattle.std.proofs.Common.{◌∙◌, sym}
use Rattle.qel_store.specs.Items.{members, is_in}
use Rattle.qel_store.proofs.ItemLemmas.{keys_apart-members}
use Rattle.qel_store.proofs.StandingLemmas.{behind-all}
use Rattle.qel_store.proofs.finding.behind.Goals as goal

pub returns-then-head-eq0 : goal.returns-then-head-eq0
returns-then-head-eq0 g c =
    c.new-tasks.ensures
    ∙ sym (behind-all (members (is_in c.args._queue) c.args.elements.now.items) c.args._task c.args.key
    (sym c.requires.exclusives ∙ c.if-head-eq0.true)
    (keys_apart-members (is_in c.args._queue) c.args.elements.now.items c.requires.circle.apart) c.requires.key)
