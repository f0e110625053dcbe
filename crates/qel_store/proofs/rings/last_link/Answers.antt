use Rattle.std.proofs.Common.{sym, ◌∙◌, arith}
use Rattle.qel_store.proofs.ItemLemmas.{has_key-found}
use Rattle.qel_store.proofs.rings.last_link.Goals as goal

pub get-requires : goal.get-requires
get-requires g c = sym (has_key-found c.args.elements.now.items c.args.ring.first) ∙ c.requires (omega arith)
