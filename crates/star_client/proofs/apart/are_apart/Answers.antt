use Rattle.star_client.proofs.ApartLaws.{apart_behind-none}
use Rattle.star_client.proofs.apart.are_apart.Goals as goal

pub loop-elem-init : goal.loop-elem-init
loop-elem-init c = apart_behind-none c.new-tasks.result.keys c.args.elems.now c.new-tasks.ensures.len
