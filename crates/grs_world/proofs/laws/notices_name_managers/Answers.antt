use Rattle.grs_world.proofs.gather.Notices.{notices_name}
use Rattle.grs_world.proofs.laws.notices_name_managers.Goals as goal

pub returns : goal.returns
returns c = notices_name
