use Rattle.lock_structure.proofs.Others.{lone_is_left}
use Rattle.lock_structure.proofs.laws.lone_is_left.Goals as goal

pub returns : goal.returns
returns c = lone_is_left
