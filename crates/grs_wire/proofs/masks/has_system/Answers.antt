use Rattle.grs_wire.proofs.MaskLaws.{has_code}
use Rattle.grs_wire.proofs.masks.has_system.Goals as goal

pub returns : goal.returns
returns c = has_code c.args.set c.args.system.0 c.requires
