use Rattle.grs_wire.proofs.MaskLaws.{with_code}
use Rattle.grs_wire.proofs.masks.with_system.Goals as goal

pub returns : goal.returns
returns c = with_code c.args.set c.args.system.0 c.requires
