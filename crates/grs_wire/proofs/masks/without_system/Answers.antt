use Rattle.grs_wire.proofs.MaskLaws.{without_code}
use Rattle.grs_wire.proofs.masks.without_system.Goals as goal

pub returns : goal.returns
returns c = without_code c.args.set c.args.system.0 c.requires c.ranges.set.fits
