use Rattle.grs_known.proofs.known.Fitting.{reply_fits}
use Rattle.grs_known.proofs.laws.reply_fits.Goals as goal

pub returns : goal.returns
returns c = reply_fits
