use Rattle.contention_mgr.proofs.InstallLemmas.{installed_untold}
use Rattle.contention_mgr.proofs.install_laws.installed_untold.Goals as goal

pub returns : goal.returns
returns c = installed_untold
