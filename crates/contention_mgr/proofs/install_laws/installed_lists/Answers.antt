use Rattle.contention_mgr.proofs.InstallLemmas.{installed_lists}
use Rattle.contention_mgr.proofs.install_laws.installed_lists.Goals as goal

pub returns : goal.returns
returns c = installed_lists
