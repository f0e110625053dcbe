use Rattle.contention_mgr.proofs.InstallLemmas.{installed_are_well_kept}
use Rattle.contention_mgr.proofs.install_laws.installed_are_well_kept.Goals as goal

pub returns : goal.returns
returns c = installed_are_well_kept
