-- What callers see of the lists of one system.
use Rattle.grs_base.specs.State.{State}
use Rattle.grs_base.specs.declared.resource.SysId.{SysId}

-- the system, and the elements in its lists, with their resources, in order of arrival
pub record LocalView : Type 0 where
  pub system : SysId
  pub elements : State
