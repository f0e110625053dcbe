-- Which resource a request is for: what the name lists make of its scope.
use Rattle.std.specs.Prelude.{ℕ, Bool, true, false, List, if◌then◌else◌, is_some}
use Rattle.grs_base.specs.Rnl.{RnlView}
use Rattle.grs_base.specs.declared.rnl.Lists.{Lists}
use Rattle.grs_base.specs.declared.resource.SysId.{SysId}
use Rattle.grs_base.specs.declared.resource.Res.{Res}
use Rattle.grs_base.specs.declared.resource.Res.TheVariants as kinds
use Rattle.grs_base.specs.declared.line.Scope.{Scope}
use Rattle.grs_base.specs.declared.line.Scope.TheVariants.{Step, System, Systems}
use Rattle.rnl_match.specs.Matches.{find}
use Rattle.scope_resolve.specs.declared.decide.Resolved.{Resolved}

-- whether some entry of a list matches
abbrev pub is_listed : RnlView → List ℕ → List ℕ → Bool
is_listed list q r = is_some (find list q r)

-- a request for the whole complex: the exclusion list keeps it in its system
abbrev pub unless_excluded : Lists → List ℕ → List ℕ → Scope
unless_excluded lists q r = if is_listed lists.excl q r then System else Systems

-- a request that is looked up: one of a system goes to the whole complex where the inclusion list says so,
-- and may be kept by the exclusion list even then; one of a step stays
abbrev pub looked_up : Lists → Scope → List ℕ → List ℕ → Scope
looked_up lists Step q r = Step
looked_up lists System q r = if is_listed lists.incl q r then unless_excluded lists q r else System
looked_up lists Systems q r = unless_excluded lists q r

-- the scope of a request; with RNL=NO it isn't looked up
abbrev pub scope_of : Lists → Scope → Bool → List ℕ → List ℕ → Scope
scope_of lists scope rnl q r = if rnl then looked_up lists scope q r else scope

-- the scope of a RESERVE that is looked up, and whether its device is reserved: an excluded one reserves it,
-- one that is converted doesn't, and any other does both
abbrev pub reserve_looked_up : Lists → List ℕ → List ℕ → Scope × Bool
reserve_looked_up lists q r =
    if is_listed lists.excl q r then (System, true)
    else if is_listed lists.con q r then (Systems, false)
    else (Systems, true)

-- the same of any RESERVE; one with RNL=NO does both
abbrev pub reserve_kind : Lists → Bool → List ℕ → List ℕ → Scope × Bool
reserve_kind lists rnl q r = if rnl then reserve_looked_up lists q r else (Systems, true)

-- what a request comes to: its scope, and whether it reserves its device
abbrev pub kind_of : Lists → Bool → Scope → Bool → List ℕ → List ℕ → Scope × Bool
kind_of lists reserve scope rnl q r =
    if reserve then reserve_kind lists rnl q r else (scope_of lists scope rnl q r, false)

-- the resource of these names and this scope, asked for by a job of a system
abbrev pub res_in : Scope → SysId → ℕ → List ℕ → List ℕ → Res
res_in Step s job q r = kinds.Step s job q r
res_in System s job q r = kinds.System s q r
res_in Systems s job q r = kinds.Systems q r

-- the resource, and whether the device is reserved
abbrev pub resolved : Lists → Bool → Scope → Bool → SysId → ℕ → List ℕ → List ℕ → Resolved
resolved lists reserve scope rnl s job q r =
    let kind = kind_of lists reserve scope rnl q r in record { res = res_in kind.0 s job q r; hardware = kind.1 }
