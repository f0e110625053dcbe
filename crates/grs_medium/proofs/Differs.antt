-- What is said of a call, whether it changes the medium, is whether the medium differs behind it.
use Rattle.std.proofs.Common.{◌≡◌, ℕ, ◌<◌, ◌≤◌, Bool, length, sym, ◌∙◌, subst}
use Rattle.std.specs.List.{All}
use Rattle.grs_base.specs.declared.resource.SysId.{SysId}
use Rattle.grs_wire.specs.declared.medium.Act.{Act}
use Rattle.grs_wire.specs.declared.medium.Act.TheVariants.{Turn, Switch, Submit, Take, Settle, Tell, Leave, Purge, Rest}
use Rattle.grs_wire.specs.declared.medium.Call.{Call}
use Rattle.grs_wire.specs.LockWords.{manager, manager_number}
use Rattle.lock_structure.specs.Words.{ManagerIsBelow}
use Rattle.grs_medium.specs.Apply.{changes, ActFits}
use Rattle.grs_medium.specs.Changes.{NamesWhatIsThere, TellsChanges}
use Rattle.grs_medium.specs.Medium.{MediumState, systems_of, word}
use Rattle.grs_medium.proofs.ChangeLaws.{changes_what_it_says}
use Rattle.grs_medium.proofs.KeepLaws.{leaves_the_rest}

-- Of a medium whose inboxes are its systems', and whose lock words name these as managers, a call that it may be asked
-- names what is there.
pub names_there : (m : MediumState) (c : SysId) (act : Act) → length m.inboxes ≡ systems_of m
    → All (ManagerIsBelow (systems_of m)) m.words → ActFits m c act → NamesWhatIsThere m act
names_there m c (Submit entry req) boxes below fits = (
  fits,
  subst (λ (n : ℕ). manager_number (manager (word m entry)) ≤ n) (sym boxes) (below entry 0 fits),
)
names_there m c (Settle to mail) boxes below fits = subst (λ (n : ℕ). to.0 < n) (sym boxes) fits
names_there m c (Tell to mail) boxes below fits = subst (λ (n : ℕ). to.0 < n) (sym boxes) fits
names_there m c (Leave entry) boxes below fits = fits
names_there m c (Turn out) boxes below fits = tt
names_there m c (Switch words) boxes below fits = tt
names_there m c Take boxes below fits = tt
names_there m c (Purge target) boxes below fits = tt
names_there m c Rest boxes below fits = tt

-- So what is said of such a call, whether it changes the medium, is whether the medium differs.
pub tells_changes : (m : MediumState) (c : SysId) (call : Call) → NamesWhatIsThere m call.act → (told : Bool)
    → told ≡ changes m c call → TellsChanges m c call told
tells_changes m c call there told is = (
  λ yes. changes_what_it_says m c call there (sym is ∙ yes),
  λ no. leaves_the_rest m c call (sym is ∙ no),
)
