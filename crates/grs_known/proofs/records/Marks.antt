-- Which resources a task was told control of.
use Rattle.std.specs.Prelude.{Bool, ◌&&◌, List}
use Rattle.std.specs.List.{list_any}
use Rattle.grs_base.specs.Same.{same_res}
use Rattle.grs_base.specs.declared.resource.Res.{Res}
use Rattle.task_state.specs.declared.state.Rec.{Rec}

-- whether control of a resource was told, by a record of it
abbrev pub is_marked : Res → List Rec → Bool
is_marked r xs = list_any (λ (x : Rec). same_res r x.res && x.told) xs
