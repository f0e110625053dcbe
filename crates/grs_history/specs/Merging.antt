-- What steps that are gone through one by one come to.
use Rattle.std.specs.Prelude.{◌≡◌, List, [], ◌∷◌, ◌++◌, map, length}
use Rattle.std.specs.List.{flat_map}
use Rattle.grs_base.specs.State.{State}
use Rattle.grs_wire.specs.History.{answered_from, after_fixed}
use Rattle.grs_wire.specs.declared.request.Fixed.{Fixed}
use Rattle.grs_history.specs.Merge.{Step, event_of, fixed_in, told_behind}
use Rattle.grs_history.specs.declared.order.Merged.{Merged}

-- the lists after all that a step fixed
abbrev pub after_all_fixed : State → List Fixed → State
after_all_fixed s [] = s
after_all_fixed s (f ∷ fs) = after_all_fixed (after_fixed s f) fs

-- what is shown in the end, where the lists are these, this is shown so far, and these steps come
abbrev pub shown_with : State → Merged → List Step → Merged
shown_with elements m xs = record {
  events = m.events ++ map event_of xs;
  hist = m.hist ++ answered_from elements (flat_map fixed_in xs);
  told = m.told ++ told_behind (length m.events) xs;
}

-- With these steps the lists and what is shown become the others, so that whatever steps come then, the same is shown
-- in the end.
abbrev pub Leads : State → Merged → List Step → State → Merged → Type 0
Leads elements m xs elements' m' = (ys : List Step) → shown_with elements' m' ys ≡ shown_with elements m (xs ++ ys)
