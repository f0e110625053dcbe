-- Which class each place of a list has.
use Rattle.std.specs.Prelude.{◌≡◌, ◌<◌, ◌≤◌, ℕ, zero, suc, ◌+◌, Bool, true, cond, nat_eq, nat_lt, List, [], ◌∷◌, ◌++◌, length, Option, Some, None}
use Rattle.grs_base.specs.declared.look.Place.{Place}
use Rattle.grs_base.specs.declared.look.Place.TheVariants.{Slice, Local}
use Rattle.grs_base.specs.declared.resource.Res.{Res}
use Rattle.grs_base.specs.declared.resource.Res.TheVariants.{Step, System, Systems}
use Rattle.grs_base.specs.Slices.{slice_of}
use Rattle.queue_table.specs.Names.{Numbers}

-- what callers see: the classes of the places, in order, and for how many more there is room
pub record ClassesView : Type 0 where
  pub classes : List ℕ
  pub room : ℕ

-- how many classes there may be: 64 slices, and 256 systems
abbrev pub most_classes : ℕ
most_classes = 320

-- what is kept for a class, under its number
abbrev pub end_at : List (Option ℕ) → ℕ → Option ℕ
end_at [] c = None
end_at (o ∷ os) zero = o
end_at (o ∷ os) (suc c) = end_at os c

-- one place further on
abbrev pub later : Option ℕ → Option ℕ → Option ℕ
later None other = other
later (Some p) other = Some (suc p)

-- the last place of a class
abbrev pub last_place : ℕ → List ℕ → Option ℕ
last_place c [] = None
last_place c (x ∷ xs) = later (last_place c xs) (cond (nat_eq x c) (Some 0) None)

-- for each place the last one before it that has its class, where these stand before
abbrev pub befores : List ℕ → List ℕ → List (Option ℕ)
befores front [] = []
befores front (c ∷ cs) = last_place c front ∷ befores (front ++ c ∷ []) cs

-- what is kept beside the classes: of each class the last place, and of each place the one before; and there is room for
-- the last place of any class once there is a place
pub record IsChained (ends : List (Option ℕ)) (links : List (Option ℕ)) (classes : List ℕ) : Type 0 where
  pub last : (c : ℕ) → end_at ends c ≡ last_place c classes
  pub before : links ≡ befores [] classes
  pub any : 0 < length classes → most_classes ≤ length ends

-- the class of a resource: of one of the whole complex its slice, of others one for each system
abbrev pub class_of : Res → ℕ
class_of (Systems q r) = slice_of q r
class_of (System s q r) = 64 + s.0
class_of (Step s j q r) = 64 + s.0

-- the class of those of a place, of which there may be more
abbrev pub class_at : Place → ℕ
class_at (Slice n) = n
class_at (Local s) = 64 + s.0

-- whether these are all of the place, and not of a system's own: there are 64 slices
abbrev pub has_class : Place → Bool
has_class (Slice n) = nat_lt n 64
has_class (Local s) = true

-- the resources that a table knows, each with the number of its queue, and for how many more there is room
pub record ResourcesView : Type 0 where
  pub entries : Numbers
  pub room : ℕ

-- of resources with their numbers those of a class, the last of them first
abbrev pub visits : ℕ → Numbers → Numbers
visits c [] = []
visits c (e ∷ es) = visits c es ++ cond (nat_eq (class_of e.0) c) (e ∷ []) []
