-- Elements with their keys, in the order of pushing, and what is read of them.
use Rattle.std.specs.Prelude.{ℕ, suc, Bool, true, false, not, ◌&&◌, ◌||◌, ◌==◌, List, [], ◌∷◌, map, filter, cond}
use Rattle.std.specs.Prelude.{Option, Some, None}
use Rattle.std.specs.Option.{option_map_or}
use Rattle.grs_base.specs.Same.{same_task}
use Rattle.grs_base.specs.Lists.{is_shared}
use Rattle.grs_base.specs.State.{Held}
use Rattle.grs_base.specs.declared.resource.Elem.{Elem}
use Rattle.grs_base.specs.declared.resource.TaskId.{TaskId}
use Rattle.grs_base.specs.declared.resource.Ctl.TheVariants.{E}
use Rattle.qel_store.specs.declared.elements.Element.{Element}

-- an element under its key
abbrev pub Item : Type 0
Item = ℕ × Element

abbrev pub Items : Type 0
Items = List Item

-- the element under a key
abbrev pub found : Items → ℕ → Option Element
found [] k = None
found (x ∷ xs) k = cond (k == x.0) (Some x.1) (found xs k)

-- whether there is an element under a key
abbrev pub has_key : Items → ℕ → Bool
has_key [] k = false
has_key (x ∷ xs) k = (k == x.0) || has_key xs k

-- whether no key stands twice
abbrev pub keys_apart : Items → Bool
keys_apart [] = true
keys_apart (x ∷ xs) = not (has_key xs x.0) && keys_apart xs

-- the items with another element under a key
abbrev pub change_at : ℕ → (Element → Element) → Item → Item
change_at k f x = cond (k == x.0) (x.0, f x.1) x

abbrev pub changed : ℕ → (Element → Element) → Items → Items
changed k f xs = map (change_at k f) xs

-- the items without the one under a key
abbrev pub dropped : ℕ → Items → Items
dropped k xs = filter (λ x. not (k == x.0)) xs

-- the items whose elements pass
abbrev pub members : (Element → Bool) → Items → Items
members p xs = filter (λ x. p x.1) xs

-- whether an element stands in a queue, is of a task, or both
abbrev pub is_in : ℕ → Element → Bool
is_in q e = q == e.queue

abbrev pub is_of : TaskId → Element → Bool
is_of t e = same_task t e.elem.task

-- the key of the first item that passes
abbrev pub key_of : (Element → Bool) → Items → Option ℕ
key_of p [] = None
key_of p (x ∷ xs) = cond (p x.1) (Some x.0) (key_of p xs)

-- whether all elements pass
abbrev pub all_pass : (Element → Bool) → Items → Bool
all_pass p [] = true
all_pass p (x ∷ xs) = p x.1 && all_pass p xs

-- the place of a key, or the length
abbrev pub index_of : Items → ℕ → ℕ
index_of [] k = 0
index_of (x ∷ xs) k = cond (k == x.0) 0 (suc (index_of xs k))

-- the elements as they stand in a list
abbrev pub elems_of : Items → List Elem
elems_of xs = map (λ x. x.1.elem) xs

-- how many elements are exclusive
abbrev pub count_exclusive : Items → ℕ
count_exclusive [] = 0
count_exclusive (x ∷ xs) = cond (is_shared x.1.elem.ctl) (count_exclusive xs) (suc (count_exclusive xs))

-- the elements with their queues
abbrev pub held_of : Items → Held ℕ
held_of xs = map (λ x. (x.1.queue, x.1.elem)) xs

-- an element made exclusive
abbrev pub made_exclusive : Element → Element
made_exclusive e = record e { elem = record { task = e.elem.task; ctl = E } }

-- whether the element under a key is shared
abbrev pub is_shared_at : Items → ℕ → Bool
is_shared_at xs k = option_map_or (λ e. is_shared e.elem.ctl) (found xs k) false

-- what is held beside a task's elements
abbrev pub without_task : Held ℕ → TaskId → Held ℕ
without_task s t = filter (λ h. not (same_task t h.1.task)) s
