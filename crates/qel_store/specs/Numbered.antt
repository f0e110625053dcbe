-- Elements in the order of the numbers of their pushes.
use Rattle.std.specs.Prelude.{ℕ, zero, suc, Bool, true, ◌&&◌, ◌==◌, nat_lt, List, [], ◌∷◌, ◌++◌, cond, Option, Some}
use Rattle.std.specs.Prelude.{None}
use Rattle.slab.specs.Slab.{Slab, slab_len}
use Rattle.qel_store.specs.declared.elements.Element.{Element}
use Rattle.qel_store.specs.declared.elements.Pushed.{Pushed}
use Rattle.qel_store.specs.Items.{Items}

-- the element of a slot, if it has this number
abbrev pub numbered : ℕ → Option Pushed → Option Element
numbered n None = None
numbered n (Some x) = cond (n == x.number) (Some x.element) None

-- items with one more in front, if there is one
abbrev pub put_item : ℕ → Option Element → Items → Items
put_item k None xs = xs
put_item k (Some e) xs = (k, e) ∷ xs

-- the elements with this number, where the first slot has key i
abbrev pub items_at : ℕ → ℕ → List (Option Pushed) → Items
items_at n i [] = []
items_at n i (o ∷ ss) = put_item i (numbered n o) (items_at n (suc i) ss)

-- the elements with numbers below n, by number
abbrev pub in_order : ℕ → List (Option Pushed) → Items
in_order zero ss = []
in_order (suc n) ss = in_order n ss ++ items_at n 0 ss

-- whether the number of a slot's element is below n
abbrev pub is_below : ℕ → Option Pushed → Bool
is_below n None = true
is_below n (Some x) = nat_lt x.number n

-- how many more elements there is room for: none where a number or a key would be too large
abbrev pub room_of : ℕ → Slab Pushed → ℕ
room_of n s =
    cond (nat_lt (slab_len s) s.capacity
    && (nat_lt (slab_len s) 0xffff_ffff && (nat_lt s.vacant_key 0xffff_ffff && nat_lt n 0xffff_ffff_ffff_ffff)))
    1 0
