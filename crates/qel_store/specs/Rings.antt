-- Circular lists of elements: each leads to the one behind it and to the one before it, and the last and the first to
-- one another.
use Rattle.std.specs.Prelude.{◌≡◌, ◌<◌, ℕ, suc, ◌+◌, ◌-◌, Bool, true, ◌&&◌, ◌||◌, ◌==◌, nat_le, [], ◌∷◌, map, length}
use Rattle.std.specs.Prelude.{cond, Some}
use Rattle.qel_store.specs.declared.elements.Element.{Element}
use Rattle.qel_store.specs.declared.elements.Link.{Link}
use Rattle.qel_store.specs.declared.elements.Side.{Side}
use Rattle.qel_store.specs.declared.elements.Side.TheVariants.{Queue, Task}
use Rattle.qel_store.specs.declared.rings.Ring.{Ring}
use Rattle.qel_store.specs.Items.{Item, Items, found, change_at, has_key, keys_apart, members}

-- where an element leads on one of its lists
abbrev pub link_of : Side → Element → Link
link_of Queue e = e.in_queue
link_of Task e = e.of_task

-- an element that leads elsewhere
abbrev pub with_next : Side → ℕ → Element → Element
with_next Queue to e = record e { in_queue = record e.in_queue { next = to } }
with_next Task to e = record e { of_task = record e.of_task { next = to } }

abbrev pub with_prev : Side → ℕ → Element → Element
with_prev Queue to e = record e { in_queue = record e.in_queue { prev = to } }
with_prev Task to e = record e { of_task = record e.of_task { prev = to } }

-- whether two items lead to one another, the second behind the first
abbrev pub is_led : Side → Item → Item → Bool
is_led s a b = ((link_of s a.1).next == b.0) && ((link_of s b.1).prev == a.0)

-- whether the items from a over all of a list to z lead to one another
abbrev pub chain : Side → Item → Items → Item → Bool
chain s a [] z = is_led s a z
chain s a (x ∷ xs) z = is_led s a x && chain s x xs z

-- whether the items of a list are a circle in its order
abbrev pub ring : Side → Items → Bool
ring s [] = true
ring s (x ∷ xs) = chain s x xs x

-- the key of the first item, or another where there is none
abbrev pub first_key : Items → ℕ → ℕ
first_key [] k = k
first_key (x ∷ xs) k = x.0

-- whether a head leads to a list: to its first item, if there is one, with its length
abbrev pub leads : Ring → Items → Bool
leads r [] = r.len == 0
leads r (x ∷ xs) = (r.first == x.0) && (r.len == suc (length xs))

-- the head of a list without items, of one with an item more, and of one with an item less that led to n
abbrev pub no_ring : Ring
no_ring = record { first = 0; len = 0 }

abbrev pub ring_with : Ring → ℕ → Ring
ring_with r k = record { first = cond (r.len == 0) k r.first; len = r.len + 1 }

abbrev pub ring_without : Ring → ℕ → ℕ → Ring
ring_without r k n = cond (nat_le r.len 1) no_ring (record { first = cond (r.first == k) n r.first; len = r.len - 1 })

-- the items behind a change at the neighbours of an element: the one before it leads to `to.next`, and the one behind
-- it back to `to.prev`
abbrev pub tie : Side → Link → Link → Item → Item
tie s at to x = change_at at.next (with_prev s to.prev) (change_at at.prev (with_next s to.next) x)

abbrev pub tied : Side → Link → Link → Items → Items
tied s at to xs = map (tie s at to) xs

-- where an element under this key leads that goes last: alone, to itself
pub record IsLastLink (s : Side) (xs : Items) (r : Ring) (k : ℕ) (l : Link) : Type 0 where
  pub alone : r.len ≡ 0 → l ≡ record { next = k; prev = k }
  pub behind : (e : Element) → 0 < r.len → found xs r.first ≡ Some e
      → l ≡ record { next = r.first; prev = (link_of s e).prev }

-- whether an element under this key may lead so: to itself alone, or to two that are there
abbrev pub has_neighbours : Items → ℕ → Link → Bool
has_neighbours xs k at = ((at.next == k) && (at.prev == k)) || (has_key xs at.prev && has_key xs at.next)

-- the elements that pass are a circle, and a head leads to it
pub record IsCircle (s : Side) (p : Element → Bool) (xs : Items) (r : Ring) : Type 0 where
  pub apart : keys_apart xs ≡ true
  pub circle : ring s (members p xs) ≡ true
  pub led : leads r (members p xs) ≡ true
