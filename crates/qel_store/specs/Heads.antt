-- The heads of queues, by the queues' numbers.
use Rattle.std.specs.Prelude.{ℕ, zero, suc, Bool, false, not, ◌+◌, ◌-◌, List, [], ◌∷◌, cond}
use Rattle.grs_base.specs.Lists.{is_shared}
use Rattle.grs_base.specs.declared.resource.Ctl.{Ctl}
use Rattle.qel_store.specs.declared.heads.Head.{Head}
use Rattle.qel_store.specs.Rings.{no_ring, ring_with, ring_without}

-- the head of a queue without elements that isn't in use
abbrev pub no_head : Head
no_head = record { live = false; next_free = 0; ring = no_ring; exclusives = 0 }

abbrev pub head_at : List Head → ℕ → Head
head_at [] q = no_head
head_at (h ∷ hs) zero = h
head_at (h ∷ hs) (suc q) = head_at hs q

-- whether a queue is there and not in use
abbrev pub is_free_at : List Head → ℕ → Bool
is_free_at [] q = false
is_free_at (h ∷ hs) zero = not h.live
is_free_at (h ∷ hs) (suc q) = is_free_at hs q

-- how many exclusive elements an element is
abbrev pub exclusive_one : Ctl → ℕ
exclusive_one c = cond (is_shared c) 0 1

-- the head with an element more, with one less that led to n, with one more that is exclusive, and in or out of use
abbrev pub with_elem : Head → ℕ → Ctl → Head
with_elem h k c = record h { ring = ring_with h.ring k; exclusives = h.exclusives + exclusive_one c }

abbrev pub without_elem : Head → ℕ → ℕ → Ctl → Head
without_elem h k n c = record h { ring = ring_without h.ring k n; exclusives = h.exclusives - exclusive_one c }

abbrev pub with_exclusive : Head → Head
with_exclusive h = record h { exclusives = h.exclusives + 1 }

abbrev pub in_use : Head → Bool → ℕ → Head
in_use h live n = record h { live = live; next_free = n }
