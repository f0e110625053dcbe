-- What callers see of the elements in their slab.
use Rattle.std.specs.Prelude.{ℕ}
use Rattle.qel_store.specs.Items.{Items}

-- the elements with their keys in the order of pushing, how many more there is room for, and the key of the next
pub record Stored : Type 0 where
  pub items : Items
  pub room : ℕ
  pub next_key : ℕ
