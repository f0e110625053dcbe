-- Commands at the desk of a system.
use Rattle.std.specs.Prelude.{ℕ, List, codes, Option, Some, None, if◌then◌else◌}
use Rattle.std.specs.Str.{bytes_eq}
use Rattle.deck_scan.specs.declared.token.Token.{Token}
use Rattle.deck_form.specs.declared.command.GivenOrder.{GivenOrder}
use Rattle.deck_form.specs.declared.command.GivenOrder.TheVariants as orders
use Rattle.deck_form.specs.declared.command.Command.{Command}
use Rattle.deck_scan.specs.Next.{◌>>=◌, open_at, close_at, comma_at, end_at, any_word_at, word_at, value_at}
use Rattle.deck_form.specs.Words.{short_at, written_number}

-- MODE=STAR, and nothing after it.
unfoldable pub setgrs_at : List Token → Option GivenOrder
setgrs_at ts = do
  a ← word_at (codes "MODE") ts
  v ← value_at a
  end ← end_at v.1
  if bytes_eq v.0 (codes "STAR") then Some orders.Star else None

-- GRS with a name in parentheses, a comma and PURGE, and nothing after it.
unfoldable pub vary_at : List Token → Option GivenOrder
vary_at ts = do
  a ← word_at (codes "GRS") ts
  b ← open_at a
  n ← short_at b
  c ← close_at n.1
  d ← comma_at c
  e ← word_at (codes "PURGE") d
  end ← end_at e
  Some (orders.Vary n.0)

-- What stands behind the word of a command.
unfoldable pub order_at : List ℕ → List Token → Option GivenOrder
order_at w ts =
    if bytes_eq w (codes "SETGRS") then setgrs_at ts
    else if bytes_eq w (codes "VARY") then vary_at ts
    else None

-- A number and a command.
unfoldable pub command_at : List Token → Option Command
command_at ts = do
  w ← any_word_at ts
  n ← written_number w.0
  v ← any_word_at w.1
  o ← order_at v.0 v.1
  Some (record { at = n; order = o })
