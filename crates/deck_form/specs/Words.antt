-- Names of systems, jobs and tasks, and numbers.
use Rattle.std.specs.Prelude.{ℕ, ◌&&◌, ◌||◌, ◌==◌, ◌+◌, ◌-◌, ◌*◌, nat_lt, List, [], ◌∷◌, length, take, drop, position}
use Rattle.std.specs.Prelude.{Option, Some, None, if◌then◌else◌}
use Rattle.grs_base.specs.ShortNames.{is_digit, is_name}
use Rattle.deck_scan.specs.declared.token.Token.{Token}
use Rattle.deck_scan.specs.Next.{◌>>=◌, end_at, any_word_at}

unfoldable pub short_at : List Token → Option (List ℕ × List Token)
short_at ts = do
  w ← any_word_at ts
  if is_name w.0 then Some (w.0, w.1) else None

-- A name of a system, job or task, and nothing after it.
unfoldable pub named_at : List Token → Option (List ℕ)
named_at ts = do
  n ← short_at ts
  end ← end_at n.1
  Some n.0

abbrev pub parted : Option ℕ → List ℕ → Option (List ℕ × List ℕ)
parted None w = None
parted (Some i) w = if is_name (take i w) && is_name (drop (i + 1) w) then Some (take i w, drop (i + 1) w) else None

-- The names of a job and a task with a point between them.
unfoldable pub dotted_at : List Token → Option (List ℕ × List ℕ × List Token)
dotted_at ts = do
  w ← any_word_at ts
  p ← parted (position (λ b. b == 46) w.0) w.0
  Some (p.0, p.1, w.1)

-- The number that a number's digits and these write.
unfoldable pub digits : ℕ → List ℕ → Option ℕ
digits n [] = Some n
digits n (b ∷ bs) = if is_digit b then digits (n * 10 + (b - 48)) bs else None

-- How many digits a number may have.
abbrev pub most_digits : ℕ
most_digits = 9

-- The number that 1 to 9 decimal digits write.
unfoldable pub written_number : List ℕ → Option ℕ
written_number w = if (length w == 0) || nat_lt most_digits (length w) then None else digits 0 w
