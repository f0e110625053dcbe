-- GQSCAN and DISPLAY.
use Rattle.std.specs.Prelude.{ℕ, Bool, true, false, List, codes, Option, Some, None, if◌then◌else◌}
use Rattle.std.specs.Str.{bytes_eq}
use Rattle.deck_scan.specs.declared.token.Token.{Token}
use Rattle.job_syntax.specs.declared.display.Wanted.{Wanted}
use Rattle.job_syntax.specs.declared.display.ScanAsk.{ScanAsk}
use Rattle.job_syntax.specs.declared.display.Shown.{Shown}
use Rattle.job_syntax.specs.declared.display.Shown.TheVariants as shown
use Rattle.deck_scan.specs.Next.{◌>>=◌, open_at, close_at, comma_at, equals_at, end_at, any_word_at, word_at, value_at}
use Rattle.deck_scan.specs.Next.{name_at, up_to, once}

abbrev pub no_names : Wanted
no_names = record { q = None; r = None }

-- GLOBAL or LOCAL.
unfoldable pub reach_of : List ℕ → Option Bool
reach_of w = if bytes_eq w (codes "GLOBAL") then Some true else if bytes_eq w (codes "LOCAL") then Some false else None

-- QNAME stands once.
abbrev pub with_q : Wanted → List ℕ → Option Wanted
with_q o q = once o.q (record o { q = Some q })

-- RNAME stands once.
abbrev pub with_r : Wanted → List ℕ → Option Wanted
with_r o r = once o.r (record o { r = Some r })

-- An equals sign and a name.
abbrev pub named_at : List Token → Option (List ℕ × List Token)
named_at ts = do
  a ← equals_at ts
  name_at a

-- What stands behind the first word of an option.
unfoldable pub want_of : Wanted → List ℕ → List Token → Option (Wanted × List Token)
want_of o w ts =
    if bytes_eq w (codes "QNAME") then (named_at ts >>= λ v. with_q o v.0 >>= λ p. Some (p, v.1))
    else if bytes_eq w (codes "RNAME") then (named_at ts >>= λ v. with_r o v.0 >>= λ p. Some (p, v.1))
    else None

unfoldable pub want_at : Wanted → List Token → Option (Wanted × List Token)
want_at o ts = do
  a ← comma_at ts
  w ← any_word_at a
  want_of o w.0 w.1

-- SCOPE=GLOBAL or SCOPE=LOCAL, and the names.
unfoldable pub scan_at : List Token → Option ScanAsk
scan_at ts = do
  a ← word_at (codes "SCOPE") ts
  v ← value_at a
  g ← reach_of v.0
  n ← up_to 2 want_at no_names v.1
  Some (record { global = g; names = n })

-- = ( name , name )
unfoldable pub resource_at : List Token → Option (List ℕ × List ℕ)
resource_at ts = do
  a ← equals_at ts
  b ← open_at a
  q ← name_at b
  c ← comma_at q.1
  r ← name_at c
  d ← close_at r.1
  end ← end_at d
  Some (q.0, r.0)

-- What stands behind the second word of a DISPLAY.
unfoldable pub shown_at : List ℕ → List Token → Option Shown
shown_at w ts =
    if bytes_eq w (codes "C") then (end_at ts >>= λ end. Some shown.Contended)
    else if bytes_eq w (codes "RES") then (resource_at ts >>= λ n. Some (shown.Resource n.0 n.1))
    else None

-- GRS , and what is shown.
unfoldable pub display_at : List Token → Option Shown
display_at ts = do
  a ← word_at (codes "GRS") ts
  b ← comma_at a
  w ← any_word_at b
  shown_at w.0 w.1
