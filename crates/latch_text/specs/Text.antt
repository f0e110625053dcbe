-- The text of calls of latches: of each call what it is answered and who gets a latch by it, then the latches that have
-- requests.
use Rattle.std.specs.Prelude.{ℕ, suc, Bool, ◌-◌, ◌/◌, ◌%◌, nat_lt, List, [], ◌∷◌, ◌++◌, length, codes, if◌then◌else◌}
use Rattle.std.specs.Fmt.{decimal}
use Rattle.std.specs.List.{flat_map}
use Rattle.grs_base.specs.Printed.{ctl_word, hex_digit}
use Rattle.grs_base.specs.declared.resource.Ctl.{Ctl}
use Rattle.grs_display.specs.Lines.{line}
use Rattle.grs_latch.specs.Calls.{Sets, name_of, set_name, replies, after_all, rows_of}
use Rattle.grs_latch.specs.declared.call.LatchCall.{LatchCall}
use Rattle.grs_latch.specs.declared.call.LatchCall.TheVariants.{Crt, Obt, Rel, Prg}
use Rattle.grs_latch.specs.declared.reply.Grant.{Grant}
use Rattle.grs_latch.specs.declared.reply.LatchReply.{LatchReply}
use Rattle.grs_latch.specs.declared.reply.LatchRow.{LatchRow}

abbrev pub verb_word : LatchCall → List ℕ
verb_word (Crt n count) = codes "CRT"
verb_word (Obt n l r c sync) = codes "OBT"
verb_word (Rel n l r) = codes "REL"
verb_word (Prg n r) = codes "PRG"

-- two hexadecimal digits
abbrev pub code_word : ℕ → List ℕ
code_word n = hex_digit (n / 16 % 16) ∷ hex_digit (n % 16) ∷ []

-- of a purge, how many requests it took out
abbrev pub taken_words : LatchCall → ℕ → List (List ℕ)
taken_words (Prg n r) taken = decimal taken ∷ []
taken_words _ taken = []

-- the number of a call, its verb and its code
unfoldable pub reply_line : ℕ → LatchCall → LatchReply → List ℕ
reply_line n c r = line (codes "L" ∷ decimal n ∷ verb_word c ∷ code_word r.code ∷ taken_words c r.taken)

-- a set, a latch, and who got it
unfoldable pub grant_line : List ℕ → Grant → List ℕ
grant_line set g = line (codes "G" ∷ set ∷ decimal g.latch ∷ decimal g.requestor ∷ [])

abbrev pub reply_text : ℕ → LatchCall → LatchReply → List ℕ
reply_text n c r = reply_line n c r ++ flat_map (grant_line (name_of c)) r.grants

-- calls from this number on, each with what it is answered
abbrev pub calls_text : ℕ → List LatchCall → List LatchReply → List ℕ
calls_text n [] rs = []
calls_text n (c ∷ cs) [] = []
calls_text n (c ∷ cs) (r ∷ rs) = reply_text n c r ++ calls_text (suc n) cs rs

-- a request: whose it is, its control, and a star where it owns the latch
unfoldable pub elem_word : Bool → ℕ × Ctl → List ℕ
elem_word owns e = ((decimal e.0 ++ 58 ∷ []) ++ ctl_word e.1) ++ (if owns then 42 ∷ [] else [])

-- requests of which so many own the latch
abbrev pub elem_words : ℕ → List (ℕ × Ctl) → List (List ℕ)
elem_words owners [] = []
elem_words owners (e ∷ es) = elem_word (nat_lt 0 owners) e ∷ elem_words (owners - 1) es

-- a set, a latch and its requests
unfoldable pub row_line : Sets → LatchRow → List ℕ
row_line ss row = line (codes "Q" ∷ set_name row.set ss ∷ decimal row.latch ∷ elem_words row.owners row.elems)

abbrev pub rows_text : Sets → List LatchRow → List ℕ
rows_text ss rows = line (codes "LATCHES" ∷ decimal (length rows) ∷ []) ++ flat_map (row_line ss) rows

-- the text of calls, from no sets on: what they are answered, and the rows of the sets behind the last
abbrev pub latch_text : List LatchCall → List ℕ
latch_text cs = calls_text 1 cs (replies cs []) ++ rows_text (after_all cs []) (rows_of 0 (after_all cs []))
