-- The texts of some calls.
use Rattle.std.proofs.Common.{◌≡◌, ℕ, true, false, List, [], ◌∷◌, ◌++◌, refl}
use Rattle.std.specs.Prelude.{codes}
use Rattle.std.specs.Fmt.{digits}
use Rattle.grs_base.specs.declared.resource.Ctl.TheVariants.{E, S}
use Rattle.grs_latch.specs.declared.call.LatchCall.{LatchCall}
use Rattle.grs_latch.specs.declared.call.LatchCall.TheVariants.{Crt, Obt, Rel, Prg}
use Rattle.grs_display.specs.Lines.{line}
use Rattle.latch_text.specs.Text.{reply_line, grant_line, elem_word, row_line, latch_text}

abbrev seta : List ℕ
seta = codes "SETA"

abbrev calls : List LatchCall
calls =
    Crt seta 2
    ∷ Obt seta 0 1 E true
    ∷ Obt seta 0 2 S true
    ∷ Obt seta 0 3 S false
    ∷ Obt seta 1 1 S true
    ∷ Prg seta 1
    ∷ []

abbrev lines : List (List ℕ) → List ℕ
lines [] = []
lines (l ∷ ls) = (l ++ 10 ∷ []) ++ lines ls

purged_set :
    latch_text calls
    ≡ lines (codes "L 1 CRT 00"
    ∷ codes "L 2 OBT 00"
    ∷ codes "L 3 OBT 04"
    ∷ codes "L 4 OBT 04"
    ∷ codes "L 5 OBT 00"
    ∷ codes "L 6 PRG 00 2"
    ∷ codes "G SETA 0 2"
    ∷ codes "LATCHES 1"
    ∷ codes "Q SETA 0 2:S*"
    ∷ [])
unfolding reply_line grant_line elem_word row_line line digits
purged_set = refl

abbrev a_set : List ℕ
a_set = codes "A"

abbrev b_set : List ℕ
b_set = codes "B"

two_sets :
    latch_text
    (Crt b_set 2
    ∷ Crt a_set 1
    ∷ Crt b_set 9
    ∷ Obt a_set 0 65535 S true
    ∷ Obt a_set 0 7 S true
    ∷ Obt a_set 0 10 E true
    ∷ Obt a_set 0 10 S true
    ∷ Obt a_set 0 7 E false
    ∷ Obt b_set 1 3 E true
    ∷ Rel a_set 0 10
    ∷ Rel a_set 0 8
    ∷ Obt a_set 1 1 S true
    ∷ Prg a_set 9
    ∷ Obt a_set 0 11 S true
    ∷ Prg a_set 10
    ∷ [])
    ≡ lines (codes "L 1 CRT 00"
    ∷ codes "L 2 CRT 00"
    ∷ codes "L 3 CRT 04"
    ∷ codes "L 4 OBT 00"
    ∷ codes "L 5 OBT 00"
    ∷ codes "L 6 OBT 04"
    ∷ codes "L 7 OBT 14"
    ∷ codes "L 8 OBT 08"
    ∷ codes "L 9 OBT 00"
    ∷ codes "L 10 REL 04"
    ∷ codes "L 11 REL 08"
    ∷ codes "L 12 OBT 0C"
    ∷ codes "L 13 PRG 04 0"
    ∷ codes "L 14 OBT 04"
    ∷ codes "L 15 PRG 00 1"
    ∷ codes "G A 0 11"
    ∷ codes "LATCHES 2"
    ∷ codes "Q B 1 3:E*"
    ∷ codes "Q A 0 65535:S* 7:S* 11:S*"
    ∷ [])
unfolding reply_line grant_line elem_word row_line line digits
two_sets = refl

abbrev waiters : List LatchCall
waiters = Crt a_set 1 ∷ Obt a_set 0 1 S true ∷ Obt a_set 0 2 E true ∷ Obt a_set 0 3 S true ∷ []

waiters_have_no_star :
    latch_text waiters
    ≡ lines (codes "L 1 CRT 00"
    ∷ codes "L 2 OBT 00"
    ∷ codes "L 3 OBT 04"
    ∷ codes "L 4 OBT 04"
    ∷ codes "LATCHES 1"
    ∷ codes "Q A 0 1:S* 2:E 3:S"
    ∷ [])
unfolding reply_line grant_line elem_word row_line line digits
waiters_have_no_star = refl

no_set : latch_text (Rel (codes "SETB") 0 1 ∷ []) ≡ lines (codes "L 1 REL 0C" ∷ codes "LATCHES 0" ∷ [])
unfolding reply_line grant_line elem_word row_line line digits
no_set = refl

no_calls : latch_text [] ≡ lines (codes "LATCHES 0" ∷ [])
unfolding line digits
no_calls = refl
