-- Worked entries: what they match and what they don't.
use Rattle.std.proofs.Common.{◌≡◌, true, false, [], ◌∷◌, Some, None, refl, codes}
use Rattle.grs_base.specs.declared.rnl.Form.TheVariants.{Specific, Generic, Pattern}
use Rattle.grs_base.specs.declared.rnl.Which.TheVariants.{Incl}
use Rattle.grs_base.specs.Rnl.{RnlView}
use Rattle.rnl_match.specs.Matches.{matches_pattern, matches, find}
use Rattle.rnl_match.specs.Index.{is_under, is_pattern, places, most_compared}

-- A*B? wants a byte behind the B
ab : matches_pattern (codes "A*B?") (codes "AB") ≡ false
ab = refl

abb : matches_pattern (codes "A*B?") (codes "ABB") ≡ true
abb = refl

axbbc : matches_pattern (codes "A*B?") (codes "AXBBC") ≡ true
axbbc = refl

abx : matches_pattern (codes "A*B?") (codes "ABX") ≡ true
abx = refl

axb : matches_pattern (codes "A*B?") (codes "AXB") ≡ false
axb = refl

xabb : matches_pattern (codes "A*B?") (codes "XABB") ≡ false
xabb = refl

itself : matches_pattern (codes "A*B?") (codes "A*B?") ≡ true
itself = refl

-- ? wants one byte, and * none
one : matches_pattern (codes "A?") (codes "A") ≡ false
one = refl

two : matches_pattern (codes "A?") (codes "AB") ≡ true
two = refl

three : matches_pattern (codes "A?") (codes "A B") ≡ false
three = refl

all : matches_pattern (codes "*") [] ≡ true
all = refl

-- a generic entry wants the rname to begin with its own
longer :
    matches (record { which = Incl; form = Generic; q = codes "A"; r = Some (codes "AB") }) (codes "A") (codes "ABC")
    ≡ true
longer = refl

shorter :
    matches (record { which = Incl; form = Generic; q = codes "A"; r = Some (codes "AB") }) (codes "A") (codes "A")
    ≡ false
shorter = refl

other_qname : matches (record { which = Incl; form = Generic; q = codes "A"; r = None }) (codes "AB") (codes "X")
    ≡ false
other_qname = refl

-- a specific one wants it equal, and has to have one
equal :
    matches (record { which = Incl; form = Specific; q = codes "A"; r = Some (codes "AB") }) (codes "A") (codes "ABC")
    ≡ false
equal = refl

without : matches (record { which = Incl; form = Specific; q = codes "A"; r = None }) (codes "A") (codes "A") ≡ false
without = refl

-- the first entry that matches counts
first : find (record {
  which = Incl;
  entries =
      record { which = Incl; form = Specific; q = codes "A"; r = Some (codes "X") }
      ∷ record { which = Incl; form = Generic; q = codes "A"; r = None }
      ∷ record { which = Incl; form = Pattern; q = codes "*"; r = None } ∷ [];
}) (codes "A") (codes "Y") ≡ Some 1
first = refl

-- a list of two qnames, with a pattern between their entries
abbrev some_list : RnlView
some_list = record {
  which = Incl;
  entries =
      record { which = Incl; form = Specific; q = codes "A"; r = Some (codes "X") }
      ∷ record { which = Incl; form = Generic; q = codes "B"; r = None }
      ∷ record { which = Incl; form = Pattern; q = codes "A*"; r = None }
      ∷ record { which = Incl; form = Generic; q = codes "A"; r = None } ∷ [];
}

-- a name is compared with the entries of its qname, and with the pattern
of_first : most_compared some_list (codes "A") ≡ 3
of_first = refl

of_second : most_compared some_list (codes "B") ≡ 2
of_second = refl

of_none : most_compared some_list (codes "AB") ≡ 1
of_none = refl

-- at these places
bucket : places (is_under (codes "A")) 0 some_list.entries ≡ 0 ∷ 3 ∷ []
bucket = refl

patterns : places is_pattern 0 some_list.entries ≡ 2 ∷ []
patterns = refl
