-- How names, controls and units are printed, in decks and in reports alike. A name is printed plain, between
-- quotes, or as hexadecimal digits.
use Rattle.std.specs.Prelude.{ℕ, Bool, ◌&&◌, ◌||◌, ◌==◌, ◌+◌, ◌/◌, ◌%◌, nat_le, nat_lt, List, [], ◌∷◌, ◌++◌, codes}
use Rattle.std.specs.Prelude.{if◌then◌else◌}
use Rattle.std.specs.List.{list_all}
use Rattle.grs_base.specs.declared.resource.Ctl.{Ctl}
use Rattle.grs_base.specs.declared.resource.Ctl.TheVariants.{E, S}

abbrev pub is_between : ℕ → ℕ → ℕ → Bool
is_between low high b = nat_le low b && nat_le b high

-- letters of either case, digits, $ # @ . _ - * ?
abbrev pub is_plain_byte : ℕ → Bool
is_plain_byte b =
    (is_between 65 90 b || (is_between 97 122 b || is_between 48 57 b))
    || ((b == 36 || (b == 35 || b == 64)) || ((b == 46 || b == 95) || (b == 45 || (b == 42 || b == 63))))

-- from blank to ~
abbrev pub is_printable : ℕ → Bool
is_printable b = is_between 32 126 b

-- with each quote doubled
abbrev pub quotes_doubled : List ℕ → List ℕ
quotes_doubled [] = []
quotes_doubled (b ∷ bs) = if b == 39 then 39 ∷ 39 ∷ quotes_doubled bs else b ∷ quotes_doubled bs

-- a digit of 0 to 9 or A to F
abbrev pub hex_digit : ℕ → ℕ
hex_digit n = if nat_lt n 10 then 48 + n else 55 + n

-- two digits for each byte
abbrev pub hex_digits : List ℕ → List ℕ
hex_digits [] = []
hex_digits (b ∷ bs) = hex_digit (b / 16) ∷ hex_digit (b % 16) ∷ hex_digits bs

-- between quotes
abbrev pub quoted : List ℕ → List ℕ
quoted bs = 39 ∷ (quotes_doubled bs ++ 39 ∷ [])

-- as hexadecimal digits between quotes, behind an X
abbrev pub hexed : List ℕ → List ℕ
hexed bs = 88 ∷ 39 ∷ (hex_digits bs ++ 39 ∷ [])

-- plain where each byte is, else between quotes where each byte is printable, else as hexadecimal digits
abbrev pub printed_name : List ℕ → List ℕ
printed_name bs = if list_all is_plain_byte bs then bs else (if list_all is_printable bs then quoted bs else hexed bs)

abbrev pub ctl_word : Ctl → List ℕ
ctl_word E = codes "E"
ctl_word S = codes "S"

-- a unit's four hexadecimal digits
abbrev pub unit_digits : ℕ → List ℕ
unit_digits n = hex_digit (n / 4096 % 16) ∷ hex_digit (n / 256 % 16) ∷ hex_digit (n / 16 % 16) ∷ hex_digit (n % 16) ∷ []
