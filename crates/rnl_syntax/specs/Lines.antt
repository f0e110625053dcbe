-- The lines of an RNLDEF: it goes on over lines, as long as an operand is open or begins.
use Rattle.std.specs.Prelude.{ℕ, Bool, false, not, ◌&&◌, ◌||◌, ◌==◌, ◌%◌, List, [], ◌∷◌, ◌++◌, length, codes}
use Rattle.std.specs.Prelude.{if◌then◌else◌}
use Rattle.std.specs.Str.{bytes_eq}
use Rattle.deck_scan.specs.declared.token.Token.{Token}
use Rattle.deck_scan.specs.declared.token.Token.TheVariants.{Word}
use Rattle.deck_scan.specs.declared.token.TokenLine.{TokenLine}

abbrev pub is_operand_word : List ℕ → Bool
is_operand_word w =
    bytes_eq w (codes "RNL")
    || (bytes_eq w (codes "TYPE")
    || (bytes_eq w (codes "QNAME")
    || bytes_eq w (codes "RNAME")))

-- The first token is the word of an operand.
abbrev pub begins_operand : List Token → Bool
begins_operand (Word w ∷ ts) = is_operand_word w
begins_operand _ = false

abbrev pub is_rnldef_word : List ℕ → Bool
is_rnldef_word w = bytes_eq w (codes "RNLDEF")

-- The first token is the word RNLDEF.
abbrev pub begins_rnldef : List Token → Bool
begins_rnldef (Word w ∷ ts) = is_rnldef_word w
begins_rnldef _ = false

-- An operand is four tokens. So one is open where the tokens of the statement are not its word and a
-- number of fours.
abbrev pub is_open : List Token → Bool
is_open ts = not (length ts % 4 == 1)

-- The first token of these lines is the word of an operand.
abbrev pub begins_operands : List TokenLine → Bool
begins_operands [] = false
begins_operands (l ∷ ls) = begins_operand l.tokens

-- The statement so far goes on with the next line: it is an RNLDEF, and an operand is open, or one begins.
abbrev pub goes_on : TokenLine → TokenLine → Bool
goes_on so_far next = begins_rnldef so_far.tokens && (is_open so_far.tokens || begins_operand next.tokens)

-- The statement so far with a line more.
abbrev pub with_line : TokenLine → TokenLine → TokenLine
with_line so_far next = record { at = so_far.at; tokens = so_far.tokens ++ next.tokens; joined = so_far.joined }

-- The statement that begins with lines, where it is so far this one, and the lines that are left behind it.
unfoldable pub first_from : TokenLine → List TokenLine → TokenLine
first_from s [] = s
first_from s (l ∷ ls) = if goes_on s l then first_from (with_line s l) ls else s

unfoldable pub left_from : TokenLine → List TokenLine → List TokenLine
left_from s [] = []
left_from s (l ∷ ls) = if goes_on s l then left_from (with_line s l) ls else l ∷ ls

-- ---- as it is gathered

-- The statement so far is an RNLDEF that isn't ended: an operand is open, or the next of these lines begins with one.
abbrev pub wants_more : TokenLine → List TokenLine → Bool
wants_more so_far ls = begins_rnldef so_far.tokens && (is_open so_far.tokens || begins_operands ls)
