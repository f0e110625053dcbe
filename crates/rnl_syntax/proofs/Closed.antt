-- The last byte of a text, the last token of a line, the last line of lines.
use Rattle.std.proofs.Common.{◌≡◌, ℕ, Bool, true, false, eqb, List, [], ◌∷◌, ◌++◌, refl}
use Rattle.deck_scan.specs.declared.token.Token.{Token}
use Rattle.deck_scan.specs.declared.token.Token.TheVariants.{Close}
use Rattle.deck_scan.specs.declared.token.TokenLine.{TokenLine}
use Rattle.rnl_syntax.specs.Reading.{ends_closed}

pub ends_closed-snoc : (xs : List ℕ) (b : ℕ) → ends_closed (xs ++ b ∷ []) ≡ eqb b 41
ends_closed-snoc [] b = refl
ends_closed-snoc (x ∷ []) b = refl
ends_closed-snoc (x ∷ y ∷ xs) b = ends_closed-snoc (y ∷ xs) b

abbrev pub is_close : Token → Bool
is_close Close = true
is_close _ = false

-- The last token is a closing parenthesis.
abbrev pub last_closes : List Token → Bool
last_closes [] = false
last_closes (t ∷ []) = is_close t
last_closes (t ∷ u ∷ ts) = last_closes (u ∷ ts)

-- So is the last token of the last line.
abbrev pub line_closes : List TokenLine → Bool
line_closes [] = false
line_closes (l ∷ []) = last_closes l.tokens
line_closes (l ∷ m ∷ ls) = line_closes (m ∷ ls)

pub last_closes-append : (xs ys : List Token) (t : Token) → last_closes (xs ++ t ∷ ys) ≡ last_closes (t ∷ ys)
last_closes-append [] ys t = refl
last_closes-append (x ∷ []) ys t = refl
last_closes-append (x ∷ y ∷ xs) ys t = last_closes-append (y ∷ xs) ys t

pub line_closes-snoc : (ls : List TokenLine) (l : TokenLine) → line_closes (ls ++ l ∷ []) ≡ last_closes l.tokens
line_closes-snoc [] l = refl
line_closes-snoc (m ∷ []) l = refl
line_closes-snoc (m ∷ n ∷ ls) l = line_closes-snoc (n ∷ ls) l

pub close_is : (t : Token) → is_close t ≡ true → t ≡ Close
close_is Close h = refl
close_is _ h = absurd cc
