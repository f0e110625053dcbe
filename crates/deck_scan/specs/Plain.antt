-- A line of two or three words with a blank between them.
use Rattle.std.specs.Prelude.{◌≡◌, ℕ, true, false, List, [], ◌∷◌, ◌++◌, Option, Some, None}
use Rattle.std.specs.List.{list_all}
use Rattle.std.specs.Borrow.{Bor}
use Rattle.deck_scan.specs.declared.token.Token.{Token}
use Rattle.deck_scan.specs.declared.token.Token.TheVariants.{Word}
use Rattle.deck_scan.specs.declared.token.TokenLine.{TokenLine}
use Rattle.deck_scan.specs.Bytes.{is_word}
use Rattle.deck_scan.specs.Pieces.{is_nonempty}

-- The token of a third word, where there is one.
abbrev pub third_token : Option (Bor (List ℕ)) → List Token
third_token None = []
third_token (Some w) = Word w.now ∷ []

abbrev pub plain_tokens : List ℕ → List ℕ → Option (Bor (List ℕ)) → List Token
plain_tokens first second third = Word first ∷ Word second ∷ third_token third

-- Nothing stands directly behind its first word.
abbrev pub plain_line : ℕ → List ℕ → List ℕ → Option (Bor (List ℕ)) → TokenLine
plain_line at first second third = record { at = at; tokens = plain_tokens first second third; joined = false }

-- A text begins with this word, and then this stands.
pub record IsFront (text word behind : List ℕ) : Type 0 where
  pub parts : text ≡ word ++ behind
  pub some : is_nonempty word ≡ true
  pub every : list_all is_word word ≡ true

-- A text begins with a blank and this word, and then this stands; or no word is said, and nothing was gone over.
abbrev pub IsThird : List ℕ → Option (Bor (List ℕ)) → List ℕ → Type 0
IsThird text None behind = text ≡ behind
IsThird text (Some w) behind = (rest : List ℕ) × (text ≡ 32 ∷ rest) × IsFront rest w.now behind
