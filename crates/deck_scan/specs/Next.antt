-- The next token. What is read of tokens is a value and the rest, or none where the form is another.
use Rattle.std.specs.Prelude.{◌≡◌, ℕ, zero, suc, ◌==◌, List, [], ◌∷◌, length, Option, Some, None, Result, Ok, Err}
use Rattle.std.specs.Prelude.{if◌then◌else◌}
use Rattle.std.specs.Str.{bytes_eq}
use Rattle.deck_scan.specs.declared.token.Token.{Token}
use Rattle.deck_scan.specs.declared.token.Token.TheVariants.{Word, Name, Open, Close, Comma, Equals}
use Rattle.deck_scan.specs.declared.miss.Miss.{Miss}

infixl 10 ◌>>=◌
abbrev pub ◌>>=◌ : {A B : Type 0} → Option A → (A → Option B) → Option B
(Some x) >>= f = f x
None >>= f = None

-- What a function returned, seen by view, is what reading gives.
abbrev pub Reads : {X Y : Type 0} → (X → Y) → Result X Miss → Option Y → Type 0
Reads view (Ok x) read = read ≡ Some (view x)
Reads view (Err e) read = read ≡ None

abbrev pub open_at : List Token → Option (List Token)
open_at (Open ∷ ts) = Some ts
open_at _ = None

abbrev pub close_at : List Token → Option (List Token)
close_at (Close ∷ ts) = Some ts
close_at _ = None

abbrev pub comma_at : List Token → Option (List Token)
comma_at (Comma ∷ ts) = Some ts
comma_at _ = None

abbrev pub equals_at : List Token → Option (List Token)
equals_at (Equals ∷ ts) = Some ts
equals_at _ = None

abbrev pub end_at : List Token → Option (Unit {0})
end_at [] = Some tt
end_at (t ∷ ts) = None

abbrev pub any_word_at : List Token → Option (List ℕ × List Token)
any_word_at (Word w ∷ ts) = Some (w, ts)
any_word_at _ = None

-- This word.
abbrev pub word_at : List ℕ → List Token → Option (List Token)
word_at word ts = do
  w ← any_word_at ts
  if bytes_eq w.0 word then Some w.1 else None

-- An equals sign and a word.
abbrev pub value_at : List Token → Option (List ℕ × List Token)
value_at ts = do
  a ← equals_at ts
  any_word_at a

-- The name of a resource, plain or not.
abbrev pub name_at : List Token → Option (List ℕ × List Token)
name_at (Word w ∷ ts) = Some (w, ts)
name_at (Name w ∷ ts) = Some (w, ts)
name_at _ = None

-- Nothing where there is nothing, else one more.
abbrev pub maybe : {O : Type 0} → (O → List Token → Option (O × List Token)) → O → List Token → Option (O × List Token)
maybe read o ts = if length ts == 0 then Some (o, ts) else read o ts

-- At most this many, and nothing after them.
abbrev pub up_to : {O : Type 0} → ℕ → (O → List Token → Option (O × List Token)) → O → List Token → Option O
up_to zero read o ts = end_at ts >>= λ end. Some o
up_to (suc n) read o ts = maybe read o ts >>= λ a. up_to n read a.0 a.1

-- What stands once takes its value where it has none yet.
abbrev pub once : {A O : Type 0} → Option A → O → Option O
once None o = Some o
once (Some a) o = None

-- A token names a resource by these bytes: plain, or quoted or in hexadecimal.
abbrev pub Names : Token → List ℕ → Type 0
Names (Word w) n = w ≡ n
Names (Name w) n = w ≡ n
Names _ n = ⊥

-- Things that stand one behind the other, each where it is free; each sets its value.
abbrev pub Sets : {O X : Type 0} → (X → O → Type 0) → (X → O → O) → O → List X → O → Type 0
Sets free set o [] p = p ≡ o
Sets free set o (x ∷ xs) p = free x o × Sets free set (set x o) xs p
