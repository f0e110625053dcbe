-- What a reader of a text returns, against what reading gives on lists: a value, or the fault with its line.
use Rattle.std.specs.Prelude.{◌≡◌, ℕ, Option, Some, None, Result, Ok, Err}
use Rattle.grs_base.specs.declared.fault.DeckFault.{DeckFault}
use Rattle.grs_base.specs.declared.fault.Kind.{Kind}
use Rattle.grs_base.specs.declared.fault.Kind.TheVariants.{BadOperand}
use Rattle.grs_base.specs.declared.fault.ReadError.{ReadError}
use Rattle.grs_base.specs.declared.fault.ReadError.TheVariants as read_errors

-- The first fault ends the reading.
infixl 10 ◌>>=◌
abbrev pub ◌>>=◌ : {A B : Type 0} → Result A DeckFault → (A → Result B DeckFault) → Result B DeckFault
(Ok x) >>= f = f x
(Err e) >>= f = Err e

-- A fault of this kind, on this line.
abbrev pub refused : {X : Type 0} → ℕ → Kind → Result X DeckFault
refused at kind = Err (record { line = at; kind = kind })

-- What is read of the tokens of a statement on this line: where it has no form of its word, it is BadOperand.
abbrev pub or_bad : {X : Type 0} → ℕ → Option X → Result X DeckFault
or_bad at (Some x) = Ok x
or_bad at None = refused at BadOperand

abbrev pub Fails : {X : Type 0} → ReadError → Result X DeckFault → Type 0
Fails read_errors.NoMemory read = Unit {0}
Fails (read_errors.Fault f) read = read ≡ Err f

-- What a function returned is what reading gives, unless memory ran out.
abbrev pub Gives : {X : Type 0} → Result X ReadError → Result X DeckFault → Type 0
Gives (Ok x) read = read ≡ Ok x
Gives (Err e) read = Fails e read

-- What a function returned is this value, unless memory ran out.
abbrev pub IsOkUnlessMemory : {X : Type 0} → Result X ReadError → X → Type 0
IsOkUnlessMemory (Ok x) y = x ≡ y
IsOkUnlessMemory (Err read_errors.NoMemory) y = Unit {0}
IsOkUnlessMemory (Err (read_errors.Fault f)) y = ⊥
