-- What a text is answered by.
use Rattle.std.specs.Prelude.{◌≡◌, ◌⊎◌, ℕ, List, [], ◌∷◌, ◌++◌, codes}
use Rattle.std.specs.Fmt.{decimal}
use Rattle.grs_base.specs.declared.fault.DeckFault.{DeckFault}
use Rattle.grs_base.specs.Faults.{number}
use Rattle.grs_top.specs.declared.status.Status.{Status}
use Rattle.grs_top.specs.declared.status.Status.TheVariants.{Deck}
use Rattle.grs_top.specs.declared.words.Command.{Command}
use Rattle.grs_top.specs.Commands.{InputOf, SpellsInput, IsFaultOf, IsTextOf}

-- FAULT LINE l KIND k, and a line end
unfoldable pub fault_line : DeckFault → List ℕ
fault_line f = (((codes "FAULT LINE " ++ decimal f.line) ++ codes " KIND ") ++ decimal (number f.kind)) ++ 10 ∷ []

-- A text with a fault is answered by the line of its first one.
pub record IsRefused (c : Command) (text out : List ℕ) : Type 0 where
  pub first : DeckFault
  pub is_first : IsFaultOf c text first
  pub line : out ≡ fault_line first

-- A text without a fault is answered by what the command writes for what it spells.
pub record IsAnswered (c : Command) (text out : List ℕ) (status : Status) : Type 0 where
  pub input : InputOf c
  pub spelled : SpellsInput c text input
  pub is_text : IsTextOf c input out status

-- What is due for a text, and the status where it is written whole.
abbrev pub IsDue : Command → List ℕ → List ℕ → Status → Type 0
IsDue c text out status = (IsRefused c text out × (status ≡ Deck)) ⊎ IsAnswered c text out status
