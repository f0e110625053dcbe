-- A journal of calls: which calls are entered, whom a call concerns, the medium that a journal leads to, which journals
-- are right, and the part of one system.
use Rattle.std.specs.Prelude.{◌≡◌, ◌^◌, ℕ, Bool, true, false, ◌||◌, ◌==◌, List, [], ◌∷◌, ◌++◌, cond, filter}
use Rattle.grs_base.specs.declared.resource.SysId.{SysId}
use Rattle.grs_wire.specs.declared.medium.Call.{Call}
use Rattle.grs_wire.specs.declared.medium.JEntry.{JEntry}
use Rattle.grs_wire.specs.declared.medium.Reply.{Reply}
use Rattle.grs_wire.specs.declared.medium.Reply.TheVariants.{Stale, Already, NoSuch, Sole, Left}
use Rattle.grs_medium.specs.Apply.{reply_to, medium_after, changes, MayCall}
use Rattle.grs_medium.specs.Concerned.{concerned}
use Rattle.grs_medium.specs.Medium.{MediumState}

-- How many numbers of a holder the word tells apart: 0 for nobody, and else a system's number and one. And a length
-- that no journal comes to: so many times the holders are past the word, which has 64 bits.
abbrev pub holders : ℕ
holders = 64

abbrev pub no_length : ℕ
no_length = 2 ^ 58

-- replies that are entered also where the medium stays as it was, since a system acts on them
abbrev pub is_acted_on : Reply → Bool
is_acted_on (Stale set) = true
is_acted_on Already = true
is_acted_on NoSuch = true
is_acted_on Sole = true
is_acted_on Left = true
is_acted_on reply = false

-- whether a call is entered into the journal: it changes the medium, or its reply is one of these
unfoldable pub is_entered : MediumState → SysId → Call → Bool
is_entered m c call = changes m c call || is_acted_on (reply_to m c call)

-- Whom a call of c concerns where the medium is m: nobody, unless it changes that, and else whom the changed medium
-- tells.
abbrev pub concerned_by : MediumState → SysId → Call → ℕ
concerned_by m c call = cond (changes m c call) (concerned (medium_after m c call) c call.act) 0

abbrev pub entry_of : SysId → Call → Reply → JEntry
entry_of c call reply = record { system = c; call = call; reply = reply }

-- the medium after the calls of a journal
abbrev pub after_all : MediumState → List JEntry → MediumState
after_all m [] = m
after_all m (e ∷ es) = after_all (medium_after m e.system e.call) es

-- An entry that is right where the medium is m: the medium could be asked its call, the reply is the medium's, and
-- the call is one that is entered.
abbrev pub IsRight : MediumState → JEntry → Type 0
IsRight m e = MayCall m e.system e.call × (e.reply ≡ reply_to m e.system e.call) × (is_entered m e.system e.call ≡ true)

-- each entry is right at its place
abbrev pub AreRight : MediumState → List JEntry → Type 0
AreRight m [] = Unit {0}
AreRight m (e ∷ es) = IsRight m e × AreRight (medium_after m e.system e.call) es

-- the entries of the system with this number, in order
abbrev pub entries_of : ℕ → List JEntry → List JEntry
entries_of s journal = filter (λ (e : JEntry). e.system.0 == s) journal

-- the first journal is how the second one begins
abbrev pub Begins : List JEntry → List JEntry → Type 0
Begins xs ys = (more : List JEntry) × (ys ≡ xs ++ more)
