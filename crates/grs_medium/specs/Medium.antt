-- The medium: the part of a complex that all its systems share.
use Rattle.std.specs.Prelude.{◌<◌, ◌^◌, ℕ, Bool, cond, ◌&&◌, List, [], length, replicate}
use Rattle.std.specs.List.{All}
use Rattle.grs_base.specs.declared.resource.SysId.{SysId}
use Rattle.grs_wire.specs.declared.medium.Mail.{Mail}
use Rattle.grs_wire.specs.Masks.{has, without, others, all_others}
use Rattle.lock_structure.specs.Words.{word_at, ManagerIsBelow, MaskIsBelow}
use Rattle.rsa_message.specs.Message.{Message, opened, never_opened, message_at_end}
use Rattle.grs_medium.specs.Inboxes.{inbox_of, is_empty}

-- `words` are the lock words, one for each lock entry; each system has an inbox; `removed` is the set of the
-- systems that were removed, and `rest` the set of those whose flag of rest is set.
pub record MediumState : Type 0 where
  pub star : Bool
  pub message : Message
  pub words : List ℕ
  pub inboxes : List (List Mail)
  pub removed : ℕ
  pub rest : ℕ

-- Lock words that name some of so many systems alone, of no more entries than a number can name.
pub record AreWords (systems : ℕ) (words : List ℕ) : Type 0 where
  pub managers : All (ManagerIsBelow systems) words
  pub masks : All (MaskIsBelow systems) words
  pub count : length words < 2 ^ 32

-- the medium at the start
abbrev pub first_medium : ℕ → ℕ → Bool → MediumState
first_medium systems entries star = record {
  star = star;
  message = cond star (never_opened systems) (opened systems);
  words = replicate entries 0;
  inboxes = replicate systems [];
  removed = 0;
  rest = 0;
}

-- how many systems there were at the start
abbrev pub systems_of : MediumState → ℕ
systems_of m = m.message.systems

-- the set of the systems that aren't removed
abbrev pub live : MediumState → ℕ
live m = others (systems_of m) m.removed

-- the inbox of a system
abbrev pub inbox : MediumState → ℕ → List Mail
inbox m s = inbox_of m.inboxes s

-- whether nothing is left to do with the medium: all live inboxes are empty, no entry of the message is left,
-- and no system has yet to change to star mode
unfoldable pub medium_at_end : MediumState → Bool
medium_at_end m = all_others (systems_of m) m.removed (λ s. is_empty (inbox m s)) && message_at_end m.message

-- whether all live flags of rest are set
abbrev pub all_rest : MediumState → Bool
all_rest m = all_others (systems_of m) m.removed (λ s. has m.rest s)

-- the flag of rest of s cleared
abbrev pub awake : MediumState → SysId → ℕ
awake m s = without m.rest s.0

-- the lock word of an entry
abbrev pub word : MediumState → ℕ → ℕ
word m entry = word_at m.words entry
