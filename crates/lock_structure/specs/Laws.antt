-- Laws of lock words: who has interest in a lock entry and who manages it, behind a request and once a system has given
-- its interest up.
use Rattle.std.specs.Prelude.{◌≡◌, ◌≢◌, ◌<◌, ℕ, Bool, true, false, cond, not, ◌==◌, ◌&&◌, ◌||◌, List, length, replicate}
use Rattle.std.specs.Prelude.{Option, Some, None, unwrap_or}
use Rattle.std.specs.List.{All}
use Rattle.grs_base.specs.Limits.{most_systems}
use Rattle.grs_base.specs.declared.resource.SysId.{SysId}
use Rattle.grs_wire.specs.LockWords.{interest, manager, is_manager, submitted, leave_reply, left_word}
use Rattle.grs_wire.specs.Masks.{has, with_also, only, all_others}
use Rattle.grs_wire.specs.declared.medium.Reply.TheVariants.{Left, Kept}
use Rattle.lock_structure.specs.Words.{word_at, submitted_words, left_words}

-- ---- one word

-- There is a manager exactly where somebody has interest, and it is one of those who have.
abbrev pub ManagedBy : Option SysId → ℕ → Type 0
ManagedBy None mask = mask ≡ 0
ManagedBy (Some s) mask = has mask s.0 ≡ true

abbrev pub IsManaged : ℕ → Type 0
IsManaged w = ManagedBy (manager w) (interest w)

-- After a request those have interest who had, and the caller.
abbrev pub SubmitAddsCaller : Type 0
SubmitAddsCaller =
    (w : ℕ) (c : SysId) → c.0 < most_systems → IsManaged w → interest (submitted w c) ≡ with_also (interest w) c.0

-- After a request the manager is the one that was, or else the caller.
abbrev pub SubmitKeepsManager : Type 0
SubmitKeepsManager = (w : ℕ) (c : SysId) → c.0 < most_systems → manager (submitted w c) ≡ Some (unwrap_or (manager w) c)

-- Behind a Left those have interest who had, but not the caller.
abbrev pub LeaveTakesCaller : Type 0
LeaveTakesCaller =
    (w : ℕ) (c : SysId) → leave_reply w c ≡ Left → (s : ℕ)
    → has (interest (left_word w c)) s ≡ (has (interest w) s && not (s == c.0))

-- Behind a Left the caller manages no more, and any other manager still does.
abbrev pub LeaveKeepsManager : Type 0
LeaveKeepsManager =
    (w : ℕ) (c : SysId) → IsManaged w → leave_reply w c ≡ Left
    → manager (left_word w c) ≡ cond (is_manager (manager w) c) None (manager w)

-- Kept is answered to a manager alone, and leaves the word.
abbrev pub KeptStays : Type 0
KeptStays = (w : ℕ) (c : SysId) (mask : ℕ) → leave_reply w c ≡ Kept mask → (manager w ≡ Some c) × (left_word w c ≡ w)

-- A manager is answered Kept where another system has interest.
abbrev pub ManagerIsKept : Type 0
ManagerIsKept =
    (w : ℕ) (c : SysId) (s : ℕ) → IsManaged w → manager w ≡ Some c → s ≢ c.0 → has (interest w) s ≡ true
    → leave_reply w c ≡ Kept (interest w)

-- whether another system than c is in a set
abbrev pub has_others : ℕ → SysId → Bool
has_others mask c = not (all_others most_systems (only c.0) (λ s. not (has mask s)))

-- Kept is answered only where another system has interest.
abbrev pub KeptHasOther : Type 0
KeptHasOther =
    (w : ℕ) (c : SysId) (mask : ℕ) → leave_reply w c ≡ Kept mask → (s : ℕ) × ((s ≢ c.0) × (has (interest w) s ≡ true))

-- Where no other system has interest the caller is let go, also as the manager.
abbrev pub LoneIsLeft : Type 0
LoneIsLeft = (w : ℕ) (c : SysId) → ((s : ℕ) → s ≢ c.0 → has (interest w) s ≡ false) → leave_reply w c ≡ Left

-- A word in which nobody has interest has no manager, and there stays a manager exactly where somebody has interest.
abbrev pub EmptyIsManaged : Type 0
EmptyIsManaged = IsManaged 0

abbrev pub SubmitKeepsManaged : Type 0
SubmitKeepsManaged = (w : ℕ) (c : SysId) → c.0 < most_systems → IsManaged w → IsManaged (submitted w c)

abbrev pub LeaveKeepsManaged : Type 0
LeaveKeepsManaged = (w : ℕ) (c : SysId) → IsManaged w → IsManaged (left_word w c)

-- ---- the words of all entries

-- whether a system has interest in an entry, and which one manages it
abbrev pub is_interested : List ℕ → ℕ → ℕ → Bool
is_interested words e s = has (interest (word_at words e)) s

abbrev pub manager_at : List ℕ → ℕ → Option SysId
manager_at words e = manager (word_at words e)

-- At the start nobody has interest in an entry, and none has a manager.
abbrev pub WordsBegin : Type 0
WordsBegin = (entries : ℕ) → All IsManaged (replicate entries 0)

-- Each call leaves a manager exactly where somebody has interest.
abbrev pub SubmitKeepsAllManaged : Type 0
SubmitKeepsAllManaged =
    (words : List ℕ) (entry : ℕ) (c : SysId) → entry < length words → c.0 < most_systems → All IsManaged words
    → All IsManaged (submitted_words words entry c)

abbrev pub LeaveKeepsAllManaged : Type 0
LeaveKeepsAllManaged =
    (words : List ℕ) (entry : ℕ) (c : SysId) → entry < length words → All IsManaged words
    → All IsManaged (left_words words entry c)

-- A request gives its caller interest in its entry, and nobody else any.
abbrev pub SubmitJoins : Type 0
SubmitJoins =
    (words : List ℕ) (entry : ℕ) (c : SysId) → entry < length words → c.0 < most_systems → All IsManaged words →
    (e s : ℕ)
    → is_interested (submitted_words words entry c) e s ≡ (is_interested words e s || ((e == entry) && (s == c.0)))

-- Behind it its entry has a manager: the caller where it had none. The other managers stay.
abbrev pub SubmitManages : Type 0
SubmitManages = (words : List ℕ) (entry : ℕ) (c : SysId) → entry < length words → c.0 < most_systems →
    (e : ℕ)
    → manager_at (submitted_words words entry c) e
    ≡ cond (e == entry) (Some (unwrap_or (manager_at words entry) c)) (manager_at words e)

-- A Left takes its caller's interest in its entry, and nobody else's.
abbrev pub LeaveParts : Type 0
LeaveParts =
    (words : List ℕ) (entry : ℕ) (c : SysId) → entry < length words → leave_reply (word_at words entry) c ≡ Left →
    (e s : ℕ)
    → is_interested (left_words words entry c) e s ≡ (is_interested words e s && not ((e == entry) && (s == c.0)))

-- Behind it the entry has no manager where the caller managed it. The other managers stay.
abbrev pub LeaveManages : Type 0
LeaveManages =
    (words : List ℕ) (entry : ℕ) (c : SysId) → entry < length words → All IsManaged words
    → leave_reply (word_at words entry) c ≡ Left →
    (e : ℕ)
    → manager_at (left_words words entry c) e
    ≡ cond ((e == entry) && is_manager (manager_at words e) c) None (manager_at words e)

-- A Kept changes no word.
abbrev pub KeptChangesNothing : Type 0
KeptChangesNothing =
    (words : List ℕ) (entry : ℕ) (c : SysId) (mask : ℕ) → leave_reply (word_at words entry) c ≡ Kept mask
    → left_words words entry c ≡ words
