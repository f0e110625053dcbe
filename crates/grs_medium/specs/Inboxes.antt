-- The inboxes: the mail of each system, in order of arrival.
use Rattle.std.specs.Prelude.{◌≡◌, ◌<◌, ℕ, Bool, true, false, ◌==◌, List, [], ◌∷◌, ◌++◌, length, drop, slice_index_or}
use Rattle.std.specs.Prelude.{slice_set, Option}
use Rattle.std.specs.Prelude.{Some, None}
use Rattle.grs_base.specs.declared.resource.SysId.{SysId}
use Rattle.grs_wire.specs.declared.gather.Moved.{Moved}
use Rattle.grs_wire.specs.declared.medium.Mail.{Mail}
use Rattle.grs_wire.specs.declared.medium.Mail.TheVariants as mails

-- The mail of each system by number; whose inbox has room for one more; and what each system is to get to know by the
-- removal of another, by number, where that was got ready: then each that gets something has room for it.
pub record InboxesValue : Type 0 where
  pub mail : List (List Mail)
  pub ready : Option SysId
  pub moved : List (List Moved)

-- the inbox of a system
abbrev pub inbox_of : List (List Mail) → ℕ → List Mail
inbox_of boxes s = slice_index_or boxes s []

abbrev pub is_empty : List Mail → Bool
is_empty mails = length mails == 0

-- the first mail of an inbox
abbrev pub first_mail : List Mail → Option Mail
first_mail [] = None
first_mail (mail ∷ rest) = Some mail

-- with a mail last in the inbox of a system
abbrev pub with_mail : List (List Mail) → ℕ → Mail → List (List Mail)
with_mail boxes s mail = slice_set boxes s (inbox_of boxes s ++ mail ∷ [])

-- without the first mail of the inbox of a system
abbrev pub without_first : List (List Mail) → ℕ → List (List Mail)
without_first boxes s = slice_set boxes s (drop 1 (inbox_of boxes s))

-- whether there is something to get to know
abbrev pub has_news : List Moved → Bool
has_news [] = false
has_news (m ∷ ms) = true

-- the mail by which a system gets to know these lock entries once t is removed: a notice, or none where there are none
abbrev pub notices_to : SysId → List Moved → List Mail
notices_to t [] = []
notices_to t (m ∷ ms) = mails.Notice t (m ∷ ms) ∷ []

-- the inboxes, with such mail last in each, by number
abbrev pub posted : SysId → List (List Moved) → List (List Mail) → List (List Mail)
posted t ms [] = []
posted t [] (b ∷ boxes) = b ∷ boxes
posted t (m ∷ ms) (b ∷ boxes) = (b ++ notices_to t m) ∷ posted t ms boxes

-- with an empty inbox of a system
abbrev pub emptied : List (List Mail) → ℕ → List (List Mail)
emptied boxes s = slice_set boxes s []

-- whether a system has a box, and it has room for more than is in it
abbrev pub HasSpace : {B : Type 0} → List B → (B → ℕ) → (B → ℕ) → SysId → Type 0
HasSpace {B} boxes filled room s =
    (s.0 < length boxes) × ((d : B) → filled (slice_index_or boxes s.0 d) < room (slice_index_or boxes s.0 d))

-- whether each system that gets to know something has a box, and it has room for more than is in it
abbrev pub HaveSpace : {B : Type 0} → List (List Moved) → List B → (B → ℕ) → (B → ℕ) → Type 0
HaveSpace moved boxes filled room =
    (s : SysId) → has_news (slice_index_or moved s.0 []) ≡ true → HasSpace boxes filled room s
