-- What the notices in the inboxes name.
use Rattle.std.specs.Prelude.{◌≡◌, ◌<◌, ◌==◌, ℕ, Bool, true, false, List, [], ◌∷◌, filter, Some}
use Rattle.grs_base.specs.declared.resource.SysId.{SysId}
use Rattle.grs_medium.specs.Medium.{inbox}
use Rattle.grs_wire.specs.Masks.{has}
use Rattle.grs_wire.specs.Notices.{noticed}
use Rattle.grs_wire.specs.declared.deck.Deck.{Deck}
use Rattle.grs_wire.specs.declared.deck.Event.{Event}
use Rattle.grs_wire.specs.declared.gather.Moved.{Moved}
use Rattle.grs_wire.specs.declared.medium.Mail.{Mail}
use Rattle.grs_wire.specs.declared.medium.Mail.TheVariants.{Notice}
use Rattle.lock_structure.specs.Laws.{is_interested, manager_at}
use Rattle.grs_world.specs.Running.{is_live}
use Rattle.grs_world.specs.World.{run}

-- the items of a notice that name the entry
abbrev pub items_in : ℕ → Mail → List Moved
items_in e (Notice target moved) = filter (λ m. m.entry == e) moved
items_in e mail = []

-- an item names the entry's manager, or where a later notice names the entry too (true) one that was removed
abbrev pub NamesOne : List ℕ → ℕ → ℕ → Moved → Bool → Type 0
NamesOne words removed e x false = manager_at words e ≡ Some x.manager
NamesOne words removed e x true = has removed x.manager.0 ≡ true

-- so each of these does, at system s, which has interest in the entry
abbrev pub AllName : List ℕ → ℕ → ℕ → ℕ → Bool → List Moved → Type 0
AllName words removed e s later [] = Unit {0}
AllName words removed e s later (x ∷ xs) =
    (is_interested words e s ≡ true) × NamesOne words removed e x later × AllName words removed e s later xs

-- and each of an inbox
abbrev pub InBox : List ℕ → ℕ → ℕ → ℕ → List Mail → Type 0
InBox words removed e s [] = Unit {0}
InBox words removed e s (y ∷ ms) = AllName words removed e s (noticed e ms) (items_in e y) × InBox words removed e s ms

-- After these events it is so of each live system's inbox and each entry.
abbrev pub NoticesName : Deck → List Event → Type 0
NoticesName deck es =
    (s : SysId) (e : ℕ) → is_live (run deck es) s ≡ true → e < deck.entries →
    InBox (run deck es).medium.words (run deck es).medium.removed e s.0 (inbox (run deck es).medium s.0)
