-- Decks whose runs may be in star mode, and decks whose runs may remove a system.
use Rattle.std.specs.Prelude.{◌≡◌, ◌≤◌, true, length, ◌||◌, Bool, false, List}
use Rattle.grs_base.specs.Limits.{most_systems, is_entries}
use Rattle.grs_wire.specs.declared.deck.Deck.{Deck}
use Rattle.std.specs.List.{list_any}
use Rattle.grs_wire.specs.declared.deck.Desk.{Desk}
use Rattle.grs_wire.specs.declared.deck.Order.{Order}
use Rattle.grs_wire.specs.declared.deck.Order.TheVariants.{Star, Vary}

-- whether a desk command orders the change to star mode
abbrev pub is_star_order : Order → Bool
is_star_order Star = true
is_star_order (Vary target) = false

abbrev pub orders_star : List Desk → Bool
orders_star ls = list_any (λ l. is_star_order l.order) ls

-- whether a run of the deck may be in star mode: it begins so, or a system's desk orders the change
abbrev pub may_be_star : Deck → Bool
may_be_star deck = deck.star || list_any (λ s. orders_star s.desk) deck.systems

-- whether a desk command removes a system
abbrev pub is_removal_order : Order → Bool
is_removal_order Star = false
is_removal_order (Vary target) = true

abbrev pub orders_removal : List Desk → Bool
orders_removal ls = list_any (λ l. is_removal_order l.order) ls

-- whether a run of the deck may remove a system: a system's desk orders it
abbrev pub may_remove : Deck → Bool
may_remove deck = list_any (λ s. orders_removal s.desk) deck.systems

-- A deck fits star mode where it has no more systems than there may be, and one of the numbers of lock entries that
-- there may be.
pub record FitsStar (deck : Deck) : Type 0 where
  pub few : length deck.systems ≤ most_systems
  pub entries : is_entries deck.entries ≡ true
