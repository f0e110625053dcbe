-- In star mode each lock word tells who has interest in its entry, and who manages it.
use Rattle.std.specs.Prelude.{◌≡◌, ◌&&◌, ℕ, Bool, false, List, Option, Some, None, slice_get}
use Rattle.grs_node.specs.Node.{NodeState}
use Rattle.grs_node.specs.Star.{StarPart, has_interest, manages}
use Rattle.grs_wire.specs.LockWords.{is_manager}
use Rattle.grs_wire.specs.declared.deck.Deck.{Deck}
use Rattle.grs_wire.specs.declared.deck.Event.{Event}
use Rattle.lock_structure.specs.Laws.{IsManaged, is_interested, manager_at}
use Rattle.lock_structure.specs.Words.{word_at}
use Rattle.grs_world.specs.Running.{is_live}
use Rattle.grs_world.specs.World.{run, World}
use Rattle.grs_base.specs.declared.resource.SysId.{SysId}
use Rattle.grs_node.specs.Change.{part_by_table}
use Rattle.grs_world.specs.Kept.{table_behind}

-- A system's part in star mode. One that hasn't changed has yet to become what its table leads to, once it has
-- processed what it hasn't seen.
abbrev pub part_at : Deck → World → SysId → NodeState → Option StarPart → StarPart
part_at deck w s n None = part_by_table deck.entries s (table_behind deck w s n)
part_at deck w s n (Some p) = p

-- whether a system has interest in a lock entry by its part; one that isn't there has none
abbrev pub interest_at : Deck → World → SysId → Option NodeState → ℕ → Bool
interest_at deck w s None e = false
interest_at deck w s (Some n) e = has_interest (part_at deck w s n n.star) e

-- so whether it manages the entry
abbrev pub manages_at : Deck → World → SysId → Option NodeState → ℕ → Bool
manages_at deck w s None e = false
manages_at deck w s (Some n) e = manages (part_at deck w s n n.star) e

-- whether a live system has interest in a lock entry; whether it manages it
abbrev pub has_interest_there : Deck → World → SysId → ℕ → Bool
has_interest_there deck w s e = is_live w s && interest_at deck w s (slice_get w.nodes s.0) e

abbrev pub manages_there : Deck → World → SysId → ℕ → Bool
manages_there deck w s e = is_live w s && manages_at deck w s (slice_get w.nodes s.0) e

-- After these events each lock word names a system exactly where its set isn't empty, who is in it.
abbrev pub WordsAreManaged : Deck → List Event → Type 0
WordsAreManaged deck es = (e : ℕ) → IsManaged (word_at (run deck es).medium.words e)

-- After these events each word goes with the live systems, and holds no other.
pub record WordsGoWithSystems (deck : Deck) (es : List Event) : Type 0 where
  -- its set holds a system exactly where that system is live and has interest in the entry
  pub interest : (e : ℕ) (s : SysId)
      → is_interested (run deck es).medium.words e s.0 ≡ has_interest_there deck (run deck es) s e
  -- and a live system manages the entry exactly where the word names it
  pub manages : (e : ℕ) (s : SysId)
      → manages_there deck (run deck es) s e ≡ is_manager (manager_at (run deck es).medium.words e) s
