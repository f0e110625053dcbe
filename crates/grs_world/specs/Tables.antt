-- The table that a system in the ring keeps of the Systems resources is that of a front of the history: of what was
-- fixed before the first entry of the message that the system has still to process. The front is counted by what was
-- fixed, since an entry is one request or one removal, whatever lines of the history it makes.
use Rattle.std.specs.Prelude.{◌≡◌, ℕ, Bool, true, ◌-◌, ◌==◌, cond, List, [], ◌∷◌, Some, slice_get, unwrap_or, ◌&&◌}
use Rattle.std.specs.Prelude.{is_none}
use Rattle.grs_base.specs.declared.resource.SysId.{SysId}
use Rattle.grs_known.specs.Parts.{systems_part}
use Rattle.grs_known.specs.Items.{goes_round}
use Rattle.grs_node.specs.Node.{NodeState}
use Rattle.grs_wire.specs.History.{replay, answered}
use Rattle.grs_wire.specs.declared.deck.Deck.{Deck}
use Rattle.grs_wire.specs.declared.deck.Event.{Event}
use Rattle.grs_wire.specs.declared.request.Fixed.{Fixed}
use Rattle.rsa_message.specs.Message.{Message, first_number}
use Rattle.grs_wire.specs.Unseen.{unseen}
use Rattle.grs_world.specs.Running.{is_live}
use Rattle.grs_world.specs.World.{World, run}

-- What was fixed before the entry of this number. Each item that goes round is an entry, and numbers begin with 1.
abbrev pub before_number : ℕ → List (SysId × Fixed) → List (SysId × Fixed)
before_number number [] = []
before_number number (x ∷ xs) =
    cond (goes_round x.1) (cond (number == 1) [] (x ∷ before_number (number - 1) xs)) (x ∷ before_number number xs)

-- the number of the first entry that a system has still to process; where it has processed all, the next entry's
abbrev pub first_unseen : SysId → Message → ℕ
first_unseen s m = unwrap_or (first_number (unseen s m.entries)) m.next

-- the front that a system has processed
abbrev pub processed : World → SysId → List (SysId × Fixed)
processed w s = before_number (first_unseen s w.medium.message) w.fixed

-- A live system keeps a table until it changes to star mode.
abbrev pub keeps_table : World → SysId → NodeState → Bool
keeps_table w s n = is_live w s && is_none n.star

-- After these events each table that is kept has the plain lists of the Systems resources behind its system's front.
abbrev pub TablesAreFronts : Deck → List Event → Type 0
TablesAreFronts deck es =
    (s : SysId) (n : NodeState) → slice_get (run deck es).nodes s.0 ≡ Some n → keeps_table (run deck es) s n ≡ true
    → n.shared ≡ systems_part (replay deck.limit (answered (processed (run deck es) s)))
