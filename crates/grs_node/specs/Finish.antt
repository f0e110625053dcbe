-- With what a choice may be finished.
use Rattle.std.specs.Prelude.{◌≡◌, Bool, true, false, ◌||◌, Option, Some, None}
use Rattle.grs_wire.specs.declared.deck.Choice.{Choice}
use Rattle.grs_wire.specs.declared.deck.Deck.{Deck}
use Rattle.grs_wire.specs.declared.medium.Reply.{Reply}
use Rattle.grs_wire.specs.Replies.{is_listed, leaves_all}
use Rattle.grs_node.specs.Log.{NodeView, finished}
use Rattle.grs_node.specs.Node.{NodeState, only, prepare, finish}
use Rattle.grs_node.specs.declared.prepared.Prepared.{Prepared}
use Rattle.grs_node.specs.declared.prepared.Prepared.TheVariants.{Quiet, Call, Nothing}

-- whether it may come to this reply by what was prepared
abbrev pub may_come : Prepared → Reply → Bool
may_come (Call call) reply = is_listed call.act reply
may_come Quiet reply = false
may_come Nothing reply = false

-- What a finish needs. Without a reply the choice is prepared to be done without a call. With one a call was
-- prepared to which the medium gives such replies; and a call without an entry in the journal has a reply that
-- leaves the system as it is.
abbrev pub MayFinish : NodeView → Choice → Option (Reply × Bool) → Type 0
MayFinish v choice None = prepare v.deck v.node choice ≡ Quiet
MayFinish v choice (Some r) = (may_come (prepare v.deck v.node choice) r.0 ≡ true) × (r.1 || leaves_all r.0 ≡ true)

-- A finish of a call without an entry in the journal leaves the system as it is, its log too.
abbrev pub UnjournalledLeaves : Type 0
UnjournalledLeaves =
    (v : NodeView) (choice : Choice) (reply : Reply) → MayFinish v choice (Some (reply, false))
    → finished v choice (Some (reply, false)) ≡ v

-- A reply that leaves the system as it is leaves it so whatever the choice, and fixes nothing.
abbrev pub RepliesLeave : Type 0
RepliesLeave =
    (deck : Deck) (n : NodeState) (choice : Choice) (reply : Reply) → leaves_all reply ≡ true
    → finish deck n choice (Some reply) ≡ only n
