-- After which replies a system wants no memory where it has made room, reply by reply, as the rules of the service ask.
use Rattle.std.proofs.Common.{◌≡◌, ℕ, Bool, true, false, List, [], ◌∷◌, map, replicate, Option, Some, None, refl}
use Rattle.grs_base.specs.declared.resource.SysId.{SysId}
use Rattle.grs_node.specs.Node.{NodeState}
use Rattle.grs_node.specs.Room.{needs_no_memory, takes_no_memory}
use Rattle.grs_node.specs.Star.{StarPart}
use Rattle.grs_wire.specs.declared.medium.Mail.{Mail}
use Rattle.grs_wire.specs.declared.medium.Reply.TheVariants as replies
use Rattle.grs_wire.specs.declared.medium.RingEntry.{RingEntry}

-- nothing came of the call; a mail was sent, or interest given up; a command of the desk came to nothing
little : (at : Option SysId) (first mask : ℕ)
    → map needs_no_memory (
    replies.NotYours at ∷ replies.Behind first ∷ replies.Empty ∷ replies.Kept mask ∷ replies.Yours ∷ replies.Old
    ∷ replies.Resting ∷ replies.Over ∷ replies.Removed ∷ replies.Turned [] 0 false
    ∷ replies.Sent ∷ replies.Told ∷ replies.Left ∷ replies.Already ∷ replies.NoSuch ∷ []
    ) ≡ replicate 15 true
little at first mask = refl

-- entries to read, requests that were put in, a message that was closed, a request or a mail to carry out, a change of
-- modes, a removal
more : (entry : RingEntry) (entries : List RingEntry) (mail : Mail) (taken set : ℕ) (closed : Bool)
    → map needs_no_memory (
    replies.Turned (entry ∷ entries) taken closed ∷ replies.Turned [] 1 false ∷ replies.Turned [] 0 true
    ∷ replies.Sole ∷ replies.Taken mail ∷ replies.Settled ∷ replies.Switched ∷ replies.Purged ∷ replies.Stale set ∷ []
    ) ≡ replicate 9 false
more entry entries mail taken set closed = refl

-- in ring mode it takes no memory to be told who is removed; in star mode the system loses them
stale : (n : NodeState) (part : StarPart) (set : ℕ)
    → map (λ (star : Option StarPart). takes_no_memory (record n { star = star }) (replies.Stale set))
    (None ∷ Some part ∷ []) ≡ true ∷ false ∷ []
stale n part set = refl
