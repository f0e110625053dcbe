-- Worked examples of a message that a system leaves, since it is removed in star mode.
use Rattle.std.proofs.Common.{◌≡◌, ℕ, List, [], ◌∷◌, Option, Some, None, true, refl}
use Rattle.grs_base.specs.declared.resource.SysId.{SysId}
use Rattle.grs_wire.specs.Masks.{has, without, with_also}
use Rattle.grs_wire.specs.declared.medium.RingBody.TheVariants.{Remove}
use Rattle.grs_wire.specs.declared.medium.RingEntry.{RingEntry}
use Rattle.rsa_message.specs.Message.{Message, cleared, first_after, departed}

abbrev sys : ℕ → SysId
sys n = record { 0 = n }

-- an entry of system 0 with this number, which these systems have yet to process
abbrev entry : ℕ → ℕ → RingEntry
entry number mask = record { number = number; from = sys 0; body = Remove (sys 5); mask = mask }

-- the closed message of six systems, of which 5 was removed before
abbrev of_six : Option SysId → ℕ → List RingEntry → Message
of_six holder still entries =
    record { systems = 6; holder = holder; closed = true; still = still; entries = entries; next = 9 }

-- Systems 1, 2 and 4 have yet to change to star mode, and the message stands at 2.
-- It is removed: the message goes on to 4. The entry that it alone had to process goes.
holder_departs :
    departed (of_six (Some (sys 2)) 22 (entry 7 4 ∷ entry 8 22 ∷ [])) (sys 2)
    ≡ of_six (Some (sys 4)) 18 (entry 8 18 ∷ [])
unfolding has without with_also cleared first_after departed
holder_departs = refl

-- another is removed: the message stays where it is
other_departs :
    departed (of_six (Some (sys 2)) 22 (entry 8 22 ∷ [])) (sys 4) ≡ of_six (Some (sys 2)) 6 (entry 8 6 ∷ [])
unfolding has without with_also cleared first_after departed
other_departs = refl

-- the last one is removed that had yet to change: the message is nowhere
last_departs : departed (of_six (Some (sys 4)) 16 (entry 8 16 ∷ [])) (sys 4) ≡ of_six None 0 []
unfolding has without with_also cleared first_after departed
last_departs = refl

-- behind the last system comes the first
goes_round : departed (of_six (Some (sys 4)) 18 []) (sys 4) ≡ of_six (Some (sys 1)) 2 []
unfolding has without with_also cleared first_after departed
goes_round = refl

-- a system that had changed is removed, and the message was nowhere: it stays so
changed_departs : departed (of_six None 0 []) (sys 3) ≡ of_six None 0 []
unfolding has without with_also cleared first_after departed
changed_departs = refl
