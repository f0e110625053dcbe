-- The room that a call of the medium was given beforehand, so that it takes no memory.
use Rattle.std.specs.Prelude.{◌≡◌, ℕ, true, false, List, length, Option, Some, None}
use Rattle.grs_base.specs.declared.resource.SysId.{SysId}
use Rattle.grs_wire.specs.declared.medium.Act.{Act}
use Rattle.grs_wire.specs.declared.medium.Act.TheVariants.{Turn, Submit, Settle, Tell, Purge}
use Rattle.grs_wire.specs.declared.medium.Call.{Call}
use Rattle.grs_wire.specs.declared.gather.Moved.{Moved}
use Rattle.grs_wire.specs.declared.medium.Mail.{Mail}
use Rattle.grs_wire.specs.declared.medium.Mail.TheVariants as mails
use Rattle.grs_wire.specs.declared.request.Req.{Req}
use Rattle.lock_structure.specs.Words.{route}
use Rattle.lock_structure.specs.declared.word.Route.{Route}
use Rattle.lock_structure.specs.declared.word.Route.TheVariants.{Sole, To}
use Rattle.rsa_message.specs.Message.{put_in}
use Rattle.rsa_message.specs.Places.{HasPlaces}
use Rattle.rsa_message.specs.Room.{Room, HasRoom}
use Rattle.grs_medium.specs.Apply.{is_live, moved_by}
use Rattle.grs_medium.specs.Causes.{is_heard}
use Rattle.grs_medium.specs.Medium.{MediumState, systems_of, word}

-- a medium with its room: the message's, whose inbox has room for one more mail, and what was got ready for each system
-- to get to know by a removal
pub record MediumValue : Type 0 where
  pub state : MediumState
  pub room : Room
  pub ready : Option SysId
  pub moved : List (List Moved)

-- the mail of a request, and whom it goes to, where it goes to the manager
abbrev pub request_on : Route → ℕ → SysId → Req → Option (SysId × Mail)
request_on Sole entry c req = None
request_on (To s) entry c req = Some (s, mails.Request entry c req)

-- room in an inbox for a request that goes there
abbrev pub HasRoomOn : Option SysId → Route → Type 0
HasRoomOn ready Sole = Unit {0}
HasRoomOn ready (To s) = ready ≡ Some s

-- Where t is a live system: room for the entry that tells of its removal in ring mode, and in star mode the lists that
-- the notices have, got ready.
abbrev pub HasRoomToPurge : MediumValue → SysId → Type 0
HasRoomToPurge v t =
    is_live v.state t ≡ true
    → (v.state.star ≡ false → HasPlaces v.room 1)
    × (v.state.star ≡ true → v.moved ≡ moved_by v.state.words (systems_of v.state) t)

-- room for this act of c
abbrev pub HasRoomForAct : MediumValue → SysId → Act → Type 0
HasRoomForAct v c (Turn out) = HasRoom v.room c (put_in v.state.message c (length out))
HasRoomForAct v c (Submit entry req) = HasRoomOn v.ready (route (word v.state entry) c)
HasRoomForAct v c (Settle to mail) = v.ready ≡ Some to
HasRoomForAct v c (Tell to mail) = v.ready ≡ Some to
HasRoomForAct v c (Purge target) = HasRoomToPurge v target
HasRoomForAct v c _ = Unit {0}

-- room for this call of c, where what it asks is looked at
abbrev pub HasRoomFor : MediumValue → SysId → Call → Type 0
HasRoomFor v c call = is_heard v.state c call ≡ true → HasRoomForAct v c call.act
