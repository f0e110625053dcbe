-- When each answer of the medium comes. Removed is looked at first, then Stale, and then what the act asks.
use Rattle.std.specs.Prelude.{◌≡◌, ◌↔◌, ℕ, Bool, true, false, cond, not, ◌==◌, ◌&&◌, ◌||◌, Option, Some, None, is_none}
use Rattle.grs_base.specs.declared.resource.SysId.{SysId}
use Rattle.grs_wire.specs.Masks.{has}
use Rattle.grs_wire.specs.declared.medium.Act.{Act}
use Rattle.grs_wire.specs.declared.medium.Act.TheVariants.{Turn, Switch, Submit, Take, Settle, Tell, Leave, Purge, Rest}
use Rattle.grs_wire.specs.declared.medium.Call.{Call}
use Rattle.grs_wire.specs.declared.medium.Mail.{Mail}
use Rattle.grs_wire.specs.declared.medium.Reply.TheVariants as replies
use Rattle.grs_wire.specs.Replies.{is_listed}
use Rattle.grs_wire.specs.LockWords.{interest, manager, is_manager}
use Rattle.lock_structure.specs.Laws.{has_others}
use Rattle.rsa_message.specs.Message.{stands_at, first_number}
use Rattle.grs_wire.specs.Unseen.{unseen}
use Rattle.grs_medium.specs.Apply.{is_noticed, manages, is_live, resting, reply_to}
use Rattle.grs_medium.specs.Inboxes.{is_empty, first_mail}
use Rattle.grs_medium.specs.Medium.{MediumState, all_rest, inbox, medium_at_end, word}

-- the caller was removed
abbrev pub is_removed : MediumState → SysId → Bool
is_removed m c = has m.removed c.0

-- the caller doesn't know which systems were removed
abbrev pub is_uninformed : MediumState → Call → Bool
is_uninformed m call = not (call.known == m.removed)

-- the caller was not removed and knows which systems were, so what it asks is looked at
abbrev pub is_heard : MediumState → SysId → Call → Bool
is_heard m c call = not (is_removed m c) && not (is_uninformed m call)

-- a Turn, and the message isn't at the caller
abbrev pub turns_elsewhere : MediumState → SysId → Act → Bool
turns_elsewhere m c (Turn out) = not (stands_at m.message.holder c)
turns_elsewhere m c act = false

-- a Switch in star mode
abbrev pub switches_in_star : MediumState → Act → Bool
switches_in_star m (Switch words) = m.star
switches_in_star m act = false

-- the entry that a Switch of the caller in ring mode is behind by: the first that the caller has yet to process
abbrev pub switches_behind : MediumState → SysId → Act → Option ℕ
switches_behind m c (Switch words) = cond m.star None (first_number (unseen c m.message.entries))
switches_behind m c act = None

-- a Switch in ring mode of a caller that has processed every entry
abbrev pub switches : MediumState → SysId → Act → Bool
switches m c (Switch words) = not m.star && is_none (first_number (unseen c m.message.entries))
switches m c act = false

-- a Purge of a live system
abbrev pub purges : MediumState → Act → Bool
purges m (Purge target) = is_live m target
purges m act = false

-- a Purge of a system that was removed, or of none
abbrev pub purges_nobody : MediumState → Act → Bool
purges_nobody m (Purge target) = not (is_live m target)
purges_nobody m act = false

-- a Rest with which all live systems are at rest, and nothing is left to do
abbrev pub rests_last : MediumState → SysId → Act → Bool
rests_last m c Rest = all_rest (resting m c) && medium_at_end m
rests_last m c act = false

-- any other Rest
abbrev pub rests_early : MediumState → SysId → Act → Bool
rests_early m c Rest = not (all_rest (resting m c) && medium_at_end m)
rests_early m c act = false

-- a Submit or a Leave of a lock entry that a notice in the caller's inbox names; and such a one of an entry that the
-- caller manages
abbrev pub is_forestalled : MediumState → SysId → Act → Bool
is_forestalled m c (Submit entry req) = is_noticed m c entry
is_forestalled m c (Leave entry) = is_noticed m c entry
is_forestalled m c act = false

abbrev pub is_its_own : MediumState → SysId → Act → Bool
is_its_own m c (Submit entry req) = manages m c entry
is_its_own m c (Leave entry) = manages m c entry
is_its_own m c act = false

-- a Submit on a lock entry that the caller manages, or nobody, and no notice in its inbox names
abbrev pub submits_alone : MediumState → SysId → Act → Bool
submits_alone m c (Submit entry req) =
    not (is_noticed m c entry) && (is_none (manager (word m entry)) || is_manager (manager (word m entry)) c)
submits_alone m c act = false

-- a Submit on a lock entry that another system manages, where no notice in the caller's inbox names it
abbrev pub submits_to_another : MediumState → SysId → Act → Bool
submits_to_another m c (Submit entry req) =
    not (is_noticed m c entry) && not (is_none (manager (word m entry)) || is_manager (manager (word m entry)) c)
submits_to_another m c act = false

-- the mail that a Take of the caller gets: the first of its inbox
abbrev pub taken_mail : MediumState → SysId → Act → Option Mail
taken_mail m c Take = first_mail (inbox m c.0)
taken_mail m c act = None

-- a Take, and the caller's inbox is empty
abbrev pub takes_nothing : MediumState → SysId → Act → Bool
takes_nothing m c Take = is_empty (inbox m c.0)
takes_nothing m c act = false

abbrev pub settles : Act → Bool
settles (Settle to mail) = true
settles act = false

abbrev pub tells : Act → Bool
tells (Tell to mail) = true
tells act = false

-- a Leave of a lock entry that the caller manages, having interest in it, and others have interest as well; and no
-- notice in the caller's inbox names it
abbrev pub leaves_others : MediumState → SysId → Act → Bool
leaves_others m c (Leave entry) =
    not (is_noticed m c entry)
    && (is_manager (manager (word m entry)) c
    && (has (interest (word m entry)) c.0 && has_others (interest (word m entry)) c))
leaves_others m c act = false

-- any other Leave of an entry that no notice in the caller's inbox names
abbrev pub leaves : MediumState → SysId → Act → Bool
leaves m c (Leave entry) = not (is_noticed m c entry) && not (leaves_others m c (Leave entry))
leaves m c act = false

-- the systems that have interest in the lock entry of a Leave
abbrev pub interested : MediumState → Act → ℕ
interested m (Leave entry) = interest (word m entry)
interested m act = 0

-- Whatever is called, the reply is one of those that are listed for its act.
abbrev pub RepliesAreListed : Type 0
RepliesAreListed = (m : MediumState) (c : SysId) (call : Call) → is_listed call.act (reply_to m c call) ≡ true

abbrev pub RemovedComes : Type 0
RemovedComes =
    (m : MediumState) (c : SysId) (call : Call) → (reply_to m c call ≡ replies.Removed) ↔ (is_removed m c ≡ true)

-- it carries the set of the removed systems
abbrev pub StaleComes : Type 0
StaleComes =
    (m : MediumState) (c : SysId) (call : Call) (set : ℕ) → (reply_to m c call ≡ replies.Stale set)
    ↔ ((is_removed m c ≡ false) × ((is_uninformed m call ≡ true) × (set ≡ m.removed)))

-- it carries where the message is
abbrev pub NotYoursComes : Type 0
NotYoursComes =
    (m : MediumState) (c : SysId) (call : Call) (at : Option SysId) → (reply_to m c call ≡ replies.NotYours at)
    ↔ ((is_heard m c call ≡ true) × ((turns_elsewhere m c call.act ≡ true) × (at ≡ m.message.holder)))

abbrev pub AlreadyComes : Type 0
AlreadyComes =
    (m : MediumState) (c : SysId) (call : Call) → (reply_to m c call ≡ replies.Already)
    ↔ ((is_heard m c call ≡ true) × (switches_in_star m call.act ≡ true))

-- it carries the number of the first entry that the caller has yet to process
abbrev pub BehindComes : Type 0
BehindComes =
    (m : MediumState) (c : SysId) (call : Call) (first : ℕ) → (reply_to m c call ≡ replies.Behind first)
    ↔ ((is_heard m c call ≡ true) × (switches_behind m c call.act ≡ Some first))

abbrev pub SwitchedComes : Type 0
SwitchedComes =
    (m : MediumState) (c : SysId) (call : Call) → (reply_to m c call ≡ replies.Switched)
    ↔ ((is_heard m c call ≡ true) × (switches m c call.act ≡ true))

abbrev pub PurgedComes : Type 0
PurgedComes =
    (m : MediumState) (c : SysId) (call : Call) → (reply_to m c call ≡ replies.Purged)
    ↔ ((is_heard m c call ≡ true) × (purges m call.act ≡ true))

abbrev pub YoursComes : Type 0
YoursComes =
    (m : MediumState) (c : SysId) (call : Call) → (reply_to m c call ≡ replies.Yours)
    ↔ ((is_heard m c call ≡ true) × ((is_forestalled m c call.act ≡ true) × (is_its_own m c call.act ≡ true)))

abbrev pub OldComes : Type 0
OldComes =
    (m : MediumState) (c : SysId) (call : Call) → (reply_to m c call ≡ replies.Old)
    ↔ ((is_heard m c call ≡ true) × ((is_forestalled m c call.act ≡ true) × (is_its_own m c call.act ≡ false)))

abbrev pub NoSuchComes : Type 0
NoSuchComes =
    (m : MediumState) (c : SysId) (call : Call) → (reply_to m c call ≡ replies.NoSuch)
    ↔ ((is_heard m c call ≡ true) × (purges_nobody m call.act ≡ true))

abbrev pub OverComes : Type 0
OverComes =
    (m : MediumState) (c : SysId) (call : Call) → (reply_to m c call ≡ replies.Over)
    ↔ ((is_heard m c call ≡ true) × (rests_last m c call.act ≡ true))

abbrev pub RestingComes : Type 0
RestingComes =
    (m : MediumState) (c : SysId) (call : Call) → (reply_to m c call ≡ replies.Resting)
    ↔ ((is_heard m c call ≡ true) × (rests_early m c call.act ≡ true))

abbrev pub SoleComes : Type 0
SoleComes =
    (m : MediumState) (c : SysId) (call : Call) → (reply_to m c call ≡ replies.Sole)
    ↔ ((is_heard m c call ≡ true) × (submits_alone m c call.act ≡ true))

abbrev pub SentComes : Type 0
SentComes =
    (m : MediumState) (c : SysId) (call : Call) → (reply_to m c call ≡ replies.Sent)
    ↔ ((is_heard m c call ≡ true) × (submits_to_another m c call.act ≡ true))

abbrev pub TakenComes : Type 0
TakenComes =
    (m : MediumState) (c : SysId) (call : Call) (mail : Mail) → (reply_to m c call ≡ replies.Taken mail)
    ↔ ((is_heard m c call ≡ true) × (taken_mail m c call.act ≡ Some mail))

abbrev pub EmptyComes : Type 0
EmptyComes =
    (m : MediumState) (c : SysId) (call : Call) → (reply_to m c call ≡ replies.Empty)
    ↔ ((is_heard m c call ≡ true) × (takes_nothing m c call.act ≡ true))

abbrev pub SettledComes : Type 0
SettledComes =
    (m : MediumState) (c : SysId) (call : Call) → (reply_to m c call ≡ replies.Settled)
    ↔ ((is_heard m c call ≡ true) × (settles call.act ≡ true))

abbrev pub ToldComes : Type 0
ToldComes =
    (m : MediumState) (c : SysId) (call : Call) → (reply_to m c call ≡ replies.Told)
    ↔ ((is_heard m c call ≡ true) × (tells call.act ≡ true))

-- it carries the set of the systems that have interest
abbrev pub KeptComes : Type 0
KeptComes =
    (m : MediumState) (c : SysId) (call : Call) (mask : ℕ) → (reply_to m c call ≡ replies.Kept mask)
    ↔ ((is_heard m c call ≡ true) × ((leaves_others m c call.act ≡ true) × (mask ≡ interested m call.act)))

abbrev pub LeftComes : Type 0
LeftComes =
    (m : MediumState) (c : SysId) (call : Call) → (reply_to m c call ≡ replies.Left)
    ↔ ((is_heard m c call ≡ true) × (leaves m c call.act ≡ true))
