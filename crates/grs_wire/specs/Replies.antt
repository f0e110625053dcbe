-- Which replies the medium gives to a call, and which of them leave its caller as it is.
use Rattle.std.specs.Prelude.{Bool, true, false, ◌&&◌, ◌||◌, ◌==◌, nat_le, not, [], length}
use Rattle.grs_wire.specs.declared.medium.Act.{Act}
use Rattle.grs_wire.specs.declared.medium.Act.TheVariants as acts
use Rattle.grs_wire.specs.declared.medium.Reply.{Reply}
use Rattle.grs_wire.specs.declared.medium.Reply.TheVariants as replies

-- Whether a reply says that a call wasn't heard, whatever it asks.
abbrev pub is_check : Reply → Bool
is_check replies.Removed = true
is_check (replies.Stale set) = true
is_check reply = false

-- Whether a reply is one of those that a call which is heard gets to its act. A Turn has taken at most what it was to
-- put in.
abbrev pub is_of_act : Act → Reply → Bool
is_of_act (acts.Turn out) (replies.NotYours holder) = true
is_of_act (acts.Turn out) (replies.Turned entries taken closed) = nat_le taken (length out)
is_of_act (acts.Switch words) replies.Already = true
is_of_act (acts.Switch words) (replies.Behind first) = true
is_of_act (acts.Switch words) replies.Switched = true
is_of_act (acts.Submit entry req) replies.Sole = true
is_of_act (acts.Submit entry req) replies.Sent = true
is_of_act (acts.Submit entry req) replies.Yours = true
is_of_act (acts.Submit entry req) replies.Old = true
is_of_act acts.Take replies.Empty = true
is_of_act acts.Take (replies.Taken mail) = true
is_of_act (acts.Settle to mail) replies.Settled = true
is_of_act (acts.Tell to mail) replies.Told = true
is_of_act (acts.Leave entry) replies.Left = true
is_of_act (acts.Leave entry) (replies.Kept mask) = true
is_of_act (acts.Leave entry) replies.Yours = true
is_of_act (acts.Leave entry) replies.Old = true
is_of_act (acts.Purge target) replies.NoSuch = true
is_of_act (acts.Purge target) replies.Purged = true
is_of_act acts.Rest replies.Resting = true
is_of_act acts.Rest replies.Over = true
is_of_act act reply = false

-- Whether a reply is one of those that a call gets to its act.
abbrev pub is_listed : Act → Reply → Bool
is_listed act reply = is_check reply || is_of_act act reply

-- Whether a reply leaves the system as it is: by it nothing was given, put in or found out.
abbrev pub leaves_all : Reply → Bool
leaves_all (replies.NotYours holder) = true
leaves_all (replies.Behind first) = true
leaves_all replies.Empty = true
leaves_all (replies.Kept mask) = true
leaves_all replies.Yours = true
leaves_all replies.Old = true
leaves_all replies.Resting = true
leaves_all replies.Over = true
leaves_all replies.Removed = true
leaves_all (replies.Turned [] taken closed) = (taken == 0) && not closed
leaves_all reply = false
