-- The calls of the medium, row by row: what each is answered, and what the medium is afterwards.
use Rattle.std.specs.Prelude.{◌≡◌, ◌≢◌, ◌<◌, ◌≤◌, ℕ, Bool, true, cond, not, ◌==◌, ◌&&◌, List, [], ◌∷◌, length, map}
use Rattle.std.specs.Prelude.{Option, Some, None, is_none}
use Rattle.std.specs.List.{list_all, range_with_len}
use Rattle.grs_base.specs.Limits.{most_additions}
use Rattle.grs_base.specs.declared.resource.SysId.{SysId}
use Rattle.grs_wire.specs.declared.request.Req.{Req}
use Rattle.grs_wire.specs.declared.medium.Act.{Act}
use Rattle.grs_wire.specs.declared.medium.Act.TheVariants.{Turn, Switch, Submit, Take, Settle, Tell, Leave, Purge, Rest}
use Rattle.grs_wire.specs.declared.medium.Call.{Call}
use Rattle.grs_wire.specs.declared.medium.Mail.{Mail}
use Rattle.grs_wire.specs.declared.medium.Mail.TheVariants as mails
use Rattle.grs_wire.specs.declared.medium.Reply.{Reply}
use Rattle.grs_wire.specs.declared.medium.Reply.TheVariants.{Behind, Switched, Already, Sole, Sent, Taken, Empty}
use Rattle.grs_wire.specs.declared.medium.Reply.TheVariants.{Settled, Told, Yours, Old, Purged, NoSuch, Resting}
use Rattle.grs_wire.specs.declared.medium.Reply.TheVariants.{Over, Stale, Removed}
use Rattle.grs_wire.specs.declared.gather.Moved.{Moved}
use Rattle.grs_wire.specs.Masks.{has, with_also, without_others, lives}
use Rattle.grs_wire.specs.Notices.{noticed}
use Rattle.grs_wire.specs.LockWords.{manager, is_manager, leave_reply, leave_changes}
use Rattle.lock_structure.specs.Purge.{purged_words, moved_for}
use Rattle.lock_structure.specs.Words.{route, submitted_words, left_words, word_fits}
use Rattle.lock_structure.specs.declared.word.Route.{Route}
use Rattle.lock_structure.specs.declared.word.Route.TheVariants as routes
use Rattle.rsa_message.specs.Message.{first_number, turn_reply, turned, rest_after_turn, turn_changes, closed_by}
use Rattle.rsa_message.specs.Message.{dropped, departed}
use Rattle.grs_wire.specs.Unseen.{unseen}
use Rattle.grs_medium.specs.Inboxes.{is_empty, with_mail, without_first, posted, emptied}
use Rattle.grs_medium.specs.Medium.{MediumState, systems_of, live, inbox, medium_at_end, all_rest, awake, word}

-- Turn: the caller gets its unseen entries, and its requests go into the message
unfoldable pub turn_row : MediumState → SysId → List Req → Reply × MediumState
turn_row m c out = (
  turn_reply m.message c (length out),
  record m { message = turned m.message c out (live m) m.rest; rest = rest_after_turn m.message c (length out) m.rest },
)

-- Switch: the complex changes to star mode once the caller has no unseen entry
abbrev pub switch_ring : MediumState → SysId → List ℕ → Option ℕ → Reply × MediumState
switch_ring m c words (Some first) = (Behind first, m)
switch_ring m c words None = (
  Switched,
  record m { star = true; words = words; message = closed_by m.message c (live m); rest = awake m c },
)

unfoldable pub switch_row : MediumState → SysId → List ℕ → Reply × MediumState
switch_row m c words = cond m.star (Already, m) (switch_ring m c words (first_number (unseen c m.message.entries)))

-- Whether a notice in the caller's inbox names the lock entry. Then a Submit or a Leave of it changes nothing, and is
-- answered whether the entry is the caller's to manage from now on, or the caller knows an old manager.
abbrev pub is_noticed : MediumState → SysId → ℕ → Bool
is_noticed m c entry = noticed entry (inbox m c.0)

abbrev pub manages : MediumState → SysId → ℕ → Bool
manages m c entry = is_manager (manager (word m entry)) c

abbrev pub notice_reply : MediumState → SysId → ℕ → Reply
notice_reply m c entry = cond (manages m c entry) Yours Old

-- Submit: the caller has interest in the lock entry from then on, and the first to have it manages the entry. A
-- request that isn't the caller's own to decide goes to the manager. A manager's own request changes nothing.
abbrev pub joined : MediumState → SysId → ℕ → MediumState
joined m c entry = cond (manages m c entry) m (record m { words = submitted_words m.words entry c; rest = awake m c })

abbrev pub submit_on : MediumState → SysId → ℕ → Req → Route → Reply × MediumState
submit_on m c entry req routes.Sole = (Sole, joined m c entry)
submit_on m c entry req
    (routes.To s) = (Sent, record (joined m c entry) { inboxes = with_mail m.inboxes s.0 (mails.Request entry c req) })

unfoldable pub submit_row : MediumState → SysId → ℕ → Req → Reply × MediumState
submit_row m c entry req =
    cond (is_noticed m c entry) (notice_reply m c entry, m) (submit_on m c entry req (route (word m entry) c))

-- Take: the first mail of the caller's inbox is taken out
abbrev pub take_from : MediumState → SysId → List Mail → Reply × MediumState
take_from m c [] = (Empty, m)
take_from m c (mail ∷ rest) = (Taken mail, record m { inboxes = without_first m.inboxes c.0; rest = awake m c })

unfoldable pub take_row : MediumState → SysId → Reply × MediumState
take_row m c = take_from m c (inbox m c.0)

-- Settle and Tell: the mail goes last into the inbox
unfoldable pub mail_row : Reply → MediumState → SysId → SysId → Mail → Reply × MediumState
mail_row reply m c to mail = (reply, record m { inboxes = with_mail m.inboxes to.0 mail; rest = awake m c })

-- Leave: the caller gives up its interest, but no manager leaves others behind
unfoldable pub leave_row : MediumState → SysId → ℕ → Reply × MediumState
leave_row m c entry =
    cond (is_noticed m c entry) (notice_reply m c entry, m) (
      leave_reply (word m entry) c,
      cond (leave_changes (word m entry) c) (record m { words = left_words m.words entry c; rest = awake m c }) m,
    )

-- Purge: a live system is removed. In ring mode an entry of the message tells of it.
abbrev pub is_live : MediumState → SysId → Bool
is_live m s = lives (systems_of m) m.removed s.0

abbrev pub without_system : MediumState → SysId → SysId → MediumState
without_system m c t =
    let gone = record m { removed = with_also m.removed t.0; rest = awake m c } in
    record gone { message = dropped m.message c t (live gone) }

-- what each of so many systems gets to know by the removal of t in star mode, by number
abbrev pub moved_by : List ℕ → ℕ → SysId → List (List Moved)
moved_by words systems t = map (λ s. moved_for words t (record { 0 = s })) (range_with_len 0 systems)

-- In star mode each system gets to know by a notice, last in its inbox, of which lock entries it is interested in t was
-- the manager; t leaves the lock words and the message, its inbox is emptied, and all live flags are cleared.
abbrev pub without_in_star : MediumState → SysId → MediumState
without_in_star m t = record m {
  message = departed m.message t;
  words = purged_words m.words t;
  inboxes = posted t (moved_by m.words (systems_of m) t) (emptied m.inboxes t.0);
  removed = with_also m.removed t.0;
  rest = without_others (systems_of m) (with_also m.removed t.0) m.rest;
}

abbrev pub without_target : MediumState → SysId → SysId → MediumState
without_target m c t = cond m.star (without_in_star m t) (without_system m c t)

unfoldable pub purge_row : MediumState → SysId → SysId → Reply × MediumState
purge_row m c t = cond (is_live m t) (Purged, without_target m c t) (NoSuch, m)

-- Rest: the caller's flag is set, and all is over once all have come to rest and nothing is left to do
abbrev pub resting : MediumState → SysId → MediumState
resting m c = record m { rest = with_also m.rest c.0 }

unfoldable pub rest_row : MediumState → SysId → Reply × MediumState
rest_row m c = (cond (all_rest (resting m c) && medium_at_end (resting m c)) Over Resting, resting m c)

-- the row of an act
unfoldable pub row : MediumState → SysId → Act → Reply × MediumState
row m c (Turn out) = turn_row m c out
row m c (Switch words) = switch_row m c words
row m c (Submit entry req) = submit_row m c entry req
row m c Take = take_row m c
row m c (Settle to mail) = mail_row Settled m c to mail
row m c (Tell to mail) = mail_row Told m c to mail
row m c (Leave entry) = leave_row m c entry
row m c (Purge target) = purge_row m c target
row m c Rest = rest_row m c

-- A call of c: the reply, and the medium afterwards. A removed caller is told that first; then one that doesn't
-- know all removed systems is told them.
unfoldable pub apply : MediumState → SysId → Call → Reply × MediumState
apply m c call =
    cond (has m.removed c.0)
    (Removed, m)
    (cond (call.known == m.removed) (row m c call.act) (Stale m.removed, m))

abbrev pub reply_to : MediumState → SysId → Call → Reply
reply_to m c call = (apply m c call).0

abbrev pub medium_after : MediumState → SysId → Call → MediumState
medium_after m c call = (apply m c call).1

-- whether an act that is neither answered Removed nor Stale changes the medium; a Submit at another's entry does by its
-- mail, also where the word stays, but nothing does that a notice forestalls
unfoldable pub row_changes : MediumState → SysId → Act → Bool
row_changes m c (Turn out) = turn_changes m.message c (length out) (live m) m.rest
row_changes m c (Switch words) = not m.star && is_none (first_number (unseen c m.message.entries))
row_changes m c (Submit entry req) = not (is_noticed m c entry) && not (manages m c entry)
row_changes m c Take = not (is_empty (inbox m c.0))
row_changes m c (Settle to mail) = true
row_changes m c (Tell to mail) = true
row_changes m c (Leave entry) = not (is_noticed m c entry) && leave_changes (word m entry) c
row_changes m c (Purge target) = is_live m target
row_changes m c Rest = not (has m.rest c.0)

-- whether a call changes the medium
unfoldable pub changes : MediumState → SysId → Call → Bool
changes m c call = not (has m.removed c.0) && (call.known == m.removed) && row_changes m c call.act

-- What a call needs of the medium: its caller is a system, and so is whom a mail goes to; no more requests than
-- a Turn may put in; lock entries that are there; as many lock words as entries, each 0 or with a manager; and no
-- system that removes itself.
abbrev pub ActFits : MediumState → SysId → Act → Type 0
ActFits m c (Turn out) = length out ≤ most_additions
ActFits m c (Switch words) = (length words ≡ length m.words) × (list_all (word_fits (systems_of m)) words ≡ true)
ActFits m c (Submit entry req) = entry < length m.words
ActFits m c Take = Unit {0}
ActFits m c (Settle to mail) = to.0 < systems_of m
ActFits m c (Tell to mail) = to.0 < systems_of m
ActFits m c (Leave entry) = entry < length m.words
ActFits m c (Purge target) = target.0 ≢ c.0
ActFits m c Rest = Unit {0}

abbrev pub MayCall : MediumState → SysId → Call → Type 0
MayCall m c call = (c.0 < systems_of m) × ActFits m c call.act
