-- Worked calls, by which the table of the medium is checked: each reply, and whether the medium changed, is
-- what the rules of the medium give by hand.
use Rattle.std.proofs.Common.{◌≡◌, ℕ, Bool, true, false, List, [], ◌∷◌, Some, None, refl}
use Rattle.grs_base.specs.declared.resource.Ctl.TheVariants.{E}
use Rattle.grs_base.specs.declared.resource.Ret.TheVariants.{RetNone}
use Rattle.grs_base.specs.declared.resource.Res.TheVariants.{Systems}
use Rattle.grs_base.specs.declared.resource.SysId.{SysId}
use Rattle.grs_base.specs.declared.resource.TaskId.{TaskId}
use Rattle.grs_base.specs.declared.decision.Code.TheVariants.{C00}
use Rattle.grs_wire.specs.declared.request.Answer.TheVariants.{Coded}
use Rattle.grs_wire.specs.declared.request.Req.{Req}
use Rattle.grs_wire.specs.declared.request.Want.TheVariants as wants
use Rattle.grs_wire.specs.declared.medium.Act.{Act}
use Rattle.grs_wire.specs.declared.medium.Act.TheVariants.{Turn, Switch, Submit, Take, Settle, Tell, Leave, Purge, Rest}
use Rattle.grs_wire.specs.declared.medium.Call.{Call}
use Rattle.grs_wire.specs.declared.medium.Mail.{Mail}
use Rattle.grs_wire.specs.declared.medium.Mail.TheVariants as mails
use Rattle.grs_wire.specs.declared.medium.Reply.{Reply}
use Rattle.grs_wire.specs.declared.medium.Reply.TheVariants.{Turned, NotYours, Behind, Switched, Already, Sole, Sent}
use Rattle.grs_wire.specs.declared.medium.Reply.TheVariants.{Taken, Empty, Settled, Told, Left, Kept, Yours, Old}
use Rattle.grs_wire.specs.declared.medium.Reply.TheVariants.{Purged, NoSuch, Resting, Over, Stale, Removed}
use Rattle.grs_wire.specs.declared.medium.RingEntry.{RingEntry}
use Rattle.grs_wire.specs.declared.medium.RingBody.TheVariants as bodies
use Rattle.grs_wire.specs.Masks.{has, without, with_also}
use Rattle.grs_wire.specs.LockWords.{manager, lock_word, submitted, leave_reply, leave_changes, left_word}
use Rattle.lock_structure.specs.Purge.{purged_word}
use Rattle.lock_structure.specs.Words.{route}
use Rattle.rsa_message.specs.Message.{first_after, any_unseen, cleared, stamped, turn_reply, wakes, rest_after_turn}
use Rattle.rsa_message.specs.Message.{opened, turned, turn_changes, dropped, departed, closed_by}
use Rattle.grs_wire.specs.Unseen.{unseen}
use Rattle.grs_medium.specs.Medium.{MediumState, first_medium, medium_at_end}
use Rattle.grs_medium.specs.Apply.{turn_row, switch_row, submit_row, take_row, mail_row, leave_row, purge_row, rest_row}
use Rattle.grs_medium.specs.Apply.{row, apply, row_changes, changes}

abbrev sys : ℕ → SysId
sys n = record { 0 = n }

-- a task of system n, and its request for a resource of all systems
abbrev t_of : ℕ → TaskId
t_of n = record { system = sys n; job = 0; task = 0 }

abbrev ask : ℕ → Req
ask n = record { task = t_of n; want = wants.Enq (Systems (65 ∷ []) (66 ∷ [])) E RetNone false }

-- a call: the caller's number, the removed systems that it knows, and what it asks
abbrev Made : Type 0
Made = ℕ × ℕ × Act

-- the replies to these calls in turn, each with what is said of a change
abbrev answers : MediumState → List Made → List (Reply × Bool)
answers m [] = []
answers m ((c, known, act) ∷ calls) =
    let call : Call = record { known = known; act = act } in
    (((apply m (sys c) call).0, changes m (sys c) call) ∷ answers ((apply m (sys c) call).1) calls)

-- the medium after them
abbrev after_all : MediumState → List Made → MediumState
after_all m [] = m
after_all m ((c, known, act) ∷ calls) = after_all (apply m (sys c) (record { known = known; act = act })).1 calls

-- an entry with a request of system n, and one that removes t
abbrev entry : ℕ → ℕ → ℕ → RingEntry
entry number n mask = record { number = number; from = sys n; body = bodies.Request (ask n); mask = mask }

abbrev removal : ℕ → ℕ → ℕ → ℕ → RingEntry
removal number n t mask = record { number = number; from = sys n; body = bodies.Remove (sys t); mask = mask }

abbrev turn : Act
turn = Turn []

-- two systems in a ring: a request goes round, both rest, and one is removed
abbrev ring_calls : List Made
ring_calls =
    (0, 0, Turn (ask 0 ∷ [])) ∷ (0, 0, turn) ∷ (1, 0, turn) ∷ (0, 0, turn) ∷ (0, 0, Rest) ∷ (1, 0, Rest)
    ∷ (0, 0, Purge (sys 1))
    ∷ (1, 0, Rest) ∷ (0, 0, Rest) ∷ (0, 2, Purge (sys 1)) ∷ []

ring :
    (answers (first_medium 2 1 false) ring_calls
    ≡ (Turned [] 1 false, true) ∷ (NotYours (Some (sys 1)), false) ∷ (Turned (entry 1 0 3 ∷ []) 0 false, true)
    ∷ (Turned (entry 1 0 1 ∷ []) 0 false, true)
    ∷ (Resting, true) ∷ (Over, true) ∷ (Purged, true) ∷ (Removed, false) ∷ (Stale 2, false) ∷ (NoSuch, false) ∷ [])
    × (after_all (first_medium 2 1 false) ring_calls
    ≡ record {
      star = false;
      message = record {
        systems = 2;
        holder = Some (sys 0);
        closed = false;
        still = 0;
        entries = removal 2 0 1 1 ∷ [];
        next = 3;
      };
      words = 0 ∷ [];
      inboxes = [] ∷ [] ∷ [];
      removed = 2;
      rest = 2;
    })
    × (medium_at_end (after_all (first_medium 2 1 false) ring_calls) ≡ false)
    -- its last entry, and then nothing is left
    × (answers (after_all (first_medium 2 1 false) ring_calls) ((0, 2, turn) ∷ [])
    ≡ (Turned (removal 2 0 1 1 ∷ []) 0 false, true) ∷ [])
    × (medium_at_end (after_all (after_all (first_medium 2 1 false) ring_calls) ((0, 2, turn) ∷ [])) ≡ true)
    -- a Turn that gives and puts in nothing moves the message on; a second Rest changes nothing
    × (answers (first_medium 2 1 false) ((1, 0, turn) ∷ (0, 0, turn) ∷ (1, 0, Rest) ∷ (1, 0, Rest) ∷ [])
    ≡ (NotYours (Some (sys 0)), false) ∷ (Turned [] 0 false, true) ∷ (Resting, true) ∷ (Resting, false) ∷ [])
unfolding has without with_also first_after unseen any_unseen cleared stamped turn_reply wakes rest_after_turn turned
    turn_changes dropped closed_by manager lock_word submitted leave_reply leave_changes left_word medium_at_end
    turn_row switch_row submit_row route take_row mail_row leave_row purge_row rest_row row apply row_changes changes
ring = (refl, refl, refl, refl, refl, refl)

-- Three systems in a ring. Where the third is removed, its calls are answered Removed, and the others are told.
removal_of_three :
    (answers (first_medium 3 64 false) ((0, 0, Purge (sys 2)) ∷ (2, 0, turn) ∷ (2, 4, Rest) ∷ (1, 0, turn)
    ∷ (1, 4, Purge (sys 2)) ∷ (1, 4, Purge (sys 3)) ∷ (1, 4, turn) ∷ [])
    ≡ (Purged, true) ∷ (Removed, false) ∷ (Removed, false) ∷ (Stale 4, false) ∷ (NoSuch, false) ∷ (NoSuch, false)
    ∷ (NotYours (Some (sys 0)), false) ∷ [])
    -- The system at which the message stands is removed: the message goes to the next live one, the removed
    -- system leaves the masks, and an entry that waited for it alone goes.
    × (after_all (first_medium 3 1 false) ((0, 0, Turn (ask 0 ∷ [])) ∷ (1, 0, turn) ∷ (0, 0, Purge (sys 2)) ∷ [])
    ≡ record {
      star = false;
      message = record {
        systems = 3;
        holder = Some (sys 0);
        closed = false;
        still = 0;
        entries = entry 1 0 1 ∷ removal 2 0 2 3 ∷ [];
        next = 3;
      };
      words = 0 ∷ [];
      inboxes = [] ∷ [] ∷ [] ∷ [];
      removed = 4;
      rest = 0;
    })
    × (answers (first_medium 3 1 false) ((0, 0, Turn (ask 0 ∷ [])) ∷ (1, 0, turn) ∷ (0, 0, Purge (sys 2))
    ∷ (0, 4, Turn (ask 0 ∷ ask 0 ∷ [])) ∷ (1, 4, turn) ∷ (0, 4, turn) ∷ [])
    ≡ (Turned [] 1 false, true) ∷ (Turned (entry 1 0 7 ∷ []) 0 false, true) ∷ (Purged, true)
    ∷ (Turned (entry 1 0 1 ∷ removal 2 0 2 3 ∷ []) 2 false, true)
    ∷ (Turned (removal 2 0 2 2 ∷ entry 3 0 3 ∷ entry 4 0 3 ∷ []) 0 false, true)
    ∷ (Turned (entry 3 0 1 ∷ entry 4 0 1 ∷ []) 0 false, true) ∷ [])
unfolding has without with_also first_after unseen any_unseen cleared stamped turn_reply wakes rest_after_turn turned
    turn_changes dropped closed_by manager lock_word submitted leave_reply leave_changes left_word medium_at_end
    turn_row switch_row submit_row route take_row mail_row leave_row purge_row rest_row row apply row_changes changes
removal_of_three = (refl, refl, refl)

-- Two systems in star mode: the first manages, the second asks it by mail, and each leaves.
star_calls : List Made
star_calls =
    (0, 0, Submit 0 (ask 0)) ∷ (1, 0, Submit 0 (ask 1)) ∷ (0, 0, Take)
    ∷ (0, 0, Settle (sys 1) (mails.Answered (t_of 1) (Coded C00) 2)) ∷ (1, 0, Take)
    ∷ (0, 0, Leave 0) ∷ (1, 0, Leave 0) ∷ (0, 0, Leave 0) ∷ (0, 0, Take) ∷ (0, 0, Rest) ∷ (1, 0, Rest) ∷ []

star :
    (answers (first_medium 2 1 true) star_calls
    ≡ (Sole, true) ∷ (Sent, true) ∷ (Taken (mails.Request 0 (sys 1) (ask 1)), true) ∷ (Settled, true)
    ∷ (Taken (mails.Answered (t_of 1) (Coded C00) 2), true)
    ∷ (Kept 3, false) ∷ (Left, true) ∷ (Left, true) ∷ (Empty, false) ∷ (Resting, true) ∷ (Over, true) ∷ [])
    × ((after_all (first_medium 2 1 true) ((0, 0, Submit 0 (ask 0)) ∷ (1, 0, Submit 0 (ask 1)) ∷ [])).words ≡ 259 ∷ [])
    × ((after_all (first_medium 2 1 true) ((0, 0, Submit 0 (ask 0)) ∷ [])).words ≡ 257 ∷ [])
    × ((after_all (first_medium 2 1 true) star_calls).words ≡ 0 ∷ [])
    -- in star mode nobody changes it again, and the message stands nowhere
    × (answers (first_medium 2 1 true) ((0, 0, Switch (0 ∷ [])) ∷ (0, 0, turn) ∷ (1, 0, Leave 0)
    ∷ (0, 0, Tell (sys 1) (mails.Granted (t_of 1) (Systems (65 ∷ []) (66 ∷ [])))) ∷ (1, 0, Take) ∷ [])
    ≡ (Already, false) ∷ (NotYours None, false) ∷ (Left, false) ∷ (Told, true)
    ∷ (Taken (mails.Granted (t_of 1) (Systems (65 ∷ []) (66 ∷ []))), true) ∷ [])
unfolding star_calls has without with_also first_after unseen any_unseen cleared stamped turn_reply wakes
    rest_after_turn turned turn_changes dropped closed_by manager lock_word submitted leave_reply leave_changes
    left_word medium_at_end turn_row switch_row submit_row route take_row mail_row leave_row purge_row rest_row row
    apply row_changes changes
star = (refl, refl, refl, refl, refl)

-- Three systems in star mode: the first manages an entry in which all have interest, and the third another one, in
-- which the first has interest. The first is removed: the second manages its entry in the next epoch, and both others
-- get to know it. A request of the first stays in the inbox of the third. Before the notice is taken the entry is
-- answered by it.
first_manages : List Made
first_manages =
    (0, 0, Submit 0 (ask 0)) ∷ (1, 0, Submit 0 (ask 1)) ∷ (2, 0, Submit 0 (ask 2)) ∷ (2, 0, Submit 1 (ask 2))
    ∷ (0, 0, Submit 1 (ask 0)) ∷ (2, 0, Rest) ∷ (1, 0, Purge (sys 0)) ∷ []

calls_behind : List Made
calls_behind =
    (0, 0, Take) ∷ (2, 0, Take) ∷ (1, 1, Submit 0 (ask 1)) ∷ (2, 1, Submit 0 (ask 2)) ∷ (2, 1, Leave 0)
    ∷ (1, 1, Leave 0) ∷ (1, 1, Take) ∷ (1, 1, Submit 0 (ask 1)) ∷ (2, 1, Take) ∷ (2, 1, Take) ∷ (2, 1, Submit 0 (ask 2))
    ∷ (1, 1, Purge (sys 0)) ∷ []

notice : Mail
notice = mails.Notice (sys 0) (record { entry = 0; manager = sys 1; mask = 6; epoch = 1 } ∷ [])

removal_in_star :
    (answers (first_medium 3 2 true) first_manages
    ≡ (Sole, true) ∷ (Sent, true) ∷ (Sent, true) ∷ (Sole, true) ∷ (Sent, true) ∷ (Resting, true) ∷ (Purged, true) ∷ [])
    × (after_all (first_medium 3 2 true) first_manages
    ≡ record (first_medium 3 2 true) {
      words = 4614 ∷ 772 ∷ [];
      inboxes = [] ∷ (notice ∷ []) ∷ (mails.Request 1 (sys 0) (ask 0) ∷ notice ∷ []) ∷ [];
      removed = 1;
    })
    × (answers (after_all (first_medium 3 2 true) first_manages) calls_behind
    ≡ (Removed, false) ∷ (Stale 1, false) ∷ (Yours, false) ∷ (Old, false) ∷ (Old, false) ∷ (Yours, false)
    ∷ (Taken notice, true) ∷ (Sole, false) ∷ (Taken (mails.Request 1 (sys 0) (ask 0)), true) ∷ (Taken notice, true)
    ∷ (Sent, true) ∷ (NoSuch, false) ∷ [])
unfolding first_manages calls_behind notice has without with_also first_after unseen any_unseen cleared stamped
    turn_reply wakes rest_after_turn turned turn_changes dropped departed closed_by manager lock_word submitted
    purged_word leave_reply leave_changes left_word medium_at_end turn_row switch_row submit_row route take_row mail_row
    leave_row purge_row rest_row row apply row_changes changes
removal_in_star = (refl, refl, refl)

-- Three systems in star mode, of which the first manages three entries: one in which all have interest, one in which
-- the third has, and one of its own. It is removed, and then the second is, which has got the first of them. Each gets
-- to know what it has interest in; each removal counts as an epoch; and whoever comes next manages an entry of nobody.
in_turn : List Made
in_turn =
    (0, 0, Submit 0 (ask 0)) ∷ (0, 0, Submit 1 (ask 0)) ∷ (0, 0, Submit 2 (ask 0)) ∷ (1, 0, Submit 0 (ask 1))
    ∷ (2, 0, Submit 0 (ask 2)) ∷ (2, 0, Submit 1 (ask 2)) ∷ (2, 0, Purge (sys 0)) ∷ []

gone_first : MediumState
gone_first = after_all (first_medium 3 3 true) in_turn

both_of_them : Mail
both_of_them =
    mails.Notice (sys 0)
    (record { entry = 0; manager = sys 1; mask = 6; epoch = 1 }
    ∷ record { entry = 1; manager = sys 2; mask = 4; epoch = 1 } ∷ [])

the_next : Mail
the_next = mails.Notice (sys 1) (record { entry = 0; manager = sys 2; mask = 4; epoch = 2 } ∷ [])

removals_in_turn :
    (gone_first
    ≡ record (first_medium 3 3 true) {
      words = 4614 ∷ 4868 ∷ 4096 ∷ [];
      inboxes = [] ∷ (notice ∷ []) ∷ (both_of_them ∷ []) ∷ [];
      removed = 1;
    })
    × (after_all gone_first ((2, 1, Purge (sys 1)) ∷ [])
    ≡ record (first_medium 3 3 true) {
      words = 8964 ∷ 4868 ∷ 4096 ∷ [];
      inboxes = [] ∷ [] ∷ (both_of_them ∷ the_next ∷ []) ∷ [];
      removed = 3;
    })
    × (answers (after_all gone_first ((2, 1, Purge (sys 1)) ∷ []))
    ((2, 3, Submit 0 (ask 2)) ∷ (2, 3, Leave 1) ∷ (2, 3, Submit 2 (ask 2)) ∷ (2, 3, Take) ∷ (2, 3, Leave 1)
    ∷ (2, 3, Submit 0 (ask 2)) ∷ (2, 3, Take) ∷ (2, 3, Submit 0 (ask 2)) ∷ [])
    ≡ (Yours, false) ∷ (Yours, false) ∷ (Sole, true) ∷ (Taken both_of_them, true) ∷ (Left, true) ∷ (Yours, false)
    ∷ (Taken the_next, true) ∷ (Sole, false) ∷ [])
    × ((after_all gone_first ((2, 1, Submit 2 (ask 2)) ∷ [])).words ≡ 4614 ∷ 4868 ∷ 4868 ∷ [])
unfolding in_turn gone_first both_of_them the_next notice has without with_also first_after unseen any_unseen cleared
    stamped turn_reply wakes rest_after_turn turned turn_changes dropped departed closed_by manager lock_word submitted
    purged_word leave_reply leave_changes left_word medium_at_end turn_row switch_row submit_row route take_row mail_row
    leave_row purge_row rest_row row apply row_changes changes
removals_in_turn = (refl, refl, refl, refl)

-- Once the complex has changed to star mode, and the third system has yet to change, where the message stands: it is
-- removed, and the message stands nowhere.
leaves_the_message :
    ((after_all (first_medium 3 1 false) ((0, 0, Switch (263 ∷ [])) ∷ (1, 0, turn) ∷ [])).message
    ≡ record (opened 3) { holder = Some (sys 2); closed = true; still = 4 })
    × ((after_all (first_medium 3 1 false)
    ((0, 0, Switch (263 ∷ [])) ∷ (1, 0, turn) ∷ (0, 0, Purge (sys 2)) ∷ [])).message
    ≡ record (opened 3) { holder = None; closed = true; still = 0 })
unfolding has without with_also first_after unseen any_unseen cleared stamped turn_reply wakes rest_after_turn turned
    turn_changes dropped departed closed_by manager lock_word submitted purged_word leave_reply leave_changes left_word
    medium_at_end turn_row switch_row submit_row route take_row mail_row leave_row purge_row rest_row row apply
    row_changes changes
leaves_the_message = (refl, refl)

-- A request of a system that has interest already leaves the word, and yet goes to the manager and clears the flag of
-- rest. The manager's own changes nothing, nor its flag.
rested : MediumState
rested =
    after_all (first_medium 2 1 true)
    ((0, 0, Submit 0 (ask 0)) ∷ (1, 0, Submit 0 (ask 1)) ∷ (0, 0, Rest) ∷ (1, 0, Rest) ∷ [])

further_calls : List Made
further_calls = (1, 0, Submit 0 (ask 1)) ∷ (0, 0, Submit 0 (ask 0)) ∷ []

further :
    (rested.words ≡ 259 ∷ [])
    × (rested.rest ≡ 3)
    × (answers rested further_calls ≡ (Sent, true) ∷ (Sole, false) ∷ [])
    × ((after_all rested further_calls).words ≡ 259 ∷ [])
    × ((after_all rested further_calls).rest ≡ 1)
    × ((after_all rested further_calls).inboxes
    ≡ (mails.Request 0 (sys 1) (ask 1) ∷ mails.Request 0 (sys 1) (ask 1) ∷ []) ∷ [] ∷ [])
unfolding rested further_calls has without with_also first_after unseen any_unseen cleared stamped turn_reply wakes
    rest_after_turn turned turn_changes dropped closed_by manager lock_word submitted leave_reply leave_changes
    left_word medium_at_end turn_row switch_row submit_row route take_row mail_row leave_row purge_row rest_row row
    apply row_changes changes
further = (refl, refl, refl, refl, refl, refl)

-- Three systems change to star mode: not before the caller has processed every entry. The others take their turn
-- at the closed message, which gives what they have yet to process and takes nothing more.
switch :
    (answers (first_medium 3 1 false)
    ((0, 0, Turn (ask 0 ∷ [])) ∷ (0, 0, Switch (263 ∷ [])) ∷ (1, 0, turn) ∷ (2, 0, turn) ∷ (0, 0, turn)
    ∷ (1, 0, Turn (ask 1 ∷ [])) ∷ (0, 0, Switch (263 ∷ []))
    ∷ (2, 0, turn) ∷ (0, 0, Switch (263 ∷ [])) ∷ [])
    ≡ (Turned [] 1 false, true) ∷ (Behind 1, false) ∷ (Turned (entry 1 0 7 ∷ []) 0 false, true)
    ∷ (Turned (entry 1 0 5 ∷ []) 0 false, true) ∷ (Turned (entry 1 0 1 ∷ []) 0 false, true)
    ∷ (Turned [] 1 false, true) ∷ (Behind 2, false) ∷ (Turned (entry 2 1 7 ∷ []) 0 false, true) ∷ (Behind 2, false)
    ∷ [])
    × (answers (first_medium 3 1 false)
    ((0, 0, Turn (ask 0 ∷ [])) ∷ (1, 0, turn) ∷ (1, 0, Switch (263 ∷ [])) ∷ (1, 0, turn) ∷ (2, 0, Turn (ask 2 ∷ []))
    ∷ (0, 0, turn) ∷ (0, 0, turn) ∷ (0, 0, Switch (0 ∷ [])) ∷ [])
    ≡ (Turned [] 1 false, true) ∷ (Turned (entry 1 0 7 ∷ []) 0 false, true) ∷ (Switched, true)
    ∷ (NotYours (Some (sys 2)), false) ∷ (Turned (entry 1 0 5 ∷ []) 0 true, true)
    ∷ (Turned (entry 1 0 1 ∷ []) 0 true, true) ∷ (NotYours None, false) ∷ (Already, false) ∷ [])
    × ((after_all (first_medium 3 1 false)
    ((0, 0, Turn (ask 0 ∷ [])) ∷ (1, 0, turn) ∷ (1, 0, Switch (263 ∷ [])) ∷ [])).words
    ≡ 263 ∷ [])
unfolding has without with_also first_after unseen any_unseen cleared stamped turn_reply wakes rest_after_turn turned
    turn_changes dropped closed_by manager lock_word submitted leave_reply leave_changes left_word medium_at_end
    turn_row switch_row submit_row route take_row mail_row leave_row purge_row rest_row row apply row_changes changes
switch = (refl, refl, refl)
