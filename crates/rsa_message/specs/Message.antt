-- The authority message: what it holds, what each call of it answers, and what it is afterwards.
use Rattle.std.specs.Prelude.{ℕ, suc, ◌+◌, ◌%◌, Bool, true, false, cond, not, ◌==◌, ◌&&◌, ◌||◌, List, [], ◌∷◌, ◌++◌}
use Rattle.std.specs.Prelude.{length, map, filter, find, Option, Some, None}
use Rattle.std.specs.List.{range_with_len, list_any}
use Rattle.grs_base.specs.declared.resource.SysId.{SysId}
use Rattle.grs_wire.specs.declared.request.Req.{Req}
use Rattle.grs_wire.specs.declared.medium.RingBody.TheVariants.{Request, Remove}
use Rattle.grs_wire.specs.declared.medium.RingEntry.{RingEntry}
use Rattle.grs_wire.specs.declared.medium.Reply.{Reply}
use Rattle.grs_wire.specs.declared.medium.Reply.TheVariants.{Turned, NotYours}
use Rattle.grs_wire.specs.Masks.{has, without, only}
use Rattle.grs_wire.specs.Unseen.{is_unseen, unseen}

-- The message of a number of systems. It stands at one of them, or at none once all have changed to star
-- mode. `still` is the set of the systems that have yet to change; `next` is the number of the next entry.
pub record Message : Type 0 where
  pub systems : ℕ
  pub holder : Option SysId
  pub closed : Bool
  pub still : ℕ
  pub entries : List RingEntry
  pub next : ℕ

-- at the start in ring mode, and in star mode, where there is no message
abbrev pub opened : ℕ → Message
opened systems = record {
  systems = systems;
  holder = Some (record { 0 = 0 });
  closed = false;
  still = 0;
  entries = [];
  next = 1;
}

abbrev pub never_opened : ℕ → Message
never_opened systems = record { systems = systems; holder = None; closed = true; still = 0; entries = []; next = 1 }

-- whether the message stands at s
abbrev pub stands_at : Option SysId → SysId → Bool
stands_at None s = false
stands_at (Some h) s = h.0 == s.0

-- the systems in the order in which a message that leaves s comes to them: from the next number to the last, from 0 on,
-- and to s again
abbrev pub after : ℕ → SysId → List SysId
after systems s = map (λ k. record { 0 = (s.0 + k) % systems }) (range_with_len 1 systems)

-- the first system after s that passes the test
unfoldable pub first_after : ℕ → SysId → (SysId → Bool) → Option SysId
first_after systems s test = find test (after systems s)

-- this system, or s where there is none
abbrev pub or_else : Option SysId → SysId → SysId
or_else None s = s
or_else (Some t) s = t

-- the number of a system, 0 where there is none
abbrev pub system_number : Option SysId → ℕ
system_number None = 0
system_number (Some s) = s.0

-- whether s has yet to process one of these entries
unfoldable pub any_unseen : SysId → List RingEntry → Bool
any_unseen s es = list_any (is_unseen s) es

-- the number of the first entry of these
abbrev pub first_number : List RingEntry → Option ℕ
first_number [] = None
first_number (e ∷ es) = Some e.number

-- the entry with s out of its mask
abbrev pub left_by : SysId → RingEntry → RingEntry
left_by s e = record { number = e.number; from = e.from; body = e.body; mask = without e.mask s.0 }

-- s leaves all masks, and an entry goes where s was the last in its mask
unfoldable pub cleared : SysId → List RingEntry → List RingEntry
cleared s es = map (left_by s) (filter (λ e. not (e.mask == only s.0)) es)

-- these requests as entries of s, with the numbers from this one on and this mask
unfoldable pub stamped : ℕ → SysId → ℕ → List Req → List RingEntry
stamped number s mask [] = []
stamped number s mask (r ∷ rs) =
    record { number = number; from = s; body = Request r; mask = mask } ∷ stamped (suc number) s mask rs

-- whether the message has to come to s: s is live, and has an unseen entry or hasn't come to rest
abbrev pub is_due : List RingEntry → ℕ → ℕ → SysId → Bool
is_due es live rest s = has live s.0 && (any_unseen s es || not (has rest s.0))

-- whether a Turn of c with this many requests gives or puts in something
abbrev pub moves : Message → SysId → ℕ → Bool
moves m c count = any_unseen c m.entries || not (count == 0)

-- how many of so many requests a Turn at the message puts in: none where it is closed
abbrev pub taken : Message → ℕ → ℕ
taken m count = cond m.closed 0 count

-- how many entries a Turn of c with this many requests puts in: none where the message isn't at c
abbrev pub put_in : Message → SysId → ℕ → ℕ
put_in m c count = cond (stands_at m.holder c) (taken m count) 0

-- the reply to a Turn of c with this many requests
unfoldable pub turn_reply : Message → SysId → ℕ → Reply
turn_reply m c count =
    cond (stands_at m.holder c)
    (Turned (unseen c m.entries) (taken m count) m.closed)
    (NotYours m.holder)

-- whether such a Turn clears the flag of rest of c: where something was given or put in, and at the closed
-- message always
unfoldable pub wakes : Message → SysId → ℕ → Bool
wakes m c count = stands_at m.holder c && (m.closed || moves m c count)

-- the flags of rest after a Turn of c
unfoldable pub rest_after_turn : Message → SysId → ℕ → ℕ → ℕ
rest_after_turn m c count rest = cond (wakes m c count) (without rest c.0) rest

-- a Turn at the open message
abbrev pub turned_open : Message → SysId → List Req → ℕ → ℕ → Message
turned_open m c out live rest =
    let entries = cleared c m.entries ++ stamped m.next c live out in
    record {
      systems = m.systems;
      holder =
          Some (or_else
          (first_after m.systems c (is_due entries live (cond (moves m c (length out)) (without rest c.0) rest))) c);
      closed = m.closed;
      still = m.still;
      entries = entries;
      next = m.next + length out;
    }

-- a Turn at the closed message
abbrev pub turned_closed : Message → SysId → Message
turned_closed m c =
    let still = without m.still c.0 in
    record {
      systems = m.systems;
      holder = first_after m.systems c (λ s. has still s.0);
      closed = m.closed;
      still = still;
      entries = cleared c m.entries;
      next = m.next;
    }

-- the message after a Turn of c
unfoldable pub turned : Message → SysId → List Req → ℕ → ℕ → Message
turned m c out live rest =
    cond (stands_at m.holder c) (cond m.closed (turned_closed m c) (turned_open m c out live rest)) m

-- whether a Turn of c with this many requests changes the message
unfoldable pub turn_changes : Message → SysId → ℕ → ℕ → ℕ → Bool
turn_changes m c count live rest =
    stands_at m.holder c
    && (m.closed || moves m c count
    || not (stands_at (Some (or_else (first_after m.systems c (is_due m.entries live rest)) c)) c))

-- the message after c has removed t, with the systems that are live then
unfoldable pub dropped : Message → SysId → SysId → ℕ → Message
dropped m c t live = record {
  systems = m.systems;
  holder = cond (stands_at m.holder t) (first_after m.systems t (λ s. has live s.0)) m.holder;
  closed = m.closed;
  still = m.still;
  entries = cleared t m.entries ++ record { number = m.next; from = c; body = Remove t; mask = live } ∷ [];
  next = suc m.next;
}

-- The message once t is removed in star mode: t has nothing to process and nothing to change any more. No entry tells
-- of the removal. From t the message goes on to the next system that has yet to change, and nowhere where there is
-- none.
unfoldable pub departed : Message → SysId → Message
departed m t =
    let still = without m.still t.0 in
    record {
      systems = m.systems;
      holder = cond (stands_at m.holder t) (first_after m.systems t (λ s. has still s.0)) m.holder;
      closed = m.closed;
      still = still;
      entries = cleared t m.entries;
      next = m.next;
    }

-- where the message stands once only the systems of this set have to come to it
abbrev pub moved_on : ℕ → Option SysId → ℕ → Option SysId
moved_on systems None still = None
moved_on systems (Some s) still = cond (has still s.0) (Some s) (first_after systems s (λ t. has still t.0))

-- the message after c has closed it
unfoldable pub closed_by : Message → SysId → ℕ → Message
closed_by m c live =
    let still = without live c.0 in
    record {
      systems = m.systems;
      holder = moved_on m.systems m.holder still;
      closed = true;
      still = still;
      entries = m.entries;
      next = m.next;
    }

-- whether no entry is left, and no system has yet to change
abbrev pub message_at_end : Message → Bool
message_at_end m = (length m.entries == 0) && (m.still == 0)
