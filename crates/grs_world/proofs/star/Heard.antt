-- What is still to be heard by live systems in star mode: of each request that was sent, where it or its answer is; and
-- of each owner, that its system knows that it owns, or that this comes to it, or that its manager has still to tell
-- it. So nothing is lost.
use Rattle.grs_world.proofs.Common.{◌⊎◌, Answer, Answered, askers, Deck, Deq, Enq, entry_wanted, filter, Fixed}
use Rattle.grs_world.proofs.Common.{fixed_by, Granted, has_res, has_task, inbox, is_among, is_granted, is_home_at}
use Rattle.grs_world.proofs.Common.{is_marked, is_sent, is_systems, items, items_of, last_number, list_any, list_of}
use Rattle.grs_world.proofs.Common.{Look, Mail, Managed, managed_at, managed_of, MediumState, nat_le, NodeState, Notice}
use Rattle.grs_world.proofs.Common.{owns, Part, placed, put_at, Release, Res, Rows, RunItem, same_res, same_task}
use Rattle.grs_world.proofs.Common.{StarPart, state_of, SysId, TaskId, Turnout, Want, World}
use Rattle.grs_wire.specs.declared.medium.Mail.TheVariants.{Request}
use Rattle.contention_mgr.specs.Manager.{is_of}
use Rattle.std.specs.Prelude.{◌≡◌, ◌≢◌, ◌<◌, ◌≤◌, ℕ, suc, Bool, true, false, cond, not, ◌&&◌, ◌||◌, List, [], ◌∷◌, ◌++◌}
use Rattle.std.specs.Prelude.{length, Some, ◌⊎◌}
use Rattle.grs_wire.specs.declared.request.Answer.TheVariants.{Coded}
use Rattle.grs_world.proofs.star.Members.{all_lists}
use Rattle.grs_world.proofs.star.Worlds.{in_hands}
use Rattle.grs_world.proofs.run.Site.{Site, IsThere}
use Rattle.grs_wire.specs.declared.request.Fixed.TheVariants as fixing

-- ---- how a system stands by itself
-- whether a task of a system has sent its request, and whether its system told it control of a resource
abbrev pub sent_by : NodeState → TaskId → Bool
sent_by n t = is_sent (state_of n.tasks t).phase

abbrev pub had_by : NodeState → TaskId → Res → Bool
had_by n t r = is_marked r (state_of n.tasks t).records

-- ---- what comes
-- whether a mail is an answer to a task, with a rank that has an effect
abbrev pub is_timely : TaskId → Mail → Bool
is_timely t (Request e from q) = false
is_timely t (Answered u answer rank) = same_task t u && nat_le rank last_number
is_timely t (Granted u r) = false
is_timely t (Notice target moved) = false
is_timely t (Part e from records) = false

abbrev pub grants : Answer → Bool
grants (Coded code) = is_granted code
grants (Rows rows) = false

-- Whether the mail tells an owner that it owns a resource: by control that finds a record of it, or by the answer to
-- the request that makes its record. Behind an answer there is one.
abbrev pub hears : TaskId → Res → Bool → List Mail → Bool
hears t r recorded [] = false
hears t r recorded (Request e from q ∷ ms) = hears t r recorded ms
hears t r recorded (Answered u answer rank ∷ ms) =
    cond (is_timely t (Answered u answer rank)) ((not recorded && grants answer) || hears t r true ms)
    (hears t r recorded ms)
hears t r recorded (Granted u q ∷ ms) = (recorded && (same_task t u && same_res r q)) || hears t r recorded ms
hears t r recorded (Notice target moved ∷ ms) = hears t r recorded ms
hears t r recorded (Part e from records ∷ ms) = hears t r recorded ms

-- A request comes under the lock entry that it is for, from a system of the deck.
abbrev pub IsAddressed : Deck → Mail → Type 0
IsAddressed deck (Request e from q) = (entry_wanted deck.entries q.want ≡ Some e) × (from.0 < length deck.systems)
IsAddressed deck (Answered t answer rank) = Unit {0}
IsAddressed deck (Granted t r) = Unit {0}
IsAddressed deck (Notice target moved) = Unit {0}
IsAddressed deck (Part e from records) = Unit {0}

abbrev pub AreAddressed : Deck → List Mail → Type 0
AreAddressed deck [] = Unit {0}
AreAddressed deck (m ∷ ms) = IsAddressed deck m × AreAddressed deck ms

-- ---- where it is
-- A task's request is in the hands of some live system, or on its way there.
pub record IsInHands (m : MediumState) (nodes : List NodeState) (t : TaskId) : Type 0 where
  pub system : ℕ
  pub node : NodeState
  pub part : StarPart
  pub site : IsThere nodes m.removed system node
  pub star : node.star ≡ Some part
  pub among : is_among t (askers (in_hands part (inbox m system))) ≡ true

-- A manager, a live system and another than s, has still to tell a task that it owns.
pub record IsUntold (m : MediumState) (nodes : List NodeState) (s : ℕ) (t : TaskId) (r : Res) : Type 0 where
  pub system : ℕ
  pub node : NodeState
  pub part : StarPart
  pub site : IsThere nodes m.removed system node
  pub star : node.star ≡ Some part
  pub apart : system ≢ s
  pub untold : list_any (λ y. is_of r t y && y.untold) (items_of (managed_of part.manager r)) ≡ true

-- ---- how many elements were queued at most
abbrev pub is_enq_want : Want → Bool
is_enq_want (Enq r c ret full) = true
is_enq_want (Deq r have) = false
is_enq_want (Release r) = false
is_enq_want (Look first count f) = false

abbrev pub is_enq : Fixed → Bool
is_enq (fixing.Asked q) = is_enq_want q.want
is_enq (fixing.LocalLook t f) = false
is_enq (fixing.Purged target) = false

abbrev pub enq_count : List RunItem → ℕ
enq_count T = length (filter (λ x. is_enq x.fixed) T)

-- ---- What holds of a world in star mode, where `sent` says of each system which of its tasks have sent a request, and
-- `had` who was told control of what.
pub record IsHeard (deck : Deck) (w : World) (sent : ℕ → TaskId → Bool) (had : ℕ → TaskId → Res → Bool) : Type 0 where
  -- a request that was sent is in somebody's hands, or its answer comes
  pub requests : (s : ℕ) (n : NodeState) (t : TaskId) → Site w s n → is_home_at deck s t ≡ true → sent s t ≡ true →
      IsInHands w.medium w.nodes t ⊎ (list_any (is_timely t) (inbox w.medium s) ≡ true)
  -- an owner was told so, or hears it, or is still to be told
  pub owners : (s : ℕ) (n : NodeState) (t : TaskId) (r : Res) → Site w s n → is_home_at deck s t ≡ true
      → is_systems r ≡ true
      → owns (list_of (all_lists w) r) t ≡ true →
      (had s t r ≡ true)
      ⊎ ((hears t r (has_res r (state_of n.tasks t).records) (inbox w.medium s) ≡ true)
      ⊎ IsUntold w.medium w.nodes s t r)
  -- an element is on record, or the answer comes that makes its record
  pub recorded : (s : ℕ) (n : NodeState) (t : TaskId) (r : Res) → Site w s n → is_home_at deck s t ≡ true
      → is_systems r ≡ true
      → has_task (list_of (all_lists w) r) t ≡ true →
      (has_res r (state_of n.tasks t).records ≡ true) ⊎ (list_any (is_timely t) (inbox w.medium s) ≡ true)
  pub mails : (s : ℕ) → AreAddressed deck (inbox w.medium s)
  -- no rank is past the number of requests that could queue an element
  pub ranks : (m : ℕ) (k : NodeState) (p : StarPart) (e : ℕ) (x : Managed) → Site w m k → k.star ≡ Some p
      → managed_at p.manager e ≡ Some x
      → x.next ≤ suc (enq_count (items w.fixed))

-- where system c stands like this, and the others as said
abbrev pub sent_with : (ℕ → TaskId → Bool) → SysId → NodeState → ℕ → TaskId → Bool
sent_with sent c n = put_at sent c.0 (sent_by n)

abbrev pub had_with : (ℕ → TaskId → Res → Bool) → SysId → NodeState → ℕ → TaskId → Res → Bool
had_with had c n = put_at had c.0 (had_by n)

-- ---- The law of one event of star mode: where the ranks have an effect, what was heard, or is still to be heard,
-- stays so.
abbrev pub StaysHeard : (deck : Deck) → World → SysId → NodeState → Turnout → Type 0
StaysHeard deck w c n o =
    (sent : ℕ → TaskId → Bool) (had : ℕ → TaskId → Res → Bool)
    → enq_count (items (w.fixed ++ fixed_by c o.step.fixed)) ≤ last_number →
    IsHeard deck w (sent_with sent c n) (had_with had c n)
    → IsHeard deck (placed w c n o) (sent_with sent c o.step.node) (had_with had c o.step.node)
