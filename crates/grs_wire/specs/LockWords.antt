-- The lock words: what a call of one answers, and what the word is afterwards. Bits 0 to 7 of a word are the
-- set of the systems that have interest in its entry, bits 8 to 11 the manager's number plus one (0 is
-- none), and bits 12 to 15 the epoch.
use Rattle.std.specs.Prelude.{ℕ, zero, suc, ◌+◌, ◌*◌, ◌/◌, ◌%◌, Bool, false, cond, not, ◌==◌, ◌&&◌, Option, Some, None}
use Rattle.grs_base.specs.declared.resource.SysId.{SysId}
use Rattle.grs_wire.specs.declared.medium.Reply.{Reply}
use Rattle.grs_wire.specs.declared.medium.Reply.TheVariants.{Left, Kept}
use Rattle.grs_wire.specs.Masks.{has, without, with_also, only}

-- the systems that have interest
abbrev pub interest : ℕ → ℕ
interest w = w % 256

-- the manager
abbrev pub manager_numbered : ℕ → Option SysId
manager_numbered zero = None
manager_numbered (suc s) = Some (record { 0 = s })

unfoldable pub manager : ℕ → Option SysId
manager w = manager_numbered (w / 256 % 16)

-- how often the entry changed its manager because a system was removed
abbrev pub epoch : ℕ → ℕ
epoch w = w / 4096

-- a word of these parts
abbrev pub manager_number : Option SysId → ℕ
manager_number None = 0
manager_number (Some s) = suc s.0

unfoldable pub lock_word : ℕ → Option SysId → ℕ → ℕ
lock_word mask who times = mask + 256 * manager_number who + 4096 * times

-- whether c manages the entry
abbrev pub is_manager : Option SysId → SysId → Bool
is_manager None c = false
is_manager (Some s) c = s.0 == c.0

-- the word after c has submitted a request: the first becomes the manager, and any other joins
abbrev pub submitted_to : ℕ → Option SysId → SysId → ℕ
submitted_to w None c = lock_word (only c.0) (Some c) (epoch w)
submitted_to w (Some s) c = cond (s.0 == c.0) w (lock_word (with_also (interest w) c.0) (Some s) (epoch w))

unfoldable pub submitted : ℕ → SysId → ℕ
submitted w c = submitted_to w (manager w) c

-- whether the manager c would leave others behind who have interest
abbrev pub is_kept : ℕ → SysId → Bool
is_kept w c = has (interest w) c.0 && is_manager (manager w) c && not (interest w == only c.0)

-- the reply to c, which gives up its interest
unfoldable pub leave_reply : ℕ → SysId → Reply
leave_reply w c = cond (is_kept w c) (Kept (interest w)) Left

-- whether that changes the word
unfoldable pub leave_changes : ℕ → SysId → Bool
leave_changes w c = has (interest w) c.0 && not (is_kept w c)

-- the word after c has given up its interest
unfoldable pub left_word : ℕ → SysId → ℕ
left_word w c =
    cond (leave_changes w c)
    (cond (is_manager (manager w) c) (lock_word 0 None (epoch w))
    (lock_word (without (interest w) c.0) (manager w) (epoch w)))
    w
