-- The lock words once a system is removed, and what the others get to know of the entries that it managed.
use Rattle.std.specs.Prelude.{ℕ, suc, cond, nat_lt, List, [], ◌∷◌, length, map, filter, Option, Some, None}
use Rattle.std.specs.List.{range_with_len, flat_map}
use Rattle.grs_base.specs.declared.resource.SysId.{SysId}
use Rattle.grs_wire.specs.LockWords.{interest, manager, epoch, lock_word, is_manager}
use Rattle.grs_wire.specs.Masks.{has, without}
use Rattle.grs_wire.specs.declared.gather.Moved.{Moved}
use Rattle.lock_structure.specs.Least.{least_of}
use Rattle.lock_structure.specs.Words.{word_at}

-- The epoch that follows: one more. The last one stays; it is more than there are systems to be removed.
abbrev pub last_epoch : ℕ
last_epoch = 15

abbrev pub next_epoch : ℕ → ℕ
next_epoch n = cond (nat_lt n last_epoch) (suc n) n

-- the word once t is removed: t has no interest any more, and where it managed the entry, the least of the others that
-- have interest manages it in the next epoch, or nobody where there is none
unfoldable pub purged_word : ℕ → SysId → ℕ
purged_word w t =
    cond (is_manager (manager w) t)
    (lock_word (without (interest w) t.0) (least_of (without (interest w) t.0)) (next_epoch (epoch w)))
    (lock_word (without (interest w) t.0) (manager w) (epoch w))

-- the words of all entries
abbrev pub purged_words : List ℕ → SysId → List ℕ
purged_words words t = map (λ w. purged_word w t) words

-- how an entry with this manager and this word is made known, where somebody manages it
abbrev pub made_known : ℕ → Option SysId → ℕ → List Moved
made_known e None w = []
made_known e (Some m) w = record { entry = e; manager = m; mask = interest w; epoch = epoch w } ∷ []

-- what is made known of an entry with this word once t is removed: its new manager, where t managed it
abbrev pub moved_at : ℕ → ℕ → SysId → List Moved
moved_at e w t =
    cond (is_manager (manager w) t) (made_known e (manager (purged_word w t)) (purged_word w t)) []

-- the same of all entries, by number, and that part of it which concerns one system: the entries in which it has
-- interest
abbrev pub moved : List ℕ → SysId → List Moved
moved words t = flat_map (λ e. moved_at e (word_at words e) t) (range_with_len 0 (length words))

abbrev pub moved_for : List ℕ → SysId → SysId → List Moved
moved_for words t s = filter (λ m. has m.mask s.0) (moved words t)
