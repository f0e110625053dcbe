-- One entry more: the words behind a removal, and what is made known of them.
use Rattle.std.proofs.Common.{◌≡◌, ◌<◌, ◌+◌, ℕ, List, [], ◌∷◌, ◌++◌, map, take, drop, length, get_or, set, ap, ◌∙◌}
use Rattle.std.proofs.lemmas.List.{take_all, drop_all}
use Rattle.std.proofs.lemmas.List.Edits.{map_over_more}
use Rattle.std.specs.Prelude.{filter}
use Rattle.std.specs.List.{range_with_len, flat_map}
use Rattle.std.proofs.lemmas.List.Elements.{filter-append}
use Rattle.grs_base.specs.declared.resource.SysId.{SysId}
use Rattle.grs_wire.specs.Masks.{has}
use Rattle.grs_wire.specs.declared.gather.Moved.{Moved}
use Rattle.lock_structure.specs.Purge.{purged_word, moved_at}
use Rattle.lock_structure.specs.Words.{word_at}
use Rattle.lock_structure.proofs.Ranges.{flat_map-range_more}

-- what the entries below n tell a system
abbrev pub moved_below : List ℕ → SysId → SysId → ℕ → List Moved
moved_below words t s n =
    filter (λ m. has m.mask s.0) (flat_map (λ e. moved_at e (word_at words e) t) (range_with_len 0 n))

pub moved-more : (words : List ℕ) (t s : SysId) (n : ℕ)
    → moved_below words t s (n + 1)
    ≡ moved_below words t s n ++ filter (λ m. has m.mask s.0) (moved_at n (word_at words n) t)
moved-more words t s n =
    ap (filter (λ (m : Moved). has m.mask s.0)) (flat_map-range_more (λ e. moved_at e (word_at words e) t) n)
    ∙ filter-append (λ (m : Moved). has m.mask s.0)
    (flat_map (λ e. moved_at e (word_at words e) t) (range_with_len 0 n)) (moved_at n (word_at words n) t)

pub ruleset moving = (moved-more)

pub purged-more : (t : SysId) (xs ys : List ℕ) (i x : ℕ) → i < length xs
    → ys ≡ map (λ w. purged_word w t) (take i xs) ++ drop i xs → x ≡ get_or ys i x
    → set ys i (purged_word x t) ≡ map (λ w. purged_word w t) (take (i + 1) xs) ++ drop (i + 1) xs
purged-more t xs ys i x inside before is = map_over_more (λ (w : ℕ). purged_word w t) xs ys i x inside before is

pub ruleset purging = (purged-more, take_all, drop_all)
