-- The lock words of a medium go on naming systems of its complex alone, and are of as many entries.
use Rattle.std.proofs.Common.{◌≡◌, ◌<◌, ◌≤◌, ◌^◌, ℕ, true, List, length, replicate, sym, subst}
use Rattle.std.specs.List.{list_all}
use Rattle.std.proofs.lemmas.List.{length-map, length-replicate, length-set}
use Rattle.grs_base.specs.declared.resource.SysId.{SysId}
use Rattle.grs_wire.specs.LockWords.{submitted, left_word}
use Rattle.lock_structure.specs.Purge.{purged_word, purged_words}
use Rattle.lock_structure.specs.Words.{word_at, submitted_words, left_words, word_fits}
use Rattle.lock_structure.proofs.WordLaws.{below-submitted_words, below-left_words, below-replicate}
use Rattle.lock_structure.proofs.Within.{within-submitted_words, within-left_words, within-replicate, within-words}
use Rattle.lock_structure.proofs.Within.{within-purged_words, below-purged_words}
use Rattle.grs_medium.specs.Medium.{AreWords}
use Rattle.grs_medium.proofs.SwitchLaws.{words-below}

pub named-replicate : (systems entries : ℕ) → entries < 2 ^ 32 → AreWords systems (replicate entries 0)
named-replicate systems entries few = record {
  managers = below-replicate systems entries;
  masks = within-replicate systems entries;
  count = subst (λ (n : ℕ). n < 2 ^ 32) (sym (length-replicate {A = ℕ} entries 0)) few;
}

pub named-submitted : (systems : ℕ) (words : List ℕ) (entry : ℕ) (c : SysId) → systems ≤ 8 → c.0 < systems
    → entry < length words → AreWords systems words → AreWords systems (submitted_words words entry c)
named-submitted systems words entry c few here inside are = record {
  managers = below-submitted_words systems words entry c few here inside are.managers;
  masks = within-submitted_words systems words entry c few here inside are.masks;
  count =
      subst (λ (n : ℕ). n < 2 ^ 32) (sym (length-set words entry (submitted (word_at words entry) c))) are.count;
}

pub named-left : (systems : ℕ) (words : List ℕ) (entry : ℕ) (c : SysId) → systems ≤ 8 → entry < length words
    → AreWords systems words → AreWords systems (left_words words entry c)
named-left systems words entry c few inside are = record {
  managers = below-left_words systems words entry c few inside are.managers;
  masks = within-left_words systems words entry c inside are.masks;
  count =
      subst (λ (n : ℕ). n < 2 ^ 32) (sym (length-set words entry (left_word (word_at words entry) c))) are.count;
}

pub named-purged : (systems : ℕ) (words : List ℕ) (t : SysId) → AreWords systems words
    → AreWords systems (purged_words words t)
named-purged systems words t are = record {
  managers = below-purged_words systems words t are.masks are.managers;
  masks = within-purged_words systems words t are.masks;
  count = subst (λ (n : ℕ). n < 2 ^ 32) (sym (length-map words (λ (w : ℕ). purged_word w t))) are.count;
}

-- the words that a Switch may carry, in place of as many others
pub named-switched : (systems : ℕ) (words before : List ℕ) → list_all (word_fits systems) words ≡ true
    → length words ≡ length before → AreWords systems before → AreWords systems words
named-switched systems words before fits same are = record {
  managers = words-below systems words fits;
  masks = within-words systems words fits;
  count = subst (λ (n : ℕ). n < 2 ^ 32) (sym same) are.count;
}
