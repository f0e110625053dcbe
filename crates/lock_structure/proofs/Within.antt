-- Who has interest by lock words stays one of the systems of a complex, and so does who manages, also behind a removal.
use Rattle.std.proofs.Common.{◌≡◌, ◌<◌, ◌≤◌, ℕ, zero, suc, Bool, true, false, cond, not, ◌&&◌, ◌||◌, List, [], ◌∷◌}
use Rattle.std.proofs.Common.{length, get_or, map, replicate, Option, Some, None, refl, ap, sym, ◌∙◌, subst, arith}
use Rattle.std.specs.Prelude.{◌==◌, nat_lt}
use Rattle.std.specs.List.{All, list_all}
use Rattle.std.proofs.lemmas.Bool.{and_parts, eqb-true, eqb-false, true≢false}
use Rattle.std.proofs.lemmas.Bool.Decides.{nat_tests}
use Rattle.std.proofs.lemmas.List.{get_or-replicate, length-replicate}
use Rattle.std.proofs.lemmas.List.Elements.{All-set}
use Rattle.std.proofs.lemmas.List.Folds.{list_all_at}
use Rattle.grs_base.specs.Limits.{most_systems}
use Rattle.grs_base.specs.declared.resource.SysId.{SysId}
use Rattle.grs_wire.proofs.MaskLaws.{has-zero, has-without_same, has-without_other, has-with_other, with_also-lt}
use Rattle.grs_wire.proofs.MaskLaws.{without-lt}
use Rattle.grs_wire.specs.LockWords.{interest, manager, epoch, manager_number, lock_word, is_manager, submitted_to}
use Rattle.grs_wire.specs.LockWords.{submitted, leave_changes, left_word}
use Rattle.grs_wire.specs.Masks.{has, without, with_also, only, all_others}
use Rattle.lock_structure.specs.Least.{least_of}
use Rattle.lock_structure.specs.Purge.{purged_word, purged_words}
use Rattle.lock_structure.specs.PurgeLaws.{PurgeKeepsNames}
use Rattle.lock_structure.specs.Words.{word_at, ManagerIsBelow, MaskIsBelow, submitted_words, left_words, manager_fits}
use Rattle.lock_structure.specs.Words.{word_fits}
use Rattle.lock_structure.proofs.LeastLaws.{least-passes}
use Rattle.lock_structure.proofs.Others.{member-lt, passes}
use Rattle.lock_structure.proofs.Purges.{interest-purged, manager-purged}
use Rattle.lock_structure.proofs.WordLaws.{interest-lock_word}

-- ---- sets
-- all in a set are of so many systems
abbrev Within : ℕ → ℕ → Type 0
Within systems mask = (s : ℕ) → has mask s ≡ true → s < systems

within-zero : (systems : ℕ) → Within systems 0
within-zero systems s here = absurd (true≢false (sym here ∙ has-zero s))

within-without : (systems mask t : ℕ) → Within systems mask → Within systems (without mask t)
within-without systems mask t all s here = go (s == t) refl
  where
    go : (b : Bool) → (s == t) ≡ b → s < systems
    go true is =
        absurd (true≢false (sym (subst (λ (k : ℕ). has (without mask t) k ≡ true) (eqb-true s t is) here)
        ∙ has-without_same mask t))
    go false is = all s (sym (has-without_other mask t s (eqb-false s t is)) ∙ here)

within-with : (systems mask t : ℕ) → t < systems → Within systems mask → Within systems (with_also mask t)
within-with systems mask t below all s here = go (s == t) refl
  where
    go : (b : Bool) → (s == t) ≡ b → s < systems
    go true is = subst (λ (k : ℕ). k < systems) (sym (eqb-true s t is)) below
    go false is = all s (sym (has-with_other mask t s (eqb-false s t is)) ∙ here)

-- ---- one word
within-lock_word : (systems mask : ℕ) (who : Option SysId) (times : ℕ) → mask < 256 → Within systems mask
    → MaskIsBelow systems (lock_word mask who times)
within-lock_word systems mask who times small all s here =
    all s (subst (λ (m : ℕ). has m s ≡ true) (interest-lock_word mask who times small) here)

within-submitted : (systems w : ℕ) (c : SysId) → systems ≤ 8 → c.0 < systems → MaskIsBelow systems w
    → MaskIsBelow systems (submitted w c)
unfolding submitted
within-submitted systems w c few here all = go (manager w)
  where
    low : c.0 < 8
    low = omega (arith, few, here)

    go : (o : Option SysId) → MaskIsBelow systems (submitted_to w o c)
    go None =
        within-lock_word systems (only c.0) (Some c) (epoch w) (with_also-lt 0 c.0 (omega arith) low)
        (within-with systems 0 c.0 here (within-zero systems))
    go (Some s) = by_self (s.0 == c.0)
      where
        by_self : (b : Bool)
            → MaskIsBelow systems (cond b w (lock_word (with_also (interest w) c.0) (Some s) (epoch w)))
        by_self true = all
        by_self false =
            within-lock_word systems (with_also (interest w) c.0) (Some s) (epoch w)
            (with_also-lt (interest w) c.0 (omega arith) low) (within-with systems (interest w) c.0 here all)

within-left_word : (systems w : ℕ) (c : SysId) → MaskIsBelow systems w → MaskIsBelow systems (left_word w c)
unfolding left_word
within-left_word systems w c all = by_change (leave_changes w c) (is_manager (manager w) c)
  where
    by_change : (b d : Bool)
        → MaskIsBelow systems
        (cond b (cond d (lock_word 0 None (epoch w)) (lock_word (without (interest w) c.0) (manager w) (epoch w))) w)
    by_change false d = all
    by_change true true = within-lock_word systems 0 None (epoch w) (omega arith) (within-zero systems)
    by_change true false =
        within-lock_word systems (without (interest w) c.0) (manager w) (epoch w)
        (without-lt (interest w) c.0 (omega arith)) (within-without systems (interest w) c.0 all)

within-purged_word : (systems w : ℕ) (t : SysId) → MaskIsBelow systems w → MaskIsBelow systems (purged_word w t)
within-purged_word systems w t all s here =
    within-without systems (interest w) t.0 all s
    (subst (λ (m : ℕ). has m s ≡ true) (interest-purged w t) here)

-- who manages behind a removal is one of those who had interest, or managed before
least-within : (systems mask : ℕ) → Within systems mask → manager_number (least_of mask) ≤ systems
least-within systems mask all = go (least_of mask) refl
  where
    go : (o : Option SysId) → least_of mask ≡ o → manager_number o ≤ systems
    go None is = omega arith
    go (Some s) is = let below : s.0 < systems = all s.0 (least-passes 8 (has mask) s is).1 in omega (arith, below)

below-purged_word : (systems w : ℕ) (t : SysId) → MaskIsBelow systems w → ManagerIsBelow systems w
    → ManagerIsBelow systems (purged_word w t)
below-purged_word systems w t all below =
    subst (λ (o : Option SysId). manager_number o ≤ systems) (sym (manager-purged w t)) (go (is_manager (manager w) t))
  where
    go : (b : Bool)
        → manager_number (cond b (least_of (without (interest w) t.0)) (manager w)) ≤ systems
    go true =
        least-within systems (without (interest w) t.0) (within-without systems (interest w) t.0 all)
    go false = below

within-empty : (systems : ℕ) → MaskIsBelow systems 0
within-empty systems = within-zero systems

-- a word that fits so many systems
within-fits : (systems w : ℕ) → word_fits systems w ≡ true → MaskIsBelow systems w
within-fits systems w = by_empty (w == 0) refl
  where
    by_empty : (b : Bool) → (w == 0) ≡ b
        → (b
        || (manager_fits systems w (manager w)
        && all_others most_systems 0 (λ s. not (has (interest w) s) || nat_lt s systems)))
        ≡ true
        → MaskIsBelow systems w
    by_empty true is h = subst (λ (x : ℕ). MaskIsBelow systems x) (sym (eqb-true w 0 is)) (within-empty systems)
    by_empty false is h = λ s here.
        let low : s < 8 = member-lt (interest w) s (omega arith) here in
        let one =
        passes most_systems 0 (λ k. not (has (interest w) k) || nat_lt k systems)
        (and_parts (manager_fits systems w (manager w)) _ h).1 s low in
        grind (arith, nat_tests, one, here, has-zero s)

-- ---- the words of all entries
pub within-submitted_words : (systems : ℕ) (words : List ℕ) (entry : ℕ) (c : SysId) → systems ≤ 8 → c.0 < systems
    → entry < length words → All (MaskIsBelow systems) words
    → All (MaskIsBelow systems) (submitted_words words entry c)
within-submitted_words systems words entry c few here inside all =
    All-set (MaskIsBelow systems) words entry (submitted (word_at words entry) c)
    (within-submitted systems (word_at words entry) c few here (all entry 0 inside)) all

pub within-left_words : (systems : ℕ) (words : List ℕ) (entry : ℕ) (c : SysId) → entry < length words
    → All (MaskIsBelow systems) words → All (MaskIsBelow systems) (left_words words entry c)
within-left_words systems words entry c inside all =
    All-set (MaskIsBelow systems) words entry (left_word (word_at words entry) c)
    (within-left_word systems (word_at words entry) c (all entry 0 inside)) all

pub within-replicate : (systems entries : ℕ) → All (MaskIsBelow systems) (replicate entries 0)
within-replicate systems entries k d inside =
    subst (λ (w : ℕ). MaskIsBelow systems w)
    (sym (get_or-replicate entries k 0 d (omega (arith, length-replicate {A = ℕ} entries 0)))) (within-empty systems)

pub within-purged_words : (systems : ℕ) (words : List ℕ) (t : SysId) → All (MaskIsBelow systems) words
    → All (MaskIsBelow systems) (purged_words words t)
within-purged_words systems [] t all k d inside = absurd (omega (arith, inside))
within-purged_words systems (w ∷ ws) t all zero d inside = within-purged_word systems w t (all 0 0 (omega arith))
within-purged_words systems (w ∷ ws) t all (suc k) d inside =
    within-purged_words systems ws t (λ i e low. all (suc i) e (omega (arith, low))) k d (omega (arith, inside))

pub below-purged_words : (systems : ℕ) (words : List ℕ) (t : SysId) → All (MaskIsBelow systems) words
    → All (ManagerIsBelow systems) words → All (ManagerIsBelow systems) (purged_words words t)
below-purged_words systems [] t all below k d inside = absurd (omega (arith, inside))
below-purged_words systems (w ∷ ws) t all below zero d inside =
    below-purged_word systems w t (all 0 0 (omega arith)) (below 0 0 (omega arith))
below-purged_words systems (w ∷ ws) t all below (suc k) d inside =
    below-purged_words systems ws t (λ i e low. all (suc i) e (omega (arith, low)))
    (λ i e low. below (suc i) e (omega (arith, low))) k d (omega (arith, inside))

pub purge_keeps_names : PurgeKeepsNames
purge_keeps_names systems words t all below =
    (within-purged_words systems words t all, below-purged_words systems words t all below)

-- the words that a Switch may carry
pub within-words : (systems : ℕ) (words : List ℕ) → list_all (word_fits systems) words ≡ true
    → All (MaskIsBelow systems) words
within-words systems words all k d inside =
    within-fits systems (get_or words k d) (by_fits (word_fits systems (get_or words k d)) refl)
  where
    by_fits : (b : Bool) → word_fits systems (get_or words k d) ≡ b → b ≡ true
    by_fits true is = refl
    by_fits false is = absurd (true≢false (sym all ∙ list_all_at (word_fits systems) words k d inside is))
