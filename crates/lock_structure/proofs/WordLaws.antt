-- Laws of lock words: their parts, and that their managers are systems.
use Rattle.std.proofs.Common.{◌≡◌, ◌<◌, ◌≤◌, ◌+◌, ◌*◌, ◌/◌, ◌%◌, ℕ, zero, suc, Bool, true, false, cond, List, length}
use Rattle.std.proofs.Common.{replicate, refl, ap, sym, ◌∙◌, subst, arith}
use Rattle.std.proofs.lemmas.Bool.{and_parts, true≢false}
use Rattle.std.proofs.lemmas.List.{get_or-replicate, length-replicate}
use Rattle.std.proofs.lemmas.List.Elements.{All-set}
use Rattle.std.specs.Prelude.{Option, Some, None, ◌==◌}
use Rattle.std.specs.List.{All}
use Rattle.grs_base.specs.declared.resource.SysId.{SysId}
use Rattle.grs_wire.proofs.MaskLaws.{has-zero, has-without_same, with_also-lt, without-lt}
use Rattle.grs_wire.specs.LockWords.{interest, manager_numbered, manager, epoch, manager_number, lock_word, is_manager}
use Rattle.grs_wire.specs.LockWords.{submitted_to, submitted, leave_changes, left_word}
use Rattle.grs_wire.specs.Masks.{has, without, with_also, only}
use Rattle.lock_structure.specs.declared.word.Route.TheVariants.{Sole, To}
use Rattle.lock_structure.specs.Words.{word_at, route_by, route, ManagerIsBelow, submitted_words, left_words}

-- the parts of a word
pub interest-lock_word : (mask : ℕ) (who : Option SysId) (times : ℕ) → mask < 256
    → interest (lock_word mask who times) ≡ mask
unfolding lock_word
interest-lock_word mask who times small = omega arith

manager_number-numbered : (n : ℕ) → manager_number (manager_numbered n) ≡ n
manager_number-numbered zero = refl
manager_number-numbered (suc n) = refl

manager_numbered-number : (who : Option SysId) → manager_numbered (manager_number who) ≡ who
manager_numbered-number None = refl
manager_numbered-number (Some s) = refl

pub manager-lock_word : (mask : ℕ) (who : Option SysId) (times : ℕ) → mask < 256 → manager_number who < 16
    → manager (lock_word mask who times) ≡ who
unfolding manager lock_word
manager-lock_word mask who times small few =
    let number : (mask + 256 * manager_number who + 4096 * times) / 256 % 16 ≡ manager_number who = omega arith in
    rw number (manager_numbered-number who)

pub manager_number-lt : (w : ℕ) → manager_number (manager w) < 16
unfolding manager
manager_number-lt w = rw (manager_number-numbered (w / 256 % 16)) (omega arith)

pub epoch-lock_word : (mask : ℕ) (who : Option SysId) (times : ℕ) → mask < 256 → manager_number who < 16
    → epoch (lock_word mask who times) ≡ times
unfolding lock_word
epoch-lock_word mask who times small few = omega arith

-- a word is that of its parts
pub lock_word-parts : (w : ℕ) → lock_word (interest w) (manager w) (epoch w) ≡ w
unfolding manager lock_word
lock_word-parts w = rw (manager_number-numbered (w / 256 % 16)) (omega arith)

-- ---- a call leaves words whose managers are systems
below-lock_word : (systems mask : ℕ) (who : Option SysId) (times : ℕ) → systems ≤ 8 → mask < 256
    → manager_number who ≤ systems → ManagerIsBelow systems (lock_word mask who times)
below-lock_word systems mask who times few small below = rw (manager-lock_word mask who times small (omega arith)) below

below-submitted_to : (systems w : ℕ) (who : Option SysId) (c : SysId) → manager w ≡ who → systems ≤ 8 → c.0 < systems
    → ManagerIsBelow systems w → ManagerIsBelow systems (submitted_to w who c)
below-submitted_to systems w None c is few here below =
    below-lock_word systems (only c.0) (Some c) (epoch w) few (with_also-lt 0 c.0 (omega arith) (omega arith))
    (omega arith)
below-submitted_to systems w (Some s) c is few here below = by_self (s.0 == c.0)
  where
    by_self : (b : Bool) → ManagerIsBelow systems (cond b w (lock_word (with_also (interest w) c.0) (Some s) (epoch w)))
    by_self true = below
    by_self false =
        below-lock_word systems (with_also (interest w) c.0) (Some s) (epoch w) few
        (with_also-lt (interest w) c.0 (omega arith) (omega arith)) (rw is at below)

pub below-submitted : (systems w : ℕ) (c : SysId) → systems ≤ 8 → c.0 < systems → ManagerIsBelow systems w
    → ManagerIsBelow systems (submitted w c)
unfolding submitted
below-submitted systems w c few here below = below-submitted_to systems w (manager w) c refl few here below

pub below-left_word : (systems w : ℕ) (c : SysId) → systems ≤ 8 → ManagerIsBelow systems w
    → ManagerIsBelow systems (left_word w c)
unfolding left_word
below-left_word systems w c few below = by_change (leave_changes w c) (is_manager (manager w) c)
  where
    by_change : (b d : Bool)
        → ManagerIsBelow systems
        (cond b (cond d (lock_word 0 None (epoch w)) (lock_word (without (interest w) c.0) (manager w) (epoch w))) w)
    by_change false d = below
    by_change true true = below-lock_word systems 0 None (epoch w) few (omega arith) (omega arith)
    by_change true false =
        below-lock_word systems (without (interest w) c.0) (manager w) (epoch w) few
        (without-lt (interest w) c.0 (omega arith)) below

pub below-submitted_words : (systems : ℕ) (words : List ℕ) (entry : ℕ) (c : SysId) → systems ≤ 8 → c.0 < systems
    → entry < length words → All (ManagerIsBelow systems) words
    → All (ManagerIsBelow systems) (submitted_words words entry c)
below-submitted_words systems words entry c few here inside all =
    All-set (ManagerIsBelow systems) words entry (submitted (word_at words entry) c)
    (below-submitted systems (word_at words entry) c few here (all entry 0 inside)) all

pub below-left_words : (systems : ℕ) (words : List ℕ) (entry : ℕ) (c : SysId) → systems ≤ 8 → entry < length words
    → All (ManagerIsBelow systems) words → All (ManagerIsBelow systems) (left_words words entry c)
below-left_words systems words entry c few inside all =
    All-set (ManagerIsBelow systems) words entry (left_word (word_at words entry) c)
    (below-left_word systems (word_at words entry) c few (all entry 0 inside)) all

pub below-replicate : (systems entries : ℕ) → All (ManagerIsBelow systems) (replicate entries 0)
unfolding manager
below-replicate systems entries k d inside =
    let none : 0 ≤ systems = omega arith in
    subst (λ (w : ℕ). ManagerIsBelow systems w)
    (sym (get_or-replicate entries k 0 d (omega (arith, length-replicate {A = ℕ} entries 0)))) none

-- a request goes to one of the systems
pub route-below : (systems w : ℕ) (c s : SysId) → ManagerIsBelow systems w → route w c ≡ To s → s.0 < systems
unfolding route
route-below systems w c s below is = by_manager (manager w) below is
  where
    by_self : (t : SysId) (b : Bool) → manager_number (Some t) ≤ systems → cond b Sole (To t) ≡ To s → s.0 < systems
    by_self t true below is = absurd cc
    by_self t false below is =
        let same : t ≡ s = cc in let number : t.0 ≡ s.0 = ap (λ (x : SysId). x.0) same in omega arith

    by_manager : (o : Option SysId) → manager_number o ≤ systems → route_by o c ≡ To s → s.0 < systems
    by_manager None below is = absurd cc
    by_manager (Some t) below is = by_self t (t.0 == c.0) below is

-- ---- a word that is said to change changes
-- the first request makes its system the manager
pub submitted-unmanaged : (w : ℕ) (c : SysId) → manager w ≡ None → ¬ (submitted w c ≡ w)
unfolding manager submitted lock_word
submitted-unmanaged w c none same =
    let number : w / 256 % 16 ≡ 0 = sym (manager_number-numbered (w / 256 % 16)) ∙ ap manager_number none in
    let word : only c.0 + 256 * suc c.0 + 4096 * (w / 4096) ≡ w = rw none at same in
    absurd (omega arith)

-- who gives its interest up has none afterwards
has-interest-left : (mask : ℕ) (c : SysId) (who : Option SysId) (times : ℕ) → mask < 256 → has mask c.0 ≡ false
    → has (interest (lock_word mask who times)) c.0 ≡ false
has-interest-left mask c who times small gone = rw (interest-lock_word mask who times small) gone

pub left_word-changed : (w : ℕ) (c : SysId) → leave_changes w c ≡ true → ¬ (left_word w c ≡ w)
unfolding leave_changes left_word
left_word-changed w c changes same =
    let here : has (interest w) c.0 ≡ true = (and_parts (has (interest w) c.0) _ changes).0 in
    true≢false (sym here
    ∙ ap (λ (x : ℕ). has (interest x) c.0) (sym same)
    ∙ rw changes (by_manager (is_manager (manager w) c)))
  where
    by_manager : (b : Bool)
        → has (interest
        (cond b (lock_word 0 None (epoch w)) (lock_word (without (interest w) c.0) (manager w) (epoch w))))
        c.0
        ≡ false
    by_manager true = has-interest-left 0 c None (epoch w) (omega arith) (has-zero c.0)
    by_manager false =
        has-interest-left (without (interest w) c.0) c (manager w) (epoch w) (without-lt (interest w) c.0 (omega arith))
        (has-without_same (interest w) c.0)
