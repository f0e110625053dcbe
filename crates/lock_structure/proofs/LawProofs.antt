-- Laws of lock words, proved.
use Rattle.std.proofs.Common.{◌≡◌, ◌≢◌, ◌<◌, ℕ, Bool, true, false, cond, not, ◌&&◌, ◌||◌, List, length, Option, Some}
use Rattle.std.proofs.Common.{None, refl, ap, sym, ◌∙◌, subst, arith}
use Rattle.std.specs.Prelude.{◌==◌, unwrap_or, slice_set}
use Rattle.std.proofs.lemmas.Bool.{and_parts, eqb-true, eqb-false, eq-eqb, true≢false}
use Rattle.std.proofs.lemmas.Bool.Decides.{nat_tests}
use Rattle.std.proofs.lemmas.List.{get_or-set_same, get_or-set_other, set-get_or}
use Rattle.std.proofs.lemmas.List.Elements.{All-set, All-replicate}
use Rattle.grs_base.specs.declared.resource.SysId.{SysId}
use Rattle.grs_wire.proofs.MaskLaws.{has-zero, has-with_same, has-with_other, has-without_same, has-without_other}
use Rattle.grs_wire.proofs.MaskLaws.{without-absent, with-present, with_also-lt, without-lt}
use Rattle.grs_wire.specs.LockWords.{interest, manager, epoch, manager_number, lock_word, is_manager, submitted_to}
use Rattle.grs_wire.specs.LockWords.{submitted, is_kept, leave_reply, leave_changes, left_word}
use Rattle.grs_wire.specs.Masks.{has, without, with_also, only}
use Rattle.grs_wire.specs.declared.medium.Reply.TheVariants.{Left, Kept}
use Rattle.lock_structure.specs.Words.{word_at}
use Rattle.lock_structure.specs.Laws.{ManagedBy, IsManaged, SubmitAddsCaller, SubmitKeepsManager, LeaveTakesCaller}
use Rattle.lock_structure.specs.Laws.{LeaveKeepsManager, KeptStays, ManagerIsKept, EmptyIsManaged, SubmitKeepsManaged}
use Rattle.lock_structure.specs.Laws.{LeaveKeepsManaged, is_interested, manager_at, WordsBegin, SubmitKeepsAllManaged}
use Rattle.lock_structure.specs.Laws.{LeaveKeepsAllManaged, SubmitJoins, SubmitManages, LeaveParts, LeaveManages}
use Rattle.lock_structure.specs.Laws.{KeptChangesNothing}
use Rattle.lock_structure.proofs.WordLaws.{interest-lock_word, manager-lock_word, manager_number-lt}

-- who manages a word has a number for which a word has room
number-of : (w : ℕ) (who : Option SysId) → manager w ≡ who → manager_number who < 16
number-of w who is = subst (λ (o : Option SysId). manager_number o < 16) is (manager_number-lt w)

same-number : (s c : SysId) → (s.0 == c.0) ≡ true → s ≡ c
same-number s c b = grind (arith, nat_tests, b)

other-number : (s c : SysId) → (s.0 == c.0) ≡ false → s.0 ≢ c.0
other-number s c b is = grind (arith, nat_tests, b, is)

-- ---- who has interest after a request
adds-to : (w : ℕ) (who : Option SysId) (c : SysId) → c.0 < 8 → ManagedBy who (interest w)
    → interest (submitted_to w who c) ≡ with_also (interest w) c.0
adds-to w None c few h =
    interest-lock_word (only c.0) (Some c) (epoch w) (with_also-lt 0 c.0 (omega arith) few)
    ∙ sym (ap (λ (m : ℕ). with_also m c.0) h)
adds-to w (Some s) c few h = go (s.0 == c.0) refl
  where
    go : (b : Bool) → (s.0 == c.0) ≡ b
        → interest (cond b w (lock_word (with_also (interest w) c.0) (Some s) (epoch w))) ≡ with_also (interest w) c.0
    go true is =
        sym (with-present (interest w) c.0 (subst (λ (x : SysId). has (interest w) x.0 ≡ true) (same-number s c is) h))
    go false is =
        interest-lock_word (with_also (interest w) c.0) (Some s) (epoch w)
        (with_also-lt (interest w) c.0 (omega arith) few)

pub submit_adds_caller : SubmitAddsCaller
unfolding submitted
submit_adds_caller w c few h = adds-to w (manager w) c few h

-- ---- who manages after a request
manages-to : (w : ℕ) (who : Option SysId) (c : SysId) → manager w ≡ who → c.0 < 8
    → manager (submitted_to w who c) ≡ Some (unwrap_or who c)
manages-to w None c at few =
    manager-lock_word (only c.0) (Some c) (epoch w) (with_also-lt 0 c.0 (omega arith) few) (omega arith)
manages-to w (Some s) c at few = go (s.0 == c.0)
  where
    go : (b : Bool) → manager (cond b w (lock_word (with_also (interest w) c.0) (Some s) (epoch w))) ≡ Some s
    go true = at
    go false =
        manager-lock_word (with_also (interest w) c.0) (Some s) (epoch w)
        (with_also-lt (interest w) c.0 (omega arith) few) (number-of w (Some s) at)

pub submit_keeps_manager : SubmitKeepsManager
unfolding submitted
submit_keeps_manager w c few = manages-to w (manager w) c refl few

-- ---- a manager exactly where somebody has interest
pub managed-word : (mask : ℕ) (who : Option SysId) (times : ℕ) → mask < 256 → manager_number who < 16 → ManagedBy who mask
    → IsManaged (lock_word mask who times)
managed-word mask who times small few h =
    subst (λ (o : Option SysId). ManagedBy o (interest (lock_word mask who times)))
    (sym (manager-lock_word mask who times small few))
    (subst (λ (m : ℕ). ManagedBy who m) (sym (interest-lock_word mask who times small)) h)

keeps-to : (w : ℕ) (who : Option SysId) (c : SysId) → manager w ≡ who → c.0 < 8 → IsManaged w
    → ManagedBy who (interest w) → IsManaged (submitted_to w who c)
keeps-to w None c at few all h =
    managed-word (only c.0) (Some c) (epoch w) (with_also-lt 0 c.0 (omega arith) few) (omega arith)
    (has-with_same 0 c.0)
keeps-to w (Some s) c at few all h = go (s.0 == c.0) refl
  where
    go : (b : Bool) → (s.0 == c.0) ≡ b
        → IsManaged (cond b w (lock_word (with_also (interest w) c.0) (Some s) (epoch w)))
    go true is = all
    go false is =
        managed-word (with_also (interest w) c.0) (Some s) (epoch w) (with_also-lt (interest w) c.0 (omega arith) few)
        (number-of w (Some s) at)
        (has-with_other (interest w) c.0 s.0 (other-number s c is) ∙ h)

pub empty_is_managed : EmptyIsManaged
unfolding manager
empty_is_managed = refl

pub submit_keeps_managed : SubmitKeepsManaged
unfolding submitted
submit_keeps_managed w c few h = keeps-to w (manager w) c refl few h h

pub without-managed : (mask : ℕ) (who : Option SysId) (c : SysId) → is_manager who c ≡ false → ManagedBy who mask
    → ManagedBy who (without mask c.0)
without-managed mask None c apart h = ap (λ (m : ℕ). without m c.0) h ∙ without-absent 0 c.0 (has-zero c.0)
without-managed mask (Some s) c apart h = has-without_other mask c.0 s.0 (other-number s c apart) ∙ h

pub leave_keeps_managed : LeaveKeepsManaged
unfolding left_word
leave_keeps_managed w c h = go (leave_changes w c) (is_manager (manager w) c) refl
  where
    go : (b d : Bool) → is_manager (manager w) c ≡ d
        → IsManaged (cond b
        (cond d (lock_word 0 None (epoch w)) (lock_word (without (interest w) c.0) (manager w) (epoch w))) w)
    go false d is = h
    go true true is = managed-word 0 None (epoch w) (omega arith) (omega arith) refl
    go true false is =
        managed-word (without (interest w) c.0) (manager w) (epoch w) (without-lt (interest w) c.0 (omega arith))
        (manager_number-lt w) (without-managed (interest w) (manager w) c is h)

-- ---- who gives its interest up
not-kept : (b : Bool) (mask : ℕ) → cond b (Kept mask) Left ≡ Left → b ≡ false
not-kept true mask h = absurd cc
not-kept false mask h = refl

is-kept : (b : Bool) (given mask : ℕ) → cond b (Kept given) Left ≡ Kept mask → b ≡ true
is-kept true given mask h = refl
is-kept false given mask h = absurd cc

-- whoever else has interest keeps it
and-all : (b : Bool) → b ≡ (b && true)
and-all true = refl
and-all false = refl

and-none : (b : Bool) → false ≡ (b && false)
and-none true = refl
and-none false = refl

pub has-without : (mask k s : ℕ) → has (without mask k) s ≡ (has mask s && not (s == k))
has-without mask k s = go (s == k) refl
  where
    go : (b : Bool) → (s == k) ≡ b → has (without mask k) s ≡ (has mask s && not b)
    go true is = ap (has (without mask k)) (eqb-true s k is) ∙ has-without_same mask k ∙ and-none (has mask s)
    go false is = has-without_other mask k s (eqb-false s k is) ∙ and-all (has mask s)

-- who has no interest changes no word by giving it up; who manages and is alone leaves nobody
has-left : (w : ℕ) (c : SysId) (s : ℕ) (h m a : Bool) → has (interest w) c.0 ≡ h → is_manager (manager w) c ≡ m
    → (interest w == only c.0) ≡ a → (h && m && not a) ≡ false
    → has (interest (cond (h && not (h && m && not a))
    (cond m (lock_word 0 None (epoch w)) (lock_word (without (interest w) c.0) (manager w) (epoch w))) w))
    s
    ≡ has (without (interest w) c.0) s
has-left w c s false m a here is alone gone = ap (λ (mask : ℕ). has mask s) (sym (without-absent (interest w) c.0 here))
has-left w c s true false a here is alone gone =
    ap (λ (mask : ℕ). has mask s)
    (interest-lock_word (without (interest w) c.0) (manager w) (epoch w) (without-lt (interest w) c.0 (omega arith)))
has-left w c s true true false here is alone gone = absurd cc
has-left w c s true true true here is alone gone =
    let nobody : interest (lock_word 0 None (epoch w)) ≡ 0 = interest-lock_word 0 None (epoch w) (omega arith) in
    let mask : interest w ≡ only c.0 = eqb-true (interest w) (only c.0) alone in
    ap (λ (x : ℕ). has x s) nobody
    ∙ has-zero s
    ∙ sym (ap (λ (x : ℕ). has (without x c.0) s) mask ∙ has-without (only c.0) c.0 s ∙ only-one (s == c.0) refl)
  where
    only-one : (b : Bool) → (s == c.0) ≡ b → (has (only c.0) s && not b) ≡ false
    only-one true same = sym (and-none (has (only c.0) s))
    only-one false other = ap (λ (d : Bool). d && true) (has-with_other 0 c.0 s (eqb-false s c.0 other) ∙ has-zero s)

pub leave_takes_caller : LeaveTakesCaller
unfolding leave_reply leave_changes left_word
leave_takes_caller w c gone s =
    has-left w c s (has (interest w) c.0) (is_manager (manager w) c) (interest w == only c.0) refl refl refl
    (not-kept (is_kept w c) (interest w) gone)
    ∙ has-without (interest w) c.0 s

-- a manager has interest
manager-has : (w : ℕ) (who : Option SysId) (c : SysId) → ManagedBy who (interest w) → is_manager who c ≡ true
    → has (interest w) c.0 ≡ true
manager-has w None c h is = absurd cc
manager-has w (Some s) c h is = subst (λ (x : SysId). has (interest w) x.0 ≡ true) (same-number s c is) h

pub leave_keeps_manager : LeaveKeepsManager
unfolding leave_reply leave_changes left_word
leave_keeps_manager w c h gone =
    go (has (interest w) c.0) (is_manager (manager w) c) (is_kept w c) refl refl
    (not-kept (is_kept w c) (interest w) gone)
  where
    go : (b m k : Bool) → has (interest w) c.0 ≡ b → is_manager (manager w) c ≡ m → k ≡ false
        → manager (cond (b && not k)
        (cond m (lock_word 0 None (epoch w)) (lock_word (without (interest w) c.0) (manager w) (epoch w))) w)
        ≡ cond m None (manager w)
    go b m true here is k = absurd cc
    go true true false here is k = manager-lock_word 0 None (epoch w) (omega arith) (omega arith)
    go true false false here is k =
        manager-lock_word (without (interest w) c.0) (manager w) (epoch w) (without-lt (interest w) c.0 (omega arith))
        (manager_number-lt w)
    go false false false here is k = refl
    go false true false here is k = absurd (true≢false (sym (manager-has w (manager w) c h is) ∙ here))

-- ---- who is kept
managed_by : (who : Option SysId) (c : SysId) → is_manager who c ≡ true → who ≡ Some c
managed_by None c is = absurd cc
managed_by (Some s) c is = ap Some (same-number s c is)

stays : (w : ℕ) (c : SysId) → is_kept w c ≡ true → left_word w c ≡ w
unfolding leave_changes left_word
stays w c kept = go (has (interest w) c.0) (is_kept w c) kept
  where
    go : (b k : Bool) → k ≡ true
        → cond (b && not k) (cond (is_manager (manager w) c) (lock_word 0 None (epoch w))
        (lock_word (without (interest w) c.0) (manager w) (epoch w)))
        w
        ≡ w
    go b false is = absurd cc
    go false true is = refl
    go true true is = refl

pub kept_stays : KeptStays
unfolding leave_reply
kept_stays w c mask given =
    let kept : is_kept w c ≡ true = is-kept (is_kept w c) (interest w) mask given in
    let parts = and_parts (has (interest w) c.0 && is_manager (manager w) c) (not (interest w == only c.0)) kept in
    (managed_by (manager w) c (and_parts (has (interest w) c.0) (is_manager (manager w) c) parts.0).1, stays w c kept)

pub manager_is_kept : ManagerIsKept
unfolding leave_reply
manager_is_kept w c s h at other more =
    let is : is_manager (manager w) c ≡ true = ap (λ (o : Option SysId). is_manager o c) at ∙ eq-eqb c.0 c.0 refl in
    go (has (interest w) c.0) (is_manager (manager w) c) (interest w == only c.0) (manager-has w (manager w) c h is) is
    refl
  where
    go : (b m a : Bool) → b ≡ true → m ≡ true → (interest w == only c.0) ≡ a
        → cond (b && m && not a) (Kept (interest w)) Left ≡ Kept (interest w)
    go false m a here is alone = absurd cc
    go true false a here is alone = absurd cc
    go true true false here is alone = refl
    go true true true here is alone =
        let mask : interest w ≡ only c.0 = eqb-true (interest w) (only c.0) alone in
        absurd (true≢false (sym more ∙ ap (λ (x : ℕ). has x s) mask ∙ has-with_other 0 c.0 s other ∙ has-zero s))

-- ---- the words of all entries
pub words_begin : WordsBegin
words_begin entries = All-replicate IsManaged entries 0 empty_is_managed

pub submit_keeps_all_managed : SubmitKeepsAllManaged
submit_keeps_all_managed words entry c inside few all =
    All-set IsManaged words entry (submitted (word_at words entry) c)
    (submit_keeps_managed (word_at words entry) c few (all entry 0 inside)) all

pub leave_keeps_all_managed : LeaveKeepsAllManaged
leave_keeps_all_managed words entry c inside all =
    All-set IsManaged words entry (left_word (word_at words entry) c)
    (leave_keeps_managed (word_at words entry) c (all entry 0 inside)) all

-- the word of one entry, and the words of the others
word-set : (words : List ℕ) (entry w e : ℕ) → entry < length words
    → word_at (slice_set words entry w) e ≡ cond (e == entry) w (word_at words e)
word-set words entry w e inside = go (e == entry) refl
  where
    go : (b : Bool) → (e == entry) ≡ b → word_at (slice_set words entry w) e ≡ cond b w (word_at words e)
    go true is = ap (word_at (slice_set words entry w)) (eqb-true e entry is) ∙ get_or-set_same words entry w 0 inside
    go false is = get_or-set_other words entry e w 0 (eqb-false e entry is)

or-none : (b : Bool) → b ≡ (b || false)
or-none true = refl
or-none false = refl

or-any : (b : Bool) → true ≡ (b || true)
or-any true = refl
or-any false = refl

has-with : (mask k s : ℕ) → has (with_also mask k) s ≡ (has mask s || (s == k))
has-with mask k s = go (s == k) refl
  where
    go : (b : Bool) → (s == k) ≡ b → has (with_also mask k) s ≡ (has mask s || b)
    go true is = ap (has (with_also mask k)) (eqb-true s k is) ∙ has-with_same mask k ∙ or-any (has mask s)
    go false is = has-with_other mask k s (eqb-false s k is) ∙ or-none (has mask s)

pub submit_joins : SubmitJoins
submit_joins words entry c inside few all e s =
    ap (λ (w : ℕ). has (interest w) s) (word-set words entry (submitted (word_at words entry) c) e inside)
    ∙ go (e == entry) refl
  where
    go : (b : Bool) → (e == entry) ≡ b
        → has (interest (cond b (submitted (word_at words entry) c) (word_at words e))) s
        ≡ (is_interested words e s || (b && (s == c.0)))
    go true is =
        ap (λ (mask : ℕ). has mask s) (submit_adds_caller (word_at words entry) c few (all entry 0 inside))
        ∙ has-with (interest (word_at words entry)) c.0 s
        ∙ ap (λ (i : ℕ). is_interested words i s || (s == c.0)) (sym (eqb-true e entry is))
    go false is = or-none (is_interested words e s)

pub submit_manages : SubmitManages
submit_manages words entry c inside few e =
    ap manager (word-set words entry (submitted (word_at words entry) c) e inside) ∙ go (e == entry)
  where
    go : (b : Bool)
        → manager (cond b (submitted (word_at words entry) c) (word_at words e))
        ≡ cond b (Some (unwrap_or (manager_at words entry) c)) (manager_at words e)
    go true = submit_keeps_manager (word_at words entry) c few
    go false = refl

pub leave_parts : LeaveParts
leave_parts words entry c inside gone e s =
    ap (λ (w : ℕ). has (interest w) s) (word-set words entry (left_word (word_at words entry) c) e inside)
    ∙ go (e == entry) refl
  where
    go : (b : Bool) → (e == entry) ≡ b
        → has (interest (cond b (left_word (word_at words entry) c) (word_at words e))) s
        ≡ (is_interested words e s && not (b && (s == c.0)))
    go true is =
        leave_takes_caller (word_at words entry) c gone s
        ∙ ap (λ (i : ℕ). is_interested words i s && not (s == c.0)) (sym (eqb-true e entry is))
    go false is = and-all (is_interested words e s)

pub leave_manages : LeaveManages
leave_manages words entry c inside all gone e =
    ap manager (word-set words entry (left_word (word_at words entry) c) e inside) ∙ go (e == entry) refl
  where
    go : (b : Bool) → (e == entry) ≡ b
        → manager (cond b (left_word (word_at words entry) c) (word_at words e))
        ≡ cond (b && is_manager (manager_at words e) c) None (manager_at words e)
    go true is =
        leave_keeps_manager (word_at words entry) c (all entry 0 inside) gone
        ∙ ap (λ (i : ℕ). cond (is_manager (manager_at words i) c) None (manager_at words i)) (sym (eqb-true e entry is))
    go false is = refl

pub kept_changes_nothing : KeptChangesNothing
kept_changes_nothing words entry c mask given =
    ap (slice_set words entry) (kept_stays (word_at words entry) c mask given).1 ∙ set-get_or words entry 0
