-- A call that is said to change the medium changes it.
use Rattle.std.proofs.Common.{◌≡◌, ℕ, ◌+◌, ◌<◌, ◌≤◌, Bool, true, false, cond, not, ◌&&◌, ◌||◌, List, [], ◌∷◌, ◌++◌}
use Rattle.std.proofs.Common.{length, drop, refl, ap, sym, ◌∙◌, subst, arith}
use Rattle.std.specs.Prelude.{Option, Some, None, is_none, map, filter, find, ◌==◌, nat_lt, slice_set}
use Rattle.std.specs.List.{list_any}
use Rattle.std.proofs.lemmas.Bool.{and_parts, true≢false, eqb-true}
use Rattle.std.proofs.lemmas.List.{append-nil, get_or-set_same, get_or_past, length-drop, length_push}
use native.Mathlib.Decide.{dec_lt}
use Rattle.grs_base.specs.declared.resource.SysId.{SysId}
use Rattle.grs_wire.specs.declared.request.Req.{Req}
use Rattle.grs_wire.specs.declared.medium.Act.{Act}
use Rattle.grs_wire.specs.declared.medium.Act.TheVariants.{Turn, Switch, Submit, Take, Settle, Tell, Leave, Purge, Rest}
use Rattle.grs_wire.specs.declared.medium.Mail.{Mail}
use Rattle.grs_wire.specs.declared.medium.RingEntry.{RingEntry}
use Rattle.grs_wire.specs.declared.medium.Reply.{Reply}
use Rattle.grs_wire.specs.declared.medium.Reply.TheVariants.{Already}
use Rattle.grs_wire.specs.LockWords.{manager, manager_number, is_manager, submitted, leave_changes, left_word}
use Rattle.grs_wire.specs.Masks.{has, only, without}
use Rattle.grs_wire.proofs.MaskLaws.{has-without_same, has-with_same}
use Rattle.lock_structure.specs.Words.{word_at, route_by, route, submitted_words, left_words}
use Rattle.lock_structure.proofs.WordLaws.{submitted-unmanaged, left_word-changed}
use Rattle.rsa_message.specs.Message.{Message, stands_at, after, or_else, first_after, first_number, any_unseen}
use Rattle.rsa_message.specs.Message.{left_by}
use Rattle.rsa_message.specs.Message.{cleared, stamped, is_due, moves, turned_open, turned_closed, turned, turn_changes}
use Rattle.grs_wire.specs.Unseen.{is_unseen, unseen}
use Rattle.grs_medium.specs.Apply.{turn_row, switch_ring, switch_row, joined, submit_on, submit_row, take_from}
use Rattle.grs_medium.specs.Apply.{take_row, mail_row, leave_row, purge_row, rest_row, row, row_changes, apply, changes}
use Rattle.grs_medium.specs.Apply.{is_noticed, manages, is_live, without_system, without_in_star, without_target}
use Rattle.grs_medium.specs.Inboxes.{inbox_of, is_empty, with_mail, without_first}
use Rattle.grs_medium.specs.Medium.{MediumState, systems_of, awake, inbox, live, word}
use Rattle.grs_medium.specs.Changes.{ChangesWhatItSays, NamesWhatIsThere}

-- a call that isn't refused by the checks is its row
behind_checks : {M : Type 0} (b k r : Bool) (m : M) (x : Reply × M) (y z : Reply) → (r ≡ true → ¬ (x.1 ≡ m))
    → (not b && k && r) ≡ true → ¬ ((cond b (y, m) (cond k x (z, m))).1 ≡ m)
behind_checks true k r m x y z moves h = absurd cc
behind_checks false true r m x y z moves h = moves h
behind_checks false false r m x y z moves h = absurd cc

is_false : (b : Bool) → not b ≡ true → b ≡ false
is_false true e = absurd cc
is_false false e = refl

-- a test tells two values apart
apart_by : {A : Type 0} (test : A → Bool) (x y : A) → test x ≡ true → test y ≡ false → ¬ (x ≡ y)
apart_by test x y holds fails e =
    let same : test x ≡ test y = ap test e in let clash : true ≡ false = sym holds ∙ same ∙ fails in true≢false clash

-- nothing is unseen by s once s has left all masks
pub unseen-cleared : (s : SysId) (es : List RingEntry) → any_unseen s (cleared s es) ≡ false
unfolding cleared any_unseen
unseen-cleared s [] = refl
unseen-cleared s (e ∷ es) = by_mask (e.mask == only s.0) (unseen-cleared s es)
  where
    by_mask : (b : Bool) → list_any (is_unseen s) (map (left_by s) (filter (λ x. not (x.mask == only s.0)) es)) ≡ false
        → list_any (is_unseen s) (map (left_by s)
        (cond (not b) (e ∷ filter (λ x. not (x.mask == only s.0)) es) (filter (λ x. not (x.mask == only s.0)) es)))
        ≡ false
    by_mask true none = none
    by_mask false none = rw (has-without_same e.mask s.0) none

-- a Turn at the open message that is said to move something
open_moves : (m : Message) (c : SysId) (out : List Req) (lives rest : ℕ) → stands_at m.holder c ≡ true
    → (moves m c (length out)
    || not (stands_at (Some (or_else (first_after m.systems c (is_due m.entries lives rest)) c)) c))
    ≡ true
    → ¬ (turned_open m c out lives rest ≡ m)
unfolding stamped
open_moves m c (r ∷ rs) lives rest here h e =
    let same : m.next + length (r ∷ rs) ≡ m.next = ap (λ (x : Message). x.next) e in absurd (omega arith)
open_moves m c [] lives rest here h e = by_unseen (any_unseen c m.entries) refl
  where
    entries : cleared c m.entries ≡ m.entries
    entries = sym (append-nil (cleared c m.entries)) ∙ ap (λ (x : Message). x.entries) e

    by_unseen : (b : Bool) → any_unseen c m.entries ≡ b → ⊥
    by_unseen true u =
        apart_by (any_unseen c) m.entries (cleared c m.entries) u (unseen-cleared c m.entries) (sym entries)
    by_unseen false u =
        let asked : not (stands_at (Some (or_else (first_after m.systems c (is_due m.entries lives rest)) c)) c)
        ≡ true =
        rw u at h in
        let moved = rw u at (ap (λ (x : Message). x.holder) e) in
        let holder : Some (or_else (first_after m.systems c (is_due m.entries lives rest)) c) ≡ m.holder =
        subst (λ (es : List RingEntry). Some (or_else (first_after m.systems c (is_due es lives rest)) c) ≡ m.holder)
        (append-nil (cleared c m.entries) ∙ entries) moved in
        apart_by (λ (x : Option SysId). stands_at x c) m.holder _ here (is_false _ asked) (sym holder)

-- a system that fails a test isn't found by it
elsewhere-find : (test : SysId → Bool) (c : SysId) → test c ≡ false → (ss : List SysId)
    → stands_at (find test ss) c ≡ false
elsewhere-find test c fails [] = refl
elsewhere-find test c fails (s ∷ ss) = by_test (test s) refl (elsewhere-find test c fails ss)
  where
    by_test : (b : Bool) → test s ≡ b → stands_at (find test ss) c ≡ false
        → stands_at (cond b (Some s) (find test ss)) c ≡ false
    by_test false fails_too none = none
    by_test true passes none = by_number (s.0 == c.0) refl
      where
        by_number : (b : Bool) → (s.0 == c.0) ≡ b → b ≡ false
        by_number false other = refl
        by_number true same =
            let number : s.0 ≡ c.0 = eqb-true s.0 c.0 same in
            let test_of : test c ≡ true = subst (λ (n : ℕ). test (record { 0 = n }) ≡ true) number passes in
            absurd (true≢false (sym test_of ∙ fails))

-- A closed message goes on from where a Turn was made: to one that has yet to change, which the caller no longer has.
closed_moves : (m : Message) (c : SysId) → stands_at m.holder c ≡ true → ¬ (turned_closed m c ≡ m)
unfolding first_after
closed_moves m c here e =
    apart_by (λ (x : Message). stands_at x.holder c) m (turned_closed m c) here
    (elsewhere-find (λ s. has (without m.still c.0) s.0) c (has-without_same m.still c.0) (after m.systems c)) (sym e)

turned_moves : (m : Message) (c : SysId) (out : List Req) (lives rest : ℕ)
    → turn_changes m c (length out) lives rest ≡ true → ¬ (turned m c out lives rest ≡ m)
unfolding turned turn_changes
turned_moves m c out lives rest h =
    let parts = and_parts (stands_at m.holder c) _ h in
    rw parts.0 (by_closed m.closed refl parts.0 parts.1)
  where
    by_closed : (b : Bool) → m.closed ≡ b → stands_at m.holder c ≡ true
        → (m.closed || moves m c (length out)
        || not (stands_at (Some (or_else (first_after m.systems c (is_due m.entries lives rest)) c)) c))
        ≡ true
        → ¬ (cond b (turned_closed m c) (turned_open m c out lives rest) ≡ m)
    by_closed true closed here g = closed_moves m c here
    by_closed false closed here g = open_moves m c out lives rest here (rw closed at g)

purge_moves : {M : Type 0} (l : Bool) (m : M) (x : Reply × M) (z : Reply) → l ≡ true → ¬ (x.1 ≡ m)
    → ¬ ((cond l x (z, m)).1 ≡ m)
purge_moves true m x z h moves = moves
purge_moves false m x z h moves = absurd cc

-- who is removed is among the removed
target_gone : (m : MediumState) (c t : SysId) → has (without_target m c t).removed t.0 ≡ true
target_gone m c t = go m.star
  where
    go : (b : Bool) → has (cond b (without_in_star m t) (without_system m c t)).removed t.0 ≡ true
    go true = has-with_same m.removed t.0
    go false = has-with_same m.removed t.0

-- a call that no notice forestalls changes what its row does
heard_moves : {M : Type 0} (b r : Bool) (m : M) (x : Reply × M) (y : Reply) → (r ≡ true → ¬ (x.1 ≡ m))
    → (not b && r) ≡ true → ¬ ((cond b (y, m) x).1 ≡ m)
heard_moves true r m x y moves h = absurd cc
heard_moves false r m x y moves h = moves h

-- a Switch that changes the mode
switch_moves : (m : MediumState) (c : SysId) (words : List ℕ) (star : Bool) → m.star ≡ star → (o : Option ℕ)
    → (not star && is_none o) ≡ true → ¬ ((cond star (Already, m) (switch_ring m c words o)).1 ≡ m)
switch_moves m c words true is o h = absurd cc
switch_moves m c words false is (Some n) h = absurd cc
switch_moves m c words false is None h = λ e. apart_by (λ (x : MediumState). x.star) _ m refl is e

-- a word in place of another
word_moves : (words : List ℕ) (entry w : ℕ) → entry < length words → ¬ (w ≡ word_at words entry)
    → ¬ (slice_set words entry w ≡ words)
word_moves words entry w inside other e =
    other (sym (get_or-set_same words entry w 0 inside) ∙ ap (λ (x : List ℕ). word_at x entry) e)

-- a mail more, and a mail less
mail_moves : (boxes : List (List Mail)) (s : ℕ) (mail : Mail) → s < length boxes → ¬ (with_mail boxes s mail ≡ boxes)
mail_moves boxes s mail inside e =
    let got : inbox_of boxes s ++ mail ∷ [] ≡ inbox_of boxes s =
    sym (get_or-set_same boxes s (inbox_of boxes s ++ mail ∷ []) [] inside)
    ∙ ap (λ (x : List (List Mail)). inbox_of x s) e in
    let same : length (inbox_of boxes s ++ mail ∷ []) ≡ length (inbox_of boxes s) = ap length got in
    absurd (omega (arith, length_push (inbox_of boxes s) mail))

taking_moves : (boxes : List (List Mail)) (s : ℕ) → 0 < length (inbox_of boxes s) → ¬ (without_first boxes s ≡ boxes)
taking_moves boxes s filled e = by_place (dec_lt s (length boxes))
  where
    by_place : Dec (s < length boxes) → ⊥
    by_place (yes inside) =
        let got : drop 1 (inbox_of boxes s) ≡ inbox_of boxes s =
        sym (get_or-set_same boxes s (drop 1 (inbox_of boxes s)) [] inside)
        ∙ ap (λ (x : List (List Mail)). inbox_of x s) e in
        let same : length (drop 1 (inbox_of boxes s)) ≡ length (inbox_of boxes s) = ap length got in
        absurd (omega (arith, length-drop 1 (inbox_of boxes s)))
    by_place (no outside) =
        let none : length (inbox_of boxes s) ≡ 0 = ap length (get_or_past boxes s [] (omega arith)) in
        absurd (omega arith)

-- a Submit of another than the manager
unless : {M : Type 0} (b : Bool) (m x : M) → b ≡ false → cond b m x ≡ x
unless true m x e = absurd cc
unless false m x e = refl

submit_moves : (m : MediumState) (c : SysId) (entry : ℕ) (req : Req) (o : Option SysId) → manager (word m entry) ≡ o
    → entry < length m.words → manager_number o ≤ length m.inboxes → not (is_manager o c) ≡ true
    → joined m c entry ≡ record m { words = submitted_words m.words entry c; rest = awake m c }
    → ¬ ((submit_on m c entry req (route_by o c)).1 ≡ m)
submit_moves m c entry req None is inside there h joins =
    λ e.
    word_moves m.words entry (submitted (word m entry) c) inside (submitted-unmanaged (word m entry) c is)
    (ap (λ (x : MediumState). x.words) (sym joins ∙ e))
submit_moves m c entry req (Some s) is inside there h joins =
    rw (is_false (s.0 == c.0) h) (λ e. mail_moves m.inboxes s.0 _ (omega arith) (ap (λ (x : MediumState). x.inboxes) e))

take_moves : (m : MediumState) (c : SysId) (mails : List Mail) → inbox m c.0 ≡ mails → not (is_empty mails) ≡ true
    → ¬ ((take_from m c mails).1 ≡ m)
take_moves m c [] is h = absurd cc
take_moves m c (mail ∷ rest) is h = λ e. let filled : length (inbox m c.0) ≡ length (mail ∷ rest) = ap length is in
    taking_moves m.inboxes c.0 (omega arith) (ap (λ (x : MediumState). x.inboxes) e)

leave_moves : (m : MediumState) (c : SysId) (entry : ℕ) → entry < length m.words → leave_changes (word m entry) c ≡ true
    → ¬ (cond (leave_changes (word m entry) c) (record m { words = left_words m.words entry c; rest = awake m c }) m
    ≡ m)
leave_moves m c entry inside h =
    rw h (λ e.
    word_moves m.words entry (left_word (word m entry) c) inside (left_word-changed (word m entry) c h)
    (ap (λ (x : MediumState). x.words) e))

row_moves : (m : MediumState) (c : SysId) (act : Act) → NamesWhatIsThere m act → row_changes m c act ≡ true
    → ¬ ((row m c act).1 ≡ m)
unfolding row row_changes turn_row switch_row submit_row route take_row mail_row leave_row purge_row rest_row
row_moves m c (Turn out) there
    h = λ e. turned_moves m.message c out (live m) m.rest h (ap (λ (x : MediumState). x.message) e)
row_moves m c (Purge t) there h =
    let present = and_parts (nat_lt t.0 (systems_of m)) (not (has m.removed t.0)) h in
    purge_moves (is_live m t) m _ _ h (λ e.
    apart_by (λ (x : MediumState). has x.removed t.0) (without_target m c t) m (target_gone m c t)
    (is_false (has m.removed t.0) present.1) e)
row_moves m c Rest there h = λ e.
    apart_by (λ (x : MediumState). has x.rest c.0) _ m (has-with_same m.rest c.0) (is_false (has m.rest c.0) h) e
row_moves m c (Switch words) there h =
    switch_moves m c words m.star refl (first_number (unseen c m.message.entries)) h
row_moves m c (Submit entry req) there h =
    heard_moves (is_noticed m c entry) (not (manages m c entry)) m _ _
    (λ other.
    submit_moves m c entry req (manager (word m entry)) refl there.0 there.1 other (unless _ m _ (is_false _ other)))
    h
row_moves m c Take there h = take_moves m c (inbox m c.0) refl h
row_moves m c (Settle to mail) there
    h = λ e. mail_moves m.inboxes to.0 mail there (ap (λ (x : MediumState). x.inboxes) e)
row_moves m c (Tell to mail) there
    h = λ e. mail_moves m.inboxes to.0 mail there (ap (λ (x : MediumState). x.inboxes) e)
row_moves m c (Leave entry) there h =
    heard_moves (is_noticed m c entry) (leave_changes (word m entry) c) m _ _
    (λ leaves. leave_moves m c entry there leaves)
    h

pub changes_what_it_says : ChangesWhatItSays
unfolding apply changes
changes_what_it_says m c call there h =
    behind_checks (has m.removed c.0) (call.known == m.removed) (row_changes m c call.act) m (row m c call.act) _ _
    (row_moves m c call.act there) h
