-- A call that isn't said to change the medium leaves it as it was.
use Rattle.std.proofs.Common.{◌≡◌, ℕ, ◌+◌, Bool, true, false, cond, not, ◌&&◌, ◌||◌, List, [], ◌∷◌, ◌++◌, length, refl}
use Rattle.std.proofs.Common.{ap, sym, ◌∙◌, subst, eqb, arith, add-zero}
use Rattle.std.specs.Prelude.{Option, Some, None, is_none, map, filter, ◌==◌}
use Rattle.std.specs.List.{list_any}
use Rattle.std.proofs.lemmas.Bool.{eqb-true}
use Rattle.std.proofs.lemmas.List.{append-nil}
use Rattle.grs_base.specs.declared.resource.SysId.{SysId}
use Rattle.grs_wire.specs.declared.request.Req.{Req}
use Rattle.grs_wire.specs.declared.medium.Act.{Act}
use Rattle.grs_wire.specs.declared.medium.Act.TheVariants.{Turn, Switch, Submit, Take, Settle, Tell, Leave, Purge, Rest}
use Rattle.grs_wire.specs.declared.medium.Mail.{Mail}
use Rattle.grs_wire.specs.declared.medium.RingEntry.{RingEntry}
use Rattle.grs_wire.specs.declared.medium.Reply.{Reply}
use Rattle.grs_wire.specs.declared.medium.Reply.TheVariants.{Already}
use Rattle.grs_wire.specs.LockWords.{manager, is_manager, leave_changes}
use Rattle.grs_wire.specs.Masks.{has, without, only}
use Rattle.grs_wire.proofs.MaskLaws.{without-absent, with-present, has-with_same}
use Rattle.lock_structure.specs.Words.{route_by, route}
use Rattle.rsa_message.specs.Message.{Message, stands_at, or_else, first_after, first_number, any_unseen, left_by}
use Rattle.rsa_message.specs.Message.{cleared, stamped, is_due, moves, wakes, rest_after_turn, turned_open}
use Rattle.rsa_message.specs.Message.{turned_closed, turned, turn_changes}
use Rattle.grs_wire.specs.Unseen.{is_unseen, unseen}
use Rattle.rsa_message.proofs.OrderLaws.{stands_at-exact}
use Rattle.grs_medium.specs.Apply.{turn_row, switch_ring, switch_row, is_noticed, manages, joined, submit_on}
use Rattle.grs_medium.specs.Apply.{submit_row, take_from, take_row, leave_row, purge_row, rest_row, row, row_changes}
use Rattle.grs_medium.specs.Apply.{apply, changes, is_live}
use Rattle.grs_medium.specs.Inboxes.{is_empty}
use Rattle.grs_medium.specs.Medium.{MediumState, inbox, live, word}
use Rattle.grs_medium.specs.Changes.{LeavesTheRest}

-- neither the removed nor the stale change anything, and else it is the row that counts
behind_checks : {M : Type 0} (b k r : Bool) (m : M) (x : Reply × M) (y z : Reply) → (r ≡ false → x.1 ≡ m)
    → (not b && k && r) ≡ false → (cond b (y, m) (cond k x (z, m))).1 ≡ m
behind_checks true k r m x y z same h = refl
behind_checks false true r m x y z same h = same h
behind_checks false false r m x y z same h = refl

not_purged : {M : Type 0} (l : Bool) (m : M) (x : Reply × M) (z : Reply) → l ≡ false → (cond l x (z, m)).1 ≡ m
not_purged true m x z h = absurd cc
not_purged false m x z h = refl

-- a call that a notice forestalls changes nothing, and any other what its row does
not_forestalled : {M : Type 0} (b r : Bool) (m : M) (x : Reply × M) (y : Reply) → (r ≡ false → x.1 ≡ m)
    → (not b && r) ≡ false → (cond b (y, m) x).1 ≡ m
not_forestalled true r m x y same h = refl
not_forestalled false r m x y same h = same h

-- a set that lacks s isn't that of s alone
not_only : (m s : ℕ) → has m s ≡ false → eqb m (only s) ≡ false
not_only m s h = elim (eqb m (only s)) as (λ b. eqb m (only s) ≡ b → b ≡ false) [
  | true ↦ λ e. let same : has m s ≡ true = ap (λ (x : ℕ). has x s) (eqb-true m (only s) e) ∙ has-with_same 0 s in
      absurd cc
  | false ↦ λ e. refl
] refl

or_parts : (a b : Bool) → (a || b) ≡ false → (a ≡ false) × (b ≡ false)
or_parts false b h = (refl, h)
or_parts true b h = absurd cc

-- where s has seen all, nothing is cleared
pub cleared-seen : (s : SysId) (es : List RingEntry) → any_unseen s es ≡ false → cleared s es ≡ es
unfolding cleared any_unseen
cleared-seen s [] h = refl
cleared-seen s (e ∷ es) h =
    let parts = or_parts (has e.mask s.0) (list_any (is_unseen s) es) h in
    let kept : map (left_by s) (filter (λ x. not (x.mask == only s.0)) es) ≡ es = cleared-seen s es parts.1 in
    let mask : without e.mask s.0 ≡ e.mask = without-absent e.mask s.0 parts.0 in
    rw (not_only e.mask s.0 parts.0) (ap
    (λ (x : ℕ). record e { mask = x } ∷ map (left_by s) (filter (λ x. not (x.mask == only s.0)) es)) mask
    ∙ ap (λ (xs : List RingEntry). e ∷ xs) kept)

is_true : (b : Bool) → not b ≡ false → b ≡ true
is_true true e = refl
is_true false e = absurd cc

none_asked : (c : SysId) (unseen : Bool) (out : List Req) → (unseen || not (length out == 0)) ≡ false
    → (unseen ≡ false) × (out ≡ [])
none_asked c true out h = let no : true ≡ false = h in absurd cc
none_asked c false [] h = (refl, refl)
none_asked c false (r ∷ rs) h =
    let e : length (r ∷ rs) ≡ 0 = eqb-true (length (r ∷ rs)) 0 (is_true _ h) in absurd (omega arith)

-- a Turn that moves nothing, and leaves the message where it is
open_kept : (m : Message) (c : SysId) (lives rest : ℕ) → stands_at m.holder c ≡ true → any_unseen c m.entries ≡ false
    → stands_at (Some (or_else (first_after m.systems c (is_due m.entries lives rest)) c)) c ≡ true
    → turned_open m c [] lives rest ≡ m
unfolding stamped
open_kept m c lives rest here seen stays =
    let entries : cleared c m.entries ++ [] ≡ m.entries =
    append-nil (cleared c m.entries) ∙ cleared-seen c m.entries seen in
    let holder : Some (or_else (first_after m.systems c (is_due m.entries lives rest)) c) ≡ m.holder =
    stands_at-exact _ c stays ∙ sym (stands_at-exact m.holder c here) in
    rw seen
    (subst (λ (es : List RingEntry).
    record m {
      holder = Some (or_else (first_after m.systems c (is_due es lives rest)) c);
      entries = es;
      next = m.next + 0;
    }
    ≡ m)
    (sym entries)
    (ap (λ (h : Option SysId). record m { holder = h; next = m.next + 0 }) holder
    ∙ ap (λ (n : ℕ). record m { next = n }) (add-zero m.next)))

-- the open message counts where it isn't closed
unless_closed : {M : Type 0} (closed : Bool) (x y m : M) → closed ≡ false → y ≡ m → cond closed x y ≡ m
unless_closed true x y m e same = absurd cc
unless_closed false x y m e same = same

turned_kept : (m : Message) (c : SysId) (out : List Req) (lives rest : ℕ)
    → turn_changes m c (length out) lives rest ≡ false → turned m c out lives rest ≡ m
unfolding turned turn_changes
turned_kept m c out lives rest h = by_at (stands_at m.holder c) refl
  where
    by_at : (a : Bool) → stands_at m.holder c ≡ a
        → cond a (cond m.closed (turned_closed m c) (turned_open m c out lives rest)) m ≡ m
    by_at false e = refl
    by_at true e =
        let g :
        (m.closed || moves m c (length out)
        || not (stands_at (Some (or_else (first_after m.systems c (is_due m.entries lives rest)) c)) c))
        ≡ false =
        rw e at h in
        let ends = or_parts (m.closed || moves m c (length out)) _ g in
        let begins = or_parts m.closed (moves m c (length out)) ends.0 in
        let none = none_asked c (any_unseen c m.entries) out begins.1 in
        unless_closed m.closed _ _ m begins.0
        (subst (λ (rs : List Req). turned_open m c rs lives rest ≡ m) (sym none.1)
        (open_kept m c lives rest e none.0 (is_true _ ends.1)))

rest_kept : (m : Message) (c : SysId) (count lives rest : ℕ) → turn_changes m c count lives rest ≡ false
    → rest_after_turn m c count rest ≡ rest
unfolding turn_changes rest_after_turn wakes
rest_kept m c count lives rest h =
    by_at (stands_at m.holder c) (m.closed || moves m c count)
    (not (stands_at (Some (or_else (first_after m.systems c (is_due m.entries lives rest)) c)) c)) h
  where
    by_at : (a b d : Bool) → (a && (b || d)) ≡ false → cond (a && b) (without rest c.0) rest ≡ rest
    by_at true true d e = absurd cc
    by_at true false d e = refl
    by_at false b d e = refl

when : {M : Type 0} (b : Bool) (m x : M) → b ≡ true → cond b m x ≡ m
when true m x e = refl
when false m x e = absurd cc

unless : {M : Type 0} (b : Bool) (x m : M) → b ≡ false → cond b x m ≡ m
unless true x m e = absurd cc
unless false x m e = refl

-- a Switch in star mode, and one of a system that has yet to process an entry
switch_kept : (m : MediumState) (c : SysId) (words : List ℕ) (star : Bool) (o : Option ℕ)
    → (not star && is_none o) ≡ false → (cond star (Already, m) (switch_ring m c words o)).1 ≡ m
switch_kept m c words true o h = refl
switch_kept m c words false None h = absurd cc
switch_kept m c words false (Some n) h = refl

-- the manager's own request, a Take of nothing, and a Leave that changes no word
submit_kept : (m : MediumState) (c : SysId) (entry : ℕ) (req : Req) (o : Option SysId) → not (is_manager o c) ≡ false
    → joined m c entry ≡ m → (submit_on m c entry req (route_by o c)).1 ≡ m
submit_kept m c entry req None h same = absurd cc
submit_kept m c entry req (Some s) h same = rw (is_true (s.0 == c.0) h) same

take_kept : (m : MediumState) (c : SysId) (mails : List Mail) → not (is_empty mails) ≡ false
    → (take_from m c mails).1 ≡ m
take_kept m c [] h = refl
take_kept m c (mail ∷ rest) h =
    let none : length (mail ∷ rest) ≡ 0 = eqb-true (length (mail ∷ rest)) 0 (is_true _ h) in absurd (omega arith)

row_kept : (m : MediumState) (c : SysId) (act : Act) → row_changes m c act ≡ false → (row m c act).1 ≡ m
unfolding row row_changes turn_row switch_row submit_row route take_row leave_row purge_row rest_row
row_kept m c (Turn out) h =
    ap (λ (x : Message). record m { message = x; rest = rest_after_turn m.message c (length out) m.rest })
    (turned_kept m.message c out (live m) m.rest h)
    ∙ ap (λ (x : ℕ). record m { rest = x }) (rest_kept m.message c (length out) (live m) m.rest h)
row_kept m c (Purge t) h = not_purged (is_live m t) m _ _ h
row_kept m c Rest h = ap (λ (x : ℕ). record m { rest = x }) (with-present m.rest c.0 (is_true (has m.rest c.0) h))
row_kept m c (Switch words) h = switch_kept m c words m.star (first_number (unseen c m.message.entries)) h
row_kept m c (Submit entry req) h =
    not_forestalled (is_noticed m c entry) (not (manages m c entry)) m _ _
    (λ other. submit_kept m c entry req (manager (word m entry)) other (when _ m _ (is_true _ other))) h
row_kept m c Take h = take_kept m c (inbox m c.0) h
row_kept m c (Settle to mail) h = absurd cc
row_kept m c (Tell to mail) h = absurd cc
row_kept m c (Leave entry) h =
    not_forestalled (is_noticed m c entry) (leave_changes (word m entry) c) m _ _ (λ stays. unless _ _ m stays) h

pub leaves_the_rest : LeavesTheRest
unfolding apply changes
leaves_the_rest m c call h =
    behind_checks (has m.removed c.0) (call.known == m.removed) (row_changes m c call.act) m (row m c call.act) _ _
    (row_kept m c call.act) h
