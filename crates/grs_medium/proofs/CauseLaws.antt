-- When the checks' answers come, and those to a Turn, a Switch, a Purge and a Rest.
use Rattle.std.proofs.Common.{◌≡◌, ℕ, Bool, true, false, cond, not, ◌&&◌, List, refl, ap, sym}
use Rattle.std.specs.Prelude.{◌↔◌, Option, Some, None, is_none, ◌==◌}
use Rattle.std.proofs.lemmas.Bool.{true≢false, false≢true}
use Rattle.grs_base.specs.declared.resource.SysId.{SysId}
use Rattle.grs_wire.specs.declared.medium.Act.{Act}
use Rattle.grs_wire.specs.declared.medium.Act.TheVariants.{Turn, Switch, Purge, Rest}
use Rattle.grs_wire.specs.declared.medium.RingEntry.{RingEntry}
use Rattle.grs_wire.specs.declared.medium.Reply.{Reply}
use Rattle.grs_wire.specs.declared.medium.Reply.TheVariants.{Turned, NotYours, Behind, Switched, Already, Purged}
use Rattle.grs_wire.specs.declared.medium.Reply.TheVariants.{NoSuch, Resting, Over, Stale, Removed}
use Rattle.rsa_message.specs.Message.{first_number, turn_reply, stands_at}
use Rattle.grs_wire.specs.Replies.{is_of_act}
use Rattle.grs_wire.specs.Unseen.{unseen}
use Rattle.grs_medium.specs.Apply.{turn_row, switch_ring, switch_row, is_live, without_target, purge_row, resting}
use Rattle.grs_medium.specs.Apply.{rest_row, row, apply}
use Rattle.grs_medium.specs.Medium.{MediumState, all_rest, medium_at_end}
use Rattle.grs_medium.specs.Causes.{is_removed, turns_elsewhere, switches_in_star, switches_behind, switches}
use Rattle.grs_medium.specs.Causes.{purges, purges_nobody, rests_last, rests_early, RemovedComes, StaleComes}
use Rattle.grs_medium.specs.Causes.{NotYoursComes, AlreadyComes, BehindComes, SwitchedComes, PurgedComes, NoSuchComes}
use Rattle.grs_medium.specs.Causes.{OverComes, RestingComes}
use Rattle.grs_medium.proofs.Replies.{neither, other_reply, never, heard}

-- the rows of a Turn, a Switch, a Purge and a Rest
turn_not_yours : (here : Bool) (entries : List RingEntry) (taken : ℕ) (closed : Bool) (holder at : Option SysId)
    → (cond here (Turned entries taken closed) (NotYours holder) ≡ NotYours at) ↔ ((not here ≡ true) × (at ≡ holder))
turn_not_yours true entries taken closed holder at = neither (λ e. absurd cc) (λ p. false≢true p.0)
turn_not_yours false entries taken closed holder at = (λ e. (refl, cc), λ p. ap NotYours (sym p.1))

switch_already : (m : MediumState) (c : SysId) (words : List ℕ) (star : Bool) (o : Option ℕ)
    → ((cond star (Already, m) (switch_ring m c words o)).0 ≡ Already) ↔ (star ≡ true)
switch_already m c words true o = (λ e. refl, λ e. refl)
switch_already m c words false None = neither (λ e. absurd cc) false≢true
switch_already m c words false (Some n) = neither (λ e. absurd cc) false≢true

switch_behind : (m : MediumState) (c : SysId) (words : List ℕ) (first : ℕ) (star : Bool) (o : Option ℕ)
    → ((cond star (Already, m) (switch_ring m c words o)).0 ≡ Behind first) ↔ (cond star None o ≡ Some first)
switch_behind m c words first true o = neither (λ e. absurd cc) (λ e. absurd cc)
switch_behind m c words first false None = neither (λ e. absurd cc) (λ e. absurd cc)
switch_behind m c words first false (Some n) = (λ e. cc, λ e. cc)

switch_switched : (m : MediumState) (c : SysId) (words : List ℕ) (star : Bool) (o : Option ℕ)
    → ((cond star (Already, m) (switch_ring m c words o)).0 ≡ Switched) ↔ ((not star && is_none o) ≡ true)
switch_switched m c words true o = neither (λ e. absurd cc) false≢true
switch_switched m c words false None = (λ e. refl, λ e. refl)
switch_switched m c words false (Some n) = neither (λ e. absurd cc) false≢true

purge_purged : {M : Type 0} (living : Bool) (m gone : M)
    → ((cond {A = Reply × M} living (Purged, gone) (NoSuch, m)).0 ≡ Purged) ↔ (living ≡ true)
purge_purged true m gone = (λ e. refl, λ e. refl)
purge_purged false m gone = neither (λ e. absurd cc) false≢true

purge_no_such : {M : Type 0} (living : Bool) (m gone : M)
    → ((cond {A = Reply × M} living (Purged, gone) (NoSuch, m)).0 ≡ NoSuch) ↔ (not living ≡ true)
purge_no_such true m gone = neither (λ e. absurd cc) false≢true
purge_no_such false m gone = (λ e. refl, λ e. refl)

rest_over : (b : Bool) → (cond b Over Resting ≡ Over) ↔ (b ≡ true)
rest_over true = (λ e. refl, λ e. refl)
rest_over false = neither (λ e. absurd cc) false≢true

rest_resting : (b : Bool) → (cond b Over Resting ≡ Resting) ↔ (not b ≡ true)
rest_resting true = neither (λ e. absurd cc) false≢true
rest_resting false = (λ e. refl, λ e. refl)

-- each reply to an act
row_not_yours : (m : MediumState) (c : SysId) (act : Act) (at : Option SysId) → ((row m c act).0 ≡ NotYours at)
    ↔ ((turns_elsewhere m c act ≡ true) × (at ≡ m.message.holder))
unfolding row turn_row turn_reply
row_not_yours m c (Turn out) at =
    turn_not_yours (stands_at m.message.holder c) (unseen c m.message.entries) _ m.message.closed m.message.holder at
row_not_yours m c act at = neither (other_reply m c act (NotYours at) refl) (λ p. false≢true p.0)

row_already : (m : MediumState) (c : SysId) (act : Act) → ((row m c act).0 ≡ Already) ↔ (switches_in_star m act ≡ true)
unfolding row switch_row
row_already m c (Switch words) = switch_already m c words m.star (first_number (unseen c m.message.entries))
row_already m c act = never m c act Already refl

row_behind : (m : MediumState) (c : SysId) (act : Act) (first : ℕ) → ((row m c act).0 ≡ Behind first)
    ↔ (switches_behind m c act ≡ Some first)
unfolding row switch_row
row_behind m c (Switch words) first = switch_behind m c words first m.star (first_number (unseen c m.message.entries))
row_behind m c act first = neither (other_reply m c act (Behind first) refl) (λ e. absurd cc)

row_switched : (m : MediumState) (c : SysId) (act : Act) → ((row m c act).0 ≡ Switched) ↔ (switches m c act ≡ true)
unfolding row switch_row
row_switched m c (Switch words) = switch_switched m c words m.star (first_number (unseen c m.message.entries))
row_switched m c act = never m c act Switched refl

row_purged : (m : MediumState) (c : SysId) (act : Act) → ((row m c act).0 ≡ Purged) ↔ (purges m act ≡ true)
unfolding row purge_row
row_purged m c (Purge t) = purge_purged (is_live m t) m (without_target m c t)
row_purged m c act = never m c act Purged refl

row_no_such : (m : MediumState) (c : SysId) (act : Act) → ((row m c act).0 ≡ NoSuch) ↔ (purges_nobody m act ≡ true)
unfolding row purge_row
row_no_such m c (Purge t) = purge_no_such (is_live m t) m (without_target m c t)
row_no_such m c act = never m c act NoSuch refl

row_over : (m : MediumState) (c : SysId) (act : Act) → ((row m c act).0 ≡ Over) ↔ (rests_last m c act ≡ true)
unfolding row rest_row medium_at_end
row_over m c Rest = rest_over (all_rest (resting m c) && medium_at_end m)
row_over m c act = never m c act Over refl

row_resting : (m : MediumState) (c : SysId) (act : Act) → ((row m c act).0 ≡ Resting) ↔ (rests_early m c act ≡ true)
unfolding row rest_row medium_at_end
row_resting m c Rest = rest_resting (all_rest (resting m c) && medium_at_end m)
row_resting m c act = never m c act Resting refl

-- the two checks before the act is looked at
first_check : {M : Type 0} (b k : Bool) (m : M) (x : Reply × M) (set : ℕ) → ¬ (x.0 ≡ Removed)
    → ((cond {A = Reply × M} b (Removed, m) (cond k x (Stale set, m))).0 ≡ Removed) ↔ (b ≡ true)
first_check true k m x set other = (λ e. refl, λ e. refl)
first_check false true m x set other = neither other false≢true
first_check false false m x set other = neither (λ e. absurd cc) false≢true

second_check : {M : Type 0} (b k : Bool) (m : M) (x : Reply × M) (given set : ℕ) → ¬ (x.0 ≡ Stale set)
    → ((cond {A = Reply × M} b (Removed, m) (cond k x (Stale given, m))).0 ≡ Stale set)
    ↔ ((b ≡ false) × ((not k ≡ true) × (set ≡ given)))
second_check true k m x given set other = neither (λ e. absurd cc) (λ p. true≢false p.0)
second_check false true m x given set other = neither other (λ p. false≢true p.1.0)
second_check false false m x given set other = (λ e. (refl, (refl, cc)), λ p. ap Stale (sym p.1.1))

-- a check is no reply to what an act asks
no_removed : (act : Act) → is_of_act act Removed ≡ false
no_removed (Turn out) = refl
no_removed act = refl

no_stale : (act : Act) (set : ℕ) → is_of_act act (Stale set) ≡ false
no_stale (Turn out) set = refl
no_stale act set = refl

pub removed_comes : RemovedComes
unfolding apply
removed_comes m c call =
    first_check (is_removed m c) (call.known == m.removed) m (row m c call.act) m.removed
    (other_reply m c call.act Removed (no_removed call.act))

pub stale_comes : StaleComes
unfolding apply
stale_comes m c call set =
    second_check (is_removed m c) (call.known == m.removed) m (row m c call.act) m.removed set
    (other_reply m c call.act (Stale set) (no_stale call.act set))

pub not_yours_comes : NotYoursComes
not_yours_comes m c call at = heard m c call (NotYours at) refl (row_not_yours m c call.act at)

pub already_comes : AlreadyComes
already_comes m c call = heard m c call Already refl (row_already m c call.act)

pub behind_comes : BehindComes
behind_comes m c call first = heard m c call (Behind first) refl (row_behind m c call.act first)

pub switched_comes : SwitchedComes
switched_comes m c call = heard m c call Switched refl (row_switched m c call.act)

pub purged_comes : PurgedComes
purged_comes m c call = heard m c call Purged refl (row_purged m c call.act)

pub no_such_comes : NoSuchComes
no_such_comes m c call = heard m c call NoSuch refl (row_no_such m c call.act)

pub over_comes : OverComes
over_comes m c call = heard m c call Over refl (row_over m c call.act)

pub resting_comes : RestingComes
resting_comes m c call = heard m c call Resting refl (row_resting m c call.act)
