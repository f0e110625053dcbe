-- A system that makes a call isn't removed by it.
use Rattle.std.proofs.Common.{◌≡◌, ◌≢◌, ◌⊎◌, ℕ, Bool, true, false, cond, List, [], ◌∷◌, Option, Some, None, refl, ap}
use Rattle.std.proofs.Common.{sym, ◌∙◌, inl, inr}
use Rattle.std.specs.Prelude.{◌==◌}
use Rattle.std.proofs.lemmas.Bool.{true≢false}
use Rattle.std.proofs.lemmas.Bool.Decides.{eqb_tells}
use Rattle.grs_base.specs.declared.resource.SysId.{SysId}
use Rattle.grs_medium.specs.Apply.{switch_ring, switch_row, turn_row, is_noticed, submit_on, submit_row, joined}
use Rattle.grs_medium.specs.Apply.{manages}
use Rattle.grs_medium.specs.Apply.{take_from, take_row, mail_row, leave_row, is_live, without_system, without_in_star}
use Rattle.grs_medium.specs.Apply.{without_target, purge_row, rest_row, row, apply, reply_to, medium_after, ActFits}
use Rattle.grs_medium.specs.Medium.{MediumState, inbox, word}
use Rattle.grs_wire.specs.LockWords.{leave_changes}
use Rattle.grs_wire.specs.Masks.{has, with_also}
use Rattle.grs_wire.specs.Unseen.{unseen}
use Rattle.grs_wire.proofs.MaskLaws.{has-with_same, has-with_other}
use Rattle.grs_wire.specs.declared.medium.Act.{Act}
use Rattle.grs_wire.specs.declared.medium.Act.TheVariants as acts
use Rattle.grs_wire.specs.declared.medium.Call.{Call}
use Rattle.grs_wire.specs.declared.medium.Mail.{Mail}
use Rattle.grs_wire.specs.declared.medium.Reply.{Reply}
use Rattle.grs_wire.specs.declared.medium.Reply.TheVariants.{Already, Purged, NoSuch, Stale, Removed}
use Rattle.grs_wire.specs.declared.request.Req.{Req}
use Rattle.lock_structure.specs.Words.{route}
use Rattle.lock_structure.specs.declared.word.Route.{Route}
use Rattle.lock_structure.specs.declared.word.Route.TheVariants as routes
use Rattle.rsa_message.specs.Message.{first_number}

either : (m : MediumState) (b : Bool) (x y : MediumState) → x.removed ≡ m.removed → y.removed ≡ m.removed
    → (cond b x y).removed ≡ m.removed
either m true x y p q = p
either m false x y p q = q

-- a call that a notice forestalls removes nobody
either_reply : (m : MediumState) (b : Bool) (r : Reply) (x : Reply × MediumState) → x.1.removed ≡ m.removed
    → (cond {A = Reply × MediumState} b (r, m) x).1.removed ≡ m.removed
either_reply m true r x p = refl
either_reply m false r x p = p

switches : (m : MediumState) (c : SysId) (words : List ℕ) → (switch_row m c words).1.removed ≡ m.removed
unfolding switch_row
switches m c words = go m.star (first_number (unseen c m.message.entries))
  where
    go : (b : Bool) (o : Option ℕ)
        → (cond {A = Reply × MediumState} b (Already, m) (switch_ring m c words o)).1.removed ≡ m.removed
    go true o = refl
    go false None = refl
    go false (Some n) = refl

joins : (m : MediumState) (c : SysId) (e : ℕ) → (joined m c e).removed ≡ m.removed
joins m c e = either m (manages m c e) m _ refl refl

submits : (m : MediumState) (c : SysId) (e : ℕ) (q : Req) → (submit_row m c e q).1.removed ≡ m.removed
unfolding submit_row
submits m c e q = either_reply m (is_noticed m c e) _ _ (go (route (word m e) c))
  where
    go : (r : Route) → (submit_on m c e q r).1.removed ≡ m.removed
    go routes.Sole = joins m c e
    go (routes.To s) = joins m c e

takes : (m : MediumState) (c : SysId) → (take_row m c).1.removed ≡ m.removed
unfolding take_row
takes m c = go (inbox m c.0)
  where
    go : (mails : List Mail) → (take_from m c mails).1.removed ≡ m.removed
    go [] = refl
    go (mail ∷ rest) = refl

leaves : (m : MediumState) (c : SysId) (e : ℕ) → (leave_row m c e).1.removed ≡ m.removed
unfolding leave_row
leaves m c e =
    either_reply m (is_noticed m c e) _ _ (either m (leave_changes (word m e) c) _ m refl refl)

-- whoever is removed is among the removed, in either mode
target-joins : (m : MediumState) (c t : SysId) → (without_target m c t).removed ≡ with_also m.removed t.0
target-joins m c t = go m.star
  where
    go : (b : Bool)
        → (cond b (without_in_star m t) (without_system m c t)).removed ≡ with_also m.removed t.0
    go true = refl
    go false = refl

-- a removal is of another system
purges : (m : MediumState) (c t : SysId) → t.0 ≢ c.0 → has (purge_row m c t).1.removed c.0 ≡ has m.removed c.0
unfolding purge_row
purges m c t other = go (is_live m t)
  where
    go : (b : Bool)
        → has (cond {A = Reply × MediumState} b (Purged, without_target m c t) (NoSuch, m)).1.removed c.0
        ≡ has m.removed c.0
    go true = ap (λ r. has r c.0) (target-joins m c t) ∙ has-with_other m.removed t.0 c.0 (λ e. other (sym e))
    go false = refl

rows : (m : MediumState) (c : SysId) (act : Act) → ActFits m c act → has (row m c act).1.removed c.0 ≡ has m.removed c.0
unfolding row turn_row mail_row rest_row
rows m c (acts.Turn out) h = refl
rows m c (acts.Switch words) h = ap (λ r. has r c.0) (switches m c words)
rows m c (acts.Submit e q) h = ap (λ r. has r c.0) (submits m c e q)
rows m c acts.Take h = ap (λ r. has r c.0) (takes m c)
rows m c (acts.Settle to mail) h = refl
rows m c (acts.Tell to mail) h = refl
rows m c (acts.Leave e) h = ap (λ r. has r c.0) (leaves m c e)
rows m c (acts.Purge t) h = purges m c t h
rows m c acts.Rest h = refl

pub stays_there : (m : MediumState) (c : SysId) (call : Call) → ActFits m c call.act
    → has (medium_after m c call).removed c.0 ≡ has m.removed c.0
unfolding apply
stays_there m c call h = go (has m.removed c.0) (call.known == m.removed)
  where
    go : (b d : Bool)
        → has (cond {A = Reply × MediumState} b (Removed, m) (cond d (row m c call.act) (Stale m.removed, m))).1.removed
        c.0
        ≡ has m.removed c.0
    go true d = refl
    go false true = rows m c call.act h
    go false false = refl

-- one that isn't told that it was removed wasn't
pub was_there : (m : MediumState) (c : SysId) (call : Call) → reply_to m c call ≢ Removed → has m.removed c.0 ≡ false
unfolding apply
was_there m c call h = go (has m.removed c.0) h
  where
    go : (b : Bool)
        → (cond {A = Reply × MediumState} b (Removed, m)
        (cond (call.known == m.removed) (row m c call.act) (Stale m.removed, m))).0
        ≢ Removed
        → b ≡ false
    go true h = absurd (h refl)
    go false h = refl

-- one that isn't removed behind a call wasn't before it
purged : (m : MediumState) (c t : SysId) (u : ℕ) → has (purge_row m c t).1.removed u ≡ false → has m.removed u ≡ false
unfolding purge_row
purged m c t u h = go (is_live m t) h
  where
    by_target : (((u == t.0) ≡ true) × (u ≡ t.0)) ⊎ (((u == t.0) ≡ false) × (u ≢ t.0))
        → has (with_also m.removed t.0) u ≡ false → has m.removed u ≡ false
    by_target (inl is) h =
        absurd (true≢false (sym (has-with_same m.removed t.0) ∙ ap (has (with_also m.removed t.0)) (sym is.1) ∙ h))
    by_target (inr is) h = sym (has-with_other m.removed t.0 u is.1) ∙ h

    go : (b : Bool)
        → has (cond {A = Reply × MediumState} b (Purged, without_target m c t) (NoSuch, m)).1.removed u ≡ false
        → has m.removed u ≡ false
    go true h = by_target (eqb_tells u t.0) (ap (λ r. has r u) (sym (target-joins m c t)) ∙ h)
    go false h = h

row_there : (m : MediumState) (c : SysId) (act : Act) (u : ℕ) → has (row m c act).1.removed u ≡ false
    → has m.removed u ≡ false
unfolding row turn_row mail_row rest_row
row_there m c (acts.Turn out) u h = h
row_there m c (acts.Switch words) u h = ap (λ r. has r u) (sym (switches m c words)) ∙ h
row_there m c (acts.Submit e q) u h = ap (λ r. has r u) (sym (submits m c e q)) ∙ h
row_there m c acts.Take u h = ap (λ r. has r u) (sym (takes m c)) ∙ h
row_there m c (acts.Settle to mail) u h = h
row_there m c (acts.Tell to mail) u h = h
row_there m c (acts.Leave e) u h = ap (λ r. has r u) (sym (leaves m c e)) ∙ h
row_there m c (acts.Purge t) u h = purged m c t u h
row_there m c acts.Rest u h = h

pub still_there : (m : MediumState) (c : SysId) (call : Call) (u : ℕ) → has (medium_after m c call).removed u ≡ false
    → has m.removed u ≡ false
unfolding apply
still_there m c call u h = go (has m.removed c.0) (call.known == m.removed) h
  where
    go : (b d : Bool)
        → has (cond {A = Reply × MediumState} b (Removed, m) (cond d (row m c call.act) (Stale m.removed, m))).1.removed
        u
        ≡ false
        → has m.removed u ≡ false
    go true d h = h
    go false true h = row_there m c call.act u h
    go false false h = h
