-- There are as many lock words and systems as before, whatever a call does that the medium may be asked. So what the
-- medium can be asked it can be asked behind any other call as well.
use Rattle.std.proofs.Common.{◌≡◌, ◌<◌, ℕ, Bool, true, false, cond, List, [], ◌∷◌, length, refl, ap, sym, ◌∙◌, subst}
use Rattle.std.specs.Prelude.{◌==◌, Option, Some, None}
use Rattle.std.specs.List.{list_all}
use Rattle.std.proofs.lemmas.List.{length-map, length-set}
use Rattle.grs_base.specs.declared.resource.SysId.{SysId}
use Rattle.grs_wire.specs.LockWords.{leave_changes, leave_reply}
use Rattle.grs_wire.specs.Masks.{has}
use Rattle.grs_wire.specs.declared.medium.Act.{Act}
use Rattle.grs_wire.specs.declared.medium.Act.TheVariants as acts
use Rattle.grs_wire.specs.declared.medium.Call.{Call}
use Rattle.grs_wire.specs.declared.medium.Mail.{Mail}
use Rattle.grs_wire.specs.declared.medium.Reply.{Reply}
use Rattle.grs_wire.specs.declared.medium.Reply.TheVariants.{Already, Purged, NoSuch, Stale, Removed}
use Rattle.grs_wire.specs.declared.request.Req.{Req}
use Rattle.lock_structure.specs.Purge.{purged_word}
use Rattle.lock_structure.specs.Words.{route, left_words, word_fits}
use Rattle.lock_structure.specs.declared.word.Route.{Route}
use Rattle.lock_structure.specs.declared.word.Route.TheVariants as routes
use Rattle.rsa_message.specs.Message.{first_number, stands_at, closed_by, turned_closed, turned_open, turned, dropped}
use Rattle.rsa_message.specs.Message.{departed}
use Rattle.grs_wire.specs.Unseen.{unseen}
use Rattle.grs_medium.specs.Apply.{turn_row, switch_ring, switch_row, is_noticed, notice_reply, manages, joined}
use Rattle.grs_medium.specs.Apply.{submit_on, submit_row, take_from, take_row, mail_row, leave_row, is_live}
use Rattle.grs_medium.specs.Apply.{without_system, without_in_star, without_target, purge_row, rest_row, row}
use Rattle.grs_medium.specs.Apply.{apply, medium_after, ActFits, MayCall}
use Rattle.grs_medium.specs.Medium.{MediumState, systems_of, live, inbox, awake, word}

-- as many lock words, and as many systems
abbrev Keeps : MediumState → MediumState → Type 0
Keeps m after = (length after.words ≡ length m.words) × (systems_of after ≡ systems_of m)

keeps-either : (m : MediumState) (b : Bool) (x y : MediumState) → Keeps m x → Keeps m y → Keeps m (cond b x y)
keeps-either m true x y p q = p
keeps-either m false x y p q = q

turns : (m : MediumState) (c : SysId) (out : List Req) → Keeps m (turn_row m c out).1
unfolding turn_row turned
turns m c out = (refl, go (stands_at m.message.holder c) m.message.closed)
  where
    go : (b d : Bool)
        → (cond b (cond d (turned_closed m.message c) (turned_open m.message c out (live m) m.rest)) m.message).systems
        ≡ m.message.systems
    go true true = refl
    go true false = refl
    go false d = refl

switches : (m : MediumState) (c : SysId) (words : List ℕ) → length words ≡ length m.words
    → Keeps m (switch_row m c words).1
unfolding switch_row closed_by
switches m c words same = go m.star (first_number (unseen c m.message.entries))
  where
    go : (b : Bool) (o : Option ℕ) → Keeps m (cond {A = Reply × MediumState} b (Already, m) (switch_ring m c words o)).1
    go true o = (refl, refl)
    go false None = (same, refl)
    go false (Some n) = (refl, refl)

joins : (m : MediumState) (c : SysId) (e : ℕ) → Keeps m (joined m c e)
joins m c e = keeps-either m (manages m c e) m _ (refl, refl) (length-set m.words e _, refl)

submits : (m : MediumState) (c : SysId) (e : ℕ) (q : Req) → Keeps m (submit_row m c e q).1
unfolding submit_row
submits m c e q = by_notice (is_noticed m c e)
  where
    go : (r : Route) → Keeps m (submit_on m c e q r).1
    go routes.Sole = joins m c e
    go (routes.To s) = joins m c e

    by_notice : (b : Bool)
        → Keeps m (cond {A = Reply × MediumState} b (notice_reply m c e, m) (submit_on m c e q (route (word m e) c))).1
    by_notice true = (refl, refl)
    by_notice false = go (route (word m e) c)

takes : (m : MediumState) (c : SysId) → Keeps m (take_row m c).1
unfolding take_row
takes m c = go (inbox m c.0)
  where
    go : (mails : List Mail) → Keeps m (take_from m c mails).1
    go [] = (refl, refl)
    go (mail ∷ rest) = (refl, refl)

leaves : (m : MediumState) (c : SysId) (e : ℕ) → Keeps m (leave_row m c e).1
unfolding leave_row
leaves m c e = by_notice (is_noticed m c e)
  where
    left : MediumState
    left = cond (leave_changes (word m e) c) (record m { words = left_words m.words e c; rest = awake m c }) m

    by_notice : (b : Bool)
        → Keeps m (cond {A = Reply × MediumState} b (notice_reply m c e, m) (leave_reply (word m e) c, left)).1
    by_notice true = (refl, refl)
    by_notice false = keeps-either m (leave_changes (word m e) c) _ m (length-set m.words e _, refl) (refl, refl)

purges : (m : MediumState) (c t : SysId) → Keeps m (purge_row m c t).1
unfolding purge_row dropped departed
purges m c t = go (is_live m t)
  where
    go : (b : Bool) → Keeps m (cond {A = Reply × MediumState} b (Purged, without_target m c t) (NoSuch, m)).1
    go true =
        keeps-either m m.star (without_in_star m t) (without_system m c t)
        (length-map m.words (λ (w : ℕ). purged_word w t), refl) (refl, refl)
    go false = (refl, refl)

rows : (m : MediumState) (c : SysId) (act : Act) → ActFits m c act → Keeps m (row m c act).1
unfolding row mail_row rest_row
rows m c (acts.Turn out) h = turns m c out
rows m c (acts.Switch words) h = switches m c words h.0
rows m c (acts.Submit e q) h = submits m c e q
rows m c acts.Take h = takes m c
rows m c (acts.Settle to mail) h = (refl, refl)
rows m c (acts.Tell to mail) h = (refl, refl)
rows m c (acts.Leave e) h = leaves m c e
rows m c (acts.Purge t) h = purges m c t
rows m c acts.Rest h = (refl, refl)

keeps_both : (m : MediumState) (c : SysId) (call : Call) → ActFits m c call.act → Keeps m (medium_after m c call)
unfolding apply
keeps_both m c call h = go (has m.removed c.0) (call.known == m.removed)
  where
    go : (b d : Bool)
        → Keeps m (cond {A = Reply × MediumState} b (Removed, m) (cond d (row m c call.act) (Stale m.removed, m))).1
    go true d = (refl, refl)
    go false true = rows m c call.act h
    go false false = (refl, refl)

-- what fits one medium fits another with as many systems and lock words
fits_also : (m after : MediumState) (c : SysId) (act : Act) → Keeps m after → ActFits m c act → ActFits after c act
fits_also m after c (acts.Turn out) k h = h
fits_also m after c (acts.Switch ws) k h = (h.0 ∙ sym k.0, ap (λ n. list_all (word_fits n) ws) k.1 ∙ h.1)
fits_also m after c (acts.Submit e q) k h = subst (λ n. e < n) (sym k.0) h
fits_also m after c acts.Take k h = tt
fits_also m after c (acts.Settle to mail) k h = subst (λ n. to.0 < n) (sym k.1) h
fits_also m after c (acts.Tell to mail) k h = subst (λ n. to.0 < n) (sym k.1) h
fits_also m after c (acts.Leave e) k h = subst (λ n. e < n) (sym k.0) h
fits_also m after c (acts.Purge t) k h = h
fits_also m after c acts.Rest k h = tt

pub may_call_behind : (m : MediumState) (c : SysId) (call : Call) (d : SysId) (other : Call) → ActFits m c call.act
    → MayCall m d other → MayCall (medium_after m c call) d other
may_call_behind m c call d other h may =
    let k = keeps_both m c call h in
    (subst (λ n. d.0 < n) (sym k.1) may.0, fits_also m (medium_after m c call) d other.act k may.1)

-- the lock words alone
pub keeps_words : (m : MediumState) (c : SysId) (call : Call) → ActFits m c call.act
    → length (medium_after m c call).words ≡ length m.words
keeps_words m c call h = (keeps_both m c call h).0

-- and the systems
pub keeps_systems : (m : MediumState) (c : SysId) (call : Call) → ActFits m c call.act
    → systems_of (medium_after m c call) ≡ systems_of m
keeps_systems m c call h = (keeps_both m c call h).1

pub ruleset sizes = (keeps_words)
