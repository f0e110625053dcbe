-- Each call is answered by a reply that is listed for it, and by no other.
use Rattle.std.proofs.Common.{◌≡◌, ℕ, Bool, true, false, cond, not, ◌&&◌, ◌||◌, List, [], ◌∷◌, length, refl, ap, sym}
use Rattle.std.proofs.Common.{◌∙◌, arith}
use Rattle.std.specs.Prelude.{◌↔◌, Option, Some, None, ◌==◌, nat_le}
use Rattle.std.proofs.lemmas.Bool.{true≢false, false≢true}
use Rattle.std.proofs.lemmas.Bool.Decides.{nat_tests}
use Rattle.grs_base.specs.declared.resource.SysId.{SysId}
use Rattle.grs_wire.specs.declared.request.Req.{Req}
use Rattle.grs_wire.specs.declared.medium.Act.{Act}
use Rattle.grs_wire.specs.declared.medium.Act.TheVariants.{Turn, Switch, Submit, Take, Settle, Tell, Leave, Purge, Rest}
use Rattle.grs_wire.specs.declared.medium.Call.{Call}
use Rattle.grs_wire.specs.declared.medium.Mail.{Mail}
use Rattle.grs_wire.specs.declared.medium.Reply.{Reply}
use Rattle.grs_wire.specs.declared.medium.Reply.TheVariants.{Turned, NotYours, Already, Sole, Sent, Taken, Empty}
use Rattle.grs_wire.specs.declared.medium.Reply.TheVariants.{Settled, Told, Left, Kept, Yours, Old, Purged, NoSuch}
use Rattle.grs_wire.specs.declared.medium.Reply.TheVariants.{Resting, Over, Stale, Removed}
use Rattle.grs_wire.specs.Replies.{is_check, is_of_act, is_listed}
use Rattle.grs_wire.specs.LockWords.{is_kept, interest, leave_reply, leave_changes}
use Rattle.lock_structure.specs.Words.{route, left_words}
use Rattle.lock_structure.specs.declared.word.Route.{Route}
use Rattle.lock_structure.specs.declared.word.Route.TheVariants as routes
use Rattle.rsa_message.specs.Message.{first_number, turn_reply, stands_at}
use Rattle.grs_wire.specs.Unseen.{unseen}
use Rattle.grs_medium.specs.Apply.{turn_row, switch_ring, switch_row, is_noticed, manages, submit_on, submit_row}
use Rattle.grs_medium.specs.Apply.{take_from, take_row, mail_row, leave_row, is_live, without_target, purge_row}
use Rattle.grs_medium.specs.Apply.{resting}
use Rattle.grs_medium.specs.Apply.{rest_row, row, apply, reply_to}
use Rattle.grs_medium.specs.Medium.{MediumState, awake, inbox, word, all_rest, medium_at_end}
use Rattle.grs_medium.specs.Causes.{is_removed, is_heard, RepliesAreListed}

-- ---- a call that is heard is answered by a reply of its act

no_more : (n : ℕ) (closed : Bool) → nat_le (cond closed 0 n) n ≡ true
no_more n true = grind (arith, nat_tests)
no_more n false = grind (arith, nat_tests)

turn_is_its : (m : MediumState) (c : SysId) (out : List Req) → is_of_act (Turn out) (turn_row m c out).0 ≡ true
unfolding turn_row turn_reply
turn_is_its m c out = by_at (stands_at m.message.holder c)
  where
    by_at : (b : Bool)
        → is_of_act (Turn out) (cond b
        (Turned (unseen c m.message.entries) (cond m.message.closed 0 (length out)) m.message.closed)
        (NotYours m.message.holder))
        ≡ true
    by_at true = no_more (length out) m.message.closed
    by_at false = refl

switch_is_its : (m : MediumState) (c : SysId) (words : List ℕ)
    → is_of_act (Switch words) (switch_row m c words).0 ≡ true
unfolding switch_row
switch_is_its m c words = by_star m.star (first_number (unseen c m.message.entries))
  where
    by_star : (b : Bool) (o : Option ℕ)
        → is_of_act (Switch words) (cond {A = Reply × MediumState} b (Already, m) (switch_ring m c words o)).0 ≡ true
    by_star true o = refl
    by_star false None = refl
    by_star false (Some first) = refl

submit_is_its : (m : MediumState) (c : SysId) (entry : ℕ) (req : Req)
    → is_of_act (Submit entry req) (submit_row m c entry req).0 ≡ true
unfolding submit_row
submit_is_its m c entry req = by_notice (is_noticed m c entry) (manages m c entry)
  where
    by_route : (r : Route) → is_of_act (Submit entry req) (submit_on m c entry req r).0 ≡ true
    by_route routes.Sole = refl
    by_route (routes.To s) = refl

    by_notice : (b d : Bool)
        → is_of_act (Submit entry req)
        (cond {A = Reply × MediumState} b (cond d Yours Old, m) (submit_on m c entry req (route (word m entry) c))).0
        ≡ true
    by_notice true true = refl
    by_notice true false = refl
    by_notice false d = by_route (route (word m entry) c)

take_is_its : (m : MediumState) (c : SysId) → is_of_act Take (take_row m c).0 ≡ true
unfolding take_row
take_is_its m c = by_inbox (inbox m c.0)
  where
    by_inbox : (mails : List Mail) → is_of_act Take (take_from m c mails).0 ≡ true
    by_inbox [] = refl
    by_inbox (mail ∷ mails) = refl

leave_is_its : (m : MediumState) (c : SysId) (entry : ℕ) → is_of_act (Leave entry) (leave_row m c entry).0 ≡ true
unfolding leave_row leave_reply
leave_is_its m c entry = by_notice (is_noticed m c entry) (manages m c entry)
  where
    by_kept : (b : Bool) → is_of_act (Leave entry) (cond b (Kept (interest (word m entry))) Left) ≡ true
    by_kept true = refl
    by_kept false = refl

    by_notice : (b d : Bool)
        → is_of_act (Leave entry)
        (cond {A = Reply × MediumState} b (cond d Yours Old, m) (
          cond (is_kept (word m entry) c) (Kept (interest (word m entry))) Left,
          cond (leave_changes (word m entry) c) (record m { words = left_words m.words entry c; rest = awake m c }) m,
        )).0
        ≡ true
    by_notice true true = refl
    by_notice true false = refl
    by_notice false d = by_kept (is_kept (word m entry) c)

purge_is_its : (m : MediumState) (c target : SysId) → is_of_act (Purge target) (purge_row m c target).0 ≡ true
unfolding purge_row
purge_is_its m c target = by_living (is_live m target)
  where
    by_living : (b : Bool)
        → is_of_act (Purge target)
        (cond {A = Reply × MediumState} b (Purged, without_target m c target) (NoSuch, m)).0
        ≡ true
    by_living true = refl
    by_living false = refl

rest_is_its : (m : MediumState) (c : SysId) → is_of_act Rest (rest_row m c).0 ≡ true
unfolding rest_row
rest_is_its m c = by_end (all_rest (resting m c) && medium_at_end (resting m c))
  where
    by_end : (b : Bool) → is_of_act Rest (cond b Over Resting) ≡ true
    by_end true = refl
    by_end false = refl

row_is_its : (m : MediumState) (c : SysId) (act : Act) → is_of_act act (row m c act).0 ≡ true
unfolding row mail_row
row_is_its m c (Turn out) = turn_is_its m c out
row_is_its m c (Switch words) = switch_is_its m c words
row_is_its m c (Submit entry req) = submit_is_its m c entry req
row_is_its m c Take = take_is_its m c
row_is_its m c (Settle to mail) = refl
row_is_its m c (Tell to mail) = refl
row_is_its m c (Leave entry) = leave_is_its m c entry
row_is_its m c (Purge target) = purge_is_its m c target
row_is_its m c Rest = rest_is_its m c

-- ---- so each call is answered by a reply that is listed for it

heard_listed : (act : Act) (reply : Reply) → is_of_act act reply ≡ true → is_listed act reply ≡ true
heard_listed act reply h = by_check (is_check reply)
  where
    by_check : (b : Bool) → (b || is_of_act act reply) ≡ true
    by_check true = refl
    by_check false = h

pub replies_are_listed : RepliesAreListed
unfolding apply
replies_are_listed m c call = by_checks (is_removed m c) (call.known == m.removed)
  where
    by_checks : (b d : Bool)
        → is_listed call.act
        (cond {A = Reply × MediumState} b (Removed, m) (cond d (row m c call.act) (Stale m.removed, m))).0
        ≡ true
    by_checks true d = refl
    by_checks false true = heard_listed call.act (row m c call.act).0 (row_is_its m c call.act)
    by_checks false false = refl

-- ---- and by no other

-- where neither side can be
pub neither : {A B : Type 0} → ¬ A → ¬ B → A ↔ B
neither a b = (λ x. absurd (a x), λ y. absurd (b y))

-- a call that is heard is never answered by a reply of another act, nor by a check
pub other_reply : (m : MediumState) (c : SysId) (act : Act) (reply : Reply) → is_of_act act reply ≡ false
    → ¬ ((row m c act).0 ≡ reply)
other_reply m c act reply h e =
    true≢false (sym (row_is_its m c act) ∙ ap (is_of_act act) e ∙ h)

pub never : (m : MediumState) (c : SysId) (act : Act) (reply : Reply) → is_of_act act reply ≡ false
    → ((row m c act).0 ≡ reply) ↔ (false ≡ true)
never m c act reply h = neither (other_reply m c act reply h) false≢true

no_check : (x y : Reply) → is_check x ≡ true → is_check y ≡ false → ¬ (x ≡ y)
no_check x y is other e = true≢false (sym is ∙ ap is_check e ∙ other)

-- a reply that isn't one of the two checks comes exactly where the call is heard and its row gives it
behind_checks : {M C : Type 0} (b k : Bool) (m : M) (x : Reply × M) (set : ℕ) (reply : Reply) → ¬ (Removed ≡ reply)
    → ¬ (Stale set ≡ reply) → ((x.0 ≡ reply) ↔ C)
    → ((cond {A = Reply × M} b (Removed, m) (cond k x (Stale set, m))).0 ≡ reply)
    ↔ (((not b && not (not k)) ≡ true) × C)
behind_checks true k m x set reply other stale is = neither other (λ p. false≢true p.0)
behind_checks false true m x set reply other stale is = (λ e. (refl, is.0 e), λ p. is.1 p.1)
behind_checks false false m x set reply other stale is = neither stale (λ p. false≢true p.0)

pub heard : {C : Type 0} (m : MediumState) (c : SysId) (call : Call) (reply : Reply) → is_check reply ≡ false
    → (((row m c call.act).0 ≡ reply) ↔ C) → (reply_to m c call ≡ reply) ↔ ((is_heard m c call ≡ true) × C)
unfolding apply
heard m c call reply h law =
    behind_checks (is_removed m c) (call.known == m.removed) m (row m c call.act) m.removed reply
    (no_check Removed reply refl h) (no_check (Stale m.removed) reply refl h) law
