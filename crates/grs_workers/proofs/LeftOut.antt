-- A call that isn't entered has a reply that leaves its system as it is.
use Rattle.std.proofs.Common.{◌≡◌, ℕ, zero, suc, Bool, true, false, cond, not, ◌&&◌, ◌||◌, List, [], ◌∷◌, length}
use Rattle.std.proofs.Common.{filter, Option, Some, None, refl, ap, sym, ◌∙◌}
use Rattle.std.specs.Prelude.{◌==◌, is_none}
use Rattle.std.specs.List.{list_any}
use Rattle.std.proofs.Math.Dec.{eqb-suc-zero}
use Rattle.std.proofs.lemmas.Bool.{true≢false}
use Rattle.grs_base.specs.declared.resource.SysId.{SysId}
use Rattle.grs_bus.specs.Journal.{is_acted_on, is_entered}
use Rattle.grs_medium.specs.Apply.{turn_row, switch_ring, switch_row, is_noticed, manages, submit_on, submit_row}
use Rattle.grs_medium.specs.Apply.{take_from, take_row, leave_row, is_live, without_target, purge_row, resting}
use Rattle.grs_medium.specs.Apply.{rest_row}
use Rattle.grs_medium.specs.Apply.{row, apply, reply_to, row_changes, changes}
use Rattle.grs_medium.specs.Inboxes.{is_empty}
use Rattle.grs_medium.specs.Medium.{MediumState, awake, inbox, word, all_rest, medium_at_end}
use Rattle.grs_wire.specs.Replies.{leaves_all}
use Rattle.grs_wire.specs.LockWords.{is_kept, interest, manager, is_manager, leave_reply, leave_changes}
use Rattle.grs_wire.specs.Masks.{has}
use Rattle.grs_wire.specs.Unseen.{is_unseen, unseen}
use Rattle.grs_wire.specs.declared.medium.Act.{Act}
use Rattle.grs_wire.specs.declared.medium.Act.TheVariants as acts
use Rattle.grs_wire.specs.declared.medium.Call.{Call}
use Rattle.grs_wire.specs.declared.medium.Mail.{Mail}
use Rattle.grs_wire.specs.declared.medium.Reply.{Reply}
use Rattle.grs_wire.specs.declared.medium.Reply.TheVariants.{Turned, NotYours, Taken, Already, Left, Kept, Yours}
use Rattle.grs_wire.specs.declared.medium.Reply.TheVariants.{Old, Purged, NoSuch, Resting, Over, Stale, Removed}
use Rattle.grs_wire.specs.declared.request.Req.{Req}
use Rattle.lock_structure.specs.Words.{route, route_by, left_words}
use Rattle.lock_structure.specs.declared.word.Route.TheVariants as routes
use Rattle.rsa_message.specs.Message.{Message, stands_at, any_unseen, first_number, moves, turn_reply, turn_changes}

-- whether a call that changes the medium so, and is replied so, is entered
abbrev entered : Bool → Reply → Bool
entered changed reply = changed || is_acted_on reply

none_pass : {A : Type 0} (p : A → Bool) (xs : List A) → list_any p xs ≡ false → filter p xs ≡ []
none_pass p [] h = refl
none_pass p (x ∷ xs) h = by_first (p x) (none_pass p xs) h
  where
    by_first : (b : Bool) → (list_any p xs ≡ false → filter p xs ≡ []) → (b || list_any p xs) ≡ false
        → cond b (x ∷ filter p xs) (filter p xs) ≡ []
    by_first true rest h = absurd (true≢false h)
    by_first false rest h = rest h

-- nothing was given, put in or closed
pub turned_leaves : (m : Message) (c : SysId) (count : ℕ) (closed other : Bool)
    → (closed || moves m c count || other) ≡ false
    → leaves_all (Turned (unseen c m.entries) (cond closed 0 count) closed) ≡ true
unfolding any_unseen unseen
turned_leaves m c count true other h = cc
turned_leaves m c zero false other h = by_unseen (list_any (is_unseen c) m.entries) refl h
  where
    by_unseen : (b : Bool) → list_any (is_unseen c) m.entries ≡ b → (b || false || other) ≡ false
        → leaves_all (Turned (filter (is_unseen c) m.entries) 0 false) ≡ true
    by_unseen true is h = cc
    by_unseen false is h = ap (λ es. leaves_all (Turned es 0 false)) (none_pass (is_unseen c) m.entries is)
turned_leaves m c (suc count) false other h =
    by_unseen (list_any (is_unseen c) m.entries) (suc count == 0) (eqb-suc-zero count) h
  where
    by_unseen : (b d : Bool) → d ≡ false → (b || not d || other) ≡ false
        → leaves_all (Turned (unseen c m.entries) (suc count) false) ≡ true
    by_unseen true d none h = cc
    by_unseen false true none h = cc
    by_unseen false false none h = cc

turn_left_out : (m : MediumState) (c : SysId) (out : List Req)
    → entered (row_changes m c (acts.Turn out)) (turn_row m c out).0 ≡ false → leaves_all (turn_row m c out).0 ≡ true
unfolding row_changes turn_row turn_reply turn_changes
turn_left_out m c out h = by_place (stands_at m.message.holder c) _ h
  where
    by_place : (b other : Bool)
        → entered (b && (m.message.closed || moves m.message c (length out) || other))
        (cond b (Turned (unseen c m.message.entries) (cond m.message.closed 0 (length out)) m.message.closed)
        (NotYours m.message.holder))
        ≡ false
        → leaves_all (cond b
        (Turned (unseen c m.message.entries) (cond m.message.closed 0 (length out)) m.message.closed)
        (NotYours m.message.holder))
        ≡ true
    by_place true other h = turned_leaves m.message c (length out) m.message.closed other (first_false _ h)
      where
        first_false : (a : Bool) → (a || false) ≡ false → a ≡ false
        first_false true h = h
        first_false false h = h
    by_place false other h = refl

switch_left_out : (m : MediumState) (c : SysId) (words : List ℕ)
    → entered (row_changes m c (acts.Switch words)) (switch_row m c words).0 ≡ false
    → leaves_all (switch_row m c words).0 ≡ true
unfolding row_changes switch_row
switch_left_out m c words h = by_mode m.star (first_number (unseen c m.message.entries)) h
  where
    by_mode : (b : Bool) (o : Option ℕ)
        → entered (not b && is_none o) (cond {A = Reply × MediumState} b (Already, m) (switch_ring m c words o)).0
        ≡ false
        → leaves_all (cond {A = Reply × MediumState} b (Already, m) (switch_ring m c words o)).0 ≡ true
    by_mode true o h = cc
    by_mode false None h = cc
    by_mode false (Some first) h = refl

submit_left_out : (m : MediumState) (c : SysId) (e : ℕ) (q : Req)
    → entered (row_changes m c (acts.Submit e q)) (submit_row m c e q).0 ≡ false
    → leaves_all (submit_row m c e q).0 ≡ true
unfolding row_changes submit_row route
submit_left_out m c e q h = by_notice (is_noticed m c e) (manages m c e) h
  where
    by_same : (s : SysId) (b : Bool) → entered (not b) (submit_on m c e q (cond b routes.Sole (routes.To s))).0 ≡ false
        → leaves_all (submit_on m c e q (cond b routes.Sole (routes.To s))).0 ≡ true
    by_same s true h = cc
    by_same s false h = cc

    by_manager : (o : Option SysId) → entered (not (is_manager o c)) (submit_on m c e q (route_by o c)).0 ≡ false
        → leaves_all (submit_on m c e q (route_by o c)).0 ≡ true
    by_manager None h = cc
    by_manager (Some s) h = by_same s (s.0 == c.0) h

    by_notice : (b own : Bool)
        → entered (not b && not (manages m c e))
        (cond {A = Reply × MediumState} b (cond own Yours Old, m)
        (submit_on m c e q (route_by (manager (word m e)) c))).0
        ≡ false
        → leaves_all
        (cond {A = Reply × MediumState} b (cond own Yours Old, m)
        (submit_on m c e q (route_by (manager (word m e)) c))).0
        ≡ true
    by_notice true true h = refl
    by_notice true false h = refl
    by_notice false own h = by_manager (manager (word m e)) h

take_left_out : (m : MediumState) (c : SysId) → entered (row_changes m c acts.Take) (take_row m c).0 ≡ false
    → leaves_all (take_row m c).0 ≡ true
unfolding row_changes take_row
take_left_out m c h = by_mail (inbox m c.0) h
  where
    by_mail : (mails : List Mail) → entered (not (is_empty mails)) (take_from m c mails).0 ≡ false
        → leaves_all (take_from m c mails).0 ≡ true
    by_mail [] h = refl
    by_mail (mail ∷ rest) h =
        let filled : is_empty (mail ∷ rest) ≡ false = eqb-suc-zero (length rest) in
        absurd (true≢false (sym (ap (λ (b : Bool). entered (not b) (Taken mail)) filled) ∙ h))

leave_left_out : (m : MediumState) (c : SysId) (e : ℕ)
    → entered (row_changes m c (acts.Leave e)) (leave_row m c e).0 ≡ false → leaves_all (leave_row m c e).0 ≡ true
unfolding row_changes leave_row leave_reply
leave_left_out m c e h = by_notice (is_noticed m c e) (manages m c e) h
  where
    left : MediumState
    left = cond (leave_changes (word m e) c) (record m { words = left_words m.words e c; rest = awake m c }) m

    by_kept : (b changed : Bool) → entered changed (cond b (Kept (interest (word m e))) Left) ≡ false
        → leaves_all (cond b (Kept (interest (word m e))) Left) ≡ true
    by_kept true changed h = refl
    by_kept false true h = cc
    by_kept false false h = cc

    by_notice : (b own : Bool)
        → entered (not b && leave_changes (word m e) c)
        (cond {A = Reply × MediumState} b (cond own Yours Old, m)
        (cond (is_kept (word m e) c) (Kept (interest (word m e))) Left, left)).0
        ≡ false
        → leaves_all
        (cond {A = Reply × MediumState} b (cond own Yours Old, m)
        (cond (is_kept (word m e) c) (Kept (interest (word m e))) Left, left)).0
        ≡ true
    by_notice true true h = refl
    by_notice true false h = refl
    by_notice false own h = by_kept (is_kept (word m e) c) (leave_changes (word m e) c) h

purge_left_out : (m : MediumState) (c t : SysId) → entered (row_changes m c (acts.Purge t)) (purge_row m c t).0 ≡ false
    → leaves_all (purge_row m c t).0 ≡ true
unfolding row_changes purge_row
purge_left_out m c t h = by_living (is_live m t) h
  where
    by_living : (b : Bool)
        → entered b (cond {A = Reply × MediumState} b (Purged, without_target m c t) (NoSuch, m)).0 ≡ false
        → leaves_all (cond {A = Reply × MediumState} b (Purged, without_target m c t) (NoSuch, m)).0 ≡ true
    by_living true h = cc
    by_living false h = cc

rest_left_out : (m : MediumState) (c : SysId) → leaves_all (rest_row m c).0 ≡ true
unfolding rest_row
rest_left_out m c = by_end (all_rest (resting m c) && medium_at_end (resting m c))
  where
    by_end : (b : Bool) → leaves_all (cond b Over Resting) ≡ true
    by_end true = refl
    by_end false = refl

mail_entered : (m : MediumState) (c : SysId) (act : Act) (reply : Reply) → row_changes m c act ≡ true
    → entered (row_changes m c act) reply ≡ false → leaves_all reply ≡ true
mail_entered m c act reply changes h =
    let clash : true ≡ false = sym (ap (λ b. b || is_acted_on reply) changes) ∙ h in absurd (cc)

settles : (m : MediumState) (c to : SysId) (mail : Mail) → row_changes m c (acts.Settle to mail) ≡ true
unfolding row_changes
settles m c to mail = refl

tells : (m : MediumState) (c to : SysId) (mail : Mail) → row_changes m c (acts.Tell to mail) ≡ true
unfolding row_changes
tells m c to mail = refl

row_left_out : (m : MediumState) (c : SysId) (act : Act) → entered (row_changes m c act) (row m c act).0 ≡ false
    → leaves_all (row m c act).0 ≡ true
unfolding row
row_left_out m c (acts.Turn out) h = turn_left_out m c out h
row_left_out m c (acts.Switch words) h = switch_left_out m c words h
row_left_out m c (acts.Submit e q) h = submit_left_out m c e q h
row_left_out m c acts.Take h = take_left_out m c h
row_left_out m c (acts.Settle to mail) h = mail_entered m c (acts.Settle to mail) _ (settles m c to mail) h
row_left_out m c (acts.Tell to mail) h = mail_entered m c (acts.Tell to mail) _ (tells m c to mail) h
row_left_out m c (acts.Leave e) h = leave_left_out m c e h
row_left_out m c (acts.Purge t) h = purge_left_out m c t h
row_left_out m c acts.Rest h = rest_left_out m c

pub leaves_all-left_out : (m : MediumState) (c : SysId) (call : Call) → is_entered m c call ≡ false
    → leaves_all (reply_to m c call) ≡ true
unfolding is_entered changes apply
leaves_all-left_out m c call h = by_checks (has m.removed c.0) (call.known == m.removed) h
  where
    by_checks : (b d : Bool)
        → entered (not b && d && row_changes m c call.act)
        (cond {A = Reply × MediumState} b (Removed, m) (cond d (row m c call.act) (Stale m.removed, m))).0
        ≡ false
        → leaves_all (cond {A = Reply × MediumState} b (Removed, m) (cond d (row m c call.act) (Stale m.removed, m))).0
        ≡ true
    by_checks true d h = refl
    by_checks false true h = row_left_out m c call.act h
    by_checks false false h = cc
