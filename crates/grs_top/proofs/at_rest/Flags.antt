-- The flags of rest, and the removed systems, behind a call.
use Rattle.std.proofs.Common.{◌≡◌, ◌≢◌, ◌⊎◌, ℕ, Bool, true, false, cond, not, ◌&&◌, ◌||◌, List, [], ◌∷◌, length, Option}
use Rattle.std.proofs.Common.{Some, None, refl, ap, sym, ◌∙◌, inl, inr}
use Rattle.std.specs.Prelude.{◌==◌}
use native.Mathlib.Decide.{ℕ_discrete}
use Rattle.std.proofs.lemmas.Bool.{and_parts, eqb-true, or_from, or_parts, true≢false}
use Rattle.grs_base.specs.declared.resource.SysId.{SysId}
use Rattle.grs_medium.specs.Apply.{turn_row, switch_ring, switch_row, manages, joined, submit_on, submit_row, take_from}
use Rattle.grs_medium.proofs.Removals.{has-without_others}
use Rattle.grs_medium.specs.Apply.{take_row, mail_row, leave_row, is_live, is_noticed, notice_reply, purge_row, resting}
use Rattle.grs_medium.specs.Apply.{rest_row, without_in_star, without_system, without_target}
use Rattle.grs_medium.specs.Apply.{row, apply, reply_to, medium_after}
use Rattle.grs_medium.specs.Medium.{MediumState, awake, inbox, systems_of, word, all_rest, medium_at_end}
use Rattle.grs_wire.specs.Replies.{leaves_all}
use Rattle.grs_wire.proofs.MaskLaws.{has-without_same, has-without_other, has-with_other}
use Rattle.grs_wire.specs.LockWords.{is_kept, interest, leave_reply, leave_changes}
use Rattle.grs_wire.specs.Masks.{has, others, without, with_also}
use Rattle.grs_wire.proofs.WantLaws.{by_test}
use Rattle.grs_wire.specs.Unseen.{unseen}
use Rattle.grs_wire.specs.declared.medium.Act.{Act}
use Rattle.grs_wire.specs.declared.medium.Act.TheVariants as acts
use Rattle.grs_wire.specs.declared.medium.Call.{Call}
use Rattle.grs_wire.specs.declared.medium.Mail.{Mail}
use Rattle.grs_wire.specs.declared.medium.Reply.{Reply}
use Rattle.grs_wire.specs.declared.medium.Reply.TheVariants.{NotYours, Turned, Already, Left, Kept, Purged, NoSuch}
use Rattle.grs_wire.specs.declared.medium.Reply.TheVariants.{Old, Resting, Over, Settled, Stale, Removed, Told, Yours}
use Rattle.grs_wire.specs.declared.request.Req.{Req}
use Rattle.grs_workers.proofs.LeftOut.{turned_leaves}
use Rattle.lock_structure.specs.Words.{left_words, route, submitted_words}
use Rattle.lock_structure.specs.declared.word.Route.{Route}
use Rattle.lock_structure.specs.declared.word.Route.TheVariants as routes
use Rattle.rsa_message.specs.Message.{stands_at, moves, first_number, turn_reply, rest_after_turn, wakes}

abbrev pub is_rest : Act → Bool
is_rest acts.Rest = true
is_rest act = false

-- No flag is set behind a call that wasn't set before it.
abbrev pub Goes : MediumState → MediumState → Type 0
Goes m after = (u : ℕ) → has after.rest u ≡ true → has m.rest u ≡ true

of-without : (f c u : ℕ) → has (without f c) u ≡ true → has f u ≡ true
of-without f c u h = go (ℕ_discrete u c)
  where
    go : Dec (u ≡ c) → has f u ≡ true
    go (yes same) =
        absurd (true≢false (sym h ∙ (ap (has (without f c)) same ∙ has-without_same f c)))
    go (no other) = sym (has-without_other f c u other) ∙ h

-- nothing, or the flag of one system is cleared
same-flags : (m : MediumState) → Goes m m
same-flags m u h = h

one-cleared : (m k : MediumState) (c : SysId) → k.rest ≡ without m.rest c.0 → Goes m k
one-cleared m k c is u h = of-without m.rest c.0 u (ap (λ r. has r u) (sym is) ∙ h)

turns : (m : MediumState) (c : SysId) (out : List Req) → Goes m (turn_row m c out).1
unfolding turn_row rest_after_turn
turns m c out u h = go (wakes m.message c (length out)) h
  where
    go : (b : Bool) → has (cond b (without m.rest c.0) m.rest) u ≡ true → has m.rest u ≡ true
    go true k = of-without m.rest c.0 u k
    go false k = k

switches : (m : MediumState) (c : SysId) (words : List ℕ) → Goes m (switch_row m c words).1
unfolding switch_row
switches m c words = go m.star (first_number (unseen c m.message.entries))
  where
    go : (b : Bool) (o : Option ℕ)
        → Goes m (cond {A = Reply × MediumState} b (Already, m) (switch_ring m c words o)).1
    go true o = same-flags m
    go false None = one-cleared m (switch_ring m c words None).1 c refl
    go false (Some n) = same-flags m

joins : (m : MediumState) (c : SysId) (e : ℕ) → Goes m (joined m c e)
joins m c e =
    by_test (Goes m) (manages m c e) m (record m { words = submitted_words m.words e c; rest = awake m c })
    (λ own. same-flags m)
    (λ other. one-cleared m (record m { words = submitted_words m.words e c; rest = awake m c }) c refl)

submits : (m : MediumState) (c : SysId) (e : ℕ) (q : Req) → Goes m (submit_row m c e q).1
unfolding submit_row
submits m c e q =
    by_test (λ (x : Reply × MediumState). Goes m x.1) (is_noticed m c e) (notice_reply m c e, m)
    (submit_on m c e q (route (word m e) c)) (λ noticed. same-flags m) (λ heard. go (route (word m e) c))
  where
    go : (r : Route) → Goes m (submit_on m c e q r).1
    go routes.Sole = joins m c e
    go (routes.To s) = joins m c e

takes : (m : MediumState) (c : SysId) → Goes m (take_row m c).1
unfolding take_row
takes m c = go (inbox m c.0)
  where
    go : (mails : List Mail) → Goes m (take_from m c mails).1
    go [] = same-flags m
    go (mail ∷ rest) = one-cleared m (take_from m c (mail ∷ rest)).1 c refl

leaves : (m : MediumState) (c : SysId) (e : ℕ) → Goes m (leave_row m c e).1
unfolding leave_row
leaves m c e =
    by_test (λ (x : Reply × MediumState). Goes m x.1) (is_noticed m c e) (notice_reply m c e, m) (
      leave_reply (word m e) c,
      cond (leave_changes (word m e) c) (record m { words = left_words m.words e c; rest = awake m c }) m,
    )
    (λ noticed. same-flags m)
    (λ heard.
    by_test (Goes m) (leave_changes (word m e) c) (record m { words = left_words m.words e c; rest = awake m c }) m
    (λ goes. one-cleared m (record m { words = left_words m.words e c; rest = awake m c }) c refl)
    (λ stays. same-flags m))

purges : (m : MediumState) (c t : SysId) → Goes m (purge_row m c t).1
unfolding purge_row
purges m c t =
    by_test (λ (x : Reply × MediumState). Goes m x.1) (is_live m t) (Purged, without_target m c t) (NoSuch, m)
    (λ lives.
    by_test (Goes m) m.star (without_in_star m t) (without_system m c t)
    (λ star u h.
    (and_parts (has m.rest u) (not (has (others (systems_of m) (with_also m.removed t.0)) u))
    (sym (has-without_others (systems_of m) (with_also m.removed t.0) m.rest u) ∙ h)).0)
    (λ ring. one-cleared m (without_system m c t) c refl))
    (λ gone. same-flags m)

rows : (m : MediumState) (c : SysId) (act : Act) → is_rest act ≡ false → Goes m (row m c act).1
unfolding row mail_row
rows m c (acts.Turn out) h = turns m c out
rows m c (acts.Switch words) h = switches m c words
rows m c (acts.Submit e q) h = submits m c e q
rows m c acts.Take h = takes m c
rows m c (acts.Settle to mail) h = one-cleared m (mail_row Settled m c to mail).1 c refl
rows m c (acts.Tell to mail) h = one-cleared m (mail_row Told m c to mail).1 c refl
rows m c (acts.Leave e) h = leaves m c e
rows m c (acts.Purge t) h = purges m c t
rows m c acts.Rest h = absurd (true≢false h)

pub goes : (m : MediumState) (c : SysId) (call : Call) → is_rest call.act ≡ false → Goes m (medium_after m c call)
unfolding apply
goes m c call h = go (has m.removed c.0) (call.known == m.removed)
  where
    go : (b d : Bool)
        → Goes m (cond {A = Reply × MediumState} b (Removed, m) (cond d (row m c call.act) (Stale m.removed, m))).1
    go true d = same-flags m
    go false true = rows m c call.act h
    go false false = same-flags m

-- a flag that isn't set stays so, unless its system rests
pub stays_off : (m : MediumState) (c : SysId) (call : Call) → is_rest call.act ≡ false → has m.rest c.0 ≡ false
    → has (medium_after m c call).rest c.0 ≡ false
stays_off m c call h off = go (has (medium_after m c call).rest c.0) refl
  where
    go : (b : Bool) → has (medium_after m c call).rest c.0 ≡ b → b ≡ false
    go true set = absurd (true≢false (sym (goes m c call h c.0 set) ∙ off))
    go false is = refl

-- a rest sets the flag of its system, where it comes to it
rest-goes : (m : MediumState) (c : SysId) (known : ℕ)
    → ((medium_after m c (record { known = known; act = acts.Rest })).rest ≡ m.rest)
    ⊎ ((medium_after m c (record { known = known; act = acts.Rest })).rest ≡ with_also m.rest c.0)
unfolding apply row rest_row
rest-goes m c known = go (has m.removed c.0) (known == m.removed)
  where
    go : (b d : Bool)
        → ((cond {A = Reply × MediumState} b (Removed, m) (cond d (rest_row m c) (Stale m.removed, m))).1.rest ≡ m.rest)
        ⊎ ((cond {A = Reply × MediumState} b (Removed, m) (cond d (rest_row m c) (Stale m.removed, m))).1.rest
        ≡ with_also m.rest c.0)
    go true d = inl refl
    go false true = inr refl
    go false false = inl refl

-- and it comes to that by a system that knows who was removed
pub rest_knows : (m : MediumState) (c : SysId) (known : ℕ)
    → has (medium_after m c (record { known = known; act = acts.Rest })).rest c.0 ≡ true
    → (has m.rest c.0 ≡ true) ⊎ (known ≡ m.removed)
unfolding apply row rest_row
rest_knows m c known h = go (has m.removed c.0) (known == m.removed) refl h
  where
    go : (b d : Bool) → (known == m.removed) ≡ d
        → has (cond {A = Reply × MediumState} b (Removed, m) (cond d (rest_row m c) (Stale m.removed, m))).1.rest c.0
        ≡ true
        → (has m.rest c.0 ≡ true) ⊎ (known ≡ m.removed)
    go true d e k = inl k
    go false true e k = inr (eqb-true known m.removed e)
    go false false e k = inl k

-- no other system's flag is set
pub others_stay : (m : MediumState) (c : SysId) (call : Call) (u : ℕ) → u ≢ c.0
    → has (medium_after m c call).rest u ≡ true → has m.rest u ≡ true
others_stay m c call u other h = by_rest (is_rest call.act) refl
  where
    by_act : (act : Act) → is_rest act ≡ true → (known : ℕ)
        → has (medium_after m c (record { known = known; act = act })).rest u ≡ true → has m.rest u ≡ true
    by_act acts.Rest is known set = by_end (rest-goes m c known)
      where
        by_end :
            (((medium_after m c (record { known = known; act = acts.Rest })).rest ≡ m.rest)
            ⊎ ((medium_after m c (record { known = known; act = acts.Rest })).rest ≡ with_also m.rest c.0))
            → has m.rest u ≡ true
        by_end (inl same) = ap (λ r. has r u) (sym same) ∙ set
        by_end (inr also) = sym (has-with_other m.rest c.0 u other) ∙ (ap (λ r. has r u) (sym also) ∙ set)
    by_act (acts.Turn out) is known set = absurd (true≢false (sym is))
    by_act (acts.Switch words) is known set = absurd (true≢false (sym is))
    by_act (acts.Submit e q) is known set = absurd (true≢false (sym is))
    by_act acts.Take is known set = absurd (true≢false (sym is))
    by_act (acts.Settle to mail) is known set = absurd (true≢false (sym is))
    by_act (acts.Tell to mail) is known set = absurd (true≢false (sym is))
    by_act (acts.Leave e) is known set = absurd (true≢false (sym is))
    by_act (acts.Purge t) is known set = absurd (true≢false (sym is))

    by_rest : (b : Bool) → is_rest call.act ≡ b → has m.rest u ≡ true
    by_rest true is = by_act call.act is call.known h
    by_rest false is = goes m c call is u h

-- ---- replies that leave a system as it is but for what it knows of removed ones

abbrev pub Leaves : Reply → Type 0
Leaves r = (leaves_all r ≡ true) ⊎ ((set : ℕ) × (r ≡ Stale set))

-- a look into the inbox behind which the flag is set still found nothing
pub take_leaves : (m : MediumState) (c : SysId) (known : ℕ)
    → has (medium_after m c (record { known = known; act = acts.Take })).rest c.0 ≡ true
    → Leaves (reply_to m c (record { known = known; act = acts.Take }))
unfolding apply row take_row
take_leaves m c known h = go (has m.removed c.0) (known == m.removed) h
  where
    by_mail : (mails : List Mail) → has (take_from m c mails).1.rest c.0 ≡ true → Leaves (take_from m c mails).0
    by_mail [] h = inl refl
    by_mail (mail ∷ rest) h = absurd (true≢false (sym h ∙ has-without_same m.rest c.0))

    go : (b d : Bool)
        → has (cond {A = Reply × MediumState} b (Removed, m)
        (cond d (take_from m c (inbox m c.0)) (Stale m.removed, m))).1.rest
        c.0
        ≡ true
        → Leaves (cond {A = Reply × MediumState} b (Removed, m)
        (cond d (take_from m c (inbox m c.0)) (Stale m.removed, m))).0
    go true d h = inl refl
    go false true h = by_mail (inbox m c.0) h
    go false false h = inr (m.removed, refl)

-- a Turn behind which it is gave and put in nothing
turn_still : (m : MediumState) (c : SysId) (out : List Req) → has (turn_row m c out).1.rest c.0 ≡ true
    → Leaves (turn_row m c out).0
unfolding turn_row turn_reply rest_after_turn wakes
turn_still m c out h = by_place (stands_at m.message.holder c) h
  where
    by_moves : (b : Bool) → has (cond b (without m.rest c.0) m.rest) c.0 ≡ true → b ≡ false
    by_moves true h = absurd (true≢false (sym h ∙ has-without_same m.rest c.0))
    by_moves false h = refl

    by_place : (b : Bool)
        → has (cond (b && (m.message.closed || moves m.message c (length out))) (without m.rest c.0) m.rest) c.0 ≡ true
        → Leaves (cond b (Turned (unseen c m.message.entries) (cond m.message.closed 0 (length out)) m.message.closed)
        (NotYours m.message.holder))
    by_place true h =
        let parts =
        or_parts m.message.closed (moves m.message c (length out))
        (by_moves (m.message.closed || moves m.message c (length out)) h) in
        let still : (m.message.closed || moves m.message c (length out)) ≡ false =
        or_from m.message.closed (moves m.message c (length out)) parts.0 parts.1 in
        inl (turned_leaves m.message c (length out) m.message.closed false
        (or_from (m.message.closed || moves m.message c (length out)) false still refl))
    by_place false h = inl refl

pub turn_leaves : (m : MediumState) (c : SysId) (known : ℕ) (out : List Req)
    → has (medium_after m c (record { known = known; act = acts.Turn out })).rest c.0 ≡ true
    → Leaves (reply_to m c (record { known = known; act = acts.Turn out }))
unfolding apply row
turn_leaves m c known out h = go (has m.removed c.0) (known == m.removed) h
  where
    go : (b d : Bool)
        → has (cond {A = Reply × MediumState} b (Removed, m) (cond d (turn_row m c out) (Stale m.removed, m))).1.rest
        c.0
        ≡ true
        → Leaves (cond {A = Reply × MediumState} b (Removed, m) (cond d (turn_row m c out) (Stale m.removed, m))).0
    go true d h = inl refl
    go false true h = turn_still m c out h
    go false false h = inr (m.removed, refl)

-- interest that is given up, or kept
pub leave_leaves : (m : MediumState) (c : SysId) (known e : ℕ)
    → Leaves (reply_to m c (record { known = known; act = acts.Leave e }))
    ⊎ (reply_to m c (record { known = known; act = acts.Leave e }) ≡ Left)
unfolding apply row leave_row leave_reply
leave_leaves m c known e =
    go (cond (leave_changes (word m e) c) (record m { words = left_words m.words e c; rest = awake m c }) m)
    (has m.removed c.0) (known == m.removed) (is_noticed m c e) (manages m c e) (is_kept (word m e) c)
  where
    go : (x : MediumState) (b d f g k : Bool)
        → Leaves (cond {A = Reply × MediumState} b (Removed, m)
        (cond d (cond f (cond g Yours Old, m) (cond k (Kept (interest (word m e))) Left, x)) (Stale m.removed, m))).0
        ⊎ ((cond {A = Reply × MediumState} b (Removed, m)
        (cond d (cond f (cond g Yours Old, m) (cond k (Kept (interest (word m e))) Left, x)) (Stale m.removed, m))).0
        ≡ Left)
    go x true d f g k = inl (inl refl)
    go x false true true true k = inl (inl refl)
    go x false true true false k = inl (inl refl)
    go x false true false g true = inl (inl refl)
    go x false true false g false = inr refl
    go x false false f g k = inl (inr (m.removed, refl))

pub rest_leaves : (m : MediumState) (c : SysId) (known : ℕ)
    → Leaves (reply_to m c (record { known = known; act = acts.Rest }))
unfolding apply row rest_row
rest_leaves m c known =
    go (has m.removed c.0) (known == m.removed) (all_rest (resting m c) && medium_at_end (resting m c))
  where
    go : (b d k : Bool)
        → Leaves (cond {A = Reply × MediumState} b (Removed, m)
        (cond d (cond k Over Resting, resting m c) (Stale m.removed, m))).0
    go true d k = inl refl
    go false true true = inl refl
    go false true false = inl refl
    go false false k = inr (m.removed, refl)
