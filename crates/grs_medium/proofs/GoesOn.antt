-- Each call keeps that the message waits for live systems alone.
use Rattle.std.proofs.Common.{ℕ, ◌≡◌, ◌≢◌, ◌<◌, Bool, true, false, cond, not, ◌&&◌, List, Option, Some, None, refl, sym}
use Rattle.std.proofs.Common.{ap, ◌∙◌, subst, arith, ◌∷◌, []}
use Rattle.std.specs.Prelude.{nat_lt, ◌==◌}
use Rattle.std.proofs.lemmas.Bool.{and_parts, and_right, ltb-true, lt-ltb, true≢false}
use Rattle.grs_base.specs.declared.resource.SysId.{SysId}
use Rattle.grs_wire.specs.Masks.{has, with_also, others}
use Rattle.grs_wire.specs.declared.medium.Act.{Act}
use Rattle.grs_wire.specs.declared.medium.Act.TheVariants.{Turn, Switch, Submit, Take, Settle, Tell, Leave, Purge, Rest}
use Rattle.grs_wire.specs.declared.medium.Call.{Call}
use Rattle.grs_wire.specs.declared.medium.Mail.{Mail}
use Rattle.grs_wire.specs.declared.medium.Reply.{Reply}
use Rattle.grs_wire.specs.declared.medium.Reply.TheVariants as replies
use Rattle.grs_wire.specs.declared.request.Req.{Req}
use Rattle.grs_wire.specs.LockWords.{leave_changes, leave_reply}
use Rattle.grs_wire.specs.Unseen.{unseen}
use Rattle.grs_wire.proofs.MaskLaws.{has-with_same, has-with_other, has-zero}
use Rattle.grs_wire.proofs.WantLaws.{by_test}
use Rattle.lock_structure.specs.Words.{route, left_words, submitted_words}
use Rattle.lock_structure.specs.declared.word.Route.{Route}
use Rattle.lock_structure.specs.declared.word.Route.TheVariants as routes
use Rattle.rsa_message.specs.Message.{any_unseen, closed_by, dropped, first_number, stands_at, turned, turned_closed}
use Rattle.rsa_message.specs.Message.{turned_open, departed}
use Rattle.grs_medium.specs.Apply.{apply, row, turn_row, switch_ring, switch_row, is_noticed, notice_reply}
use Rattle.grs_medium.specs.Apply.{manages, joined, submit_on}
use Rattle.grs_medium.specs.Apply.{submit_row, take_from, take_row, mail_row, leave_row, is_live, without_system}
use Rattle.grs_medium.specs.Apply.{without_in_star, without_target, purge_row, rest_row}
use Rattle.grs_medium.specs.Apply.{medium_after}
use Rattle.grs_medium.specs.GoesOn.{WaitsForLive}
use Rattle.grs_medium.specs.Inboxes.{without_first, with_mail}
use Rattle.grs_medium.specs.Medium.{MediumState, first_medium, systems_of, live, inbox, awake, word}
use Rattle.grs_medium.proofs.LiveLaws.{has-live}
use Rattle.grs_medium.proofs.Waiting.{Masks, StandsLive, turn_masks, turn_stands, cleared_live, dropped_masks}
use Rattle.grs_medium.proofs.Waiting.{dropped_stands}

-- ---- as it is said of the set of the live systems
pub masks_of : (m : MediumState) → WaitsForLive m → Masks (live m) m.message.entries
masks_of m w u h = has-live (systems_of m) m.removed u ∙ w.masks (record { 0 = u }) h

stands_of : (m : MediumState) → WaitsForLive m → m.star ≡ false → StandsLive m.message (live m)
stands_of m w ring u low lives =
    let r = w.holder (record { 0 = u }) ring (sym (has-live (systems_of m) m.removed u) ∙ lives) in
    (r.0, r.1, has-live (systems_of m) m.removed (r.0).0 ∙ r.2)

waits_by : (m : MediumState) → Masks (live m) m.message.entries → (m.star ≡ false → m.message.closed ≡ false)
    → (m.star ≡ false → StandsLive m.message (live m)) → WaitsForLive m
waits_by m masks opened stands = record {
  masks = λ s h. sym (has-live (systems_of m) m.removed s.0) ∙ masks s.0 h;
  opened = opened;
  holder = λ s ring alive.
      let low = ltb-true s.0 (systems_of m) (and_parts (nat_lt s.0 (systems_of m)) _ alive).0 in
      let r = stands ring s.0 low (has-live (systems_of m) m.removed s.0 ∙ alive) in
      (r.0, r.1, sym (has-live (systems_of m) m.removed (r.0).0) ∙ r.2);
}

-- ---- row by row
-- Words, inboxes and flags of rest say nothing of the message.
pub beside : (m : MediumState) (words : List ℕ) (inboxes : List (List Mail)) (rest : ℕ) → WaitsForLive m
    → WaitsForLive (record m { words = words; inboxes = inboxes; rest = rest })
beside m words inboxes rest w = record { masks = w.masks; opened = w.opened; holder = w.holder }

turned_systems : (m : MediumState) (c : SysId) (out : List Req)
    → ((turned m.message c out (live m) m.rest).systems ≡ systems_of m)
    × ((turned m.message c out (live m) m.rest).closed ≡ m.message.closed)
unfolding turned
turned_systems m c out =
    by_test (λ x. (x.systems ≡ systems_of m) × (x.closed ≡ m.message.closed)) (stands_at m.message.holder c) _ m.message
    (λ here.
    by_test (λ x. (x.systems ≡ systems_of m) × (x.closed ≡ m.message.closed)) m.message.closed
    (turned_closed m.message c) (turned_open m.message c out (live m) m.rest) (λ shut. (refl, refl))
    (λ not_shut. (refl, refl)))
    (λ away. (refl, refl))

pub turn_goes : (m : MediumState) (c : SysId) (out : List Req) → WaitsForLive m → WaitsForLive (turn_row m c out).1
unfolding turn_row
turn_goes m c out w =
    let kept = turned_systems m c out in
    let same : live (turn_row m c out).1 ≡ live m = ap (λ n. others n m.removed) kept.0 in
    waits_by (turn_row m c out).1
    (subst (λ i. Masks i (turned m.message c out (live m) m.rest).entries) (sym same)
    (turn_masks m.message c out (live m) m.rest (masks_of m w)))
    (λ ring. kept.1 ∙ w.opened ring)
    (λ ring.
    subst (StandsLive (turned m.message c out (live m) m.rest)) (sym same)
    (turn_stands m.message c out (live m) m.rest (w.opened ring) (stands_of m w ring)))

shut_goes : (m : MediumState) (c : SysId) (words : List ℕ) (o : Option ℕ) → WaitsForLive m
    → WaitsForLive (switch_ring m c words o).1
unfolding closed_by
shut_goes m c words (Some first) w = w
shut_goes m c words None w = record {
  masks = w.masks;
  opened = λ ring. absurd (true≢false ring);
  holder = λ s ring. absurd (true≢false ring);
}

join_goes : (m : MediumState) (c : SysId) (entry : ℕ) → WaitsForLive m → WaitsForLive (joined m c entry)
join_goes m c entry w =
    by_test WaitsForLive (manages m c entry) m (record m { words = submitted_words m.words entry c; rest = awake m c })
    (λ own. w) (λ other. beside m (submitted_words m.words entry c) m.inboxes (awake m c) w)

submit_goes : (m : MediumState) (c : SysId) (entry : ℕ) (q : Req) (r : Route) → WaitsForLive m
    → WaitsForLive (submit_on m c entry q r).1
submit_goes m c entry q routes.Sole w = join_goes m c entry w
submit_goes m c entry q (routes.To s) w =
    let j = join_goes m c entry w in
    record { masks = j.masks; opened = j.opened; holder = j.holder }

take_goes : (m : MediumState) (c : SysId) (mails : List Mail) → WaitsForLive m → WaitsForLive (take_from m c mails).1
take_goes m c [] w = w
take_goes m c (mail ∷ rest) w = beside m m.words (without_first m.inboxes c.0) (awake m c) w

-- the systems that are live once t is removed
module _ (m : MediumState) (t : SysId) where
  abbrev after : ℕ
  after = others (systems_of m) (with_also m.removed t.0)

  gone : has after t.0 ≡ false
  gone =
      has-live (systems_of m) (with_also m.removed t.0) t.0
      ∙ and_right (nat_lt t.0 (systems_of m)) (not (has (with_also m.removed t.0) t.0))
      (ap not (has-with_same m.removed t.0))

  same : (u : ℕ) → u ≢ t.0 → has after u ≡ has (live m) u
  same u ne =
      has-live (systems_of m) (with_also m.removed t.0) u
      ∙ (ap (λ b. nat_lt u (systems_of m) && not b) (has-with_other m.removed t.0 u ne)
      ∙ sym (has-live (systems_of m) m.removed u))

drop_goes : (m : MediumState) (c t : SysId) → is_live m t ≡ true → WaitsForLive m → WaitsForLive (without_system m c t)
unfolding dropped
drop_goes m c t there w =
    waits_by (without_system m c t)
    (dropped_masks m.message c t (live m) (after m t) (same m t) (masks_of m w)) w.opened
    (λ ring. dropped_stands m.message c t (live m) (after m t) low (gone m t) (same m t) (stands_of m w ring))
  where
    low : t.0 < systems_of m
    low = ltb-true t.0 (systems_of m) (and_parts (nat_lt t.0 (systems_of m)) (not (has m.removed t.0)) there).0

depart_goes : (m : MediumState) (t : SysId) → m.star ≡ true → WaitsForLive m → WaitsForLive (without_in_star m t)
unfolding departed
depart_goes m t star w =
    waits_by (without_in_star m t) (cleared_live t (live m) (after m t) (same m t) m.message.entries (masks_of m w))
    (λ ring. absurd (true≢false (sym star ∙ ring))) (λ ring. absurd (true≢false (sym star ∙ ring)))

pub row_goes : (m : MediumState) (c : SysId) (act : Act) → WaitsForLive m → WaitsForLive (row m c act).1
unfolding row switch_row submit_row take_row mail_row leave_row purge_row rest_row
row_goes m c (Turn out) w = turn_goes m c out w
row_goes m c (Switch words) w =
    by_test Kept m.star (replies.Already, m) (switch_ring m c words (first_number (unseen c m.message.entries)))
    (λ star. w) (λ ring. shut_goes m c words (first_number (unseen c m.message.entries)) w)
  where
    Kept : Reply × MediumState → Type 0
    Kept x = WaitsForLive x.1
row_goes m c (Submit entry q) w =
    by_test Kept (is_noticed m c entry) (notice_reply m c entry, m) (submit_on m c entry q (route (word m entry) c))
    (λ noticed. w) (λ heard. submit_goes m c entry q (route (word m entry) c) w)
  where
    Kept : Reply × MediumState → Type 0
    Kept x = WaitsForLive x.1
row_goes m c Take w = take_goes m c (inbox m c.0) w
row_goes m c (Settle to mail) w = beside m m.words (with_mail m.inboxes to.0 mail) (awake m c) w
row_goes m c (Tell to mail) w = beside m m.words (with_mail m.inboxes to.0 mail) (awake m c) w
row_goes m c (Leave entry) w =
    by_test Kept (is_noticed m c entry) (notice_reply m c entry, m) (leave_reply (word m entry) c, left) (λ noticed. w)
    (λ heard.
    by_test WaitsForLive (leave_changes (word m entry) c)
    (record m { words = left_words m.words entry c; rest = awake m c }) m
    (λ leaves. beside m (left_words m.words entry c) m.inboxes (awake m c) w) (λ stays. w))
  where
    left : MediumState
    left = cond (leave_changes (word m entry) c) (record m { words = left_words m.words entry c; rest = awake m c }) m

    Kept : Reply × MediumState → Type 0
    Kept x = WaitsForLive x.1
row_goes m c (Purge t) w =
    by_test Kept (is_live m t) (replies.Purged, without_target m c t) (replies.NoSuch, m)
    (λ there.
    by_test WaitsForLive m.star (without_in_star m t) (without_system m c t) (λ star. depart_goes m t star w)
    (λ ring. drop_goes m c t there w))
    (λ gone. w)
  where
    Kept : Reply × MediumState → Type 0
    Kept x = WaitsForLive x.1
row_goes m c Rest w = beside m m.words m.inboxes (with_also m.rest c.0) w

-- any call
pub call_goes : (m : MediumState) (c : SysId) (call : Call) → WaitsForLive m → WaitsForLive (medium_after m c call)
unfolding apply
call_goes m c call w =
    by_test Kept (has m.removed c.0) (replies.Removed, m)
    (cond (call.known == m.removed) (row m c call.act) (replies.Stale m.removed, m)) (λ gone. w)
    (λ there.
    by_test Kept (call.known == m.removed) (row m c call.act) (replies.Stale m.removed, m)
    (λ knows. row_goes m c call.act w) (λ not. w))
  where
    Kept : Reply × MediumState → Type 0
    Kept x = WaitsForLive x.1

-- ---- at the start
pub start_waits : (systems entries : ℕ) (star : Bool) → WaitsForLive (first_medium systems entries star)
unfolding any_unseen
start_waits systems entries true = record {
  masks = λ s h. absurd (true≢false (sym h));
  opened = λ ring. absurd (true≢false ring);
  holder = λ s ring. absurd (true≢false ring);
}
start_waits systems entries false = record {
  masks = λ s h. absurd (true≢false (sym h));
  opened = λ ring. refl;
  holder = λ s ring alive.
      let low : s.0 < systems = ltb-true s.0 systems (and_parts (nat_lt s.0 systems) _ alive).0 in
      let some : 0 < systems = omega (arith, low) in (
        record { 0 = 0 },
        refl,
        ap (λ b. b && not (has 0 0)) (lt-ltb 0 systems some) ∙ ap not (has-zero 0),
      );
}
