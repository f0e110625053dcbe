-- When the answers of star mode come.
use Rattle.std.proofs.Common.{◌≡◌, ℕ, Bool, true, false, cond, not, ◌&&◌, ◌||◌, List, [], ◌∷◌, length, refl, ap, sym}
use Rattle.std.proofs.Common.{subst}
use Rattle.std.proofs.Common.{arith}
use Rattle.std.specs.Prelude.{◌↔◌, Option, Some, None, is_none, ◌==◌}
use Rattle.std.proofs.lemmas.Bool.{eqb-true, false≢true, true≢false}
use Rattle.grs_base.specs.declared.resource.SysId.{SysId}
use Rattle.grs_wire.specs.declared.request.Req.{Req}
use Rattle.grs_wire.specs.declared.medium.Act.{Act}
use Rattle.grs_wire.specs.declared.medium.Act.TheVariants.{Submit, Take, Settle, Tell, Leave}
use Rattle.grs_wire.specs.declared.medium.Mail.{Mail}
use Rattle.grs_wire.specs.declared.medium.Reply.TheVariants.{Sole, Sent, Taken, Empty, Settled, Told, Left, Kept}
use Rattle.grs_wire.specs.declared.medium.Reply.TheVariants.{Yours, Old}
use Rattle.grs_wire.specs.declared.medium.Reply.{Reply}
use Rattle.grs_wire.specs.LockWords.{manager, is_manager, is_kept, interest, leave_reply, leave_changes}
use Rattle.lock_structure.proofs.Others.{kept-where}
use Rattle.lock_structure.specs.Words.{route_by, route, left_words}
use Rattle.lock_structure.specs.declared.word.Route.{Route}
use Rattle.lock_structure.specs.declared.word.Route.TheVariants as routes
use Rattle.grs_medium.specs.Apply.{is_noticed, manages, submit_on, submit_row, take_from, take_row, mail_row}
use Rattle.grs_medium.specs.Apply.{leave_row, row}
use Rattle.grs_medium.specs.Inboxes.{is_empty, first_mail}
use Rattle.grs_medium.specs.Medium.{MediumState, awake, inbox, word}
use Rattle.grs_medium.specs.Causes.{submits_alone, submits_to_another, taken_mail, takes_nothing, settles, tells}
use Rattle.grs_medium.specs.Causes.{leaves_others, leaves, interested, SoleComes, SentComes, TakenComes, EmptyComes}
use Rattle.grs_medium.specs.Causes.{SettledComes, ToldComes, KeptComes, LeftComes, YoursComes, OldComes}
use Rattle.grs_medium.specs.Causes.{is_forestalled, is_its_own}
use Rattle.grs_medium.proofs.Replies.{neither, other_reply, never, heard}

-- A call that a notice forestalls is answered as it says; any other by its row.
unless_noticed : {M C : Type 0} (b own : Bool) (m : M) (x : Reply × M) (reply : Reply) → ¬ (Yours ≡ reply)
    → ¬ (Old ≡ reply) → ((x.0 ≡ reply) ↔ C)
    → ((cond {A = Reply × M} b (cond own Yours Old, m) x).0 ≡ reply) ↔ ((not b ≡ true) × C)
unless_noticed true true m x reply yours old law = neither yours (λ p. false≢true p.0)
unless_noticed true false m x reply yours old law = neither old (λ p. false≢true p.0)
unless_noticed false own m x reply yours old law = (λ e. (refl, law.0 e), λ p. law.1 p.1)

both_hold : {A : Type 0} (b d : Bool) → (A ↔ ((not b ≡ true) × (d ≡ true))) → A ↔ ((not b && d) ≡ true)
both_hold true d law = (λ a. absurd (false≢true (law.0 a).0), λ e. absurd (false≢true e))
both_hold false d law = (λ a. (law.0 a).1, λ e. law.1 (refl, e))

both_and : {A C : Type 0} (b d : Bool) → (A ↔ ((not b ≡ true) × ((d ≡ true) × C)))
    → A ↔ (((not b && d) ≡ true) × C)
both_and true d law = (λ a. absurd (false≢true (law.0 a).0), λ p. absurd (false≢true p.0))
both_and false d law = (λ a. (law.0 a).1, λ p. law.1 (refl, p))

noticed_yours : {M : Type 0} (b own : Bool) (m : M) (x : Reply × M) → ¬ (x.0 ≡ Yours)
    → ((cond {A = Reply × M} b (cond own Yours Old, m) x).0 ≡ Yours) ↔ ((b ≡ true) × (own ≡ true))
noticed_yours true true m x other = (λ e. (refl, refl), λ p. refl)
noticed_yours true false m x other = neither (λ e. absurd cc) (λ p. false≢true p.1)
noticed_yours false own m x other = neither other (λ p. false≢true p.0)

noticed_old : {M : Type 0} (b own : Bool) (m : M) (x : Reply × M) → ¬ (x.0 ≡ Old)
    → ((cond {A = Reply × M} b (cond own Yours Old, m) x).0 ≡ Old) ↔ ((b ≡ true) × (own ≡ false))
noticed_old true true m x other = neither (λ e. absurd cc) (λ p. true≢false p.1)
noticed_old true false m x other = (λ e. (refl, refl), λ p. refl)
noticed_old false own m x other = neither other (λ p. false≢true p.0)

-- the rows of a Submit, a Take and a Leave
submit_sole : (m : MediumState) (c : SysId) (entry : ℕ) (req : Req) (o : Option SysId)
    → ((submit_on m c entry req (route_by o c)).0 ≡ Sole) ↔ ((is_none o || is_manager o c) ≡ true)
submit_sole m c entry req None = (λ e. refl, λ e. refl)
submit_sole m c entry req (Some s) = by_self (s.0 == c.0)
  where
    by_self : (b : Bool) → ((submit_on m c entry req (cond b routes.Sole (routes.To s))).0 ≡ Sole) ↔ (b ≡ true)
    by_self true = (λ e. refl, λ e. refl)
    by_self false = neither (λ e. absurd cc) false≢true

submit_sent : (m : MediumState) (c : SysId) (entry : ℕ) (req : Req) (o : Option SysId)
    → ((submit_on m c entry req (route_by o c)).0 ≡ Sent) ↔ (not (is_none o || is_manager o c) ≡ true)
submit_sent m c entry req None = neither (λ e. absurd cc) false≢true
submit_sent m c entry req (Some s) = by_self (s.0 == c.0)
  where
    by_self : (b : Bool) → ((submit_on m c entry req (cond b routes.Sole (routes.To s))).0 ≡ Sent) ↔ (not b ≡ true)
    by_self true = neither (λ e. absurd cc) false≢true
    by_self false = (λ e. refl, λ e. refl)

take_taken : (m : MediumState) (c : SysId) (mails : List Mail) (mail : Mail) → ((take_from m c mails).0 ≡ Taken mail)
    ↔ (first_mail mails ≡ Some mail)
take_taken m c [] mail = neither (λ e. absurd cc) (λ e. absurd cc)
take_taken m c (first ∷ rest) mail = (λ e. cc, λ e. cc)

take_empty : (m : MediumState) (c : SysId) (mails : List Mail) → ((take_from m c mails).0 ≡ Empty)
    ↔ (is_empty mails ≡ true)
take_empty m c [] = (λ e. refl, λ e. refl)
take_empty m c (first ∷ rest) =
    neither (λ e. absurd cc)
    (λ h. let none : length (first ∷ rest) ≡ 0 = eqb-true (length (first ∷ rest)) 0 h in absurd (omega arith))

leave_kept : (b : Bool) (given mask : ℕ) → (cond b (Kept given) Left ≡ Kept mask) ↔ ((b ≡ true) × (mask ≡ given))
leave_kept true given mask = (λ e. (refl, cc), λ p. ap Kept (sym p.1))
leave_kept false given mask = neither (λ e. absurd cc) (λ p. false≢true p.0)

leave_left : (b : Bool) (given : ℕ) → (cond b (Kept given) Left ≡ Left) ↔ (not b ≡ true)
leave_left true given = neither (λ e. absurd cc) false≢true
leave_left false given = (λ e. refl, λ e. refl)

-- neither row is answered what a notice answers
submit_other : (m : MediumState) (c : SysId) (entry : ℕ) (req : Req) (r : Route)
    → (¬ ((submit_on m c entry req r).0 ≡ Yours)) × (¬ ((submit_on m c entry req r).0 ≡ Old))
submit_other m c entry req routes.Sole = (λ e. absurd cc, λ e. absurd cc)
submit_other m c entry req (routes.To s) = (λ e. absurd cc, λ e. absurd cc)

leave_other : (b : Bool) (mask : ℕ) → (¬ (cond b (Kept mask) Left ≡ Yours)) × (¬ (cond b (Kept mask) Left ≡ Old))
leave_other true mask = (λ e. absurd cc, λ e. absurd cc)
leave_other false mask = (λ e. absurd cc, λ e. absurd cc)

always : {A : Type 0} → A → A ↔ (true ≡ true)
always a = (λ x. refl, λ y. a)

-- each reply to an act
row_sole : (m : MediumState) (c : SysId) (act : Act) → ((row m c act).0 ≡ Sole) ↔ (submits_alone m c act ≡ true)
unfolding row submit_row route
row_sole m c (Submit entry req) =
    both_hold (is_noticed m c entry) _
    (unless_noticed (is_noticed m c entry) (manages m c entry) m
    (submit_on m c entry req (route_by (manager (word m entry)) c))
    Sole (λ e. absurd cc) (λ e. absurd cc) (submit_sole m c entry req (manager (word m entry))))
row_sole m c act = never m c act Sole refl

row_sent : (m : MediumState) (c : SysId) (act : Act) → ((row m c act).0 ≡ Sent) ↔ (submits_to_another m c act ≡ true)
unfolding row submit_row route
row_sent m c (Submit entry req) =
    both_hold (is_noticed m c entry) _
    (unless_noticed (is_noticed m c entry) (manages m c entry) m
    (submit_on m c entry req (route_by (manager (word m entry)) c))
    Sent (λ e. absurd cc) (λ e. absurd cc) (submit_sent m c entry req (manager (word m entry))))
row_sent m c act = never m c act Sent refl

row_taken : (m : MediumState) (c : SysId) (act : Act) (mail : Mail) → ((row m c act).0 ≡ Taken mail)
    ↔ (taken_mail m c act ≡ Some mail)
unfolding row take_row
row_taken m c Take mail = take_taken m c (inbox m c.0) mail
row_taken m c act mail = neither (other_reply m c act (Taken mail) refl) (λ e. absurd cc)

row_empty : (m : MediumState) (c : SysId) (act : Act) → ((row m c act).0 ≡ Empty) ↔ (takes_nothing m c act ≡ true)
unfolding row take_row
row_empty m c Take = take_empty m c (inbox m c.0)
row_empty m c act = never m c act Empty refl

row_settled : (m : MediumState) (c : SysId) (act : Act) → ((row m c act).0 ≡ Settled) ↔ (settles act ≡ true)
unfolding row mail_row
row_settled m c (Settle to mail) = always refl
row_settled m c act = never m c act Settled refl

row_told : (m : MediumState) (c : SysId) (act : Act) → ((row m c act).0 ≡ Told) ↔ (tells act ≡ true)
unfolding row mail_row
row_told m c (Tell to mail) = always refl
row_told m c act = never m c act Told refl

-- the medium behind a Leave that no notice forestalls
abbrev left_medium : MediumState → SysId → ℕ → MediumState
left_medium m c entry =
    cond (leave_changes (word m entry) c) (record m { words = left_words m.words entry c; rest = awake m c }) m

-- any other Leave is one that isn't forestalled and keeps nobody
left_hold : {A : Type 0} (b d : Bool) → (A ↔ ((not b ≡ true) × (not d ≡ true)))
    → A ↔ ((not b && not (not b && d)) ≡ true)
left_hold true d law = (λ a. absurd (false≢true (law.0 a).0), λ e. absurd (false≢true e))
left_hold false d law = (λ a. (law.0 a).1, λ e. law.1 (refl, e))

row_kept : (m : MediumState) (c : SysId) (act : Act) (mask : ℕ) → ((row m c act).0 ≡ Kept mask)
    ↔ ((leaves_others m c act ≡ true) × (mask ≡ interested m act))
unfolding row leave_row leave_reply
row_kept m c (Leave entry) mask =
    both_and (is_noticed m c entry) _
    (unless_noticed (is_noticed m c entry) (manages m c entry) m
    (cond (is_kept (word m entry) c) (Kept (interest (word m entry))) Left, left_medium m c entry) (Kept mask)
    (λ e. absurd cc) (λ e. absurd cc)
    (subst (λ (b : Bool).
    (cond (is_kept (word m entry) c) (Kept (interest (word m entry))) Left ≡ Kept mask)
    ↔ ((b ≡ true) × (mask ≡ interest (word m entry))))
    (kept-where (word m entry) c)
    (leave_kept (is_kept (word m entry) c) (interest (word m entry)) mask)))
row_kept m c act mask = neither (other_reply m c act (Kept mask) refl) (λ p. false≢true p.0)

row_left : (m : MediumState) (c : SysId) (act : Act) → ((row m c act).0 ≡ Left) ↔ (leaves m c act ≡ true)
unfolding row leave_row leave_reply
row_left m c (Leave entry) =
    left_hold (is_noticed m c entry) _
    (unless_noticed (is_noticed m c entry) (manages m c entry) m
    (cond (is_kept (word m entry) c) (Kept (interest (word m entry))) Left, left_medium m c entry) Left
    (λ e. absurd cc) (λ e. absurd cc)
    (subst (λ (b : Bool).
    (cond (is_kept (word m entry) c) (Kept (interest (word m entry))) Left ≡ Left) ↔ (not b ≡ true))
    (kept-where (word m entry) c)
    (leave_left (is_kept (word m entry) c) (interest (word m entry)))))
row_left m c act = never m c act Left refl

row_yours : (m : MediumState) (c : SysId) (act : Act) → ((row m c act).0 ≡ Yours)
    ↔ ((is_forestalled m c act ≡ true) × (is_its_own m c act ≡ true))
unfolding row submit_row leave_row leave_reply
row_yours m c (Submit entry req) =
    noticed_yours (is_noticed m c entry) (manages m c entry) m (submit_on m c entry req (route (word m entry) c))
    (submit_other m c entry req (route (word m entry) c)).0
row_yours m c (Leave entry) =
    noticed_yours (is_noticed m c entry) (manages m c entry) m
    (cond (is_kept (word m entry) c) (Kept (interest (word m entry))) Left, left_medium m c entry)
    (leave_other (is_kept (word m entry) c) (interest (word m entry))).0
row_yours m c act = neither (other_reply m c act Yours refl) (λ p. false≢true p.0)

row_old : (m : MediumState) (c : SysId) (act : Act) → ((row m c act).0 ≡ Old)
    ↔ ((is_forestalled m c act ≡ true) × (is_its_own m c act ≡ false))
unfolding row submit_row leave_row leave_reply
row_old m c (Submit entry req) =
    noticed_old (is_noticed m c entry) (manages m c entry) m (submit_on m c entry req (route (word m entry) c))
    (submit_other m c entry req (route (word m entry) c)).1
row_old m c (Leave entry) =
    noticed_old (is_noticed m c entry) (manages m c entry) m
    (cond (is_kept (word m entry) c) (Kept (interest (word m entry))) Left, left_medium m c entry)
    (leave_other (is_kept (word m entry) c) (interest (word m entry))).1
row_old m c act = neither (other_reply m c act Old refl) (λ p. false≢true p.0)

pub yours_comes : YoursComes
yours_comes m c call = heard m c call Yours refl (row_yours m c call.act)

pub old_comes : OldComes
old_comes m c call = heard m c call Old refl (row_old m c call.act)

pub sole_comes : SoleComes
sole_comes m c call = heard m c call Sole refl (row_sole m c call.act)

pub sent_comes : SentComes
sent_comes m c call = heard m c call Sent refl (row_sent m c call.act)

pub taken_comes : TakenComes
taken_comes m c call mail = heard m c call (Taken mail) refl (row_taken m c call.act mail)

pub empty_comes : EmptyComes
empty_comes m c call = heard m c call Empty refl (row_empty m c call.act)

pub settled_comes : SettledComes
settled_comes m c call = heard m c call Settled refl (row_settled m c call.act)

pub told_comes : ToldComes
told_comes m c call = heard m c call Told refl (row_told m c call.act)

pub kept_comes : KeptComes
kept_comes m c call mask = heard m c call (Kept mask) refl (row_kept m c call.act mask)

pub left_comes : LeftComes
left_comes m c call = heard m c call Left refl (row_left m c call.act)
