-- Whatever is replied to its call, a system's part goes on to fit the deck.
use Rattle.std.proofs.Common.{◌≡◌, ◌<◌, ◌+◌, ℕ, Bool, true, false, cond, List, [], ◌∷◌}
use Rattle.std.proofs.Common.{length, filter, Option, Some, None, refl, sym, ◌∙◌}
use Rattle.std.proofs.Common.{subst, arith}
use Rattle.std.specs.Prelude.{is_none, not, ◌&&◌, nat_lt}
use Rattle.std.specs.Prelude.{IfSome}
use Rattle.std.specs.List.{list_all, list_any}
use Rattle.std.proofs.lemmas.Bool.{and_parts, ltb-true}
use Rattle.grs_base.specs.declared.resource.SysId.{SysId}
use Rattle.grs_base.specs.declared.resource.TaskId.{TaskId}
use Rattle.grs_node.specs.Addressed.{is_within, PartFits, AnyPartFits}
use Rattle.grs_node.specs.Addressed.{NodeFits}
use Rattle.grs_node.specs.Removal.{Standing, standing, take_up_all, lose_each, lose_all, members}
use Rattle.grs_node.specs.Removal.{without_those, move_each, took_notice, took_part}
use Rattle.grs_node.specs.Names.{names_of}
use Rattle.grs_node.specs.Node.{NodeState, Step, purged, prepare}
use Rattle.grs_node.specs.Node.{finish_quiet}
use Rattle.grs_node.specs.Node.{finish_call, finish_star, star_step, take_step, take_mail, is_for_deck, is_of_deck}
use Rattle.grs_node.specs.Node.{is_item_of, losing, losing_in, changed, stale, known_from, read_entries, put_in}
use Rattle.grs_node.specs.Node.{change_to_star, changed_if, turned, desk_told, switched}
use Rattle.grs_node.specs.Node.{took_mail}
use Rattle.grs_node.specs.Star.{StarPart, entry_asked, to_tell}
use Rattle.grs_node.specs.Star.{has_interest, gathers}
use Rattle.grs_node.specs.Star.{gathers_asked, is_busy_in}
use Rattle.grs_node.specs.Star.{is_done_with, fixing_none}
use Rattle.grs_node.specs.Star.{was_prepared}
use Rattle.grs_node.specs.Star.{send_step, settle_step, tell_step, part_step, leave_step}
use Rattle.grs_wire.specs.Masks.{has, with_also}
use Rattle.grs_wire.specs.declared.gather.Moved.{Moved}
use Rattle.grs_wire.specs.declared.gather.PartRec.{PartRec}
use Rattle.system_purge.specs.Gathers.{with_part_at}
use Rattle.grs_node.specs.Change.{part_by_table}
use Rattle.task_state.proofs.Stays.{system-telling}
use Rattle.grs_node.proofs.Calls.{call-send}
use Rattle.grs_node.proofs.Orderly.{all-items}
use Rattle.grs_node.proofs.RemovalFits.{lose-each-fits}
use Rattle.grs_node.proofs.RemovalFits.{take-up-below-fits, move-each-fits, part-fits-after}
use Rattle.grs_node.proofs.RemovalStays.{system-lost, system-losing, system-moved}
use Rattle.grs_node.proofs.ChangeFits.{part-fits, star-changed, system-changed}
use Rattle.grs_node.proofs.Keeping.{star-task, star-turned}
use Rattle.grs_node.proofs.Tables.{all-entries}
use Rattle.grs_node.specs.Finish.{may_come}
use Rattle.grs_legal.specs.Asks.{lines_of}
use Rattle.grs_wire.specs.declared.deck.Choice.{Choice}
use Rattle.grs_wire.specs.declared.deck.Deck.{Deck}
use Rattle.grs_wire.specs.declared.deck.Desk.{Desk}
use Rattle.grs_wire.specs.declared.medium.Mail.{Mail}
use Rattle.grs_wire.specs.declared.medium.Reply.{Reply}
use Rattle.grs_wire.specs.declared.medium.RingEntry.{RingEntry}
use Rattle.task_state.specs.View.{TasksView, is_task, state_of}
use Rattle.grs_wire.specs.declared.told.ToldLine.TheVariants as lines
use Rattle.grs_wire.specs.declared.told.Said.TheVariants as saids
use Rattle.grs_wire.specs.declared.deck.Choice.TheVariants as choices
use Rattle.grs_wire.specs.declared.medium.Mail.TheVariants as mails
use Rattle.grs_wire.specs.declared.medium.Reply.TheVariants as replies
use Rattle.grs_node.proofs.StepFits.{begin-fits, sent-fits, with_held-fits, settled-fits, told-fits, left-fits}
use Rattle.grs_node.proofs.StepFits.{sent-part-fits, deck-task, own-task}

-- ---- what a reply leaves
-- what holds at each kind of reply holds of all
module _ (Q : Reply → Type 0) (turned : (es : List RingEntry) (k : ℕ) (b : Bool) → Q (replies.Turned es k b))
    (not_yours : (holder : Option SysId) → Q (replies.NotYours holder)) (behind : (n : ℕ) → Q (replies.Behind n))
    (switched : Q replies.Switched) (already : Q replies.Already)
    (sole : Q replies.Sole) (sent : Q replies.Sent) (taken : (m : Mail) → Q (replies.Taken m)) (empty : Q replies.Empty)
    (settled_one : Q replies.Settled) (told_one : Q replies.Told) (left_one : Q replies.Left)
    (kept : (mask : ℕ) → Q (replies.Kept mask))
    (yours : Q replies.Yours) (old : Q replies.Old)
    (purged : Q replies.Purged) (no_such : Q replies.NoSuch) (resting : Q replies.Resting)
    (over : Q replies.Over) (stale : (set : ℕ) → Q (replies.Stale set)) (removed : Q replies.Removed) where
  pub by-reply : (reply : Reply) → Q reply
  by-reply (replies.Turned es k b) = turned es k b
  by-reply (replies.NotYours holder) = not_yours holder
  by-reply (replies.Behind n) = behind n
  by-reply replies.Switched = switched
  by-reply replies.Already = already
  by-reply replies.Sole = sole
  by-reply replies.Sent = sent
  by-reply (replies.Taken m) = taken m
  by-reply replies.Empty = empty
  by-reply replies.Settled = settled_one
  by-reply replies.Told = told_one
  by-reply replies.Left = left_one
  by-reply (replies.Kept mask) = kept mask
  by-reply replies.Yours = yours
  by-reply replies.Old = old
  by-reply replies.Purged = purged
  by-reply replies.NoSuch = no_such
  by-reply replies.Resting = resting
  by-reply replies.Over = over
  by-reply (replies.Stale set) = stale set
  by-reply replies.Removed = removed

module _ (deck : Deck) (home : ℕ) (v : TasksView) (p : StarPart) (own : v.system ≡ home)
    (below : home < length deck.systems) (fits : PartFits deck home p) where
  -- what is taken up, and what is lost before
  taken-up-fits : (names : List TaskId) (x : Standing) → x.tasks.system ≡ home → PartFits deck home x.part
      → PartFits deck home (take_up_all names x).part
  taken-up-fits names x same h =
      take-up-below-fits deck home names x (length x.part.manager.entries) (omega arith) same below h

  pub lost-all-fits : (names : List TaskId) (ss : List SysId)
      → PartFits deck home (lose_all names (standing v p) ss).part
  lost-all-fits names ss =
      taken-up-fits names (lose_each (standing v p) ss) (system-lost (standing v p) ss ∙ own)
      (lose-each-fits deck home (standing v p) ss fits)

  notice-fits : (known : ℕ) (names : List TaskId) (moved : List Moved)
      → PartFits deck home (took_notice known names (standing v p) (filter (is_item_of deck) moved)).part
  notice-fits known names moved =
      taken-up-fits names (move_each known (standing v p) (filter (is_item_of deck) moved))
      (system-moved known (standing v p) (filter (is_item_of deck) moved) ∙ own)
      (move-each-fits deck home known (standing v p) (filter (is_item_of deck) moved)
      (all-items (is_item_of deck) moved) fits)

  part-came-fits : (known : ℕ) (names : List TaskId) (e : ℕ) (s : SysId) (recs : List PartRec)
      → s.0 < length deck.systems → PartFits deck home (took_part known names (standing v p) e s recs).part
  part-came-fits known names e s recs inside = go (has known s.0)
    where
      kept : Standing
      kept = standing v (record p { gathers = with_part_at p.gathers e s recs })

      go : (b : Bool) → PartFits deck home (cond b (standing v p) (take_up_all names kept)).part
      go true = fits
      go false = taken-up-fits names kept own (part-fits-after deck home p e s recs inside fits)

  mail-fits : (known : ℕ) (mail : Mail) → PartFits deck home (take_mail deck known v p mail).part
  unfolding took_mail
  mail-fits known (mails.Request e from q) = go (nat_lt from.0 (length deck.systems)) (is_of_deck deck q.task) refl
    where
      go : (b d : Bool) → is_of_deck deck q.task ≡ d
          → PartFits deck home
          (cond (b && d) (took_mail deck known v p (mails.Request e from q)) (fixing_none v p)).part
      go false d is = fits
      go true false is = fits
      go true true is = with_held-fits deck home known p e q fits (deck-task deck q.task is)
  mail-fits known (mails.Answered t answer rank) = go (is_for_deck deck (mails.Answered t answer rank))
    where
      go : (b : Bool)
          → PartFits deck home (cond b (took_mail deck known v p (mails.Answered t answer rank)) (fixing_none v p)).part
      go true = fits
      go false = fits
  mail-fits known (mails.Granted t r) = go (is_of_deck deck t)
    where
      go : (b : Bool)
          → PartFits deck home (cond b (took_mail deck known v p (mails.Granted t r)) (fixing_none v p)).part
      go true = fits
      go false = fits
  mail-fits known (mails.Notice target moved) = go (nat_lt target.0 (length deck.systems))
    where
      go : (b : Bool)
          → PartFits deck home (cond b (took_mail deck known v p (mails.Notice target moved)) (fixing_none v p)).part
      go true = notice-fits known (names_of deck v.system) moved
      go false = fits
  mail-fits known (mails.Part e from records) =
      go (nat_lt e deck.entries) (nat_lt from.0 (length deck.systems)) refl
    where
      go : (b d : Bool) → nat_lt from.0 (length deck.systems) ≡ d
          → PartFits deck home
          (cond (b && d) (took_mail deck known v p (mails.Part e from records)) (fixing_none v p)).part
      go false d is = fits
      go true false is = fits
      go true true is =
          part-came-fits known (names_of deck v.system) e from (filter (λ r. is_of_deck deck r.task) records)
          (ltb-true from.0 (length deck.systems) is)

  send-step-fits : (t : TaskId) (reply : Reply) → is_within deck t ≡ true
      → gathers_asked p (entry_asked p (state_of v t).outstanding) ≡ false
      → PartFits deck home (send_step v p t reply).part
  send-step-fits t reply mine free =
      by-reply (λ reply. PartFits deck home (send_step v p t reply).part) (λ es k b. fits) (λ h. fits) (λ n. fits) fits
      fits (begin-fits deck home v p t (state_of v t).outstanding (entry_asked p (state_of v t).outstanding) fits mine
      free)
      (sent-fits deck home v p t (entry_asked p (state_of v t).outstanding) fits) (λ m. fits) fits fits fits fits
      (λ m. fits) fits fits fits fits fits fits (λ n. fits) fits reply

  take-step-fits : (known : ℕ) (reply : Reply) → PartFits deck home (take_step deck known v p reply).part
  take-step-fits known =
      by-reply (λ reply. PartFits deck home (take_step deck known v p reply).part) (λ es k b. fits) (λ h. fits)
      (λ n. fits) fits fits fits fits (mail-fits known) fits fits fits fits (λ m. fits) fits fits fits fits fits fits
      (λ n. fits) fits

  settle-step-fits : (reply : Reply) → PartFits deck home (settle_step v p reply).part
  settle-step-fits =
      by-reply (λ reply. PartFits deck home (settle_step v p reply).part) (λ es k b. fits) (λ h. fits) (λ n. fits) fits
      fits fits fits (λ m. fits) fits (settled-fits deck home v p fits) fits fits (λ m. fits) fits fits fits fits fits
      fits (λ n. fits) fits

  tell-step-fits : (e : ℕ) (reply : Reply) → PartFits deck home (tell_step v p e reply).part
  tell-step-fits e =
      by-reply (λ reply. PartFits deck home (tell_step v p e reply).part) (λ es k b. fits) (λ h. fits) (λ n. fits) fits
      fits fits fits (λ m. fits) fits fits (told-fits deck home p (to_tell p e) fits) fits (λ m. fits) fits fits fits
      fits fits fits (λ n. fits) fits

  part-step-fits : (e : ℕ) (reply : Reply) → PartFits deck home (part_step v p e reply).part
  part-step-fits e =
      by-reply (λ reply. PartFits deck home (part_step v p e reply).part) (λ es k b. fits) (λ h. fits) (λ n. fits) fits
      fits fits fits (λ m. fits) fits fits (sent-part-fits deck home p e fits) fits (λ m. fits) fits fits fits fits
      fits fits (λ n. fits) fits

  leave-step-fits : (e : ℕ) (reply : Reply) → is_done_with p e ≡ true
      → PartFits deck home (leave_step v p e reply).part
  leave-step-fits e reply done =
      by-reply (λ reply. PartFits deck home (leave_step v p e reply).part) (λ es k b. fits) (λ h. fits) (λ n. fits) fits
      fits fits fits (λ m. fits) fits fits fits (left-fits deck home p e fits done) (λ m. fits) fits fits fits fits fits
      fits (λ n. fits) fits reply

-- the task of a Send is of a system of the deck
abbrev Sends : Deck → Choice → Type 0
Sends deck (choices.Send t) = is_within deck t ≡ true
Sends deck choice = Unit {0}

star-step-fits : (deck : Deck) (home known : ℕ) (v : TasksView) (p : StarPart) (choice : Choice) (reply : Reply)
    → v.system ≡ home → home < length deck.systems → PartFits deck home p → Sends deck choice
    → was_prepared v p choice ≡ true → PartFits deck home (star_step deck known v p choice reply).part
star-step-fits deck home known v p (choices.Send t) reply own below h mine called =
    send-step-fits deck home v p own below h t reply mine
    (none-of (gathers_asked p (entry_asked p (state_of v t).outstanding)) (and_parts (is_task v t) _ called).1)
  where
    none-of : (b : Bool) → not b ≡ true → b ≡ false
    none-of true k = absurd cc
    none-of false k = refl
star-step-fits deck home known v p choices.Take reply own below h mine called =
    take-step-fits deck home v p own below h known reply
star-step-fits deck home known v p choices.Settle reply own below h mine called =
    settle-step-fits deck home v p own below h reply
star-step-fits deck home known v p (choices.Tell e) reply own below h mine called =
    tell-step-fits deck home v p own below h e reply
star-step-fits deck home known v p (choices.Leave e) reply own below h mine called =
    leave-step-fits deck home v p own below h e reply
    (and_parts (is_done_with p e) _
    (and_parts (not (list_any (is_busy_in p e) v.tasks)) _ (and_parts (has_interest p e) _ called).1).1).0
star-step-fits deck home known v p (choices.Part e) reply own below h mine called =
    part-step-fits deck home v p own below h e reply
star-step-fits deck home known v p (choices.Task t) reply own below h mine called = h
star-step-fits deck home known v p choices.Turn reply own below h mine called = h
star-step-fits deck home known v p choices.Switch reply own below h mine called = h
star-step-fits deck home known v p (choices.Purge s) reply own below h mine called = h
star-step-fits deck home known v p choices.Rest reply own below h mine called = h

finish-star-fits : (deck : Deck) (home : ℕ) (n : NodeState) (o : Option StarPart) (choice : Choice) (reply : Reply)
    → n.star ≡ o → n.tasks.system ≡ home → home < length deck.systems → AnyPartFits deck home o → Sends deck choice
    → IfSome o (λ p. was_prepared n.tasks p choice ≡ true)
    → AnyPartFits deck home (finish_star deck n o choice reply).node.star
unfolding finish_star
finish-star-fits deck home n None choice reply is own below h mine called = subst (AnyPartFits deck home) (sym is) h
finish-star-fits deck home n (Some p) choice reply is own below h mine called =
    star-step-fits deck home n.known n.tasks p choice reply own below h mine called

-- what is lost in star mode
losing-part : (deck : Deck) (home : ℕ) (n : NodeState) (ss : List SysId) → n.tasks.system ≡ home
    → home < length deck.systems → AnyPartFits deck home n.star → AnyPartFits deck home (losing deck n ss).star
unfolding losing
losing-part deck home n ss own below h = go n.star refl h
  where
    go : (o : Option StarPart) → n.star ≡ o → AnyPartFits deck home o
        → AnyPartFits deck home (losing_in deck n o ss).star
    go None is k = subst (AnyPartFits deck home) (sym is) k
    go (Some p) is k = lost-all-fits deck home n.tasks p own below k (names_of deck n.tasks.system) ss

-- a system that changes has the part of its table, without what it loses
changed-fits : (deck : Deck) (n : NodeState) (home : ℕ) → 0 < deck.entries → n.tasks.system ≡ home
    → home < length deck.systems → list_all (λ h. is_within deck h.1.task) n.shared ≡ true
    → AnyPartFits deck home (changed deck n).star
changed-fits deck n home some own below within =
    losing-part deck home (change_to_star deck n) (members n.known) (system-changed deck n ∙ own) below
    (subst (λ (o : Option StarPart). AnyPartFits deck home o) (sym (star-changed deck n))
    (subst (λ (m : ℕ). PartFits deck m (part_by_table deck.entries (record { 0 = n.tasks.system }) n.shared)) own
    (part-fits deck (record { 0 = n.tasks.system }) n.shared some within)))

changed-part : (deck : Deck) (closed : Bool) (s : Step) (home : ℕ) → 0 < deck.entries
    → (changed_if deck closed s).node.tasks.system ≡ home
    → home < length deck.systems → list_all (λ h. is_within deck h.1.task) s.node.shared ≡ true
    → AnyPartFits deck home s.node.star → AnyPartFits deck home (changed_if deck closed s).node.star
changed-part deck closed s home some same below within h = go (closed && is_none s.node.star) same
  where
    before : (changed deck s.node).tasks.system ≡ s.node.tasks.system
    before = system-losing deck (change_to_star deck s.node) (members s.node.known) ∙ system-changed deck s.node

    go : (b : Bool)
        → (cond b (record { node = changed deck s.node; fixed = s.fixed }) s).node.tasks.system ≡ home
        → AnyPartFits deck home (cond b (record { node = changed deck s.node; fixed = s.fixed }) s).node.star
    go true is = changed-fits deck s.node home some (sym before ∙ is) below within
    go false is = h

pub turned-part : (deck : Deck) (n : NodeState) (es : List RingEntry) (taken : ℕ) (closed : Bool) → NodeFits deck n
    → (turned deck n es taken closed).node.tasks.system ≡ n.tasks.system
    → AnyPartFits deck n.tasks.system (turned deck n es taken closed).node.star
unfolding turned put_in
turned-part deck n es taken closed fits same =
    changed-part deck closed (put_in (read_entries deck n es) taken) n.tasks.system fits.some same fits.system
    (all-entries (is_within deck) deck n es (deck-task deck) fits.shared)
    (subst (AnyPartFits deck n.tasks.system) (sym (star-turned deck n es taken)) fits.part)

switched-part : (deck : Deck) (n : NodeState) → NodeFits deck n → AnyPartFits deck n.tasks.system (switched deck n).star
unfolding switched desk_told
switched-part deck n fits = go (is_none n.star)
  where
    go : (b : Bool) → AnyPartFits deck n.tasks.system (cond b (changed deck (desk_told n saids.StarDone)) n).star
    go true =
        changed-fits deck (desk_told n saids.StarDone) n.tasks.system fits.some
        (system-telling n.tasks (lines.Desk (n.done + 1) saids.StarDone)) fits.system fits.shared
    go false = fits.part

purged-part : (deck : Deck) (n : NodeState) (choice : Choice) → NodeFits deck n
    → AnyPartFits deck n.tasks.system (purged deck n choice).node.star
unfolding purged desk_told
purged-part deck n (choices.Purge target) fits =
    losing-part deck n.tasks.system (record (desk_told n saids.VaryDone) { known = with_also n.known target.0 })
    (target ∷ []) (system-telling n.tasks (lines.Desk (n.done + 1) saids.VaryDone)) fits.system fits.part
purged-part deck n (choices.Task t) fits = fits.part
purged-part deck n choices.Turn fits = fits.part
purged-part deck n (choices.Send t) fits = fits.part
purged-part deck n choices.Take fits = fits.part
purged-part deck n choices.Settle fits = fits.part
purged-part deck n (choices.Tell e) fits = fits.part
purged-part deck n (choices.Part e) fits = fits.part
purged-part deck n (choices.Leave e) fits = fits.part
purged-part deck n choices.Switch fits = fits.part
purged-part deck n choices.Rest fits = fits.part

pub call-part : (deck : Deck) (n : NodeState) (choice : Choice) (reply : Reply) → NodeFits deck n → Sends deck choice
    → IfSome n.star (λ p. was_prepared n.tasks p choice ≡ true)
    → (finish_call deck n choice reply).node.tasks.system ≡ n.tasks.system
    → AnyPartFits deck n.tasks.system (finish_call deck n choice reply).node.star
unfolding finish_call desk_told stale
call-part deck n choice reply fits own called =
    by-reply
    (λ r.
    (finish_call deck n choice r).node.tasks.system ≡ n.tasks.system
    → AnyPartFits deck n.tasks.system (finish_call deck n choice r).node.star)
    (λ es k b same. turned-part deck n es k b fits same) (λ h same. star (replies.NotYours h))
    (λ f same. star (replies.Behind f)) (λ same. switched-part deck n fits) (λ same. fits.part)
    (λ same. star replies.Sole) (λ same. star replies.Sent) (λ m same. star (replies.Taken m))
    (λ same. star replies.Empty) (λ same. star replies.Settled) (λ same. star replies.Told)
    (λ same. star replies.Left) (λ m same. star (replies.Kept m)) (λ same. star replies.Yours)
    (λ same. star replies.Old)
    (λ same. purged-part deck n choice fits)
    (λ same. fits.part) (λ same. star replies.Resting) (λ same. star replies.Over)
    (λ set same.
    losing-part deck n.tasks.system (record n { known = known_from deck n.known set })
    (members (without_those n.known (known_from deck n.known set))) refl fits.system fits.part)
    (λ same. star replies.Removed) reply
  where
    star : (r : Reply) → AnyPartFits deck n.tasks.system (finish_star deck n n.star choice r).node.star
    star r = finish-star-fits deck n.tasks.system n n.star choice r refl refl fits.system fits.part own called

pub quiet-part : (deck : Deck) (n : NodeState) (choice : Choice) → NodeFits deck n
    → AnyPartFits deck n.tasks.system (finish_quiet deck n choice).node.star
unfolding finish_quiet
quiet-part deck n (choices.Task t) fits =
    subst (AnyPartFits deck n.tasks.system) (sym (star-task deck.limit n t (lines_of deck t))) fits.part
quiet-part deck n (choices.Send t) fits = fits.part
quiet-part deck n choices.Turn fits = fits.part
quiet-part deck n choices.Take fits = fits.part
quiet-part deck n choices.Settle fits = fits.part
quiet-part deck n (choices.Tell e) fits = fits.part
quiet-part deck n (choices.Part e) fits = fits.part
quiet-part deck n (choices.Leave e) fits = fits.part
quiet-part deck n choices.Switch fits = fits.part
quiet-part deck n (choices.Purge s) fits = fits.part
quiet-part deck n choices.Rest fits = fits.part

-- who sends is a task of the system
pub sends-call : (deck : Deck) (n : NodeState) (choice : Choice) (reply : Reply) → NodeFits deck n
    → may_come (prepare deck n choice) reply ≡ true → Sends deck choice
sends-call deck n (choices.Send t) reply fits h = own-task deck n t fits (call-send deck n t reply h)
sends-call deck n (choices.Task t) reply fits h = tt
sends-call deck n choices.Turn reply fits h = tt
sends-call deck n choices.Take reply fits h = tt
sends-call deck n choices.Settle reply fits h = tt
sends-call deck n (choices.Tell e) reply fits h = tt
sends-call deck n (choices.Part e) reply fits h = tt
sends-call deck n (choices.Leave e) reply fits h = tt
sends-call deck n choices.Switch reply fits h = tt
sends-call deck n (choices.Purge s) reply fits h = tt
sends-call deck n choices.Rest reply fits h = tt
