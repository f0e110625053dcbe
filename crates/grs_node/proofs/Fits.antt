-- A system goes on to fit the deck: its part in star mode, its table, and what it knows.
use Rattle.std.proofs.Common.{◌≡◌, ◌≢◌, ◌<◌, ◌≤◌, ℕ, Bool, true, false, cond, List, [], ◌∷◌}
use Rattle.std.proofs.Common.{length, Option, Some, None, refl, ap, sym, ◌∙◌}
use Rattle.std.proofs.Common.{subst, arith}
use Rattle.std.specs.Prelude.{All, slice_get, is_none, ◌&&◌, ◌==◌, nat_lt}
use Rattle.std.specs.List.{list_all}
use Rattle.grs_base.specs.Limits.{most_systems, most_commands}
use Rattle.std.proofs.lemmas.Bool.{and_parts, eqb-true, ltb-true}
use Rattle.grs_base.specs.declared.resource.SysId.{SysId}
use Rattle.grs_node.specs.Addressed.{is_within, TargetFits, AnyPartFits}
use Rattle.grs_node.specs.Addressed.{NodeFits}
use Rattle.grs_node.specs.Removal.{members}
use Rattle.grs_node.specs.Removal.{without_those}
use Rattle.grs_node.specs.Log.{stepped}
use Rattle.grs_node.specs.Node.{NodeState, Step, purged, purge_call, desk_of, prepare}
use Rattle.grs_node.specs.Node.{finish_quiet, only}
use Rattle.grs_node.specs.Node.{finish_call, finish_star, is_for_deck}
use Rattle.grs_node.specs.Node.{losing, losing_in, changed, stale, known_from, read_entries, put_in}
use Rattle.grs_node.specs.Node.{desk_count, next_order, change_to_star, changed_if, turned, desk_told, switched}
use Rattle.grs_node.specs.Star.{StarPart}
use Rattle.grs_wire.specs.Masks.{with_also}
use Rattle.grs_wire.specs.declared.gather.PartRec.{PartRec}
use Rattle.grs_node.specs.declared.prepared.Prepared.TheVariants.{Quiet, Call, Nothing}
use Rattle.grs_node.proofs.Calls.{came-called, target-of}
use Rattle.grs_node.proofs.Orderly.{items-named}
use Rattle.grs_node.proofs.Keeping.{shared-task}
use Rattle.grs_node.proofs.Tables.{apart-entries, all-entries}
use Rattle.mode_migrate.specs.Migrate.{AreApart}
use Rattle.grs_node.specs.Finish.{may_come}
use Rattle.grs_legal.specs.Asks.{lines_of}
use Rattle.grs_wire.specs.declared.request.Fixed.{Fixed}
use Rattle.grs_wire.specs.Decks.{IsOrderOf}
use Rattle.grs_base.specs.State.{State}
use Rattle.grs_wire.specs.declared.deck.Choice.{Choice}
use Rattle.grs_wire.specs.declared.deck.Deck.{Deck}
use Rattle.grs_wire.specs.declared.deck.Desk.{Desk}
use Rattle.grs_wire.specs.declared.deck.Order.{Order}
use Rattle.grs_wire.specs.declared.medium.Reply.{Reply}
use Rattle.grs_wire.specs.declared.medium.RingEntry.{RingEntry}
use Rattle.grs_wire.specs.declared.request.Req.{Req}
use Rattle.grs_wire.specs.declared.told.Said.TheVariants as saids
use Rattle.grs_wire.specs.declared.deck.Choice.TheVariants as choices
use Rattle.grs_wire.specs.declared.deck.Order.TheVariants as orders
use Rattle.grs_wire.specs.declared.medium.Act.TheVariants as acts
use Rattle.grs_wire.specs.declared.medium.Mail.TheVariants as mails
use Rattle.grs_wire.specs.declared.medium.Reply.TheVariants as replies
use Rattle.grs_node.proofs.StepFits.{deck-task}
use Rattle.grs_node.proofs.ReplyFits.{by-reply, turned-part, call-part, quiet-part, sends-call}

-- ---- the table afterwards
-- a table with elements of systems of the deck alone, and no task twice in a list
abbrev TableFits : Deck → State → Type 0
TableFits deck t = (list_all (λ h. is_within deck h.1.task) t ≡ true) × AreApart t

own-table : (deck : Deck) (n : NodeState) → NodeFits deck n → TableFits deck n.shared
own-table deck n fits = (fits.shared, fits.apart)

no-table : (deck : Deck) → TableFits deck []
no-table deck = (refl, λ r. refl)

-- what is lost leaves the table
shared-losing : (deck : Deck) (n : NodeState) (ss : List SysId) → (losing deck n ss).shared ≡ n.shared
unfolding losing
shared-losing deck n ss = go n.star
  where
    go : (o : Option StarPart) → (losing_in deck n o ss).shared ≡ n.shared
    go None = refl
    go (Some p) = refl

lost-table : (deck : Deck) (n : NodeState) (ss : List SysId) → TableFits deck n.shared
    → TableFits deck (losing deck n ss).shared
lost-table deck n ss h = subst (TableFits deck) (sym (shared-losing deck n ss)) h

table-changed : (deck : Deck) (n : NodeState) → TableFits deck (changed deck n).shared
unfolding change_to_star
table-changed deck n = lost-table deck (change_to_star deck n) (members n.known) (no-table deck)

changed-table : (deck : Deck) (closed : Bool) (s : Step) → TableFits deck s.node.shared
    → TableFits deck (changed_if deck closed s).node.shared
changed-table deck closed s h = go (closed && is_none s.node.star)
  where
    go : (b : Bool)
        → TableFits deck (cond b (record { node = changed deck s.node; fixed = s.fixed }) s).node.shared
    go true = table-changed deck s.node
    go false = h

turned-table : (deck : Deck) (n : NodeState) (es : List RingEntry) (taken : ℕ) (closed : Bool) → NodeFits deck n
    → TableFits deck (turned deck n es taken closed).node.shared
unfolding turned put_in
turned-table deck n es taken closed fits =
    changed-table deck closed (put_in (read_entries deck n es) taken)
    (all-entries (is_within deck) deck n es (deck-task deck) fits.shared, apart-entries deck n es fits.apart)

switched-table : (deck : Deck) (n : NodeState) → NodeFits deck n → TableFits deck (switched deck n).shared
unfolding switched
switched-table deck n fits = go (is_none n.star)
  where
    go : (b : Bool) → TableFits deck (cond b (changed deck (desk_told n saids.StarDone)) n).shared
    go true = table-changed deck (desk_told n saids.StarDone)
    go false = own-table deck n fits

finish-star-shared : (deck : Deck) (n : NodeState) (o : Option StarPart) (choice : Choice) (reply : Reply)
    → (finish_star deck n o choice reply).node.shared ≡ n.shared
unfolding finish_star
finish-star-shared deck n None choice reply = refl
finish-star-shared deck n (Some p) choice reply = refl

purged-table : (deck : Deck) (n : NodeState) (choice : Choice) → NodeFits deck n
    → TableFits deck (purged deck n choice).node.shared
unfolding purged desk_told
purged-table deck n (choices.Purge target) fits =
    lost-table deck (record (desk_told n saids.VaryDone) { known = with_also n.known target.0 }) (target ∷ [])
    (own-table deck n fits)
purged-table deck n (choices.Task t) fits = own-table deck n fits
purged-table deck n choices.Turn fits = own-table deck n fits
purged-table deck n (choices.Send t) fits = own-table deck n fits
purged-table deck n choices.Take fits = own-table deck n fits
purged-table deck n choices.Settle fits = own-table deck n fits
purged-table deck n (choices.Tell e) fits = own-table deck n fits
purged-table deck n (choices.Part e) fits = own-table deck n fits
purged-table deck n (choices.Leave e) fits = own-table deck n fits
purged-table deck n choices.Switch fits = own-table deck n fits
purged-table deck n choices.Rest fits = own-table deck n fits

call-table : (deck : Deck) (n : NodeState) (choice : Choice) (reply : Reply) → NodeFits deck n
    → TableFits deck (finish_call deck n choice reply).node.shared
unfolding finish_call desk_told stale
call-table deck n choice reply fits =
    by-reply (λ r. TableFits deck (finish_call deck n choice r).node.shared) (λ es k b. turned-table deck n es k b fits)
    (λ h. same (replies.NotYours h)) (λ f. same (replies.Behind f)) (switched-table deck n fits) (own-table deck n fits)
    (same replies.Sole) (same replies.Sent) (λ m. same (replies.Taken m)) (same replies.Empty) (same replies.Settled)
    (same replies.Told) (same replies.Left) (λ m. same (replies.Kept m)) (same replies.Yours) (same replies.Old)
    (purged-table deck n choice fits)
    (own-table deck n fits) (same replies.Resting) (same replies.Over)
    (λ set.
    lost-table deck (record n { known = known_from deck n.known set })
    (members (without_those n.known (known_from deck n.known set))) (own-table deck n fits))
    (same replies.Removed) reply
  where
    same : (r : Reply) → TableFits deck (finish_star deck n n.star choice r).node.shared
    same r = subst (TableFits deck) (sym (finish-star-shared deck n n.star choice r)) (own-table deck n fits)

quiet-table : (deck : Deck) (n : NodeState) (choice : Choice) → NodeFits deck n
    → TableFits deck (finish_quiet deck n choice).node.shared
unfolding finish_quiet
quiet-table deck n (choices.Task t) fits =
    subst (TableFits deck) (sym (shared-task deck.limit n t (lines_of deck t))) (own-table deck n fits)
quiet-table deck n (choices.Send t) fits = own-table deck n fits
quiet-table deck n choices.Turn fits = own-table deck n fits
quiet-table deck n choices.Take fits = own-table deck n fits
quiet-table deck n choices.Settle fits = own-table deck n fits
quiet-table deck n (choices.Tell e) fits = own-table deck n fits
quiet-table deck n (choices.Part e) fits = own-table deck n fits
quiet-table deck n (choices.Leave e) fits = own-table deck n fits
quiet-table deck n choices.Switch fits = own-table deck n fits
quiet-table deck n (choices.Purge s) fits = own-table deck n fits
quiet-table deck n choices.Rest fits = own-table deck n fits

-- ---- the system afterwards
fits-of : (deck : Deck) (n : NodeState) (m : NodeState) (s : Step) (fixed : List Fixed) → NodeFits deck n
    → m.tasks.system ≡ n.tasks.system → stepped m fixed ≡ s → TableFits deck s.node.shared
    → AnyPartFits deck n.tasks.system s.node.star → NodeFits deck m
fits-of deck n m s fixed fits same is table h =
    let kept : TableFits deck m.shared = subst (λ (x : Step). TableFits deck x.node.shared) (sym is) table in
    record {
      system = subst (λ (k : ℕ). k < length deck.systems) (sym same) fits.system;
      some = fits.some;
      few = fits.few;
      desk = subst (λ (k : ℕ). desk_count (slice_get deck.systems k) ≤ most_commands) (sym same) fits.desk;
      orders =
          subst (λ (k : ℕ).
          All (λ (c : Desk). IsOrderOf (length deck.systems) k c.order) (desk_of (slice_get deck.systems k)))
          (sym same) fits.orders;
      shared = kept.0;
      apart = kept.1;
      part =
          subst (λ (k : ℕ). AnyPartFits deck k m.star) (sym same)
          (subst (λ (x : Step). AnyPartFits deck n.tasks.system x.node.star) (sym is) h);
    }

pub quiet-fits-after : (deck : Deck) (n m : NodeState) (choice : Choice) (fixed : List Fixed) → NodeFits deck n
    → prepare deck n choice ≡ Quiet → m.tasks.system ≡ n.tasks.system → stepped m fixed ≡ finish_quiet deck n choice
    → NodeFits deck m
quiet-fits-after deck n m choice fixed fits h same is =
    fits-of deck n m (finish_quiet deck n choice) fixed fits same is (quiet-table deck n choice fits)
    (quiet-part deck n choice fits)

pub call-fits-after : (deck : Deck) (n m : NodeState) (choice : Choice) (reply : Reply) (fixed : List Fixed)
    → NodeFits deck n → may_come (prepare deck n choice) reply ≡ true → m.tasks.system ≡ n.tasks.system
    → stepped m fixed ≡ finish_call deck n choice reply → NodeFits deck m
call-fits-after deck n m choice reply fixed fits h same is =
    fits-of deck n m (finish_call deck n choice reply) fixed fits same is (call-table deck n choice reply fits)
    (call-part deck n choice reply fits (sends-call deck n choice reply fits h) (came-called deck n choice reply h)
    (ap (λ (x : Step). x.node.tasks.system) (sym is) ∙ same))

pub stale-fits-after : (deck : Deck) (n m : NodeState) (choice : Choice) (set : ℕ)
    → NodeFits deck n → may_come (prepare deck n choice) (replies.Stale set) ≡ true → m.tasks.system ≡ n.tasks.system
    → m ≡ stale deck n set → NodeFits deck m
unfolding finish_call
stale-fits-after deck n m choice set fits h same is =
    call-fits-after deck n m choice (replies.Stale set) [] fits h same (ap only is)

pub turned-fits-after :
    (deck : Deck) (n m : NodeState) (es : List RingEntry) (taken : ℕ) (closed : Bool) (fixed : List Fixed)
    → NodeFits deck n → m.tasks.system ≡ n.tasks.system → stepped m fixed ≡ turned deck n es taken closed
    → NodeFits deck m
turned-fits-after deck n m es taken closed fixed fits same is =
    fits-of deck n m (turned deck n es taken closed) fixed fits same is (turned-table deck n es taken closed fits)
    (turned-part deck n es taken closed fits (ap (λ (x : Step). x.node.tasks.system) (sym is) ∙ same))

-- a system that is given up has no table and no part
pub gone-fits : (deck : Deck) (n m : NodeState) → NodeFits deck n → m.tasks.system ≡ n.tasks.system → m.shared ≡ []
    → m.star ≡ None → NodeFits deck m
gone-fits deck n m fits same none is =
    let empty : TableFits deck m.shared = subst (TableFits deck) (sym none) (no-table deck) in
    record {
      system = subst (λ (k : ℕ). k < length deck.systems) (sym same) fits.system;
      some = fits.some;
      few = fits.few;
      desk = subst (λ (k : ℕ). desk_count (slice_get deck.systems k) ≤ most_commands) (sym same) fits.desk;
      orders =
          subst (λ (k : ℕ).
          All (λ (c : Desk). IsOrderOf (length deck.systems) k c.order) (desk_of (slice_get deck.systems k)))
          (sym same) fits.orders;
      shared = empty.0;
      apart = empty.1;
      part = subst (AnyPartFits deck m.tasks.system) (sym is) tt;
    }

-- what a deck of so many entries has
pub entries-there : (deck : Deck) (n : NodeState) → NodeFits deck n → deck.entries ≢ 0
entries-there deck n fits = λ is. absurd (omega (arith, fits.some, is))

-- a removal that came to be answered is of one of as many systems as there may be
purge-target : (deck : Deck) (n : NodeState) (target : SysId) (reply : Reply) (o : Option Order) → next_order deck n ≡ o
    → NodeFits deck n → may_come (purge_call n target o) reply ≡ true → target.0 < most_systems
purge-target deck n target reply None is fits h = cc
purge-target deck n target reply (Some orders.Star) is fits h = cc
purge-target deck n target reply (Some (orders.Vary named)) is fits h = go (named.0 == target.0) refl h
  where
    go : (b : Bool) → (named.0 == target.0) ≡ b
        → may_come (cond b (Call (record { known = n.known; act = acts.Purge target })) Nothing) reply ≡ true
        → target.0 < most_systems
    go false e k = cc
    go true e k =
        let fit = (target-of deck n named (length deck.systems) fits.orders is).0 in
        omega (arith, fit, fits.few, eqb-true named.0 target.0 e)

pub target-fits : (deck : Deck) (n : NodeState) (choice : Choice) (reply : Reply) → NodeFits deck n
    → may_come (prepare deck n choice) reply ≡ true → TargetFits choice
unfolding prepare
target-fits deck n (choices.Purge s) reply fits h = purge-target deck n s reply (next_order deck n) refl fits h
target-fits deck n (choices.Task t) reply fits h = tt
target-fits deck n choices.Turn reply fits h = tt
target-fits deck n (choices.Send t) reply fits h = tt
target-fits deck n choices.Take reply fits h = tt
target-fits deck n choices.Settle reply fits h = tt
target-fits deck n (choices.Tell e) reply fits h = tt
target-fits deck n (choices.Part e) reply fits h = tt
target-fits deck n (choices.Leave e) reply fits h = tt
target-fits deck n choices.Switch reply fits h = tt
target-fits deck n choices.Rest reply fits h = tt

-- whose request and whose part are for the deck is one of as many systems as there may be
pub request-sender : (deck : Deck) (e : ℕ) (from : SysId) (q : Req) → length deck.systems ≤ most_systems
    → is_for_deck deck (mails.Request e from q) ≡ true → q.task.system.0 < most_systems
request-sender deck e from q few h =
    let own = deck-task deck q.task (and_parts (nat_lt from.0 (length deck.systems)) _ h).1 in
    omega (arith, few, ltb-true q.task.system.0 (length deck.systems) own)

pub part-sender : (deck : Deck) (e : ℕ) (from : SysId) (recs : List PartRec) → length deck.systems ≤ most_systems
    → is_for_deck deck (mails.Part e from recs) ≡ true → from.0 < most_systems
part-sender deck e from recs few h =
    omega (arith, few, ltb-true from.0 (length deck.systems) (and_parts (nat_lt e deck.entries) _ h).1)

pub ruleset senders_fit = (request-sender, part-sender, items-named)

pub ruleset finishes = (quiet-fits-after, call-fits-after, turned-fits-after, gone-fits)
