-- A deck's own events are read by nothing in a run, nor by what is said of one.
use Rattle.std.proofs.Common.{◌≡◌, ℕ, ◌+◌, Bool, cond, ◌&&◌, List, [], ◌∷◌, length, Option, None, Some, refl, ap, ◌∙◌}
use Rattle.std.specs.Prelude.{is_none, slice_get}
use Rattle.grs_base.specs.declared.resource.SysId.{SysId}
use Rattle.grs_medium.specs.Apply.{medium_after, reply_to}
use Rattle.grs_medium.specs.Medium.{MediumState, first_medium}
use Rattle.grs_node.specs.Node.{NodeState, Step, change_to_star, changed_if, finish, finish_call, finish_quiet}
use Rattle.grs_node.specs.Node.{finish_star, first_node, is_for_deck, is_pending, may_go, may_send, only, prepare}
use Rattle.grs_node.specs.Node.{put_in, read_entries, read_entry, star_call, star_step, switched, take_mail, take_step}
use Rattle.grs_node.specs.Node.{turned, with_star}
use Rattle.grs_node.specs.Node.{changed, desk_told, known_from, losing, losing_in, purged, stale, took_mail}
use Rattle.grs_node.specs.Removal.{members, without_those}
use Rattle.grs_node.specs.Star.{StarPart, StarStep, fixing_none}
use Rattle.grs_node.specs.declared.prepared.Prepared.{Prepared}
use Rattle.grs_node.specs.declared.prepared.Prepared.TheVariants.{Quiet, Call, Nothing}
use Rattle.grs_wire.specs.Masks.{has, with_also}
use Rattle.grs_wire.specs.declared.deck.Choice.{Choice}
use Rattle.grs_wire.specs.declared.deck.Choice.TheVariants as choices
use Rattle.grs_wire.specs.declared.deck.Deck.{Deck}
use Rattle.grs_wire.specs.declared.deck.Event.{Event}
use Rattle.grs_wire.specs.declared.deck.SystemDef.{SystemDef}
use Rattle.grs_wire.specs.declared.medium.Mail.{Mail}
use Rattle.grs_wire.specs.declared.medium.Mail.TheVariants as mails
use Rattle.grs_wire.specs.declared.medium.Reply.{Reply}
use Rattle.grs_wire.specs.declared.medium.Reply.TheVariants as replies
use Rattle.grs_wire.specs.declared.medium.RingBody.{RingBody}
use Rattle.grs_wire.specs.declared.medium.RingBody.TheVariants as bodies
use Rattle.grs_wire.specs.declared.medium.RingEntry.{RingEntry}
use Rattle.grs_wire.specs.declared.request.Fixed.TheVariants.{Purged}
use Rattle.grs_wire.specs.declared.told.Said.TheVariants as saids
use Rattle.grs_wire.specs.declared.request.Answer.TheVariants.{Coded, Rows}
use Rattle.task_state.specs.View.{TasksView}
use Rattle.grs_top.specs.Schedules.{unscheduled}
use Rattle.grs_world.specs.World.{World, Turnout, carry_out, chosen, counted, first_nodes, first_world, happens}
use Rattle.grs_world.specs.World.{happens_at, placed, run, run_from}

-- ---- one system
star_call-bare : (deck : Deck) (n : NodeState) (o : Option StarPart) (choice : Choice)
    → star_call (unscheduled deck) n o choice ≡ star_call deck n o choice
unfolding star_call may_send
star_call-bare deck n None choice = refl
star_call-bare deck n (Some p) (choices.Task t) = refl
star_call-bare deck n (Some p) choices.Turn = refl
star_call-bare deck n (Some p) (choices.Send t) = refl
star_call-bare deck n (Some p) choices.Take = refl
star_call-bare deck n (Some p) choices.Settle = refl
star_call-bare deck n (Some p) (choices.Tell e) = refl
star_call-bare deck n (Some p) (choices.Part e) = refl
star_call-bare deck n (Some p) (choices.Leave e) = refl
star_call-bare deck n (Some p) choices.Switch = refl
star_call-bare deck n (Some p) (choices.Purge s) = refl
star_call-bare deck n (Some p) choices.Rest = refl

prepare-bare : (deck : Deck) (n : NodeState) (choice : Choice)
    → prepare (unscheduled deck) n choice ≡ prepare deck n choice
unfolding prepare may_go is_pending
prepare-bare deck n (choices.Task t) = refl
prepare-bare deck n choices.Turn = refl
prepare-bare deck n (choices.Send t) = star_call-bare deck n n.star (choices.Send t)
prepare-bare deck n choices.Take = star_call-bare deck n n.star choices.Take
prepare-bare deck n choices.Settle = star_call-bare deck n n.star choices.Settle
prepare-bare deck n (choices.Tell e) = star_call-bare deck n n.star (choices.Tell e)
prepare-bare deck n (choices.Part e) = star_call-bare deck n n.star (choices.Part e)
prepare-bare deck n (choices.Leave e) = star_call-bare deck n n.star (choices.Leave e)
prepare-bare deck n choices.Switch = refl
prepare-bare deck n (choices.Purge s) = refl
prepare-bare deck n choices.Rest = refl

finish_quiet-bare : (deck : Deck) (n : NodeState) (choice : Choice)
    → finish_quiet (unscheduled deck) n choice ≡ finish_quiet deck n choice
unfolding finish_quiet
finish_quiet-bare deck n (choices.Task t) = refl
finish_quiet-bare deck n choices.Turn = refl
finish_quiet-bare deck n (choices.Send t) = refl
finish_quiet-bare deck n choices.Take = refl
finish_quiet-bare deck n choices.Settle = refl
finish_quiet-bare deck n (choices.Tell e) = refl
finish_quiet-bare deck n (choices.Part e) = refl
finish_quiet-bare deck n (choices.Leave e) = refl
finish_quiet-bare deck n choices.Switch = refl
finish_quiet-bare deck n (choices.Purge s) = refl
finish_quiet-bare deck n choices.Rest = refl

-- ---- the entries of the message
read_entry-bare : (deck : Deck) (n : NodeState) (body : RingBody)
    → read_entry (unscheduled deck) n body ≡ read_entry deck n body
read_entry-bare deck n (bodies.Request q) = refl
read_entry-bare deck n (bodies.Remove s) = refl

read_entries-bare : (deck : Deck) (n : NodeState) (es : List RingEntry)
    → read_entries (unscheduled deck) n es ≡ read_entries deck n es
unfolding read_entries
read_entries-bare deck n [] = refl
read_entries-bare deck n (e ∷ es) =
    read_entries-bare deck (read_entry (unscheduled deck) n e.body) es
    ∙ ap (λ (m : NodeState). read_entries deck m es) (read_entry-bare deck n e.body)

-- ---- the loss of systems, also behind the change to star mode
losing-bare : (deck : Deck) (n : NodeState) (ss : List SysId) → losing (unscheduled deck) n ss ≡ losing deck n ss
unfolding losing
losing-bare deck n ss = go n.star
  where
    go : (o : Option StarPart) → losing_in (unscheduled deck) n o ss ≡ losing_in deck n o ss
    go None = refl
    go (Some p) = refl

stale-bare : (deck : Deck) (n : NodeState) (set : ℕ) → stale (unscheduled deck) n set ≡ stale deck n set
unfolding stale
stale-bare deck n set =
    let known : ℕ = known_from deck n.known set in
    losing-bare deck (record n { known = known }) (members (without_those n.known known))

changed-bare : (deck : Deck) (n : NodeState) → changed (unscheduled deck) n ≡ changed deck n
unfolding change_to_star
changed-bare deck n = losing-bare deck (change_to_star deck n) (members n.known)

changed_if-bare : (deck : Deck) (closed : Bool) (s : Step)
    → changed_if (unscheduled deck) closed s ≡ changed_if deck closed s
changed_if-bare deck closed s =
    ap (λ (m : NodeState). cond (closed && is_none s.node.star) (record { node = m; fixed = s.fixed }) s)
    (changed-bare deck s.node)

turned-bare : (deck : Deck) (n : NodeState) (es : List RingEntry) (taken : ℕ) (closed : Bool)
    → turned (unscheduled deck) n es taken closed ≡ turned deck n es taken closed
unfolding turned
turned-bare deck n es taken closed =
    changed_if-bare deck closed (put_in (read_entries (unscheduled deck) n es) taken)
    ∙ ap (λ (m : NodeState). changed_if deck closed (put_in m taken)) (read_entries-bare deck n es)

switched-bare : (deck : Deck) (n : NodeState) → switched (unscheduled deck) n ≡ switched deck n
unfolding switched
switched-bare deck n =
    ap (λ (m : NodeState). cond (is_none n.star) m n) (changed-bare deck (desk_told n saids.StarDone))

purged-bare : (deck : Deck) (n : NodeState) (choice : Choice)
    → purged (unscheduled deck) n choice ≡ purged deck n choice
unfolding purged
purged-bare deck n (choices.Purge target) =
    ap (λ (m : NodeState). let x : Step = record { node = m; fixed = Purged target ∷ [] } in x)
    (losing-bare deck (record (desk_told n saids.VaryDone) { known = with_also n.known target.0 }) (target ∷ []))
purged-bare deck n (choices.Task t) = refl
purged-bare deck n choices.Turn = refl
purged-bare deck n (choices.Send t) = refl
purged-bare deck n choices.Take = refl
purged-bare deck n choices.Settle = refl
purged-bare deck n (choices.Tell e) = refl
purged-bare deck n (choices.Part e) = refl
purged-bare deck n (choices.Leave e) = refl
purged-bare deck n choices.Switch = refl
purged-bare deck n choices.Rest = refl

-- ---- mail
for_deck-bare : (deck : Deck) (mail : Mail) → is_for_deck (unscheduled deck) mail ≡ is_for_deck deck mail
for_deck-bare deck (mails.Request e from q) = refl
for_deck-bare deck (mails.Answered t (Coded code) rank) = refl
for_deck-bare deck (mails.Answered t (Rows rows) rank) = refl
for_deck-bare deck (mails.Granted t r) = refl
for_deck-bare deck (mails.Notice target moved) = refl
for_deck-bare deck (mails.Part e from records) = refl

took-bare : (deck : Deck) (known : ℕ) (v : TasksView) (p : StarPart) (mail : Mail)
    → took_mail (unscheduled deck) known v p mail ≡ took_mail deck known v p mail
unfolding took_mail
took-bare deck known v p (mails.Request e from q) = refl
took-bare deck known v p (mails.Answered t answer rank) = refl
took-bare deck known v p (mails.Granted t r) = refl
took-bare deck known v p (mails.Notice target moved) = refl
took-bare deck known v p (mails.Part e from records) = refl

take_step-bare : (deck : Deck) (known : ℕ) (v : TasksView) (p : StarPart) (reply : Reply)
    → take_step (unscheduled deck) known v p reply ≡ take_step deck known v p reply
take_step-bare deck known v p (replies.Turned es taken closed) = refl
take_step-bare deck known v p (replies.NotYours h) = refl
take_step-bare deck known v p (replies.Behind f) = refl
take_step-bare deck known v p replies.Switched = refl
take_step-bare deck known v p replies.Already = refl
take_step-bare deck known v p replies.Sole = refl
take_step-bare deck known v p replies.Sent = refl
take_step-bare deck known v p (replies.Taken mail) = by_test (for_deck-bare deck mail)
  where
    by_test : is_for_deck (unscheduled deck) mail ≡ is_for_deck deck mail
        → take_mail (unscheduled deck) known v p mail ≡ take_mail deck known v p mail
    by_test h =
        ap (λ (b : Bool). cond b (took_mail (unscheduled deck) known v p mail) (fixing_none v p)) h
        ∙ ap (λ (s : StarStep). cond (is_for_deck deck mail) s (fixing_none v p)) (took-bare deck known v p mail)
take_step-bare deck known v p replies.Empty = refl
take_step-bare deck known v p replies.Settled = refl
take_step-bare deck known v p replies.Told = refl
take_step-bare deck known v p replies.Left = refl
take_step-bare deck known v p (replies.Kept m) = refl
take_step-bare deck known v p replies.Yours = refl
take_step-bare deck known v p replies.Old = refl
take_step-bare deck known v p replies.Purged = refl
take_step-bare deck known v p replies.NoSuch = refl
take_step-bare deck known v p replies.Resting = refl
take_step-bare deck known v p replies.Over = refl
take_step-bare deck known v p (replies.Stale s) = refl
take_step-bare deck known v p replies.Removed = refl

star_step-bare : (deck : Deck) (known : ℕ) (v : TasksView) (p : StarPart) (choice : Choice) (reply : Reply)
    → star_step (unscheduled deck) known v p choice reply ≡ star_step deck known v p choice reply
star_step-bare deck known v p (choices.Task t) reply = refl
star_step-bare deck known v p choices.Turn reply = refl
star_step-bare deck known v p (choices.Send t) reply = refl
star_step-bare deck known v p choices.Take reply = take_step-bare deck known v p reply
star_step-bare deck known v p choices.Settle reply = refl
star_step-bare deck known v p (choices.Tell e) reply = refl
star_step-bare deck known v p (choices.Part e) reply = refl
star_step-bare deck known v p (choices.Leave e) reply = refl
star_step-bare deck known v p choices.Switch reply = refl
star_step-bare deck known v p (choices.Purge s) reply = refl
star_step-bare deck known v p choices.Rest reply = refl

finish_star-bare : (deck : Deck) (n : NodeState) (o : Option StarPart) (choice : Choice) (reply : Reply)
    → finish_star (unscheduled deck) n o choice reply ≡ finish_star deck n o choice reply
unfolding finish_star
finish_star-bare deck n None choice reply = refl
finish_star-bare deck n (Some p) choice reply =
    ap (λ (s : StarStep). with_star n s) (star_step-bare deck n.known n.tasks p choice reply)

-- ---- a reply
finish_call-bare : (deck : Deck) (n : NodeState) (choice : Choice) (reply : Reply)
    → finish_call (unscheduled deck) n choice reply ≡ finish_call deck n choice reply
unfolding finish_call
finish_call-bare deck n choice (replies.Turned es taken closed) = turned-bare deck n es taken closed
finish_call-bare deck n choice (replies.Stale s) = ap (λ (m : NodeState). only m) (stale-bare deck n s)
finish_call-bare deck n choice replies.Switched = ap (λ (m : NodeState). only m) (switched-bare deck n)
finish_call-bare deck n choice replies.Already = refl
finish_call-bare deck n choice replies.Purged = purged-bare deck n choice
finish_call-bare deck n choice replies.NoSuch = refl
finish_call-bare deck n choice (replies.NotYours h) = finish_star-bare deck n n.star choice (replies.NotYours h)
finish_call-bare deck n choice (replies.Behind f) = finish_star-bare deck n n.star choice (replies.Behind f)
finish_call-bare deck n choice replies.Sole = finish_star-bare deck n n.star choice replies.Sole
finish_call-bare deck n choice replies.Sent = finish_star-bare deck n n.star choice replies.Sent
finish_call-bare deck n choice (replies.Taken mail) = finish_star-bare deck n n.star choice (replies.Taken mail)
finish_call-bare deck n choice replies.Empty = finish_star-bare deck n n.star choice replies.Empty
finish_call-bare deck n choice replies.Settled = finish_star-bare deck n n.star choice replies.Settled
finish_call-bare deck n choice replies.Told = finish_star-bare deck n n.star choice replies.Told
finish_call-bare deck n choice replies.Left = finish_star-bare deck n n.star choice replies.Left
finish_call-bare deck n choice (replies.Kept m) = finish_star-bare deck n n.star choice (replies.Kept m)
finish_call-bare deck n choice replies.Yours = finish_star-bare deck n n.star choice replies.Yours
finish_call-bare deck n choice replies.Old = finish_star-bare deck n n.star choice replies.Old
finish_call-bare deck n choice replies.Resting = finish_star-bare deck n n.star choice replies.Resting
finish_call-bare deck n choice replies.Over = finish_star-bare deck n n.star choice replies.Over
finish_call-bare deck n choice replies.Removed = finish_star-bare deck n n.star choice replies.Removed

finish-bare : (deck : Deck) (n : NodeState) (choice : Choice) (o : Option Reply)
    → finish (unscheduled deck) n choice o ≡ finish deck n choice o
unfolding finish
finish-bare deck n choice None = finish_quiet-bare deck n choice
finish-bare deck n choice (Some reply) = finish_call-bare deck n choice reply

-- ---- an event
carry_out-bare : (deck : Deck) (m : MediumState) (s : SysId) (n : NodeState) (choice : Choice) (p : Prepared)
    → carry_out (unscheduled deck) m s n choice p ≡ carry_out deck m s n choice p
unfolding carry_out
carry_out-bare deck m s n choice Quiet =
    ap (λ (step : Step). record { medium = m; step = step }) (finish-bare deck n choice None)
carry_out-bare deck m s n choice (Call call) =
    ap (λ (step : Step). record { medium = medium_after m s call; step = step })
    (finish-bare deck n choice (Some (reply_to m s call)))
carry_out-bare deck m s n choice Nothing = refl

chosen-bare : (deck : Deck) (m : MediumState) (s : SysId) (n : NodeState) (choice : Choice)
    → chosen (unscheduled deck) m s n choice ≡ chosen deck m s n choice
unfolding chosen
chosen-bare deck m s n choice =
    carry_out-bare deck m s n choice (prepare (unscheduled deck) n choice)
    ∙ ap (λ (p : Prepared). carry_out deck m s n choice p) (prepare-bare deck n choice)

happens_at-bare : (deck : Deck) (w : World) (e : Event) (o : Option NodeState)
    → happens_at (unscheduled deck) w e o ≡ happens_at deck w e o
unfolding happens_at
happens_at-bare deck w e None = refl
happens_at-bare deck w e (Some n) =
    ap (λ (out : Turnout). cond (has w.medium.removed e.system.0) (counted w) (placed w e.system n out))
    (chosen-bare deck w.medium e.system n e.choice)

happens-bare : (deck : Deck) (w : World) (e : Event) → happens (unscheduled deck) w e ≡ happens deck w e
unfolding happens
happens-bare deck w e = happens_at-bare deck w e (slice_get w.nodes e.system.0)

-- ---- every list of events
run_from-bare : (deck : Deck) (w : World) (es : List Event)
    → run_from (unscheduled deck) w es ≡ run_from deck w es
run_from-bare deck w [] = refl
run_from-bare deck w (e ∷ es) =
    run_from-bare deck (happens (unscheduled deck) w e) es
    ∙ ap (λ (v : World). run_from deck v es) (happens-bare deck w e)

first_nodes-bare : (deck : Deck) (s : ℕ) (ds : List SystemDef)
    → first_nodes (unscheduled deck) s ds ≡ first_nodes deck s ds
unfolding first_node
first_nodes-bare deck s [] = refl
first_nodes-bare deck s (d ∷ ds) =
    ap (λ (ns : List NodeState). first_node deck s ∷ ns) (first_nodes-bare deck (s + 1) ds)

first_world-bare : (deck : Deck) → first_world (unscheduled deck) ≡ first_world deck
unfolding first_world
first_world-bare deck =
    ap
    (λ (ns : List NodeState). record {
      medium = first_medium (length deck.systems) deck.entries deck.star;
      nodes = ns;
      events = 0;
      fixed = [];
      told = [];
    })
    (first_nodes-bare deck 0 deck.systems)

pub run-bare : (deck : Deck) (es : List Event) → run (unscheduled deck) es ≡ run deck es
run-bare deck es =
    run_from-bare deck (first_world (unscheduled deck)) es
    ∙ ap (λ (w : World). run_from deck w es) (first_world-bare deck)
