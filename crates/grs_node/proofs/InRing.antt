-- A system in a ring: it has no part in star mode, and what its events come to is told without one.
use Rattle.std.proofs.Common.{◌≡◌, ℕ, true, false, cond, List, [], ◌∷◌, ◌++◌, take, Option, None, is_some, refl, ap}
use Rattle.std.proofs.Common.{◌∙◌}
use Rattle.grs_node.specs.Node.{NodeState, Step, only, outbox_with, prepare, star_call, turn_call, may_go, is_pending}
use Rattle.grs_node.specs.Node.{read_entries, put_in, finish_star, finish_call, next_order, switch_call, purge_call}
use Rattle.grs_node.specs.Node.{known_from, turned, switched, purged, desk_told, all_sent, changed, losing, losing_in}
use Rattle.grs_node.specs.Node.{stale}
use Rattle.grs_node.specs.Removal.{members, without_those}
use Rattle.grs_wire.specs.Masks.{with_also}
use Rattle.grs_base.specs.declared.resource.SysId.{SysId}
use Rattle.grs_base.specs.Limits.{most_additions}
use Rattle.std.specs.Prelude.{is_none}
use Rattle.grs_node.specs.Star.{StarPart}
use Rattle.grs_node.specs.declared.prepared.Prepared.{Prepared}
use Rattle.grs_node.specs.declared.prepared.Prepared.TheVariants.{Quiet, Call, Nothing}
use Rattle.grs_node.proofs.Keeping.{stays-entries}
use Rattle.grs_wire.specs.declared.deck.Choice.{Choice}
use Rattle.grs_wire.specs.declared.deck.Deck.{Deck}
use Rattle.grs_wire.specs.declared.medium.Reply.{Reply}
use Rattle.grs_wire.specs.declared.request.Req.{Req}
use Rattle.grs_wire.specs.declared.medium.RingEntry.{RingEntry}
use Rattle.grs_wire.specs.declared.request.Fixed.TheVariants as fixes
use Rattle.grs_wire.specs.declared.deck.Choice.TheVariants as choices
use Rattle.grs_wire.specs.declared.medium.Act.TheVariants as acts
use Rattle.grs_wire.specs.declared.medium.Reply.TheVariants as replies
use Rattle.grs_wire.specs.declared.told.Said.TheVariants as saids

-- what a choice comes to
abbrev pub ring_prepare : Deck → NodeState → Choice → Prepared
ring_prepare deck n (choices.Task t) = cond (may_go deck n t) Quiet Nothing
ring_prepare deck n choices.Turn = Call (record { known = n.known; act = acts.Turn (take most_additions n.outbox) })
ring_prepare deck n choices.Rest = cond (is_pending deck n) Nothing (Call (record { known = n.known; act = acts.Rest }))
ring_prepare deck n choices.Switch = switch_call deck n (next_order deck n)
ring_prepare deck n (choices.Purge s) = purge_call n s (next_order deck n)
ring_prepare deck n choice = Nothing

no_call : (deck : Deck) (n : NodeState) (choice : Choice) → n.star ≡ None → star_call deck n n.star choice ≡ Nothing
unfolding star_call
no_call deck n choice h = ap (λ (o : Option StarPart). star_call deck n o choice) h

pub prepare-ring : (deck : Deck) (n : NodeState) (choice : Choice) → n.star ≡ None
    → prepare deck n choice ≡ ring_prepare deck n choice
unfolding prepare
prepare-ring deck n (choices.Task t) h = refl
prepare-ring deck n choices.Turn h = ap (turn_call n) h
prepare-ring deck n choices.Rest h = refl
prepare-ring deck n (choices.Send t) h = no_call deck n (choices.Send t) h
prepare-ring deck n choices.Take h = no_call deck n choices.Take h
prepare-ring deck n choices.Settle h = no_call deck n choices.Settle h
prepare-ring deck n (choices.Tell e) h = no_call deck n (choices.Tell e) h
prepare-ring deck n (choices.Part e) h = no_call deck n (choices.Part e) h
prepare-ring deck n (choices.Leave e) h = no_call deck n (choices.Leave e) h
prepare-ring deck n choices.Switch h = refl
prepare-ring deck n (choices.Purge s) h = refl

-- a system was removed by the desk's next command
abbrev pub ring_purged : NodeState → Choice → Step
ring_purged n (choices.Purge target) = record {
  node = record (desk_told n saids.VaryDone) { known = with_also n.known target.0 };
  fixed = fixes.Purged target ∷ [];
}
ring_purged n choice = only (desk_told n saids.VaryDone)

-- what a reply comes to
abbrev pub ring_finish : Deck → NodeState → Choice → Reply → Step
ring_finish deck n choice (replies.Turned entries taken closed) = turned deck n entries taken closed
ring_finish deck n choice (replies.Stale set) = only (record n { known = known_from deck n.known set })
ring_finish deck n choice replies.Switched = only (switched deck n)
ring_finish deck n choice replies.Already = only (desk_told n saids.StarAlready)
ring_finish deck n choice replies.Purged = ring_purged n choice
ring_finish deck n choice replies.NoSuch = only (desk_told n saids.VaryNoSuch)
ring_finish deck n choice reply = only n

no_step : (deck : Deck) (n : NodeState) (choice : Choice) (reply : Reply) → n.star ≡ None
    → finish_star deck n n.star choice reply ≡ only n
unfolding finish_star
no_step deck n choice reply h = ap (λ (o : Option StarPart). finish_star deck n o choice reply) h

-- a system in a ring loses nothing
pub lose-ring : (deck : Deck) (n : NodeState) (ss : List SysId) → n.star ≡ None → losing deck n ss ≡ n
unfolding losing
lose-ring deck n ss h = ap (λ (o : Option StarPart). losing_in deck n o ss) h

pub purged-ring : (deck : Deck) (n : NodeState) (choice : Choice) → n.star ≡ None
    → purged deck n choice ≡ ring_purged n choice
unfolding purged desk_told
purged-ring deck n (choices.Purge target) h =
    ap (λ (m : NodeState). record { node = m; fixed = fixes.Purged target ∷ [] })
    (lose-ring deck (record (desk_told n saids.VaryDone) { known = with_also n.known target.0 }) (target ∷ []) h)
purged-ring deck n (choices.Task t) h = refl
purged-ring deck n choices.Turn h = refl
purged-ring deck n (choices.Send t) h = refl
purged-ring deck n choices.Take h = refl
purged-ring deck n choices.Settle h = refl
purged-ring deck n (choices.Tell e) h = refl
purged-ring deck n (choices.Part e) h = refl
purged-ring deck n (choices.Leave e) h = refl
purged-ring deck n choices.Switch h = refl
purged-ring deck n choices.Rest h = refl

stale-ring : (deck : Deck) (n : NodeState) (set : ℕ) → n.star ≡ None
    → stale deck n set ≡ record n { known = known_from deck n.known set }
unfolding stale
stale-ring deck n set h =
    lose-ring deck (record n { known = known_from deck n.known set })
    (members (without_those n.known (known_from deck n.known set))) h

pub finish-ring : (deck : Deck) (n : NodeState) (choice : Choice) (reply : Reply) → n.star ≡ None
    → finish_call deck n choice reply ≡ ring_finish deck n choice reply
unfolding finish_call
finish-ring deck n choice (replies.Turned entries taken closed) h = refl
finish-ring deck n choice (replies.Stale set) h = ap only (stale-ring deck n set h)
finish-ring deck n choice (replies.NotYours holder) h = no_step deck n choice (replies.NotYours holder) h
finish-ring deck n choice (replies.Behind first) h = no_step deck n choice (replies.Behind first) h
finish-ring deck n choice replies.Switched h = refl
finish-ring deck n choice replies.Already h = refl
finish-ring deck n choice replies.Sole h = no_step deck n choice replies.Sole h
finish-ring deck n choice replies.Sent h = no_step deck n choice replies.Sent h
finish-ring deck n choice (replies.Taken mail) h = no_step deck n choice (replies.Taken mail) h
finish-ring deck n choice replies.Empty h = no_step deck n choice replies.Empty h
finish-ring deck n choice replies.Settled h = no_step deck n choice replies.Settled h
finish-ring deck n choice replies.Told h = no_step deck n choice replies.Told h
finish-ring deck n choice replies.Left h = no_step deck n choice replies.Left h
finish-ring deck n choice (replies.Kept mask) h = no_step deck n choice (replies.Kept mask) h
finish-ring deck n choice replies.Yours h = no_step deck n choice replies.Yours h
finish-ring deck n choice replies.Old h = no_step deck n choice replies.Old h
finish-ring deck n choice replies.Purged h = purged-ring deck n choice h
finish-ring deck n choice replies.NoSuch h = refl
finish-ring deck n choice replies.Resting h = no_step deck n choice replies.Resting h
finish-ring deck n choice replies.Over h = no_step deck n choice replies.Over h
finish-ring deck n choice replies.Removed h = no_step deck n choice replies.Removed h

-- a request waits in the outbox
pub outbox-ring : (n : NodeState) (q : Req) → n.star ≡ None → outbox_with n q ≡ n.outbox ++ q ∷ []
outbox-ring n q h = ap (λ (o : Option StarPart). cond (is_some o) n.outbox (n.outbox ++ q ∷ [])) h

-- ---- a Turn
-- the open message leaves it in the ring
pub open-turned : (deck : Deck) (n : NodeState) (entries : List RingEntry) (taken : ℕ)
    → turned deck n entries taken false ≡ put_in (read_entries deck n entries) taken
unfolding turned
open-turned deck n entries taken = refl

-- at the closed message it processes what it was given, changes to star mode, and loses the systems that it knows to be
-- removed
pub closed-turned : (deck : Deck) (n : NodeState) (entries : List RingEntry) → n.star ≡ None
    → turned deck n entries 0 true ≡ only (changed deck (read_entries deck n entries))
unfolding turned put_in all_sent
closed-turned deck n entries h = go (read_entries deck n entries) ((stays-entries deck n entries).star ∙ h)
  where
    go : (k : NodeState) → k.star ≡ None
        → cond (is_none k.star) (only (changed deck k)) (only k) ≡ only (changed deck k)
    go k none = ap (λ (o : Option StarPart). cond (is_none o) (only (changed deck k)) (only k)) none

-- it changes by its own desk's command
pub switched-ring : (deck : Deck) (n : NodeState) → n.star ≡ None
    → switched deck n ≡ changed deck (desk_told n saids.StarDone)
unfolding switched
switched-ring deck n h =
    ap (λ (o : Option StarPart). cond (is_none o) (changed deck (desk_told n saids.StarDone)) n) h
