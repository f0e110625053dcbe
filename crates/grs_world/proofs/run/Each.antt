-- The cases of a call and of an event, each once, and every list of events.
use Rattle.grs_world.proofs.Common.{[], ◌++◌, ◌+◌, ◌==◌, ◌∙◌, ◌∷◌, ◌≡◌, all-kept, and_from, ap, append-nil}
use Rattle.grs_world.proofs.Common.{append_assoc, apply, Bool, by_test, Choice, chosen, counted, Deck, Event, false}
use Rattle.grs_world.proofs.Common.{first_node, first_world, happens, happens_at, has, length, length-append, List}
use Rattle.grs_world.proofs.Common.{list_all, list_all-append, MediumState, no_truth, NodeState, None, Option, placed}
use Rattle.grs_world.proofs.Common.{refl, Reply, row, run, run_from, slice_get, Some, subst, sym, SysId, Told, told_by}
use Rattle.grs_world.proofs.Common.{told_in, ToldLine, true, World, ℕ}
use Rattle.grs_wire.specs.declared.medium.Call.{Call as CallOfMedium}
use Rattle.grs_world.proofs.run.First.{first_of}
use Rattle.grs_world.proofs.run.Placed.{of_medium, of_nodes, told-placed, events-placed}
use Rattle.grs_wire.specs.declared.medium.Reply.TheVariants as replies

-- What holds of each answer to a call, with the medium that it leaves, holds of the call.
pub each_answer : (m : MediumState) (c : SysId) (call : CallOfMedium) (P : Reply × MediumState → Type 0)
    → P (replies.Removed, m) → P (replies.Stale m.removed, m) → P (row m c call.act) → P (apply m c call)
unfolding apply
each_answer m c call P removed stale here =
    by_test P (has m.removed c.0) (replies.Removed, m) _ (λ r. removed)
    (λ r. by_test P (call.known == m.removed) (row m c call.act) (replies.Stale m.removed, m) (λ k. here) (λ k. stale))

-- So it is of a caller that wasn't removed: it is answered what its act asks, or told which systems were removed.
pub each_heard : (m : MediumState) (c : SysId) (call : CallOfMedium) (P : Reply × MediumState → Type 0)
    → has m.removed c.0 ≡ false → P (replies.Stale m.removed, m) → P (row m c call.act) → P (apply m c call)
unfolding apply
each_heard m c call P live stale here =
    by_test P (has m.removed c.0) (replies.Removed, m) _ (λ r. no_truth (has m.removed c.0) r live)
    (λ r. by_test P (call.known == m.removed) (row m c call.act) (replies.Stale m.removed, m) (λ k. here) (λ k. stale))

-- What holds where an event is only counted, and where a live system made its choice, holds behind the event.
pub each_live : (deck : Deck) (w : World) (e : Event) (P : World → Type 0) → P (counted w) →
    ((n : NodeState) → slice_get w.nodes e.system.0 ≡ Some n → has w.medium.removed e.system.0 ≡ false
    → P (placed w e.system n (chosen deck w.medium e.system n e.choice)))
    → P (happens deck w e)
unfolding happens happens_at
each_live deck w e P idle chose = go (slice_get w.nodes e.system.0) refl
  where
    go : (o : Option NodeState) → slice_get w.nodes e.system.0 ≡ o → P (happens_at deck w e o)
    go None at = idle
    go (Some n) at =
        by_test P (has w.medium.removed e.system.0) (counted w)
        (placed w e.system n (chosen deck w.medium e.system n e.choice)) (λ r. idle) (λ r. chose n at r)

-- The same, whoever made it.
pub each_event : (deck : Deck) (w : World) (e : Event) (P : World → Type 0) → P (counted w) →
    ((n : NodeState) → slice_get w.nodes e.system.0 ≡ Some n
    → P (placed w e.system n (chosen deck w.medium e.system n e.choice)))
    → P (happens deck w e)
each_event deck w e P idle chose = each_live deck w e P idle (λ n at live. chose n at)

-- What speaks of the medium alone, or of each system alone.
pub each_medium : (deck : Deck) (w : World) (e : Event) (P : MediumState → Type 0) → P w.medium →
    ((n : NodeState) → slice_get w.nodes e.system.0 ≡ Some n → has w.medium.removed e.system.0 ≡ false
    → P (chosen deck w.medium e.system n e.choice).medium)
    → P (happens deck w e).medium
each_medium deck w e P idle chose =
    each_live deck w e (λ x. P x.medium) idle (λ n at live. of_medium w e.system n _ P (chose n at live))

pub each_system : (deck : Deck) (w : World) (e : Event) (P : ℕ → NodeState → Type 0) →
    ((s : ℕ) (n : NodeState) → slice_get w.nodes s ≡ Some n → P s n) →
    ((n : NodeState) → slice_get w.nodes e.system.0 ≡ Some n → has w.medium.removed e.system.0 ≡ false
    → P e.system.0 (chosen deck w.medium e.system n e.choice).step.node)
    → (s : ℕ) (n : NodeState) → slice_get (happens deck w e).nodes s ≡ Some n → P s n
each_system deck w e P was chose =
    each_live deck w e (λ x. (s : ℕ) (n : NodeState) → slice_get x.nodes s ≡ Some n → P s n) was
    (λ n at live. of_nodes w e.system n _ at P (chose n at live) (λ s k ne there. was s k there))

-- ---- every list of events
pub run-push : (deck : Deck) (es : List Event) (w : World) (e : Event)
    → run_from deck w (es ++ e ∷ []) ≡ happens deck (run_from deck w es) e
run-push deck [] w e = refl
run-push deck (x ∷ es) w e = run-push deck es (happens deck w x) e

-- What holds of the first world, and of the world after each event if it did before, holds of every run.
pub each_run : (deck : Deck) (P : List Event → World → Type 0) → P [] (first_world deck)
    → ((es : List Event) (e : Event) → P es (run deck es) → P (es ++ e ∷ []) (happens deck (run deck es) e))
    → (es : List Event) → P es (run deck es)
each_run deck P first next es = from [] es first
  where
    from : (done es : List Event) → P done (run deck done) → P (done ++ es) (run deck (done ++ es))
    from done [] h = subst (λ xs. P xs (run deck xs)) (sym (append-nil done)) h
    from done (e ∷ es) h =
        subst (λ xs. P xs (run deck xs)) (append_assoc done (e ∷ []) es)
        (from (done ++ e ∷ []) es
        (subst (P (done ++ e ∷ [])) (sym (run-push deck done (first_world deck) e)) (next done e h)))

-- What holds of each system at first, and of one after its event if it did before, holds of each system of every run.
pub systems_run : (deck : Deck) (P : ℕ → NodeState → Type 0) → ((s : ℕ) → P s (first_node deck s)) →
    ((m : MediumState) (c : SysId) (n : NodeState) (choice : Choice) → has m.removed c.0 ≡ false
    → P c.0 n → P c.0 (chosen deck m c n choice).step.node)
    → (es : List Event) (s : ℕ) (n : NodeState) → slice_get (run deck es).nodes s ≡ Some n → P s n
systems_run deck P first next =
    each_run deck (λ us w. (s : ℕ) (n : NodeState) → slice_get w.nodes s ≡ Some n → P s n)
    (λ s n at. subst (P s) (sym (first_of deck s n at)) (first s))
    (λ us e was.
    each_system deck (run deck us) e P was
    (λ n at live. next (run deck us).medium e.system n e.choice live (was e.system.0 n at)))

pub counted_events : (deck : Deck) (es : List Event) → (run deck es).events ≡ length es
unfolding first_world
counted_events deck = each_run deck (λ us w. w.events ≡ length us) refl
    (λ us e g.
    let more = ap (λ k. k + 1) g ∙ sym (length-append us (e ∷ [])) in
    each_live deck (run deck us) e (λ w. w.events ≡ length (us ++ e ∷ [])) more
    (λ n at live. events-placed (run deck us) e.system n _ ∙ more))

-- What holds of the lines that a live system's event tells, and stays so with further events, holds of all told lines.
pub all_told : (deck : Deck) (p : List Event → Told → Bool) →
    ((us : List Event) (e : Event) (x : Told) → p us x ≡ true → p (us ++ e ∷ []) x ≡ true) →
    ((us : List Event) (e : Event) (ls : List ToldLine) → has (run deck us).medium.removed e.system.0 ≡ false
    → list_all (p (us ++ e ∷ [])) (told_by (length us + 1) e.system ls) ≡ true)
    → (es : List Event) → list_all (p es) (run deck es).told ≡ true
unfolding first_world
all_told deck p longer last = each_run deck (λ us w. list_all (p us) w.told ≡ true) refl
    (λ us e was.
    let older = all-kept (p us) (p (us ++ e ∷ [])) (longer us e) (run deck us).told was in
    each_live deck (run deck us) e (λ w. list_all (p (us ++ e ∷ [])) w.told ≡ true) older
    (λ n at live.
    let o = chosen deck (run deck us).medium e.system n e.choice in
    ap (list_all (p (us ++ e ∷ []))) (told-placed (run deck us) e.system n o)
    ∙ (list_all-append (p (us ++ e ∷ [])) (run deck us).told
    (told_by ((run deck us).events + 1) e.system (told_in n o.step))
    ∙ and_from _ _ older
    (ap (λ k. list_all (p (us ++ e ∷ [])) (told_by (k + 1) e.system (told_in n o.step))) (counted_events deck us)
    ∙ last us e (told_in n o.step) live))))
