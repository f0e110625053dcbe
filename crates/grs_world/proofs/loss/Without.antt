-- What a system, its lists, its inbox and its hands are without the elements and the requests of another one.
use Rattle.grs_world.proofs.Common.{[], ◌&&◌, ◌++◌, ◌==◌, ◌||◌, ◌∙◌, ◌∷◌, ◌≡◌, ◌≢◌, Answered, ap, askers, Bool, cond}
use Rattle.grs_world.proofs.Common.{Deck, desk_told, Elem, entry_of, eq-eqb, false, filter, filter-append, Granted}
use Rattle.grs_world.proofs.Common.{has_task, is_among, is_interested, is_systems, List, list_any, list_of, lists, Mail}
use Rattle.grs_world.proofs.Common.{Managed, no_truth, NodeState, not, Notice, Option, or_left, or_right, Part, refl}
use Rattle.grs_world.proofs.Common.{remove_state, Req, Res, RunItem, Said, same_res, same_task, same_task-exact}
use Rattle.grs_world.proofs.Common.{slice_of, StarPart, State, sym, SysId, TaskId, true, ℕ}
use Rattle.grs_base.specs.declared.resource.Res.TheVariants.{Step as StepRes, System as SystemRes}
use Rattle.grs_base.specs.declared.resource.Res.TheVariants.{Systems as SystemsRes}
use Rattle.grs_base.specs.State.{is_of_other}
use Rattle.grs_known.proofs.lists.Alike.{alike-none}
use Rattle.grs_wire.proofs.RemoveLaws.{by_systems, list_of-remove}
use Rattle.contention_mgr.specs.Loses.{lost}
use Rattle.grs_wire.specs.declared.medium.Mail.TheVariants.{Request}
use Rattle.grs_world.proofs.loss.Marks.{lost_each}
use Rattle.grs_world.proofs.star.Heard.{AreAddressed, grants, hears, is_timely}
use Rattle.grs_world.proofs.loss.Leaves.{held-left, mail_without, requests-left, under-narrow, under-wide}
use Rattle.grs_world.proofs.loss.Losing.{filter-both, is_in, lose_parts}
use Rattle.grs_world.proofs.star.Elements.{AreNear, is_near_res, near-has, near-words}
use Rattle.grs_world.proofs.star.Systems.{IsSystem, requests_in}
use Rattle.grs_world.proofs.star.Under.{under}
use Rattle.grs_world.proofs.star.Worlds.{in_hands}
use Rattle.grs_world.proofs.system.Desks.{desk-at}

-- ---- a system as it is read: its part and what it knows say nothing of its tasks
pub system-part : (deck : Deck) (words : List ℕ) (T : List RunItem) (s : ℕ) (n : NodeState) (ms : List Mail)
    (later : List RunItem) (out : List Req) (o : Option StarPart) → IsSystem deck words T s n ms later out
    → IsSystem deck words T s (record n { star = o }) ms later out
system-part deck words T s n ms later out o h = record {
  at = record { good = h.at.good; own = h.at.own; shared = refl; homes = h.at.homes; apart = h.at.apart };
  late = h.late;
  sent = h.sent;
  near = h.near;
  coming = h.coming;
  answered = h.answered;
  fits = h.fits;
}

-- and neither does a line of its desk
pub system-desk : (deck : Deck) (words : List ℕ) (T : List RunItem) (s : ℕ) (n : NodeState) (ms : List Mail)
    (later : List RunItem) (out : List Req) (said : Said) → IsSystem deck words T s n ms later out
    → IsSystem deck words T s (desk_told n said) ms later out
system-desk deck words T s n ms later out said h = record {
  at = desk-at deck s T later out n said h.at;
  late = h.late;
  sent = h.sent;
  near = h.near;
  coming = h.coming;
  answered = h.answered;
  fits = h.fits;
}

-- ---- the lists without the elements of a system
pub is-left : (t : SysId) (u : TaskId) (es : List Elem) → has_task (filter (is_of_other t.0) es) u ≡ true
    → (has_task es u ≡ true) × (u.system.0 ≢ t.0)
is-left t u [] h = no_truth true refl (sym h)
is-left t u (x ∷ es) h = one (same_task u x.task) (t.0 == x.task.system.0) refl refl h (is-left t u es)
  where
    one : (a b : Bool) → same_task u x.task ≡ a → (t.0 == x.task.system.0) ≡ b
        → has_task (cond (not b) (x ∷ filter (is_of_other t.0) es) (filter (is_of_other t.0) es)) u ≡ true
        → (has_task (filter (is_of_other t.0) es) u ≡ true → (has_task es u ≡ true) × (u.system.0 ≢ t.0))
        → ((a || has_task es u) ≡ true) × (u.system.0 ≢ t.0)
    one true false is far z more = (
      refl,
      λ e.
          no_truth (t.0 == x.task.system.0)
          (eq-eqb t.0 x.task.system.0 (sym e ∙ ap (λ (v : TaskId). v.system.0) (same_task-exact u x.task is)))
          far,
    )
    one true true is near z more = (refl, (more z).1)
    one false false is far z more =
        more (ap (λ b. b || has_task (filter (is_of_other t.0) es) u) (sym is) ∙ z)
    one false true is near z more = more z

module _ (deck : Deck) (words words' : List ℕ) (L : State) (t : SysId)
    (same : (e s : ℕ) → s ≢ t.0 → is_interested words' e s ≡ is_interested words e s) where
  -- who is left on a resource of the whole complex had an element, and is of another system
  pub left-has : (r : Res) → is_systems r ≡ true → (u : TaskId) → has_task (list_of (remove_state L t.0) r) u ≡ true
      → (has_task (list_of L r) u ≡ true) × (u.system.0 ≢ t.0)
  left-has r wide u stands =
      is-left t u (list_of L r)
      (ap (λ (es : List Elem). has_task es u) (sym (list_of-remove L t.0 r wide)) ∙ stands)

  pub near-left : AreNear deck words L → AreNear deck words' (remove_state L t.0)
  near-left near = near-words deck words' (remove_state L t.0) by_res
    where
      by_res : (r : Res) (u : TaskId) → has_task (list_of (remove_state L t.0) r) u ≡ true
          → is_near_res deck words' r u ≡ true
      by_res (StepRes z j q r) u stands = refl
      by_res (SystemRes z q r) u stands = refl
      by_res (SystemsRes q r) u stands =
          let z = left-has (SystemsRes q r) refl u stands in
          same (entry_of (slice_of q r) deck.entries) u.system.0 z.1
          ∙ near-has deck words L (SystemsRes q r) u near z.0

  -- an entry in which nothing is queued
  pub none-left : (e : ℕ) → under deck.entries e L ≡ [] → under deck.entries e (remove_state L t.0) ≡ []
  none-left e none = alike-none (under deck.entries e (remove_state L t.0)) (record {
    lists = λ r.
        by_systems r _
        (λ wide.
        sym (under-wide deck.entries e L t.0 r wide
        ∙ ap (λ (st : State). filter (is_of_other t.0) (list_of st r)) none))
        (λ narrow. sym (under-narrow deck.entries e L t.0 r narrow ∙ ap (λ (st : State). list_of st r) none));
  })

-- ---- requests in a system's hands, of a part that loses one more
module _ (t : SysId) (p : StarPart) (ss ts : List SysId) (more : (u : ℕ) → is_in u ts ≡ (is_in u ss || (t.0 == u)))
    (ms : List Mail) where
  pub held-more : (lose_parts p ts).held ≡ filter (λ (q : Req). not (t.0 == q.task.system.0)) (lose_parts p ss).held
  held-more =
      held-left p ts
      ∙ (sym (filter-both (λ (q : Req). not (is_in q.task.system.0 ss)) (λ (q : Req). not (t.0 == q.task.system.0))
      (λ (q : Req). not (is_in q.task.system.0 ts))
      (λ q. ap not (more q.task.system.0) ∙ not-or (is_in q.task.system.0 ss) (t.0 == q.task.system.0)) p.held)
      ∙ ap (filter (λ (q : Req). not (t.0 == q.task.system.0))) (sym (held-left p ss)))
    where
      not-or : (a b : Bool) → not (a || b) ≡ (not a && not b)
      not-or true b = refl
      not-or false b = refl

  pub hands-more : in_hands (lose_parts p ts) (mail_without (λ u. t.0 == u) ms)
      ≡ filter (λ (q : Req). not (t.0 == q.task.system.0)) (in_hands (lose_parts p ss) ms)
  hands-more =
      ap (λ (qs : List Req). qs ++ requests_in (mail_without (λ u. t.0 == u) ms)) held-more
      ∙ (ap (λ (qs : List Req). filter (λ (q : Req). not (t.0 == q.task.system.0)) (lose_parts p ss).held ++ qs)
      (requests-left (λ u. t.0 == u) ms)
      ∙ sym (filter-append (λ (q : Req). not (t.0 == q.task.system.0)) (lose_parts p ss).held (requests_in ms)))

-- ---- what is heard of an inbox without requests
module _ (gone : ℕ → Bool) where
  pub timely-left : (u : TaskId) (ms : List Mail) → list_any (is_timely u) ms ≡ true
      → list_any (is_timely u) (mail_without gone ms) ≡ true
  timely-left u [] h = h
  timely-left u (Request e from q ∷ ms) h = go (gone q.task.system.0) (timely-left u ms h)
    where
      go : (b : Bool) → list_any (is_timely u) (mail_without gone ms) ≡ true
          → list_any (is_timely u) (cond (not b) (Request e from q ∷ mail_without gone ms) (mail_without gone ms))
          ≡ true
      go true more = more
      go false more = more
  timely-left u (Answered v answer rank ∷ ms) h = go (is_timely u (Answered v answer rank)) h (timely-left u ms)
    where
      go : (b : Bool) → (b || list_any (is_timely u) ms) ≡ true
          → (list_any (is_timely u) ms ≡ true → list_any (is_timely u) (mail_without gone ms) ≡ true)
          → (b || list_any (is_timely u) (mail_without gone ms)) ≡ true
      go true is more = refl
      go false is more = more is
  timely-left u (Granted v r ∷ ms) h = timely-left u ms h
  timely-left u (Notice target moved ∷ ms) h = timely-left u ms h
  timely-left u (Part e from records ∷ ms) h = timely-left u ms h

  pub hears-left : (u : TaskId) (r : Res) (b : Bool) (ms : List Mail)
      → hears u r b (mail_without gone ms) ≡ hears u r b ms
  hears-left u r b [] = refl
  hears-left u r b (Request e from q ∷ ms) = go (gone q.task.system.0) (hears-left u r b ms)
    where
      go : (d : Bool) → hears u r b (mail_without gone ms) ≡ hears u r b ms
          → hears u r b (cond (not d) (Request e from q ∷ mail_without gone ms) (mail_without gone ms))
          ≡ hears u r b ms
      go true more = more
      go false more = more
  hears-left u r b (Answered v answer rank ∷ ms) =
      ap (λ x. cond (is_timely u (Answered v answer rank)) ((not b && grants answer) || x)
      (hears u r b (mail_without gone ms))) (hears-left u r true ms)
      ∙ ap (λ x. cond (is_timely u (Answered v answer rank)) ((not b && grants answer) || hears u r true ms) x)
      (hears-left u r b ms)
  hears-left u r b (Granted v q ∷ ms) =
      ap (λ x. (b && (same_task u v && same_res r q)) || x) (hears-left u r b ms)
  hears-left u r b (Notice target moved ∷ ms) = hears-left u r b ms
  hears-left u r b (Part e from records ∷ ms) = hears-left u r b ms

  pub addressed-left : (deck : Deck) (ms : List Mail) → AreAddressed deck ms → AreAddressed deck (mail_without gone ms)
  addressed-left deck [] h = tt
  addressed-left deck (Request e from q ∷ ms) h = go (gone q.task.system.0) (addressed-left deck ms h.1)
    where
      go : (b : Bool) → AreAddressed deck (mail_without gone ms)
          → AreAddressed deck (cond (not b) (Request e from q ∷ mail_without gone ms) (mail_without gone ms))
      go true more = more
      go false more = (h.0, more)
  addressed-left deck (Answered v answer rank ∷ ms) h = (tt, addressed-left deck ms h.1)
  addressed-left deck (Granted v r ∷ ms) h = (tt, addressed-left deck ms h.1)
  addressed-left deck (Notice target moved ∷ ms) h = (tt, addressed-left deck ms h.1)
  addressed-left deck (Part e from records ∷ ms) h = (tt, addressed-left deck ms h.1)

-- who asks is left among those who aren't of the removed system
pub among-left : (t : SysId) (u : TaskId) → (t.0 == u.system.0) ≡ false → (qs : List Req)
    → is_among u (askers qs) ≡ true
    → is_among u (askers (filter (λ (q : Req). not (t.0 == q.task.system.0)) qs)) ≡ true
among-left t u far [] h = h
among-left t u far (q ∷ qs) h = go (t.0 == q.task.system.0) (same_task u q.task) refl refl h (among-left t u far qs)
  where
    rest : List Req
    rest = filter (λ (z : Req). not (t.0 == z.task.system.0)) qs

    go : (a b : Bool) → (t.0 == q.task.system.0) ≡ a → same_task u q.task ≡ b → (b || is_among u (askers qs)) ≡ true
        → (is_among u (askers qs) ≡ true → is_among u (askers rest) ≡ true)
        → is_among u (askers (cond (not a) (q ∷ rest) rest)) ≡ true
    go true true gone is k more =
        no_truth (t.0 == q.task.system.0) gone
        (ap (λ (v : TaskId). t.0 == v.system.0) (sym (same_task-exact u q.task is)) ∙ far)
    go true false gone is k more = more k
    go false true gone is k more = or_left (same_task u q.task) (is_among u (askers rest)) is
    go false false gone is k more = or_right (same_task u q.task) (is_among u (askers rest)) (more k)

-- the next rank stays
pub next-each : (s : ℕ) (m : Managed) (ss : List SysId) → (lost_each s m ss).next ≡ m.next
next-each s m [] = refl
next-each s m (u ∷ us) = next-each s (lost s u.0 m) us
