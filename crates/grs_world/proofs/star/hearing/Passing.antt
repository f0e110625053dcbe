-- What an event of one system has to show for what is still to be heard, beside what is the same for all events: that
-- of its own tasks, and of what was in its hands; and that nothing is lost then.
use Rattle.grs_world.proofs.Common.{[], ◌&&◌, ◌++◌, ◌<◌, ◌==◌, ◌||◌, ◌∙◌, ◌∷◌, ◌≡◌, ◌≢◌, ◌≤◌, ◌⊎◌, and_parts, ap}
use Rattle.grs_world.proofs.Common.{append-nil, arith, askers, Bool, cond, Deck, entry_of_res, eqb-false, eqb-true}
use Rattle.grs_world.proofs.Common.{false, filter, fixed_by, has, has_res, has_task, inbox, inbox_of, inl, inr}
use Rattle.grs_world.proofs.Common.{is_among, is_home_at, is_systems, items, items-append, items_from, items_of, length}
use Rattle.grs_world.proofs.Common.{List, list_any, list_of, lists, Mail, Managed, managed_at, managed_of, MediumState}
use Rattle.grs_world.proofs.Common.{mine, NodeState, owns, placed, put_here, put_other, refl, Req, Res, RunItem}
use Rattle.grs_world.proofs.Common.{same_Some, same_task, same_task-exact, slice_get, Some, StarPart, State, state_of}
use Rattle.grs_world.proofs.Common.{subst, suc, sym, SysId, TaskId, true, Turnout, with_mail, World, ℕ}
use Rattle.std.specs.Prelude.{◌⊎◌}
use Rattle.contention_mgr.specs.Manager.{is_of}
use Rattle.grs_world.proofs.star.Heard.{AreAddressed, IsHeard, IsInHands, IsUntold, enq_count, had_by, had_with, hears}
use Rattle.grs_world.proofs.star.Heard.{is_enq, is_timely, sent_by, sent_with, IsAddressed}
use Rattle.grs_world.proofs.star.Members.{all_lists, has_manager}
use Rattle.grs_world.proofs.star.Worlds.{AllHands, IsHand, IsWhole, in_hands, are_live}
use Rattle.grs_world.proofs.star.hearing.Elements.{IsDueOn, due-sent, recorded-or-due, recorded-here}
use Rattle.grs_world.proofs.star.hearing.Mails.{addressed-grown, among-grown, any-grown, hears-grown}
use Rattle.grs_world.proofs.run.Site.{Site, own-site, other-site, each_site, IsThere}
use Rattle.grs_world.proofs.star.Boxes.{by_box}
use Rattle.grs_world.proofs.run.Placed.{nodes_then}

-- more mails came to an inbox, each under its entry
abbrev pub Grown : Deck → List Mail → List Mail → Type 0
Grown deck old new = (more : List Mail) × (new ≡ old ++ more) × AreAddressed deck more

-- so each inbox has grown where a mail came last in one
pub box-grown : (deck : Deck) (boxes : List (List Mail)) (s : ℕ) (mail : Mail) → s < length boxes
    → IsAddressed deck mail → (u : ℕ) → Grown deck (inbox_of boxes u) (inbox_of (with_mail boxes s mail) u)
box-grown deck boxes s mail there addressed u =
    by_box boxes s mail (Grown deck (inbox_of boxes u)) there u (λ same. (mail ∷ [], refl, (addressed, tt)))
    (λ ne. ([], sym (append-nil (inbox_of boxes u)), tt))

-- where the request of a task of system s is
abbrev pub Requested : MediumState → List NodeState → ℕ → TaskId → Type 0
Requested m nodes s t = IsInHands m nodes t ⊎ (list_any (is_timely t) (inbox m s) ≡ true)

-- an owner hears that it owns, or is still to be told
abbrev pub Hearable : MediumState → List NodeState → ℕ → NodeState → TaskId → Res → Type 0
Hearable m nodes s k t r =
    (hears t r (has_res r (state_of k.tasks t).records) (inbox m s) ≡ true) ⊎ IsUntold m nodes s t r

-- whether a manager has still to tell a task that it owns
abbrev pub is_untold_by : StarPart → TaskId → Res → Bool
is_untold_by p t r = list_any (λ y. is_of r t y && y.untold) (items_of (managed_of p.manager r))

abbrev pub lists_then : World → SysId → Turnout → State
lists_then w c o = lists (items (w.fixed ++ fixed_by c o.step.fixed))

-- What an event of system c shows.
pub record Passes (deck : Deck) (w : World) (c : SysId) (n : NodeState) (o : Turnout) : Type 0 where
  -- mail comes last
  pub boxes : (u : ℕ) → u ≢ c.0 → Grown deck (inbox w.medium u) (inbox o.medium u)
  pub own_box : AreAddressed deck (inbox o.medium c.0)
  -- its own requests, and those of others that it had in its hands
  pub requests : (t : TaskId) → is_home_at deck c.0 t ≡ true → sent_by o.step.node t ≡ true
      → Requested o.medium (nodes_then w c o) c.0 t
  pub passed : (s : ℕ) (t : TaskId) (p : StarPart) → s ≢ c.0 → is_home_at deck s t ≡ true → n.star ≡ Some p
      → is_among t (askers (in_hands p (inbox w.medium c.0))) ≡ true → Requested o.medium (nodes_then w c o) s t
  -- its own owners, and those of others that it had to tell or that it makes
  pub owners : (t : TaskId) (r : Res) → is_home_at deck c.0 t ≡ true → is_systems r ≡ true
      → owns (list_of (lists_then w c o) r) t ≡ true
      → (had_by o.step.node t r ≡ true) ⊎ Hearable o.medium (nodes_then w c o) c.0 o.step.node t r
  pub told : (s : ℕ) (k : NodeState) (t : TaskId) (r : Res) (p : StarPart) → s ≢ c.0 → Site w s k
      → is_home_at deck s t ≡ true → is_systems r ≡ true
      → owns (list_of (lists_then w c o) r) t ≡ true → n.star ≡ Some p → is_untold_by p t r ≡ true →
      Hearable o.medium (nodes_then w c o) s k t r
  pub gained : (s : ℕ) (k : NodeState) (t : TaskId) (r : Res) → s ≢ c.0 → Site w s k → is_home_at deck s t ≡ true
      → is_systems r ≡ true
      → owns (list_of (all_lists w) r) t ≡ false → owns (list_of (lists_then w c o) r) t ≡ true →
      Hearable o.medium (nodes_then w c o) s k t r
  -- a new element's answer comes
  pub queued : (s : ℕ) (k : NodeState) (t : TaskId) (r : Res) → s ≢ c.0 → Site w s k → is_home_at deck s t ≡ true
      → is_systems r ≡ true
      → has_task (list_of (all_lists w) r) t ≡ false → has_task (list_of (lists_then w c o) r) t ≡ true →
      list_any (is_timely t) (inbox o.medium s) ≡ true
  pub ranks : (p : StarPart) (e : ℕ) (x : Managed) → o.step.node.star ≡ Some p → managed_at p.manager e ≡ Some x
      → x.next ≤ suc (enq_count (items (w.fixed ++ fixed_by c o.step.fixed)))

-- a request in somebody's hands is one of these
pub hand-found :
    (deck : Deck) (words : List ℕ) (live : ℕ → Bool) (later : ℕ → List RunItem) (out : ℕ → List Req) (m : ℕ)
    (t : TaskId) (qs : List Req)
    → AllHands deck words live later out m qs → is_among t (askers qs) ≡ true
    → (q : Req) × (t ≡ q.task) × IsHand deck words live later out m q
hand-found deck words live later out m t [] h e = absurd (cc)
hand-found deck words live later out m t (q ∷ qs) h e =
    go (same_task t q.task) refl e (hand-found deck words live later out m t qs h.1)
  where
    go : (b : Bool) → same_task t q.task ≡ b → (b || is_among t (askers qs)) ≡ true
        → (is_among t (askers qs) ≡ true → (z : Req) × (t ≡ z.task) × IsHand deck words live later out m z)
        → (z : Req) × (t ≡ z.task) × IsHand deck words live later out m z
    go true f k more = (q, same_task-exact t q.task f, h.0)
    go false f k more = more k

-- whose item is still to come has no request in anybody's hands
pub not-handed : (deck : Deck) (w : World) (g : IsWhole deck w) (s : ℕ) (t : TaskId) (y : RunItem)
    → is_home_at deck s t ≡ true → mine t (g.later s) ≡ y ∷ [] → IsInHands w.medium w.nodes t → ⊥
not-handed deck w g s t y home due h =
    let z =
    hand-found deck w.medium.words (are_live w) g.later g.out h.system t (in_hands h.part (inbox w.medium h.system))
    (g.hands h.system h.node h.part h.site h.star).each h.among in
    let at_home : t.system.0 ≡ s = eqb-true t.system.0 s (and_parts (t.system.0 == s) _ home).0 in
    let idle : mine t (g.later s) ≡ [] =
    ap (λ u. mine t (g.later u)) (sym at_home) ∙ (ap (λ (v : TaskId). mine v (g.later v.system.0)) z.1 ∙ z.2.idle) in
    let no : [] ≡ y ∷ [] = sym idle ∙ due in
    absurd (cc)

-- the requests of a system's own tasks are in the hands of others
pub handed-elsewhere : (deck : Deck) (w : World) (g : IsWhole deck w) (s : ℕ) (t : TaskId) → is_home_at deck s t ≡ true
    → (h : IsInHands w.medium w.nodes t) → h.system ≢ s
handed-elsewhere deck w g s t home h same =
    let z =
    hand-found deck w.medium.words (are_live w) g.later g.out h.system t (in_hands h.part (inbox w.medium h.system))
    (g.hands h.system h.node h.part h.site h.star).each h.among in
    let at_home : t.system.0 ≡ s = eqb-true t.system.0 s (and_parts (t.system.0 == s) _ home).0 in
    z.2.apart (ap (λ (v : TaskId). v.system.0) (sym z.1) ∙ (at_home ∙ sym same))

pub enq_count-grown : (xs ys : List RunItem) → enq_count xs ≤ enq_count (xs ++ ys)
enq_count-grown [] ys = omega arith
enq_count-grown (x ∷ xs) ys = go (is_enq x.fixed) (enq_count-grown xs ys)
  where
    go : (b : Bool) → enq_count xs ≤ enq_count (xs ++ ys)
        → length (cond b (x ∷ filter (λ z. is_enq z.fixed) xs) (filter (λ z. is_enq z.fixed) xs))
        ≤ length (cond b (x ∷ filter (λ z. is_enq z.fixed) (xs ++ ys)) (filter (λ z. is_enq z.fixed) (xs ++ ys)))
    go true h = omega (arith, h)
    go false h = h

-- ---- the world after an event of system c
module _ (deck : Deck) (w : World) (g : IsWhole deck w) (c : SysId) (n : NodeState) (at : Site w c.0 n) (o : Turnout)
    (same_removed : o.medium.removed ≡ w.medium.removed) where
  -- who is removed stays so
  still-live : (s : ℕ) → has w.medium.removed s ≡ false → has o.medium.removed s ≡ false
  still-live s live = ap (λ i. has i s) same_removed ∙ live

  now : IsThere (nodes_then w c o) o.medium.removed c.0 o.step.node
  now = own-site w c n at o (still-live c.0 at.live)

  -- what is in the hands of others stays there, and so does what they have to tell
  module _ (boxes : (u : ℕ) → u ≢ c.0 → Grown deck (inbox w.medium u) (inbox o.medium u)) where
    handed-on : (t : TaskId) (h : IsInHands w.medium w.nodes t) → h.system ≢ c.0
        → IsInHands o.medium (nodes_then w c o) t
    handed-on t h ne =
        let b = boxes h.system ne in
        record {
          system = h.system;
          node = h.node;
          part = h.part;
          site = other-site w c n at o h.system h.node ne h.site (still-live h.system h.site.live);
          star = h.star;
          among =
              ap (λ ms. is_among t (askers (in_hands h.part ms))) b.1
              ∙ among-grown t h.part.held (inbox w.medium h.system) b.0 h.among;
        }

    -- those of the system's own tasks
    pub handed-own : (t : TaskId) → is_home_at deck c.0 t ≡ true → IsInHands w.medium w.nodes t
        → IsInHands o.medium (nodes_then w c o) t
    handed-own t home h = handed-on t h (handed-elsewhere deck w g c.0 t home h)

    -- by whose hands they are
    by-hands : (t : TaskId) (X : Type 0) → IsInHands w.medium w.nodes t
        → ((p : StarPart) → n.star ≡ Some p → is_among t (askers (in_hands p (inbox w.medium c.0))) ≡ true → X)
        → (IsInHands o.medium (nodes_then w c o) t → X) → X
    by-hands t X h own others = go (h.system == c.0) refl
      where
        go : (b : Bool) → (h.system == c.0) ≡ b → X
        go true e =
            let same : h.system ≡ c.0 = eqb-true h.system c.0 e in
            let node : n ≡ h.node = same_Some n h.node (sym at.at ∙ (ap (slice_get w.nodes) (sym same) ∙ h.site.at)) in
            own h.part (ap (λ (z : NodeState). z.star) node ∙ h.star)
            (ap (λ u. is_among t (askers (in_hands h.part (inbox w.medium u)))) (sym same) ∙ h.among)
        go false e = others (handed-on t h (eqb-false h.system c.0 e))

  untold-on : (s : ℕ) (t : TaskId) (r : Res) (h : IsUntold w.medium w.nodes s t r) → h.system ≢ c.0
      → IsUntold o.medium (nodes_then w c o) s t r
  untold-on s t r h ne = record {
    system = h.system;
    node = h.node;
    part = h.part;
    site = other-site w c n at o h.system h.node ne h.site (still-live h.system h.site.live);
    star = h.star;
    apart = h.apart;
    untold = h.untold;
  }

  pub untold-own : (t : TaskId) (r : Res) → IsUntold w.medium w.nodes c.0 t r
      → IsUntold o.medium (nodes_then w c o) c.0 t r
  untold-own t r h = untold-on c.0 t r h h.apart

  by-untold : (s : ℕ) (t : TaskId) (r : Res) (X : Type 0) → IsUntold w.medium w.nodes s t r
      → ((p : StarPart) → n.star ≡ Some p → is_untold_by p t r ≡ true → X)
      → (IsUntold o.medium (nodes_then w c o) s t r → X) → X
  by-untold s t r X h own others = go (h.system == c.0) refl
    where
      go : (b : Bool) → (h.system == c.0) ≡ b → X
      go true e =
          let same : h.system ≡ c.0 = eqb-true h.system c.0 e in
          let node : n ≡ h.node = same_Some n h.node (sym at.at ∙ (ap (slice_get w.nodes) (sym same) ∙ h.site.at)) in
          own h.part (ap (λ (z : NodeState). z.star) node ∙ h.star) h.untold
      go false e = others (untold-on s t r h (eqb-false h.system c.0 e))

  -- the system has these to tell now
  pub untold-here : (s : ℕ) (t : TaskId) (r : Res) (p : StarPart) → s ≢ c.0 → o.step.node.star ≡ Some p
      → is_untold_by p t r ≡ true → IsUntold o.medium (nodes_then w c o) s t r
  untold-here s t r p ne star untold = record {
    system = c.0;
    node = o.step.node;
    part = p;
    site = now;
    star = star;
    apart = λ e. ne (sym e);
    untold = untold;
  }

  -- and has these requests in its hands
  pub handed-here : (t : TaskId) (p : StarPart) → o.step.node.star ≡ Some p
      → is_among t (askers (in_hands p (inbox o.medium c.0))) ≡ true → IsInHands o.medium (nodes_then w c o) t
  handed-here t p star among = record {
    system = c.0;
    node = o.step.node;
    part = p;
    site = now;
    star = star;
    among = among;
  }

  -- a task whose request isn't outstanding has each element on record
  pub own-recorded : (g' : IsWhole deck (placed w c n o)) (t : TaskId) → is_home_at deck c.0 t ≡ true → (r : Res)
      → has_task (list_of (lists_then w c o) r) t ≡ true
      → (has_res r (state_of o.step.node.tasks t).records ≡ true)
      ⊎ ((y : RunItem) × (mine t (g'.later c.0) ≡ y ∷ []) × (sent_by o.step.node t ≡ true))
  unfolding placed
  own-recorded g' t home r has =
      let h = g'.system c.0 o.step.node now in
      go (recorded-or-due deck o.medium.words (items (w.fixed ++ fixed_by c o.step.fixed)) g'.right c.0 o.step.node
      (inbox o.medium c.0) (g'.later c.0) (g'.out c.0) h t home r has)
    where
      go : (has_res r (state_of o.step.node.tasks t).records ≡ true)
          ⊎ IsDueOn deck o.medium.words c.0 o.step.node (g'.later c.0) t r
          → (has_res r (state_of o.step.node.tasks t).records ≡ true)
          ⊎ ((y : RunItem) × (mine t (g'.later c.0) ≡ y ∷ []) × (sent_by o.step.node t ≡ true))
      go (inl z) = inl z
      go (inr d) =
          inr (
            d.item,
            d.due,
            (due-sent deck o.medium.words (items (w.fixed ++ fixed_by c o.step.fixed)) g'.right c.0 o.step.node
                (inbox o.medium c.0) (g'.later c.0) (g'.out c.0)
                (g'.system c.0 o.step.node now) t home
                d.item d.due).1,
          )

  -- so where it manages the entry
  pub recorded-now : IsWhole deck (placed w c n o) → (t : TaskId) → is_home_at deck c.0 t ≡ true → (r : Res)
      → has_task (list_of (lists_then w c o) r) t ≡ true → (e : ℕ) → entry_of_res deck.entries r ≡ Some e
      → has_manager o.medium.words e c.0 ≡ true → has_res r (state_of o.step.node.tasks t).records ≡ true
  unfolding placed
  recorded-now g' t home r has e of_entry mine =
      recorded-here deck o.medium.words (items (w.fixed ++ fixed_by c o.step.fixed)) g'.right c.0 o.step.node
      (inbox o.medium c.0) (g'.later c.0) (g'.out c.0) (g'.system c.0 o.step.node now) t home r has e of_entry mine

  -- and where it has sent none
  pub own-recorded-ready : IsWhole deck (placed w c n o) → (t : TaskId) → is_home_at deck c.0 t ≡ true → (r : Res)
      → has_task (list_of (lists_then w c o) r) t ≡ true → sent_by o.step.node t ≡ false
      → has_res r (state_of o.step.node.tasks t).records ≡ true
  own-recorded-ready g' t home r has ready = go (own-recorded g' t home r has)
    where
      go : (has_res r (state_of o.step.node.tasks t).records ≡ true)
          ⊎ ((y : RunItem) × (mine t (g'.later c.0) ≡ y ∷ []) × (sent_by o.step.node t ≡ true))
          → has_res r (state_of o.step.node.tasks t).records ≡ true
      go (inl z) = z
      go (inr z) = absurd (let no : false ≡ true = sym ready ∙ z.2 in cc)

  -- ---- nothing is lost
  module _ (sent : ℕ → TaskId → Bool) (had : ℕ → TaskId → Res → Bool)
      (h : IsHeard deck w (sent_with sent c n) (had_with had c n)) (g' : IsWhole deck (placed w c n o))
      (z : Passes deck w c n o) where
    grown_count : enq_count (items w.fixed) ≤ enq_count (items (w.fixed ++ fixed_by c o.step.fixed))
    grown_count =
        subst (λ xs. enq_count (items w.fixed) ≤ enq_count xs) (sym (items-append w.fixed (fixed_by c o.step.fixed)))
        (enq_count-grown (items w.fixed) (items_from (lists (items w.fixed)) (fixed_by c o.step.fixed)))

    timely-on : (s : ℕ) → s ≢ c.0 → (t : TaskId) → list_any (is_timely t) (inbox w.medium s) ≡ true
        → list_any (is_timely t) (inbox o.medium s) ≡ true
    timely-on s ne t e =
        let b = z.boxes s ne in ap (list_any (is_timely t)) b.1 ∙ any-grown (is_timely t) (inbox w.medium s) b.0 e

    requests-others : (s : ℕ) → s ≢ c.0 → (t : TaskId) → is_home_at deck s t ≡ true → Requested w.medium w.nodes s t
        → Requested o.medium (nodes_then w c o) s t
    requests-others s ne t home (inl i) =
        by-hands z.boxes t (Requested o.medium (nodes_then w c o) s t) i
        (λ p star among. z.passed s t p ne home star among)
        (λ j. inl j)
    requests-others s ne t home (inr e) = inr (timely-on s ne t e)

    owners-others : (s : ℕ) (k : NodeState) → s ≢ c.0 → Site w s k
        → (t : TaskId) (r : Res) → is_home_at deck s t ≡ true → is_systems r ≡ true
        → owns (list_of (lists_then w c o) r) t ≡ true →
        (had s t r ≡ true) ⊎ Hearable w.medium w.nodes s k t r
        → (had s t r ≡ true) ⊎ Hearable o.medium (nodes_then w c o) s k t r
    owners-others s k ne found t r home wide owned (inl e) = inl e
    owners-others s k ne found t r home wide owned (inr (inl e)) =
        let b = z.boxes s ne in
        inr (inl (ap (hears t r (has_res r (state_of k.tasks t).records)) b.1
        ∙ hears-grown t r (has_res r (state_of k.tasks t).records) (inbox w.medium s) b.0 e))
    owners-others s k ne found t r home wide owned (inr (inr u)) =
        by-untold s t r ((had s t r ≡ true) ⊎ Hearable o.medium (nodes_then w c o) s k t r) u
        (λ p star untold. inr (z.told s k t r p ne found home wide owned star untold)) (λ v. inr (inr v))

    recorded-own : (t : TaskId) (r : Res) → is_home_at deck c.0 t ≡ true
        → has_task (list_of (lists_then w c o) r) t ≡ true
        → (has_res r (state_of o.step.node.tasks t).records ≡ true)
        ⊎ (list_any (is_timely t) (inbox o.medium c.0) ≡ true)
    unfolding placed
    recorded-own t r home has = go (own-recorded g' t home r has)
      where
        go : (has_res r (state_of o.step.node.tasks t).records ≡ true)
            ⊎ ((y : RunItem) × (mine t (g'.later c.0) ≡ y ∷ []) × (sent_by o.step.node t ≡ true))
            → (has_res r (state_of o.step.node.tasks t).records ≡ true)
            ⊎ (list_any (is_timely t) (inbox o.medium c.0) ≡ true)
        go (inl e) = inl e
        go (inr y) = by-request (z.requests t home y.2)
          where
            by-request : Requested o.medium (nodes_then w c o) c.0 t
                → (has_res r (state_of o.step.node.tasks t).records ≡ true)
                ⊎ (list_any (is_timely t) (inbox o.medium c.0) ≡ true)
            by-request (inl i) = absurd (not-handed deck (placed w c n o) g' c.0 t y.0 home y.1 i)
            by-request (inr e) = inr e

    recorded-others : (s : ℕ) (k : NodeState) → s ≢ c.0 → Site w s k
        → (t : TaskId) (r : Res) → is_home_at deck s t ≡ true → is_systems r ≡ true
        → has_task (list_of (lists_then w c o) r) t ≡ true →
        (has_res r (state_of k.tasks t).records ≡ true) ⊎ (list_any (is_timely t) (inbox o.medium s) ≡ true)
    recorded-others s k ne found t r home wide has = go (has_task (list_of (all_lists w) r) t) refl
      where
        before : (has_res r (state_of k.tasks t).records ≡ true) ⊎ (list_any (is_timely t) (inbox w.medium s) ≡ true)
            → (has_res r (state_of k.tasks t).records ≡ true) ⊎ (list_any (is_timely t) (inbox o.medium s) ≡ true)
        before (inl e) = inl e
        before (inr e) = inr (timely-on s ne t e)

        go : (b : Bool) → has_task (list_of (all_lists w) r) t ≡ b
            → (has_res r (state_of k.tasks t).records ≡ true) ⊎ (list_any (is_timely t) (inbox o.medium s) ≡ true)
        go true e = before (h.recorded s k t r found home wide e)
        go false e = inr (z.queued s k t r ne found home wide e has)

    mails-now : (s : ℕ) → AreAddressed deck (inbox o.medium s)
    mails-now s = go (s == c.0) refl
      where
        go : (b : Bool) → (s == c.0) ≡ b → AreAddressed deck (inbox o.medium s)
        go true e = subst (λ u. AreAddressed deck (inbox o.medium u)) (sym (eqb-true s c.0 e)) z.own_box
        go false e =
            let b = z.boxes s (eqb-false s c.0 e) in
            subst (AreAddressed deck) (sym b.1) (addressed-grown deck (inbox w.medium s) b.0 (h.mails s) b.2)

    pub heard-placed : IsHeard deck (placed w c n o) (sent_with sent c o.step.node) (had_with had c o.step.node)
    unfolding placed
    heard-placed = record {
      requests = λ s k t found home is.
          each_site w c n at o was-live (λ u y.
          is_home_at deck u t ≡ true → sent_with sent c o.step.node u t ≡ true
          → Requested o.medium (nodes_then w c o) u t)
          (λ own is_sent. z.requests t own (sym (ap (λ f. f t) (put_here sent c.0 (sent_by o.step.node))) ∙ is_sent))
          (λ u y ne there own is_sent.
          requests-others u ne t own (h.requests u y t there own
          (ap (λ f. f t) (put_other sent c.0 (sent_by n) u ne)
          ∙ (sym (ap (λ f. f t) (put_other sent c.0 (sent_by o.step.node) u ne)) ∙ is_sent))))
          s k found home is;
      owners = λ s k t r found home wide owned.
          each_site w c n at o was-live (λ u y.
          is_home_at deck u t ≡ true
          → (had_with had c o.step.node u t r ≡ true) ⊎ Hearable o.medium (nodes_then w c o) u y t r)
          (λ own.
          subst (λ b. (b ≡ true) ⊎ Hearable o.medium (nodes_then w c o) c.0 o.step.node t r)
          (sym (ap (λ f. f t r) (put_here had c.0 (had_by o.step.node)))) (z.owners t r own wide owned))
          (λ u y ne there own.
          subst (λ b. (b ≡ true) ⊎ Hearable o.medium (nodes_then w c o) u y t r)
          (sym (ap (λ f. f t r) (put_other had c.0 (had_by o.step.node) u ne)))
          (by-owner u y ne there t r own wide owned))
          s k found home;
      recorded = λ s k t r found home wide has_it.
          each_site w c n at o was-live (λ u y.
          is_home_at deck u t ≡ true
          → (has_res r (state_of y.tasks t).records ≡ true) ⊎ (list_any (is_timely t) (inbox o.medium u) ≡ true))
          (λ own. recorded-own t r own has_it)
          (λ u y ne there own. recorded-others u y ne there t r own wide has_it)
          s k found home;
      mails = mails-now;
      ranks = λ m k p e x found star managed.
          each_site w c n at o was-live (λ u y.
          y.star ≡ Some p → x.next ≤ suc (enq_count (items (w.fixed ++ fixed_by c o.step.fixed))))
          (λ own. z.ranks p e x own managed)
          (λ u y ne there own. let old = h.ranks u y p e x there own managed in omega (arith, old, grown_count))
          m k found star;
    }
      where
        was-live : (s : ℕ) → has o.medium.removed s ≡ false → has w.medium.removed s ≡ false
        was-live s live = sym (ap (λ i. has i s) same_removed) ∙ live

        by-owner : (u : ℕ) (y : NodeState) → u ≢ c.0 → Site w u y
            → (t : TaskId) (r : Res) → is_home_at deck u t ≡ true → is_systems r ≡ true
            → owns (list_of (lists_then w c o) r) t ≡ true
            → (had u t r ≡ true) ⊎ Hearable o.medium (nodes_then w c o) u y t r
        by-owner u y ne found t r there wide owned = go (owns (list_of (all_lists w) r) t) refl
          where
            go : (b : Bool) → owns (list_of (all_lists w) r) t ≡ b
                → (had u t r ≡ true) ⊎ Hearable o.medium (nodes_then w c o) u y t r
            go true e =
                owners-others u y ne found t r there wide owned
                (subst (λ b. (b ≡ true) ⊎ Hearable w.medium w.nodes u y t r)
                (ap (λ f. f t r) (put_other had c.0 (had_by n) u ne))
                (h.owners u y t r found there wide e))
            go false e = inr (z.gained u y t r ne found there wide e owned)
