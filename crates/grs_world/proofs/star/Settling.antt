-- A manager settles a request of another system: what holds of the manager, and in whose hands the request was.
use Rattle.grs_world.proofs.Common.{[], ◌++◌, ◌<◌, ◌==◌, ◌||◌, ◌∙◌, ◌∷◌, ◌≡◌, ◌≢◌, and_parts, Answer, answer_to}
use Rattle.grs_world.proofs.Common.{Answered, ap, append-nil, arith, Asked, askers, Bool, cond, Deck, entry_wanted}
use Rattle.grs_world.proofs.Common.{eqb-false, eqb-true, false, false_by, filter-append, filter-cons_left, follows}
use Rattle.grs_world.proofs.Common.{get_or, Granted, has, history, inbox, inl, inr, is_among, is_home_at, is_of}
use Rattle.grs_world.proofs.Common.{IsAskedBy, IsHistory, IsReq, items, length, List, list_all, list_of, lists}
use Rattle.grs_world.proofs.Common.{lists-push, made_item, Mail, MayFollow, MediumState, mine, NodeState, None, none}
use Rattle.grs_world.proofs.Common.{not, not-true, Notice, Option, or_parts, owns, Part, placed, put_at, put_here}
use Rattle.grs_world.proofs.Common.{put_other, refl, Req, Res, res_wanted, RunItem, same_Some, same_task}
use Rattle.grs_world.proofs.Common.{same_task-exact, same_task-itself, slice_get, slice_get-get_or, Some, stand_apart}
use Rattle.grs_world.proofs.Common.{StarPart, state_of, subst, sym, SysId, task_swap, TaskId, tell_new, true, Want}
use Rattle.grs_world.proofs.Common.{with_mail, World, ℕ}
use Rattle.grs_wire.specs.declared.medium.Mail.TheVariants.{Request}
use Rattle.grs_world.proofs.star.Elements.{AreNear, is_near_res, near-want}
use Rattle.grs_world.proofs.star.Answering.{Taken, tells-new, asker-settled}
use Rattle.grs_world.proofs.star.Ghosts.{IsOthers, others-ask, told-free}
use Rattle.grs_world.proofs.star.Under.{res-entry}
use Rattle.grs_world.proofs.star.Members.{has_manager, one-manages, IsStep}
use Rattle.grs_world.proofs.star.OwnEvents.{Goes, late-calm}
use Rattle.grs_world.proofs.star.Systems.{IsSystem, system-other, Away, near_at, is_near, gives_want, system-settled}
use Rattle.grs_world.proofs.star.Systems.{requests_in, here}
use Rattle.grs_world.proofs.star.Worlds.{IsIn, IsHand, AllHands, IsWhole, Hands, are_live, in_hands, items-one}
use Rattle.grs_world.proofs.star.Worlds.{live-below, whole-placed, Fixes, StaysWhole, one_fixed, live-site}
use Rattle.grs_world.proofs.run.Site.{Site}
use Rattle.grs_world.proofs.star.Boxes.{its-box, other-box, by_box}
use Rattle.grs_wire.specs.declared.request.Fixed.TheVariants as fixing

-- the manager: another system's item is fixed, and its own tasks that became owners are told
pub system-manages :
    (deck : Deck) (words : List ℕ) (T : List RunItem) (s : ℕ) (n : NodeState) (ms : List Mail) (later : List RunItem)
    (out : List Req) (x : RunItem)
    → IsOthers deck s T x → IsHistory deck (T ++ x ∷ []) →
    IsSystem deck words T s n ms later out → (want : Want) (entry : ℕ) → entry_wanted deck.entries want ≡ Some entry
    → has_manager words entry s ≡ true → (ts : List TaskId) →
    ((r : Res) → res_wanted want ≡ Some r → (u : TaskId) → is_among u ts ≡ true
    → owns (list_of (lists (T ++ x ∷ [])) r) u ≡ true)
    → (o : Option StarPart) →
    Goes deck words (T ++ x ∷ []) s (record n { tasks = tell_new n.tasks (res_wanted want) ts; star = o }) ms later out
    n.tasks.told
system-manages deck words T s n ms later out x others right h want entry at mine ts owned o =
    let z = system-other deck words T s n ms later out x others h in
    let k : Taken deck s (T ++ x ∷ []) later out n.tasks.told n.tasks = record { good = z.at.good; told = none } in
    let told =
    tells-new deck s (T ++ x ∷ []) later out right n.tasks.told n.tasks k (res_wanted want) ts
    (λ r wanted. (
      owned r wanted,
      late-calm deck words s r entry later (res-entry deck.entries want r entry wanted at) mine h.late,
    )) in
    record {
      system = record {
        at = record { good = told.good; own = z.at.own; shared = refl; homes = z.at.homes; apart = z.at.apart };
        late = z.late;
        sent = z.sent;
        near = z.near;
        coming = z.coming;
        answered = z.answered;
        fits = z.fits;
      };
      told =
          told-free deck s (out ++ []) (history (T ++ x ∷ [])) n.tasks.told
          (tell_new n.tasks (res_wanted want) ts).told told.told;
    }

-- ---- a request among others
pub in-split : (q : Req) (qs : List Req) → IsIn q qs → (front : List Req) × (rest : List Req) × (qs ≡ front ++ q ∷ rest)
in-split q [] h = absurd h
in-split q (x ∷ qs) (inl e) = ([], qs, ap (λ z. z ∷ qs) (sym e))
in-split q (x ∷ qs) (inr h) = let z = in-split q qs h in (x ∷ z.0, z.1, ap (λ zs. x ∷ zs) z.2)

-- each of them is its task's outstanding one
pub in-asked : (q : Req) (o : Option Asked) (qs : List Req) → IsIn q qs → IsAskedBy q.task o qs → IsReq q o
in-asked q o [] h k = absurd h
in-asked q o (x ∷ qs) (inl e) k =
    subst (λ z. IsReq z o) (sym e) (k.0 (ap (λ z. same_task q.task z.task) (sym e) ∙ same_task-itself q.task))
in-asked q o (x ∷ qs) (inr h) k = in-asked q o qs h k.1

-- so two of one task are one, and are in one system's hands
pub one-request : (q r : Req) (o : Option Asked) (qs : List Req) → q.task ≡ r.task → IsIn q qs → IsIn r qs
    → IsAskedBy q.task o qs → q ≡ r
one-request q r o qs same h k asked =
    go o (in-asked q o qs h asked) (in-asked r o qs k (subst (λ t. IsAskedBy t o qs) same asked))
  where
    go : (p : Option Asked) → IsReq q p → IsReq r p → q ≡ r
    go None i j = absurd i
    go (Some a) i j = sym i ∙ j

pub one-manager : (deck : Deck) (words : List ℕ) (q : Req) (e f m k : ℕ) → entry_wanted deck.entries q.want ≡ Some e
    → entry_wanted deck.entries q.want ≡ Some f → has_manager words e m ≡ true → has_manager words f k ≡ true → m ≡ k
one-manager deck words q e f m k at also mine other =
    let same : e ≡ f = same_Some e f (sym at ∙ also) in
    one-manages words e m k mine (ap (λ i. has_manager words i k) same ∙ other)

-- ---- The asker's system, whose task is behind now.
module _ (deck : Deck) (words : List ℕ) (T : List RunItem) (right : IsHistory deck T) (s : ℕ) (k : NodeState)
    (ms : List Mail) (later : List RunItem) (out : List Req) (h : IsSystem deck words T s k ms later out) (q : Req)
    (among : IsIn q out) (idle : mine q.task later ≡ []) (m : SysId) (entry : ℕ)
    (at : entry_wanted deck.entries q.want ≡ Some entry) (mine_entry : has_manager words entry m.0 ≡ true)
    (ne : s ≢ m.0) where
  all-in : (f : Req → Bool) (qs : List Req) → IsIn q qs → list_all f qs ≡ true → f q ≡ true
  all-in f [] i z = absurd i
  all-in f (x ∷ qs) (inl e) z = ap f e ∙ (and_parts (f x) (list_all f qs) z).0
  all-in f (x ∷ qs) (inr i) z = all-in f qs i (and_parts (f x) (list_all f qs) z).1

  pub asker-home : is_home_at deck s q.task ≡ true
  asker-home =
      all-in (λ z. is_home_at deck s z.task) out among
      (sym (ap (list_all (λ z. is_home_at deck s z.task)) (append-nil out)) ∙ h.at.homes)

  -- the entry is another system's, and the asker's has interest in it
  pub asker-away : Away words s entry
  asker-away = (
    false_by (has_manager words entry s)
        (λ mine_too. absurd (ne (one-manager deck words q entry entry s m.0 at at mine_too mine_entry))),
    sym (ap (near_at words s) at) ∙ all-in (is_near deck words s) out among h.near,
  )

  pub asker-follows : MayFollow deck T (made_item m T (fixing.Asked q))
  asker-follows =
      let z = in-split q out among in (asker-settled deck s T later right out k h.at z.0 q z.1 z.2 idle m).follow

  pub asker-after : (rank : ℕ) → (gives_want q.want ≡ true → rank ≡ 0) →
      IsSystem deck words (T ++ made_item m T (fixing.Asked q) ∷ []) s k
      (ms ++ Answered q.task (answer_to (lists T) q.task q.want) rank ∷ [])
      (later ++ made_item m T (fixing.Asked q) ∷ []) out
  asker-after rank plain =
      let z = in-split q out among in
      system-settled deck words T s k ms later out h right z.0 q z.1 z.2 idle asker-home m entry at asker-away rank
      plain

-- ---- In whose hands requests are then.
-- the items that are to come, with one more at the asker's system
abbrev pub later-with : (ℕ → List RunItem) → ℕ → RunItem → ℕ → List RunItem
later-with later s x = put_at later s (later s ++ x ∷ [])

module _ (deck : Deck) (words : List ℕ) (live : ℕ → Bool) (later : ℕ → List RunItem) (out : ℕ → List Req) (q : Req)
    (x : RunItem) (asked : x.fixed ≡ fixing.Asked q) where
  hand-later : (m : ℕ) (z : Req) → same_task z.task q.task ≡ false → IsHand deck words live later out m z
      → IsHand deck words live (later-with later q.task.system.0 x) out m z
  hand-later m z apart h = record {
    apart = h.apart;
    below = h.below;
    among = h.among;
    idle = go (z.task.system.0 == q.task.system.0) refl;
    entry = h.entry;
    at = h.at;
    managed = h.managed;
  }
    where
      go : (b : Bool) → (z.task.system.0 == q.task.system.0) ≡ b
          → mine z.task (cond b (later q.task.system.0 ++ x ∷ []) (later z.task.system.0)) ≡ []
      go false e = h.idle
      go true e =
          let same : z.task.system.0 ≡ q.task.system.0 = eqb-true z.task.system.0 q.task.system.0 e in
          filter-append (λ y. is_of z.task y.fixed) (later q.task.system.0) (x ∷ [])
          ∙ (ap (λ ys. mine z.task (later q.task.system.0) ++ ys)
          (filter-cons_left (λ y. is_of z.task y.fixed) x [] (ap (is_of z.task) asked ∙ apart))
          ∙ append-nil (mine z.task (later q.task.system.0)))
          ∙ (ap (λ u. mine z.task (later u)) (sym same) ∙ h.idle)

  pub hands-later : (m : ℕ) (zs : List Req) → is_among q.task (askers zs) ≡ false
      → AllHands deck words live later out m zs → AllHands deck words live (later-with later q.task.system.0 x) out m zs
  hands-later m [] away h = tt
  hands-later m (z ∷ zs) away h =
      let both = or_parts (same_task q.task z.task) (is_among q.task (askers zs)) away in
      (hand-later m z (task_swap q.task z.task both.0) h.0, hands-later m zs both.1 h.1)

-- no other system has it in its hands
pub not-theirs :
    (deck : Deck) (words : List ℕ) (live : ℕ → Bool) (later : ℕ → List RunItem) (out : ℕ → List Req) (q : Req)
    (o : Option Asked) (m : ℕ)
    → IsHand deck words live later out m q → IsAskedBy q.task o (out q.task.system.0) → (k : ℕ) → k ≢ m
    → (zs : List Req) → AllHands deck words live later out k zs → is_among q.task (askers zs) ≡ false
not-theirs deck words live later out q o m h asked k ne [] hands = refl
not-theirs deck words live later out q o m h asked k ne (z ∷ zs) hands =
    go (same_task q.task z.task) refl (not-theirs deck words live later out q o m h asked k ne zs hands.1)
  where
    go : (b : Bool) → same_task q.task z.task ≡ b → is_among q.task (askers zs) ≡ false
        → (b || is_among q.task (askers zs)) ≡ false
    go false e more = more
    go true e more =
        let t : q.task ≡ z.task = same_task-exact q.task z.task e in
        let same : q ≡ z =
        one-request q z o (out q.task.system.0) t h.among
        (subst (λ (u : TaskId). IsIn z (out u.system.0)) (sym t) hands.0.among) asked in
        absurd (ne (one-manager deck words q hands.0.entry h.entry k m
        (ap (λ (r : Req). entry_wanted deck.entries r.want) same ∙ hands.0.at) h.at hands.0.managed h.managed))

-- an answer is none of the requests
requests-answered : (ms : List Mail) (t : TaskId) (a : Answer) (rank : ℕ)
    → requests_in ms ≡ requests_in (ms ++ Answered t a rank ∷ [])
requests-answered [] t a rank = refl
requests-answered (Request e from q ∷ ms) t a rank = ap (λ zs. q ∷ zs) (requests-answered ms t a rank)
requests-answered (Answered u b n ∷ ms) t a rank = requests-answered ms t a rank
requests-answered (Granted u r ∷ ms) t a rank = requests-answered ms t a rank
requests-answered (Notice target moved ∷ ms) t a rank = requests-answered ms t a rank
requests-answered (Part e from records ∷ ms) t a rank = requests-answered ms t a rank

-- ---- The world after a Settle.
module _ (deck : Deck) (w : World) (g : IsWhole deck w) (c : SysId) (n : NodeState) (at : Site w c.0 n) (p : StarPart)
    (star : n.star ≡ Some p) (q : Req) (qs : List Req) (held : p.held ≡ q ∷ qs) where
  abbrev T : List RunItem
  T = items w.fixed

  abbrev item : RunItem
  item = made_item c T (fixing.Asked q)

  pub mine_hands :
      Hands deck w.medium.words (are_live w) g.later g.out c.0 (q ∷ (qs ++ requests_in (inbox w.medium c.0)))
  mine_hands =
      subst (λ zs. Hands deck w.medium.words (are_live w) g.later g.out c.0 (zs ++ requests_in (inbox w.medium c.0)))
      held (g.hands c.0 n p at star)

  pub hand : IsHand deck w.medium.words (are_live w) g.later g.out c.0 q
  hand = mine_hands.each.0

  -- the asker's system
  abbrev s : ℕ
  s = q.task.system.0

  abbrev other : NodeState
  other = get_or w.nodes s n

  -- it is there, and live
  it_is : (s < length w.nodes) × (has w.medium.removed s ≡ false)
  it_is = live-below w s hand.below

  its : IsSystem deck w.medium.words T s other (inbox w.medium s) (g.later s) (g.out s)
  its = g.system s other (live-site w s n hand.below)

  -- the request may be fixed now
  pub follows-now : MayFollow deck T item
  follows-now =
      asker-follows deck w.medium.words T g.right s other (inbox w.medium s) (g.later s) (g.out s) its q hand.among
      hand.idle c hand.entry hand.at hand.managed hand.apart

  same_req : q ≡ follows-now.ask.req
  same_req = let e : fixing.Asked q ≡ fixing.Asked follows-now.ask.req = follows-now.ask.asked in cc

  -- to each system but the asker's it is of others
  item-others : (u : ℕ) → u ≢ s → IsOthers deck u T item
  item-others u ne =
      others-ask deck u T item follows-now.ask
      (λ e. ne (sym e ∙ ap (λ (y : Req). y.task.system.0) (sym same_req)))

  -- the manager then, whose own tasks that became owners of the resource are told
  pub manager-after : (ts : List TaskId) →
      ((r : Res) → res_wanted q.want ≡ Some r → (u : TaskId) → is_among u ts ≡ true
      → owns (list_of (lists (T ++ item ∷ [])) r) u ≡ true)
      → (o : Option StarPart) →
      Goes deck w.medium.words (T ++ item ∷ []) c.0
      (record n { tasks = tell_new n.tasks (res_wanted q.want) ts; star = o }) (inbox w.medium c.0) (g.later c.0)
      (g.out c.0) n.tasks.told
  manager-after ts owned o =
      system-manages deck w.medium.words T c.0 n (inbox w.medium c.0) (g.later c.0) (g.out c.0) item
      (item-others c.0 (λ e. hand.apart (sym e))) (follows deck T item g.right follows-now)
      (g.system c.0 n at) q.want hand.entry hand.at hand.managed ts owned o

  module _ (rank : ℕ) (plain : gives_want q.want ≡ true → rank ≡ 0) (flags : ℕ) where
    abbrev answer : Mail
    answer = Answered q.task (answer_to (lists T) q.task q.want) rank

    abbrev sent_on : MediumState
    sent_on = record w.medium { inboxes = with_mail w.medium.inboxes s answer; rest = flags }

    box_there : s < length w.medium.inboxes
    box_there = let there = it_is.0 in omega (arith, there, g.roles.systems, g.roles.inboxes)

    its_box : inbox sent_on s ≡ inbox w.medium s ++ answer ∷ []
    its_box = its-box w.medium.inboxes s answer box_there

    other_box : (u : ℕ) → u ≢ s → inbox sent_on u ≡ inbox w.medium u
    other_box u ne = other-box w.medium.inboxes s answer u ne

    its_later : later-with g.later s item s ≡ g.later s ++ item ∷ []
    its_later = put_here g.later s (g.later s ++ item ∷ [])

    other_later : (u : ℕ) → u ≢ s → later-with g.later s item u ≡ g.later u
    other_later u ne = put_other g.later s (g.later s ++ item ∷ []) u ne

    -- a system that isn't the asker's, nor the manager
    others : (u : ℕ) (k : NodeState) → u ≢ c.0 → Site w u k
        → IsSystem deck w.medium.words (T ++ item ∷ []) u k (inbox sent_on u) (later-with g.later s item u) (g.out u)
    others u k ne found = go (u == s) refl
      where
        go : (b : Bool) → (u == s) ≡ b
            → IsSystem deck w.medium.words (T ++ item ∷ []) u k (inbox sent_on u) (later-with g.later s item u)
            (g.out u)
        go true e =
            let same : u ≡ s = eqb-true u s e in
            let node : other ≡ k =
            same_Some other k
            (sym (slice_get-get_or w.nodes s n it_is.0) ∙ (ap (slice_get w.nodes) (sym same) ∙ found.at)) in
            subst (λ z.
            IsSystem deck w.medium.words (T ++ item ∷ []) z k (inbox sent_on z) (later-with g.later s item z) (g.out z))
            (sym same)
            (subst (λ (z : NodeState).
            IsSystem deck w.medium.words (T ++ item ∷ []) s z (inbox sent_on s) (later-with g.later s item s) (g.out s))
            node
            (subst (λ ms.
            IsSystem deck w.medium.words (T ++ item ∷ []) s other ms (later-with g.later s item s) (g.out s))
            (sym its_box)
            (subst (λ xs.
            IsSystem deck w.medium.words (T ++ item ∷ []) s other (inbox w.medium s ++ answer ∷ []) xs (g.out s))
            (sym its_later)
            (asker-after deck w.medium.words T g.right s other (inbox w.medium s) (g.later s) (g.out s) its q hand.among
            hand.idle c hand.entry hand.at hand.managed hand.apart rank plain))))
        go false e =
            let apart : u ≢ s = eqb-false u s e in
            subst (λ ms. IsSystem deck w.medium.words (T ++ item ∷ []) u k ms (later-with g.later s item u) (g.out u))
            (sym (other_box u apart))
            (subst (λ xs. IsSystem deck w.medium.words (T ++ item ∷ []) u k (inbox w.medium u) xs (g.out u))
            (sym (other_later u apart))
            (system-other deck w.medium.words T u k (inbox w.medium u) (g.later u) (g.out u) item (item-others u apart)
            (g.system u k found)))

    -- the manager with the part that it has then
    abbrev told_on : List TaskId → StarPart → NodeState
    told_on ts p' = record n { tasks = tell_new n.tasks (res_wanted q.want) ts; star = Some p' }

    pub whole-settled : (ts : List TaskId) →
        ((r : Res) → res_wanted q.want ≡ Some r → (u : TaskId) → is_among u ts ≡ true
        → owns (list_of (lists (T ++ item ∷ [])) r) u ≡ true)
        → (p' : StarPart) → p'.held ≡ qs →
        IsStep deck w c n
        (record { medium = sent_on; step = record { node = told_on ts p'; fixed = fixing.Asked q ∷ [] } })
        → StaysWhole deck w g c
        (placed w c n
        (record { medium = sent_on; step = record { node = told_on ts p'; fixed = fixing.Asked q ∷ [] } }))
    whole-settled ts owned p' kept step =
        let away : c.0 ≢ s = λ e. hand.apart (sym e) in
        let z = manager-after ts owned (Some p') in
        let asked =
        (here deck s T (g.later s) (g.out s) other its.at q.task
        (asker-home deck w.medium.words T g.right s other (inbox w.medium s) (g.later s) (g.out s) its q hand.among
        hand.idle c hand.entry hand.at hand.managed hand.apart)).asked in
        whole-placed deck w g c n at
        (record { medium = sent_on; step = record { node = told_on ts p'; fixed = fixing.Asked q ∷ [] } }) step
        (T ++ item ∷ [])
        (items-one w.fixed c (fixing.Asked q)) (later-with g.later s item) g.out (λ u ne. refl) asker_sent
        (follows deck T item g.right follows-now)
        (subst (AreNear deck w.medium.words) (sym (lists-push T item))
        (near-want deck w.medium.words (lists T) q.task q.want near g.near))
        (subst (λ ms.
        IsSystem deck w.medium.words (T ++ item ∷ []) c.0 (told_on ts p') ms (later-with g.later s item c.0)
        (g.out c.0))
        (sym (other_box c.0 away))
        (subst (λ xs.
        IsSystem deck w.medium.words (T ++ item ∷ []) c.0 (told_on ts p') (inbox w.medium c.0) xs (g.out c.0))
        (sym (other_later c.0 away)) z.system))
        others
        (λ k found.
        let same : p' ≡ k = same_Some p' k found in
        subst (λ (y : StarPart).
        Hands deck w.medium.words (are_live w) (later-with g.later s item) g.out c.0
        (y.held ++ requests_in (inbox sent_on c.0)))
        same
        (subst (λ zs.
        Hands deck w.medium.words (are_live w) (later-with g.later s item) g.out c.0
        (zs ++ requests_in (inbox sent_on c.0)))
        (sym kept)
        (subst (λ ms.
        Hands deck w.medium.words (are_live w) (later-with g.later s item) g.out c.0 (qs ++ requests_in ms))
        (sym (other_box c.0 away))
        (let both =
        and_parts (not (is_among q.task (askers (qs ++ requests_in (inbox w.medium c.0)))))
        (stand_apart (askers (qs ++ requests_in (inbox w.medium c.0)))) mine_hands.apart in
        record {
          each =
              hands-later deck w.medium.words (are_live w) g.later g.out q item refl c.0
              (qs ++ requests_in (inbox w.medium c.0))
              (not-true (is_among q.task (askers (qs ++ requests_in (inbox w.medium c.0)))) both.0) mine_hands.each.1;
          apart = both.1;
        }))))
        (λ m k v ne found is. hands_others m k v ne found is asked)
      where
        -- a system whose tasks sent nothing isn't the asker's
        asker_sent : Fixes deck c.0 g.out T (T ++ item ∷ [])
        asker_sent = one_fixed item (λ u ne empty. item-others u (λ e. not_there (ap g.out (sym e) ∙ empty)))
          where
            not_there : g.out s ≡ [] → ⊥
            not_there e = subst (IsIn q) e hand.among

        near : (v : Res) → res_wanted q.want ≡ Some v → is_near_res deck w.medium.words v q.task ≡ true
        near v e =
            ap (near_at w.medium.words s) (res-entry deck.entries q.want v hand.entry e hand.at)
            ∙ (asker-away deck w.medium.words T g.right s other (inbox w.medium s) (g.later s) (g.out s) its q
            hand.among hand.idle c hand.entry hand.at hand.managed hand.apart).1

        hands_others : (m : ℕ) (k : NodeState) (v : StarPart) → m ≢ c.0 → Site w m k → k.star ≡ Some v
            → IsAskedBy q.task (state_of other.tasks q.task).outstanding (g.out s ++ [])
            → Hands deck w.medium.words (are_live w) (later-with g.later s item) g.out m (in_hands v (inbox sent_on m))
        hands_others m k v ne found is asked =
            let h : Hands deck w.medium.words (are_live w) g.later g.out m (in_hands v (inbox w.medium m)) =
            g.hands m k v found is in
            let none_there =
            not-theirs deck w.medium.words (are_live w) g.later g.out q (state_of other.tasks q.task).outstanding c.0
            hand (subst (IsAskedBy q.task (state_of other.tasks q.task).outstanding) (append-nil (g.out s)) asked) m ne
            (in_hands v (inbox w.medium m)) h.each in
            subst (Hands deck w.medium.words (are_live w) (later-with g.later s item) g.out m)
            (ap (λ zs. v.held ++ zs) (same_requests m))
            (record {
              each =
                  hands-later deck w.medium.words (are_live w) g.later g.out q item refl m
                  (in_hands v (inbox w.medium m)) none_there h.each;
              apart = h.apart;
            })
          where
            same_requests : (u : ℕ) → requests_in (inbox w.medium u) ≡ requests_in (inbox sent_on u)
            same_requests u =
                by_box w.medium.inboxes s answer (λ ms. requests_in (inbox w.medium u) ≡ requests_in ms) box_there u
                (λ same. requests-answered (inbox w.medium u) q.task (answer_to (lists T) q.task q.want) rank)
                (λ ne. refl)
