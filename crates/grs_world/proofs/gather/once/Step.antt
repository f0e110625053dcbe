-- The requests in all hands and the answers in all inboxes of a world: that each is of what a task has sent, and
-- settled once (`AreOnce`); and what an event of one system has to leave for that to stay so (`Step`).
use Rattle.grs_world.proofs.Common.{◌++◌, ◌∙◌, ◌≡◌, ◌≢◌, ◌≤◌, ◌⊎◌, Asked, Deck, entry_wanted, false, false_by, has}
use Rattle.grs_world.proofs.Common.{inbox, inl, inr, is_interested, length, list_any, manager_at, no_truth, NodeState}
use Rattle.grs_world.proofs.Common.{noticed, refl, Req, same_Some, Some, StarPart, state_of, subst, sym, SysId, TaskId}
use Rattle.grs_world.proofs.Common.{TasksView, true, Turnout, World, ℕ}
use Rattle.star_client.specs.Client.{has_sent}
use Rattle.grs_world.proofs.gather.once.Boxes.{BoxGoes}
use Rattle.grs_world.proofs.gather.way.Entry.{at}
use Rattle.grs_world.proofs.run.Placed.{world_then}
use Rattle.grs_world.proofs.run.Site.{each_site, Site}
use Rattle.grs_world.proofs.star.Worlds.{IsIn}
use Rattle.grs_world.specs.InHands.{asked_by, HasSent, in_hands, is_answer_to, is_answered_once, IsAnswered, IsInHands}

pub record AreOnce (deck : Deck) (w : World) : Type 0 where
  pub hands : (m : ℕ) (n : NodeState) (p : StarPart) (q : Req) (k : NodeState) → Site w m n → n.star ≡ Some p
      → IsIn q (in_hands p (inbox w.medium m)) → Site w q.task.system.0 k
      → IsInHands deck w.medium.words (at m) q k.tasks (inbox w.medium q.task.system.0)
  pub single : (m : ℕ) (n : NodeState) (p : StarPart) → Site w m n → n.star ≡ Some p → (t : TaskId)
      → length (asked_by t (in_hands p (inbox w.medium m))) ≤ 1
  pub answers : (t : TaskId) (k : NodeState) → Site w t.system.0 k
      → list_any (is_answer_to t.task) (inbox w.medium t.system.0) ≡ true
      → IsAnswered deck w.medium.words t k.tasks (inbox w.medium t.system.0)

-- a task of a system has sent a request of this entry
pub record Busy (deck : Deck) (n : NodeState) (e : ℕ) : Type 0 where
  pub task : TaskId
  pub asked : Asked
  pub sent : has_sent n.tasks task ≡ true
  pub asks : (state_of n.tasks task).outstanding ≡ Some asked
  pub at : entry_wanted deck.entries asked.req.want ≡ Some e

module _ (deck : Deck) (w : World) (c : SysId) (n : NodeState) (p : StarPart) (o : Turnout) (r : StarPart) where
  -- neither an answer nor a notice of it is to be taken, or it stays answered
  abbrev pub IsCalm : TaskId → ℕ → Type 0
  IsCalm t e =
      ((list_any (is_answer_to t.task) (inbox w.medium t.system.0) ≡ false)
      × (noticed e (inbox w.medium t.system.0) ≡ false))
      ⊎ ((is_answered_once e t.task (inbox w.medium t.system.0) ≡ true)
      × (list_any (is_answer_to t.task) (inbox o.medium t.system.0) ≡ true))

  -- what the event leaves, where these requests and these answers are new
  pub record Step (NewHand : ℕ → Req → Type 0) (NewAnswer : TaskId → Type 0) : Type 0 where
    pub now : o.step.node.star ≡ Some r
    pub gone : (u : ℕ) → has w.medium.removed u ≡ true → has o.medium.removed u ≡ true
    pub near : (e u : ℕ) → has o.medium.removed u ≡ false → is_interested w.medium.words e u ≡ true
        → (u ≡ c.0 → Busy deck n e) → is_interested o.medium.words e u ≡ true
    pub managed : (e m u : ℕ) → has o.medium.removed m ≡ false → has o.medium.removed u ≡ false
        → manager_at w.medium.words e ≡ Some (at m) → is_interested w.medium.words e u ≡ true
        → (u ≡ c.0 → Busy deck n e)
        → manager_at o.medium.words e ≡ Some (at m)
    pub tasks : (t : TaskId) (a : Asked) (e : ℕ) → t.system.0 ≡ c.0 → HasSent deck w.medium.words n.tasks t a e
        → IsCalm t e
        → (has_sent o.step.node.tasks t ≡ true) × ((state_of o.step.node.tasks t).outstanding ≡ Some a)
    pub boxes : (u : ℕ) (k : NodeState) → Site w u k → has o.medium.removed u ≡ false
        → BoxGoes w.medium.words o.medium.removed NewAnswer u (inbox w.medium u) (inbox o.medium u)
    pub own_hands : has o.medium.removed c.0 ≡ false → (q : Req) → IsIn q (in_hands r (inbox o.medium c.0))
        → IsIn q (in_hands p (inbox w.medium c.0)) ⊎ NewHand c.0 q
    pub hands : (m : ℕ) (k : NodeState) (z : StarPart) → m ≢ c.0 → Site w m k → k.star ≡ Some z
        → has o.medium.removed m ≡ false → (q : Req) → IsIn q (in_hands z (inbox o.medium m))
        → IsIn q (in_hands z (inbox w.medium m)) ⊎ NewHand m q
    pub own_single : has o.medium.removed c.0 ≡ false → (t : TaskId)
        → length (asked_by t (in_hands r (inbox o.medium c.0))) ≤ 1
    pub single : (m : ℕ) (k : NodeState) (z : StarPart) → m ≢ c.0 → Site w m k → k.star ≡ Some z
        → has o.medium.removed m ≡ false → (t : TaskId) → length (asked_by t (in_hands z (inbox o.medium m))) ≤ 1
    pub new_hand : (m : ℕ) (q : Req) → NewHand m q → (k : NodeState)
        → Site (world_then w c n o) q.task.system.0 k
        → IsInHands deck o.medium.words (at m) q k.tasks (inbox o.medium q.task.system.0)
    pub new_answer : (t : TaskId) → NewAnswer t → (k : NodeState) → Site (world_then w c n o) t.system.0 k
        → IsAnswered deck o.medium.words t k.tasks (inbox o.medium t.system.0)
    -- no request of a task that is answered by it is left
    pub own_apart : has o.medium.removed c.0 ≡ false → (q : Req) → IsIn q (in_hands r (inbox o.medium c.0))
        → (y : NodeState) → Site w q.task.system.0 y → NewAnswer q.task → ⊥
    pub apart : (m : ℕ) (k : NodeState) (z : StarPart) → m ≢ c.0 → Site w m k → k.star ≡ Some z
        → has o.medium.removed m ≡ false → (q : Req) → IsIn q (in_hands z (inbox o.medium m)) → (y : NodeState)
        → Site w q.task.system.0 y → NewAnswer q.task → ⊥

  module _ (site : Site w c.0 n) (star : n.star ≡ Some p) (J : AreOnce deck w) (NewHand : ℕ → Req → Type 0)
      (NewAnswer : TaskId → Type 0) (s : Step NewHand NewAnswer) where
    was-live : (u : ℕ) → has o.medium.removed u ≡ false → has w.medium.removed u ≡ false
    was-live u live = false_by (has w.medium.removed u) (λ h. no_truth (has o.medium.removed u) (s.gone u h) live)

    -- what was sent still is
    sent-then : (t : TaskId) (a : Asked) (e : ℕ) (v : TasksView) → has o.medium.removed t.system.0 ≡ false
        → HasSent deck w.medium.words n.tasks t a e
        ⊎ ((t.system.0 ≡ c.0 → ⊥) × (is_interested w.medium.words e t.system.0 ≡ true))
        → (entry_wanted deck.entries a.req.want ≡ Some e)
        → has_sent v t ≡ true → (state_of v t).outstanding ≡ Some a → HasSent deck o.medium.words v t a e
    sent-then t a e v live (inl h) at_e sent asks = record {
      sent = sent;
      asks = asks;
      at = at_e;
      near =
          s.near e t.system.0 live h.near
          (λ same. record { task = t; asked = a; sent = h.sent; asks = h.asks; at = h.at });
    }
    sent-then t a e v live (inr h) at_e sent asks = record {
      sent = sent;
      asks = asks;
      at = at_e;
      near = s.near e t.system.0 live h.1 (λ same. absurd (h.0 same));
    }

    -- a request that is left in the hands of m
    module _ (m : ℕ) (q : Req) (live_m : has o.medium.removed m ≡ false)
        (old : (y : NodeState) → Site w q.task.system.0 y → NewAnswer q.task → ⊥)
        (before : (k : NodeState) → Site w q.task.system.0 k
        → IsInHands deck w.medium.words (at m) q k.tasks (inbox w.medium q.task.system.0)) where
      abbrev Then : NodeState → Type 0
      Then k = IsInHands deck o.medium.words (at m) q k.tasks (inbox o.medium q.task.system.0)

      unanswered-then : (y : NodeState) → Site w q.task.system.0 y
          → BoxGoes w.medium.words o.medium.removed NewAnswer q.task.system.0
          (inbox w.medium q.task.system.0) (inbox o.medium q.task.system.0)
          → list_any (is_answer_to q.task.task) (inbox w.medium q.task.system.0) ≡ false
          → list_any (is_answer_to q.task.task) (inbox o.medium q.task.system.0) ≡ false
      unanswered-then y at_y b none =
          false_by (list_any (is_answer_to q.task.task) (inbox o.medium q.task.system.0))
          (λ h. go (b.answered q.task refl h))
        where
          go : (list_any (is_answer_to q.task.task) (inbox w.medium q.task.system.0) ≡ true) ⊎ NewAnswer q.task
              → list_any (is_answer_to q.task.task) (inbox o.medium q.task.system.0) ≡ false
          go (inl was) = no_truth (list_any (is_answer_to q.task.task) (inbox w.medium q.task.system.0)) was none
          go (inr new) = absurd (old y at_y new)

      own-hand : has o.medium.removed q.task.system.0 ≡ false → q.task.system.0 ≡ c.0 → Then o.step.node
      own-hand live home =
          let here : Site w q.task.system.0 n = subst (λ i. Site w i n) (sym home) site in
          let h = before n here in
          let b = s.boxes q.task.system.0 n here live in
          let t = s.tasks q.task h.asked h.entry home h.has (inl (h.unanswered, h.unnoticed)) in record {
            asked = h.asked;
            entry = h.entry;
            has = sent-then q.task h.asked h.entry o.step.node.tasks live (inl h.has) h.has.at t.0 t.1;
            same = h.same;
            managed =
                s.managed h.entry m q.task.system.0 live_m live h.managed h.has.near
                (λ same.
                record { task = q.task; asked = h.asked; sent = h.has.sent; asks = h.has.asks; at = h.has.at });
            unanswered = unanswered-then n here b h.unanswered;
            unnoticed = b.silent h.entry (at m) h.managed live_m h.unnoticed;
          }

      other-hand : (u : ℕ) (k : NodeState) → u ≢ c.0 → Site w u k → has o.medium.removed q.task.system.0 ≡ false
          → q.task.system.0 ≡ u → Then k
      other-hand u k ne there live home =
          let here : Site w q.task.system.0 k = subst (λ i. Site w i k) (sym home) there in
          let h = before k here in
          let b = s.boxes q.task.system.0 k here live in record {
            asked = h.asked;
            entry = h.entry;
            has =
                sent-then q.task h.asked h.entry k.tasks live (inr (λ same. ne (sym home ∙ same), h.has.near)) h.has.at
                h.has.sent
                h.has.asks;
            same = h.same;
            managed =
                s.managed h.entry m q.task.system.0 live_m live h.managed h.has.near
                (λ same. absurd (ne (sym home ∙ same)));
            unanswered = unanswered-then k here b h.unanswered;
            unnoticed = b.silent h.entry (at m) h.managed live_m h.unnoticed;
          }

      hand-then : (k : NodeState) → Site (world_then w c n o) q.task.system.0 k → Then k
      hand-then k there =
          each_site w c n site o was-live (λ u z. q.task.system.0 ≡ u → Then z) (own-hand there.live)
          (λ u z ne before_z. other-hand u z ne before_z there.live) q.task.system.0 k there refl

    -- ---- hands
    own-hands : (z : StarPart) → o.step.node.star ≡ Some z → has o.medium.removed c.0 ≡ false → (q : Req)
        → IsIn q (in_hands z (inbox o.medium c.0)) → (k : NodeState) → Site (world_then w c n o) q.task.system.0 k
        → IsInHands deck o.medium.words (at c.0) q k.tasks (inbox o.medium q.task.system.0)
    own-hands z star_z live q among k there = go (s.own_hands live q here)
      where
        here : IsIn q (in_hands r (inbox o.medium c.0))
        here =
            subst (λ (x : StarPart). IsIn q (in_hands x (inbox o.medium c.0)))
            (sym (same_Some r z (sym s.now ∙ star_z))) among

        go : IsIn q (in_hands p (inbox w.medium c.0)) ⊎ NewHand c.0 q
            → IsInHands deck o.medium.words (at c.0) q k.tasks (inbox o.medium q.task.system.0)
        go (inr new) = s.new_hand c.0 q new k there
        go (inl was) =
            hand-then c.0 q live (s.own_apart live q here) (λ y at_y. J.hands c.0 n p q y site star was at_y) k there

    other-hands : (m : ℕ) (x : NodeState) → m ≢ c.0 → Site w m x → has o.medium.removed m ≡ false → (z : StarPart)
        → x.star ≡ Some z → (q : Req) → IsIn q (in_hands z (inbox o.medium m)) → (k : NodeState)
        → Site (world_then w c n o) q.task.system.0 k
        → IsInHands deck o.medium.words (at m) q k.tasks (inbox o.medium q.task.system.0)
    other-hands m x ne at_m live z star_z q among k there = go (s.hands m x z ne at_m star_z live q among)
      where
        go : IsIn q (in_hands z (inbox w.medium m)) ⊎ NewHand m q
            → IsInHands deck o.medium.words (at m) q k.tasks (inbox o.medium q.task.system.0)
        go (inr new) = s.new_hand m q new k there
        go (inl was) =
            hand-then m q live (s.apart m x z ne at_m star_z live q among)
            (λ y at_y. J.hands m x z q y at_m star_z was at_y) k there

    -- ---- answers
    module _ (t : TaskId) where
      abbrev Answer : NodeState → Type 0
      Answer k = IsAnswered deck o.medium.words t k.tasks (inbox o.medium t.system.0)

      own-answer : list_any (is_answer_to t.task) (inbox o.medium t.system.0) ≡ true
          → Site (world_then w c n o) t.system.0 o.step.node → t.system.0 ≡ c.0 → Answer o.step.node
      own-answer any there home =
          let here : Site w t.system.0 n = subst (λ i. Site w i n) (sym home) site in
          go here (s.boxes t.system.0 n here there.live)
          ((s.boxes t.system.0 n here there.live).answered t refl any)
        where
          go : Site w t.system.0 n
              → BoxGoes w.medium.words o.medium.removed NewAnswer t.system.0 (inbox w.medium t.system.0)
              (inbox o.medium t.system.0)
              → (list_any (is_answer_to t.task) (inbox w.medium t.system.0) ≡ true) ⊎ NewAnswer t
              → Answer o.step.node
          go here b (inr new) = s.new_answer t new o.step.node there
          go here b (inl was) =
              let h = J.answers t n here was in
              let k = s.tasks t h.asked h.entry home h.has (inr (h.once, any)) in record {
                asked = h.asked;
                entry = h.entry;
                has = sent-then t h.asked h.entry o.step.node.tasks there.live (inl h.has) h.has.at k.0 k.1;
                once = b.once h.entry t refl h.once any;
              }

      other-answer : list_any (is_answer_to t.task) (inbox o.medium t.system.0) ≡ true → (k : NodeState)
          → Site (world_then w c n o) t.system.0 k → (u : ℕ) → u ≢ c.0 → Site w u k → t.system.0 ≡ u → Answer k
      other-answer any k there u ne was_k home =
          let here : Site w t.system.0 k = subst (λ i. Site w i k) (sym home) was_k in
          go here (s.boxes t.system.0 k here there.live)
          ((s.boxes t.system.0 k here there.live).answered t refl any)
        where
          go : Site w t.system.0 k
              → BoxGoes w.medium.words o.medium.removed NewAnswer t.system.0 (inbox w.medium t.system.0)
              (inbox o.medium t.system.0)
              → (list_any (is_answer_to t.task) (inbox w.medium t.system.0) ≡ true) ⊎ NewAnswer t → Answer k
          go here b (inr new) = s.new_answer t new k there
          go here b (inl was) =
              let h = J.answers t k here was in record {
                asked = h.asked;
                entry = h.entry;
                has =
                    sent-then t h.asked h.entry k.tasks there.live (inr (λ same. ne (sym home ∙ same), h.has.near))
                    h.has.at
                    h.has.sent h.has.asks;
                once = b.once h.entry t refl h.once any;
              }

      answer-then : (k : NodeState) → Site (world_then w c n o) t.system.0 k
          → list_any (is_answer_to t.task) (inbox o.medium t.system.0) ≡ true → Answer k
      answer-then k there any =
          each_site w c n site o was-live
          (λ u z. Site (world_then w c n o) t.system.0 z → t.system.0 ≡ u → Answer z)
          (λ at_z home. own-answer any at_z home)
          (λ u z ne was_z at_z home. other-answer any z at_z u ne was_z home) t.system.0 k there there refl

    pub step-once : AreOnce deck (world_then w c n o)
    step-once = record {
      hands = λ m x z q k at_m star_z among there.
          each_site w c n site o was-live
          (λ i y.
          has o.medium.removed i ≡ false → y.star ≡ Some z → IsIn q (in_hands z (inbox o.medium i))
          → IsInHands deck o.medium.words (at i) q k.tasks (inbox o.medium q.task.system.0))
          (λ live star_y h. own-hands z star_y live q h k there)
          (λ i y ne at_y live star_y h. other-hands i y ne at_y live z star_y q h k there) m x at_m at_m.live star_z
          among;
      single = λ m x z at_m star_z t.
          each_site w c n site o was-live
          (λ i y.
          has o.medium.removed i ≡ false → y.star ≡ Some z
          → length (asked_by t (in_hands z (inbox o.medium i))) ≤ 1)
          (λ live star_y.
          subst (λ (x : StarPart). length (asked_by t (in_hands x (inbox o.medium c.0))) ≤ 1)
          (same_Some r z (sym s.now ∙ star_y)) (s.own_single live t))
          (λ i y ne at_y live star_y. s.single i y z ne at_y star_y live t) m x at_m at_m.live star_z;
      answers = λ t k there any. answer-then t k there any;
    }
