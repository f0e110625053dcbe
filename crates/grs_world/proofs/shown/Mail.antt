-- What mail does to tasks of the same faces leaves them so; and a notice, control and the loss of systems leave faces.
use Rattle.grs_world.proofs.Common.{[], ◌&&◌, ◌++◌, ◌==◌, ◌∙◌, ◌∷◌, ◌≡◌, after_mail, and_parts, Answer, Answered, ap}
use Rattle.grs_world.proofs.Common.{Asked, Bool, cond, Deck, desk_told, Did, eqb-false, eqb-true, false, fixing_none}
use Rattle.grs_world.proofs.Common.{get_or, Granted, has_effect, is_for_deck, is_item_of, is_of_deck, is_sent, is_task}
use Rattle.grs_world.proofs.Common.{last_number, length-map, List, losing, Mail, map, Moved, names_of, nat_le, nat_lt}
use Rattle.grs_world.proofs.Common.{new_task, no_truth, NodeState, None, Notice, Option, Part, record_of, refl, Res}
use Rattle.grs_world.proofs.Common.{Said, sent_again, Some, standing, StarPart, state_of, subst, suc, sym, SysId}
use Rattle.grs_world.proofs.Common.{take_mail, TaskId, TaskState, TasksView, tell_answer_any_ranked, tell_answer_ranked}
use Rattle.grs_world.proofs.Common.{tell_control, tell_untold, telling, told, ToldLine, took_mail, true, zero, ℕ}
use Rattle.grs_wire.specs.declared.medium.Mail.TheVariants.{Request}
use Rattle.grs_node.specs.Node.{fixing_nothing}
use Rattle.std.specs.Prelude.{filter}
use Rattle.grs_node.specs.Removal.{again, has_sent_in, took_notice}
use Rattle.grs_known.proofs.records.Control.{Controlled, Hears, coded, controlled, given, none, passed, posted}
use Rattle.star_client.specs.Client.{has_sent, is_awaited}
use Rattle.task_state.specs.Replies.{is_held, is_held_for}
use Rattle.grs_world.proofs.at_rest.StarTasks.{at-place}
use Rattle.grs_world.proofs.run.Lost.{tasks-lost, tasks-notice}
use Rattle.grs_world.proofs.shown.CaughtUp.{answer-tasks, control-tasks, request-tasks, taken-node}
use Rattle.grs_world.proofs.star.hearing.Faces.{Face, Faced, SameFaces, answer-face, face_answered, faces, faces-back}
use Rattle.grs_world.proofs.star.hearing.Faces.{faces-none, faces-then, faces-told, out_answered}
use Rattle.grs_world.specs.Kept.{taking}
use Rattle.task_state.specs.declared.state.Phase.{Phase}
use Rattle.task_state.specs.declared.state.Phase.TheVariants as phases

-- ---- one task changes
did-faces : (v w : TasksView) (t : TaskId) (x : TaskState) (T : List ToldLine) → Did v w t x T
    → faces x.records ≡ faces (state_of v t).records → x.outstanding ≡ (state_of v t).outstanding
    → is_sent x.phase ≡ is_sent (state_of v t).phase → SameFaces v w
did-faces v w t x T d same out sent = record {
  system = d.changed.system;
  here = d.changed.here;
  faces_are = λ u. by-place u (λ (a b : TaskState). faces b.records ≡ faces a.records) same (λ y. refl);
  out_is = λ u. by-place u (λ (a b : TaskState). b.outstanding ≡ a.outstanding) out (λ y. refl);
  sent_is = λ u. by-place u (λ (a b : TaskState). is_sent b.phase ≡ is_sent a.phase) sent (λ y. refl);
}
  where
    by-place : (u : TaskId) (P : TaskState → TaskState → Type 0) → P (state_of v t) x → ((y : TaskState) → P y y)
        → P (state_of v u) (state_of w u)
    by-place u P own other = go (u.task == t.task) refl
      where
        go : (b : Bool) → (u.task == t.task) ≡ b → P (state_of v u) (state_of w u)
        go true e =
            let place = eqb-true u.task t.task e in
            subst (λ y. P y (state_of w u)) (sym (at-place v t u place))
            (subst (P (state_of v t)) (sym (at-place w t u place ∙ d.state)) own)
        go false e =
            subst (P (state_of v u)) (sym (d.changed.others u (eqb-false u.task t.task e))) (other (state_of v u))

-- ---- control
unsent-held : (p : Phase) → is_held p ≡ true → is_sent p ≡ false
unsent-held phases.Ready h = refl
unsent-held phases.ToSend h = refl
unsent-held phases.Sent h = no_truth true refl (sym h)
unsent-held phases.HeldAnswer h = refl
unsent-held (phases.HeldLine q) h = refl
unsent-held (phases.Ending n) h = refl
unsent-held phases.Ended h = refl

unsent-line : (r : Res) (p : Phase) → is_held_for r p ≡ true → is_sent p ≡ false
unsent-line r phases.Ready h = refl
unsent-line r phases.ToSend h = refl
unsent-line r phases.Sent h = no_truth true refl (sym h)
unsent-line r phases.HeldAnswer h = refl
unsent-line r (phases.HeldLine q) h = refl
unsent-line r (phases.Ending n) h = refl
unsent-line r phases.Ended h = refl

pub control-faces : (v : TasksView) (r : Res) (t : TaskId) → SameFaces v (tell_control v r t)
unfolding tell_control
control-faces v r t = go (is_task v t) refl
  where
    by-hears : (x y : TaskState) (T U : List ToldLine) → Hears t r x T y U →
        (faces y.records ≡ faces x.records) × (y.outstanding ≡ x.outstanding) × (is_sent y.phase ≡ is_sent x.phase)
    by-hears x y T U (none m) = (refl, refl, refl)
    by-hears x y T U (given l) = (faces-told r x.records, refl, refl)
    by-hears x y T U (coded h) = (faces-told r x.records, refl, sym (unsent-held x.phase h))
    by-hears x y T U (posted k h) = (faces-told r x.records, refl, refl)
    by-hears x y T U (passed k h) = (faces-told r x.records, refl, sym (unsent-line r x.phase h))

    go : (b : Bool) → is_task v t ≡ b → SameFaces v (tell_control v r t)
    go false e =
        subst (λ b. SameFaces v (cond b (tell_untold v t r (record_of (state_of v t).records r)) v)) (sym e)
        (faces-none v)
    go true e =
        let k : Controlled v r t (tell_control v r t) = controlled v r t e in
        let z = by-hears (state_of v t) k.state v.told k.told k.hears in
        did-faces v (tell_control v r t) t k.state k.told k.did z.0 z.1 z.2

both-told : (v w : TasksView) (r : Res) (t : TaskId) → SameFaces v w
    → SameFaces (tell_control v r t) (tell_control w r t)
both-told v w r t h =
    faces-then (tell_control v r t) v (tell_control w r t)
    (faces-back v (tell_control v r t) (control-faces v r t))
    (faces-then v w (tell_control w r t) h (control-faces w r t))

-- ---- an answer
both-faced : (v w v' w' : TasksView) (t : TaskId) (ks is : List Face) (out : Option Asked) → SameFaces v w
    → Faced v v' t ks out → Faced w w' t is out → is ≡ ks → SameFaces v' w'
both-faced v w v' w' t ks is out h a b same = record {
  system = b.did.changed.system ∙ (h.system ∙ sym a.did.changed.system);
  here = λ u. b.did.changed.here u ∙ (h.here u ∙ sym (a.did.changed.here u));
  faces_are = λ u.
      by-place u (λ (x y : TaskState). faces y.records ≡ faces x.records) (b.faced ∙ (same ∙ sym a.faced))
      (h.faces_are u);
  out_is = λ u. by-place u (λ (x y : TaskState). y.outstanding ≡ x.outstanding) (b.out_is ∙ sym a.out_is) (h.out_is u);
  sent_is = λ u.
      by-place u (λ (x y : TaskState). is_sent y.phase ≡ is_sent x.phase) (b.unsent ∙ sym a.unsent) (h.sent_is u);
}
  where
    by-place : (u : TaskId) (P : TaskState → TaskState → Type 0) → P a.state b.state
        → P (state_of v u) (state_of w u) → P (state_of v' u) (state_of w' u)
    by-place u P own other = go (u.task == t.task) refl
      where
        go : (c : Bool) → (u.task == t.task) ≡ c → P (state_of v' u) (state_of w' u)
        go true e =
            let place = eqb-true u.task t.task e in
            subst (λ y. P y (state_of w' u)) (sym (at-place v' t u place ∙ a.did.state))
            (subst (P a.state) (sym (at-place w' t u place ∙ b.did.state)) own)
        go false e =
            let apart = eqb-false u.task t.task e in
            subst (λ y. P y (state_of w' u)) (sym (a.did.changed.others u apart))
            (subst (P (state_of v u)) (sym (b.did.changed.others u apart)) other)

both-answered : (v w : TasksView) (t : TaskId) (answer : Answer) (rank : ℕ) → SameFaces v w
    → SameFaces (after_mail v (Answered t answer rank)) (after_mail w (Answered t answer rank))
unfolding after_mail
both-answered v w t answer rank h =
    subst
    (λ b.
    SameFaces (after_mail v (Answered t answer rank))
    (cond b (tell_answer_any_ranked w t answer rank (state_of w t).outstanding) w))
    (sym effect)
    (subst
    (λ o.
    SameFaces (after_mail v (Answered t answer rank))
    (cond (has_effect v t answer rank) (tell_answer_any_ranked w t answer rank o) w))
    (sym (h.out_is t)) (go (has_effect v t answer rank) refl))
  where
    effect : has_effect w t answer rank ≡ has_effect v t answer rank
    effect =
        ap (λ a. (a && is_sent (state_of w t).phase)
        && (nat_le rank last_number && is_awaited answer (state_of w t).outstanding)) (h.here t)
        ∙ (ap (λ a. (is_task v t && a)
        && (nat_le rank last_number && is_awaited answer (state_of w t).outstanding)) (h.sent_is t)
        ∙ ap (λ o. has_sent v t && (nat_le rank last_number && is_awaited answer o)) (h.out_is t))

    asked : is_task v t ≡ true → (o : Option Asked) →
        SameFaces (tell_answer_any_ranked v t answer rank o) (tell_answer_any_ranked w t answer rank o)
    asked here None = h
    asked here (Some a) =
        both-faced v w (tell_answer_ranked v t a answer rank) (tell_answer_ranked w t a answer rank) t
        (face_answered a answer rank (faces (state_of v t).records))
        (face_answered a answer rank (faces (state_of w t).records)) (out_answered t a answer) h
        (answer-face v t here a answer rank) (answer-face w t (h.here t ∙ here) a answer rank)
        (ap (face_answered a answer rank) (h.faces_are t))

    go : (b : Bool) → has_effect v t answer rank ≡ b →
        SameFaces (cond b (tell_answer_any_ranked v t answer rank (state_of v t).outstanding) v)
        (cond b (tell_answer_any_ranked w t answer rank (state_of v t).outstanding) w)
    go false e = h
    go true e =
        let sent =
        and_parts (has_sent v t) (nat_le rank last_number && is_awaited answer (state_of v t).outstanding) e in
        asked (and_parts (is_task v t) (is_sent (state_of v t).phase) sent.0).0 (state_of v t).outstanding

-- ---- mail but notices and parts
abbrev pub IsPlain : Mail → Type 0
IsPlain (Request e from q) = Unit {0}
IsPlain (Answered t answer rank) = Unit {0}
IsPlain (Granted t r) = Unit {0}
IsPlain (Notice target moved) = ⊥
IsPlain (Part e from records) = ⊥

abbrev pub ArePlain : List Mail → Type 0
ArePlain [] = Unit {0}
ArePlain (m ∷ ms) = IsPlain m × ArePlain ms

both-taken : (deck : Deck) (known also : ℕ) (v w : TasksView) (p q : StarPart) (mail : Mail) → IsPlain mail
    → SameFaces v w → SameFaces (take_mail deck known v p mail).tasks (take_mail deck also w q mail).tasks
both-taken deck known also v w p q (Request e from r) plain h =
    subst (λ z. SameFaces z (take_mail deck also w q (Request e from r)).tasks)
    (sym (request-tasks deck known v p e from r))
    (subst (SameFaces v) (sym (request-tasks deck also w q e from r)) h)
both-taken deck known also v w p q (Granted t r) plain h =
    subst (λ z. SameFaces z (take_mail deck also w q (Granted t r)).tasks) (sym (control-tasks deck known v p t r))
    (subst (SameFaces (cond (is_of_deck deck t) (tell_control v r t) v)) (sym (control-tasks deck also w q t r))
    (go (is_of_deck deck t)))
  where
    go : (b : Bool) → SameFaces (cond b (tell_control v r t) v) (cond b (tell_control w r t) w)
    go true = both-told v w r t h
    go false = h
both-taken deck known also v w p q (Answered t answer rank) plain h =
    subst (λ z. SameFaces z (take_mail deck also w q (Answered t answer rank)).tasks)
    (sym (answer-tasks deck known v p t answer rank))
    (subst
    (SameFaces (cond (is_for_deck deck (Answered t answer rank)) (after_mail v (Answered t answer rank)) v))
    (sym (answer-tasks deck also w q t answer rank)) (go (is_for_deck deck (Answered t answer rank))))
  where
    go : (b : Bool) →
        SameFaces (cond b (after_mail v (Answered t answer rank)) v) (cond b (after_mail w (Answered t answer rank)) w)
    go true = both-answered v w t answer rank h
    go false = h
both-taken deck known also v w p q (Notice target moved) plain h = absurd plain
both-taken deck known also v w p q (Part e from records) plain h = absurd plain

-- a system with its part once it has taken mail has one
pub record TakesAlike (deck : Deck) (ms : List Mail) (n m : NodeState) : Type 0 where
  pub first : StarPart
  pub first_is : (taking deck n ms).star ≡ Some first
  pub second : StarPart
  pub second_is : (taking deck m ms).star ≡ Some second
  pub alike : SameFaces (taking deck n ms).tasks (taking deck m ms).tasks

pub takes-alike : (deck : Deck) (ms : List Mail) → ArePlain ms → (n m : NodeState) (p q : StarPart)
    → n.star ≡ Some p → m.star ≡ Some q → SameFaces n.tasks m.tasks → TakesAlike deck ms n m
takes-alike deck [] plain n m p q star other h =
    record { first = p; first_is = star; second = q; second_is = other; alike = h }
takes-alike deck (x ∷ ms) plain n m p q star other h =
    let one : NodeState =
    record n {
      tasks = (take_mail deck n.known n.tasks p x).tasks;
      star = Some (take_mail deck n.known n.tasks p x).part;
    } in
    let two : NodeState =
    record m {
      tasks = (take_mail deck m.known m.tasks q x).tasks;
      star = Some (take_mail deck m.known m.tasks q x).part;
    } in
    let k : TakesAlike deck ms one two =
    takes-alike deck ms plain.1 one two (take_mail deck n.known n.tasks p x).part
    (take_mail deck m.known m.tasks q x).part refl refl
    (both-taken deck n.known m.known n.tasks m.tasks p q x plain.0 h) in
    let first : taking deck one ms ≡ taking deck n (x ∷ ms) =
    sym (ap (λ (z : NodeState). taking deck z ms) (taken-node deck n p x star)) in
    let second : taking deck two ms ≡ taking deck m (x ∷ ms) =
    sym (ap (λ (z : NodeState). taking deck z ms) (taken-node deck m q x other)) in
    record {
      first = k.first;
      first_is = sym (ap (λ (z : NodeState). z.star) first) ∙ k.first_is;
      second = k.second;
      second_is = sym (ap (λ (z : NodeState). z.star) second) ∙ k.second_is;
      alike =
          subst (λ (z : NodeState). SameFaces z.tasks (taking deck m (x ∷ ms)).tasks) first
          (subst (λ (z : NodeState). SameFaces (taking deck one ms).tasks z.tasks) second k.alike);
    }

pub taking-more : (deck : Deck) (ms more : List Mail) (n : NodeState)
    → taking deck n (ms ++ more) ≡ taking deck (taking deck n ms) more
taking-more deck [] more n = refl
taking-more deck (x ∷ ms) more n = taking-more deck ms more _

-- ---- what leaves faces, though not what was sent
pub record KeepsFaces (v w : TasksView) : Type 0 where
  pub system : w.system ≡ v.system
  pub here : (t : TaskId) → is_task w t ≡ is_task v t
  pub faces_are : (t : TaskId) → faces (state_of w t).records ≡ faces (state_of v t).records

pub same-keeps : (v w : TasksView) → SameFaces v w → KeepsFaces v w
same-keeps v w h = record { system = h.system; here = h.here; faces_are = h.faces_are }

pub keeps-then : (v w z : TasksView) → KeepsFaces v w → KeepsFaces w z → KeepsFaces v z
keeps-then v w z a b = record {
  system = b.system ∙ a.system;
  here = λ t. b.here t ∙ a.here t;
  faces_are = λ t. b.faces_are t ∙ a.faces_are t;
}

again-faces : (p : StarPart) (e : ℕ) (xs : List TaskState) (i : ℕ)
    → faces (get_or (map (again p e) xs) i new_task).records ≡ faces (get_or xs i new_task).records
again-faces p e [] i = refl
again-faces p e (x ∷ xs) zero = go (has_sent_in p e x)
  where
    go : (b : Bool) → faces (cond b (record x { phase = phases.ToSend }) x).records ≡ faces x.records
    go true = refl
    go false = refl
again-faces p e (x ∷ xs) (suc i) = again-faces p e xs i

sent-keeps : (p : StarPart) (e : ℕ) (v : TasksView) → KeepsFaces v (sent_again p e v)
unfolding state_of
sent-keeps p e v = record {
  system = refl;
  here = λ t. ap (λ k. (v.system == t.system.0) && nat_lt t.task k) (length-map v.tasks (again p e));
  faces_are = λ t. again-faces p e v.tasks t.task;
}

pub notice-keeps : (deck : Deck) (known : ℕ) (v : TasksView) (p : StarPart) (target : SysId) (moved : List Moved)
    → KeepsFaces v (take_mail deck known v p (Notice target moved)).tasks
unfolding took_mail
notice-keeps deck known v p target moved = go (is_for_deck deck (Notice target moved))
  where
    nothing : KeepsFaces v v
    nothing = same-keeps v v (faces-none v)

    go : (b : Bool) →
        KeepsFaces v
        (cond b
        (fixing_nothing (took_notice known (names_of deck v.system) (standing v p) (filter (is_item_of deck) moved)))
        (fixing_none v p)).tasks
    go false = nothing
    go true =
        tasks-notice (KeepsFaces v)
        (λ z r t k. keeps-then v z (tell_control z r t) k (same-keeps z (tell_control z r t) (control-faces z r t)))
        (λ q e z k. keeps-then v z (sent_again q e z) k (sent-keeps q e z)) known (names_of deck v.system)
        (standing v p) (filter (is_item_of deck) moved) nothing

pub lost-faces : (deck : Deck) (n : NodeState) (ss : List SysId) → SameFaces n.tasks (losing deck n ss).tasks
lost-faces deck n ss =
    tasks-lost (SameFaces n.tasks)
    (λ z r t k. faces-then n.tasks z (tell_control z r t) k (control-faces z r t)) deck n ss (faces-none n.tasks)

pub desk-faces : (n : NodeState) (said : Said) → SameFaces n.tasks (desk_told n said).tasks
unfolding desk_told telling state_of
desk-faces n said = record {
  system = refl;
  here = λ t. refl;
  faces_are = λ t. refl;
  out_is = λ t. refl;
  sent_is = λ t. refl;
}
