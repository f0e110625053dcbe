-- Each element is of a system that has interest in its entry.
use Rattle.grs_world.proofs.Common.{[], ◌++◌, ◌∙◌, ◌∷◌, ◌≡◌, after_want, and_from, and_parts, ap, append_assoc, Bool}
use Rattle.grs_world.proofs.Common.{cond, Deck, Elem, entry_of, entry_of_res, false, false_by, has, has_task}
use Rattle.grs_world.proofs.Common.{is_interested, List, list_all, list_of, no_truth, not, or_left, or_right, refl, Res}
use Rattle.grs_world.proofs.Common.{res_wanted, same_res, same_res-exact, same_res-itself, same_task, same_task-itself}
use Rattle.grs_world.proofs.Common.{slice_of, Some, State, sym, TaskId, true, Want, without_gone, ℕ}
use Rattle.grs_base.specs.declared.resource.Res.TheVariants.{Systems}
use Rattle.grs_known.proofs.lists.All.{all-want, has_task-all}
use Rattle.grs_world.proofs.star.Systems.{near_at}

-- whether a task's system has interest in the entry of a resource, if it has one
abbrev pub is_near_res : Deck → List ℕ → Res → TaskId → Bool
is_near_res deck words r t = near_at words t.system.0 (entry_of_res deck.entries r)

abbrev pub AreNear : Deck → List ℕ → State → Type 0
AreNear deck words s = list_all (λ h. is_near_res deck words h.0 h.1.task) s ≡ true

-- a request of a task whose system has interest
pub near-want : (deck : Deck) (words : List ℕ) (s : State) (t : TaskId) (w : Want)
    → ((r : Res) → res_wanted w ≡ Some r → is_near_res deck words r t ≡ true) → AreNear deck words s
    → AreNear deck words (after_want s t w)
near-want deck words s t w mine h = all-want (is_near_res deck words) s t w mine h

-- who has an element has interest
pub near-has : (deck : Deck) (words : List ℕ) (s : State) (r : Res) (t : TaskId) → AreNear deck words s
    → has_task (list_of s r) t ≡ true → is_near_res deck words r t ≡ true
near-has deck words s r t h has = has_task-all (is_near_res deck words) s r t h has

-- No element is of systems that have no interest.
pub near-stays : (deck : Deck) (words : List ℕ) (gone : ℕ)
    → ((e u : ℕ) → has gone u ≡ true → is_interested words e u ≡ false) → (q r : List ℕ) (s : State)
    → AreNear deck words s
    → without_gone gone (list_of s (Systems q r)) ≡ list_of s (Systems q r)
near-stays deck words gone none q r [] near = refl
near-stays deck words gone none q r (h ∷ s) near =
    go (same_res (Systems q r) h.0) refl (near-stays deck words gone none q r s both.1)
  where
    res : Res
    res = Systems q r

    both : (is_near_res deck words h.0 h.1.task ≡ true) × (AreNear deck words s)
    both =
        and_parts (is_near_res deck words h.0 h.1.task) (list_all (λ z. is_near_res deck words z.0 z.1.task) s) near

    go : (b : Bool) → same_res (Systems q r) h.0 ≡ b
        → without_gone gone (list_of s (Systems q r)) ≡ list_of s (Systems q r)
        → without_gone gone (cond b (h.1 ∷ list_of s (Systems q r)) (list_of s (Systems q r)))
        ≡ cond b (h.1 ∷ list_of s (Systems q r)) (list_of s (Systems q r))
    go false e more = more
    go true e more =
        let same : res ≡ h.0 = same_res-exact res h.0 e in
        let here : is_interested words (entry_of (slice_of q r) deck.entries) h.1.task.system.0 ≡ true =
        ap (λ z. is_near_res deck words z h.1.task) same ∙ both.0 in
        let stays : has gone h.1.task.system.0 ≡ false =
        false_by (has gone h.1.task.system.0)
        (λ out.
        no_truth (is_interested words (entry_of (slice_of q r) deck.entries) h.1.task.system.0) here
        (none (entry_of (slice_of q r) deck.entries) h.1.task.system.0 out)) in
        ap (λ b. cond (not b) (h.1 ∷ without_gone gone (list_of s res)) (without_gone gone (list_of s res))) stays
        ∙ ap (λ (xs : List Elem). h.1 ∷ xs) more

-- each element is one of its list
has-here : (done : State) (h : Res × Elem) (todo : State) → has_task (list_of (done ++ h ∷ todo) h.0) h.1.task ≡ true
has-here [] h todo =
    ap (λ b. has_task (cond b (h.1 ∷ list_of todo h.0) (list_of todo h.0)) h.1.task) (same_res-itself h.0)
    ∙ or_left (same_task h.1.task h.1.task) (has_task (list_of todo h.0) h.1.task) (same_task-itself h.1.task)
has-here (x ∷ done) h todo = go (same_res h.0 x.0) (has-here done h todo)
  where
    go : (b : Bool) → has_task (list_of (done ++ h ∷ todo) h.0) h.1.task ≡ true
        → has_task (cond b (x.1 ∷ list_of (done ++ h ∷ todo) h.0) (list_of (done ++ h ∷ todo) h.0)) h.1.task ≡ true
    go true k = or_right (same_task h.1.task x.1.task) (has_task (list_of (done ++ h ∷ todo) h.0) h.1.task) k
    go false k = k

-- so it is with other words, where each that has an element has interest by them
near-from : (deck : Deck) (words' : List ℕ) (s : State)
    → ((r : Res) (t : TaskId) → has_task (list_of s r) t ≡ true → is_near_res deck words' r t ≡ true)
    → (done todo : State) → s ≡ done ++ todo → AreNear deck words' todo
near-from deck words' s each done [] e = refl
near-from deck words' s each done (h ∷ todo) e =
    and_from (is_near_res deck words' h.0 h.1.task) (list_all (λ z. is_near_res deck words' z.0 z.1.task) todo)
    (each h.0 h.1.task (ap (λ z. has_task (list_of z h.0) h.1.task) e ∙ has-here done h todo))
    (near-from deck words' s each (done ++ h ∷ []) todo (e ∙ sym (append_assoc done (h ∷ []) todo)))

pub near-words : (deck : Deck) (words' : List ℕ) (s : State)
    → ((r : Res) (t : TaskId) → has_task (list_of s r) t ≡ true → is_near_res deck words' r t ≡ true)
    → AreNear deck words' s
near-words deck words' s each = near-from deck words' s each [] s refl
