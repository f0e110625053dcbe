-- Answers in one inbox: what stays of them where a mail comes or the first one is taken.
use Rattle.grs_world.proofs.Common.{[], ◌&&◌, ◌++◌, ◌==◌, ◌||◌, ◌∙◌, ◌∷◌, ◌≡◌, ◌⊎◌, and_from, and_parts, ap, Bool, cond}
use Rattle.grs_world.proofs.Common.{false, has, inl, inr, List, list_any, list_any-append, Mail, manager_at, no_truth}
use Rattle.grs_world.proofs.Common.{not, not-true, noticed, or-false, or_parts, or_right, refl, Some, sym, SysId}
use Rattle.grs_world.proofs.Common.{TaskId, true, ℕ}
use Rattle.grs_wire.specs.Notices.{names}
use Rattle.grs_world.proofs.gather.InBoxes.{noticed-more}
use Rattle.grs_world.specs.InHands.{is_answer_to, is_answered_once}

-- ---- a mail comes
pub answers-more : (place : ℕ) (ms : List Mail) (y : Mail) → is_answer_to place y ≡ false
    → list_any (is_answer_to place) (ms ++ y ∷ []) ≡ list_any (is_answer_to place) ms
answers-more place ms y none =
    list_any-append (is_answer_to place) ms (y ∷ [])
    ∙ (ap (λ b. list_any (is_answer_to place) ms || (b || false)) none ∙ or-false (list_any (is_answer_to place) ms))

-- who is answered once is answered
pub once-answered : (e place : ℕ) (ms : List Mail) → is_answered_once e place ms ≡ true
    → list_any (is_answer_to place) ms ≡ true
once-answered e place [] h = absurd (cc)
once-answered e place (y ∷ ms) h = go (is_answer_to place y) h (λ k. once-answered e place ms k)
  where
    go : (b : Bool)
        → cond b (not (list_any (is_answer_to place) ms)) (not (names e y) && is_answered_once e place ms) ≡ true
        → (is_answered_once e place ms ≡ true → list_any (is_answer_to place) ms ≡ true)
        → (b || list_any (is_answer_to place) ms) ≡ true
    go true k more = refl
    go false k more = more (and_parts (not (names e y)) (is_answered_once e place ms) k).1

pub once-more : (e place : ℕ) (ms : List Mail) (y : Mail) → is_answer_to place y ≡ false
    → is_answered_once e place ms ≡ true → is_answered_once e place (ms ++ y ∷ []) ≡ true
once-more e place [] y none h = absurd (cc)
once-more e place (z ∷ ms) y none h = go (is_answer_to place z) h (λ k. once-more e place ms y none k)
  where
    go : (b : Bool)
        → cond b (not (list_any (is_answer_to place) ms)) (not (names e z) && is_answered_once e place ms) ≡ true
        → (is_answered_once e place ms ≡ true → is_answered_once e place (ms ++ y ∷ []) ≡ true)
        → cond b (not (list_any (is_answer_to place) (ms ++ y ∷ [])))
        (not (names e z) && is_answered_once e place (ms ++ y ∷ [])) ≡ true
    go true k more = ap not (answers-more place ms y none) ∙ k
    go false k more =
        let both = and_parts (not (names e z)) (is_answered_once e place ms) k in
        and_from (not (names e z)) (is_answered_once e place (ms ++ y ∷ [])) both.0 (more both.1)

-- the answer comes
pub once-last : (e place : ℕ) (ms : List Mail) (y : Mail) → is_answer_to place y ≡ true
    → list_any (is_answer_to place) ms ≡ false → noticed e ms ≡ false → is_answered_once e place (ms ++ y ∷ []) ≡ true
once-last e place [] y here none quiet = ap (λ b. cond b true (not (names e y) && false)) here
once-last e place (z ∷ ms) y here none quiet =
    let both = or_parts (is_answer_to place z) (list_any (is_answer_to place) ms) none in
    let off = or_parts (names e z) (noticed e ms) quiet in
    ap (λ b.
    cond b (not (list_any (is_answer_to place) (ms ++ y ∷ [])))
    (not (names e z) && is_answered_once e place (ms ++ y ∷ []))) both.0
    ∙ and_from (not (names e z)) (is_answered_once e place (ms ++ y ∷ [])) (ap not off.0)
    (once-last e place ms y here both.1 off.1)

-- ---- the first mail is taken, and the answer is among the others
pub once-later : (e place : ℕ) (y : Mail) (ms : List Mail) → is_answered_once e place (y ∷ ms) ≡ true
    → list_any (is_answer_to place) ms ≡ true
    → (is_answer_to place y ≡ false) × (names e y ≡ false) × (is_answered_once e place ms ≡ true)
once-later e place y ms h later = go (is_answer_to place y) refl h
  where
    go : (b : Bool) → is_answer_to place y ≡ b
        → cond b (not (list_any (is_answer_to place) ms)) (not (names e y) && is_answered_once e place ms) ≡ true
        → (is_answer_to place y ≡ false) × (names e y ≡ false) × (is_answered_once e place ms ≡ true)
    go true is k = no_truth (list_any (is_answer_to place) ms) later (not-true (list_any (is_answer_to place) ms) k)
    go false is k =
        let both = and_parts (not (names e y)) (is_answered_once e place ms) k in
        (is, not-true (names e y) both.0, both.1)

-- ---- what an event leaves of an inbox, in which the new answers are to such tasks
-- No other answers come, and they stay in front of notices; and of an entry whose manager stays none comes.
pub record BoxGoes (words : List ℕ) (removed : ℕ) (New : TaskId → Type 0) (u : ℕ) (ms ks : List Mail) : Type 0 where
  pub answered : (t : TaskId) → t.system.0 ≡ u → list_any (is_answer_to t.task) ks ≡ true
      → (list_any (is_answer_to t.task) ms ≡ true) ⊎ New t
  pub once : (e : ℕ) (t : TaskId) → t.system.0 ≡ u → is_answered_once e t.task ms ≡ true
      → list_any (is_answer_to t.task) ks ≡ true → is_answered_once e t.task ks ≡ true
  pub silent : (e : ℕ) (m : SysId) → manager_at words e ≡ Some m → has removed m.0 ≡ false → noticed e ms ≡ false
      → noticed e ks ≡ false

module _ (words : List ℕ) (removed : ℕ) (New : TaskId → Type 0) (u : ℕ) where
  pub goes-same : (ms : List Mail) → BoxGoes words removed New u ms ms
  goes-same ms = record {
    answered = λ t home h. inl h;
    once = λ e t home h later. h;
    silent = λ e m at live h. h;
  }

  -- a mail that is neither an answer nor a notice
  pub goes-more : (ms : List Mail) (y : Mail) → ((place : ℕ) → is_answer_to place y ≡ false)
      → ((e : ℕ) → names e y ≡ false) → BoxGoes words removed New u ms (ms ++ y ∷ [])
  goes-more ms y none away = record {
    answered = λ t home h. inl (sym (answers-more t.task ms y (none t.task)) ∙ h);
    once = λ e t home h later. once-more e t.task ms y (none t.task) h;
    silent = λ e m at live h. noticed-more e ms y (away e) ∙ h;
  }

  -- a notice of entries whose managers are removed
  pub goes-notice : (ms : List Mail) (y : Mail) → ((place : ℕ) → is_answer_to place y ≡ false)
      → ((e : ℕ) (m : SysId) → manager_at words e ≡ Some m → has removed m.0 ≡ false → names e y ≡ false)
      → BoxGoes words removed New u ms (ms ++ y ∷ [])
  goes-notice ms y none away = record {
    answered = λ t home h. inl (sym (answers-more t.task ms y (none t.task)) ∙ h);
    once = λ e t home h later. once-more e t.task ms y (none t.task) h;
    silent = λ e m at live h. noticed-more e ms y (away e m at live) ∙ h;
  }

  -- an answer to a task that had none
  pub goes-answer : (ms : List Mail) (y : Mail) → ((e : ℕ) → names e y ≡ false)
      → ((t : TaskId) → t.system.0 ≡ u → is_answer_to t.task y ≡ true
      → New t × (list_any (is_answer_to t.task) ms ≡ false))
      → BoxGoes words removed New u ms (ms ++ y ∷ [])
  goes-answer ms y away fresh = record {
    answered = λ t home h. by t home h (is_answer_to t.task y) refl;
    once = λ e t home h later. once-by e t home h (is_answer_to t.task y) refl;
    silent = λ e m at live h. noticed-more e ms y (away e) ∙ h;
  }
    where
      by : (t : TaskId) → t.system.0 ≡ u → list_any (is_answer_to t.task) (ms ++ y ∷ []) ≡ true → (b : Bool)
          → is_answer_to t.task y ≡ b → (list_any (is_answer_to t.task) ms ≡ true) ⊎ New t
      by t home h true is = inr (fresh t home is).0
      by t home h false is = inl (sym (answers-more t.task ms y is) ∙ h)

      once-by : (e : ℕ) (t : TaskId) → t.system.0 ≡ u → is_answered_once e t.task ms ≡ true → (b : Bool)
          → is_answer_to t.task y ≡ b → is_answered_once e t.task (ms ++ y ∷ []) ≡ true
      once-by e t home h true is =
          no_truth (list_any (is_answer_to t.task) ms) (once-answered e t.task ms h) (fresh t home is).1
      once-by e t home h false is = once-more e t.task ms y is h

  -- the first mail is taken
  pub goes-left : (y : Mail) (ms : List Mail) → BoxGoes words removed New u (y ∷ ms) ms
  goes-left y ms = record {
    answered = λ t home h. inl (or_right (is_answer_to t.task y) (list_any (is_answer_to t.task) ms) h);
    once = λ e t home h later. (once-later e t.task y ms h later).2;
    silent = λ e m at live h. (or_parts (names e y) (noticed e ms) h).1;
  }
