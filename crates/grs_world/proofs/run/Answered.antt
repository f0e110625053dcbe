-- Who is told an answer has nothing open at its system, and where its requests stand in the message.
use Rattle.grs_world.proofs.Common.{[], ◌++◌, ◌==◌, ◌||◌, ◌∙◌, ◌∷◌, ◌≡◌, among-front, ap, append-nil, append_assoc}
use Rattle.grs_world.proofs.Common.{askers, Bool, cleared, cond, Deck, drop, false, filter, has, has-without_other}
use Rattle.grs_world.proofs.Common.{has-without_same, HistEntry, is_among, is_line_of, left_by, List, list_all}
use Rattle.grs_world.proofs.Common.{list_any, map, no_truth, or_other, or_parts, refl, Req, Request, RingEntry}
use Rattle.grs_world.proofs.Common.{same_task, same_task-exact, same_task-itself, stamped, subst, suc, sym, SysId, take}
use Rattle.grs_world.proofs.Common.{TaskId, ToldBy, ToldLine, true, without, ℕ, ℕ_discrete}
use Rattle.std.specs.Prelude.{not}
use Rattle.grs_known.proofs.system.Says.{Clears}
use Rattle.grs_wire.specs.Masks.{only}
use Rattle.std.proofs.lemmas.List.{take-append-drop}
use Rattle.grs_world.specs.Laps.{OnlyLeft, LeftHome, answers}
use Rattle.grs_known.proofs.lists.Facts.{all-more, list_any-push}
use Rattle.grs_wire.specs.declared.told.ToldLine.TheVariants as lines
use Rattle.grs_known.proofs.system.Says as says

-- ---- the lines told
-- On the way from T0 to T a system told these lines, and who is told an answer has none of these requests.
pub record Answered (s : ℕ) (opens : List Req) (T0 T : List ToldLine) : Type 0 where
  pub lines : List ToldLine
  pub is : T ≡ T0 ++ lines
  pub ours : list_all (is_line_of s) lines ≡ true
  pub clear : (t : TaskId) → list_any (answers t) lines ≡ true → is_among t (askers opens) ≡ false

pub answered-by : {deck : Deck} {s : ℕ} {opens : List Req} {P : List HistEntry} {T0 T : List ToldLine}
    → ToldBy deck s opens P T0 T → Answered s opens T0 T
answered-by {s = s} {opens = opens} {T0 = T0}
    says.none = record { lines = []; is = sym (append-nil T0); ours = refl; clear = λ t a. cc }
answered-by {s = s} {opens = opens} {T0 = T0} (says.more T l told mine agrees clears) =
    let m = answered-by told in
    record {
      lines = m.lines ++ l ∷ [];
      is = ap (λ ls. ls ++ l ∷ []) m.is ∙ append_assoc T0 m.lines (l ∷ []);
      ours = all-more (is_line_of s) m.lines l m.ours mine;
      clear = λ t a.
          go t m.lines (list_any (answers t) m.lines) refl (m.clear t) (sym (list_any-push (answers t) m.lines l) ∙ a);
    }
  where
    line_clear : (t : TaskId) (k : ToldLine) → Clears opens k → answers t k ≡ true → is_among t (askers opens) ≡ false
    line_clear t (lines.Coded u k part verb code) clear a =
        subst (λ (x : TaskId). is_among x (askers opens) ≡ false) (sym (same_task-exact t u a)) clear
    line_clear t (lines.Shown u k verb code rows) clear a =
        subst (λ (x : TaskId). is_among x (askers opens) ≡ false) (sym (same_task-exact t u a)) clear
    line_clear t (lines.Post u k) clear a = cc
    line_clear t (lines.Ended u code) clear a = cc
    line_clear t (lines.Desk k said) clear a = cc

    go : (t : TaskId) (ls : List ToldLine) (b : Bool) → list_any (answers t) ls ≡ b
        → (list_any (answers t) ls ≡ true → is_among t (askers opens) ≡ false)
        → (list_any (answers t) ls || answers t l) ≡ true → is_among t (askers opens) ≡ false
    go t ls true is ih a = ih is
    go t ls false is ih a = line_clear t l clears (or_other (list_any (answers t) ls) (answers t l) a is)

-- ---- where the requests of a task stand in the message
-- An entry is left to the task's own system, if it is a request of that task.
abbrev IsLeftHome : TaskId → RingEntry → Type 0
IsLeftHome t e = (q : Req) → e.body ≡ Request q → q.task ≡ t → OnlyLeft t.system e

abbrev AllLeftHome : TaskId → List RingEntry → Type 0
AllLeftHome t [] = Unit {0}
AllLeftHome t (e ∷ es) = IsLeftHome t e × AllLeftHome t es

each_left : (t : TaskId) (es : List RingEntry) → LeftHome t es → AllLeftHome t es
each_left t [] law = tt
each_left t (e ∷ es) law = (
  λ q. law [] es e q refl,
  each_left t es (λ before behind x q is. law (e ∷ before) behind x q (ap (λ z. e ∷ z) is)),
)

left_home : (t : TaskId) (es : List RingEntry) → AllLeftHome t es → LeftHome t es
left_home t es all before behind e q is = at before (subst (AllLeftHome t) is all) q
  where
    at : (before : List RingEntry) → AllLeftHome t (before ++ e ∷ behind) → IsLeftHome t e
    at [] a = a.0
    at (x ∷ before) a = at before a.1

left_append : (t : TaskId) (xs ys : List RingEntry) → AllLeftHome t xs → AllLeftHome t ys → AllLeftHome t (xs ++ ys)
left_append t [] ys a b = b
left_append t (x ∷ xs) ys a b = (a.0, left_append t xs ys a.1 b)

-- Who has processed an entry has it no more.
left_by_one : (t : TaskId) (c : SysId) (e : RingEntry) → IsLeftHome t e → IsLeftHome t (left_by c e)
left_by_one t c e left q body same u other = go (ℕ_discrete u c.0)
  where
    go : Dec (u ≡ c.0) → has (without e.mask c.0) u ≡ false
    go (yes here) = subst (λ (x : ℕ). has (without e.mask c.0) x ≡ false) (sym here) (has-without_same e.mask c.0)
    go (no away) = has-without_other e.mask c.0 u away ∙ left q body same u other

left_cleared : (t : TaskId) (c : SysId) (es : List RingEntry) → AllLeftHome t es → AllLeftHome t (cleared c es)
unfolding cleared
left_cleared t c [] a = tt
left_cleared t c (e ∷ es) a = go (not (e.mask == only c.0)) (left_cleared t c es a.1)
  where
    go : (b : Bool) → AllLeftHome t (cleared c es)
        → AllLeftHome t (map (left_by c)
        (cond b (e ∷ filter (λ x. not (x.mask == only c.0)) es) (filter (λ x. not (x.mask == only c.0)) es)))
    go true on = (left_by_one t c e a.0, on)
    go false on = on

-- Requests of other tasks are put in.
left_stamped : (t : TaskId) (c : SysId) (number mask : ℕ) (qs : List Req) → is_among t (askers qs) ≡ false
    → AllLeftHome t (stamped number c mask qs)
unfolding stamped
left_stamped t c number mask [] none = tt
left_stamped t c number mask (q ∷ qs) none =
    let parts = or_parts (same_task t q.task) (is_among t (askers qs)) none in (
      λ p body same. no_truth (same_task t q.task) (is_same p body same) parts.0,
      left_stamped t c (suc number) mask qs parts.1,
    )
  where
    is_same : (p : Req) → Request q ≡ Request p → p.task ≡ t → same_task t q.task ≡ true
    is_same p body same =
        let one : q ≡ p = cc in
        subst (λ (x : TaskId). same_task t x ≡ true) (sym (ap (λ (x : Req). x.task) one ∙ same)) (same_task-itself t)

-- So it is behind a Turn of a system whose requests that wait to be put in are of other tasks.
pub left_turned : (t : TaskId) (c : SysId) (number mask k : ℕ) (outbox : List Req) (es : List RingEntry) → LeftHome t es
    → is_among t (askers outbox) ≡ false → LeftHome t (cleared c es ++ stamped number c mask (take k outbox))
left_turned t c number mask k outbox es left none =
    let some : is_among t (askers (take k outbox)) ≡ false =
    among-front t (take k outbox) (drop k outbox)
    (subst (λ qs. is_among t (askers qs) ≡ false) (sym (take-append-drop k outbox)) none) in
    left_home t (cleared c es ++ stamped number c mask (take k outbox))
    (left_append t (cleared c es) (stamped number c mask (take k outbox)) (left_cleared t c es (each_left t es left))
    (left_stamped t c number mask (take k outbox) some))

-- So it is behind a Turn at the closed message.
pub left_behind : (t : TaskId) (c : SysId) (es : List RingEntry) → LeftHome t es → LeftHome t (cleared c es)
left_behind t c es left = left_home t (cleared c es) (left_cleared t c es (each_left t es left))
