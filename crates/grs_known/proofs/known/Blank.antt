-- What comes to a system: of a task it depends on what is known only in whether the task is behind.
use Rattle.std.proofs.Common.{◌≡◌, Bool, true, false, cond, not, ◌&&◌, ◌||◌, List, [], ◌∷◌, ◌++◌, Option, Some, None}
use Rattle.std.proofs.Common.{refl, ap, sym, ◌∙◌, subst}
use Rattle.std.proofs.Math.Bool.{and-true, and-false}
use Rattle.std.specs.List.{list_any}
use Rattle.grs_base.specs.Same.{same_task}
use Rattle.grs_base.specs.Lists.{owns}
use Rattle.grs_base.specs.State.{list_of}
use Rattle.grs_base.specs.declared.resource.Res.{Res}
use Rattle.grs_base.specs.declared.resource.TaskId.{TaskId}
use Rattle.grs_known.specs.Items.{RunItem, gives_back, mine, lists, reply_in, Made, is_of, removes_system_of}
use Rattle.grs_known.specs.Known.{Known, last_of, outstanding, Still, IsRight, learns_item, learns_any, learns_control}
use Rattle.grs_known.specs.Known.{News, Answers, Grants, Wants, Silent, is_answer_to, Coming, after_news}
use Rattle.grs_known.specs.Laws.{is_given_back}
use Rattle.grs_known.proofs.known.Coming.{others_keep, answer_is_sent, decided_at_once, control_is_sent}
use Rattle.grs_known.proofs.lists.Truths.{no_truth}

-- what is known of a task, but for what it owns
abbrev pub blank : Bool → Known
blank b = record { behind = b; owns = λ r. false }

outstanding-same : (t : TaskId) (k l : Known) (T : List RunItem) → k.behind ≡ l.behind
    → outstanding t k T ≡ outstanding t l T
outstanding-same t k l T e = ap (λ b. cond b (last_of (mine t T)) None) e

pub coming-same : (t : TaskId) (k l : Known) (T : List RunItem) (ns : List News) → k.behind ≡ l.behind → Coming t k T ns
    → Coming t l T ns
coming-same t k l T [] e h = tt
coming-same t k l T (Answers u a ∷ ns) e h = (
  λ same. let z = h.0 same in (
    z.0,
    sym (outstanding-same t k l T e) ∙ z.1,
    z.2,
    coming-same t (learns_item k z.0) (learns_item l z.0) T ns refl z.3,
  ),
  λ apart. coming-same t k l T ns e (h.1 apart),
)
coming-same t k l T (Grants u r ∷ ns) e h = (
  λ same. let z = h.0 same in (
    subst (Still r t T) (outstanding-same t k l T e) z.0,
    coming-same t (learns_control k r) (learns_control l r) T ns e z.1,
  ),
  λ apart. coming-same t k l T ns e (h.1 apart),
)
coming-same t k l T (Wants q ∷ ns) e h = coming-same t k l T ns e h
coming-same t k l T (Silent ∷ ns) e h = coming-same t k l T ns e h

-- a task that isn't behind gets no answer
pub no-answer : (t : TaskId) (k : Known) (T : List RunItem) (ns : List News) → k.behind ≡ false → Coming t k T ns
    → list_any (is_answer_to t) ns ≡ false
no-answer t k T [] e h = refl
no-answer t k T (Answers u a ∷ ns) e h = go (same_task t u) refl (λ f. no-answer t k T ns e (h.1 f))
  where
    go : (b : Bool) → same_task t u ≡ b → (same_task t u ≡ false → list_any (is_answer_to t) ns ≡ false)
        → (b || list_any (is_answer_to t) ns) ≡ false
    go true f more =
        absurd (let z = h.0 f in
        let none : None ≡ Some z.0 = sym (ap (λ b. cond b (last_of (mine t T)) None) e) ∙ z.1 in
        cc)
    go false f more = more f
no-answer t k T (Grants u r ∷ ns) e h =
    go (same_task t u) refl (λ f. no-answer t (learns_control k r) T ns e (h.0 f).1) (λ f. no-answer t k T ns e (h.1 f))
  where
    go : (b : Bool) → same_task t u ≡ b → (same_task t u ≡ true → list_any (is_answer_to t) ns ≡ false)
        → (same_task t u ≡ false → list_any (is_answer_to t) ns ≡ false) → list_any (is_answer_to t) ns ≡ false
    go true f more less = more f
    go false f more less = less f
no-answer t k T (Wants q ∷ ns) e h = no-answer t k T ns e h
no-answer t k T (Silent ∷ ns) e h = no-answer t k T ns e h

-- whether a task is behind once all was read
pub behind-after : (t : TaskId) (k : Known) (T : List RunItem) (ns : List News) → Coming t k T ns
    → (after_news t k T ns).behind ≡ (k.behind && not (list_any (is_answer_to t) ns))
behind-after t k T [] h = sym (and-true k.behind)
behind-after t k T (Answers u a ∷ ns) h =
    go (same_task t u) refl (λ f. let z = h.0 f in
    ap (λ o. (after_news t (learns_any k o) T ns).behind) z.1 ∙ behind-after t (learns_item k z.0) T ns z.3)
    (λ f. behind-after t k T ns (h.1 f))
  where
    go : (b : Bool) → same_task t u ≡ b
        → (same_task t u ≡ true → (after_news t (learns_any k (outstanding t k T)) T ns).behind ≡ false)
        → (same_task t u ≡ false → (after_news t k T ns).behind ≡ (k.behind && not (list_any (is_answer_to t) ns))) →
        (cond b (after_news t (learns_any k (outstanding t k T)) T ns) (after_news t k T ns)).behind
        ≡ (k.behind && not (b || list_any (is_answer_to t) ns))
    go true f now then = now f ∙ sym (and-false k.behind)
    go false f now then = then f
behind-after t k T (Grants u r ∷ ns) h =
    go (same_task t u) refl (λ f. behind-after t (learns_control k r) T ns (h.0 f).1)
    (λ f. behind-after t k T ns (h.1 f))
  where
    go : (b : Bool) → same_task t u ≡ b
        → (same_task t u ≡ true
        → (after_news t (learns_control k r) T ns).behind ≡ (k.behind && not (list_any (is_answer_to t) ns)))
        → (same_task t u ≡ false → (after_news t k T ns).behind ≡ (k.behind && not (list_any (is_answer_to t) ns))) →
        (cond b (after_news t (learns_control k r) T ns) (after_news t k T ns)).behind
        ≡ (k.behind && not (list_any (is_answer_to t) ns))
    go true f now then = now f
    go false f now then = then f
behind-after t k T (Wants q ∷ ns) h = behind-after t k T ns h
behind-after t k T (Silent ∷ ns) h = behind-after t k T ns h

-- an answer without effect, to a request that gives nothing up: its task stays behind
pub coming-late : (t : TaskId) (T : List RunItem) (x : RunItem) (ns : List News) → last_of (mine t T) ≡ Some x
    → ((r : Res) → gives_back r x.fixed ≡ false) → list_any (is_answer_to t) ns ≡ false → Coming t (blank false) T ns
    → Coming t (blank true) T ns
coming-late t T x [] last stays none h = tt
coming-late t T x (Answers u a ∷ ns) last stays none h = (
  λ same. absurd (let f : true ≡ false = ap (λ b. b || list_any (is_answer_to t) ns) (sym same) ∙ none in cc),
  λ apart. coming-late t T x ns last stays (ap (λ b. b || list_any (is_answer_to t) ns) (sym apart) ∙ none) (h.1 apart),
)
coming-late t T x (Grants u r ∷ ns) last stays none h = (
  λ same. (
    subst (Still r t T) (sym last) ((λ f. (h.0 same).0, λ f. no_truth (gives_back r x.fixed) f (stays r))),
    coming-same t (blank true) (learns_control (blank true) r) T ns refl
        (coming-late t T x ns last stays none
        (coming-same t (learns_control (blank false) r) (blank false) T ns refl (h.0 same).1)),
  ),
  λ apart. coming-late t T x ns last stays none (h.1 apart),
)
coming-late t T x (Wants q ∷ ns) last stays none h = coming-late t T x ns last stays none h
coming-late t T x (Silent ∷ ns) last stays none h = coming-late t T x ns last stays none h

-- ---- what an item does to what comes, and control that is sent
pub right-blank : (t : TaskId) (k : Known) (T : List RunItem) → IsRight t k T → IsRight t (blank k.behind) T
right-blank t k T h = record { waits = h.waits; owned = λ r e. absurd (cc); given = h.given }

pub coming-other : (t : TaskId) (b : Bool) (T : List RunItem) (x : RunItem) (ns : List News) → is_of t x.fixed ≡ false
    → removes_system_of t x.fixed ≡ false → IsRight t (blank b) T → Coming t (blank b) T ns
    → Coming t (blank b) (T ++ x ∷ []) ns
coming-other t b T x ns apart live right h = (others_keep t (blank b) T x ns apart live right h).coming

pub coming-sent : (t : TaskId) (T : List RunItem) (x : RunItem) (ns : List News) → is_of t x.fixed ≡ true → Made T x
    → IsRight t (blank false) T → Coming t (blank false) T ns
    → Coming t (blank true) (T ++ x ∷ []) (ns ++ Answers t (reply_in x.entries) ∷ [])
coming-sent t T x ns own made right h =
    (answer_is_sent t (blank false) T x ns own refl made (no-answer t (blank false) T ns refl h) right h).coming

pub coming-decided : (t : TaskId) (T : List RunItem) (x : RunItem) (ns : List News) → is_of t x.fixed ≡ true → Made T x
    → list_any (is_given_back t x.fixed) ns ≡ false → IsRight t (blank false) T → Coming t (blank false) T ns
    → Coming t (blank false) (T ++ x ∷ []) ns
coming-decided t T x ns own made none right h =
    coming-same t (learns_item (blank false) x) (blank false) (T ++ x ∷ []) ns refl
    (decided_at_once t (blank false) T x ns own refl made none right h).coming

-- An owner by the lists is sent control, where its answer comes before if it gives something up.
pub coming-granted : (t : TaskId) (b : Bool) (T : List RunItem) (ns : List News) (r : Res)
    → owns (list_of (lists T) r) t ≡ true
    → ((x : RunItem) → outstanding t (blank b) T ≡ Some x → list_any (is_answer_to t) ns ≡ false
    → gives_back r x.fixed ≡ false)
    → Coming t (blank b) T ns → Coming t (blank b) T (ns ++ Grants t r ∷ [])
coming-granted t b T ns r owned stays h =
    control_is_sent t (blank b) T ns r h
    (subst (Still r t T) (sym after) (still b (list_any (is_answer_to t) ns) refl refl))
  where
    after : outstanding t (after_news t (blank b) T ns) T
        ≡ cond (b && not (list_any (is_answer_to t) ns)) (last_of (mine t T)) None
    after = ap (λ c. cond c (last_of (mine t T)) None) (behind-after t (blank b) T ns h)

    still : (d c : Bool) → b ≡ d → list_any (is_answer_to t) ns ≡ c
        → Still r t T (cond (d && not c) (last_of (mine t T)) None)
    still false c e f = owned
    still true true e f = owned
    still true false e f = by_last (last_of (mine t T)) refl
      where
        by_last : (o : Option RunItem) → last_of (mine t T) ≡ o → Still r t T o
        by_last None g = owned
        by_last (Some x) g = (
          λ k. owned,
          λ k. no_truth (gives_back r x.fixed) k (stays x (ap (λ c. cond c (last_of (mine t T)) None) e ∙ g) f),
        )
