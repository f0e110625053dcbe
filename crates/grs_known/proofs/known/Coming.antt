-- What comes to a system stays right: through items, and as it is read; and what may come last.
use Rattle.std.proofs.Common.{◌≡◌, Bool, true, false, ◌||◌, List, [], ◌∷◌, ◌++◌, Some, refl, ap, sym, ◌∙◌, subst, cond}
use Rattle.std.proofs.Common.{None, ◌&&◌, arith}
use Rattle.std.proofs.lemmas.Bool.{or_parts}
use Rattle.std.specs.List.{list_any}
use Rattle.grs_base.specs.Same.{same_task}
use Rattle.grs_base.specs.Lists.{owns}
use Rattle.grs_base.specs.State.{list_of}
use Rattle.grs_base.specs.declared.resource.Res.{Res}
use Rattle.grs_base.specs.declared.resource.TaskId.{TaskId}
use Rattle.grs_base.proofs.SameLaws.{same_task-itself}
use Rattle.grs_wire.specs.declared.request.Answer.{Answer}
use Rattle.grs_known.specs.Items.{RunItem, is_of, removes_system_of, gives_back, Made, mine, lists, reply_in}
use Rattle.grs_known.specs.Known.{Known, last_of, outstanding, Still, IsRight, falls_behind, learns_item, learns_any}
use Rattle.grs_known.specs.Known.{learns_control, News, Answers, Grants, Wants, Silent, is_answer_to, Coming}
use Rattle.grs_known.specs.Known.{after_news}
use Rattle.grs_known.specs.Laws.{OthersKeep, is_given_back, DecidedAtOnce, AnswerIsSent, AnswerIsLearned}
use Rattle.grs_known.specs.Laws.{ControlIsLearned, ControlIsSent, ReadRight, ReadInOrder}
use Rattle.grs_known.proofs.known.Control.{still-other, still-own}
use Rattle.grs_known.proofs.known.Knowing.{outstanding-other, learned-other, right-other, outstanding-own, learned-own}
use Rattle.grs_known.proofs.known.Knowing.{still-behind, right-own, learned-longer, given-told, right-answer}
use Rattle.grs_known.proofs.known.Knowing.{right-control}
use Rattle.grs_known.proofs.lists.Truths.{no_truth}

-- what is said of another task only is said of none
not_other : {P : Type 0} (t : TaskId) → same_task t t ≡ false → P
not_other t f = absurd (let g : false ≡ true = sym f ∙ same_task-itself t in cc)

-- ---- an item of another task
coming-other : (t : TaskId) (T : List RunItem) (x : RunItem) → is_of t x.fixed ≡ false
    → removes_system_of t x.fixed ≡ false → (k : Known) (ns : List News) → Coming t k T ns → Coming t k (T ++ x ∷ []) ns
coming-other t T x apart live k [] h = h
coming-other t T x apart live k (Answers u a ∷ ns) h = (
  λ e. let c = h.0 e in
      (c.0, outstanding-other t k T x apart ∙ c.1, c.2, coming-other t T x apart live (learns_item k c.0) ns c.3),
  λ e. coming-other t T x apart live k ns (h.1 e),
)
coming-other t T x apart live k (Grants u r ∷ ns) h = (
  λ e. (
    subst (λ o. Still r t (T ++ x ∷ []) o) (sym (outstanding-other t k T x apart))
        (still-other t T x apart live r (outstanding t k T) (h.0 e).0),
    coming-other t T x apart live (learns_control k r) ns (h.0 e).1,
  ),
  λ e. coming-other t T x apart live k ns (h.1 e),
)
coming-other t T x apart live k (Wants q ∷ ns) h = coming-other t T x apart live k ns h
coming-other t T x apart live k (Silent ∷ ns) h = coming-other t T x apart live k ns h

pub others_keep : OthersKeep
others_keep t k T x ns apart live right coming = record {
  right = right-other t k T x apart live right;
  coming = coming-other t T x apart live k ns coming;
  same = learned-other t k T x apart;
}

-- ---- an item of its own: what came in front of the answer, and the answer behind it
coming-own : (t : TaskId) (T : List RunItem) (x : RunItem) → is_of t x.fixed ≡ true → Made T x
    → (k : Known) (ns : List News) → k.behind ≡ false → list_any (is_answer_to t) ns ≡ false → Coming t k T ns →
    Coming t (falls_behind k) (T ++ x ∷ []) (ns ++ Answers t (reply_in x.entries) ∷ [])
coming-own t T x own made k [] e none h = (λ f. (x, outstanding-own t T x own k, refl, tt), λ f. not_other t f)
coming-own t T x own made k (Answers u a ∷ ns) e none h =
    let both = or_parts (same_task t u) (list_any (is_answer_to t) ns) none in
    (λ f. no_truth (same_task t u) f both.0, λ f. coming-own t T x own made k ns e both.1 (h.1 f))
coming-own t T x own made k (Grants u r ∷ ns) e none h = (
  λ f.
      (still-behind t T x own k e made r (h.0 f).0, coming-own t T x own made (learns_control k r) ns e none (h.0 f).1),
  λ f. coming-own t T x own made k ns e none (h.1 f),
)
coming-own t T x own made k (Wants q ∷ ns) e none h = coming-own t T x own made k ns e none h
coming-own t T x own made k (Silent ∷ ns) e none h = coming-own t T x own made k ns e none h

pub answer_is_sent : AnswerIsSent
answer_is_sent t k T x ns own e made none right coming = record {
  right = right-own t T x own k e made right;
  coming = coming-own t T x own made k ns e none coming;
  same = learned-own t T x own k e;
}

-- ---- an item of its own that is decided at once: nothing was outstanding, so no answer comes
still-open : (t : TaskId) (r : Res) (k : Known) (T : List RunItem) → k.behind ≡ false → Still r t T (outstanding t k T)
    → owns (list_of (lists T) r) t ≡ true
still-open t r k T e h = subst (λ b. Still r t T (cond b (last_of (mine t T)) None)) e h

none_open : {P : Type 0} (t : TaskId) (k : Known) (T : List RunItem) (x : RunItem) → k.behind ≡ false
    → outstanding t k T ≡ Some x → P
none_open t k T x e is = absurd (let g : None ≡ Some x = ap (λ b. cond b (last_of (mine t T)) None) (sym e) ∙ is in cc)

coming-open : (t : TaskId) (T : List RunItem) (x : RunItem) → is_of t x.fixed ≡ true → Made T x
    → (k l : Known) (ns : List News) → k.behind ≡ false → l.behind ≡ false
    → list_any (is_given_back t x.fixed) ns ≡ false → Coming t k T ns →
    Coming t l (T ++ x ∷ []) ns
coming-open t T x own made k l [] e f none h = tt
coming-open t T x own made k l (Answers u a ∷ ns) e f none h = (
  λ same. let c = h.0 same in none_open t k T c.0 e c.1,
  λ other. coming-open t T x own made k l ns e f none (h.1 other),
)
coming-open t T x own made k l (Grants u r ∷ ns) e f none h = (
  λ same. let parts = kept same (gives_back r x.fixed) none in (
    subst (λ b. Still r t (T ++ x ∷ []) (cond b (last_of (mine t (T ++ x ∷ []))) None)) (sym f)
        ((still-own t T x own made r (still-open t r k T e (h.0 same).0)).0 parts.0),
    coming-open t T x own made (learns_control k r) (learns_control l r) ns e f parts.1 (h.0 same).1,
  ),
  λ other. coming-open t T x own made k l ns e f (passed (same_task t u) none) (h.1 other),
)
  where
    kept : same_task t u ≡ true → (b : Bool) → ((same_task t u && b) || list_any (is_given_back t x.fixed) ns) ≡ false
        → (b ≡ false) × (list_any (is_given_back t x.fixed) ns ≡ false)
    kept same true g = absurd (let z : true ≡ false = sym (rw same refl) ∙ g in cc)
    kept same false g = (refl, grind (arith, g))

    passed : (a : Bool) → ((a && gives_back r x.fixed) || list_any (is_given_back t x.fixed) ns) ≡ false
        → list_any (is_given_back t x.fixed) ns ≡ false
    passed a g = grind (arith, g)
coming-open t T x own made k l (Wants q ∷ ns) e f none h = coming-open t T x own made k l ns e f none h
coming-open t T x own made k l (Silent ∷ ns) e f none h = coming-open t T x own made k l ns e f none h

pub decided_at_once : DecidedAtOnce
decided_at_once t k T x ns own e made none right coming =
    let at : outstanding t (falls_behind k) (T ++ x ∷ []) ≡ Some x = outstanding-own t T x own k in
    record {
      right = right-answer t (falls_behind k) (T ++ x ∷ []) x at (right-own t T x own k e made right);
      coming = coming-open t T x own made k (learns_item k x) ns e refl none coming;
      longer =
          learned-longer t (falls_behind k) (T ++ x ∷ []) x at ∙ ap (λ ys. ys ++ x ∷ []) (learned-own t T x own k e);
    }

-- ---- what comes first is learned
pub answer_is_learned : AnswerIsLearned
answer_is_learned t k T a ns h coming =
    let c = coming.0 (same_task-itself t) in
    record {
      item = c.0;
      reply = c.2;
      longer = learned-longer t k T c.0 c.1;
      control = given-told t k T c.0 c.1 h;
      right = right-answer t k T c.0 c.1 h;
      coming = c.3;
    }

pub control_is_learned : ControlIsLearned
control_is_learned t k T r ns h coming =
    let c = coming.0 (same_task-itself t) in
    record { still = c.0; same = refl; right = right-control t k T r h c.0; coming = c.1 }

-- ---- what is known behind the first
after-answer : (t : TaskId) (k : Known) (T : List RunItem) (u : TaskId) (a : Answer) (ns : List News) (x : RunItem)
    → same_task t u ≡ true → outstanding t k T ≡ Some x
    → after_news t k T (Answers u a ∷ ns) ≡ after_news t (learns_item k x) T ns
after-answer t k T u a ns x e is = rw e (ap (λ o. after_news t (learns_any k o) T ns) is)

after-control : (t : TaskId) (k : Known) (T : List RunItem) (u : TaskId) (r : Res) (ns : List News)
    → same_task t u ≡ true → after_news t k T (Grants u r ∷ ns) ≡ after_news t (learns_control k r) T ns
after-control t k T u r ns e = rw e refl

after-others_answer : (t : TaskId) (k : Known) (T : List RunItem) (u : TaskId) (a : Answer) (ns : List News)
    → same_task t u ≡ false → after_news t k T (Answers u a ∷ ns) ≡ after_news t k T ns
after-others_answer t k T u a ns e = rw e refl

after-others_control : (t : TaskId) (k : Known) (T : List RunItem) (u : TaskId) (r : Res) (ns : List News)
    → same_task t u ≡ false → after_news t k T (Grants u r ∷ ns) ≡ after_news t k T ns
after-others_control t k T u r ns e = rw e refl

-- ---- reading in order
read-as : (t : TaskId) (k l : Known) (T : List RunItem) (first ns rest : List News)
    → after_news t k T first ≡ after_news t l T ns → ReadRight t l T ns rest → ReadRight t k T first rest
read-as t k l T first ns rest e done = record {
  right = subst (λ z. IsRight t z T) (sym e) done.right;
  coming = subst (λ z. Coming t z T rest) (sym e) done.coming;
}

by_bool : {P : Type 0} (b : Bool) → (b ≡ true → P) → (b ≡ false → P) → P
by_bool true own other = own refl
by_bool false own other = other refl

pub read_in_order : ReadInOrder
read_in_order t k T [] rest h c = record { right = h; coming = c }
read_in_order t k T (Answers u a ∷ ns) rest h c = by_bool (same_task t u)
    (λ e. let d = c.0 e in
    read-as t k (learns_item k d.0) T (Answers u a ∷ ns) ns rest (after-answer t k T u a ns d.0 e d.1)
    (read_in_order t (learns_item k d.0) T ns rest (right-answer t k T d.0 d.1 h) d.3))
    (λ e.
    read-as t k k T (Answers u a ∷ ns) ns rest (after-others_answer t k T u a ns e)
    (read_in_order t k T ns rest h (c.1 e)))
read_in_order t k T (Grants u r ∷ ns) rest h c = by_bool (same_task t u)
    (λ e. let d = c.0 e in
    read-as t k (learns_control k r) T (Grants u r ∷ ns) ns rest (after-control t k T u r ns e)
    (read_in_order t (learns_control k r) T ns rest (right-control t k T r h d.0) d.1))
    (λ e.
    read-as t k k T (Grants u r ∷ ns) ns rest (after-others_control t k T u r ns e)
    (read_in_order t k T ns rest h (c.1 e)))
read_in_order t k T (Wants q ∷ ns) rest h c =
    read-as t k k T (Wants q ∷ ns) ns rest refl (read_in_order t k T ns rest h c)
read_in_order t k T (Silent ∷ ns) rest h c =
    read-as t k k T (Silent ∷ ns) ns rest refl (read_in_order t k T ns rest h c)

-- ---- control that comes last
still-as : (t : TaskId) (r : Res) (k l : Known) (T : List RunItem) → k ≡ l → Still r t T (outstanding t k T)
    → Still r t T (outstanding t l T)
still-as t r k l T e s = subst (λ z. Still r t T (outstanding t z T)) e s

pub control_is_sent : ControlIsSent
control_is_sent t k T [] r c s = (λ e. (s, tt), λ f. not_other t f)
control_is_sent t k T (Answers u a ∷ ns) r c s = (
  λ e. let d = c.0 e in (
    d.0,
    d.1,
    d.2,
    control_is_sent t (learns_item k d.0) T ns r d.3 (still-as t r _ _ T (after-answer t k T u a ns d.0 e d.1) s),
  ),
  λ e. control_is_sent t k T ns r (c.1 e) (still-as t r _ _ T (after-others_answer t k T u a ns e) s),
)
control_is_sent t k T (Grants u q ∷ ns) r c s = (
  λ e. let d = c.0 e in
      (d.0, control_is_sent t (learns_control k q) T ns r d.1 (still-as t r _ _ T (after-control t k T u q ns e) s)),
  λ e. control_is_sent t k T ns r (c.1 e) (still-as t r _ _ T (after-others_control t k T u q ns e) s),
)
control_is_sent t k T (Wants q ∷ ns) r c s = control_is_sent t k T ns r c s
control_is_sent t k T (Silent ∷ ns) r c s = control_is_sent t k T ns r c s
