-- A system in star mode is read as one in the ring: its tasks and its own lists are the same; of the message nothing is
-- in its table or its outbox. `later` are the items that others fixed for its tasks and whose answers are still to
-- come, `out` the requests of its tasks that were sent and aren't answered yet.
use Rattle.grs_world.proofs.Common.{[], ◌++◌, ◌∙◌, ◌∷◌, ◌≡◌, ◌≢◌, ap, append-nil, are_sent, arith, ask, Asked, askers}
use Rattle.grs_world.proofs.Common.{Bool, cases_Bool, cond, decide, Deck, Deq, Display, end_step, Enq, false, false_by}
use Rattle.grs_world.proofs.Common.{filter-append, first_part, Fixed, goes_round, has_most, here-kept, HistEntry}
use Rattle.grs_world.proofs.Common.{history, is_for_all, is_home_at, is_of, IsAsk, IsAskedBy, IsGood, IsHistory, IsOurs}
use Rattle.grs_world.proofs.Common.{lines_of, List, list_all, Local, look, look_around, look_home, looks_asked}
use Rattle.grs_world.proofs.Common.{made_item, may_go, Meaning, mine, NodeState, None, none, Opens, Option, Phase}
use Rattle.grs_world.proofs.Common.{phase_step, post, posted, ready_step, Rec, refl, Release, removes_system_of, Req}
use Rattle.grs_world.proofs.Common.{res_wanted, rounds, RunItem, same_task, same_task-exact, show, slice_get, Some}
use Rattle.grs_world.proofs.Common.{stand_apart, StarPart, state_of, Step, subst, suc, sym, SysId, take_line, task_step}
use Rattle.grs_world.proofs.Common.{TaskId, TasksView, ToldBy, ToldLine, true, Want, with_line, with_phase, with_rows}
use Rattle.grs_world.proofs.Common.{with_tasks, zero, ℕ}
use Rattle.grs_known.proofs.system.Says.{Clears, more}
use Rattle.grs_known.proofs.known.Histories.{stays-ask}
use Rattle.grs_known.proofs.system.Askers.{apart-front}
use Rattle.grs_world.proofs.system.AtNode.{opens_of, Seen, MayFix, QuietStep, keeps, fixes, seen-other, mine-left}
use Rattle.grs_world.proofs.system.AtNode.{seen-fixed, fix-home, fix-stays}
use Rattle.grs_world.proofs.system.Quiet.{quiet}
use Rattle.grs_legal.specs.declared.meaning.Meaning.TheVariants as lines
use Rattle.grs_wire.specs.declared.told.ToldLine.TheVariants as told
use Rattle.task_state.specs.declared.state.Phase.TheVariants as phases

-- Its part is any: of it nothing is read but that the system has one, so that it looks at slices one by one.
abbrev pub any_part : StarPart
any_part = first_part (record { 0 = 0 }) 0

abbrev pub ghosted : NodeState → NodeState
ghosted n = record n { star = Some any_part; outbox = []; shared = [] }

-- What holds of a system of star mode by its tasks.
abbrev pub IsAt : Deck → ℕ → List RunItem → List RunItem → List Req → NodeState → Type 0
IsAt deck s T later out n = Seen deck s T [] later out (ghosted n)

-- ---- less is open, or what is open stands otherwise
asked-front : (t : TaskId) (o : Option Asked) (xs ys : List Req) → IsAskedBy t o (xs ++ ys) → IsAskedBy t o xs
asked-front t o [] ys h = tt
asked-front t o (x ∷ xs) ys h = (h.0, asked-front t o xs ys h.1)

all-front : (p : Req → Bool) (xs ys : List Req) → list_all p (xs ++ ys) ≡ true → list_all p xs ≡ true
all-front p [] ys h = refl
all-front p (x ∷ xs) ys h = grind (arith, h, all-front p xs ys, cases_Bool (p x))

-- the same tasks, where these are open
pub opens-as : (deck : Deck) (s : ℕ) (os os' : Opens) (T : List RunItem) (v : TasksView) → os'.out ≡ os.out
    → ((u : TaskId) (ls : List Meaning) → IsOurs deck s v u ls → mine u os'.later ≡ mine u os.later) →
    ((u : TaskId) (o : Option Asked) → IsAskedBy u o os.all → IsAskedBy u o os'.all) → IsGood deck s os T v
    → IsGood deck s os' T v
opens-as deck s os os' T v same due asked g = record {
  tasks = record {
    each = λ u ls o.
        here-kept deck os os' T v.told v.told u ls (state_of v u) (due u ls o) (asked u (state_of v u).outstanding)
        (λ a. subst (λ qs. are_sent u (state_of v u).phase qs ≡ true) (sym same) a) (λ p leaving y j. j)
        (g.tasks.each u ls o);
  };
  here = g.here;
  system = g.system;
}

-- a system of the ring without its outbox
pub without-box : (deck : Deck) (s : ℕ) (T later : List RunItem) (out : List Req) (n : NodeState)
    → Seen deck s T [] later out n → IsAt deck s T later out n
without-box deck s T later out n k = record {
  good =
      opens-as deck s (opens_of later out n) (opens_of later out (ghosted n)) T n.tasks refl (λ u ls o. refl)
      (λ u o a. subst (IsAskedBy u o) (sym (append-nil out)) (asked-front u o out n.outbox a)) k.good;
  own = k.own;
  shared = refl;
  homes =
      ap (list_all (λ q. is_home_at deck s q.task)) (append-nil out)
      ∙ all-front (λ q. is_home_at deck s q.task) out n.outbox k.homes;
  apart = ap (λ qs. stand_apart (askers qs)) (append-nil out) ∙ apart-front out n.outbox k.apart;
}

-- less is to come that is of no task of the system
pub without-later : (deck : Deck) (s : ℕ) (T later xs : List RunItem) (out : List Req) (n : NodeState)
    → ((u : TaskId) (ls : List Meaning) → IsOurs deck s n.tasks u ls → mine u xs ≡ [])
    → IsAt deck s T (later ++ xs) out n → IsAt deck s T later out n
without-later deck s T later xs out n away k = record {
  good = opens-as deck s (opens_of (later ++ xs) out (ghosted n)) (opens_of later out (ghosted n)) T n.tasks refl
      (λ u ls o.
      sym (filter-append (λ z. is_of u z.fixed) later xs
      ∙ (ap (λ ys. mine u later ++ ys) (away u ls o) ∙ append-nil (mine u later))))
      (λ u o a. a) k.good;
  own = k.own;
  shared = k.shared;
  homes = k.homes;
  apart = k.apart;
}

-- ---- another system's item
-- To system s this item is of others: it leaves the system, which has still to process it if it went with the message.
pub record IsOthers (deck : Deck) (s : ℕ) (T : List RunItem) (x : RunItem) : Type 0 where
  pub seen : (before later : List RunItem) (out : List Req) (n : NodeState) → Seen deck s T before later out n
      → Seen deck s (T ++ x ∷ []) before (later ++ rounds (x ∷ [])) out n
  pub apart : (t : TaskId) → t.system.0 ≡ s → is_of t x.fixed ≡ false
  pub stays : (t : TaskId) → removes_system_of t x.fixed ≡ false

-- a request of another system's task
pub others-ask : (deck : Deck) (s : ℕ) (T : List RunItem) (x : RunItem) (a : IsAsk deck x) → a.req.task.system.0 ≢ s
    → IsOthers deck s T x
others-ask deck s T x a ne = record {
  seen = λ before later out n k. seen-other deck s T before later out n x a k ne;
  apart = λ t home.
      ap (is_of t) a.asked
      ∙ false_by (same_task t a.req.task)
      (λ e. absurd (ne (ap (λ (z : TaskId). z.system.0) (sym (same_task-exact t a.req.task e)) ∙ home)));
  stays = λ t. stays-ask deck t x a;
}

-- what another system fixes for a task of its own
pub others-fix : (deck : Deck) (s u : ℕ) (c : SysId) (T : List RunItem) (f : Fixed) → MayFix deck s c T f → s ≢ u
    → IsOthers deck u T (made_item c T f)
others-fix deck s u c T f may ne = record {
  seen = λ before later out n k. seen-fixed u before later out n k may ne;
  apart = λ t home. false_by (is_of t f) (λ e. absurd (ne (sym (fix-home may t e) ∙ home)));
  stays = λ t. fix-stays may t;
}

pub at-other :
    (deck : Deck) (s : ℕ) (T later : List RunItem) (out : List Req) (n : NodeState) (x : RunItem)
    → IsOthers deck s T x → IsAt deck s T later out n → IsAt deck s (T ++ x ∷ []) later out n
at-other deck s T later out n x others k =
    without-later deck s (T ++ x ∷ []) later (rounds (x ∷ [])) out n
    (λ u ls o. mine-left u [] x (others.apart u o.home)) (others.seen [] later out (ghosted n) k)

-- ---- a task goes on by itself: what it does to the system as it is read is what it does to the system
pub record Shows (a b : Step) : Type 0 where
  pub node : ghosted a.node ≡ ghosted b.node
  pub fixed : a.fixed ≡ b.fixed

shows-post : (k : NodeState) (t : TaskId) (w : Want) (unit : Option ℕ)
    → Shows (post (ghosted k) t w unit) (post k t w unit)
unfolding post
shows-post k t w unit = record { node = refl; fixed = refl }

shows-decide : (k : NodeState) (t : TaskId) (w : Want) (unit : Option ℕ)
    → Shows (decide (ghosted k) t w unit) (decide k t w unit)
unfolding decide
shows-decide k t w unit = record { node = refl; fixed = refl }

shows-ask : (k : NodeState) (t : TaskId) (w : Want) (unit : Option ℕ)
    → Shows (ask (ghosted k) t w unit) (ask k t w unit)
unfolding ask
shows-ask k t w unit = go (is_for_all (res_wanted w))
  where
    go : (b : Bool)
        → Shows (cond b (post (ghosted k) t w unit) (decide (ghosted k) t w unit))
        (cond b (post k t w unit) (decide k t w unit))
    go true = shows-post k t w unit
    go false = shows-decide k t w unit

-- the same of a line that shows lists, at the system's own and at the slices
shows-around : (k : NodeState) (p : StarPart) → k.star ≡ Some p → (t : TaskId) (d : Display) (count : ℕ)
    → ghosted (look_around (ghosted k) t d count) ≡ ghosted (look_around k t d count)
shows-around k p is t d zero = refl
shows-around k p is t d (suc others) = ap (λ o. ghosted (posted k t (looks_asked t d others o))) (sym is)

shows-show : (k : NodeState) (p : StarPart) → k.star ≡ Some p → (t : TaskId) (d : Display)
    → Shows (show (ghosted k) t d) (show k t d)
unfolding show
shows-show k p is t d = go d.home
  where
    go : (home : Option SysId) →
        Shows
        (record {
          node = look_around (look_home (ghosted k) t d home).node t d d.count;
          fixed = (look_home (ghosted k) t d home).fixed;
        })
        (record { node = look_around (look_home k t d home).node t d d.count; fixed = (look_home k t d home).fixed })
    go None = record { node = shows-around k p is t d d.count; fixed = refl }
    go (Some u) = record {
      node = shows-around (with_tasks k (with_rows k.tasks t (look k.own (Local t.system) d.filter))) p is t d d.count;
      fixed = refl;
    }

shows-line : (limit : ℕ) (k : NodeState) (p : StarPart) → k.star ≡ Some p → (t : TaskId) (l : Meaning)
    → Shows (take_line limit (ghosted k) t l) (take_line limit k t l)
unfolding take_line
shows-line limit k p is t (lines.Enq r c ret unit) = shows-ask k t (Enq r c ret (has_most limit k.tasks t)) unit
shows-line limit k p is t (lines.Deq r have) = shows-ask k t (Deq r have) None
shows-line limit k p is t (lines.Wait r) = record { node = refl; fixed = refl }
shows-line limit k p is t (lines.Shows d) = shows-show k p is t d
shows-line limit k p is t lines.Nothing = record { node = refl; fixed = refl }

shows-end : (k : NodeState) (t : TaskId) (code : ℕ) (xs : List Rec)
    → Shows (end_step (ghosted k) t code xs) (end_step k t code xs)
unfolding end_step
shows-end k t code [] = record { node = refl; fixed = refl }
shows-end k t code (x ∷ xs) = shows-ask k t (Release x.res) None

shows-ready : (limit : ℕ) (k : NodeState) (p : StarPart) → k.star ≡ Some p → (t : TaskId) (l : Option Meaning)
    → Shows (ready_step limit (ghosted k) t l) (ready_step limit k t l)
unfolding ready_step
shows-ready limit k p is t None =
    shows-end (with_tasks k (with_phase k.tasks t (phases.Ending 0))) t 0
    (state_of (with_phase k.tasks t (phases.Ending 0)) t).records
shows-ready limit k p is t (Some l) = shows-line limit (with_tasks k (with_line k.tasks t)) p is t l

shows-phase : (limit : ℕ) (k : NodeState) (p : StarPart) → k.star ≡ Some p
    → (t : TaskId) (ls : List Meaning) (ph : Phase)
    → Shows (phase_step limit (ghosted k) t ls ph) (phase_step limit k t ls ph)
unfolding phase_step
shows-phase limit k p is t ls phases.Ready = shows-ready limit k p is t (slice_get ls (state_of k.tasks t).line)
shows-phase limit k p is t ls (phases.Ending c) = shows-end k t c (state_of k.tasks t).records
shows-phase limit k p is t ls phases.ToSend = record { node = refl; fixed = refl }
shows-phase limit k p is t ls phases.Sent = record { node = refl; fixed = refl }
shows-phase limit k p is t ls phases.HeldAnswer = record { node = refl; fixed = refl }
shows-phase limit k p is t ls (phases.HeldLine r) = record { node = refl; fixed = refl }
shows-phase limit k p is t ls phases.Ended = record { node = refl; fixed = refl }

pub shows-task : (limit : ℕ) (k : NodeState) (p : StarPart) → k.star ≡ Some p → (t : TaskId) (o : Option (List Meaning))
    → Shows (task_step limit (ghosted k) t o) (task_step limit k t o)
shows-task limit k p is t None = record { node = refl; fixed = refl }
shows-task limit k p is t (Some ls) = shows-phase limit k p is t ls (state_of k.tasks t).phase

-- ---- what is told agrees, whatever is open
pub told-free : (deck : Deck) (s : ℕ) (opens : List Req) (P : List HistEntry) (T0 T : List ToldLine)
    → ToldBy deck s opens P T0 T → ToldBy deck s [] P T0 T
told-free deck s opens P T0 T none = none
told-free deck s opens P T0 T (more U l h line agrees clears) =
    more U l (told-free deck s opens P T0 U h) line agrees (free l)
  where
    free : (k : ToldLine) → Clears [] k
    free (told.Coded t j part verb code) = refl
    free (told.Shown t j verb code rows) = refl
    free (told.Post t j) = tt
    free (told.Ended t code) = tt
    free (told.Desk j said) = tt

-- ---- What a task's own event comes to.
pub data TaskStep (deck : Deck) (s : ℕ) (c : SysId) (T later : List RunItem) (out : List Req) (n : NodeState)
    (st : Step) :
    Type 0 where
  idles : st.fixed ≡ [] → IsAt deck s T later out st.node → ToldBy deck s [] (history T) n.tasks.told st.node.tasks.told
      → TaskStep deck s c T later out n st
  does : (f : Fixed) → st.fixed ≡ f ∷ [] → goes_round f ≡ false → MayFix deck s c T f
      → IsAt deck s (T ++ made_item c T f ∷ []) later out st.node
      → ToldBy deck s [] (history (T ++ made_item c T f ∷ [])) n.tasks.told st.node.tasks.told
      → TaskStep deck s c T later out n st

-- a system as it is read, once more without its outbox
shown-at : (deck : Deck) (s : ℕ) (T later : List RunItem) (out : List Req) (k m : NodeState) → ghosted k ≡ ghosted m
    → Seen deck s T [] later out k → IsAt deck s T later out m
shown-at deck s T later out k m e h =
    subst (λ (z : NodeState). Seen deck s T [] later out z) e (without-box deck s T later out k h)

shown-told : (k m : NodeState) → ghosted k ≡ ghosted m → k.tasks.told ≡ m.tasks.told
shown-told k m e = ap (λ (z : NodeState). z.tasks.told) e

pub task-goes : (deck : Deck) (s : ℕ) (c : SysId) (T later : List RunItem) (out : List Req) (n : NodeState) (t : TaskId)
    (p : StarPart)
    → n.star ≡ Some p → IsHistory deck T → IsAt deck s T later out n → may_go deck n t ≡ true
    → TaskStep deck s c T later out n (task_step deck.limit n t (lines_of deck t))
unfolding may_go
task-goes deck s c T later out n t p is right k goes =
    by_step (quiet deck s c T [] later out (ghosted n) t right k goes)
  where
    before : Step
    before = task_step deck.limit (ghosted n) t (lines_of deck t)

    after : Step
    after = task_step deck.limit n t (lines_of deck t)

    shows : Shows (task_step deck.limit (ghosted n) t (lines_of deck t)) (task_step deck.limit n t (lines_of deck t))
    shows = shows-task deck.limit n p is t (lines_of deck t)

    by_step : QuietStep deck s c T [] later out (ghosted n) (task_step deck.limit (ghosted n) t (lines_of deck t))
        → TaskStep deck s c T later out n (task_step deck.limit n t (lines_of deck t))
    by_step (keeps none_fixed seen agreed) =
        idles (sym shows.fixed ∙ none_fixed) (shown-at deck s T later out before.node after.node shows.node seen)
        (subst (ToldBy deck s [] (history T) n.tasks.told) (shown-told before.node after.node shows.node)
        (told-free deck s (out ++ before.node.outbox) (history T) n.tasks.told before.node.tasks.told agreed))
    by_step (fixes f one_fixed away may seen agreed) =
        let T' : List RunItem = T ++ made_item c T f ∷ [] in
        does f (sym shows.fixed ∙ one_fixed) away may
        (shown-at deck s T' later out before.node after.node shows.node seen)
        (subst (ToldBy deck s [] (history T') n.tasks.told) (shown-told before.node after.node shows.node)
        (told-free deck s (out ++ before.node.outbox) (history T') n.tasks.told before.node.tasks.told agreed))
