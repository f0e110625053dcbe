-- Elements with their marks: what a change of the lists and of the marks makes of both together.
use Rattle.std.proofs.Common.{◌≡◌, ℕ, Bool, true, false, cond, not, ◌&&◌, ◌||◌, List, [], ◌∷◌, ◌++◌, length, Option}
use Rattle.std.proofs.Common.{Some, None, is_some, refl, ap, sym, ◌∙◌, arith}
use Rattle.std.specs.List.{list_all}
use Rattle.std.specs.Prelude.{◌==◌}
use Rattle.std.proofs.lemmas.Bool.{ne_eqb}
use Rattle.grs_base.specs.Same.{same_res, same_task}
use Rattle.grs_base.specs.Lists.{has_task}
use Rattle.grs_base.specs.State.{State, list_of, is_at, without, with_exclusive}
use Rattle.grs_base.specs.declared.resource.Elem.{Elem}
use Rattle.grs_base.specs.declared.resource.Res.{Res}
use Rattle.grs_base.specs.declared.resource.TaskId.{TaskId}
use Rattle.grs_base.proofs.SameLaws.{same_res-exact, same_res-itself, same_task-exact, same_task-itself}
use Rattle.contention_mgr.specs.Manager.{Ranked, plain, made_exclusive, taken_out, with_mark, with_control}
use Rattle.contention_mgr.specs.Elements.{holds}
use Rattle.contention_mgr.specs.Marks.{with_told, rank_in, untold_in, ranked_all, AreMarked}
use Rattle.contention_mgr.specs.declared.marks.Mark.{Mark}

abbrev pub Marking : Type 0
Marking = Res → TaskId → Option Mark

-- the plain lists are those beside which the marks stand
pub plain-ranked : (f : Marking) (s : State) → plain (ranked_all f s) ≡ s
plain-ranked f [] = refl
plain-ranked f (h ∷ hs) = ap (λ (l : State). h ∷ l) (plain-ranked f hs)

pub ranked-same : (f g : Marking) → ((r : Res) (t : TaskId) → g r t ≡ f r t) → (s : State)
    → ranked_all g s ≡ ranked_all f s
ranked-same f g same s = ap (λ (k : Marking). ranked_all k s) (λ i r t. same r t i)

-- ---- who has an element
pub holds-list : (s : State) (r : Res) (t : TaskId) → holds s r t ≡ has_task (list_of s r) t
holds-list [] r t = refl
holds-list (h ∷ hs) r t = grind (arith, holds-list hs r t)

pub holds-push : (s : State) (p : Res) (e : Elem) (r : Res) (t : TaskId)
    → holds (s ++ (p, e) ∷ []) r t ≡ (holds s r t || is_at same_res r t (p, e))
holds-push [] p e r t = grind arith
holds-push (h ∷ hs) p e r t = grind (arith, holds-push hs p e r t)

-- the test of an element, from either side
pub same_place : (p r : Res) (t u : TaskId) → (same_res r p && same_task u t) ≡ (same_res p r && same_task t u)
same_place p r t u =
    grind (
      arith,
      same_res-exact p r,
      same_res-exact r p,
      same_res-itself p,
      same_task-exact t u,
      same_task-exact u t,
      same_task-itself t,
    )

pub holds-without : (s : State) (p : Res) (u : TaskId) (r : Res) (t : TaskId)
    → holds (without same_res s p u) r t ≡ (not (same_res p r && same_task u t) && holds s r t)
holds-without [] p u r t = grind arith
holds-without (h ∷ hs) p u r t =
    grind (
      arith,
      holds-without hs p u r t,
      same_res-exact p h.0,
      same_res-exact r h.0,
      same_res-exact p r,
      same_res-itself p,
      same_task-exact u h.1.task,
      same_task-exact t h.1.task,
      same_task-exact u t,
      same_task-itself u,
    )

pub holds-exclusive : (s : State) (p : Res) (u : TaskId) (r : Res) (t : TaskId)
    → holds (with_exclusive same_res s p u) r t ≡ holds s r t
holds-exclusive [] p u r t = refl
holds-exclusive (h ∷ hs) p u r t = grind (arith, holds-exclusive hs p u r t)

-- ---- elements that change

-- a new element, with its mark
pub ranked-push : (f g : Marking) (p : Res) (e : Elem) (k : Mark)
    → ((r : Res) (t : TaskId) → g r t ≡ cond (same_res p r && same_task e.task t) (Some k) (f r t))
    → (s : State) → holds s p e.task ≡ false
    → ranked_all g (s ++ (p, e) ∷ [])
    ≡ ranked_all f s ++ record { res = p; elem = e; rank = k.rank; untold = k.untold } ∷ []
ranked-push f g p e k change [] absent = grind (arith, change p e.task, same_res-itself p, same_task-itself e.task)
ranked-push f g p e k change (h ∷ hs) absent =
    grind (arith, absent, change h.0 h.1.task, ranked-push f g p e k change hs)

pub ranked-exclusive : (f : Marking) (p : Res) (u : TaskId) (s : State)
    → ranked_all f (with_exclusive same_res s p u) ≡ made_exclusive p u (ranked_all f s)
ranked-exclusive f p u [] = refl
ranked-exclusive f p u (h ∷ hs) = grind (arith, ranked-exclusive f p u hs)

pub ranked-without : (f g : Marking) (p : Res) (u : TaskId)
    → ((r : Res) (t : TaskId) → g r t ≡ cond (same_res p r && same_task u t) None (f r t))
    → (s : State) → ranked_all g (without same_res s p u) ≡ taken_out p u (ranked_all f s)
ranked-without f g p u change [] = refl
ranked-without f g p u change (h ∷ hs) = grind (arith, change h.0 h.1.task, ranked-without f g p u change hs)

-- each element has a mark
abbrev pub all_marked : Marking → State → Bool
all_marked f s = list_all (λ h. is_some (f h.0 h.1.task)) s

marked-all : (f : Marking) (s : State) → ((r : Res) (t : TaskId) → holds s r t ≡ true → is_some (f r t) ≡ true)
    → all_marked f s ≡ true
marked-all f [] has = refl
marked-all f (h ∷ hs) has =
    let here : is_some (f h.0 h.1.task) ≡ true =
    has h.0 h.1.task (grind (arith, same_res-itself h.0, same_task-itself h.1.task)) in
    let there : all_marked f hs ≡ true = marked-all f hs (λ r t a. has r t (grind (arith, a))) in
    grind (arith, here, there)

pub all_marked-are : (f : Marking) (s : State) → AreMarked f s → all_marked f s ≡ true
all_marked-are f s are = marked-all f s (λ r t h. are r t ∙ h)

with_told-some : (b : Bool) (o : Option Mark) → is_some o ≡ true
    → (rank_in (with_told b o) ≡ rank_in o) × (untold_in (with_told b o) ≡ b)
with_told-some b None h = cc
with_told-some b (Some m) h = (refl, refl)

-- an element's task is told or untold
pub ranked-marked : (f g : Marking) (p : Res) (u : TaskId) (b : Bool)
    → ((r : Res) (t : TaskId) → g r t ≡ cond (same_res p r && same_task u t) (with_told b (f r t)) (f r t))
    → (s : State) → all_marked f s ≡ true → ranked_all g s ≡ with_mark b p u (ranked_all f s)
ranked-marked f g p u b change [] all = refl
ranked-marked f g p u b change (h ∷ hs) all =
    grind (arith, all, change h.0 h.1.task, with_told-some b (f h.0 h.1.task), ranked-marked f g p u b change hs)

-- ---- marks and elements go together
pub marked-push : (f g : Marking) (p : Res) (e : Elem) (k : Mark)
    → ((r : Res) (t : TaskId) → g r t ≡ cond (same_res p r && same_task e.task t) (Some k) (f r t))
    → (s : State) → AreMarked f s → AreMarked g (s ++ (p, e) ∷ [])
marked-push f g p e k change s are r t =
    grind (arith, change r t, are r t, holds-push s p e r t, same_place p r e.task t)

pub marked-without : (f g : Marking) (p : Res) (u : TaskId)
    → ((r : Res) (t : TaskId) → g r t ≡ cond (same_res p r && same_task u t) None (f r t))
    → (s : State) → AreMarked f s → AreMarked g (without same_res s p u)
marked-without f g p u change s are r t = grind (arith, change r t, are r t, holds-without s p u r t)

pub marked-exclusive : (f : Marking) (s : State) (p : Res) (u : TaskId) → AreMarked f s
    → AreMarked f (with_exclusive same_res s p u)
marked-exclusive f s p u are r t = are r t ∙ sym (holds-exclusive s p u r t)

with_told-is : (b : Bool) (o : Option Mark) → is_some (with_told b o) ≡ is_some o
with_told-is b None = refl
with_told-is b (Some m) = refl

pub marked-set : (f g : Marking) (p : Res) (u : TaskId) (b : Bool)
    → ((r : Res) (t : TaskId) → g r t ≡ cond (same_res p r && same_task u t) (with_told b (f r t)) (f r t))
    → (s : State) → AreMarked f s → AreMarked g s
marked-set f g p u b change s are r t = grind (arith, change r t, are r t, with_told-is b (f r t))

pub marked-same : (f g : Marking) → ((r : Res) (t : TaskId) → g r t ≡ f r t) → (s : State) → AreMarked f s
    → AreMarked g s
marked-same f g same s are r t = ap is_some (same r t) ∙ are r t

-- a task of another system that got control
pub control-other : (f g : Marking) (p : Res) (u : TaskId)
    → ((r : Res) (t : TaskId) → g r t ≡ cond (same_res p r && same_task u t) (with_told true (f r t)) (f r t))
    → (a b : ℕ) → (a ≡ b → ⊥)
    → (s : State) → AreMarked f s
    → (ranked_all g s ≡ cond (not (a == b)) (with_mark true p u (ranked_all f s)) (ranked_all f s)) × AreMarked g s
control-other f g p u change a b apart s are = (
  ranked-marked f g p u true change s (all_marked-are f s are)
      ∙ ap (λ (t : Bool). cond (not t) (with_mark true p u (ranked_all f s)) (ranked_all f s))
      (sym (ne_eqb a b apart)),
  marked-set f g p u true change s are,
)

-- one task more of those that got control
pub control-more : (sys : ℕ) (p : Res) (f g : Marking) (ts us : List TaskId) (t : TaskId) (s : State) (zs : List Ranked)
    → ts ≡ t ∷ us → with_control sys p ts (ranked_all f s) ≡ zs
    → ranked_all g s ≡ cond (not (sys == t.system.0)) (with_mark true p t (ranked_all f s)) (ranked_all f s)
    → with_control sys p us (ranked_all g s) ≡ zs
control-more sys p f g ts us t s zs is so step =
    ap (with_control sys p us) step ∙ ap (λ (l : List TaskId). with_control sys p l (ranked_all f s)) (sym is) ∙ so

pub control-none : (sys : ℕ) (p : Res) (ts : List TaskId) (xs zs : List Ranked) → length ts ≡ 0
    → with_control sys p ts xs ≡ zs → xs ≡ zs
control-none sys p [] xs zs none so = so
control-none sys p (t ∷ ts) xs zs none so = absurd (omega (arith, none))
