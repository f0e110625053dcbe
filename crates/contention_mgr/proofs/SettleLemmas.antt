-- What a request makes of an entry, from what it makes of the lists and of the marks.
use Rattle.std.proofs.Common.{◌≡◌, ℕ, ◌+◌, Bool, true, false, cond, ◌&&◌, List, [], ◌∷◌, ◌++◌, Option, Some, None}
use Rattle.std.proofs.Common.{is_some, refl, ap, sym, ◌∙◌, subst, arith}
use Rattle.std.specs.Prelude.{Result, Ok, Err, OnOk, IfOk}
use Rattle.grs_base.specs.Same.{same_res, same_task}
use Rattle.grs_base.specs.Lists.{decide_enq, deq_code, is_owner, standing_of}
use Rattle.grs_base.specs.State.{State, list_of, without, after_effect, release_state}
use Rattle.grs_base.specs.declared.decision.Effect.{Effect}
use Rattle.grs_base.specs.declared.decision.Effect.TheVariants.{Nothing, Append, MakeExclusive}
use Rattle.grs_base.specs.declared.decision.Standing.{Standing}
use Rattle.grs_base.specs.declared.resource.Ctl.{Ctl}
use Rattle.grs_base.specs.declared.resource.Elem.{Elem}
use Rattle.grs_base.specs.declared.resource.Res.{Res}
use Rattle.grs_base.specs.declared.resource.Ret.{Ret}
use Rattle.grs_base.specs.declared.resource.TaskId.{TaskId}
use Rattle.grs_base.proofs.SameLaws.{same_res-exact, same_task-exact}
use Rattle.grs_base.proofs.StateLaws.{appends_absent}
use Rattle.grs_wire.proofs.WantLaws.{absent-has}
use Rattle.grs_wire.specs.Wants.{answer_to, after_want, new_owners}
use Rattle.grs_wire.specs.declared.request.Answer.{Answer}
use Rattle.grs_wire.specs.declared.request.Answer.TheVariants.{Coded}
use Rattle.grs_wire.specs.declared.request.Want.{Want}
use Rattle.grs_wire.specs.declared.request.Want.TheVariants.{Enq, Deq, Release}
use Rattle.contention_mgr.specs.Manager.{Ranked, Managed, plain, taken_out, with_control, enqueued, given_up, settled}
use Rattle.contention_mgr.specs.Manager.{appends, queues, rank_given}
use Rattle.contention_mgr.specs.Elements.{holds}
use Rattle.contention_mgr.specs.Marks.{ranked_all, entry_of_parts, AreMarked, is_gone}
use Rattle.contention_mgr.specs.declared.marks.Mark.{Mark}
use Rattle.contention_mgr.proofs.ItemLemmas.{Marking, plain-ranked, ranked-same, ranked-push, ranked-exclusive}
use Rattle.contention_mgr.proofs.ItemLemmas.{holds-list, marked-push, marked-exclusive, marked-same}

pub appends-is : (e : Effect) → appends e ≡ true → e ≡ Append
appends-is Nothing h = cc
appends-is Append h = refl
appends-is MakeExclusive h = cc

none_is : (o : Option Mark) → is_some o ≡ false → o ≡ None
none_is None h = refl
none_is (Some m) h = cc

-- a task whose ENQ is queued has no element yet
pub queues-absent : (s : State) (t : TaskId) (r : Res) (c : Ctl) (ret : Ret) (full : Bool)
    → queues s t (Enq r c ret full) ≡ true → holds s r t ≡ false
queues-absent s t r c ret full q =
    holds-list s r t ∙ absent-has (list_of s r) t (appends_absent (list_of s r) t c ret full (appends-is _ q))

-- a mark that is put and taken away again leaves all marks
pub undone : (f g h : Marking) (s : State) (p : Res) (u : TaskId) (k : Mark) → AreMarked f s → holds s p u ≡ false
    → ((r : Res) (t : TaskId) → g r t ≡ cond (same_res p r && same_task u t) (Some k) (f r t))
    → ((r : Res) (t : TaskId) → h r t ≡ cond (same_res p r && same_task u t) None (g r t)) → (r : Res) (t : TaskId)
    → h r t ≡ f r t
undone f g h s p u k are absent put took r t =
    let none : f p u ≡ None = none_is (f p u) (are p u ∙ absent) in
    grind (arith, none, put r t, took r t, same_res-exact p r, same_task-exact u t)

-- what both readings of the lists of an entry decide is one
decided : (f : Marking) (s : State) (r : Res) (t : TaskId) (c : Ctl) (ret : Ret) (full : Bool)
    → (decide_enq (list_of s r) t c ret full).effect
    ≡ (decide_enq (list_of (plain (ranked_all f s)) r) t c ret full).effect
decided f s r t c ret full = ap (λ (l : State). (decide_enq (list_of l r) t c ret full).effect) (sym (plain-ranked f s))

abbrev IsSettled : ℕ → ℕ → ℕ → Marking → Marking → State → State → TaskId → Want → Type 0
IsSettled sys n next f g s after t w =
    (entry_of_parts next after g ≡ settled sys (entry_of_parts n s f) t w) × AreMarked g after

enq-queued_is : (sys n : ℕ) (f g : Marking) (s : State) (t : TaskId) (r : Res) (c : Ctl) (ret : Ret) (full : Bool)
    → queues s t (Enq r c ret full) ≡ true → AreMarked f s
    → ((q : Res) (u : TaskId)
    → g q u ≡ cond (same_res r q && same_task t u) (Some (record { rank = n; untold = false })) (f q u))
    → IsSettled sys n (n + 1) f g s (after_want s t (Enq r c ret full)) t (Enq r c ret full)
enq-queued_is sys n f g s t r c ret full q are change =
    let x : Elem = record { task = t; ctl = c } in
    let e : (decide_enq (list_of s r) t c ret full).effect ≡ Append = appends-is _ q in
    let after : after_want s t (Enq r c ret full) ≡ s ++ (r, x) ∷ [] = ap (after_effect s r t c) e in
    let items : ranked_all g (s ++ (r, x) ∷ [])
    ≡ ranked_all f s ++ record { res = r; elem = x; rank = n; untold = false } ∷ [] =
    ranked-push f g r x (record { rank = n; untold = false }) change s (queues-absent s t r c ret full q) in (
      ap (λ (l : State). entry_of_parts (n + 1) l g) after
          ∙ ap (λ (l : List Ranked). record { next = n + 1; items = l }) items
          ∙ ap (enqueued (entry_of_parts n s f) r t c) (sym e ∙ decided f s r t c ret full),
      subst (AreMarked g) (sym after) (marked-push f g r x (record { rank = n; untold = false }) change s are),
    )

-- an ENQ that puts an element into a list
pub enq-queued :
    (sys n : ℕ) (f g : Marking) (s after : State) (t : TaskId) (w : Want) (r : Res) (c : Ctl) (ret : Ret) (full : Bool)
    → w ≡ Enq r c ret full → queues s t w ≡ true → AreMarked f s
    → ((q : Res) (u : TaskId)
    → g q u ≡ cond (same_res r q && same_task t u) (Some (record { rank = n; untold = false })) (f q u))
    → after ≡ after_want s t w → IsSettled sys n (n + 1) f g s after t w
enq-queued sys n f g s after t w r c ret full is q are change behind =
    subst (λ (l : State). IsSettled sys n (n + 1) f g s l t w) (sym behind)
    (subst (λ (v : Want). queues s t v ≡ true → IsSettled sys n (n + 1) f g s (after_want s t v) t v) (sym is)
    (λ h. enq-queued_is sys n f g s t r c ret full h are change) q)

-- one for which there is no memory
pub enq-refused :
    (n : ℕ) (f g h : Marking) (s after : State) (t : TaskId) (w : Want) (r : Res) (c : Ctl) (ret : Ret) (full : Bool)
    (k : Mark)
    → w ≡ Enq r c ret full → queues s t w ≡ true → AreMarked f s
    → ((q : Res) (u : TaskId) → g q u ≡ cond (same_res r q && same_task t u) (Some k) (f q u))
    → ((q : Res) (u : TaskId) → h q u ≡ cond (same_res r q && same_task t u) None (g q u)) → after ≡ s
    → (entry_of_parts n after h ≡ entry_of_parts n s f) × AreMarked h after
enq-refused n f g h s after t w r c ret full k is q are put took stays =
    let queued : queues s t (Enq r c ret full) ≡ true = subst (λ (v : Want). queues s t v ≡ true) is q in
    let same = undone f g h s r t k are (queues-absent s t r c ret full queued) put took in (
      ap (λ (l : State). entry_of_parts n l h) stays
          ∙ ap (λ (l : List Ranked). record { next = n; items = l }) (ranked-same f h same s),
      subst (AreMarked h) (sym stays) (marked-same f h same s are),
    )

-- one that puts none in
by_effect : (sys n : ℕ) (f : Marking) (s : State) (t : TaskId) (r : Res) (c : Ctl) (e : Effect) → appends e ≡ false
    → AreMarked f s
    → (entry_of_parts n (after_effect s r t c e) f ≡ enqueued (entry_of_parts n s f) r t c e)
    × AreMarked f (after_effect s r t c e)
by_effect sys n f s t r c Nothing h are = (refl, are)
by_effect sys n f s t r c Append h are = cc
by_effect sys n f s t r c MakeExclusive h are = (
  ap (λ (l : List Ranked). record { next = n; items = l }) (ranked-exclusive f r t s),
  marked-exclusive f s r t are,
)

enq-kept_is : (sys n : ℕ) (f : Marking) (s : State) (t : TaskId) (r : Res) (c : Ctl) (ret : Ret) (full : Bool)
    → queues s t (Enq r c ret full) ≡ false → AreMarked f s
    → IsSettled sys n n f f s (after_want s t (Enq r c ret full)) t (Enq r c ret full)
enq-kept_is sys n f s t r c ret full q are =
    let both = by_effect sys n f s t r c (decide_enq (list_of s r) t c ret full).effect q are in
    (both.0 ∙ ap (enqueued (entry_of_parts n s f) r t c) (decided f s r t c ret full), both.1)

pub enq-kept :
    (sys n : ℕ) (f : Marking) (s after : State) (t : TaskId) (w : Want) (r : Res) (c : Ctl) (ret : Ret) (full : Bool)
    → w ≡ Enq r c ret full → queues s t w ≡ false → AreMarked f s → after ≡ after_want s t w
    → IsSettled sys n n f f s after t w
enq-kept sys n f s after t w r c ret full is q are behind =
    subst (λ (l : State). IsSettled sys n n f f s l t w) (sym behind)
    (subst (λ (v : Want). queues s t v ≡ false → IsSettled sys n n f f s (after_want s t v) t v) (sym is)
    (λ h. enq-kept_is sys n f s t r c ret full h are) q)

-- a DEQ is answered 00 exactly where the task owned
pub gone-code : (st : Standing) (have : Bool) → is_gone (Coded (deq_code st have)) ≡ is_owner st
gone-code st have = grind arith

owner_of : (f : Marking) (s : State) (r : Res) (t : TaskId)
    → is_owner (standing_of (list_of s r) t) ≡ is_owner (standing_of (list_of (plain (ranked_all f s)) r) t)
owner_of f s r t = ap (λ (l : State). is_owner (standing_of (list_of l r) t)) (sym (plain-ranked f s))

owners_of : (f : Marking) (s : State) (t : TaskId) (w : Want)
    → new_owners s t w ≡ new_owners (plain (ranked_all f s)) t w
owners_of f s t w = ap (λ (l : State). new_owners l t w) (sym (plain-ranked f s))

abbrev GivesUp : ℕ → Marking → Marking → State → TaskId → Res → List TaskId → Type 0
GivesUp sys f g s t r owners =
    (ranked_all g (release_state s r t) ≡ with_control sys r owners (taken_out r t (ranked_all f s)))
    × AreMarked g (release_state s r t)

deq-given_is : (sys n : ℕ) (f g : Marking) (s : State) (t : TaskId) (r : Res) (have : Bool)
    → is_owner (standing_of (list_of s r) t) ≡ true → GivesUp sys f g s t r (new_owners s t (Deq r have))
    → IsSettled sys n n f g s (after_want s t (Deq r have)) t (Deq r have)
deq-given_is sys n f g s t r have own gives =
    let w : Want = Deq r have in
    let m : Managed = entry_of_parts n s f in
    let after : after_want s t w ≡ release_state s r t = ap (λ (b : Bool). cond b (without same_res s r t) s) own in (
      ap (λ (l : State). entry_of_parts n l g) after
          ∙ ap (λ (l : List Ranked). record { next = n; items = l }) gives.0
          ∙ ap (given_up sys m r t) (owners_of f s t w)
          ∙ ap (λ (b : Bool). cond b (given_up sys m r t (new_owners (plain m.items) t w)) m)
          (sym own ∙ owner_of f s r t),
      subst (AreMarked g) (sym after) gives.1,
    )

-- a DEQ by an owner
pub deq-given :
    (sys n : ℕ) (f g : Marking) (s after : State) (t : TaskId) (w : Want) (r : Res) (have : Bool) (owners : List TaskId)
    → w ≡ Deq r have → is_owner (standing_of (list_of s r) t) ≡ true → owners ≡ new_owners s t w
    → GivesUp sys f g s t r owners → after ≡ after_want s t w → IsSettled sys n n f g s after t w
deq-given sys n f g s after t w r have owners is own who gives behind =
    subst (λ (l : State). IsSettled sys n n f g s l t w) (sym behind)
    (subst (λ (v : Want). GivesUp sys f g s t r (new_owners s t v) → IsSettled sys n n f g s (after_want s t v) t v)
    (sym is) (deq-given_is sys n f g s t r have own)
    (subst (GivesUp sys f g s t r) who gives))

deq-kept_is : (sys n : ℕ) (f : Marking) (s : State) (t : TaskId) (r : Res) (have : Bool)
    → is_owner (standing_of (list_of s r) t) ≡ false → AreMarked f s
    → IsSettled sys n n f f s (after_want s t (Deq r have)) t (Deq r have)
deq-kept_is sys n f s t r have own are =
    let w : Want = Deq r have in
    let m : Managed = entry_of_parts n s f in
    let after : after_want s t w ≡ s = ap (λ (b : Bool). cond b (without same_res s r t) s) own in (
      ap (λ (l : State). entry_of_parts n l f) after
          ∙ ap (λ (b : Bool). cond b (given_up sys m r t (new_owners (plain m.items) t w)) m)
          (sym own ∙ owner_of f s r t),
      subst (AreMarked f) (sym after) are,
    )

-- a DEQ by a task that doesn't own
pub deq-kept : (sys n : ℕ) (f : Marking) (s after : State) (t : TaskId) (w : Want) (r : Res) (have : Bool)
    → w ≡ Deq r have → is_owner (standing_of (list_of s r) t) ≡ false → AreMarked f s → after ≡ after_want s t w
    → IsSettled sys n n f f s after t w
deq-kept sys n f s after t w r have is own are behind =
    subst (λ (l : State). IsSettled sys n n f f s l t w) (sym behind)
    (subst (λ (v : Want). IsSettled sys n n f f s (after_want s t v) t v) (sym is)
    (deq-kept_is sys n f s t r have own are))

release-given_is : (sys n : ℕ) (f g : Marking) (s : State) (t : TaskId) (r : Res)
    → GivesUp sys f g s t r (new_owners s t (Release r))
    → IsSettled sys n n f g s (after_want s t (Release r)) t (Release r)
release-given_is sys n f g s t r gives = (
  ap (λ (l : List Ranked). record { next = n; items = l }) gives.0
      ∙ ap (given_up sys (entry_of_parts n s f) r t) (owners_of f s t (Release r)),
  gives.1,
)

-- a RELEASE
pub release-given :
    (sys n : ℕ) (f g : Marking) (s after : State) (t : TaskId) (w : Want) (r : Res) (owners : List TaskId)
    → w ≡ Release r → owners ≡ new_owners s t w → GivesUp sys f g s t r owners → after ≡ after_want s t w
    → IsSettled sys n n f g s after t w
release-given sys n f g s after t w r owners is who gives behind =
    subst (λ (l : State). IsSettled sys n n f g s l t w) (sym behind)
    (subst (λ (v : Want). GivesUp sys f g s t r (new_owners s t v) → IsSettled sys n n f g s (after_want s t v) t v)
    (sym is) (release-given_is sys n f g s t r)
    (subst (GivesUp sys f g s t r) who gives))

-- what is read of the parts of an entry is read of the entry
pub answer-of : (n : ℕ) (s : State) (f : Marking) (m : Managed) (t : TaskId) (w : Want) → entry_of_parts n s f ≡ m
    → answer_to s t w ≡ answer_to (plain m.items) t w
answer-of n s f m t w is =
    ap (λ (l : State). answer_to l t w) (sym (plain-ranked f s))
    ∙ ap (λ (k : Managed). answer_to (plain k.items) t w) is

pub owners-of : (n : ℕ) (s : State) (f : Marking) (m : Managed) (t : TaskId) (w : Want) → entry_of_parts n s f ≡ m
    → new_owners s t w ≡ new_owners (plain m.items) t w
owners-of n s f m t w is = owners_of f s t w ∙ ap (λ (k : Managed). new_owners (plain k.items) t w) is

queues-of : (n : ℕ) (s : State) (f : Marking) (m : Managed) (t : TaskId) (w : Want) → entry_of_parts n s f ≡ m
    → queues s t w ≡ queues (plain m.items) t w
queues-of n s f m t w is =
    ap (λ (l : State). queues l t w) (sym (plain-ranked f s)) ∙ ap (λ (k : Managed). queues (plain k.items) t w) is

pub rank-of : (n : ℕ) (s : State) (f : Marking) (m : Managed) (t : TaskId) (w : Want) → entry_of_parts n s f ≡ m
    → queues s t w ≡ true → n ≡ rank_given m t w
rank-of n s f m t w is q =
    ap (λ (k : Managed). k.next) is ∙ sym (ap (λ (b : Bool). cond b m.next 0) (sym (queues-of n s f m t w is) ∙ q))

pub rank-none : (n : ℕ) (s : State) (f : Marking) (m : Managed) (t : TaskId) (w : Want) → entry_of_parts n s f ≡ m
    → queues s t w ≡ false → 0 ≡ rank_given m t w
rank-none n s f m t w is q = sym (ap (λ (b : Bool). cond b m.next 0) (sym (queues-of n s f m t w is) ∙ q))

-- a fact under an outcome follows from another under the same
pub on_ok : {A B P Q : Type 0} (r : Result A B) → (P → Q) → OnOk r P → OnOk r Q
on_ok (Ok x) f p = f p
on_ok (Err e) f p = p

pub if_ok : {A B : Type 0} {P Q : A → Type 0} (r : Result A B) → ((x : A) → P x → Q x) → IfOk r P → IfOk r Q
if_ok (Ok x) f p = f x p
if_ok (Err e) f p = p

-- by the answer to a DEQ, whether its task owned
pub owner-by : (s : State) (t : TaskId) (w : Want) (r : Res) (have : Bool) (given : Answer) (b : Bool) → w ≡ Deq r have
    → given ≡ answer_to s t w → is_gone given ≡ b → is_owner (standing_of (list_of s r) t) ≡ b
owner-by s t w r have given b is answer gone =
    sym (gone-code (standing_of (list_of s r) t) have) ∙ sym (ap is_gone (answer ∙ ap (answer_to s t) is)) ∙ gone
