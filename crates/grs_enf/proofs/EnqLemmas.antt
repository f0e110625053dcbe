-- What an ENQ makes of its list, as its code tells.
use Rattle.std.proofs.Common.{◌≡◌, ◌⊎◌, ◌+◌, ◌-◌, ℕ, suc, Bool, true, false, List, [], ◌∷◌, ◌++◌, length, take}
use Rattle.std.proofs.Common.{refl, ap, sym, ◌∙◌, subst, arith, inl, inr, append-nil, length-append}
use Rattle.std.specs.Prelude.{◌&&◌, ◌==◌, nat_lt, map, if◌then◌else◌}
use Rattle.std.proofs.lemmas.Bool.{and_parts, and_from, eqb-true, true≢false}
use Rattle.std.proofs.lemmas.Bool.Decides.{nat_tests}
use Rattle.grs_base.specs.Lists.{is_shared, shared_front, owners, all_shared, can_have, decide_enq, enq_decision, standing_of}
use Rattle.grs_base.specs.State.{State, list_of, after_effect, enq_code, enq_state}
use Rattle.grs_base.specs.declared.decision.Code.{Code}
use Rattle.grs_base.specs.declared.decision.Effect.{Effect}
use Rattle.grs_base.specs.declared.decision.Effect.TheVariants.{Nothing, Append, MakeExclusive}
use Rattle.grs_base.specs.declared.decision.Standing.{Standing}
use Rattle.grs_base.specs.declared.resource.Ctl.{Ctl}
use Rattle.grs_base.specs.declared.resource.Ctl.TheVariants.{E, S}
use Rattle.grs_base.specs.declared.resource.Elem.{Elem}
use Rattle.grs_base.specs.declared.resource.Res.{Res}
use Rattle.grs_base.specs.declared.resource.Ret.{Ret}
use Rattle.grs_base.specs.declared.resource.TaskId.{TaskId}
use Rattle.grs_base.proofs.SameLaws.{same_task-itself}
use Rattle.grs_base.proofs.StateLaws.{list_of-effect}
use Rattle.grs_enf.specs.declared.notice.Notice.{Notice}
use Rattle.grs_enf.specs.declared.notice.What.{What}
use Rattle.grs_enf.specs.Same.{same_ctl, same_elems}
use Rattle.grs_enf.specs.Notices.{is_contended, what_of, notices_at, last_noticed, notices_among}
use Rattle.grs_enf.specs.Notices.{changes_control, is_left_waiting}

-- ---- by the table

waits-append : (st : Standing) (ret : Ret) (full can : Bool)
    → is_left_waiting ret (enq_decision st ret full can).code ≡ true → (enq_decision st ret full can).effect ≡ Append
waits-append st ret full can h = grind arith

append-can : (st : Standing) (ret : Ret) (full can : Bool) → (enq_decision st ret full can).effect ≡ Append
    → is_left_waiting ret (enq_decision st ret full can).code ≡ false → can ≡ true
append-can st ret full can is h = grind arith

exclusive-change : (st : Standing) (ret : Ret) (full can : Bool) → (enq_decision st ret full can).effect ≡ MakeExclusive
    → changes_control ret ≡ true
exclusive-change st ret full can is = grind arith

-- where no element waits, the list stays, or gets an element that has control at once
abbrev Stays : Effect → Bool → Type 0
Stays e can = (e ≡ Nothing) ⊎ ((e ≡ Append) × (can ≡ true))

else-stays : (st : Standing) (ret : Ret) (full can : Bool) → changes_control ret ≡ false
    → is_left_waiting ret (enq_decision st ret full can).code ≡ false → Stays (enq_decision st ret full can).effect can
else-stays st ret full can other h = by (enq_decision st ret full can).effect refl
  where
    by : (e : Effect) → (enq_decision st ret full can).effect ≡ e → Stays e can
    by Nothing is = inl refl
    by Append is = inr (refl, append-can st ret full can is h)
    by MakeExclusive is = absurd (true≢false (sym (exclusive-change st ret full can is) ∙ other))

-- ---- lists

all-owners : (es : List Elem) → all_shared es ≡ true → shared_front es ≡ length es
all-owners [] h = refl
all-owners (e ∷ es) h =
    let both = and_parts (is_shared e.ctl) (all_shared es) h in
    rw both.0 (ap (λ (n : ℕ). suc n) (all-owners es both.1))

less-itself : (n : ℕ) → nat_lt n n ≡ false
less-itself n = grind (arith, nat_tests)

all-uncontended : (es : List Elem) → all_shared es ≡ true → is_contended es ≡ false
all-uncontended [] h = refl
all-uncontended (e ∷ es) h =
    let both = and_parts (is_shared e.ctl) (all_shared es) h in
    rw both.0 (ap (λ (n : ℕ). nat_lt (suc n) (suc (length es))) (all-owners es both.1) ∙ less-itself (suc (length es)))

all-push : (es : List Elem) (e : Elem) → all_shared es ≡ true → is_shared e.ctl ≡ true → all_shared (es ++ e ∷ []) ≡ true
all-push [] e all own = rw own refl
all-push (x ∷ es) e all own =
    let both = and_parts (is_shared x.ctl) (all_shared es) all in
    rw both.0 (all-push es e both.1 own)

none-there : (es : List Elem) → (length es == 0) ≡ true → es ≡ []
none-there [] h = refl
none-there (e ∷ es) h = let none : length (e ∷ es) ≡ 0 = eqb-true _ _ h in absurd (omega (arith, none))

-- who can have control at once finds nobody that waits, and nobody waits then
uncontended : (es : List Elem) (t : TaskId) (c : Ctl) → can_have es c ≡ true
    → (is_contended es ≡ false) × (is_contended (es ++ record { task = t; ctl = c } ∷ []) ≡ false)
uncontended es t E can =
    let none = none-there es can in
    (ap is_contended none, ap (λ (xs : List Elem). is_contended (xs ++ record { task = t; ctl = E } ∷ [])) none)
uncontended es t S can = (
  all-uncontended es can,
  all-uncontended (es ++ record { task = t; ctl = S } ∷ []) (all-push es (record { task = t; ctl = S }) can refl),
)

same-itself : (es : List Elem) → same_elems es es ≡ true
same-itself [] = refl
same-itself (e ∷ es) = and_from _ _ (and_from _ _ (same_task-itself e.task) (ctl e.ctl)) (same-itself es)
  where
    ctl : (c : Ctl) → same_ctl c c ≡ true
    ctl E = refl
    ctl S = refl

-- ---- notices

abbrev tells : Res → List Elem → List What → List Notice
tells r after ws =
    map (λ w. record { what = w; res = r; owners = owners after; waiters = length after - owners after }) ws

same-silent : (r : Res) (es : List Elem) → notices_at r es es ≡ []
same-silent r es =
    ap (λ (b : Bool). tells r es (if b then [] else what_of (is_contended es) (is_contended es))) (same-itself es)

uncontended-silent : (r : Res) (before after : List Elem) → is_contended before ≡ false → is_contended after ≡ false
    → notices_at r before after ≡ []
uncontended-silent r before after was is =
    ap (λ (b : Bool). tells r after (if same_elems before after then [] else what_of b (is_contended after))) was
    ∙ ap (λ (b : Bool). tells r after (if same_elems before after then [] else what_of false b)) is
    ∙ by (same_elems before after)
  where
    by : (b : Bool) → tells r after (if b then [] else what_of false false) ≡ []
    by true = refl
    by false = refl

-- a list without its last element
without-last : (es : List Elem) (e : Elem) → take (length (es ++ e ∷ []) - 1) (es ++ e ∷ []) ≡ es
without-last [] e =
    let none : length (e ∷ []) - 1 ≡ 0 = omega arith in ap (λ (n : ℕ). take n (e ∷ [])) none
without-last (x ∷ es) e =
    let longer = length-append es (e ∷ []) in
    let shorter : length (x ∷ es ++ e ∷ []) - 1 ≡ suc (length (es ++ e ∷ []) - 1) = omega (arith, longer) in
    ap (λ (n : ℕ). take n (x ∷ es ++ e ∷ [])) shorter ∙ ap (λ (xs : List Elem). x ∷ xs) (without-last es e)

-- an ENQ that leaves its element waiting is told of its list without that, which is the last
waits-told : (s : State) (r : Res) (t : TaskId) (c : Ctl) (ret : Ret) (full : Bool)
    → is_left_waiting ret (enq_code s r t c ret full) ≡ true
    → last_noticed r (list_of (enq_state s r t c ret full) r) ≡ notices_among s (enq_state s r t c ret full) (r ∷ [])
waits-told s r t c ret full h =
    let es = list_of s r in
    let after = list_of (enq_state s r t c ret full) r in
    let is : after ≡ es ++ record { task = t; ctl = c } ∷ [] =
    ap (λ (e : Effect). list_of (after_effect s r t c e) r) (waits-append (standing_of es t) ret full (can_have es c) h)
    ∙ list_of-effect s r t c Append in
    ap (λ (xs : List Elem). notices_at r xs after)
    (ap (λ (xs : List Elem). take (length xs - 1) xs) is ∙ without-last es (record { task = t; ctl = c }))
    ∙ sym (append-nil (notices_at r es after))

-- otherwise there is nothing to tell
else-silent : (s : State) (r : Res) (t : TaskId) (c : Ctl) (ret : Ret) (full : Bool)
    → changes_control ret ≡ false
    → is_left_waiting ret (enq_code s r t c ret full) ≡ false
    → [] ≡ notices_among s (enq_state s r t c ret full) (r ∷ [])
else-silent s r t c ret full other h =
    by (else-stays (standing_of (list_of s r) t) ret full (can_have (list_of s r) c) other h)
    ∙ sym (append-nil (notices_at r (list_of s r) (list_of (enq_state s r t c ret full) r)))
  where
    by : Stays (decide_enq (list_of s r) t c ret full).effect (can_have (list_of s r) c)
        → [] ≡ notices_at r (list_of s r) (list_of (enq_state s r t c ret full) r)
    by (inl none) =
        sym (same-silent r (list_of s r))
        ∙ ap (λ (e : Effect). notices_at r (list_of s r) (list_of (after_effect s r t c e) r)) (sym none)
    by (inr last) =
        let both = uncontended (list_of s r) t c last.1 in
        sym (uncontended-silent r (list_of s r) (list_of s r ++ record { task = t; ctl = c } ∷ []) both.0 both.1)
        ∙ ap (notices_at r (list_of s r)) (sym (list_of-effect s r t c Append))
        ∙ ap (λ (e : Effect). notices_at r (list_of s r) (list_of (after_effect s r t c e) r)) (sym last.0)

-- the same by the code that was answered
pub waits-noticed : (s own next : State) (r : Res) (t : TaskId) (c : Ctl) (ret : Ret) (full : Bool) (code : Code)
    (after : List Elem) → own ≡ s → code ≡ enq_code own r t c ret full → next ≡ enq_state own r t c ret full
    → is_left_waiting ret code ≡ true → after ≡ list_of next r
    → last_noticed r after ≡ notices_among s (enq_state s r t c ret full) (r ∷ [])
waits-noticed s own next r t c ret full code after same answer is waits list =
    let told : is_left_waiting ret (enq_code s r t c ret full) ≡ true =
    ap (λ (x : State). is_left_waiting ret (enq_code x r t c ret full)) (sym same)
    ∙ ap (is_left_waiting ret) (sym answer)
    ∙ waits in
    let ends : after ≡ list_of (enq_state s r t c ret full) r =
    list
    ∙ ap (λ (x : State). list_of x r) is
    ∙ ap (λ (x : State). list_of (enq_state x r t c ret full) r) same in
    ap (last_noticed r) ends ∙ waits-told s r t c ret full told

pub else-noticed : (s own : State) (r : Res) (t : TaskId) (c : Ctl) (ret : Ret) (full : Bool) (code : Code) → own ≡ s
    → code ≡ enq_code own r t c ret full → changes_control ret ≡ false → is_left_waiting ret code ≡ false
    → [] ≡ notices_among s (enq_state s r t c ret full) (r ∷ [])
else-noticed s own r t c ret full code same answer other none =
    else-silent s r t c ret full other
    (ap (λ (x : State). is_left_waiting ret (enq_code x r t c ret full)) (sym same)
    ∙ ap (is_left_waiting ret) (sym answer)
    ∙ none)
