-- Tasks that wait for one another stay so, whatever comes but a removal.
use Rattle.std.proofs.Common.{◌≡◌, ℕ, Bool, true, false, cond, not, ◌&&◌, ◌||◌, List, [], ◌∷◌, ◌++◌, take, drop}
use Rattle.std.proofs.Common.{refl, ap, sym, subst, ◌∙◌, arith, Option, Some, None, IsSomeAnd, ◌⊎◌, inl, inr, length, IfSome}
use Rattle.std.proofs.Common.{append_assoc}
use Rattle.std.proofs.Common.{append-nil as append_nil}
use Rattle.std.specs.Prelude.{filter, ◌==◌, is_some}
use Rattle.std.specs.List.{list_any, list_all}
use Rattle.grs_base.specs.Same.{same_task, same_res}
use Rattle.grs_base.specs.Lists.{owners, shared_front, owns, owns_shared, has_task, is_apart, list_exclusive, list_without}
use Rattle.grs_base.specs.Lists.{list_after, is_owner, standing_of, decide_enq}
use Rattle.grs_base.specs.State.{State, list_of, is_full}
use Rattle.grs_base.specs.declared.decision.Code.TheVariants.{Wait}
use Rattle.grs_base.specs.declared.decision.Effect.{Effect}
use Rattle.grs_base.specs.declared.decision.Effect.TheVariants.{Nothing, Append, MakeExclusive}
use Rattle.grs_base.specs.declared.resource.Ctl.{Ctl}
use Rattle.grs_base.specs.declared.resource.Ctl.TheVariants.{E, S}
use Rattle.grs_base.specs.declared.resource.Elem.{Elem}
use Rattle.grs_base.specs.declared.resource.Res.{Res}
use Rattle.grs_base.specs.declared.resource.TaskId.{TaskId}
use Rattle.grs_base.proofs.SameLaws.{same_task-exact, same_task-itself, same_res-exact}
use Rattle.grs_wire.specs.History.{is_by, removes, step, replay}
use Rattle.grs_wire.specs.Laws.{may_change, list_stepped, concerns}
use Rattle.grs_wire.specs.declared.deck.Deck.{Deck}
use Rattle.grs_wire.specs.declared.history.HistEntry.{HistEntry}
use Rattle.grs_wire.specs.declared.history.HistEntry.TheVariants.{Enq, Deq, Release, Look, Remove}
use Rattle.grs_wire.proofs.HistoryLaws.{keeps_other_lists, steps_by_lists, none_twice, replay_from-append}
use Rattle.grs_legal.specs.Asks.{lines_of}
use Rattle.grs_legal.specs.Legal.{entries_of, last_entry, line_entries, is_of_line, end_among, passed_lines, passed_behind}
use Rattle.grs_legal.specs.Legal.{lets_pass, IsLegal, MayStand, LegalFrom, HasControl}
use Rattle.grs_legal.specs.declared.meaning.Meaning.{Meaning}
use Rattle.grs_legal.specs.declared.meaning.Meaning.TheVariants as lines
use Rattle.grs_analyze.specs.declared.front.Front.{Front}
use Rattle.grs_analyze.specs.Depends.{is_kept_by, waits_for}
use Rattle.grs_analyze.specs.Greatest.{is_among}
use Rattle.grs_analyze.specs.Numbered.{no_front, front_of, front_with, is_away, is_kept_behind}
use Rattle.grs_analyze.specs.Deadlocks.{WasLeftWaiting, is_wait_for, IsHeldFor, IsStuck, IsDeadlock, removes_some, DeadlocksStay}
use Rattle.grs_analyze.proofs.DependLemmas.{kept-front, front-more}

-- ---- small facts
turned : (a b : TaskId) → same_task a b ≡ same_task b a
turned a b = grind (arith, same_task-exact a b, same_task-exact b a, same_task-itself a, same_task-itself b)

turned_number : (a b : ℕ) → (a == b) ≡ (b == a)
turned_number a b = grind arith

is_none : (b : Bool) → (b ≡ true → ⊥) → b ≡ false
is_none true never = absurd (never refl)
is_none false never = refl

not-any : (us : List TaskId) (t : TaskId) (f : TaskId → Bool) → list_any f us ≡ false → is_among us t ≡ true
    → f t ≡ false
not-any [] t f none member = cc
not-any (x ∷ xs) t f none member =
    by (same_task t x) refl (λ among. not-any xs t f (grind (arith, none)) among)
  where
    by : (b : Bool) → same_task t x ≡ b → (is_among xs t ≡ true → f t ≡ false) → f t ≡ false
    by true same later = ap f (same_task-exact t x same) ∙ grind (arith, none)
    by false same later = later (grind (arith, member, same))

clash : true ≡ false → ⊥
clash h = cc

or_false : (b : Bool) → (b || false) ≡ b
or_false true = refl
or_false false = refl

or_more : (a b c : Bool) → (b ≡ true → c ≡ true) → (a || b) ≡ true → (a || c) ≡ true
or_more true b c more h = refl
or_more false b c more h = more h

or_second : (a x b : Bool) → x ≡ false → ((a && x) || b) ≡ true → b ≡ true
or_second a x b none h = grind (arith, none, h)

or_rest : (a b : Bool) → a ≡ false → (a || b) ≡ true → b ≡ true
or_rest a b none h = grind (arith, none, h)

none-away : (c : Ctl) → is_away no_front c ≡ false
none-away E = refl
none-away S = refl

-- an element that doesn't count
front-none : (f : Front) (c : Ctl) → front_with f c false ≡ f
front-none f c = λ i. record { any = or_false f.any i; exclusive = or_false f.exclusive i }

shared-front : (f : Front) (b : Bool) → f.exclusive ≡ false → (front_with f S b).exclusive ≡ false
shared-front f b none = grind (arith, none)

not_here : (a x b : Bool) → x ≡ false → ((a && x) || b) ≡ b
not_here a x b none = grind (arith, none)

-- ---- who is kept away, told of a list without its parts

-- what counts of elements in front, with more behind them
abbrev front_past : (TaskId → Bool) → Front → List Elem → Front
front_past p f [] = f
front_past p f (e ∷ es) = front_past p (front_with f e.ctl (p e.task)) es

-- sharers behind sharers are kept away by none of these
past-sharers : (p : TaskId → Bool) (t : TaskId) (f : Front) (es : List Elem) → f.exclusive ≡ false
    → is_kept_behind p t f es
    ≡ is_kept_behind p t (front_past p f (take (shared_front es) es)) (drop (shared_front es) es)
past-sharers p t f [] none = refl
past-sharers p t f (e ∷ es) none =
    by e.ctl refl (past-sharers p t (front_with f S (p e.task)) es (shared-front f (p e.task) none))
  where
    by : (c : Ctl) → e.ctl ≡ c
        → is_kept_behind p t (front_with f S (p e.task)) es
        ≡ is_kept_behind p t (front_past p (front_with f S (p e.task)) (take (shared_front es) es))
        (drop (shared_front es) es)
        → is_kept_behind p t f (e ∷ es)
        ≡ is_kept_behind p t (front_past p f (take (shared_front (e ∷ es)) (e ∷ es)))
        (drop (shared_front (e ∷ es)) (e ∷ es))
    by E is rest = rw is refl
    by S is rest =
        rw is (not_here (same_task t e.task) f.exclusive (is_kept_behind p t (front_with f S (p e.task)) es) none ∙ rest)

front-past : (p : TaskId → Bool) (fs es : List Elem) → front_past p (front_of p fs) es ≡ front_of p (fs ++ es)
front-past p fs [] = ap (front_of p) (sym (append_nil fs))
front-past p fs (e ∷ es) =
    ap (λ (f : Front). front_past p f es) (front-more p fs e) ∙ front-past p (fs ++ e ∷ []) es
    ∙ ap (front_of p) (append_assoc fs (e ∷ []) es)

-- so who waits in a list is kept away by those before it, owners or not
waits-whole : (p : TaskId → Bool) (t : TaskId) (es : List Elem) → waits_for p t es ≡ is_kept_behind p t no_front es
waits-whole p t [] = refl
waits-whole p t (e ∷ es) = by e.ctl refl
  where
    parted : (k : ℕ) → is_kept_by p t (take k (e ∷ es)) (drop k (e ∷ es))
        ≡ is_kept_behind p t (front_past p no_front (take k (e ∷ es))) (drop k (e ∷ es))
    parted k =
        sym (kept-front p t (take k (e ∷ es)) (drop k (e ∷ es)))
        ∙ ap (λ (f : Front). is_kept_behind p t f (drop k (e ∷ es))) (sym (front-past p [] (take k (e ∷ es))))

    by : (c : Ctl) → e.ctl ≡ c → waits_for p t (e ∷ es) ≡ is_kept_behind p t no_front (e ∷ es)
    by E is = parted (owners (e ∷ es)) ∙ rw is (grind arith)
    by S is =
        parted (owners (e ∷ es))
        ∙ sym (past-sharers p t no_front (e ∷ es) refl ∙ ap (λ (k : ℕ). is_kept_behind p t (front_past p no_front (take k (e ∷ es))) (drop k (e ∷ es))) (rw is refl))

-- ---- the lists of others change
module _ (p : TaskId → Bool) (t : TaskId) (member : p t ≡ true) where
  -- elements of members stay
  kept-filter : (q : Elem → Bool) → ((e : Elem) → p e.task ≡ true → q e ≡ true) → (f : Front) (es : List Elem)
      → is_kept_behind p t f (filter q es) ≡ is_kept_behind p t f es
  kept-filter q all f [] = refl
  kept-filter q all f (e ∷ es) =
      by (q e) refl (kept-filter q all (front_with f e.ctl (p e.task)) es) (kept-filter q all f es)
    where
      away : q e ≡ false → p e.task ≡ false
      away gone = is_none (p e.task) (λ in_it. clash (sym (all e in_it) ∙ gone))

      other : p e.task ≡ false → same_task t e.task ≡ false
      other none = is_none (same_task t e.task) (λ same. clash (sym member ∙ ap p (same_task-exact t e.task same) ∙ none))

      by : (b : Bool) → q e ≡ b
          → is_kept_behind p t (front_with f e.ctl (p e.task)) (filter q es)
          ≡ is_kept_behind p t (front_with f e.ctl (p e.task)) es
          → is_kept_behind p t f (filter q es) ≡ is_kept_behind p t f es
          → is_kept_behind p t f (filter q (e ∷ es)) ≡ is_kept_behind p t f (e ∷ es)
      by true is kept gone = rw is (ap (λ (b : Bool). (same_task t e.task && is_away f e.ctl) || b) kept)
      by false is kept gone =
          rw is
          (gone
          ∙ rw (away is, other (away is)) (ap (λ (g : Front). is_kept_behind p t g es) (sym (front-none f e.ctl))))

  kept-exclusive : (u : TaskId) → p u ≡ false → (f : Front) (es : List Elem)
      → is_kept_behind p t f (list_exclusive es u) ≡ is_kept_behind p t f es
  kept-exclusive u none f [] = refl
  kept-exclusive u none f (e ∷ es) =
      by (same_task u e.task) refl (kept-exclusive u none f es) (kept-exclusive u none (front_with f e.ctl (p e.task)) es)
    where
      by : (b : Bool) → same_task u e.task ≡ b
          → is_kept_behind p t f (list_exclusive es u) ≡ is_kept_behind p t f es
          → is_kept_behind p t (front_with f e.ctl (p e.task)) (list_exclusive es u)
          ≡ is_kept_behind p t (front_with f e.ctl (p e.task)) es
          → is_kept_behind p t f (list_exclusive (e ∷ es) u) ≡ is_kept_behind p t f (e ∷ es)
      by true is same kept =
          let one : u ≡ e.task = same_task-exact u e.task is in
          let gone : p e.task ≡ false = ap p (sym one) ∙ none in
          let other : same_task t e.task ≡ false =
          is_none (same_task t e.task) (λ same. clash (sym member ∙ ap p (same_task-exact t e.task same) ∙ gone)) in
          rw is
          (rw (gone, other)
          (ap (λ (g : Front). is_kept_behind p t g (list_exclusive es u)) (front-none f E) ∙ same
          ∙ ap (λ (g : Front). is_kept_behind p t g es) (sym (front-none f e.ctl))))
      by false is same kept = rw is (ap (λ (b : Bool). (same_task t e.task && is_away f e.ctl) || b) kept)

  kept-append : (f : Front) (es more : List Elem) → is_kept_behind p t f es ≡ true
      → is_kept_behind p t f (es ++ more) ≡ true
  kept-append f [] more h = cc
  kept-append f (e ∷ es) more h =
      or_more (same_task t e.task && is_away f e.ctl) (is_kept_behind p t (front_with f e.ctl (p e.task)) es)
      (is_kept_behind p t (front_with f e.ctl (p e.task)) (es ++ more))
      (kept-append (front_with f e.ctl (p e.task)) es more) h

  -- so who waits behind a member does so still, where an entry concerns no member
  kept-step : (full : TaskId → Bool) (es : List Elem) (h : HistEntry)
      → ((u : TaskId) → p u ≡ true → concerns u h ≡ false) → is_kept_behind p t no_front es ≡ true
      → is_kept_behind p t no_front (list_stepped full es h) ≡ true
  kept-step full es (Enq v r c ret code) apart k = by (decide_enq es v c ret (full v)).effect
    where
      stranger : p v ≡ false
      stranger = is_none (p v) (λ in_it. clash (sym (same_task-itself v) ∙ apart v in_it))

      by : (d : Effect) → is_kept_behind p t no_front (list_after es v c d) ≡ true
      by Nothing = k
      by Append = kept-append no_front es (record { task = v; ctl = c } ∷ []) k
      by MakeExclusive = kept-exclusive v stranger no_front es ∙ k
  kept-step full es (Deq v r have code) apart k = by (is_owner (standing_of es v))
    where
      by : (b : Bool) → is_kept_behind p t no_front (cond b (list_without es v) es) ≡ true
      by true =
          kept-filter (λ e. not (same_task v e.task)) (λ e in_it. ap not (turned v e.task ∙ apart e.task in_it)) no_front es
          ∙ k
      by false = k
  kept-step full es (Release v r) apart k =
      kept-filter (λ e. not (same_task v e.task)) (λ e in_it. ap not (turned v e.task ∙ apart e.task in_it)) no_front es
      ∙ k
  kept-step full es (Look v place f rows) apart k = k
  kept-step full es (Remove by target) apart k =
      kept-filter (λ e. not (target.0 == e.task.system.0)) (λ e in_it. ap not (apart e.task in_it)) no_front es ∙ k

-- and so by all lists
waits-step : (p : TaskId → Bool) (t : TaskId) (limit : ℕ) (s : State) (h : HistEntry) (r : Res) → p t ≡ true
    → ((u : TaskId) → p u ≡ true → concerns u h ≡ false) → waits_for p t (list_of s r) ≡ true
    → waits_for p t (list_of (step limit s h) r) ≡ true
waits-step p t limit s h r member apart waits = by (may_change h r) refl
  where
    by : (b : Bool) → may_change h r ≡ b → waits_for p t (list_of (step limit s h) r) ≡ true
    by true is =
        ap (waits_for p t) (steps_by_lists limit s h r is)
        ∙ waits-whole p t (list_stepped (is_full limit s) (list_of s r) h)
        ∙ kept-step p t member (is_full limit s) (list_of s r) h apart (sym (waits-whole p t (list_of s r)) ∙ waits)
    by false is = ap (waits_for p t) (keeps_other_lists limit s h r is) ∙ waits

-- ---- who waits doesn't own
behind-has : (p : TaskId → Bool) (t : TaskId) (f : Front) (es : List Elem) → is_kept_behind p t f es ≡ true
    → has_task es t ≡ true
behind-has p t f [] k = cc
behind-has p t f (e ∷ es) k = by (same_task t e.task) refl (behind-has p t (front_with f e.ctl (p e.task)) es)
  where
    by : (b : Bool) → same_task t e.task ≡ b
        → (is_kept_behind p t (front_with f e.ctl (p e.task)) es ≡ true → has_task es t ≡ true)
        → has_task (e ∷ es) t ≡ true
    by true same later = rw same refl
    by false same later =
        rw same
        (later
        (subst (λ (b : Bool).
        ((b && is_away f e.ctl) || is_kept_behind p t (front_with f e.ctl (p e.task)) es) ≡ true) same k))

-- behind sharers alone, and kept away
behind-sharers : (p : TaskId → Bool) (t : TaskId) (f : Front) (es : List Elem) → f.exclusive ≡ false
    → is_apart es ≡ true → is_kept_behind p t f es ≡ true → owns_shared es t ≡ false
behind-sharers p t f [] none apart k = refl
behind-sharers p t f (e ∷ es) none apart k =
    by e.ctl refl (behind-sharers p t (front_with f S (p e.task)) es (shared-front f (p e.task) none))
  where
    not_itself : e.ctl ≡ S → (b : Bool) → same_task t e.task ≡ b
        → is_kept_behind p t (front_with f S (p e.task)) es ≡ true → (is_apart es ≡ true → owns_shared es t ≡ false)
        → owns_shared (e ∷ es) t ≡ false
    not_itself is true same kept rest =
        let twice : has_task es e.task ≡ true =
        subst (λ (x : TaskId). has_task es x ≡ true) (same_task-exact t e.task same)
        (behind-has p t (front_with f S (p e.task)) es kept) in
        grind (arith, apart, twice)
    not_itself is false same kept rest = rw (is, same) (rest (grind (arith, apart)))

    by : (c : Ctl) → e.ctl ≡ c
        → (is_apart es ≡ true → is_kept_behind p t (front_with f S (p e.task)) es ≡ true → owns_shared es t ≡ false)
        → owns_shared (e ∷ es) t ≡ false
    by E is rest = rw is refl
    by S is rest =
        let kept : is_kept_behind p t (front_with f S (p e.task)) es ≡ true =
        or_second (same_task t e.task) f.exclusive (is_kept_behind p t (front_with f S (p e.task)) es) none
        (subst (λ (c : Ctl).
        ((same_task t e.task && is_away f c) || is_kept_behind p t (front_with f c (p e.task)) es) ≡ true) is k) in
        not_itself is (same_task t e.task) refl kept (λ lone. rest lone kept)

waits-owns : (p : TaskId → Bool) (t : TaskId) (es : List Elem) → is_apart es ≡ true → waits_for p t es ≡ true
    → owns es t ≡ false
waits-owns p t [] apart w = refl
waits-owns p t (e ∷ es) apart w = by (same_task t e.task) refl
  where
    behind : is_kept_behind p t (front_with no_front e.ctl (p e.task)) es ≡ true
    behind =
        or_second (same_task t e.task) (is_away no_front e.ctl)
        (is_kept_behind p t (front_with no_front e.ctl (p e.task)) es) (none-away e.ctl) (sym (waits-whole p t (e ∷ es)) ∙ w)

    by : (b : Bool) → same_task t e.task ≡ b → owns (e ∷ es) t ≡ false
    by true same =
        let twice : has_task es e.task ≡ true =
        subst (λ (x : TaskId). has_task es x ≡ true) (same_task-exact t e.task same)
        (behind-has p t (front_with no_front e.ctl (p e.task)) es behind) in
        grind (arith, apart, twice)
    by false same = by_ctl e.ctl refl
      where
        by_ctl : (c : Ctl) → e.ctl ≡ c → owns (e ∷ es) t ≡ false
        by_ctl E is = rw (is, same) refl
        by_ctl S is =
            rw (is, same)
            (behind-sharers p t (front_with no_front S (p e.task)) es (shared-front no_front (p e.task) refl) (grind (arith, apart))
            (subst (λ (c : Ctl). is_kept_behind p t (front_with no_front c (p e.task)) es ≡ true) is behind))

waits-has : (p : TaskId → Bool) (t : TaskId) (es : List Elem) → waits_for p t es ≡ true → has_task es t ≡ true
waits-has p t es w = behind-has p t no_front es (sym (waits-whole p t es) ∙ w)

-- ---- who is held asks nothing
not-let-on : (limit : ℕ) (s : State) (t : TaskId) (r : Res) (o : Option HistEntry) → owns (list_of s r) t ≡ false
    → IsSomeAnd o (WasLeftWaiting r) → IfSome o (HasControl s t) → ⊥
not-let-on limit s t r None none left may = left
not-let-on limit s t r (Some (Enq u q c ret code)) none left may =
    let owned : owns (list_of s q) t ≡ true = may left.1 in
    let other : owns (list_of s q) t ≡ false = subst (λ (x : Res). owns (list_of s x) t ≡ false) (sym left.0) none in
    clash (sym owned ∙ other)
not-let-on limit s t r (Some (Deq u q have code)) none left may = absurd left
not-let-on limit s t r (Some (Release u q)) none left may = absurd left
not-let-on limit s t r (Some (Look u place f rows)) none left may = absurd left
not-let-on limit s t r (Some (Remove by target)) none left may = absurd left

not-passed : (s : State) (t : TaskId) (r : Res) (ls : List Meaning) → owns (list_of s r) t ≡ false
    → has_task (list_of s r) t ≡ true → list_any (is_wait_for r) ls ≡ true → list_all (lets_pass s t) ls ≡ true → ⊥
not-passed s t r [] none has some all = clash (sym some)
not-passed s t r (l ∷ ls) none has some all =
    by l refl (λ later. not-passed s t r ls none has later (grind (arith, all)))
  where
    by_res : (q : Res) → l ≡ lines.Wait q → (list_any (is_wait_for r) ls ≡ true → ⊥) → (b : Bool) → same_res r q ≡ b → ⊥
    by_res q is rest true same =
        let passes : (owns (list_of s q) t || not (has_task (list_of s q) t)) ≡ true =
        subst (λ (x : Meaning). lets_pass s t x ≡ true) is (grind (arith, all)) in
        let here : (owns (list_of s r) t || not (has_task (list_of s r) t)) ≡ true =
        subst (λ (x : Res). (owns (list_of s x) t || not (has_task (list_of s x) t)) ≡ true)
        (sym (same_res-exact r q same)) passes in
        clash (sym here ∙ rw (none, has) refl)
    by_res q is rest false same =
        rest (or_rest (is_wait_for r l) (list_any (is_wait_for r) ls) (ap (is_wait_for r) is ∙ same) some)

    by : (m : Meaning) → l ≡ m → (list_any (is_wait_for r) ls ≡ true → ⊥) → ⊥
    by (lines.Wait q) is rest = by_res q is rest (same_res r q) refl
    by (lines.Enq q c ret unit) is rest =
        rest (or_rest (is_wait_for r l) (list_any (is_wait_for r) ls) (ap (is_wait_for r) is) some)
    by (lines.Deq q have) is rest =
        rest (or_rest (is_wait_for r l) (list_any (is_wait_for r) ls) (ap (is_wait_for r) is) some)
    by (lines.Shows d) is rest =
        rest (or_rest (is_wait_for r l) (list_any (is_wait_for r) ls) (ap (is_wait_for r) is) some)
    by lines.Nothing is rest =
        rest (or_rest (is_wait_for r l) (list_any (is_wait_for r) ls) (ap (is_wait_for r) is) some)

module _ (deck : Deck) (hist : List HistEntry) (t : TaskId) where
  abbrev now : State
  now = replay deck.limit hist

  held-asks : (r : Res) (p : TaskId → Bool) (o : Option (List Meaning)) (h : HistEntry)
      → waits_for p t (list_of now r) ≡ true
      → IsSomeAnd (last_entry (entries_of t hist)) (WasLeftWaiting r)
      ⊎ IsSomeAnd o (λ ls. list_any (is_wait_for r) (passed_lines t ls hist) ≡ true)
      → IsSomeAnd o (λ ls. IsLegal deck.limit t ls hist h) → ⊥
  held-asks r p None h waits held may = may
  held-asks r p (Some ls) h waits (inl left) may =
      not-let-on deck.limit now t r (last_entry (entries_of t hist))
      (waits-owns p t (list_of now r) (none_twice deck.limit hist r) waits) left may.waited
  held-asks r p (Some ls) h waits (inr line) may =
      not-passed now t r (passed_lines t ls hist)
      (waits-owns p t (list_of now r) (none_twice deck.limit hist r) waits) (waits-has p t (list_of now r) waits) line
      may.passed

  stuck-asks : (ts : List TaskId) (u : TaskId) (h : HistEntry) → IsStuck deck hist ts t → same_task t u ≡ true
      → IsSomeAnd (lines_of deck u) (λ ls. IsLegal deck.limit u ls hist h) → ⊥
  stuck-asks ts u h stuck same may =
      held-asks stuck.res (is_among ts) (lines_of deck t) h stuck.waits stuck.held
      (subst (λ (x : TaskId). IsSomeAnd (lines_of deck x) (λ ls. IsLegal deck.limit x ls hist h))
      (sym (same_task-exact t u same)) may)

  -- so an entry that may stand is none of its own
  stuck-stands : (ts : List TaskId) (h : HistEntry) → IsStuck deck hist ts t → MayStand deck hist h → is_by t h ≡ false
  stuck-stands ts (Enq u r c ret code) stuck may =
      is_none (same_task t u) (λ same. stuck-asks ts u (Enq u r c ret code) stuck same may)
  stuck-stands ts (Deq u r have code) stuck may =
      is_none (same_task t u) (λ same. stuck-asks ts u (Deq u r have code) stuck same may)
  stuck-stands ts (Release u r) stuck may =
      is_none (same_task t u) (λ same. stuck-asks ts u (Release u r) stuck same may)
  stuck-stands ts (Look u place f rows) stuck may =
      is_none (same_task t u) (λ same. stuck-asks ts u (Look u place f rows) stuck same may)
  stuck-stands ts (Remove by target) stuck may = refl

-- ---- an entry of another task leaves what is kept of a task
filter-push : {X : Type 0} (q : X → Bool) (xs : List X) (x : X) → q x ≡ false → filter q (xs ++ x ∷ []) ≡ filter q xs
filter-push q [] x out = rw out refl
filter-push {X} q (y ∷ ys) x out = by (q y) (filter-push q ys x out)
  where
    by : (b : Bool) → filter q (ys ++ x ∷ []) ≡ filter q ys
        → cond b (y ∷ filter q (ys ++ x ∷ [])) (filter q (ys ++ x ∷ [])) ≡ cond b (y ∷ filter q ys) (filter q ys)
    by true rest = ap (λ (zs : List X). y ∷ zs) rest
    by false rest = rest

module _ (deck : Deck) (hist : List HistEntry) (h : HistEntry) (t : TaskId) (other : is_by t h ≡ false) where
  entries-other : entries_of t (hist ++ h ∷ []) ≡ entries_of t hist
  entries-other = filter-push (is_by t) hist h other

  asked-other : line_entries t (hist ++ h ∷ []) ≡ line_entries t hist
  asked-other = filter-push (λ x. is_by t x && is_of_line x) hist h (rw other refl)

  passed-other : (ls : List Meaning) → passed_lines t ls (hist ++ h ∷ []) ≡ passed_lines t ls hist
  passed-other ls = ap (λ (hs : List HistEntry). cond (is_some (end_among hs)) [] (passed_behind (length hs) ls)) asked-other

  held-other : (r : Res) → IsHeldFor deck hist t r → IsHeldFor deck (hist ++ h ∷ []) t r
  held-other r (inl left) =
      inl (subst (λ (hs : List HistEntry). IsSomeAnd (last_entry hs) (WasLeftWaiting r)) (sym entries-other) left)
  held-other r (inr line) = inr (by (lines_of deck t) line)
    where
      by : (o : Option (List Meaning)) → IsSomeAnd o (λ ls. list_any (is_wait_for r) (passed_lines t ls hist) ≡ true)
          → IsSomeAnd o (λ ls. list_any (is_wait_for r) (passed_lines t ls (hist ++ h ∷ [])) ≡ true)
      by None some = some
      by (Some ls) some = ap (list_any (is_wait_for r)) (passed-other ls) ∙ some

-- ---- one entry more
apart-entry : (u : TaskId) (h : HistEntry) → is_by u h ≡ false → removes u.system h ≡ false → concerns u h ≡ false
apart-entry u (Enq v r c ret code) by_other spared = by_other
apart-entry u (Deq v r have code) by_other spared = by_other
apart-entry u (Release v r) by_other spared = by_other
apart-entry u (Look v place f rows) by_other spared = by_other
apart-entry u (Remove by target) by_other spared = turned_number target.0 u.system.0 ∙ spared

module _ (deck : Deck) (ts : List TaskId) where
  none-removed : (hist : List HistEntry) (h : HistEntry) (hs : List HistEntry) (t : TaskId)
      → removes_some ts (h ∷ hs) ≡ false → is_among ts t ≡ true → removes t.system h ≡ false
  none-removed hist h hs t spared member =
      not-any ts t (λ u. removes u.system h) (grind (arith, spared)) member

  stuck-on : (hist : List HistEntry) (h : HistEntry) → IsDeadlock deck hist ts → MayStand deck hist h
      → ((t : TaskId) → is_among ts t ≡ true → removes t.system h ≡ false) → IsDeadlock deck (hist ++ h ∷ []) ts
  stuck-on hist h dead may spared t member = record {
    res = (dead t member).res;
    held = held-other deck hist h t (stranger t member) (dead t member).res (dead t member).held;
    waits =
        ap (λ (s : State). waits_for (is_among ts) t (list_of s (dead t member).res))
        (replay_from-append deck.limit [] hist (h ∷ []))
        ∙ waits-step (is_among ts) t deck.limit (replay deck.limit hist) h (dead t member).res member
        (λ u in_it. apart-entry u h (stranger u in_it) (spared u in_it)) (dead t member).waits;
  }
    where
      stranger : (u : TaskId) → is_among ts u ≡ true → is_by u h ≡ false
      stranger u in_it = stuck-stands deck hist u ts h (dead u in_it) may

  stay : (hist hs : List HistEntry) → IsDeadlock deck hist ts → LegalFrom deck hist hs → removes_some ts hs ≡ false
      → IsDeadlock deck (hist ++ hs) ts × ((t : TaskId) → is_among ts t ≡ true → entries_of t hs ≡ [])
  stay hist [] dead legal spared =
      (subst (λ (xs : List HistEntry). IsDeadlock deck xs ts) (sym (append_nil hist)) dead, λ t member. refl)
  stay hist (h ∷ hs) dead legal spared =
      let next : IsDeadlock deck (hist ++ h ∷ []) ts =
      stuck-on hist h dead legal.0 (λ t member. none-removed hist h hs t spared member) in
      let rest = stay (hist ++ h ∷ []) hs next legal.1 (grind (arith, spared)) in (
        subst (λ (xs : List HistEntry). IsDeadlock deck xs ts) (append_assoc hist (h ∷ []) hs) rest.0,
        λ t member. without_first t member (rest.1 t member),
      )
    where
      without_first : (t : TaskId) → is_among ts t ≡ true → entries_of t hs ≡ [] → entries_of t (h ∷ hs) ≡ []
      without_first t member none = rw (stuck-stands deck hist t ts h (dead t member) legal.0) none

pub deadlocks_stay : DeadlocksStay
deadlocks_stay deck hist hs ts dead legal spared = stay deck ts hist hs dead legal spared
