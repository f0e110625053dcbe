-- What a task's line and the entries that it made say of one another, and to whom a line is told.
use Rattle.grs_world.proofs.Common.{[], ◌&&◌, ◌++◌, ◌+◌, ◌-◌, ◌<◌, ◌==◌, ◌||◌, ◌∙◌, ◌∷◌, ◌≡◌, ◌≤◌, and_from, and_parts}
use Rattle.grs_world.proofs.Common.{ap, arith, asks_in, asks_of, Bool, code_of, cond, Deck, Each, entry_of_line, eq-eqb}
use Rattle.grs_world.proofs.Common.{eqb-true, Event, false, has, has_code, HistEntry, is_code_at, is_code_of}
use Rattle.grs_world.proofs.Common.{is_line_of, is_marked, is_some, is_task, IsRec, length, length-append, lines_of}
use Rattle.grs_world.proofs.Common.{lines_of_told, List, list_any, Meaning, Moment, nat_lt, None, not, Option, or_left}
use Rattle.grs_world.proofs.Common.{or_right, Phase, Rec, refl, Res, same_res, same_res-exact, same_task}
use Rattle.grs_world.proofs.Common.{same_task-exact, same_task-itself, slice_get, slice_get_within, Some, some_of}
use Rattle.grs_world.proofs.Common.{subst, suc, sym, SysId, take, take-none, TaskId, TasksView, tells_control, Told}
use Rattle.grs_world.proofs.Common.{ToldLine, true, Wait, zero, ℕ}
use Rattle.grs_legal.specs.Asks.{is_silent}
use Rattle.grs_known.proofs.tasks.Invariant.{IsWaitFor}
use Rattle.grs_known.specs.Told.{AgreesOf, asked_at, is_end_of}
use Rattle.grs_world.specs.Agree.{AgreesBy, AllAgree, moment}
use Rattle.grs_world.specs.AtRest.{is_coded, is_waiting, is_wait}
use Rattle.grs_wire.specs.declared.seen.TaskEnd.TheVariants.{Ended}
use Rattle.grs_world.proofs.at_rest.Steps.{one-task}
use Rattle.grs_known.proofs.tasks.UpToDate.{is_end_at, is_placed}
use Rattle.grs_wire.specs.declared.history.HistEntry.TheVariants as entries
use Rattle.grs_wire.specs.declared.told.ToldLine.TheVariants as told
use Rattle.grs_legal.specs.declared.meaning.Meaning.TheVariants as lines

-- ---- lists
pub more-asks : (a b : ℕ) → a ≤ b → (ls : List Meaning) → length (asks_of (take a ls)) ≤ length (asks_of (take b ls))
more-asks zero b l ls =
    subst (λ (xs : List Meaning). length (asks_of xs) ≤ length (asks_of (take b ls))) (sym (take-none ls)) (omega arith)
more-asks (suc a) zero l ls = absurd (omega (arith, l))
more-asks (suc a) (suc b) l [] = omega arith
more-asks (suc a) (suc b) l (m ∷ ls) =
    let h = more-asks a b (omega (arith, l)) ls in
    omega (arith, h, length-append (asks_in m) (asks_of (take a ls)), length-append (asks_in m) (asks_of (take b ls)))

-- whether a line is there and asks something
abbrev pub is_asking : Option Meaning → Bool
is_asking None = false
is_asking (Some l) = not (is_silent l)

-- an entry of a line is there: the line asks, and its place is one of the entries
pub of-line : (ls : List Meaning) (E : List HistEntry) (k : ℕ) (h : HistEntry) → entry_of_line ls E k ≡ Some h
    → (is_asking (slice_get ls (k - 1)) ≡ true) × (length (asks_of (take (k - 1) ls)) < length E)
of-line ls E k h e = go (slice_get ls (k - 1)) e
  where
    go : (o : Option Meaning) → asked_at o (slice_get E (length (asks_of (take (k - 1) ls)))) ≡ Some h
        → (is_asking o ≡ true) × (length (asks_of (take (k - 1) ls)) < length E)
    go None f = absurd (cc)
    go (Some l) f = by_silent (is_silent l) f
      where
        by_silent : (b : Bool) → cond b None (slice_get E (length (asks_of (take (k - 1) ls)))) ≡ Some h
            → (not b ≡ true) × (length (asks_of (take (k - 1) ls)) < length E)
        by_silent true g = absurd (cc)
        by_silent false g = (refl, slice_get_within E (length (asks_of (take (k - 1) ls))) h g)

-- who waits isn't told a code yet
pub waits-uncoded : (h : HistEntry) → code_of h ≡ Wait → is_coded h ≡ false
waits-uncoded (entries.Enq u r c ret code) e = ap (λ z. not (is_waiting z)) e
waits-uncoded (entries.Deq u r have code) e = ap (λ z. not (is_waiting z)) e
waits-uncoded (entries.Release u r) e = refl
waits-uncoded (entries.Look u place f rows) e = refl
waits-uncoded (entries.Remove by target) e = refl

-- a mark is control that a line told
pub marked-tells :
    (ls : List Meaning) (E : List HistEntry) (T : List ToldLine) (has leaving : Res → Bool) (t : TaskId) (line : ℕ)
    (p : Phase) (r : Res) (xs : List Rec)
    → Each (IsRec ls E T has leaving t line p) xs → ((q : Res) → leaving q ≡ false) → is_marked r xs ≡ true →
    list_any (tells_control t ls E r) T ≡ true
marked-tells ls E T has leaving t line p r [] h none m = absurd (cc)
marked-tells ls E T has leaving t line p r (x ∷ xs) h none m =
    go (same_res r x.res) refl x.told refl m (marked-tells ls E T has leaving t line p r xs h.1 none)
  where
    go : (b : Bool) → same_res r x.res ≡ b → (c : Bool) → x.told ≡ c → ((b && c) || is_marked r xs) ≡ true
        → (is_marked r xs ≡ true → list_any (tells_control t ls E r) T ≡ true)
        → list_any (tells_control t ls E r) T ≡ true
    go true e true f k more =
        subst (λ q. list_any (tells_control t ls E q) T ≡ true) (sym (same_res-exact r x.res e))
        (h.0.control (sym h.0.known ∙ f) (none x.res))
    go true e false f k more = more k
    go false e c f k more = more k

-- what a line asks is answered by a code
pub asking-code : (o : Option Meaning) → is_asking o ≡ true → has_code o ≡ true
asking-code None e = absurd (cc)
asking-code (Some (lines.Enq r c ret unit)) e = refl
asking-code (Some (lines.Deq r have)) e = refl
asking-code (Some (lines.Wait r)) e = absurd (cc)
asking-code (Some (lines.Shows d)) e = refl
asking-code (Some lines.Nothing) e = absurd (cc)

-- and so is a WAIT line
pub wait-code : (o : Option Meaning) → is_wait o ≡ true → has_code o ≡ true
wait-code None e = absurd (cc)
wait-code (Some (lines.Enq r c ret unit)) e = absurd (cc)
wait-code (Some (lines.Deq r have)) e = absurd (cc)
wait-code (Some (lines.Wait r)) e = refl
wait-code (Some (lines.Shows d)) e = absurd (cc)
wait-code (Some lines.Nothing) e = absurd (cc)

-- a WAIT line asks nothing
pub wait-silent : (r : Res) (o : Option Meaning) → IsWaitFor r o → is_asking o ≡ true → ⊥
wait-silent r None w e = w
wait-silent r (Some (lines.Enq q c ret unit)) w e = w
wait-silent r (Some (lines.Deq q have)) w e = w
wait-silent r (Some (lines.Wait q)) w e = absurd (cc)
wait-silent r (Some (lines.Shows d)) w e = w
wait-silent r (Some lines.Nothing) w e = w

-- ---- lines
pub tells-home : (t : TaskId) (ls : List Meaning) (E : List HistEntry) (r : Res) (l : ToldLine)
    → tells_control t ls E r l ≡ true → is_line_of t.system.0 l ≡ true
tells-home t ls E r (told.Coded u k part verb code) e = home t u (and_parts (same_task t u) _ e).0
  where
    home : (t u : TaskId) → same_task t u ≡ true → (u.system.0 == t.system.0) ≡ true
    home t u f = eq-eqb u.system.0 t.system.0 (ap (λ (z : TaskId). z.system.0) (sym (same_task-exact t u f)))
tells-home t ls E r (told.Shown u k verb code rows) e = absurd (cc)
tells-home t ls E r (told.Post u k) e = home t u (and_parts (same_task t u) _ e).0
  where
    home : (t u : TaskId) → same_task t u ≡ true → (u.system.0 == t.system.0) ≡ true
    home t u f = eq-eqb u.system.0 t.system.0 (ap (λ (z : TaskId). z.system.0) (sym (same_task-exact t u f)))
tells-home t ls E r (told.Ended u code) e = absurd (cc)
tells-home t ls E r (told.Desk k said) e = absurd (cc)

pub code_of-home : (t : TaskId) (k : ℕ) (l : ToldLine) → is_code_of t k l ≡ true → is_line_of t.system.0 l ≡ true
code_of-home t k (told.Coded u j part verb code) e =
    ap (λ (z : TaskId). z.system.0 == t.system.0) (sym (same_task-exact t u (and_parts (same_task t u) (j == k) e).0))
    ∙ eq-eqb t.system.0 t.system.0 refl
code_of-home t k (told.Shown u j verb code rows) e =
    ap (λ (z : TaskId). z.system.0 == t.system.0) (sym (same_task-exact t u (and_parts (same_task t u) (j == k) e).0))
    ∙ eq-eqb t.system.0 t.system.0 refl
code_of-home t k (told.Post u j) e = absurd (cc)
code_of-home t k (told.Ended u code) e = absurd (cc)
code_of-home t k (told.Desk j said) e = absurd (cc)

pub code-home : (t : TaskId) (k : ℕ) (l : ToldLine) → is_code_at t k l ≡ true → is_line_of t.system.0 l ≡ true
code-home t k (told.Coded u j part verb code) e = placed-home t u (and_parts (is_placed t u) (j == k) e).0
  where
    placed-home : (t u : TaskId) → is_placed t u ≡ true → (u.system.0 == t.system.0) ≡ true
    placed-home t u f =
        eq-eqb u.system.0 t.system.0
        (sym (eqb-true t.system.0 u.system.0 (and_parts (t.system.0 == u.system.0) (t.task == u.task) f).0))
code-home t k (told.Shown u j verb code rows) e = placed-home t u (and_parts (is_placed t u) (j == k) e).0
  where
    placed-home : (t u : TaskId) → is_placed t u ≡ true → (u.system.0 == t.system.0) ≡ true
    placed-home t u f =
        eq-eqb u.system.0 t.system.0
        (sym (eqb-true t.system.0 u.system.0 (and_parts (t.system.0 == u.system.0) (t.task == u.task) f).0))
code-home t k (told.Post u j) e = absurd (cc)
code-home t k (told.Ended u code) e = absurd (cc)
code-home t k (told.Desk j said) e = absurd (cc)

pub end-home : (t : TaskId) (l : ToldLine) → is_end_at t l ≡ true → is_line_of t.system.0 l ≡ true
end-home t (told.Ended u code) e =
    eq-eqb u.system.0 t.system.0
    (sym (eqb-true t.system.0 u.system.0 (and_parts (t.system.0 == u.system.0) (t.task == u.task) e).0))
end-home t (told.Coded u j part verb code) e = absurd (cc)
end-home t (told.Shown u j verb code rows) e = absurd (cc)
end-home t (told.Post u j) e = absurd (cc)
end-home t (told.Desk j said) e = absurd (cc)

-- who is told something is of the deck
of_agrees :
    (deck : Deck) (u : TaskId) (P : List HistEntry) (T : List ToldLine) (l : ToldLine) (o : Option (List Meaning))
    → AgreesOf deck.limit o P T l → is_some o ≡ true
of_agrees deck u P T l None a = absurd a
of_agrees deck u P T l (Some ls) a = refl

-- what is told agrees, so one line that passes a test is one that passes another
any-agreed :
    (deck : Deck) (es : List Event) (p q : ToldLine → Bool)
    → ((m : Moment) (e : ℕ) (s : SysId) (l : ToldLine) → AgreesBy deck m e s l → p l ≡ true → q l ≡ true)
    → (before xs : List Told) → AllAgree deck es before xs → list_any p (lines_of_told xs) ≡ true →
    list_any q (lines_of_told xs) ≡ true
any-agreed deck es p q k before [] a h = absurd (cc)
any-agreed deck es p q k before (x ∷ xs) a h =
    go (p x.line) refl h (any-agreed deck es p q k (before ++ x ∷ []) xs a.1)
  where
    go : (b : Bool) → p x.line ≡ b → (b || list_any p (lines_of_told xs)) ≡ true
        → (list_any p (lines_of_told xs) ≡ true → list_any q (lines_of_told xs) ≡ true)
        → (q x.line || list_any q (lines_of_told xs)) ≡ true
    go true e f more =
        or_left (q x.line) (list_any q (lines_of_told xs))
        (k (moment deck es x.event before) x.event x.system x.line a.0 e)
    go false e f more = or_right (q x.line) (list_any q (lines_of_told xs)) (more f)

module _ (deck : Deck) (v : TasksView) (t : TaskId) (ls : List Meaning) (lines : lines_of deck t ≡ Some ls)
    (here : is_task v t ≡ true) where
  -- a task of the deck at its place is the task
  the-task : (u : TaskId) → is_some (lines_of deck u) ≡ true → is_placed t u ≡ true → same_task t u ≡ true
  the-task u some place =
      let both = and_parts (t.system.0 == u.system.0) (t.task == u.task) place in
      let task : t.task ≡ u.task = eqb-true t.task u.task both.1 in
      let system : t.system.0 ≡ u.system.0 = eqb-true t.system.0 u.system.0 both.0 in
      let ms = some_of (lines_of deck u) some in
      let there : is_task v u ≡ true =
      subst (λ i. ((v.system == i) && nat_lt u.task (length v.tasks)) ≡ true) system
      (subst (λ i. ((v.system == t.system.0) && nat_lt i (length v.tasks)) ≡ true) task here) in
      subst (λ z. same_task t z ≡ true) (sym (one-task deck v t u ls ms.0 lines ms.1 here there task))
      (same_task-itself t)

  -- so what agrees and is told to its place is told to it
  code-line : (m : Moment) (e : ℕ) (s : SysId) (k : ℕ) (l : ToldLine) → AgreesBy deck m e s l → is_code_at t k l ≡ true
      → is_code_of t k l ≡ true
  code-line m e s k (told.Coded u j part verb code) a at =
      let both = and_parts (is_placed t u) (j == k) at in
      and_from (same_task t u) (j == k) (the-task u (of_agrees deck u _ _ _ (lines_of deck u) a.1.1) both.0) both.1
  code-line m e s k (told.Shown u j verb code rows) a at =
      let both = and_parts (is_placed t u) (j == k) at in
      and_from (same_task t u) (j == k) (the-task u (of_agrees deck u _ _ _ (lines_of deck u) a.1) both.0) both.1
  code-line m e s k (told.Post u j) a at = absurd (cc)
  code-line m e s k (told.Ended u code) a at = absurd (cc)
  code-line m e s k (told.Desk j said) a at = absurd (cc)

  end-line : (m : Moment) (e : ℕ) (s : SysId) (l : ToldLine) → AgreesBy deck m e s l → is_end_at t l ≡ true
      → is_end_of t l ≡ true
  end-line m e s (told.Ended u code) a at = the-task u (of_agrees deck u _ _ _ (lines_of deck u) a.1) at
  end-line m e s (told.Coded u j part verb code) a at = absurd (cc)
  end-line m e s (told.Shown u j verb code rows) a at = absurd (cc)
  end-line m e s (told.Post u j) a at = absurd (cc)
  end-line m e s (told.Desk j said) a at = absurd (cc)

  pub code-exact : (es : List Event) (before xs : List Told) (k : ℕ) → AllAgree deck es before xs
      → list_any (is_code_at t k) (lines_of_told xs) ≡ true → list_any (is_code_of t k) (lines_of_told xs) ≡ true
  code-exact es before xs k =
      any-agreed deck es (is_code_at t k) (is_code_of t k) (λ m e s l. code-line m e s k l) before xs

  pub end-exact : (es : List Event) (before xs : List Told) → AllAgree deck es before xs
      → list_any (is_end_at t) (lines_of_told xs) ≡ true → list_any (is_end_of t) (lines_of_told xs) ≡ true
  end-exact es before xs = any-agreed deck es (is_end_at t) (is_end_of t) end-line before xs
