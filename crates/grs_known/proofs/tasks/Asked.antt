-- A task after one of its lines was answered: what holds of it, and that the line told agrees.
use Rattle.std.proofs.Common.{◌≡◌, ◌-◌, ◌+◌, ℕ, zero, suc, Bool, true, false, not, ◌&&◌, List, [], ◌∷◌, ◌++◌, map}
use Rattle.std.proofs.Common.{length, take, drop, Option, Some, None, refl, ap, sym, ◌∙◌, subst, arith, inl, inr}
use Rattle.std.proofs.Common.{add-one, length-append}
use Rattle.std.specs.Prelude.{slice_get, unwrap_or}
use Rattle.std.specs.List.{list_any, list_all}
use Rattle.std.proofs.Math.Seq.{drop-length}
use Rattle.std.proofs.lemmas.Bool.{and_parts, and_from, cases_Bool, not-true, or_right}
use Rattle.std.proofs.lemmas.Bool.Decides.{nat_tests}
use Rattle.std.proofs.lemmas.Option.{slice_get_within}
use Rattle.grs_base.specs.Same.{same_task}
use Rattle.grs_base.specs.declared.resource.Ctl.{Ctl}
use Rattle.grs_base.specs.declared.resource.Res.{Res}
use Rattle.grs_base.specs.declared.resource.Row.{Row}
use Rattle.grs_base.specs.declared.resource.TaskId.{TaskId}
use Rattle.grs_base.specs.declared.decision.Code.{Code}
use Rattle.grs_base.specs.declared.decision.Code.TheVariants.{C00, C04, C08, C14, C18, Wait, End}
use Rattle.grs_legal.specs.declared.meaning.Meaning.{Meaning}
use Rattle.grs_wire.specs.declared.history.HistEntry.{HistEntry}
use Rattle.task_state.specs.declared.state.Asked.{Asked}
use Rattle.grs_wire.specs.declared.told.Verb.{Verb}
use Rattle.grs_wire.specs.declared.told.ToldLine.{ToldLine}
use Rattle.grs_wire.specs.declared.told.ToldLine.TheVariants.{Coded, Shown, Post, Ended, Desk}
use Rattle.grs_wire.specs.History.{code_of}
use Rattle.grs_legal.specs.Asks.{Ask, asks_of, asks_in}
use Rattle.grs_legal.specs.Legal.{passed_behind, end_among, end_or}
use Rattle.grs_known.specs.Past.{has_own, Past}
use Rattle.task_state.specs.declared.state.Rec.{Rec}
use Rattle.task_state.specs.declared.state.Phase.{Phase}
use Rattle.task_state.specs.declared.state.Phase.TheVariants as phases
use Rattle.task_state.specs.View.{code_in}
use Rattle.task_state.specs.Replies.{phase_after}
use Rattle.grs_known.specs.Told.{entry_of_line, entries_behind, queues, queues_at, queued_last, is_control}
use Rattle.grs_known.specs.Told.{tells_control, is_code_before, is_code_of, is_post_of, is_end_of, told_as}
use Rattle.grs_known.proofs.lists.Entries.{asked_at-grows, end_among-push}
use Rattle.grs_known.proofs.lists.Lines.{asks-more, asks_of-at, passed-none, passed-stop}
use Rattle.grs_known.proofs.tasks.Invariant.{Each, key, has_res, is_distinct, IsEntryOn, IsEcb, IsRec, WaitsFor}
use Rattle.grs_known.proofs.tasks.Invariant.{may_pass, Passed, IsNext, IsShown, IsInPhase, IsTask, is_post_before}
use Rattle.grs_known.proofs.tasks.Invariant.{code_bound}
use Rattle.grs_known.specs.Passed.{has_ended}
use Rattle.grs_known.proofs.tasks.Granted.{codes_later, lt_suc}
use Rattle.grs_known.proofs.tasks.Keys.{each-kept}
use Rattle.grs_known.proofs.lists.Facts.{all-kept, any-kept, all-more, any-more, none-more, slice_get-end, take-more}

-- what was told after a code: WAIT isn't told
abbrev pub told_after : List ToldLine → TaskId → ℕ → Verb → Code → List ToldLine
told_after T t k verb Wait = T
told_after T t k verb C00 = T ++ Coded t k 0 verb C00 ∷ []
told_after T t k verb C04 = T ++ Coded t k 0 verb C04 ∷ []
told_after T t k verb C08 = T ++ Coded t k 0 verb C08 ∷ []
told_after T t k verb C14 = T ++ Coded t k 0 verb C14 ∷ []
told_after T t k verb C18 = T ++ Coded t k 0 verb C18 ∷ []
told_after T t k verb (End n) = T ++ Coded t k 0 verb (End n) ∷ []

-- a property of what was told after any code
pub by_code : (Q : Code → List ToldLine → Type 0) (T : List ToldLine) (t : TaskId) (k : ℕ) (verb : Verb) → Q Wait T
    → ((c : Code) → told_as c ≡ c → Q c (T ++ Coded t k 0 verb c ∷ [])) → (c : Code) → Q c (told_after T t k verb c)
by_code Q T t k verb waits tells Wait = waits
by_code Q T t k verb waits tells C00 = tells C00 refl
by_code Q T t k verb waits tells C04 = tells C04 refl
by_code Q T t k verb waits tells C08 = tells C08 refl
by_code Q T t k verb waits tells C14 = tells C14 refl
by_code Q T t k verb waits tells C18 = tells C18 refl
by_code Q T t k verb waits tells (End n) = tells (End n) refl

-- what was told before stays told, and a code is no post and no end
pub any-after : (p : ToldLine → Bool) (T : List ToldLine) (t : TaskId) (k : ℕ) (verb : Verb) (c : Code)
    → list_any p T ≡ true → list_any p (told_after T t k verb c) ≡ true
any-after p T t k verb c h = by_code (λ d U. list_any p U ≡ true) T t k verb h (λ d e. any-more p T _ h) c

unposted-after : (T : List ToldLine) (t u : TaskId) (k n : ℕ) (verb : Verb) (c : Code)
    → list_any (is_post_of u n) T ≡ false → list_any (is_post_of u n) (told_after T t k verb c) ≡ false
unposted-after T t u k n verb c h =
    by_code (λ d U. list_any (is_post_of u n) U ≡ false) T t k verb h (λ d e. none-more (is_post_of u n) T _ h refl) c

no_end-after : (T : List ToldLine) (t u : TaskId) (k : ℕ) (verb : Verb) (c : Code) → list_any (is_end_of u) T ≡ false
    → list_any (is_end_of u) (told_after T t k verb c) ≡ false
no_end-after T t u k verb c h =
    by_code (λ d U. list_any (is_end_of u) U ≡ false) T t k verb h (λ d e. none-more (is_end_of u) T _ h refl) c

posts-after : (T : List ToldLine) (t : TaskId) (k n : ℕ) (verb : Verb) (c : Code)
    → list_all (is_post_before t n) T ≡ true → list_all (is_post_before t (suc n)) (told_after T t k verb c) ≡ true
posts-after T t k n verb c h =
    let later : list_all (is_post_before t (suc n)) T ≡ true =
    all-kept (is_post_before t n) (is_post_before t (suc n)) post_later T h in
    by_code (λ d U. list_all (is_post_before t (suc n)) U ≡ true) T t k verb later
    (λ d e. all-more (is_post_before t (suc n)) T _ later refl) c
  where
    post_later : (l : ToldLine) → is_post_before t n l ≡ true → is_post_before t (suc n) l ≡ true
    post_later (Coded u j part v code) e = refl
    post_later (Post u j) e = grind (arith, nat_tests, e)
    post_later (Ended u code) e = refl
    post_later (Shown u j verb code rows) e = refl
    post_later (Desk j said) e = refl

-- codes told so far are of lines up to the one that was answered
codes-after : (T : List ToldLine) (t : TaskId) (k : ℕ) (verb : Verb) (c : Code) → list_all (is_code_before t k) T ≡ true
    → list_all (is_code_before t (code_bound (phase_after c) k)) (told_after T t k verb c) ≡ true
codes-after T t k verb Wait h = h
codes-after T t k verb C00 h =
    all-more (is_code_before t (suc k)) T _ (codes_later t k T h) (or_right (not (same_task t t)) _ (lt_suc k))
codes-after T t k verb C04 h =
    all-more (is_code_before t (suc k)) T _ (codes_later t k T h) (or_right (not (same_task t t)) _ (lt_suc k))
codes-after T t k verb C08 h =
    all-more (is_code_before t (suc k)) T _ (codes_later t k T h) (or_right (not (same_task t t)) _ (lt_suc k))
codes-after T t k verb C14 h =
    all-more (is_code_before t (suc k)) T _ (codes_later t k T h) (or_right (not (same_task t t)) _ (lt_suc k))
codes-after T t k verb C18 h =
    all-more (is_code_before t (suc k)) T _ (codes_later t k T h) (or_right (not (same_task t t)) _ (lt_suc k))
codes-after T t k verb (End n) h =
    all-more (is_code_before t (suc k)) T _ (codes_later t k T h) (or_right (not (same_task t t)) _ (lt_suc k))

-- no ECB of a line after all those posted was posted
pub unposted-new : (t : TaskId) (k : ℕ) (T : List ToldLine) → list_all (is_post_before t k) T ≡ true
    → list_any (is_post_of t k) T ≡ false
unposted-new t k [] h = refl
unposted-new t k (Coded u j part verb code ∷ T) h = unposted-new t k T h
unposted-new t k (Post u j ∷ T) h = grind (arith, nat_tests, h, unposted-new t k T, cases_Bool (same_task t u))
unposted-new t k (Ended u code ∷ T) h = unposted-new t k T h
unposted-new t k (Shown u j verb code rows ∷ T) h = unposted-new t k T h
unposted-new t k (Desk j said ∷ T) h = unposted-new t k T h

-- a conjunction of which the second part is kept
and_kept : (a b c : Bool) → (b ≡ true → c ≡ true) → (a && b) ≡ true → (a && c) ≡ true
and_kept true b c f g = f g
and_kept false b c f g = g

-- options that say as much
Grows : Option HistEntry → Option HistEntry → Type 0
Grows o o' = (e : HistEntry) → o ≡ Some e → o' ≡ Some e

grows-on : (r : Res) (o o' : Option HistEntry) → Grows o o' → IsEntryOn r o → IsEntryOn r o'
unfolding Grows
grows-on r None o' g h = absurd h
grows-on r (Some e) o' g h = subst (λ z. IsEntryOn r z) (sym (g e refl)) h

grows-ecb : (o o' : Option HistEntry) → Grows o o' → IsEcb o → IsEcb o'
unfolding Grows
grows-ecb None o' g h = absurd h
grows-ecb (Some e) o' g h = subst IsEcb (sym (g e refl)) h

grows-queues : (r : Res) (o o' : Option HistEntry) → Grows o o' → queues_at r o ≡ true → queues_at r o' ≡ true
unfolding Grows
grows-queues r None o' g h = absurd (cc)
grows-queues r (Some e) o' g h = ap (queues_at r) (g e refl) ∙ h

-- behind the same items there is one more that doesn't pass
none_behind : {X : Type 0} (p : X → Bool) (x : X) → p x ≡ false → (m : ℕ) (xs : List X)
    → not (list_any p (drop m xs)) ≡ true → not (list_any p (drop m (xs ++ x ∷ []))) ≡ true
none_behind p x e zero [] h = grind (arith, e)
none_behind p x e (suc zero) [] h = refl
none_behind p x e (suc (suc m)) [] h = refl
none_behind p x e zero (y ∷ ys) h = ap not (none-more p (y ∷ ys) x (not-true (list_any p (y ∷ ys)) h) e)
none_behind p x e (suc m) (y ∷ ys) h = none_behind p x e m ys h

module _ (ls : List Meaning) (E : List HistEntry) (h : HistEntry) (t : TaskId) where
  grows-line : (k : ℕ) → Grows (entry_of_line ls E k) (entry_of_line ls (E ++ h ∷ []) k)
  unfolding Grows
  grows-line k e f = asked_at-grows (slice_get ls (k - 1)) E (h ∷ []) (length (asks_of (take (k - 1) ls))) e f

  -- the last line that queued an element on a resource stays so, where the next one queues none there
  grows-latest : (r : Res) (k : ℕ) → queues r h ≡ false → queued_last ls E r k ≡ true
      → queued_last ls (E ++ h ∷ []) r k ≡ true
  grows-latest r k none q =
      let both = and_parts (queues_at r (entry_of_line ls E k)) (not (list_any (queues r) (entries_behind ls E k))) q in
      and_from (queues_at r (entry_of_line ls (E ++ h ∷ []) k)) _
      (grows-queues r (entry_of_line ls E k) (entry_of_line ls (E ++ h ∷ []) k) (grows-line k) both.0)
      (none_behind (queues r) h none (length (asks_of (take k ls))) E both.1)

  grows-tells : (r : Res) → queues r h ≡ false → (l : ToldLine) → tells_control t ls E r l ≡ true
      → tells_control t ls (E ++ h ∷ []) r l ≡ true
  grows-tells r none (Coded u k part verb code) e =
      and_kept (same_task t u) _ _ (and_kept (is_control verb code) (queued_last ls E r k)
      (queued_last ls (E ++ h ∷ []) r k) (grows-latest r k none))
      e
  grows-tells r none (Shown u k verb code rows) e = e
  grows-tells r none (Post u k) e =
      and_kept (same_task t u) (queued_last ls E r k) (queued_last ls (E ++ h ∷ []) r k) (grows-latest r k none) e
  grows-tells r none (Ended u code) e = e
  grows-tells r none (Desk k said) e = e

  -- records that stood before, when the next line was answered
  pub recs-asked :
      (T : List ToldLine) (has has' leaving : Res → Bool) (n k : ℕ) (verb : Verb) (c : Code) (ph : Phase)
      (xs : List Rec)
      →
      ((r : Res) → has_res r xs ≡ true → has' r ≡ has r)
      → ((r : Res) → has_res r xs ≡ true → has r ≡ true → leaving r ≡ false)
      → ((r : Res) → has_res r xs ≡ true → queues r h ≡ false) →
      Each (IsRec ls E T has leaving t n phases.Ready) xs
      → Each (IsRec ls (E ++ h ∷ []) (told_after T t k verb c) has' (λ r. false) t (suc n) ph) xs
  recs-asked T has has' leaving n k verb c ph xs same stays none =
      each-kept (IsRec ls E T has leaving t n phases.Ready)
      (IsRec ls (E ++ h ∷ []) (told_after T t k verb c) has' (λ r. false) t (suc n) ph) xs (λ x among e.
      let here : has' x.res ≡ has x.res = same x.res among in
      record {
        entry = grows-on x.res (entry_of_line ls E x.line) _ (grows-line x.line) e.entry;
        latest = grows-latest x.res x.line (none x.res among) e.latest;
        low = e.low;
        high = omega (arith, e.high);
        known = e.known ∙ sym here;
        control = λ f all.
            any-after (tells_control t ls (E ++ h ∷ []) x.res) T t k verb c
            (any-kept (tells_control t ls E x.res) (tells_control t ls (E ++ h ∷ []) x.res)
            (grows-tells x.res (none x.res among)) T (e.control (sym here ∙ f) (stays x.res among (sym here ∙ f))));
        due = λ f. still x (e.due f);
      })
    where
      still : (x : Rec) → WaitsFor ls E T t n phases.Ready x
          → WaitsFor ls (E ++ h ∷ []) (told_after T t k verb c) t (suc n) ph x
      still x (inl a) = absurd (cc (a.0))
      still x (inr d) = inr (record {
        ecb = grows-ecb (entry_of_line ls E x.line) _ (grows-line x.line) d.ecb;
        coded = any-after (is_code_of t x.line) T t k verb c d.coded;
        unposted = unposted-after T t t k x.line verb c d.unposted;
      })

  -- records that stood before, when the task looked at lists
  pub recs-looked : (T : List ToldLine) (has leaving : Res → Bool) (n : ℕ) (ph : Phase) (xs : List Rec)
      → ((r : Res) → queues r h ≡ false) → Each (IsRec ls E T has leaving t n ph) xs
      → Each (IsRec ls (E ++ h ∷ []) T has leaving t n ph) xs
  recs-looked T has leaving n ph xs none =
      each-kept (IsRec ls E T has leaving t n ph) (IsRec ls (E ++ h ∷ []) T has leaving t n ph)
      xs (λ x among e. record {
        entry = grows-on x.res (entry_of_line ls E x.line) _ (grows-line x.line) e.entry;
        latest = grows-latest x.res x.line (none x.res) e.latest;
        low = e.low;
        high = e.high;
        known = e.known;
        control = λ f stays.
            any-kept (tells_control t ls E x.res) (tells_control t ls (E ++ h ∷ []) x.res)
            (grows-tells x.res (none x.res))
            T (e.control f stays);
        due = λ f. still x (e.due f);
      })
    where
      still : (x : Rec) → WaitsFor ls E T t n ph x → WaitsFor ls (E ++ h ∷ []) T t n ph x
      still x (inl a) = inl a
      still x (inr d) =
          inr (record {
            ecb = grows-ecb (entry_of_line ls E x.line) _ (grows-line x.line) d.ecb;
            coded = d.coded;
            unposted = d.unposted;
          })

-- a task's next line asks: what holds before, and which line it is
pub record Asks (ls : List Meaning) (p : Past) (T : List ToldLine) (leaving : Res → Bool) (t : TaskId) (n code : ℕ)
    (xs : List Rec) (o : Option Asked) (ws : List Row) (l : Meaning) (a : Ask) :
    Type 0 where
  pub before :
      IsTask ls p T leaving t
      (record { line = n; phase = phases.Ready; code = code; records = xs; outstanding = o; rows = ws })
  pub at : slice_get ls n ≡ Some l
  pub asks : asks_in l ≡ a ∷ []

-- and it may
pub next-asked :
    (ls : List Meaning) (p : Past) (T : List ToldLine) (leaving : Res → Bool) (t : TaskId) (n code : ℕ) (xs : List Rec)
    (o : Option Asked) (ws : List Row) (l : Meaning) (a : Ask)
    → Asks ls p T leaving t n code xs o ws l a → IsNext ls p a
next-asked ls p T leaving t n code xs o ws l a k = record {
  next =
      rw (
        k.before.phase.going.no_code,
        ap (slice_get (asks_of ls)) (k.before.count refl) ∙ asks_of-at ls n l a k.at k.asks,
      )
      refl;
  free = k.before.phase.free;
  passed =
      rw (k.before.phase.going.no_code, passed-stop ls n l a k.at k.asks (length p.asked) (k.before.count refl))
      k.before.phase.passed;
}

module _ (ls : List Meaning) (p : Past) (T : List ToldLine) (leaving : Res → Bool) (t : TaskId) (n code : ℕ)
    (xs : List Rec) (o : Option Asked) (ws : List Row) (l : Meaning) (a : Ask)
    (k : Asks ls p T leaving t n code xs o ws l a) (h : HistEntry) where
  pub of_new_line : entry_of_line ls (p.asked ++ h ∷ []) (suc n) ≡ Some h
  of_new_line =
      let line : slice_get ls (suc n - 1) ≡ Some l = ap (slice_get ls) (omega (arith)) ∙ k.at in
      let place : length (asks_of (take (suc n - 1) ls)) ≡ length p.asked =
      ap (λ m. length (asks_of (take m ls))) (omega (arith)) ∙ sym (k.before.count refl) in
      rw (line, k.asks, place) (slice_get-end p.asked h [])

  count_new : length (p.asked ++ h ∷ []) ≡ length (asks_of (take (suc n) ls))
  count_new =
      length-append p.asked (h ∷ [])
      ∙ ap (λ m. m + 1) (k.before.count refl)
      ∙ sym (length-append (asks_of (take n ls)) (a ∷ []))
      ∙ sym (ap length (asks-more ls n l a k.at k.asks))
      ∙ ap (λ m. length (asks_of (take m ls))) (add-one n)

  -- where it queues an element, its line is the last that did
  pub latest_new : (r : Res) → queues r h ≡ true → queued_last ls (p.asked ++ h ∷ []) r (suc n) ≡ true
  latest_new r q =
      and_from (queues_at r (entry_of_line ls (p.asked ++ h ∷ []) (suc n))) _ (ap (queues_at r) of_new_line ∙ q)
      (ap (λ zs. not (list_any (queues r) zs))
      (ap (λ m. drop m (p.asked ++ h ∷ [])) (sym count_new) ∙ drop-length (p.asked ++ h ∷ [])))

  ended_new : (c : Code) → code_of h ≡ c → end_among (p.asked ++ h ∷ []) ≡ end_or c None
  ended_new c e = end_among-push p.asked h k.before.phase.going.no_code ∙ ap (λ z. end_or z None) e

  -- the task afterwards, which has these elements and owns this
  module _ (ks : List (Res × Ctl)) (has : Res → Bool) where
    abbrev pub asked_past : Past
    asked_past = record { own = ks; owns = has; asked = p.asked ++ h ∷ []; last = Some h }

    passed_new : Passed ls asked_past (suc n)
    passed_new =
        let none : passed_behind (length (p.asked ++ h ∷ [])) (take (suc n) ls) ≡ [] =
        ap (λ z. passed_behind (length (p.asked ++ h ∷ [])) z)
        (ap (λ m. take m ls) (sym (add-one n)) ∙ take-more ls n l k.at)
        ∙ passed-none (take n ls) l a k.asks (length (p.asked ++ h ∷ []))
        (length-append p.asked (h ∷ []) ∙ add-one (length p.asked) ∙ ap suc (k.before.count refl)) in
        ap (list_all (may_pass asked_past)) none

    -- the phase by the code
    phase_new : (verb : Verb) (c : Code) → code_of h ≡ c
        → IsInPhase ls asked_past (told_after T t (suc n) verb c) t (suc n) (phase_after c)
    phase_new verb Wait e = record {
      going = record { no_code = ended_new Wait e; no_end = k.before.phase.going.no_end };
      passed = passed_new;
      last = h;
      is_last = refl;
      of_line = of_new_line;
      waits = e;
      unposted = unposted-new t (suc n) T k.before.posts;
    }
    phase_new verb C00 e = record {
      going = record {
        no_code = ended_new C00 e;
        no_end = no_end-after T t t (suc n) verb C00 k.before.phase.going.no_end;
      };
      free = λ w. absurd (cc);
      passed = passed_new;
    }
    phase_new verb C04 e = record {
      going = record {
        no_code = ended_new C04 e;
        no_end = no_end-after T t t (suc n) verb C04 k.before.phase.going.no_end;
      };
      free = λ w. absurd (cc);
      passed = passed_new;
    }
    phase_new verb C08 e = record {
      going = record {
        no_code = ended_new C08 e;
        no_end = no_end-after T t t (suc n) verb C08 k.before.phase.going.no_end;
      };
      free = λ w. absurd (cc);
      passed = passed_new;
    }
    phase_new verb C14 e = record {
      going = record {
        no_code = ended_new C14 e;
        no_end = no_end-after T t t (suc n) verb C14 k.before.phase.going.no_end;
      };
      free = λ w. absurd (cc);
      passed = passed_new;
    }
    phase_new verb C18 e = record {
      going = record {
        no_code = ended_new C18 e;
        no_end = no_end-after T t t (suc n) verb C18 k.before.phase.going.no_end;
      };
      free = λ w. absurd (cc);
      passed = passed_new;
    }
    phase_new verb (End c) e = record {
      no_end = no_end-after T t t (suc n) verb (End c) k.before.phase.going.no_end;
      code = ap (λ z. unwrap_or z 0) (sym (ended_new (End c) e));
      free = λ w. absurd (cc);
      all_lines = λ none. absurd (let w : Some c ≡ None = sym (ended_new (End c) e) ∙ none in cc);
    }

    not_ended_after : (c : Code) → has_ended (phase_after c) ≡ false
    not_ended_after Wait = refl
    not_ended_after C00 = refl
    not_ended_after C04 = refl
    not_ended_after C08 = refl
    not_ended_after C14 = refl
    not_ended_after C18 = refl
    not_ended_after (End c) = refl

    shown_after : (c : Code) → IsShown ls (p.asked ++ h ∷ []) (suc n) ws (phase_after c)
    shown_after Wait = k.before.shown
    shown_after C00 = k.before.shown
    shown_after C04 = k.before.shown
    shown_after C08 = k.before.shown
    shown_after C14 = k.before.shown
    shown_after C18 = k.before.shown
    shown_after (End c) = k.before.shown

    -- the task afterwards, given its records
    pub task-asked : (verb : Verb) (c : Code) (ys : List Rec) → code_of h ≡ c → map key ys ≡ ks
        → ((q : Res) → has q ≡ true → has_own q ks ≡ true) → is_distinct ys ≡ true →
        Each (IsRec ls (p.asked ++ h ∷ []) (told_after T t (suc n) verb c) has (λ r. false) t (suc n) (phase_after c))
        ys
        →
        IsTask ls asked_past (told_after T t (suc n) verb c) (λ r. false) t
        (record {
          line = suc n;
          phase = phase_after c;
          code = code_in (phase_after c) code;
          records = ys;
          outstanding = o;
          rows = ws;
        })
    task-asked verb c ys e keys owned distinct recs = record {
      keys = keys;
      owned = owned;
      distinct = distinct;
      within = slice_get_within ls n l k.at;
      count = λ u. count_new;
      records = recs;
      codes = codes-after T t (suc n) verb c k.before.codes;
      posts = posts-after T t (suc n) (suc n) verb c k.before.posts;
      phase = phase_new verb c e;
      shown = shown_after c;
      emptied = λ u. absurd (grind (arith, u, not_ended_after c));
    }
