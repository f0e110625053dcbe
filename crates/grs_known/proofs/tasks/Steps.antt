-- A task that releases, waits at a line, begins to end, or has ended.
use Rattle.std.proofs.Common.{◌≡◌, ℕ, suc, Bool, true, false, cond, not, ◌||◌, List, [], ◌∷◌, ◌++◌, map, length, take}
use Rattle.std.proofs.Common.{Option, Some, None, refl, ap, sym, ◌∙◌, subst, arith, inl, inr, add-one}
use Rattle.std.specs.Prelude.{filter, slice_get, is_some, unwrap_or, nat_lt}
use Rattle.std.specs.List.{list_any, list_all}
use Rattle.std.proofs.lemmas.Bool.{cases_Bool, lt-ltb, ltb-true, or_right}
use Rattle.std.proofs.lemmas.Option.{slice_get_past, slice_get_within}
use Rattle.std.proofs.Math.Seq.{take-length}
use Rattle.std.specs.Option.{option_or, option_map}
use Rattle.grs_base.specs.Same.{same_res, same_task}
use Rattle.grs_base.specs.declared.resource.Res.{Res}
use Rattle.grs_base.specs.declared.resource.Ctl.{Ctl}
use Rattle.grs_base.specs.declared.resource.Row.{Row}
use Rattle.grs_base.specs.declared.resource.TaskId.{TaskId}
use Rattle.grs_base.specs.declared.decision.Code.{Code}
use Rattle.grs_legal.specs.declared.meaning.Meaning.{Meaning}
use Rattle.grs_legal.specs.declared.meaning.Meaning.TheVariants as lines
use Rattle.grs_wire.specs.declared.history.HistEntry.{HistEntry}
use Rattle.task_state.specs.declared.state.Asked.{Asked}
use Rattle.grs_wire.specs.declared.told.Verb.TheVariants as verbs
use Rattle.grs_wire.specs.declared.told.ToldLine.{ToldLine}
use Rattle.grs_wire.specs.declared.told.ToldLine.TheVariants.{Coded, Shown, Post, Ended, Desk}
use Rattle.grs_wire.proofs.WantLaws.{by_res}
use Rattle.grs_legal.specs.Asks.{AsksRelease, asks_of, asks_in}
use Rattle.grs_legal.specs.Legal.{end_among, passed_behind}
use Rattle.grs_known.specs.Items.{owns_told}
use Rattle.grs_known.specs.Past.{has_own, Past, after_entry}
use Rattle.grs_wire.specs.declared.history.HistEntry.TheVariants.{Release}
use Rattle.task_state.specs.declared.state.Rec.{Rec}
use Rattle.task_state.specs.declared.state.Phase.{Phase}
use Rattle.task_state.specs.declared.state.Phase.TheVariants as phases
use Rattle.task_state.specs.View.{without_first}
use Rattle.grs_known.specs.Told.{is_code_before, is_end_of}
use Rattle.grs_known.proofs.lists.Lines.{asks-same}
use Rattle.grs_known.proofs.tasks.Invariant.{Each, key, IsRec, WaitsFor, may_pass, Passed, asks_next, IsNext, IsWaitFor}
use Rattle.grs_known.proofs.tasks.Invariant.{IsTask, is_post_before}
use Rattle.grs_known.proofs.tasks.Others.{recs-owns, recs-told}
use Rattle.grs_known.proofs.tasks.Granted.{AgreesPast, codes_later, lt_suc, passed-line, recs-phase}
use Rattle.grs_known.proofs.tasks.Keys.{has_own-other, keys-without, distinct-without, other-without, each-kept}
use Rattle.grs_known.proofs.tasks.Keys.{each-without}
use Rattle.grs_known.proofs.tasks.Decided.{owned_still, owned-left}
use Rattle.grs_known.proofs.tasks.Speaking.{queued-speaks, next-speaks}
use Rattle.grs_known.proofs.lists.Facts.{all-kept, all-more, none-more, slice_get-past}

none-filtered : (r : Res) (ks : List (Res × Ctl))
    → list_any (λ k. same_res r k.0) (filter (λ k. not (same_res r k.0)) ks) ≡ false
none-filtered r [] = refl
none-filtered r (k ∷ ks) = grind (arith, none-filtered r ks, cases_Bool (same_res r k.0))

-- a WAIT line that let the task pass lets it pass when it has released a resource
pass-released : (p : Past) (t : TaskId) (r : Res) (l : Meaning) → may_pass p l ≡ true
    → may_pass (after_entry (Release t r) p) l ≡ true
pass-released p t r (lines.Enq q c ret unit) h = refl
pass-released p t r (lines.Deq q have) h = refl
pass-released p t r (lines.Wait q) h = by_res q r _
    (λ same.
    or_right (owns_told (Release t r) p.owns q) _
    (ap not (ap (λ z. has_own z (filter (λ k. not (same_res r k.0)) p.own)) same ∙ none-filtered r p.own)))
    (λ apart. rw (owned_still (p.owns q) (same_res q r) false apart refl, has_own-other q r p.own apart) h)
pass-released p t r (lines.Shows d) h = refl
pass-released p t r lines.Nothing h = refl

-- an ending task that released a resource
pub task-released :
    (ls : List Meaning) (p : Past) (T : List ToldLine) (leaving : Res → Bool) (t : TaskId) (n c code : ℕ)
    (xs : List Rec) (o : Option Asked) (ws : List Row) (r : Res)
    → ((q : Res) → same_res q r ≡ false → leaving q ≡ false) →
    IsTask ls p T leaving t
    (record { line = n; phase = phases.Ending c; code = code; records = xs; outstanding = o; rows = ws })
    →
    IsTask ls (after_entry (Release t r) p) T (λ q. false) t
    (record {
      line = n;
      phase = phases.Ending c;
      code = code;
      records = without_first xs r;
      outstanding = o;
      rows = ws;
    })
task-released ls p T leaving t n c code xs o ws r others k = record {
  keys = keys-without r xs k.distinct ∙ ap (filter (λ z. not (same_res r z.0))) k.keys;
  owned = λ q o. owned-left p.own r q (p.owns q) (k.owned q) o;
  distinct = distinct-without r xs k.distinct;
  within = k.within;
  count = k.count;
  records =
      recs-owns ls p.asked T p.owns (owns_told (Release t r) p.owns) leaving (λ q. false) t n (phases.Ending c)
      (without_first xs r)
      (λ q has. owned_still (p.owns q) (same_res q r) false (other-without q r xs k.distinct has) refl)
      (λ q has e s. others q (other-without q r xs k.distinct has))
      (each-without (IsRec ls p.asked T p.owns leaving t n (phases.Ending c)) r xs k.records);
  codes = k.codes;
  posts = k.posts;
  phase = record {
    no_end = k.phase.no_end;
    code = k.phase.code;
    free = λ w. absurd (cc);
    all_lines = λ e. (
      (k.phase.all_lines e).0,
      all-kept (may_pass p) (may_pass (after_entry (Release t r) p)) (pass-released p t r)
          (passed_behind (length p.asked) (take n ls)) (k.phase.all_lines e).1,
    );
  };
  shown = k.shown;
  emptied = λ e. absurd (cc);
}

-- records of a task that has taken one more line, which asked nothing
pub recs-line :
    (ls : List Meaning) (E : List HistEntry) (T : List ToldLine) (has leaving : Res → Bool) (t : TaskId) (n : ℕ)
    (ph : Phase) (xs : List Rec)
    → Each (IsRec ls E T has leaving t n phases.Ready) xs → Each (IsRec ls E T has leaving t (suc n) ph) xs
recs-line ls E T has leaving t n ph xs =
    each-kept (IsRec ls E T has leaving t n phases.Ready) (IsRec ls E T has leaving t (suc n) ph) xs
    (λ x among h. record {
      entry = h.entry;
      latest = h.latest;
      low = h.low;
      high = omega (arith, h.high);
      known = h.known;
      control = h.control;
      due = λ u. still x (h.due u);
    })
  where
    still : (x : Rec) → WaitsFor ls E T t n phases.Ready x → WaitsFor ls E T t (suc n) ph x
    still x (inl a) = absurd (cc (a.0))
    still x (inr d) = inr d

posts_later : (t : TaskId) (n : ℕ) (l : ToldLine) → is_post_before t n l ≡ true → is_post_before t (suc n) l ≡ true
posts_later t n (Coded u j part v code) e = refl
posts_later t n (Post u j) e =
    or_later (not (same_task t u)) (nat_lt j n) (nat_lt j (suc n))
    (λ f. lt-ltb j (suc n) (omega (arith, ltb-true j n f))) e
  where
    or_later : (a b c : Bool) → (b ≡ true → c ≡ true) → (a || b) ≡ true → (a || c) ≡ true
    or_later true b c f g = refl
    or_later false b c f g = f g
posts_later t n (Ended u code) e = refl
posts_later t n (Shown u j verb code rows) e = refl
posts_later t n (Desk j said) e = refl

pub all-posts_later : (t : TaskId) (n : ℕ) (T : List ToldLine) → list_all (is_post_before t n) T ≡ true
    → list_all (is_post_before t (suc n)) T ≡ true
all-posts_later t n T h = all-kept (is_post_before t n) (is_post_before t (suc n)) (posts_later t n) T h

module _ (ls : List Meaning) (p : Past) (T : List ToldLine) (leaving : Res → Bool) (t : TaskId) (n code : ℕ)
    (xs : List Rec) (o : Option Asked) (ws : List Row) (l : Meaning)
    (k :
    IsTask ls p T leaving t
    (record { line = n; phase = phases.Ready; code = code; records = xs; outstanding = o; rows = ws }))
    (at : slice_get ls n ≡ Some l) (asks : asks_in l ≡ []) where
  count_same : length p.asked ≡ length (asks_of (take (suc n) ls))
  count_same =
      k.count refl ∙ sym (ap length (asks-same ls n l at asks)) ∙ ap (λ m. length (asks_of (take m ls))) (add-one n)

  passed_line : may_pass p l ≡ true → Passed ls p (suc n)
  passed_line lets =
      subst (λ m. Passed ls p m) (add-one n) (passed-line ls p n l at asks (k.count refl) lets k.phase.passed)

  -- a line that asks nothing and lets the task pass, untold
  pub task-skipped : may_pass p l ≡ true
      → IsTask ls p T leaving t
      (record { line = suc n; phase = phases.Ready; code = code; records = xs; outstanding = o; rows = ws })
  task-skipped lets = record {
    keys = k.keys;
    owned = k.owned;
    distinct = k.distinct;
    within = slice_get_within ls n l at;
    count = λ e. count_same;
    records = recs-line ls p.asked T p.owns leaving t n phases.Ready xs k.records;
    codes = codes_later t (suc n) T k.codes;
    posts = all-posts_later t (suc n) T k.posts;
    phase = record { going = k.phase.going; free = k.phase.free; passed = passed_line lets };
    shown = k.shown;
    emptied = λ e. absurd (cc);
  }

  -- a WAIT line that lets the task pass, told by its code
  pub task-waited : (c : Code) → may_pass p l ≡ true
      → IsTask ls p (T ++ Coded t (suc n) 0 verbs.Wait c ∷ []) leaving t
      (record { line = suc n; phase = phases.Ready; code = code; records = xs; outstanding = o; rows = ws })
  task-waited c lets = record {
    keys = k.keys;
    owned = k.owned;
    distinct = k.distinct;
    within = slice_get_within ls n l at;
    count = λ e. count_same;
    records =
        recs-told ls p.asked T p.owns leaving t (suc n) phases.Ready (Coded t (suc n) 0 verbs.Wait c) xs (λ j. refl)
        (recs-line ls p.asked T p.owns leaving t n phases.Ready xs k.records);
    codes =
        all-more (is_code_before t (suc (suc n))) T _ (codes_later t (suc n) T k.codes)
        (or_right (not (same_task t t)) _ (lt_suc (suc n)));
    posts = all-more (is_post_before t (suc (suc n))) T _ (all-posts_later t (suc n) T k.posts) refl;
    phase = record {
      going = record {
        no_code = k.phase.going.no_code;
        no_end = none-more (is_end_of t) T _ k.phase.going.no_end refl;
      };
      free = k.phase.free;
      passed = passed_line lets;
    };
    shown = k.shown;
    emptied = λ e. absurd (cc);
  }

  -- a WAIT line that holds the task
  pub task-held : (r : Res) → IsWaitFor r (Some l)
      → IsTask ls p T leaving t
      (record { line = suc n; phase = phases.HeldLine r; code = code; records = xs; outstanding = o; rows = ws })
  task-held r waits = record {
    keys = k.keys;
    owned = k.owned;
    distinct = k.distinct;
    within = slice_get_within ls n l at;
    count = λ e. count_same;
    records = recs-line ls p.asked T p.owns leaving t n (phases.HeldLine r) xs k.records;
    codes = k.codes;
    posts = all-posts_later t (suc n) T k.posts;
    phase = record {
      going = k.phase.going;
      free = k.phase.free;
      begun = omega arith;
      at = subst (IsWaitFor r) (sym (ap (slice_get ls) (omega (arith)) ∙ at)) waits;
      passed = subst (λ m. Passed ls p m) (omega (arith)) k.phase.passed;
    };
    shown = k.shown;
    emptied = λ e. absurd (cc);
  }

-- a task without lines left begins to end
pub task-ending :
    (ls : List Meaning) (p : Past) (T : List ToldLine) (leaving : Res → Bool) (t : TaskId) (n code : ℕ) (xs : List Rec)
    (o : Option Asked) (ws : List Row)
    →
    IsTask ls p T leaving t
    (record { line = n; phase = phases.Ready; code = code; records = xs; outstanding = o; rows = ws })
    → slice_get ls n ≡ None →
    IsTask ls p T leaving t
    (record { line = n; phase = phases.Ending 0; code = 0; records = xs; outstanding = o; rows = ws })
task-ending ls p T leaving t n code xs o ws k past_end = record {
  keys = k.keys;
  owned = k.owned;
  distinct = k.distinct;
  within = k.within;
  count = λ e. k.count refl;
  records = recs-phase ls p.asked T p.owns leaving t n phases.Ready (phases.Ending 0) refl xs k.records;
  codes = k.codes;
  posts = k.posts;
  phase = record {
    no_end = k.phase.going.no_end;
    code = ap (λ z. unwrap_or z 0) (sym k.phase.going.no_code);
    free = k.phase.free;
    all_lines = λ e. (omega (arith, k.within, slice_get-past ls n past_end), k.phase.passed);
  };
  shown = k.shown;
  emptied = λ e. absurd (cc);
}

-- an ending task asks for the release of its first resource on record, and may
module _ (ls : List Meaning) (p : Past) (T : List ToldLine) (leaving : Res → Bool) (t : TaskId) (n c code : ℕ)
    (xs : List Rec) (o : Option Asked) (ws : List Row)
    (k :
    IsTask ls p T leaving t
    (record { line = n; phase = phases.Ending c; code = code; records = xs; outstanding = o; rows = ws })) where
  next-release : asks_next ls p ≡ option_map AsksRelease (slice_get (map (λ (y : Rec). y.res) xs) 0)
  next-release =
      ap (λ z. option_or z (option_map AsksRelease (slice_get (map (λ z. z.0) p.own) 0)))
      (no_line (end_among p.asked) refl)
      ∙ ap (λ z. option_map AsksRelease (slice_get z 0)) (ap (map (λ z. z.0)) (sym k.keys) ∙ fused xs)
    where
      fused : (ys : List Rec) → map (λ z. z.0) (map key ys) ≡ map (λ (y : Rec). y.res) ys
      fused [] = refl
      fused (y ∷ ys) = ap (λ zs. y.res ∷ zs) (fused ys)

      no_line : (e : Option ℕ) → end_among p.asked ≡ e
          → cond (is_some e) None (slice_get (asks_of ls) (length p.asked)) ≡ None
      no_line (Some m) e = refl
      no_line None e =
          slice_get_past (asks_of ls) (length p.asked) (omega (
            arith,
            k.count refl,
            ap (λ m. length (asks_of (take m ls))) (k.phase.all_lines e).0,
            ap (λ zs. length (asks_of zs)) (take-length ls),
          ))

  pub next-ending : (r : Res) → slice_get (map (λ (y : Rec). y.res) xs) 0 ≡ Some r → IsNext ls p (AsksRelease r)
  next-ending r first = record {
    next = next-release ∙ ap (option_map AsksRelease) first;
    free = k.phase.free;
    passed = by_end (end_among p.asked) refl;
  }
    where
      by_end : (e : Option ℕ) → end_among p.asked ≡ e
          → list_all (may_pass p) (cond (is_some e) [] (passed_behind (length p.asked) ls)) ≡ true
      by_end (Some m) f = refl
      by_end None f =
          let a = k.phase.all_lines f in
          subst (λ zs. list_all (may_pass p) (passed_behind (length p.asked) zs) ≡ true)
          (ap (λ m. take m ls) a.0 ∙ take-length ls) a.1

-- a task with nothing on record has ended
pub task-ended :
    (ls : List Meaning) (p : Past) (T : List ToldLine) (leaving : Res → Bool) (t : TaskId) (n c code : ℕ)
    (o : Option Asked) (ws : List Row)
    →
    IsTask ls p T leaving t
    (record { line = n; phase = phases.Ending c; code = code; records = []; outstanding = o; rows = ws })
    →
    IsTask ls p (T ++ Ended t c ∷ []) leaving t
    (record { line = n; phase = phases.Ended; code = code; records = []; outstanding = o; rows = ws })
    × AgreesPast ls p T t (Ended t c)
task-ended ls p T leaving t n c code o ws k = (
  record {
    keys = k.keys;
    owned = k.owned;
    distinct = k.distinct;
    within = k.within;
    count = λ e. k.count refl;
    records = tt;
    codes = all-more (is_code_before t (suc n)) T _ k.codes refl;
    posts = all-more (is_post_before t (suc n)) T _ k.posts refl;
    phase = tt;
    shown = k.shown;
    emptied = λ e. refl;
  },
  λ limit P s. (
    queued-speaks limit t p P s ∙ ap (map (λ z. z.0)) (sym k.keys),
    next-speaks limit t p P s ls ∙ next-release ls p T leaving t n c code [] o ws k,
    k.phase.code ∙ ap (λ es. unwrap_or (end_among es) 0) (sym s.asked),
    k.phase.no_end,
  ),
)
