-- The first line of an entry says who asks.
use Rattle.std.proofs.Common.{◌≡◌, ◌<◌, ◌+◌, ◌^◌, ℕ, zero, suc, Bool, true, false, cond, not, ◌&&◌, ◌||◌, List, [], ◌∷◌}
use Rattle.std.proofs.Common.{◌++◌, length, get_or, Option, Some, None, refl, ap, sym, subst, ◌∙◌, append_assoc, append-nil}
use Rattle.std.specs.Prelude.{All, codes, slice_get}
use Rattle.std.specs.List.{list_any}
use Rattle.std.proofs.lemmas.Bool.{eqb-true}
use Rattle.std.proofs.lemmas.List.Elements.{All-head, All-tail}
use Rattle.std.proofs.lemmas.Option.{slice_get-get_or}
use Rattle.std.specs.Fmt.{decimal}
use Rattle.std.specs.List.{flat_map}
use Rattle.grs_base.specs.declared.resource.SysId.{SysId}
use Rattle.grs_base.specs.declared.resource.TaskId.{TaskId}
use Rattle.grs_wire.specs.Decks.{IsDeck, IsOrderOf, AreOrders}
use Rattle.grs_wire.specs.declared.deck.Desk.{Desk}
use Rattle.grs_wire.specs.declared.deck.Order.{Order}
use Rattle.grs_wire.specs.declared.deck.Order.TheVariants.{Star, Vary}
use Rattle.grs_wire.specs.declared.deck.SystemDef.{SystemDef}
use Rattle.grs_wire.specs.declared.history.HistEntry.{HistEntry}
use Rattle.grs_wire.specs.declared.history.HistEntry.TheVariants.{Enq, Deq, Release, Look, Remove}
use Rattle.grs_wire.specs.declared.seen.Names.{Names}
use Rattle.grs_deck.specs.Places.{system_at, task_in}
use Rattle.grs_display.specs.Lines.{line, spaced}
use Rattle.grs_display.specs.Names.{names_of, name_at, name_in, task_in_job, task_word}
use Rattle.grs_display.specs.Rows.{row_line}
use Rattle.grs_legal.specs.Asks.{lines_of}
use Rattle.grs_legal.specs.Legal.{commands_removal, is_removal_of}
use Rattle.grs_legal.specs.declared.meaning.Meaning.{Meaning}
use Rattle.grs_report.specs.History.{history_line}
use Rattle.grs_audit.proofs.NamedAgain.{IsFound, IsTaskFound, found, task_found}
use Rattle.grs_track.specs.Tracks.{TracksView, next_of, next_in, next_removal, may_remove, is_removed, MayCome}
use Rattle.grs_audit.specs.Lines.{front, behind, holds}
use Rattle.grs_audit.specs.Words.{asker_word, behind_asker, next_by_line, next_by_system, next_of_task, removal_of}
use Rattle.grs_audit.proofs.LineLaws.{front-past, behind-past, front-over, front-none, holds-past, holds-there}
use Rattle.grs_audit.proofs.LineLaws.{both, name-no-blank, name-no-point, name-no-end, number-no-blank}
use Rattle.grs_audit.proofs.LineLaws.{number-no-end}
use Rattle.grs_audit.proofs.TaskLaws.{IsOfSystem, has-system}

-- ---- what a line is like
-- a line that begins with H, a number, and who asks
abbrev pub asked_line : ℕ → List ℕ → List ℕ → List ℕ
asked_line m w rest = 72 ∷ 32 ∷ (decimal m ++ 32 ∷ (w ++ 32 ∷ rest))

pub record IsAsked (m : ℕ) (w text : List ℕ) : Type 0 where
  pub rest : List ℕ
  pub is : text ≡ asked_line m w rest

words-line : (d w k : List ℕ) (ks : List (List ℕ))
    → line (codes "H" ∷ d ∷ w ∷ k ∷ ks) ≡ 72 ∷ 32 ∷ (d ++ 32 ∷ (w ++ 32 ∷ ((k ++ spaced ks) ++ 10 ∷ [])))
unfolding line
words-line d w k ks =
    ap (λ x. 72 ∷ 32 ∷ x)
    (append_assoc d (32 ∷ (w ++ spaced (k ∷ ks))) (10 ∷ [])
    ∙ ap (λ x. d ++ 32 ∷ x) (append_assoc w (spaced (k ∷ ks)) (10 ∷ [])))

line-asked : (m : ℕ) (w k : List ℕ) (ks : List (List ℕ)) → IsAsked m w (line (codes "H" ∷ decimal m ∷ w ∷ k ∷ ks))
line-asked m w k ks = record { rest = (k ++ spaced ks) ++ 10 ∷ []; is = words-line (decimal m) w k ks }

asked-more : (m : ℕ) (w text more : List ℕ) → IsAsked m w text → IsAsked m w (text ++ more)
asked-more m w text more a = record {
  rest = a.rest ++ more;
  is =
      ap (λ x. x ++ more) a.is
      ∙ ap (λ x. 72 ∷ 32 ∷ x)
      (append_assoc (decimal m) (32 ∷ (w ++ 32 ∷ a.rest)) more
      ∙ ap (λ x. decimal m ++ 32 ∷ x) (append_assoc w (32 ∷ a.rest) more));
}

-- who asks by an entry
abbrev pub asker : Names → HistEntry → List ℕ
asker names (Enq t r c ret code) = task_word names t
asker names (Deq t r have code) = task_word names t
asker names (Release t r) = task_word names t
asker names (Look t place filter rows) = task_word names t
asker names (Remove by target) = name_at names.systems by.0

pub entry-asked : (names : Names) (m : ℕ) (h : HistEntry) → IsAsked m (asker names h) (history_line names m h)
unfolding history_line
entry-asked names m (Enq t r c ret code) = line-asked m (task_word names t) (codes "ENQ") _
entry-asked names m (Deq t r have code) = line-asked m (task_word names t) (codes "DEQ") _
entry-asked names m (Release t r) = line-asked m (task_word names t) (codes "RELEASE") _
entry-asked names m (Look t place filter rows) =
    asked-more m (task_word names t) _ (flat_map (row_line names 82) rows)
    (line-asked m (task_word names t) (codes "LOOK") _)
entry-asked names m (Remove by target) = line-asked m (name_at names.systems by.0) (codes "REMOVE") _

-- the words of its first line
module _ (m : ℕ) (w text rest : List ℕ) (small : m < 2 ^ 64) (blank : holds 32 w ≡ false) (ending : holds 10 w ≡ false)
    (is : text ≡ asked_line m w rest) where
  first-is : front 10 text ≡ asked_line m w (front 10 rest)
  first-is =
      ap (front 10) is
      ∙ ap (λ x. 72 ∷ 32 ∷ x)
      (front-over 10 (decimal m) (32 ∷ (w ++ 32 ∷ rest)) (number-no-end m small)
      ∙ ap (λ x. decimal m ++ 32 ∷ x) (front-over 10 w (32 ∷ rest) ending))

  word-is : asker_word (front 10 text) ≡ w
  word-is =
      ap asker_word first-is
      ∙ ap (front 32) (behind-past 32 (decimal m) (w ++ 32 ∷ front 10 rest) (number-no-blank m small))
      ∙ front-past 32 w (front 10 rest) blank

  rest-is : behind_asker (front 10 text) ≡ front 10 rest
  rest-is =
      ap behind_asker first-is
      ∙ ap (behind 32) (behind-past 32 (decimal m) (w ++ 32 ∷ front 10 rest) (number-no-blank m small))
      ∙ behind-past 32 w (front 10 rest) blank

-- ---- a task's word
module _ (v : TracksView) (is : IsDeck v.deck) (t : TaskId) (s : IsOfSystem v.deck t) where
  own_system : IsFound v.deck t.system.0 s.system
  own_system = found v.deck t.system.0 s.system is s.there

  own_task : IsTaskFound v.deck t.system s.system t
  own_task = task_found v.deck t.system s.system t is s.there s.task

  -- the names of its system, its job and its own
  abbrev names_word : List ℕ
  names_word = s.system.name ++ 46 ∷ (own_task.job ++ 46 ∷ own_task.task)

  word-parts : task_word (names_of v.deck) t ≡ names_word
  unfolding task_word task_in_job
  word-parts =
      ap (λ x. x ++ 46 ∷ task_in_job (names_of v.deck) t) own_system.word
      ∙ ap (λ x. s.system.name ++ 46 ∷ (x ++ 46 ∷ name_in (names_of v.deck).tasks t.system.0 t.task)) own_task.job_word
      ∙ ap (λ x. s.system.name ++ 46 ∷ (own_task.job ++ 46 ∷ x)) own_task.task_word

  word-no-blank : holds 32 (task_word (names_of v.deck) t) ≡ false
  word-no-blank =
      ap (holds 32) word-parts
      ∙ holds-past 32 46 s.system.name (own_task.job ++ 46 ∷ own_task.task)
      (name-no-blank s.system.name own_system.short) refl
      (holds-past 32 46 own_task.job own_task.task (name-no-blank own_task.job own_task.job_short) refl
      (name-no-blank own_task.task own_task.task_short))

  word-no-end : holds 10 (task_word (names_of v.deck) t) ≡ false
  word-no-end =
      ap (holds 10) word-parts
      ∙ holds-past 10 46 s.system.name (own_task.job ++ 46 ∷ own_task.task)
      (name-no-end s.system.name own_system.short) refl
      (holds-past 10 46 own_task.job own_task.task (name-no-end own_task.job own_task.job_short) refl
      (name-no-end own_task.task own_task.task_short))

  abbrev removal : List ℕ → Option HistEntry
  removal l = removal_of v t.system (system_at v.deck.systems (behind 32 (behind_asker l)))

  abbrev by_word : List ℕ → List ℕ → Option HistEntry
  by_word l x =
      cond (holds 46 x)
      (next_of_task v (task_in t.system s.system (front 46 (behind 46 x)) (behind 46 (behind 46 x)))) (removal l)

  own-word : (l : List ℕ) → asker_word l ≡ task_word (names_of v.deck) t → next_by_line v l ≡ next_of v t
  own-word l word =
      ap (λ x. next_by_system v l (system_at v.deck.systems (front 46 x))) (word ∙ word-parts)
      ∙ ap (λ x. next_by_system v l (system_at v.deck.systems x))
      (front-past 46 s.system.name (own_task.job ++ 46 ∷ own_task.task) (name-no-point s.system.name own_system.short))
      ∙ ap (next_by_system v l) own_system.at
      ∙ ap (by_word l) (word ∙ word-parts)
      ∙ ap (λ b. cond b
      (next_of_task v (task_in t.system s.system (front 46 (behind 46 names_word)) (behind 46 (behind 46 names_word))))
      (removal l)) (holds-there 46 s.system.name (own_task.job ++ 46 ∷ own_task.task))
      ∙ ap (λ x. next_of_task v (task_in t.system s.system (front 46 x) (behind 46 x)))
      (behind-past 46 s.system.name (own_task.job ++ 46 ∷ own_task.task) (name-no-point s.system.name own_system.short))
      ∙ ap (λ x. next_of_task v (task_in t.system s.system x (behind 46 (own_task.job ++ 46 ∷ own_task.task))))
      (front-past 46 own_task.job own_task.task (name-no-point own_task.job own_task.job_short))
      ∙ ap (λ x. next_of_task v (task_in t.system s.system own_task.job x))
      (behind-past 46 own_task.job own_task.task (name-no-point own_task.job own_task.job_short))
      ∙ ap (next_of_task v) own_task.at

-- what a task may ask is asked by a task with lines
of-system : (v : TracksView) (t : TaskId) (h : HistEntry) → next_of v t ≡ Some h → IsOfSystem v.deck t
of-system v t h e = go (is_removed v.removed t.system) (lines_of v.deck t) refl e
  where
    go : (b : Bool) (o : Option (List Meaning)) → lines_of v.deck t ≡ o
        → cond b None (next_in v.deck.limit v.lists t (v.tracks t) o) ≡ Some h → IsOfSystem v.deck t
    go true o of f = absurd (cc)
    go false None of f = absurd (cc)
    go false (Some ms) of f = has-system v.deck t ms of

-- by the first line of a task's entry it may ask just that
task-next : (v : TracksView) (m : ℕ) (t : TaskId) (h : HistEntry) (text : List ℕ) → IsDeck v.deck → m < 2 ^ 64
    → next_of v t ≡ Some h → IsAsked m (task_word (names_of v.deck) t) text
    → next_by_line v (front 10 text) ≡ Some h
task-next v m t h text is small e a =
    let s = of-system v t h e in
    own-word v is t s (front 10 text)
    (word-is m (task_word (names_of v.deck) t) text a.rest small (word-no-blank v is t s) (word-no-end v is t s) a.is)
    ∙ e

-- ---- a removal's words
order-there : (n i : ℕ) (target : SysId) (o : Order) → IsOrderOf n i o → is_removal_of target o ≡ true → target.0 < n
order-there n i target Star of e = absurd (cc)
order-there n i target (Vary named) of e = subst (λ x. x < n) (sym (eqb-true target.0 named.0 e)) of.0

desk-there : (n i : ℕ) (target : SysId) (cs : List Desk) → All (λ (c : Desk). IsOrderOf n i c.order) cs
    → list_any (λ c. is_removal_of target c.order) cs ≡ true → target.0 < n
desk-there n i target [] all e = absurd (cc)
desk-there n i target (c ∷ cs) all e =
    by_test (is_removal_of target c.order) refl
    (λ f. desk-there n i target cs (All-tail (λ (c : Desk). IsOrderOf n i c.order) c cs all) f) e
  where
    by_test : (b : Bool) → is_removal_of target c.order ≡ b
        → (list_any (λ c. is_removal_of target c.order) cs ≡ true → target.0 < n)
        → (b || list_any (λ c. is_removal_of target c.order) cs) ≡ true → target.0 < n
    by_test true this behind f =
        order-there n i target c.order (All-head (λ (c : Desk). IsOrderOf n i c.order) c cs all) this
    by_test false this behind f = behind f

commanded-there : (n i k : ℕ) (target : SysId) (ds : List SystemDef) → AreOrders n i ds
    → commands_removal target (slice_get ds k) ≡ true → target.0 < n
commanded-there n i k target [] os e = absurd (cc)
commanded-there n i zero target (d ∷ ds) os e = desk-there n i target d.desk os.0 e
commanded-there n i (suc k) target (d ∷ ds) os e = commanded-there n (i + 1) k target ds os.1 e

abbrev no_system : SystemDef
no_system = record { name = []; desk = []; jobs = [] }

-- a system that commands a removal is there
by-there : (target : SysId) (o : Option SystemDef) → commands_removal target o ≡ true → (s : SystemDef) × (o ≡ Some s)
by-there target None e = absurd (cc)
by-there target (Some s) e = (s, refl)

module _ (v : TracksView) (m : ℕ) (by target : SysId) (is : IsDeck v.deck) (small : m < 2 ^ 64)
    (may : may_remove v by target ≡ true) where
  commanded : commands_removal target (slice_get v.deck.systems by.0) ≡ true
  commanded = (both _ _ (both (not (is_removed v.removed by) && not (is_removed v.removed target)) _ may).1).1

  by_def : (s : SystemDef) × (slice_get v.deck.systems by.0 ≡ Some s)
  by_def = by-there target (slice_get v.deck.systems by.0) commanded

  abbrev target_def : SystemDef
  target_def = get_or v.deck.systems target.0 no_system

  target-at : slice_get v.deck.systems target.0 ≡ Some target_def
  target-at =
      slice_get-get_or v.deck.systems target.0 no_system
      (commanded-there (length v.deck.systems) 0 by.0 target v.deck.systems is.orders commanded)

  by_found : IsFound v.deck by.0 by_def.0
  by_found = found v.deck by.0 by_def.0 is by_def.1

  target_found : IsFound v.deck target.0 target_def
  target_found = found v.deck target.0 target_def is target-at

  abbrev by_name : List ℕ
  by_name = name_at (names_of v.deck).systems by.0

  abbrev target_name : List ℕ
  target_name = name_at (names_of v.deck).systems target.0

  abbrev removal_rest : List ℕ
  removal_rest = (codes "REMOVE" ++ spaced (target_name ∷ [])) ++ 10 ∷ []

  removal-text : history_line (names_of v.deck) m (Remove by target) ≡ asked_line m by_name removal_rest
  unfolding history_line
  removal-text = words-line (decimal m) by_name (codes "REMOVE") (target_name ∷ [])

  abbrev removal_line : List ℕ
  removal_line = front 10 (history_line (names_of v.deck) m (Remove by target))

  by-blank : holds 32 by_name ≡ false
  by-blank = ap (holds 32) by_found.word ∙ name-no-blank by_def.0.name by_found.short

  by-end : holds 10 by_name ≡ false
  by-end = ap (holds 10) by_found.word ∙ name-no-end by_def.0.name by_found.short

  by-word : asker_word removal_line ≡ by_def.0.name
  by-word =
      word-is m by_name (history_line (names_of v.deck) m (Remove by target)) removal_rest small by-blank by-end
      removal-text
      ∙ by_found.word

  target-word : behind 32 (behind_asker removal_line) ≡ target_def.name
  target-word =
      ap (behind 32)
      (rest-is m by_name (history_line (names_of v.deck) m (Remove by target)) removal_rest small by-blank by-end
      removal-text)
      ∙ ap (λ x. front 10 (x ++ 10 ∷ [])) (append-nil target_name ∙ target_found.word)
      ∙ front-past 10 target_def.name [] (name-no-end target_def.name target_found.short)

  abbrev task_by : List ℕ → Option HistEntry
  task_by x = next_of_task v (task_in by by_def.0 (front 46 (behind 46 x)) (behind 46 (behind 46 x)))

  removal-next : next_by_line v removal_line ≡ Some (Remove by target)
  removal-next =
      ap (λ x. next_by_system v removal_line (system_at v.deck.systems (front 46 x))) by-word
      ∙ ap (λ x. next_by_system v removal_line (system_at v.deck.systems x))
      (front-none 46 by_def.0.name (name-no-point by_def.0.name by_found.short))
      ∙ ap (next_by_system v removal_line) by_found.at
      ∙ ap (λ x. cond (holds 46 x) (task_by (asker_word removal_line))
      (removal_of v by (system_at v.deck.systems (behind 32 (behind_asker removal_line))))) by-word
      ∙ ap (λ b. cond b (task_by (asker_word removal_line))
      (removal_of v by (system_at v.deck.systems (behind 32 (behind_asker removal_line)))))
      (name-no-point by_def.0.name by_found.short)
      ∙ ap (λ x. removal_of v by (system_at v.deck.systems x)) target-word
      ∙ ap (removal_of v by) target_found.at
      ∙ ap (λ b. cond b (Some (Remove by target)) None) may

-- ---- an entry that may come is the one that its first line says
may-of : (v : TracksView) (by target : SysId) → next_removal v by target ≡ Some (Remove by target)
    → may_remove v by target ≡ true
may-of v by target e = go (may_remove v by target) e
  where
    go : (b : Bool) → cond b (Some (Remove by target)) None ≡ Some (Remove by target) → b ≡ true
    go true f = refl
    go false f = absurd (cc)

pub says-next : (v : TracksView) (m : ℕ) (h : HistEntry) → IsDeck v.deck → m < 2 ^ 64 → MayCome v h
    → next_by_line v (front 10 (history_line (names_of v.deck) m h)) ≡ Some h
says-next v m (Enq t r c ret code) is small e =
    task-next v m t (Enq t r c ret code) _ is small e (entry-asked (names_of v.deck) m (Enq t r c ret code))
says-next v m (Deq t r have code) is small e =
    task-next v m t (Deq t r have code) _ is small e (entry-asked (names_of v.deck) m (Deq t r have code))
says-next v m (Release t r) is small e =
    task-next v m t (Release t r) _ is small e (entry-asked (names_of v.deck) m (Release t r))
says-next v m (Look t place filter rows) is small e =
    task-next v m t (Look t place filter rows) _ is small e
    (entry-asked (names_of v.deck) m (Look t place filter rows))
says-next v m (Remove by target) is small e = removal-next v m by target is small (may-of v by target e)
