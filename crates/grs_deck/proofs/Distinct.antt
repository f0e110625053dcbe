-- No statement gives a name that stands already: no two systems have one name, nor two jobs of a system, nor two
-- tasks of a job.
use Rattle.std.proofs.Common.{◌≡◌, ℕ, ◌+◌, ◌≤◌, Bool, true, false, cond, not, ltb, List, [], ◌∷◌, ◌++◌, length, map}
use Rattle.std.proofs.Common.{Option, Some, None, suc, refl, sym, ap, subst, arith}
use Rattle.std.specs.Prelude.{All, ◌≢◌}
use Rattle.std.specs.Str.{bytes_eq}
use Rattle.std.specs.List.{position, position_or_len}
use Rattle.std.proofs.lemmas.Bool.{ltb-false}
use Rattle.std.proofs.lemmas.List.{map-append}
use Rattle.std.proofs.lemmas.List.Elements.{All-nil, All-cons, All-push, All-tail}
use Rattle.std.proofs.lemmas.List.Quantifiers.{all_pairs_push}
use Rattle.std.proofs.lemmas.Slice.Eq.{bytes_eq-Decides}
use Rattle.grs_base.specs.declared.line.Line.{Line}
use Rattle.grs_wire.specs.declared.deck.Desk.{Desk}
use Rattle.grs_wire.specs.declared.deck.Order.{Order}
use Rattle.grs_wire.specs.declared.deck.TaskDef.{TaskDef}
use Rattle.grs_wire.specs.declared.deck.JobDef.{JobDef}
use Rattle.grs_wire.specs.declared.deck.SystemDef.{SystemDef}
use Rattle.grs_wire.specs.declared.deck.Event.{Event}
use Rattle.grs_wire.specs.declared.deck.Deck.{Deck}
use Rattle.grs_wire.specs.Decks.{AreDistinct, IsNamedOnce, AreNamedOnce}
use Rattle.deck_form.specs.declared.form.Stmt.{Stmt}
use Rattle.deck_form.specs.declared.form.Stmt.TheVariants as stmts
use Rattle.job_syntax.specs.Lines.{line_of}
use Rattle.grs_deck.specs.declared.judge.Draft.{Draft}
use Rattle.grs_deck.specs.Places.{at_last, jobs_now, tasks_now, system_place, job_place, task_place, place_ordered}
use Rattle.grs_deck.specs.Places.{event_of}
use Rattle.grs_deck.specs.Grow.{on_last, add_command, add_order, add_job, add_task, add_line, in_jobs, in_tasks}
use Rattle.grs_deck.specs.Grow.{order_by, with_event, grow}
use Rattle.grs_deck.specs.Spells.{MayStand}

-- ---- one name more

pub differs : (a b : List ℕ) → bytes_eq a b ≡ false → a ≢ b
differs a b h same = let k : bytes_eq a b ≡ true = (bytes_eq-Decides a b).1 same in absurd cc

others : {A : Type 0} (g : A → List ℕ) (n : List ℕ) (xs : List A)
    → length xs ≤ position_or_len (λ x. bytes_eq (g x) n) xs → All (λ m. m ≢ n) (map g xs)
others g n [] h = All-nil (λ m. m ≢ n)
others g n (x ∷ xs) h = go (bytes_eq (g x) n) refl h (others g n xs)
  where
    go : (b : Bool) → bytes_eq (g x) n ≡ b
        → suc (length xs) ≤ cond (not b) (1 + position_or_len (λ x. bytes_eq (g x) n) xs) 0
        → (length xs ≤ position_or_len (λ x. bytes_eq (g x) n) xs → All (λ m. m ≢ n) (map g xs))
        → All (λ m. m ≢ n) (g x ∷ map g xs)
    go true is k more = absurd (omega (arith, k))
    go false is k more = All-cons (λ m. m ≢ n) (g x) (map g xs) (differs (g x) n is) (more (omega (arith, k)))

none_of : {A : Type 0} (g : A → List ℕ) (n : List ℕ) (xs : List A) → position (λ x. bytes_eq (g x) n) xs ≡ None
    → All (λ m. m ≢ n) (map g xs)
none_of g n xs h = go (ltb (position_or_len (λ x. bytes_eq (g x) n) xs) (length xs)) refl h
  where
    place : ℕ
    place = position_or_len (λ x. bytes_eq (g x) n) xs

    go : (b : Bool) → ltb place (length xs) ≡ b → cond b (Some place) None ≡ None → All (λ m. m ≢ n) (map g xs)
    go true is k = absurd cc
    go false is k = others g n xs (ltb-false place (length xs) is)

one_more : {A : Type 0} (g : A → List ℕ) (xs : List A) (x : A) → position (λ y. bytes_eq (g y) (g x)) xs ≡ None
    → AreDistinct (map g xs) → AreDistinct (map g (xs ++ x ∷ []))
one_more g xs x none h =
    subst AreDistinct (sym (map-append g xs (x ∷ [])))
    (all_pairs_push (λ a b. a ≢ b) (map g xs) (g x) h (none_of g (g x) xs none))

nothing : AreDistinct []
nothing i j d lt below = absurd (omega (arith, below))

-- ---- the last of a list

pub map_same : {A B : Type 0} (g : A → B) (f : A → A) (xs : List A) → ((x : A) → g (f x) ≡ g x)
    → map g (on_last f xs) ≡ map g xs
map_same g f [] e = refl
map_same g f (x ∷ []) e = ap (λ z. z ∷ []) (e x)
map_same g f (x ∷ y ∷ ys) e = ap (λ t. g x ∷ t) (map_same g f (y ∷ ys) e)

same_names : {A : Type 0} (g : A → List ℕ) (f : A → A) (xs : List A) → ((x : A) → g (f x) ≡ g x)
    → AreDistinct (map g xs) → AreDistinct (map g (on_last f xs))
same_names g f xs e h = subst AreDistinct (sym (map_same g f xs e)) h

pub all_last : {A B : Type 0} (P : A → Type 0) (f : A → A) (h : A → List B) (xs : List A)
    → ((x : A) → at_last h xs ≡ h x → P x → P (f x)) → All P xs → All P (on_last f xs)
all_last P f h [] g all = all
all_last P f h (x ∷ []) g all = All-cons P (f x) [] (g x refl (all 0 x (omega arith))) (All-nil P)
all_last P f h (x ∷ y ∷ ys) g all =
    All-cons P x (on_last f (y ∷ ys)) (all 0 x (omega arith)) (all_last P f h (y ∷ ys) g (All-tail P x (y ∷ ys) all))

-- ---- systems, jobs and tasks

abbrev task_name : TaskDef → List ℕ
task_name t = t.name

abbrev job_name : JobDef → List ℕ
job_name j = j.name

abbrev system_name : SystemDef → List ℕ
system_name s = s.name

abbrev IsOnceJob : JobDef → Type 0
IsOnceJob j = AreDistinct (map task_name j.tasks)

once_system : (name : List ℕ) (ss : List SystemDef) → system_place ss name ≡ None → AreNamedOnce ss
    → AreNamedOnce (ss ++ record { name = name; desk = []; jobs = [] } ∷ [])
unfolding system_place
once_system name ss none h =
    let new : SystemDef = record { name = name; desk = []; jobs = [] } in
    let empty : IsNamedOnce new = record { jobs = nothing; tasks = All-nil IsOnceJob } in
    record { names = one_more system_name ss new none h.names; each = All-push IsNamedOnce ss new h.each empty }

once_command : (c : Desk) (ss : List SystemDef) → AreNamedOnce ss → AreNamedOnce (add_command c ss)
once_command c ss h = record {
  names = same_names system_name _ ss (λ s. refl) h.names;
  each = all_last IsNamedOnce _ (λ s. s.jobs) ss (λ s e w. record { jobs = w.jobs; tasks = w.tasks }) h.each;
}

once_order : (at : ℕ) (o : Option Order) (ss : List SystemDef) → AreNamedOnce ss → AreNamedOnce (add_order at o ss)
once_order at None ss h = h
once_order at (Some o) ss h = once_command _ ss h

once_job : (name : List ℕ) (ss : List SystemDef) → job_place (jobs_now ss) name ≡ None → AreNamedOnce ss
    → AreNamedOnce (add_job name ss)
unfolding job_place
once_job name ss none h = record {
  names = same_names system_name _ ss (λ s. refl) h.names;
  each = all_last IsNamedOnce _ (λ s. s.jobs) ss of_system h.each;
}
  where
    new : JobDef
    new = record { name = name; tasks = [] }

    of_system : (s : SystemDef) → jobs_now ss ≡ s.jobs → IsNamedOnce s
        → IsNamedOnce (record s { jobs = s.jobs ++ new ∷ [] })
    of_system s e w = record {
      jobs =
          one_more job_name s.jobs new
          (subst (λ (js : List JobDef). position (λ j. bytes_eq j.name name) js ≡ None) e none) w.jobs;
      tasks = All-push IsOnceJob s.jobs new w.tasks nothing;
    }

once_task : (name : List ℕ) (ss : List SystemDef) → task_place (tasks_now (jobs_now ss)) name ≡ None → AreNamedOnce ss
    → AreNamedOnce (in_jobs (add_task name) ss)
unfolding task_place
once_task name ss none h = record {
  names = same_names system_name _ ss (λ s. refl) h.names;
  each = all_last IsNamedOnce _ (λ s. s.jobs) ss of_system h.each;
}
  where
    new : TaskDef
    new = record { name = name; lines = [] }

    of_job : (js : List JobDef) → position (λ t. bytes_eq t.name name) (tasks_now js) ≡ None → (j : JobDef)
        → tasks_now js ≡ j.tasks → IsOnceJob j → IsOnceJob (record { name = j.name; tasks = j.tasks ++ new ∷ [] })
    of_job js free j e w =
        one_more task_name j.tasks new
        (subst (λ (ts : List TaskDef). position (λ t. bytes_eq t.name name) ts ≡ None) e free) w

    of_system : (s : SystemDef) → jobs_now ss ≡ s.jobs → IsNamedOnce s
        → IsNamedOnce (record s { jobs = add_task name s.jobs })
    of_system s e w = record {
      jobs = same_names job_name _ s.jobs (λ j. refl) w.jobs;
      tasks =
          all_last IsOnceJob _ (λ j. j.tasks) s.jobs (of_job s.jobs
          (subst (λ (js : List JobDef). position (λ t. bytes_eq t.name name) (tasks_now js) ≡ None) e none))
          w.tasks;
    }

once_line : (line : Line) (ss : List SystemDef) → AreNamedOnce ss → AreNamedOnce (in_jobs (in_tasks (add_line line)) ss)
once_line line ss h = record {
  names = same_names system_name _ ss (λ s. refl) h.names;
  each = all_last IsNamedOnce _ (λ s. s.jobs) ss of_system h.each;
}
  where
    of_job : (js : List JobDef) (j : JobDef) → tasks_now js ≡ j.tasks → IsOnceJob j
        → IsOnceJob (record { name = j.name; tasks = add_line line j.tasks })
    of_job js j e w = same_names task_name _ j.tasks (λ t. refl) w

    of_system : (s : SystemDef) → jobs_now ss ≡ s.jobs → IsNamedOnce s
        → IsNamedOnce (record s { jobs = in_tasks (add_line line) s.jobs })
    of_system s e w = record {
      jobs = same_names job_name _ s.jobs (λ j. refl) w.jobs;
      tasks = all_last IsOnceJob _ (λ j. j.tasks) s.jobs (of_job s.jobs) w.tasks;
    }

once_event : (o : Option Event) (d : Deck) → AreNamedOnce d.systems → AreNamedOnce (with_event o d).systems
once_event None d h = h
once_event (Some e) d h = h

-- ---- a deck so far

pub once_none : AreNamedOnce []
once_none = record { names = nothing; each = All-nil IsNamedOnce }

-- A statement that is right gives no name twice.
pub once_grow : (d : Draft) (st : Stmt) → MayStand d st → AreNamedOnce d.deck.systems
    → AreNamedOnce (grow d st).deck.systems
once_grow d (stmts.Complex c) right h = h
once_grow d (stmts.Rnldef r) right h = h
once_grow d (stmts.System n) right h = once_system n d.deck.systems right.new h
once_grow d (stmts.Job n) right h = once_job n d.deck.systems right.new h
once_grow d (stmts.Task n) right h = once_task n d.deck.systems right.new h
once_grow d (stmts.Line s) right h = once_line (line_of s) d.deck.systems h
once_grow d (stmts.Command c) right h =
    once_order c.at (order_by (place_ordered d.names c.order) c.order) d.deck.systems h
once_grow d stmts.Schedule right h = h
once_grow d (stmts.Event s a) right h = once_event (event_of d.deck.systems s a) d.deck h
