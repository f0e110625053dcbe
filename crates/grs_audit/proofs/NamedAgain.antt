-- The names of a deck find their systems, jobs and tasks again.
use Rattle.std.proofs.Common.{◌≡◌, ℕ, zero, suc, ◌+◌, ◌<◌, Bool, true, false, List, [], ◌∷◌, ◌++◌}
use Rattle.std.proofs.Common.{length}
use Rattle.std.proofs.Common.{map, take, get_or, Option, Some, refl, sym, ap, subst, ◌∙◌, arith}
use Rattle.std.specs.Prelude.{All, ◌≢◌, slice_get, unwrap_or}
use Rattle.std.specs.Str.{bytes_eq}
use Rattle.std.specs.List.{flat_map, position, position_or_len}
use Rattle.std.proofs.lemmas.Bool.{lt-ltb}
use Rattle.std.proofs.lemmas.List.{length-map}
use Rattle.std.proofs.lemmas.List.Elements.{All-nil, All-cons, All-head, All-tail, All-get_or}
use Rattle.std.proofs.lemmas.Option.{slice_get_within, slice_get-get_or, get_or_from_slice_get}
use Rattle.std.proofs.lemmas.Slice.Eq.{bytes_eq-Decides}
use Rattle.grs_base.specs.ShortNames.{IsShortName}
use Rattle.grs_base.specs.declared.resource.SysId.{SysId}
use Rattle.grs_base.specs.declared.resource.TaskId.{TaskId}
use Rattle.grs_wire.specs.Decks.{task_count, AreDistinct, IsNamedOnce, IsTaskOf, IsDeck}
use Rattle.grs_wire.specs.declared.deck.TaskDef.{TaskDef}
use Rattle.grs_wire.specs.declared.deck.JobDef.{JobDef}
use Rattle.grs_wire.specs.declared.deck.SystemDef.{SystemDef}
use Rattle.grs_wire.specs.declared.deck.Deck.{Deck}
use Rattle.grs_deck.specs.Places.{system_place, job_place, task_place, system_at, system_id, task_in}
use Rattle.grs_display.specs.Names.{names_of_jobs, names_of_tasks, names_in_jobs, names_of, name_at, name_in}

-- ---- where a name stands first

same_bytes : (n : List ℕ) → bytes_eq n n ≡ true
same_bytes n = (bytes_eq-Decides n n).1 refl

other_bytes : (a b : List ℕ) → a ≢ b → bytes_eq a b ≡ false
other_bytes a b h = go (bytes_eq a b) refl
  where
    go : (x : Bool) → bytes_eq a b ≡ x → bytes_eq a b ≡ false
    go true e = absurd (h ((bytes_eq-Decides a b).0 e))
    go false e = e

abbrev some_of : {A : Type 0} → A → Option A
some_of x = Some x

some_is : {A : Type 0} (a b : A) → some_of a ≡ some_of b → a ≡ b
some_is a b e = cc

tail_distinct : (n : List ℕ) (ns : List (List ℕ)) → AreDistinct (n ∷ ns) → AreDistinct ns
tail_distinct n ns h = λ i j d lt below. h (suc i) (suc j) d (omega (arith, lt)) (omega (arith, below))

mapped : {A B : Type 0} (g : A → B) (xs : List A) (k : ℕ) (x : A) → slice_get xs k ≡ Some x
    → slice_get (map g xs) k ≡ Some (g x)
mapped g [] k x h = absurd cc
mapped g (y ∷ ys) zero x h = ap (λ z. some_of (g z)) (some_is y x h)
mapped g (y ∷ ys) (suc k) x h = mapped g ys k x h

at_first : {A : Type 0} (g : A → List ℕ) (xs : List A) (i : ℕ) (x : A) → slice_get xs i ≡ Some x
    → AreDistinct (map g xs) → position_or_len (λ y. bytes_eq (g y) (g x)) xs ≡ i
at_first g [] i x h d = absurd cc
at_first g (y ∷ ys) zero x h d = let e : y ≡ x = some_is y x h in rw (e, same_bytes (g x)) refl
at_first g (y ∷ ys) (suc i) x h d =
    let e : 1 + i ≡ suc i = omega arith in
    rw (other_bytes (g y) (g x) other)
    (ap (λ (n : ℕ). 1 + n) (at_first g ys i x h (tail_distinct (g y) (map g ys) d)) ∙ e)
  where
    there : slice_get (map g ys) i ≡ Some (g x)
    there = mapped g ys i x h

    below : suc i < length (map g (y ∷ ys))
    below = let k = slice_get_within (map g ys) i (g x) there in omega (arith, k)

    other : g y ≢ g x
    other same =
        d 0 (suc i) [] (omega arith) below (same ∙ sym (get_or_from_slice_get (map g ys) i (g x) [] there))

place_of : {A : Type 0} (g : A → List ℕ) (xs : List A) (i : ℕ) (x : A) → slice_get xs i ≡ Some x
    → AreDistinct (map g xs) → position (λ y. bytes_eq (g y) (g x)) xs ≡ Some i
place_of g xs i x h d =
    let first = at_first g xs i x h d in
    let small = lt-ltb i (length xs) (slice_get_within xs i x h) in
    rw (first, small) refl

-- ---- the names are right

all_parts : {A : Type 0} (P : A → Type 0) (xs ys : List A) → All P (xs ++ ys) → All P xs × All P ys
all_parts P [] ys h = (All-nil P, h)
all_parts P (x ∷ xs) ys h =
    let r = all_parts P xs ys (All-tail P x (xs ++ ys) h) in
    (All-cons P x xs (All-head P x (xs ++ ys) h) r.0, r.1)

all_of : {A B : Type 0} (P : B → Type 0) (f : A → List B) (xs : List A) (i : ℕ) (x : A) → All P (flat_map f xs)
    → slice_get xs i ≡ Some x → All P (f x)
all_of P f [] i x h at = absurd cc
all_of P f (y ∷ ys) zero x h at =
    let e : y ≡ x = some_is y x at in
    subst (λ z. All P (f z)) e (all_parts P (f y) (flat_map f ys) h).0
all_of P f (y ∷ ys) (suc i) x h at = all_of P f ys i x (all_parts P (f y) (flat_map f ys) h).1 at

all_at : {A : Type 0} (P : A → Type 0) (xs : List A) (i : ℕ) (x : A) → All P xs → slice_get xs i ≡ Some x → P x
all_at P xs i x h at =
    subst P (get_or_from_slice_get xs i x x at) (All-get_or P xs i x (slice_get_within xs i x at) h)

-- ---- names at places

name_there : {A : Type 0} (g : A → List ℕ) (xs : List A) (i : ℕ) (x : A) → slice_get xs i ≡ Some x
    → name_at (map g xs) i ≡ g x
unfolding name_at
name_there g xs i x h = ap (λ (o : Option (List ℕ)). unwrap_or o []) (mapped g xs i x h)

in_front : {A : Type 0} (xs ys : List A) (k : ℕ) → k < length xs → slice_get (xs ++ ys) k ≡ slice_get xs k
in_front [] ys k lt = absurd (omega (arith, lt))
in_front (x ∷ xs) ys zero lt = refl
in_front (x ∷ xs) ys (suc k) lt = in_front xs ys k (omega (arith, lt))

in_back : {A : Type 0} (xs ys : List A) (k : ℕ) → slice_get (xs ++ ys) (length xs + k) ≡ slice_get ys k
in_back [] ys k = ap (slice_get ys) (omega arith)
in_back (x ∷ xs) ys k =
    let e : length (x ∷ xs) + k ≡ suc (length xs + k) = omega arith in
    ap (slice_get (x ∷ (xs ++ ys))) e ∙ in_back xs ys k

-- the name of a task, by its place among all tasks of its system
task_there : (jobs : List JobDef) (j : ℕ) (job : JobDef) (place : ℕ) → slice_get jobs j ≡ Some job
    → place < length job.tasks
    → slice_get (names_in_jobs jobs) (task_count (take j jobs) + place) ≡ slice_get (names_of_tasks job.tasks) place
task_there [] j job place at lt = absurd cc
task_there (x ∷ jobs) zero job place at lt =
    let e : x ≡ job = some_is x job at in
    let same : length (names_of_tasks x.tasks) ≡ length x.tasks = length-map x.tasks (λ t. t.name) in
    let own : length x.tasks ≡ length job.tasks = ap (λ (y : JobDef). length y.tasks) e in
    ap (slice_get (names_of_tasks x.tasks ++ names_in_jobs jobs)) (omega arith)
    ∙ in_front (names_of_tasks x.tasks) (names_in_jobs jobs) place (omega (arith, same, own, lt))
    ∙ ap (λ (y : JobDef). slice_get (names_of_tasks y.tasks) place) e
task_there (x ∷ jobs) (suc j) job place at lt =
    let same : length (names_of_tasks x.tasks) ≡ length x.tasks = length-map x.tasks (λ t. t.name) in
    ap (slice_get (names_of_tasks x.tasks ++ names_in_jobs jobs)) (omega (arith, same))
    ∙ in_back (names_of_tasks x.tasks) (names_in_jobs jobs) (task_count (take j jobs) + place)
    ∙ task_there jobs j job place at lt

-- ---- a system, and a task of it

abbrev job_words : JobDef → List (List ℕ)
job_words j = j.name ∷ map (λ t. t.name) j.tasks

abbrev system_words : SystemDef → List (List ℕ)
system_words s = s.name ∷ flat_map job_words s.jobs

abbrev task_of : SysId → ℕ → ℕ → TaskId
task_of id job task = record { system = id; job = job; task = task }

rebuilt : (t : TaskId) (id : SysId) (n : ℕ) → id ≡ t.system → n ≡ t.task → task_of id t.job n ≡ t
rebuilt t id n h k = rw (h, k) refl

-- A system that is found by its name.
pub record IsFound (deck : Deck) (i : ℕ) (s : SystemDef) : Type 0 where
  pub word : name_at (names_of deck).systems i ≡ s.name
  pub short : IsShortName s.name
  pub at : system_at deck.systems s.name ≡ Some (system_id i, s)

pub found : (deck : Deck) (i : ℕ) (s : SystemDef) → IsDeck deck → slice_get deck.systems i ≡ Some s → IsFound deck i s
unfolding names_of system_place
found deck i s h at =
    let place : system_place deck.systems s.name ≡ Some i =
    place_of (λ (x : SystemDef). x.name) deck.systems i s at h.once.names in
    record {
      word = name_there (λ (x : SystemDef). x.name) deck.systems i s at;
      short = All-head IsShortName s.name _ (all_of IsShortName system_words deck.systems i s h.names at);
      at = rw (place, at) refl;
    }

-- A task that is found by the names of its job and its own.
pub record IsTaskFound (deck : Deck) (id : SysId) (s : SystemDef) (t : TaskId) : Type 0 where
  pub job : List ℕ
  pub task : List ℕ
  pub job_word : name_in (names_of deck).jobs t.system.0 t.job ≡ job
  pub task_word : name_in (names_of deck).tasks t.system.0 t.task ≡ task
  pub job_short : IsShortName job
  pub task_short : IsShortName task
  pub at : task_in id s job task ≡ Some t

pub task_found : (deck : Deck) (id : SysId) (s : SystemDef) (t : TaskId) → IsDeck deck
    → slice_get deck.systems id.0 ≡ Some s → IsTaskOf s id t → IsTaskFound deck id s t
unfolding names_of name_in name_at job_place task_place
task_found deck id s t h at of =
    let none : TaskDef = record { name = []; lines = [] } in
    let task = get_or of.job.tasks of.place none in
    let there : slice_get of.job.tasks of.place ≡ Some task = slice_get-get_or of.job.tasks of.place none of.below in
    let once = all_at IsNamedOnce deck.systems id.0 s h.once.each at in
    let distinct : AreDistinct (map (λ (x : TaskDef). x.name) of.job.tasks) =
    all_at (λ (j : JobDef). AreDistinct (map (λ t. t.name) j.tasks)) s.jobs t.job of.job once.tasks of.held in
    let all = all_of IsShortName system_words deck.systems id.0 s h.names at in
    let names =
    all_of IsShortName job_words s.jobs t.job of.job (All-tail IsShortName s.name (flat_map job_words s.jobs) all)
    of.held in
    let jobs : slice_get (names_of deck).jobs t.system.0 ≡ Some (names_of_jobs s.jobs) =
    ap (λ (x : SysId). slice_get (names_of deck).jobs x.0) of.system
    ∙ mapped (λ (x : SystemDef). names_of_jobs x.jobs) deck.systems id.0 s at in
    let tasks : slice_get (names_of deck).tasks t.system.0 ≡ Some (names_in_jobs s.jobs) =
    ap (λ (x : SysId). slice_get (names_of deck).tasks x.0) of.system
    ∙ mapped (λ (x : SystemDef). names_in_jobs x.jobs) deck.systems id.0 s at in
    let place : job_place s.jobs of.job.name ≡ Some t.job =
    place_of (λ (j : JobDef). j.name) s.jobs t.job of.job of.held once.jobs in
    let place_task : task_place of.job.tasks task.name ≡ Some of.place =
    place_of (λ (x : TaskDef). x.name) of.job.tasks of.place task there distinct in
    let named : slice_get (names_in_jobs s.jobs) t.task ≡ Some task.name =
    ap (slice_get (names_in_jobs s.jobs)) of.at
    ∙ task_there s.jobs t.job of.job of.place of.held of.below
    ∙ mapped (λ (x : TaskDef). x.name) of.job.tasks of.place task there in
    record {
      job = of.job.name;
      task = task.name;
      job_word =
          ap (λ (o : Option (List (List ℕ))). name_at (unwrap_or o []) t.job) jobs
          ∙ name_there (λ (j : JobDef). j.name) s.jobs t.job of.job of.held;
      task_word =
          ap (λ (o : Option (List (List ℕ))). name_at (unwrap_or o []) t.task) tasks
          ∙ ap (λ (o : Option (List ℕ)). unwrap_or o []) named;
      job_short = All-head IsShortName of.job.name (map (λ (x : TaskDef). x.name) of.job.tasks) names;
      task_short =
          all_at IsShortName (map (λ (x : TaskDef). x.name) of.job.tasks) of.place task.name
          (All-tail IsShortName of.job.name (map (λ (x : TaskDef). x.name) of.job.tasks) names)
          (mapped (λ (x : TaskDef). x.name) of.job.tasks of.place task there);
      at =
          rw (place, of.held, place_task)
          (ap (λ (x : TaskId). some_of x)
          (rebuilt t id (task_count (take t.job s.jobs) + of.place) (sym of.system) (sym of.at)));
    }
