-- The deck of a number is within all limits, as one that is read.
use Rattle.std.proofs.Common.{Result, Ok, Err, ◌≡◌, ◌≤◌, ◌<◌, ℕ, zero, suc, ◌+◌, ◌%◌, Bool, true, false, cond, ◌&&◌}
use Rattle.std.proofs.Common.{List, [], ◌∷◌, ◌++◌, length, map, min, refl, ap, sym, ◌∙◌, subst, arith}
use Rattle.std.specs.Prelude.{IfOk, All, ◌≢◌, ◌==◌, filter, nat_le, codes}
use Rattle.std.specs.Fmt.{decimal, digits}
use Rattle.std.specs.List.{AllPairs, flat_map, list_all, range_with_len}
use Rattle.std.proofs.Math.Nat.{min-le_right}
use Rattle.std.proofs.lemmas.Bool.{and_parts, leb-true}
use Rattle.std.proofs.lemmas.Fmt.{decimal_injective}
use Rattle.std.proofs.lemmas.List.{length-append}
use Rattle.std.proofs.lemmas.List.Elements.{All-nil, All-cons, All-append, All-map}
use Rattle.std.proofs.lemmas.List.FromFn.{length-map-range_with_len, length-range_with_len}
use Rattle.std.proofs.lemmas.Nat.{mod_below}
use Rattle.grs_base.specs.Limits.{most_name_bytes, most_systems, most_tasks}
use Rattle.grs_base.specs.Lines.{IsDeckLine, is_display}
use Rattle.grs_base.specs.Names.{AreNames, IsQname, is_rname, are_bytes}
use Rattle.grs_base.specs.ShortNames.{IsShortName, is_name, all_name, is_name_byte}
use Rattle.grs_base.specs.declared.fault.NoMemory.{NoMemory}
use Rattle.grs_base.specs.declared.line.Line.{Line}
use Rattle.grs_wire.specs.Decks.{task_count, IsWithin, IsOrderOf, AreOrders, Fits, all_names, all_lines, AreDistinct}
use Rattle.grs_wire.specs.Decks.{IsNamedOnce, AreNamedOnce, AreLines, IsDeck}
use Rattle.grs_wire.specs.declared.deck.Deck.{Deck}
use Rattle.grs_wire.specs.declared.deck.Desk.{Desk}
use Rattle.grs_wire.specs.declared.deck.JobDef.{JobDef}
use Rattle.grs_wire.specs.declared.deck.Order.TheVariants.{Star}
use Rattle.grs_wire.specs.declared.deck.SystemDef.{SystemDef}
use Rattle.grs_wire.specs.declared.deck.TaskDef.{TaskDef}
use Rattle.grs_gen.specs.Generated.{IsSize, system_count, asked_count, system_name, numbered, resource_name, enq_line}
use Rattle.grs_gen.specs.Generated.{deq_line, lines_of, task_of, job_of, desk_of, system_of, deck_of}
use Rattle.grs_gen.proofs.Ranges.{all_range, pairs_range, each_passes, all_flat, times, times-le, length_flat}
use Rattle.grs_gen.proofs.Ranges.{none_pass}

-- ---- counts

few_systems : (n : ℕ) → system_count n ≤ most_systems
few_systems n = let below = mod_below n 8 (omega arith) in omega (arith, below)

count_systems : (n m : ℕ) → length (map (system_of n) (range_with_len 0 m)) ≡ m
count_systems n m = length-map-range_with_len (system_of n) 0 m

count_tasks : (n i : ℕ) → length (map (task_of n i) (range_with_len 1 n)) ≡ n
count_tasks n i = length-map-range_with_len (task_of n i) 1 n

few_commands : (i : ℕ) → length (desk_of i) ≤ 64
few_commands i = go (i == 0)
  where
    go : (b : Bool) → length {A = Desk} (cond b (record { at = 0; order = Star } ∷ []) []) ≤ 64
    go true = omega arith
    go false = omega arith

within : (n i : ℕ) → n ≤ most_tasks → IsWithin (system_of n i)
within n i few = record {
  desk = few_commands i;
  jobs = omega arith;
  tasks = let count = count_tasks n i in omega (arith, count, few);
}

-- ---- names

abbrev good_name : List ℕ → Bool
good_name x = is_name x && nat_le (length x) most_name_bytes

short : (x : List ℕ) → good_name x ≡ true → IsShortName x
short x h = let parts = and_parts (is_name x) _ h in (parts.0, leb-true (length x) most_name_bytes parts.1)

system_names : list_all (λ i. good_name (system_name i)) (range_with_len 0 8) ≡ true
unfolding is_name all_name is_name_byte
system_names = refl

task_names : list_all (λ k. good_name (numbered 84 k)) (range_with_len 1 64) ≡ true
unfolding is_name all_name is_name_byte digits
task_names = refl

job_name : good_name (codes "J1") ≡ true
unfolding is_name all_name is_name_byte
job_name = refl

task_names_good : (n i : ℕ) → n ≤ most_tasks
    → All IsShortName (map (λ (t : TaskDef). t.name) (map (task_of n i) (range_with_len 1 n)))
task_names_good n i few =
    All-map IsShortName (λ (t : TaskDef). t.name) (map (task_of n i) (range_with_len 1 n))
    (all_range (λ (t : TaskDef). IsShortName t.name) (task_of n i) 1 n
    (λ k low high.
    short (numbered 84 k)
    (each_passes (λ x. good_name (numbered 84 x)) 1 64 task_names k low (omega (arith, high, few)))))

abbrev job_names : List JobDef → List (List ℕ)
job_names js = flat_map (λ (j : JobDef). j.name ∷ map (λ (t : TaskDef). t.name) j.tasks) js

abbrev names_of : SystemDef → List (List ℕ)
names_of s = s.name ∷ job_names s.jobs

names_good : (n i : ℕ) → n ≤ most_tasks → i < 8 → All IsShortName (names_of (system_of n i))
names_good n i few below =
    All-cons IsShortName (system_name i) (job_names (job_of n i ∷ []))
    (short (system_name i)
    (each_passes (λ x. good_name (system_name x)) 0 8 system_names i (omega arith) (omega (arith, below))))
    (All-append IsShortName (codes "J1" ∷ map (λ (t : TaskDef). t.name) (job_of n i).tasks) []
    (All-cons IsShortName (codes "J1") (map (λ (t : TaskDef). t.name) (job_of n i).tasks) (short (codes "J1") job_name)
    (task_names_good n i few))
    (All-nil IsShortName))

all_names_good : (n : ℕ) → n ≤ most_tasks
    → All IsShortName (all_names (map (system_of n) (range_with_len 0 (system_count n))))
all_names_good n few =
    all_flat IsShortName names_of (map (system_of n) (range_with_len 0 (system_count n)))
    (all_range (λ s. All IsShortName (names_of s)) (system_of n) 0 (system_count n)
    (λ i low high. let systems = few_systems n in names_good n i few (omega (arith, high, systems))))

-- ---- no name is given twice

one_alone : (x : List ℕ) → AreDistinct (x ∷ [])
one_alone x i j d before within = absurd (omega (arith, before, within))

systems_differ : (i j : ℕ) → i < j → system_name i ≢ system_name j
systems_differ i j less same = let e : 65 + i ≡ 65 + j = cc in absurd (omega (arith, less, e))

tasks_differ : (i j : ℕ) → i < j → j < 65 → numbered 84 i ≢ numbered 84 j
tasks_differ i j less few same =
    let tails : decimal i ≡ decimal j = cc in
    let e : i ≡ j = decimal_injective i j (omega (arith, less, few)) (omega (arith, few)) tails in
    absurd (omega (arith, less, e))

map-map : {X Y Z : Type 0} (g : Y → Z) (f : X → Y) (xs : List X) → map g (map f xs) ≡ map (λ x. g (f x)) xs
map-map g f [] = refl
map-map {X} {Y} {Z} g f (x ∷ xs) = ap (λ (zs : List Z). g (f x) ∷ zs) (map-map g f xs)

tasks_distinct : (n i : ℕ) → n ≤ most_tasks
    → AreDistinct (map (λ (t : TaskDef). t.name) (map (task_of n i) (range_with_len 1 n)))
tasks_distinct n i few =
    subst AreDistinct (sym (map-map (λ (t : TaskDef). t.name) (task_of n i) (range_with_len 1 n)))
    (pairs_range (numbered 84) 1 n (λ a b low less high. tasks_differ a b less (omega (arith, high, few))))

once_in : (n i : ℕ) → n ≤ most_tasks → IsNamedOnce (system_of n i)
once_in n i few = record {
  jobs = one_alone (codes "J1");
  tasks =
      All-cons (λ (j : JobDef). AreDistinct (map (λ (t : TaskDef). t.name) j.tasks)) (job_of n i) []
      (tasks_distinct n i few) (All-nil (λ (j : JobDef). AreDistinct (map (λ (t : TaskDef). t.name) j.tasks)));
}

once : (n : ℕ) → n ≤ most_tasks → AreNamedOnce (map (system_of n) (range_with_len 0 (system_count n)))
once n few = record {
  names =
      subst AreDistinct (sym (map-map (λ (s : SystemDef). s.name) (system_of n) (range_with_len 0 (system_count n))))
      (pairs_range system_name 0 (system_count n) (λ i j low less high. systems_differ i j less));
  each = all_range IsNamedOnce (system_of n) 0 (system_count n) (λ i low high. once_in n i few);
}

-- ---- commands

orders_at : (systems s i : ℕ) → All (λ (c : Desk). IsOrderOf systems s c.order) (desk_of i)
orders_at systems s i = go (i == 0)
  where
    go : (b : Bool) → All (λ (c : Desk). IsOrderOf systems s c.order) (cond b (record { at = 0; order = Star } ∷ []) [])
    go true =
        All-cons (λ (c : Desk). IsOrderOf systems s c.order) (record { at = 0; order = Star }) [] tt
        (All-nil (λ (c : Desk). IsOrderOf systems s c.order))
    go false = All-nil (λ (c : Desk). IsOrderOf systems s c.order)

orders : (n systems s a m : ℕ) → AreOrders systems s (map (system_of n) (range_with_len a m))
orders n systems s a zero = tt
orders n systems s a (suc m) = (orders_at systems s a, orders n systems (s + 1) (a + 1) m)

-- ---- lines

abbrev good_rname : ℕ → Bool
good_rname m = is_rname (numbered 82 m) && are_bytes (numbered 82 m)

rnames : list_all good_rname (range_with_len 0 16) ≡ true
unfolding digits
rnames = refl

names_are : (k j : ℕ) → AreNames (codes "GEN") (resource_name k j)
names_are k j =
    let below = mod_below (k + j) 16 (omega arith) in
    let parts =
    and_parts _ _ (each_passes good_rname 0 16 rnames ((k + j) % 16) (omega arith) (omega (arith, below))) in
    record { qname = record { made = refl; trimmed = refl }; q_bytes = refl; rname = parts.0; r_bytes = parts.1 }

pub rname_good : (m : ℕ) → m < 16 → is_rname (numbered 82 m) ≡ true
rname_good m below = (and_parts _ _ (each_passes good_rname 0 16 rnames m (omega arith) (omega (arith, below)))).0

-- a fact of both lines is one of all lines
lines_all : (P : Line → Type 0) → ((i k j : ℕ) → P (enq_line i k j)) → ((k j : ℕ) → P (deq_line k j)) → (n : ℕ)
    → All P (all_lines (map (system_of n) (range_with_len 0 (system_count n))))
lines_all P enq deq n =
    all_flat P of_system (map (system_of n) (range_with_len 0 (system_count n)))
    (all_range (λ s. All P (of_system s)) (system_of n) 0 (system_count n)
    (λ i low high. All-append P (of_job (job_of n i)) [] (of_tasks i) (All-nil P)))
  where
    of_job : JobDef → List Line
    of_job j = flat_map (λ (t : TaskDef). t.lines) j.tasks

    of_system : SystemDef → List Line
    of_system s = flat_map of_job s.jobs

    of_pair : (i k j : ℕ) → All P (enq_line i k j ∷ deq_line k j ∷ [])
    of_pair i k j =
        All-cons P (enq_line i k j) (deq_line k j ∷ []) (enq i k j) (All-cons P (deq_line k j) [] (deq k j) (All-nil P))

    of_task : (i k m a : ℕ) → All P (flat_map (λ j. enq_line i k j ∷ deq_line k j ∷ []) (range_with_len a m))
    of_task i k zero a = All-nil P
    of_task i k (suc m) a =
        All-append P (enq_line i k a ∷ deq_line k a ∷ [])
        (flat_map (λ j. enq_line i k j ∷ deq_line k j ∷ []) (range_with_len (a + 1) m)) (of_pair i k a)
        (of_task i k m (a + 1))

    of_tasks : (i : ℕ) → All P (of_job (job_of n i))
    of_tasks i =
        all_flat P (λ (t : TaskDef). t.lines) (job_of n i).tasks
        (all_range (λ (t : TaskDef). All P t.lines) (task_of n i) 1 n (λ k low high. of_task i k (asked_count n) 1))

-- 16 lines a task, 1,024 a system, 8,192 in all, at most
few_lines : (n : ℕ) → n ≤ most_tasks → length (all_lines (map (system_of n) (range_with_len 0 (system_count n)))) ≤ 8192
few_lines n few =
    let each =
    all_range (λ s. length (of_system s) ≤ 1024) (system_of n) 0 (system_count n) (λ i low high. in_system i) in
    let total = length_flat of_system 1024 (map (system_of n) (range_with_len 0 (system_count n))) each in
    let same = ap (λ x. times x 1024) (count_systems n (system_count n)) in
    let more : times (system_count n) 1024 ≤ 8192 = times-le (system_count n) 8 1024 (few_systems n) in
    omega (arith, total, same, more)
  where
    of_job : JobDef → List Line
    of_job j = flat_map (λ (t : TaskDef). t.lines) j.tasks

    of_system : SystemDef → List Line
    of_system s = flat_map of_job s.jobs

    in_task : (i k m a : ℕ) → length (flat_map (λ j. enq_line i k j ∷ deq_line k j ∷ []) (range_with_len a m)) ≡ m + m
    in_task i k zero a = refl
    in_task i k (suc m) a = let rest = in_task i k m (a + 1) in omega (arith, rest)

    in_lines : (i k : ℕ) → length (lines_of n i k) ≤ 16
    in_lines i k =
        let count = in_task i k (asked_count n) 1 in let least = min-le_right n 8 in omega (arith, count, least)

    in_job : (i : ℕ) → length (of_job (job_of n i)) ≤ 1024
    in_job i =
        let total =
        length_flat (λ (t : TaskDef). t.lines) 16 (job_of n i).tasks
        (all_range (λ (t : TaskDef). length t.lines ≤ 16) (task_of n i) 1 n (λ k low high. in_lines i k)) in
        let same = ap (λ x. times x 16) (count_tasks n i) in
        let more : times n 16 ≤ 1024 = times-le n 64 16 few in
        omega (arith, total, same, more)

    in_system : (i : ℕ) → length (of_system (system_of n i)) ≤ 1024
    in_system i =
        let joined = length-append (of_job (job_of n i)) [] in let job = in_job i in omega (arith, joined, job)

lines : (n : ℕ) → n ≤ most_tasks → AreLines (all_lines (map (system_of n) (range_with_len 0 (system_count n))))
lines n few = record {
  few = let total = few_lines n few in omega (arith, total);
  displays =
      let none =
      none_pass is_display (all_lines (map (system_of n) (range_with_len 0 (system_count n))))
      (lines_all (λ l. is_display l ≡ false) (λ i k j. refl) (λ k j. refl) n) in
      let empty = ap (λ (ls : List Line). length ls) none in
      omega (arith, empty);
  each = lines_all IsDeckLine (λ i k j. (_, refl, names_are k j)) (λ k j. (names_are k j, tt)) n;
}

-- ---- the deck

pub is_deck : (n : ℕ) → IsSize n → IsDeck (deck_of n)
unfolding deck_of
is_deck n size = record {
  some = let count = count_systems n (system_count n) in omega (arith, count);
  fits = record {
    few = let count = count_systems n (system_count n) in let systems = few_systems n in omega (arith, count, systems);
    each = all_range IsWithin (system_of n) 0 (system_count n) (λ i low high. within n i size.1);
  };
  names = all_names_good n size.1;
  once = once n size.1;
  orders = orders n (length (map (system_of n) (range_with_len 0 (system_count n)))) 0 0 (system_count n);
  lines = lines n size.1;
  entries = refl;
  limit = refl;
  lists = record {
    incl = record { which_is = refl; few = omega arith; own = All-nil _ };
    excl = record { which_is = refl; few = omega arith; own = All-nil _ };
    con = record { which_is = refl; few = omega arith; own = All-nil _ };
  };
  named = record { incl = All-nil _; excl = All-nil _; con = All-nil _ };
  events = All-nil _;
}

pub good : (n : ℕ) → IsSize n → (made : Result Deck NoMemory) → IfOk made (λ deck. deck ≡ deck_of n) → IfOk made IsDeck
good n size (Ok deck) is = subst IsDeck (sym is) (is_deck n size)
good n size (Err none) is = tt
