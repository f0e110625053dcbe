-- A task that is held, by its last answer or at a WAIT line, has an element there that it doesn't own; and it goes on
-- only where it owns that resource.
use Rattle.grs_world.proofs.Common.{[], ◌&&◌, ◌++◌, ◌+◌, ◌-◌, ◌<◌, ◌==◌, ◌||◌, ◌∙◌, ◌∷◌, ◌≡◌, ◌≢◌, ◌≤◌, and_from}
use Rattle.grs_world.proofs.Common.{and_parts, and_right, any-last, ap, arith, asks_of, Bool, cases_Bool, Code, code_of}
use Rattle.grs_world.proofs.Common.{cond, Ctl, drop, entries_for, entry_of_line, eqb-false, eqb-true, false, filter}
use Rattle.grs_world.proofs.Common.{Fixed, fixed_entries, has_res, HistEntry, history, is_code_of, is_distinct}
use Rattle.grs_world.proofs.Common.{is_marked, is_unmarked, length, List, list_all, list_all-append, list_any, list_of}
use Rattle.grs_world.proofs.Common.{lists, ltb-true, Meaning, nat_lt, no_truth, None, not, Option, or_left, or_parts}
use Rattle.grs_world.proofs.Common.{or_right, Rec, refl, Res, Ret, RunItem, same_res, same_res-exact, same_res-itself}
use Rattle.grs_world.proofs.Common.{same_task, slice_get, Some, standing_of, State, subst, suc, sym, SysId, take}
use Rattle.grs_world.proofs.Common.{TaskId, tells_control, ToldLine, true, Wait, Want, zero, ℕ}
use Rattle.grs_legal.specs.Asks.{is_silent}
use Rattle.grs_wire.specs.History.{look_entries}
use Rattle.grs_known.specs.Told.{asked_at, entries_behind, is_code_before, is_control, is_post_of, queued_last, queues}
use Rattle.grs_known.specs.Told.{queues_at}
use Rattle.grs_known.proofs.tasks.Invariant.{is_post_before}
use Rattle.grs_known.specs.Items.{AllMade}
use Rattle.std.specs.List.{range_with_len}
use Rattle.grs_base.specs.Lists.{deq_code, enq_decision, can_have}
use Rattle.grs_base.specs.declared.decision.Effect.TheVariants.{Append, MakeExclusive, Nothing}
use Rattle.grs_base.specs.declared.decision.Standing.{Standing}
use Rattle.grs_legal.specs.Legal.{last_entry}
use Rattle.task_state.specs.Replies.{is_changed, is_queued}
use Rattle.grs_known.specs.Past.{has_own, own_after, own_by_effect, own_told}
use Rattle.grs_world.specs.AtRest.{is_waiting, waits_on}
use Rattle.grs_wire.specs.declared.history.HistEntry.TheVariants as entries
use Rattle.grs_wire.specs.declared.request.Fixed.TheVariants as fixes
use Rattle.grs_wire.specs.declared.request.Want.TheVariants as wants
use Rattle.grs_wire.specs.declared.told.ToldLine.TheVariants as told

-- ---- who is answered WAIT is queued
abbrev pub waits_well : HistEntry → Bool
waits_well (entries.Enq u r c ret code) = not (is_waiting code) || is_queued ret code
waits_well (entries.Deq u r have code) = not (is_waiting code)
waits_well (entries.Release u r) = true
waits_well (entries.Look u place f rows) = true
waits_well (entries.Remove by target) = true

enq-well : (st : Standing) (ret : Ret) (full can : Bool)
    → (not (is_waiting (enq_decision st ret full can).code) || is_queued ret (enq_decision st ret full can).code) ≡ true
enq-well st ret full can = grind (arith, cases_Bool full, cases_Bool can)

deq-well : (st : Standing) (have : Bool) → not (is_waiting (deq_code st have)) ≡ true
deq-well st have = grind (arith, cases_Bool have)

looks-well : (s : State) (t : TaskId) (first count : ℕ) (f : _)
    → list_all waits_well (look_entries s t first count f) ≡ true
looks-well s t first zero f = refl
looks-well s t first (suc count) f = looks-well s t (suc first) count f

want-well : (s : State) (t : TaskId) (w : Want) → list_all waits_well (entries_for s t w) ≡ true
want-well s t (wants.Enq r c ret full) =
    and_from (waits_well (entries.Enq t r c ret _)) true
    (enq-well (standing_of (list_of s r) t) ret full (can_have (list_of s r) c)) refl
want-well s t (wants.Deq r have) =
    and_from (waits_well (entries.Deq t r have _)) true (deq-well (standing_of (list_of s r) t) have) refl
want-well s t (wants.Release r) = refl
want-well s t (wants.Look first count f) = looks-well s t first count f

fixed-well : (s : State) (by : SysId) (f : Fixed) → list_all waits_well (fixed_entries s by f) ≡ true
fixed-well s by (fixes.Asked q) = want-well s q.task q.want
fixed-well s by (fixes.LocalLook t f) = refl
fixed-well s by (fixes.Purged target) = refl

pub all-well : (front xs : List RunItem) → AllMade front xs → list_all waits_well (history xs) ≡ true
all-well front [] made = refl
all-well front (x ∷ xs) made =
    list_all-append waits_well x.entries (history xs)
    ∙ and_from (list_all waits_well x.entries) (list_all waits_well (history xs))
    (ap (list_all waits_well) made.0 ∙ fixed-well (lists front) x.by x.fixed) (all-well (front ++ x ∷ []) xs made.1)

-- What the last of a task's entries waits for: its own element.
pub record WaitsOn (ks : List (Res × Ctl)) (h : HistEntry) : Type 0 where
  pub res : Res
  pub waits : waits_on res (Some h) ≡ true
  pub queued : queues res h ≡ true
  pub has : has_own res ks ≡ true

by-code : (c : Code) → c ≡ Wait → (P : Code → Type 0) → P Wait → P c
by-code c e P k = subst P (sym e) k

last-waits : (h : HistEntry) (ks : List (Res × Ctl)) → waits_well h ≡ true → code_of h ≡ Wait
    → WaitsOn (own_told h ks) h
last-waits (entries.Enq u r c ret code) ks well e =
    let queued : is_queued ret Wait ≡ true = subst (λ z. (not (is_waiting z) || is_queued ret z) ≡ true) e well in
    by-code code e (λ z. WaitsOn (own_told (entries.Enq u r c ret z) ks) (entries.Enq u r c ret z)) (record {
      res = r;
      waits = and_from (same_res r r) true (same_res-itself r) refl;
      queued = and_from (same_res r r) (is_queued ret Wait) (same_res-itself r) queued;
      has =
          ap (λ b. has_own r (own_by_effect (cond b Append (cond (is_changed ret Wait) MakeExclusive Nothing)) r c ks))
          queued
          ∙ any-last (λ (k : Res × Ctl). same_res r k.0) ks (r, c) (same_res-itself r);
    })
last-waits (entries.Deq u r have code) ks well e =
    absurd (let f : false ≡ true = subst (λ z. not (is_waiting z) ≡ true) e well in cc)
last-waits (entries.Release u r) ks well e = absurd (cc)
last-waits (entries.Look u place f rows) ks well e = absurd (cc)
last-waits (entries.Remove by target) ks well e = absurd (cc)

pub waits-among : (hs : List HistEntry) (ks : List (Res × Ctl)) (h : HistEntry) → last_entry hs ≡ Some h
    → list_all waits_well hs ≡ true → code_of h ≡ Wait → WaitsOn (own_after ks hs) h
waits-among [] ks h e well w = absurd (cc)
waits-among (g ∷ []) ks h e well w =
    let same : g ≡ h = cc in
    subst (λ z. WaitsOn (own_told g ks) z) same
    (last-waits g ks (and_parts (waits_well g) true well).0 (ap code_of same ∙ w))
waits-among (g ∷ f ∷ hs) ks h e well w =
    waits-among (f ∷ hs) (own_told g ks) h e (and_parts (waits_well g) (list_all waits_well (f ∷ hs)) well).1 w

-- ---- no line tells it control
-- an entry that stands behind
drop-any : {X : Type 0} (q : X → Bool) (xs : List X) (d m : ℕ) (x : X) → d ≤ m → slice_get xs m ≡ Some x → q x ≡ true
    → list_any q (drop d xs) ≡ true
drop-any q [] d m x l e h = absurd (cc)
drop-any q (y ∷ xs) zero zero x l e h = let same : y ≡ x = cc in or_left (q y) (list_any q xs) (ap q same ∙ h)
drop-any q (y ∷ xs) zero (suc m) x l e h =
    or_right (q y) (list_any q xs) (ap (list_any q) (drop-none xs) ∙ drop-any q xs zero m x (omega arith) e h)
  where
    drop-none : {Y : Type 0} (ys : List Y) → ys ≡ drop 0 ys
    drop-none ys = grind arith
drop-any q (y ∷ xs) (suc d) zero x l e h = absurd (omega (arith, l))
drop-any q (y ∷ xs) (suc d) (suc m) x l e h = drop-any q xs d m x (omega (arith, l)) e h

-- an earlier line isn't the last that queued
earlier : (ls : List Meaning) (E : List HistEntry) (r : Res) (k m : ℕ) (h : HistEntry)
    → length (asks_of (take k ls)) ≤ m → slice_get E m ≡ Some h → queues r h ≡ true → queued_last ls E r k ≡ false
earlier ls E r k m h l at q =
    and_right (queues_at r (entry_of_line ls E k)) (not (list_any (queues r) (entries_behind ls E k)))
    (ap not (drop-any (queues r) E (length (asks_of (take k ls))) m h l at q))

pub no-tells : (t : TaskId) (ls : List Meaning) (E : List HistEntry) (r : Res) (n : ℕ) (T : List ToldLine)
    → list_all (is_code_before t n) T ≡ true → list_all (is_post_before t (suc n)) T ≡ true
    → list_any (is_post_of t n) T ≡ false → ((k : ℕ) → k < n → queued_last ls E r k ≡ false) →
    list_any (tells_control t ls E r) T ≡ false
no-tells t ls E r n [] codes posts unposted none = refl
no-tells t ls E r n (l ∷ T) codes posts unposted none =
    let c = and_parts (is_code_before t n l) (list_all (is_code_before t n) T) codes in
    let p = and_parts (is_post_before t (suc n) l) (list_all (is_post_before t (suc n)) T) posts in
    let u = or_parts (is_post_of t n l) (list_any (is_post_of t n) T) unposted in
    both (tells_control t ls E r l) _ (by_line l c.0 p.0 u.0) (no-tells t ls E r n T c.1 p.1 u.1 none)
  where
    both : (a b : Bool) → a ≡ false → b ≡ false → (a || b) ≡ false
    both false b e f = f
    both true b e f = absurd (cc)

    by_line : (l : ToldLine) → is_code_before t n l ≡ true → is_post_before t (suc n) l ≡ true
        → is_post_of t n l ≡ false → tells_control t ls E r l ≡ false
    by_line (told.Shown v k verb code rows) a b d = refl
    by_line (told.Ended v code) a b d = refl
    by_line (told.Desk k said) a b d = refl
    by_line (told.Coded v k part verb code) a b d = go (same_task t v) a
      where
        go : (z : Bool) → (not z || nat_lt k n) ≡ true → (z && (is_control verb code && queued_last ls E r k)) ≡ false
        go false e = refl
        go true e = and_right (is_control verb code) (queued_last ls E r k) (none k (ltb-true k n e))
    by_line (told.Post v k) a b d = go (same_task t v) b d
      where
        go : (z : Bool) → (not z || nat_lt k (suc n)) ≡ true → (z && (k == n)) ≡ false
            → (z && queued_last ls E r k) ≡ false
        go false e f = refl
        go true e f =
            let below : k < suc n = ltb-true k (suc n) e in
            let ne : k ≢ n = eqb-false k n f in
            none k (omega (arith, below, ne))

-- the entry of a line, where it stands
pub place-of : (ls : List Meaning) (E : List HistEntry) (k : ℕ) (h : HistEntry) → entry_of_line ls E k ≡ Some h
    → slice_get E (length (asks_of (take (k - 1) ls))) ≡ Some h
place-of ls E k h e = go (slice_get ls (k - 1)) e
  where
    go : (o : Option Meaning) → asked_at o (slice_get E (length (asks_of (take (k - 1) ls)))) ≡ Some h
        → slice_get E (length (asks_of (take (k - 1) ls))) ≡ Some h
    go None f = absurd (cc)
    go (Some l) f = by_silent (is_silent l) f
      where
        by_silent : (b : Bool) → cond b None (slice_get E (length (asks_of (take (k - 1) ls)))) ≡ Some h
            → slice_get E (length (asks_of (take (k - 1) ls))) ≡ Some h
        by_silent true g = absurd (cc)
        by_silent false g = g

pub none-earlier : (ls : List Meaning) (E : List HistEntry) (r : Res) (n : ℕ) (h : HistEntry)
    → ((a b : ℕ) → a ≤ b → length (asks_of (take a ls)) ≤ length (asks_of (take b ls))) → entry_of_line ls E n ≡ Some h
    → queues r h ≡ true → (k : ℕ) → k < n → queued_last ls E r k ≡ false
none-earlier ls E r n h more at q k l =
    earlier ls E r k (length (asks_of (take (n - 1) ls))) h (more k (n - 1) (omega (arith, l))) (place-of ls E n h at) q

-- ---- one that is held at a WAIT line
pub marked-has : (r : Res) (xs : List Rec) → is_marked r xs ≡ true → has_res r xs ≡ true
marked-has r [] h = absurd (cc)
marked-has r (x ∷ xs) h = grind (arith, h, marked-has r xs, cases_Bool (same_res r x.res), cases_Bool x.told)

pub unmarked-has : (r : Res) (xs : List Rec) → is_unmarked r xs ≡ true → has_res r xs ≡ true
unmarked-has r [] h = absurd (cc)
unmarked-has r (x ∷ xs) h = grind (arith, h, unmarked-has r xs, cases_Bool (same_res r x.res), cases_Bool x.told)

pub not-both : (r : Res) (xs : List Rec) → is_distinct xs ≡ true → is_marked r xs ≡ true → is_unmarked r xs ≡ true → ⊥
not-both r [] d m u = absurd (cc)
not-both r (x ∷ xs) d m u =
    go (same_res r x.res) refl x.told m u (and_parts (not (has_res x.res xs)) (is_distinct xs) d) (not-both r xs)
  where
    alone : same_res r x.res ≡ true → not (has_res x.res xs) ≡ true → has_res r xs ≡ true → ⊥
    alone e n h =
        no_truth (has_res x.res xs) (subst (λ q. has_res q xs ≡ true) (same_res-exact r x.res e) h)
        (by_not (has_res x.res xs) n)
      where
        by_not : (b : Bool) → not b ≡ true → b ≡ false
        by_not true f = absurd (cc)
        by_not false f = refl

    go : (b : Bool) → same_res r x.res ≡ b → (c : Bool) → ((b && c) || is_marked r xs) ≡ true
        → ((b && not c) || is_unmarked r xs) ≡ true → (not (has_res x.res xs) ≡ true) × (is_distinct xs ≡ true)
        → (is_distinct xs ≡ true → is_marked r xs ≡ true → is_unmarked r xs ≡ true → ⊥) → ⊥
    go true e true a b d more = alone e d.0 (unmarked-has r xs b)
    go true e false a b d more = alone e d.0 (marked-has r xs a)
    go false e c a b d more = more d.1 a b

-- its line has no code yet
pub uncoded : (t : TaskId) (n : ℕ) (T : List ToldLine) → list_all (is_code_before t n) T ≡ true
    → list_any (is_code_of t n) T ≡ false
uncoded t n [] h = refl
uncoded t n (l ∷ T) h =
    let both = and_parts (is_code_before t n l) (list_all (is_code_before t n) T) h in
    grind (arith, by_line l both.0, uncoded t n T both.1)
  where
    apart : (z : Bool) (k : ℕ) → (not z || nat_lt k n) ≡ true → (z && (k == n)) ≡ false
    apart false k e = refl
    apart true k e = by_number (k == n) refl
      where
        by_number : (b : Bool) → (k == n) ≡ b → b ≡ false
        by_number false f = refl
        by_number true f =
            let below : k < n = ltb-true k n e in
            let same : k ≡ n = eqb-true k n f in
            absurd (omega (arith, below, same))

    by_line : (l : ToldLine) → is_code_before t n l ≡ true → is_code_of t n l ≡ false
    by_line (told.Coded u k part verb code) e = apart (same_task t u) k e
    by_line (told.Shown u k verb code rows) e = apart (same_task t u) k e
    by_line (told.Post u k) e = refl
    by_line (told.Ended u code) e = refl
    by_line (told.Desk k said) e = refl

-- the first of these numbers that is so
pub first-found : (q : ℕ → Bool) (a n k : ℕ) → a ≤ k → k < a + n → q k ≡ true → ((j : ℕ) → a ≤ j → j < k → q j ≡ false)
    → slice_get (filter q (range_with_len a n)) 0 ≡ Some k
first-found q a zero k low high is none = absurd (omega (arith, low, high))
first-found q a (suc n) k low high is none =
    go (a == k) refl (λ past.
    first-found q (a + 1) n k past (omega (arith, high)) is (λ j after below. none j (omega (arith, after)) below))
  where
    at_head : (b : Bool) → q a ≡ b → b ≡ true → a ≡ k → slice_get (filter q (a ∷ range_with_len (a + 1) n)) 0 ≡ Some k
    at_head b e f same =
        subst (λ c.
        slice_get (cond c (a ∷ filter q (range_with_len (a + 1) n)) (filter q (range_with_len (a + 1) n))) 0 ≡ Some k)
        (sym (e ∙ f)) (ap Some same)

    go : (b : Bool) → (a == k) ≡ b → (a + 1 ≤ k → slice_get (filter q (range_with_len (a + 1) n)) 0 ≡ Some k)
        → slice_get (filter q (a ∷ range_with_len (a + 1) n)) 0 ≡ Some k
    go true e more = let same : a ≡ k = eqb-true a k e in at_head (q a) refl (ap q same ∙ is) same
    go false e more =
        let ne : a ≢ k = eqb-false a k e in
        let below : a < k = omega (arith, low, ne) in
        subst (λ c.
        slice_get (cond c (a ∷ filter q (range_with_len (a + 1) n)) (filter q (range_with_len (a + 1) n))) 0 ≡ Some k)
        (sym (none a (omega arith) below)) (more (omega (arith, below)))
