-- The message as it goes round: it passes over no system that has still to process an entry.
use Rattle.grs_world.proofs.Common.{[], ◌%◌, ◌++◌, ◌+◌, ◌-◌, ◌<◌, ◌==◌, ◌||◌, ◌∙◌, ◌∷◌, ◌≡◌, ◌≢◌, ◌≤◌, any_unseen, ap}
use Rattle.grs_world.proofs.Common.{arith, Bool, by_test, cleared, closed_by, cond, departed, dropped, false, false_by}
use Rattle.grs_world.proofs.Common.{filter, first_after, first_number, has, has-without_other, has-without_same}
use Rattle.grs_world.proofs.Common.{is_unseen, left_by, length, List, list_any, list_any-append, map, Message, no_truth}
use Rattle.grs_world.proofs.Common.{None, not, Option, or_left, or_parts, or_right, refl, Remove, Req, Request}
use Rattle.grs_world.proofs.Common.{RingEntry, Some, stamped, stands_at, subst, suc, sym, SysId, true, turned_closed}
use Rattle.grs_world.proofs.Common.{turned_open, unseen, without, ℕ, ℕ_discrete}
use Rattle.std.proofs.Common.{add-zero}
use Rattle.rsa_message.specs.Message.{or_else, is_due, moves, moved_on}
use Rattle.grs_wire.specs.Masks.{only}
use Rattle.std.proofs.Math.Nat.{mod-eq_of_lt, mod-add-mod}
use Rattle.rsa_message.proofs.OrderLaws.{stands_at-exact}
use Rattle.grs_world.specs.Laps.{OnlyLeft, LastAtHome}
use Rattle.grs_medium.proofs.Round.{Ahead, home, inside_round, after_some, first_found, first_inside}
use Rattle.grs_medium.proofs.Waiting.{Masks, cleared_live, cleared_unseen, masks_cleared, masks_joined, stamped_unseen}

-- Whoever has still to process an entry: the message comes to it before it has gone once round from the system that
-- put the entry in.
abbrev pub Awaited : ℕ → SysId → RingEntry → Type 0
Awaited systems here e = (u : ℕ) → has e.mask u ≡ true → Ahead systems e.from.0 here.0 u

-- So it is of each request. A removal is put in wherever the message stands, so of it this isn't said.
abbrev pub IsAwaited : ℕ → SysId → RingEntry → Type 0
IsAwaited systems here e = (q : Req) → e.body ≡ Request q → Awaited systems here e

abbrev pub AllAwaited : ℕ → SysId → List RingEntry → Type 0
AllAwaited systems here [] = Unit {0}
AllAwaited systems here (e ∷ es) = IsAwaited systems here e × AllAwaited systems here es

-- Once its own system, if it is one of these live ones, has processed a request, nobody has still to process it.
abbrev pub EndsAtHome : ℕ → RingEntry → Type 0
EndsAtHome live e =
    (q : Req) → e.body ≡ Request q → has live e.from.0 ≡ true → has e.mask e.from.0 ≡ false → (u : ℕ)
    → has e.mask u ≡ false

abbrev pub AllEndAtHome : ℕ → List RingEntry → Type 0
AllEndAtHome live [] = Unit {0}
AllEndAtHome live (e ∷ es) = EndsAtHome live e × AllEndAtHome live es

-- A system that has still to process one of these passes the test.
abbrev pub Passes : ℕ → (SysId → Bool) → List RingEntry → Type 0
Passes n test es = (u : ℕ) → u < n → any_unseen (record { 0 = u }) es ≡ true → test (record { 0 = u }) ≡ true

-- What holds of the message in a run, where these systems are live.
pub record Round (m : Message) (live : ℕ) : Type 0 where
  -- Once it is closed, whoever has still to process an entry has yet to change.
  pub shut : m.closed ≡ true → Passes m.systems (λ s. has m.still s.0) m.entries
  -- It stands at one of the systems, if there is any.
  pub inside : (h : SysId) → m.holder ≡ Some h → 0 < m.systems → h.0 < m.systems
  -- Whoever has still to process an entry is not passed over.
  pub awaited : (h : SysId) → m.holder ≡ Some h → AllAwaited m.systems h m.entries
  -- A request's own system is the last.
  pub ends : AllEndAtHome live m.entries

-- ---- one entry
-- A place further on is the same, counted from two systems.
pub further : (n c f gone j : ℕ) → (f + gone) % n ≡ c → (f + (gone + j)) % n ≡ (c + j) % n
further n c f gone j stands =
    let more : f + (gone + j) ≡ (f + gone) + j = omega arith in
    ap (λ (x : ℕ). x % n) more ∙ sym (mod-add-mod (f + gone) n j) ∙ ap (λ (x : ℕ). (x + j) % n) stands

pub the_way : (n c f gone whole : ℕ) → gone ≤ whole → (f + gone) % n ≡ c → (c + (whole - gone)) % n ≡ (f + whole) % n
the_way n c f gone whole yet stands =
    let way : gone + (whole - gone) ≡ whole = omega arith in
    sym (further n c f gone (whole - gone) stands) ∙ ap (λ (x : ℕ). (f + x) % n) way

-- A system that is due is still ahead of the message when that has moved on.
onward : (n : ℕ) (c h : SysId) (test : SysId → Bool) → or_else (first_after n c test) c ≡ h →
    (f gone whole u : ℕ) → gone < whole → whole ≤ n → (f + gone) % n ≡ c.0 → (f + whole) % n ≡ u
    → test (record { 0 = u }) ≡ true → Ahead n f h.0 u
onward n c h test moved f gone whole u far once stands comes due =
    let there = the_way n c.0 f gone whole (omega arith) stands ∙ comes in
    let r =
    first_found test n c (whole - gone) (omega arith) (omega arith)
    (subst (λ (x : ℕ). test (record { 0 = x }) ≡ true) (sym there) due) in
    record {
      gone = gone + r.0;
      whole = whole;
      left = omega (arith, r.1);
      yet = omega (arith, r.2);
      once = once;
      stands =
          further n c.0 f gone r.0 stands
          ∙ ap (λ (o : Option SysId). (or_else o c).0) (sym r.3)
          ∙ ap (λ (x : SysId). x.0) moved;
      comes = comes;
    }

-- So it is of an entry that was there, now that the caller has processed it.
entry_onward : (n : ℕ) (c h : SysId) (test : SysId → Bool) → or_else (first_after n c test) c ≡ h → (e : RingEntry)
    → ((u : ℕ) → u < n → has (without e.mask c.0) u ≡ true → test (record { 0 = u }) ≡ true)
    → Awaited n c e → Awaited n h (left_by c e)
entry_onward n c h test moved e due ahead u here = go (ℕ_discrete u c.0)
  where
    go : Dec (u ≡ c.0) → Ahead n e.from.0 h.0 u
    go (yes same) =
        let no : false ≡ true =
        sym (has-without_same e.mask c.0) ∙ subst (λ (x : ℕ). has (without e.mask c.0) x ≡ true) same here in
        absurd cc
    go (no other) =
        let a : Ahead n e.from.0 c.0 u = ahead u (sym (has-without_other e.mask c.0 u other) ∙ here) in
        let short : a.gone
        ≢ a.whole = λ same. other (sym a.comes ∙ ap (λ (x : ℕ). (e.from.0 + x) % n) (sym same) ∙ a.stands) in
        onward n c h test moved e.from.0 a.gone a.whole u (omega (arith, a.yet, short)) a.once a.stands a.comes
        (due u (inside_round n e.from.0 c.0 u a) here)

-- So it is of a new entry of the caller, which systems below the number have still to process.
new_onward : (n : ℕ) (c h : SysId) (test : SysId → Bool) → or_else (first_after n c test) c ≡ h → (0 < n → c.0 < n)
    → (e : RingEntry) → e.from ≡ c → ((u : ℕ) → has e.mask u ≡ true → u < n)
    → ((u : ℕ) → u < n → has e.mask u ≡ true → test (record { 0 = u }) ≡ true) → Awaited n h e
new_onward n c h test moved inside e from below due u here =
    let low : u < n = below u here in
    let c_low : c.0 < n = inside (omega arith) in
    let k = after_some n c.0 u c_low low in
    let start : (c.0 + 0) % n ≡ c.0 = ap (λ (x : ℕ). x % n) (add-zero c.0) ∙ mod-eq_of_lt c_low in
    subst (λ (x : SysId). Ahead n x.0 h.0 u) (sym from)
    (onward n c h test moved c.0 0 k.0 u k.1 k.2 start k.3 (due u low here))

-- ---- the last system of an entry
-- Where the message stands at an entry's own system, only that one has still to process it.
pub only_left : (n : ℕ) (c : SysId) (e : RingEntry) → e.from ≡ c → Awaited n c e → OnlyLeft c e
only_left n c e from ahead u other = go (has e.mask u) refl
  where
    go : (b : Bool) → has e.mask u ≡ b → has e.mask u ≡ false
    go false is = is
    go true is = absurd (other (home n c.0 u (subst (λ (x : SysId). Ahead n x.0 c.0 u) from (ahead u is))))

left_ends : (n : ℕ) (c : SysId) (live : ℕ) (e : RingEntry) → IsAwaited n c e → EndsAtHome live e
    → EndsAtHome live (left_by c e)
left_ends n c live e ahead ends q body lives done u = go (ℕ_discrete u c.0)
  where
    by_home : u ≢ c.0 → Dec (e.from.0 ≡ c.0) → has e.mask u ≡ false
    by_home other (yes here) =
        only_left n c e (ap (λ (x : ℕ). let y : SysId = record { 0 = x } in y) here) (ahead q body) u other
    by_home other (no away) = ends q body lives (sym (has-without_other e.mask c.0 e.from.0 away) ∙ done) u

    go : Dec (u ≡ c.0) → has (without e.mask c.0) u ≡ false
    go (yes same) = subst (λ (x : ℕ). has (without e.mask c.0) x ≡ false) (sym same) (has-without_same e.mask c.0)
    go (no other) = has-without_other e.mask c.0 u other ∙ by_home other (ℕ_discrete e.from.0 c.0)

-- all entries that were there, where each that stays ends at home if it did
each_ends : (before after : ℕ) (c : SysId) → ((e : RingEntry) → EndsAtHome before e → EndsAtHome after (left_by c e))
    → (es : List RingEntry) → AllEndAtHome before es → AllEndAtHome after (cleared c es)
unfolding cleared
each_ends before after c one [] ends = tt
each_ends before after c one (e ∷ es) ends = go (not (e.mask == only c.0)) (each_ends before after c one es ends.1)
  where
    go : (b : Bool) → AllEndAtHome after (cleared c es)
        → AllEndAtHome after (map (left_by c)
        (cond b (e ∷ filter (λ x. not (x.mask == only c.0)) es) (filter (λ x. not (x.mask == only c.0)) es)))
    go true on = (one e ends.0, on)
    go false on = on

cleared_ends : (n : ℕ) (c : SysId) (live : ℕ) (es : List RingEntry) → AllAwaited n c es → AllEndAtHome live es
    → AllEndAtHome live (cleared c es)
unfolding cleared
cleared_ends n c live [] all ends = tt
cleared_ends n c live (e ∷ es) all ends = go (not (e.mask == only c.0)) (cleared_ends n c live es all.1 ends.1)
  where
    go : (b : Bool) → AllEndAtHome live (cleared c es)
        → AllEndAtHome live (map (left_by c)
        (cond b (e ∷ filter (λ x. not (x.mask == only c.0)) es) (filter (λ x. not (x.mask == only c.0)) es)))
    go true on = (left_ends n c live e all.0 ends.0, on)
    go false on = on

-- A new request has its own system in its mask, if that one is live.
stamped_ends : (c : SysId) (number live : ℕ) (rs : List Req) → AllEndAtHome live (stamped number c live rs)
unfolding stamped
stamped_ends c number live [] = tt
stamped_ends c number live
    (r ∷ rs) = (λ q body lives out u. no_truth (has live c.0) lives out, stamped_ends c (suc number) live rs)

ends_joined : (live : ℕ) (xs ys : List RingEntry) → AllEndAtHome live xs → AllEndAtHome live ys
    → AllEndAtHome live (xs ++ ys)
ends_joined live [] ys a b = b
ends_joined live (x ∷ xs) ys a b = (a.0, ends_joined live xs ys a.1 b)

-- ---- all entries
passes_head : (n : ℕ) (test : SysId → Bool) (e : RingEntry) (es : List RingEntry) → Passes n test (e ∷ es) → (u : ℕ)
    → u < n → has e.mask u ≡ true → test (record { 0 = u }) ≡ true
unfolding any_unseen
passes_head n test e es due u low here = due u low (or_left _ (list_any (is_unseen (record { 0 = u })) es) here)

passes_tail : (n : ℕ) (test : SysId → Bool) (e : RingEntry) (es : List RingEntry) → Passes n test (e ∷ es)
    → Passes n test es
unfolding any_unseen
passes_tail n test e es due u low here = due u low (or_right (has e.mask u) _ here)

cleared_onward : (n : ℕ) (c h : SysId) (test : SysId → Bool) → or_else (first_after n c test) c ≡ h
    → (es : List RingEntry) → Passes n test (cleared c es)
    → AllAwaited n c es → AllAwaited n h (cleared c es)
unfolding cleared
cleared_onward n c h test moved [] due all = tt
cleared_onward n c h test moved (e ∷ es) due all =
    go (not (e.mask == only c.0)) (λ d. cleared_onward n c h test moved es d all.1) due
  where
    Kept : Bool → List RingEntry
    Kept b =
        map (left_by c)
        (cond b (e ∷ filter (λ x. not (x.mask == only c.0)) es) (filter (λ x. not (x.mask == only c.0)) es))

    go : (b : Bool) → (Passes n test (cleared c es) → AllAwaited n h (cleared c es)) → Passes n test (Kept b)
        → AllAwaited n h (Kept b)
    go true on d = (
      λ q body. entry_onward n c h test moved e (passes_head n test (left_by c e) (cleared c es) d) (all.0 q body),
      on (passes_tail n test (left_by c e) (cleared c es) d),
    )
    go false on d = on d

stamped_onward : (n : ℕ) (c h : SysId) (test : SysId → Bool) → or_else (first_after n c test) c ≡ h → (0 < n → c.0 < n)
    → (number mask : ℕ) → ((u : ℕ) → has mask u ≡ true → u < n) → (rs : List Req)
    → Passes n test (stamped number c mask rs) → AllAwaited n h (stamped number c mask rs)
unfolding stamped
stamped_onward n c h test moved inside number mask below [] due = tt
stamped_onward n c h test moved inside number mask below (r ∷ rs) due =
    let e : RingEntry = record { number = number; from = c; body = Request r; mask = mask } in (
      λ q body.
          new_onward n c h test moved inside e refl below (passes_head n test e (stamped (suc number) c mask rs) due),
      stamped_onward n c h test moved inside (suc number) mask below rs
          (passes_tail n test e (stamped (suc number) c mask rs) due),
    )

joined : (n : ℕ) (h : SysId) (xs ys : List RingEntry) → AllAwaited n h xs → AllAwaited n h ys
    → AllAwaited n h (xs ++ ys)
joined n h [] ys a b = b
joined n h (x ∷ xs) ys a b = (a.0, joined n h xs ys a.1 b)

passes_front : (n : ℕ) (test : SysId → Bool) (xs ys : List RingEntry) → Passes n test (xs ++ ys) → Passes n test xs
unfolding any_unseen
passes_front n test xs ys due u low here =
    due u low (list_any-append (is_unseen (record { 0 = u })) xs ys ∙ or_left _ _ here)

passes_back : (n : ℕ) (test : SysId → Bool) (xs ys : List RingEntry) → Passes n test (xs ++ ys) → Passes n test ys
unfolding any_unseen
passes_back n test xs ys due u low here =
    due u low (list_any-append (is_unseen (record { 0 = u })) xs ys
    ∙ or_right (list_any (is_unseen (record { 0 = u })) xs) _ here)

-- ---- a Turn
due_all : (n live rest : ℕ) (es : List RingEntry) → Masks live es → Passes n (is_due es live rest) es
due_all n live rest es masks u low here = let in_it : has live u ≡ true = masks u here in rw (in_it, here) refl

moved_inside : (n : ℕ) (c : SysId) (first : Option SysId) (h : SysId) → c.0 < n
    → ((x : SysId) → first ≡ Some x → x.0 < n) → or_else first c ≡ h → h.0 < n
moved_inside n c None h low each e = subst (λ (x : SysId). x.0 < n) e low
moved_inside n c (Some x) h low each e = subst (λ (y : SysId). y.0 < n) e (each x refl)

-- It is open.
pub open_round : (m : Message) (c : SysId) (out : List Req) (live rest : ℕ) → Round m live
    → Masks live m.entries → ((u : ℕ) → has live u ≡ true → u < m.systems) → m.holder ≡ Some c → m.closed ≡ false
    → Round (turned_open m c out live rest) live
open_round m c out live rest laws waits below here opened =
    let n : ℕ = m.systems in
    let flags : ℕ = cond (moves m c (length out)) (without rest c.0) rest in
    let old : List RingEntry = cleared c m.entries in
    let new : List RingEntry = stamped m.next c live out in
    let test : SysId → Bool = is_due (old ++ new) live flags in
    let masks : Masks live (old ++ new) =
    masks_joined live old new (masks_cleared live c m.entries waits) (stamped_unseen c m.next live out) in
    let due : Passes n test (old ++ new) = due_all n live flags (old ++ new) masks in
    record {
      shut = λ shut. absurd cc;
      inside = λ h at some.
          moved_inside n c (first_after n c test) h (laws.inside c here some) (λ x e. first_inside test n c x some e)
          (cc);
      awaited = λ h at.
          let moved : or_else (first_after n c test) c ≡ h = cc in
          joined n h old new
          (cleared_onward n c h test moved m.entries (passes_front n test old new due) (laws.awaited c here))
          (stamped_onward n c h test moved (laws.inside c here) m.next live below out (passes_back n test old new due));
      ends =
          ends_joined live old new (cleared_ends n c live m.entries (laws.awaited c here) laws.ends)
          (stamped_ends c m.next live out);
    }

-- It is closed: the caller changes, and has processed all.
pub closed_turn : (m : Message) (c : SysId) (live : ℕ) → Round m live → m.holder ≡ Some c → m.closed ≡ true
    → Round (turned_closed m c) live
closed_turn m c live laws here shut =
    let n : ℕ = m.systems in
    let test : SysId → Bool = λ s. has (without m.still c.0) s.0 in
    let due :
    Passes n test (cleared c m.entries) = λ u low k. let r = cleared_unseen c m.entries u k in
    has-without_other m.still c.0 u r.0 ∙ laws.shut shut u low r.1 in
    record {
      shut = λ z. due;
      inside = λ h at some. first_inside test n c h some at;
      awaited = λ h at. cleared_onward n c h test (ap (λ o. or_else o c) at) m.entries due (laws.awaited c here);
      ends = cleared_ends n c live m.entries (laws.awaited c here) laws.ends;
    }

-- ---- a system is removed
-- A request's own system, if it is another one, is still the last.
gone_ends : (before after : ℕ) (t : SysId) → has after t.0 ≡ false
    → ((u : ℕ) → has after u ≡ true → has before u ≡ true) → (e : RingEntry) → EndsAtHome before e
    → EndsAtHome after (left_by t e)
gone_ends before after t gone fewer e ends q body lives done u = go (ℕ_discrete u t.0)
  where
    away : e.from.0 ≢ t.0
    away same = no_truth (has after e.from.0) lives (ap (has after) same ∙ gone)

    go : Dec (u ≡ t.0) → has (without e.mask t.0) u ≡ false
    go (yes same) = subst (λ (x : ℕ). has (without e.mask t.0) x ≡ false) (sym same) (has-without_same e.mask t.0)
    go (no other) =
        has-without_other e.mask t.0 u other
        ∙ ends q body (fewer e.from.0 lives) (sym (has-without_other e.mask t.0 e.from.0 away) ∙ done) u

-- Where the message doesn't move, whoever has still to process an entry is ahead as before.
still_awaited : (n : ℕ) (t h : SysId) (es : List RingEntry) → AllAwaited n h es → AllAwaited n h (cleared t es)
unfolding cleared
still_awaited n t h [] all = tt
still_awaited n t h (e ∷ es) all = go (not (e.mask == only t.0)) (still_awaited n t h es all.1)
  where
    go : (b : Bool) → AllAwaited n h (cleared t es)
        → AllAwaited n h (map (left_by t)
        (cond b (e ∷ filter (λ x. not (x.mask == only t.0)) es) (filter (λ x. not (x.mask == only t.0)) es)))
    go true on = (λ q body u k. all.0 q body u (was u k), on)
      where
        was : (u : ℕ) → has (without e.mask t.0) u ≡ true → has e.mask u ≡ true
        was u k =
            sym (has-without_other e.mask t.0 u (λ same.
            no_truth (has (without e.mask t.0) u) k (ap (has (without e.mask t.0)) same ∙ has-without_same e.mask t.0)))
            ∙ k
    go false on = on

pub dropped_round : (m : Message) (c t : SysId) (before live : ℕ) → Round m before → Masks before m.entries
    → m.closed ≡ false → has live t.0 ≡ false → ((u : ℕ) → u ≢ t.0 → has live u ≡ has before u)
    → Round (dropped m c t live) live
unfolding dropped
dropped_round m c t before live laws waits opened gone others_same = record {
  shut = λ z. no_truth m.closed z opened;
  inside = λ h at some. (stands (stands_at m.holder t) refl h at).0 some;
  awaited = λ h at.
      joined m.systems h (cleared t m.entries) (new ∷ []) (stands (stands_at m.holder t) refl h at).1
      (λ q body. absurd (cc), tt);
  ends =
      ends_joined live (cleared t m.entries) (new ∷ [])
      (each_ends before live t (gone_ends before live t gone fewer) m.entries laws.ends) (λ q body. absurd (cc), tt);
}
  where
    new : RingEntry
    new = record { number = m.next; from = c; body = Remove t; mask = live }

    apart : (u : ℕ) → has live u ≡ true → u ≢ t.0
    apart u h same = no_truth (has live u) h (ap (has live) same ∙ gone)

    fewer : (u : ℕ) → has live u ≡ true → has before u ≡ true
    fewer u h = sym (others_same u (apart u h)) ∙ h

    masks : Masks live (cleared t m.entries)
    masks = cleared_live t before live others_same m.entries waits

    stands : (b : Bool) → stands_at m.holder t ≡ b → (h : SysId)
        → cond b (first_after m.systems t (λ s. has live s.0)) m.holder ≡ Some h
        → (0 < m.systems → h.0 < m.systems) × AllAwaited m.systems h (cleared t m.entries)
    stands true here h at = (
      λ some. first_inside (λ s. has live s.0) m.systems t h some at,
      cleared_onward m.systems t h (λ s. has live s.0) (ap (λ o. or_else o t) at) m.entries (λ u low k. masks u k)
          (laws.awaited t (stands_at-exact m.holder t here)),
    )
    stands false here h at = (laws.inside h at, still_awaited m.systems t h m.entries (laws.awaited h at))

-- Where the message is closed, it leaves those that have yet to change.
pub departed_round : (m : Message) (t : SysId) (before live : ℕ) → Round m before → m.closed ≡ true
    → has live t.0 ≡ false → ((u : ℕ) → u ≢ t.0 → has live u ≡ has before u) → Round (departed m t) live
unfolding departed
departed_round m t before live laws shut gone others_same = record {
  shut = λ z. due;
  inside = λ h at some. (stands (stands_at m.holder t) refl h at).0 some;
  awaited = λ h at. (stands (stands_at m.holder t) refl h at).1;
  ends = each_ends before live t (gone_ends before live t gone fewer) m.entries laws.ends;
}
  where
    test : SysId → Bool
    test = λ s. has (without m.still t.0) s.0

    fewer : (u : ℕ) → has live u ≡ true → has before u ≡ true
    fewer u h = sym (others_same u (λ same. no_truth (has live u) h (ap (has live) same ∙ gone))) ∙ h

    due : Passes m.systems (λ s. has (without m.still t.0) s.0) (cleared t m.entries)
    due u low k =
        let r = cleared_unseen t m.entries u k in
        has-without_other m.still t.0 u r.0 ∙ laws.shut shut u low r.1

    stands : (b : Bool) → stands_at m.holder t ≡ b → (h : SysId)
        → cond b (first_after m.systems t (λ s. has (without m.still t.0) s.0)) m.holder ≡ Some h
        → (0 < m.systems → h.0 < m.systems) × AllAwaited m.systems h (cleared t m.entries)
    stands true here h at = (
      λ some. first_inside test m.systems t h some at,
      cleared_onward m.systems t h test (ap (λ o. or_else o t) at) m.entries due
          (laws.awaited t (stands_at-exact m.holder t here)),
    )
    stands false here h at = (laws.inside h at, still_awaited m.systems t h m.entries (laws.awaited h at))

-- ---- it is closed by a system that has processed all
pub none_unseen : (c : SysId) (es : List RingEntry) → first_number (unseen c es) ≡ None → any_unseen c es ≡ false
unfolding unseen any_unseen
none_unseen c [] h = refl
none_unseen c (e ∷ es) h = go (has e.mask c.0) (none_unseen c es) h
  where
    go : (b : Bool) → (first_number (filter (is_unseen c) es) ≡ None → list_any (is_unseen c) es ≡ false)
        → first_number (cond b (e ∷ filter (is_unseen c) es) (filter (is_unseen c) es)) ≡ None
        → (b || list_any (is_unseen c) es) ≡ false
    go true more k = absurd (cc)
    go false more k = more k

-- the message moves on from a system that has processed all
passed_onward : (n : ℕ) (s h : SysId) (test : SysId → Bool) → or_else (first_after n s test) s ≡ h
    → (es : List RingEntry) → any_unseen s es ≡ false → Passes n test es → AllAwaited n s es → AllAwaited n h es
unfolding any_unseen
passed_onward n s h test moved [] idle due all = tt
passed_onward n s h test moved (e ∷ es) idle due all =
    let parts = or_parts (has e.mask s.0) (list_any (is_unseen s) es) idle in
    (λ q body. head parts.0 q body, passed_onward n s h test moved es parts.1 (passes_tail n test e es due) all.1)
  where
    away : has e.mask s.0 ≡ false → (u : ℕ) → has e.mask u ≡ true → u ≢ s.0
    away none u k same = let no : true ≡ false = sym k ∙ (ap (has e.mask) same ∙ none) in absurd (cc)

    back : (u : ℕ) → has (without e.mask s.0) u ≡ true → has e.mask u ≡ true
    back u k =
        let ne : u
        ≢ s.0 = λ same.
        let no : true ≡ false = sym k ∙ (ap (has (without e.mask s.0)) same ∙ has-without_same e.mask s.0) in
        absurd (cc) in
        sym (has-without_other e.mask s.0 u ne) ∙ k

    head : has e.mask s.0 ≡ false → (q : Req) → e.body ≡ Request q → Awaited n h e
    head none q body u k =
        entry_onward n s h test moved e (λ v low z. passes_head n test e es due v low (back v z)) (all.0 q body) u
        (has-without_other e.mask s.0 u (away none u k) ∙ k)

pub closed_round : (m : Message) (c : SysId) (live : ℕ) → Round m live → Masks live m.entries
    → any_unseen c m.entries ≡ false → Round (closed_by m c live) live
unfolding closed_by first_after
closed_round m c live laws waits idle = record {
  shut = λ z. due;
  inside = λ h at some. (stands m.holder refl h at).0 some;
  awaited = λ h at. (stands m.holder refl h at).1;
  ends = laws.ends;
}
  where
    test : SysId → Bool
    test s = has (without live c.0) s.0

    due : Passes m.systems (λ s. has (without live c.0) s.0) m.entries
    due u low k =
        let ne : u
        ≢ c.0 = λ same.
        let no : true ≡ false = sym k ∙ (ap (λ (i : ℕ). any_unseen (record { 0 = i }) m.entries) same ∙ idle) in
        absurd (cc) in
        has-without_other live c.0 u ne ∙ waits u k

    no_place : (s h : SysId) (k : ℕ) → k ≡ 0 → first_after k s (λ t. has (without live c.0) t.0) ≡ Some h → ⊥
    no_place s h k none at =
        let z : None ≡ Some h = subst (λ i. first_after i s (λ t. has (without live c.0) t.0) ≡ Some h) none at in
        absurd (cc)

    passes : (s : SysId) → m.holder ≡ Some s → has (without live c.0) s.0 ≡ false → (h : SysId)
        → first_after m.systems s (λ t. has (without live c.0) t.0) ≡ Some h → any_unseen s m.entries ≡ false
    passes s is out h at = false_by (any_unseen s m.entries) (λ k. by_count (ℕ_discrete m.systems 0) k)
      where
        by_count : Dec (m.systems ≡ 0) → any_unseen s m.entries ≡ true → any_unseen s m.entries ≡ false
        by_count (yes none) k = absurd (no_place s h m.systems none at)
        by_count (no some) k =
            absurd (let low : s.0 < m.systems = laws.inside s is (omega (arith, some)) in
            let no : true ≡ false = sym (due s.0 low k) ∙ out in
            cc)

    stands : (o : Option SysId) → m.holder ≡ o → (h : SysId) → moved_on m.systems o (without live c.0) ≡ Some h
        → (0 < m.systems → h.0 < m.systems) × AllAwaited m.systems h m.entries
    stands None is h at = absurd (cc)
    stands (Some s) is h at = go (has (without live c.0) s.0) refl at
      where
        go : (b : Bool) → has (without live c.0) s.0 ≡ b
            → cond b (Some s) (first_after m.systems s (λ t. has (without live c.0) t.0)) ≡ Some h
            → (0 < m.systems → h.0 < m.systems) × AllAwaited m.systems h m.entries
        go true f k = let same : m.holder ≡ Some h = is ∙ k in (laws.inside h same, laws.awaited h same)
        go false f k = (
          λ some. first_inside (λ t. has (without live c.0) t.0) m.systems s h some k,
          passed_onward m.systems s h (λ t. has (without live c.0) t.0) (ap (λ o. or_else o s) k) m.entries
              (passes s is f h k) due (laws.awaited s is),
        )

-- ---- where it has come home
awaited_of : (n : ℕ) (h : SysId) (before behind : List RingEntry) (e : RingEntry)
    → AllAwaited n h (before ++ e ∷ behind) → IsAwaited n h e
awaited_of n h [] behind e a = a.0
awaited_of n h (x ∷ before) behind e a = awaited_of n h before behind e a.1

-- Of these requests a system's own are left to it alone.
pub left_at_home : (n : ℕ) (s : SysId) (es before behind : List RingEntry) (e : RingEntry) (q : Req) → AllAwaited n s es
    → es ≡ before ++ e ∷ behind → e.body ≡ Request q → e.from ≡ s → OnlyLeft s e
left_at_home n s es before behind e q all is body from =
    only_left n s e from (awaited_of n s before behind e (subst (AllAwaited n s) is all) q body)

pub last_at_home : (m : Message) (live : ℕ) → Round m live → LastAtHome m
last_at_home m live laws s before behind e q held body from here =
    left_at_home m.systems s m.entries before behind e q (laws.awaited s (stands_at-exact m.holder s here)) held body
    from

-- The entries that a system has still to process are awaited as all are.
pub unseen_awaited : (n : ℕ) (s : SysId) (es : List RingEntry) → AllAwaited n s es → AllAwaited n s (unseen s es)
unfolding unseen
unseen_awaited n s [] a = tt
unseen_awaited n s (e ∷ es) a =
    by_test (AllAwaited n s) (has e.mask s.0) (e ∷ unseen s es) (unseen s es) (λ t. (a.0, unseen_awaited n s es a.1))
    (λ t. unseen_awaited n s es a.1)
