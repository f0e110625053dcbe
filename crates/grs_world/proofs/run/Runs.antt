-- What holds of the world at every moment of a run, part by part, and how an event of a system keeps it.
use Rattle.grs_world.proofs.Common.{[], ◌++◌, ◌+◌, ◌-◌, ◌==◌, ◌∙◌, ◌∷◌, ◌≡◌, ◌≢◌, ◌≤◌, and_parts, ap, append-nil}
use Rattle.grs_world.proofs.Common.{append_assoc, arith, counted, Deck, drop, drop-append_seam, eqb-true, Event, false}
use Rattle.grs_world.proofs.Common.{false_by, filter, filter-append, first_world, Fixed, fixed_by, happens, has, hist}
use Rattle.grs_world.proofs.Common.{HistEntry, history, is_line_of, IsHistory, items, items_are_history, length}
use Rattle.grs_world.proofs.Common.{length-append, lines_of_told, List, list_all, live, map-append, MediumState, Moment}
use Rattle.grs_world.proofs.Common.{NodeState, OrdersFit, own_requests, placed, put_at, refl, rounds, run, RunItem}
use Rattle.grs_world.proofs.Common.{Said, same_Some, set, slice_get, slice_get-set, slice_get-set_other, Some, Step}
use Rattle.grs_world.proofs.Common.{subst, suc, sym, SysId, take, TaskId, Told, told_by, ToldLine, ToldNews, true}
use Rattle.grs_world.proofs.Common.{Turnout, World, ℕ}
use Rattle.std.proofs.Math.Seq.{take-append_seam, take-length}
use Rattle.grs_known.proofs.system.Says.{AgreesBehind}
use Rattle.grs_world.specs.Agree.{Agrees, AgreesBy, AllAgree, moment, DeskAgrees}
use Rattle.std.proofs.lemmas.List.{take-append-le}
use Rattle.grs_known.proofs.told.News.{LinesAgree}
use Rattle.grs_wire.specs.History.{answered}
use Rattle.grs_known.proofs.lists.Placed.{put_each}
use Rattle.rsa_message.proofs.Stands.{Stands, waits_for}
use Rattle.grs_world.proofs.run.Placed.{by_node}
use Rattle.grs_world.proofs.run.Growing.{fixeds, grows-items, grows-history, grows-rounds, grows-seen, grows-requests}
use Rattle.grs_world.proofs.run.Growing.{own_requests-append}
use Rattle.grs_world.proofs.run.Outcomes.{Outcome}
use Rattle.grs_world.proofs.run.Each.{run-push}
use Rattle.grs_world.proofs.system.AtNode.{Seen}
use Rattle.grs_wire.specs.declared.told.ToldLine.TheVariants as lines

-- ---- what was told
lines_of_told-append : (xs ys : List Told) → lines_of_told (xs ++ ys) ≡ lines_of_told xs ++ lines_of_told ys
lines_of_told-append [] ys = refl
lines_of_told-append (x ∷ xs) ys = ap (λ zs. x.line ∷ zs) (lines_of_told-append xs ys)

lines-told_by : (n : ℕ) (c : SysId) (ls : List ToldLine) → lines_of_told (told_by n c ls) ≡ ls
lines-told_by n c [] = refl
lines-told_by n c (l ∷ ls) = ap (λ zs. l ∷ zs) (lines-told_by n c ls)

agree-append : (deck : Deck) (es : List Event) (before xs ys : List Told) → AllAgree deck es before xs
    → AllAgree deck es (before ++ xs) ys → AllAgree deck es before (xs ++ ys)
agree-append deck es before [] ys a b = subst (λ T. AllAgree deck es T ys) (append-nil before) b
agree-append deck es before (x ∷ xs) ys a b = (
  a.0,
  agree-append deck es (before ++ x ∷ []) xs ys a.1
      (subst (λ T. AllAgree deck es T ys) (sym (append_assoc before (x ∷ []) xs)) b),
)

-- each line was told by now
abbrev pub AllBy : ℕ → List Told → Type 0
AllBy n [] = Unit {0}
AllBy n (x ∷ xs) = (x.event ≤ n) × AllBy n xs

pub by-later : (n m : ℕ) → n ≤ m → (xs : List Told) → AllBy n xs → AllBy m xs
by-later n m h [] a = tt
by-later n m h (x ∷ xs) a = (omega (arith, h, a.0), by-later n m h xs a.1)

by-append : (n : ℕ) (xs ys : List Told) → AllBy n xs → AllBy n ys → AllBy n (xs ++ ys)
by-append n [] ys a b = b
by-append n (x ∷ xs) ys a b = (a.0, by-append n xs ys a.1 b)

by-told : (n : ℕ) (c : SysId) (ls : List ToldLine) → AllBy n (told_by n c ls)
by-told n c [] = tt
by-told n c (l ∷ ls) = (omega arith, by-told n c ls)

-- the moment between these events
abbrev between : Deck → List Event → List Event → List Told → Moment
between deck up_to earlier before = record {
  history = hist deck up_to;
  fixed = drop (length (run deck earlier).fixed) (run deck up_to).fixed;
  before = before;
}

-- lines told before an event agree with it as before
pub agree-longer : (deck : Deck) (es : List Event) (e : Event) (before xs : List Told) → AllBy (length es) xs
    → AllAgree deck es before xs → AllAgree deck (es ++ e ∷ []) before xs
agree-longer deck es e before [] n a = tt
agree-longer deck es e before (x ∷ xs) n a =
    let same : moment deck (es ++ e ∷ []) x.event before ≡ moment deck es x.event before =
    ap (λ us. between deck us (take (x.event - 1) (es ++ e ∷ [])) before) (take-append-le x.event es (e ∷ []) n.0)
    ∙ ap (λ us. between deck (take x.event es) us before)
    (take-append-le (x.event - 1) es (e ∷ []) (omega (arith, n.0))) in
    (subst (λ m. Agrees deck m x) (sym same) a.0, agree-longer deck es e (before ++ x ∷ []) xs n.1 a.1)

of_system : (c : SysId) (t : TaskId) → (t.system.0 == c.0) ≡ true → c ≡ t.system
of_system c t e = ap (λ n. record { 0 = n }) (sym (eqb-true t.system.0 c.0 e))

-- a line that a system tells its own task agrees
told-agrees : (deck : Deck) (m : Moment) (n : ℕ) (c : SysId) (l : ToldLine) → is_line_of c.0 l ≡ true
    → AgreesBehind deck m.history (lines_of_told m.before) l → AgreesBy deck m n c l
told-agrees deck m n c (lines.Coded t k part verb code) ours a = (a.0, (of_system c t ours, a.1))
told-agrees deck m n c (lines.Shown t k verb code rows) ours a = (of_system c t ours, a)
told-agrees deck m n c (lines.Post t k) ours a = (of_system c t ours, a)
told-agrees deck m n c (lines.Ended t code) ours a = (of_system c t ours, a)
told-agrees deck m n c (lines.Desk k said) ours a = absurd a

-- lines told in the last event
agree-new : (deck : Deck) (es : List Event) (n : ℕ) (c : SysId) (before : List Told) (ls : List ToldLine)
    → n ≡ length es → list_all (is_line_of c.0) ls ≡ true → LinesAgree deck (hist deck es) (lines_of_told before) ls
    → AllAgree deck es before (told_by n c ls)
agree-new deck es n c before [] e ours a = tt
agree-new deck es n c before (l ∷ ls) e ours a =
    let x : Told = record { event = n; system = c; line = l } in (
      told-agrees deck (moment deck es n before) n c l (and_parts _ _ ours).0
          (subst (λ us. AgreesBehind deck (hist deck us) (lines_of_told before) l)
          (sym (ap (λ m. take m es) e ∙ take-length es)) a.0),
      agree-new deck es n c (before ++ x ∷ []) ls e (and_parts _ _ ours).1
          (subst (λ T. LinesAgree deck (hist deck es) T ls) (sym (lines_of_told-append before (x ∷ []))) a.1),
    )

other_number : (a s u : ℕ) → u ≢ s → (a == s) ≡ true → (a == u) ≡ false
other_number a s u ne e = false_by (a == u) (λ f. absurd (ne (sym (eqb-true a u f) ∙ eqb-true a s e)))

line-apart : (s u : ℕ) (l : ToldLine) → u ≢ s → is_line_of s l ≡ true → is_line_of u l ≡ false
line-apart s u (lines.Coded t k part verb code) ne h = other_number t.system.0 s u ne h
line-apart s u (lines.Shown t k verb code rows) ne h = other_number t.system.0 s u ne h
line-apart s u (lines.Post t k) ne h = other_number t.system.0 s u ne h
line-apart s u (lines.Ended t code) ne h = other_number t.system.0 s u ne h
line-apart s u (lines.Desk k said) ne h = refl

lines-apart : (s u : ℕ) (ls : List ToldLine) → u ≢ s → list_all (is_line_of s) ls ≡ true → filter (is_line_of u) ls ≡ []
lines-apart s u [] ne h = refl
lines-apart s u (l ∷ ls) ne h = rw (line-apart s u l ne (and_parts _ _ h).0) (lines-apart s u ls ne (and_parts _ _ h).1)

-- ---- the parts
-- What was told: it is counted by events, each line agrees with its event, where the desks' commands are of other
-- systems that are there, and each system has told its part of it; the lines of its desk are in no part of that.
pub record GoodTold (deck : Deck) (es : List Event) (w : World) : Type 0 where
  pub counted : w.events ≡ length es
  pub by_now : AllBy (length es) w.told
  pub agree : OrdersFit deck → AllAgree deck es [] w.told
  pub lines : (s : ℕ) (n : NodeState) → slice_get w.nodes s ≡ Some n
      → filter (is_line_of s) n.tasks.told ≡ filter (is_line_of s) (lines_of_told w.told)

-- The message holds, of all that was put in, what a system has yet to process, under its number.
pub record GoodMessage (m : MediumState) (log : List Fixed) (seen : ℕ → ℕ) : Type 0 where
  pub stands : Stands (waits_for (live m) seen) 0 log m.message.entries
  pub next : m.message.next ≡ suc (length log)

-- what went with the message, and how much of it systems have processed
abbrev pub message_log : List RunItem → List Fixed
message_log T = fixeds (rounds T)

abbrev pub seen_at : (ℕ → List RunItem) → ℕ → ℕ
seen_at before s = length (before s)

-- each system that is live is as it should be by the items
abbrev pub GoodSystems : Deck → World → (ℕ → List RunItem) → (ℕ → List RunItem) → Type 0
GoodSystems deck w before later =
    (s : ℕ) (n : NodeState) → slice_get w.nodes s ≡ Some n → has (live w.medium) s ≡ true
    → Seen deck s (items w.fixed) (before s) (later s) (own_requests s (later s)) n

-- What holds of the world w after these events. Of each system it says which of the items that went with the message it
-- has processed.
pub record GoodWorld (deck : Deck) (es : List Event) (w : World) : Type 0 where
  pub history : IsHistory deck (items w.fixed)
  pub told : GoodTold deck es w
  pub before : ℕ → List RunItem
  pub later : ℕ → List RunItem
  pub whole : (s : ℕ) → rounds (items w.fixed) ≡ before s ++ later s
  pub message : GoodMessage w.medium (message_log (items w.fixed)) (seen_at before)
  pub systems : GoodSystems deck w before later

-- ---- what was told, by one event more
-- an event that is only counted tells nothing
pub told-counted : (deck : Deck) (es : List Event) (e : Event) (w : World) → GoodTold deck es w
    → GoodTold deck (es ++ e ∷ []) (counted w)
told-counted deck es e w g = record {
  counted = ap (λ k. k + 1) g.counted ∙ sym (length-append es (e ∷ []));
  by_now = by-later (length es) (length (es ++ e ∷ [])) (omega (arith, length-append es (e ∷ []))) w.told g.by_now;
  agree = λ fit. agree-longer deck es e [] w.told g.by_now (g.agree fit);
  lines = g.lines;
}

-- The moment of an event behind this world: the history up to it, and what it fixed.
pub record IsMoment (w : World) (H : List HistEntry) (fs : List (SysId × Fixed)) (m : Moment) : Type 0 where
  pub before : m.before ≡ w.told
  pub history : m.history ≡ H
  pub fixed : m.fixed ≡ fs

-- What an event of system c tells that fixed this, where this was told before it: lines of its tasks that agree with
-- the history H, or one line of its desk, or such a line and then lines of its tasks.
pub data Tells (deck : Deck) (w : World) (c : SysId) (H : List HistEntry) (fixed : List Fixed) (T0 T : List ToldLine) :
    Type 0 where
  to_tasks : ToldNews deck c.0 H T0 T → Tells deck w c H fixed T0 T
  at_desk : (k : ℕ) (said : Said) → T ≡ T0 ++ lines.Desk k said ∷ []
      → ((m : Moment) → IsMoment w H (fixed_by c fixed) m → OrdersFit deck → DeskAgrees deck m (w.events + 1) c k said)
      → Tells deck w c H fixed T0 T
  at_desk_first : (k : ℕ) (said : Said) (T1 : List ToldLine) → T1 ≡ T0 ++ lines.Desk k said ∷ [] →
      ((m : Moment) → IsMoment w H (fixed_by c fixed) m → OrdersFit deck → DeskAgrees deck m (w.events + 1) c k said)
      → ToldNews deck c.0 H T1 T → Tells deck w c H fixed T0 T

module _ (deck : Deck) (es : List Event) (e : Event) (n : NodeState)
    (at : slice_get (run deck es).nodes e.system.0 ≡ Some n) (g : GoodTold deck es (run deck es)) (o : Turnout)
    (T : List RunItem) (items_now : items (placed (run deck es) e.system n o).fixed ≡ T)
    (is : happens deck (run deck es) e ≡ placed (run deck es) e.system n o) where
  abbrev told_world : World
  told_world = run deck es

  -- the number of the event
  told_number : told_world.events + 1 ≡ length (es ++ e ∷ [])
  told_number = ap (λ k. k + 1) g.counted ∙ sym (length-append es (e ∷ []))

  told_history : hist deck (es ++ e ∷ []) ≡ history T
  unfolding placed
  told_history =
      ap (λ (x : World). answered x.fixed) (run-push deck es (first_world deck) e ∙ is)
      ∙ sym (items_are_history ((run deck es).fixed ++ fixed_by e.system o.step.fixed)).0
      ∙ ap history items_now

  -- it tells these lines, each of which agrees, and none is of another system's task
  told-behind : (ls : List ToldLine) → o.step.node.tasks.told ≡ n.tasks.told ++ ls
      → ((u : ℕ) → u ≢ e.system.0 → filter (is_line_of u) ls ≡ [])
      → (OrdersFit deck → AllAgree deck (es ++ e ∷ []) told_world.told (told_by (told_world.events + 1) e.system ls))
      → GoodTold deck (es ++ e ∷ []) (placed told_world e.system n o)
  unfolding placed
  told-behind ls now apart agree =
      let w : World = run deck es in
      let s : ℕ = e.system.0 in
      let after : List ToldLine = o.step.node.tasks.told in
      let lines_are : drop (length n.tasks.told) after ≡ ls =
      ap (drop (length n.tasks.told)) now ∙ drop-append_seam n.tasks.told ls in
      let told_is : w.told ++ told_by (w.events + 1) e.system (drop (length n.tasks.told) after)
      ≡ w.told ++ told_by (w.events + 1) e.system ls =
      ap (λ xs. w.told ++ told_by (w.events + 1) e.system xs) lines_are in
      let all_lines : lines_of_told (w.told ++ told_by (w.events + 1) e.system (drop (length n.tasks.told) after))
      ≡ lines_of_told w.told ++ ls =
      ap lines_of_told told_is
      ∙ (lines_of_told-append w.told (told_by (w.events + 1) e.system ls)
      ∙ ap (λ z. lines_of_told w.told ++ z) (lines-told_by (w.events + 1) e.system ls)) in
      record {
        counted = told_number;
        by_now =
            subst (λ xs. AllBy (length (es ++ e ∷ [])) xs) (sym told_is) (by-append (length (es ++ e ∷ [])) w.told
            (told_by (w.events + 1) e.system ls)
            (by-later (length es) (length (es ++ e ∷ [])) (omega (arith, length-append es (e ∷ []))) w.told g.by_now)
            (subst (λ k. AllBy k (told_by (w.events + 1) e.system ls)) told_number
            (by-told (w.events + 1) e.system ls)));
        agree = λ fit.
            subst (λ xs. AllAgree deck (es ++ e ∷ []) [] xs) (sym told_is)
            (agree-append deck (es ++ e ∷ []) [] w.told (told_by (w.events + 1) e.system ls)
            (agree-longer deck es e [] w.told g.by_now (g.agree fit)) (agree fit));
        lines =
            by_node w.nodes s n o.step.node at (λ u k.
            filter (is_line_of u) k.tasks.told
            ≡ filter (is_line_of u)
            (lines_of_told (w.told ++ told_by (w.events + 1) e.system (drop (length n.tasks.told) after))))
            (ap (filter (is_line_of s)) now
            ∙ (filter-append (is_line_of s) n.tasks.told ls
            ∙ (ap (λ z. z ++ filter (is_line_of s) ls) (g.lines s n at)
            ∙ (sym (filter-append (is_line_of s) (lines_of_told w.told) ls)
            ∙ ap (filter (is_line_of s)) (sym all_lines)))))
            (λ u k ne f.
            g.lines u k f
            ∙ (sym (append-nil (filter (is_line_of u) (lines_of_told w.told)))
            ∙ (ap (λ z. filter (is_line_of u) (lines_of_told w.told) ++ z) (sym (apart u ne))
            ∙ (sym (filter-append (is_line_of u) (lines_of_told w.told) ls)
            ∙ ap (filter (is_line_of u)) (sym all_lines)))));
      }

  -- the moment of the event
  told_moment :
      IsMoment told_world (history T) (fixed_by e.system o.step.fixed)
      (moment deck (es ++ e ∷ []) (told_world.events + 1) told_world.told)
  unfolding placed
  told_moment =
      let us : List Event = es ++ e ∷ [] in
      let now : take (told_world.events + 1) us ≡ us = ap (λ k. take k us) told_number ∙ take-length us in
      let place : told_world.events + 1 - 1 ≡ length es = omega (arith, g.counted) in
      let earlier : take (told_world.events + 1 - 1) us ≡ es =
      ap (λ k. take k us) place ∙ take-append_seam es (e ∷ []) in
      record {
        before = refl;
        history = ap (hist deck) now ∙ told_history;
        fixed = ap (λ vs. drop (length (run deck vs).fixed) (run deck (take (told_world.events + 1) us)).fixed) earlier
            ∙ (ap (λ vs. drop (length told_world.fixed) (run deck vs).fixed) now
            ∙ (ap (λ (x : World). drop (length told_world.fixed) x.fixed) (run-push deck es (first_world deck) e ∙ is)
            ∙ drop-append_seam told_world.fixed (fixed_by e.system o.step.fixed)));
      }

  -- What the system of an event tells agrees with the history after the event: so does all that was told.
  pub told-after : Tells deck told_world e.system (history T) o.step.fixed n.tasks.told o.step.node.tasks.told
      → GoodTold deck (es ++ e ∷ []) (placed told_world e.system n o)
  told-after (to_tasks news) = told-behind news.lines news.is (λ u ne. lines-apart e.system.0 u news.lines ne news.ours)
      (λ fit.
      agree-new deck (es ++ e ∷ []) (told_world.events + 1) e.system told_world.told news.lines told_number news.ours
      (subst (λ H. LinesAgree deck H (lines_of_told told_world.told) news.lines) (sym told_history)
      (news.agree (lines_of_told told_world.told) (g.lines e.system.0 n at))))
  told-after (at_desk k said now agrees) =
      told-behind (lines.Desk k said ∷ []) now (λ u ne. refl)
      (λ fit. (agrees (moment deck (es ++ e ∷ []) (told_world.events + 1) told_world.told) told_moment fit, tt))
  told-after (at_desk_first k said T1 first agrees news) =
      told-behind (line ∷ news.lines)
      (news.is ∙ (ap (λ xs. xs ++ news.lines) first ∙ append_assoc n.tasks.told (line ∷ []) news.lines))
      (λ u ne. lines-apart e.system.0 u news.lines ne news.ours)
      (λ fit. (
        agrees (moment deck (es ++ e ∷ []) (told_world.events + 1) told_world.told) told_moment fit,
        agree-new deck (es ++ e ∷ []) (told_world.events + 1) e.system (told_world.told ++ desk ∷ []) news.lines
            told_number news.ours
            (subst (λ H. LinesAgree deck H (lines_of_told (told_world.told ++ desk ∷ [])) news.lines)
            (sym told_history) (news.agree (lines_of_told (told_world.told ++ desk ∷ [])) own)),
      ))
    where
      line : ToldLine
      line = lines.Desk k said

      desk : Told
      desk = record { event = told_world.events + 1; system = e.system; line = lines.Desk k said }

      own : filter (is_line_of e.system.0) T1
          ≡ filter (is_line_of e.system.0) (lines_of_told (told_world.told ++ desk ∷ []))
      own =
          ap (filter (is_line_of e.system.0)) first
          ∙ (filter-append (is_line_of e.system.0) n.tasks.told (line ∷ [])
          ∙ (ap (λ (z : List ToldLine). z ++ []) (g.lines e.system.0 n at)
          ∙ (sym (filter-append (is_line_of e.system.0) (lines_of_told told_world.told) (line ∷ []))
          ∙ ap (filter (is_line_of e.system.0)) (sym (lines_of_told-append told_world.told (desk ∷ []))))))

-- the world after an event of a system, whose outcome is known
module _ (deck : Deck) (es : List Event) (e : Event) (g : GoodWorld deck es (run deck es)) (n : NodeState)
    (at : slice_get (run deck es).nodes e.system.0 ≡ Some n) where
  abbrev s : ℕ
  s = e.system.0

  abbrev w : World
  w = run deck es

  abbrev P : List RunItem
  P = items (run deck es).fixed

  module _ (m : MediumState) (before' later' : List RunItem) (out : List Fixed) (st : Step)
      (o : Outcome deck e.system P n before' later' out st) where
    abbrev after : World
    after = placed (run deck es) e.system n (record { medium = m; step = st })

    items-now : items after.fixed ≡ o.items
    unfolding placed
    items-now = grows-items w.fixed o.grows

    told-now : happens deck w e ≡ after → GoodTold deck (es ++ e ∷ []) after
    told-now is =
        told-after deck es e n at g.told (record { medium = m; step = st }) o.items items-now is (to_tasks o.news)

    -- what the systems have processed, and have yet to process
    abbrev before_now : ℕ → List RunItem
    before_now = put_at g.before e.system.0 before'

    abbrev later_now : ℕ → List RunItem
    later_now = put_at (λ u. g.later u ++ o.new) e.system.0 later'

    whole-now : (u : ℕ) → rounds o.items ≡ before_now u ++ later_now u
    whole-now = put_each g.before (λ u. g.later u ++ o.new) s before' later' (λ u b l. rounds o.items ≡ b ++ l) o.whole
        (λ u ne.
        grows-rounds o.grows ∙ ap (λ zs. zs ++ o.new) (g.whole u) ∙ append_assoc (g.before u) (g.later u) o.new)

    systems-now : live m ≡ live w.medium → (u : ℕ) (k : NodeState)
        → slice_get (set w.nodes e.system.0 st.node) u ≡ Some k → has (live m) u ≡ true
        → Seen deck u o.items (before_now u) (later_now u) (own_requests u (later_now u)) k
    systems-now alive =
        put_each g.before (λ u. g.later u ++ o.new) s before' later'
        (λ u b l.
        (k : NodeState) → slice_get (set w.nodes s st.node) u ≡ Some k → has (live m) u ≡ true
        → Seen deck u o.items b l (own_requests u l) k)
        (λ k f lives.
        subst (λ (z : NodeState). Seen deck s o.items before' later' (own_requests s later') z)
        (same_Some st.node k (sym (slice_get-set w.nodes s n st.node at) ∙ f)) o.seen)
        (λ u ne k f lives.
        let was =
        g.systems u k (sym (slice_get-set_other w.nodes s u st.node ne) ∙ f)
        (subst (λ l. has l u ≡ true) alive lives) in
        let requests : own_requests u (g.later u) ≡ own_requests u (g.later u ++ o.new) =
        sym (own_requests-append u (g.later u) o.new
        ∙ ap (λ zs. own_requests u (g.later u) ++ zs) (grows-requests u ne o.grows)
        ∙ append-nil (own_requests u (g.later u))) in
        subst (λ zs. Seen deck u o.items (g.before u) (g.later u ++ o.new) zs k) requests
        (grows-seen u (g.before u) (g.later u) (own_requests u (g.later u)) k ne was o.grows))

    pub push : happens deck w e ≡ after → live m ≡ live w.medium
        → GoodMessage m (message_log P ++ out) (seen_at before_now) → GoodWorld deck (es ++ e ∷ []) after
    unfolding placed
    push is alive message = record {
      history = subst (IsHistory deck) (sym items-now) (grows-history g.history o.grows);
      told = told-now is;
      before = before_now;
      later = later_now;
      whole = λ u. ap rounds items-now ∙ whole-now u;
      message =
          subst (λ log. GoodMessage m log (seen_at before_now))
          (ap (λ zs. message_log P ++ zs) (sym o.message)
          ∙ sym (map-append (λ (x : RunItem). x.fixed) (rounds P) o.new)
          ∙ ap fixeds (sym (grows-rounds o.grows))
          ∙ ap message_log (sym items-now))
          message;
      systems = λ u k f lives.
          subst (λ T. Seen deck u T (before_now u) (later_now u) (own_requests u (later_now u)) k) (sym items-now)
          (systems-now alive u k f lives);
    }
