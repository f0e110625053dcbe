-- What an event tells at a desk, and what all lines told at desks so far say.
use Rattle.grs_world.proofs.Common.{[], ◌++◌, ◌+◌, ◌-◌, ◌<◌, ◌==◌, ◌||◌, ◌∙◌, ◌∷◌, ◌≡◌, ◌≢◌, ◌≤◌, ◌⊎◌, and_from}
use Rattle.grs_world.proofs.Common.{and_parts, ap, append_assoc, arith, Bool, counted, Deck, drop, drop-append_seam}
use Rattle.grs_world.proofs.Common.{eq-eqb, eqb-false, Event, false, Fixed, fixed_by, HistEntry, inl, inr, is_line_of}
use Rattle.grs_world.proofs.Common.{length, List, list_all, list_all-append, list_any, list_any-append, lt-ltb}
use Rattle.grs_world.proofs.Common.{ltb-true, Moment, nat_lt, ne_eqb, next_order, NodeState, None, not, Option}
use Rattle.grs_world.proofs.Common.{option_map, or-false, or_left, or_right, Order, OrdersFit, placed, Purged, refl}
use Rattle.grs_world.proofs.Common.{removes, Said, slice_get, Some, subst, sym, SysId, Told, told_by, told_in, ToldLine}
use Rattle.grs_world.proofs.Common.{ToldNews, true, Turnout, World, ℕ}
use Rattle.std.specs.Prelude.{◌&&◌}
use Rattle.grs_world.specs.Agree.{DeskAgrees, HasCause, purges, is_desk_before, order_in, order_of, tells_star}
use Rattle.grs_world.specs.Agree.{was_star}
use Rattle.grs_node.specs.Node.{desk_of}
use Rattle.std.proofs.Math.Bool.{or-true}
use Rattle.grs_world.proofs.run.Runs.{AllBy, GoodTold, Tells, at_desk, at_desk_first, to_tasks}
use Rattle.grs_world.proofs.run.Placed.{by_node, of_world}
use Rattle.grs_world.specs.Passed.{is_desk_line}
use Rattle.grs_wire.specs.declared.deck.Desk.{Desk as DeskLine}
use Rattle.grs_wire.specs.declared.told.Said.TheVariants as saids
use Rattle.grs_wire.specs.declared.deck.Order.TheVariants as orders
use Rattle.grs_wire.specs.declared.told.ToldLine.TheVariants as lines

-- What an event of a system tells that fixed this, by the system before and after it and by the mode of the medium:
-- lines of its tasks, which agree with the history H; or a line of its desk that orders the change to star mode, or the
-- removal of a system, behind which its tasks may be told control that they got by it.
pub data EventTells (deck : Deck) (c : SysId) (H : List HistEntry) (fixed : List Fixed) (n k : NodeState)
    (before after : Bool) :
    Type 0 where
  tells_tasks : ToldNews deck c.0 H n.tasks.told k.tasks.told → k.done ≡ n.done → after ≡ before
      → EventTells deck c H fixed n k before after
  tells_done : next_order deck n ≡ Some orders.Star
      → k.tasks.told ≡ n.tasks.told ++ lines.Desk (n.done + 1) saids.StarDone ∷ [] → k.done ≡ n.done + 1
      → deck.star ≡ false → before ≡ false → after ≡ true → EventTells deck c H fixed n k before after
  tells_already : next_order deck n ≡ Some orders.Star
      → k.tasks.told ≡ n.tasks.told ++ lines.Desk (n.done + 1) saids.StarAlready ∷ [] → k.done ≡ n.done + 1
      → before ≡ true → after ≡ true → EventTells deck c H fixed n k before after
  tells_removed : (target : SysId) → next_order deck n ≡ Some (orders.Vary target)
      → k.tasks.told ≡ n.tasks.told ++ lines.Desk (n.done + 1) saids.VaryDone ∷ [] → k.done ≡ n.done + 1
      → after ≡ before → fixed ≡ Purged target ∷ [] → EventTells deck c H fixed n k before after
  tells_lost : (target : SysId) → next_order deck n ≡ Some (orders.Vary target) → (T1 : List ToldLine)
      → T1 ≡ n.tasks.told ++ lines.Desk (n.done + 1) saids.VaryDone ∷ [] → ToldNews deck c.0 H T1 k.tasks.told
      → k.done ≡ n.done + 1
      → after ≡ before → fixed ≡ Purged target ∷ [] → EventTells deck c H fixed n k before after
  tells_no_such : (target : SysId) → next_order deck n ≡ Some (orders.Vary target)
      → k.tasks.told ≡ n.tasks.told ++ lines.Desk (n.done + 1) saids.VaryNoSuch ∷ [] → k.done ≡ n.done + 1
      → after ≡ before → (OrdersFit deck → list_any (removes target) H ≡ true)
      → EventTells deck c H fixed n k before after

-- whether a line isn't told at this system's desk, or is of a desk line before this one
abbrev pub is_desk_told : ℕ → ℕ → Told → Bool
is_desk_told s k x = not (x.system.0 == s) || is_desk_before k x.line

-- whether this is told at a system's desk, of the line of this number
abbrev pub is_told_at : ℕ → ℕ → Told → Bool
is_told_at s k x = (x.system.0 == s) && is_desk_line k x.line

-- What was told at desks: that the complex changed, where it did; and at each system's desk of the lines that are done,
-- and of each of these.
pub record GoodDesks (deck : Deck) (w : World) : Type 0 where
  pub changes : list_any (λ x. tells_star x.line) w.told ≡ (w.medium.star && not deck.star)
  pub lines : (s : ℕ) (n : NodeState) → slice_get w.nodes s ≡ Some n
      → list_all (is_desk_told s (n.done + 1)) w.told ≡ true
  pub each : (s : ℕ) (n : NodeState) → slice_get w.nodes s ≡ Some n → (k : ℕ) → 0 < k → k ≤ n.done
      → list_any (is_told_at s k) w.told ≡ true

-- ---- the line agrees
-- what a desk line orders
pub order-is : (deck : Deck) (s : SysId) (n : NodeState) (order : Order) → n.tasks.system ≡ s.0
    → next_order deck n ≡ Some order → order_of deck s (n.done + 1) ≡ Some order
order-is deck s n order home next =
    let place : n.done + 1 - 1 ≡ n.done = omega arith in
    ap (λ k. order_in (slice_get (desk_of (slice_get deck.systems s.0)) k)) place
    ∙ (ap (λ u. order_in (slice_get (desk_of (slice_get deck.systems u)) n.done)) (sym home)
    ∙ (by_line (slice_get (desk_of (slice_get deck.systems n.tasks.system)) n.done) ∙ next))
  where
    by_line : (o : Option DeskLine) → order_in o ≡ option_map (λ l. l.order) o
    by_line None = refl
    by_line (Some l) = refl

earlier : (k e : ℕ) → k < e → (xs : List Told) → AllBy k xs → list_any (λ x. tells_star x.line) xs ≡ true
    → list_any (λ x. nat_lt x.event e && tells_star x.line) xs ≡ true
earlier k e l [] a h = absurd (cc)
earlier k e l (x ∷ xs) a h = go (tells_star x.line) refl h (earlier k e l xs a.1)
  where
    go : (b : Bool) → tells_star x.line ≡ b → (b || list_any (λ y. tells_star y.line) xs) ≡ true
        → (list_any (λ y. tells_star y.line) xs ≡ true
        → list_any (λ y. nat_lt y.event e && tells_star y.line) xs ≡ true)
        → ((nat_lt x.event e && tells_star x.line) || list_any (λ y. nat_lt y.event e && tells_star y.line) xs) ≡ true
    go true f g more =
        or_left (nat_lt x.event e && tells_star x.line) (list_any (λ y. nat_lt y.event e && tells_star y.line) xs)
        (and_from (nat_lt x.event e) (tells_star x.line) (lt-ltb x.event e (omega (arith, l, a.0))) f)
    go false f g more =
        or_right (nat_lt x.event e && tells_star x.line) (list_any (λ y. nat_lt y.event e && tells_star y.line) xs)
        (more g)

module _ (deck : Deck) (es : List Event) (w : World) (g : GoodTold deck es w) (d : GoodDesks deck w) (c : SysId)
    (n : NodeState) (at : slice_get w.nodes c.0 ≡ Some n) (home : n.tasks.system ≡ c.0) where
  was_star-is : w.medium.star ≡ true → was_star deck (w.events + 1) w.told ≡ true
  was_star-is mode = go deck.star refl
    where
      go : (b : Bool) → deck.star ≡ b → was_star deck (w.events + 1) w.told ≡ true
      go true h = or_left deck.star (list_any (λ x. nat_lt x.event (w.events + 1) && tells_star x.line) w.told) h
      go false h =
          or_right deck.star (list_any (λ x. nat_lt x.event (w.events + 1) && tells_star x.line) w.told)
          (earlier (length es) (w.events + 1) (omega (arith, g.counted)) w.told g.by_now
          (d.changes ∙ (ap (λ b. b && not deck.star) mode ∙ ap not h)))

  -- a line of the desk that comes behind those told before, and has its cause
  by_cause : (m : Moment) (order : Order) (said : Said) → next_order deck n ≡ Some order → m.before ≡ w.told
      → HasCause deck m (w.events + 1) c (Some order) said → DeskAgrees deck m (w.events + 1) c (n.done + 1) said
  by_cause m order said next same cause = (
    omega arith,
    ap (list_all (is_desk_told c.0 (n.done + 1))) same ∙ d.lines c.0 n at,
    subst (λ o. HasCause deck m (w.events + 1) c o said) (sym (order-is deck c n order home next)) cause,
  )

  purged-now : (target : SysId) → purges c target (fixed_by c (Purged target ∷ [])) ≡ true
  purged-now target = rw (eq-eqb c.0 c.0 refl, eq-eqb target.0 target.0 refl) refl

  pub desk-agrees : (H : List HistEntry) (fixed : List Fixed) (k : NodeState) (after : Bool)
      → EventTells deck c H fixed n k w.medium.star after → Tells deck w c H fixed n.tasks.told k.tasks.told
  desk-agrees H fixed k after (tells_tasks news done mode) = to_tasks news
  desk-agrees H fixed k after (tells_done next told done ring before now) =
      at_desk (n.done + 1) saids.StarDone told (λ m is fit.
      by_cause m orders.Star saids.StarDone next is.before
      (ap (list_any (λ x. tells_star x.line)) is.before ∙ (d.changes ∙ ap (λ b. b && not deck.star) before)))
  desk-agrees H fixed k after (tells_already next told done before now) =
      at_desk (n.done + 1) saids.StarAlready told (λ m is fit.
      by_cause m orders.Star saids.StarAlready next is.before
      (ap (was_star deck (w.events + 1)) is.before ∙ was_star-is before))
  desk-agrees H fixed k after (tells_removed target next told done mode one) =
      at_desk (n.done + 1) saids.VaryDone told (λ m is fit.
      by_cause m (orders.Vary target) saids.VaryDone next is.before
      (ap (purges c target) (is.fixed ∙ ap (fixed_by c) one) ∙ purged-now target))
  desk-agrees H fixed k after (tells_lost target next T1 first news done mode one) =
      at_desk_first (n.done + 1) saids.VaryDone T1 first (λ m is fit.
      by_cause m (orders.Vary target) saids.VaryDone next is.before
      (ap (purges c target) (is.fixed ∙ ap (fixed_by c) one) ∙ purged-now target)) news
  desk-agrees H fixed k after (tells_no_such target next told done mode gone) =
      at_desk (n.done + 1) saids.VaryNoSuch told (λ m is fit.
      by_cause m (orders.Vary target) saids.VaryNoSuch next is.before
      (ap (list_any (removes target)) is.history ∙ gone fit))

-- ---- one event more
pub desks-counted : (deck : Deck) (w : World) → GoodDesks deck w → GoodDesks deck (counted w)
desks-counted deck w d = record { changes = d.changes; lines = d.lines; each = d.each }

any-told_by : (p : ToldLine → Bool) (e : ℕ) (c : SysId) (ls : List ToldLine)
    → list_any (λ x. p x.line) (told_by e c ls) ≡ list_any p ls
any-told_by p e c [] = refl
any-told_by p e c (l ∷ ls) = ap (λ b. p l || b) (any-told_by p e c ls)

-- lines of tasks are none of desks
task-line : (s : ℕ) (l : ToldLine) → is_line_of s l ≡ true
    → (tells_star l ≡ false) × ((k : ℕ) → is_desk_before k l ≡ true)
task-line s (lines.Coded t k part verb code) h = (refl, λ j. refl)
task-line s (lines.Shown t k verb code rows) h = (refl, λ j. refl)
task-line s (lines.Post t k) h = (refl, λ j. refl)
task-line s (lines.Ended t code) h = (refl, λ j. refl)
task-line s (lines.Desk k said) h = absurd (cc)

none-star : (s : ℕ) (ls : List ToldLine) → list_all (is_line_of s) ls ≡ true → list_any tells_star ls ≡ false
none-star s [] h = refl
none-star s (l ∷ ls) h =
    let both = and_parts (is_line_of s l) (list_all (is_line_of s) ls) h in
    ap (λ b. b || list_any tells_star ls) (task-line s l both.0).0 ∙ none-star s ls both.1

tasks-before : (u k e : ℕ) (c : SysId) (ls : List ToldLine) → list_all (is_line_of c.0) ls ≡ true
    → list_all (is_desk_told u k) (told_by e c ls) ≡ true
tasks-before u k e c [] h = refl
tasks-before u k e c (l ∷ ls) h =
    let both = and_parts (is_line_of c.0 l) (list_all (is_line_of c.0) ls) h in
    and_from (not (c.0 == u) || is_desk_before k l) (list_all (is_desk_told u k) (told_by e c ls))
    (or_right (not (c.0 == u)) (is_desk_before k l) ((task-line c.0 l both.0).1 k)) (tasks-before u k e c ls both.1)

others-before : (u k e : ℕ) (c : SysId) (ls : List ToldLine) → u ≢ c.0
    → list_all (is_desk_told u k) (told_by e c ls) ≡ true
others-before u k e c [] ne = refl
others-before u k e c (l ∷ ls) ne =
    and_from (not (c.0 == u) || is_desk_before k l) (list_all (is_desk_told u k) (told_by e c ls))
    (or_left (not (c.0 == u)) (is_desk_before k l) (ap not (ne_eqb c.0 u (λ same. ne (sym same)))))
    (others-before u k e c ls ne)

-- what comes before a desk line comes before the next
next-before : (s k : ℕ) (x : Told) → is_desk_told s k x ≡ true → is_desk_told s (k + 1) x ≡ true
next-before s k x h = go (x.system.0 == s) h
  where
    line : (l : ToldLine) → is_desk_before k l ≡ true → is_desk_before (k + 1) l ≡ true
    line (lines.Coded t j part verb code) e = refl
    line (lines.Shown t j verb code rows) e = refl
    line (lines.Post t j) e = refl
    line (lines.Ended t code) e = refl
    line (lines.Desk j said) e = let l : j < k = ltb-true j k e in lt-ltb j (k + 1) (omega (arith, l))

    go : (b : Bool) → (not b || is_desk_before k x.line) ≡ true → (not b || is_desk_before (k + 1) x.line) ≡ true
    go true e = line x.line e
    go false e = refl

all-next : (s k : ℕ) (xs : List Told) → list_all (is_desk_told s k) xs ≡ true
    → list_all (is_desk_told s (k + 1)) xs ≡ true
all-next s k [] h = refl
all-next s k (x ∷ xs) h =
    let both = and_parts (is_desk_told s k x) (list_all (is_desk_told s k) xs) h in
    and_from (is_desk_told s (k + 1) x) (list_all (is_desk_told s (k + 1)) xs) (next-before s k x both.0)
    (all-next s k xs both.1)

-- a desk line that a system tells
told-at : (e : ℕ) (c : SysId) (k : ℕ) (ls : List ToldLine) → list_any (is_desk_line k) ls ≡ true
    → list_any (is_told_at c.0 k) (told_by e c ls) ≡ true
told-at e c k [] h = absurd (cc)
told-at e c k (l ∷ ls) h = go (is_desk_line k l) refl h (told-at e c k ls)
  where
    go : (b : Bool) → is_desk_line k l ≡ b → (b || list_any (is_desk_line k) ls) ≡ true
        → (list_any (is_desk_line k) ls ≡ true → list_any (is_told_at c.0 k) (told_by e c ls) ≡ true)
        → (((c.0 == c.0) && is_desk_line k l) || list_any (is_told_at c.0 k) (told_by e c ls)) ≡ true
    go true f m more =
        or_left ((c.0 == c.0) && is_desk_line k l) (list_any (is_told_at c.0 k) (told_by e c ls))
        (and_from (c.0 == c.0) (is_desk_line k l) (eq-eqb c.0 c.0 refl) f)
    go false f m more =
        or_right ((c.0 == c.0) && is_desk_line k l) (list_any (is_told_at c.0 k) (told_by e c ls)) (more m)

module _ (deck : Deck) (w : World) (d : GoodDesks deck w) (c : SysId) (n : NodeState)
    (at : slice_get w.nodes c.0 ≡ Some n) (o : Turnout) where
  abbrev e : ℕ
  e = w.events + 1

  -- it tells these lines
  desks-behind : (ls : List ToldLine) → o.step.node.tasks.told ≡ n.tasks.told ++ ls
      → ((w.medium.star && not deck.star) || list_any tells_star ls) ≡ (o.medium.star && not deck.star)
      → list_all (is_desk_told c.0 (o.step.node.done + 1)) w.told ≡ true
      → list_all (is_desk_told c.0 (o.step.node.done + 1)) (told_by e c ls) ≡ true
      → ((k : ℕ) → 0 < k → k ≤ o.step.node.done → (k ≤ n.done) ⊎ (list_any (is_desk_line k) ls ≡ true))
      → GoodDesks deck (placed w c n o)
  desks-behind ls now mode old new reach = of_world w c n o (GoodDesks deck) (record {
    changes =
        ap (list_any (λ x. tells_star x.line)) told_is
        ∙ (list_any-append (λ x. tells_star x.line) w.told (told_by e c ls)
        ∙ (ap (λ b. b || list_any (λ x. tells_star x.line) (told_by e c ls)) d.changes
        ∙ (ap (λ b. (w.medium.star && not deck.star) || b) (any-told_by tells_star e c ls) ∙ mode)));
    lines =
        by_node w.nodes c.0 n o.step.node at
        (λ u k. list_all (is_desk_told u (k.done + 1)) (w.told ++ told_by e c (told_in n o.step)) ≡ true)
        (all c.0 (o.step.node.done + 1) old new)
        (λ u k ne there. all u (k.done + 1) (d.lines u k there) (others-before u (k.done + 1) e c ls ne));
    each =
        by_node w.nodes c.0 n o.step.node at
        (λ u m.
        (k : ℕ) → 0 < k → k ≤ m.done → list_any (is_told_at u k) (w.told ++ told_by e c (told_in n o.step)) ≡ true)
        (λ k low l. by_reach k low (reach k low l)) (λ u m ne there k low l. older u k (d.each u m there k low l));
  })
    where
      told_is : w.told ++ told_by e c (told_in n o.step) ≡ w.told ++ told_by e c ls
      told_is =
          ap (λ xs. w.told ++ told_by e c xs) (ap (drop (length n.tasks.told)) now ∙ drop-append_seam n.tasks.told ls)

      older : (u k : ℕ) → list_any (is_told_at u k) w.told ≡ true
          → list_any (is_told_at u k) (w.told ++ told_by e c (told_in n o.step)) ≡ true
      older u k h =
          ap (list_any (is_told_at u k)) told_is
          ∙ (list_any-append (is_told_at u k) w.told (told_by e c ls)
          ∙ or_left (list_any (is_told_at u k) w.told) (list_any (is_told_at u k) (told_by e c ls)) h)

      by_reach : (k : ℕ) → 0 < k → (k ≤ n.done) ⊎ (list_any (is_desk_line k) ls ≡ true)
          → list_any (is_told_at c.0 k) (w.told ++ told_by e c (told_in n o.step)) ≡ true
      by_reach k low (inl l) = older c.0 k (d.each c.0 n at k low l)
      by_reach k low (inr h) =
          ap (list_any (is_told_at c.0 k)) told_is
          ∙ (list_any-append (is_told_at c.0 k) w.told (told_by e c ls)
          ∙ or_right (list_any (is_told_at c.0 k) w.told) (list_any (is_told_at c.0 k) (told_by e c ls))
          (told-at e c k ls h))

      all : (u k : ℕ) → list_all (is_desk_told u k) w.told ≡ true → list_all (is_desk_told u k) (told_by e c ls) ≡ true
          → list_all (is_desk_told u k) (w.told ++ told_by e c (told_in n o.step)) ≡ true
      all u k a b =
          ap (list_all (is_desk_told u k)) told_is
          ∙ (list_all-append (is_desk_told u k) w.told (told_by e c ls)
          ∙ and_from (list_all (is_desk_told u k) w.told) (list_all (is_desk_told u k) (told_by e c ls)) a b)

  one-desk : (said : Said) → o.step.node.done ≡ n.done + 1
      → list_all (is_desk_told c.0 (o.step.node.done + 1)) (told_by e c (lines.Desk (n.done + 1) said ∷ [])) ≡ true
  one-desk said done =
      and_from (not (c.0 == c.0) || nat_lt (n.done + 1) (o.step.node.done + 1)) true
      (or_right (not (c.0 == c.0)) (nat_lt (n.done + 1) (o.step.node.done + 1))
      (lt-ltb (n.done + 1) (o.step.node.done + 1) (omega (arith, done))))
      refl

  more-done : o.step.node.done ≡ n.done + 1 → list_all (is_desk_told c.0 (o.step.node.done + 1)) w.told ≡ true
  more-done done =
      ap (λ k. list_all (is_desk_told c.0 (k + 1)) w.told) done ∙ all-next c.0 (n.done + 1) w.told (d.lines c.0 n at)

  -- the next is told, where it is done
  next-told : (said : Said) → o.step.node.done ≡ n.done + 1 → (k : ℕ) → 0 < k → k ≤ o.step.node.done
      → (k ≤ n.done) ⊎ (list_any (is_desk_line k) (lines.Desk (n.done + 1) said ∷ []) ≡ true)
  next-told said done k low l = go (n.done + 1 == k) refl
    where
      go : (b : Bool) → (n.done + 1 == k) ≡ b → (k ≤ n.done) ⊎ ((b || false) ≡ true)
      go true e = inr refl
      go false e = let ne : n.done + 1 ≢ k = eqb-false (n.done + 1) k e in inl (omega (arith, l, done, ne))

  pub desks-after : (H : List HistEntry) → EventTells deck c H o.step.fixed n o.step.node w.medium.star o.medium.star
      → GoodDesks deck (placed w c n o)
  desks-after H (tells_tasks news done mode) =
      desks-behind news.lines news.is (ap (λ b. (w.medium.star && not deck.star) || b)
      (none-star c.0 news.lines news.ours)
      ∙ (or-false (w.medium.star && not deck.star) ∙ ap (λ b. b && not deck.star) (sym mode)))
      (ap (λ k. list_all (is_desk_told c.0 (k + 1)) w.told) done ∙ d.lines c.0 n at)
      (tasks-before c.0 (o.step.node.done + 1) e c news.lines news.ours)
      (λ k low l. inl (subst (λ m. k ≤ m) done l))
  desks-after H (tells_done next told done ring before now) =
      desks-behind (lines.Desk (n.done + 1) saids.StarDone ∷ []) told
      (or-true (w.medium.star && not deck.star) ∙ sym (ap (λ b. b && not deck.star) now ∙ ap not ring)) (more-done done)
      (one-desk saids.StarDone done) (next-told saids.StarDone done)
  desks-after H (tells_already next told done before now) =
      desks-behind (lines.Desk (n.done + 1) saids.StarAlready ∷ []) told
      (or-false (w.medium.star && not deck.star) ∙ ap (λ b. b && not deck.star) (before ∙ sym now)) (more-done done)
      (one-desk saids.StarAlready done) (next-told saids.StarAlready done)
  desks-after H (tells_removed target next told done mode one) =
      desks-behind (lines.Desk (n.done + 1) saids.VaryDone ∷ []) told
      (or-false (w.medium.star && not deck.star) ∙ ap (λ b. b && not deck.star) (sym mode)) (more-done done)
      (one-desk saids.VaryDone done) (next-told saids.VaryDone done)
  desks-after H (tells_lost target next T1 first news done mode one) =
      desks-behind (line ∷ news.lines)
      (news.is ∙ (ap (λ xs. xs ++ news.lines) first ∙ append_assoc n.tasks.told (line ∷ []) news.lines))
      (ap (λ b. (w.medium.star && not deck.star) || b) (none-star c.0 news.lines news.ours)
      ∙ (or-false (w.medium.star && not deck.star) ∙ ap (λ b. b && not deck.star) (sym mode)))
      (more-done done)
      (and_from (is_desk_told c.0 (o.step.node.done + 1) (record { event = e; system = c; line = line }))
      (list_all (is_desk_told c.0 (o.step.node.done + 1)) (told_by e c news.lines))
      (and_parts (is_desk_told c.0 (o.step.node.done + 1) (record { event = e; system = c; line = line })) true
      (one-desk saids.VaryDone done)).0
      (tasks-before c.0 (o.step.node.done + 1) e c news.lines news.ours))
      (λ k low l. reach k (next-told saids.VaryDone done k low l))
    where
      line : ToldLine
      line = lines.Desk (n.done + 1) saids.VaryDone

      reach : (k : ℕ) → (k ≤ n.done) ⊎ ((is_desk_line k line || false) ≡ true)
          → (k ≤ n.done) ⊎ ((is_desk_line k line || list_any (is_desk_line k) news.lines) ≡ true)
      reach k (inl l) = inl l
      reach k (inr h) =
          inr (or_left (is_desk_line k line) (list_any (is_desk_line k) news.lines)
          (sym (or-false (is_desk_line k line)) ∙ h))
  desks-after H (tells_no_such target next told done mode gone) =
      desks-behind (lines.Desk (n.done + 1) saids.VaryNoSuch ∷ []) told
      (or-false (w.medium.star && not deck.star) ∙ ap (λ b. b && not deck.star) (sym mode)) (more-done done)
      (one-desk saids.VaryNoSuch done) (next-told saids.VaryNoSuch done)
