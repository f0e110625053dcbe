-- What is told agrees with the history.
use Rattle.std.specs.Prelude.{◌≡◌, ◌<◌, ℕ, Bool, true, false, not, ◌&&◌, ◌||◌, ◌==◌, nat_lt, ◌-◌, List, [], ◌∷◌, ◌++◌}
use Rattle.std.specs.Prelude.{length, map, take, drop, Option, Some, None, slice_get}
use Rattle.std.specs.List.{list_all, list_any}
use Rattle.grs_base.specs.declared.resource.SysId.{SysId}
use Rattle.grs_base.specs.declared.resource.TaskId.{TaskId}
use Rattle.grs_wire.specs.History.{removes}
use Rattle.grs_wire.specs.declared.deck.Deck.{Deck}
use Rattle.grs_wire.specs.declared.deck.Desk.{Desk as DeskLine}
use Rattle.grs_wire.specs.declared.deck.Event.{Event}
use Rattle.grs_wire.specs.declared.deck.Order.{Order}
use Rattle.grs_wire.specs.declared.deck.Order.TheVariants.{Star, Vary}
use Rattle.grs_wire.specs.declared.history.HistEntry.{HistEntry}
use Rattle.grs_wire.specs.declared.request.Fixed.{Fixed}
use Rattle.grs_wire.specs.declared.request.Fixed.TheVariants.{Purged}
use Rattle.grs_wire.specs.declared.told.Said.{Said}
use Rattle.grs_wire.specs.declared.told.Said.TheVariants.{StarDone, StarAlready, VaryDone, VaryNoSuch}
use Rattle.grs_wire.specs.declared.told.Told.{Told}
use Rattle.grs_wire.specs.declared.told.ToldLine.{ToldLine}
use Rattle.grs_wire.specs.declared.told.ToldLine.TheVariants.{Coded, Shown, Post, Ended, Desk}
use Rattle.grs_legal.specs.Asks.{lines_of}
use Rattle.grs_legal.specs.Legal.{Legal}
use Rattle.grs_world.specs.World.{run, hist, told}
use Rattle.grs_known.specs.Told.{AgreesOf}
use Rattle.grs_node.specs.Node.{desk_of}

-- The moment at which a line is told: the history up to its event, what that very event fixed, each with the
-- system that fixed it, and all that was told before.
pub record Moment : Type 0 where
  pub history : List HistEntry
  pub fixed : List (SysId × Fixed)
  pub before : List Told

-- lines that were told, without their systems and events
abbrev pub lines_of_told : List Told → List ToldLine
lines_of_told xs = map (λ x. x.line) xs

-- the command of a desk line that may not be there
abbrev pub order_in : Option DeskLine → Option Order
order_in None = None
order_in (Some l) = Some l.order

-- the command of a line of a system's desk, lines numbered from 1
abbrev pub order_of : Deck → SysId → ℕ → Option Order
order_of deck s k = order_in (slice_get (desk_of (slice_get deck.systems s.0)) (k - 1))

-- whether a line is none of a desk, or tells of an earlier desk line
abbrev pub is_desk_before : ℕ → ToldLine → Bool
is_desk_before k (Desk j said) = nat_lt j k
is_desk_before k _ = true

-- whether a line tells that the complex changed to star mode
abbrev pub tells_star : ToldLine → Bool
tells_star (Desk k StarDone) = true
tells_star _ = false

-- whether the complex was in star mode before an event: from the start on, or as an earlier event told
abbrev pub was_star : Deck → ℕ → List Told → Bool
was_star deck e before = deck.star || list_any (λ x. nat_lt x.event e && tells_star x.line) before

-- whether the removal of a system is what was fixed
abbrev pub is_purge : SysId → Fixed → Bool
is_purge target (Purged removed) = target.0 == removed.0
is_purge target _ = false

-- whether a system fixed the removal of another
abbrev pub purges : SysId → SysId → List (SysId × Fixed) → Bool
purges s target fixed = list_any (λ x. (x.0.0 == s.0) && is_purge target x.1) fixed

-- What is said of a command has its cause. The complex changes to star mode once. A system is removed by the
-- event that tells it, and there is none any more where it was removed.
abbrev pub HasCause : Deck → Moment → ℕ → SysId → Option Order → Said → Type 0
HasCause deck m e s (Some Star) StarDone = list_any (λ x. tells_star x.line) m.before ≡ false
HasCause deck m e s (Some Star) StarAlready = was_star deck e m.before ≡ true
HasCause deck m e s (Some (Vary target)) VaryDone = purges s target m.fixed ≡ true
HasCause deck m e s (Some (Vary target)) VaryNoSuch = list_any (removes target) m.history ≡ true
HasCause deck m e s _ _ = ⊥

-- a line told at a desk agrees: it comes behind those of earlier desk lines, and has its cause
abbrev pub DeskAgrees : Deck → Moment → ℕ → SysId → ℕ → Said → Type 0
DeskAgrees deck m e s k said =
    (0 < k) × (list_all (λ x. not (x.system.0 == s.0) || is_desk_before k x.line) m.before ≡ true)
    × HasCause deck m e s (order_of deck s k) said

-- a line that system s tells a task agrees: the task is one of its own
abbrev pub TaskAgrees : Deck → Moment → SysId → TaskId → ToldLine → Type 0
TaskAgrees deck m s t line =
    (s ≡ t.system) × AgreesOf deck.limit (lines_of deck t) m.history (lines_of_told m.before) line

-- a line that event e of system s tells agrees; a code is that of its whole line, part 0
abbrev pub AgreesBy : Deck → Moment → ℕ → SysId → ToldLine → Type 0
AgreesBy deck m e s (Coded t k part verb code) = (part ≡ 0) × TaskAgrees deck m s t (Coded t k part verb code)
AgreesBy deck m e s (Shown t k verb code rows) = TaskAgrees deck m s t (Shown t k verb code rows)
AgreesBy deck m e s (Post t k) = TaskAgrees deck m s t (Post t k)
AgreesBy deck m e s (Ended t code) = TaskAgrees deck m s t (Ended t code)
AgreesBy deck m e s (Desk k said) = DeskAgrees deck m e s k said

-- what was told at this moment agrees
abbrev pub Agrees : Deck → Moment → Told → Type 0
Agrees deck m x = AgreesBy deck m x.event x.system x.line

-- what one event fixed, events numbered from 1
abbrev pub fixed_in : Deck → List Event → ℕ → List (SysId × Fixed)
fixed_in deck es e = drop (length (run deck (take (e - 1) es)).fixed) (run deck (take e es)).fixed

-- the moment at which an event tells a line, behind what was told before
abbrev pub moment : Deck → List Event → ℕ → List Told → Moment
moment deck es e before = record { history = hist deck (take e es); fixed = fixed_in deck es e; before = before }

-- each of these lines agrees at its moment, the first behind what was told before
abbrev pub AgreeAt : Deck → (ℕ → List Told → Moment) → List Told → List Told → Type 0
AgreeAt deck moments before [] = Unit {0}
AgreeAt deck moments before (x ∷ xs) =
    Agrees deck (moments x.event before) x × AgreeAt deck moments (before ++ x ∷ []) xs

-- the same at the moments of a run
abbrev pub AllAgree : Deck → List Event → List Told → List Told → Type 0
AllAgree deck es before xs = AgreeAt deck (moment deck es) before xs

-- whether a command is to remove this system
abbrev pub is_vary : SysId → Option Order → Bool
is_vary target (Some (Vary named)) = target.0 == named.0
is_vary target _ = false

-- whether a line tells, at the desk of a system, that it removed another
abbrev pub tells_removal : Deck → SysId → SysId → ToldLine → Bool
tells_removal deck s target (Desk k VaryDone) = is_vary target (order_of deck s k)
tells_removal deck s target _ = false

-- whether event e of system s told that it removed another
abbrev pub is_removal : Deck → ℕ → SysId → SysId → Told → Bool
is_removal deck e s target x = (x.event == e) && ((x.system.0 == s.0) && tells_removal deck s target x.line)

-- Each removal among what event e fixed is told by that event.
abbrev pub RemovalsTold : Deck → ℕ → List (SysId × Fixed) → List Told → Type 0
RemovalsTold deck e fixed lines =
    (s target : SysId) → purges s target fixed ≡ true → list_any (is_removal deck e s target) lines ≡ true

-- whether an event is there, and is this system's
abbrev pub is_event_of : SysId → Option Event → Bool
is_event_of s None = false
is_event_of s (Some e) = e.system.0 == s.0

-- whether a line is told by one of these events, numbered from 1, and by the system of that event
abbrev pub is_of_event : List Event → Told → Bool
is_of_event es x = nat_lt 0 x.event && is_event_of x.system (slice_get es (x.event - 1))

-- whether this was told by a system of which the history lacks the removal, as it was before that event
abbrev pub is_by_live : Deck → List Event → Told → Bool
is_by_live deck es x = not (list_any (removes x.system) (hist deck (take (x.event - 1) es)))

-- A removed system tells nothing more, to its tasks or at its desk.
abbrev pub RemovedTellNothing : Deck → List Event → Type 0
RemovedTellNothing deck es = list_all (is_by_live deck es) (told deck es) ≡ true

-- What a run tells agrees with its history.
pub record Agree (deck : Deck) (es : List Event) : Type 0 where
  -- each line that is told agrees
  pub lines : AllAgree deck es [] (told deck es)
  -- and is told by an event, and by the system of that event,
  pub events : list_all (is_of_event es) (told deck es) ≡ true
  -- each removal is told by the event that makes it,
  pub removals : (e : ℕ) → RemovalsTold deck e (fixed_in deck es e) (told deck es)
  -- and a removed system tells nothing more
  pub silent : RemovedTellNothing deck es

-- A run is sound: its history is legal, and what it tells agrees with that history.
pub record Sound (deck : Deck) (es : List Event) : Type 0 where
  pub legal : Legal deck (hist deck es)
  pub agree : Agree deck es
