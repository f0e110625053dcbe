-- The complex from the change of the medium on. A system that hasn't changed yet is shown as if it had: it has
-- processed what it was given of the message, and its table is its part. By what is shown the world is one in star
-- mode.
use Rattle.grs_world.proofs.Common.{[], ◌++◌, ◌∙◌, ◌∷◌, ◌≡◌, ◌≢◌, ap, append-nil, append_assoc, askers, Bool}
use Rattle.grs_world.proofs.Common.{change_to_star, cond, Deck, false, filter-append, filter-cons_kept}
use Rattle.grs_world.proofs.Common.{filter-cons_left, fixed_by, goes_round, has, history, is_among, is_of, IsHistory}
use Rattle.grs_world.proofs.Common.{IsOurs, items, length, length-set, List, lists, live, Mail, Meaning, Message, mine}
use Rattle.grs_world.proofs.Common.{no_truth, NodeState, None, own_requests, part_by_table, placed, refl, Req, rounds}
use Rattle.grs_world.proofs.Common.{RunItem, same_task-itself, slice_get, slice_get-set, slice_get-set_other, Some}
use Rattle.grs_world.proofs.Common.{star-changed, subst, sym, SysId, TaskId, told-news, ToldNews, true, Turnout, World}
use Rattle.grs_world.proofs.Common.{ℕ}
use Rattle.std.proofs.Common.{set}
use Rattle.grs_wire.specs.Masks.{others}
use Rattle.grs_world.proofs.run.Desks.{EventTells}
use Rattle.grs_world.proofs.star.Worlds.{Fixes, IsWhole, none_fixed, one_fixed}
use Rattle.grs_world.proofs.run.Runs.{GoodMessage, seen_at}
use Rattle.grs_world.proofs.run.Placed.{by_node}
use Rattle.grs_world.proofs.star.Ghosts.{IsAt}
use Rattle.grs_world.proofs.star.Systems.{IsSystem}
use Rattle.grs_world.proofs.run.Reading.{ReadTo, read_all, reading}
use Rattle.grs_world.proofs.system.AtNode.{Seen}
use Rattle.grs_world.proofs.move.Ranks.{changed-at, changed-told}
use Rattle.grs_world.proofs.run.Growing.{fixeds}
use Rattle.grs_world.proofs.run.Messages.{message-kept}

-- System s hasn't changed. Of what went with the message it has processed `before` and has still to process `due`; of
-- what was fixed since the message is closed nothing is of its tasks.
pub record Waits (deck : Deck) (s : ℕ) (T before due since : List RunItem) (n : NodeState) : Type 0 where
  pub alone : n.star ≡ None
  pub seen : Seen deck s T before (due ++ since) (own_requests s due) n
  pub away : (t : TaskId) → t.system.0 ≡ s → mine t since ≡ []

-- what it shows
abbrev pub viewed : Deck → NodeState → List RunItem → NodeState
viewed deck n due = change_to_star deck (read_all n due)

-- A system shows itself once it has changed; before that its tasks have sent nothing.
pub data Shown (deck : Deck) (s : ℕ) (T before due since : List RunItem) (out : List Req) (k : NodeState) : NodeState
    → Type 0 where
  has_changed : due ≡ [] → Shown deck s T before due since out k k
  waits_yet : (n : NodeState) → Waits deck s T before due since n → k ≡ viewed deck n due → out ≡ []
      → Shown deck s T before due since out k n

-- What holds of the world then.
pub record IsChanging (deck : Deck) (w : World) : Type 0 where
  pub view : List NodeState
  pub whole : IsWhole deck (record w { nodes = view })
  -- what went with the message, and what was fixed since
  pub log : List RunItem
  pub since : List RunItem
  pub rounds_are : rounds (items w.fixed) ≡ log ++ since
  pub before : ℕ → List RunItem
  pub due : ℕ → List RunItem
  pub parts : (s : ℕ) → log ≡ before s ++ due s
  pub message : GoodMessage w.medium (fixeds log) (seen_at before)
  pub closed : w.medium.message.closed ≡ true
  pub around : w.medium.message.systems ≡ length deck.systems
  pub count : length w.nodes ≡ length deck.systems
  pub shown : (s : ℕ) (n : NodeState) → slice_get w.nodes s ≡ Some n → has w.medium.removed s ≡ false
      → (k : NodeState) × (slice_get view s ≡ Some k)
      × Shown deck s (items w.fixed) (before s) (due s) since (whole.out s) k n
  -- who was removed never changes
  pub gone : (s : ℕ) (n : NodeState) → slice_get w.nodes s ≡ Some n → has w.medium.removed s ≡ true → n.star ≡ None

-- ---- a system that has sent nothing has nothing to come
pub nothing-late :
    (deck : Deck) (words : List ℕ) (T : List RunItem) (s : ℕ) (n : NodeState) (ms : List Mail) (later : List RunItem)
    (out : List Req)
    → IsSystem deck words T s n ms later out → out ≡ [] → later ≡ []
nothing-late deck words T s n ms [] out h none = refl
nothing-late deck words T s n ms (x ∷ xs) out h none =
    let t : TaskId = h.late.0.req.task in
    let own : is_of t x.fixed ≡ true = ap (is_of t) h.late.0.asked ∙ same_task-itself t in
    let gone : mine t (x ∷ xs) ≡ [] = h.sent t (ap (λ qs. is_among t (askers qs)) none) in
    absurd (let e : x ∷ mine t xs ≡ [] = sym (filter-cons_kept (λ z. is_of t z.fixed) x xs own) ∙ gone in cc)

-- ---- a system that hasn't changed, once it has processed what is due
module _ (deck : Deck) (s : ℕ) (T before due since : List RunItem) (right : IsHistory deck T)
    (whole : rounds T ≡ before ++ (due ++ since)) (n : NodeState) (h : Waits deck s T before due since n) where
  pub view-read : ReadTo deck s T right since (before ++ due) n (read_all n due)
  view-read = reading deck s T right since due before n whole h.seen

  view-away : (t : TaskId) (ls : List Meaning) → IsOurs deck s (read_all n due).tasks t ls → mine t since ≡ []
  view-away t ls o = h.away t o.home

  pub view-at : IsAt deck s T [] [] (viewed deck n due)
  view-at = changed-at deck s T (before ++ due) since (read_all n due) view-read.seen view-away

  pub view-told : (viewed deck n due).tasks.told ≡ (read_all n due).tasks.told
  view-told = changed-told deck s T (before ++ due) since (read_all n due) view-read.seen view-away

  -- its part is that of the table of all that went with the message
  pub view-star : (viewed deck n due).star
      ≡ Some (part_by_table deck.entries (record { 0 = s }) (lists (before ++ due)))
  view-star = star-changed deck (read_all n due)
      ∙ (ap (λ (i : ℕ). Some (part_by_table deck.entries (record { 0 = i }) (read_all n due).shared))
      view-read.seen.good.system
      ∙ ap (λ t. Some (part_by_table deck.entries (record { 0 = s }) t)) view-read.seen.shared)

  -- what it will tell then agrees with the history
  pub view-news : ToldNews deck s (history T) n.tasks.told (viewed deck n due).tasks.told
  view-news = subst (ToldNews deck s (history T) n.tasks.told) (sym view-told) (told-news view-read.told)

-- ---- what was fixed by an event of system c, as far as the others go
pub record Fresh (deck : Deck) (c : ℕ) (out : ℕ → List Req) (T T' : List RunItem) : Type 0 where
  pub new : List RunItem
  pub is : rounds T' ≡ rounds T ++ rounds new
  pub seen : (u : ℕ) → u ≢ c → out u ≡ [] → (before later : List RunItem) (o : List Req) (n : NodeState)
      → Seen deck u T before later o n → Seen deck u T' before (later ++ rounds new) o n
  pub away : (u : ℕ) → u ≢ c → out u ≡ [] → (t : TaskId) → t.system.0 ≡ u → mine t (rounds new) ≡ []

pub fresh : (deck : Deck) (c : ℕ) (out : ℕ → List Req) (T T' : List RunItem) → Fixes deck c out T T'
    → Fresh deck c out T T'
fresh deck c out T T' none_fixed = record {
  new = [];
  is = sym (append-nil (rounds T));
  seen = λ u ne empty before later o n h. subst (λ xs. Seen deck u T before xs o n) (sym (append-nil later)) h;
  away = λ u ne empty t home. refl;
}
fresh deck c out T T' (one_fixed x others) = record {
  new = x ∷ [];
  is = filter-append (λ z. goes_round z.fixed) T (x ∷ []);
  seen = λ u ne empty. (others u ne empty).seen;
  away = λ u ne empty t home. none t (goes_round x.fixed) ((others u ne empty).apart t home);
}
  where
    none : (t : TaskId) (b : Bool) → is_of t x.fixed ≡ false → mine t (cond b (x ∷ []) []) ≡ []
    none t true e = filter-cons_left (λ z. is_of t z.fixed) x [] e
    none t false e = refl

-- ---- the world after an event of system c, where k is shown of it then
module _ (deck : Deck) (w : World) (g : IsChanging deck w) (c : SysId) (n : NodeState)
    (at : slice_get w.nodes c.0 ≡ Some n) (unremoved : has w.medium.removed c.0 ≡ false) (o : Turnout)
    (k : NodeState) where
  abbrev after : World
  after = record (placed w c n o) { nodes = set g.view c.0 k }

  abbrev T : List RunItem
  T = items w.fixed

  abbrev T' : List RunItem
  T' = items (w.fixed ++ fixed_by c o.step.fixed)

  others-shown : (whole : IsWhole deck after) → ((u : ℕ) → u ≢ c.0 → whole.out u ≡ g.whole.out u)
      → (f : Fresh deck c.0 g.whole.out T T') → (u : ℕ) (m : NodeState) → u ≢ c.0 → slice_get w.nodes u ≡ Some m
      → has w.medium.removed u ≡ false →
      (j : NodeState) × (slice_get (set g.view c.0 k) u ≡ Some j)
      × Shown deck u T' (g.before u) (g.due u) (g.since ++ rounds f.new) (whole.out u) j m
  others-shown whole sent f u m ne there live =
      let old = g.shown u m there live in (old.0, slice_get-set_other g.view c.0 u k ne ∙ old.1, by_shown old.0 m old.2)
    where
      by_shown : (j m : NodeState) → Shown deck u T (g.before u) (g.due u) g.since (g.whole.out u) j m
          → Shown deck u T' (g.before u) (g.due u) (g.since ++ rounds f.new) (whole.out u) j m
      by_shown j m (has_changed none) = has_changed none
      by_shown j m (waits_yet y h is empty) = waits_yet y (record {
        alone = h.alone;
        seen =
            subst (λ xs. Seen deck u T' (g.before u) xs (own_requests u (g.due u)) y)
            (append_assoc (g.due u) g.since (rounds f.new))
            (f.seen u ne empty (g.before u) (g.due u ++ g.since) (own_requests u (g.due u)) y h.seen);
        away = λ t home.
            filter-append (λ z. is_of t z.fixed) g.since (rounds f.new)
            ∙ (ap (λ xs. xs ++ mine t (rounds f.new)) (h.away t home) ∙ f.away u ne empty t home);
      }) is (sent u ne ∙ empty)

  pub moved : (whole : IsWhole deck after) → ((u : ℕ) → u ≢ c.0 → whole.out u ≡ g.whole.out u)
      → (f : Fresh deck c.0 g.whole.out T T') → o.medium.message ≡ w.medium.message
      → o.medium.removed ≡ w.medium.removed →
      Shown deck c.0 T' (g.before c.0) (g.due c.0) (g.since ++ rounds f.new) (whole.out c.0) k o.step.node
      → IsChanging deck (placed w c n o)
  unfolding placed
  moved whole sent f message removed own = record {
    view = set g.view c.0 k;
    whole = whole;
    log = g.log;
    since = g.since ++ rounds f.new;
    rounds_are = f.is ∙ (ap (λ zs. zs ++ rounds f.new) g.rounds_are ∙ append_assoc g.log g.since (rounds f.new));
    before = g.before;
    due = g.due;
    parts = g.parts;
    message =
        message-kept w.medium o.medium (fixeds g.log) (seen_at g.before) (ap (λ (z : Message). z.entries) message)
        (ap (λ (z : Message). z.next) message) alive g.message;
    closed = ap (λ (z : Message). z.closed) message ∙ g.closed;
    around = ap (λ (z : Message). z.systems) message ∙ g.around;
    count = length-set w.nodes c.0 o.step.node ∙ g.count;
    shown =
        by_node w.nodes c.0 n o.step.node at (λ u m.
        has o.medium.removed u ≡ false
        → (j : NodeState) × (slice_get (set g.view c.0 k) u ≡ Some j)
        × Shown deck u T' (g.before u) (g.due u) (g.since ++ rounds f.new) (whole.out u) j m)
        (λ l. (k, slice_get-set g.view c.0 (g.shown c.0 n at unremoved).0 k (g.shown c.0 n at unremoved).1, own))
        (λ u m ne there l. others-shown whole sent f u m ne there (sym (ap (λ i. has i u) removed) ∙ l));
    gone = by_node w.nodes c.0 n o.step.node at (λ u m. has o.medium.removed u ≡ true → m.star ≡ None)
        (λ l. no_truth (has w.medium.removed c.0) (sym (ap (λ i. has i c.0) removed) ∙ l) unremoved)
        (λ u m ne there l. g.gone u m there (sym (ap (λ i. has i u) removed) ∙ l));
  }
    where
      alive : live o.medium ≡ live w.medium
      alive =
          ap (λ i. others i o.medium.removed) (ap (λ (z : Message). z.systems) message)
          ∙ ap (others w.medium.message.systems) removed

-- What an event comes to: the complex goes on to change, and what is told agrees.
pub record IsMoved (deck : Deck) (w : World) (c : SysId) (n : NodeState) (o : Turnout) : Type 0 where
  pub changing : IsChanging deck (placed w c n o)
  pub news :
      EventTells deck c (history (items (w.fixed ++ fixed_by c o.step.fixed))) o.step.fixed n o.step.node w.medium.star
      o.medium.star
