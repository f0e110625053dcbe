-- The systems of a run in star mode together: whose hands each request is in, and how an event of one system is placed.
use Rattle.grs_world.proofs.Common.{[], ◌++◌, ◌<◌, ◌∙◌, ◌∷◌, ◌≡◌, ◌≢◌, ◌⊎◌, after_fixed, and-false, and_parts, ap}
use Rattle.grs_world.proofs.Common.{append-nil, askers, Bool, counted, Deck, entry_wanted, false, Fixed, fixed_by}
use Rattle.grs_world.proofs.Common.{get_or, goes_round, has, history, inbox, is_entry, is_systems, IsHistory, items}
use Rattle.grs_world.proofs.Common.{items-append, kept, length, length-set, lines_of, List, list_of, lists, lists-push}
use Rattle.grs_world.proofs.Common.{lives, lt-ltb, ltb-true, made_item, Mail, may_go, Message, mine, nat_lt, no_truth}
use Rattle.grs_world.proofs.Common.{NodeState, None, not-true, noticed, Option, placed, refl, replay, replayed, Req}
use Rattle.grs_world.proofs.Common.{Res, RunItem, slice_get-get_or, Some, stand_apart, StarPart, subst, sym, SysId}
use Rattle.grs_world.proofs.Common.{System, task_step, TaskId, Told, true, Turnout, without_gone, World, ℕ}
use Rattle.std.specs.Prelude.{not, ◌&&◌}
use Rattle.grs_known.proofs.known.Histories.{wants-round}
use Rattle.grs_base.specs.declared.resource.Res.TheVariants.{Step as StepRes, Systems}
use Rattle.grs_world.proofs.star.Elements.{AreNear, is_near_res, near-stays, near-want}
use Rattle.grs_world.proofs.system.AtNode.{MayFix, fix-history}
use Rattle.grs_world.proofs.star.Ghosts.{IsOthers, others-fix}
use Rattle.grs_world.proofs.star.OwnEvents.{Task, idle_task, local_task, system-task, want-round}
use Rattle.grs_world.proofs.star.Tasks.{task-quiet}
use Rattle.grs_world.proofs.star.Members.{IsMember, IsStar, IsStep, has_manager, all_lists, framed}
use Rattle.grs_world.proofs.star.Runs.{kept_lists, counted-star}
use Rattle.grs_world.proofs.star.Systems.{IsSystem, none-noticed, requests_in, system-other}
use Rattle.grs_world.proofs.star.Under.{under, under-other}
use Rattle.grs_world.proofs.run.Site.{Site, site-below, each_site}
use Rattle.grs_world.proofs.run.Placed.{of_world, world_then}
use Rattle.grs_wire.specs.declared.request.Fixed.TheVariants as fixing
pub use Rattle.grs_world.specs.InHands.{in_hands}

-- a request is one of these
abbrev pub IsIn : Req → List Req → Type 0
IsIn q [] = ⊥
IsIn q (x ∷ xs) = (q ≡ x) ⊎ IsIn q xs

-- A request in the hands of system m is the one that a task of another live system sent and that isn't settled; it is
-- of an entry that m manages.
pub record IsHand (deck : Deck) (words : List ℕ) (live : ℕ → Bool) (later : ℕ → List RunItem) (out : ℕ → List Req)
    (m : ℕ) (q : Req) :
    Type 0 where
  pub apart : q.task.system.0 ≢ m
  pub below : live q.task.system.0 ≡ true
  pub among : IsIn q (out q.task.system.0)
  pub idle : mine q.task (later q.task.system.0) ≡ []
  pub entry : ℕ
  pub at : entry_wanted deck.entries q.want ≡ Some entry
  pub managed : has_manager words entry m ≡ true

abbrev pub AllHands : Deck → List ℕ → (ℕ → Bool) → (ℕ → List RunItem) → (ℕ → List Req) → ℕ → List Req → Type 0
AllHands deck words live later out m [] = Unit {0}
AllHands deck words live later out m (q ∷ qs) =
    IsHand deck words live later out m q × AllHands deck words live later out m qs

-- The requests in its hands are such, each of another task.
pub record Hands (deck : Deck) (words : List ℕ) (live : ℕ → Bool) (later : ℕ → List RunItem) (out : ℕ → List Req)
    (m : ℕ) (qs : List Req) :
    Type 0 where
  pub each : AllHands deck words live later out m qs
  pub apart : stand_apart (askers qs) ≡ true

-- the live systems of a world
abbrev pub are_live : World → ℕ → Bool
are_live w s = lives (length w.nodes) w.medium.removed s

-- one of them is there, and wasn't removed; and back
pub live-below : (w : World) (s : ℕ) → are_live w s ≡ true → (s < length w.nodes) × (has w.medium.removed s ≡ false)
live-below w s h =
    let both = and_parts (nat_lt s (length w.nodes)) (not (has w.medium.removed s)) h in
    (ltb-true s (length w.nodes) both.0, not-true (has w.medium.removed s) both.1)

pub live-here : (w : World) (s : ℕ) (n : NodeState) → Site w s n → are_live w s ≡ true
live-here w s n at =
    let within : nat_lt s (length w.nodes) ≡ true = lt-ltb s (length w.nodes) (site-below w s n at) in
    rw (within, at.live) refl

-- so there is a system of its number
pub live-site : (w : World) (s : ℕ) (d : NodeState) → are_live w s ≡ true → Site w s (get_or w.nodes s d)
live-site w s d h = record { at = slice_get-get_or w.nodes s d (live-below w s h).0; live = (live-below w s h).1 }

-- who manages is one of them
pub manager-live : (deck : Deck) (w : World) → IsStar deck w → (e s : ℕ) → has_manager w.medium.words e s ≡ true
    → are_live w s ≡ true
manager-live deck w g e s managing = go (are_live w s) refl
  where
    go : (b : Bool) → are_live w s ≡ b → b ≡ true
    go true h = refl
    go false h = no_truth (has_manager w.medium.words e s) managing (g.nobody e s h).1

-- What holds of the world.
pub record IsWhole (deck : Deck) (w : World) : Type 0 where
  pub roles : IsStar deck w
  pub right : IsHistory deck (items w.fixed)
  pub later : ℕ → List RunItem
  pub out : ℕ → List Req
  -- each element is of a system with interest in its entry
  pub near : AreNear deck w.medium.words (all_lists w)
  pub system : (s : ℕ) (n : NodeState) → Site w s n
      → IsSystem deck w.medium.words (items w.fixed) s n (inbox w.medium s) (later s) (out s)
  pub hands : (m : ℕ) (n : NodeState) (p : StarPart) → Site w m n
      → n.star ≡ Some p → Hands deck w.medium.words (are_live w) later out m (in_hands p (inbox w.medium m))

-- ---- what an event leaves
-- Behind these items an event of system c fixed nothing, or one item: to each other system whose tasks had sent nothing
-- it is one of others.
pub data Fixes (deck : Deck) (c : ℕ) (out : ℕ → List Req) (T : List RunItem) : List RunItem → Type 0 where
  none_fixed : Fixes deck c out T T
  one_fixed : (x : RunItem) → ((u : ℕ) → u ≢ c → out u ≡ [] → IsOthers deck u T x) → Fixes deck c out T (T ++ x ∷ [])

-- The world is whole after an event of system c, and what the tasks of every other system sent stays.
pub record StaysWhole (deck : Deck) (w : World) (g : IsWhole deck w) (c : SysId) (w' : World) : Type 0 where
  pub whole : IsWhole deck w'
  pub sent : (u : ℕ) → u ≢ c.0 → whole.out u ≡ g.out u
  pub fixes : Fixes deck c.0 g.out (items w.fixed) (items w'.fixed)

-- one item more
pub items-one : (xs : List (SysId × Fixed)) (c : SysId) (f : Fixed)
    → items (xs ++ fixed_by c (f ∷ [])) ≡ items xs ++ made_item c (items xs) f ∷ []
items-one xs c f = items-append xs (fixed_by c (f ∷ []))

pub items-none : (xs : List (SysId × Fixed)) (c : SysId) → items (xs ++ fixed_by c []) ≡ items xs
items-none xs c = ap items (append-nil xs)

-- ---- the world after an event of system c, where the items become these
module _ (deck : Deck) (w : World) (g : IsWhole deck w) (c : SysId) (n : NodeState) (at : Site w c.0 n) (o : Turnout)
    (step : IsStep deck w c n o) (T : List RunItem) (grown : items (w.fixed ++ fixed_by c o.step.fixed) ≡ T)
    (later : ℕ → List RunItem) (out : ℕ → List Req) (sent : (u : ℕ) → u ≢ c.0 → out u ≡ g.out u)
    (fixes : Fixes deck c.0 g.out (items w.fixed) T) where
  abbrev words : List ℕ
  words = o.medium.words

  pub whole-placed : IsHistory deck T → AreNear deck o.medium.words (lists T) →
      IsSystem deck o.medium.words T c.0 o.step.node (inbox o.medium c.0) (later c.0) (out c.0) →
      ((s : ℕ) (k : NodeState) → s ≢ c.0 → Site w s k
      → IsSystem deck o.medium.words T s k (inbox o.medium s) (later s) (out s))
      →
      ((p : StarPart) → o.step.node.star ≡ Some p
      → Hands deck o.medium.words (are_live w) later out c.0 (in_hands p (inbox o.medium c.0)))
      →
      ((m : ℕ) (k : NodeState) (p : StarPart) → m ≢ c.0 → Site w m k
      → k.star ≡ Some p → Hands deck o.medium.words (are_live w) later out m (in_hands p (inbox o.medium m)))
      →
      StaysWhole deck w g c (placed w c n o)
  whole-placed right near own others hands_own hands_others = of_world w c n o (StaysWhole deck w g c) (record {
    whole = record {
      roles = framed deck w c n at g.roles o step;
      right = subst (IsHistory deck) (sym grown) right;
      later = later;
      out = out;
      near = subst (λ U. AreNear deck o.medium.words (lists U)) (sym grown) near;
      system = λ s k u.
          subst (λ U. IsSystem deck o.medium.words U s k (inbox o.medium s) (later s) (out s)) (sym grown)
          (each_site w c n at o was_live
          (λ i z. IsSystem deck o.medium.words T i z (inbox o.medium i) (later i) (out i))
          own others s k u);
      hands = λ m k p u is.
          subst (λ live. Hands deck o.medium.words live later out m (in_hands p (inbox o.medium m))) (sym same_live)
          (each_site w c n at o was_live (λ i z.
          (q : StarPart) → z.star ≡ Some q
          → Hands deck o.medium.words (are_live w) later out i (in_hands q (inbox o.medium i)))
          hands_own (λ i z ne found q star. hands_others i z q ne found star) m k u p is);
    };
    sent = sent;
    fixes = subst (Fixes deck c.0 g.out (items w.fixed)) (sym grown) fixes;
  })
    where
      was_live : (s : ℕ) → has o.medium.removed s ≡ false → has w.medium.removed s ≡ false
      was_live s live = sym (ap (λ i. has i s) step.removed) ∙ live

      same_live : are_live (world_then w c n o) ≡ are_live w
      same_live =
          ap (λ (i : ℕ). λ (s : ℕ). lives i o.medium.removed s) (length-set w.nodes c.0 o.step.node)
          ∙ ap (λ (i : ℕ). λ (s : ℕ). lives (length w.nodes) i s) step.removed

-- an event that is only counted
pub whole-counted : (deck : Deck) (w : World) (g : IsWhole deck w)
    → (h : IsWhole deck (counted w)) × ((u : ℕ) → h.out u ≡ g.out u)
whole-counted deck w g = (
  record {
    roles = counted-star deck w g.roles;
    right = g.right;
    later = g.later;
    out = g.out;
    near = g.near;
    system = g.system;
    hands = g.hands;
  },
  λ u. refl,
)

-- What holds of the world says nothing of the message and of flags of rest, nor of what was told.
pub whole-still :
    (deck : Deck) (w : World) (g : IsWhole deck w) (message : Message) (flags events : ℕ) (fixed : List (SysId × Fixed))
    (told : List Told)
    → items fixed ≡ items w.fixed →
    (h :
    IsWhole deck (record w
    { medium = record w.medium { message = message; rest = flags }; events = events; fixed = fixed; told = told }))
    × ((u : ℕ) → h.out u ≡ g.out u)
whole-still deck w g message flags events fixed told same = (
  record {
    roles = record {
      mode = g.roles.mode;
      words = g.roles.words;
      inboxes = g.roles.inboxes;
      systems = g.roles.systems;
      managed = g.roles.managed;
      nobody = g.roles.nobody;
      free = λ e none. subst (λ T. under deck.entries e (lists T) ≡ []) (sym same) (g.roles.free e none);
      node = λ s k u. subst (λ T. IsMember deck w.medium.words (lists T) s k) (sym same) (g.roles.node s k u);
    };
    right = subst (IsHistory deck) (sym same) g.right;
    later = g.later;
    out = g.out;
    near = subst (λ T. AreNear deck w.medium.words (lists T)) (sym same) g.near;
    system = λ s k u.
        subst (λ T. IsSystem deck w.medium.words T s k (inbox w.medium s) (g.later s) (g.out s)) (sym same)
        (g.system s k u);
    hands = g.hands;
  },
  λ u. refl,
)

-- No system is told that it has to gather an entry, and no element is of a removed system.
pub quiet-whole : (deck : Deck) (w : World) → IsWhole deck w → (m : ℕ) (n : NodeState) (e : ℕ) → Site w m n
    → noticed e (inbox w.medium m) ≡ false
quiet-whole deck w g m n e at = none-noticed deck w.medium.words m e (inbox w.medium m) (g.system m n at).fits

pub stay-whole : (deck : Deck) (w : World) → IsWhole deck w → (r : Res) → is_systems r ≡ true
    → without_gone w.medium.removed (list_of (all_lists w) r) ≡ list_of (all_lists w) r
stay-whole deck w g (StepRes z j q r) all = absurd (cc)
stay-whole deck w g (System z q r) all = absurd (cc)
stay-whole deck w g (Systems q r) all =
    near-stays deck w.medium.words w.medium.removed
    (λ e u gone. (g.roles.nobody e u
    (ap (λ b. nat_lt u (length w.nodes) && not b) gone ∙ and-false (nat_lt u (length w.nodes)))).0)
    q r (all_lists w) g.near

-- So what is kept is what the history says.
pub kept-whole : (deck : Deck) (w : World) → IsWhole deck w → (s : SysId) (r : Res) → is_systems r ≡ true
    → kept deck w s r ≡ list_of (replay deck.limit (history (items w.fixed))) r
kept-whole deck w g s r all =
    kept_lists deck w g.roles (quiet-whole deck w g) s r all (stay-whole deck w g r all)
    ∙ ap (λ st. list_of st r) (replayed deck (items w.fixed) g.right)

-- what the system fixes for its own task is of others to each other system
pub fixes-own : (deck : Deck) (c : SysId) (out : ℕ → List Req) (T : List RunItem) (f : Fixed) → MayFix deck c.0 c T f
    → Fixes deck c.0 out T (T ++ made_item c T f ∷ [])
fixes-own deck c out T f may =
    one_fixed (made_item c T f) (λ u ne empty. others-fix deck c.0 u c T f may (λ e. ne (sym e)))

-- what doesn't go with the message is of no lock entry
no_entry : (deck : Deck) (words : List ℕ) (u : TaskId) (r : Res) → is_systems r ≡ false
    → is_near_res deck words r u ≡ true
no_entry deck words u (StepRes z j q r) e = refl
no_entry deck words u (System z q r) e = refl
no_entry deck words u (Systems q r) e = absurd (cc)

pub near-local : (deck : Deck) (words : List ℕ) (T : List RunItem) (c : SysId) (f : Fixed) → goes_round f ≡ false
    → AreNear deck words (lists T) → AreNear deck words (lists (T ++ made_item c T f ∷ []))
near-local deck words T c f away near =
    subst (AreNear deck words) (sym (lists-push T (made_item c T f))) (by_fixed f away)
  where
    by_fixed : (k : Fixed) → goes_round k ≡ false → AreNear deck words (after_fixed (lists T) k)
    by_fixed (fixing.Asked q) alone =
        near-want deck words (lists T) q.task q.want
        (λ r wanted. no_entry deck words q.task r (sym (wants-round q.want r wanted) ∙ alone)) near
    by_fixed (fixing.LocalLook t g) alone = near
    by_fixed (fixing.Purged target) alone = absurd (cc)

pub under-local : (deck : Deck) (T : List RunItem) (c : SysId) (f : Fixed) → goes_round f ≡ false → (e : ℕ)
    → under deck.entries e (lists (T ++ made_item c T f ∷ [])) ≡ under deck.entries e (lists T)
under-local deck T c f away e = ap (under deck.entries e) (lists-push T (made_item c T f)) ∙ by_fixed f away
  where
    none : (q : Req) → goes_round (fixing.Asked q) ≡ false → (o : Option ℕ) → entry_wanted deck.entries q.want ≡ o
        → is_entry e o ≡ false
    none q alone None at = refl
    none q alone (Some x) at = absurd (want-round deck q.want x alone at)

    by_fixed : (k : Fixed) → goes_round k ≡ false
        → under deck.entries e (after_fixed (lists T) k) ≡ under deck.entries e (lists T)
    by_fixed (fixing.Asked q) alone =
        under-other deck.entries e (lists T) q.task q.want (none q alone (entry_wanted deck.entries q.want) refl)
    by_fixed (fixing.LocalLook t g) alone = refl
    by_fixed (fixing.Purged target) alone = absurd (cc)

-- ---- events of a system c
module _ (deck : Deck) (w : World) (g : IsWhole deck w) (c : SysId) (n : NodeState) (at : Site w c.0 n) where
  abbrev T : List RunItem
  T = items w.fixed

  -- its own item is another system's to the others
  pub others-item : (f : Fixed) → MayFix deck c.0 c T f → (s : ℕ) (k : NodeState) → s ≢ c.0 → Site w s k →
      IsSystem deck w.medium.words (T ++ made_item c T f ∷ []) s k (inbox w.medium s) (g.later s) (g.out s)
  others-item f may s k ne found =
      system-other deck w.medium.words T s k (inbox w.medium s) (g.later s) (g.out s) (made_item c T f)
      (others-fix deck c.0 s c T f may (λ e. ne (sym e))) (g.system s k found)

  -- a task goes on by itself
  pub whole-task : (t : TaskId) → may_go deck n t ≡ true
      → IsStep deck w c n (record { medium = w.medium; step = task_step deck.limit n t (lines_of deck t) })
      → StaysWhole deck w g c
      (placed w c n (record { medium = w.medium; step = task_step deck.limit n t (lines_of deck t) }))
  whole-task t goes step =
      by_task (system-task deck w.medium.words T g.right c.0 n (inbox w.medium c.0) (g.later c.0) (g.out c.0)
      (g.system c.0 n at) c t me.part me.star goes)
    where
      me : IsMember deck w.medium.words (all_lists w) c.0 n
      me = g.roles.node c.0 n at

      same_star : (task_step deck.limit n t (lines_of deck t)).node.star ≡ n.star
      same_star = by_part (g.roles.node c.0 n at)
        where
          by_part : IsMember deck w.medium.words (all_lists w) c.0 n
              → (task_step deck.limit n t (lines_of deck t)).node.star ≡ n.star
          by_part m = (task-quiet m.part n m.star deck.limit t (lines_of deck t)).star

      by_task :
          Task deck w.medium.words T g.right c.0 n (inbox w.medium c.0) (g.later c.0) (g.out c.0)
          (g.system c.0 n at) c (task_step deck.limit n t (lines_of deck t))
          → StaysWhole deck w g c
          (placed w c n (record { medium = w.medium; step = task_step deck.limit n t (lines_of deck t) }))
      by_task (idle_task nothing z) =
          whole-placed deck w g c n at
          (record { medium = w.medium; step = task_step deck.limit n t (lines_of deck t) })
          step T (ap (λ fs. items (w.fixed ++ fixed_by c fs)) nothing ∙ items-none w.fixed c) g.later g.out
          (λ u ne. refl) none_fixed
          g.right g.near z.system (λ s k ne found. g.system s k found)
          (λ p is. g.hands c.0 n p at (sym same_star ∙ is))
          (λ m k p ne found is. g.hands m k p found is)
      by_task (local_task f is_item away may z) =
          let item : RunItem = made_item c T f in
          whole-placed deck w g c n at
          (record { medium = w.medium; step = task_step deck.limit n t (lines_of deck t) })
          step (T ++ item ∷ [])
          (ap (λ fs. items (w.fixed ++ fixed_by c fs)) is_item ∙ items-one w.fixed c f) g.later g.out
          (λ u ne. refl) (fixes-own deck c g.out T f may)
          (fix-history g.right may) (near-local deck w.medium.words T c f away g.near) z.system
          (others-item f may) (λ p is. g.hands c.0 n p at (sym same_star ∙ is))
          (λ k j p ne found is. g.hands k j p found is)
