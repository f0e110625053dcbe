-- Ranks behind the removal of a system that manages no lock entry: the managers carry those of the elements that are
-- left, and tasks show them.
use Rattle.grs_world.proofs.Common.{[], ◌&&◌, ◌==◌, ◌||◌, ◌∙◌, ◌∷◌, ◌≡◌, and_from, and_parts, Answered, ap, Bool}
use Rattle.grs_world.proofs.Common.{by_test, cond, Deck, desk_told, false, filter, Granted, has, has_task, inbox_of}
use Rattle.grs_world.proofs.Common.{is_home_at, is_systems, items, List, list_all, list_of, lists, Mail, Managed, map}
use Rattle.grs_world.proofs.Common.{NodeState, None, not, Notice, Option, option_map, Part, plain, Ranked, refl, Res}
use Rattle.grs_world.proofs.Common.{same_Some, same_task, slice_get, Some, StarPart, state_of, subst, sym, SysId}
use Rattle.grs_world.proofs.Common.{TaskId, true, VaryDone, World, ℕ}
use Rattle.contention_mgr.specs.Loses.{Freed, freed_lists, lost, stays, with_freed}
use Rattle.contention_mgr.specs.Manager.{is_of, marked, with_control, with_mark}
use Rattle.grs_wire.specs.declared.medium.Mail.TheVariants.{Request}
use Rattle.grs_world.proofs.loss.Hears.{gentle-losses}
use Rattle.grs_world.proofs.loss.Leaves.{mail_without}
use Rattle.grs_world.proofs.loss.Losing.{is_in, lose_part, lose_parts}
use Rattle.grs_world.proofs.loss.Purging.{after, box-then, each-then, in-view, IsRemoval, its-star, lists-then, more}
use Rattle.grs_world.proofs.loss.Purging.{near-same, one-more, own-left, was-live}
use Rattle.grs_world.proofs.loss.View.{IsLeft, IsLosing, unknown, viewed_by}
use Rattle.grs_world.proofs.loss.Without.{left-has}
use Rattle.grs_world.proofs.run.Placed.{world_then}
use Rattle.grs_world.proofs.run.Site.{at_site, IsThere}
use Rattle.grs_world.proofs.star.Members.{all_lists}
use Rattle.grs_world.proofs.star.hearing.Gentle.{Gentle, gentle-line_told, gentle-then}
use Rattle.grs_world.proofs.star.ranks.Carried.{all_at, CarriesRank, has_this_rank}
use Rattle.grs_world.proofs.star.ranks.Ranked.{AreShown, HasShown}
use Rattle.grs_world.proofs.star.ranks.Shows.{comes_with, Shows, shows-gentle}
use Rattle.grs_world.proofs.loss.Purging as now

-- ---- a test of all elements, behind a loss
tests-map : {A B : Type 0} (p : B → Bool) (f : A → B) (q : A → Bool) → ((x : A) → p (f x) ≡ q x) → (xs : List A)
    → list_all p (map f xs) ≡ list_all q xs
tests-map p f q same [] = refl
tests-map p f q same (x ∷ xs) =
    ap (λ b. b && list_all p (map f xs)) (same x) ∙ ap (λ b. q x && b) (tests-map p f q same xs)

tests-same : {A : Type 0} (p q : A → Bool) → ((x : A) → p x ≡ q x) → (xs : List A) → list_all p xs ≡ list_all q xs
tests-same p q same [] = refl
tests-same p q same (x ∷ xs) =
    ap (λ b. b && list_all p xs) (same x) ∙ ap (λ b. q x && b) (tests-same p q same xs)

tests-more : {A : Type 0} (p q : A → Bool) → ((x : A) → p x ≡ true → q x ≡ true) → (xs : List A)
    → list_all p xs ≡ true → list_all q xs ≡ true
tests-more p q more [] h = refl
tests-more p q more (x ∷ xs) h =
    let both = and_parts (p x) (list_all p xs) h in
    and_from (q x) (list_all q xs) (more x both.0) (tests-more p q more xs both.1)

tests-filter : {A : Type 0} (p q : A → Bool) (xs : List A)
    → list_all p (filter q xs) ≡ list_all (λ x. not (q x) || p x) xs
tests-filter p q [] = refl
tests-filter p q (x ∷ xs) = go (q x) (tests-filter p q xs)
  where
    go : (b : Bool) → list_all p (filter q xs) ≡ list_all (λ y. not (q y) || p y) xs
        → list_all p (cond b (x ∷ filter q xs) (filter q xs)) ≡ ((not b || p x) && list_all (λ y. not (q y) || p y) xs)
    go true is = ap (λ b. p x && b) is
    go false is = is

-- a test that leaves marks
abbrev Unmarked : (Ranked → Bool) → Type 0
Unmarked p = (b : Bool) (x : Ranked) → p (marked b x) ≡ p x

module _ (p : Ranked → Bool) (unmarked : (b : Bool) (x : Ranked) → p (marked b x) ≡ p x) where
  tests-mark : (b : Bool) (r : Res) (t : TaskId) (xs : List Ranked)
      → list_all p (with_mark b r t xs) ≡ list_all p xs
  tests-mark b r t xs =
      tests-map p (λ x. cond (is_of r t x) (marked b x) x) p
      (λ x. by_test (λ (y : Ranked). p y ≡ p x) (is_of r t x) (marked b x) x (λ here. unmarked b x) (λ other. refl)) xs

  tests-control : (s : ℕ) (r : Res) (ts : List TaskId) (xs : List Ranked)
      → list_all p (with_control s r ts xs) ≡ list_all p xs
  tests-control s r [] xs = refl
  tests-control s r (t ∷ ts) xs =
      tests-control s r ts (cond (not (s == t.system.0)) (with_mark true r t xs) xs)
      ∙ by_test (λ (ys : List Ranked). list_all p ys ≡ list_all p xs) (not (s == t.system.0)) (with_mark true r t xs)
      xs (λ far. tests-mark true r t xs) (λ near. refl)

  tests-freed : (s : ℕ) (fs : List Freed) (xs : List Ranked) → list_all p (with_freed s fs xs) ≡ list_all p xs
  tests-freed s [] xs = refl
  tests-freed s (f ∷ fs) xs =
      tests-freed s fs (with_control s f.0 f.1 xs) ∙ tests-control s f.0 f.1 xs

  tests-lost : (s n : ℕ) (m : Managed)
      → list_all p (lost s n m).items ≡ list_all (λ x. not (stays n x) || p x) m.items
  tests-lost s n m =
      tests-freed s (freed_lists n (plain m.items)) (filter (stays n) m.items) ∙ tests-filter p (stays n) m.items

-- whether an element is of the whole complex and of a system that is among those, or the test is true of it
abbrev or_gone : List SysId → (Ranked → Bool) → Ranked → Bool
or_gone ss p x = (is_systems x.res && is_in x.elem.task.system.0 ss) || p x

gone-first : (u : SysId) (us : List SysId) (p : Ranked → Bool) (x : Ranked)
    → (not (stays u.0 x) || or_gone us p x) ≡ or_gone (u ∷ us) p x
gone-first u us p x = go (is_systems x.res) (u.0 == x.elem.task.system.0) (is_in x.elem.task.system.0 us) (p x)
  where
    go : (a b d e : Bool) → (not (not (a && b)) || ((a && d) || e)) ≡ ((a && (b || d)) || e)
    go true true d e = refl
    go true false d e = refl
    go false b d e = refl

-- what the test says of a manager once it has lost those systems
carries-lost : (ss : List SysId) (q : StarPart) (p : Ranked → Bool)
    → ((b : Bool) (x : Ranked) → p (marked b x) ≡ p x)
    → list_all (all_at p) (lose_parts q ss).manager.entries ≡ list_all (all_at (or_gone ss p)) q.manager.entries
carries-lost [] q p unmarked =
    tests-same (all_at p) (all_at (or_gone [] p)) (λ o. by-kept o) q.manager.entries
  where
    none : (a e : Bool) → e ≡ ((a && false) || e)
    none true e = refl
    none false e = refl

    by-kept : (o : Option Managed) → all_at p o ≡ all_at (or_gone [] p) o
    by-kept None = refl
    by-kept (Some m) = tests-same p (or_gone [] p) (λ x. none (is_systems x.res) (p x)) m.items
carries-lost (u ∷ us) q p unmarked =
    carries-lost us (lose_part q u) p unmarked
    ∙ tests-map (all_at (or_gone us p)) (option_map (lost q.manager.system.0 u.0)) (all_at (or_gone (u ∷ us) p)) by-kept
    q.manager.entries
  where
    by-kept : (o : Option Managed)
        → all_at (or_gone us p) (option_map (lost q.manager.system.0 u.0) o) ≡ all_at (or_gone (u ∷ us) p) o
    by-kept None = refl
    by-kept (Some m) =
        tests-lost (or_gone us p) (λ b x. ap (λ e. (is_systems x.res && is_in x.elem.task.system.0 us) || e)
        (unmarked b x)) q.manager.system.0 u.0 m
        ∙ tests-same (λ x. not (stays u.0 x) || or_gone us p x) (or_gone (u ∷ us) p) (gone-first u us p) m.items

-- So where more are lost a rank is still carried.
carries-more : (ss ts : List SysId) (q : StarPart) (t : SysId)
    → ((u : ℕ) → is_in u ts ≡ (is_in u ss || (t.0 == u))) → (r : Res) (v : TaskId) (k : ℕ)
    → CarriesRank r v k (lose_parts q ss).manager → CarriesRank r v k (lose_parts q ts).manager
carries-more ss ts q t is r v k h =
    carries-lost ts q (has_this_rank r v k) (λ b x. refl)
    ∙ tests-more (all_at (or_gone ss (has_this_rank r v k))) (all_at (or_gone ts (has_this_rank r v k))) by-kept
    q.manager.entries (sym (carries-lost ss q (has_this_rank r v k) (λ b x. refl)) ∙ h)
  where
    by-bits : (a d d' e f : Bool) → d' ≡ (d || f) → ((a && d) || e) ≡ true → ((a && d') || e) ≡ true
    by-bits a d d' true f same h = or-true (a && d')
      where
        or-true : (b : Bool) → (b || true) ≡ true
        or-true true = refl
        or-true false = refl
    by-bits true true d' false f same h = ap (λ b. b || false) same
    by-bits true false d' false f same h = absurd (cc)
    by-bits false d d' false f same h = h

    by-kept : (o : Option Managed) → all_at (or_gone ss (has_this_rank r v k)) o ≡ true
        → all_at (or_gone ts (has_this_rank r v k)) o ≡ true
    by-kept None h = refl
    by-kept (Some m) h =
        tests-more (or_gone ss (has_this_rank r v k)) (or_gone ts (has_this_rank r v k))
        (λ x.
        by-bits (is_systems x.res) (is_in x.elem.task.system.0 ss) (is_in x.elem.task.system.0 ts)
        (has_this_rank r v k x) (t.0 == x.elem.task.system.0) (is x.elem.task.system.0))
        m.items h

-- ---- the requests of some systems are no answers
comes-left : (gone : ℕ → Bool) (t : TaskId) (ms : List Mail) → comes_with t (mail_without gone ms) ≡ comes_with t ms
comes-left gone t [] = refl
comes-left gone t (Request e from q ∷ ms) = go (gone q.task.system.0) (comes-left gone t ms)
  where
    go : (b : Bool) → comes_with t (mail_without gone ms) ≡ comes_with t ms
        → comes_with t (cond (not b) (Request e from q ∷ mail_without gone ms) (mail_without gone ms))
        ≡ comes_with t ms
    go true is = is
    go false is = is
comes-left gone t (Answered u answer rank ∷ ms) =
    ap (λ o. cond (same_task t u) (Some rank) o) (comes-left gone t ms)
comes-left gone t (Granted u r ∷ ms) = comes-left gone t ms
comes-left gone t (Notice target moved ∷ ms) = comes-left gone t ms
comes-left gone t (Part e from records ∷ ms) = comes-left gone t ms

-- ---- the removal
module _ {deck : Deck} {w : World} {g : IsLosing deck w} {c : SysId} {n : NodeState} {t : SysId}
    (event : IsRemoval deck w g c n t) where
  open event use {at, alive}

  abbrev V : World
  V = viewed_by w g.view g.boxes

  abbrev W : World
  W = viewed_by (world_then w c n (now.o event)) (now.nodes event) (now.boxes event)

  abbrev old : (s : ℕ) (z : NodeState) → slice_get w.nodes s ≡ Some z → has (now.gone event) s ≡ false
      → (k : NodeState) × (slice_get g.view s ≡ Some k) × IsLeft w.medium.removed z k
  old s z found live = g.shown s z found (was-live event s live).1

  gentle : Gentle n.tasks (after event).tasks
  unfolding desk_told
  gentle =
      gentle-then n.tasks (desk_told n VaryDone).tasks (after event).tasks (gentle-line_told n.tasks _)
      (gentle-losses (t ∷ []) (now.p event) (desk_told n VaryDone).tasks)

  pub ranked-then : AreShown deck V → AreShown deck W
  ranked-then h s k u r site home wide stands =
      each-then event
      (λ i y. is_home_at deck i u ≡ true → HasShown W i y u r)
      (λ mine.
      let z : HasShown V c.0 n u r = h c.0 n u r (at_site (in-view event) alive) mine wide before in
      record {
        rank = z.rank;
        shown =
            subst (λ (ms : List Mail). Shows r u z.rank (state_of (after event).tasks u).records ms)
            (sym (box-then event c.0))
            (left-shows (inbox_of g.boxes c.0) (state_of (after event).tasks u).records z.rank
            (shows-gentle n.tasks r u z.rank (inbox_of g.boxes c.0) (after event).tasks wide gentle z.shown));
        carried = carried z.rank z.carried;
      })
      (λ i y found live mine.
      let o = old i y found live in
      let z : HasShown V i o.0 u r =
      h i o.0 u r (at_site o.1 (was-live event i live).1) mine wide before in
      record {
        rank = z.rank;
        shown =
            subst (λ (ms : List Mail). Shows r u z.rank (state_of y.tasks u).records ms) (sym (box-then event i))
            (left-shows (inbox_of g.boxes i) (state_of y.tasks u).records z.rank
            (subst (λ (v : NodeState). Shows r u z.rank (state_of v.tasks u).records (inbox_of g.boxes i)) o.2.is
            z.shown));
        carried = carried z.rank z.carried;
      })
      s k site home
    where
      -- it stood before
      before : has_task (list_of (all_lists V) r) u ≡ true
      before =
          (left-has deck w.medium.words (now.words' event) (lists (items w.fixed)) t (near-same event) r wide u
          (ap (λ st. has_task (list_of st r) u) (sym (lists-then event)) ∙ stands)).0

      left-shows : (ms : List Mail) (xs : List _) (i : ℕ) → Shows r u i xs ms
          → Shows r u i xs (mail_without (λ v. t.0 == v) ms)
      left-shows ms xs i z = record {
        ranked = z.ranked;
        comes = λ none. comes-left (λ v. t.0 == v) u ms ∙ z.comes none;
      }

      carried : (i : ℕ) → ((m : ℕ) (y : NodeState) (q : StarPart) → IsThere g.view w.medium.removed m y
          → y.star ≡ Some q → CarriesRank r u i q.manager)
          → (m : ℕ) (y : NodeState) (q : StarPart) → IsThere (now.nodes event) (now.gone event) m y → y.star ≡ Some q
          → CarriesRank r u i q.manager
      carried i was m y q there star =
          each-then event
          (λ j v. (x : StarPart) → v.star ≡ Some x → CarriesRank r u i x.manager)
          (λ x is.
          subst (λ (z : StarPart). CarriesRank r u i z.manager)
          (same_Some (lose_parts (now.p event) (t ∷ [])) x is)
          (carries-more [] (t ∷ []) (now.p event) t (one-more event) r u i
          (was c.0 n (now.p event) (at_site (in-view event) alive) (own-left event).star)))
          (λ j v found live x is.
          let o = old j v found live in
          subst (λ (z : StarPart). CarriesRank r u i z.manager)
          (same_Some (lose_parts o.2.part (unknown (now.gone event) v)) x
          (sym (its-star event j v found live) ∙ is))
          (carries-more (unknown w.medium.removed v) (unknown (now.gone event) v) o.2.part t
          (more event j v found live) r u i
          (was j o.0 (lose_parts o.2.part (unknown w.medium.removed v))
          (at_site o.1 (was-live event j live).1) (ap (λ (z : NodeState). z.star) o.2.is))))
          m y there q star
