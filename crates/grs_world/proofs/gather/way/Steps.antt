-- What the loss of systems, a notice and a part do to what a system's part in star mode is to one entry.
use Rattle.grs_world.proofs.Common.{[], ◌++◌, ◌<◌, ◌==◌, ◌||◌, ◌∙◌, ◌∷◌, ◌≡◌, ◌≢◌, ◌≤◌, ap, arith, awaited, awaiting}
use Rattle.grs_world.proofs.Common.{Bool, by_test, cond, eq-eqb, eqb-false, eqb-true, false, filter, Gathering}
use Rattle.grs_world.proofs.Common.{gathering_at, has, has-without_other, has-zero, is_news, is_some, length}
use Rattle.grs_world.proofs.Common.{length-map, length-set, List, list_any, lose, lose_all, lose_each, managed_at}
use Rattle.grs_world.proofs.Common.{manages, map, members_below, most_systems, move_each, move_entry, Moved, no_truth}
use Rattle.grs_world.proofs.Common.{None, not, Option, option_map, option_map_or, or_parts, owed_to, owing, part_of}
use Rattle.grs_world.proofs.Common.{PartRec, refl, same_Some, sent_again, slice_get, slice_set, Some, Standing}
use Rattle.grs_world.proofs.Common.{standing, StarPart, subst, suc, sym, SysId, take_up, take_up_all, take_up_below}
use Rattle.grs_world.proofs.Common.{TaskId, true, unwrap_or, with_role, zero, ℕ}
use Rattle.std.proofs.lemmas.List.{get_or-set_other, get_or-set_same}
use Rattle.std.proofs.lemmas.Option.{unwrap_or-slice_get}
use Rattle.contention_mgr.specs.Loses.{lost}
use Rattle.contention_mgr.specs.Installs.{installed}
use Rattle.grs_node.specs.Removal.{installing}
use Rattle.system_purge.specs.Gather.{gathered}
use Rattle.system_purge.specs.Gathers.{parts_in, is_complete, without_entry, without_sender, with_part, with_part_at}
use Rattle.system_purge.specs.declared.gathers.SentPart.{SentPart}
use Rattle.grs_world.proofs.gather.way.Entry.{alike-none, AlikeIn, as_before, RoleStays, taken_up}
use Rattle.grs_world.specs.OnTheWay.{Stance, stance_of}

-- ---- options in a list
module _ {X : Type 0} (os : List (Option X)) where
  pub set-same : (i : ℕ) (o : Option X) → i < length os → unwrap_or (slice_get (slice_set os i o) i) None ≡ o
  set-same i o inside =
      unwrap_or-slice_get (slice_set os i o) i None ∙ get_or-set_same os i o None inside

  pub set-other : (i j : ℕ) (o : Option X) → j ≢ i
      → unwrap_or (slice_get (slice_set os i o) j) None ≡ unwrap_or (slice_get os j) None
  set-other i j o ne =
      unwrap_or-slice_get (slice_set os i o) j None
      ∙ (get_or-set_other os i j o None ne ∙ sym (unwrap_or-slice_get os j None))

-- none is there, whether the place is
pub set-none : {X : Type 0} (os : List (Option X)) (i : ℕ) → unwrap_or (slice_get (slice_set os i None) i) None ≡ None
set-none [] i = refl
set-none (o ∷ os) zero = refl
set-none (o ∷ os) (suc i) = set-none os i

at-map : {X : Type 0} (f : X → X) (os : List (Option X)) (i : ℕ)
    → unwrap_or (slice_get (map (option_map f) os) i) None ≡ option_map f (unwrap_or (slice_get os i) None)
at-map f [] i = refl
at-map f (o ∷ os) zero = refl
at-map f (o ∷ os) (suc i) = at-map f os i

pub there-within : {X : Type 0} (os : List (Option X)) (i : ℕ) (x : X) → unwrap_or (slice_get os i) None ≡ Some x
    → i < length os
there-within [] i x h = absurd (cc)
there-within (o ∷ os) zero x h = omega arith
there-within (o ∷ os) (suc i) x h = let more = there-within os i x h in omega (arith, more)

some-map : {X : Type 0} (f : X → X) (o : Option X) → is_some (option_map f o) ≡ is_some o
some-map f None = refl
some-map f (Some x) = refl

-- ---- roles go on
alike-then : (alive : ℕ → Bool) (s : ℕ) (a b c : Option Gathering) → AlikeIn alive s a b → AlikeIn alive s b c
    → AlikeIn alive s a c
alike-then alive s None None c h k = k
alike-then alive s None (Some y) c h k = absurd h
alike-then alive s (Some x) None c h k = absurd h
alike-then alive s (Some x) (Some y) None h k = absurd k
alike-then alive s (Some x) (Some y) (Some z) h k =
    λ u ne there. ((k u ne there).0 ∙ (h u ne there).0, (k u ne there).1 ∙ (h u ne there).1)

pub alike-same : (alive : ℕ → Bool) (s : ℕ) (a : Option Gathering) → AlikeIn alive s a a
alike-same alive s None = tt
alike-same alive s (Some x) = λ u ne there. (refl, refl)

alike-awaited : (alive : ℕ → Bool) (s : ℕ) (a : Option Gathering) (y : Gathering) → AlikeIn alive s a (Some y)
    → ((u : ℕ) → (s == u) ≡ false → alive u ≡ true → has y.awaits u ≡ false)
    → (x : Gathering) × (a ≡ Some x)
    × ((u : ℕ) → (s == u) ≡ false → alive u ≡ true → has x.awaits u ≡ false)
alike-awaited alive s None y h off = absurd h
alike-awaited alive s (Some x) y h off =
    (x, refl, λ u ne there. sym (h u ne there).0 ∙ off u ne there)

pub role-then : (alive : ℕ → Bool) (s : ℕ) (R S T : Stance) → RoleStays alive s R S → RoleStays alive s S T
    → RoleStays alive s R T
role-then alive s R S T (as_before same alike) (as_before now more) =
    as_before (now ∙ same) (alike-then alive s R.gathering S.gathering T.gathering alike more)
role-then alive s R S T (as_before same alike) (taken_up mine none g gathers off) =
    let z = alike-awaited alive s R.gathering g (subst (AlikeIn alive s R.gathering) gathers alike) off in
    taken_up mine none z.0 z.1 z.2
role-then alive s R S T (taken_up mine none g gathers off) (as_before now more) =
    taken_up (now ∙ mine) (alike-none alive s S.gathering T.gathering more none) g gathers off
role-then alive s R S T (taken_up mine none g gathers off) (taken_up now less h k more) =
    absurd (let e : Some h ≡ None = sym k ∙ none in cc)

-- ---- one entry
module _ (alive : ℕ → Bool) (s e : ℕ) where
  abbrev pub to_entry : StarPart → Stance
  to_entry p = stance_of e p []

  -- its role stays, and so does what it owes, and of how many entries it keeps something
  pub record Keeps (entries : ℕ) (p q : StarPart) : Type 0 where
    pub role : RoleStays alive s (stance_of e p []) (stance_of e q [])
    pub owes : owed_to q e ≡ owed_to p e
    pub count : length q.manager.entries ≡ entries

  pub keeps-same : (p : StarPart) → Keeps (length p.manager.entries) p p
  keeps-same p = record {
    role = as_before refl (alike-same alive s (gathering_at p.gathers e));
    owes = refl;
    count = refl;
  }

  keeps-then : (entries : ℕ) (p q r : StarPart) → Keeps entries p q
      → RoleStays alive s (stance_of e q []) (stance_of e r []) → owed_to r e ≡ owed_to q e
      → length r.manager.entries ≡ length q.manager.entries → Keeps entries p r
  keeps-then entries p q r h role owes count = record {
    role = role-then alive s (stance_of e p []) (stance_of e q []) (stance_of e r []) h.role role;
    owes = owes ∙ h.owes;
    count = count ∙ h.count;
  }

  -- an entry is taken up of which nobody is awaited
  module _ (names : List TaskId) (x : Standing) (f : ℕ) (inside : f < length x.part.manager.entries)
      (whole : is_complete x.part.gathers f ≡ true) where
    abbrev up : StarPart
    up = (take_up names x f).part

    nobody : (o : Option Gathering) → option_map_or (λ g. g.awaits == 0) o false ≡ true
        → (g : Gathering) × (o ≡ Some g) × ((u : ℕ) → has g.awaits u ≡ false)
    nobody None h = absurd (cc)
    nobody (Some g) h = (g, refl, λ u. ap (λ i. has i u) (eqb-true g.awaits 0 h) ∙ has-zero u)

    up-role : RoleStays alive s (stance_of e x.part []) (stance_of e (take_up names x f).part [])
    up-role = go (e == f) refl
      where
        go : (b : Bool) → (e == f) ≡ b
            → RoleStays alive s (stance_of e x.part []) (stance_of e (take_up names x f).part [])
        go true same =
            let place : e ≡ f = eqb-true e f same in
            let g = nobody (gathering_at x.part.gathers f) whole in
            taken_up
            (ap (λ i. is_some (managed_at (installing names x f) i)) place
            ∙ ap is_some
            (set-same x.part.manager.entries f
            (Some
            (installed x.part.manager.system.0
            (gathered (part_of (length x.part.manager.entries) f names x.tasks)
            (parts_in (gathering_at x.part.gathers f)))))
            inside))
            (ap (gathering_at (without_entry x.part.gathers f)) place ∙ set-none x.part.gathers f)
            g.0 (ap (gathering_at x.part.gathers) place ∙ g.1) (λ u ne there. g.2 u)
        go false apart =
            let ne : e ≢ f = eqb-false e f apart in
            as_before (ap is_some (set-other x.part.manager.entries f e _ ne))
            (subst (AlikeIn alive s (gathering_at x.part.gathers e))
            (sym (set-other x.part.gathers f e None ne)) (alike-same alive s (gathering_at x.part.gathers e)))

  module _ (entries : ℕ) (p : StarPart) where
    each-up : (names : List TaskId) (x : Standing) (k : ℕ) → k ≤ entries → Keeps entries p x.part
        → Keeps entries p (take_up_below names x k).part
    unfolding take_up_below
    each-up names x zero few h = h
    each-up names x (suc f) few h =
        let less = each-up names x f (omega (arith, few)) h in
        by_test (λ (z : Standing). Keeps entries p z.part) (is_complete (take_up_below names x f).part.gathers f)
        (take_up names (take_up_below names x f) f) (take_up_below names x f)
        (λ whole.
        keeps-then entries p (take_up_below names x f).part (take_up names (take_up_below names x f) f).part less
        (up-role names (take_up_below names x f) f (omega (arith, few, less.count)) whole) refl
        (length-set (take_up_below names x f).part.manager.entries f _))
        (λ part. less)

    pub all-up : (names : List TaskId) (x : Standing) → Keeps entries p x.part
        → Keeps entries p (take_up_all names x).part
    all-up names x h =
        each-up names x (length x.part.manager.entries) (let same = h.count in omega (arith, same)) h

  -- a system is lost that isn't one of these
  module _ (x : Standing) (t : SysId) (off : (u : ℕ) → alive u ≡ true → (t.0 == u) ≡ false) where
    parts-left : (u : ℕ) → (t.0 == u) ≡ false → (qs : List SentPart)
        → filter (λ q. q.from.0 == u) (filter (λ q. not (q.from.0 == t.0)) qs) ≡ filter (λ q. q.from.0 == u) qs
    parts-left u apart [] = refl
    parts-left u apart (q ∷ qs) = go (q.from.0 == t.0) refl (parts-left u apart qs)
      where
        go : (b : Bool) → (q.from.0 == t.0) ≡ b
            → filter (λ z. z.from.0 == u) (filter (λ z. not (z.from.0 == t.0)) qs) ≡ filter (λ z. z.from.0 == u) qs →
            filter (λ z. z.from.0 == u)
            (cond (not b) (q ∷ filter (λ z. not (z.from.0 == t.0)) qs) (filter (λ z. not (z.from.0 == t.0)) qs))
            ≡ cond (q.from.0 == u) (q ∷ filter (λ z. z.from.0 == u) qs) (filter (λ z. z.from.0 == u) qs)
        go true is more =
            let other : (q.from.0 == u) ≡ false = ap (λ i. i == u) (eqb-true q.from.0 t.0 is) ∙ apart in
            more ∙ sym (ap (λ b. cond b (q ∷ filter (λ z. z.from.0 == u) qs) (filter (λ z. z.from.0 == u) qs)) other)
        go false is more = ap (λ (zs : List SentPart). cond (q.from.0 == u) (q ∷ zs) zs) more

    lost-alike : (o : Option Gathering) → AlikeIn alive s o (option_map (without_sender t) o)
    lost-alike None = tt
    lost-alike (Some g) = λ u ne there. (
      has-without_other g.awaits t.0 u
          (λ same. no_truth (t.0 == u) (eq-eqb t.0 u (sym same)) (off u there)),
      ap (λ (qs : List SentPart). map (λ q. q.records) qs) (parts-left u (off u there) g.parts),
    )

    lost-role : RoleStays alive s (stance_of e x.part []) (stance_of e (lose x t).part [])
    lost-role =
        as_before
        (ap is_some (at-map (lost x.part.manager.system.0 t.0) x.part.manager.entries e)
        ∙ some-map (lost x.part.manager.system.0 t.0) (managed_at x.part.manager e))
        (subst (AlikeIn alive s (gathering_at x.part.gathers e)) (sym (at-map (without_sender t) x.part.gathers e))
        (lost-alike (gathering_at x.part.gathers e)))

  abbrev pub AllOff : List SysId → Type 0
  AllOff [] = Unit {0}
  AllOff (t ∷ ts) = ((u : ℕ) → alive u ≡ true → (t.0 == u) ≡ false) × AllOff ts

  off-more : (ts us : List SysId) → AllOff ts → AllOff us → AllOff (ts ++ us)
  off-more [] us h k = k
  off-more (t ∷ ts) us h k = (h.0, off-more ts us h.1 k)

  -- the systems of a set, of which none is one of these
  pub members-off : (set : ℕ)
      → ((t : ℕ) → t < most_systems → has set t ≡ true → (u : ℕ) → alive u ≡ true → (t == u) ≡ false) → (k : ℕ)
      → k ≤ most_systems → AllOff (members_below set k)
  unfolding members_below
  members-off set off zero few = tt
  members-off set off (suc k) few =
      off-more (members_below set k) (cond (has set k) (record { 0 = k } ∷ []) [])
      (members-off set off k (omega (arith, few))) (one (has set k) refl)
    where
      one : (b : Bool) → has set k ≡ b → AllOff (cond b (record { 0 = k } ∷ []) [])
      one true is = (off k (omega (arith, few)) is, tt)
      one false is = tt

  module _ (entries : ℕ) (p : StarPart) where
    each-lost : (ts : List SysId) (x : Standing) → AllOff ts → Keeps entries p x.part
        → Keeps entries p (lose_each x ts).part
    unfolding lose_each
    each-lost [] x off h = h
    each-lost (t ∷ ts) x off h =
        each-lost ts (lose x t) off.1
        (keeps-then entries p x.part (lose x t).part h (lost-role x t off.0) refl
        (length-map x.part.manager.entries (option_map (lost x.part.manager.system.0 t.0))))

    pub all-lost : (names : List TaskId) (x : Standing) (ts : List SysId) → AllOff ts → Keeps entries p x.part
        → Keeps entries p (lose_all names x ts).part
    all-lost names x ts off h = all-up entries p names (lose_each x ts) (each-lost ts x off h)

-- ---- the items of a notice
-- what holds of each that names the entry
abbrev pub EachNamed : ℕ → (Moved → Type 0) → List Moved → Type 0
EachNamed e Q [] = Unit {0}
EachNamed e Q (m ∷ ms) = ((m.entry == e) ≡ true → Q m) × EachNamed e Q ms

module _ (known e : ℕ) where
  -- What a system is to the entry where it neither manages nor gathers it, and has this to owe.
  pub record IsOut (c : ℕ) (o : Option SysId) (x : Standing) : Type 0 where
    pub system : x.part.manager.system.0 ≡ c
    pub manages_none : manages x.part e ≡ false
    pub gathers_none : gathering_at x.part.gathers e ≡ None
    pub owes : owed_to x.part e ≡ o
    pub count : e < length x.part.owes

  pub record HasBegun (c : ℕ) (g : Gathering) (x : Standing) : Type 0 where
    pub system : x.part.manager.system.0 ≡ c
    pub manages_none : manages x.part e ≡ false
    pub gathers_it : gathering_at x.part.gathers e ≡ Some g
    pub owes : owed_to x.part e ≡ None

  news-out : (c : ℕ) (o : Option SysId) (x : Standing) → IsOut c o x → is_news x.part e ≡ true
  news-out c o x h =
      ap (λ b. not (b || is_some (gathering_at x.part.gathers e))) h.manages_none
      ∙ ap (λ (g : Option Gathering). not (false || is_some g)) h.gathers_none

  -- an item of another entry
  other-out : (c : ℕ) (o : Option SysId) (x : Standing) (m : Moved) → (m.entry == e) ≡ false → IsOut c o x
      → IsOut c o (move_entry known x m)
  other-out c o x m apart h =
      by_test (λ (y : Standing). IsOut c o y) (is_news x.part m.entry)
      (standing (sent_again x.part m.entry x.tasks) (with_role known x.part m)) x
      (λ news.
      by_test (λ (r : StarPart). IsOut c o (standing (sent_again x.part m.entry x.tasks) r))
      (m.manager.0 == x.part.manager.system.0)
      (record x.part {
        gathers = awaiting x.part.gathers m.entry (awaited known x.part.manager.system.0 m.mask);
        owes = owing x.part.owes m.entry None;
      })
      (record x.part { owes = owing x.part.owes m.entry (Some m.manager) })
      (λ own. record {
        system = h.system;
        manages_none = h.manages_none;
        gathers_none =
            set-other x.part.gathers m.entry e
            (Some (record { awaits = awaited known x.part.manager.system.0 m.mask; parts = [] })) ne
            ∙ h.gathers_none;
        owes = set-other x.part.owes m.entry e None ne ∙ h.owes;
        count = subst (λ k. e < k) (sym (length-set x.part.owes m.entry None)) h.count;
      })
      (λ other. record {
        system = h.system;
        manages_none = h.manages_none;
        gathers_none = h.gathers_none;
        owes = set-other x.part.owes m.entry e (Some m.manager) ne ∙ h.owes;
        count = subst (λ k. e < k) (sym (length-set x.part.owes m.entry (Some m.manager))) h.count;
      }))
      (λ old. h)
    where
      ne : e ≢ m.entry
      ne same = no_truth (m.entry == e) (eq-eqb m.entry e (sym same)) apart

  other-begun : (c : ℕ) (g : Gathering) (x : Standing) (m : Moved) → (m.entry == e) ≡ false → HasBegun c g x
      → HasBegun c g (move_entry known x m)
  other-begun c g x m apart h =
      by_test (λ (y : Standing). HasBegun c g y) (is_news x.part m.entry)
      (standing (sent_again x.part m.entry x.tasks) (with_role known x.part m)) x
      (λ news.
      by_test (λ (r : StarPart). HasBegun c g (standing (sent_again x.part m.entry x.tasks) r))
      (m.manager.0 == x.part.manager.system.0)
      (record x.part {
        gathers = awaiting x.part.gathers m.entry (awaited known x.part.manager.system.0 m.mask);
        owes = owing x.part.owes m.entry None;
      })
      (record x.part { owes = owing x.part.owes m.entry (Some m.manager) })
      (λ own. record {
        system = h.system;
        manages_none = h.manages_none;
        gathers_it =
            set-other x.part.gathers m.entry e
            (Some (record { awaits = awaited known x.part.manager.system.0 m.mask; parts = [] })) ne
            ∙ h.gathers_it;
        owes = set-other x.part.owes m.entry e None ne ∙ h.owes;
      })
      (λ other. record {
        system = h.system;
        manages_none = h.manages_none;
        gathers_it = h.gathers_it;
        owes = set-other x.part.owes m.entry e (Some m.manager) ne ∙ h.owes;
      }))
      (λ old. h)
    where
      ne : e ≢ m.entry
      ne same = no_truth (m.entry == e) (eq-eqb m.entry e (sym same)) apart

  -- an item of the entry: it isn't news to who gathers it
  same-begun : (c : ℕ) (g : Gathering) (x : Standing) (m : Moved) → (m.entry == e) ≡ true → HasBegun c g x
      → HasBegun c g (move_entry known x m)
  same-begun c g x m same h =
      subst (λ b. HasBegun c g (cond b (standing (sent_again x.part m.entry x.tasks) (with_role known x.part m)) x))
      (sym old) h
    where
      old : is_news x.part m.entry ≡ false
      old =
          ap (is_news x.part) (eqb-true m.entry e same)
          ∙ (ap (λ b. not (b || is_some (gathering_at x.part.gathers e))) h.manages_none
          ∙ ap (λ (o : Option Gathering). not (false || is_some o)) h.gathers_it)

  -- another system is to gather it
  same-out : (c : ℕ) (o : Option SysId) (x : Standing) (m : Moved) → (m.entry == e) ≡ true
      → (m.manager.0 == c) ≡ false → IsOut c o x → IsOut c (Some m.manager) (move_entry known x m)
  same-out c o x m same apart h =
      subst
      (λ b. IsOut c (Some m.manager)
      (cond b (standing (sent_again x.part m.entry x.tasks) (with_role known x.part m)) x))
      (sym (ap (is_news x.part) place ∙ news-out c o x h))
      (subst
      (λ b.
      IsOut c (Some m.manager)
      (standing (sent_again x.part m.entry x.tasks)
      (cond b
      (record x.part {
        gathers = awaiting x.part.gathers m.entry (awaited known x.part.manager.system.0 m.mask);
        owes = owing x.part.owes m.entry None;
      })
      (record x.part { owes = owing x.part.owes m.entry (Some m.manager) }))))
      (sym (ap (λ i. m.manager.0 == i) h.system ∙ apart))
      (record {
        system = h.system;
        manages_none = h.manages_none;
        gathers_none = h.gathers_none;
        owes =
            ap (λ i. unwrap_or (slice_get (owing x.part.owes m.entry (Some m.manager)) i) None) (sym place)
            ∙ set-same x.part.owes m.entry (Some m.manager) (subst (λ i. i < length x.part.owes) (sym place) h.count);
        count = subst (λ k. e < k) (sym (length-set x.part.owes m.entry (Some m.manager))) h.count;
      }))
    where
      place : m.entry ≡ e
      place = eqb-true m.entry e same

  -- it gathers it itself
  same-new : (c : ℕ) (o : Option SysId) (x : Standing) (m : Moved) → (m.entry == e) ≡ true
      → (m.manager.0 == c) ≡ true → e < length x.part.gathers → IsOut c o x →
      HasBegun c (record { awaits = awaited known c m.mask; parts = [] }) (move_entry known x m)
  same-new c o x m same own inside h =
      subst
      (λ b. HasBegun c (record { awaits = awaited known c m.mask; parts = [] })
      (cond b (standing (sent_again x.part m.entry x.tasks) (with_role known x.part m)) x))
      (sym (ap (is_news x.part) place ∙ news-out c o x h))
      (subst
      (λ b.
      HasBegun c (record { awaits = awaited known c m.mask; parts = [] })
      (standing (sent_again x.part m.entry x.tasks)
      (cond b
      (record x.part {
        gathers = awaiting x.part.gathers m.entry (awaited known x.part.manager.system.0 m.mask);
        owes = owing x.part.owes m.entry None;
      })
      (record x.part { owes = owing x.part.owes m.entry (Some m.manager) }))))
      (sym (ap (λ i. m.manager.0 == i) h.system ∙ own))
      (record {
        system = h.system;
        manages_none = h.manages_none;
        gathers_it =
            ap (gathering_at (awaiting x.part.gathers m.entry (awaited known x.part.manager.system.0 m.mask)))
            (sym place)
            ∙ (set-same x.part.gathers m.entry
            (Some (record { awaits = awaited known x.part.manager.system.0 m.mask; parts = [] }))
            (subst (λ i. i < length x.part.gathers) (sym place) inside)
            ∙ ap (λ i. Some (record { awaits = awaited known i m.mask; parts = [] })) h.system);
        owes =
            ap (λ i. unwrap_or (slice_get (owing x.part.owes m.entry None) i) None) (sym place)
            ∙ set-none x.part.owes m.entry;
      }))
    where
      place : m.entry ≡ e
      place = eqb-true m.entry e same

  -- so all items
  still-begun : (c : ℕ) (g : Gathering) (ms : List Moved) (x : Standing) → HasBegun c g x
      → HasBegun c g (move_each known x ms)
  unfolding move_each
  still-begun c g [] x h = h
  still-begun c g (m ∷ ms) x h = still-begun c g ms (move_entry known x m) (go (m.entry == e) refl)
    where
      go : (b : Bool) → (m.entry == e) ≡ b → HasBegun c g (move_entry known x m)
      go true is = same-begun c g x m is h
      go false is = other-begun c g x m is h

  module _ (Q : Moved → Type 0) (c : ℕ) (far : (m : Moved) → Q m → (m.manager.0 == c) ≡ false) where
    -- it owes its part to one that such an item names
    abbrev pub OwesSuch : Standing → Type 0
    OwesSuch x = (m : Moved) × Q m × IsOut c (Some m.manager) x

    still-owes : (ms : List Moved) → EachNamed e Q ms → (x : Standing) → OwesSuch x → OwesSuch (move_each known x ms)
    unfolding move_each
    still-owes [] each x h = h
    still-owes (m ∷ ms) each x h = still-owes ms each.1 (move_entry known x m) (go (m.entry == e) refl)
      where
        go : (b : Bool) → (m.entry == e) ≡ b → OwesSuch (move_entry known x m)
        go true is = (m, each.0 is, same-out c (Some (h.0).manager) x m is (far m (each.0 is)) h.2)
        go false is = (h.0, h.1, other-out c (Some (h.0).manager) x m is h.2)

    pub owes-then : (ms : List Moved) → EachNamed e Q ms → list_any (λ m. m.entry == e) ms ≡ true
        → (o : Option SysId) (x : Standing) → IsOut c o x → OwesSuch (move_each known x ms)
    unfolding move_each
    owes-then [] each there o x h = absurd (cc)
    owes-then (m ∷ ms) each there o x h =
        go (m.entry == e) refl there (λ k y z. owes-then ms each.1 k o y z)
      where
        go : (b : Bool) → (m.entry == e) ≡ b → (b || list_any (λ z. z.entry == e) ms) ≡ true
            → (list_any (λ z. z.entry == e) ms ≡ true → (y : Standing) → IsOut c o y → OwesSuch (move_each known y ms))
            → OwesSuch (move_each known (move_entry known x m) ms)
        go true is k more =
            still-owes ms each.1 (move_entry known x m)
            (m, each.0 is, same-out c o x m is (far m (each.0 is)) h)
        go false is k more = more k (move_entry known x m) (other-out c o x m is h)

  pub begins-then : (c : ℕ) (ms : List Moved) → EachNamed e (λ m. (m.manager.0 == c) ≡ true) ms → (first : Moved)
      → slice_get (filter (λ m. m.entry == e) ms) 0 ≡ Some first → (entries : ℕ) → e < entries
      → (o : Option SysId) (x : Standing) → length x.part.gathers ≡ entries → IsOut c o x →
      HasBegun c (record { awaits = awaited known c first.mask; parts = [] }) (move_each known x ms)
  unfolding move_each
  begins-then c [] each first is entries inside o x count h = absurd (cc)
  begins-then c (m ∷ ms) each first is entries inside o x count h =
      go (m.entry == e) refl is (λ k y z i. begins-then c ms each.1 first k entries inside o y z i)
    where
      kept-count : length (move_entry known x m).part.gathers ≡ entries
      kept-count =
          by_test (λ (y : Standing). length y.part.gathers ≡ entries) (is_news x.part m.entry)
          (standing (sent_again x.part m.entry x.tasks) (with_role known x.part m)) x
          (λ news.
          by_test (λ (r : StarPart). length r.gathers ≡ entries) (m.manager.0 == x.part.manager.system.0)
          (record x.part {
            gathers = awaiting x.part.gathers m.entry (awaited known x.part.manager.system.0 m.mask);
            owes = owing x.part.owes m.entry None;
          })
          (record x.part { owes = owing x.part.owes m.entry (Some m.manager) })
          (λ own.
          length-set x.part.gathers m.entry
          (Some (record { awaits = awaited known x.part.manager.system.0 m.mask; parts = [] }))
          ∙ count)
          (λ other. count))
          (λ old. count)

      go : (b : Bool) → (m.entry == e) ≡ b
          → slice_get (cond b (m ∷ filter (λ z. z.entry == e) ms) (filter (λ z. z.entry == e) ms)) 0 ≡ Some first
          → (slice_get (filter (λ z. z.entry == e) ms) 0 ≡ Some first → (y : Standing)
          → length y.part.gathers ≡ entries → IsOut c o y →
          HasBegun c (record { awaits = awaited known c first.mask; parts = [] }) (move_each known y ms))
          → HasBegun c (record { awaits = awaited known c first.mask; parts = [] })
          (move_each known (move_entry known x m) ms)
      go true there k more =
          subst
          (λ (z : Moved).
          HasBegun c (record { awaits = awaited known c z.mask; parts = [] })
          (move_each known (move_entry known x m) ms))
          (same_Some m first k)
          (still-begun c (record { awaits = awaited known c m.mask; parts = [] }) ms (move_entry known x m)
          (same-new c o x m there (each.0 there) (subst (λ k. e < k) (sym count) inside) h))
      go false away k more = more k (move_entry known x m) kept-count (other-out c o x m away h)

-- none of which names the entry
module _ (known e : ℕ) where
  abbrev pub SameAt : Standing → Standing → Type 0
  SameAt x y =
      (manages y.part e ≡ manages x.part e) × (gathering_at y.part.gathers e ≡ gathering_at x.part.gathers e)
      × (owed_to y.part e ≡ owed_to x.part e)

  other-same : (x : Standing) (m : Moved) → (m.entry == e) ≡ false → SameAt x (move_entry known x m)
  other-same x m apart =
      by_test (λ (y : Standing). SameAt x y) (is_news x.part m.entry)
      (standing (sent_again x.part m.entry x.tasks) (with_role known x.part m)) x
      (λ news.
      by_test (λ (r : StarPart). SameAt x (standing (sent_again x.part m.entry x.tasks) r))
      (m.manager.0 == x.part.manager.system.0)
      (record x.part {
        gathers = awaiting x.part.gathers m.entry (awaited known x.part.manager.system.0 m.mask);
        owes = owing x.part.owes m.entry None;
      })
      (record x.part { owes = owing x.part.owes m.entry (Some m.manager) })
      (λ own. (
        refl,
        set-other x.part.gathers m.entry e
            (Some (record { awaits = awaited known x.part.manager.system.0 m.mask; parts = [] })) ne,
        set-other x.part.owes m.entry e None ne,
      ))
      (λ other. (refl, refl, set-other x.part.owes m.entry e (Some m.manager) ne)))
      (λ old. (refl, refl, refl))
    where
      ne : e ≢ m.entry
      ne same = no_truth (m.entry == e) (eq-eqb m.entry e (sym same)) apart

  pub moved-other : (ms : List Moved) → list_any (λ m. m.entry == e) ms ≡ false → (x : Standing)
      → SameAt x (move_each known x ms)
  unfolding move_each
  moved-other [] away x = (refl, refl, refl)
  moved-other (m ∷ ms) away x =
      let both = or_parts (m.entry == e) (list_any (λ z. z.entry == e) ms) away in
      let a = other-same x m both.0 in
      let b = moved-other ms both.1 (move_entry known x m) in
      (b.0 ∙ a.0, b.1 ∙ a.1, b.2 ∙ a.2)

-- ---- a part that came
module _ (gs : List (Option Gathering)) (e f : ℕ) (from : SysId) (recs : List PartRec) where
  pub came-other : e ≢ f → gathering_at (with_part_at gs f from recs) e ≡ gathering_at gs e
  came-other ne = go (gathering_at gs f)
    where
      go : (o : Option Gathering) →
          gathering_at (option_map_or (λ g. slice_set gs f (Some (with_part (length gs) f from recs g))) o gs) e
          ≡ gathering_at gs e
      go None = refl
      go (Some g) = set-other gs f e (Some (with_part (length gs) f from recs g)) ne

pub came-here : (gs : List (Option Gathering)) (e : ℕ) (from : SysId) (recs : List PartRec) (g : Gathering)
    → gathering_at gs e ≡ Some g
    → gathering_at (with_part_at gs e from recs) e ≡ Some (with_part (length gs) e from recs g)
came-here gs e from recs g is =
    ap
    (λ (o : Option Gathering).
    gathering_at (option_map_or (λ z. slice_set gs e (Some (with_part (length gs) e from recs z))) o gs) e)
    is
    ∙ set-same gs e (Some (with_part (length gs) e from recs g)) (there-within gs e g is)

pub came-none : (gs : List (Option Gathering)) (e : ℕ) (from : SysId) (recs : List PartRec)
    → gathering_at gs e ≡ None → gathering_at (with_part_at gs e from recs) e ≡ None
came-none gs e from recs is =
    ap
    (λ (o : Option Gathering).
    gathering_at (option_map_or (λ z. slice_set gs e (Some (with_part (length gs) e from recs z))) o gs) e)
    is
    ∙ is
