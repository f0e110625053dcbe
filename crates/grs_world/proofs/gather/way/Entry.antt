-- One lock entry, and what each live system is to it, whatever world that is of: what holds of their roles and of the
-- places of their parts (`IsEntry`), and that it stays so where nothing but a take-up happens to it.
use Rattle.grs_world.proofs.Common.{[], ◌==◌, ◌∙◌, ◌∷◌, ◌≡◌, ◌⊎◌, ap, Bool, eq-eqb, eqb-true, false, false_by}
use Rattle.grs_world.proofs.Common.{Gathering, has, inl, inr, is_some, List, Moved, no_truth, None, Option, PartRec}
use Rattle.grs_world.proofs.Common.{refl, same_Some, Some, subst, sym, SysId, true, true≢false, ℕ}
use Rattle.grs_world.specs.OnTheWay.{IsDone, OnTheWay, PartIs, Stance, awaits, awaits_by, has_none, has_sent}
use Rattle.grs_world.specs.OnTheWay.{has_to_take, is_kept, kept_of, owes_it}

abbrev pub at : ℕ → SysId
at s = record { 0 = s }

pub none-some : {A X : Type 0} (o : Option A) (x : A) → o ≡ Some x → o ≡ None → X
none-some o x some none = absurd (let e : Some x ≡ None = sym some ∙ none in cc)

-- ---- the part of u
pub way-same : (m u : ℕ) (M N U V : Stance) → V.notice ≡ U.notice → V.owes ≡ U.owes → N.coming u ≡ M.coming u
    → kept_of N.gathering u ≡ kept_of M.gathering u → awaits m N u ≡ awaits m M u → OnTheWay m u M U
    → OnTheWay m u N V
way-same m u M N U V notice owes coming kept waits (has_to_take x at c k w) =
    has_to_take x (notice ∙ at) (coming ∙ c) (kept ∙ k) (waits ∙ w)
way-same m u M N U V notice owes coming kept waits (owes_it n o c k w) =
    owes_it (notice ∙ n) (owes ∙ o) (coming ∙ c) (kept ∙ k) (waits ∙ w)
way-same m u M N U V notice owes coming kept waits (has_sent n o p c k w) =
    has_sent (notice ∙ n) (owes ∙ o) p (coming ∙ c) (kept ∙ k) (waits ∙ w)
way-same m u M N U V notice owes coming kept waits (is_kept n o c p k w) =
    is_kept (notice ∙ n) (owes ∙ o) (coming ∙ c) p (kept ∙ k) (waits ∙ w)
way-same m u M N U V notice owes coming kept waits (has_none n o c k w) =
    has_none (notice ∙ n) (owes ∙ o) (coming ∙ c) (kept ∙ k) (waits ∙ w)

pub part-same : (m u : ℕ) (M N U V : Stance) → V.notice ≡ U.notice → V.owes ≡ U.owes → N.coming u ≡ M.coming u
    → kept_of N.gathering u ≡ kept_of M.gathering u → awaits m N u ≡ awaits m M u → (b : Bool) → PartIs m u M U b
    → PartIs m u N V b
part-same m u M N U V notice owes coming kept waits true d =
    record { notice = notice ∙ d.notice; owes = owes ∙ d.owes; coming = coming ∙ d.coming }
part-same m u M N U V notice owes coming kept waits false o =
    way-same m u M N U V notice owes coming kept waits o

-- where it isn't awaited nothing of it is to come
pub is-done : (m u : ℕ) (M U : Stance) → awaits m M u ≡ false → OnTheWay m u M U → IsDone u M U
is-done m u M U none (has_to_take x at c k w) = no_truth (awaits m M u) w none
is-done m u M U none (owes_it n o c k w) = no_truth (awaits m M u) w none
is-done m u M U none (has_sent n o p c k w) = no_truth (awaits m M u) w none
is-done m u M U none (is_kept n o c p k w) = record { notice = n; owes = o; coming = c }
is-done m u M U none (has_none n o c k w) = record { notice = n; owes = o; coming = c }

-- ---- an entry
-- Its manager by the word, and who has interest in it; who was removed; what each live system is to it; and whether a
-- part that u sent stands, in the inbox of s, in front of a notice that names the entry.
pub record Entry : Type 0 where
  pub manager : Option SysId
  pub near : ℕ → Bool
  pub gone : ℕ → Bool
  pub stance : ℕ → Option Stance
  pub early : ℕ → ℕ → Bool

abbrev pub is_there : Entry → ℕ → Bool
is_there E s = is_some (E.stance s)

pub there-is : (E : Entry) (s : ℕ) → is_there E s ≡ true → (S : Stance) × (E.stance s ≡ Some S)
there-is E s h = go (E.stance s) refl h
  where
    go : (o : Option Stance) → E.stance s ≡ o → is_some o ≡ true → (S : Stance) × (E.stance s ≡ Some S)
    go (Some S) is k = (S, is)
    go None is k = absurd (cc)

-- it manages the entry, gathers it, or has still to take a notice of it
abbrev pub IsNamed : Stance → Type 0
IsNamed S =
    (S.manages ≡ true) ⊎ (((g : Gathering) × (S.gathering ≡ Some g)) ⊎ ((x : Moved) × (S.notice ≡ Some x)))

-- it owes its part to another one: who was removed, where a notice has still to be taken, or the manager
abbrev pub IsOwed : Entry → ℕ → Stance → SysId → Type 0
IsOwed E s S to =
    (E.near s ≡ true) × ((to.0 == s) ≡ false)
    × ((((x : Moved) × (S.notice ≡ Some x)) × (E.gone to.0 ≡ true))
    ⊎ ((S.notice ≡ None) × (E.manager ≡ Some to)))

-- What holds of one system.
pub record IsAt (E : Entry) (s : ℕ) (S : Stance) : Type 0 where
  pub noticed : (x : Moved) → S.notice ≡ Some x → (E.near s ≡ true) × (E.manager ≡ Some x.manager)
  pub manages : S.manages ≡ true → (E.manager ≡ Some (at s)) × (S.gathering ≡ None) × (S.notice ≡ None)
  pub gathers : (g : Gathering) → S.gathering ≡ Some g → (E.manager ≡ Some (at s)) × (S.notice ≡ None)
  pub named : E.manager ≡ Some (at s) → IsNamed S
  pub owes : (to : SysId) → S.owes ≡ Some to → IsOwed E s S to
  -- parts come to the manager alone, behind its notices
  pub parts : (u : ℕ) → (s == u) ≡ false → is_there E u ≡ true → (p : List PartRec) (rest : List (List PartRec))
      → S.coming u ≡ p ∷ rest → E.manager ≡ Some (at s)
  pub behind : (u : ℕ) → (s == u) ≡ false → is_there E u ≡ true → E.early s u ≡ false

-- What holds of all, and of the manager and each other one.
pub record IsEntry (E : Entry) : Type 0 where
  pub live : (s : ℕ) (S : Stance) → E.stance s ≡ Some S → E.gone s ≡ false
  pub each : (s : ℕ) (S : Stance) → E.stance s ≡ Some S → IsAt E s S
  pub way : (m u : ℕ) (M U : Stance) → (m == u) ≡ false → E.manager ≡ Some (at m) → E.stance m ≡ Some M
      → E.stance u ≡ Some U → PartIs m u M U M.manages

-- an entry has one manager
pub one-named : {X : Type 0} (o : Option SysId) (m s : ℕ) → o ≡ Some (at m) → o ≡ Some (at s) → (m == s) ≡ false → X
one-named o m s is other apart =
    absurd (let same : m ≡ s = ap (λ (z : SysId). z.0) (same_Some (at m) (at s) (sym is ∙ other)) in
    true≢false (sym (eq-eqb m s same) ∙ apart))

-- ---- where nothing of the entry is gathered, owed or under way
pub record IsBare (E : Entry) (s : ℕ) (S : Stance) : Type 0 where
  pub notice : S.notice ≡ None
  pub gathering : S.gathering ≡ None
  pub owes : S.owes ≡ None
  pub coming : (u : ℕ) → (s == u) ≡ false → is_there E u ≡ true → S.coming u ≡ []
  pub manages : S.manages ≡ true → E.manager ≡ Some (at s)
  pub named : E.manager ≡ Some (at s) → S.manages ≡ true

pub bare-entry : (E : Entry) → ((s : ℕ) (S : Stance) → E.stance s ≡ Some S → E.gone s ≡ false)
    → ((s : ℕ) (S : Stance) → E.stance s ≡ Some S → IsBare E s S)
    → ((s u : ℕ) (S : Stance) → E.stance s ≡ Some S → S.coming u ≡ [] → E.early s u ≡ false) → IsEntry E
bare-entry E live bare early = record {
  live = live;
  each = λ s S is. let k = bare s S is in record {
    noticed = λ x at. none-some S.notice x at k.notice;
    manages = λ mine. (k.manages mine, k.gathering, k.notice);
    gathers = λ g at. none-some S.gathering g at k.gathering;
    named = λ mine. inl (k.named mine);
    owes = λ to at. none-some S.owes to at k.owes;
    parts = λ u ne there p rest at. absurd (let e : p ∷ rest ≡ [] = sym at ∙ k.coming u ne there in cc);
    behind = λ u ne there. early s u S is (k.coming u ne there);
  };
  way = λ m u M U ne named is other.
      subst (PartIs m u M U) (sym ((bare m M is).named named)) (record {
        notice = (bare u U other).notice;
        owes = (bare u U other).owes;
        coming = (bare m M is).coming u ne (ap is_some other);
      });
}

empty-by : (xs : List (List PartRec)) → ((p : List PartRec) (rest : List (List PartRec)) → xs ≡ p ∷ rest → ⊥) → xs ≡ []
empty-by [] h = refl
empty-by (p ∷ rest) h = absurd (h p rest refl)

-- so it is where there is no manager
module _ (E : Entry) (J : IsEntry E) (none : E.manager ≡ None) (s : ℕ) (S : Stance) (is : E.stance s ≡ Some S) where
  nobody : {X : Type 0} (m : SysId) → E.manager ≡ Some m → X
  nobody m named = none-some E.manager m named none

  pub bare-none : IsBare E s S
  bare-none = record {
    notice = by-notice S.notice refl;
    gathering = by-gathering S.gathering refl;
    owes = by-owes S.owes refl;
    coming = λ u ne there. empty-by (S.coming u) (λ p rest at. nobody (at_s) (k.parts u ne there p rest at));
    manages = λ mine. (k.manages mine).0;
    named = λ named. nobody (at_s) named;
  }
    where
      k : IsAt E s S
      k = J.each s S is

      at_s : SysId
      at_s = record { 0 = s }

      by-notice : (o : Option Moved) → S.notice ≡ o → S.notice ≡ None
      by-notice None e = e
      by-notice (Some x) e = nobody x.manager (k.noticed x e).1

      by-gathering : (o : Option Gathering) → S.gathering ≡ o → S.gathering ≡ None
      by-gathering None e = e
      by-gathering (Some g) e = nobody at_s (k.gathers g e).0

      by-owed : (to : SysId)
          → (((x : Moved) × (S.notice ≡ Some x)) × (E.gone to.0 ≡ true)) ⊎ ((S.notice ≡ None) × (E.manager ≡ Some to))
          → S.owes ≡ None
      by-owed to (inl z) = none-some S.notice z.0.0 z.0.1 (by-notice S.notice refl)
      by-owed to (inr z) = nobody to z.1

      by-owes : (o : Option SysId) → S.owes ≡ o → S.owes ≡ None
      by-owes None e = e
      by-owes (Some to) e = by-owed to (k.owes to e).2

-- and where the manager manages it and owes nothing
module _ (E : Entry) (J : IsEntry E) (c : ℕ) (X : Stance) (named : E.manager ≡ Some (at c)) (at_c : E.stance c ≡ Some X)
    (mine : X.manages ≡ true) (free : X.owes ≡ None) (s : ℕ) (S : Stance) (is : E.stance s ≡ Some S) where
  -- what the others are to it
  done : (u : ℕ) (U : Stance) → (c == u) ≡ false → E.stance u ≡ Some U → IsDone u X U
  done u U ne other = subst (PartIs c u X U) mine (J.way c u X U ne named at_c other)

  pub bare-managed : IsBare E s S
  bare-managed = go (c == s) refl
    where
      k : IsAt E s S
      k = J.each s S is

      go : (b : Bool) → (c == s) ≡ b → IsBare E s S
      go true e =
          let place : c ≡ s = eqb-true c s e in
          let same : X ≡ S = same_Some X S (sym at_c ∙ (ap E.stance place ∙ is)) in
          let here : S.manages ≡ true = ap (λ (z : Stance). z.manages) (sym same) ∙ mine in
          let z = k.manages here in
          record {
            notice = z.2;
            gathering = z.1;
            owes = ap (λ (x : Stance). x.owes) (sym same) ∙ free;
            coming = λ u ne there.
                let U = there-is E u there in
                ap (λ (x : Stance). x.coming u) (sym same) ∙ (done u U.0 (ap (λ i. i == u) place ∙ ne) U.1).coming;
            manages = λ h. z.0;
            named = λ h. here;
          }
      go false ne = record {
        notice = (done s S ne is).notice;
        gathering = by-gathering S.gathering refl;
        owes = (done s S ne is).owes;
        coming = λ u apart there.
            empty-by (S.coming u) (λ p rest at. one-named E.manager c s named (k.parts u apart there p rest at) ne);
        manages = λ h. (k.manages h).0;
        named = λ h. one-named E.manager c s named h ne;
      }
        where
          by-gathering : (o : Option Gathering) → S.gathering ≡ o → S.gathering ≡ None
          by-gathering None e = e
          by-gathering (Some g) e = one-named E.manager c s named (k.gathers g e).0 ne

-- ---- what happens to a system by other events
-- What is gathered is so as far as these systems go, but for that one.
abbrev pub AlikeIn : (ℕ → Bool) → ℕ → Option Gathering → Option Gathering → Type 0
AlikeIn alive s None None = Unit {0}
AlikeIn alive s (Some g) (Some h) =
    (u : ℕ) → (s == u) ≡ false → alive u ≡ true
    → (has h.awaits u ≡ has g.awaits u) × (kept_of (Some h) u ≡ kept_of (Some g) u)
AlikeIn alive s None (Some h) = ⊥
AlikeIn alive s (Some g) None = ⊥

-- It is to the entry what it was, or took it up, once it awaited nobody.
pub data RoleStays (alive : ℕ → Bool) (s : ℕ) (S T : Stance) : Type 0 where
  as_before : T.manages ≡ S.manages → AlikeIn alive s S.gathering T.gathering → RoleStays alive s S T
  taken_up : T.manages ≡ true → T.gathering ≡ None → (g : Gathering) → S.gathering ≡ Some g
      → ((u : ℕ) → (s == u) ≡ false → alive u ≡ true → has g.awaits u ≡ false) → RoleStays alive s S T

pub record Stays (alive : ℕ → Bool) (s : ℕ) (S T : Stance) : Type 0 where
  pub role : RoleStays alive s S T
  pub owes : T.owes ≡ S.owes
  pub notice : T.notice ≡ S.notice
  pub coming : (u : ℕ) → (s == u) ≡ false → alive u ≡ true → T.coming u ≡ S.coming u

pub alike-none : (alive : ℕ → Bool) (s : ℕ) (o q : Option Gathering) → AlikeIn alive s o q → o ≡ None → q ≡ None
alike-none alive s None None h e = refl
alike-none alive s None (Some g) h e = absurd h
alike-none alive s (Some g) q h e = absurd (cc)

alike-some : (alive : ℕ → Bool) (s : ℕ) (o q : Option Gathering) → AlikeIn alive s o q → (x : Gathering) → q ≡ Some x
    → (y : Gathering) × (o ≡ Some y)
alike-some alive s None None h x e = absurd (cc)
alike-some alive s None (Some g) h x e = absurd h
alike-some alive s (Some g) q h x e = (g, refl)

alike-more : (alive : ℕ → Bool) (s : ℕ) (o q : Option Gathering) → AlikeIn alive s o q → (x : Gathering) → o ≡ Some x
    → (y : Gathering) × (q ≡ Some y)
alike-more alive s None q h x e = absurd (cc)
alike-more alive s (Some g) None h x e = absurd h
alike-more alive s (Some g) (Some y) h x e = (y, refl)

alike-kept : (alive : ℕ → Bool) (s : ℕ) (o q : Option Gathering) → AlikeIn alive s o q → (u : ℕ) → (s == u) ≡ false
    → alive u ≡ true → kept_of q u ≡ kept_of o u
alike-kept alive s None None h u ne there = refl
alike-kept alive s None (Some g) h u ne there = absurd h
alike-kept alive s (Some g) None h u ne there = absurd h
alike-kept alive s (Some g) (Some k) h u ne there = (h u ne there).1

alike-awaits : (alive : ℕ → Bool) (s : ℕ) (n : Option Moved) (o q : Option Gathering) → AlikeIn alive s o q → (u : ℕ)
    → (s == u) ≡ false → alive u ≡ true → awaits_by n q s u ≡ awaits_by n o s u
alike-awaits alive s (Some x) o q h u ne there = refl
alike-awaits alive s None None None h u ne there = refl
alike-awaits alive s None None (Some g) h u ne there = absurd h
alike-awaits alive s None (Some g) None h u ne there = absurd h
alike-awaits alive s None (Some g) (Some k) h u ne there = (h u ne there).0

-- Each system is as it was or took the entry up, some are removed, and interest goes only where nothing is left.
module _ (E F : Entry) (J : IsEntry E) (gone : (u : ℕ) → E.gone u ≡ true → F.gone u ≡ true)
    (manager : F.manager ≡ E.manager) (live : (s : ℕ) (T : Stance) → F.stance s ≡ Some T → F.gone s ≡ false)
    (was : (s : ℕ) (T : Stance) → F.stance s ≡ Some T
    → (S : Stance) × (E.stance s ≡ Some S) × Stays (is_there F) s S T)
    (near : (s : ℕ) (S : Stance) → is_there F s ≡ true → E.stance s ≡ Some S → E.near s ≡ true
    → (F.near s ≡ true) ⊎ ((S.notice ≡ None) × (S.owes ≡ None)))
    (early : (s u : ℕ) → is_there F s ≡ true → F.early s u ≡ true → E.early s u ≡ true) where
  was-there : (u : ℕ) → is_there F u ≡ true → is_there E u ≡ true
  was-there u h = let T = there-is F u h in ap is_some (was u T.0 T.1).1

  module _ (s : ℕ) (S T : Stance) (here : is_there F s ≡ true) (is : E.stance s ≡ Some S)
      (k : Stays (is_there F) s S T) where
    j : IsAt E s S
    j = J.each s S is

    by-near : {X : Type 0} → (F.near s ≡ true) ⊎ ((S.notice ≡ None) × (S.owes ≡ None)) → (F.near s ≡ true → X)
        → ((S.notice ≡ None) × (S.owes ≡ None) → X) → X
    by-near (inl h) one other = one h
    by-near (inr h) one other = other h

    role-manages : RoleStays (is_there F) s S T → T.manages ≡ true
        → (F.manager ≡ Some (at s)) × (T.gathering ≡ None) × (T.notice ≡ None)
    role-manages (as_before same alike) mine =
        let z = j.manages (sym same ∙ mine) in
        (manager ∙ z.0, alike-none (is_there F) s S.gathering T.gathering alike z.1, k.notice ∙ z.2)
    role-manages (taken_up now none g gathers nobody) mine =
        let z = j.gathers g gathers in (manager ∙ z.0, none, k.notice ∙ z.1)

    role-gathers : RoleStays (is_there F) s S T → (g : Gathering) → T.gathering ≡ Some g
        → (F.manager ≡ Some (at s)) × (T.notice ≡ None)
    role-gathers (as_before same alike) g at =
        let y = alike-some (is_there F) s S.gathering T.gathering alike g at in
        let z = j.gathers y.0 y.1 in (manager ∙ z.0, k.notice ∙ z.1)
    role-gathers (taken_up now none h gathers nobody) g at = none-some T.gathering g at none

    role-named : RoleStays (is_there F) s S T → IsNamed S → IsNamed T
    role-named role (inr (inr z)) = inr (inr (z.0, k.notice ∙ z.1))
    role-named (taken_up now none g gathers nobody) (inl h) = inl now
    role-named (taken_up now none g gathers nobody) (inr (inl z)) = inl now
    role-named (as_before same alike) (inl h) = inl (same ∙ h)
    role-named (as_before same alike) (inr (inl z)) =
        inr (inl (alike-more (is_there F) s S.gathering T.gathering alike z.0 z.1))

    owed-then : (to : SysId) → S.owes ≡ Some to → IsOwed E s S to → IsOwed F s T to
    owed-then to at z = (
      by-near (near s S here is z.0) (λ h. h) (λ none. none-some S.owes to at none.1),
      z.1,
      by-two z.2,
    )
      where
        by-two :
            ((((x : Moved) × (S.notice ≡ Some x)) × (E.gone to.0 ≡ true))
            ⊎ ((S.notice ≡ None) × (E.manager ≡ Some to)))
            → (((x : Moved) × (T.notice ≡ Some x)) × (F.gone to.0 ≡ true))
            ⊎ ((T.notice ≡ None) × (F.manager ≡ Some to))
        by-two (inl y) = inl ((y.0.0, k.notice ∙ y.0.1), gone to.0 y.1)
        by-two (inr y) = inr (k.notice ∙ y.0, manager ∙ y.1)

    at-then : IsAt F s T
    at-then = record {
      noticed = λ x there.
          let z = j.noticed x (sym k.notice ∙ there) in (
            by-near (near s S here is z.0) (λ h. h) (λ none. none-some S.notice x (sym k.notice ∙ there) none.0),
            manager ∙ z.1,
          );
      manages = role-manages k.role;
      gathers = role-gathers k.role;
      named = λ mine. role-named k.role (j.named (sym manager ∙ mine));
      owes = λ to there. owed-then to (sym k.owes ∙ there) (j.owes to (sym k.owes ∙ there));
      parts = λ u ne there p rest comes.
          manager ∙ j.parts u ne (was-there u there) p rest (sym (k.coming u ne there) ∙ comes);
      behind = λ u ne there.
          false_by (F.early s u) (λ h. no_truth (E.early s u) (early s u here h) (j.behind u ne (was-there u there)));
    }

  module _ (m u : ℕ) (M U N V : Stance) (ne : (m == u) ≡ false) (named : F.manager ≡ Some (at m))
      (at_m : E.stance m ≡ Some M) (at_u : E.stance u ≡ Some U) (there : is_there F u ≡ true)
      (a : Stays (is_there F) m M N) (b : Stays (is_there F) u U V) where
    w : PartIs m u M U M.manages
    w = J.way m u M U ne (sym manager ∙ named) at_m at_u

    by-role : RoleStays (is_there F) m M N → PartIs m u N V N.manages
    by-role (as_before same alike) =
        subst (PartIs m u N V) (sym same)
        (part-same m u M N U V b.notice b.owes (a.coming u ne there)
        (alike-kept (is_there F) m M.gathering N.gathering alike u ne there)
        (ap (λ o. awaits_by o N.gathering m u) a.notice
        ∙ alike-awaits (is_there F) m M.notice M.gathering N.gathering alike u ne there)
        M.manages w)
    by-role (taken_up now none g gathers nobody) =
        let j = J.each m M at_m in
        let z = j.gathers g gathers in
        let off : M.manages ≡ false =
        false_by M.manages (λ h. none-some M.gathering g gathers (j.manages h).1) in
        let o : OnTheWay m u M U = subst (PartIs m u M U) off w in
        let quiet : awaits m M u ≡ false =
        ap (λ q. awaits_by q M.gathering m u) z.1 ∙ (ap (λ q. awaits_by None q m u) gathers ∙ nobody u ne there) in
        let d = is-done m u M U quiet o in
        subst (PartIs m u N V) (sym now)
        (record { notice = b.notice ∙ d.notice; owes = b.owes ∙ d.owes; coming = a.coming u ne there ∙ d.coming })

  pub entry-stays : IsEntry F
  entry-stays = record {
    live = live;
    each = λ s T is. let z = was s T is in at-then s z.0 T (ap is_some is) z.1 z.2;
    way = λ m u N V ne named is other.
        let a = was m N is in
        let b = was u V other in
        by-role m u a.0 b.0 N V ne named a.1 b.1 (ap is_some other) a.2 b.2 a.2.role;
  }
