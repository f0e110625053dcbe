-- The manager of an entry is removed: the parts of it begin their way anew.
use Rattle.grs_world.proofs.Common.{[], ◌&&◌, ◌==◌, ◌||◌, ◌∙◌, ◌∷◌, ◌≡◌, ◌⊎◌, ap, Bool, cond, eq-eqb, false, false_by}
use Rattle.grs_world.proofs.Common.{Gathering, has, inl, inr, is_some, List, Moved, no_truth, None, not, Option}
use Rattle.grs_world.proofs.Common.{PartRec, refl, same_Some, Some, subst, sym, SysId, true, ℕ}
use Rattle.grs_world.proofs.gather.way.Entry.{Entry, IsAt, IsEntry, IsOwed, RoleStays, alike-none, as_before, at}
use Rattle.grs_world.proofs.gather.way.Entry.{is_there, none-some, one-named, taken_up, there-is}
use Rattle.grs_world.specs.OnTheWay.{OnTheWay, PartIs, Stance, awaits, awaits_by, has_none, has_to_take, kept_of}

-- what that does to system s, which gets to know of it by a notice with this item where it has interest
pub record Moves (E : Entry) (alive : ℕ → Bool) (item : ℕ → Moved) (s : ℕ) (S T : Stance) : Type 0 where
  pub role : RoleStays alive s S T
  pub owes : T.owes ≡ S.owes
  pub notice : T.notice ≡ cond (E.near s) (Some (item s)) S.notice
  pub coming : (u : ℕ) → (s == u) ≡ false → alive u ≡ true → T.coming u ≡ S.coming u

module _ (E F : Entry) (J : IsEntry E) (t : ℕ) (managed : E.manager ≡ Some (at t)) (item : ℕ → Moved)
    (gone : (u : ℕ) → F.gone u ≡ ((t == u) || E.gone u))
    (live : (s : ℕ) (T : Stance) → F.stance s ≡ Some T → F.gone s ≡ false)
    (near : (s : ℕ) (T : Stance) → F.stance s ≡ Some T → F.near s ≡ E.near s)
    (was : (s : ℕ) (T : Stance) → F.stance s ≡ Some T
    → (S : Stance) × (E.stance s ≡ Some S) × Moves E (is_there F) item s S T)
    (names : (s : ℕ) (T : Stance) → F.stance s ≡ Some T → E.near s ≡ true → F.manager ≡ Some (item s).manager)
    (masks : (s : ℕ) (T : Stance) → F.stance s ≡ Some T → E.near s ≡ true → (u : ℕ) → is_there F u ≡ true
    → has (item s).mask u ≡ F.near u)
    (next : (k : SysId) → F.manager ≡ Some k → F.near k.0 ≡ true)
    (early : (s u : ℕ) (S T : Stance) → F.stance s ≡ Some T → E.stance s ≡ Some S → S.coming u ≡ []
    → F.early s u ≡ false) where
  -- who is still there is another system
  apart : (s : ℕ) (T : Stance) → F.stance s ≡ Some T → (t == s) ≡ false
  apart s T found =
      false_by (t == s) (λ same.
      no_truth (F.gone s) (gone s ∙ ap (λ b. b || E.gone s) same) (live s T found))

  was-there : (u : ℕ) → is_there F u ≡ true → is_there E u ≡ true
  was-there u h = let T = there-is F u h in ap is_some (was u T.0 T.1).1

  module _ (s : ℕ) (S T : Stance) (found : F.stance s ≡ Some T) (at_s : E.stance s ≡ Some S)
      (k : Moves E (is_there F) item s S T) where
    j : IsAt E s S
    j = J.each s S at_s

    other : {A : Type 0} → E.manager ≡ Some (at s) → A
    other named = one-named E.manager t s managed named (apart s T found)

    nothing-kept : S.gathering ≡ None
    nothing-kept = go S.gathering refl
      where
        go : (o : Option Gathering) → S.gathering ≡ o → S.gathering ≡ None
        go None e = e
        go (Some g) e = other (j.gathers g e).0

    nothing-managed : S.manages ≡ false
    nothing-managed = false_by S.manages (λ h. other (j.manages h).0)

    -- it manages nothing then, and gathers nothing
    idle : (T.manages ≡ false) × (T.gathering ≡ None)
    idle = go k.role
      where
        go : RoleStays (is_there F) s S T → (T.manages ≡ false) × (T.gathering ≡ None)
        go (as_before same alike) =
            (same ∙ nothing-managed, alike-none (is_there F) s S.gathering T.gathering alike nothing-kept)
        go (taken_up now none g gathers nobody) = none-some S.gathering g gathers nothing-kept

    -- no part comes to it
    none-comes : (u : ℕ) → (s == u) ≡ false → is_there F u ≡ true → S.coming u ≡ []
    none-comes u ne there = go (S.coming u) refl
      where
        go : (ps : List (List PartRec)) → S.coming u ≡ ps → S.coming u ≡ []
        go [] e = e
        go (p ∷ rest) e = other (j.parts u ne (was-there u there) p rest e)

    told : E.near s ≡ true → T.notice ≡ Some (item s)
    told h = k.notice ∙ ap (λ b. cond b (Some (item s)) S.notice) h

    untold : E.near s ≡ false → T.notice ≡ S.notice
    untold h = k.notice ∙ ap (λ b. cond b (Some (item s)) S.notice) h

    -- who has no interest knows nothing of it
    far : E.near s ≡ false → (T.notice ≡ None) × (T.owes ≡ None)
    far off = (untold off ∙ no-notice S.notice refl, k.owes ∙ no-owing S.owes refl)
      where
        no-notice : (o : Option Moved) → S.notice ≡ o → S.notice ≡ None
        no-notice None e = e
        no-notice (Some x) e = no_truth (E.near s) (j.noticed x e).0 off

        no-owing : (o : Option SysId) → S.owes ≡ o → S.owes ≡ None
        no-owing None e = e
        no-owing (Some z) e = no_truth (E.near s) (j.owes z e).0 off

    noticed-then : (x : Moved) → T.notice ≡ Some x → (b : Bool) → E.near s ≡ b
        → (F.near s ≡ true) × (F.manager ≡ Some x.manager)
    noticed-then x h true e =
        let same : item s ≡ x = same_Some (item s) x (sym (told e) ∙ h) in (
          near s T found ∙ e,
          names s T found e ∙ ap (λ (z : Moved). Some z.manager) same,
        )
    noticed-then x h false e = none-some T.notice x h (far e).0

    owed-then : (z : SysId) → IsOwed E s S z → IsOwed F s T z
    owed-then z q = (near s T found ∙ q.0, q.1, inl ((item s, told q.0), go q.2))
      where
        go : (((x : Moved) × (S.notice ≡ Some x)) × (E.gone z.0 ≡ true)) ⊎ ((S.notice ≡ None) × (E.manager ≡ Some z))
            → F.gone z.0 ≡ true
        go (inl y) = gone z.0 ∙ right (t == z.0) (E.gone z.0) y.1
          where
            right : (a b : Bool) → b ≡ true → (a || b) ≡ true
            right true b h = refl
            right false b h = h
        go (inr y) =
            gone z.0
            ∙ ap (λ b. b || E.gone z.0)
            (eq-eqb t z.0 (ap (λ (v : SysId). v.0) (same_Some (at t) z (sym managed ∙ y.1))))

    at-then : IsAt F s T
    at-then = record {
      noticed = λ x h. noticed-then x h (E.near s) refl;
      manages = λ h. no_truth T.manages h idle.0;
      gathers = λ g h. none-some T.gathering g h idle.1;
      named = λ h. inr (inr (item s, told (sym (near s T found) ∙ next (at s) h)));
      owes = λ z h. owed-then z (j.owes z (sym k.owes ∙ h));
      parts = λ u ne there p rest h.
          absurd (let e : p ∷ rest ≡ [] = sym h ∙ (k.coming u ne there ∙ none-comes u ne there) in cc);
      behind = λ u ne there. early s u S T found at_s (none-comes u ne there);
    }

  module _ (m u : ℕ) (M U N V : Stance) (ne : (m == u) ≡ false) (named : F.manager ≡ Some (at m))
      (is_m : F.stance m ≡ Some N) (is_u : F.stance u ≡ Some V) (at_m : E.stance m ≡ Some M)
      (at_u : E.stance u ≡ Some U) (a : Moves E (is_there F) item m M N) (b : Moves E (is_there F) item u U V) where
    empty : N.coming u ≡ []
    empty = a.coming u ne (ap is_some is_u) ∙ none-comes m M N is_m at_m a u ne (ap is_some is_u)

    none-kept : kept_of N.gathering u ≡ []
    none-kept = ap (λ g. kept_of g u) (idle m M N is_m at_m a).1

    near_m : E.near m ≡ true
    near_m = sym (near m N is_m) ∙ next (at m) named

    -- the next manager waits for who has interest
    waits : awaits m N u ≡ E.near u
    waits =
        ap (λ q. awaits_by q N.gathering m u) (told m M N is_m at_m a near_m)
        ∙ (ap (λ d. has (item m).mask u && not d) ne
        ∙ (always (has (item m).mask u)
        ∙ (masks m N is_m near_m u (ap is_some is_u) ∙ near u V is_u)))
      where
        always : (d : Bool) → (d && true) ≡ d
        always true = refl
        always false = refl

    way-then : PartIs m u N V N.manages
    way-then = subst (PartIs m u N V) (sym (idle m M N is_m at_m a).0) (go (E.near u) refl)
      where
        go : (d : Bool) → E.near u ≡ d → OnTheWay m u N V
        go true e = has_to_take (item u) (told u U V is_u at_u b e) empty none-kept (waits ∙ e)
        go false e =
            let z = far u U V is_u at_u b e in has_none z.0 z.1 empty none-kept (waits ∙ e)

  pub entry-moved : IsEntry F
  entry-moved = record {
    live = live;
    each = λ s T found. let z = was s T found in at-then s z.0 T found z.1 z.2;
    way = λ m u N V ne named found other.
        let a = was m N found in
        let b = was u V other in
        way-then m u a.0 b.0 N V ne named found other a.1 b.1 a.2 b.2;
  }
