-- A system sends its part of an entry to the manager.
use Rattle.grs_world.proofs.Common.{[], ◌&&◌, ◌++◌, ◌==◌, ◌∙◌, ◌∷◌, ◌≡◌, ◌⊎◌, ap, append-nil, Bool, cond, eq-eqb}
use Rattle.grs_world.proofs.Common.{eqb-true, false, false_by, inl, inr, is_some, List, Moved, no_truth, None, PartRec}
use Rattle.grs_world.proofs.Common.{refl, same_Some, Some, subst, sym, SysId, true, ℕ}
use Rattle.grs_world.proofs.gather.way.Entry.{Entry, IsAt, IsEntry, IsNamed, IsOwed, at, is_there, none-some}
use Rattle.grs_world.proofs.gather.way.Entry.{part-same, there-is}
use Rattle.grs_world.specs.OnTheWay.{PartIs, Stance, awaits, awaits_by, has_none, has_sent, has_to_take, is_kept}
use Rattle.grs_world.specs.OnTheWay.{kept_of, owes_it}

-- what that does to system s, where system c sends it to another one
pub record Sends (c : ℕ) (to : SysId) (part : List PartRec) (s : ℕ) (S T : Stance) : Type 0 where
  pub manages : T.manages ≡ S.manages
  pub gathering : T.gathering ≡ S.gathering
  pub notice : T.notice ≡ S.notice
  pub owes : T.owes ≡ cond (s == c) None S.owes
  pub coming : (u : ℕ) → T.coming u ≡ S.coming u ++ cond ((to.0 == s) && (u == c)) (part ∷ []) []

module _ (E F : Entry) (J : IsEntry E) (c : ℕ) (X : Stance) (is : E.stance c ≡ Some X) (to : SysId)
    (owed : X.owes ≡ Some to) (lives : E.gone to.0 ≡ false) (part : List PartRec) (manager : F.manager ≡ E.manager)
    (near : (s : ℕ) → F.near s ≡ E.near s) (gone : (s : ℕ) → F.gone s ≡ E.gone s)
    (was : (s : ℕ) (T : Stance) → F.stance s ≡ Some T → (S : Stance) × (E.stance s ≡ Some S) × Sends c to part s S T)
    (early : (s u : ℕ) → F.early s u ≡ true → E.early s u ≡ true) where
  o : IsOwed E c X to
  o = (J.each c X is).owes to owed

  -- its notices are taken, and the other one is the manager
  settled : (X.notice ≡ None) × (E.manager ≡ Some to)
  settled = go o.2
    where
      go : (((x : Moved) × (X.notice ≡ Some x)) × (E.gone to.0 ≡ true)) ⊎ ((X.notice ≡ None) × (E.manager ≡ Some to))
          → (X.notice ≡ None) × (E.manager ≡ Some to)
      go (inl z) = no_truth (E.gone to.0) z.1 lives
      go (inr z) = z

  was-there : (u : ℕ) → is_there F u ≡ true → is_there E u ≡ true
  was-there u h = let T = there-is F u h in ap is_some (was u T.0 T.1).1

  module _ (s : ℕ) (S T : Stance) (at_s : E.stance s ≡ Some S) (k : Sends c to part s S T) where
    j : IsAt E s S
    j = J.each s S at_s

    by-owed : (z : SysId) → (b : Bool) → (s == c) ≡ b → T.owes ≡ Some z → S.owes ≡ Some z
    by-owed z true e h = none-some T.owes z h (k.owes ∙ ap (λ b. cond b None S.owes) e)
    by-owed z false e h = sym (k.owes ∙ ap (λ b. cond b None S.owes) e) ∙ h

    owed-then : (z : SysId) → IsOwed E s S z → IsOwed F s T z
    owed-then z q = (near s ∙ q.0, q.1, go q.2)
      where
        go : (((x : Moved) × (S.notice ≡ Some x)) × (E.gone z.0 ≡ true)) ⊎ ((S.notice ≡ None) × (E.manager ≡ Some z))
            → (((x : Moved) × (T.notice ≡ Some x)) × (F.gone z.0 ≡ true)) ⊎ ((T.notice ≡ None) × (F.manager ≡ Some z))
        go (inl y) = inl ((y.0.0, k.notice ∙ y.0.1), gone z.0 ∙ y.1)
        go (inr y) = inr (k.notice ∙ y.0, manager ∙ y.1)

    named-then : IsNamed S → IsNamed T
    named-then (inl h) = inl (k.manages ∙ h)
    named-then (inr (inl g)) = inr (inl (g.0, k.gathering ∙ g.1))
    named-then (inr (inr x)) = inr (inr (x.0, k.notice ∙ x.1))

    parts-then : (u : ℕ) → (s == u) ≡ false → is_there F u ≡ true → (p : List PartRec) (rest : List (List PartRec))
        → (b : Bool) → (to.0 == s) ≡ b → T.coming u ≡ p ∷ rest → F.manager ≡ Some (at s)
    parts-then u ne there p rest true e h =
        manager ∙ (settled.1 ∙ ap (λ i. Some (at i)) (eqb-true to.0 s e))
    parts-then u ne there p rest false e h =
        manager
        ∙ j.parts u ne (was-there u there) p rest
        (sym (k.coming u
        ∙ (ap (λ b. S.coming u ++ cond (b && (u == c)) (part ∷ []) []) e ∙ append-nil (S.coming u)))
        ∙ h)

    at-then : IsAt F s T
    at-then = record {
      noticed = λ x h. let z = j.noticed x (sym k.notice ∙ h) in (near s ∙ z.0, manager ∙ z.1);
      manages = λ h.
          let z = j.manages (sym k.manages ∙ h) in (manager ∙ z.0, k.gathering ∙ z.1, k.notice ∙ z.2);
      gathers = λ g h. let z = j.gathers g (sym k.gathering ∙ h) in (manager ∙ z.0, k.notice ∙ z.1);
      named = λ h. named-then (j.named (sym manager ∙ h));
      owes = λ z h. owed-then z (j.owes z (by-owed z (s == c) refl h));
      parts = λ u ne there p rest h. parts-then u ne there p rest (to.0 == s) refl h;
      behind = λ u ne there.
          false_by (F.early s u) (λ h. no_truth (E.early s u) (early s u h) (j.behind u ne (was-there u there)));
    }

  -- the part of u on its way to m
  module _ (m u : ℕ) (M U N V : Stance) (ne : (m == u) ≡ false) (named : E.manager ≡ Some (at m))
      (at_m : E.stance m ≡ Some M) (at_u : E.stance u ≡ Some U) (a : Sends c to part m M N) (b : Sends c to part u U V)
    where
      to_m : (to.0 == m) ≡ true
      to_m = eq-eqb to.0 m (ap (λ (z : SysId). z.0) (same_Some to (at m) (sym settled.1 ∙ named)))

      waits : awaits m N u ≡ awaits m M u
      waits = ap (λ z. awaits_by z N.gathering m u) a.notice ∙ ap (λ z. awaits_by M.notice z m u) a.gathering

      kept : kept_of N.gathering u ≡ kept_of M.gathering u
      kept = ap (λ z. kept_of z u) a.gathering

      w : PartIs m u M U M.manages
      w = J.way m u M U ne named at_m at_u

      comes : (d : Bool) → (u == c) ≡ d → N.coming u ≡ M.coming u ++ cond d (part ∷ []) []
      comes d e =
          a.coming u
          ∙ (ap (λ x. M.coming u ++ cond (x && (u == c)) (part ∷ []) []) to_m
          ∙ ap (λ x. M.coming u ++ cond x (part ∷ []) []) e)

      -- u sent it
      own-way : u ≡ c → (d : Bool) → M.manages ≡ d → PartIs m u M U d → N.coming u ≡ M.coming u ++ part ∷ []
          → PartIs m u N V d
      own-way place d is-d q more = by-closed d q
        where
          same : X ≡ U
          same = same_Some X U (sym is ∙ (ap E.stance (sym place) ∙ at_u))

          owing_it : U.owes ≡ Some to
          owing_it = ap (λ (z : Stance). z.owes) (sym same) ∙ owed

          none_then : V.owes ≡ None
          none_then = b.owes ∙ ap (λ x. cond x None U.owes) (eq-eqb u c place)

          by-closed : (x : Bool) → PartIs m u M U x → PartIs m u N V x
          by-closed true y = none-some U.owes to owing_it y.owes
          by-closed false (has_to_take y at n k z) =
              none-some U.notice y at (ap (λ (s : Stance). s.notice) (sym same) ∙ settled.0)
          by-closed false (owes_it n y p k z) =
              has_sent (b.notice ∙ n) none_then part
              (more ∙ ap (λ (zs : List (List PartRec)). zs ++ part ∷ []) p) (kept ∙ k) (waits ∙ z)
          by-closed false (has_sent n y p r k z) = none-some U.owes to owing_it y
          by-closed false (is_kept n y p r k z) = none-some U.owes to owing_it y
          by-closed false (has_none n y p k z) = none-some U.owes to owing_it y

      way-then : PartIs m u N V N.manages
      way-then = subst (PartIs m u N V) (sym a.manages) (go (u == c) refl)
        where
          go : (d : Bool) → (u == c) ≡ d → PartIs m u N V M.manages
          go true e = own-way (eqb-true u c e) M.manages refl w (comes true e)
          go false e =
              part-same m u M N U V b.notice (b.owes ∙ ap (λ x. cond x None U.owes) e)
              (comes false e ∙ append-nil (M.coming u)) kept waits M.manages w

  pub entry-sent : IsEntry F
  entry-sent = record {
    live = λ s T found. let z = was s T found in gone s ∙ J.live s z.0 z.1;
    each = λ s T found. let z = was s T found in at-then s z.0 T z.1 z.2;
    way = λ m u N V ne named found other.
        let a = was m N found in
        let b = was u V other in
        way-then m u a.0 b.0 N V ne (sym manager ∙ named) a.1 b.1 a.2 b.2;
  }
