-- The manager takes a part of an entry.
use Rattle.grs_world.proofs.Common.{[], ◌++◌, ◌==◌, ◌∙◌, ◌∷◌, ◌≡◌, ap, Bool, eqb-true, false, false_by, Gathering, has}
use Rattle.grs_world.proofs.Common.{inl, inr, is_some, List, no_truth, None, PartRec, refl, same_Some, Some, subst, sym}
use Rattle.grs_world.proofs.Common.{SysId, true, ℕ}
use Rattle.grs_world.proofs.gather.way.Changed.{entry-changed, still-there, with_stance}
use Rattle.grs_world.proofs.gather.way.Entry.{Entry, IsAt, IsEntry, IsNamed, IsOwed, at, is_there, none-some}
use Rattle.grs_world.proofs.gather.way.Entry.{one-named, part-same}
use Rattle.grs_world.specs.OnTheWay.{OnTheWay, PartIs, Stance, awaits, awaits_by, has_none, has_sent, has_to_take}
use Rattle.grs_world.specs.OnTheWay.{is_kept, kept_of, owes_it}

module _ (E : Entry) (J : IsEntry E) (c : ℕ) (X : Stance) (is : E.stance c ≡ Some X) (u : ℕ) (U : Stance)
    (ne : (c == u) ≡ false) (at_u : E.stance u ≡ Some U) (p : List PartRec) (rest : List (List PartRec))
    (comes : X.coming u ≡ p ∷ rest) (unnoticed : X.notice ≡ None) where
  j : IsAt E c X
  j = J.each c X is

  pub who-gathers : E.manager ≡ Some (at c)
  who-gathers = j.parts u ne (ap is_some at_u) p rest comes

  none-left : {A : Type 0} → X.coming u ≡ [] → A
  none-left none = absurd (let e : p ∷ rest ≡ [] = sym comes ∙ none in cc)

  -- it gathers the entry, and awaits the part
  pub record Expects : Type 0 where
    pub gathering : Gathering
    pub gathers : X.gathering ≡ Some gathering
    pub unmanaged : X.manages ≡ false
    pub awaits_it : has gathering.awaits u ≡ true
    pub last : rest ≡ []
    pub none_yet : kept_of (Some gathering) u ≡ []
    pub notice : U.notice ≡ None
    pub owes : U.owes ≡ None

  pub expects : Expects
  expects = go (j.named who-gathers)
    where
      w : PartIs c u X U X.manages
      w = J.way c u X U ne who-gathers is at_u

      by-way : (g : Gathering) → X.gathering ≡ Some g → X.manages ≡ false → OnTheWay c u X U → Expects
      by-way g gathers off (has_to_take y at n k a) = none-left n
      by-way g gathers off (owes_it n o q k a) = none-left q
      by-way g gathers off (is_kept n o q z k a) = none-left q
      by-way g gathers off (has_none n o q k a) = none-left q
      by-way g gathers off (has_sent n o z q k a) = record {
        gathering = g;
        gathers = gathers;
        unmanaged = off;
        awaits_it =
            sym (ap (λ y. awaits_by y X.gathering c u) unnoticed ∙ ap (λ y. awaits_by None y c u) gathers) ∙ a;
        last = let e : p ∷ rest ≡ z ∷ [] = sym comes ∙ q in cc;
        none_yet = ap (λ y. kept_of y u) (sym gathers) ∙ k;
        notice = n;
        owes = o;
      }

      go : IsNamed X → Expects
      go (inl mine) = none-left (subst (PartIs c u X U) mine w).coming
      go (inr (inl g)) =
          let off : X.manages ≡ false =
          false_by X.manages (λ h. none-some X.gathering g.0 g.1 (j.manages h).1) in
          by-way g.0 g.1 off (subst (PartIs c u X U) off w)
      go (inr (inr x)) = none-some X.notice x.0 x.1 unnoticed

  -- what the system is then
  module _ (Y : Stance) (h : Gathering) (part : List PartRec) (manages : Y.manages ≡ X.manages)
      (owes : Y.owes ≡ X.owes) (notice : Y.notice ≡ X.notice) (gathering : Y.gathering ≡ Some h)
      (coming : (v : ℕ) → (v == u) ≡ false → Y.coming v ≡ X.coming v) (left : Y.coming u ≡ rest)
      (others : (v : ℕ) → (v == u) ≡ false
      → (has h.awaits v ≡ has expects.gathering.awaits v) × (kept_of (Some h) v ≡ kept_of (Some expects.gathering) v))
      (awaited : has h.awaits u ≡ false)
      (kept : kept_of (Some h) u ≡ kept_of (Some expects.gathering) u ++ part ∷ []) where
    abbrev k : Expects
    k = expects

    to-me : (v : ℕ) (V : Stance) → (c == v) ≡ false → E.stance v ≡ Some V → OnTheWay c v Y V
    to-me v V apart at_v = go (v == u) refl
      where
        go : (b : Bool) → (v == u) ≡ b → OnTheWay c v Y V
        go true e =
            let place : v ≡ u = eqb-true v u e in
            let same : U ≡ V = same_Some U V (sym at_u ∙ (ap E.stance (sym place) ∙ at_v)) in
            subst (λ i. OnTheWay c i Y V) (sym place)
            (is_kept (ap (λ (S : Stance). S.notice) (sym same) ∙ k.notice)
            (ap (λ (S : Stance). S.owes) (sym same) ∙ k.owes) (left ∙ k.last) part
            (ap (λ g. kept_of g u) gathering
            ∙ (kept ∙ ap (λ (zs : List (List PartRec)). zs ++ part ∷ []) k.none_yet))
            (ap (λ y. awaits_by y Y.gathering c u) (notice ∙ unnoticed)
            ∙ (ap (λ y. awaits_by None y c u) gathering ∙ awaited)))
        go false e =
            part-same c v X Y V V refl refl (coming v e)
            (ap (λ g. kept_of g v) gathering ∙ ((others v e).1 ∙ ap (λ g. kept_of g v) (sym k.gathers)))
            (ap (λ y. awaits_by y Y.gathering c v) notice
            ∙ (ap (λ y. awaits_by y Y.gathering c v) unnoticed
            ∙ (ap (λ y. awaits_by None y c v) gathering
            ∙ ((others v e).0
            ∙ (ap (λ y. awaits_by None y c v) (sym k.gathers)
            ∙ sym (ap (λ y. awaits_by y X.gathering c v) unnoticed))))))
            false (subst (PartIs c v X V) k.unmanaged (J.way c v X V apart who-gathers is at_v))

    own : IsAt (with_stance E c Y) c Y
    own = record {
      noticed = λ y z. none-some Y.notice y z (notice ∙ unnoticed);
      manages = λ z. no_truth Y.manages z (manages ∙ k.unmanaged);
      gathers = λ g z. (who-gathers, notice ∙ unnoticed);
      named = λ z. inr (inl (h, gathering));
      owes = λ z at. owed (j.owes z (sym owes ∙ at));
      parts = λ v apart there q more z. who-gathers;
      behind = λ v apart there. j.behind v apart (still-there E c X Y is v there);
    }
      where
        owed : {z : SysId} → IsOwed E c X z → IsOwed (with_stance E c Y) c Y z
        owed {z} (near, apart, inl y) = none-some X.notice y.0.0 y.0.1 unnoticed
        owed {z} (near, apart, inr y) = (near, apart, inr (notice ∙ y.0, y.1))

    pub takes-part : IsEntry (with_stance E c Y)
    takes-part =
        entry-changed E J c X Y is own
        (λ v V apart named at_v.
        subst (PartIs c v Y V) (sym (manages ∙ k.unmanaged)) (to-me v V apart at_v))
        (λ m M apart named at_m. one-named E.manager m c named who-gathers apart)
