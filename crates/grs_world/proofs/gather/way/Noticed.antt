-- A system takes a notice that names an entry.
use Rattle.grs_world.proofs.Common.{[], ◌&&◌, ◌==◌, ◌∙◌, ◌≡◌, ap, Bool, false, false_by, Gathering, has, inl, inr}
use Rattle.grs_world.proofs.Common.{is_some, Moved, no_truth, None, not, Option, refl, same_Some, Some, subst, sym}
use Rattle.grs_world.proofs.Common.{SysId, true, ℕ}
use Rattle.grs_world.proofs.gather.way.Changed.{entry-changed, still-there, with_stance}
use Rattle.grs_world.proofs.gather.way.Entry.{Entry, IsAt, IsEntry, IsOwed, at, is_there, none-some, one-named}
use Rattle.grs_world.proofs.gather.way.Entry.{part-same}
use Rattle.grs_world.specs.OnTheWay.{PartIs, Stance, awaits, awaits_by, has_none, has_sent, has_to_take, is_kept}
use Rattle.grs_world.specs.OnTheWay.{kept_of, owes_it}

module _ (E : Entry) (J : IsEntry E) (c : ℕ) (X : Stance) (is : E.stance c ≡ Some X) (x : Moved)
    (noticed : X.notice ≡ Some x) where
  j : IsAt E c X
  j = J.each c X is

  not-manages : X.manages ≡ false
  not-manages = false_by X.manages (λ h. none-some X.notice x noticed (j.manages h).2)

  not-gathers : X.gathering ≡ None
  not-gathers = go X.gathering refl
    where
      go : (o : Option Gathering) → X.gathering ≡ o → X.gathering ≡ None
      go None e = e
      go (Some g) e = none-some X.notice x noticed (j.gathers g e).1

  -- a later one is still there: whatever it owes to removed ones
  module _ (to : SysId) (gone : E.gone to.0 ≡ true) (apart : (to.0 == c) ≡ false) where
    abbrev Earlier : Stance
    Earlier = record X { owes = Some to }

    earlier-other : (m : ℕ) (M : Stance) (b : Bool) → PartIs m c M X b → PartIs m c M (record X { owes = Some to }) b
    earlier-other m M true d = none-some X.notice x noticed d.notice
    earlier-other m M false (has_to_take y at n k w) = has_to_take y at n k w
    earlier-other m M false (owes_it n o p k w) = none-some X.notice x noticed n
    earlier-other m M false (has_sent n o p q k w) = none-some X.notice x noticed n
    earlier-other m M false (is_kept n o p q k w) = none-some X.notice x noticed n
    earlier-other m M false (has_none n o p k w) = none-some X.notice x noticed n

    earlier-own : IsAt (with_stance E c (record X { owes = Some to })) c (record X { owes = Some to })
    earlier-own = record {
      noticed = j.noticed;
      manages = j.manages;
      gathers = j.gathers;
      named = j.named;
      owes = λ z h.
          let same : to ≡ z = same_Some to z h in
          subst (λ y. IsOwed (with_stance E c (record X { owes = Some to })) c (record X { owes = Some to }) y) same
          ((j.noticed x noticed).0, apart, inl ((x, noticed), gone));
      parts = λ u ne there. j.parts u ne (still-there E c X Earlier is u there);
      behind = λ u ne there. j.behind u ne (still-there E c X Earlier is u there);
    }

    pub takes-earlier : IsEntry (with_stance E c (record X { owes = Some to }))
    takes-earlier =
        entry-changed E J c X Earlier is earlier-own
        (λ u U ne named there.
        part-same c u X Earlier U U refl refl refl refl refl X.manages (J.way c u X U ne named is there))
        (λ m M ne named there. earlier-other m M M.manages (J.way m c M X ne named there is))

  -- it was the last one, and names another manager, to whom the part is owed then
  module _ (to : SysId) (named : E.manager ≡ Some to) (apart : (to.0 == c) ≡ false) where
    abbrev Last : Stance
    Last = record X { notice = None; owes = Some to }

    last-other : (m : ℕ) (M : Stance) → E.manager ≡ Some (at m) → (b : Bool) → PartIs m c M X b
        → PartIs m c M (record X { notice = None; owes = Some to }) b
    last-other m M is-m true d = none-some X.notice x noticed d.notice
    last-other m M is-m false (has_to_take y at n k w) =
        owes_it refl (ap (λ (z : SysId). Some z) (same_Some to (record { 0 = m }) (sym named ∙ is-m))) n k w
    last-other m M is-m false (owes_it n o p k w) = none-some X.notice x noticed n
    last-other m M is-m false (has_sent n o p q k w) = none-some X.notice x noticed n
    last-other m M is-m false (is_kept n o p q k w) = none-some X.notice x noticed n
    last-other m M is-m false (has_none n o p k w) = none-some X.notice x noticed n

    not-here : {A : Type 0} → E.manager ≡ Some (at c) → A
    not-here here = one-named E.manager to.0 c named here apart

    last-own : IsAt (with_stance E c (record X { notice = None; owes = Some to })) c
        (record X { notice = None; owes = Some to })
    last-own = record {
      noticed = λ y h. absurd (cc);
      manages = λ h. no_truth X.manages h not-manages;
      gathers = λ g h. none-some X.gathering g h not-gathers;
      named = λ h. not-here h;
      owes = λ z h.
          let same : to ≡ z = same_Some to z h in
          subst
          (λ y.
          IsOwed (with_stance E c (record X { notice = None; owes = Some to })) c
          (record X { notice = None; owes = Some to }) y)
          same ((j.noticed x noticed).0, apart, inr (refl, named));
      parts = λ u ne there. j.parts u ne (still-there E c X Last is u there);
      behind = λ u ne there. j.behind u ne (still-there E c X Last is u there);
    }

    pub takes-last : IsEntry (with_stance E c (record X { notice = None; owes = Some to }))
    takes-last =
        entry-changed E J c X Last is last-own (λ u U ne here there. not-here here)
        (λ m M ne is-m there. last-other m M is-m M.manages (J.way m c M X ne is-m there is))

  -- it was the last one, and names the system itself, which gathers the entry from then on
  module _ (named : E.manager ≡ Some (at c)) (set : ℕ)
      (waits : (u : ℕ) → is_there E u ≡ true → has set u ≡ (has x.mask u && not (c == u))) where
    abbrev begun_one : Gathering
    begun_one = record { awaits = set; parts = [] }

    abbrev New : Stance
    New = record X { gathering = Some (record { awaits = set; parts = [] }); owes = None; notice = None }

    new-own : IsAt (with_stance E c
        (record X { gathering = Some (record { awaits = set; parts = [] }); owes = None; notice = None })) c
        (record X { gathering = Some (record { awaits = set; parts = [] }); owes = None; notice = None })
    new-own = record {
      noticed = λ y h. absurd (cc);
      manages = λ h. no_truth X.manages h not-manages;
      gathers = λ g h. (named, refl);
      named = λ h. inr (inl (begun_one, refl));
      owes = λ z h. absurd (cc);
      parts = λ u ne there p rest h. named;
      behind = λ u ne there. j.behind u ne (still-there E c X New is u there);
    }

    pub begins : IsEntry (with_stance E c
        (record X { gathering = Some (record { awaits = set; parts = [] }); owes = None; notice = None }))
    begins =
        entry-changed E J c X New is new-own
        (λ u U ne here there.
        part-same c u X New U U refl refl refl (sym (ap (λ g. kept_of g u) not-gathers))
        (waits u (ap is_some there) ∙ sym (ap (λ q. awaits_by q X.gathering c u) noticed)) X.manages
        (J.way c u X U ne here is there))
        (λ m M ne is-m there. one-named E.manager m c is-m named ne)
