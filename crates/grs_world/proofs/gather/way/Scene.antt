-- What each live system of a world is to a lock entry, and what of that stays behind an event that does no more to the
-- entry than to take it up.
use Rattle.grs_world.proofs.Common.{[], ◌++◌, ◌==◌, ◌∙◌, ◌∷◌, ◌≡◌, ◌≢◌, ◌⊎◌, ap, append-nil, Bool, cond, eq-eqb}
use Rattle.grs_world.proofs.Common.{eqb-false, eqb-true, false, false_by, gathering_at, has, inbox, inl, is_interested}
use Rattle.grs_world.proofs.Common.{List, Mail, manager_at, manages, ne_eqb, no_truth, NodeState, None, Option}
use Rattle.grs_world.proofs.Common.{option_map, owed_to, PartRec, refl, same_Some, slice_get, Some, StarPart, subst}
use Rattle.grs_world.proofs.Common.{sym, SysId, true, Turnout, World, ℕ}
use Rattle.grs_wire.specs.Notices.{names}
use Rattle.grs_world.proofs.run.Placed.{world_then}
use Rattle.grs_world.proofs.run.Site.{Site, at_site, each_site}
use Rattle.grs_world.proofs.gather.way.Boxes.{early, early-left, early-more, last-left, last-more, parts-more}
use Rattle.grs_world.proofs.gather.way.Changed.{with_stance}
use Rattle.grs_world.proofs.gather.way.Entry.{AlikeIn, Entry, IsEntry, RoleStays, Stays, as_before, entry-stays}
use Rattle.grs_world.proofs.gather.way.Entry.{is_there}
use Rattle.grs_world.proofs.gather.way.Entry.{taken_up, there-is}
use Rattle.grs_world.proofs.gather.way.Steps.{Keeps, alike-same}
use Rattle.grs_world.specs.OnTheWay.{Stance, last_item, part_from, parts_from, stance_at, stance_by, stance_of}

abbrev pub entry_in : World → ℕ → Entry
entry_in w e = record {
  manager = manager_at w.medium.words e;
  near = λ s. is_interested w.medium.words e s;
  gone = λ s. has w.medium.removed s;
  stance = λ s. stance_at w e s;
  early = λ s u. early e u (inbox w.medium s);
}

-- ---- a live system's part and inbox
pub record Stands (w : World) (e s : ℕ) (S : Stance) : Type 0 where
  pub node : NodeState
  pub part : StarPart
  pub site : Site w s node
  pub star : node.star ≡ Some part
  pub is : stance_of e part (inbox w.medium s) ≡ S

pub stands : (w : World) (e s : ℕ) (S : Stance) → stance_at w e s ≡ Some S → Stands w e s S
stands w e s S h = by-live (has w.medium.removed s) refl h
  where
    by-part : (n : NodeState) → slice_get w.nodes s ≡ Some n → has w.medium.removed s ≡ false → (o : Option StarPart)
        → n.star ≡ o → option_map (λ p. stance_of e p (inbox w.medium s)) o ≡ Some S → Stands w e s S
    by-part n at live None star k = absurd (cc)
    by-part n at live (Some p) star k = record {
      node = n;
      part = p;
      site = at_site at live;
      star = star;
      is = same_Some (stance_of e p (inbox w.medium s)) S k;
    }

    by-node : has w.medium.removed s ≡ false → (o : Option NodeState) → slice_get w.nodes s ≡ o
        → stance_by e (inbox w.medium s) o ≡ Some S → Stands w e s S
    by-node live None at k = absurd (cc)
    by-node live (Some n) at k = by-part n at live n.star refl k

    by-live : (b : Bool) → has w.medium.removed s ≡ b
        → cond b None (stance_by e (inbox w.medium s) (slice_get w.nodes s)) ≡ Some S → Stands w e s S
    by-live true gone k = absurd (cc)
    by-live false live k = by-node live (slice_get w.nodes s) refl k

pub stance-is : (w : World) (e s : ℕ) (n : NodeState) (p : StarPart) → Site w s n → n.star ≡ Some p
    → stance_at w e s ≡ Some (stance_of e p (inbox w.medium s))
stance-is w e s n p site star =
    ap (λ b. cond b None (stance_by e (inbox w.medium s) (slice_get w.nodes s))) site.live
    ∙ (ap (stance_by e (inbox w.medium s)) site.at
    ∙ ap (λ (o : Option StarPart). option_map (λ q. stance_of e q (inbox w.medium s)) o) star)

pub live-entry : (w : World) (e s : ℕ) (S : Stance) → stance_at w e s ≡ Some S → has w.medium.removed s ≡ false
live-entry w e s S h = (stands w e s S h).site.live

-- ---- an inbox of system s of which nothing of the entry changes, as far as these systems go
pub record BoxStays (alive : ℕ → Bool) (s e : ℕ) (ms ks : List Mail) : Type 0 where
  pub last : last_item e ks ≡ last_item e ms
  pub parts : (u : ℕ) → (s == u) ≡ false → alive u ≡ true → parts_from e ks u ≡ parts_from e ms u
  pub early_was : (u : ℕ) → early e u ks ≡ true → early e u ms ≡ true

pub box-same : (alive : ℕ → Bool) (s e : ℕ) (ms : List Mail) → BoxStays alive s e ms ms
box-same alive s e ms = record { last = refl; parts = λ u ne there. refl; early_was = λ u h. h }

-- a mail comes that is no notice or part of it
pub box-grows : (alive : ℕ → Bool) (s e : ℕ) (ms : List Mail) (y : Mail) → names e y ≡ false
    → ((u : ℕ) → part_from e u y ≡ []) → BoxStays alive s e ms (ms ++ y ∷ [])
box-grows alive s e ms y away none = record {
  last = last-more e ms y away;
  parts = λ u ne there.
      parts-more e ms y u
      ∙ (ap (λ (zs : List (List PartRec)). parts_from e ms u ++ zs) (none u) ∙ append-nil (parts_from e ms u));
  early_was = λ u h. sym (early-more e u ms y away) ∙ h;
}

-- the first one goes, which is none
pub box-left : (alive : ℕ → Bool) (s e : ℕ) (y : Mail) (ms : List Mail) → names e y ≡ false
    → ((u : ℕ) → (s == u) ≡ false → alive u ≡ true → part_from e u y ≡ []) → BoxStays alive s e (y ∷ ms) ms
box-left alive s e y ms away none = record {
  last = sym (last-left e y ms away);
  parts = λ u ne there. sym (ap (λ (zs : List (List PartRec)). zs ++ parts_from e ms u) (none u ne there));
  early_was = λ u h. early-left e u y ms h;
}

-- what is gathered and managed goes by the part alone
pub role-boxes : (alive : ℕ → Bool) (s e : ℕ) (p q : StarPart) (ms ks : List Mail)
    → RoleStays alive s (stance_of e p []) (stance_of e q [])
    → RoleStays alive s (stance_of e p ms) (stance_of e q ks)
role-boxes alive s e p q ms ks (as_before same alike) = as_before same alike
role-boxes alive s e p q ms ks (taken_up now none g gathers off) = taken_up now none g gathers off

-- ---- behind an event
module _ (w : World) (e : ℕ) (c : SysId) (n : NodeState) (site : Site w c.0 n) (o : Turnout)
    (gone : (u : ℕ) → has w.medium.removed u ≡ true → has o.medium.removed u ≡ true) where
  was-live : (s : ℕ) → has o.medium.removed s ≡ false → has w.medium.removed s ≡ false
  was-live s live = false_by (has w.medium.removed s) (λ h. no_truth (has o.medium.removed s) (gone s h) live)

  -- what holds of the event's own system, and of each other one, holds of all
  pub each-then : (P : ℕ → Stance → Type 0)
      → ((q : StarPart) → o.step.node.star ≡ Some q → has o.medium.removed c.0 ≡ false
      → P c.0 (stance_of e q (inbox o.medium c.0)))
      → ((s : ℕ) (k : NodeState) (p : StarPart) → s ≢ c.0 → Site w s k → k.star ≡ Some p
      → has o.medium.removed s ≡ false → P s (stance_of e p (inbox o.medium s)))
      → (s : ℕ) (T : Stance) → stance_at (world_then w c n o) e s ≡ Some T → P s T
  each-then P own others s T h =
      let z = stands (world_then w c n o) e s T h in
      subst (P s) z.is
      (each_site w c n site o was-live
      (λ i k. has o.medium.removed i ≡ false → (p : StarPart) → k.star ≡ Some p
      → P i (stance_of e p (inbox o.medium i)))
      (λ live q star. own q star live) (λ i k ne u live p star. others i k p ne u star live) s z.node z.site
      z.site.live z.part z.star)

  module _ (p : StarPart) (star : n.star ≡ Some p) (J : IsEntry (entry_in w e))
      (manager : manager_at o.medium.words e ≡ manager_at w.medium.words e)
      (near : (s : ℕ) (S : Stance) → has o.medium.removed s ≡ false → stance_at w e s ≡ Some S
      → is_interested w.medium.words e s ≡ true
      → (is_interested o.medium.words e s ≡ true) ⊎ ((S.notice ≡ None) × (S.owes ≡ None)))
      (boxes : (s : ℕ) → has o.medium.removed s ≡ false →
      BoxStays (is_there (entry_in (world_then w c n o) e)) s e (inbox w.medium s) (inbox o.medium s))
      (q : StarPart) (now : o.step.node.star ≡ Some q) (owes : owed_to q e ≡ owed_to p e)
      (role : RoleStays (is_there (entry_in (world_then w c n o) e)) c.0 (stance_of e p []) (stance_of e q [])) where
    abbrev WasSo : ℕ → Stance → Type 0
    WasSo s T =
        (S : Stance) × (stance_at w e s ≡ Some S) × Stays (is_there (entry_in (world_then w c n o) e)) s S T

    own-was : (k : StarPart) → o.step.node.star ≡ Some k → has o.medium.removed c.0 ≡ false
        → WasSo c.0 (stance_of e k (inbox o.medium c.0))
    own-was k star_k live =
        let b = boxes c.0 live in
        subst (λ (z : StarPart). WasSo c.0 (stance_of e z (inbox o.medium c.0))) (same_Some q k (sym now ∙ star_k)) (
          stance_of e p (inbox w.medium c.0),
          stance-is w e c.0 n p site star,
          record {
            role =
                role-boxes (is_there (entry_in (world_then w c n o) e)) c.0 e p q (inbox w.medium c.0)
                (inbox o.medium c.0) role;
            owes = owes;
            notice = b.last;
            coming = b.parts;
          },
        )

    other-was : (s : ℕ) (k : NodeState) (r : StarPart) → s ≢ c.0 → Site w s k → k.star ≡ Some r
        → has o.medium.removed s ≡ false → WasSo s (stance_of e r (inbox o.medium s))
    other-was s k r ne u star_k live =
        let b = boxes s live in (
          stance_of e r (inbox w.medium s),
          stance-is w e s k r u star_k,
          record {
            role =
                as_before refl
                (alike-same (is_there (entry_in (world_then w c n o) e)) s
                (stance_of e r (inbox w.medium s)).gathering);
            owes = refl;
            notice = b.last;
            coming = b.parts;
          },
        )

    was : (s : ℕ) (T : Stance) → stance_at (world_then w c n o) e s ≡ Some T → WasSo s T
    was = each-then WasSo own-was other-was

    pub stays-then : IsEntry (entry_in (world_then w c n o) e)
    stays-then =
        entry-stays (entry_in w e) (entry_in (world_then w c n o) e) J gone manager
        (live-entry (world_then w c n o) e) was
        (λ s S there is h.
        let T = there-is (entry_in (world_then w c n o) e) s there in
        near s S (live-entry (world_then w c n o) e s T.0 T.1) is h)
        (λ s u there h.
        let T = there-is (entry_in (world_then w c n o) e) s there in
        (boxes s (live-entry (world_then w c n o) e s T.0 T.1)).early_was u h)

-- ---- a system of which the entry's stance changed, and which then takes up what it may
-- what is gathered and managed goes by these two alone
pub role-from : (alive : ℕ → Bool) (s : ℕ) (R S T : Stance) → S.manages ≡ R.manages → S.gathering ≡ R.gathering
    → RoleStays alive s R T → RoleStays alive s S T
role-from alive s R S T manages gathering (as_before same alike) =
    as_before (same ∙ sym manages) (subst (λ g. AlikeIn alive s g T.gathering) (sym gathering) alike)
role-from alive s R S T manages gathering (taken_up now none g gathers off) =
    taken_up now none g (gathering ∙ gathers) off

module _ (w : World) (e : ℕ) (c : SysId) (n : NodeState) (p : StarPart) (star : n.star ≡ Some p) (site : Site w c.0 n)
    (o : Turnout) (removed : o.medium.removed ≡ w.medium.removed) (words : o.medium.words ≡ w.medium.words)
    (rest : List Mail) (box : inbox o.medium c.0 ≡ rest)
    (boxes : (s : ℕ) → s ≢ c.0 → inbox o.medium s ≡ inbox w.medium s) (Y : Stance)
    (H : IsEntry (with_stance (entry_in w e) c.0 Y)) (r q : StarPart) (now : o.step.node.star ≡ Some q)
    (entries : ℕ) (keeps : Keeps (is_there (entry_in (world_then w c n o) e)) c.0 e entries r q)
    (manages_it : Y.manages ≡ manages r e) (gathering : Y.gathering ≡ gathering_at r.gathers e)
    (owes : Y.owes ≡ owed_to r e) (notice : Y.notice ≡ last_item e rest)
    (coming : (u : ℕ) → Y.coming u ≡ parts_from e rest u)
    (early_was : (u : ℕ) → early e u rest ≡ true → early e u (inbox w.medium c.0) ≡ true) where
  gone-then : (u : ℕ) → has w.medium.removed u ≡ true → has o.medium.removed u ≡ true
  gone-then u h = ap (λ i. has i u) removed ∙ h

  abbrev alive : ℕ → Bool
  alive = is_there (entry_in (world_then w c n o) e)

  abbrev WasThen : ℕ → Stance → Type 0
  WasThen s T =
      (S : Stance) × ((with_stance (entry_in w e) c.0 Y).stance s ≡ Some S)
      × Stays (is_there (entry_in (world_then w c n o) e)) s S T

  own-then : (k : StarPart) → o.step.node.star ≡ Some k → has o.medium.removed c.0 ≡ false
      → WasThen c.0 (stance_of e k (inbox o.medium c.0))
  own-then k star_k live =
      subst (λ (z : StarPart). WasThen c.0 (stance_of e z (inbox o.medium c.0))) (same_Some q k (sym now ∙ star_k))
      (subst (λ (ms : List Mail). WasThen c.0 (stance_of e q ms)) (sym box) (
        Y,
        ap (λ b. cond b (Some Y) (stance_at w e c.0)) (eq-eqb c.0 c.0 refl),
        record {
          role =
              role-from alive c.0 (stance_of e r rest) Y (stance_of e q rest) manages_it gathering
              (role-boxes alive c.0 e r q rest rest keeps.role);
          owes = keeps.owes ∙ sym owes;
          notice = sym notice;
          coming = λ u ne there. sym (coming u);
        },
      ))

  others-then : (s : ℕ) (k : NodeState) (z : StarPart) → s ≢ c.0 → Site w s k → k.star ≡ Some z
      → has o.medium.removed s ≡ false → WasThen s (stance_of e z (inbox o.medium s))
  others-then s k z ne u star_k live =
      subst (λ (ms : List Mail). WasThen s (stance_of e z ms)) (sym (boxes s ne)) (
        stance_of e z (inbox w.medium s),
        ap (λ b. cond b (Some Y) (stance_at w e s)) (ne_eqb s c.0 ne) ∙ stance-is w e s k z u star_k,
        record {
          role = as_before refl (alike-same alive s (stance_of e z (inbox w.medium s)).gathering);
          owes = refl;
          notice = refl;
          coming = λ v far there. refl;
        },
      )

  early-then : (s u : ℕ) → (b : Bool) → (s == c.0) ≡ b → early e u (inbox o.medium s) ≡ true
      → early e u (inbox w.medium s) ≡ true
  early-then s u true same h =
      let place : s ≡ c.0 = eqb-true s c.0 same in
      subst (λ i. early e u (inbox w.medium i) ≡ true) (sym place)
      (early_was u (sym (ap (early e u) (ap (inbox o.medium) place ∙ box)) ∙ h))
  early-then s u false other h = sym (ap (early e u) (boxes s (eqb-false s c.0 other))) ∙ h

  pub taken-then : IsEntry (entry_in (world_then w c n o) e)
  taken-then =
      entry-stays (with_stance (entry_in w e) c.0 Y) (entry_in (world_then w c n o) e) H gone-then
      (ap (λ ws. manager_at ws e) words) (live-entry (world_then w c n o) e)
      (each-then w e c n site o gone-then WasThen own-then others-then)
      (λ s S there is near. inl (ap (λ ws. is_interested ws e s) words ∙ near))
      (λ s u there h. early-then s u (s == c.0) refl h)
