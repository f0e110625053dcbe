-- Which entries a manager manages behind a request, once it told an owner, where it begins with one, and where it
-- leaves one.
use Rattle.grs_world.proofs.Common.{◌<◌, ◌==◌, ◌∙◌, ◌≡◌, ◌≢◌, after_request, after_telling, ap, begun, Bool, cond}
use Rattle.grs_world.proofs.Common.{entry_of_res, entry_wanted, eqb-false, eqb-true, false, is_some, kept_at, kept_for}
use Rattle.grs_world.proofs.Common.{left_at, length, Managed, managed_at, ManagerView, manages, no_elements, None}
use Rattle.grs_world.proofs.Common.{Option, option_map_or, refl, Res, settled, Some, StarPart, sym, TaskId, true, Want}
use Rattle.grs_world.proofs.Common.{with_entry, ℕ}
use Rattle.contention_mgr.specs.Manager.{told as told_in}
use Rattle.grs_node.specs.Star.{managing, not_managing}
use Rattle.grs_world.proofs.gather.way.Steps.{set-none, set-other, set-same, there-within}

-- where something is kept of an entry, it keeps something else of it
still-some : (v : ManagerView) (i : Option ℕ) (f : Managed → Managed) (e : ℕ) →
    is_some (managed_at (option_map_or (λ m. with_entry v i (Some (f m))) (kept_for v.entries i) v) e)
    ≡ is_some (managed_at v e)
still-some v None f e = refl
still-some v (Some i) f e = go (kept_at v.entries i) refl
  where
    by-place : (m : Managed) → kept_at v.entries i ≡ Some m → (b : Bool) → (e == i) ≡ b
        → is_some (managed_at (with_entry v (Some i) (Some (f m))) e) ≡ is_some (managed_at v e)
    by-place m is true same =
        let place : e ≡ i = eqb-true e i same in
        ap (λ k. is_some (managed_at (with_entry v (Some i) (Some (f m))) k)) place
        ∙ (ap is_some (set-same v.entries i (Some (f m)) (there-within v.entries i m is))
        ∙ sym (ap (λ k. is_some (managed_at v k)) place ∙ ap is_some is))
    by-place m is false other = ap is_some (set-other v.entries i e (Some (f m)) (eqb-false e i other))

    go : (o : Option Managed) → kept_at v.entries i ≡ o →
        is_some (managed_at (option_map_or (λ m. with_entry v (Some i) (Some (f m))) o v) e)
        ≡ is_some (managed_at v e)
    go None is = refl
    go (Some m) is = by-place m is (e == i) refl

pub request-manages : (v : ManagerView) (t : TaskId) (w : Want) (e : ℕ)
    → is_some (managed_at (after_request v t w) e) ≡ is_some (managed_at v e)
request-manages v t w e =
    still-some v (entry_wanted (length v.entries) w) (λ m. settled v.system.0 m t w) e

pub telling-manages : (v : ManagerView) (t : TaskId) (r : Res) (e : ℕ)
    → is_some (managed_at (after_telling v t r) e) ≡ is_some (managed_at v e)
telling-manages v t r e = still-some v (entry_of_res (length v.entries) r) (told_in t r) e

-- it begins with an entry
module _ (p : StarPart) (x : ℕ) where
  pub begun-other : (e : ℕ) → e ≢ x → manages (begun p x) e ≡ manages p e
  begun-other e ne = go (is_some (managed_at p.manager x))
    where
      go : (b : Bool) →
          is_some (managed_at (cond b p.manager (with_entry p.manager (Some x) (Some no_elements))) e)
          ≡ is_some (managed_at p.manager e)
      go true = refl
      go false = ap is_some (set-other p.manager.entries x e (Some no_elements) ne)

  pub begun-same : manages p x ≡ true → (e : ℕ) → manages (begun p x) e ≡ manages p e
  begun-same mine e =
      ap
      (λ b. is_some (managed_at (cond b p.manager (with_entry p.manager (Some x) (Some no_elements))) e)) mine

  pub begun-here : x < length p.manager.entries → manages (begun p x) x ≡ true
  begun-here inside = go (is_some (managed_at p.manager x)) refl
    where
      go : (b : Bool) → is_some (managed_at p.manager x) ≡ b
          → is_some (managed_at (cond b p.manager (with_entry p.manager (Some x) (Some no_elements))) x) ≡ true
      go true is = is
      go false is = ap is_some (set-same p.manager.entries x (Some no_elements) inside)

  -- it leaves one
  pub left-other : (e : ℕ) → e ≢ x → manages (left_at p x) e ≡ manages p e
  left-other e ne = go (is_some (managed_at p.manager x))
    where
      go : (b : Bool) →
          is_some (managed_at (cond b (with_entry p.manager (Some x) None) p.manager) e)
          ≡ is_some (managed_at p.manager e)
      go true = ap is_some (set-other p.manager.entries x e None ne)
      go false = refl

  pub left-here : manages (left_at p x) x ≡ false
  left-here = go (is_some (managed_at p.manager x)) refl
    where
      go : (b : Bool) → is_some (managed_at p.manager x) ≡ b
          → is_some (managed_at (cond b (with_entry p.manager (Some x) None) p.manager) x) ≡ false
      go true is = ap is_some (set-none p.manager.entries x)
      go false is = is
