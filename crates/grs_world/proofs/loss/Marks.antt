-- Who has still to be told by a manager that loses systems, one after the other: who had before, as far as they are
-- left, and who comes to own by what is left; so it is no matter in which order they are lost.
use Rattle.grs_world.proofs.Common.{[], ◌&&◌, ◌==◌, ◌||◌, ◌∙◌, ◌∷◌, ◌≡◌, ◌⊎◌, and_from, and_parts, ap, Bool, cond}
use Rattle.grs_world.proofs.Common.{false, false_by, has_task, inl, inr, is_systems, List, list_of, Managed, managed_at}
use Rattle.grs_world.proofs.Common.{no_truth, None, not, not-true, Option, option_map, or_left, or_parts, or_right}
use Rattle.grs_world.proofs.Common.{owns-has, plain, refl, remove_state, Res, same_res, same_task, Some, StarPart}
use Rattle.grs_world.proofs.Common.{State, sym, SysId, TaskId, true, ℕ}
use Rattle.contention_mgr.proofs.LoseLawProofs.{lost_lists, lost_untold}
use Rattle.contention_mgr.proofs.LoseLemmas.{holds-remove}
use Rattle.contention_mgr.specs.Elements.{holds}
use Rattle.contention_mgr.specs.Laws.{is_elsewhere, owns_by, untold_at}
use Rattle.contention_mgr.specs.LoseLaws.{is_freed}
use Rattle.contention_mgr.specs.Loses.{lost}
use Rattle.grs_wire.proofs.RemoveLaws.{owns-remove}
use Rattle.grs_world.proofs.loss.Losing.{is_in, lose_part, lose_parts, managed-lost}

-- an entry that loses them
abbrev pub lost_each : ℕ → Managed → List SysId → Managed
lost_each s m [] = m
lost_each s m (u ∷ us) = lost_each s (lost s u.0 m) us

pub kept-each : (p : StarPart) (ss : List SysId) (e : ℕ)
    → managed_at (lose_parts p ss).manager e
    ≡ option_map (λ m. lost_each p.manager.system.0 m ss) (managed_at p.manager e)
kept-each p [] e = same (managed_at p.manager e)
  where
    same : (o : Option Managed) → o ≡ option_map (λ m. m) o
    same None = refl
    same (Some m) = refl
kept-each p (u ∷ us) e =
    kept-each (lose_part p u) us e
    ∙ (ap (option_map (λ m. lost_each p.manager.system.0 m us)) (managed-lost p.manager u e)
    ∙ go (managed_at p.manager e))
  where
    go : (o : Option Managed)
        → option_map (λ m. lost_each p.manager.system.0 m us) (option_map (lost p.manager.system.0 u.0) o)
        ≡ option_map (λ m. lost_each p.manager.system.0 m (u ∷ us)) o
    go None = refl
    go (Some m) = refl

was-held : (st : State) (n : ℕ) (r : Res) (t : TaskId) → holds (remove_state st n) r t ≡ true → holds st r t ≡ true
was-held st n r t h =
    (and_parts (not (is_systems r && (n == t.system.0))) (holds st r t) (sym (holds-remove st n r t) ∙ h)).1

held-by : (st : State) (r : Res) (t : TaskId) → has_task (list_of st r) t ≡ true → holds st r t ≡ true
held-by [] r t h = h
held-by (x ∷ xs) r t h = go (same_res r x.0) refl (same_task t x.1.task) refl h (held-by xs r t)
  where
    go : (a : Bool) → same_res r x.0 ≡ a → (b : Bool) → same_task t x.1.task ≡ b
        → has_task (cond a (x.1 ∷ list_of xs r) (list_of xs r)) t ≡ true
        → (has_task (list_of xs r) t ≡ true → holds xs r t ≡ true) → holds (x ∷ xs) r t ≡ true
    go true f true k z more =
        or_left (same_res r x.0 && same_task t x.1.task) (holds xs r t)
        (and_from (same_res r x.0) (same_task t x.1.task) f k)
    go true f false k z more =
        or_right (same_res r x.0 && same_task t x.1.task) (holds xs r t)
        (more (ap (λ b. b || has_task (list_of xs r) t) (sym k) ∙ z))
    go false f b k z more =
        or_right (same_res r x.0 && same_task t x.1.task) (holds xs r t) (more z)

module _ (s : ℕ) (r : Res) (t : TaskId) where
  -- an element that is left was there
  left-held : (m : Managed) (u : SysId) → holds (plain (lost s u.0 m).items) r t ≡ true
      → holds (remove_state (plain m.items) u.0) r t ≡ true
  left-held m u h = ap (λ st. holds st r t) (sym (lost_lists s u.0 m)) ∙ h

  back-held : (ss : List SysId) (m : Managed) → holds (plain (lost_each s m ss).items) r t ≡ true
      → holds (plain m.items) r t ≡ true
  back-held [] m h = h
  back-held (u ∷ us) m h =
      was-held (plain m.items) u.0 r t (left-held m u (back-held us (lost s u.0 m) h))

  -- an owner of another system stays one
  owns-step : (m : Managed) (u : SysId) → (u.0 == t.system.0) ≡ false → owns_by (plain m.items) r t ≡ true
      → owns_by (plain (lost s u.0 m).items) r t ≡ true
  owns-step m u apart own =
      ap (λ st. owns_by st r t) (lost_lists s u.0 m) ∙ owns-remove (plain m.items) u.0 r t apart own

  pub owns-each : (ss : List SysId) (m : Managed) → is_in t.system.0 ss ≡ false → owns_by (plain m.items) r t ≡ true
      → owns_by (plain (lost_each s m ss).items) r t ≡ true
  owns-each [] m apart own = own
  owns-each (u ∷ us) m apart own =
      let both = or_parts (u.0 == t.system.0) (is_in t.system.0 us) apart in
      owns-each us (lost s u.0 m) both.1 (owns-step m u both.0 own)

  owner-holds : (st : State) → owns_by st r t ≡ true → holds st r t ≡ true
  owner-holds st own = held-by st r t (owns-has (list_of st r) t own)

  -- who had still to be told has it still
  pub marks-stay : (ss : List SysId) (m : Managed) → untold_at m.items r t ≡ true
      → holds (plain (lost_each s m ss).items) r t ≡ true → untold_at (lost_each s m ss).items r t ≡ true
  marks-stay [] m mark h = mark
  marks-stay (u ∷ us) m mark h =
      marks-stay us (lost s u.0 m)
      (lost_untold s u.0 m r t
      ∙ and_from (holds (remove_state (plain m.items) u.0) r t)
      (untold_at m.items r t || (is_freed u.0 (plain m.items) r t && is_elsewhere s r t))
      (left-held m u (back-held us (lost s u.0 m) h))
      (or_left (untold_at m.items r t) (is_freed u.0 (plain m.items) r t && is_elsewhere s r t) mark))
      h

  -- and so has who comes to own
  pub marks-new : (ss : List SysId) (m : Managed) → owns_by (plain m.items) r t ≡ false
      → owns_by (plain (lost_each s m ss).items) r t ≡ true → is_elsewhere s r t ≡ true
      → untold_at (lost_each s m ss).items r t ≡ true
  marks-new [] m before own away = no_truth (owns_by (plain m.items) r t) own before
  marks-new (u ∷ us) m before own away =
      go (owns_by (remove_state (plain m.items) u.0) r t) refl (λ is. marks-new us (lost s u.0 m) is own away)
    where
      now : owns_by (plain (lost s u.0 m).items) r t ≡ owns_by (remove_state (plain m.items) u.0) r t
      now = ap (λ st. owns_by st r t) (lost_lists s u.0 m)

      go : (b : Bool) → owns_by (remove_state (plain m.items) u.0) r t ≡ b
          → (owns_by (plain (lost s u.0 m).items) r t ≡ false
          → untold_at (lost_each s m (u ∷ us)).items r t ≡ true)
          → untold_at (lost_each s m (u ∷ us)).items r t ≡ true
      go false is more = more (now ∙ is)
      go true is more =
          marks-stay us (lost s u.0 m)
          (lost_untold s u.0 m r t
          ∙ and_from (holds (remove_state (plain m.items) u.0) r t)
          (untold_at m.items r t || (is_freed u.0 (plain m.items) r t && is_elsewhere s r t))
          (owner-holds (remove_state (plain m.items) u.0) is)
          (or_right (untold_at m.items r t) (is_freed u.0 (plain m.items) r t && is_elsewhere s r t)
          (and_from (is_freed u.0 (plain m.items) r t) (is_elsewhere s r t)
          (and_from (owns_by (remove_state (plain m.items) u.0) r t) (not (owns_by (plain m.items) r t)) is
          (ap not before))
          away)))
          (owner-holds (plain (lost_each s m (u ∷ us)).items) own)

  -- of whom this was so before, or who didn't own
  pub marks-from : (ss : List SysId) (m : Managed) → is_in t.system.0 ss ≡ false
      → untold_at (lost_each s m ss).items r t ≡ true
      → (untold_at m.items r t ≡ true) ⊎ (owns_by (plain m.items) r t ≡ false)
  marks-from [] m apart mark = inl mark
  marks-from (u ∷ us) m apart mark = by-rest (marks-from us (lost s u.0 m) both.1 mark)
    where
      both : ((u.0 == t.system.0) ≡ false) × (is_in t.system.0 us ≡ false)
      both = or_parts (u.0 == t.system.0) (is_in t.system.0 us) apart

      by-mark : (a f : Bool) → untold_at m.items r t ≡ a → is_freed u.0 (plain m.items) r t ≡ f
          → (a || (f && is_elsewhere s r t)) ≡ true
          → (untold_at m.items r t ≡ true) ⊎ (owns_by (plain m.items) r t ≡ false)
      by-mark true f is freed h = inl is
      by-mark false true is freed h =
          inr (not-true (owns_by (plain m.items) r t)
          (and_parts (owns_by (remove_state (plain m.items) u.0) r t) (not (owns_by (plain m.items) r t)) freed).1)
      by-mark false false is freed h = no_truth true refl (sym h)

      by-rest : (untold_at (lost s u.0 m).items r t ≡ true) ⊎ (owns_by (plain (lost s u.0 m).items) r t ≡ false)
          → (untold_at m.items r t ≡ true) ⊎ (owns_by (plain m.items) r t ≡ false)
      by-rest (inl z) =
          by-mark (untold_at m.items r t) (is_freed u.0 (plain m.items) r t) refl refl
          (and_parts (holds (remove_state (plain m.items) u.0) r t)
          (untold_at m.items r t || (is_freed u.0 (plain m.items) r t && is_elsewhere s r t))
          (sym (lost_untold s u.0 m r t) ∙ z)).1
      by-rest (inr z) =
          inr (false_by (owns_by (plain m.items) r t) (λ own.
          no_truth (owns_by (plain (lost s u.0 m).items) r t) (owns-step m u both.0 own) z))

  -- Of one who owns by what is left once more are lost: where it had still to be told, or didn't own, by what is left
  -- of fewer, it has.
  pub marks-more : (ss ts : List SysId) (m : Managed) → is_in t.system.0 ss ≡ false → is_elsewhere s r t ≡ true
      → owns_by (plain (lost_each s m ts).items) r t ≡ true
      → (untold_at (lost_each s m ss).items r t ≡ true) ⊎ (owns_by (plain (lost_each s m ss).items) r t ≡ false)
      → untold_at (lost_each s m ts).items r t ≡ true
  marks-more ss ts m apart away own (inr z) =
      marks-new ts m
      (false_by (owns_by (plain m.items) r t) (λ before.
      no_truth (owns_by (plain (lost_each s m ss).items) r t) (owns-each ss m apart before) z))
      own away
  marks-more ss ts m apart away own (inl z) = go (marks-from ss m apart z)
    where
      go : (untold_at m.items r t ≡ true) ⊎ (owns_by (plain m.items) r t ≡ false)
          → untold_at (lost_each s m ts).items r t ≡ true
      go (inl mark) = marks-stay ts m mark (owner-holds (plain (lost_each s m ts).items) own)
      go (inr before) = marks-new ts m before own away
