-- The resource of a number, and of the first element that a task queued.
use Rattle.std.proofs.Common.{◌≡◌, ℕ, zero, suc, Bool, true, false, cond, ◌&&◌, ◌+◌, [], ◌∷◌, drop, Option, Some}
use Rattle.std.proofs.Common.{None, is_some, refl, ap, sym, ◌∙◌, arith}
use Rattle.std.specs.Prelude.{◌≢◌, slice_get, if◌then◌else◌, ◌==◌}
use Rattle.std.specs.Option.{option_map_or}
use Rattle.std.proofs.lemmas.Bool.{eq-eqb, ne_eqb}
use Rattle.std.proofs.lemmas.Bool.Decides.{nat_tests}
use Rattle.grs_base.specs.Same.{same_task}
use Rattle.grs_base.specs.State.{Held, queued_by}
use Rattle.grs_base.specs.declared.resource.Res.{Res}
use Rattle.grs_base.specs.declared.resource.TaskId.{TaskId}
use Rattle.queue_table.specs.Names.{Numbers, name_of, named, is_paired, all_named}

-- whoever stands with a number has it alone
pub name_of-place : (es : Numbers) (i q : ℕ) (r : Res) → is_paired es ≡ true → slice_get es i ≡ Some (r, q)
    → name_of es q ≡ Some r
name_of-place [] i q r p h = absurd (cc)
name_of-place (e ∷ es) zero q r p h = grind (arith, nat_tests, h)
name_of-place (e ∷ es) (suc i) q r p h = grind (arith, nat_tests, p, h, name_of-place es i q r)

-- one resource further on
name_of-next : (es : Numbers) (i q : ℕ) (r : Res) (n : ℕ) → slice_get es i ≡ Some (r, n)
    → name_of (drop i es) q ≡ (if q == n then Some r else name_of (drop (suc i) es) q)
name_of-next [] i q r n h = absurd (cc)
name_of-next (e ∷ es) zero q r n h =
    let same : e ≡ (r, n) = cc in ap (λ (x : Res × ℕ). if q == x.1 then Some x.0 else name_of es q) same
name_of-next (e ∷ es) (suc i) q r n h = name_of-next es i q r n h

module _ (es : Numbers) (i q : ℕ) (r : Res) (n : ℕ) (h : slice_get es i ≡ Some (r, n)) where
  pub name_of-here : n ≡ q → name_of (drop i es) q ≡ Some r
  name_of-here e =
      name_of-next es i q r n h
      ∙ ap (λ b. if b then Some r else name_of (drop (suc i) es) q) (eq-eqb q n (sym e))

  pub name_of-behind : n ≢ q → name_of (drop i es) q ≡ name_of (drop (i + 1) es) q
  name_of-behind d =
      let more : suc i ≡ i + 1 = omega arith in
      name_of-next es i q r n h
      ∙ ap (λ b. if b then Some r else name_of (drop (suc i) es) q) (ne_eqb q n (λ e. d (sym e)))
      ∙ ap (λ j. name_of (drop j es) q) more

-- the resource of a queue, if there is one
abbrev pub name_of_some : Numbers → Option ℕ → Option Res
name_of_some es None = None
name_of_some es (Some q) = name_of es q

-- the first under names is that of the first under numbers
pub first-named : (es : Numbers) (hs : Held ℕ) (t : TaskId) → all_named es hs ≡ true
    → name_of_some es (slice_get (queued_by hs t) 0) ≡ slice_get (queued_by (named es hs) t) 0
first-named es [] t h = refl
first-named es (x ∷ hs) t h = step (first-named es hs t) (name_of es x.0) refl h
  where
    by_task : (b : Bool) (y : Res) → name_of es x.0 ≡ Some y
        → name_of_some es (slice_get (queued_by hs t) 0) ≡ slice_get (queued_by (named es hs) t) 0
        → name_of_some es (slice_get (cond b (x.0 ∷ queued_by hs t) (queued_by hs t)) 0)
        ≡ slice_get (cond b (y ∷ queued_by (named es hs) t) (queued_by (named es hs) t)) 0
    by_task true y e rest = e
    by_task false y e rest = rest

    step : (all_named es hs ≡ true
        → name_of_some es (slice_get (queued_by hs t) 0) ≡ slice_get (queued_by (named es hs) t) 0) → (o : Option Res)
        → name_of es x.0 ≡ o → (is_some o && all_named es hs) ≡ true
        → name_of_some es (slice_get (queued_by (x ∷ hs) t) 0)
        ≡ slice_get (queued_by (option_map_or (λ y. (y, x.1) ∷ named es hs) o (named es hs)) t) 0
    step rest None e k = absurd (cc)
    step rest (Some y) e k = by_task (same_task t x.1.task) y e (rest k)
