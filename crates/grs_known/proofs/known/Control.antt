-- What one item does to what a task owns: another task's item, and one of its own.
use Rattle.std.proofs.Common.{◌≡◌, true, false, List, [], ◌∷◌, ◌++◌, Option, Some, None, ap, sym, ◌∙◌, subst}
use Rattle.std.specs.List.{list_any}
use Rattle.grs_base.specs.Lists.{owns}
use Rattle.grs_base.specs.State.{list_of}
use Rattle.grs_base.specs.declared.resource.Res.{Res}
use Rattle.grs_base.specs.declared.resource.TaskId.{TaskId}
use Rattle.grs_base.proofs.SameLaws.{same_task-exact}
use Rattle.grs_wire.specs.Wants.{after_want}
use Rattle.grs_wire.specs.History.{after_fixed, fixed_entries, entries_for}
use Rattle.grs_wire.specs.declared.request.Fixed.{Fixed}
use Rattle.grs_wire.specs.declared.request.Fixed.TheVariants.{Asked, LocalLook, Purged}
use Rattle.grs_wire.proofs.WantLaws.{owns-want}
use Rattle.grs_wire.proofs.RemoveLaws.{owns-remove}
use Rattle.grs_known.specs.Items.{RunItem, is_of, removes_system_of, gives_back, took, tells, lists, Made}
use Rattle.grs_known.specs.Known.{Still, Given}
use Rattle.grs_known.proofs.lists.Requests.{want-keeps, want-takes, want-tells}
use Rattle.grs_known.proofs.known.ItemLaws.{lists-push}

-- ---- another task's item
pub owns-other : (T : List RunItem) (x : RunItem) (t : TaskId) (r : Res) → is_of t x.fixed ≡ false
    → removes_system_of t x.fixed ≡ false → owns (list_of (lists T) r) t ≡ true
    → owns (list_of (lists (T ++ x ∷ [])) r) t ≡ true
owns-other T x t r apart live h = ap (λ s. owns (list_of s r) t) (lists-push T x) ∙ go x.fixed apart live
  where
    go : (f : Fixed) → is_of t f ≡ false → removes_system_of t f ≡ false
        → owns (list_of (after_fixed (lists T) f) r) t ≡ true
    go (Asked q) a l = owns-want (lists T) q.task q.want r t a h
    go (LocalLook u f) a l = h
    go (Purged target) a l = owns-remove (lists T) target.0 r t l h

module _ (t : TaskId) (T : List RunItem) (x : RunItem) (apart : is_of t x.fixed ≡ false)
    (live : removes_system_of t x.fixed ≡ false) where
  pub still-other : (r : Res) (o : Option RunItem) → Still r t T o → Still r t (T ++ x ∷ []) o
  still-other r None h = owns-other T x t r apart live h
  still-other r (Some y) h = (λ e. owns-other T x t r apart live (h.0 e), h.1)

  pub given-other : (o : Option RunItem) → Given t T o → Given t (T ++ x ∷ []) o
  given-other None g = g
  given-other (Some y) g = λ r e. owns-other T x t r apart live (g r e)

-- ---- a task's own item
module _ (t : TaskId) (T : List RunItem) (x : RunItem) (own : is_of t x.fixed ≡ true) (made : Made T x) where
  pub still-own : (r : Res) → owns (list_of (lists T) r) t ≡ true → Still r t (T ++ x ∷ []) (Some x)
  still-own r h = (
    λ e. ap (λ s. owns (list_of s r) t) (lists-push T x) ∙ keeps x.fixed own e,
    λ e. subst (λ hs. list_any (took r) hs ≡ true) (sym made) (takes x.fixed own e),
  )
    where
      keeps : (f : Fixed) → is_of t f ≡ true → gives_back r f ≡ false
          → owns (list_of (after_fixed (lists T) f) r) t ≡ true
      keeps (Asked q) o e =
          subst (λ u. owns (list_of (after_want (lists T) u q.want) r) t ≡ true) (same_task-exact t q.task o)
          (want-keeps (lists T) t q.want r e h)
      keeps (LocalLook u f) o e = h
      keeps (Purged target) o e = cc

      takes : (f : Fixed) → is_of t f ≡ true → gives_back r f ≡ true
          → list_any (took r) (fixed_entries (lists T) x.by f) ≡ true
      takes (Asked q) o e =
          subst (λ u. list_any (took r) (entries_for (lists T) u q.want) ≡ true) (same_task-exact t q.task o)
          (want-takes (lists T) t q.want r e h)
      takes (LocalLook u f) o e = cc
      takes (Purged target) o e = cc

  pub given-own : Given t (T ++ x ∷ []) (Some x)
  given-own r h =
      ap (λ s. owns (list_of s r) t) (lists-push T x)
      ∙ go x.fixed own (subst (λ hs. list_any (tells r) hs ≡ true) made h)
    where
      go : (f : Fixed) → is_of t f ≡ true → list_any (tells r) (fixed_entries (lists T) x.by f) ≡ true
          → owns (list_of (after_fixed (lists T) f) r) t ≡ true
      go (Asked q) o e =
          let same = same_task-exact t q.task o in
          subst (λ u. owns (list_of (after_want (lists T) u q.want) r) t ≡ true) same
          (want-tells (lists T) t q.want r
          (subst (λ u. list_any (tells r) (entries_for (lists T) u q.want) ≡ true) (sym same) e))
      go (LocalLook u f) o e = cc
      go (Purged target) o e = cc
