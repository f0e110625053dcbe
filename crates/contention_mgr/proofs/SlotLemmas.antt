-- What is kept of an entry, read off the slots, and the entry of looks.
use Rattle.std.proofs.Common.{◌≡◌, ◌<◌, ◌+◌, ◌-◌, ◌&&◌, ℕ, zero, suc, Bool, true, List, [], ◌∷◌, length, Option, Some}
use Rattle.std.proofs.Common.{is_some, ap, sym, ◌∙◌, arith}
use Rattle.std.specs.Prelude.{◌==◌, slice_index_or}
use Rattle.grs_base.specs.Slices.{entry_of}
use Rattle.grs_base.specs.declared.resource.SysId.{SysId}
use Rattle.grs_wire.specs.declared.request.Want.{Want}
use Rattle.contention_mgr.specs.Manager.{Managed, ManagerView, are_of, entry_wanted, kept_at, kept_for, managed_for}

pub kept-got : (es : List (Option Managed)) (i : ℕ) (x : Option Managed) → is_some (kept_at es i) ≡ true
    → x ≡ slice_index_or es i x → kept_at es i ≡ x
kept-got [] i x h e = cc
kept-got (y ∷ es) zero x h e = sym e
kept-got (y ∷ es) (suc i) x h e = kept-got es i x h e

pub managed-is : (sys : SysId) (es : List (Option Managed)) (n e : ℕ) (w : Want) (v : ManagerView) → length es ≡ n
    → entry_wanted n w ≡ Some e → record { system = sys; entries = es } ≡ v → kept_at es e ≡ managed_for v w
managed-is sys es n e w v len at is =
    sym (ap (kept_for es) (ap (λ (k : ℕ). entry_wanted k w) len ∙ at)) ∙ ap (λ (u : ManagerView). managed_for u w) is

pub are-next : (entries e first count : ℕ) → 0 < count → (e == entry_of first entries) ≡ true
    → are_of entries e (first + 1) (count - 1) ≡ are_of entries e first count
are-next entries e first zero more b = absurd (omega (arith, more))
are-next entries e first (suc count) more b =
    let less : suc count - 1 ≡ count = omega arith in
    ap (are_of entries e (first + 1)) less ∙ sym (ap (λ (c : Bool). c && are_of entries e (first + 1) count) b)
