-- Laws of where the message stands, and of the order in which it goes round.
use Rattle.std.proofs.Common.{◌≡◌, ℕ, suc, ◌+◌, ◌-◌, ◌%◌, ◌<◌, Bool, true, false, cond, map, Option, Some, None, refl}
use Rattle.std.proofs.Common.{ap, sym, subst, ◌∙◌, arith}
use Rattle.std.specs.Prelude.{find}
use Rattle.std.specs.List.{range_with_len}
use Rattle.std.proofs.lemmas.Bool.{eqb-true}
use Rattle.grs_base.specs.declared.resource.SysId.{SysId}
use Rattle.rsa_message.specs.Message.{stands_at}

-- the message stands at one system alone
pub stands_at-exact : (h : Option SysId) (s : SysId) → stands_at h s ≡ true → h ≡ Some s
stands_at-exact None s e = absurd cc
stands_at-exact (Some t) s e = ap (λ (n : ℕ). Some (record { 0 = n })) (eqb-true t.0 s.0 e)

-- the first of the systems from this place on, by the next place
pub find_step : (test : SysId → Bool) (systems s k n : ℕ) → k < n →
    find test (map (λ j. record { 0 = (s + j) % systems }) (range_with_len (k + 1) (n - k)))
    ≡ cond (test (record { 0 = (s + (k + 1)) % systems })) (Some (record { 0 = (s + (k + 1)) % systems }))
    (find test (map (λ j. record { 0 = (s + j) % systems }) (range_with_len (k + 1 + 1) (n - (k + 1)))))
find_step test systems s k n h =
    let gap : n - k ≡ suc (n - (k + 1)) = omega arith in
    rw gap refl

-- a system that doesn't pass is passed over
pub find_on : (test : SysId → Bool) (systems s k n : ℕ) (r : SysId) (first : Option SysId) → k < n
    → r ≡ record { 0 = (s + (k + 1)) % systems } → test r ≡ false →
    find test (map (λ j. record { 0 = (s + j) % systems }) (range_with_len (k + 1) (n - k))) ≡ first →
    find test (map (λ j. record { 0 = (s + j) % systems }) (range_with_len (k + 1 + 1) (n - (k + 1)))) ≡ first
find_on test systems s k n r first h is fails e =
    let miss : test (record { 0 = (s + (k + 1)) % systems }) ≡ false = subst (λ (x : SysId). test x ≡ false) is fails in
    sym (rw miss at (find_step test systems s k n h)) ∙ e
