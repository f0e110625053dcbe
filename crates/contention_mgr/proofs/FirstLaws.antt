-- Who is told first has the resource that is shown first, and there the first place.
use Rattle.std.proofs.Common.{◌≡◌, ◌<◌, ℕ, zero, suc, Bool, true, false, cond, List, [], ◌∷◌, Option, Some, None}
use Rattle.std.proofs.Common.{is_some, refl, ap, sym, ◌∙◌, subst, arith}
use Rattle.std.specs.Prelude.{slice_get}
use Rattle.std.specs.Cmp.{tied_itself}
use Rattle.std.specs.Ordering.{is_lt, ordering_reverse}
use Rattle.std.specs.declared.cmp.Ordering.{Ordering}
use Rattle.std.specs.declared.cmp.Ordering.TheVariants.{Less, Equal, Greater}
use Rattle.grs_base.specs.ResOrder.{res_order}
use Rattle.grs_base.specs.declared.resource.Res.{Res}
use Rattle.grs_base.proofs.OrderLaws.{res_total}
use Rattle.contention_mgr.specs.Laws.{IsFirst}
use Rattle.contention_mgr.specs.Manager.{Ranked, is_untold, sooner, first_untold}
use Rattle.contention_mgr.proofs.UntoldLemmas.{by_cases, lt_is}

-- no two resources are shown before each other; and one that isn't shown before a second, which isn't shown before a
-- third, isn't shown before the third
not-both : (a b : Res) → is_lt (res_order a b) ≡ true → is_lt (res_order b a) ≡ false
not-both a b h = ap is_lt (res_total.antisymm b a ∙ ap ordering_reverse (lt_is (res_order a b) h))

not-before : (a b c : Res) → is_lt (res_order a b) ≡ false → is_lt (res_order b c) ≡ false
    → is_lt (res_order a c) ≡ false
not-before a b c h k = go (res_order a c) refl (res_order c b) refl
  where
    before : res_order a b ≡ Less → ⊥
    before i = let t : true ≡ false = sym (ap is_lt i) ∙ h in cc

    behind : res_order b c ≡ Less → ⊥
    behind i = let t : true ≡ false = sym (ap is_lt i) ∙ k in cc

    go : (o : Ordering) → res_order a c ≡ o → (p : Ordering) → res_order c b ≡ p → is_lt o ≡ false
    go Equal i p j = refl
    go Greater i p j = refl
    go Less i Less j = absurd (before (res_total.trans a c b i j))
    go Less i Equal j =
        absurd (before (res_total.antisymm a b ∙ ap ordering_reverse (sym (res_total.congr c b a j))
        ∙ sym (res_total.antisymm a c) ∙ i))
    go Less i Greater j = absurd (behind (res_total.antisymm b c ∙ ap ordering_reverse j))

-- one that is to be told is found
found-any : (home : ℕ) (xs : List Ranked) (i : ℕ) (y : Ranked) → slice_get xs i ≡ Some y → is_untold home y ≡ true
    → is_some (first_untold home xs) ≡ true
found-any home [] i y g u = cc
found-any home (e ∷ xs) zero y g u =
    let one : e ≡ y = cc in
    ap (λ (b : Bool). is_some (cond b (Some (sooner e (first_untold home xs))) (first_untold home xs)))
    (ap (is_untold home) one ∙ u)
found-any home (e ∷ xs) (suc i) y g u = go (is_untold home e) (found-any home xs i y g u)
  where
    go : (b : Bool) → is_some (first_untold home xs) ≡ true
        → is_some (cond b (Some (sooner e (first_untold home xs))) (first_untold home xs)) ≡ true
    go true rest = refl
    go false rest = rest

module _ (home : ℕ) (e : Ranked) (xs : List Ranked) where
  -- behind an element that isn't to be told
  module _ (told : is_untold home e ≡ false) (x : Ranked) (f : IsFirst home xs x) where
    never : (y : Ranked) → Some e ≡ Some y → is_untold home y ≡ true → ⊥
    never y g u =
        let one : e ≡ y = cc in let t : false ≡ true = sym told ∙ ap (is_untold home) one ∙ u in cc

    behind-least : (i : ℕ) (y : Ranked) → slice_get (e ∷ xs) i ≡ Some y → is_untold home y ≡ true
        → is_lt (res_order y.res x.res) ≡ false
    behind-least zero y g u = absurd (never y g u)
    behind-least (suc i) y g u = f.least i y g u

    behind-first : (i : ℕ) (y : Ranked) → i < suc f.place → slice_get (e ∷ xs) i ≡ Some y → is_untold home y ≡ true
        → is_lt (res_order x.res y.res) ≡ true
    behind-first zero y l g u = absurd (never y g u)
    behind-first (suc i) y l g u = f.first i y (omega (arith, l)) g u

    first-behind : IsFirst home (e ∷ xs) x
    first-behind = record { place = suc f.place; there = f.there; least = behind-least; first = behind-first }

  -- an element itself, where none behind it has a resource that is shown before
  module _ (least : (i : ℕ) (y : Ranked) → slice_get xs i ≡ Some y → is_untold home y ≡ true
      → is_lt (res_order y.res e.res) ≡ false) where
    itself-least : (i : ℕ) (y : Ranked) → slice_get (e ∷ xs) i ≡ Some y → is_untold home y ≡ true
        → is_lt (res_order y.res e.res) ≡ false
    itself-least zero y g u =
        let one : e ≡ y = cc in
        subst (λ (z : Ranked). is_lt (res_order z.res e.res) ≡ false) one (ap is_lt (tied_itself res_total e.res))
    itself-least (suc i) y g u = least i y g u

    first-itself : IsFirst home (e ∷ xs) e
    first-itself = record {
      place = zero;
      there = refl;
      least = itself-least;
      first = λ i y l g u. absurd (omega (arith, l));
    }

  -- one behind an element whose resource is shown after its own
  module _ (z : Ranked) (f : IsFirst home xs z) (l : is_lt (res_order z.res e.res) ≡ true) where
    past-least : (i : ℕ) (y : Ranked) → slice_get (e ∷ xs) i ≡ Some y → is_untold home y ≡ true
        → is_lt (res_order y.res z.res) ≡ false
    past-least zero y g u =
        let one : e ≡ y = cc in
        subst (λ (q : Ranked). is_lt (res_order q.res z.res) ≡ false) one (not-both z.res e.res l)
    past-least (suc i) y g u = f.least i y g u

    past-first : (i : ℕ) (y : Ranked) → i < suc f.place → slice_get (e ∷ xs) i ≡ Some y → is_untold home y ≡ true
        → is_lt (res_order z.res y.res) ≡ true
    past-first zero y k g u =
        let one : e ≡ y = cc in subst (λ (q : Ranked). is_lt (res_order z.res q.res) ≡ true) one l
    past-first (suc i) y k g u = f.first i y (omega (arith, k)) g u

    first-past : IsFirst home (e ∷ xs) z
    first-past = record { place = suc f.place; there = f.there; least = past-least; first = past-first }

  first-of : (x : Ranked) → is_untold home e ≡ true → (o : Option Ranked) → first_untold home xs ≡ o
      → ((z : Ranked) → first_untold home xs ≡ Some z → IsFirst home xs z) → Some (sooner e o) ≡ Some x
      → IsFirst home (e ∷ xs) x
  first-of x b None none rest k =
      let one : e ≡ x = cc in
      subst (IsFirst home (e ∷ xs)) one
      (first-itself (λ i y g u. absurd (let t = ap is_some none in let s = found-any home xs i y g u in cc)))
  first-of x b (Some z) is rest k = go (is_lt (res_order z.res e.res)) refl k
    where
      go : (c : Bool) → is_lt (res_order z.res e.res) ≡ c → Some (cond c z e) ≡ Some x → IsFirst home (e ∷ xs) x
      go true l j = let one : z ≡ x = cc in subst (IsFirst home (e ∷ xs)) one (first-past z (rest z is) l)
      go false l j =
          let one : e ≡ x = cc in
          subst (IsFirst home (e ∷ xs)) one
          (first-itself (λ i y g u. not-before y.res z.res e.res ((rest z is).least i y g u) l))

pub first-least : (home : ℕ) (xs : List Ranked) (x : Ranked) → first_untold home xs ≡ Some x → IsFirst home xs x
first-least home [] x h = absurd cc
first-least home (e ∷ xs) x h = by_cases (is_untold home e)
    (λ b.
    first-of home e xs x b (first_untold home xs) refl (first-least home xs)
    (subst (λ (c : Bool). cond c (Some (sooner e (first_untold home xs))) (first_untold home xs) ≡ Some x) b h))
    (λ b.
    first-behind home e xs b x (first-least home xs x
    (subst (λ (c : Bool). cond c (Some (sooner e (first_untold home xs))) (first_untold home xs) ≡ Some x) b h)))
