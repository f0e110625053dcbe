-- Laws of the order of resources.
use Rattle.std.proofs.Common.{◌≡◌, ℕ, List, [], ◌∷◌, ◌++◌, refl, ap, sym, ◌∙◌, arith}
use Rattle.std.specs.declared.cmp.Ordering.{Ordering}
use Rattle.std.specs.declared.cmp.Ordering.TheVariants.{Less, Equal, Greater}
use Rattle.std.specs.Ordering.{on, ordering_then, eq_by_cmp, is_eq}
use Rattle.std.specs.Cmp.{IsTotalOrder, tied_itself, Equal-is, both_ways, then_total, on_total, nat_cmp_total}
use Rattle.std.specs.Cmp.Lexicographic.{nat_list_cmp_total}
use Rattle.std.specs.FinMap.{IsAntisymmetric, nat_cmp-IsAntisymmetric, slice_cmp-IsAntisymmetric}
use Rattle.grs_base.specs.Same.{same_res}
use Rattle.grs_base.specs.Names.{padded}
use Rattle.grs_base.specs.ResOrder.{group_of, qname_of, rname_of, by_numbers, res_order}
use Rattle.grs_base.specs.declared.resource.Res.{Res}
use Rattle.grs_base.specs.declared.resource.Res.TheVariants.{Step, System, Systems}
use Rattle.grs_base.proofs.SameLaws.{same_res-exact, same_res-itself}

pub res_total : IsTotalOrder res_order
res_total =
    then_total (on_total group_of nat_list_cmp_total) (then_total
    (on_total (λ r. padded (qname_of r)) nat_list_cmp_total)
    (then_total (on_total rname_of nat_list_cmp_total) (on_total qname_of nat_list_cmp_total)))

then_equal : (r s : Ordering) → ordering_then r s ≡ Equal → (r ≡ Equal) × (s ≡ Equal)
then_equal Less s e = cc
then_equal Equal s e = (refl, e)
then_equal Greater s e = cc

same_numbers : (xs ys : List ℕ) → by_numbers xs ys ≡ Equal → xs ≡ ys
same_numbers = slice_cmp-IsAntisymmetric nat_cmp-IsAntisymmetric

-- the group and the names make the resource
by_parts : (a b : Res) → group_of a ≡ group_of b → qname_of a ≡ qname_of b → rname_of a ≡ rname_of b → a ≡ b
by_parts (Systems q r) (Systems p u) g e f = λ i. Systems (e i) (f i)
by_parts (Systems q r) (System t p u) g e f = cc
by_parts (Systems q r) (Step t k p u) g e f = cc
by_parts (System s q r) (Systems p u) g e f = cc
by_parts (System s q r) (System t p u) g e f =
    let qnames : q ≡ p = e in let rnames : r ≡ u = f in let one : s ≡ t = grind (arith, g) in cc
by_parts (System s q r) (Step t k p u) g e f = cc
by_parts (Step s j q r) (Systems p u) g e f = cc
by_parts (Step s j q r) (System t p u) g e f = cc
by_parts (Step s j q r) (Step t k p u) g e f =
    let qnames : q ≡ p = e in
    let rnames : r ≡ u = f in
    let one : s ≡ t = grind (arith, g) in
    let jobs : j ≡ k = grind (arith, g) in
    cc

pub res_order-IsAntisymmetric : IsAntisymmetric res_order
res_order-IsAntisymmetric a b e =
    let groups = then_equal (on group_of by_numbers a b) _ e in
    let padded_qnames = then_equal (on (λ r. padded (qname_of r)) by_numbers a b) _ groups.1 in
    let rnames = then_equal (on rname_of by_numbers a b) _ padded_qnames.1 in
    by_parts a b (same_numbers _ _ groups.0) (same_numbers _ _ rnames.1) (same_numbers _ _ rnames.0)

-- two resources tie exactly where they are one
pub same_res-tie : (a b : Res) → same_res a b ≡ eq_by_cmp res_order a b
same_res-tie a b =
    both_ways _ _
    (λ e. ap (λ (x : Res). eq_by_cmp res_order a x) (sym (same_res-exact a b e)) ∙ ap is_eq (tied_itself res_total a))
    (λ e.
    ap (λ (x : Res). same_res a x) (sym (res_order-IsAntisymmetric a b ((Equal-is (res_order a b)).0 e)))
    ∙ same_res-itself a)

pub ordering_then-equal : (r : Ordering) → ordering_then r Equal ≡ r
ordering_then-equal Less = refl
ordering_then-equal Equal = refl
ordering_then-equal Greater = refl

pub ruleset orders = (ordering_then-equal)

-- equal bytes in front decide nothing
pub by_numbers-front : (cs xs ys : List ℕ) → by_numbers (cs ++ xs) (cs ++ ys) ≡ by_numbers xs ys
by_numbers-front [] xs ys = refl
by_numbers-front (c ∷ cs) xs ys =
    ap (λ (o : Ordering). ordering_then o (by_numbers (cs ++ xs) (cs ++ ys))) (tied_itself nat_cmp_total c)
    ∙ by_numbers-front cs xs ys

pub ruleset runs = (by_numbers-front)
