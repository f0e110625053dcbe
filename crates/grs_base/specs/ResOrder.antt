-- The order in which resources are shown.
use Rattle.std.specs.Prelude.{ℕ, List, [], ◌∷◌}
use Rattle.std.specs.declared.cmp.Ordering.{Ordering}
use Rattle.std.specs.Ordering.{nat_cmp, on, then_cmp}
use Rattle.std.specs.Cmp.Lexicographic.{slice_cmp}
use Rattle.grs_base.specs.Names.{padded}
use Rattle.grs_base.specs.declared.resource.Res.{Res}
use Rattle.grs_base.specs.declared.resource.Res.TheVariants.{Step, System, Systems}

-- Where a resource stands among all: the Systems resources first, then system by system its System resources,
-- and behind these its Step resources, job by job.
abbrev pub group_of : Res → List ℕ
group_of (Systems q r) = []
group_of (System s q r) = s.0 ∷ []
group_of (Step s j q r) = s.0 ∷ j ∷ []

abbrev pub qname_of : Res → List ℕ
qname_of (Systems q r) = q
qname_of (System s q r) = q
qname_of (Step s j q r) = q

abbrev pub rname_of : Res → List ℕ
rname_of (Systems q r) = r
rname_of (System s q r) = r
rname_of (Step s j q r) = r

-- Numbers are compared one by one, and a list stands before those that go on from it.
abbrev pub by_numbers : List ℕ → List ℕ → Ordering
by_numbers = slice_cmp nat_cmp

-- By group, then by the padded qname, then by the rname. The last comparison tells only qnames apart that
-- differ by blanks at their ends, and the qnames of resources have none there.
abbrev pub res_order : Res → Res → Ordering
res_order =
    then_cmp (on group_of by_numbers)
    (then_cmp (on (λ r. padded (qname_of r)) by_numbers) (then_cmp (on rname_of by_numbers) (on qname_of by_numbers)))
