-- Looks at slices, of which there are 64.
use Rattle.std.proofs.Common.{◌≡◌, ◌<◌, ◌≤◌, ◌+◌, ◌-◌, ℕ, zero, suc, false, List, [], ◌∷◌, ◌++◌, min, refl, ap, sym}
use Rattle.std.proofs.Common.{◌∙◌, arith, eqb, append_assoc, append-nil}
use Rattle.std.specs.Prelude.{filter, ◌%◌}
use Rattle.std.proofs.lemmas.Bool.Decides.{nat_tests}
use Rattle.grs_base.specs.State.{State}
use Rattle.grs_base.specs.Rows.{rows_of}
use Rattle.grs_base.specs.Looks.{look, is_shown, is_of_place}
use Rattle.grs_base.specs.Slices.{hash_of}
use Rattle.grs_base.specs.declared.look.Filter.{Filter}
use Rattle.grs_base.specs.declared.look.Place.TheVariants.{Slice}
use Rattle.grs_base.specs.declared.resource.Res.{Res}
use Rattle.grs_base.specs.declared.resource.Res.TheVariants.{Step, System, Systems}
use Rattle.grs_base.specs.declared.resource.Row.{Row}
use Rattle.grs_wire.specs.Wants.{looks}

-- no resource is of a slice behind the last one
below_64 : (h : ℕ) → h % 64 < 64
below_64 h = omega arith

other_slice : (h n : ℕ) → 64 ≤ n → eqb (h % 64) n ≡ false
other_slice h n b = grind (arith, nat_tests, b, below_64 h)

out_of_place : (n : ℕ) (r : Res) → 64 ≤ n → is_of_place (Slice n) r ≡ false
out_of_place n (Systems q r) b = other_slice (hash_of q r) n b
out_of_place n (System s q r) b = refl
out_of_place n (Step s j q r) b = refl

none_shown : (n : ℕ) (f : Filter) (rows : List Row) → 64 ≤ n → filter (is_shown (Slice n) f) rows ≡ []
none_shown n f [] b = refl
none_shown n f (x ∷ rows) b = rw (out_of_place n x.res b) (none_shown n f rows b)

looks-out : (s : State) (first count : ℕ) (f : Filter) → 64 ≤ first → looks s first count f ≡ []
looks-out s first zero f b = refl
looks-out s first (suc count) f b =
    rw (none_shown first f (rows_of s) b) (looks-out s (suc first) count f (omega arith))

-- looks that end at the last slice show all
looks-cut : (s : State) (first count n : ℕ) (f : Filter) → n ≡ min (first + count) 64 - first
    → looks s first n f ≡ looks s first count f
looks-cut s first zero zero f e = refl
looks-cut s first zero (suc n) f e = absurd (omega arith)
looks-cut s first (suc count) zero f e = sym (looks-out s first (suc count) f (omega arith))
looks-cut s first (suc count) (suc n) f e =
    ap (λ (l : List Row). look s (Slice first) f ++ l) (looks-cut s (suc first) count n f (omega arith))

-- a slice more
looks-next : (s : State) (slice n : ℕ) (f : Filter) (rows more all : List Row) → rows ++ looks s slice (suc n) f ≡ all
    → more ≡ rows ++ look s (Slice slice) f → more ++ looks s (suc slice) n f ≡ all
looks-next s slice n f rows more all h is =
    rw is (append_assoc rows (look s (Slice slice) f) (looks s (suc slice) n f) ∙ h)

pub looks-more : (s : State) (slice last : ℕ) (f : Filter) (rows more all : List Row) → slice < last
    → rows ++ looks s slice (last - slice) f ≡ all → more ≡ rows ++ look s (Slice slice) f
    → more ++ looks s (slice + 1) (last - (slice + 1)) f ≡ all
looks-more s slice last f rows more all b h is =
    let n : ℕ = last - suc slice in
    let room : last - slice ≡ suc n = omega arith in
    let step : more ++ looks s (suc slice) n f ≡ all =
    looks-next s slice n f rows more all (ap (λ (k : ℕ). rows ++ looks s slice k f) (sym room) ∙ h) is in
    let next : slice + 1 ≡ suc slice = omega arith in
    rw next step

pub looks-end : (s : State) (first count slice last : ℕ) (f : Filter) (rows : List Row) → last ≡ min (first + count) 64
    → last ≤ slice → rows ++ looks s slice (last - slice) f ≡ looks s first (last - first) f
    → rows ≡ looks s first count f
looks-end s first count slice last f rows is past h =
    let none : last - slice ≡ 0 = omega arith in
    sym (append-nil rows)
    ∙ ap (λ (k : ℕ). rows ++ looks s slice k f) (sym none)
    ∙ h
    ∙ looks-cut s first count (last - first) f (ap (λ (k : ℕ). k - first) is)
