-- How many entries a history has, whatever the lists reply.
use Rattle.std.proofs.Common.{◌≡◌, ◌<◌, ℕ, zero, suc, ◌+◌, List, [], ◌∷◌, ◌++◌, length, drop, get_or, refl, ap, sym}
use Rattle.std.proofs.Common.{◌∙◌, arith}
use Rattle.std.proofs.lemmas.List.{length-append, at_drop_more}
use Rattle.grs_base.specs.State.{State}
use Rattle.grs_base.specs.declared.look.Filter.{Filter}
use Rattle.grs_base.specs.declared.resource.SysId.{SysId}
use Rattle.grs_base.specs.declared.resource.TaskId.{TaskId}
use Rattle.grs_wire.specs.History.{look_entries, entries_for, fixed_entries, after_fixed, answered_from, answered}
use Rattle.grs_wire.specs.declared.request.Fixed.{Fixed}
use Rattle.grs_wire.specs.declared.request.Fixed.TheVariants.{Asked, LocalLook, Purged}
use Rattle.grs_wire.specs.declared.request.Req.{Req}
use Rattle.grs_wire.specs.declared.request.Want.{Want}
use Rattle.grs_wire.specs.declared.request.Want.TheVariants as wants

pub length-looks : (s : State) (t : TaskId) (first count : ℕ) (f : Filter)
    → length (look_entries s t first count f) ≡ count
length-looks s t first zero f = refl
length-looks s t first (suc count) f = ap suc (length-looks s t (suc first) count f)

same-wants : (s u : State) (t : TaskId) (w : Want) → length (entries_for s t w) ≡ length (entries_for u t w)
same-wants s u t (wants.Enq r c ret full) = refl
same-wants s u t (wants.Deq r have) = refl
same-wants s u t (wants.Release r) = refl
same-wants s u t (wants.Look first count f) = length-looks s t first count f ∙ sym (length-looks u t first count f)

same-entries : (s u : State) (by : SysId) (x : Fixed) → length (fixed_entries s by x) ≡ length (fixed_entries u by x)
same-entries s u by (Asked q) = same-wants s u q.task q.want
same-entries s u by (LocalLook t f) = refl
same-entries s u by (Purged target) = refl

same-answered : (s u : State) (xs : List (SysId × Fixed)) → length (answered_from s xs) ≡ length (answered_from u xs)
same-answered s u [] = refl
same-answered s u (x ∷ xs) =
    let left = length-append (fixed_entries s x.0 x.1) (answered_from (after_fixed s x.1) xs) in
    let right = length-append (fixed_entries u x.0 x.1) (answered_from (after_fixed u x.1) xs) in
    let first = same-entries s u x.0 x.1 in
    let rest = same-answered (after_fixed s x.1) (after_fixed u x.1) xs in
    omega (arith, left, right, first, rest)

one-more : (x : SysId × Fixed) (xs : List (SysId × Fixed))
    → length (answered (x ∷ xs)) ≡ length (fixed_entries [] x.0 x.1) + length (answered xs)
one-more x xs =
    let joined = length-append (fixed_entries [] x.0 x.1) (answered_from (after_fixed [] x.1) xs) in
    let rest = same-answered (after_fixed [] x.1) [] xs in
    omega (arith, joined, rest)

pub answered-more : (xs : List (SysId × Fixed)) (i : ℕ) (x : SysId × Fixed) → i < length xs → x ≡ get_or xs i x
    → length (answered (drop i xs)) ≡ length (fixed_entries [] x.0 x.1) + length (answered (drop (i + 1) xs))
answered-more xs i x within at =
    at_drop_more (λ ys. length (answered ys)) xs i x within
    ∙ ap (λ y. length (answered (y ∷ drop (i + 1) xs))) (sym at)
    ∙ one-more x (drop (i + 1) xs)

-- a look makes an entry for each slice
pub look-count : (x : Fixed) (q : Req) (first count : ℕ) (f : Filter) (s : State) (by : SysId) → x ≡ Asked q
    → q.want ≡ wants.Look first count f → length (fixed_entries s by x) ≡ count
look-count x q first count f s by asked look =
    ap (λ (y : Fixed). length (fixed_entries s by y)) asked
    ∙ ap (λ (w : Want). length (entries_for s q.task w)) look
    ∙ length-looks s q.task first count f

pub ruleset entries = (length-looks, answered-more)
