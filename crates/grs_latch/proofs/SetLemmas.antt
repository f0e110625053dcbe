-- Sets by place: what a call says and makes of the set of its name, among all.
use Rattle.std.proofs.Common.{◌≡◌, ◌≤◌, ◌<◌, ◌+◌, ℕ, zero, suc, Bool, true, false, List, [], ◌∷◌, ◌++◌, length}
use Rattle.std.proofs.Common.{refl, ap, sym, ◌∙◌, arith, get_or, set, append-nil}
use Rattle.std.specs.Prelude.{Result, Ok, Err, IfOk, OnOk, OnErr}
use Rattle.std.specs.Str.{bytes_eq}
use Rattle.grs_latch.specs.Latches.{Lists}
use Rattle.grs_latch.specs.Calls.{Sets, MayCome, AllCome, after_all, set_name, name_of, is_there, reply_in, lists_after}
use Rattle.grs_latch.specs.Calls.{reply_apart, made_by, reply, after}
use Rattle.grs_latch.specs.Places.{set_place}
use Rattle.grs_latch.specs.declared.call.LatchCall.{LatchCall}
use Rattle.grs_latch.specs.declared.reply.LatchReply.{LatchReply}
use Rattle.grs_latch.specs.declared.sets.NamedSet.{NamedSet}
use Rattle.grs_latch.proofs.NumberLemmas.{by_cases}

-- where a set has the name
reply-there : (at p k : ℕ) (c : LatchCall) (ss : Sets) (a : NamedSet) → k ≡ at + p → p ≡ set_place (name_of c) ss
    → p < length ss → a ≡ get_or ss p a → reply at c ss ≡ reply_in k c a.latches
reply-there at p k c [] a place is h g = absurd (omega (arith, h))
reply-there at zero k c (s ∷ ss) a place is h g =
    let same : k ≡ at = omega (arith, place) in
    by_cases (bytes_eq s.name (name_of c)) (λ e. grind (arith, e, g, same)) (λ e. absurd (grind (arith, e, is)))
reply-there at (suc p) k c (s ∷ ss) a place is h g =
    by_cases (bytes_eq s.name (name_of c))
    (λ e. absurd (grind (arith, e, is)))
    (λ e. let on : reply (suc at) c ss ≡ reply_in k c a.latches =
    reply-there (suc at) p k c ss a (omega (arith, place)) (grind (arith, e, is)) (omega (arith, h)) g in
    grind (arith, e, on))

named : (a b : NamedSet) (ls : Lists) → b.name ≡ a.name → b.latches ≡ ls → b ≡ record { name = a.name; latches = ls }
named a b ls name is =
    ap (λ (n : List ℕ). record { name = n; latches = b.latches }) name
    ∙ ap (λ (l : Lists). record { name = a.name; latches = l }) is

after-there : (p : ℕ) (c : LatchCall) (ss : Sets) (a b : NamedSet) → p ≡ set_place (name_of c) ss → p < length ss
    → a ≡ get_or ss p a → b.name ≡ a.name → b.latches ≡ lists_after c a.latches → set ss p b ≡ after c ss
after-there p c [] a b is h g name made = absurd (omega (arith, h))
after-there zero c (s ∷ ss) a b is h g name made =
    by_cases (bytes_eq s.name (name_of c))
    (λ e. grind (arith, e, g, named a b (lists_after c a.latches) name made))
    (λ e. absurd (grind (arith, e, is)))
after-there (suc p) c (s ∷ ss) a b is h g name made =
    by_cases (bytes_eq s.name (name_of c))
    (λ e. absurd (grind (arith, e, is)))
    (λ e. let on : set ss p b ≡ after c ss =
    after-there p c ss a b (grind (arith, e, is)) (omega (arith, h)) g name made in
    grind (arith, e, on))

set-same : (p : ℕ) (ss : Sets) (a b : NamedSet) → p < length ss → a ≡ get_or ss p a → b.name ≡ a.name
    → b.latches ≡ a.latches → set ss p b ≡ ss
set-same p [] a b h g name same = absurd (omega (arith, h))
set-same zero (s ∷ ss) a b h g name same =
    ap (λ (x : NamedSet). x ∷ ss) (named a b a.latches name same ∙ g)
set-same (suc p) (s ∷ ss) a b h g name same =
    ap (λ (x : Sets). s ∷ x) (set-same p ss a b (omega (arith, h)) g name same)

pub reply_ok : {E : Type 0} (r : Result LatchReply E) (p : ℕ) (c : LatchCall) (ss : Sets) (a : NamedSet)
    → p ≡ set_place (name_of c) ss → p < length ss → a ≡ get_or ss p a
    → IfOk r (λ x. x ≡ reply_in p c a.latches) → IfOk r (λ x. x ≡ reply 0 c ss)
reply_ok (Ok x) p c ss a is h g told = told ∙ sym (reply-there 0 p p c ss a (omega arith) is h g)
reply_ok (Err x) p c ss a is h g told = tt

pub after_ok : {E : Type 0} (r : Result LatchReply E) (p : ℕ) (c : LatchCall) (ss : Sets) (a b : NamedSet)
    → p ≡ set_place (name_of c) ss → p < length ss → a ≡ get_or ss p a → b.name ≡ a.name
    → OnOk r (b.latches ≡ lists_after c a.latches) → OnOk r (set ss p b ≡ after c ss)
after_ok (Ok x) p c ss a b is h g name made = after-there p c ss a b is h g name made
after_ok (Err x) p c ss a b is h g name made = tt

pub same_err : {E : Type 0} (r : Result LatchReply E) (p : ℕ) (ss : Sets) (a b : NamedSet)
    → p < length ss → a ≡ get_or ss p a → b.name ≡ a.name
    → OnErr r (b.latches ≡ a.latches) → OnErr r (set ss p b ≡ ss)
same_err (Ok x) p ss a b h g name same = tt
same_err (Err x) p ss a b h g name same = set-same p ss a b h g name same

-- where none has
pub reply-apart : (at : ℕ) (c : LatchCall) (ss : Sets) → length ss ≡ set_place (name_of c) ss
    → reply at c ss ≡ reply_apart c
reply-apart at c [] is = refl
reply-apart at c (s ∷ ss) is =
    by_cases (bytes_eq s.name (name_of c))
    (λ e. absurd (grind (arith, e, is)))
    (λ e. let on : reply (suc at) c ss ≡ reply_apart c = reply-apart (suc at) c ss (grind (arith, e, is)) in
    grind (arith, e, on))

pub after-apart : (c : LatchCall) (ss : Sets) → length ss ≡ set_place (name_of c) ss → after c ss ≡ ss ++ made_by c
after-apart c [] is = refl
after-apart c (s ∷ ss) is =
    by_cases (bytes_eq s.name (name_of c))
    (λ e. absurd (grind (arith, e, is)))
    (λ e. let on : after c ss ≡ ss ++ made_by c = after-apart c ss (grind (arith, e, is)) in grind (arith, e, on))

pub there-none : (n : List ℕ) (ss : Sets) → length ss ≡ set_place n ss → is_there n ss ≡ false
there-none n [] is = refl
there-none n (s ∷ ss) is =
    by_cases (bytes_eq s.name n)
    (λ e. absurd (grind (arith, e, is)))
    (λ e. let on : is_there n ss ≡ false = there-none n ss (grind (arith, e, is)) in grind (arith, e, on))

-- how many there are
pub after-length : (c : LatchCall) (ss : Sets) → length (after c ss) ≤ length ss + length (made_by c)
after-length c [] = omega arith
after-length c (s ∷ ss) =
    by_cases (bytes_eq s.name (name_of c))
    (λ e. grind (arith, e))
    (λ e. grind (arith, e, after-length c ss))

-- names by place
pub set_name-at : (p : ℕ) (ss : Sets) (a : NamedSet) → p < length ss → a ≡ get_or ss p a → set_name p ss ≡ a.name
set_name-at p [] a h g = absurd (omega (arith, h))
set_name-at zero (s ∷ ss) a h g = ap (λ (y : NamedSet). y.name) (sym g)
set_name-at (suc p) (s ∷ ss) a h g = set_name-at p ss a (omega (arith, h)) g

pub set_name-end : (p : ℕ) (ss : Sets) → length ss ≤ p → set_name p ss ≡ []
set_name-end p [] h = refl
set_name-end zero (s ∷ ss) h = absurd (omega (arith, h))
set_name-end (suc p) (s ∷ ss) h = set_name-end p ss (omega (arith, h))

-- one call more
pub after_all-more : (cs : List LatchCall) (c : LatchCall) (ss : Sets)
    → after_all (cs ++ c ∷ []) ss ≡ after c (after_all cs ss)
after_all-more [] c ss = refl
after_all-more (d ∷ cs) c ss = after_all-more cs c (after d ss)

pub all_come-more : (cs : List LatchCall) (c : LatchCall) (ss : Sets) → AllCome cs ss → MayCome c (after_all cs ss)
    → AllCome (cs ++ c ∷ []) ss
all_come-more [] c ss h m = (m, tt)
all_come-more (d ∷ cs) c ss h m = (h.0, all_come-more cs c (after d ss) h.1 m)

pub ruleset name_at = (set_name-at, set_name-end)

pub ruleset calls = (reply-apart, after-apart, there-none)
