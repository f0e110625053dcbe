-- Where the first request stands that passes a test, and that the first one which may be settled is of an entry that
-- the system manages.
use Rattle.std.proofs.Common.{◌≡◌, ◌<◌, ◌≤◌, ◌+◌, ℕ, zero, suc, true, false, cond, Bool, List, [], ◌∷◌, length}
use Rattle.std.proofs.Common.{Option, Some, None, is_some, refl, ap, sym, ◌∙◌, subst, arith}
use Rattle.std.proofs.lemmas.Bool.{ltb-true, and_parts}
use Rattle.std.proofs.lemmas.Bool.Decides.{nat_tests}
use Rattle.std.specs.List.{position, position_or_len, list_all}
use Rattle.std.specs.Option.{option_map}
use Rattle.std.specs.Prelude.{IfSome, find, nat_lt, not, ◌||◌, remove, slice_get, slice_index_or}
use Rattle.grs_node.specs.Removal.{IsOrderly}
use Rattle.grs_node.specs.Star.{StarPart, besides_first, first_held, is_kept, may_settle, serves, gathers_asked}
use Rattle.grs_node.specs.Star.{entry_for}
use Rattle.grs_wire.specs.declared.request.Req.{Req}

place-inside : (f : Req → Bool) (qs : List Req) (i : ℕ) → position f qs ≡ Some i
    → (i ≡ position_or_len f qs) × (i < length qs)
place-inside f qs i is = go (nat_lt (position_or_len f qs) (length qs)) refl is
  where
    go : (b : Bool) → nat_lt (position_or_len f qs) (length qs) ≡ b → cond b (Some (position_or_len f qs)) None ≡ Some i
        → (i ≡ position_or_len f qs) × (i < length qs)
    go true e h =
        let same : i ≡ position_or_len f qs = cc in
        let low : position_or_len f qs < length qs = ltb-true (position_or_len f qs) (length qs) e in
        (same, omega (arith, same, low))
    go false e h = absurd cc

next : (k : ℕ) → 1 + k ≡ suc k
next k = omega arith

-- the place behind a first request by whether that one passes
place-by : (f : Req → Bool) (P : ℕ → Type 0) (q : Req) (qs : List Req) (b : Bool) → f q ≡ b
    → P (position_or_len f (q ∷ qs)) → P (cond (not b) (1 + position_or_len f qs) 0)
place-by f P q qs b e h = subst (λ (c : Bool). P (cond (not c) (1 + position_or_len f qs) 0)) e h

-- what stands there is what is found, and taking it out leaves the others
found-at : (f : Req → Bool) (qs : List Req) → position_or_len f qs < length qs
    → slice_get qs (position_or_len f qs) ≡ find f qs
found-at f [] inside = absurd (omega (arith, inside))
found-at f (q ∷ qs) inside = go (f q) refl (λ k. found-at f qs k)
  where
    go : (b : Bool) → f q ≡ b
        → (position_or_len f qs < length qs → slice_get qs (position_or_len f qs) ≡ find f qs)
        → slice_get (q ∷ qs) (cond (not b) (1 + position_or_len f qs) 0) ≡ cond b (Some q) (find f qs)
    go true e rest = refl
    go false e rest =
        ap (λ (k : ℕ). slice_get (q ∷ qs) k) (next (position_or_len f qs))
        ∙ rest (let more = place-by f (λ k. k < length (q ∷ qs)) q qs false e inside in omega (arith, more))

pub first-at : (f : Req → Bool) (qs : List Req) (i : ℕ) → position f qs ≡ Some i → slice_get qs i ≡ find f qs
first-at f qs i is =
    let place = place-inside f qs i is in
    ap (slice_get qs) place.0 ∙ found-at f qs (omega (arith, place.0, place.1))

left-at : (f : Req → Bool) (qs : List Req) → position_or_len f qs < length qs
    → remove qs (position_or_len f qs) ≡ besides_first f qs
left-at f [] inside = absurd (omega (arith, inside))
left-at f (q ∷ qs) inside = go (f q) refl (λ k. left-at f qs k)
  where
    go : (b : Bool) → f q ≡ b
        → (position_or_len f qs < length qs → remove qs (position_or_len f qs) ≡ besides_first f qs)
        → remove (q ∷ qs) (cond (not b) (1 + position_or_len f qs) 0) ≡ cond b qs (q ∷ besides_first f qs)
    go true e rest = refl
    go false e rest =
        ap (λ (k : ℕ). remove (q ∷ qs) k) (next (position_or_len f qs))
        ∙ ap (λ (xs : List Req). q ∷ xs)
        (rest (let more = place-by f (λ k. k < length (q ∷ qs)) q qs false e inside in omega (arith, more)))

pub first-removed : (f : Req → Bool) (qs : List Req) (i : ℕ) → position f qs ≡ Some i
    → remove qs i ≡ besides_first f qs
first-removed f qs i is =
    let place = place-inside f qs i is in
    ap (remove qs) place.0 ∙ left-at f qs (omega (arith, place.0, place.1))

-- where none has a place none is found
none-found : (f : Req → Bool) (qs : List Req) → length qs ≤ position_or_len f qs → find f qs ≡ None
none-found f [] h = refl
none-found f (q ∷ qs) h = go (f q) refl (λ k. none-found f qs k)
  where
    go : (b : Bool) → f q ≡ b → (length qs ≤ position_or_len f qs → find f qs ≡ None)
        → cond b (Some q) (find f qs) ≡ None
    go true e rest = let none = place-by f (λ k. length (q ∷ qs) ≤ k) q qs true e h in absurd (omega (arith, none))
    go false e rest =
        rest (let more = place-by f (λ k. length (q ∷ qs) ≤ k) q qs false e h in omega (arith, more))

pub none-first : (f : Req → Bool) (qs : List Req) → position f qs ≡ None → find f qs ≡ None
none-first f qs is = none-found f qs (go (nat_lt (position_or_len f qs) (length qs)) refl is)
  where
    go : (b : Bool) → nat_lt (position_or_len f qs) (length qs) ≡ b
        → cond b (Some (position_or_len f qs)) None ≡ None → length qs ≤ position_or_len f qs
    go true e k = absurd cc
    go false e k = grind (arith, nat_tests, e)

-- ---- what stands at the place of the first request that may be settled, of those that a part holds
got : (qs : List Req) (i : ℕ) (d : Req) → i < length qs → slice_get qs i ≡ Some (slice_index_or qs i d)
got [] i d inside = absurd (omega (arith, inside))
got (q ∷ qs) zero d inside = refl
got (q ∷ qs) (suc i) d inside = got qs i d (omega (arith, inside))

-- it is lent
pub lent-first : {X : Type 0} (now : X → Req) (o : Option X) (p : StarPart) (qs : List Req) (i n : ℕ) → qs ≡ p.held
    → n ≡ length qs → position (may_settle p) p.held ≡ Some i → (i < n → is_some o ≡ true)
    → IfSome o (λ x. now x ≡ slice_index_or qs i (now x)) → option_map now o ≡ first_held p
lent-first now None p qs i n same count there some item =
    let place = place-inside (may_settle p) qs i (ap (position (may_settle p)) same ∙ there) in
    let none : false ≡ true = some (omega (arith, place.1, count)) in
    absurd cc
lent-first now (Some x) p qs i n same count there some item =
    let at : position (may_settle p) qs ≡ Some i = ap (position (may_settle p)) same ∙ there in
    let place = place-inside (may_settle p) qs i at in
    ap (λ (q : Req). Some q) item
    ∙ (sym (got qs i (now x) place.1) ∙ (first-at (may_settle p) qs i at ∙ ap (find (may_settle p)) same))

-- it is taken out, and the others are left
given : (f : Req → Bool) (qs : List Req) (i : ℕ) (o : Option Req) → position f qs ≡ Some i
    → ((d : Req) → i < length qs → o ≡ Some (slice_index_or qs i d)) → o ≡ find f qs
given f [] i o at h = let place = place-inside f [] i at in absurd (omega (arith, place.1))
given f (q ∷ qs) i o at h =
    let place = place-inside f (q ∷ qs) i at in
    h q place.1 ∙ (sym (got (q ∷ qs) i q place.1) ∙ first-at f (q ∷ qs) i at)

pub popped-first : (o : Option Req) (p : StarPart) (qs : List Req) (i n : ℕ) → qs ≡ p.held → n ≡ length qs
    → position (may_settle p) p.held ≡ Some i → ((d : Req) → i < n → o ≡ Some (slice_index_or qs i d))
    → o ≡ first_held p
popped-first o p qs i n same count there h =
    given (may_settle p) qs i o (ap (position (may_settle p)) same ∙ there)
    (λ d inside. h d (omega (arith, inside, count)))
    ∙ ap (find (may_settle p)) same

pub popped-rest : (o : Option Req) (q p : StarPart) (new : List Req) (i : ℕ) → q ≡ p
    → position (may_settle p) p.held ≡ Some i → IfSome o (λ x. new ≡ remove q.held i)
    → IfSome o (λ x. record q { held = new } ≡ record p { held = besides_first (may_settle p) p.held })
popped-rest None q p new i same there h = tt
popped-rest (Some x) q p new i same there h =
    ap (λ (r : StarPart). record r { held = new }) same
    ∙ ap (λ (hs : List Req). record p { held = hs })
    (h ∙ (ap (λ (r : StarPart). remove r.held i) same ∙ first-removed (may_settle p) p.held i there))

pub ruleset firsts = (none-first)

-- ---- a request that may be settled
-- what is found passes its test, and what all pass
found-passes : (good test : Req → Bool) (qs : List Req) (q : Req) → list_all good qs ≡ true → find test qs ≡ Some q
    → (good q ≡ true) × (test q ≡ true)
found-passes good test [] q h is = absurd cc
found-passes good test (x ∷ qs) q h is =
    go (test x) refl is (found-passes good test qs q (and_parts (good x) (list_all good qs) h).1)
  where
    parts : (good x ≡ true) × (list_all good qs ≡ true)
    parts = and_parts (good x) (list_all good qs) h

    go : (b : Bool) → test x ≡ b → cond b (Some x) (find test qs) ≡ Some q
        → (find test qs ≡ Some q → (good q ≡ true) × (test q ≡ true)) → (good q ≡ true) × (test q ≡ true)
    go true e k rest =
        let same : x ≡ q = cc in
        (subst (λ (y : Req). good y ≡ true) same parts.0, subst (λ (y : Req). test y ≡ true) same e)
    go false e k rest = rest k

-- a request of an entry that the system manages or gathers, and doesn't gather, is of one that it manages
served : (a b : Bool) → (a || b) ≡ true → not b ≡ true → a ≡ true
served true b h k = refl
served false true h k = absurd cc
served false false h k = absurd cc

pub first-served : (p : StarPart) (q : Req) → IsOrderly p → first_held p ≡ Some q → serves p q ≡ true
first-served p q h is =
    let passes = found-passes (is_kept p) (may_settle p) p.held q h.held is in
    served (serves p q) (gathers_asked p (entry_for p q.want)) passes.0 passes.1

pub ruleset first_is_served = (first-served)
