-- Heads by their numbers.
use Rattle.std.proofs.Common.{◌≡◌, ◌<◌, ◌≤◌, ◌+◌, ℕ, zero, suc, Bool, true, false, not, cond, List, [], ◌∷◌, ◌++◌}
use Rattle.std.proofs.Common.{length, set, get_or, refl, ap, sym, ◌∙◌, arith, eqb}
use Rattle.std.proofs.lemmas.Bool.{eqb-true}
use Rattle.std.proofs.lemmas.Bool.Decides.{nat_tests}
use Rattle.qel_store.specs.declared.heads.Head.{Head}
use Rattle.qel_store.specs.Heads.{no_head, head_at, is_free_at}

pub head_at-get : (hs : List Head) (q : ℕ) (h : Head) → q < length hs → h ≡ get_or hs q h → h ≡ head_at hs q
head_at-get [] q h l e = absurd (omega arith)
head_at-get (x ∷ hs) zero h l e = e
head_at-get (x ∷ hs) (suc q) h l e = head_at-get hs q h (omega arith) e

pub head_at-set : (hs : List Head) (i : ℕ) (h : Head) (q : ℕ) → i < length hs
    → head_at (set hs i h) q ≡ cond (eqb q i) h (head_at hs q)
head_at-set [] i h q l = absurd (omega arith)
head_at-set (x ∷ hs) zero h zero l = refl
head_at-set (x ∷ hs) zero h (suc q) l = grind (arith, nat_tests)
head_at-set (x ∷ hs) (suc i) h zero l = grind (arith, nat_tests)
head_at-set (x ∷ hs) (suc i) h (suc q) l = grind (arith, nat_tests, l, head_at-set hs i h q)

pub head_at-push : (hs : List Head) (q : ℕ) → head_at (hs ++ no_head ∷ []) q ≡ head_at hs q
head_at-push [] zero = refl
head_at-push [] (suc q) = refl
head_at-push (x ∷ hs) zero = refl
head_at-push (x ∷ hs) (suc q) = head_at-push hs q

pub is_free_at-get : (hs : List Head) (q : ℕ) (h : Head) → q < length hs → h ≡ get_or hs q h
    → is_free_at hs q ≡ not h.live
is_free_at-get [] q h l e = absurd (omega arith)
is_free_at-get (x ∷ hs) zero h l e = grind (arith, e)
is_free_at-get (x ∷ hs) (suc q) h l e = is_free_at-get hs q h (omega arith) e

pub is_free_at-past : (hs : List Head) (q : ℕ) → length hs ≤ q → is_free_at hs q ≡ false
is_free_at-past [] q l = refl
is_free_at-past (x ∷ hs) zero l = absurd (omega arith)
is_free_at-past (x ∷ hs) (suc q) l = is_free_at-past hs q (omega arith)

-- a queue in use is there
pub live_there : (hs : List Head) (q : ℕ) → (head_at hs q).live ≡ true → q < length hs
live_there [] q h = absurd (cc)
live_there (x ∷ hs) zero h = omega arith
live_there (x ∷ hs) (suc q) h = omega (arith, live_there hs q h)

pub free_there : (hs : List Head) (q : ℕ) → is_free_at hs q ≡ true → q < length hs
free_there [] q h = absurd (cc)
free_there (x ∷ hs) zero h = omega arith
free_there (x ∷ hs) (suc q) h = omega (arith, free_there hs q h)

pub free_dead : (hs : List Head) (q : ℕ) → is_free_at hs q ≡ true → (head_at hs q).live ≡ false
free_dead [] q h = absurd (cc)
free_dead (x ∷ hs) zero h = grind (arith, h)
free_dead (x ∷ hs) (suc q) h = free_dead hs q h

-- as many heads, of which those of the same queues are in use, have the same queues free
pub free_same : (gs hs : List Head) (q : ℕ) → length gs ≡ length hs
    → ((i : ℕ) → (head_at gs i).live ≡ (head_at hs i).live) → is_free_at gs q ≡ is_free_at hs q
free_same [] [] q l e = refl
free_same [] (h ∷ hs) q l e = absurd (omega arith)
free_same (g ∷ gs) [] q l e = absurd (omega arith)
free_same (g ∷ gs) (h ∷ hs) zero l e = ap not (e zero)
free_same (g ∷ gs) (h ∷ hs) (suc q) l e = free_same gs hs q (omega arith) (λ i. e (suc i))

-- one that isn't there, or isn't in use
pub head_at-past : (hs : List Head) (q : ℕ) → length hs ≤ q → head_at hs q ≡ no_head
head_at-past [] q l = refl
head_at-past (x ∷ hs) zero l = absurd (omega arith)
head_at-past (x ∷ hs) (suc q) l = head_at-past hs q (omega arith)

dead_free : (hs : List Head) (q : ℕ) → q < length hs → (head_at hs q).live ≡ false → is_free_at hs q ≡ true
dead_free [] q l h = absurd (omega arith)
dead_free (x ∷ hs) zero l h = grind (arith, h)
dead_free (x ∷ hs) (suc q) l h = dead_free hs q (omega arith) h

pub added_free : (hs gs : List Head) (q : ℕ) → q ≡ length hs → length gs ≡ q + 1
    → ((i : ℕ) → head_at gs i ≡ head_at hs i) → is_free_at gs q ≡ true
added_free hs gs q is more same =
    dead_free gs q (omega arith) (ap (λ (h : Head). h.live) (same q ∙ head_at-past hs q (omega arith)))

-- which queues are in use where one gets another head
pub live-set : (hs gs : List Head) (i : ℕ) (h : Head) → ((q : ℕ) → head_at gs q ≡ cond (eqb q i) h (head_at hs q))
    → (q : ℕ) → (head_at gs q).live ≡ cond (eqb q i) h.live (head_at hs q).live
live-set hs gs i h heads q = by_key (eqb q i) refl
  where
    by_key : (b : Bool) → eqb q i ≡ b → (head_at gs q).live ≡ cond b h.live (head_at hs q).live
    by_key true e = ap (λ (x : Head). x.live) (heads q ∙ ap (λ (c : Bool). cond c h (head_at hs q)) e)
    by_key false e = ap (λ (x : Head). x.live) (heads q ∙ ap (λ (c : Bool). cond c h (head_at hs q)) e)

pub live-kept : (hs gs : List Head) (i : ℕ) (h : Head) → h.live ≡ (head_at hs i).live
    → ((q : ℕ) → head_at gs q ≡ cond (eqb q i) h (head_at hs q)) → (q : ℕ) → (head_at gs q).live ≡ (head_at hs q).live
live-kept hs gs i h same heads q = live-set hs gs i h heads q ∙ by_key (eqb q i) refl
  where
    by_key : (b : Bool) → eqb q i ≡ b → cond b h.live (head_at hs q).live ≡ (head_at hs q).live
    by_key true e = same ∙ ap (λ (n : ℕ). (head_at hs n).live) (sym (eqb-true q i e))
    by_key false e = refl

pub ruleset heads = (nat_tests, head_at-get, head_at-set, head_at-push, is_free_at-get, is_free_at-past)
