-- Numbers of which one is given back with its resource.
use Rattle.std.proofs.Common.{◌≡◌, ℕ, zero, suc, Bool, true, false, cond, not, ◌&&◌, List, [], ◌∷◌, Option, Some, None, is_some, refl, ap, sym, ◌∙◌, subst, arith, eqb, nat_eq}
use Rattle.std.specs.List.{AllByRecursion, IsDistinct}
use Rattle.std.specs.Map.{keys_of}
use Rattle.std.specs.Option.{option_map, option_map_or}
use Rattle.std.specs.Prelude.{slice_get, IfSome}
use Rattle.std.proofs.lemmas.Bool.{eqb-true, eq-eqb, ne_eqb}
use Rattle.std.proofs.lemmas.Bool.Decides.{nat_tests}
use Rattle.grs_base.specs.Same.{same_res}
use Rattle.grs_base.specs.State.{Held, list_at}
use Rattle.grs_base.specs.declared.resource.Res.{Res}
use Rattle.grs_base.proofs.SameLaws.{same_res-exact, same_res-itself}
use Rattle.queue_table.specs.Names.{Numbers, queue_number, name_of, named, is_paired, all_numbers, all_named, IsTable}
use Rattle.queue_table.proofs.NameLemmas.{name_of-number, queue_number-name, number_live}
use Rattle.queue_table.proofs.PurgeLemmas.{number_at-live}
use Rattle.queue_table.proofs.ClassLemmas.{number_free}

by_option : {A : Type 0} {P : Type 0} (o : Option A) → (o ≡ None → P) → ((x : A) → o ≡ Some x → P) → P
by_option None none some = none refl
by_option (Some x) none some = some x refl

some_none : {A : Type 0} {P : Type 0} (x : A) (o : Option A) → o ≡ Some x → o ≡ None → P
some_none x None s n = cc
some_none x (Some y) s n = cc

same_some : {A : Type 0} (x y : A) → Some x ≡ Some y → x ≡ y
same_some x y h = cc

-- a resource that isn't among others has no number
no_number : (r : Res) (es : Numbers) → AllByRecursion (λ k. same_res r k ≡ false) (keys_of es) → queue_number es r ≡ None
no_number r [] a = refl
no_number r (e ∷ es) a = grind (arith, a.0, no_number r es a.1)

-- a number behind the first is one of all
number_behind : (e : Res × ℕ) (es : Numbers) (r : Res) (q : ℕ) → queue_number es e.0 ≡ None → queue_number es r ≡ Some q → queue_number (e ∷ es) r ≡ Some q
number_behind e es r q none h = elim (same_res r e.0) as (λ b. same_res r e.0 ≡ b → cond b (Some e.1) (queue_number es r) ≡ Some q) [
  | true ↦ λ s. some_none q (queue_number es r) h (ap (queue_number es) (same_res-exact r e.0 s) ∙ none)
  | false ↦ λ s. h
] refl

-- resources of which none stands twice are paired with their numbers where each number has one name
pub is_paired-named : (name : ℕ → Option Res) (es : Numbers) → IsDistinct same_res (keys_of es) → ((r : Res) (q : ℕ) → queue_number es r ≡ Some q → name q ≡ Some r) → is_paired es ≡ true
unfolding IsDistinct
is_paired-named name [] d h = refl
is_paired-named name (e ∷ es) d h =
    let none : queue_number es e.0 ≡ None = no_number e.0 es d.0 in
    let rest : (r : Res) (q : ℕ) → queue_number es r ≡ Some q → name q ≡ Some r = λ r q n. h r q (number_behind e es r q none n) in
    let paired : is_paired es ≡ true = is_paired-named name es d.1 rest in
    let own : name e.1 ≡ Some e.0 = h e.0 e.1 (grind (arith, same_res-itself e.0)) in
    let alone : name_of es e.1 ≡ None = by_option (name_of es e.1) (λ n. n)
    (λ y n.
    let number : queue_number es y ≡ Some e.1 = queue_number-name es y e.1 paired n in
    let same : e.0 ≡ y = same_some e.0 y (sym own ∙ rest y e.1 number) in
    some_none e.1 (queue_number es y) number (ap (queue_number es) (sym same) ∙ none)) in
    grind (arith, none, alone, paired)

-- each number passes where that of each resource does
all_numbers-of : (live : ℕ → Bool) (es : Numbers) → IsDistinct same_res (keys_of es) → ((r : Res) (q : ℕ) → queue_number es r ≡ Some q → live q ≡ true) → all_numbers live es ≡ true
unfolding IsDistinct
all_numbers-of live [] d h = refl
all_numbers-of live (e ∷ es) d h =
    let none : queue_number es e.0 ≡ None = no_number e.0 es d.0 in
    let rest : all_numbers live es ≡ true = all_numbers-of live es d.1 (λ r q n. h r q (number_behind e es r q none n)) in
    let own : live e.1 ≡ true = h e.0 e.1 (grind (arith, same_res-itself e.0)) in
    grind (arith, rest, own)

-- elements keep their names where all names but one are kept, and none stands under that one's number
named-kept : (es more : Numbers) (q : ℕ) → ((n : ℕ) (x : Res) → eqb q n ≡ false → name_of es n ≡ Some x → name_of more n ≡ Some x) → (hs : Held ℕ) → list_at nat_eq hs q ≡ [] → all_named es hs ≡ true → (named more hs ≡ named es hs) × (all_named more hs ≡ true)
named-kept es more q up [] none h = (refl, refl)
named-kept es more q up (x ∷ hs) none h =
    let apart : eqb q x.0 ≡ false = other (eqb q x.0) none in
    let rest : list_at nat_eq hs q ≡ [] = grind (arith, apart, none) in
    step (named-kept es more q up hs rest) apart (name_of es x.0) refl h
  where
    other : (b : Bool) → cond b (x.1 ∷ list_at nat_eq hs q) (list_at nat_eq hs q) ≡ [] → b ≡ false
    other true k = cc
    other false k = refl

    step : (all_named es hs ≡ true → (named more hs ≡ named es hs) × (all_named more hs ≡ true)) → eqb q x.0 ≡ false → (o : Option Res) → name_of es x.0 ≡ o → (is_some o && all_named es hs) ≡ true →
        (named more (x ∷ hs) ≡ option_map_or (λ y. (y, x.1) ∷ named es hs) o (named es hs)) × (all_named more (x ∷ hs) ≡ true)
    step rest a None e k = cc
    step rest a (Some y) e k = grind (arith, e, k, up x.0 y a e, rest)

-- what is left where a resource gives its queue back, which is empty
pub IsTable-gone : (es more : Numbers) (hs new : Held ℕ) (live left : ℕ → Bool) (r : Res) (q : ℕ) → IsTable es hs live → queue_number es r ≡ Some q → list_at nat_eq hs q ≡ [] → IsDistinct same_res (keys_of more) →
    ((x : Res) → queue_number more x ≡ cond (same_res r x) None (queue_number es x)) → new ≡ hs → ((n : ℕ) → left n ≡ (not (eqb n q) && live n)) → IsTable more new left × (named more new ≡ named es hs)
IsTable-gone es more hs new live left r q t own none distinct less is gone =
    let was : (x : Res) (n : ℕ) → queue_number more x ≡ Some n → (same_res r x ≡ false) × (queue_number es x ≡ Some n) = λ x n k. other (same_res r x) x n (sym (less x) ∙ k) in
    let names : (x : Res) (n : ℕ) → queue_number more x ≡ Some n → name_of es n ≡ Some x = λ x n k. name_of-number es x n t.paired (was x n k).1 in
    let paired : is_paired more ≡ true = is_paired-named (name_of es) more distinct names in
    let apart : (x : Res) (n : ℕ) → queue_number more x ≡ Some n → eqb n q ≡ false = λ x n k. ne_eqb n q (λ i. unlike x (was x n k).0 (same_some r x (sym (name_of-number es r q t.paired own) ∙ ap (name_of es) (sym i) ∙ names x n k))) in
    let lives : all_numbers left more ≡ true = all_numbers-of left more distinct (λ x n k. grind (arith, gone n, apart x n k, number_live live es x n t.live_numbers (was x n k).1)) in
    let up : (n : ℕ) (x : Res) → eqb q n ≡ false → name_of es n ≡ Some x → name_of more n ≡ Some x = λ n x a k. name_of-number more x n paired (kept x n a (queue_number-name es x n t.paired k)) in
    let all = named-kept es more q up hs none t.named_all in (
      record {
        paired = paired;
        live_numbers = lives;
        named_all = ap (all_named more) is ∙ all.1;
      },
      ap (named more) is ∙ all.0,
    )
  where
    other : (b : Bool) (x : Res) (n : ℕ) → cond b None (queue_number es x) ≡ Some n → (b ≡ false) × (queue_number es x ≡ Some n)
    other true x n k = cc
    other false x n k = (refl, k)

    unlike : (x : Res) → same_res r x ≡ false → r ≡ x → ⊥
    unlike x s i = grind (arith, s, i, same_res-itself r)

    unequal : (a b : ℕ) → eqb a b ≡ false → a ≡ b → ⊥
    unequal a b f i = grind (arith, f, eq-eqb a b i)

    kept : (x : Res) (n : ℕ) → eqb q n ≡ false → queue_number es x ≡ Some n → queue_number more x ≡ Some n
    kept x n a k = less x ∙ (elim (same_res r x) as (λ b. same_res r x ≡ b → cond b None (queue_number es x) ≡ Some n) [
      | true ↦ λ s. absurd (unequal q n a (same_some q n (sym own ∙ ap (queue_number es) (same_res-exact r x s) ∙ k)))
      | false ↦ λ s. k
    ] refl)

pub if_some-map : {A : Type 0} {P R : A → Type 0} (o : Option A) → ((a : A) → P a → R a) → IfSome o P → IfSome o R
if_some-map None f h = h
if_some-map (Some a) f h = f a h

-- what stands at a place has its own number
number_at : (es : Numbers) (i : ℕ) (e : Res × ℕ) → is_paired es ≡ true → slice_get es i ≡ Some e → queue_number es e.0 ≡ Some e.1
number_at [] i e p h = absurd (cc)
number_at (x ∷ es) zero e p h =
    subst (λ (y : Res × ℕ). queue_number (y ∷ es) e.0 ≡ Some e.1) (sym (same_some x e h))
    (grind (arith, same_res-itself e.0))
number_at (x ∷ es) (suc i) e p h =
    let free = number_free x es p in
    number_behind x es e.0 e.1 free.0 (number_at es i e free.2 h)

-- What is left where the resource at a place gives its queue back, which is empty.
pub record IsLeft (es more : Numbers) (hs new : Held ℕ) (left : ℕ → Bool) : Type 0 where
  pub table : IsTable more new left
  pub elements : named more new ≡ named es hs

pub gone_at : (es more : Numbers) (hs new : Held ℕ) (live left : ℕ → Bool) (i q : ℕ) (taken : Option (Res × ℕ))
    → IsTable es hs live → Some q ≡ option_map (λ e. e.1) (slice_get es i) → taken ≡ slice_get es i
    → list_at nat_eq hs q ≡ [] → IsDistinct same_res (keys_of more)
    → IfSome taken (λ e. (x : Res) → queue_number more x ≡ cond (same_res e.0 x) None (queue_number es x))
    → new ≡ hs → ((n : ℕ) → left n ≡ (not (eqb n q) && live n)) → IsLeft es more hs new left
gone_at es more hs new live left i q taken t number took none distinct less is gone =
    by_place (slice_get es i) refl taken took number less
  where
    by_place : (o : Option (Res × ℕ)) → slice_get es i ≡ o → (u : Option (Res × ℕ)) → u ≡ slice_get es i
        → Some q ≡ option_map (λ (e : Res × ℕ). e.1) o
        → IfSome u (λ e. (x : Res) → queue_number more x ≡ cond (same_res e.0 x) None (queue_number es x))
        → IsLeft es more hs new left
    by_place None at u k n l = absurd (cc)
    by_place (Some e) at None k n l = absurd (cc)
    by_place (Some e) at (Some d) k n l =
        let same : d ≡ e = same_some d e (k ∙ at) in
        let own : queue_number es d.0 ≡ Some q =
        ap (λ (x : Res × ℕ). queue_number es x.0) same ∙ number_at es i e t.paired at ∙ sym n in
        let both = IsTable-gone es more hs new live left d.0 q t own none distinct l is gone in
        record { table = both.0; elements = both.1 }

pub live_at : (live : ℕ → Bool) (es : Numbers) (i q : ℕ) → all_numbers live es ≡ true
    → Some q ≡ option_map (λ e. e.1) (slice_get es i) → live q ≡ true
live_at live es i q h n = by_place (slice_get es i) refl n
  where
    by_place : (o : Option (Res × ℕ)) → slice_get es i ≡ o → Some q ≡ option_map (λ (e : Res × ℕ). e.1) o
        → live q ≡ true
    by_place None at k = absurd (cc)
    by_place (Some e) at k =
        ap live (same_some q e.1 k) ∙ number_at-live live es i e h at
