-- Numbers and names.
use Rattle.std.proofs.Common.{◌≡◌, ℕ, Bool, true, false, cond, not, ◌&&◌, ◌||◌, List, [], ◌∷◌, ◌++◌, map, length}
use Rattle.std.proofs.Common.{Option, Some, None, is_some, refl, ap, sym, ◌∙◌, subst, arith, eqb, nat_eq}
use Rattle.std.specs.Prelude.{filter, slice_get, IfSome}
use Rattle.std.proofs.Common.{◌<◌}
use Rattle.grs_base.specs.Lists.{place_of, decide_enq, standing_of}
use Rattle.grs_base.specs.declared.decision.Standing.TheVariants.{OnlyShared}
use Rattle.grs_base.specs.declared.resource.Ctl.{Ctl}
use Rattle.grs_base.specs.declared.resource.Ret.{Ret}
use Rattle.grs_base.specs.declared.decision.Effect.TheVariants.{Append}
use Rattle.grs_base.proofs.ListLaws.{place-le, owners-le}
use Rattle.grs_base.proofs.StateLaws.{appends_absent, only_owner}
use Rattle.grs_base.proofs.SameLaws.{same_task-exact}
use Rattle.std.specs.Option.{option_map_or}
use Rattle.std.specs.Prelude.{Result, Ok, Err, IsOk, OnOk, OnErr}
use Rattle.std.proofs.lemmas.Bool.{eqb-true, eq-eqb, ne_eqb}
use Rattle.std.proofs.lemmas.Bool.Decides.{nat_tests}
use Rattle.grs_base.specs.Same.{same_res}
use Rattle.grs_base.specs.State.{Held, State, list_at, list_at_some, list_of, queued_by, is_at, without, with_exclusive}
use Rattle.grs_base.specs.declared.resource.Res.{Res}
use Rattle.grs_base.specs.declared.resource.Elem.{Elem}
use Rattle.grs_base.specs.declared.resource.TaskId.{TaskId}
use Rattle.grs_base.specs.declared.resource.Ctl.TheVariants.{E}
use Rattle.grs_base.proofs.SameLaws.{same_res-exact, same_res-itself}
use Rattle.queue_table.specs.Names.{Numbers, queue_number, name_of, named, is_paired, all_numbers, all_named, IsTable}

-- the number of a resource has that resource as its name
pub name_of-number : (es : Numbers) (r : Res) (q : ℕ) → is_paired es ≡ true → queue_number es r ≡ Some q
    → name_of es q ≡ Some r
name_of-number [] r q p h = cc
name_of-number (e ∷ es) r q p h = grind (arith, nat_tests, p, h, same_res-exact r e.0, name_of-number es r q)

-- and the other way
pub queue_number-name : (es : Numbers) (r : Res) (q : ℕ) → is_paired es ≡ true → name_of es q ≡ Some r
    → queue_number es r ≡ Some q
queue_number-name [] r q p h = cc
queue_number-name (e ∷ es) r q p h =
    grind (arith, nat_tests, p, h, same_res-exact r e.0, same_res-itself r, queue_number-name es r q)

-- two resources are one where their numbers are
same_as : (es : Numbers) (r x : Res) (q n : ℕ) → is_paired es ≡ true → queue_number es r ≡ Some q
    → name_of es n ≡ Some x → same_res r x ≡ eqb q n
same_as es r x q n p h e = elim (same_res r x) as (λ b. same_res r x ≡ b → b ≡ eqb q n) [
  | true ↦ λ s.
      sym (eq-eqb q n
      (same_number q n (sym h ∙ ap (queue_number es) (same_res-exact r x s) ∙ queue_number-name es x n p e)))
  | false ↦ λ s.
      sym (ne_eqb q n (λ i. apart r x s (same_name r x (sym (name_of-number es r q p h) ∙ ap (name_of es) i ∙ e))))
] refl
  where
    same_number : (a b : ℕ) → Some a ≡ Some b → a ≡ b
    same_number a b i = cc

    same_name : (a b : Res) → Some a ≡ Some b → a ≡ b
    same_name a b i = cc

    apart : (a b : Res) → same_res a b ≡ false → a ≡ b → ⊥
    apart a b s i = grind (arith, s, i, same_res-itself a)

-- the list of a resource is that of its queue
pub list_of-named : (es : Numbers) (hs : Held ℕ) (r : Res) (q : ℕ) → is_paired es ≡ true → queue_number es r ≡ Some q
    → list_of (named es hs) r ≡ list_at nat_eq hs q
list_of-named es [] r q p h = refl
list_of-named es (x ∷ hs) r q p h = step (list_of-named es hs r q p h) (name_of es x.0) refl
  where
    step : list_of (named es hs) r ≡ list_at nat_eq hs q → (o : Option Res) → name_of es x.0 ≡ o
        → list_of (option_map_or (λ y. (y, x.1) ∷ named es hs) o (named es hs)) r
        ≡ cond (eqb q x.0) (x.1 ∷ list_at nat_eq hs q) (list_at nat_eq hs q)
    step rest None e = grind (arith, e, eqb-true q x.0, name_of-number es r q p h, rest)
    step rest (Some y) e = grind (arith, e, same_as es r y q x.0 p h e, rest)

-- a resource without a queue has an empty list
pub list_of-unnamed : (es : Numbers) (hs : Held ℕ) (r : Res) → is_paired es ≡ true → queue_number es r ≡ None
    → list_of (named es hs) r ≡ []
list_of-unnamed es [] r p h = refl
list_of-unnamed es (x ∷ hs) r p h = step (list_of-unnamed es hs r p h) (name_of es x.0) refl
  where
    step : list_of (named es hs) r ≡ [] → (o : Option Res) → name_of es x.0 ≡ o
        → list_of (option_map_or (λ y. (y, x.1) ∷ named es hs) o (named es hs)) r ≡ []
    step rest None e = rest
    step rest (Some y) e = grind (arith, e, h, same_res-exact r y, queue_number-name es y x.0 p e, rest)

-- a new element goes last under its resource
pub named-push : (es : Numbers) (hs : Held ℕ) (q : ℕ) (r : Res) (e : Elem) → name_of es q ≡ Some r
    → named es (hs ++ (q, e) ∷ []) ≡ named es hs ++ (r, e) ∷ []
named-push es [] q r e h = ap (λ (o : Option Res). option_map_or (λ y. (y, e) ∷ []) o []) h
named-push es (x ∷ hs) q r e h = step (named-push es hs q r e h) (name_of es x.0)
  where
    step : named es (hs ++ (q, e) ∷ []) ≡ named es hs ++ (r, e) ∷ [] → (o : Option Res)
        → option_map_or (λ y. (y, x.1) ∷ named es (hs ++ (q, e) ∷ [])) o (named es (hs ++ (q, e) ∷ []))
        ≡ option_map_or (λ y. (y, x.1) ∷ named es hs) o (named es hs) ++ (r, e) ∷ []
    step rest None = rest
    step rest (Some y) = ap (λ (l : State). (y, x.1) ∷ l) rest

pub named-filter : (es : Numbers) (f : ℕ × Elem → Bool) (g : Res × Elem → Bool)
    → ((x : ℕ × Elem) (r : Res) → name_of es x.0 ≡ Some r → f x ≡ g (r, x.1)) → (hs : Held ℕ)
    → named es (filter f hs) ≡ filter g (named es hs)
named-filter es f g same [] = refl
named-filter es f g same (x ∷ hs) = step (named-filter es f g same hs) (name_of es x.0) refl
  where
    step : named es (filter f hs) ≡ filter g (named es hs) → (o : Option Res) → name_of es x.0 ≡ o
        → named es (cond (f x) (x ∷ filter f hs) (filter f hs))
        ≡ filter g (option_map_or (λ y. (y, x.1) ∷ named es hs) o (named es hs))
    step rest None e = grind (arith, e, rest)
    step rest (Some y) e = grind (arith, e, same x y e, rest)

pub named-map : (es : Numbers) (f : ℕ × Elem → ℕ × Elem) (g : Res × Elem → Res × Elem)
    → ((x : ℕ × Elem) → (f x).0 ≡ x.0)
    → ((x : ℕ × Elem) (r : Res) → name_of es x.0 ≡ Some r → (r, (f x).1) ≡ g (r, x.1)) → (hs : Held ℕ)
    → named es (map f hs) ≡ map g (named es hs)
named-map es f g keeps same [] = refl
named-map es f g keeps same (x ∷ hs) = step (named-map es f g keeps same hs) (name_of es x.0) refl
  where
    step : named es (map f hs) ≡ map g (named es hs) → (o : Option Res) → name_of es x.0 ≡ o
        → named es (f x ∷ map f hs) ≡ map g (option_map_or (λ y. (y, x.1) ∷ named es hs) o (named es hs))
    step rest None e = grind (arith, e, keeps x, rest)
    step rest (Some y) e = grind (arith, e, keeps x, same x y e, rest)

pub named-without : (es : Numbers) (hs : Held ℕ) (r : Res) (q : ℕ) (t : TaskId) → is_paired es ≡ true
    → queue_number es r ≡ Some q → named es (without nat_eq hs q t) ≡ without same_res (named es hs) r t
named-without es hs r q t p h =
    named-filter es (λ x. not (is_at nat_eq q t x)) (λ x. not (is_at same_res r t x))
    (λ x y e. grind (arith, same_as es r y q x.0 p h e)) hs

pub named-exclusive : (es : Numbers) (hs : Held ℕ) (r : Res) (q : ℕ) (t : TaskId) → is_paired es ≡ true
    → queue_number es r ≡ Some q → named es (with_exclusive nat_eq hs q t) ≡ with_exclusive same_res (named es hs) r t
named-exclusive es hs r q t p h =
    named-map es (λ x. cond (is_at nat_eq q t x) (x.0, record { task = x.1.task; ctl = E }) x)
    (λ x. cond (is_at same_res r t x) (x.0, record { task = x.1.task; ctl = E }) x)
    (λ x. grind arith) (λ x y e. grind (arith, same_as es r y q x.0 p h e)) hs

-- a resource with a number that is new
pub name_of-push_old : (es : Numbers) (r : Res) (q n : ℕ) (x : Res) → name_of es n ≡ Some x
    → name_of (es ++ (r, q) ∷ []) n ≡ Some x
name_of-push_old [] r q n x h = cc
name_of-push_old (e ∷ es) r q n x h = grind (arith, h, name_of-push_old es r q n x)

pub name_of-push_new : (es : Numbers) (r : Res) (q : ℕ) → name_of es q ≡ None → name_of (es ++ (r, q) ∷ []) q ≡ Some r
name_of-push_new [] r q h = grind (arith, eq-eqb q q refl)
name_of-push_new (e ∷ es) r q h = grind (arith, h, name_of-push_new es r q)

name_of-push_none : (es : Numbers) (r : Res) (q n : ℕ) → name_of es n ≡ None → eqb n q ≡ false
    → name_of (es ++ (r, q) ∷ []) n ≡ None
name_of-push_none [] r q n h a = grind (arith, a)
name_of-push_none (e ∷ es) r q n h a = grind (arith, h, a, name_of-push_none es r q n)

queue_number-push_none : (es : Numbers) (r : Res) (q : ℕ) (x : Res) → queue_number es x ≡ None → same_res x r ≡ false
    → queue_number (es ++ (r, q) ∷ []) x ≡ None
queue_number-push_none [] r q x h a = grind (arith, a)
queue_number-push_none (e ∷ es) r q x h a = grind (arith, h, a, queue_number-push_none es r q x)

pub same_res-sym_false : (a b : Res) → same_res a b ≡ false → same_res b a ≡ false
same_res-sym_false a b h = grind (arith, h, same_res-exact b a, same_res-itself a)

pub is_paired-push : (es : Numbers) (r : Res) (q : ℕ) → is_paired es ≡ true → queue_number es r ≡ None
    → name_of es q ≡ None → is_paired (es ++ (r, q) ∷ []) ≡ true
is_paired-push [] r q p h f = refl
is_paired-push (e ∷ es) r q p h f =
    grind (
      arith,
      nat_tests,
      p,
      h,
      f,
      queue_number-push_none es r q e.0,
      name_of-push_none es r q e.1,
      same_res-sym_false r e.0,
      is_paired-push es r q,
    )

pub all_numbers-push : (live : ℕ → Bool) (es : Numbers) (r : Res) (q : ℕ) → all_numbers live es ≡ true → live q ≡ true
    → all_numbers live (es ++ (r, q) ∷ []) ≡ true
all_numbers-push live [] r q h l = grind (arith, l)
all_numbers-push live (e ∷ es) r q h l = grind (arith, h, l, all_numbers-push live es r q)

pub all_numbers-more : (live more : ℕ → Bool) → ((q : ℕ) → live q ≡ true → more q ≡ true) → (es : Numbers)
    → all_numbers live es ≡ true → all_numbers more es ≡ true
all_numbers-more live more up [] h = h
all_numbers-more live more up (e ∷ es) h = grind (arith, h, up e.1, all_numbers-more live more up es)

pub name_of-dead : (live : ℕ → Bool) (es : Numbers) (q : ℕ) → all_numbers live es ≡ true → live q ≡ false
    → name_of es q ≡ None
name_of-dead live [] q h d = refl
name_of-dead live (e ∷ es) q h d = grind (arith, h, d, eqb-true q e.1, name_of-dead live es q)

pub number_live : (live : ℕ → Bool) (es : Numbers) (r : Res) (q : ℕ) → all_numbers live es ≡ true
    → queue_number es r ≡ Some q → live q ≡ true
number_live live [] r q h n = cc
number_live live (e ∷ es) r q h n = grind (arith, h, n, number_live live es r q)

-- names that are kept keep the elements under them
pub named-more : (es more : Numbers) → ((n : ℕ) (x : Res) → name_of es n ≡ Some x → name_of more n ≡ Some x)
    → (hs : Held ℕ) → all_named es hs ≡ true → (named more hs ≡ named es hs) × (all_named more hs ≡ true)
named-more es more up [] h = (refl, refl)
named-more es more up (x ∷ hs) h = step (λ k. named-more es more up hs k) (name_of es x.0) refl h
  where
    step : (all_named es hs ≡ true → (named more hs ≡ named es hs) × (all_named more hs ≡ true)) → (o : Option Res)
        → name_of es x.0 ≡ o → (is_some o && all_named es hs) ≡ true →
        (named more (x ∷ hs) ≡ option_map_or (λ y. (y, x.1) ∷ named es hs) o (named es hs))
        × (all_named more (x ∷ hs) ≡ true)
    step rest None e k = cc
    step rest (Some y) e k = grind (arith, e, k, up x.0 y e, rest)

pub all_named-push : (es : Numbers) (hs : Held ℕ) (q : ℕ) (e : Elem) (r : Res) → all_named es hs ≡ true
    → name_of es q ≡ Some r → all_named es (hs ++ (q, e) ∷ []) ≡ true
all_named-push es [] q e r h n = grind (arith, n)
all_named-push es (x ∷ hs) q e r h n = grind (arith, h, n, all_named-push es hs q e r)

pub all_named-filter : (es : Numbers) (f : ℕ × Elem → Bool) (hs : Held ℕ) → all_named es hs ≡ true
    → all_named es (filter f hs) ≡ true
all_named-filter es f [] h = h
all_named-filter es f (x ∷ hs) h = grind (arith, h, all_named-filter es f hs)

pub all_named-exclusive : (es : Numbers) (hs : Held ℕ) (q : ℕ) (t : TaskId)
    → all_named es (with_exclusive nat_eq hs q t) ≡ all_named es hs
all_named-exclusive es [] q t = refl
all_named-exclusive es (x ∷ hs) q t = grind (arith, all_named-exclusive es hs q t)

pub list_of-some : (es : Numbers) (hs : Held ℕ) (r : Res) (o : Option ℕ) → is_paired es ≡ true → o ≡ queue_number es r
    → list_at_some hs o ≡ list_of (named es hs) r
list_of-some es hs r None p h = sym (list_of-unnamed es hs r p (sym h))
list_of-some es hs r (Some q) p h = sym (list_of-named es hs r q p (sym h))

pub when_ok : {A B : Type 0} (r : Result A B) (P : Type 0) → IsOk r → OnOk r P → P
when_ok (Ok x) P h p = p
when_ok (Err e) P h p = cc

-- what an element that is pushed into a queue that is there leaves
pub IsTable-push : (es : Numbers) (hs new : Held ℕ) (live more : ℕ → Bool) (r : Res) (q : ℕ) (e : Elem)
    → IsTable es hs live → queue_number es r ≡ Some q → new ≡ hs ++ (q, e) ∷ [] → ((n : ℕ) → more n ≡ live n)
    → IsTable es new more × (named es new ≡ named es hs ++ (r, e) ∷ [])
IsTable-push es hs new live more r q e t n is same =
    let name : name_of es q ≡ Some r = name_of-number es r q t.paired n in (
      record {
        paired = t.paired;
        live_numbers = all_numbers-more live more (λ k p. same k ∙ p) es t.live_numbers;
        named_all = ap (all_named es) is ∙ all_named-push es hs q e r t.named_all name;
      },
      ap (named es) is ∙ named-push es hs q r e name,
    )

-- the same for a resource whose queue is made first
pub IsTable-push_new : (es more_es : Numbers) (hs new : Held ℕ) (live made more : ℕ → Bool) (r : Res) (q : ℕ) (e : Elem)
    → IsTable es hs live → queue_number es r ≡ None → live q ≡ false → ((n : ℕ) → made n ≡ (eqb n q || live n))
    → more_es ≡ es ++ (r, q) ∷ [] → new ≡ hs ++ (q, e) ∷ [] → ((n : ℕ) → more n ≡ made n) →
    IsTable more_es new more × (named more_es new ≡ named es hs ++ (r, e) ∷ [])
IsTable-push_new es more_es hs new live made more r q e t none dead up is_es is same =
    let old : name_of es q ≡ None = name_of-dead live es q t.live_numbers dead in
    let name : name_of (es ++ (r, q) ∷ []) q ≡ Some r = name_of-push_new es r q old in
    let kept = named-more es (es ++ (r, q) ∷ []) (name_of-push_old es r q) hs t.named_all in
    let raised : (n : ℕ) → live n ≡ true → more n ≡ true = λ n p. grind (arith, same n, up n, p) in
    let itself : more q ≡ true = grind (arith, same q, up q, eq-eqb q q refl) in
    let paired : is_paired (es ++ (r, q) ∷ []) ≡ true = is_paired-push es r q t.paired none old in
    let lives : all_numbers more (es ++ (r, q) ∷ []) ≡ true =
    all_numbers-push more es r q (all_numbers-more live more raised es t.live_numbers) itself in (
      record {
        paired = ap is_paired is_es ∙ paired;
        live_numbers = ap (all_numbers more) is_es ∙ lives;
        named_all =
            ap (λ (l : Numbers). all_named l new) is_es
            ∙ ap (all_named (es ++ (r, q) ∷ [])) is
            ∙ all_named-push (es ++ (r, q) ∷ []) hs q e r kept.1 name;
      },
      ap (λ (l : Numbers). named l new) is_es
          ∙ ap (named (es ++ (r, q) ∷ [])) is
          ∙ named-push (es ++ (r, q) ∷ []) hs q r e name
          ∙ ap (λ (s : State). s ++ (r, e) ∷ []) kept.0,
    )

-- what is left where an element is taken out
pub IsTable-take : (es : Numbers) (hs new : Held ℕ) (live more : ℕ → Bool) (r : Res) (q : ℕ) (t : TaskId)
    → IsTable es hs live → queue_number es r ≡ Some q → new ≡ without nat_eq hs q t → ((n : ℕ) → more n ≡ live n)
    → IsTable es new more × (named es new ≡ without same_res (named es hs) r t)
IsTable-take es hs new live more r q t table n is same = (
  record {
    paired = table.paired;
    live_numbers = all_numbers-more live more (λ k p. same k ∙ p) es table.live_numbers;
    named_all = ap (all_named es) is ∙ all_named-filter es (λ x. not (is_at nat_eq q t x)) hs table.named_all;
  },
  ap (named es) is ∙ named-without es hs r q t table.paired n,
)

-- the same where it is taken out unless memory is wanting
pub IsTable-told :
    {A B : Type 0} (es : Numbers) (hs new : Held ℕ) (live more : ℕ → Bool) (r : Res) (q : ℕ) (t : TaskId)
    (o : Result A B)
    → IsTable es hs live → queue_number es r ≡ Some q → OnOk o (new ≡ without nat_eq hs q t) → OnErr o (new ≡ hs)
    → ((n : ℕ) → more n ≡ live n) →
    IsTable es new more × OnOk o (named es new ≡ without same_res (named es hs) r t)
    × OnErr o (named es new ≡ named es hs)
IsTable-told es hs new live more r q t (Ok x) table n is same_hs same =
    let taken = IsTable-take es hs new live more r q t table n is same in (taken.0, taken.1, tt)
IsTable-told es hs new live more r q t (Err x) table n is same_hs same = (
  record {
    paired = table.paired;
    live_numbers = all_numbers-more live more (λ k p. same k ∙ p) es table.live_numbers;
    named_all = ap (all_named es) same_hs ∙ table.named_all;
  },
  tt,
  ap (named es) same_hs,
)

-- where an element is made exclusive
pub IsTable-exclusive : (es : Numbers) (hs new : Held ℕ) (live more : ℕ → Bool) (r : Res) (q : ℕ) (t : TaskId)
    → IsTable es hs live → queue_number es r ≡ Some q → new ≡ with_exclusive nat_eq hs q t → ((n : ℕ) → more n ≡ live n)
    → IsTable es new more × (named es new ≡ with_exclusive same_res (named es hs) r t)
IsTable-exclusive es hs new live more r q t table n is same = (
  record {
    paired = table.paired;
    live_numbers = all_numbers-more live more (λ k p. same k ∙ p) es table.live_numbers;
    named_all = ap (all_named es) is ∙ all_named-exclusive es hs q t ∙ table.named_all;
  },
  ap (named es) is ∙ named-exclusive es hs r q t table.paired n,
)

-- the only owner stands first
pub owner_there : (es : List Elem) (t : TaskId) → standing_of es t ≡ OnlyShared → 0 < length es
owner_there [] t h = absurd (cc)
owner_there (e ∷ es) t h = omega arith

owner_same : (e : Elem) (es : List Elem) (t : TaskId) → standing_of (e ∷ es) t ≡ OnlyShared → e.task ≡ t
owner_same e es t h = sym (same_task-exact t e.task (grind (arith, nat_tests, h)))

pub owner_first : (es : List Elem) (t : TaskId) (P : TaskId → Type 0) → standing_of es t ≡ OnlyShared
    → IfSome (slice_get es 0) (λ e. P e.task) → P t
owner_first [] t P h p = absurd (cc)
owner_first (e ∷ es) t P h p = subst P (owner_same e es t h) p

pub appends-place : (es : List Elem) (t : TaskId) (c : Ctl) (ret : Ret) (full : Bool)
    → (decide_enq es t c ret full).effect ≡ Append → place_of es t ≡ length es
appends-place es t c ret full h =
    grind (arith, nat_tests, appends_absent es t c ret full h, place-le es t, owners-le es)

-- nothing leaves where there is no list
pub without_absent : (s : State) (r : Res) (t : TaskId) → [] ≡ list_of s r → s ≡ without same_res s r t
without_absent [] r t h = refl
without_absent (x ∷ s) r t h = grind (arith, h, without_absent s r t)

pub ruleset decided = (appends-place, only_owner)

-- a task has as many elements under names as under numbers
pub length-queued_by-named : (es : Numbers) (hs : Held ℕ) (t : TaskId) → all_named es hs ≡ true
    → length (queued_by hs t) ≡ length (queued_by (named es hs) t)
length-queued_by-named es [] t h = refl
length-queued_by-named es (x ∷ hs) t h = step (length-queued_by-named es hs t) (name_of es x.0) refl h
  where
    step : (all_named es hs ≡ true → length (queued_by hs t) ≡ length (queued_by (named es hs) t)) → (o : Option Res)
        → name_of es x.0 ≡ o → (is_some o && all_named es hs) ≡ true
        → length (queued_by (x ∷ hs) t)
        ≡ length (queued_by (option_map_or (λ y. (y, x.1) ∷ named es hs) o (named es hs)) t)
    step rest None e k = cc
    step rest (Some y) e k = grind (arith, k, rest)
