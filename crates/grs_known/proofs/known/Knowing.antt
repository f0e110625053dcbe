-- What is known of a task stays right: through an item of another task, an item of its own, an answer, control.
use Rattle.std.proofs.Common.{◌≡◌, Bool, true, false, cond, not, ◌&&◌, ◌||◌, List, [], ◌∷◌, ◌++◌, Some, None, refl, ap}
use Rattle.std.proofs.Common.{sym, ◌∙◌, subst, arith, append-nil, Option}
use Rattle.std.specs.Prelude.{is_some}
use Rattle.std.specs.List.{list_any}
use Rattle.std.proofs.lemmas.List.Elements.{filter-append}
use Rattle.grs_base.specs.Same.{same_res}
use Rattle.grs_base.specs.Lists.{owns}
use Rattle.grs_base.specs.State.{list_of}
use Rattle.grs_base.specs.declared.resource.Res.{Res}
use Rattle.grs_base.specs.declared.resource.TaskId.{TaskId}
use Rattle.grs_base.proofs.SameLaws.{same_res-exact}
use Rattle.grs_wire.specs.declared.history.HistEntry.{HistEntry}
use Rattle.grs_wire.specs.declared.history.HistEntry.TheVariants.{Enq, Deq, Release, Look, Remove}
use Rattle.grs_known.specs.Items.{RunItem, is_of, removes_system_of, gives_back, mine, took, gave, owns_told}
use Rattle.grs_known.specs.Items.{owns_after, tells, lists, Made}
use Rattle.grs_known.specs.Known.{Known, all_but_last, last_of, learned, outstanding, Still, Given, IsRight}
use Rattle.grs_known.specs.Known.{falls_behind, learns_item, learns_control}
use Rattle.grs_known.specs.Laws.{AllIsKnown}
use Rattle.grs_known.proofs.lists.Requests.{gave-tells}
use Rattle.grs_known.proofs.known.Control.{still-other, given-other, still-own, given-own}

-- ---- the last item
pub last_of-push : (xs : List RunItem) (x : RunItem) → last_of (xs ++ x ∷ []) ≡ Some x
last_of-push [] x = refl
last_of-push (y ∷ []) x = refl
last_of-push (y ∷ z ∷ xs) x = last_of-push (z ∷ xs) x

pub all_but_last-push : (xs : List RunItem) (x : RunItem) → all_but_last (xs ++ x ∷ []) ≡ xs
all_but_last-push [] x = refl
all_but_last-push (y ∷ []) x = refl
all_but_last-push (y ∷ z ∷ xs) x = ap (λ zs. y ∷ zs) (all_but_last-push (z ∷ xs) x)

pub last_of-is : (xs : List RunItem) (x : RunItem) → last_of xs ≡ Some x → xs ≡ all_but_last xs ++ x ∷ []
last_of-is [] x e = cc
last_of-is (y ∷ []) x e = let same : y ≡ x = cc in ap (λ z. z ∷ []) same
last_of-is (y ∷ z ∷ xs) x e = ap (λ zs. y ∷ zs) (last_of-is (z ∷ xs) x e)

-- ---- an item of another task
mine-other : (T : List RunItem) (x : RunItem) (t : TaskId) → is_of t x.fixed ≡ false → mine t (T ++ x ∷ []) ≡ mine t T
mine-other T x t apart = grind (arith, apart, append-nil, filter-append (λ y. is_of t y.fixed) T (x ∷ []))

pub outstanding-other : (t : TaskId) (k : Known) (T : List RunItem) (x : RunItem) → is_of t x.fixed ≡ false
    → outstanding t k (T ++ x ∷ []) ≡ outstanding t k T
outstanding-other t k T x apart = ap (λ xs. cond k.behind (last_of xs) None) (mine-other T x t apart)

pub learned-other : (t : TaskId) (k : Known) (T : List RunItem) (x : RunItem) → is_of t x.fixed ≡ false
    → learned t k (T ++ x ∷ []) ≡ learned t k T
learned-other t k T x apart = ap (λ xs. cond k.behind (all_but_last xs) xs) (mine-other T x t apart)

pub right-other : (t : TaskId) (k : Known) (T : List RunItem) (x : RunItem) → is_of t x.fixed ≡ false
    → removes_system_of t x.fixed ≡ false → IsRight t k T → IsRight t k (T ++ x ∷ [])
right-other t k T x apart live h = record {
  waits = λ e. ap is_some (outstanding-other t k T x apart) ∙ h.waits e;
  owned = λ r e.
      subst (λ o. Still r t (T ++ x ∷ []) o) (sym (outstanding-other t k T x apart))
      (still-other t T x apart live r (outstanding t k T) (h.owned r e));
  given =
      subst (λ o. Given t (T ++ x ∷ []) o) (sym (outstanding-other t k T x apart))
      (given-other t T x apart live (outstanding t k T) h.given);
}

-- ---- an item of its own
module _ (t : TaskId) (T : List RunItem) (x : RunItem) (own : is_of t x.fixed ≡ true) where
  mine-own : mine t (T ++ x ∷ []) ≡ mine t T ++ x ∷ []
  mine-own = grind (arith, own, filter-append (λ y. is_of t y.fixed) T (x ∷ []))

  pub outstanding-own : (k : Known) → outstanding t (falls_behind k) (T ++ x ∷ []) ≡ Some x
  outstanding-own k = ap last_of mine-own ∙ last_of-push (mine t T) x

  pub learned-own : (k : Known) → k.behind ≡ false → learned t (falls_behind k) (T ++ x ∷ []) ≡ learned t k T
  learned-own k e =
      ap all_but_last mine-own
      ∙ (all_but_last-push (mine t T) x ∙ ap (λ b. cond b (all_but_last (mine t T)) (mine t T)) (sym e))

  -- what was still there is still there behind the item, unless that gives it up
  pub still-behind : (k : Known) → k.behind ≡ false → Made T x → (r : Res) → Still r t T (outstanding t k T)
      → Still r t (T ++ x ∷ []) (outstanding t (falls_behind k) (T ++ x ∷ []))
  still-behind k e made r h =
      subst (λ o. Still r t (T ++ x ∷ []) o) (sym (outstanding-own k))
      (still-own t T x own made r (subst (λ b. Still r t T (cond b (last_of (mine t T)) None)) e h))

  pub right-own : (k : Known) → k.behind ≡ false → Made T x → IsRight t k T → IsRight t (falls_behind k) (T ++ x ∷ [])
  right-own k e made h = record {
    waits = λ b. ap is_some (outstanding-own k);
    owned = λ r o. still-behind k e made r (h.owned r o);
    given = subst (λ o. Given t (T ++ x ∷ []) o) (sym (outstanding-own k)) (given-own t T x own made);
  }

-- ---- an answer
pub learned-longer : (t : TaskId) (k : Known) (T : List RunItem) (x : RunItem) → outstanding t k T ≡ Some x
    → mine t T ≡ learned t k T ++ x ∷ []
learned-longer t k T x e = go k.behind e
  where
    go : (b : Bool) → cond b (last_of (mine t T)) None ≡ Some x
        → mine t T ≡ cond b (all_but_last (mine t T)) (mine t T) ++ x ∷ []
    go true f = last_of-is (mine t T) x f
    go false f = cc

-- what is owned after an entry was owned and not taken, or was given; and so after several
owns_told-is : (r : Res) (f : Res → Bool) (h : HistEntry) → owns_told h f r ≡ ((f r && not (took r h)) || gave r h)
owns_told-is r f (Enq u q c ret code) = refl
owns_told-is r f (Deq u q have code) = refl
owns_told-is r f (Release u q) = refl
owns_told-is r f (Look u place filter rows) = go (f r)
  where
    go : (b : Bool) → b ≡ ((b && true) || false)
    go true = refl
    go false = refl
owns_told-is r f (Remove by target) = refl

owns_after-kept : (r : Res) (f : Res → Bool) (hs : List HistEntry) → owns_after f hs r ≡ true
    → ((f r && not (list_any (took r) hs)) || list_any (gave r) hs) ≡ true
owns_after-kept r f [] h = go (f r) h
  where
    go : (a : Bool) → a ≡ true → ((a && true) || false) ≡ true
    go true e = refl
    go false e = cc
owns_after-kept r f (x ∷ hs) h =
    go (f r) (took r x) (gave r x) (list_any (took r) hs) (list_any (gave r) hs)
    (ap (λ b. (b && not (list_any (took r) hs)) || list_any (gave r) hs) (sym (owns_told-is r f x))
    ∙ owns_after-kept r (owns_told x f) hs h)
  where
    go : (a b c d e : Bool) → ((((a && not b) || c) && not d) || e) ≡ true → ((a && not (b || d)) || (c || e)) ≡ true
    go a b c d e h = grind (arith, h)

module _ (t : TaskId) (k : Known) (T : List RunItem) (x : RunItem) (is : outstanding t k T ≡ Some x)
    (h : IsRight t k T) where
  pub given-told : (r : Res) → list_any (tells r) x.entries ≡ true → owns (list_of (lists T) r) t ≡ true
  given-told = subst (Given t T) is h.given

  owned-kept : (r : Res) → k.owns r ≡ true → list_any (took r) x.entries ≡ false → owns (list_of (lists T) r) t ≡ true
  owned-kept r o f = go (gives_back r x.fixed) refl (subst (Still r t T) is (h.owned r o))
    where
      go : (b : Bool) → gives_back r x.fixed ≡ b → Still r t T (Some x) → owns (list_of (lists T) r) t ≡ true
      go false e s = s.0 e
      go true e s = absurd (let g : false ≡ true = sym f ∙ s.1 e in cc)

  pub right-answer : IsRight t (learns_item k x) T
  right-answer = record {
    waits = λ e. absurd (cc);
    owned = λ r o.
        go r (k.owns r) (list_any (took r) x.entries) (list_any (gave r) x.entries) refl refl refl
        (owns_after-kept r k.owns x.entries o);
    given = tt;
  }
    where
      go : (r : Res) (a b c : Bool) → k.owns r ≡ a → list_any (took r) x.entries ≡ b → list_any (gave r) x.entries ≡ c
          → ((a && not b) || c) ≡ true → owns (list_of (lists T) r) t ≡ true
      go r true false c f g e o = owned-kept r f g
      go r true true true f g e o = given-told r (gave-tells r x.entries e)
      go r true true false f g e o = cc
      go r false b true f g e o = given-told r (gave-tells r x.entries e)
      go r false b false f g e o = cc

-- ---- control
pub right-control : (t : TaskId) (k : Known) (T : List RunItem) (r : Res) → IsRight t k T
    → Still r t T (outstanding t k T) → IsRight t (learns_control k r) T
right-control t k T r h s = record { waits = h.waits; owned = λ q o. here q (k.owns q) refl o; given = h.given }
  where
    here : (q : Res) (b : Bool) → k.owns q ≡ b → (b || same_res q r) ≡ true → Still q t T (outstanding t k T)
    here q true e o = h.owned q e
    here q false e o = subst (λ z. Still z t T (outstanding t k T)) (sym (same_res-exact q r o)) s

pub all_is_known : AllIsKnown
all_is_known t k T e h = (
  ap (λ b. cond b (all_but_last (mine t T)) (mine t T)) e,
  λ r o. subst (λ b. Still r t T (cond b (last_of (mine t T)) None)) e (h.owned r o),
)

-- ---- the outstanding item, as items
abbrev pub one : Option RunItem → List RunItem
one None = []
one (Some x) = x ∷ []

pub one-none : (o : Option RunItem) → [] ≡ one o → o ≡ None
one-none None e = refl
one-none (Some x) e = absurd (cc)

pub one-some : (o : Option RunItem) (x : RunItem) (xs : List RunItem) → x ∷ xs ≡ one o → (o ≡ Some x) × (xs ≡ [])
one-some None x xs e = absurd (cc)
one-some (Some y) x xs e = let same : x ≡ y = cc in let nil : xs ≡ [] = cc in (ap Some (sym same), nil)
