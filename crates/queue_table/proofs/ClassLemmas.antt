-- Places that lead to one another by their classes, and the entries of one class, the last first.
use Rattle.std.proofs.Common.{◌≡◌, ◌<◌, ◌≤◌, ◌+◌, ℕ, zero, suc, Bool, true, false, cond, ◌&&◌, List, [], ◌∷◌, ◌++◌, map}
use Rattle.std.proofs.Common.{length, take, Option, Some, None, refl, ap, sym, ◌∙◌, subst, arith, nat_eq, append_assoc}
use Rattle.std.proofs.Common.{append-nil}
use Rattle.std.specs.Prelude.{slice_get, slice_index_or, not, is_some}
use Rattle.std.proofs.lemmas.Bool.{eqb-true, eq-eqb, and_parts, and_from}
use Rattle.std.proofs.lemmas.Bool.Decides.{nat_tests}
use Rattle.std.proofs.lemmas.Nat.{mod_below}
use Rattle.grs_base.specs.Same.{same_res}
use Rattle.grs_base.specs.Looks.{is_of_place}
use Rattle.grs_base.specs.Slices.{hash_of, slice_of}
use Rattle.grs_base.specs.declared.look.Filter.{Filter}
use Rattle.grs_base.specs.declared.look.Place.{Place}
use Rattle.grs_base.specs.declared.look.Place.TheVariants.{Slice, Local}
use Rattle.grs_base.specs.declared.resource.Res.{Res}
use Rattle.grs_base.specs.declared.resource.Res.TheVariants.{Step, System, Systems}
use Rattle.grs_base.proofs.SameLaws.{same_res-exact, same_res-itself}
use Rattle.queue_table.specs.Classes.{most_classes, end_at, later, last_place, befores, IsChained, class_of, class_at, has_class}
use Rattle.queue_table.specs.Classes.{visits}
use Rattle.queue_table.specs.Names.{Numbers, queue_number, name_of, is_paired}
use Rattle.queue_table.specs.Shown.{may_show}

-- ---- the chain
later-cond : (b : Bool) (n : ℕ) (o base : Option ℕ)
    → later (cond b (Some n) o) base ≡ cond b (Some (suc n)) (later o base)
later-cond true n o base = refl
later-cond false n o base = refl

pub last_place-push : (c x : ℕ) (xs : List ℕ)
    → last_place c (xs ++ x ∷ []) ≡ cond (nat_eq x c) (Some (length xs)) (last_place c xs)
last_place-push c x [] = refl
last_place-push c x (y ∷ xs) =
    ap (λ o. later o (cond (nat_eq y c) (Some 0) None)) (last_place-push c x xs)
    ∙ later-cond (nat_eq x c) (length xs) (last_place c xs) (cond (nat_eq y c) (Some 0) None)

befores-push : (front cs : List ℕ) (c : ℕ)
    → befores front (cs ++ c ∷ []) ≡ befores front cs ++ last_place c (front ++ cs) ∷ []
befores-push front [] c = ap (λ l. last_place c l ∷ []) (sym (append-nil front))
befores-push front (x ∷ cs) c =
    ap (λ l. last_place x front ∷ l) (befores-push (front ++ x ∷ []) cs c
    ∙ ap (λ l. befores (front ++ x ∷ []) cs ++ last_place c l ∷ []) (append_assoc front (x ∷ []) cs))

befores-get : (front cs : List ℕ) (i c : ℕ) → slice_get cs i ≡ Some c
    → slice_get (befores front cs) i ≡ Some (last_place c (front ++ take i cs))
befores-get front [] i c h = absurd (cc)
befores-get front (x ∷ cs) zero c h =
    let same : x ≡ c = cc in
    ap (λ k. Some (last_place k front)) same ∙ ap (λ l. Some (last_place c l)) (sym (append-nil front))
befores-get front (x ∷ cs) (suc i) c h =
    befores-get (front ++ x ∷ []) cs i c h ∙ ap (λ l. Some (last_place c l)) (append_assoc front (x ∷ []) (take i cs))

-- no places
pub chained-none : (last : List (Option ℕ)) → ((k : ℕ) → end_at last k ≡ None) → IsChained last [] []
chained-none last none = record { last = none; before = refl; any = λ l. absurd (omega (arith, l)) }

-- the last places stand elsewhere, with as much room
pub chained-longer : (last more : List (Option ℕ)) (bs : List (Option ℕ)) (cs : List ℕ) → IsChained last bs cs
    → ((k : ℕ) → end_at more k ≡ end_at last k) → length last ≤ length more → IsChained more bs cs
chained-longer last more bs cs h same longer =
    record { last = λ k. same k ∙ h.last k; before = h.before; any = λ l. omega (arith, h.any l, longer) }

-- one place more
pub chained-push : (last more : List (Option ℕ)) (bs : List (Option ℕ)) (cs : List ℕ) (c : ℕ) → IsChained last bs cs
    → most_classes ≤ length more
    → ((k : ℕ) → end_at more k ≡ cond (nat_eq k c) (Some (length cs)) (end_at last k))
    → IsChained more (bs ++ end_at last c ∷ []) (cs ++ c ∷ [])
chained-push last more bs cs c h room is = record {
  last = λ k.
      is k
      ∙ ap (λ (b : Bool). cond b (Some (length cs)) (end_at last k)) (same_test k)
      ∙ ap (cond (nat_eq c k) (Some (length cs))) (h.last k)
      ∙ sym (last_place-push k c cs);
  before =
      ap (λ l. l ++ end_at last c ∷ []) h.before
      ∙ ap (λ o. befores [] cs ++ o ∷ []) (h.last c)
      ∙ sym (befores-push [] cs c);
  any = λ l. room;
}
  where
    same_test : (k : ℕ) → nat_eq k c ≡ nat_eq c k
    same_test k = by_test (nat_eq k c) refl (nat_eq c k) refl
      where
        by_test : (a : Bool) → nat_eq k c ≡ a → (b : Bool) → nat_eq c k ≡ b → a ≡ b
        by_test true f true g = refl
        by_test true f false g = sym (eq-eqb c k (sym (eqb-true k c f))) ∙ g
        by_test false f true g = sym f ∙ eq-eqb k c (sym (eqb-true c k g))
        by_test false f false g = refl

-- the place before one
pub chained-before : (last : List (Option ℕ)) (bs : List (Option ℕ)) (cs : List ℕ) (i c : ℕ) → IsChained last bs cs
    → slice_get cs i ≡ Some c → slice_get bs i ≡ Some (last_place c (take i cs))
chained-before last bs cs i c h at = ap (λ l. slice_get l i) h.before ∙ befores-get [] cs i c at

-- ---- what lists of links say
pub index-mapped : {A B : Type 0} (f : A → B) (xs : List A) (i : ℕ) (d : A) (y : B) → slice_get (map f xs) i ≡ Some y
    → f (slice_index_or xs i d) ≡ y
index-mapped f [] i d y h = absurd (cc)
index-mapped f (x ∷ xs) zero d y h = cc
index-mapped f (x ∷ xs) (suc i) d y h = index-mapped f xs i d y h

pub length-mapped : {A B : Type 0} (f : A → B) (xs : List A) → length (map f xs) ≡ length xs
length-mapped f [] = refl
length-mapped f (x ∷ xs) = ap suc (length-mapped f xs)

pub map-push : {A B : Type 0} (f : A → B) (xs : List A) (x : A) → map f (xs ++ x ∷ []) ≡ map f xs ++ f x ∷ []
map-push f [] x = refl
map-push f (y ∷ xs) x = ap (λ l. f y ∷ l) (map-push f xs x)

-- ---- the entries of a class
abbrev pub classes_of : Numbers → List ℕ
classes_of es = map (λ e. class_of e.0) es

-- The last of them stands at this place.
pub record IsLast (c : ℕ) (es : Numbers) (p : ℕ) : Type 0 where
  pub front : Numbers
  pub entry : Res × ℕ
  pub back : Numbers
  pub parts : es ≡ front ++ entry ∷ back
  pub place : length front ≡ p
  pub class : class_of entry.0 ≡ c
  pub visited : visits c es ≡ entry ∷ visits c front

visits-none : (c : ℕ) (es : Numbers) → last_place c (classes_of es) ≡ None → visits c es ≡ []
visits-none c [] h = refl
visits-none c (e ∷ es) h = by_rest (last_place c (classes_of es)) (visits-none c es) (nat_eq (class_of e.0) c) h
  where
    by_rest : (o : Option ℕ) → (o ≡ None → visits c es ≡ []) → (b : Bool) → later o (cond b (Some 0) None) ≡ None
        → visits c es ++ cond b (e ∷ []) [] ≡ []
    by_rest (Some q) rest b k = absurd (cc)
    by_rest None rest true k = absurd (cc)
    by_rest None rest false k = append-nil (visits c es) ∙ rest refl

pub last-is : (c : ℕ) (es : Numbers) (p : ℕ) → last_place c (classes_of es) ≡ Some p → IsLast c es p
last-is c [] p h = absurd (cc)
last-is c (e ∷ es) p h = by_rest (last_place c (classes_of es)) refl (last-is c es) (nat_eq (class_of e.0) c) refl h
  where
    by_rest : (o : Option ℕ) → last_place c (classes_of es) ≡ o
        → ((q : ℕ) → last_place c (classes_of es) ≡ Some q → IsLast c es q) → (b : Bool) → nat_eq (class_of e.0) c ≡ b
        → later o (cond b (Some 0) None) ≡ Some p → IsLast c (e ∷ es) p
    by_rest None r behind true f k =
        let first : 0 ≡ p = cc in
        record {
          front = [];
          entry = e;
          back = es;
          parts = refl;
          place = first;
          class = eqb-true (class_of e.0) c f;
          visited = rw f (ap (λ l. l ++ e ∷ []) (visits-none c es r));
        }
    by_rest None r behind false f k = absurd (cc)
    by_rest (Some q) r behind b f k =
        let next : suc q ≡ p = cc in
        let rest = behind q r in
        record {
          front = e ∷ rest.front;
          entry = rest.entry;
          back = rest.back;
          parts = ap (λ l. e ∷ l) rest.parts;
          place = ap suc rest.place ∙ next;
          class = rest.class;
          visited = ap (λ l. l ++ cond (nat_eq (class_of e.0) c) (e ∷ []) []) rest.visited;
        }

pub visited-none : (c : ℕ) (es : Numbers) → last_place c (classes_of es) ≡ None → visits c es ≡ []
visited-none c es h = visits-none c es h

-- what stands at the place behind a front
pub get-behind : {A : Type 0} (xs ys : List A) (x : A) → slice_get (xs ++ x ∷ ys) (length xs) ≡ Some x
get-behind [] ys x = refl
get-behind (y ∷ xs) ys x = get-behind xs ys x

get-class : (front back : Numbers) (e : Res × ℕ)
    → slice_get (classes_of (front ++ e ∷ back)) (length front) ≡ Some (class_of e.0)
get-class [] back e = refl
get-class (x ∷ front) back e = get-class front back e

take-class : (front back : Numbers) → take (length front) (classes_of (front ++ back)) ≡ classes_of front
take-class [] back = refl
take-class (x ∷ front) back = ap (λ l. class_of x.0 ∷ l) (take-class front back)

-- the class of what stands at a place
pub class_at_place : (es : Numbers) (i c : ℕ) (e : Res × ℕ) → slice_get es i ≡ Some e
    → slice_get (classes_of es) i ≡ Some c → class_of e.0 ≡ c
class_at_place [] i c e at h = absurd (cc)
class_at_place (x ∷ es) zero c e at h =
    let same : x ≡ e = cc in let own : class_of x.0 ≡ c = cc in ap (λ (y : Res × ℕ). class_of y.0) (sym same) ∙ own
class_at_place (x ∷ es) (suc i) c e at h = class_at_place es i c e at h

-- the classes of one entry more
pub classes-more : (es : Numbers) (i : ℕ) (e : Res × ℕ) → slice_get es i ≡ Some e
    → classes_of (take (i + 1) es) ≡ classes_of (take i es) ++ class_of e.0 ∷ []
classes-more es i e at =
    let next : i + 1 ≡ suc i = omega arith in
    ap (λ (n : ℕ). classes_of (take n es)) next ∙ by_next es i e at
  where
    by_next : (xs : Numbers) (k : ℕ) (x : Res × ℕ) → slice_get xs k ≡ Some x
        → classes_of (take (suc k) xs) ≡ classes_of (take k xs) ++ class_of x.0 ∷ []
    by_next [] k x h = absurd (cc)
    by_next (y ∷ xs) zero x h = let same : y ≡ x = cc in ap (λ (z : Res × ℕ). class_of z.0 ∷ []) same
    by_next (y ∷ xs) (suc k) x h = ap (λ (l : List ℕ). class_of y.0 ∷ l) (by_next xs k x h)

-- ---- a walk from the last entry of a class to the first
-- What is still to be visited: the entries of the class in this front, of which the next stands last.
pub record IsOnWay (c : ℕ) (es : Numbers) (at : Option ℕ) : Type 0 where
  pub front : Numbers
  pub back : Numbers
  pub parts : es ≡ front ++ back
  pub next : at ≡ last_place c (classes_of front)

pub record IsNext (c : ℕ) (es : Numbers) (front : Numbers) (p : ℕ) : Type 0 where
  pub last : IsLast c front p
  pub at : slice_get es p ≡ Some last.entry
  pub class : slice_get (classes_of es) p ≡ Some c
  pub way : (o : Option ℕ) → o ≡ last_place c (take p (classes_of es)) → (w : IsOnWay c es o) × (w.front ≡ last.front)

pub next-is : (c : ℕ) (es : Numbers) (p : ℕ) (w : IsOnWay c es (Some p)) → IsNext c es w.front p
next-is c es p w =
    let last = last-is c w.front p (sym w.next) in
    let parts : es ≡ last.front ++ last.entry ∷ (last.back ++ w.back) =
    w.parts ∙ ap (λ l. l ++ w.back) last.parts ∙ append_assoc last.front (last.entry ∷ last.back) w.back in
    record {
      last = last;
      at =
          ap (λ l. slice_get l p) parts
          ∙ ap (slice_get (last.front ++ last.entry ∷ (last.back ++ w.back))) (sym last.place)
          ∙ get-behind last.front (last.back ++ w.back) last.entry;
      class =
          ap (λ l. slice_get (classes_of l) p) parts
          ∙ ap (slice_get (classes_of (last.front ++ last.entry ∷ (last.back ++ w.back)))) (sym last.place)
          ∙ get-class last.front (last.back ++ w.back) last.entry
          ∙ ap Some last.class;
      way = λ o is. (
        record {
          front = last.front;
          back = last.entry ∷ (last.back ++ w.back);
          parts = parts;
          next =
              is
              ∙ ap (λ l. last_place c (take p (classes_of l))) parts
              ∙ ap (λ k. last_place c (take k (classes_of (last.front ++ last.entry ∷ (last.back ++ w.back)))))
              (sym last.place)
              ∙ ap (last_place c) (take-class last.front (last.entry ∷ (last.back ++ w.back)));
        },
        refl,
      );
    }

-- how far there is still to go
abbrev pub way_left : Option ℕ → ℕ
way_left None = 0
way_left (Some p) = suc p

last_place-below : (c : ℕ) (xs : List ℕ) (p : ℕ) → last_place c xs ≡ Some p → p < length xs
last_place-below c [] p h = absurd (cc)
last_place-below c (x ∷ xs) p h = by_rest (last_place c xs) (last_place-below c xs) (nat_eq x c) h
  where
    by_rest : (o : Option ℕ) → ((q : ℕ) → o ≡ Some q → q < length xs) → (b : Bool)
        → later o (cond b (Some 0) None) ≡ Some p → p < suc (length xs)
    by_rest None below true k = let first : 0 ≡ p = cc in omega (arith, first)
    by_rest None below false k = absurd (cc)
    by_rest (Some q) below b k = let next : suc q ≡ p = cc in omega (arith, next, below q refl)

length-take_most : (p : ℕ) (xs : List ℕ) → length (take p xs) < suc p
length-take_most zero xs = omega arith
length-take_most (suc p) [] = omega arith
length-take_most (suc p) (x ∷ xs) = omega (arith, length-take_most p xs)

pub way-less : (c : ℕ) (cs : List ℕ) (p : ℕ) (o : Option ℕ) → o ≡ last_place c (take p cs)
    → way_left o < way_left (Some p)
way-less c cs p None h = omega arith
way-less c cs p (Some q) h = omega (arith, last_place-below c (take p cs) q (sym h), length-take_most p cs)

-- ---- what the entries of a class name
abbrev or_number : Option ℕ → Option ℕ → Option ℕ
or_number None o = o
or_number (Some n) o = Some n

number-append : (xs ys : Numbers) (r : Res)
    → queue_number (xs ++ ys) r ≡ or_number (queue_number xs r) (queue_number ys r)
number-append [] ys r = refl
number-append (x ∷ xs) ys r = by_test (same_res r x.0) (number-append xs ys r)
  where
    by_test : (b : Bool) → queue_number (xs ++ ys) r ≡ or_number (queue_number xs r) (queue_number ys r)
        → cond b (Some x.1) (queue_number (xs ++ ys) r)
        ≡ or_number (cond b (Some x.1) (queue_number xs r)) (queue_number ys r)
    by_test true rest = refl
    by_test false rest = rest

abbrev or_name : Option Res → Option Res → Option Res
or_name None o = o
or_name (Some n) o = Some n

name-append : (xs ys : Numbers) (q : ℕ) → name_of (xs ++ ys) q ≡ or_name (name_of xs q) (name_of ys q)
name-append [] ys q = refl
name-append (x ∷ xs) ys q = by_test (nat_eq q x.1) (name-append xs ys q)
  where
    by_test : (b : Bool) → name_of (xs ++ ys) q ≡ or_name (name_of xs q) (name_of ys q)
        → cond b (Some x.0) (name_of (xs ++ ys) q) ≡ or_name (cond b (Some x.0) (name_of xs q)) (name_of ys q)
    by_test true rest = refl
    by_test false rest = rest

-- an entry of the class, if it is one
abbrev alone : ℕ → Res × ℕ → Numbers
alone c e = cond (nat_eq (class_of e.0) c) (e ∷ []) []

-- what the entries don't name those of a class don't name
none-visited : (c : ℕ) (es : Numbers) (r : Res) → queue_number es r ≡ None → queue_number (visits c es) r ≡ None
none-visited c [] r h = refl
none-visited c (e ∷ es) r h =
    number-append (visits c es) (alone c e) r
    ∙ by_test (same_res r e.0) refl h (none-visited c es r) (nat_eq (class_of e.0) c)
  where
    by_test : (b : Bool) → same_res r e.0 ≡ b → cond b (Some e.1) (queue_number es r) ≡ None
        → (queue_number es r ≡ None → queue_number (visits c es) r ≡ None) → (d : Bool)
        → or_number (queue_number (visits c es) r) (queue_number (cond d (e ∷ []) []) r) ≡ None
    by_test true f k rest d = absurd (cc)
    by_test false f k rest true = rw (rest k, f) refl
    by_test false f k rest false = rw (rest k) refl

unnamed-visited : (c : ℕ) (es : Numbers) (q : ℕ) → name_of es q ≡ None → name_of (visits c es) q ≡ None
unnamed-visited c [] q h = refl
unnamed-visited c (e ∷ es) q h =
    name-append (visits c es) (alone c e) q
    ∙ by_test (nat_eq q e.1) refl h (unnamed-visited c es q) (nat_eq (class_of e.0) c)
  where
    by_test : (b : Bool) → nat_eq q e.1 ≡ b → cond b (Some e.0) (name_of es q) ≡ None
        → (name_of es q ≡ None → name_of (visits c es) q ≡ None) → (d : Bool)
        → or_name (name_of (visits c es) q) (name_of (cond d (e ∷ []) []) q) ≡ None
    by_test true f k rest d = absurd (cc)
    by_test false f k rest true = rw (rest k, f) refl
    by_test false f k rest false = rw (rest k) refl

none_of : {A : Type 0} (o : Option A) → not (is_some o) ≡ true → o ≡ None
none_of None h = refl
none_of (Some a) h = absurd (cc)

-- the first part of what pairs entries
pub number_free : (e : Res × ℕ) (es : Numbers) → is_paired (e ∷ es) ≡ true
    → (queue_number es e.0 ≡ None) × (name_of es e.1 ≡ None) × (is_paired es ≡ true)
number_free e es p =
    let both = and_parts (not (is_some (queue_number es e.0)) && not (is_some (name_of es e.1))) (is_paired es) p in
    let free = and_parts (not (is_some (queue_number es e.0))) (not (is_some (name_of es e.1))) both.0 in
    (none_of (queue_number es e.0) free.0, none_of (name_of es e.1) free.1, both.1)

paired-push : (xs : Numbers) (e : Res × ℕ) → is_paired xs ≡ true → queue_number xs e.0 ≡ None → name_of xs e.1 ≡ None
    → is_paired (xs ++ e ∷ []) ≡ true
paired-push [] e p none unnamed = refl
paired-push (x ∷ xs) e p none unnamed =
    let free = number_free x xs p in
    let number : queue_number (xs ++ e ∷ []) x.0 ≡ None =
    number-append xs (e ∷ []) x.0
    ∙ ap (λ (o : Option ℕ). or_number o (queue_number (e ∷ []) x.0)) free.0
    ∙ ap (λ (b : Bool). cond b (Some e.1) None) (other_res (same_res e.0 x.0) refl none) in
    let name : name_of (xs ++ e ∷ []) x.1 ≡ None =
    name-append xs (e ∷ []) x.1
    ∙ ap (λ (o : Option Res). or_name o (name_of (e ∷ []) x.1)) free.1
    ∙ ap (λ (b : Bool). cond b (Some e.0) None) (other_number (nat_eq e.1 x.1) refl unnamed) in
    and_from _ _ (and_from _ _ (ap (λ (o : Option ℕ). not (is_some o)) number)
    (ap (λ (o : Option Res). not (is_some o)) name))
    (paired-push xs e free.2 (behind_res (same_res e.0 x.0) none) (behind_number (nat_eq e.1 x.1) unnamed))
  where
    behind_res : (b : Bool) → cond b (Some x.1) (queue_number xs e.0) ≡ None → queue_number xs e.0 ≡ None
    behind_res true k = absurd (cc)
    behind_res false k = k

    behind_number : (b : Bool) → cond b (Some x.0) (name_of xs e.1) ≡ None → name_of xs e.1 ≡ None
    behind_number true k = absurd (cc)
    behind_number false k = k

    other_res : (b : Bool) → same_res e.0 x.0 ≡ b → cond b (Some x.1) (queue_number xs e.0) ≡ None
        → same_res x.0 e.0 ≡ false
    other_res true f k = absurd (cc)
    other_res false f k = res_apart (same_res x.0 e.0) refl
      where
        res_apart : (d : Bool) → same_res x.0 e.0 ≡ d → d ≡ false
        res_apart true g =
            absurd (let h : same_res e.0 x.0 ≡ true =
            subst (λ z. same_res e.0 z ≡ true) (sym (same_res-exact x.0 e.0 g)) (same_res-itself e.0) in
            let z : true ≡ false = sym h ∙ f in
            cc)
        res_apart false g = refl

    other_number : (b : Bool) → nat_eq e.1 x.1 ≡ b → cond b (Some x.0) (name_of xs e.1) ≡ None → nat_eq x.1 e.1 ≡ false
    other_number true f k = absurd (cc)
    other_number false f k = number_apart (nat_eq x.1 e.1) refl
      where
        number_apart : (d : Bool) → nat_eq x.1 e.1 ≡ d → d ≡ false
        number_apart true g =
            absurd (let h : nat_eq e.1 x.1 ≡ true = eq-eqb e.1 x.1 (sym (eqb-true x.1 e.1 g)) in
            let z : true ≡ false = sym h ∙ f in
            cc)
        number_apart false g = refl

pub paired-visits : (c : ℕ) (es : Numbers) → is_paired es ≡ true → is_paired (visits c es) ≡ true
paired-visits c [] p = refl
paired-visits c (e ∷ es) p = by_class (paired-visits c es (number_free e es p).2) (nat_eq (class_of e.0) c)
  where
    by_class : is_paired (visits c es) ≡ true → (b : Bool) → is_paired (visits c es ++ cond b (e ∷ []) []) ≡ true
    by_class rest true =
        let free = number_free e es p in
        paired-push (visits c es) e rest (none-visited c es e.0 free.0) (unnamed-visited c es e.1 free.1)
    by_class rest false = ap is_paired (append-nil (visits c es)) ∙ rest

or_none : (o : Option ℕ) → or_number o None ≡ o
or_none None = refl
or_none (Some n) = refl

-- of a class they name what all entries name
pub number-visited : (c : ℕ) (es : Numbers) (r : Res) → is_paired es ≡ true → class_of r ≡ c
    → queue_number (visits c es) r ≡ queue_number es r
number-visited c [] r p h = refl
number-visited c (e ∷ es) r p h =
    number-append (visits c es) (alone c e) r
    ∙ by_test (number-visited c es r (number_free e es p).2 h) (same_res r e.0) refl (nat_eq (class_of e.0) c) refl
  where
    by_test : queue_number (visits c es) r ≡ queue_number es r → (b : Bool) → same_res r e.0 ≡ b → (d : Bool)
        → nat_eq (class_of e.0) c ≡ d
        → or_number (queue_number (visits c es) r) (queue_number (cond d (e ∷ []) []) r)
        ≡ cond b (Some e.1) (queue_number es r)
    by_test rest true f true g =
        let none : queue_number es r ≡ None = ap (queue_number es) (same_res-exact r e.0 f) ∙ (number_free e es p).0 in
        rw (none-visited c es r none, f) refl
    by_test rest true f false g =
        absurd (let k : nat_eq (class_of e.0) c ≡ true =
        eq-eqb (class_of e.0) c (ap class_of (sym (same_res-exact r e.0 f)) ∙ h) in
        let z : false ≡ true = sym g ∙ k in
        cc)
    by_test rest false f true g = rw f (or_none (queue_number (visits c es) r) ∙ rest)
    by_test rest false f false g = or_none (queue_number (visits c es) r) ∙ rest

-- ---- a place's resources are of its class
class-of_place : (p : Place) (r : Res) → is_of_place p r ≡ true → class_of r ≡ class_at p
class-of_place (Slice n) (Systems q r) h = eqb-true _ n h
class-of_place (Slice n) (System s q r) h = absurd (cc)
class-of_place (Slice n) (Step s j q r) h = absurd (cc)
class-of_place (Local t) (Systems q r) h = absurd (cc)
class-of_place (Local t) (System s q r) h = ap (λ n. 64 + n) (eqb-true s.0 t.0 h)
class-of_place (Local t) (Step s j q r) h = ap (λ n. 64 + n) (eqb-true s.0 t.0 h)

pub class-may_show : (p : Place) (f : Filter) (r : Res) → may_show (Some p) f r ≡ true → class_of r ≡ class_at p
class-may_show p f r h = class-of_place p r (and_parts _ _ h).0

-- and those of its class are the place's, or none is
pub place-of_class : (p : Place) (r : Res) → class_of r ≡ class_at p → is_of_place p r ≡ has_class p
place-of_class (Slice n) (Systems q r) h =
    let below : slice_of q r < 64 = mod_below (hash_of q r) 64 (omega arith) in
    let same : slice_of q r ≡ n = h in
    grind (arith, nat_tests, eq-eqb (slice_of q r) n same, below, same)
place-of_class (Slice n) (System s q r) h = grind (arith, nat_tests, h)
place-of_class (Slice n) (Step s j q r) h = grind (arith, nat_tests, h)
place-of_class (Local t) (Systems q r) h =
    let below : slice_of q r < 64 = mod_below (hash_of q r) 64 (omega arith) in
    let same : slice_of q r ≡ 64 + t.0 = h in
    absurd (omega (arith, below, same))
place-of_class (Local t) (System s q r) h =
    let same : 64 + s.0 ≡ 64 + t.0 = h in eq-eqb s.0 t.0 (omega (arith, same))
place-of_class (Local t) (Step s j q r) h =
    let same : 64 + s.0 ≡ 64 + t.0 = h in eq-eqb s.0 t.0 (omega (arith, same))

pub ruleset own_classes = (place-of_class)
