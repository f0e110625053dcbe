-- States that have the same lists, whatever the order of elements of different resources: a request is answered alike
-- by them, and leaves them so.
use Rattle.std.proofs.Common.{◌≡◌, ℕ, zero, suc, Bool, true, false, cond, [], ◌∷◌, ◌++◌, Some, List, refl, ap, sym, ◌∙◌}
use Rattle.std.proofs.Common.{subst}
use Rattle.grs_base.specs.Same.{same_res}
use Rattle.grs_base.specs.Lists.{list_after, list_without, decide_enq, deq_code, is_owner, standing_of}
use Rattle.grs_base.specs.Looks.{look}
use Rattle.grs_base.specs.State.{State, list_of, without}
use Rattle.grs_base.specs.declared.look.Filter.{Filter}
use Rattle.grs_base.specs.declared.look.Place.TheVariants.{Slice}
use Rattle.grs_base.specs.declared.resource.Elem.{Elem}
use Rattle.grs_base.specs.declared.resource.Res.{Res}
use Rattle.grs_base.specs.declared.resource.TaskId.{TaskId}
use Rattle.grs_base.proofs.SameLaws.{same_res-itself}
use Rattle.grs_base.proofs.StateLaws.{list_at-without, res_equality, list_of-effect}
use Rattle.grs_wire.specs.Wants.{after_want, answer_to, became_owners, looks, new_owners, res_wanted}
use Rattle.grs_wire.specs.declared.request.Answer.TheVariants.{Coded, Rows}
use Rattle.grs_wire.specs.declared.request.Want.{Want}
use Rattle.grs_wire.specs.declared.request.Want.TheVariants as wants
use Rattle.grs_wire.proofs.WantLaws.{by_res, list_of-want_other}
use Rattle.grs_known.proofs.lists.Shows.{look-alike}

-- ---- what a request does to the list of its resource depends on that list alone, and other lists stay
abbrev pub EditsOne : Res → (State → State) → Type 0
EditsOne r f =
    ((s z : State) → list_of s r ≡ list_of z r → list_of (f s) r ≡ list_of (f z) r)
    × ((s : State) (p : Res) → same_res p r ≡ false → list_of (f s) p ≡ list_of s p)

abbrev list_behind : TaskId → Want → List Elem → List Elem
list_behind t (wants.Enq r c ret full) es = list_after es t c (decide_enq es t c ret full).effect
list_behind t (wants.Deq r have) es = cond (is_owner (standing_of es t)) (list_without es t) es
list_behind t (wants.Release r) es = list_without es t
list_behind t (wants.Look first count f) es = es

list_of-deq : (b : Bool) (s : State) (r : Res) (t : TaskId)
    → list_of (cond b (without same_res s r t) s) r ≡ cond b (list_without (list_of s r) t) (list_of s r)
list_of-deq true s r t = list_at-without same_res res_equality s r t
list_of-deq false s r t = refl

by_list : (f : State → State) (r : Res) (g : List Elem → List Elem) → ((s : State) → list_of (f s) r ≡ g (list_of s r))
    → (s z : State) → list_of s r ≡ list_of z r → list_of (f s) r ≡ list_of (f z) r
by_list f r g is s z h = is s ∙ ap g h ∙ sym (is z)

pub edits-want : (t : TaskId) (w : Want) (r : Res) → res_wanted w ≡ Some r → EditsOne r (λ s. after_want s t w)
edits-want t (wants.Enq q c ret full) r e =
    let same : q ≡ r = cc in
    subst (λ z. EditsOne z (λ s. after_want s t (wants.Enq q c ret full))) same (
      by_list (λ s. after_want s t (wants.Enq q c ret full)) q (list_behind t (wants.Enq q c ret full))
          (λ s. list_of-effect s q t c _),
      λ s p apart. list_of-want_other s t (wants.Enq q c ret full) p apart,
    )
edits-want t (wants.Deq q have) r e =
    let same : q ≡ r = cc in
    subst (λ z. EditsOne z (λ s. after_want s t (wants.Deq q have))) same (
      by_list (λ s. after_want s t (wants.Deq q have)) q (list_behind t (wants.Deq q have))
          (λ s. list_of-deq (is_owner (standing_of (list_of s q) t)) s q t),
      λ s p apart. list_of-want_other s t (wants.Deq q have) p apart,
    )
edits-want t (wants.Release q) r e =
    let same : q ≡ r = cc in
    subst (λ z. EditsOne z (λ s. after_want s t (wants.Release q))) same (
      by_list (λ s. after_want s t (wants.Release q)) q (list_behind t (wants.Release q))
          (λ s. list_at-without same_res res_equality s q t),
      λ s p apart. list_of-want_other s t (wants.Release q) p apart,
    )
edits-want t (wants.Look first count f) r e = cc

-- a list that is the same in two states is the same behind it
pub same_behind : (r : Res) (f : State → State) → EditsOne r f → (p : Res) (s z : State) → list_of s p ≡ list_of z p
    → list_of (f s) p ≡ list_of (f z) p
same_behind r f edits p s z h = by_res p r _
    (λ same. subst (λ q. list_of s q ≡ list_of z q → list_of (f s) q ≡ list_of (f z) q) (sym same) (edits.0 s z) h)
    (λ other. edits.1 s p other ∙ h ∙ sym (edits.1 z p other))

-- ---- the same lists
pub record Alike (s z : State) : Type 0 where
  pub lists : (r : Res) → list_of s r ≡ list_of z r

pub alike-itself : (s : State) → Alike s s
alike-itself s = record { lists = λ r. refl }

-- a request leaves them so
pub alike-want : (s z : State) (t : TaskId) (w : Want) → Alike s z → Alike (after_want s t w) (after_want z t w)
alike-want s z t (wants.Enq q c ret full) h = record {
  lists = λ p.
      same_behind q (λ y. after_want y t (wants.Enq q c ret full)) (edits-want t (wants.Enq q c ret full) q refl) p s z
      (h.lists p);
}
alike-want s z t (wants.Deq q have) h = record {
  lists = λ p.
      same_behind q (λ y. after_want y t (wants.Deq q have)) (edits-want t (wants.Deq q have) q refl) p s z (h.lists p);
}
alike-want s z t (wants.Release q) h = record {
  lists = λ p.
      same_behind q (λ y. after_want y t (wants.Release q)) (edits-want t (wants.Release q) q refl) p s z (h.lists p);
}
alike-want s z t (wants.Look first count f) h = h

-- it is answered alike, and the same tasks become owners
looks-alike : (s z : State) (first count : ℕ) (f : Filter) → Alike s z → looks s first count f ≡ looks z first count f
looks-alike s z first zero f h = refl
looks-alike s z first (suc count) f h =
    ap (λ rows. rows ++ looks s (suc first) count f) (look-alike (Slice first) f s z (λ q e. h.lists q))
    ∙ ap (λ rows. look z (Slice first) f ++ rows) (looks-alike s z (suc first) count f h)

pub answer-alike : (s z : State) (t : TaskId) (w : Want) → Alike s z → answer_to s t w ≡ answer_to z t w
answer-alike s z t (wants.Enq q c ret full) h = ap (λ es. Coded (decide_enq es t c ret full).code) (h.lists q)
answer-alike s z t (wants.Deq q have) h = ap (λ es. Coded (deq_code (standing_of es t) have)) (h.lists q)
answer-alike s z t (wants.Release q) h = refl
answer-alike s z t (wants.Look first count f) h = ap Rows (looks-alike s z first count f h)

owners-by : (s z s' z' : State) (t : TaskId) (r : Res) → Alike s z → Alike s' z'
    → became_owners (list_of s r) (list_of s' r) t ≡ became_owners (list_of z r) (list_of z' r) t
owners-by s z s' z' t r h k =
    ap (λ es. became_owners es (list_of s' r) t) (h.lists r) ∙ ap (λ es. became_owners (list_of z r) es t) (k.lists r)

pub owners-alike : (s z : State) (t : TaskId) (w : Want) → Alike s z → new_owners s t w ≡ new_owners z t w
owners-alike s z t (wants.Enq q c ret full) h = owners-by s z _ _ t q h (alike-want s z t (wants.Enq q c ret full) h)
owners-alike s z t (wants.Deq q have) h = owners-by s z _ _ t q h (alike-want s z t (wants.Deq q have) h)
owners-alike s z t (wants.Release q) h = owners-by s z _ _ t q h (alike-want s z t (wants.Release q) h)
owners-alike s z t (wants.Look first count f) h = refl

-- a state whose lists are those of none has no element
pub alike-none : (s : State) → Alike [] s → s ≡ []
alike-none [] h = refl
alike-none (x ∷ s) h =
    absurd (let e : [] ≡ x.1 ∷ list_of s x.0 =
    h.lists x.0 ∙ ap (λ b. cond b (x.1 ∷ list_of s x.0) (list_of s x.0)) (same_res-itself x.0) in
    cc)
