-- The elements on the resources of a lock entry.
use Rattle.grs_world.proofs.Common.{[], ◌&&◌, ◌++◌, ◌+◌, ◌==◌, ◌∙◌, ◌∷◌, ◌≡◌, after_want, and_from, and_parts}
use Rattle.grs_world.proofs.Common.{answer_to, ap, arith, Bool, cond, Deq, Enq, entry_of, entry_of_res, entry_wanted}
use Rattle.grs_world.proofs.Common.{eq-eqb, eqb-true, false, Filter, has_task, is_entry, is_systems, list_all, list_of}
use Rattle.grs_world.proofs.Common.{list_of-part, Look, look, looks, nat_le, nat_lt, new_owners, no_truth, None, Option}
use Rattle.grs_world.proofs.Common.{part, refl, Release, Res, res_wanted, Rows, same_res, same_res-exact, same_Some}
use Rattle.grs_world.proofs.Common.{Slice, slice_of, Some, State, suc, sym, TaskId, true, Want, zero, ℕ}
use Rattle.contention_mgr.specs.Manager.{are_of, entry_of_looks}
use Rattle.grs_known.proofs.lists.Parts.{after_want-part, answer_to-part, new_owners-part, part-want_other}
use Rattle.grs_base.specs.Looks.{is_of_place}
use Rattle.grs_known.proofs.lists.All.{has_task-all}
use Rattle.grs_known.proofs.lists.Shows.{look-alike}
use Rattle.grs_base.specs.declared.resource.Res.TheVariants as resources

-- whether a resource is of a lock entry, where there are so many
abbrev pub in_entry : ℕ → ℕ → Res → Bool
in_entry entries e r = is_entry e (entry_of_res entries r)

abbrev pub under : ℕ → ℕ → State → State
under entries e s = part (in_entry entries e) s

pub entry-same : (e : ℕ) (o : Option ℕ) → o ≡ Some e → is_entry e o ≡ true
entry-same e o h = ap (is_entry e) h ∙ eq-eqb e e refl

pub entry-is : (e : ℕ) (o : Option ℕ) → is_entry e o ≡ true → o ≡ Some e
entry-is e None h = absurd (cc)
entry-is e (Some n) h = ap Some (eqb-true n e h)

-- the entry of a request is that of its resource
pub want-entry : (entries : ℕ) (w : Want) (r : Res) → res_wanted w ≡ Some r
    → entry_wanted entries w ≡ entry_of_res entries r
want-entry entries (Enq q c ret full) r wanted = ap (entry_of_res entries) (same_Some q r wanted)
want-entry entries (Deq q have) r wanted = ap (entry_of_res entries) (same_Some q r wanted)
want-entry entries (Release q) r wanted = ap (entry_of_res entries) (same_Some q r wanted)
want-entry entries (Look first count f) r wanted = absurd (cc)

pub res-entry : (entries : ℕ) (w : Want) (r : Res) (e : ℕ) → res_wanted w ≡ Some r → entry_wanted entries w ≡ Some e
    → entry_of_res entries r ≡ Some e
res-entry entries w r e wanted is = sym (want-entry entries w r wanted) ∙ is

-- a request of the entry does to them what it does to all lists
pub under-want : (entries e : ℕ) (s : State) (t : TaskId) (w : Want) → is_entry e (entry_wanted entries w) ≡ true
    → after_want (under entries e s) t w ≡ under entries e (after_want s t w)
under-want entries e s t (Enq r c ret full) h = after_want-part (in_entry entries e) s t (Enq r c ret full) r refl h
under-want entries e s t (Deq r have) h = after_want-part (in_entry entries e) s t (Deq r have) r refl h
under-want entries e s t (Release r) h = after_want-part (in_entry entries e) s t (Release r) r refl h
under-want entries e s t (Look first count f) h = refl

-- and another one leaves them
pub under-other : (entries e : ℕ) (s : State) (t : TaskId) (w : Want) → is_entry e (entry_wanted entries w) ≡ false
    → under entries e (after_want s t w) ≡ under entries e s
under-other entries e s t (Enq r c ret full) h = part-want_other (in_entry entries e) s t (Enq r c ret full) r refl h
under-other entries e s t (Deq r have) h = part-want_other (in_entry entries e) s t (Deq r have) r refl h
under-other entries e s t (Release r) h = part-want_other (in_entry entries e) s t (Release r) r refl h
under-other entries e s t (Look first count f) h = refl

-- of other resources the elements of an entry have no list
pub none-under : (p : Res → Bool) (s : State) (r : Res) → p r ≡ false → list_of (part p s) r ≡ []
none-under p [] r h = refl
none-under p (x ∷ s) r h = go (p x.0) refl (none-under p s r h)
  where
    here : p x.0 ≡ true → (b : Bool) → same_res r x.0 ≡ b → list_of (part p s) r ≡ []
        → cond b (x.1 ∷ list_of (part p s) r) (list_of (part p s) r) ≡ []
    here passes true same more = no_truth (p r) (ap p (same_res-exact r x.0 same) ∙ passes) h
    here passes false same more = more

    go : (b : Bool) → p x.0 ≡ b → list_of (part p s) r ≡ [] → list_of (cond b (x ∷ part p s) (part p s)) r ≡ []
    go true e more = here e (same_res r x.0) refl more
    go false e more = more

-- a resource of the whole complex is of a lock entry
pub wide-entry : (entries : ℕ) (r : Res) → is_systems r ≡ true → (e : ℕ) × (entry_of_res entries r ≡ Some e)
wide-entry entries (resources.Step n j q r) wide = absurd (cc)
wide-entry entries (resources.System n q r) wide = absurd (cc)
wide-entry entries (resources.Systems q r) wide = (entry_of (slice_of q r) entries, refl)

pub list-under : (entries e : ℕ) (s : State) (r : Res) → in_entry entries e r ≡ true
    → list_of (under entries e s) r ≡ list_of s r
list-under entries e s r h = list_of-part (in_entry entries e) s r h

-- the resources of a slice are of the slice's entry, so looks at slices of an entry show them as they show all lists
slice-entry : (entries e n : ℕ) (q : Res) → e ≡ entry_of n entries → is_of_place (Slice n) q ≡ true
    → in_entry entries e q ≡ true
slice-entry entries e n (resources.Systems q r) is at =
    eq-eqb (entry_of (slice_of q r) entries) e (ap (λ k. entry_of k entries) (eqb-true (slice_of q r) n at) ∙ sym is)
slice-entry entries e n (resources.System s q r) is at = absurd (cc)
slice-entry entries e n (resources.Step s j q r) is at = absurd (cc)

looks-of : (entries e : ℕ) (s : State) (first count : ℕ) (f : Filter) → are_of entries e first count ≡ true
    → looks (under entries e s) first count f ≡ looks s first count f
looks-of entries e s first zero f h = refl
looks-of entries e s first (suc count) f h =
    let both = and_parts (e == entry_of first entries) (are_of entries e (first + 1) count) h in
    ap (λ rows. rows ++ looks (under entries e s) (suc first) count f)
    (look-alike (Slice first) f (under entries e s) s
    (λ q at. list-under entries e s q (slice-entry entries e first q (eqb-true e (entry_of first entries) both.0) at)))
    ∙ ap (λ rows. look s (Slice first) f ++ rows)
    (looks-of entries e s (suc first) count f (ap (λ n. are_of entries e n count) (omega arith) ∙ both.1))

looks-under : (entries e : ℕ) (s : State) (first count : ℕ) (f : Filter)
    → is_entry e (entry_of_looks entries first count) ≡ true
    → looks (under entries e s) first count f ≡ looks s first count f
looks-under entries e s first count f h =
    go (nat_lt 0 count) (nat_le (first + count) 64) (are_of entries (entry_of first entries) first count) refl h
  where
    go : (a b c : Bool) → are_of entries (entry_of first entries) first count ≡ c
        → is_entry e (cond (a && b && c) (Some (entry_of first entries)) None) ≡ true
        → looks (under entries e s) first count f ≡ looks s first count f
    go true true true of k =
        looks-of entries e s first count f
        (ap (λ n. are_of entries n first count) (sym (eqb-true (entry_of first entries) e k)) ∙ of)
    go true true false of k = absurd (cc)
    go true false c of k = absurd (cc)
    go false b c of k = absurd (cc)

-- they answer as all lists do, and tell of the same new owners
pub answer-under : (entries e : ℕ) (s : State) (t : TaskId) (w : Want) → is_entry e (entry_wanted entries w) ≡ true
    → answer_to (under entries e s) t w ≡ answer_to s t w
answer-under entries e s t (Enq q c ret full) h = answer_to-part (in_entry entries e) s t (Enq q c ret full) q refl h
answer-under entries e s t (Deq q have) h = answer_to-part (in_entry entries e) s t (Deq q have) q refl h
answer-under entries e s t (Release q) h = answer_to-part (in_entry entries e) s t (Release q) q refl h
answer-under entries e s t (Look first count f) h = ap Rows (looks-under entries e s first count f h)

pub owners-under : (entries e : ℕ) (s : State) (t : TaskId) (w : Want) → is_entry e (entry_wanted entries w) ≡ true
    → new_owners (under entries e s) t w ≡ new_owners s t w
owners-under entries e s t (Enq q c ret full) h = new_owners-part (in_entry entries e) s t (Enq q c ret full) q refl h
owners-under entries e s t (Deq q have) h = new_owners-part (in_entry entries e) s t (Deq q have) q refl h
owners-under entries e s t (Release q) h = new_owners-part (in_entry entries e) s t (Release q) q refl h
owners-under entries e s t (Look first count f) h = refl

-- and who has an element among them has it on a resource of the entry
part-passes : (p : Res → Bool) (s : State) → list_all (λ h. p h.0) (part p s) ≡ true
part-passes p [] = refl
part-passes p (x ∷ s) = go (p x.0) refl (part-passes p s)
  where
    go : (b : Bool) → p x.0 ≡ b → list_all (λ h. p h.0) (part p s) ≡ true
        → list_all (λ h. p h.0) (cond b (x ∷ part p s) (part p s)) ≡ true
    go true e more = and_from (p x.0) (list_all (λ h. p h.0) (part p s)) e more
    go false e more = more

pub under-has : (entries e : ℕ) (s : State) (r : Res) (t : TaskId) → has_task (list_of (under entries e s) r) t ≡ true
    → in_entry entries e r ≡ true
under-has entries e s r t h =
    has_task-all (λ q u. in_entry entries e q) (under entries e s) r t (part-passes (in_entry entries e) s) h
