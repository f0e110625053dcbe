-- What each event of star mode does to a system's part: to what it manages and keeps, and to its interest.
use Rattle.grs_world.proofs.Common.{◌&&◌, ◌+◌, ◌<◌, ◌==◌, ◌∙◌, ◌≡◌, ◌≢◌, after_request, after_telling, after_want}
use Rattle.grs_world.proofs.Common.{Alike, ap, arith, Bool, cond, Deck, Deq, Enq, entry_of, entry_of_res, entry_wanted}
use Rattle.grs_world.proofs.Common.{eqb-false, eqb-true, false, has_interest, is_entry, is_interested, is_some}
use Rattle.grs_world.proofs.Common.{items_of, kept_at, kept_for, left_at, length, length-set, List, Look, Managed}
use Rattle.grs_world.proofs.Common.{managed_at, ManagerView, manages, nat_le, nat_lt, None, Option, option_map_or}
use Rattle.grs_world.proofs.Common.{plain, refl, Release, Req, Res, settled, slice_get, slice_get_within}
use Rattle.grs_world.proofs.Common.{slice_index_or, slice_of, slice_set, Some, some_of, StarPart, State, subst, sym}
use Rattle.grs_world.proofs.Common.{System, TaskId, true, unwrap_or, Want, with_entry, with_interest, ℕ}
use Rattle.contention_mgr.specs.Manager.{told, are_of}
use Rattle.grs_known.proofs.lists.Alike.{alike-want}
use Rattle.grs_node.specs.Star.{told_by}
use Rattle.std.proofs.lemmas.List.{get_or-set_same, get_or-set_other}
use Rattle.std.proofs.lemmas.Option.{unwrap_or-slice_get}
use Rattle.grs_base.specs.declared.resource.Res.TheVariants.{Step, Systems}
use Rattle.std.proofs.lemmas.Nat.{mod_below}
use Rattle.contention_mgr.specs.Laws.{AreWellKept}
use Rattle.contention_mgr.proofs.LawProofs.{lists_follow, telling_keeps_lists}
use Rattle.contention_mgr.proofs.ManagerLaws.{entries_are_well_kept, requests_keep_well, telling_keeps_well}
use Rattle.grs_world.proofs.star.Members.{IsPart, has_manager}
use Rattle.grs_world.proofs.star.Under.{under, under-want, under-other, entry-same}

-- ---- entries are there
pub res-within : (entries : ℕ) (r : Res) (x : ℕ) → 0 < entries → entry_of_res entries r ≡ Some x → x < entries
res-within entries (Step s j q r) x some is = absurd (cc)
res-within entries (System s q r) x some is = absurd (cc)
res-within entries (Systems q r) x some is =
    let at : entry_of (slice_of q r) entries ≡ x = cc in
    subst (λ k. k < entries) at (mod_below (slice_of q r) entries some)

pub want-within : (entries : ℕ) (w : Want) (x : ℕ) → 0 < entries → entry_wanted entries w ≡ Some x → x < entries
want-within entries (Enq r c ret full) x some is = res-within entries r x some is
want-within entries (Deq r have) x some is = res-within entries r x some is
want-within entries (Release r) x some is = res-within entries r x some is
want-within entries (Look first count f) x some is =
    go (nat_lt 0 count && nat_le (first + count) 64 && are_of entries (entry_of first entries) first count) is
  where
    go : (b : Bool) → cond b (Some (entry_of first entries)) None ≡ Some x → x < entries
    go true e = let at : entry_of first entries ≡ x = cc in subst (λ k. k < entries) at (mod_below first entries some)
    go false e = absurd (cc)

pub manages-within : (p : StarPart) (x : ℕ) → manages p x ≡ true → x < length p.manager.entries
manages-within p x h = go (slice_get p.manager.entries x) refl h
  where
    go : (o : Option (Option Managed)) → slice_get p.manager.entries x ≡ o → is_some (unwrap_or o None) ≡ true
        → x < length p.manager.entries
    go None e f = absurd (cc)
    go (Some m) e f = slice_get_within p.manager.entries x m e

pub interest-within : (p : StarPart) (x : ℕ) → has_interest p x ≡ true → x < length p.interest
interest-within p x h = go (slice_get p.interest x) refl (unwrap_or-slice_get p.interest x false ∙ h)
  where
    go : (o : Option Bool) → slice_get p.interest x ≡ o → unwrap_or (slice_get p.interest x) false ≡ true
        → x < length p.interest
    go None e f = absurd (let g : false ≡ true = sym (ap (λ o. unwrap_or o false) e) ∙ f in cc)
    go (Some b) e f = slice_get_within p.interest x b e

-- ---- one entry changed
pub kept-set : (es : List (Option Managed)) (x e : ℕ) (o : Option Managed) → x < length es
    → kept_at (slice_set es x o) e ≡ cond (e == x) o (kept_at es e)
kept-set es x e o inside = unwrap_or-slice_get (slice_set es x o) e None ∙ go (e == x) refl
  where
    go : (b : Bool) → (e == x) ≡ b → slice_index_or (slice_set es x o) e None ≡ cond b o (kept_at es e)
    go true f = ap (λ k. slice_index_or (slice_set es x o) k None) (eqb-true e x f) ∙ get_or-set_same es x o None inside
    go false f = get_or-set_other es x e o None (eqb-false e x f) ∙ sym (unwrap_or-slice_get es e None)

interest-set : (bs : List Bool) (x e : ℕ) (b : Bool) → x < length bs
    → slice_index_or (slice_set bs x b) e false ≡ cond (e == x) b (slice_index_or bs e false)
interest-set bs x e b inside = go (e == x) refl
  where
    go : (c : Bool) → (e == x) ≡ c → slice_index_or (slice_set bs x b) e false ≡ cond c b (slice_index_or bs e false)
    go true f =
        ap (λ k. slice_index_or (slice_set bs x b) k false) (eqb-true e x f) ∙ get_or-set_same bs x b false inside
    go false f = get_or-set_other bs x e b false (eqb-false e x f)

-- ---- a part whose manager keeps something else of an entry that it manages
abbrev keeping : StarPart → ℕ → Managed → List Req → StarPart
keeping p x m held =
    record p {
      manager = record { system = p.manager.system; entries = slice_set p.manager.entries x (Some m) };
      held = held;
    }

part-keeping :
    (deck : Deck) (words : List ℕ) (L L' : State) (s : ℕ) (p : StarPart) (x : ℕ) (m : Managed) (held : List Req)
    → IsPart deck words L s p → manages p x ≡ true →
    Alike (plain m.items) (under deck.entries x L')
    → ((e : ℕ) → e ≢ x → under deck.entries e L' ≡ under deck.entries e L) → AreWellKept (keeping p x m held).manager
    → IsPart deck words L' s (keeping p x m held)
part-keeping deck words L L' s p x m held k mine now others well = record {
  home = k.home;
  entries = length-set p.manager.entries x (Some m) ∙ k.entries;
  interests = k.interests;
  roles = λ e. ap is_some (kept-set p.manager.entries x e (Some m) inside) ∙ (role e (e == x) refl ∙ k.roles e);
  interest = k.interest;
  lists = λ e h.
      subst (λ o. Alike (plain (items_of o)) (under deck.entries e L'))
      (sym (kept-set p.manager.entries x e (Some m) inside))
      (list e (e == x) refl (sym (ap is_some (kept-set p.manager.entries x e (Some m) inside)) ∙ h));
  well = well;
  calm = k.calm;
}
  where
    inside : x < length p.manager.entries
    inside = manages-within p x mine

    role : (e : ℕ) (b : Bool) → (e == x) ≡ b → is_some (cond b (Some m) (kept_at p.manager.entries e)) ≡ manages p e
    role e true f = sym (ap (manages p) (eqb-true e x f) ∙ mine)
    role e false f = refl

    list : (e : ℕ) (b : Bool) → (e == x) ≡ b → is_some (cond b (Some m) (kept_at p.manager.entries e)) ≡ true
        → Alike (plain (items_of (cond b (Some m) (kept_at p.manager.entries e)))) (under deck.entries e L')
    list e true f h = subst (λ i. Alike (plain m.items) (under deck.entries i L')) (sym (eqb-true e x f)) now
    list e false f h =
        subst (Alike (plain (items_of (kept_at p.manager.entries e)))) (sym (others e (eqb-false e x f))) (k.lists e h)

managed-some : (p : StarPart) (x : ℕ) → manages p x ≡ true → (m : Managed) × (managed_at p.manager x ≡ Some m)
managed-some p x h = some_of (managed_at p.manager x) h

-- It carries out a request of an entry that it manages.
pub part-settled :
    (deck : Deck) (words : List ℕ) (L : State) (s : ℕ) (p : StarPart) (t : TaskId) (w : Want) (x : ℕ) (held : List Req)
    → IsPart deck words L s p → entry_wanted deck.entries w ≡ Some x → manages p x ≡ true →
    IsPart deck words (after_want L t w) s (record p { manager = after_request p.manager t w; held = held })
part-settled deck words L s p t w x held k at mine = go (managed-some p x mine)
  where
    here : entry_wanted (length p.manager.entries) w ≡ Some x
    here = ap (λ n. entry_wanted n w) k.entries ∙ at

    mine_entry : is_entry x (entry_wanted deck.entries w) ≡ true
    mine_entry = entry-same x (entry_wanted deck.entries w) at

    other_entry : (e : ℕ) → e ≢ x → is_entry e (entry_wanted deck.entries w) ≡ false
    other_entry e ne = ap (is_entry e) at ∙ off (x == e) refl
      where
        off : (b : Bool) → (x == e) ≡ b → b ≡ false
        off true f = absurd (ne (sym (eqb-true x e f)))
        off false f = refl

    go : (m : Managed) × (managed_at p.manager x ≡ Some m)
        → IsPart deck words (after_want L t w) s (record p { manager = after_request p.manager t w; held = held })
    go (m, is) =
        let same : after_request p.manager t w
        ≡ record {
          system = p.manager.system;
          entries = slice_set p.manager.entries x (Some (settled p.manager.system.0 m t w));
        } =
        ap (λ o.
        option_map_or (λ z. with_entry p.manager o (Some (settled p.manager.system.0 z t w)))
        (kept_for p.manager.entries o) p.manager)
        here
        ∙ ap (λ o.
        option_map_or (λ z. with_entry p.manager (Some x) (Some (settled p.manager.system.0 z t w))) o p.manager)
        is in
        subst (λ (v : ManagerView). IsPart deck words (after_want L t w) s (record p { manager = v; held = held }))
        (sym same)
        (part-keeping deck words L (after_want L t w) s p x (settled p.manager.system.0 m t w) held k mine
        (subst (λ z. Alike z (under deck.entries x (after_want L t w))) (sym (lists_follow p.manager.system.0 m t w))
        (subst (Alike (after_want (plain m.items) t w)) (under-want deck.entries x L t w mine_entry)
        (alike-want (plain m.items) (under deck.entries x L) t w
        (subst (λ o. Alike (plain (items_of o)) (under deck.entries x L)) is (k.lists x mine)))))
        (λ e ne. under-other deck.entries e L t w (other_entry e ne))
        (subst AreWellKept same (requests_keep_well p.manager t w k.well)))

-- An owner is told.
pub part-telling : (deck : Deck) (words : List ℕ) (L : State) (s : ℕ) (p : StarPart) (t : TaskId) (r : Res)
    → IsPart deck words L s p → IsPart deck words L s (record p { manager = after_telling p.manager t r })
part-telling deck words L s p t r k =
    by_entry (entry_of_res (length p.manager.entries) r) (telling_keeps_well p.manager t r k.well)
  where
    by_managed : (x : ℕ) (o : Option Managed) → kept_at p.manager.entries x ≡ o
        → AreWellKept (option_map_or (λ z. with_entry p.manager (Some x) (Some (told t r z))) o p.manager) →
        IsPart deck words L s
        (record p { manager = option_map_or (λ z. with_entry p.manager (Some x) (Some (told t r z))) o p.manager })
    by_managed x None is well = k
    by_managed x (Some m) is well =
        let mine : manages p x ≡ true = ap is_some is in
        part-keeping deck words L L s p x (told t r m) p.held k mine
        (subst (λ z. Alike z (under deck.entries x L)) (sym (telling_keeps_lists false r t m.items))
        (subst (λ o. Alike (plain (items_of o)) (under deck.entries x L)) is (k.lists x mine)))
        (λ e ne. refl)
        well

    by_entry : (o : Option ℕ)
        → AreWellKept
        (option_map_or (λ z. with_entry p.manager o (Some (told t r z))) (kept_for p.manager.entries o) p.manager)
        →
        IsPart deck words L s (record p {
          manager =
              option_map_or (λ z. with_entry p.manager o (Some (told t r z))) (kept_for p.manager.entries o) p.manager;
        })
    by_entry None well = k
    by_entry (Some x) well = by_managed x (kept_at p.manager.entries x) refl well

pub part-told : (deck : Deck) (words : List ℕ) (L : State) (s : ℕ) (p : StarPart) (o : Option (TaskId × Res))
    → IsPart deck words L s p → IsPart deck words L s (told_by p o)
part-told deck words L s p None k = k
part-told deck words L s p (Some x) k = part-telling deck words L s p x.0 x.1 k

-- what is held doesn't matter
pub part-held : (deck : Deck) (words : List ℕ) (L : State) (s : ℕ) (p : StarPart) (held : List Req)
    → IsPart deck words L s p → IsPart deck words L s (record p { held = held })
part-held deck words L s p held k = record {
  home = k.home;
  entries = k.entries;
  interests = k.interests;
  roles = k.roles;
  interest = k.interest;
  lists = k.lists;
  well = k.well;
  calm = k.calm;
}

-- ---- interest and roles
-- It gains or loses interest in an entry, and what it manages stays: so where the words do the same.
pub part-interest : (deck : Deck) (words words' : List ℕ) (L : State) (s : ℕ) (p : StarPart) (x : ℕ) (b : Bool)
    → IsPart deck words L s p → x < deck.entries →
    ((e : ℕ) → has_manager words' e s ≡ has_manager words e s)
    → ((e : ℕ) → is_interested words' e s ≡ cond (e == x) b (is_interested words e s))
    → IsPart deck words' L s (with_interest p x b)
part-interest deck words words' L s p x b k inside roles interest = record {
  home = k.home;
  entries = k.entries;
  interests = length-set p.interest x b ∙ k.interests;
  roles = λ e. k.roles e ∙ sym (roles e);
  interest = λ e.
      interest-set p.interest x e b (omega (arith, inside, k.interests))
      ∙ (ap (cond (e == x) b) (k.interest e) ∙ sym (interest e));
  lists = k.lists;
  well = k.well;
  calm = k.calm;
}

-- It manages an entry from now on, or no longer, and gains or loses interest in it.
pub part-place :
    (deck : Deck) (words words' : List ℕ) (L : State) (s : ℕ) (p : StarPart) (x : ℕ) (o : Option Managed) (b : Bool)
    → IsPart deck words L s p → x < deck.entries →
    ((e : ℕ) → has_manager words' e s ≡ cond (e == x) (is_some o) (has_manager words e s))
    → ((e : ℕ) → is_interested words' e s ≡ cond (e == x) b (is_interested words e s))
    → (is_some o ≡ true → Alike (plain (items_of o)) (under deck.entries x L)) →
    AreWellKept (with_entry p.manager (Some x) o)
    → IsPart deck words' L s (with_interest (record p { manager = with_entry p.manager (Some x) o }) x b)
part-place deck words words' L s p x o b k inside roles interest kept well = record {
  home = k.home;
  entries = length-set p.manager.entries x o ∙ k.entries;
  interests = length-set p.interest x b ∙ k.interests;
  roles = λ e. ap is_some (kept-set p.manager.entries x e o there) ∙ (role e (e == x) ∙ sym (roles e));
  interest = λ e.
      interest-set p.interest x e b (omega (arith, inside, k.interests))
      ∙ (ap (cond (e == x) b) (k.interest e) ∙ sym (interest e));
  lists = λ e h.
      subst (λ z. Alike (plain (items_of z)) (under deck.entries e L)) (sym (kept-set p.manager.entries x e o there))
      (list e (e == x) refl (sym (ap is_some (kept-set p.manager.entries x e o there)) ∙ h));
  well = well;
  calm = k.calm;
}
  where
    there : x < length p.manager.entries
    there = omega (arith, inside, k.entries)

    role : (e : ℕ) (c : Bool)
        → is_some (cond c o (kept_at p.manager.entries e)) ≡ cond c (is_some o) (has_manager words e s)
    role e true = refl
    role e false = k.roles e

    list : (e : ℕ) (c : Bool) → (e == x) ≡ c → is_some (cond c o (kept_at p.manager.entries e)) ≡ true
        → Alike (plain (items_of (cond c o (kept_at p.manager.entries e)))) (under deck.entries e L)
    list e true f h = subst (λ i. Alike (plain (items_of o)) (under deck.entries i L)) (sym (eqb-true e x f)) (kept h)
    list e false f h = k.lists e h

-- It has no interest in an entry any more, and if it managed the entry it no longer does.
pub part-left : (deck : Deck) (words words' : List ℕ) (L : State) (s : ℕ) (p : StarPart) (x : ℕ)
    → IsPart deck words L s p → x < deck.entries →
    ((e : ℕ) → has_manager words' e s ≡ cond (e == x) false (has_manager words e s))
    → ((e : ℕ) → is_interested words' e s ≡ cond (e == x) false (is_interested words e s))
    → IsPart deck words' L s (left_at p x)
part-left deck words words' L s p x k inside roles interest = go (manages p x) refl
  where
    go : (b : Bool) → manages p x ≡ b
        → IsPart deck words' L s
        (with_interest (record p { manager = cond b (with_entry p.manager (Some x) None) p.manager }) x false)
    go true h =
        part-place deck words words' L s p x None false k inside roles interest (λ e. absurd (cc))
        (entries_are_well_kept p.manager x k.well).1
    go false h = part-interest deck words words' L s p x false k inside (λ e. roles e ∙ same e (e == x) refl) interest
      where
        same : (e : ℕ) (b : Bool) → (e == x) ≡ b → cond b false (has_manager words e s) ≡ has_manager words e s
        same e true f = sym (ap (λ i. has_manager words i s) (eqb-true e x f) ∙ (sym (k.roles x) ∙ h))
        same e false f = refl
