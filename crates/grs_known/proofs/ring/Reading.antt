-- What a system in the ring learns by its table is right.
use Rattle.std.proofs.Common.{◌≡◌, Bool, true, false, cond, ◌&&◌, List, [], ◌∷◌, ◌++◌, Some, None, Option, refl, ap}
use Rattle.std.proofs.Common.{sym, ◌∙◌, subst, append_assoc, append-nil}
use Rattle.std.specs.List.{list_any}
use Rattle.std.proofs.lemmas.List.Elements.{filter-append}
use Rattle.std.proofs.lemmas.Bool.{or_parts}
use Rattle.grs_base.specs.Same.{same_task}
use Rattle.grs_base.specs.Lists.{owns}
use Rattle.grs_base.specs.State.{State, list_of, is_systems}
use Rattle.grs_base.specs.declared.resource.Res.{Res}
use Rattle.grs_base.specs.declared.resource.TaskId.{TaskId}
use Rattle.grs_wire.specs.History.{after_fixed, fixed_entries}
use Rattle.grs_wire.specs.Wants.{answer_to, res_wanted, new_owners}
use Rattle.grs_wire.specs.declared.request.Fixed.TheVariants.{Asked}
use Rattle.grs_wire.specs.declared.request.Answer.TheVariants.{Rows}
use Rattle.grs_wire.specs.declared.request.Req.{Req}
use Rattle.grs_wire.specs.declared.request.Want.{Want}
use Rattle.grs_wire.specs.declared.request.Want.TheVariants as wants
use Rattle.grs_known.specs.Items.{RunItem, is_of, removes_system_of, gives_back, wants_round, mine, rounds, reply_in}
use Rattle.grs_known.specs.Items.{lists, AllMade}
use Rattle.grs_known.specs.Known.{Known, last_of, outstanding, Still, IsRight, learns_item}
use Rattle.grs_known.specs.Parts.{systems_part}
use Rattle.grs_known.specs.Reading.{gives_among, all_known, all_but, learns_mine, gained, learns_gained, TableAnswers}
use Rattle.grs_known.specs.Reading.{OwnersStayOn, ReadingIsRight}
use Rattle.grs_known.proofs.lists.Facts.{filter-cons_kept}
use Rattle.grs_known.proofs.lists.Owners.{is_among, is_among-any, new-owns}
use Rattle.grs_known.proofs.lists.Parts.{part, answer_to-part, new_owners-part}
use Rattle.grs_known.proofs.lists.Shows.{looks-systems}
use Rattle.grs_known.proofs.known.Control.{owns-other, still-own}
use Rattle.grs_known.proofs.known.Fronts.{pushed, still-rest}
use Rattle.grs_known.proofs.known.Histories.{wants-round}
use Rattle.grs_known.proofs.known.ItemLaws.{lists-push, replies_are_answers}
use Rattle.grs_known.proofs.known.Knowing.{last_of-push, right-answer, right-control}
use Rattle.grs_known.proofs.ring.Parts.{part-items}

-- ---- owners stay
-- behind one item that doesn't give the resource up for the task
module _ (t : TaskId) (r : Res) (front : List RunItem) (x : RunItem) (xs : List RunItem) (made : AllMade front (x ∷ xs))
    (live : removes_system_of t x.fixed ≡ false) (none : (is_of t x.fixed && gives_back r x.fixed) ≡ false)
    (h : owns (list_of (lists front) r) t ≡ true) where
  owns-next : owns (list_of (lists (front ++ x ∷ [])) r) t ≡ true
  owns-next = go (is_of t x.fixed) refl none
    where
      go : (b : Bool) → is_of t x.fixed ≡ b → (b && gives_back r x.fixed) ≡ false
          → owns (list_of (lists (front ++ x ∷ [])) r) t ≡ true
      go true e f = (still-own t front x e made.0 r h).0 f
      go false e f = owns-other front x t r e live h

owns-rest : (t : TaskId) (r : Res) (front rest : List RunItem) → AllMade front rest
    → list_any (λ x. removes_system_of t x.fixed) rest ≡ false → gives_among t r rest ≡ false
    → owns (list_of (lists front) r) t ≡ true → owns (list_of (lists (front ++ rest)) r) t ≡ true
owns-rest t r front [] made live none h = subst (λ T. owns (list_of (lists T) r) t ≡ true) (sym (append-nil front)) h
owns-rest t r front (x ∷ xs) made live none h =
    let l = or_parts _ _ live in
    let n = or_parts _ _ none in
    subst (λ T. owns (list_of (lists T) r) t ≡ true) (sym (pushed front x xs))
    (owns-rest t r (front ++ x ∷ []) xs made.1 l.1 n.1 (owns-next t r front x xs made l.0 n.0 h))

still-last : (t : TaskId) (r : Res) (front mid : List RunItem) (x : RunItem) (rest : List RunItem)
    → AllMade front (mid ++ x ∷ rest) → list_any (λ y. removes_system_of t y.fixed) (mid ++ x ∷ rest) ≡ false
    → gives_among t r mid ≡ false → is_of t x.fixed ≡ true → mine t rest ≡ [] →
    owns (list_of (lists front) r) t ≡ true → Still r t (front ++ (mid ++ x ∷ rest)) (Some x)
still-last t r front [] x rest made live none own last h =
    subst (λ T. Still r t T (Some x)) (sym (pushed front x rest))
    (still-rest t r (front ++ x ∷ []) rest (Some x) (or_parts _ _ live).1 last (still-own t front x own made.0 r h))
still-last t r front (y ∷ ys) x rest made live none own last h =
    let l = or_parts _ _ live in
    let n = or_parts _ _ none in
    subst (λ T. Still r t T (Some x)) (sym (pushed front y (ys ++ x ∷ rest)))
    (still-last t r (front ++ y ∷ []) ys x rest made.1 l.1 n.1 own last
    (owns-next t r front y (ys ++ x ∷ rest) made l.0 n.0 h))

outstanding-last : (t : TaskId) (k : Known) (front mid : List RunItem) (x : RunItem) (rest : List RunItem)
    → k.behind ≡ true → is_of t x.fixed ≡ true → mine t rest ≡ []
    → outstanding t k (front ++ (mid ++ x ∷ rest)) ≡ Some x
outstanding-last t k front mid x rest e own last =
    ap (λ b. cond b (last_of (mine t (front ++ (mid ++ x ∷ rest)))) None) e
    ∙ ap (λ T. last_of (mine t T)) (sym (append_assoc front mid (x ∷ rest)))
    ∙ ap last_of (filter-append (λ y. is_of t y.fixed) (front ++ mid) (x ∷ rest)
    ∙ ap (λ zs. mine t (front ++ mid) ++ zs)
    (filter-cons_kept (λ y. is_of t y.fixed) x rest own ∙ ap (λ zs. x ∷ zs) last))
    ∙ last_of-push (mine t (front ++ mid)) x

pub owners_stay_on : OwnersStayOn
owners_stay_on t r k front rest made live (all_known xs e none) h =
    subst (λ b. Still r t (front ++ xs) (cond b (last_of (mine t (front ++ xs))) None)) (sym e)
    (owns-rest t r front xs made live none h)
owners_stay_on t r k front rest made live (all_but mid x behind e none own last) h =
    subst (Still r t (front ++ (mid ++ x ∷ behind))) (sym (outstanding-last t k front mid x behind e own last))
    (still-last t r front mid x behind made live none own last h)

-- ---- the table
pub table-is : (front : List RunItem) → lists (rounds front) ≡ systems_part (lists front)
table-is front = part-items [] front

-- it answers what goes with the message as all lists do
pub answer-systems : (s : State) (t : TaskId) (w : Want) → wants_round w ≡ true
    → answer_to (systems_part s) t w ≡ answer_to s t w
answer-systems s t (wants.Enq r c ret full) wide = answer_to-part is_systems s t (wants.Enq r c ret full) r refl wide
answer-systems s t (wants.Deq r have) wide = answer_to-part is_systems s t (wants.Deq r have) r refl wide
answer-systems s t (wants.Release r) wide = refl
answer-systems s t (wants.Look first count f) wide = ap Rows (looks-systems s first count f)

pub table_answers : TableAnswers
table_answers front x q asked wide made =
    ap (λ z. answer_to z q.task q.want) (table-is front) ∙ answer-systems (lists front) q.task q.want wide
    ∙ sym (replies_are_answers (lists front) q.task q.want)
    ∙ ap reply_in (sym (made ∙ ap (fixed_entries (lists front) x.by) asked))

-- who becomes an owner by the elements on some resources owns by the lists behind the item
pub owner-behind : (p : Res → Bool) (front : List RunItem) (x : RunItem) (q : Req) (r : Res) (t : TaskId)
    → x.fixed ≡ Asked q → res_wanted q.want ≡ Some r → p r ≡ true
    → is_among t (new_owners (part p (lists front)) q.task q.want) ≡ true →
    owns (list_of (lists (front ++ x ∷ [])) r) t ≡ true
owner-behind p front x q r t asked wanted own e =
    ap (λ z. owns (list_of z r) t) (lists-push front x ∙ ap (after_fixed (lists front)) asked)
    ∙ new-owns (lists front) q.task q.want r t wanted
    (ap (is_among t) (sym (new_owners-part p (lists front) q.task q.want r wanted own)) ∙ e)

gained-owns : (t : TaskId) (front : List RunItem) (x : RunItem) (q : Req) (r : Res) → x.fixed ≡ Asked q
    → res_wanted q.want ≡ Some r → is_systems r ≡ true
    → list_any (same_task t) (new_owners (lists (rounds front)) q.task q.want) ≡ true →
    owns (list_of (lists (front ++ x ∷ [])) r) t ≡ true
gained-owns t front x q r asked wanted wide e =
    owner-behind is_systems front x q r t asked wanted wide (is_among-any t
    (new_owners (systems_part (lists front)) q.task q.want)
    ∙ ap (λ z. list_any (same_task t) (new_owners z q.task q.want)) (sym (table-is front))
    ∙ e)

pub reading_is_right : ReadingIsRight
reading_is_right t k front x rest q asked wide made live mine_is keeps right =
    subst (λ f. IsRight t (learns_gained (learns_mine t k x) (gained t (lists (rounds front)) f)) T) (sym asked)
    (by_owners (list_any (same_task t) (new_owners (lists (rounds front)) q.task q.want)) refl (res_wanted q.want) refl)
  where
    T : List RunItem
    T = front ++ x ∷ rest

    learned : IsRight t (learns_mine t k x) T
    learned = by_own (is_of t x.fixed) refl
      where
        by_own : (b : Bool) → is_of t x.fixed ≡ b → IsRight t (cond b (learns_item k x) k) T
        by_own true e = right-answer t k T x (mine_is e) right
        by_own false e = right

    by_owners : (b : Bool) → list_any (same_task t) (new_owners (lists (rounds front)) q.task q.want) ≡ b
        → (o : Option Res) → res_wanted q.want ≡ o → IsRight t (learns_gained (learns_mine t k x) (cond b o None)) T
    by_owners false e o wanted = learned
    by_owners true e None wanted = learned
    by_owners true e (Some r) wanted = right-control t (learns_mine t k x) T r learned
        (subst (λ U. Still r t U (outstanding t (learns_mine t k x) U)) (sym (pushed front x rest))
        (owners_stay_on t r (learns_mine t k x) (front ++ x ∷ []) rest made.1 live (keeps r wanted)
        (gained-owns t front x q r asked wanted (sym (wants-round q.want r wanted) ∙ wide) e)))
