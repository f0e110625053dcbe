-- What a system in the ring has still to process of a task's items is the outstanding one. So what it learns by its
-- table, item by item, is right.
use Rattle.std.proofs.Common.{◌≡◌, Bool, true, false, cond, ◌&&◌, ◌||◌, List, [], ◌∷◌, ◌++◌, Option, Some, None, refl}
use Rattle.std.proofs.Common.{ap, sym, ◌∙◌, subst, arith}
use Rattle.std.specs.Prelude.{filter, is_some}
use Rattle.std.proofs.lemmas.Bool.{and_parts, cases_Bool, and_right}
use Rattle.std.proofs.lemmas.List.Elements.{filter-append}
use Rattle.grs_base.specs.Same.{same_res}
use Rattle.grs_base.specs.Lists.{owns}
use Rattle.grs_base.specs.State.{State, list_of, is_systems, remove_state}
use Rattle.grs_base.specs.declared.resource.SysId.{SysId}
use Rattle.grs_base.specs.declared.resource.Res.{Res}
use Rattle.grs_base.specs.declared.resource.TaskId.{TaskId}
use Rattle.grs_base.proofs.SameLaws.{same_res-exact}
use Rattle.grs_legal.specs.Asks.{lines_of}
use Rattle.grs_wire.specs.History.{entries_for, fixed_entries, after_fixed}
use Rattle.grs_wire.specs.Wants.{answer_to, res_wanted, new_owners}
use Rattle.grs_wire.specs.declared.deck.Deck.{Deck}
use Rattle.grs_wire.specs.declared.request.Fixed.{Fixed}
use Rattle.grs_wire.specs.declared.request.Fixed.TheVariants.{Asked, LocalLook, Purged}
use Rattle.grs_wire.specs.declared.request.Req.{Req}
use Rattle.grs_wire.specs.declared.request.Want.{Want}
use Rattle.grs_wire.specs.declared.request.Want.TheVariants as wants
use Rattle.task_state.specs.Replies.{gives_up}
use Rattle.grs_known.specs.Items.{RunItem, is_of, gives_back, goes_round, wants_round, mine, rounds, lists, AllMade}
use Rattle.grs_known.specs.Parts.{systems_part}
use Rattle.grs_known.specs.Known.{Known, all_but_last, last_of, outstanding, Still, IsRight}
use Rattle.grs_known.specs.Reading.{gives_among, Keeps, all_known, all_but}
use Rattle.grs_known.proofs.lists.Facts.{filter-cons_kept, filter-cons_left}
use Rattle.grs_known.proofs.lists.Owners.{is_among}
use Rattle.grs_known.proofs.lists.Truths.{false_by, no_truth}
use Rattle.grs_known.proofs.known.Fitting.{made-behind}
use Rattle.grs_known.proofs.known.Fronts.{pushed}
use Rattle.grs_known.proofs.known.Histories.{AllAsk, IsHistory, IsLive, asks-front, live-behind, owns-may, wants-round}
use Rattle.grs_known.proofs.known.ItemLaws.{lists-push}
use Rattle.grs_known.proofs.ring.Parts.{list_of-systems, part-remove}
use Rattle.grs_known.proofs.known.Knowing.{last_of-is, one, one-none, one-some}
use Rattle.grs_known.proofs.known.Knows.{known-all}
use Rattle.grs_known.proofs.ring.Reading.{answer-systems, table-is, owner-behind, owners_stay_on}

-- ---- the last item of a task, and those that went with the message
filter-swap : (p q : RunItem → Bool) (xs : List RunItem) → filter p (filter q xs) ≡ filter q (filter p xs)
filter-swap p q [] = refl
filter-swap p q (x ∷ xs) = grind (arith, filter-swap p q xs, cases_Bool (p x), cases_Bool (q x))

-- a last item that went with the message is one of those
last_round : (t : TaskId) (xs : List RunItem) (y : RunItem) → last_of (mine t xs) ≡ Some y → goes_round y.fixed ≡ true
    → mine t (rounds xs) ≡ [] → ⊥
last_round t xs y last round none = some (rounds (all_but_last (mine t xs))) (
    sym (ap (λ zs. rounds (all_but_last (mine t xs)) ++ zs) (filter-cons_kept (λ z. goes_round z.fixed) y [] round))
    ∙ sym (filter-append (λ z. goes_round z.fixed) (all_but_last (mine t xs)) (y ∷ []))
    ∙ ap rounds (sym (last_of-is (mine t xs) y last))
    ∙ filter-swap (λ z. goes_round z.fixed) (λ z. is_of t z.fixed) xs
    ∙ none)
  where
    some : (zs : List RunItem) → zs ++ y ∷ [] ≡ [] → ⊥
    some [] e = absurd (cc)
    some (z ∷ zs) e = absurd (cc)

last_of-behind : (xs : List RunItem) (y z : RunItem) (zs : List RunItem) → last_of (xs ++ y ∷ z ∷ zs) ≡ last_of (z ∷ zs)
last_of-behind [] y z zs = refl
last_of-behind (x ∷ []) y z zs = refl
last_of-behind (x ∷ w ∷ xs) y z zs = last_of-behind (w ∷ xs) y z zs

-- behind it the task has none
none-behind : (t : TaskId) (front xs : List RunItem) (y : RunItem) → last_of (mine t (front ++ y ∷ xs)) ≡ Some y
    → is_of t y.fixed ≡ true → goes_round y.fixed ≡ true → mine t (rounds xs) ≡ [] → mine t xs ≡ []
none-behind t front xs y last own round none = go (mine t xs) refl
  where
    go : (zs : List RunItem) → mine t xs ≡ zs → zs ≡ []
    go [] e = refl
    go (z ∷ zs) e = absurd (last_round t xs y (
        ap last_of e ∙ sym (last_of-behind (mine t front) y z zs) ∙ ap (λ ys. last_of (mine t front ++ y ∷ ys)) (sym e)
        ∙ ap (λ ys. last_of (mine t front ++ ys)) (sym (filter-cons_kept (λ z. is_of t z.fixed) y xs own))
        ∙ ap last_of (sym (filter-append (λ z. is_of t z.fixed) front (y ∷ xs)))
        ∙ last)
        round none)

-- ---- what is known is kept behind a front
gives-round : (r : Res) → is_systems r ≡ true → (f : Fixed) → goes_round f ≡ false → gives_back r f ≡ false
gives-round r wide (LocalLook t f) e = refl
gives-round r wide (Purged target) e = refl
gives-round r wide (Asked q) e = go q.want e
  where
    apart : (p : Res) → is_systems p ≡ false → same_res r p ≡ false
    apart p f =
        false_by (same_res r p)
        (λ s. no_truth (is_systems p) (subst (λ z. is_systems z ≡ true) (same_res-exact r p s) wide) f)

    go : (w : Want) → wants_round w ≡ false → gives_up r w ≡ false
    go (wants.Enq p c ret full) f = refl
    go (wants.Deq p have) f = apart p f
    go (wants.Release p) f = apart p f
    go (wants.Look first count f) g = refl

keeps-more : (t : TaskId) (r : Res) (k : Known) (x : RunItem) (xs : List RunItem)
    → (is_of t x.fixed && gives_back r x.fixed) ≡ false → Keeps t r k xs → Keeps t r k (x ∷ xs)
keeps-more t r k x xs stays (all_known ys e none) =
    all_known (x ∷ ys) e (ap (λ b. b || gives_among t r ys) stays ∙ none)
keeps-more t r k x xs stays (all_but mid y rest e none own last) =
    all_but (x ∷ mid) y rest e (ap (λ b. b || gives_among t r mid) stays ∙ none) own last

behind_some : (b : Bool) (o : Option RunItem) (x : RunItem) → cond b o None ≡ Some x → (b ≡ true) × (o ≡ Some x)
behind_some true o x e = (refl, e)
behind_some false o x e = absurd (cc)

keeps-due : (t : TaskId) (r : Res) → is_systems r ≡ true → (k : Known) (T front rest : List RunItem) → T ≡ front ++ rest
    → IsRight t k T → mine t (rounds rest) ≡ one (outstanding t k T) → Keeps t r k rest
keeps-due t r wide k T front [] whole right due =
    all_known [] (known-all T t k right (one-none (outstanding t k T) due)) refl
keeps-due t r wide k T front (x ∷ xs) whole right due =
    go (is_of t x.fixed) refl (goes_round x.fixed) refl due
    (keeps-due t r wide k T (front ++ x ∷ []) xs (whole ∙ pushed front x xs) right)
  where
    skip : (c : Bool) → is_of t x.fixed ≡ false → mine t (cond c (x ∷ rounds xs) (rounds xs)) ≡ mine t (rounds xs)
    skip true e = filter-cons_left (λ z. is_of t z.fixed) x (rounds xs) e
    skip false e = refl

    go : (b : Bool) → is_of t x.fixed ≡ b → (c : Bool) → goes_round x.fixed ≡ c
        → mine t (cond c (x ∷ rounds xs) (rounds xs)) ≡ one (outstanding t k T)
        → (mine t (rounds xs) ≡ one (outstanding t k T) → Keeps t r k xs) → Keeps t r k (x ∷ xs)
    go false e c f d ih = keeps-more t r k x xs (ap (λ b. b && gives_back r x.fixed) e) (ih (sym (skip c e) ∙ d))
    go true e false f d ih =
        keeps-more t r k x xs (and_right (is_of t x.fixed) (gives_back r x.fixed) (gives-round r wide x.fixed f)) (ih d)
    go true e true f d ih =
        let out =
        one-some (outstanding t k T) x (mine t (rounds xs))
        (sym (filter-cons_kept (λ z. is_of t z.fixed) x (rounds xs) e) ∙ d) in
        let last = behind_some k.behind (last_of (mine t T)) x out.0 in
        all_but [] x xs last.0 refl e
        (none-behind t front xs x (ap (λ ys. last_of (mine t ys)) (sym whole) ∙ last.1) e f out.1)

-- ---- the first item that is due
-- where it stands among all items
record SplitsAt (T before : List RunItem) (x : RunItem) (later : List RunItem) : Type 0 where
  front : List RunItem
  rest : List RunItem
  whole : T ≡ front ++ x ∷ rest
  seen : rounds front ≡ before
  due : rounds rest ≡ later

splits-at : (T before : List RunItem) (x : RunItem) (later : List RunItem) → rounds T ≡ before ++ x ∷ later
    → SplitsAt T before x later
splits-at [] [] x later e = absurd (cc)
splits-at [] (b ∷ before) x later e = absurd (cc)
splits-at (y ∷ T) before x later e = go (goes_round y.fixed) refl before e (λ b f. splits-at T b x later f)
  where
    go : (b : Bool) → goes_round y.fixed ≡ b → (before : List RunItem)
        → cond b (y ∷ rounds T) (rounds T) ≡ before ++ x ∷ later
        → ((b : List RunItem) → rounds T ≡ b ++ x ∷ later → SplitsAt T b x later) → SplitsAt (y ∷ T) before x later
    go false g before e ih =
        let s = ih before e in record {
          front = y ∷ s.front;
          rest = s.rest;
          whole = ap (λ z. y ∷ z) s.whole;
          seen = filter-cons_left (λ z. goes_round z.fixed) y s.front g ∙ s.seen;
          due = s.due;
        }
    go true g [] e ih =
        let same : y ≡ x = cc in
        let tail : rounds T ≡ later = cc in
        record { front = []; rest = T; whole = ap (λ z. z ∷ T) same; seen = refl; due = tail }
    go true g (b ∷ bs) e ih =
        let same : y ≡ b = cc in
        let tail : rounds T ≡ bs ++ x ∷ later = cc in
        let s = ih bs tail in
        record {
          front = y ∷ s.front;
          rest = s.rest;
          whole = ap (λ z. y ∷ z) s.whole;
          seen =
              filter-cons_kept (λ z. goes_round z.fixed) y s.front g
              ∙ (ap (λ z. z ∷ rounds s.front) same ∙ ap (λ z. b ∷ z) s.seen);
          due = s.due;
        }

-- Who owns a resource of the whole complex behind an item that is due is a task of the deck, and owns it still unless
-- its system is removed.
abbrev pub StillBy : List RunItem → List RunItem → Res → TaskId → Type 0
StillBy T later r u =
    (k : Known) → IsLive u T → IsRight u k T → mine u later ≡ one (outstanding u k T) → Still r u T (outstanding u k T)

owner_stays : (deck : Deck) (T before : List RunItem) (x : RunItem) (later : List RunItem) (r : Res) (u : TaskId)
    → IsHistory deck T → (s : SplitsAt T before x later) → is_systems r ≡ true
    → owns (list_of (lists (s.front ++ x ∷ [])) r) u ≡ true →
    (is_some (lines_of deck u) ≡ true) × StillBy T later r u
owner_stays deck T before x later r u g s wide own = (
  (and_parts _ _ (owns-may deck (s.front ++ x ∷ []) r u
      (asks-front deck (s.front ++ x ∷ []) s.rest (subst (AllAsk deck) through g.asks)) own)).0,
  λ k live right due. subst (λ U. Still r u U (outstanding u k U)) (sym through)
      (owners_stay_on u r k (s.front ++ x ∷ []) s.rest made.1
      (live-behind u (s.front ++ x ∷ []) s.rest (subst (IsLive u) through live))
      (keeps-due u r wide k T (s.front ++ x ∷ []) s.rest through right (ap (mine u) s.due ∙ due)) own),
)
  where
    through : T ≡ (s.front ++ x ∷ []) ++ s.rest
    through = s.whole ∙ pushed s.front x s.rest

    made : AllMade s.front (x ∷ s.rest)
    made = made-behind [] s.front (x ∷ s.rest) (subst (AllMade []) s.whole g.made)

-- A request of the message that is processed by the table of what was processed before: its entries are by some lists,
-- the answer is that in the entries, and who becomes an owner of its resource is one still.
pub record ReadBy (deck : Deck) (T before : List RunItem) (x : RunItem) (later : List RunItem) (q : Req) : Type 0 where
  pub at : State
  pub made : x.entries ≡ entries_for at q.task q.want
  pub answer : answer_to (lists before) q.task q.want ≡ answer_to at q.task q.want
  pub owners : (r : Res) → res_wanted q.want ≡ Some r → (u : TaskId)
      → is_among u (new_owners (lists before) q.task q.want) ≡ true →
      (is_some (lines_of deck u) ≡ true) × StillBy T later r u

pub read_by : (deck : Deck) (T before : List RunItem) (x : RunItem) (later : List RunItem) (q : Req) → IsHistory deck T
    → rounds T ≡ before ++ x ∷ later → x.fixed ≡ Asked q → wants_round q.want ≡ true → ReadBy deck T before x later q
read_by deck T before x later q g whole asked round = record {
  at = lists s.front;
  made = made.0 ∙ ap (fixed_entries (lists s.front) x.by) asked;
  answer = ap (λ z. answer_to z q.task q.want) table ∙ answer-systems (lists s.front) q.task q.want round;
  owners = owners;
}
  where
    s : SplitsAt T before x later
    s = splits-at T before x later whole

    made : AllMade s.front (x ∷ s.rest)
    made = made-behind [] s.front (x ∷ s.rest) (subst (AllMade []) s.whole g.made)

    table : lists before ≡ systems_part (lists s.front)
    table = ap lists (sym s.seen) ∙ table-is s.front

    owners : (r : Res) → res_wanted q.want ≡ Some r → (u : TaskId)
        → is_among u (new_owners (lists before) q.task q.want) ≡ true
        → (is_some (lines_of deck u) ≡ true) × StillBy T later r u
    owners r wanted u e =
        let wide : is_systems r ≡ true = sym (wants-round q.want r wanted) ∙ round in
        owner_stays deck T before x later r u g s wide (owner-behind is_systems s.front x q r u asked wanted wide
        (ap (λ z. is_among u (new_owners z q.task q.want)) (sym table) ∙ e))

-- A removal is processed by that table: who owns by what it leaves is one still.
pub owns_left :
    (deck : Deck) (T before : List RunItem) (x : RunItem) (later : List RunItem) (target : SysId) (r : Res) (u : TaskId)
    → IsHistory deck T → rounds T ≡ before ++ x ∷ later → x.fixed ≡ Purged target → is_systems r ≡ true →
    owns (list_of (remove_state (lists before) target.0) r) u ≡ true
    → (is_some (lines_of deck u) ≡ true) × StillBy T later r u
owns_left deck T before x later target r u g whole purged wide own =
    owner_stays deck T before x later r u g s wide (ap (λ es. owns es u) same ∙ own)
  where
    s : SplitsAt T before x later
    s = splits-at T before x later whole

    same : list_of (lists (s.front ++ x ∷ [])) r ≡ list_of (remove_state (lists before) target.0) r
    same =
        ap (λ z. list_of z r) (lists-push s.front x ∙ ap (after_fixed (lists s.front)) purged)
        ∙ sym (list_of-systems (remove_state (lists s.front) target.0) r wide)
        ∙ ap (λ z. list_of z r) (part-remove (lists s.front) target.0
        ∙ ap (λ z. remove_state z target.0) (sym (ap lists (sym s.seen) ∙ table-is s.front)))
