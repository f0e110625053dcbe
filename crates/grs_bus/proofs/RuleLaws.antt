-- Each step keeps the rule.
use Rattle.std.proofs.Common.{◌≡◌, ◌≢◌, ℕ, zero, suc, ◌+◌, ◌*◌, ◌%◌, ◌<◌, eqb, ◌⊎◌, List, [], ◌∷◌, ◌++◌, Bool, true}
use Rattle.std.proofs.Common.{false, length, get_or, set, sym, refl, ap, ◌∙◌, subst, inl, inr, ⊎_elim, arith}
use mathlib.Core.Logic.{dite}
use mathlib.Core.Option.{Option, none, some, some-injective, some-ne-none}
use native.Mathlib.Decide.{ℕ_discrete}
use lib.ListN.{get_elem?}
use prog.Atomic.{either}
use lib.Seq.{set-get_or}
use Rattle.atomic_table.specs.Table.{State, Me, step, Act, keeps, takes, gives, Valid, put_back, rest, carried_after}
use Rattle.atomic_table.specs.Table.{stepped, opening, Allows, Splits, Joins, Final, Seen}
use Rattle.atomic_table.proofs.Lists.{at_set, set_here, set_else, set_again, at_snoc, at_longer, exchanged}
use Rattle.grs_medium.specs.Room.{MediumValue}
use Rattle.grs_base.specs.declared.resource.SysId.{SysId}
use Rattle.grs_wire.specs.declared.medium.JEntry.{JEntry}
use Rattle.grs_bus.specs.declared.view.View.{View}
use Rattle.grs_bus.specs.declared.view.Past.{Past}
use Rattle.grs_bus.specs.declared.slot.Slot.{Slot}
use Rattle.grs_bus.specs.Journal.{after_all, AreRight, entries_of, Begins}
use Rattle.grs_bus.specs.Rule.{changed, founder, spent_view, past_of, cut_left, cut_right, joined, IsSettled, Live}
use Rattle.grs_bus.specs.Rule.{IsPast, Knows, IsHeld, IsKept}
use Rattle.grs_bus.specs.Steps.{taken, given_back, took, gave, MayComeHome}
use Rattle.grs_bus.proofs.JournalLaws.{entries_of-other, Begins-refl, Begins-snoc}

abbrev St : Type 0
St = State Slot View

abbrev M : Type 0
M = Me Slot View

abbrev board : List ℕ → List (Option Slot) → List View → St
board ws hs vs = record { words = ws; homes = hs; views = vs }

abbrev Apart : List View → Type 0
Apart vs = (i j : ℕ) (v w : View) → Live vs i v → Live vs j w → v.system.0 ≡ w.system.0 → i ≡ j

abbrev ApartOlds : List View → Type 0
ApartOlds vs =
    (i j k : ℕ) (v w : View) (o : Past) → Live vs i v → v.system.0 ≡ 0 → Live vs j w → get_elem? v.olds k ≡ some o
    → w.system.0 ≢ o.system.0

-- a seat of the views in which the seat id has gone from v to w is that seat, or was there before
abbrev Was : List View → ℕ → View → ℕ → View → Type 0
Was vs id w j u = ((j ≡ id) × (w ≡ u)) ⊎ ((j ≢ id) × Live vs j u)

was : (vs : List View) (id : ℕ) (w : View) (j : ℕ) (u : View) → Live (set vs id w) j u → Was vs id w j u
was vs id w j u l =
    ⊎_elim (λ (t : (j ≡ id) × (w ≡ u)). inl t) (λ (t : (j ≢ id) × (get_elem? vs j ≡ some u)). inr (t.0, (t.1, l.1)))
    (at_set vs id j w u l.0)

-- a view with the same number, that takes the place of v, had that number before
before : (vs : List View) (id : ℕ) (v w : View) → Live vs id v → v.system.0 ≡ w.system.0 → (j : ℕ) (u : View)
    → Live (set vs id w) j u → (x : View) × Live vs j x × (x.system.0 ≡ u.system.0)
before vs id v w mine same j u l =
    ⊎_elim (λ (t : (j ≡ id) × (w ≡ u)).
    (v, subst (λ (i : ℕ). Live vs i v) (sym t.0) mine, same ∙ ap (λ (x : View). x.system.0) t.1))
    (λ (t : (j ≢ id) × Live vs j u). (u, t.1, refl)) (was vs id w j u l)

apart_after : (vs : List View) (id : ℕ) (v w : View) → Live vs id v → v.system.0 ≡ w.system.0 → Apart vs
    → Apart (set vs id w)
apart_after vs id v w mine same apart i j a b la lb e =
    let x = before vs id v w mine same i a la in let y = before vs id v w mine same j b lb in
    apart i j x.0 y.0 x.1 y.1 (x.2 ∙ (e ∙ sym y.2))

olds_after : (vs : List View) (id : ℕ) (v w : View) → Live vs id v → v.system.0 ≡ w.system.0 → w.olds ≡ v.olds
    → ApartOlds vs → ApartOlds (set vs id w)
olds_after vs id v w mine same olds apart i j k a b o la lead lb at = let y = before vs id v w mine same j b lb in
    ⊎_elim (λ (t : (i ≡ id) × (w ≡ a)). let e : a.olds ≡ v.olds = ap (λ (x : View). x.olds) (sym t.1) ∙ olds in
    let n : v.system.0 ≡ 0 = same ∙ (ap (λ (x : View). x.system.0) t.1 ∙ lead) in
    λ is. apart id j k v y.0 o mine n y.1 (ap (λ l. get_elem? l k) (sym e) ∙ at) (y.2 ∙ is))
    (λ (t : (i ≢ id) × Live vs i a). λ is. apart i j k a y.0 o t.1 lead y.1 at (y.2 ∙ is)) (was vs id w i a la)

inside : {A : Type 0} (l : List A) (i : ℕ) (a : A) → get_elem? l i ≡ some a → i < length l
inside [] i a e = absurd (some-ne-none a (sym e))
inside (x ∷ xs) zero a e = omega arith
inside (x ∷ xs) (suc i) a e = let h : i < length xs = inside xs i a e in omega arith

-- a step of the seat id, which changes what it has seen and done: the journal becomes journal', with no new call of
-- another
abbrev Grows : List JEntry → List JEntry → ℕ → Type 0
Grows journal journal' by =
    ((n : ℕ) → n ≢ by → entries_of n journal' ≡ entries_of n journal)
    × ((xs : List JEntry) → Begins xs journal → Begins xs journal')

rebuild : (first : MediumValue) (s : St) (r : IsKept first s) (id : ℕ) (v : View) → Live s.views id v
    → (ws : List ℕ) (hs : List (Option Slot)) (journal : List JEntry) (holder : ℕ) (own seen : List JEntry) (times : ℕ)
    (holding : Bool)
    → ws ≡ (length journal * 64 + holder) ∷ [] → holder < 64 → AreRight first.state journal
    → Grows r.journal journal v.system.0
    → own ≡ entries_of v.system.0 journal → Begins seen journal
    → (holding ≡ true → (holder ≡ v.system.0 + 1) × (seen ≡ journal))
    → (holder ≡ 0 → (slot : Slot) × (hs ≡ some slot ∷ []) × IsSettled first.state journal slot)
    → (0 < holder → (hs ≡ none ∷ []) × (holding ≡ true))
    → ((j : ℕ) (u : View) → j ≢ id → Live s.views j u → u.holding ≡ true → ⊥)
    → IsKept first (board ws hs (set s.views id (changed v own seen times holding)))
rebuild first s r id v mine ws hs journal holder own seen times holding word small right grows own_is seen_is holding_is
    at_home out others =
    let w : View = changed v own seen times holding in let k = r.knows id v mine in
    record {
      journal = journal;
      holder = holder;
      count = r.count;
      word = word;
      small = small;
      few = r.few;
      right = right;
      new_systems = λ n h. let b = k.below in grows.0 n (λ e. omega arith) ∙ r.new_systems n h;
      at_home = at_home;
      out = λ h. let o = out h in (o.0, (id, w, (set_here s.views id w (inside s.views id v mine.0), mine.1), o.1));
      knows = λ j u l. ⊎_elim (λ (t : (j ≡ id) × (w ≡ u)). subst (Knows first journal holder r.count) t.1 record {
        first_is = k.first_is;
        below = k.below;
        own_is = own_is;
        seen_is = seen_is;
        holding_is = holding_is;
        given_is = k.given_is;
        olds_are = λ z i o at. let p = k.olds_are z i o at in (
          p.0 ∙ sym (grows.0 o.system.0 (λ e. r.apart_olds id id i v v o mine z mine at (sym e))),
          grows.1 o.seen p.1,
          p.2,
        );
      })
          (λ (t : (j ≢ id) × Live s.views j u). let x = r.knows j u t.1 in
          let other : u.system.0 ≢ v.system.0 = λ e. t.0 (r.apart j id u v t.1 mine e) in
          record {
            first_is = x.first_is;
            below = x.below;
            own_is = x.own_is ∙ sym (grows.0 u.system.0 other);
            seen_is = grows.1 u.seen x.seen_is;
            holding_is = λ h. absurd (others j u t.0 t.1 h);
            given_is = x.given_is;
            olds_are = λ z i o at. let p = x.olds_are z i o at in (
              p.0 ∙ sym (grows.0 o.system.0 (λ e. r.apart_olds j id i u v o t.1 z mine at (sym e))),
              grows.1 o.seen p.1,
              p.2,
            );
          }) (was s.views id w j u l);
      apart = apart_after s.views id v w mine refl r.apart;
      apart_olds = olds_after s.views id v w mine refl refl r.apart_olds;
    }

grows_same : (journal journal' : List JEntry) (by : ℕ) → journal' ≡ journal → Grows journal journal' by
grows_same journal journal' by e = ((λ n _. ap (entries_of n) e), (λ xs p. subst (Begins xs) (sym e) p))

grows_snoc : (journal journal' : List JEntry) (by : ℕ) (e : JEntry) → journal' ≡ journal ++ e ∷ [] → e.system.0 ≡ by
    → Grows journal journal' by
grows_snoc journal journal' by e is own = (
  (λ n ne. ap (entries_of n) is ∙ entries_of-other journal e n (λ q. ne (sym q ∙ own))),
  (λ xs p. subst (Begins xs) (sym is) (Begins-snoc xs journal e p)),
)

-- what a step owes, where the word becomes k
abbrev Goes : MediumValue → St → ℕ → M → (M → Type 0) → ℕ → Type 0
Goes first s id m then k =
    (w : View) × (a : Act Slot) × Valid s.homes m.1 a × IsKept first (stepped s 0 k id m.1 w a) ×
    then (w, carried_after m.1 a)

-- a step that changes nothing
same_state : (first : MediumValue) (s : St) (r : IsKept first s) (id : ℕ) (m : M) → get_elem? s.views id ≡ some m.0
    → IsKept first (stepped s 0 (get_or s.words 0 0) id m.1 m.0 keeps)
same_state first s r id m at =
    subst (IsKept first) (sym (λ i. board (set-get_or s.words 0 0 i) s.homes (set_again s.views id m.0 at i))) r

pub locks : (first : MediumValue) (slots id : ℕ) (m : M) (old new : ℕ) → old % 64 ≡ 0 → new ≡ old + m.0.system.0 + 1
    → m.0.system.0 < 63 → m.0.spent ≡ false
    → Allows (IsKept first) slots id m 0 (λ x. either (eqb x old) new x) (took (step slots 0 old new none) m)
locks first slots id m old new even up fits live s r _ at _ =
    let x : ℕ = get_or s.words 0 0 in
    let word : x ≡ length r.journal * 64 + r.holder = ap (λ (ws : List ℕ). get_or ws 0 0) r.word in
    let mine : Live s.views id m.0 = (at, live) in let k = r.knows id m.0 mine in let small = r.small in
    exchanged x old new (Goes first s id m (took (step slots 0 old new none) m x))
    (λ hit. let free : r.holder ≡ 0 = omega arith in
    let size : length r.journal * 64 ≡ old = omega arith in
    let home = r.at_home free in
    let slot : Slot = home.0 in (
      taken m.0 r.journal,
      takes 0 slot,
      ap (λ (hs : List (Option Slot)). get_elem? hs 0) home.1,
      rebuild first s r id m.0 mine (set s.words 0 new) (set s.homes 0 none) r.journal (m.0.system.0 + 1) m.0.own
          r.journal (m.0.takes + 1) true
          (let n : new ≡ length r.journal * 64 + (m.0.system.0 + 1) = omega arith in
          ap (λ (ws : List ℕ). set ws 0 new) r.word ∙ ap (λ (z : ℕ). z ∷ []) n)
          (omega arith) r.right (grows_same r.journal r.journal m.0.system.0 refl) k.own_is (Begins-refl r.journal)
          (λ _. (refl, refl))
          (λ z. absurd (omega arith)) (λ _. (ap (λ (hs : List (Option Slot)). set hs 0 none) home.1, refl))
          (λ j u ne l h. let y = (r.knows j u l).holding_is h in
          let p : r.holder ≡ u.system.0 + 1 = y.0 in
          omega arith),
      (
        (λ _. record {
          slot = slot;
          journal = r.journal;
          me = refl;
          longer = k.seen_is;
          settled = subst (λ (c : MediumValue). IsSettled c.state r.journal slot) (sym k.first_is) home.2;
          right = subst (λ (c : MediumValue). AreRight c.state r.journal) (sym k.first_is) r.right;
          own = k.own_is;
          size = size;
        }),
        λ miss. absurd (miss hit),
      ),
    ))
    (λ miss. (m.0, keeps, tt, same_state first s r id m at, ((λ hit. absurd (miss hit)), λ _. refl)))

pub unlocks : (first : MediumValue) (slots id : ℕ) (m : M) (slot : Slot) (new : ℕ) → m.1 ≡ (0, slot) ∷ []
    → m.0.spent ≡ false → m.0.holding ≡ true → MayComeHome m.0 slot → new ≡ length slot.journal.items * 64
    → Allows (IsKept first) slots id m 0 (λ _. new) (λ _. gave (step slots 0 new 0 none) m new)
unlocks first slots id m slot new carried live holds back is s r _ at _ =
    let mine : Live s.views id m.0 = (at, live) in
    let k = r.knows id m.0 mine in
    let h = k.holding_is holds in
    let holder : r.holder ≡ m.0.system.0 + 1 = h.0 in
    let journal' : List JEntry = slot.journal.items in
    let o = r.out (omega arith) in
    let home : put_back s.homes m.1 ≡ some slot ∷ [] =
    ap (put_back s.homes) carried ∙ ap (λ (hs : List (Option Slot)). set hs 0 (some slot)) o.0 in (
      given_back m.0 journal',
      gives,
      tt,
      rebuild first s r id m.0 mine (set s.words 0 new) (put_back s.homes m.1) journal' 0
          (entries_of m.0.system.0 journal') journal' m.0.takes false
          (let n : new ≡ length journal' * 64 + 0 = omega arith in
          ap (λ (ws : List ℕ). set ws 0 new) r.word ∙ ap (λ (z : ℕ). z ∷ []) n)
          (omega arith) (subst (λ (c : MediumValue). AreRight c.state journal') k.first_is back.right)
          (⊎_elim (λ (e : journal' ≡ m.0.seen). grows_same r.journal journal' m.0.system.0 (e ∙ h.1))
          (λ (t : (e : JEntry) × (journal' ≡ m.0.seen ++ e ∷ []) × (e.system ≡ m.0.system)).
          grows_snoc r.journal journal' m.0.system.0 t.0 (t.1 ∙ ap (λ z. z ++ t.0 ∷ []) h.1)
          (ap (λ (s : SysId). s.0) t.2))
          back.more)
          refl (Begins-refl journal') (λ e. absurd (cc))
          (λ _. (slot, home, (refl, back.medium ∙ ap (λ (c : MediumValue). after_all c.state journal') k.first_is)))
          (λ z. absurd (omega arith))
          (λ j u ne l held. let y = (r.knows j u l).holding_is held in
          let p : r.holder ≡ u.system.0 + 1 = y.0 in
          ne (r.apart j id u m.0 l mine (omega arith))),
      λ slot' carried'.
          let e : slot ≡ slot' = ap (λ (l : List (ℕ × Slot)). (get_or l 0 (0, slot)).1) (sym carried ∙ carried') in
          let none_left : rest m.1 ≡ [] = ap rest carried in
          λ i. (given_back m.0 (e i).journal.items, none_left i),
    )

pub at_snoc_at : {A : Type 0} (l : List A) (a b : A) (j : ℕ) → get_elem? (l ++ a ∷ []) j ≡ some b
    → (get_elem? l j ≡ some b) ⊎ ((a ≡ b) × (j ≡ length l))
at_snoc_at [] a b zero e = inr (some-injective a b e, refl)
at_snoc_at [] a b (suc j) e = absurd (some-ne-none b (sym e))
at_snoc_at (x ∷ xs) a b zero e = inl e
at_snoc_at (x ∷ xs) a b (suc j) e =
    ⊎_elim inl (λ (t : (a ≡ b) × (j ≡ length xs)). inr (t.0, ap suc t.1)) (at_snoc_at xs a b j e)

-- a seat of the longer views was there before, or is the new one
abbrev Came : List View → View → ℕ → View → Type 0
Came vs y j u = Live vs j u ⊎ ((y ≡ u) × (j ≡ length vs))

came : (vs : List View) (y : View) (j : ℕ) (u : View) → Live (vs ++ y ∷ []) j u → Came vs y j u
came vs y j u l =
    ⊎_elim (λ (e : get_elem? vs j ≡ some u). inl (e, l.1)) (λ (t : (y ≡ u) × (j ≡ length vs)). inr t)
    (at_snoc_at vs y u j l.0)

same_seat : (vs : List View) (i j : ℕ) (v u : View) → get_elem? vs i ≡ some v → get_elem? vs j ≡ some u → i ≡ j → v ≡ u
same_seat vs i j v u a b e = some-injective v u (sym a ∙ (ap (get_elem? vs) e ∙ b))

-- who holds is none of a seat that does not
held_else : (vs : List View) (id : ℕ) (v : View) → get_elem? vs id ≡ some v → v.holding ≡ false → (t : IsHeld vs)
    → t.0 ≢ id
held_else vs id v at idle t = λ e. let same : t.1 ≡ v = same_seat vs t.0 id t.1 v t.2.0 at e in
    let h : v.holding ≡ true = ap (λ (x : View). x.holding) (sym same) ∙ t.3 in
    absurd (cc)

pub splits : (first : MediumValue) (id : ℕ) (v : View) → v.spent ≡ false → v.holding ≡ false → v.system.0 ≡ 0
    → v.given < 63 → Splits (IsKept first) id v (cut_left v) (cut_right v)
splits first id v live idle lead fits s r at =
    let mine : Live s.views id v = (at, live) in
    let k = r.knows id v mine in
    let g : v.given ≡ r.count = k.given_is lead in
    let w : View = cut_left v in
    let y : View = cut_right v in
    let vs : List View = set s.views id w in
    let b = k.below in
    let keeps_past : (o : Past) → IsPast r.journal r.count o
    → IsPast r.journal (r.count + 1) o = λ o p. let l = p.2 in (p.0, p.1, omega arith) in
    record {
      journal = r.journal;
      holder = r.holder;
      count = r.count + 1;
      word = r.word;
      small = r.small;
      few = omega arith;
      right = r.right;
      new_systems = λ n h. r.new_systems n (omega arith);
      at_home = r.at_home;
      out = λ h. let o = r.out h in
          let t = o.1 in (
            o.0,
            (
              t.0,
              t.1,
              (
                at_longer vs (y ∷ []) t.0 t.1 (set_else s.views id t.0 w (held_else s.views id v at idle t) ∙ t.2.0),
                t.2.1,
              ),
              t.3,
            ),
          );
      knows = λ j u l. ⊎_elim
          (λ (l : Live vs j u).
          ⊎_elim (λ (t : (j ≡ id) × (w ≡ u)). subst (Knows first r.journal r.holder (r.count + 1)) t.1 record {
            first_is = k.first_is;
            below = omega arith;
            own_is = k.own_is;
            seen_is = k.seen_is;
            holding_is = k.holding_is;
            given_is = λ _. ap (λ n. n + 1) g;
            olds_are = λ z i o e. keeps_past o (k.olds_are z i o e);
          })
          (λ (t : (j ≢ id) × Live s.views j u). let x = r.knows j u t.1 in
          let bx = x.below in
          let other : u.system.0 ≢ 0 = λ z. t.0 (r.apart j id u v t.1 mine (z ∙ sym lead)) in
          record {
            first_is = x.first_is;
            below = omega arith;
            own_is = x.own_is;
            seen_is = x.seen_is;
            holding_is = x.holding_is;
            given_is = λ z. absurd (other z);
            olds_are = λ z. absurd (other z);
          }) (was s.views id w j u l))
          (λ (t : (y ≡ u) × (j ≡ length vs)). subst (Knows first r.journal r.holder (r.count + 1)) t.0 record {
            first_is = k.first_is;
            below = omega arith;
            own_is = sym (r.new_systems v.given (omega arith));
            seen_is = k.seen_is;
            holding_is = λ e. absurd (cc);
            given_is = λ z. absurd (omega arith);
            olds_are = λ z. absurd (omega arith);
          }) (came vs y j u l);
      apart = λ i j a c la lc e.
          let low : (j : ℕ) (u : View) → Live vs j u
          → u.system.0
          < r.count = λ j u l. let x = before s.views id v w mine refl j u l in
          let n : x.0.system.0 ≡ u.system.0 = x.2 in
          let h = (r.knows j x.0 x.1).below in
          omega arith in
          let high : (u : View) → y ≡ u → u.system.0 ≡ r.count = λ u e. ap (λ (x : View). x.system.0) (sym e) ∙ g in
          ⊎_elim
          (λ (la : Live vs i a).
          ⊎_elim (λ (lc : Live vs j c). apart_after s.views id v w mine refl r.apart i j a c la lc e)
          (λ (tc : (y ≡ c) × (j ≡ length vs)). let p = low i a la in let q = high c tc.0 in absurd (omega arith))
          (came vs y j c lc))
          (λ (ta : (y ≡ a) × (i ≡ length vs)).
          ⊎_elim (λ (lc : Live vs j c). let p = low j c lc in let q = high a ta.0 in absurd (omega arith))
          (λ (tc : (y ≡ c) × (j ≡ length vs)). ta.1 ∙ sym tc.1) (came vs y j c lc)) (came vs y i a la);
      apart_olds = λ i j n a c o la z lc e.
          let high : (u : View) → y ≡ u → u.system.0 ≡ r.count = λ u e. ap (λ (x : View). x.system.0) (sym e) ∙ g in
          ⊎_elim
          (λ (la : Live vs i a).
          ⊎_elim (λ (lc : Live vs j c). olds_after s.views id v w mine refl refl r.apart_olds i j n a c o la z lc e)
          (λ (tc : (y ≡ c) × (j ≡ length vs)). let q = high c tc.0 in
          let x = before s.views id v w mine refl i a la in
          let here : a.olds ≡ v.olds =
          ⊎_elim (λ (t : (i ≡ id) × (w ≡ a)). ap (λ (x : View). x.olds) (sym t.1))
          (λ (t : (i ≢ id) × Live s.views i a). absurd (t.0 (r.apart i id a v t.1 mine (z ∙ sym lead))))
          (was s.views id w i a la) in
          let p = (k.olds_are lead n o (ap (λ (l : List Past). get_elem? l n) (sym here) ∙ e)).2 in
          λ is. absurd (omega arith))
          (came vs y j c lc))
          (λ (ta : (y ≡ a) × (i ≡ length vs)). let q = high a ta.0 in absurd (omega arith)) (came vs y i a la);
    }

pub joins : (first : MediumValue) (id : ℕ) (v : View) (other : ℕ) (w : View) → v.spent ≡ false → v.holding ≡ false
    → v.system.0 ≡ 0 → w.spent ≡ false → w.holding ≡ false
    → Joins (IsKept first) id v other w (joined v w) spent_view
joins first id v other w live idle lead live' idle' s r at ne there =
    let b : View = joined v w in
    let vs : List View = set s.views id b in
    let mine : Live s.views id v = (at, live) in
    let k = r.knows id v mine in
    let theirs : Live s.views other w = (sym (set_else s.views id other b ne) ∙ there, live') in
    let x = r.knows other w theirs in
    -- who is left is not the one that was taken in
    let left : (j : ℕ) (u : View) → Live (set vs other spent_view) j u → (j ≢ other) × Live vs j u = λ j u l.
    ⊎_elim (λ (t : (j ≡ other) × (spent_view ≡ u)). let e : true ≡ false = ap (λ (z : View). z.spent) t.1 ∙ l.1 in
    absurd (cc))
    (λ (t : (j ≢ other) × Live vs j u). t) (was vs other spent_view j u l) in
    record {
      journal = r.journal;
      holder = r.holder;
      count = r.count;
      word = r.word;
      small = r.small;
      few = r.few;
      right = r.right;
      new_systems = r.new_systems;
      at_home = r.at_home;
      out = λ h. let o = r.out h in let t = o.1 in (
        o.0,
        (
          t.0,
          t.1,
          (
            set_else vs other t.0 spent_view (held_else s.views other w theirs.0 idle' t)
                ∙ (set_else s.views id t.0 b (held_else s.views id v at idle t) ∙ t.2.0),
            t.2.1,
          ),
          t.3,
        ),
      );
      knows = λ j u l. ⊎_elim (λ (t : (j ≡ id) × (b ≡ u)). subst (Knows first r.journal r.holder r.count) t.1 record {
        first_is = k.first_is;
        below = k.below;
        own_is = k.own_is;
        seen_is = k.seen_is;
        holding_is = k.holding_is;
        given_is = k.given_is;
        olds_are = λ z n o e.
            ⊎_elim (λ (e : get_elem? v.olds n ≡ some o). k.olds_are z n o e)
            (λ (e : past_of w ≡ o). subst (IsPast r.journal r.count) e (x.own_is, x.seen_is, x.below))
            (at_snoc v.olds (past_of w) o n e);
      }) (λ (t : (j ≢ id) × Live s.views j u). r.knows j u t.1) (was s.views id b j u (left j u l).1);
      apart = λ i j a c la lc e. apart_after s.views id v b mine refl r.apart i j a c (left i a la).1 (left j c lc).1 e;
      apart_olds = λ i j n a c o la z lc e. let q = left j c lc in let y = before s.views id v b mine refl j c q.1 in
          ⊎_elim (λ (t : (i ≡ id) × (b ≡ a)).
          ⊎_elim (λ (e : get_elem? v.olds n ≡ some o). λ is. r.apart_olds id j n v y.0 o mine lead y.1 e (y.2 ∙ is))
          (λ (e : past_of w ≡ o).
          λ is. q.0 (r.apart j other y.0 w y.1 theirs (y.2 ∙ (is ∙ ap (λ (z : Past). z.system.0) (sym e)))))
          (at_snoc v.olds (past_of w) o n (ap (λ (z : View). get_elem? z.olds n) t.1 ∙ e)))
          (λ (t : (i ≢ id) × Live s.views i a). absurd (t.0 (r.apart i id a v t.1 mine (z ∙ sym lead))))
          (was s.views id b i a (left i a la).1);
    }

lone : (v : View) (j : ℕ) (u : View) → get_elem? (v ∷ []) j ≡ some u → (j ≡ 0) × (v ≡ u)
lone v zero u e = (refl, some-injective v u e)
lone v (suc j) u e = absurd (some-ne-none u (sym e))

pub starts : (first : MediumValue) (slot : Slot) → slot.journal.items ≡ [] → slot.medium.state ≡ first.state
    → IsKept first (opening (0 ∷ []) (slot ∷ []) (founder first))
starts first slot empty same = record {
  journal = [];
  holder = 0;
  count = 1;
  word = refl;
  small = omega arith;
  few = omega arith;
  right = tt;
  new_systems = λ n _. refl;
  at_home = λ _. (slot, refl, (empty, same));
  out = λ h. absurd (omega arith);
  knows = λ j u l. subst (Knows first [] 0 1) (lone (founder first) j u l.0).1 record {
    first_is = refl;
    below = omega arith;
    own_is = refl;
    seen_is = Begins-refl [];
    holding_is = λ e. absurd (cc);
    given_is = λ _. refl;
    olds_are = λ _ n o e. absurd (some-ne-none o (sym e));
  };
  apart = λ i j v w lv lw _. (lone (founder first) i v lv.0).0 ∙ sym (lone (founder first) j w lw.0).0;
  apart_olds = λ i j n v w o lv _ lw e.
      let h : get_elem? (founder first).olds n ≡ some o =
      ap (λ (z : View). get_elem? z.olds n) (lone (founder first) i v lv.0).1 ∙ e in
      absurd (some-ne-none o (sym h));
}

-- each number that was given out but 0 is of a seat that was taken in
abbrev pub Covers : View → Type 0
Covers v = (n : ℕ) → 0 < n → n < v.given → (k : ℕ) × (o : Past) × (get_elem? v.olds k ≡ some o) × (o.system.0 ≡ n)

-- the table at the end, where the seat of number 0 has taken in all others
pub record Ended (first : MediumValue) (v : View) (xs : List Slot) : Type 0 where
  pub journal : List JEntry
  pub count : ℕ
  pub slot : Slot
  pub home : get_elem? xs 0 ≡ some slot
  pub settled : IsSettled first.state journal slot
  pub right : AreRight first.state journal
  pub own : v.own ≡ entries_of 0 journal
  pub seen : Begins v.seen journal
  pub olds : (k : ℕ) (o : Past) → get_elem? v.olds k ≡ some o → IsPast journal count o

pub ends : (first : MediumValue) (id : ℕ) (v : View) (ws : List ℕ) (xs : List Slot) → v.spent ≡ false
    → v.holding ≡ false → v.system.0 ≡ 0 → Covers v → Final (Seen (IsKept first) id v) ws xs → Ended first v xs
ends first id v ws xs live idle lead covers fin =
    let s : St = fin.0 in
    let r = fin.1.0 in
    let mine : Live s.views id v = (fin.1.1, live) in
    let k = r.knows id v mine in
    let free : r.holder ≡ 0 =
    dite (ℕ_discrete r.holder 0)
    (λ e. e) (λ ne. let t = (r.out (omega arith)).1 in let u : View = t.1 in let l = t.2 in let x = r.knows t.0 u l in
    dite (ℕ_discrete u.system.0 0)
    (λ z. absurd (held_else s.views id v fin.1.1 idle t (r.apart t.0 id u v l mine (z ∙ sym lead))))
    (λ nz. let g : v.given ≡ r.count = k.given_is lead in
    let below = x.below in
    let c = covers u.system.0 (omega arith) (omega arith) in
    absurd (r.apart_olds id t.0 c.0 v u c.1 mine lead l c.2 (sym c.3)))) in
    let home = r.at_home free in
    record {
      journal = r.journal;
      count = r.count;
      slot = home.0;
      home = fin.4 0 home.0 (ap (λ (hs : List (Option Slot)). get_elem? hs 0) home.1);
      settled = home.2;
      right = r.right;
      own = k.own_is ∙ ap (λ n. entries_of n r.journal) lead;
      seen = k.seen_is;
      olds = k.olds_are lead;
    }
