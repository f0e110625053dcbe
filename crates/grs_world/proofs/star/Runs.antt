-- What holds of words, roles and lists at the start of star mode; and the lists that are kept in it.
use Rattle.grs_world.proofs.Common.{[], ◌%◌, ◌<◌, ◌||◌, ◌∙◌, ◌∷◌, ◌≡◌, ◌≤◌, Alike, and_parts, ap, arith, Bool, cond}
use Rattle.grs_world.proofs.Common.{counted, Deck, entry_of, entry_of_res, false, first_node, first_part, first_world}
use Rattle.grs_world.proofs.Common.{gathers, has, has-zero, inbox, is_interested, is_manager, is_some, is_systems}
use Rattle.grs_world.proofs.Common.{items_of, kept, kept_at, kept_for, length, length-replicate, List, list_of, lives}
use Rattle.grs_world.proofs.Common.{ltb-true, manager, manager_at, manages, nat_lt, no_truth, NodeState, None, not}
use Rattle.grs_world.proofs.Common.{not-true, noticed, Option, option_map_or, plain, refl, replicate, Res, slice_get}
use Rattle.grs_world.proofs.Common.{slice_get-past, slice_index_or, slice_of, Some, State, subst, suc, sym, SysId}
use Rattle.grs_world.proofs.Common.{System, true, without_gone, word_at, World, zero, ℕ}
use Rattle.grs_known.proofs.lists.Alike.{alike-itself}
use Rattle.grs_world.specs.Kept.{kept_in, at_manager, at_node, has_to_gather, managed_list, named_by, shown_list}
use Rattle.grs_base.specs.declared.resource.Res.TheVariants.{Step, Systems}
use Rattle.contention_mgr.proofs.ManagerLaws.{well_kept_begins}
use Rattle.lock_structure.proofs.LawProofs.{words_begin}
use Rattle.grs_world.proofs.star.Calm.{calm-first, not-gathered}
use Rattle.grs_world.proofs.run.First.{first_is, count_first}
use Rattle.grs_world.proofs.star.Members.{IsPart, IsMember, IsStar, has_manager, manager-here, all_lists}
use Rattle.grs_world.proofs.star.Under.{in_entry, under, entry-same, list-under}
use Rattle.grs_world.proofs.run.Site.{Site, at_site}

-- ---- one event
-- an event that is only counted
pub counted-star : (deck : Deck) (w : World) → IsStar deck w → IsStar deck (counted w)
counted-star deck w g = record {
  mode = g.mode;
  words = g.words;
  inboxes = g.inboxes;
  systems = g.systems;
  managed = g.managed;
  nobody = g.nobody;
  free = g.free;
  node = g.node;
}

-- ---- the first world
-- a word of the start
first_word : (k e : ℕ) → word_at (replicate k 0) e ≡ 0
first_word zero e = refl
first_word (suc k) zero = refl
first_word (suc k) (suc e) = first_word k e

no_interest : (k e s : ℕ) → is_interested (replicate k 0) e s ≡ false
no_interest k e s = ap (λ w. has (w % 256) s) (first_word k e) ∙ has-zero s

no_manager : (k e : ℕ) → manager_at (replicate k 0) e ≡ None
unfolding manager
no_manager k e = ap manager (first_word k e)

no_managed : (k e : ℕ) → kept_at (replicate k None) e ≡ None
no_managed zero e = refl
no_managed (suc k) zero = refl
no_managed (suc k) (suc e) = no_managed k e

none_interested : (k e : ℕ) → slice_index_or (replicate k false) e false ≡ false
none_interested zero e = refl
none_interested (suc k) zero = refl
none_interested (suc k) (suc e) = none_interested k e

first_fits : (deck : Deck) (s : ℕ)
    → IsPart deck (replicate deck.entries 0) [] s (first_part (record { 0 = s }) deck.entries)
first_fits deck s = record {
  home = refl;
  entries = length-replicate deck.entries None;
  interests = length-replicate deck.entries false;
  roles = λ e.
      ap is_some (no_managed deck.entries e)
      ∙ sym (ap (λ o. is_manager o (record { 0 = s })) (no_manager deck.entries e));
  interest = λ e. none_interested deck.entries e ∙ sym (no_interest deck.entries e s);
  lists = λ e h. subst (λ o. Alike (plain (items_of o)) []) (sym (no_managed deck.entries e)) (alike-itself []);
  well = well_kept_begins (record { 0 = s }) deck.entries;
  calm = calm-first deck.entries;
}

first_member : (deck : Deck) (s : ℕ) → deck.star ≡ true
    → IsMember deck (replicate deck.entries 0) [] s (first_node deck s)
unfolding first_node
first_member deck s star = record {
  part = first_part (record { 0 = s }) deck.entries;
  star = ap (λ b. cond b (Some (first_part (record { 0 = s }) deck.entries)) None) star;
  outbox = refl;
  fits = first_fits deck s;
}

pub first_star : (deck : Deck) → deck.star ≡ true → IsStar deck (first_world deck)
unfolding first_world
first_star deck star = record {
  mode = star;
  words = length-replicate deck.entries 0;
  inboxes = length-replicate (length deck.systems) [];
  systems = count_first deck 0 deck.systems;
  managed = words_begin deck.entries;
  nobody = λ e s past.
      (no_interest deck.entries e s, ap (λ o. is_manager o (record { 0 = s })) (no_manager deck.entries e));
  free = λ e none. refl;
  node = λ s n v.
      subst (λ (k : NodeState). IsMember deck (replicate deck.entries 0) [] s k) (sym (first_is deck s n v.at))
      (first_member deck s star);
}

-- ---- words
-- there are no others
pub word_past : (words : List ℕ) (e : ℕ) → length words ≤ e → word_at words e ≡ 0
word_past [] e past = refl
word_past (w ∷ ws) zero past = absurd (omega (arith, past))
word_past (w ∷ ws) (suc e) past = word_past ws e (omega (arith, past))

-- ---- what is kept are the lists after all that was fixed
-- a system that no notice names an entry to has nothing to gather of it
pub none-to-gather :
    (deck : Deck) (w : World) (L : State) (m : SysId) (n : NodeState) (x : ℕ)
    → IsMember deck w.medium.words L m.0 n → noticed x (inbox w.medium m.0) ≡ false →
    has_to_gather w m n (Some x) ≡ false
none-to-gather deck w L m n x k quiet =
    ap (λ b. b || option_map_or (λ p. gathers p x) n.star false) quiet
    ∙ (ap (λ o. option_map_or (λ p. gathers p x) o false) k.star ∙ not-gathered k.part k.fits.calm x)

-- so its own list is kept
pub own-kept : (deck : Deck) (w : World) (m : SysId) (n : NodeState) (r : Res)
    → has_to_gather w m n (entry_of_res (length w.medium.words) r) ≡ false
    → at_node deck w m (Some n) r ≡ managed_list deck w m n n.star r
own-kept deck w m n r none = ap (λ b. cond b (shown_list deck w r) (managed_list deck w m n n.star r)) none

-- Where no notice is in an inbox, and no element is of a removed system, the managers keep the lists.
pub kept_lists : (deck : Deck) (w : World) → IsStar deck w
    → ((m : ℕ) (n : NodeState) (e : ℕ) → Site w m n → noticed e (inbox w.medium m) ≡ false) → (s : SysId) (r : Res)
    → is_systems r ≡ true
    → without_gone w.medium.removed (list_of (all_lists w) r) ≡ list_of (all_lists w) r
    → kept deck w s r ≡ list_of (all_lists w) r
kept_lists deck w g quiet s (Step n j q r) all stay = absurd (cc)
kept_lists deck w g quiet s (System n q r) all stay = absurd (cc)
kept_lists deck w g quiet s (Systems q r) all stay =
    ap (λ b. kept_in b deck w s res) g.mode
    ∙ (ap (without_gone w.medium.removed) (by_word (manager_at w.medium.words x) refl) ∙ stay)
  where
    res : Res
    res = Systems q r

    x : ℕ
    x = entry_of (slice_of q r) (length w.medium.words)

    here : in_entry deck.entries x (Systems q r) ≡ true
    here = entry-same x (entry_of_res deck.entries res) (ap (λ k. Some (entry_of (slice_of q r) k)) (sym g.words))

    listed : list_of (under deck.entries x (all_lists w)) (Systems q r) ≡ list_of (all_lists w) (Systems q r)
    listed = list-under deck.entries x (all_lists w) res here

    -- who manages is there and live
    lives_here : (m : SysId) → manager_at w.medium.words x ≡ Some m → lives (length w.nodes) w.medium.removed m.0 ≡ true
    lives_here m is = go (lives (length w.nodes) w.medium.removed m.0) refl
      where
        go : (b : Bool) → lives (length w.nodes) w.medium.removed m.0 ≡ b → b ≡ true
        go true e = refl
        go false e =
            no_truth (has_manager w.medium.words x m.0) (manager-here w.medium.words x m is) (g.nobody x m.0 e).1

    at_member : (m : SysId) (n : NodeState) → slice_get w.nodes m.0 ≡ Some n → manager_at w.medium.words x ≡ Some m
        → at_node deck w m (Some n) (Systems q r) ≡ list_of (all_lists w) (Systems q r)
    at_member m n at is =
        let there : Site w m.0 n =
        at_site at
        (not-true _ (and_parts (nat_lt m.0 (length w.nodes)) (not (has w.medium.removed m.0)) (lives_here m is)).1) in
        let k = g.node m.0 n there in
        let mine : manages k.part x ≡ true = k.fits.roles x ∙ manager-here w.medium.words x m is in
        let entry : entry_of_res (length k.part.manager.entries) res ≡ Some x =
        ap (λ i. Some (entry_of (slice_of q r) i)) (k.fits.entries ∙ sym g.words) in
        own-kept deck w m n res (none-to-gather deck w (all_lists w) m n x k (quiet m.0 n x there))
        ∙ ap (λ o. managed_list deck w m n o res) k.star
        ∙ ap (λ o. list_of (plain (items_of (kept_for k.part.manager.entries o))) res) entry
        ∙ (k.fits.lists x mine).lists res
        ∙ listed

    by_system : (m : SysId) (o : Option NodeState) → slice_get w.nodes m.0 ≡ o → manager_at w.medium.words x ≡ Some m
        → at_node deck w m o (Systems q r) ≡ list_of (all_lists w) (Systems q r)
    by_system m None at is =
        absurd (let past = slice_get-past w.nodes m.0 at in
        let here : m.0 < length w.nodes =
        ltb-true m.0 (length w.nodes)
        (and_parts (nat_lt m.0 (length w.nodes)) (not (has w.medium.removed m.0)) (lives_here m is)).0 in
        omega (arith, past, here))
    by_system m (Some n) at is = at_member m n at is

    by_word : (o : Option SysId) → manager_at w.medium.words x ≡ o
        → at_manager deck w (named_by w.medium.words (Some x)) (Systems q r) ≡ list_of (all_lists w) (Systems q r)
    by_word None is = ap (λ o. at_manager deck w o res) is ∙ (sym (ap (λ z. list_of z res) (g.free x is)) ∙ listed)
    by_word (Some m) is = ap (λ o. at_manager deck w o res) is ∙ by_system m (slice_get w.nodes m.0) refl is
