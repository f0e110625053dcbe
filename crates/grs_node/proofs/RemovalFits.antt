-- A system's part in star mode goes on to fit the deck where another system is removed: what it loses, which entries
-- it gathers and takes up, and to whom it owes its parts.
use Rattle.std.proofs.Common.{◌≡◌, ◌<◌, ◌≤◌, ℕ, zero, suc, Bool, true, false, cond, List, [], ◌∷◌, ◌++◌}
use Rattle.std.proofs.Common.{length, map, filter, replicate, Option, Some, None, refl, ap, sym, ◌∙◌, subst}
use Rattle.std.proofs.Common.{◌+◌, arith}
use Rattle.std.specs.Prelude.{not, ◌&&◌, ◌==◌, nat_lt, nat_le, slice_set}
use Rattle.std.specs.List.{list_all, list_any, flat_map}
use Rattle.std.specs.Option.{option_map, option_map_or}
use Rattle.std.proofs.lemmas.Bool.{and_parts, eqb-true}
use Rattle.std.proofs.lemmas.Bool.Decides.{nat_tests}
use Rattle.std.proofs.lemmas.List.{length-set, length-replicate}
use Rattle.contention_mgr.proofs.ElementLemmas.{elements-set, losing_keeps_elements, installed_are_records}
use Rattle.contention_mgr.specs.Elements.{all_of as all_elements}
use Rattle.contention_mgr.specs.Installs.{installed, IsInstallable, places_apart, one_place, ranks_on}
use Rattle.contention_mgr.specs.Loses.{lost}
use Rattle.contention_mgr.specs.Manager.{Managed}
use Rattle.grs_base.specs.Limits.{last_number}
use Rattle.grs_base.specs.declared.resource.SysId.{SysId}
use Rattle.grs_base.specs.declared.resource.TaskId.{TaskId}
use Rattle.grs_node.proofs.RemovalStays.{system-taken-below}
use Rattle.grs_node.specs.Addressed.{is_within, parts_within, is_owed_within, GatheringFits, PartFits}
use Rattle.grs_node.specs.Node.{is_item_of}
use Rattle.grs_node.specs.Removal.{Standing, standing, take_up, take_up_below, lose, lose_each}
use Rattle.grs_node.specs.Removal.{sent_again, awaited, with_role, is_news}
use Rattle.grs_node.specs.Removal.{move_entry, move_each}
use Rattle.grs_node.specs.Star.{StarPart, manages, gathers}
use Rattle.grs_wire.specs.Masks.{has, without}
use Rattle.grs_wire.specs.declared.deck.Deck.{Deck}
use Rattle.grs_wire.specs.declared.gather.Moved.{Moved}
use Rattle.grs_wire.specs.declared.gather.PartRec.{PartRec}
use Rattle.lock_structure.specs.Entries.{entry_of_res, is_entry}
use Rattle.star_client.specs.Owes.{OwesView, owing}
use Rattle.system_purge.proofs.Counting.{gathered_in_order, counting_are_clear, clear-moved}
use Rattle.system_purge.proofs.GatheredParts.{all-gathered, all-weaker, all-joined, all-filter, all-more, all-left}
use Rattle.system_purge.proofs.GatheredParts.{own-counts, gathered-of-entry, gathered-small}
use Rattle.system_purge.specs.Gather.{is_of_part, part_of, all_of, counting, gathered, clash, are_clear}
use Rattle.system_purge.specs.Gathers.{GathersView, gathering_at, with_part, with_part_at, without_sender, is_complete}
use Rattle.system_purge.specs.Gathers.{parts_in, keeps_right}
use Rattle.system_purge.specs.declared.gathers.Gathering.{Gathering}
use Rattle.system_purge.specs.declared.gathers.SentPart.{SentPart}
use Rattle.task_state.specs.View.{TasksView}
use Rattle.grs_node.proofs.Orderly.{both, neither, length-mapped, all-set, all-at, all-mapped, all-nothing}
use Rattle.grs_node.proofs.Orderly.{taken-up-orderly, lost-orderly, role-orderly, part-orderly}

-- ---- what is gathered fits
module _ (deck : Deck) where
  pub none-gathering : GatheringFits deck (replicate deck.entries None) (replicate deck.entries None)
  none-gathering = record {
    count = length-replicate deck.entries None;
    parts = all-nothing (parts_within deck) deck.entries refl;
    owed = all-nothing (is_owed_within deck) deck.entries refl;
  }

  pub gathering-owing : (gs : GathersView) (os : OwesView) (e : ℕ) (to : Option SysId) → GatheringFits deck gs os
      → is_owed_within deck to ≡ true → GatheringFits deck gs (owing os e to)
  gathering-owing gs os e to h new =
      record { count = h.count; parts = h.parts; owed = all-set (is_owed_within deck) os e to h.owed new }

  pub gathering-set : (gs : GathersView) (os : OwesView) (e : ℕ) (o : Option Gathering) → GatheringFits deck gs os
      → parts_within deck o ≡ true → GatheringFits deck (slice_set gs e o) os
  gathering-set gs os e o h new = record {
    count = length-set gs e o ∙ h.count;
    parts = all-set (parts_within deck) gs e o h.parts new;
    owed = h.owed;
  }

module _ (deck : Deck) (home : ℕ) where
  -- ---- a system that is lost
  lost-within : (s : SysId) (o : Option Gathering) → parts_within deck o ≡ true
      → parts_within deck (option_map (without_sender s) o) ≡ true
  lost-within s None h = refl
  lost-within s (Some g) h =
      all-left (λ x. list_all (λ r. is_within deck r.task) x.records) (λ x. not (x.from.0 == s.0)) g.parts h

  lose-fits : (x : Standing) (s : SysId) → PartFits deck home x.part → PartFits deck home (lose x s).part
  lose-fits x s h = record {
    system = h.system;
    some = h.some;
    entries = length-mapped (option_map (lost x.part.manager.system.0 s.0)) x.part.manager.entries ∙ h.entries;
    interest = h.interest;
    elements = losing_keeps_elements (is_within deck) x.part.manager s h.elements;
    held = all-left (λ q. is_within deck q.task) (λ q. not (s.0 == q.task.system.0)) x.part.held h.held;
    gathering = record {
      count = length-mapped (option_map (without_sender s)) x.part.gathers ∙ h.gathering.count;
      parts =
          all-mapped (parts_within deck) (option_map (without_sender s)) x.part.gathers (lost-within s)
          h.gathering.parts;
      owed = h.gathering.owed;
    };
    orderly = lost-orderly x s h.orderly;
  }

  pub lose-each-fits : (x : Standing) (ss : List SysId) → PartFits deck home x.part
      → PartFits deck home (lose_each x ss).part
  unfolding lose_each
  lose-each-fits x [] h = h
  lose-each-fits x (s ∷ ss) h = lose-each-fits (lose x s) ss (lose-fits x s h)

  -- ---- an entry that is taken up
  own-within : (n e : ℕ) (r : PartRec) → home < length deck.systems → is_of_part n e (record { 0 = home }) r ≡ true
      → is_within deck r.task ≡ true
  own-within n e r below h =
      let same : r.task.system.0 ≡ home =
      eqb-true r.task.system.0 home
      (and_parts (is_entry e (entry_of_res n r.res)) (r.task.system.0 == home)
      (and_parts (is_entry e (entry_of_res n r.res) && (r.task.system.0 == home)) (nat_le r.rank last_number) h).0).1 in
      grind (arith, nat_tests, below, same)

  parts-joined : (ps : List SentPart) → list_all (λ x. list_all (λ r. is_within deck r.task) x.records) ps ≡ true
      → list_all (λ r. is_within deck r.task) (flat_map (λ part. part) (map (λ x. x.records) ps)) ≡ true
  parts-joined [] h = refl
  parts-joined (x ∷ xs) h =
      let parts = and_parts (list_all (λ r. is_within deck r.task) x.records) _ h in
      all-joined (λ r. is_within deck r.task) x.records (flat_map (λ part. part) (map (λ y. y.records) xs)) parts.0
      (parts-joined xs parts.1)

  parts-in-within : (o : Option Gathering) → parts_within deck o ≡ true
      → list_all (λ r. is_within deck r.task) (flat_map (λ part. part) (parts_in o)) ≡ true
  parts-in-within None h = refl
  parts-in-within (Some g) h = parts-joined g.parts h

  take-up-fits : (names : List TaskId) (x : Standing) (e : ℕ) → e < length x.part.manager.entries
      → x.tasks.system ≡ home → home < length deck.systems → PartFits deck home x.part
      → PartFits deck home (take_up names x e).part
  take-up-fits names x e inside own below h = record {
    system = h.system;
    some = h.some;
    entries = length-set x.part.manager.entries e (Some new) ∙ h.entries;
    interest = h.interest;
    elements =
        elements-set (is_within deck) x.part.manager.entries e (Some new) h.elements
        (installed_are_records (is_within deck) x.part.manager.system.0 recs within);
    held = h.held;
    gathering = gathering-set deck x.part.gathers x.part.owes e None h.gathering refl;
    orderly = taken-up-orderly names x e inside h.orderly;
  }
    where
      mine : List PartRec
      mine = part_of (length x.part.manager.entries) e names x.tasks

      recs : List PartRec
      recs = gathered mine (parts_in (gathering_at x.part.gathers e))

      new : Managed
      new = installed x.part.manager.system.0 recs

      counts : list_all (is_of_part (length x.part.manager.entries) e (record { 0 = home })) mine ≡ true
      counts =
          subst (λ (s : ℕ). list_all (is_of_part (length x.part.manager.entries) e (record { 0 = s })) mine ≡ true) own
          (own-counts (length x.part.manager.entries) e names x.tasks)

      within : list_all (λ r. is_within deck r.task) recs ≡ true
      within =
          all-gathered (λ r. is_within deck r.task) mine (parts_in (gathering_at x.part.gathers e))
          (all-weaker (is_of_part (length x.part.manager.entries) e (record { 0 = home })) (λ r. is_within deck r.task)
          mine (λ r k. own-within (length x.part.manager.entries) e r below k) counts)
          (parts-in-within (gathering_at x.part.gathers e)
          (all-at (parts_within deck) x.part.gathers e h.gathering.parts refl))

  pub take-up-below-fits : (names : List TaskId) (x : Standing) (n : ℕ) → n ≤ length x.part.manager.entries
      → x.tasks.system ≡ home → home < length deck.systems → PartFits deck home x.part
      → PartFits deck home (take_up_below names x n).part
  unfolding take_up_below
  take-up-below-fits names x zero few own below h = h
  take-up-below-fits names x (suc e) few own below h =
      go (is_complete (take_up_below names x e).part.gathers e)
      (take-up-below-fits names x e (omega (arith, few)) own below h)
    where
      y : Standing
      y = take_up_below names x e

      go : (b : Bool) → PartFits deck home y.part → PartFits deck home (cond b (take_up names y e) y).part
      go true k =
          take-up-fits names y e (omega (arith, few, k.entries, h.entries)) (system-taken-below names x e ∙ own) below k
      go false k = k

  -- ---- an entry that has another manager
  role-fits : (known : ℕ) (p : StarPart) (m : Moved) → PartFits deck home p → is_item_of deck m ≡ true
      → manages p m.entry ≡ false → PartFits deck home (with_role known p m)
  role-fits known p m h item free = record {
    system = go-system (m.manager.0 == p.manager.system.0);
    some = h.some;
    entries = go-entries (m.manager.0 == p.manager.system.0);
    interest = go-interest (m.manager.0 == p.manager.system.0);
    elements = go-elements (m.manager.0 == p.manager.system.0);
    held = go-held (m.manager.0 == p.manager.system.0);
    gathering = go-gathering (m.manager.0 == p.manager.system.0);
    orderly = role-orderly known p m free h.orderly;
  }
    where
      new : Option Gathering
      new = Some (record { awaits = awaited known p.manager.system.0 m.mask; parts = [] })

      role : Bool → StarPart
      role b =
          cond b (record p { gathers = slice_set p.gathers m.entry new; owes = owing p.owes m.entry None })
          (record p { owes = owing p.owes m.entry (Some m.manager) })

      to : is_owed_within deck (Some m.manager) ≡ true
      to =
          (and_parts (nat_lt m.manager.0 (length deck.systems)) _
          (and_parts (nat_lt m.entry deck.entries) _ item).1).0

      go-system : (b : Bool) → (role b).manager.system.0 ≡ home
      go-system true = h.system
      go-system false = h.system

      go-entries : (b : Bool) → length (role b).manager.entries ≡ deck.entries
      go-entries true = h.entries
      go-entries false = h.entries

      go-interest : (b : Bool) → length (role b).interest ≡ deck.entries
      go-interest true = h.interest
      go-interest false = h.interest

      go-elements : (b : Bool) → all_elements (is_within deck) (role b).manager.entries ≡ true
      go-elements true = h.elements
      go-elements false = h.elements

      go-held : (b : Bool) → list_all (λ q. is_within deck q.task) (role b).held ≡ true
      go-held true = h.held
      go-held false = h.held

      go-gathering : (b : Bool) → GatheringFits deck (role b).gathers (role b).owes
      go-gathering true =
          gathering-owing deck (slice_set p.gathers m.entry new) p.owes m.entry None
          (gathering-set deck p.gathers p.owes m.entry new h.gathering refl) refl
      go-gathering false = gathering-owing deck p.gathers p.owes m.entry (Some m.manager) h.gathering to

  pub move-each-fits : (known : ℕ) (x : Standing) (ms : List Moved) → list_all (is_item_of deck) ms ≡ true
      → PartFits deck home x.part → PartFits deck home (move_each known x ms).part
  unfolding move_each
  move-each-fits known x [] items h = h
  move-each-fits known x (m ∷ ms) items h =
      move-each-fits known (move_entry known x m) ms parts.1 (go (is_news x.part m.entry) refl)
    where
      parts : (is_item_of deck m ≡ true) × (list_all (is_item_of deck) ms ≡ true)
      parts = and_parts (is_item_of deck m) (list_all (is_item_of deck) ms) items

      moved : Standing
      moved = standing (sent_again x.part m.entry x.tasks) (with_role known x.part m)

      go : (b : Bool) → is_news x.part m.entry ≡ b → PartFits deck home (move_entry known x m).part
      go true is =
          subst (λ (b : Bool). PartFits deck home (cond b moved x).part)
          (sym is)
          (role-fits known x.part m h parts.0 (neither (manages x.part m.entry) (gathers x.part m.entry) is))
      go false is =
          subst (λ (b : Bool). PartFits deck home (cond b moved x).part)
          (sym is) h

  -- ---- a part that came
  pub part-fits-after : (p : StarPart) (e : ℕ) (s : SysId) (recs : List PartRec) → s.0 < length deck.systems
      → PartFits deck home p → PartFits deck home (record p { gathers = with_part_at p.gathers e s recs })
  part-fits-after p e s recs below h = record {
    system = h.system;
    some = h.some;
    entries = h.entries;
    interest = h.interest;
    elements = h.elements;
    held = h.held;
    gathering = go (gathering_at p.gathers e) refl;
    orderly = part-orderly p e s recs h.orderly;
  }
    where
      new : SentPart
      new = record { from = s; records = filter (is_of_part (length p.gathers) e s) recs }

      sender-within : (r : PartRec) → is_of_part (length p.gathers) e s r ≡ true → is_within deck r.task ≡ true
      sender-within r k =
          let same : r.task.system.0 ≡ s.0 =
          eqb-true r.task.system.0 s.0
          (and_parts (is_entry e (entry_of_res (length p.gathers) r.res)) (r.task.system.0 == s.0)
          (and_parts (is_entry e (entry_of_res (length p.gathers) r.res) && (r.task.system.0 == s.0))
          (nat_le r.rank last_number) k).0).1 in
          grind (arith, nat_tests, below, same)

      with-new : (g : Gathering) → parts_within deck (Some g) ≡ true
          → parts_within deck (Some (with_part (length p.gathers) e s recs g)) ≡ true
      with-new g k = one (has g.awaits s.0)
        where
          one : (b : Bool)
              → parts_within deck
              (Some (cond b (record { awaits = without g.awaits s.0; parts = g.parts ++ new ∷ [] }) g))
              ≡ true
          one true =
              all-more (λ x. list_all (λ r. is_within deck r.task) x.records) g.parts new k
              (all-weaker (is_of_part (length p.gathers) e s) (λ r. is_within deck r.task) new.records sender-within
              (all-filter (is_of_part (length p.gathers) e s) recs))
          one false = k

      go : (o : Option Gathering) → gathering_at p.gathers e ≡ o
          → GatheringFits deck
          (option_map_or (λ g. slice_set p.gathers e (Some (with_part (length p.gathers) e s recs g))) o p.gathers)
          p.owes
      go None is = h.gathering
      go (Some g) is =
          gathering-set deck p.gathers p.owes e (Some (with_part (length p.gathers) e s recs g)) h.gathering
          (with-new g
          (subst (λ (x : Option Gathering). parts_within deck x ≡ true) is
          (all-at (parts_within deck) p.gathers e h.gathering.parts refl)))

-- ---- what a manager may take for an entry that it gathered
clear-apart : (recs : List PartRec) → are_clear recs ≡ true → places_apart recs ≡ true
clear-apart [] h = refl
clear-apart (y ∷ ys) h =
    both _ _ (none-of (list_any (one_place y) ys) (places y ys (none (list_any (clash y) ys) parts.0)))
    (clear-apart ys parts.1)
  where
    parts : (not (list_any (clash y) ys) ≡ true) × (are_clear ys ≡ true)
    parts = and_parts (not (list_any (clash y) ys)) (are_clear ys) h

    none : (b : Bool) → not b ≡ true → b ≡ false
    none true k = absurd cc
    none false k = refl

    none-of : (b : Bool) → b ≡ false → not b ≡ true
    none-of b k = rw k refl

    places : (a : PartRec) (bs : List PartRec) → list_any (clash a) bs ≡ false → list_any (one_place a) bs ≡ false
    places a [] k = refl
    places a (b ∷ bs) k = grind (arith, k, places a bs)

small-ranks : (ys : List PartRec) → list_all (λ y. nat_le y.rank last_number) ys ≡ true
    → list_all (λ k. nat_le k last_number) (ranks_on ys) ≡ true
small-ranks [] h = refl
small-ranks (y ∷ ys) h =
    let parts = and_parts (nat_le y.rank last_number) (list_all (λ x. nat_le x.rank last_number) ys) h in
    both _ _ parts.0 (small-ranks ys parts.1)

pub gathered-installs : (n e : ℕ) (names : List TaskId) (v : TasksView) (o : Option Gathering)
    → keeps_right n e o ≡ true → IsInstallable n e (gathered (part_of n e names v) (parts_in o))
gathered-installs n e names v o right =
    let own = part_of n e names v in
    let order = gathered_in_order own (parts_in o) in
    record {
      of_entry = gathered-of-entry n e names v o right;
      apart =
          clear-apart (gathered own (parts_in o))
          (clear-moved (counting (all_of own (parts_in o))) (gathered own (parts_in o)) order.same
          (counting_are_clear (all_of own (parts_in o))));
      rising = order.rising;
      small = small-ranks (gathered own (parts_in o)) (gathered-small n e names v o right);
    }

-- what was gathered of own records and parts, where there are as many entries to gather as to manage
pub may-install : (k i n e : ℕ) (names : List TaskId) (v : TasksView) (o : Option Gathering) (own : List PartRec)
    (parts : List (List PartRec)) (recs : List PartRec)
    → k ≡ n → i ≡ n → keeps_right k e o ≡ true → own ≡ part_of i e names v → parts ≡ parts_in o
    → recs ≡ gathered own parts → IsInstallable n e recs
may-install k i n e names v o own parts recs many few right mine theirs is =
    subst (IsInstallable n e)
    (sym
    (is
    ∙ (ap (λ (x : List PartRec). gathered x parts) (mine ∙ ap (λ (j : ℕ). part_of j e names v) few)
    ∙ ap (gathered (part_of n e names v)) theirs)))
    (gathered-installs n e names v o (subst (λ (j : ℕ). keeps_right j e o ≡ true) many right))
