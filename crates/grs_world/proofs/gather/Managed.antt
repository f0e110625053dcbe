-- In star mode each lock word names a manager exactly where its set isn't empty, who is in it, whichever systems are
-- removed: the words change by requests, by entries that are left, and by removals, each of which keeps that.
use Rattle.grs_world.proofs.Common.{[], ◌++◌, ◌<◌, ◌∷◌, ◌≡◌, All, arith, Bool, Choice, Deck, Event, false, first_world}
use Rattle.grs_world.proofs.Common.{FitsStar, happens, IsManaged, left_word, left_words, List, may_be_star}
use Rattle.grs_world.proofs.Common.{most_systems, no_truth, NodeState, None, Option, refl, run, slice_get}
use Rattle.grs_world.proofs.Common.{slice_get-past, slice_get_within, Some, StarPart, submitted, submitted_words, subst}
use Rattle.grs_world.proofs.Common.{sym, SysId, true, Turnout, word_at, World, ℕ}
use Rattle.std.proofs.lemmas.List.Elements.{All-set}
use Rattle.lock_structure.proofs.LawProofs.{empty_is_managed, leave_keeps_managed, submit_keeps_managed}
use Rattle.lock_structure.proofs.Purges.{purge_keeps_all_managed}
use Rattle.grs_world.proofs.move.Sound.{GoodRun, every_run, in_ring, in_star}
use Rattle.grs_world.proofs.run.Came.{Acts, Came, Result, acted, already, began, changed, decided, informed, last_turn}
use Rattle.grs_world.proofs.run.Came.{left, no_such, parted, removes_one, removes_star, sent, settled, took, turn}
use Rattle.grs_world.proofs.run.Came.{went_on}
use Rattle.grs_world.proofs.run.Chosen.{each_came}
use Rattle.grs_world.proofs.run.Each.{each_run, run-push}
use Rattle.grs_world.proofs.run.GoesOn.{as_many}
use Rattle.grs_world.proofs.run.Spared.{none_behind_ring}
use Rattle.grs_world.proofs.star.Runs.{word_past}
use Rattle.grs_world.proofs.run.Placed.{of_medium}
use Rattle.grs_world.proofs.run.Came as any

-- the word of an entry, also of one that isn't there
each-managed : (words : List ℕ) → All IsManaged words → (e : ℕ) → IsManaged (word_at words e)
each-managed words all e = go (slice_get words e) refl
  where
    go : (o : Option ℕ) → slice_get words e ≡ o → IsManaged (word_at words e)
    go (Some x) at = all e 0 (slice_get_within words e x at)
    go None at = subst IsManaged (sym (word_past words e (slice_get-past words e at))) empty_is_managed

submit-managed : (words : List ℕ) (x : ℕ) (c : SysId) → c.0 < most_systems → All IsManaged words
    → All IsManaged (submitted_words words x c)
submit-managed words x c few all =
    All-set IsManaged words x (submitted (word_at words x) c)
    (submit_keeps_managed (word_at words x) c few (each-managed words all x)) all

leave-managed : (words : List ℕ) (x : ℕ) (c : SysId) → All IsManaged words → All IsManaged (left_words words x c)
leave-managed words x c all =
    All-set IsManaged words x (left_word (word_at words x) c)
    (leave_keeps_managed (word_at words x) c (each-managed words all x)) all

-- ---- one event
acts-managed : (deck : Deck) (w : World) (c : SysId) (n : NodeState) → c.0 < most_systems → All IsManaged w.medium.words
    → (p : StarPart) (choice : Choice) (b : Result) (o : Turnout) → Acts deck w.medium c n p choice b o
    → All IsManaged o.medium.words
acts-managed deck w c n few all p choice b o (decided t a x asked to at same) = all
acts-managed deck w c n few all p choice b o (began t a x asked none) = submit-managed w.medium.words x c few all
acts-managed deck w c n few all p choice b o (sent t a x asked to at apart) = submit-managed w.medium.words x c few all
acts-managed deck w c n few all p choice b o (took mail rest at) = all
acts-managed deck w c n few all p choice b o (settled q first) = all
acts-managed deck w c n few all p choice b o (any.told e x first) = all
acts-managed deck w c n few all p choice b o (parted e to owes unknown) = all
acts-managed deck w c n few all p choice b o (left x flags free by) = leave-managed w.medium.words x c all

came-managed : (deck : Deck) (w : World) (c : SysId) (n : NodeState) → c.0 < most_systems → w.medium.star ≡ true
    → All IsManaged w.medium.words → (choice : Choice) (b : Result) (o : Turnout) → Came deck w.medium c n choice b o
    → All IsManaged o.medium.words
came-managed deck w c n few star all choice b o (any.nothing k r silent flags) = all
came-managed deck w c n few star all choice b o (informed k) = all
came-managed deck w c n few star all choice b o (went_on t may) = all
came-managed deck w c n few star all choice b o (turn flags alone unclosed here) = all
came-managed deck w c n few star all choice b o (last_turn flags alone shut here) = all
came-managed deck w c n few star all choice b o (changed ring next seen) = no_truth w.medium.star star ring
came-managed deck w c n few star all choice b o (already mode next) = all
came-managed deck w c n few star all choice b o (removes_one target ring next lives) =
    no_truth w.medium.star star ring
came-managed deck w c n few star all choice b o (removes_star target mode next lives) =
    purge_keeps_all_managed w.medium.words target all
came-managed deck w c n few star all choice b o (no_such target next gone) = all
came-managed deck w c n few star all choice b o (acted p is k r x acts) = acts-managed deck w c n few all p k r x acts

-- ---- every list of events
record AreManaged (deck : Deck) (w : World) : Type 0 where
  fits : FitsStar deck
  words : All IsManaged w.medium.words

module _ (deck : Deck) (fits : may_be_star deck ≡ true → FitsStar deck) where
  -- where a run has removed none it is as the run of the complex has it
  begun-managed : (es : List Event) (w : World) → GoodRun deck es w → w.medium.star ≡ true → AreManaged deck w
  begun-managed es w (in_ring begins ring g d) mode = no_truth w.medium.star mode ring.mode
  begun-managed es w (in_star f g told d) mode = record { fits = f; words = g.whole.roles.managed }

  next-managed : (es : List Event) (e : Event) → ((run deck es).medium.star ≡ true → AreManaged deck (run deck es))
      → (happens deck (run deck es) e).medium.star ≡ true → AreManaged deck (happens deck (run deck es) e)
  next-managed es e more mode = by_mode (run deck es).medium.star refl
    where
      w : World
      w = run deck es

      by_mode : (b : Bool) → (run deck es).medium.star ≡ b → AreManaged deck (happens deck (run deck es) e)
      by_mode true star =
          let h = more star in
          each_came deck (run deck es) e (AreManaged deck) (record { fits = h.fits; words = h.words })
          (λ n b o at alive came. record {
            fits = h.fits;
            words =
                let here = slice_get_within w.nodes e.system.0 n at in
                of_medium w e.system n o (λ m. All IsManaged m.words)
                (came-managed deck w e.system n (omega (arith, here, as_many deck es, h.fits.few)) star h.words
                e.choice b o came);
          })
      by_mode false ring =
          subst (λ (x : World). x.medium.star ≡ true → AreManaged deck x) (run-push deck es (first_world deck) e)
          (begun-managed (es ++ e ∷ []) (run deck (es ++ e ∷ []))
          (every_run deck fits (es ++ e ∷ []) (none_behind_ring deck es e ring)))
          mode

  pub words_managed : (es : List Event) → (run deck es).medium.star ≡ true → (e : ℕ)
      → IsManaged (word_at (run deck es).medium.words e)
  words_managed es star e =
      each-managed (run deck es).medium.words
      (each_run deck (λ us (w : World). w.medium.star ≡ true → AreManaged deck w)
      (begun-managed [] (first_world deck) (every_run deck fits [] refl)) next-managed es star).words
      e
