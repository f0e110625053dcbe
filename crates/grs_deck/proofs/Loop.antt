-- Taking lines one after the other, as a loop does.
use Rattle.std.proofs.Common.{◌≡◌, ◌<◌, Bool, true, false, List, [], ◌∷◌, length, Option, Some, Result, Ok, Err}
use Rattle.std.proofs.Common.{refl, sym, ap, subst, ◌∙◌, arith}
use Rattle.grs_base.specs.declared.fault.DeckFault.{DeckFault}
use Rattle.grs_base.specs.declared.fault.ReadError.{ReadError}
use Rattle.grs_base.specs.declared.fault.ReadError.TheVariants as errors
use Rattle.grs_base.specs.NameLists.{AreLists}
use Rattle.grs_wire.specs.Decks.{Fits}
use Rattle.deck_scan.specs.declared.token.TokenLine.{TokenLine}
use Rattle.deck_scan.specs.Gives.{Fails}
use Rattle.deck_scan.specs.Rows.{Next}
use Rattle.grs_deck.specs.declared.judge.Draft.{Draft}
use Rattle.grs_deck.specs.Reading.{judge, judge_all, TookNext}
use Rattle.grs_deck.proofs.FitsLaws.{fits_judge, lists_judge}

-- what was taken of the lines to come
pub one_next : (found : Option TokenLine) (line : TokenLine) (rest tail : List TokenLine) → found ≡ Some line
    → Next found rest tail → rest ≡ line ∷ tail
one_next found line rest tail is h = subst (λ (f : Option TokenLine). Next f rest tail) is h

pub goes_on : (d new : Draft) (rest tail : List TokenLine) (line : TokenLine) (total : Result Draft DeckFault)
    → rest ≡ line ∷ tail → judge d line ≡ Ok new → judge_all d rest ≡ total → judge_all new tail ≡ total
unfolding judge_all
goes_on d new rest tail line total is took so_far =
    let one : judge_all d (line ∷ tail) ≡ judge_all new tail = rw took refl in
    sym one ∙ (ap (judge_all d) (sym is) ∙ so_far)

pub fails : (e : ReadError) (d : Draft) (rest tail : List TokenLine) (line : TokenLine) (total : Result Draft DeckFault)
    → rest ≡ line ∷ tail → Fails e (judge d line) → judge_all d rest ≡ total → Fails e total
unfolding judge_all
fails errors.NoMemory d rest tail line total is failed so_far = tt
fails (errors.Fault f) d rest tail line total is failed so_far =
    let one : judge_all d (line ∷ tail) ≡ Err f = rw failed refl in
    sym so_far ∙ (ap (judge_all d) is ∙ one)

pub is_done : (d : Draft) (rest : List TokenLine) (total : Result Draft DeckFault) → length rest ≡ 0
    → judge_all d rest ≡ total → total ≡ Ok d
unfolding judge_all
is_done d [] total none so_far = sym so_far
is_done d (l ∷ rest) total none so_far = absurd (omega (arith, none))

-- ---- as the next line was taken

module _ (d new : Draft) (ls left : List TokenLine) (more : Bool) (taken : TookNext (Ok more) d ls new left) where
  taken_as : (b : Bool) → more ≡ b → TookNext (Ok b) d ls new left
  taken_as b is = subst (λ (x : Bool). TookNext (Ok x) d ls new left) is taken

  pub next_goes_on : (total : Result Draft DeckFault) → more ≡ true → judge_all d ls ≡ total
      → judge_all new left ≡ total
  next_goes_on total some so_far =
      let k = taken_as true some in goes_on d new ls left k.0 total k.1 k.2 so_far

  pub next_fits : more ≡ true → Fits d.deck.systems → Fits new.deck.systems
  next_fits some h = let k = taken_as true some in fits_judge d new k.0 k.2 h

  pub next_lists : more ≡ true → AreLists d.deck.lists → AreLists new.deck.lists
  next_lists some h = let k = taken_as true some in lists_judge d new k.0 k.2 h

  pub next_less : more ≡ true → length left < length ls
  next_less some = let k = taken_as true some in let long = ap length k.1 in omega (arith, long)

  pub next_done : (total : Result Draft DeckFault) → more ≡ false → judge_all d ls ≡ total → total ≡ Ok new
  next_done total none so_far =
      let k = taken_as false none in
      is_done d ls total (ap length k.0) so_far ∙ ap (λ (x : Draft). ok x) (sym k.1)
    where
      ok : Draft → Result Draft DeckFault
      ok x = Ok x

pub next_fails : (e : ReadError) (d new : Draft) (ls left : List TokenLine) (total : Result Draft DeckFault)
    → TookNext (Err e) d ls new left → judge_all d ls ≡ total → Fails e total
next_fails e d new ls left total failed so_far = subst (Fails e) so_far failed
