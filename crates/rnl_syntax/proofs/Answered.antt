-- What is answered of the tokens behind the word RNLDEF.
use Rattle.std.proofs.Common.{◌≡◌, List, Some, None, Result, Ok, Err, sym, ◌∙◌}
use Rattle.deck_scan.specs.declared.token.Token.{Token}
use Rattle.deck_scan.specs.declared.miss.Miss.{Miss}
use Rattle.deck_scan.specs.Next.{Reads}
use Rattle.rnl_syntax.specs.declared.operands.Rnldef.{Rnldef}
use Rattle.rnl_syntax.specs.Operands.{rnldef_at}
use Rattle.rnl_syntax.specs.Spelled.{Answers}
use Rattle.rnl_syntax.proofs.Taken.{rnldef_taken}
use Rattle.rnl_syntax.proofs.Again.{rnldef_again}

pub rnldef_answers : (r : Result Rnldef Miss) (ts : List Token) → Reads (λ (x : Rnldef). x) r (rnldef_at ts)
    → Answers r ts
rnldef_answers (Ok d) ts h = rnldef_taken ts d h
rnldef_answers (Err e) ts h = λ d spelled. none d (rnldef_again ts d spelled)
  where
    none : (d : Rnldef) → rnldef_at ts ≡ Some d → ⊥
    none d again = let k : None ≡ Some d = sym h ∙ again in cc
