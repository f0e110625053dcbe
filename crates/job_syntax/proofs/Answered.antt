-- What is answered of the tokens behind a first word.
use Rattle.std.proofs.Common.{◌≡◌, List, Some, None, Result, Ok, Err, sym, ap, ◌∙◌}
use Rattle.deck_scan.specs.declared.token.Token.{Token}
use Rattle.deck_scan.specs.declared.miss.Miss.{Miss}
use Rattle.deck_scan.specs.Next.{Reads}
use Rattle.job_syntax.specs.declared.line_ask.LineAsk.{LineAsk}
use Rattle.job_syntax.specs.declared.line_ask.LineWord.{LineWord}
use Rattle.job_syntax.specs.LineAsk.{line_ask_at}
use Rattle.job_syntax.specs.Spelled.{line_word_for, Answers}
use Rattle.job_syntax.proofs.Taken.{line_ask_taken}
use Rattle.job_syntax.proofs.Again.{line_ask_again}

pub behind_answers : (r : Result LineAsk Miss) (v : LineWord) (ts : List Token)
    → Reads (λ (x : LineAsk). x) r (line_ask_at v ts) → Answers r v ts
behind_answers (Ok s) v ts h = let b = line_ask_taken v ts s h in (b.of, b.behind)
behind_answers (Err e) v ts h = λ s of spelled. none s of (line_ask_again ts s spelled)
  where
    none : (s : LineAsk) → line_word_for s ≡ v → line_ask_at (line_word_for s) ts ≡ Some s → ⊥
    none s of again = let k : None ≡ Some s = sym h ∙ ap (λ (x : LineWord). line_ask_at x ts) (sym of) ∙ again in cc
