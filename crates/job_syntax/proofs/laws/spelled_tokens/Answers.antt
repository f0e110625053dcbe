use Rattle.std.proofs.Common.{◌≡◌, List, Some}
use Rattle.deck_scan.specs.declared.token.Token.{Token}
use Rattle.job_syntax.specs.declared.line_ask.LineAsk.{LineAsk}
use Rattle.job_syntax.specs.declared.line_ask.LineWord.{LineWord}
use Rattle.job_syntax.specs.LineAsk.{line_ask_at}
use Rattle.job_syntax.specs.Spelled.{IsBehind, line_word_for}
use Rattle.job_syntax.proofs.Taken.{line_ask_taken, line_word_taken}
use Rattle.job_syntax.proofs.Again.{line_ask_again, line_word_again}
use Rattle.job_syntax.proofs.laws.spelled_tokens.Goals as goal

behind : (v : LineWord) (ts : List Token) (s : LineAsk) → line_ask_at v ts ≡ Some s
    → (line_word_for s ≡ v) × IsBehind ts s
behind v ts s h = let b = line_ask_taken v ts s h in (b.of, b.behind)

pub returns-clause-word : goal.returns-clause-word
returns-clause-word c = line_word_taken

pub returns-clause-every_word : goal.returns-clause-every_word
returns-clause-every_word c w v = line_word_again v w

pub returns-clause-behind : goal.returns-clause-behind
returns-clause-behind c = behind

pub returns-clause-every_behind : goal.returns-clause-every_behind
returns-clause-every_behind c = line_ask_again
