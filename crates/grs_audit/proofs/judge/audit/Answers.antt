use Rattle.std.proofs.Common.{arith}
use Rattle.grs_audit.specs.Lines.{lines_in}
use Rattle.grs_audit.proofs.VerdictLaws.{rest-few, off-within, verdict-no, verdict-yes, verdict-nowhere}
use Rattle.grs_audit.proofs.judge.audit.Goals as goal

pub find_head-requires : goal.find_head-requires
find_head-requires c = let few = c.requires.few in omega (arith, few)

pub walk-requires-clause-few : goal.walk-requires-clause-few
walk-requires-clause-few c =
    let all = c.requires.few in
    let few =
    rest-few c.args.deck.now (lines_in c.args.text.now) c.args.first c.in-At.place c.in-At.count c.in-At.rest
    c.in-At.ensures in
    omega (arith, all, few)

pub overflow_add-result : goal.overflow_add-result
overflow_add-result c =
    let all = c.requires.few in
    let within =
    off-within c.args.deck.now (lines_in c.args.text.now) c.args.first c.in-At.place c.in-At.count c.in-At.rest
    c.in-At.ensures c.in-Some.lines c.in-Some.is c.in_ok-lines-in-At.ensures in
    omega (arith, all, within)

pub overflow_add-result-in-Some : goal.overflow_add-result-in-Some
overflow_add-result-in-Some c =
    let all = c.requires.few in
    let within =
    off-within c.args.deck.now (lines_in c.args.text.now) c.args.first c.in-At.place c.in-At.count c.in-At.rest
    c.in-At.ensures c.in-Some.lines c.in-Some.is c.in_ok-lines-in-At.ensures in
    omega (arith, all, within)

pub overflow_cast-result : goal.overflow_cast-result
overflow_cast-result c =
    let all = c.requires.few in
    let within =
    off-within c.args.deck.now (lines_in c.args.text.now) c.args.first c.in-At.place c.in-At.count c.in-At.rest
    c.in-At.ensures c.in-Some.lines c.in-Some.is c.in_ok-lines-in-At.ensures in
    omega (arith, all, within)

pub overflow_add-result-in-Some-2 : goal.overflow_add-result-in-Some-2
overflow_add-result-in-Some-2 c =
    let all = c.requires.few in
    let within =
    off-within c.args.deck.now (lines_in c.args.text.now) c.args.first c.in-At.place c.in-At.count c.in-At.rest
    c.in-At.ensures c.in-Some.lines c.in-Some.is c.in_ok-lines-in-At.ensures in
    omega (arith, all, within)

pub returns-in-Some : goal.returns-in-Some
returns-in-Some c =
    verdict-no c.args.deck.now (lines_in c.args.text.now) c.args.first c.in-At.place c.in-At.count c.in-At.rest
    c.in-At.ensures c.in-Some.lines c.in-Some.is c.in_ok-lines-in-At.ensures

pub returns-in-None : goal.returns-in-None
returns-in-None c =
    verdict-yes c.args.deck.now (lines_in c.args.text.now) c.args.first c.in-At.place c.in-At.count c.in-At.rest
    c.in-At.ensures c.in-None.is c.in_ok-lines-in-At.ensures

pub overflow_cast-result-in-Nowhere : goal.overflow_cast-result-in-Nowhere
overflow_cast-result-in-Nowhere c =
    let all = c.requires.few in let lines = c.in-Nowhere.ensures.1 in omega (arith, all, lines)

pub overflow_add-result-in-Nowhere : goal.overflow_add-result-in-Nowhere
overflow_add-result-in-Nowhere c =
    let all = c.requires.few in let lines = c.in-Nowhere.ensures.1 in omega (arith, all, lines)

pub returns-in-Nowhere : goal.returns-in-Nowhere
returns-in-Nowhere c =
    verdict-nowhere c.args.deck.now (lines_in c.args.text.now) c.args.first c.in-Nowhere.lines c.in-Nowhere.ensures
