use Rattle.deck_scan.proofs.plain.third_word.Goals as goal

pub returns : goal.returns
returns c = (c.in-Some.rest.now, c.in-Some.ensures, c.in_ok-word.ensures)
