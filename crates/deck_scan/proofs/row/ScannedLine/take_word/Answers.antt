use Rattle.std.proofs.Common.{List, ℕ, ◌∷◌, [], sym, ap, ◌∙◌, rules}
use Rattle.std.specs.Str.{bytes_eq}
use Rattle.std.proofs.lemmas.Bool.{and_parts}
use Rattle.deck_scan.specs.Bytes.{begins}
use Rattle.deck_scan.proofs.Taking.{same_bytes}
use Rattle.deck_scan.proofs.Pieces.{takes_stray, takes_word, hexed_front, rest_is}
use Rattle.deck_scan.proofs.row.ScannedLine.take_word.Goals as goal

pub returns-then-is_empty : goal.returns-then-is_empty
returns-then-is_empty c =
    takes_stray c.args.text.now c.args.self.now c.args.b c.args.tail.now c.split_word.result.0.now
    c.split_word.result.1.now c.put.new.self c.split_word.ensures (search rules) c.requires.front c.requires.printable
    c.requires.other c.in_ok-put.ensures

pub returns-then-begins_hexed : goal.returns-then-begins_hexed
returns-then-begins_hexed c =
    let word = c.split_word.result.0.now in
    let rest = c.split_word.result.1.now in
    let k =
    and_parts (bytes_eq word (88 ∷ [])) (begins 39 rest) (sym c.begins_hexed.ensures ∙ c.if-begins_hexed.true) in
    rw (hexed_front c.args.text.now word rest c.split_word.ensures (same_bytes word (88 ∷ []) k.0) k.1
    ∙ ap (λ (t : List ℕ). 88 ∷ 39 ∷ t) (sym (rest_is 1 rest)))
    c.take_hexed.ensures

pub returns : goal.returns
returns c =
    takes_word c.args.text.now c.args.self.now c.split_word.result.0.now c.split_word.result.1.now c.put_word.new.self
    c.split_word.ensures (search rules) (sym c.begins_hexed.ensures ∙ c.if-begins_hexed.false) c.in_ok-put_word.ensures
