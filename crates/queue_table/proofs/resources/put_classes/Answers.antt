use Rattle.std.proofs.Common.{List, ℕ, [], ◌∷◌, ◌++◌, ◌∙◌, ap, sym, arith, map, take}
use Rattle.queue_table.specs.Classes.{class_of}
use Rattle.queue_table.proofs.ClassLemmas.{classes_of, classes-more}
use Rattle.queue_table.proofs.resources.put_classes.Goals as goal

pub loop-i-preserved : goal.loop-i-preserved
loop-i-preserved c =
    let es = c.args.numbers.now.entries in
    record {
      classes =
          c.push.ensures.classes
          ∙ ap (λ (l : List ℕ). l ++ c.class_of.result ∷ []) c.loop-i.invariant.classes
          ∙ ap (λ (n : ℕ). classes_of (take c.loop-i.i es) ++ n ∷ []) c.class_of.ensures.class
          ∙ sym (classes-more es c.loop-i.i (c.in-Some.res.now, c.in-Some.field-0-1.now) (sym c.in-Some.ensures.entry));
      room = omega (arith, c.push.ensures.room, c.loop-i.invariant.room);
    }
