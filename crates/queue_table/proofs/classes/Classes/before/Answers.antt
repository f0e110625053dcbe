use Rattle.std.proofs.Common.{◌≡◌, List, map, take, ℕ, Some, ap, ◌∙◌}
use Rattle.std.specs.Prelude.{slice_get}
use Rattle.queue_table.specs.Classes.{ClassesView, last_place}
use Rattle.queue_table.specs.declared.classes.Link.{Link}
use Rattle.queue_table.proofs.ClassLemmas.{chained-before, index-mapped}
use Rattle.queue_table.proofs.classes.Classes.before.Goals as goal

pub returns : goal.returns
returns c =
    let classes : map (λ (l : Link). l.class) c.self.inside.links.items ≡ c.args.self.now.classes =
    ap (λ (v : ClassesView). v.classes) c.self.view_is in
    let there =
    chained-before c.self.inside.last.items (map (λ (l : Link). l.before) c.self.inside.links.items)
    (map (λ (l : Link). l.class) c.self.inside.links.items) c.args.place c.args.class c.self.invariant
    (ap (λ (l : List ℕ). slice_get l c.args.place) classes ∙ c.requires) in
    ap (λ (l : Link). l.before) c.index.ensures
    ∙ index-mapped (λ (l : Link). l.before) c.self.inside.links.items c.args.place c.index.result.now _ there
    ∙ ap (λ (l : List ℕ). last_place c.args.class (take c.args.place l)) classes
