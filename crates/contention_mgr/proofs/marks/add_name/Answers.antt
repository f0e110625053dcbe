use Rattle.std.proofs.Common.{◌∙◌, ap, Bool}
use Rattle.grs_base.specs.Same.{same_res}
use Rattle.grs_base.specs.declared.resource.Res.{Res}
use Rattle.grs_base.proofs.SameLaws.{derived_eq-same}
use Rattle.indexmap.specs.IndexMap.{insert_entry}
use Rattle.indexmap.proofs.CallerLemmas.{insert_entry-new}
use Rattle.queue_table.proofs.NameLemmas.{when_ok}
use Rattle.contention_mgr.proofs.marks.add_name.Goals as goal

pub returns : goal.returns
returns c = when_ok c.insert.result _ (c.insert.ensures.succeeds c.requires.room) c.insert.ensures.entries
    ∙ ap (λ (f : Res → Res → Bool). insert_entry f c.args.names.now.entries c.args.res c.args.number) derived_eq-same
    ∙ insert_entry-new same_res c.args.names.now c.args.res c.args.number c.requires.absent
