use Rattle.std.proofs.Common.{◌<◌, ◌∙◌, List, ◌∷◌, All, Bool, length, ℕ, ap, arith, sym, subst}
use Rattle.std.proofs.lemmas.List.Elements.{All-tail}
use Rattle.grs_base.specs.declared.rnl.RnlEntry.{RnlEntry}
use Rattle.rnl_match.specs.Index.{first_place}
use Rattle.rnl_match.specs.Matches.{matches}
use Rattle.rnl_match.proofs.IndexLaws.{first_place-later}
use Rattle.rnl_match.proofs.index.first_in.Goals as goal

pub first_before-requires : goal.first_before-requires
first_before-requires g c = record {
  within = λ k d h.
      let below : All (λ p. p < length c.args.entries.now) (c.bucket.inside.first ∷ c.bucket.inside.more) =
      subst (λ (ps : List ℕ). All (λ p. p < length c.args.entries.now) ps) (sym c.bucket.view_is) c.requires.within in
      subst (λ (ps : List ℕ). All (λ p. p < length c.args.entries.now) ps) (sym c.as_slice.ensures)
      (All-tail (λ p. p < length c.args.entries.now) c.bucket.inside.first c.bucket.inside.more below) k d h;
}

pub returns-clause-first : goal.returns-clause-first
returns-clause-first g c =
    let m : RnlEntry → Bool = λ e. matches e c.args.q.now c.args.r.now in
    let below : c.bucket.inside.first < length c.args.entries.now =
    subst (λ (ps : List ℕ). All (λ p. p < length c.args.entries.now) ps) (sym c.bucket.view_is) c.requires.within 0 0
    (omega arith) in
    c.first_before.ensures.first
    ∙ ap (first_place m c.args.entries.now (length c.args.entries.now)) c.as_slice.ensures
    ∙ sym (first_place-later m c.args.entries.now (length c.args.entries.now)
    (c.bucket.inside.first ∷ c.bucket.inside.more) 0 c.index-entries-first.result (omega arith) below below
    c.index-entries-first.is cc)
    ∙ ap (first_place m c.args.entries.now (length c.args.entries.now)) c.bucket.view_is
