-- The records of a lock entry that are merged in a test: a system's own, and those that two others sent.
use Rattle.std.specs.Prelude.{ℕ, Bool, true, false, List, [], ◌∷◌}
use Rattle.grs_base.specs.declared.resource.Ctl.{Ctl}
use Rattle.grs_base.specs.declared.resource.Ctl.TheVariants.{E, S}
use Rattle.grs_base.specs.declared.resource.Res.TheVariants.{Systems}
use Rattle.grs_wire.specs.declared.gather.PartRec.{PartRec}

-- a record of the first task of a system, of the resource of this rname
abbrev pub rec_of : ℕ → List ℕ → Ctl → ℕ → Bool → PartRec
rec_of system rname ctl rank told = record {
  res = Systems (80 ∷ []) rname;
  task = record { system = record { 0 = system }; job = 0; task = 0 };
  ctl = ctl;
  rank = rank;
  told = told;
}

abbrev pub own_recs : List PartRec
own_recs = rec_of 1 (82 ∷ []) S 4 true ∷ rec_of 1 (81 ∷ []) E 7 false ∷ []

-- in order of arrival; one of them is empty
abbrev pub sent_recs : List (List PartRec)
sent_recs =
    (rec_of 3 (81 ∷ []) E 9 false ∷ rec_of 3 (82 ∷ []) S 3 true ∷ [])
    ∷ []
    ∷ (rec_of 2 (81 ∷ []) S 2 true ∷ [])
    ∷ []
