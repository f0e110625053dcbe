-- How the line of a task is printed: one blank behind its first word and no other outside names; UCB first,
-- then RET, left out for NONE, or ECB, then RNL=NO where the name lists are not looked at.
use Rattle.std.specs.Prelude.{ℕ, Bool, true, false, List, [], ◌++◌, codes, Option, Some, None}
use Rattle.std.specs.List.{flat_map}
use Rattle.grs_base.specs.Printed.{ctl_word, unit_digits, printed_name}
use Rattle.grs_base.specs.declared.line.Scope.{Scope}
use Rattle.grs_base.specs.declared.resource.Ctl.{Ctl}
use Rattle.grs_base.specs.declared.resource.Ret.{Ret}
use Rattle.grs_base.specs.declared.resource.Ret.TheVariants.{RetNone, RetUse, RetHave, RetTest, RetChng, RetEcb}
use Rattle.grs_base.specs.declared.look.Filter.{Filter}
use Rattle.grs_base.specs.declared.look.Filter.TheVariants as filters
use Rattle.grs_base.specs.declared.line.Item.{Item}
use Rattle.grs_base.specs.declared.line.Line.{Line}
use Rattle.grs_base.specs.declared.line.Line.TheVariants as lines
use Rattle.job_syntax.specs.Spelled.{scope_word, reach_word}

abbrev pub printed_names : List ℕ → List ℕ → List ℕ
printed_names q r = printed_name q ++ codes "," ++ printed_name r

abbrev pub printed_ret : Ret → List ℕ
printed_ret RetNone = []
printed_ret RetUse = codes ",RET=USE"
printed_ret RetHave = codes ",RET=HAVE"
printed_ret RetTest = codes ",RET=TEST"
printed_ret RetChng = codes ",RET=CHNG"
printed_ret RetEcb = codes ",ECB"

abbrev pub printed_have : Bool → List ℕ
printed_have true = codes ",RET=HAVE"
printed_have false = []

abbrev pub printed_rnl : Bool → List ℕ
printed_rnl true = []
printed_rnl false = codes ",RNL=NO"

abbrev pub maybe_unit : Option ℕ → List ℕ
maybe_unit None = []
maybe_unit (Some n) = codes ",UCB=" ++ unit_digits n

abbrev pub printed_item : Item → List ℕ
printed_item i =
    codes "(" ++ printed_names i.q i.r ++ codes "," ++ ctl_word i.ctl ++ codes "," ++ scope_word i.scope ++ codes ")"

abbrev pub printed_q : Option (List ℕ) → List ℕ
printed_q None = []
printed_q (Some q) = codes ",QNAME=" ++ printed_name q

abbrev pub printed_r : Option (List ℕ) → List ℕ
printed_r None = []
printed_r (Some r) = codes ",RNAME=" ++ printed_name r

abbrev pub printed_filter : Filter → List ℕ
printed_filter filters.All = []
printed_filter filters.Contended = []
printed_filter (filters.Named q r) = printed_q q ++ printed_r r

abbrev pub printed_enq : List Item → Ret → Bool → List ℕ
printed_enq items ret rnl = codes "ENQ " ++ flat_map printed_item items ++ printed_ret ret ++ printed_rnl rnl

-- A RESERVE up to its unit.
abbrev pub printed_reserve : List ℕ → List ℕ → Ctl → List ℕ
printed_reserve q r ctl = codes "RESERVE (" ++ printed_names q r ++ codes "," ++ ctl_word ctl ++ codes ",SYSTEMS),UCB="

-- The word and the parentheses of a DEQ or a WAIT.
abbrev pub printed_place : List ℕ → List ℕ → List ℕ → Scope → List ℕ
printed_place word q r scope = word ++ codes " (" ++ printed_names q r ++ codes "," ++ scope_word scope ++ codes ")"

abbrev pub printed_gqscan : Bool → Filter → List ℕ
printed_gqscan global filter = codes "GQSCAN SCOPE=" ++ reach_word global ++ printed_filter filter

abbrev pub printed_resource : List ℕ → List ℕ → List ℕ
printed_resource q r = codes "DISPLAY GRS,RES=(" ++ printed_names q r ++ codes ")"

abbrev pub printed_line : Line → List ℕ
printed_line (lines.Enq items ret rnl) = printed_enq items ret rnl
printed_line (lines.Reserve q r ctl unit ret rnl) =
    printed_reserve q r ctl ++ unit_digits unit ++ printed_ret ret ++ printed_rnl rnl
printed_line (lines.Deq q r scope have unit rnl) =
    printed_place (codes "DEQ") q r scope ++ maybe_unit unit ++ printed_have have ++ printed_rnl rnl
printed_line (lines.Wait q r scope rnl) = printed_place (codes "WAIT") q r scope ++ printed_rnl rnl
printed_line (lines.Gqscan global filter) = printed_gqscan global filter
printed_line lines.DisplayC = codes "DISPLAY GRS,C"
printed_line (lines.DisplayRes q r) = printed_resource q r
