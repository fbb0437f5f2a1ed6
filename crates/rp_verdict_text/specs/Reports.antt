-- What is printed of a policy's verdicts.
use Rattle.std.specs.Prelude.{ℕ, List, [], ◌++◌, Bool, Option, codes, if◌then◌else◌, map}
use Rattle.std.specs.Fmt.{decimal}
use Rattle.std.specs.List.{flat_map}
use Rattle.std.specs.Option.{option_map_or}
use Rattle.serde_json.specs.Data.{Data, array, member, no_members, null, number, object, string, unsigned}
use Rattle.serde_json.specs.View.{items_of}
use Rattle.serde_json.specs.Written.{compact_text}
use Rattle.rp_policy.specs.declared.judging.Judged.{Judged}
use Rattle.rp_policy.specs.declared.judging.Judged.TheVariants.{Absent, Ignored, Use, Denied}
use Rattle.rp_policy.specs.declared.judging.Kind.{Kind}
use Rattle.rp_policy.specs.declared.judging.Kind.TheVariants.{Signed, Verity, Encrypted, Unprotected}
use Rattle.rp_types.specs.Designators.{designator_name}
use Rattle.rp_verdict.specs.declared.verdict.Verdict.{Verdict}
use Rattle.rp_verdict.specs.declared.verdict.Verdicts.{Verdicts}

abbrev pub kind_name : Kind → List ℕ
kind_name Signed = codes "signed"
kind_name Verity = codes "verity"
kind_name Encrypted = codes "encrypted"
kind_name Unprotected = codes "unprotected"

-- what is said of a designator; that of a denial is never asked for
abbrev pub verdict_word : Judged → List ℕ
verdict_word Absent = codes "absent"
verdict_word Ignored = codes "ignored"
verdict_word (Use kind) = kind_name kind
verdict_word (Denied rule) = []

-- the slot of a row, or that there is none
abbrev pub slot_text : Option ℕ → List ℕ
slot_text slot = option_map_or decimal slot (codes "-")

-- the line of a designator: its name, the slot of its row, and what is said of it
unfoldable pub verdict_line : Verdict → List ℕ
verdict_line verdict =
    designator_name verdict.designator ++ codes " " ++ slot_text verdict.slot ++ codes " " ++ verdict_word verdict.judged ++ codes "\n"

-- the line of a row that is left over
unfoldable pub extra_line : ℕ → List ℕ
extra_line slot = codes "extra " ++ decimal slot ++ codes "\n"

unfoldable pub verdict_lines : Verdicts → List ℕ
verdict_lines verdicts = flat_map verdict_line verdicts.list ++ flat_map extra_line verdicts.extra

-- a number without a fraction
abbrev pub integer : ℕ → Data
integer n = number (unsigned n)

-- a designator, the slot of its row or null, and what is said of it
abbrev pub verdict_data : Verdict → Data
verdict_data verdict = object
    (member (codes "designator") (string (designator_name verdict.designator))
    (member (codes "slot") (option_map_or integer verdict.slot null)
    (member (codes "verdict") (string (verdict_word verdict.judged))
    no_members)))

abbrev pub verdicts_data : Verdicts → Data
verdicts_data verdicts = object
    (member (codes "extra") (array (items_of (map integer verdicts.extra)))
    (member (codes "verdicts") (array (items_of (map verdict_data verdicts.list)))
    no_members))

-- the object, and the line's end
unfoldable pub verdict_json : Verdicts → List ℕ
verdict_json verdicts = compact_text (verdicts_data verdicts) ++ codes "\n"

-- what is printed of verdicts: as JSON, or as text
unfoldable pub verdict_report : Bool → Verdicts → List ℕ
verdict_report json verdicts = if json then verdict_json verdicts else verdict_lines verdicts
