-- The lines of faults, and the text of all.
use Rattle.std.specs.Prelude.{ℕ, List, [], ◌∷◌, ◌++◌, flat_map, length, Option, None, Some, codes}
use Rattle.std.specs.Fmt.{decimal}
use Rattle.seam_traces.specs.declared.clashes.Clash.{Clash}
use Rattle.table_faults.specs.declared.faults.Fault.{Fault}

-- where a label clashes, against which label, and at which facet of that one; nothing where the fault is no clash
abbrev pub clash_words : Option Clash → List ℕ
clash_words None = []
clash_words (Some c) = codes " facet " ++ decimal c.facet ++ codes " against label " ++ decimal c.other ++ codes " facet " ++ decimal c.other_facet

-- a label and a rule that it fails
abbrev pub rule_words : ℕ → ℕ → List ℕ
rule_words label rule = codes "label " ++ decimal label ++ codes " rule " ++ decimal rule

-- the line of a label, a rule that it fails, and a clash where there is one, with LF
abbrev pub rule_line : ℕ → ℕ → Option Clash → List ℕ
rule_line label rule clash = rule_words label rule ++ clash_words clash ++ 10 ∷ []

-- the line of a fault
abbrev pub fault_line : Fault → List ℕ
fault_line fault = rule_line fault.label fault.rule fault.clash

-- the lines of faults, in their order
abbrev pub fault_lines : List Fault → List ℕ
fault_lines faults = flat_map fault_line faults

-- the line that says how many faults there are, with LF
abbrev pub count_line : ℕ → List ℕ
count_line count = codes "faults " ++ decimal count ++ 10 ∷ []

-- the text of faults: the line of each, in their order, and then how many there are
abbrev pub faults_text : List Fault → List ℕ
faults_text faults = fault_lines faults ++ count_line (length faults)
