-- The tables of notes: what is told of each fault, kind of name and rule.
use Rattle.std.specs.Prelude.{ℕ, List, ◌++◌, codes, decimal}
use Rattle.fac_parse.specs.declared.reader.Why.{Why}
use Rattle.fac_parse.specs.declared.reader.Why.TheVariants as why
use Rattle.fac_source.specs.declared.refusal.NameKind.{NameKind}
use Rattle.fac_source.specs.declared.refusal.NameKind.TheVariants as kind
use Rattle.fac_abs.specs.declared.rule.Rule.{Rule}
use Rattle.fac_abs.specs.declared.rule.Rule.TheVariants as rule
use Rattle.fac_notes.specs.declared.report.ByteFault.{ByteFault}
use Rattle.fac_notes.specs.declared.report.ByteFault.TheVariants as byte

abbrev pub byte_text : ByteFault → List ℕ
byte_text byte.NotUtf8 = codes "not UTF-8"
byte_text byte.OpenString = codes "open string"
byte_text byte.BadEscape = codes "bad escape"
byte_text byte.StuckQuote = codes "stuck quote"

abbrev pub why_text : Why → List ℕ
why_text why.End = codes "end of the file"
why_text why.Other = codes "not expected"

abbrev pub kind_text : NameKind → List ℕ
kind_text kind.Unknown = codes "unknown"
kind_text (kind.Ambiguous first second) = codes "ambiguous"
kind_text kind.Twice = codes "twice"
kind_text kind.NoVocab = codes "no-vocabulary"
kind_text kind.NotClass = codes "not-a-class"
kind_text kind.NotGeneric = codes "not-a-generic"
kind_text kind.BadParent = codes "bad-parent"
kind_text kind.Cycle = codes "cycle"
kind_text kind.TooMany = codes "too-many"
kind_text kind.Undefined = codes "undefined"

-- numbers, each behind a text
abbrev pub one_number : List ℕ → ℕ → List ℕ
one_number first k = first ++ decimal k

abbrev pub two_numbers : List ℕ → ℕ → List ℕ → ℕ → List ℕ
two_numbers first k second m = one_number first k ++ one_number second m

abbrev pub three_numbers : List ℕ → ℕ → List ℕ → ℕ → List ℕ → ℕ → List ℕ
three_numbers first k second m third n = one_number first k ++ two_numbers second m third n

-- a rule with its numbers
abbrev pub rule_text : Rule → List ℕ
rule_text (rule.Underflow needs has) = two_numbers (codes "underflow, needs ") needs (codes ", has ") has
rule_text rule.NotKnown = codes "not-known"
rule_text rule.NotAClass = codes "not-a-class"
rule_text (rule.Branches first second) = two_numbers (codes "branches, ") first (codes " and ") second
rule_text (rule.RecursiveInput input) = one_number (codes "recursive-input, input ") input
rule_text (rule.Rows input expected found) = three_numbers (codes "rows, input ") input (codes ", expected ") expected (codes ", found ") found
rule_text rule.UndeclaredRecursion = codes "undeclared-recursion"
rule_text rule.RowDeclaration = codes "row-declaration"
rule_text rule.MethodEffect = codes "method-effect"
rule_text rule.TooDeep = codes "too-deep"
rule_text rule.TooLarge = codes "too-large"
rule_text (rule.Outputs declared found) = two_numbers (codes "outputs, declared ") declared (codes ", found ") found
rule_text rule.MustReturn = codes "must-return"
